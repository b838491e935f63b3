-- For clause `counts` of `load` and of the functions that read entries: a load changes the counters of its session as its mallocs do, and as the free of an
-- object that could not be read whole.
use Rattle.std.proofs.Common.{◌≡◌, ◌∙◌, ◌+◌, ◌*◌, ℕ, Bool, true, false, ap, refl, sym, inl, inr}
use Rattle.std.specs.Prelude.{Result, Ok, Err, nat_lt}
use Rattle.std.specs.FinMap.{len}
use Rattle.id_table.specs.Sessions.{RunState, SessionState, counted}
use Rattle.heap_image.specs.Counts.{CountsFree, CountsLoad, CountsStop, after_mallocs}
use Rattle.heap_image.specs.Heaps.{live_objects}
use Rattle.heap_image.specs.declared.fault.LoadFault.{LoadFault}

pub counts_nothing : (s : SessionState) → CountsStop s s
counts_nothing s = inl (false, refl)

-- mallocs after mallocs change a session as mallocs do
pub mallocs_then : (old mid new : SessionState) (some : Bool) → mid ≡ after_mallocs old some mid.ids → new ≡ after_mallocs mid true new.ids
    → new ≡ after_mallocs old true new.ids
mallocs_then old mid new some first next = next ∙ ap (λ (m : SessionState). after_mallocs m true new.ids) first

-- mallocs and then a free change a session as `CountsFree` says
pub free_then : (old mid new : SessionState) (some : Bool) → mid ≡ after_mallocs old some mid.ids → CountsFree mid new → CountsFree old new
free_then old mid new some first f = record {
  freed = f.freed;
  counts = f.counts
      ∙ ap (λ (m : SessionState). counted (record m { ids = new.ids; bound = 96 + 2 * f.freed.slot_words }) f.freed.moved f.freed.slot_words) first;
}

-- mallocs and then a stop change a session as `CountsStop` says
pub stop_then : (old mid new : SessionState) (some : Bool) → mid ≡ after_mallocs old some mid.ids → CountsStop mid new → CountsStop old new
stop_then old mid new some first (inl (true, next)) = inl (true, next ∙ ap (λ (m : SessionState). after_mallocs m true new.ids) first)
stop_then old mid new some first (inl (false, next)) = inl (some, next ∙ ap (λ (m : SessionState). after_mallocs m false new.ids) first)
stop_then old mid new some first (inr f) = inr (free_then old mid new some first f)

-- after all n entries the end of the load counts nothing, whether it was read or not
pub all_counted : (old : SessionState) (s : RunState) (n : ℕ) (r : Result Unit LoadFault) → s.session ≡ after_mallocs old (nat_lt 0 n) s.session.ids
    → len (live_objects s) ≡ n → CountsLoad old r s
all_counted old s n (Ok u) counts same = counts ∙ ap (λ k. after_mallocs old (nat_lt 0 k) s.session.ids) (sym same)
all_counted old s n (Err f) counts same = inl (nat_lt 0 n, counts)
