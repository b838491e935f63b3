-- For each call that changes a heap: if the objects, words, tables and counts that it leaves fit each other (`Becomes`), the heap is valid (`IsValid`), has
-- these objects and this job, and has the settings and the quantum of before.
use Rattle.std.proofs.Common.{◌≡◌, ℕ, ◌<◌, ◌≤◌, length, get_or, Some, arith, sym, ◌∙◌, ap, subst}
use Rattle.std.specs.FinMap.{get}
use Rattle.page_model.specs.Arrangement.{live, pages_needed}
use Rattle.page_model.specs.Bytes.{AreBytes, AreStorable}
use Rattle.page_model.specs.Figures.{asked_bytes, taken_bytes}
use Rattle.page_model.specs.Held.{Placed, objects, places}
use Rattle.page_model.specs.Paging.{classes}
use Rattle.page_slots.specs.Occupying.{Occupies, FitPages}
use Rattle.proxy_table.specs.Proxies.{AreBelowLimit}
use Rattle.slice_model.specs.State.{Sliced, IsKept, occupied}
use Rattle.slice_model.specs.Words.{HasWords}
use Rattle.sliced_heap.specs.Heap.{Heap}
use Rattle.sliced_heap.specs.Layout.{IsValid, plan_of, sliced_paging, sliced_state_of, sliced_tables_in}
use Rattle.sliced_heap.proofs.Facts.{plan_ok}
use Rattle.sliced_heap.proofs.HeldFromWords.{held_shown}

-- heap h becomes heap n, whose words, tables and counts are those of the state s; what no call changes is as in h
pub record Becomes (h n : Heap) (s : Sliced) : Type 0 where
  pub settings : n.settings ≡ h.settings
  pub quantum : n.quantum ≡ h.quantum
  pub table : n.classes ≡ h.classes
  pub job : n.job ≡ s.job
  pub long : length n.words ≡ length h.words
  pub kept : IsKept (plan_of h) s
  pub words : HasWords (sliced_paging h) s n.words
  pub bytes : (q : ℕ) (x : Placed) → get s.held q ≡ Some x → AreBytes x.bytes
  pub addresses : n.proxies.places ≡ places s.held
  pub limit : n.proxies.limit ≡ h.proxies.limit
  pub handles : AreBelowLimit n.proxies
  pub serve : FitPages (sliced_paging h) (sliced_tables_in n)
  pub occupied : Occupies (sliced_paging h) (occupied (plan_of h) s) (sliced_tables_in n)
  pub live_long : length n.live ≡ 128
  pub counted : (c : ℕ) → c < classes (sliced_paging h) → get_or n.live c 0 ≡ live (sliced_paging h) (objects s.held) c
  pub needed : n.needed ≡ pages_needed (sliced_paging h) (objects s.held)
  pub within : n.needed ≤ h.settings.pages
  pub asked : n.asked ≡ asked_bytes (objects s.held)
  pub taken : n.taken ≡ taken_bytes (sliced_paging h) (objects s.held)

-- heap n with the job of the state s; the settings, the quantum and the classes are those of heap h
abbrev with_rest : Heap → Heap → Sliced → Heap
with_rest h n s = record n { settings = h.settings; quantum = h.quantum; classes = h.classes; job = s.job }

module _ (h n : Heap) (k : IsValid h) (s : Sliced) (b : Becomes h n s) where
  is_rest : n ≡ with_rest h n s
  is_rest =
      ap (λ x. record n { settings = x }) b.settings
      ∙ ap (λ x. record n { settings = h.settings; quantum = x }) b.quantum
      ∙ ap (λ x. record n { settings = h.settings; quantum = h.quantum; classes = x }) b.table
      ∙ ap (λ x. record n { settings = h.settings; quantum = h.quantum; classes = h.classes; job = x }) b.job

  good : AreStorable s.held
  good q x there = (let lt = b.kept.numbers q x there in let few = h.settings.few_proxies in omega arith, b.bytes q x there)

  state_is : sliced_state_of (with_rest h n s) ≡ s
  state_is = ap (λ m. record { held = m; job = s.job })
      (held_shown (plan_of h) (plan_ok h k) s.held s.job b.kept n.proxies.places b.addresses n.words (b.long ∙ k.words_long) b.words good)

  rest_valid : IsValid (with_rest h n s)
  rest_valid = record {
    table = k.table;
    quantum = k.quantum;
    words_long = b.long ∙ k.words_long;
    kept = subst (IsKept (plan_of h)) (sym state_is) b.kept;
    words = subst (λ z. HasWords (sliced_paging h) z n.words) (sym state_is) b.words;
    serve = b.serve;
    occupied = subst (λ z. Occupies (sliced_paging h) (occupied (plan_of h) z) (sliced_tables_in n)) (sym state_is) b.occupied;
    numbers = b.limit ∙ k.numbers;
    handles = b.handles;
    live_long = b.live_long;
    counted = λ c lt. b.counted c lt ∙ ap (λ (z : Sliced). live (sliced_paging h) (objects z.held) c) (sym state_is);
    needed = b.needed ∙ ap (λ (z : Sliced). pages_needed (sliced_paging h) (objects z.held)) (sym state_is);
    within = b.within;
    asked_all = b.asked ∙ ap (λ (z : Sliced). asked_bytes (objects z.held)) (sym state_is);
    taken_all = b.taken ∙ ap (λ (z : Sliced). taken_bytes (sliced_paging h) (objects z.held)) (sym state_is);
  }

  pub becomes_valid : IsValid n
  becomes_valid = subst IsValid (sym is_rest) rest_valid

  pub becomes_state : sliced_state_of n ≡ s
  becomes_state = ap sliced_state_of is_rest ∙ state_is

  pub becomes_plan : plan_of n ≡ plan_of h
  becomes_plan = ap plan_of is_rest
