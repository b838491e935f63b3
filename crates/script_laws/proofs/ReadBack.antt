-- For `reads_give_what_was_written`: over a run on one manager, reads print the bytes that follow from the lines before them and their replies.
use Rattle.std.proofs.Common.{◌≡◌, ◌⊎◌, ℕ, false, List, Option, Some, None, Result, Ok, Err, sym, ◌∙◌, ap, refl, inl, inr, codes, option_map}
use Rattle.run_model.specs.Terms.{AccessFault, Bound, Command, Free, get, Handle, HeapState, IsGoing, Item, Kind, Malloc, objects, Placed, Read, Refusal, Reply, Resize, Resized, ResizeFault, RunState, said, SessionState, with_bound, Write}
use Rattle.cf_base.specs.declared.results.AccessFault.TheVariants as access
use Rattle.cf_base.specs.declared.results.Refusal.TheVariants as refusal
use Rattle.cf_base.specs.declared.results.ResizeFault.TheVariants as resize
use Rattle.cf_base.proofs.MapValues.{get-map_values, map_values-insert}
use Rattle.page_model.proofs.CallerLemmas.{malloc_objects, bytes_held, bytes_missing}
use Rattle.cf_model.specs.Steps.{IsMallocStep, IsResizeStep, IsWriteStep}
use Rattle.run_model.specs.Replies.{malloc_text, object_of, read_text, resize_text, write_text}
use Rattle.run_model.specs.Runs.{BeginsOne, Run, IsCommandStep}
use Rattle.run_model.specs.Steps.{Step, class_to_bound, ids_given}
use Rattle.run_model.proofs.CallerLemmas.{FreesAt, MallocsAt, ResizesAt, WritesAt, begins_going, step_going}
use Rattle.run_model.proofs.CallerLemmas.{counted_ids, names_of_objects, resized_ids, unmoved_held}
use Rattle.script_laws.specs.IdBytes.{AreReadsOf, is_ok, read_shown}
use Rattle.script_laws.proofs.NamedTurns.{Adds, Named, NamedTurn, NamesObjects, Refuses, bytes_named, any_reads_are_shown, same_named, through}

-- a read prints the bytes of the object
pub read_same : (o : Option Placed) (at count : ℕ) → read_text o at count ≡ read_shown (option_map (λ (x : Placed). x.bytes) o) at count
read_same None at count = refl
read_same (Some x) at count = refl

-- the ids and the objects of a run
abbrev named : RunState → Named
named s = record { ids = s.session.ids; objects = objects s.heap.held }

module _ (old new : RunState) where
  refuses : (text : List ℕ) (reply : Reply) → is_ok (said text) ≡ false → reply ≡ said text → new.session.ids ≡ old.session.ids
      → new.heap.held ≡ old.heap.held → Refuses (named old) reply (named new)
  refuses text reply fails is e f = record { shown = ap is_ok is ∙ fails; same = record { ids = e; objects = ap objects f } }

  stays : (text : List ℕ) (reply : Reply) → is_ok (said text) ≡ false → reply ≡ said text → new ≡ old → Refuses (named old) reply (named new)
  stays text reply fails is e = record { shown = ap is_ok is ∙ fails; same = same_named named e }

  malloc_turn : (id n : ℕ) (answer : Result Handle Refusal) (reply : Reply) → get old.session.ids id ≡ None → IsMallocStep old.heap n answer new.heap
      → new.session.ids ≡ ids_given old.session.ids id answer → reply ≡ said (malloc_text answer)
      → Adds (named old) id n reply (named new) ⊎ Refuses (named old) reply (named new)
  malloc_turn id n (Ok h) reply free step e is = inl (record {
    handle = h.0;
    shown = ap is_ok is;
    free = free;
    unused = bytes_missing old.heap.held h.0 step.unused;
    ids = e;
    objects = ap (λ (s : HeapState). objects s.held) step.whole ∙ malloc_objects old.heap.held h.0 step.place n;
  })
  malloc_turn id n (Err refusal.Size) reply free step e is = inr (refuses (codes "refused size") reply refl is e (ap (λ (s : HeapState). s.held) step.1))
  malloc_turn id n (Err refusal.Proxy) reply free step e is = inr (refuses (codes "refused proxy") reply refl is e (ap (λ (s : HeapState). s.held) step.1))
  malloc_turn id n (Err refusal.Space) reply free step e is = inr (refuses (codes "refused space") reply refl is e (ap (λ (s : HeapState). s.held) step.1))

  malloc_at : (o : Option ℕ) (id n : ℕ) (reply : Reply) → get old.session.ids id ≡ o → MallocsAt o old (record { number = id; length = n }) reply new
      → NamedTurn (named old) (Malloc id n) reply (named new)
  malloc_at (Some h) id n reply some step = inr (stays (codes "live") reply refl step.0 step.1)
  malloc_at None id n reply free step = malloc_turn id n step.answer reply free step.step (ap (λ (s : SessionState). s.ids) step.session) step.reply_is

  free_at : (o : Option ℕ) (id : ℕ) (reply : Reply) → get old.session.ids id ≡ o → FreesAt o old id reply new
      → NamedTurn (named old) (Free id) reply (named new)
  free_at None id reply some step = inr (stays (codes "unknown") reply refl step.0 step.1)
  free_at (Some h) id reply some step = inl (record {
    handle = h;
    shown = ap is_ok step.reply_is;
    live = some;
    ids = ap (λ (s : SessionState). s.ids) step.session ∙ counted_ids _ step.freed.moved _;
    objects = step.step.left;
  })

  write_turn : (id h at : ℕ) (bytes : List ℕ) (answer : Result Unit AccessFault) (reply : Reply) → get old.session.ids id ≡ Some h
      → IsWriteStep old.heap (record { number = h; from = at }) bytes answer new.heap → new.session ≡ old.session → reply ≡ said (write_text answer)
      → NamedTurn (named old) (Write id at bytes) reply (named new)
  write_turn id h at bytes (Ok u) reply some step e is = inl (record {
    handle = h;
    bytes = step.object.bytes;
    shown = ap is_ok is;
    live = some;
    found = bytes_held old.heap.held h step.object step.found;
    ids = ap (λ (s : SessionState). s.ids) e;
    objects = ap (λ (s : HeapState). objects s.held) step.whole ∙ map_values-insert (λ (x : Placed). x.bytes) old.heap.held h _;
  })
  write_turn id h at bytes (Err access.Unknown) reply some step e is =
      inr (refuses (codes "unknown") reply refl is (ap (λ (s : SessionState). s.ids) e) (ap (λ (s : HeapState). s.held) step.1))
  write_turn id h at bytes (Err access.Range) reply some step e is =
      inr (refuses (codes "range") reply refl is (ap (λ (s : SessionState). s.ids) e) (ap (λ (s : HeapState). s.held) step.1))

  write_at : (o : Option ℕ) (id at : ℕ) (bytes : List ℕ) (reply : Reply) → get old.session.ids id ≡ o → WritesAt o old at bytes reply new
      → NamedTurn (named old) (Write id at bytes) reply (named new)
  write_at None id at bytes reply some step = inr (stays (codes "unknown") reply refl step.0 step.1)
  write_at (Some h) id at bytes reply some step = write_turn id h at bytes step.answer reply some step.step step.session step.reply_is

  resize_turn : (id h n : ℕ) (answer : Result Resized ResizeFault) (reply : Reply) → get old.session.ids id ≡ Some h
      → IsResizeStep old.heap (record { number = h; length = n }) answer new.heap → new.session.ids ≡ old.session.ids → reply ≡ said (resize_text answer)
      → NamedTurn (named old) (Resize id n) reply (named new)
  resize_turn id h n (Ok done) reply some step e is = inl (record {
    handle = h;
    bytes = step.object.bytes;
    shown = ap is_ok is;
    live = some;
    found = bytes_held old.heap.held h step.object step.found;
    ids = e;
    objects = step.left;
  })
  resize_turn id h n (Err resize.Unknown) reply some step e is =
      inr (refuses (codes "unknown") reply refl is e (unmoved_held old.heap.kind old.heap new.heap step.1))
  resize_turn id h n (Err resize.Kind) reply some step e is =
      inr (refuses (codes "none") reply refl is e (unmoved_held old.heap.kind old.heap new.heap step.1))
  resize_turn id h n (Err resize.Size) reply some step e is =
      inr (refuses (codes "refused size") reply refl is e (unmoved_held old.heap.kind old.heap new.heap step.1))
  resize_turn id h n (Err resize.Space) reply some step e is =
      inr (refuses (codes "refused space") reply refl is e (unmoved_held old.heap.kind old.heap new.heap step.1))

  resize_at : (o : Option ℕ) (id n : ℕ) (reply : Reply) → get old.session.ids id ≡ o → ResizesAt o old n reply new
      → NamedTurn (named old) (Resize id n) reply (named new)
  resize_at None id n reply some step = inr (stays (codes "unknown") reply refl step.0 step.1)
  resize_at (Some h) id n reply some step = resize_turn id h n step.answer reply some step.step
      (ap (λ (s : SessionState). s.ids) step.session ∙ resized_ids _ step.answer) step.reply_is

  bound_held : (c : Option ℕ) (k : ℕ) → new.heap ≡ with_bound old.heap c k → new.heap.held ≡ old.heap.held
  bound_held None k is = ap (λ (s : HeapState). s.held) is
  bound_held (Some c) k is = ap (λ (s : HeapState). s.held) is

  -- the bytes of an id are the object's
  object_shown : (id : ℕ) → option_map (λ (x : Placed). x.bytes) (object_of old id) ≡ bytes_named (named old) id
  object_shown id = go (get old.session.ids id)
    where
      go : (o : Option ℕ) → option_map (λ (x : Placed). x.bytes) (elim o [ None ↦ None | Some h ↦ get old.heap.held h ]) ≡ through (objects old.heap.held) o
      go None = refl
      go (Some h) = sym (get-map_values (λ (x : Placed). x.bytes) old.heap.held h)

  turn_named : (c : Command) (reply : Reply) → Step old c reply new → NamedTurn (named old) c reply (named new)
  turn_named (Malloc id n) reply step = malloc_at (get old.session.ids id) id n reply refl step
  turn_named (Free id) reply step = free_at (get old.session.ids id) id reply refl step
  turn_named (Write id at bytes) reply step = write_at (get old.session.ids id) id at bytes reply refl step
  turn_named (Resize id n) reply step = resize_at (get old.session.ids id) id n reply refl step
  turn_named (Bound slot_words k) reply step = record {
    ids = ap (λ (s : SessionState). s.ids) step.session;
    objects = ap objects (bound_held (class_to_bound old.heap slot_words) k step.heap);
  }
  turn_named (Read id at count) reply step = (
    step.0 ∙ ap said (read_same (object_of old id) at count ∙ ap (λ (o : Option (List ℕ)). read_shown o at count) (object_shown id)),
    same_named named step.1,
  )
  turn_named c reply step = same_named named step.1

-- the rules of a run on one manager meet `NamesObjects`, by the ids and objects of its states
pub kind_names : (kind : Kind) → NamesObjects (BeginsOne kind) IsCommandStep
kind_names kind = record {
  is_going = IsGoing;
  named = named;
  tied = λ s going. names_of_objects s.session.ids s.heap.held going.tied.ids;
  begins_going = λ p reply s b. begins_going kind p s b.0;
  begins_empty = λ p reply s b. ap (λ (t : SessionState). t.ids) (b.0).session;
  still_going = λ old c reply new going turn. step_going old new c reply going turn.step;
  turns_named = λ old c reply new going turn. turn_named old new c reply turn.step;
}

-- over a run, reads print the bytes that follow from the lines and their replies
pub reads_are_shown : (kind : Kind) (items : List Item) (replies : List Reply) (new : Option RunState) → Run kind None items replies new
    → AreReadsOf None items replies
reads_are_shown kind = any_reads_are_shown (BeginsOne kind) IsCommandStep (kind_names kind)
