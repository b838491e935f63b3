-- For `the_output_shows_the_replies` and the laws at bound 1: the settings, bounds and bytes of each id (`view`) after a command follow from those before it
-- and from its reply. Also: the reply to a malloc that is refused isn't `ok`.
use Rattle.std.proofs.Common.{◌≡◌, ℕ, Bool, true, false, cond, ◌+◌, List, Option, Some, None, Err, length, sym, ◌∙◌, ap, refl, inl, inr, ◌⊎◌, codes, nat_eq, nat_le, position}
use Rattle.run_model.specs.Terms.{Admit, Block, Bound, Command, family_of, Frag, Free, get, insert, IsPaged, IsPaging, IsSound, len, Malloc, Need, Objects, objects, paged, paging_in, Peek, Place, Placed, Quota, Read, Refusal, remove, Reply, Resize, ResizeFault, said, Slice, Steps, Task, tiled, Walk, with_bound, Write, written}
use Rattle.cf_base.specs.declared.results.Refusal.TheVariants as refusal
use Rattle.cf_base.specs.declared.results.ResizeFault.TheVariants as resize
use Rattle.cf_base.proofs.MapValues.{map_values-insert, map_values-remove}
use Rattle.cf_base.proofs.Sums.{insert_again}
use Rattle.page_model.specs.Steps.{resized, resized_at, without}
use Rattle.page_model.proofs.CallerLemmas.{free_objects, len-objects, malloc_objects, bytes_held}
use Rattle.cf_model.specs.Answers.{class_with}
use Rattle.cf_model.specs.Families.{Family}
use Rattle.cf_model.specs.Steps.{MovesIn}
use Rattle.run_model.specs.Replies.{malloc_text, resize_text}
use Rattle.run_model.specs.Steps.{class_to_bound}
use Rattle.run_model.proofs.CallerLemmas.{unmoved_changes_cost}
use Rattle.script_laws.specs.IdBytes.{changed, bytes_after, is_ok}
use Rattle.script_laws.specs.ById.{ById}
use Rattle.script_laws.specs.RepliesById.{bounds_with, class_bounded}
use Rattle.script_laws.specs.Headline.{ShowsFree, IsAnswer, ShowsMalloc, RefitsElsewhere, RefitsInPlace, ShowsResize, ShowsWrite, heap_with}
use Rattle.script_laws.specs.ShownHeap.{IsArranged, ShownHeap, move_counted}

-- the settings, the bounds and the bytes of each id
abbrev pub view : ShownHeap → ById
view t = record { kind = t.heap.kind; profile = t.heap.profile; bounds = t.heap.bounds; objects = objects t.heap.held }

-- the class whose bound a `k` line sets; `None` if an object is live, if no class has such slots, and with blocks
abbrev pub class_shown : ById → ℕ → Option ℕ
class_shown v slot_words = elim (family_of v.kind) [ paged ↦ class_bounded v slot_words | tiled ↦ None ]

abbrev pub bounds_by : ById → Command → List ℕ
bounds_by v (Bound slot_words k) = bounds_with v.bounds (class_shown v slot_words) k
bounds_by v command = v.bounds

-- what `view` is after a command and its reply, from the `view` v before it
abbrev pub view_after : ById → Command → Reply → ById
view_after v command reply = record v { bounds = bounds_by v command; objects = cond (is_ok reply) (bytes_after command v.objects) v.objects }

pub either : {A : Type 0} (b : Bool) (x : A) → x ≡ cond b x x
either true x = refl
either false x = refl

pub malloc_refused : (e : Refusal) → is_ok (said (malloc_text (Err e))) ≡ false
malloc_refused refusal.Size = refl
malloc_refused refusal.Proxy = refl
malloc_refused refusal.Space = refl

unresized_not_ok : (e : ResizeFault) → is_ok (said (resize_text (Err e))) ≡ false
unresized_not_ok resize.Unknown = refl
unresized_not_ok _ = refl

-- if an id has the bytes v, `changed` gives it f v
pub changed_there : (m : Objects) (id : ℕ) (f : List ℕ → List ℕ) (v : List ℕ) → get m id ≡ Some v → insert m id (f v) ≡ changed m id f
changed_there m id f v is = sym (ap (λ (o : Option (List ℕ)). elim o as (λ _. Objects) [ None ↦ m | Some v ↦ insert m id (f v) ]) is)

moved_view : (base : ShownHeap) (moved : Option ℕ) (n : ℕ) → view (move_counted base moved n) ≡ view base
moved_view base None n = refl
moved_view base (Some q) n = refl

module _ (t new : ShownHeap) where
  -- if the command changes at most the objects, as its reply shows, the view after it is `view_after`
  objects_view : (c : Command) (reply : Reply) (after : Objects) → view new ≡ record (view t) { objects = after } → bounds_by (view t) c ≡ t.heap.bounds
      → after ≡ cond (is_ok reply) (bytes_after c (objects t.heap.held)) (objects t.heap.held) → view new ≡ view_after (view t) c reply
  objects_view c reply after e b o = e ∙ (λ i. record (view t) { bounds = sym b i; objects = o i })

  -- if the reply isn't `ok`, nothing changes
  left : (c : Command) (reply : Reply) → view new ≡ view t → bounds_by (view t) c ≡ t.heap.bounds → is_ok reply ≡ false → view new ≡ view_after (view t) c reply
  left c reply e b not_ok = objects_view c reply (objects t.heap.held) e b (sym (ap (λ b. cond b (bytes_after c (objects t.heap.held)) (objects t.heap.held)) not_ok))

  -- a command that only reads changes nothing, whatever its reply
  looked : (c : Command) (reply : Reply) → new ≡ t → bounds_by (view t) c ≡ t.heap.bounds → bytes_after c (objects t.heap.held) ≡ objects t.heap.held
      → view new ≡ view_after (view t) c reply
  looked c reply e b same = objects_view c reply (objects t.heap.held) (ap view e) b
      (either (is_ok reply) (objects t.heap.held) ∙ ap (λ o. cond (is_ok reply) o (objects t.heap.held)) (sym same))

  done : (c : Command) (reply : Reply) (after : Objects) → view new ≡ record (view t) { objects = after } → bounds_by (view t) c ≡ t.heap.bounds
      → is_ok reply ≡ true → after ≡ bytes_after c (objects t.heap.held) → view new ≡ view_after (view t) c reply
  done c reply after e b is o = objects_view c reply after e b
      (o ∙ sym (ap (λ b. cond b (bytes_after c (objects t.heap.held)) (objects t.heap.held)) is))

  malloc_view : (o : Option Placed) (id n : ℕ) (reply : Reply) → ShowsMalloc o t id n reply new → view new ≡ view_after (view t) (Malloc id n) reply
  malloc_view (Some x) id n reply step = left (Malloc id n) reply (ap view step.1) refl (ap is_ok step.0)
  malloc_view None id n reply (inl step) = done (Malloc id n) reply _ (ap view step.heap_is) refl (ap is_ok step.reply_is) (malloc_objects t.heap.held id step.place n)
  malloc_view None id n reply (inr step) = left (Malloc id n) reply (ap view step.heap_is) refl (ap is_ok step.reply_is ∙ malloc_refused step.refusal)

  -- the bytes after a free
  freed_in : (f : Family) → family_of t.heap.kind ≡ f → IsArranged t.heap → (id : ℕ) (x : Placed) (moved : Option ℕ) → get t.heap.held id ≡ Some x
      → MovesIn t.heap.kind t.heap x moved → objects (without t.heap.held id x.place moved) ≡ remove (objects t.heap.held) id
  freed_in paged is arranged id x moved there moves =
      let a : IsPaging (paging_in t.heap) × IsSound (paging_in t.heap) t.heap.held = rw (is, IsArranged) at arranged in
      free_objects (paging_in t.heap) a.0 t.heap.held a.1 id x there moved (rw (is, MovesIn) at moves)
  freed_in tiled is arranged id x moved there moves =
      let none : moved ≡ None = rw (is, MovesIn) at moves in
      ap (λ q. objects (without t.heap.held id x.place q)) none ∙ map_values-remove (λ (x : Placed). x.bytes) t.heap.held id

  free_view : (o : Option Placed) (id : ℕ) (reply : Reply) → IsArranged t.heap → get t.heap.held id ≡ o → ShowsFree o t id reply new
      → view new ≡ view_after (view t) (Free id) reply
  free_view None id reply arranged none step = left (Free id) reply (ap view step.1) refl (ap is_ok step.0)
  free_view (Some x) id reply arranged there step = done (Free id) reply _ (ap view step.heap_is ∙ moved_view _ step.moved _) refl (ap is_ok step.reply_is)
      (freed_in (family_of t.heap.kind) refl arranged id x step.moved there step.moves)

  write_in : (b : Bool) (id at : ℕ) (bytes : List ℕ) (x : Placed) (reply : Reply) → get t.heap.held id ≡ Some x
      → reply ≡ said (cond b (codes "ok") (codes "range")) → new ≡ cond b (heap_with t id (record x { bytes = written x.bytes at bytes })) t
      → view new ≡ view_after (view t) (Write id at bytes) reply
  write_in true id at bytes x reply there r e = done (Write id at bytes) reply _ (ap view e) refl (ap is_ok r)
      (map_values-insert (λ (x : Placed). x.bytes) t.heap.held id (record x { bytes = written x.bytes at bytes })
      ∙ changed_there (objects t.heap.held) id (λ v. written v at bytes) x.bytes (bytes_held t.heap.held id x there))
  write_in false id at bytes x reply there r e = left (Write id at bytes) reply (ap view e) refl (ap is_ok r)

  write_view : (o : Option Placed) (id at : ℕ) (bytes : List ℕ) (reply : Reply) → get t.heap.held id ≡ o → ShowsWrite o t id at bytes reply new
      → view new ≡ view_after (view t) (Write id at bytes) reply
  write_view None id at bytes reply none step = left (Write id at bytes) reply (ap view step.1) refl (ap is_ok step.0)
  write_view (Some x) id at bytes reply there step = write_in (nat_le (at + length bytes) (length x.bytes)) id at bytes x reply there step.0 step.1

  resize_view : (o : Option Placed) (id n : ℕ) (reply : Reply) → IsArranged t.heap → get t.heap.held id ≡ o → ShowsResize o t id n reply new
      → view new ≡ view_after (view t) (Resize id n) reply
  resize_view None id n reply arranged none step = left (Resize id n) reply (ap view step.1) refl (ap is_ok step.0)
  resize_view (Some x) id n reply arranged there (inr step) =
      let u = unmoved_changes_cost t.heap.kind t.heap new.heap step.still in
      left (Resize id n) reply (λ i. record { kind = (u i).kind; profile = (u i).profile; bounds = (u i).bounds; objects = objects (u i).held }) refl
      (ap is_ok step.reply_is ∙ unresized_not_ok step.fault)
  resize_view (Some x) id n reply arranged there (inl step) = done (Resize id n) reply _ (ap view step.heap_is ∙ moved_view _ step.after.moved _) refl (ap is_ok step.reply_is)
      (bytes step.refits ∙ changed_there (objects t.heap.held) id (λ v. resized v n) x.bytes (bytes_held t.heap.held id x there))
    where
      bytes : RefitsInPlace t id x n step.after ⊎ RefitsElsewhere t id x n step.after → objects step.after.held ≡ insert (objects t.heap.held) id (resized x.bytes n)
      bytes (inl r) = ap objects r.placed ∙ map_values-insert (λ (x : Placed). x.bytes) t.heap.held id (resized_at x.place x n)
      bytes (inr r) =
          let is : IsPaged t.heap.kind = step.pages in
          let a : IsPaging (paging_in t.heap) × IsSound (paging_in t.heap) t.heap.held = rw (is, IsArranged) at arranged in
          ap objects r.placed ∙ map_values-insert (λ (x : Placed). x.bytes) (without t.heap.held id x.place step.after.moved) id (resized_at r.place x n)
          ∙ ap (λ o. insert o id (resized x.bytes n)) (free_objects (paging_in t.heap) a.0 t.heap.held a.1 id x there step.after.moved r.moves)
          ∙ insert_again (objects t.heap.held) id (resized x.bytes n)

  -- command `k`
  class_in : (f : Family) → family_of t.heap.kind ≡ f → (words : ℕ) → class_to_bound t.heap words ≡ class_shown (view t) words
  class_in paged is words = rw (is, class_shown, class_with) (ap (λ n. cond (nat_eq n 0) (position (λ w. nat_eq w words) (paging_in t.heap).sizes) None) (sym (len-objects t.heap.held)))
  class_in tiled is words = rw (is, class_shown, class_with) (sym (either (nat_eq (len t.heap.held) 0) None))

  pub class_is : (words : ℕ) → class_to_bound t.heap words ≡ class_shown (view t) words
  class_is words = class_in (family_of t.heap.kind) refl words

  put_view : (c : Option ℕ) (k : ℕ) (reply : Reply) → new ≡ record t { heap = with_bound t.heap c k } → view new ≡ record (view t) { bounds = bounds_with t.heap.bounds c k }
  put_view None k reply e = ap view e
  put_view (Some c) k reply e = ap view e

  -- after each command
  pub view_is : IsArranged t.heap → (c : Command) (reply : Reply) → IsAnswer t c reply new → view new ≡ view_after (view t) c reply
  view_is arranged (Malloc id n) reply step = malloc_view (get t.heap.held id) id n reply step
  view_is arranged (Free id) reply step = free_view (get t.heap.held id) id reply arranged refl step
  view_is arranged (Write id at bytes) reply step = write_view (get t.heap.held id) id at bytes reply refl step
  view_is arranged (Resize id n) reply step = resize_view (get t.heap.held id) id n reply arranged refl step
  view_is arranged (Bound words k) reply step = put_view (class_to_bound t.heap words) k reply step.1
      ∙ (λ i. record (view t) { bounds = bounds_with t.heap.bounds (class_is words i) k; objects = either (is_ok reply) (objects t.heap.held) i })
  view_is arranged (Read id at count) reply step = looked (Read id at count) reply step.1 refl refl
  view_is arranged (Place id) reply step = looked (Place id) reply step.1 refl refl
  view_is arranged (Block id i) reply step = looked (Block id i) reply step.1 refl refl
  view_is arranged (Peek word) reply step = looked (Peek word) reply step.1.1 refl refl
  view_is arranged Walk reply step = looked Walk reply step.1 refl refl
  view_is arranged Frag reply step = looked Frag reply step.1 refl refl
  view_is arranged Steps reply step = looked Steps reply step.1 refl refl
  view_is arranged Slice reply step = looked Slice reply step.1 refl refl
  view_is arranged (Task task) reply step = looked (Task task) reply step.1 refl refl
  view_is arranged (Quota task n) reply step = looked (Quota task n) reply step.1 refl refl
  view_is arranged (Need task bytes count) reply step = looked (Need task bytes count) reply step.1 refl refl
  view_is arranged (Admit task) reply step = looked (Admit task) reply step.1 refl refl
