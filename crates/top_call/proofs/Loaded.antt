-- For modes `save` and `load` and their laws: which objects a run holds, shows and, if every bound is 1, leaves; the script that makes some objects keeps every
-- bound at 1 and asks for no address; a run over it holds these objects, each reply is `ok`, and mode `save` then prints their image; a load holds the objects
-- of the image and printed their script, and refuses no image.
use Rattle.std.proofs.Common.{◌≡◌, ◌∙◌, List, [], ◌∷◌, Option, Some, sym, ap, subst, ◌++◌, ◌+◌, ◌-◌, ◌*◌, ◌≤◌, ◌<◌, ℕ, zero, suc, true, false, None, length, take, drop, map, refl, arith, append_assoc, append-nil, inl, inr, length-append, length-drop, ◌≢◌}
use Rattle.std.specs.Prelude.{option_map, ⊤, Err, codes, nat_eq, nat_le, nat_lt, replicate, Ok, if◌then◌else◌}
use Rattle.run_model.specs.Terms.{IsGoing, IsPaged, Item, Kind, Objects, Reply, RunState, asks, Command, Malloc, Moving, need, Profile, said, Write, written, appended, items, profile_of}
use Rattle.cf_base.proofs.Maps.{equal_maps, get_inserted, len_fresh, insert_twice}
use Rattle.script_laws.proofs.CallerLemmas.{IsInOrder, bytes_are, item_is, shown, view, one_shown, run_met, shown_at, run_keeps, stays_at_one}
use Rattle.script_laws.specs.Headline.{MayReply, OpensEmpty}
use Rattle.script_laws.specs.ShownHeap.{ShownHeap}
use Rattle.heap_image.specs.Heaps.{heap_image, image_under, live_objects, HaveImage}
use Rattle.heap_image.proofs.CallerLemmas.{objects_of_is, AreBelow, below_none, below_some, needed_added, needed_more, below_end, listed_all, listed_end, listed_none, listed_some, observed_load}
use Rattle.top_call.specs.ImageClaims.{image_shown}
use Rattle.top_call.specs.ImageScript.{after_items, commands_of, object_commands, writes_from, writes_of, state_of_objects, script_items, script_under}
use Rattle.run_model.specs.Plays.{PlayRun}
use Rattle.script_laws.specs.ById.{ById}
use Rattle.script_laws.specs.Transcripts.{ArePlaceless, StaysAtOne, replies_from, transcript, AskForOne}
use Rattle.std.proofs.lemmas.List.{length-take-le, drop-replicate, length-replicate, nil_from_length, take-append-drop, take_all}
use Rattle.std.specs.Int.{div_ceil}
use Rattle.std.specs.Ordering.{nat_cmp}
use Rattle.std.specs.FinMap.{empty, entries, get, get-empty, insert, len}
use Rattle.std.proofs.lemmas.Bool.{cases_lt, cond-true, cond-false}
use Rattle.std.proofs.lemmas.Bool.Decides.{nat_tests}
use Rattle.std.proofs.Math.Seq.{drop-append-add, take-append_seam}
use Rattle.page_model.specs.Arrangement.{pages_needed, pages_needed_with}
use Rattle.heap_image.specs.Decoded.{image_paging, Decoded, IsHeapImage, decoded, whole}
use Rattle.heap_image.specs.Listed.{listed_objects}
use Rattle.run_model.specs.Replies.{malloc_text, write_text}
use Rattle.script_laws.specs.RepliesById.{after_by_id, malloc_fault, malloc_leaves, malloc_said, ok_or, put_unless, reply_by_id, write_fault, write_leaves, write_said}
use Rattle.cf_base.specs.declared.status.Status.TheVariants.{BadImage, Done}
use Rattle.heap_image.specs.Load.{IsLoading}
use Rattle.top_call.specs.Loads.{EndsLoad, EndsLoadBy}
use Rattle.top_call.specs.Saves.{EndsSave, WritesAtEnd, saved, unseen}
use Rattle.script_laws.specs.ValidItems.{IsRunOf}
use Rattle.run_model.specs.Runs.{Run}
use Rattle.script_loop.proofs.CallerLemmas.{wrote_all, within_all}
use Rattle.script_loop.specs.Consequences.{AnswersAll}
use Rattle.script_loop.specs.OneManager.{one_manager}
use Rattle.script_loop.specs.ScriptOutcome.{Effects, MOST_BYTES, EndsAt, Wrote, items_within}
use Rattle.top_call.proofs.Printed.{read_back}
use Rattle.heap_image.specs.declared.fault.LoadFault.TheVariants as fault

-- For the laws on `save` and `load`: the objects by id of a run, and their image, are those that its lines and replies show; if every bound is 1, a run
-- leaves what its items determine.

-- the objects by id of a run are those of the heap that it shows
pub objects_shown : (s : RunState) → IsGoing s → live_objects s ≡ (view (shown s)).objects
objects_shown s going = equal_maps _ _ (λ id. objects_of_is s going.tied id ∙ bytes_are s going id)

-- the image of a run's heap is the image of the heap that it shows
pub same_image : (s : RunState) → IsGoing s → heap_image s ≡ image_shown (Some (shown s))
same_image s going = ap (λ (o : Objects). image_under s.heap.profile o) (objects_shown s going)

-- if every bound is 1, a run leaves what its items leave
module _ (kind : Kind) (paged : IsPaged kind) where
  pub run_leaves : (items : List Item) (t end : Option ShownHeap) (replies : List Reply) → IsInOrder kind paged t → StaysAtOne kind (option_map view t) items
      → ArePlaceless items → PlayRun (OpensEmpty kind) MayReply t items replies end → option_map view end ≡ after_items kind (option_map view t) items
  run_leaves [] t end replies order ones none run = ap (option_map view) run.1
  run_leaves (item ∷ rest) t end replies order ones none run =
      let one = item_is kind paged t item run.1 run.0 order ones.0 none.0 run.3 in
      let ones' : StaysAtOne kind (option_map view run.0) rest = subst (λ (h : Option ById). StaysAtOne kind h rest) (sym one.1) ones.1 in
      run_leaves rest run.0 end run.2 one.2 ones' none.1 run.5 ∙ ap (λ (h : Option ById). after_items kind h rest) one.1

-- For the law `printed_scripts_are_read_back`, clauses `makes` and `replies`: the commands of the script that mode `load` prints for some objects leave
-- exactly these, each with the reply `ok`.

-- the state after all commands, from the state t on
abbrev pub after_all : ById → List Command → ById
after_all t [] = t
after_all t (c ∷ cs) = after_all (after_by_id t c) cs

-- the reply to each command is `ok`, from the state t on
abbrev pub AllOk : ById → List Command → Type 0
AllOk t [] = ⊤
AllOk t (c ∷ cs) = (reply_by_id t c ≡ said (codes "ok")) × AllOk (after_by_id t c) cs

-- the commands cs lead from the state t to u, each with the reply `ok`
record Leads (t : ById) (cs : List Command) (u : ById) : Type 0 where
  state : after_all t cs ≡ u
  ok : AllOk t cs

leads_first : (t u v : ById) (c : Command) (cs : List Command) → reply_by_id t c ≡ said (codes "ok") → after_by_id t c ≡ u → Leads u cs v → Leads t (c ∷ cs) v
leads_first t u v c cs ok is next = record {
  state = ap (λ t. after_all t cs) is ∙ next.state;
  ok = (ok, subst (λ (t : ById). AllOk t cs) (sym is) next.ok);
}

leads_same : (t t' u u' : ById) (cs : List Command) → t ≡ t' → u ≡ u' → Leads t cs u → Leads t' cs u'
leads_same t t' u u' cs from to leads = subst (λ (u : ById). Leads t' cs u) to (subst (λ (t : ById). Leads t cs u) from leads)

leads_joined : (cs ds : List Command) (t u v : ById) → Leads t cs u → Leads u ds v → Leads t (cs ++ ds) v
leads_joined [] ds t u v one two = leads_same u t v v ds (sym one.state) refl two
leads_joined (c ∷ cs) ds t u v one two =
    let rest = leads_joined cs ds (after_by_id t c) u v (record { state = one.state; ok = one.ok.1 }) two in
    record { state = rest.state; ok = (one.ok.0, rest.ok) }

left_is : (t : ById) (cs : List Command) → after_items Moving (Some t) (map (λ c. asks c) cs) ≡ Some (after_all t cs)
left_is t [] = refl
left_is t (c ∷ cs) = left_is (after_by_id t c) cs

ok_is : (t : ById) (cs : List Command) → AllOk t cs → replies_from Moving (Some t) (map (λ c. asks c) cs) ≡ map (λ i. said (codes "ok")) (map (λ c. asks c) cs)
ok_is t [] are = refl
ok_is t (c ∷ cs) are = λ i. are.0 i ∷ ok_is (after_by_id t c) cs are.1 i

-- bytes written over the first of the zeros
written_zeros : (front chunk : List ℕ) (k at : ℕ) → at ≡ length front
    → written (front ++ replicate k 0) at chunk ≡ (front ++ chunk) ++ replicate (k - length chunk) 0
written_zeros front chunk k at is =
    let zeros : List ℕ = replicate k 0 in
    (λ i. (ap (λ n. take n (front ++ zeros)) is ∙ take-append_seam front zeros) i
    ++ (chunk ++ (ap (λ n. drop (n + length chunk) (front ++ zeros)) is ∙ drop-append-add front zeros (length chunk)
    ∙ drop-replicate (length chunk) k 0) i))
    ∙ sym (append_assoc front chunk (replicate (k - length chunk) 0))

module _ (p : Profile) (id : ℕ) (m : Objects) where
  write_leaves_is : (at : ℕ) (v chunk : List ℕ) → at + length chunk ≤ length v
      → write_leaves (get (insert m id v) id) (insert m id v) (record { id = id; at = at; bytes = chunk }) ≡ insert m id (written v at chunk)
  write_leaves_is at v chunk fits =
      let none : write_fault v at (length chunk) ≡ None = cond-true _ _ _ (let e : nat_le (at + length chunk) (length v) ≡ true = grind (arith, nat_tests) in e) in
      ap (λ f. write_leaves f (insert m id v) (record { id = id; at = at; bytes = chunk })) (get_inserted m id v)
      ∙ ap (λ f. put_unless f (insert m id v) id (written v at chunk)) none
      ∙ insert_twice m id v (written v at chunk)

  one_write : (at : ℕ) (v chunk : List ℕ) → at + length chunk ≤ length v
      → after_by_id (state_of_objects p (insert m id v)) (Write id at chunk) ≡ state_of_objects p (insert m id (written v at chunk))
  one_write at v chunk fits = ap (state_of_objects p) (write_leaves_is at v chunk fits)

  write_ok : (at : ℕ) (v chunk : List ℕ) → at + length chunk ≤ length v
      → reply_by_id (state_of_objects p (insert m id v)) (Write id at chunk) ≡ said (codes "ok")
  write_ok at v chunk fits =
      let none : write_fault v at (length chunk) ≡ None = cond-true _ _ _ (let e : nat_le (at + length chunk) (length v) ≡ true = grind (arith, nat_tests) in e) in
      ap (λ f. said (write_said f at (length chunk))) (get_inserted m id v)
      ∙ ap (λ f. said (ok_or (λ e. write_text (Err e)) f)) none

  all_writes : (n at : ℕ) (done bytes : List ℕ) → at ≡ length done → length bytes ≤ 4096 * n → 4096 * n < length bytes + 4096
      → Leads (state_of_objects p (insert m id (done ++ replicate (length bytes) 0))) (writes_from n id at bytes) (state_of_objects p (insert m id (done ++ bytes)))
  unfolding writes_from
  all_writes zero at done bytes is enough few =
      let none : bytes ≡ [] = nil_from_length bytes (omega (arith, enough)) in
      record { state = rw none refl; ok = tt }
  all_writes (suc n) at done bytes is enough few =
      leads_first _ (state_of_objects p (insert m id ((done ++ take 4096 bytes) ++ replicate (length bytes - length (take 4096 bytes)) 0))) _
      (Write id at (take 4096 bytes)) (writes_from n id (at + 4096) (drop 4096 bytes))
      (write_ok at (done ++ replicate (length bytes) 0) (take 4096 bytes) fits)
      (one_write at (done ++ replicate (length bytes) 0) (take 4096 bytes) fits
      ∙ ap (λ v. state_of_objects p (insert m id v)) (written_zeros done (take 4096 bytes) (length bytes) at is))
      (elim (cases_lt 4096 (length bytes)) [
        | inl lt ↦ goes_on lt (λ is enough few. all_writes n (at + 4096) (done ++ take 4096 bytes) (drop 4096 bytes) is enough few)
        | inr le ↦ ends le
      ])
    where
      taken : length (take 4096 bytes) ≤ length bytes
      taken = (let e = ap (length {A = ℕ}) (take-append-drop 4096 bytes) in let f = length-append (take 4096 bytes) (drop 4096 bytes) in omega (arith, e, f))

      fits : at + length (take 4096 bytes) ≤ length (done ++ replicate {A = ℕ} (length bytes) 0)
      fits =
          let a = length-append done (replicate {A = ℕ} (length bytes) 0) in let b = length-replicate {A = ℕ} (length bytes) 0 in let t = taken in
          omega (arith, a, b, t, is)

      goes_on : 4096 < length bytes
          → (at + 4096 ≡ length (done ++ take 4096 bytes) → length (drop 4096 bytes) ≤ 4096 * n → 4096 * n < length (drop 4096 bytes) + 4096
          → Leads (state_of_objects p (insert m id ((done ++ take 4096 bytes) ++ replicate (length (drop 4096 bytes)) 0)))
          (writes_from n id (at + 4096) (drop 4096 bytes)) (state_of_objects p (insert m id ((done ++ take 4096 bytes) ++ drop 4096 bytes))))
          → Leads (state_of_objects p (insert m id ((done ++ take 4096 bytes) ++ replicate (length bytes - length (take 4096 bytes)) 0)))
          (writes_from n id (at + 4096) (drop 4096 bytes)) (state_of_objects p (insert m id (done ++ bytes)))
      goes_on lt rest =
          let full = length-take-le 4096 bytes (omega (arith, lt)) in
          let left = length-drop 4096 bytes in
          let long = length-append done (take 4096 bytes) in
          let same : length (drop 4096 bytes) ≡ length bytes - length (take 4096 bytes) = omega (arith, full, left) in
          leads_same _ _ _ _ _ (ap (λ k. state_of_objects p (insert m id ((done ++ take 4096 bytes) ++ replicate k 0))) same)
          (ap (λ v. state_of_objects p (insert m id v)) (append_assoc done (take 4096 bytes) (drop 4096 bytes) ∙ ap (λ l. done ++ l) (take-append-drop 4096 bytes)))
          (rest (omega (arith, is, full, long)) (omega (arith, enough, left)) (omega (arith, few, left, lt)))

      ends : length bytes ≤ 4096
          → Leads (state_of_objects p (insert m id ((done ++ take 4096 bytes) ++ replicate (length bytes - length (take 4096 bytes)) 0)))
          (writes_from n id (at + 4096) (drop 4096 bytes)) (state_of_objects p (insert m id (done ++ bytes)))
      ends le =
          let last : n ≡ 0 = omega (arith, few, le) in
          let whole = take_all 4096 bytes le in
          let none : length bytes - length (take 4096 bytes) ≡ 0 = (let e = ap (length {A = ℕ}) whole in omega (arith, e)) in
          let start : ById = state_of_objects p (insert m id ((done ++ take 4096 bytes) ++ replicate (length bytes - length (take 4096 bytes)) 0)) in
          let is : start ≡ state_of_objects p (insert m id (done ++ bytes)) =
          ap (λ k. state_of_objects p (insert m id ((done ++ take 4096 bytes) ++ replicate k 0))) none
          ∙ ap (λ v. state_of_objects p (insert m id v)) (append-nil (done ++ take 4096 bytes) ∙ ap (λ l. done ++ l) whole) in
          subst (λ k. Leads start (writes_from k id (at + 4096) (drop 4096 bytes)) (state_of_objects p (insert m id (done ++ bytes)))) (sym last)
          (record { state = is; ok = tt })

  -- one object is made and filled
  object_made : (v : List ℕ) → get m id ≡ None → malloc_fault (state_of_objects p m) (length v) ≡ None
      → Leads (state_of_objects p m) (object_commands id v) (state_of_objects p (insert m id v))
  object_made v none good =
      leads_first _ _ _ (Malloc id (length v)) (writes_of id v)
      (ap (λ f. said (malloc_said f (state_of_objects p m) (length v))) none ∙ ap (λ f. said (ok_or (λ e. malloc_text (Err e)) f)) good)
      (ap (λ o. state_of_objects p o) (ap (λ f. malloc_leaves f (state_of_objects p m) (record { number = id; length = length v })) none
      ∙ ap (λ f. put_unless f m id (replicate (length v) 0)) good))
      (all_writes (div_ceil (length v) 4096) 0 [] v refl (omega arith) (omega arith))

module _ (p : Profile) (o : Objects) (h : HaveImage p o) where
  -- some of the objects: they need at most the pages of all, and their number is at most that of all
  record IsLess (m : Objects) : Type 0 where
    pages : pages_needed (image_paging p) m ≤ pages_needed (image_paging p) o
    few : len m ≤ len o

  less : (n k : ℕ) (m : Objects) → k + n ≡ 65536 → AreBelow o k m → IsLess m
  less zero k m end b = (let same = below_end o h.ids k m (omega arith) b in
      record { pages = (let e = ap (pages_needed (image_paging p)) same in omega arith); few = (let e = ap (λ (m : Objects). len m) same in omega arith) })
  less (suc n) k m end b = go (get o k) refl (λ m b. less n (k + 1) m (omega arith) b)
    where
      go : (v : Option (List ℕ)) → get o k ≡ v → ((m : Objects) → AreBelow o (k + 1) m → IsLess m) → IsLess m
      go None e rest = rest m (below_none o k m b e)
      go (Some v) e rest =
          let none = b.high k (omega arith) in
          let more = needed_more (image_paging p) m (length v) in
          let added = needed_added (image_paging p) m k v none in
          let one = len_fresh m k v none in
          let next = rest (insert m k v) (below_some o k m b v e) in
          record { pages = (let f = next.pages in omega (arith, more, added, f)); few = (let f = next.few in omega (arith, one, f)) }

  module _ (n k : ℕ) (m : Objects) (v : List ℕ) (end : k + suc n ≡ 65536) (b : AreBelow o k m) (some : get o k ≡ Some v) where
    fresh : get m k ≡ None
    fresh = b.high k (omega arith)

    next : IsLess (insert m k v)
    next = less n (k + 1) (insert m k v) (omega (arith, end)) (below_some o k m b v some)

    size_good : nat_lt p.page_words (need (length v)) ≡ false
    size_good = (let fit = h.fit k v some in grind (arith, nat_tests, fit))

    proxies_good : nat_eq (len m) p.proxies ≡ false
    proxies_good = (let one = len_fresh m k v fresh in let f = next.few in let g = h.few in
        let lt : len m < p.proxies = omega (arith, one, f, g) in grind (arith, nat_tests, lt))

    pages_good : nat_lt p.pages (pages_needed_with (image_paging p) m (length v)) ≡ false
    pages_good = (let added = needed_added (image_paging p) m k v fresh in let f = next.pages in let g = h.room in
        let le : pages_needed_with (image_paging p) m (length v) ≤ p.pages = omega (arith, added, f, g) in grind (arith, nat_tests, le))

    good : malloc_fault (state_of_objects p m) (length v) ≡ None
    good = cond-false _ _ _ size_good ∙ cond-false _ _ _ proxies_good ∙ cond-false _ _ _ pages_good

  all_made : (n k : ℕ) (m : Objects) → k + n ≡ 65536 → AreBelow o k m → Leads (state_of_objects p m) (commands_of (listed_objects o k n)) (state_of_objects p o)
  all_made zero k m end b = subst (λ (es : List (ℕ × List ℕ)). Leads (state_of_objects p m) (commands_of es) (state_of_objects p o)) (sym (listed_end o k))
      (record { state = ap (state_of_objects p) (below_end o h.ids k m (omega arith) b); ok = tt })
  all_made (suc n) k m end b = go (get o k) refl (λ m b. all_made n (k + 1) m (omega arith) b)
    where
      go : (v : Option (List ℕ)) → get o k ≡ v
          → ((m : Objects) → AreBelow o (k + 1) m → Leads (state_of_objects p m) (commands_of (listed_objects o (k + 1) n)) (state_of_objects p o))
          → Leads (state_of_objects p m) (commands_of (listed_objects o k (suc n))) (state_of_objects p o)
      go None e rest = subst (λ (es : List (ℕ × List ℕ)). Leads (state_of_objects p m) (commands_of es) (state_of_objects p o)) (sym (listed_none o k n e))
          (rest m (below_none o k m b e))
      go (Some v) e rest = subst (λ (es : List (ℕ × List ℕ)). Leads (state_of_objects p m) (commands_of es) (state_of_objects p o)) (sym (listed_some o k n v e))
          (leads_joined (object_commands k v) (commands_of (listed_objects o (k + 1) n)) _ _ _
          (object_made p k m v (fresh n k m v end b e) (good n k m v end b e))
          (rest (insert m k v) (below_some o k m b v e)))

  all_leads : Leads (state_of_objects p empty) (commands_of (entries o)) (state_of_objects p o)
  all_leads = subst (λ (es : List (ℕ × List ℕ)). Leads (state_of_objects p empty) (commands_of es) (state_of_objects p o)) (sym (listed_all o 65536 (λ q v e. h.ids q v e)))
      (all_made 65536 0 empty (omega arith) (record { low = λ q lt. absurd (omega arith); high = λ q le. get-empty nat_cmp q }))

  -- the script makes the objects
  pub makes : after_items Moving None (script_items p o) ≡ Some (state_of_objects p o)
  makes = left_is (state_of_objects p empty) (commands_of (entries o)) ∙ ap (λ t. Some t) all_leads.state

  -- each reply to the script is `ok`
  pub all_ok : transcript Moving (script_items p o) ≡ map (λ i. said (codes "ok")) (script_items p o)
  all_ok = ap (λ (replies : List Reply). said (codes "ok") ∷ replies) (ok_is (state_of_objects p empty) (commands_of (entries o)) all_leads.ok)

-- For the laws on `save` and `load`: after a run over the script that makes some objects, each reply `ok`, the heap holds these; after a load it holds those
-- of the image, and their script was printed.

-- a command that makes or fills an object
abbrev IsMaking : Command → Type 0
IsMaking (Malloc id bytes) = ⊤
IsMaking (Write id at bytes) = ⊤
IsMaking command = ⊥

abbrev AreMaking : List Command → Type 0
AreMaking [] = ⊤
AreMaking (c ∷ cs) = IsMaking c × AreMaking cs

making_joined : (cs ds : List Command) → AreMaking cs → AreMaking ds → AreMaking (cs ++ ds)
making_joined [] ds are more = more
making_joined (c ∷ cs) ds are more = (are.0, making_joined cs ds are.1 more)

making_writes : (n id at : ℕ) (bytes : List ℕ) → AreMaking (writes_from n id at bytes)
unfolding writes_from
making_writes zero id at bytes = tt
making_writes (suc n) id at bytes = (tt, making_writes n id _ _)

making_all : (es : List (ℕ × List ℕ)) → AreMaking (commands_of es)
making_all [] = tt
making_all (e ∷ es) = making_joined (object_commands e.0 e.1) (commands_of es) (tt, making_writes _ e.0 0 e.1) (making_all es)

one_asked : (cs : List Command) → AreMaking cs → AskForOne (map (λ c. asks c) cs)
one_asked [] are = tt
one_asked (Malloc id bytes ∷ cs) are = (tt, one_asked cs are.1)
one_asked (Write id at bytes ∷ cs) are = (tt, one_asked cs are.1)
one_asked (_ ∷ cs) are = absurd are.0

no_place : (cs : List Command) → AreMaking cs → ArePlaceless (map (λ c. asks c) cs)
no_place [] are = tt
no_place (Malloc id bytes ∷ cs) are = (tt, no_place cs are.1)
no_place (Write id at bytes ∷ cs) are = (tt, no_place cs are.1)
no_place (_ ∷ cs) are = absurd are.0

-- the run is in progress, and shows these objects under these settings
pub record Holds (p : Profile) (o : Objects) (last : Option RunState) : Type 0 where
  pub state : RunState
  pub is : last ≡ Some state
  pub kind : state.heap.kind ≡ Moving
  pub going : IsGoing state
  pub objects : view (shown state) ≡ state_of_objects p o

module _ (p : Profile) (o : Objects) (h : HaveImage p o) where
  are : AreMaking (commands_of (entries o))
  are = making_all (entries o)

  pub asked_ones : StaysAtOne Moving None (script_items p o)
  asked_ones = stays_at_one Moving refl (script_items p o) None tt (h.one, one_asked (commands_of (entries o)) are)

  pub asked_places : ArePlaceless (script_items p o)
  asked_places = (tt, no_place (commands_of (entries o)) are)

  of_items : (replies : List Reply) (last : Option RunState) → Run Moving None (items (script_under p o) true) replies last
      → Run Moving None (script_items p o) replies last
  of_items replies last run = subst (λ (is : List Item). Run Moving None is replies last) (read_back p o h) run

  pub run_holds : (replies : List Reply) (last : Option RunState) → Run Moving None (items (script_under p o) true) replies last → Holds p o last
  run_holds replies last run =
      let all = of_items replies last run in
      let met = run_met Moving (script_items p o) None replies last tt all in
      let left = run_leaves Moving refl (script_items p o) None (shown_at last) replies tt asked_ones asked_places met in
      let on = run_keeps Moving None (items (script_under p o) true) replies last tt run in
      go last (left ∙ makes p o h) on
    where
      go : (last : Option RunState) → option_map view (shown_at last) ≡ Some (state_of_objects p o) → IsRunOf Moving last → Holds p o last
      go None e on = absurd (let f : None ≡ Some (state_of_objects p o) = e in cc)
      go (Some s) e on = record { state = s; is = refl; kind = on.0; going = on.1; objects = (let f : Some (view (shown s)) ≡ Some (state_of_objects p o) = e in cc) }

  -- each reply of a run over the script is `ok`
  pub run_ok : (replies : List Reply) (last : Option RunState) → Run Moving None (items (script_under p o) true) replies last
      → replies ≡ map (λ i. said (codes "ok")) (script_items p o)
  run_ok replies last run =
      one_shown Moving (script_items p o) replies last refl asked_ones asked_places (of_items replies last run) ∙ all_ok p o h

-- the objects that a run shows are those by its ids
pub held_objects : (p : Profile) (o : Objects) (s : RunState) → IsGoing s → view (shown s) ≡ state_of_objects p o → (s.heap.profile ≡ p) × (live_objects s ≡ o)
held_objects p o s going is = (ap (λ (t : ById). t.profile) is, objects_shown s going ∙ ap (λ (t : ById). t.objects) is)

-- A call in mode `save` that runs the script of the objects o and ends with `Done`: its run holds o, and it prints the image of o.
module _ (p : Profile) (o : Objects) (h : HaveImage p o) (from to : RunState) (call : Effects) (moving : from.heap.kind ≡ Moving)
    (had : call.had ≡ Some (script_under p o)) (few : length (script_under p o) ≤ MOST_BYTES) (done : call.status ≡ Done) (ends : EndsSave from call to) where
  whole_run : Wrote one_manager from (items_within (script_under p o)) (unseen call) to
  whole_run = wrote_all from to (unseen call) (script_under p o) had ends.script
      (let s : (unseen call).status ≡ Done = ap (λ st. (unseen (record call { status = st })).status) done in
      subst (λ st. AnswersAll st) (sym s) tt)

  holds : Holds p o whole_run.end
  holds = run_holds p o h whole_run.replies whole_run.end
      (subst (λ (k : Kind). Run k None (items (script_under p o) true) whole_run.replies whole_run.end) moving
      (subst (λ (is : List Item). Run from.heap.kind None is whole_run.replies whole_run.end) (within_all (script_under p o) few) whole_run.run))

  stands : to ≡ holds.state
  stands = subst (λ (e : Option RunState). EndsAt from e to) holds.is whole_run.stands

  pub kind : to.heap.kind ≡ Moving
  kind = ap (λ (s : RunState). s.heap.kind) stands ∙ holds.kind

  pub going : IsGoing to
  going = subst IsGoing (sym stands) holds.going

  pub same_objects : (to.heap.profile ≡ p) × (live_objects to ≡ o)
  same_objects = held_objects p o to going (ap (λ (s : RunState). view (shown s)) stands ∙ holds.objects)

  saved_is : saved to ≡ image_under p o
  saved_is = ap (λ b. if b then heap_image to else []) going.opened ∙ (λ i. image_under (same_objects.0 i) (same_objects.1 i))

  pub image_back : call.after ≡ appended call.before (image_under p o)
  image_back = subst (λ st. WritesAtEnd st call.before (saved to) call.after) done ends.written ∙ ap (appended call.before) saved_is

-- a call in mode `load` read the bytes `all` and ended with `Done`: they are an image, the heap holds its objects, and their script was printed
pub record Loaded (all : List ℕ) (to : RunState) (call : Effects) : Type 0 where
  pub profile : Profile
  pub objects : Objects
  pub stated : decoded all ≡ whole profile objects
  pub held : (to.heap.profile ≡ profile) × (live_objects to ≡ objects)
  pub loading : IsLoading to
  pub script : call.after ≡ appended call.before (script_under profile objects)

pub load_done : (from to : RunState) (call : Effects) (all : List ℕ) → call.had ≡ Some all → call.status ≡ Done → EndsLoad from call to → Loaded all to call
load_done from to call all had done ends =
    let e = subst (λ st. EndsLoadBy st from call to) done ends in
    let row = observed_load from to _ _ (Ok e.0) e.1 all had in
    let l = row.2 in
    record {
      profile = profile_of e.0;
      objects = l.objects;
      stated = ap decoded (row.1 ∙ ap (λ (more : List ℕ). e.1.taken ++ more) l.ended ∙ append-nil e.1.taken) ∙ l.reads;
      held = (l.holds.profile, l.holds.objects);
      loading = l.holds.loading;
      script = e.2 ∙ (λ i. appended call.before (script_under (l.holds.profile i) (l.holds.objects i)));
    }

-- mode `load` never refuses an image
pub image_taken : (from to : RunState) (call : Effects) (all : List ℕ) → call.had ≡ Some all → IsHeapImage all → EndsLoad from call to → call.status ≢ BadImage
image_taken from to call all had image ends bad =
    let e = subst (λ st. EndsLoadBy st from call to) bad ends in
    let row = observed_load from to _ _ (Err (fault.Bad e.0)) e.1 all had in
    let z : None ≡ Some e.0 = sym image ∙ ap (λ (b : List ℕ). (decoded b).broken) row.1 ∙ ap (λ (t : Decoded). t.broken) row.2.reads_all ∙ row.2.broken in
    absurd cc
