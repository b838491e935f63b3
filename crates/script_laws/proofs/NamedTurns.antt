-- For the laws of reads, in every mode: if each command changes the ids and their objects as its reply shows (`NamedTurn`), the ids stay tied to the objects
-- (`AreTiedTo`), and reads print the bytes that follow from the lines before them and their replies.
use Rattle.std.proofs.Common.{◌≡◌, ◌⊎◌, ℕ, Bool, true, false, cond, List, [], ◌∷◌, Option, Some, None, replicate, sym, ◌∙◌, ap, refl, subst, inl, inr}
use Rattle.std.proofs.lemmas.Bool.{cases_eq}
use Rattle.std.specs.Ordering.{nat_cmp}
use Rattle.std.specs.FinMap.{empty, get, get-empty, insert, remove}
use Rattle.run_model.specs.Terms.{asks, bad, Command, Free, Ids, Item, Malloc, Objects, Profile, Read, Reply, Resize, said, starts, Write, written}
use Rattle.cf_base.proofs.Maps.{get_inserted, get_insert_other, get_removed, get_remove_other}
use Rattle.id_table.proofs.CallerLemmas.{tied_less, tied_more, tied_same}
use Rattle.id_table.specs.Ties.{AreTiedTo}
use Rattle.page_model.specs.Steps.{resized}
use Rattle.script_laws.specs.IdBytes.{AreReadsOf, IsReadOf, changed, bytes_after, is_ok, read_shown, shown_after}
use Rattle.run_model.specs.Plays.{PlayRun, PlayStep}

-- the bytes of the object under a number, if there is a number
abbrev pub through : Objects → Option ℕ → Option (List ℕ)
through o None = None
through o (Some h) = get o h

-- the map has for each id the bytes of the object that the id names, and no other ids
abbrev pub AreBytesOf : Ids → Objects → Objects → Type 0
AreBytesOf ids o m = (q : ℕ) → get m q ≡ through o (get ids q)

module _ (ids : Ids) (o : Objects) (m : Objects) (names : AreTiedTo ids o) (shown : AreBytesOf ids o m) (id h : ℕ) where
  -- a number other than h keeps its bytes
  through_other : (v : List ℕ) (r : Option ℕ) → (r ≡ Some h → ⊥) → through (insert o h v) r ≡ through o r
  through_other v None other = refl
  through_other v (Some q) other = get_insert_other o h v q (λ is. other (ap (λ k. Some k) is))

  pub shown_added : (v : List ℕ) → get o h ≡ None → AreBytesOf (insert ids id h) (insert o h v) (insert m id v)
  shown_added v unused q = elim (cases_eq q id) [
    | inl is ↦ rw is (get_inserted m id v ∙ sym (ap (through (insert o h v)) (get_inserted ids id h) ∙ get_inserted o h v))
    | inr ne ↦ get_insert_other m id v q ne ∙ shown q ∙ sym (ap (through (insert o h v)) (get_insert_other ids id h q ne)
        ∙ through_other v (get ids q) (λ is. (let x = names.named q h is in let e : get o h ≡ Some x.0 = x.1 in cc)))
  ]

  module _ (some : get ids id ≡ Some h) where
    pub shown_changed : (v : List ℕ) → AreBytesOf ids (insert o h v) (insert m id v)
    shown_changed v q = elim (cases_eq q id) [
      | inl is ↦ rw is (get_inserted m id v ∙ sym (ap (through (insert o h v)) some ∙ get_inserted o h v))
      | inr ne ↦ get_insert_other m id v q ne ∙ shown q ∙ sym (through_other v (get ids q) (λ is. ne (names.once id q h some is)))
    ]

    pub shown_gone : AreBytesOf (remove ids id) (remove o h) (remove m id)
    shown_gone q = elim (cases_eq q id) [
      | inl is ↦ rw is (get_removed m id ∙ sym (ap (through (remove o h)) (get_removed ids id)))
      | inr ne ↦ get_remove_other m id q ne ∙ shown q ∙ sym (ap (through (remove o h)) (get_remove_other ids id q ne)
          ∙ still (get ids q) (λ is. ne (names.once id q h some is)))
    ]
      where
        still : (r : Option ℕ) → (r ≡ Some h → ⊥) → through (remove o h) r ≡ through o r
        still None other = refl
        still (Some k) other = get_remove_other o h k (λ is. other (ap (λ j. Some j) is))

    -- the bytes of the id that follow from the lines
    pub shown_here : (v : List ℕ) → get o h ≡ Some v → get m id ≡ Some v
    shown_here v there = shown id ∙ ap (through o) some ∙ there

pub changed_is : (m : Objects) (id : ℕ) (f : List ℕ → List ℕ) (v : List ℕ) → get m id ≡ Some v → changed m id f ≡ insert m id (f v)
changed_is m id f v here = ap (λ (o : Option (List ℕ)). elim o as (λ _. Objects) [ None ↦ m | Some u ↦ insert m id (f u) ]) here

-- the live ids with their handles, and the objects by handle
pub record Named : Type 0 where
  pub ids : Ids
  pub objects : Objects

-- the bytes of an id
abbrev pub bytes_named : Named → ℕ → Option (List ℕ)
bytes_named s id = through s.objects (get s.ids id)

-- the ids and the objects are the same before and after a command
pub record IsSame (old new : Named) : Type 0 where
  pub ids : new.ids ≡ old.ids
  pub objects : new.objects ≡ old.objects

-- the reply isn't `ok`, and nothing changed
pub record Refuses (old : Named) (reply : Reply) (new : Named) : Type 0 where
  pub shown : is_ok reply ≡ false
  pub same : IsSame old new

pub refuses : {old new : Named} {reply : Reply} (text : List ℕ) → is_ok (said text) ≡ false → reply ≡ said text → IsSame old new → Refuses old reply new
refuses text fails is rest = record { shown = ap is_ok is ∙ fails; same = rest }

-- a state that doesn't change has unchanged ids and objects
pub same_named : {S : Type 0} (named : S → Named) {old new : S} → new ≡ old → IsSame (named old) (named new)
same_named named is = record { ids = ap (λ s. (named s).ids) is; objects = ap (λ s. (named s).objects) is }

-- the id, which wasn't live, gets an object of n zeros under a handle that wasn't live
pub record Adds (old : Named) (id n : ℕ) (reply : Reply) (new : Named) : Type 0 where
  pub handle : ℕ
  pub shown : is_ok reply ≡ true
  pub free : get old.ids id ≡ None
  pub unused : get old.objects handle ≡ None
  pub ids : new.ids ≡ insert old.ids id handle
  pub objects : new.objects ≡ insert old.objects handle (replicate n 0)

-- the id and its object are removed
pub record Takes (old : Named) (id : ℕ) (reply : Reply) (new : Named) : Type 0 where
  pub handle : ℕ
  pub shown : is_ok reply ≡ true
  pub live : get old.ids id ≡ Some handle
  pub ids : new.ids ≡ remove old.ids id
  pub objects : new.objects ≡ remove old.objects handle

-- f changes the bytes of the id's object
pub record Changes (old : Named) (id : ℕ) (f : List ℕ → List ℕ) (reply : Reply) (new : Named) : Type 0 where
  pub handle : ℕ
  pub bytes : List ℕ
  pub shown : is_ok reply ≡ true
  pub live : get old.ids id ≡ Some handle
  pub found : get old.objects handle ≡ Some bytes
  pub ids : new.ids ≡ old.ids
  pub objects : new.objects ≡ insert old.objects handle (f bytes)

-- One command: what it does to the ids and to their objects, and the reply to a read.
abbrev pub NamedTurn : Named → Command → Reply → Named → Type 0
NamedTurn old (Malloc id n) reply new = Adds old id n reply new ⊎ Refuses old reply new
NamedTurn old (Free id) reply new = Takes old id reply new ⊎ Refuses old reply new
NamedTurn old (Write id at bytes) reply new = Changes old id (λ v. written v at bytes) reply new ⊎ Refuses old reply new
NamedTurn old (Resize id n) reply new = Changes old id (λ v. resized v n) reply new ⊎ Refuses old reply new
NamedTurn old (Read id at count) reply new = (reply ≡ said (read_shown (bytes_named old id) at count)) × IsSame old new
NamedTurn old c reply new = IsSame old new

-- ---- the ids stay those of the objects

module _ (old new : Named) (tied : AreTiedTo old.ids old.objects) where
  tied_by : (ids : Ids) (o : Objects) → new.ids ≡ ids → new.objects ≡ o → AreTiedTo ids o → AreTiedTo new.ids new.objects
  tied_by ids o is same names = subst (λ (i : Ids). AreTiedTo i new.objects) (sym is) (subst (λ (m : Objects). AreTiedTo ids m) (sym same) names)

  same_tied : IsSame old new → AreTiedTo new.ids new.objects
  same_tied s = tied_by _ _ s.ids s.objects tied

  change_tied : (id : ℕ) (f : List ℕ → List ℕ) (reply : Reply) → Changes old id f reply new ⊎ Refuses old reply new → AreTiedTo new.ids new.objects
  change_tied id f reply (inl c) = tied_by _ _ c.ids c.objects (tied_same old.ids old.objects tied c.handle c.bytes _ c.found)
  change_tied id f reply (inr r) = same_tied r.same

  pub still_tied : (c : Command) (reply : Reply) → NamedTurn old c reply new → AreTiedTo new.ids new.objects
  still_tied (Malloc id n) reply (inl a) = tied_by _ _ a.ids a.objects (tied_more old.ids old.objects tied id a.handle (replicate n 0) a.free a.unused)
  still_tied (Malloc id n) reply (inr r) = same_tied r.same
  still_tied (Free id) reply (inl t) = tied_by _ _ t.ids t.objects (tied_less old.ids old.objects tied id t.handle t.live)
  still_tied (Free id) reply (inr r) = same_tied r.same
  still_tied (Write id at bytes) reply turn = change_tied id _ reply turn
  still_tied (Resize id n) reply turn = change_tied id _ reply turn
  still_tied (Read id at count) reply turn = same_tied turn.1
  still_tied c reply turn = same_tied turn

-- ---- the bytes after a reply

abbrev pub next : Command → Objects → Reply → Objects
next c m reply = cond (is_ok reply) (bytes_after c m) m

module _ (old new : Named) (m : Objects) (tied : AreTiedTo old.ids old.objects) (shown : AreBytesOf old.ids old.objects m) where
  -- bytes that follow from ids and objects follow from equal ids and objects
  shown_with : (ids : Ids) (o : Objects) (after : Objects) → new.ids ≡ ids → new.objects ≡ o → AreBytesOf ids o after → AreBytesOf new.ids new.objects after
  shown_with ids o after e f is = subst (λ i. AreBytesOf i new.objects after) (sym e) (subst (λ b. AreBytesOf ids b after) (sym f) is)

  moved : (c : Command) (reply : Reply) → is_ok reply ≡ true → AreBytesOf new.ids new.objects (bytes_after c m) → AreBytesOf new.ids new.objects (next c m reply)
  moved c reply passes after = rw passes after

  refused : (c : Command) (reply : Reply) → Refuses old reply new → AreBytesOf new.ids new.objects (next c m reply)
  refused c reply r = let fails = r.shown in rw fails (shown_with _ _ m (r.same).ids (r.same).objects shown)

  -- a command that changes no bytes
  kept_shown : (b : Bool) → IsSame old new → AreBytesOf new.ids new.objects (cond b m m)
  kept_shown true s = shown_with _ _ m s.ids s.objects shown
  kept_shown false s = shown_with _ _ m s.ids s.objects shown

  -- the bytes of one id change
  changed_shown : (id : ℕ) (f : List ℕ → List ℕ) (reply : Reply) → Changes old id f reply new → AreBytesOf new.ids new.objects (changed m id f)
  changed_shown id f reply c =
      let here = shown_here old.ids old.objects m tied shown id c.handle c.live c.bytes c.found in
      subst (λ t. AreBytesOf new.ids new.objects t) (sym (changed_is m id f c.bytes here))
      (shown_with old.ids (insert old.objects c.handle (f c.bytes)) (insert m id (f c.bytes)) c.ids c.objects
      (shown_changed old.ids old.objects m tied shown id c.handle c.live (f c.bytes)))

  turn_shown : (c : Command) (reply : Reply) → NamedTurn old c reply new → AreBytesOf new.ids new.objects (next c m reply)
  turn_shown (Malloc id n) reply (inl a) = moved (Malloc id n) reply a.shown
      (shown_with _ _ _ a.ids a.objects (shown_added old.ids old.objects m tied shown id a.handle (replicate n 0) a.unused))
  turn_shown (Malloc id n) reply (inr r) = refused (Malloc id n) reply r
  turn_shown (Free id) reply (inl t) = moved (Free id) reply t.shown
      (shown_with _ _ _ t.ids t.objects (shown_gone old.ids old.objects m tied shown id t.handle t.live))
  turn_shown (Free id) reply (inr r) = refused (Free id) reply r
  turn_shown (Write id at bytes) reply (inl c) = moved (Write id at bytes) reply c.shown (changed_shown id (λ v. written v at bytes) reply c)
  turn_shown (Write id at bytes) reply (inr r) = refused (Write id at bytes) reply r
  turn_shown (Resize id n) reply (inl c) = moved (Resize id n) reply c.shown (changed_shown id (λ v. resized v n) reply c)
  turn_shown (Resize id n) reply (inr r) = refused (Resize id n) reply r
  turn_shown (Read id at count) reply turn = kept_shown (is_ok reply) turn.1
  turn_shown c reply turn = kept_shown (is_ok reply) turn

  turn_reads : (c : Command) (reply : Reply) → NamedTurn old c reply new → IsReadOf (Some m) (asks c) reply
  turn_reads (Read id at count) reply turn = turn.0 ∙ ap (λ (o : Option (List ℕ)). said (read_shown o at count)) (sym (shown id))
  turn_reads c reply turn = tt

-- The rules of a run, by ids and objects: a run begins without ids, its ids are those of its objects, and each command changes them as in `NamedTurn`.
pub record NamesObjects {S : Type 0} (begins : Profile → Reply → S → Type 0) (turns : S → Command → Reply → S → Type 0) : Type 1 where
  pub is_going : S → Type 0
  pub named : S → Named
  pub tied : (s : S) → is_going s → AreTiedTo (named s).ids (named s).objects
  pub begins_going : (p : Profile) (reply : Reply) (s : S) → begins p reply s → is_going s
  pub begins_empty : (p : Profile) (reply : Reply) (s : S) → begins p reply s → (named s).ids ≡ empty
  pub still_going : (old : S) (c : Command) (reply : Reply) (new : S) → is_going old → turns old c reply new → is_going new
  pub turns_named : (old : S) (c : Command) (reply : Reply) (new : S) → is_going old → turns old c reply new → NamedTurn (named old) c reply (named new)

no_read : (t : Option Objects) (reply : Reply) (p : Profile) → IsReadOf t (starts p) reply
no_read None reply p = tt
no_read (Some m) reply p = tt

no_bad : (t : Option Objects) (reply : Reply) (n : ℕ) → IsReadOf t (bad n) reply
no_bad None reply n = tt
no_bad (Some m) reply n = tt

module _ {S : Type 0} (begins : Profile → Reply → S → Type 0) (turns : S → Command → Reply → S → Type 0) (rules : NamesObjects begins turns) where
  -- a run in progress and the bytes that follow from its lines, which are those of its objects; or neither has begun
  abbrev AreTogether : Option S → Option Objects → Type 0
  AreTogether None None = Unit {0}
  AreTogether None (Some m) = ⊥
  AreTogether (Some s) None = ⊥
  AreTogether (Some s) (Some m) = rules.is_going s × AreBytesOf (rules.named s).ids (rules.named s).objects m

  fresh_shown : (p : Profile) (reply : Reply) (s : S) → begins p reply s → AreBytesOf (rules.named s).ids (rules.named s).objects empty
  fresh_shown p reply s begun q = get-empty nat_cmp q
      ∙ sym (ap (through (rules.named s).objects) (ap (λ (t : Ids). get t q) (rules.begins_empty p reply s begun) ∙ get-empty nat_cmp q))

  item_shown : (old : Option S) (t : Option Objects) (item : Item) (reply : Reply) (new : Option S) → AreTogether old t
      → PlayStep begins turns old item reply new → AreTogether new (shown_after t item reply) × IsReadOf t item reply
  item_shown old t (starts p) reply new with_it step = (
    subst (λ s. AreTogether s (Some empty)) (sym step.2) (rules.begins_going p reply step.0 step.1, fresh_shown p reply step.0 step.1),
    no_read t reply p,
  )
  item_shown None None (asks c) reply new with_it step = (subst (λ s. AreTogether s None) (sym step.1) tt, tt)
  item_shown None (Some m) (asks c) reply new with_it step = absurd with_it
  item_shown (Some old) None (asks c) reply new with_it step = absurd with_it
  item_shown (Some old) (Some m) (asks c) reply new with_it step =
      let turn = rules.turns_named old c reply step.0 with_it.0 step.1 in
      let names = rules.tied old with_it.0 in (
        subst (λ s. AreTogether s (Some (next c m reply))) (sym step.2)
            (rules.still_going old c reply step.0 with_it.0 step.1, turn_shown (rules.named old) (rules.named step.0) m names with_it.1 c reply turn),
        turn_reads (rules.named old) (rules.named step.0) m names with_it.1 c reply turn,
      )
  item_shown old t (bad n) reply new with_it step = (subst (λ s. AreTogether s t) (sym step.1) with_it, no_bad t reply n)

  run_reads : (old : Option S) (t : Option Objects) (items : List Item) (replies : List Reply) (new : Option S) → AreTogether old t
      → PlayRun begins turns old items replies new → AreReadsOf t items replies
  run_reads old t [] replies new with_it run = tt
  run_reads old t (item ∷ rest) replies new with_it run =
      let one = item_shown old t item run.1 run.0 with_it run.3 in
      let e = run.4 in
      rw e (one.1, run_reads run.0 (shown_after t item run.1) rest run.2 new one.0 run.5)

  -- over a run, reads print the bytes that follow from the lines and their replies
  pub any_reads_are_shown : (items : List Item) (replies : List Reply) (new : Option S) → PlayRun begins turns None items replies new
      → AreReadsOf None items replies
  any_reads_are_shown items replies new run = run_reads None None items replies new tt run
