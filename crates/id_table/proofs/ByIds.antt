-- The objects of a session, or any values of its handles, as a map from ids: what it has for an id, its length, sums over it, and how it changes with the
-- ids and with the values.
use Rattle.std.proofs.Common.{◌≡◌, ◌≢◌, ℕ, List, [], Option, Some, None, sym, ◌∙◌, ap, refl, inl, inr}
use Rattle.std.specs.Prelude.{option_map}
use Rattle.std.specs.Option.{unwrap_or}
use Rattle.std.proofs.lemmas.Bool.{cases_eq}
use Rattle.std.specs.Ordering.{nat_cmp}
use Rattle.std.specs.FinMap.{FinMap, empty, get, get-empty, insert, remove}
use Rattle.cf_base.specs.Maps.{map_values}
use Rattle.cf_base.proofs.Maps.{equal_maps, get_inserted, get_insert_other, get_remove_other, get_removed}
use Rattle.cf_base.proofs.MapValues.{get-map_values}
use Rattle.cf_base.proofs.Renaming.{CountAlike, counted_alike}
use Rattle.page_model.specs.Held.{Objects}
use Rattle.id_table.specs.Ids.{Ids}
use Rattle.id_table.specs.Ties.{AreTiedTo}
use Rattle.id_table.specs.ById.{objects_by_id}

-- For any type of values; `d` is the value used for a number that has none.
module _ {V : Type 0} (d : V) where
  abbrev pub under : FinMap nat_cmp V → ℕ → V
  under m h = unwrap_or (get m h) d

  abbrev pub renamed : Ids → FinMap nat_cmp V → FinMap nat_cmp V
  renamed ids m = map_values (under m) ids

  pub get-renamed : (ids : Ids) (m : FinMap nat_cmp V) (id : ℕ) → get (renamed ids m) id ≡ option_map (under m) (get ids id)
  get-renamed ids m id = get-map_values (under m) ids id

  module _ (ids : Ids) (m : FinMap nat_cmp V) where
    pub live_renamed : (id h : ℕ) (v : V) → get ids id ≡ Some h → get m h ≡ Some v → get (renamed ids m) id ≡ Some v
    live_renamed id h v named some = get-renamed ids m id ∙ ap (option_map (under m)) named ∙ ap (λ o. Some (unwrap_or o d)) some

    pub gone_renamed : (id : ℕ) → get ids id ≡ None → get (renamed ids m) id ≡ None
    gone_renamed id none = get-renamed ids m id ∙ ap (option_map (under m)) none

    -- an id with a value has a number
    pub numbered_renamed : (id : ℕ) (v : V) → get (renamed ids m) id ≡ Some v → (h : ℕ) × (get ids id ≡ Some h)
    numbered_renamed id v is = go (get ids id) refl
      where
        go : (o : Option ℕ) → get ids id ≡ o → (h : ℕ) × (get ids id ≡ Some h)
        go None e = absurd (let f : Some v ≡ None = sym is ∙ gone_renamed id e in cc)
        go (Some h) e = (h, e)

    -- an id without one has none
    pub unnumbered_renamed : (id : ℕ) → get (renamed ids m) id ≡ None → get ids id ≡ None
    unnumbered_renamed id is = go (get ids id) refl
      where
        go : (o : Option ℕ) → get ids id ≡ o → get ids id ≡ None
        go None e = e
        go (Some h) e = absurd (let f : Some (under m h) ≡ None = sym (get-renamed ids m id ∙ ap (option_map (under m)) e) ∙ is in cc)

  module _ (ids : Ids) (m : FinMap nat_cmp V) (names : AreTiedTo ids m) where
    -- a value by id is one by number
    pub found_renamed : (id : ℕ) (v : V) → get (renamed ids m) id ≡ Some v → (h : ℕ) × (get ids id ≡ Some h) × (get m h ≡ Some v)
    found_renamed id v is =
        let h = numbered_renamed ids m id v is in
        let w = names.named id h.0 h.1 in
        let e : Some w.0 ≡ Some v = sym (live_renamed ids m id h.0 w.0 h.1 w.1) ∙ is in
        (h.0, h.1, w.1 ∙ e)

    -- the values by id count as those by number do
    pub renamed_counts : CountAlike m (renamed ids m)
    renamed_counts = counted_alike (renamed ids m) ids m (record {
      found = found_renamed;
      all = λ h v is.
          let id = names.all h v is in
          (id.0, id.1, live_renamed ids m id.0 h v id.1 is);
      once = names.once;
    })

    -- if only the value of one id changes, the other ids keep theirs
    module _ (ids' : Ids) (m' : FinMap nat_cmp V) (id h : ℕ) (same_ids : (q : ℕ) → q ≢ id → get ids' q ≡ get ids q)
        (same : (g : ℕ) → g ≢ h → get m' g ≡ get m g) (own : (q g : ℕ) → q ≢ id → get ids q ≡ Some g → g ≢ h) where
      same_under : (q : ℕ) → q ≢ id → (o : Option ℕ) → get ids q ≡ o → option_map (under m') o ≡ option_map (under m) o
      same_under q ne None e = refl
      same_under q ne (Some g) e = ap (λ o. Some (unwrap_or o d)) (same g (own q g ne e))

      elsewhere : (q : ℕ) → q ≢ id → get (renamed ids' m') q ≡ get (renamed ids m) q
      elsewhere q ne =
          get-renamed ids' m' q ∙ ap (option_map (under m')) (same_ids q ne) ∙ same_under q ne (get ids q) refl ∙ sym (get-renamed ids m q)

    -- the values by id after a fresh id gets a value under a fresh number
    pub given_renamed : (id h : ℕ) (v : V) → get m h ≡ None → renamed (insert ids id h) (insert m h v) ≡ insert (renamed ids m) id v
    given_renamed id h v unused = equal_maps _ _ (λ q. elim (cases_eq q id) [
      | inl is ↦ rw is (live_renamed (insert ids id h) (insert m h v) id h v (get_inserted ids id h) (get_inserted m h v)
          ∙ sym (get_inserted (renamed ids m) id v))
      | inr ne ↦ elsewhere (insert ids id h) (insert m h v) id h (λ q ne. get_insert_other ids id h q ne) (λ g ne. get_insert_other m h v g ne) own q ne
          ∙ sym (get_insert_other (renamed ids m) id v q ne)
    ])
      where
        own : (q g : ℕ) → q ≢ id → get ids q ≡ Some g → g ≢ h
        own q g ne named is =
            let w = names.named q g named in
            let e : Some w.0 ≡ None = sym w.1 ∙ ap (get m) is ∙ unused in
            absurd (let f : Some w.0 ≡ None = e in cc)

    module _ (id h : ℕ) (named : get ids id ≡ Some h) where
      own : (q g : ℕ) → q ≢ id → get ids q ≡ Some g → g ≢ h
      own q g ne other is = ne (names.once id q h named (other ∙ ap (λ k. Some k) is))

      -- the values by id after an id and its number are removed
      pub gone_with : renamed (remove ids id) (remove m h) ≡ remove (renamed ids m) id
      gone_with = equal_maps _ _ (λ q. elim (cases_eq q id) [
        | inl is ↦ rw is (gone_renamed (remove ids id) (remove m h) id (get_removed ids id) ∙ sym (get_removed (renamed ids m) id))
        | inr ne ↦ elsewhere (remove ids id) (remove m h) id h (λ q ne. get_remove_other ids id q ne) (λ g ne. get_remove_other m h g ne) own q ne
            ∙ sym (get_remove_other (renamed ids m) id q ne)
      ])

      -- what an id names gets another value
      pub changed_renamed : (v : V) → renamed ids (insert m h v) ≡ insert (renamed ids m) id v
      changed_renamed v = equal_maps _ _ (λ q. elim (cases_eq q id) [
        | inl is ↦ rw is (live_renamed ids (insert m h v) id h v named (get_inserted m h v) ∙ sym (get_inserted (renamed ids m) id v))
        | inr ne ↦ elsewhere ids (insert m h v) id h (λ q ne. refl) (λ g ne. get_insert_other m h v g ne) own q ne
            ∙ sym (get_insert_other (renamed ids m) id v q ne)
      ])

-- The same facts if the values are the bytes of objects (`objects_by_id`).
module _ (ids : Ids) (m : Objects) where
  pub live_by_id : (id h : ℕ) (v : List ℕ) → get ids id ≡ Some h → get m h ≡ Some v → get (objects_by_id ids m) id ≡ Some v
  live_by_id = live_renamed [] ids m

  pub gone_by_id : (id : ℕ) → get ids id ≡ None → get (objects_by_id ids m) id ≡ None
  gone_by_id = gone_renamed [] ids m

  pub numbered_by_id : (id : ℕ) (v : List ℕ) → get (objects_by_id ids m) id ≡ Some v → (h : ℕ) × (get ids id ≡ Some h)
  numbered_by_id = numbered_renamed [] ids m

  pub unnumbered_by_id : (id : ℕ) → get (objects_by_id ids m) id ≡ None → get ids id ≡ None
  unnumbered_by_id = unnumbered_renamed [] ids m

-- without ids there are no objects by id
pub none_by_id : (m : Objects) → objects_by_id empty m ≡ empty
none_by_id m = equal_maps _ _ (λ q. gone_by_id empty m q (get-empty nat_cmp q) ∙ sym (get-empty nat_cmp q))

module _ (ids : Ids) (m : Objects) (names : AreTiedTo ids m) where
  pub found_by_id : (id : ℕ) (v : List ℕ) → get (objects_by_id ids m) id ≡ Some v → (h : ℕ) × (get ids id ≡ Some h) × (get m h ≡ Some v)
  found_by_id = found_renamed [] ids m names

  pub by_id_counts : CountAlike m (objects_by_id ids m)
  by_id_counts = renamed_counts [] ids m names

  pub by_id_given : (id h : ℕ) (v : List ℕ) → get m h ≡ None → objects_by_id (insert ids id h) (insert m h v) ≡ insert (objects_by_id ids m) id v
  by_id_given = given_renamed [] ids m names

  pub by_id_gone : (id h : ℕ) → get ids id ≡ Some h → objects_by_id (remove ids id) (remove m h) ≡ remove (objects_by_id ids m) id
  by_id_gone = gone_with [] ids m names

  pub by_id_changed : (id h : ℕ) → get ids id ≡ Some h → (v : List ℕ) → objects_by_id ids (insert m h v) ≡ insert (objects_by_id ids m) id v
  by_id_changed = changed_renamed [] ids m names
