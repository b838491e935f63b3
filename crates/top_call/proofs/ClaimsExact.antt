-- For the law `wrong_images_fall_short`: the claims of modes `save` and `load` allow one output, so an output that is empty, of another length, or of other
-- objects doesn't meet them.
use Rattle.std.proofs.Common.{◌≡◌, ◌≢◌, ◌∙◌, ◌+◌, ◌*◌, ℕ, List, [], Option, Some, None, true, length, arith, refl, ap, sym, option_map}
use Rattle.run_model.specs.Terms.{get, insert, items, len, Moving, Objects, Profile}
use Rattle.cf_base.proofs.Maps.{len_fresh}
use Rattle.script_laws.proofs.CallerLemmas.{view}
use Rattle.script_laws.specs.ShownHeap.{ShownHeap}
use Rattle.heap_image.specs.Decoded.{Decoded, decoded, whole}
use Rattle.heap_image.specs.Heaps.{HaveImage, image_under}
use Rattle.top_call.specs.ImageScript.{script_under, after_items, state_of_objects, script_items}
use Rattle.page_model.specs.Figures.{asked_bytes}
use Rattle.page_model.proofs.CallerLemmas.{asked_added}
use Rattle.script_laws.specs.ById.{ById}
use Rattle.top_call.specs.ImageClaims.{MeetsLoad, MeetsSave, image_shown}
use Rattle.top_call.proofs.Loaded.{asked_ones, asked_places, makes, run_leaves}
use Rattle.top_call.proofs.Printed.{read_back, image_long}

module _ (p : Profile) (o : Objects) (h : HaveImage p o) where
  pub saves_exactly : (printed : List ℕ) → MeetsSave (script_items p o) printed → printed ≡ image_under p o
  saves_exactly printed m = m.image ∙ go m.left (run_leaves Moving refl (script_items p o) None m.left m.replies tt (asked_ones p o h) (asked_places p o h) m.answered
      ∙ makes p o h)
    where
      go : (left : Option ShownHeap) → option_map view left ≡ Some (state_of_objects p o) → image_shown left ≡ image_under p o
      go None e = absurd (let f : ◌≡◌ {A = Option ById} None (Some (state_of_objects p o)) = e in cc)
      go (Some t) e =
          let f : Some (view t) ≡ Some (state_of_objects p o) = e in
          let same : view t ≡ state_of_objects p o = cc in
          ap (λ (v : ById). image_under v.profile v.objects) same

  -- empty output and output of another length don't meet the claim of mode `save`
  pub nothing_saved : ¬ MeetsSave (script_items p o) []
  nothing_saved m =
      let e = ap (length {A = ℕ}) (saves_exactly [] m) in
      let long = image_long o h.ids p in
      omega (arith, e, long)

  pub another_length : (printed : List ℕ) → length printed ≢ 20 + 6 * len o + asked_bytes o → ¬ MeetsSave (script_items p o) printed
  another_length printed other m = other (ap (length {A = ℕ}) (saves_exactly printed m) ∙ image_long o h.ids p)

  -- an image with an entry too many doesn't meet the claim of mode `save`
  pub entry_over : (id : ℕ) (v : List ℕ) → get o id ≡ None → HaveImage p (insert o id v) → ¬ MeetsSave (script_items p o) (image_under p (insert o id v))
  entry_over id v none more m =
      let e = ap (length {A = ℕ}) (saves_exactly (image_under p (insert o id v)) m) in
      let long = image_long o h.ids p in
      let longer = image_long (insert o id v) more.ids p in
      let one = len_fresh o id v none in
      let asked = asked_added o id v none in
      omega (arith, e, long, longer, one, asked)

  module _ (n : Objects) (other : n ≢ o) where
    -- the image of other objects doesn't meet the claim of mode `save`
    pub others_saved : ((p q : Profile) (o n : Objects) → HaveImage p o → HaveImage q n → image_under p o ≡ image_under q n → (p ≡ q) × (o ≡ n))
        → HaveImage p n → ¬ MeetsSave (script_items p o) (image_under p n)
    others_saved determines have m = other (determines p p n o have h (saves_exactly (image_under p n) m)).1

  module _ (reads : decoded (image_under p o) ≡ whole p o) where
    pub loads_exactly : (printed : List ℕ) → MeetsLoad (image_under p o) printed → printed ≡ script_under p o
    loads_exactly printed m =
        let e : whole p o ≡ whole m.profile m.objects = sym reads ∙ m.image in
        let settings : Some p ≡ Some m.profile = ap (λ (d : Decoded). d.settings) e in
        let profile : p ≡ m.profile = cc in
        m.script ∙ (λ i. script_under (sym profile i) (sym (ap (λ (d : Decoded). d.objects) e) i))

    -- the script of other objects doesn't meet the claim of mode `load`
    pub others_loaded : (n : Objects) → n ≢ o → HaveImage p n → ¬ MeetsLoad (image_under p o) (script_under p n)
    others_loaded n other have m =
        let e = loads_exactly (script_under p n) m in
        let same : script_items p n ≡ script_items p o = sym (read_back p n have) ∙ ap (λ (b : List ℕ). items b true) e ∙ read_back p o h in
        let held : Some (state_of_objects p n) ≡ Some (state_of_objects p o) = sym (makes p n have) ∙ ap (after_items Moving None) same ∙ makes p o h in
        let is : state_of_objects p n ≡ state_of_objects p o = cc in
        other (ap (λ (t : ById). t.objects) is)

    -- empty output doesn't meet the claim of mode `load`
    pub nothing_loaded : ¬ MeetsLoad (image_under p o) []
    nothing_loaded m =
        let e = loads_exactly [] m in
        let same : [] ≡ script_items p o = ap (λ (b : List ℕ). items b true) e ∙ read_back p o h in
        absurd cc
