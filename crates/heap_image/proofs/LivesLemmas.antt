-- For the laws `live_objects_have_an_image` and `equal_objects_have_one_image`: the live objects of a moving heap need no more pages than it has, whatever the
-- bounds, so they have an image; equal objects have the same one. The bytes under an id are those of the object that its number names.
use Rattle.std.proofs.Common.{◌≡◌, ◌∙◌, ◌+◌, ◌*◌, ◌≤◌, ℕ, List, Option, Some, None, length, refl, ap, sym, subst, arith}
use Rattle.std.specs.Prelude.{option_map}
use Rattle.std.specs.List.{range_with_len}
use Rattle.std.specs.FinMap.{get}
use Rattle.cf_base.specs.Classes.{need}
use Rattle.cf_base.specs.Settings.{Profile, at_bound_one}
use Rattle.cf_base.specs.declared.kind.Kind.{Kind}
use Rattle.cf_base.specs.declared.kind.Kind.TheVariants.{Moving}
use Rattle.cf_base.specs.declared.kind.Layout.TheVariants.{Words}
use Rattle.cf_base.proofs.Maps.{equal_maps}
use Rattle.cf_base.proofs.Renaming.{CountAlike}
use Rattle.cf_model.specs.State.{layout_of, paging_in}
use Rattle.id_table.specs.Ids.{AreWithin}
use Rattle.page_model.specs.Arrangement.{IsSound, free_pages, live, pages_needed, used_pages}
use Rattle.page_model.specs.Bytes.{AreBytes}
use Rattle.page_model.specs.Counts.{ceil_div}
use Rattle.page_model.specs.Held.{Held, Objects, Placed, objects}
use Rattle.page_model.specs.Paging.{IsPaging, Paging, class_for, classes, paging_of, slots_of}
use Rattle.page_model.proofs.CallerLemmas.{class_holds, len-objects, sum_same, bytes_held}
use Rattle.id_table.specs.Sessions.{AreTied, IsGoing, RunState}
use Rattle.id_table.proofs.CallerLemmas.{names_of_objects, by_id_counts, found_by_id, gone_by_id, live_by_id, numbered_by_id}
use Rattle.id_table.specs.Ties.{AreTiedTo}
use Rattle.id_table.specs.ById.{bytes_of}
use Rattle.heap_image.specs.Decoded.{IsHeapImage, image_paging}
use Rattle.heap_image.specs.Heaps.{HaveImage, heap_image, live_objects}
use Rattle.heap_image.specs.Image.{image_of}
use Rattle.heap_image.proofs.Headers.{pages_of}
use Rattle.heap_image.proofs.ImageDecoded.{image_read}

-- the pages that objects need don't depend on the bounds
pub needed_any : (p : Profile) (bounds : List ℕ) (o : Objects) → pages_needed (paging_of p Words bounds) o ≡ pages_needed (image_paging p) o
unfolding pages_needed live class_for
needed_any p bounds o = refl

pub needed_within : (p : Profile) (bounds : List ℕ) (m : Held) → pages_needed (paging_of p Words bounds) (objects m) ≤ used_pages (paging_of p Words bounds) m
    → used_pages (paging_of p Words bounds) m + free_pages (paging_of p Words bounds) m ≡ p.pages → pages_needed (image_paging p) (objects m) ≤ p.pages
needed_within p bounds m less all = (let same = needed_any p bounds (objects m) in omega arith)

-- objects with equal sums over their bytes (`CountAlike`) need the same number of pages
pub needed_alike : (p : Paging) (m n : Objects) → CountAlike m n → pages_needed p n ≡ pages_needed p m
unfolding pages_needed live
needed_alike p m n alike = sum_same _ _ (range_with_len 0 (classes p)) (λ c. ap (λ n. ceil_div n (slots_of p c)) (alike.sums _))

-- the bytes under an id are those of the object that its number names
pub objects_of_is : (s : RunState) → AreTied s.session s.heap → (id : ℕ) → get (live_objects s) id ≡ bytes_of s id
objects_of_is s tied id = go (get s.session.ids id) refl
  where
    go : (o : Option ℕ) → get s.session.ids id ≡ o → get (live_objects s) id ≡ bytes_of s id
    go None e = gone_by_id s.session.ids (objects s.heap.held) id e
        ∙ sym (ap (λ (o : Option ℕ). option_map (λ (x : Placed). x.bytes) (elim o as (λ _. Option Placed) [ None ↦ None | Some h ↦ get s.heap.held h ])) e)
    go (Some h) e =
        let x = tied.ids.named id h e in
        live_by_id s.session.ids (objects s.heap.held) id h x.0.bytes e (bytes_held s.heap.held h x.0 x.1)
        ∙ sym (ap (λ (o : Option ℕ). option_map (λ (x : Placed). x.bytes) (elim o as (λ _. Option Placed) [ None ↦ None | Some h ↦ get s.heap.held h ])) e
        ∙ ap (option_map (λ (x : Placed). x.bytes)) x.1)

pub same_image : (one other : RunState) → AreTied one.session one.heap → AreTied other.session other.heap
    → other.heap.profile.pages ≡ one.heap.profile.pages → other.heap.profile.page_words ≡ one.heap.profile.page_words
    → other.heap.profile.proxies ≡ one.heap.profile.proxies → ((id : ℕ) → bytes_of other id ≡ bytes_of one id) → heap_image other ≡ heap_image one
same_image one other t u pages words proxies same =
    let o : live_objects other ≡ live_objects one = equal_maps _ _ (λ id. objects_of_is other u id ∙ same id ∙ sym (objects_of_is one t id)) in
    λ i. image_of (pages i) (8 * words i) (proxies i) (o i)

-- a run in progress on a manager of kind Moving: the object under an id is held under the number that the id names
module _ (s : RunState) (going : IsGoing s) (ids : AreWithin s.session.ids) (moving : s.heap.kind ≡ Moving) where
  names : AreTiedTo s.session.ids (objects s.heap.held)
  names = names_of_objects s.session.ids s.heap.held going.tied.ids

  placed : (id : ℕ) (v : List ℕ) → get (live_objects s) id ≡ Some v → (h : ℕ) × (x : Placed) × (get s.heap.held h ≡ Some x) × (v ≡ x.bytes)
  placed id v is =
      let h = found_by_id s.session.ids (objects s.heap.held) names id v is in
      let x = going.tied.ids.named id h.0 h.1 in
      let e : Some v ≡ Some x.0.bytes = sym h.2 ∙ bytes_held s.heap.held h.0 x.0 x.1 in
      let same : v ≡ x.0.bytes = cc in
      (h.0, x.0, x.1, same)

  fits : (h : ℕ) (x : Placed) → get s.heap.held h ≡ Some x → need (length x.bytes) ≤ s.heap.profile.page_words
  fits h x some =
      let keeps = pages_of s.heap moving going.rules in
      let slot = keeps.sound.slots h x some in
      let holds = class_holds (paging_in s.heap) keeps.paging (length x.bytes) slot.class in
      let fit = slot.fits in
      omega arith

  pub lives_have_image : pages_needed (image_paging s.heap.profile) (objects s.heap.held) ≤ s.heap.profile.pages
      → HaveImage (at_bound_one s.heap.profile) (live_objects s)
  lives_have_image room =
      let r = going.rules.settings in
      let counts = by_id_counts s.session.ids (objects s.heap.held) names in
      let same = needed_alike (image_paging s.heap.profile) (objects s.heap.held) (live_objects s) counts in
      record {
        settings = record {
          some_pages = r.some_pages;
          few_pages = r.few_pages;
          page_size = r.page_size;
          some_bound = omega arith;
          low_bound = omega arith;
          some_proxies = r.some_proxies;
          few_proxies = r.few_proxies;
          small_region = r.small_region;
        };
        one = refl;
        ids = λ id v is. (let h = numbered_by_id s.session.ids (objects s.heap.held) id v is in ids.below id h.0 h.1);
        bytes = λ id v is. (let x = placed id v is in subst AreBytes (sym x.3) (going.rules.numbers.bytes x.0 x.1 x.2));
        fit = λ id v is. (let x = placed id v is in subst (λ (w : List ℕ). need (length w) ≤ s.heap.profile.page_words) (sym x.3) (fits x.0 x.1 x.2));
        few = (let a = counts.count in let b = len-objects s.heap.held in let c = going.rules.numbers.few in omega arith);
        room = (let e = needed_any s.heap.profile (image_paging (at_bound_one s.heap.profile)).bounds (live_objects s) in omega arith);
      }

-- the live objects need no more pages than there are
pub room_of : (s : RunState) → IsGoing s → s.heap.kind ≡ Moving
    → ((p : Paging) (m : Held) → IsPaging p → IsSound p m → pages_needed p (objects m) ≤ used_pages p m)
    → ((p : Paging) (m : Held) → IsSound p m → used_pages p m + free_pages p m ≡ p.pages)
    → pages_needed (image_paging s.heap.profile) (objects s.heap.held) ≤ s.heap.profile.pages
room_of s going moving enough adds =
    let keeps = pages_of s.heap moving going.rules in
    let same : paging_in s.heap ≡ paging_of s.heap.profile Words s.heap.bounds = ap (λ (k : Kind). paging_of s.heap.profile (layout_of k) s.heap.bounds)
    moving in
    let paging = subst IsPaging same keeps.paging in
    let sound = subst (λ (p : Paging). IsSound p s.heap.held) same keeps.sound in
    needed_within s.heap.profile s.heap.bounds s.heap.held (enough (paging_of s.heap.profile Words s.heap.bounds) s.heap.held paging sound)
    (adds (paging_of s.heap.profile Words s.heap.bounds) s.heap.held sound)

-- the image of a heap is an image
pub lives_image : (s : RunState) → HaveImage (at_bound_one s.heap.profile) (live_objects s) → IsHeapImage (heap_image s)
lives_image s h = ap (λ d. d.broken) (image_read (at_bound_one s.heap.profile) (live_objects s) h)
