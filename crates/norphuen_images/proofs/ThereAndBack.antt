-- For the laws on images: the bytes that a save wrote are the heap's image, a load of them finds its objects, and heaps with the same settings and objects have
-- one image.
use Rattle.std.proofs.Common.{◌≡◌, ◌∙◌, ◌≤◌, ℕ, ℤ, pos, Some, None, length, take, ap, subst, sym, inl, inr}
use Rattle.std.proofs.Math.Seq.{take-append_seam}
use Rattle.cf_base.specs.Settings.{Profile, at_bound_one}
use Rattle.cf_base.proofs.Tests.{within_limits}
use Rattle.c_base.specs.CallerHeap.{CallerHeap, Closed, Opened, Lent}
use Rattle.page_model.specs.Held.{Objects}
use Rattle.id_table.specs.ById.{bytes_of}
use Rattle.id_table.specs.Sessions.{AreTied, RunState}
use Rattle.heap_image.specs.Decoded.{Decoded, decoded, whole}
use Rattle.heap_image.specs.Heaps.{heap_image, live_objects}
use Rattle.norphuen_images.specs.Calls.{IsSaveCall, Saved, at_bound, image_in}
use Rattle.norphuen_images.specs.CallerImages.{IsImageLoaded, IsLoadAt, IsLoadCall, IsLoadedAgain}
use Rattle.norphuen_images.specs.State.{IsNamed}

saved_is : (s kept : RunState) (before after : Saved) → IsSaveCall s before (pos 0) after kept → image_in after ≡ heap_image s
saved_is s kept before after (inl (done, fits, out, written), same) =
    ap (λ n. take n after.out) written ∙ ap (take (length (heap_image s))) out ∙ take-append_seam (heap_image s) _
saved_is s kept before after (inr (code, less, same_out), same) = absurd (let z : pos 0 ≡ pos 5 = code in cc)

parts_of : (p q : Profile) (a b : Objects) → whole p a ≡ whole q b → (p ≡ q) × (a ≡ b)
parts_of p q a b same = (let z : Some p ≡ Some q = ap (λ (d : Decoded). d.settings) same in cc, ap (λ (d : Decoded). d.objects) same)

pub loaded_again : (p : Profile) (s kept : RunState) (before after : Saved) (last k offset offset2 : ℕ) (code : ℤ) (new : CallerHeap RunState)
    → decoded (heap_image s) ≡ whole (at_bound_one s.heap.profile) (live_objects s) → IsSaveCall s before (pos 0) after kept → 1 ≤ k → k ≤ 64
    → IsLoadCall (Closed last) (image_in after) k offset code offset2 new → IsLoadedAgain s k code new
loaded_again p s kept before after last k offset offset2 code new reads saved least most loaded =
    go new (subst (λ b. IsLoadAt b last (image_in after) k offset code offset2 new) (within_limits 1 64 k least most) loaded)
  where
    shown : decoded (image_in after) ≡ whole (at_bound_one s.heap.profile) (live_objects s)
    shown = ap decoded (saved_is s kept before after saved) ∙ reads

    go : (new : CallerHeap RunState) → IsImageLoaded (image_in after) last k offset code offset2 new → IsLoadedAgain s k code new
    go (Opened h) loaded =
        let image = loaded.2 in
        let same = parts_of _ _ _ _ (sym image.reads ∙ shown) in
        (loaded.0, image.named.profile ∙ ap (at_bound k) same.0, image.holds ∙ same.1)
    go (Closed now) (inl (bad, broken), same) = absurd (let z : None ≡ Some offset2 = sym (ap (λ (d : Decoded). d.broken) shown) ∙ broken in cc)
    go (Closed now) (inr (lacks, kept_is), same) = lacks
    go (Lent h w) loaded = loaded

pub one_image : ((one other : RunState) → AreTied one.session one.heap → AreTied other.session other.heap → other.heap.profile.pages ≡ one.heap.profile.pages
    → other.heap.profile.page_words ≡ one.heap.profile.page_words → other.heap.profile.proxies ≡ one.heap.profile.proxies
    → ((id : ℕ) → bytes_of other id ≡ bytes_of one id) → heap_image other ≡ heap_image one)
    → (p q : Profile) (one other kept kept2 : RunState) (before before2 after after2 : Saved) → IsNamed p one → IsNamed q other → at_bound_one q ≡ at_bound_one p
    → ((id : ℕ) → bytes_of other id ≡ bytes_of one id) → IsSaveCall one before (pos 0) after kept → IsSaveCall other before2 (pos 0) after2 kept2
    → image_in after2 ≡ image_in after
one_image law p q one other kept kept2 before before2 after after2 named named2 settings same saved saved2 =
    let all : at_bound_one other.heap.profile ≡ at_bound_one one.heap.profile = ap at_bound_one named2.profile ∙ settings ∙ sym (ap at_bound_one named.profile) in
    saved_is other kept2 before2 after2 saved2
    ∙ law one other named.going.tied named2.going.tied (ap (λ (r : Profile). r.pages) all) (ap (λ (r : Profile). r.page_words) all) (ap (λ (r : Profile). r.proxies) all) same
    ∙ sym (saved_is one kept before after saved)
