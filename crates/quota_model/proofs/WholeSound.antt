-- For `TaskImages`: if any number of pages of a class may be partly full, the objects of all tasks together are a sound arrangement; their image is the same
-- with bound 1.
use Rattle.std.proofs.Common.{◌≡◌, ℕ, ◌+◌, ◌≤◌, List, Some, length, get_or, arith, ap, sym, ◌∙◌, refl, inl, inr}
use Rattle.std.specs.Prelude.{IsTrue}
use Rattle.std.proofs.lemmas.Bool.{cases_eq}
use Rattle.std.proofs.lemmas.List.{get_or-replicate}
use Rattle.std.specs.FinMap.{get}
use Rattle.cf_base.specs.Classes.{sizes}
use Rattle.cf_base.specs.Limits.{is_page_size}
use Rattle.cf_base.specs.Settings.{Profile}
use Rattle.cf_base.specs.declared.kind.Layout.TheVariants.{Words}
use Rattle.cf_base.proofs.Ranges.{count_at_most}
use Rattle.page_model.specs.Arrangement.{IsSound, not_full_pages}
use Rattle.page_model.specs.Held.{Held, Placed}
use Rattle.page_model.specs.Image.{IsSlotImage, slot_for}
use Rattle.page_model.specs.Paging.{IsPaging, Paging, class_for, first_bounds, page_of, paging_of}
use Rattle.page_model.proofs.CallerLemmas.{first_paged}
use Rattle.quota_model.specs.Parts.{number_in_task, objects_of_task, task_of}
use Rattle.quota_model.specs.Refusals.{task_paging}
use Rattle.quota_model.specs.Shared.{IsShared}
use Rattle.quota_model.proofs.TaskParts.{found_part}

-- the pages and classes of tasks, in which every page of a class may be partly full
abbrev pub wide : Profile → Paging
wide s = paging_of s Words (first_bounds (record s { k = s.pages + 1 }) Words)

pub wide_paged : (s : Profile) → IsTrue (is_page_size s.page_words) → IsPaging (wide s)
wide_paged s is_page = first_paged (record s { k = s.pages + 1 }) Words is_page (omega arith)

pub wide_slot : (s : Profile) (n : ℕ) → slot_for (wide s) n ≡ slot_for (task_paging s) n
unfolding class_for
wide_slot s n = refl

-- an image by the slots of the tasks' paging is one by the slots of `wide`: the slot sizes are the same
pub to_wide : (s : Profile) (m : Held) (words : List ℕ) → IsSlotImage (task_paging s) m words → IsSlotImage (wide s) m words
unfolding class_for
to_wide s m words im = im

pub from_wide : (s : Profile) (m : Held) (words : List ℕ) → IsSlotImage (wide s) m words → IsSlotImage (task_paging s) m words
unfolding class_for
from_wide s m words im = im

module _ (s : Profile) (m : Held) (shared : IsShared s m) where
  -- two objects on the same page are of the same task
  with_task : (h : ℕ) (x : Placed) (q : ℕ) (y : Placed) → get m h ≡ Some x → get m q ≡ Some y
      → page_of (task_paging s) x.place ≡ page_of (task_paging s) y.place → task_of h ≡ task_of q
  with_task h x q y e f page = shared.apart h x q y e f page

  pub whole_sound : IsSound (wide s) m
  unfolding class_for not_full_pages
  whole_sound = record {
    slots = λ h x e. (
        let a = (shared.sound (task_of h)).slots (number_in_task h) x (found_part m h x e) in
        record { class = a.class; page = a.page; aligned = a.aligned; fits = a.fits });
    own_place = λ h x q y e f ne same. elim (cases_eq (task_of q) (task_of h)) [
      | inl is ↦ (
          let g : get (objects_of_task m (task_of h)) (number_in_task q) ≡ Some y = ap (λ t. get (objects_of_task m t) (number_in_task q)) (sym is) ∙ found_part m q y f in
          (shared.sound (task_of h)).own_place (number_in_task h) x (number_in_task q) y (found_part m h x e) g (λ n. ne (omega arith)) same)
      | inr other ↦ other (sym (with_task h x q y e f (ap (page_of (task_paging s)) same)))
    ];
    one_class = λ h x q y e f page. (
        let is = with_task h x q y e f page in
        let g : get (objects_of_task m (task_of h)) (number_in_task q) ≡ Some y = ap (λ t. get (objects_of_task m t) (number_in_task q)) is ∙ found_part m q y f in
        (shared.sound (task_of h)).one_class (number_in_task h) x (number_in_task q) y (found_part m h x e) g page);
    few_not_full = λ c lt. (
        let most : not_full_pages (wide s) m c ≤ s.pages = count_at_most _ 0 s.pages in
        let bound : get_or (first_bounds (record s { k = s.pages + 1 }) Words) c 0 ≡ s.pages + 1 =
        get_or-replicate (length (sizes s.page_words Words)) c (s.pages + 1) 0 lt in
        omega (arith, most));
  }
