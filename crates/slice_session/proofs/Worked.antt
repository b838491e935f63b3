-- For `wrong_sliced_replies_fall_short`: the right replies to the small script meet the claim, and wrong ones don't.
use Rattle.std.proofs.Common.{◌≡◌, ℕ, true, List, [], ◌∷◌, Option, Some, None, drop, length, replicate, get_or, sym, ◌∙◌, ap, refl, subst, inl, inr, codes}
use Rattle.std.proofs.lemmas.Bool.{cases_eq}
use Rattle.std.specs.Fmt.{digits}
use Rattle.run_model.specs.Terms.{asks, Command, empty, Free, get, insert, Item, items, Malloc, Objects, Profile, remove, Reply, said, Slice, starts}
use Rattle.cf_base.specs.Classes.{sizes_from}
use Rattle.cf_base.proofs.Maps.{equal_maps, get_insert_other, get_remove_other, get_removed}
use Rattle.hex.specs.Hex.{decode_pairs}
use Rattle.page_model.specs.Arrangement.{live, pages_needed_with}
use Rattle.page_model.specs.Paging.{class_for}
use Rattle.slice_session.specs.ShownSlices.{ShownJob, ShownSlices, slices_opened}
use Rattle.slice_session.specs.SliceHeadline.{MeetsSliced, after, slice_line}
use Rattle.slice_session.specs.Small.{MeetsSmallSliced, small_sliced_replies}
use Rattle.slice_session.proofs.OneTranscript.{is_transcript, replies_from, transcript_meets}
use Rattle.script_laws.proofs.CallerLemmas.{counted, got, got_none, listed, listed_none}

abbrev o1 : Objects
o1 = insert empty 1 (replicate 176 0)

abbrev o2 : Objects
o2 = insert o1 2 (replicate 176 0)

abbrev o3 : Objects
o3 = insert o1 3 (replicate 504 0)

-- without the second object only the first is left
second_goes : remove o2 2 ≡ o1
second_goes = equal_maps (remove o2 2) o1 (λ q. elim (cases_eq q 2) [
  | inl is ↦ (let none : get o1 2 ≡ None = simp (got, got_none) in rw is (get_removed o2 2 ∙ sym none))
  | inr ne ↦ get_remove_other o2 2 q ne ∙ get_insert_other o1 2 (replicate 176 0) q ne
])

ruleset maps = (got, got_none, counted, listed, listed_none, second_goes)

abbrev settings : Profile
settings = record { pages = 2; page_words = 64; k = 1; proxies = 8 }

abbrev with : Objects → Option ShownJob → ShownSlices
with o job = record (slices_opened 8 settings) { heap = record (slices_opened 8 settings).heap { objects = o }; job = job }

abbrev job : ℕ → Option ShownJob
job done = Some (record { class = 11; done = done; filled = true })

-- the command has this reply, and leaves this heap
abbrev Steps : ShownSlices → Command → List ℕ → ShownSlices → Type 0
Steps old c text new = (slice_line old c ≡ text) × (after old c ≡ new)

step1 : Steps (with empty None) (Malloc 1 176) (codes "ok") (with o1 None)
unfolding sizes_from class_for live pages_needed_with
step1 = (simp maps, simp maps)

step2 : Steps (with o1 None) (Malloc 2 176) (codes "ok") (with o2 None)
unfolding sizes_from class_for live pages_needed_with
step2 = (simp maps, simp maps)

step3 : Steps (with o2 None) (Free 2) (codes "ok") (with o1 (job 8))
unfolding sizes_from class_for live pages_needed_with
step3 = (simp maps, simp maps)

step4 : Steps (with o1 (job 8)) Slice (codes "left 7") (with o1 (job 16))
unfolding sizes_from class_for live pages_needed_with digits
step4 = (refl, refl)

step5 : Steps (with o1 (job 16)) (Free 1) (codes "busy") (with o1 (job 16))
unfolding sizes_from class_for live pages_needed_with
step5 = (simp maps, simp maps)

step6 : Steps (with o1 (job 16)) (Malloc 3 504) (codes "ok") (with o3 (job 16))
unfolding sizes_from class_for live pages_needed_with
step6 = (simp maps, simp maps)

step7 : Steps (with o3 (job 16)) (Malloc 4 176) (codes "busy") (with o3 (job 16))
unfolding sizes_from class_for live pages_needed_with
step7 = (simp maps, simp maps)

-- the replies to a command and the items after it are its reply and the replies to those items
before : (old : ShownSlices) (c : Command) (text : List ℕ) (new : ShownSlices) (rest : List Item) (replies : List Reply) → Steps old c text new
    → replies_from 8 (Some new) rest ≡ replies → replies_from 8 (Some old) (asks c ∷ rest) ≡ said text ∷ replies
before old c text new rest replies step more = (λ i. said (step.0 i) ∷ replies_from 8 (Some (step.1 i)) rest) ∙ ap (λ l. said text ∷ l) more

abbrev script : List Item
script = starts settings ∷ asks (Malloc 1 176) ∷ asks (Malloc 2 176) ∷ asks (Free 2) ∷ asks Slice ∷ asks (Free 1) ∷ asks (Malloc 3 504) ∷ asks (Malloc 4 176) ∷ []

asked : items (codes "heap 2 512 1 8\nm 1 176\nm 2 176\nf 2\ns\nf 1\nm 3 504\nm 4 176\n") true ≡ script
unfolding decode_pairs
asked = refl

abbrev right : List Reply
right = small_sliced_replies (codes "ok") (codes "left 7") (codes "busy") (codes "ok") (codes "busy")

replies_are : replies_from 8 None script ≡ right
replies_are = ap (λ l. said (codes "ok") ∷ l)
    (before (with empty None) (Malloc 1 176) (codes "ok") (with o1 None) (drop 2 script) _ step1
    (before (with o1 None) (Malloc 2 176) (codes "ok") (with o2 None) (drop 3 script) _ step2
    (before (with o2 None) (Free 2) (codes "ok") (with o1 (job 8)) (drop 4 script) _ step3
    (before (with o1 (job 8)) Slice (codes "left 7") (with o1 (job 16)) (drop 5 script) _ step4
    (before (with o1 (job 16)) (Free 1) (codes "busy") (with o1 (job 16)) (drop 6 script) _ step5
    (before (with o1 (job 16)) (Malloc 3 504) (codes "ok") (with o3 (job 16)) (drop 7 script) _ step6
    (before (with o3 (job 16)) (Malloc 4 176) (codes "busy") (with o3 (job 16)) [] _ step7 refl)))))))

pub right_meets : MeetsSmallSliced (small_sliced_replies (codes "ok") (codes "left 7") (codes "busy") (codes "ok") (codes "busy"))
right_meets = subst (λ l. MeetsSliced 8 l right) (sym asked)
    (subst (MeetsSliced 8 script) replies_are (transcript_meets 8 script (tt, (tt, (tt, (tt, (tt, (tt, (tt, (tt, tt))))))))))

-- only the right replies meet the claim
only_right : (replies : List Reply) → MeetsSmallSliced replies → replies ≡ right
only_right replies meets = is_transcript 8 script replies (tt, (tt, (tt, (tt, (tt, (tt, (tt, (tt, tt)))))))) (subst (λ l. MeetsSliced 8 l replies) asked meets)
    ∙ replies_are

pub eight_replies : (replies : List Reply) → MeetsSmallSliced replies → length replies ≡ 8
eight_replies replies meets = ap (λ l. length l) (only_right replies meets)

abbrev pub letter : ℕ → ℕ → List Reply → ℕ
letter n k l = get_or (get_or (get_or l n []) 0 []) k 0

pub letter_is : (n k : ℕ) (replies : List Reply) → MeetsSmallSliced replies → letter n k replies ≡ letter n k (small_sliced_replies (codes "ok") (codes "left 7") (codes "busy") (codes "ok") (codes "busy"))
letter_is n k replies meets = ap (letter n k) (only_right replies meets)
