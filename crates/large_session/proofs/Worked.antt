-- For `wrong_large_replies_fall_short`: the right replies to a small script in mode `large`, worked out command by command, meet the claim; replies that meet
-- it are eight, with the same letters in their first lines.
use Rattle.std.proofs.Common.{◌≡◌, ℕ, true, List, [], ◌∷◌, Some, None, drop, length, replicate, get_or, sym, ◌∙◌, ap, refl, codes}
use Rattle.std.specs.Fmt.{digits}
use Rattle.run_model.specs.Terms.{asks, Command, empty, Frag, insert, Item, items, Malloc, Moving, Objects, Profile, Read, Reply, said, starts, Walk, Write, written}
use Rattle.cf_base.specs.Classes.{sizes_from}
use Rattle.hex.specs.Hex.{decode_pairs, encode_with}
use Rattle.page_model.specs.Paging.{class_for}
use Rattle.script_laws.specs.ById.{ById, begun}
use Rattle.script_laws.proofs.CallerLemmas.{got, got_none, listed, listed_none}
use Rattle.large_objects.specs.InnerObjects.{in_class, inner_count, inner_live, inner_pages_with, inner_sum, inner_lengths, part_count}
use Rattle.large_session.specs.LargeHeadline.{large_after, large_replies, large_reply}
use Rattle.large_session.specs.Small.{MeetsSmallLarge, small_large_replies, small_walk}

ruleset maps = (got, got_none, listed, listed_none)

abbrev o1 : Objects
o1 = insert empty 1 (replicate 600 0)

abbrev o2 : Objects
o2 = insert o1 1 (written (replicate 600 0) 503 (170 ∷ 187 ∷ []))

abbrev o3 : Objects
o3 = insert o2 2 (replicate 90 0)

abbrev settings : Profile
settings = record { pages = 8; page_words = 64; k = 1; proxies = 16 }

abbrev with : Objects → ById
with o = record (begun Moving settings) { objects = o }

-- the command has this reply, and leaves these objects
abbrev Steps : Objects → Command → Reply → Objects → Type 0
Steps old c reply new = (large_reply (with old) c ≡ reply) × (large_after (with old) c ≡ with new)

step1 : Steps empty (Malloc 1 600) (said (codes "ok")) o1
unfolding sizes_from class_for inner_count inner_live inner_pages_with inner_sum in_class inner_lengths part_count digits encode_with
step1 = (simp maps, simp maps)

step2 : Steps o1 (Write 1 503 (170 ∷ 187 ∷ [])) (said (codes "ok")) o2
unfolding sizes_from class_for inner_count inner_live inner_pages_with inner_sum in_class inner_lengths part_count digits encode_with
step2 = (simp maps, simp maps)

step3 : Steps o2 (Malloc 2 90) (said (codes "ok")) o3
unfolding sizes_from class_for inner_count inner_live inner_pages_with inner_sum in_class inner_lengths part_count digits encode_with
step3 = (simp maps, simp maps)

step4 : Steps o3 (Read 1 503 2) (said (codes "=aabb")) o3
unfolding sizes_from class_for inner_count inner_live inner_pages_with inner_sum in_class inner_lengths part_count digits encode_with
step4 = (simp maps, refl)

step5 : Steps o3 Walk small_walk o3
unfolding sizes_from class_for inner_count inner_live inner_pages_with inner_sum in_class inner_lengths part_count digits encode_with
step5 = (simp maps, refl)

step6 : Steps o3 Frag (said (codes "frag asked 698 taken 752 held 1536")) o3
unfolding sizes_from class_for inner_count inner_live inner_pages_with inner_sum in_class inner_lengths part_count digits encode_with
step6 = (simp maps, refl)

step7 : Steps o3 (Malloc 3 4000) (said (codes "refused space")) o3
unfolding sizes_from class_for inner_count inner_live inner_pages_with inner_sum in_class inner_lengths part_count digits encode_with
step7 = (simp maps, simp maps)

-- if `replies` are those to the items `rest` after a command, its reply and then `replies` are those to the command and these items
before : (old : Objects) (c : Command) (reply : Reply) (new : Objects) (rest : List Item) (replies : List Reply) → Steps old c reply new
    → large_replies Moving (Some (with new)) rest ≡ replies → large_replies Moving (Some (with old)) (asks c ∷ rest) ≡ reply ∷ replies
before old c reply new rest replies step more = (λ i. step.0 i ∷ large_replies Moving (Some (step.1 i)) rest) ∙ ap (λ l. reply ∷ l) more

abbrev script : List Item
script = starts settings ∷ asks (Malloc 1 600) ∷ asks (Write 1 503 (170 ∷ 187 ∷ [])) ∷ asks (Malloc 2 90) ∷ asks (Read 1 503 2) ∷ asks Walk ∷ asks Frag
    ∷ asks (Malloc 3 4000) ∷ []

asked : items (codes "heap 8 512 1 16\nm 1 600\nw 1 503 aabb\nm 2 90\nr 1 503 2\nwalk\nfrag\nm 3 4000\n") true ≡ script
unfolding decode_pairs
asked = refl

abbrev right : List Reply
right = small_large_replies (codes "ok") (codes "=aabb") small_walk (codes "frag asked 698 taken 752 held 1536") (codes "refused space")

replies_are : large_replies Moving None script ≡ right
replies_are = ap (λ l. said (codes "ok") ∷ l)
    (before empty (Malloc 1 600) _ o1 (drop 2 script) _ step1
    (before o1 (Write 1 503 (170 ∷ 187 ∷ [])) _ o2 (drop 3 script) _ step2
    (before o2 (Malloc 2 90) _ o3 (drop 4 script) _ step3
    (before o3 (Read 1 503 2) _ o3 (drop 5 script) _ step4
    (before o3 Walk _ o3 (drop 6 script) _ step5
    (before o3 Frag _ o3 (drop 7 script) _ step6
    (before o3 (Malloc 3 4000) _ o3 [] _ step7 refl)))))))

all_right : large_replies Moving None (items (codes "heap 8 512 1 16\nm 1 600\nw 1 503 aabb\nm 2 90\nr 1 503 2\nwalk\nfrag\nm 3 4000\n") true)
    ≡ small_large_replies (codes "ok") (codes "=aabb") small_walk (codes "frag asked 698 taken 752 held 1536") (codes "refused space")
all_right = ap (large_replies Moving None) asked ∙ replies_are

pub right_meets : MeetsSmallLarge (small_large_replies (codes "ok") (codes "=aabb") small_walk (codes "frag asked 698 taken 752 held 1536") (codes "refused space"))
right_meets = sym all_right

-- replies that meet the claim are eight
pub eight_replies : (replies : List Reply) → MeetsSmallLarge replies → length replies ≡ 8
eight_replies replies meets = ap (λ l. length l) (meets ∙ all_right)

abbrev pub letter : ℕ → ℕ → List Reply → ℕ
letter n k l = get_or (get_or (get_or l n []) 0 []) k 0

pub letter_is : (n k : ℕ) (replies : List Reply) → MeetsSmallLarge replies → letter n k replies
    ≡ letter n k (small_large_replies (codes "ok") (codes "=aabb") small_walk (codes "frag asked 698 taken 752 held 1536") (codes "refused space"))
letter_is n k replies meets = ap (letter n k) (meets ∙ all_right)
