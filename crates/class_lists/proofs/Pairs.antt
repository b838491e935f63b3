-- For `Counts`, the lengths of the page lists: two lists of counts, by turns, as one list: its length, what it has at each position, what setting one of the
-- counts does to it, and that it is zeros if both are.
use Rattle.std.proofs.Common.{◌≡◌, ℕ, zero, suc, ◌+◌, ◌*◌, ◌<◌, List, [], ◌∷◌, length, get_or, set, drop, replicate, arith, refl, ◌∙◌, ap}
use Rattle.class_lists.specs.declared.Which.{Which}
use Rattle.class_lists.specs.declared.Which.TheVariants.{Full, NotFull}
use Rattle.class_lists.specs.PageLists.{list_number}
use Rattle.class_lists.specs.Counts.{interleaved}

twice : (c : ℕ) → 2 * suc c ≡ suc (suc (2 * c))
twice c = omega arith

twice_and_one : (c : ℕ) → 2 * suc c + 1 ≡ suc (suc (2 * c + 1))
twice_and_one c = omega arith

pub length-interleaved : (f n : List ℕ) → length (interleaved f n) ≡ 2 * length f
length-interleaved [] n = refl
length-interleaved (x ∷ f) n = (let e = length-interleaved f (drop 1 n) in omega arith)

pub at_first : (f n : List ℕ) (c d : ℕ) → get_or (interleaved f n) (2 * c) d ≡ get_or f c d
at_first [] n c d = refl
at_first (x ∷ f) n zero d = refl
at_first (x ∷ f) n (suc c) d = ap (λ k. get_or (interleaved (x ∷ f) n) k d) (twice c) ∙ at_first f (drop 1 n) c d

get_or-rest : (n : List ℕ) (c : ℕ) → get_or (drop 1 n) c 0 ≡ get_or n (suc c) 0
get_or-rest [] c = refl
get_or-rest (y ∷ n) c = refl

pub at_second : (f n : List ℕ) (c d : ℕ) → c < length f → get_or (interleaved f n) (2 * c + 1) d ≡ get_or n c 0
at_second [] n c d lt = absurd (omega arith)
at_second (x ∷ f) n zero d lt = refl
at_second (x ∷ f) n (suc c) d lt =
    ap (λ k. get_or (interleaved (x ∷ f) n) k d) (twice_and_one c) ∙ at_second f (drop 1 n) c d (omega arith) ∙ get_or-rest n c

pub set_first : (f n : List ℕ) (c y : ℕ) → set (interleaved f n) (2 * c) y ≡ interleaved (set f c y) n
set_first [] n c y = refl
set_first (x ∷ f) n zero y = refl
set_first (x ∷ f) n (suc c) y =
    ap (λ k. set (interleaved (x ∷ f) n) k y) (twice c) ∙ ap (λ xs. x ∷ get_or n 0 0 ∷ xs) (set_first f (drop 1 n) c y)

pub set_second : (f n : List ℕ) (c y : ℕ) → length n ≡ length f → c < length f → set (interleaved f n) (2 * c + 1) y ≡ interleaved f (set n c y)
set_second [] n c y e lt = absurd (omega arith)
set_second (x ∷ f) [] c y e lt = absurd (omega arith)
set_second (x ∷ f) (m ∷ n) zero y e lt = refl
set_second (x ∷ f) (m ∷ n) (suc c) y e lt =
    ap (λ k. set (interleaved (x ∷ f) (m ∷ n)) k y) (twice_and_one c) ∙ ap (λ xs. x ∷ m ∷ xs) (set_second f n c y (omega arith) (omega arith))

pub none_in_turn : (k : ℕ) → interleaved (replicate k 0) (replicate k 0) ≡ replicate (2 * k) 0
none_in_turn zero = refl
none_in_turn (suc k) = ap (λ xs. 0 ∷ 0 ∷ xs) (none_in_turn k) ∙ ap (λ j. replicate j 0) (let e : suc (suc (2 * k)) ≡ 2 * suc k = omega arith in e)

-- the class of a list has a count
pub class_inside : (f n v : List ℕ) → interleaved f n ≡ v → (c : ℕ) (w : Which) → list_number c w < length v → c < length f
class_inside f n v e c Full lt = (let l = length-interleaved f n in let k = ap length e in omega arith)
class_inside f n v e c NotFull lt = (let l = length-interleaved f n in let k = ap length e in omega arith)
