-- For the calls of `PagePool`: the stack after a page is taken and returned, and that of a new pool.
use Rattle.std.proofs.Common.{◌≡◌, ℕ, ◌+◌, ◌-◌, ◌^◌, ◌<◌, false, List, ◌∷◌, length, drop, set, get_or, arith, subst, ap, ◌∙◌, add-one}
use Rattle.std.proofs.Math.Seq.{drop-cons}
use Rattle.std.proofs.lemmas.List.{drop-set, length-set, length-drop}
use Rattle.std.proofs.lemmas.List.FromFn.{length-range_with_len}
use Rattle.std.specs.List.{range_with_len}
use Rattle.page_pool.specs.Pool.{Pool, is_in_pool}
use Rattle.page_pool.specs.Layout.{pool_of, IsValid}
use Rattle.page_pool.proofs.CallerLemmas.{Pooled, pooled_rest, pooled_front, pooled_range, free_room}

pub laid_taken : (stack : List ℕ) (first : ℕ) → IsValid stack first → first < length stack → IsValid stack (first + 1)
laid_taken stack first h lt =
    let e : drop first stack ≡ get_or stack first 0 ∷ drop (first + 1) stack = rw add-one (drop-cons stack first 0 lt) in
    let old : Pooled (length stack) (get_or stack first 0 ∷ drop (first + 1) stack) = rw e at h.pool in
    record { within = omega arith; small = h.small; pool = pooled_rest _ _ _ old }

-- the page may return to the pool: the stack has a place for it, and the stack with the page in it is valid
pub record Given (stack : List ℕ) (first page : ℕ) (old : Pool) : Type 0 where
  pub some : 0 < first
  pub laid : IsValid (set stack (first - 1) page) (first - 1)
  pub pool : pool_of (set stack (first - 1) page) (first - 1) ≡ record { pages = old.pages; free = page ∷ old.free }

module _ (stack : List ℕ) (first page : ℕ) (h : IsValid stack first) where
  given_back : page < length stack → is_in_pool (drop first stack) page ≡ false → Given stack first page (pool_of stack first)
  given_back lt gone =
      let less : length (drop first stack) < length stack = free_room _ page _ h.pool lt gone in
      let rest : length (drop first stack) ≡ length stack - first = length-drop first stack in
      let within = h.within in let small = h.small in
      let some : 0 < first = omega arith in
      let back : first - 1 + 1 ≡ first = omega arith in
      let long : length (set stack (first - 1) page) ≡ length stack = length-set stack (first - 1) page in
      let front : drop (first - 1) (set stack (first - 1) page) ≡ page ∷ drop first stack = drop-set stack (first - 1) page (omega arith)
      ∙ ap (λ (k : ℕ). page ∷ drop k stack) back in
      let pool : pool_of (set stack (first - 1) page) (first - 1) ≡ record { pages = length stack; free = page ∷ drop first stack } = cc in
      record {
        some = some;
        laid = record { within = omega arith; small = omega arith; pool = rw pool (pooled_front _ _ _ h.pool lt gone) };
        pool = pool;
      }

  pub laid_given : (old : Pool) → pool_of stack first ≡ old → page < old.pages → is_in_pool old.free page ≡ false → Given stack first page old
  laid_given old is lt gone = subst (λ (v : Pool). page < v.pages → is_in_pool v.free page ≡ false → Given stack first page v) is given_back lt gone

-- all pages are free
pub laid_fresh : (n : ℕ) → n < 2 ^ 32 → (stack : List ℕ) → stack ≡ range_with_len 0 n → IsValid stack 0
laid_fresh n small stack e =
    let long : length stack ≡ n = ap length e ∙ length-range_with_len 0 n in
    record { within = omega arith; small = omega arith; pool = rw (long, e) (pooled_range n) }

pub fresh_pool : (n : ℕ) (stack : List ℕ) → stack ≡ range_with_len 0 n → pool_of stack 0 ≡ record { pages = n; free = range_with_len 0 n }
fresh_pool n stack e = let long : length stack ≡ n = ap length e ∙ length-range_with_len 0 n in cc
