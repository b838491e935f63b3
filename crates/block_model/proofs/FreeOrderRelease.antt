-- For the order of free blocks: which free blocks there are after a free, which coalesces the freed block with its free neighbours, and that the free lists
-- after it contain exactly these. Also: without two free neighbours coalescing changes nothing, and no free block ends where the blocks begin.
use Rattle.std.proofs.Common.{◌≡◌, ◌≢◌, ℕ, Bool, true, false, ◌+◌, ◌-◌, ◌^◌, ◌<◌, ◌≤◌, List, [], ◌∷◌, Some, None, cond, arith, refl, sym, ap, ◌∙◌, inl, inr, subst}
use Rattle.std.specs.Prelude.{◌&&◌, is_none, nat_eq}
use Rattle.std.proofs.lemmas.Bool.{cases_Bool, cases_eq}
use Rattle.std.proofs.lemmas.Option.{same_Some as same_block}
use Rattle.cf_base.proofs.Tests.{eq_yes, eq_no}
use Rattle.block_model.specs.Buckets.{FreeLists, AreLawful}
use Rattle.block_model.specs.Tiling.{Block, Fill, AreMerged, IsTiling, is_free, starts_free, block_at, size_at, size_of, freed_at, joined, merged, released}
use Rattle.block_model.specs.FreeOrder.{AreListsOf, BlocksWithLists, free_from, free_size, free_up_to, lists_released, lists_without, merged_size, merged_start}
use Rattle.block_model.specs.Worked.{free}
use Rattle.block_model.proofs.FreeOrderLemmas.{GainsFree, LosesFree, gained, lost}
use Rattle.block_model.proofs.Others.{lies, skip, take_first, used_is_not_free}
use Rattle.block_model.proofs.Releases.{freed_fill, merged_fill}

-- ---- the blocks after a release

-- the words of the first block if that one is free, else 0 (`front_words`); the blocks without that free block (`past_front`)
abbrev front_words : List Block → ℕ
front_words [] = 0
front_words (c ∷ cs) = cond (is_free c) c.size 0

abbrev past_front : List Block → List Block
past_front [] = []
past_front (c ∷ cs) = cond (is_free c) cs (c ∷ cs)

pub joined_apart : (b : Block) (bs : List Block) → (is_free b && starts_free bs) ≡ false → joined b bs ≡ b ∷ bs
joined_apart b [] e = refl
joined_apart b (c ∷ cs) e = ap (λ t. cond t (free b.address (b.size + c.size) ∷ cs) (b ∷ c ∷ cs)) e

pub merged_same : (bs : List Block) → AreMerged bs → merged bs ≡ bs
merged_same [] m = refl
merged_same (b ∷ bs) m = ap (joined b) (merged_same bs m.1) ∙ joined_apart b bs m.0

joined_next : (a s : ℕ) (bs : List Block) → joined (free a s) bs ≡ free a (s + front_words bs) ∷ past_front bs
joined_next a s [] = ap (λ k. free a k ∷ []) (let e : s ≡ s + 0 = omega arith in e)
joined_next a s (c ∷ cs) = by_cases (is_free c) refl
  where
    by_cases : (t : Bool) → is_free c ≡ t → joined (free a s) (c ∷ cs) ≡ free a (s + front_words (c ∷ cs)) ∷ past_front (c ∷ cs)
    by_cases true e = rw e refl
    by_cases false e = rw e (ap (λ k. free a k ∷ c ∷ cs) (let z : s ≡ s + 0 = omega arith in z))

starts_joined : (c : Block) (ds : List Block) → starts_free (joined c ds) ≡ is_free c
starts_joined c [] = refl
starts_joined c (d ∷ ds) = by_cases (is_free c) refl
  where
    by_cases : (t : Bool) → is_free c ≡ t → starts_free (joined c (d ∷ ds)) ≡ t
    by_cases false e = rw e e
    by_cases true e = both (is_free d) refl
      where
        both : (t : Bool) → is_free d ≡ t → starts_free (joined c (d ∷ ds)) ≡ true
        both true f = rw (e, f) refl
        both false f = rw (e, f) e

-- the free blocks that are left without the first block, if that one is free (`past_front`)
module _ (cs : List Block) (from to : ℕ) (f : Fill cs from to) (y : ℕ) (b : Block) where
  past_was : block_at (past_front cs) y ≡ Some b → b.owner ≡ None → (y ≢ from) × (block_at cs y ≡ Some b)
  past_was at by = by_list cs f at
    where
      by_list : (ds : List Block) → Fill ds from to → block_at (past_front ds) y ≡ Some b → (y ≢ from) × (block_at ds y ≡ Some b)
      by_list [] g there = absurd (let e : None ≡ Some b = there in cc)
      by_list (d ∷ ds) g there = elim (cases_Bool (is_free d)) [
        | inl on ↦ (
            let t : block_at ds y ≡ Some b = rw on at there in
            let l = lies ds (from + d.size) to y b g.2 t in
            let low = l.low in let two = g.1 in let at = g.0 in
            ((λ e. absurd (omega arith)), skip d ds y (λ e. absurd (omega arith)) ∙ t))
        | inr off ↦ (
            let t : block_at (d ∷ ds) y ≡ Some b = rw off at there in (
              (λ e. (
                  let one : d ≡ b = same_block d b (sym (take_first d ds y (g.0 ∙ sym e)) ∙ t) in
                  let z : true ≡ false = ap is_none (sym by) ∙ ap is_free (sym one) ∙ off in cc)),
              t,
            ))
      ]

  past_is : y ≢ from → block_at cs y ≡ Some b → block_at (past_front cs) y ≡ Some b
  past_is ne at = by_list cs f at
    where
      by_list : (ds : List Block) → Fill ds from to → block_at ds y ≡ Some b → block_at (past_front ds) y ≡ Some b
      by_list [] g there = there
      by_list (d ∷ ds) g there = elim (cases_Bool (is_free d)) [
        | inl on ↦ rw on (sym (skip d ds y (λ e. ne (sym e ∙ g.0))) ∙ there)
        | inr off ↦ rw off there
      ]

-- From the blocks `old` to `new`: a free block of `size` words is at `start`, no free block begins at `behind` any more, and the other free blocks stay.
pub record FreesAt (old : List Block) (start size behind : ℕ) (new : List Block) : Type 0 where
  pub there : block_at new start ≡ Some (free start size)
  pub was : (x : ℕ) (b : Block) → x ≢ start → block_at new x ≡ Some b → b.owner ≡ None → (x ≢ behind) × (block_at old x ≡ Some b)
  pub is : (x : ℕ) (b : Block) → x ≢ start → x ≢ behind → block_at old x ≡ Some b → b.owner ≡ None → block_at new x ≡ Some b

-- `FreesAt` still holds if one more block is before all of them
more_before : (x : Block) (old new : List Block) (start size behind : ℕ) → x.address < start → x.address < behind → FreesAt old start size behind new
    → FreesAt (x ∷ old) start size behind (x ∷ new)
more_before x old new start size behind before before' r = record {
  there = skip x new start (λ e. absurd (omega arith)) ∙ r.there;
  was = λ y b ne at by. elim (cases_eq x.address y) [
    | inl same ↦ ((λ e. absurd (omega arith)), take_first x old y same ∙ sym (take_first x new y same) ∙ at)
    | inr not ↦ (let w = r.was y b ne (sym (skip x new y not) ∙ at) by in (w.0, skip x old y not ∙ w.1))
  ];
  is = λ y b ne ne' at by. elim (cases_eq x.address y) [
    | inl same ↦ take_first x new y same ∙ sym (take_first x old y same) ∙ at
    | inr not ↦ skip x new y not ∙ r.is y b ne ne' (sym (skip x old y not) ∙ at) by
  ];
}

-- the first block is released
module _ (u : Block) (h : ℕ) (used : u.owner ≡ Some h) (cs : List Block) (from to : ℕ) (f : Fill (u ∷ cs) from to) (m : AreMerged (u ∷ cs)) where
  abbrev head_size : ℕ
  head_size = u.size + front_words cs

  first_released : released (u ∷ cs) u.address ≡ free u.address head_size ∷ past_front cs
  first_released = rw (eq_yes u.address u.address refl) (ap (joined (free u.address u.size)) (merged_same cs m.1) ∙ joined_next u.address u.size cs)

  first_frees : FreesAt (u ∷ cs) u.address head_size (u.address + u.size) (free u.address head_size ∷ past_front cs)
  first_frees = record {
    there = take_first (free u.address head_size) (past_front cs) u.address refl;
    was = λ y b ne at by. (
        let w = past_was cs (from + u.size) to f.2 y b (sym (skip (free u.address head_size) (past_front cs) y (λ e. ne (sym e))) ∙ at) by in
        ((λ e. w.0 (e ∙ ap (λ a. a + u.size) f.0)), skip u cs y (λ e. ne (sym e)) ∙ w.1));
    is = λ y b ne ne' at by. skip (free u.address head_size) (past_front cs) y (λ e. ne (sym e))
        ∙ past_is cs (from + u.size) to f.2 y b (λ e. ne' (e ∙ ap (λ a. a + u.size) (sym f.0))) (sym (skip u cs y (λ e. ne (sym e))) ∙ at);
  }

  -- a free block x ends where the released one begins
  module _ (x : Block) (before : x.address + x.size ≡ u.address) (some : 2 ≤ x.size) where
    second_frees : FreesAt (x ∷ u ∷ cs) x.address (x.size + head_size) (u.address + u.size) (free x.address (x.size + head_size) ∷ past_front cs)
    second_frees = record {
      there = take_first (free x.address (x.size + head_size)) (past_front cs) x.address refl;
      was = λ y b ne at by. (
          let w = past_was cs (from + u.size) to f.2 y b (sym (skip (free x.address (x.size + head_size)) (past_front cs) y (λ e. ne (sym e))) ∙ at) by in
          let l = lies cs (from + u.size) to y b f.2 w.1 in
          let low = l.low in let at' = f.0 in let two = f.1 in
          ((λ e. w.0 (e ∙ ap (λ a. a + u.size) f.0)), skip x (u ∷ cs) y (λ e. ne (sym e)) ∙ skip u cs y (λ e. absurd (omega arith)) ∙ w.1));
      is = λ y b ne ne' at by. (
          let t : block_at (u ∷ cs) y ≡ Some b = sym (skip x (u ∷ cs) y (λ e. ne (sym e))) ∙ at in
          let off : u.address ≢ y = λ e. used_is_not_free u h used
          (ap (λ (z : Block). z.owner) (same_block u b (sym (take_first u cs y e) ∙ t)) ∙ by) in
          skip (free x.address (x.size + head_size)) (past_front cs) y (λ e. ne (sym e))
          ∙ past_is cs (from + u.size) to f.2 y b (λ e. ne' (e ∙ ap (λ a. a + u.size) (sym f.0))) (sym (skip u cs y off) ∙ t));
    }

-- blocks that begin at address a or behind it don't end at a
pub none_ends : (bs : List Block) (from to a : ℕ) → Fill bs from to → a ≤ from → free_up_to bs a ≡ 0
none_ends [] from to a f le = refl
none_ends (b ∷ bs) from to a f le =
    let at = f.0 in let two = f.1 in
    rw (eq_no (b.address + b.size) a (λ e. absurd (omega arith))) (none_ends bs (from + b.size) to a f.2 (omega arith))

-- a free block at `from`, where the blocks begin, is the first of them
front_is : (bs : List Block) (from to : ℕ) → Fill bs from to → free_from bs from ≡ front_words bs
front_is [] from to f = refl
front_is (b ∷ bs) from to f = ap free_size (take_first b bs from f.0)

-- what a release of the block at address a does to the free blocks
abbrev pub FreesBy : List Block → ℕ → Type 0
FreesBy bs a = FreesAt bs (merged_start bs a) (merged_size bs a) (a + size_at bs a) (released bs a)

as_frees : (old new new' : List Block) (start start' size size' behind behind' : ℕ) → start ≡ start' → size ≡ size' → behind ≡ behind' → new ≡ new'
    → FreesAt old start size behind new → FreesAt old start' size' behind' new'
as_frees old new new' start start' size size' behind behind' s z b n r =
    subst (λ ns. FreesAt old start' size' behind' ns) n
    (subst (λ k. FreesAt old start' size' k new) b (subst (λ k. FreesAt old start' k behind new) z (subst (λ k. FreesAt old k size behind new) s r)))

frees : (bs : List Block) (from to a : ℕ) (u : Block) (h : ℕ) → Fill bs from to → AreMerged bs → block_at bs a ≡ Some u → u.owner ≡ Some h → FreesBy bs a
frees [] from to a u h f m there used = absurd (let e : None ≡ Some u = there in cc)
frees (x ∷ xs) from to a u h f m there used = elim (cases_eq x.address a) [
  | inl is ↦ (
      let one : x ≡ u = same_block x u (sym (take_first x xs a is) ∙ there) in
      let owned : x.owner ≡ Some h = ap (λ (y : Block). y.owner) one ∙ used in
      let at = f.0 in let two = f.1 in
      let size : size_at (x ∷ xs) a ≡ x.size = ap size_of (take_first x xs a is) in
      let up : free_up_to (x ∷ xs) a ≡ 0 = none_ends (x ∷ xs) from to a f (omega arith) in
      let next : free_from (x ∷ xs) (a + x.size) ≡ front_words xs =
      ap free_size (skip x xs (a + x.size) (λ e. absurd (omega arith))) ∙ ap (free_from xs) (let e : a + x.size ≡ from + x.size = omega arith in e)
      ∙ front_is xs (from + x.size) to f.2 in
      as_frees (x ∷ xs) _ _ _ _ _ _ _ _
      (is ∙ (let e : a ≡ a - 0 = omega arith in e) ∙ ap (λ k. a - k) (sym up))
      ((let e : x.size + front_words xs ≡ 0 + (x.size + front_words xs) = omega arith in e)
      ∙ ap (λ k. k + (x.size + front_words xs)) (sym up) ∙ ap (λ k. free_up_to (x ∷ xs) a + (x.size + k)) (sym next)
      ∙ ap (λ k. free_up_to (x ∷ xs) a + (k + free_from (x ∷ xs) (a + k))) (sym size))
      (ap (λ k. k + x.size) is ∙ ap (λ k. a + k) (sym size))
      (sym (first_released x h owned xs from to f m) ∙ ap (released (x ∷ xs)) is)
      (first_frees x h owned xs from to f m))
  | inr other ↦ (
      let later = sym (skip x xs a other) ∙ there in
      let l = lies xs (from + x.size) to a u f.2 later in
      let low = l.low in let at = f.0 in let two = f.1 in
      let size : size_at (x ∷ xs) a ≡ size_at xs a = ap size_of (skip x xs a other) in
      let next : free_from (x ∷ xs) (a + size_at xs a) ≡ free_from xs (a + size_at xs a) =
      ap free_size (skip x xs (a + size_at xs a) (λ e. absurd (omega arith))) in
      let freed : released (x ∷ xs) a ≡ joined x (released xs a) = rw (eq_no x.address a other) refl in
      elim (cases_eq (x.address + x.size) a) [
        | inl meets ↦ next_first x xs from to a u h f m later used meets size next freed
        | inr apart ↦ (
            let r = frees xs (from + x.size) to a u h f.2 m.1 later used in
            let up : free_up_to (x ∷ xs) a ≡ free_up_to xs a = rw (eq_no (x.address + x.size) a apart) refl in
            let s = lies (released xs a) (from + x.size) to (merged_start xs a) (free (merged_start xs a) (merged_size xs a))
            (merged_fill (freed_at xs a) (from + x.size) to (freed_fill xs a (from + x.size) to f.2)) r.there in
            let low' = s.low in
            as_frees (x ∷ xs) _ _ _ _ _ _ _ _
            (ap (λ k. a - k) (sym up))
            (ap (λ k. k + (size_at xs a + free_from xs (a + size_at xs a))) (sym up)
            ∙ ap (λ k. free_up_to (x ∷ xs) a + (size_at xs a + k)) (sym next)
            ∙ ap (λ k. free_up_to (x ∷ xs) a + (k + free_from (x ∷ xs) (a + k))) (sym size))
            (ap (λ k. a + k) (sym size))
            (sym (freed ∙ joined_apart x (released xs a) (apart_from x xs from to a f m later apart)))
            (more_before x xs (released xs a) (merged_start xs a) (merged_size xs a) (a + size_at xs a) (omega arith) (omega arith) r))
      ])
]
  where
    -- if block x doesn't end at the released block, x and the first block after the release aren't both free
    apart_from : (x : Block) (xs : List Block) (from to a : ℕ) → Fill (x ∷ xs) from to → AreMerged (x ∷ xs) → block_at xs a ≡ Some u
        → x.address + x.size ≢ a → (is_free x && starts_free (released xs a)) ≡ false
    apart_from x [] from to a f m later apart = absurd (let e : None ≡ Some u = later in cc)
    apart_from x (c ∷ cs) from to a f m later apart =
        let off : c.address ≢ a = λ e. apart (let at = f.0 in let at' = f.2.0 in omega arith) in
        ap (λ t. is_free x && t) (ap starts_free (let e : released (c ∷ cs) a ≡ joined c (released cs a) = rw (eq_no c.address a off) refl in e)
        ∙ starts_joined c (released cs a)) ∙ m.0

    next_first : (x : Block) (xs : List Block) (from to a : ℕ) (v : Block) (g : ℕ) → Fill (x ∷ xs) from to → AreMerged (x ∷ xs) → block_at xs a ≡ Some v
        → v.owner ≡ Some g → x.address + x.size ≡ a → size_at (x ∷ xs) a ≡ size_at xs a
        → free_from (x ∷ xs) (a + size_at xs a) ≡ free_from xs (a + size_at xs a)
        → released (x ∷ xs) a ≡ joined x (released xs a) → FreesBy (x ∷ xs) a
    next_first x [] from to a v g f m later used meets size next freed = absurd (let e : None ≡ Some v = later in cc)
    next_first x (c ∷ cs) from to a v g f m later used meets size next freed =
        let begins : c.address ≡ a = (let at = f.0 in let at' = f.2.0 in omega arith) in
        let one : c ≡ v = same_block c v (sym (take_first c cs a begins) ∙ later) in
        let owned : c.owner ≡ Some g = ap (λ (y : Block). y.owner) one ∙ used in
        let at = f.0 in let at' = f.2.0 in let two = f.1 in let two' = f.2.1 in
        let own : size_at (c ∷ cs) a ≡ c.size = ap size_of (take_first c cs a begins) in
        let words : size_at (x ∷ c ∷ cs) a ≡ c.size = size ∙ own in
        let rest : free_from (x ∷ c ∷ cs) (a + c.size) ≡ front_words cs =
        ap (λ k. free_from (x ∷ c ∷ cs) (a + k)) (sym own) ∙ next ∙ ap (λ k. free_from (c ∷ cs) (a + k)) own
        ∙ ap free_size (skip c cs (a + c.size) (λ e. absurd (omega arith)))
        ∙ ap (free_from cs) (let e : a + c.size ≡ from + x.size + c.size = omega arith in e) ∙ front_is cs (from + x.size + c.size) to f.2.2 in
        let up : free_up_to (x ∷ c ∷ cs) a ≡ cond (is_free x) x.size 0 = rw (eq_yes (x.address + x.size) a meets) refl in
        let total : (less : ℕ) → free_up_to (x ∷ c ∷ cs) a ≡ less → less + (c.size + front_words cs) ≡ merged_size (x ∷ c ∷ cs) a = λ less e.
        ap (λ k. k + (c.size + front_words cs)) (sym e) ∙ ap (λ k. free_up_to (x ∷ c ∷ cs) a + (c.size + k)) (sym rest)
        ∙ ap (λ k. free_up_to (x ∷ c ∷ cs) a + (k + free_from (x ∷ c ∷ cs) (a + k))) (sym words) in
        let first : released (c ∷ cs) a ≡ free c.address (c.size + front_words cs) ∷ past_front cs =
        ap (released (c ∷ cs)) (sym begins) ∙ first_released c g owned cs (from + x.size) to f.2 m.1 in
        elim (cases_Bool (is_free x)) [
          | inl on ↦ (
              let less : free_up_to (x ∷ c ∷ cs) a ≡ x.size = up ∙ ap (λ t. cond t x.size 0) on in
              as_frees (x ∷ c ∷ cs) _ _ _ _ _ _ _ _
              ((let e : x.address ≡ a - x.size = omega arith in e) ∙ ap (λ k. a - k) (sym less))
              (total x.size less)
              (ap (λ k. k + c.size) begins ∙ ap (λ k. a + k) (sym words))
              (sym (freed ∙ ap (joined x) first
              ∙ ap (λ t. cond t (free x.address (x.size + (c.size + front_words cs)) ∷ past_front cs)
              (x ∷ free c.address (c.size + front_words cs) ∷ past_front cs)) (ap (λ t. t && true) on)))
              (second_frees c g owned cs (from + x.size) to f.2 m.1 x (meets ∙ sym begins) two))
          | inr off ↦ (
              let less : free_up_to (x ∷ c ∷ cs) a ≡ 0 = up ∙ ap (λ t. cond t x.size 0) off in
              as_frees (x ∷ c ∷ cs) _ _ _ _ _ _ _ _
              (begins ∙ (let e : a ≡ a - 0 = omega arith in e) ∙ ap (λ k. a - k) (sym less))
              ((let e : c.size + front_words cs ≡ 0 + (c.size + front_words cs) = omega arith in e) ∙ total 0 less)
              (ap (λ k. k + c.size) begins ∙ ap (λ k. a + k) (sym words))
              (sym (freed ∙ ap (joined x) first
              ∙ ap (λ t. cond t (free x.address (x.size + (c.size + front_words cs)) ∷ past_front cs)
              (x ∷ free c.address (c.size + front_words cs) ∷ past_front cs)) (ap (λ t. t && true) off)))
              (more_before x (c ∷ cs) _ c.address (c.size + front_words cs) (c.address + c.size) (omega arith) (omega arith)
              (first_frees c g owned cs (from + x.size) to f.2 m.1)))
        ]

-- ---- the lists after a release

-- the blocks without the one at the address
abbrev gone_at : List Block → ℕ → List Block
gone_at [] a = []
gone_at (b ∷ bs) a = cond (nat_eq b.address a) (gone_at bs a) (b ∷ gone_at bs a)

gone_there : (bs : List Block) (a : ℕ) (b : Block) → block_at (gone_at bs a) a ≡ Some b → ⊥
gone_there [] a b at = absurd (let e : None ≡ Some b = at in cc)
gone_there (x ∷ xs) a b at = elim (cases_eq x.address a) [
  | inl is ↦ gone_there xs a b (rw (eq_yes x.address a is) at at)
  | inr other ↦ (
      let t : block_at (x ∷ gone_at xs a) a ≡ Some b = rw (eq_no x.address a other) at at in
      gone_there xs a b (sym (skip x (gone_at xs a) a other) ∙ t))
]

gone_other : (bs : List Block) (a y : ℕ) → y ≢ a → block_at (gone_at bs a) y ≡ block_at bs y
gone_other [] a y ne = refl
gone_other (x ∷ xs) a y ne = elim (cases_eq x.address a) [
  | inl is ↦ rw (eq_yes x.address a is) (gone_other xs a y ne ∙ sym (skip x xs y (λ e. ne (sym e ∙ is))))
  | inr other ↦ rw (eq_no x.address a other) (elim (cases_eq x.address y) [
    | inl same ↦ take_first x (gone_at xs a) y same ∙ sym (take_first x xs y same)
    | inr not ↦ skip x (gone_at xs a) y not ∙ gone_other xs a y ne ∙ sym (skip x xs y not)
  ])
]

gone_loses : (bs : List Block) (a : ℕ) → LosesFree bs a (gone_at bs a)
gone_loses bs a = record {
  was = λ y b at by. elim (cases_eq y a) [
    | inl is ↦ absurd (gone_there bs a b (subst (λ q. block_at (gone_at bs a) q ≡ Some b) is at))
    | inr ne ↦ (ne, sym (gone_other bs a y ne) ∙ at)
  ];
  is = λ y b ne at by. gone_other bs a y ne ∙ at;
}

pub release_keeps_lists : (rule : FreeLists) (count words : ℕ) (s : BlocksWithLists) (a : ℕ) (u : Block) (h : ℕ) → AreLawful rule count → words ≤ 2 ^ 23
    → IsTiling words s.blocks → AreListsOf rule count s → block_at s.blocks a ≡ Some u → u.owner ≡ Some h
    → AreListsOf rule count (record { blocks = released s.blocks a; lists = lists_released rule s a })
release_keeps_lists rule count words s a u h lawful few t of there used =
    let behind : ℕ = a + size_at s.blocks a in
    let start : ℕ = merged_start s.blocks a in
    let one : List Block = gone_at s.blocks behind in
    let two : List Block = gone_at one start in
    let r = frees s.blocks 0 words a u h t.fill t.merged there used in
    let l = lies (released s.blocks a) 0 words start (free start (merged_size s.blocks a))
    (merged_fill (freed_at s.blocks a) 0 words (freed_fill s.blocks a 0 words t.fill)) r.there in
    let some = l.size in let high = l.high in
    let first = lost rule count s.blocks one s.lists behind of (gone_loses s.blocks behind) in
    let second = lost rule count one two (lists_without s.lists behind) start first (gone_loses one start) in
    let gains : GainsFree two start (merged_size s.blocks a) (released s.blocks a) = record {
      there = r.there;
      fresh = λ b at by. gone_there one start b at;
      was = λ y b ne at by. (let w = r.was y b ne at by in gone_other one start y ne ∙ gone_other s.blocks behind y w.0 ∙ w.1);
      is = λ y b ne at by. (
          let t : block_at one y ≡ Some b = sym (gone_other one start y ne) ∙ at in
          let ne' : y ≢ behind = λ e. gone_there s.blocks behind b (subst (λ q. block_at one q ≡ Some b) e t) in
          r.is y b ne ne' (sym (gone_other s.blocks behind y ne') ∙ t) by);
    } in
    gained rule count two (released s.blocks a) (lists_without (lists_without s.lists behind) start) start (merged_size s.blocks a) second gains
    (lawful.below (merged_size s.blocks a) some (omega arith))
