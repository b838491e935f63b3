-- With blocks: the blocks, the objects in them and the free lists, whose links are word 1 of each free block, determine the words of the region (for
-- `an_order_leaves_one_outcome`). Word 1 of a free block is outside every used block; if it stays the same, so do the links.
use Rattle.std.proofs.Common.{◌≡◌, ◌≢◌, ℕ, false, true, ◌+◌, ◌-◌, ◌<◌, ◌≤◌, List, [], ◌∷◌, Option, Some, None, length, get_or, arith, refl, sym, ◌∙◌, ap, subst}
use Rattle.std.proofs.Common.{inl, inr}
use Rattle.std.specs.Prelude.{◌⊎◌, IsSome}
use Rattle.std.specs.List.{Contains}
use Rattle.std.proofs.lemmas.Bool.{cases_eq, cases_lt}
use Rattle.std.proofs.lemmas.Grind.{same_number_lists}
use Rattle.std.proofs.lemmas.Option.{same_Some as same_block}
use Rattle.cf_base.proofs.Members.{contains_cases, contains_head, contains_nil, contains_tail}
use Rattle.page_model.specs.Order.{Order}
use Rattle.block_model.specs.FreeOrder.{AreThreaded, HaveLinks, list_in}
use Rattle.block_model.specs.Tiling.{Block, Fill, IsTiling, block_at}
use Rattle.block_model.specs.Words.{AreTilingWords, HaveHeaders}
use Rattle.block_model.proofs.CallerLemmas.{apart, behind, lies, take_first}

pub some_order : (o : Option Order) → IsSome o → (order : Order) × (o ≡ Some order)
some_order None some = absurd (let e : false ≡ true = some in cc)
some_order (Some order) some = (order, refl)

-- ---- words in one list of blocks

-- if two lists of words have the headers of the blocks, and agree inside each block, they agree
words_from : (a b : List ℕ) (bs : List Block) (from to before : ℕ) → Fill bs from to → HaveHeaders a bs before → HaveHeaders b bs before
    → ((p : ℕ) (c : Block) → block_at bs p ≡ Some c → (i : ℕ) → 1 ≤ i → i < c.size → get_or a (p + i) 0 ≡ get_or b (p + i) 0)
    → (w : ℕ) → from ≤ w → w < to → get_or a w 0 ≡ get_or b w 0
words_from a b [] from to before f g h inside w low high = absurd (let e = f in omega arith)
words_from a b (c ∷ cs) from to before f g h inside w low high = elim (cases_lt w (from + c.size)) [
  | inl within ↦ elim (cases_eq w from) [
    | inl is ↦ (
        let first : get_or a c.address 0 ≡ get_or b c.address 0 = g.0 ∙ sym h.0 in
        subst (λ x. get_or a x 0 ≡ get_or b x 0) (f.0 ∙ sym is) first)
    | inr ne ↦ (
        let same : from + (w - from) ≡ w = omega arith in
        subst (λ x. get_or a x 0 ≡ get_or b x 0) same (inside from c (take_first c cs from f.0) (w - from) (omega arith) (omega arith)))
  ]
  | inr past ↦ words_from a b cs (from + c.size) to c.size f.2 g.1 h.1 (λ p d at. inside p d (behind c cs from to p d f at)) w past high
]

-- two lists of words with the same blocks and contents are equal if word 1 of each free block is the same in both
pub words_once : (a b : List ℕ) (content : ℕ → ℕ → ℕ) (count : ℕ) (blocks : List Block) → IsTiling count blocks → length a ≡ count → length b ≡ count
    → AreTilingWords content blocks a → AreTilingWords content blocks b
    → ((p : ℕ) (c : Block) → block_at blocks p ≡ Some c → c.owner ≡ None → get_or a (p + 1) 0 ≡ get_or b (p + 1) 0) → a ≡ b
words_once a b content count blocks t long long' s u linked =
    same_number_lists a b (long ∙ sym long') (λ w lt. words_from a b blocks 0 count 0 t.fill s.headers u.headers inside w (omega arith) (omega arith))
  where
    inside_of : (p : ℕ) (c : Block) → block_at blocks p ≡ Some c → (i : ℕ) → 1 ≤ i → i < c.size → (o : Option ℕ) → c.owner ≡ o
        → get_or a (p + i) 0 ≡ get_or b (p + i) 0
    inside_of p c at i low high None free = elim (cases_eq i 1) [
      | inl one ↦ rw one (linked p c at free)
      | inr ne ↦ s.cleared p c at free i (omega arith) high ∙ sym (u.cleared p c at free i (omega arith) high)
    ]
    inside_of p c at i low high (Some h) used =
        let same : p + 1 + (i - 1) ≡ p + i = omega arith in
        subst (λ x. get_or a x 0 ≡ get_or b x 0) same
        (s.contents p c h at used (i - 1) (omega arith) ∙ sym (u.contents p c h at used (i - 1) (omega arith)))

    inside : (p : ℕ) (c : Block) → block_at blocks p ≡ Some c → (i : ℕ) → 1 ≤ i → i < c.size → get_or a (p + i) 0 ≡ get_or b (p + i) 0
    inside p c at i low high = inside_of p c at i low high c.owner refl

-- ---- word 1 of free blocks

-- two lists of words that both have the links of a free list have the same word 1 in each of its blocks
pub links_agree : (a b : List ℕ) (previous : ℕ) (xs : List ℕ) → AreThreaded a previous xs → AreThreaded b previous xs → (p : ℕ) → Contains xs p
    → get_or a (p + 1) 0 ≡ get_or b (p + 1) 0
links_agree a b previous [] s t p here = absurd (contains_nil p here)
links_agree a b previous (x ∷ xs) s t p here = elim (contains_cases p x xs here) [
  | inl is ↦ (
      let first : get_or a (x + 1) 0 ≡ get_or b (x + 1) 0 = s.0 ∙ sym t.0 in
      subst (λ y. get_or a (y + 1) 0 ≡ get_or b (y + 1) 0) (sym is) first)
  | inr later ↦ links_agree a b x xs s.1 t.1 p later
]

-- if two lists of words have the same word 1 in each block of a free list, and one has the links of the list, so has the other
links_of_list : (a b : List ℕ) (previous : ℕ) (xs : List ℕ) → ((p : ℕ) → Contains xs p → get_or b (p + 1) 0 ≡ get_or a (p + 1) 0) → AreThreaded a previous xs
    → AreThreaded b previous xs
links_of_list a b previous [] same s = tt
links_of_list a b previous (x ∷ xs) same s = (
  same x (contains_head x xs) ∙ s.0,
  links_of_list a b x xs (λ p here. same p (contains_tail p x xs here)) s.1,
)

pub links_stay : (a b : List ℕ) (lists : List (List ℕ)) → ((k p : ℕ) → Contains (list_in lists k) p → get_or b (p + 1) 0 ≡ get_or a (p + 1) 0)
    → HaveLinks a lists → HaveLinks b lists
links_stay a b lists same links = λ k. links_of_list a b _ (list_in lists k) (same k) (links k)

-- word 1 of a free block is outside every used block
pub link_outside : (count : ℕ) (blocks : List Block) → IsTiling count blocks → (place p : ℕ) (b c : Block) (h : ℕ) → block_at blocks place ≡ Some b
    → b.owner ≡ Some h → block_at blocks p ≡ Some c → c.owner ≡ None → (p + 1 < place) ⊎ (place + b.size ≤ p + 1)
link_outside count blocks t place p b c h at used there free =
    let l = lies blocks 0 count p c t.fill there in
    let size = l.size in
    let ne : place ≢ p = λ is. other (ap (λ (x : Block). x.owner) (same_block b c (sym at ∙ ap (block_at blocks) is ∙ there))) in
    elim (apart blocks 0 count place p b c t.fill at there ne) [
      | inl before ↦ inr (omega arith)
      | inr behind ↦ inl (omega arith)
    ]
  where
    other : b.owner ≡ c.owner → ⊥
    other e = (let f : Some h ≡ None = sym used ∙ e ∙ free in cc)
