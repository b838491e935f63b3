-- For the calls of a heap with blocks: however blocks divide the region, and whatever the free lists, there are words in which word 1 of each free block
-- links it to its neighbours in its list.
use Rattle.std.proofs.Common.{◌≡◌, ℕ, zero, suc, ◌+◌, ◌<◌, List, [], ◌∷◌, Option, Some, None, length, get_or, map, cond, arith, refl, sym, ◌∙◌, ap, subst, inl, inr, if◌then◌else◌, is_none, nat_eq}
use Rattle.std.specs.List.{Contains, IsDistinct, range_with_len}
use Rattle.std.proofs.lemmas.Bool.{cases_eq}
use Rattle.std.proofs.lemmas.List.FromFn.{length-map-range_with_len, get_or-map-range_with_len}
use Rattle.std.proofs.lemmas.Option.{same_Some as same_block}
use Rattle.cf_base.proofs.Members.{contains_head, contains_tail, distinct_head, distinct_tail}
use Rattle.cf_base.proofs.Tests.{eq_yes, eq_no}
use Rattle.block_model.specs.Buckets.{FreeLists}
use Rattle.block_model.specs.FreeOrder.{AreListsOf, AreThreaded, HaveLinks, first, link_word, list_in, no_block}
use Rattle.block_model.specs.ReadWords.{tiling_words}
use Rattle.block_model.specs.Tiling.{Block, IsTiling, block_at, is_free, size_at, size_of}
use Rattle.block_model.specs.Words.{AreTilingWords}
use Rattle.block_model.proofs.CallerLemmas.{apart, headers_stay, lies, made, used_is_not_free}

-- word 1 of the block at the address p in a free list: its links to the next and the previous block. `previous` is the block before the first of the list.
abbrev word_in_list : ℕ → List ℕ → ℕ → ℕ
word_in_list previous [] p = 0
word_in_list previous (x ∷ xs) p = if nat_eq x p then link_word (first xs) previous else word_in_list x xs p

-- if word 1 of each block of a list is its `word_in_list`, the words have the links of the list
threaded : (words : List ℕ) (previous : ℕ) (xs : List ℕ) → IsDistinct nat_eq xs
    → ((p : ℕ) → Contains xs p → get_or words (p + 1) 0 ≡ word_in_list previous xs p) → AreThreaded words previous xs
threaded words previous [] once all = tt
threaded words previous (x ∷ xs) once all = (
  all x (contains_head x xs) ∙ here,
  threaded words x xs (distinct_tail x xs once) (λ p in_list. all p (contains_tail p x xs in_list) ∙ later p in_list),
)
  where
    here : word_in_list previous (x ∷ xs) x ≡ link_word (first xs) previous
    here = rw (eq_yes x x refl) refl

    later : (p : ℕ) → Contains xs p → word_in_list previous (x ∷ xs) p ≡ word_in_list x xs p
    later p in_list =
        let ne : x ≡ p → ⊥ = λ is. distinct_head x xs once (subst (Contains xs) (sym is) in_list) in
        rw (eq_no x p ne) refl

module _ (content : ℕ → ℕ → ℕ) (count : ℕ) (blocks : List Block) (t : IsTiling count blocks) (rule : FreeLists) (lists : List (List ℕ)) where
  abbrev base : List ℕ
  base = tiling_words content blocks 0

  based : AreTilingWords content blocks base
  based = (made content count blocks t).0

  abbrev link_at : ℕ → ℕ
  link_at p = word_in_list no_block (list_in lists (rule.bucket (size_at blocks p))) p

  -- word 1 of a block: `link` if the block is free, else `own`
  abbrev word_by : Option Block → ℕ → ℕ → ℕ
  word_by None own link = own
  word_by (Some b) own link = cond (is_free b) link own

  abbrev word : ℕ → ℕ
  word zero = get_or base zero 0
  word (suc p) = word_by (block_at blocks p) (get_or base (suc p) 0) (link_at p)

  abbrev pub linked : List ℕ
  linked = map word (range_with_len 0 count)

  pub length-linked : length linked ≡ count
  length-linked = length-map-range_with_len word 0 count

  reads : (w : ℕ) → w < count → get_or linked w 0 ≡ word w
  reads w lt = get_or-map-range_with_len word 0 count w w 0 (omega arith) (omega arith)

  -- every word but word 1 of a free block stays
  stays : (w : ℕ) → w < count → ((p : ℕ) (c : Block) → w ≡ suc p → block_at blocks p ≡ Some c → c.owner ≡ None → ⊥) → get_or linked w 0 ≡ get_or base w 0
  stays zero lt other = reads zero lt
  stays (suc p) lt other = reads (suc p) lt ∙ by_block (block_at blocks p) refl
    where
      by_owner : (c : Block) → block_at blocks p ≡ Some c → (o : Option ℕ) → c.owner ≡ o → cond (is_free c) (link_at p) (get_or base (suc p) 0) ≡ get_or base (suc p) 0
      by_owner c at None free = absurd (other p c refl at free)
      by_owner c at (Some h) used = ap (λ o. cond (is_none o) (link_at p) (get_or base (suc p) 0)) used

      by_block : (o : Option Block) → block_at blocks p ≡ o → word_by o (get_or base (suc p) 0) (link_at p) ≡ get_or base (suc p) 0
      by_block None is = refl
      by_block (Some c) is = by_owner c is c.owner refl

  -- every word of a block but word 1 of a free block stays
  inside : (a : ℕ) (b : Block) → block_at blocks a ≡ Some b → (i : ℕ) → i < b.size → (i ≡ 1 → b.owner ≡ None → ⊥) → get_or linked (a + i) 0 ≡ get_or base (a + i) 0
  inside a b at i lt other = (let l = lies blocks 0 count a b t.fill at in let high = l.high in stays (a + i) (omega arith) no_link)
    where
      no_link : (p : ℕ) (c : Block) → a + i ≡ suc p → block_at blocks p ≡ Some c → c.owner ≡ None → ⊥
      no_link p c is there free = elim (cases_eq a p) [
        | inl same ↦ (
            let both : b ≡ c = same_block b c (sym at ∙ ap (block_at blocks) same ∙ there) in
            other (omega arith) (ap (λ (x : Block). x.owner) both ∙ free))
        | inr ne ↦ (
            let l = lies blocks 0 count p c t.fill there in
            let size = l.size in
            elim (apart blocks 0 count a p b c t.fill at there ne) [
              | inl before ↦ absurd (omega arith)
              | inr behind ↦ absurd (omega arith)
            ])
      ]

  pub linked_words : AreTilingWords content blocks linked
  linked_words = record {
    headers = headers_stay base linked blocks 0 count 0 t.fill head based.headers;
    cleared = λ a b at free i low high. inside a b at i high (λ one _. absurd (omega arith)) ∙ based.cleared a b at free i low high;
    contents = λ a b h at used i lt. (
        let same : a + (1 + i) ≡ a + 1 + i = omega arith in
        subst (λ w. get_or linked w 0 ≡ get_or base w 0) same (inside a b at (1 + i) lt (λ _ free. used_is_not_free b h used free))
        ∙ based.contents a b h at used i lt);
  }
    where
      head : (a : ℕ) (b : Block) → block_at blocks a ≡ Some b → get_or linked a 0 ≡ get_or base a 0
      head a b at =
          let l = lies blocks 0 count a b t.fill at in
          let size = l.size in
          let same : a + 0 ≡ a = omega arith in
          subst (λ w. get_or linked w 0 ≡ get_or base w 0) same (inside a b at 0 (omega arith) (λ one _. absurd (omega arith)))

  -- word 1 of each free block is its link
  link_there : (p : ℕ) (c : Block) → block_at blocks p ≡ Some c → c.owner ≡ None → get_or linked (p + 1) 0 ≡ link_at p
  link_there p c at free =
      let l = lies blocks 0 count p c t.fill at in
      let size = l.size in
      let high = l.high in
      let same : suc p ≡ p + 1 = omega arith in
      let own : ℕ = get_or base (suc p) 0 in
      let here : get_or linked (suc p) 0 ≡ link_at p = reads (suc p) (omega arith) ∙ ap (λ o. word_by o own (link_at p)) at
      ∙ ap (λ o. cond (is_none o) (link_at p) own) free in
      subst (λ w. get_or linked w 0 ≡ link_at p) same here

  pub linked_links : (many : ℕ) → AreListsOf rule many (record { blocks = blocks; lists = lists }) → HaveLinks linked lists
  linked_links many of = λ k. threaded linked no_block (list_in lists k) (of.once k) (λ p here. (
      let m = (of.members k p).0 here in
      let list : rule.bucket (size_at blocks p) ≡ k = ap (λ o. rule.bucket (size_of o)) m.there ∙ m.bucket in
      link_there p m.block m.there m.free ∙ ap (λ j. word_in_list no_block (list_in lists j) p) list))
