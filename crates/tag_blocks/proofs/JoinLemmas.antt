-- For `join`, which coalesces: a used block with tag 0 and a free neighbour, before or after it, become one used block; the free one leaves its list, the other
-- used blocks keep their contents, and the invariant of `TagBlocks` still holds. For `absorb_next` and `absorb_previous`, with the neighbour after and before:
-- the two are such a pair, and their one block is that of the definition (`with_next`, `with_previous`).
use Rattle.std.proofs.Common.{◌≡◌, ◌≢◌, ℕ, Bool, true, false, ◌+◌, ◌-◌, ◌*◌, ◌^◌, ◌<◌, ◌≤◌, List, [], ◌∷◌, ◌++◌, Some, None, length, cond, get_or, set}
use Rattle.std.proofs.Common.{arith, refl, sym, ap, ◌∙◌, inl, inr, subst, append_assoc}
use Rattle.std.specs.Prelude.{◌⊎◌}
use Rattle.std.proofs.lemmas.Bool.{cases_lt}
use Rattle.std.proofs.lemmas.List.{get_or-set_same, get_or-set_other, length-set}
use Rattle.region.specs.Words.{cleared}
use Rattle.region.proofs.CallerLemmas.{length-cleared, cleared_others}
use Rattle.block_model.specs.Buckets.{FreeLists}
use Rattle.block_model.specs.Tiling.{Block, Fill, AreMerged, used_blocks, free_blocks}
use Rattle.block_model.specs.Words.{block_header}
use Rattle.cf_base.proofs.Tests.{and_false as and_off}
use Rattle.block_model.specs.FreeOrder.{lists_without}
use Rattle.tag_blocks.specs.declared.header.Header.{Header}
use Rattle.tag_blocks.specs.Links.{AreFreeLists, IsIn, without_block, lists_with, UnlinksBlock}
use Rattle.tag_blocks.specs.Blocks.{Tagged, owner_of}
use Rattle.tag_blocks.specs.Tags.{before_in, block_header_word, with_before}
use Rattle.tag_blocks.specs.Layout.{Fields, IsBlock, free_block, used_block, IsDescribed, AreDescribed, IsValidWith, IsValid}
use Rattle.tag_blocks.specs.Stages.{Detached, IsDetached, ArePair, HoldsBeforeFree, HoldsBehindFree, ReplacesBlock, KeepsOwned, ends_free}
use Rattle.tag_blocks.specs.Stages.{pair_first, pair_second, pair_detached}
use Rattle.tag_blocks.specs.Stages.{with_next, with_previous, past_free, free_first, up_to_free, free_last}
use Rattle.tag_blocks.proofs.FillLemmas.{lies_in, in_first, in_second, in_either, merged_split, merged_join}
use Rattle.tag_blocks.proofs.DescribedBlocks.{described_parts, last_size}
use Rattle.tag_blocks.proofs.ReplaceLemmas.{IsNextDescribed, next_described, next_kept, not_link}
use Rattle.tag_blocks.proofs.ListedAfter.{used-append, free-append, used-used, used-free, free-used, free-free}
use Rattle.tag_blocks.proofs.ListsAfterChange.{FillsAt, left_same, removed, removed_owned}
use Rattle.tag_blocks.proofs.HeaderAfter.{one_fills, one_described, one_before, before_length, before_other, before_next}
use Rattle.tag_blocks.proofs.ListsSeen.{lists_left}
use Rattle.tag_blocks.proofs.ViewLemmas.{seen, kept_as, blocks_now, kept_now, tags_kept}
use Rattle.tag_blocks.proofs.WipeLemmas.{cleared_at}

-- ---- the two neighbours, by which of them is free: the second if s is true

there_by : (s : Bool) (start first second : ℕ)
    → IsBlock (free_block (cond s (start + first) start) (cond s second first)) (pair_first start first s ∷ pair_second (start + first) second s ∷ [])
there_by true start first second = inr (inl refl)
there_by false start first second = inl refl

alone_by : (s : Bool) (start first second a n : ℕ) → IsBlock (free_block a n) (pair_first start first s ∷ pair_second (start + first) second s ∷ [])
    → a ≡ cond s (start + first) start
alone_by true start first second a n i = elim i [
  | inl e ↦ absurd (let f : None ≡ Some 0 = ap (λ (b : Block). b.owner) e in cc)
  | inr later ↦ elim later [ inl e ↦ ap (λ (b : Block). b.address) e | inr no_more ↦ absurd no_more ]
]
alone_by false start first second a n i = elim i [
  | inl e ↦ ap (λ (b : Block). b.address) e
  | inr later ↦ elim later [ inl e ↦ absurd (let f : None ≡ Some 0 = ap (λ (b : Block). b.owner) e in cc) | inr no_more ↦ absurd no_more ]
]

used_pair : (s : Bool) (start first second : ℕ) (bs : List Block)
    → used_blocks (pair_first start first s ∷ pair_second (start + first) second s ∷ bs) ≡ used_blocks bs + 1
used_pair true start first second bs = used-used start first 0 (free_block (start + first) second ∷ bs)
    ∙ ap (λ n. n + 1) (used-free (start + first) second 0 bs)
used_pair false start first second bs = used-free start first 0 (used_block (start + first) second 0 ∷ bs) ∙ used-used (start + first) second 0 bs

free_pair : (s : Bool) (start first second : ℕ) (bs : List Block)
    → free_blocks (pair_first start first s ∷ pair_second (start + first) second s ∷ bs) ≡ free_blocks bs + 1
free_pair true start first second bs = free-used start first 0 (free_block (start + first) second ∷ bs) ∙ free-free (start + first) second 0 bs
free_pair false start first second bs = free-free start first 0 (used_block (start + first) second 0 ∷ bs)
    ∙ ap (λ n. n + 1) (free-used (start + first) second 0 bs)

-- the words of the used one from word 2 on are zeros
abbrev pub IsBlank : List ℕ → Bool → ℕ → ℕ → ℕ → Type 0
IsBlank words s start first second = (i : ℕ) → 2 ≤ i → i < cond s first second → get_or words (cond s start (start + first) + i) 0 ≡ 0

first_blank : (s : Bool) (words : List ℕ) (before start first second : ℕ) → IsDescribed words before (pair_first start first s) → IsBlank words s start first second
    → (i : ℕ) → 2 ≤ i → i < first → get_or words (start + i) 0 ≡ 0
first_blank true words before start first second described blank = blank
first_blank false words before start first second described blank = described.cleared refl

second_blank : (s : Bool) (words : List ℕ) (start first second : ℕ) → IsDescribed words first (pair_second (start + first) second s)
    → IsBlank words s start first second → (i : ℕ) → 2 ≤ i → i < second → get_or words (start + first + i) 0 ≡ 0
second_blank true words start first second described blank = described.cleared refl
second_blank false words start first second described blank = blank

pub either : (s : Bool) (P : ℕ → Type 0) (a b : ℕ) → P a → P b → P (cond s a b)
either true P a b x y = x
either false P a b x y = y

-- ---- the two become one

module _ (rule : FreeLists) (p : Fields) (lists : ℕ → List ℕ) (pre rest : List Block) (start first second : ℕ) (s : Bool)
    (k : IsValidWith rule p (pre ++ (pair_first start first s ∷ pair_second (start + first) second s ∷ rest)) lists) where
  abbrev b : Block
  b = pair_first start first s

  abbrev c : Block
  c = pair_second (start + first) second s

  abbrev taken : ℕ
  taken = cond s (start + first) start

  abbrev many : ℕ
  many = cond s second first

  fills : FillsAt pre (c ∷ rest) b (length p.words)
  fills = one_fills rule p lists pre (c ∷ rest) b k

  pub pair_sizes : (2 ≤ first) × (2 ≤ second) × (start + (first + second) ≤ length p.words) × (length p.words ≤ 2 ^ 23)
  pair_sizes =
      let f = fills.behind in
      (fills.size, f.1, (let l = lies_in (c ∷ rest) (start + first) (length p.words) c f (inl refl) in let h = l.high in omega arith), k.most)

  b_in : IsBlock b (pre ++ (b ∷ c ∷ rest))
  b_in = in_second b pre (b ∷ c ∷ rest) (inl refl)

  c_in : IsBlock c (pre ++ (b ∷ c ∷ rest))
  c_in = in_second c pre (b ∷ c ∷ rest) (inr (inl refl))

  there : IsBlock (free_block taken many) (b ∷ c ∷ [])
  there = there_by s start first second

  pub pair_listed : IsIn taken (lists (rule.bucket many))
  pair_listed = k.listed.all taken many (in_second (free_block taken many) pre (b ∷ c ∷ rest) (in_first (free_block taken many) (b ∷ c ∷ []) rest there))

  abbrev hi : ℕ
  hi = start + (first + second)

  rest_fills : Fill rest hi (length p.words)
  rest_fills = subst (λ q. Fill rest q (length p.words)) (let e : start + first + second ≡ hi = omega arith in e) fills.behind.2

  rest_describes : IsDescribed p.words first c × AreDescribed p.words second rest
  rest_describes = (described_parts p.words 0 pre (b ∷ c ∷ rest) k.described).1.1

  fill_two : Fill (b ∷ c ∷ []) start hi
  fill_two = (let s = pair_sizes in (refl, s.0, (refl, s.1, (let e : start + first + second ≡ hi = omega arith in e))))

  module _ (left heads : List ℕ) (u : UnlinksBlock p.words lists (rule.bucket many) taken left heads) (long : length left ≡ length p.words) (header : Header)
      (is_size : header.size ≡ first + second) (is_used : header.used ≡ true) (is_before : header.before ≡ last_size 0 pre)
      (blank : IsBlank p.words s start first second) where
    abbrev grown : Block
    grown = used_block start (first + second) 0

    abbrev one : List ℕ
    one = cleared left (start + first) 2

    abbrev two : List ℕ
    two = set one (start + 1) 0

    abbrev three : List ℕ
    three = set two start (block_header_word header)

    abbrev words : List ℕ
    words = with_before three hi (first + second)

    room : start + first + 2 ≤ length left
    room = (let s = pair_sizes in let m = s.1 in let h = s.2 in omega arith)

    length-one : length one ≡ length p.words
    length-one = length-cleared left (start + first) 2 room ∙ long

    length-three : length three ≡ length p.words
    length-three = length-set two start (block_header_word header) ∙ length-set one (start + 1) 0 ∙ length-one

    long' : length words ≡ length p.words
    long' = before_length three hi (first + second) ∙ length-three

    not_set : (w : ℕ) → w ≢ hi → w ≢ start → w ≢ start + 1 → get_or words w 0 ≡ get_or one w 0
    not_set w a b c = before_other three hi (first + second) w a ∙ get_or-set_other two start w (block_header_word header) 0 b
        ∙ get_or-set_other one (start + 1) w 0 0 c

    same : (w : ℕ) → w ≢ hi → w ≢ start → w ≢ start + 1 → (w < start + first) ⊎ (start + first + 2 ≤ w) → get_or words w 0 ≡ get_or left w 0
    same w a b c o = not_set w a b c ∙ cleared_others left (start + first) 2 room w o

    same_out : (w : ℕ) → (w < start) ⊎ (hi < w) → get_or words w 0 ≡ get_or left w 0
    same_out w o = (let s = pair_sizes in let l = s.0 in let m = s.1 in elim o [
      | inl lt ↦ same w (λ e. absurd (omega arith)) (λ e. absurd (omega arith)) (λ e. absurd (omega arith)) (inl (omega arith))
      | inr gt ↦ same w (λ e. absurd (omega arith)) (λ e. absurd (omega arith)) (λ e. absurd (omega arith)) (inr (omega arith))
    ])

    alone : (a n : ℕ) → IsBlock (free_block a n) (b ∷ c ∷ []) → a ≡ taken
    alone a n i = alone_by s start first second a n i

    none : (a n : ℕ) → ¬ IsBlock (free_block a n) (grown ∷ [])
    none a n i = elim i [ inl e ↦ absurd (let f : None ≡ Some 0 = ap (λ (b : Block). b.owner) e in cc) | inr later ↦ later ]

    fill_grown : Fill (grown ∷ []) start hi
    fill_grown = (let s = pair_sizes in let l = s.0 in (refl, omega arith, refl))

    -- a word of the old blocks that is no link stays when the free block leaves its list
    left_word : (y : Block) (w : ℕ) → IsBlock y (pre ++ (b ∷ c ∷ rest)) → y.address ≤ w → w < y.address + y.size → w ≢ y.address + 1
        → get_or left w 0 ≡ get_or p.words w 0
    left_word y w i low high off = left_same rule p lists pre (b ∷ c ∷ []) (grown ∷ []) rest start hi taken many k fills.before fill_two fill_grown rest_fills
        there alone none left heads u long words long' same_out w
        (not_link (pre ++ (b ∷ c ∷ rest)) 0 (length p.words) y w k.fill i low high (λ free. off))

    pub joined_tag : get_or words (start + 1) 0 ≡ 0
    joined_tag = (let s = pair_sizes in let l = s.0 in let m = s.1 in let h = s.2 in
        before_other three hi (first + second) (start + 1) (λ e. absurd (omega arith))
        ∙ get_or-set_other two start (start + 1) (block_header_word header) 0 (λ e. absurd (omega arith))
        ∙ get_or-set_same one (start + 1) 0 0 (omega (arith, length-one)))

    pub joined_blank : (i : ℕ) → 2 ≤ i → i < first + second → get_or words (start + i) 0 ≡ 0
    joined_blank i low high = (let z = pair_sizes in let l = z.0 in let m = z.1 in elim (cases_lt i first) [
      | inl early ↦ same (start + i) (λ e. absurd (omega arith)) (λ e. absurd (omega arith)) (λ e. absurd (omega arith)) (inl (omega arith))
          ∙ left_word b (start + i) b_in (omega arith) (omega arith) (λ e. absurd (omega arith))
          ∙ first_blank s p.words (last_size 0 pre) start first second (one_described rule p lists pre (c ∷ rest) b k) blank i low early
      | inr late ↦ elim (cases_lt i (first + 2)) [
        | inl mid ↦ not_set (start + i) (λ e. absurd (omega arith)) (λ e. absurd (omega arith)) (λ e. absurd (omega arith))
            ∙ cleared_at left (start + first) 2 (start + i) room (omega arith) (omega arith)
        | inr far ↦ same (start + i) (λ e. absurd (omega arith)) (λ e. absurd (omega arith)) (λ e. absurd (omega arith)) (inr (omega arith))
            ∙ left_word c (start + i) c_in (omega arith) (omega arith) (λ e. absurd (omega arith))
            ∙ ap (λ q. get_or p.words q 0) (let e : start + i ≡ start + first + (i - first) = omega arith in e)
            ∙ second_blank s p.words start first second rest_describes.0 blank (i - first) (omega arith) (omega arith)
      ]
    ])

    header_is : block_header_word header ≡ block_header (last_size 0 pre) grown
    header_is = ap (λ q. q + 2 ^ 31 * cond header.used 1 0 + 2 ^ 32 * header.before) is_size
        ∙ ap (λ q. first + second + 2 ^ 31 * cond q 1 0 + 2 ^ 32 * header.before) is_used
        ∙ ap (λ q. first + second + 2 ^ 31 * 1 + 2 ^ 32 * q) is_before

    described : AreDescribed words (last_size 0 pre) (grown ∷ [])
    described = (
      record {
        header = (let s = pair_sizes in let l = s.0 in let h = s.2 in
            before_other three hi (first + second) start (λ e. absurd (omega arith))
            ∙ get_or-set_same two start (block_header_word header) 0 (omega (arith, length-one, length-set one (start + 1) 0)) ∙ header_is);
        owner = λ h e. ap owner_of joined_tag ∙ (let f : Some 0 ≡ Some h = e in cc);
        cleared = λ e. absurd (let f : Some 0 ≡ None = e in cc);
      },
      tt,
    )

    next_now : IsNextDescribed words (first + second) rest
    next_now = (let s = pair_sizes in let l = s.0 in let m = s.1 in let h = s.3 in
        before_next three hi (first + second) second (length p.words) rest rest_fills (omega (arith, length-three)) h
        (next_kept p.words three second hi (length p.words) rest rest_fills (λ y i e.
        let low = (lies_in rest hi (length p.words) y rest_fills i).size in
        get_or-set_other two start hi (block_header_word header) 0 (λ f. absurd (omega arith))
        ∙ get_or-set_other one (start + 1) hi 0 0 (λ f. absurd (omega arith))
        ∙ cleared_others left (start + first) 2 room hi (inr (omega arith))
        ∙ left_word y hi (in_second y pre (b ∷ c ∷ rest) (inr (inr i))) (omega arith) (omega arith) (λ f. absurd (omega arith)))
        (next_described p.words second rest rest_describes.1)))

    merged : AreMerged (pre ++ (grown ∷ rest))
    merged =
        let m = merged_split pre (b ∷ c ∷ rest) k.merged in
        merged_join pre (grown ∷ rest) m.first (refl, m.second.1.1) (and_off (ends_free false pre))

    counted : p.used ≡ used_blocks (pre ++ (grown ∷ rest))
    counted = omega (
      arith,
      k.used,
      used-append pre (b ∷ c ∷ rest),
      used-append pre (grown ∷ rest),
      used_pair s start first second rest,
      used-used start (first + second) 0 rest,
    )

    counted_free : p.free ≡ free_blocks (pre ++ (grown ∷ rest)) + 1
    counted_free = omega (
      arith,
      k.free,
      free-append pre (b ∷ c ∷ rest),
      free-append pre (grown ∷ rest),
      free_pair s start first second rest,
      free-used start (first + second) 0 rest,
    )

    pub joined_some : 1 ≤ p.free
    joined_some = (let e = counted_free in omega arith)

    abbrev parts : Fields
    parts = record { words = words; heads = heads; used = p.used; free = p.free - 1 }

    pub joined_kept : IsValidWith rule parts (pre ++ (grown ∷ rest)) (lists_with lists (rule.bucket many) (without_block taken (lists (rule.bucket many))))
    joined_kept = removed rule p lists pre (b ∷ c ∷ []) (grown ∷ []) rest start hi taken many k fills.before fill_two fill_grown rest_fills
        there alone none left heads u long words long' same_out p.used (p.free - 1) merged described next_now counted (let e = counted_free in omega arith)

    pub joined_owned : KeepsOwned p.words (pre ++ rest) words
    joined_owned = removed_owned rule p lists pre (b ∷ c ∷ []) (grown ∷ []) rest start hi taken many k fills.before fill_two fill_grown rest_fills
        there alone none left heads u long words long' same_out

-- ---- the call

module _ (rule : FreeLists) (count : ℕ) (p : Fields) (v : Tagged) (kept : IsValid rule count p) (view : seen p ≡ v)
    (start first second taken many : ℕ) (x : Detached) (h : ArePair v start first second taken many x) where
  now : IsValidWith rule p (x.before ++ (pair_first start first h.next_free ∷ pair_second (start + first) second h.next_free ∷ x.behind)) kept.lists
  now = kept_as rule p kept.lists v _ kept.kept view h.blocks

  pub join_sizes : (2 ≤ first) × (2 ≤ second) × (start + (first + second) ≤ length p.words) × (length p.words ≤ 2 ^ 23)
  join_sizes = pair_sizes rule p kept.lists x.before x.behind start first second h.next_free now

  pub join_many : (2 ≤ many) × (many ≤ 2 ^ 23)
  join_many = (let s = join_sizes in let a = s.0 in let b = s.1 in let l = s.2 in let m = s.3 in
      subst (λ n. (2 ≤ n) × (n ≤ 2 ^ 23)) (sym h.many) (either h.next_free (λ n. (2 ≤ n) × (n ≤ 2 ^ 23)) second first (b, omega arith) (a, omega arith)))

  pub join_listed : (list : ℕ) → list ≡ rule.bucket many → IsIn taken (kept.lists list)
  join_listed list is =
      subst (λ k. IsIn taken (kept.lists k)) (sym is)
      (subst (λ n. IsIn taken (kept.lists (rule.bucket n))) (sym h.many)
      (subst (λ a. IsIn a (kept.lists (rule.bucket (cond h.next_free second first)))) (sym h.taken)
      (pair_listed rule p kept.lists x.before x.behind start first second h.next_free now)))

  words_seen : p.words ≡ v.words
  words_seen = ap (λ (w : Tagged). w.words) view

  blank : IsBlank p.words h.next_free start first second
  blank = subst (λ ws. IsBlank ws h.next_free start first second) (sym words_seen) h.blank

  module _ (before list : ℕ) (left heads : List ℕ) (as_many : length heads ≡ length p.heads) (long : length left ≡ length p.words)
      (is_before : before ≡ before_in (get_or p.words start 0)) (is_list : list ≡ rule.bucket many)
      (unlinked : (lists : ℕ → List ℕ) → AreFreeLists p.words p.heads lists → IsIn taken (lists list)
      → UnlinksBlock p.words lists list taken left heads) where
    u : UnlinksBlock p.words kept.lists (rule.bucket (cond h.next_free second first)) (cond h.next_free (start + first) start) left heads
    u = subst (λ a. UnlinksBlock p.words kept.lists (rule.bucket (cond h.next_free second first)) a left heads) h.taken
        (subst (λ k. UnlinksBlock p.words kept.lists k taken left heads) (is_list ∙ ap rule.bucket h.many)
        (unlinked kept.lists now.linked (join_listed list is_list)))

    abbrev header : Header
    header = record { size = first + second; used = true; before = before }

    is_before' : before ≡ last_size 0 x.before
    is_before' = is_before ∙ one_before rule p kept.lists x.before (pair_second (start + first) second h.next_free ∷ x.behind)
        (pair_first start first h.next_free) now

    abbrev made : List ℕ
    made = with_before (set (set (cleared left (start + first) 2) (start + 1) 0) start (block_header_word header)) (start + (first + second)) (first + second)

    abbrev parts' : Fields
    parts' = record { words = made; heads = heads; used = p.used; free = p.free - 1 }

    after : IsValidWith rule parts' (x.before ++ (used_block start (first + second) 0 ∷ x.behind)) (lists_with kept.lists
        (rule.bucket (cond h.next_free second first))
        (without_block (cond h.next_free (start + first) start) (kept.lists (rule.bucket (cond h.next_free second first)))))
    after = joined_kept rule p kept.lists x.before x.behind start first second h.next_free now left heads u long header refl refl is_before' blank

    pub join_some : 1 ≤ p.free
    join_some = joined_some rule p kept.lists x.before x.behind start first second h.next_free now left heads u long header refl refl is_before' blank

    pub join_kept : IsValid rule count parts'
    join_kept = kept_now rule count parts' _ _ (as_many ∙ kept.as_many) after

    pub join_others : (w : ℕ) → w < start → get_or made w 0 ≡ get_or left w 0
    join_others w low =
        same_out rule p kept.lists x.before x.behind start first second h.next_free now left heads u long header refl refl is_before' blank w (inl low)

    pub join_turns : ReplacesBlock v x (seen parts') start (pair_detached x (first + second))
    join_turns = record {
      detached = record {
        blocks = blocks_now rule parts' _ _ after;
        tag = joined_tag rule p kept.lists x.before x.behind start first second h.next_free now left heads u long header refl refl is_before' blank;
        blank = joined_blank rule p kept.lists x.before x.behind start first second h.next_free now left heads u long header refl refl is_before' blank;
      };
      tags = tags_kept rule _ _ (join_kept.kept);
      others = subst (λ ws. KeepsOwned ws (x.before ++ x.behind) made) words_seen
          (joined_owned rule p kept.lists x.before x.behind start first second h.next_free now left heads u long header refl refl is_before' blank);
    }

    -- the free one leaves its list
    pub join_lists : (seen parts').lists ≡ lists_without v.lists taken
    join_lists =
        subst (λ a. (seen parts').lists ≡ lists_without (seen p).lists a) (sym h.taken)
        (lists_left p.words p.heads kept.lists now.linked made heads as_many (cond h.next_free (start + first) start)
        (rule.bucket (cond h.next_free second first)) (pair_listed rule p kept.lists x.before x.behind start first second h.next_free now) after.linked)
        ∙ ap (λ (w : Tagged). lists_without w.lists taken) view

-- ---- with the free one after the used block

module _ (v : Tagged) (at more : ℕ) (x : Detached) (h : HoldsBeforeFree v at more x) (empty : x.tag ≡ 0) where
  abbrev pub behind_taken : Detached
  behind_taken = record { before = x.before; behind = h.rest; size = x.size; tag = 0 }

  pub next_pair : (size next : ℕ) → size ≡ x.size → next ≡ at + size → ArePair v at size more next more behind_taken
  next_pair size next is_size is_next = record {
    next_free = true;
    blocks = h.held.blocks ∙ ap (λ o. x.before ++ (used_block at x.size o ∷ x.behind)) (ap owner_of empty)
        ∙ ap (λ bs. x.before ++ (used_block at x.size 0 ∷ bs)) h.next
        ∙ ap (λ n. x.before ++ (used_block at n 0 ∷ free_block (at + n) more ∷ h.rest)) (sym is_size);
    blank = λ i low high. h.held.blank i low (omega arith);
    taken = is_next;
    many = refl;
  }

  pub next_turns : (size : ℕ) (new : Tagged) → size ≡ x.size
      → ReplacesBlock v behind_taken new at (pair_detached behind_taken (size + more)) → ReplacesBlock v x new at (with_next x)
  next_turns size new is_size t = record {
    detached = subst (λ y. IsDetached new at y) detached_is t.detached;
    tags = t.tags;
    others = λ b o i used. t.others b o (elim (in_either b x.before x.behind i) [
      | inl early ↦ in_first b x.before h.rest early
      | inr late ↦ elim (subst (IsBlock b) h.next late) [
        | inl e ↦ absurd (let f : Some o ≡ None = sym used ∙ ap (λ (c : Block). c.owner) e in cc)
        | inr later ↦ in_second b x.before h.rest later
      ]
    ]) used;
  }
    where
      detached_is : pair_detached behind_taken (size + more) ≡ with_next x
      detached_is = ap (λ n. record { before = x.before; behind = h.rest; size = n + more; tag = 0 }) is_size
          ∙ ap (λ t. record { before = x.before; behind = h.rest; size = x.size + more; tag = t }) (sym empty)
          ∙ ap (λ bs. record { before = x.before; behind = past_free bs; size = x.size + free_first bs; tag = x.tag }) (sym h.next)

-- ---- with the free one before the used block

up_to : (bs : List Block) (a s : ℕ) → up_to_free (bs ++ (free_block a s ∷ [])) ≡ bs
up_to [] a s = refl
up_to (b ∷ []) a s = refl
up_to (b ∷ c ∷ cs) a s = ap (λ ys. b ∷ ys) (up_to (c ∷ cs) a s)

back_of : (bs : List Block) (a s : ℕ) → free_last (bs ++ (free_block a s ∷ [])) ≡ s
back_of [] a s = refl
back_of (b ∷ []) a s = refl
back_of (b ∷ c ∷ cs) a s = back_of (c ∷ cs) a s

module _ (v : Tagged) (at more : ℕ) (x : Detached) (h : HoldsBehindFree v at more x) (within : more ≤ at) where
  abbrev pub before_taken : Detached
  before_taken = record { before = h.rest; behind = x.behind; size = x.size; tag = 0 }

  back : at - more + more ≡ at
  back = omega arith

  pub previous_pair : (size : ℕ) → size ≡ x.size → ArePair v (at - more) more size (at - more) more before_taken
  previous_pair size is_size = record {
    next_free = false;
    blocks = h.held.blocks ∙ ap (λ o. x.before ++ (used_block at x.size o ∷ x.behind)) (ap owner_of h.empty)
        ∙ ap (λ bs. bs ++ (used_block at x.size 0 ∷ x.behind)) h.previous
        ∙ append_assoc h.rest (free_block (at - more) more ∷ []) (used_block at x.size 0 ∷ x.behind)
        ∙ ap (λ n. h.rest ++ (free_block (at - more) more ∷ used_block at n 0 ∷ x.behind)) (sym is_size)
        ∙ ap (λ a. h.rest ++ (free_block (at - more) more ∷ used_block a size 0 ∷ x.behind)) (sym back);
    blank = λ i low high. ap (λ a. get_or v.words (a + i) 0) back ∙ h.held.blank i low (omega arith);
    taken = refl;
    many = refl;
  }

  pub previous_turns : (size : ℕ) (new : Tagged) → size ≡ x.size
      → ReplacesBlock v before_taken new (at - more) (pair_detached before_taken (more + size))
      → ReplacesBlock v x new (at - more) (with_previous x)
  previous_turns size new is_size t = record {
    detached = subst (λ y. IsDetached new (at - more) y) detached_is t.detached;
    tags = t.tags;
    others = λ b o i used. t.others b o (elim (in_either b x.before x.behind i) [
      | inl early ↦ elim (in_either b h.rest (free_block (at - more) more ∷ []) (subst (IsBlock b) h.previous early)) [
        | inl here ↦ in_first b h.rest x.behind here
        | inr last ↦ elim last [
          | inl e ↦ absurd (let f : Some o ≡ None = sym used ∙ ap (λ (c : Block). c.owner) e in cc)
          | inr no_more ↦ absurd no_more
        ]
      ]
      | inr late ↦ in_second b h.rest x.behind late
    ]) used;
  }
    where
      detached_is : pair_detached before_taken (more + size) ≡ with_previous x
      detached_is = ap (λ n. record { before = h.rest; behind = x.behind; size = more + n; tag = 0 }) is_size
          ∙ ap (λ bs. record { before = bs; behind = x.behind; size = more + x.size; tag = 0 })
          (sym (ap up_to_free h.previous ∙ up_to h.rest (at - more) more))
          ∙ ap (λ s. record { before = up_to_free x.before; behind = x.behind; size = s + x.size; tag = 0 })
          (sym (ap free_last h.previous ∙ back_of h.rest (at - more) more))
          ∙ ap (λ t. record { before = up_to_free x.before; behind = x.behind; size = free_last x.before + x.size; tag = t }) (sym h.empty)
