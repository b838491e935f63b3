-- For the clauses `steps` and `lists` of `release`: the steps of its stages (clear, coalesce with each neighbour, make free) add up to those of the definition,
-- and so do their changes to the free lists. For `absorb_next` and `absorb_previous`: without a free neighbour no list changes.
use Rattle.std.proofs.Common.{◌≡◌, ◌≢◌, ℕ, Bool, true, false, ◌+◌, ◌-◌, ◌<◌, ◌≤◌, ◌==◌, List, [], ◌∷◌, ◌++◌, Option, Some, None, length, cond, get_or}
use Rattle.std.proofs.Common.{arith, refl, sym, ap, ◌∙◌, inl, inr, subst}
use Rattle.std.specs.Prelude.{◌⊎◌, is_none}
use Rattle.std.proofs.lemmas.Bool.{cases_eq}
use Rattle.block_model.specs.Buckets.{FreeLists}
use Rattle.block_model.specs.FreeOrder.{AreListsOf, free_from, free_size, free_up_to, lists_led_by, lists_released, lists_without, merged_size, merged_start}
use Rattle.block_model.specs.Tiling.{Block, is_free, Fill, block_at, size_at, size_of}
use Rattle.block_model.proofs.CallerLemmas.{fill_le, none_ends, without_used}
use Rattle.cf_base.proofs.Tests.{eq_yes, eq_no}
use Rattle.tag_blocks.specs.Blocks.{Tagged, AreTags, IsUsedAt, listed, owner_of}
use Rattle.block_model.specs.Costs.{join_steps, link_then, list_length, next_merge_steps, previous_merge_steps, pushed_steps, release_sized}
use Rattle.block_model.specs.Costs.{release_steps}
use Rattle.tag_blocks.specs.Stages.{Detached, IsDetached, free_first, free_last}
use Rattle.tag_blocks.specs.Layout.{IsBlock, used_block}
use Rattle.tag_blocks.proofs.FillLemmas.{lies_in, in_second, block_is, block_found}
use Rattle.tag_blocks.proofs.ListsAfterChange.{FillsAt, fills_at}
use Rattle.tag_blocks.proofs.ReleaseLemmas.{parts}
use Rattle.tag_blocks.proofs.ThreadLemmas.{chosen}

-- ---- the free neighbours, by the blocks

-- no block begins at the end of the region
none_at_end : (bs : List Block) (n : ℕ) (o : Option Block) → Fill bs 0 n → block_at bs n ≡ o → free_size o ≡ 0
none_at_end bs n None f is = refl
none_at_end bs n (Some b) f is = absurd (
    let i = block_is bs n b is in let l = lies_in bs 0 n b f i.1 in let high = l.high in let two = l.size in let at = i.0 in omega arith)

pub next_free : (pre post : List Block) (b : Block) (mid n : ℕ) → Fill (pre ++ (b ∷ post)) 0 n → Fill post mid n
    → free_from (pre ++ (b ∷ post)) mid ≡ free_first post
next_free pre [] b mid n f g =
    ap (free_from (pre ++ (b ∷ []))) g ∙ none_at_end (pre ++ (b ∷ [])) n (block_at (pre ++ (b ∷ [])) n) f refl
next_free pre (c ∷ cs) b mid n f g =
    ap (free_from (pre ++ (b ∷ c ∷ cs))) (sym g.0)
    ∙ ap free_size (block_found (pre ++ (b ∷ c ∷ cs)) 0 n c f (in_second c pre (b ∷ c ∷ cs) (inr (inl refl))))

pub previous_free : (pre post : List Block) (from at n : ℕ) → Fill pre from at → Fill post at n → free_up_to (pre ++ post) at ≡ free_last pre
previous_free [] post from at n f g = none_ends post at n at g (omega arith)
previous_free (b ∷ []) post from at n f g =
    rw (eq_yes (b.address + b.size) at (let a = f.0 in let e = f.2 in omega arith)) refl
previous_free (b ∷ c ∷ cs) post from at n f g =
    let a = f.0 in let two = f.2.1 in let le = fill_le cs (from + b.size + c.size) at f.2.2 in
    rw (eq_no (b.address + b.size) at (λ e. absurd (omega arith))) (previous_free (c ∷ cs) post (from + b.size) at n f.2 g)

-- a free block before has two words at least
pub back_two : (pre : List Block) (from at : ℕ) → Fill pre from at → free_last pre ≢ 0 → (2 ≤ free_last pre) × (free_last pre ≤ at)
back_two [] from at f some = absurd (some refl)
back_two (b ∷ []) from at f some = by_cases (is_free b) refl
  where
    by_cases : (t : Bool) → is_free b ≡ t → (2 ≤ cond (is_free b) b.size 0) × (cond (is_free b) b.size 0 ≤ at)
    by_cases true e = rw e (let two = f.1 in let end = f.2 in (two, omega arith))
    by_cases false e = absurd (some (ap (λ t. cond t b.size 0) e))
back_two (b ∷ c ∷ cs) from at f some = back_two (c ∷ cs) (from + b.size) at f.2 some

-- ---- blocks that are in no list

module _ (rule : FreeLists) (count : ℕ) (v : Tagged) (at : ℕ) (x : Detached) (tags : AreTags v) (h : IsDetached v at x)
    (of : AreListsOf rule count (listed v)) where
  abbrev own : Block
  own = used_block at x.size (owner_of x.tag)

  own_filled : Fill (x.before ++ (own ∷ x.behind)) 0 (length v.words)
  own_filled = subst (λ bs. Fill bs 0 (length v.words)) h.blocks tags.tiling.fill

  no_free : (a : ℕ) → free_from v.blocks a ≡ 0 → lists_without v.lists a ≡ v.lists
  no_free a none = without_used rule count v.blocks v.lists a of (λ b there free. absurd (
      let size : b.size ≡ 0 = sym (ap (λ o. cond (is_none o) b.size 0) free) ∙ sym (ap free_size there) ∙ none in
      let l = lies_in v.blocks 0 (length v.words) b tags.tiling.fill (block_is v.blocks a b there).1 in
      let two = l.size in omega arith))

  -- if no free block begins behind the block x that is being released, no list has a block at that address
  pub next_unlisted : (size : ℕ) → size ≡ x.size → free_first x.behind ≡ 0 → v.lists ≡ lists_without v.lists (at + size)
  next_unlisted size is none = sym (no_free (at + size) (
      ap (λ s. free_from v.blocks (at + s)) is ∙ ap (λ bs. free_from bs (at + x.size)) h.blocks
      ∙ next_free x.before x.behind own (at + x.size) (length v.words) own_filled
      (fills_at x.before x.behind own (length v.words) own_filled).behind ∙ none))

  -- the block x is still used, so it is in no list
  pub own_unlisted : v.lists ≡ lists_without v.lists at
  own_unlisted = sym (no_free at (ap free_size (block_found v.blocks 0 (length v.words) own tags.tiling.fill
      (subst (λ bs. IsBlock own bs) (sym h.blocks) (in_second own x.before (own ∷ x.behind) (inl refl))))))

-- ---- the call

module _ (rule : FreeLists) (v : Tagged) (tags : AreTags v) (at : ℕ) (u : IsUsedAt v.blocks at) where
  abbrev size : ℕ
  size = u.block.size

  abbrev more : ℕ
  more = free_first (parts v at u).behind

  abbrev less : ℕ
  less = free_last (parts v at u).before

  at_is : u.block.address ≡ at
  at_is = (block_is v.blocks at u.block u.there).0

  filled : Fill ((parts v at u).before ++ (u.block ∷ (parts v at u).behind)) 0 (length v.words)
  filled = subst (λ bs. Fill bs 0 (length v.words)) (parts v at u).whole tags.tiling.fill

  both : FillsAt (parts v at u).before (parts v at u).behind u.block (length v.words)
  both = fills_at (parts v at u).before (parts v at u).behind u.block (length v.words) filled

  before_fills : Fill (parts v at u).before 0 at
  before_fills = subst (Fill (parts v at u).before 0) at_is both.before

  behind_fills : Fill (parts v at u).behind (at + size) (length v.words)
  behind_fills = subst (λ a. Fill (parts v at u).behind (a + size) (length v.words)) at_is both.behind

  size_is : size_at v.blocks at ≡ size
  size_is = ap size_of u.there

  more_is : free_from v.blocks (at + size) ≡ more
  more_is = ap (λ bs. free_from bs (at + size)) (parts v at u).whole
      ∙ next_free (parts v at u).before (parts v at u).behind u.block (at + size) (length v.words) filled behind_fills

  less_is : free_up_to v.blocks at ≡ less
  less_is = ap (λ bs. free_up_to bs at) (parts v at u).whole
      ∙ previous_free (parts v at u).before (u.block ∷ (parts v at u).behind) 0 at (length v.words) before_fills (at_is, both.size, behind_fills)

  by_parts : (new : List Block) → release_sized rule v.words at size more less new ≡ release_steps rule v.words v.blocks at new
  by_parts new = sym (
      ap (λ s. release_sized rule v.words at s (free_from v.blocks (at + s)) (free_up_to v.blocks at) new) size_is
      ∙ ap (λ m. release_sized rule v.words at size m (free_up_to v.blocks at) new) more_is
      ∙ ap (λ l. release_sized rule v.words at size more l new) less_is)

  total_is : less + (size + more) ≡ merged_size v.blocks at
  total_is = sym (
      ap (λ s. free_up_to v.blocks at + (s + free_from v.blocks (at + s))) size_is
      ∙ ap (λ m. free_up_to v.blocks at + (size + m)) more_is
      ∙ ap (λ l. l + (size + more)) less_is)

  start_is : at - less ≡ merged_start v.blocks at
  start_is = ap (λ l. at - l) (sym less_is)

  -- the lists after each stage
  pub release_lists : (one two three new : List (List ℕ)) (first start third : ℕ) → first ≡ size → start ≡ at - less → third ≡ less + (size + more)
      → one ≡ v.lists → two ≡ lists_without one (at + first) → three ≡ lists_without two start → new ≡ lists_led_by rule three start third
      → new ≡ lists_released rule (listed v) at
  release_lists one two three new first start third is_first is_start is_third same gone gone' led =
      let begins : start ≡ merged_start v.blocks at = is_start ∙ start_is in
      let two_is : two ≡ lists_without v.lists (at + size_at v.blocks at) =
      gone ∙ ap (λ ls. lists_without ls (at + first)) same ∙ ap (λ s. lists_without v.lists (at + s)) (is_first ∙ sym size_is) in
      led ∙ ap (λ n. lists_led_by rule three start n) (is_third ∙ total_is)
      ∙ ap (λ ls. lists_led_by rule ls start (merged_size v.blocks at)) (gone' ∙ ap (λ ls. lists_without ls start) two_is)
      ∙ ap (λ a. lists_led_by rule (lists_without (lists_without v.lists (at + size_at v.blocks at)) a) a (merged_size v.blocks at)) begins

  module _ (one two : List ℕ) (first second third : ℕ) (is_first : first ≡ size) (is_second : second ≡ size + more) (is_third : third ≡ less + (size + more))
      (others : (w : ℕ) → (w < at) ⊎ (at + first ≤ w) → get_or one w 0 ≡ get_or v.words w 0) (len_one : length one ≡ length v.words)
      (len_two : length two ≡ length one)
      (left : (a : ℕ) → a + 1 < at → get_or two (a + 1) 0 ≡ link_then more a (get_or one (a + 1) 0) (get_or one (at + first + 1) 0)) where
    gone : get_or one (at + first + 1) 0 ≡ get_or v.words (at + size + 1) 0
    gone = others (at + first + 1) (inr (omega arith)) ∙ ap (λ s. get_or v.words (at + s + 1) 0) is_first

    next_part : next_merge_steps (get_or one (at + first + 1) 0) (at + first) more (length one)
        ≡ next_merge_steps (get_or v.words (at + size + 1) 0) (at + size) more (length v.words)
    next_part =
        ap (λ q. next_merge_steps q (at + first) more (length one)) gone
        ∙ ap (λ s. next_merge_steps (get_or v.words (at + size + 1) 0) (at + s) more (length one)) is_first
        ∙ ap (λ n. next_merge_steps (get_or v.words (at + size + 1) 0) (at + size) more n) len_one

    abbrev link : ℕ
    link = link_then more (at - less) (get_or v.words (at - less + 1) 0) (get_or v.words (at + size + 1) 0)

    link_is : less ≢ 0 → get_or two (at - less + 1) 0 ≡ link
    link_is some =
        let b = back_two (parts v at u).before 0 at before_fills some in let low = b.0 in let high = b.1 in
        left (at - less) (omega arith)
        ∙ ap (λ q. link_then more (at - less) q (get_or one (at + first + 1) 0)) (others (at - less + 1) (inl (omega arith)))
        ∙ ap (link_then more (at - less) (get_or v.words (at - less + 1) 0)) gone

    end_is : at + second ≡ at + (size + more)
    end_is = ap (λ s. at + s) is_second

    previous_part : previous_merge_steps (get_or two (at - less + 1) 0) at less (at + second) (length two)
        ≡ previous_merge_steps link at less (at + (size + more)) (length v.words)
    previous_part = elim (cases_eq less 0) [
      | inl none ↦ ap (λ n. cond (at == 0) 0 1 + n) (
          chosen less 0 0 (join_steps (get_or two (at - less + 1) 0) (at + second) (length two)) none
          ∙ sym (chosen less 0 0 (join_steps link (at + (size + more)) (length v.words)) none))
      | inr some ↦ (
          ap (λ q. previous_merge_steps q at less (at + second) (length two)) (link_is some)
          ∙ ap (λ e. previous_merge_steps link at less e (length two)) end_is
          ∙ ap (λ n. previous_merge_steps link at less (at + (size + more)) n) (len_two ∙ len_one))
    ]

    pub release_cost : (new : List Block)
        → first + (next_merge_steps (get_or one (at + first + 1) 0) (at + first) more (length one)
        + (previous_merge_steps (get_or two (at - less + 1) 0) at less (at + second) (length two)
        + (2 + pushed_steps (list_length rule new (rule.bucket third))))) ≡ release_steps rule v.words v.blocks at new
    release_cost new =
        ap (λ s. s + (next_merge_steps (get_or one (at + first + 1) 0) (at + first) more (length one)
        + (previous_merge_steps (get_or two (at - less + 1) 0) at less (at + second) (length two)
        + (2 + pushed_steps (list_length rule new (rule.bucket third)))))) is_first
        ∙ ap (λ n. size + (n + (previous_merge_steps (get_or two (at - less + 1) 0) at less (at + second) (length two)
        + (2 + pushed_steps (list_length rule new (rule.bucket third)))))) next_part
        ∙ ap (λ n. size + (next_merge_steps (get_or v.words (at + size + 1) 0) (at + size) more (length v.words)
        + (n + (2 + pushed_steps (list_length rule new (rule.bucket third)))))) previous_part
        ∙ ap (λ s. size + (next_merge_steps (get_or v.words (at + size + 1) 0) (at + size) more (length v.words)
        + (previous_merge_steps link at less (at + (size + more)) (length v.words) + (2 + pushed_steps (list_length rule new (rule.bucket s)))))) is_third
        ∙ regrouped size (next_merge_steps (get_or v.words (at + size + 1) 0) (at + size) more (length v.words))
        (previous_merge_steps link at less (at + (size + more)) (length v.words)) (2 + pushed_steps (list_length rule new (rule.bucket (less + (size + more)))))
        ∙ by_parts new
      where
        regrouped : (a b c d : ℕ) → a + (b + (c + d)) ≡ a + b + c + d
        regrouped a b c d = omega arith
