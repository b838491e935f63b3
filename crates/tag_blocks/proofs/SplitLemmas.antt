-- For `split`: the first words of a free block become used and the rest a free block, as if the whole block became used and were cut then. The invariant of
-- `TagBlocks` still holds, the other used blocks keep their contents, and the rest is the head of its free list; also the steps of making it the head.
use Rattle.std.proofs.Common.{◌≡◌, ℕ, true, false, ◌+◌, ◌-◌, ◌^◌, ◌<◌, ◌≤◌, List, length, get_or, set, arith, refl, sym, ap, ◌∙◌, subst}
use Rattle.std.proofs.lemmas.List.{set-set, set_comm}
use Rattle.block_model.specs.Buckets.{FreeLists}
use Rattle.block_model.specs.Tiling.{size_at}
use Rattle.block_model.specs.FreeOrder.{lists_led_by, lists_without}
use Rattle.block_model.specs.Costs.{list_length, push_steps, pushed_steps}
use Rattle.tag_blocks.specs.Links.{AreFreeLists, IsIn, PushesBlock, UnlinksBlock}
use Rattle.tag_blocks.specs.Blocks.{Tagged, owner_of}
use Rattle.tag_blocks.specs.Tags.{size_in, before_in, block_header_word, with_before}
use Rattle.tag_blocks.specs.Layout.{Fields, used_block, IsValid}
use Rattle.tag_blocks.specs.Stages.{Detached, IsSplittable, ReplacesBlock, cut_detached}
use Rattle.tag_blocks.proofs.CarveLemmas.{detached_size}
use Rattle.tag_blocks.proofs.ClaimLemmas.{now as free_now, free_words_before, parts, claim_counts, claim_kept, claim_lists, claim_size, claim_turns, claim_within}
use Rattle.tag_blocks.proofs.CutLemmas.{now as used_now, IsCuttable, cutting_linked, cutting_kept, cutting_lists, cutting_steps, cutting_turns}
use Rattle.tag_blocks.proofs.HeaderAfter.{one_before}
use Rattle.tag_blocks.proofs.ViewLemmas.{seen}

module _ (rule : FreeLists) (count : ℕ) (p : Fields) (v : Tagged) (kept : IsValid rule count p) (view : seen p ≡ v) (at need : ℕ) (some : 2 ≤ need)
    (x : Detached) (h : IsSplittable v at need x) where
  pub split_sizes : (need + 2 ≤ x.size) × (at + x.size ≤ length p.words) × (length p.words ≤ 2 ^ 23)
  split_sizes = (let w = claim_within rule count p v kept view at x h.between in (h.rest, w.1, w.2))

  module _ (tag size before list : ℕ) (left heads : List ℕ) (many : length heads ≡ length p.heads) (long : length left ≡ length p.words)
      (is_size : size ≡ size_in (get_or p.words at 0)) (is_before : before ≡ before_in (get_or p.words at 0)) (is_list : list ≡ rule.bucket size)
      (unlinked : (lists : ℕ → List ℕ) → AreFreeLists p.words p.heads lists → IsIn at (lists list) → UnlinksBlock p.words lists list at left heads) where
    -- the fields, if the whole block became used
    abbrev mid : Fields
    mid = parts rule count p v kept view at x h.between tag size before list left heads many long is_size is_before is_list unlinked

    mid_kept : IsValid rule count mid
    mid_kept = claim_kept rule count p v kept view at x h.between tag size before list left heads many long is_size is_before is_list unlinked

    abbrev used : Detached
    used = record { before = x.before; behind = x.behind; size = x.size; tag = tag }

    turned : ReplacesBlock v x (seen mid) at used
    turned = claim_turns rule count p v kept view at x h.between tag size before list left heads many long is_size is_before is_list unlinked

    cuttable : IsCuttable (seen mid) at need used
    cuttable = record { held = turned.detached; rest = h.rest; apart = h.apart }

    mid_size : size ≡ size_at (seen mid).blocks at
    mid_size = claim_size rule count p v kept view at x h.between size is_size ∙ sym (detached_size (seen mid) at used turned.tags turned.detached)

    mid_before : before_in (get_or mid.words at 0) ≡ before
    mid_before =
        one_before rule mid mid_kept.lists x.before x.behind (used_block at x.size (owner_of tag))
        (used_now rule count mid (seen mid) mid_kept refl at need some used cuttable)
        ∙ sym (is_before ∙ free_words_before rule p kept.lists x.before x.behind at x.size (free_now rule count p v kept view at x h.between))

    -- the words after the block's header and tag are written, with its final size at once
    abbrev prefix : List ℕ
    prefix = set (set left at (block_header_word (record { size = need; used = true; before = before }))) (at + 1) tag

    abbrev prefix_of : ℕ → List ℕ
    prefix_of b = set mid.words at (block_header_word (record { size = need; used = true; before = b }))

    same_prefix : prefix_of (before_in (get_or mid.words at 0)) ≡ prefix
    same_prefix =
        ap prefix_of mid_before
        ∙ set_comm (set left at (block_header_word (record { size = size; used = true; before = before }))) (at + 1) at tag
        (block_header_word (record { size = need; used = true; before = before })) (λ e. absurd (omega arith))
        ∙ ap (λ ws. set ws (at + 1) tag) (set-set left at (block_header_word (record { size = size; used = true; before = before }))
        (block_header_word (record { size = need; used = true; before = before })))

    abbrev cut_from : List ℕ → List ℕ
    cut_from ws = with_before (set ws (at + need) (block_header_word (record { size = size - need; used = false; before = need }))) (at + size) (size - need)

    pub split_linked : (lists : ℕ → List ℕ) × AreFreeLists (cut_from prefix) heads lists
    split_linked = (
      mid_kept.lists,
      subst (λ ws. AreFreeLists (cut_from ws) heads mid_kept.lists) same_prefix
          (cutting_linked rule count mid (seen mid) mid_kept refl at need some used cuttable size mid_size),
    )

    module _ (rest_list : ℕ) (words' heads' : List ℕ) (many' : length heads' ≡ length heads) (long' : length words' ≡ length (cut_from prefix))
        (is_rest : rest_list ≡ rule.bucket (size - need))
        (pushed : (lists : ℕ → List ℕ) → AreFreeLists (cut_from prefix) heads lists → ((j : ℕ) → ¬ IsIn (at + need) (lists j))
        → PushesBlock (cut_from prefix) lists rest_list (at + need) words' heads') where
      long_cut : length words' ≡ length (cut_from (prefix_of (before_in (get_or mid.words at 0))))
      long_cut = long' ∙ ap (λ ws. length (cut_from ws)) (sym same_prefix)

      pushed_cut : (lists : ℕ → List ℕ) → AreFreeLists (cut_from (prefix_of (before_in (get_or mid.words at 0)))) heads lists
          → ((j : ℕ) → ¬ IsIn (at + need) (lists j))
          → PushesBlock (cut_from (prefix_of (before_in (get_or mid.words at 0)))) lists rest_list (at + need) words' heads'
      pushed_cut = subst (λ ws. (lists : ℕ → List ℕ) → AreFreeLists (cut_from ws) heads lists → ((j : ℕ) → ¬ IsIn (at + need) (lists j))
          → PushesBlock (cut_from ws) lists rest_list (at + need) words' heads') (sym same_prefix) pushed

      abbrev pub after : Fields
      after = record { words = words'; heads = heads'; used = p.used + 1; free = p.free }

      pub split_kept : IsValid rule count after
      split_kept = subst (λ n. IsValid rule count (record { words = words'; heads = heads'; used = p.used + 1; free = n }))
          (let n = claim_counts rule count p v kept view at x h.between in let one = n.0 in omega arith)
          (cutting_kept rule count mid (seen mid) mid_kept refl at need some used cuttable size mid_size
          rest_list words' heads' many' long_cut is_rest pushed_cut)

      cut : ReplacesBlock (seen mid) used (seen after) at (cut_detached at need used)
      cut = cutting_turns rule count mid (seen mid) mid_kept refl at need some used cuttable size mid_size
          rest_list words' heads' many' long_cut is_rest pushed_cut

      pub split_turns : ReplacesBlock v x (seen after) at (cut_detached at need used)
      split_turns = record {
        detached = cut.detached;
        tags = cut.tags;
        others = λ b o i owned j low high. cut.others b o i owned j low high ∙ turned.others b o i owned j low high;
      }

      -- the steps of pushing the rest on its list
      pub split_steps : rest_list < length heads
          → push_steps (get_or heads rest_list 0) ≡ pushed_steps (list_length rule (seen after).blocks (rule.bucket (size - need)))
      split_steps within = cutting_steps rule count mid (seen mid) mid_kept refl at need some used cuttable size mid_size
          rest_list words' heads' many' long_cut is_rest pushed_cut within

      pub split_lists : rule.bucket (size - need) < length heads
          → (seen after).lists ≡ lists_led_by rule (lists_without v.lists at) (at + need) (size - need)
      split_lists below =
          cutting_lists rule count mid (seen mid) mid_kept refl at need some used cuttable size mid_size
          rest_list words' heads' many' long_cut is_rest pushed_cut below
          ∙ ap (λ ls. lists_led_by rule ls (at + need) (size - need))
          (claim_lists rule count p v kept view at x h.between tag size before list left heads many long is_size is_before is_list unlinked)
