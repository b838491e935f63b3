-- For the clauses `listed` of `TagBlocks`: its free lists, as read from the words and the heads of the lists, contain exactly the free blocks, each in the
-- list of its size (`AreListsOf`).
use Rattle.std.proofs.Common.{◌≡◌, ℕ, List, length, refl, sym, ◌∙◌, subst}
use Rattle.std.specs.Prelude.{nat_eq}
use Rattle.std.specs.List.{Contains, IsDistinct}
use Rattle.block_model.specs.Buckets.{FreeLists}
use Rattle.block_model.specs.FreeOrder.{AreListsOf}
use Rattle.block_model.specs.Tiling.{Block}
use Rattle.tag_blocks.specs.Links.{IsIn}
use Rattle.tag_blocks.specs.Blocks.{Tagged, listed}
use Rattle.tag_blocks.specs.Tags.{blocks_of, lists_of}
use Rattle.tag_blocks.specs.Layout.{Fields, IsBlock, free_block, IsValidWith, IsValid}
use Rattle.tag_blocks.proofs.FillLemmas.{block_is, block_found}
use Rattle.tag_blocks.proofs.FindLemmas.{as_free}
use Rattle.tag_blocks.proofs.ListsSeen.{contains_in, in_contains, length-lists, list_seen, once_distinct}
use Rattle.tag_blocks.proofs.ViewLemmas.{seen}

pub lists_of_blocks : (rule : FreeLists) (count : ℕ) (p : Fields) (bs : List Block) (lists : ℕ → List ℕ) → length p.heads ≡ count
    → IsValidWith rule p bs lists → AreListsOf rule count (record { blocks = bs; lists = lists_of p.words p.heads })
lists_of_blocks rule count p bs lists many k = record {
  as_many = length-lists p.words p.heads ∙ many;
  members = λ j a. (
    (λ i.
        let f = k.listed.free j a (contains_in a (lists j) (subst (λ xs. Contains xs a) (list_seen p.words p.heads lists k.linked j) i)) in
        record {
          block = free_block a f.0;
          there = block_found bs 0 (length p.words) (free_block a f.0) k.fill f.1;
          free = refl;
          bucket = f.2;
        }),
    (λ f.
        let is = block_is bs a f.block f.there in
        let i = k.listed.all a f.block.size (subst (λ y. IsBlock y bs) (as_free f.block a is.0 f.free) is.1) in
        subst (λ xs. Contains xs a) (sym (list_seen p.words p.heads lists k.linked j))
        (in_contains a (lists j) (subst (λ q. IsIn a (lists q)) f.bucket i))),
  );
  once = λ j. subst (IsDistinct nat_eq) (sym (list_seen p.words p.heads lists k.linked j)) (once_distinct (lists j) (k.linked.distinct j));
}

pub seen_listed : (rule : FreeLists) (count : ℕ) (p : Fields) → IsValid rule count p → AreListsOf rule count (listed (seen p))
seen_listed rule count p kept = lists_of_blocks rule count p (blocks_of p.words) kept.lists kept.as_many kept.kept

pub view_listed : (rule : FreeLists) (count : ℕ) (p : Fields) (v : Tagged) → IsValid rule count p → seen p ≡ v → AreListsOf rule count (listed v)
view_listed rule count p v kept view = subst (λ w. AreListsOf rule count (listed w)) view (seen_listed rule count p kept)
