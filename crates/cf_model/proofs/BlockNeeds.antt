-- For the managers with blocks: in each kind every block of a list that a malloc searches is large enough (`AreLawful`), and an object that fits a page needs
-- at most 2 ^ 23 words of a block.
use Rattle.std.proofs.Common.{◌≡◌, ℕ, ◌^◌, ◌≤◌, arith}
use Rattle.cf_base.specs.Classes.{need}
use Rattle.cf_base.specs.Settings.{Profile}
use Rattle.cf_base.specs.declared.kind.Kind.{Kind}
use Rattle.cf_base.specs.declared.kind.Kind.TheVariants.{Moving, NonMoving, Tlsf, HalfFit}
use Rattle.cf_base.proofs.Rising.{page_size}
use Rattle.block_model.specs.Buckets.{AreLawful}
use Rattle.block_model.specs.Tiling.{block_need}
use Rattle.block_model.proofs.CallerLemmas.{half_fit_lawful, tlsf_lawful}
use Rattle.cf_model.specs.Families.{IsTiled, free_lists_of, list_count_of, paged, tiled}
use Rattle.cf_model.specs.Rules.{AreInRange}

-- the free lists of each kind with blocks are lawful
pub lawful : (k : Kind) → IsTiled k → AreLawful (free_lists_of k) (list_count_of k)
lawful Moving is = (let e : paged ≡ tiled = is in cc)
lawful NonMoving is = (let e : paged ≡ tiled = is in cc)
lawful Tlsf is = tlsf_lawful
lawful HalfFit is = half_fit_lawful

-- a request that fits a page needs at most `2^23` words of a block
pub need_is_small : (p : Profile) (ok : AreInRange p) (n : ℕ) → need n ≤ p.page_words → block_need n ≤ 2 ^ 23
need_is_small p ok n fits = (let most = (page_size p.page_words ok.page_size).small in omega arith)
