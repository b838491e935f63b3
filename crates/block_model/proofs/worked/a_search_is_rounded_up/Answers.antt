use Rattle.std.proofs.Common.{refl, arith, [], ◌∷◌}
use Rattle.block_model.specs.Buckets.{tlsf, tlsf_bucket, tlsf_rounded, log_up_to}
use Rattle.block_model.specs.Tiling.{one_free_block}
use Rattle.block_model.specs.Worked.{used, free}
use Rattle.block_model.proofs.BlockTests.{lacks, no_earlier}
use Rattle.block_model.proofs.worked.a_search_is_rounded_up.Goals as goal

pub returns-clause-first : goal.returns-clause-first
unfolding tlsf_bucket tlsf_rounded log_up_to
returns-clause-first c = record {
  found = free 0 64;
  there = refl;
  serves = record { free = refl; reached = omega arith };
  least = no_earlier tlsf 31 (tlsf_bucket 64) (one_free_block 64) refl;
  carved = refl;
}

pub returns-clause-refused : goal.returns-clause-refused
unfolding tlsf_bucket tlsf_rounded log_up_to
returns-clause-refused c = lacks tlsf 33 (used 0 31 1 ∷ free 31 33 ∷ []) refl

pub returns-clause-second : goal.returns-clause-second
unfolding tlsf_bucket tlsf_rounded log_up_to
returns-clause-second c = record {
  found = free 31 33;
  there = refl;
  serves = record { free = refl; reached = omega arith };
  least = no_earlier tlsf 32 (tlsf_bucket 33) (used 0 31 1 ∷ free 31 33 ∷ []) refl;
  carved = refl;
}
