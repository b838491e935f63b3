use Rattle.std.proofs.Common.{refl, arith, [], ◌∷◌}
use Rattle.block_model.specs.Buckets.{half_fit, half_fit_bucket, tlsf, tlsf_bucket, tlsf_rounded, log_up_to}
use Rattle.block_model.specs.Tiling.{one_free_block}
use Rattle.block_model.specs.Worked.{used, free}
use Rattle.block_model.proofs.BlockTests.{lacks, no_earlier}
use Rattle.block_model.proofs.worked.half_fit_refuses_what_tlsf_serves.Goals as goal

pub returns-clause-tlsf_first : goal.returns-clause-tlsf_first
unfolding tlsf_bucket tlsf_rounded log_up_to
returns-clause-tlsf_first c = record {
  found = free 0 64;
  there = refl;
  serves = record { free = refl; reached = omega arith };
  least = no_earlier tlsf 34 (tlsf_bucket 64) (one_free_block 64) refl;
  carved = refl;
}

pub returns-clause-half_fit_first : goal.returns-clause-half_fit_first
unfolding log_up_to
returns-clause-half_fit_first c = record {
  found = free 0 64;
  there = refl;
  serves = record { free = refl; reached = omega arith };
  least = no_earlier half_fit 34 (half_fit_bucket 64) (one_free_block 64) refl;
  carved = refl;
}

pub returns-clause-tlsf_second : goal.returns-clause-tlsf_second
unfolding tlsf_bucket tlsf_rounded log_up_to
returns-clause-tlsf_second c = record {
  found = free 34 30;
  there = refl;
  serves = record { free = refl; reached = omega arith };
  least = no_earlier tlsf 24 (tlsf_bucket 30) (used 0 34 1 ∷ free 34 30 ∷ []) refl;
  carved = refl;
}

pub returns-clause-half_fit_second : goal.returns-clause-half_fit_second
unfolding log_up_to
returns-clause-half_fit_second c = lacks half_fit 24 (used 0 34 1 ∷ free 34 30 ∷ []) refl
