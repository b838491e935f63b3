use Rattle.std.proofs.Common.{refl, arith}
use Rattle.block_model.specs.Buckets.{tlsf, tlsf_bucket, tlsf_rounded, log_up_to}
use Rattle.block_model.specs.Tiling.{one_free_block, used_words}
use Rattle.block_model.specs.Worked.{free}
use Rattle.block_model.proofs.BlockTests.{lacks, no_earlier}
use Rattle.block_model.proofs.worked.a_remainder_of_a_word_stays.Goals as goal

pub returns-clause-refused : goal.returns-clause-refused
unfolding tlsf_bucket tlsf_rounded log_up_to
returns-clause-refused c = lacks tlsf 65 (one_free_block 64) refl

pub returns-clause-served : goal.returns-clause-served
unfolding tlsf_bucket tlsf_rounded log_up_to
returns-clause-served c = record {
  found = free 0 64;
  there = refl;
  serves = record { free = refl; reached = omega arith };
  least = no_earlier tlsf 63 (tlsf_bucket 64) (one_free_block 64) refl;
  carved = refl;
}

pub returns-clause-taken : goal.returns-clause-taken
unfolding used_words
returns-clause-taken c = refl
