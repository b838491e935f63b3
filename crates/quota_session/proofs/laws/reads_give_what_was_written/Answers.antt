use Rattle.script_laws.proofs.CallerLemmas.{all_items_valid}
use Rattle.quota_session.proofs.ScriptShown.{transcript_shown}
use Rattle.quota_session.proofs.TaskReads.{reads_are_shown}
use Rattle.quota_session.proofs.laws.reads_give_what_was_written.Goals as goal

pub returns-clause-run : goal.returns-clause-run
returns-clause-run c = λ items replies new can run. reads_are_shown items replies (transcript_shown items replies new can run)

pub returns-clause-script : goal.returns-clause-script
returns-clause-script c = λ given ended replies new run. reads_are_shown _ replies (transcript_shown _ replies new (all_items_valid given ended) run)
