use Rattle.script_laws.proofs.CallerLemmas.{all_items_valid}
use Rattle.quota_session.proofs.ScriptShown.{transcript_shown}
use Rattle.quota_session.proofs.laws.one_transcript_of_tasks.Goals as goal

pub returns-clause-run : goal.returns-clause-run
returns-clause-run c = transcript_shown

pub returns-clause-script : goal.returns-clause-script
returns-clause-script c = λ given ended replies new run. transcript_shown _ replies new (all_items_valid given ended) run
