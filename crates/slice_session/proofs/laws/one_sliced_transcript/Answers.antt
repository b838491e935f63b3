use Rattle.std.proofs.Common.{None, sym, ◌∙◌}
use Rattle.slice_session.proofs.OneTranscript.{is_transcript, replies_from, transcript_meets}
use Rattle.slice_session.proofs.laws.one_sliced_transcript.Goals as goal

pub returns-clause-one : goal.returns-clause-one
returns-clause-one c = λ quantum items replies others none meets meet. is_transcript quantum items others none meet
    ∙ sym (is_transcript quantum items replies none meets)

pub returns-clause-some : goal.returns-clause-some
returns-clause-some c = λ quantum items none. (replies_from quantum None items, transcript_meets quantum items none)
