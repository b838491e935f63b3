use Rattle.top_call.proofs.KnownWords.{no_quantum, quantum_too_far}
use Rattle.top_call.proofs.argument_laws.a_quantum_out_of_range_is_refused.Goals as goal

pub returns : goal.returns
returns c = record { none = no_quantum; too_far = quantum_too_far }
