-- The state of a session, and of a run (session and manager), computed from the records that a session keeps: its live ids and its counters. No public
-- clause cites this module.
use Rattle.run_model.specs.Terms.{HeapState, RunState, SessionState}
use Rattle.cf_session.specs.Apply.{run_at}
use Rattle.cf_session.specs.declared.records.Records.{Records}

-- the state of a session that has the records `r`
abbrev pub session_of : Records → SessionState
session_of r = record { ids = r.ids; bound = r.counters.bound; moves = r.counters.moves; words = r.counters.words }

-- the state of a run: the state of a session with these records, and the state of its manager
abbrev pub run_with : Records → HeapState → RunState
run_with records heap = run_at (session_of records) heap
