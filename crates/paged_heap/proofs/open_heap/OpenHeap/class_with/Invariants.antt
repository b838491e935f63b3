use Rattle.std.proofs.Common.{ℕ, ◌≢◌, ◌<◌, get_or}
use Rattle.paged_heap.proofs.open_heap.OpenHeap.class_with.Given as goal

abbrev pub invariant-loop-c : goal.invariant-loop-c
invariant-loop-c g l = (j : ℕ) → j < l.c → get_or l.self.tables.classes.sizes j 0 ≢ l.words
