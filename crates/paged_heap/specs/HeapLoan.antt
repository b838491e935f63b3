-- The state of a manager after a borrow of the whole words of an object, for `lend` and `payload_mut` of the moving manager.
use denote.RattleType.{RattleType}
use Rattle.std.specs.Prelude.{ℕ, List, Option}
use Rattle.std.specs.Borrow.{Lends, LendsIf, MutBor, Fml, u64, Array}
use Rattle.virtual_words.specs.contracts.direct.Direct.{the_row as direct}
use Rattle.virtual_words.specs.contracts.direct.DirectMapping.TheImpl as mapping
use Rattle.paged_heap.specs.Payload.{lent_back}
use Rattle.paged_heap.specs.PagedState.{PagedState}
use Rattle.paged_heap.specs.contracts.manager.PagedHeap.{the_row}

-- the type of the moving manager in the kit's logic of memory; the kit generates `the_row`, the type of a struct, and `ghosts`, the ghost members of a
-- trait's implementation
abbrev pub moving_heap : RattleType
moving_heap = the_row direct mapping.ghosts

-- s is a manager that lends the words r of object q: after the borrow the object has the words that were written there, and all else is unchanged
abbrev pub LendsPayload : MutBor PagedState → ℕ → MutBor (List ℕ) → Fml
LendsPayload s q r = Lends moving_heap (Array u64 0) s r (lent_back s.now q)

-- as `LendsPayload` if words were lent; if none were (`None`), the manager is unchanged
abbrev pub LendsPayloadIf : MutBor PagedState → ℕ → Option (MutBor (List ℕ)) → Fml
LendsPayloadIf s q r = LendsIf moving_heap (Array u64 0) s r (lent_back s.now q) s.now
