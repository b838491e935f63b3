-- A command whose write borrows its bytes (`CommandRef`) as the `Command` that owns them; and a result of the reader that borrows (`NextRef`) as the `Next`
-- that owns.
use Rattle.script_reader.specs.declared.command.Command.{Command}
use Rattle.script_reader.specs.declared.command.Command.TheVariants as command
use Rattle.script_reader.specs.declared.command_ref.CommandRef.{CommandRef}
use Rattle.script_reader.specs.declared.command_ref.CommandRef.TheVariants as borrowed
use Rattle.script_reader.specs.declared.next.Next.{Next}
use Rattle.script_reader.specs.declared.next.Next.TheVariants as next
use Rattle.script_reader.specs.declared.next_ref.NextRef.{NextRef}
use Rattle.script_reader.specs.declared.next_ref.NextRef.TheVariants as lent

-- the same command, which owns the bytes of a write
abbrev pub owned_command : CommandRef → Command
owned_command (borrowed.Malloc id bytes) = command.Malloc id bytes
owned_command (borrowed.Free id) = command.Free id
owned_command (borrowed.Write id at bytes) = command.Write id at bytes.now
owned_command (borrowed.Read id at len) = command.Read id at len
owned_command (borrowed.Place id) = command.Place id
owned_command (borrowed.Block id i) = command.Block id i
owned_command (borrowed.Peek word) = command.Peek word
owned_command borrowed.Walk = command.Walk
owned_command borrowed.Frag = command.Frag
owned_command borrowed.Steps = command.Steps
owned_command (borrowed.Bound slot_words k) = command.Bound slot_words k
owned_command (borrowed.Resize id bytes) = command.Resize id bytes
owned_command borrowed.Slice = command.Slice
owned_command (borrowed.Task task) = command.Task task
owned_command (borrowed.Quota task pages) = command.Quota task pages
owned_command (borrowed.Need task bytes count) = command.Need task bytes count
owned_command (borrowed.Admit task) = command.Admit task

-- the same result of the reader, whose command owns the bytes of a write
abbrev pub owned_next : NextRef → Next
owned_next (lent.Start settings) = next.Start settings
owned_next (lent.Command c) = next.Command (owned_command c)
owned_next lent.NeedMore = next.NeedMore
owned_next (lent.Bad line) = next.Bad line
owned_next lent.End = next.End
