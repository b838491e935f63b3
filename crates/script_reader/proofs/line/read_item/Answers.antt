use Rattle.std.proofs.Common.{◌∙◌, ap, sym}
use Rattle.script_reader.specs.Items.{item_or_wrong}
use Rattle.script_reader.specs.Lines.{tokens}
use Rattle.script_reader.proofs.SilentLines.{command_said, longer_word, one_letter}
use Rattle.script_reader.proofs.line.read_item.Goals as goal

pub returns-then-word-eq1-clause-value : goal.returns-then-word-eq1-clause-value
returns-then-word-eq1-clause-value c = command_said _ _ _ c.letter_command.ensures.value
    ∙ ap item_or_wrong (sym (one_letter c.args.word.now (tokens c.args.args.now) c.if-word-eq1.true))

pub returns-clause-value : goal.returns-clause-value
returns-clause-value c = command_said _ _ _ c.word_command.ensures.value
    ∙ ap item_or_wrong (sym (longer_word c.args.word.now (tokens c.args.args.now) c.if-word-eq1.false (sym c.is_heap.ensures ∙ c.if-is_heap.false)))
