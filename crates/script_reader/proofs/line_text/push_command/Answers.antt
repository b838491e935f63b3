use Rattle.std.proofs.Common.{◌∙◌, ◌++◌, [], ◌∷◌, ap, sym}
use Rattle.std.specs.Prelude.{codes, decimal}
use Rattle.hex.specs.Hex.{encode_lower}
use Rattle.script_reader.specs.CommandText.{spaced, tokens_of}
use Rattle.script_reader.proofs.TextLemmas.{next_token}
use Rattle.script_reader.proofs.line_text.push_command.Goals as goal

pub returns-in-Write-clause-text : goal.returns-in-Write-clause-text
returns-in-Write-clause-text c =
    let w = c.in-Write in
    let first = c.push_two-in-Write in
    next_token (codes "w") (decimal w.id ∷ decimal w.at ∷ []) (encode_lower w.bytes) first.new.line c.push_bytes.new.line first.ensures.text
    (c.push_bytes.ensures.text ∙ ap (λ b. first.new.line ++ 32 ∷ encode_lower b) c.bytes.ensures.value)
    ∙ ap (λ command. spaced (tokens_of command)) (sym w.is)
