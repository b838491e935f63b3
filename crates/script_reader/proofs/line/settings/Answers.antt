use Rattle.std.proofs.Common.{refl, sym}
use Rattle.cf_base.specs.Settings.{profile_from, setting_fault}
use Rattle.script_reader.specs.Commands.{settings_if}
use Rattle.script_reader.proofs.FieldLemmas.{at_numbers}
use Rattle.script_reader.proofs.line.settings.Goals as goal

pub returns-in-Err : goal.returns-in-Err
returns-in-Err c =
    rw (
      at_numbers (λ a b c d. settings_if (setting_fault a b c d) (profile_from a b c d)) _ _ _ _ _ _ _
          c.in_ok-pages.ensures c.in_ok-page_bytes.ensures c.in_ok-k.ensures,
      sym c.in-Err.ensures.fault,
    ) refl
