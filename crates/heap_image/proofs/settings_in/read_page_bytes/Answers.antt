use Rattle.std.proofs.Common.{refl, None, arith}
use Rattle.std.specs.FinMap.{empty}
use Rattle.std.specs.Int.{w32}
use Rattle.heap_image.specs.Decoded.{is_page_of, page_bytes_decoded, proxies_decoded, unopened}
use Rattle.heap_image.proofs.MarkLemmas.{field_then, settings_bad}
use Rattle.heap_image.proofs.SettingsLemmas.{page_breaks, settings_pass}
use Rattle.heap_image.proofs.StageLemmas.{field_bad, field_stops}
use Rattle.heap_image.proofs.settings_in.read_page_bytes.Goals as goal

pub read_proxies-requires-clause-page : goal.read_proxies-requires-clause-page
read_proxies-requires-clause-page g c = (settings_pass c.args.pages c.in-Ok.page_bytes c.requires.pages 1 c.in-Ok-check.ensures.fault).0

pub returns-in-Err-clause-settings : goal.returns-in-Err-clause-settings
unfolding page_bytes_decoded
returns-in-Err-clause-settings g c = field_stops w32 (unopened 8) (λ n. is_page_of c.args.pages n) (λ n rest. proxies_decoded c.args.pages n rest) _ _ 8
    c.in-Err.fault
    None empty refl refl refl c.in-Err.ensures.reads

pub returns-in-Ok-check-clause-settings : goal.returns-in-Ok-check-clause-settings
unfolding page_bytes_decoded
returns-in-Ok-check-clause-settings g c = field_then (unopened 8) (λ n. is_page_of c.args.pages n) (λ n rest. proxies_decoded c.args.pages n rest)
    c.in-Ok.page_bytes 8 4 _ _ _ c.read_proxies.result c.in-Ok.ensures.reads
    (settings_pass c.args.pages c.in-Ok.page_bytes c.requires.pages 1 c.in-Ok-check.ensures.fault).0 c.read_proxies.ensures.settings

pub returns-in-Err-check-clause-settings : goal.returns-in-Err-check-clause-settings
unfolding page_bytes_decoded
returns-in-Err-check-clause-settings g c = settings_bad 8 (page_bytes_decoded c.args.pages) _ _ 8
    (field_bad w32 (unopened 8) (λ n. is_page_of c.args.pages n) (λ n rest. proxies_decoded c.args.pages n rest) _ _ 8 c.in-Ok.page_bytes c.in-Ok.ensures.reads
    (page_breaks c.args.pages c.in-Ok.page_bytes c.requires.pages _ c.in-Err-check.ensures.fault) refl (omega arith))
