use Rattle.std.proofs.Common.{◌∙◌, refl, sym, None, arith}
use Rattle.std.specs.FinMap.{empty}
use Rattle.std.specs.Int.{w32}
use Rattle.cf_base.specs.Limits.{is_within}
use Rattle.heap_image.specs.Decoded.{page_bytes_decoded, pages_decoded, unopened}
use Rattle.heap_image.proofs.MarkLemmas.{field_then, settings_bad}
use Rattle.heap_image.proofs.StageLemmas.{field_bad, field_stops}
use Rattle.heap_image.proofs.settings_in.read_pages.Goals as goal

pub returns-in-Err-clause-settings : goal.returns-in-Err-clause-settings
unfolding pages_decoded
returns-in-Err-clause-settings g c = field_stops w32 (unopened 4) (λ n. is_within 1 4096 n) (λ n rest. page_bytes_decoded n rest) _ _ 4 c.in-Err.fault
    None empty refl refl refl c.in-Err.ensures.reads

pub returns-then-not-are_pages-clause-settings : goal.returns-then-not-are_pages-clause-settings
unfolding pages_decoded
returns-then-not-are_pages-clause-settings g c = settings_bad 12 pages_decoded _ _ 4
    (field_bad w32 (unopened 4) (λ n. is_within 1 4096 n) (λ n rest. page_bytes_decoded n rest) _ _ 4 c.in-Ok.pages c.in-Ok.ensures.reads
    (sym c.are_pages.ensures ∙ c.if-not-are_pages.true) refl (omega arith))

pub returns-clause-settings : goal.returns-clause-settings
unfolding pages_decoded
returns-clause-settings g c = field_then (unopened 4) (λ n. is_within 1 4096 n) (λ n rest. page_bytes_decoded n rest) c.in-Ok.pages 4 8 _ _ _
    c.read_page_bytes.result c.in-Ok.ensures.reads (sym c.are_pages.ensures ∙ c.if-not-are_pages.false) c.read_page_bytes.ensures.settings
