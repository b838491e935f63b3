use Rattle.std.proofs.Common.{◌∙◌, refl, None, ap, sym, arith}
use Rattle.std.specs.FinMap.{empty}
use Rattle.std.specs.Int.{w32}
use Rattle.cf_base.specs.Limits.{is_within}
use Rattle.cf_base.specs.Settings.{Profile, profile_from}
use Rattle.heap_image.specs.Decoded.{count_decoded, proxies_decoded, unopened}
use Rattle.heap_image.proofs.MarkLemmas.{settings_bad}
use Rattle.heap_image.proofs.SettingsLemmas.{proxies_break, settings_pass}
use Rattle.heap_image.proofs.StageLemmas.{field_bad, field_stops, field_shows}
use Rattle.heap_image.proofs.settings_in.read_proxies.Goals as goal

pub returns-in-Err-clause-settings : goal.returns-in-Err-clause-settings
unfolding proxies_decoded
returns-in-Err-clause-settings g c = field_stops w32 (unopened 12) (λ n. is_within 1 65536 n)
    (λ n rest. count_decoded (profile_from c.args.pages c.args.page_bytes 1 n) rest) _ _ 12 c.in-Err.fault
    None empty refl refl refl c.in-Err.ensures.reads

pub returns-in-Ok-check-clause-settings : goal.returns-in-Ok-check-clause-settings
unfolding proxies_decoded
returns-in-Ok-check-clause-settings g c =
    let good = (settings_pass c.args.pages c.args.page_bytes c.requires.pages c.in-Ok.proxies c.in-Ok-check.ensures.fault).1 in
    let reads = c.in-Ok.ensures.reads in
    record {
      taken = reads.0;
      few = reads.1;
      took = reads.3;
      shows = λ more. field_shows w32 (unopened 12) (λ n. is_within 1 65536 n)
          (λ n rest. count_decoded (profile_from c.args.pages c.args.page_bytes 1 n) rest) _ _ 12 c.in-Ok.proxies reads good more
          ∙ ap (λ (p : Profile). count_decoded p more) (sym c.in-Ok-check.ensures.value);
      one = ap (λ (p : Profile). p.k) c.in-Ok-check.ensures.value;
    }

pub returns-in-Err-check-clause-settings : goal.returns-in-Err-check-clause-settings
unfolding proxies_decoded
returns-in-Err-check-clause-settings g c = settings_bad 4 (proxies_decoded c.args.pages c.args.page_bytes) _ _ 12
    (field_bad w32 (unopened 12) (λ n. is_within 1 65536 n) (λ n rest. count_decoded (profile_from c.args.pages c.args.page_bytes 1 n) rest) _ _ 12
    c.in-Ok.proxies c.in-Ok.ensures.reads (proxies_break c.args.pages c.args.page_bytes c.requires.pages c.in-Ok.proxies _ c.requires.page
    c.in-Err-check.ensures.fault) refl (omega arith))
