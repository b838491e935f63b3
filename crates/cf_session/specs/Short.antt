-- The texts of the replies that are one fixed text, such as `ok`, `none` or `refused space` (`Short`).
use Rattle.std.specs.Prelude.{ℕ, List, codes}
use Rattle.cf_session.specs.declared.short.Short.{Short}
use Rattle.cf_session.specs.declared.short.Short.TheVariants.{Done, Live, Unknown, Range, Lacking, Busy, Full}
use Rattle.cf_session.specs.declared.short.Short.TheVariants.{RefusedSize, RefusedProxy, RefusedSpace, RefusedSum, RefusedUsed}

-- the text of a short reply, without its line feed
abbrev pub short_text : Short → List ℕ
short_text Done = codes "ok"
short_text Live = codes "live"
short_text Unknown = codes "unknown"
short_text Range = codes "range"
short_text Lacking = codes "none"
short_text Busy = codes "busy"
short_text Full = codes "full"
short_text RefusedSize = codes "refused size"
short_text RefusedProxy = codes "refused proxy"
short_text RefusedSpace = codes "refused space"
short_text RefusedSum = codes "refused sum"
short_text RefusedUsed = codes "refused used"
