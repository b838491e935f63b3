-- For `load`, `read_settings` and the functions below it, which read the first 16 bytes of an image: the mark and the settings were read, or one breaks a rule,
-- is cut, or the source failed. T and U decode bytes.
use Rattle.std.proofs.Common.{◌≡◌, ◌∙◌, ◌++◌, ◌+◌, ◌≤◌, ◌<◌, ℕ, Bool, true, false, List, None, length, take, refl, ap, sym, arith}
use Rattle.std.proofs.Common.{append_assoc, inr, length-append}
use Rattle.std.specs.Prelude.{Result, Ok, Err, if◌then◌else◌, nat_lt}
use Rattle.std.specs.Int.{w32}
use Rattle.std.specs.Str.{bytes_eq}
use Rattle.std.specs.FinMap.{empty}
use Rattle.std.proofs.Math.Seq.{take-append_seam}
use Rattle.std.proofs.lemmas.Bool.Decides.{nat_tests}
use Rattle.std.proofs.lemmas.List.{take_all}
use Rattle.std.proofs.lemmas.Slice.Eq.{bytes_eq-Decides}
use Rattle.std.proofs.lemmas.Bool.{cond-false}
use Rattle.cf_base.specs.Settings.{profile_of}
use Rattle.cf_base.specs.declared.settings.Settings.{Settings}
use Rattle.heap_image.specs.Decoded.{BreaksNoRule, Decoded, count_decoded, cut, decoded, number, pages_decoded, unopened}
use Rattle.heap_image.specs.Feed.{Feed, TakesBytes}
use Rattle.heap_image.specs.Image.{mark}
use Rattle.heap_image.specs.Stages.{WholeFields, ReadsNumber, ReadsSettings, ReadsSettingsOrStops, StopsInField, ReadsBroken}
use Rattle.heap_image.specs.declared.fault.LoadFault.{LoadFault}
use Rattle.heap_image.specs.declared.fault.LoadFault.TheVariants as fault
use Rattle.heap_image.proofs.ImageDecoded.{mark_read}
use Rattle.heap_image.proofs.StageLemmas.{falls_stops, field_breaks, field_shows, stops_then, takes_then}

-- if k bytes are taken, and then the settings are read in n bytes, the settings are read in k + n bytes
pub settings_then : (T U : List ℕ → Decoded) (a : List ℕ) (k n : ℕ) (had mid left : Feed) (r : Result Settings LoadFault) → length a ≡ k → TakesBytes a had mid
    → ((more : List ℕ) → T (a ++ more) ≡ U more) → ReadsSettingsOrStops n U mid r left → ReadsSettingsOrStops (k + n) T had r left
settings_then T U a k n had mid left (Ok s) long took shows q = record {
  taken = a ++ q.taken;
  few = (let joined = length-append a q.taken in let few = q.few in omega arith);
  took = takes_then a q.taken had mid left took q.took;
  shows = λ more. ap T (append_assoc a q.taken more) ∙ shows (q.taken ++ more) ∙ q.shows more;
  one = q.one;
}
settings_then T U a k n had mid left (Err f) long took shows q =
    stops_then T U had mid left (record { taken = a; took = took; shows = shows }) None empty f q

-- the settings, from a field of four bytes on whose number n passes its test
pub field_then : (bad : Decoded) (test : ℕ → Bool) (go : ℕ → List ℕ → Decoded) (n at count : ℕ) (had mid left : Feed) (r : Result Settings LoadFault)
    → ReadsNumber w32 at had (Ok n) mid → test n ≡ true → ReadsSettingsOrStops count (go n) mid r left
    → ReadsSettingsOrStops (4 + count) (λ bytes. number w32 bytes bad (λ n rest. if test n then go n rest else bad)) had r left
field_then bad test go n at count had mid left r reads good q =
    settings_then _ (go n) reads.0 4 count had mid left r reads.1 reads.3 (field_shows w32 bad test go had mid at n reads good) q

-- after the settings, `count_decoded` decodes the number of objects and the entries
pub settings_pass_on : (n : ℕ) (T : List ℕ → Decoded) (had left : Feed) (s : Settings) → ReadsSettings n T had left s
    → WholeFields T had left (count_decoded (profile_of s))
settings_pass_on n T had left s q = record { taken = q.taken; took = q.took; shows = q.shows }

-- a field of the settings breaks a rule
pub settings_bad : (n : ℕ) (T : List ℕ → Decoded) (had left : Feed) (at : ℕ) → ReadsBroken T had left (unopened at)
    → ReadsSettingsOrStops n T had (Err (fault.Bad at)) left
settings_bad n T had left at shows = (unopened at, refl, refl, refl, shows)

-- what bytes that don't begin with the mark decode to
abbrev unmarked : List ℕ → Decoded
unmarked bytes = record (unopened 0) { is_cut = nat_lt (length bytes) 4 }

unmarked_are : (bytes : List ℕ) → bytes_eq (take 4 bytes) mark ≡ false → decoded bytes ≡ unmarked bytes
unfolding decoded
unmarked_are bytes other = cond-false _ _ _ other

unmarked_long : (bytes : List ℕ) → 4 ≤ length bytes → unmarked bytes ≡ unopened 0
unmarked_long bytes long = (let no : nat_lt (length bytes) 4 ≡ false = grind (arith, nat_tests) in ap (λ b. record (unopened 0) { is_cut = b }) no)

unmarked_short : (bytes : List ℕ) → length bytes < 4 → unmarked bytes ≡ cut (unopened 0)
unmarked_short bytes short = (let yes : nat_lt (length bytes) 4 ≡ true = grind (arith, nat_tests) in ap (λ b. record (unopened 0) { is_cut = b }) yes)

-- the mark was read, and then the settings
pub mark_then : (bytes : List ℕ) (n : ℕ) (had mid left : Feed) (r : Result Settings LoadFault) → length bytes ≡ 4 → bytes_eq bytes mark ≡ true
    → TakesBytes bytes had mid → ReadsSettingsOrStops n pages_decoded mid r left → ReadsSettingsOrStops (4 + n) decoded had r left
mark_then bytes n had mid left r four good took q =
    let is = (bytes_eq-Decides bytes mark).0 good in
    settings_then decoded pages_decoded bytes 4 n had mid left r four took (λ more. ap (λ (b : List ℕ). decoded (b ++ more)) is ∙ mark_read more) q

-- fewer than four bytes end within the mark
short_mark : (bytes : List ℕ) → length bytes < 4 → decoded bytes ≡ cut (unopened 0)
short_mark bytes short = unmarked_are bytes (go (bytes_eq (take 4 bytes) mark) refl) ∙ unmarked_short bytes short
  where
    go : (b : Bool) → bytes_eq (take 4 bytes) mark ≡ b → bytes_eq (take 4 bytes) mark ≡ false
    go false e = e
    go true e =
        let is = (bytes_eq-Decides (take 4 bytes) mark).0 e in
        let all : take 4 bytes ≡ bytes = take_all 4 bytes (omega arith) in
        let n : length bytes ≡ 4 = ap (length {A = ℕ}) (sym all ∙ is) in
        absurd (omega arith)

pub mark_stops : (n : ℕ) (had left : Feed) (f : LoadFault) → StopsInField 4 0 had f left → ReadsSettingsOrStops n decoded had (Err f) left
mark_stops n had left f q = falls_stops decoded 4 (unopened 0) short_mark had left 0 f None empty refl refl refl q

-- four bytes were read that are not the mark
pub mark_bad : (n : ℕ) (bytes : List ℕ) (had left : Feed) → length bytes ≡ 4 → bytes_eq bytes mark ≡ false → TakesBytes bytes had left
    → ReadsSettingsOrStops n decoded had (Err (fault.Bad 0)) left
mark_bad n bytes had left four other took = settings_bad n decoded had left 0
    (field_breaks decoded bytes had left (unopened 0) refl (omega arith) took unmarked_on unmarked_sound)
  where
    unmarked_on : (more : List ℕ) → decoded (bytes ++ more) ≡ unopened 0
    unmarked_on more =
        let front : take 4 (bytes ++ more) ≡ bytes = ap (λ n. take n (bytes ++ more)) (sym four) ∙ take-append_seam bytes more in
        let joined = length-append bytes more in
        unmarked_are (bytes ++ more) (ap (λ (b : List ℕ). bytes_eq b mark) front ∙ other) ∙ unmarked_long (bytes ++ more) (omega arith)

    unmarked_sound : (few : List ℕ) → length few < length bytes → BreaksNoRule (decoded few)
    unmarked_sound few short = inr (ap (λ (d : Decoded). d.is_cut) (short_mark few (omega arith)))
