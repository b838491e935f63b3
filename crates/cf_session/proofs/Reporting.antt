-- For `answer`, `apply_ref`, `queries.rt` and `reply.rt`: the reply to a command, whether built on a line or written, is that of the command, with its outcome;
-- the result is an error if and only if the sink failed; and the run stays in progress.
use Rattle.std.proofs.Common.{◌≡◌, ◌∙◌, ◌+◌, ◌<◌, ◌≤◌, ◌/◌, ◌%◌, ◌^◌, ◌++◌, ℕ, List, ◌∷◌, Option, Some, None, Err, option_map, length, take, drop, nat_eq, false, refl, sym, ap, arith, lit<, Bor, [], Result, Ok, map, ap₂, subst, append_assoc, codes, slice_index, le-leb, ne_eqb}
use Rattle.std.specs.Int.{byte_at, bytes_high_first}
use Rattle.std.proofs.Math.Nat.{mod-lt}
use Rattle.run_model.specs.Terms.{AccessFault, Command, Failed, Frag, get, HalfFit, HeapState, IsGoing, Kind, led, Moving, NonMoving, owned_command, paging_in, Placed, Position, Reply, RunState, said, SessionState, SinkFailsIf, SinkState, Tlsf, totals_in, Walk, with_number, Writes}
use Rattle.hex.specs.Hex.{encode_lower, encode_with, hex_digit_value, lower_digits}
use Rattle.hex.proofs.HexLemmas.{IsDigits-lower_digits}
use Rattle.cf_io.specs.Lines.{word_text}
use Rattle.cf_base.proofs.Tests.{le_no}
use Rattle.cf_model.specs.Steps.{IsFault, ReadsBytes}
use Rattle.run_model.specs.Replies.{place_text, read_text, steps_text, write_text, object_of, shown}
use Rattle.cf_session.specs.Apply.{outcome_in, AppliesOneManager, outcome_of, run_at, IsEnded}
use Rattle.cf_session.specs.OneLine.{SaidOn, lines_at, HasRoom, IsPut}
use Rattle.cf_session.specs.declared.outcome.Outcome.{Outcome}
use Rattle.cf_session.specs.declared.outcome.Outcome.TheVariants.{Other, Good}
use Rattle.script_reader.specs.declared.command_ref.CommandRef.{CommandRef}
use Rattle.run_model.specs.Steps.{Step}
use Rattle.std.specs.Result.{is_err}
use Rattle.std.proofs.lemmas.List.{nil_from_length}
use Rattle.cf_base.specs.declared.results.Totals.{Totals}
use Rattle.cf_base.specs.declared.results.Figures.{Figures}
use Rattle.cf_io.specs.Feeds.{WritesAll}
use Rattle.page_model.specs.Figures.{figures_of}
use Rattle.cf_io.proofs.CallerLemmas.{puts_line, puts_same}
use Rattle.run_model.specs.Answering.{Moment}
use Rattle.run_model.specs.Reports.{class_line, total_line, frag_of, walk_of, live_classes}
use Rattle.run_model.specs.Runs.{IsCommandStep}
use Rattle.run_model.proofs.CallerLemmas.{step_meets_bounds, step_going}
use Rattle.cf_session.specs.Short.{short_text}
use Rattle.cf_session.specs.declared.short.OneLine.{OneLine}
use Rattle.cf_session.specs.declared.short.Short.{Short}
use Rattle.cf_base.specs.declared.results.AccessFault.TheVariants as access
use Rattle.cf_session.specs.declared.short.OneLine.TheVariants as reply
use Rattle.script_reader.specs.declared.command_ref.CommandRef.TheVariants as borrowed

-- For `src/queries.rt`, which does `r`, `q`, `b`, `p` and `steps`: the line that each function builds is the lead and the text of the reply, and the outcome
-- that it returns (good, refused or other) is that of the text.

-- `SaidOn` for a text that was appended to a line with the lead
pub written : (lead begun line text : List ℕ) (outcome : Outcome) → begun ≡ lead → line ≡ begun ++ text → length line < 9000 → outcome ≡ outcome_in text
    → SaidOn (lines_at lead line) text (reply.Written outcome)
written lead begun line text outcome begins is short shows = (is ∙ ap (λ (l : List ℕ). l ++ text) begins, short, shows)

-- the reply to a read of bytes that the object has, and of bytes that pass its end
pub read_within : (x : Placed) (from count : ℕ) → from + count ≤ length x.bytes
    → read_text (Some x) from count ≡ codes "=" ++ encode_lower (take count (drop from x.bytes))
read_within x from count le = rw (le-leb _ _ le) refl

pub read_past : (x : Placed) (from count : ℕ) → length x.bytes < from + count → read_text (Some x) from count ≡ codes "range"
read_past x from count lt = rw (le_no _ _ lt) refl

-- the reply to a read that the heap did is `=` and its bytes
pub read_said : (s : HeapState) (position : Position) (count : ℕ) (bytes : List ℕ) → ReadsBytes s position count bytes
    → read_text (get s.held position.number) position.from count ≡ codes "=" ++ encode_lower bytes
read_said s position count bytes r = rw r.found (read_within r.object position.from count r.within ∙ ap (λ (b : List ℕ). codes "=" ++ encode_lower b) (sym r.value))

-- the reply to a read that the heap refused, by the fault
pub fault_said : (s : HeapState) (position : Position) (count : ℕ) (fault : AccessFault) → IsFault s position count fault
    → write_text (Err fault) ≡ read_text (get s.held position.number) position.from count
fault_said s position count access.Unknown none = rw none refl
fault_said s position count access.Range past = rw past.found (sym (read_past past.object position.from count past.past))

pub steps_other : (k : Kind) (s : SessionState) (cost : ℕ) → Other ≡ outcome_in (steps_text k s cost)
steps_other Moving s cost = refl
steps_other _ s cost = refl

-- a text that begins with a hexadecimal digit is neither good nor a refusal
digit_other : (d n : ℕ) (rest : List ℕ) → hex_digit_value d ≡ Some n → Other ≡ outcome_in (d ∷ rest)
digit_other d n rest is =
    let o : nat_eq d 111 ≡ false = ne_eqb d 111 (λ e. let none : None ≡ Some n = ap hex_digit_value (sym e) ∙ is in absurd cc) in
    let equals : nat_eq 61 d ≡ false = ne_eqb 61 d (λ e. let none : None ≡ Some n = ap hex_digit_value e ∙ is in absurd cc) in
    let r : nat_eq 114 d ≡ false = ne_eqb 114 d (λ e. let none : None ≡ Some n = ap hex_digit_value e ∙ is in absurd cc) in
    rw (o, equals, r) refl

bytes_other : (b : ℕ) (rest : List ℕ) → b < 256 → Other ≡ outcome_in (encode_lower (b ∷ rest))
unfolding encode_with
bytes_other b rest fits =
    digit_other (slice_index lower_digits (b / 16)) (b / 16) (slice_index lower_digits (b % 16) ∷ encode_lower rest)
    (IsDigits-lower_digits (b / 16) (omega arith))

pub word_other : (v : ℕ) → Other ≡ outcome_in (word_text v)
word_other v = bytes_other (byte_at 7 v) (bytes_high_first 7 v) (mod-lt (v / 256 ^ 7) {m = 256} (lit< tt))

-- For `answer`, the match over all commands: a command of another mode, for which it has no branch, gets the reply `none` and changes nothing.

-- the reply to a command that is none of those with a branch is `none`
pub lacking : (run : RunState) (c : CommandRef)
    → ((id bytes : ℕ) → c ≡ borrowed.Malloc id bytes → ⊥) → ((id : ℕ) → c ≡ borrowed.Free id → ⊥)
    → ((id at : ℕ) (bytes : Bor (List ℕ)) → c ≡ borrowed.Write id at bytes → ⊥) → ((id at len : ℕ) → c ≡ borrowed.Read id at len → ⊥)
    → ((id : ℕ) → c ≡ borrowed.Place id → ⊥) → ((id i : ℕ) → c ≡ borrowed.Block id i → ⊥) → ((word : ℕ) → c ≡ borrowed.Peek word → ⊥)
    → (c ≡ borrowed.Walk → ⊥) → (c ≡ borrowed.Frag → ⊥) → (c ≡ borrowed.Steps → ⊥) → ((slot_words k : ℕ) → c ≡ borrowed.Bound slot_words k → ⊥)
    → ((id bytes : ℕ) → c ≡ borrowed.Resize id bytes → ⊥)
    → Step run (owned_command c) (said (codes "none")) run
lacking run (borrowed.Malloc id bytes) malloc _ _ _ _ _ _ _ _ _ _ _ = absurd (malloc id bytes refl)
lacking run (borrowed.Free id) _ free _ _ _ _ _ _ _ _ _ _ = absurd (free id refl)
lacking run (borrowed.Write id at bytes) _ _ write _ _ _ _ _ _ _ _ _ = absurd (write id at bytes refl)
lacking run (borrowed.Read id at len) _ _ _ read _ _ _ _ _ _ _ _ = absurd (read id at len refl)
lacking run (borrowed.Place id) _ _ _ _ place _ _ _ _ _ _ _ = absurd (place id refl)
lacking run (borrowed.Block id i) _ _ _ _ _ block _ _ _ _ _ _ = absurd (block id i refl)
lacking run (borrowed.Peek word) _ _ _ _ _ _ peek _ _ _ _ _ = absurd (peek word refl)
lacking run borrowed.Walk _ _ _ _ _ _ _ walk _ _ _ _ = absurd (walk refl)
lacking run borrowed.Frag _ _ _ _ _ _ _ _ frag _ _ _ = absurd (frag refl)
lacking run borrowed.Steps _ _ _ _ _ _ _ _ _ steps _ _ = absurd (steps refl)
lacking run (borrowed.Bound slot_words k) _ _ _ _ _ _ _ _ _ _ bound _ = absurd (bound slot_words k refl)
lacking run (borrowed.Resize id bytes) _ _ _ _ _ _ _ _ _ _ _ resize = absurd (resize id bytes refl)
lacking run _ _ _ _ _ _ _ _ _ _ _ _ _ = (refl, refl)

-- For `answer` and `apply_ref`, which do one command: if its reply, a report, one line or the bytes of a read, was written whole or in part, the contract
-- `AppliesOneManager` holds, and the run stays in progress.

-- a step of a run in progress is an `IsCommandStep`, since it also meets the bounds
turn : (old new : RunState) (c : Command) (reply : Reply) → IsGoing old → Step old c reply new → IsCommandStep old c reply new
turn old new c reply going step = record { step = step; bounds = step_meets_bounds old new c reply going step }

abbrev at : RunState → SinkState → Moment
at run sink = record { run = run; written = sink.written }

-- the reply of a step was written whole (`applied`), or the sink failed and a prefix was written (`applied_cut`)
module _ (old new : RunState) (c : Command) (lead : List ℕ) (reply : Reply) (w y : SinkState) (going : IsGoing old) (step : Step old c reply new) where
  pub applied : (outcome : Outcome) → outcome ≡ outcome_of reply → WritesAll w (led lead reply) y
      → AppliesOneManager (at old w) (record { command = c; lead = lead }) (Ok outcome) (at new y)
  applied outcome is put = (record { reply = reply; turn = turn old new c reply going step; written = put.wrote }, is)

  pub applied_cut : (e : Failed) → Writes {T = Unit {0}} w (led lead reply) (Err e) y
      → AppliesOneManager (at old w) (record { command = c; lead = lead }) (Err e) (at new y)
  applied_cut e put =
      let (front, lost, parts, is) = put.part in
      record { reply = reply; front = front; lost = lost; turn = turn old new c reply going step; cut = parts; written = is }

-- the outcome of a report is `Other`
pub pages_other : (f : ℕ → Figures) (t : Totals) (cs : List ℕ) → Other ≡ outcome_of (map (λ c. class_line (f c)) cs ++ said (total_line t))
pages_other f t [] = refl
pages_other f t (c ∷ cs) = refl

pub walk_other : (k : Kind) (s : HeapState) → Other ≡ outcome_of (walk_of k s)
walk_other Moving s = pages_other (λ c. figures_of (paging_in s) s.held c) (totals_in s.kind s) (live_classes s)
walk_other NonMoving s = pages_other (λ c. figures_of (paging_in s) s.held c) (totals_in s.kind s) (live_classes s)
walk_other Tlsf s = refl
walk_other HalfFit s = refl

pub frag_other : (s : HeapState) → Other ≡ outcome_of (frag_of s)
frag_other s = refl

pub reported : (old new : RunState) (c : Command) (lead : List ℕ) (reply : Reply) (w y : SinkState) (r : Result Unit Failed) (outcome : Outcome)
    (answer : Result Outcome Failed) → IsGoing old → Step old c reply new → outcome ≡ outcome_of reply
    → Writes w (led lead reply) r y → IsEnded r outcome answer → AppliesOneManager (at old w) (record { command = c; lead = lead }) answer (at new y)
reported old new c lead reply w y (Ok u) outcome answer going step shown put is =
    let P : Result Outcome Failed → Type 0 = λ a. AppliesOneManager (at old w) (record { command = c; lead = lead }) a (at new y) in
    subst P (sym is) (applied old new c lead reply w y going step outcome shown put)
reported old new c lead reply w y (Err e) outcome answer going step shown put is =
    let P : Result Outcome Failed → Type 0 = λ a. AppliesOneManager (at old w) (record { command = c; lead = lead }) a (at new y) in
    subst P (sym is) (applied_cut old new c lead reply w y going step e put)

pub reported_walk : (old : RunState) (lead : List ℕ) (w y : SinkState) (c : Command) (r : Result Unit Failed) (answer : Result Outcome Failed) → c ≡ Walk
    → IsGoing old
    → Writes w (led lead (walk_of old.heap.kind old.heap)) r y → IsEnded r Other answer
    → AppliesOneManager (at old w) (record { command = c; lead = lead }) answer (at old y)
reported_walk old lead w y c r answer is going put shown =
    let P : Command → Type 0 = λ k. AppliesOneManager (at old w) (record { command = k; lead = lead }) answer (at old y) in
    let other = walk_other old.heap.kind old.heap in
    subst P (sym is) (reported old old Walk lead (walk_of old.heap.kind old.heap) w y r Other answer going (refl, refl) other put shown)

pub reported_frag : (old : RunState) (lead : List ℕ) (w y : SinkState) (c : Command) (r : Result Unit Failed) (answer : Result Outcome Failed) → c ≡ Frag
    → IsGoing old
    → Writes w (led lead (frag_of old.heap)) r y → IsEnded r Other answer
    → AppliesOneManager (at old w) (record { command = c; lead = lead }) answer (at old y)
reported_frag old lead w y c r answer is going put shown =
    let P : Command → Type 0 = λ k. AppliesOneManager (at old w) (record { command = k; lead = lead }) answer (at old y) in
    subst P (sym is) (reported old old Frag lead (frag_of old.heap) w y r Other answer going (refl, refl) (frag_other old.heap) put shown)

-- the reply of a step is the one line `text`, which was written whole or in part
pub shown_step : (old new : RunState) (asked c : Command) (lead text : List ℕ) (w y : SinkState) (answer : Result Outcome Failed) → asked ≡ c → IsGoing old
    → Step old c (said text) new → IsPut text lead w answer y → AppliesOneManager (at old w) (record { command = asked; lead = lead }) answer (at new y)
shown_step old new asked c lead text w y answer is going step shown =
    subst (λ (k : Command). AppliesOneManager (at old w) (record { command = k; lead = lead }) answer (at new y)) (sym is)
    (reported old new c lead (said text) w y shown.written (outcome_in text) answer going step refl shown.puts shown.ended)

-- the sink failed in a reply of one line if and only if the result is an error
pub put_faults : (text lead : List ℕ) (w y : SinkState) (answer : Result Outcome Failed) → IsPut text lead w answer y → SinkFailsIf (is_err answer) w y
put_faults text lead w y answer shown = go shown.written shown.puts shown.ended
  where
    go : (r : Result Unit Failed) → Writes w (led lead (said text)) r y → IsEnded r (outcome_in text) answer → SinkFailsIf (is_err answer) w y
    go (Ok u) put is = subst (λ (a : Result Outcome Failed). SinkFailsIf (is_err a) w y) (sym is) put.same
    go (Err e) put is = subst (λ (a : Result Outcome Failed). SinkFailsIf (is_err a) w y) (sym is) put.fails

-- if a reply is on the line, the line has room for the line feed
pub has_room : (lead line text : List ℕ) (o : OneLine) → SaidOn (lines_at lead line) text o → HasRoom line o
has_room lead line text (reply.Short short) on = tt
has_room lead line text (reply.Written outcome) on = on.1

-- the reply `text` was written, if its function returned a short reply, and that was written
pub shown_short : (lead line text : List ℕ) (w y : SinkState) (o : OneLine) (short : Short) (answer : Result Outcome Failed) → o ≡ reply.Short short
    → SaidOn (lines_at lead line) text o → IsPut (short_text short) lead w answer y → IsPut text lead w answer y
shown_short lead line text w y o short answer is on shown =
    let same : short_text short ≡ text = subst (λ (p : OneLine). SaidOn (lines_at lead line) text p) is on in
    subst (λ (t : List ℕ). IsPut t lead w answer y) same shown

-- the reply `text` was written, if its function left it on the line (`Written`), and the line was written to the sink
pub shown_written : (lead line text : List ℕ) (w y : SinkState) (o : OneLine) (outcome : Outcome) (r : Result Unit Failed) (answer : Result Outcome Failed)
    → o ≡ reply.Written outcome → SaidOn (lines_at lead line) text o → Writes w (line ++ 10 ∷ []) r y → IsEnded r outcome answer
    → IsPut text lead w answer y
shown_written lead line text w y o outcome r answer is on put shown =
    let here : SaidOn (lines_at lead line) text (reply.Written outcome) = subst (λ (p : OneLine). SaidOn (lines_at lead line) text p) is on in
    record {
      written = r;
      puts = puts_line w y lead text line r here.0 put;
      ended = subst (λ (p : Outcome). IsEnded r p answer) here.2 shown;
    }

-- the reply to a read was written, if the heap read the bytes, and their hexadecimal digits were written to the sink
pub shown_bytes : (s : HeapState) (position : Position) (count : ℕ) (bytes lead seen : List ℕ) (w y : SinkState) (r : Result Unit Failed) (answer : Result Outcome Failed)
    → ReadsBytes s position count bytes → seen ≡ led lead (said (codes "=" ++ encode_lower bytes)) → Writes w seen r y → IsEnded r Good answer
    → IsPut (read_text (get s.held position.number) position.from count) lead w answer y
shown_bytes s position count bytes lead seen w y r answer reads spelled put shown =
    subst (λ (t : List ℕ). IsPut t lead w answer y) (sym (read_said s position count bytes reads))
    (record { written = r; puts = puts_same w y _ _ r spelled put; ended = shown })

-- the reply to a read of object h is the reply to a read of the id whose handle is h
pub shown_named : (session : SessionState) (heap : HeapState) (id h from count len : ℕ) (lead : List ℕ) (w y : SinkState) (answer : Result Outcome Failed)
    → Some h ≡ get session.ids id → IsPut (read_text (get heap.held h) from count) lead w answer y → count ≡ len
    → IsPut (read_text (object_of (run_at session heap) id) from len) lead w answer y
shown_named session heap id h from count len lead w y answer named put same =
    let there : IsPut (read_text (get heap.held h) from len) lead w answer y =
    subst (λ (n : ℕ). IsPut (read_text (get heap.held h) from n) lead w answer y) same put in
    subst (λ (o : Option ℕ). IsPut (read_text (elim o [ None ↦ None | Some q ↦ get heap.held q ]) from len) lead w answer y) named there

-- the reply to a read was written, if the heap refused the read, and the short reply for the fault was written
pub shown_fault : (s : HeapState) (position : Position) (count : ℕ) (fault : AccessFault) (short : Short) (lead : List ℕ) (w y : SinkState)
    (answer : Result Outcome Failed) → IsFault s position count fault → short_text short ≡ write_text (Err fault) → IsPut (short_text short) lead w answer y
    → IsPut (read_text (get s.held position.number) position.from count) lead w answer y
shown_fault s position count fault short lead w y answer cause is shown =
    subst (λ (t : List ℕ). IsPut t lead w answer y) (is ∙ fault_said s position count fault cause) shown

-- a reply of one line was written, if the lead is empty, and the text with its line feed was written
pub put_bare : (w y : SinkState) (lead text seen : List ℕ) (r : Result Unit Failed) → length lead ≡ 0 → seen ≡ text ++ 10 ∷ [] → Writes w seen r y
    → Writes w (led lead (said text)) r y
put_bare w y lead text seen r none is put =
    puts_line w y lead text text r (ap (λ (l : List ℕ). l ++ text) (sym (nil_from_length lead none)))
    (puts_same w y _ _ r is put)

-- a reply of one line was written, if a line of the lead, the text and a line feed was written
pub put_after : (w y : SinkState) (lead text seen before line : List ℕ) (r : Result Unit Failed) → before ≡ lead → line ≡ before ++ seen → seen ≡ text ++ 10 ∷ []
    → Writes w line r y → Writes w (led lead (said text)) r y
put_after w y lead text seen before line r begun pushed is put =
    puts_line w y lead text (lead ++ text) r refl
    (puts_same w y _ _ r (pushed ∙ ap₂ (λ (b s : List ℕ). b ++ s) begun is ∙ sym (append_assoc lead text (10 ∷ []))) put)

-- a run in progress is in progress after a command was answered, whole or in part
pub applied_going : (old new : RunState) (c : Command) (lead : List ℕ) (w y : Option (List ℕ)) (answer : Result Outcome Failed) → IsGoing old
    → AppliesOneManager (record { run = old; written = w }) (record { command = c; lead = lead }) answer (record { run = new; written = y }) → IsGoing new
applied_going old new c lead w y (Ok outcome) going a = step_going old new c a.0.reply going a.0.turn.step
applied_going old new c lead w y (Err e) going a = step_going old new c a.reply going a.turn.step
