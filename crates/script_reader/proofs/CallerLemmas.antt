-- For proofs of other crates and the laws: how calls of `feed`, `finish` and `next_command` change the items that a reader has left, and that those returned
-- and those left are those left before; `next_command` announces no end; a bad line leaves none, and is returned again. Re-exported: a script that this crate
-- writes is read as the commands that it was written for, and a line of numbers is short.
use Rattle.std.proofs.Common.{◌≡◌, ◌∙◌, ◌++◌, ℕ, Bool, true, false, List, [], ◌∷◌, Option, Some, None, refl, sym, ap, subst, append-nil, append_assoc}
use Rattle.std.proofs.lemmas.Bool.{true≢false}
use Rattle.cf_base.specs.Settings.{profile_of}
use Rattle.script_reader.specs.ReaderCalls.{AreCalls, ReaderCall, answers, bytes_fed, feeds, finishes, is_finished, items_given}
use Rattle.script_reader.specs.Items.{Item, asks, bad, starts}
use Rattle.script_reader.specs.Reading.{Answers, AnswersBad, Reading, StopsAt, fed_with, items_left}
use Rattle.script_reader.specs.declared.next.Next.{Next}
use Rattle.script_reader.specs.declared.next.Next.TheVariants.{Start, Command, NeedMore, Bad, End}
pub use Rattle.script_reader.proofs.ReadBack.{script_back}
pub use Rattle.script_reader.proofs.TextLemmas.{numbers_short}

bad_same_end : (old : Reading) (before : Option ℕ) (line : ℕ) (new : Reading) → AnswersBad old before line new → new.ended ≡ old.ended
bad_same_end old None line new answer = answer.reads.same_end
bad_same_end old (Some before) line new answer = ap (λ (r : Reading). r.ended) answer.1

-- a call that returns a result doesn't announce the end
pub answer_same_end : (old : Reading) (next : Next) (new : Reading) → Answers old next new → new.ended ≡ old.ended
answer_same_end old (Start settings) new answer = answer.reads.same_end
answer_same_end old (Command command) new answer = answer.reads.same_end
answer_same_end old NeedMore new answer = answer.passes.reads.same_end
answer_same_end old (Bad line) new answer = bad_same_end old old.stopped line new answer
answer_same_end old End new answer = answer.passes.reads.same_end

-- after the end was announced no call feeds bytes
fed_nothing : (calls : List ReaderCall) (old now : Reading) → old.ended ≡ true → AreCalls old calls now → bytes_fed calls ≡ []
fed_nothing [] old now shown are = refl
fed_nothing (feeds bytes ∷ rest) old now shown (mid, (open_end, is), are) = absurd (true≢false (sym shown ∙ open_end))
fed_nothing (finishes ∷ rest) old now shown (mid, is, are) = fed_nothing rest mid now (ap (λ (r : Reading). r.ended) is) are
fed_nothing (answers next ∷ rest) old now shown (mid, is, are) = fed_nothing rest mid now (answer_same_end old next mid is ∙ shown) are

-- the items left are the same whether bytes were fed already or are fed next
pub fed_left : (old : Reading) (bytes more : List ℕ) (e : Bool) → old.ended ≡ false → items_left old (bytes ++ more) e ≡ items_left (fed_with old bytes) more e
fed_left old bytes more e open_end = rw (open_end, append_assoc) refl

-- the items that are left if the input ends now are those that are left after `finish`
pub finished_left : (old : Reading) (e : Bool) → items_left old [] true ≡ items_left (record old { ended = true }) [] e
finished_left old e = go old.ended refl
  where
    go : (b : Bool) → old.ended ≡ b → items_left old [] true ≡ items_left (record old { ended = true }) [] e
    go true shown = rw shown refl
    go false open_end = rw (open_end, append-nil) refl

-- after a bad line no items are left
pub nothing_left : (r : Reading) (line : ℕ) (more : List ℕ) (e : Bool) → r.stopped ≡ Some line → items_left r more e ≡ []
nothing_left r line more e over = rw over refl

-- a reader that returned no bad line before and returns one now stops at that line (`StopsAt`)
pub bad_now : (old : Reading) (line : ℕ) (new : Reading) → old.stopped ≡ None → Answers old (Bad line) new → StopsAt old line new
bad_now old line new going answer = subst (λ (o : Option ℕ). AnswersBad old o line new) going answer

-- after a bad line every call returns the same bad line
still_over : (old : Reading) (next : Next) (new : Reading) (line : ℕ) → old.stopped ≡ Some line → Answers old next new → new.stopped ≡ Some line
still_over old (Start settings) new line over answer = absurd (let e = sym answer.reads.going ∙ over in cc)
still_over old (Command command) new line over answer = absurd (let e = sym answer.reads.going ∙ over in cc)
still_over old NeedMore new line over answer = absurd (let e = sym answer.passes.reads.going ∙ over in cc)
still_over old (Bad again) new line over answer =
    let repeats = subst (λ (o : Option ℕ). AnswersBad old o again new) over answer in ap (λ (r : Reading). r.stopped) repeats.1 ∙ over
still_over old End new line over answer = absurd (let e = sym answer.passes.reads.going ∙ over in cc)

pub over_then : (calls : List ReaderCall) (old now : Reading) (line : ℕ) → old.stopped ≡ Some line → AreCalls old calls now → now.stopped ≡ Some line
over_then [] old now line over are = ap (λ (r : Reading). r.stopped) are ∙ over
over_then (feeds bytes ∷ rest) old now line over (mid, (open_end, is), are) = over_then rest mid now line (ap (λ (r : Reading). r.stopped) is ∙ over) are
over_then (finishes ∷ rest) old now line over (mid, is, are) = over_then rest mid now line (ap (λ (r : Reading). r.stopped) is ∙ over) are
over_then (answers next ∷ rest) old now line over (mid, is, are) = over_then rest mid now line (still_over old next mid line over is) are

-- The items that the calls returned up to the first bad line, and then the items left after the calls, are the items left before the calls.
pub given_then_left : (calls : List ReaderCall) (old now : Reading) → old.stopped ≡ None → AreCalls old calls now
    → items_left old (bytes_fed calls) (is_finished calls) ≡ items_given calls ++ items_left now [] false
given_then_left [] old now going are = ap (λ (r : Reading). items_left r [] false) (sym are)
given_then_left (feeds bytes ∷ rest) old now going (mid, (open_end, is), are) =
    let are2 = subst (λ (r : Reading). AreCalls r rest now) is are in
    fed_left old bytes (bytes_fed rest) (is_finished rest) open_end ∙ given_then_left rest (fed_with old bytes) now going are2
given_then_left (finishes ∷ rest) old now going (mid, is, are) =
    let are2 = subst (λ (r : Reading). AreCalls r rest now) is are in
    let nothing = fed_nothing rest (record old { ended = true }) now refl are2 in
    let left = given_then_left rest (record old { ended = true }) now going are2 in
    ap (λ (more : List ℕ). items_left old more true) nothing ∙ finished_left old (is_finished rest)
    ∙ ap (λ (more : List ℕ). items_left (record old { ended = true }) more (is_finished rest)) (sym nothing) ∙ left
given_then_left (answers (Start settings) ∷ rest) old now going (mid, answer, are) =
    answer.reads.left (bytes_fed rest) (is_finished rest)
    ∙ ap (λ (l : List Item). starts (profile_of settings) ∷ l) (given_then_left rest mid now answer.still are)
given_then_left (answers (Command command) ∷ rest) old now going (mid, answer, are) =
    answer.reads.left (bytes_fed rest) (is_finished rest) ∙ ap (λ (l : List Item). asks command ∷ l) (given_then_left rest mid now answer.still are)
given_then_left (answers NeedMore ∷ rest) old now going (mid, answer, are) =
    answer.passes.reads.left (bytes_fed rest) (is_finished rest) ∙ given_then_left rest mid now answer.passes.still are
given_then_left (answers (Bad line) ∷ rest) old now going (mid, answer, are) =
    let stops = bad_now old line mid going answer in
    let over = over_then rest mid now line stops.stopped are in
    stops.reads.left (bytes_fed rest) (is_finished rest)
    ∙ ap (λ (l : List Item). bad line ∷ l) (nothing_left mid line (bytes_fed rest) (is_finished rest) stops.stopped ∙ sym (nothing_left now line [] false over))
given_then_left (answers End ∷ rest) old now going (mid, answer, are) =
    answer.passes.reads.left (bytes_fed rest) (is_finished rest) ∙ given_then_left rest mid now answer.passes.still are
