-- For `play_script` and `Script::turn`, one turn of its loop: what a turn takes (a chunk) and answers, what all turns so far did, and the loop's contract
-- (`Plays`) once a turn ends the script.
use Rattle.std.proofs.Common.{◌≡◌, ◌≤◌, ◌<◌, ◌+◌, ◌⊎◌, ◌++◌, ◌∙◌, false, true, List, [], ℕ, Option, Result, Ok, Err, refl, ap, sym, subst, length, inl, inr, arith, take, drop, append_assoc, append-nil, length-append, length-drop, take-append-drop, min, length-take-le, take-take}
use Rattle.run_model.specs.Terms.{appended, items, SinkFailsIf, SinkState, SourceFailsIf, SourceState, Status}
use Rattle.cf_base.specs.declared.status.Status.TheVariants.{Done, Words, BadScript, ReadFault, WriteFault, OutOfMemory, TooLong, BadImage}
use Rattle.cf_io.specs.Feeds.{HasGiven, IsSpent, last_count, preceded}
use Rattle.script_reader.specs.Reading.{Reading, fresh}
use Rattle.script_loop.specs.AnswersSoFar.{Answered, AnswersItems, HasStopped, LackedMemory, StopsAt, WasCut, WentOn}
use Rattle.script_loop.specs.Progress.{Progress, playing, progress}
use Rattle.script_loop.specs.ScriptOutcome.{Effects, IsStatusRow, MOST_BYTES, MOST_CHUNK, MeetsOutcome, Plays, effects, is_read_fault, is_write_fault, items_within}
use Rattle.script_loop.specs.Semantics.{Semantics}
use Rattle.script_loop.specs.LoopTurn.{AnswersChunk, AwaitsChunk, BetweenTurns, Chunk, StopsBy, TakesNothing, between, left_in, reading_in}
use Rattle.script_loop.specs.declared.running.Script.{Script}
use Rattle.script_loop.proofs.Ending.{bad_end_items, bad_items, bads, bads_then, cut_at_end, cut_items, ending, full_items, longer, quiet_items, silent_at_end}
use Rattle.script_loop.proofs.Ending.{silent_before, starting, takes_a_chunk, wants_at_end, wants_memory, whole_items, wrote, wrote_in_part, wrote_then}
use Rattle.cf_io.proofs.CallerLemmas.{appended_after, appended_none, given_more, given_none, nothing_follows, preceded_after, preceded_none}
use Rattle.script_loop.proofs.AnswersSoFar.{answered_none, answered_then, both_done, cut_then}

-- ---- the chunk that a call of the source returned: the first n bytes of `buf`, the first k of them within the limit

abbrev pub chunk_of : {S : Type 0} (old new : BetweenTurns S) (buf : List ℕ) (k n : ℕ) → k ≤ n → k ≤ old.left → n ≤ length buf → length buf ≤ MOST_CHUNK
    → old.rest ≡ preceded (take n buf) new.rest → new.given ≡ min (old.given + n) last_count → Chunk old new
chunk_of old new buf k n below left fits few took counted =
    let parts : take k buf ++ drop k (take n buf) ≡ take n buf =
    ap (λ (l : List ℕ). l ++ drop k (take n buf)) (sym (take-take k n buf below)) ∙ take-append-drop k (take n buf) in
    let long : length (take k buf ++ drop k (take n buf)) ≡ n = ap length parts ∙ length-take-le n buf fits in
    let short = length-take-le k buf (omega (arith, below, fits)) in
    record {
      within = take k buf;
      past = drop k (take n buf);
      took = took ∙ ap (λ (l : List ℕ). preceded l new.rest) (sym parts);
      counted = counted ∙ ap (λ m. min (old.given + m) last_count) (sym long);
      fits = omega (arith, short, left);
      short = omega (arith, long, fits, few);
    }

-- the whole chunk is within the limit
abbrev pub whole_chunk : {S : Type 0} (old new : BetweenTurns S) (buf : List ℕ) (n : ℕ) → n ≤ old.left → n ≤ length buf → length buf ≤ MOST_CHUNK
    → old.rest ≡ preceded (take n buf) new.rest → new.given ≡ min (old.given + n) last_count → Chunk old new
whole_chunk old new buf n left fits few took counted =
    let parts : take n buf ++ [] ≡ take n buf = append-nil (take n buf) in
    let long : length (take n buf ++ []) ≡ n = ap length parts ∙ length-take-le n buf fits in
    let short = length-take-le n buf fits in
    record {
      within = take n buf;
      past = [];
      took = took ∙ ap (λ (l : List ℕ). preceded l new.rest) (sym parts);
      counted = counted ∙ ap (λ m. min (old.given + m) last_count) (sym long);
      fits = omega (arith, short, left);
      short = omega (arith, long, fits, few);
    }

pub some_past : (buf : List ℕ) (k n : ℕ) → k < n → n ≤ length buf → 0 < length (drop k (take n buf))
some_past buf k n below fits = rw (length-drop, length-take-le n buf fits) (omega arith)

-- ---- how a script ended

-- what is claimed when a script has ended, but for the causes of faults: the outcome, an unchanged plan (the part of a state that no item changes), and what
-- `OutOfMemory` and `TooLong` mean
pub record HasEnded {S P : Type 0} (m : Semantics S P) (from : S) (call : Effects) (to : S) : Type 0 where
  pub outcome : MeetsOutcome m from call to
  pub plan : m.plan to ≡ m.plan from
  pub silent : call.status ≡ OutOfMemory → call.after ≡ call.before
  pub too_long : call.status ≡ TooLong → (call.given_before + MOST_BYTES < call.given_after) ⊎ (call.given_after ≡ last_count)

-- `Plays`, from `HasEnded` and from the causes of faults
pub plays_of : {S P : Type 0} (m : Semantics S P) (from : S) (s : SourceState) (k : SinkState) (st : Status) (s' : SourceState) (k' : SinkState) (to : S)
    → HasEnded m from (effects s k st s' k') to → SourceFailsIf (is_read_fault st) s s' → SinkFailsIf (is_write_fault st) k k' → Plays m from s k st s' k' to
plays_of m from s k st s' k' to ended source sink = record {
  outcome = ended.outcome;
  plan = ended.plan;
  causes = record { silent = ended.silent; source_fault = source; sink_fault = sink; too_long = ended.too_long };
}

-- the status of a script, by the result of the last call of `answer_pending_items`
abbrev pub status_by : Result (Unit {0}) Status → Status
status_by (Ok done) = Done
status_by (Err status) = status

-- a turn took a chunk, and its items ended the script
pub stops_by : {S P : Type 0} (m : Semantics S P) (old new : BetweenTurns S) (c : Chunk old new) (st : Status)
    → StopsAt m old.progress c.within st new.progress → StopsBy m st old new
stops_by m old new c ReadFault went = absurd went
stops_by m old new c TooLong went = absurd went
stops_by m old new c _ went = (c, went)

-- items never end the script by a fault of the source
pub never_read : {S P : Type 0} (m : Semantics S P) (old new : Progress S) (chunk : List ℕ) (st : Status) → StopsAt m old chunk st new → is_read_fault st ≡ false
never_read m old new chunk ReadFault went = absurd went
never_read m old new chunk _ went = refl

-- ---- from the start of a script

-- What all turns so far did. At the start the run was in the state `from`, the source had the bytes `had` and had returned `given` bytes, and the sink had the
-- bytes `before`. The turns took the bytes `taken` and wrote the bytes `text`; they led to `b`.
pub record SoFar {S P : Type 0} (m : Semantics S P) (from : S) (had : Option (List ℕ)) (given : ℕ) (before : Option (List ℕ)) (b : BetweenTurns S) : Type 0 where
  pub taken : List ℕ
  pub text : List ℕ
  pub answered : Answered m (starting from) taken b.progress.playing text false
  pub awaits : AwaitsChunk m b
  pub count : length taken + b.left ≡ MOST_BYTES
  pub took : had ≡ preceded taken b.rest
  pub counted : HasGiven given (length taken) b.given
  pub wrote : b.progress.written ≡ appended before text

-- before the first turn
pub none_so_far : {S P : Type 0} (m : Semantics S P) (script : Script) (from : S) (had before : Option (List ℕ)) (given : ℕ) → reading_in script ≡ fresh
    → left_in script ≡ MOST_BYTES → m.is_fresh from → SoFar m from had given before (between script from before had given)
none_so_far m script from had before given new full is_fresh =
    subst (λ (r : Reading). SoFar m from had given before (record { progress = progress (playing r from) before; rest = had; given = given; left = left_in script }))
    (sym new) (record {
      taken = [];
      text = [];
      answered = answered_none m (starting from);
      awaits = record {
        waiting = record { going = refl; quiet = refl; room = λ _. omega arith };
        ready = is_fresh;
        going = refl;
        few = omega (arith, full);
      };
      count = omega (arith, full);
      took = preceded_none had;
      counted = inl (omega arith);
      wrote = appended_none before;
    })

module _ {S P : Type 0} (m : Semantics S P) {from : S} {had before : Option (List ℕ)} {given : ℕ} {b : BetweenTurns S} (f : SoFar m from had given before b) where
  module _ {b' : BetweenTurns S} (c : Chunk b b') where
    abbrev all_taken : List ℕ
    all_taken = f.taken ++ (c.within ++ c.past)

    took_all : had ≡ preceded all_taken b'.rest
    took_all = preceded_after _ _ _ f.taken (c.within ++ c.past) f.took c.took

    gave_all : HasGiven given (length all_taken) b'.given
    gave_all = given_more _ _ _ _ _ _ f.counted c.counted (length-append f.taken (c.within ++ c.past))

    few_within : length (f.taken ++ c.within) ≤ MOST_BYTES
    few_within = let long = length-append f.taken c.within in omega (arith, long, f.count, c.fits)

    parted : (more : List ℕ) → all_taken ++ more ≡ (f.taken ++ c.within) ++ (c.past ++ more)
    parted more = ap (λ (l : List ℕ). l ++ more) (sym (append_assoc f.taken c.within c.past)) ∙ append_assoc (f.taken ++ c.within) c.past more

    abbrev call_to : Status → Effects
    call_to st = record {
      had = had;
      left = b'.rest;
      given_before = given;
      given_after = b'.given;
      before = before;
      after = b'.progress.written;
      status = st;
    }

    by_chunk : (st : Status) → ((more : List ℕ) → IsStatusRow m st from (all_taken ++ more) more (call_to st) b'.progress.playing.state)
        → MeetsOutcome m from (call_to st) b'.progress.playing.state
    by_chunk st row = record { taken = all_taken; ended = false; took = took_all; counted = gave_all; row = λ more follows. row more }

    stopped : HasStopped m b.progress c.within b'.progress → HasEnded m from (call_to BadScript) b'.progress.playing.state
    stopped went =
        let both = answered_then m f.answered went.answered in
        record {
          outcome = by_chunk BadScript (λ more.
              let wanted = bad_items m (all_taken ++ more) (c.past ++ more) both (parted more) few_within went.over.1 in (
                bads m both (items_within (all_taken ++ more)) wanted,
                wrote m both (items_within (all_taken ++ more)) _ wanted
                    (appended_after _ _ _ _ _ f.wrote went.wrote),
              ));
          plan = both.plan;
          silent = λ is. absurd (let e : BadScript ≡ OutOfMemory = is in cc);
          too_long = λ is. absurd (let e : BadScript ≡ TooLong = is in cc);
        }

    was_cut : WasCut m b.progress c.within b'.progress → HasEnded m from (call_to WriteFault) b'.progress.playing.state
    was_cut went =
        let both = cut_then m f.answered went.cut in
        record {
          outcome = by_chunk WriteFault (λ more.
              let wanted = cut_items m (all_taken ++ more) (c.past ++ more) both (parted more) few_within in
              let part = wrote_in_part m both (all_taken ++ more) (call_to WriteFault) wanted.0 wanted.1 (appended_after _ _ _ _ _ f.wrote went.wrote) in (
                part.0,
                takes_a_chunk m f.answered f.awaits.waiting went.cut.done part.0.before (part.1 ∙ both_done m f.answered went.cut) (c.within ++ c.past) (all_taken ++ more) more
                    (append_assoc f.taken (c.within ++ c.past) more) c.short,
              ));
          plan = both.plan;
          silent = λ is. absurd (let e : WriteFault ≡ OutOfMemory = is in cc);
          too_long = λ is. absurd (let e : WriteFault ≡ TooLong = is in cc);
        }

    was_wanting : LackedMemory m b.progress b'.progress → HasEnded m from (call_to OutOfMemory) b'.progress.playing.state
    was_wanting went = record {
      outcome = by_chunk OutOfMemory (λ more. wants_memory m (call_to OutOfMemory) f.answered went f.wrote);
      plan = went.plan ∙ f.answered.plan;
      silent = λ is. silent_before m f.answered went f.wrote;
      too_long = λ is. absurd (let e : OutOfMemory ≡ TooLong = is in cc);
    }

    passed : 0 < length c.past → length c.within ≡ b.left → WentOn m b.progress c.within b'.progress
        → HasEnded m from (call_to TooLong) b'.progress.playing.state
    passed some full went =
        let both = answered_then m f.answered went.answered in
        let long = length-append f.taken c.within in
        let limit : length (f.taken ++ c.within) ≡ MOST_BYTES = omega (arith, long, full, f.count) in
        record {
          outcome = by_chunk TooLong (λ more.
              let behind : 0 < length (c.past ++ more) = rw length-append (omega (arith, some)) in
              let wanted = full_items m (all_taken ++ more) (c.past ++ more) both went.waiting (parted more) limit behind in (
                longer (all_taken ++ more) (f.taken ++ c.within) (c.past ++ more) (parted more) limit behind,
                bads m both (items_within (all_taken ++ more)) wanted,
                wrote m both (items_within (all_taken ++ more)) _ wanted (appended_after _ _ _ _ _ f.wrote went.wrote),
              ));
          plan = both.plan;
          silent = λ is. absurd (let e : TooLong ≡ OutOfMemory = is in cc);
          too_long = λ is.
              let first = length-append f.taken (c.within ++ c.past) in
              let second = length-append c.within c.past in
              gave_past (length all_taken) (omega (arith, first, second, some, full, f.count)) gave_all (omega (arith, c.counted));
        }
      where
        gave_past : (n : ℕ) → MOST_BYTES < n → HasGiven given n b'.given → b'.given ≤ last_count
            → (given + MOST_BYTES < b'.given) ⊎ (b'.given ≡ last_count)
        gave_past n over (inl just) most = inl (omega (arith, over, just))
        gave_past n over (inr last) most = inr (omega (arith, last, most))

  -- if all items that a chunk completes were answered, the next turn may begin
  module _ {b' : BetweenTurns S} (a : AnswersChunk m b b') where
    whole : f.taken ++ (a.chunk.within ++ a.chunk.past) ≡ f.taken ++ a.chunk.within
    whole = ap (λ (l : List ℕ). f.taken ++ l) (ap (λ (l : List ℕ). a.chunk.within ++ l) a.whole ∙ append-nil a.chunk.within)

    pub next_so_far : SoFar m from had given before b'
    next_so_far =
        let long = length-append f.taken a.chunk.within in
        record {
          taken = f.taken ++ a.chunk.within;
          text = f.text ++ a.went.text;
          answered = answered_then m f.answered a.went.answered;
          awaits = record {
            waiting = a.went.waiting;
            ready = a.went.ready;
            going = a.went.same_end ∙ f.awaits.going;
            few = omega (arith, a.went.fed, a.left, f.awaits.few);
          };
          count = omega (arith, long, a.left, f.count);
          took = preceded_after _ _ _ f.taken (a.chunk.within ++ a.chunk.past) f.took a.chunk.took ∙ ap (λ (l : List ℕ). preceded l b'.rest) whole;
          counted = subst (λ (l : List ℕ). HasGiven given (length l) b'.given) whole
              (given_more _ _ _ _ _ _ f.counted a.chunk.counted (length-append f.taken (a.chunk.within ++ a.chunk.past)));
          wrote = appended_after _ _ _ _ _ f.wrote a.went.wrote;
        }

  -- a turn that takes nothing changes nothing
  pub same_so_far : {b' : BetweenTurns S} → TakesNothing b b' → SoFar m from had given before b'
  same_so_far {b'} none = record {
    taken = f.taken;
    text = f.text;
    answered = subst (λ (p : Progress S). Answered m (starting from) f.taken p.playing f.text false) (sym none.progress) f.answered;
    awaits = subst (λ (p : Progress S). AwaitsChunk m (record { progress = p; rest = b'.rest; given = b'.given; left = b'.left })) (sym none.progress)
        (record { waiting = f.awaits.waiting; ready = f.awaits.ready; going = f.awaits.going; few = omega (arith, f.awaits.few, none.left) });
    count = omega (arith, f.count, none.left);
    took = f.took ∙ ap (preceded f.taken) (sym none.rest);
    counted = given_none _ _ _ _ f.counted none.counted;
    wrote = ap (λ (p : Progress S). p.written) none.progress ∙ f.wrote;
  }

  abbrev call_at : Status → Effects
  call_at st = record {
    had = had;
    left = b.rest;
    given_before = given;
    given_after = b.given;
    before = before;
    after = b.progress.written;
    status = st;
  }

  -- the script ended because the source failed; the failed call took nothing
  pub read_failed : HasEnded m from (call_at ReadFault) b.progress.playing.state
  read_failed =
      let quiet = quiet_items m f.answered f.awaits.waiting in
      record {
        outcome = record {
          taken = f.taken;
          ended = false;
          took = f.took;
          counted = f.counted;
          row = λ more follows. (
            f.taken,
            refl,
            omega (arith, f.count),
            bads m f.answered (items f.taken false) quiet,
            wrote m f.answered (items f.taken false) _ quiet f.wrote,
          );
        };
        plan = f.answered.plan;
        silent = λ is. absurd (let e : ReadFault ≡ OutOfMemory = is in cc);
        too_long = λ is. absurd (let e : ReadFault ≡ TooLong = is in cc);
      }

  -- ---- at the end of the source

  module _ (spent : IsSpent b.rest) (p : Progress S) where
    abbrev call_by : Status → Effects
    call_by st = record {
      had = had;
      left = b.rest;
      given_before = given;
      given_after = b.given;
      before = before;
      after = p.written;
      status = st;
    }

    by_end : (st : Status) → ((all : List ℕ) → all ≡ f.taken → length f.taken ≤ MOST_BYTES → IsStatusRow m st from all [] (call_by st) p.playing.state)
        → MeetsOutcome m from (call_by st) p.playing.state
    by_end st row = record {
      taken = f.taken;
      ended = true;
      took = f.took;
      counted = f.counted;
      row = λ more follows.
          let none = nothing_follows b.rest more spent follows in
          subst (λ (l : List ℕ). IsStatusRow m st from (f.taken ++ more) l (call_by st) p.playing.state) (sym none)
          (row (f.taken ++ more) (ap (λ (l : List ℕ). f.taken ++ l) none ∙ append-nil f.taken) (omega (arith, f.count)));
    }

    pub has_ended : (r : Result (Unit {0}) Status) → AnswersItems m (progress (ending b.progress.playing) b.progress.written) [] r p
        → HasEnded m from (call_by (status_by r)) p.playing.state
    has_ended (Ok done) went = record {
      outcome = by_end Done (λ all same few.
          let wanted = whole_items m all f.answered went.answered same few went.waiting in (
            (let e = ap length same in omega (arith, e, few)),
            refl,
            bads_then m f.answered went.answered (items_within all) wanted,
            wrote_then m f.answered went.answered (items_within all) _ wanted (appended_after _ _ _ _ _ f.wrote went.wrote),
          ));
      plan = went.answered.plan ∙ f.answered.plan;
      silent = λ is. absurd (let e : Done ≡ OutOfMemory = is in cc);
      too_long = λ is. absurd (let e : Done ≡ TooLong = is in cc);
    }
    has_ended (Err BadScript) went = record {
      outcome = by_end BadScript (λ all same few.
          let wanted = bad_end_items m all f.answered went.answered same few went.over.1 in (
            bads_then m f.answered went.answered (items_within all) wanted,
            wrote_then m f.answered went.answered (items_within all) _ wanted (appended_after _ _ _ _ _ f.wrote went.wrote),
          ));
      plan = went.answered.plan ∙ f.answered.plan;
      silent = λ is. absurd (let e : BadScript ≡ OutOfMemory = is in cc);
      too_long = λ is. absurd (let e : BadScript ≡ TooLong = is in cc);
    }
    has_ended (Err WriteFault) went = record {
      outcome = by_end WriteFault (λ all same few.
          let part = cut_at_end m all f.answered went.cut (call_by WriteFault) same few (appended_after _ _ _ _ _ f.wrote went.wrote) in (
            part.0,
            takes_a_chunk m f.answered f.awaits.waiting went.cut.done part.0.before part.1 [] all [] (same ∙ sym (append-nil f.taken)) (omega arith),
          ));
      plan = went.cut.plan ∙ f.answered.plan;
      silent = λ is. absurd (let e : WriteFault ≡ OutOfMemory = is in cc);
      too_long = λ is. absurd (let e : WriteFault ≡ TooLong = is in cc);
    }
    has_ended (Err OutOfMemory) went = record {
      outcome = by_end OutOfMemory (λ all same few. wants_at_end m (call_by OutOfMemory) f.answered went f.wrote);
      plan = went.plan ∙ f.answered.plan;
      silent = λ is. silent_at_end m f.answered went f.wrote;
      too_long = λ is. absurd (let e : OutOfMemory ≡ TooLong = is in cc);
    }
    has_ended (Err Done) went = absurd went
    has_ended _ went = absurd went

-- a turn ended the script with the status `st`
pub has_stopped : {S P : Type 0} (m : Semantics S P) {from : S} {had before : Option (List ℕ)} {given : ℕ} {b : BetweenTurns S}
    (f : SoFar m from had given before b) (b' : BetweenTurns S) (st : Status) → StopsBy m st b b'
    → HasEnded m from (record { had = had; left = b'.rest; given_before = given; given_after = b'.given; before = before; after = b'.progress.written; status = st })
    b'.progress.playing.state
has_stopped m f b' ReadFault none = read_failed m (same_so_far m f none)
has_stopped m f b' BadScript (c, went) = stopped m f c went
has_stopped m f b' WriteFault (c, went) = was_cut m f c went
has_stopped m f b' OutOfMemory (c, went) = was_wanting m f c went
has_stopped m f b' TooLong passes = passed m f passes.chunk passes.some passes.full passes.went
has_stopped m f b' _ (c, never) = absurd never

-- the source ended, and the items that its end completes were answered
pub at_end : {S P : Type 0} (m : Semantics S P) {from : S} {had before : Option (List ℕ)} {given : ℕ} {b : BetweenTurns S}
    (f : SoFar m from had given before b) (b' : BetweenTurns S) → TakesNothing b b' × IsSpent b.rest → (p : Progress S) (r : Result (Unit {0}) Status)
    → AnswersItems m (progress (ending b'.progress.playing) b'.progress.written) [] r p
    → HasEnded m from
    (record { had = had; left = b'.rest; given_before = given; given_after = b'.given; before = before; after = p.written; status = status_by r })
    p.playing.state
at_end m f b' (none, spent) p r went = has_ended m (same_so_far m f none) (subst IsSpent (sym none.rest) spent) p r went
