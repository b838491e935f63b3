-- For `play_script`, the loop over a script: from the items answered in its turns, one chunk each, and at the end of the input to its outcome
-- (`MeetsOutcome`), for each status.
use Rattle.std.proofs.Common.{◌≡◌, ◌≤◌, ◌<◌, ◌+◌, ◌-◌, ◌++◌, ◌∙◌, Bool, true, false, List, [], ◌∷◌, ℕ, Option, Some, None, refl, ap, ap₂, sym, subst, length, take, append_assoc, append-nil, length-append, arith, le-leb, take_all, take_at, nat_le}
use Rattle.std.proofs.Math.Seq.{take-append-add}
use Rattle.run_model.specs.Terms.{appended, Item, items, text_of}
use Rattle.cf_base.proofs.Tests.{le_no}
use Rattle.script_reader.specs.Reading.{Reading, fresh, items_left}
use Rattle.script_reader.proofs.CallerLemmas.{finished_left}
use Rattle.run_model.proofs.CallerLemmas.{run_joined, text_joined}
use Rattle.run_model.specs.Plays.{PlayPart, PlayRun}
use Rattle.script_loop.specs.AnswersSoFar.{Answered, CutOff, IsWaiting, LackedMemory}
use Rattle.script_loop.specs.Progress.{Playing, progress, run_of}
use Rattle.script_loop.specs.ScriptOutcome.{Effects, RanOutOfMemory, MOST_BYTES, MOST_CHUNK, TakesAtMostAChunk, Wrote, WroteInPart, has_bad, items_within}
use Rattle.script_loop.specs.Semantics.{RunBy, Semantics}
use Rattle.cf_io.proofs.CallerLemmas.{appended_none}
use Rattle.script_loop.proofs.AnswersSoFar.{bad_then, nothing_left}
use Rattle.script_loop.proofs.Stages.{stands}

-- at the start of a script
abbrev pub starting : {S : Type 0} → S → Playing S
starting s = record { reading = fresh; state = s }

-- a reader after the end of its bytes was announced
abbrev pub shown_end : Reading → Reading
shown_end r = record r { ended = true }

-- the script after the end of its bytes was announced
abbrev pub ending : {S : Type 0} → Playing S → Playing S
ending p = record p { reading = shown_end p.reading }

-- the items within the limit, if the bytes t come first and are within the limit
within_is : (all t more : List ℕ) → all ≡ t ++ more → length t ≤ MOST_BYTES
    → items_within all ≡ items (t ++ take (MOST_BYTES - length t) more) (nat_le (length all) MOST_BYTES)
within_is all t more parts fits =
    let room : MOST_BYTES ≡ length t + (MOST_BYTES - length t) = omega arith in
    ap (λ (l : List ℕ). items l (nat_le (length all) MOST_BYTES))
    (ap (λ (l : List ℕ). take MOST_BYTES l) parts ∙ ap (λ n. take n (t ++ more)) room ∙ take-append-add t more (MOST_BYTES - length t))

-- if t has 268,435,455 bytes, and more bytes follow t, the script passes the limit
pub longer : (all t more : List ℕ) → all ≡ t ++ more → length t ≡ MOST_BYTES → 0 < length more → MOST_BYTES < length all
longer all t more parts full some = rw (parts, length-append) (omega arith)

module _ {S P : Type 0} (m : Semantics S P) where
  -- ---- runs over the items so far

  pub wrote : {s : S} {new : Playing S} {t text : List ℕ} {stop : Bool} (a : Answered m (starting s) t new text stop) (wanted : List Item) (call : Effects)
      → wanted ≡ a.done
      → call.after ≡ appended call.before text → Wrote m s wanted call new.state
  wrote {s} {new} {t} {text} {stop} a wanted call same put = record {
    replies = a.replies;
    end = run_of new;
    run = subst (λ (xs : List Item). RunBy m s None xs a.replies (run_of new)) (sym same) a.run;
    written = put ∙ ap (appended call.before) a.text_is;
    stands = stands new.reading.stage s new.state (λ at. (a.untouched at).1);
  }

  pub bads : {s : S} {new : Playing S} {t text : List ℕ} {stop : Bool} (a : Answered m (starting s) t new text stop) (wanted : List Item) → wanted ≡ a.done
      → has_bad wanted ≡ stop
  bads {s} {new} {t} {text} {stop} a wanted same = ap has_bad same ∙ a.stops

  pub wrote_in_part : {s : S} {new : Playing S} {t out : List ℕ} (c : CutOff m (starting s) t new out) (all : List ℕ) (call : Effects) (after : List Item)
      → items_within all ≡ c.done ++ c.item ∷ after → call.after ≡ appended call.before out
      → (w : WroteInPart m s (items_within all) call new.state) × (w.before ≡ c.done)
  wrote_in_part {s} {new} {t} {out} c all call after parts put = (
    record {
      before = c.done;
      item = c.item;
      after = after;
      parts = parts;
      replies = c.replies;
      mid = c.mid;
      run = c.run;
      front = c.front;
      end = run_of new;
      part = c.part;
      written = put ∙ ap (appended call.before) c.out_is;
      stands = stands new.reading.stage s new.state (λ at. (c.untouched at).1);
    },
    refl,
  )

  -- if the reader needs more bytes, the items of the bytes t are those answered
  pub quiet_items : {s : S} {new : Playing S} {t text : List ℕ} (a : Answered m (starting s) t new text false) → IsWaiting new.reading
      → items t false ≡ a.done
  quiet_items {s} {new} {t} {text} a waits =
      ap (λ (l : List ℕ). items l false) (sym (append-nil t)) ∙ a.left [] false ∙ ap (λ (l : List Item). a.done ++ l) waits.quiet ∙ append-nil a.done

  -- if at most one chunk (`last`) was taken after the bytes t, whose items were answered: `TakesAtMostAChunk`
  pub takes_a_chunk : {s : S} {new : Playing S} {t text : List ℕ} (a : Answered m (starting s) t new text false) → IsWaiting new.reading
      → (more before : List Item) → before ≡ a.done ++ more → (last all left : List ℕ) → all ≡ t ++ (last ++ left) → length last ≤ MOST_CHUNK
      → TakesAtMostAChunk before all left
  takes_a_chunk {s} {new} {t} {text} a waits more before is last all left took short = record {
    earlier = t;
    last = last;
    took = took;
    short = short;
    answered = (more, is ∙ ap (λ (l : List Item). l ++ more) (sym (quiet_items a waits)));
  }

  -- ---- the items within the limit, when the script ends before the end of the input

  -- if the script ended at a bad line, its items within the limit are those answered, the bad line among them
  pub bad_items : {s : S} {new : Playing S} {t text : List ℕ} {line : ℕ} (all more : List ℕ) (a : Answered m (starting s) t new text true) → all ≡ t ++ more
      → length t ≤ MOST_BYTES → new.reading.stopped ≡ Some line → items_within all ≡ a.done
  bad_items {s} {new} {t} {text} {line} all more a parts fits over =
      within_is all t more parts fits ∙ a.left (take (MOST_BYTES - length t) more) (nat_le (length all) MOST_BYTES)
      ∙ ap (λ (l : List Item). a.done ++ l) (nothing_left new.reading line (take (MOST_BYTES - length t) more) (nat_le (length all) MOST_BYTES) over)
      ∙ append-nil a.done

  -- if the script ended at a cut reply, its items within the limit are those answered whole, the item with the cut reply, and the later items
  pub cut_items : {s : S} {new : Playing S} {t out : List ℕ} (all more : List ℕ) (c : CutOff m (starting s) t new out) → all ≡ t ++ more
      → length t ≤ MOST_BYTES
      → (after : List Item) × (items_within all ≡ c.done ++ c.item ∷ after)
  cut_items {s} {new} {t} {out} all more c parts fits =
      let after = c.left (take (MOST_BYTES - length t) more) (nat_le (length all) MOST_BYTES) in
      (after.0, within_is all t more parts fits ∙ after.1)

  pub full_items : {s : S} {new : Playing S} {t text : List ℕ} (all more : List ℕ) (a : Answered m (starting s) t new text false) → IsWaiting new.reading
      → all ≡ t ++ more
      → length t ≡ MOST_BYTES → 0 < length more → items_within all ≡ a.done
  full_items {s} {new} {t} {text} all more a waits parts full some =
      ap (λ (l : List ℕ). items l (nat_le (length all) MOST_BYTES)) (ap (λ (l : List ℕ). take MOST_BYTES l) parts ∙ take_at t more MOST_BYTES full)
      ∙ ap (items t) (le_no (length all) MOST_BYTES (longer all t more parts full some)) ∙ quiet_items a waits

  -- ---- at the end of the input

  -- the items of all bytes are those answered before the end, and those that the end of the input completes
  pub ended_items : {s : S} {mid : Playing S} {t text : List ℕ} (all : List ℕ) (a : Answered m (starting s) t mid text false) → all ≡ t
      → length t ≤ MOST_BYTES
      → items_within all ≡ a.done ++ items_left (shown_end mid.reading) [] false
  ended_items {s} {mid} {t} {text} all a same fits =
      let short : length all ≤ MOST_BYTES = rw same fits in
      ap (λ (l : List ℕ). items l (nat_le (length all) MOST_BYTES)) (take_all MOST_BYTES all short) ∙ ap (items all) (le-leb (length all) MOST_BYTES short)
      ∙ ap (λ (l : List ℕ). items l true) (same ∙ sym (append-nil t)) ∙ a.left [] true
      ∙ ap (λ (l : List Item). a.done ++ l) (finished_left mid.reading false)

  pub wrote_then : {s : S} {mid new : Playing S} {t text u : List ℕ} {stop : Bool} (a : Answered m (starting s) t mid text false)
      (b : Answered m (ending mid) [] new u stop)
      (wanted : List Item) (call : Effects) → wanted ≡ a.done ++ b.done → call.after ≡ appended call.before (text ++ u) → Wrote m s wanted call new.state
  wrote_then {s} {mid} {new} {t} {text} {u} {stop} a b wanted call same put = record {
    replies = a.replies ++ b.replies;
    end = run_of new;
    run = subst (λ (xs : List Item). RunBy m s None xs (a.replies ++ b.replies) (run_of new)) (sym same)
        (run_joined (m.begins (m.plan s)) m.turns None a.done b.done a.replies b.replies (run_of mid) (run_of new) a.run
        (subst (λ (k : P). PlayRun (m.begins k) m.turns (run_of mid) b.done b.replies (run_of new)) a.plan b.run));
    written = put ∙ ap (appended call.before) (ap₂ (λ (x y : List ℕ). x ++ y) a.text_is b.text_is ∙ sym (text_joined [] a.replies b.replies));
    stands = stands new.reading.stage s new.state (λ at. let last = b.untouched at in last.1 ∙ (a.untouched last.0).1);
  }

  pub bads_then : {s : S} {mid new : Playing S} {t text u : List ℕ} {stop : Bool} (a : Answered m (starting s) t mid text false)
      (b : Answered m (ending mid) [] new u stop)
      (wanted : List Item) → wanted ≡ a.done ++ b.done → has_bad wanted ≡ stop
  bads_then {s} {mid} {new} {t} {text} {u} {stop} a b wanted same = ap has_bad same ∙ bad_then a.done b.done a.stops ∙ b.stops

  -- all items were answered
  pub whole_items : {s : S} {mid new : Playing S} {t text u : List ℕ} (all : List ℕ) (a : Answered m (starting s) t mid text false)
      (b : Answered m (ending mid) [] new u false)
      → all ≡ t → length t ≤ MOST_BYTES → IsWaiting new.reading → items_within all ≡ a.done ++ b.done
  whole_items {s} {mid} {new} {t} {text} {u} all a b same fits waits =
      ended_items all a same fits ∙ ap (λ (l : List Item). a.done ++ l)
      (b.left [] false ∙ ap (λ (l : List Item). b.done ++ l) waits.quiet ∙ append-nil b.done)

  -- the end of the input completed a bad line, the last item answered
  pub bad_end_items : {s : S} {mid new : Playing S} {t text u : List ℕ} {line : ℕ} (all : List ℕ) (a : Answered m (starting s) t mid text false)
      (b : Answered m (ending mid) [] new u true)
      → all ≡ t → length t ≤ MOST_BYTES → new.reading.stopped ≡ Some line → items_within all ≡ a.done ++ b.done
  bad_end_items {s} {mid} {new} {t} {text} {u} {line} all a b same fits over =
      ended_items all a same fits ∙ ap (λ (l : List Item). a.done ++ l)
      (b.left [] false ∙ ap (λ (l : List Item). b.done ++ l) (nothing_left new.reading line [] false over) ∙ append-nil b.done)

  -- the sink failed at the reply to an item that the end of the input completed
  pub cut_at_end : {s : S} {mid new : Playing S} {t text out : List ℕ} (all : List ℕ) (a : Answered m (starting s) t mid text false)
      (c : CutOff m (ending mid) [] new out) (call : Effects)
      → all ≡ t → length t ≤ MOST_BYTES → call.after ≡ appended call.before (text ++ out)
      → (w : WroteInPart m s (items_within all) call new.state) × (w.before ≡ a.done ++ c.done)
  cut_at_end {s} {mid} {new} {t} {text} {out} all a c call same fits put =
      let after = c.left [] false in (
        record {
          before = a.done ++ c.done;
          item = c.item;
          after = after.0;
          parts = ended_items all a same fits ∙ ap (λ (l : List Item). a.done ++ l) after.1 ∙ sym (append_assoc a.done c.done (c.item ∷ after.0));
          replies = a.replies ++ c.replies;
          mid = c.mid;
          run = run_joined (m.begins (m.plan s)) m.turns None a.done c.done a.replies c.replies (run_of mid) c.mid a.run
              (subst (λ (k : P). PlayRun (m.begins k) m.turns (run_of mid) c.done c.replies c.mid) a.plan c.run);
          front = c.front;
          end = run_of new;
          part = subst (λ (k : P). PlayPart (m.begins k) m.turns_in_part c.mid c.item c.front (run_of new)) a.plan c.part;
          written = put ∙ ap (appended call.before)
              (ap₂ (λ (x y : List ℕ). x ++ y) a.text_is c.out_is ∙ sym (append_assoc (text_of [] a.replies) (text_of [] c.replies) c.front)
              ∙ ap (λ (l : List ℕ). l ++ c.front) (sym (text_joined [] a.replies c.replies)));
          stands = stands new.reading.stage s new.state (λ at. let last = c.untouched at in last.1 ∙ (a.untouched last.0).1);
        },
        refl,
      )

  -- ---- an allocation failed

  -- if an allocation failed at the `heap` line, nothing was written at all
  pub silent_before : {s : S} {mid new : Playing S} {t text : List ℕ} {w0 w w' : Option (List ℕ)} → Answered m (starting s) t mid text false
      → LackedMemory m (progress mid w) (progress new w')
      → w ≡ appended w0 text → w' ≡ w0
  silent_before {s} {mid} {new} {t} {text} {w0} {w} {w'} a went put =
      went.wrote ∙ put ∙ ap (appended w0) (a.silent refl went.stage) ∙ sym (appended_none w0)

  pub wants_memory : {s : S} {mid new : Playing S} {t text : List ℕ} {w : Option (List ℕ)} (call : Effects) → Answered m (starting s) t mid text false
      → LackedMemory m (progress mid w) (progress new call.after) → w ≡ appended call.before text → RanOutOfMemory m s call new.state
  wants_memory {s} {mid} {new} {t} {text} {w} call a went put = record {
    lacks = subst (λ (z : S). m.lacks z new.state) (a.untouched went.stage).1 went.lacks;
    unwritten = silent_before a went put;
  }

  pub silent_at_end : {s : S} {mid new : Playing S} {t text : List ℕ} {w0 w w' : Option (List ℕ)} → Answered m (starting s) t mid text false
      → LackedMemory m (progress (ending mid) w) (progress new w')
      → w ≡ appended w0 text → w' ≡ w0
  silent_at_end {s} {mid} {new} {t} {text} {w0} {w} {w'} a went put =
      went.wrote ∙ put ∙ ap (appended w0) (a.silent refl went.stage) ∙ sym (appended_none w0)

  pub wants_at_end : {s : S} {mid new : Playing S} {t text : List ℕ} {w : Option (List ℕ)} (call : Effects) → Answered m (starting s) t mid text false
      → LackedMemory m (progress (ending mid) w) (progress new call.after) → w ≡ appended call.before text → RanOutOfMemory m s call new.state
  wants_at_end {s} {mid} {new} {t} {text} {w} call a went put = record {
    lacks = subst (λ (z : S). m.lacks z new.state) (a.untouched went.stage).1 went.lacks;
    unwritten = silent_at_end a went put;
  }
