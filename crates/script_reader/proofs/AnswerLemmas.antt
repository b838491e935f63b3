-- For `read_next`, which returns a script's next item, and the functions that it calls: what follows if the first line not yet read is passed over, has an item
-- or is bad, and when the reader must return `NeedMore` or `End`.
use Rattle.std.proofs.Common.{◌≡◌, ◌∙◌, ◌<◌, ◌≤◌, ◌+◌, ℕ, Bool, true, false, List, [], ◌∷◌, Option, Some, None, length, take, drop, refl, sym, ap, arith}
use Rattle.std.proofs.Common.{length-append, length-drop, subst, append-nil, append_assoc, ◌++◌, ◌⊎◌, inl, inr, cond, suc, take-append-drop}
use Rattle.std.proofs.lemmas.Bool.{false≢true, ltb-false}
use Rattle.std.proofs.lemmas.List.{drop_all}
use Rattle.cf_base.specs.Settings.{profile_of}
use Rattle.script_reader.specs.Answered.{IsInRange, IsNextLine, item_answered, line_passed, saying_if, is_blank_or_comment, stage_said}
use Rattle.script_reader.specs.Items.{Item, LineMeaning, asks, bad, breaks, gives_or_breaks, is_bound, item, item_or_wrong, line_says, nothing}
use Rattle.script_reader.specs.Items.{stage_after, stage_after_command, stage_opened, starts, verdict, wrong}
use Rattle.script_reader.specs.Lines.{is_last_line, lines}
use Rattle.script_reader.specs.Reading.{Answers, AnswersBad, HasEnded, HasNoLine, IsFirstLine, NeedsMore, PassesOver, Reading, Reads, StopsAt, holds_line_feed}
use Rattle.script_reader.specs.Reading.{items_left}
use Rattle.script_reader.specs.declared.next.Next.{Next}
use Rattle.script_reader.specs.declared.next.Next.TheVariants.{Start, Command, NeedMore, Bad, End}
use Rattle.script_reader.specs.declared.stage.Stage.{Stage}
use Rattle.script_reader.specs.declared.stage.Stage.TheVariants.{Opening, Bounding, Running}
use Rattle.script_reader.proofs.ItemLemmas.{after_line, first_verdict, line_in_place, line_out_of_place, line_passes, lines_alone, lines_closed, no_items}

-- ---- passing no line, and passing lines before the reader returns a result

pub passes_none : (a : Reading) → a.stopped ≡ None → PassesOver a a
passes_none a going = record {
  reads = record { going = going; front = []; kept = refl; counted = refl; same_end = refl; same_fed = refl; left = λ more ended. refl };
  still = going;
  same_stage = refl;
}

reads_then : (a b c : Reading) (first : List Item) → Reads a [] b → Reads b first c → Reads a first c
reads_then a b c first p q = record {
  going = p.going;
  front = p.front ++ q.front;
  kept = p.kept ∙ ap (λ (l : List ℕ). p.front ++ l) q.kept ∙ sym (append_assoc p.front q.front c.kept);
  counted = q.counted ∙ p.counted;
  same_end = q.same_end ∙ p.same_end;
  same_fed = q.same_fed ∙ p.same_fed;
  left = λ more ended. p.left more ended ∙ q.left more ended;
}

pub kept_within : (a b : Reading) (first : List Item) → Reads a first b → length b.kept ≤ length a.kept
kept_within a b first r = omega (arith, ap length r.kept, length-append r.front b.kept)

pub passes_then : (a b c : Reading) → PassesOver a b → PassesOver b c → PassesOver a c
passes_then a b c p q = record { reads = reads_then a b c [] p.reads q.reads; still = q.still; same_stage = q.same_stage ∙ p.same_stage }

pub answers_then : (a b c : Reading) (n : Next) → PassesOver a b → Answers b n c → Answers a n c
answers_then a b c (Start settings) p answer = record {
  reads = reads_then a b c _ p.reads answer.reads;
  still = answer.still;
  shorter = omega (arith, answer.shorter, kept_within a b [] p.reads);
  opening = sym p.same_stage ∙ answer.opening;
  bounding = answer.bounding;
}
answers_then a b c (Command command) p answer = record {
  reads = reads_then a b c _ p.reads answer.reads;
  still = answer.still;
  shorter = omega (arith, answer.shorter, kept_within a b [] p.reads);
  formed = answer.formed;
  leads = ap (λ stage. stage_after_command stage (is_bound command)) (sym p.same_stage) ∙ answer.leads;
}
answers_then a b c NeedMore p answer = record {
  passes = passes_then a b c p answer.passes;
  open_end = sym p.reads.same_end ∙ answer.open_end;
  none_left = p.reads.left [] false ∙ answer.none_left;
  few = answer.few;
  no_feed = answer.no_feed;
}
answers_then a b c (Bad line) p answer =
    let stops : StopsAt b line c = subst (λ (o : Option ℕ). AnswersBad b o line c) p.still answer in
    let all : StopsAt a line c = record {
      reads = reads_then a b c _ p.reads stops.reads;
      stopped = stops.stopped;
      number = stops.number;
      same_stage = stops.same_stage ∙ p.same_stage;
    } in
    subst (λ (o : Option ℕ). AnswersBad a o line c) (sym p.reads.going) all
answers_then a b c End p answer = record {
  passes = passes_then a b c p answer.passes;
  shown = sym p.reads.same_end ∙ answer.shown;
  none_left = p.reads.left [] true ∙ answer.none_left;
  empty = answer.empty;
}

-- ---- the first line is read

alone : (k : List ℕ) → 1 ≤ length k → cond (is_last_line true k) (k ∷ []) [] ≡ k ∷ []
alone [] some = absurd (omega arith)
alone (x ∷ r) some = refl

first_counted : (kept : List ℕ) (ended : Bool) (len at : ℕ) → IsFirstLine kept ended len at
    → length (lines kept true) ≡ suc (length (lines (drop at kept) true))
first_counted kept ended len at first = go first.cut
  where
    go : ((kept ≡ take len kept ++ (10 ∷ drop at kept)) × (holds_line_feed (take len kept) ≡ false))
        ⊎ ((len ≡ length kept) × (at ≡ length kept) × (holds_line_feed kept ≡ false) × (is_last_line ended kept ≡ true))
        → length (lines kept true) ≡ suc (length (lines (drop at kept) true))
    go (inl h) = ap (λ (k : List ℕ). length (lines k true)) h.0 ∙ ap length (lines_closed (take len kept) (drop at kept) true h.1)
    go (inr h) =
        let one : lines kept true ≡ kept ∷ [] = lines_alone kept true h.2 ∙ alone kept (omega (arith, first.some)) in
        rw (drop_all at kept (omega arith)) (ap length one)

-- the reader reads the first line that `old` keeps, of `len` bytes: the line leads to the stage `next`, or is bad (`stopped`)
module _ (old : Reading) (len at : ℕ) (going : old.stopped ≡ None) (first : IsFirstLine old.kept old.ended len at) where
  one_line : (next : Stage) (stopped : Option ℕ) (items : List Item)
      → ((more : List ℕ) (e : Bool) → items_left old more e ≡ items ++ items_left (record (after_line old at next) { stopped = stopped }) more e)
      → Reads old items (record (after_line old at next) { stopped = stopped })
  one_line next stopped items left = record {
    going = going;
    front = take at old.kept;
    kept = sym (take-append-drop at old.kept);
    counted = let e = first_counted old.kept old.ended len at first in omega arith;
    same_end = refl;
    same_fed = refl;
    left = left;
  }

  fewer : length (drop at old.kept) < length old.kept
  fewer = omega (arith, length-drop at old.kept, first.some, first.within)

-- ---- the result of a line

-- a `heap` line is allowed only as the first command, and leads to the stage `Bounding`
opens_first : (old new : Stage) → Some new ≡ stage_opened old → (old ≡ Opening) × (new ≡ Bounding)
opens_first Opening new leads = (refl, cc)
opens_first Bounding new leads = absurd cc
opens_first Running new leads = absurd cc

-- a first line that is blank or a comment is passed
pub passes_line : (old : Reading) (len at : ℕ) → old.stopped ≡ None → IsFirstLine old.kept old.ended len at
    → is_blank_or_comment (line_says (take len old.kept)) ≡ true → PassesOver old (line_passed old at)
passes_line old len at going first silent = record {
  reads = one_line old len at going first old.stage old.stopped [] (line_is_passed (line_says (take len old.kept)) refl silent);
  still = going;
  same_stage = refl;
}
  where
    line_is_passed : (s : LineMeaning) → line_says (take len old.kept) ≡ s → is_blank_or_comment s ≡ true
        → (more : List ℕ) (e : Bool) → items_left old more e ≡ items_left (after_line old at old.stage) more e
    line_is_passed nothing is silent = line_passes old len at going first (ap (verdict old.stage) is)
    line_is_passed wrong is silent = absurd cc
    line_is_passed (item i) is silent = absurd cc

-- the next line, which the code reads with the result n if `formed` is true, and finds bad if it is false
module _ (old : Reading) (len at : ℕ) (formed : Bool) (n : Next) (going : old.stopped ≡ None) (line : IsNextLine old len at)
    (says : saying_if formed n ≡ line_says (take len old.kept)) where
  -- if the line is allowed at its stage, the reader returns the line's item
  pub step_in_place : (stage : Stage) → (formed ≡ true → IsInRange n) → Some stage ≡ stage_said old.stage (saying_if formed n)
      → Answers old n (after_line old at stage)
  step_in_place stage fits place = go formed fits (sym says) place
    where
      one_item : (i : Item) → line_says (take len old.kept) ≡ item i → Some stage ≡ stage_after old.stage i → Reads old (i ∷ []) (after_line old at stage)
      one_item i is place = one_line old len at going line.first stage old.stopped (i ∷ [])
          (line_in_place old len at going line.first i stage (ap (verdict old.stage) is ∙ ap (gives_or_breaks i) (sym place)))

      answered : (m : Next) → IsInRange m → line_says (take len old.kept) ≡ item_or_wrong (item_answered m)
          → Some stage ≡ stage_said old.stage (item_or_wrong (item_answered m)) → Answers old m (after_line old at stage)
      answered (Start settings) fits is place = let at_stage = opens_first old.stage stage place in record {
        reads = one_item (starts (profile_of settings)) is place;
        still = going;
        shorter = fewer old len at going line.first;
        opening = at_stage.0;
        bounding = at_stage.1;
      }
      answered (Command command) fits is place = record {
        reads = one_item (asks command) is place;
        still = going;
        shorter = fewer old len at going line.first;
        formed = fits;
        leads = sym place;
      }
      answered NeedMore fits is place = absurd cc
      answered (Bad line) fits is place = absurd cc
      answered End fits is place = absurd cc

      go : (b : Bool) → (b ≡ true → IsInRange n) → line_says (take len old.kept) ≡ saying_if b n
          → Some stage ≡ stage_said old.stage (saying_if b n) → Answers old n (after_line old at stage)
      go false fits is place = absurd cc
      go true fits is place = answered n (fits refl) is place

  -- if the line isn't allowed at its stage, the reader returns `Bad`
  pub step_out_of_place : None ≡ stage_said old.stage (saying_if formed n)
      → AnswersBad old old.stopped (old.passed + 1) (record (line_passed old at) { stopped = Some (old.passed + 1) })
  step_out_of_place place =
      let number = old.passed + 1 in
      let new : Reading = record (line_passed old at) { stopped = Some number } in
      let broken = go (saying_if formed n) (sym says) place in
      let stops : StopsAt old number new = record {
        reads = one_line old len at going line.first old.stage (Some number) (bad number ∷ []) (line_out_of_place old len at going line.first broken);
        stopped = refl;
        number = refl;
        same_stage = refl;
      } in
      subst (λ (o : Option ℕ). AnswersBad old o number new) (sym going) stops
    where
      go : (s : LineMeaning) → line_says (take len old.kept) ≡ s → None ≡ stage_said old.stage s → first_verdict old len ≡ breaks
      go nothing is place = absurd cc
      go wrong is place = ap (verdict old.stage) is
      go (item i) is place = ap (verdict old.stage) is ∙ ap (gives_or_breaks i) (sym place)

-- ---- the kept bytes hold no line

few_kept : (kept : List ℕ) → is_last_line false kept ≡ false → length kept ≤ 8999
few_kept [] none = omega arith
few_kept (x ∷ r) none = ltb-false 8999 (length (x ∷ r)) none

-- if the kept bytes hold no line, and the end was not announced, the reader returns `NeedMore`
pub step_waits : (old : Reading) (kept : List ℕ) → old.stopped ≡ None → kept ≡ old.kept → HasNoLine kept old.ended → old.ended ≡ false → NeedsMore old old
step_waits old kept going same none open_end =
    let none2 = subst (λ (e : Bool). HasNoLine old.kept e) open_end (subst (λ (k : List ℕ). HasNoLine k old.ended) same none) in
    record {
      passes = passes_none old going;
      open_end = open_end;
      none_left = rw (going, open_end, append-nil) (no_items old.kept false none2 old.passed old.stage);
      few = few_kept old.kept none2.1;
      no_feed = none2.0;
    }

empty_kept : (kept : List ℕ) → is_last_line true kept ≡ false → kept ≡ []
empty_kept [] none = refl
empty_kept (x ∷ r) none = absurd (false≢true (sym none))

-- if the kept bytes hold no line, and the end was announced, the reader returns `End`
pub step_ends : (old : Reading) (kept : List ℕ) → old.stopped ≡ None → kept ≡ old.kept → HasNoLine kept old.ended → old.ended ≡ true → HasEnded old old
step_ends old kept going same none shown =
    let none2 = subst (λ (e : Bool). HasNoLine old.kept e) shown (subst (λ (k : List ℕ). HasNoLine k old.ended) same none) in
    record {
      passes = passes_none old going;
      shown = shown;
      none_left = rw (going, shown) (no_items old.kept true none2 old.passed old.stage);
      empty = empty_kept old.kept none2.1;
    }
