-- For the law `answers_come_exactly`: exactly when, by the bytes fed and the items returned so far, a reader's next call returns `NeedMore` (no whole item
-- left), `End` (none left, and the end announced) or `Bad` (a bad line).
use Rattle.std.proofs.Common.{◌≡◌, ◌∙◌, ◌++◌, ℕ, true, false, List, [], ◌∷◌, Option, Some, None, refl, sym, ap, subst, append-nil}
use Rattle.std.specs.Prelude.{◌↔◌, is_some}
use Rattle.std.proofs.lemmas.Bool.{true≢false}
use Rattle.std.proofs.lemmas.List.{append_cancel_left}
use Rattle.script_reader.specs.ReaderCalls.{AllGiven, AreCalls, ReaderCall, answers, bytes_fed, feeds, finishes, is_finished, is_stopped, items_given}
use Rattle.script_reader.specs.Items.{Item, bad, items}
use Rattle.script_reader.specs.Reading.{Answers, Reading, fresh, items_left}
use Rattle.script_reader.specs.declared.next.Next.{Next}
use Rattle.script_reader.specs.declared.next.Next.TheVariants.{Start, Command, NeedMore, Bad, End}
use Rattle.script_reader.proofs.CallerLemmas.{answer_same_end, bad_now, given_then_left, over_then}

shown_stays : (calls : List ReaderCall) (old now : Reading) → old.ended ≡ true → AreCalls old calls now → now.ended ≡ true
shown_stays [] old now shown are = ap (λ (r : Reading). r.ended) are ∙ shown
shown_stays (feeds bytes ∷ rest) old now shown (mid, (open_end, is), are) = shown_stays rest mid now (ap (λ (r : Reading). r.ended) is ∙ shown) are
shown_stays (finishes ∷ rest) old now shown (mid, is, are) = shown_stays rest mid now (ap (λ (r : Reading). r.ended) is) are
shown_stays (answers next ∷ rest) old now shown (mid, is, are) = shown_stays rest mid now (answer_same_end old next mid is ∙ shown) are

-- the field `ended` of a reader is true if and only if a call announced the end
ended_is : (calls : List ReaderCall) (old now : Reading) → old.ended ≡ false → AreCalls old calls now → now.ended ≡ is_finished calls
ended_is [] old now open_end are = ap (λ (r : Reading). r.ended) are ∙ open_end
ended_is (feeds bytes ∷ rest) old now open_end (mid, (_, is), are) = ended_is rest mid now (ap (λ (r : Reading). r.ended) is ∙ open_end) are
ended_is (finishes ∷ rest) old now open_end (mid, is, are) = shown_stays rest mid now (ap (λ (r : Reading). r.ended) is) are
ended_is (answers next ∷ rest) old now open_end (mid, is, are) = ended_is rest mid now (answer_same_end old next mid is ∙ open_end) are

-- the field `stopped` of a reader has a line if and only if a call returned a bad line
stopped_is : (calls : List ReaderCall) (old now : Reading) → old.stopped ≡ None → AreCalls old calls now → is_some now.stopped ≡ is_stopped calls
stopped_is [] old now going are = ap (λ (r : Reading). is_some r.stopped) are ∙ ap is_some going
stopped_is (feeds bytes ∷ rest) old now going (mid, (_, is), are) = stopped_is rest mid now (ap (λ (r : Reading). r.stopped) is ∙ going) are
stopped_is (finishes ∷ rest) old now going (mid, is, are) = stopped_is rest mid now (ap (λ (r : Reading). r.stopped) is ∙ going) are
stopped_is (answers (Start settings) ∷ rest) old now going (mid, answer, are) = stopped_is rest mid now answer.still are
stopped_is (answers (Command command) ∷ rest) old now going (mid, answer, are) = stopped_is rest mid now answer.still are
stopped_is (answers NeedMore ∷ rest) old now going (mid, answer, are) = stopped_is rest mid now answer.passes.still are
stopped_is (answers (Bad line) ∷ rest) old now going (mid, answer, are) =
    ap is_some (over_then rest mid now line (bad_now old line mid going answer).stopped are)
stopped_is (answers End ∷ rest) old now going (mid, answer, are) = stopped_is rest mid now answer.passes.still are

none_is : (o : Option ℕ) → is_some o ≡ false → o ≡ None
none_is None is = refl
none_is (Some line) is = absurd (true≢false is)

module _ (calls : List ReaderCall) (now new : Reading) (are : AreCalls fresh calls now) where
  all_given : now.stopped ≡ None → items_left now [] false ≡ [] → AllGiven calls
  all_given going none = record {
    given = given_then_left calls fresh now refl are ∙ ap (λ (l : List Item). items_given calls ++ l) none ∙ append-nil (items_given calls);
    none_bad = sym (stopped_is calls fresh now refl are) ∙ ap is_some going;
  }

  going_on : is_stopped calls ≡ false → now.stopped ≡ None
  going_on none = none_is now.stopped (stopped_is calls fresh now refl are ∙ none)

  -- if the items of the bytes fed are those returned and then `rest`, the items left are `rest`
  left_is : (rest : List Item) → items (bytes_fed calls) (is_finished calls) ≡ items_given calls ++ rest → items_left now [] false ≡ rest
  left_is rest is = append_cancel_left (items_given calls) (items_left now [] false) rest (sym (given_then_left calls fresh now refl are) ∙ is)

  none_left : AllGiven calls → items_left now [] false ≡ []
  none_left all = left_is [] (all.given ∙ sym (append-nil (items_given calls)))

  by_answer : (next : Next) → Answers now next new → now.stopped ≡ None → items_left now [] false ≡ []
      → (now.ended ≡ false → next ≡ NeedMore) × (now.ended ≡ true → next ≡ End)
  by_answer (Start settings) answer going none = absurd (let e = sym (answer.reads.left [] false) ∙ none in cc)
  by_answer (Command command) answer going none = absurd (let e = sym (answer.reads.left [] false) ∙ none in cc)
  by_answer (Bad line) answer going none = absurd (let e = sym ((bad_now now line new going answer).reads.left [] false) ∙ none in cc)
  by_answer NeedMore answer going none = (λ open_end. refl, λ shown. absurd (true≢false (sym shown ∙ answer.open_end)))
  by_answer End answer going none = (λ open_end. absurd (true≢false (sym answer.shown ∙ open_end)), λ shown. refl)

  pub need_more_exactly : (next : Next) → Answers now next new → (next ≡ NeedMore ↔ AllGiven calls × (is_finished calls ≡ false))
  need_more_exactly next answer = (forth, back)
    where
      forth : next ≡ NeedMore → AllGiven calls × (is_finished calls ≡ false)
      forth is =
          let needs = subst (λ (n : Next). Answers now n new) is answer in
          (all_given needs.passes.reads.going needs.none_left, sym (ended_is calls fresh now refl are) ∙ needs.open_end)

      back : AllGiven calls × (is_finished calls ≡ false) → next ≡ NeedMore
      back (all, open_end) = (by_answer next answer (going_on all.none_bad) (none_left all)).0 (ended_is calls fresh now refl are ∙ open_end)

  pub end_exactly : (next : Next) → Answers now next new → (next ≡ End ↔ AllGiven calls × (is_finished calls ≡ true))
  end_exactly next answer = (forth, back)
    where
      forth : next ≡ End → AllGiven calls × (is_finished calls ≡ true)
      forth is =
          let ends = subst (λ (n : Next). Answers now n new) is answer in
          let same : items_left now [] false ≡ items_left now [] true = rw ends.shown refl in
          (all_given ends.passes.reads.going (same ∙ ends.none_left), sym (ended_is calls fresh now refl are) ∙ ends.shown)

      back : AllGiven calls × (is_finished calls ≡ true) → next ≡ End
      back (all, shown) = (by_answer next answer (going_on all.none_bad) (none_left all)).1 (ended_is calls fresh now refl are ∙ shown)

  pub bad_exactly : (next : Next) (line : ℕ) → Answers now next new → is_stopped calls ≡ false
      → (next ≡ Bad line ↔ items (bytes_fed calls) (is_finished calls) ≡ items_given calls ++ bad line ∷ [])
  bad_exactly next line answer none = (forth, λ is. back next answer (left_is (bad line ∷ []) is))
    where
      forth : next ≡ Bad line → items (bytes_fed calls) (is_finished calls) ≡ items_given calls ++ bad line ∷ []
      forth is =
          let stops = bad_now now line new (going_on none) (subst (λ (n : Next). Answers now n new) is answer) in
          let one : items_left now [] false ≡ bad line ∷ [] = stops.reads.left [] false ∙ rw stops.stopped refl in
          given_then_left calls fresh now refl are ∙ ap (λ (l : List Item). items_given calls ++ l) one

      back : (n : Next) → Answers now n new → items_left now [] false ≡ bad line ∷ [] → n ≡ Bad line
      back (Start settings) answer is = absurd (let e = sym (answer.reads.left [] false) ∙ is in cc)
      back (Command command) answer is = absurd (let e = sym (answer.reads.left [] false) ∙ is in cc)
      back (Bad other) answer is = let e = sym ((bad_now now other new (going_on none) answer).reads.left [] false) ∙ is in cc
      back NeedMore answer is = absurd (let e = sym answer.none_left ∙ is in cc)
      back End answer is = absurd (
          let same : items_left now [] false ≡ items_left now [] true = rw answer.shown refl in
          let e = sym answer.none_left ∙ sym same ∙ is in cc)
