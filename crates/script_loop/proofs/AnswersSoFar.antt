-- For `answer_pending_items` and `answer_chunk`, the inner loops of the script loop, and for its turns: the items answered so far, all whole (`Answered`) or
-- the last with a cut reply (`CutOff`), continued by one more item or by more bytes; and that the next item may be answered.
use Rattle.std.proofs.Common.{◌≡◌, ◌++◌, ◌∙◌, ◌+◌, Bool, true, false, List, [], ◌∷◌, ℕ, Option, Some, None, refl, ap, ap₂, sym, subst, append_assoc, append-nil, take, drop, take-append-drop, true≢false}
use Rattle.std.proofs.Math.Seq.{take-add}
use Rattle.run_model.specs.Terms.{appended, asks, bad, bad_line, Command, Item, led, profile_of, Reply, said, starts, Status, text_of}
use Rattle.cf_base.specs.declared.settings.Settings.{Settings}
use Rattle.script_reader.proofs.CallerLemmas.{bad_now, fed_left}
use Rattle.script_reader.specs.Items.{is_bound, stage_after_command}
use Rattle.script_reader.specs.Reading.{Answers, PassesOver, Reading, fed_with, items_left}
use Rattle.script_reader.specs.declared.next.Next.TheVariants as next
use Rattle.script_reader.specs.declared.stage.Stage.{Stage}
use Rattle.script_reader.specs.declared.stage.Stage.TheVariants.{Opening, Bounding}
use Rattle.run_model.proofs.CallerLemmas.{one_run, run_joined, text_joined}
use Rattle.run_model.specs.Plays.{PlayRun, PlayPart}
use Rattle.script_loop.specs.AnswersSoFar.{Answered, CutOff, IsWaiting, PrintsBadLine, StopsAt}
use Rattle.script_loop.specs.Progress.{IsReadyAt, Playing, Progress, progress, run_in, run_of}
use Rattle.script_loop.specs.ScriptOutcome.{has_bad}
use Rattle.script_loop.specs.Semantics.{IsOpened, IsOpenedInPart, PartBy, RunBy, Semantics, StepBy}
use Rattle.cf_base.specs.declared.status.Status.TheVariants.{Done, Words, BadScript, ReadFault, WriteFault, OutOfMemory, TooLong, BadImage}
use Rattle.cf_io.proofs.CallerLemmas.{appended_after, appended_none}
use Rattle.script_loop.proofs.Stages.{going_after, never_opening, run_before, run_after}

pub bad_then : (xs ys : List Item) → has_bad xs ≡ false → has_bad (xs ++ ys) ≡ has_bad ys
bad_then [] ys h = refl
bad_then (bad n ∷ xs) ys h = cc
bad_then (asks c ∷ xs) ys h = bad_then xs ys h
bad_then (starts p ∷ xs) ys h = bad_then xs ys h

pub nothing_left : (r : Reading) (line : ℕ) (more : List ℕ) (ended : Bool) → r.stopped ≡ Some line → items_left r more ended ≡ []
nothing_left r line more ended over = rw over refl

-- ---- what follows from a result of the reader

bounding_opening : (b : Stage) → b ≡ Bounding → b ≡ Opening → ⊥
bounding_opening b leads at = absurd (let e : Bounding ≡ Opening = sym leads ∙ at in cc)

-- the reader's next item is a bad line, and the reader stops at it
pub record IsBadAt (r : Reading) (line : ℕ) (r' : Reading) : Type 0 where
  pub first : (more : List ℕ) (ended : Bool) → items_left r more ended ≡ bad line ∷ []
  pub stopped : r'.stopped ≡ Some line
  pub same_stage : r'.stage ≡ r.stage

pub bad_at : (r r' : Reading) (line : ℕ) → r.stopped ≡ None → Answers r (next.Bad line) r' → IsBadAt r line r'
bad_at r r' line going h =
    let stops = bad_now r line r' going h in
    record {
      first = λ more ended. stops.reads.left more ended ∙ ap (λ (l : List Item). bad line ∷ l) (nothing_left r' line more ended stops.stopped);
      stopped = stops.stopped;
      same_stage = stops.same_stage;
    }

module _ {S P : Type 0} (m : Semantics S P) where
  -- ---- items that were answered one after another

  pub answered_none : (p : Playing S) → Answered m p [] p [] false
  answered_none p = record {
    done = [];
    replies = [];
    run = (refl, refl);
    text_is = refl;
    stops = refl;
    left = λ more ended. refl;
    plan = refl;
    untouched = λ at. (at, refl);
    silent = λ is at. refl;
  }

  -- a run by the plan of the state `other` (the part of a state that no item changes) is a run by the plan of `from`, if the plans are equal
  replanned : (from other : S) (old new : Option S) (done : List Item) (replies : List Reply) → m.plan other ≡ m.plan from
      → RunBy m other old done replies new → RunBy m from old done replies new
  replanned from other old new done replies same run = subst (λ (k : P). PlayRun (m.begins k) m.turns old done replies new) same run

  pub answered_then : {old mid new : Playing S} {p q t u : List ℕ} {stop : Bool} → Answered m old p mid t false → Answered m mid q new u stop
      → Answered m old (p ++ q) new (t ++ u) stop
  answered_then {old} {mid} {new} {p} {q} {t} {u} {stop} a b = record {
    done = a.done ++ b.done;
    replies = a.replies ++ b.replies;
    run = run_joined (m.begins (m.plan old.state)) m.turns (run_of old) a.done b.done a.replies b.replies (run_of mid) (run_of new) a.run
        (replanned old.state mid.state (run_of mid) (run_of new) b.done b.replies a.plan b.run);
    text_is = ap₂ (λ (x y : List ℕ). x ++ y) a.text_is b.text_is ∙ sym (text_joined [] a.replies b.replies);
    stops = bad_then a.done b.done a.stops ∙ b.stops;
    left = λ more ended. ap (λ (l : List ℕ). items_left old.reading l ended) (append_assoc p q more) ∙ a.left (q ++ more) ended
        ∙ ap (λ (l : List Item). a.done ++ l) (b.left more ended) ∙ sym (append_assoc a.done b.done (items_left new.reading more ended));
    plan = b.plan ∙ a.plan;
    untouched = λ at. let m = b.untouched at in let o = a.untouched m.0 in (o.0, m.1 ∙ o.1);
    silent = λ is at. let m = b.untouched at in ap₂ (λ (x y : List ℕ). x ++ y) (a.silent refl m.0) (b.silent is at);
  }

  pub cut_then : {old mid new : Playing S} {p q t out : List ℕ} → Answered m old p mid t false → CutOff m mid q new out → CutOff m old (p ++ q) new (t ++ out)
  cut_then {old} {mid} {new} {p} {q} {t} {out} a b = record {
    done = a.done ++ b.done;
    replies = a.replies ++ b.replies;
    mid = b.mid;
    item = b.item;
    front = b.front;
    run = run_joined (m.begins (m.plan old.state)) m.turns (run_of old) a.done b.done a.replies b.replies (run_of mid) b.mid a.run
        (replanned old.state mid.state (run_of mid) b.mid b.done b.replies a.plan b.run);
    part = subst (λ (k : P). PlayPart (m.begins k) m.turns_in_part b.mid b.item b.front (run_of new)) a.plan b.part;
    out_is = ap₂ (λ (x y : List ℕ). x ++ y) a.text_is b.out_is ∙ sym (append_assoc (text_of [] a.replies) (text_of [] b.replies) b.front)
        ∙ ap (λ (l : List ℕ). l ++ b.front) (sym (text_joined [] a.replies b.replies));
    plan = b.plan ∙ a.plan;
    left = λ more ended. let after = b.left more ended in (
      after.0,
      ap (λ (l : List ℕ). items_left old.reading l ended) (append_assoc p q more) ∙ a.left (q ++ more) ended
          ∙ ap (λ (l : List Item). a.done ++ l) after.1 ∙ sym (append_assoc a.done b.done (b.item ∷ after.0)),
    );
    untouched = λ at. let m = b.untouched at in let o = a.untouched m.0 in (o.0, m.1 ∙ o.1);
  }

  -- the items that `cut_then a b` has as answered whole are those of a and then those of b
  pub both_done : {old mid new : Playing S} {p q t out : List ℕ} (a : Answered m old p mid t false) (b : CutOff m mid q new out)
      → (cut_then a b).done ≡ a.done ++ b.done
  unfolding cut_then
  both_done a b = refl

  -- if items were answered after the bytes p were fed, and then more items without further bytes, all were answered after p
  pub answered_next : {old mid new : Playing S} {p t u : List ℕ} {stop : Bool} → Answered m old p mid t false → Answered m mid [] new u stop
      → Answered m old p new (t ++ u) stop
  answered_next {old} {mid} {new} {p} {t} {u} {stop} a b = subst (λ (l : List ℕ). Answered m old l new (t ++ u) stop) (append-nil p) (answered_then a b)

  pub cut_next : {old mid new : Playing S} {p t out : List ℕ} → Answered m old p mid t false → CutOff m mid [] new out → CutOff m old p new (t ++ out)
  cut_next {old} {mid} {new} {p} {t} {out} a b = subst (λ (l : List ℕ). CutOff m old l new (t ++ out)) (append-nil p) (cut_then a b)

  -- ---- one result of the reader

  pub ready_open : (b : Stage) (t : S) → b ≡ Bounding → m.is_going t → IsReadyAt m b t
  ready_open b t leads going = subst (λ (a : Stage). IsReadyAt m a t) (sym leads) going

  run_opened : (b : Stage) (t : S) → b ≡ Bounding → run_in b t ≡ Some t
  run_opened b t leads = ap (λ (z : Stage). run_in z t) leads

  pub answered_open : (old new : Playing S) (settings : Settings) (w w' : Option (List ℕ)) → Answers old.reading (next.Start settings) new.reading
      → (o : IsOpened m (record { state = old.state; written = w }) (profile_of settings) (record { state = new.state; written = w' }))
      → m.plan new.state ≡ m.plan old.state → Answered m old [] new (led [] o.reply) false
  answered_open old new settings w w' answer o plan = record {
    done = starts (profile_of settings) ∷ [];
    replies = o.reply ∷ [];
    run = one_run (m.begins (m.plan old.state)) m.turns (run_of old) (run_of new) (starts (profile_of settings)) o.reply
        (new.state, o.begins, run_opened new.reading.stage new.state answer.bounding);
    text_is = sym (append-nil (led [] o.reply));
    stops = refl;
    left = answer.reads.left;
    plan = plan;
    untouched = λ at. absurd (bounding_opening _ answer.bounding at);
    silent = λ is at. absurd (bounding_opening _ answer.bounding at);
  }

  pub cut_open : (old new : Playing S) (settings : Settings) (w w' : Option (List ℕ)) → Answers old.reading (next.Start settings) new.reading
      → (o : IsOpenedInPart m (record { state = old.state; written = w }) (profile_of settings) (record { state = new.state; written = w' }))
      → m.plan new.state ≡ m.plan old.state → CutOff m old [] new o.front
  cut_open old new settings w w' answer o plan = record {
    done = [];
    replies = [];
    mid = run_of old;
    item = starts (profile_of settings);
    front = o.front;
    run = (refl, refl);
    part = (new.state, o.reply, o.lost, o.begins, o.cut, run_opened new.reading.stage new.state answer.bounding);
    out_is = refl;
    plan = plan;
    left = λ more ended. (items_left new.reading more ended, answer.reads.left more ended);
    untouched = λ at. absurd (bounding_opening _ answer.bounding at);
  }

  -- the reader returned a command
  command_step : (from : S) (c : Command) (reply : Reply) (a b : Stage) (s t : S) → stage_after_command a (is_bound c) ≡ Some b → m.turns s c reply t
      → StepBy m from (run_in a s) (asks c) reply (run_in b t)
  command_step from c reply a b s t leads turn =
      subst (λ (o : Option S). StepBy m from o (asks c) reply (run_in b t)) (sym (run_before a b (is_bound c) leads s))
      (subst (λ (o : Option S). StepBy m from (Some s) (asks c) reply o) (sym (run_after a b (is_bound c) leads t)) (t, turn, refl))

  command_part : (from : S) (c : Command) (out : List ℕ) (a b : Stage) (s t : S) → stage_after_command a (is_bound c) ≡ Some b → m.turns_in_part s c out t
      → PartBy m from (run_in a s) (asks c) out (run_in b t)
  command_part from c out a b s t leads turn =
      subst (λ (o : Option S). PartBy m from o (asks c) out (run_in b t)) (sym (run_before a b (is_bound c) leads s))
      (subst (λ (o : Option S). PartBy m from (Some s) (asks c) out o) (sym (run_after a b (is_bound c) leads t)) (t, turn, refl))

  pub answered_command : (old new : Playing S) (c : Command) (reply : Reply) → Answers old.reading (next.Command c) new.reading
      → m.turns old.state c reply new.state
      → m.plan new.state ≡ m.plan old.state → Answered m old [] new (led [] reply) false
  answered_command old new c reply answer turn plan = record {
    done = asks c ∷ [];
    replies = reply ∷ [];
    run = one_run (m.begins (m.plan old.state)) m.turns (run_of old) (run_of new) (asks c) reply
        (command_step old.state c reply _ _ old.state new.state answer.leads turn);
    text_is = sym (append-nil (led [] reply));
    stops = refl;
    left = answer.reads.left;
    plan = plan;
    untouched = λ at. absurd (never_opening _ _ _ answer.leads at);
    silent = λ is at. absurd (never_opening _ _ _ answer.leads at);
  }

  pub cut_command : (old new : Playing S) (c : Command) (out : List ℕ) → Answers old.reading (next.Command c) new.reading
      → m.turns_in_part old.state c out new.state
      → m.plan new.state ≡ m.plan old.state → CutOff m old [] new out
  cut_command old new c out answer turn plan = record {
    done = [];
    replies = [];
    mid = run_of old;
    item = asks c;
    front = out;
    run = (refl, refl);
    part = command_part old.state c out _ _ old.state new.state answer.leads turn;
    out_is = refl;
    plan = plan;
    left = λ more ended. (items_left new.reading more ended, answer.reads.left more ended);
    untouched = λ at. absurd (never_opening _ _ _ answer.leads at);
  }

  pub ready_command : (r r' : Reading) (c : Command) (t : S) → Answers r (next.Command c) r' → m.is_going t → IsReadyAt m r'.stage t
  ready_command r r' c t answer going = going_after m _ _ _ t answer.leads going

  -- the reader returned a bad line
  bad_step : (from : S) (old : Option S) (n : ℕ) → StepBy m from old (bad n) (said (bad_line n)) old
  bad_step from None n = (refl, refl)
  bad_step from (Some s) n = (refl, refl)

  bad_part : (from : S) (old : Option S) (n : ℕ) (front lost : List ℕ) → led [] (said (bad_line n)) ≡ front ++ lost → PartBy m from old (bad n) front old
  bad_part from None n front lost cut = (lost, cut, refl)
  bad_part from (Some s) n front lost cut = (lost, cut, refl)

  pub answered_bad : (r r' : Reading) (s : S) (line : ℕ) → IsBadAt r line r'
      → Answered m (record { reading = r; state = s }) [] (record { reading = r'; state = s }) (led [] (said (bad_line line))) true
  answered_bad r r' s line h = record {
    done = bad line ∷ [];
    replies = said (bad_line line) ∷ [];
    run = one_run (m.begins (m.plan s)) m.turns (run_in r.stage s) (run_in r'.stage s) (bad line) (said (bad_line line))
        (subst (λ (z : Stage). StepBy m s (run_in r.stage s) (bad line) (said (bad_line line)) (run_in z s)) (sym h.same_stage)
        (bad_step s (run_in r.stage s) line));
    text_is = sym (append-nil (led [] (said (bad_line line))));
    stops = refl;
    left = λ more ended. h.first more ended ∙ ap (λ (l : List Item). bad line ∷ l) (sym (nothing_left r' line more ended h.stopped));
    plan = refl;
    untouched = λ at. (sym h.same_stage ∙ at, refl);
    silent = λ is at. absurd (true≢false is);
  }

  pub cut_bad : (r r' : Reading) (s : S) (line : ℕ) (front lost : List ℕ) → IsBadAt r line r' → led [] (said (bad_line line)) ≡ front ++ lost
      → CutOff m (record { reading = r; state = s }) [] (record { reading = r'; state = s }) front
  cut_bad r r' s line front lost h cut = record {
    done = [];
    replies = [];
    mid = run_in r.stage s;
    item = bad line;
    front = front;
    run = (refl, refl);
    part = subst (λ (z : Stage). PartBy m s (run_in r.stage s) (bad line) front (run_in z s)) (sym h.same_stage)
        (bad_part s (run_in r.stage s) line front lost cut);
    out_is = refl;
    plan = refl;
    left = λ more ended. ([], h.first more ended);
    untouched = λ at. (sym h.same_stage ∙ at, refl);
  }

  -- the number of a bad line was written, whole or in part
  pub named : (old : Progress S) (r r' : Reading) (s : S) (w w' : Option (List ℕ)) (line : ℕ) (text : List ℕ) (status : Status)
      → Answered m old.playing [] (record { reading = r; state = s }) text false → w ≡ appended old.written text → IsBadAt r line r'
      → PrintsBadLine w line status w' → StopsAt m old [] status (progress (record { reading = r'; state = s }) w')
  named old r r' s w w' line text BadScript a wrote h names = record {
    text = text ++ led [] (said (bad_line line));
    answered = answered_then a (answered_bad r r' s line h);
    wrote = appended_after _ _ _ _ _ wrote names;
    over = (line, h.stopped);
  }
  named old r r' s w w' line text WriteFault a wrote h names = record {
    out = text ++ names.0;
    cut = cut_then a (cut_bad r r' s line names.0 names.1 h names.2);
    wrote = appended_after _ _ _ _ _ wrote names.3;
  }
  named old r r' s w w' line text Done a wrote h names = absurd names
  named old r r' s w w' line text _ a wrote h names = absurd names

  -- ---- bytes that are fed

  -- when n more bytes of the chunk were fed, the same items are answered
  pub answered_fed : {old : Playing S} {r : Reading} {s : S} {t : List ℕ} (r' : Reading) (chunk : List ℕ) (i n : ℕ)
      → Answered m old (take i chunk) (record { reading = r; state = s }) t false
      → r.ended ≡ false → r' ≡ fed_with r (take n (drop i chunk)) → Answered m old (take (i + n) chunk) (record { reading = r'; state = s }) t false
  answered_fed {old} {r} {s} {t} r' chunk i n a open_end is =
      subst (λ (z : Reading). Answered m old (take (i + n) chunk) (record { reading = z; state = s }) t false) (sym is) (record {
        done = a.done;
        replies = a.replies;
        run = a.run;
        text_is = a.text_is;
        stops = a.stops;
        left = λ more ended. ap (λ (l : List ℕ). items_left old.reading (l ++ more) ended) (take-add i n chunk)
            ∙ ap (λ (l : List ℕ). items_left old.reading l ended) (append_assoc (take i chunk) (take n (drop i chunk)) more)
            ∙ a.left (take n (drop i chunk) ++ more) ended
            ∙ ap (λ (l : List Item). a.done ++ l) (fed_left r (take n (drop i chunk)) more ended open_end);
        plan = a.plan;
        untouched = a.untouched;
        silent = a.silent;
      })

  -- after a bad line (`answered_over`), and after a cut reply (`cut_over`), the bytes of the chunk that were not fed change nothing
  pub answered_over : {old new : Playing S} {t : List ℕ} (line : ℕ) (chunk : List ℕ) (i : ℕ) → Answered m old (take i chunk) new t true
      → new.reading.stopped ≡ Some line
      → Answered m old chunk new t true
  answered_over {old} {new} {t} line chunk i a over = record {
    done = a.done;
    replies = a.replies;
    run = a.run;
    text_is = a.text_is;
    stops = a.stops;
    left = λ more ended. ap (λ (l : List ℕ). items_left old.reading (l ++ more) ended) (sym (take-append-drop i chunk))
        ∙ ap (λ (l : List ℕ). items_left old.reading l ended) (append_assoc (take i chunk) (drop i chunk) more)
        ∙ a.left (drop i chunk ++ more) ended
        ∙ ap (λ (l : List Item). a.done ++ l)
        (nothing_left new.reading line (drop i chunk ++ more) ended over ∙ sym (nothing_left new.reading line more ended over));
    plan = a.plan;
    untouched = a.untouched;
    silent = a.silent;
  }

  pub cut_over : {old new : Playing S} {out : List ℕ} (chunk : List ℕ) (i : ℕ) → CutOff m old (take i chunk) new out → CutOff m old chunk new out
  cut_over {old} {new} {out} chunk i a = record {
    done = a.done;
    replies = a.replies;
    mid = a.mid;
    item = a.item;
    front = a.front;
    run = a.run;
    part = a.part;
    out_is = a.out_is;
    plan = a.plan;
    left = λ more ended. let after = a.left (drop i chunk ++ more) ended in (
      after.0,
      ap (λ (l : List ℕ). items_left old.reading (l ++ more) ended) (sym (take-append-drop i chunk))
          ∙ ap (λ (l : List ℕ). items_left old.reading l ended) (append_assoc (take i chunk) (drop i chunk) more) ∙ after.1,
    );
    untouched = a.untouched;
  }

  -- the bytes of a chunk before byte i were answered, and the items that its next bytes completed ended the script: so did those of the whole chunk
  pub stops_over : (old : Progress S) (chunk : List ℕ) (i : ℕ) (r : Reading) (s : S) (w : Option (List ℕ)) (t : List ℕ) (status : Status) (new : Progress S)
      → Answered m old.playing (take i chunk) (record { reading = r; state = s }) t false → w ≡ appended old.written t
      → StopsAt m (progress (record { reading = r; state = s }) w) [] status new → StopsAt m old chunk status new
  stops_over old chunk i r s w t BadScript new a wrote went = record {
    text = t ++ went.text;
    answered = answered_over went.over.0 chunk i (answered_next a went.answered) went.over.1;
    wrote = appended_after _ _ _ _ _ wrote went.wrote;
    over = went.over;
  }
  stops_over old chunk i r s w t WriteFault new a wrote went = record {
    out = t ++ went.out;
    cut = cut_over chunk i (cut_next a went.cut);
    wrote = appended_after _ _ _ _ _ wrote went.wrote;
  }
  stops_over old chunk i r s w t OutOfMemory new a wrote went = record {
    stage = (a.untouched went.stage).0;
    lacks = subst (λ (z : S). m.lacks z new.playing.state) (a.untouched went.stage).1 went.lacks;
    plan = went.plan ∙ a.plan;
    wrote = went.wrote ∙ wrote ∙ ap (appended old.written) (a.silent refl went.stage) ∙ sym (appended_none old.written);
  }
  stops_over old chunk i r s w t Done new a wrote went = absurd went
  stops_over old chunk i r s w t _ new a wrote went = absurd went
