-- Many managers' run over a script splits into a run of each, whole or up to a cut reply, and leaves each manager in the last state of its run, open if the run
-- has begun.
use Rattle.std.proofs.Common.{◌≡◌, ◌++◌, ◌∙◌, ℕ, List, [], ◌∷◌, Option, Some, None, refl, sym, ap, subst, inl, inr, map, suc, length, arith}
use Rattle.std.specs.Prelude.{⊤, option_map}
use Rattle.run_model.proofs.CallerLemmas.{one_run, run_joined, step_rules, step_same, part_seen, run_seen, begins_going, step_going}
use Rattle.run_model.specs.Terms.{asks, bad, bad_line, Command, HeapState, Item, KeepsRules, Kind, led, Reply, RunState, said, starts, SessionState, IsGoing}
use Rattle.run_model.specs.Plays.{PlayPart, PlayRun, PlayStep}
use Rattle.run_model.specs.Runs.{BeginsOne, Run, IsCommandStep, ItemStep}
use Rattle.top_call.specs.SideBySide.{EachBegins, EachInPart, EachTurn, named_lines, SideBySide, kinds_of, runs_of, zipped, many_managers}
use Rattle.top_call.specs.OwnRuns.{JoinStates, HasNoManagers, OwnRuns, OwnRunsInPart, OwnRunsUpTo, bare_reply, interleaved_replies, interleaved_reply, EachEndsAt}
use Rattle.std.proofs.lemmas.List.{length-map}
use Rattle.script_loop.specs.ScriptOutcome.{EndsAt, Effects, Wrote, WroteInPart}
use Rattle.std.proofs.lemmas.List.Elements.{All-cons, All-nil}
use Rattle.std.specs.List.{All}

-- For the laws `each_has_its_own_run` and `a_cut_stops_between_two_managers`: a run of many managers splits, manager by manager, into one run of each, whole
-- or up to a cut reply.

-- if the run has begun, its manager is of the kind and keeps its rules
abbrev pub IsOf : Kind → Option RunState → Type 0
IsOf kind None = ⊤
IsOf kind (Some s) = (s.heap.kind ≡ kind) × KeepsRules s.heap

-- one item of a run side by side splits into a step of the first manager's run and a step of the others' run
pub record Parted (kind : Kind) (kinds : List Kind) (own : Option RunState) (olds : Option (List RunState)) (item : Item) (reply : Reply)
    (mid : Option (List RunState)) : Type 0 where
  pub first : Reply
  pub more : Reply
  pub own_mid : Option RunState
  pub mids : Option (List RunState)
  pub step : PlayStep (BeginsOne kind) IsCommandStep own item first own_mid
  pub steps : PlayStep (EachBegins kinds) EachTurn olds item more mids
  pub reply_is : reply ≡ interleaved_reply kind item first more
  pub together : JoinStates own_mid mids mid
  pub of : IsOf kind own_mid

pub step_parts : (kind : Kind) (kinds : List Kind) (own : Option RunState) (olds all : Option (List RunState)) → JoinStates own olds all → IsOf kind own
    → (item : Item) (reply : Reply) (mid : Option (List RunState)) → PlayStep (EachBegins (kind ∷ kinds)) EachTurn all item reply mid
    → Parted kind kinds own olds item reply mid
step_parts kind kinds own olds all together of (starts p) reply mid (news, (first, more, new, rest, begins, others, is, are), mid_is) =
    record {
      first = first;
      more = more;
      own_mid = Some new;
      mids = Some rest;
      step = (new, begins, refl);
      steps = (rest, others, refl);
      reply_is = is;
      together = mid_is ∙ ap Some are;
      of = (ap (λ (h : HeapState). h.kind) begins.0.heap, begins.0.rules);
    }
step_parts kind kinds None None all together of (asks c) reply mid step =
    let here : PlayStep (EachBegins (kind ∷ kinds)) EachTurn None (asks c) reply mid =
    subst (λ a. PlayStep (EachBegins (kind ∷ kinds)) EachTurn a (asks c) reply mid) together step in
    record { first = []; more = []; own_mid = None; mids = None; step = (refl, refl); steps = (refl, refl); reply_is = here.0; together = here.1; of = tt }
step_parts kind kinds None (Some olds) all together of (asks c) reply mid step = absurd together
step_parts kind kinds (Some own) None all together of (asks c) reply mid step = absurd together
step_parts kind kinds (Some own) (Some olds) all together of (asks c) reply mid step =
    let here : PlayStep (EachBegins (kind ∷ kinds)) EachTurn (Some (own ∷ olds)) (asks c) reply mid =
    subst (λ a. PlayStep (EachBegins (kind ∷ kinds)) EachTurn a (asks c) reply mid) together step in
    let turns = here.1 in
    record {
      first = turns.0;
      more = turns.1;
      own_mid = Some turns.2;
      mids = Some turns.3;
      step = (turns.2, turns.4, refl);
      steps = (turns.3, turns.5, refl);
      reply_is = turns.6 ∙ ap (λ k. named_lines k turns.0 ++ turns.1) of.0;
      together = here.2 ∙ ap Some turns.7;
      of = ((step_same own turns.2 c turns.0 of.1 turns.4.step).kind ∙ of.0, step_rules own turns.2 c turns.0 of.1 turns.4.step);
    }
step_parts kind kinds own olds all together of (bad n) reply mid (is, mid_is) =
    record {
      first = said (bad_line n);
      more = said (bad_line n);
      own_mid = own;
      mids = olds;
      step = (refl, refl);
      steps = (refl, refl);
      reply_is = is;
      together = subst (λ a. JoinStates own olds a) (sym mid_is) together;
      of = of;
    }

-- a run side by side splits into the first manager's own run and a run of the others
pub record Apart (kind : Kind) (kinds : List Kind) (own : Option RunState) (olds : Option (List RunState)) (items : List Item) (replies : List Reply)
    (end : Option (List RunState)) : Type 0 where
  pub owns : List Reply
  pub others : List Reply
  pub own_end : Option RunState
  pub ends : Option (List RunState)
  pub run : Run kind own items owns own_end
  pub runs : PlayRun (EachBegins kinds) EachTurn olds items others ends
  pub replies_are : replies ≡ interleaved_replies kind items owns others
  pub together : JoinStates own_end ends end
  pub of : IsOf kind own_end

pub run_parts : (kind : Kind) (kinds : List Kind) (own : Option RunState) (olds all : Option (List RunState)) → JoinStates own olds all → IsOf kind own
    → (items : List Item) (replies : List Reply) (end : Option (List RunState)) → PlayRun (EachBegins (kind ∷ kinds)) EachTurn all items replies end
    → Apart kind kinds own olds items replies end
run_parts kind kinds own olds all together of [] replies end (none, same) =
    record {
      owns = [];
      others = [];
      own_end = own;
      ends = olds;
      run = (refl, refl);
      runs = (refl, refl);
      replies_are = none;
      together =
          subst (λ a. JoinStates own olds a) (sym same) together;
      of = of;
    }
run_parts kind kinds own olds all together of (item ∷ items) replies end (mid, reply, more, step, are, run) =
    let here = step_parts kind kinds own olds all together of item reply mid step in
    let rest = run_parts kind kinds here.own_mid here.mids mid here.together here.of items more end run in
    record {
      owns = here.first ∷ rest.owns;
      others = here.more ∷ rest.others;
      own_end = rest.own_end;
      ends = rest.ends;
      run = (here.own_mid, here.first, rest.owns, here.step, refl, rest.run);
      runs = (here.mids, here.more, rest.others, here.steps, refl, rest.runs);
      replies_are = are ∙ ap (λ r. r ∷ more) here.reply_is ∙ ap (λ m. interleaved_reply kind item here.first here.more ∷ m) rest.replies_are;
      together = rest.together;
      of = rest.of;
    }

-- a run side by side of no managers has the replies of `bare_reply`
bare_step : (olds : Option (List RunState)) → HasNoManagers olds → (item : Item) (reply : Reply) (mid : Option (List RunState))
    → PlayStep (EachBegins []) EachTurn olds item reply mid → (reply ≡ bare_reply item) × HasNoManagers mid
bare_step olds none (starts p) reply mid (news, (is, are), mid_is) = (is, rw mid_is are)
bare_step None none (asks c) reply mid (is, mid_is) = (is, rw mid_is tt)
bare_step (Some olds) none (asks c) reply mid (news, turns, mid_is) =
    let here : EachTurn [] c reply news = subst (λ l. EachTurn l c reply news) none turns in
    (here.0, rw mid_is here.1)
bare_step olds none (bad n) reply mid (is, mid_is) = (is, rw mid_is none)

bare_run : (olds : Option (List RunState)) → HasNoManagers olds → (items : List Item) (replies : List Reply) (end : Option (List RunState))
    → PlayRun (EachBegins []) EachTurn olds items replies end → (replies ≡ map bare_reply items) × HasNoManagers end
bare_run olds none [] replies end (are, same) = (are, rw same none)
bare_run olds none (item ∷ items) replies end (mid, reply, more, step, are, run) =
    let here = bare_step olds none item reply mid step in
    let rest = bare_run mid here.1 items more end run in
    (are ∙ ap (λ r. r ∷ more) here.0 ∙ ap (λ m. bare_reply item ∷ m) rest.0, rest.1)

pub own_runs : (kinds : List Kind) (items : List Item) (replies : List Reply) (end : Option (List RunState))
    → PlayRun (EachBegins kinds) EachTurn None items replies end → OwnRuns kinds items replies end
own_runs [] items replies end run = bare_run None tt items replies end run
own_runs (kind ∷ kinds) items replies end run =
    let here = run_parts kind kinds None None None refl tt items replies end run in
    (here.owns, here.others, here.own_end, here.ends, here.run, own_runs kinds items here.others here.ends here.runs, here.replies_are, here.together)

-- one manager's own run, continued by one command
own_run_more : (kind : Kind) (before : List Item) (c : Command) (owns : List Reply) (own : Reply) (old new : RunState) → Run kind None before owns (Some old)
    → IsCommandStep old c own new → Run kind None (before ++ asks c ∷ []) (owns ++ own ∷ []) (Some new)
own_run_more kind before c owns own old new run turn =
    run_joined (BeginsOne kind) IsCommandStep None before (asks c ∷ []) owns (own ∷ []) (Some old) (Some new) run
    (one_run (BeginsOne kind) IsCommandStep (Some old) (Some new) (asks c) own (new, turn, refl))

-- the runs of the first manager and of the others, up to the manager whose reply was cut
up_to_at : (kind : Kind) (kinds : List Kind) (before : List Item) (c : Command) (replies owns others : List Reply) (old : RunState) (olds : List RunState)
    (front : List ℕ) (news : List RunState)
    → Run kind None before owns (Some old) → OwnRuns kinds before others (Some olds) → replies ≡ interleaved_replies kind before owns others → old.heap.kind ≡ kind
    → ((more : List ℕ) (rest : List RunState) → EachInPart olds c more rest → OwnRunsUpTo kinds before c others more rest)
    → EachInPart (old ∷ olds) c front news → OwnRunsUpTo (kind ∷ kinds) before c replies front news
up_to_at kind kinds before c replies owns others old olds front news run runs are of next (inl here) = (
  owns,
  others,
  here.reply,
  here.new,
  olds,
  own_run_more kind before c owns here.reply old here.new run here.turn,
  are,
  here.are,
  inl
      (here.lost, ap (λ k. led [] (named_lines k here.reply)) (sym of) ∙ here.cut, runs),
)
up_to_at kind kinds before c replies owns others old olds front news run runs are of next (inr (first, more, new, rest, turn, part, is, news_are)) = (
  owns,
  others,
  first,
  new,
  rest,
  own_run_more kind before c owns first old new run turn,
  are,
  news_are,
  inr
      (more, is ∙ ap (λ k. led [] (named_lines k first) ++ more) of, next more rest part),
)

-- the same runs, by their last states before the command
up_to_by : (kind : Kind) (kinds : List Kind) (before : List Item) (c : Command) (replies owns others : List Reply) (own : Option RunState)
    (ends : Option (List RunState)) (olds : List RunState) (front : List ℕ) (news : List RunState)
    → Run kind None before owns own → PlayRun (EachBegins kinds) EachTurn None before others ends → replies ≡ interleaved_replies kind before owns others
    → JoinStates own ends (Some olds) → IsOf kind own
    → ((others_now : List RunState) → PlayRun (EachBegins kinds) EachTurn None before others (Some others_now) → (more : List ℕ) (rest : List RunState)
    → EachInPart others_now c more rest → OwnRunsUpTo kinds before c others more rest)
    → EachInPart olds c front news → OwnRunsUpTo (kind ∷ kinds) before c replies front news
up_to_by kind kinds before c replies owns others None None olds front news run runs are together of next part = cc
up_to_by kind kinds before c replies owns others None (Some rest) olds front news run runs are together of next part = absurd together
up_to_by kind kinds before c replies owns others (Some old) None olds front news run runs are together of next part = absurd together
up_to_by kind kinds before c replies owns others (Some old) (Some rest) olds front news run runs are together of next part =
    let both : olds ≡ old ∷ rest = cc in
    up_to_at kind kinds before c replies owns others old rest front news run (own_runs kinds before others (Some rest) runs) are of.0 (next rest runs)
    (subst (λ l. EachInPart l c front news) both part)

pub own_runs_up_to : (kinds : List Kind) (before : List Item) (c : Command) (replies : List Reply) (olds : List RunState) (front : List ℕ)
    (news : List RunState)
    → PlayRun (EachBegins kinds) EachTurn None before replies (Some olds) → EachInPart olds c front news → OwnRunsUpTo kinds before c replies front news
own_runs_up_to [] before c replies olds front news run part =
    let none = (bare_run None tt before replies (Some olds) run).1 in
    absurd (subst (λ l. EachInPart l c front news) none part)
own_runs_up_to (kind ∷ kinds) before c replies olds front news run part =
    let here = run_parts kind kinds None None None refl tt before replies (Some olds) run in
    up_to_by kind kinds before c replies here.owns here.others here.own_end here.ends olds front news here.run here.runs here.replies_are here.together here.of
    (λ others_now runs more rest cut. own_runs_up_to kinds before c here.others others_now more rest runs cut) part

pub own_runs_in_part : (kinds : List Kind) (before : List Item) (replies : List Reply) (mid : Option (List RunState)) (item : Item) (front : List ℕ)
    (end : Option (List RunState))
    → PlayRun (EachBegins kinds) EachTurn None before replies mid → PlayPart (EachBegins kinds) EachInPart mid item front end
    → OwnRunsInPart kinds before item replies front end
own_runs_in_part kinds before replies mid (starts p) front end run (news, reply, lost, begins, cut, is) = (
  reply,
  lost,
  own_runs kinds (before ++ starts p ∷ []) (replies ++ reply ∷ []) end
      (run_joined (EachBegins kinds) EachTurn None before (starts p ∷ []) replies (reply ∷ []) mid end run
      (one_run (EachBegins kinds) EachTurn mid end (starts p) reply (news, begins, is))),
  cut,
)
own_runs_in_part kinds before replies None (asks c) front end run part = absurd part
own_runs_in_part kinds before replies (Some olds) (asks c) front end run (news, part, is) =
    (news, own_runs_up_to kinds before c replies olds front news run part, is)
own_runs_in_part kinds before replies mid (bad n) front end run (lost, cut, is) = (lost, own_runs kinds before replies end (rw is run), cut)

-- For the law `outcomes_are_of_each`: after a script on many managers each of them is in the last state of its own run (`EachEndsAt`), or as before if no
-- run began.

together_counts : (own : Option RunState) (rest : Option (List RunState)) (all : List RunState) (n : ℕ) → JoinStates own rest (Some all)
    → ((others : List RunState) → rest ≡ Some others → length others ≡ n) → length all ≡ suc n
together_counts None None all n together counts = cc
together_counts None (Some others) all n together counts = absurd together
together_counts (Some own) None all n together counts = absurd together
together_counts (Some own) (Some others) all n together counts = let both : all ≡ own ∷ others = cc in rw both (ap suc (counts others refl))

pub own_counts : (kinds : List Kind) (items : List Item) (replies : List Reply) (all : List RunState) → OwnRuns kinds items replies (Some all)
    → length all ≡ length kinds
own_counts [] items replies all runs = let none = runs.1 in rw none refl
own_counts (kind ∷ kinds) items replies all (owns, others, own, rest, run, runs, are, together) =
    together_counts own rest all (length kinds) together
    (λ some is. own_counts kinds items others some (subst (λ r. OwnRuns kinds items others r) is runs))

up_to_counts : (kinds : List Kind) (before : List Item) (c : Command) (replies : List Reply) (front : List ℕ) (news : List RunState)
    → OwnRunsUpTo kinds before c replies front news → length news ≡ length kinds
up_to_counts [] before c replies front news runs = absurd runs
up_to_counts (kind ∷ kinds) before c replies front news (owns, others, own, new, rest, run, replies_are, are, inl (lost, cut, runs)) =
    rw are (ap suc (own_counts kinds before others rest runs))
up_to_counts (kind ∷ kinds) before c replies front news (owns, others, own, new, rest, run, replies_are, are, inr (more, is, runs)) =
    rw are (ap suc (up_to_counts kinds before c others more rest runs))

pub part_counts : (kinds : List Kind) (before : List Item) (item : Item) (replies : List Reply) (front : List ℕ) (all : List RunState)
    → OwnRunsInPart kinds before item replies front (Some all) → length all ≡ length kinds
part_counts kinds before (starts p) replies front all (reply, lost, runs, cut) = own_counts kinds (before ++ starts p ∷ []) (replies ++ reply ∷ []) all runs
part_counts kinds before (asks c) replies front all (news, runs, is) =
    let same : all ≡ news = cc in
    rw same (up_to_counts kinds before c replies front news runs)
part_counts kinds before (bad n) replies front all (lost, runs, cut) = own_counts kinds before replies all runs

-- the managers are those of the runs, if each manager has a run
heaps_of : (ss : List SessionState) (hs : List HeapState) → length (zipped ss hs) ≡ length hs → hs ≡ map (λ r. r.heap) (zipped ss hs)
heaps_of [] [] e = refl
heaps_of [] (h ∷ hs) e = cc
heaps_of (s ∷ ss) [] e = refl
heaps_of (s ∷ ss) (h ∷ hs) e = ap (λ l. h ∷ l) (heaps_of ss hs (omega (arith, e)))

pub stand_each : (from to : SideBySide) (end : Option SideBySide) → kinds_of to ≡ kinds_of from
    → ((all : List RunState) → option_map runs_of end ≡ Some all → length all ≡ length (kinds_of from)) → EndsAt from end to
    → EachEndsAt from.heaps (option_map runs_of end) to.heaps
stand_each from to None kinds counts stands = ap (λ m. m.heaps) stands
stand_each from to (Some s) kinds counts stands =
    let same : length to.heaps ≡ length (kinds_of from) = sym (length-map to.heaps (λ h. h.kind)) ∙ ap (λ (l : List Kind). length l) kinds in
    let many : length (runs_of s) ≡ length s.heaps = counts (runs_of s) refl ∙ sym same ∙ ap (λ m. length m.heaps) stands in
    ap (λ m. m.heaps) stands ∙ heaps_of s.sessions s.heaps many

-- For the law `outcomes_are_of_each`: if a script on many managers was answered, whole or up to a cut reply, each manager had a run of its own and is left
-- in its last state.

pub own_of : (from to : SideBySide) (wanted : List Item) (call : Effects) (w : Wrote many_managers from wanted call to)
    → OwnRuns (kinds_of from) wanted w.replies (option_map runs_of w.end)
own_of from to wanted call w =
    own_runs (kinds_of from) wanted w.replies (option_map runs_of w.end)
    (run_seen runs_of (EachBegins (kinds_of from)) EachTurn EachInPart None wanted w.replies w.end w.run)

pub part_of : (from to : SideBySide) (wanted : List Item) (call : Effects) (w : WroteInPart many_managers from wanted call to)
    → OwnRunsInPart (kinds_of from) w.before w.item w.replies w.front (option_map runs_of w.end)
part_of from to wanted call w =
    own_runs_in_part (kinds_of from) w.before w.replies (option_map runs_of w.mid) w.item w.front (option_map runs_of w.end)
    (run_seen runs_of (EachBegins (kinds_of from)) EachTurn EachInPart None w.before w.replies w.mid w.run)
    (part_seen runs_of (EachBegins (kinds_of from)) EachTurn EachInPart w.mid w.item w.front w.end w.part)

pub stand_of : (from to : SideBySide) (wanted : List Item) (call : Effects) → kinds_of to ≡ kinds_of from → (w : Wrote many_managers from wanted call to)
    → EachEndsAt from.heaps (option_map runs_of w.end) to.heaps
stand_of from to wanted call kinds w =
    stand_each from to w.end kinds
    (λ all is. own_counts (kinds_of from) wanted w.replies all (subst (λ r. OwnRuns (kinds_of from) wanted w.replies r) is (own_of from to wanted call w)))
    w.stands

pub stand_part_of : (from to : SideBySide) (wanted : List Item) (call : Effects) → kinds_of to ≡ kinds_of from → (w : WroteInPart many_managers from wanted call to)
    → EachEndsAt from.heaps (option_map runs_of w.end) to.heaps
stand_part_of from to wanted call kinds w =
    stand_each from to w.end kinds
    (λ all is. part_counts (kinds_of from) w.before w.item w.replies w.front all
    (subst (λ r. OwnRunsInPart (kinds_of from) w.before w.item w.replies w.front r) is (part_of from to wanted call w))) w.stands

-- For the law `each_manager_is_open_after_its_run`: the runs of many managers over one script are in progress at its end, also if a reply was cut.

-- a run is in progress, or hasn't begun
abbrev pub IsOn : Option RunState → Type 0
IsOn None = ⊤
IsOn (Some s) = IsGoing s

step_on : (kind : Kind) (old : Option RunState) → IsOn old → (item : Item) (reply : Reply) (new : Option RunState) → ItemStep kind old item reply new → IsOn new
step_on kind old on (starts p) reply new (s, begins, is) = rw is (begins_going kind p s begins.0)
step_on kind None on (asks c) reply new (none, is) = rw is tt
step_on kind (Some old) on (asks c) reply new (s, turn, is) = rw is (step_going old s c reply on turn.step)
step_on kind old on (bad n) reply new (named_lines, is) = rw is on

run_on : (kind : Kind) (old : Option RunState) → IsOn old → (items : List Item) (replies : List Reply) (new : Option RunState) → Run kind old items replies new
    → IsOn new
run_on kind old on [] replies new (none, same) = rw same on
run_on kind old on (item ∷ items) replies new (mid, reply, more, step, are, run) =
    run_on kind mid (step_on kind old on item reply mid step) items more new run

together_on : (own : Option RunState) (rest : Option (List RunState)) (all : List RunState) → JoinStates own rest (Some all) → IsOn own
    → ((others : List RunState) → rest ≡ Some others → All IsGoing others) → All IsGoing all
together_on None None all together on going = cc
together_on None (Some others) all together on going = absurd together
together_on (Some own) None all together on going = absurd together
together_on (Some own) (Some others) all together on going =
    let both : all ≡ own ∷ others = cc in
    rw both (All-cons IsGoing own others on (going others refl))

pub own_going : (kinds : List Kind) (items : List Item) (replies : List Reply) (all : List RunState) → OwnRuns kinds items replies (Some all) → All IsGoing all
own_going [] items replies all runs = let none = runs.1 in rw none (All-nil IsGoing)
own_going (kind ∷ kinds) items replies all (owns, others, own, rest, run, runs, are, together) =
    together_on own rest all together (run_on kind None tt items owns own run)
    (λ some is. own_going kinds items others some (subst (λ r. OwnRuns kinds items others r) is runs))

up_to_going : (kinds : List Kind) (before : List Item) (c : Command) (replies : List Reply) (front : List ℕ) (news : List RunState)
    → OwnRunsUpTo kinds before c replies front news → All IsGoing news
up_to_going [] before c replies front news runs = absurd runs
up_to_going (kind ∷ kinds) before c replies front news (owns, others, own, new, rest, run, replies_are, are, inl (lost, cut, runs)) =
    rw are (All-cons IsGoing new rest (run_on kind None tt (before ++ asks c ∷ []) (owns ++ own ∷ []) (Some new) run)
    (own_going kinds before others rest runs))
up_to_going (kind ∷ kinds) before c replies front news (owns, others, own, new, rest, run, replies_are, are, inr (more, is, runs)) =
    rw are (All-cons IsGoing new rest (run_on kind None tt (before ++ asks c ∷ []) (owns ++ own ∷ []) (Some new) run)
    (up_to_going kinds before c others more rest runs))

pub part_going : (kinds : List Kind) (before : List Item) (item : Item) (replies : List Reply) (front : List ℕ) (all : List RunState)
    → OwnRunsInPart kinds before item replies front (Some all) → All IsGoing all
part_going kinds before (starts p) replies front all (reply, lost, runs, cut) = own_going kinds (before ++ starts p ∷ []) (replies ++ reply ∷ []) all runs
part_going kinds before (asks c) replies front all (news, runs, is) =
    let same : all ≡ news = cc in
    rw same (up_to_going kinds before c replies front news runs)
part_going kinds before (bad n) replies front all (lost, runs, cut) = own_going kinds before replies all runs
