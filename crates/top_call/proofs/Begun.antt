-- For mode `compare`: the `heap` line on many managers: its reply, whole or cut, that their runs begin and are in progress, and that kinds and promises of an
-- order stay, also if an allocation failed. For the law `what_was_cut_is_a_prefix`: output that was cut is a prefix of that of a whole run.
use Rattle.std.proofs.Common.{◌≡◌, ◌++◌, ◌∙◌, ◌+◌, ◌<◌, ℕ, List, [], ◌∷◌, sym, ap, length, take, drop, get_or, map, append_assoc, append-nil, arith, take-append-drop, refl, suc, inl, inr, subst, codes, is_some}
use Rattle.std.proofs.lemmas.List.{get_or-map, length-map, map-append, take_more, get_or_past, same_lists}
use Rattle.cf_io.proofs.CallerLemmas.{led-append}
use Rattle.run_model.specs.Terms.{Kind, led, fresh_session, HeapState, SessionState, IsGoing, Profile, profile_of, Reply, RunState, said, AreInRange, Command}
use Rattle.top_call.specs.SideBySide.{lead_of, opened_reply, AreFresh, IsEachFresh, fresh_side_by_side, side_by_side_at, EachBegins, IsEachGoing, LacksSome, kinds_of, runs_of, zipped, EachInPart, EachTurn, SideBySide, many_managers, named_lines}
use Rattle.std.proofs.lemmas.List.Elements.{All-head, All-tail, All-cons, All-nil}
use Rattle.std.specs.List.{All}
use Rattle.std.proofs.lemmas.Bool.{cases_lt}
use Rattle.cf_base.specs.declared.settings.Settings.{Settings}
use Rattle.cf_model.specs.Loops.{Opens, Pairwise, Stops}
use Rattle.cf_model.specs.Ordered.{KeepsPromise}
use Rattle.cf_model.specs.Steps.{IsClosed}
use Rattle.run_model.proofs.CallerLemmas.{begins_going, step_going}
use Rattle.cf_session.specs.Apply.{run_at}
use Rattle.top_call.proofs.Passing.{mapped_twice}
use Rattle.script_laws.specs.ValidItems.{IsValidCommand}
use Rattle.script_laws.proofs.CallerLemmas.{CanGoOn, begin_exists, step_exists}

-- For `put_opened`, which writes the reply of many managers to the `heap` line: the lines written so far, a kind's name and `ok` for each manager, and a
-- prefix of them if the sink fails.

-- the bytes of one manager's line
line_of : (kind : Kind) → led [] (opened_reply (kind ∷ [])) ≡ lead_of kind ++ codes "ok\n"
line_of kind = append-nil ((lead_of kind ++ codes "ok") ++ 10 ∷ []) ∙ append_assoc (lead_of kind) (codes "ok") (10 ∷ [])

pub opened_reply_more : (kinds : List Kind) (i : ℕ) (kind : Kind) → i < length kinds → kind ≡ get_or kinds i kind
    → led [] (opened_reply (take i kinds)) ++ (lead_of kind ++ codes "ok\n") ≡ led [] (opened_reply (take (i + 1) kinds))
opened_reply_more kinds i kind lt is =
    ap (λ l. led [] (opened_reply (take i kinds)) ++ l) (sym (line_of kind))
    ∙ sym (led-append [] (opened_reply (take i kinds)) (opened_reply (kind ∷ [])))
    ∙ ap (λ l. led [] l) (sym (map-append (λ (k : Kind). lead_of k ++ codes "ok") (take i kinds) (kind ∷ [])))
    ∙ ap (λ k. led [] (opened_reply (take i kinds ++ k ∷ []))) is
    ∙ ap (λ l. led [] (opened_reply l)) (sym (take_more kinds i kind lt))

pub opened_reply_cut : (kinds : List Kind) (i : ℕ) (kind : Kind) (front lost : List ℕ) → i < length kinds → kind ≡ get_or kinds i kind
    → lead_of kind ++ codes "ok\n" ≡ front ++ lost
    → led [] (opened_reply kinds) ≡ (led [] (opened_reply (take i kinds)) ++ front) ++ (lost ++ led [] (opened_reply (drop (i + 1) kinds)))
opened_reply_cut kinds i kind front lost lt is cut =
    ap (λ l. led [] (opened_reply l)) (sym (take-append-drop (i + 1) kinds))
    ∙ ap (λ l. led [] l) (map-append (λ (k : Kind). lead_of k ++ codes "ok") (take (i + 1) kinds) (drop (i + 1) kinds))
    ∙ led-append [] (opened_reply (take (i + 1) kinds)) (opened_reply (drop (i + 1) kinds))
    ∙ ap (λ l. l ++ led [] (opened_reply (drop (i + 1) kinds)))
    (sym (opened_reply_more kinds i kind lt is) ∙ ap (λ l. led [] (opened_reply (take i kinds)) ++ l) cut ∙ sym (append_assoc (led [] (opened_reply (take i kinds))) front lost))
    ∙ append_assoc (led [] (opened_reply (take i kinds)) ++ front) lost (led [] (opened_reply (drop (i + 1) kinds)))

-- the kind of the manager at i is the kind at i
pub kind_at : {X : Type 0} (f : X → Kind) (xs : List X) (i : ℕ) (x : X) (kind : Kind) → i < length xs → x ≡ get_or xs i x → kind ≡ f x
    → (i < length (map f xs)) × (kind ≡ get_or (map f xs) i kind)
kind_at f xs i x kind lt read is = (omega (arith, lt, length-map xs f), is ∙ ap f read ∙ sym (get_or-map f xs i x kind lt))

-- For mode `compare`: `Sessions::start` returns a new session for each manager, and with these a run of the mode handler (`many_managers`) may begin.

fresh_are : (ss : List SessionState) (heaps : List HeapState) → length ss ≡ length heaps → All (λ s. s ≡ fresh_session) ss → ss ≡ map (λ h. fresh_session) heaps
fresh_are [] [] count fresh = refl
fresh_are [] (h ∷ hs) count fresh = cc
fresh_are (s ∷ ss) [] count fresh = cc
fresh_are (s ∷ ss) (h ∷ hs) count fresh =
    ap (λ t. t ∷ ss) (All-head (λ t. t ≡ fresh_session) s ss fresh)
    ∙ ap (λ l. fresh_session ∷ l) (fresh_are ss hs (omega (arith, count)) (All-tail (λ t. t ≡ fresh_session) s ss fresh))

-- A fresh session for each manager, by the states of the managers.
module _ {X : Type 0} (f : X → HeapState) (ss : List SessionState) (ms : List X) (started : AreFresh (length ms) ss) where
  pub begun_each : IsEachFresh (side_by_side_at ss (map f ms))
  begun_each = record { count = started.many ∙ sym (length-map ms f); fresh = started.fresh }

  pub begun_side_by_side : side_by_side_at ss (map f ms) ≡ fresh_side_by_side (map f ms)
  begun_side_by_side = ap (λ l. side_by_side_at l (map f ms)) (fresh_are ss (map f ms) (started.many ∙ sym (length-map ms f)) started.fresh)

-- For `open`, the `heap` line on many managers: their runs begin and are in progress; kinds and promises of an order stay, also if an allocation failed at
-- one manager.

-- if two lists are related entry by entry, so are the lists without their first entries
pairwise_rest : {X : Type 0} (R : X → X → Type 0) (x y : X) (xs ys : List X) → Pairwise R (x ∷ xs) (y ∷ ys) → Pairwise R xs ys
pairwise_rest R x y xs ys p = record { count = omega (arith, p.count); each = λ k d e lt. p.each (suc k) d e (omega (arith, lt)) }

pub each_begun : {X : Type 0} (f : X → HeapState) (p : Settings) (ss : List SessionState) (xs ys : List X) → length ss ≡ length xs
    → All (λ s. s ≡ fresh_session) ss
    → Pairwise (λ x y. Opens p (f x) (f y)) xs ys
    → EachBegins (map (λ h. h.kind) (map f xs)) (profile_of p) (opened_reply (map (λ h. h.kind) (map f xs))) (zipped ss (map f ys))
each_begun f p [] [] ys count fresh pairs = (refl, refl)
each_begun f p [] (x ∷ xs) ys count fresh pairs = cc
each_begun f p (s ∷ ss) [] ys count fresh pairs = cc
each_begun f p (s ∷ ss) (x ∷ xs) [] count fresh pairs = absurd (omega (arith, pairs.count))
each_begun f p (s ∷ ss) (x ∷ xs) (y ∷ ys) count fresh pairs = (
  said (codes "ok"),
  opened_reply (map (λ h. h.kind) (map f xs)),
  run_at s (f y),
  zipped ss (map f ys),
  (
    record {
      session = All-head (λ s. s ≡ fresh_session) s ss fresh;
      words = (pairs.each 0 x y (omega arith)).empty.words;
      order = (pairs.each 0 x y (omega arith)).empty.order;
      heap =
          (pairs.each 0 x y (omega arith)).empty.whole;
      rules = (pairs.each 0 x y (omega arith)).rules;
    },
    refl,
  ),
  each_begun f p ss xs ys (omega (arith, count)) (All-tail (λ s. s ≡ fresh_session) s ss fresh) (pairwise_rest (λ x y. Opens p (f x) (f y)) x y xs ys pairs),
  refl,
  refl,
)

-- every run that began is in progress
pub begun_goes : (kinds : List Kind) (p : Profile) (reply : Reply) (news : List RunState) → EachBegins kinds p reply news → All IsGoing news
begun_goes [] p reply news (is, are) = rw are (All-nil IsGoing)
begun_goes (kind ∷ kinds) p reply news (first, more, new, rest, begins, others, is, are) =
    rw are (All-cons IsGoing new rest (begins_going kind p new begins.0) (begun_goes kinds p more rest others))

-- an entry of a list that is longer than k, so not empty
some_of : {X : Type 0} (xs : List X) (k : ℕ) → k < length xs → X
some_of [] k lt = absurd (omega (arith, lt))
some_of (x ∷ xs) k lt = x

-- two lists of managers with equal kinds at each index have the same list of kinds
kinds_same : (xs ys : List HeapState) → length ys ≡ length xs → ((k : ℕ) (d : HeapState) → k < length xs → (get_or ys k d).kind ≡ (get_or xs k d).kind)
    → map (λ h. h.kind) ys ≡ map (λ h. h.kind) xs
kinds_same xs ys count each = same_lists (map (λ h. h.kind) ys) (map (λ h. h.kind) xs)
    (length-map ys (λ h. h.kind) ∙ count ∙ sym (length-map xs (λ h. h.kind)))
    (λ k d lt.
    let inside : k < length ys = omega (arith, lt, length-map ys (λ (h : HeapState). h.kind)) in
    let within : k < length xs = omega (arith, inside, count) in
    let d' = some_of xs k within in
    get_or-map (λ h. h.kind) ys k d' d inside ∙ each k d' within ∙ sym (get_or-map (λ h. h.kind) xs k d' d within))

module _ {X : Type 0} (f : X → HeapState) where
  -- an opening that stopped at one manager, by the states that contracts see
  pub stops_seen : (R S : HeapState → HeapState → Type 0) (xs ys : List X) → Stops (λ x y. R (f x) (f y)) (λ x y. S (f x) (f y)) xs ys
      → Stops R S (map f xs) (map f ys)
  stops_seen R S xs ys s =
      let x = some_of xs s.at s.within in
      record {
        count = length-map ys f ∙ s.count ∙ sym (length-map xs f);
        at = s.at;
        within = omega (arith, s.within, length-map xs f);
        before = λ k d e lt. (
            let inside : k < length xs = omega (arith, lt, s.within) in
            let within : k < length ys = omega (arith, inside, s.count) in
            rw (get_or-map f xs k x d inside, get_or-map f ys k x e within) (s.before k x x lt));
        here = λ d e. (
            let within : s.at < length ys = omega (arith, s.within, s.count) in
            let inside = s.within in
            rw (get_or-map f xs s.at x d inside, get_or-map f ys s.at x e within) (s.here x x));
        behind = λ k d lt. elim (cases_lt k (length xs)) [
          | inl inside ↦ (
              let within : k < length ys = omega (arith, inside, s.count) in
              get_or-map f ys k x d within ∙ ap f (s.behind k x lt) ∙ sym (get_or-map f xs k x d inside))
          | inr past ↦ get_or_past (map f ys) k d (omega (arith, past, s.count, length-map ys f))
              ∙ sym (get_or_past (map f xs) k d (omega (arith, past, length-map xs f)))
        ];
      }

  pub pairs_kinds : (p : Settings) (xs ys : List X) → Pairwise (λ x y. Opens p (f x) (f y)) xs ys
      → map (λ h. h.kind) (map f ys) ≡ map (λ h. h.kind) (map f xs)
  pairs_kinds p [] [] pairs = refl
  pairs_kinds p [] (y ∷ ys) pairs = absurd (omega (arith, pairs.count))
  pairs_kinds p (x ∷ xs) [] pairs = absurd (omega (arith, pairs.count))
  pairs_kinds p (x ∷ xs) (y ∷ ys) pairs =
      ap (λ k. k ∷ map (λ h. h.kind) (map f ys)) (ap (λ (h : HeapState). h.kind) (pairs.each 0 x y (omega arith)).empty.whole)
      ∙ ap (λ l. (f x).kind ∷ l) (pairs_kinds p xs ys (pairwise_rest (λ x y. Opens p (f x) (f y)) x y xs ys pairs))

  pub pairs_promises : (xs ys : List X) → Pairwise (λ x y. KeepsPromise (f x) (f y)) xs ys → map (λ x. is_some (f x).order) ys ≡ map (λ x. is_some (f x).order) xs
  pairs_promises [] [] pairs = refl
  pairs_promises [] (y ∷ ys) pairs = absurd (omega (arith, pairs.count))
  pairs_promises (x ∷ xs) [] pairs = absurd (omega (arith, pairs.count))
  pairs_promises (x ∷ xs) (y ∷ ys) pairs =
      ap (λ b. b ∷ map (λ x. is_some (f x).order) ys) (pairs.each 0 x y (omega arith))
      ∙ ap (λ l. is_some (f x).order ∷ l) (pairs_promises xs ys (pairwise_rest (λ x y. KeepsPromise (f x) (f y)) x y xs ys pairs))

pub stops_kinds : (p : Settings) (xs ys : List HeapState) → Stops (λ h k. Opens p h k) IsClosed xs ys → map (λ h. h.kind) ys ≡ map (λ h. h.kind) xs
stops_kinds p xs ys s = kinds_same xs ys s.count (λ k d lt. elim (cases_lt k s.at) [
  | inl before ↦ ap (λ (h : HeapState). h.kind) (s.before k d d before).empty.whole
  | inr from ↦ (elim (cases_lt s.at k) [
    | inl behind ↦ ap (λ (h : HeapState). h.kind) (s.behind k d behind)
    | inr to ↦ (let is : k ≡ s.at = omega (arith, from, to) in rw is (s.here d d).kind)
  ])
])

-- The opening of managers, beside sessions that were just begun.
module _ {X : Type 0} (f : X → HeapState) (p : Settings) (ss : List SessionState) (xs ys : List X) (fresh : IsEachFresh (side_by_side_at ss (map f xs)))
    (pairs : Pairwise (λ x y. Opens p (f x) (f y)) xs ys) where
  pub all_begin : EachBegins (kinds_of (side_by_side_at ss (map f xs))) (profile_of p) (opened_reply (kinds_of (side_by_side_at ss (map f xs)))) (runs_of (side_by_side_at ss (map f ys)))
  all_begin = each_begun f p ss xs ys (fresh.count ∙ length-map xs f) fresh.fresh pairs

  pub all_go : IsEachGoing (side_by_side_at ss (map f ys))
  all_go = record { count = fresh.count ∙ length-map xs f ∙ sym pairs.count ∙ sym (length-map ys f); going = begun_goes _ (profile_of p) _ _ all_begin }

  pub same_kinds : kinds_of (side_by_side_at ss (map f ys)) ≡ kinds_of (side_by_side_at ss (map f xs))
  same_kinds = pairs_kinds f p xs ys pairs

  -- the reply to the `heap` line, by the kinds in the states
  pub shown : opened_reply (map (λ m. (f m).kind) ys) ≡ opened_reply (kinds_of (side_by_side_at ss (map f xs)))
  shown = ap opened_reply (sym (mapped_twice (λ h. h.kind) f ys) ∙ same_kinds)

-- if the opening stopped at a manager whose allocation failed, the relation `lacks` of the mode handler holds
pub some_lack : {X : Type 0} (f : X → HeapState) (p : Settings) (ss : List SessionState) (xs ys : List X)
    → Stops (λ x y. Opens p (f x) (f y)) (λ x y. IsClosed (f x) (f y)) xs ys
    → LacksSome (side_by_side_at ss (map f xs)) (side_by_side_at ss (map f ys))
some_lack f p ss xs ys s = record { settings = p; stops = stops_seen f (λ h k. Opens p h k) IsClosed xs ys s; sessions = refl }

-- For the law `what_was_cut_is_a_prefix`: many managers have a reply to each command, so what was written before the sink failed is a prefix of the output
-- of a whole run.

-- the sessions and the managers of a list of runs
pub side_by_side_of : List RunState → SideBySide
side_by_side_of runs = side_by_side_at (map (λ (s : RunState). s.session) runs) (map (λ (s : RunState). s.heap) runs)

pub runs_are : (runs : List RunState) → runs_of (side_by_side_of runs) ≡ runs
unfolding side_by_side_of
runs_are [] = refl
runs_are (s ∷ runs) = ap (λ l. s ∷ l) (runs_are runs)

pub each_begins : (kinds : List Kind) (p : Profile) → AreInRange p → (reply : Reply) × (news : List RunState) × EachBegins kinds p reply news
each_begins [] p can = ([], [], (refl, refl))
each_begins (kind ∷ kinds) p can =
    let b = begin_exists kind p can in
    let rest = each_begins kinds p can in
    (named_lines kind (said (codes "ok")) ++ rest.0, b.0 ∷ rest.1, (said (codes "ok"), rest.0, b.0, rest.1, (b.1, refl), rest.2, refl, refl))

pub each_turns : (olds : List RunState) (c : Command) → All IsGoing olds → IsValidCommand c → (reply : Reply) × (news : List RunState) × EachTurn olds c reply news
each_turns [] c on can = ([], [], (refl, refl))
each_turns (old ∷ olds) c on can =
    let t = step_exists old c (All-head IsGoing old olds on) can in
    let rest = each_turns olds c (All-tail IsGoing old olds on) can in
    (named_lines old.heap.kind t.0 ++ rest.0, t.1 ∷ rest.1, (t.0, rest.0, t.1, rest.1, t.2, rest.2, refl, refl))

pub each_goes_on : (olds : List RunState) (c : Command) (reply : Reply) (news : List RunState) → All IsGoing olds → EachTurn olds c reply news → All IsGoing news
each_goes_on [] c reply news on (is, are) = subst (All IsGoing) (sym are) (All-nil IsGoing)
each_goes_on (old ∷ olds) c reply news on (first, more, new, rest, turn, turns, is, are) =
    subst (All IsGoing) (sym are) (All-cons IsGoing new rest (step_going old new c first (All-head IsGoing old olds on) turn.step)
    (each_goes_on olds c more rest (All-tail IsGoing old olds on) turns))

-- what was written of a cut reply is a prefix of a whole reply of all managers
each_whole : (olds : List RunState) (c : Command) (out : List ℕ) (news : List RunState) → All IsGoing olds → IsValidCommand c → EachInPart olds c out news
    → (reply : Reply) × (mids : List RunState) × (lost : List ℕ) × EachTurn olds c reply mids × (led [] reply ≡ out ++ lost)
each_whole [] c out news on can part = absurd part
each_whole (old ∷ olds) c out news on can (inl cut) =
    let rest = each_turns olds c (All-tail IsGoing old olds on) can in (
      named_lines old.heap.kind cut.reply ++ rest.0,
      cut.new ∷ rest.1,
      cut.lost ++ led [] rest.0,
      (cut.reply, rest.0, cut.new, rest.1, cut.turn, rest.2, refl, refl),
      led-append [] (named_lines old.heap.kind cut.reply) rest.0 ∙ ap (λ l. l ++ led [] rest.0) cut.cut ∙ append_assoc out cut.lost (led [] rest.0),
    )
each_whole (old ∷ olds) c out news on can (inr (first, more, new, rest, turn, part, is, are)) =
    let w = each_whole olds c more rest (All-tail IsGoing old olds on) can part in (
      named_lines old.heap.kind first ++ w.0,
      new ∷ w.1,
      w.2,
      (first, w.0, new, w.1, turn, w.3, refl, refl),
      led-append [] (named_lines old.heap.kind first) w.0 ∙ ap (λ l. led [] (named_lines old.heap.kind first) ++ l) w.4
          ∙ sym (append_assoc (led [] (named_lines old.heap.kind first)) more w.2) ∙ ap (λ l. l ++ w.2) (sym is),
    )

-- each run is in progress
abbrev pub AllGo : SideBySide → Type 0
AllGo s = All IsGoing (runs_of s)

abbrev pub many_go_on : (from : SideBySide) → CanGoOn (many_managers.begins (many_managers.plan from)) many_managers.turns
many_go_on from = record {
  is_going = AllGo;
  begins_going = λ p reply s begins. begun_goes (kinds_of from) p reply (runs_of s) begins;
  still_going = λ old c reply new on can turns. each_goes_on (runs_of old) c reply (runs_of new) on turns;
  begin_exists = λ p can. (let b = each_begins (kinds_of from) p can in
      (b.0, side_by_side_of b.1, subst (EachBegins (kinds_of from) p b.0) (sym (runs_are b.1)) b.2));
  step_exists = λ old c on can. (let t = each_turns (runs_of old) c on can in (t.0, side_by_side_of t.1, subst (EachTurn (runs_of old) c t.0) (sym (runs_are t.1)) t.2));
}

pub each_is_whole : (old : SideBySide) (c : Command) (out : List ℕ) (new : SideBySide) → AllGo old → IsValidCommand c → many_managers.turns_in_part old c out new
    → (reply : Reply) × (mid : SideBySide) × (lost : List ℕ) × many_managers.turns old c reply mid × (led [] reply ≡ out ++ lost)
each_is_whole old c out new on can part =
    let w = each_whole (runs_of old) c out (runs_of new) on can part in
    (w.0, side_by_side_of w.1, w.2, subst (EachTurn (runs_of old) c w.0) (sym (runs_are w.1)) w.3, w.4)
