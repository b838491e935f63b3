-- For mode `compare`: one command on each of many managers, or up to the one whose reply the sink cut: the loop that does it, over sessions and managers as one
-- list of runs; the lines of the reply, with the kind's name before each; and that kinds and promises of an order stay. Also a lemma on a list that is mapped
-- twice.
use Rattle.std.proofs.Common.{◌≡◌, ◌∙◌, ◌<◌, ℕ, suc, zero, List, [], ◌∷◌, refl, sym, ap, length, set, get_or, map, arith, ◌++◌, append_assoc, ◌+◌, ◌≤◌, subst, inl, inr, append-nil, length-append, Option, Result, Ok, Err, is_some}
use Rattle.std.proofs.lemmas.List.{get_or-map, length-map, map-set, set-get_or, get_or_at, set_at, length_push}
use Rattle.run_model.specs.Terms.{HeapState, SessionState, appended, Command, IsGoing, Kind, led, Reply, RunState, Failed}
use Rattle.cf_session.specs.Apply.{run_at}
use Rattle.top_call.specs.SideBySide.{zipped, lead_of, named_lines, EachInPart, EachTurn, SideBySide, many_managers, runs_of}
use Rattle.run_model.proofs.CallerLemmas.{step_same}
use Rattle.run_model.specs.Answering.{IsAnswered, IsCutShort, Moment}
use Rattle.run_model.specs.Runs.{IsCommandStep}
use Rattle.top_call.specs.Progress.{TurnNamed, TurnNamedInPart, Swept, AnswersWith}
use Rattle.cf_io.proofs.CallerLemmas.{led-append}
use Rattle.std.specs.List.{All}
use Rattle.std.proofs.lemmas.List.Elements.{All-set}
use Rattle.script_loop.specs.Semantics.{AnswersBy, snapshot}

-- A list of sessions and a list of managers as a list of runs, one for each index (`zipped`): its length, the run at an index, and what replacing one
-- session and manager changes.

-- replacing session i and manager i replaces run i
pub zipped_set : (ss : List SessionState) (hs : List HeapState) (i : ℕ) (s : SessionState) (h : HeapState)
    → zipped (set ss i s) (set hs i h) ≡ set (zipped ss hs) i (run_at s h)
zipped_set [] hs i s h = refl
zipped_set (t ∷ ss) [] zero s h = refl
zipped_set (t ∷ ss) [] (suc i) s h = refl
zipped_set (t ∷ ss) (k ∷ hs) zero s h = refl
zipped_set (t ∷ ss) (k ∷ hs) (suc i) s h = ap (λ l. run_at t k ∷ l) (zipped_set ss hs i s h)

-- the run at i
pub zipped_read : (ss : List SessionState) (hs : List HeapState) (i : ℕ) (s : SessionState) (h : HeapState) → i < length ss → i < length hs
    → s ≡ get_or ss i s → h ≡ get_or hs i h
    → run_at s h ≡ get_or (zipped ss hs) i (run_at s h)
zipped_read [] hs i s h lt lt' is is' = absurd (omega (arith, lt))
zipped_read (t ∷ ss) [] i s h lt lt' is is' = absurd (omega (arith, lt'))
zipped_read (t ∷ ss) (k ∷ hs) zero s h lt lt' is is' = ap (λ t. run_at t h) is ∙ ap (λ k. run_at t k) is'
zipped_read (t ∷ ss) (k ∷ hs) (suc i) s h lt lt' is is' = zipped_read ss hs i s h (omega (arith, lt)) (omega (arith, lt')) is is'

pub zipped_length : (ss : List SessionState) (hs : List HeapState) → length ss ≡ length hs → length (zipped ss hs) ≡ length hs
zipped_length [] [] e = refl
zipped_length [] (k ∷ hs) e = cc
zipped_length (t ∷ ss) [] e = refl
zipped_length (t ∷ ss) (k ∷ hs) e = ap suc (zipped_length ss hs (omega (arith, e)))

-- for managers, by their states: replacing session i and manager i replaces run i
module _ {X : Type 0} (f : X → HeapState) (ss : List SessionState) (ms : List X) (i : ℕ) (s t : SessionState) (m n : X) where
  pub runs_set : zipped (set ss i t) (map f (set ms i n)) ≡ set (zipped ss (map f ms)) i (run_at t (f n))
  runs_set = ap (λ l. zipped (set ss i t) l) (map-set f ms i n) ∙ zipped_set ss (map f ms) i t (f n)

  pub runs_read : i < length ss → i < length ms → s ≡ get_or ss i s → m ≡ get_or ms i m → run_at s (f m) ≡ get_or (zipped ss (map f ms)) i (run_at s (f m))
  runs_read lt lt' is is' =
      let inside : i < length (map f ms) = omega (arith, length-map ms f, lt') in
      zipped_read ss (map f ms) i s (f m) lt inside is (ap f is' ∙ sym (get_or-map f ms i m (f m) lt'))

-- if g has the same value for an entry and the one that replaces it, the list of values of g stays the same
pub same_seen : {X Y : Type 0} (g : X → Y) (ms : List X) (i : ℕ) (m n : X) → i < length ms → m ≡ get_or ms i m → g n ≡ g m → map g (set ms i n) ≡ map g ms
same_seen g ms i m n lt is same =
    map-set g ms i n ∙ ap (λ y. set (map g ms) i y) (same ∙ ap g is ∙ sym (get_or-map g ms i m (g m) lt)) ∙ set-get_or (map g ms) i (g m)

pub mapped_twice : {X Y Z : Type 0} (g : Y → Z) (f : X → Y) (xs : List X) → map g (map f xs) ≡ map (λ x. g (f x)) xs
mapped_twice g f [] = refl
mapped_twice g f (x ∷ xs) = ap (λ l. g (f x) ∷ l) (mapped_twice g f xs)

-- For `answer_one`, which does a command on one of many managers: with the name of the manager's kind as lead, each line of the reply, whole or cut, begins
-- with that name.

-- lines with a kind's lead are the bytes of the lines with its name before each
led_named : (kind : Kind) (reply : Reply) → led (lead_of kind) reply ≡ led [] (named_lines kind reply)
led_named kind [] = refl
led_named kind (line ∷ rest) = ap (λ l. l ++ led (lead_of kind) rest) (sym (append_assoc (lead_of kind) line (10 ∷ [])))
    ∙ ap (λ l. ((lead_of kind ++ line) ++ 10 ∷ []) ++ l) (led_named kind rest)

pub named_whole : (old : Moment) (c : Command) (lead : List ℕ) (new : Moment) → lead ≡ lead_of old.run.heap.kind
    → IsAnswered old (record { command = c; lead = lead }) new
    → (reply : Reply) × TurnNamed old.run c reply new.run × (new.written ≡ appended old.written (led [] reply))
named_whole old c lead new is a = (
  named_lines old.run.heap.kind a.reply,
  record { own = a.reply; turn = a.turn; reply_is = refl },
  a.written ∙ ap (λ l. appended old.written (led l a.reply)) is ∙ ap (λ l. appended old.written l) (led_named old.run.heap.kind a.reply),
)

pub named_cut : (old : Moment) (c : Command) (lead : List ℕ) (new : Moment) → lead ≡ lead_of old.run.heap.kind
    → IsCutShort old (record { command = c; lead = lead }) new
    → (out : List ℕ) × TurnNamedInPart old.run c out new.run × (new.written ≡ appended old.written out)
named_cut old c lead new is a = (
  a.front,
  record {
    own = a.reply;
    lost = a.lost;
    turn = a.turn;
    cut = sym (led_named old.run.heap.kind a.reply) ∙ ap (λ l. led l a.reply) (sym is)
        ∙ a.cut;
  },
  a.written,
)

-- a command leaves the kind of the manager as it is
pub turn_kind : (old new : RunState) (c : Command) (reply : Reply) → IsGoing old → IsCommandStep old c reply new → new.heap.kind ≡ old.heap.kind
turn_kind old new c reply going turn = (step_same old new c reply going.rules turn.step).kind

-- For `answer_each`, the loop that does one command on each manager: after i passes the first i runs have done it and the others are unchanged; at the end
-- all have, or one reply was cut.

each_joined : (xs ys : List RunState) (c : Command) (t u : Reply) (ps qs : List RunState) → EachTurn xs c t ps → EachTurn ys c u qs
    → EachTurn (xs ++ ys) c (t ++ u) (ps ++ qs)
each_joined [] ys c t u ps qs a b = let e = a.0 in let f = a.1 in rw (e, f) b
each_joined (x ∷ xs) ys c t u ps qs (first, more, new, rest, turn, turns, is, are) b = (
  first,
  more ++ u,
  new,
  rest ++ qs,
  turn,
  each_joined xs ys c more u rest qs turns b,
  ap (λ l. l ++ u) is
      ∙ append_assoc (named_lines x.heap.kind first) more u,
  ap (λ l. l ++ qs) are,
)

each_cut : (xs ys : List RunState) (c : Command) (t : Reply) (out : List ℕ) (ps qs : List RunState) → EachTurn xs c t ps → EachInPart ys c out qs
    → EachInPart (xs ++ ys) c (led [] t ++ out) (ps ++ qs)
each_cut [] ys c t out ps qs a b = let e = a.0 in let f = a.1 in rw (e, f) b
each_cut (x ∷ xs) ys c t out ps qs (first, more, new, rest, turn, turns, is, are) b =
    inr (
      first,
      led [] more ++ out,
      new,
      rest ++ qs,
      turn,
      each_cut xs ys c more out rest qs turns b,
      ap (λ r. led [] r ++ out) is ∙ ap (λ l. l ++ out) (led-append [] (named_lines x.heap.kind first) more)
          ∙ append_assoc (led [] (named_lines x.heap.kind first)) (led [] more) out,
      ap (λ l. l ++ qs) are,
    )

one_turn : (old new : RunState) (c : Command) (reply : Reply) → TurnNamed old c reply new → EachTurn (old ∷ []) c reply (new ∷ [])
one_turn old new c reply turn = (turn.own, [], new, [], turn.turn, (refl, refl), turn.reply_is ∙ sym (append-nil (named_lines old.heap.kind turn.own)), refl)

-- before the loop no run has done the command
pub swept_none : (olds : List RunState) (c : Command) → Swept olds 0 c [] olds
swept_none olds c = record { done = []; turned = []; ahead = olds; olds_are = refl; news_are = refl; count = refl; turns = (refl, refl) }

module _ (olds news : List RunState) (i : ℕ) (c : Command) (reply : Reply) (old new : RunState) (lt : i < length news) (read : old ≡ get_or news i old) where
  more_at : (done turned ahead : List RunState) → olds ≡ done ++ ahead → news ≡ turned ++ ahead → length turned ≡ i → EachTurn done c reply turned
      → (first : Reply) → TurnNamed old c first new → Swept olds (i + 1) c (reply ++ first) (set news i new)
  more_at done turned [] olds_are news_are count turns first turn =
      absurd (omega (arith, lt, ap (λ (l : List RunState). length l) news_are, length-append turned [], count))
  more_at done turned (z ∷ ahead) olds_are news_are count turns first turn =
      let is : old ≡ z = read ∙ ap (λ l. get_or l i old) news_are ∙ get_or_at turned z ahead old i count in
      record {
        done = done ++ z ∷ [];
        turned = turned ++ new ∷ [];
        ahead = ahead;
        olds_are = olds_are ∙ sym (append_assoc done (z ∷ []) ahead);
        news_are = ap (λ l. set l i new) news_are ∙ set_at turned z ahead new i count ∙ sym (append_assoc turned (new ∷ []) ahead);
        count = length_push turned new ∙ ap (λ n. n + 1) count;
        turns = each_joined done (z ∷ []) c reply first turned (new ∷ []) turns (one_turn z new c first (subst (λ o. TurnNamed o c first new) is turn));
      }

  cut_at : (done turned ahead : List RunState) → olds ≡ done ++ ahead → news ≡ turned ++ ahead → length turned ≡ i → EachTurn done c reply turned
      → (out : List ℕ) → TurnNamedInPart old c out new → EachInPart olds c (led [] reply ++ out) (set news i new)
  cut_at done turned [] olds_are news_are count turns out turn =
      absurd (omega (arith, lt, ap (λ (l : List RunState). length l) news_are, length-append turned [], count))
  cut_at done turned (z ∷ ahead) olds_are news_are count turns out turn =
      let is : old ≡ z = read ∙ ap (λ l. get_or l i old) news_are ∙ get_or_at turned z ahead old i count in
      let here = subst (λ o. TurnNamedInPart o c out new) is turn in
      let cut : EachInPart (z ∷ ahead) c out (new ∷ ahead) =
      inl (record { reply = here.own; lost = here.lost; new = new; turn = here.turn; cut = here.cut; are = refl }) in
      let news_now : set news i new ≡ turned ++ (new ∷ ahead) = ap (λ l. set l i new) news_are ∙ set_at turned z ahead new i count in
      subst (λ l. EachInPart l c (led [] reply ++ out) (set news i new)) (sym olds_are)
      (subst (λ l. EachInPart (done ++ z ∷ ahead) c (led [] reply ++ out) l) (sym news_now)
      (each_cut done (z ∷ ahead) c reply out turned (new ∷ ahead) turns cut))

  -- after pass i of the loop the run at i has done the command too
  pub swept_more : Swept olds i c reply news → (first : Reply) → TurnNamed old c first new → Swept olds (i + 1) c (reply ++ first) (set news i new)
  swept_more s first turn = more_at s.done s.turned s.ahead s.olds_are s.news_are s.count s.turns first turn

  -- a prefix of the reply of the run at i was written
  pub swept_cut : Swept olds i c reply news → (out : List ℕ) → TurnNamedInPart old c out new → EachInPart olds c (led [] reply ++ out) (set news i new)
  swept_cut s out turn = cut_at s.done s.turned s.ahead s.olds_are s.news_are s.count s.turns out turn

whole_at : (olds news : List RunState) (c : Command) (reply : Reply) (done turned ahead : List RunState) → olds ≡ done ++ ahead → news ≡ turned ++ ahead
    → length news ≤ length turned → EachTurn done c reply turned → EachTurn olds c reply news
whole_at olds news c reply done turned [] olds_are news_are count turns =
    let o : olds ≡ done = olds_are ∙ append-nil done in
    let n : news ≡ turned = news_are ∙ append-nil turned in
    rw (o, n) turns
whole_at olds news c reply done turned (z ∷ ahead) olds_are news_are count turns =
    absurd (omega (arith, ap (λ (l : List RunState). length l) news_are, length-append turned (z ∷ ahead), count))

-- after the loop all runs have done the command
pub swept_whole : (olds news : List RunState) (i : ℕ) (c : Command) (reply : Reply) → length news ≤ i → Swept olds i c reply news → EachTurn olds c reply news
swept_whole olds news i c reply le s = whole_at olds news c reply s.done s.turned s.ahead s.olds_are s.news_are (omega (arith, le, s.count)) s.turns

-- The loop over sessions beside managers, by the states of the managers.
module _ {X : Type 0} (f : X → HeapState) (olds : List RunState) (ss : List SessionState) (ms : List X) (i : ℕ) (c : Command) (reply : Reply)
    (s t : SessionState) (m n : X) (count : length ss ≡ length ms) (lt : i < length ms)
    (is : s ≡ get_or ss i s) (is' : m ≡ get_or ms i m) where
  inside : i < length (zipped ss (map f ms))
  inside = omega (arith, lt, zipped_length ss (map f ms) (count ∙ sym (length-map ms f)), length-map ms f)

  reads : run_at s (f m) ≡ get_or (zipped ss (map f ms)) i (run_at s (f m))
  reads = runs_read f ss ms i s t m n (omega (arith, lt, count)) lt is is'

  pub seats_more : Swept olds i c reply (zipped ss (map f ms)) → (first : Reply) → TurnNamed (run_at s (f m)) c first (run_at t (f n))
      → Swept olds (i + 1) c (reply ++ first) (zipped (set ss i t) (map f (set ms i n)))
  seats_more swept first turn = subst (λ l. Swept olds (i + 1) c (reply ++ first) l) (sym (runs_set f ss ms i s t m n))
      (swept_more olds (zipped ss (map f ms)) i c reply (run_at s (f m)) (run_at t (f n)) inside reads swept first turn)

  pub seats_cut : Swept olds i c reply (zipped ss (map f ms)) → (out : List ℕ) → TurnNamedInPart (run_at s (f m)) c out (run_at t (f n))
      → EachInPart olds c (led [] reply ++ out) (zipped (set ss i t) (map f (set ms i n)))
  seats_cut swept out turn = subst (λ l. EachInPart olds c (led [] reply ++ out) l) (sym (runs_set f ss ms i s t m n))
      (swept_cut olds (zipped ss (map f ms)) i c reply (run_at s (f m)) (run_at t (f n)) inside reads swept out turn)

  pub seats_go : All IsGoing (zipped ss (map f ms)) → IsGoing (run_at t (f n)) → All IsGoing (zipped (set ss i t) (map f (set ms i n)))
  seats_go going here = subst (λ l. All IsGoing l) (sym (runs_set f ss ms i s t m n)) (All-set IsGoing (zipped ss (map f ms)) i (run_at t (f n)) here going)

  pub seat_goes : All IsGoing (zipped ss (map f ms)) → IsGoing (run_at s (f m))
  seat_goes going = subst IsGoing (sym reads) (going i (run_at s (f m)) inside)

-- at the end of the loop each manager has done the command
pub seats_whole : {X : Type 0} (f : X → HeapState) (olds : List RunState) (ss : List SessionState) (ms : List X) (i : ℕ) (c : Command) (reply : Reply)
    → length ss ≡ length ms → length ms ≤ i
    → Swept olds i c reply (zipped ss (map f ms)) → EachTurn olds c reply (zipped ss (map f ms))
seats_whole f olds ss ms i c reply count le swept =
    swept_whole olds (zipped ss (map f ms)) i c reply (omega (arith, le, zipped_length ss (map f ms) (count ∙ sym (length-map ms f)), length-map ms f)) swept

-- For mode `compare`: what `answer_each`, one command on each manager, did is what the mode handler claims of `answer`; and it stays the same which managers
-- promise an order.

pub each_answers : {T : Type 0} (old new : SideBySide) (w w' : Option (List ℕ)) (c : Command) (r : Result T Failed)
    → AnswersWith EachTurn EachInPart (runs_of old) w c r (runs_of new) w'
    → AnswersBy many_managers (snapshot old w) c r (snapshot new w')
each_answers old new w w' c (Ok u) (reply, turns, written) = record { reply = reply; turns = turns; written = written }
each_answers old new w w' c (Err e) (out, turns, written) = record { out = out; turns = turns; written = written }

-- the promises of an order stay, by what contracts see of the managers
pub promises_seen : {X : Type 0} (f : X → HeapState) (xs ys : List X) → map (λ x. is_some (f x).order) ys ≡ map (λ x. is_some (f x).order) xs
    → map (λ h. is_some h.order) (map f ys) ≡ map (λ h. is_some h.order) (map f xs)
promises_seen f xs ys same =
    mapped_twice (λ (h : HeapState). is_some h.order) f ys ∙ same ∙ sym (mapped_twice (λ (h : HeapState). is_some h.order) f xs)
