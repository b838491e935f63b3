-- For the session of any mode: if a command took effect and its reply was written whole or in part, the session's contract (`Applies`) holds.
use Rattle.std.proofs.Common.{◌≡◌, ℕ, ◌++◌, List, [], ◌∷◌, Result, Ok, Err, refl, sym, subst}
use Rattle.run_model.specs.Terms.{Command, Failed, led, Reply, said, SinkState, Writes}
use Rattle.cf_io.proofs.CallerLemmas.{puts_line}
use Rattle.cf_session.specs.Apply.{IsEnded, outcome_in, outcome_of}
use Rattle.cf_session.specs.declared.outcome.Outcome.{Outcome}
use Rattle.script_loop.specs.Semantics.{Semantics, snapshot}
use Rattle.script_loop.specs.Applying.{Applies, BuildsReply, TurnsInPart}

-- for a semantics in which each turn with a cut reply is a turn in part
module _ {S P : Type 0} (m : Semantics S P)
    (in_part : (old : S) (c : Command) (out : List ℕ) (new : S) → TurnsInPart m.turns old c out new → m.turns_in_part old c out new) where
  -- the reply was written whole, or only a prefix of it
  pub reported : (old new : S) (c : Command) (reply : Reply) (w y : SinkState) (r : Result Unit Failed) (outcome : Outcome)
      (answer : Result Outcome Failed) → m.turns old c reply new → outcome ≡ outcome_of reply → Writes w (led [] reply) r y → IsEnded r outcome answer
      → Applies m (snapshot old w.written) c answer (snapshot new y.written)
  reported old new c reply w y (Ok u) outcome answer turn shown put is =
      subst (λ (a : Result Outcome Failed). Applies m (snapshot old w.written) c a (snapshot new y.written)) (sym is)
      (record { reply = reply; turns = turn; written = put.wrote }, shown)
  reported old new c reply w y (Err e) outcome answer turn shown put is =
      let (front, lost, parts, shows) = put.part in
      subst (λ (a : Result Outcome Failed). Applies m (snapshot old w.written) c a (snapshot new y.written)) (sym is) (record {
        out = front;
        turns = in_part old c front new (record { reply = reply; lost = lost; turn = turn; cut = parts });
        written = shows;
      })

  -- the reply is the one line that `BuildsReply` names, and was written whole or in part
  pub shown_line : (old new : S) (c : Command) (line : List ℕ) (w y : SinkState) (r : Result Unit Failed) (outcome : Outcome)
      (answer : Result Outcome Failed) → BuildsReply m.turns old c new line → outcome ≡ outcome_in line → Writes w (line ++ 10 ∷ []) r y
      → IsEnded r outcome answer → Applies m (snapshot old w.written) c answer (snapshot new y.written)
  shown_line old new c line w y r outcome answer speaks shown put is =
      reported old new c (said line) w y r outcome answer speaks.turn shown (puts_line w y [] line line r refl put) is
