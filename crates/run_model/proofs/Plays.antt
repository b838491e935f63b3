-- Runs over the items of a script by the rules of any mode (`PlayRun`): two consecutive runs joined to one, the text of consecutive replies, a run over one
-- item, and a run whose states are mapped by a function.
use Rattle.std.proofs.Common.{◌≡◌, ◌++◌, ◌∙◌, ℕ, List, [], ◌∷◌, Option, Some, None, refl, sym, ap, subst, append_assoc, option_map}
use Rattle.run_model.specs.Terms.{asks, bad, Command, Item, led, Profile, Reply, starts, text_of}
use Rattle.run_model.specs.Plays.{IsAt, PlayPart, PlayRun, PlayStep}

-- two consecutive runs are one run over all their items
pub run_joined : {S : Type 0} (begins : Profile → Reply → S → Type 0) (turns : S → Command → Reply → S → Type 0) (old : Option S) (done after : List Item)
    (replies more : List Reply) (mid end : Option S)
    → PlayRun begins turns old done replies mid → PlayRun begins turns mid after more end → PlayRun begins turns old (done ++ after) (replies ++ more) end
run_joined begins turns old [] after replies more mid end first second =
    let e = first.0 in
    rw e (subst (λ s. PlayRun begins turns s after more end) first.1 second)
run_joined begins turns old (item ∷ rest) after replies more mid end first second =
    (first.0, first.1, first.2 ++ more, first.3, ap (λ r. r ++ more) first.4, run_joined begins turns first.0 rest after first.2 more mid end first.5 second)

-- a run over one item
pub one_run : {S : Type 0} (begins : Profile → Reply → S → Type 0) (turns : S → Command → Reply → S → Type 0) (old new : Option S) (item : Item)
    (reply : Reply)
    → PlayStep begins turns old item reply new → PlayRun begins turns old (item ∷ []) (reply ∷ []) new
one_run begins turns old new item reply step = (new, reply, [], step, refl, (refl, refl))

-- the text of consecutive replies
pub text_joined : (lead : List ℕ) (replies more : List Reply) → text_of lead (replies ++ more) ≡ text_of lead replies ++ text_of lead more
text_joined lead [] more = refl
text_joined lead (reply ∷ rest) more = ap (λ t. led lead reply ++ t) (text_joined lead rest more)
    ∙ sym (append_assoc (led lead reply) (text_of lead rest) (text_of lead more))

-- A run under rules that see only `f s` of each state `s` is also a run over the states `f s`.
module _ {S T : Type 0} (f : S → T) (begins : Profile → Reply → T → Type 0) (turns : T → Command → Reply → T → Type 0)
    (in_part : T → Command → List ℕ → T → Type 0) where
  step_seen : (old : Option S) (item : Item) (reply : Reply) (new : Option S)
      → PlayStep (λ p r s. begins p r (f s)) (λ s c r t. turns (f s) c r (f t)) old item reply new
      → PlayStep begins turns (option_map f old) item reply (option_map f new)
  step_seen old (starts p) reply new (s, begun, is) = (f s, begun, ap (λ o. option_map f o) is)
  step_seen None (asks c) reply new (none, is) = (none, ap (λ o. option_map f o) is)
  step_seen (Some old) (asks c) reply new (s, turn, is) = (f s, turn, ap (λ o. option_map f o) is)
  step_seen old (bad n) reply new (named, is) = (named, ap (λ o. option_map f o) is)

  pub run_seen : (old : Option S) (items : List Item) (replies : List Reply) (new : Option S)
      → PlayRun (λ p r s. begins p r (f s)) (λ s c r t. turns (f s) c r (f t)) old items replies new
      → PlayRun begins turns (option_map f old) items replies (option_map f new)
  run_seen old [] replies new (none, is) = (none, ap (λ o. option_map f o) is)
  run_seen old (item ∷ items) replies new (mid, reply, more, step, are, run) =
      (option_map f mid, reply, more, step_seen old item reply mid step, are, run_seen mid items more new run)

  pub part_seen : (old : Option S) (item : Item) (out : List ℕ) (new : Option S)
      → PlayPart (λ p r s. begins p r (f s)) (λ s c o t. in_part (f s) c o (f t)) old item out new
      → PlayPart begins in_part (option_map f old) item out (option_map f new)
  part_seen old (starts p) out new (s, reply, lost, begun, cut, is) = (f s, reply, lost, begun, cut, ap (λ o. option_map f o) is)
  part_seen None (asks c) out new part = part
  part_seen (Some old) (asks c) out new (s, part, is) = (f s, part, ap (λ o. option_map f o) is)
  part_seen old (bad n) out new (lost, cut, is) = (lost, cut, ap (λ o. option_map f o) is)

-- A run is also one under other rules, over the states `f s`, if each of its steps is a step under them; `Is` holds of each of its states.
module _ {S T : Type 0} (f : S → T) (Is : S → Type 0) (begins : Profile → Reply → S → Type 0) (turns : S → Command → Reply → S → Type 0)
    (begins' : Profile → Reply → T → Type 0) (turns' : T → Command → Reply → T → Type 0)
    (begun : (p : Profile) (reply : Reply) (s : S) → begins p reply s → begins' p reply (f s) × Is s)
    (turned : (old : S) (c : Command) (reply : Reply) (new : S) → Is old → turns old c reply new → turns' (f old) c reply (f new) × Is new) where
  step_through : (old : Option S) (item : Item) (reply : Reply) (new : Option S) → IsAt Is old → PlayStep begins turns old item reply new
      → PlayStep begins' turns' (option_map f old) item reply (option_map f new) × IsAt Is new
  step_through old (starts p) reply new on (s, start, is) =
      let b = begun p reply s start in ((f s, b.0, ap (λ o. option_map f o) is), subst (IsAt Is) (sym is) b.1)
  step_through None (asks c) reply new on (none, is) = ((none, ap (λ o. option_map f o) is), subst (IsAt Is) (sym is) tt)
  step_through (Some old) (asks c) reply new on (s, turn, is) =
      let t = turned old c reply s on turn in ((f s, t.0, ap (λ o. option_map f o) is), subst (IsAt Is) (sym is) t.1)
  step_through old (bad n) reply new on (named, is) = ((named, ap (λ o. option_map f o) is), subst (IsAt Is) (sym is) on)

  pub run_through : (old : Option S) (items : List Item) (replies : List Reply) (new : Option S) → IsAt Is old → PlayRun begins turns old items replies new
      → PlayRun begins' turns' (option_map f old) items replies (option_map f new) × IsAt Is new
  run_through old [] replies new on (none, is) = ((none, ap (λ o. option_map f o) is), subst (IsAt Is) (sym is) on)
  run_through old (item ∷ items) replies new on (mid, reply, more, step, are, run) =
      let one = step_through old item reply mid on step in
      let rest = run_through mid items more new one.1 run in
      ((option_map f mid, reply, more, one.0, are, rest.0), rest.1)
