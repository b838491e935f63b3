-- For the law `all_such_commands_read_alike`: the crate `clap` finds the same faults in the arguments at whatever addresses the names of modes and kinds
-- are, which the logic doesn't know.
use Rattle.std.proofs.Common.{◌≡◌, ◌∙◌, ◌&&◌, ℕ, Bool, zero, suc, not, List, [], ◌∷◌, map, length, refl, ap, ap₂, Option, Some, None, is_some}
use Rattle.std.proofs.Common.{if◌then◌else◌}
use Rattle.std.specs.List.{list_any}
use Rattle.std.specs.Option.{option_map, option_map_or}
use Rattle.std.specs.Prelude.{slice_get, drop, encode_utf8}
use Rattle.std.specs.Str.{bytes_eq, chars}
use Rattle.clap.specs.declared.error.kind.ErrorKind.TheVariants as kind
use Rattle.clap.specs.Facts.{explicit_source}
use Rattle.clap.specs.Faults.{built_fault, bundle_fault, bundle_step_fault, check_fault, defaults_fault, entered_fault, flag_word_fault, flags_fault}
use Rattle.clap.specs.Faults.{level_fault, long_fault, option_fault, other_fault, positional_fault, react_fault, settle_fault, short_fault, step_fault}
use Rattle.clap.specs.Faults.{stray_fault, turn_fault, use_fault, walk_fault, word_fault}
use Rattle.clap.specs.Kinds.{Kinds, check_kinds, or_else}
use Rattle.clap.specs.Lexer.{long_of, short_of}
use Rattle.clap.specs.Simple.{App, Shape, entered, names_of}
use Rattle.clap.specs.Takes.{is_given}
use Rattle.clap.specs.Walk.{Held, Names, Row, Rule, Step, Text, Waiting, Walk, arg_by_id, arg_by_index, arg_by_long, arg_by_short, attached_value, finished}
use Rattle.clap.specs.Walk.{is_pending, next, settled, subcommand, subcommand_met, takes_several, takes_values, trailing, value, walk, walk_from, walked}
use Rattle.clap.specs.Walk.{word_met}
use Rattle.top_call.proofs.RuleAddresses.{defaults_fault-rebased, list_any-rebased, rebased, use_fault-rebased}
use Rattle.top_call.proofs.WalkAddresses.{by_id, by_index, by_long, by_short, finished-rebased, reacted-rebased, settled_rows-rebased, walk-rebased}
use Rattle.top_call.proofs.WalkAddresses.{walked-rebased, word_met-rebased}

module _ (c : List Rule) (again : Bool) where
  use-rebased : (o : Option Rule) (vs : List Text) (rows : List Row)
      → option_map_or (λ (a : Rule). use_fault again a vs rows) (option_map rebased o) [] ≡ option_map_or (λ (a : Rule). use_fault again a vs rows) o []
  use-rebased None vs rows = refl
  use-rebased (Some a) vs rows = use_fault-rebased again a vs rows

  settle_fault-rebased : (h : Held) → settle_fault (map rebased c) again h ≡ settle_fault c again h
  settle_fault-rebased h = go h.pending
    where
      go : (o : Option (Text × List Text))
          → option_map_or (λ (p : Text × List Text). option_map_or (λ (a : Rule). use_fault again a p.1 h.rows) (arg_by_id (map rebased c) p.0) []) o []
          ≡ option_map_or (λ (p : Text × List Text). option_map_or (λ (a : Rule). use_fault again a p.1 h.rows) (arg_by_id c p.0) []) o []
      go None = refl
      go (Some p) = ap (λ o. option_map_or (λ (a : Rule). use_fault again a p.1 h.rows) o []) (by_id c p.0) ∙ use-rebased (arg_by_id c p.0) p.1 h.rows

  react_fault-rebased : (a : Rule) (vs : List Text) (h : Held) → react_fault (map rebased c) again (rebased a) vs h ≡ react_fault c again a vs h
  react_fault-rebased a vs h = ap₂ or_else (settle_fault-rebased h)
      (use_fault-rebased again a vs (settled (map rebased c) h).rows ∙ ap (use_fault again a vs) (settled_rows-rebased c h.pending h.rows))

  option_fault-rebased : (a : Rule) (v : Option Text) (h : Held) → option_fault (map rebased c) again (rebased a) v h ≡ option_fault c again a v h
  option_fault-rebased a (Some v) h = react_fault-rebased a (v ∷ []) h
  option_fault-rebased a None h = settle_fault-rebased h

  long_fault-rebased : (o : Option Rule) (v : Option Text) (h : Held) → long_fault (map rebased c) again (option_map rebased o) v h ≡ long_fault c again o v h
  long_fault-rebased None v h = refl
  long_fault-rebased (Some a) v h = ap₂ (λ x y. if takes_values a then x else (if is_some v then kind.TooManyValues ∷ [] else y))
      (option_fault-rebased a v h) (react_fault-rebased a [] h)

  short_fault-rebased : (o : Option Rule) (rest : Text) (h : Held) (f g : Held → Kinds) → ((x : Held) → f x ≡ g x)
      → short_fault (map rebased c) again (option_map rebased o) rest h f ≡ short_fault c again o rest h g
  short_fault-rebased None rest h f g same = refl
  short_fault-rebased (Some a) rest h f g same = ap₂ (λ x y. if takes_values a then x else y) (option_fault-rebased a (attached_value rest) h)
      (ap₂ or_else (react_fault-rebased a [] h) (same _ ∙ ap g (reacted-rebased c a [] h)))

  bundle_step_fault-rebased : (o : Option ℕ) (flags : Text) (skip : ℕ) (h : Held) (f g : Text → ℕ → Held → Kinds)
      → ((t : Text) (n : ℕ) (x : Held) → f t n x ≡ g t n x) → bundle_step_fault (map rebased c) again o flags skip h f
      ≡ bundle_step_fault c again o flags skip h g
  bundle_step_fault-rebased None flags skip h f g same = refl
  bundle_step_fault-rebased (Some x) flags zero h f g same =
      let rest : Text = drop (length (encode_utf8 x)) flags in
      ap (λ o. short_fault (map rebased c) again o rest h (f rest 0)) (by_short c x)
      ∙ short_fault-rebased (arg_by_short c x) rest h (f rest 0) (g rest 0) (same rest 0)
  bundle_step_fault-rebased (Some x) flags (suc skip) h f g same = same (drop (length (encode_utf8 x)) flags) skip h

  flags_fault-rebased : (k : ℕ) (flags : Text) (skip : ℕ) (h : Held) → flags_fault (map rebased c) again k flags skip h ≡ flags_fault c again k flags skip h
  unfolding flags_fault
  flags_fault-rebased zero flags skip h = refl
  flags_fault-rebased (suc k) flags skip h =
      bundle_step_fault-rebased (slice_get (chars flags) 0) flags skip h (flags_fault (map rebased c) again k) (flags_fault c again k) (flags_fault-rebased k)

  bundles-rebased : (o : Option Text) (h : Held)
      → option_map_or (λ flags. bundle_fault (map rebased c) again flags h) o [] ≡ option_map_or (λ flags. bundle_fault c again flags h) o []
  bundles-rebased None h = refl
  bundles-rebased (Some flags) h = flags_fault-rebased (length flags) flags h.skip (record h { skip = 0 })

  flag_word_fault-rebased : (o : Option (Text × Option Text)) (word : Text) (h : Held) → flag_word_fault (map rebased c) again o word h
      ≡ flag_word_fault c again o word h
  flag_word_fault-rebased (Some p) word h = ap (λ o. long_fault (map rebased c) again o p.1 h) (by_long c p.0) ∙ long_fault-rebased (arg_by_long c p.0) p.1 h
  flag_word_fault-rebased None word h = bundles-rebased (short_of word) h

  positional_fault-rebased : (a : Rule) (h : Held) → positional_fault (map rebased c) again (rebased a) h ≡ positional_fault c again a h
  positional_fault-rebased a h = ap (λ k. if is_pending a h.pending && takes_several a then [] else k) (settle_fault-rebased h)

abbrev rebased_shape : Shape → Shape
rebased_shape s = record s { rules = map rebased s.rules }

module _ (s : Shape) where
  other_fault-rebased : (o : Option Text) (word : Text) (h : Held) → other_fault (rebased_shape s) o word h ≡ other_fault s o word h
  other_fault-rebased (Some name) word h = refl
  other_fault-rebased None word h = ap (λ k. if bytes_eq word (45 ∷ 45 ∷ []) then [] else k)
      (flag_word_fault-rebased s.rules s.args_override_self (long_of word) word h)

  word_fault-rebased : (names : Names) (is_trailing : Bool) (waiting : Waiting) (word : Text) (h : Held)
      → word_fault (rebased_shape s) names is_trailing waiting word h ≡ word_fault s names is_trailing waiting word h
  word_fault-rebased names is_trailing waiting word h = ap (λ k. if is_trailing then [] else k) (other_fault-rebased (subcommand_met names waiting word) word h)

  stray-rebased : (o : Option Rule) (h : Held)
      → option_map_or (λ (a : Rule). positional_fault (map rebased s.rules) s.args_override_self a h) (option_map rebased o) (stray_fault s)
      ≡ option_map_or (λ (a : Rule). positional_fault s.rules s.args_override_self a h) o (stray_fault s)
  stray-rebased None h = refl
  stray-rebased (Some a) h = positional_fault-rebased s.rules s.args_override_self a h

  step_fault-rebased : (position : ℕ) (h : Held) (x : Step) → step_fault (rebased_shape s) position h x ≡ step_fault s position h x
  step_fault-rebased position h (next waiting) = refl
  step_fault-rebased position h (trailing i) = refl
  step_fault-rebased position h (subcommand name) = refl
  step_fault-rebased position h value =
      ap (λ o. option_map_or (λ (a : Rule). positional_fault (map rebased s.rules) s.args_override_self a h) o (stray_fault s)) (by_index s.rules position)
      ∙ stray-rebased (arg_by_index s.rules position) h

  turn_fault-rebased : (names : Names) (w : Walk) (word : Text) → turn_fault (rebased_shape s) names w word ≡ turn_fault s names w word
  turn_fault-rebased names w word =
      let met = word_met (map rebased s.rules) names w.is_trailing w.waiting w.position word w.held in
      ap₂ (λ x y. if is_some w.stopped then [] else or_else x y) (word_fault-rebased names w.is_trailing w.waiting word w.held)
      (step_fault-rebased w.position met.0 met.1
      ∙ ap (λ (p : Held × Step). step_fault s w.position p.0 p.1) (word_met-rebased s.rules names w.is_trailing w.waiting w.position word w.held))

  walk_fault-rebased : (names : Names) (w : Walk) (words : List Text) → walk_fault (rebased_shape s) names w words ≡ walk_fault s names w words
  unfolding walk_fault
  walk_fault-rebased names w [] = refl
  walk_fault-rebased names w (word ∷ rest) = ap₂ or_else (turn_fault-rebased names w word)
      (walk_fault-rebased names (walked (map rebased s.rules) names w word) rest ∙ ap (λ x. walk_fault s names x rest) (walked-rebased s.rules names w word))

  check_fault-rebased : (rows : List Row) (has : Bool) → check_fault (rebased_shape s) rows has ≡ check_fault s rows has
  check_fault-rebased rows has = ap (λ x. check_kinds (not has && (s.arg_required_else_help && not (list_any (λ (r : Row). explicit_source r.source) rows)))
      (not has && s.subcommand_required) (not (s.subcommand_negates_reqs && has) && x))
      (list_any-rebased (λ (a : Rule). a.required && not (is_given a.id rows)) s.rules)

-- the faults that `clap` finds after its walk over the arguments
abbrev end_fault : Shape → Bool → Kinds → Held → Kinds
end_fault s has below h = or_else below (or_else (settle_fault s.rules s.args_override_self h)
    (or_else (defaults_fault (settled s.rules h).rows s.rules) (check_fault s (finished s.rules h) has)))

end_fault-rebased : (s : Shape) (has : Bool) (below : Kinds) (h : Held) → end_fault (rebased_shape s) has below h ≡ end_fault s has below h
end_fault-rebased s has below h = ap (or_else below) (ap₂ or_else (settle_fault-rebased s.rules s.args_override_self h) (ap₂ or_else
    (defaults_fault-rebased s.rules (settled (map rebased s.rules) h).rows
    ∙ ap (λ rows. defaults_fault rows s.rules) (settled_rows-rebased s.rules h.pending h.rows))
    (check_fault-rebased s (finished (map rebased s.rules) h) has ∙ ap (λ rows. check_fault s rows has) (finished-rebased s.rules h))))

level_fault-rebased : (s : Shape) (names : Names) (h : Held) (words : List Text) (has : Bool) (below : Kinds)
    → level_fault (rebased_shape s) names h words has below ≡ level_fault s names h words has below
level_fault-rebased s names h words has below = ap₂ or_else (walk_fault-rebased s names (walk_from h) words)
    (end_fault-rebased s has below (walk (map rebased s.rules) names h words).held
    ∙ ap (λ (w : Walk). end_fault s has below w.held) (walk-rebased s.rules names (walk_from h) words))

-- the command a, with the names that its arguments may have as values at address 0
abbrev pub rebased_app : App → App
rebased_app a = record a { top = rebased_shape a.top }

pub faults-rebased : (a : App) (h : Held) (words : List Text) → built_fault (rebased_app a) h words ≡ built_fault a h words
faults-rebased a h words =
    let stop = (walk (map rebased a.top.rules) (names_of a) h words).stopped in
    level_fault-rebased a.top (names_of a) h words (is_some (entered a stop)) (entered_fault a stop)
    ∙ ap (λ (w : Walk). level_fault a.top (names_of a) h words (is_some (entered a w.stopped)) (entered_fault a w.stopped))
    (walk-rebased a.top.rules (names_of a) (walk_from h) words)
