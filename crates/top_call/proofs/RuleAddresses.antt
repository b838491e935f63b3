-- For the law `all_such_commands_read_alike`: the rule of the crate `clap` for one argument accepts, refuses and reads values as the same rule with its
-- names at address 0 does; so do the defaults of a list of rules.
use Rattle.std.proofs.Common.{◌≡◌, ◌∙◌, ◌||◌, Bool, List, [], ◌∷◌, map, refl, sym, ap, ap₂, Option, Some, None, if◌then◌else◌}
use Rattle.std.specs.Borrow.{Bor}
use Rattle.std.specs.List.{fold, list_any}
use Rattle.std.specs.Option.{option_map}
use Rattle.clap.specs.declared.builder.action.ArgAction.{ArgAction}
use Rattle.clap.specs.declared.builder.action.ArgAction.TheVariants.{Set, Append, SetTrue, SetFalse, Count}
use Rattle.clap.specs.declared.builder.value_parser.ValueParser.{ValueParser}
use Rattle.clap.specs.declared.builder.value_parser.ValueParser.TheVariants as vp
use Rattle.clap.specs.Facts.{parser_of_value}
use Rattle.clap.specs.Faults.{action_fault, count_fault, default_fault, defaults_fault, use_fault, values_fault}
use Rattle.clap.specs.Kinds.{or_else, request_kinds, value_kinds}
use Rattle.clap.specs.ValueTests.{accepts}
use Rattle.clap.specs.Values.{reading_of, refused_kind, same_text}
use Rattle.clap.specs.Walk.{Row, Rule, Text, action_of, default_rows, has_row, is_empty, reading_by, texts, used, used_as, values_or_missing}
use Rattle.clap.specs.Walk.{with_default}
use Rattle.clap.proofs.WalkLemmas.{list_any-map}

-- a reference to the text t, at address 0
abbrev pub at_zero : Text → Bor Text
at_zero t = record { ref_ptr = (0, 0); now = t }

-- the parser, with its names at address 0
abbrev pub rebased_parser : ValueParser → ValueParser
rebased_parser (vp.Names names) = vp.Names (record { ref_ptr = (0, 0); now = map at_zero (texts names.now) })
rebased_parser p = p

-- the rule a, with the names of its parser at address 0
abbrev pub rebased : Rule → Rule
rebased a = record a { parser = option_map rebased_parser a.parser }

names_accept : (i : Bool) (names : List (Bor Text)) (t : Text)
    → list_any (λ (name : Bor Text). same_text i name.now t) (map at_zero (texts names)) ≡ list_any (λ (name : Bor Text). same_text i name.now t) names
names_accept i [] t = refl
names_accept i (x ∷ xs) t = ap (λ b. same_text i x.now t || b) (names_accept i xs t)

accepts-rebased : (i : Bool) (p : ValueParser) (t : Text) → accepts i (rebased_parser p) t ≡ accepts i p t
accepts-rebased i (vp.Names names) t = names_accept i names.now t
accepts-rebased i p t = refl

refused-rebased : (p : ValueParser) → refused_kind (rebased_parser p) ≡ refused_kind p
refused-rebased (vp.Names names) = refl
refused-rebased p = refl

reading_of-rebased : (p : ValueParser) → reading_of (rebased_parser p) ≡ reading_of p
reading_of-rebased (vp.Names names) = refl
reading_of-rebased p = refl

parser-rebased : (o : Option ValueParser) → parser_of_value (option_map rebased_parser o) ≡ rebased_parser (parser_of_value o)
parser-rebased None = refl
parser-rebased (Some p) = refl

-- ---- one rule

reading-rebased : (a : Rule) → reading_by (rebased a) ≡ reading_by a
reading-rebased a = ap reading_of (parser-rebased a.parser) ∙ reading_of-rebased (parser_of_value a.parser)

value-rebased : (a : Rule) (t : Text) → value_kinds a.ignore_case (parser_of_value (rebased a).parser) t
    ≡ value_kinds a.ignore_case (parser_of_value a.parser) t
value-rebased a t = ap (λ p. value_kinds a.ignore_case p t) (parser-rebased a.parser)
    ∙ ap₂ (λ b k. if b then [] else k ∷ []) (accepts-rebased a.ignore_case (parser_of_value a.parser) t) (refused-rebased (parser_of_value a.parser))

values-rebased : (a : Rule) (vs : List Text) → values_fault (rebased a) vs ≡ values_fault a vs
values-rebased a [] = refl
values-rebased a (v ∷ vs) = ap₂ or_else (value-rebased a v) (values-rebased a vs)

pub used-rebased : (a : Rule) (vs : List Text) (rows : List Row) → used (rebased a) vs rows ≡ used a vs rows
used-rebased a vs rows = ap (λ how. used_as (action_of a) a.id how (values_or_missing a vs) rows) (reading-rebased a)

with_default-rebased : (rows : List Row) (a : Rule) → with_default rows (rebased a) ≡ with_default rows a
with_default-rebased rows a = ap (λ how. if has_row a.id rows then rows else default_rows a.id how a.defaults rows) (reading-rebased a)

count_fault-rebased : (a : Rule) (vs : List Text) (rows : List Row) → count_fault (rebased a) vs rows ≡ count_fault a vs rows
count_fault-rebased a [] rows = value-rebased a _
count_fault-rebased a (v ∷ vs) rows = values-rebased a (v ∷ vs)

action_fault-rebased : (x : ArgAction) (again : Bool) (a : Rule) (vs : List Text) (rows : List Row) → action_fault x again (rebased a) vs rows
    ≡ action_fault x again a vs rows
action_fault-rebased Set again a vs rows = ap (or_else _) (values-rebased a vs)
action_fault-rebased SetTrue again a vs rows = ap (or_else _) (values-rebased a vs)
action_fault-rebased SetFalse again a vs rows = ap (or_else _) (values-rebased a vs)
action_fault-rebased Append again a vs rows = values-rebased a vs
action_fault-rebased Count again a vs rows = count_fault-rebased a vs rows
action_fault-rebased other again a vs rows = refl

pub use_fault-rebased : (again : Bool) (a : Rule) (vs : List Text) (rows : List Row) → use_fault again (rebased a) vs rows ≡ use_fault again a vs rows
use_fault-rebased again a vs rows = ap (or_else _) (action_fault-rebased (action_of a) again a (values_or_missing a vs) rows)

default_fault-rebased : (rows : List Row) (a : Rule) → default_fault rows (rebased a) ≡ default_fault rows a
default_fault-rebased rows a =
    ap (λ k. if has_row a.id rows || is_empty a.defaults then [] else or_else (request_kinds (action_of a)) k) (values-rebased a a.defaults)

pub list_any-rebased : (p : Rule → Bool) (xs : List Rule) → list_any p (map rebased xs) ≡ list_any (λ a. p (rebased a)) xs
list_any-rebased p xs = sym (list_any-map p rebased xs)

pub defaults-rebased : (xs : List Rule) (rows : List Row) → fold with_default rows (map rebased xs) ≡ fold with_default rows xs
defaults-rebased [] rows = refl
defaults-rebased (a ∷ rest) rows = defaults-rebased rest (with_default rows (rebased a)) ∙ ap (λ r. fold with_default r rest) (with_default-rebased rows a)

pub defaults_fault-rebased : (xs : List Rule) (rows : List Row) → defaults_fault rows (map rebased xs) ≡ defaults_fault rows xs
unfolding defaults_fault
defaults_fault-rebased [] rows = refl
defaults_fault-rebased (a ∷ rest) rows = ap₂ or_else (default_fault-rebased rows a)
    (defaults_fault-rebased rest (with_default rows (rebased a)) ∙ ap (λ r. defaults_fault r rest) (with_default-rebased rows a))
