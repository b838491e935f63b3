-- For the law `all_such_commands_read_alike`: the crate `clap`, in its walk over the arguments, finds the same values at whatever addresses the names of
-- modes and kinds are.
use Rattle.std.proofs.Common.{◌≡◌, ◌∙◌, ◌&&◌, ◌||◌, ℕ, Bool, zero, suc, false, not, List, [], ◌∷◌, map, length, refl, sym, ap, ap₂, Option, Some, None}
use Rattle.std.proofs.Common.{is_some, if◌then◌else◌}
use Rattle.std.specs.List.{fold}
use Rattle.std.specs.Option.{option_map, option_map_or}
use Rattle.std.specs.Prelude.{slice_get, drop, encode_utf8, ◌==◌}
use Rattle.std.specs.Str.{bytes_eq, chars}
use Rattle.clap.specs.Lexer.{long_of, short_of}
use Rattle.clap.specs.Walk.{Held, Names, Outcome, Row, Rule, Step, Text, Waiting, Walk, after_flag, after_step, arg_by_id, arg_by_index, arg_by_long}
use Rattle.clap.specs.Walk.{arg_by_short, attached_value, bundle_met, bundle_step, done, finished, flag_met, has_long, has_short, idle, is_multiple}
use Rattle.clap.specs.Walk.{is_pending, long_met, long_or_other, next, next_position, nothing_held, option, option_met, option_word, plain, plain_word}
use Rattle.clap.specs.Walk.{positional, pushed, reacted, rows_after, settled, settled_rows, short_met, short_or_plain, subcommand, subcommand_met}
use Rattle.clap.specs.Walk.{subcommand_or_other, takes_several, takes_values, to_positional, trailing, used, used_by_id, value, waits, walk, walk_from}
use Rattle.clap.specs.Walk.{walked, walked_from, with_default, word_met}
use Rattle.clap.proofs.WalkLemmas.{find-map}
use Rattle.top_call.proofs.RuleAddresses.{defaults-rebased, rebased, used-rebased}

-- the walk over the arguments after a positional argument, whose rule is a, got its word
abbrev placed : Rule → Walk → Held → Walk
placed a w h = record {
  held = h;
  waiting = if is_multiple a then positional else idle;
  position = next_position a w.position;
  is_trailing = w.is_trailing || a.trailing_var_arg;
  stopped = None;
}

module _ (c : List Rule) where
  pub by_id : (id : Text) → arg_by_id (map rebased c) id ≡ option_map rebased (arg_by_id c id)
  by_id id = sym (find-map (λ (a : Rule). bytes_eq a.id id) rebased c)

  pub by_long : (name : Text) → arg_by_long (map rebased c) name ≡ option_map rebased (arg_by_long c name)
  by_long name = sym (find-map (λ (a : Rule). not (is_some a.index) && has_long a name) rebased c)

  pub by_short : (x : ℕ) → arg_by_short (map rebased c) x ≡ option_map rebased (arg_by_short c x)
  by_short x = sym (find-map (λ (a : Rule). not (is_some a.index) && has_short a x) rebased c)

  pub by_index : (i : ℕ) → arg_by_index (map rebased c) i ≡ option_map rebased (arg_by_index c i)
  by_index i = sym (find-map (λ (a : Rule). option_map_or (λ k. k == i) a.index false) rebased c)

  pub settled_rows-rebased : (p : Option (Text × List Text)) (rows : List Row) → settled_rows (map rebased c) p rows ≡ settled_rows c p rows
  settled_rows-rebased None rows = refl
  settled_rows-rebased (Some p) rows = ap (λ o. used_by_id o p.1 rows) (by_id p.0) ∙ go (arg_by_id c p.0)
    where
      go : (o : Option Rule) → used_by_id (option_map rebased o) p.1 rows ≡ used_by_id o p.1 rows
      go None = refl
      go (Some a) = used-rebased a p.1 rows

  settled-rebased : (h : Held) → settled (map rebased c) h ≡ settled c h
  settled-rebased h = ap (λ rows. record h { rows = rows; pending = None }) (settled_rows-rebased h.pending h.rows)

  pub reacted-rebased : (a : Rule) (vs : List Text) (h : Held) → reacted (map rebased c) (rebased a) vs h ≡ reacted c a vs h
  reacted-rebased a vs h = ap (λ rows. record h { rows = rows; pending = None })
      (used-rebased a vs _ ∙ ap (used a vs) (settled_rows-rebased h.pending h.rows))

  option_met-rebased : (a : Rule) (v : Option Text) (h : Held) → option_met (map rebased c) (rebased a) v h ≡ option_met c a v h
  option_met-rebased a (Some v) h = ap (λ x. (x, done)) (reacted-rebased a (v ∷ []) h)
  option_met-rebased a None h = ap (λ (x : Held). (record x { pending = Some (a.id, []) }, waits a.id)) (settled-rebased h)

  flag_met-rebased : (a : Rule) (v : Option Text) (h : Held) → flag_met (map rebased c) (rebased a) v h ≡ flag_met c a v h
  flag_met-rebased a (Some v) h = refl
  flag_met-rebased a None h = ap (λ x. (x, done)) (reacted-rebased a [] h)

  long_met-rebased : (o : Option Rule) (v : Option Text) (h : Held) → long_met (map rebased c) (option_map rebased o) v h ≡ long_met c o v h
  long_met-rebased None v h = refl
  long_met-rebased (Some a) v h = ap₂ (λ x y. if takes_values a then x else y) (option_met-rebased a v h) (flag_met-rebased a v h)

  short_met-rebased : (o : Option Rule) (rest : Text) (h : Held) (f g : Held → Held × Outcome) → ((x : Held) → f x ≡ g x)
      → short_met (map rebased c) (option_map rebased o) rest h f ≡ short_met c o rest h g
  short_met-rebased None rest h f g same = refl
  short_met-rebased (Some a) rest h f g same = ap₂ (λ x y. if takes_values a then x else y) (option_met-rebased a (attached_value rest) h)
      (same _ ∙ ap g (reacted-rebased a [] h))

  bundle_step-rebased : (o : Option ℕ) (flags : Text) (skip : ℕ) (so_far : Outcome) (h : Held) (f g : Text → ℕ → Outcome → Held → Held × Outcome)
      → ((t : Text) (n : ℕ) (x : Outcome) (y : Held) → f t n x y ≡ g t n x y) → bundle_step (map rebased c) o flags skip so_far h f
      ≡ bundle_step c o flags skip so_far h g
  bundle_step-rebased None flags skip so_far h f g same = refl
  bundle_step-rebased (Some x) flags zero so_far h f g same =
      let rest : Text = drop (length (encode_utf8 x)) flags in
      ap (λ o. short_met (map rebased c) o rest h (f rest 0 done)) (by_short x)
      ∙ short_met-rebased (arg_by_short c x) rest h (f rest 0 done) (g rest 0 done) (same rest 0 done)
  bundle_step-rebased (Some x) flags (suc skip) so_far h f g same = same (drop (length (encode_utf8 x)) flags) skip so_far h

  bundle_met-rebased : (k : ℕ) (flags : Text) (skip : ℕ) (so_far : Outcome) (h : Held) → bundle_met (map rebased c) k flags skip so_far h
      ≡ bundle_met c k flags skip so_far h
  unfolding bundle_met
  bundle_met-rebased zero flags skip so_far h = refl
  bundle_met-rebased (suc k) flags skip so_far h =
      bundle_step-rebased (slice_get (chars flags) 0) flags skip so_far h (bundle_met (map rebased c) k) (bundle_met c k) (bundle_met-rebased k)

  option_word-rebased : (o : Option Rule) (id word : Text) (h : Held) → option_word (option_map rebased o) id word h ≡ option_word o id word h
  option_word-rebased None id word h = refl
  option_word-rebased (Some a) id word h = refl

  plain_word-rebased : (waiting : Waiting) (word : Text) (h : Held) → plain_word (map rebased c) waiting word h ≡ plain_word c waiting word h
  plain_word-rebased idle word h = refl
  plain_word-rebased positional word h = refl
  plain_word-rebased (option id) word h = ap (λ (p : Held × Waiting). (p.0, next p.1))
      (ap (λ o. option_word o id word h) (by_id id) ∙ option_word-rebased (arg_by_id c id) id word h)

  after_flag-rebased : (waiting : Waiting) (word : Text) (h : Held) (x : Outcome) → after_flag (map rebased c) waiting word h x ≡ after_flag c waiting word h x
  after_flag-rebased waiting word h done = refl
  after_flag-rebased waiting word h (waits id) = refl
  after_flag-rebased waiting word h other = plain_word-rebased waiting word h

  after_met : (waiting : Waiting) (word : Text) (p q : Held × Outcome) → p ≡ q → after_flag (map rebased c) waiting word p.0 p.1
      ≡ after_flag c waiting word q.0 q.1
  after_met waiting word p q same = after_flag-rebased waiting word p.0 p.1 ∙ ap (λ (x : Held × Outcome). after_flag c waiting word x.0 x.1) same

  short_or_plain-rebased : (waiting : Waiting) (word : Text) (o : Option Text) (h : Held) → short_or_plain (map rebased c) waiting word o h
      ≡ short_or_plain c waiting word o h
  short_or_plain-rebased waiting word (Some flags) h = after_met waiting word _ _ (bundle_met-rebased (length flags) flags h.skip plain (record h { skip = 0 }))
  short_or_plain-rebased waiting word None h = plain_word-rebased waiting word h

  long_or_other-rebased : (waiting : Waiting) (word : Text) (o : Option (Text × Option Text)) (h : Held) → long_or_other (map rebased c) waiting word o h
      ≡ long_or_other c waiting word o h
  long_or_other-rebased waiting word (Some p) h = after_met waiting word _ _
      (ap (λ o. long_met (map rebased c) o p.1 h) (by_long p.0) ∙ long_met-rebased (arg_by_long c p.0) p.1 h)
  long_or_other-rebased waiting word None h = short_or_plain-rebased waiting word (short_of word) h

  subcommand_or_other-rebased : (o : Option Text) (waiting : Waiting) (position : ℕ) (word : Text) (h : Held)
      → subcommand_or_other (map rebased c) o waiting position word h ≡ subcommand_or_other c o waiting position word h
  subcommand_or_other-rebased (Some name) waiting position word h = refl
  subcommand_or_other-rebased None waiting position word h =
      ap (λ x. if bytes_eq word (45 ∷ 45 ∷ []) then (h, trailing position) else x) (long_or_other-rebased waiting word (long_of word) h)

  pub word_met-rebased : (names : Names) (is_trailing : Bool) (waiting : Waiting) (position : ℕ) (word : Text) (h : Held)
      → word_met (map rebased c) names is_trailing waiting position word h ≡ word_met c names is_trailing waiting position word h
  word_met-rebased names is_trailing waiting position word h =
      ap (λ x. if is_trailing then (h, value) else x) (subcommand_or_other-rebased (subcommand_met names waiting word) waiting position word h)

  to_positional-rebased : (o : Option Rule) (word : Text) (w : Walk) (h : Held) → to_positional (map rebased c) (option_map rebased o) word w h
      ≡ to_positional c o word w h
  to_positional-rebased None word w h = refl
  to_positional-rebased (Some a) word w h = ap (λ x. placed a w (pushed a.id word (if is_pending a h.pending && takes_several a then h else x)))
      (settled-rebased h)

  after_step-rebased : (word : Text) (w : Walk) (h : Held) (s : Step) → after_step (map rebased c) word w h s ≡ after_step c word w h s
  after_step-rebased word w h (next waiting) = refl
  after_step-rebased word w h (trailing position) = refl
  after_step-rebased word w h (subcommand name) = refl
  after_step-rebased word w h value = ap (λ o. to_positional (map rebased c) o word w h) (by_index w.position)
      ∙ to_positional-rebased (arg_by_index c w.position) word w h

  walked_from-rebased : (names : Names) (o : Option (Text × List Text)) (w : Walk) (word : Text) → walked_from (map rebased c) names o w word
      ≡ walked_from c names o w word
  walked_from-rebased names (Some p) w word = refl
  walked_from-rebased names None w word =
      let met = word_met (map rebased c) names w.is_trailing w.waiting w.position word w.held in
      after_step-rebased word w met.0 met.1
      ∙ ap (λ (p : Held × Step). after_step c word w p.0 p.1) (word_met-rebased names w.is_trailing w.waiting w.position word w.held)

  pub walked-rebased : (names : Names) (w : Walk) (word : Text) → walked (map rebased c) names w word ≡ walked c names w word
  unfolding walked
  walked-rebased names w word = walked_from-rebased names w.stopped w word

  pub walk-rebased : (names : Names) (w : Walk) (words : List Text) → fold (walked (map rebased c) names) w words ≡ fold (walked c names) w words
  walk-rebased names w [] = refl
  walk-rebased names w (word ∷ rest) = walk-rebased names (walked (map rebased c) names w word) rest
      ∙ ap (λ x. fold (walked c names) x rest) (walked-rebased names w word)

  pub finished-rebased : (h : Held) → finished (map rebased c) h ≡ finished c h
  finished-rebased h = defaults-rebased c (settled (map rebased c) h).rows ∙ ap (λ rows. fold with_default rows c) (settled_rows-rebased h.pending h.rows)

  -- the rows that `clap` finds: for each argument its name and its texts
  pub rows-rebased : (names : Names) (words : List Text) → rows_after (map rebased c) names words ≡ rows_after c names words
  rows-rebased names words = finished-rebased (walk (map rebased c) names nothing_held words).held
      ∙ ap (λ (w : Walk). finished c w.held) (walk-rebased names (walk_from nothing_held) words)
