-- For `read_first_line`, `next_line` and the laws: the items of the bytes not yet read are the item of their first line, if it has one, and then those of the
-- later lines, whatever bytes are fed next. Also the lines, and the texts between line feeds, of bytes put before others; a line that is too long is bad.
use Rattle.std.proofs.Common.{◌≡◌, ◌∙◌, ◌+◌, ◌==◌, ◌||◌, ◌++◌, ◌⊎◌, inl, inr, ℕ, Bool, true, false, cond, List, [], ◌∷◌, None, length, take, drop, refl, sym}
use Rattle.std.proofs.Common.{ap, arith, append_assoc, append-nil, length-append}
use Rattle.std.proofs.lemmas.Bool.{false≢true, lt-ltb, ltb-true}
use Rattle.std.proofs.lemmas.List.{take_all, drop_all}
use Rattle.script_reader.specs.Items.{Item, Verdict, bad, breaks, gives, items_at, items_by, line_says, passes, verdict, wrong}
use Rattle.script_reader.specs.Lines.{is_last_line, is_too_long, lines, lines_among, onto_first, stretches}
use Rattle.script_reader.specs.Reading.{HasNoLine, IsFirstLine, Reading, holds_line_feed, items_left, to_come}
use Rattle.script_reader.specs.declared.stage.Stage.{Stage}

pub some_stretch : (g : List ℕ) → (l : List ℕ) × (ls : List (List ℕ)) × (stretches g ≡ l ∷ ls)
some_stretch [] = ([], [], refl)
some_stretch (x ∷ r) = go (x == 10) (some_stretch r)
  where
    go : (b : Bool) → ((l : List ℕ) × (ls : List (List ℕ)) × (stretches r ≡ l ∷ ls))
        → (l : List ℕ) × (ls : List (List ℕ)) × (cond b ([] ∷ stretches r) (onto_first x (stretches r)) ≡ l ∷ ls)
    go true rest = ([], stretches r, refl)
    go false rest = (x ∷ rest.0, rest.1, ap (onto_first x) rest.2)

-- if bytes with no line feed are put before a text, its first stretch alone grows (stretches are the texts between line feeds)
pub stretches_behind : (a g l : List ℕ) (ls : List (List ℕ)) → holds_line_feed a ≡ false → stretches g ≡ l ∷ ls → stretches (a ++ g) ≡ (a ++ l) ∷ ls
stretches_behind [] g l ls none is = is
stretches_behind (x ∷ a) g l ls none is = go (x == 10) none (stretches_behind a g l ls)
  where
    go : (b : Bool) → (b || holds_line_feed a) ≡ false → (holds_line_feed a ≡ false → stretches g ≡ l ∷ ls → stretches (a ++ g) ≡ (a ++ l) ∷ ls)
        → cond b ([] ∷ stretches (a ++ g)) (onto_first x (stretches (a ++ g))) ≡ (x ∷ (a ++ l)) ∷ ls
    go true none rest = absurd (false≢true (sym none))
    go false none rest = ap (onto_first x) (rest none is)

pub stretches_closed : (a r : List ℕ) → holds_line_feed a ≡ false → stretches (a ++ (10 ∷ r)) ≡ a ∷ stretches r
stretches_closed a r none = stretches_behind a (10 ∷ r) [] (stretches r) none refl ∙ ap (λ (l : List ℕ). l ∷ stretches r) (append-nil a)

pub stretches_alone : (a : List ℕ) → holds_line_feed a ≡ false → stretches a ≡ a ∷ []
stretches_alone a none =
    ap stretches (sym (append-nil a)) ∙ stretches_behind a [] [] [] none refl ∙ ap (λ (l : List ℕ). l ∷ []) (append-nil a)

pub lines_closed : (a r : List ℕ) (e : Bool) → holds_line_feed a ≡ false → lines (a ++ (10 ∷ r)) e ≡ a ∷ lines r e
lines_closed a r e none =
    let rest = some_stretch r in
    ap (lines_among e) (stretches_closed a r none ∙ ap (λ (s : List (List ℕ)). a ∷ s) rest.2) ∙ ap (λ (s : List (List ℕ)). a ∷ lines_among e s) (sym rest.2)

pub lines_alone : (a : List ℕ) (e : Bool) → holds_line_feed a ≡ false → lines a e ≡ cond (is_last_line e a) (a ∷ []) []
lines_alone a e none = ap (lines_among e) (stretches_alone a none)

pub too_long_more : (a l : List ℕ) → is_too_long a ≡ true → is_too_long (a ++ l) ≡ true
too_long_more a l long = let h = ltb-true _ _ long in lt-ltb _ _ (omega (arith, length-append a l))

pub long_last : (e : Bool) (a : List ℕ) → is_too_long a ≡ true → is_last_line e a ≡ true
long_last e [] long = absurd (false≢true long)
long_last true (x ∷ r) long = refl
long_last false (x ∷ r) long = long

-- if a has no line feed and too many bytes for a line, the first line begins with a, whatever bytes follow
pub lines_long : (a more : List ℕ) (e : Bool) → holds_line_feed a ≡ false → is_too_long a ≡ true
    → (l : List ℕ) × (ls : List (List ℕ)) × (lines (a ++ more) e ≡ (a ++ l) ∷ ls)
lines_long a more e none long = go (some_stretch more)
  where
    go : ((l : List ℕ) × (ls : List (List ℕ)) × (stretches more ≡ l ∷ ls)) → (l : List ℕ) × (ls : List (List ℕ)) × (lines (a ++ more) e ≡ (a ++ l) ∷ ls)
    go (l, [], is) = (l, [], ap (lines_among e) (stretches_behind a more l [] none is) ∙ rw (long_last e (a ++ l) (too_long_more a l long)) refl)
    go (l, next ∷ ls, is) = (l, lines_among e (next ∷ ls), ap (lines_among e) (stretches_behind a more l (next ∷ ls) none is))

pub says_wrong : (line : List ℕ) → is_too_long line ≡ true → line_says line ≡ wrong
says_wrong line long = rw long refl

pub come_closed : (ended : Bool) (t d more : List ℕ) → to_come ended (t ++ (10 ∷ d)) more ≡ t ++ (10 ∷ to_come ended d more)
come_closed true t d more = refl
come_closed false t d more = append_assoc t (10 ∷ d) more

abbrev pub items_come : List ℕ → Bool → List ℕ → Bool → ℕ → Stage → List Item
items_come kept ended more e n stage = items_at (lines (to_come ended kept more) (ended || e)) n stage

closed_items : (kept t d : List ℕ) (ended : Bool) → kept ≡ t ++ (10 ∷ d) → holds_line_feed t ≡ false → (more : List ℕ) (e : Bool) (n : ℕ) (stage : Stage)
    → items_come kept ended more e n stage ≡ items_by (verdict stage (line_says t)) n stage (items_come d ended more e (n + 1))
closed_items kept t d ended is none more e n stage =
    ap (λ (k : List ℕ). items_come k ended more e n stage) is
    ∙ ap (λ (g : List ℕ). items_at (lines g (ended || e)) n stage) (come_closed ended t d more)
    ∙ ap (λ (ls : List (List ℕ)). items_at ls n stage) (lines_closed t (to_come ended d more) (ended || e) none)

open_items : (kept : List ℕ) (ended : Bool) → holds_line_feed kept ≡ false → is_last_line ended kept ≡ true → (more : List ℕ) (e : Bool) (n : ℕ) (stage : Stage)
    → items_come kept ended more e n stage ≡ items_by (verdict stage (line_says kept)) n stage (items_come [] ended more e (n + 1))
open_items kept true none last more e n stage =
    let one : cond (is_last_line true kept) (kept ∷ []) [] ≡ kept ∷ [] = rw last refl in
    ap (λ (ls : List (List ℕ)). items_at ls n stage) (lines_alone kept true none ∙ one)
open_items [] false none last more e n stage = absurd (false≢true last)
open_items (x ∷ r) false none last more e n stage =
    let whole = lines_long (x ∷ r) more e none last in
    ap (λ (ls : List (List ℕ)). items_at ls n stage) whole.2
    ∙ rw (says_wrong (x ∷ r ++ whole.0) (too_long_more (x ∷ r) whole.0 last), says_wrong (x ∷ r) last) refl

-- the items from the first line on
pub first_items : (kept : List ℕ) (ended : Bool) (len next : ℕ) → IsFirstLine kept ended len next → (more : List ℕ) (e : Bool) (n : ℕ) (stage : Stage)
    → items_come kept ended more e n stage
    ≡ items_by (verdict stage (line_says (take len kept))) n stage (items_come (drop next kept) ended more e (n + 1))
first_items kept ended len next h more e n stage = go h.cut
  where
    go : ((kept ≡ take len kept ++ (10 ∷ drop next kept)) × (holds_line_feed (take len kept) ≡ false))
        ⊎ ((len ≡ length kept) × (next ≡ length kept) × (holds_line_feed kept ≡ false) × (is_last_line ended kept ≡ true))
        → items_come kept ended more e n stage
        ≡ items_by (verdict stage (line_says (take len kept))) n stage (items_come (drop next kept) ended more e (n + 1))
    go (inl h) = closed_items kept (take len kept) (drop next kept) ended h.0 h.1 more e n stage
    go (inr h) = rw (take_all len kept (omega arith), drop_all next kept (omega arith)) (open_items kept ended h.2 h.3 more e n stage)

-- if the kept bytes hold no line, they have no item
pub no_items : (kept : List ℕ) (ended : Bool) → HasNoLine kept ended → (n : ℕ) (stage : Stage) → items_at (lines kept ended) n stage ≡ []
no_items kept ended h n stage =
    let nothing : cond (is_last_line ended kept) (kept ∷ []) [] ≡ [] = rw h.1 refl in
    ap (λ (ls : List (List ℕ)). items_at ls n stage) (lines_alone kept ended h.0 ∙ nothing)

-- the reading after its first line, of `at` bytes with the line feed, which leads to the stage `next`
abbrev pub after_line : Reading → ℕ → Stage → Reading
after_line old at next = record old { kept = drop at old.kept; passed = old.passed + 1; stage = next }

-- the verdict on the first line, of `len` bytes without its line feed
abbrev pub first_verdict : Reading → ℕ → Verdict
first_verdict old len = verdict old.stage (line_says (take len old.kept))

-- the items left, by the verdict on the first line
module _ (old : Reading) (len at : ℕ) (going : old.stopped ≡ None) (first : IsFirstLine old.kept old.ended len at) where
  pub line_passes : first_verdict old len ≡ passes → (more : List ℕ) (e : Bool) → items_left old more e ≡ items_left (after_line old at old.stage) more e
  line_passes is more e = let items = first_items old.kept old.ended len at first more e old.passed old.stage in rw going (items ∙ rw is refl)

  pub line_in_place : (item : Item) (next : Stage) → first_verdict old len ≡ gives item next → (more : List ℕ) (e : Bool)
      → items_left old more e ≡ item ∷ items_left (after_line old at next) more e
  line_in_place item next is more e = let items = first_items old.kept old.ended len at first more e old.passed old.stage in rw going (items ∙ rw is refl)

  pub line_out_of_place : first_verdict old len ≡ breaks → (more : List ℕ) (e : Bool) → items_left old more e ≡ bad (old.passed + 1) ∷ []
  line_out_of_place is more e = let items = first_items old.kept old.ended len at first more e old.passed old.stage in rw going (items ∙ rw is refl)
