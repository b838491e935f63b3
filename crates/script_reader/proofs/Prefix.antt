-- For the law `items_stay`: the items of the first bytes of a script are the first items of the whole, whatever bytes follow.
use Rattle.std.proofs.Common.{◌≡◌, ◌∙◌, ◌+◌, ◌==◌, ◌++◌, ℕ, Bool, true, false, cond, List, [], ◌∷◌, refl, sym, ap}
use Rattle.script_reader.specs.Items.{AreFirstOf, Item, Verdict, bad, breaks, gives, items, items_at, items_by, line_says, passes, verdict}
use Rattle.script_reader.specs.Lines.{is_last_line, is_too_long, lines_among, onto_first, stretches}
use Rattle.script_reader.specs.declared.stage.Stage.{Stage}
use Rattle.script_reader.specs.declared.stage.Stage.TheVariants.{Opening}
use Rattle.script_reader.proofs.ItemLemmas.{long_last, says_wrong, some_stretch, too_long_more}

-- two lists of stretches (the texts between line feeds) joined: the last of the first list and the first of the second become one
abbrev pub glued : List (List ℕ) → List (List ℕ) → List (List ℕ)
glued [] ms = ms
glued (l ∷ []) [] = l ∷ []
glued (l ∷ []) (m ∷ ms) = (l ++ m) ∷ ms
glued (l ∷ k ∷ ls) ms = l ∷ glued (k ∷ ls) ms

onto_glued : (x : ℕ) (s t : List (List ℕ)) → onto_first x (glued s t) ≡ glued (onto_first x s) t
onto_glued x [] [] = refl
onto_glued x [] (m ∷ ms) = refl
onto_glued x (l ∷ []) [] = refl
onto_glued x (l ∷ []) (m ∷ ms) = refl
onto_glued x (l ∷ k ∷ ls) t = refl

closed_glued : (s t : List (List ℕ)) → ((l : List ℕ) × (ls : List (List ℕ)) × (s ≡ l ∷ ls)) → [] ∷ glued s t ≡ glued ([] ∷ s) t
closed_glued [] t some = absurd cc
closed_glued (k ∷ ls) t some = refl

pub stretches_glued : (g h : List ℕ) → stretches (g ++ h) ≡ glued (stretches g) (stretches h)
stretches_glued [] h = let some = some_stretch h in some.2 ∙ ap (glued ([] ∷ [])) (sym some.2)
stretches_glued (x ∷ r) h = go (x == 10) (stretches_glued r h)
  where
    go : (b : Bool) → stretches (r ++ h) ≡ glued (stretches r) (stretches h)
        → cond b ([] ∷ stretches (r ++ h)) (onto_first x (stretches (r ++ h))) ≡ glued (cond b ([] ∷ stretches r) (onto_first x (stretches r))) (stretches h)
    go true rest = ap (λ (s : List (List ℕ)). [] ∷ s) rest ∙ closed_glued (stretches r) (stretches h) (some_stretch r)
    go false rest = ap (onto_first x) rest ∙ onto_glued x (stretches r) (stretches h)

some_glued : (k : List ℕ) (ls t : List (List ℕ)) → (l : List ℕ) × (rest : List (List ℕ)) × (glued (k ∷ ls) t ≡ l ∷ rest)
some_glued k [] [] = (k, [], refl)
some_glued k [] (m ∷ ms) = (k ++ m, ms, refl)
some_glued k (j ∷ ls) t = (k, glued (j ∷ ls) t, refl)

among_more : (e : Bool) (l : List ℕ) (s : List (List ℕ)) → ((k : List ℕ) × (rest : List (List ℕ)) × (s ≡ k ∷ rest))
    → lines_among e (l ∷ s) ≡ l ∷ lines_among e s
among_more e l [] some = absurd cc
among_more e l (k ∷ rest) some = refl

by_first : (v : Verdict) (n : ℕ) (stage : Stage) (front all : Stage → List Item) → ((next : Stage) → AreFirstOf (front next) (all next))
    → AreFirstOf (items_by v n stage front) (items_by v n stage all)
by_first passes n stage front all rest = rest stage
by_first (gives item next) n stage front all rest = let first = rest next in (first.0, ap (λ (l : List Item). item ∷ l) first.1)
by_first breaks n stage front all rest = ([], refl)

long_is_bad : (line : List ℕ) (ls : List (List ℕ)) (n : ℕ) (stage : Stage) → is_too_long line ≡ true → items_at (line ∷ ls) n stage ≡ bad (n + 1) ∷ []
long_is_bad line ls n stage long = rw (says_wrong line long) refl

-- a last stretch that is too long for a line stays a bad line if more bytes follow it
long_goes_on : (l : List ℕ) (t : List (List ℕ)) (e : Bool) (n : ℕ) (stage : Stage) → is_too_long l ≡ true
    → items_at (lines_among e (glued (l ∷ []) t)) n stage ≡ bad (n + 1) ∷ []
long_goes_on l [] e n stage long = rw (long_last e l long) (long_is_bad l [] n stage long)
long_goes_on l (m ∷ []) e n stage long =
    rw (long_last e (l ++ m) (too_long_more l m long)) (long_is_bad (l ++ m) [] n stage (too_long_more l m long))
long_goes_on l (m ∷ k ∷ ms) e n stage long = long_is_bad (l ++ m) (lines_among e (k ∷ ms)) n stage (too_long_more l m long)

long_by_rest : (l : List ℕ) → is_last_line false l ≡ true → is_too_long l ≡ true
long_by_rest [] long = cc
long_by_rest (x ∷ r) long = long

among_first : (s t : List (List ℕ)) (e : Bool) (n : ℕ) (stage : Stage)
    → AreFirstOf (items_at (lines_among false s) n stage) (items_at (lines_among e (glued s t)) n stage)
among_first [] t e n stage = (items_at (lines_among e t) n stage, refl)
among_first (l ∷ []) t e n stage = go (is_last_line false l) refl
  where
    go : (b : Bool) → is_last_line false l ≡ b → AreFirstOf (items_at (cond b (l ∷ []) []) n stage) (items_at (lines_among e (glued (l ∷ []) t)) n stage)
    go false isnt = (items_at (lines_among e (glued (l ∷ []) t)) n stage, refl)
    go true is =
        let long = long_by_rest l is in
        ([], long_goes_on l t e n stage long ∙ sym (ap (λ (i : List Item). i ++ []) (long_is_bad l [] n stage long)))
among_first (l ∷ k ∷ ls) t e n stage =
    let first = by_first (verdict stage (line_says l)) n stage
    (items_at (lines_among false (k ∷ ls)) (n + 1)) (items_at (lines_among e (glued (k ∷ ls) t)) (n + 1))
    (λ next. among_first (k ∷ ls) t e (n + 1) next) in
    (first.0, ap (λ (s : List (List ℕ)). items_at s n stage) (among_more e l (glued (k ∷ ls) t) (some_glued k ls t)) ∙ first.1)

pub items_prefix : (g h : List ℕ) (e : Bool) → AreFirstOf (items g false) (items (g ++ h) e)
items_prefix g h e =
    let first = among_first (stretches g) (stretches h) e 0 Opening in
    (first.0, ap (λ (s : List (List ℕ)). items_at (lines_among e s) 0 Opening) (stretches_glued g h) ∙ first.1)
