-- For `words_of`: the words taken so far and the parts of the text that is left are the parts of the whole text.
use Rattle.std.proofs.Common.{◌≡◌, ◌∙◌, ◌++◌, ◌∷◌, ◌==◌, ℕ, List, [], ap, sym, map}
use Rattle.std.proofs.lemmas.List.{append_assoc, map-append}
use Rattle.std.specs.List.{slice_split}
use Rattle.clap.proofs.CutLemmas.{Lacks, slice_split-at, slice_split-Lacks}

-- the parts of a text that line feeds separate
abbrev pub parts : List ℕ → List (List ℕ)
parts text = slice_split (λ b. b == 10) text

-- one word more, `word`, from the text `rest`, in which `more` comes after its line feed
pub one_more : {X : Type 0} (f : X → List ℕ) (ws : List X) (w : X) (word rest more : List ℕ) (all : List (List ℕ)) → map f ws ++ parts rest ≡ all
    → rest ≡ word ++ 10 ∷ more → Lacks 10 word → f w ≡ word → map f (ws ++ w ∷ []) ++ parts more ≡ all
one_more f ws w word rest more all was is lacks same =
    ap (λ l. l ++ parts more) (map-append f ws (w ∷ []))
    ∙ append_assoc (map f ws) (f w ∷ []) (parts more)
    ∙ ap (λ x. map f ws ++ x ∷ parts more) same
    ∙ ap (λ l. map f ws ++ l) (sym (slice_split-at 10 word more lacks))
    ∙ ap (λ l. map f ws ++ parts l) (sym is)
    ∙ was

-- the last word, all of the text `rest`, which has no line feed
pub last_one : {X : Type 0} (f : X → List ℕ) (ws : List X) (w : X) (rest : List ℕ) (all : List (List ℕ)) → map f ws ++ parts rest ≡ all → Lacks 10 rest → f w ≡ rest
    → map f (ws ++ w ∷ []) ≡ all
last_one f ws w rest all was lacks same =
    map-append f ws (w ∷ []) ∙ ap (λ x. map f ws ++ x ∷ []) same ∙ ap (λ l. map f ws ++ l) (sym (slice_split-Lacks 10 rest lacks)) ∙ was
