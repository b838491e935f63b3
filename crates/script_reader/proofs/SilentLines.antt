-- For `has_no_item` and `read_item`: which lines are blank or comments, and which item each other line has.
use Rattle.std.proofs.Common.{◌≡◌, ◌∙◌, ◌<◌, ◌==◌, ℕ, suc, Bool, true, false, cond, not, List, [], ◌∷◌, Option, Some, None, length, take, drop, get_or}
use Rattle.std.proofs.Common.{if◌then◌else◌, option_map, refl, sym, ap, arith, codes}
use Rattle.std.proofs.Math.Bool.{and-false}
use Rattle.std.proofs.Math.Seq.{drop-cons}
use Rattle.std.proofs.lemmas.Bool.{ltb-false, ltb-true, ne_eqb, not-true}
use Rattle.std.proofs.lemmas.List.{drop_all}
use Rattle.std.proofs.lemmas.List.Sums.{passes_at_first}
use Rattle.std.specs.Prelude.{position, nat_lt}
use Rattle.std.specs.List.{position_or_len}
use Rattle.std.specs.Str.{bytes_eq}
use Rattle.script_reader.specs.Answered.{saying_if, is_blank_or_comment, some_if}
use Rattle.script_reader.specs.Commands.{letter_command, word_command}
use Rattle.script_reader.specs.Items.{Item, asks, item_in, item_or_wrong, nothing, tokens_say}
use Rattle.script_reader.specs.Lines.{is_gap, tokens}
use Rattle.script_reader.specs.declared.command.Command.{Command}
use Rattle.script_reader.specs.declared.next.Next.{Next}
use Rattle.script_reader.specs.declared.next.Next.TheVariants as answer
use Rattle.script_reader.proofs.Words.{gaps_in, past_gaps, run}

item_speaks : (o : Option Item) → is_blank_or_comment (item_or_wrong o) ≡ false
item_speaks None = refl
item_speaks (Some i) = refl

comment_or_item : (b : Bool) (o : Option Item) → is_blank_or_comment (if b then nothing else item_or_wrong o) ≡ b
comment_or_item true o = refl
comment_or_item false o = item_speaks o

-- if a line isn't all gaps, it is a comment if and only if its first byte that is no gap is `#` (35)
first_byte : (t : List ℕ) → gaps_in t < length t → (get_or t (gaps_in t) 0 == 35) ≡ is_blank_or_comment (tokens_say (tokens t))
first_byte t below =
    let x = get_or t (gaps_in t) 0 in
    let r = drop (suc (gaps_in t)) t in
    let isnt : is_gap x ≡ false = not-true (is_gap x) (passes_at_first (λ b. not (is_gap b)) t 0 below) in
    let first : tokens t ≡ (x ∷ take (position_or_len is_gap r) r) ∷ tokens (drop (position_or_len is_gap r) r) =
    sym (past_gaps t) ∙ ap tokens (drop-cons t (gaps_in t) 0 below) ∙ run x r isnt in
    sym (ap (λ (ts : List (List ℕ)). is_blank_or_comment (tokens_say ts)) first ∙ comment_or_item (x == 35) _)

pub silent_at : (t : List ℕ) (at : ℕ) → Some at ≡ position (λ x. not (is_gap x)) t → (get_or t at 0 == 35) ≡ is_blank_or_comment (tokens_say (tokens t))
silent_at t at h = go (nat_lt (gaps_in t) (length t)) refl h
  where
    go : (b : Bool) → nat_lt (gaps_in t) (length t) ≡ b → Some at ≡ cond b (Some (gaps_in t)) None
        → (get_or t at 0 == 35) ≡ is_blank_or_comment (tokens_say (tokens t))
    go false isnt h = absurd cc
    go true is h = let place : at ≡ gaps_in t = cc in rw place (first_byte t (ltb-true _ _ is))

-- a text whose first byte is greater than `#` begins with an item: it is neither blank nor a comment
pub item_at_once : (t : List ℕ) → 0 < length t → 35 < get_or t 0 0 → false ≡ is_blank_or_comment (tokens_say (tokens t))
item_at_once [] some past = absurd (omega arith)
item_at_once (x ∷ r) some past =
    let isnt : is_gap x ≡ false = rw (ne_eqb x 32 (λ e. omega (arith, e, past)), ne_eqb x 9 (λ e. omega (arith, e, past))) refl in
    sym (ap (λ (ts : List (List ℕ)). is_blank_or_comment (tokens_say ts)) (run x r isnt) ∙ comment_or_item (x == 35) _ ∙ ne_eqb x 35 (λ e. omega (arith, e, past)))

pub silent_gaps : (t : List ℕ) → None ≡ position (λ x. not (is_gap x)) t → true ≡ is_blank_or_comment (tokens_say (tokens t))
silent_gaps t h = go (nat_lt (gaps_in t) (length t)) refl h
  where
    go : (b : Bool) → nat_lt (gaps_in t) (length t) ≡ b → None ≡ cond b (Some (gaps_in t)) None
        → true ≡ is_blank_or_comment (tokens_say (tokens t))
    go true is h = absurd cc
    go false isnt h =
        let none : tokens t ≡ [] = sym (past_gaps t) ∙ ap tokens (drop_all (gaps_in t) t (ltb-false _ _ isnt)) in
        sym (ap (λ (ts : List (List ℕ)). is_blank_or_comment (tokens_say ts)) none)

-- the meaning of a line, from what the code found in it (`formed` and n), is that of its command c; it is `wrong` if c is none
pub command_said : (formed : Bool) (n : Next) (c : Option Command) → some_if formed n ≡ option_map answer.Command c
    → saying_if formed n ≡ item_or_wrong (option_map asks c)
command_said true n (Some c) read = let e : n ≡ answer.Command c = cc in rw e refl
command_said true n None read = absurd cc
command_said false n (Some c) read = absurd cc
command_said false n None read = refl

not_heap : (x : ℕ) → bytes_eq (x ∷ []) (codes "heap") ≡ false
not_heap x = and-false (x == 104)

-- the item of a line whose first token has one letter
pub one_letter : (word : List ℕ) (args : List (List ℕ)) → length word ≡ 1 → item_in word args ≡ option_map asks (letter_command (get_or word 0 0) args)
one_letter [] args one = absurd cc
one_letter (x ∷ []) args one = rw (not_heap x) refl
one_letter (x ∷ y ∷ r) args one = absurd (omega (arith, one))

-- the item of a line whose first token is longer and isn't `heap`
pub longer_word : (word : List ℕ) (args : List (List ℕ)) → ¬ (length word ≡ 1) → bytes_eq word (codes "heap") ≡ false
    → item_in word args ≡ option_map asks (word_command word args)
longer_word [] args more other = refl
longer_word (x ∷ []) args more other = absurd (more refl)
longer_word (x ∷ y ∷ r) args more other = rw other refl
