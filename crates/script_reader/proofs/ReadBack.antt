-- For the laws: by the grammar of scripts the line that is written for a command means this command, and a `heap` line followed by such lines is a script of
-- these commands.
use Rattle.std.proofs.Common.{◌≡◌, ◌∙◌, ◌≤◌, ◌+◌, ◌*◌, ◌++◌, ℕ, Bool, true, false, List, [], ◌∷◌, length, map, refl, sym, ap, arith}
use Rattle.std.proofs.Common.{Some, codes, append-nil, append_assoc}
use Rattle.std.proofs.Common.{length-append}
use Rattle.std.specs.Prelude.{⊤, option_map, if◌then◌else◌}
use Rattle.std.specs.Fmt.{decimal}
use Rattle.std.proofs.lemmas.Bool.Decides.{nat_tests}
use Rattle.hex.specs.Hex.{IsBytes, encode_lower}
use Rattle.hex.proofs.HexLemmas.{decode_of-encode_lower}
use Rattle.cf_base.specs.Settings.{profile_from}
use Rattle.cf_base.proofs.Tests.{within_limits}
use Rattle.cf_io.specs.Numbers.{number_in}
use Rattle.cf_io.proofs.CallerLemmas.{length_in_hex, number_of_decimal}
use Rattle.script_reader.specs.Commands.{bytes_in, number_from, settings_in}
use Rattle.script_reader.specs.Items.{asks, gives, is_bound, item, item_or_wrong, items, items_at, items_by, line_says, starts, tokens_say, verdict, wrong}
use Rattle.script_reader.specs.Lines.{is_too_long, lines, tokens, without_return}
use Rattle.script_reader.specs.declared.command.Command.{Command}
use Rattle.script_reader.specs.declared.command.Command.TheVariants.{Malloc, Free, Write, Read, Place, Block, Peek, Walk, Frag, Steps, Bound, Resize, Slice}
use Rattle.script_reader.specs.declared.command.Command.TheVariants.{Task, Quota, Need, Admit}
use Rattle.script_reader.specs.declared.stage.Stage.{Stage}
use Rattle.script_reader.specs.declared.stage.Stage.TheVariants.{Opening, Bounding, Running}
use Rattle.script_reader.specs.CommandText.{after_spaces, line_of, spaced, tokens_of, word_and_numbers}
use Rattle.script_reader.specs.ReadBack.{ArePlainCommands, CanOpen, IsCommand, IsShort, IsWord, command_lines, heap_line}
use Rattle.script_reader.proofs.TextLemmas.{AreWords, hex_token, number_token, number_tokens, numbers_short}
use Rattle.script_reader.proofs.TokenLemmas.{AreTokens, IsToken, high_by_test, line_cut, no_return, shown_spaced, tokens_spaced}

-- a number n that is written in decimal is read as n, if it is in the range of the field
number_back : (low high n : ℕ) → IsWord n → low ≤ n → n ≤ high → number_from low high (decimal n) ≡ Some n
number_back low high n word least most = rw (number_of_decimal n word, within_limits low high n least most) refl

id_back : (n : ℕ) → IsShort n → number_from 0 65535 (decimal n) ≡ Some n
id_back n short = number_back 0 65535 n (omega (arith, short)) (omega arith) short

word_back : (n : ℕ) → IsWord n → number_in (decimal n) ≡ Some n
word_back = number_of_decimal

task_back : (n : ℕ) → n ≤ 15 → number_from 0 15 (decimal n) ≡ Some n
task_back n few = number_back 0 15 n (omega (arith, few)) (omega arith) few

bytes_back : (bytes : List ℕ) → IsBytes bytes → 1 ≤ length bytes → length bytes ≤ 4096 → bytes_in (encode_lower bytes) ≡ Some bytes
bytes_back bytes are some few =
    let long = length_in_hex bytes in
    rw (within_limits 2 8192 (length (encode_lower bytes)) (omega arith) (omega arith), decode_of-encode_lower bytes are) refl

-- by the grammar the tokens of a command mean the command
pub tokens_back : (c : Command) → IsCommand c → tokens_say (tokens_of c) ≡ item (asks c)
tokens_back (Malloc id bytes) is = rw (id_back id is.typed.0, word_back bytes is.typed.1) refl
tokens_back (Free id) is = rw (id_back id is.typed) refl
tokens_back (Write id at bytes) is =
    rw (id_back id is.typed.0, word_back at is.typed.1, bytes_back bytes is.typed.2 is.formed.0 is.formed.1) refl
tokens_back (Read id at len) is =
    rw (id_back id is.typed.0, word_back at is.typed.1, number_back 0 4096 len (omega (arith, is.formed)) (omega arith) is.formed) refl
tokens_back (Place id) is = rw (id_back id is.typed) refl
tokens_back (Block id i) is = rw (id_back id is.typed.0, word_back i is.typed.1) refl
tokens_back (Peek word) is = rw (word_back word is.typed) refl
tokens_back Walk is = refl
tokens_back Frag is = refl
tokens_back Steps is = refl
tokens_back (Bound slot_words k) is =
    rw (word_back slot_words is.typed, number_back 1 64 k (omega (arith, is.formed.1)) is.formed.0 is.formed.1) refl
tokens_back (Resize id bytes) is = rw (id_back id is.typed.0, word_back bytes is.typed.1) refl
tokens_back Slice is = refl
tokens_back (Task task) is = rw (task_back task is.formed) refl
tokens_back (Quota task pages) is = rw (task_back task is.formed, word_back pages is.typed) refl
tokens_back (Need task bytes count) is = rw (task_back task is.formed, word_back bytes is.typed.0, word_back count is.typed.1) refl
tokens_back (Admit task) is = rw (task_back task is.formed) refl

-- a line of the token `word` and these numbers consists of tokens, and has at most 21 bytes for each number beside the word
record IsWordLine (word numbers : List ℕ) : Type 0 where
  tokens : AreTokens (word_and_numbers word numbers)
  short : length (spaced (word_and_numbers word numbers)) ≤ length word + 21 * length numbers

word_line : (word numbers : List ℕ) → IsToken word → AreWords numbers → IsWordLine word numbers
word_line word numbers is are = record {
  tokens = (is, number_tokens numbers are);
  short = (let few = numbers_short numbers are in let e = length-append word (after_spaces (map decimal numbers)) in omega arith);
}

-- each of these is a token, and a line of them has at most 8,999 bytes, so that the reader accepts it
record AreShort (ts : List (List ℕ)) : Type 0 where
  tokens : AreTokens ts
  short : length (spaced ts) ≤ 8999

of_words : (word numbers : List ℕ) → IsToken word → AreWords numbers → length word ≤ 5 → length numbers ≤ 4 → AreShort (word_and_numbers word numbers)
of_words word numbers is are low few =
    let line = word_line word numbers is are in record { tokens = line.tokens; short = (let s = line.short in omega arith) }

short_word : (n : ℕ) → IsShort n → IsWord n
short_word n short = omega (arith, short)

of_write : (id at : ℕ) (bytes : List ℕ) → IsShort id → IsWord at → IsBytes bytes → 1 ≤ length bytes → length bytes ≤ 4096
    → AreShort (codes "w" ∷ decimal id ∷ decimal at ∷ encode_lower bytes ∷ [])
of_write id at bytes short word are some few = record {
  tokens = (high_by_test (codes "w") refl, (number_token id (short_word id short), (number_token at word, (hex_token bytes some are, tt))));
  short = (
      let numbers = numbers_short (id ∷ at ∷ []) (short_word id short, (word, tt)) in
      let e = length-append (decimal id) ((32 ∷ decimal at) ++ ((32 ∷ encode_lower bytes) ++ [])) in
      let f = length-append (decimal at) ((32 ∷ encode_lower bytes) ++ []) in
      let g = length-append (encode_lower bytes) [] in
      let h = length-append (decimal id) ((32 ∷ decimal at) ++ []) in
      let i = length-append (decimal at) [] in
      let long = length_in_hex bytes in
      omega arith);
}

short_line : (c : Command) → IsCommand c → AreShort (tokens_of c)
short_line (Malloc id bytes) is =
    of_words (codes "m") (id ∷ bytes ∷ []) (high_by_test (codes "m") refl) (short_word id is.typed.0, (is.typed.1, tt)) (omega arith) (omega arith)
short_line (Free id) is = of_words (codes "f") (id ∷ []) (high_by_test (codes "f") refl) (short_word id is.typed, tt) (omega arith) (omega arith)
short_line (Write id at bytes) is = of_write id at bytes is.typed.0 is.typed.1 is.typed.2 is.formed.0 is.formed.1
short_line (Read id at len) is =
    let few : IsWord len = omega (arith, is.formed) in
    of_words (codes "r") (id ∷ at ∷ len ∷ []) (high_by_test (codes "r") refl) (short_word id is.typed.0, (is.typed.1, (few, tt))) (omega arith) (omega arith)
short_line (Place id) is = of_words (codes "q") (id ∷ []) (high_by_test (codes "q") refl) (short_word id is.typed, tt) (omega arith) (omega arith)
short_line (Block id i) is =
    of_words (codes "b") (id ∷ i ∷ []) (high_by_test (codes "b") refl) (short_word id is.typed.0, (is.typed.1, tt)) (omega arith) (omega arith)
short_line (Peek word) is = of_words (codes "p") (word ∷ []) (high_by_test (codes "p") refl) (is.typed, tt) (omega arith) (omega arith)
short_line Walk is = of_words (codes "walk") [] (high_by_test (codes "walk") refl) tt (omega arith) (omega arith)
short_line Frag is = of_words (codes "frag") [] (high_by_test (codes "frag") refl) tt (omega arith) (omega arith)
short_line Steps is = of_words (codes "steps") [] (high_by_test (codes "steps") refl) tt (omega arith) (omega arith)
short_line (Bound slot_words k) is =
    let low : IsWord k = omega (arith, is.formed.1) in
    of_words (codes "k") (slot_words ∷ k ∷ []) (high_by_test (codes "k") refl) (is.typed, (low, tt)) (omega arith) (omega arith)
short_line (Resize id bytes) is =
    of_words (codes "z") (id ∷ bytes ∷ []) (high_by_test (codes "z") refl) (short_word id is.typed.0, (is.typed.1, tt)) (omega arith) (omega arith)
short_line Slice is = of_words (codes "s") [] (high_by_test (codes "s") refl) tt (omega arith) (omega arith)
short_line (Task task) is =
    let low : IsWord task = omega (arith, is.formed) in
    of_words (codes "t") (task ∷ []) (high_by_test (codes "t") refl) (low, tt) (omega arith) (omega arith)
short_line (Quota task pages) is =
    let low : IsWord task = omega (arith, is.formed) in
    of_words (codes "quota") (task ∷ pages ∷ []) (high_by_test (codes "quota") refl) (low, (is.typed, tt)) (omega arith) (omega arith)
short_line (Need task bytes count) is =
    let low : IsWord task = omega (arith, is.formed) in
    of_words (codes "need") (task ∷ bytes ∷ count ∷ []) (high_by_test (codes "need") refl) (low, (is.typed.0, (is.typed.1, tt))) (omega arith) (omega arith)
short_line (Admit task) is =
    let low : IsWord task = omega (arith, is.formed) in
    of_words (codes "admit") (task ∷ []) (high_by_test (codes "admit") refl) (low, tt) (omega arith) (omega arith)

-- a line of tokens that isn't too long means what its tokens mean
line_by_tokens : (ts : List (List ℕ)) → AreShort ts → line_says (spaced ts) ≡ tokens_say ts
line_by_tokens ts are =
    let fits : is_too_long (spaced ts) ≡ false = (let s = are.short in grind (arith, nat_tests)) in
    ap (λ b. if b then wrong else tokens_say (tokens (without_return (spaced ts)))) fits
    ∙ ap (λ l. tokens_say (tokens l)) (no_return (spaced ts) (shown_spaced ts are.tokens)) ∙ ap tokens_say (tokens_spaced ts are.tokens)

cut_tokens : (ts : List (List ℕ)) (rest : List ℕ) (ended : Bool) → AreShort ts → lines ((spaced ts ++ 10 ∷ []) ++ rest) ended ≡ spaced ts ∷ lines rest ended
cut_tokens ts rest ended are = ap (λ l. lines l ended) (append_assoc (spaced ts) (10 ∷ []) rest) ∙ line_cut (spaced ts) rest ended (shown_spaced ts are.tokens)

pub line_back : (c : Command) (rest : List ℕ) (ended : Bool) → IsCommand c → lines (line_of c ++ rest) ended ≡ spaced (tokens_of c) ∷ lines rest ended
line_back c rest ended is = cut_tokens (tokens_of c) rest ended (short_line c is)

pub says_back : (c : Command) → IsCommand c → line_says (spaced (tokens_of c)) ≡ item (asks c)
says_back c is = line_by_tokens (tokens_of c) (short_line c is) ∙ tokens_back c is

-- a `heap` line with these numbers is read as the item that starts a heap with these settings
module _ (pages page_bytes k proxies : ℕ) (can : CanOpen pages page_bytes k proxies) where
  abbrev numbers : List ℕ
  numbers = pages ∷ page_bytes ∷ k ∷ proxies ∷ []

  settings_back : settings_in (map decimal numbers) ≡ Some (profile_from pages page_bytes k proxies)
  settings_back = rw (word_back pages can.typed.0, word_back page_bytes can.typed.1, word_back k can.typed.2, word_back proxies can.typed.3, can.in_range) refl

  heap_tokens : AreShort (word_and_numbers (codes "heap") numbers)
  heap_tokens = of_words (codes "heap") numbers (high_by_test (codes "heap") refl)
      (can.typed.0, (can.typed.1, (can.typed.2, (can.typed.3, tt)))) (omega arith) (omega arith)

  heap_says : line_says (spaced (word_and_numbers (codes "heap") numbers)) ≡ item (starts (profile_from pages page_bytes k proxies))
  heap_says = line_by_tokens (word_and_numbers (codes "heap") numbers) heap_tokens ∙ ap (λ o. item_or_wrong (option_map starts o)) settings_back

  after_opening : (rest : List ℕ) → items (heap_line pages page_bytes k proxies ++ rest) true
      ≡ starts (profile_from pages page_bytes k proxies) ∷ items_at (lines rest true) 1 Bounding
  after_opening rest = ap (λ ls. items_at ls 0 Opening) (cut_tokens (word_and_numbers (codes "heap") numbers) rest true heap_tokens)
      ∙ ap (λ says. items_by (verdict Opening says) 0 Opening (items_at (lines rest true) 1)) heap_says

-- a script of a `heap` line and the line of one command has two items: the start with the settings, and the command
pub alone_back : (pages page_bytes k proxies : ℕ) (c : Command) → CanOpen pages page_bytes k proxies → IsCommand c
    → items (heap_line pages page_bytes k proxies ++ line_of c) true ≡ starts (profile_from pages page_bytes k proxies) ∷ asks c ∷ []
alone_back pages page_bytes k proxies c can is =
    after_opening pages page_bytes k proxies can (line_of c)
    ∙ ap (λ l. starts (profile_from pages page_bytes k proxies) ∷ items_at l 1 Bounding)
    (ap (λ l. lines l true) (sym (append-nil (line_of c))) ∙ line_back c [] true is)
    ∙ ap (λ says. starts (profile_from pages page_bytes k proxies) ∷ items_by (verdict Bounding says) 1 Bounding (items_at [] 2)) (says_back c is)

-- the reader's stage is one of those after the `heap` line
abbrev IsOpened : Stage → Type 0
IsOpened Opening = ⊥
IsOpened stage = ⊤

plain_verdict : (stage : Stage) (c : Command) → IsOpened stage → is_bound c ≡ false → verdict stage (item (asks c)) ≡ gives (asks c) Running
plain_verdict Opening c opened plain = absurd opened
plain_verdict Bounding c opened plain = rw plain refl
plain_verdict Running c opened plain = rw plain refl

commands_back : (cs : List Command) (n : ℕ) (stage : Stage) → IsOpened stage → ArePlainCommands cs
    → items_at (lines (command_lines cs) true) n stage ≡ map (λ c. asks c) cs
commands_back [] n stage opened are = refl
commands_back (c ∷ cs) n stage opened are =
    ap (λ l. items_at l n stage) (line_back c (command_lines cs) true are.0)
    ∙ ap (λ says. items_by (verdict stage says) n stage (items_at (lines (command_lines cs) true) (n + 1))) (says_back c are.0)
    ∙ ap (λ v. items_by v n stage (items_at (lines (command_lines cs) true) (n + 1))) (plain_verdict stage c opened are.1)
    ∙ ap (λ l. asks c ∷ l) (commands_back cs (n + 1) Running tt are.2)

pub script_back : (pages page_bytes k proxies : ℕ) (cs : List Command) → CanOpen pages page_bytes k proxies → ArePlainCommands cs
    → items (heap_line pages page_bytes k proxies ++ command_lines cs) true ≡ starts (profile_from pages page_bytes k proxies) ∷ map (λ c. asks c) cs
script_back pages page_bytes k proxies cs can are =
    after_opening pages page_bytes k proxies can (command_lines cs)
    ∙ ap (λ l. starts (profile_from pages page_bytes k proxies) ∷ l) (commands_back cs 1 Bounding tt are)
