-- The lemma `all_items_valid`: every item that the grammar finds in a script, command by command, is valid: numbers in range, 1 to 4,096 bytes in a write,
-- settings without a fault.
use Rattle.std.proofs.Common.{◌≡◌, ℕ, Bool, true, false, cond, ◌+◌, ◌*◌, ◌/◌, ◌%◌, ◌≤◌, List, [], ◌∷◌, Option, Some, None, Result, Ok, Err, length, arith, sym, ap, refl, subst}
use Rattle.std.specs.Prelude.{⊤, ◌==◌, codes, nat_le, option_map}
use Rattle.std.specs.Result.{result_ok}
use Rattle.std.specs.Str.{bytes_eq, byte}
use Rattle.std.proofs.lemmas.Bool.{and_parts as both}
use Rattle.std.proofs.lemmas.Bool.Decides.{nat_tests}
use Rattle.hex.specs.Hex.{decode_of}
use Rattle.hex.specs.declared.error.FromHexError.{FromHexError}
use Rattle.hex.proofs.HexLemmas.{decode_of-ok}
use Rattle.run_model.specs.Terms.{Admit, AreBytes, AreInRange, asks, Block, Bound, Command, Frag, Free, IsWellFormed, Item, items, Malloc, Need, Peek, Place, Quota, Read, Resize, Slice, starts, Steps, Task, Walk, Write}
use Rattle.cf_base.specs.Limits.{is_page_bytes, is_page_size, is_within}
use Rattle.cf_base.specs.Settings.{profile_from, setting_fault}
use Rattle.cf_base.specs.declared.settings.SettingFault.{SettingFault}
use Rattle.cf_base.specs.declared.settings.SettingFault.TheVariants.{Pages, PageBytes, Bound as BoundFault, Proxies, Region}
use Rattle.cf_io.specs.Numbers.{number_in}
use Rattle.script_reader.specs.Commands.{admit_in, alone_in, block_command_in, bound_command_in, bound_in, bytes_in, command_of, four_of, free_in}
use Rattle.script_reader.specs.Commands.{id_and_number, id_in, id_number_and_length, id_number_and_text, length_in, letter_command, malloc_in, need_in, none_of}
use Rattle.script_reader.specs.Commands.{number_and_bound, number_from, one_id, one_number, one_of, one_task, peek_in, place_command_in, quota_in, read_in}
use Rattle.script_reader.specs.Commands.{resize_in, settings_if, settings_in, task_and_number, task_and_numbers, task_command_in, task_in, three_of, two_of}
use Rattle.script_reader.specs.Commands.{word_command, write_in, ◌>>=◌}
use Rattle.script_reader.specs.Items.{LineMeaning, gives_or_breaks, is_comment, item, item_in, item_or_wrong, items_at, items_by, line_says}
use Rattle.script_reader.specs.Items.{nothing, stage_after, tokens_say, verdict, wrong}
use Rattle.script_reader.specs.Lines.{is_too_long, lines, tokens, without_return}
use Rattle.script_reader.specs.declared.stage.Stage.{Stage}
use Rattle.script_reader.specs.declared.stage.Stage.TheVariants.{Opening}
use Rattle.script_laws.specs.ValidItems.{AreValidItems, HasBytes, IsValidCommand, IsValidItem}

-- the value of the option, if there is one, satisfies P
record OfSort {A : Type 0} (P : A → Type 0) (o : Option A) : Type 0 where
  each : (x : A) → o ≡ Some x → P x

module _ {A : Type 0} (P : A → Type 0) where
  sort_none : OfSort P None
  sort_none = record { each = λ x is. absurd (let e : ◌≡◌ {A = Option A} None (Some x) = is in cc) }

  sort_some : (x : A) → P x → OfSort P (Some x)
  sort_some x is = record { each = λ y e. subst P (same y e) is }
    where
      same : (y : A) → Some x ≡ Some y → x ≡ y
      same y e = cc

  -- one of two options
  either : (b : Bool) (x y : Option A) → OfSort P x → OfSort P y → OfSort P (cond b x y)
  either true x y first second = first
  either false x y first second = second

  -- a value, if it passes a test
  tested : (b : Bool) (x : A) → (b ≡ true → P x) → OfSort P (cond b (Some x) None)
  tested true x is = sort_some x (is refl)
  tested false x is = sort_none

module _ {A B : Type 0} (P : A → Type 0) (Q : B → Type 0) where
  mapped : (f : A → B) (o : Option A) → OfSort P o → ((x : A) → P x → Q (f x)) → OfSort Q (option_map f o)
  mapped f None is all = sort_none Q
  mapped f (Some x) is all = sort_some Q (f x) (all x (is.each x refl))

  bound : (f : A → Option B) (o : Option A) → OfSort P o → ((x : A) → P x → OfSort Q (f x)) → OfSort Q (o >>= f)
  bound f None is all = sort_none Q
  bound f (Some x) is all = all x (is.each x refl)

-- a mapped option satisfies Q if f makes Q of every value
module _ {A B : Type 0} (Q : B → Type 0) where
  mapped_any : (f : A → B) (o : Option A) → ((x : A) → Q (f x)) → OfSort Q (option_map f o)
  mapped_any f None all = sort_none Q
  mapped_any f (Some x) all = sort_some Q (f x) (all x)

  bound_any : (f : A → Option B) (o : Option A) → ((x : A) → OfSort Q (f x)) → OfSort Q (o >>= f)
  bound_any f None all = sort_none Q
  bound_any f (Some x) all = all x

pub within_range : (low high n : ℕ) → is_within low high n ≡ true → (low ≤ n) × (n ≤ high)
within_range low high n is =
    let t = both (nat_le low n) (nat_le n high) is in
    let a = t.0 in
    let b = t.1 in
    (grind (arith, nat_tests), grind (arith, nat_tests))

abbrev IsFrom : ℕ → ℕ → ℕ → Type 0
IsFrom low high n = (low ≤ n) × (n ≤ high)

number_of_range : (low high : ℕ) (text : List ℕ) → OfSort (IsFrom low high) (number_from low high text)
number_of_range low high text = bound_any (IsFrom low high) _ (number_in text)
    (λ n. tested (IsFrom low high) (is_within low high n) n (within_range low high n))

-- the bytes of a write: 1 to 4,096
record IsPayload (bytes : List ℕ) : Type 0 where
  some : 1 ≤ length bytes
  few : length bytes ≤ 4096
  are : AreBytes bytes

payload : (text : List ℕ) → OfSort IsPayload (bytes_in text)
payload text = go (is_within 2 8192 (length text)) refl
  where
    decoded : (2 ≤ length text) × (length text ≤ 8192) → (r : Result (List ℕ) FromHexError) → decode_of text ≡ r → OfSort IsPayload (result_ok r)
    decoded range (Err e) is = sort_none IsPayload
    decoded range (Ok bytes) is = (let ok = decode_of-ok text bytes is in let len = ok.2 in let a = range.0 in let b =
        range.1 in sort_some IsPayload bytes (record { some = omega arith; few = omega arith; are = ok.3 }))

    go : (b : Bool) → is_within 2 8192 (length text) ≡ b → OfSort IsPayload (cond b (result_ok (decode_of text)) None)
    go true is = decoded (within_range 2 8192 (length text) is) (decode_of text) refl
    go false is = sort_none IsPayload

-- the command, if there is one, is valid
abbrev Can : Option Command → Type 0
Can o = OfSort IsValidCommand o

plain : (c : Command) → IsWellFormed c → HasBytes c → IsValidCommand c
plain c formed bytes = record { formed = formed; bytes = bytes }

one_task_in : (args : List (List ℕ)) → OfSort (IsFrom 0 15) (one_task args)
one_task_in args = bound_any (IsFrom 0 15) _ (one_of args) (number_of_range 0 15)

can_malloc : (args : List (List ℕ)) → Can (malloc_in args)
can_malloc args = mapped_any IsValidCommand (λ p. Malloc p.0 p.1) (id_and_number args) (λ p. plain (Malloc p.0 p.1) tt tt)

can_free : (args : List (List ℕ)) → Can (free_in args)
can_free args = mapped_any IsValidCommand (λ id. Free id) (one_id args) (λ id. plain (Free id) tt tt)

can_write : (args : List (List ℕ)) → Can (write_in args)
can_write args = bound_any IsValidCommand _ (id_number_and_text args)
    (λ p. bound IsPayload IsValidCommand _ (bytes_in p.2) (payload p.2)
    (λ v is. sort_some IsValidCommand (Write p.0 p.1 v) (plain (Write p.0 p.1 v) (is.some, is.few) is.are)))

abbrev IsShort : ℕ × ℕ × ℕ → Type 0
IsShort p = p.2 ≤ 4096

can_read : (args : List (List ℕ)) → Can (read_in args)
can_read args = mapped IsShort IsValidCommand (λ p. Read p.0 p.1 p.2) (id_number_and_length args)
    (bound_any IsShort _ (three_of args) (λ a. bound_any IsShort _ (id_in a.0) (λ id. bound_any IsShort _ (number_in a.1)
    (λ n. bound (IsFrom 0 4096) IsShort _ (length_in a.2) (number_of_range 0 4096 a.2) (λ len is. sort_some IsShort (id, n, len) is.1)))))
    (λ p is. plain (Read p.0 p.1 p.2) is tt)

can_place : (args : List (List ℕ)) → Can (place_command_in args)
can_place args = mapped_any IsValidCommand (λ id. Place id) (one_id args) (λ id. plain (Place id) tt tt)

can_block : (args : List (List ℕ)) → Can (block_command_in args)
can_block args = mapped_any IsValidCommand (λ p. Block p.0 p.1) (id_and_number args) (λ p. plain (Block p.0 p.1) tt tt)

can_peek : (args : List (List ℕ)) → Can (peek_in args)
can_peek args = mapped_any IsValidCommand (λ word. Peek word) (one_number args) (λ word. plain (Peek word) tt tt)

abbrev HasBound : ℕ × ℕ → Type 0
HasBound p = IsFrom 1 64 p.1

can_bound : (args : List (List ℕ)) → Can (bound_command_in args)
can_bound args = mapped HasBound IsValidCommand (λ p. Bound p.0 p.1) (number_and_bound args)
    (bound_any HasBound _ (two_of args) (λ a. bound_any HasBound _ (number_in a.0)
    (λ n. bound (IsFrom 1 64) HasBound _ (bound_in a.1) (number_of_range 1 64 a.1) (λ k is. sort_some HasBound (n, k) is))))
    (λ p is. plain (Bound p.0 p.1) is tt)

can_resize : (args : List (List ℕ)) → Can (resize_in args)
can_resize args = mapped_any IsValidCommand (λ p. Resize p.0 p.1) (id_and_number args) (λ p. plain (Resize p.0 p.1) tt tt)

can_task : (args : List (List ℕ)) → Can (task_command_in args)
can_task args = mapped (IsFrom 0 15) IsValidCommand (λ task. Task task) (one_task args) (one_task_in args) (λ task is. plain (Task task) is.1 tt)

abbrev HasTask : ℕ × ℕ → Type 0
HasTask p = p.0 ≤ 15

can_quota : (args : List (List ℕ)) → Can (quota_in args)
can_quota args = mapped HasTask IsValidCommand (λ p. Quota p.0 p.1) (task_and_number args)
    (bound_any HasTask _ (two_of args) (λ a. bound (IsFrom 0 15) HasTask _ (task_in a.0) (number_of_range 0 15 a.0)
    (λ task is. bound_any HasTask _ (number_in a.1) (λ n. sort_some HasTask (task, n) is.1))))
    (λ p is. plain (Quota p.0 p.1) is tt)

abbrev IsOfTask : ℕ × ℕ × ℕ → Type 0
IsOfTask p = p.0 ≤ 15

can_need : (args : List (List ℕ)) → Can (need_in args)
can_need args = mapped IsOfTask IsValidCommand (λ p. Need p.0 p.1 p.2) (task_and_numbers args)
    (bound_any IsOfTask _ (three_of args) (λ a. bound (IsFrom 0 15) IsOfTask _ (task_in a.0) (number_of_range 0 15 a.0)
    (λ task is. bound_any IsOfTask _ (number_in a.1) (λ m. bound_any IsOfTask _ (number_in a.2) (λ n. sort_some IsOfTask (task, m, n) is.1)))))
    (λ p is. plain (Need p.0 p.1 p.2) is tt)

can_admit : (args : List (List ℕ)) → Can (admit_in args)
can_admit args = mapped (IsFrom 0 15) IsValidCommand (λ task. Admit task) (one_task args) (one_task_in args) (λ task is. plain (Admit task) is.1 tt)

can_alone : (c : Command) (args : List (List ℕ)) → IsValidCommand c → Can (alone_in c args)
can_alone c args is = either IsValidCommand (none_of args) (Some c) None (sort_some IsValidCommand c is) (sort_none IsValidCommand)

-- one of two commands, by a test
if_test : (b : Bool) (x y : Option Command) → Can x → Can y → Can (cond b x y)
if_test = either IsValidCommand

can_letter : (letter : ℕ) (args : List (List ℕ)) → Can (letter_command letter args)
can_letter letter args =
    if_test (letter == byte "m") (malloc_in args) _ (can_malloc args) (
    if_test (letter == byte "f") (free_in args) _ (can_free args) (
    if_test (letter == byte "w") (write_in args) _ (can_write args) (
    if_test (letter == byte "r") (read_in args) _ (can_read args) (
    if_test (letter == byte "q") (place_command_in args) _ (can_place args) (
    if_test (letter == byte "b") (block_command_in args) _ (can_block args) (
    if_test (letter == byte "p") (peek_in args) _ (can_peek args) (
    if_test (letter == byte "k") (bound_command_in args) _ (can_bound args) (
    if_test (letter == byte "z") (resize_in args) _ (can_resize args) (
    if_test (letter == byte "s") (alone_in Slice args) _ (can_alone Slice args (plain Slice tt tt)) (
    if_test (letter == byte "t") (task_command_in args) None (can_task args) (sort_none IsValidCommand)))))))))))

can_word : (word : List ℕ) (args : List (List ℕ)) → Can (word_command word args)
can_word word args =
    if_test (bytes_eq word (codes "walk")) (alone_in Walk args) _ (can_alone Walk args (plain Walk tt tt)) (
    if_test (bytes_eq word (codes "frag")) (alone_in Frag args) _ (can_alone Frag args (plain Frag tt tt)) (
    if_test (bytes_eq word (codes "steps")) (alone_in Steps args) _ (can_alone Steps args (plain Steps tt tt)) (
    if_test (bytes_eq word (codes "quota")) (quota_in args) _ (can_quota args) (
    if_test (bytes_eq word (codes "need")) (need_in args) _ (can_need args) (
    if_test (bytes_eq word (codes "admit")) (admit_in args) None (can_admit args) (sort_none IsValidCommand))))))

can_command : (word : List ℕ) (args : List (List ℕ)) → Can (command_of word args)
can_command [] args = can_word [] args
can_command (letter ∷ []) args = can_letter letter args
can_command (a ∷ b ∷ rest) args = can_word (a ∷ b ∷ rest) args

-- settings without a fault are in range
module _ (pages page_bytes k proxies : ℕ) where
  no_fault : setting_fault pages page_bytes k proxies ≡ None → AreInRange (profile_from pages page_bytes k proxies)
  no_fault none = at_pages (is_within 1 4096 pages) refl none
    where
      at_region : is_within 1 4096 pages ≡ true → is_page_bytes page_bytes ≡ true → is_within 1 64 k ≡ true → is_within 1 65536 proxies ≡ true
          → (b : Bool) → nat_le (pages * page_bytes) 67108864 ≡ b → cond b None (Some Region) ≡ None → AreInRange (profile_from pages page_bytes k proxies)
      at_region a b c d false e is = absurd (let z : ◌≡◌ {A = Option SettingFault} (Some Region) None = is in cc)
      at_region a b c d true e is =
          let pages_in = within_range 1 4096 pages a in
          let k_in = within_range 1 64 k c in
          let proxies_in = within_range 1 65536 proxies d in
          let whole = both (page_bytes % 8 == 0) (is_page_size (page_bytes / 8)) b in
          let eights : page_bytes % 8 ≡ 0 = (let w = whole.0 in grind (arith, nat_tests)) in
          let parts : 8 * (page_bytes / 8) ≡ page_bytes = omega arith in
          let most : pages * page_bytes ≤ 67108864 = grind (arith, nat_tests) in
          let product : pages * page_bytes ≡ pages * (8 * (page_bytes / 8)) = ap (λ n. pages * n) (sym parts) in
          record {
            some_pages = pages_in.0;
            few_pages = pages_in.1;
            page_size = whole.1;
            some_bound = k_in.0;
            low_bound = k_in.1;
            some_proxies = proxies_in.0;
            few_proxies = proxies_in.1;
            small_region = omega arith;
          }

      at_proxies : is_within 1 4096 pages ≡ true → is_page_bytes page_bytes ≡ true → is_within 1 64 k ≡ true
          → (b : Bool) → is_within 1 65536 proxies ≡ b → cond b (cond (nat_le (pages * page_bytes) 67108864) None (Some Region)) (Some Proxies) ≡ None
          → AreInRange (profile_from pages page_bytes k proxies)
      at_proxies a b c false e is = absurd (let z : ◌≡◌ {A = Option SettingFault} (Some Proxies) None = is in cc)
      at_proxies a b c true e is = at_region a b c e (nat_le (pages * page_bytes) 67108864) refl is

      at_bound : is_within 1 4096 pages ≡ true → is_page_bytes page_bytes ≡ true → (b : Bool) → is_within 1 64 k ≡ b
          → cond b (cond (is_within 1 65536 proxies) (cond (nat_le (pages * page_bytes) 67108864) None (Some Region)) (Some Proxies)) (Some BoundFault) ≡ None
          → AreInRange (profile_from pages page_bytes k proxies)
      at_bound a b false e is = absurd (let z : ◌≡◌ {A = Option SettingFault} (Some BoundFault) None = is in cc)
      at_bound a b true e is = at_proxies a b e (is_within 1 65536 proxies) refl is

      at_size : is_within 1 4096 pages ≡ true → (b : Bool) → is_page_bytes page_bytes ≡ b
          → cond b (cond (is_within 1 64 k) (cond (is_within 1 65536 proxies) (cond (nat_le (pages * page_bytes) 67108864) None (Some Region)) (Some Proxies))
          (Some BoundFault)) (Some PageBytes) ≡ None → AreInRange (profile_from pages page_bytes k proxies)
      at_size a false e is = absurd (let z : ◌≡◌ {A = Option SettingFault} (Some PageBytes) None = is in cc)
      at_size a true e is = at_bound a e (is_within 1 64 k) refl is

      at_pages : (b : Bool) → is_within 1 4096 pages ≡ b
          → cond b (cond (is_page_bytes page_bytes) (cond (is_within 1 64 k)
          (cond (is_within 1 65536 proxies) (cond (nat_le (pages * page_bytes) 67108864) None (Some Region)) (Some Proxies)) (Some BoundFault))
          (Some PageBytes)) (Some Pages) ≡ None
          → AreInRange (profile_from pages page_bytes k proxies)
      at_pages false e is = absurd (let z : ◌≡◌ {A = Option SettingFault} (Some Pages) None = is in cc)
      at_pages true e is = at_size e (is_page_bytes page_bytes) refl is

  in_range : OfSort AreInRange (settings_if (setting_fault pages page_bytes k proxies) (profile_from pages page_bytes k proxies))
  in_range = go (setting_fault pages page_bytes k proxies) refl
    where
      go : (o : Option SettingFault) → setting_fault pages page_bytes k proxies ≡ o
          → OfSort AreInRange (settings_if o (profile_from pages page_bytes k proxies))
      go None is = sort_some AreInRange (profile_from pages page_bytes k proxies) (no_fault is)
      go (Some fault) is = sort_none AreInRange

can_open : (args : List (List ℕ)) → OfSort AreInRange (settings_in args)
can_open args = bound_any AreInRange _ (four_of args) (λ p. bound_any AreInRange _ (number_in p.0) (λ pages. bound_any AreInRange _ (number_in p.1)
    (λ page_bytes. bound_any AreInRange _ (number_in p.2) (λ k. bound_any AreInRange _ (number_in p.3) (λ proxies. in_range pages page_bytes k proxies)))))

-- the item of a line, if it has one, is valid
abbrev IsValidLine : LineMeaning → Type 0
IsValidLine (item i) = IsValidItem i
IsValidLine saying = ⊤

can_item : (word : List ℕ) (args : List (List ℕ)) → OfSort IsValidItem (item_in word args)
can_item word args = either IsValidItem (bytes_eq word (codes "heap")) (option_map starts (settings_in args)) (option_map asks (command_of word args))
    (mapped AreInRange IsValidItem starts (settings_in args) (can_open args) (λ p is. is))
    (mapped IsValidCommand IsValidItem asks (command_of word args) (can_command word args) (λ c is. is))

says_item : (o : Option Item) → OfSort IsValidItem o → IsValidLine (item_or_wrong o)
says_item None is = tt
says_item (Some i) is = is.each i refl

says : (b : Bool) (x y : LineMeaning) → IsValidLine x → IsValidLine y → IsValidLine (cond b x y)
says true x y first second = first
says false x y first second = second

can_tokens : (ts : List (List ℕ)) → IsValidLine (tokens_say ts)
can_tokens [] = tt
can_tokens (word ∷ args) = says (is_comment word) nothing (item_or_wrong (item_in word args)) tt (says_item (item_in word args) (can_item word args))

can_line : (line : List ℕ) → IsValidLine (line_says line)
can_line line = says (is_too_long line) wrong (tokens_say (tokens (without_return line))) tt (can_tokens (tokens (without_return line)))

-- an item is valid, and so are those after it
can_follow : (stage : Stage) (saying : LineMeaning) (n : ℕ) (after : Stage → List Item) → IsValidLine saying → ((next : Stage) → AreValidItems (after next))
    → AreValidItems (items_by (verdict stage saying) n stage after)
can_follow stage nothing n after can rest = rest stage
can_follow stage wrong n after can rest = (tt, tt)
can_follow stage (item i) n after can rest = go (stage_after stage i)
  where
    go : (o : Option Stage) → AreValidItems (items_by (gives_or_breaks i o) n stage after)
    go None = (tt, tt)
    go (Some next) = (can, rest next)

lines_sayable : (all : List (List ℕ)) (n : ℕ) (stage : Stage) → AreValidItems (items_at all n stage)
lines_sayable [] n stage = tt
lines_sayable (line ∷ rest) n stage = can_follow stage (line_says line) n (items_at rest (n + 1)) (can_line line) (λ next. lines_sayable rest (n + 1) next)

-- every item of a script is valid
pub all_items_valid : (g : List ℕ) (ended : Bool) → AreValidItems (items g ended)
all_items_valid g ended = lines_sayable (lines g ended) 0 Opening
