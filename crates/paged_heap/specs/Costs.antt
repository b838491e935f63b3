-- The most steps of a malloc, a free and a resize; with some sizes a call takes exactly that number. The steps of reads and writes are exact for every call.
use Rattle.std.specs.Prelude.{ℕ, ◌+◌, ◌-◌, ◌*◌, ◌/◌, Result, Ok, Err, if◌then◌else◌, min, nat_eq}
use Rattle.cf_base.specs.declared.results.AccessFault.{AccessFault}
use Rattle.cf_base.specs.declared.results.AccessFault.TheVariants as access
use Rattle.cf_base.specs.declared.results.Freed.{Freed}
use Rattle.cf_base.specs.declared.results.NotLive.{NotLive}
use Rattle.cf_base.specs.declared.results.Resized.{Resized}
use Rattle.cf_base.specs.declared.results.ResizeFault.{ResizeFault}
use Rattle.cf_base.specs.declared.results.ResizeFault.TheVariants as resize
use Rattle.cf_base.specs.declared.kind.Kind.{Kind}
use Rattle.cf_model.specs.Costs.{words_touched}
use Rattle.page_model.specs.Order.{word_steps}
use Rattle.virtual_words.specs.Words.{run_steps, slot_steps}

-- a malloc: 17 moving, 18 non-moving
-- (for the class, the last free slot of a page, the proxy and the header; a refused malloc takes fewer)
abbrev pub malloc_steps : Kind → ℕ
malloc_steps kind = 16 + word_steps kind

-- a free: 20 + s moving, 22 + s + s / 2 non-moving, for a slot of s words; 1 if refused
-- (for two headers, the tables of two pages, two proxies, and the s words that are moved or cleared; if refused, for the proxy)
abbrev pub free_steps : Kind → Result Freed NotLive → ℕ
free_steps kind (Ok freed) = 18 + 2 * word_steps kind + slot_steps kind freed.slot_words
free_steps kind (Err e) = 1

-- a resize to n bytes in the same slot, of s words: 6 moving, 9 non-moving, and one for each word of the slot after that of byte n; non-moving also one for
-- each block of these words
-- (for the proxy, two classes, two headers, the word of byte n, and the words after it)
abbrev pub stay_steps : Kind → ℕ → ℕ → ℕ
stay_steps kind n s = 3 + 3 * word_steps kind + run_steps kind (2 + n / 8) (s - 2 - n / 8)

-- a resize to another class: 34 + s + t moving, 38 + 3 (s + t) / 2 non-moving, where s is the words of the old slot (`old`), and t those of the smaller of
-- the two slots (`old` and `new`)
-- (for three headers, the tables of three pages, two proxies, the words that are kept, and the slot that moves or is cleared)
abbrev pub change_steps : Kind → ℕ → ℕ → ℕ
change_steps kind old new = 30 + 4 * word_steps kind + slot_steps kind old + slot_steps kind (min old new)

-- the most steps of a resize to n bytes, by its result: in the same slot, or in a slot of another class; those of a refused resize are exact
abbrev pub resize_steps : Kind → ℕ → Result Resized ResizeFault → ℕ
resize_steps kind n (Ok done) =
    if nat_eq done.slot_words done.old_slot_words then stay_steps kind n done.slot_words else change_steps kind done.old_slot_words done.slot_words
resize_steps kind n (Err resize.Unknown) = 1
resize_steps kind n (Err resize.Kind) = 0
resize_steps kind n (Err resize.Size) = 2
resize_steps kind n (Err resize.Space) = 4 + word_steps kind

-- the exact steps of a read or a write that is refused: the proxy, and if the number is live the header
abbrev pub fault_steps : Kind → AccessFault → ℕ
fault_steps kind access.Unknown = 1
fault_steps kind access.Range = 1 + word_steps kind

-- the exact steps of a read or a write of `count` bytes from byte `from` on, which are in t words: 2 + t moving; 3 + t non-moving, and one for each block
-- of these words
-- (for the proxy, the header, and the t words)
abbrev pub access_steps : Kind → ℕ → ℕ → Result Unit AccessFault → ℕ
access_steps kind from count (Ok u) = 1 + word_steps kind + run_steps kind (1 + from / 8) (words_touched from count)
access_steps kind from count (Err e) = fault_steps kind e
