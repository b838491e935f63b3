-- The steps of `slot_words`, which returns how many words an object's slot has.
use Rattle.std.specs.Prelude.{ℕ, ◌+◌, Option, Some, None}
use Rattle.cf_base.specs.declared.kind.Kind.{Kind}
use Rattle.page_model.specs.Order.{word_steps}

-- the exact steps of `slot_words`, by its result: the proxy, and if the number is live the header and the class
abbrev pub slot_words_steps : Kind → Option ℕ → ℕ
slot_words_steps kind (Some words) = 1 + word_steps kind + 1
slot_words_steps kind None = 1
