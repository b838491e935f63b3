-- For `words_of` of `of_kind.rt`: the steps in a heap of each family.
use Rattle.std.proofs.Common.{◌≡◌, ℕ, Option, ap}
use Rattle.cf_base.specs.declared.kind.Kind.{Kind}
use Rattle.cf_model.specs.Families.{Family, IsPaged, IsTiled, paged, tiled}
use Rattle.paged_heap.specs.Slots as page
use Rattle.tag_heap.specs.Costs.{block_words_steps}
use Rattle.held_heap.specs.Slots.{object_words_steps}

abbrev by_family : Kind → Option ℕ → Family → ℕ
by_family kind words f = elim f [ paged ↦ page.slot_words_steps kind words | tiled ↦ block_words_steps words ]

pub paged_steps : (kind : Kind) (words : Option ℕ) → IsPaged kind → object_words_steps kind words ≡ page.slot_words_steps kind words
paged_steps kind words is = ap (by_family kind words) is

pub tiled_steps : (kind : Kind) (words : Option ℕ) → IsTiled kind → object_words_steps kind words ≡ block_words_steps words
tiled_steps kind words is = ap (by_family kind words) is
