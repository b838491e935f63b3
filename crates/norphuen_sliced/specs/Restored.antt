-- For `Lendable` of `Held`: a heap with its own words in their place is the same.
use Rattle.std.specs.Prelude.{◌≡◌, Option, Some, None, refl}
use mathlib.Core.Path.{ap}
use Rattle.sliced_heap.specs.declared.open_heap.OpenHeap.{OpenHeap}
use Rattle.c_base.specs.Lending.{AreWords}
use Rattle.c_base.proofs.CallerLemmas.{same_words}
use Rattle.norphuen_sliced.specs.Loose.{FitsSliced, sliced_held_all, sliced_inner_all, sliced_loose_words, sliced_words_in}
use Rattle.norphuen_sliced.specs.declared.loose.LooseHeld.{LooseHeld}

-- the heap o, or `None`, is the same with its own words in its region
same_inner : (o : Option OpenHeap) → AreWords (sliced_words_in o) → sliced_inner_all o (sliced_words_in o) ≡ o
same_inner None below = refl
same_inner (Some h) below = ap (λ ws. Some (record h { region = ws })) (same_words h.region below)

-- the fields a of a `Held` are the same with their heap's own words in the region
pub restored : (a : LooseHeld) → FitsSliced a → AreWords (sliced_loose_words a) → sliced_held_all a (sliced_loose_words a) ≡ a
restored a fit below = ap (λ o. record a { heap = record a.heap { inner = o } }) (same_inner a.heap.inner below)
