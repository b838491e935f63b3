-- For `Lendable` of `Held`: the fields of a heap into which the heap's own words are put are unchanged.
use Rattle.std.specs.Prelude.{◌≡◌, Option, Some, None, refl}
use mathlib.Core.Path.{ap}
use Rattle.cf_base.specs.declared.kind.Kind.{Kind}
use Rattle.cf_base.specs.declared.kind.Kind.TheVariants.{Moving}
use Rattle.paged_heap.specs.Layout.{state_in}
use Rattle.paged_heap.specs.declared.open_heap.OpenHeap.{OpenHeap}
use Rattle.c_base.specs.Lending.{AreWords}
use Rattle.c_base.proofs.CallerLemmas.{same_words}
use Rattle.held_heap.specs.Loose.{Fits, held_all, inner_all, loose_state_of}
use Rattle.held_heap.specs.LooseTag as tag
use Rattle.held_heap.specs.declared.loose.LooseHeld.{LooseHeld}
use Rattle.held_heap.specs.declared.loose_tag.LooseOpen.{LooseOpen}
use Rattle.held_heap.specs.declared.loose_tag.LooseTag.{LooseTag}

-- what a moving manager holds, an open heap or none, is unchanged if the heap's own words, each of 64 bits, are put into its region
same_inner : (o : Option OpenHeap) → AreWords (state_in Moving o).words → inner_all o (state_in Moving o).words ≡ o
same_inner None below = refl
same_inner (Some h) below = ap (λ ws. Some (record h { region = ws })) (same_words h.region below)

-- the fields of a `LooseHeld` are unchanged if the heap's own words, each of 64 bits, are put into them
pub moving_restored : (a : LooseHeld) → Fits a → AreWords (loose_state_of a).heap.words → held_all a (loose_state_of a).heap.words ≡ a
moving_restored a fit below = ap (λ o. record a { heap = record a.heap { inner = o } }) (same_inner a.heap.inner below)

-- what a manager with blocks holds, an open heap or none, is unchanged if the heap's own words, each of 64 bits, are put into its region
same_blocks : (kind : Kind) (o : Option LooseOpen) → AreWords (tag.state_seen kind o).words → tag.inner_all o (tag.state_seen kind o).words ≡ o
same_blocks kind None below = refl
same_blocks kind (Some h) below = ap (λ ws. Some (record h { blocks = record h.blocks { region = ws } })) (same_words h.blocks.region below)

-- the fields of a `LooseTag`, with any free-list rule, are unchanged if the heap's own words, each of 64 bits, are put into them
pub tag_restored : (rule : tag.Rule) (a : LooseTag) → tag.Fits rule a → AreWords (tag.loose_state_of rule.kind a).heap.words → tag.held_all a (tag.loose_state_of rule.kind a).heap.words ≡ a
tag_restored rule a fit below = ap (λ o. record a { heap = record a.heap { inner = o } }) (same_blocks rule.kind a.heap.inner below)
