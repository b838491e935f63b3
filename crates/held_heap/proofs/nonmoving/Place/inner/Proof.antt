-- By hand, the contract of `Place::inner`: in memory a `Place` is a `HeapBlock`.
use Rattle.std.proofs.Common.{refl}
use denote.Memory.{part_of}
use Rattle.c_base.proofs.CallerLemmas.{lends_inner}
use Rattle.c_base.specs.contracts.block.HeapBlock.{the_row as block_row}
use Rattle.held_heap.specs.NonMovingPlace.{inner_of, outer_of}
use Rattle.held_heap.specs.NonMoving.{open_heap}
use Rattle.held_heap.specs.contracts.nonmoving.Place.{the_row}
use Rattle.held_heap.specs.contracts.nonmoving.Place.inner as f
use Rattle.held_heap.proofs.nonmoving.Place.inner.Statement.{statement}
use Rattle.held_heap.proofs.nonmoving.Place.inner.Code as code

pub inner_spec : {M : Type 1} → statement M
unfolding part_of
inner_spec 𝓤 𝓛 𝓜 𝓡 wired = lends_inner the_row (block_row open_heap) tt tt inner_of outer_of (λ h b o. refl) (λ w b o. refl) _ _ _ _ 𝓛 𝓜 𝓡 f.Key.name (code.unfolded 𝓤 𝓛.H 𝓜 𝓡 wired)
