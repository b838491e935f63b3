-- By hand, the contract of `NphHeap::inner`: in memory a `NphHeap` is a `LendableHeap`.
use Rattle.std.proofs.Common.{refl}
use denote.Memory.{part_of}
use Rattle.c_base.proofs.CallerLemmas.{lends_inner}
use Rattle.c_base.specs.contracts.lendable.LendableHeap.{the_row as heap_row}
use Rattle.held_heap.specs.TlsfPlace.{inner_of, outer_of}
use Rattle.held_heap.specs.Tag.{loose_heap}
use Rattle.held_heap.specs.Tlsf.{open_heap}
use Rattle.held_heap.specs.contracts.loose_tag.HeldTlsfHeapLendableLooseTag.TheImpl.{ghosts}
use Rattle.held_heap.specs.contracts.tlsf.NphHeap.{the_row}
use Rattle.held_heap.specs.contracts.tlsf.NphHeap.inner as f
use Rattle.held_heap.proofs.tlsf.NphHeap.inner.Statement.{statement}
use Rattle.held_heap.proofs.tlsf.NphHeap.inner.Code as code

pub inner_spec : {M : Type 1} → statement M
unfolding part_of
inner_spec 𝓤 𝓛 𝓜 𝓡 wired = lends_inner the_row (heap_row open_heap loose_heap ghosts) tt tt inner_of outer_of (λ h b o. refl) (λ w b o. refl) _ _ _ _ 𝓛 𝓜 𝓡 f.Key.name (code.unfolded 𝓤 𝓛.H 𝓜 𝓡 wired)
