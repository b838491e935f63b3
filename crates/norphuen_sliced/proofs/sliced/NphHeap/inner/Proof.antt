-- By hand, the contract of `NphHeap::inner`: in memory a `NphHeap` is a `LendableHeap`.
use Rattle.std.proofs.Common.{refl}
use denote.Memory.{part_of}
use Rattle.c_base.proofs.CallerLemmas.{lends_inner}
use Rattle.c_base.specs.contracts.lendable.LendableHeap.{the_row as heap_row}
use Rattle.norphuen_sliced.specs.Place.{sliced_inner_of, sliced_outer_of}
use Rattle.norphuen_sliced.specs.Sliced.{loose_sliced, open_sliced}
use Rattle.norphuen_sliced.specs.contracts.loose.HeldLendableLooseHeld.TheImpl.{ghosts}
use Rattle.norphuen_sliced.specs.contracts.sliced.NphHeap.{the_row}
use Rattle.norphuen_sliced.specs.contracts.sliced.NphHeap.inner as f
use Rattle.norphuen_sliced.proofs.sliced.NphHeap.inner.Statement.{statement}
use Rattle.norphuen_sliced.proofs.sliced.NphHeap.inner.Code as code

pub inner_spec : {M : Type 1} → statement M
unfolding part_of
inner_spec 𝓤 𝓛 𝓜 𝓡 wired = lends_inner the_row (heap_row open_sliced loose_sliced ghosts) tt tt sliced_inner_of sliced_outer_of (λ h b o. refl) (λ w b o. refl) _ _ _ _ 𝓛 𝓜 𝓡 f.Key.name (code.unfolded 𝓤 𝓛.H 𝓜 𝓡 wired)
