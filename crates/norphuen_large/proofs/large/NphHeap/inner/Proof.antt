-- By hand, the contract of `NphHeap::inner`: in memory a `NphHeap` is a `ClosableHeap`.
use Rattle.std.proofs.Common.{refl}
use denote.Memory.{part_of}
use Rattle.c_base.proofs.CallerLemmas.{lends_inner}
use Rattle.c_base.specs.contracts.closable.ClosableHeap.{the_row as heap_row}
use Rattle.norphuen_large.specs.Place.{large_inner_of, large_outer_of}
use Rattle.norphuen_large.specs.contracts.held.Held.{the_row as open_heap}
use Rattle.norphuen_large.specs.contracts.large.NphHeap.{the_row}
use Rattle.norphuen_large.specs.contracts.large.NphHeap.inner as f
use Rattle.norphuen_large.proofs.large.NphHeap.inner.Statement.{statement}
use Rattle.norphuen_large.proofs.large.NphHeap.inner.Code as code

pub inner_spec : {M : Type 1} → statement M
unfolding part_of
inner_spec 𝓤 𝓛 𝓜 𝓡 wired = lends_inner the_row (heap_row open_heap) tt tt large_inner_of large_outer_of (λ h b o. refl) (λ w b o. refl) _ _ _ _ 𝓛 𝓜 𝓡 f.Key.name (code.unfolded 𝓤 𝓛.H 𝓜 𝓡 wired)
