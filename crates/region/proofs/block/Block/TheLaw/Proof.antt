-- A `&` to a block corresponds to a `&` to its words. It lends the words, but not the right to free the memory.
use base.Fraction.{full_share}
use mir.Syntax.{w64}
use denote.Array.{Array, Array-row_laws}
use denote.Builtin.{u64}
use denote.Copied.{uint_Copied}
use denote.Plain.{uint_row_laws}
use denote.RawPtr.{lies_at}
use denote.Shares.{Shares-Array}
use denote.Param.Shared.{copy_shared}
use denote.Struct.Field.{RawPtr-field, usize-field}
use denote.Struct.Laws.{RawPtr-copy, usize-copy}
use denote.Struct.Lending.{lent_at, lent_at_shr_laws, Lends-lies, Lends-first, of_Lends}
use Rattle.region.specs.Layout.{may_free}
use Rattle.region.specs.contracts.block.Block as C
use Rattle.region.proofs.block.Block.TheLaw.Statement.{statement}

pub shares : statement
shares =
    of_Lends C.struct C.the_codes C.the_heap C.the_lent
    (λ d p. lent_at_shr_laws (Array u64 d.len) (Array-row_laws u64 (uint_row_laws w64) d.len) d.at d.items)
    (copy_shared RawPtr-field RawPtr-copy, (copy_shared usize-field usize-copy, tt)) (λ M 𝓤 𝓛 d p.
    let l = C.the_row.lives in
    Lends-first 𝓛 (lies_at (Array u64 d.len) full_share d.at d.items) (may_free d.at d.len) (lent_at (Array u64 d.len) d.at d.items) l
    (Lends-lies 𝓛 (Array u64 d.len) l d.at d.items (Shares-Array 𝓛 u64 tt d.len l ((uint_Copied 𝓛 w64).shares full_share l) d.items)))
