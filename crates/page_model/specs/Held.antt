-- What a manager holds: its objects by number, each with its address; also the bytes by number alone, the addresses alone, and an object encoded for a map.
use Rattle.std.specs.Prelude.{ℕ, List, refl}
use Rattle.std.specs.Ordering.{nat_cmp}
use Rattle.std.specs.FinMap.{FinMap}
use Rattle.std.specs.Coded.{Coded, code_by, coded×, coded_ℕ, coded_list}
use Rattle.cf_base.specs.Maps.{map_values}

-- an object: its address, which is the word where its slot or block begins, and its bytes
pub record Placed : Type 0 where
  pub place : ℕ
  pub bytes : List ℕ

-- an arrangement: the objects by number, each with its address
abbrev pub Held : Type 0
Held = FinMap nat_cmp Placed

-- the bytes of objects by number, without the addresses
abbrev pub Objects : Type 0
Objects = FinMap nat_cmp (List ℕ)

-- the objects of an arrangement without their addresses
abbrev pub objects : Held → Objects
objects m = map_values (λ (x : Placed). x.bytes) m

-- the addresses of an arrangement by number, in words
abbrev pub places : Held → FinMap nat_cmp ℕ
places m = map_values (λ (x : Placed). x.place) m

-- an object encoded as the pair of its address and its bytes: a finite map needs such an encoding of its values
abbrev pub placed_code : Coded Placed
placed_code = code_by (ℕ × List ℕ) (coded× coded_ℕ (coded_list coded_ℕ)) (λ x. (x.place, x.bytes)) (λ p. record { place = p.0; bytes = p.1 }) (λ _. refl)
