-- For `sizes.rt`: the slot sizes that are written into a table, one after the other.
use Rattle.std.proofs.Common.{◌≡◌, ℕ, ◌+◌, ◌*◌, ◌/◌, ◌<◌, ◌≤◌, List, ◌++◌, length, map, set, take, arith, ap, inl, inr}
use Rattle.std.proofs.lemmas.Bool.{cases_lt}
use Rattle.std.proofs.lemmas.List.{length-append, length-map, length-take, take_more_set}
use Rattle.cf_base.specs.Classes.{sizes_from}
use Rattle.cf_base.proofs.Sizes.{push_last, push_next, sizes_from-next, sizes_from-page}

module _ (unit page size count : ℕ) (table whole : List ℕ) (room : length table ≡ 67) (some : 1 ≤ size)
    (made : take count table ++ map (λ s. unit * s) (sizes_from page size page) ≡ whole) where
  size_left : 1 ≤ length (sizes_from page size page)
  size_left = elim (cases_lt size page) [
    | inl lt ↦ (let e = ap length (sizes_from-next size page some lt) in omega arith)
    | inr ge ↦ (let e = ap length (sizes_from-page page size page ge) in omega arith)
  ]

  pub filled_room : length whole ≤ 67 → count < 67
  filled_room few =
      let a = ap length made in
      let b = length-append (take count table) (map (λ s. unit * s) (sizes_from page size page)) in
      let c = length-take count table in
      let d = length-map (sizes_from page size page) (λ s. unit * s) in
      let e = size_left in
      omega arith

  pub filled_next : count < 67 → (next : ℕ) → size < page → next ≡ (9 * size + 7) / 8
      → take (count + 1) (set table count (unit * size)) ++ map (λ s. unit * s) (sizes_from page next page) ≡ whole
  filled_next less next lt is = push_next unit size next page (take count table) (take (count + 1) (set table count (unit * size))) whole some lt is made
      (take_more_set table count (unit * size) (omega arith))

  pub filled_last : count < 67 → page ≤ size → take (count + 1) (set table count (unit * page)) ≡ whole
  filled_last less ge = push_last unit size page (take count table) (take (count + 1) (set table count (unit * page))) whole ge made
      (take_more_set table count (unit * page) (omega arith))
