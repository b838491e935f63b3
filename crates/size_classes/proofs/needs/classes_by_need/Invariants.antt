use Rattle.std.proofs.Common.{◌≡◌, ℕ, ◌+◌, ◌<◌, ◌≤◌, Some, length, slice_index}
use Rattle.std.specs.Prelude.{nat_le}
use Rattle.std.specs.List.{position}
use Rattle.size_classes.proofs.needs.classes_by_need.Given as goal

-- every need below this one has its class; no size before `class` holds this need, and the need is at most one more than the size of `class`
abbrev pub invariant-needs : goal.invariant-needs
invariant-needs l = record {
  within : l.need ≤ l.page_words + 1;
  long : length l.by_need.items ≡ l.need;
  shown : (n : ℕ) → n < l.need → Some (slice_index l.by_need.items n) ≡ position (λ s. nat_le n s) l.sizes;
  inside : l.class < length l.sizes;
  below : (c : ℕ) → c < l.class → slice_index l.sizes c < l.need;
  large : l.need ≤ slice_index l.sizes l.class + 1;
}
