-- For the small scripts that proofs work out: look-up and list of a finite map of objects, of the empty one and after one insertion; and any such map is as
-- long as its list.
use Rattle.std.proofs.Common.{◌≡◌, ℕ, List, [], Some, None, length, cond, sym, ◌∙◌}
use Rattle.std.proofs.lemmas.List.{nil_from_length}
use Rattle.std.specs.Ordering.{nat_cmp, eq_by_cmp}
use Rattle.std.specs.Cmp.{nat_cmp_total}
use Rattle.std.specs.FinMap.{empty, entries, entries-insert, get, get-empty, get-insert, insert, len, len-empty, len-entries, put}
use Rattle.page_model.specs.Held.{Objects}

module _ (m : Objects) where
  pub got : (k : ℕ) (v : List ℕ) (q : ℕ) → get (insert m k v) q ≡ cond (eq_by_cmp nat_cmp q k) (Some v) (get m q)
  got k v q = get-insert nat_cmp_total m k v q

  pub listed : (k : ℕ) (v : List ℕ) → entries (insert m k v) ≡ put nat_cmp k v (entries m)
  listed k v = entries-insert nat_cmp_total m k v

  pub counted : len m ≡ length (entries m)
  counted = len-entries m

pub got_none : (q : ℕ) → get (empty {X = List ℕ} {R = nat_cmp}) q ≡ None
got_none q = get-empty nat_cmp q

pub listed_none : entries (empty {X = List ℕ} {R = nat_cmp}) ≡ []
listed_none = nil_from_length _ (sym (len-entries (empty {X = List ℕ} {R = nat_cmp})) ∙ len-empty nat_cmp (List ℕ))
