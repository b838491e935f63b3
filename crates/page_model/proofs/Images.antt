-- For the laws of `words.rt`: if an object is removed, added or replaced, and its words are changed so, the words are the image of the new objects, provided
-- that no two share a word. Also disjoint ranges of words.
use Rattle.std.proofs.Common.{◌≡◌, ℕ, ◌+◌, ◌-◌, ◌<◌, List, Some, None, length, get_or, arith, ◌∙◌, subst, inl, inr}
use Rattle.std.specs.Prelude.{◌⊎◌}
use Rattle.std.proofs.lemmas.Bool.{cases_eq, cases_lt}
use Rattle.std.specs.FinMap.{get, insert, remove}
use Rattle.page_model.specs.Held.{Held, Placed}
use Rattle.page_model.specs.Image.{object_word, IsOutside, IsOutsideOf, IsDisjoint, IsImageOver, IsApartFrom, Rewrites, Clears}
use Rattle.cf_base.proofs.Maps.{get_inserted, get_insert_other, get_remove_other, some_removed, some_inserted}

-- either w is one of the n words from a on, or it is outside of them
pub within_or : (a n w : ℕ) → ((i : ℕ) × (i < n) × (a + i ≡ w)) ⊎ IsOutside a n w
within_or a n w = elim (cases_lt w a) [
  | inl below ↦ inr (inl below)
  | inr above ↦ elim (cases_lt w (a + n)) [
    | inl inside ↦ inl (w - a, omega arith, omega arith)
    | inr past ↦ inr (inr past)
  ]
]

pub disjoint_outside : (a n b m i : ℕ) → IsDisjoint a n b m → i < m → IsOutside a n (b + i)
disjoint_outside a n b m i (inl l) h = inr (omega arith)
disjoint_outside a n b m i (inr r) h = inl (omega arith)

pub turned : (a n b m : ℕ) → IsDisjoint a n b m → IsDisjoint b m a n
turned a n b m (inl x) = inr x
turned a n b m (inr y) = inl y

module _ (extent : ℕ → ℕ) (m : Held) (words words' : List ℕ) (im : IsImageOver extent m words) (h : ℕ) where
  -- an object is removed and its words are cleared
  pub image_removed : (x : Placed) → get m h ≡ Some x → IsApartFrom extent m h x
      → Clears words words' (record { from = x.place; count = extent (length x.bytes) }) → IsImageOver extent (remove m h) words'
  image_removed x is-x free re = record {
    held = λ q y p i lt.
        let was = some_removed m h q y p in
        re.others (y.place + i) (disjoint_outside x.place (extent (length x.bytes)) y.place (extent (length y.bytes)) i (free q y was.1 was.0) lt)
        ∙ im.held q y was.1 i lt;
    zeros = λ w out. elim (within_or x.place (extent (length x.bytes)) w) [
      | inl (i, lt, at) ↦ subst (λ z. get_or words' z 0 ≡ 0) at (re.within i lt)
      | inr outside ↦ re.others w outside ∙ im.zeros w (λ q y p. elim (cases_eq q h) [
        | inl is ↦ (let same : x ≡ y = (let p' : get m h ≡ Some y = rw is at p in cc) in rw same at outside)
        | inr ne ↦ out q y (get_remove_other m h q ne ∙ p)
      ])
    ];
  }

  -- an object is added, in words of no other object
  pub image_added : (x : Placed) → get m h ≡ None → IsApartFrom extent m h x
      → Rewrites words words' (record { from = x.place; count = extent (length x.bytes) }) (object_word h x.bytes) → IsImageOver extent (insert m h x) words'
  image_added x none free re = record {
    held = λ q y p i lt. elim (some_inserted m h x q y p) [
      | inl (is, same) ↦ (let l : i < extent (length x.bytes) = rw same lt in rw (is, ← same) (re.within i l))
      | inr (ne, p') ↦ re.others (y.place + i) (disjoint_outside x.place (extent (length x.bytes)) y.place (extent (length y.bytes)) i (free q y p' ne) lt)
          ∙ im.held q y p' i lt
    ];
    zeros = λ w out. re.others w (out h x (get_inserted m h x)) ∙ im.zeros w (λ q y p. elim (cases_eq q h) [
      | inl is ↦ absurd (let p' : get m h ≡ Some y = rw is at p in cc)
      | inr ne ↦ out q y (get_insert_other m h x q ne ∙ p)
    ]);
  }

  -- an object keeps its number and gets another address or other bytes
  pub image_replaced : (x y : Placed) → get m h ≡ Some x → IsApartFrom extent m h x → IsApartFrom extent m h y
      → ((i : ℕ) → i < extent (length y.bytes) → get_or words' (y.place + i) 0 ≡ object_word h y.bytes i)
      → ((i : ℕ) → i < extent (length x.bytes) → IsOutsideOf extent y (x.place + i) → get_or words' (x.place + i) 0 ≡ 0)
      → ((w : ℕ) → IsOutsideOf extent x w → IsOutsideOf extent y w → get_or words' w 0 ≡ get_or words w 0)
      → IsImageOver extent (insert m h y) words'
  image_replaced x y is-x free_x free_y new old others = record {
    held = λ q z p i lt. elim (some_inserted m h y q z p) [
      | inl (is, same) ↦ (let l : i < extent (length y.bytes) = rw same lt in rw (is, ← same) (new i l))
      | inr (ne, p') ↦ others (z.place + i)
          (disjoint_outside x.place (extent (length x.bytes)) z.place (extent (length z.bytes)) i (free_x q z p' ne) lt)
          (disjoint_outside y.place (extent (length y.bytes)) z.place (extent (length z.bytes)) i (free_y q z p' ne) lt)
          ∙ im.held q z p' i lt
    ];
    zeros = λ w out.
        let here : IsOutsideOf extent y w = out h y (get_inserted m h y) in
        elim (within_or x.place (extent (length x.bytes)) w) [
          | inl (i, lt, at) ↦ (let away : IsOutsideOf extent y (x.place + i) = rw at here in subst (λ v. get_or words' v 0 ≡ 0) at (old i lt away))
          | inr outside ↦ others w outside here ∙ im.zeros w (λ q z p. elim (cases_eq q h) [
            | inl is ↦ (let same : x ≡ z = (let p' : get m h ≡ Some z = rw is at p in cc) in rw same at outside)
            | inr ne ↦ out q z (get_insert_other m h y q ne ∙ p)
          ])
        ];
  }
