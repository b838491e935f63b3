-- The bytes of each object can be gathered from its inner objects. A malloc makes, and a free removes, exactly the inner objects of its object; after these and
-- a write the counts of inner objects (`AreInnerCounted`) and the table of lengths (`AreLengths`) are right.
use Rattle.std.proofs.Common.{◌≡◌, ◌≢◌, ℕ, zero, suc, ◌+◌, ◌-◌, ◌*◌, ◌<◌, ◌≤◌, List, [], ◌∷◌, ◌++◌}
use Rattle.std.proofs.Common.{Some, None, length, get_or, set, drop, replicate, arith, sym, ◌∙◌, ap, refl, inl, inr, length-drop}
use Rattle.std.specs.Prelude.{Option, nat_eq, option_map, sum_by}
use Rattle.std.proofs.lemmas.List.Sums.{sum_by-cons}
use Rattle.std.proofs.lemmas.Bool.{cases_eq, cases_lt}
use Rattle.std.proofs.lemmas.List.{get_or-set_same, get_or-set_other, length-replicate, length-set, take_all}
use Rattle.std.specs.FinMap.{get, insert, remove}
use Rattle.cf_base.proofs.Maps.{equal_maps, get_inserted, get_insert_other, get_removed, get_remove_other, len_fresh, len_rebound}
use Rattle.cf_base.proofs.Numbered.{get-numbered}
use Rattle.cf_base.proofs.Ranges.{one}
use Rattle.cf_base.proofs.Tests.{le_yes, le_no}
use Rattle.page_model.specs.Held.{Objects}
use Rattle.page_model.specs.Paging.{Paging, class_for}
use Rattle.page_model.proofs.CallerLemmas.{live_added, live_taken}
use Rattle.large_objects.specs.Growing.{IsGrowing}
use Rattle.large_objects.specs.Large.{AreInnerCounted, AreLaidOut, bytes_found, named}
use Rattle.large_objects.specs.Layout.{AreLengths, gathered, gathered_from, gathered_objects}
use Rattle.large_objects.specs.InnerObjects.{in_class, inner_lengths, part_count, spine_bytes}
use Rattle.large_objects.specs.Shrinking.{IsShrinking}
use Rattle.large_objects.proofs.Bytes.{part_of_zeros, parts_whole}
use Rattle.large_objects.proofs.Cutting.{in_class_cons, in_class_one, length_long, length_short, inner_lengths_long, inner_lengths_short, parts_enough}
use Rattle.large_objects.proofs.LaidOut.{IsNew, IsInnerOf, clash, not_large}
use Rattle.large_objects.proofs.Room.{count_inserted, count_removed, count_replaced, live_inserted, live_removed, live_replaced, live_rewritten}
use Rattle.large_objects.proofs.ShrinkLemmas.{len_without}
use Rattle.large_objects.proofs.Summed.{inner_inserted, inner_removed, inner_rewritten, sum_inserted, sum_one, sum_removed, sum_rewritten}

drop_none : (xs : List ℕ) → drop 0 xs ≡ xs
drop_none [] = refl
drop_none (x ∷ xs) = refl

gathered_at : (u : ℕ) (inner : Objects) (k : ℕ) (lengths : List (Option ℕ)) (i : ℕ)
    → get_or (gathered_from u inner k lengths) i None ≡ option_map (gathered u inner (k + i)) (get_or lengths i None)
gathered_at u inner k [] i = refl
gathered_at u inner k (None ∷ lengths) zero = refl
gathered_at u inner k (Some n ∷ lengths) zero = (let e : k + 0 ≡ k = omega arith in rw e refl)
gathered_at u inner k (None ∷ lengths) (suc i) = gathered_at u inner (k + 1) lengths i
    ∙ ap (λ h. option_map (gathered u inner h) (get_or lengths i None)) (let e : k + 1 + i ≡ k + suc i = omega arith in e)
gathered_at u inner k (Some n ∷ lengths) (suc i) = gathered_at u inner (k + 1) lengths i
    ∙ ap (λ h. option_map (gathered u inner h) (get_or lengths i None)) (let e : k + 1 + i ≡ k + suc i = omega arith in e)

-- the bytes gathered for an object are its bytes
gathered_is : (u : ℕ) (large inner : Objects) → 0 < u → AreLaidOut u large inner → (h : ℕ) (v : List ℕ) → get large h ≡ Some v → gathered u inner h (length v)
    ≡ v
unfolding gathered
gathered_is u large inner some laid h v is = elim (cases_lt u (length v)) [
  | inl long ↦ rw (le_no (length v) u long) (parts_whole u v (λ i. bytes_found (get inner (named inner h i))) (part_count u (length v))
      (parts_enough u (length v) some)
      (λ i lt. ap bytes_found (laid.parts_are h v is long i lt)))
  | inr short ↦ rw (le_yes (length v) u short) (ap bytes_found (laid.small h v is short))
]

-- the gathered objects are the objects of the heap
pub all_gathered : (u proxies : ℕ) (lengths : List (Option ℕ)) (large inner : Objects) → 0 < u → AreLaidOut u large inner → AreLengths lengths large proxies
    → gathered_objects u lengths inner ≡ large
unfolding gathered_objects
all_gathered u proxies lengths large inner some laid known = equal_maps _ large (λ q.
    get-numbered (gathered_from u inner 0 lengths) q ∙ gathered_at u inner 0 lengths q
    ∙ ap (λ h. option_map (gathered u inner h) (get_or lengths q None)) (let e : 0 + q ≡ q = omega arith in e)
    ∙ ap (option_map (gathered u inner q)) (known.each q) ∙ back q (get large q) refl)
  where
    back : (q : ℕ) (r : Option (List ℕ)) → get large q ≡ r → option_map (gathered u inner q) (option_map length (get large q)) ≡ get large q
    back q None is = rw is refl
    back q (Some v) is = (let g = gathered_is u large inner some laid q v is in rw is (ap (λ b. Some b) g))

-- the lengths after an object is made, freed or changed
module _ (lengths : List (Option ℕ)) (large : Objects) (proxies h : ℕ) (known : AreLengths lengths large proxies) (lt : h < length lengths) where
  pub lengths_more : (v : List ℕ) → AreLengths (set lengths h (Some (length v))) (insert large h v) proxies
  lengths_more v = record {
    count = length-set lengths h (Some (length v)) ∙ known.count;
    each = λ q. elim (cases_eq q h) [
      | inl is ↦ rw is (get_or-set_same lengths h (Some (length v)) None lt ∙ sym (ap (option_map length) (get_inserted large h v)))
      | inr ne ↦ get_or-set_other lengths h q (Some (length v)) None ne ∙ known.each q ∙ sym (ap (option_map length) (get_insert_other large h v q ne))
    ];
  }

  pub lengths_less : AreLengths (set lengths h None) (remove large h) proxies
  lengths_less = record {
    count = length-set lengths h None ∙ known.count;
    each = λ q. elim (cases_eq q h) [
      | inl is ↦ rw is (get_or-set_same lengths h None None lt ∙ sym (ap (option_map length) (get_removed large h)))
      | inr ne ↦ get_or-set_other lengths h q None None ne ∙ known.each q ∙ sym (ap (option_map length) (get_remove_other large h q ne))
    ];
  }

pub lengths_same : (lengths : List (Option ℕ)) (large : Objects) (proxies h : ℕ) (v w : List ℕ) → AreLengths lengths large proxies → get large h ≡ Some v
    → length w ≡ length v → AreLengths lengths (insert large h w) proxies
lengths_same lengths large proxies h v w known is same = record {
  count = known.count;
  each = λ q. elim (cases_eq q h) [
    | inl at ↦ rw at (known.each h ∙ ap (option_map length) is ∙ ap (λ n. Some n) (sym same) ∙ sym (ap (option_map length) (get_inserted large h w)))
    | inr ne ↦ known.each q ∙ sym (ap (option_map length) (get_insert_other large h w q ne))
  ];
}

-- a short object is made
module _ (p : Paging) (u : ℕ) (some : 0 < u) (large inner : Objects) (laid : AreLaidOut u large inner) (counted : AreInnerCounted p u large inner) (h n : ℕ)
    (unused : get inner h ≡ None) where
  abbrev zeros : List ℕ
  zeros = replicate n 0

  long_zeros : length zeros ≡ n
  long_zeros = length-replicate {A = ℕ} n 0

  pub new_short : n ≤ u → IsNew u inner h (replicate n 0) (insert inner h (replicate n 0))
  new_short short =
      let never : u < length zeros → ⊥ = λ long. (let l = long_zeros in omega arith) in
      record {
        unused = unused;
        others = λ q b is. get_insert_other inner h zeros q (λ e. clash inner h b (sym (ap (get inner) e) ∙ is) unused) ∙ is;
        small = λ _. get_inserted inner h zeros;
        spine = λ long. absurd (never long);
        parts_are = λ long i lt. absurd (never long);
        fresh = λ long i lt. absurd (never long);
        not_spine = λ long i lt. absurd (never long);
        apart = λ long i j lt lt' e. absurd (never long);
        no_others = λ q b is none. elim (cases_eq q h) [
          | inl at ↦ inl at
          | inr ne ↦ clash inner q b (sym (get_insert_other inner h zeros q ne) ∙ is) none
        ];
      }

  pub counted_short : n ≤ u → AreInnerCounted p u (insert large h (replicate n 0)) (insert inner h (replicate n 0))
  counted_short short =
      let none = not_large u large inner laid h unused in
      record {
        all = (
            let a = len_fresh inner h zeros unused in
            let b = count_inserted p u large h zeros none in
            let l = ap (λ n. length (inner_lengths u n)) long_zeros in
            let s = length_short u n some short in
            let before = counted.all in omega arith);
        each = λ c. (
            let a = live_added p inner h zeros c unused in
            let b = live_inserted p u large h zeros c none in
            let x = ap (λ k. one (nat_eq (class_for p k) c)) long_zeros in
            let l = ap (λ n. in_class p c (inner_lengths u n)) long_zeros in
            let s = ap (in_class p c) (inner_lengths_short u n some short) ∙ in_class_one p c n in
            let before = counted.each c in omega arith);
        sums = λ f. (
            let a = sum_inserted f inner h zeros unused in
            let b = inner_inserted f u large h zeros none in
            let x = ap f long_zeros in
            let l = ap (λ n. sum_by f (inner_lengths u n)) long_zeros in
            let s = ap (sum_by f) (inner_lengths_short u n some short) ∙ sum_one f n in
            let before = counted.sums f in omega arith);
      }

  -- a long object is made, with all its parts
  module _ (long : u < n) (next : Objects) (grown : IsGrowing p u n inner h (part_count u n) next) where
    pub new_long : IsNew u inner h (replicate n 0) next
    new_long =
        let l = long_zeros in
        let count = ap (part_count u) l in
        record {
          unused = unused;
          others = grown.others;
          small = λ short. absurd (omega arith);
          spine = λ _. (let s = grown.spine in record { spine = s.spine; found = s.found; long = s.long ∙ sym (ap (λ n. spine_bytes u n) l) });
          parts_are = λ _ i lt. grown.made i (rw count at lt) ∙ sym (ap (λ b. Some b) (part_of_zeros u n i));
          fresh = λ _ i lt. grown.fresh i (rw count at lt);
          not_spine = λ _ i lt. grown.not_spine i (rw count at lt);
          apart = λ _ i j lt lt' e. grown.apart i j (rw count at lt) (rw count at lt') e;
          no_others = λ q b is none. elim (grown.no_others q b is none) [
            | inl at ↦ inl at
            | inr (i, lt, at) ↦ inr ((omega arith), (i, (rw (sym count) at lt), at))
          ];
        }

    pub counted_long : AreInnerCounted p u (insert large h (replicate n 0)) next
    counted_long =
        let none = not_large u large inner laid h unused in
        let l = length_long u n some long in
        record {
          all = (
              let b = count_inserted p u large h zeros none in
              let z = ap (λ n. length (inner_lengths u n)) long_zeros in
              let a = grown.all in let before = counted.all in omega arith);
          each = λ c. (
              let b = live_inserted p u large h zeros c none in
              let z = ap (λ n. in_class p c (inner_lengths u n)) long_zeros in
              let t = ap (in_class p c) (take_all (1 + part_count u n) (inner_lengths u n) (omega arith)) in
              let a = grown.live_now c in let before = counted.each c in omega arith);
          sums = λ f. (
              let b = inner_inserted f u large h zeros none in
              let z = ap (λ n. sum_by f (inner_lengths u n)) long_zeros in
              let t = ap (sum_by f) (take_all (1 + part_count u n) (inner_lengths u n) (omega arith)) in
              let a = grown.sums_now f in let before = counted.sums f in omega arith);
        }

-- an object is freed
module _ (p : Paging) (u : ℕ) (some : 0 < u) (large inner : Objects) (laid : AreLaidOut u large inner) (counted : AreInnerCounted p u large inner) (h : ℕ)
    (v : List ℕ)
    (found : get large h ≡ Some v) where
  pub others_short : length v ≤ u → (q : ℕ) → (IsInnerOf u inner h v q → ⊥) → get (remove inner h) q ≡ get inner q
  others_short short q not = get_remove_other inner h q (λ e. not (inl e))

  pub gone_short : length v ≤ u → (q : ℕ) → IsInnerOf u inner h v q → get (remove inner h) q ≡ None
  gone_short short q (inl at) = ap (get (remove inner h)) at ∙ get_removed inner h
  gone_short short q (inr (long, part)) = absurd (omega arith)

  pub counted_gone_short : length v ≤ u → AreInnerCounted p u (remove large h) (remove inner h)
  counted_gone_short short =
      let there = laid.small h v found short in
      record {
        all = (
            let a = len_without inner h v there in
            let b = count_removed p u large h v found in
            let s = length_short u (length v) some short in
            let before = counted.all in omega arith);
        each = λ c. (
            let a = live_taken p inner h v c there in
            let b = live_removed p u large h v c found in
            let s = ap (in_class p c) (inner_lengths_short u (length v) some short) ∙ in_class_one p c (length v) in
            let before = counted.each c in omega arith);
        sums = λ f. (
            let a = sum_removed f inner h v there in
            let b = inner_removed f u large h v found in
            let s = ap (sum_by f) (inner_lengths_short u (length v) some short) ∙ sum_one f (length v) in
            let before = counted.sums f in omega arith);
      }

  module _ (long : u < length v) (mid : Objects) (shrunk : IsShrinking p u (length v) inner h (part_count u (length v)) mid) where
    pub others_long : (q : ℕ) → (IsInnerOf u inner h v q → ⊥) → get (remove mid h) q ≡ get inner q
    others_long q not = get_remove_other mid h q (λ e. not (inl e)) ∙ shrunk.others q (λ j lt e. not (inr (long, (j, lt, e))))

    pub gone_long : (q : ℕ) → IsInnerOf u inner h v q → get (remove mid h) q ≡ None
    gone_long q (inl at) = ap (get (remove mid h)) at ∙ get_removed mid h
    gone_long q (inr (_, (i, lt, at))) = elim (cases_eq q h) [
      | inl is ↦ ap (get (remove mid h)) is ∙ get_removed mid h
      | inr ne ↦ get_remove_other mid h q ne ∙ ap (get mid) at ∙ shrunk.gone i lt
    ]

    pub counted_gone_long : ((j : ℕ) → j < part_count u (length v) → named inner h j ≢ h) → AreInnerCounted p u (remove large h) (remove mid h)
    counted_gone_long apart =
        let s = laid.spines h v found long in
        let there : get mid h ≡ Some s.spine = shrunk.others h (λ j lt e. apart j lt (sym e)) ∙ s.found in
        let l = length_long u (length v) some long in
        let d = length-drop 1 (inner_lengths u (length v)) in
        record {
          all = (
              let a = len_without mid h s.spine there in
              let b = count_removed p u large h v found in
              let m = shrunk.all in
              let before = counted.all in omega arith);
          each = λ c. (
              let a = live_taken p mid h s.spine c there in
              let x = ap (λ k. one (nat_eq (class_for p k) c)) s.long in
              let b = live_removed p u large h v c found in
              let t = ap (in_class p c) (take_all (part_count u (length v)) (drop 1 (inner_lengths u (length v))) (omega arith)) in
              let rest : List ℕ = replicate (part_count u (length v) - 1) u ++ ((length v - u * (part_count u (length v) - 1)) ∷ []) in
              let w : in_class p c (inner_lengths u (length v)) ≡ one (nat_eq (class_for p (spine_bytes u (length v))) c) + in_class p c rest =
              ap (in_class p c) (inner_lengths_long u (length v) some long) ∙ in_class_cons p c (spine_bytes u (length v)) rest in
              let y : in_class p c (drop 1 (inner_lengths u (length v))) ≡ in_class p c (drop 0 rest) =
              ap (λ xs. in_class p c (drop 1 xs)) (inner_lengths_long u (length v) some long) in
              let z : in_class p c (drop 0 rest) ≡ in_class p c rest = ap (in_class p c) (drop_none rest) in
              let m = shrunk.live_now c in
              let before = counted.each c in omega arith);
          sums = λ f. (
              let a = sum_removed f mid h s.spine there in
              let x = ap f s.long in
              let b = inner_removed f u large h v found in
              let t = ap (sum_by f) (take_all (part_count u (length v)) (drop 1 (inner_lengths u (length v))) (omega arith)) in
              let rest : List ℕ = replicate (part_count u (length v) - 1) u ++ ((length v - u * (part_count u (length v) - 1)) ∷ []) in
              let w : sum_by f (inner_lengths u (length v)) ≡ f (spine_bytes u (length v)) + sum_by f rest =
              ap (sum_by f) (inner_lengths_long u (length v) some long) ∙ sum_by-cons f (spine_bytes u (length v)) rest in
              let y : sum_by f (drop 1 (inner_lengths u (length v))) ≡ sum_by f (drop 0 rest) = ap (λ xs. sum_by f (drop 1 xs)) (inner_lengths_long u (length v) some long) in
              let z : sum_by f (drop 0 rest) ≡ sum_by f rest = ap (sum_by f) (drop_none rest) in
              let m = shrunk.sums_now f in
              let before = counted.sums f in omega arith);
        }

-- the counts after a write into an inner object, which keeps its length and that of the object
pub counted_written : (p : Paging) (u : ℕ) (large inner : Objects) (h q : ℕ) (v w b c : List ℕ) → AreInnerCounted p u large inner → get large h ≡ Some v
    → length w ≡ length v → get inner q ≡ Some b → length c ≡ length b → AreInnerCounted p u (insert large h w) (insert inner q c)
counted_written p u large inner h q v w b c counted found same there alike = record {
  all = (
      let x = count_replaced p u large h v w found same in
      let y = len_rebound inner q c b there in
      let before = counted.all in omega arith);
  each = λ d. (
      let x = live_replaced p u large h v w d found same in
      let y = live_rewritten p inner q b c d there alike in
      let before = counted.each d in omega arith);
  sums = λ f. (
      let x = inner_rewritten f u large h v w found same in
      let y = sum_rewritten f inner q b c there alike in
      let before = counted.sums f in omega arith);
}
