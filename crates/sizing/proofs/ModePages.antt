-- For the laws of `modes.rt` and `heaps.rt` and for `is_certified`: a program whose objects are always within one of several modes. A certificate bounds its
-- pages along every run, so they serve; `spread_of_modes` is the sum of one; and fewer pages than a mode needs refuse.
use Rattle.std.proofs.Common.{◌≡◌, ◌≢◌, ℕ, ◌+◌, ◌-◌, ◌*◌, ◌%◌, ◌<◌, ◌≤◌, suc, List, [], ◌∷◌, Contains, None, Some, cond, length, map, replicate, arith, ap, sym, ◌∙◌, inl, inr, refl, subst}
use Rattle.std.specs.Prelude.{All, count_by, max, min, nat_eq, slice_index, slice_index_or, sum_by}
use Rattle.std.specs.List.{range_with_len}
use Rattle.std.proofs.lemmas.Bool.{cases_eq, cases_lt}
use Rattle.std.proofs.lemmas.List.{get_or_default}
use Rattle.std.proofs.lemmas.List.FromFn.{get_or-map-range_with_len, length-map-range_with_len}
use Rattle.std.proofs.lemmas.List.Elements.{All-cons, All-contains, All-nil, All-weaker, Contains-get_or}
use Rattle.std.proofs.lemmas.Nat.{div-add-mod', mul-le}
use Rattle.std.proofs.Math.Nat.{le-max_left, le-max_right, le-min, max-le, min-le_left, min-le_right, mod-lt}
use Rattle.std.specs.FinMap.{empty, get, insert}
use Rattle.cf_base.specs.Settings.{Profile}
use Rattle.cf_base.proofs.Ranges.{one, sum_le, sum_range_same}
use Rattle.cf_base.proofs.Tests.{eq_no, eq_yes}
use Rattle.cf_base.proofs.Values.{no_values}
use Rattle.page_model.specs.Arrangement.{IsSound, class_at, live, pages_of_class, used_pages}
use Rattle.page_model.specs.Counts.{ceil_div, most_pages}
use Rattle.page_model.specs.Held.{Held, Objects, Placed, objects}
use Rattle.page_model.specs.Paging.{EveryBoundIsOne, IsPaging, Paging, bound_of, class_for, classes, slots_of}
use Rattle.page_model.specs.Steps.{resized}
use Rattle.page_model.proofs.CallerLemmas.{between_multiples, bytes_held, bytes_missing, ceil_mono, live_taken, no_objects, one_le, slots_some, sound_empty}
use Rattle.page_model.proofs.Lacking.{none_free}
use Rattle.page_model.proofs.Nothing.{none_home}
use Rattle.page_model.proofs.PageCounts.{sound_can_hold}
use Rattle.page_model.proofs.PageLaws.{most_pages_least}
use Rattle.quota_model.specs.Admission.{first_large, in_order, live_of, pages_needed_by}
use Rattle.quota_model.specs.declared.results.Need.{Need}
use Rattle.quota_model.proofs.CallerLemmas.{live_of-inserted}
use Rattle.sizing.specs.Certificates.{AreForResizes, HoldCopies, IsCertificate, IsPoint, KeepResized, LeadsInto, LeadsToPoint, kept_count, mode_at, mode_count, one_more_of, pages_with_copy}
use Rattle.sizing.specs.Demands.{HasAtMost, KeepsTo, KeepsToOne, count_in, greatest_of, pages_of_modes, spread_of, spread_of_modes}
use Rattle.sizing.specs.Runs.{CanBeRefused, Does, DoesAcross, HeapCall, IsServed, ResizesWithin, RunCalls, RunCallsBy, ServesMallocs, ServesMallocsAcross, ServesMallocsBy, ServesResizes, ServesResizesAcross, ServesResizesBy}
use Rattle.sizing.specs.declared.certificate.PointPages.{PointPages}
use Rattle.sizing.proofs.Calls.{live_malloced, live_resized, run_keeps, sound_next, within_next}
use Rattle.sizing.proofs.ClassPages.{full_now, sum_less}
use Rattle.sizing.proofs.FewerPages.{refused}
use Rattle.sizing.proofs.MostLive.{declared_few}
use Rattle.sizing.proofs.MostPages.{ceil_within_most, most_at_one, most_grows}
use Rattle.sizing.proofs.Staying.{StaysOver, kept_few, left_few, stays_over}

-- ---- lists of modes

pub contains_head : {X : Type 0} (x : X) (xs : List X) → Contains (x ∷ xs) x
contains_head x xs = (0, omega arith, refl)

pub contains_later : {X : Type 0} (x y : X) (xs : List X) → Contains xs y → Contains (x ∷ xs) y
contains_later x y xs c = (c.0 + 1, (let lt = c.1 in omega arith), (let e : c.0 + 1 ≡ suc c.0 = omega arith in rw e c.2))

-- objects within one of the modes are within that of some number
numbered : (modes : List (List Need)) (o : Objects) → KeepsToOne modes o → (j : ℕ) × (j < length modes) × KeepsTo (mode_at modes j) o
numbered modes o one_of =
    let at = one_of.1 in
    (at.0, at.1, subst (λ n. KeepsTo n o) (sym (get_or_default modes at.0 [] one_of.0 at.1 ∙ at.2)) one_of.2)

contains_at : (modes : List (List Need)) (j : ℕ) → j < length modes → Contains modes (mode_at modes j)
contains_at modes j lt = (j, lt, get_or_default modes j (mode_at modes j) [] lt)

module _ (f : List Need → ℕ) where
  pub at_most_greatest : (modes : List (List Need)) (needs : List Need) → Contains modes needs → f needs ≤ greatest_of f modes
  at_most_greatest modes needs is = All-contains (λ n. f n ≤ greatest_of f modes) modes needs (all modes) is
    where
      all : (modes : List (List Need)) → All (λ n. f n ≤ greatest_of f modes) modes
      all [] = All-nil (λ n. f n ≤ 0)
      all (x ∷ xs) = All-cons (λ n. f n ≤ greatest_of f (x ∷ xs)) x xs (le-max_left (f x) (greatest_of f xs))
          (All-weaker (λ n. f n ≤ greatest_of f xs) (λ n. f n ≤ greatest_of f (x ∷ xs))
          (λ n le. (let up = le-max_right (f x) (greatest_of f xs) in omega arith)) xs (all xs))

  -- a number below the greatest is below that of a mode
  below_greatest : (modes : List (List Need)) (t : ℕ) → t < greatest_of f modes → (needs : List Need) × Contains modes needs × (t < f needs)
  below_greatest [] t lt = absurd (omega arith)
  below_greatest (x ∷ xs) t lt = elim (cases_lt t (f x)) [
    | inl here ↦ (x, contains_head x xs, here)
    | inr over ↦ elim (cases_lt t (greatest_of f xs)) [
      | inl later ↦ (let r = below_greatest xs t later in (r.0, contains_later x r.0 xs r.1, r.2))
      | inr past ↦ absurd (let m : max (f x) (greatest_of f xs) ≤ t = max-le over past in omega arith)
    ]
  ]

-- ---- certificates

filled : (b m : ℕ) → 0 < m → ceil_div (b * m) m ≡ b
filled b m pos = between_multiples (b * m + (m - 1)) b m pos (omega arith) (omega arith)

-- n objects are at most the slots of the pages that they need
slots_enough : (n m b : ℕ) → 0 < m → ceil_div n m ≤ b → n ≤ b * m
slots_enough n m b pos le =
    let d : ceil_div n m * m + (n + (m - 1)) % m ≡ n + (m - 1) = div-add-mod' (n + (m - 1)) m in
    let r : (n + (m - 1)) % m < m = mod-lt (n + (m - 1)) pos in
    let more = mul-le (ceil_div n m) m b m le (omega arith) in
    omega arith

-- without the object of a malloc the needs are kept too
keeps_before : (needs : List Need) (m : Held) (h n : ℕ) → get m h ≡ None → KeepsTo needs (insert (objects m) h (replicate n 0)) → KeepsTo needs (objects m)
keeps_before needs m h n none keeps q =
    let a = live_of-inserted (objects m) h n q (bytes_missing m h none) in
    let b = keeps q in
    omega arith

keeps_none : (needs : List Need) → KeepsTo needs (objects empty)
keeps_none needs n =
    let none : live_of (objects empty) n ≡ 0 = ap (λ (o : Objects). live_of o n) no_objects ∙ ap (count_by (λ (v : List ℕ). nat_eq (length v) n)) no_values in
    omega arith

module _ (p : Paging) (ok : IsPaging p) where
  pub most_on : (m : Held) → IsSound p m → (c n : ℕ) → c < classes p → live p (objects m) c ≤ n → pages_of_class p m c ≤ most_pages n (slots_of p c) (bound_of p c)
  most_on m s c n lt few =
      let here = most_pages_least (pages_of_class p m c) (live p (objects m) c) (slots_of p c) (bound_of p c) (slots_some p ok c lt) (sound_can_hold p ok c lt m s) in
      let more = most_grows (live p (objects m) c) n (slots_of p c) (bound_of p c) (slots_some p ok c lt) (ok.some c lt) few in
      omega arith

  -- if of each class at most `kept` objects stay over a call, and the pages of the class are within those that it had, or those of the point y, then they are
  -- within those of y
  below_next : (old new : Held) → IsSound p old → IsSound p new → (x y : PointPages) (kept : ℕ → ℕ) → LeadsToPoint p kept x y → StaysOver p kept (objects old) (objects new)
      → (c : ℕ) → c < classes p → pages_of_class p old c ≤ slice_index x.pages c → pages_of_class p new c ≤ max (pages_of_class p old c) (slice_index y.pages c)
      → pages_of_class p new c ≤ slice_index y.pages c
  below_next old new so sn x y kept leads stays c lt below grows = elim (cases_lt (slice_index y.pages c) (pages_of_class p new c)) [
    | inr fine ↦ fine
    | inl more ↦ (
        let next = leads c lt in
        let fewer : pages_of_class p new c ≤ pages_of_class p old c = elim (cases_lt (pages_of_class p old c) (pages_of_class p new c)) [
          | inr le ↦ le
          | inl grew ↦ absurd (
              let within : max (pages_of_class p old c) (slice_index y.pages c) ≤ pages_of_class p new c - 1 = max-le (omega arith) (omega arith) in
              omega arith)
        ] in
        let on : pages_of_class p new c ≤ most_pages (kept c) (slots_of p c) (bound_of p c) = elim (stays c lt) [
          | inl before ↦ (let a = most_on old so c (kept c) lt before in omega arith)
          | inr after ↦ most_on new sn c (kept c) lt after
        ] in
        let both : pages_of_class p new c ≤ min (slice_index x.pages c) (most_pages (kept c) (slots_of p c) (bound_of p c)) = le-min (omega arith) on in
        omega arith)
  ]

  module _ (modes : List (List Need)) (points : List PointPages) (sure : IsCertificate p modes points) where
    -- the pages of the classes are within those of the point
    abbrev IsBelow : Held → PointPages → Type 0
    IsBelow m x = (c : ℕ) → c < classes p → pages_of_class p m c ≤ slice_index x.pages c

    -- in the mode with number j a point of the certificate covers the pages
    abbrev Covers : Held → ℕ → Type 0
    Covers m j = (x : PointPages) × Contains points x × (x.mode ≡ j) × IsBelow m x

    record IsCovered (m : Held) : Type 0 where
      sound : IsSound p m
      within : (j : ℕ) × (j < length modes) × KeepsTo (mode_at modes j) (objects m)
      covered : (j : ℕ) → j < length modes → KeepsTo (mode_at modes j) (objects m) → Covers m j

    point_at : (x : PointPages) → Contains points x → IsPoint p modes points x
    point_at x inside = All-contains (IsPoint p modes points) points x sure.each inside

    covered_first : (j : ℕ) → j < length modes → IsCovered empty
    covered_first j is = record {
      sound = sound_empty p;
      within = (j, is, keeps_none (mode_at modes j));
      covered = λ i lt keeps. (let x = sure.first i lt in (x.0, x.1, x.2, λ c less. (let z = none_home p c in omega arith)));
    }

    -- the objects of a mode are within those of its point
    few_at : (x : PointPages) (j : ℕ) → x.mode ≡ j → (o : Objects) → KeepsTo (mode_at modes j) o → HasAtMost p (mode_count p modes x.mode) o
    few_at x j is o keeps = subst (λ i. HasAtMost p (mode_count p modes i) o) (sym is) (declared_few p (mode_at modes j) o keeps)

    -- a call leaves each class the pages that it had, or those of the point
    grows_within : (old new : Held) (call : HeapCall) → IsSound p old → Does p old call new → (y : PointPages) → Contains points y
        → HasAtMost p (mode_count p modes y.mode) (objects new) → (c : ℕ) → c < classes p
        → pages_of_class p new c ≤ max (pages_of_class p old c) (slice_index y.pages c)
    grows_within old new call s does y inside few c lt =
        let after = within_next p ok old s (λ d. max (pages_of_class p old d) (slice_index y.pages d) * slots_of p d)
        (λ d l. (
        let e = filled (max (pages_of_class p old d) (slice_index y.pages d)) (slots_of p d) (slots_some p ok d l) in
        let up = le-max_left (pages_of_class p old d) (slice_index y.pages d) in
        omega arith)) call new does
        (λ d l. (
        let a = few d l in
        let b = slots_enough (mode_count p modes y.mode d) (slots_of p d) (slice_index y.pages d) (slots_some p ok d l) ((point_at y inside).tops d l) in
        let e = mul-le (slice_index y.pages d) (slots_of p d) (max (pages_of_class p old d) (slice_index y.pages d)) (slots_of p d)
        (le-max_right (pages_of_class p old d) (slice_index y.pages d)) (omega arith) in
        omega arith)) c lt in
        let e = filled (max (pages_of_class p old c) (slice_index y.pages c)) (slots_of p c) (slots_some p ok c lt) in
        omega arith

    -- a program's steps, which resize within a class only if the points allow for it
    module _ (step : Held → HeapCall → Held → Type 0) (does : (old new : Held) (call : HeapCall) → step old call new → Does p old call new)
        (allows : (old new : Held) (call : HeapCall) → step old call new → ResizesWithin p old call → KeepResized p modes points) where
      -- the point x leads to one of mode j that covers the pages after the call
      covers_next : (old new : Held) (call : HeapCall) → IsSound p old → IsSound p new → step old call new → (x : PointPages) (i : ℕ) → Contains points x → x.mode ≡ i
          → IsBelow old x → KeepsTo (mode_at modes i) (objects old) → (j : ℕ) → j < length modes → KeepsTo (mode_at modes j) (objects new) → Covers new j
      covers_next old new call so sn made x i inside is below was j lt keeps =
          let was' : KeepsTo (mode_at modes x.mode) (objects old) = subst (λ k. KeepsTo (mode_at modes k) (objects old)) (sym is) was in
          elim (stays_over p (mode_at modes x.mode) (mode_at modes j) ok old so call new (does old new call made) was' keeps) [
            | inl stays ↦ go (kept_count p modes x.mode j) ((point_at x inside).next j lt) stays
            | inr (within, (c, more)) ↦ go (one_more_of c (kept_count p modes x.mode j)) (allows old new call made within x inside j lt c more.inside more.before more.after)
                more.stays
          ]
        where
          go : (kept : ℕ → ℕ) → LeadsInto p points kept x j → StaysOver p kept (objects old) (objects new) → Covers new j
          go kept y stays = (
            y.0,
            y.1,
            y.2,
            λ c less. below_next old new so sn x y.0 kept y.3 stays c less (below c less)
                (grows_within old new call so (does old new call made) y.0 y.1 (few_at y.0 j y.2 (objects new) keeps) c less),
          )

      covered_next : (old new : Held) (call : HeapCall) → IsCovered old → step old call new → KeepsToOne modes (objects new) → IsCovered new
      covered_next old new call k made one_of =
          let sound = sound_next p ok old k.sound call new (does old new call made) in
          let was = k.within in
          let x = k.covered was.0 was.1 was.2 in
          record {
            sound = sound;
            within = numbered modes (objects new) one_of;
            covered = λ j lt keeps. covers_next old new call k.sound sound made x.0 was.0 x.1 x.2 x.3 was.2 j lt keeps;
          }

      covered_along : (j : ℕ) → j < length modes → (calls : List HeapCall) (m : Held) → RunCallsBy step (KeepsToOne modes) empty calls m → IsCovered m
      covered_along j lt calls m run = run_keeps step (KeepsToOne modes) IsCovered covered_next calls empty m (covered_first j lt) run

      mallocs_by : ServesMallocsBy step p (KeepsToOne modes)
      unfolding used_pages
      mallocs_by calls m h n run l =
          let o = numbered modes (insert (objects m) h (replicate n 0)) l.asked in
          let k = covered_along o.0 o.1 calls m run in
          let x = k.covered o.0 o.1 (keeps_before (mode_at modes o.0) m h n l.unused o.2) in
          let all : used_pages p m ≡ p.pages = none_free p m k.sound l.lacking.taken in
          let few = few_at x.0 o.0 x.2 (insert (objects m) h (replicate n 0)) o.2 (class_for p n) l.fits in
          let added = live_malloced p m h n l.unused in
          let next = full_now p ok m k.sound (class_for p n) l.fits (mode_count p modes (x.0).mode (class_for p n)) l.lacking.full (omega arith) in
          let top = (point_at x.0 x.1).tops (class_for p n) l.fits in
          let less = sum_less (pages_of_class p m) (slice_index (x.0).pages) 1 0 (classes p) (class_for p n) (omega arith) (let f = l.fits in omega arith)
          (λ d _ lt. x.3 d (omega arith)) (omega arith) in
          let within = (point_at x.0 x.1).enough in
          absurd (omega arith)

      spare_by : ((x : PointPages) → Contains points x → sum_by (slice_index x.pages) (range_with_len 0 (classes p)) < p.pages) → ServesResizesBy step p (KeepsToOne modes)
      unfolding used_pages
      spare_by spare calls m h n run l =
          let o = numbered modes _ l.asked in
          let k = covered_along o.0 o.1 calls m run in
          let w = k.within in
          let x = k.covered w.0 w.1 w.2 in
          let all : used_pages p m ≡ p.pages = none_free p m k.sound l.lacking.taken in
          let sum = sum_le (pages_of_class p m) (slice_index (x.0).pages) 0 (classes p) (λ d _ lt. x.3 d (omega arith)) in
          let less = spare x.0 x.1 in
          absurd (omega arith)

    pub certified_mallocs : ServesMallocsAcross p (KeepsToOne modes)
    certified_mallocs = mallocs_by (DoesAcross p) (λ old new call made. made.0) (λ old new call made within. absurd (made.1 within))

    pub certified_spare : ((x : PointPages) → Contains points x → sum_by (slice_index x.pages) (range_with_len 0 (classes p)) < p.pages)
        → ServesResizesAcross p (KeepsToOne modes)
    certified_spare = spare_by (DoesAcross p) (λ old new call made. made.0) (λ old new call made within. absurd (made.1 within))

    module _ (within : KeepResized p modes points) where
      pub all_mallocs : ServesMallocs p (KeepsToOne modes)
      all_mallocs = mallocs_by (Does p) (λ old new call made. made) (λ old new call made _. within)

      pub all_spare : ((x : PointPages) → Contains points x → sum_by (slice_index x.pages) (range_with_len 0 (classes p)) < p.pages) → ServesResizes p (KeepsToOne modes)
      all_spare = spare_by (Does p) (λ old new call made. made) (λ old new call made _. within)

      -- before a resize another class than the new slot's is within the pages that hold the object twice
      copy_below : (m : Held) (h n : ℕ) → IsSound p m → (y : Placed) → get m h ≡ Some y → class_for p n ≢ class_at p y → (x : PointPages) (j : ℕ)
          → KeepsTo (mode_at modes x.mode) (objects m) → KeepsTo (mode_at modes j) (insert (objects m) h (resized y.bytes n)) → IsBelow m x
          → (e : ℕ) → e < classes p → e ≢ class_for p n
          → pages_of_class p m e ≤ pages_with_copy p (class_at p y) (class_for p n) e (slice_index x.pages e) (kept_count p modes x.mode j e)
          (mode_count p modes x.mode e) (mode_count p modes j e)
      copy_below m h n s y there other x j was now below e lt ne =
          let rest = left_few p (mode_at modes x.mode) (mode_at modes j) (objects m) h y.bytes (resized y.bytes n) (bytes_held m h y there) was now e lt in
          let taken = live_taken p (objects m) h y.bytes e (bytes_held m h y there) in
          let few = declared_few p (mode_at modes x.mode) (objects m) was e lt in
          let left : live p (objects m) e
          ≤ cond (nat_eq e (class_at p y)) (min (kept_count p modes x.mode j e + 1) (mode_count p modes x.mode e)) (kept_count p modes x.mode j e) =
          elim (cases_eq e (class_at p y)) [
            | inl is ↦ (let one_more_of = one_le (nat_eq (class_at p y) e) in rw (eq_yes e (class_at p y) is) (le-min (omega arith) few))
            | inr out ↦ (
                let same : one (nat_eq (class_at p y) e) ≡ 0 = ap one (eq_no (class_at p y) e (λ i. out (sym i))) in
                rw (eq_no e (class_at p y) out) (omega arith))
          ] in
          let on = most_on m s e (cond (nat_eq e (class_at p y)) (min (kept_count p modes x.mode j e + 1) (mode_count p modes x.mode e)) (kept_count p modes x.mode j e)) lt
          left in
          rw (eq_no e (class_for p n) ne) (le-min (below e lt) on)

      pub all_resizes : HoldCopies p modes points → ServesResizes p (KeepsToOne modes)
      unfolding used_pages
      all_resizes holds calls m h n run l =
          let o = numbered modes (insert (objects m) h (resized (l.object).bytes n)) l.asked in
          let k = covered_along (Does p) (λ old new call made. made) (λ old new call made _. within) o.0 o.1 calls m run in
          let w = k.within in
          let x = k.covered w.0 w.1 w.2 in
          let all : used_pages p m ≡ p.pages = none_free p m k.sound l.lacking.taken in
          let was : KeepsTo (mode_at modes (x.0).mode) (objects m) = subst (λ i. KeepsTo (mode_at modes i) (objects m)) (sym x.2) w.2 in
          let now = declared_few p (mode_at modes o.0) (insert (objects m) h (resized (l.object).bytes n)) o.2 in
          let held = bytes_held m h l.object l.found in
          let inside = (k.sound.slots h l.object l.found).class in
          let rest = left_few p (mode_at modes (x.0).mode) (mode_at modes o.0) (objects m) h (l.object).bytes (resized (l.object).bytes n) held was o.2 (class_for p n) l.fits in
          let not_here : one (nat_eq (class_at p l.object) (class_for p n)) ≡ 0 =
          ap one (eq_no (class_at p l.object) (class_for p n) (λ e. l.other (sym e))) in
          let here_taken = live_taken p (objects m) h (l.object).bytes (class_for p n) held in
          let b = now (class_for p n) l.fits in
          let grown = live_resized p m h n l.object l.found l.other in
          let next = full_now p ok m k.sound (class_for p n) l.fits (min (kept_count p modes (x.0).mode o.0 (class_for p n) + 1) (mode_count p modes o.0 (class_for p n)))
          l.lacking.full (le-min (omega arith) (omega arith)) in
          let top : pages_of_class p m (class_for p n) + 1 ≤ slice_index (x.0).pages (class_for p n) + 1 = (let at = x.3 (class_for p n) l.fits in omega arith) in
          let here : pages_of_class p m (class_for p n) + 1
          ≤ pages_with_copy p (class_at p l.object) (class_for p n) (class_for p n) (slice_index (x.0).pages (class_for p n))
          (kept_count p modes (x.0).mode o.0 (class_for p n)) (mode_count p modes (x.0).mode (class_for p n)) (mode_count p modes o.0 (class_for p n)) =
          rw (eq_yes (class_for p n) (class_for p n) refl) (le-min top next) in
          let less = sum_less (pages_of_class p m)
          (λ e. pages_with_copy p (class_at p l.object) (class_for p n) e (slice_index (x.0).pages e) (kept_count p modes (x.0).mode o.0 e)
          (mode_count p modes (x.0).mode e) (mode_count p modes o.0 e)) 1 0 (classes p) (class_for p n)
          (omega arith) (let f = l.fits in omega arith)
          (λ e _ lt. elim (cases_eq e (class_for p n)) [
            | inl is ↦ subst (λ i. pages_of_class p m i
                ≤ pages_with_copy p (class_at p l.object) (class_for p n) i (slice_index (x.0).pages i) (kept_count p modes (x.0).mode o.0 i)
                (mode_count p modes (x.0).mode i) (mode_count p modes o.0 i)) (sym is) (omega arith)
            | inr ne ↦ copy_below m h n k.sound l.object l.found l.other x.0 o.0 was o.2 x.3 e (omega arith) ne
          ]) here in
          let from = declared_few p (mode_at modes (x.0).mode) (objects m) was (class_at p l.object) inside in
          let taken = live_taken p (objects m) h (l.object).bytes (class_at p l.object) held in
          let one_there : one (nat_eq (class_at p l.object) (class_at p l.object)) ≡ 1 = ap one (eq_yes (class_at p l.object) (class_at p l.object) refl) in
          let fits = holds x.0 x.1 o.0 o.1 (class_at p l.object) inside (omega arith) (class_for p n) l.fits l.other (omega arith) in
          absurd (omega arith)

    pub certified_resizes : AreForResizes p modes points → IsServed p (KeepsToOne modes)
    certified_resizes more = record { mallocs = all_mallocs more.within; resizes = all_resizes more.within more.copies }

  module _ (modes : List (List Need)) where
    -- the pages that the classes can have in mode j
    abbrev point_of : ℕ → PointPages
    point_of j = record { mode = j; pages = map (spread_of p modes (mode_at modes j)) (range_with_len 0 (classes p)) }

    pages_are : (j c : ℕ) → c < classes p → slice_index (point_of j).pages c ≡ spread_of p modes (mode_at modes j) c
    pages_are j c lt = get_or-map-range_with_len (spread_of p modes (mode_at modes j)) 0 (classes p) c c 0 lt (omega arith)

    -- a point for each mode
    abbrev spread_points : List PointPages
    spread_points = map point_of (range_with_len 0 (length modes))

    abbrev IsPointOf : PointPages → Type 0
    IsPointOf x = (j : ℕ) × (j < length modes) × (x ≡ point_of j)

    is_point : (x : PointPages) → Contains spread_points x → IsPointOf x
    is_point x inside =
        let long = length-map-range_with_len point_of 0 (length modes) in
        let lt : inside.0 < length modes = (let less = inside.1 in omega arith) in
        (inside.0, lt, sym inside.2 ∙ get_or-map-range_with_len point_of 0 (length modes) inside.0 inside.0 x lt (omega arith))

    has_point : (j : ℕ) → j < length modes → Contains spread_points (point_of j)
    has_point j lt =
        let long = length-map-range_with_len point_of 0 (length modes) in
        (j, omega arith, get_or-map-range_with_len point_of 0 (length modes) j j (point_of j) lt (omega arith))

    sum_is : (j : ℕ) → sum_by (slice_index (point_of j).pages) (range_with_len 0 (classes p)) ≡ sum_by (spread_of p modes (mode_at modes j)) (range_with_len 0 (classes p))
    sum_is j = sum_range_same (slice_index (point_of j).pages) (spread_of p modes (mode_at modes j)) 0 (classes p) (λ c _ lt. pages_are j c (omega arith))

    spread_sum : (j : ℕ) → j < length modes → sum_by (slice_index (point_of j).pages) (range_with_len 0 (classes p)) ≤ spread_of_modes p modes
    spread_sum j lt =
        let is = sum_is j in
        let least = at_most_greatest (λ needs. sum_by (spread_of p modes needs) (range_with_len 0 (classes p))) modes (mode_at modes j) (contains_at modes j lt) in
        omega arith

    sum_of_point : (x : PointPages) → Contains spread_points x → sum_by (slice_index x.pages) (range_with_len 0 (classes p)) ≤ spread_of_modes p modes
    sum_of_point x inside =
        let y = is_point x inside in
        subst (λ (z : PointPages). sum_by (slice_index z.pages) (range_with_len 0 (classes p)) ≤ spread_of_modes p modes) (sym y.2) (spread_sum y.0 y.1)

    spread_tops : (j c : ℕ) → j < length modes → c < classes p → ceil_div (mode_count p modes j c) (slots_of p c) ≤ slice_index (point_of j).pages c
    spread_tops j c is lt =
        let at = pages_are j c lt in
        let le = le-min (ceil_within_most (mode_count p modes j c) (slots_of p c) (bound_of p c) (slots_some p ok c lt) (ok.some c lt))
        (ceil_mono (mode_count p modes j c) (greatest_of (λ n. count_in p n c) modes) (slots_of p c)
        (at_most_greatest (λ n. count_in p n c) modes (mode_at modes j) (contains_at modes j is))) in
        omega arith

    -- whatever stays, at most what the mode after it has
    spread_leads : (i j : ℕ) (kept : ℕ → ℕ) → ((c : ℕ) → c < classes p → kept c ≤ mode_count p modes j c) → LeadsToPoint p kept (point_of i) (point_of j)
    spread_leads i j kept few c lt =
        let from = pages_are i c lt in
        let to = pages_are j c lt in
        let low = min-le_left (slice_index (point_of i).pages c) (most_pages (kept c) (slots_of p c) (bound_of p c)) in
        let low' = min-le_right (slice_index (point_of i).pages c) (most_pages (kept c) (slots_of p c) (bound_of p c)) in
        let top = min-le_right (most_pages (mode_count p modes i c) (slots_of p c) (bound_of p c)) (ceil_div (greatest_of (λ n. count_in p n c) modes) (slots_of p c)) in
        let grows = most_grows (kept c) (mode_count p modes j c) (slots_of p c) (bound_of p c) (slots_some p ok c lt) (ok.some c lt) (few c lt) in
        let le : min (slice_index (point_of i).pages c) (most_pages (kept c) (slots_of p c) (bound_of p c)) ≤ spread_of p modes (mode_at modes j) c =
        le-min (omega arith) (omega arith) in
        omega arith

    spread_point : spread_of_modes p modes ≤ p.pages → (j : ℕ) → j < length modes → IsPoint p modes spread_points (point_of j)
    spread_point enough j lt = record {
      known = lt;
      tops = λ c less. spread_tops j c lt less;
      enough = (let sum = spread_sum j lt in omega arith);
      next = λ i less. (
        point_of i,
        has_point i less,
        refl,
        spread_leads j i (kept_count p modes j i) (λ c inside. kept_few p (mode_at modes j) (mode_at modes i) c),
      );
    }

    spread_certificate : spread_of_modes p modes ≤ p.pages → IsCertificate p modes spread_points
    spread_certificate enough = record {
      first = λ j lt. (point_of j, has_point j lt, refl);
      each = λ i d lt. (
          let y = is_point (slice_index_or spread_points i d) (Contains-get_or spread_points i d lt) in
          subst (IsPoint p modes spread_points) (sym y.2) (spread_point enough y.0 y.1));
    }

    spread_resized : KeepResized p modes spread_points
    spread_resized x inside j lt c less before after =
        let y = is_point x inside in (
          point_of j,
          has_point j lt,
          refl,
          subst (λ (z : PointPages). LeadsToPoint p (one_more_of c (kept_count p modes x.mode j)) z (point_of j)) (sym y.2)
              (spread_leads y.0 j (one_more_of c (kept_count p modes x.mode j)) (λ e l. elim (cases_eq e c) [
                | inl is ↦ subst (λ i. one_more_of c (kept_count p modes x.mode j) i ≤ mode_count p modes j i) (sym is) (rw (eq_yes c c refl) (omega arith))
                | inr ne ↦ rw (eq_no e c ne) (kept_few p (mode_at modes x.mode) (mode_at modes j) e)
              ])),
        )

    pub spread_mallocs : spread_of_modes p modes ≤ p.pages → ServesMallocs p (KeepsToOne modes)
    spread_mallocs enough = all_mallocs modes spread_points (spread_certificate enough) spread_resized

    pub spread_resizes : spread_of_modes p modes < p.pages → ServesResizes p (KeepsToOne modes)
    spread_resizes less = all_spare modes spread_points (spread_certificate (omega arith)) spread_resized
        (λ x inside. (let sum = sum_of_point x inside in omega arith))

    -- at bound one a class has the pages that its objects need
    pub spread_at_one : EveryBoundIsOne p → spread_of_modes p modes ≤ pages_of_modes p modes
    spread_at_one ones = go modes
      where
        each : (needs : List Need) → sum_by (spread_of p modes needs) (range_with_len 0 (classes p)) ≤ pages_needed_by p (in_order needs)
        each needs = sum_le (spread_of p modes needs) (λ c. ceil_div (count_in p needs c) (slots_of p c)) 0 (classes p) (λ c _ lt. (
            let low = min-le_left (most_pages (count_in p needs c) (slots_of p c) (bound_of p c)) (ceil_div (greatest_of (λ n. count_in p n c) modes) (slots_of p c)) in
            let one = most_at_one (count_in p needs c) (slots_of p c) (bound_of p c) (slots_some p ok c (omega arith)) (ones c (omega arith)) in
            omega arith))

        go : (all : List (List Need)) → greatest_of (λ needs. sum_by (spread_of p modes needs) (range_with_len 0 (classes p))) all ≤ pages_of_modes p all
        go [] = omega arith
        go (x ∷ xs) =
            let here = each x in
            let rest = go xs in
            let left = le-max_left (pages_needed_by p (in_order x)) (pages_of_modes p xs) in
            let right = le-max_right (pages_needed_by p (in_order x)) (pages_of_modes p xs) in
            max-le (omega arith) (omega arith)

-- a run within the needs of a mode is one within the modes
pub run_weakened : (p : Paging) (A B : Objects → Type 0) → ((o : Objects) → A o → B o) → (calls : List HeapCall) (m last : Held) → RunCalls p A m calls last
    → RunCalls p B m calls last
run_weakened p A B weaker [] m last run = run
run_weakened p A B weaker (call ∷ rest) m last run = (run.0, run.1, weaker (objects run.0) run.2, run_weakened p A B weaker rest run.0 last run.3)

pub modes_refused : (p : Paging) (s : Profile) (modes : List (List Need)) → IsPaging p → s.page_words ≡ p.page_words
    → ((needs : List Need) → Contains modes needs → first_large s needs ≡ None) → p.pages < pages_of_modes p modes
    → CanBeRefused p (KeepsToOne modes) empty
modes_refused p s modes ok same none past =
    let at = below_greatest (λ needs. pages_needed_by p (in_order needs)) modes p.pages past in
    let r = refused p ok at.0 s same (none at.0 at.1) at.2 in
    let l = r.lacks in
    record {
      calls = r.calls;
      last = r.last;
      run = run_weakened p (KeepsTo at.0) (KeepsToOne modes) (λ o keeps. (at.0, at.1, keeps)) r.calls empty r.last r.run;
      number = r.number;
      bytes = r.bytes;
      lacks = record { unused = l.unused; fits = l.fits; asked = (at.0, at.1, l.asked); lacking = l.lacking };
    }
