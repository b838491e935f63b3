-- For `CommandSteps`: each malloc, free and write of a task has a result and a heap after it. A malloc that isn't refused finds a slot, and some words are the
-- image of the objects after the call. A premise (`PageLaw`): while a task is below its quota, some page holds no object.
use Rattle.std.proofs.Common.{◌≡◌, ◌≢◌, ℕ, zero, suc, ◌+◌, ◌-◌, ◌*◌, ◌/◌, ◌%◌, ◌<◌, ◌≤◌, List, Bool, true, false, cond, Some, None, length, get_or, set, arith, sym, ◌∙◌, ap, refl, subst, inl, inr, IsTrue, Option, Result, Ok, Err, nat_eq, nat_lt, length-set}
use Rattle.std.specs.List.{range_with_len}
use Rattle.std.proofs.lemmas.Bool.{cases_eq, cases_lt, false≢true}
use Rattle.run_model.specs.Terms.{AccessFault, class_at, classes, Freed, get, Handle, Held, insert, IsPaging, IsSound, len, need, objects, page_of, Paging, Placed, Profile, Refusal, region_words, Request, slot_words, slots_of, written}
use Rattle.cf_base.specs.Limits.{is_page_size}
use Rattle.cf_base.specs.declared.results.AccessFault.TheVariants as access
use Rattle.cf_base.specs.declared.results.Refusal.TheVariants as refusal
use Rattle.cf_base.proofs.Ranges.{one, sum_at_least, sum_le}
use Rattle.cf_base.proofs.Searches.{few_keys, fresh_key}
use Rattle.cf_base.proofs.Tests.{eq_no, eq_yes, lt_yes}
use Rattle.page_model.specs.Arrangement.{pages_of_class, live, not_full_pages, pages_needed, pages_needed_with}
use Rattle.page_model.specs.Arrangement.{count_on, used_pages}
use Rattle.page_model.specs.Counts.{LieOn, ceil_div}
use Rattle.page_model.specs.Image.{IsSlotImage, MovesWords, header_word, object_word, slot_for}
use Rattle.page_model.specs.Paging.{address_of, bound_of, class_for}
use Rattle.page_model.specs.Steps.{IsFreePlace, Moves, without, zeros_at}
use Rattle.page_model.proofs.CallerLemmas.{IsOpen, address_is_slot, between_multiples, class_fits, len-objects, nothing_on, on_page, open_page}
use Rattle.page_model.proofs.CallerLemmas.{class_holds, length-written, mover_is_other, slot_inside, slots_some, sound_apart, sound_stand, standing}
use Rattle.page_model.proofs.CallerLemmas.{some_move, sum_plus, used_at_one}
use Rattle.page_model.proofs.CallerLemmas.{vacant_where_less}
use Rattle.quota_heap.specs.State.{KeepsTasks, QuotaState, held_by, objects_by, quota_of}
use Rattle.quota_heap.specs.Steps.{FreesOfTask, IsTaskMallocStep, IsTaskWriteStep, with_held}
use Rattle.quota_model.proofs.CallerLemmas.{image_of_malloc, image_of_write, moved_image, own_image, removed_image, rewritten_quotas, rewritten_shared}
use Rattle.quota_model.specs.Parts.{key_of, objects_of_task, task_of}
use Rattle.quota_model.specs.Refusals.{malloc_refusal, task_paging}
use Rattle.quota_model.specs.Shared.{AreQuotas, IsShared, PlacesForTask, RemovesForTask}
use Rattle.quota_model.proofs.CallerLemmas.{free_quotas, free_shared, found_small, found_whole, quotas_stay, stays_shared}
use Rattle.quota_model.proofs.CallerLemmas.{tasks_at_one, tasks_paged}
use Rattle.script_laws.proofs.CallerLemmas.{is_rewritten, length-rewritten, rewritten}

-- a malloc that isn't refused has none of the three causes
no_cause : (a b c : Bool) → cond a (Some refusal.Size) (cond b (Some refusal.Proxy) (cond c (Some refusal.Space) None)) ≡ None
    → (a ≡ false) × (b ≡ false) × (c ≡ false)
no_cause true b c e = absurd (let z : Some refusal.Size ≡ None = e in cc)
no_cause false true c e = absurd (let z : Some refusal.Proxy ≡ None = e in cc)
no_cause false false true e = absurd (let z : Some refusal.Space ≡ None = e in cc)
no_cause false false false e = (refl, refl, refl)

-- a task whose objects of a class fill their pages needs one page more for one more object of the class
module _ (p : Paging) (ok : IsPaging p) (m : Held) (s : IsSound p m) (ones : (c : ℕ) → c < classes p → bound_of p c ≡ 1) (n : ℕ)
    (lt : class_for p n < classes p) (none : not_full_pages p m (class_for p n) ≡ 0) where
  abbrev c : ℕ
  c = class_for p n

  stand : LieOn (pages_of_class p m c) (live p (objects m) c) (slots_of p c) 1 0
  stand = subst (λ q. LieOn (pages_of_class p m c) (live p (objects m) c) (slots_of p c) 1 q) none
      (subst (λ k. LieOn (pages_of_class p m c) (live p (objects m) c) (slots_of p c) k (not_full_pages p m c)) (ones c lt) (sound_stand p ok c lt m s))

  filled : live p (objects m) c ≡ pages_of_class p m c * slots_of p c
  filled =
      let e : pages_of_class p m c - 0 ≡ pages_of_class p m c = omega arith in
      let low : pages_of_class p m c * slots_of p c + 0 ≤ live p (objects m) c = rw e at stand.least in
      let high : live p (objects m) c ≤ pages_of_class p m c * slots_of p c + 0 * (slots_of p c - 1) = rw e at stand.most in
      omega arith

  at_home : (k : ℕ) → k ≤ 1 → ceil_div (live p (objects m) c + k) (slots_of p c) ≡ pages_of_class p m c + k
  at_home zero le = (
      let pos = slots_some p ok c lt in
      let f = filled in
      let e : pages_of_class p m c + 0 ≡ pages_of_class p m c = omega arith in
      between_multiples (live p (objects m) c + 0 + (slots_of p c - 1)) (pages_of_class p m c) (slots_of p c) pos (omega arith) (omega arith) ∙ sym e)
  at_home (suc zero) le = (
      let pos = slots_some p ok c lt in
      let f = filled in
      let e : (pages_of_class p m c + 1) * slots_of p c ≡ pages_of_class p m c * slots_of p c + slots_of p c = omega arith in
      between_multiples (live p (objects m) c + 1 + (slots_of p c - 1)) (pages_of_class p m c + 1) (slots_of p c) pos (omega arith) (omega arith))
  at_home (suc (suc k)) le = absurd (omega arith)

  grows : (d : ℕ) → ceil_div (live p (objects m) d) (slots_of p d) + one (nat_eq c d) ≤ ceil_div (live p (objects m) d + one (nat_eq c d)) (slots_of p d)
  grows d = elim (cases_eq c d) [
    | inl is ↦ (
        let yes : one (nat_eq c d) ≡ 1 = ap one (eq_yes c d is) in
        let a = at_home 0 (omega arith) in
        let z : live p (objects m) c + 0 ≡ live p (objects m) c = omega arith in
        let a' : ceil_div (live p (objects m) c) (slots_of p c) ≡ pages_of_class p m c + 0 = ap (λ x. ceil_div x (slots_of p c)) (sym z) ∙ a in
        let b = at_home 1 (omega arith) in
        let a'' : ceil_div (live p (objects m) d) (slots_of p d) ≡ pages_of_class p m c + 0 = subst (λ e. ceil_div (live p (objects m) e) (slots_of p e)
        ≡ pages_of_class p m c + 0) is a' in
        let b' : ceil_div (live p (objects m) d + 1) (slots_of p d) ≡ pages_of_class p m c + 1 = subst (λ e. ceil_div (live p (objects m) e + 1) (slots_of p e)
        ≡ pages_of_class p m c + 1) is b in
        let b'' : ceil_div (live p (objects m) d + one (nat_eq c d)) (slots_of p d) ≡ pages_of_class p m c + 1 =
        ap (λ k. ceil_div (live p (objects m) d + k) (slots_of p d)) yes ∙ b' in
        omega arith)
    | inr ne ↦ (
        let no' : one (nat_eq c d) ≡ 0 = ap one (eq_no c d ne) in
        let z : live p (objects m) d + one (nat_eq c d) ≡ live p (objects m) d = omega arith in
        let e = ap (λ x. ceil_div x (slots_of p d)) z in
        omega arith)
  ]

  pub one_page_more : pages_needed p (objects m) + 1 ≤ pages_needed_with p (objects m) n
  unfolding pages_needed pages_needed_with
  one_page_more =
      let plus = sum_plus (λ d. ceil_div (live p (objects m) d) (slots_of p d)) (λ d. one (nat_eq c d)) (range_with_len 0 (classes p)) in
      let le = sum_le (λ d. ceil_div (live p (objects m) d) (slots_of p d) + one (nat_eq c d))
      (λ d. ceil_div (live p (objects m) d + one (nat_eq c d)) (slots_of p d)) 0 (classes p) (λ d _ h. grows d) in
      let here = sum_at_least (λ d. one (nat_eq c d)) 0 (classes p) c (omega arith) (omega arith) in
      let yes : one (nat_eq c c) ≡ 1 = ap one (eq_yes c c refl) in
      omega arith

-- a call of a task has a result and a heap after it
pub record IsThere (T : Type 0) (R : T → QuotaState → Type 0) : Type 0 where
  pub answer : T
  pub heap : QuotaState
  pub step : R answer heap
  pub rules : KeepsTasks heap

-- while a task uses fewer pages than its quota, a page of the region holds no object
abbrev pub PageLaw : Type 0
PageLaw = (s : Profile) (quotas : List ℕ) (m : Held) (task : ℕ) → IsShared s m → AreQuotas s quotas m → IsTrue (is_page_size s.page_words) → task < 16
    → used_pages (task_paging s) (objects_of_task m task) < get_or quotas task 0 → (page : ℕ) × (page < s.pages) × (count_on (task_paging s) m page ≡ 0)

module _ (law : PageLaw) (s : QuotaState) (rules : KeepsTasks s) (task : ℕ) (lt : task < 16) where
  abbrev p : Paging
  p = task_paging s.profile

  abbrev m : Held
  m = held_by s task

  ok : IsPaging p
  ok = tasks_paged s.profile rules.page_size

  sound : IsSound p m
  sound = (rules.shared).sound task

  -- the heap keeps its tasks apart after its objects and its words are replaced
  rules_with : (held : Held) (words : List ℕ) → IsShared s.profile held × AreQuotas s.profile s.quotas held
      → length words ≡ region_words s.profile → IsSlotImage p held words → KeepsTasks (with_held s held words)
  rules_with held words share long slots = record {
    opened = rules.opened;
    page_size = rules.page_size;
    few_proxies = rules.few_proxies;
    shared = share.0;
    quotas = share.1;
    region = long;
    image = own_image s.profile held share.0 rules.page_size words slots;
    slots = slots;
  }

  -- the key of an object fixes its task and its number
  own_key : (h : ℕ) (y : Placed) → get m h ≡ Some y → task_of (key_of task h) ≡ task
  own_key h y there = (let small = found_small s.held task h y there in omega arith)

  number_below : (h : ℕ) (y : Placed) → get m h ≡ Some y → h < s.profile.proxies
  number_below h y there = (
      let small = found_small s.held task h y there in
      let r = (rules.shared).numbers (key_of task h) y (found_whole s.held task h y there) in
      omega arith)

  bare_part : (page : ℕ) → ((q : ℕ) (y : Placed) → get m q ≡ Some y → page_of p y.place ≢ page) → count_on p m page ≡ 0
  bare_part page none = elim (cases_lt 0 (count_on p m page)) [
    | inl some ↦ (let at = standing p m page some in absurd (none at.0 at.1 at.2 at.3))
    | inr le ↦ omega arith
  ]

  -- a free place for an object of n bytes of the task
  record HasPlace (n : ℕ) : Type 0 where
    place : ℕ
    free : IsFreePlace p m n place
    own : (key : ℕ) (y : Placed) → get s.held key ≡ Some y → page_of p y.place ≡ page_of p place → task_of key ≡ task

  beside : (n : ℕ) → class_for p n < classes p → (page : ℕ) → IsOpen p m (class_for p n) page → HasPlace n
  beside n less page opened =
      let free = vacant_where_less p ok (class_for p n) less page opened.within m sound opened.some opened.less in
      let at = address_is_slot p ok (class_for p n) less page free.0 opened.within free.1 in
      let on = at.1 in
      let some = opened.some in
      let fewer = opened.less in
      let mine = on_page p m (class_for p n) page opened.some in
      record {
        place = address_of p (class_for p n) page free.0;
        free = record { slot = at.0; unused = free.2; choice = inl (rw on some, rw on fewer) };
        own = λ key y there same. (rules.shared).apart key y (key_of task mine.0) mine.1 there (found_whole s.held task mine.0 mine.1 mine.2)
            (same ∙ on ∙ sym mine.3) ∙ own_key mine.0 mine.1 mine.2;
      }

  alone : (n : ℕ) → class_for p n < classes p → not_full_pages p m (class_for p n) ≡ 0 → (page : ℕ) → page < s.profile.pages
      → count_on p s.held page ≡ 0 → HasPlace n
  alone n less none page within bare =
      let at = address_is_slot p ok (class_for p n) less page 0 within (slots_some p ok (class_for p n) less) in
      let on = at.1 in
      let empty_here : (q : ℕ) (y : Placed) → get m q ≡ Some y → page_of p y.place ≢ page = λ q y there. nothing_on p s.held page bare (key_of task q) y
      (found_whole s.held task q y there) in
      record {
        place = address_of p (class_for p n) page 0;
        free = record {
          slot = at.0;
          unused = λ q y there is. empty_here q y there (ap (page_of p) is ∙ on);
          choice = inr (none, rw on (bare_part page empty_here));
        };
        own = λ key y there same. absurd (nothing_on p s.held page bare key y there (same ∙ on));
      }

  place_for : (n : ℕ) → class_for p n < classes p → pages_needed_with p (objects m) n ≤ quota_of s task → HasPlace n
  place_for n less enough = elim (cases_eq (not_full_pages p m (class_for p n)) 0) [
    | inr ne ↦ (let at = open_page p m (class_for p n) (omega arith) in beside n less at.0 at.1)
    | inl none ↦ (
        let more = one_page_more p ok m sound (tasks_at_one s.profile) n less none in
        let used = used_at_one p ok (tasks_at_one s.profile) m sound in
        let page = law s.profile s.quotas s.held task rules.shared rules.quotas rules.page_size lt (omega arith) in
        alone n less none page.0 page.1 page.2)
  ]

  malloc_granted : (n : ℕ) → malloc_refusal s.profile (quota_of s task) (objects_by s task) n ≡ None
      → IsThere (Result Handle Refusal) (λ answer new. IsTaskMallocStep s task n answer new)
  malloc_granted n granted =
      let causes = no_cause (nat_lt s.profile.page_words (need n)) (nat_eq (len (objects m)) s.profile.proxies)
      (nat_lt (quota_of s task) (pages_needed_with p (objects m) n)) granted in
      let fits : need n ≤ s.profile.page_words = elim (cases_lt s.profile.page_words (need n)) [
        | inl l ↦ absurd (false≢true (sym causes.0 ∙ lt_yes _ _ l))
        | inr le ↦ le
      ] in
      let enough : pages_needed_with p (objects m) n ≤ quota_of s task = elim (cases_lt (quota_of s task) (pages_needed_with p (objects m) n)) [
        | inl l ↦ absurd (false≢true (sym causes.2 ∙ lt_yes _ _ l))
        | inr le ↦ le
      ] in
      let most : len m ≤ s.profile.proxies = few_keys s.profile.proxies m number_below in
      let other : len m ≢ s.profile.proxies = λ e. false≢true (sym causes.1 ∙ eq_yes _ _ (len-objects m ∙ e)) in
      let key = fresh_key s.profile.proxies m (omega arith) in
      let at = place_for n (class_fits p ok n fits) enough in
      let asked : Request = record { number = key.0; length = n } in
      let held : Held = insert s.held (key_of task key.0) (zeros_at at.place n) in
      let step : PlacesForTask s.profile s.held task asked held = record {
        place = at.place;
        in_range = key.1;
        unused = key.2;
        free = at.free;
        own = at.own;
        placed = refl;
      } in
      let words = set s.words at.place (header_word (key_of task key.0) n) in
      record {
        answer = Ok (record { 0 = key.0 });
        heap = with_held s held words;
        step = record { granted = granted; placed = step; whole = refl };
        rules = rules_with held words (
          stays_shared s.profile s.held task asked held rules.few_proxies step rules.page_size lt rules.shared,
          quotas_stay s.profile s.held task asked held rules.few_proxies step s.quotas rules.quotas granted,
        )
            (length-set s.words at.place _ ∙ rules.region)
            (image_of_malloc s.profile s.held rules.shared rules.page_size s.words rules.slots task asked held rules.few_proxies lt step rules.region);
      }

  pub malloc_there : (n : ℕ) → IsThere (Result Handle Refusal) (λ answer new. IsTaskMallocStep s task n answer new)
  malloc_there n = go (malloc_refusal s.profile (quota_of s task) (objects_by s task) n) refl
    where
      go : (o : Option Refusal) → malloc_refusal s.profile (quota_of s task) (objects_by s task) n ≡ o
          → IsThere (Result Handle Refusal) (λ answer new. IsTaskMallocStep s task n answer new)
      go None granted = malloc_granted n granted
      go (Some e) cause = record { answer = Err e; heap = s; step = (cause, refl); rules = rules }

  -- the slot of an object lies within the region
  slot_in : (h : ℕ) (x : Placed) → get m h ≡ Some x → x.place + slot_for p (length x.bytes) ≤ length s.words
  slot_in h x there = (let i = slot_inside p (class_at p x) x.place (sound.slots h x there) in let l = rules.region in omega arith)

  abbrev Frees : ℕ → Type 0
  Frees h = IsThere Freed (λ freed new. FreesOfTask s task h freed new)

  freed_still : (h : ℕ) (x : Placed) → get m h ≡ Some x → Moves p m x None → Frees h
  freed_still h x there moves =
      let held : Held = without s.held (key_of task h) x.place None in
      let step : RemovesForTask s.profile s.held task h None held = record { freed = x; found = there; moves = moves; left = refl } in
      let count = slot_for p (length x.bytes) in
      let words = rewritten s.words x.place count (λ _. 0) in
      record {
        answer = record { slot_words = count; moved = None };
        heap = with_held s held words;
        step = record { removed = step; slot = refl; whole = refl };
        rules = rules_with held words (
          free_shared s.profile s.held task h None held rules.page_size rules.shared step,
          free_quotas s.profile s.held task h None held rules.page_size rules.shared step s.quotas rules.quotas,
        )
            (length-rewritten s.words x.place count (λ _. 0) ∙ rules.region)
            (removed_image s.profile s.held rules.shared rules.page_size s.words rules.slots words task h held step
            (is_rewritten s.words x.place count (λ _. 0) (slot_in h x there)));
      }

  freed_moved : (h : ℕ) (x : Placed) → get m h ≡ Some x → (q : ℕ) → Moves p m x (Some q) → Frees h
  freed_moved h x there q moves =
      let must = moves.0 in
      let y = moves.1.0 in
      let found = moves.1.1 in
      let may = moves.1.2 in
      let held : Held = without s.held (key_of task h) x.place (Some (key_of task q)) in
      let step : RemovesForTask s.profile s.held task h (Some q) held = record { freed = x; found = there; moves = moves; left = refl } in
      let count = slot_for p (length y.bytes) in
      let same : slot_for p (length y.bytes) ≡ slot_for p (length x.bytes) = ap (slot_words p) may.class in
      let ne = mover_is_other p ok m sound h x there q y found must may in
      let apart = (sound_apart p m sound).pairs h x q y there found ne in
      let inside = slot_in h x there in
      let inside_y = slot_in q y found in
      let one' = rewritten s.words y.place count (λ _. 0) in
      let first = is_rewritten s.words y.place count (λ _. 0) inside_y in
      let long = length-rewritten s.words y.place count (λ _. 0) in
      let f : ℕ → ℕ = λ i. get_or s.words (y.place + i) 0 in
      let words = rewritten one' x.place count f in
      let second = is_rewritten one' x.place count f (omega arith) in
      let long' = length-rewritten one' x.place count f in
      let moved : MovesWords s.words words (record { from = y.place; count = count }) x.place = record {
        arrived = λ i l. second.within i l;
        left_zeros = λ i l. second.others (y.place + i) (elim apart [ inl a ↦ inr (omega arith) | inr b ↦ inl (omega arith) ]) ∙ first.within i l;
        others = λ w out out'. second.others w out' ∙ first.others w out;
      } in
      record {
        answer = record { slot_words = slot_for p (length x.bytes); moved = Some (record { 0 = q }) };
        heap = with_held s held words;
        step = record { removed = step; slot = refl; whole = refl };
        rules = rules_with held words (
          free_shared s.profile s.held task h (Some q) held rules.page_size rules.shared step,
          free_quotas s.profile s.held task h (Some q) held rules.page_size rules.shared step s.quotas rules.quotas,
        )
            (long' ∙ long ∙ rules.region)
            (moved_image s.profile s.held rules.shared rules.page_size s.words rules.slots words task h q y held step found moved);
      }

  pub free_there : (h : ℕ) (x : Placed) → get m h ≡ Some x → Frees h
  free_there h x there = (let at = some_move p ok m sound h x there in go at.0 at.1)
    where
      go : (moved : Option ℕ) → Moves p m x moved → Frees h
      go None moves = freed_still h x there moves
      go (Some q) moves = freed_moved h x there q moves

  -- the words of a write lie in the object's slot
  few_words : (at n k : ℕ) → at + n ≤ k → 1 + at / 8 + (at % 8 + n + 7) / 8 ≤ 1 + (k + 7) / 8
  few_words at n k le = omega arith

  abbrev Writes : ℕ → ℕ → List ℕ → Type 0
  Writes h at bytes = IsThere (Result Unit AccessFault) (λ answer new. IsTaskWriteStep s task (record { number = h; from = at }) bytes answer new)

  pub write_there : (h at : ℕ) (bytes : List ℕ) (x : Placed) → get m h ≡ Some x → Writes h at bytes
  write_there h at bytes x there = elim (cases_lt (length x.bytes) (at + length bytes)) [
    | inl past ↦ record { answer = Err access.Range; heap = s; step = (record { object = x; found = there; past = past }, refl); rules = rules }
    | inr within ↦ (
        let v = written x.bytes at bytes in
        let held : Held = insert s.held (key_of task h) (record { place = x.place; bytes = v }) in
        let same : class_for p (length v) ≡ class_for p (length x.bytes) = ap (class_for p) (length-written x.bytes at bytes within) in
        let count = (at % 8 + length bytes + 7) / 8 in
        let f : ℕ → ℕ = λ i. object_word (key_of task h) v (1 + at / 8 + i) in
        let words = rewritten s.words (x.place + (1 + at / 8)) count f in
        let inside = slot_in h x there in
        let holds = class_holds p ok (length x.bytes) (sound.slots h x there).class in
        let few = few_words at (length bytes) (length x.bytes) within in
        record {
          answer = Ok tt;
          heap = with_held s held words;
          step = record { object = x; found = there; within = within; whole = refl };
          rules = rules_with held words (
            rewritten_shared s.profile s.held task h x there v same rules.shared,
            rewritten_quotas s.profile s.held task h x there v same s.quotas rules.quotas,
          )
              (length-rewritten s.words (x.place + (1 + at / 8)) count f ∙ rules.region)
              (image_of_write s.profile s.held rules.shared rules.page_size s.words rules.slots task h x there words at bytes within
              (is_rewritten s.words (x.place + (1 + at / 8)) count f (omega arith)));
        })
  ]
