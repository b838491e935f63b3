-- For `the_large_headline`: in every run in mode `large` each reply, refusals and reports included, and the objects after it are those that the claim computes;
-- so the replies meet it (`MeetsLarge`).
use Rattle.std.proofs.Common.{◌≡◌, ℕ, zero, suc, false, cond, ◌+◌, ◌-◌, ◌*◌, ◌<◌, ◌≤◌, Bool, List, [], ◌∷◌, ◌++◌, Option, Some, None, length, get_or, map, replicate, arith, sym, ◌∙◌, ap, refl, inl, inr, subst}
use Rattle.std.specs.Prelude.{◌&&◌, filter, nat_eq, nat_lt, not, sum_by, Result, Ok, Err, ⊤, option_map}
use Rattle.std.specs.List.{range_with_len}
use Rattle.run_model.specs.Terms.{asks, at_bound_one, bad, classes, Command, Handle, HeapState, IsPaged, Item, Kind, len, Objects, objects, Paging, paging_in, Profile, Refusal, Reply, said, slot_words, slots_of, starts, totals_in}
use Rattle.cf_base.specs.Classes.{sizes}
use Rattle.cf_base.proofs.Renaming.{CountAlike}
use Rattle.cf_base.proofs.Tests.{and_false, lt_no, lt_yes}
use Rattle.cf_model.specs.Answers.{classes_in}
use Rattle.cf_model.specs.Rules.{KeepsPages}
use Rattle.cf_model.specs.State.{layout_of}
use Rattle.cf_model.proofs.CallerLemmas.{pages_kept}
use Rattle.page_model.specs.Arrangement.{live, pages_for, pages_needed}
use Rattle.page_model.specs.Counts.{ceil_div}
use Rattle.page_model.specs.Figures.{asked_bytes, figures_of, taken_bytes, totals_of}
use Rattle.page_model.specs.Paging.{class_for}
use Rattle.run_model.specs.Reports.{class_line, frag_line, frag_of, live_classes, pages_report, total_line, walk_of}
use Rattle.script_laws.specs.AtOne.{figures_at_one, part_pages, totals_at_one}
use Rattle.script_laws.specs.ById.{ById, begun}
use Rattle.run_model.specs.ById.{objects_by_id}
use Rattle.script_laws.proofs.CallerLemmas.{figures_are, said_alike, totals_are, always_taken, bytes_by_id, free_by_id, malloc_by_id, malloc_text_by, refused, turn, write_by_id, still_going}
use Rattle.run_model.proofs.CallerLemmas.{by_id_counts, none_by_id}
use Rattle.large_session.specs.LargeRun.{IsGoingLarge, LargeRun, LargeStep, large_calls}
use Rattle.large_objects.specs.LargeSteps.{FitsSpine, HasLargeRoom, IsRefusedLarge, IsLargeMalloc}
use Rattle.large_objects.specs.InnerObjects.{in_class, inner_count, inner_live, inner_pages_with, inner_sum, length_sum, inner_lengths, whole_part_bytes, spine_bytes}
use Rattle.large_session.specs.LargeHeadline.{large_figures, large_refusal, large_totals, large_walk, live_inner, pages_of_inner, large_after, large_reply, large_malloc_leaves, large_malloc_line, MeetsLarge, after_in, large_replies, large_reply_in}
use Rattle.cf_base.proofs.Maps.{remove_missing}
use Rattle.run_model.specs.Replies.{malloc_text}
use Rattle.script_laws.specs.IdBytes.{read_shown}
use Rattle.script_laws.specs.RepliesById.{free_said, ok_or, put_unless}
use Rattle.large_session.proofs.RunInvariant.{large_keeps, begins_going}
use Rattle.run_model.specs.Plays.{IsAt, PlayRun, PlayStep}
use Rattle.script_loop.specs.Semantics.{RunBy}
use Rattle.large_session.specs.Playing.{BeginsAtOne, BeginsLarge, RunsLarge, large_heap}
use Rattle.cf_base.specs.declared.results.Refusal.TheVariants as refusal
use Rattle.script_reader.specs.declared.command.Command.TheVariants as command

-- For `m`, `walk` and `frag`: the inner manager holds exactly the spines, parts and short objects of the objects by id, so refusals and reports are as claimed.

abbrev pub by_id : LargeRun → Objects
by_id s = objects_by_id s.ids s.heap.objects

-- the heap that a run shows
abbrev pub shown : LargeRun → ById
shown s = record { kind = s.heap.inner.kind; profile = s.heap.inner.profile; bounds = s.heap.inner.bounds; objects = by_id s }

all_ones : (bounds : List ℕ) (n : ℕ) → length bounds ≡ n → ((c : ℕ) → c < n → get_or bounds c 0 ≡ 1) → bounds ≡ replicate n 1
all_ones [] zero l ones = refl
all_ones [] (suc n) l ones = absurd (omega arith)
all_ones (b ∷ bounds) zero l ones = absurd (omega arith)
all_ones (b ∷ bounds) (suc n) l ones =
    let rest = all_ones bounds n (omega arith) (λ c lt. ones (suc c) (omega arith)) in
    let first = ones 0 (omega arith) in
    λ i. first i ∷ rest i

-- every bound is 1
pub bounds_are : (s : HeapState) → KeepsPages s → ((c : ℕ) → c < classes (paging_in s) → get_or s.bounds c 0 ≡ 1)
    → s.bounds ≡ replicate (length (sizes s.profile.page_words (layout_of s.kind))) 1
bounds_are s kept ones = all_ones s.bounds _ kept.paging.bounded ones

-- the bytes asked and taken are sums over the lengths
asked_by_sum : (o : Objects) → asked_bytes o ≡ length_sum (λ n. n) o
unfolding asked_bytes length_sum
asked_by_sum o = refl

taken_by_sum : (p : Paging) (o : Objects) → taken_bytes p o ≡ 8 * length_sum (λ n. slot_words p (class_for p n)) o
unfolding taken_bytes length_sum
taken_by_sum p o = refl

-- the refusal by the results of the three tests
abbrev refusal_by : (size proxy space : Bool) → Option Refusal
refusal_by size proxy space = cond size (Some refusal.Size) (cond proxy (Some refusal.Proxy) (cond space (Some refusal.Space) None))

module _ (s : LargeRun) (going : IsGoingLarge s) where
  abbrev inner : HeapState
  inner = s.heap.inner

  abbrev p : Paging
  p = paging_in inner

  abbrev u : ℕ
  u = whole_part_bytes inner.profile

  abbrev large : Objects
  large = s.heap.objects

  counts : CountAlike s.heap.objects (by_id s)
  counts = by_id_counts s.ids s.heap.objects going.tied

  pub kept : KeepsPages s.heap.inner
  kept = pages_kept inner.kind inner going.ready.parts.pages going.ready.parts.rules.of_kind

  count_is : inner_count u (by_id s) ≡ inner_count u large
  unfolding inner_count
  count_is = counts.sums (λ v. length (inner_lengths u (length v)))

  live_is : (c : ℕ) → inner_live p u (by_id s) c ≡ inner_live p u large c
  unfolding inner_live
  live_is c = counts.sums (λ v. in_class p c (inner_lengths u (length v)))

  sum_is : (f : ℕ → ℕ) → length_sum f (objects inner.held) ≡ inner_sum f u (by_id s)
  unfolding inner_sum
  sum_is f = going.ready.parts.counted.sums f ∙ sym (counts.sums (λ v. sum_by f (inner_lengths u (length v))))

  with_is : (n : ℕ) → inner_pages_with p u (by_id s) n ≡ inner_pages_with p u large n
  unfolding inner_pages_with
  with_is n = λ i. pages_for p (λ c. live_is c i + in_class p c (inner_lengths u n))

  -- the command `m`
  module _ (n : ℕ) where
    abbrev size_test : Bool
    size_test = nat_lt u n && nat_lt u (spine_bytes u n)

    abbrev proxy_test : Bool
    proxy_test = nat_lt inner.profile.proxies (inner_count u (by_id s) + length (inner_lengths u n))

    abbrev space_test : Bool
    space_test = nat_lt inner.profile.pages (inner_pages_with p u (by_id s) n)

    fits_so : FitsSpine u n → size_test ≡ false
    fits_so (inl short) = ap (λ b. b && nat_lt u (spine_bytes u n)) (lt_no u n short)
    fits_so (inr fits) = ap (λ b. nat_lt u n && b) (lt_no u (spine_bytes u n) fits) ∙ and_false (nat_lt u n)

    few_so : inner_count u large + length (inner_lengths u n) ≤ inner.profile.proxies → proxy_test ≡ false
    few_so few = lt_no inner.profile.proxies (inner_count u (by_id s) + length (inner_lengths u n)) (let e = count_is in omega arith)

    within_so : inner_pages_with p u large n ≤ inner.profile.pages → space_test ≡ false
    within_so within = lt_no inner.profile.pages (inner_pages_with p u (by_id s) n) (let e = with_is n in omega arith)

    pub refused_is : (e : Refusal) → IsRefusedLarge s.heap n e → large_refusal (shown s) n ≡ Some e
    refused_is refusal.Size why =
        λ i. refusal_by (lt_yes u n why.long i && lt_yes u (spine_bytes u n) why.past i) proxy_test space_test
    refused_is refusal.Proxy why =
        let e = count_is in let past = why.past in
        let yes = lt_yes inner.profile.proxies (inner_count u (by_id s) + length (inner_lengths u n)) (omega arith) in
        λ i. refusal_by (fits_so why.fits i) (yes i) space_test
    refused_is refusal.Space why =
        let e = with_is n in let past = why.past in
        let yes = lt_yes inner.profile.pages (inner_pages_with p u (by_id s) n) (omega arith) in
        λ i. refusal_by (fits_so why.fits i) (few_so why.proxies i) (yes i)

    pub not_refused : HasLargeRoom s.heap n → large_refusal (shown s) n ≡ None
    not_refused room = λ i. refusal_by (fits_so room.fits i) (few_so room.proxies i) (within_so room.pages i)

  -- the replies to `walk` and `frag`
  each_is : (c : ℕ) → live p (objects inner.held) c ≡ live_inner (shown s) c
  each_is c = going.ready.parts.counted.each c ∙ sym (live_is c)

  all_is : len (objects inner.held) ≡ inner_count u (by_id s)
  all_is = going.ready.parts.counted.all ∙ sym count_is

  pages_are : pages_needed p (objects inner.held) ≡ pages_of_inner (shown s)
  unfolding pages_needed
  pages_are = λ i. pages_for p (λ c. each_is c i)

  asked_is : asked_bytes (objects inner.held) ≡ inner_sum (λ n. n) u (by_id s)
  asked_is = asked_by_sum (objects inner.held) ∙ sum_is (λ n. n)

  taken_is : taken_bytes p (objects inner.held) ≡ 8 * inner_sum (λ n. slot_words p (class_for p n)) u (by_id s)
  taken_is = taken_by_sum p (objects inner.held) ∙ ap (λ n. 8 * n) (sum_is (λ n. slot_words p (class_for p n)))

  totals_shown : totals_at_one p (objects inner.held) ≡ large_totals (shown s)
  totals_shown = λ i. record {
    live = all_is i;
    asked = asked_is i;
    taken = taken_is i;
    held = 8 * p.page_words * pages_are i;
    used = pages_are i;
    free = p.pages - pages_are i;
    largest = cond (nat_eq (p.pages - pages_are i) 0) 0 p.page_words;
  }

  totals_here : totals_in inner.kind inner ≡ large_totals (shown s)
  totals_here = totals_paged inner.kind going.ready.parts.pages ∙ totals_are p kept.paging going.ready.parts.ones inner.held kept.sound ∙ totals_shown
    where
      totals_paged : (k : Kind) → IsPaged k → totals_in k inner ≡ totals_of p inner.held
      totals_paged k is = rw (is, totals_in) refl

  figures_shown : (c : ℕ) → figures_at_one p (objects inner.held) c ≡ large_figures (shown s) c
  figures_shown c = ap (λ n. record {
    slot_words = slot_words p c;
    slots = slots_of p c;
    live = n;
    pages = ceil_div n (slots_of p c);
    not_full = part_pages n (slots_of p c);
  }) (each_is c)

  pub walk_is : walk_of s.heap.inner.kind s.heap.inner ≡ large_walk (shown s)
  walk_is = walk_paged inner.kind going.ready.parts.pages ∙ (λ i. lines i ++ said (total_line (totals_here i)))
    where
      walk_paged : (k : Kind) → IsPaged k → walk_of k inner ≡ pages_report inner
      walk_paged k is = rw (is, walk_of) refl

      classes_here : (k : Kind) → IsPaged k → classes_in k inner ≡ classes p
      classes_here k is = rw (is, classes_in) refl

      lines : map (λ c. class_line (figures_of p inner.held c)) (live_classes inner)
          ≡ map (λ c. class_line (large_figures (shown s) c)) (filter (λ c. not (nat_eq (live_inner (shown s) c) 0)) (range_with_len 0 (classes p)))
      lines =
          ap (λ n. map (λ c. class_line (figures_of p inner.held c)) (filter (λ c. not (nat_eq (live p (objects inner.held) c) 0)) (range_with_len 0 n)))
          (classes_here inner.kind going.ready.parts.pages)
          ∙ said_alike (λ c. class_line (figures_of p inner.held c)) (λ c. class_line (large_figures (shown s) c)) _ _ 0 (classes p)
          (λ d lt. ap class_line (figures_are p kept.paging going.ready.parts.ones inner.held kept.sound d (omega arith) ∙ figures_shown d))
          (λ d. ap (λ n. not (nat_eq n 0)) (each_is d))

  pub frag_is : frag_of s.heap.inner ≡ said (frag_line (large_totals (shown s)))
  frag_is = ap (λ T. said (frag_line T)) totals_here

-- For `the_large_headline`: in a run in mode `large` each command's reply, and the objects by id after it, are those that the claim computes (`large_reply`,
-- `large_after`).

module _ (old new : LargeRun) (going : IsGoingLarge old) (later : IsGoingLarge new) (reply : Reply) where
  abbrev t : ById
  t = shown old

  abbrev with : Objects → ById
  with o = record (shown old) { objects = o }

  abbrev Answered : Command → Type 0
  Answered c = (reply ≡ large_reply (shown old) c) × (shown new ≡ large_after (shown old) c)

  -- the heap that a run shows after a command has the settings of the heap before it
  stays_shown : (c : Command) → LargeStep old c reply new → shown new ≡ with (by_id new)
  stays_shown c step =
      let k = (turn large_calls large_keeps old new going.ready reply c step).1 in
      let bounds : new.heap.inner.bounds ≡ old.heap.inner.bounds =
      bounds_are new.heap.inner (kept new later) later.ready.parts.ones
      ∙ (λ i. replicate (length (sizes (k.profile i).page_words (layout_of (k.kind i)))) 1)
      ∙ sym (bounds_are old.heap.inner (kept old going) going.ready.parts.ones) in
      λ i. record { kind = k.kind i; profile = k.profile i; bounds = bounds i; objects = by_id new }

  -- the command `m`
  refusal_is : (n : ℕ) (answer : Result Handle Refusal) → IsLargeMalloc old.heap n answer new.heap → large_refusal t n ≡ refused answer
  refusal_is n (Ok h) g = not_refused old going n g.room
  refusal_is n (Err e) r = refused_is old going n e r.0

  malloc_answered : (id n : ℕ) → LargeStep old (command.Malloc id n) reply new → Answered (command.Malloc id n)
  malloc_answered id n step = malloc_by_id large_calls large_keeps old new going reply id n step
      (λ v live st. (st.0 ∙ sym (ap (λ o. said (large_malloc_line o t n)) live), ap shown st.1 ∙ sym (ap (λ o. with (large_malloc_leaves o t id n)) live)))
      (λ none s left. (let why = refusal_is n s.answer s.step.0 in (
        s.reply_is ∙ ap said (malloc_text_by s.answer ∙ sym (ap (λ o. large_malloc_line o t n) none ∙ ap (ok_or (λ e. malloc_text (Err e))) why)),
        stays_shown (command.Malloc id n) step
            ∙ ap with (left ∙ sym (ap (λ o. large_malloc_leaves o t id n) none ∙ ap (λ f. put_unless f (by_id old) id (replicate n 0)) why)),
      )))

  -- the command `f`
  free_answered : (id : ℕ) → LargeStep old (command.Free id) reply new → Answered (command.Free id)
  free_answered id step = free_by_id large_calls large_keeps old new going reply id step
      (λ none st. (st.0 ∙ sym (ap (λ o. said (free_said o)) none), ap shown st.1 ∙ ap with (sym (remove_missing (by_id old) id none))))
      (λ h v there live s left.
      (s.reply_is ∙ sym (ap (λ o. said (free_said o)) live), stays_shown (command.Free id) step ∙ ap with (left ∙ always_taken s.answer (by_id old) id)))

  -- each command
  pub answered : (c : Command) → LargeStep old c reply new → (reply ≡ large_reply (shown old) c) × (shown new ≡ large_after (shown old) c)
  answered (command.Malloc id n) step = malloc_answered id n step
  answered (command.Free id) step = free_answered id step
  answered (command.Write id from bytes) step =
      let w = write_by_id large_calls large_keeps old new going reply id from bytes step in
      (w.0, stays_shown (command.Write id from bytes) step ∙ ap with w.1)
  answered (command.Read id from count) step =
      (step.0 ∙ ap (λ o. said (read_shown o from count)) (bytes_by_id large_calls old going id), ap shown step.1)
  answered command.Walk step = (step.0 ∙ walk_is old going, ap shown step.1)
  answered command.Frag step = (step.0 ∙ frag_is old going, ap shown step.1)
  answered c step = (step.0, ap shown step.1)

-- For `the_large_headline`: the replies of every run in mode `large` meet the claim (`MeetsLarge`), item by item, since each reply and the objects after it
-- are those that the claim computes.

opened : (kind : Kind) (p : Profile) (s : LargeRun) → BeginsLarge kind p s → shown s ≡ begun kind (at_bound_one p)
opened kind p s b =
    (λ i. record {
      kind = (b.inner i).kind;
      profile = (b.inner i).profile;
      bounds = (b.inner i).bounds;
      objects = objects_by_id (b.ids i) s.heap.objects;
    })
    ∙ ap (λ o. record (begun kind (at_bound_one p)) { objects = o }) (none_by_id s.heap.objects)

-- the heap that a run shows, if it has begun
abbrev shown_at : Option LargeRun → Option ById
shown_at s = option_map shown s

module _ (kind : Kind) where
  item_met : (old : Option LargeRun) (item : Item) (reply : Reply) (new : Option LargeRun) → IsAt IsGoingLarge old
      → PlayStep (BeginsAtOne kind) LargeStep old item reply new
      → (reply ≡ large_reply_in (shown_at old) item) × (shown_at new ≡ after_in kind (shown_at old) item) × IsAt IsGoingLarge new
  item_met None (starts p) reply new goes step =
      let b = step.1.0 in
      (step.1.1, ap shown_at step.2 ∙ ap (λ t. Some t) (opened kind p step.0 b), subst (IsAt IsGoingLarge) (sym step.2) (begins_going kind p step.0 b))
  item_met (Some s) (starts p) reply new goes step =
      let b = step.1.0 in
      (step.1.1, ap shown_at step.2 ∙ ap (λ t. Some t) (opened kind p step.0 b), subst (IsAt IsGoingLarge) (sym step.2) (begins_going kind p step.0 b))
  item_met None (asks c) reply new goes step = (step.0, ap shown_at step.1, subst (IsAt IsGoingLarge) (sym step.1) tt)
  item_met (Some s) (asks c) reply new goes step =
      let on = still_going large_calls large_keeps s step.0 c reply goes step.1 in
      let a = answered s step.0 goes on reply c step.1 in
      (a.0, ap shown_at step.2 ∙ ap (λ t. Some t) a.1, subst (IsAt IsGoingLarge) (sym step.2) on)
  item_met None (bad n) reply new goes step = (step.0, ap shown_at step.1, subst (IsAt IsGoingLarge) (sym step.1) tt)
  item_met (Some s) (bad n) reply new goes step = (step.0, ap shown_at step.1, subst (IsAt IsGoingLarge) (sym step.1) goes)

  run_met : (items : List Item) (old : Option LargeRun) (replies : List Reply) (new : Option LargeRun) → IsAt IsGoingLarge old
      → PlayRun (BeginsAtOne kind) LargeStep old items replies new → replies ≡ large_replies kind (shown_at old) items
  run_met [] old replies new goes run = run.0
  run_met (item ∷ rest) old replies new goes run =
      let one = item_met old item run.1 run.0 goes run.3 in
      let more = run_met rest run.0 run.2 new one.2 run.5 in
      run.4 ∙ (λ i. one.0 i ∷ more i) ∙ ap (λ t. large_reply_in (shown_at old) item ∷ large_replies kind t rest) one.1

-- over a run of a session the replies are as claimed
pub run_meets : (kind : Kind) (items : List Item) (replies : List Reply) (end : Option LargeRun) → RunsLarge kind None items replies end
    → MeetsLarge kind items replies
run_meets kind items replies end run = run_met kind items None replies end tt run

-- over a run of the mode handler the replies are as claimed
pub large_met : (from : LargeRun) (items : List Item) (replies : List Reply) (end : Option LargeRun) → RunBy large_heap from None items replies end
    → MeetsLarge from.heap.inner.kind items replies
large_met from items replies end run = run_meets from.heap.inner.kind items replies end run
