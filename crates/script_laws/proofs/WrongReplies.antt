-- For the law `wrong_replies_fall_short`: small scripts with wrong replies (a malloc that fits refused, a line missing, an address shared or changed, and
-- others) don't meet the headline.
use Rattle.std.proofs.Common.{◌≡◌, ◌≢◌, ℕ, true, false, cond, ◌-◌, ◌/◌, ◌≤◌, ◌<◌, Err, List, [], ◌∷◌, ◌++◌, drop, get_or, map, Option, Some, None, length, replicate, arith, sym, ◌∙◌, ap, refl, subst, lit≤, inl, inr}
use Rattle.std.specs.Prelude.{⊤, codes}
use Rattle.std.proofs.lemmas.Bool.{and_parts}
use Rattle.std.specs.List.{list_all}
use Rattle.std.specs.Fmt.{decimal, digits}
use Rattle.std.specs.Ordering.{nat_cmp}
use Rattle.std.specs.FinMap.{empty, get, get-empty, insert, len}
use Rattle.hex.specs.Hex.{decode_pairs, encode_with}
use Rattle.cf_base.specs.Classes.{sizes_from}
use Rattle.run_model.specs.Terms.{asks, Command, family_of, Free, HeapState, IsPaging, IsSound, Item, items, Kind, Malloc, Moving, Objects, paged, Paging, paging_in, Peek, Place, Placed, Profile, Refusal, Reply, said, slot_words, slots_of, starts, Steps, Tlsf, Walk, with_number}
use Rattle.cf_base.specs.declared.results.Refusal.TheVariants as refusal
use Rattle.cf_io.specs.Numbers.{is_digit, number_in}
use Rattle.cf_io.proofs.CallerLemmas.{number_of_decimal, spells}
use Rattle.cf_base.proofs.Maps.{get_inserted, get_insert_other}
use Rattle.page_model.specs.Arrangement.{IsSlotAt, live, pages_needed, pages_needed_with}
use Rattle.page_model.specs.Figures.{asked_bytes, taken_bytes}
use Rattle.page_model.specs.Counts.{ceil_div}
use Rattle.page_model.specs.Paging.{class_for}
use Rattle.page_model.specs.Steps.{zeros_at}
use Rattle.run_model.specs.Plays.{PlayRun, PlayStep}
use Rattle.run_model.specs.Replies.{malloc_text, peek_text, place_text}
use Rattle.run_model.specs.Reports.{class_line, total_line}
use Rattle.script_laws.specs.AtOne.{classes_in_use, figures_at_one, part_pages, totals_at_one}
use Rattle.script_laws.specs.ById.{ById, begun, paging_by_id}
use Rattle.script_laws.specs.RepliesById.{after_by_id, reply_by_id}
use Rattle.script_laws.proofs.BoundsAtOne.{stays_at_one}
use Rattle.script_laws.proofs.SmallMaps.{counted, got, got_none, listed, listed_none}
use Rattle.script_laws.specs.Headline.{MayReply, MallocSucceeds, ShowsMalloc, MeetsHeadline, OpensEmpty, steps_line, steps_shown}
use Rattle.script_laws.specs.ShownHeap.{IsArranged, ShownHeap, heap_opened}
use Rattle.script_laws.specs.ShownWords.{ShowsPageWord}
use Rattle.script_laws.proofs.Exact.{headline_is_transcript}

ruleset maps = (got, got_none, counted, listed, listed_none)

-- two pages of 64 words
abbrev settings : Profile
settings = record { pages = 2; page_words = 64; k = 1; proxies = 8 }

abbrev with : Objects → ById
with o = record (begun Moving settings) { objects = o }

abbrev one_object : Objects
one_object = insert empty 1 (replicate 176 0)

-- At bound 1 the transcript alone meets the headline.
malloc_items : items (codes "heap 2 512 1 8\nm 1 176\n") true ≡ starts settings ∷ asks (Malloc 1 176) ∷ []
unfolding decode_pairs
malloc_items = refl

walk_items : items (codes "heap 2 512 1 8\nm 1 176\nwalk\n") true ≡ starts settings ∷ asks (Malloc 1 176) ∷ asks Walk ∷ []
unfolding decode_pairs
walk_items = refl

free_items : items (codes "heap 2 512 1 8\nf 1\n") true ≡ starts settings ∷ asks (Free 1) ∷ []
unfolding decode_pairs
free_items = refl

malloc_reply : reply_by_id (with empty) (Malloc 1 176) ≡ said (codes "ok")
unfolding sizes_from class_for live pages_needed pages_needed_with asked_bytes taken_bytes digits encode_with
malloc_reply = simp maps

state_after_malloc : after_by_id (with empty) (Malloc 1 176) ≡ with one_object
unfolding sizes_from class_for live pages_needed pages_needed_with asked_bytes taken_bytes digits encode_with
state_after_malloc = simp maps

-- the report on one object
abbrev two_pages : Paging
two_pages = paging_by_id (with one_object)

one_class : classes_in_use two_pages one_object ≡ 11 ∷ []
unfolding sizes_from class_for live
one_class = simp maps

one_live : live two_pages one_object 11 ≡ 1
unfolding sizes_from class_for live
one_live = simp maps

one_needed : pages_needed two_pages one_object ≡ 1
unfolding sizes_from class_for live pages_needed
one_needed = simp maps

one_counted : len one_object ≡ 1
one_counted = simp maps

abbrev line_of : ℕ → List ℕ
line_of n = class_line (record {
  slot_words = slot_words two_pages 11;
  slots = slots_of two_pages 11;
  live = n;
  pages = ceil_div n (slots_of two_pages 11);
  not_full = part_pages n (slots_of two_pages 11);
})

abbrev total_of : ℕ → ℕ → List ℕ
total_of n used = with_number (codes "total live ") n ++ (with_number (codes " pages ") used ++ with_number (codes " free ") (2 - used))

line_shown : line_of 1 ≡ codes "class 23 slots 2 live 1 pages 1 notfull 1"
unfolding digits sizes_from
line_shown = refl

total_shown : total_of 1 1 ≡ codes "total live 1 pages 1 free 1"
unfolding digits
total_shown = refl

walk_reply : reply_by_id (with one_object) Walk ≡ codes "class 23 slots 2 live 1 pages 1 notfull 1" ∷ codes "total live 1 pages 1 free 1" ∷ []
walk_reply =
    (λ i. map (λ c. class_line (figures_at_one two_pages one_object c)) (one_class i) ++ said (total_line (totals_at_one two_pages one_object)))
    ∙ (λ i. line_of (one_live i) ∷ total_of (one_counted i) (one_needed i) ∷ [])
    ∙ (λ i. line_shown i ∷ total_shown i ∷ [])

free_reply : reply_by_id (with empty) (Free 1) ≡ said (codes "unknown")
free_reply = simp maps

malloc_replies : (replies : List Reply) → MeetsHeadline Moving (items (codes "heap 2 512 1 8\nm 1 176\n") true) replies
    → replies ≡ said (codes "ok") ∷ said (codes "ok") ∷ []
malloc_replies replies meets =
    let l : List Item = starts settings ∷ asks (Malloc 1 176) ∷ [] in
    headline_is_transcript Moving l replies refl (stays_at_one Moving refl l None tt (refl, (tt, tt))) (tt, (tt, tt))
    (subst (λ l. MeetsHeadline Moving l replies) malloc_items meets)
    ∙ ap (λ r. said (codes "ok") ∷ r ∷ []) malloc_reply

walk_replies : (replies : List Reply) → MeetsHeadline Moving (items (codes "heap 2 512 1 8\nm 1 176\nwalk\n") true) replies
    → replies ≡ said (codes "ok") ∷ said (codes "ok") ∷ (codes "class 23 slots 2 live 1 pages 1 notfull 1" ∷ codes "total live 1 pages 1 free 1" ∷ []) ∷ []
walk_replies replies meets =
    let l : List Item = starts settings ∷ asks (Malloc 1 176) ∷ asks Walk ∷ [] in
    headline_is_transcript Moving l replies refl (stays_at_one Moving refl l None tt (refl, (tt, (tt, tt)))) (tt, (tt, (tt, tt)))
    (subst (λ l. MeetsHeadline Moving l replies) walk_items meets)
    ∙ (λ i. said (codes "ok") ∷ malloc_reply i ∷ reply_by_id (state_after_malloc i) Walk ∷ [])
    ∙ ap (λ r. said (codes "ok") ∷ said (codes "ok") ∷ r ∷ []) walk_reply

free_replies : (replies : List Reply) → MeetsHeadline Moving (items (codes "heap 2 512 1 8\nf 1\n") true) replies
    → replies ≡ said (codes "ok") ∷ said (codes "unknown") ∷ []
free_replies replies meets =
    let l : List Item = starts settings ∷ asks (Free 1) ∷ [] in
    headline_is_transcript Moving l replies refl (stays_at_one Moving refl l None tt (refl, (tt, tt))) (tt, (tt, tt))
    (subst (λ l. MeetsHeadline Moving l replies) free_items meets)
    ∙ ap (λ r. said (codes "ok") ∷ r ∷ []) free_reply

-- the second and the third reply, and lines of a reply
abbrev second : List Reply → Reply
second l = get_or l 1 []

abbrev third : List Reply → Reply
third l = get_or l 2 []

abbrev line_at : Reply → ℕ → List ℕ
line_at r i = get_or r i []

-- `refused space` while there is room
pub fitting_malloc_refused : MeetsHeadline Moving (items (codes "heap 2 512 1 8\nm 1 176\n") true) (said (codes "ok") ∷ said (codes "refused space") ∷ []) → ⊥
fitting_malloc_refused meets = (let e : said (codes "refused space") ≡ said (codes "ok") = ap second (malloc_replies _ meets) in cc)

-- `refused size` of an object that fits
pub refused_for_size : MeetsHeadline Moving (items (codes "heap 2 512 1 8\nm 1 176\n") true) (said (codes "ok") ∷ said (codes "refused size") ∷ []) → ⊥
refused_for_size meets = (let e : said (codes "refused size") ≡ said (codes "ok") = ap second (malloc_replies _ meets) in cc)

-- no line at all
pub malloc_without_line : MeetsHeadline Moving (items (codes "heap 2 512 1 8\nm 1 176\n") true) (said (codes "ok") ∷ [] ∷ []) → ⊥
malloc_without_line meets = (let e : ◌≡◌ {A = Reply} [] (said (codes "ok")) = ap second (malloc_replies _ meets) in cc)

-- no reply
pub malloc_without_reply : MeetsHeadline Moving (items (codes "heap 2 512 1 8\nm 1 176\n") true) (said (codes "ok") ∷ []) → ⊥
malloc_without_reply meets = (let e : ◌≡◌ {A = ℕ} 1 2 = ap length (malloc_replies _ meets) in omega arith)

-- a reply more than there are items
pub one_reply_too_many : MeetsHeadline Moving (items (codes "heap 2 512 1 8\nm 1 176\n") true)
    (said (codes "ok") ∷ said (codes "ok") ∷ said (codes "hello") ∷ []) → ⊥
one_reply_too_many meets = (let e : ◌≡◌ {A = ℕ} 3 2 = ap length (malloc_replies _ meets) in omega arith)

-- a page more than the object needs and may have
pub page_in_excess : MeetsHeadline Moving (items (codes "heap 2 512 1 8\nm 1 176\nwalk\n") true) (said (codes "ok") ∷ said (codes "ok")
    ∷ (codes "class 23 slots 2 live 1 pages 2 notfull 0" ∷ codes "total live 1 pages 2 free 0" ∷ []) ∷ []) → ⊥
page_in_excess meets = (let e : ◌≡◌ {A = ℕ} 50 49 = ap (λ l. get_or (line_at (third l) 0) 30 0) (walk_replies _ meets) in omega arith)

-- a total that is not the sum of the lines above it
pub total_in_excess : MeetsHeadline Moving (items (codes "heap 2 512 1 8\nm 1 176\nwalk\n") true) (said (codes "ok") ∷ said (codes "ok")
    ∷ (codes "class 23 slots 2 live 1 pages 1 notfull 1" ∷ codes "total live 1 pages 2 free 0" ∷ []) ∷ []) → ⊥
total_in_excess meets = (let e : ◌≡◌ {A = ℕ} 50 49 = ap (λ l. get_or (line_at (third l) 1) 19 0) (walk_replies _ meets) in omega arith)

-- a free of an id that isn't live
pub freed_in_vain : MeetsHeadline Moving (items (codes "heap 2 512 1 8\nf 1\n") true) (said (codes "ok") ∷ said (codes "ok") ∷ []) → ⊥
freed_in_vain meets = (let e : said (codes "ok") ≡ said (codes "unknown") = ap second (free_replies _ meets) in cc)

-- What needs the steps themselves: costs and addresses.

-- the replies to the items that are left meet the headline, from the heap t on; `first_of` splits off the first item
abbrev Rest : Kind → Option ShownHeap → List Item → List Reply → Type 0
Rest kind t items replies = (end : Option ShownHeap) × PlayRun (OpensEmpty kind) MayReply t items replies end

module _ (kind : Kind) (items : List Item) (reply : Reply) (more : List Reply) where
  first_of : (t : Option ShownHeap) (item : Item) → Rest kind t (item ∷ items) (reply ∷ more)
      → (mid : Option ShownHeap) × PlayStep (OpensEmpty kind) MayReply t item reply mid × Rest kind mid items more
  first_of t item (end, (mid, r, rest, step, are, run)) =
      let is : r ≡ reply = (let e : reply ∷ more ≡ r ∷ rest = are in cc) in
      let are_rest : rest ≡ more = (let e : reply ∷ more ≡ r ∷ rest = are in cc) in
      (mid, subst (λ r. PlayStep (OpensEmpty kind) MayReply t item r mid) is step, (end, subst (λ l. PlayRun (OpensEmpty kind) MayReply mid items l end) are_rest run))

  after_opening : (p : Profile) → Rest kind None (starts p ∷ items) (reply ∷ more) → Rest kind (Some (heap_opened kind p)) items more
  after_opening p run =
      let f = first_of None (starts p) run in
      subst (λ t. Rest kind t items more) (f.1.2 ∙ ap (λ (h : ShownHeap). Some h) f.1.1.1) f.2

  after_command : (t : ShownHeap) (c : Command) → Rest kind (Some t) (asks c ∷ items) (reply ∷ more)
      → (new : ShownHeap) × MayReply t c reply new × Rest kind (Some new) items more
  after_command t c run =
      let f = first_of (Some t) (asks c) run in
      (f.1.0, f.1.1, subst (λ t. Rest kind t items more) f.1.2 f.2)

abbrev opened : ShownHeap
opened = heap_opened Moving settings

none_held : (q : ℕ) → get (empty {X = Placed} {R = nat_cmp}) q ≡ None
none_held q = get-empty nat_cmp q

said_once : (a b : List ℕ) → said a ≡ said b → a ≡ b
said_once a b same = (let e : a ∷ [] ≡ b ∷ [] = same in cc)

-- `ok` is not the text of a refusal, so a malloc with the reply `ok` was done
refusals_differ : (e : Refusal) → said (codes "ok") ≡ said (malloc_text (Err e)) → ⊥
refusals_differ refusal.Size same = (let e : ◌≡◌ {A = ℕ} 111 114 = ap (λ r. get_or (line_at r 0) 0 0) same in omega arith)
refusals_differ refusal.Proxy same = (let e : ◌≡◌ {A = ℕ} 111 114 = ap (λ r. get_or (line_at r 0) 0 0) same in omega arith)
refusals_differ refusal.Space same = (let e : ◌≡◌ {A = ℕ} 111 114 = ap (λ r. get_or (line_at r 0) 0 0) same in omega arith)

given : (t new : ShownHeap) (id n : ℕ) → get t.heap.held id ≡ None → MayReply t (Malloc id n) (said (codes "ok")) new → MallocSucceeds t id n (said (codes "ok")) new
given t new id n none (answer, arranged) = go (subst (λ o. ShowsMalloc o t id n (said (codes "ok")) new) none answer)
  where
    go : ShowsMalloc None t id n (said (codes "ok")) new → MallocSucceeds t id n (said (codes "ok")) new
    go (inl m) = m
    go (inr r) = absurd (refusals_differ r.refusal r.reply_is)

-- a text that begins with no digit, and the digits that a text begins with
abbrev BeginsNoDigit : List ℕ → Type 0
BeginsNoDigit [] = ⊤
BeginsNoDigit (x ∷ rest) = is_digit x ≡ false

abbrev digits_first : List ℕ → List ℕ
digits_first [] = []
digits_first (x ∷ rest) = cond (is_digit x) (x ∷ digits_first rest) []

digits_end : (d x : List ℕ) → list_all is_digit d ≡ true → BeginsNoDigit x → digits_first (d ++ x) ≡ d
digits_end [] [] all none = refl
digits_end [] (y ∷ rest) all none = rw none refl
digits_end (c ∷ cs) x all none =
    let b = and_parts (is_digit c) (list_all is_digit cs) all in
    rw b.0 (ap (λ l. c ∷ l) (digits_end cs x b.1 none))

-- a text that begins with a number shows that number
shown_once : (n m : ℕ) (x y : List ℕ) → n ≤ 4294967295 → m ≤ 4294967295 → BeginsNoDigit x → BeginsNoDigit y → decimal n ++ x ≡ decimal m ++ y → n ≡ m
shown_once n m x y small_n small_m none_x none_y same =
    let of_n = number_of_decimal n small_n in
    let of_m = number_of_decimal m small_m in
    let first_n = digits_end (decimal n) x (spells (decimal n) n of_n).digits none_x in
    let first_m = digits_end (decimal m) y (spells (decimal m) m of_m).digits none_y in
    let texts : decimal n ≡ decimal m = sym first_n ∙ ap digits_first same ∙ first_m in
    let some : Some n ≡ Some m = sym of_n ∙ ap number_in texts ∙ of_m in
    cc

-- more steps than a malloc may take
steps_items : items (codes "heap 2 512 1 8\nm 1 176\nsteps\n") true ≡ starts settings ∷ asks (Malloc 1 176) ∷ asks Steps ∷ []
unfolding decode_pairs
steps_items = refl

shown_steps : codes "steps last 65 bound 64 moves 0 words 0" ≡ steps_line 65 64 0 0
unfolding digits
shown_steps = refl

pub steps_in_excess : MeetsHeadline Moving (items (codes "heap 2 512 1 8\nm 1 176\nsteps\n") true) (said (codes "ok") ∷ said (codes "ok")
    ∷ said (codes "steps last 65 bound 64 moves 0 words 0") ∷ []) → ⊥
steps_in_excess meets =
    let text : List ℕ = codes "steps last 65 bound 64 moves 0 words 0" in
    let start = after_opening Moving (asks (Malloc 1 176) ∷ asks Steps ∷ []) (said (codes "ok")) (said (codes "ok") ∷ said text ∷ []) settings
    (subst (λ l. Rest Moving None l (said (codes "ok") ∷ said (codes "ok") ∷ said text ∷ [])) steps_items meets) in
    let one = after_command Moving (asks Steps ∷ []) (said (codes "ok")) (said text ∷ []) opened (Malloc 1 176) start in
    let m = given opened one.0 1 176 (none_held 1) one.1 in
    let two = after_command Moving [] (said text) [] one.0 Steps one.2 in
    let kind : one.0.heap.kind ≡ Moving = ap (λ (t : ShownHeap). t.heap.kind) m.heap_is in
    let cost : one.0.heap.cost ≤ 64 = m.steps in
    let line : text ≡ steps_line one.0.heap.cost one.0.step_bound one.0.moves one.0.moved_words =
    said_once _ _ (two.1.0.0 ∙ ap (λ k. said (steps_shown k one.0)) kind) in
    let e : 65 ≡ one.0.heap.cost = shown_once 65 one.0.heap.cost _ _ (lit≤ tt) (omega arith) refl refl (ap (drop 11) (sym shown_steps ∙ line)) in
    omega arith

-- more steps than a malloc of TLSF may take
shown_last : codes "steps last 26" ≡ with_number (codes "steps last ") 26
unfolding digits
shown_last = refl

pub block_steps_in_excess : MeetsHeadline Tlsf (items (codes "heap 2 512 1 8\nm 1 176\nsteps\n") true) (said (codes "ok") ∷ said (codes "ok")
    ∷ said (codes "steps last 26") ∷ []) → ⊥
block_steps_in_excess meets =
    let text : List ℕ = codes "steps last 26" in
    let with_blocks : ShownHeap = heap_opened Tlsf settings in
    let start = after_opening Tlsf (asks (Malloc 1 176) ∷ asks Steps ∷ []) (said (codes "ok")) (said (codes "ok") ∷ said text ∷ []) settings
    (subst (λ l. Rest Tlsf None l (said (codes "ok") ∷ said (codes "ok") ∷ said text ∷ [])) steps_items meets) in
    let one = after_command Tlsf (asks Steps ∷ []) (said (codes "ok")) (said text ∷ []) with_blocks (Malloc 1 176) start in
    let m = given with_blocks one.0 1 176 (none_held 1) one.1 in
    let two = after_command Tlsf [] (said text) [] one.0 Steps one.2 in
    let kind : one.0.heap.kind ≡ Tlsf = ap (λ (t : ShownHeap). t.heap.kind) m.heap_is in
    let cost : one.0.heap.cost ≤ 25 = m.steps in
    let line : text ≡ with_number (codes "steps last ") one.0.heap.cost = said_once _ _ (two.1.0.0 ∙ ap (λ k. said (steps_shown k one.0)) kind) in
    let e : 26 ≡ one.0.heap.cost = shown_once 26 one.0.heap.cost [] [] (lit≤ tt) (omega arith) tt tt
    (ap (λ l. drop 11 l ++ []) (sym shown_last ∙ line)) in
    omega arith

-- a word other than 0 of a heap without objects
word_items : items (codes "heap 2 512 1 8\np 0\n") true ≡ starts settings ∷ asks (Peek 0) ∷ []
unfolding decode_pairs
word_items = refl

word_of_zero : peek_text (Some 0) ≡ codes "0000000000000000"
unfolding encode_with
word_of_zero = refl

pub word_in_nothing : MeetsHeadline Moving (items (codes "heap 2 512 1 8\np 0\n") true) (said (codes "ok") ∷ said (codes "0000000000000001") ∷ []) → ⊥
word_in_nothing meets =
    let text : List ℕ = codes "0000000000000001" in
    let start = after_opening Moving (asks (Peek 0) ∷ []) (said (codes "ok")) (said text ∷ []) settings
    (subst (λ l. Rest Moving None l (said (codes "ok") ∷ said text ∷ [])) word_items meets) in
    let one = after_command Moving [] (said text) [] opened (Peek 0) start in
    let shows : ShowsPageWord opened 0 one.1.0.0 = one.1.0.2 in
    let zero : one.1.0.0 ≡ 0 = shows.zero (λ id x there. absurd (let none = none_held id in let e : None ≡ Some x = sym none ∙ there in cc)) in
    let e : said text ≡ said (codes "0000000000000000") = one.1.0.1.0 ∙ ap (λ v. said (peek_text (Some v))) zero ∙ ap said word_of_zero in
    let digit : ◌≡◌ {A = ℕ} 49 48 = ap (λ r. get_or (line_at r 0) 15 0) e in
    omega arith

-- one address of two objects
two_is_not_one : ◌≢◌ {A = ℕ} 2 1
two_is_not_one is = omega arith

slot_is_small : (h : HeapState) (c a : ℕ) → h.profile ≡ settings → IsSlotAt (paging_in h) c a → a ≤ 4294967295
slot_is_small h c a is slot = (let page : a / 64 < 2 = subst (λ (q : Profile). a / q.page_words < q.pages) is slot.page in omega arith)

apart_of : (t : ShownHeap) (a b : ℕ) → IsArranged t.heap → get t.heap.held 1 ≡ Some (zeros_at a 176) → get t.heap.held 2 ≡ Some (zeros_at b 176)
    → t.heap.kind ≡ Moving → t.heap.profile ≡ settings → decimal a ≡ decimal b → ⊥
apart_of t a b arranged one two kind is same =
    let paged_too : family_of t.heap.kind ≡ paged = ap family_of kind in
    let sound : IsPaging (paging_in t.heap) × IsSound (paging_in t.heap) t.heap.held = rw (paged_too, IsArranged) at arranged in
    let small_a = slot_is_small t.heap _ a is (sound.1.slots 1 (zeros_at a 176) one) in
    let small_b = slot_is_small t.heap _ b is (sound.1.slots 2 (zeros_at b 176) two) in
    let e : a ≡ b = shown_once a b [] [] small_a small_b tt tt (ap (λ l. l ++ []) same) in
    sound.1.own_place 1 (zeros_at a 176) 2 (zeros_at b 176) one two two_is_not_one e

shared_address_items : items (codes "heap 2 512 1 8\nm 1 176\nm 2 176\nq 1\nq 2\n") true
    ≡ starts settings ∷ asks (Malloc 1 176) ∷ asks (Malloc 2 176) ∷ asks (Place 1) ∷ asks (Place 2) ∷ []
unfolding decode_pairs
shared_address_items = refl

pub address_shared : MeetsHeadline Moving (items (codes "heap 2 512 1 8\nm 1 176\nm 2 176\nq 1\nq 2\n") true)
    (said (codes "ok") ∷ said (codes "ok") ∷ said (codes "ok") ∷ said (codes "at 0") ∷ said (codes "at 0") ∷ []) → ⊥
address_shared meets =
    let ok : Reply = said (codes "ok") in
    let zero_at : Reply = said (codes "at 0") in
    let start = after_opening Moving (asks (Malloc 1 176) ∷ asks (Malloc 2 176) ∷ asks (Place 1) ∷ asks (Place 2) ∷ []) ok (ok ∷ ok ∷ zero_at ∷ zero_at ∷ []) settings
    (subst (λ l. Rest Moving None l (ok ∷ ok ∷ ok ∷ zero_at ∷ zero_at ∷ [])) shared_address_items meets) in
    let one = after_command Moving (asks (Malloc 2 176) ∷ asks (Place 1) ∷ asks (Place 2) ∷ []) ok (ok ∷ zero_at ∷ zero_at ∷ []) opened (Malloc 1 176) start in
    let first = given opened one.0 1 176 (none_held 1) one.1 in
    let held : one.0.heap.held ≡ insert empty 1 (zeros_at first.place 176) = ap (λ (t : ShownHeap). t.heap.held) first.heap_is in
    let two = after_command Moving (asks (Place 1) ∷ asks (Place 2) ∷ []) ok (zero_at ∷ zero_at ∷ []) one.0 (Malloc 2 176) one.2 in
    let free : get one.0.heap.held 2 ≡ None = ap (λ m. get m 2) held ∙ get_insert_other empty 1 (zeros_at first.place 176) 2 two_is_not_one ∙ none_held 2 in
    let other = given one.0 two.0 2 176 free two.1 in
    let both : two.0.heap.held ≡ insert one.0.heap.held 2 (zeros_at other.place 176) = ap (λ (t : ShownHeap). t.heap.held) other.heap_is in
    let at_two : get two.0.heap.held 2 ≡ Some (zeros_at other.place 176) = ap (λ m. get m 2) both ∙ get_inserted one.0.heap.held 2 (zeros_at other.place 176) in
    let at_one : get two.0.heap.held 1 ≡ Some (zeros_at first.place 176) = ap (λ m. get m 1) both
    ∙ get_insert_other one.0.heap.held 2 (zeros_at other.place 176) 1 (λ is. two_is_not_one (sym is)) ∙ ap (λ m. get m 1) held
    ∙ get_inserted empty 1 (zeros_at first.place 176) in
    let three = after_command Moving (asks (Place 2) ∷ []) zero_at (zero_at ∷ []) two.0 (Place 1) two.2 in
    let four = after_command Moving [] zero_at [] three.0 (Place 2) three.2 in
    let same : three.0 ≡ two.0 = three.1.0.1 in
    let q1 : codes "at 0" ≡ with_number (codes "at ") first.place = said_once _ _ (three.1.0.0 ∙ ap (λ o. said (place_text o)) at_one) in
    let q2 : codes "at 0" ≡ with_number (codes "at ") other.place =
    said_once _ _ (four.1.0.0 ∙ ap (λ (t : ShownHeap). said (place_text (get t.heap.held 2))) same ∙ ap (λ o. said (place_text o)) at_two) in
    let numbers : decimal first.place ≡ decimal other.place = ap (drop 3) (sym q1 ∙ q2) in
    apart_of two.0 first.place other.place two.1.1 at_one at_two (ap (λ (t : ShownHeap). t.heap.kind) other.heap_is ∙ ap (λ (t : ShownHeap). t.heap.kind) first.heap_is)
    (ap (λ (t : ShownHeap). t.heap.profile) other.heap_is ∙ ap (λ (t : ShownHeap). t.heap.profile) first.heap_is) numbers

-- an object at another address, though nothing was freed or resized
changed_address_items : items (codes "heap 2 512 1 8\nm 1 176\nq 1\nm 2 176\nq 1\n") true
    ≡ starts settings ∷ asks (Malloc 1 176) ∷ asks (Place 1) ∷ asks (Malloc 2 176) ∷ asks (Place 1) ∷ []
unfolding decode_pairs
changed_address_items = refl

pub address_changed : MeetsHeadline Moving (items (codes "heap 2 512 1 8\nm 1 176\nq 1\nm 2 176\nq 1\n") true)
    (said (codes "ok") ∷ said (codes "ok") ∷ said (codes "at 0") ∷ said (codes "ok") ∷ said (codes "at 23") ∷ []) → ⊥
address_changed meets =
    let ok : Reply = said (codes "ok") in
    let here : Reply = said (codes "at 0") in
    let there : Reply = said (codes "at 23") in
    let start = after_opening Moving (asks (Malloc 1 176) ∷ asks (Place 1) ∷ asks (Malloc 2 176) ∷ asks (Place 1) ∷ []) ok (ok ∷ here ∷ ok ∷ there ∷ []) settings
    (subst (λ l. Rest Moving None l (ok ∷ ok ∷ here ∷ ok ∷ there ∷ [])) changed_address_items meets) in
    let one = after_command Moving (asks (Place 1) ∷ asks (Malloc 2 176) ∷ asks (Place 1) ∷ []) ok (here ∷ ok ∷ there ∷ []) opened (Malloc 1 176) start in
    let first = given opened one.0 1 176 (none_held 1) one.1 in
    let held : one.0.heap.held ≡ insert empty 1 (zeros_at first.place 176) = ap (λ (t : ShownHeap). t.heap.held) first.heap_is in
    let two = after_command Moving (asks (Malloc 2 176) ∷ asks (Place 1) ∷ []) here (ok ∷ there ∷ []) one.0 (Place 1) one.2 in
    let still : two.0.heap.held ≡ insert empty 1 (zeros_at first.place 176) = ap (λ (t : ShownHeap). t.heap.held) two.1.0.1 ∙ held in
    let three = after_command Moving (asks (Place 1) ∷ []) ok (there ∷ []) two.0 (Malloc 2 176) two.2 in
    let free : get two.0.heap.held 2 ≡ None = ap (λ m. get m 2) still ∙ get_insert_other empty 1 (zeros_at first.place 176) 2 two_is_not_one ∙ none_held 2 in
    let other = given two.0 three.0 2 176 free three.1 in
    let four = after_command Moving [] there [] three.0 (Place 1) three.2 in
    let at_last : get three.0.heap.held 1 ≡ get one.0.heap.held 1 = ap (λ (t : ShownHeap). get t.heap.held 1) other.heap_is
    ∙ get_insert_other two.0.heap.held 2 (zeros_at other.place 176) 1 (λ is. two_is_not_one (sym is))
    ∙ ap (λ m. get m 1) (still ∙ sym held) in
    let e : said (codes "at 0") ≡ said (codes "at 23") = two.1.0.0 ∙ sym (ap (λ o. said (place_text o)) at_last) ∙ sym four.1.0.0 in
    absurd (let z : ◌≡◌ {A = ℕ} 48 50 = ap (λ r. get_or (line_at r 0) 3 0) e in omega arith)
