-- For the law `one_output`: runs over the same items on managers of one kind that promise an order have the same replies and the same end; and every script
-- has such a run. Also: after a step the manager has an order if and only if it had one before; no item of a script after the first is a `heap` line.
use Rattle.std.proofs.Common.{◌≡◌, ℕ, ◌+◌, ◌*◌, Bool, true, false, List, [], ◌∷◌, Option, Some, None, Result, Ok, Err, refl, sym, ◌∙◌, ap, subst}
use Rattle.std.specs.Prelude.{IsSome, ⊤, codes, is_some}
use Rattle.run_model.specs.Terms.{AccessFault, AreInRange, asks, bad, Bound, Command, counted, Free, Freed, fresh_session, get, HeapState, IsGoing, Item, items, KeepsRules, Kind, Malloc, Position, Profile, remove, Reply, Request, Resize, RunState, said, SessionState, starts, with_bound, Write}
use Rattle.page_model.specs.Order.{Order}
use Rattle.block_model.proofs.CallerLemmas.{opening_lists}
use Rattle.cf_model.specs.Costs.{resize_bound}
use Rattle.cf_model.specs.Ordered.{FreeByOrder, MallocByOrder, ResizeByOrder}
use Rattle.cf_model.specs.Steps.{IsOpeningOrder, IsWriteStep, opening_order, ordered_heap}
use Rattle.cf_model.proofs.CallerLemmas.{free_same, one_malloc, one_resize, one_write, order_stays, ordered_there, same_words}
use Rattle.script_reader.specs.Items.{LineMeaning, gives_or_breaks, is_bound, item, items_at, items_by, line_says, nothing, stage_after_command, verdict, wrong}
use Rattle.script_reader.specs.Lines.{lines}
use Rattle.script_reader.specs.declared.stage.Stage.{Stage}
use Rattle.script_reader.specs.declared.stage.Stage.TheVariants.{Opening, Bounding, Running}
use Rattle.run_model.specs.Replies.{malloc_text, resize_text, write_text}
use Rattle.run_model.specs.Runs.{Begins, BeginsOne, ItemStep, Run, IsCommandStep}
use Rattle.run_model.specs.Steps.{Step, class_to_bound, ids_given, session_resized}
use Rattle.run_model.proofs.CallerLemmas.{FreesAt, MallocsAt, ResizesAt, WritesAt, begins_going, step_going}
use Rattle.script_laws.specs.ValidItems.{AreValidItems}
use Rattle.script_laws.proofs.GoingOn.{kind_goes_on}
use Rattle.script_laws.proofs.Items.{all_items_valid}
use Rattle.script_laws.proofs.RunsExist.{IsOn, run_there, step_on}
use Rattle.script_laws.specs.OneOutput.{BeginNone, BeginOnce, IsOrdered}
use Rattle.script_laws.proofs.Steps.{run_is}

-- ---- one command

-- two steps of one command from one state of a manager with an order
module _ (old new next : RunState) (some : IsSome old.heap.order) (rules : KeepsRules old.heap) where
  abbrev Same : Reply → Reply → Type 0
  Same reply other = (other ≡ reply) × (next ≡ new)

  malloc_once : (o : Option ℕ) (asked : Request) (reply other : Reply) → MallocsAt o old asked reply new → MallocsAt o old asked other next → Same reply other
  malloc_once (Some h) asked reply other g f = (f.0 ∙ sym g.0, f.1 ∙ sym g.1)
  malloc_once None asked reply other g f =
      let (answer, heap) = one_malloc old.heap new.heap next.heap some rules g.rules f.rules asked.length g.answer f.answer g.step g.ordered f.step f.ordered in (
        f.reply_is ∙ ap (λ a. said (malloc_text a)) (sym answer) ∙ sym g.reply_is,
        run_is new next
            (f.session ∙ ap (λ a. record old.session { ids = ids_given old.session.ids asked.number a; bound = 64 }) (sym answer) ∙ sym g.session) heap,
      )

  free_once : (o : Option ℕ) (id : ℕ) (reply other : Reply) → FreesAt o old id reply new → FreesAt o old id other next → Same reply other
  free_once None id reply other g f = (f.0 ∙ sym g.0, f.1 ∙ sym g.1)
  free_once (Some h) id reply other g f =
      let (freed, heap) = free_same old.heap new.heap next.heap some rules g.rules f.rules h g.freed f.freed g.step g.ordered f.step f.ordered in
      let left : Freed → SessionState = λ (x : Freed). counted (record old.session { ids = remove old.session.ids id; bound = 96 + 2 * x.slot_words }) x.moved x.slot_words in
      (f.reply_is ∙ sym g.reply_is, run_is new next (f.session ∙ ap left (sym freed) ∙ sym g.session) heap)

  write_once : (o : Option ℕ) (at : ℕ) (bytes : List ℕ) (reply other : Reply) → WritesAt o old at bytes reply new → WritesAt o old at bytes other next
      → Same reply other
  write_once None at bytes reply other g f = (f.0 ∙ sym g.0, f.1 ∙ sym g.1)
  write_once (Some h) at bytes reply other g f =
      let (answer, heap) = one_write old.heap new.heap next.heap g.rules f.rules (record { number = h; from = at }) bytes g.answer f.answer g.step f.step in
      (f.reply_is ∙ ap (λ a. said (write_text a)) (sym answer) ∙ sym g.reply_is, run_is new next (f.session ∙ sym g.session) heap)

  resize_once : (o : Option ℕ) (bytes : ℕ) (reply other : Reply) → ResizesAt o old bytes reply new → ResizesAt o old bytes other next → Same reply other
  resize_once None bytes reply other g f = (f.0 ∙ sym g.0, f.1 ∙ sym g.1)
  resize_once (Some h) bytes reply other g f =
      let (answer, heap) = one_resize old.heap new.heap next.heap some rules g.rules f.rules (record { number = h; length = bytes }) g.answer f.answer
      g.step g.ordered f.step f.ordered in (
        f.reply_is ∙ ap (λ a. said (resize_text a)) (sym answer) ∙ sym g.reply_is,
        run_is new next (f.session ∙ ap (λ a. session_resized (record old.session { bound = resize_bound a }) a) (sym answer) ∙ sym g.session) heap,
      )

  pub one_step : (c : Command) (reply other : Reply) → Step old c reply new → Step old c other next → Same reply other
  one_step (Malloc id bytes) reply other g f = malloc_once (get old.session.ids id) (record { number = id; length = bytes }) reply other g f
  one_step (Free id) reply other g f = free_once (get old.session.ids id) id reply other g f
  one_step (Write id at bytes) reply other g f = write_once (get old.session.ids id) at bytes reply other g f
  one_step (Resize id bytes) reply other g f = resize_once (get old.session.ids id) bytes reply other g f
  one_step (Bound words k) reply other g f = (f.reply_is ∙ sym g.reply_is, run_is new next (f.session ∙ sym g.session) (f.heap ∙ sym g.heap))
  one_step _ reply other g f = (f.0 ∙ sym g.0, f.1 ∙ sym g.1)

-- after a step the manager has an order if and only if it had one before
module _ (old new : RunState) where
  abbrev Stays : Type 0
  Stays = is_some new.heap.order ≡ is_some old.heap.order

  still : new ≡ old → Stays
  still e = ap (λ (s : RunState). is_some s.heap.order) e

  malloc_keeps : (o : Option ℕ) (asked : Request) (reply : Reply) → MallocsAt o old asked reply new → Stays
  malloc_keeps (Some h) asked reply g = still g.1
  malloc_keeps None asked reply g = order_stays (MallocByOrder old.heap asked.length g.answer new.heap) old.heap.order new.heap.order g.ordered

  free_keeps : (o : Option ℕ) (id : ℕ) (reply : Reply) → FreesAt o old id reply new → Stays
  free_keeps None id reply g = still g.1
  free_keeps (Some h) id reply g = order_stays (FreeByOrder old.heap h (Ok g.freed) new.heap) old.heap.order new.heap.order g.ordered

  written_keeps : (position : Position) (bytes : List ℕ) (answer : Result Unit AccessFault) → IsWriteStep old.heap position bytes answer new.heap → Stays
  written_keeps position bytes (Ok u) step = ap (λ (h : HeapState). is_some h.order) step.whole
  written_keeps position bytes (Err e) step = ap (λ (h : HeapState). is_some h.order) step.1

  write_keeps : (o : Option ℕ) (at : ℕ) (bytes : List ℕ) (reply : Reply) → WritesAt o old at bytes reply new → Stays
  write_keeps None at bytes reply g = still g.1
  write_keeps (Some h) at bytes reply g = written_keeps (record { number = h; from = at }) bytes g.answer g.step

  resize_keeps : (o : Option ℕ) (bytes : ℕ) (reply : Reply) → ResizesAt o old bytes reply new → Stays
  resize_keeps None bytes reply g = still g.1
  resize_keeps (Some h) bytes reply g = order_stays (ResizeByOrder old.heap (record { number = h; length = bytes }) g.answer new.heap) old.heap.order
      new.heap.order g.ordered

  put_keeps : (c : Option ℕ) (k : ℕ) → new.heap ≡ with_bound old.heap c k → Stays
  put_keeps None k is = ap (λ (h : HeapState). is_some h.order) is
  put_keeps (Some c) k is = ap (λ (h : HeapState). is_some h.order) is

  pub step_keeps : (c : Command) (reply : Reply) → Step old c reply new → Stays
  step_keeps (Malloc id bytes) reply g = malloc_keeps (get old.session.ids id) (record { number = id; length = bytes }) reply g
  step_keeps (Free id) reply g = free_keeps (get old.session.ids id) id reply g
  step_keeps (Write id at bytes) reply g = write_keeps (get old.session.ids id) at bytes reply g
  step_keeps (Resize id bytes) reply g = resize_keeps (get old.session.ids id) bytes reply g
  step_keeps (Bound words k) reply g = put_keeps (class_to_bound old.heap words) k g.heap
  step_keeps _ reply g = still g.1

-- ---- many items

-- if the run has begun, it is in progress and its manager has an order
abbrev IsReady : Option RunState → Type 0
IsReady None = ⊤
IsReady (Some s) = IsGoing s × IsSome s.heap.order

ready_after : (old new : RunState) (c : Command) (reply : Reply) → IsReady (Some old) → Step old c reply new → IsReady (Some new)
ready_after old new c reply ready step = (step_going old new c reply ready.0 step, step_keeps old new c reply step ∙ ready.1)

module _ (kind : Kind) where
  abbrev AreSame : List Reply → Option RunState → List Reply → Option RunState → Type 0
  AreSame replies end others last = (others ≡ replies) × (last ≡ end)

  -- one item, after which the runs go on from one state
  item_once : (old : Option RunState) (i : Item) (reply other : Reply) (mid also : Option RunState) → BeginNone (i ∷ []) → IsReady old
      → ItemStep kind old i reply mid → ItemStep kind old i other also
      → (other ≡ reply) × (also ≡ mid) × IsReady mid
  item_once old (starts p) reply other mid also may ready g f = absurd may.0
  item_once None (asks c) reply other mid also may ready g f = (f.0 ∙ sym g.0, f.1 ∙ sym g.1, subst IsReady (sym g.1) tt)
  item_once (Some old) (asks c) reply other mid also may ready g f =
      let (s, turn, is) = g in
      let (t, turn', is') = f in
      let (same, state) = one_step old s t ready.1 ready.0.rules c reply other turn.step turn'.step in
      (same, is' ∙ ap Some state ∙ sym is, subst IsReady (sym is) (ready_after old s c reply ready turn.step))
  item_once old (bad n) reply other mid also may ready g f = (f.0 ∙ sym g.0, f.1 ∙ sym g.1, subst IsReady (sym g.1) ready)

  pub further_once : (old : Option RunState) (items : List Item) (replies others : List Reply) (end last : Option RunState) → BeginNone items → IsReady old
      → Run kind old items replies end → Run kind old items others last → AreSame replies end others last
  further_once old [] replies others end last may ready g f = (f.0 ∙ sym g.0, f.1 ∙ sym g.1)
  further_once old (i ∷ rest) replies others end last may ready g f =
      let (mid, reply, more, step, are, run) = g in
      let (mid', reply', more', step', are', run') = f in
      let (same, state, on) = item_once old i reply reply' mid mid' (may.0, tt) ready step step' in
      let (tail, final) = further_once mid rest more more' end last may.1 on run (subst (λ o. Run kind o rest more' last) state run') in
      (are' ∙ ap (λ r. r ∷ more') same ∙ ap (λ l. reply ∷ l) tail ∙ sym are, final)

  -- if the manager has an order after the items, it had one before them
  abbrev Before : Option RunState → Option RunState → Type 0
  Before old end = IsOrdered end → IsOrdered old

  item_before : (old : Option RunState) (i : Item) (reply : Reply) (mid : Option RunState) → BeginNone (i ∷ []) → ItemStep kind old i reply mid
      → Before old mid
  item_before old (starts p) reply mid may g = absurd may.0
  item_before None (asks c) reply mid may g = λ there. tt
  item_before (Some old) (asks c) reply mid may g =
      let (s, turn, is) = g in
      λ there. (let here : IsSome s.heap.order = subst IsOrdered is there in sym (step_keeps old s c reply turn.step) ∙ here)
  item_before old (bad n) reply mid may g = λ there. subst IsOrdered g.1 there

  ordered_before : (old : Option RunState) (items : List Item) (replies : List Reply) (end : Option RunState) → BeginNone items → Run kind old items replies end
      → Before old end
  ordered_before old [] replies end may g = λ there. subst IsOrdered g.1 there
  ordered_before old (i ∷ rest) replies end may g =
      let (mid, reply, more, step, are, run) = g in
      λ there. item_before old i reply mid (may.0, tt) step (ordered_before mid rest more end may.1 run there)

  -- two managers of this kind that begin with an order begin alike
  first_one : (p : Profile) (o : Option Order) → IsSome o → IsOpeningOrder kind p o → o ≡ Some (opening_order kind p)
  first_one p None some is = absurd (let e : false ≡ true = some in cc)
  first_one p (Some o) some is = ap Some is

  begun_once : (p : Profile) (new next : RunState) → IsSome new.heap.order → IsSome next.heap.order → Begins kind p new → Begins kind p next → next ≡ new
  begun_once p new next some also g f =
      let order : next.heap.order ≡ new.heap.order = first_one p next.heap.order also f.order ∙ sym (first_one p new.heap.order some g.order) in
      let words : next.heap.words ≡ new.heap.words = same_words new.heap next.heap some g.rules f.rules
      (ap (λ (h : HeapState). h.kind) f.heap ∙ sym (ap (λ (h : HeapState). h.kind) g.heap))
      (ap (λ (h : HeapState). h.profile) f.heap ∙ sym (ap (λ (h : HeapState). h.profile) g.heap))
      (ap (λ (h : HeapState). h.held) f.heap ∙ sym (ap (λ (h : HeapState). h.held) g.heap))
      (ap (λ (h : HeapState). h.tiling) f.heap ∙ sym (ap (λ (h : HeapState). h.tiling) g.heap)) order in
      let heap : next.heap ≡ new.heap = f.heap ∙ ap (λ w. ordered_heap kind p w next.heap.order) words ∙ ap (λ o. ordered_heap kind p new.heap.words o) order
      ∙ sym g.heap in
      run_is new next (f.session ∙ sym g.session) heap

  pub begun_alike : (items : List Item) (replies others : List Reply) (end last : Option RunState) → BeginOnce items
      → IsOrdered end → IsOrdered last → Run kind None items replies end → Run kind None items others last → AreSame replies end others last
  begun_alike [] replies others end last once some also g f = (f.0 ∙ sym g.0, f.1 ∙ sym g.1)
  begun_alike (starts p ∷ rest) replies others end last once some also g f =
      let (mid, reply, more, step, are, run) = g in
      let (mid', reply', more', step', are', run') = f in
      let (s, begun, is) = step in
      let (t, begun', is') = step' in
      let here : IsSome s.heap.order = subst IsOrdered is (ordered_before mid rest more end once run some) in
      let there : IsSome t.heap.order = subst IsOrdered is' (ordered_before mid' rest more' last once run' also) in
      let same : t ≡ s = begun_once p s t here there begun.0 begun'.0 in
      let state : mid' ≡ mid = is' ∙ ap Some same ∙ sym is in
      let ready : IsReady mid = subst IsReady (sym is) (begins_going kind p s begun.0, here) in
      let (tail, final) = further_once mid rest more more' end last once ready run (subst (λ o. Run kind o rest more' last) state run') in
      (are' ∙ ap (λ r. r ∷ more') (begun'.1 ∙ sym begun.1) ∙ ap (λ l. reply ∷ l) tail ∙ sym are, final)
  begun_alike (asks c ∷ rest) replies others end last once some also g f = further_once None (asks c ∷ rest) replies others end last (tt, once) tt g f
  begun_alike (bad n ∷ rest) replies others end last once some also g f = further_once None (bad n ∷ rest) replies others end last (tt, once) tt g f

-- ---- there is such a run

module _ (kind : Kind) where
  -- a manager that has an order before an item has one after it
  item_after : (old : Option RunState) (i : Item) (reply : Reply) (mid : Option RunState) → BeginNone (i ∷ []) → ItemStep kind old i reply mid → IsOrdered old
      → IsOrdered mid
  item_after old (starts p) reply mid may g here = absurd may.0
  item_after None (asks c) reply mid may g here = subst IsOrdered (sym g.1) tt
  item_after (Some old) (asks c) reply mid may g here = (let (s, turn, is) = g in subst IsOrdered (sym is) (step_keeps old s c reply turn.step ∙ here))
  item_after old (bad n) reply mid may g here = subst IsOrdered (sym g.1) here

  ordered_after : (old : Option RunState) (items : List Item) (replies : List Reply) (end : Option RunState) → BeginNone items → Run kind old items replies end
      → IsOrdered old → IsOrdered end
  ordered_after old [] replies end may g here = subst IsOrdered (sym g.1) here
  ordered_after old (i ∷ rest) replies end may g here =
      let (mid, reply, more, step, are, run) = g in
      ordered_after mid rest more end may.1 run (item_after old i reply mid (may.0, tt) step here)

  -- a manager opens with an order
  begun_ordered : (p : Profile) → AreInRange p → (s : RunState) × Begins kind p s × IsSome s.heap.order
  begun_ordered p ok =
      let first = ordered_there p ok opening_lists kind in (
        record { session = fresh_session; heap = ordered_heap kind p first.0 (Some (opening_order kind p)) },
        record { session = refl; words = first.1; order = refl; heap = refl; rules = first.2 },
        refl,
      )

  abbrev HasRun : Option RunState → List Item → Type 0
  HasRun old items = (replies : List Reply) × (end : Option RunState) × Run kind old items replies end × IsOrdered end

  run_from : (old : Option RunState) (items : List Item) → IsOn (BeginsOne kind) IsCommandStep (kind_goes_on kind) old → IsOrdered old → BeginNone items → AreValidItems items
      → HasRun old items
  run_from old items on here may can =
      let (replies, end, run) = run_there (BeginsOne kind) IsCommandStep (kind_goes_on kind) old items on can in
      (replies, end, run, ordered_after old items replies end may run here)

  ordered_run : (items : List Item) → BeginOnce items → AreValidItems items → HasRun None items
  ordered_run [] once can = ([], None, (refl, refl), tt)
  ordered_run (starts p ∷ rest) once can =
      let (s, begun, some) = begun_ordered p can.0 in
      let step : ItemStep kind None (starts p) (said (codes "ok")) (Some s) = (s, (begun, refl), refl) in
      let on = step_on (BeginsOne kind) IsCommandStep (kind_goes_on kind) None (starts p) (said (codes "ok")) (Some s) tt can.0 step in
      let (replies, end, run, ordered) = run_from (Some s) rest on some once can.1 in
      (said (codes "ok") ∷ replies, end, (Some s, said (codes "ok"), replies, step, refl, run), ordered)
  ordered_run (asks c ∷ rest) once can = run_from None (asks c ∷ rest) tt tt (tt, once) can
  ordered_run (bad n ∷ rest) once can = run_from None (bad n ∷ rest) tt tt (tt, once) can

-- ---- the items of a script

-- the reader is past the `heap` line
abbrev IsBehind : Stage → Type 0
IsBehind Opening = ⊥
IsBehind Bounding = ⊤
IsBehind Running = ⊤

module _ (n : ℕ) (after : Stage → List Item) (on : (stage : Stage) → IsBehind stage → BeginNone (after stage)) where
  asked_behind : (stage : Stage) (bounds : Bool) (c : Command) → IsBehind stage
      → BeginNone (items_by (gives_or_breaks (asks c) (stage_after_command stage bounds)) n stage after)
  asked_behind Opening bounds c behind = absurd behind
  asked_behind Bounding true c behind = (tt, on Bounding tt)
  asked_behind Bounding false c behind = (tt, on Running tt)
  asked_behind Running true c behind = (tt, tt)
  asked_behind Running false c behind = (tt, on Running tt)

  started_behind : (stage : Stage) (p : Profile) → IsBehind stage → BeginNone (items_by (verdict stage (item (starts p))) n stage after)
  started_behind Opening p behind = absurd behind
  started_behind Bounding p behind = (tt, tt)
  started_behind Running p behind = (tt, tt)

  line_behind : (stage : Stage) (says : LineMeaning) → IsBehind stage → BeginNone (items_by (verdict stage says) n stage after)
  line_behind stage nothing behind = on stage behind
  line_behind stage wrong behind = (tt, tt)
  line_behind stage (item (starts p)) behind = started_behind stage p behind
  line_behind stage (item (asks c)) behind = asked_behind stage (is_bound c) c behind
  line_behind stage (item (bad k)) behind = (tt, tt)

none_behind : (ls : List (List ℕ)) (n : ℕ) (stage : Stage) → IsBehind stage → BeginNone (items_at ls n stage)
none_behind [] n stage behind = tt
none_behind (line ∷ rest) n stage behind = line_behind n (items_at rest (n + 1)) (none_behind rest (n + 1)) stage (line_says line) behind

module _ (n : ℕ) (after : Stage → List Item) (on : (stage : Stage) → IsBehind stage → BeginNone (after stage)) (once : BeginOnce (after Opening)) where
  line_first : (says : LineMeaning) → BeginOnce (items_by (verdict Opening says) n Opening after)
  line_first nothing = once
  line_first wrong = tt
  line_first (item (starts p)) = on Bounding tt
  line_first (item (asks c)) = tt
  line_first (item (bad k)) = tt

once_from : (ls : List (List ℕ)) (n : ℕ) → BeginOnce (items_at ls n Opening)
once_from [] n = tt
once_from (line ∷ rest) n = line_first n (items_at rest (n + 1)) (none_behind rest (n + 1)) (once_from rest (n + 1)) (line_says line)

pub begins_once : (bytes : List ℕ) (ended : Bool) → BeginOnce (items bytes ended)
begins_once bytes ended = once_from (lines bytes ended) 0

-- every script has a run that ends with an order
pub run_in_order : (kind : Kind) (bytes : List ℕ) (ended : Bool)
    → (replies : List Reply) × (end : Option RunState) × Run kind None (items bytes ended) replies end × IsOrdered end
run_in_order kind bytes ended = ordered_run kind (items bytes ended) (begins_once bytes ended) (all_items_valid bytes ended)
