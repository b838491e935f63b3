use Rattle.std.proofs.Common.{refl, subst, ◌∙◌, sym}
use Rattle.std.specs.Prelude.{IsTrue}
use Rattle.std.proofs.lemmas.Bool.{false≢true}
use Rattle.page_model.specs.Steps.{MustMove}
use Rattle.slice_model.specs.State.{placeholder}
use Rattle.sliced_heap.specs.Heap.{sliced_seen}
use Rattle.sliced_heap.specs.Layout.{sliced_paging}
use Rattle.sliced_heap.proofs.FillLemmas.{all_are, filled_valid, from_within, is_filled, must_is, number_live, page_within}
use Rattle.sliced_heap.proofs.open_heap.OpenHeap.fill.Goals as goal

pub must_move-requires-clause-page : goal.must_move-requires-clause-page
must_move-requires-clause-page c = page_within (sliced_seen c.args.self.now) c.requires.kept c.args.k c.requires.job

pub start_move-requires-clause-within : goal.start_move-requires-clause-within
start_move-requires-clause-within c =
    let h = sliced_seen c.args.self.now in
    let t = c.must_move.ensures.value.0 c.if-must_move.true in
    from_within h c.requires.kept c.args.k c.requires.job ((must_is h c.requires.kept c.args.k c.requires.job).0 t)

pub start_move-requires-clause-live : goal.start_move-requires-clause-live
start_move-requires-clause-live c =
    let h = sliced_seen c.args.self.now in
    let t = c.must_move.ensures.value.0 c.if-must_move.true in
    number_live h c.requires.kept c.args.k c.requires.job ((must_is h c.requires.kept c.args.k c.requires.job).0 t)

pub returns-then-must_move-clause-filled : goal.returns-then-must_move-clause-filled
returns-then-must_move-clause-filled c =
    let h = sliced_seen c.args.self.now in
    let t = c.must_move.ensures.value.0 c.if-must_move.true in
    let b = c.start_move.ensures.begun in
    is_filled h c.requires.kept c.args.k c.requires.job ((must_is h c.requires.kept c.args.k c.requires.job).0 t) b.from b.filler c.requires.fresh
    (sliced_seen c.start_move.new.self) b.handles b.free b.whole

pub returns-then-must_move-clause-kept : goal.returns-then-must_move-clause-kept
returns-then-must_move-clause-kept c =
    let h = sliced_seen c.args.self.now in
    let t = c.must_move.ensures.value.0 c.if-must_move.true in
    let b = c.start_move.ensures.begun in
    filled_valid h c.requires.kept c.args.k c.requires.job ((must_is h c.requires.kept c.args.k c.requires.job).0 t) b.from b.filler c.requires.fresh
    (sliced_seen c.start_move.new.self) b.handles b.free b.whole

pub returns-clause-filled : goal.returns-clause-filled
returns-clause-filled c =
    let h = sliced_seen c.args.self.now in
    let p = must_is h c.requires.kept c.args.k c.requires.job in
    record {
      stays = λ must.
          let must' : MustMove (sliced_paging h) _ (placeholder (sliced_paging h) c.args.k) =
          subst (λ o. MustMove (sliced_paging h) o (placeholder (sliced_paging h) c.args.k)) (all_are h c.requires.kept c.args.k c.requires.job) must in
          let t : IsTrue c.must_move.result = c.must_move.ensures.value.1 (p.1 must') in
          false≢true (sym c.if-must_move.false ∙ t);
      same = refl;
    }
