use Rattle.std.proofs.Common.{◌≡◌, ◌*◌, ◌-◌, arith, ap, ◌∙◌}
use Rattle.std.specs.Prelude.{if◌then◌else◌, nat_eq}
use Rattle.page_model.specs.Arrangement.{used_pages}
use Rattle.paged_heap.specs.Layout.{held_in, paging_at}
use Rattle.paged_heap.proofs.FigureLemmas.{free_is, live_is, totals_same, used_is}
use Rattle.paged_heap.specs.Heap.{seen}
use Rattle.paged_heap.proofs.open_heap.OpenHeap.totals.Goals as goal

pub returns : goal.returns
returns g c =
    let h = seen g.A.Mapping.kind c.args.self.now in
    let f = free_is h c.requires.kept in let u = used_is h c.requires.kept in let v = c.free_pages-free.ensures.value in
    let used : h.settings.pages - c.free_pages-free.result ≡ used_pages (paging_at h) (held_in h) = omega arith in
    totals_same (paging_at h) (held_in h) c.live.result h.asked h.taken c.bytes_of.result (h.settings.pages - c.free_pages-free.result)
    c.free_pages-free.result c.largest.result
    (c.live.ensures.count ∙ live_is h c.requires.kept) c.requires.kept.asked_all c.requires.kept.taken_all
    (c.bytes_of.ensures ∙ ap (λ n. 8 * h.settings.page_words * n) used) used v
    (c.largest.ensures ∙ ap (λ n. if nat_eq n 0 then 0 else h.settings.page_words) v)
