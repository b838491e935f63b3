use Rattle.cf_base.specs.declared.kind.Layout.TheVariants.{Words}
use Rattle.page_model.specs.Paging.{paging_of}
use Rattle.heap_image.proofs.LivesLemmas.{lives_have_image, lives_image, needed_within, room_of}
use Rattle.heap_image.proofs.laws.live_objects_have_an_image.Goals as goal

pub returns-clause-pages : goal.returns-clause-pages
returns-clause-pages c = λ p bounds m paging sound. needed_within p bounds m (c.objects_need_no_more_pages.ensures (paging_of p Words bounds) m paging sound)
    (c.pages_and_objects_add_up.ensures.pages (paging_of p Words bounds) m sound)

pub returns-clause-lives : goal.returns-clause-lives
returns-clause-lives c = λ s going ids moving.
    let h = lives_have_image s going ids moving (room_of s going moving c.objects_need_no_more_pages.ensures c.pages_and_objects_add_up.ensures.pages) in
    (h, lives_image s h)
