use Rattle.std.proofs.Common.{◌+◌, sym, subst}
use Rattle.std.specs.Prelude.{◌↔◌, All, IsTrue}
use Rattle.cf_base.specs.Settings.{profile_from}
use Rattle.cf_base.specs.declared.kind.Layout.{Layout}
use Rattle.page_model.specs.Paging.{IsPaging, paging_of}
use Rattle.sizing.specs.Certificates.{AreForResizes, IsCertificate}
use Rattle.sizing.specs.Checks.{HasFew, needs_of, with_pages}
use Rattle.sizing.specs.Demands.{KeepsToOne}
use Rattle.sizing.specs.Runs.{IsServed, ServesMallocsAcross, ServesResizesAcross}
use Rattle.plan_library.proofs.plan_is_certified.Goals as goal

pub returns-clause-spare : goal.returns-clause-spare
returns-clause-spare c = λ yes.
    subst (λ (l : Layout). ServesResizesAcross (with_pages (c.args.pages + 1) (paging_of (profile_from c.args.pages c.args.page_bytes 1 65536) l c.args.bounds.now))
    (KeepsToOne (needs_of c.args.modes.now))) c.slots_if.ensures (c.is_certified.ensures.spare yes)

pub returns-clause-exact : goal.returns-clause-exact
returns-clause-exact c = λ valid ok few.
    subst (λ (l : Layout). IsTrue c.is_certified.result ↔ IsCertificate (paging_of (profile_from c.args.pages c.args.page_bytes 1 65536) l c.args.bounds.now) (needs_of c.args.modes.now) c.args.points.now
    × (IsTrue c.args.resizes → AreForResizes (paging_of (profile_from c.args.pages c.args.page_bytes 1 65536) l c.args.bounds.now) (needs_of c.args.modes.now) c.args.points.now))
    c.slots_if.ensures
    (c.is_certified.ensures.exact valid
    (subst (λ (l : Layout). IsPaging (paging_of (profile_from c.args.pages c.args.page_bytes 1 65536) l c.args.bounds.now)) (sym c.slots_if.ensures) ok) few)

pub returns-clause-bounds : goal.returns-clause-bounds
returns-clause-bounds c = λ yes.
    subst (λ (l : Layout). IsPaging (paging_of (profile_from c.args.pages c.args.page_bytes 1 65536) l c.args.bounds.now) × All HasFew c.args.modes.now)
    c.slots_if.ensures (c.is_certified.ensures.bounds yes)

pub returns-clause-mallocs : goal.returns-clause-mallocs
returns-clause-mallocs c = λ yes.
    subst (λ (l : Layout). ServesMallocsAcross (paging_of (profile_from c.args.pages c.args.page_bytes 1 65536) l c.args.bounds.now)
    (KeepsToOne (needs_of c.args.modes.now))) c.slots_if.ensures (c.is_certified.ensures.mallocs yes)

pub returns-clause-resizes : goal.returns-clause-resizes
returns-clause-resizes c = λ yes moves.
    subst (λ (l : Layout). IsServed (paging_of (profile_from c.args.pages c.args.page_bytes 1 65536) l c.args.bounds.now)
    (KeepsToOne (needs_of c.args.modes.now))) c.slots_if.ensures (c.is_certified.ensures.resizes yes moves)
