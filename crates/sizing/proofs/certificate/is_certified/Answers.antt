use Rattle.std.proofs.Common.{◌∙◌, ap, arith, length, refl, subst, sym}
use Rattle.std.specs.Prelude.{◌↔◌, IsTrue}
use Rattle.std.proofs.lemmas.Bool.{false≢true}
use Rattle.cf_base.specs.Settings.{Profile, profile_from, profile_of}
use Rattle.page_model.specs.Paging.{IsPaging, paging_of}
use Rattle.sizing.specs.Certificates.{AreForResizes, IsCertificate}
use Rattle.sizing.specs.Checks.{needs_of}
use Rattle.sizing.proofs.CheckedPoints.{paging_is, paging_right, resizes_with_more}
use Rattle.sizing.proofs.ModePages.{certified_mallocs, certified_resizes}
use Rattle.sizing.proofs.certificate.is_certified.Goals as goal

pub returns-then-not-has_bounds-clause-exact : goal.returns-then-not-has_bounds-clause-exact
returns-then-not-has_bounds-clause-exact c = λ set there few. (
  λ no. absurd (false≢true no),
  λ sure. (
      let ok = subst (λ (q : Profile). IsPaging (paging_of q c.args.layout c.args.bounds.now)) (sym c.in-Ok.ensures.value) there in
      c.if-not-has_bounds.ensures.1 (
        (let long = ap length c.fill_sizes-classes.ensures.sizes in let same = ok.bounded in omega arith),
        λ k lt. ok.some k (let same = ok.bounded in omega arith),
      )),
)

pub are_certificate-requires-clause-heap : goal.are_certificate-requires-clause-heap
are_certificate-requires-clause-heap c = subst IsPaging (sym (paging_is (profile_of c.in-Ok.s) c.args.layout c.args.bounds.now _ c.fill_sizes-classes.ensures.sizes))
    (paging_right (profile_of c.in-Ok.s) c.args.layout c.args.bounds.now _ c.in-Ok.s.page_size c.fill_sizes-classes.ensures.sizes (c.if-not-has_bounds.ensures.0 refl))

pub returns-clause-bounds : goal.returns-clause-bounds
returns-clause-bounds c = λ yes. (
  subst (λ (q : Profile). IsPaging (paging_of q c.args.layout c.args.bounds.now)) c.in-Ok.ensures.value
      (paging_right (profile_of c.in-Ok.s) c.args.layout c.args.bounds.now _ c.in-Ok.s.page_size c.fill_sizes-classes.ensures.sizes (c.if-not-has_bounds.ensures.0 refl)),
  c.if-not-have_few.ensures.0 refl,
)

pub returns-clause-exact : goal.returns-clause-exact
returns-clause-exact c = λ set ok few. subst (λ p. IsTrue c.are_certificate.result ↔ IsCertificate p (needs_of c.args.modes.now) c.args.points.now
    × (IsTrue c.args.resizes → AreForResizes p (needs_of c.args.modes.now) c.args.points.now))
    (paging_is (profile_of c.in-Ok.s) c.args.layout c.args.bounds.now _ c.fill_sizes-classes.ensures.sizes
    ∙ ap (λ (q : Profile). paging_of q c.args.layout c.args.bounds.now) c.in-Ok.ensures.value) c.are_certificate.ensures

pub returns-clause-mallocs : goal.returns-clause-mallocs
returns-clause-mallocs c = λ yes. (
    let right = subst (λ (q : Profile). IsPaging (paging_of q c.args.layout c.args.bounds.now)) c.in-Ok.ensures.value
    (paging_right (profile_of c.in-Ok.s) c.args.layout c.args.bounds.now _ c.in-Ok.s.page_size c.fill_sizes-classes.ensures.sizes (c.if-not-has_bounds.ensures.0 refl)) in
    let sure = subst (λ p. IsCertificate p (needs_of c.args.modes.now) c.args.points.now
    × (IsTrue c.args.resizes → AreForResizes p (needs_of c.args.modes.now) c.args.points.now))
    (paging_is (profile_of c.in-Ok.s) c.args.layout c.args.bounds.now _ c.fill_sizes-classes.ensures.sizes
    ∙ ap (λ (q : Profile). paging_of q c.args.layout c.args.bounds.now) c.in-Ok.ensures.value) (c.are_certificate.ensures.0 yes) in
    certified_mallocs (paging_of (profile_from c.args.pages c.args.page_bytes 1 65536) c.args.layout c.args.bounds.now) right (needs_of c.args.modes.now) c.args.points.now sure.0)

pub returns-clause-spare : goal.returns-clause-spare
returns-clause-spare c = λ yes. (
    let right = subst (λ (q : Profile). IsPaging (paging_of q c.args.layout c.args.bounds.now)) c.in-Ok.ensures.value
    (paging_right (profile_of c.in-Ok.s) c.args.layout c.args.bounds.now _ c.in-Ok.s.page_size c.fill_sizes-classes.ensures.sizes (c.if-not-has_bounds.ensures.0 refl)) in
    let sure = subst (λ p. IsCertificate p (needs_of c.args.modes.now) c.args.points.now
    × (IsTrue c.args.resizes → AreForResizes p (needs_of c.args.modes.now) c.args.points.now))
    (paging_is (profile_of c.in-Ok.s) c.args.layout c.args.bounds.now _ c.fill_sizes-classes.ensures.sizes
    ∙ ap (λ (q : Profile). paging_of q c.args.layout c.args.bounds.now) c.in-Ok.ensures.value) (c.are_certificate.ensures.0 yes) in
    resizes_with_more (paging_of (profile_from c.args.pages c.args.page_bytes 1 65536) c.args.layout c.args.bounds.now) (needs_of c.args.modes.now) c.args.points.now right sure.0)

pub returns-clause-resizes : goal.returns-clause-resizes
returns-clause-resizes c = λ yes resizes. (
    let right = subst (λ (q : Profile). IsPaging (paging_of q c.args.layout c.args.bounds.now)) c.in-Ok.ensures.value
    (paging_right (profile_of c.in-Ok.s) c.args.layout c.args.bounds.now _ c.in-Ok.s.page_size c.fill_sizes-classes.ensures.sizes (c.if-not-has_bounds.ensures.0 refl)) in
    let sure = subst (λ p. IsCertificate p (needs_of c.args.modes.now) c.args.points.now
    × (IsTrue c.args.resizes → AreForResizes p (needs_of c.args.modes.now) c.args.points.now))
    (paging_is (profile_of c.in-Ok.s) c.args.layout c.args.bounds.now _ c.fill_sizes-classes.ensures.sizes
    ∙ ap (λ (q : Profile). paging_of q c.args.layout c.args.bounds.now) c.in-Ok.ensures.value) (c.are_certificate.ensures.0 yes) in
    certified_resizes (paging_of (profile_from c.args.pages c.args.page_bytes 1 65536) c.args.layout c.args.bounds.now) right (needs_of c.args.modes.now) c.args.points.now sure.0 (sure.1 resizes))
