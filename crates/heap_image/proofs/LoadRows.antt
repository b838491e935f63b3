-- For callers of `load`: what its clause `loads` claims if the source is observable and had the bytes `all`, and over any source, for some bytes that may
-- follow those taken.
use Rattle.std.proofs.Common.{◌≡◌, ◌∙◌, ◌++◌, ℕ, List, [], Option, Some, None, refl, ap, sym, subst}
use Rattle.std.specs.Prelude.{Result}
use Rattle.cf_base.specs.declared.settings.Settings.{Settings}
use Rattle.cf_io.specs.Feeds.{preceded, MayFollow}
use Rattle.id_table.specs.Sessions.{RunState}
use Rattle.cf_io.proofs.CallerLemmas.{nothing_may_follow}
use Rattle.heap_image.specs.Feed.{Feed}
use Rattle.heap_image.specs.Load.{IsLoaded, LoadsBy}
use Rattle.heap_image.specs.declared.fault.LoadFault.{LoadFault}

module _ (from to : RunState) (had left : Feed) (result : Result Settings LoadFault) (q : LoadsBy from had result left to) where
  pub observed_load : (all : List ℕ) → had.rest ≡ Some all → (more : List ℕ) × (all ≡ q.taken ++ more) × IsLoaded from q.taken more result to
  observed_load all is = go left.rest refl
    where
      go : (o : Option (List ℕ)) → o ≡ left.rest → (more : List ℕ) × (all ≡ q.taken ++ more) × IsLoaded from q.taken more result to
      go None e =
          let z : Some all ≡ None = sym is ∙ q.took.first ∙ ap (preceded q.taken) (sym e) in
          absurd cc
      go (Some more) e =
          let z : Some all ≡ Some (q.taken ++ more) = sym is ∙ q.took.first ∙ ap (preceded q.taken) (sym e) in
          let same : all ≡ q.taken ++ more = cc in
          (more, same, q.row more (subst (λ (o : Option (List ℕ)). MayFollow o q.ended more) e refl))

  pub some_load : (more : List ℕ) × IsLoaded from q.taken more result to
  some_load = go left.rest refl
    where
      go : (o : Option (List ℕ)) → o ≡ left.rest → (more : List ℕ) × IsLoaded from q.taken more result to
      go None e = ([], q.row [] (subst (λ (o : Option (List ℕ)). MayFollow o q.ended []) e (nothing_may_follow q.ended)))
      go (Some more) e = (more, q.row more (subst (λ (o : Option (List ℕ)). MayFollow o q.ended more) e refl))
