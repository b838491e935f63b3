-- By hand, the contract of `Lendable::tightened` for `Held`: the address stays, and who owns the fields of a `Held` there owns the `Held`.
-- The proof steps through the compiled body; a comment in brackets lists what is owned at that point, in order.
-- The tokens are those of the call's lifetimes; here there are none.
use Rattle.std.proofs.Common.{List, [], ◌∷◌, ◌++◌, refl, sym, subst, Some}
use Rattle.std.proofs.raw_atomic.Walks.{proved_at, leaves}
use base.Logic.{SProp, emp}
use base.Fml.{ftrue}
use mir.Val.{Val}
use contract.Monad.{fact, fact_i}
use contract.Running.{tables}
use prog.Wp.{WpFn}
use types.Kit.{‵, raw, ◌⊛◌, prop, ◌$◌, ◌∵◌, !, qed, by, move, keep, split, fsplit, fjoin, use0, regoal}
use types.Run.{enter, fld, stop, of_opd, no_more, and_then, returns}
use types.ByLocal.{alloc_all, pass_all, free_all, look_at, get, get_in, sets}
use types.Part.{agg, sub, whole}
use denote.RattleType.{owns}
use denote.RawPtr.{block_ptr}
use denote.Signature.{plain, types_at}
use denote.Steps.{nothing, heard}
use denote.Triple.Walked.{Stays, walk_of, stay_dropped, Goes-dropped}
use Rattle.c_base.specs.Lending.{AreOf, IsFit}
use Rattle.c_base.specs.contracts.block.HeapBlock.{the_row as Block}
use Rattle.c_base.proofs.CallerLemmas.{fit_some, place_in, place_out, place_val}
use Rattle.held_heap.specs.LooseTag.{Fits, lending, loose_state_of}
use Rattle.held_heap.specs.Tlsf.{open_heap as T, rule}
use Rattle.tlsf_heap.specs.contracts.buckets.TlsfBuckets.{the_row as R}
use Rattle.tlsf_heap.specs.contracts.buckets.TlsfBucketsBuckets.TheImpl.{ghosts as B}
use Rattle.tlsf_heap.specs.contracts.heap.TlsfBucketsFitPolicy.TheImpl.{ghosts as P}
use Rattle.held_heap.specs.contracts.loose_tag.HeldTlsfHeapLendableLooseTag.tightened as f
use Rattle.held_heap.proofs.LoosenTag.{S, tighten}
use Rattle.held_heap.proofs.loose_tag.HeldTlsfHeapLendableLooseTag.tightened.Statement.{statement}
use Rattle.held_heap.proofs.loose_tag.HeldTlsfHeapLendableLooseTag.tightened.Code as code

abbrev stayed : Stays f.ended.signature.params f.ended.kept
stayed = (stay_dropped (plain (λ _. Block S)) f.ended.kept.0, tt)

pub tightened_spec : {M : Type 1} → statement M
tightened_spec 𝓤 𝓛 𝓜 𝓡 wired =
    let c = f.clauses 𝓛 𝓜.mem 𝓡.returns in let W = walk_of 𝓛 f.ended stayed c in let 𝓣 = tables 𝓤 𝓛.H 𝓜 𝓡 𝓡.env in
    proved_at 𝓛 f.ended stayed c 𝓜 𝓡 (Goes-dropped 𝓛 0 (plain (λ _. Block S)) f.ended.kept.0 (λ κs x w. refl), tt)
    f.Key.name code.function (code.unfolded 𝓤 𝓛.H 𝓜 𝓡 wired) (λ y are.
    let Post : Val → SProp 𝓤 = W.post y in let p = y.0.3.0 in
    qed 𝓛 ((‵ ftrue ⊛ ‵ (owns (types_at f.signature.params y.0.0) y.0.3 y.0.4)) ∷ raw (fact 𝓤 (IsFit (lending rule) p.held)) ∷ []) ∵ move ! (1 ∷ []) $ heard ! (IsFit (lending rule) p.held) (λ fit.
    split ! $ move ! (1 ∷ []) $ fsplit ! $ place_out S ! p y.0.4.0 (fit_some (lending rule) p.held fit) (λ a held b o e is.
    let fits : Fits rule a = subst (IsFit (lending rule)) held fit in let x = loose_state_of rule.kind a in
    fsplit ! $ tighten R P B ! a b o fits $
    -- [the `Held`; the right to free its block; nothing; the tokens]
    fjoin ! $ regoal ! (λ (us : List Val). prop (WpFn 𝓤 𝓛.H 𝓣.C 𝓣.Λ code.function us Post)) (λ i. is i ++ []) refl $
    enter ! 𝓣.C 𝓣.Λ code.function (place_val (block_ptr b o) ∷ []) Post $ alloc_all ! (λ l. pass_all ! refl ((tt, (tt, tt)), tt) $
    sets ! (of_opd ! (get_in ! (fld ! refl (stop !)) (sub ! 0 refl (whole !)))) refl (tt, tt) $
    sets ! (of_opd ! (get ! refl)) refl (tt, tt) $
    sets ! (agg ! (and_then ! (get ! refl) (no_more !))) refl (tt, (tt, tt)) $
    returns ! (look_at ! 0 refl) $ free_all ! refl $
    place_in T ! (block_ptr b o) (Some x) $
    use0 𝓛 (raw (fact 𝓤 (AreOf (lending rule) p.held (Some x)))) (fact_i 𝓤 _ (emp 𝓤) (subst (λ h. AreOf (lending rule) h (Some x)) (sym held) (record { fit = fits; shown = refl }))) $ nothing ! $ nothing ! $ fjoin ! $
    -- [what is left of the parameter; the clause; the block; nothing; the tokens]
    keep ! (4 ∷ 0 ∷ 2 ∷ 1 ∷ []) $
    by ! (leaves 𝓛 f.ended stayed c y (place_val (block_ptr b o)) (record { at = block_ptr b o; held = Some x }) (tt, tt) (tt, tt))))))
