-- By hand, the contract of `Lendable::loosened` for `Held`: the address stays, and who owns a `Held` there owns its fields.
-- The proof steps through the compiled body; a comment in brackets lists what is owned at that point, in order.
-- The tokens are those of the call's lifetimes; here there are none.
use Rattle.std.proofs.Common.{List, [], ◌∷◌, ◌++◌, refl, sym, subst, Some, IsSome}
use Rattle.std.proofs.raw_atomic.Walks.{proved_at, leaves}
use base.Logic.{SProp, emp}
use base.Fml.{ftrue}
use mir.Val.{Val}
use contract.Monad.{fact, fact_i}
use contract.Running.{tables}
use prog.Wp.{WpFn}
use types.Kit.{‵, raw, ◌⊛◌, prop, ◌$◌, ◌∵◌, !, qed, by, move, keep, split, fsplit, fjoin, use0, regoal}
use types.Run.{enter, fld, stop, of_opd, no_more, and_then, returns}
use types.ByLocal.{alloc_all, pass_all, free_all, look_at, get, get_in, sets}
use types.Part.{agg, sub, whole}
use denote.RattleType.{owns}
use denote.RawPtr.{block_ptr}
use denote.Signature.{plain, types_at}
use denote.Steps.{nothing, heard}
use denote.Triple.Walked.{Stays, walk_of, stay_dropped, Goes-dropped}
use Rattle.c_base.specs.Lending.{AreOf}
use Rattle.c_base.specs.contracts.block.HeapBlock.{the_row as P}
use Rattle.c_base.proofs.CallerLemmas.{place_in, place_out, place_val}
use Rattle.norphuen_sliced.specs.Loose.{sliced_lending}
use Rattle.norphuen_sliced.specs.Sliced.{open_sliced as T}
use Rattle.norphuen_sliced.specs.contracts.loose.HeldLendableLooseHeld.loosened as f
use Rattle.norphuen_sliced.proofs.Loosen.{S, loosen}
use Rattle.norphuen_sliced.proofs.loose.HeldLendableLooseHeld.loosened.Statement.{statement}
use Rattle.norphuen_sliced.proofs.loose.HeldLendableLooseHeld.loosened.Code as code

abbrev stayed : Stays f.ended.signature.params f.ended.kept
stayed = (stay_dropped (plain (λ _. P T)) f.ended.kept.0, tt)

pub loosened_spec : {M : Type 1} → statement M
loosened_spec 𝓤 𝓛 𝓜 𝓡 wired =
    let c = f.clauses 𝓛 𝓜.mem 𝓡.returns in let W = walk_of 𝓛 f.ended stayed c in let 𝓣 = tables 𝓤 𝓛.H 𝓜 𝓡 𝓡.env in
    proved_at 𝓛 f.ended stayed c 𝓜 𝓡 (Goes-dropped 𝓛 0 (plain (λ _. P T)) f.ended.kept.0 (λ κs x w. refl), tt)
    f.Key.name code.function (code.unfolded 𝓤 𝓛.H 𝓜 𝓡 wired) (λ y are.
    let Post : Val → SProp 𝓤 = W.post y in let p = y.0.3.0 in
    qed 𝓛 ((‵ ftrue ⊛ ‵ (owns (types_at f.signature.params y.0.0) y.0.3 y.0.4)) ∷ raw (fact 𝓤 (IsSome p.held)) ∷ []) ∵ move ! (1 ∷ []) $ heard ! (IsSome p.held) (λ some.
    split ! $ move ! (1 ∷ []) $ fsplit ! $ place_out T ! p y.0.4.0 some (λ x held b o e is. fsplit ! $ loosen ! x b o (λ a of.
    -- [the fields; the right to free their block; nothing; the tokens]
    fjoin ! $ regoal ! (λ (us : List Val). prop (WpFn 𝓤 𝓛.H 𝓣.C 𝓣.Λ code.function us Post)) (λ i. is i ++ []) refl $
    enter ! 𝓣.C 𝓣.Λ code.function (place_val (block_ptr b o) ∷ []) Post $ alloc_all ! (λ l. pass_all ! refl ((tt, (tt, tt)), tt) $
    sets ! (of_opd ! (get_in ! (fld ! refl (stop !)) (sub ! 0 refl (whole !)))) refl (tt, tt) $
    sets ! (of_opd ! (get ! refl)) refl (tt, tt) $
    sets ! (agg ! (and_then ! (get ! refl) (no_more !))) refl (tt, (tt, tt)) $
    returns ! (look_at ! 0 refl) $ free_all ! refl $
    place_in S ! (block_ptr b o) (Some a) $
    use0 𝓛 (raw (fact 𝓤 (AreOf sliced_lending (Some a) p.held))) (fact_i 𝓤 _ (emp 𝓤) (subst (AreOf sliced_lending (Some a)) (sym held) of)) $ nothing ! $ nothing ! $ fjoin ! $
    -- [what is left of the parameter; the clause; the block; nothing; the tokens]
    keep ! (4 ∷ 0 ∷ 2 ∷ 1 ∷ []) $
    by ! (leaves 𝓛 f.ended stayed c y (place_val (block_ptr b o)) (record { at = block_ptr b o; held = Some a }) (tt, tt) (tt, tt)))))))
