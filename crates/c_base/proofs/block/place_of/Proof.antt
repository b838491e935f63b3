-- By hand, the contract of `place_of`: it keeps the address, and the `HeapBlock` owns the block there.
-- The proof steps through the compiled body; a comment in brackets lists what is owned at that point, in order.
-- The tokens are those of the call's lifetimes, here one for T.
use Rattle.std.proofs.Common.{◌≡◌, List, [], ◌∷◌, ◌++◌, refl, Some}
use Rattle.std.proofs.raw_atomic.Walks.{proved_at, leaves}
use base.Logic.{SProp, emp}
use base.Fml.{ftrue, flft}
use mir.MapTy.{inst_fn}
use mir.Syntax.{a_type}
use mir.Val.{Val}
use contract.Monad.{fact, fact_i}
use contract.Running.{tables}
use prog.Wp.{WpFn}
use types.Kit.{‵, raw, ◌⊛◌, prop, ◌$◌, ◌∵◌, !, qed, by, move, keep, split, fsplit, fjoin, use0, regoal}
use types.Run.{enter, fld, stop, of_opd, no_more, and_then, returns}
use types.ByLocal.{alloc_all, pass_all, free_all, look_at, get, get_in, sets}
use types.Part.{agg, sub, whole}
use denote.Exit.{no}
use denote.Param.{layouts, param}
use denote.RattleType.{owns}
use denote.RawPtr.{block_ptr}
use denote.Signature.{plain, types_at}
use denote.Steps.{nothing}
use denote.Triple.Walked.{Stays, walk_of, stay_dropped}
use Rattle.core.proofs.alloc.Calls.{Goes-blank}
use Rattle.std.specs.contracts.alloc.Global.{the_row as Z}
use Rattle.std.proofs.alloc.Global.TheLaws.{the_row_laws as LZ}
use Rattle.std.specs.contracts.prelude.GlobalAllocator.TheImpl.{ghosts}
use Rattle.c_base.proofs.Parts.{U, parts, parts_fit, take_apart}
use Rattle.c_base.proofs.Blocks.{place_val, place_in}
use Rattle.c_base.specs.contracts.block.place_of as f
use Rattle.c_base.proofs.block.place_of.Statement.{statement}
use Rattle.c_base.proofs.block.place_of.Code as code

pub place_of_spec : {M : Type 1} → statement M
place_of_spec 𝓤 𝓛 𝓜 𝓡 wired T L =
    let c = f.clauses T 𝓛 𝓜.mem 𝓡.returns in let 𝓣 = tables 𝓤 𝓛.H 𝓜 𝓡 𝓡.env in let ended = f.ended T in
    let R = param 0 T in let given = layouts (a_type ∷ []) (T, tt) in let fn = inst_fn given code.function in
    let stayed : Stays ended.signature.params ended.kept = (stay_dropped (plain (λ _. U R Z LZ ghosts)) no, tt) in
    proved_at 𝓛 ended stayed c 𝓜 𝓡 (Goes-blank 𝓛 1 (plain (λ _. U R Z LZ ghosts)) no (λ κs x w. tt), tt)
    (f.Key.name given) fn (code.unfolded 𝓤 𝓛.H 𝓜 𝓡 wired (T, tt)) (λ y are.
    let Post : Val → SProp 𝓤 = (walk_of 𝓛 ended stayed c).post y in let u = y.0.3.0 in
    let tokens = ‵ (flft y.0.0.0 y.0.1.0) ⊛ ‵ ftrue in
    qed 𝓛 ((tokens ⊛ ‵ (owns (types_at ended.signature.params y.0.0) y.0.3 y.0.4)) ∷ raw ((c y.0.0 y.0.3).requires y.1) ∷ []) ∵ split ! $ move ! (1 ∷ []) $ fsplit ! $
    take_apart R Z LZ ghosts ! u y.0.4.0 (λ h b o e is good.
    -- [the heap in its block; the allocator; nothing; the tokens; what is required]
    regoal ! (λ (us : List Val). prop (WpFn 𝓤 𝓛.H 𝓣.C 𝓣.Λ fn us Post)) (λ i. is i ++ []) refl $
    enter ! 𝓣.C 𝓣.Λ fn (parts h b o ∷ []) Post $ alloc_all ! (λ l. pass_all ! refl (parts_fit R Z LZ ghosts h b o good, tt) $
    sets ! (of_opd ! (get_in ! (fld ! refl (stop !)) (sub ! 1 refl (whole !)))) refl (tt, tt) $
    sets ! (agg ! (and_then ! (get ! refl) (no_more !))) refl (tt, (tt, tt)) $
    returns ! (look_at ! 0 refl) $ free_all ! refl $
    place_in R ! (block_ptr b o) (Some u.value) $
    use0 𝓛 (raw (fact 𝓤 (Some u.value ≡ Some u.value))) (fact_i 𝓤 _ (emp 𝓤) refl) $ nothing ! $ nothing ! $ fjoin ! $
    -- [what is left of the parameter; the clause; the `HeapBlock`; the allocator; nothing; the tokens; what is required]
    keep ! (5 ∷ 0 ∷ 2 ∷ 1 ∷ []) $
    by ! (leaves 𝓛 ended stayed c y (place_val (block_ptr b o)) (record { at = block_ptr b o; held = Some u.value }) (tt, tt) (tt, tt)))))
