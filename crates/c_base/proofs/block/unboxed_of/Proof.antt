-- By hand, the contract of `unboxed_of`: it takes the address out of the `HeapBlock`, and the result owns the block there.
-- The proof steps through the compiled body; a comment in brackets lists what is owned at that point, in order.
-- The tokens are those of the call's lifetimes, here one for T.
use Rattle.std.proofs.Common.{◌≡◌, List, [], ◌∷◌, ◌++◌, refl, Some, IsSome}
use Rattle.std.proofs.raw_atomic.Walks.{proved_at, leaves}
use base.Logic.{SProp, emp, id⊢}
use base.Fml.{ftrue, flft}
use mir.MapTy.{inst_fn}
use mir.Syntax.{a_type}
use mir.Val.{Val}
use contract.BorrowLft.{◌⊑◌}
use contract.Monad.{fact, fact_i}
use contract.Running.{tables}
use prog.Wp.{WpFn}
use types.Kit.{‵, raw, ◌⊛◌, prop, ◌$◌, ◌∵◌, !, qed, by, move, keep, drop, split, fsplit, fjoin, use0, use1, regoal}
use types.Run.{enter, fld, stop, of_opd, no_more, and_then, returns}
use types.ByLocal.{alloc_all, pass_all, free_all, look_at, get, get_in, sets}
use types.Part.{agg, sub, whole}
use denote.Exit.{no}
use denote.Param.{layouts, param}
use denote.RattleType.{owns}
use denote.RawPtr.{block_ptr}
use denote.Signature.{plain, types_at}
use denote.Steps.{nothing, heard}
use denote.Triple.Walked.{Stays, walk_of, stay_dropped, Goes-dropped}
use Rattle.core.proofs.alloc.Calls.{Goes-blank, handle_tells}
use Rattle.std.specs.contracts.alloc.Global.{the_row as Z}
use Rattle.std.proofs.alloc.Global.TheLaws.{the_row_laws as LZ}
use Rattle.std.specs.contracts.prelude.GlobalAllocator.TheImpl.{ghosts}
use Rattle.c_base.specs.contracts.block.HeapBlock.{the_row as P}
use Rattle.c_base.proofs.Parts.{allocator_of, parts, parts_fit, put_together}
use Rattle.c_base.proofs.Blocks.{place_val, place_out}
use Rattle.c_base.specs.contracts.block.unboxed_of as f
use Rattle.c_base.proofs.block.unboxed_of.Statement.{statement}
use Rattle.c_base.proofs.block.unboxed_of.Code as code

pub unboxed_of_spec : {M : Type 1} → statement M
unboxed_of_spec 𝓤 𝓛 𝓜 𝓡 wired T L =
    let c = f.clauses T 𝓛 𝓜.mem 𝓡.returns in let 𝓣 = tables 𝓤 𝓛.H 𝓜 𝓡 𝓡.env in let ended = f.ended T in
    let R = param 0 T in let given = layouts (a_type ∷ []) (T, tt) in let fn = inst_fn given code.function in
    let stayed : Stays ended.signature.params ended.kept = (stay_dropped (plain (λ _. P R)) no, (stay_dropped (plain (λ _. Z)) ended.kept.1.0, tt)) in
    proved_at 𝓛 ended stayed c 𝓜 𝓡 (Goes-blank 𝓛 1 (plain (λ _. P R)) no (λ κs x w. tt), (Goes-dropped 𝓛 1 (plain (λ _. Z)) ended.kept.1.0 (λ κs x w. refl), tt))
    (f.Key.name given) fn (code.unfolded 𝓤 𝓛.H 𝓜 𝓡 wired (T, tt)) (λ y are.
    let Post : Val → SProp 𝓤 = (walk_of 𝓛 ended stayed c).post y in let p = y.0.3.0 in let a = y.0.3.1.0 in
    let tokens = ‵ (flft y.0.0.0 y.0.1.0) ⊛ ‵ ftrue in
    qed 𝓛 ((tokens ⊛ ‵ (owns (types_at ended.signature.params y.0.0) y.0.3 y.0.4)) ∷ raw ((c y.0.0 y.0.3).requires y.1) ∷ []) ∵ move ! (1 ∷ []) $
    use1 𝓛 (raw (fact 𝓤 (y.0.0.0 ⊑ T.lives)) ⊛ raw (fact 𝓤 (IsSome p.held))) (id⊢ 𝓤 _) $ split ! $ drop ! $ heard ! (IsSome p.held) (λ some.
    split ! $ move ! (1 ∷ []) $ fsplit ! $ move ! (1 ∷ []) $ fsplit ! $ handle_tells (allocator_of Z LZ ghosts) ! a y.0.4.1.0 (λ h first good. move ! (2 ∷ []) $
    place_out R ! p y.0.4.0 some (λ x held b o e is.
    -- [the heap in its block; the allocator; nothing; the tokens]
    regoal ! (λ (us : List Val). prop (WpFn 𝓤 𝓛.H 𝓣.C 𝓣.Λ fn us Post)) (λ i. is i ++ (first i ++ [])) refl $
    enter ! 𝓣.C 𝓣.Λ fn (place_val (block_ptr b o) ∷ h ∷ []) Post $ alloc_all ! (λ l. pass_all ! refl ((tt, (tt, tt)), (good, tt)) $
    sets ! (of_opd ! (get_in ! (fld ! refl (stop !)) (sub ! 0 refl (whole !)))) refl (tt, tt) $
    sets ! (agg ! (and_then ! (get ! refl) (and_then ! (get ! refl) (no_more !)))) refl (parts_fit R Z LZ ghosts h b o good) $
    returns ! (look_at ! 0 refl) $ free_all ! refl $
    put_together R Z LZ ghosts ! h b o a x $
    use0 𝓛 (raw (fact 𝓤 (p.held ≡ Some x))) (fact_i 𝓤 _ (emp 𝓤) held) $ nothing ! $ nothing ! $ fjoin ! $ nothing ! $ fjoin ! $
    -- [what is left of the parameters; the clause; the unboxed heap; nothing; the tokens]
    keep ! (4 ∷ 0 ∷ 2 ∷ 1 ∷ []) $
    by ! (leaves 𝓛 ended stayed c y (parts h b o) (record { alloc = a; at = block_ptr b o; value = x }) (tt, (tt, tt)) (tt, (tt, tt))))))))
