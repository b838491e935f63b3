-- By hand, the contract of `joined`: the loan is ended, and the result owns the block with the heap's fields.
-- The proof steps through the compiled body; a comment in brackets lists what is owned at that point, in order.
-- The tokens are those of the call's lifetimes, one for T and one for S.
use Rattle.std.proofs.Common.{◌≡◌, List, [], ◌∷◌, ◌++◌, refl, sym, ◌∙◌, subst, Some, IsSome}
use Rattle.std.proofs.raw_atomic.Walks.{proved_at, leaves}
use base.Logic.{SProp, emp, id⊢}
use base.Fml.{ftrue, flft}
use mir.MapTy.{inst_fn}
use mir.Syntax.{a_type, dcons, dnil}
use mir.Val.{Val}
use contract.BorrowLft.{◌⊑◌}
use contract.Monad.{fact, fact_i}
use contract.Running.{tables}
use prog.Wp.{WpFn}
use types.Kit.{‵, raw, ◌⊛◌, prop, ◌$◌, ◌∵◌, !, qed, by, move, keep, drop, split, fsplit, fjoin, use0, use1, regoal}
use types.Run.{enter, fld, stop, of_opd, no_more, and_then, returns}
use types.ByLocal.{alloc_all, pass_all, free_all, look_at, get, get_in, sets}
use types.Part.{agg, sub, whole}
use denote.Exit.{no}
use denote.Param.{bounded, param}
use denote.RattleType.{owns}
use denote.RawPtr.{Ptr, block_ptr}
use denote.Signature.{plain, types_at}
use denote.Steps.{nothing, heard}
use denote.Triple.Walked.{Stays, walk_of, stay_dropped}
use Rattle.core.proofs.alloc.Calls.{Goes-blank}
use Rattle.c_base.specs.Lending.{AreOf}
use Rattle.c_base.specs.contracts.block.HeapBlock.{the_row as P}
use Rattle.c_base.specs.contracts.loan.Loan.{the_row as Q}
use Rattle.c_base.proofs.Blocks.{place_val, place_in, place_ptr}
use Rattle.c_base.proofs.Loans.{loan_val, loan_out, rejoined}
use Rattle.c_base.specs.contracts.loan.joined as f
use Rattle.c_base.proofs.loan.joined.Statement.{statement}
use Rattle.c_base.proofs.loan.joined.Code as code

pub joined_spec : {M : Type 1} → statement M
joined_spec 𝓤 𝓛 𝓜 𝓡 wired X Y LX LY g d met =
    let c = f.clauses X Y g d 𝓛 𝓜.mem 𝓡.returns in let 𝓣 = tables 𝓤 𝓛.H 𝓜 𝓡 𝓡.env in let ended = f.ended X Y g d in
    let T = param 0 X in let S = param 1 Y in let given = bounded (a_type ∷ a_type ∷ []) (X, (Y, tt)) (dcons d dnil) in let fn = inst_fn given code.function in
    let stayed : Stays ended.signature.params ended.kept = (stay_dropped (plain (λ _. Q T S g)) no, (stay_dropped (plain (λ _. P T)) no, tt)) in
    proved_at 𝓛 ended stayed c 𝓜 𝓡 (Goes-blank 𝓛 2 (plain (λ _. Q T S g)) no (λ κs x w. tt), (Goes-blank 𝓛 2 (plain (λ _. P T)) no (λ κs x w. tt), tt))
    (f.Key.name given) fn (code.unfolded 𝓤 𝓛.H 𝓜 𝓡 wired (X, (Y, tt)) d) (λ y are.
    let Post : Val → SProp 𝓤 = (walk_of 𝓛 ended stayed c).post y in let l = y.0.3.0 in let h = y.0.3.1.0 in let κs = y.0.0 in let qs = y.0.1 in
    let tokens = ‵ (flft κs.0 qs.0) ⊛ ‵ (flft κs.1.0 qs.1.0) ⊛ ‵ ftrue in
    qed 𝓛 ((tokens ⊛ ‵ (owns (types_at ended.signature.params κs) y.0.3 y.0.4)) ∷ raw ((c κs y.0.3).requires y.1) ∷ []) ∵ move ! (1 ∷ []) $
    use1 𝓛 (raw (fact 𝓤 (κs.0 ⊑ X.lives)) ⊛ raw (fact 𝓤 (κs.1.0 ⊑ Y.lives)) ⊛ raw (fact 𝓤 (IsSome l.heap)) ⊛ raw (fact 𝓤 (l.block ≡ h.at))) (id⊢ 𝓤 _) $
    split ! $ drop ! $ split ! $ drop ! $ split ! $ heard ! (IsSome l.heap) (λ some. heard ! (l.block ≡ h.at) (λ here.
    split ! $ move ! (1 ∷ []) $ fsplit ! $ move ! (1 ∷ []) $ fsplit ! $ place_ptr T ! h y.0.4.1.0 (λ is_block. drop ! $ move ! (1 ∷ []) $
    loan_out T S g ! l y.0.4.0 some (λ x lent b o at is_loan.
    -- [the loan; nothing; the tokens]
    let is : y.0.4.1.0 ≡ place_val (block_ptr b o) ∷ [] = subst (λ (p : Ptr). y.0.4.1.0 ≡ place_val p ∷ []) (sym here ∙ at) is_block in
    regoal ! (λ (us : List Val). prop (WpFn 𝓤 𝓛.H 𝓣.C 𝓣.Λ fn us Post)) (λ i. is_loan i ++ (is i ++ [])) refl $
    enter ! 𝓣.C 𝓣.Λ fn (loan_val ∷ place_val (block_ptr b o) ∷ []) Post $ alloc_all ! (λ l'. pass_all ! refl ((tt, (tt, tt)), ((tt, (tt, tt)), tt)) $
    rejoined S g.lending ! tt b o l.words x (λ a of.
    sets ! (of_opd ! (get_in ! (fld ! refl (stop !)) (sub ! 0 refl (whole !)))) refl (tt, tt) $
    sets ! (of_opd ! (get ! refl)) refl (tt, tt) $
    sets ! (agg ! (and_then ! (get ! refl) (no_more !))) refl (tt, (tt, tt)) $
    returns ! (look_at ! 0 refl) $ free_all ! refl $
    place_in S ! (block_ptr b o) (Some a) $
    use0 𝓛 (raw (fact 𝓤 (AreOf g.lending (Some a) l.heap))) (fact_i 𝓤 _ (emp 𝓤) (subst (AreOf g.lending (Some a)) (sym lent) of)) $ nothing ! $ nothing ! $ fjoin ! $ nothing ! $ fjoin ! $
    -- [what is left of the parameters; the clause; the block; nothing; the tokens]
    keep ! (4 ∷ 0 ∷ 2 ∷ 1 ∷ []) $
    by ! (leaves 𝓛 ended stayed c y (place_val (block_ptr b o)) (record { at = block_ptr b o; held = Some a }) (tt, (tt, tt)) (tt, (tt, tt))))))))))
