-- By hand, the contract of `Loan::none`: the `Loan` owns nothing.
-- The proof steps through the compiled body; a comment in brackets lists what is owned at that point, in order.
-- The tokens are those of the call's lifetimes, one for T and one for S.
use Rattle.std.proofs.Common.{◌≡◌, [], ◌∷◌, refl, Option, None}
use Rattle.std.proofs.raw_atomic.Walks.{proved_at, leaves}
use base.Logic.{SProp, emp}
use base.Fml.{ftrue, flft}
use mir.MapTy.{inst_fn}
use mir.Syntax.{a_type, dcons, dnil}
use mir.Val.{Val}
use contract.Monad.{fact, fact_i}
use contract.Running.{tables}
use types.Kit.{‵, raw, ◌⊛◌, ◌$◌, ◌∵◌, !, qed, by, keep, split, use0}
use types.Run.{enter, no_more, and_then, returns}
use types.ByLocal.{alloc_all, pass_all, free_all, get, look_at, sets}
use types.Part.{agg}
use denote.Param.{bounded, param}
use denote.RattleType.{owns}
use denote.RawPtr.{null_ptr}
use denote.Signature.{types_at}
use denote.Steps.{nothing}
use denote.Triple.Walked.{walk_of}
use Rattle.c_base.proofs.Loans.{loan_val, loan_in}
use Rattle.c_base.specs.contracts.loan.Loan.none as f
use Rattle.c_base.proofs.loan.Loan.none.Statement.{statement}
use Rattle.c_base.proofs.loan.Loan.none.Code as code

pub none_spec : {M : Type 1} → statement M
none_spec 𝓤 𝓛 𝓜 𝓡 wired X Y LX LY G d met =
    let c = f.clauses X Y G d 𝓛 𝓜.mem 𝓡.returns in let ended = f.ended X Y G d in let W = walk_of 𝓛 ended tt c in let 𝓣 = tables 𝓤 𝓛.H 𝓜 𝓡 𝓡.env in
    let args = bounded (a_type ∷ a_type ∷ []) (X, (Y, tt)) (dcons d dnil) in let fn = inst_fn args code.function in
    proved_at 𝓛 ended tt c 𝓜 𝓡 tt (f.Key.name args) fn (code.unfolded 𝓤 𝓛.H 𝓜 𝓡 wired (X, (Y, tt)) d) (λ y are.
    let Post : Val → SProp 𝓤 = W.post y in let nothing_lent : Option X.Denot = None in let κs = y.0.0 in let qs = y.0.1 in
    let tokens = ‵ (flft κs.0 qs.0) ⊛ ‵ (flft κs.1.0 qs.1.0) ⊛ ‵ ftrue in
    qed 𝓛 ((tokens ⊛ ‵ (owns (types_at ended.signature.params κs) y.0.3 y.0.4)) ∷ raw ((c κs y.0.3).requires y.1) ∷ []) ∵ split ! $
    enter ! 𝓣.C 𝓣.Λ fn [] Post $ alloc_all ! (λ l. pass_all ! refl tt $
    sets ! (agg ! (no_more !)) refl (tt, tt) $
    sets ! (agg ! (and_then ! (get ! refl) (no_more !))) refl (tt, (tt, tt)) $
    returns ! (look_at ! 0 refl) $ free_all ! refl $
    nothing ! $ loan_in (param 0 X) (param 1 Y) G ! null_ptr null_ptr nothing_lent $
    use0 𝓛 (raw (fact 𝓤 (nothing_lent ≡ nothing_lent))) (fact_i 𝓤 _ (emp 𝓤) refl) $ nothing ! $
    -- [nothing is left; the clause; the `Loan`; the tokens; what is required]
    keep ! (3 ∷ 0 ∷ 2 ∷ 1 ∷ []) $
    by ! (leaves 𝓛 ended tt c y loan_val (record { of = record {}; heap = nothing_lent; block = null_ptr; words = null_ptr }) tt tt)))
