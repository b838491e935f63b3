-- By hand, the contract of `HeapBlock::nowhere`: the `HeapBlock` has the null pointer, and owns nothing.
-- The proof steps through the compiled body; a comment in brackets lists what is owned at that point, in order.
-- The tokens are those of the call's lifetimes, here one for T.
use Rattle.std.proofs.Common.{◌≡◌, [], ◌∷◌, refl, Option, None, lit<}
use Rattle.std.proofs.raw_atomic.Walks.{proved_at, leaves}
use base.Logic.{SProp, emp}
use base.Fml.{ftrue, flft}
use mir.MapTy.{inst_fn}
use mir.Syntax.{a_type}
use mir.Val.{Val}
use contract.Monad.{fact, fact_i}
use contract.Running.{tables}
use types.Kit.{‵, raw, ◌⊛◌, ◌$◌, ◌∵◌, !, qed, by, keep, split, use0}
use types.Run.{enter, lit, no_more, and_then, returns}
use types.ByLocal.{alloc_all, pass_all, free_all, look_at, sets}
use types.Part.{agg}
use denote.Param.{layouts, param}
use denote.RattleType.{owns}
use denote.RawPtr.{null_ptr}
use denote.Signature.{types_at}
use denote.Steps.{nothing}
use denote.Triple.Walked.{walk_of}
use Rattle.c_base.proofs.Blocks.{place_val, place_in}
use Rattle.c_base.specs.contracts.block.HeapBlock.nowhere as f
use Rattle.c_base.proofs.block.HeapBlock.nowhere.Statement.{statement}
use Rattle.c_base.proofs.block.HeapBlock.nowhere.Code as code

pub nowhere_spec : {M : Type 1} → statement M
nowhere_spec 𝓤 𝓛 𝓜 𝓡 wired T L =
    let c = f.clauses T 𝓛 𝓜.mem 𝓡.returns in let W = walk_of 𝓛 (f.ended T) tt c in let 𝓣 = tables 𝓤 𝓛.H 𝓜 𝓡 𝓡.env in
    let given = layouts (a_type ∷ []) (T, tt) in let fn = inst_fn given code.function in
    proved_at 𝓛 (f.ended T) tt c 𝓜 𝓡 tt (f.Key.name given) fn (code.unfolded 𝓤 𝓛.H 𝓜 𝓡 wired (T, tt)) (λ y are.
    let Post : Val → SProp 𝓤 = W.post y in let none : Option T.Denot = None in let κ = y.0.0.0 in
    let tokens = ‵ (flft κ y.0.1.0) ⊛ ‵ ftrue in
    qed 𝓛 ((tokens ⊛ ‵ (owns (types_at (f.signature T).params y.0.0) y.0.3 y.0.4)) ∷ raw ((c y.0.0 y.0.3).requires y.1) ∷ []) ∵ split ! $
    enter ! 𝓣.C 𝓣.Λ fn [] Post $ alloc_all ! (λ l. pass_all ! refl tt $
    sets ! (agg ! (and_then ! (lit ! tt) (no_more !))) refl (tt, (record { fits = lit< tt }, tt)) $
    returns ! (look_at ! 0 refl) $ free_all ! refl $
    nothing ! $ place_in (param 0 T) ! null_ptr none $
    use0 𝓛 (raw (fact 𝓤 (none ≡ none))) (fact_i 𝓤 _ (emp 𝓤) refl) $ nothing ! $
    -- [nothing is left; the clause; the `HeapBlock`; the tokens; what is required]
    keep ! (3 ∷ 0 ∷ 2 ∷ 1 ∷ []) $
    by ! (leaves 𝓛 (f.ended T) tt c y (place_val null_ptr) (record { at = null_ptr; held = none }) tt tt)))
