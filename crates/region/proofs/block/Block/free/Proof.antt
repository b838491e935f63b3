-- `free` returns to the allocator the memory and the right that came with it.
use Rattle.std.proofs.Common.{ℕ, ◌*◌, ◌^◌, ◌<◌, List, [], ◌∷◌, ◌++◌, length, refl, sym, subst, ap, arith, lit<, w64, T}
use Rattle.std.proofs.raw_atomic.Walks.{proved_at, leaves}
use base.Fml.{ftrue, froom, flft}
use base.Logic.{SProp, emp, id⊢}
use mir.Syntax.{named, ty_int, ty_array, ty_unit}
use mir.Val.{Val, vptr, vint, vunit, has_ty, WT}
use contract.Monad.{fact, fact_i}
use contract.Running.{tables}
use prog.Capped.{capped_is}
use prog.Wp.{WpFn}
use types.Kit.{‵, raw, ◌⊛◌, some, later, prop, at_ret, ◌$◌, ◌∵◌, !, qed, by, move, keep, use0, use1, split, join, fsplit, fjoin, feq_l, feq_i, flt_i, pick}
use types.Kit.{await, rewrite, regoal}
use types.Run.{enter, fld, stop, of_opd, bin, lit, unit_lit, no_more, and_then, first, blocks, exec, returns}
use types.ByLocal.{alloc_all, pass_all, free_all, look_at, get, get_in, sets, lands_last, env}
use types.Part.{whole, sub}
use denote.Builtin.{u64, unit}
use denote.RattleType.{owns}
use denote.RawPtr.{block_ptr}
use denote.Ref.{ShrRef, shr_vals}
use denote.Signature.{plain, shr_ref_to, types_at}
use denote.Steps.{nothing, only}
use denote.Triple.Call.{calls_at_last}
use denote.Triple.Clauses.{lasts}
use denote.Triple.Spec.{triple_of}
use denote.Triple.Table.{framed}
use denote.Triple.Walked.{Stays, walk_of, stay_dropped, Goes-dropped}
use Rattle.std.specs.Allocator.{HasLayout, array_of}
use Rattle.std.specs.contracts.alloc.Global.{the_row as Heap}
use Rattle.std.specs.contracts.prelude.GlobalAllocator.deallocate as g
use Rattle.std.proofs.prelude.GlobalAllocator.deallocate.Met.{met}
use Rattle.region.specs.contracts.block.Block.{the_row as R}
use Rattle.region.specs.contracts.block.Block.free as f
use Rattle.region.proofs.block.Block.free.Statement.{statement}
use Rattle.region.proofs.block.Block.free.Code as code
use Rattle.region.proofs.LayoutFacts.{block_val, block_had, row_out, cells_room}

abbrev stayed : Stays f.ended.signature.params f.ended.kept
stayed = (stay_dropped (plain (λ _. R)) f.ended.kept.0, (stay_dropped (shr_ref_to (0 ∷ []) tt (plain (λ _. Heap))) f.ended.kept.1.0, tt))

pub free_spec : {M : Type 1} → statement M
free_spec 𝓤 𝓛 𝓜 𝓡 wired =
    let c = f.clauses 𝓛 𝓜.mem 𝓡.returns in let W = walk_of 𝓛 f.ended stayed c in let 𝓣 = tables 𝓤 𝓛.H 𝓜 𝓡 𝓡.env in
    proved_at 𝓛 f.ended stayed c 𝓜 𝓡 (
      Goes-dropped 𝓛 1 (plain (λ _. R)) f.ended.kept.0 (λ κs x w. refl),
      (Goes-dropped 𝓛 1 (shr_ref_to (0 ∷ []) tt (plain (λ _. Heap))) f.ended.kept.1.0 (λ κs x w. refl), tt),
    )
    f.Key.name code.function (code.unfolded 𝓤 𝓛.H 𝓜 𝓡 wired) (λ y are.
    let Post : Val → SProp 𝓤 = W.post y in let C = 𝓣.C in let Λ = 𝓣.Λ in
    let κ = y.0.0.0 in let q = y.0.1.0 in let h = y.0.3.0 in let heap = y.0.3.1.0 in let vss = y.0.4 in let n = h.len in
    qed 𝓛 (((‵ (flft κ q) ⊛ ‵ ftrue) ⊛ ‵ (owns (types_at f.signature.params y.0.0) y.0.3 vss)) ∷ ‵ ftrue ∷ []) ∵ split ! $ move ! (1 ∷ []) $ fsplit ! $
    block_had ! h vss.0 (λ b o at is fn.
    -- [the words; the right to free them; the allocator; the token; nothing]
    let small : n * 8 < 2 ^ 64 = let s = h.small in omega arith in
    let args : List Val = block_val b o n ∷ vptr heap.ref_ptr.0 heap.ref_ptr.1 ∷ [] in
    regoal ! (λ (us : List Val). prop (WpFn 𝓤 𝓛.H C Λ code.function us Post)) (λ i. is i ++ (are.1.0.0 i ++ [])) refl $
    enter ! C Λ code.function args Post $ alloc_all ! (λ l. pass_all ! refl ((tt, (tt, (record { fits = fn }, tt))), ((tt, tt), tt)) $
    let En = env code.Mir.locals l in
    sets ! (of_opd ! (get_in ! (fld ! refl (stop !)) (sub ! 0 refl (whole !)))) refl (tt, tt) $
    sets ! (of_opd ! (get_in ! (fld ! refl (stop !)) (sub ! 1 refl (whole !)))) refl (tt, record { fits = fn }) $
    first ! $ blocks ! $
    sets ! (of_opd ! (get ! refl)) refl (tt, tt) $
    sets ! (bin ! (get ! refl) (lit ! tt) (record { fits = small })) refl (tt, record { fits = small }) $
    -- the block that the allocator takes back
    row_out ! n h.items b o (λ long. use1 𝓛 (‵ (froom (ty_array (ty_int w64) (length h.items)) b o)) (cells_room 𝓛 h.items b o) $
    rewrite ! 0 (λ (m : ℕ). ‵ (froom (ty_array (ty_int w64) m) b o)) long refl $ fjoin ! $
    use0 𝓛 (raw (fact 𝓤 (HasLayout (array_of u64 n) (n * 8) 8))) (fact_i 𝓤 _ (emp 𝓤) (capped_is (n * 8) small, refl)) $ join ! $
    -- the arguments of the call
    move ! (1 ∷ []) $ fsplit ! $ rewrite ! 0 (λ (us : List Val). ‵ ((ShrRef (named 0) κ Heap).own_val heap us)) are.1.0.0 refl $
    move ! (1 ∷ []) $ flt_i ! 8 (2 ^ 64) (lit< tt) $ feq_i ! (List Val) (vint w64 8 ∷ []) (vint w64 8 ∷ []) refl $ fjoin ! $ fjoin ! $
    flt_i ! (n * 8) (2 ^ 64) small $ feq_i ! (List Val) (vint w64 (n * 8) ∷ []) (vint w64 (n * 8) ∷ []) refl $ fjoin ! $ fjoin ! $
    feq_i ! (List Val) (vptr b o ∷ []) (vptr b o ∷ []) refl $ fjoin ! $ move ! (1 ∷ 0 ∷ []) $ fjoin ! $
    let G = triple_of 𝓛 g.signature (g.spec 𝓛 𝓜.mem 𝓡.returns) in
    let z : G.Ghost = (
      (
        (κ, tt),
        (q, tt),
        tt,
        (heap, (block_ptr b o, (n * 8, (8, tt)))),
        (shr_vals heap, (vptr b o ∷ [], (vint w64 (n * 8) ∷ [], (vint w64 8 ∷ [], tt)))),
      ),
      array_of u64 n,
    ) in
    move ! (2 ∷ 0 ∷ []) $ join ! $ join ! $ use1 𝓛 (raw (G.pre z)) (id⊢ 𝓤 _) $
    calls_at_last ! (framed 𝓤 𝓛.H 𝓜 𝓣) G (met 𝓤 𝓛 𝓜 𝓡 (code.calls-std_heap::GlobalAllocator::deallocate 𝓡.env wired)) z
    (and_then ! (get ! refl) (and_then ! (get ! refl) (and_then ! (get ! refl) (and_then ! (lit ! tt) (no_more !))))) (λ v.
    use1 𝓛 (later (some (λ (u : Unit {0}). ((‵ (flft κ q) ⊛ ‵ ftrue) ⊛ ‵ (unit.own_val u (v ∷ []))) ⊛
    some (λ (ws : Unit {0} × (Unit {0} × (Unit {0} × (Unit {0} × Unit {0})))). ‵ (lasts g.ended (κ, tt) z.0.3 ws) ⊛ ‵ ftrue)))) (id⊢ 𝓤 _) $
    await ! tt $ pick ! (λ u. split ! $ split ! $ move ! (1 ∷ []) $ feq_l ! (λ e.
    lands_last ! refl (subst (λ (w : Val). T (has_ty ty_unit w) × WT w) (sym (ap only e)) (tt, tt)) $
    exec ! C Λ En code.Mir.t-4 (at_ret _ Post) $
    sets ! (of_opd ! (unit_lit !)) refl (tt, tt) $
    returns ! (look_at ! 0 refl) $ free_all ! refl $
    feq_i ! (List Val) (vunit ∷ []) (vunit ∷ []) refl $ nothing ! $ nothing ! $ nothing ! $ fjoin ! $ nothing ! $ fjoin ! $ keep ! (3 ∷ 0 ∷ 2 ∷ 1 ∷ []) $
    by ! (leaves 𝓛 f.ended stayed c y vunit tt (tt, (tt, tt)) (tt, (tt, tt))))))))))
