-- `new` asks the allocator for the memory, and writes zeros into it.
use Rattle.std.proofs.Common.{◌≡◌, ℕ, ◌*◌, ◌^◌, ◌<◌, true, false, List, [], ◌∷◌, replicate, Some, None, refl, sym, subst, ap, arith, lit<, w64, T}
use Rattle.std.proofs.lemmas.List.{length-replicate}
use Rattle.std.proofs.raw_atomic.Walks.{proved, leaves}
use Rattle.std.proofs.alloc.Calls.{Answer, Answer-typed}
use Rattle.std.proofs.alloc.Shapes.{after, head, arm_body}
use Rattle.std.proofs.option.Made.{Some-of, none_of}
use base.Fml.{ftrue, flft}
use base.Logic.{SProp, emp, id⊢}
use mir.Syntax.{named, Ty, ty_unit}
use mir.Val.{Val, vptr, vint, of_list, has_ty, WT}
use contract.Monad.{fact, fact_i}
use contract.Running.{tables}
use prog.Capped.{capped_is}
use prog.Wp.{Wp, at_return, after_seq}
use types.Kit.{Post as Ends, any_q, ‵, raw, ◌⊛◌, some, later, at_ret, ◌$◌, ◌∵◌, !, qed, by, move, drop, use0, use1, split, join, fjoin, feq_l, feq_i, flt_i}
use types.Kit.{pick, await}
use types.Match.{live, vrt, in_variant}
use types.Run.{enter, fld, stop, of_opd, bin, lit, no_more, and_then, first, blocks, switches_on, exec, returns}
use types.ByLocal.{alloc_all, pass_all, free_all, look_at, get, get_in, get_tag, sets, sets_last, lands_as, lands_last, env}
use types.Part.{whole, agg}
use denote.Builtin.{u64, usize, unit}
use denote.Exit.{yes}
use denote.Plain.{uint_vals, uint_Tells}
use denote.RattleType.{owns}
use denote.RawPtr.{block_ptr}
use denote.Ref.{ShrRef, shr_vals, shr_Tells}
use denote.Signature.{plain, shr_ref_to, type_at}
use denote.Steps.{nothing, heard, only}
use denote.Triple.Call.{calls_at, calls_at_last}
use denote.Triple.Clauses.{lasts}
use denote.Triple.Spec.{triple_of}
use denote.Triple.Table.{framed}
use denote.Triple.Walked.{Stays, walk_of, stay_dropped, Goes-dropped}
use Rattle.std.specs.Allocator.{HasLayout, block_if_ok, array_of}
use Rattle.std.specs.contracts.alloc.Global.{the_row as Heap}
use Rattle.std.specs.contracts.prelude.GlobalAllocator.TheImpl.{ghosts}
use Rattle.std.specs.contracts.prelude.GlobalAllocator.allocate as g
use Rattle.std.proofs.prelude.GlobalAllocator.allocate.Met.{met}
use Rattle.region.specs.Layout.{words_at}
use Rattle.region.specs.contracts.block.zero as zeroing
use Rattle.region.proofs.block.zero.Met as zeroed
use Rattle.region.specs.contracts.block.Block.{the_row as R}
use Rattle.region.specs.contracts.block.Block.new as f
use Rattle.region.proofs.block.Block.new.Statement.{statement}
use Rattle.region.proofs.block.Block.new.Code as code
use Rattle.region.proofs.AllocateResult.{by_result}
use Rattle.region.proofs.LayoutFacts.{block_val, block_made}

abbrev stayed : Stays f.ended.signature.params f.ended.kept
stayed = (stay_dropped (shr_ref_to (0 ∷ []) tt (plain (λ _. Heap))) yes, (stay_dropped (plain (λ _. usize)) yes, tt))

pub new_spec : {M : Type 1} → statement M
new_spec 𝓤 𝓛 𝓜 𝓡 wired =
    let c = f.clauses 𝓛 𝓜.mem 𝓡.returns in let W = walk_of 𝓛 f.ended stayed c in let 𝓣 = tables 𝓤 𝓛.H 𝓜 𝓡 𝓡.env in
    proved 𝓛 f.ended stayed c 𝓜 𝓡
    (Goes-dropped 𝓛 1 (shr_ref_to (0 ∷ []) tt (plain (λ _. Heap))) yes (λ κs x w. refl), (Goes-dropped 𝓛 1 (plain (λ _. usize)) yes (λ κs x w. refl), tt))
    f.Key.name code.function (code.unfolded 𝓤 𝓛.H 𝓜 𝓡 wired)
    (λ κs. (shr_vals, (uint_vals w64, tt))) (λ κs. (shr_Tells (named 0) κs.0 Heap, (uint_Tells w64, tt))) (λ κs qs bounds a _ are.
    let C = 𝓣.C in let Λ = 𝓣.Λ in
    let κ = κs.0 in let q = qs.0 in let heap = a.0 in let n = a.1.0 in let fl : n < 2 ^ 64 = are.1.0.1 in
    let y : W.Ghost = ((κs, qs, bounds, a, (shr_vals heap, (uint_vals w64 n, tt))), tt) in
    let Post : Val → SProp 𝓤 = W.post y in
    let τ : Ty = array_of u64 n in
    qed 𝓛 (((‵ (flft κ q) ⊛ ‵ ftrue) ⊛ ‵ ((ShrRef (named 0) κ Heap).own_val heap (shr_vals heap)) ⊛ ‵ (owns (usize ∷ []) a.1 y.0.4.1)) ∷
    raw (fact 𝓤 (n < 2 ^ 32)) ∷ []) ∵
    move ! (1 ∷ []) $ heard ! (n < 2 ^ 32) (λ small. let bytes : n * 8 < 2 ^ 64 = omega arith in
    split ! $ move ! (1 ∷ []) $ split ! $ move ! (1 ∷ []) $ drop ! $
    enter ! _ _ _ _ _ $ alloc_all ! (λ l. pass_all ! refl ((tt, tt), ((tt, record { fits = fl }), tt)) $
    let En = env code.Mir.locals l in
    let Then : Ends 𝓤 𝓛.H = any_q (after_seq 𝓤 𝓛.H (Wp 𝓤 𝓛.H C Λ En code.Mir.t-4 (at_return 𝓤 𝓛.H En Post)) (at_return 𝓤 𝓛.H En Post)) in
    sets ! (bin ! (get ! refl) (lit ! tt) (record { fits = bytes })) refl (tt, record { fits = bytes }) $
    -- the arguments of the allocator's call
    nothing ! $ flt_i ! 8 (2 ^ 64) (lit< tt) $ feq_i ! (List Val) (vint w64 8 ∷ []) (vint w64 8 ∷ []) refl $ fjoin ! $ fjoin ! $
    flt_i ! (n * 8) (2 ^ 64) bytes $ feq_i ! (List Val) (vint w64 (n * 8) ∷ []) (vint w64 (n * 8) ∷ []) refl $ fjoin ! $ fjoin ! $ move ! (1 ∷ 0 ∷ []) $
    fjoin ! $
    use0 𝓛 (raw (fact 𝓤 (HasLayout τ (n * 8) 8))) (fact_i 𝓤 _ (emp 𝓤) (capped_is (n * 8) bytes, refl)) $ move ! (2 ∷ 1 ∷ []) $ join ! $ join ! $
    let G = triple_of 𝓛 g.signature (g.spec 𝓛 𝓜.mem 𝓡.returns) in
    let z : G.Ghost = (((κ, tt), (q, tt), tt, (heap, (n * 8, (8, tt))), (shr_vals heap, (vint w64 (n * 8) ∷ [], (vint w64 8 ∷ [], tt)))), τ) in
    use1 𝓛 (raw (G.pre z)) (id⊢ 𝓤 _) $
    calls_at ! (framed 𝓤 𝓛.H 𝓜 𝓣) G (met 𝓤 𝓛 𝓜 𝓡 (code.calls-std_heap::GlobalAllocator::allocate 𝓡.env wired)) z
    (and_then ! (get ! refl) (and_then ! (get ! refl) (and_then ! (lit ! tt) (no_more !)))) (λ v.
    use1 𝓛 (later (some (λ (r : Answer.Denot). ((‵ (flft κ q) ⊛ ‵ ftrue) ⊛ ‵ (Answer.own_val r (v ∷ []))) ⊛
    some (λ (ws : Unit {0} × (Unit {0} × (Unit {0} × Unit {0}))). ‵ (lasts g.ended (κ, tt) z.0.3 ws) ⊛
    ‵ (block_if_ok (ghosts.dealloc_token heap.now) τ r))))) (id⊢ 𝓤 _) $
    await ! tt $ pick ! (λ r. split ! $ split ! $ move ! (2 ∷ []) $ pick ! (λ ws. split ! $ drop ! $ move ! (2 ∷ 0 ∷ []) $
    by_result ! (ghosts.dealloc_token heap.now) τ v r
    (λ b o e.
    -- [the uninitialized memory; the right to free it; the token; the locals]
    lands_as ! e refl (Answer-typed true b o) $
    first ! $ switches_on ! (get_tag ! (vrt ! refl (fld ! refl (stop !))) (whole !)) $ exec ! C Λ En (arm_body 0 (head code.Mir.t-3)) Then $
    sets ! (of_opd ! (get_in ! (vrt ! refl (fld ! refl (stop !))) (in_variant ! 0 0 refl refl (whole !)))) refl (tt, tt) $
    sets ! (of_opd ! (get ! refl)) refl (tt, tt) $
    first ! $ blocks ! $
    -- `zero` fills it
    let Z = triple_of 𝓛 zeroing.signature (zeroing.spec 𝓛 𝓜.mem 𝓡.returns) in
    let zs : List ℕ = replicate n 0 in
    let x : Z.Ghost = ((tt, tt, tt, (block_ptr b o, (n, tt)), (vptr b o ∷ [], (vint w64 n ∷ [], tt))), tt) in
    use0 𝓛 (raw (fact 𝓤 (n < 2 ^ 32))) (fact_i 𝓤 _ (emp 𝓤) small) $ join ! $
    nothing ! $ flt_i ! n (2 ^ 64) fl $ feq_i ! (List Val) (vint w64 n ∷ []) (vint w64 n ∷ []) refl $ fjoin ! $ fjoin ! $
    feq_i ! (List Val) (vptr b o ∷ []) (vptr b o ∷ []) refl $ fjoin ! $
    nothing ! $ join ! $ join ! $ use1 𝓛 (raw (Z.pre x)) (id⊢ 𝓤 _) $
    calls_at_last ! (framed 𝓤 𝓛.H 𝓜 𝓣) Z (zeroed.met 𝓤 𝓛 𝓜 𝓡 (code.calls-region::block::zero 𝓡.env wired)) x
    (and_then ! (get ! refl) (and_then ! (get ! refl) (no_more !))) (λ v'.
    use1 𝓛 (later (some (λ (u : Unit {0}). (‵ ftrue ⊛ ‵ (unit.own_val u (v' ∷ []))) ⊛
    some (λ (ws' : Unit {0} × (Unit {0} × Unit {0})). ‵ (lasts zeroing.ended tt x.0.3 ws') ⊛ ‵ (words_at (block_ptr b o) n zs))))) (id⊢ 𝓤 _) $
    await ! tt $ pick ! (λ u. split ! $ split ! $ drop ! $ feq_l ! (λ e'. pick ! (λ ws'. split ! $ drop ! $
    lands_last ! refl (subst (λ (w : Val). T (has_ty ty_unit w) × WT w) (sym (ap only e')) (tt, tt)) $
    exec ! C Λ En (after 3 (arm_body 0 (head code.Mir.t-3))) Then $
    sets ! (agg ! (and_then ! (get ! refl) (and_then ! (get ! refl) (no_more !)))) refl (tt, (tt, (record { fits = fl }, tt))) $
    sets_last ! (agg ! (and_then ! (lit ! tt) (and_then ! (get ! refl) (no_more !)))) refl
    (tt, (record { fits = lit< tt }, ((tt, (record { fits = fl }, tt)), tt))) $
    exec ! C Λ En code.Mir.t-4 (at_ret En Post) $
    sets ! (of_opd ! (get ! refl)) refl (tt, (record { fits = lit< tt }, ((tt, (record { fits = fl }, tt)), tt))) $
    returns ! (look_at ! 0 refl) $ free_all ! refl $
    -- [the words; the right to free them; the token]
    let made : R.Denot = record { at = block_ptr b o; len = n; items = zs; counted = sym (length-replicate n 0); small = small } in
    let w : Val = block_val b o n in
    block_made ! made b o n zs refl refl refl fl $
    use1 𝓛 (‵ ((type_at f.signature.result κs).own_val (Some made) (live 1 (of_list (w ∷ [])) ∷ []))) (Some-of 𝓛 R made w) $
    use0 𝓛 (raw (fact 𝓤 (zs ≡ zs))) (fact_i 𝓤 _ (emp 𝓤) refl) $ nothing ! $ nothing ! $ fjoin ! $ nothing ! $ fjoin ! $ move ! (3 ∷ 0 ∷ 2 ∷ 1 ∷ []) $
    by ! (leaves 𝓛 f.ended stayed c y (live 1 (of_list (w ∷ []))) (Some made) (tt, (tt, tt)) (tt, (tt, tt))))))))
    (λ e.
    lands_as ! e refl (Answer-typed false 0 0) $
    first ! $ switches_on ! (get_tag ! (vrt ! refl (fld ! refl (stop !))) (whole !)) $ exec ! C Λ En (arm_body 1 (head code.Mir.t-3)) Then $
    sets_last ! (agg ! (and_then ! (lit ! tt) (no_more !))) refl (tt, (record { fits = lit< tt }, tt)) $
    exec ! C Λ En code.Mir.t-4 (at_ret En Post) $
    sets ! (of_opd ! (get ! refl)) refl (tt, (record { fits = lit< tt }, tt)) $
    returns ! (look_at ! 0 refl) $ free_all ! refl $
    use0 𝓛 (‵ ((type_at f.signature.result κs).own_val None (live 0 (of_list []) ∷ []))) (none_of 𝓛 R) $
    use0 𝓛 (raw (fact 𝓤 (Unit {0}))) (fact_i 𝓤 _ (emp 𝓤) tt) $ nothing ! $ nothing ! $ fjoin ! $ nothing ! $ fjoin ! $ move ! (3 ∷ 0 ∷ 2 ∷ 1 ∷ []) $
    by ! (leaves 𝓛 f.ended stayed c y (live 0 (of_list [])) None (tt, (tt, tt)) (tt, (tt, tt))))))))))
