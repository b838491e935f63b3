-- `payload_mut` passes on the words that `lend` lends, or ends the loan if the handle is not live. A comment in brackets lists what the proof holds there.
use Rattle.std.proofs.Common.{◌≡◌, ℕ, Bool, true, List, [], ◌∷◌, ◌++◌, length, Some, None, refl, sym, ap, ◌∙◌, lit<, MutBor}
use Rattle.std.proofs.raw_atomic.Walks.{proved, leaves}
use mir.Syntax.{named}
use mir.Val.{Val, vstruct, of_list}
use base.Logic.{emp, id⊢}
use base.Fml.{ftrue, flft, fres}
use contract.Monad.{fact, fact_i}
use contract.Running.{tables}
use types.Kit.{‵, raw, ◌⊛◌, some, later, given, at_ret, ◌$◌, ◌∵◌, !, qed, by, move, drop as forget, use0, use1, use2, learn, split, split3, group, fsplit}
use types.Kit.{fjoin, feq_l, pick, fpick, await, rewrite}
use types.Run.{enter, addr, from, fld, hop, stop, of_opd, lit, no_more, and_then, first, branches, exec, returns}
use types.ByLocal.{alloc_all, pass_all, free_all, look_at, look_in_at, get, get_in, through, sets, sets_last, lands_as, env}
use types.Part.{whole, sub, agg}
use types.Match.{live}
use denote.Array.{Array}
use denote.Builtin.{u64}
use denote.Exit.{yes, no}
use denote.Follow.{follows, follows_by}
use denote.FollowSlice.{slice_given_up}
use denote.Ref.{mut_vals, mut_Tells}
use denote.Shadow.{pure_l, pure_i}
use denote.Signature.{plain, mut_ref_to, type_at}
use denote.Slice.{MutSlice, mut_slice_at, mut_slice_vals, slice_val}
use denote.Steps.{heard, only}
use denote.Triple.Call.{calls_at}
use denote.Triple.Clauses.{lasts}
use denote.Triple.Spec.{triple_of}
use denote.Triple.Walked.{Stays, walk_of, stay_dropped, gave_ref, Goes-dropped, Goes-spent_ref, Goes-gave_ref}
use denote.Triple.Table.{framed}
use Rattle.std.proofs.option.Made.{Some-of, none_of}
use Rattle.std.proofs.Calls.{T_true, T_false}
use Rattle.std.specs.Prelude.{Option}
use Rattle.cf_base.specs.contracts.results.Handle.{the_row as Handle}
use Rattle.cf_base.proofs.results.Handle.TheLaws as handle
use Rattle.step_ledger.specs.Counting.{RoseAtMost}
use Rattle.step_ledger.specs.contracts.Steps.{the_row as Steps}
use Rattle.cf_model.specs.Rules.{KeepsRules}
use Rattle.paged_heap.specs.Payload.{lent_back, payload_bound, payload_of, words_lent}
use Rattle.paged_heap.specs.HeapLoan.{moving_heap as R}
use Rattle.paged_heap.specs.PagedState.{PagedState}
use Rattle.paged_heap.specs.contracts.payload.PagedHeap+Direct.payload_mut as f
use Rattle.paged_heap.specs.contracts.payload.PagedHeap+Direct.lend as g
use Rattle.paged_heap.proofs.payload.PagedHeap+Direct.lend.Met.{met}
use Rattle.paged_heap.proofs.payload.PagedHeap+Direct.payload_mut.Statement.{statement}
use Rattle.paged_heap.proofs.payload.PagedHeap+Direct.payload_mut.Code as code
use Rattle.paged_heap.proofs.PayloadLoan.{nothing_lent}

abbrev stayed : Stays f.ended.signature.params f.ended.kept
stayed = (stay_dropped (mut_ref_to (0 ∷ []) tt (plain (λ _. R))) no, (stay_dropped (plain (λ _. Handle)) yes, (gave_ref (1 ∷ []) tt (plain (λ _. Steps)), tt)))

abbrev handle_vals : Handle.Denot → List Val
handle_vals h = handle.lowers.lowered h ∷ []

abbrev live_val : Val → Val
live_val v = live 1 (of_list (v ∷ []))

pub payload_mut_spec : {M : Type 1} → statement M
unfolding follows_by
payload_mut_spec 𝓤 𝓛 𝓜 𝓡 wired =
    let c = f.clauses 𝓛 𝓜.mem 𝓡.returns in let W = walk_of 𝓛 f.ended stayed c in let 𝓣 = tables 𝓤 𝓛.H 𝓜 𝓡 𝓡.env in
    proved 𝓛 f.ended stayed c 𝓜 𝓡 (
      Goes-spent_ref 𝓛 2 (0 ∷ []) tt (plain (λ _. R)),
      (Goes-dropped 𝓛 2 (plain (λ _. Handle)) yes (λ κs x w. refl), (Goes-gave_ref 𝓛 2 1 tt (plain (λ _. Steps)), tt)),
    )
    f.Key.name code.function (code.unfolded 𝓤 𝓛.H 𝓜 𝓡 wired)
    (λ κs. (mut_vals, (handle_vals, (mut_vals, tt)))) (λ κs. (mut_Tells (named 0) κs.0 R, (handle.lowers.val_is, (mut_Tells (named 1) κs.1.0 Steps, tt))))
    (λ κs qs bounds a _ are.
    let κ = κs.0 in let κ₁ = κs.1.0 in let q = qs.0 in let q₁ = qs.1.0 in let γ = a.0.ghost_name in let s = a.0.now in let h = a.1.0 in let k = a.1.1.0 in
    let words : Option (List ℕ) = payload_of s.state h.0 in
    let G = triple_of 𝓛 g.signature (g.spec 𝓛 𝓜.mem 𝓡.returns) in
    let z : G.Ghost = ((κs, qs, bounds, a, (mut_vals a.0, (handle_vals h, (mut_vals k, tt)))), tt) in
    let y : W.Ghost = z in
    qed 𝓛 (raw (G.pre z) ∷ []) ∵ enter ! _ _ _ _ _ $
    alloc_all ! (λ l. pass_all ! refl ((tt, tt), ((tt, (record { fits = are.1.0.1.1.0.1 }, tt)), ((tt, tt), tt))) $
    sets ! (addr ! (through ! refl (stop !))) refl (tt, tt) $
    sets ! (addr ! (through ! refl (stop !))) refl (tt, tt) $
    calls_at ! (framed 𝓤 𝓛.H 𝓜 (tables 𝓤 𝓛.H 𝓜 𝓡 𝓡.env)) G (met 𝓤 𝓛 𝓜 𝓡 (code.calls-paged_heap::payload::PagedHeap+Direct::lend 𝓡.env wired)) z
    (and_then ! (get ! refl) (and_then ! (get ! refl) (and_then ! (get ! refl) (no_more !)))) (λ v.
    use1 𝓛 (later (some (λ (r : Bool × MutBor (List ℕ)). ((‵ (flft κ q) ⊛ ‵ (flft κ₁ q₁) ⊛ ‵ ftrue) ⊛ ‵ ((type_at g.signature.result κs).own_val r (v ∷ []))) ⊛
    some (λ (ws : Unit {0} × (Unit {0} × (ℕ × Unit {0}))). ‵ (lasts g.ended κs a ws) ⊛ ‵ (follows R (Array u64 0) γ r.1.ghost_name (lent_back s h.0)) ⊛
    raw (fact 𝓤 (words_lent r.0 r.1.now ≡ words)) ⊛ raw (fact 𝓤 ((ws : List ℕ) → KeepsRules (lent_back s h.0 ws).state)) ⊛
    raw (fact 𝓤 (RoseAtMost k.now ws.1.1.0 (payload_bound words))))))) (id⊢ 𝓤 _) $
    await ! tt $ pick ! (λ r. split ! $ split ! $ split3 ! $
    -- [the two tokens; nothing; the pair; what the callee says; the locals]
    move ! (3 ∷ []) $ fpick ! (λ vss. fsplit ! $
    feq_l ! (λ all. fsplit ! $ feq_l ! (λ e₀. fsplit ! $ move ! (1 ∷ []) $ forget ! $ fsplit ! $ pure_l ! (mut_slice_at u64 r.1 vss.1.0) (λ p.
    let sv : Val = slice_val r.1.ref_ptr (length r.1.now) in
    lands_as ! (ap only all ∙ (λ j. vstruct (of_list (e₀ j ++ (p.0 j ++ []))))) refl (tt, (tt, ((tt, (record { fits = p.1.0 }, tt)), tt))) $
    pure_i ! (mut_slice_at u64 r.1 (sv ∷ [])) (tt, (tt, tt)) (refl, p.1) $ fjoin ! $
    move ! (4 ∷ []) $ pick ! (λ ws. split3 ! $ move ! (2 ∷ []) $ split3 ! $ heard ! _ (λ value. heard ! _ (λ rules. heard ! _ (λ bound.
    -- [what the callee left; how the manager follows; the words; the two tokens; nothing; the locals]
    let En = env code.Mir.locals l in let Lent = MutSlice (named 0) κ u64 in
    sets ! (of_opd ! (get_in ! (fld ! refl (stop !)) (sub ! 0 refl (whole !)))) refl (tt, tt) $
    first ! $ branches ! (get ! refl)
    (λ on.
    sets ! (addr ! (from ! (fld ! refl (fld ! refl (hop ! (look_in_at ! 4 (sub ! 0 refl (sub ! 1 refl (whole !)))) (stop !)))))) refl (tt, tt) $
    sets ! (agg ! (and_then ! (get ! refl) (and_then ! (get_in ! (fld ! refl (fld ! refl (stop !))) (sub ! 1 refl (sub ! 1 refl (whole !))))
    (no_more !)))) refl (tt, (tt, (record { fits = p.1.0 }, tt))) $
    sets_last ! (agg ! (and_then ! (lit ! tt) (and_then ! (get ! refl) (no_more !)))) refl
    (tt, (record { fits = lit< tt }, ((tt, (record { fits = p.1.0 }, tt)), tt))) $
    exec ! 𝓣.C 𝓣.Λ En code.Mir.t-6 (at_ret _ (W.post y)) $
    sets ! (of_opd ! (get ! refl)) refl (tt, (record { fits = lit< tt }, ((tt, (record { fits = p.1.0 }, tt)), tt))) $
    returns ! (look_at ! 0 refl) $ free_all ! refl $
    let live : r.0 ≡ true = T_true r.0 on in
    move ! (2 ∷ []) $ use1 𝓛 (‵ ((type_at f.signature.result κs).own_val (Some r.1) (live_val sv ∷ []))) (Some-of 𝓛 Lent r.1 sv) $
    move ! (3 ∷ 4 ∷ 5 ∷ []) $ group ! 3 $
    -- [the tokens; the result; what is left of the parameters; how the manager follows]
    use0 𝓛 (raw (fact 𝓤 (RoseAtMost k.now ws.1.1.0 (payload_bound words)))) (fact_i 𝓤 _ (emp 𝓤) bound) $
    use0 𝓛 (raw (fact 𝓤 ((ws : List ℕ) → KeepsRules (lent_back s h.0 ws).state))) (fact_i 𝓤 _ (emp 𝓤) rules) $
    use0 𝓛 (raw (fact 𝓤 (Some r.1.now ≡ words))) (fact_i 𝓤 _ (emp 𝓤) (ap (λ (b : Bool). words_lent b r.1.now) (sym live) ∙ value)) $
    move ! (3 ∷ 5 ∷ 4 ∷ 6 ∷ []) $ by ! (leaves 𝓛 f.ended stayed c y (live_val sv) (Some r.1) ws (tt, (tt, (tt, tt)))))
    (λ off.
    sets_last ! (agg ! (and_then ! (lit ! tt) (no_more !))) refl (tt, (record { fits = lit< tt }, tt)) $
    exec ! 𝓣.C 𝓣.Λ En code.Mir.t-6 (at_ret _ (W.post y)) $
    sets ! (of_opd ! (get ! refl)) refl (tt, (record { fits = lit< tt }, tt)) $
    -- a loan of no words ends
    let none : None ≡ words = ap (λ (b : Bool). words_lent b r.1.now) (sym (T_false r.0 off)) ∙ value in
    let same : lent_back s h.0 r.1.now ≡ s = nothing_lent s h.0 r.1.now (sym none) in
    move ! (2 ∷ 1 ∷ []) $ use2 𝓛 (later (given (sv ∷ [] ≡ mut_slice_vals r.1) (‵ (fres γ (R.coded.code (lent_back s h.0 r.1.now))))))
    (slice_given_up 𝓛 R u64 (lent_back s h.0) (named 0) κ γ r.1 (sv ∷ [])) $ await ! tt $ learn ! (λ _.
    rewrite ! 0 (λ (t : PagedState). ‵ (fres γ (R.coded.code t))) same refl $
    returns ! (look_at ! 0 refl) $ free_all ! refl $
    use0 𝓛 (‵ ((type_at f.signature.result κs).own_val None (live 0 (of_list []) ∷ []))) (none_of 𝓛 Lent) $
    -- [no words; how the manager ends; what is left of the parameters; the tokens]
    move ! (3 ∷ 4 ∷ 5 ∷ []) $ group ! 3 $
    use0 𝓛 (raw (fact 𝓤 (RoseAtMost k.now ws.1.1.0 (payload_bound words)))) (fact_i 𝓤 _ (emp 𝓤) bound) $
    use0 𝓛 (raw (fact 𝓤 ((ws : List ℕ) → KeepsRules (lent_back s h.0 ws).state))) (fact_i 𝓤 _ (emp 𝓤) rules) $
    use0 𝓛 (raw (fact 𝓤 (None ≡ words))) (fact_i 𝓤 _ (emp 𝓤) none) $
    move ! (3 ∷ 6 ∷ 4 ∷ 5 ∷ []) $ by ! (leaves 𝓛 f.ended stayed c y (live 0 (of_list [])) None ws (tt, (tt, (tt, tt))))))))))))))))))
