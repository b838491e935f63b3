-- For the `inner` of each library: a struct for C, of type R, is in memory a struct of type T. The call lends it as one, and what the borrow leaves is a struct for C again.
-- The proof steps through the compiled body; a comment in brackets lists what is owned at that point, in order.
use Rattle.std.proofs.Common.{◌≡◌, ℕ, List, [], ◌∷◌, refl, MutBor}
use Rattle.std.proofs.raw_atomic.Walks.{proved, leaves}
use base.Fml.{Fml, GName, ftrue, fsep, flft}
use base.Fraction.{full_share}
use base.Logic.{ent, sep, emp, id⊢}
use seplogic.Ra.Ura.{Ura}
use mir.Syntax.{Callee, Fn, Ty, named, erased, mut, ty_ptr, ty_ref, local, value_local, place, deref, copy, rv_opd, addr_of, seq, assign, block, return}
use mir.Val.{Val, vptr}
use contract.Monad.{fact, fact_i}
use contract.Running.{Running, tables}
use prog.Model.{Model}
use prog.Wp.{Closed}
use types.Logic.{Logic, sem}
use types.Kit.{‵, raw, ◌⊛◌, some, later, at_ret, ◌$◌, ◌∵◌, !, qed, by, done, move, keep, rewrite, use0, use1, split, split3, join, group, fsplit3, fjoin, fpack, pick, await}
use types.Run.{enter, stop, of_opd, first, blocks, exec, returns, addr}
use types.ByLocal.{alloc_all, pass_all, free_all, look_at, get, through, sets, sets_last, env}
use denote.Builtin.{One, RefMutOf}
use denote.Exit.{no}
use denote.Follow.{follows, Part, lends_Part}
use denote.Memory.{cell_at, mem, part_of}
use denote.RattleType.{RattleType}
use denote.Ref.{MutRef, mut_vals, mut_Tells}
use denote.Signature.{plain, mut_ref_to}
use denote.Steps.{nothing, opens}
use denote.Triple.Clauses.{Clauses, Ended, closing}
use denote.Triple.Spec.{Meets}
use denote.Triple.Walked.{Stays, walk_of, stay_dropped, Goes-spent_ref}
use Rattle.core.proofs.alloc.Shapes.{after}

-- the code as it is generated; the types are those of the two references and of what they refer to
abbrev cast : Ty → Ty → Ty → Ty → Fn
cast r t from to = record {
  lifetimes = 1;
  outlives = [];
  ty_params = [];
  givens = 0;
  params = 1;
  locals = local (ty_ref (named 0) mut t) value_local ∷ local (ty_ref (named 0) mut r) value_local ∷ local (ty_ref erased mut t) value_local ∷ local ty_ptr value_local ∷ local ty_ptr value_local ∷ [];
  body = seq (block (seq (assign (place 3 []) (addr_of (place 1 (deref from ∷ [])))) (seq (assign (place 4 []) (rv_opd (copy (place 3 []))))
      (assign (place 2 []) (addr_of (place 4 (deref to ∷ [])))))))
      (seq (assign (place 0 []) (rv_opd (copy (place 2 [])))) return);
}

module _ (R T : RattleType) (one_r : One R.mir) (one_t : One T.mir) (inner : R.Denot → T.Denot) (outer : T.Denot → R.Denot) where
  abbrev ended : Ended
  ended = record { signature = record { lifetimes = 1; outlives = []; params = RefMutOf (0 ∷ []) tt (plain (λ _. R)) (λ _. one_r) ∷ []; result = RefMutOf (0 ∷ []) tt (plain (λ _. T)) (λ _. one_t) }; kept = (no, tt) }

  abbrev stayed : Stays ended.signature.params ended.kept
  stayed = (stay_dropped (mut_ref_to (0 ∷ []) tt (plain (λ _. R))) no, tt)

  abbrev spec : {M : Type 1} {𝓤 : Ura M} (𝓛 : Logic 𝓤) → Clauses 𝓤 ended
  spec {𝓤 = 𝓤} 𝓛 κs a = record { ghost = Unit {0}; requires = λ _. emp 𝓤; ensures = λ _ r _. sep 𝓤 (sem 𝓛 (follows R T a.0.ghost_name r.ghost_name outer)) (fact 𝓤 (r.now ≡ inner a.0.now)) }

  -- in memory both are the same
  module _ (as_inner : (h : R.Denot) (b o : ℕ) → (mem R).own_at h b o ≡ (mem T).own_at (inner h) b o) (as_outer : (w : T.Denot) (b o : ℕ) → (mem T).own_at w b o ≡ (mem R).own_at (outer w) b o) where
    -- what the borrow leaves is a struct of type R in the same memory
    back : {M : Type 1} {𝓤 : Ura M} (𝓛 : Logic 𝓤) (b o : ℕ) (w : T.Denot) → ent 𝓤 (sep 𝓤 (sem 𝓛 ((mem T).own_at w b o)) (sem 𝓛 ftrue)) (sem 𝓛 ((mem R).own_at (outer w) b o))
    back 𝓛 b o w = qed 𝓛 (‵ ((mem T).own_at w b o) ∷ ‵ ftrue ∷ []) ∵ rewrite ! 0 (λ (f : Fml). ‵ f) (as_outer w b o) refl $ keep ! (0 ∷ []) $ done !

    pub lends_inner : (r t from to : Ty) {M : Type 1} {𝓤 : Ura M} (𝓛 : Logic 𝓤) (𝓜 : Model 𝓤 𝓛.H) (𝓡 : Running 𝓤 𝓛.H 𝓜) (k : Callee)
        → Closed 𝓤 𝓛.H (tables 𝓤 𝓛.H 𝓜 𝓡 𝓡.env).C (tables 𝓤 𝓛.H 𝓜 𝓡 𝓡.env).Λ k (cast r t from to)
        → Meets 𝓛 ended.signature ((tables 𝓤 𝓛.H 𝓜 𝓡 𝓡.env).C k) (closing 𝓛 ended (spec 𝓛))
    unfolding part_of
    lends_inner r t from to {𝓤 = 𝓤} 𝓛 𝓜 𝓡 k closed =
        let c = spec 𝓛 in let W = walk_of 𝓛 ended stayed c in let 𝓣 = tables 𝓤 𝓛.H 𝓜 𝓡 𝓡.env in let fn = cast r t from to in
        proved 𝓛 ended stayed c 𝓜 𝓡 (Goes-spent_ref 𝓛 1 (0 ∷ []) tt (plain (λ _. R)), tt) k fn closed
        (λ κs. (mut_vals, tt)) (λ κs. (mut_Tells (named 0) κs.0 R, tt)) (λ κs qs bounds a _ are.
        let κ = κs.0 in let q = qs.0 in let γ = a.0.ghost_name in let h = a.0.now in let b = a.0.ref_ptr.0 in let o = a.0.ref_ptr.1 in
        let y : W.Ghost = ((κs, qs, bounds, a, (mut_vals a.0, tt)), tt) in
        qed 𝓛 (((‵ (flft κ q) ⊛ ‵ ftrue) ⊛ ‵ ((MutRef (named 0) κ R).own_val a.0 (mut_vals a.0)) ⊛ ‵ ftrue) ∷ ‵ ftrue ∷ []) ∵
        split ! $ split ! $ move ! (2 ∷ []) $ split ! $ keep ! (0 ∷ 2 ∷ []) $
        enter ! _ _ _ _ _ $ alloc_all ! (λ l. pass_all ! refl ((tt, tt), tt) $
        let En = env fn.locals l in
        fsplit3 ! $ move ! (1 ∷ 2 ∷ 3 ∷ []) $ opens ! tt R {h = h} b o (λ vs. fjoin ! $
        fpack ! (List Val) (λ us. fsep (cell_at full_share R.mir us b o) (R.own_val h us)) vs $
        rewrite ! 0 (λ (f : Fml). ‵ f) (as_inner h b o) refl $
        -- [the struct, as one of type T; the open borrow, in three entries]
        first ! $ blocks ! $
        sets ! (addr ! (through ! refl (stop !))) refl (tt, tt) $
        sets ! (of_opd ! (get ! refl)) refl (tt, tt) $
        sets_last ! (addr ! (through ! refl (stop !))) refl (tt, tt) $
        exec ! 𝓣.C 𝓣.Λ En (after 1 fn.body) (at_ret _ (W.post y)) $
        sets ! (of_opd ! (get ! refl)) refl (tt, tt) $
        nothing ! $ move ! (2 ∷ 3 ∷ 4 ∷ 1 ∷ 0 ∷ []) $ group ! 5 $
        use1 𝓛 (later (some (λ (γ' : GName). raw (Part 𝓛 R T outer (named 0) κ q b o b o γ (sem 𝓛 ftrue) (back 𝓛 b o) (inner h) γ'))))
        (lends_Part 𝓛 R T outer (named 0) κ q b o b o γ (sem 𝓛 ftrue) (back 𝓛 b o) (R.coded.code h) (R.coded.code h) (inner h)) $
        await ! tt $ pick ! (λ γ'.
        returns ! (look_at ! 0 refl) $ free_all ! refl $ keep ! (0 ∷ []) $
        let left : MutBor T.Denot = record { ref_ptr = (b, o); ghost_name = γ'; now = inner h } in
        use1 𝓛 (‵ ((MutRef (named 0) κ T).own_val left (vptr b o ∷ [])) ⊛ ‵ (flft κ q) ⊛ ‵ (follows R T γ γ' outer)) (id⊢ 𝓤 _) $ split3 ! $
        nothing ! $ move ! (2 ∷ 0 ∷ []) $ join ! $ nothing ! $ nothing ! $ fjoin ! $
        use0 𝓛 (raw (fact 𝓤 (inner h ≡ inner h))) (fact_i 𝓤 _ (emp 𝓤) refl) $ move ! (2 ∷ 1 ∷ 3 ∷ 4 ∷ []) $
        by ! (leaves 𝓛 ended stayed c y (vptr b o) left (tt, tt) (tt, tt))))))
