-- By hand, the contract of `HeapBlock::lend`: it borrows the heap at the address, and the heap as the borrow leaves it is the `HeapBlock`'s again.
-- The proof steps through the compiled body; a comment in brackets lists what is owned at that point, in order.
use Rattle.std.proofs.Common.{◌≡◌, ℕ, List, [], ◌∷◌, refl, sym, Some, IsSome, MutBor}
use Rattle.std.proofs.raw_atomic.Walks.{proved, leaves}
use base.Fraction.{full_share}
use base.Fml.{Fml, GName, ftrue, fsep, flft}
use base.Logic.{ent, sep, emp, id⊢}
use seplogic.Ra.Ura.{Ura}
use mir.MapTy.{inst_fn}
use mir.Raw.{raw as bare}
use mir.Syntax.{a_type, named}
use mir.Val.{Val, vptr}
use contract.BorrowLft.{◌⊑◌}
use contract.Monad.{fact, fact_i}
use contract.Running.{tables}
use types.Logic.{Logic, sem}
use types.Kit.{‵, raw, ◌⊛◌, some, later, at_ret, ◌$◌, ◌∵◌, !, qed, by, done, drop, move, keep, use0, use1, split, split3, join, group, fsplit, fsplit3, fjoin, fpack, pick, await, rewrite}
use types.Run.{enter, fld, hop, stop, of_opd, first, blocks, exec, returns, addr}
use types.ByLocal.{alloc_all, pass_all, free_all, look_at, get, through, sets, sets_last, env}
use types.Part.{whole, sub, look_in}
use denote.Exit.{no}
use denote.Follow.{follows, Part, lends_Part}
use denote.Memory.{cell_at, lone, mem, part_at, part_of}
use denote.Param.{layouts, param}
use denote.RattleType.{RattleType}
use denote.RawPtr.{Ptr, block_ptr}
use denote.Ref.{MutRef, mut_vals, mut_Tells}
use denote.Signature.{plain, mut_ref_to}
use denote.Steps.{nothing, opens, heard}
use denote.Triple.Walked.{Stays, walk_of, stay_dropped, Goes-spent_ref}
use Rattle.core.proofs.alloc.Shapes.{after}
use Rattle.std.specs.contracts.prelude.GlobalAllocator.TheImpl.{ghosts}
use Rattle.c_base.specs.Borrow.{with_heap}
use Rattle.c_base.specs.contracts.block.HeapBlock.{the_row as P}
use Rattle.c_base.specs.contracts.block.HeapBlock.lend as f
use Rattle.c_base.proofs.block.HeapBlock.lend.Statement.{statement}
use Rattle.c_base.proofs.block.HeapBlock.lend.Code as code
use Rattle.c_base.proofs.Blocks.{place_val, place_in, place_out}

module _ (T : RattleType) where
  abbrev R : RattleType
  R = P T

  -- the rest of the `HeapBlock` while its heap is borrowed: the right to free the block, and the address
  abbrev Rest : ℕ → ℕ → ℕ → ℕ → Fml
  Rest b o rb ro = fsep (ghosts.dealloc_token (record { memory = record { seal = tt } }) (bare (lone T.mir)) (block_ptr b o)) (cell_at full_share R.mir (place_val (block_ptr b o) ∷ []) rb ro)

  -- any heap can be joined with the rest to a `HeapBlock`
  back : {M : Type 1} {𝓤 : Ura M} (𝓛 : Logic 𝓤) (h : R.Denot) (b o rb ro : ℕ) → h.at ≡ block_ptr b o
      → (w : T.Denot) → ent 𝓤 (sep 𝓤 (sem 𝓛 ((mem T).own_at w b o)) (sem 𝓛 (Rest b o rb ro))) (sem 𝓛 ((mem R).own_at (with_heap h w) rb ro))
  unfolding part_of
  back 𝓛 h b o rb ro at w =
      qed 𝓛 (‵ (part_at T full_share w b o) ∷ ‵ (Rest b o rb ro) ∷ []) ∵ move ! (1 ∷ []) $ fsplit ! $ move ! (2 ∷ 0 ∷ []) $ fjoin ! $
      place_in T ! (block_ptr b o) (Some w) $
      rewrite ! 0 (λ (p : Ptr). ‵ (R.own_val (record { at = p; held = Some w }) (place_val (block_ptr b o) ∷ []))) (sym at) refl $ move ! (1 ∷ 0 ∷ []) $ fjoin ! $
      fpack ! (List Val) (λ us. fsep (cell_at full_share R.mir us rb ro) (R.own_val (with_heap h w) us)) (place_val (block_ptr b o) ∷ []) $ done !

pub lend_spec : {M : Type 1} → statement M
lend_spec 𝓤 𝓛 𝓜 𝓡 wired X L =
    let c = f.clauses X 𝓛 𝓜.mem 𝓡.returns in let ended = f.ended X in let T = param 0 X in let R = P T in
    let stayed : Stays ended.signature.params ended.kept = (stay_dropped (mut_ref_to (0 ∷ []) tt (plain (λ _. R))) no, tt) in
    let W = walk_of 𝓛 ended stayed c in let 𝓣 = tables 𝓤 𝓛.H 𝓜 𝓡 𝓡.env in
    let given = layouts (a_type ∷ []) (X, tt) in let fn = inst_fn given code.function in
    proved 𝓛 ended stayed c 𝓜 𝓡 (Goes-spent_ref 𝓛 2 (0 ∷ []) tt (plain (λ _. R)), tt)
    (f.Key.name given) fn (code.unfolded 𝓤 𝓛.H 𝓜 𝓡 wired (X, tt))
    (λ κs. (mut_vals, tt)) (λ κs. (mut_Tells (named 0) κs.0 R, tt)) (λ κs qs bounds a _ are.
    let κ = κs.0 in let q = qs.0 in let γ = a.0.ghost_name in let h = a.0.now in let rb = a.0.ref_ptr.0 in let ro = a.0.ref_ptr.1 in
    let y : W.Ghost = ((κs, qs, bounds, a, (mut_vals a.0, tt)), tt) in
    let lives = ‵ (flft κs.1.0 qs.1.0) ⊛ ‵ ftrue in
    qed 𝓛 (((‵ (flft κ q) ⊛ lives) ⊛ ‵ ((MutRef (named 0) κ R).own_val a.0 (mut_vals a.0)) ⊛ ‵ ftrue) ∷ (raw (fact 𝓤 (κs.1.0 ⊑ X.lives)) ⊛ raw (fact 𝓤 (IsSome h.held))) ∷ []) ∵
    move ! (1 ∷ []) $ split ! $ drop ! $ heard ! (IsSome h.held) (λ some_held.
    split ! $ split ! $ move ! (2 ∷ []) $ split ! $ keep ! (0 ∷ 2 ∷ 3 ∷ []) $
    enter ! _ _ _ _ _ $ alloc_all ! (λ l. pass_all ! refl ((tt, tt), tt) $
    let En = env fn.locals l in
    -- [the reference to the `HeapBlock`; the token of its lifetime; that of T]
    fsplit3 ! $ move ! (1 ∷ 2 ∷ 3 ∷ []) $ opens ! tt R rb ro (λ vs. move ! (1 ∷ []) $ place_out T ! h vs some_held (λ x held b o at is.
    rewrite ! 1 (λ (ws : List Val). ‵ (cell_at full_share R.mir ws rb ro)) is refl $ fsplit ! $
    -- [the heap; the right to free its block; the `HeapBlock`; the open borrow, in three entries]
    first ! $ blocks ! $
    sets_last ! (addr ! (through ! refl (fld ! refl (hop ! (look_in ! 2 (sub ! 0 refl (whole !))) (stop !))))) refl (tt, tt) $
    exec ! 𝓣.C 𝓣.Λ En (after 1 fn.body) (at_ret _ (W.post y)) $
    sets ! (of_opd ! (get ! refl)) refl (tt, tt) $
    move ! (1 ∷ 2 ∷ []) $ fjoin ! $ move ! (2 ∷ 3 ∷ 4 ∷ 1 ∷ 0 ∷ []) $ group ! 5 $
    let mend = back T 𝓛 h b o rb ro at in
    use1 𝓛 (later (some (λ (γ' : GName). raw (Part 𝓛 R T (with_heap h) (named 0) κ q rb ro b o γ (sem 𝓛 (Rest T b o rb ro)) mend x γ'))))
    (lends_Part 𝓛 R T (with_heap h) (named 0) κ q rb ro b o γ (sem 𝓛 (Rest T b o rb ro)) mend (R.coded.code h) (R.coded.code h) x) $
    await ! tt $ pick ! (λ γ'.
    returns ! (look_at ! 0 refl) $ free_all ! refl $ keep ! (0 ∷ 2 ∷ []) $
    let r : MutBor T.Denot = record { ref_ptr = (b, o); ghost_name = γ'; now = x } in
    use1 𝓛 (‵ ((MutRef (named 0) κ T).own_val r (vptr b o ∷ [])) ⊛ ‵ (flft κ q) ⊛ ‵ (follows R T γ γ' (with_heap h))) (id⊢ 𝓤 _) $ split3 ! $
    -- [the reference to the heap; the token of its lifetime; how the `HeapBlock` follows; the tokens of T]
    move ! (1 ∷ 3 ∷ []) $ join ! $ nothing ! $ nothing ! $ fjoin ! $
    use0 𝓛 (raw (fact 𝓤 (h.held ≡ Some x))) (fact_i 𝓤 _ (emp 𝓤) held) $ move ! (2 ∷ 1 ∷ 3 ∷ 4 ∷ []) $
    by ! (leaves 𝓛 ended stayed c y (vptr b o) r (tt, tt) (tt, tt))))))))
