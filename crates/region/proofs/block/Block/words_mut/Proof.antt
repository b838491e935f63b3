-- `words_mut` lends the words; the words that the borrow leaves become the block's.
use Rattle.std.proofs.Common.{◌≡◌, ℕ, ◌^◌, ◌<◌, List, [], ◌∷◌, length, refl, sym, ◌∙◌, arith, MutBor}
use Rattle.std.proofs.raw_atomic.Walks.{proved, leaves}
use base.Fraction.{full_share}
use base.Fml.{Fml, GName, ftrue, fsep, flft}
use seplogic.Ra.Ura.{Ura}
use base.Logic.{ent, sep, emp, id⊢}
use mir.Syntax.{named}
use mir.Val.{Val}
use contract.Monad.{fact, fact_i}
use contract.Running.{tables}
use types.Logic.{Logic, sem}
use types.Kit.{‵, raw, ◌⊛◌, some, later, at_ret, ◌$◌, ◌∵◌, !, qed, by, done, move, keep, use0, use1, split, split3, join, group, fsplit, fsplit3, fjoin, fpack}
use types.Kit.{pick, await, rewrite}
use types.Run.{enter, load, fld, stop, of_opd, no_more, and_then, first, blocks, exec, returns}
use types.ByLocal.{alloc_all, pass_all, free_all, look_at, get, through, sets, sets_last, env}
use types.Part.{whole, sub, look_in, agg}
use types.SemTy.{cells}
use denote.Array.{Array}
use denote.Builtin.{u64}
use denote.Exit.{no}
use denote.Follow.{follows}
use denote.FollowSlice.{Elements, lends_Elements}
use denote.Memory.{cell_at, mem, part_of}
use denote.RawPtr.{block_ptr}
use denote.Ref.{MutRef, mut_vals, mut_Tells}
use denote.Signature.{plain, mut_ref_to}
use denote.Slice.{MutSlice, Room, slice_val}
use denote.Steps.{nothing, opens}
use denote.Triple.Walked.{Stays, walk_of, stay_dropped, Goes-spent_ref}
use Rattle.region.specs.BlockLoan.{with_items}
use Rattle.region.specs.Layout.{may_free}
use Rattle.region.specs.contracts.block.Block.{the_row as R}
use Rattle.region.specs.contracts.block.Block.words_mut as f
use Rattle.region.proofs.block.Block.words_mut.Statement.{statement}
use Rattle.region.proofs.block.Block.words_mut.Code as code
use Rattle.region.proofs.Lists.{as_many}
use Rattle.region.proofs.LayoutFacts.{block_val, block_had, block_made, row_out, row_in}

-- the rest of the block while its words are borrowed
abbrev Rest : R.Denot → ℕ → ℕ → ℕ → ℕ → Fml
Rest h b o rb ro = fsep (may_free (block_ptr b o) h.len) (cell_at full_share R.mir (block_val b o h.len ∷ []) rb ro)

room_of : (h : R.Denot) → Room u64 (length h.items)
room_of h = (let e = h.counted in let s = h.small in (omega arith, omega arith))

-- any words of the same length can be joined with the rest to a block
back : {M : Type 1} {𝓤 : Ura M} (𝓛 : Logic 𝓤) (h : R.Denot) (b o rb ro : ℕ) → h.at ≡ block_ptr b o → h.len < 2 ^ 64
    → (ws : List ℕ) → length ws ≡ length h.items → ent 𝓤 (sep 𝓤 (sem 𝓛 (cells (mem u64) ws b o)) (sem 𝓛 (Rest h b o rb ro)))
    (sem 𝓛 ((mem R).own_at (with_items h ws) rb ro))
unfolding part_of
back 𝓛 h b o rb ro at fn ws e =
    let long : length ws ≡ h.len = e ∙ sym h.counted in
    qed 𝓛 (‵ (cells (mem u64) ws b o) ∷ ‵ (Rest h b o rb ro) ∷ []) ∵ row_in ! h.len ws b o long $ move ! (1 ∷ []) $ fsplit ! $ move ! (2 ∷ 0 ∷ []) $
    block_made ! (with_items h ws) b o h.len ws at refl (as_many h.len h.items ws h.counted long) fn $ move ! (1 ∷ 0 ∷ []) $ fjoin ! $
    fpack ! (List Val) (λ us. fsep (cell_at full_share R.mir us rb ro) (R.own_val (with_items h ws) us)) (block_val b o h.len ∷ []) $ done !

abbrev stayed : Stays f.ended.signature.params f.ended.kept
stayed = (stay_dropped (mut_ref_to (0 ∷ []) tt (plain (λ _. R))) no, tt)

pub words_mut_spec : {M : Type 1} → statement M
words_mut_spec 𝓤 𝓛 𝓜 𝓡 wired =
    let c = f.clauses 𝓛 𝓜.mem 𝓡.returns in let W = walk_of 𝓛 f.ended stayed c in let 𝓣 = tables 𝓤 𝓛.H 𝓜 𝓡 𝓡.env in
    proved 𝓛 f.ended stayed c 𝓜 𝓡 (Goes-spent_ref 𝓛 1 (0 ∷ []) tt (plain (λ _. R)), tt)
    f.Key.name code.function (code.unfolded 𝓤 𝓛.H 𝓜 𝓡 wired)
    (λ κs. (mut_vals, tt)) (λ κs. (mut_Tells (named 0) κs.0 R, tt)) (λ κs qs bounds a _ are.
    let κ = κs.0 in let q = qs.0 in let γ = a.0.ghost_name in let h = a.0.now in let rb = a.0.ref_ptr.0 in let ro = a.0.ref_ptr.1 in
    let y : W.Ghost = ((κs, qs, bounds, a, (mut_vals a.0, tt)), tt) in
    qed 𝓛 (((‵ (flft κ q) ⊛ ‵ ftrue) ⊛ ‵ ((MutRef (named 0) κ R).own_val a.0 (mut_vals a.0)) ⊛ ‵ ftrue) ∷ ‵ ftrue ∷ []) ∵
    split ! $ split ! $ move ! (2 ∷ []) $ split ! $ keep ! (0 ∷ 2 ∷ []) $
    enter ! _ _ _ _ _ $ alloc_all ! (λ l. pass_all ! refl ((tt, tt), tt) $
    let En = env code.Mir.locals l in
    fsplit3 ! $ move ! (1 ∷ 2 ∷ 3 ∷ []) $ opens ! tt R rb ro (λ vs. move ! (1 ∷ []) $ block_had ! h vs (λ b o at is fn.
    rewrite ! 2 (λ (ws : List Val). ‵ (cell_at full_share R.mir ws rb ro)) is refl $
    -- [the words; the right to free them; the block; the open borrow, in three entries]
    first ! $ blocks ! $
    sets ! (of_opd ! (load ! (through ! refl (fld ! refl (stop !))) (look_in ! 2 (sub ! 0 refl (whole !))))) refl (tt, tt) $
    sets ! (of_opd ! (load ! (through ! refl (fld ! refl (stop !))) (look_in ! 2 (sub ! 1 refl (whole !))))) refl (tt, record { fits = fn }) $
    sets_last ! (agg ! (and_then ! (get ! refl) (and_then ! (get ! refl) (no_more !)))) refl (tt, (tt, (record { fits = fn }, tt))) $
    exec ! 𝓣.C 𝓣.Λ En code.Mir.t-2 (at_ret _ (W.post y)) $
    sets ! (of_opd ! (get ! refl)) refl (tt, (tt, (record { fits = fn }, tt))) $
    row_out ! h.len h.items b o (λ _. move ! (1 ∷ 2 ∷ []) $ fjoin ! $ move ! (2 ∷ 3 ∷ 4 ∷ 1 ∷ 0 ∷ []) $ group ! 5 $
    let room : Room u64 (length h.items) = room_of h in
    let mend = back 𝓛 h b o rb ro at fn in
    use1 𝓛 (later (some (λ (δ : GName). raw (Elements 𝓛 R u64 (with_items h) (named 0) κ q rb ro b o γ h.items room (sem 𝓛 (Rest h b o rb ro)) mend δ))))
    (lends_Elements 𝓛 R u64 (with_items h) (named 0) κ q rb ro b o γ h.items room (sem 𝓛 (Rest h b o rb ro)) mend (R.coded.code h) (R.coded.code h)) $
    await ! tt $ pick ! (λ δ.
    returns ! (look_at ! 0 refl) $ free_all ! refl $ keep ! (0 ∷ []) $
    let r : MutBor (List ℕ) = record { ref_ptr = (b, o); ghost_name = δ; now = h.items } in
    use1 𝓛 (‵ ((MutSlice (named 0) κ u64).own_val r (slice_val (b, o) (length h.items) ∷ [])) ⊛ ‵ (flft κ q) ⊛
    ‵ (follows R (Array u64 0) γ δ (with_items h))) (id⊢ 𝓤 _) $ split3 ! $
    rewrite ! 0 (λ (m : ℕ). ‵ ((MutSlice (named 0) κ u64).own_val r (slice_val (b, o) m ∷ []))) (sym h.counted) refl $
    nothing ! $ move ! (2 ∷ 0 ∷ []) $ join ! $ nothing ! $ nothing ! $ fjoin ! $
    use0 𝓛 (raw (fact 𝓤 (r.now ≡ h.items))) (fact_i 𝓤 _ (emp 𝓤) refl) $ move ! (2 ∷ 1 ∷ 3 ∷ 4 ∷ []) $
    by ! (leaves 𝓛 f.ended stayed c y (slice_val (b, o) h.len) r (tt, tt) (tt, tt))))))))
