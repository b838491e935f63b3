-- For `Unboxed`, the allocator and the address that a box leaves when it is taken apart, and each `HeapBlock`: an `Unboxed` in machine values, and how to take
-- it apart and put it together.
use Rattle.std.proofs.Common.{◌≡◌, ℕ, List, [], ◌∷◌, ◌++◌, refl, subst, ap}
use mathlib.Core.Bool.{true, ◌&&◌}
use lib.Dec.{T}
use seplogic.Ra.Ura.{Ura}
use mir.Syntax.{impl, tnil, dnil}
use mir.Raw.{raw as bare}
use mir.Val.{Val, vptr, vstruct, of_list, has_ty, WT}
use base.Fml.{Fml}
use base.Logic.{never, fst∗}
use types.Logic.{Logic, sem}
use types.Kit.{Item, Goal, Seq, Step, step, ‵, ◌$◌, move, drop, fsplit, fjoin, fpick, fpack, rewrite, feq_i, feq_l}
use denote.RattleType.{RattleType, Valss}
use denote.Builtin.{RawPtr}
use denote.Memory.{lone}
use denote.RawPtr.{Ptr, block_ptr, null_ptr, ptr_val, in_a_block}
use denote.Steps.{nothing, only}
use denote.Param.{layout}
use denote.Param.Laws.{Laws}
use denote.Struct.Struct.{within}
use denote.Struct.Tuple.{Tuple}
use denote.Struct.Owning.{shape}
use Rattle.core.specs.declared.alloc.Allocator.{Ghosts}
use Rattle.core.proofs.alloc.Calls.{Al, handle_tells}
use Rattle.core.proofs.cell.Inside.{Good}
use Rattle.std_alloc.specs.Box.Ownership.{box_owns}
use Rattle.std_alloc.proofs.ResultValues.{and_tt}
use Rattle.c_base.specs.contracts.unboxed.Unboxed as unboxed

-- the machine value with the parts h, an allocator, and the address with block b and offset o
abbrev pub parts : Val → ℕ → ℕ → Val
parts h b o = vstruct (of_list (h ∷ vptr b o ∷ []))

-- the allocator as the kit's steps take it; no step here calls one of its methods
abbrev pub allocator_of : (Z : RattleType) → Laws Z → Ghosts Z.Denot → Al
allocator_of Z L g = record { row = Z; laws = L; g = g; d = impl [] tnil dnil; drops = impl [] tnil dnil }

module _ (R Z : RattleType) (L : Laws Z) (g : Ghosts Z.Denot) where
  -- the type of an unboxed value of type R with an allocator of type Z
  abbrev pub U : RattleType
  U = unboxed.the_row R Z g

  -- the value in its block, with the right to free it
  abbrev pub block : Z.Denot → Ptr → R.Denot → Fml
  block a p x = box_owns (g.dealloc_token a) R p x

  pub parts_fit : (h : Val) (b o : ℕ) → Good (layout Z) h → T (has_ty (layout Z) h && true) × WT (parts h b o)
  parts_fit h b o good = (and_tt (has_ty (layout Z) h) good.0, (good.1, (tt, tt)))

  pub box_fits : (h : Val) (b o : ℕ) → Good (layout Z) h → T (has_ty (layout Z) h && true) × WT (vstruct (of_list (vptr b o ∷ h ∷ [])))
  box_fits h b o good = (and_tt (has_ty (layout Z) h) good.0, (tt, (good.1, tt)))

  module _ {M : Type 1} {𝓤 : Ura M} {𝓛 : Logic 𝓤} {K : Type 0} {Γ : List (Item 𝓤)} {G : Goal 𝓤 𝓛.H} where
    -- who owns an unboxed value may own its block and its allocator instead
    pub take_apart : K → (d : U.Denot) (vs : List Val)
        → ((h : Val) (b o : ℕ) → d.at ≡ block_ptr b o → vs ≡ parts h b o ∷ [] → Good (layout Z) h
        → Seq K 𝓛 (‵ (block d.alloc (block_ptr b o) d.value) ∷ ‵ (Z.own_val d.alloc (h ∷ [])) ∷ Γ) G)
        → Seq K 𝓛 (‵ (U.own_val d vs) ∷ Γ) G
    take_apart t d vs k =
        fsplit t $ fpick t (λ vss. fsplit t $ feq_l t (λ whole. fsplit t $
        -- [the allocator; the address and nothing; the block]
        handle_tells (allocator_of Z L g) t d.alloc vss.0 (λ h first good. move t (1 ∷ []) $ fsplit t $ feq_l t (λ second. drop t $ move t (1 ∷ []) $
        in_a_block t d.at (λ p. block d.alloc p d.value) (fst∗ 𝓤 (never 𝓤) (sem 𝓛 (g.dealloc_token d.alloc (bare (lone R.mir)) null_ptr))) (λ b o at.
        let one = subst (λ (ws : List Val). vs ≡ vstruct (of_list (ws ++ (vss.1.0 ++ []))) ∷ []) first whole in
        let two = subst (λ (ws : List Val). vs ≡ vstruct (of_list (h ∷ (ws ++ []))) ∷ []) second one in
        k h b o at (subst (λ (p : Ptr). vs ≡ vstruct (of_list (h ∷ ptr_val p ∷ [])) ∷ []) at two) good)))))

    -- the pair of an address and an allocator that a box leaves
    pub pair_apart : K → (r : Ptr × Z.Denot) (u : Val) (a : Z.Denot) (x : R.Denot) → r.1 ≡ a
        → ((h : Val) (b o : ℕ) → u ≡ vstruct (of_list (vptr b o ∷ h ∷ [])) → Good (layout Z) h
        → Seq K 𝓛 (‵ (block a (block_ptr b o) x) ∷ ‵ (Z.own_val a (h ∷ [])) ∷ Γ) G)
        → Seq K 𝓛 (‵ (block a r.0 x) ∷ ‵ ((Tuple (RawPtr ∷ Z ∷ [])).own_val r (u ∷ [])) ∷ Γ) G
    pair_apart t r u a x same k =
        in_a_block t r.0 (λ p. block a p x) (fst∗ 𝓤 (never 𝓤) (sem 𝓛 (g.dealloc_token a (bare (lone R.mir)) null_ptr))) (λ b o at. move t (1 ∷ []) $
        fpick t (λ vss. fsplit t $ feq_l t (λ whole. fsplit t $ feq_l t (λ first. fsplit t $
        -- [the allocator; nothing; the block]
        rewrite t 0 (λ (y : Z.Denot). ‵ (Z.own_val y vss.1.0)) same refl $
        handle_tells (allocator_of Z L g) t a vss.1.0 (λ h second good. move t (1 ∷ []) $ drop t $ move t (1 ∷ []) $
        let one = subst (λ (ws : List Val). u ∷ [] ≡ vstruct (of_list (ws ++ (vss.1.0 ++ []))) ∷ []) first whole in
        let two = subst (λ (p : Ptr). u ∷ [] ≡ vstruct (of_list (ptr_val p ∷ (vss.1.0 ++ []))) ∷ []) at one in
        k h b o (ap only (subst (λ (ws : List Val). u ∷ [] ≡ vstruct (of_list (vptr b o ∷ (ws ++ []))) ∷ []) second two)) good)))))

    -- who owns a block and its allocator may own the unboxed value of both
    pub put_together : K → (h : Val) (b o : ℕ) (a : Z.Denot) (x : R.Denot)
        → Step K 𝓛 (‵ (U.own_val (record { alloc = a; at = block_ptr b o; value = x }) (parts h b o ∷ [])) ∷ Γ) G
        (‵ (block a (block_ptr b o) x) ∷ ‵ (Z.own_val a (h ∷ [])) ∷ Γ) G
    put_together t h b o a x = step (λ s.
        nothing t $ feq_i t (List Val) (vptr b o ∷ []) (vptr b o ∷ []) refl $ fjoin t $ move t (2 ∷ 0 ∷ []) $ fjoin t $
        feq_i t (List Val) (parts h b o ∷ []) (parts h b o ∷ []) refl $ fjoin t $
        fpack t (Valss (Z ∷ RawPtr ∷ [])) (within (shape (unboxed.the_type R Z g)) (a, (block_ptr b o, tt)) (parts h b o ∷ [])) (h ∷ [], (vptr b o ∷ [], tt)) $ fjoin t $ s)
