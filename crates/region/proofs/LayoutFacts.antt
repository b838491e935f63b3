-- For the calls of `Block`, the memory of a region: its value as the machine has it; splitting what it owns into its words and the right to free them, and
-- joining the two again; its words as single cells; and the uninitialized memory that released words leave.
use Rattle.std.proofs.Common.{◌≡◌, ℕ, ◌+◌, ◌^◌, ◌<◌, List, [], ◌∷◌, ◌++◌, length, refl, sym, ap, ◌∙◌, w64}
use seplogic.Ra.Ura.{Ura}
use base.Fraction.{full_share}
use base.Logic.{ent, id⊢, never}
use base.Fml.{Fml, feq, fsep, fat, froom}
use mir.Syntax.{ty_int, ty_array}
use mir.Val.{Val, vptr, vint, vstruct, vcons, vnil, of_list}
use types.Logic.{Logic, sem}
use types.Kit.{Goal, Item, Step, Seq, step, ‵, ◌$◌, ◌∵◌, !, qed, by, move, drop, use1, rewrite, fsplit, fjoin, fpick, fpack, feq_l, feq_i, flt_l, flt_i}
use types.SemTy.{cells}
use denote.ArrayMemory.{Array-apart, Array-whole}
use denote.Builtin.{u64}
use denote.Index.{row, whole_in, whole_out}
use denote.Memory.{mem, part_at}
use denote.Plain.{uint_out}
use denote.RattleType.{RattleType, Valss}
use denote.RawPtr.{Ptr, block_ptr, ptr_val, in_a_block}
use denote.Steps.{nothing}
use denote.Struct.Owning.{shape}
use denote.Struct.Struct.{Struct, within}
use Rattle.region.specs.Layout.{words_at, may_free, block_owns}
use Rattle.region.specs.contracts.block.Block as C

-- the machine value of a `Block`: the pointer to its memory, at offset o of allocation b, and the number n of its words
abbrev pub block_val : ℕ → ℕ → ℕ → Val
block_val b o n = vstruct (vcons (vptr b o) (vcons (vint w64 n) vnil))

abbrev Fields : RattleType
Fields = Struct (shape C.the_type)

abbrev Owns : Ptr → ℕ → List ℕ → List Val → Fml
Owns p n xs vs = fsep (Fields.own_val (p, (n, tt)) vs) (block_owns p n xs)

module _ {M : Type 1} {𝓤 : Ura M} {𝓛 : Logic 𝓤} {K : Type 0} {Γ : List (Item 𝓤)} {G : Goal 𝓤 𝓛.H} where
  -- the words at an address as single cells
  pub row_out : K → (n : ℕ) (xs : List ℕ) (b o : ℕ) → (length xs ≡ n → Seq K 𝓛 (‵ (cells (mem u64) xs b o) ∷ Γ) G)
      → Seq K 𝓛 (‵ (words_at (block_ptr b o) n xs) ∷ Γ) G
  row_out t n xs b o k =
      use1 𝓛 (‵ (fsep (feq ℕ (length xs) n) (row u64 full_share xs b o))) (Array-apart 𝓛 u64 full_share tt n xs b o) $ fsplit t $ feq_l t (λ e.
      use1 𝓛 (‵ (cells (mem u64) xs b o)) (whole_in 𝓛 u64 xs b o) $ k e)

  pub row_in : K → (n : ℕ) (xs : List ℕ) (b o : ℕ) → length xs ≡ n → Step K 𝓛 (‵ (words_at (block_ptr b o) n xs) ∷ Γ) G (‵ (cells (mem u64) xs b o) ∷ Γ) G
  row_in t n xs b o e = step (λ s.
      use1 𝓛 (‵ (row u64 full_share xs b o)) (whole_out 𝓛 u64 xs b o) $ feq_i t ℕ (length xs) n e $ fjoin t $
      use1 𝓛 (‵ (words_at (block_ptr b o) n xs)) (Array-whole 𝓛 u64 full_share n xs b o) $ s)

module _ {M : Type 1} {𝓤 : Ura M} {𝓛 : Logic 𝓤} {K : Type 0} {Γ : List (Item 𝓤)} {G : Goal 𝓤 𝓛.H} where
  -- what a block owns, split into two: [its words; the right to free them]
  pub block_had : K → (d : C.the_row.Denot) (vs : List Val)
      → ((b o : ℕ) → d.at ≡ block_ptr b o → vs ≡ block_val b o d.len ∷ [] → d.len < 2 ^ 64
      → Seq K 𝓛 (‵ (words_at (block_ptr b o) d.len d.items) ∷ ‵ (may_free (block_ptr b o) d.len) ∷ Γ) G)
      → Seq K 𝓛 (‵ (C.the_row.own_val d vs) ∷ Γ) G
  block_had t d vs k =
      fsplit t $ fpick t (λ vss. fsplit t $ feq_l t (λ all. fsplit t $ feq_l t (λ e₀. fsplit t $ fsplit t $ feq_l t (λ e₁. flt_l t (λ fn. drop t $ fsplit t $
      in_a_block t d.at (λ p. words_at p d.len d.items) (id⊢ 𝓤 (never 𝓤)) (λ b o e. move t (1 ∷ []) $
      rewrite t 0 (λ (p : Ptr). ‵ (may_free p d.len)) e refl $ move t (1 ∷ []) $
      k b o e (all ∙ (λ i. vstruct (of_list (e₀ i ++ (e₁ i ++ []))) ∷ [])
      ∙ ap (λ (p : Ptr). vstruct (vcons (ptr_val p) (vcons (vint w64 d.len) vnil)) ∷ []) e) fn))))))

  -- the words and the right to free them make any block d with these fields
  pub block_made : K → (d : C.the_row.Denot) (b o n : ℕ) (xs : List ℕ) → d.at ≡ block_ptr b o → d.len ≡ n → d.items ≡ xs → n < 2 ^ 64
      → Step K 𝓛 (‵ (C.the_row.own_val d (block_val b o n ∷ [])) ∷ Γ) G (‵ (words_at (block_ptr b o) n xs) ∷ ‵ (may_free (block_ptr b o) n) ∷ Γ) G
  block_made t d b o n xs e₀ e₁ e₂ fn = step (λ s.
      fjoin t $ nothing t $ flt_i t n (2 ^ 64) fn $ feq_i t (List Val) (vint w64 n ∷ []) (vint w64 n ∷ []) refl $ fjoin t $ fjoin t $
      feq_i t (List Val) (vptr b o ∷ []) (vptr b o ∷ []) refl $ fjoin t $ feq_i t (List Val) (block_val b o n ∷ []) (block_val b o n ∷ []) refl $ fjoin t $
      fpack t (Valss (shape C.the_type).fields) (within (shape C.the_type) (block_ptr b o, (n, tt)) (block_val b o n ∷ []))
      (vptr b o ∷ [], (vint w64 n ∷ [], tt)) $ fjoin t $
      rewrite t 0 (λ (p : Ptr). ‵ (Owns p n xs (block_val b o n ∷ []))) (sym e₀) refl $
      rewrite t 0 (λ (m : ℕ). ‵ (Owns d.at m xs (block_val b o n ∷ []))) (sym e₁) refl $
      rewrite t 0 (λ (l : List ℕ). ‵ (Owns d.at d.len l (block_val b o n ∷ []))) (sym e₂) refl $ s)

-- words that are released leave uninitialized memory; no words need no memory
module _ {M : Type 1} {𝓤 : Ura M} (𝓛 : Logic 𝓤) where
  open 𝓛 use {H}

  pub cells_room : (xs : List ℕ) (b o : ℕ) → ent 𝓤 (sem 𝓛 (cells (mem u64) xs b o)) (H.room (ty_array (ty_int w64) (length xs)) b o)
  cells_room [] b o = 𝓛.laws.room_nil (ty_int w64) b o
  cells_room (x ∷ xs) b o =
      qed 𝓛 (‵ (part_at u64 full_share x b o) ∷ ‵ (cells (mem u64) xs b (o + 8)) ∷ []) ∵
      use1 𝓛 (‵ (fat full_share (ty_int w64) b o (vint w64 x))) (uint_out 𝓛 full_share w64 x b o) $
      use1 𝓛 (‵ (froom (ty_int w64) b o)) (𝓛.laws.at_room (ty_int w64) b o (vint w64 x)) $
      move ! (1 ∷ []) $ use1 𝓛 (‵ (froom (ty_array (ty_int w64) (length xs)) b (o + 8))) (cells_room xs b (o + 8)) $ move ! (1 ∷ 0 ∷ []) $
      by ! (𝓛.laws.room_cons (ty_int w64) (length xs) b o)
