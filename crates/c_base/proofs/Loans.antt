-- For `Loan`, which owns the words of a heap and what makes the heap whole again: its machine value; how to put it together, to take it apart, and to end the
-- loan; when the heap may be replaced by one with as many words (`replaced`). A block that has the fields of a heap isn't empty (`fit_some`).
use Rattle.std.proofs.Common.{◌≡◌, ℕ, List, [], ◌∷◌, ◌++◌, refl, subst, length, Option, Some, None, IsSome, sym}
use seplogic.Ra.Ura.{Ura}
use base.Fraction.{full_share}
use base.Fml.{feq, fsep, fobs, fres}
use base.Stored.{coded_list}
use mathlib.Core.Bool.{true≢false}
use mir.Val.{Val, vstruct, of_list}
use base.Logic.{ent}
use types.Logic.{Logic, sem}
use types.Kit.{Item, Goal, Soaks, Seq, Step, step, ‵, later, ◌$◌, ◌∵◌, !, qed, done, drop, move, fsplit, fjoin, fpick, fpack, rewrite, feq_i, feq_l, use1, use2, use3, await}
use types.Tokens.{lft_end, name_done}
use denote.RattleType.{RattleType, Valss}
use denote.Array.{Array}
use denote.ArrayMemory.{Array-apart}
use denote.Builtin.{u64}
use denote.Follow.{followed}
use denote.FollowSlice.{heres_id}
use denote.Index.{row, closes_slice}
use denote.Laws.{Is}
use denote.Lend.{ref_back}
use denote.Memory.{mem}
use denote.RawPtr.{Ptr, block_ptr, lies_at}
use denote.Steps.{nothing, owned}
use denote.Struct.Laws.{makes}
use denote.Struct.Owning.{shape}
use denote.Struct.Struct.{within}
use denote.Struct.Tuple.{Tuple}
use Rattle.std.specs.contracts.marker.PhantomData as Mark
use Rattle.c_base.specs.HeapBlock.{lies_in_block}
use Rattle.c_base.specs.Lending.{IsFit, IsLooseOf, Lending}
use Rattle.c_base.specs.Lent.{Names, loan_owns, may_free_value, open_borrow, opened}
use Rattle.c_base.specs.declared.loan.Lendable.{Ghosts}
use Rattle.c_base.specs.contracts.loan.Loan as Q

-- the machine value of the mark, which names the types, and of a `Loan`, which has this field alone
abbrev pub mark : Val
mark = vstruct (of_list [])

abbrev pub loan_val : Val
loan_val = vstruct (of_list (mark ∷ []))

-- a block that has the fields of a heap has some
pub fit_some : {T S : Type 0} (L : Lending T S) (h : Option S) → IsFit L h → IsSome h
fit_some L None k = absurd k
fit_some L (Some a) k = refl

-- the type of the mark
abbrev Types : RattleType → RattleType → RattleType
Types T S = Mark.the_row (Tuple (T ∷ S ∷ []))

module _ (T S : RattleType) (g : Ghosts T.Denot S.Denot) {M : Type 1} {𝓤 : Ura M} {𝓛 : Logic 𝓤} {K : Type 0} {Γ : List (Item 𝓤)} {G : Goal 𝓤 𝓛.H} where
  -- who owns the words of the heap of the block at p, and what makes it whole again, may own the `Loan`
  pub loan_in : K → (p w : Ptr) (h : Option T.Denot)
      → Step K 𝓛 (‵ ((Q.the_row T S g).own_val (record { of = record {}; heap = h; block = p; words = w }) (loan_val ∷ [])) ∷ Γ) G (‵ (loan_owns S g.lending p w h) ∷ Γ) G
  loan_in t p w h = step (λ s.
      nothing t $ owned t (Types T S) (Is (Types T S)) (makes (Mark.the_type (Tuple (T ∷ S ∷ []))) tt 𝓛) (record {}) (mark ∷ []) (tt, (refl, tt)) $ fjoin t $
      feq_i t (List Val) (loan_val ∷ []) (loan_val ∷ []) refl $ fjoin t $
      fpack t (Valss (Types T S ∷ [])) (within (shape (Q.the_type T S g)) (record {}, tt) (loan_val ∷ [])) (mark ∷ [], tt) $ fjoin t $ s)

  loan_some : K → (d : (Q.the_row T S g).Denot) (vs : List Val) (x : T.Denot) → d.heap ≡ Some x
      → ((b o : ℕ) → d.block ≡ block_ptr b o → vs ≡ loan_val ∷ [] → Seq K 𝓛 (‵ (loan_owns S g.lending (block_ptr b o) d.words (Some x)) ∷ Γ) G)
      → Seq K 𝓛 (‵ ((Q.the_row T S g).own_val d vs) ∷ Γ) G
  loan_some t d vs x some k =
      let L = g.lending in let xs : List ℕ = L.words x in
      fsplit t $ fpick t (λ vss. fsplit t $ feq_l t (λ whole. fsplit t $ fpick t (λ zss. fsplit t $ feq_l t (λ first. drop t $ drop t $
      rewrite t 0 (λ (h : Option T.Denot). ‵ (loan_owns S L d.block d.words h)) some refl $
      fsplit t $ move t (1 ∷ []) $ fpick t (λ (m : (n : Names S.Denot) × IsLooseOf L (L.with_words n.parts xs) x). fsplit t $ feq_l t (λ at.
      -- the address is that of the names
      feq_i t Ptr d.block (block_ptr m.0.heap_at.0 m.0.heap_at.1) at $ fjoin t $
      fpack t ((n : Names S.Denot) × IsLooseOf L (L.with_words n.parts xs) x) (λ n. open_borrow S L.with_words d.block d.words (length xs) n.0) m $ move t (1 ∷ 0 ∷ []) $ fjoin t $
      rewrite t 0 (λ (p : Ptr). ‵ (loan_owns S L p d.words (Some x))) at refl $
      k m.0.heap_at.0 m.0.heap_at.1 at (subst (λ (ps : List Val). vs ≡ vstruct (of_list (ps ++ [])) ∷ []) first whole)))))))

  loan_case : K → (d : (Q.the_row T S g).Denot) (vs : List Val) (h : Option T.Denot) → d.heap ≡ h → IsSome h
      → ((x : T.Denot) → d.heap ≡ Some x → (b o : ℕ) → d.block ≡ block_ptr b o → vs ≡ loan_val ∷ [] → Seq K 𝓛 (‵ (loan_owns S g.lending (block_ptr b o) d.words (Some x)) ∷ Γ) G)
      → Seq K 𝓛 (‵ ((Q.the_row T S g).own_val d vs) ∷ Γ) G
  loan_case t d vs (Some x) e some k = loan_some t d vs x e (k x e)
  loan_case t d vs None e some k = absurd (true≢false (sym some))

  -- who owns the `Loan` of a heap may own the words and what makes the heap whole again
  pub loan_out : K → (d : (Q.the_row T S g).Denot) (vs : List Val) → IsSome d.heap
      → ((x : T.Denot) → d.heap ≡ Some x → (b o : ℕ) → d.block ≡ block_ptr b o → vs ≡ loan_val ∷ [] → Seq K 𝓛 (‵ (loan_owns S g.lending (block_ptr b o) d.words (Some x)) ∷ Γ) G)
      → Seq K 𝓛 (‵ ((Q.the_row T S g).own_val d vs) ∷ Γ) G
  loan_out t d vs some k = loan_case t d vs d.heap refl some k

module _ (S : RattleType) {T : Type 0} (L : Lending T S.Denot) {M : Type 1} {𝓤 : Ura M} {𝓛 : Logic 𝓤} {K : Type 0} {Γ : List (Item 𝓤)} {G : Goal 𝓤 𝓛.H} where
  -- the loan ends: the words are put back into the open borrow, which is closed; its lifetime ends, and the heap's fields are back, with these words
  pub rejoined : K → Soaks G → (b o : ℕ) (w : Ptr) (x : T) → ((a : S.Denot) → IsLooseOf L a x → Seq K 𝓛 (‵ (lies_in_block S (block_ptr b o) a) ∷ Γ) G)
      → Seq K 𝓛 (‵ (loan_owns S L (block_ptr b o) w (Some x)) ∷ Γ) G
  rejoined t z b o w x k =
      let xs : List ℕ = L.words x in let n = length xs in
      fsplit t $ move t (1 ∷ []) $ fpick t (λ (p : (n : Names S.Denot) × IsLooseOf L (L.with_words n.parts xs) x). fsplit t $ feq_l t (λ at. fsplit t $ feq_l t (λ words_at. fsplit t $ feq_l t (λ many.
      let m = p.0 in let hb = m.heap_at.0 in let ho = m.heap_at.1 in let wb = m.words_at.0 in let wo = m.words_at.1 in
      let left : S.Denot = L.with_words m.parts xs in
      fsplit t $ move t (1 ∷ []) $ fsplit t $ move t (1 ∷ []) $ fsplit t $ move t (1 ∷ []) $ fsplit t $ move t (1 ∷ []) $ fsplit t $
      -- [how the heap follows; the right to free its block; what the lender keeps; the open borrow, in three entries from its end; the words]
      move t (6 ∷ []) $ rewrite t 0 (λ (q : Ptr). ‵ (lies_at (Array u64 n) full_share q xs)) words_at refl $
      use1 𝓛 (‵ (fsep (feq ℕ n n) (row u64 full_share xs wb wo))) (Array-apart 𝓛 u64 full_share tt n xs wb wo) $ fsplit t $ drop t $
      move t (0 ∷ 6 ∷ 5 ∷ 4 ∷ []) $ closes_slice t z u64 m.lent xs many wb wo $
      -- [the reference's half of the words' name; their borrow; the token; how the heap follows; the right to free its block; what the lender keeps]
      rewrite t 0 (λ (zs : List ℕ). ‵ (fobs m.words_name ((coded_list u64.coded).code zs))) (heres_id u64 xs) refl $ name_done t z $
      move t (3 ∷ 0 ∷ []) $ use2 𝓛 (‵ (fres m.heap_name (S.coded.code left))) (followed 𝓛 S (Array u64 0) (L.with_words m.parts) m.heap_name m.words_name xs) $
      move t (1 ∷ []) $ drop t $ move t (1 ∷ []) $ lft_end t z $
      -- [the lifetime is over; how the heap ends; the right to free its block; what the lender keeps]
      move t (0 ∷ 3 ∷ 1 ∷ []) $ use3 𝓛 (later (‵ ((mem S).own_at left hb ho))) (ref_back 𝓛 S (m.life ∷ []) m.heap_name left hb ho) $ await t z $
      move t (1 ∷ []) $ rewrite t 0 (λ (q : Ptr). ‵ (may_free_value S q)) at refl $ move t (1 ∷ 0 ∷ []) $ fjoin t $
      rewrite t 0 (λ (q : Ptr). ‵ (lies_in_block S q left)) (sym at) refl $ k left p.1))))

module _ (S : RattleType) {T : Type 0} (L : Lending T S.Denot) {M : Type 1} {𝓤 : Ura M} (𝓛 : Logic 𝓤) where
  -- the heap x may be replaced by a heap t with as many words, if the fields with the words of t are those of t
  pub replaced : (p w : Ptr) (x t : T) → length (L.words t) ≡ length (L.words x)
      → ((a : S.Denot) → IsLooseOf L (L.with_words a (L.words x)) x → IsLooseOf L (L.with_words a (L.words t)) t)
      → ent 𝓤 (sem 𝓛 (opened S L p w x)) (sem 𝓛 (opened S L p w t))
  replaced p w x t many still =
      qed 𝓛 (‵ (opened S L p w x) ∷ []) ∵ fpick ! (λ (m : (n : Names S.Denot) × IsLooseOf L (L.with_words n.parts (L.words x)) x).
      rewrite ! 0 (λ (n : ℕ). ‵ (open_borrow S L.with_words p w n m.0)) (sym many) refl $
      fpack ! ((n : Names S.Denot) × IsLooseOf L (L.with_words n.parts (L.words t)) t) (λ n. open_borrow S L.with_words p w (length (L.words t)) n.0)
      (m.0, still m.0.parts m.1) $ done !)
