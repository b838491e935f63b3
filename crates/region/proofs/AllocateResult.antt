-- For `Block::new`, which allocates a region's memory: the two results of the allocator, a block with the right to free it, or nothing.
use Rattle.std.proofs.Common.{◌≡◌, ℕ, true, false, List, [], ◌∷◌, ◌++◌, Ok, Err, refl, ap, ◌∙◌}
use Rattle.std.proofs.alloc.Calls.{Answer, answer_val}
use seplogic.Ra.Ura.{Ura}
use base.Logic.{id⊢, never}
use base.Fml.{Fml, froom}
use mir.Syntax.{Ty}
use mir.Val.{Val, of_list}
use types.Logic.{Logic}
use types.Kit.{Goal, Item, Seq, ‵, ◌$◌, move, drop, rewrite, fsplit, fpick, feq_l}
use types.Match.{live}
use denote.RawPtr.{Ptr, block_ptr, ptr_val, room_for, in_a_block}
use denote.Steps.{only}
use Rattle.std.specs.Allocator.{block_if_ok}

module _ {M : Type 1} {𝓤 : Ura M} {𝓛 : Logic 𝓤} {K : Type 0} {Γ : List (Item 𝓤)} {G : Goal 𝓤 𝓛.H} where
  pub by_result : K → (holds : Ty → Ptr → Fml) (τ : Ty) (v : Val) (r : Answer.Denot)
      → ((b o : ℕ) → v ≡ answer_val true b o → Seq K 𝓛 (‵ (froom τ b o) ∷ ‵ (holds τ (block_ptr b o)) ∷ Γ) G) → (v ≡ answer_val false 0 0 → Seq K 𝓛 Γ G)
      → Seq K 𝓛 (‵ (Answer.own_val r (v ∷ [])) ∷ ‵ (block_if_ok holds τ r) ∷ Γ) G
  by_result t holds τ v (Ok p) given none =
      fpick t (λ us. fsplit t $ feq_l t (λ e. fpick t (λ vss. fsplit t $ feq_l t (λ e'. fsplit t $ feq_l t (λ e''. drop t $ fsplit t $
      in_a_block t p (λ z. room_for τ z) (id⊢ 𝓤 (never 𝓤)) (λ b o at. move t (1 ∷ []) $ rewrite t 0 (λ (z : Ptr). ‵ (holds τ z)) at refl $ move t (1 ∷ []) $
      given b o (ap only e ∙ ap (λ (ws : List Val). live 0 (of_list ws)) (e'
      ∙ ap (λ (ws : List Val). ws ++ []) (e'' ∙ ap (λ (z : Ptr). ptr_val z ∷ []) at)))))))))
  by_result t holds τ v (Err n) given none =
      fpick t (λ us. fsplit t $ feq_l t (λ e. fpick t (λ vss. fsplit t $
      feq_l t (λ e'. fsplit t $ fpick t (λ nothing. fsplit t $ feq_l t (λ e''. drop t $ drop t $ drop t $
      none (ap only e ∙ ap (λ (ws : List Val). live 1 (of_list ws)) (e' ∙ ap (λ (ws : List Val). ws ++ []) e''))))))))
