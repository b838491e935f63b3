-- By hand, the contract of `split`: the heap's fields are lent for a lifetime that is made here, all words of the region are borrowed from them, and this borrow is opened. The `Loan` keeps the open borrow
-- and owns the words apart from it.
-- The proof steps through the compiled body; a comment in brackets lists what is owned at that point, in order.
-- The tokens are those of the call's lifetimes, one for T and one for S.
use Rattle.std.proofs.Common.{◌≡◌, ℕ, List, [], ◌∷◌, ◌++◌, length, refl, sym, ap, subst, Some, None, MutBor, w64}
use Rattle.std.proofs.raw_atomic.Walks.{proved_at, leaves}
use base.Fraction.{full_share}
use base.Logic.{SProp, emp, id⊢, guard_i}
use base.Share
use base.Fml.{GName, Lft, ftrue, flft, flent}
use mir.MapTy.{inst_fn}
use mir.Syntax.{a_type, dcons, dnil, named}
use mir.Val.{Val, vptr, vstruct, of_list}
use contract.BorrowLft.{◌⊑◌, ⊑_refl, ⊑_static}
use contract.Lifetimes.{Lfts}
use contract.Monad.{fact, fact_i, fact_use}
use contract.Running.{tables}
use prog.Wp.{WpFn}
use types.Logic.{sem}
use types.Kit.{‵, raw, ◌⊛◌, some, later, given, at_ret, prop, ◌$◌, ◌∵◌, !, qed, by, move, keep, drop, use0, use1, use2, learn, split as halves, split3, join, fsplit, fjoin, fpack, feq_i, pick, await, regoal, rewrite}
use types.Run.{enter, addr, from, fld, hop, stop, of_opd, no_more, and_then, first, blocks, exec, returns}
use types.ByLocal.{alloc_all, pass_all, free_all, look_at, look_in_at, get, get_in, through, sets, sets_last, lands_as, env}
use types.Part.{agg, sub, whole}
use types.SemTy.{Body, cells}
use types.Tokens.{lft_new}
use denote.Array.{Array}
use denote.ArrayMemory.{Array-whole}
use denote.Builtin.{u64, RawPtr}
use denote.Exit.{no}
use denote.Follow.{follows}
use denote.Index.{row, opens_slice, whole_in, whole_out}
use denote.Known.{All, cells_say, uint_known}
use denote.Lend.{lends_ref}
use denote.Memory.{mem}
use denote.Param.{bounded, param}
use denote.RattleType.{owns, Valss}
use denote.RawPtr.{Ptr, block_ptr, lies_at}
use denote.Ref.{MutRef}
use denote.Shadow.{pure_l}
use denote.Signature.{plain, types_at, type_at}
use denote.Slice.{mut_slice_at}
use denote.Steps.{nothing, heard, only}
use denote.Struct.Declared.{shape}
use denote.Struct.Struct.{within}
use denote.Struct.Tuple.{tuple_type}
use denote.Triple.Call.{calls_at}
use denote.Triple.Clauses.{lasts}
use denote.Triple.Spec.{triple_of}
use denote.Triple.Walked.{Stays, walk_of, stay_dropped}
use Rattle.core.proofs.alloc.Calls.{Goes-blank}
use Rattle.core.proofs.alloc.Shapes.{after}
use Rattle.core.proofs.atomic.Steps.{fm}
use Rattle.c_base.specs.Lending.{AreOf, AreWords, IsFit, IsLooseOf}
use Rattle.c_base.specs.Lent.{Names, open_borrow}
use Rattle.c_base.specs.contracts.block.HeapBlock.{the_row as P}
use Rattle.c_base.specs.contracts.loan.Loan.{the_row as Q}
use Rattle.c_base.specs.contracts.loan.Lendable.all_words as g
use Rattle.c_base.proofs.Blocks.{place_val, place_in, place_out}
use Rattle.c_base.proofs.Loans.{fit_some, loan_val, loan_in}
use Rattle.c_base.specs.contracts.loan.split as f
use Rattle.c_base.proofs.loan.split.Statement.{statement}
use Rattle.c_base.proofs.loan.split.Code as code

pub split_spec : {M : Type 1} → statement M
split_spec {M} 𝓤 𝓛 𝓜 𝓡 wired X Y LX LY G d met =
    let c = f.clauses X Y G d 𝓛 𝓜.mem 𝓡.returns in let 𝓣 = tables 𝓤 𝓛.H 𝓜 𝓡 𝓡.env in let ended = f.ended X Y G d in
    let T = param 0 X in let S = param 1 Y in let args = bounded (a_type ∷ a_type ∷ []) (X, (Y, tt)) (dcons d dnil) in let fn = inst_fn args code.function in
    let stayed : Stays ended.signature.params ended.kept = (stay_dropped (plain (λ _. P S)) no, tt) in
    proved_at 𝓛 ended stayed c 𝓜 𝓡 (Goes-blank 𝓛 2 (plain (λ _. P S)) no (λ κs x w. tt), tt)
    (f.Key.name args) fn (code.unfolded 𝓤 𝓛.H 𝓜 𝓡 wired (X, (Y, tt)) d) (λ y are.
    let Post : Val → SProp 𝓤 = (walk_of 𝓛 ended stayed c).post y in let p = y.0.3.0 in let κs = y.0.0 in let qs = y.0.1 in let L = G.lending in
    let tokens = ‵ (flft κs.0 qs.0) ⊛ ‵ (flft κs.1.0 qs.1.0) ⊛ ‵ ftrue in
    qed 𝓛 ((tokens ⊛ ‵ (owns (types_at ended.signature.params κs) y.0.3 y.0.4)) ∷ raw ((c κs y.0.3).requires y.1) ∷ []) ∵ move ! (1 ∷ []) $
    use1 𝓛 (raw (fact 𝓤 (κs.0 ⊑ X.lives)) ⊛ raw (fact 𝓤 (κs.1.0 ⊑ Y.lives)) ⊛ raw (fact 𝓤 (IsFit L p.held))) (id⊢ 𝓤 _) $
    halves ! $ heard ! (κs.0 ⊑ X.lives) (λ X_lives. halves ! $ drop ! $ heard ! (IsFit L p.held) (λ fit.
    halves ! $ move ! (1 ∷ []) $ fsplit ! $ place_out S ! p y.0.4.0 (fit_some L p.held fit) (λ a held b o e is.
    -- [the heap's fields in their block; nothing; the tokens]
    let fits : L.fits a = subst (IsFit L) held fit in
    regoal ! (λ (us : List Val). prop (WpFn 𝓤 𝓛.H 𝓣.C 𝓣.Λ fn us Post)) (λ i. is i ++ []) refl $
    enter ! 𝓣.C 𝓣.Λ fn (place_val (block_ptr b o) ∷ []) Post $
    alloc_all ! (λ l. pass_all ! refl ((tt, (tt, tt)), tt) $
    let En = env fn.locals l in
    fsplit ! $
    -- [the heap's fields; the right to free the block; nothing; the tokens]
    sets ! (of_opd ! (get_in ! (fld ! refl (stop !)) (sub ! 0 refl (whole !)))) refl (tt, tt) $
    first ! $ blocks ! $
    sets_last ! (addr ! (through ! refl (stop !))) refl (tt, tt) $
    exec ! 𝓣.C 𝓣.Λ En (after 2 fn.body) (at_ret _ Post) $
    sets ! (of_opd ! (get ! refl)) refl (tt, tt) $
    -- the fields are lent for a lifetime α, which is made here
    lft_new ! tt (λ α. move ! (1 ∷ []) $
    use1 𝓛 (later (some (λ (γ : GName). ‵ ((MutRef (named 0) (α ∷ []) S).own_val (record { ref_ptr = (b, o); ghost_name = γ; now = a }) (vptr b o ∷ [])) ⊛ ‵ (flent (α ∷ []) (Body (mem S) b o γ)))))
    (lends_ref 𝓛 S (named 0) (α ∷ []) a b o) $ await ! tt $ pick ! (λ γ. halves ! $
    -- [the reference to the fields; what the lender keeps; the token of α; the right to free the block; nothing; the tokens]
    let r : MutBor S.Denot = record { ref_ptr = (b, o); ghost_name = γ; now = a } in
    let W = triple_of 𝓛 (g.signature X Y) (g.spec X Y G d 𝓛 𝓜.mem 𝓡.returns) in let κ : Lft = α ∷ [] in
    let ρs : Lfts (g.signature X Y).lifetimes = (κ, (κs.0, (κ, tt))) in let left = Share.left full_share in let right = Share.right full_share in
    let z : W.Ghost = ((ρs, (left, (qs.0, (right, tt))), (⊑_refl κ, tt), (r, tt), (vptr b o ∷ [], tt)), tt) in
    -- half of the token is for the reference, half for the fields, which live forever
    nothing ! $ move ! (1 ∷ 0 ∷ []) $ join ! $ move ! (5 ∷ []) $ split3 ! $ move ! (5 ∷ []) $ use1 𝓛 (‵ (flft κ left) ⊛ ‵ (flft κ right)) (𝓛.lfts.lft_split κ full_share) $ halves ! $
    move ! (1 ∷ 4 ∷ []) $ join ! $ move ! (2 ∷ 0 ∷ []) $ join ! $ move ! (1 ∷ 0 ∷ []) $ join ! $ move ! (0 ∷ 2 ∷ []) $ join ! $
    use0 𝓛 (raw (fact 𝓤 (L.fits a))) (fact_i 𝓤 _ (emp 𝓤) fits) $
    use0 𝓛 (raw (fact 𝓤 (κ ⊑ Y.lives))) (fact_i 𝓤 _ (emp 𝓤) (subst (λ ls. κ ⊑ ls) (sym met.forever) (⊑_static κ))) $ join ! $
    use0 𝓛 (raw (fact 𝓤 (κs.0 ⊑ X.lives))) (fact_i 𝓤 _ (emp 𝓤) X_lives) $ join ! $ move ! (1 ∷ 0 ∷ []) $ use2 𝓛 (raw (W.pre z)) (id⊢ 𝓤 _) $
    calls_at ! (fm 𝓛 𝓜 𝓡) W met.all_words z (and_then ! (get ! refl) (no_more !)) (λ v.
    use1 𝓛 (later (some (λ (e' : MutBor (List ℕ)). ((‵ (flft κ left) ⊛ ‵ (flft κs.0 qs.0) ⊛ ‵ (flft κ right) ⊛ ‵ ftrue) ⊛ ‵ ((type_at (g.signature X Y).result ρs).own_val e' (v ∷ []))) ⊛
    some (λ (ws : Unit {0} × Unit {0}). ‵ (lasts (g.ended X Y G d) z.0.0 z.0.3 ws) ⊛ ‵ (follows S (Array u64 0) γ e'.ghost_name (L.with_words a)) ⊛
    raw (fact 𝓤 (e'.now ≡ L.words (L.state a))))))) (id⊢ 𝓤 _) $
    await ! tt $ pick ! (λ e'. halves ! $ halves ! $ halves ! $ move ! (1 ∷ []) $ split3 ! $ move ! (3 ∷ 1 ∷ []) $ use2 𝓛 (‵ (flft κ full_share)) (𝓛.lfts.lft_join κ full_share) $
    move ! (5 ∷ 2 ∷ []) $ join ! $ move ! (2 ∷ 0 ∷ []) $ join ! $ move ! (2 ∷ 1 ∷ 0 ∷ []) $
    -- [the slice; the token of α; the tokens; what the callee says; what the lender keeps; the right to free the block; nothing]
    fsplit ! $ pure_l ! (mut_slice_at u64 e' (v ∷ [])) (λ at.
    let xs : List ℕ = e'.now in let wb : ℕ = e'.ref_ptr.0 in let wo : ℕ = e'.ref_ptr.1 in let n : ℕ = length xs in
    lands_as ! (ap only at.0) refl (tt, (tt, (record { fits = at.1.0 }, tt))) $
    -- the borrow of the words is opened: they are in memory
    fsplit ! $ opens_slice ! tt u64 xs wb wo $
    use1 𝓛 (‵ (cells (mem u64) xs wb wo)) (whole_in 𝓛 u64 xs wb wo) $
    use1 𝓛 (given (All (λ (w : ℕ). (uint_known w64).Fact w) xs) (‵ (cells (mem u64) xs wb wo)))
    (fact_use 𝓤 (All (λ (w : ℕ). (uint_known w64).Fact w) xs) ((cells_say u64 (uint_known w64) xs wb wo).go M 𝓤 𝓛)
    (λ below. guard_i 𝓤 (All (λ (w : ℕ). (uint_known w64).Fact w) xs) (sem 𝓛 (cells (mem u64) xs wb wo)) below)) $ learn ! (λ below.
    use1 𝓛 (‵ (row u64 full_share xs wb wo)) (whole_out 𝓛 u64 xs wb wo) $
    feq_i ! ℕ n n refl $ fjoin ! $ use1 𝓛 (‵ (lies_at (Array u64 n) full_share (block_ptr wb wo) xs)) (Array-whole 𝓛 u64 full_share n xs wb wo) $
    -- [the words; the open borrow, in three entries; the tokens; what the callee says; what the lender keeps; the right to free the block; nothing]
    move ! (5 ∷ []) $ pick ! (λ ws. split3 ! $ drop ! $ move ! (1 ∷ []) $ heard ! _ (λ value.
    -- [how the parts follow; the words; the open borrow, in three entries; the tokens; what the lender keeps; the right to free the block; nothing]
    sets ! (addr ! (from ! (fld ! refl (hop ! (look_in_at ! 4 (sub ! 0 refl (whole !))) (stop !))))) refl (tt, tt) $
    sets ! (of_opd ! (get ! refl)) refl (tt, tt) $
    sets ! (of_opd ! (get ! refl)) refl (tt, tt) $
    sets ! (agg ! (and_then ! (get ! refl) (no_more !))) refl (tt, (tt, tt)) $
    sets ! (agg ! (no_more !)) refl (tt, tt) $
    sets ! (agg ! (and_then ! (get ! refl) (no_more !))) refl (tt, (tt, tt)) $
    sets ! (of_opd ! (get ! refl)) refl (tt, tt) $
    sets ! (agg ! (and_then ! (get ! refl) (and_then ! (get ! refl) (and_then ! (get ! refl) (no_more !))))) refl (tt, ((tt, tt), ((tt, tt), (tt, tt)))) $
    returns ! (look_at ! 0 refl) $ free_all ! refl $
    -- the open borrow is put together
    let x = L.state a in let m : ℕ = length (L.words x) in
    let names : Names S.Denot = record { life = α; heap_name = γ; words_name = e'.ghost_name; heap_at = (b, o); words_at = (wb, wo); parts = a; lent = xs } in
    let still : IsLooseOf L (L.with_words a (L.words x)) x = subst (λ z'. IsLooseOf L z' x) (sym (met.restored a fits (subst AreWords value below))) (record { fit = fits; shown = refl }) in
    move ! (0 ∷ 7 ∷ []) $ fjoin ! $ move ! (6 ∷ 0 ∷ []) $ fjoin ! $ move ! (4 ∷ 0 ∷ []) $ fjoin ! $ move ! (3 ∷ 0 ∷ []) $ fjoin ! $ move ! (2 ∷ 0 ∷ []) $ fjoin ! $
    feq_i ! ℕ m n (ap length (sym value)) $ fjoin ! $ feq_i ! Ptr (block_ptr wb wo) (block_ptr wb wo) refl $ fjoin ! $ feq_i ! Ptr (block_ptr b o) (block_ptr b o) refl $ fjoin ! $
    fpack ! ((m : Names S.Denot) × IsLooseOf L (L.with_words m.parts (L.words x)) x) (λ m. open_borrow S L.with_words (block_ptr b o) (block_ptr wb wo) (length (L.words x)) m.0) (names, still) $
    move ! (1 ∷ []) $ rewrite ! 0 (λ (l : List ℕ). ‵ (lies_at (Array u64 (length l)) full_share (block_ptr wb wo) l)) value refl $ fjoin ! $
    loan_in T S G ! (block_ptr b o) (block_ptr wb wo) (Some x) $
    -- [the `Loan`; the tokens; nothing]
    let hb : (P T).Denot = record { at = block_ptr b o; held = None } in
    let ln : (Q T S G).Denot = record { of = record {}; heap = Some x; block = block_ptr b o; words = block_ptr wb wo } in
    let word : Val = vstruct (of_list (place_val (block_ptr b o) ∷ loan_val ∷ vptr wb wo ∷ [])) in let all = P T ∷ Q T S G ∷ RawPtr ∷ [] in
    nothing ! $ feq_i ! (List Val) (vptr wb wo ∷ []) (vptr wb wo ∷ []) refl $ fjoin ! $ move ! (1 ∷ 0 ∷ []) $ fjoin ! $
    nothing ! $ place_in T ! (block_ptr b o) None $ fjoin ! $ feq_i ! (List Val) (word ∷ []) (word ∷ []) refl $ fjoin ! $
    fpack ! (Valss all) (within (shape (tuple_type all)) (hb, (ln, (block_ptr wb wo, tt))) (word ∷ []))
    (place_val (block_ptr b o) ∷ [], (loan_val ∷ [], (vptr wb wo ∷ [], tt))) $
    use0 𝓛 (raw (fact 𝓤 (ln.words ≡ block_ptr wb wo))) (fact_i 𝓤 _ (emp 𝓤) refl) $
    use0 𝓛 (raw (fact 𝓤 (AreOf L p.held (Some x)))) (fact_i 𝓤 _ (emp 𝓤) (subst (λ h. AreOf L h (Some x)) (sym held) (record { fit = fits; shown = refl }))) $ join ! $
    use0 𝓛 (raw (fact 𝓤 (ln.block ≡ hb.at))) (fact_i 𝓤 _ (emp 𝓤) refl) $ join ! $
    use0 𝓛 (raw (fact 𝓤 (hb.held ≡ None))) (fact_i 𝓤 _ (emp 𝓤) refl) $ join ! $
    nothing ! $ nothing ! $ fjoin ! $
    -- [what is left of the parameter; the clauses; the result; the tokens; nothing]
    keep ! (3 ∷ 0 ∷ 2 ∷ 1 ∷ []) $
    by ! (leaves 𝓛 ended stayed c y word (hb, ln, block_ptr wb wo) (tt, tt) (tt, tt)))))))))))))))
