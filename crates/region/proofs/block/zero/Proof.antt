-- `zero` writes the words one by one, from the first on.
use Rattle.std.proofs.Common.{◌≡◌, ℕ, zero as none, suc, ◌+◌, ◌-◌, ◌*◌, ◌^◌, ◌<◌, ◌≤◌, List, [], ◌∷◌, ◌++◌, replicate, refl, sym, ap, subst, ◌∙◌, arith, lit<}
use Rattle.std.proofs.Common.{w64}
use Rattle.std.proofs.lemmas.List.{length-replicate}
use Rattle.std.proofs.raw_atomic.Walks.{proved, leaves}
use Rattle.std.proofs.alloc.Shapes.{after}
use Rattle.std.proofs.ptr.Rows.{one_more}
use mathlib.Core.WellFounded.InvImage
use lib.Dec.{ltb→lt, nltb→le}
use lib.WfN.{lt-wf_rel}
use seplogic.Ra.Ura.{Ura}
use base.Fraction.{full_share}
use base.Fml.{fat, froom}
use base.Logic.{SProp, ent, sep, id⊢}
use mir.Syntax.{ty_int, ty_array}
use mir.Val.{Val, vptr, vint, vunit}
use contract.Monad.{fact}
use contract.Running.{tables, tables_of}
use prog.Wp.{Env, Out, Wp, WpFn, Tables, at_return, after_seq, after_block, after_turn}
use types.Logic.{Logic, sem}
use types.Kit.{Item, Sq, ‵, raw, ◌⊛◌, prop, any_q, runs, at_ret, ◌$◌, ◌∵◌, !, qed, by, done, move, keep, drop, use1, use2, split, fjoin, feq_i, rewrite, regoal}
use types.Run.{enter, stop, of_opd, bin, lit, unit_lit, init, assigns, first, blocks, skips, jumps, branches, exec, returns, loops, again, Below}
use types.ByLocal.{alloc_all, pass_all, free_all, look_at, get, through, sets, sets_last, env, holding, forget_but, take_at, give_at}
use types.SemTy.{cells}
use borrow.Table.Elements.{at, at_mul, join_app}
use denote.Builtin.{u64, usize}
use denote.Exit.{yes}
use denote.Memory.{mem, part_at}
use denote.Plain.{uint_vals, uint_Tells, uint_in}
use denote.RawPtr.{Ptr, RawPtr, block_ptr, in_a_block, rawptr_vals, rawptr_Tells}
use denote.Signature.{plain}
use denote.Steps.{nothing, heard}
use denote.Triple.Entry.{on_entry}
use denote.Triple.Walked.{Stays, walk_of, stay_dropped, Goes-dropped}
use Rattle.region.specs.Layout.{words_at, room_of_words}
use Rattle.region.specs.contracts.block.zero as f
use Rattle.region.proofs.block.zero.Statement.{statement}
use Rattle.region.proofs.block.zero.Code as code
use Rattle.region.proofs.LayoutFacts.{row_in}

-- the words that are zero so far
abbrev zeros : ℕ → List ℕ
zeros i = replicate i 0

zeros_more : (i : ℕ) → let one : List ℕ = 0 ∷ [] in zeros i ++ one ≡ zeros (suc i)
zeros_more none = refl
zeros_more (suc i) = ap (λ (l : List ℕ). 0 ∷ l) (zeros_more i)

module _ {M : Type 1} {𝓤 : Ura M} (𝓛 : Logic 𝓤) (𝓣 : Tables 𝓤 𝓛.H) (b o n : ℕ) (small : n < 2 ^ 32) (Post : Val → SProp 𝓤)
    (exits : ent 𝓤 (sem 𝓛 (words_at (block_ptr b o) n (zeros n))) (Post vunit)) (l : ℕ → ℕ) where
  open 𝓛 use {H}

  -- the memory of the next word is split off
  took : (i : ℕ) → i < n → ent 𝓤 (H.room (ty_array (ty_int w64) (n - i)) b (i * 8 + o))
      (sep 𝓤 (H.room (ty_int w64) b (i * 8 + o)) (H.room (ty_array (ty_int w64) (n - suc i)) b (suc i * 8 + o)))
  took i lt =
      let left : suc (n - suc i) ≡ n - i = omega arith in let next : i * 8 + o + 8 ≡ suc i * 8 + o = omega arith in
      subst (λ (m : ℕ). ent 𝓤 (H.room (ty_array (ty_int w64) m) b (i * 8 + o))
      (sep 𝓤 (H.room (ty_int w64) b (i * 8 + o)) (H.room (ty_array (ty_int w64) (n - suc i)) b (suc i * 8 + o)))) left
      (subst (λ (k : ℕ). ent 𝓤 (H.room (ty_array (ty_int w64) (suc (n - suc i))) b (i * 8 + o))
      (sep 𝓤 (H.room (ty_int w64) b (i * 8 + o)) (H.room (ty_array (ty_int w64) (n - suc i)) b k))) next
      (𝓛.laws.room_uncons (ty_int w64) (n - suc i) b (i * 8 + o)))

  grown : (i : ℕ) → ent 𝓤 (sep 𝓤 (sem 𝓛 (cells (mem u64) (zeros i) b o)) (H.at full_share (ty_int w64) b (i * 8 + o) (vint w64 0)))
      (sem 𝓛 (cells (mem u64) (zeros (suc i)) b o))
  grown i =
      let one : List ℕ = 0 ∷ [] in
      qed 𝓛 (‵ (cells (mem u64) (zeros i) b o) ∷ ‵ (fat full_share (ty_int w64) b (i * 8 + o) (vint w64 0)) ∷ []) ∵
      move ! (1 ∷ []) $ use1 𝓛 (‵ (part_at u64 full_share 0 b (i * 8 + o))) (uint_in 𝓛 full_share w64 0 b (i * 8 + o)) $
      rewrite ! 0 (λ (k : ℕ). ‵ (part_at u64 full_share 0 b k)) (sym (ap (at o 8) (length-replicate i 0) ∙ at_mul o 8 i)) refl $
      nothing ! $ move ! (1 ∷ 0 ∷ []) $ fjoin ! $ move ! (1 ∷ 0 ∷ []) $
      use2 𝓛 (‵ (cells (mem u64) (zeros i ++ one) b o)) (join_app 𝓛 (mem u64) (zeros i) one b o) $
      rewrite ! 0 (λ (ws : List ℕ). ‵ (cells (mem u64) ws b o)) (zeros_more i) refl $ done !

  abbrev En : Env 𝓤 H
  En = env (code.function).locals l

  -- the number of words that are zero
  abbrev Zeroed : Type 0
  Zeroed = (i : ℕ) × (i ≤ n)

  abbrev Nearer : Zeroed → Zeroed → Type 0
  Nearer t u = n - t.0 < n - u.0

  abbrev Now : Zeroed → List (Item 𝓤)
  Now t =
      ‵ (cells (mem u64) (zeros t.0) b o) ∷ ‵ (froom (ty_array (ty_int w64) (n - t.0)) b (t.0 * 8 + o)) ∷
      holding 𝓛 En ((1, vptr b o) ∷ (2, vint w64 n) ∷ (3, vint w64 t.0) ∷ [])

  abbrev Turned : Zeroed → Out → SProp 𝓤
  Turned t =
      after_turn 𝓤 H (Below 𝓛 Nearer Now t) (after_block 𝓤 H (after_seq 𝓤 H (Wp 𝓤 H 𝓣.C 𝓣.Λ En code.Mir.t-3 (at_return 𝓤 H En Post)) (at_return 𝓤 H En Post)))

  turns : (t : Zeroed) → Sq 𝓛 (Now t) (runs 𝓣.C 𝓣.Λ En code.Mir.turn-1 (any_q (Turned t)))
  unfolding after_turn
  turns t =
      let i : ℕ = t.0 in let le = t.1 in
      sets ! (bin ! (get ! refl) (get ! refl) tt) refl (tt, tt) $ first ! $ branches ! (get ! refl)
      (λ less. let lt : i < n = ltb→lt i n less in let offset : i * 8 < 2 ^ 64 = omega arith in let more : i + 1 < 2 ^ 64 = omega arith in
      skips ! $ exec ! 𝓣.C 𝓣.Λ En (after 2 code.Mir.turn-1) (any_q (Turned t)) $
      sets ! (bin ! (get ! refl) (lit ! tt) (record { fits = offset })) refl (tt, record { fits = offset }) $
      sets ! (bin ! (get ! refl) (get ! refl) tt) refl (tt, tt) $
      move ! (1 ∷ []) $ use1 𝓛 (‵ (froom (ty_int w64) b (i * 8 + o)) ⊛ ‵ (froom (ty_array (ty_int w64) (n - suc i)) b (suc i * 8 + o))) (took i lt) $ split ! $
      -- [the memory of the next word; that of the words after it; the zeros; the locals]
      assigns ! (of_opd ! (lit ! tt)) (through ! refl (stop !)) (init ! 0 refl (tt, record { fits = lit< tt })) $
      sets_last ! (bin ! (get ! refl) (lit ! tt) (record { fits = more })) refl (tt, record { fits = more }) $
      move ! (2 ∷ 0 ∷ []) $ use2 𝓛 (‵ (cells (mem u64) (zeros (suc i)) b o)) (grown i) $
      forget_but ! En (1 ∷ 2 ∷ 3 ∷ []) refl $ take_at ! 3 $
      rewrite ! 0 (λ (k : ℕ). ‵ (fat full_share (ty_int w64) (l 3) none (vint w64 k))) (one_more i) refl $ give_at ! 3 $
      again ! Nearer Now t (suc i, omega arith) (omega arith))
      (λ over. let ge = nltb→le i n over in let all : i ≡ n = omega arith in
      jumps ! $ exec ! 𝓣.C 𝓣.Λ En code.Mir.t-3 (at_ret En Post) $
      rewrite ! 0 (λ (k : ℕ). ‵ (cells (mem u64) (zeros k) b o)) all refl $ row_in ! n (zeros n) b o (length-replicate n 0) $
      sets ! (of_opd ! (unit_lit !)) refl (tt, tt) $ returns ! (look_at ! 0 refl) $ free_all ! refl $ keep ! (0 ∷ []) $ by ! exits)

abbrev stayed : Stays f.ended.signature.params f.ended.kept
stayed = (stay_dropped (plain (λ _. RawPtr)) yes, (stay_dropped (plain (λ _. usize)) yes, tt))

pub zero_spec : {M : Type 1} → statement M
unfolding tables_of
zero_spec 𝓤 𝓛 𝓜 𝓡 wired =
    let c = f.clauses 𝓛 𝓜.mem 𝓡.returns in let W = walk_of 𝓛 f.ended stayed c in let 𝓣 = tables 𝓤 𝓛.H 𝓜 𝓡 𝓡.env in
    proved 𝓛 f.ended stayed c 𝓜 𝓡 (
      Goes-dropped 𝓛 0 (plain (λ _. RawPtr)) yes (λ κs x w. refl),
      (Goes-dropped 𝓛 0 (plain (λ _. usize)) yes (λ κs x w. refl), tt),
    )
    f.Key.name code.function (code.unfolded 𝓤 𝓛.H 𝓜 𝓡 wired)
    (λ κs. (rawptr_vals, (uint_vals w64, tt))) (λ κs. (rawptr_Tells, (uint_Tells w64, tt))) (λ κs qs bounds a _ are.
    let n = a.1.0 in
    let y : Ptr → W.Ghost = λ p. ((κs, qs, bounds, (p, (n, tt)), (rawptr_vals p, (uint_vals w64 n, tt))), tt) in
    qed 𝓛 (raw (on_entry 𝓛 f.signature κs qs a (y a.0).0.4) ∷ (raw (fact 𝓤 (n < 2 ^ 32)) ⊛ ‵ (room_of_words a.0 n)) ∷ []) ∵ drop ! $ split ! $
    heard ! (n < 2 ^ 32) (λ small.
    in_a_block ! a.0 (λ p. room_of_words p n) (id⊢ 𝓤 _) (λ b o e.
    regoal ! (λ (p : Ptr). prop (WpFn 𝓤 𝓛.H 𝓣.C 𝓣.Λ code.function (rawptr_vals p ++ (vint w64 n ∷ [])) (W.post (y p)))) e refl $
    enter ! 𝓣.C 𝓣.Λ code.function (vptr b o ∷ vint w64 n ∷ []) _ $ alloc_all ! (λ l. pass_all ! refl ((tt, tt), ((tt, record { fits = are.1.0.1 }), tt)) $
    sets ! (of_opd ! (lit ! tt)) refl (tt, record { fits = lit< tt }) $
    let exits = qed 𝓛 (‵ (words_at (block_ptr b o) n (zeros n)) ∷ []) ∵ feq_i ! (List Val) (vunit ∷ []) (vunit ∷ []) refl $ nothing ! $ nothing ! $
    fjoin ! $ nothing ! $ fjoin ! $ nothing ! $
    by ! (leaves 𝓛 f.ended stayed c (y (block_ptr b o)) vunit tt (tt, (tt, tt)) (tt, (tt, tt))) in
    rewrite ! 0 (λ (k : ℕ). ‵ (froom (ty_array (ty_int w64) n) b k)) (let e : o ≡ 0 * 8 + o = omega arith in e) refl $
    rewrite ! 0 (λ (m : ℕ). ‵ (froom (ty_array (ty_int w64) m) b (0 * 8 + o))) (let e : n ≡ n - 0 = omega arith in e) refl $ nothing ! $
    first ! $ blocks ! $ loops ! (tables_of 𝓤 𝓛.H 𝓜 𝓣) (Nearer 𝓛 (tables_of 𝓤 𝓛.H 𝓜 𝓣) b o n small (W.post (y (block_ptr b o))) exits l)
    (InvImage.wf (λ (t : (i : ℕ) × (i ≤ n)). n - t.0) lt-wf_rel.wf)
    (Now 𝓛 (tables_of 𝓤 𝓛.H 𝓜 𝓣) b o n small (W.post (y (block_ptr b o))) exits l)
    (turns 𝓛 (tables_of 𝓤 𝓛.H 𝓜 𝓣) b o n small (W.post (y (block_ptr b o))) exits l) (0, omega arith)))))
