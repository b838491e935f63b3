-- `run_mut` lends a run of the words; the words that the borrow leaves replace it in the block.
use Rattle.std.proofs.Common.{◌≡◌, ℕ, ◌+◌, ◌*◌, ◌^◌, ◌<◌, ◌≤◌, List, [], ◌∷◌, ◌++◌, length, take, drop, get_or, refl, sym, ap, ◌∙◌, arith, w64, MutBor}
use Rattle.std.proofs.raw_atomic.Walks.{proved, leaves}
use base.Fraction.{full_share}
use base.Fml.{Fml, GName, ftrue, fsep, flft}
use seplogic.Ra.Ura.{Ura}
use base.Logic.{ent, sep, emp, id⊢, via, fst∗}
use mir.Syntax.{named}
use mir.Val.{Val}
use contract.Monad.{fact, fact_i, fact_use}
use contract.Running.{tables}
use types.Logic.{Logic, sem}
use types.Kit.{‵, raw, ◌⊛◌, some, later, at_ret, ◌$◌, ◌∵◌, !, qed, by, done, move, keep, use0, use1, use2, split, split3, join, group, fsplit, fsplit3, fjoin}
use types.Kit.{fpack, pick, await, rewrite}
use types.Run.{enter, load, fld, stop, of_opd, bin, lit, no_more, and_then, first, blocks, exec, returns}
use types.ByLocal.{alloc_all, pass_all, free_all, look_at, get, through, sets, sets_last, env}
use types.Part.{whole, sub, look_in, agg}
use types.SemTy.{cells}
use denote.Array.{Array}
use borrow.Table.Elements.{at, at_mul, cut_app, join_app}
use denote.Builtin.{u64, usize}
use denote.Exit.{yes, no}
use denote.Follow.{follows}
use denote.FollowSlice.{Elements, lends_Elements}
use denote.Known.{All, cells_say, uint_known}
use denote.Memory.{cell_at, mem, part_of}
use denote.Plain.{uint_vals, uint_Tells}
use denote.RattleType.{owns}
use denote.RawPtr.{block_ptr}
use denote.Ref.{MutRef, mut_vals, mut_Tells}
use denote.Signature.{plain, mut_ref_to}
use denote.Slice.{MutSlice, Room, slice_val}
use denote.Steps.{nothing, opens, heard}
use denote.Triple.Walked.{Stays, walk_of, stay_dropped, Goes-dropped, Goes-spent_ref}
use Rattle.std.proofs.lemmas.List.{length-take-le}
use Rattle.region.specs.BlockLoan.{with_items}
use Rattle.region.specs.Lending.{with_words}
use Rattle.region.specs.Layout.{may_free}
use Rattle.region.specs.contracts.block.Block.{the_row as R}
use Rattle.region.specs.contracts.block.Block.run_mut as f
use Rattle.region.proofs.block.Block.run_mut.Statement.{statement}
use Rattle.region.proofs.block.Block.run_mut.Code as code
use Rattle.region.proofs.WordsAfter.{length-with_words}
use Rattle.region.proofs.Lists.{as_many, cut_run, fit-words, length-part}
use Rattle.region.proofs.LayoutFacts.{block_val, block_had, block_made, row_out, row_in}

-- the words before and after the run, and the block at the end
module _ (h : R.Denot) (i n : ℕ) where
  abbrev front : List ℕ
  front = take i h.items

  abbrev run : List ℕ
  run = take n (drop i h.items)

  abbrev rear : List ℕ
  rear = drop (i + n) h.items

  abbrev ended : List ℕ → R.Denot
  ended ws = with_items h (with_words h.items i n ws)

module _ (h : R.Denot) (i n : ℕ) (within : i + n ≤ length h.items) where
  front_long : length (front h i n) ≡ i
  front_long = length-take-le i h.items (omega arith)

  run_long : length (run h i n) ≡ n
  run_long = length-part h.items i n within

  -- n words of 64 bits replace the run as they are
  items_are : (ws : List ℕ) → length ws ≡ n → ((j d : ℕ) → j < length ws → get_or ws j d < 2 ^ 64) → (ended h i n ws).items ≡ front h i n ++ (ws ++ rear h i n)
  items_are ws e all =
      as_many h.len h.items (with_words h.items i n ws) h.counted (length-with_words h.items i n within ws ∙ sym h.counted)
      ∙ ap (λ (l : List ℕ). front h i n ++ (l ++ rear h i n)) (fit-words n ws e all)

  room_of : Room u64 (length (run h i n))
  room_of = (let e = run_long in let c = h.counted in let s = h.small in (omega arith, omega arith))

  module _ (b o rb ro : ℕ) where
    -- the address of the run
    abbrev at_run : ℕ
    at_run = i * 8 + o

    -- the rest of the block while the run is borrowed
    abbrev Rest : Fml
    Rest =
        fsep (cells (mem u64) (front h i n) b o)
        (fsep (cells (mem u64) (rear h i n) b (at at_run 8 n))
        (fsep (may_free (block_ptr b o) h.len) (cell_at full_share R.mir (block_val b o h.len ∷ []) rb ro)))

    module _ {M : Type 1} {𝓤 : Ura M} (𝓛 : Logic 𝓤) where
      start_is : at o 8 (length (front h i n)) ≡ at_run
      start_is = ap (at o 8) front_long ∙ at_mul o 8 i

      -- the run is split off
      cut : ent 𝓤 (sem 𝓛 (cells (mem u64) h.items b o))
          (sep 𝓤 (sem 𝓛 (cells (mem u64) (run h i n) b at_run))
          (sep 𝓤 (sem 𝓛 (cells (mem u64) (front h i n) b o)) (sem 𝓛 (cells (mem u64) (rear h i n) b (at at_run 8 n)))))
      cut =
          qed 𝓛 (‵ (cells (mem u64) h.items b o) ∷ []) ∵ rewrite ! 0 (λ (l : List ℕ). ‵ (cells (mem u64) l b o)) (sym (cut_run h.items i n)) refl $
          use1 𝓛 (‵ (cells (mem u64) (front h i n) b o) ⊛ ‵ (cells (mem u64) (run h i n ++ rear h i n) b (at o 8 (length (front h i n)))))
          (cut_app 𝓛 (mem u64) (front h i n) (run h i n ++ rear h i n) b o) $ split ! $ move ! (1 ∷ []) $
          rewrite ! 0 (λ (k : ℕ). ‵ (cells (mem u64) (run h i n ++ rear h i n) b k)) start_is refl $
          use1 𝓛 (‵ (cells (mem u64) (run h i n) b at_run) ⊛ ‵ (cells (mem u64) (rear h i n) b (at at_run 8 (length (run h i n)))))
          (cut_app 𝓛 (mem u64) (run h i n) (rear h i n) b at_run) $ split ! $
          rewrite ! 1 (λ (k : ℕ). ‵ (cells (mem u64) (rear h i n) b (at at_run 8 k))) run_long refl $ keep ! (0 ∷ 2 ∷ 1 ∷ []) $ done !

      -- any words of the same length can be joined with the rest to a block
      back : h.at ≡ block_ptr b o → h.len < 2 ^ 64 → (ws : List ℕ) → length ws ≡ length (run h i n)
          → ent 𝓤 (sep 𝓤 (sem 𝓛 (cells (mem u64) ws b at_run)) (sem 𝓛 Rest)) (sem 𝓛 ((mem R).own_at (ended h i n ws) rb ro))
      unfolding part_of
      back at_b fn ws e =
          let long : length ws ≡ n = e ∙ run_long in
          let Facts : Type 0 = All (λ (w : ℕ). (uint_known w64).Fact w) ws in
          fact_use 𝓤 Facts (via 𝓤 (sem 𝓛 (cells (mem u64) ws b at_run)) (fst∗ 𝓤 (sem 𝓛 (cells (mem u64) ws b at_run)) (sem 𝓛 Rest))
          ((cells_say u64 (uint_known w64) ws b at_run).go M 𝓤 𝓛)) (λ all.
          let whole : List ℕ = front h i n ++ (ws ++ rear h i n) in
          let are : (ended h i n ws).items ≡ whole = items_are ws long all in
          let as_long : length whole ≡ h.len = ap length (sym are) ∙ sym (ended h i n ws).counted in
          qed 𝓛 (‵ (cells (mem u64) ws b at_run) ∷ ‵ Rest ∷ []) ∵ move ! (1 ∷ []) $ fsplit ! $ move ! (1 ∷ []) $ fsplit ! $
          rewrite ! 0 (λ (k : ℕ). ‵ (cells (mem u64) (rear h i n) b (at at_run 8 k))) (sym long) refl $ move ! (3 ∷ 0 ∷ []) $
          use2 𝓛 (‵ (cells (mem u64) (ws ++ rear h i n) b at_run)) (join_app 𝓛 (mem u64) ws (rear h i n) b at_run) $
          rewrite ! 0 (λ (k : ℕ). ‵ (cells (mem u64) (ws ++ rear h i n) b k)) (sym start_is) refl $ move ! (2 ∷ 0 ∷ []) $
          use2 𝓛 (‵ (cells (mem u64) whole b o)) (join_app 𝓛 (mem u64) (front h i n) (ws ++ rear h i n) b o) $
          row_in ! h.len whole b o as_long $ move ! (1 ∷ []) $ fsplit ! $ move ! (2 ∷ 0 ∷ []) $
          block_made ! (ended h i n ws) b o h.len whole at_b refl are fn $ move ! (1 ∷ 0 ∷ []) $ fjoin ! $
          fpack ! (List Val) (λ us. fsep (cell_at full_share R.mir us rb ro) (R.own_val (ended h i n ws) us)) (block_val b o h.len ∷ []) $ done !)

abbrev stayed : Stays f.ended.signature.params f.ended.kept
stayed = (stay_dropped (mut_ref_to (0 ∷ []) tt (plain (λ _. R))) no, (stay_dropped (plain (λ _. usize)) yes, (stay_dropped (plain (λ _. usize)) yes, tt)))

pub run_mut_spec : {M : Type 1} → statement M
run_mut_spec 𝓤 𝓛 𝓜 𝓡 wired =
    let c = f.clauses 𝓛 𝓜.mem 𝓡.returns in let W = walk_of 𝓛 f.ended stayed c in let 𝓣 = tables 𝓤 𝓛.H 𝓜 𝓡 𝓡.env in
    let goes = Goes-dropped 𝓛 1 (plain (λ _. usize)) yes (λ κs x w. refl) in
    proved 𝓛 f.ended stayed c 𝓜 𝓡 (Goes-spent_ref 𝓛 1 (0 ∷ []) tt (plain (λ _. R)), (goes, (goes, tt)))
    f.Key.name code.function (code.unfolded 𝓤 𝓛.H 𝓜 𝓡 wired)
    (λ κs. (mut_vals, (uint_vals w64, (uint_vals w64, tt)))) (λ κs. (mut_Tells (named 0) κs.0 R, (uint_Tells w64, (uint_Tells w64, tt))))
    (λ κs qs bounds a _ are.
    let κ = κs.0 in let q = qs.0 in let γ = a.0.ghost_name in let h = a.0.now in let rb = a.0.ref_ptr.0 in let ro = a.0.ref_ptr.1 in
    let i = a.1.0 in let n = a.1.1.0 in
    let y : W.Ghost = ((κs, qs, bounds, a, (mut_vals a.0, (uint_vals w64 i, (uint_vals w64 n, tt)))), tt) in
    let fi : i < 2 ^ 64 = are.1.0.1 in let fm : n < 2 ^ 64 = are.1.1.0.1 in
    qed 𝓛 (((‵ (flft κ q) ⊛ ‵ ftrue) ⊛ ‵ ((MutRef (named 0) κ R).own_val a.0 (mut_vals a.0)) ⊛ ‵ (owns (usize ∷ usize ∷ []) a.1 y.0.4.1)) ∷
    raw (fact 𝓤 (i + n ≤ length h.items)) ∷ []) ∵
    move ! (1 ∷ []) $ heard ! (i + n ≤ length h.items) (λ within.
    split ! $ split ! $ move ! (2 ∷ []) $ split ! $ keep ! (0 ∷ 2 ∷ []) $
    enter ! _ _ _ _ _ $ alloc_all ! (λ l. pass_all ! refl ((tt, tt), ((tt, record { fits = fi }), ((tt, record { fits = fm }), tt))) $
    let En = env code.Mir.locals l in
    fsplit3 ! $ move ! (1 ∷ 2 ∷ 3 ∷ []) $ opens ! tt R rb ro (λ vs. move ! (1 ∷ []) $ block_had ! h vs (λ b o at_b is fn.
    rewrite ! 2 (λ (ws : List Val). ‵ (cell_at full_share R.mir ws rb ro)) is refl $
    -- [the words; the right to free them; the block; the open borrow, in three entries]
    let offset : i * 8 < 2 ^ 64 = let e = h.counted in let s = h.small in omega arith in
    first ! $ blocks ! $
    sets ! (of_opd ! (load ! (through ! refl (fld ! refl (stop !))) (look_in ! 2 (sub ! 0 refl (whole !))))) refl (tt, tt) $
    sets ! (bin ! (get ! refl) (lit ! tt) (record { fits = offset })) refl (tt, record { fits = offset }) $
    sets ! (bin ! (get ! refl) (get ! refl) tt) refl (tt, tt) $
    sets_last ! (agg ! (and_then ! (get ! refl) (and_then ! (get ! refl) (no_more !)))) refl (tt, (tt, (record { fits = fm }, tt))) $
    exec ! 𝓣.C 𝓣.Λ En code.Mir.t-2 (at_ret _ (W.post y)) $
    sets ! (of_opd ! (get ! refl)) refl (tt, (tt, (record { fits = fm }, tt))) $
    row_out ! h.len h.items b o (λ _.
    use1 𝓛 (‵ (cells (mem u64) (run h i n) b (i * 8 + o)) ⊛ ‵ (cells (mem u64) (front h i n) b o) ⊛
    ‵ (cells (mem u64) (rear h i n) b (at (i * 8 + o) 8 n))) (cut h i n within b o rb ro 𝓛) $ split3 ! $
    -- [the run; the words before it; the words after it; the right to free them; the block; the open borrow, in three entries]
    move ! (3 ∷ 4 ∷ []) $ fjoin ! $ move ! (3 ∷ 0 ∷ []) $ fjoin ! $ move ! (2 ∷ 0 ∷ []) $ fjoin ! $ move ! (2 ∷ 3 ∷ 4 ∷ 1 ∷ 0 ∷ []) $ group ! 5 $
    let room = room_of h i n within in let mend = back h i n within b o rb ro 𝓛 at_b fn in let rest = sem 𝓛 (Rest h i n within b o rb ro) in
    use1 𝓛 (later (some (λ (δ : GName). raw (Elements 𝓛 R u64 (ended h i n) (named 0) κ q rb ro b (i * 8 + o) γ (run h i n) room rest mend δ))))
    (lends_Elements 𝓛 R u64 (ended h i n) (named 0) κ q rb ro b (i * 8 + o) γ (run h i n) room rest mend (R.coded.code h) (R.coded.code h)) $ await ! tt $
    pick ! (λ δ.
    returns ! (look_at ! 0 refl) $ free_all ! refl $ keep ! (0 ∷ []) $
    let r : MutBor (List ℕ) = record { ref_ptr = (b, i * 8 + o); ghost_name = δ; now = run h i n } in
    use1 𝓛 (‵ ((MutSlice (named 0) κ u64).own_val r (slice_val (b, i * 8 + o) (length (run h i n)) ∷ [])) ⊛ ‵ (flft κ q) ⊛
    ‵ (follows R (Array u64 0) γ δ (ended h i n))) (id⊢ 𝓤 _) $ split3 ! $
    rewrite ! 0 (λ (m : ℕ). ‵ ((MutSlice (named 0) κ u64).own_val r (slice_val (b, i * 8 + o) m ∷ []))) (run_long h i n within) refl $
    nothing ! $ move ! (2 ∷ 0 ∷ []) $ join ! $ nothing ! $ nothing ! $ fjoin ! $ nothing ! $ fjoin ! $ nothing ! $ fjoin ! $
    use0 𝓛 (raw (fact 𝓤 (r.now ≡ run h i n))) (fact_i 𝓤 _ (emp 𝓤) refl) $ move ! (2 ∷ 1 ∷ 3 ∷ 4 ∷ []) $
    by ! (leaves 𝓛 f.ended stayed c y (slice_val (b, i * 8 + o) n) r (tt, (tt, (tt, tt))) (tt, (tt, (tt, tt)))))))))))
