-- For `one_sliced_transcript`, and `Worked`: to a script without `p` exactly one list of replies meets the claim.
use Rattle.std.proofs.Common.{◌≡◌, ℕ, List, [], ◌∷◌, Option, Some, None, ◌∙◌, ap, refl, codes}
use Rattle.run_model.specs.Plays.{PlayRun, PlayStep}
use Rattle.run_model.specs.Terms.{asks, bad, bad_line, Command, Item, Peek, Reply, said, starts}
use Rattle.slice_session.specs.ShownSlices.{ShownSlices, slices_opened}
use Rattle.slice_session.specs.SliceHeadline.{AnswersSliced, AreNoPeeks, AsksForNoWord, MeetsSliced, OpensSliced, after, slice_line}

-- the reply to an item, and the heap after it
abbrev pub reply_at : Option ShownSlices → Item → Reply
reply_at t (starts p) = said (codes "ok")
reply_at None (asks c) = []
reply_at (Some t) (asks c) = said (slice_line t c)
reply_at t (bad n) = said (bad_line n)

module _ (quantum : ℕ) where
  abbrev pub after_at : Option ShownSlices → Item → Option ShownSlices
  after_at t (starts p) = Some (slices_opened quantum p)
  after_at None (asks c) = None
  after_at (Some t) (asks c) = Some (after t c)
  after_at t (bad n) = t

  abbrev pub replies_from : Option ShownSlices → List Item → List Reply
  replies_from t [] = []
  replies_from t (item ∷ rest) = reply_at t item ∷ replies_from (after_at t item) rest

  command_shown : (old : ShownSlices) (c : Command) (reply : Reply) (new : ShownSlices) → AsksForNoWord (asks c) → AnswersSliced old c reply new
      → (reply ≡ said (slice_line old c)) × (new ≡ after old c)
  command_shown old (Peek word) reply new no' a = absurd no'
  command_shown old c reply new no' a = a

  item_shown : (old : Option ShownSlices) (item : Item) (reply : Reply) (new : Option ShownSlices) → AsksForNoWord item
      → PlayStep (OpensSliced quantum) AnswersSliced old item reply new → (reply ≡ reply_at old item) × (new ≡ after_at old item)
  item_shown old (starts p) reply new no' step = (step.1.0, step.2 ∙ ap (λ t. Some t) step.1.1)
  item_shown None (asks c) reply new no' step = step
  item_shown (Some old) (asks c) reply new no' step = (let a = command_shown old c reply step.0 no' step.1 in (a.0, step.2 ∙ ap (λ t. Some t) a.1))
  item_shown old (bad n) reply new no' step = step

  run_shown : (items : List Item) (old : Option ShownSlices) (replies : List Reply) (new : Option ShownSlices) → AreNoPeeks items
      → PlayRun (OpensSliced quantum) AnswersSliced old items replies new → replies ≡ replies_from old items
  run_shown [] old replies new no' run = run.0
  run_shown (item ∷ rest) old replies new no' run =
      let one = item_shown old item run.1 run.0 no'.0 run.3 in
      let more = run_shown rest run.0 run.2 new no'.1 run.5 in
      run.4 ∙ (λ i. one.0 i ∷ more i) ∙ ap (λ t. reply_at old item ∷ replies_from t rest) one.1

  command_there : (old : ShownSlices) (c : Command) → AsksForNoWord (asks c) → AnswersSliced old c (said (slice_line old c)) (after old c)
  command_there old (Peek word) no' = absurd no'
  command_there old c no' = (refl, refl)

  item_there : (old : Option ShownSlices) (item : Item) → AsksForNoWord item → PlayStep (OpensSliced quantum) AnswersSliced old item (reply_at old item) (after_at old item)
  item_there old (starts p) no' = (slices_opened quantum p, (refl, refl), refl)
  item_there None (asks c) no' = (refl, refl)
  item_there (Some old) (asks c) no' = (after old c, command_there old c no', refl)
  item_there None (bad n) no' = (refl, refl)
  item_there (Some old) (bad n) no' = (refl, refl)

  run_there : (items : List Item) (old : Option ShownSlices) → AreNoPeeks items
      → (end : Option ShownSlices) × PlayRun (OpensSliced quantum) AnswersSliced old items (replies_from old items) end
  run_there [] old no' = (old, (refl, refl))
  run_there (item ∷ rest) old no' =
      let more = run_there rest (after_at old item) no'.1 in
      (more.0, (after_at old item, reply_at old item, replies_from (after_at old item) rest, item_there old item no'.0, refl, more.1))

  pub is_transcript : (items : List Item) (replies : List Reply) → AreNoPeeks items → MeetsSliced quantum items replies → replies ≡ replies_from None items
  is_transcript items replies no' meets = run_shown items None replies meets.0 no' meets.1

  pub transcript_meets : (items : List Item) → AreNoPeeks items → MeetsSliced quantum items (replies_from None items)
  transcript_meets items no' = run_there items None no'
