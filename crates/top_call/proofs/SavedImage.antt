-- For mode `save` and the laws `what_was_loaded_is_saved_again` and `what_was_saved_is_loaded_again`: the mode ends as `EndsSave` says, its status has its
-- causes (`HasCauses`), and it prints the image of its run. Mode `load` never refuses it, its heap then has the same objects, and with bounds 1 further items
-- get the same replies. Saving the script that a load printed gives the same image and a heap with the same objects.
use Rattle.std.proofs.Common.{◌≡◌, ◌∙◌, ℕ, List, [], Some, ap, sym, ◌≢◌, ◌++◌, Bool, false, true, Option, None, refl, subst, ◌↔◌, option_map, if◌then◌else◌, IsTrue}
use Rattle.run_model.specs.Terms.{appended, AreBytes, at_bound_one, EveryBoundIsOne, get, IsGoing, IsPaged, Item, Kind, Moving, Objects, paging_in, Profile, profile_of, Reply, RunState, SinkFailsIf, SinkState, SourceState, Status}
use Rattle.cf_base.specs.declared.status.Status.TheVariants.{Done, Words, BadScript, ReadFault, WriteFault, OutOfMemory, TooLong, BadImage}
use Rattle.heap_image.specs.Decoded.{decoded, whole, Decoded, IsHeapImage}
use Rattle.heap_image.specs.Heaps.{live_objects, heap_image, HaveImage, image_under}
use Rattle.heap_image.proofs.CallerLemmas.{objects_of_is}
use Rattle.top_call.specs.Images.{IsImageOf}
use Rattle.top_call.specs.Loads.{EndsLoad}
use Rattle.top_call.specs.Saves.{EndsSave, CanBeSaved, saved, WritesAtEnd}
use Rattle.top_call.specs.ImageScript.{script_under}
use Rattle.script_loop.specs.ScriptOutcome.{Effects, EndsAt, HasCauses, IsStatusRow, MeetsOutcome, is_read_fault, is_write_fault}
use Rattle.script_laws.specs.Histories.{AreAlike, AreFurther}
use Rattle.top_call.proofs.Printed.{script_short}
use Rattle.top_call.proofs.Loaded.{going, image_back, kind, load_done, same_objects, image_taken}
use Rattle.cf_base.specs.declared.settings.Settings.{Settings}
use Rattle.cf_io.specs.Feeds.{FailsIf, WritesPrefix}
use Rattle.script_loop.proofs.CallerLemmas.{whole_run, wrote_settled}
use Rattle.cf_io.proofs.CallerLemmas.{appended_none}
use Rattle.script_loop.specs.OneManager.{one_manager}
use Rattle.script_loop.specs.WithSettings.{GoesWith, Settled, with_settings}
use Rattle.heap_image.specs.Load.{IsLoading}
use Rattle.run_model.specs.Runs.{Run}

-- For `what_was_loaded_is_saved_again`: mode `save` on the script that mode `load` printed writes the same image, and its manager holds the same objects.

-- two runs in progress with equal kinds, settings and objects by id are alike (`AreAlike`)
pub alike : (one other : RunState) → IsGoing one → IsGoing other → other.heap.kind ≡ one.heap.kind → other.heap.profile ≡ one.heap.profile
    → live_objects other ≡ live_objects one → AreAlike one other
alike one other on on' k p o = record {
  kind = k;
  profile = p;
  objects = λ id. sym (objects_of_is other on'.tied id) ∙ ap (λ (m : Objects). get m id) o ∙ objects_of_is one on.tied id;
}

module _ (exactly : (bytes : List ℕ) (p : Profile) (o : Objects) → AreBytes bytes → (decoded bytes ≡ whole p o) ↔ IsImageOf bytes p o) where
  pub loaded_and_saved : (from to begin end : RunState) (one two : Effects) (all script : List ℕ)
      → AreBytes all → one.had ≡ Some all → one.status ≡ Done → one.before ≡ Some [] → one.after ≡ Some script → EndsLoad from one to
      → begin.heap.kind ≡ Moving
      → two.had ≡ Some script → two.before ≡ Some [] → two.status ≡ Done → EndsSave begin two end
      → (two.after ≡ Some all) × AreAlike to end × IsGoing end
  loaded_and_saved from to begin end one two all script b had done before after ends moving had2 before2 done2 ends2 =
      let l = load_done from to one all had done ends in
      let is = (exactly all l.profile l.objects b).0 l.stated in
      let stated : Some script ≡ Some (script_under l.profile l.objects) = sym after ∙ l.script ∙ ap (λ w. appended w (script_under l.profile l.objects)) before in
      let same : script ≡ script_under l.profile l.objects = cc in
      let had3 = had2 ∙ ap (λ s. Some s) same in
      let few3 = script_short l.profile l.objects is.have in
      let back = image_back l.profile l.objects is.have begin end two moving had3 few3 done2 ends2 in
      let objs = same_objects l.profile l.objects is.have begin end two moving had3 few3 done2 ends2 in
      let moves = kind l.profile l.objects is.have begin end two moving had3 few3 done2 ends2 in
      let on = going l.profile l.objects is.have begin end two moving had3 few3 done2 ends2 in (
        back ∙ (λ i. appended (before2 i) (sym is.are i)),
        alike to end l.loading.going on (moves ∙ sym l.loading.kind) (objs.0 ∙ sym l.held.0) (objs.1 ∙ sym l.held.1),
        on,
      )

-- For `save_script`, which runs a script and writes an image: from how the script ended, its settings kept, and what was written of the image to its
-- contract `EndsSave`, for each status.

-- the sink that drops the replies of the script never fails
pub never_cut : (st : Status) → FailsIf (is_write_fault st) 0 0 false → st ≡ WriteFault → ⊥
never_cut st cause is = let e : false ≡ true = (subst (λ (s : Status). FailsIf (is_write_fault s) 0 0 false) is cause).1 in absurd cc

pub never_faults : (st : Status) (n : ℕ) (last : Bool) → FailsIf (is_write_fault st) 0 0 false → FailsIf (is_write_fault st) n n last
never_faults st n last cause = go (is_write_fault st) cause
  where
    go : (b : Bool) → FailsIf b 0 0 false → FailsIf b n n last
    go true fails = absurd (let e : false ≡ true = fails.1 in cc)
    go false same = refl

-- ---- the causes, if the script was run to its end

pub done_same : (st : Status) → st ≡ Done → (a b : ℕ) (last : Bool) → FailsIf (is_read_fault st) a b last → b ≡ a
done_same st done a b last same = subst (λ (t : Status). FailsIf (is_read_fault t) a b last) done same

pub whole_causes : (s : SourceState) (k : SinkState) (s' : SourceState) (k' : SinkState) → s'.faults ≡ s.faults → k'.faults ≡ k.faults
    → HasCauses s k Done s' k'
whole_causes s k s' k' source sink = record {
  silent = λ is. absurd (let e : Done ≡ OutOfMemory = is in cc);
  source_fault = source;
  sink_fault = sink;
  too_long = λ is. absurd (let e : Done ≡ TooLong = is in cc);
}

pub cut_causes : (s : SourceState) (k : SinkState) (s' : SourceState) (k' : SinkState) → s'.faults ≡ s.faults → SinkFailsIf true k k'
    → HasCauses s k WriteFault s' k'
cut_causes s k s' k' source sink = record {
  silent = λ is. absurd (let e : WriteFault ≡ OutOfMemory = is in cc);
  source_fault = source;
  sink_fault = sink;
  too_long = λ is. absurd (let e : WriteFault ≡ TooLong = is in cc);
}

module _ (from to : Settled RunState) (call : Effects) where
  row_settled : (st : Status) (all left : List ℕ) → (st ≡ WriteFault → ⊥) → IsStatusRow (with_settings one_manager) st from all left call to
      → IsStatusRow one_manager st from.state all left call to.state
  row_settled Done all left whole (few, none, good, w) = (few, none, good, (wrote_settled from to _ call w).0)
  row_settled BadScript all left whole (bad, w) = (bad, (wrote_settled from to _ call w).0)
  row_settled TooLong all left whole (long, good, w) = (long, good, (wrote_settled from to _ call w).0)
  row_settled ReadFault all left whole (taken, parts, few, good, w) = (taken, parts, few, good, (wrote_settled from to _ call w).0)
  row_settled WriteFault all left whole row = absurd (whole refl)
  row_settled OutOfMemory all left whole row = record { lacks = row.lacks; unwritten = row.unwritten }
  row_settled Words all left whole row = absurd row
  row_settled BadImage all left whole row = absurd row

  outcome_settled : (call.status ≡ WriteFault → ⊥) → MeetsOutcome (with_settings one_manager) from call to → MeetsOutcome one_manager from.state call to.state
  outcome_settled whole met = record {
    taken = met.taken;
    ended = met.ended;
    took = met.took;
    counted = met.counted;
    row = λ more follows. row_settled call.status (met.taken ++ more) more whole (met.row more follows);
  }

  -- if the script has no `heap` line, nothing was opened
  pub unopened : MeetsOutcome (with_settings one_manager) from call to → call.status ≡ Done → to.settings ≡ None → from.state.heap.is_open ≡ false
      → to.state.heap.is_open ≡ false
  unopened met done none closed =
      let run = whole_run (with_settings one_manager) from to call met done in
      go run.1.end run.1.stands (wrote_settled from to run.0 call run.1).1
    where
      go : (end : Option (Settled RunState)) → EndsAt from end to → GoesWith end → to.state.heap.is_open ≡ false
      go None stands on = ap (λ (s : Settled RunState). s.state.heap.is_open) stands ∙ closed
      go (Some s) stands on =
          let kept : s.settings ≡ None = ap (λ (s : Settled RunState). s.settings) (sym stands) ∙ none in
          let e : None ≡ Some s.state.heap.profile = ap (option_map profile_of) (sym kept) ∙ on.1 in
          absurd cc

  -- after a `heap` line the run is in progress, and the manager has the settings of the line
  pub opened : (settings : Settings) → MeetsOutcome (with_settings one_manager) from call to → call.status ≡ Done → to.settings ≡ Some settings → from.settings ≡ None
      → IsGoing to.state × (to.state.heap.profile ≡ profile_of settings)
  opened settings met done some unset =
      let run = whole_run (with_settings one_manager) from to call met done in
      go run.1.end run.1.stands (wrote_settled from to run.0 call run.1).1
    where
      go : (end : Option (Settled RunState)) → EndsAt from end to → GoesWith end → IsGoing to.state × (to.state.heap.profile ≡ profile_of settings)
      go None stands on =
          let e : Some settings ≡ None = sym some ∙ ap (λ (s : Settled RunState). s.settings) stands ∙ unset in
          absurd cc
      go (Some s) stands on =
          let kept : s.settings ≡ Some settings = ap (λ (s : Settled RunState). s.settings) (sym stands) ∙ some in
          let e : Some s.state.heap.profile ≡ Some (profile_of settings) = sym on.1 ∙ ap (option_map profile_of) kept in
          let same : s.state.heap.profile ≡ profile_of settings = cc in (
            subst (λ (t : Settled RunState). IsGoing t.state) (sym stands) on.0,
            ap (λ (t : Settled RunState). t.state.heap.profile) stands ∙ same,
          )

-- a run in progress is saved as the image of its objects
pub saved_going : (s : RunState) → IsGoing s → saved s ≡ heap_image s
saved_going s going = ap (λ b. if b then heap_image s else []) going.opened

-- the effects of the call (`call_as`) and of the script alone (`script_as`), by status
module _ (from to : Settled RunState) (had left : Option (List ℕ)) (gave given : ℕ) (before after : Option (List ℕ)) where
  abbrev call_as : Status → Effects
  call_as st = record { had = had; left = left; given_before = gave; given_after = given; before = before; after = after; status = st }

  abbrev script_as : Status → Effects
  script_as st = record { had = had; left = left; given_before = gave; given_after = given; before = None; after = None; status = st }

  -- the script was not run to its end
  pub ends_early : (st : Status) → st ≢ Done → FailsIf (is_write_fault st) 0 0 false → MeetsOutcome (with_settings one_manager) from (script_as st) to
      → after ≡ before → EndsSave from.state (call_as st) to.state
  ends_early st unfinished cause met same = go st unfinished (outcome_settled from to (script_as st) (never_cut st cause) met) (never_cut st cause)
    where
      go : (st : Status) → st ≢ Done → MeetsOutcome one_manager from.state (script_as st) to.state → (st ≡ WriteFault → ⊥)
          → EndsSave from.state (call_as st) to.state
      go Done unfinished script whole = absurd (unfinished refl)
      go WriteFault unfinished script whole = absurd (whole refl)
      go Words unfinished script whole =
          record { script = script; written = same; image = λ is opened. (let e : Words ≡ Done = is in absurd cc) }
      go BadScript unfinished script whole =
          record { script = script; written = same; image = λ is opened. (let e : BadScript ≡ Done = is in absurd cc) }
      go ReadFault unfinished script whole =
          record { script = script; written = same; image = λ is opened. (let e : ReadFault ≡ Done = is in absurd cc) }
      go OutOfMemory unfinished script whole =
          record { script = script; written = same; image = λ is opened. (let e : OutOfMemory ≡ Done = is in absurd cc) }
      go TooLong unfinished script whole =
          record { script = script; written = same; image = λ is opened. (let e : TooLong ≡ Done = is in absurd cc) }
      go BadImage unfinished script whole =
          record { script = script; written = same; image = λ is opened. (let e : BadImage ≡ Done = is in absurd cc) }

  module _ (st : Status) (done : st ≡ Done) (met : MeetsOutcome (with_settings one_manager) from (script_as st) to) where
    script : MeetsOutcome one_manager from.state (script_as Done) to.state
    script = outcome_settled from to (script_as Done) (λ is. (let e : Done ≡ WriteFault = is in absurd cc))
        (subst (λ (st : Status). MeetsOutcome (with_settings one_manager) from (script_as st) to) done met)

    -- the script was run to its end, and nothing was opened
    pub ends_unopened : to.state.heap.is_open ≡ false → after ≡ before → EndsSave from.state (call_as Done) to.state
    ends_unopened closed same = record {
      script = script;
      written = same ∙ appended_none before ∙ ap (appended before) (sym (ap (λ b. if b then heap_image to.state else []) closed));
      image = λ is opened. (let e : false ≡ true = sym closed ∙ opened in absurd cc);
    }

    module _ (image : saved to.state ≡ heap_image to.state) where
      -- the image was written
      pub ends_saved : after ≡ appended before (heap_image to.state) → CanBeSaved to.state → EndsSave from.state (call_as Done) to.state
      ends_saved put can = record { script = script; written = put ∙ ap (appended before) (sym image); image = λ is opened. can }

      -- the image was cut
      pub ends_cut : WritesPrefix before (heap_image to.state) after → EndsSave from.state (call_as WriteFault) to.state
      ends_cut (front, lost, parts, put) = record {
        script = script;
        written = (front, lost, image ∙ parts, put);
        image = λ is opened. (let e : WriteFault ≡ Done = is in absurd cc);
      }

-- For the law `what_was_saved_is_loaded_again`: what mode `save` prints is an image, mode `load` never refuses it, its heap then has the same objects by id,
-- and further items get the same replies.

module _ (read_back : (p : Profile) (o : Objects) → HaveImage p o → decoded (image_under p o) ≡ whole p o)
    (from to : RunState) (one : Effects) (done : one.status ≡ Done) (ends : EndsSave from one to) (opened : IsTrue to.heap.is_open) where
  have : HaveImage (at_bound_one to.heap.profile) (live_objects to)
  have = (ends.image done opened).have

  saved_is : saved to ≡ heap_image to
  saved_is = ap (λ b. if b then heap_image to else []) opened

  pub saved_image : IsHeapImage (saved to)
  saved_image = ap (λ (b : List ℕ). (decoded b).broken) saved_is ∙ ap (λ (d : Decoded). d.broken) (read_back (at_bound_one to.heap.profile) (live_objects to) have)

  module _ (image : List ℕ) (before : one.before ≡ Some []) (after : one.after ≡ Some image) where
    same : image ≡ heap_image to
    same =
        let wrote : one.after ≡ appended one.before (saved to) = subst (λ st. WritesAtEnd st one.before (saved to) one.after) done ends.written in
        let is : Some image ≡ Some (heap_image to) = sym after ∙ wrote ∙ (λ i. appended (before i) (saved_is i)) in
        cc

    -- mode `load` never refuses the image
    pub never_refused : (there from2 : RunState) (two : Effects) → two.had ≡ Some image → EndsLoad from2 two there → two.status ≢ BadImage
    never_refused there from2 two had2 ends2 = image_taken from2 there two image had2
        (subst IsHeapImage (saved_is ∙ sym same) saved_image) ends2

    -- when `load` is done, its heap has the same objects by id
    pub loaded_again : (there from2 : RunState) (two : Effects) → two.had ≡ Some image → two.status ≡ Done → EndsLoad from2 two there
        → (live_objects there ≡ live_objects to) × (there.heap.profile ≡ at_bound_one to.heap.profile) × IsLoading there
    loaded_again there from2 two had2 done2 ends2 =
        let l = load_done from2 there two image had2 done2 ends2 in
        let stated : whole (at_bound_one to.heap.profile) (live_objects to) ≡ whole l.profile l.objects =
        sym (read_back (at_bound_one to.heap.profile) (live_objects to) have) ∙ ap decoded (sym same) ∙ l.stated in
        let settings : Some (at_bound_one to.heap.profile) ≡ Some l.profile = ap (λ (d : Decoded). d.settings) stated in
        let profile : at_bound_one to.heap.profile ≡ l.profile = cc in
        (l.held.1 ∙ sym (ap (λ (d : Decoded). d.objects) stated), l.held.0 ∙ sym profile, l.loading)

    -- the same further items get the same replies from both heaps
    module _ (there from2 : RunState) (two : Effects) (had2 : two.had ≡ Some image) (done2 : two.status ≡ Done) (ends2 : EndsLoad from2 two there)
        (equally : (one other : RunState) (items : List Item) (replies stated : List Reply) (last end : Option RunState)
        → IsGoing one → IsGoing other → IsPaged one.heap.kind → AreAlike one other → EveryBoundIsOne (paging_in one.heap) → EveryBoundIsOne (paging_in other.heap)
        → AreFurther items → Run one.heap.kind (Some one) items replies last → Run one.heap.kind (Some other) items stated end → stated ≡ replies)
        (k : to.heap.profile.k ≡ 1) (ones : EveryBoundIsOne (paging_in to.heap)) where
      pub further_replies : (items : List Item) (replies stated : List Reply) (last end : Option RunState) → AreFurther items
          → Run Moving (Some to) items replies last → Run Moving (Some there) items stated end → stated ≡ replies
      further_replies items replies stated last end further run run2 =
          let s = ends.image done opened in
          let l = loaded_again there from2 two had2 done2 ends2 in
          let bound : at_bound_one to.heap.profile ≡ to.heap.profile = (λ i. record to.heap.profile { k = sym k i }) in
          let paged : IsPaged to.heap.kind = subst IsPaged (sym s.kind) refl in
          equally to there items replies stated last end s.going l.2.going paged
          (alike to there s.going l.2.going (l.2.kind ∙ sym s.kind) (l.1 ∙ bound) l.0) ones l.2.ones further
          (subst (λ (q : Kind). Run q (Some to) items replies last) (sym s.kind) run)
          (subst (λ (q : Kind). Run q (Some there) items stated end) (sym s.kind) run2)
