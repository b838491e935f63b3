-- For `cf_main`: what modes `save` and `load` print is as claimed (`SavesAs`, `LoadsAs`): an image, a script, the offset at which the bytes break a rule, or
-- nothing.
use Rattle.std.proofs.Common.{◌≡◌, ◌≢◌, ◌∙◌, ◌++◌, ℕ, false, List, [], Option, Some, None, append-nil, refl, ap, sym, subst, Err, Ok, if◌then◌else◌}
use Rattle.run_model.specs.Terms.{Kind, Moving, profile_of, RunState, Status}
use Rattle.cf_base.specs.declared.status.Status.TheVariants.{Done, Words, BadScript, ReadFault, WriteFault, OutOfMemory, TooLong, BadImage}
use Rattle.script_laws.proofs.CallerLemmas.{run_met, shown_at, run_keeps}
use Rattle.heap_image.proofs.CallerLemmas.{observed_load}
use Rattle.heap_image.specs.Decoded.{Decoded, decoded}
use Rattle.heap_image.specs.Heaps.{heap_image}
use Rattle.heap_image.specs.declared.fault.LoadFault.TheVariants as fault
use Rattle.top_call.specs.ImageClaims.{LoadsAs, MeetsSave, Prints, SavesAs, image_shown}
use Rattle.top_call.proofs.Loaded.{same_image}
use Rattle.top_call.specs.Loads.{EndsLoad, EndsLoadBy, bad_image}
use Rattle.top_call.specs.Saves.{EndsSave, WritesAtEnd, saved, unseen}
use Rattle.top_call.specs.ImageScript.{heap_script, script_under}
use Rattle.script_laws.specs.ValidItems.{IsRunOf}
use Rattle.run_model.specs.Runs.{Run}
use Rattle.script_loop.proofs.CallerLemmas.{wrote_all}
use Rattle.cf_io.proofs.CallerLemmas.{appended_none}
use Rattle.script_loop.specs.Consequences.{AnswersAll}
use Rattle.script_loop.specs.ScriptOutcome.{Effects, EndsAt, items_within}

-- Mode `save`, from a closed moving heap.
module _ (from to : RunState) (call : Effects) (read : List ℕ) (moving : from.heap.kind ≡ Moving) (closed : from.heap.is_open ≡ false)
    (had : call.had ≡ Some read) where
  image_is : (end : Option RunState) → EndsAt from end to → IsRunOf Moving end → saved to ≡ image_shown (shown_at end)
  image_is None stands on = ap (λ (s : RunState). saved s) stands ∙ ap (λ b. if b then heap_image from else []) closed
  image_is (Some s) stands on = ap (λ (s : RunState). saved s) stands ∙ ap (λ b. if b then heap_image s else []) on.1.opened ∙ same_image s on.1

  saved_met : call.status ≡ Done → EndsSave from call to → MeetsSave (items_within read) (saved to)
  saved_met done ends =
      let w = wrote_all from to (unseen call) read had ends.script
      (let s : (unseen call).status ≡ Done = ap (λ st. (unseen (record call { status = st })).status) done in
      subst (λ st. AnswersAll st) (sym s) tt) in
      let run = subst (λ (k : Kind). Run k None (items_within read) w.replies w.end) moving w.run in
      let on = run_keeps Moving None (items_within read) w.replies w.end tt run in
      record {
        replies = w.replies;
        left = shown_at w.end;
        answered = run_met Moving (items_within read) None w.replies w.end tt run;
        image = image_is w.end w.stands on;
      }

  -- it prints the image of a heap that the script shows, or nothing
  pub save_met : call.status ≢ WriteFault → EndsSave from call to → Prints SavesAs read call
  save_met firm ends = go call.status refl ends.written
    where
      none : (st : Status) → st ≡ call.status → call.after ≡ call.before → SavesAs st read [] → Prints SavesAs read call
      none st is same silent = record {
        printed = [];
        written = same ∙ appended_none call.before;
        claimed = subst (λ (st : Status). SavesAs st read []) is silent;
      }

      go : (st : Status) → st ≡ call.status → WritesAtEnd st call.before (saved to) call.after → Prints SavesAs read call
      go Done is wrote = record {
        printed = saved to;
        written = wrote;
        claimed = subst (λ (st : Status). SavesAs st read (saved to)) is (saved_met (sym is) ends);
      }
      go WriteFault is wrote = absurd (firm (sym is))
      go st is same = none st is same refl

-- Mode `load` prints the script of the objects, or the offset at which the bytes break a rule, or nothing.
pub load_met : (from to : RunState) (call : Effects) (read : List ℕ) → call.had ≡ Some read → call.status ≢ WriteFault → EndsLoad from call to
    → Prints LoadsAs read call
load_met from to call read had firm ends = go call.status refl ends
  where
    go : (st : Status) → st ≡ call.status → EndsLoadBy st from call to → Prints LoadsAs read call
    go Done is e =
        let row = observed_load from to _ _ (Ok e.0) e.1 read had in
        let l = row.2 in
        record {
          printed = heap_script to;
          written = e.2;
          claimed = subst (λ (st : Status). LoadsAs st read (heap_script to)) is (record {
            profile = profile_of e.0;
            objects = l.objects;
            image = ap decoded (row.1 ∙ ap (λ (more : List ℕ). e.1.taken ++ more) l.ended ∙ append-nil e.1.taken) ∙ l.reads;
            script = λ i. script_under (l.holds.profile i) (l.holds.objects i);
          });
        }
    go BadImage is e =
        let row = observed_load from to _ _ (Err (fault.Bad e.0)) e.1 read had in
        record {
          printed = bad_image e.0;
          written = e.2;
          claimed = subst (λ (st : Status). LoadsAs st read (bad_image e.0)) is (record {
            at = e.0;
            broken = ap (λ (b : List ℕ). (decoded b).broken) row.1 ∙ ap (λ (t : Decoded). t.broken) row.2.reads_all ∙ row.2.broken;
            text = refl;
          });
        }
    go ReadFault is e = record {
      printed = [];
      written = e.1 ∙ appended_none call.before;
      claimed = subst (λ (st : Status). LoadsAs st read []) is refl;
    }
    go OutOfMemory is e = record {
      printed = [];
      written = e.1 ∙ appended_none call.before;
      claimed = subst (λ (st : Status). LoadsAs st read []) is refl;
    }
    go WriteFault is e = absurd (firm (sym is))
    go _ is e = absurd e
