-- For `play_on`: what a call that kept the contract of `cf_main` over the devices in memory shows. The source never fails; the sink did not, since the status
-- is not `WriteFault`.
use Rattle.std.proofs.Common.{true, ◌≡◌, ◌≢◌, ◌∙◌, ℕ, List, [], Some, ap, arith, length, map, refl, subst, sym, false}
use Rattle.std.proofs.lemmas.Bool.{false≢true}
use Rattle.clap.specs.Words.{Text}
use Rattle.cf_base.specs.declared.status.Status.{Status}
use Rattle.cf_base.specs.declared.status.Status.TheVariants.{BadImage, BadScript, Done, OutOfMemory, ReadFault, TooLong, Words, WriteFault}
use Rattle.cf_io.specs.Feeds.{SinkFailsIf, SourceFailsIf, one_more}
use Rattle.cf_model.specs.State.{closed_state}
use Rattle.top_call.specs.Outcomes.{CallState, EndsWhole}
use Rattle.script_loop.specs.ScriptOutcome.{is_read_fault, is_write_fault}
use Rattle.top_call.specs.OneScript.{KeepsContract}
use Rattle.top_call.specs.TopOutcome.{HasRightInput}
use Rattle.cf_page.specs.PageRun.{IsPlayed, all_kinds, shown_in}

no_write_fault : (status : Status) → status ≢ WriteFault → is_write_fault status ≡ false
no_write_fault Done is_no = refl
no_write_fault Words is_no = refl
no_write_fault BadScript is_no = refl
no_write_fault ReadFault is_no = refl
no_write_fault WriteFault is_no = absurd (is_no refl)
no_write_fault OutOfMemory is_no = refl
no_write_fault TooLong is_no = refl
no_write_fault BadImage is_no = refl

pub played : (words : List Text) (script old : List ℕ) (status : Status) (count : ℕ) (new : List ℕ) (before after : CallState) (output : List ℕ)
    → KeepsContract words (record { old = before; status = status; new = after })
    → before.source.rest ≡ Some script → before.sink.written ≡ Some [] → before.sink.faults ≡ 0 → before.managers ≡ map closed_state all_kinds
    → after.source.last_failed ≡ false → after.sink.written ≡ Some output
    → (HasRightInput words before.source.rest → ¬ SourceFailsIf true before.source after.source → ¬ SinkFailsIf true before.sink after.sink
    → EndsWhole status)
    → SourceFailsIf (is_read_fault status) before.source after.source → SinkFailsIf (is_write_fault status) before.sink after.sink
    → status ≢ WriteFault → count ≡ length output → new ≡ shown_in output old → IsPlayed words script old status count new
played words script old status count new before after output keeps read unwritten whole closed sure written complete source sink uncut counted shown = record {
  call = record { old = before; status = status; new = after };
  runs = record {
    keeps = keeps;
    read = read;
    unwritten = unwritten;
    managers = closed;
    complete = λ right. complete (subst (λ r. HasRightInput words r) (sym read) right) unread no_fault;
    unread = λ is. unread (subst (λ (s : Status). SourceFailsIf (is_read_fault s) before.source after.source) is source);
    uncut = uncut;
  };
  ended = refl;
  output = output;
  written = written;
  counted = counted;
  shown = shown;
}
  where
    unread : ¬ SourceFailsIf true before.source after.source
    unread f = false≢true (sym sure ∙ f.1)

    same : after.sink.faults ≡ before.sink.faults
    same = subst (λ b. SinkFailsIf b before.sink after.sink) (no_write_fault status uncut) sink

    no_fault : ¬ SinkFailsIf true before.sink after.sink
    no_fault f = let e : 0 ≡ 1 = sym whole ∙ sym same ∙ f.0 ∙ ap one_more whole in omega (arith, e)
