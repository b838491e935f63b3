use Rattle.std.proofs.Common.{subst}
use Rattle.slice_model.specs.State.{IsKept, Idle}
use Rattle.slice_model.specs.Words.{HasWords}
use Rattle.slice_model.proofs.CallWords.{words_begun, words_given, words_sliced, words_written}
use Rattle.slice_model.proofs.KeptSteps.{kept_begun}
use Rattle.slice_model.proofs.words.words_after_each_call.Goals as goal

pub returns-clause-malloc : goal.returns-clause-malloc
returns-clause-malloc c = λ plan old words after asked new ok kept has g. words_given plan ok old kept words after has asked new g

pub returns-clause-free : goal.returns-clause-free
returns-clause-free c = λ plan old words after h new ok kept has r does. (
    let idle : IsKept plan (record { held = old.held; job = Idle }) = subst (λ j. IsKept plan (record { held = old.held; job = j })) r.idle kept in
    let has' : HasWords plan.paging (record { held = old.held; job = Idle }) words =
    subst (λ j. HasWords plan.paging (record { held = old.held; job = j }) words) r.idle has in
    words_sliced plan ok words after r.begun.held r.begun.job (kept_begun plan ok old.held idle h r.freed r.found r.moved r.moves r.begun r.begins)
    (words_begun plan ok words old.held idle has' h r.freed r.found r.moved r.moves r.begun r.begins) new r.slice does)

pub returns-clause-slice : goal.returns-clause-slice
returns-clause-slice c = λ plan old words after new ok kept has slice. words_sliced plan ok words after old.held old.job kept has new slice

pub returns-clause-write : goal.returns-clause-write
returns-clause-write c = λ plan old words after h x at bytes ok kept has there fits. words_written plan ok old kept words after has h x there at bytes fits
