use Rattle.slice_model.proofs.ImageBeside.{carried_words, closed_words, idle_words}
use Rattle.slice_model.proofs.words.words_are_the_image_but_for_the_job.Goals as goal

pub returns-clause-idle : goal.returns-clause-idle
returns-clause-idle c = idle_words

pub returns-clause-closed : goal.returns-clause-closed
returns-clause-closed c = λ plan s words clean w ok kept. closed_words plan ok s kept words clean w

pub returns-clause-carried : goal.returns-clause-carried
returns-clause-carried c = λ plan. carried_words plan.paging
