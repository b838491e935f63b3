use Rattle.cf_model.proofs.Exactly.{given_is_not_refused, one_cause, not_none_found, part_is_not_refused, resized_is_not_refused}
use Rattle.cf_model.proofs.laws.a_cause_is_always_refused.Goals as goal

pub returns-clause-malloc : goal.returns-clause-malloc
returns-clause-malloc c = λ old new asked e given cause. given_is_not_refused old new asked given e cause

pub returns-clause-one_cause : goal.returns-clause-one_cause
returns-clause-one_cause c = λ s bytes e f x y. one_cause s bytes e f x y

pub returns-clause-free : goal.returns-clause-free
returns-clause-free c = λ old new h freed f none. not_none_found old.held h f.object f.found none

pub returns-clause-write : goal.returns-clause-write
returns-clause-write c = λ old new part bytes e w cause. part_is_not_refused old part _ w.object w.found w.within e cause

pub returns-clause-read : goal.returns-clause-read
returns-clause-read c = λ s part count out e r cause. part_is_not_refused s part count r.object r.found r.within e cause

pub returns-clause-resize : goal.returns-clause-resize
returns-clause-resize c = λ old new asked done e r cause. resized_is_not_refused old new asked done r e cause
