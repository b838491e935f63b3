use Rattle.page_model.proofs.Parts.{malloc_objects, malloc_places, free_objects, still_places, moved_places}
use Rattle.page_model.proofs.soundness.objects_after_a_step.Goals as goal

pub returns-clause-malloc : goal.returns-clause-malloc
returns-clause-malloc c = λ m h a n. (malloc_objects m h a n, malloc_places m h a n)

pub returns-clause-free : goal.returns-clause-free
returns-clause-free c = λ p m h x moved ok s e. free_objects p ok m s h x e moved

pub returns-clause-still : goal.returns-clause-still
returns-clause-still c = still_places

pub returns-clause-moved : goal.returns-clause-moved
returns-clause-moved c = λ p m h q x ok s e o. moved_places p ok m s h x e q o.1.0 o.1.1 o.0 o.1.2
