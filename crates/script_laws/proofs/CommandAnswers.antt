-- For the law `a_run_can_always_go_on`: in a run in progress each valid command has a step, from the results of the heap's calls; and a run begins
-- with any settings in range.
use Rattle.std.proofs.Common.{◌≡◌, ℕ, ◌+◌, ◌*◌, List, Option, Some, None, refl, codes}
use Rattle.run_model.specs.Terms.{AreBytes, AreInRange, Bound, Command, counted, Free, fresh_session, get, IsGoing, Kind, Malloc, Profile, remove, Reply, Request, Resize, RunState, said, with_bound, Write}
use Rattle.cf_model.specs.Costs.{resize_bound}
use Rattle.cf_model.specs.Steps.{empty_heap}
use Rattle.cf_model.proofs.CallerLemmas.{empty_there}
use Rattle.run_model.specs.Replies.{malloc_text, resize_text, shown, write_text}
use Rattle.run_model.specs.Runs.{Begins, IsCommandStep}
use Rattle.run_model.specs.Steps.{Step, bound_text, class_to_bound, ids_given, session_resized}
use Rattle.run_model.proofs.CallerLemmas.{FreesAt, MallocsAt, ResizesAt, WritesAt}
use Rattle.run_model.proofs.CallerLemmas.{step_meets_bounds}
use Rattle.script_laws.specs.ValidItems.{IsValidCommand}
use Rattle.script_laws.proofs.HeapAnswers.{HasAnswers, answers}

-- a reply, and the state after it
record HasAnswer (R : Reply → RunState → Type 0) : Type 0 where
  reply : Reply
  new : RunState
  done : R reply new

module _ (old : RunState) (going : IsGoing old) where
  heap : HasAnswers old.heap
  heap = answers old.heap going.rules

  malloc_at : (o : Option ℕ) (asked : Request) → HasAnswer (MallocsAt o old asked)
  malloc_at (Some h) asked = record { reply = said (codes "live"); new = old; done = (refl, refl) }
  malloc_at None asked =
      let m = heap.malloc asked.length in
      record {
        reply = said (malloc_text m.answer);
        new = record { session = record old.session { ids = ids_given old.session.ids asked.number m.answer; bound = 64 }; heap = m.heap };
        done = record { answer = m.answer; step = m.step; ordered = m.ordered; rules = m.kept; cost = m.cost; session = refl; reply_is = refl };
      }

  free_at : (o : Option ℕ) (id : ℕ) → get old.session.ids id ≡ o → HasAnswer (FreesAt o old id)
  free_at None id is = record { reply = said (codes "unknown"); new = old; done = (refl, refl) }
  free_at (Some h) id is =
      let x = going.tied.ids.named id h is in
      let f = heap.free h x.0 x.1 in
      record {
        reply = said (codes "ok");
        new = record {
          session = counted (record old.session { ids = remove old.session.ids id; bound = 96 + 2 * f.freed.slot_words }) f.freed.moved
              f.freed.slot_words;
          heap = f.heap;
        };
        done = record { freed = f.freed; step = f.step; ordered = f.ordered; rules = f.kept; cost = f.cost; session = refl; reply_is = refl };
      }

  write_at : (o : Option ℕ) (id at : ℕ) (bytes : List ℕ) → AreBytes bytes → get old.session.ids id ≡ o → HasAnswer (WritesAt o old at bytes)
  write_at None id at bytes are is = record { reply = said (codes "unknown"); new = old; done = (refl, refl) }
  write_at (Some h) id at bytes are is =
      let x = going.tied.ids.named id h is in
      let w = heap.write (record { number = h; from = at }) bytes x.0 are x.1 in
      record {
        reply = said (write_text w.answer);
        new = record { session = old.session; heap = w.heap };
        done = record { answer = w.answer; step = w.step; rules = w.kept; session = refl; reply_is = refl };
      }

  resize_at : (o : Option ℕ) (id bytes : ℕ) → get old.session.ids id ≡ o → HasAnswer (ResizesAt o old bytes)
  resize_at None id bytes is = record { reply = said (codes "unknown"); new = old; done = (refl, refl) }
  resize_at (Some h) id bytes is =
      let x = going.tied.ids.named id h is in
      let r = heap.resize (record { number = h; length = bytes }) x.0 x.1 in
      record {
        reply = said (resize_text r.answer);
        new = record { session = session_resized (record old.session { bound = resize_bound r.answer }) r.answer; heap = r.heap };
        done = record { answer = r.answer; step = r.step; ordered = r.ordered; rules = r.kept; cost = r.cost; session = refl; reply_is = refl };
      }

  step_there : (c : Command) → IsValidCommand c → HasAnswer (Step old c)
  step_there (Malloc id bytes) can = malloc_at (get old.session.ids id) (record { number = id; length = bytes })
  step_there (Free id) can = free_at (get old.session.ids id) id refl
  step_there (Write id at bytes) can = write_at (get old.session.ids id) id at bytes can.bytes refl
  step_there (Resize id bytes) can = resize_at (get old.session.ids id) id bytes refl
  step_there (Bound slot_words k) can = record {
    reply = said (bound_text (class_to_bound old.heap slot_words));
    new = record { session = old.session; heap = with_bound old.heap (class_to_bound old.heap slot_words) k };
    done = record { heap = refl; rules = heap.bound slot_words k can.formed.0 can.formed.1; session = refl; reply_is = refl };
  }
  step_there c can = record { reply = shown old c; new = old; done = (refl, refl) }

-- every valid command gets a reply, in a step
pub step_exists : (old : RunState) (c : Command) → IsGoing old → IsValidCommand c → (reply : Reply) × (new : RunState) × IsCommandStep old c reply new
step_exists old c going can =
    let s = step_there old going c can in
    (s.reply, s.new, record { step = s.done; bounds = step_meets_bounds old s.new c s.reply going s.done })

-- a run begins with any settings in range
pub begin_exists : (kind : Kind) (p : Profile) → AreInRange p → (s : RunState) × Begins kind p s
begin_exists kind p ok =
    let first = empty_there p ok kind in
    (record { session = fresh_session; heap = empty_heap kind p first.0 }, record { session = refl; words = first.1; order = tt; heap = refl; rules = first.2 })
