-- The replies of a run meet the headline (law `the_headline`), since each of its steps is an answer that the headline allows, by the lemmas of `Steps`.
use Rattle.std.proofs.Common.{◌≡◌, List, [], ◌∷◌, Option, Some, None, sym, ◌∙◌, ap, refl, subst}
use Rattle.std.specs.Prelude.{⊤, option_map}
use Rattle.std.specs.FinMap.{empty, get, get-empty}
use Rattle.std.specs.Ordering.{nat_cmp}
use Rattle.run_model.specs.Terms.{Admit, asks, bad, Block, Bound, Command, Frag, Free, Held, IsGoing, Item, Kind, Malloc, Need, Peek, Place, Profile, Quota, Read, Reply, Resize, RunState, said, Slice, starts, Steps, Task, Walk, Write}
use Rattle.cf_base.proofs.Maps.{equal_maps}
use Rattle.run_model.specs.Plays.{IsAt, PlayRun}
use Rattle.run_model.specs.Replies.{block_text_at, place_text, read_text}
use Rattle.run_model.specs.Runs.{Begins, BeginsOne, IsCommandStep, Run}
use Rattle.run_model.specs.Steps.{Step}
use Rattle.run_model.proofs.CallerLemmas.{begins_going, gone_renamed, run_through, step_going, step_same}
use Rattle.script_laws.specs.Headline.{MayReply, IsAnswer, MeetsHeadline, OpensEmpty}
use Rattle.script_laws.specs.ShownHeap.{ShownHeap, heap_opened}
use Rattle.script_laws.proofs.Shown.{heap_of, held_by_id, nothing, object_is, shown}
use Rattle.script_laws.proofs.Steps.{arranged, block_here, bound_shown, frag_here, free_shown, malloc_shown, peek_here, resize_shown, walk_here, write_shown}

-- a step of a run is an answer between the heaps shown, by the command
module _ (s new : RunState) (going : IsGoing s) (after : IsGoing new) (same : new.heap.kind ≡ s.heap.kind) where
  answered : (c : Command) (reply : Reply) → Step s c reply new → IsAnswer (shown s) c reply (shown new)
  answered (Malloc id n) reply step = malloc_shown s going new after same (get s.session.ids id) id n reply refl step
  answered (Free id) reply step = free_shown s going new after same (get s.session.ids id) id reply refl step
  answered (Write id at bytes) reply step = write_shown s going new after same (get s.session.ids id) id at bytes reply refl step
  answered (Read id at count) reply step = (step.0 ∙ ap (λ o. said (read_text o at count)) (object_is s going id), ap shown step.1)
  answered (Place id) reply step = (step.0 ∙ ap (λ o. said (place_text o)) (object_is s going id), ap shown step.1)
  answered (Block id i) reply step = (
    step.0 ∙ ap said (block_here s going _ i) ∙ ap (λ o. said (block_text_at (heap_of s) o i)) (object_is s going id),
    ap shown step.1,
  )
  answered (Peek word) reply step = peek_here s going word reply step.0 (shown new) (ap shown step.1)
  answered Walk reply step = (step.0 ∙ walk_here s going, ap shown step.1)
  answered Frag reply step = (step.0 ∙ frag_here s going, ap shown step.1)
  answered Steps reply step = (step.0, ap shown step.1)
  answered (Bound words k) reply step = bound_shown s going new after same words k reply step
  answered (Resize id n) reply step = resize_shown s going new after same (get s.session.ids id) id n reply refl step
  answered _ reply step = (step.0, ap shown step.1)

none_held : (m : Held) → held_by_id empty m ≡ empty
none_held m = equal_maps _ _ (λ q. gone_renamed nothing empty m q (get-empty nat_cmp q) ∙ sym (get-empty nat_cmp q))

-- the heap that a run shows, if it has begun
abbrev pub shown_at : Option RunState → Option ShownHeap
shown_at s = option_map shown s

module _ (kind : Kind) where
  opened : (p : Profile) (s : RunState) → Begins kind p s → shown s ≡ heap_opened kind p
  opened p s begins =
      let b = begins.session in
      let held : held_by_id s.session.ids s.heap.held ≡ empty = (λ i. held_by_id (b i).ids s.heap.held) ∙ none_held s.heap.held in
      λ i. record {
        heap = record (begins.heap i) { held = held i; words = []; order = None };
        numbers = (b i).ids;
        step_bound = (b i).bound;
        moves = (b i).moves;
        moved_words = (b i).words;
      }

  pub run_met : (items : List Item) (old : Option RunState) (replies : List Reply) (new : Option RunState) → IsAt IsGoing old → Run kind old items replies new
      → PlayRun (OpensEmpty kind) MayReply (shown_at old) items replies (shown_at new)
  run_met items old replies new goes run = (run_through shown IsGoing (BeginsOne kind) IsCommandStep (OpensEmpty kind) MayReply
      (λ p reply s b. (let on = begins_going kind p s b.0 in ((b.1, opened p s b.0, arranged s on), on)))
      (λ old c reply new on turn.
      let after = step_going old new c reply on turn.step in
      ((answered old new on after (step_same old new c reply on.rules turn.step).kind c reply turn.step, arranged new after), after))
      old items replies new goes run).0

-- over a run the replies meet the headline
pub headline_met : (kind : Kind) (items : List Item) (replies : List Reply) (last : Option RunState) → Run kind None items replies last
    → MeetsHeadline kind items replies
headline_met kind items replies last run = (shown_at last, run_met kind items None replies last tt run)
