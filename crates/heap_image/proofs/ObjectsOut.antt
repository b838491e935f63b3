-- For `put_objects`, which writes the live objects by rising id: the texts written so far and those still to be written, or a prefix of all of them if the
-- sink fails.
use Rattle.std.proofs.Common.{◌≡◌, ◌∙◌, ◌++◌, ◌+◌, ◌-◌, ℕ, suc, List, [], Some, None, ap, sym, arith, append_assoc, append-nil}
use Rattle.std.specs.Prelude.{Err, Ok}
use Rattle.std.specs.FinMap.{entries, get}
use Rattle.cf_base.specs.declared.results.Failed.{Failed}
use Rattle.cf_io.specs.Feeds.{SinkState, Writes, WritesAll}
use Rattle.cf_io.proofs.CallerLemmas.{puts_cut, puts_same, puts_then, writes_none}
use Rattle.id_table.specs.Ids.{AreWithin}
use Rattle.page_model.specs.Held.{Placed, objects}
use Rattle.id_table.specs.Sessions.{RunState}
use Rattle.id_table.proofs.CallerLemmas.{gone_by_id, live_by_id, numbered_by_id}
use Rattle.page_model.proofs.CallerLemmas.{bytes_held}
use Rattle.heap_image.specs.Heaps.{live_objects}
use Rattle.heap_image.specs.Image.{object_texts}
use Rattle.heap_image.specs.Listed.{listed_objects}
use Rattle.heap_image.proofs.Listing.{listed_all, listed_end, listed_none, listed_some}

-- The loop came to the id `id`: of all the objects' texts, `done` was written, and those of the objects from the id on are still to be written.
-- The sink was w before the loop and is x now.
pub record CameTo (text : ℕ → List ℕ → List ℕ) (s : RunState) (w x : SinkState) (id : ℕ) : Type 0 where
  pub done : List ℕ
  pub rest : object_texts text (entries (live_objects s)) ≡ done ++ object_texts text (listed_objects (live_objects s) id (65536 - id))
  pub written : WritesAll w done x

module _ (text : ℕ → List ℕ → List ℕ) (s : RunState) where
  abbrev all_texts : List ℕ
  all_texts = object_texts text (entries (live_objects s))

  -- before the loop nothing is written
  pub came_first : (w : SinkState) → AreWithin s.session.ids → CameTo text s w w 0
  came_first w ids = record {
    done = [];
    rest = ap (λ (es : List (ℕ × List ℕ)). object_texts text es) (listed_all (live_objects s) 65536 (λ id v is.
        let h = numbered_by_id s.session.ids (objects s.heap.held) id v is in
        let within = ids.below id h.0 h.1 in
        omega (arith, within)));
    written = writes_none w;
  }

  module _ (w x : SinkState) (id n : ℕ) (left : 65536 - id ≡ suc n) (next : 65536 - (id + 1) ≡ n) (so_far : CameTo text s w x id) where
    -- past an id without an object nothing more is written
    pub came_past : get s.session.ids id ≡ None → CameTo text s w x (id + 1)
    came_past none = record {
      done = so_far.done;
      rest = so_far.rest ∙ ap (λ (es : List (ℕ × List ℕ)). so_far.done ++ object_texts text es) (ap (listed_objects (live_objects s) id) left
          ∙ listed_none (live_objects s) id n (gone_by_id s.session.ids (objects s.heap.held) id none) ∙ sym (ap (listed_objects (live_objects s) (id + 1)) next));
      written = so_far.written;
    }

    module _ (h : ℕ) (named : get s.session.ids id ≡ Some h) (object : Placed) (some : get s.heap.held h ≡ Some object) where
      abbrev own : List ℕ
      own = text id object.bytes

      abbrev behind : List ℕ
      behind = object_texts text (listed_objects (live_objects s) (id + 1) n)

      split : all_texts ≡ so_far.done ++ (own ++ behind)
      split = so_far.rest ∙ ap (λ (es : List (ℕ × List ℕ)). so_far.done ++ object_texts text es) (ap (listed_objects (live_objects s) id) left
          ∙ listed_some (live_objects s) id n object.bytes
          (live_by_id s.session.ids (objects s.heap.held) id h object.bytes named (bytes_held s.heap.held h object some)))

      -- past an id with an object its text is written too
      pub came_on : (y : SinkState) → WritesAll x own y → CameTo text s w y (id + 1)
      came_on y put = record {
        done = so_far.done ++ own;
        rest = split ∙ sym (append_assoc so_far.done own behind)
            ∙ ap (λ k. (so_far.done ++ own) ++ object_texts text (listed_objects (live_objects s) (id + 1) k)) (sym next);
        written = puts_then {T = Unit {0}} w x y so_far.done own (Ok tt) so_far.written put;
      }

      -- if the text of an object is cut, a prefix of all texts is written
      pub came_short : (y : SinkState) (e : Failed) → Writes {T = Unit {0}} x own (Err e) y → Writes {T = Unit {0}} w all_texts (Err e) y
      came_short y e put = puts_same {T = Unit {0}} w y _ _ (Err e) (sym split)
          (puts_then {T = Unit {0}} w x y so_far.done (own ++ behind) (Err e) so_far.written (puts_cut x y own behind e put))

  -- past the last id all texts are written
  pub came_last : (w x : SinkState) → CameTo text s w x 65536 → WritesAll w all_texts x
  came_last w x so_far = puts_same {T = Unit {0}} w x _ _ (Ok tt) (sym (so_far.rest
      ∙ ap (λ (es : List (ℕ × List ℕ)). so_far.done ++ object_texts text es) (listed_end (live_objects s) 65536) ∙ append-nil so_far.done)) so_far.written
