-- For `reads_give_what_was_written`: in the transcript, the replies that a script's lines determine, each read returns the bytes of the present task's id that
-- the lines and replies before it determine.
use Rattle.std.proofs.Common.{◌≡◌, ℕ, Bool, true, false, cond, List, [], ◌∷◌, Option, Some, None, length, replicate, sym, ◌∙◌, ap, refl, subst, inl, inr, ◌&&◌, Err, nat_eq, option_map}
use Rattle.std.proofs.lemmas.Bool.{cases_eq}
use Rattle.run_model.specs.Terms.{AccessFault, asks, bad, Command, get, insert, Item, Objects, Refusal, remove, Reply, said, starts, written}
use Rattle.cf_base.specs.declared.results.AccessFault.TheVariants as access
use Rattle.cf_base.specs.declared.results.Refusal.TheVariants as refusal
use Rattle.cf_base.proofs.Tests.{eq_no, eq_yes}
use Rattle.cf_base.proofs.Maps.{remove_missing}
use Rattle.quota_session.specs.Tasks.{Tasks, own_heap, task_leaves, task_reply}
use Rattle.quota_session.specs.Transcript.{MeetsTasks, TaskState, command_reply, present_after, reply_to_item, state_after, state_after_item, task_replies}
use Rattle.script_laws.proofs.CallerLemmas.{changed_is}
use Rattle.script_laws.specs.IdBytes.{changed, bytes_after, is_ok, read_shown}
use Rattle.run_model.specs.Replies.{malloc_text, write_text}
use Rattle.script_reader.specs.declared.command.Command.TheVariants as command
use Rattle.script_laws.specs.RepliesById.{free_said, malloc_fault, malloc_leaves, malloc_said, ok_or, put_unless, write_fault}
use Rattle.script_laws.specs.RepliesById.{write_leaves, write_said}
use Rattle.quota_session.specs.TaskBytes.{AreReadsOfTasks, IsReadOfTasks, TaskBytes, task_bytes_after, bytes_with}

either : {X : Type 0} (b : Bool) (x : X) → x ≡ cond b x x
either true x = refl
either false x = refl

-- The objects by id that a call leaves the present task, number `now`, follow from those before it and the reply.
module _ (t : Tasks) (now : ℕ) where
  abbrev all : Objects
  all = t.objects now

  leaves_shown : (c : Command) → task_leaves t now c ≡ cond (is_ok (task_reply t now c)) (bytes_after c all) all
  leaves_shown (command.Malloc id n) = by_object (get all id)
    where
      by_fault : (f : Option Refusal)
          → put_unless f all id (replicate n 0) ≡ cond (is_ok (said (ok_or (λ e. malloc_text (Err e)) f))) (insert all id (replicate n 0)) all
      by_fault None = refl
      by_fault (Some refusal.Size) = refl
      by_fault (Some refusal.Proxy) = refl
      by_fault (Some refusal.Space) = refl

      by_object : (o : Option (List ℕ)) → malloc_leaves o (own_heap t now) (record { number = id; length = n })
          ≡ cond (is_ok (said (malloc_said o (own_heap t now) n))) (insert all id (replicate n 0)) all
      by_object None = by_fault (malloc_fault (own_heap t now) n)
      by_object (Some v) = refl
  leaves_shown (command.Free id) = by_object (get all id) refl
    where
      by_object : (o : Option (List ℕ)) → get all id ≡ o → remove all id ≡ cond (is_ok (said (free_said o))) (remove all id) all
      by_object None none = remove_missing all id none
      by_object (Some v) live = refl
  leaves_shown (command.Write id at bytes) = by_object (get all id) refl
    where
      by_fault : (v : List ℕ) (f : Option AccessFault) → get all id ≡ Some v → put_unless f all id (written v at bytes)
          ≡ cond (is_ok (said (ok_or (λ e. write_text (Err e)) f))) (changed all id (λ u. written u at bytes)) all
      by_fault v None live = sym (changed_is all id (λ u. written u at bytes) v live)
      by_fault v (Some access.Unknown) live = refl
      by_fault v (Some access.Range) live = refl

      by_object : (o : Option (List ℕ)) → get all id ≡ o → write_leaves o all (record { id = id; at = at; bytes = bytes })
          ≡ cond (is_ok (said (write_said o at (length bytes)))) (changed all id (λ u. written u at bytes)) all
      by_object None none = refl
      by_object (Some v) live = by_fault v (write_fault v at (length bytes)) live
  leaves_shown (command.Read id at count) = either (is_ok (task_reply t now (command.Read id at count))) all
  leaves_shown command.Walk = either (is_ok (task_reply t now command.Walk)) all
  leaves_shown c = refl

-- the reply to a read depends on the bytes of the object alone
read_is : (o : Option (List ℕ)) (at count : ℕ) → read_shown o at count ≡ read_shown o at count
read_is None at count = refl
read_is (Some v) at count = refl

-- the bytes of each task's ids in a state of the transcript
abbrev bytes_of : TaskState → TaskBytes
bytes_of s = record { present = s.present; bytes = s.tasks.objects }

module _ (s : TaskState) where
  abbrev t : Tasks
  t = s.tasks

  abbrev now : ℕ
  now = s.present

  -- after a call of the present task, its objects by id are those that follow from the reply, and those of every other task u stay
  call_shown : (c : Command) (u : ℕ) → cond (nat_eq u now && is_ok (task_reply t now c)) (bytes_after c (t.objects u)) (t.objects u)
      ≡ cond (nat_eq u now) (task_leaves t now c) (t.objects u)
  call_shown c u = elim (cases_eq u now) [
    | inl at ↦ (
        let yes = eq_yes u now at in
        rw yes (ap (λ v. cond (is_ok (task_reply t now c)) (bytes_after c (t.objects v)) (t.objects v)) at ∙ sym (leaves_shown t now c)))
    | inr ne ↦ (let no' = eq_no u now ne in rw no' refl)
  ]

  after_shown : (c : Command) (u : ℕ) → (bytes_with (bytes_of s) c (command_reply s c)).bytes u ≡ (state_after s c).tasks.objects u
  after_shown (command.Task task) u = sym (either (nat_eq u now && is_ok (command_reply s (command.Task task))) (t.objects u))
  after_shown (command.Quota task pages) u = sym (either (nat_eq u now && is_ok (command_reply s (command.Quota task pages))) (t.objects u))
  after_shown (command.Need task bytes count) u = sym (either (nat_eq u now && is_ok (command_reply s (command.Need task bytes count))) (t.objects u))
  after_shown (command.Admit task) u = sym (either (nat_eq u now && is_ok (command_reply s (command.Admit task))) (t.objects u))
  after_shown c u = call_shown c u

item_shown : (s : Option TaskState) (item : Item) → task_bytes_after (option_map bytes_of s) item (reply_to_item s item) ≡ option_map bytes_of (state_after_item s item)
item_shown s (starts p) = refl
item_shown None (asks c) = refl
item_shown (Some s) (asks c) = λ i. Some (record { present = present_after s.present c; bytes = λ u. after_shown s c u i })
item_shown s (bad n) = refl

item_reads : (s : Option TaskState) (item : Item) → IsReadOfTasks (option_map bytes_of s) item (reply_to_item s item)
item_reads None item = tt
item_reads (Some s) (asks (command.Read id at count)) = ap said (read_is (get (s.tasks.objects s.present) id) at count)
item_reads (Some s) item = tt

replies_read : (s : Option TaskState) (items : List Item) → AreReadsOfTasks (option_map bytes_of s) items (task_replies s items)
replies_read s [] = tt
replies_read s (item ∷ rest) = (
  item_reads s item,
  subst (λ shown. AreReadsOfTasks shown rest (task_replies (state_after_item s item) rest)) (sym (item_shown s item)) (replies_read (state_after_item s item) rest),
)

pub reads_are_shown : (items : List Item) (replies : List Reply) → MeetsTasks items replies → AreReadsOfTasks None items replies
reads_are_shown items replies meets = subst (AreReadsOfTasks None items) (sym meets) (replies_read None items)
