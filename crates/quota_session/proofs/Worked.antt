-- For `wrong_task_replies_fall_short`: small scripts in mode `quota` with their right replies computed, each with wrong replies that don't meet the claim.
use Rattle.std.proofs.Common.{◌≡◌, ℕ, true, List, [], ◌∷◌, Some, None, length, get_or, refl, ◌∙◌, ap, arith, codes, if◌then◌else◌, nat_eq, replicate}
use Rattle.std.specs.Fmt.{digits}
use Rattle.run_model.specs.Terms.{Admit, asks, empty, insert, Item, items, Malloc, Need, Objects, Profile, Quota, Read, Reply, said, starts, Task, Write}
use Rattle.hex.specs.Hex.{decode_pairs}
use Rattle.cf_base.specs.Classes.{sizes_from}
use Rattle.page_model.specs.Arrangement.{live, pages_needed, pages_needed_with}
use Rattle.page_model.specs.Paging.{class_for}
use Rattle.script_laws.proofs.CallerLemmas.{counted, got, got_none, listed, listed_none}
use Rattle.quota_session.specs.Transcript.{MeetsTasks, TaskState, command_reply, first_state, state_after, task_replies}
use Rattle.quota_session.proofs.Admitted.{byte_at}

ruleset maps = (got, got_none, counted, listed, listed_none)

-- two pages of 64 words; task 0 has a quota of one
abbrev settings : Profile
settings = record { pages = 2; page_words = 64; k = 1; proxies = 8 }

abbrev with_quota_one : (ℕ → Objects) → TaskState
with_quota_one o = record {
  present = 0;
  tasks = record { profile = settings; quotas = 1 ∷ 0 ∷ 0 ∷ 0 ∷ 0 ∷ 0 ∷ 0 ∷ 0 ∷ 0 ∷ 0 ∷ 0 ∷ 0 ∷ 0 ∷ 0 ∷ 0 ∷ 0 ∷ []; objects = o };
  needs = λ task. [];
}

abbrev after_quota_line : TaskState
after_quota_line = with_quota_one (λ task. empty)

quota_reply : command_reply (first_state settings) (Quota 0 1) ≡ said (codes "ok")
unfolding sizes_from class_for live pages_needed pages_needed_with
quota_reply = simp maps

state_after_quota : state_after (first_state settings) (Quota 0 1) ≡ after_quota_line
unfolding sizes_from class_for live pages_needed pages_needed_with
state_after_quota = simp maps

-- the replies to a script that begins with these two lines
replies_after_quota : (all : List Item) (rest : List Item) (replies : List Reply) → all ≡ starts settings ∷ asks (Quota 0 1) ∷ rest → MeetsTasks all replies
    → replies ≡ said (codes "ok") ∷ said (codes "ok") ∷ task_replies (Some after_quota_line) rest
replies_after_quota all rest replies is meets =
    meets ∙ ap (task_replies None) is ∙ (λ i. said (codes "ok") ∷ quota_reply i ∷ task_replies (Some (state_after_quota i)) rest)

-- wrong replies to a malloc of 176 bytes, which the quota has a page for
malloc_items : items (codes "heap 2 512 1 8\nquota 0 1\nm 1 176\n") true ≡ starts settings ∷ asks (Quota 0 1) ∷ asks (Malloc 1 176) ∷ []
unfolding decode_pairs
malloc_items = refl

malloc_reply : command_reply after_quota_line (Malloc 1 176) ≡ said (codes "ok")
unfolding sizes_from class_for live pages_needed pages_needed_with
malloc_reply = simp maps

malloc_replies : (replies : List Reply) → MeetsTasks (items (codes "heap 2 512 1 8\nquota 0 1\nm 1 176\n") true) replies
    → replies ≡ said (codes "ok") ∷ said (codes "ok") ∷ said (codes "ok") ∷ []
malloc_replies replies meets = replies_after_quota _ _ replies malloc_items meets ∙ (λ i. said (codes "ok") ∷ said (codes "ok") ∷ malloc_reply i ∷ [])

pub every_command_refused : MeetsTasks (items (codes "heap 2 512 1 8\nquota 0 1\nm 1 176\n") true)
    (said (codes "ok") ∷ said (codes "refused sum") ∷ said (codes "refused space") ∷ []) → ⊥
every_command_refused meets = (let d : ◌≡◌ {A = ℕ} 114 111 = ap (λ (l : List Reply). byte_at 0 (get_or l 1 [])) (malloc_replies _ meets) in omega arith)

pub fitting_malloc_refused : MeetsTasks (items (codes "heap 2 512 1 8\nquota 0 1\nm 1 176\n") true)
    (said (codes "ok") ∷ said (codes "ok") ∷ said (codes "refused space") ∷ []) → ⊥
fitting_malloc_refused meets = (let d : ◌≡◌ {A = ℕ} 114 111 = ap (λ (l : List Reply). byte_at 0 (get_or l 2 [])) (malloc_replies _ meets) in omega arith)

pub malloc_without_line : MeetsTasks (items (codes "heap 2 512 1 8\nquota 0 1\nm 1 176\n") true) (said (codes "ok") ∷ said (codes "ok") ∷ [] ∷ []) → ⊥
malloc_without_line meets = (let d : ◌≡◌ {A = ℕ} 0 1 = ap (λ (l : List Reply). length (get_or l 2 [])) (malloc_replies _ meets) in omega arith)

pub malloc_without_reply : MeetsTasks (items (codes "heap 2 512 1 8\nquota 0 1\nm 1 176\n") true) (said (codes "ok") ∷ said (codes "ok") ∷ []) → ⊥
malloc_without_reply meets = (let d : ◌≡◌ {A = ℕ} 2 3 = ap length (malloc_replies _ meets) in omega arith)

pub one_reply_too_many : MeetsTasks (items (codes "heap 2 512 1 8\nquota 0 1\nm 1 176\n") true)
    (said (codes "ok") ∷ said (codes "ok") ∷ said (codes "ok") ∷ said (codes "ok") ∷ []) → ⊥
one_reply_too_many meets = (let d : ◌≡◌ {A = ℕ} 4 3 = ap length (malloc_replies _ meets) in omega arith)

-- a second malloc needs a second page
second_malloc_items : items (codes "heap 2 512 1 8\nquota 0 1\nm 1 504\nm 2 504\n") true
    ≡ starts settings ∷ asks (Quota 0 1) ∷ asks (Malloc 1 504) ∷ asks (Malloc 2 504) ∷ []
unfolding decode_pairs
second_malloc_items = refl

abbrev full_page : ℕ → Objects
full_page task = if nat_eq task 0 then insert empty 1 (replicate 504 0) else empty

state_after_malloc : state_after after_quota_line (Malloc 1 504) ≡ with_quota_one full_page
unfolding sizes_from class_for live pages_needed pages_needed_with
state_after_malloc = simp maps

second_malloc_reply : command_reply (with_quota_one full_page) (Malloc 2 504) ≡ said (codes "refused space")
unfolding sizes_from class_for live pages_needed pages_needed_with
second_malloc_reply = simp maps

pub malloc_beyond_quota : MeetsTasks (items (codes "heap 2 512 1 8\nquota 0 1\nm 1 504\nm 2 504\n") true)
    (said (codes "ok") ∷ said (codes "ok") ∷ said (codes "ok") ∷ said (codes "ok") ∷ []) → ⊥
malloc_beyond_quota meets =
    let e : said (codes "ok") ≡ command_reply (state_after after_quota_line (Malloc 1 504)) (Malloc 2 504) =
    ap (λ (l : List Reply). get_or l 3 []) (replies_after_quota _ _ _ second_malloc_items meets) in
    let d : ◌≡◌ {A = ℕ} 111 114 = ap (byte_at 0) (e ∙ ap (λ s. command_reply s (Malloc 2 504)) state_after_malloc ∙ second_malloc_reply) in
    omega arith

-- a read by another task, in which the id isn't live
foreign_read_items : items (codes "heap 2 512 1 8\nquota 0 1\nm 1 1\nw 1 0 aa\nt 1\nr 1 0 1\n") true
    ≡ starts settings ∷ asks (Quota 0 1) ∷ asks (Malloc 1 1) ∷ asks (Write 1 0 (170 ∷ [])) ∷ asks (Task 1) ∷ asks (Read 1 0 1) ∷ []
unfolding decode_pairs
foreign_read_items = refl

foreign_read_reply : get_or (task_replies (Some after_quota_line) (asks (Malloc 1 1) ∷ asks (Write 1 0 (170 ∷ [])) ∷ asks (Task 1) ∷ asks (Read 1 0 1) ∷ [])) 3 []
    ≡ said (codes "unknown")
foreign_read_reply = simp maps

pub bytes_of_another_task : MeetsTasks (items (codes "heap 2 512 1 8\nquota 0 1\nm 1 1\nw 1 0 aa\nt 1\nr 1 0 1\n") true)
    (said (codes "ok") ∷ said (codes "ok") ∷ said (codes "ok") ∷ said (codes "ok") ∷ said (codes "ok") ∷ said (codes "=aa") ∷ []) → ⊥
bytes_of_another_task meets =
    let d : ◌≡◌ {A = ℕ} 61 117 = ap (byte_at 0) (ap (λ (l : List Reply). get_or l 5 []) (replies_after_quota _ _ _ foreign_read_items meets) ∙ foreign_read_reply) in omega arith

-- two objects of a page each in a quota of one page
admit_items : items (codes "heap 2 512 1 8\nquota 0 1\nneed 0 504 2\nadmit 0\n") true
    ≡ starts settings ∷ asks (Quota 0 1) ∷ asks (Need 0 504 2) ∷ asks (Admit 0) ∷ []
unfolding decode_pairs
admit_items = refl

admit_reply : get_or (task_replies (Some after_quota_line) (asks (Need 0 504 2) ∷ asks (Admit 0) ∷ [])) 1 [] ≡ said (codes "no 2")
unfolding sizes_from class_for live pages_needed pages_needed_with digits
admit_reply = simp maps

pub admitted_beyond_quota : MeetsTasks (items (codes "heap 2 512 1 8\nquota 0 1\nneed 0 504 2\nadmit 0\n") true)
    (said (codes "ok") ∷ said (codes "ok") ∷ said (codes "ok") ∷ said (codes "yes") ∷ []) → ⊥
admitted_beyond_quota meets =
    let d : ◌≡◌ {A = ℕ} 121 110 = ap (byte_at 0) (ap (λ (l : List Reply). get_or l 3 []) (replies_after_quota _ _ _ admit_items meets) ∙ admit_reply) in omega arith

-- quotas of three pages in all
sum_items : items (codes "heap 2 512 1 8\nquota 0 1\nquota 1 2\n") true ≡ starts settings ∷ asks (Quota 0 1) ∷ asks (Quota 1 2) ∷ []
unfolding decode_pairs
sum_items = refl

sum_reply : command_reply after_quota_line (Quota 1 2) ≡ said (codes "refused sum")
sum_reply = refl

pub quotas_beyond_pages : MeetsTasks (items (codes "heap 2 512 1 8\nquota 0 1\nquota 1 2\n") true)
    (said (codes "ok") ∷ said (codes "ok") ∷ said (codes "ok") ∷ []) → ⊥
quotas_beyond_pages meets =
    let e : said (codes "ok") ≡ command_reply after_quota_line (Quota 1 2) = ap (λ (l : List Reply). get_or l 2 []) (replies_after_quota _ _ _ sum_items meets) in
    let d : ◌≡◌ {A = ℕ} 111 114 = ap (byte_at 0) (e ∙ sum_reply) in
    omega arith
