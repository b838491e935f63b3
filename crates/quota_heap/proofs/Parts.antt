-- For `find`, `object`, `read` and `write`: the object found for a task, or the fault, is the one that contracts show; a read returns its bytes, and a write
-- changes these bytes alone and leaves the heap valid. Also, two facts about options.
use Rattle.std.proofs.Common.{◌≡◌, ℕ, ◌+◌, ◌-◌, ◌/◌, ◌%◌, ◌^◌, ◌<◌, ◌≤◌, List, [], ◌∷◌, length, get_or, set, Some, None, Result}
use Rattle.std.proofs.Common.{Ok, Err, arith, refl, sym, ◌∙◌, ap, subst}
use Rattle.std.specs.Prelude.{IfNone, IfSome, Option}
use Rattle.std.proofs.lemmas.List.{set-get_or}
use Rattle.std.proofs.lemmas.Option.{get_or_from_slice_get}
use Rattle.std.specs.FinMap.{get, insert}
use Rattle.cf_base.specs.Settings.{profile_of}
use Rattle.cf_base.specs.declared.results.AccessFault.{AccessFault}
use Rattle.cf_base.specs.declared.results.AccessFault.TheVariants.{Unknown, Range}
use Rattle.page_model.specs.Arrangement.{live, pages_needed}
use Rattle.page_model.specs.Bytes.{AreBytes, bytes_at, written}
use Rattle.page_model.specs.Held.{Held, Placed, objects}
use Rattle.page_model.specs.Image.{IsSlotImage, Rewrites, object_word}
use Rattle.page_model.specs.Paging.{class_for}
use Rattle.page_model.proofs.CallerLemmas.{bytes_at-AreBytes, inserted_there, length-written, rewritten_places, storable_added}
use Rattle.page_model.proofs.CallerLemmas.{written_are_bytes, written_nothing}
use Rattle.page_slots.specs.Occupying.{Occupies}
use Rattle.page_slots.proofs.CallerLemmas.{bytes_read, rewrites, words_in, rewritten_occupied, no_place, held}
use Rattle.quota_model.specs.Joined.{joined_places}
use Rattle.quota_model.proofs.CallerLemmas.{image_of_write, live_same, needed_same, others_rewritten, own_rewritten, rewritten_quotas, rewritten_shared}
use Rattle.quota_model.specs.Parts.{key_of, objects_of_task}
use Rattle.quota_model.proofs.CallerLemmas.{found_whole}
use Rattle.cf_model.specs.Steps.{Position}
use Rattle.region.specs.Overwriting.{Overwrites, byte_from}
use Rattle.quota_heap.specs.Calls.{IsFoundIn, IsMissing, IsTaskFound}
use Rattle.quota_heap.specs.Layout.{IsTask, IsTaskIn, IsValid, tasks_held_in, held_of, shared_paging, places_of, quotas_of, tasks_state_of, tables_of, as_owner}
use Rattle.quota_heap.specs.State.{held_by}
use Rattle.quota_heap.specs.Steps.{IsTaskFault, ReadsOfTask, WritesForTask, with_held}
use Rattle.quota_heap.specs.declared.open_tasks.OpenTasks.{OpenTasks}
use Rattle.quota_heap.specs.declared.task.Task.{Task}
use Rattle.quota_heap.proofs.Facts.{number_small, tables_ok, owns}
use Rattle.quota_heap.proofs.Preserved.{Becomes, becomes_kept, becomes_state, places_are, stored}
use Rattle.quota_heap.proofs.Tasks.{part_is, task_below}
use Rattle.page_slots.specs.Owner.{HoldsBytesAt}

module _ (h : OpenTasks) (k : IsValid h) (t : ℕ) (x : Task) (at : IsTaskIn h t x) where
  abbrev i : IsTask h.shared_pages t x
  i = k.task t x at

  -- the object at the address of a live number, as contracts show it
  pub object_by : (q a : ℕ) → get x.proxies.places q ≡ Some a → get (held_by (tasks_state_of h) t) q ≡ Some (record { place = a; bytes = bytes_at h.shared_pages.region a })
  object_by q a e = ap (λ m. get m q) (part_is h k t x at) ∙ held (owns k.shared_pages i) q a e

  pub no_object : (q : ℕ) → get x.proxies.places q ≡ None → get (held_by (tasks_state_of h) t) q ≡ None
  no_object q e = ap (λ m. get m q) (part_is h k t x at) ∙ no_place (as_owner h.shared_pages x) q e

  -- the cause of a fault of `find`, as contracts show it
  pub fault_is : (position : Position) (count : ℕ) (e : AccessFault) → IsMissing h.shared_pages x position count e → IsTaskFault (tasks_state_of h) t position count e
  fault_is position count Unknown none = no_object position.number none
  fault_is position count Range p = record {
    object = record { place = p.place; bytes = bytes_at h.shared_pages.region p.place };
    found = object_by position.number p.place p.found;
    past = p.past;
  }

  -- what `find` of the shared pages returns for the task is right for the heap
  pub found_in : (position : Position) (count : ℕ) (r : Result ℕ AccessFault) → IsTaskFound h.shared_pages x position count r → IsFoundIn h t position count r
  found_in position count (Ok place) l = λ y e. (
      let z : Some x ≡ Some y = sym at ∙ e in
      let same : x ≡ y = cc in
      subst (λ (z : Task). HoldsBytesAt (as_owner h.shared_pages z) position.number position.from count place) same l)
  found_in position count (Err e) m = fault_is position count e m

pub none_to : {X A B : Type 0} (r : Option X) → (A → B) → IfNone r A → IfNone r B
none_to None f p = f p
none_to (Some x) f p = p

pub some_to : {X : Type 0} {P Q : X → Type 0} (r : Option X) → ((x : X) → P x → Q x) → IfSome r P → IfSome r Q
some_to None f p = p
some_to (Some x) f p = f x p

-- the `count` bytes of a found object
module _ (h : OpenTasks) (k : IsValid h) (t : ℕ) (x : Task) (at : IsTaskIn h t x) (position : Position) (count a : ℕ)
    (l : HoldsBytesAt (as_owner h.shared_pages x) position.number position.from count a) where
  abbrev task : IsTask h.shared_pages t x
  task = k.task t x at

  abbrev pub from : ℕ
  from = position.from

  pub place_small : 1 ≤ count → a + 1 + position.from / 8 ≤ 2 ^ 23
  place_small some = (let w = words_in (owns k.shared_pages task) position.number position.from count a l some in let long = k.shared_pages.words_long in
      let small = h.shared_pages.settings.small_region in omega arith)

  -- the bytes that the code reads are those of the object
  pub read_is : (out : List ℕ) → length out ≡ count
      → ((j : ℕ) → j < length out → get_or out j 0 ≡ byte_from h.shared_pages.region (a + 1 + position.from / 8) (position.from % 8 + j))
      → ReadsOfTask (tasks_state_of h) t position count out
  read_is out long each = record {
    object = record { place = a; bytes = bytes_at h.shared_pages.region a };
    found = object_by h k t x at position.number a l.found;
    within = l.within;
    value = bytes_read (owns k.shared_pages task) position.number position.from count a l out long each;
  }

  -- a read of no bytes meets the contract of a read
  pub reads_nothing : (out : List ℕ) → length out ≡ count → count ≡ 0 → ReadsOfTask (tasks_state_of h) t position count out
  reads_nothing out long none = read_is out long (λ j less. absurd (omega arith))

-- a write of `bytes` to the found object at address a, after which the region has the words `words`
module _ (h : OpenTasks) (k : IsValid h) (t : ℕ) (x : Task) (at : IsTaskIn h t x) (position : Position) (a : ℕ) (bytes : List ℕ)
    (l : HoldsBytesAt (as_owner h.shared_pages x) position.number position.from (length bytes) a) (each : AreBytes bytes) (words : List ℕ)
    (w : Overwrites h.shared_pages.region words (record { from = a + 1 + position.from / 8; count = (position.from % 8 + length bytes + 7) / 8 }) (position.from % 8) bytes) where
  abbrev own : IsTask h.shared_pages t x
  own = k.task t x at

  abbrev q : ℕ
  q = position.number

  abbrev pos : ℕ
  pos = position.from

  abbrev pub left : OpenTasks
  left = record h { shared_pages = record h.shared_pages { region = words } }

  abbrev key : ℕ
  key = key_of t position.number

  abbrev old : List ℕ
  old = bytes_at h.shared_pages.region a

  abbrev new : List ℕ
  new = written (bytes_at h.shared_pages.region a) position.from bytes

  abbrev it : Placed
  it = record { place = a; bytes = bytes_at h.shared_pages.region a }

  found : get (held_of h.shared_pages x) q ≡ Some it
  found = held (owns k.shared_pages own) q a l.found

  part_found : get (objects_of_task (tasks_held_in h) t) q ≡ Some it
  part_found = ap (λ m. get m q) (part_is h k t x at) ∙ found

  whole_found : get (tasks_held_in h) key ≡ Some it
  whole_found = found_whole (tasks_held_in h) t q it part_found

  are : AreBytes new
  are = written_are_bytes old pos bytes l.within (bytes_at-AreBytes h.shared_pages.region a) each

  size : length new ≡ length old
  size = length-written old pos bytes l.within

  few : q < 65536
  few = number_small h.shared_pages k.shared_pages t x own q a l.found

  key_few : key < 2 ^ 32
  key_few = (let f = few in let s = task_below h k t x at in omega arith)

  abbrev pub changed : Held
  changed = insert (tasks_held_in h) (key_of t position.number) (record { place = a; bytes = written (bytes_at h.shared_pages.region a) position.from bytes })

  image : IsSlotImage (shared_paging h.shared_pages) changed words
  image =
      let first : a + 1 + pos / 8 ≡ a + (1 + pos / 8) = omega arith in
      image_of_write (profile_of h.shared_pages.settings) (tasks_held_in h) k.shared h.shared_pages.settings.page_size h.shared_pages.region k.image t q it part_found words pos bytes
      l.within
      (subst (λ f. Rewrites h.shared_pages.region words (record { from = f; count = (pos % 8 + length bytes + 7) / 8 }) (λ j. object_word key new (1 + pos / 8 + j)))
      first (rewrites (owns k.shared_pages own) q pos a bytes l each key key_few (k.image.held key it whole_found) words w))

  class : class_for (shared_paging h.shared_pages) (length new) ≡ class_for (shared_paging h.shared_pages) (length old)
  class = ap (class_for (shared_paging h.shared_pages)) size

  own_part : objects_of_task changed t ≡ insert (held_of h.shared_pages x) q (record { place = a; bytes = new })
  own_part = own_rewritten (profile_of h.shared_pages.settings) (tasks_held_in h) t q it part_found new class
      ∙ ap (λ m. insert m q (record { place = a; bytes = new })) (part_is h k t x at)

  tasks_same : h.tasks.items ≡ set h.tasks.items t x
  tasks_same = sym (ap (set h.tasks.items t) (sym (get_or_from_slice_get h.tasks.items t x x at)) ∙ set-get_or h.tasks.items t x)

  becomes : Becomes h left t x x changed
  becomes = record {
    at = at;
    tasks = tasks_same;
    granted = refl;
    rest = record {
      settings = refl;
      classes = refl;
      quota = refl;
      tables = tables_ok h.shared_pages k.shared_pages t x own;
      elsewhere = record { still = λ page e. e; slots = λ page e. refl };
      handles = own.handles;
      account = refl;
    };
    places = ap (λ ts. joined_places (places_of ts)) (sym tasks_same) ∙ places_are h k
        ∙ sym (rewritten_places (tasks_held_in h) key it (record { place = a; bytes = new }) whole_found refl);
    storable = storable_added (tasks_held_in h) key (record { place = a; bytes = new }) (stored h k) key_few are;
    long = w.long;
    image = image;
    shared = rewritten_shared (profile_of h.shared_pages.settings) (tasks_held_in h) t q it part_found new class k.shared;
    quotas = rewritten_quotas (profile_of h.shared_pages.settings) (tasks_held_in h) t q it part_found new class (quotas_of h.tasks.items) k.quotas;
    others = λ u ne. others_rewritten (profile_of h.shared_pages.settings) (tasks_held_in h) t q it part_found new class u ne;
    serve = own.serve;
    occupied = subst (λ m. Occupies (shared_paging h.shared_pages) m (tables_of h.shared_pages x)) (sym own_part) (rewritten_occupied own.occupied q found new class);
    limit = refl;
    live_long = own.live_long;
    counted = λ c lt. own.counted c lt ∙ sym (live_same (profile_of h.shared_pages.settings) (tasks_held_in h) t q it part_found new class c
        ∙ ap (λ m. live (shared_paging h.shared_pages) (objects m) c) (part_is h k t x at));
    pages = own.pages ∙ sym (needed_same (profile_of h.shared_pages.settings) (tasks_held_in h) t q it part_found new class
        ∙ ap (λ m. pages_needed (shared_paging h.shared_pages) (objects m)) (part_is h k t x at));
  }

  pub wrote_kept : IsValid left
  wrote_kept = becomes_kept h left k t x x changed becomes

  pub wrote : WritesForTask (tasks_state_of h) t position bytes (tasks_state_of left)
  wrote = record {
    object = it;
    found = object_by h k t x at q a l.found;
    within = l.within;
    whole = becomes_state h left k t x x changed becomes;
  }

-- a write of no bytes changes nothing
pub wrote_nothing : (h : OpenTasks) (k : IsValid h) (t : ℕ) (x : Task) (at : IsTaskIn h t x) (position : Position) (a : ℕ) (bytes : List ℕ) → length bytes ≡ 0
    → HoldsBytesAt (as_owner h.shared_pages x) position.number position.from (length bytes) a → WritesForTask (tasks_state_of h) t position bytes (tasks_state_of h)
wrote_nothing h k t x at position a [] none l =
    let it : Placed = record { place = a; bytes = bytes_at h.shared_pages.region a } in
    let found = object_by h k t x at position.number a l.found in
    let whole = found_whole (tasks_held_in h) t position.number (record { place = a; bytes = bytes_at h.shared_pages.region a }) found in
    record {
      object = record { place = a; bytes = bytes_at h.shared_pages.region a };
      found = found;
      within = l.within;
      whole =
          let fits = l.within in
          let same = written_nothing (bytes_at h.shared_pages.region a) position.from (omega arith) in
          ap (λ m. with_held (tasks_state_of h) m h.shared_pages.region)
          (sym (ap (λ v. insert (tasks_held_in h) (key_of t position.number) (record { place = a; bytes = v })) same
          ∙ inserted_there (tasks_held_in h) (key_of t position.number) (record { place = a; bytes = bytes_at h.shared_pages.region a }) whole));
    }
wrote_nothing h k t x at position a (y ∷ ys) none l = absurd (omega arith)
