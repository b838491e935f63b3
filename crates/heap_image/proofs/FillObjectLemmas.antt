-- For `fill_object`, `read_object` and `read_entry`, which make the object of an entry and fill it at most 4,096 bytes at a time: it has the bytes read, or
-- they were cut and it was freed.
use Rattle.std.proofs.Common.{◌≡◌, ◌∙◌, ◌++◌, ◌+◌, ◌-◌, ◌≤◌, ◌<◌, ℕ, true, List, [], Some, None, length, take, drop, refl, ap, sym, subst}
use Rattle.std.proofs.Common.{arith, append_assoc, inl, inr, length-append}
use Rattle.std.specs.Prelude.{replicate, Result, Ok, Err}
use Rattle.std.specs.FinMap.{get, insert, remove}
use Rattle.std.specs.Int.{w32}
use Rattle.std.proofs.lemmas.Bool.{cases_eq, cond-true}
use Rattle.std.proofs.lemmas.List.{drop-replicate, length-replicate}
use Rattle.std.proofs.Math.Seq.{drop-append-add, take-append_seam}
use Rattle.cf_base.specs.Settings.{Profile}
use Rattle.cf_base.proofs.Maps.{equal_maps, get_inserted, get_insert_other, insert_twice, remove_inserted, remove_missing}
use Rattle.cf_base.proofs.Tests.{lt_yes}
use Rattle.page_model.specs.Bytes.{written}
use Rattle.page_model.specs.Held.{Objects}
use Rattle.id_table.specs.Sessions.{RunState}
use Rattle.heap_image.specs.Decoded.{Decoded, Reached, breaks_in, bytes_decoded, cut, has_room, length_decoded, passed}
use Rattle.heap_image.specs.Entries.{ReadsEntry, FillsObject}
use Rattle.heap_image.specs.Feed.{Feed, TakesBytes}
use Rattle.heap_image.specs.Heaps.{live_objects}
use Rattle.heap_image.specs.Load.{IsLoading}
use Rattle.heap_image.specs.Stages.{TakesFewer, LeadsTo, WholeFields, ReadsNumber, StopsReading, StopsInField}
use Rattle.heap_image.specs.declared.fault.LoadFault.{LoadFault}
use Rattle.heap_image.specs.declared.objects_in.Entry.{Entry}
use Rattle.heap_image.proofs.ImageDecoded.{bytes_read}
use Rattle.heap_image.proofs.StageLemmas.{falls_stops, field_good, passes_then, stops_then, takes_then}

module _ (m : Objects) (k : ℕ) (v : List ℕ) where
  insert_same : get m k ≡ Some v → m ≡ insert m k v
  insert_same some = equal_maps _ _ (λ q. elim (cases_eq q k) [
    | inl e ↦ rw e (some ∙ sym (get_inserted m k v))
    | inr ne ↦ sym (get_insert_other m k v q ne)
  ])

-- the objects by id after two steps on one id, from `old` to `mid` and from `mid` to `new`
module _ (old mid new : RunState) (id : ℕ) where
  pub leads_written : (v w x : List ℕ) → LeadsTo old mid (insert (live_objects old) id v) → LeadsTo mid new (insert (live_objects mid) id w) → w ≡ x
      → LeadsTo old new (insert (live_objects old) id x)
  leads_written v w x first next is = record {
    loading = next.loading;
    profile = next.profile ∙ first.profile;
    objects = next.objects ∙ ap (λ (o : Objects). insert o id w) first.objects ∙ insert_twice (live_objects old) id v w
        ∙ ap (λ (b : List ℕ). insert (live_objects old) id b) is;
  }

  pub leads_removed : (v : List ℕ) → LeadsTo old mid (insert (live_objects old) id v) → LeadsTo mid new (remove (live_objects mid) id)
      → LeadsTo old new (remove (live_objects old) id)
  leads_removed v first next = record {
    loading = next.loading;
    profile = next.profile ∙ first.profile;
    objects = next.objects ∙ ap (λ (o : Objects). remove o id) first.objects ∙ remove_inserted (live_objects old) id v;
  }

  pub leads_back : (v : List ℕ) → get (live_objects old) id ≡ None → LeadsTo old mid (insert (live_objects old) id v) → LeadsTo mid new (remove (live_objects mid) id)
      → LeadsTo old new (live_objects old)
  leads_back v none first next = (let all = leads_removed v first next in
      record { loading = all.loading; profile = all.profile; objects = all.objects ∙ remove_missing (live_objects old) id none })

pub leads_still : (s : RunState) → IsLoading s → LeadsTo s s (live_objects s)
leads_still s loading = record { loading = loading; profile = refl; objects = refl }

pub leads_first : (s : RunState) (id n : ℕ) → IsLoading s → get (live_objects s) id ≡ Some (replicate n 0)
    → LeadsTo s s (insert (live_objects s) id ([] ++ replicate (n - 0) 0))
leads_first s id n loading some =
    let same : n ≡ n - 0 = omega arith in
    record {
      loading = loading;
      profile = refl;
      objects = insert_same (live_objects s) id (replicate n 0) some ∙ ap (λ k. insert (live_objects s) id (replicate k 0)) same;
    }

pub held_in : (old mid : RunState) (id : ℕ) (v : List ℕ) → LeadsTo old mid (insert (live_objects old) id v) → get (live_objects mid) id ≡ Some v
held_in old mid id v leads = ap (λ (o : Objects). get o id) leads.objects ∙ get_inserted (live_objects old) id v

-- the next bytes are written over zeros
zeros_after : (k n : ℕ) → drop n (replicate {A = ℕ} k 0) ≡ replicate (k - n) 0
zeros_after k n = drop-replicate n k 0

pub written_next : (bytes chunk : List ℕ) (n done count : ℕ) → length bytes ≡ done → length chunk ≡ count → done + count ≤ n
    → written (bytes ++ replicate (n - done) 0) done chunk ≡ (bytes ++ chunk) ++ replicate (n - (done + count)) 0
written_next bytes chunk n done count is has fits =
    let zeros : List ℕ = replicate (n - done) 0 in
    let left : n - done - length chunk ≡ n - (done + count) = omega (arith, has) in
    (λ i. (ap (λ k. take k (bytes ++ zeros)) (sym is) ∙ take-append_seam bytes zeros) i
    ++ (chunk ++ (ap (λ k. drop (k + length chunk) (bytes ++ zeros)) (sym is) ∙ drop-append-add bytes zeros (length chunk)
    ∙ zeros_after (n - done) (length chunk) ∙ ap (λ k. replicate k 0) left) i))
    ∙ sym (append_assoc bytes chunk (replicate (n - (done + count)) 0))

-- the next `count` bytes are within the object
pub part_fits : (bytes : List ℕ) (n done count : ℕ) → length bytes ≡ done → done + count ≤ n → done + count ≤ length (bytes ++ replicate {A = ℕ} (n - done) 0)
part_fits bytes n done count is fits =
    let a = length-append bytes (replicate {A = ℕ} (n - done) 0) in let b = length-replicate {A = ℕ} (n - done) 0 in omega arith

-- `done` bytes were taken and the next `count` were cut: so fewer than n bytes were taken in all
pub falls_more : (a : List ℕ) (n done count : ℕ) (had mid left : Feed) → length a ≡ done → done + count ≤ n → TakesBytes a had mid → TakesFewer count mid left
    → TakesFewer n had left
falls_more a n done count had mid left is fits took f = record {
  taken = a ++ f.taken;
  short = (let x = length-append a f.taken in let y = f.short in omega arith);
  took = takes_then a f.taken had mid left took f.took;
}

-- if whole fields of an entry were taken, and then its other fields were read, the entry was read
pub entry_then : (T U : List ℕ → Decoded) (go : Reached → List ℕ → Decoded) (old : RunState) (r : Reached) (had mid left : Feed) (e : Result Entry LoadFault)
    (new : RunState) → WholeFields T had mid U → ReadsEntry U go old r mid e left new → ReadsEntry T go old r had e left new
entry_then T U go old r had mid left (Ok e) new p q = (q.0, q.1, q.2, passes_then T U had mid left p (go (passed r e.id q.0)) q.3, q.4)
entry_then T U go old r had mid left (Err f) new p q = (stops_then T U had mid left p (Some old.heap.profile) r.objects f q.0, q.1)

-- the bytes of an entry's object: they were read, or the reading stopped in them
module _ (p : Profile) (r : Reached) (id n : ℕ) (go : Reached → List ℕ → Decoded) (had left : Feed) where
  abbrev bytes_reading : List ℕ → Decoded
  bytes_reading bytes = bytes_decoded p r id n bytes go

  pub bytes_pass : (v : List ℕ) → length v ≡ n → TakesBytes v had left → WholeFields bytes_reading had left (go (passed r id v))
  bytes_pass v is took = record {
    taken = v;
    took = took;
    shows = λ more. ap (λ k. bytes_decoded p r id k (v ++ more) go) (sym is) ∙ bytes_read p r go id v more;
  }

  bytes_short : (bytes : List ℕ) → length bytes < n → bytes_decoded p r id n bytes go ≡ cut (breaks_in p r 6)
  unfolding bytes_decoded
  bytes_short bytes short = cond-true _ _ _ (lt_yes (length bytes) n short)

  pub bytes_stop : (f : LoadFault) → StopsInField n (r.at + 6) had f left → StopsReading (Some p) r.objects bytes_reading had f left
  bytes_stop f q = falls_stops bytes_reading n (breaks_in p r 6) bytes_short had left (r.at + 6) f (Some p) r.objects refl refl refl q

-- an entry after its id: the length was read and the object made, and then it was filled or freed
module _ (old mid new : RunState) (r : Reached) (id n : ℕ) (had rest left : Feed) (mine : r.objects ≡ live_objects old) (rises : r.next ≤ id)
    (good : has_room old.heap.profile r.objects n ≡ true) (reads : ReadsNumber w32 (r.at + 2) had (Ok n) rest)
    (made : LeadsTo old mid (insert (live_objects old) id (replicate n 0))) (go : Reached → List ℕ → Decoded) where
  length_passes : WholeFields (λ bytes. length_decoded old.heap.profile r id bytes go) had rest (λ bytes. bytes_decoded old.heap.profile r id n bytes go)
  unfolding length_decoded
  length_passes = field_good w32 (breaks_in old.heap.profile r 2) (λ n. has_room old.heap.profile r.objects n)
      (λ n rest. bytes_decoded old.heap.profile r id n rest go) had rest (r.at + 2) n reads good

  pub object_read : (e : Entry) → e.id ≡ id → e.length ≡ n → FillsObject n (r.at + 6) mid id rest (Ok tt) left new
      → ReadsEntry (λ bytes. length_decoded old.heap.profile r id bytes go) go old r had (Ok e) left new
  object_read e same size f =
      let leads = leads_written old mid new id (replicate n 0) f.0 f.0 made f.3 refl in
      let passes = passes_then _ _ had rest left length_passes (go (passed r id f.0)) (bytes_pass old.heap.profile r id n go rest left f.0 f.1 f.2) in (
        f.0,
        f.1 ∙ sym size,
        subst (λ k. r.next ≤ k) (sym same) rises,
        subst (λ k. WholeFields (λ bytes. length_decoded old.heap.profile r id bytes go) had left (go (passed r k f.0))) (sym same) passes,
        record {
          loading = leads.loading;
          profile = leads.profile;
          objects = leads.objects ∙ (λ i. insert (sym mine i) (sym same i) f.0);
        },
      )

  pub object_stops : (f : LoadFault) → get (live_objects old) id ≡ None → FillsObject n (r.at + 6) mid id rest (Err f) left new
      → ReadsEntry (λ bytes. length_decoded old.heap.profile r id bytes go) go old r had (Err f) left new
  object_stops f none q =
      let back = leads_back old mid new id (replicate n 0) none made q.1 in (
        stops_then _ _ had rest left length_passes (Some old.heap.profile) r.objects f (bytes_stop old.heap.profile r id n go rest left f q.0),
        record { loading = back.loading; profile = back.profile; objects = back.objects ∙ sym mine },
      )
