-- For `save` and `put_object`: the 20 bytes of the header and then the entries, id, length and bytes of each object, are the image of the live objects, or a
-- prefix of it if the sink fails. There are as many live ids as live handles, for `StepLemmas` too.
use Rattle.std.proofs.Common.{◌≡◌, ◌∙◌, ◌++◌, ◌*◌, ℕ, List, [], length, ap, sym, append_assoc}
use Rattle.std.specs.Prelude.{Result, Err, Ok}
use Rattle.std.specs.FinMap.{entries, len}
use Rattle.std.specs.Int.{w16, w32}
use Rattle.cf_base.specs.Settings.{Profile}
use Rattle.cf_base.specs.declared.results.Failed.{Failed}
use Rattle.cf_base.specs.declared.results.Totals.{Totals}
use Rattle.cf_base.specs.declared.kind.Kind.{Kind}
use Rattle.cf_base.specs.declared.kind.Kind.TheVariants.{Moving}
use Rattle.cf_io.specs.Feeds.{SinkState, Writes, WritesAll}
use Rattle.cf_io.proofs.CallerLemmas.{puts_cut, puts_same, puts_then}
use Rattle.cf_model.specs.Answers.{totals_in}
use Rattle.cf_model.specs.State.{HeapState}
use Rattle.page_model.specs.Held.{objects}
use Rattle.page_model.proofs.CallerLemmas.{len-objects}
use Rattle.id_table.specs.Sessions.{AreTied, RunState}
use Rattle.id_table.proofs.CallerLemmas.{names_of_objects, by_id_counts}
use Rattle.heap_image.specs.Heaps.{heap_image, live_objects}
use Rattle.heap_image.specs.Image.{entries_of, entry_of, header_of, number_bytes}

-- an id, a length and bytes that are written one after the other are an entry (`entry_of`)
pub entry_put : {T : Type 0} (w x y : SinkState) (id n : ℕ) (line line2 line3 bytes : List ℕ) (r : Result T Failed) → line ≡ [] → line2 ≡ line ++ number_bytes w16 id
    → line3 ≡ line2 ++ number_bytes w32 n → n ≡ length bytes → WritesAll w line3 x → Writes x bytes r y → Writes w (entry_of id bytes) r y
entry_put {T} w x y id n line line2 line3 bytes r none first second same put rest =
    let is : line3 ++ bytes ≡ entry_of id bytes =
    ap (λ (l : List ℕ). l ++ bytes) (second ∙ ap (λ (l : List ℕ). l ++ number_bytes w32 n) (first ∙ ap (λ (l : List ℕ). l ++ number_bytes w16 id) none))
    ∙ append_assoc (number_bytes w16 id) (number_bytes w32 n) bytes ∙ ap (λ k. number_bytes w16 id ++ (number_bytes w32 k ++ bytes)) same in
    puts_same w y _ _ r is (puts_then w x y line3 bytes r put rest)

pub entry_cut : (w y : SinkState) (id n : ℕ) (line line2 line3 bytes : List ℕ) (e : Failed) → line ≡ [] → line2 ≡ line ++ number_bytes w16 id
    → line3 ≡ line2 ++ number_bytes w32 n → n ≡ length bytes → Writes {T = Unit {0}} w line3 (Err e) y → Writes {T = Unit {0}} w (entry_of id bytes) (Err e) y
entry_cut w y id n line line2 line3 bytes e none first second same put =
    let is : line3 ++ bytes ≡ entry_of id bytes =
    ap (λ (l : List ℕ). l ++ bytes) (second ∙ ap (λ (l : List ℕ). l ++ number_bytes w32 n) (first ∙ ap (λ (l : List ℕ). l ++ number_bytes w16 id) none))
    ∙ append_assoc (number_bytes w16 id) (number_bytes w32 n) bytes ∙ ap (λ k. number_bytes w16 id ++ (number_bytes w32 k ++ bytes)) same in
    puts_same {T = Unit {0}} w y _ _ (Err e) is (puts_cut w y line3 bytes e put)

module _ (s : RunState) (tied : AreTied s.session s.heap) where
  -- there are as many live ids as live handles
  pub as_many : len (live_objects s) ≡ len s.heap.held
  as_many = (by_id_counts s.session.ids (objects s.heap.held) (names_of_objects s.session.ids s.heap.held tied.ids)).count
      ∙ len-objects s.heap.held

  -- the header holds the settings and the number of objects
  header_is : (pages page_words proxies live : ℕ) → s.heap.profile.pages ≡ pages → s.heap.profile.page_words ≡ page_words → s.heap.profile.proxies ≡ proxies
      → live ≡ len s.heap.held
      → header_of pages (8 * page_words) proxies live
      ≡ header_of s.heap.profile.pages (8 * s.heap.profile.page_words) s.heap.profile.proxies (len (live_objects s))
  header_is pages page_words proxies live p q r l = sym (λ i. header_of (p i) (8 * q i) (r i) ((as_many ∙ sym l) i))

  -- the header was written, and then the objects
  pub header_then : (w x y : SinkState) (pages page_words proxies live : ℕ) (r : Result Unit Failed) → s.heap.profile.pages ≡ pages
      → s.heap.profile.page_words ≡ page_words → s.heap.profile.proxies ≡ proxies → live ≡ len s.heap.held
      → WritesAll w (header_of pages (8 * page_words) proxies live) x → Writes x (entries_of (entries (live_objects s))) r y → Writes w (heap_image s) r y
  header_then w x y pages page_words proxies live r p q t l put rest =
      puts_then {T = Unit {0}} w x y _ (entries_of (entries (live_objects s))) r
      (puts_same {T = Unit {0}} w x _ _ (Ok tt) (header_is pages page_words proxies live p q t l) put) rest

  -- if the header is cut, a prefix of the image is written
  pub header_cut : (w x : SinkState) (pages page_words proxies live : ℕ) (e : Failed) → s.heap.profile.pages ≡ pages → s.heap.profile.page_words ≡ page_words
      → s.heap.profile.proxies ≡ proxies → live ≡ len s.heap.held → Writes {T = Unit {0}} w (header_of pages (8 * page_words) proxies live) (Err e) x
      → Writes {T = Unit {0}} w (heap_image s) (Err e) x
  header_cut w x pages page_words proxies live e p q r l put =
      puts_cut w x _ (entries_of (entries (live_objects s))) e
      (puts_same {T = Unit {0}} w x _ _ (Err e) (header_is pages page_words proxies live p q r l) put)

-- the totals contain the number of objects
pub live_shown : (s : HeapState) (t : Totals) → s.kind ≡ Moving → t ≡ totals_in s.kind s → t.live ≡ len s.held
live_shown s t moving is =
    ap (λ (f : Totals). f.live) (is ∙ ap (λ (k : Kind). totals_in k s) moving) ∙ len-objects s.held

-- equal settings are equal in each field that a header holds
pub profile_parts : (p q : Profile) → p ≡ q → (p.pages ≡ q.pages) × (p.page_words ≡ q.page_words) × (p.proxies ≡ q.proxies)
profile_parts p q e = (ap (λ (p : Profile). p.pages) e, ap (λ (p : Profile). p.page_words) e, ap (λ (p : Profile). p.proxies) e)
