-- For `the_words_show_blocks_and_objects` and `a_carve_keeps_the_words`: with blocks, the words determine the blocks, and words and addresses the objects.
-- After a malloc takes (carves) a block from a free one, the words are those of the objects with the new one. Re-exports `fresh_word`: a new object's words
-- after its header are 0.
use Rattle.std.proofs.Common.{◌≡◌, ◌≢◌, ℕ, zero, suc, ◌+◌, ◌<◌, List, Option, Some, None, length, get_or, replicate, arith, sym, ◌∙◌, subst}
use Rattle.std.proofs.Common.{inl, inr, ap, refl}
use Rattle.std.specs.Prelude.{option_map}
use Rattle.std.proofs.lemmas.Bool.{cases_eq}
use Rattle.std.proofs.lemmas.List.{length-replicate}
use Rattle.std.specs.FinMap.{get, insert}
use Rattle.std.proofs.lemmas.Option.{same_Some as some_block, same_Some as some_number}
use Rattle.cf_base.proofs.Maps.{equal_maps, get_inserted, get_insert_other}
use Rattle.cf_base.proofs.MapValues.{get-map_values}
pub use Rattle.page_model.proofs.CallerLemmas.{fresh_word}
use Rattle.page_model.specs.Held.{Held, Placed, places}
use Rattle.page_model.specs.Bytes.{bytes_at}
use Rattle.page_model.specs.Image.{object_word, header_word}
use Rattle.page_model.specs.Steps.{zeros_at}
use Rattle.page_model.proofs.CallerLemmas.{bytes_of_held}
use Rattle.block_model.specs.Buckets.{FreeLists}
use Rattle.block_model.specs.ReadWords.{HaveTags, read_blocks}
use Rattle.block_model.specs.Tiling.{Block, Carves, IsTiling, block_at, block_need}
use Rattle.block_model.specs.Words.{AreTilingWords, AreCleared, HaveHeaders}
use Rattle.block_model.proofs.CallerLemmas.{lies, malloc_stays, blocks_read}
use Rattle.cf_model.specs.State.{HeapState, region_words}
use Rattle.cf_model.specs.ReadObjects.{read_objects}
use Rattle.cf_model.proofs.Owning.{no_one}
use Rattle.cf_model.specs.Rules.{AreInRange, AreObjects, AreOwned, KeepsTiling, content_word}

-- word 1 of each used block is the header of its object
tags_of : (s : HeapState) → AreInRange s.profile → AreObjects s → KeepsTiling s → HaveTags s.words s.tiling
tags_of s range objects k a b h there used =
    let own = k.owned.live a b h there used in
    let l = lies s.tiling 0 (region_words s.profile) a b k.tiling.fill there in
    let size = l.size in
    let word = k.words.contents a b h there used 0 (omega arith) in
    let x = own.0 in
    let e : get s.held h ≡ Some x = own.1 in
    let at : a + 1 + 0 ≡ a + 1 = omega arith in
    let head : get_or s.words (a + 1) 0 ≡ header_word h (length x.bytes) = rw (at, e) at word in
    let below = objects.handles h x e in
    let most = range.few_proxies in
    omega arith

pub blocks_shown : (s : HeapState) → AreInRange s.profile → AreObjects s → KeepsTiling s
    → read_blocks (region_words s.profile) s.words 0 (region_words s.profile) ≡ s.tiling
blocks_shown s range objects k = (let few = range.small_region in
    blocks_read (region_words s.profile) s.tiling s.words (omega arith) k.tiling k.words.headers (tags_of s range objects k))

pub objects_shown : (s : HeapState) → AreInRange s.profile → AreObjects s → KeepsTiling s → read_objects s.words (places s.held) ≡ s.held
objects_shown s range objects k = equal_maps _ _
    (λ q. get-map_values (λ a. record { place = a; bytes = bytes_at s.words (a + 1) }) (places s.held) q
    ∙ ap (option_map (λ a. record { place = a; bytes = bytes_at s.words (a + 1) })) (get-map_values (λ (x : Placed). x.place) s.held q)
    ∙ go q (get s.held q) refl)
  where
    go : (q : ℕ) (o : Option Placed) → get s.held q ≡ o
        → option_map (λ a. record { place = a; bytes = bytes_at s.words (a + 1) }) (option_map (λ (x : Placed). x.place) o) ≡ o
    go q None f = refl
    go q (Some x) f =
        let own = k.owned.placed q x f in
        let b = own.0 in
        let least = own.2.least in
        let below = objects.handles q x f in
        let most = range.few_proxies in
        ap (λ v. Some (record { place = x.place; bytes = v })) (bytes_of_held s.words q (x.place + 1) x.bytes (omega arith) (objects.bytes q x f) (λ i lt.
        let word = k.words.contents x.place b q own.1 own.2.owner i (omega arith) in
        rw f at word))

same_content : (m : Held) (h q i : ℕ) (x : Placed) → q ≢ h → content_word (insert m h x) q i ≡ content_word m q i
same_content m h q i x ne = rw (get_insert_other m h x q ne) refl

pub carve_words : (rule : FreeLists) (count : ℕ) (m : Held) (old new : List Block) (h n place : ℕ) (was now : List ℕ)
    → IsTiling count old → AreOwned m old → get m h ≡ None
    → Carves rule old (record { need = block_need n; owner = h }) place new
    → AreTilingWords (content_word m) old was
    → HaveHeaders now new 0 → AreCleared now new
    → ((a q : ℕ) (b : Block) → a ≢ place → block_at new a ≡ Some b → b.owner ≡ Some q → (i : ℕ) → 1 + i < b.size
    → get_or now (a + 1 + i) 0 ≡ get_or was (a + 1 + i) 0)
    → get_or now (place + 1) 0 ≡ header_word h n
    → ((b : Block) → block_at new place ≡ Some b → (i : ℕ) → 2 + i < b.size → get_or now (place + 2 + i) 0 ≡ 0)
    → (b : Block) → block_at new place ≡ Some b → b.owner ≡ Some h
    → AreTilingWords (content_word (insert m h (zeros_at place n))) new now
carve_words rule count m old new h n place was now t owned none step words heads clear others tag zeros mine there used = record {
  headers = heads;
  cleared = clear;
  contents = λ a b q at by i lt. elim (cases_eq a place) [
    | inl is ↦ (
        let at' : block_at new place ≡ Some b = rw is at at in
        let same : mine ≡ b = some_block mine b (sym there ∙ at') in
        let who : h ≡ q = some_number h q (sym used ∙ ap (λ (c : Block). c.owner) same ∙ by) in
        let got : get (insert m h (zeros_at place n)) q ≡ Some (zeros_at place n) =
        subst (λ k. get (insert m h (zeros_at place n)) k ≡ Some (zeros_at place n)) who (get_inserted m h (zeros_at place n)) in
        rw (is, got) (inside b at' q who i lt))
    | inr away ↦ (
        let stays = malloc_stays rule count old new (record { need = block_need n; owner = h }) place t step in
        let before = stays.no_other a b q away by at in
        let own = owned.live a b q before by in
        let ne : q ≢ h = λ is. no_one (get m h) own.0 none (ap (get m) (sym is) ∙ own.1) in
        others a q b away at by i lt ∙ words.contents a b q before by i lt ∙ sym (same_content m h q i (zeros_at place n) ne))
  ];
}
  where
    inside : (b : Block) → block_at new place ≡ Some b → (q : ℕ) → h ≡ q → (i : ℕ) → 1 + i < b.size
        → get_or now (place + 1 + i) 0 ≡ object_word q (replicate n 0) i
    inside b at q who zero lt =
        let len : length (replicate {A = ℕ} n 0) ≡ n = length-replicate n 0 in
        let e : place + 1 + 0 ≡ place + 1 = omega arith in
        rw (e, len, ← who) tag
    inside b at q who (suc i) lt =
        let e : place + 1 + suc i ≡ place + 2 + i = omega arith in
        ap (λ w. get_or now w 0) e ∙ zeros b at i (omega arith) ∙ sym (fresh_word q n i)
