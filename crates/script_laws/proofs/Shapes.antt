-- For `the_output_shows_the_replies`: how many lines a reply has follows from what is known before it (`view`), and no line contains a line feed.
use Rattle.std.proofs.Common.{◌≡◌, inl, inr, ℕ, zero, suc, Bool, true, false, cond, ◌+◌, ◌/◌, ◌%◌, ◌&&◌, ◌++◌, List, [], ◌∷◌, Option, Some, None, Err, length, map, arith, ap, refl, subst, sym}
use Rattle.std.specs.Prelude.{⊤, codes, decimal, drop, filter, take, nat_eq, nat_le, nat_lt, not, slice_index}
use Rattle.std.specs.Fmt.{digit_glyph, digits, digits_onto}
use Rattle.std.specs.List.{range_with_len}
use Rattle.run_model.specs.Terms.{Admit, Block, Bound, Command, family_of, Frag, Free, get, HalfFit, HeapState, Kind, Malloc, Moving, Need, NonMoving, paged, paging_in, Peek, Place, Placed, Quota, Read, Refusal, Reply, Resize, ResizeFault, said, Slice, Steps, Task, tiled, Tlsf, totals_in, Walk, with_number, Write}
use Rattle.std.proofs.lemmas.Bool.{and_parts}
use Rattle.hex.specs.Hex.{encode_lower, encode_with, lower_digits}
use Rattle.cf_base.specs.declared.results.Figures.{Figures}
use Rattle.cf_base.specs.declared.results.Refusal.TheVariants as refusal
use Rattle.cf_base.specs.declared.results.ResizeFault.TheVariants as resize
use Rattle.cf_base.specs.declared.results.Totals.{Totals}
use Rattle.cf_base.proofs.Tests.{eq_no}
use Rattle.page_model.specs.Arrangement.{live}
use Rattle.page_model.specs.Figures.{figures_of}
use Rattle.cf_model.specs.Answers.{block_of_object, classes_in}
use Rattle.cf_model.specs.Families.{Family}
use Rattle.run_model.specs.Replies.{block_text, block_text_at, frame_text, malloc_text, peek_text, place_text, read_text, resize_text}
use Rattle.run_model.specs.Reports.{blocks_line, class_line, frag_line, pages_report, total_line, walk_of}
use Rattle.run_model.specs.Steps.{bound_text, class_to_bound}
use Rattle.script_laws.specs.AtOne.{classes_in_use}
use Rattle.script_laws.specs.ById.{ById, paging_by_id}
use Rattle.script_laws.specs.Headline.{ShowsFree, IsAnswer, ShowsMalloc, ShowsResize, ShowsWrite, steps_line, steps_shown}
use Rattle.script_laws.specs.ShownHeap.{ShownHeap}
use Rattle.script_laws.proofs.After.{view}

-- whether a text has no line feed
abbrev pub is_line : List ℕ → Bool
is_line [] = true
is_line (x ∷ rest) = not (nat_eq x 10) && is_line rest

joined : (a b : List ℕ) → is_line a ≡ true → is_line b ≡ true → is_line (a ++ b) ≡ true
joined [] b one two = two
joined (x ∷ a) b one two = (let e = and_parts (not (nat_eq x 10)) (is_line a) one in rw e.0 (joined a b e.1 two))

glyph : (d : ℕ) → not (nat_eq (digit_glyph false d) 10) ≡ true
glyph d = go (nat_lt d 10)
  where
    go : (b : Bool) → not (nat_eq (cond b (48 + d) (87 + d)) 10) ≡ true
    go true = ap not (eq_no (48 + d) 10 (λ is. omega arith))
    go false = ap not (eq_no (87 + d) 10 (λ is. omega arith))

digits_line : (k n : ℕ) (acc : List ℕ) → is_line acc ≡ true → is_line (digits_onto k 10 false n acc) ≡ true
digits_line zero n acc line = line
digits_line (suc k) n acc line =
    let more : is_line (digit_glyph false (n % 10) ∷ acc) ≡ true = λ i. glyph (n % 10) i && line i in
    go (nat_eq (n / 10) 0) more (digits_line k (n / 10) (digit_glyph false (n % 10) ∷ acc) more)
  where
    go : (b : Bool) → is_line (digit_glyph false (n % 10) ∷ acc) ≡ true → is_line (digits_onto k 10 false (n / 10) (digit_glyph false (n % 10) ∷ acc)) ≡ true
        → is_line (cond b (digit_glyph false (n % 10) ∷ acc) (digits_onto k 10 false (n / 10) (digit_glyph false (n % 10) ∷ acc))) ≡ true
    go true more rest = more
    go false more rest = rest

number_line : (n : ℕ) → is_line (decimal n) ≡ true
unfolding digits
number_line n = digits_line 64 n [] refl

pub with_line : (text : List ℕ) (n : ℕ) → is_line text ≡ true → is_line (with_number text n) ≡ true
with_line text n line = joined text (decimal n) line (number_line n)

entry_line : (xs : List ℕ) (i : ℕ) → is_line xs ≡ true → not (nat_eq (slice_index xs i) 10) ≡ true
entry_line [] i line = refl
entry_line (x ∷ xs) zero line = (and_parts (not (nat_eq x 10)) (is_line xs) line).0
entry_line (x ∷ xs) (suc i) line = entry_line xs i (and_parts (not (nat_eq x 10)) (is_line xs) line).1

hex_line : (bytes : List ℕ) → is_line (encode_lower bytes) ≡ true
unfolding encode_with
hex_line [] = refl
hex_line (b ∷ rest) = λ i. entry_line lower_digits (b / 16) refl i && (entry_line lower_digits (b % 16) refl i && hex_line rest i)

-- a reply of n lines
abbrev pub HasLines : ℕ → Reply → Type 0
HasLines zero [] = ⊤
HasLines zero (text ∷ rest) = ⊥
HasLines (suc n) [] = ⊥
HasLines (suc n) (text ∷ rest) = (is_line text ≡ true) × HasLines n rest

pub one_line : (text : List ℕ) (reply : Reply) → reply ≡ said text → is_line text ≡ true → HasLines 1 reply
one_line text reply r line = subst (HasLines 1) (sym r) (line, tt)

chosen_line : (b : Bool) (x y : List ℕ) → is_line x ≡ true → is_line y ≡ true → is_line (cond b x y) ≡ true
chosen_line true x y one two = one
chosen_line false x y one two = two

malloc_line : (e : Refusal) → is_line (malloc_text (Err e)) ≡ true
malloc_line refusal.Size = refl
malloc_line refusal.Proxy = refl
malloc_line refusal.Space = refl

resize_line : (e : ResizeFault) → is_line (resize_text (Err e)) ≡ true
resize_line resize.Unknown = refl
resize_line _ = refl

read_line : (o : Option Placed) (at count : ℕ) → is_line (read_text o at count) ≡ true
read_line None at count = refl
read_line (Some x) at count = go (nat_le (at + count) (length x.bytes))
  where
    go : (b : Bool) → is_line (cond b (codes "=" ++ encode_lower (take count (drop at x.bytes))) (codes "range")) ≡ true
    go true = joined (codes "=") (encode_lower (take count (drop at x.bytes))) refl (hex_line (take count (drop at x.bytes)))
    go false = refl

place_line : (o : Option Placed) → is_line (place_text o) ≡ true
place_line None = refl
place_line (Some x) = with_line (codes "at ") x.place refl

bound_line : (o : Option ℕ) → is_line (bound_text o) ≡ true
bound_line None = refl
bound_line (Some c) = refl

peek_line : (o : Option ℕ) → is_line (peek_text o) ≡ true
peek_line None = refl
peek_line (Some v) = hex_line _

frame_line : (o : Option ℕ) → is_line (frame_text o) ≡ true
frame_line None = refl
frame_line (Some v) = with_line (codes "block ") v refl

two : (a : List ℕ) (n : ℕ) (b : List ℕ) → is_line a ≡ true → is_line b ≡ true → is_line (with_number a n ++ b) ≡ true
two a n b one rest = joined (with_number a n) b (with_line a n one) rest

class_is_line : (f : Figures) → is_line (class_line f) ≡ true
class_is_line f = two (codes "class ") f.slot_words _ refl (two (codes " slots ") f.slots _ refl (two (codes " live ") f.live _ refl
    (two (codes " pages ") f.pages _ refl (with_line (codes " notfull ") f.not_full refl))))

total_is_line : (f : Totals) → is_line (total_line f) ≡ true
total_is_line f = two (codes "total live ") f.live _ refl (two (codes " pages ") f.used _ refl (with_line (codes " free ") f.free refl))

blocks_is_line : (f : Totals) → is_line (blocks_line f) ≡ true
blocks_is_line f = two (codes "blocks used ") f.used _ refl (two (codes " free ") f.free _ refl (with_line (codes " largest ") f.largest refl))

frag_is_line : (f : Totals) → is_line (frag_line f) ≡ true
frag_is_line f = two (codes "frag asked ") f.asked _ refl (two (codes " taken ") f.taken _ refl (with_line (codes " held ") f.held refl))

steps_is_line : (last bound moves words : ℕ) → is_line (steps_line last bound moves words) ≡ true
steps_is_line last bound moves words = two (codes "steps last ") last _ refl (two (codes " bound ") bound _ refl
    (two (codes " moves ") moves _ refl (with_line (codes " words ") words refl)))

class_lines : (f : ℕ → Figures) (cs : List ℕ) (last : List ℕ) → is_line last ≡ true → HasLines (suc (length cs)) (map (λ c. class_line (f c)) cs ++ said last)
class_lines f [] last line = (line, tt)
class_lines f (c ∷ cs) last line = (class_is_line (f c), class_lines f cs last line)

-- how many lines the reply to a command has: one, but `walk` with pages has one for each class with live objects, and the last one
abbrev pub walk_lines : ById → ℕ
walk_lines v = elim (family_of v.kind) [ paged ↦ suc (length (classes_in_use (paging_by_id v) v.objects)) | tiled ↦ 1 ]

abbrev pub lines_of : ById → Command → ℕ
lines_of v Walk = walk_lines v
lines_of v command = 1

block_line : (k : Kind) (h : HeapState) (x : Placed) (i : ℕ) → is_line (block_text k h x i) ≡ true
block_line Moving h x i = refl
block_line NonMoving h x i = frame_line (block_of_object h (Some x) i)
block_line Tlsf h x i = refl
block_line HalfFit h x i = refl

block_at_line : (h : HeapState) (o : Option Placed) (i : ℕ) → is_line (block_text_at h o i) ≡ true
block_at_line h None i = refl
block_at_line h (Some x) i = block_line h.kind h x i

steps_text_line : (k : Kind) (t : ShownHeap) → is_line (steps_shown k t) ≡ true
steps_text_line Moving t = steps_is_line t.heap.cost t.step_bound t.moves t.moved_words
steps_text_line NonMoving t = steps_is_line t.heap.cost t.step_bound t.moves t.moved_words
steps_text_line Tlsf t = with_line (codes "steps last ") t.heap.cost refl
steps_text_line HalfFit t = with_line (codes "steps last ") t.heap.cost refl

-- the report has a line for each class in use
number_of_classes : (k : Kind) (h : HeapState) → family_of k ≡ paged → classes_in k h ≡ length (paging_in h).sizes
number_of_classes k h is = rw (is, classes_in) refl

walk_shape : (f : Family) (t : ShownHeap) → family_of t.heap.kind ≡ f → HasLines (walk_lines (view t)) (walk_of t.heap.kind t.heap)
walk_shape paged t is = rw (is, walk_lines, walk_of) (subst
    (λ n. HasLines (suc (length (filter (λ c. not (nat_eq (live (paging_in t.heap) (view t).objects c) 0)) (range_with_len 0 n)))) (pages_report t.heap))
    (number_of_classes t.heap.kind t.heap is)
    (class_lines (figures_of (paging_in t.heap) t.heap.held) _ (total_line (totals_in t.heap.kind t.heap)) (total_is_line (totals_in t.heap.kind t.heap))))
walk_shape tiled t is = rw (is, walk_lines, walk_of) (blocks_is_line (totals_in t.heap.kind t.heap), tt)

malloc_shape : (o : Option Placed) (t : ShownHeap) (id n : ℕ) (reply : Reply) (new : ShownHeap) → ShowsMalloc o t id n reply new → HasLines 1 reply
malloc_shape (Some x) t id n reply new r = one_line _ reply r.0 refl
malloc_shape None t id n reply new (inl r) = one_line _ reply r.reply_is refl
malloc_shape None t id n reply new (inr r) = one_line _ reply r.reply_is (malloc_line r.refusal)

free_shape : (o : Option Placed) (t : ShownHeap) (id : ℕ) (reply : Reply) (new : ShownHeap) → ShowsFree o t id reply new → HasLines 1 reply
free_shape None t id reply new r = one_line _ reply r.0 refl
free_shape (Some x) t id reply new r = one_line _ reply r.reply_is refl

write_shape : (o : Option Placed) (t : ShownHeap) (id at : ℕ) (bytes : List ℕ) (reply : Reply) (new : ShownHeap) → ShowsWrite o t id at bytes reply new → HasLines 1 reply
write_shape None t id at bytes reply new r = one_line _ reply r.0 refl
write_shape (Some x) t id at bytes reply new r = one_line _ reply r.0 (chosen_line (nat_le (at + length bytes) (length x.bytes)) (codes "ok") (codes "range") refl refl)

resize_shape : (o : Option Placed) (t : ShownHeap) (id n : ℕ) (reply : Reply) (new : ShownHeap) → ShowsResize o t id n reply new → HasLines 1 reply
resize_shape None t id n reply new r = one_line _ reply r.0 refl
resize_shape (Some x) t id n reply new (inl r) = one_line _ reply r.reply_is refl
resize_shape (Some x) t id n reply new (inr r) = one_line _ reply r.reply_is (resize_line r.fault)

-- every reply that a command may get (`IsAnswer`) has `lines_of` lines
pub shape : (t : ShownHeap) (c : Command) (reply : Reply) (new : ShownHeap) → IsAnswer t c reply new → HasLines (lines_of (view t) c) reply
shape t (Malloc id n) reply new r = malloc_shape (get t.heap.held id) t id n reply new r
shape t (Free id) reply new r = free_shape (get t.heap.held id) t id reply new r
shape t (Write id at bytes) reply new r = write_shape (get t.heap.held id) t id at bytes reply new r
shape t (Read id at count) reply new r = one_line _ reply r.0 (read_line (get t.heap.held id) at count)
shape t (Place id) reply new r = one_line _ reply r.0 (place_line (get t.heap.held id))
shape t (Block id i) reply new r = one_line _ reply r.0 (block_at_line t.heap (get t.heap.held id) i)
shape t (Peek word) reply new r = one_line _ reply r.1.0 (peek_line _)
shape t Walk reply new r = subst (HasLines (walk_lines (view t))) (sym r.0) (walk_shape (family_of t.heap.kind) t refl)
shape t Frag reply new r = one_line _ reply r.0 (frag_is_line (totals_in t.heap.kind t.heap))
shape t Steps reply new r = one_line _ reply r.0 (steps_text_line t.heap.kind t)
shape t (Bound words n) reply new r = one_line _ reply r.0 (bound_line (class_to_bound t.heap words))
shape t (Resize id n) reply new r = resize_shape (get t.heap.held id) t id n reply new r
shape t _ reply new r = one_line _ reply r.0 refl
