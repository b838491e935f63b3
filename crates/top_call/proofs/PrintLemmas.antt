-- For `image_script.rt`: the lines that mode `load` prints are those of the script that makes the live objects, or a prefix of them if the sink failed.
use Rattle.std.proofs.Common.{◌≡◌, ◌∙◌, ◌++◌, List, [], ◌∷◌, ℕ, ap, sym, append_assoc, append-nil, ◌+◌, ◌-◌, ◌<◌, ◌≤◌, zero, suc, length, take, drop, refl, arith, inl, inr, length-drop, codes, decimal, Err, Ok, min, Result, drop-drop, take_all}
use Rattle.run_model.specs.Terms.{Malloc, with_number, Write, Command, Failed, SinkState, Writes, Profile, RunState}
use Rattle.script_reader.specs.CommandText.{line_of}
use Rattle.script_reader.specs.ReadBack.{command_lines, heap_line}
use Rattle.hex.specs.Hex.{encode_lower}
use Rattle.std.specs.Int.{div_ceil}
use Rattle.std.proofs.lemmas.Bool.{cases_lt}
use Rattle.cf_io.specs.Feeds.{WritesAll}
use Rattle.cf_io.proofs.CallerLemmas.{puts_cut, puts_same, puts_then, writes_none}
use Rattle.top_call.specs.ImageScript.{writes_from, writes_of, commands_of, heap_script, object_commands, object_lines, opening_line}
use Rattle.std.specs.FinMap.{entries}
use Rattle.heap_image.specs.Heaps.{live_objects}
use Rattle.heap_image.specs.Image.{object_texts}

-- For `put_heap`, `put_malloc` and `put_write`: the lines that the code builds field by field are the lines of commands.

-- the same fields, grouped in two ways, with a line feed at the end
two_fields : (a b c d : List ℕ) → ((a ++ b) ++ (c ++ d)) ++ 10 ∷ [] ≡ (a ++ (b ++ (c ++ (d ++ [])))) ++ 10 ∷ []
two_fields a b c d = ap (λ l. l ++ 10 ∷ []) (append_assoc a b (c ++ d) ∙ ap (λ l. a ++ (b ++ (c ++ l))) (sym (append-nil d)))

three_fields : (a b c d e f : List ℕ) → ((((a ++ b) ++ (c ++ d)) ++ e) ++ f) ++ 10 ∷ [] ≡ (a ++ (b ++ (c ++ (d ++ (e ++ (f ++ [])))))) ++ 10 ∷ []
three_fields a b c d e f = ap (λ l. l ++ 10 ∷ [])
    (append_assoc ((a ++ b) ++ (c ++ d)) e f ∙ append_assoc (a ++ b) (c ++ d) (e ++ f) ∙ append_assoc a b ((c ++ d) ++ (e ++ f))
    ∙ ap (λ l. a ++ (b ++ l)) (append_assoc c d (e ++ f)) ∙ ap (λ l. a ++ (b ++ (c ++ (d ++ (e ++ l))))) (sym (append-nil f)))

four_fields : (a b c d e f g h : List ℕ) → ((((a ++ b) ++ (c ++ d)) ++ (e ++ f)) ++ (g ++ h)) ++ 10 ∷ []
    ≡ (a ++ (b ++ (c ++ (d ++ (e ++ (f ++ (g ++ (h ++ [])))))))) ++ 10 ∷ []
four_fields a b c d e f g h = ap (λ l. l ++ 10 ∷ [])
    (append_assoc ((a ++ b) ++ (c ++ d)) (e ++ f) (g ++ h) ∙ append_assoc (a ++ b) (c ++ d) ((e ++ f) ++ (g ++ h))
    ∙ append_assoc a b ((c ++ d) ++ ((e ++ f) ++ (g ++ h))) ∙ ap (λ l. a ++ (b ++ l)) (append_assoc c d ((e ++ f) ++ (g ++ h)))
    ∙ ap (λ l. a ++ (b ++ (c ++ (d ++ l)))) (append_assoc e f (g ++ h)) ∙ ap (λ l. a ++ (b ++ (c ++ (d ++ (e ++ (f ++ (g ++ l))))))) (sym (append-nil h)))

pub malloc_line : (id n : ℕ) (l m p : List ℕ) → l ≡ [] → m ≡ l ++ with_number (codes "m ") id → p ≡ m ++ with_number (codes " ") n
    → p ++ 10 ∷ [] ≡ line_of (Malloc id n)
malloc_line id n l m p none first second =
    ap (λ t. t ++ 10 ∷ []) (second ∙ ap (λ t. t ++ with_number (codes " ") n) (first ∙ ap (λ t. t ++ with_number (codes "m ") id) none))
    ∙ two_fields (codes "m ") (decimal id) (codes " ") (decimal n)

pub write_line : (id at : ℕ) (bytes l m p q r : List ℕ) → l ≡ [] → m ≡ l ++ with_number (codes "w ") id → p ≡ m ++ with_number (codes " ") at
    → q ≡ p ++ codes " " → r ≡ q ++ encode_lower bytes → r ++ 10 ∷ [] ≡ line_of (Write id at bytes)
write_line id at bytes l m p q r none first second third fourth =
    ap (λ t. t ++ 10 ∷ []) (fourth ∙ ap (λ t. t ++ encode_lower bytes) (third ∙ ap (λ t. t ++ codes " ")
    (second ∙ ap (λ t. t ++ with_number (codes " ") at) (first ∙ ap (λ t. t ++ with_number (codes "w ") id) none))))
    ∙ three_fields (codes "w ") (decimal id) (codes " ") (decimal at) (codes " ") (encode_lower bytes)

pub heap_line_built : (pages page_bytes k proxies : ℕ) (l m p q r : List ℕ) → l ≡ [] → m ≡ l ++ with_number (codes "heap ") pages
    → p ≡ m ++ with_number (codes " ") page_bytes → q ≡ p ++ with_number (codes " ") k → r ≡ q ++ with_number (codes " ") proxies
    → r ++ 10 ∷ [] ≡ heap_line pages page_bytes k proxies
heap_line_built pages page_bytes k proxies l m p q r none first second third fourth =
    ap (λ t. t ++ 10 ∷ []) (fourth ∙ ap (λ t. t ++ with_number (codes " ") proxies) (third ∙ ap (λ t. t ++ with_number (codes " ") k)
    (second ∙ ap (λ t. t ++ with_number (codes " ") page_bytes) (first ∙ ap (λ t. t ++ with_number (codes "heap ") pages) none))))
    ∙ four_fields (codes "heap ") (decimal pages) (codes " ") (decimal page_bytes) (codes " ") (decimal k) (codes " ") (decimal proxies)

-- For `put_writes`, of mode `load`: the bytes of an object, written as `w` lines of at most 4,096 bytes each, one after the other, or cut by a failed sink.

one_more : (more id at : ℕ) (bytes : List ℕ) → writes_from (suc more) id at bytes ≡ Write id at (take 4096 bytes) ∷ writes_from more id (at + 4096)
    (drop 4096 bytes)
unfolding writes_from
one_more more id at bytes = refl

none_more : (id at : ℕ) (bytes : List ℕ) → writes_from zero id at bytes ≡ []
unfolding writes_from
none_more id at bytes = refl

-- the last chunk may be shorter
pub whole_chunk : (count at : ℕ) (bytes : List ℕ) → count ≡ min (length bytes - at) 4096 → take count (drop at bytes) ≡ take 4096 (drop at bytes)
whole_chunk count at bytes is = elim (cases_lt 4096 (length bytes - at)) [
  | inl more ↦ (let full : count ≡ 4096 = omega (arith, is, more) in ap (λ n. take n (drop at bytes)) full)
  | inr less ↦ (let long = length-drop at bytes in take_all count (drop at bytes) (omega (arith, is, less, long))
      ∙ sym (take_all 4096 (drop at bytes) (omega (arith, less, long))))
]

-- The loop came to the byte `at` of the object: of the `w` lines, `done` was written, and the lines from this byte on are still to be written. The sink was
-- w before the loop and is x now.
pub record WroteTo (id : ℕ) (bytes : List ℕ) (w x : SinkState) (at : ℕ) : Type 0 where
  pub done : List ℕ
  pub rest : command_lines (writes_of id bytes) ≡ done ++ command_lines (writes_from (div_ceil (length bytes - at) 4096) id at (drop at bytes))
  pub written : WritesAll w done x

pub writes_first : (id : ℕ) (bytes : List ℕ) (w : SinkState) → WroteTo id bytes w w 0
writes_first id bytes w = record {
  done = [];
  rest = ap (λ n. command_lines (writes_from (div_ceil n 4096) id 0 bytes)) (omega arith);
  written = writes_none w;
}

module _ (id : ℕ) (bytes : List ℕ) (w x : SinkState) (at : ℕ) (so_far : WroteTo id bytes w x at) where
  module _ (more : at < length bytes) where
    abbrev line : List ℕ
    line = line_of (Write id at (take 4096 (drop at bytes)))

    abbrev behind : List ℕ
    behind = command_lines (writes_from (div_ceil (length bytes - (at + 4096)) 4096) id (at + 4096) (drop (at + 4096) bytes))

    split : command_lines (writes_of id bytes) ≡ so_far.done ++ (line ++ behind)
    split =
        let lines : div_ceil (length bytes - at) 4096 ≡ suc (div_ceil (length bytes - (at + 4096)) 4096) = omega arith in
        so_far.rest ∙ ap (λ (cs : List Command). so_far.done ++ command_lines cs) (ap (λ n. writes_from n id at (drop at bytes)) lines
        ∙ one_more (div_ceil (length bytes - (at + 4096)) 4096) id at (drop at bytes)
        ∙ ap (λ (l : List ℕ). Write id at (take 4096 (drop at bytes)) ∷ writes_from (div_ceil (length bytes - (at + 4096)) 4096) id (at + 4096) l)
        (drop-drop 4096 at bytes))

    -- a line was written
    pub writes_on : (y : SinkState) → WritesAll x line y → WroteTo id bytes w y (at + 4096)
    writes_on y put = record {
      done = so_far.done ++ line;
      rest = split ∙ sym (append_assoc so_far.done line behind);
      written = puts_then {T = Unit {0}} w x y so_far.done line (Ok tt) so_far.written put;
    }

    -- a line was cut
    pub writes_cut : (y : SinkState) (e : Failed) → Writes {T = Unit {0}} x line (Err e) y → Writes {T = Unit {0}} w (command_lines (writes_of id bytes)) (Err e) y
    writes_cut y e put = puts_same {T = Unit {0}} w y (so_far.done ++ (line ++ behind)) (command_lines (writes_of id bytes)) (Err e) (sym split)
        (puts_then {T = Unit {0}} w x y so_far.done (line ++ behind) (Err e) so_far.written (puts_cut x y line behind e put))

  -- if no byte of the object is left, all lines were written
  pub writes_last : length bytes ≤ at → WritesAll w (command_lines (writes_of id bytes)) x
  writes_last end =
      let none : length bytes - at ≡ 0 = omega (arith, end) in
      puts_same {T = Unit {0}} w x _ _ (Ok tt) (sym (so_far.rest ∙ ap (λ n. so_far.done ++ command_lines (writes_from (div_ceil n 4096) id at (drop at bytes))) none
      ∙ ap (λ (cs : List Command). so_far.done ++ command_lines cs) (none_more id at (drop at bytes)) ∙ append-nil so_far.done)) so_far.written

-- For `print_script`, of mode `load`: the script that makes the live objects, its `heap` line and then the lines of each object, written one after the
-- other, or cut by a failed sink.

lines_joined : (cs ds : List Command) → command_lines (cs ++ ds) ≡ command_lines cs ++ command_lines ds
lines_joined [] ds = refl
lines_joined (c ∷ cs) ds = ap (λ (l : List ℕ). line_of c ++ l) (lines_joined cs ds) ∙ sym (append_assoc (line_of c) (command_lines cs) (command_lines ds))

-- the line that makes an object, and those that write its bytes
pub object_put : {T : Type 0} (w x y : SinkState) (id n : ℕ) (bytes : List ℕ) (r : Result T Failed) → n ≡ length bytes → WritesAll w (line_of (Malloc id n)) x
    → Writes x (command_lines (writes_of id bytes)) r y → Writes w (object_lines id bytes) r y
object_put w x y id n bytes r same put rest =
    puts_then w x y (line_of (Malloc id (length bytes))) (command_lines (writes_of id bytes)) r
    (puts_same {T = Unit {0}} w x _ _ (Ok tt) (ap (λ n. line_of (Malloc id n)) same) put) rest

pub object_cut : (w y : SinkState) (id n : ℕ) (bytes : List ℕ) (e : Failed) → n ≡ length bytes → Writes {T = Unit {0}} w (line_of (Malloc id n)) (Err e) y
    → Writes {T = Unit {0}} w (object_lines id bytes) (Err e) y
object_cut w y id n bytes e same put =
    puts_cut w y (line_of (Malloc id (length bytes))) (command_lines (writes_of id bytes)) e
    (puts_same {T = Unit {0}} w y (line_of (Malloc id n)) (line_of (Malloc id (length bytes))) (Err e) (ap (λ n. line_of (Malloc id n)) same) put)

-- the lines of all objects
lines_are : (es : List (ℕ × List ℕ)) → command_lines (commands_of es) ≡ object_texts object_lines es
lines_are [] = refl
lines_are (e ∷ es) = lines_joined (object_commands e.0 e.1) (commands_of es) ∙ ap (λ (l : List ℕ). object_lines e.0 e.1 ++ l) (lines_are es)

module _ (s : RunState) where
  -- the `heap` line was written, and then those of the objects
  pub opening_then : (w x y : SinkState) (p : Profile) (r : Result Unit Failed) → s.heap.profile ≡ p → WritesAll w (opening_line p) x
      → Writes x (object_texts object_lines (entries (live_objects s))) r y → Writes w (heap_script s) r y
  opening_then w x y p r same put rest =
      puts_then {T = Unit {0}} w x y (opening_line s.heap.profile) (command_lines (commands_of (entries (live_objects s)))) r
      (puts_same {T = Unit {0}} w x _ _ (Ok tt) (ap opening_line (sym same)) put)
      (puts_same x y _ (command_lines (commands_of (entries (live_objects s)))) r (sym (lines_are (entries (live_objects s)))) rest)

  -- the `heap` line was cut
  pub opening_cut : (w y : SinkState) (p : Profile) (e : Failed) → s.heap.profile ≡ p → Writes {T = Unit {0}} w (opening_line p) (Err e) y
      → Writes {T = Unit {0}} w (heap_script s) (Err e) y
  opening_cut w y p e same put = puts_cut w y (opening_line s.heap.profile) (command_lines (commands_of (entries (live_objects s)))) e
      (puts_same {T = Unit {0}} w y (opening_line p) (opening_line s.heap.profile) (Err e) (ap opening_line (sym same)) put)
