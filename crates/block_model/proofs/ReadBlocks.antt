-- For the law `the_words_show_the_blocks`: the blocks that fill a region can be read from its words, by the header of each block and the tag of each used
-- one.
use Rattle.std.proofs.Common.{◌≡◌, ◌≢◌, ℕ, zero, suc, true, false, ◌+◌, ◌-◌, ◌*◌, ◌/◌, ◌%◌, ◌^◌, ◌<◌, ◌≤◌, List, [], ◌∷◌, Option, Some, None, get_or, arith}
use Rattle.std.proofs.Common.{◌∙◌, subst, ap, refl}
use Rattle.std.specs.Prelude.{nat_lt, nat_eq}
use Rattle.std.proofs.lemmas.Bool.Decides.{nat_tests}
use Rattle.block_model.specs.Tiling.{Block, Fill, IsTiling, block_at}
use Rattle.block_model.specs.Words.{HaveHeaders, block_header}
use Rattle.block_model.specs.ReadWords.{HaveTags, read_block, read_blocks, read_owner}
use Rattle.block_model.proofs.Others.{lies, fill_le}
use Rattle.cf_base.proofs.Tests.{eq_yes, eq_no}

header_parts : (w s before u : ℕ) → u < 2 → s < 2 ^ 31 → w ≡ s + 2 ^ 31 * u + 2 ^ 32 * before → (w % 2 ^ 31 ≡ s) × (w / 2 ^ 31 % 2 ≡ u)
header_parts w s before u few small e = (omega arith, omega arith)

owner_described : (words : List ℕ) (b : Block) (before : ℕ) (o : Option ℕ) → b.owner ≡ o → b.size < 2 ^ 31 → get_or words b.address 0 ≡ block_header before b
    → ((h : ℕ) → b.owner ≡ Some h → get_or words (b.address + 1) 0 % 2 ^ 32 ≡ h)
    → (read_owner (get_or words b.address 0) (get_or words (b.address + 1) 0) ≡ o) × (get_or words b.address 0 % 2 ^ 31 ≡ b.size)
owner_described words b before None is small head tag =
    let e : get_or words b.address 0 ≡ b.size + 2 ^ 31 * 0 + 2 ^ 32 * before = rw is at head in
    let p = header_parts (get_or words b.address 0) b.size before 0 (omega arith) small e in
    let bit = p.1 in
    let no : nat_eq (get_or words b.address 0 / 2 ^ 31 % 2) 1 ≡ false = rw bit refl in
    (rw no refl, p.0)
owner_described words b before (Some h) is small head tag =
    let e : get_or words b.address 0 ≡ b.size + 2 ^ 31 * 1 + 2 ^ 32 * before = rw is at head in
    let p = header_parts (get_or words b.address 0) b.size before 1 (omega arith) small e in
    let bit = p.1 in
    let yes : nat_eq (get_or words b.address 0 / 2 ^ 31 % 2) 1 ≡ true = rw bit refl in
    (rw (yes, tag h is) refl, p.0)

block_of_parts : (b : Block) (size : ℕ) (owner : Option ℕ) → size ≡ b.size → owner ≡ b.owner
    → ◌≡◌ {A = Block} (record { address = b.address; size = size; owner = owner }) b
block_of_parts b size owner e f = rw (e, f) refl

one_block : (words : List ℕ) (b : Block) (before : ℕ) → b.size < 2 ^ 31 → get_or words b.address 0 ≡ block_header before b
    → ((h : ℕ) → b.owner ≡ Some h → get_or words (b.address + 1) 0 % 2 ^ 32 ≡ h)
    → (read_block words b.address ≡ b) × (get_or words b.address 0 % 2 ^ 31 ≡ b.size)
one_block words b before small head tag =
    let o = owner_described words b before b.owner refl small head tag in
    (block_of_parts b (get_or words b.address 0 % 2 ^ 31) (read_owner (get_or words b.address 0) (get_or words (b.address + 1) 0)) o.1 o.0, o.1)

blocks_from : (fuel : ℕ) (words : List ℕ) (bs : List Block) (from to before : ℕ) → to < 2 ^ 31 → before < 2 ^ 31 → to - from ≤ fuel → Fill bs from to
    → HaveHeaders words bs before → HaveTags words bs → read_blocks fuel words from to ≡ bs
blocks_from zero words [] from to before small low enough f heads tags = refl
blocks_from zero words (b ∷ bs) from to before small low enough f heads tags = absurd (let s = f.1 in let le = fill_le bs (from + b.size) to f.2 in omega arith)
blocks_from (suc fuel) words [] from to before small low enough f heads tags =
    let no : nat_lt from to ≡ false = grind (arith, nat_tests) in
    rw no refl
blocks_from (suc fuel) words (b ∷ bs) from to before small low enough f heads tags =
    let at : b.address ≡ from = f.0 in
    let s = f.1 in
    let le = fill_le bs (from + b.size) to f.2 in
    let yes : nat_lt from to ≡ true = grind (arith, nat_tests) in
    let mine : block_at (b ∷ bs) b.address ≡ Some b = rw (eq_yes b.address b.address refl) refl in
    let one = one_block words b before (omega arith) heads.0 (λ h used. tags b.address b h mine used) in
    let one' : read_block words from ≡ b = subst (λ a. read_block words a ≡ b) at one.0 in
    let size : get_or words from 0 % 2 ^ 31 ≡ b.size = subst (λ a. get_or words a 0 % 2 ^ 31 ≡ b.size) at one.1 in
    let rest = blocks_from fuel words bs (from + b.size) to b.size small (omega arith) (omega arith) f.2 heads.1 (λ a c h there used.
    let l = lies bs (from + b.size) to a c f.2 there in
    let away : b.address ≢ a = λ is. (let low' = l.low in omega arith) in
    tags a c h (rw (eq_no b.address a away) there) used) in
    rw yes (ap (λ (c : Block). c ∷ read_blocks fuel words (from + get_or words from 0 % 2 ^ 31) to) one'
    ∙ ap (λ n. b ∷ read_blocks fuel words (from + n) to) size ∙ ap (λ cs. b ∷ cs) rest)

pub blocks_read : (count : ℕ) (blocks : List Block) (words : List ℕ) → count < 2 ^ 31 → IsTiling count blocks → HaveHeaders words blocks 0
    → HaveTags words blocks → read_blocks count words 0 count ≡ blocks
blocks_read count blocks words small t heads tags = blocks_from count words blocks 0 count 0 small (omega arith) (omega arith) t.fill heads tags
