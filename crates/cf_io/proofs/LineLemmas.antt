-- For crates that write replies, and for `push_field`: how many digits a number has; the bytes of a reply, each line after its lead; two writes, of which
-- one may be cut, as one; a line that texts were appended to; and that a text that fits the line is appended.
use Rattle.std.proofs.Common.{◌≡◌, ◌∙◌, ℕ, ◌+◌, ◌<◌, ◌≤◌, ◌^◌, ◌++◌, List, [], ◌∷◌, true, refl, ap, sym, append_assoc, append-nil, subst, arith, length, lit<}
use Rattle.std.specs.Prelude.{Result, Ok, Err, decimal}
use Rattle.std.specs.Result.{IsOk}
use Rattle.cf_io.specs.Lines.{Pushes, line_capacity}
use Rattle.cf_io.specs.declared.line.Full.{Full}
use Rattle.std.proofs.lemmas.Fmt.{length-decimal-le}
use Rattle.cf_base.specs.declared.results.Failed.{Failed}
use Rattle.cf_io.specs.Feeds.{SinkState, Writes, WritesAll}
use Rattle.cf_io.proofs.Feeding.{appended_after, fails_after}
use Rattle.cf_io.specs.Texts.{Reply, led, said}

-- a number of 64 bits has at most 20 digits
pub decimal_short : (n : ℕ) → n < 2 ^ 64 → length (decimal n) ≤ 20
decimal_short n fits = length-decimal-le 20 n (lit< tt) (omega (arith, fits)) fits

-- the bytes of a reply of one line
pub led_said : (lead text : List ℕ) → led lead (said text) ≡ (lead ++ text) ++ 10 ∷ []
led_said lead text = append-nil (lead ++ (text ++ 10 ∷ [])) ∙ sym (append_assoc lead text (10 ∷ []))

pub led-append : (lead : List ℕ) (some more : Reply) → led lead (some ++ more) ≡ led lead some ++ led lead more
led-append lead [] more = refl
led-append lead (text ∷ rest) more =
    ap (λ xs. (lead ++ (text ++ 10 ∷ [])) ++ xs) (led-append lead rest more)
    ∙ sym (append_assoc (lead ++ (text ++ 10 ∷ [])) (led lead rest) (led lead more))

-- what is claimed of a write of the bytes a is claimed of b, if b equals a
pub puts_same : {T : Type 0} (w y : SinkState) (a b : List ℕ) (r : Result T Failed) → a ≡ b → Writes w a r y → Writes w b r y
puts_same {T = T} w y a b r is put = subst (λ (bytes : List ℕ). Writes {T = T} w bytes r y) is put

-- if the bytes a were written whole, and then the bytes b whole or in part, that is a write of `a ++ b`, whole or in part
pub puts_then : {T : Type 0} (w x y : SinkState) (a b : List ℕ) (r : Result T Failed) → WritesAll w a x → Writes x b r y → Writes w (a ++ b) r y
puts_then w x y a b (Ok u) first next = record { wrote = appended_after _ _ _ a b first.wrote next.wrote; same = next.same ∙ first.same }
puts_then w x y a b (Err e) first cut =
    let (front, lost, parts, is) = cut.part in
    record {
      part = (a ++ front, lost, ap (λ xs. a ++ xs) parts ∙ sym (append_assoc a front lost), appended_after _ _ _ a front first.wrote is);
      fails = fails_after true _ _ _ _ first.same cut.fails;
    }

-- if only a prefix of the bytes a was written, it is a prefix of `a ++ b`
pub puts_cut : (w y : SinkState) (a b : List ℕ) (e : Failed) → Writes {T = Unit {0}} w a (Err e) y → Writes {T = Unit {0}} w (a ++ b) (Err e) y
puts_cut w y a b e cut =
    let (front, lost, parts, is) = cut.part in
    record { part = (front, lost ++ b, ap (λ xs. xs ++ b) parts ∙ append_assoc front lost b, is); fails = cut.fails }

-- writing a line that begins with its lead is writing a reply of this one line
pub puts_line : {T : Type 0} (w y : SinkState) (lead text line : List ℕ) (r : Result T Failed) → line ≡ lead ++ text → Writes w (line ++ 10 ∷ []) r y
    → Writes w (led lead (said text)) r y
puts_line w y lead text line r is put =
    puts_same w y _ _ r (ap (λ (l : List ℕ). l ++ 10 ∷ []) is ∙ sym (led_said lead text)) put

-- a line that three texts were appended to, after its lead
pub three : (lead l m n o a b c : List ℕ) → l ≡ lead → m ≡ l ++ a → n ≡ m ++ b → o ≡ n ++ c → o ≡ lead ++ (a ++ (b ++ c))
three lead l m n o a b c first second third fourth = rw (fourth, third, second, first) (simp append_assoc)

-- a line that five texts were appended to, after its lead
pub five : (lead l m n o p q a b c d e : List ℕ) → l ≡ lead → m ≡ l ++ a → n ≡ m ++ b → o ≡ n ++ c → p ≡ o ++ d → q ≡ p ++ e
    → q ≡ lead ++ (a ++ (b ++ (c ++ (d ++ e))))
five lead l m n o p q a b c d e first second third fourth fifth sixth = rw (sixth, fifth, fourth, third, second, first) (simp append_assoc)

-- if the line has room for the text, the push succeeds and appends it
pub pushed : {T : Type 0} (old text new : List ℕ) (r : Result T Full) → Pushes old text r new → length old + length text ≤ line_capacity
    → IsOk r × (new ≡ old ++ text)
pushed old text new (Ok u) p room = (refl, p.0)
pushed old text new (Err e) p room = absurd (omega arith)
