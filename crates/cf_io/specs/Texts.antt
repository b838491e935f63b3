-- Replies as lists of lines, and the bytes that are written for them; a text with a number after it.
use Rattle.std.specs.Prelude.{ℕ, List, [], ◌∷◌, ◌++◌, decimal}

-- a reply: its lines, without their line feeds
abbrev pub Reply : Type 0
Reply = List (List ℕ)

-- a reply of one line, this text
abbrev pub said : List ℕ → Reply
said text = text ∷ []

-- the bytes written for one reply: each line after the lead (in mode `compare` the name of the manager's kind and a space), with a line feed behind it
abbrev pub led : List ℕ → Reply → List ℕ
led lead [] = []
led lead (text ∷ rest) = (lead ++ (text ++ 10 ∷ [])) ++ led lead rest

-- the bytes written for the replies, one after the other, each line after the lead
abbrev pub text_of : List ℕ → List Reply → List ℕ
text_of lead [] = []
text_of lead (reply ∷ rest) = led lead reply ++ text_of lead rest

-- a text, and after it the number n in decimal
abbrev pub with_number : List ℕ → ℕ → List ℕ
with_number text n = text ++ decimal n
