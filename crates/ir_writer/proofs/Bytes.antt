-- The bytes of parts that are written one after another.
use Rattle.std.proofs.Common.{◌≡◌, ◌∙◌, ℕ, List, [], ◌∷◌, ◌++◌, refl, ap, sym, append_assoc}
use Rattle.std.proofs.lemmas.List.{append-nil}
use Rattle.ir_lexer.specs.Written.{Part, Space, Spelling, bytes_of}

pub bytes_append : (p q : List Part) → bytes_of (p ++ q) ≡ bytes_of p ++ bytes_of q
bytes_append [] q = refl
bytes_append (Space byte ∷ p) q = ap (λ bytes. byte ∷ bytes) (bytes_append p q)
bytes_append (Spelling kind text ∷ p) q = ap (λ bytes. text ++ bytes) (bytes_append p q) ∙ sym (append_assoc text (bytes_of p) (bytes_of q))

-- for functions that write one part after another
pub ruleset written = (bytes_append, append_assoc, append-nil)
