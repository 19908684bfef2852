-- Mirrors of code, for its proofs.
use Rattle.std.specs.Prelude.{ℕ, Bool, true, ◌&&◌, ◌==◌, not, List, [], ◌∷◌}

-- The word begins neither with a plus nor with a zero that something follows.
abbrev pub is_plain : List ℕ → Bool
is_plain [] = true
is_plain (byte ∷ []) = not (byte == 43)
is_plain (byte ∷ next ∷ bytes) = not (byte == 48) && not (byte == 43)
