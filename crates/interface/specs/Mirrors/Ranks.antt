-- Ranks as the code lists them.
use Rattle.std.specs.Prelude.{ℕ, suc, Bool, List, [], ◌∷◌, if◌then◌else◌}

abbrev pub after : Bool → ℕ → ℕ
after flag n = if flag then suc n else n

-- the ranks of the places of a mask and of the one behind the last, where n are chosen before it
abbrev pub ranks_from : ℕ → List Bool → List ℕ
ranks_from n [] = n ∷ []
ranks_from n (flag ∷ mask) = n ∷ ranks_from (after flag n) mask
