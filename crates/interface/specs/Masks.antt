-- Masks: lists of flags that choose elements of other lists, and the places that the chosen ones come to.
use Rattle.std.specs.Prelude.{ℕ, zero, suc, Bool, true, false, List, [], ◌∷◌, Option, None, Some, slice_get, if◌then◌else◌}

-- the elements whose flags are set, in their order
abbrev pub chosen : {X : Type 0} → List Bool → List X → List X
chosen [] xs = []
chosen (flag ∷ mask) [] = []
chosen (flag ∷ mask) (x ∷ xs) = if flag then x ∷ chosen mask xs else chosen mask xs

-- how many of the first k are chosen: the place that the k-th comes to
abbrev pub rank : List Bool → ℕ → ℕ
rank [] k = 0
rank (flag ∷ mask) zero = 0
rank (flag ∷ mask) (suc k) = if flag then suc (rank mask k) else rank mask k

-- A flag that isn't there isn't set.
abbrev pub flag_at : Option Bool → Bool
flag_at None = false
flag_at (Some flag) = flag

-- the k-th is chosen
abbrev pub is_chosen : List Bool → ℕ → Bool
is_chosen mask k = flag_at (slice_get mask k)
