-- Names as they are added one after another.
use Rattle.std.specs.Prelude.{◌≡◌, ℕ, Bool, true, false, List, ◌++◌, Option, option_map}
use Rattle.std.specs.Borrow.{Bor}
use Rattle.ir_locals.specs.Locals.{Local, are_locals, local_name}

-- Either more names were added, and all are well, or with them they aren't.
abbrev pub HasAdded : List (List ℕ × Local) → List (List ℕ × Local) → List (List ℕ × Local) → Bool → Type 0
HasAdded old more new true = (new ≡ old ++ more) × (are_locals new ≡ true)
HasAdded old more new false = are_locals (old ++ more) ≡ false

-- the name that waits for its result, as it is written
abbrev pub waiting_name : Option (Bor (List ℕ)) → Option (List ℕ)
waiting_name text = option_map (λ t. local_name t.now) text
