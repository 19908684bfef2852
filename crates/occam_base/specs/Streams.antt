-- What a source has left and a sink has taken, where they tell.
use Rattle.std.specs.Prelude.{◌≡◌, ℕ, ◌≤◌, ◌<◌, ◌++◌, List, length, take, drop, Option, Some, None, Result, Ok, Err}
use Rattle.occam_base.specs.declared.fault.Failed.{Failed}
use Rattle.occam_base.specs.declared.fault.Fault.{Fault}

-- A read of n bytes takes them from the front of what is left; none only at the end or for an empty buffer.
pub record Takes (left rest before now : List ℕ) (n : ℕ) : Type 0 where
  pub within : n ≤ length left
  pub bytes : take n now ≡ take n left
  pub rest_is : rest ≡ drop n left
  pub some : 0 < length before → 0 < length left → 0 < n

-- After a failure all is left as it was.
abbrev pub ReadTakes : List ℕ → List ℕ → List ℕ → List ℕ → Result ℕ Failed → Type 0
ReadTakes left rest before now (Ok n) = Takes left rest before now n
ReadTakes left rest before now (Err failed) = rest ≡ left

abbrev pub SourceOf : Option (List ℕ) → Option (List ℕ) → List ℕ → List ℕ → Result ℕ Failed → Type 0
SourceOf None None before now answer = Unit {0}
SourceOf None (Some rest) before now answer = ⊥
SourceOf (Some left) None before now answer = ⊥
SourceOf (Some left) (Some rest) before now answer = ReadTakes left rest before now answer

-- A write of n bytes adds the first n of the piece; after a failure nothing is added.
abbrev pub WriteAdds : List ℕ → List ℕ → List ℕ → Result ℕ Fault → Type 0
WriteAdds taken more piece (Ok n) = more ≡ taken ++ take n piece
WriteAdds taken more piece (Err f) = more ≡ taken

abbrev pub SinkOf : Option (List ℕ) → Option (List ℕ) → List ℕ → Result ℕ Fault → Type 0
SinkOf None None piece answer = Unit {0}
SinkOf None (Some more) piece answer = ⊥
SinkOf (Some taken) None piece answer = ⊥
SinkOf (Some taken) (Some more) piece answer = WriteAdds taken more piece answer
