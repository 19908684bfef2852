-- Reading a whole file of at most so many bytes.
use Rattle.std.specs.Prelude.{◌≡◌, ℕ, zero, suc, ◌<◌, ◌≤◌, List, length, take, Option, Some, None, Result, Ok, Err}
use Rattle.occam_base.specs.Files.{FileMap, file_of}
use Rattle.program_loader.specs.declared.reading.Stop.{Stop}
use Rattle.program_loader.specs.declared.reading.Stop.TheVariants as stop

-- the text is a front of the file
pub record IsFront (text file : List ℕ) : Type 0 where
  pub within : length text ≤ length file
  pub bytes : text ≡ take (length text) file

-- What a reading of a file that is held, or isn't, answers.
abbrev pub WholeGives : Option (List ℕ) → ℕ → Result (List ℕ) Stop → Type 0
WholeGives None limit (Ok text) = ⊥
WholeGives None limit (Err stop.Failed) = Unit {0}
WholeGives None limit (Err stop.Absent) = Unit {0}
WholeGives None limit (Err stop.TooLarge) = ⊥
WholeGives None limit (Err stop.OutOfMemory) = Unit {0}
WholeGives (Some file) limit (Ok text) = (text ≡ file) × (length file ≤ limit)
WholeGives (Some file) limit (Err stop.Failed) = Unit {0}
WholeGives (Some file) limit (Err stop.Absent) = ⊥
WholeGives (Some file) limit (Err stop.TooLarge) = limit < length file
WholeGives (Some file) limit (Err stop.OutOfMemory) = Unit {0}

-- A shelf that tells nothing may answer anything.
abbrev pub WholeOf : Option FileMap → List ℕ → ℕ → Result (List ℕ) Stop → Type 0
WholeOf None name limit answer = Unit {0}
WholeOf (Some files) name limit answer = WholeGives (file_of files name) limit answer

-- One more piece: a front stays a front, and no byte comes only where the text is the file.
abbrev pub PieceGives : Option (List ℕ) → List ℕ → List ℕ → Result ℕ Stop → Type 0
PieceGives None old new (Ok n) = ⊥
PieceGives None old new (Err e) = Unit {0}
PieceGives (Some file) old new (Ok zero) = IsFront old file → new ≡ file
PieceGives (Some file) old new (Ok (suc n)) = IsFront old file → IsFront new file
PieceGives (Some file) old new (Err stop.Failed) = Unit {0}
PieceGives (Some file) old new (Err stop.Absent) = ⊥
PieceGives (Some file) old new (Err stop.TooLarge) = ⊥
PieceGives (Some file) old new (Err stop.OutOfMemory) = Unit {0}

abbrev pub PieceOf : Option FileMap → List ℕ → List ℕ → List ℕ → Result ℕ Stop → Type 0
PieceOf None name old new answer = Unit {0}
PieceOf (Some files) name old new answer = PieceGives (file_of files name) old new answer
