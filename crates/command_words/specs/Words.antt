-- The words of the command line, and which command they are.
use Rattle.std.specs.Prelude.{ℕ, Bool, false, ℤ, ◌&&◌, ◌==◌, not, nat_le, bytes_eq, codes, List, [], ◌∷◌, length, Option, Some, None, option_map, option_and_then, if◌then◌else◌}
use Rattle.command_words.specs.Numbers.{number_of, arguments_of}

pub data Command : Type 0 where
  -- winnow MANIFEST OUTDIR
  Winnow : (manifest outdir : List ℕ) → Command
  -- check MANIFEST
  Check : (manifest : List ℕ) → Command
  -- run MANIFEST STEPS ARG...
  Run : (manifest : List ℕ) (steps : ℕ) (args : List ℤ) → Command

-- A word that names a file or a folder: not empty, not beginning with -, of at most 1,024 bytes.
abbrev pub is_file_word : List ℕ → Bool
is_file_word [] = false
is_file_word (byte ∷ bytes) = not (byte == 45) && nat_le (length (byte ∷ bytes)) 1024

abbrev pub check_of : (name manifest : List ℕ) → Option Command
check_of name manifest = if bytes_eq name (codes "check") && is_file_word manifest then Some (Check manifest) else None

abbrev pub winnow_of : (name manifest outdir : List ℕ) (more : List (List ℕ)) → Option Command
winnow_of name manifest outdir [] = if bytes_eq name (codes "winnow") && is_file_word manifest && is_file_word outdir then Some (Winnow manifest outdir) else None
winnow_of name manifest outdir (word ∷ words) = None

-- STEPS is at most 10,000,000, and there are at most 32 ARGs.
abbrev pub run_of : (manifest steps : List ℕ) (args : List (List ℕ)) → Option Command
run_of manifest steps args =
    if is_file_word manifest && nat_le (length args) 32 then option_and_then (λ n. option_map (λ numbers. Run manifest n numbers) (arguments_of args)) (number_of 10000000 steps) else None

-- The command that the words are; any other words are none.
abbrev pub command_of : List (List ℕ) → Option Command
command_of [] = None
command_of (name ∷ []) = None
command_of (name ∷ manifest ∷ []) = check_of name manifest
command_of (name ∷ manifest ∷ word ∷ words) = if bytes_eq name (codes "run") then run_of manifest word words else winnow_of name manifest word words

-- ---- what is asked of a command

abbrev pub IsWinnow : Option Command → Type 0
IsWinnow None = ⊥
IsWinnow (Some (Winnow manifest outdir)) = Unit {0}
IsWinnow (Some (Check manifest)) = ⊥
IsWinnow (Some (Run manifest steps args)) = ⊥

abbrev pub IsRun : Option Command → Type 0
IsRun None = ⊥
IsRun (Some (Winnow manifest outdir)) = ⊥
IsRun (Some (Check manifest)) = ⊥
IsRun (Some (Run manifest steps args)) = Unit {0}

-- a command that changes no file
abbrev pub OnlyReads : Option Command → Type 0
OnlyReads None = ⊥
OnlyReads (Some (Winnow manifest outdir)) = ⊥
OnlyReads (Some (Check manifest)) = Unit {0}
OnlyReads (Some (Run manifest steps args)) = Unit {0}
