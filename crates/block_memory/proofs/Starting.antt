-- Blocks of variables at the start.
use Rattle.std.proofs.Common.{ℕ, zero, suc, [], ◌∷◌, refl, ◌<◌, IsSome, Option, Some, None, option_and_then, slice_get, ◌≡◌, ◌+◌, ◌≤◌, List, ◌++◌, length, Result, Ok, Err, IfOk, ap, ◌∙◌, arith}
use Rattle.std.proofs.lemmas.List.{drop_all, append-nil}
use Rattle.ir_syntax.specs.declared.symbol.Sym.{Sym}
use Rattle.ir_syntax.specs.declared.item.Module.{Module}
use Rattle.ir_syntax.specs.Symbols.{item_at}
use Rattle.block_memory.specs.declared.value.Part.{Part}
use Rattle.ir_syntax.specs.Programs.{ProgramData}
use Rattle.block_memory.specs.Mirrors.Laying.{items_of, items_in}
use Rattle.block_memory.specs.Mirrors.Writing.{set_from}
use Rattle.block_memory.proofs.Writing.{set_from-replaced}

pub on_ok : {X E : Type 0} (r : Result X E) (P Q : X → Type 0) → ((x : X) → P x → Q x) → IfOk r P → IfOk r Q
on_ok (Ok x) P Q so holds = so x holds
on_ok (Err e) P Q so holds = holds

-- A write of all parts leaves nothing else.
pub set_whole : (parts new : List (Part Sym)) → length new ≡ length parts → set_from parts 0 new ≡ new
set_whole parts new long =
    let all : length parts ≤ 0 + length new = omega arith in
    set_from-replaced parts 0 new (omega arith) ∙ ap (λ rest. new ++ rest) (drop_all (0 + length new) parts all) ∙ append-nil new

within_some : {A : Type 0} (xs : List A) (k : ℕ) → k < length xs → IsSome (slice_get xs k)
within_some [] k below = absurd (omega arith)
within_some (x ∷ xs) zero below = refl
within_some (x ∷ xs) (suc k) below = within_some xs k (omega arith)

-- the item at a place of a module of the program
pub has_item : (p : ProgramData) (home item : ℕ) → item < length (items_in p home) → IsSome (item_at p.modules (record { «module» = home; item = item }))
has_item p home item below = there (slice_get p.modules home) below where
  there : (found : Option Module) → item < length (items_of found) → IsSome (option_and_then (λ m. slice_get m.items item) found)
  there None below = absurd (omega arith)
  there (Some m) below = within_some m.items item below
