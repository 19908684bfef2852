-- One look.
use Rattle.std.specs.Prelude.{◌≡◌, ℕ, ◌<◌, ◌≤◌, ◌^◌, List, [], ◌∷◌, Some, IsTrue, All, length, slice_get}
use Rattle.ir_syntax.specs.declared.body.Block.{Block}
use Rattle.fold_facts.specs.Assigned.{Assigned}
use Rattle.fold_facts.specs.Operands.{Setting}
use Rattle.fold_facts.specs.OfFunction.{results_in}
use Rattle.fold_facts.specs.Raising.{SaysItsTypes}
use Rattle.fold_sparse.specs.declared.look.Look.{Look}
use Rattle.fold_sparse.specs.declared.standing.Standing.{Standing}
use Rattle.fold_sparse.specs.Looks.{looks_of, is_active, uses_from}
use Rattle.fold_sparse.specs.Solving.{IsSolving, left, HasTargets}

-- What a solver needs of a function: its results have numbers, its places say what is of their types, and its terminators go to
-- its blocks.
pub record IsSound (setting : Setting) (blocks : List Block) : Type 0 where
  pub few : length (results_in blocks) < 2 ^ 64
  pub typed : All (SaysItsTypes setting (results_in blocks)) blocks
  pub targets : All (λ block. HasTargets blocks block.term) blocks

-- The look is active, and it alone may ask for more than there is.
pub record IsLooking (setting : Setting) (blocks : List Block) (a : Assigned) (standing : List Standing) (queue : List ℕ) (l : ℕ) (look : Look) : Type 0 where
  pub there : slice_get (looks_of blocks) l ≡ Some look
  pub active : IsTrue (is_active a look)
  pub solving : IsSolving setting blocks a standing queue [] (l ∷ [])

-- None that doesn't wait asks for more, and no more transfers are left than before.
pub record IsLooked (setting : Setting) (blocks : List Block) (a b : Assigned) (standing next : List Standing) (queue longer : List ℕ) : Type 0 where
  pub solving : IsSolving setting blocks b next longer [] []
  pub left : left (uses_from blocks 0 (looks_of blocks)) b.facts next longer ≤ left (uses_from blocks 0 (looks_of blocks)) a.facts standing queue
