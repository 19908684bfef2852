-- Of which functions and assignments the laws on residual bodies speak.
use Rattle.std.specs.Prelude.{◌≡◌, ℕ, List, [], ◌∷◌, Option, Some, IsSome, IfSome, IsTrue, slice_get}
use Rattle.ir_types.specs.declared.scalar.Known.{Known}
use Rattle.ir_syntax.specs.declared.body.Block.{Block}
use Rattle.ir_syntax.specs.declared.body.Body.{Body}
use Rattle.ir_syntax.specs.declared.item.Func.{Func}
use Rattle.ir_syntax.specs.declared.item.Item.{Item}
use Rattle.ir_syntax.specs.Definite.{DefiniteBody}
use Rattle.ir_syntax.specs.FormedItem.{FormedFunc}
use Rattle.ir_syntax.specs.Typed.{TypedFunc}
use Rattle.fold_facts.specs.Assigned.{Assigned, IsReachedEdge}
use Rattle.fold_facts.specs.Closed.{IsClosed}
use Rattle.fold_facts.specs.OfFunction.{AreKnownOf, IsAssignmentOf}
use Rattle.fold_facts.specs.Places.{blocks_of}
use Rattle.fold_facts.specs.Terminators.{asks, term_edges}

-- A function that is formed, typed and definite among the items of its module.
pub record IsSoundAmong (items : List Item) (func : Func) : Type 0 where
  pub formed : FormedFunc items func
  pub typed : TypedFunc items func
  pub definite : IfSome func.body DefiniteBody

-- A way of reached edges from the first block, last visited first.
abbrev pub IsWay : Assigned → List ℕ → Type 0
IsWay a [] = ⊥
IsWay a (place ∷ []) = place ≡ 0
IsWay a (place ∷ from ∷ more) = ((k : ℕ) × IsReachedEdge a from k place) × IsWay a (from ∷ more)

-- It can't be that no way leads to the block.
abbrev pub IsLedTo : Assigned → ℕ → Type 0
IsLedTo a place = ((visited : List ℕ) → IsWay a (place ∷ visited) → ⊥) → ⊥

-- A definition that is sound among the items of its module, what is known of its parameters, and a closed assignment of it. Its
-- reached edges begin in blocks that ways lead to.
pub record IsLeft (items : List Item) (known : List Known) (func : Func) (a : Assigned) : Type 0 where
  pub defined : IsSome func.body
  pub sound : IsSoundAmong items func
  pub knows : AreKnownOf func known
  pub of : IsAssignmentOf func a
  pub closed : IsClosed (record { known = known }) (blocks_of func) a
  pub led : (from k to : ℕ) → IsReachedEdge a from k to → IsLedTo a from

-- No edge is reached but those that the terminators ask for.
abbrev pub AreAsked : List Known → Func → Assigned → Type 0
AreAsked known func a = (from k to : ℕ) (block : Block) → slice_get (blocks_of func) from ≡ Some block → IsReachedEdge a from k to
    → IsTrue (asks (term_edges (record { known = known }) a.facts block.term) k)

-- the function with another body
abbrev pub with_body : Func → Option Body → Func
with_body func body = record func { body = body }
