-- Why no body is read.
use Rattle.std.specs.Prelude.{ℕ, List}
use Rattle.ir_syntax.specs.declared.body.Body.{Body}
use Rattle.ir_grammar.specs.Tokens.{Piece}
use Rattle.ir_scope.specs.Scopes.{Env}
use Rattle.ir_body.specs.declared.reading.BodyFault.{BodyFault}
use Rattle.ir_body.specs.declared.reading.BodyFault.TheVariants.{NotInSubset, OutOfMemory}
use Rattle.ir_body.specs.Bodies.{SpellsBody}

-- The first tokens spell no body; or memory ran out, which has no cause.
abbrev pub IsBodyCause : Env → List (List ℕ) → List Piece → BodyFault → Type 0
IsBodyCause env params pieces NotInSubset = (body : Body) (taken : ℕ) → SpellsBody env params pieces body taken → ⊥
IsBodyCause env params pieces OutOfMemory = Unit {0}
