-- The states that a program comes to: by its start, by calls of roots, and by steps.
use Rattle.std.specs.Prelude.{◌≡◌, ◌⊎◌, ℕ, IsTrue, List, [], ◌∷◌, Option, Some}
use Rattle.std.specs.List.{AllZip}
use Rattle.ir_types.specs.Scalars.{is_number_of}
use Rattle.ir_syntax.specs.declared.symbol.Sym.{Sym}
use Rattle.ir_syntax.specs.declared.body.Body.{Body}
use Rattle.ir_syntax.specs.declared.item.Func.{Func}
use Rattle.ir_syntax.specs.declared.item.Item.TheVariants as item
use Rattle.ir_syntax.specs.Programs.{ProgramData}
use Rattle.ir_syntax.specs.Symbols.{item_at}
use Rattle.int_ops.specs.declared.cause.Cause.{Cause}
use Rattle.block_memory.specs.Answers.{Gives, Undefined}
use Rattle.ir_steps.specs.declared.session.Reply.{Reply}
use Rattle.ir_steps.specs.declared.session.Stepped.{Stepped}
use Rattle.ir_steps.specs.States.{StateData}
use Rattle.ir_steps.specs.Results.{state}
use Rattle.ir_steps.specs.Steps.{start, enter, step}

-- A call from outside: a function with a body, and a number of its type for each parameter.
pub record IsRoot (p : ProgramData) (symbol : Sym) (args : List ℕ) : Type 0 where
  pub func : Func
  pub is : item_at p.modules symbol ≡ Some (item.Func func)
  pub body : Body
  pub has_body : func.body ≡ Some body
  pub suits : AllZip (λ param n. IsTrue (is_number_of param.ty n)) func.params args

-- What happens: a root is called, or a step is made, with the reply to the call at hand where there is one.
pub data Move : Type 0 where
  Enter : (symbol : Sym) → (args : List ℕ) → Move
  Go : (given : Option Reply) → Move

-- The step leads from the one state to the other. Where it is undefined, no call is running behind it.
abbrev pub Leads : ProgramData → StateData → Option Reply → StateData → Type 0
Leads p s given next =
    ((a : Stepped) × (step p s given ≡ Gives (a, next))) ⊎ ((why : Cause) × (step p s given ≡ Undefined why) × (next ≡ state [] s.memory))

-- The moves lead to the state, the last one first. A root is called where no call is running.
abbrev pub Reaches : ProgramData → List Move → StateData → Type 0
Reaches p [] s = start p ≡ Gives s
Reaches p (Enter symbol args ∷ more) s = (t : StateData) × Reaches p more t × (t.frames ≡ []) × IsRoot p symbol args × (enter p t symbol args ≡ Gives s)
Reaches p (Go given ∷ more) s = (t : StateData) × Reaches p more t × Leads p t given s
