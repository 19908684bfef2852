-- How a run of an entry ended.
use Rattle.std.specs.Prelude.{List, [], ◌∷◌, Option, None}
use Rattle.ir_types.specs.declared.scalar.Scalar.{Scalar}
use Rattle.ir_syntax.specs.declared.symbol.SymName.{SymName}
use Rattle.block_memory.specs.declared.value.Val.{Val}
use Rattle.session_runs.specs.declared.session.Event.{Event}
use Rattle.session_runs.specs.declared.session.Event.TheVariants as event
use Rattle.session_runs.specs.declared.session.Run.{Run}
use Rattle.program_runner.specs.declared.ended.Ended.{Ended}

abbrev pub value_in : Event → Option (Val SymName)
value_in (event.Asked call reply) = None
value_in (event.Returned value) = value

-- what a trace says last that a root returned
abbrev pub returned : List Event → Option (Val SymName)
returned [] = None
returned (e ∷ []) = value_in e
returned (e ∷ f ∷ more) = returned (f ∷ more)

abbrev pub ended_of : Option Scalar → Run → Ended
ended_of returns shown = record { phase = shown.phase; value = returned shown.trace; ty = returns; steps = shown.steps }
