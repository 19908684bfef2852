-- How the calls of a running program are read: a call by a name as its caller's instruction asks for, a call through a value with
-- nothing known, and a root as the deployment asks for.
use Rattle.std.specs.Prelude.{ℕ, Bool, true, false, List, [], ◌∷◌, Option, None, Some, option_and_then}
use Rattle.ir_syntax.specs.declared.symbol.Sym.{Sym}
use Rattle.ir_syntax.specs.declared.constant.Operand.{Operand}
use Rattle.ir_types.specs.declared.scalar.Known.{Known}
use Rattle.ir_syntax.specs.declared.body.Inst.{Inst}
use Rattle.ir_syntax.specs.Programs.{ProgramData}
use Rattle.ir_syntax.specs.Results.{result_type}
use Rattle.ir_steps.specs.States.{Frame}
use Rattle.fold_facts.specs.Places.{blocks_of}
use Rattle.demands.specs.declared.demand.Demand.{Demand}
use Rattle.interface.specs.Asked.{asked_by, by_name, called}
use Rattle.interface.specs.Names.{call_of}
use Rattle.interface.specs.Roots.{by_root}
use Rattle.interface.specs.Summaries.{known_of}
use Rattle.specialise.specs.Leaving.{Leaving, leaving}
use Rattle.specialise.specs.Residual as residual
use Rattle.session_runs.specs.Following.{View}
use Rattle.known_values.specs.Readings.{Reading, setting_of, found}

-- what is known of an operand
abbrev pub known_in : Reading → Operand → Known
known_in r o = known_of (setting_of r) r.assigned.facts o

-- what is left of the function
abbrev pub leaving_of : Reading → Leaving
leaving_of r = leaving r.pattern (blocks_of r.func) r.assigned

-- ---- which demand a call is of

abbrev pub asked_at : ProgramData → List (List Bool) → Sym → ℕ → Option (ℕ × List Known) → Option Demand
asked_at p cycles symbol home None = asked_by by_name p (Some symbol)
asked_at p cycles symbol home (Some call) = called p cycles home call

-- that of the function by the caller's instruction
abbrev pub call_demand : ProgramData → List (List Bool) → Reading → Inst → Sym → Option Demand
call_demand p cycles r inst symbol = asked_at p cycles symbol r.symbol.module (call_of (known_in r) inst)

abbrev pub root_demand : ProgramData → List (List Bool) → Sym → Option Demand
root_demand p cycles symbol = asked_by (by_root p cycles) p (Some symbol)

-- ---- what stays

-- The instruction at hand stays as its result does; a terminator always does.
abbrev pub inst_stays : Reading → ℕ → List Inst → Bool
inst_stays r n [] = true
inst_stays r n (inst ∷ behind) = residual.stays (leaving_of r) n (result_type inst)

abbrev pub stays_as : Option Reading → Frame → Bool
stays_as None f = false
stays_as (Some r) f = inst_stays r f.next f.rest

-- ---- the view

-- by these readings; a call that none of them is of isn't read
abbrev pub view : ProgramData → List (List Bool) → List Reading → View (Option Reading)
view p cycles readings = record {
  of_root = λ root. option_and_then (found readings) (root_demand p cycles root.func);
  of_call = λ caller inst symbol. option_and_then (λ r. option_and_then (found readings) (call_demand p cycles r inst symbol)) caller;
  stays = stays_as;
}
