-- The counts of a checked program.
use Rattle.std.specs.Prelude.{ℕ, List, length, Option, None, Some, sum_by}
use Rattle.ir_syntax.specs.declared.body.Body.{Body}
use Rattle.ir_syntax.specs.declared.item.Item.{Item}
use Rattle.ir_syntax.specs.declared.item.Item.TheVariants as item
use Rattle.ir_syntax.specs.declared.item.Module.{Module}
use Rattle.ir_syntax.specs.Results.{count}
use Rattle.occam_tool.specs.declared.job.Checked.{Checked}

abbrev pub one_if : {X : Type 0} → Option X → ℕ
one_if None = 0
one_if (Some x) = 1

-- a function with a body
abbrev pub function_count : Item → ℕ
function_count (item.Var var) = 0
function_count (item.Func func) = one_if func.body

-- a variable with an initialiser
abbrev pub variable_count : Item → ℕ
variable_count (item.Var var) = one_if var.init
variable_count (item.Func func) = 0

abbrev pub body_count : Option Body → ℕ
body_count None = 0
body_count (Some body) = count body

-- phis, instructions and terminators
abbrev pub instruction_count : Item → ℕ
instruction_count (item.Var var) = 0
instruction_count (item.Func func) = body_count func.body

abbrev pub module_count : (Item → ℕ) → Module → ℕ
module_count each m = sum_by each m.items

-- The modules, the definitions of functions and of variables, and what stands in the bodies.
abbrev pub counts_of : List Module → Checked
counts_of modules = record {
  «modules» = length modules;
  functions = sum_by (module_count function_count) modules;
  globals = sum_by (module_count variable_count) modules;
  instructions = sum_by (module_count instruction_count) modules;
}
