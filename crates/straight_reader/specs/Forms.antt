-- The form of definitions, and the module that they stand for, as they are computed.
use Rattle.std.specs.Prelude.{◌≡◌, ℕ, true, ◌&&◌, not, pos, List, length, map, Option, None, option_map, option_and_then, if◌then◌else◌}
use Rattle.std.specs.List.{list_all}
use Rattle.ir_types.specs.declared.scalar.Ext.TheVariants.{Plain}
use Rattle.ir_syntax.specs.declared.constant.Const.TheVariants as const
use Rattle.ir_syntax.specs.declared.constant.Operand.TheVariants as operand
use Rattle.ir_syntax.specs.declared.body.Arg.{Arg}
use Rattle.ir_syntax.specs.declared.body.Inst.{Inst}
use Rattle.ir_syntax.specs.declared.body.Inst.TheVariants as inst
use Rattle.ir_syntax.specs.declared.item.Module.{Module}
use Rattle.ir_syntax.specs.Straight.{word_type}
use Rattle.straight_form.specs.declared.surface.Value.{Value}
use Rattle.straight_form.specs.declared.surface.Line.{Line}
use Rattle.straight_form.specs.declared.surface.Entity.{Entity}
use Rattle.name_table.specs.Places.{is_among, place_among}
use Rattle.straight_form.specs.Names.{is_name}
use Rattle.straight_form.specs.Resolved.{name_of, are_few, operands_of, call_of, inst_of, module_of}
use Rattle.straight_form.specs.Form.{are_straight, has_entry}

abbrev pub function_names : List Entity → List (List ℕ)
function_names es = map (λ e. e.name) es

-- the module of definitions of the form
abbrev pub formed : List ℕ → ℕ → List Entity → Option Module
formed entry count es = if are_straight es && has_entry entry count es then module_of es else None

-- A definition without a label, whose parameters and lines have names.
pub record IsNamed (e : Entity) : Type 0 where
  pub unlabelled : e.label ≡ None
  pub params : list_all is_name e.params ≡ true
  pub lines : list_all (λ line. is_name (name_of line)) e.lines ≡ true

-- call i32 of the function at a place, with these arguments
abbrev pub call_with : ℕ → List Arg → Inst
call_with place args = inst.Call (word_type (length args)) Plain (operand.Const (const.Addr place (pos 0))) args

-- the call of a function by its name, with these words
abbrev pub call_named : List (List ℕ) → List (List ℕ) → List (List ℕ) → List ℕ → List Value → Option Inst
call_named functions params registers callee values =
    if are_few values then option_and_then (λ place. option_map (λ ws. call_of place ws) (operands_of params registers values)) (place_among callee functions) else None

-- the instruction of a line whose name is new
abbrev pub step_of : List (List ℕ) → List (List ℕ) → List (List ℕ) → Line → Option Inst
step_of functions params registers line =
    if not (is_among (name_of line) params) && not (is_among (name_of line) registers) then inst_of functions params registers line else None
