-- The module that definitions of the form stand for: names become places, and digits numbers.
use Rattle.std.specs.Prelude.{ℕ, Bool, true, false, ◌&&◌, not, nat_lt, nat_le, pos, List, [], ◌∷◌, ◌++◌, length, map, Option, Some, None, option_map, option_and_then, if◌then◌else◌}
use Rattle.std.specs.List.{list_all}
use Rattle.ir_types.specs.declared.scalar.Scalar.TheVariants.{I32}
use Rattle.ir_types.specs.declared.scalar.Ext.TheVariants.{Plain}
use Rattle.ir_types.specs.declared.scalar.BinOp.TheVariants as op
use Rattle.ir_syntax.specs.declared.constant.Const.TheVariants as const
use Rattle.ir_syntax.specs.declared.constant.Operand.{Operand}
use Rattle.ir_syntax.specs.declared.constant.Operand.TheVariants as operand
use Rattle.ir_syntax.specs.declared.body.Arg.{Arg}
use Rattle.ir_syntax.specs.declared.body.Inst.{Inst}
use Rattle.ir_syntax.specs.declared.body.Inst.TheVariants as inst
use Rattle.ir_syntax.specs.declared.body.Body.{Body}
use Rattle.ir_syntax.specs.declared.item.Item.{Item}
use Rattle.ir_syntax.specs.declared.item.Item.TheVariants as item
use Rattle.ir_syntax.specs.declared.item.Linkage.TheVariants.{External, Internal}
use Rattle.ir_syntax.specs.declared.item.Module.{Module}
use Rattle.ir_syntax.specs.Straight.{no_flags, word_param, word_type, straight_body}
use Rattle.straight_form.specs.declared.surface.Value.{Value}
use Rattle.straight_form.specs.declared.surface.Value.TheVariants.{Number, Local}
use Rattle.straight_form.specs.declared.surface.Line.{Line}
use Rattle.straight_form.specs.declared.surface.Line.TheVariants.{Add, Call}
use Rattle.straight_form.specs.declared.surface.Entity.{Entity}
use Rattle.name_table.specs.Places.{is_among, place_among, are_distinct}
use Rattle.straight_form.specs.Names.{is_name, is_function_name}
use Rattle.straight_form.specs.Numbers.{integer_of}

-- add i32 a, b
abbrev pub addition : Operand → Operand → Inst
addition a b = inst.Bin op.Add no_flags I32 a b

abbrev pub word_arg : Operand → Arg
word_arg value = record { ty = I32; ext = Plain; value = value }

-- call i32 of the function at a place of the module, with these words
abbrev pub call_of : ℕ → List Operand → Inst
call_of place values = inst.Call (word_type (length values)) Plain (operand.Const (const.Addr place (pos 0))) (map word_arg values)

-- A name is that of a parameter, by place, or else the result of the line of its name.
abbrev pub local_of : List (List ℕ) → List (List ℕ) → List ℕ → Option Operand
local_of params registers name =
    if is_among name params then option_map (λ k. operand.Param k) (place_among name params)
    else option_map (λ k. operand.Reg k) (place_among name registers)

abbrev pub operand_of : List (List ℕ) → List (List ℕ) → Value → Option Operand
operand_of params registers (Number digits) = option_map (λ n. operand.Const (const.Int n)) (integer_of digits)
operand_of params registers (Local name) = local_of params registers name

-- each operand, where each is one
abbrev pub operands_of : List (List ℕ) → List (List ℕ) → List Value → Option (List Operand)
operands_of params registers [] = Some []
operands_of params registers (v ∷ vs) = option_and_then (λ x. option_map (λ xs. x ∷ xs) (operands_of params registers vs)) (operand_of params registers v)

abbrev pub name_of : Line → List ℕ
name_of (Add name a b) = name
name_of (Call name callee args) = name

-- at most 32 parameters, and as many arguments
abbrev pub are_few : {X : Type 0} → List X → Bool
are_few xs = nat_le (length xs) 32

-- the instruction of a line, over the names of the functions, of the parameters, and of the registers above it
abbrev pub inst_of : List (List ℕ) → List (List ℕ) → List (List ℕ) → Line → Option Inst
inst_of functions params registers (Add name a b) =
    option_and_then (λ x. option_map (λ y. addition x y) (operand_of params registers b)) (operand_of params registers a)
inst_of functions params registers (Call name callee args) =
    if are_few args then option_and_then (λ place. option_map (λ values. call_of place values) (operands_of params registers args)) (place_among callee functions) else None

-- Each line sees the registers above it, and its own name is new.
abbrev pub insts_of : List (List ℕ) → List (List ℕ) → List (List ℕ) → List Line → Option (List Inst)
insts_of functions params registers [] = Some []
insts_of functions params registers (line ∷ lines) =
    if is_name (name_of line) && not (is_among (name_of line) params) && not (is_among (name_of line) registers)
    then option_and_then (λ i. option_map (λ is. i ∷ is) (insts_of functions params (registers ++ name_of line ∷ []) lines)) (inst_of functions params registers line)
    else None

-- A label has a name that no parameter and no register has.
abbrev pub is_label_for : Option (List ℕ) → List (List ℕ) → List (List ℕ) → Bool
is_label_for None params registers = true
is_label_for (Some label) params registers = is_name label && not (is_among label params) && not (is_among label registers)

-- At most 32 parameters, with distinct names.
abbrev pub are_params : List (List ℕ) → Bool
are_params params = are_few params && list_all is_name params && are_distinct params

-- the body of one block, with at most 1,048,576 instructions and terminator
abbrev pub body_of : List (List ℕ) → Entity → Option Body
body_of functions e =
    if are_params e.params && is_label_for e.label e.params (map name_of e.lines) && nat_lt (length e.lines) 1048576
    then option_and_then (λ insts. option_map (λ result. straight_body insts result) (operand_of e.params (map name_of e.lines) e.result)) (insts_of functions e.params [] e.lines)
    else None

abbrev pub func_of : List (List ℕ) → Entity → Option Item
func_of functions e =
    option_map (λ body. item.Func (record {
      name = e.name;
      linkage = if e.internal then Internal else External;
      returns = Some I32;
      ret_ext = Plain;
      params = map (λ name. word_param) e.params;
      variadic = false;
      body = Some body;
    })) (body_of functions e)

-- each entity's item, where each has one
abbrev pub items_of : List (List ℕ) → List Entity → Option (List Item)
items_of functions [] = Some []
items_of functions (e ∷ es) = option_and_then (λ i. option_map (λ is. i ∷ is) (items_of functions es)) (func_of functions e)

-- The names of the functions are distinct, and each body resolves.
abbrev pub module_of : List Entity → Option Module
module_of es =
    let functions = map (λ e. e.name) es in
    if list_all is_function_name functions && are_distinct functions
    then option_map (λ items. record { layout = None; triple = None; items = items }) (items_of functions es)
    else None
