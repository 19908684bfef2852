-- The values of operands (LLVM Language Reference Manual, "Constants", "Identifiers").
use Rattle.std.specs.Prelude.{ℕ, List, [], ◌∷◌, Option, Some, None, option_map, slice_get}
use Rattle.ir_syntax.specs.declared.symbol.Sym.{Sym}
use Rattle.ir_syntax.specs.declared.constant.Const.{Const, out-Const}
use Rattle.ir_syntax.specs.declared.constant.Const.TheOpen.{Const-F}
use Rattle.ir_syntax.specs.declared.constant.Operand.{Operand}
use Rattle.ir_syntax.specs.declared.constant.Operand.TheVariants as operand
use Rattle.ir_syntax.specs.Programs.{ProgramData}
use Rattle.block_memory.specs.declared.value.Val.{Val}
use Rattle.block_memory.specs.declared.value.Val.TheVariants as val
use Rattle.block_memory.specs.Answers.{Answer, Gives, and_then, or_stuck}
use Rattle.block_memory.specs.Starts.{name_of}
use Rattle.ir_steps.specs.States.{Frame, slot}

-- An address names the block of the item's canonical symbol. `undef` is poison too. No scalar is written as an aggregate.
abbrev pub constant_in : ProgramData → ℕ → Const-F Const → Option (Val Sym)
constant_in p home (Const-F.Int n) = Some (val.Num n)
constant_in p home Const-F.Null = Some val.Null
constant_in p home (Const-F.Addr item offset) = option_map (λ of. val.At of offset) (name_of p (record { «module» = home; item = item }))
constant_in p home Const-F.Undef = Some val.Poison
constant_in p home Const-F.Poison = Some val.Poison
constant_in p home Const-F.Zero = None
constant_in p home (Const-F.Text bytes) = None
constant_in p home (Const-F.Many parts) = None

-- the value of a constant in the module of this place
abbrev pub constant_value : ProgramData → ℕ → Const → Option (Val Sym)
constant_value p home constant = constant_in p home (out-Const constant)

abbrev pub value_in : ProgramData → Frame → Operand → Option (Val Sym)
value_in p f (operand.Param k) = slice_get f.args k
value_in p f (operand.Reg k) = slot f.results k
value_in p f (operand.Const constant) = constant_value p f.func.module constant

-- the value of an operand in a call
abbrev pub value : ProgramData → Frame → Operand → Answer (Val Sym)
value p f a = or_stuck (value_in p f a)

abbrev pub values : ProgramData → Frame → List Operand → Answer (List (Val Sym))
values p f [] = Gives []
values p f (a ∷ more) = and_then (λ x. and_then (λ xs. Gives (x ∷ xs)) (values p f more)) (value p f a)
