-- Calls.
use Rattle.std.specs.Prelude.{ℕ, zero, suc, pos, ◌+◌, Bool, true, false, not, ◌&&◌, ◌||◌, nat_le, nat_eq, List, [], ◌∷◌, length, map, drop, Option, Some, None, option_map, option_and_then, if◌then◌else◌}
use Rattle.ir_types.specs.declared.scalar.Scalar.{Scalar}
use Rattle.ir_types.specs.declared.scalar.Scalar.TheVariants.{I1, Ptr}
use Rattle.ir_types.specs.declared.scalar.Ext.{Ext}
use Rattle.ir_types.specs.declared.scalar.FnType.{FnType}
use Rattle.ir_types.specs.Names.{is_name}
use Rattle.ir_lexer.specs.Texts.{name_of}
use Rattle.ir_syntax.specs.declared.constant.Const.{Const, out-Const}
use Rattle.ir_syntax.specs.declared.constant.Const.TheOpen.{Const-F}
use Rattle.ir_syntax.specs.declared.constant.Operand.{Operand}
use Rattle.ir_syntax.specs.declared.constant.Operand.TheVariants as operand
use Rattle.ir_syntax.specs.declared.body.Arg.{Arg}
use Rattle.ir_syntax.specs.declared.body.Inst.{Inst}
use Rattle.ir_syntax.specs.declared.body.Inst.TheVariants as inst
use Rattle.ir_grammar.specs.declared.shape.Shape.{Shape}
use Rattle.ir_grammar.specs.declared.shape.Shape.TheVariants as is
use Rattle.ir_grammar.specs.declared.shape.AtName.TheVariants as at
use Rattle.ir_grammar.specs.Tokens.{Kept}
use Rattle.ir_scope.specs.Runs.{Reading, behind, runs, closed_by}
use Rattle.ir_scope.specs.Scopes.{is_intrinsic_place}
use Rattle.ir_constants.specs.Constants.{is_close_paren}
use Rattle.ir_operands.specs.Operands.{Names, operand_at}
pub use Rattle.ir_operands.specs.Marks.{ext_at, is_scalar, scalar_at, dots_at}

-- ---- the whole type of a call

-- the types of fixed parameters, and whether there are more; behind the opening parenthesis, with the closing one
abbrev pub types_at : Reading (List Scalar × Bool)
types_at ks =
    closed_by is_close_paren ks
    (option_map (λ f. let dots = dots_at (drop f.1 ks) in ((f.0, dots.0), f.1 + dots.1)) (runs is_scalar scalar_at ks))

-- the whole type, where it is written
abbrev pub whole_at : List Kept → Option (Option (List Scalar × Bool) × ℕ)
whole_at ((is.OpenParen, text) ∷ ks) = behind 1 (option_map (λ f. (Some f.0, f.1)) (types_at ks))
whole_at ks = Some (None, 0)

-- ---- arguments

-- T attributes a
abbrev pub arg_at : Names → Reading Arg
arg_at names ((is.Scalar ty, text) ∷ ks) =
    let ext = ext_at ks in
    behind (1 + ext.1) (option_map (λ f. (record { ty = ty; ext = ext.0; value = f.0 }, f.1)) (operand_at names ty (drop ext.1 ks)))
arg_at names _ = None

-- with the closing parenthesis
abbrev pub args_at : Names → Reading (List Arg)
args_at names ks = closed_by is_close_paren ks (runs (λ shape. not (is_close_paren shape)) (arg_at names) ks)

-- ---- what a call may be

abbrev pub is_intrinsic_constant : List (List ℕ) → Const-F Const → Bool
is_intrinsic_constant symbols (Const-F.Addr place (pos zero)) = is_intrinsic_place symbols place
is_intrinsic_constant symbols _ = false

-- The callee is written as the name of an intrinsic.
abbrev pub calls_intrinsic : List (List ℕ) → Operand → Bool
calls_intrinsic symbols (operand.Const constant) = is_intrinsic_constant symbols (out-Const constant)
calls_intrinsic symbols _ = false

abbrev pub is_zero : Const-F Const → Bool
is_zero (Const-F.Int n) = nat_eq n 0
is_zero _ = false

-- the constant false of i1
abbrev pub is_false : Scalar → Operand → Bool
is_false I1 (operand.Const constant) = is_zero (out-Const constant)
is_false _ _ = false

-- The last argument is the constant false.
abbrev pub ends_in_false : List Arg → Bool
ends_in_false [] = false
ends_in_false (arg ∷ []) = is_false arg.ty arg.value
ends_in_false (arg ∷ next ∷ more) = ends_in_false (next ∷ more)

-- At most 32 parameters and arguments, and a copy or fill of memory isn't volatile.
abbrev pub is_call : Names → FnType → Operand → List Arg → Bool
is_call names fn_ty callee args =
    nat_le (length fn_ty.params) 32 && nat_le (length args) 32 && (not (calls_intrinsic names.env.symbols callee) || ends_in_false args)

-- the type of the function that is called: it is written, or else the arguments have its types
abbrev pub call_type : Option Scalar → Option (List Scalar × Bool) → List Arg → FnType
call_type returns None args = record { params = map (λ arg. arg.ty) args; variadic = false; returns = returns }
call_type returns (Some whole) args = record { params = whole.0; variadic = whole.1; returns = returns }

abbrev pub made_call : Names → FnType → Ext → Operand → List Arg → Option Inst
made_call names fn_ty ext callee args = if is_call names fn_ty callee args then Some (inst.Call fn_ty ext callee args) else None

-- callee ( arguments )
abbrev pub callee_at : Names → Ext → Option Scalar → Option (List Scalar × Bool) → Reading Inst
callee_at names ext returns whole ks =
    option_and_then (λ f. behind f.1 (option_and_then (λ args. option_map (λ i. (i, args.1)) (made_call names (call_type returns whole args.0) ext f.0 args.0)) (args_at names (drop f.1 ks))))
    (operand_at names Ptr ks)

-- the name of a call that is dropped: it keeps the limits on names like every other
abbrev pub dropped_callee_at : List ℕ → Option (Option Inst × ℕ)
dropped_callee_at text = if is_name (name_of (drop 1 text)) then Some (None, 1) else None

-- A call of void to a name of debug information is dropped.
abbrev pub void_callee_at : Names → Ext → Option (List Scalar × Bool) → Reading (Option Inst)
void_callee_at names ext whole ((is.At at.Debug, text) ∷ ks) = dropped_callee_at text
void_callee_at names ext whole ks = option_map (λ f. (Some f.0, f.1)) (callee_at names ext None whole ks)

-- behind the word: attributes, what is returned, the whole type where it is written, the callee and the arguments
abbrev pub returning_at : Names → Ext → Reading (Option Inst)
returning_at names ext ((is.Returned ty, text) ∷ ks) =
    behind 1 (option_and_then (λ whole. behind whole.1 (option_map (λ f. (Some f.0, f.1)) (callee_at names ext (Some ty) whole.0 (drop whole.1 ks)))) (whole_at ks))
returning_at names ext ((is.Void, text) ∷ ks) =
    behind 1 (option_and_then (λ whole. behind whole.1 (void_callee_at names ext whole.0 (drop whole.1 ks))) (whole_at ks))
returning_at names ext _ = None

abbrev pub call_at : Names → Reading (Option Inst)
call_at names ks = let ext = ext_at ks in behind ext.1 (returning_at names ext.0 (drop ext.1 ks))
