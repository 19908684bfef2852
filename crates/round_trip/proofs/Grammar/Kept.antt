-- What the grammar keeps of the tokens that are written.
use Rattle.std.specs.Prelude.{ℕ, ℤ, zero, suc, pos, ◌+◌, ◌^◌, Bool, true, false, ◌==◌, codes, is_some, List, [], ◌∷◌, ◌++◌, length, map, flat_map, Option, Some, None, if◌then◌else◌}
use Rattle.std.specs.Fmt.{decimal, signed_decimal}
use Rattle.ir_types.specs.declared.scalar.Scalar.{Scalar}
use Rattle.ir_types.specs.declared.scalar.Scalar.TheVariants.{I1, I8, I16, I32, I64, Ptr}
use Rattle.ir_types.specs.declared.scalar.Ext.{Ext}
use Rattle.ir_types.specs.declared.scalar.Ext.TheVariants as ext
use Rattle.ir_types.specs.declared.scalar.Flags.{Flags}
use Rattle.ir_types.specs.declared.scalar.FnType.{FnType}
use Rattle.ir_types.specs.declared.shape.Ty.{Ty, out-Ty}
use Rattle.ir_types.specs.declared.shape.Ty.TheBlock.{One}
use Rattle.ir_types.specs.declared.shape.Ty.TheOpen.{Ty-F}
use Rattle.ir_types.specs.declared.shape.Ty.TheFolds.{fold-Ty}
use Rattle.ir_syntax.specs.declared.constant.Const.{Const}
use Rattle.ir_syntax.specs.declared.constant.Const.TheOpen.{Const-F}
use Rattle.ir_syntax.specs.declared.constant.Const.TheFolds.{fold-Const}
use Rattle.ir_syntax.specs.declared.constant.Operand.{Operand}
use Rattle.ir_syntax.specs.declared.constant.Operand.TheVariants as operand
use Rattle.ir_syntax.specs.declared.body.Arg.{Arg}
use Rattle.ir_syntax.specs.declared.body.Phi.{Phi}
use Rattle.ir_syntax.specs.declared.body.Inst.{Inst}
use Rattle.ir_syntax.specs.declared.body.Inst.TheVariants as inst
use Rattle.ir_syntax.specs.declared.body.Term.{Term}
use Rattle.ir_syntax.specs.declared.body.Term.TheVariants as term
use Rattle.ir_syntax.specs.declared.body.Block.{Block}
use Rattle.ir_syntax.specs.declared.body.Body.{Body}
use Rattle.ir_syntax.specs.declared.item.Linkage.{Linkage}
use Rattle.ir_syntax.specs.declared.item.Linkage.TheVariants as linkage
use Rattle.ir_syntax.specs.declared.item.Param.{Param}
use Rattle.ir_syntax.specs.declared.item.Var.{Var}
use Rattle.ir_syntax.specs.declared.item.Func.{Func}
use Rattle.ir_syntax.specs.declared.item.Item.{Item}
use Rattle.ir_syntax.specs.declared.item.Item.TheVariants as item
use Rattle.ir_syntax.specs.declared.item.Module.{Module}
use Rattle.ir_syntax.specs.Results.{result_type, block_results}
use Rattle.ir_grammar.specs.declared.shape.Shape.TheVariants as is
use Rattle.ir_grammar.specs.declared.shape.Free.TheVariants as free
use Rattle.ir_grammar.specs.declared.shape.Flag.{Flag}
use Rattle.ir_grammar.specs.declared.shape.Flag.TheVariants as flag
use Rattle.ir_grammar.specs.declared.shape.Value.TheVariants as val
use Rattle.ir_grammar.specs.Numbers.{digits_shape}
use Rattle.ir_grammar.specs.Shapes.{at_shape}
use Rattle.ir_grammar.specs.Tokens.{Kept}
use Rattle.ir_writer.specs.Names.{quoted, name_text, name_at}
use Rattle.ir_writer.specs.Words.{scalar_text, op_text, cast_text, pred_text}
use Rattle.ir_writer.specs.Constants.{signed_text}
use Rattle.ir_writer.specs.Instructions.{param_text, result_text, block_text, is_whole}
use Rattle.ir_writer.specs.Modules.{item_names}

abbrev pub Lexemes : Type 0
Lexemes = List Kept

-- one list after another
abbrev pub joined : List Lexemes → Lexemes
joined lists = flat_map (λ ks. ks) lists

abbrev pub open_square_kept : Kept
open_square_kept = (is.OpenSquare, 91 ∷ [])

abbrev pub close_square_kept : Kept
close_square_kept = (is.CloseSquare, 93 ∷ [])

abbrev pub open_brace_kept : Kept
open_brace_kept = (is.OpenBrace, 123 ∷ [])

abbrev pub close_brace_kept : Kept
close_brace_kept = (is.CloseBrace, 125 ∷ [])

abbrev pub open_paren_kept : Kept
open_paren_kept = (is.OpenParen, 40 ∷ [])

abbrev pub close_paren_kept : Kept
close_paren_kept = (is.CloseParen, 41 ∷ [])

abbrev pub scalar_kept : Scalar → Kept
scalar_kept ty = (is.Scalar ty, scalar_text ty)

abbrev pub digits_kept : List ℕ → Kept
digits_kept text = (is.Int (digits_shape text), text)

abbrev pub local_kept : List ℕ → Kept
local_kept text = (is.Local, text)

abbrev pub name_kept : List ℕ → Kept
name_kept name = (is.At (at_shape name), 64 ∷ name_text name)

-- ---- types

abbrev pub type_kept_step : Ty-F Lexemes → Lexemes
type_kept_step (Ty-F.One ty) = scalar_kept ty ∷ []
type_kept_step (Ty-F.Array count element) = open_square_kept ∷ digits_kept (decimal count) ∷ element
type_kept_step (Ty-F.Struct fields) = open_brace_kept ∷ (joined fields ++ close_brace_kept ∷ [])

unfoldable pub type_kept : Ty → Lexemes
type_kept = fold-Ty Lexemes type_kept_step

-- ---- constants

abbrev pub integer_kept : Scalar → ℕ → Kept
integer_kept I1 n = if n == 0 then (is.Value val.False, codes "false") else (is.Value val.True, codes "true")
integer_kept I8 n = digits_kept (signed_text (2 ^ 7) n)
integer_kept I16 n = digits_kept (signed_text (2 ^ 15) n)
integer_kept I32 n = digits_kept (signed_text (2 ^ 31) n)
integer_kept I64 n = digits_kept (signed_text (2 ^ 63) n)
integer_kept Ptr n = digits_kept (decimal n)

abbrev pub symbol_kept : List (List ℕ) → ℕ → Kept
symbol_kept names place = name_kept (name_at names place)

abbrev pub address_kept : List (List ℕ) → ℕ → ℤ → Lexemes
address_kept names place (pos zero) = symbol_kept names place ∷ []
address_kept names place offset =
    (is.Address, codes "getelementptr") ∷ scalar_kept I8 ∷ symbol_kept names place ∷ scalar_kept I64 ∷ digits_kept (signed_decimal offset) ∷ close_paren_kept ∷ []

abbrev pub number_kept : Ty-F Ty → ℕ → Lexemes
number_kept (Ty-F.One ty) n = integer_kept ty n ∷ []
number_kept _ n = digits_kept (decimal n) ∷ []

abbrev pub part_kept : (Ty → Lexemes) → Ty → Lexemes
part_kept part ty = type_kept ty ++ part ty

abbrev pub fields_kept : List (Ty → Lexemes) → List Ty → List Lexemes
fields_kept [] tys = []
fields_kept (part ∷ parts) [] = []
fields_kept (part ∷ parts) (ty ∷ tys) = part_kept part ty ∷ fields_kept parts tys

abbrev pub many_kept : Ty-F Ty → List (Ty → Lexemes) → Lexemes
many_kept (Ty-F.One ty) parts = []
many_kept (Ty-F.Array count element) parts = open_square_kept ∷ (joined (map (λ part. part_kept part element) parts) ++ close_square_kept ∷ [])
many_kept (Ty-F.Struct fields) parts = open_brace_kept ∷ (joined (fields_kept parts fields) ++ close_brace_kept ∷ [])

abbrev pub constant_kept_step : List (List ℕ) → Const-F (Ty → Lexemes) → Ty → Lexemes
constant_kept_step names (Const-F.Int n) ty = number_kept (out-Ty ty) n
constant_kept_step names Const-F.Null ty = (is.Value val.Null, codes "null") ∷ []
constant_kept_step names (Const-F.Addr place offset) ty = address_kept names place offset
constant_kept_step names Const-F.Undef ty = (is.Value val.Undef, codes "undef") ∷ []
constant_kept_step names Const-F.Poison ty = (is.Value val.Poison, codes "poison") ∷ []
constant_kept_step names Const-F.Zero ty = (is.Value val.Zero, codes "zeroinitializer") ∷ []
constant_kept_step names (Const-F.Text bytes) ty = (is.CStr, 99 ∷ quoted bytes) ∷ []
constant_kept_step names (Const-F.Many parts) ty = many_kept (out-Ty ty) parts

unfoldable pub constant_kept : List (List ℕ) → Const → Ty → Lexemes
constant_kept names = fold-Const (Ty → Lexemes) (constant_kept_step names)

-- ---- operands

abbrev pub operand_kept : List (List ℕ) → Scalar → Operand → Lexemes
operand_kept names ty (operand.Param k) = local_kept (param_text k) ∷ []
operand_kept names ty (operand.Reg k) = local_kept (result_text k) ∷ []
operand_kept names ty (operand.Const constant) = constant_kept names constant (One ty)

abbrev pub typed_kept : List (List ℕ) → Scalar → Operand → Lexemes
typed_kept names ty value = scalar_kept ty ∷ operand_kept names ty value

abbrev pub pair_kept : List (List ℕ) → Scalar → Operand → Operand → Lexemes
pair_kept names ty a b = typed_kept names ty a ++ operand_kept names ty b

abbrev pub block_kept_name : ℕ → Kept
block_kept_name place = local_kept (block_text place)

abbrev pub align_kept : Option ℕ → Lexemes
align_kept None = []
align_kept (Some exponent) = digits_kept (decimal (2 ^ exponent)) ∷ []

abbrev pub flag_kept : Bool → Flag → List ℕ → Lexemes
flag_kept false flag text = []
flag_kept true flag text = (is.Free (free.Flag flag), text) ∷ []

abbrev pub flags_kept : Flags → Lexemes
flags_kept flags =
    flag_kept flags.nuw flag.Nuw (codes "nuw") ++ (flag_kept flags.nsw flag.Nsw (codes "nsw") ++ (flag_kept flags.exact flag.Exact (codes "exact") ++ flag_kept flags.disjoint flag.Disjoint (codes "disjoint")))

abbrev pub ext_kept : Ext → Lexemes
ext_kept ext.Plain = []
ext_kept ext.Signed = (is.Ext ext.Signed, codes "signext") ∷ []
ext_kept ext.Unsigned = (is.Ext ext.Unsigned, codes "zeroext") ∷ []

-- ---- calls

abbrev pub dots_kept : Bool → Lexemes
dots_kept false = []
dots_kept true = (is.Dots, codes "...") ∷ []

abbrev pub whole_kept : FnType → Lexemes
whole_kept fn_ty = open_paren_kept ∷ (map scalar_kept fn_ty.params ++ (dots_kept fn_ty.variadic ++ close_paren_kept ∷ []))

abbrev pub arg_kept : List (List ℕ) → Arg → Lexemes
arg_kept names arg = scalar_kept arg.ty ∷ (ext_kept arg.ext ++ operand_kept names arg.ty arg.value)

-- what a call returns
abbrev pub call_returned_kept : Option Scalar → Kept
call_returned_kept None = (is.Void, codes "void")
call_returned_kept (Some ty) = (is.Returned ty, scalar_text ty)

abbrev pub call_kept : List (List ℕ) → FnType → Ext → Operand → List Arg → Lexemes
call_kept names fn_ty ret_ext callee args =
    (is.Call, codes "call") ∷ (ext_kept ret_ext ++ call_returned_kept fn_ty.returns
    ∷ ((if is_whole fn_ty args then whole_kept fn_ty else []) ++ (operand_kept names Ptr callee ++ (joined (map (arg_kept names) args) ++ close_paren_kept ∷ []))))

-- ---- instructions

abbrev pub count_kept : ℕ → Lexemes
count_kept count = if count == 1 then [] else (scalar_kept I64 ∷ integer_kept I64 count ∷ [])

abbrev pub inst_kept : List (List ℕ) → Inst → Lexemes
inst_kept names (inst.Bin op flags ty a b) = (is.Bin op, op_text op) ∷ (flags_kept flags ++ pair_kept names ty a b)
inst_kept names (inst.Icmp pred ty a b) = (is.Icmp, codes "icmp") ∷ (is.Free (free.Pred pred), pred_text pred) ∷ pair_kept names ty a b
inst_kept names (inst.Select ty cond a b) = (is.Select, codes "select") ∷ (operand_kept names I1 cond ++ pair_kept names ty a b)
inst_kept names (inst.Cast op nneg from to a) = (is.Cast op, cast_text op) ∷ (flag_kept nneg flag.Nneg (codes "nneg") ++ (typed_kept names from a ++ scalar_kept to ∷ []))
inst_kept names (inst.Alloca ty count align) = (is.Alloca, codes "alloca") ∷ (type_kept ty ++ (count_kept count ++ align_kept align))
inst_kept names (inst.Load ty at align) = (is.Load, codes "load") ∷ scalar_kept ty ∷ (operand_kept names Ptr at ++ align_kept align)
inst_kept names (inst.Store ty value at align) = (is.Store, codes "store") ∷ (typed_kept names ty value ++ (operand_kept names Ptr at ++ align_kept align))
inst_kept names (inst.Gep inbounds ty base indices) =
    (is.Gep, codes "getelementptr") ∷ (flag_kept inbounds flag.Inbounds (codes "inbounds") ++ (type_kept ty
    ++ (operand_kept names Ptr base ++ joined (map (λ (index : Scalar × Operand). typed_kept names index.0 index.1) indices))))
inst_kept names (inst.Call fn_ty ret_ext callee args) = call_kept names fn_ty ret_ext callee args

abbrev pub entry_kept : List (List ℕ) → Scalar → Operand × ℕ → Lexemes
entry_kept names ty entry = open_square_kept ∷ (operand_kept names ty entry.0 ++ block_kept_name entry.1 ∷ [])

abbrev pub phi_kept : List (List ℕ) → Phi → Lexemes
phi_kept names phi = (is.Phi, codes "phi") ∷ scalar_kept phi.ty ∷ joined (map (entry_kept names phi.ty) phi.entries)

abbrev pub case_kept : Scalar → ℕ × ℕ → Lexemes
case_kept ty case = integer_kept ty case.0 ∷ block_kept_name case.1 ∷ []

abbrev pub term_kept : List (List ℕ) → Term → Lexemes
term_kept names term.RetVoid = (is.Ret, codes "ret") ∷ (is.Void, codes "void") ∷ []
term_kept names (term.Ret ty value) = (is.Ret, codes "ret") ∷ typed_kept names ty value
term_kept names (term.Br to) = (is.Br, codes "br") ∷ block_kept_name to ∷ []
term_kept names (term.CondBr cond one other) = (is.Br, codes "br") ∷ (typed_kept names I1 cond ++ block_kept_name one ∷ block_kept_name other ∷ [])
term_kept names (term.Switch ty value default cases) =
    (is.Switch, codes "switch") ∷ (typed_kept names ty value ++ block_kept_name default ∷ (joined (map (case_kept ty) cases) ++ close_square_kept ∷ []))
term_kept names term.Unreachable = (is.Unreachable, codes "unreachable") ∷ []

-- ---- lines

abbrev pub named_kept : ℕ → Lexemes → Lexemes
named_kept k ks = (is.Result, result_text k) ∷ ks

abbrev pub phi_lines_kept : List (List ℕ) → ℕ → List Phi → Lexemes
phi_lines_kept names k [] = []
phi_lines_kept names k (phi ∷ phis) = named_kept k (phi_kept names phi) ++ phi_lines_kept names (suc k) phis

abbrev pub inst_lines_kept : List (List ℕ) → ℕ → List Inst → Lexemes
inst_lines_kept names k [] = []
inst_lines_kept names k (i ∷ is) =
    if is_some (result_type i) then named_kept k (inst_kept names i) ++ inst_lines_kept names (suc k) is
    else inst_kept names i ++ inst_lines_kept names k is

abbrev pub block_kept : List (List ℕ) → ℕ → ℕ → Block → Lexemes
block_kept names place k block =
    (is.Label, (codes "b" ++ decimal place) ++ 58 ∷ []) ∷ (phi_lines_kept names k block.phis ++ (inst_lines_kept names (k + length block.phis) block.insts ++ term_kept names block.term))

abbrev pub blocks_kept : List (List ℕ) → ℕ → ℕ → List Block → Lexemes
blocks_kept names place k [] = []
blocks_kept names place k (block ∷ blocks) = block_kept names place k block ++ blocks_kept names (suc place) (k + length (block_results block)) blocks

-- from the opening brace on
abbrev pub body_kept : List (List ℕ) → Body → Lexemes
body_kept names body = open_brace_kept ∷ (blocks_kept names 0 0 body.blocks ++ close_brace_kept ∷ [])

-- ---- entities

abbrev pub target_kept : Kept → Option (List ℕ) → List Lexemes
target_kept part None = []
target_kept part (Some text) = (part ∷ (is.Str, quoted text) ∷ []) ∷ []

abbrev pub linkage_kept : Linkage → Lexemes
linkage_kept linkage.External = []
linkage_kept linkage.Internal = (is.Linkage linkage.Internal, codes "internal") ∷ []
linkage_kept linkage.Private = (is.Linkage linkage.Private, codes "private") ∷ []

abbrev pub var_word_kept : Bool → Kept
var_word_kept false = (is.Global, codes "global")
var_word_kept true = (is.ConstantWord, codes "constant")

abbrev pub valued_kept : List (List ℕ) → Var → Option Const → Lexemes
valued_kept names var None = (is.Linkage linkage.External, codes "external") ∷ var_word_kept var.constant ∷ type_kept var.ty
valued_kept names var (Some init) = linkage_kept var.linkage ++ var_word_kept var.constant ∷ (type_kept var.ty ++ constant_kept names init var.ty)

abbrev pub var_kept : List (List ℕ) → Var → Lexemes
var_kept names var = name_kept var.name ∷ (valued_kept names var var.init ++ align_kept var.align)

abbrev pub returned_kept : Option Scalar → Kept
returned_kept None = (is.Void, codes "void")
returned_kept (Some ty) = scalar_kept ty

abbrev pub declared_param_kept : Param → Lexemes
declared_param_kept param = scalar_kept param.ty ∷ ext_kept param.ext

abbrev pub defined_params_kept : ℕ → List Param → List Lexemes
defined_params_kept k [] = []
defined_params_kept k (param ∷ params) = (declared_param_kept param ++ local_kept (param_text k) ∷ []) ∷ defined_params_kept (suc k) params

-- what is returned, the name, and what stands between the parentheses
abbrev pub head_kept : Func → Lexemes → Lexemes
head_kept func params = ext_kept func.ret_ext ++ returned_kept func.returns ∷ name_kept func.name ∷ (params ++ close_paren_kept ∷ [])

abbrev pub func_kept : List (List ℕ) → Func → Option Body → Lexemes
func_kept names func None = (is.Declare, codes "declare") ∷ head_kept func (joined (map declared_param_kept func.params) ++ dots_kept func.variadic)
func_kept names func (Some body) =
    (is.Define, codes "define") ∷ (linkage_kept func.linkage ++ (head_kept func (joined (defined_params_kept 0 func.params)) ++ body_kept names body))

abbrev pub item_kept : List (List ℕ) → Item → Lexemes
item_kept names (item.Var var) = var_kept names var
item_kept names (item.Func func) = func_kept names func func.body

abbrev pub module_kept : Module → List Lexemes
module_kept m =
    target_kept (is.Free free.Datalayout, codes "datalayout") m.layout ++ (target_kept (is.Free free.Triple, codes "triple") m.triple ++ map (item_kept (item_names m)) m.items)
