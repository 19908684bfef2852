-- Instructions, terminators and blocks as they are written.
use Rattle.std.specs.Prelude.{ℕ, suc, ◌+◌, ◌^◌, Bool, true, false, not, ◌&&◌, ◌||◌, ◌==◌, codes, is_some, List, [], ◌∷◌, ◌++◌, length, map, flat_map, Option, Some, None, if◌then◌else◌}
use Rattle.std.specs.Fmt.{decimal}
use Rattle.ir_lexer.specs.declared.token.Kind.TheVariants as kind
use Rattle.ir_lexer.specs.Written.{Part, Spelling}
use Rattle.ir_types.specs.declared.scalar.Scalar.{Scalar}
use Rattle.ir_types.specs.declared.scalar.Scalar.TheVariants.{I1, I64, Ptr}
use Rattle.ir_types.specs.declared.scalar.Ext.{Ext}
use Rattle.ir_types.specs.declared.scalar.Flags.{Flags}
use Rattle.ir_types.specs.declared.scalar.FnType.{FnType}
use Rattle.ir_types.specs.declared.shape.Ty.TheBlock.{One}
use Rattle.ir_types.specs.Scalars.{same}
use Rattle.ir_syntax.specs.declared.constant.Operand.{Operand}
use Rattle.ir_syntax.specs.declared.constant.Operand.TheVariants as operand
use Rattle.ir_syntax.specs.declared.body.Arg.{Arg}
use Rattle.ir_syntax.specs.declared.body.Phi.{Phi}
use Rattle.ir_syntax.specs.declared.body.Inst.{Inst}
use Rattle.ir_syntax.specs.declared.body.Inst.TheVariants as inst
use Rattle.ir_syntax.specs.declared.body.Term.{Term}
use Rattle.ir_syntax.specs.declared.body.Term.TheVariants as term
use Rattle.ir_syntax.specs.declared.body.Block.{Block}
use Rattle.ir_syntax.specs.Results.{result_type, block_results}
use Rattle.ir_writer.specs.Words.{Parts, space, line_end, word, comma, equals, open_paren, close_paren, open_square, close_square, listed, more, scalar, returned, op_text, cast_text, pred_text, said, ext_before, ext_behind}
use Rattle.ir_writer.specs.Constants.{type_parts, constant_parts, integer}

-- ---- operands: %a0, %a1 are the parameters, %v0, %v1 the results and b0, b1 the blocks, in order

abbrev pub param_text : ℕ → List ℕ
param_text k = codes "%a" ++ decimal k

abbrev pub result_text : ℕ → List ℕ
result_text k = codes "%v" ++ decimal k

abbrev pub block_text : ℕ → List ℕ
block_text k = codes "%b" ++ decimal k

abbrev pub local : List ℕ → Part
local text = Spelling kind.LocalName text

abbrev pub operand_parts : List (List ℕ) → Scalar → Operand → Parts
operand_parts names ty (operand.Param k) = local (param_text k) ∷ []
operand_parts names ty (operand.Reg k) = local (result_text k) ∷ []
operand_parts names ty (operand.Const constant) = constant_parts names constant (One ty)

-- T a
abbrev pub typed : List (List ℕ) → Scalar → Operand → Parts
typed names ty value = scalar ty ∷ space ∷ operand_parts names ty value

-- T a, b
abbrev pub pair : List (List ℕ) → Scalar → Operand → Operand → Parts
pair names ty a b = typed names ty a ++ comma ∷ space ∷ operand_parts names ty b

-- label %b
abbrev pub jump : ℕ → Parts
jump place = word (codes "label") ∷ space ∷ local (block_text place) ∷ []

-- , align n
abbrev pub align_parts : Option ℕ → Parts
align_parts None = []
align_parts (Some exponent) = comma ∷ space ∷ word (codes "align") ∷ space ∷ Spelling kind.Int (decimal (2 ^ exponent)) ∷ []

abbrev pub flag_parts : Flags → Parts
flag_parts flags = said flags.nuw (codes "nuw") ++ (said flags.nsw (codes "nsw") ++ (said flags.exact (codes "exact") ++ said flags.disjoint (codes "disjoint")))

-- ---- calls

abbrev pub same_types : List Scalar → List Scalar → Bool
same_types [] [] = true
same_types [] (ty ∷ tys) = false
same_types (ty ∷ tys) [] = false
same_types (ty ∷ tys) (other ∷ others) = same ty other && same_types tys others

-- The whole type is written where more arguments may follow, or the arguments' types aren't those of the parameters.
abbrev pub is_whole : FnType → List Arg → Bool
is_whole fn_ty args = fn_ty.variadic || not (same_types fn_ty.params (map (λ (arg : Arg). arg.ty) args))

-- ... where more may follow
abbrev pub dots : Bool → List Parts
dots false = []
dots true = (word (codes "...") ∷ []) ∷ []

-- (T, T, ...) and a blank
abbrev pub whole_parts : FnType → Parts
whole_parts fn_ty = open_paren ∷ (listed (map (λ ty. scalar ty ∷ []) fn_ty.params ++ dots fn_ty.variadic) ++ close_paren ∷ space ∷ [])

-- T signext a
abbrev pub arg_parts : List (List ℕ) → Arg → Parts
arg_parts names arg = scalar arg.ty ∷ (ext_behind arg.ext ++ space ∷ operand_parts names arg.ty arg.value)

abbrev pub call_parts : List (List ℕ) → FnType → Ext → Operand → List Arg → Parts
call_parts names fn_ty ret_ext callee args =
    word (codes "call") ∷ space ∷ (ext_before ret_ext ++ returned fn_ty.returns ∷ space
    ∷ ((if is_whole fn_ty args then whole_parts fn_ty else []) ++ (operand_parts names Ptr callee ++ open_paren ∷ (listed (map (arg_parts names) args) ++ close_paren ∷ []))))

-- ---- instructions

-- , i64 n, unless the count is 1
abbrev pub count_parts : ℕ → Parts
count_parts count = if count == 1 then [] else (comma ∷ space ∷ scalar I64 ∷ space ∷ integer I64 count ∷ [])

abbrev pub inst_parts : List (List ℕ) → Inst → Parts
inst_parts names (inst.Bin op flags ty a b) = word (op_text op) ∷ space ∷ (flag_parts flags ++ pair names ty a b)
inst_parts names (inst.Icmp pred ty a b) = word (codes "icmp") ∷ space ∷ word (pred_text pred) ∷ space ∷ pair names ty a b
inst_parts names (inst.Select ty cond a b) = word (codes "select") ∷ space ∷ (typed names I1 cond ++ comma ∷ space ∷ (typed names ty a ++ comma ∷ space ∷ typed names ty b))
inst_parts names (inst.Cast op nneg from to a) = word (cast_text op) ∷ space ∷ (said nneg (codes "nneg") ++ (typed names from a ++ space ∷ word (codes "to") ∷ space ∷ scalar to ∷ []))
inst_parts names (inst.Alloca ty count align) = word (codes "alloca") ∷ space ∷ (type_parts ty ++ (count_parts count ++ align_parts align))
inst_parts names (inst.Load ty at align) = word (codes "load") ∷ space ∷ scalar ty ∷ comma ∷ space ∷ (typed names Ptr at ++ align_parts align)
inst_parts names (inst.Store ty value at align) = word (codes "store") ∷ space ∷ (typed names ty value ++ comma ∷ space ∷ (typed names Ptr at ++ align_parts align))
inst_parts names (inst.Gep inbounds ty base indices) =
    word (codes "getelementptr") ∷ space ∷ (said inbounds (codes "inbounds") ++ (type_parts ty ++ comma ∷ space
    ∷ (typed names Ptr base ++ more (map (λ (index : Scalar × Operand). typed names index.0 index.1) indices))))
inst_parts names (inst.Call fn_ty ret_ext callee args) = call_parts names fn_ty ret_ext callee args

-- [ a, %b ]
abbrev pub entry_parts : List (List ℕ) → Scalar → Operand × ℕ → Parts
entry_parts names ty entry = open_square ∷ space ∷ (operand_parts names ty entry.0 ++ comma ∷ space ∷ local (block_text entry.1) ∷ space ∷ close_square ∷ [])

-- phi T [ a, %b ], [ a, %b ]
abbrev pub phi_parts : List (List ℕ) → Phi → Parts
phi_parts names phi = word (codes "phi") ∷ space ∷ scalar phi.ty ∷ space ∷ listed (map (entry_parts names phi.ty) phi.entries)

-- T c, label %b and a blank
abbrev pub case_parts : Scalar → ℕ × ℕ → Parts
case_parts ty case = scalar ty ∷ space ∷ integer ty case.0 ∷ comma ∷ space ∷ (jump case.1 ++ space ∷ [])

abbrev pub term_parts : List (List ℕ) → Term → Parts
term_parts names term.RetVoid = word (codes "ret") ∷ space ∷ word (codes "void") ∷ []
term_parts names (term.Ret ty value) = word (codes "ret") ∷ space ∷ typed names ty value
term_parts names (term.Br to) = word (codes "br") ∷ space ∷ jump to
term_parts names (term.CondBr cond one other) = word (codes "br") ∷ space ∷ (typed names I1 cond ++ comma ∷ space ∷ (jump one ++ comma ∷ space ∷ jump other))
term_parts names (term.Switch ty value default cases) =
    word (codes "switch") ∷ space ∷ (typed names ty value ++ comma ∷ space ∷ (jump default ++ space ∷ open_square ∷ space ∷ (flat_map (case_parts ty) cases ++ close_square ∷ [])))
term_parts names term.Unreachable = word (codes "unreachable") ∷ []

-- ---- lines

-- two blanks, what is said, and the end of the line
abbrev pub line : Parts → Parts
line parts = space ∷ space ∷ (parts ++ line_end ∷ [])

-- %v = and what is said
abbrev pub named : ℕ → Parts → Parts
named k parts = local (result_text k) ∷ space ∷ equals ∷ space ∷ parts

-- the lines of phis, whose results are numbered from k on
abbrev pub phi_lines : List (List ℕ) → ℕ → List Phi → Parts
phi_lines names k [] = []
phi_lines names k (phi ∷ phis) = line (named k (phi_parts names phi)) ++ phi_lines names (suc k) phis

-- the same of instructions, of which not all have a result
abbrev pub inst_lines : List (List ℕ) → ℕ → List Inst → Parts
inst_lines names k [] = []
inst_lines names k (i ∷ is) =
    if is_some (result_type i) then line (named k (inst_parts names i)) ++ inst_lines names (suc k) is
    else line (inst_parts names i) ++ inst_lines names k is

abbrev pub label : ℕ → Part
label place = Spelling kind.Label ((codes "b" ++ decimal place) ++ 58 ∷ [])

-- the block at a place, whose results are numbered from k on
abbrev pub block_parts : List (List ℕ) → ℕ → ℕ → Block → Parts
block_parts names place k block =
    label place ∷ line_end ∷ (phi_lines names k block.phis ++ (inst_lines names (k + length block.phis) block.insts ++ line (term_parts names block.term)))

abbrev pub blocks_parts : List (List ℕ) → ℕ → ℕ → List Block → Parts
blocks_parts names place k [] = []
blocks_parts names place k (block ∷ blocks) = block_parts names place k block ++ blocks_parts names (suc place) (k + length (block_results block)) blocks
