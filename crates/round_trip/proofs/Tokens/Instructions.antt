-- Operands, instructions and terminators that are written can be read.
use Rattle.std.proofs.Common.{ℕ, ◌^◌, Bool, true, false, cond, codes, List, [], ◌∷◌, ◌++◌, map, flat_map, Option, Some, None, refl, eqb}
use Rattle.std.proofs.lemmas.Bool.{cond_both}
use Rattle.ir_lexer.specs.Signs.{begins_word, begins_name, is_name_byte}
use Rattle.ir_lexer.specs.Spelled.{is_word}
use Rattle.ir_types.specs.declared.scalar.Scalar.{Scalar}
use Rattle.ir_types.specs.declared.scalar.Scalar.TheVariants.{I1, I64, Ptr}
use Rattle.ir_types.specs.declared.scalar.Ext.{Ext}
use Rattle.ir_types.specs.declared.scalar.Flags.{Flags}
use Rattle.ir_types.specs.declared.scalar.FnType.{FnType}
use Rattle.ir_types.specs.declared.shape.Ty.TheBlock.{One}
use Rattle.ir_syntax.specs.declared.constant.Operand.{Operand}
use Rattle.ir_syntax.specs.declared.constant.Operand.TheVariants as operand
use Rattle.ir_syntax.specs.declared.body.Arg.{Arg}
use Rattle.ir_syntax.specs.declared.body.Phi.{Phi}
use Rattle.ir_syntax.specs.declared.body.Inst.{Inst}
use Rattle.ir_syntax.specs.declared.body.Inst.TheVariants as inst
use Rattle.ir_syntax.specs.declared.body.Term.{Term}
use Rattle.ir_syntax.specs.declared.body.Term.TheVariants as term
use Rattle.ir_writer.specs.Words.{Parts, space, word, comma, close_paren, close_square, listed, scalar, said, ext_before, ext_behind}
use Rattle.ir_writer.specs.Constants.{type_parts, integer}
use Rattle.ir_writer.specs.Instructions.{operand_parts, block_text, local, typed, pair, align_parts, flag_parts, is_whole, dots, whole_parts, arg_parts, call_parts, count_parts, inst_parts, entry_parts, phi_parts, case_parts, term_parts}
use Rattle.round_trip.proofs.Tokens.Parts.{Reads, Follows, nothing, no_parts, token, joined, joined_behind, closed, spaced, comma_spaced, word_spaced, EachReads, each_mapped, each_behind, more_follow, listed_read, flat_read}
use Rattle.round_trip.proofs.Tokens.Words.{open_paren_follows, close_paren_follows, open_square_read, close_square_follows, scalar_reads, returned_reads, op_word, cast_word, pred_word, said_reads, ext_reads, ext_follows, param_reads, result_reads, block_reads, decimal_reads, integer_reads}
use Rattle.round_trip.proofs.Tokens.Constants.{type_reads, constant_reads}

-- label %b
jump_reads : {wants : Bool} {parts : Parts} (place : ℕ) → Follows wants parts → Reads wants (word (codes "label") ∷ space ∷ local (block_text place) ∷ parts)
unfolding is_word begins_word begins_name is_name_byte
jump_reads place behind = word_spaced refl (block_reads place behind)

pub align_follows : (align : Option ℕ) → Follows true (align_parts align)
unfolding is_word begins_word begins_name is_name_byte
align_follows None = nothing
align_follows (Some exponent) = comma_spaced (word_spaced refl (decimal_reads (2 ^ exponent) nothing))

flags_read : (flags : Flags) → Reads false (flag_parts flags)
unfolding is_word begins_word begins_name is_name_byte
flags_read flags =
    closed (said flags.nuw (codes "nuw")) _ (said_reads flags.nuw (codes "nuw") refl)
    (closed (said flags.nsw (codes "nsw")) _ (said_reads flags.nsw (codes "nsw") refl)
    (closed (said flags.exact (codes "exact")) (said flags.disjoint (codes "disjoint")) (said_reads flags.exact (codes "exact") refl) (said_reads flags.disjoint (codes "disjoint") refl)))

count_follows : (count : ℕ) → Follows true (count_parts count)
count_follows count = cond_both (eqb count 1) [] (comma ∷ space ∷ scalar I64 ∷ space ∷ integer I64 count ∷ []) (Follows true) (λ _. nothing) (λ _. comma_spaced (scalar_reads I64 (spaced (integer_reads I64 count nothing))))

pub dots_read : (variadic : Bool) → EachReads (dots variadic)
unfolding is_word begins_word begins_name is_name_byte
dots_read false = tt
dots_read true = (token refl nothing, tt)

whole_read : (fn_ty : FnType) → Reads false (whole_parts fn_ty)
whole_read fn_ty =
    let each = each_behind (map (λ ty. scalar ty ∷ []) fn_ty.params) (dots fn_ty.variadic) (each_mapped (λ ty. scalar ty ∷ []) fn_ty.params (λ ty. scalar_reads ty nothing)) (dots_read fn_ty.variadic) in
    (open_paren_follows (joined (listed (map (λ ty. scalar ty ∷ []) fn_ty.params ++ dots fn_ty.variadic)) (close_paren ∷ space ∷ []) (listed_read _ each) (close_paren_follows (spaced no_parts).reads))).reads

module _ (names : List (List ℕ)) where
  operand_reads : (ty : Scalar) (value : Operand) → Reads true (operand_parts names ty value)
  operand_reads ty (operand.Param k) = param_reads k nothing
  operand_reads ty (operand.Reg k) = result_reads k nothing
  operand_reads ty (operand.Const constant) = constant_reads names constant (One ty)

  typed_reads : (ty : Scalar) (value : Operand) → Reads true (typed names ty value)
  typed_reads ty value = scalar_reads ty (spaced (operand_reads ty value))

  pair_reads : (ty : Scalar) (a b : Operand) → Reads true (pair names ty a b)
  pair_reads ty a b = joined (typed names ty a) (comma ∷ space ∷ operand_parts names ty b) (typed_reads ty a) (comma_spaced (operand_reads ty b))

  -- ---- calls

  arg_reads : (arg : Arg) → Reads true (arg_parts names arg)
  arg_reads arg = scalar_reads arg.ty (joined_behind (ext_behind arg.ext) (space ∷ operand_parts names arg.ty arg.value) (ext_follows arg.ext) (spaced (operand_reads arg.ty arg.value)))

  whole_or_none : (whole : Bool) (fn_ty : FnType) → Reads false (cond whole (whole_parts fn_ty) [])
  whole_or_none true fn_ty = whole_read fn_ty
  whole_or_none false fn_ty = no_parts

  call_reads : (fn_ty : FnType) (ret_ext : Ext) (callee : Operand) (args : List Arg) → Reads true (call_parts names fn_ty ret_ext callee args)
  unfolding is_word begins_word begins_name is_name_byte
  call_reads fn_ty ret_ext callee args =
      let arguments = open_paren_follows (joined (listed (map (arg_parts names) args)) (close_paren ∷ []) (listed_read _ (each_mapped (arg_parts names) args arg_reads)) (close_paren_follows nothing.reads)) in
      let called = joined (operand_parts names Ptr callee) _ (operand_reads Ptr callee) arguments in
      let typed = closed (cond (is_whole fn_ty args) (whole_parts fn_ty) []) _ (whole_or_none (is_whole fn_ty args) fn_ty) called in
      word_spaced refl (closed (ext_before ret_ext) _ (ext_reads ret_ext) (returned_reads fn_ty.returns (spaced typed)))

  -- ---- instructions

  aligned_read : (parts : Parts) (align : Option ℕ) → Reads true parts → Reads true (parts ++ align_parts align)
  aligned_read parts align reads = joined parts (align_parts align) reads (align_follows align)

  pub inst_reads : (i : Inst) → Reads true (inst_parts names i)
  unfolding is_word begins_word begins_name is_name_byte
  inst_reads (inst.Bin op flags ty a b) = word_spaced (op_word op) (closed (flag_parts flags) (pair names ty a b) (flags_read flags) (pair_reads ty a b))
  inst_reads (inst.Icmp pred ty a b) = word_spaced refl (word_spaced (pred_word pred) (pair_reads ty a b))
  inst_reads (inst.Select ty cond a b) =
      word_spaced refl
      (joined (typed names I1 cond) _ (typed_reads I1 cond) (comma_spaced (joined (typed names ty a) (comma ∷ space ∷ typed names ty b) (typed_reads ty a) (comma_spaced (typed_reads ty b)))))
  inst_reads (inst.Cast op nneg from to a) =
      word_spaced (cast_word op)
      (closed (said nneg (codes "nneg")) _ (said_reads nneg (codes "nneg") refl)
      (joined (typed names from a) (space ∷ word (codes "to") ∷ space ∷ scalar to ∷ []) (typed_reads from a) (spaced (word_spaced refl (scalar_reads to nothing)))))
  inst_reads (inst.Alloca ty count align) =
      word_spaced refl (joined (type_parts ty) (count_parts count ++ align_parts align) (type_reads ty) (joined_behind (count_parts count) (align_parts align) (count_follows count) (align_follows align)))
  inst_reads (inst.Load ty at align) = word_spaced refl (scalar_reads ty (comma_spaced (aligned_read (typed names Ptr at) align (typed_reads Ptr at))))
  inst_reads (inst.Store ty value at align) =
      word_spaced refl (joined (typed names ty value) _ (typed_reads ty value) (comma_spaced (aligned_read (typed names Ptr at) align (typed_reads Ptr at))))
  inst_reads (inst.Gep inbounds ty base indices) =
      let each = each_mapped (λ (index : Scalar × Operand). typed names index.0 index.1) indices (λ index. typed_reads index.0 index.1) in
      let based = joined (typed names Ptr base) _ (typed_reads Ptr base) (more_follow _ each) in
      word_spaced refl (closed (said inbounds (codes "inbounds")) _ (said_reads inbounds (codes "inbounds") refl) (joined (type_parts ty) _ (type_reads ty) (comma_spaced based)))
  inst_reads (inst.Call fn_ty ret_ext callee args) = call_reads fn_ty ret_ext callee args

  entry_reads : (ty : Scalar) (entry : Operand × ℕ) → Reads true (entry_parts names ty entry)
  entry_reads ty entry =
      open_square_read
      (spaced (joined (operand_parts names ty entry.0) _ (operand_reads ty entry.0) (comma_spaced (block_reads entry.1 (spaced (close_square_follows nothing.reads).reads))))).reads

  pub phi_reads : (phi : Phi) → Reads true (phi_parts names phi)
  unfolding is_word begins_word begins_name is_name_byte
  phi_reads phi = word_spaced refl (scalar_reads phi.ty (spaced (listed_read _ (each_mapped (entry_parts names phi.ty) phi.entries (entry_reads phi.ty)))))

  case_reads : (ty : Scalar) (case : ℕ × ℕ) → Reads false (case_parts ty case)
  case_reads ty case = scalar_reads ty (spaced (integer_reads ty case.0 (comma_spaced (jump_reads case.1 (spaced no_parts)))))

  pub term_reads : (t : Term) → Reads true (term_parts names t)
  unfolding is_word begins_word begins_name is_name_byte
  term_reads term.RetVoid = word_spaced refl (token refl nothing)
  term_reads (term.Ret ty value) = word_spaced refl (typed_reads ty value)
  term_reads (term.Br to) = word_spaced refl (jump_reads to nothing)
  term_reads (term.CondBr cond one other) =
      word_spaced refl (joined (typed names I1 cond) _ (typed_reads I1 cond) (comma_spaced (jump_reads one (comma_spaced (jump_reads other nothing)))))
  term_reads (term.Switch ty value default cases) =
      let listing = closed (flat_map (case_parts ty) cases) (close_square ∷ []) (flat_read (case_parts ty) cases (case_reads ty)) (close_square_follows nothing.reads).reads in
      word_spaced refl (joined (typed names ty value) _ (typed_reads ty value) (comma_spaced (jump_reads default (spaced (open_square_read (spaced listing).reads)))))
  term_reads term.Unreachable = token refl nothing
