-- Operands and blocks are read again, where constants and local names are.
use Rattle.std.proofs.Common.{◌≡◌, ◌∙◌, ℕ, ◌<◌, true, List, [], ◌∷◌, ◌++◌, length, Some, option_map, refl, ap}
use Rattle.std.proofs.lemmas.Bool.{false≢true}
use Rattle.ir_types.specs.declared.scalar.Scalar.{Scalar}
use Rattle.ir_types.specs.declared.shape.Ty.{Ty}
use Rattle.ir_types.specs.declared.shape.Ty.TheBlock.{One}
use Rattle.ir_syntax.specs.declared.constant.Const.{Const}
use Rattle.ir_syntax.specs.declared.constant.Operand.{Operand}
use Rattle.ir_syntax.specs.declared.constant.Operand.TheVariants as operand
use Rattle.ir_syntax.specs.Suits.{Suits, IsType, is_number_of}
use Rattle.ir_syntax.specs.FormedBody.{Places, IsOperand, names_intrinsic}
use Rattle.ir_grammar.specs.declared.shape.Shape.TheVariants as is
use Rattle.ir_scope.specs.Runs.{begins_with}
use Rattle.ir_scope.specs.Integers.{number}
use Rattle.ir_scope.specs.Types.{written_type}
use Rattle.ir_constants.specs.Constants.{constant_at}
use Rattle.ir_locals.specs.declared.local.Local.TheVariants.{Param, Reg, Block}
use Rattle.ir_locals.specs.Locals.{local_name, local_among, operand_in, block_in}
use Rattle.ir_operands.specs.Operands.{Names, operand_at, block_at}
use Rattle.ir_calls.specs.Calls.{calls_intrinsic}
use Rattle.ir_writer.specs.Instructions.{param_text, result_text, block_text}
use Rattle.ir_writer.specs.Ranges.{is_type_in_range, is_constant_in_range, is_operand_in_range}
use Rattle.round_trip.proofs.Grammar.Kept.{Lexemes, type_kept, integer_kept, constant_kept, operand_kept, block_kept_name}
use Rattle.round_trip.proofs.Lines.Operands.{NoDebug, begins_constant, constant_first}

-- What is written of constants and of local names is read again.
pub record NamesBack (names : List (List ℕ)) (N : Names) (places : Places) : Type 0 where
  pub constants : (ty : Scalar) (c : Const) → Suits (length places.items) (One ty) c → is_constant_in_range c ≡ true → (rest : Lexemes) →
      constant_at N.env (One ty) (constant_kept names c (One ty) ++ rest) ≡ Some (c, length (constant_kept names c (One ty)))
  pub params : (k : ℕ) → k < places.params → local_among N.locals (local_name (param_text k)) ≡ Some (Param k)
  pub results : (k : ℕ) → k < places.results → local_among N.locals (local_name (result_text k)) ≡ Some (Reg k)
  pub blocks : (k : ℕ) → k < places.blocks → local_among N.locals (local_name (block_text k)) ≡ Some (Block k)

-- What is written of operands, blocks, types and numbers is read again, and names say what is an intrinsic.
pub record ReadsBack (names : List (List ℕ)) (N : Names) (places : Places) : Type 0 where
  pub operands : (ty : Scalar) (value : Operand) → IsOperand places ty value → is_operand_in_range value ≡ true → (rest : Lexemes) →
      operand_at N ty (operand_kept names ty value ++ rest) ≡ Some (value, length (operand_kept names ty value))
  pub blocks : (place : ℕ) → place < places.blocks → (rest : Lexemes) → block_at N (block_kept_name place ∷ rest) ≡ Some (place, 1)
  pub types : (ty : Ty) → IsType ty → is_type_in_range ty ≡ true → (rest : Lexemes) → written_type N.env.types (type_kept ty ++ rest) ≡ Some (ty, length (type_kept ty))
  pub numbers : (ty : Scalar) (n : ℕ) → is_number_of ty n ≡ true → number ty (integer_kept ty n) ≡ Some n
  pub intrinsics : (callee : Operand) → calls_intrinsic N.env.symbols callee ≡ true → names_intrinsic places.items callee ≡ true
  pub plain : NoDebug names

-- Such lexemes are read as a constant.
constant_operand : (N : Names) (ty : Scalar) (ks rest : Lexemes) → begins_with begins_constant ks ≡ true →
    operand_at N ty (ks ++ rest) ≡ option_map (λ f. (operand.Const f.0, f.1)) (constant_at N.env (One ty) (ks ++ rest))
constant_operand N ty [] rest e = absurd (false≢true e)
constant_operand N ty ((is.Local, text) ∷ ks) rest e = absurd (false≢true e)
constant_operand N ty (k ∷ ks) rest e = refl

module _ (names : List (List ℕ)) (N : Names) (places : Places) (back : NamesBack names N places) where
  pub operand_back : (ty : Scalar) (value : Operand) → IsOperand places ty value → is_operand_in_range value ≡ true → (rest : Lexemes) →
      operand_at N ty (operand_kept names ty value ++ rest) ≡ Some (value, length (operand_kept names ty value))
  operand_back ty (operand.Param k) is_there has rest = ap (λ found. option_map (λ value. (value, 1)) (operand_in found)) (back.params k is_there)
  operand_back ty (operand.Reg k) is_there has rest = ap (λ found. option_map (λ value. (value, 1)) (operand_in found)) (back.results k is_there)
  operand_back ty (operand.Const c) suited has rest =
      constant_operand N ty (constant_kept names c (One ty)) rest (constant_first names (length places.items) ty c suited)
      ∙ ap (option_map (λ f. (operand.Const f.0, f.1))) (back.constants ty c suited has rest)

  pub block_back : (place : ℕ) → place < places.blocks → (rest : Lexemes) → block_at N (block_kept_name place ∷ rest) ≡ Some (place, 1)
  block_back place less rest = ap (λ found. option_map (λ place. (place, 1)) (block_in found)) (back.blocks place less)
