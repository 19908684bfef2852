-- Parts of instructions.
use Rattle.std.specs.Prelude.{ℕ, Bool}
use Rattle.ir_types.specs.declared.scalar.Scalar.{Scalar}
use Rattle.ir_types.specs.declared.scalar.Scalar.TheVariants.{Ptr}
use Rattle.ir_types.specs.declared.shape.Ty.{Ty}
use Rattle.ir_syntax.specs.declared.constant.Operand.{Operand}
use Rattle.ir_syntax.specs.declared.body.Inst.{Inst}
use Rattle.ir_scope.specs.Runs.{Reading, runs}
use Rattle.ir_scope.specs.Types.{written_type}
use Rattle.ir_operands.specs.Operands.{Names, operand_at, then_at, typed}
use Rattle.ir_insts.specs.Insts.{is_integer, count_at, made_gep}

-- type [ , iN count ]
abbrev pub typed_count_at : Names → Reading (Ty × ℕ)
typed_count_at names ks = then_at (λ ty count. (ty, count)) ks count_at (written_type names.env.types ks)

-- T v, ptr p
abbrev pub typed_store_at : Names → Reading ((Scalar × Operand) × Operand)
typed_store_at names ks = then_at (λ f at. (f, at)) ks (operand_at names Ptr) (typed (operand_at names) ks)

-- type, ptr p
abbrev pub typed_base_at : Names → Reading (Ty × Operand)
typed_base_at names ks = then_at (λ ty base. (ty, base)) ks (operand_at names Ptr) (written_type names.env.types ks)

-- type, ptr p, iN i
abbrev pub indexed_at : Names → Bool → Reading Inst
indexed_at names inbounds ks = then_at (made_gep inbounds) ks (runs is_integer (typed (operand_at names))) (typed_base_at names ks)
