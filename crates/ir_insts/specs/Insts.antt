-- Instructions that aren't calls, behind their words.
use Rattle.std.specs.Prelude.{ℕ, Bool, true, false, not, List, [], ◌∷◌, drop, Option, Some, None, option_map, if◌then◌else◌}
use Rattle.ir_types.specs.declared.scalar.Scalar.{Scalar}
use Rattle.ir_types.specs.declared.scalar.Scalar.TheVariants.{I1, Ptr}
use Rattle.ir_types.specs.declared.scalar.CastOp.{CastOp}
use Rattle.ir_types.specs.declared.scalar.BinOp.{BinOp}
use Rattle.ir_types.specs.declared.shape.Ty.{Ty}
use Rattle.ir_syntax.specs.declared.constant.Operand.{Operand}
use Rattle.ir_syntax.specs.declared.body.Inst.{Inst}
use Rattle.ir_syntax.specs.declared.body.Inst.TheVariants as inst
use Rattle.ir_syntax.specs.Suits.{is_pointer}
use Rattle.ir_grammar.specs.declared.shape.Shape.{Shape}
use Rattle.ir_grammar.specs.declared.shape.Shape.TheVariants as is
use Rattle.ir_grammar.specs.declared.shape.Free.TheVariants as free
use Rattle.ir_grammar.specs.Tokens.{Kept}
use Rattle.ir_scope.specs.Runs.{Reading, behind, runs}
use Rattle.ir_scope.specs.Integers.{number}
use Rattle.ir_scope.specs.Types.{written_type}
use Rattle.ir_operands.specs.Operands.{Names, operand_at, then_at, typed, pair_at, flags_at, allows, nneg_at, allows_nneg, inbounds_at, aligned}
use Rattle.ir_operands.specs.Marks.{scalar_at}

-- op flags T a, b, where the operation has these flags
abbrev pub bin_at : Names → BinOp → Reading Inst
bin_at names op ks =
    let flags = flags_at ks in
    if allows op flags.0
    then behind flags.1 (option_map (λ f. (inst.Bin op flags.0 f.0.0 f.0.1.0 f.0.1.1, f.1)) (typed (pair_at names) (drop flags.1 ks)))
    else None

-- icmp pred T a, b
abbrev pub icmp_at : Names → Reading Inst
icmp_at names ((is.Free (free.Pred pred), text) ∷ ks) = behind 1 (option_map (λ f. (inst.Icmp pred f.0.0 f.0.1.0 f.0.1.1, f.1)) (typed (pair_at names) ks))
icmp_at names _ = None

-- select i1 c, T a, T b
abbrev pub select_at : Names → Reading Inst
select_at names ks = then_at (λ cond f. inst.Select f.0 cond f.1.0 f.1.1) ks (typed (pair_at names)) (operand_at names I1 ks)

-- zext [nneg] T a to U
abbrev pub cast_at : Names → CastOp → Reading Inst
cast_at names op ks =
    let nneg = nneg_at ks in
    if allows_nneg op nneg.0
    then behind nneg.1 (then_at (λ f to. inst.Cast op nneg.0 f.0 to f.1) (drop nneg.1 ks) scalar_at (typed (operand_at names) (drop nneg.1 ks)))
    else None

-- [ , iN count ], 1 where there is none
abbrev pub count_at : List Kept → Option (ℕ × ℕ)
count_at ((is.Scalar ty, text) ∷ k ∷ ks) = option_map (λ n. (n, 2)) (number ty k)
count_at ((is.Scalar ty, text) ∷ []) = None
count_at _ = Some (1, 0)

abbrev pub made_alloca : Ty × ℕ → Option ℕ → Inst
made_alloca f align = inst.Alloca f.0 f.1 align

-- alloca type [ , iN count ] [ , align n ]
abbrev pub alloca_at : Names → Reading Inst
alloca_at names ks = aligned made_alloca ks (then_at (λ ty count. (ty, count)) ks count_at (written_type names.env.types ks))

abbrev pub made_load : Scalar × Operand → Option ℕ → Inst
made_load f align = inst.Load f.0 f.1 align

-- load T, ptr p [ , align n ]
abbrev pub load_at : Names → Reading Inst
load_at names ks = aligned made_load ks (typed (λ ty. operand_at names Ptr) ks)

abbrev pub made_store : (Scalar × Operand) × Operand → Option ℕ → Inst
made_store f align = inst.Store f.0.0 f.0.1 f.1 align

-- T v, ptr p [ , align n ]
abbrev pub store_at : Names → Reading Inst
store_at names ks =
    aligned made_store ks (then_at (λ f at. (f, at)) ks (operand_at names Ptr) (typed (operand_at names) ks))

-- an integer type
abbrev pub is_integer : Shape → Bool
is_integer (is.Scalar ty) = not (is_pointer ty)
is_integer _ = false

abbrev pub made_gep : Bool → Ty × Operand → List (Scalar × Operand) → Inst
made_gep inbounds f indices = inst.Gep inbounds f.0 f.1 indices

-- getelementptr [inbounds] type, ptr p, iN i
abbrev pub gep_at : Names → Reading Inst
gep_at names ks =
    let inbounds = inbounds_at ks in
    let rest = drop inbounds.1 ks in
    behind inbounds.1
    (then_at (made_gep inbounds.0) rest (runs is_integer (typed (operand_at names)))
    (then_at (λ ty base. (ty, base)) rest (operand_at names Ptr) (written_type names.env.types rest)))
