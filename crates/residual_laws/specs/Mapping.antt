-- Bodies that are written with other operands: other names and other parameters in the place of those of a body.
use Rattle.std.specs.Prelude.{◌≡◌, Contains, map}
use Rattle.ir_types.specs.declared.scalar.Scalar.{Scalar}
use Rattle.ir_syntax.specs.declared.constant.Operand.{Operand}
use Rattle.ir_syntax.specs.declared.body.Block.{Block}
use Rattle.ir_syntax.specs.declared.body.Body.{Body}
use Rattle.ir_syntax.specs.declared.body.Inst.{Inst}
use Rattle.ir_syntax.specs.declared.body.Inst.TheVariants.{Bin, Icmp, Select, Cast, Alloca, Load, Store, Gep, Call}
use Rattle.ir_syntax.specs.Definite.{Use, uses}
use Rattle.ir_syntax.specs.Edges.{successors}
use Rattle.ir_syntax.specs.FormedBody.{Places, IsOperand, FormedInst}
use Rattle.ir_syntax.specs.Mapped.{map_phi, map_term}
use Rattle.ir_syntax.specs.Results.{block_results}
use Rattle.ir_syntax.specs.Typed.{Types, HasType, TypedInst, number_of}

-- Operands of the one body are, as they are mapped, operands of the other and of the same type; and what is a number stays that
-- number.
pub record Keeps (places : Places) (types : Types) (later : Places) (typed : Types) (f : Operand → Operand) : Type 0 where
  pub operands : (ty : Scalar) (o : Operand) → IsOperand places ty o → HasType types ty o → IsOperand later ty (f o) × HasType typed ty (f o)
  pub numbers : (o : Operand) → number_of (f o) ≡ number_of o
  pub blocks : later.blocks ≡ places.blocks

abbrev pub IsNoCall : Inst → Type 0
IsNoCall (Bin op flags ty a b) = Unit {0}
IsNoCall (Icmp pred ty a b) = Unit {0}
IsNoCall (Select ty cond a b) = Unit {0}
IsNoCall (Cast op nneg from to a) = Unit {0}
IsNoCall (Alloca ty count align) = Unit {0}
IsNoCall (Load ty at align) = Unit {0}
IsNoCall (Store ty value at align) = Unit {0}
IsNoCall (Gep inbounds ty base indices) = Unit {0}
IsNoCall (Call fn_ty ret_ext callee args) = ⊥

-- The blocks of the other body have the same results, go to the same blocks, and have no other uses.
pub record IsLikeIn (before after : Body) : Type 0 where
  pub results : map block_results after.blocks ≡ map block_results before.blocks
  pub ways : map (λ block. successors block.term) after.blocks ≡ map (λ block. successors block.term) before.blocks
  pub uses : (u : Use) → Contains (uses after.blocks) u → Contains (uses before.blocks) u

-- Instructions that are formed and typed become such of the other body.
abbrev pub IsKeptBy : Places → Types → Places → Types → (Inst → Inst) → Type 0
IsKeptBy places types later typed g = (inst : Inst) → FormedInst places inst → TypedInst types inst → FormedInst later (g inst) × TypedInst typed (g inst)

-- the body with operands mapped in phis and terminators, and with other instructions
abbrev pub written_block : (Operand → Operand) → (Inst → Inst) → Block → Block
written_block f g block = record { phis = map (map_phi f) block.phis; insts = map g block.insts; term = map_term f block.term }

abbrev pub written_body : (Operand → Operand) → (Inst → Inst) → Body → Body
written_body f g body = record { blocks = map (written_block f g) body.blocks }
