-- The items that each part of a module names, by their places, in the order of the text and as often as they are named.
use Rattle.std.specs.Prelude.{ℕ, ℤ, List, [], ◌∷◌, ◌++◌, Option, None, Some, flat_map}
use Rattle.ir_syntax.specs.declared.constant.Const.{Const}
use Rattle.ir_syntax.specs.declared.constant.Const.TheOpen.{Const-F}
use Rattle.ir_syntax.specs.declared.constant.Const.TheFolds.{fold-Const}
use Rattle.ir_syntax.specs.declared.constant.Operand.{Operand}
use Rattle.ir_syntax.specs.declared.constant.Operand.TheVariants as operand
use Rattle.ir_syntax.specs.declared.body.Inst.{Inst}
use Rattle.ir_syntax.specs.declared.body.Term.{Term}
use Rattle.ir_syntax.specs.declared.body.Phi.{Phi}
use Rattle.ir_syntax.specs.declared.body.Block.{Block}
use Rattle.ir_syntax.specs.declared.body.Body.{Body}
use Rattle.ir_syntax.specs.declared.item.Item.{Item}
use Rattle.ir_syntax.specs.declared.item.Item.TheVariants as item
use Rattle.ir_syntax.specs.Operands.{operands, term_operands, phi_operands}

-- the items that a constant names
abbrev pub names_step : Const-F (List ℕ) → List ℕ
names_step (Const-F.Int n) = []
names_step Const-F.Null = []
names_step (Const-F.Addr place offset) = place ∷ []
names_step Const-F.Undef = []
names_step Const-F.Poison = []
names_step Const-F.Zero = []
names_step (Const-F.Text bytes) = []
names_step (Const-F.Many parts) = flat_map (λ part. part) parts

unfoldable pub names : Const → List ℕ
names = fold-Const (List ℕ) names_step

abbrev pub operand_names : Operand → List ℕ
operand_names (operand.Param k) = []
operand_names (operand.Reg k) = []
operand_names (operand.Const constant) = names constant

abbrev pub inst_names : Inst → List ℕ
inst_names inst = flat_map operand_names (operands inst)

abbrev pub phi_names : Phi → List ℕ
phi_names phi = flat_map operand_names (phi_operands phi)

abbrev pub term_names : Term → List ℕ
term_names term = flat_map operand_names (term_operands term)

abbrev pub block_names : Block → List ℕ
block_names block = flat_map phi_names block.phis ++ flat_map inst_names block.insts ++ term_names block.term

abbrev pub body_names : Body → List ℕ
body_names body = flat_map block_names body.blocks

-- an initialiser; a declaration has none
abbrev pub init_names : Option Const → List ℕ
init_names None = []
init_names (Some constant) = names constant

-- the body of a definition; a declaration has none
abbrev pub definition_names : Option Body → List ℕ
definition_names None = []
definition_names (Some body) = body_names body

abbrev pub item_names : Item → List ℕ
item_names (item.Var var) = init_names var.init
item_names (item.Func func) = definition_names func.body
