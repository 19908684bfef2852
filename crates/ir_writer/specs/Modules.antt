-- The canonical text of a module.
use Rattle.std.specs.Prelude.{ℕ, suc, Bool, true, false, codes, List, [], ◌∷◌, ◌++◌, map, flat_map, Option, Some, None}
use Rattle.ir_lexer.specs.declared.token.Kind.TheVariants as kind
use Rattle.ir_lexer.specs.Written.{Part, Spelling, bytes_of}
use Rattle.ir_syntax.specs.declared.constant.Const.{Const}
use Rattle.ir_syntax.specs.declared.item.Param.{Param}
use Rattle.ir_syntax.specs.declared.item.Var.{Var}
use Rattle.ir_syntax.specs.declared.item.Func.{Func}
use Rattle.ir_syntax.specs.declared.item.Item.{Item}
use Rattle.ir_syntax.specs.declared.item.Item.TheVariants as item
use Rattle.ir_syntax.specs.declared.item.Module.{Module}
use Rattle.ir_syntax.specs.declared.body.Body.{Body}
use Rattle.ir_syntax.specs.FormedBody.{item_name}
use Rattle.ir_writer.specs.Names.{quoted, name_text}
use Rattle.ir_writer.specs.Words.{Parts, space, line_end, word, equals, open_paren, close_paren, open_brace, close_brace, listed, scalar, returned, linkage_parts, ext_before, ext_behind}
use Rattle.ir_writer.specs.Constants.{type_parts, constant_parts}
use Rattle.ir_writer.specs.Instructions.{param_text, local, align_parts, dots, blocks_parts}

-- ---- targets

-- target part = "text"
abbrev pub target_parts : List ℕ → Option (List ℕ) → Parts
target_parts part None = []
target_parts part (Some text) = word (codes "target") ∷ space ∷ word part ∷ space ∷ equals ∷ space ∷ Spelling kind.Str (quoted text) ∷ line_end ∷ []

-- ---- variables

abbrev pub at_name : List ℕ → Part
at_name name = Spelling kind.AtName (64 ∷ name_text name)

abbrev pub var_word : Bool → Part
var_word false = word (codes "global")
var_word true = word (codes "constant")

-- [internal] global T C, or external global T
abbrev pub valued_parts : List (List ℕ) → Var → Option Const → Parts
valued_parts names var None = word (codes "external") ∷ space ∷ var_word var.constant ∷ space ∷ type_parts var.ty
valued_parts names var (Some init) =
    linkage_parts var.linkage ++ var_word var.constant ∷ space ∷ (type_parts var.ty ++ space ∷ constant_parts names init var.ty)

abbrev pub var_parts : List (List ℕ) → Var → Parts
var_parts names var = at_name var.name ∷ space ∷ equals ∷ space ∷ (valued_parts names var var.init ++ (align_parts var.align ++ line_end ∷ []))

-- ---- functions

abbrev pub declared_param : Param → Parts
declared_param param = scalar param.ty ∷ ext_behind param.ext

-- the parameters of a definition, which are numbered from k on
abbrev pub defined_params : ℕ → List Param → List Parts
defined_params k [] = []
defined_params k (param ∷ params) = (declared_param param ++ space ∷ local (param_text k) ∷ []) ∷ defined_params (suc k) params

-- what is returned, the name, and the parameters
abbrev pub head_parts : Func → List Parts → Parts
head_parts func params =
    ext_before func.ret_ext ++ returned func.returns ∷ space ∷ at_name func.name ∷ open_paren ∷ (listed params ++ close_paren ∷ [])

-- a declaration, or a definition with its body
abbrev pub func_with : List (List ℕ) → Func → Option Body → Parts
func_with names func None = word (codes "declare") ∷ space ∷ (head_parts func (map declared_param func.params ++ dots func.variadic) ++ line_end ∷ [])
func_with names func (Some body) =
    word (codes "define") ∷ space ∷ (linkage_parts func.linkage ++ (head_parts func (defined_params 0 func.params) ++ space ∷ open_brace ∷ line_end
    ∷ (blocks_parts names 0 0 body.blocks ++ close_brace ∷ line_end ∷ [])))

abbrev pub item_parts : List (List ℕ) → Item → Parts
item_parts names (item.Var var) = var_parts names var
item_parts names (item.Func func) = func_with names func func.body

-- ---- modules

abbrev pub item_names : Module → List (List ℕ)
item_names m = map item_name m.items

abbrev pub module_parts : Module → Parts
module_parts m =
    target_parts (codes "datalayout") m.layout ++ (target_parts (codes "triple") m.triple ++ flat_map (item_parts (item_names m)) m.items)

-- the canonical text
unfoldable pub module_text : Module → List ℕ
module_text m = bytes_of (module_parts m)
