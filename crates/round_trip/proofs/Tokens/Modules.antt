-- The canonical text of a module can be read token by token.
use Rattle.std.proofs.Common.{◌≡◌, ℕ, suc, Bool, true, false, codes, List, [], ◌∷◌, ◌++◌, map, Option, Some, None, refl, subst, append-nil}
use Rattle.ir_lexer.specs.Signs.{begins_word, begins_name, is_name_byte}
use Rattle.ir_lexer.specs.Spelled.{is_word}
use Rattle.ir_lexer.specs.Written.{IsReadable}
use Rattle.ir_syntax.specs.declared.constant.Const.{Const}
use Rattle.ir_syntax.specs.declared.body.Body.{Body}
use Rattle.ir_syntax.specs.declared.item.Param.{Param}
use Rattle.ir_syntax.specs.declared.item.Var.{Var}
use Rattle.ir_syntax.specs.declared.item.Func.{Func}
use Rattle.ir_syntax.specs.declared.item.Item.{Item}
use Rattle.ir_syntax.specs.declared.item.Item.TheVariants as item
use Rattle.ir_syntax.specs.declared.item.Module.{Module}
use Rattle.ir_writer.specs.Words.{Parts, space, line_end, close_paren, listed, linkage_parts, ext_before}
use Rattle.ir_writer.specs.Constants.{type_parts, constant_parts}
use Rattle.ir_writer.specs.Instructions.{param_text, local, align_parts, dots, blocks_parts}
use Rattle.ir_writer.specs.Modules.{target_parts, at_name, var_word, valued_parts, var_parts, declared_param, defined_params, head_parts, func_with, item_parts, item_names, module_parts}
use Rattle.round_trip.proofs.Tokens.Quoted.{quoted_spelled, name_spelled}
use Rattle.round_trip.proofs.Tokens.Parts.{Reads, Follows, nothing, no_parts, token, joined, joined_behind, closed, spaced, line_ended, word_spaced, EachReads, each_mapped, each_behind, listed_read, flat_read}
use Rattle.round_trip.proofs.Tokens.Words.{equals_read, open_paren_follows, close_paren_follows, open_brace_read, close_brace_read, scalar_reads, returned_reads, linkage_reads, ext_reads, ext_follows, param_reads}
use Rattle.round_trip.proofs.Tokens.Constants.{type_reads, constant_reads}
use Rattle.round_trip.proofs.Tokens.Instructions.{align_follows, dots_read}
use Rattle.round_trip.proofs.Tokens.Lines.{blocks_read}

target_reads : (part : List ℕ) (text : Option (List ℕ)) → is_word part ≡ true → Reads false (target_parts part text)
unfolding is_word begins_word begins_name is_name_byte
target_reads part None is = no_parts
target_reads part (Some text) is = word_spaced refl (word_spaced is (equals_read (spaced (token (quoted_spelled text) (line_ended no_parts))).reads))

-- ---- variables

at_reads : {wants : Bool} {parts : Parts} (name : List ℕ) → Follows wants parts → Reads wants (at_name name ∷ parts)
at_reads name behind = token (name_spelled name) behind

var_word_reads : {wants : Bool} {parts : Parts} (constant : Bool) → Reads wants parts → Reads wants (var_word constant ∷ space ∷ parts)
unfolding is_word begins_word begins_name is_name_byte
var_word_reads false behind = word_spaced refl behind
var_word_reads true behind = word_spaced refl behind

valued_reads : (names : List (List ℕ)) (var : Var) (init : Option Const) → Reads true (valued_parts names var init)
unfolding is_word begins_word begins_name is_name_byte
valued_reads names var None = word_spaced refl (var_word_reads var.constant (type_reads var.ty))
valued_reads names var (Some init) =
    closed (linkage_parts var.linkage) _ (linkage_reads var.linkage)
    (var_word_reads var.constant (joined (type_parts var.ty) (space ∷ constant_parts names init var.ty) (type_reads var.ty) (spaced (constant_reads names init var.ty))))

var_reads : (names : List (List ℕ)) (var : Var) → Reads false (var_parts names var)
var_reads names var =
    let end = joined_behind (align_parts var.align) (line_end ∷ []) (align_follows var.align) (line_ended no_parts) in
    at_reads var.name (spaced (equals_read (spaced (joined (valued_parts names var var.init) _ (valued_reads names var var.init) end)).reads))

-- ---- functions

declared_reads : (param : Param) → Reads true (declared_param param)
declared_reads param = scalar_reads param.ty (ext_follows param.ext)

params_read : (k : ℕ) (params : List Param) → EachReads (defined_params k params)
params_read k [] = tt
params_read k (param ∷ params) = (joined (declared_param param) (space ∷ local (param_text k) ∷ []) (declared_reads param) (spaced (param_reads k nothing)), params_read (suc k) params)

head_reads : (func : Func) (params : List Parts) → EachReads params → Reads true (head_parts func params)
head_reads func params each =
    closed (ext_before func.ret_ext) _ (ext_reads func.ret_ext)
    (returned_reads func.returns (spaced (at_reads func.name (open_paren_follows (joined (listed params) (close_paren ∷ []) (listed_read params each) (close_paren_follows nothing.reads))))))

func_reads : (names : List (List ℕ)) (func : Func) (body : Option Body) → Reads false (func_with names func body)
unfolding is_word begins_word begins_name is_name_byte
func_reads names func None =
    let each = each_behind (map declared_param func.params) (dots func.variadic) (each_mapped declared_param func.params declared_reads) (dots_read func.variadic) in
    word_spaced refl (joined (head_parts func (map declared_param func.params ++ dots func.variadic)) (line_end ∷ []) (head_reads func _ each) (line_ended no_parts))
func_reads names func (Some body) =
    let lines = closed (blocks_parts names 0 0 body.blocks) _ (blocks_read names 0 0 body.blocks) (close_brace_read (line_ended no_parts).reads) in
    word_spaced refl
    (closed (linkage_parts func.linkage) _ (linkage_reads func.linkage)
    (joined (head_parts func (defined_params 0 func.params)) _ (head_reads func (defined_params 0 func.params) (params_read 0 func.params)) (spaced (open_brace_read (line_ended lines).reads))))

item_reads : (names : List (List ℕ)) (i : Item) → Reads false (item_parts names i)
item_reads names (item.Var var) = var_reads names var
item_reads names (item.Func func) = func_reads names func func.body

-- ---- modules

module_reads : (m : Module) → Reads false (module_parts m)
unfolding is_word begins_word begins_name is_name_byte
module_reads m =
    closed (target_parts (codes "datalayout") m.layout) _ (target_reads (codes "datalayout") m.layout refl)
    (closed (target_parts (codes "triple") m.triple) _ (target_reads (codes "triple") m.triple refl) (flat_read (item_parts (item_names m)) m.items (item_reads (item_names m))))

-- Each module's canonical text can be read, whatever its numbers and names are.
pub module_is_readable : (m : Module) → IsReadable (module_parts m)
module_is_readable m = subst IsReadable (append-nil (module_parts m)) ((module_reads m).before [] tt tt)
