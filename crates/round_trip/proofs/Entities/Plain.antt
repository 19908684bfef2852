-- No token of an item begins a debug record.
use Rattle.std.proofs.Common.{◌≡◌, ◌∙◌, ℕ, suc, ◌+◌, Bool, true, false, not, is_some, List, [], ◌∷◌, ◌++◌, length, map, Option, Some, None, IfSome, All, refl, ap}
use Rattle.std.proofs.lemmas.Bool.{and_from, cond_both}
use Rattle.std.proofs.lemmas.List.Elements.{All-head, All-tail}
use Rattle.std.proofs.lemmas.List.Folds.{list_all-append}
use Rattle.ir_types.specs.declared.scalar.Scalar.{Scalar}
use Rattle.ir_types.specs.declared.scalar.Scalar.TheVariants.{I1, I8, I16, I32, I64, Ptr}
use Rattle.ir_types.specs.declared.scalar.Ext.{Ext}
use Rattle.ir_types.specs.declared.scalar.Ext.TheVariants as ext
use Rattle.ir_lexer.specs.Written.{spellings_of}
use Rattle.ir_syntax.specs.Results.{result_type, block_results}
use Rattle.ir_syntax.specs.declared.constant.Const.{Const}
use Rattle.ir_syntax.specs.declared.body.Phi.{Phi}
use Rattle.ir_syntax.specs.declared.body.Inst.{Inst}
use Rattle.ir_syntax.specs.declared.body.Block.{Block}
use Rattle.ir_syntax.specs.declared.body.Body.{Body}
use Rattle.ir_syntax.specs.declared.item.Linkage.{Linkage}
use Rattle.ir_syntax.specs.declared.item.Linkage.TheVariants as linkage
use Rattle.ir_syntax.specs.declared.item.Param.{Param}
use Rattle.ir_syntax.specs.declared.item.Var.{Var}
use Rattle.ir_syntax.specs.declared.item.Func.{Func}
use Rattle.ir_syntax.specs.declared.item.Item.{Item}
use Rattle.ir_syntax.specs.declared.item.Item.TheVariants as item
use Rattle.ir_grammar.specs.Tokens.{shape}
use Rattle.ir_writer.specs.Words.{Parts, space, line_end, open_paren, close_paren, open_brace, close_brace, listed, more, scalar, returned, linkage_parts, ext_before, ext_behind}
use Rattle.ir_writer.specs.Constants.{type_parts, constant_parts}
use Rattle.ir_writer.specs.Instructions.{param_text, local, align_parts, dots, inst_parts, phi_parts, term_parts, line, named, phi_lines, inst_lines, block_parts, blocks_parts}
use Rattle.ir_writer.specs.Modules.{at_name, var_word, valued_parts, declared_param, defined_params, head_parts, func_with, item_parts}
use Rattle.round_trip.proofs.Grammar.Goes.{spellings_append, is_record, no_records}
use Rattle.round_trip.proofs.Entities.Steps.{spelled_line}

-- no token of these parts begins one
abbrev pub IsPlain : Parts → Type 0
IsPlain parts = no_records (spellings_of parts) ≡ true

-- ---- what is shown elsewhere

pub record PlainBlock (names : List (List ℕ)) (block : Block) : Type 0 where
  pub phis : All (λ phi. IsPlain (phi_parts names phi)) block.phis
  pub insts : All (λ i. IsPlain (inst_parts names i)) block.insts
  pub term : IsPlain (term_parts names block.term)

abbrev pub PlainItem : List (List ℕ) → Item → Type 0
PlainItem names (item.Var var) = IsPlain (type_parts var.ty) × IfSome var.init (λ init. IsPlain (constant_parts names init var.ty))
PlainItem names (item.Func func) = IfSome func.body (λ body. All (PlainBlock names) body.blocks)

-- ---- parts one behind another

plain_both : (parts others : Parts) → IsPlain parts → IsPlain others → IsPlain (parts ++ others)
plain_both parts others e f =
    ap no_records (spellings_append parts others) ∙ list_all-append (λ piece. not (is_record (shape piece))) (spellings_of parts) (spellings_of others)
    ∙ and_from (no_records (spellings_of parts)) (no_records (spellings_of others)) e f

plain_line : (parts : Parts) → IsPlain parts → IsPlain (line parts)
plain_line parts e = ap no_records (spelled_line parts) ∙ e

-- ---- lines

phi_lines_plain : (names : List (List ℕ)) (k : ℕ) (phis : List Phi) → All (λ phi. IsPlain (phi_parts names phi)) phis → IsPlain (phi_lines names k phis)
phi_lines_plain names k [] all = refl
phi_lines_plain names k (phi ∷ phis) all =
    plain_both (line (named k (phi_parts names phi))) (phi_lines names (suc k) phis)
    (plain_line (named k (phi_parts names phi)) (All-head (λ p. IsPlain (phi_parts names p)) phi phis all))
    (phi_lines_plain names (suc k) phis (All-tail (λ p. IsPlain (phi_parts names p)) phi phis all))

inst_lines_plain : (names : List (List ℕ)) (k : ℕ) (insts : List Inst) → All (λ i. IsPlain (inst_parts names i)) insts → IsPlain (inst_lines names k insts)
inst_lines_plain names k [] all = refl
inst_lines_plain names k (i ∷ insts) all =
    let here = All-head (λ j. IsPlain (inst_parts names j)) i insts all in
    let behind = All-tail (λ j. IsPlain (inst_parts names j)) i insts all in
    cond_both (is_some (result_type i)) (line (named k (inst_parts names i)) ++ inst_lines names (suc k) insts) (line (inst_parts names i) ++ inst_lines names k insts) IsPlain
    (λ some. plain_both (line (named k (inst_parts names i))) (inst_lines names (suc k) insts) (plain_line (named k (inst_parts names i)) here) (inst_lines_plain names (suc k) insts behind))
    (λ none. plain_both (line (inst_parts names i)) (inst_lines names k insts) (plain_line (inst_parts names i) here) (inst_lines_plain names k insts behind))

block_plain : (names : List (List ℕ)) (place k : ℕ) (block : Block) → PlainBlock names block → IsPlain (block_parts names place k block)
block_plain names place k block h =
    let insts : Parts = inst_lines names (k + length block.phis) block.insts in
    plain_both (phi_lines names k block.phis) (insts ++ line (term_parts names block.term)) (phi_lines_plain names k block.phis h.phis)
    (plain_both insts (line (term_parts names block.term)) (inst_lines_plain names (k + length block.phis) block.insts h.insts) (plain_line (term_parts names block.term) h.term))

blocks_plain : (names : List (List ℕ)) (place k : ℕ) (blocks : List Block) → All (PlainBlock names) blocks → IsPlain (blocks_parts names place k blocks)
blocks_plain names place k [] all = refl
blocks_plain names place k (block ∷ blocks) all =
    let j : ℕ = k + length (block_results block) in
    plain_both (block_parts names place k block) (blocks_parts names (suc place) j blocks) (block_plain names place k block (All-head (PlainBlock names) block blocks all))
    (blocks_plain names (suc place) j blocks (All-tail (PlainBlock names) block blocks all))

-- ---- heads

before_plain : (e : Ext) → IsPlain (ext_before e)
before_plain ext.Plain = refl
before_plain ext.Signed = refl
before_plain ext.Unsigned = refl

behind_plain : (e : Ext) → IsPlain (ext_behind e)
behind_plain ext.Plain = refl
behind_plain ext.Signed = refl
behind_plain ext.Unsigned = refl

linkage_plain : (link : Linkage) → IsPlain (linkage_parts link)
linkage_plain linkage.External = refl
linkage_plain linkage.Internal = refl
linkage_plain linkage.Private = refl

kind_plain : (constant : Bool) → IsPlain (var_word constant ∷ [])
kind_plain false = refl
kind_plain true = refl

scalar_plain : (ty : Scalar) → IsPlain (scalar ty ∷ [])
scalar_plain I1 = refl
scalar_plain I8 = refl
scalar_plain I16 = refl
scalar_plain I32 = refl
scalar_plain I64 = refl
scalar_plain Ptr = refl

returned_plain : (returns : Option Scalar) → IsPlain (returned returns ∷ [])
returned_plain None = refl
returned_plain (Some ty) = scalar_plain ty

declared_plain : (p : Param) → IsPlain (declared_param p)
declared_plain p = plain_both (scalar p.ty ∷ []) (ext_behind p.ext) (scalar_plain p.ty) (behind_plain p.ext)

declared_more_plain : (ps : List Param) (variadic : Bool) → IsPlain (more (map declared_param ps ++ dots variadic))
declared_more_plain [] false = refl
declared_more_plain [] true = refl
declared_more_plain (p ∷ ps) variadic = plain_both (declared_param p) (more (map declared_param ps ++ dots variadic)) (declared_plain p) (declared_more_plain ps variadic)

declared_params_plain : (ps : List Param) (variadic : Bool) → IsPlain (listed (map declared_param ps ++ dots variadic))
declared_params_plain [] false = refl
declared_params_plain [] true = refl
declared_params_plain (p ∷ ps) variadic = plain_both (declared_param p) (more (map declared_param ps ++ dots variadic)) (declared_plain p) (declared_more_plain ps variadic)

defined_plain : (k : ℕ) (p : Param) → IsPlain (declared_param p ++ space ∷ local (param_text k) ∷ [])
defined_plain k p = plain_both (declared_param p) (space ∷ local (param_text k) ∷ []) (declared_plain p) refl

defined_more_plain : (k : ℕ) (ps : List Param) → IsPlain (more (defined_params k ps))
defined_more_plain k [] = refl
defined_more_plain k (p ∷ ps) = plain_both (declared_param p ++ space ∷ local (param_text k) ∷ []) (more (defined_params (suc k) ps)) (defined_plain k p) (defined_more_plain (suc k) ps)

defined_params_plain : (ps : List Param) → IsPlain (listed (defined_params 0 ps))
defined_params_plain [] = refl
defined_params_plain (p ∷ ps) = plain_both (declared_param p ++ space ∷ local (param_text 0) ∷ []) (more (defined_params 1 ps)) (defined_plain 0 p) (defined_more_plain 1 ps)

head_plain : (func : Func) (params : List Parts) → IsPlain (listed params) → IsPlain (head_parts func params)
head_plain func params h =
    let behind : Parts = listed params ++ close_paren ∷ [] in
    plain_both (ext_before func.ret_ext) (returned func.returns ∷ space ∷ at_name func.name ∷ open_paren ∷ behind) (before_plain func.ret_ext)
    (plain_both (returned func.returns ∷ []) (space ∷ at_name func.name ∷ open_paren ∷ behind) (returned_plain func.returns) (plain_both (listed params) (close_paren ∷ []) h refl))

-- ---- items

func_plain : (names : List (List ℕ)) (func : Func) (body : Option Body) → IfSome body (λ b. All (PlainBlock names) b.blocks) → IsPlain (func_with names func body)
func_plain names func None h =
    let params : List Parts = map declared_param func.params ++ dots func.variadic in
    plain_both (head_parts func params) (line_end ∷ []) (head_plain func params (declared_params_plain func.params func.variadic)) refl
func_plain names func (Some body) h =
    let head : Parts = head_parts func (defined_params 0 func.params) in
    let blocks : Parts = blocks_parts names 0 0 body.blocks in
    plain_both (linkage_parts func.linkage) (head ++ space ∷ open_brace ∷ line_end ∷ (blocks ++ close_brace ∷ line_end ∷ [])) (linkage_plain func.linkage)
    (plain_both head (space ∷ open_brace ∷ line_end ∷ (blocks ++ close_brace ∷ line_end ∷ [])) (head_plain func (defined_params 0 func.params) (defined_params_plain func.params))
    (plain_both blocks (close_brace ∷ line_end ∷ []) (blocks_plain names 0 0 body.blocks h) refl))

valued_plain : (names : List (List ℕ)) (var : Var) (init : Option Const) → IsPlain (type_parts var.ty) → IfSome init (λ c. IsPlain (constant_parts names c var.ty)) → IsPlain (valued_parts names var init)
valued_plain names var None ty c = plain_both (var_word var.constant ∷ []) (space ∷ type_parts var.ty) (kind_plain var.constant) ty
valued_plain names var (Some init) ty c =
    let value : Parts = type_parts var.ty ++ space ∷ constant_parts names init var.ty in
    plain_both (linkage_parts var.linkage) (var_word var.constant ∷ space ∷ value) (linkage_plain var.linkage)
    (plain_both (var_word var.constant ∷ []) (space ∷ value) (kind_plain var.constant) (plain_both (type_parts var.ty) (space ∷ constant_parts names init var.ty) ty c))

align_plain : (align : Option ℕ) → IsPlain (align_parts align ++ line_end ∷ [])
align_plain None = refl
align_plain (Some exponent) = refl

pub item_plain : (names : List (List ℕ)) (i : Item) → PlainItem names i → IsPlain (item_parts names i)
item_plain names (item.Var var) h = plain_both (valued_parts names var var.init) (align_parts var.align ++ line_end ∷ []) (valued_plain names var var.init h.0 h.1) (align_plain var.align)
item_plain names (item.Func func) h = func_plain names func func.body h
