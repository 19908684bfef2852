-- Variables, declarations and definitions: which items kept lexemes stand for.
use Rattle.std.specs.Prelude.{ℕ, zero, suc, ◌+◌, Bool, true, false, not, ◌&&◌, ◌||◌, nat_le, List, [], ◌∷◌, length, map, drop, Option, Some, None, option_map, option_and_then, if◌then◌else◌}
use Rattle.std.specs.List.{list_all}
use Rattle.std.specs.Fmt.{decimal}
use Rattle.ir_lexer.specs.Spelled.{is_decimal}
use Rattle.ir_lexer.specs.Texts.{name_of}
use Rattle.ir_types.specs.declared.scalar.Scalar.{Scalar}
use Rattle.ir_types.specs.declared.scalar.Ext.{Ext}
use Rattle.ir_types.specs.declared.shape.Ty.{Ty}
use Rattle.ir_syntax.specs.declared.constant.Const.{Const}
use Rattle.ir_syntax.specs.declared.item.Linkage.{Linkage}
use Rattle.ir_syntax.specs.declared.item.Linkage.TheVariants as linkage
use Rattle.ir_syntax.specs.declared.item.Param.{Param}
use Rattle.ir_syntax.specs.declared.item.Var.{Var}
use Rattle.ir_syntax.specs.declared.item.Func.{Func}
use Rattle.ir_syntax.specs.declared.item.Item.{Item}
use Rattle.ir_syntax.specs.declared.item.Item.TheVariants as item
use Rattle.ir_syntax.specs.declared.body.Body.{Body}
use Rattle.ir_syntax.specs.FormedBody.{is_intrinsic}
use Rattle.ir_syntax.specs.FormedItem.{is_reserved}
use Rattle.name_table.specs.Places.{are_distinct}
use Rattle.ir_grammar.specs.declared.shape.Shape.{Shape}
use Rattle.ir_grammar.specs.declared.shape.Shape.TheVariants as is
use Rattle.ir_grammar.specs.declared.shape.AtName.TheVariants as at
use Rattle.ir_grammar.specs.declared.shape.Digits.TheVariants as digits
use Rattle.ir_grammar.specs.Numbers.{number_of, exponent_of}
use Rattle.ir_grammar.specs.Tokens.{Kept}
use Rattle.ir_scope.specs.Runs.{Reading, behind, runs, closed_by}
use Rattle.ir_scope.specs.Scopes.{Env}
use Rattle.ir_scope.specs.Types.{written_type}
use Rattle.ir_constants.specs.Constants.{is_close_paren, constant_at}
use Rattle.ir_locals.specs.Locals.{is_name, local_name}
use Rattle.ir_operands.specs.Marks.{ext_at, is_scalar, dots_at}
use Rattle.ir_body.specs.Bodies.{body_at}

-- ---- names of items

-- the name after the first @, unless it is one of debug information
abbrev pub first_symbol : List Kept → Option (List ℕ)
first_symbol [] = None
first_symbol ((is.At at.Debug, text) ∷ ks) = None
first_symbol ((is.At kind, text) ∷ ks) = Some (name_of (drop 1 text))
first_symbol (k ∷ ks) = first_symbol ks

-- the name of the item that an entity is, where it is one
abbrev pub item_name_of : List Kept → Option (List ℕ)
item_name_of ((is.At kind, text) ∷ ks) = Some (name_of (drop 1 text))
item_name_of ((is.Declare, text) ∷ ks) = first_symbol ks
item_name_of ((is.Define, text) ∷ ks) = first_symbol ks
item_name_of _ = None

-- the name after the first @, where it is one of debug information
abbrev pub debug_symbol : List Kept → Option (List ℕ)
debug_symbol [] = None
debug_symbol ((is.At at.Debug, text) ∷ ks) = Some (name_of (drop 1 text))
debug_symbol ((is.At kind, text) ∷ ks) = None
debug_symbol (k ∷ ks) = debug_symbol ks

-- The name of a declaration that is dropped, where an entity is one: it declares a name of debug information.
abbrev pub dropped_name_of : List Kept → Option (List ℕ)
dropped_name_of ((is.Declare, text) ∷ ks) = debug_symbol ks
dropped_name_of _ = None

-- ---- variables

-- the alignments behind a variable: the last counts
abbrev pub last_align : Option ℕ → List Kept → Option ℕ
last_align found ((is.Int digits.Power, text) ∷ ks) = last_align (exponent_of (number_of text)) ks
last_align found _ = found

abbrev pub is_constant : Shape → Bool
is_constant is.ConstantWord = true
is_constant _ = false

-- a name of a variable or a definition
abbrev pub is_plain : List ℕ → Bool
is_plain name = is_name name && not (is_reserved name)

abbrev pub made_var : List ℕ → Linkage → Bool → Ty → Option Const → List Kept → Item
made_var name link constant ty init ks =
    item.Var (record { name = name; linkage = link; constant = constant; ty = ty; init = init; align = last_align None ks })

-- behind the type: a constant, unless the variable is a declaration
abbrev pub valued : Env → List ℕ → Linkage → Bool → Bool → Ty → List Kept → Option Item
valued env name link declared constant ty ks =
    if declared then Some (made_var name link constant ty None ks)
    else option_map (λ f. made_var name link constant ty (Some f.0) (drop f.1 ks)) (constant_at env ty ks)

-- global or constant, the type, and the rest
abbrev pub var_kind : Env → List ℕ → Linkage → Bool → List Kept → Option Item
var_kind env name link declared [] = None
var_kind env name link declared (k ∷ ks) = option_and_then (λ t. valued env name link declared (is_constant k.0) t.0 (drop t.1 ks)) (written_type env.types ks)

-- One whose linkage is written `external` is a declaration.
abbrev pub var_linked : Env → List ℕ → List Kept → Option Item
var_linked env name ((is.Linkage linkage.External, text) ∷ ks) = var_kind env name linkage.External true ks
var_linked env name ((is.Linkage link, text) ∷ ks) = var_kind env name link false ks
var_linked env name ks = var_kind env name linkage.External false ks

abbrev pub var_of : Env → List ℕ → List Kept → Option Item
var_of env name ks = if is_plain name then var_linked env name ks else None

-- ---- parameters

-- T attributes %name, the name or none
abbrev pub named_at : List Kept → Option (List ℕ) × ℕ
named_at ((is.Local, text) ∷ ks) = (Some (local_name text), 1)
named_at _ = (None, 0)

abbrev pub param_at : Reading (Param × Option (List ℕ))
param_at ((is.Scalar ty, text) ∷ ks) =
    let ext = ext_at ks in
    let name = named_at (drop ext.1 ks) in
    Some ((record { ty = ty; ext = ext.0 }, name.0), 1 + ext.1 + name.1)
param_at _ = None

-- what is written between the parentheses: parameters, and ... or not; with the closing one
abbrev pub params_at : Reading (List (Param × Option (List ℕ)) × Bool)
params_at ks =
    closed_by is_close_paren ks
    (option_map (λ f. let dots = dots_at (drop f.1 ks) in ((f.0, dots.0), f.1 + dots.1)) (runs is_scalar param_at ks))

-- A parameter without a name has the count of those before it that have none or a decimal one.
abbrev pub names_from : ℕ → List (Option (List ℕ)) → List (List ℕ)
names_from k [] = []
names_from k (None ∷ names) = decimal k ∷ names_from (suc k) names
names_from k (Some name ∷ names) = name ∷ names_from (if is_decimal name then suc k else k) names

-- At most 32 parameters, whose names are distinct.
abbrev pub are_params : List (List ℕ) → Bool
are_params names = nat_le (length names) 32 && list_all is_name names && are_distinct names

-- ---- functions

-- a function without its body, the names of its parameters, and the lexemes behind its head
pub record Head : Type 0 where
  pub func : Func
  pub names : List (List ℕ)
  pub rest : List Kept

abbrev pub head_with : List ℕ → Linkage → Option Scalar → Ext → List Kept → Option Head
head_with name link returns ext ks =
    option_and_then (λ f.
    let names = names_from 0 (map (λ (p : Param × Option (List ℕ)). p.1) f.0.0) in
    if are_params names
    then Some (record {
      func = record { name = name; linkage = link; returns = returns; ret_ext = ext; params = map (λ (p : Param × Option (List ℕ)). p.0) f.0.0; variadic = f.0.1; body = None };
      names = names;
      rest = drop f.1 ks;
    })
    else None) (params_at ks)

-- @name and the parameters
abbrev pub head_named : Linkage → Option Scalar → Ext → List Kept → Option Head
head_named link returns ext ((is.At kind, text) ∷ ks) = head_with (name_of (drop 1 text)) link returns ext ks
head_named link returns ext _ = None

-- what is returned, and the rest
abbrev pub head_returning : Linkage → Ext → List Kept → Option Head
head_returning link ext ((is.Void, text) ∷ ks) = head_named link None ext ks
head_returning link ext ((is.Scalar ty, text) ∷ ks) = head_named link (Some ty) ext ks
head_returning link ext _ = None

-- signext or zeroext or none, and the rest
abbrev pub head_extended : Linkage → List Kept → Option Head
head_extended link ks = let ext = ext_at ks in head_returning link ext.0 (drop ext.1 ks)

-- A declaration is external. Of the names that begin with `llvm.` it has only those of the intrinsics.
abbrev pub declared : Head → Option Item
declared head =
    if is_name head.func.name && (not (is_reserved head.func.name) || is_intrinsic head.func.name) then Some (item.Func head.func) else None

abbrev pub declaration_of : List Kept → Option Item
declaration_of ks = option_and_then declared (head_extended linkage.External ks)

-- A definition has no parameters but the written ones.
abbrev pub with_body : Func → Body → Item
with_body func body =
    item.Func (record {
      name = func.name;
      linkage = func.linkage;
      returns = func.returns;
      ret_ext = func.ret_ext;
      params = func.params;
      variadic = false;
      body = Some body;
    })

abbrev pub defined : Env → Head → Option Item
defined env head = if is_plain head.func.name then option_map (with_body head.func) (body_at env head.names head.rest) else None

-- the linkage, external where none is written
abbrev pub head_linked : List Kept → Option Head
head_linked ((is.Linkage link, text) ∷ ks) = head_extended link ks
head_linked ks = head_extended linkage.External ks

abbrev pub definition_of : Env → List Kept → Option Item
definition_of env ks = option_and_then (defined env) (head_linked ks)

-- the item that an entity with an item's name is
abbrev pub item_of : Env → List ℕ → List Kept → Option Item
item_of env name ((is.At kind, text) ∷ ks) = var_of env name ks
item_of env name ((is.Declare, text) ∷ ks) = declaration_of ks
item_of env name ((is.Define, text) ∷ ks) = definition_of env ks
item_of env name _ = None
