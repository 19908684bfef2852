-- What an item's lexemes are among entities: no type and no target, but an item of its name.
use Rattle.std.proofs.Common.{◌≡◌, ◌≢◌, ◌∙◌, ℕ, List, [], ◌∷◌, ◌++◌, drop, Option, Some, None, refl, ap, append_assoc}
use Rattle.ir_lexer.specs.Texts.{name_of}
use Rattle.ir_types.specs.declared.scalar.Scalar.{Scalar}
use Rattle.ir_types.specs.declared.scalar.Ext.{Ext}
use Rattle.ir_types.specs.declared.scalar.Ext.TheVariants as ext
use Rattle.ir_syntax.specs.declared.item.Linkage.{Linkage}
use Rattle.ir_syntax.specs.declared.item.Linkage.TheVariants as linkage
use Rattle.ir_syntax.specs.declared.item.Func.{Func}
use Rattle.ir_syntax.specs.declared.item.Item.{Item}
use Rattle.ir_syntax.specs.declared.item.Item.TheVariants as item
use Rattle.ir_syntax.specs.declared.body.Body.{Body}
use Rattle.ir_syntax.specs.FormedBody.{item_name}
use Rattle.ir_syntax.specs.FormedItem.{FormedItem}
use Rattle.ir_grammar.specs.declared.shape.Shape.TheVariants as is
use Rattle.ir_grammar.specs.declared.shape.AtName.{AtName}
use Rattle.ir_grammar.specs.declared.shape.AtName.TheVariants as at
use Rattle.ir_grammar.specs.Shapes.{at_shape}
use Rattle.ir_grammar.specs.Tokens.{Kept}
use Rattle.type_names.specs.TypeNames.{named_type}
use Rattle.ir_parser.specs.Items.{first_symbol, item_name_of}
use Rattle.ir_parser.specs.Modules.{layout_from, triple_from}
use Rattle.ir_writer.specs.Names.{name_text}
use Rattle.round_trip.proofs.Grammar.Kept.{Lexemes, close_paren_kept, ext_kept, dots_kept, linkage_kept, head_kept, func_kept, item_kept, body_kept}
use Rattle.round_trip.proofs.Modules.Names.{no-debug, item-declarable}
use Rattle.round_trip.proofs.Modules.Params.{declared_kept, defined_kept}
use Rattle.round_trip.proofs.Modules.Funcs.{head_of, IsBack}

-- ---- names of functions

first : (kind : AtName) (text : List ℕ) (ks : Lexemes) → kind ≢ at.Debug → first_symbol ((is.At kind, text) ∷ ks) ≡ Some (name_of (drop 1 text))
first at.Plain text ks h = refl
first at.Memory text ks h = refl
first at.Debug text ks h = absurd (h refl)
first at.Other text ks h = refl

head-first : (e : Ext) (returns : Option Scalar) (name : List ℕ) (ks : Lexemes) → at_shape name ≢ at.Debug → first_symbol (ext_kept e ++ head_of returns name ks) ≡ Some (name_of (name_text name))
head-first ext.Plain None name ks h = first (at_shape name) (64 ∷ name_text name) ks h
head-first ext.Plain (Some ty) name ks h = first (at_shape name) (64 ∷ name_text name) ks h
head-first ext.Signed None name ks h = first (at_shape name) (64 ∷ name_text name) ks h
head-first ext.Signed (Some ty) name ks h = first (at_shape name) (64 ∷ name_text name) ks h
head-first ext.Unsigned None name ks h = first (at_shape name) (64 ∷ name_text name) ks h
head-first ext.Unsigned (Some ty) name ks h = first (at_shape name) (64 ∷ name_text name) ks h

linked-first : (link : Linkage) (ks : Lexemes) → first_symbol (linkage_kept link ++ ks) ≡ first_symbol ks
linked-first linkage.External ks = refl
linked-first linkage.Internal ks = refl
linked-first linkage.Private ks = refl

func-name : (names : List (List ℕ)) (func : Func) (body : Option Body) → at_shape func.name ≢ at.Debug → IsBack func.name → item_name_of (func_kept names func body) ≡ Some func.name
func-name names func None h back =
    head-first func.ret_ext func.returns func.name ((declared_kept func.params ++ dots_kept func.variadic) ++ close_paren_kept ∷ []) h ∙ ap (λ name. Some name) back
func-name names func (Some body) h back =
    let inner : Lexemes = defined_kept 0 func.params ++ close_paren_kept ∷ [] in
    linked-first func.linkage (head_kept func (defined_kept 0 func.params) ++ body_kept names body)
    ∙ ap first_symbol (append_assoc (ext_kept func.ret_ext) (head_of func.returns func.name inner) (body_kept names body))
    ∙ head-first func.ret_ext func.returns func.name (inner ++ body_kept names body) h
    ∙ ap (λ name. Some name) back

-- ---- items

pub item-symbol : (items : List Item) (names : List (List ℕ)) (i : Item) → FormedItem items i → IsBack (item_name i) → item_name_of (item_kept names i) ≡ Some (item_name i)
item-symbol items names (item.Var var) h back = ap (λ name. Some name) back
item-symbol items names (item.Func func) h back = func-name names func func.body (no-debug func.name (item-declarable items (item.Func func) h)) back

func-no-type : (names : List (List ℕ)) (func : Func) (body : Option Body) → named_type (func_kept names func body) ≡ None
func-no-type names func None = refl
func-no-type names func (Some body) = refl

pub item-no-type : (names : List (List ℕ)) (i : Item) → named_type (item_kept names i) ≡ None
item-no-type names (item.Var var) = refl
item-no-type names (item.Func func) = func-no-type names func func.body

func-no-layout : (names : List (List ℕ)) (func : Func) (body : Option Body) (found : Option (List ℕ)) (es : List (List Kept)) → layout_from found (func_kept names func body ∷ es) ≡ layout_from found es
func-no-layout names func None found es = refl
func-no-layout names func (Some body) found es = refl

pub item-no-layout : (names : List (List ℕ)) (i : Item) (found : Option (List ℕ)) (es : List (List Kept)) → layout_from found (item_kept names i ∷ es) ≡ layout_from found es
item-no-layout names (item.Var var) found es = refl
item-no-layout names (item.Func func) found es = func-no-layout names func func.body found es

func-no-triple : (names : List (List ℕ)) (func : Func) (body : Option Body) (found : Option (List ℕ)) (es : List (List Kept)) → triple_from found (func_kept names func body ∷ es) ≡ triple_from found es
func-no-triple names func None found es = refl
func-no-triple names func (Some body) found es = refl

pub item-no-triple : (names : List (List ℕ)) (i : Item) (found : Option (List ℕ)) (es : List (List Kept)) → triple_from found (item_kept names i ∷ es) ≡ triple_from found es
item-no-triple names (item.Var var) found es = refl
item-no-triple names (item.Func func) found es = func-no-triple names func func.body found es
