-- The grammar takes the heads of functions.
use Rattle.std.proofs.Common.{◌≡◌, ◌∙◌, ℕ, suc, Bool, true, false, codes, List, [], ◌∷◌, ◌++◌, map, Option, Some, None, refl, sym, ap, append_assoc}
use Rattle.ir_types.specs.declared.scalar.Scalar.{Scalar}
use Rattle.ir_types.specs.declared.scalar.Ext.{Ext}
use Rattle.ir_types.specs.declared.scalar.Ext.TheVariants as ext
use Rattle.ir_lexer.specs.declared.token.Kind.TheVariants as kind
use Rattle.ir_lexer.specs.Written.{spellings_of}
use Rattle.ir_syntax.specs.declared.item.Param.{Param}
use Rattle.ir_grammar.specs.declared.shape.Shape.TheVariants as is
use Rattle.ir_grammar.specs.declared.grammar.Keep.TheVariants as keep
use Rattle.ir_grammar.specs.declared.grammar.Item.TheVariants as item
use Rattle.ir_grammar.specs.declared.grammar.Name.TheVariants as the
use Rattle.ir_grammar.specs.declared.grammar.Terminal.TheVariants as a
use Rattle.ir_grammar.specs.Items as grammar
use Rattle.ir_grammar.specs.Mirrors.Walk.{settle, Taken}
use Rattle.ir_writer.specs.Words.{Parts, space, close_paren, listed, more, scalar_text, returned, ext_before, ext_behind}
use Rattle.ir_writer.specs.Instructions.{param_text, local, dots}
use Rattle.ir_writer.specs.Modules.{declared_param, defined_params}
use Rattle.round_trip.proofs.Grammar.Kept.{Lexemes, joined, scalar_kept, ext_kept, local_kept, dots_kept, close_paren_kept, returned_kept, declared_param_kept, defined_params_kept}
use Rattle.round_trip.proofs.Grammar.Walking.{goes, Items}
use Rattle.round_trip.proofs.Entities.Steps.{taken, shape_taken, scalar_taken}

-- ---- what is returned

-- The items take signext or zeroext, or leave it out, and take what is returned.
pub record BeginsHead (items next : Items) : Type 0 where
  pub ext : (e : Ext) → settle (is.Ext e) items ≡ Taken keep.Keeps (item.Many the.Attribute ∷ grammar.kept a.VoidOrScalar ∷ next)
  pub none : settle is.Void items ≡ Taken keep.Keeps next
  pub one : (ty : Scalar) → settle (is.Scalar ty) items ≡ Taken keep.Keeps next

returned_goes : (items next last : Items) (returns : Option Scalar) (rest : Parts) (kept : Lexemes) → settle is.Void items ≡ Taken keep.Keeps next → ((ty : Scalar) → settle (is.Scalar ty) items ≡ Taken keep.Keeps next) →
    goes next (spellings_of rest) ≡ Some (kept, last) → goes items (spellings_of (returned returns ∷ space ∷ rest)) ≡ Some (returned_kept returns ∷ kept, last)
returned_goes items next last None rest kept none one h =
    shape_taken (kind.Word, codes "void") (spellings_of rest) is.Void keep.Keeps items next refl none ∙ ap (taken keep.Keeps is.Void (codes "void")) h
returned_goes items next last (Some ty) rest kept none one h =
    scalar_taken ty (spellings_of rest) items next (one ty) ∙ ap (taken keep.Keeps (is.Scalar ty) (scalar_text ty)) h

pub head_goes : (items next last : Items) (e : Ext) (returns : Option Scalar) (rest : Parts) (kept : Lexemes) → BeginsHead items next →
    goes next (spellings_of rest) ≡ Some (kept, last) → goes items (spellings_of (ext_before e ++ returned returns ∷ space ∷ rest)) ≡ Some (ext_kept e ++ returned_kept returns ∷ kept, last)
head_goes items next last ext.Plain returns rest kept h k = returned_goes items next last returns rest kept h.none h.one k
head_goes items next last ext.Signed returns rest kept h k =
    shape_taken (kind.Word, codes "signext") _ (is.Ext ext.Signed) keep.Keeps items (item.Many the.Attribute ∷ grammar.kept a.VoidOrScalar ∷ next) refl (h.ext ext.Signed)
    ∙ ap (taken keep.Keeps (is.Ext ext.Signed) (codes "signext")) (returned_goes (item.Many the.Attribute ∷ grammar.kept a.VoidOrScalar ∷ next) next last returns rest kept refl (λ ty. refl) k)
head_goes items next last ext.Unsigned returns rest kept h k =
    shape_taken (kind.Word, codes "zeroext") _ (is.Ext ext.Unsigned) keep.Keeps items (item.Many the.Attribute ∷ grammar.kept a.VoidOrScalar ∷ next) refl (h.ext ext.Unsigned)
    ∙ ap (taken keep.Keeps (is.Ext ext.Unsigned) (codes "zeroext")) (returned_goes (item.Many the.Attribute ∷ grammar.kept a.VoidOrScalar ∷ next) next last returns rest kept refl (λ ty. refl) k)

-- ---- the attribute behind a type

-- the items behind it
abbrev behind_ext : Ext → Items → Items
behind_ext ext.Plain next = grammar.extended next
behind_ext ext.Signed next = item.Many the.Attribute ∷ next
behind_ext ext.Unsigned next = item.Many the.Attribute ∷ next

behind_type : (e : Ext) (items last : Items) (rest : Parts) (kept : Lexemes) → goes (behind_ext e items) (spellings_of rest) ≡ Some (kept, last) →
    goes (grammar.extended items) (spellings_of (ext_behind e ++ rest)) ≡ Some (ext_kept e ++ kept, last)
behind_type ext.Plain items last rest kept h = h
behind_type ext.Signed items last rest kept h = ap (taken keep.Keeps (is.Ext ext.Signed) (codes "signext")) h
behind_type ext.Unsigned items last rest kept h = ap (taken keep.Keeps (is.Ext ext.Unsigned) (codes "zeroext")) h

-- ---- parameters of a declaration

declared_comma : (e : Ext) (next : Items) → settle is.Comma (behind_ext e (item.May the.ParamName ∷ item.One the.MoreDeclared ∷ next)) ≡ Taken keep.Drops (item.One the.NextDeclared ∷ next)
declared_comma ext.Plain next = refl
declared_comma ext.Signed next = refl
declared_comma ext.Unsigned next = refl

declared_close : (e : Ext) (next : Items) → settle is.CloseParen (behind_ext e (item.May the.ParamName ∷ item.One the.MoreDeclared ∷ next)) ≡ Taken keep.Keeps next
declared_close ext.Plain next = refl
declared_close ext.Signed next = refl
declared_close ext.Unsigned next = refl

-- what stands behind the parameters of a declaration
abbrev end_kept : Bool → Lexemes
end_kept variadic = dots_kept variadic ++ close_paren_kept ∷ []

-- the first of some parameters is kept in front
declared_in_front : (p : Param) (ps : List Param) (end : Lexemes) → scalar_kept p.ty ∷ (ext_kept p.ext ++ (joined (map declared_param_kept ps) ++ end)) ≡ joined (map declared_param_kept (p ∷ ps)) ++ end
declared_in_front p ps end = ap (λ kept. scalar_kept p.ty ∷ kept) (sym (append_assoc (ext_kept p.ext) (joined (map declared_param_kept ps)) end))

-- behind the type of a parameter, and what stands behind it
abbrev MoreGo : List Param → Bool → Items → Type 0
MoreGo ps variadic next = (e : Ext) →
    goes (behind_ext e (item.May the.ParamName ∷ item.One the.MoreDeclared ∷ next)) (spellings_of (more (map declared_param ps ++ dots variadic) ++ close_paren ∷ [])) ≡ Some (joined (map declared_param_kept ps) ++ end_kept variadic, next)

-- a parameter where one may stand
declared_one : (p : Param) (ps : List Param) (variadic : Bool) (items next : Items) → ((ty : Scalar) → settle (is.Scalar ty) items ≡ Taken keep.Keeps (grammar.extended (item.May the.ParamName ∷ item.One the.MoreDeclared ∷ next))) →
    MoreGo ps variadic next → goes items (spellings_of ((declared_param p ++ more (map declared_param ps ++ dots variadic)) ++ close_paren ∷ [])) ≡ Some (joined (map declared_param_kept (p ∷ ps)) ++ end_kept variadic, next)
declared_one p ps variadic items next at h =
    let others : Parts = more (map declared_param ps ++ dots variadic) in
    scalar_taken p.ty (spellings_of ((ext_behind p.ext ++ others) ++ close_paren ∷ [])) items (grammar.extended (item.May the.ParamName ∷ item.One the.MoreDeclared ∷ next)) (at p.ty)
    ∙ ap (λ parts. taken keep.Keeps (is.Scalar p.ty) (scalar_text p.ty) (goes (grammar.extended (item.May the.ParamName ∷ item.One the.MoreDeclared ∷ next)) (spellings_of parts))) (append_assoc (ext_behind p.ext) others (close_paren ∷ []))
    ∙ ap (taken keep.Keeps (is.Scalar p.ty) (scalar_text p.ty)) (behind_type p.ext (item.May the.ParamName ∷ item.One the.MoreDeclared ∷ next) next (others ++ close_paren ∷ []) (joined (map declared_param_kept ps) ++ end_kept variadic) (h p.ext))
    ∙ ap (λ kept. Some (kept, next)) (declared_in_front p ps (end_kept variadic))

declared_more : (ps : List Param) (variadic : Bool) (next : Items) → MoreGo ps variadic next
declared_more [] false next e = shape_taken (kind.Mark, 41 ∷ []) [] is.CloseParen keep.Keeps (behind_ext e (item.May the.ParamName ∷ item.One the.MoreDeclared ∷ next)) next refl (declared_close e next)
declared_more [] true next e = shape_taken (kind.Mark, 44 ∷ []) ((kind.Word, codes "...") ∷ (kind.Mark, 41 ∷ []) ∷ []) is.Comma keep.Drops (behind_ext e (item.May the.ParamName ∷ item.One the.MoreDeclared ∷ next)) (item.One the.NextDeclared ∷ next) refl (declared_comma e next)
declared_more (p ∷ ps) variadic next e =
    shape_taken (kind.Mark, 44 ∷ []) (spellings_of ((declared_param p ++ more (map declared_param ps ++ dots variadic)) ++ close_paren ∷ [])) is.Comma keep.Drops (behind_ext e (item.May the.ParamName ∷ item.One the.MoreDeclared ∷ next)) (item.One the.NextDeclared ∷ next) refl (declared_comma e next)
    ∙ ap (taken keep.Drops is.Comma (44 ∷ [])) (declared_one p ps variadic (item.One the.NextDeclared ∷ next) next (λ ty. refl) (declared_more ps variadic next))

pub declared_params_go : (ps : List Param) (variadic : Bool) (next : Items) →
    goes (item.One the.DeclaredParams ∷ next) (spellings_of (listed (map declared_param ps ++ dots variadic) ++ close_paren ∷ [])) ≡ Some ((joined (map declared_param_kept ps) ++ dots_kept variadic) ++ close_paren_kept ∷ [], next)
declared_params_go [] false next = refl
declared_params_go [] true next = refl
declared_params_go (p ∷ ps) variadic next =
    declared_one p ps variadic (item.One the.DeclaredParams ∷ next) next (λ ty. refl) (declared_more ps variadic next)
    ∙ ap (λ kept. Some (kept, next)) (sym (append_assoc (joined (map declared_param_kept (p ∷ ps))) (dots_kept variadic) (close_paren_kept ∷ [])))

-- ---- parameters of a definition

defined_local : (e : Ext) (items : Items) → settle is.Local (behind_ext e (item.May the.ParamName ∷ items)) ≡ Taken keep.Keeps items
defined_local ext.Plain items = refl
defined_local ext.Signed items = refl
defined_local ext.Unsigned items = refl

-- a parameter with its name, where one may stand, before others
defined_one : (k : ℕ) (p : Param) (others : Parts) (kept : Lexemes) (items next : Items) → ((ty : Scalar) → settle (is.Scalar ty) items ≡ Taken keep.Keeps (grammar.extended (item.May the.ParamName ∷ item.Further the.Param ∷ grammar.close_paren ∷ next))) →
    goes (item.Further the.Param ∷ grammar.close_paren ∷ next) (spellings_of (others ++ close_paren ∷ [])) ≡ Some (kept ++ close_paren_kept ∷ [], next) →
    goes items (spellings_of (((declared_param p ++ space ∷ local (param_text k) ∷ []) ++ others) ++ close_paren ∷ []))
    ≡ Some (((declared_param_kept p ++ local_kept (param_text k) ∷ []) ++ kept) ++ close_paren_kept ∷ [], next)
defined_one k p others kept items next at h =
    let name : Parts = space ∷ local (param_text k) ∷ [] in
    let then : Items = grammar.extended (item.May the.ParamName ∷ item.Further the.Param ∷ grammar.close_paren ∷ next) in
    let kept_name : Lexemes = local_kept (param_text k) ∷ [] in
    scalar_taken p.ty (spellings_of (((ext_behind p.ext ++ name) ++ others) ++ close_paren ∷ [])) items then (at p.ty)
    ∙ ap (λ parts. taken keep.Keeps (is.Scalar p.ty) (scalar_text p.ty) (goes then (spellings_of parts)))
    (append_assoc (ext_behind p.ext ++ name) others (close_paren ∷ []) ∙ append_assoc (ext_behind p.ext) name (others ++ close_paren ∷ []))
    ∙ ap (taken keep.Keeps (is.Scalar p.ty) (scalar_text p.ty))
    (behind_type p.ext (item.May the.ParamName ∷ item.Further the.Param ∷ grammar.close_paren ∷ next) next (name ++ (others ++ close_paren ∷ [])) (local_kept (param_text k) ∷ (kept ++ close_paren_kept ∷ []))
    (shape_taken (kind.LocalName, param_text k) _ is.Local keep.Keeps (behind_ext p.ext (item.May the.ParamName ∷ item.Further the.Param ∷ grammar.close_paren ∷ next)) (item.Further the.Param ∷ grammar.close_paren ∷ next) refl (defined_local p.ext (item.Further the.Param ∷ grammar.close_paren ∷ next))
    ∙ ap (taken keep.Keeps is.Local (param_text k)) h))
    ∙ ap (λ ks. Some (scalar_kept p.ty ∷ ks, next))
    (sym (append_assoc (ext_kept p.ext ++ kept_name) kept (close_paren_kept ∷ []) ∙ append_assoc (ext_kept p.ext) kept_name (kept ++ close_paren_kept ∷ [])))

defined_more : (k : ℕ) (ps : List Param) (next : Items) →
    goes (item.Further the.Param ∷ grammar.close_paren ∷ next) (spellings_of (more (defined_params k ps) ++ close_paren ∷ [])) ≡ Some (joined (defined_params_kept k ps) ++ close_paren_kept ∷ [], next)
defined_more k [] next = refl
defined_more k (p ∷ ps) next =
    ap (taken keep.Drops is.Comma (44 ∷ [])) (defined_one k p (more (defined_params (suc k) ps)) (joined (defined_params_kept (suc k) ps)) (item.One the.Param ∷ item.Further the.Param ∷ grammar.close_paren ∷ next) next (λ ty. refl) (defined_more (suc k) ps next))

pub defined_params_go : (ps : List Param) (next : Items) →
    goes (item.Separated the.Param ∷ grammar.close_paren ∷ next) (spellings_of (listed (defined_params 0 ps) ++ close_paren ∷ [])) ≡ Some (joined (defined_params_kept 0 ps) ++ close_paren_kept ∷ [], next)
defined_params_go [] next = refl
defined_params_go (p ∷ ps) next = defined_one 0 p (more (defined_params 1 ps)) (joined (defined_params_kept 1 ps)) (item.Separated the.Param ∷ grammar.close_paren ∷ next) next (λ ty. refl) (defined_more 1 ps next)
