-- Written declarations and definitions are read again.
use Rattle.std.proofs.Common.{◌≡◌, ◌∙◌, ℕ, ◌+◌, Bool, false, not, ◌&&◌, ◌||◌, List, [], ◌∷◌, ◌++◌, length, Option, Some, None, option_and_then, refl, sym, ap, subst, append_assoc}
use Rattle.std.specs.Prelude.{IfNone, OnSome}
use Rattle.std.specs.Fmt.{decimal}
use Rattle.std.proofs.lemmas.Bool.{cond-true}
use Rattle.ir_lexer.specs.Texts.{name_of}
use Rattle.ir_types.specs.declared.scalar.Scalar.{Scalar}
use Rattle.ir_types.specs.declared.scalar.Ext.{Ext}
use Rattle.ir_types.specs.declared.scalar.Ext.TheVariants as ext
use Rattle.ir_syntax.specs.declared.item.Linkage.{Linkage}
use Rattle.ir_syntax.specs.declared.item.Linkage.TheVariants as linkage
use Rattle.ir_syntax.specs.declared.item.Func.{Func}
use Rattle.ir_syntax.specs.declared.item.Item.{Item}
use Rattle.ir_syntax.specs.declared.item.Item.TheVariants as item
use Rattle.ir_syntax.specs.declared.body.Body.{Body}
use Rattle.ir_syntax.specs.FormedBody.{is_intrinsic}
use Rattle.ir_syntax.specs.FormedItem.{is_reserved, FormedFunc}
use Rattle.ir_scope.specs.Scopes.{Env}
use Rattle.ir_body.specs.Bodies.{body_at}
use Rattle.ir_locals.specs.Locals.{is_name}
use Rattle.ir_parser.specs.Items.{Head, head_with, head_extended, head_linked, declared, declaration_of, defined, definition_of, item_of}
use Rattle.ir_parser.proofs.Heading.{head_found, defined_by}
use Rattle.ir_writer.specs.Names.{name_text}
use Rattle.round_trip.proofs.Grammar.Kept.{Lexemes, close_paren_kept, name_kept, ext_kept, dots_kept, linkage_kept, returned_kept, head_kept, func_kept, body_kept}
use Rattle.round_trip.proofs.Modules.Names.{declarable-passes, plain-passes, defined-free}
use Rattle.round_trip.proofs.Modules.ParamNames.{texts_from, param_name, declared-params, defined-params}
use Rattle.round_trip.proofs.Modules.Params.{unnamed, declared_kept, declared-back, declared-types, declared-names, named_from, defined_kept, defined-back, defined-types, defined-names, all-past}

-- ---- heads

-- what is returned, the name and the rest
abbrev pub head_of : Option Scalar → List ℕ → Lexemes → Lexemes
head_of returns name ks = returned_kept returns ∷ name_kept name ∷ ks

extended : (link : Linkage) (e : Ext) (returns : Option Scalar) (name : List ℕ) (ks : Lexemes) → name_of (name_text name) ≡ name → head_extended link (ext_kept e ++ head_of returns name ks) ≡ head_with name link returns e ks
extended link ext.Plain None name ks back = ap (λ n. head_with n link None ext.Plain ks) back
extended link ext.Plain (Some ty) name ks back = ap (λ n. head_with n link (Some ty) ext.Plain ks) back
extended link ext.Signed None name ks back = ap (λ n. head_with n link None ext.Signed ks) back
extended link ext.Signed (Some ty) name ks back = ap (λ n. head_with n link (Some ty) ext.Signed ks) back
extended link ext.Unsigned None name ks back = ap (λ n. head_with n link None ext.Unsigned ks) back
extended link ext.Unsigned (Some ty) name ks back = ap (λ n. head_with n link (Some ty) ext.Unsigned ks) back

linked : (link : Linkage) (e : Ext) (returns : Option Scalar) (name : List ℕ) (ks : Lexemes) → head_linked (linkage_kept link ++ (ext_kept e ++ head_of returns name ks)) ≡ head_extended link (ext_kept e ++ head_of returns name ks)
linked linkage.External ext.Plain None name ks = refl
linked linkage.External ext.Plain (Some ty) name ks = refl
linked linkage.External ext.Signed returns name ks = refl
linked linkage.External ext.Unsigned returns name ks = refl
linked linkage.Internal e returns name ks = refl
linked linkage.Private e returns name ks = refl

-- ---- functions

-- the function with this linkage and body, and variadic or not
abbrev with : Func → Linkage → Bool → Option Body → Func
with func link variadic body = record { name = func.name; linkage = link; returns = func.returns; ret_ext = func.ret_ext; params = func.params; variadic = variadic; body = body }

abbrev head_with_names : Func → Linkage → Bool → List (List ℕ) → Lexemes → Head
head_with_names func link variadic names rest = record { func = with func link variadic None; names = names; rest = rest }

-- a name that is written stands for this name
abbrev pub IsBack : List ℕ → Type 0
IsBack name = name_of (name_text name) ≡ name

module _ (items : List Item) (func : Func) (formed : FormedFunc items func) (back : IsBack func.name) where
  declared-head : head_extended linkage.External (head_kept func (declared_kept func.params ++ dots_kept func.variadic)) ≡ Some (head_with_names func linkage.External func.variadic (texts_from decimal 0 (length func.params)) [])
  declared-head =
      let ks : Lexemes = declared_kept func.params in
      let all : Lexemes = ks ++ (dots_kept func.variadic ++ close_paren_kept ∷ []) in
      let found = head_found func.name linkage.External func.returns func.ret_ext all (unnamed func.params) func.variadic (length ks + length (dots_kept func.variadic) + 1) (texts_from decimal 0 (length func.params)) func.params []
      (declared-back func.params func.variadic []) (declared-names 0 func.params) (declared-params (length func.params) formed.few_params) (declared-types func.params) (sym (all-past ks func.variadic [])) in
      extended linkage.External func.ret_ext func.returns func.name ((ks ++ dots_kept func.variadic) ++ close_paren_kept ∷ []) back
      ∙ ap (head_with func.name linkage.External func.returns func.ret_ext) (append_assoc ks (dots_kept func.variadic) (close_paren_kept ∷ []))
      ∙ sym found

  declaration-back : declaration_of (head_kept func (declared_kept func.params ++ dots_kept func.variadic)) ≡ Some (item.Func (with func linkage.External func.variadic None))
  declaration-back =
      ap (option_and_then declared) declared-head
      ∙ cond-true (is_name func.name && (not (is_reserved func.name) || is_intrinsic func.name)) (Some (item.Func (with func linkage.External func.variadic None))) None (declarable-passes func.name formed.has_name formed.intrinsic)

  defined-head : (rest : Lexemes) → head_linked (linkage_kept func.linkage ++ (head_kept func (defined_kept 0 func.params) ++ rest)) ≡ Some (head_with_names func func.linkage false (texts_from param_name 0 (length func.params)) rest)
  defined-head rest =
      let ks : Lexemes = defined_kept 0 func.params in
      let inner : Lexemes = (ks ++ close_paren_kept ∷ []) ++ rest in
      let found = head_found func.name func.linkage func.returns func.ret_ext (ks ++ close_paren_kept ∷ rest) (named_from 0 func.params) false (length ks + length (dots_kept false) + 1) (texts_from param_name 0 (length func.params)) func.params rest
      (defined-back func.params rest) (defined-names 0 0 func.params) (defined-params (length func.params) formed.few_params) (defined-types 0 func.params) (sym (all-past ks false rest)) in
      ap (λ front. head_linked (linkage_kept func.linkage ++ front)) (append_assoc (ext_kept func.ret_ext) (head_of func.returns func.name (ks ++ close_paren_kept ∷ [])) rest)
      ∙ linked func.linkage func.ret_ext func.returns func.name inner
      ∙ extended func.linkage func.ret_ext func.returns func.name inner back
      ∙ ap (head_with func.name func.linkage func.returns func.ret_ext) (append_assoc ks (close_paren_kept ∷ []) rest)
      ∙ sym found

  definition-back : (env : Env) (names : List (List ℕ)) (body : Body) → func.body ≡ Some body → body_at env (texts_from param_name 0 (length func.params)) (body_kept names body) ≡ Some body →
      definition_of env (linkage_kept func.linkage ++ (head_kept func (defined_kept 0 func.params) ++ body_kept names body)) ≡ Some (item.Func (with func func.linkage false (Some body)))
  definition-back env names body e read =
      let head : Head = head_with_names func func.linkage false (texts_from param_name 0 (length func.params)) (body_kept names body) in
      ap (option_and_then (defined env)) (defined-head (body_kept names body))
      ∙ sym (defined_by env head func.name (Some body) refl (plain-passes func.name formed.has_name (defined-free items func body formed e)) (sym read))

  func-with : (env : Env) (names : List (List ℕ)) (body : Option Body) → func.body ≡ body → ((b : Body) → body ≡ Some b → body_at env (texts_from param_name 0 (length func.params)) (body_kept names b) ≡ Some b) →
      item_of env func.name (func_kept names func body) ≡ Some (item.Func (with func func.linkage func.variadic body))
  func-with env names None e read =
      let external : func.linkage ≡ linkage.External = subst (λ body. IfNone body (func.linkage ≡ linkage.External)) e formed.declared in
      declaration-back ∙ ap (λ link. Some (item.Func (with func link func.variadic None))) (sym external)
  func-with env names (Some body) e read =
      let fixed : func.variadic ≡ false = subst (λ body. OnSome body (func.variadic ≡ false)) e formed.fixed in
      definition-back env names body e (read body refl) ∙ ap (λ variadic. Some (item.Func (with func func.linkage variadic (Some body)))) (sym fixed)

  pub func-back : (env : Env) (names : List (List ℕ)) → ((b : Body) → func.body ≡ Some b → body_at env (texts_from param_name 0 (length func.params)) (body_kept names b) ≡ Some b) →
      item_of env func.name (func_kept names func func.body) ≡ Some (item.Func func)
  func-back env names read = func-with env names func.body refl read
