-- An item that entities of bytes stand for is in range.
use Rattle.std.proofs.Common.{◌≡◌, ℕ, Bool, true, false, not, cond, ◌&&◌, ◌||◌, List, [], ◌∷◌, map, drop, Option, Some, None, option_map, option_and_then, Ok, refl, sym, subst}
use Rattle.std.specs.Prelude.{All, IfSome, IfOk}
use Rattle.std.proofs.lemmas.List.Elements.{All-nil, All-cons, All-head, All-tail}
use Rattle.ir_lexer.specs.Texts.{name_of}
use Rattle.ir_types.specs.declared.scalar.Scalar.{Scalar}
use Rattle.ir_types.specs.declared.scalar.Ext.{Ext}
use Rattle.ir_types.specs.declared.shape.Ty.{Ty}
use Rattle.ir_syntax.specs.declared.constant.Const.{Const}
use Rattle.ir_syntax.specs.declared.item.Linkage.{Linkage}
use Rattle.ir_syntax.specs.declared.item.Linkage.TheVariants as linkage
use Rattle.ir_syntax.specs.declared.item.Param.{Param}
use Rattle.ir_syntax.specs.declared.item.Item.{Item}
use Rattle.ir_syntax.specs.declared.item.Item.TheVariants as item
use Rattle.ir_syntax.specs.declared.body.Body.{Body}
use Rattle.ir_syntax.specs.FormedBody.{is_intrinsic}
use Rattle.ir_syntax.specs.FormedItem.{is_reserved}
use Rattle.ir_grammar.specs.declared.shape.Shape.TheVariants as is
use Rattle.ir_grammar.specs.Tokens.{Kept}
use Rattle.ir_scope.specs.Scopes.{Env}
use Rattle.ir_scope.specs.Types.{written_type}
use Rattle.ir_constants.specs.Constants.{constant_at}
use Rattle.ir_locals.specs.Locals.{is_name}
use Rattle.ir_operands.specs.Marks.{ext_at}
use Rattle.ir_body.specs.Bodies.{body_at}
use Rattle.type_names.specs.TypeNames.{Named, named_types}
use Rattle.ir_parser.specs.Items.{item_name_of, is_constant, is_plain, made_var, valued, var_kind, var_linked, var_of, names_from, params_at, are_params, Head, head_with, head_named, head_returning, head_extended, declared, declaration_of, with_body, defined, head_linked, definition_of, item_of}
use Rattle.ir_parser.specs.Modules.{env_of, items_from}
use Rattle.ir_parser.proofs.FormingModules.{items-all}
use Rattle.ir_writer.specs.Ranges.{AreBytes, ItemInRange}
use Rattle.round_trip.proofs.Ranges.Escapes.{dropped_bytes, name_bytes}
use Rattle.round_trip.proofs.Ranges.Texts.{LexemesAreBytes, first_lexeme, lexemes_behind, dropped_lexemes}
use Rattle.round_trip.proofs.Ranges.Types.{IsTypeIn, AreTypesIn, written_in, named_in}
use Rattle.round_trip.proofs.Ranges.Constants.{IsConstantIn, constant_read}
use Rattle.round_trip.proofs.Ranges.Bodies.{IsBodyIn, body-in}

-- ---- what is made of parts

some-map : {X Y : Type 0} (P : X → Type 0) (Q : Y → Type 0) (make : X → Y) (found : Option X) → IfSome found P → ((x : X) → P x → Q (make x)) → IfSome (option_map make found) Q
some-map P Q make None h step = tt
some-map P Q make (Some x) h step = step x h

some-next : {X Y : Type 0} (P : X → Type 0) (Q : Y → Type 0) (next : X → Option Y) (found : Option X) → IfSome found P → ((x : X) → P x → IfSome (next x) Q) → IfSome (option_and_then next found) Q
some-next P Q next None h step = tt
some-next P Q next (Some x) h step = step x h

some-where : {X : Type 0} (P : X → Type 0) (b : Bool) (found : Option X) → IfSome found P → IfSome (cond b found None) P
some-where P true found h = h
some-where P false found h = tt

-- the name behind a sign
named-bytes : (text : List ℕ) → AreBytes text → AreBytes (name_of (drop 1 text))
named-bytes text are = name_bytes (drop 1 text) (dropped_bytes 1 text are)

-- ---- variables

module _ (env : Env) (looks : AreTypesIn env.types) (name : List ℕ) (named : AreBytes name) where
  valued-in : (link : Linkage) (declared constant : Bool) (ty : Ty) (ks : List Kept) → LexemesAreBytes ks → IsTypeIn ty → IfSome (valued env name link declared constant ty ks) ItemInRange
  valued-in link true constant ty ks are fits = (named, fits, tt)
  valued-in link false constant ty ks are fits =
      some-map (λ (f : Const × ℕ). IsConstantIn f.0) ItemInRange (λ f. made_var name link constant ty (Some f.0) (drop f.1 ks)) (constant_at env ty ks) (constant_read env ty ks are) (λ f p. (named, fits, p))

  kind-in : (link : Linkage) (declared : Bool) (ks : List Kept) → LexemesAreBytes ks → IfSome (var_kind env name link declared ks) ItemInRange
  kind-in link declared [] are = tt
  kind-in link declared (k ∷ ks) are =
      some-next (λ (f : Ty × ℕ). IsTypeIn f.0) ItemInRange (λ t. valued env name link declared (is_constant k.0) t.0 (drop t.1 ks)) (written_type env.types ks) (written_in env.types looks ks)
      (λ t fits. valued-in link declared (is_constant k.0) t.0 (drop t.1 ks) (dropped_lexemes t.1 ks (lexemes_behind k ks are)) fits)

  linked-in : (ks : List Kept) → LexemesAreBytes ks → IfSome (var_linked env name ks) ItemInRange
  linked-in [] are = tt
  linked-in ((is.Linkage linkage.External, text) ∷ ks) are = kind-in linkage.External true ks (lexemes_behind (is.Linkage linkage.External, text) ks are)
  linked-in ((is.Linkage link, text) ∷ ks) are = kind-in link false ks (lexemes_behind (is.Linkage link, text) ks are)
  linked-in (k ∷ ks) are = kind-in linkage.External false (k ∷ ks) are

  var-in : (ks : List Kept) → LexemesAreBytes ks → IfSome (var_of env name ks) ItemInRange
  var-in ks are = some-where ItemInRange (is_plain name) (var_linked env name ks) (linked-in ks are)

-- ---- heads of functions

-- A head whose name and whose lexemes behind it are bytes, without a body.
record IsHeadIn (head : Head) : Type 0 where
  pub named : AreBytes head.func.name
  pub rest : LexemesAreBytes head.rest
  pub no_body : head.func.body ≡ None

head-with : (name : List ℕ) (link : Linkage) (returns : Option Scalar) (ext : Ext) (ks : List Kept) → AreBytes name → LexemesAreBytes ks → IfSome (head_with name link returns ext ks) IsHeadIn
head-with name link returns ext ks named are = cases (params_at ks)
  where
    cases : (found : Option ((List (Param × Option (List ℕ)) × Bool) × ℕ)) →
        IfSome (option_and_then (λ f.
        let names = names_from 0 (map (λ (p : Param × Option (List ℕ)). p.1) f.0.0) in
        cond (are_params names) (Some (record {
          func = record { name = name; linkage = link; returns = returns; ret_ext = ext; params = map (λ (p : Param × Option (List ℕ)). p.0) f.0.0; variadic = f.0.1; body = None };
          names = names;
          rest = drop f.1 ks;
        })) None) found) IsHeadIn
    cases None = tt
    cases (Some f) =
        some-where IsHeadIn (are_params (names_from 0 (map (λ (p : Param × Option (List ℕ)). p.1) f.0.0))) _ (record { named = named; rest = dropped_lexemes f.1 ks are; no_body = refl })

head-named : (link : Linkage) (returns : Option Scalar) (ext : Ext) (ks : List Kept) → LexemesAreBytes ks → IfSome (head_named link returns ext ks) IsHeadIn
head-named link returns ext [] are = tt
head-named link returns ext ((is.At kind, text) ∷ ks) are =
    head-with (name_of (drop 1 text)) link returns ext ks (named-bytes text (first_lexeme (is.At kind, text) ks are)) (lexemes_behind (is.At kind, text) ks are)
head-named link returns ext (k ∷ ks) are = tt

head-returning : (link : Linkage) (ext : Ext) (ks : List Kept) → LexemesAreBytes ks → IfSome (head_returning link ext ks) IsHeadIn
head-returning link ext [] are = tt
head-returning link ext ((is.Void, text) ∷ ks) are = head-named link None ext ks (lexemes_behind (is.Void, text) ks are)
head-returning link ext ((is.Scalar ty, text) ∷ ks) are = head-named link (Some ty) ext ks (lexemes_behind (is.Scalar ty, text) ks are)
head-returning link ext (k ∷ ks) are = tt

head-extended : (link : Linkage) (ks : List Kept) → LexemesAreBytes ks → IfSome (head_extended link ks) IsHeadIn
head-extended link ks are = head-returning link (ext_at ks).0 (drop (ext_at ks).1 ks) (dropped_lexemes (ext_at ks).1 ks are)

head-linked : (ks : List Kept) → LexemesAreBytes ks → IfSome (head_linked ks) IsHeadIn
head-linked [] are = head-extended linkage.External [] are
head-linked ((is.Linkage link, text) ∷ ks) are = head-extended link ks (lexemes_behind (is.Linkage link, text) ks are)
head-linked (k ∷ ks) are = head-extended linkage.External (k ∷ ks) are

-- ---- functions

no-body : (body : Option Body) → body ≡ None → IfSome body IsBodyIn
no-body body e = subst (λ b. IfSome b IsBodyIn) (sym e) tt

declaration-in : (ks : List Kept) → LexemesAreBytes ks → IfSome (declaration_of ks) ItemInRange
declaration-in ks are =
    some-next IsHeadIn ItemInRange declared (head_extended linkage.External ks) (head-extended linkage.External ks are)
    (λ head h. some-where ItemInRange (is_name head.func.name && (not (is_reserved head.func.name) || is_intrinsic head.func.name)) (Some (item.Func head.func)) (h.named, no-body head.func.body h.no_body))

module _ (env : Env) (looks : AreTypesIn env.types) where
  definition-in : (ks : List Kept) → LexemesAreBytes ks → IfSome (definition_of env ks) ItemInRange
  definition-in ks are =
      some-next IsHeadIn ItemInRange (defined env) (head_linked ks) (head-linked ks are)
      (λ head h. some-where ItemInRange (is_plain head.func.name) (option_map (with_body head.func) (body_at env head.names head.rest))
      (some-map IsBodyIn ItemInRange (with_body head.func) (body_at env head.names head.rest) (body-in env looks head.names head.rest h.rest) (λ body p. (h.named, p))))

  -- ---- items

  -- An item that an entity of bytes stands for under its name is in range.
  item-in : (name : List ℕ) (e : List Kept) → item_name_of e ≡ Some name → LexemesAreBytes e → IfSome (item_of env name e) ItemInRange
  item-in name [] called are = tt
  item-in name ((is.At kind, text) ∷ ks) called are =
      let same : name_of (drop 1 text) ≡ name = cc in
      var-in env looks name (subst AreBytes same (named-bytes text (first_lexeme (is.At kind, text) ks are))) ks (lexemes_behind (is.At kind, text) ks are)
  item-in name ((is.Declare, text) ∷ ks) called are = declaration-in ks (lexemes_behind (is.Declare, text) ks are)
  item-in name ((is.Define, text) ∷ ks) called are = definition-in ks (lexemes_behind (is.Define, text) ks are)
  item-in name (k ∷ ks) called are = tt

  abbrev AreIn : List (List Kept) → ℕ → List Item → Type 0
  AreIn es j items = All LexemesAreBytes es → All ItemInRange items

  items-in : (types : List Named) (es : List (List Kept)) → IfOk (items_from env types es 0 0) (AreIn es 0)
  items-in types es =
      items-all env types AreIn (λ j are. All-nil ItemInRange) (λ e es j items called h are. h (All-tail LexemesAreBytes e es are))
      (λ e es j items name i called first found h are.
      All-cons ItemInRange i items (subst (λ o. IfSome o ItemInRange) found (item-in name e called (All-head LexemesAreBytes e es are))) (h (All-tail LexemesAreBytes e es are))) es 0 0

-- Items that entities of bytes stand for are in range.
pub items_in_range : (entities : List (List Kept)) → All LexemesAreBytes entities → (items : List Item) → items_from (env_of entities) (named_types entities) entities 0 0 ≡ Ok items → All ItemInRange items
items_in_range entities are items e =
    subst (λ r. IfOk r (λ found. All LexemesAreBytes entities → All ItemInRange found)) e (items-in (env_of entities) (named_in (named_types entities)) (named_types entities) entities) are
