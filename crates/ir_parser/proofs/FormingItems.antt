-- An item that entities stand for has the entity's name, and is one that a text can write.
use Rattle.std.proofs.Common.{◌≡◌, ◌≢◌, ◌∙◌, ℕ, suc, ◌≤◌, Bool, true, false, not, cond, ◌&&◌, ◌||◌, nat_le, List, [], ◌∷◌, length, map, drop, Option, Some, None, option_map, option_and_then, refl, ap, sym, subst}
use Rattle.std.specs.Prelude.{AllPairs, IfSome, IfNone, OnSome, IsNone}
use Rattle.std.specs.List.{list_all}
use Rattle.std.proofs.lemmas.Bool.{false≢true, and_parts, leb-true, not-true}
use Rattle.std.proofs.lemmas.List.{length-map}
use Rattle.ir_lexer.specs.Spelled.{is_decimal}
use Rattle.ir_lexer.specs.Texts.{name_of}
use Rattle.ir_types.specs.declared.scalar.Scalar.{Scalar}
use Rattle.ir_types.specs.declared.scalar.Ext.{Ext}
use Rattle.ir_types.specs.declared.shape.Ty.{Ty}
use Rattle.ir_types.proofs.Naming.{name-is}
use Rattle.ir_syntax.specs.declared.constant.Const.{Const}
use Rattle.ir_syntax.specs.declared.item.Linkage.{Linkage}
use Rattle.ir_syntax.specs.declared.item.Linkage.TheVariants as linkage
use Rattle.ir_syntax.specs.declared.item.Param.{Param}
use Rattle.ir_syntax.specs.declared.item.Item.{Item}
use Rattle.ir_syntax.specs.declared.item.Item.TheVariants as item
use Rattle.ir_syntax.specs.declared.body.Body.{Body}
use Rattle.ir_syntax.specs.Suits.{IsType, Suits}
use Rattle.ir_syntax.specs.FormedBody.{is_intrinsic, item_name, IsAlign, FormedBody}
use Rattle.ir_syntax.specs.FormedItem.{IsName, is_reserved, FormedItem}
use Rattle.ir_grammar.specs.declared.shape.Shape.TheVariants as is
use Rattle.ir_grammar.specs.declared.shape.AtName.TheVariants as at
use Rattle.ir_grammar.specs.declared.shape.Digits.TheVariants as digits
use Rattle.ir_grammar.specs.Numbers.{number_of, exponent_of}
use Rattle.ir_grammar.specs.Tokens.{Kept}
use Rattle.name_table.specs.Places.{are_distinct}
use Rattle.ir_scope.specs.Scopes.{Env}
use Rattle.ir_scope.specs.Types.{written_type}
use Rattle.ir_constants.specs.Constants.{constant_at}
use Rattle.ir_locals.specs.Locals.{is_name}
use Rattle.ir_operands.specs.Marks.{ext_at}
use Rattle.ir_body.specs.Bodies.{body_at}
use Rattle.ir_operands.proofs.FormingReadings.{IsRead}
use Rattle.ir_operands.proofs.FormingTypes.{exponent-few, written-read}
use Rattle.ir_body.proofs.FormingBodies.{body-read}
use Rattle.ir_operands.proofs.FormingConstants.{constant-suits}
use Rattle.ir_parser.specs.Items.{first_symbol, item_name_of, last_align, is_constant, is_plain, made_var, valued, var_kind, var_linked, var_of, names_from, params_at, are_params, Head, head_with, head_named, head_returning, head_extended, declared, declaration_of, with_body, defined, head_linked, definition_of, item_of}

-- ---- names

plain-name : (name : List ℕ) → is_plain name ≡ true → IsName name × (is_reserved name ≡ false)
plain-name name e =
    let both = and_parts (is_name name) (not (is_reserved name)) e in
    (name-is name both.0, not-true (is_reserved name) both.1)

-- ---- variables

last-few : (found : Option ℕ) (ks : List Kept) → IsAlign found → IsAlign (last_align found ks)
last-few found [] few = few
last-few found ((is.Int digits.Power, text) ∷ ks) few = last-few (exponent_of (number_of text)) ks (exponent-few (number_of text))
last-few found (k ∷ ks) few = few

-- The item has this name, and is one that a text can write.
pub record IsItem (items : List Item) (name : List ℕ) (i : Item) : Type 0 where
  pub named : item_name i ≡ name
  pub formed : FormedItem items i

module _ (env : Env) (items : List Item) (many : length env.symbols ≡ length items) (name : List ℕ) where
  var-formed : (link : Linkage) (constant : Bool) (ty : Ty) (init : Option Const) (ks : List Kept) → is_plain name ≡ true → IsType ty → IfSome init (Suits (length items) ty) → IfNone init (link ≡ linkage.External) →
      IsItem items name (made_var name link constant ty init ks)
  var-formed link constant ty init ks plain fits suits declared =
      let has = plain-name name plain in
      record { named = refl; formed = record { has_name = has.0; not_reserved = has.1; has_type = fits; suits = suits; declared = declared; has_align = last-few None ks tt } }

  valued-formed : (link : Linkage) (declared constant : Bool) (ty : Ty) (ks : List Kept) → is_plain name ≡ true → (declared ≡ true → link ≡ linkage.External) → IsType ty →
      IfSome (valued env name link declared constant ty ks) (IsItem items name)
  valued-formed link true constant ty ks plain external fits = var-formed link constant ty None ks plain fits tt (external refl)
  valued-formed link false constant ty ks plain external fits = cases (constant_at env ty ks) (constant-suits env ty ks)
    where
      cases : (found : Option (Const × ℕ)) → IsRead (Suits (length env.symbols) ty) found → IfSome (option_map (λ f. made_var name link constant ty (Some f.0) (drop f.1 ks)) found) (IsItem items name)
      cases None h = tt
      cases (Some f) h = var-formed link constant ty (Some f.0) (drop f.1 ks) plain fits (subst (λ n. Suits n ty f.0) many h) tt

  kind-formed : (link : Linkage) (declared : Bool) (ks : List Kept) → is_plain name ≡ true → (declared ≡ true → link ≡ linkage.External) → IfSome (var_kind env name link declared ks) (IsItem items name)
  kind-formed link declared [] plain external = tt
  kind-formed link declared (k ∷ ks) plain external = cases (written_type env.types ks) (written-read env.types ks)
    where
      cases : (found : Option (Ty × ℕ)) → IsRead IsType found → IfSome (option_and_then (λ t. valued env name link declared (is_constant k.0) t.0 (drop t.1 ks)) found) (IsItem items name)
      cases None h = tt
      cases (Some t) h = valued-formed link declared (is_constant k.0) t.0 (drop t.1 ks) plain external h

  linked-formed : (ks : List Kept) → is_plain name ≡ true → IfSome (var_linked env name ks) (IsItem items name)
  linked-formed [] plain = tt
  linked-formed ((is.Linkage linkage.External, text) ∷ ks) plain = kind-formed linkage.External true ks plain (λ e. refl)
  linked-formed ((is.Linkage link, text) ∷ ks) plain = kind-formed link false ks plain (λ e. absurd (false≢true e))
  linked-formed (k ∷ ks) plain = kind-formed linkage.External false (k ∷ ks) plain (λ e. refl)

  var-read : (ks : List Kept) → IfSome (var_of env name ks) (IsItem items name)
  var-read ks = cases (is_plain name) refl
    where
      cases : (b : Bool) → is_plain name ≡ b → IfSome (cond b (var_linked env name ks) None) (IsItem items name)
      cases true plain = linked-formed ks plain
      cases false plain = tt

-- ---- heads of functions

-- A head: the linkage, and as many names as parameters, 32 at most.
pub record IsHead (link : Linkage) (head : Head) : Type 0 where
  pub linkage : head.func.linkage ≡ link
  pub names : length head.names ≡ length head.func.params
  pub few : length head.func.params ≤ 32
  pub no_body : head.func.body ≡ None

-- the first symbol is the function's name
abbrev IsNamed : List Kept → Head → Type 0
IsNamed ks head = (name : List ℕ) → first_symbol ks ≡ Some name → head.func.name ≡ name

names-count : (k : ℕ) (names : List (Option (List ℕ))) → length (names_from k names) ≡ length names
names-count k [] = refl
names-count k (None ∷ names) = ap suc (names-count (suc k) names)
names-count k (Some name ∷ names) = ap suc (names-count (cond (is_decimal name) (suc k) k) names)

abbrev IsBoth : Linkage → List Kept → Head → Type 0
IsBoth link ks head = IsHead link head × IsNamed ks head

head-with : (name : List ℕ) (link : Linkage) (returns : Option Scalar) (ext : Ext) (ks : List Kept) → IfSome (head_with name link returns ext ks) (λ head. IsHead link head × (head.func.name ≡ name))
head-with name link returns ext ks = cases (params_at ks)
  where
    tested : (f : (List (Param × Option (List ℕ)) × Bool) × ℕ) (b : Bool) → are_params (names_from 0 (map (λ (p : Param × Option (List ℕ)). p.1) f.0.0)) ≡ b →
        IfSome (cond b (Some (record {
          func = record { name = name; linkage = link; returns = returns; ret_ext = ext; params = map (λ (p : Param × Option (List ℕ)). p.0) f.0.0; variadic = f.0.1; body = None };
          names = names_from 0 (map (λ (p : Param × Option (List ℕ)). p.1) f.0.0);
          rest = drop f.1 ks;
        })) None) (λ (head : Head). IsHead link head × (head.func.name ≡ name))
    tested f true e =
        let names : List (List ℕ) = names_from 0 (map (λ (p : Param × Option (List ℕ)). p.1) f.0.0) in
        let a = and_parts (nat_le (length names) 32 && list_all is_name names) (are_distinct names) e in
        let b = and_parts (nat_le (length names) 32) (list_all is_name names) a.0 in
        let many : length names ≡ length (map (λ (p : Param × Option (List ℕ)). p.0) f.0.0) =
        names-count 0 (map (λ (p : Param × Option (List ℕ)). p.1) f.0.0) ∙ length-map f.0.0 (λ (p : Param × Option (List ℕ)). p.1) ∙ sym (length-map f.0.0 (λ (p : Param × Option (List ℕ)). p.0)) in
        (record { linkage = refl; names = many; few = subst (λ n. n ≤ 32) many (leb-true (length names) 32 b.0); no_body = refl }, refl)
    tested f false e = tt

    cases : (found : Option ((List (Param × Option (List ℕ)) × Bool) × ℕ)) →
        IfSome (option_and_then (λ f.
        let names = names_from 0 (map (λ (p : Param × Option (List ℕ)). p.1) f.0.0) in
        cond (are_params names) (Some (record {
          func = record { name = name; linkage = link; returns = returns; ret_ext = ext; params = map (λ (p : Param × Option (List ℕ)). p.0) f.0.0; variadic = f.0.1; body = None };
          names = names;
          rest = drop f.1 ks;
        })) None) found) (λ (head : Head). IsHead link head × (head.func.name ≡ name))
    cases None = tt
    cases (Some f) = tested f (are_params (names_from 0 (map (λ (p : Param × Option (List ℕ)). p.1) f.0.0))) refl

weaker : {X : Type 0} (P Q : X → Type 0) (found : Option X) → IfSome found P → ((x : X) → P x → Q x) → IfSome found Q
weaker P Q None h step = tt
weaker P Q (Some x) h step = step x h

head-named : (link : Linkage) (returns : Option Scalar) (ext : Ext) (ks : List Kept) → IfSome (head_named link returns ext ks) (IsBoth link ks)
head-named link returns ext [] = tt
head-named link returns ext ((is.At at.Debug, text) ∷ ks) =
    weaker (λ head. IsHead link head × (head.func.name ≡ name_of (drop 1 text))) (IsBoth link ((is.At at.Debug, text) ∷ ks)) (head_with (name_of (drop 1 text)) link returns ext ks) (head-with (name_of (drop 1 text)) link returns ext ks)
    (λ head h. (h.0, λ name e. cc))
head-named link returns ext ((is.At kind, text) ∷ ks) =
    weaker (λ head. IsHead link head × (head.func.name ≡ name_of (drop 1 text))) (IsBoth link ((is.At kind, text) ∷ ks)) (head_with (name_of (drop 1 text)) link returns ext ks) (head-with (name_of (drop 1 text)) link returns ext ks)
    (λ head h. (h.0, λ name e. let same : name_of (drop 1 text) ≡ name = cc in h.1 ∙ same))
head-named link returns ext (k ∷ ks) = tt

head-returning : (link : Linkage) (ext : Ext) (ks : List Kept) → IfSome (head_returning link ext ks) (IsBoth link ks)
head-returning link ext [] = tt
head-returning link ext ((is.Void, text) ∷ ks) = head-named link None ext ks
head-returning link ext ((is.Scalar ty, text) ∷ ks) = head-named link (Some ty) ext ks
head-returning link ext (k ∷ ks) = tt

head-extended : (link : Linkage) (ks : List Kept) → IfSome (head_extended link ks) (IsBoth link ks)
head-extended link [] = tt
head-extended link ((is.Ext ext, text) ∷ ks) = head-returning link ext ks
head-extended link (k ∷ ks) = head-returning link (ext_at (k ∷ ks)).0 (k ∷ ks)

-- the linkage of a definition may be any
abbrev IsAnyHead : List Kept → Head → Type 0
IsAnyHead ks head = IsHead head.func.linkage head × IsNamed ks head

any-head : (link : Linkage) (ks : List Kept) (found : Option Head) → IfSome found (IsBoth link ks) → IfSome found (IsAnyHead ks)
any-head link ks found h = weaker (IsBoth link ks) (IsAnyHead ks) found h (λ head p. (record { linkage = refl; names = p.0.names; few = p.0.few; no_body = p.0.no_body }, p.1))

head-linked : (ks : List Kept) → IfSome (head_linked ks) (IsAnyHead ks)
head-linked [] = any-head linkage.External [] (head_extended linkage.External []) (head-extended linkage.External [])
head-linked ((is.Linkage link, text) ∷ ks) = any-head link ks (head_extended link ks) (head-extended link ks)
head-linked (k ∷ ks) = any-head linkage.External (k ∷ ks) (head_extended linkage.External (k ∷ ks)) (head-extended linkage.External (k ∷ ks))

-- ---- functions

-- A function without a body that is a declaration.
declared-formed : (items : List Item) (name : List ℕ) (head : Head) → IsHead linkage.External head → head.func.name ≡ name → IfSome (declared head) (IsItem items name)
declared-formed items name head h named = cases (is_name head.func.name && (not (is_reserved head.func.name) || is_intrinsic head.func.name)) refl
  where
    known : (reserved intrinsic : Bool) → (not reserved || intrinsic) ≡ true → reserved ≡ true → intrinsic ≡ true
    known true intrinsic e is = e
    known false intrinsic e is = absurd (false≢true is)

    none-body : (body : Option Body) → body ≡ None → IsNone body
    none-body body e = rw e

    cases : (b : Bool) → (is_name head.func.name && (not (is_reserved head.func.name) || is_intrinsic head.func.name)) ≡ b → IfSome (cond b (Some (item.Func head.func)) None) (IsItem items name)
    cases true e =
        let both = and_parts (is_name head.func.name) (not (is_reserved head.func.name) || is_intrinsic head.func.name) e in
        record {
          named = named;
          formed = record {
            has_name = name-is head.func.name both.0;
            intrinsic = known (is_reserved head.func.name) (is_intrinsic head.func.name) both.1;
            not_defined = λ reserved. none-body head.func.body h.no_body;
            few_params = h.few;
            declared = subst (λ body. IfNone body (head.func.linkage ≡ linkage.External)) (sym h.no_body) h.linkage;
            fixed = subst (λ body. OnSome body (head.func.variadic ≡ false)) (sym h.no_body) tt;
            has_body = subst (λ body. IfSome body (FormedBody items (length head.func.params))) (sym h.no_body) tt;
          };
        }
    cases false e = tt

declaration-formed : (items : List Item) (name : List ℕ) (ks : List Kept) → first_symbol ks ≡ Some name → IfSome (declaration_of ks) (IsItem items name)
declaration-formed items name ks e = cases (head_extended linkage.External ks) (head-extended linkage.External ks)
  where
    cases : (found : Option Head) → IfSome found (IsBoth linkage.External ks) → IfSome (option_and_then declared found) (IsItem items name)
    cases None h = tt
    cases (Some head) h = declared-formed items name head h.0 (h.1 name e)

module _ (env : Env) (items : List Item) (same : env.symbols ≡ map item_name items) (distinct : AllPairs (λ a b. a ≢ b) env.symbols) where
  defined-formed : (name : List ℕ) (head : Head) → IsHead head.func.linkage head → head.func.name ≡ name → IfSome (defined env head) (IsItem items name)
  defined-formed name head h named = cases (is_plain head.func.name) refl
    where
      with : is_plain head.func.name ≡ true → (found : Option Body) → body_at env head.names head.rest ≡ found → IfSome (option_map (with_body head.func) found) (IsItem items name)
      with plain None e = tt
      with plain (Some body) e =
          let has = plain-name head.func.name plain in
          record {
            named = named;
            formed = record {
              has_name = has.0;
              intrinsic = λ reserved. absurd (false≢true (sym has.1 ∙ reserved));
              not_defined = λ reserved. absurd (false≢true (sym has.1 ∙ reserved));
              few_params = h.few;
              declared = tt;
              fixed = refl;
              has_body = subst (λ n. FormedBody items n body) h.names (body-read env items same distinct head.names head.rest body e);
            };
          }

      cases : (b : Bool) → is_plain head.func.name ≡ b → IfSome (cond b (option_map (with_body head.func) (body_at env head.names head.rest)) None) (IsItem items name)
      cases true e = with e (body_at env head.names head.rest) refl
      cases false e = tt

  definition-formed : (name : List ℕ) (ks : List Kept) → first_symbol ks ≡ Some name → IfSome (definition_of env ks) (IsItem items name)
  definition-formed name ks e = cases (head_linked ks) (head-linked ks)
    where
      cases : (found : Option Head) → IfSome found (IsAnyHead ks) → IfSome (option_and_then (defined env) found) (IsItem items name)
      cases None h = tt
      cases (Some head) h = defined-formed name head h.0 (h.1 name e)

-- ---- items

-- An entity that has an item's name stands for an item of this name.
pub item-read : (env : Env) (items : List Item) → env.symbols ≡ map item_name items → AllPairs (λ a b. a ≢ b) env.symbols → (name : List ℕ) (e : List Kept) → item_name_of e ≡ Some name →
    IfSome (item_of env name e) (IsItem items name)
item-read env items same distinct name [] is = tt
item-read env items same distinct name ((is.At kind, text) ∷ ks) is = var-read env items (ap (length {A = List ℕ}) same ∙ length-map items item_name) name ks
item-read env items same distinct name ((is.Declare, text) ∷ ks) is = declaration-formed items name ks is
item-read env items same distinct name ((is.Define, text) ∷ ks) is = definition-formed env items same distinct name ks is
item-read env items same distinct name (k ∷ ks) is = tt

-- ---- names alone

abbrev HasName : List ℕ → Item → Type 0
HasName name i = item_name i ≡ name

valued-named : (env : Env) (name : List ℕ) (link : Linkage) (declared constant : Bool) (ty : Ty) (ks : List Kept) → IfSome (valued env name link declared constant ty ks) (HasName name)
valued-named env name link true constant ty ks = refl
valued-named env name link false constant ty ks = cases (constant_at env ty ks)
  where
    cases : (found : Option (Const × ℕ)) → IfSome (option_map (λ f. made_var name link constant ty (Some f.0) (drop f.1 ks)) found) (HasName name)
    cases None = tt
    cases (Some f) = refl

kind-named : (env : Env) (name : List ℕ) (link : Linkage) (declared : Bool) (ks : List Kept) → IfSome (var_kind env name link declared ks) (HasName name)
kind-named env name link declared [] = tt
kind-named env name link declared (k ∷ ks) = cases (written_type env.types ks)
  where
    cases : (found : Option (Ty × ℕ)) → IfSome (option_and_then (λ t. valued env name link declared (is_constant k.0) t.0 (drop t.1 ks)) found) (HasName name)
    cases None = tt
    cases (Some t) = valued-named env name link declared (is_constant k.0) t.0 (drop t.1 ks)

linked-named : (env : Env) (name : List ℕ) (ks : List Kept) → IfSome (var_linked env name ks) (HasName name)
linked-named env name [] = tt
linked-named env name ((is.Linkage linkage.External, text) ∷ ks) = kind-named env name linkage.External true ks
linked-named env name ((is.Linkage link, text) ∷ ks) = kind-named env name link false ks
linked-named env name (k ∷ ks) = kind-named env name linkage.External false (k ∷ ks)

var-named : (env : Env) (name : List ℕ) (ks : List Kept) → IfSome (var_of env name ks) (HasName name)
var-named env name ks = cases (is_plain name)
  where
    cases : (b : Bool) → IfSome (cond b (var_linked env name ks) None) (HasName name)
    cases true = linked-named env name ks
    cases false = tt

definition-named : (env : Env) (name : List ℕ) (ks : List Kept) → first_symbol ks ≡ Some name → IfSome (definition_of env ks) (HasName name)
definition-named env name ks e = cases (head_linked ks) (head-linked ks)
  where
    with : (head : Head) → head.func.name ≡ name → (found : Option Body) → IfSome (option_map (with_body head.func) found) (HasName name)
    with head named None = tt
    with head named (Some body) = named

    tested : (head : Head) → head.func.name ≡ name → (b : Bool) → IfSome (cond b (option_map (with_body head.func) (body_at env head.names head.rest)) None) (HasName name)
    tested head named true = with head named (body_at env head.names head.rest)
    tested head named false = tt

    cases : (found : Option Head) → IfSome found (IsAnyHead ks) → IfSome (option_and_then (defined env) found) (HasName name)
    cases None h = tt
    cases (Some head) h = tested head (h.1 name e) (is_plain head.func.name)

pub item-named : (env : Env) (name : List ℕ) (e : List Kept) → item_name_of e ≡ Some name → IfSome (item_of env name e) (λ i. item_name i ≡ name)
item-named env name [] is = tt
item-named env name ((is.At kind, text) ∷ ks) is = var-named env name ks
item-named env name ((is.Declare, text) ∷ ks) is = weaker (IsItem [] name) (HasName name) (declaration_of ks) (declaration-formed [] name ks is) (λ i h. h.named)
item-named env name ((is.Define, text) ∷ ks) is = definition-named env name ks is
item-named env name (k ∷ ks) is = tt
