-- Heads of functions from their parts, and definitions from their heads.
use Rattle.std.proofs.Common.{◌≡◌, ◌∙◌, ℕ, Bool, true, false, cond, List, map, drop, Option, Some, None, option_map, option_and_then, sym, ap}
use Rattle.ir_types.specs.declared.scalar.Scalar.{Scalar}
use Rattle.ir_types.specs.declared.scalar.Ext.{Ext}
use Rattle.ir_syntax.specs.declared.item.Linkage.{Linkage}
use Rattle.ir_syntax.specs.declared.item.Param.{Param}
use Rattle.ir_syntax.specs.declared.item.Item.{Item}
use Rattle.ir_syntax.specs.declared.body.Body.{Body}
use Rattle.ir_grammar.specs.Tokens.{Kept}
use Rattle.ir_scope.specs.Scopes.{Env}
use Rattle.ir_body.specs.Bodies.{body_at}
use Rattle.ir_parser.specs.Items.{Head, is_plain, params_at, names_from, are_params, head_with, with_body, defined}

abbrev Written : Type 0
Written = List (Param × Option (List ℕ))

abbrev names_of : Written → List (List ℕ)
names_of written = names_from 0 (map (λ (p : Param × Option (List ℕ)). p.1) written)

abbrev types_of : Written → List Param
types_of written = map (λ (p : Param × Option (List ℕ)). p.0) written

abbrev made : List ℕ → Linkage → Option Scalar → Ext → List Param → Bool → List (List ℕ) → List Kept → Head
made name link returns ext types variadic names rest = record {
  func = record { name = name; linkage = link; returns = returns; ret_ext = ext; params = types; variadic = variadic; body = None };
  names = names;
  rest = rest;
}

-- the head of what was read between the parentheses
abbrev head_if : List ℕ → Linkage → Option Scalar → Ext → List Kept → Bool → (Written × Bool) × ℕ → Option Head
head_if name link returns ext ks suit f = cond suit (Some (made name link returns ext (types_of f.0.0) f.0.1 (names_of f.0.0) (drop f.1 ks))) None

read : (name : List ℕ) (link : Linkage) (returns : Option Scalar) (ext : Ext) (ks : List Kept) (written : Written) (variadic : Bool) (count : ℕ) (suit : Bool) →
    params_at ks ≡ Some ((written, variadic), count) → are_params (names_of written) ≡ suit → head_with name link returns ext ks ≡ head_if name link returns ext ks suit ((written, variadic), count)
read name link returns ext ks written variadic count suit e t =
    ap (λ o. option_and_then (λ f. head_if name link returns ext ks (are_params (names_of f.0.0)) f) o) e
    ∙ ap (λ b. head_if name link returns ext ks b ((written, variadic), count)) t

pub no_head : (name : List ℕ) (link : Linkage) (returns : Option Scalar) (ext : Ext) (ks : List Kept) (written : Written) (variadic : Bool) (count : ℕ) (names : List (List ℕ)) →
    params_at ks ≡ Some ((written, variadic), count) → names ≡ names_of written → are_params names ≡ false → None ≡ head_with name link returns ext ks
no_head name link returns ext ks written variadic count names e n t = sym (read name link returns ext ks written variadic count false e (ap are_params (sym n) ∙ t))

pub head_found : (name : List ℕ) (link : Linkage) (returns : Option Scalar) (ext : Ext) (ks : List Kept) (written : Written) (variadic : Bool) (count : ℕ) (names : List (List ℕ)) (types : List Param) (rest : List Kept) →
    params_at ks ≡ Some ((written, variadic), count) → names ≡ names_of written → are_params names ≡ true → types ≡ types_of written → rest ≡ drop count ks →
    Some (made name link returns ext types variadic names rest) ≡ head_with name link returns ext ks
head_found name link returns ext ks written variadic count names types rest e n t p r =
    ap (λ ns. Some (made name link returns ext types variadic ns rest)) n
    ∙ ap (λ ts. Some (made name link returns ext ts variadic (names_of written) rest)) p
    ∙ ap (λ ks. Some (made name link returns ext (types_of written) variadic (names_of written) ks)) r
    ∙ sym (read name link returns ext ks written variadic count true e (ap are_params (sym n) ∙ t))

-- ---- definitions

pub defined_by : (env : Env) (head : Head) (name : List ℕ) (found : Option Body) → name ≡ head.func.name → is_plain name ≡ true → found ≡ body_at env head.names head.rest →
    option_map (with_body head.func) found ≡ defined env head
defined_by env head name found n plain b =
    ap (option_map (with_body head.func)) b
    ∙ sym (ap (λ t. cond t (option_map (with_body head.func) (body_at env head.names head.rest)) None) (ap is_plain (sym n) ∙ plain))
