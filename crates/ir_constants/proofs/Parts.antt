-- Steps of the functions that read constants and their parts.
use Rattle.std.proofs.Common.{◌≡◌, ◌∙◌, ℕ, suc, zero, ◌+◌, ◌-◌, ◌<◌, ◌≤◌, Bool, true, cond, List, [], ◌∷◌, ◌++◌, length, drop, get_or, Option, Some, None, option_and_then, sym, ap, arith, add-one, drop-cons}
use Rattle.ir_types.specs.declared.shape.Ty.{Ty, out-Ty}
use Rattle.ir_syntax.specs.declared.constant.Const.{Const}
use Rattle.ir_grammar.specs.declared.shape.Shape.{Shape}
use Rattle.ir_grammar.specs.declared.shape.Shape.TheVariants as is
use Rattle.ir_grammar.specs.declared.lexeme.Lexeme.{Lexeme}
use Rattle.ir_grammar.specs.Tokens.{Kept, seen}
use Rattle.ir_scope.specs.Runs.{Reading, begins_with, behind}
use Rattle.ir_scope.specs.Scopes.{Env}
use Rattle.ir_scope.specs.Types.{written_type, same_type}
use Rattle.ir_scope.proofs.Runs.{seen-drop}
use Rattle.ir_constants.specs.Constants.{address_of, elements_at, fields_at, part_at, parts_at, constant_within}
use Rattle.ir_constants.proofs.Closed.{extended, and_more, extended-more, seen-more}

-- whether these begin so
pub begins_there : (ends : Shape → Bool) (xs rest : List Lexeme) (n : ℕ) (b : Bool) → rest ≡ drop n xs → begins_with ends (seen rest) ≡ b → begins_with ends (drop n (seen xs)) ≡ b
begins_there ends xs rest n b r e = ap (begins_with ends) (sym (ap seen r ∙ seen-drop n xs)) ∙ e

-- ---- constants by their first lexeme

pub front_address : (env : Env) (depth : ℕ) (ty : Ty) (xs rest : List Lexeme) (d : Lexeme) → rest ≡ drop 1 xs → 1 ≤ length xs → (get_or xs 0 d).shape ≡ is.Address → behind 1 (address_of env (out-Ty ty) (seen rest)) ≡ constant_within env depth ty (seen xs)
front_address env depth ty [] rest d r some e = absurd (omega (arith, some))
front_address env depth ty (x ∷ xs) rest d r some e = ap (λ ys. behind 1 (address_of env (out-Ty ty) (seen ys))) r ∙ ap (λ s. constant_within env depth ty ((s, x.text.now) ∷ seen xs)) (sym e)

pub front_square : (env : Env) (depth : ℕ) (ty : Ty) (xs rest : List Lexeme) (d : Lexeme) → rest ≡ drop 1 xs → 0 < depth → 1 ≤ length xs → (get_or xs 0 d).shape ≡ is.OpenSquare →
    behind 1 (elements_at env (constant_within env (depth - 1)) (out-Ty ty) (seen rest)) ≡ constant_within env depth ty (seen xs)
front_square env zero ty xs rest d r deep some e = absurd (omega (arith, deep))
front_square env (suc depth) ty [] rest d r deep some e = absurd (omega (arith, some))
front_square env (suc depth) ty (x ∷ xs) rest d r deep some e =
    let less : suc depth - 1 ≡ depth = omega arith in
    ap (λ ys. behind 1 (elements_at env (constant_within env (suc depth - 1)) (out-Ty ty) (seen ys))) r
    ∙ ap (λ n. behind 1 (elements_at env (constant_within env n) (out-Ty ty) (seen xs))) less ∙ ap (λ s. constant_within env (suc depth) ty ((s, x.text.now) ∷ seen xs)) (sym e)

pub front_brace : (env : Env) (depth : ℕ) (ty : Ty) (xs rest : List Lexeme) (d : Lexeme) → rest ≡ drop 1 xs → 0 < depth → 1 ≤ length xs → (get_or xs 0 d).shape ≡ is.OpenBrace →
    behind 1 (fields_at env (constant_within env (depth - 1)) (out-Ty ty) (seen rest)) ≡ constant_within env depth ty (seen xs)
front_brace env zero ty xs rest d r deep some e = absurd (omega (arith, deep))
front_brace env (suc depth) ty [] rest d r deep some e = absurd (omega (arith, some))
front_brace env (suc depth) ty (x ∷ xs) rest d r deep some e =
    let less : suc depth - 1 ≡ depth = omega arith in
    ap (λ ys. behind 1 (fields_at env (constant_within env (suc depth - 1)) (out-Ty ty) (seen ys))) r
    ∙ ap (λ n. behind 1 (fields_at env (constant_within env n) (out-Ty ty) (seen xs))) less ∙ ap (λ s. constant_within env (suc depth) ty ((s, x.text.now) ∷ seen xs)) (sym e)

-- ---- parts

-- the types from a place on
types_at : (types : List Ty) (i : ℕ) (ty : Ty) → i < length types → ty ≡ get_or types i ty → drop i types ≡ ty ∷ drop (i + 1) types
types_at types i ty within is = rw add-one (drop-cons types i ty within ∙ ap (λ t. t ∷ drop (suc i) types) (sym is))

-- one more part for one more type
pub parts_more : (env : Env) (constant : Ty → Reading Const) (types : List Ty) (i : ℕ) (ty : Ty) (xs rest : List Lexeme) (at : ℕ) (parts : List Const) (x : Const) (n : ℕ) → i < length types → ty ≡ get_or types i ty → rest ≡ drop at xs →
    Some (x, n) ≡ part_at env constant ty (seen rest) → extended (parts ++ x ∷ []) (at + n) (parts_at env constant (drop (i + 1) types) (seen (drop (at + n) xs))) ≡ extended parts at (parts_at env constant (drop i types) (seen (drop at xs)))
parts_more env constant types i ty xs rest at parts x n within is r here =
    ap (λ ks. extended (parts ++ x ∷ []) (at + n) (parts_at env constant (drop (i + 1) types) ks)) (seen-more xs at n)
    ∙ sym (extended-more parts x at n (parts_at env constant (drop (i + 1) types) (drop n (seen (drop at xs)))))
    ∙ ap (λ o. extended parts at (option_and_then (λ f. and_more f (parts_at env constant (drop (i + 1) types) (drop f.1 (seen (drop at xs))))) o)) (here ∙ ap (λ ys. part_at env constant ty (seen ys)) r)
    ∙ ap (λ tys. extended parts at (parts_at env constant tys (seen (drop at xs)))) (sym (types_at types i ty within is))

-- no part for a type
pub parts_bad : (env : Env) (constant : Ty → Reading Const) (types : List Ty) (i : ℕ) (ty : Ty) (xs rest : List Lexeme) (at : ℕ) (parts : List Const) → i < length types → ty ≡ get_or types i ty → rest ≡ drop at xs →
    None ≡ part_at env constant ty (seen rest) → None ≡ extended parts at (parts_at env constant (drop i types) (seen (drop at xs)))
parts_bad env constant types i ty xs rest at parts within is r here =
    ap (λ o. extended parts at (option_and_then (λ f. and_more f (parts_at env constant (drop (i + 1) types) (drop f.1 (seen (drop at xs))))) o)) (here ∙ ap (λ ys. part_at env constant ty (seen ys)) r)
    ∙ ap (λ tys. extended parts at (parts_at env constant tys (seen (drop at xs)))) (sym (types_at types i ty within is))
