-- What a name of a function stands for is there: a parameter, a result or a block.
use Rattle.std.proofs.Common.{◌≡◌, ◌≢◌, ◌∙◌, ℕ, ◌+◌, ◌<◌, Bool, true, false, cond, List, [], ◌∷◌, length, map, Option, Some, None, option_map, refl, ap, sym, subst, arith}
use Rattle.std.specs.Prelude.{AllPairs, count_by}
use Rattle.std.specs.List.{filter}
use Rattle.std.specs.Fmt.{decimal}
use Rattle.std.proofs.lemmas.List.{length-map}
use Rattle.std.proofs.lemmas.List.Sums.{sum_by-cons, length-filter}
use Rattle.ir_types.specs.declared.scalar.Scalar.{Scalar}
use Rattle.ir_types.specs.declared.shape.Ty.TheBlock.{One}
use Rattle.ir_syntax.specs.declared.constant.Const.{Const}
use Rattle.ir_syntax.specs.declared.constant.Operand.{Operand}
use Rattle.ir_syntax.specs.declared.constant.Operand.TheVariants as operand
use Rattle.ir_syntax.specs.declared.item.Item.{Item}
use Rattle.ir_syntax.specs.FormedBody.{Places, IsOperand, item_name}
use Rattle.ir_syntax.specs.Suits.{Suits}
use Rattle.ir_grammar.specs.declared.shape.Shape.TheVariants as is
use Rattle.ir_grammar.specs.Tokens.{Kept}
use Rattle.ir_scope.specs.Scopes.{Env}
use Rattle.ir_constants.specs.Constants.{constant_at}
use Rattle.ir_locals.specs.declared.local.Local.{Local}
use Rattle.ir_locals.specs.declared.local.Local.TheVariants.{Param, Reg, Block}
use Rattle.ir_locals.specs.Locals.{has_result, is_label, result_name, results_from, label_names, decimals, block_names, begins_labelled, locals_of, local_name, local_among, operand_in, block_in}
use Rattle.ir_locals.proofs.Found.{param_within, reg_within, block_within}
use Rattle.ir_operands.specs.Operands.{Names, operand_at, block_at}
use Rattle.ir_body.specs.Bodies.{results_in, blocks_in}
use Rattle.ir_operands.proofs.FormingReadings.{IsRead, read-map}
use Rattle.ir_operands.proofs.FormingConstants.{constant-suits}
use Rattle.ir_operands.proofs.FormingOperands.{Resolves}

-- ---- how many there are

results-count : (pending : Option (List ℕ)) (ks : List Kept) → length (results_from pending ks) ≡ results_in ks
results-count pending [] = refl
results-count pending (k ∷ ks) = cases (has_result k.0) (results-count None ks) (results-count (result_name k.0 k.1 pending) ks) ∙ sym (sum_by-cons (λ (k : Kept). cond (has_result k.0) 1 0) k ks)
  where
    cases : (b : Bool) → length (results_from None ks) ≡ results_in ks → length (results_from (result_name k.0 k.1 pending) ks) ≡ results_in ks →
        length (cond b (pending ∷ results_from None ks) (results_from (result_name k.0 k.1 pending) ks)) ≡ cond b 1 0 + results_in ks
    cases true more same = omega (arith, more)
    cases false more same = omega (arith, same)

labels-count : (ks : List Kept) → length (label_names ks) ≡ count_by (λ (k : Kept). is_label k.0) ks
labels-count ks = length-map (filter (λ (k : Kept). is_label k.0) ks) _ ∙ length-filter (λ (k : Kept). is_label k.0) ks

blocks-count : (params : List (List ℕ)) (ks : List Kept) → length (block_names params ks) ≡ blocks_in ks
blocks-count params ks = cases (decimal (decimals params)) (begins_labelled ks)
  where
    cases : (first : List ℕ) (b : Bool) → length (cond b (label_names ks) (first ∷ label_names ks)) ≡ count_by (λ (k : Kept). is_label k.0) ks + cond b 0 1
    cases first true = omega (arith, labels-count ks)
    cases first false = omega (arith, labels-count ks)

-- ---- operands and blocks

no-constant : (found : Option Local) (c : Const) → operand_in found ≡ Some (operand.Const c) → ⊥
no-constant None c e = cc
no-constant (Some (Param place)) c e = cc
no-constant (Some (Reg number)) c e = cc
no-constant (Some (Block place)) c e = cc

-- a function's names, in a module with these items
module _ (env : Env) (items : List Item) (params : List (List ℕ)) (ks : List Kept) where
  abbrev pub names_in : Names
  names_in = record { env = env; locals = locals_of params ks }

  abbrev pub places_in : Places
  places_in = record { items = items; params = length params; results = results_in ks; blocks = blocks_in ks }

  local-operand : (ty : Scalar) (name : List ℕ) (found : Option Operand) → operand_in (local_among (locals_of params ks) name) ≡ found → IsRead (IsOperand places_in ty) (option_map (λ value. (value, 1)) found)
  local-operand ty name None e = tt
  local-operand ty name (Some (operand.Param k)) e = param_within params ks name k e
  local-operand ty name (Some (operand.Reg k)) e = subst (λ n. k < n) (results-count None ks) (reg_within params ks name k e)
  local-operand ty name (Some (operand.Const c)) e = absurd (no-constant (local_among (locals_of params ks) name) c e)

  local-block : (name : List ℕ) (found : Option ℕ) → block_in (local_among (locals_of params ks) name) ≡ found → IsRead (λ place. place < places_in.blocks) (option_map (λ place. (place, 1)) found)
  local-block name None e = tt
  local-block name (Some k) e = subst (λ n. k < n) (blocks-count params ks) (block_within params ks name k e)

  module _ (same : env.symbols ≡ map item_name items) where
    constant-read : (ty : Scalar) (rest : List Kept) → IsRead (IsOperand places_in ty) (option_map (λ f. (operand.Const f.0, f.1)) (constant_at env (One ty) rest))
    constant-read ty rest =
        let many : length env.symbols ≡ length items = ap (length {A = List ℕ}) same ∙ length-map items item_name in
        read-map (Suits (length env.symbols) (One ty)) (IsOperand places_in ty) _ (constant_at env (One ty) rest) (constant-suits env (One ty) rest) (λ f p. subst (λ n. Suits n (One ty) f.0) many p)

    operand-read : (ty : Scalar) (rest : List Kept) → IsRead (IsOperand places_in ty) (operand_at names_in ty rest)
    operand-read ty [] = constant-read ty []
    operand-read ty ((is.Local, text) ∷ rest) = local-operand ty (local_name text) (operand_in (local_among (locals_of params ks) (local_name text))) refl
    operand-read ty (k ∷ rest) = constant-read ty (k ∷ rest)

    block-read : (rest : List Kept) → IsRead (λ place. place < places_in.blocks) (block_at names_in rest)
    block-read [] = tt
    block-read ((is.Local, text) ∷ rest) = local-block (local_name text) (block_in (local_among (locals_of params ks) (local_name text))) refl
    block-read (k ∷ rest) = tt

    pub names-resolve : AllPairs (λ a b. a ≢ b) env.symbols → Resolves names_in places_in
    names-resolve distinct = record { operands = operand-read; blocks = block-read; symbols = same; distinct = distinct }
