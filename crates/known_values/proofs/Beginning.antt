-- Calls begin as is read of them: no result is set, and the arguments suit what is known of the parameters.
use Rattle.std.proofs.Common.{◌≡◌, ◌∙◌, ℕ, ◌+◌, List, [], ◌∷◌, length, map, slice_get, Some, None, option_and_then, refl, sym, ap, subst, arith}
use Rattle.std.proofs.lemmas.List.{length-map, length-replicate}
use Rattle.ir_types.specs.declared.scalar.Known.TheVariants.{Unknown}
use Rattle.ir_syntax.specs.declared.symbol.Sym.{Sym}
use Rattle.ir_syntax.specs.declared.constant.Operand.{Operand}
use Rattle.ir_syntax.specs.declared.body.Block.{Block}
use Rattle.ir_syntax.specs.declared.body.Body.{Body}
use Rattle.ir_syntax.specs.declared.item.Param.{Param}
use Rattle.ir_syntax.specs.declared.item.Func.{Func}
use Rattle.ir_syntax.specs.Definite.{first_result}
use Rattle.ir_syntax.specs.Programs.{ProgramData}
use Rattle.ir_syntax.specs.Results.{results}
use Rattle.block_memory.specs.declared.value.Val.{Val}
use Rattle.block_memory.specs.Answers.{Gives, and_then}
use Rattle.ir_steps.specs.States.{Frame}
use Rattle.ir_steps.specs.Operands.{value_in, values}
use Rattle.ir_steps.specs.Calls.{func_of, begins_at, body_of}
use Rattle.fold_facts.specs.OfFunction.{results_in}
use Rattle.fold_facts.specs.Operands.{known_fact, operand_fact}
use Rattle.fold_facts.specs.Places.{blocks_in, blocks_of}
use Rattle.fold_facts.proofs.Lists.{zip_length}
use Rattle.fold_facts.proofs.Numbers.{first_zero}
use Rattle.known_values.specs.Suits.{Suits, AllSuit}
use Rattle.known_values.specs.Readings.{Reading, IsReading, setting_of}
use Rattle.known_values.specs.Frames.{IsResultOf, IsFrameOf}
use Rattle.known_values.specs.Views.{known_in}
use Rattle.known_values.proofs.Giving.{same_given, then_gave, then_read}
use Rattle.known_values.proofs.Facts.{value_suits, operand_suits}
use Rattle.known_values.proofs.Slots.{none_set}
use Rattle.known_values.proofs.Entered.{none_before}
use Rattle.known_values.proofs.Found.{reading_item}

-- ---- arguments

-- Of as many values as there are parameters nothing is known.
pub unknown_suit : (params : List Param) (xs : List (Val Sym)) → length xs ≡ length params → AllSuit (map (λ param. Unknown) params) xs
unknown_suit [] [] e = tt
unknown_suit [] (x ∷ xs) e = absurd (omega arith)
unknown_suit (param ∷ params) [] e = absurd (omega arith)
unknown_suit (param ∷ params) (x ∷ xs) e = (tt, unknown_suit params xs (omega arith))

-- The values of operands suit what is known of these.
pub known_suit : (p : ProgramData) (r : Reading) (f : Frame) (os : List Operand) (xs : List (Val Sym)) → IsFrameOf r f → values p f os ≡ Gives xs → AllSuit (map (known_in r) os) xs
known_suit p r f [] xs h e = subst (AllSuit []) (same_given [] xs e) tt
known_suit p r f (o ∷ more) xs h e =
    let one = then_read (λ (x : Val Sym). and_then (λ (ys : List (Val Sym)). Gives (x ∷ ys)) (values p f more)) (value_in p f o) xs e in
    let others = then_gave (λ (ys : List (Val Sym)). Gives (one.0 ∷ ys)) (values p f more) xs one.2 in
    subst (AllSuit (map (known_in r) (o ∷ more))) (same_given (one.0 ∷ others.0) xs others.2) (
      value_suits (operand_fact (setting_of r) r.assigned.facts o) one.0 (operand_suits p r f o one.0 h one.1),
      known_suit p r f more others.0 h others.1,
    )

pub values_long : (p : ProgramData) (r : Reading) (f : Frame) (os : List Operand) (xs : List (Val Sym)) → IsFrameOf r f → values p f os ≡ Gives xs → length xs ≡ length os
values_long p r f os xs h e =
    zip_length (λ known v. Suits (known_fact known) v) (map (known_in r) os) xs (known_suit p r f os xs h e) ∙ length-map os (known_in r)

-- ---- the first block

-- the body of a reading's function
pub body_is : (p : ProgramData) (r : Reading) (symbol : Sym) (body : Body) → IsReading p r → r.symbol ≡ symbol → body_of p symbol ≡ Some body → r.func.body ≡ Some body
body_is p r symbol body reading same e =
    sym (ap (λ o. option_and_then (λ (func : Func). func.body) (option_and_then func_of o)) (reading_item p r reading)) ∙ ap (body_of p) same ∙ e

pub begun_of : (p : ProgramData) (r : Reading) (symbol : Sym) (body : Body) (args : List (Val Sym)) (first : Block) → IsReading p r → r.symbol ≡ symbol → body_of p symbol ≡ Some body → slice_get body.blocks 0 ≡ Some first
    → AllSuit r.pattern args → IsFrameOf r (begins_at symbol body args first)
begun_of p r symbol body args first reading same has at suit =
    let blocks_are : blocks_of r.func ≡ body.blocks = ap blocks_in (body_is p r symbol body reading same has) in
    let zero_first : first_result (blocks_of r.func) 0 + length first.phis ≡ length first.phis = ap (λ n. n + length first.phis) (first_zero (blocks_of r.func)) ∙ none (length first.phis) in
    record {
      func = sym same;
      block = first;
      at = ap (λ blocks. slice_get blocks 0) blocks_are ∙ at;
      reached = refl;
      done = 0;
      within = omega arith;
      rest = refl;
      last = refl;
      next = sym zero_first ∙ none_before first.insts (first_result (blocks_of r.func) 0 + length first.phis);
      args = suit;
      long = length-replicate (length (results body)) None ∙ ap (λ blocks. length (results_in blocks)) (sym blocks_are);
      results = none_set (IsResultOf r) (length (results body));
    }
  where
    none : (n : ℕ) → 0 + n ≡ n
    none n = omega arith
