use Rattle.std.proofs.Common.{◌≡◌, ℕ, ◌%◌, ◌^◌, ◌<◌, true, cond, IfOk, arith, List, ◌∷◌, Option, None, Some, sym, subst, ap, ◌∙◌}
use Rattle.std.specs.Prelude.{nat_lt, IfErr}
use Rattle.std.proofs.lemmas.Bool.Decides.{nat_tests}
use Rattle.ir_syntax.specs.declared.symbol.Sym.{Sym}
use Rattle.ir_syntax.specs.declared.item.Item.{Item}
use Rattle.ir_syntax.specs.declared.item.Item.TheVariants as item
use Rattle.ir_syntax.specs.declared.item.Module.{Module}
use Rattle.demands.specs.declared.demand.Demand.{Demand}
use Rattle.demands.specs.Demands.{item_at}
use Rattle.demands.specs.Faults.{IsNoneOrNoMemory}
use Rattle.demands.specs.Reading.{read_symbol, read_at, read_row}
use Rattle.demands.proofs.reading.demand_at.Goals as goal

-- a row's place is a word, and what stands there is what its symbol names
read-as : (modules : List Module) (place bits : ℕ) (words : List ℕ) (symbol : Sym) (found : Option Item) → place < 2 ^ 64 → symbol ≡ read_symbol place → item_at modules symbol ≡ found
    → read_at symbol (place % 2) bits words found ≡ read_row modules (place ∷ bits ∷ words)
read-as modules place bits words symbol found small s is =
    let fits : nat_lt place (2 ^ 64) ≡ true = grind (arith, nat_tests, small) in
    sym (ap (λ b. cond b (read_at (read_symbol place) (place % 2) bits words (item_at modules (read_symbol place))) None) fits
    ∙ (λ i. read_at (sym s i) (place % 2) bits words (item_at modules (sym s i))) ∙ ap (λ (o : Option Item). read_at symbol (place % 2) bits words o) is)

pub returns-in-Some-Func-clause-read : goal.returns-in-Some-Func-clause-read
returns-in-Some-Func-clause-read c =
    subst (λ (o : Option Demand). IfOk c.function_of.result (λ d. o ≡ Some d))
    (read-as c.args.modules.now c.args.place c.args.bits c.args.words.now c.symbol_of-symbol.result (Some (item.Func c.in-Some-Func.func)) (omega arith) c.symbol_of-symbol.ensures (c.in-Some-Func.ensures ∙ ap Some c.in-Some-Func.field-0-is))
    c.function_of.ensures.found

pub returns-in-Some-Func-clause-none : goal.returns-in-Some-Func-clause-none
returns-in-Some-Func-clause-none c =
    subst (λ (o : Option Demand). IfErr c.function_of.result (IsNoneOrNoMemory o))
    (read-as c.args.modules.now c.args.place c.args.bits c.args.words.now c.symbol_of-symbol.result (Some (item.Func c.in-Some-Func.func)) (omega arith) c.symbol_of-symbol.ensures (c.in-Some-Func.ensures ∙ ap Some c.in-Some-Func.field-0-is))
    c.function_of.ensures.none
