use Rattle.std.proofs.Common.{◌∙◌, Some, ap}
use Rattle.interface.proofs.Listed.{few_params, short_symbol}
use Rattle.interface.proofs.asked.named.Goals as goal

pub all_unknown-requires : goal.all_unknown-requires
all_unknown-requires c = record {
  few = few_params c.args.p.now c.in-Some.symbol c.in-Some-Func.func c.item_of.ensures.program (c.in-Some-Func.ensures.item ∙ ap (λ i. Some i) c.in-Some-Func.field-0-is);
}

pub returns-in_ok-pattern-in-Some-Func-clause-short : goal.returns-in_ok-pattern-in-Some-Func-clause-short
returns-in_ok-pattern-in-Some-Func-clause-short c = short_symbol c.args.p.now c.in-Some.symbol c.in-Some-Func.field-0.now c.item_of.ensures.program c.in-Some-Func.ensures.item

pub returns-in-Some-Var-clause-short : goal.returns-in-Some-Var-clause-short
returns-in-Some-Var-clause-short c = short_symbol c.args.p.now c.in-Some.symbol c.in-Some-Var.field-0.now c.item_of.ensures.program c.in-Some-Var.ensures.item
