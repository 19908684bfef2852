use Rattle.std.proofs.Common.{◌∙◌, Some, ap}
use Rattle.interface.proofs.Listed.{few_params, few_entry_args, short_symbol}
use Rattle.interface.proofs.root.add_root.Goals as goal

pub root_pattern-requires-clause-few : goal.root_pattern-requires-clause-few
root_pattern-requires-clause-few c =
    few_params c.args.p.now c.args.symbol c.in-Some-Func.func c.item_of.ensures.program (c.in-Some-Func.ensures.item ∙ ap (λ i. Some i) c.in-Some-Func.field-0-is)

pub root_pattern-requires-clause-few_args : goal.root_pattern-requires-clause-few_args
root_pattern-requires-clause-few_args c = few_entry_args c.args.p.now c.item_of.ensures.program

pub row_of-requires : goal.row_of-requires
row_of-requires c = record { short = short_symbol c.args.p.now c.args.symbol c.in-Some-Func.field-0.now c.item_of.ensures.program c.in-Some-Func.ensures.item }

pub row_of-requires-in-Some-Var : goal.row_of-requires-in-Some-Var
row_of-requires-in-Some-Var c = record { short = short_symbol c.args.p.now c.args.symbol c.in-Some-Var.field-0.now c.item_of.ensures.program c.in-Some-Var.ensures.item }
