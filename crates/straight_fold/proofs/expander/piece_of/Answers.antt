use Rattle.std.proofs.Common.{◌≡◌, All, suc, ap, sym, subst, ◌∙◌, Some}
use Rattle.std.specs.Prelude.{slice_get}
use Rattle.straight_plan.specs.Asked.{insts_at}
use Rattle.demands.specs.declared.demand.Demand.TheVariants.{Func}
use Rattle.straight_fold.specs.Facts.{facts_of}
use Rattle.straight_fold.specs.Calls.{IsShortCall, rows_of, left_count}
use Rattle.straight_fold.proofs.Blocks.{short-calls-at}
use Rattle.straight_fold.proofs.Asking.{left-long}
use Rattle.straight_fold.proofs.expander.piece_of.Goals as goal

pub rows_of-requires : goal.rows_of-requires
rows_of-requires c = subst (All IsShortCall) (sym c.insts_at-insts.ensures) (short-calls-at c.args.items.now c.requires c.args.func.item)

pub returns : goal.returns
returns c =
    let items = c.args.items.now in
    let pattern = c.args.pattern in
    let insts = insts_at (slice_get items c.args.func.item) in
    let facts : c.in_ok-facts.facts ≡ facts_of pattern insts = c.in_ok-facts.ensures ∙ (λ i. facts_of (c.items.ensures.items i) (c.insts_at-insts.ensures i)) in
    let first : c.as_slice.result.now ≡ facts_of pattern insts = c.as_slice.ensures ∙ facts in
    let second : c.as_slice-2.result.now ≡ facts_of pattern insts = c.as_slice-2.ensures ∙ facts in
    record {
      found = λ i. Some (record { demand = Func c.args.func pattern; facts = facts i });
      needs = c.in_ok-needs.ensures ∙ (λ i. rows_of items (c.items-2.ensures.items i) (first i) (c.insts_at-insts.ensures i));
      size = c.size_of-size.ensures ∙ ap suc ((λ i. left_count (second i) 0 (c.insts_at-insts.ensures i)) ∙ sym (left-long pattern (facts_of pattern insts) 0 insts));
    }
