use Rattle.std.proofs.Common.{◌∙◌, ◌++◌, ◌∷◌, [], sym, ap}
use Rattle.ir_types.proofs.ListSteps.{take_at}
use Rattle.name_table.specs.Places.{is_among}
use Rattle.name_table.proofs.NameLists.{more_distinct, doubled}
use Rattle.ir_parser.proofs.params.are_distinct.Goals as goal

pub returns-then-not-branch : goal.returns-then-not-branch
returns-then-not-branch c =
    let added = rw c.if-not-branch.true at c.in_ok-add.ensures.ok in
    sym (doubled c.args.names.now c.loop-name.name-index c.name-item.result c.loop-name.seen c.loop-name-test.true c.name-item.is c.loop-name.invariant.names
    (ap (λ n. is_among n c.loop-name.seen) (sym c.as_slice.ensures) ∙ added.0))

pub loop-name-preserved : goal.loop-name-preserved
loop-name-preserved c =
    let added = rw c.if-not-branch.false at c.in_ok-add.ensures.ok in
    record {
      names = added.1 ∙ ap (λ n. c.loop-name.seen ++ n ∷ []) c.as_slice.ensures ∙ ap (λ ns. ns ++ c.name-item.result ∷ []) c.loop-name.invariant.names
          ∙ sym (take_at c.args.names.now c.loop-name.name-index c.name-item.result c.loop-name-test.true c.name-item.is);
      well = more_distinct c.args.names.now c.loop-name.name-index c.name-item.result c.loop-name.seen c.loop-name-test.true c.name-item.is c.loop-name.invariant.names c.loop-name.invariant.well
          (ap (λ n. is_among n c.loop-name.seen) (sym c.as_slice.ensures) ∙ added.0);
    }
