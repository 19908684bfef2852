use Rattle.std.proofs.Common.{◌∙◌, ◌++◌, ◌∷◌, [], sym, ap}
use Rattle.name_table.specs.Places.{is_among}
use Rattle.straight_reader.proofs.NameLists.{one_more, more_distinct, doubled}
use Rattle.straight_reader.proofs.Resolving.{doubled_params}
use Rattle.straight_reader.proofs.resolve.params.Goals as goal

pub returns-then-not-branch : goal.returns-then-not-branch
returns-then-not-branch c =
    let added = rw c.if-not-branch.true at c.in_ok-add.ensures.ok in
    doubled_params c.args.names.now
    (doubled c.args.names.now c.loop-name.name-index c.name-item.result c.loop-name.params c.loop-name-test.true c.name-item.is c.loop-name.invariant.names
    (ap (λ n. is_among n c.loop-name.params) (sym c.as_slice.ensures) ∙ added.0))

pub loop-name-preserved : goal.loop-name-preserved
loop-name-preserved c =
    let added = rw c.if-not-branch.false at c.in_ok-add.ensures.ok in
    record {
      names = added.1 ∙ ap (λ n. c.loop-name.params ++ n ∷ []) c.as_slice.ensures ∙ ap (λ ns. ns ++ c.name-item.result ∷ []) c.loop-name.invariant.names
          ∙ sym (one_more c.args.names.now c.loop-name.name-index c.name-item.result c.loop-name-test.true c.name-item.is);
      well = more_distinct c.args.names.now c.loop-name.name-index c.name-item.result c.loop-name.params c.loop-name-test.true c.name-item.is c.loop-name.invariant.names c.loop-name.invariant.well
          (ap (λ n. is_among n c.loop-name.params) (sym c.as_slice.ensures) ∙ added.0);
    }
