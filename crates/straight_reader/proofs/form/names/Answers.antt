use Rattle.std.proofs.Common.{◌∙◌, ◌++◌, ◌∷◌, [], sym, ap}
use Rattle.name_table.specs.Places.{is_among}
use Rattle.straight_reader.proofs.NameLists.{more_names, more_well, doubled_name}
use Rattle.straight_reader.proofs.form.names.Goals as goal

pub returns-then-not-branch : goal.returns-then-not-branch
returns-then-not-branch c =
    let added = rw c.if-not-branch.true at c.in_ok-add.ensures.ok in
    doubled_name c.args.entities.now c.loop-entity.entity-index c.entity-item.result c.loop-entity.names c.loop-entity-test.true c.entity-item.is c.loop-entity.invariant.names
    (ap (λ n. is_among n c.loop-entity.names) (sym c.as_slice.ensures) ∙ added.0)

pub loop-entity-preserved : goal.loop-entity-preserved
loop-entity-preserved c =
    let added = rw c.if-not-branch.false at c.in_ok-add.ensures.ok in
    record {
      names = more_names c.args.entities.now c.loop-entity.entity-index c.entity-item.result c.loop-entity.names _ c.loop-entity-test.true c.entity-item.is c.loop-entity.invariant.names
          (added.1 ∙ ap (λ n. c.loop-entity.names ++ n ∷ []) c.as_slice.ensures);
      well = more_well c.args.entities.now c.loop-entity.entity-index c.entity-item.result c.loop-entity.names c.loop-entity-test.true c.entity-item.is c.loop-entity.invariant.names c.loop-entity.invariant.well
          (ap (λ n. is_among n c.loop-entity.names) (sym c.as_slice.ensures) ∙ added.0);
    }
