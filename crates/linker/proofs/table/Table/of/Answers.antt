use Rattle.std.proofs.Common.{List, subst, ◌≡◌}
use Rattle.std.specs.List.{AllZip}
use Rattle.linker.specs.declared.group.Group.{Group}
use Rattle.linker.specs.Mirrors.Slots.{Says}
use Rattle.linker.proofs.Tables.{table_is}
use Rattle.linker.proofs.table.Table.of.Goals as goal

pub returns : goal.returns
returns c =
    let groups_are : c.as_slice-2.result.now ≡ c.in_ok-names.field-0.groups.items = cc in
    table_is c.args.modules.now c.args.outside.now c.in_ok-names.field-0.names c.in_ok-names.field-0.groups.items c.in_ok-slots.slots c.in_ok-names.ensures
    (subst (λ (gs : List Group). AllZip (Says c.args.modules.now c.args.outside.now) gs c.in_ok-slots.slots) groups_are (c.in_ok-slots.ensures c.args.outside.now c.in_ok-outside.ensures))
