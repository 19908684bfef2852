use Rattle.linker.specs.Linking.{deployment_of}
use Rattle.linker.proofs.Assembled.{AreFound, made_is_program, made_is_linked}
use Rattle.linker.proofs.link.Goals as goal

pub new-requires : goal.new-requires
new-requires c =
    let found : AreFound c.args.modules c.as_slice.result.now c.as_slice-2.result.now c.as_slice-3.result.now (deployment_of c.args.manifest.now) c.in_ok-table.table.names c.in_ok-table.table.slots c.in_ok-entry.entry.symbol c.in_ok-entry.entry.args c.in_ok-exports.exports = record {
      sound = c.requires.sound;
      table_is = c.as_slice.ensures;
      entry_are = c.as_slice-2.ensures;
      exports_same = c.as_slice-3.ensures;
      table = c.in_ok-table.ensures.table;
      entry_is = c.in_ok-entry.ensures.entry;
      known = c.in_ok-entry.ensures.known;
      exports_are = c.in_ok-exports.ensures.exports;
      kept = c.in_ok-exports.ensures.kept;
    } in
    record { program = made_is_program c.args.modules c.as_slice.result.now c.as_slice-2.result.now c.as_slice-3.result.now c.as_slice-4.result.now c.as_slice-5.result.now (deployment_of c.args.manifest.now) c.in_ok-table.table.names c.in_ok-table.table.slots c.in_ok-entry.entry.symbol c.in_ok-entry.entry.args c.in_ok-exports.exports c.in_ok-targets.targets c.in_ok-canonical.canonical found c.as_slice-4.ensures c.as_slice-5.ensures c.in_ok-targets.ensures c.in_ok-canonical.ensures }

pub returns-clause-linked : goal.returns-clause-linked
returns-clause-linked c =
    let found : AreFound c.args.modules c.as_slice.result.now c.as_slice-2.result.now c.as_slice-3.result.now (deployment_of c.args.manifest.now) c.in_ok-table.table.names c.in_ok-table.table.slots c.in_ok-entry.entry.symbol c.in_ok-entry.entry.args c.in_ok-exports.exports = record {
      sound = c.requires.sound;
      table_is = c.as_slice.ensures;
      entry_are = c.as_slice-2.ensures;
      exports_same = c.as_slice-3.ensures;
      table = c.in_ok-table.ensures.table;
      entry_is = c.in_ok-entry.ensures.entry;
      known = c.in_ok-entry.ensures.known;
      exports_are = c.in_ok-exports.ensures.exports;
      kept = c.in_ok-exports.ensures.kept;
    } in
    made_is_linked c.args.modules c.as_slice.result.now c.as_slice-2.result.now c.as_slice-3.result.now c.as_slice-4.result.now c.as_slice-5.result.now (deployment_of c.args.manifest.now) c.in_ok-table.table.names c.in_ok-table.table.slots c.in_ok-entry.entry.symbol c.in_ok-entry.entry.args c.in_ok-exports.exports c.in_ok-targets.targets c.in_ok-canonical.canonical c.new.result found c.as_slice-4.ensures c.as_slice-5.ensures c.in_ok-targets.ensures c.in_ok-canonical.ensures c.new.ensures
