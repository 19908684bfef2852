use Rattle.std.proofs.lemmas.Result.{on_ok_weaker}
use Rattle.linker.proofs.Grouping.{with_external, with_local}
use Rattle.linker.proofs.groups.Groups.add_item.Goals as goal

pub returns-then-not-is_external : goal.returns-then-not-is_external
returns-then-not-is_external c = λ symbols h. with_local symbols c.args.place c.args.item c.args.found.now c.args.self.now.names c.args.self.now.groups.items c.if-not-is_external.ensures h

pub returns : goal.returns
returns c = on_ok_weaker c.add.result (λ more symbols h. with_external symbols c.args.place c.args.item c.args.found.now c.name_of.result.now c.add.new.self.names c.add.new.self.groups.items c.name_of.ensures c.if-not-is_external.ensures (more symbols h)) c.add.ensures
