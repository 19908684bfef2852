use Rattle.std.proofs.Common.{refl, sym}
use Rattle.name_table.proofs.NameLists.{not_placed, placed_among}
use Rattle.name_table.proofs.Names.add.Goals as goal

pub push-requires : goal.push-requires
push-requires c = not_placed c.args.name.now c.args.self.now (sym c.in-None.ensures.place)

pub returns-in-Some-clause-ok : goal.returns-in-Some-clause-ok
returns-in-Some-clause-ok c = (placed_among c.args.name.now c.args.self.now _ (sym c.in-Some.ensures.place), refl)

pub returns-in_ok-push-in-None-clause-ok : goal.returns-in_ok-push-in-None-clause-ok
returns-in_ok-push-in-None-clause-ok c = (not_placed c.args.name.now c.args.self.now (sym c.in-None.ensures.place), c.in_ok-push-in-None.ensures.ok)
