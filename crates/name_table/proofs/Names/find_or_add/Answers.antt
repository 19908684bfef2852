use Rattle.std.proofs.Common.{sym}
use Rattle.name_table.proofs.NameLists.{not_placed}
use Rattle.name_table.proofs.Names.find_or_add.Goals as goal

pub push-requires : goal.push-requires
push-requires c = not_placed c.args.name.now c.args.self.now (sym c.in-None.ensures.place)
