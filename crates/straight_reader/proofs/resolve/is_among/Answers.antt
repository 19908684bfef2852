use Rattle.std.proofs.Common.{◌∙◌, sym}
use Rattle.straight_reader.proofs.NameLists.{placed_among, not_placed}
use Rattle.straight_reader.proofs.resolve.is_among.Goals as goal

pub returns-in-Some : goal.returns-in-Some
returns-in-Some c = sym (placed_among c.args.name.now c.args.names.now c.in-Some.field-0 (sym c.place_of.ensures.place ∙ c.in-Some.is))

pub returns-in-None : goal.returns-in-None
returns-in-None c = sym (not_placed c.args.name.now c.args.names.now (sym c.place_of.ensures.place ∙ c.in-None.is))
