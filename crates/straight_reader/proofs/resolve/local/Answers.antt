use Rattle.std.proofs.Common.{◌∙◌, sym, Some}
use Rattle.straight_reader.proofs.Resolving.{param_found, register_found}
use Rattle.straight_reader.proofs.resolve.local.Goals as goal

pub returns-in-Some : goal.returns-in-Some
returns-in-Some c = sym (param_found c.args.params.now c.args.registers.now c.args.name.now c.in-Some.place (sym c.place_of.ensures.place ∙ c.in-Some.is))

pub returns-in-Some-place_of : goal.returns-in-Some-place_of
returns-in-Some-place_of c =
    sym (register_found c.args.params.now c.args.registers.now c.args.name.now (Some c.in-Some-place_of.place) (sym c.place_of.ensures.place ∙ c.in-None.is) (sym c.place_of-in-None.ensures.place ∙ c.in-Some-place_of.is))
