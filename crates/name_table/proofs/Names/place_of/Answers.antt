use Rattle.std.proofs.Common.{◌∙◌, ap, sym}
use Rattle.name_table.specs.Places.{place_among}
use Rattle.name_table.proofs.Positions.{place_among-map}
use Rattle.name_table.proofs.Names.place_of.Goals as goal

pub returns-clause-place : goal.returns-clause-place
returns-clause-place c =
    c.get_index_of.ensures.index ∙ sym (place_among-map c.args.name.now (λ v. v.items) c.self.inside.names.keys) ∙ ap (place_among c.args.name.now) c.self.view_is
