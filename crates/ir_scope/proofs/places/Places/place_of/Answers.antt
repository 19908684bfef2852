use Rattle.std.proofs.Common.{◌∙◌}
use Rattle.ir_scope.proofs.Placing.{lookup-place}
use Rattle.ir_scope.proofs.places.Places.place_of.Goals as goal

pub returns : goal.returns
returns c = c.copied.ensures ∙ c.get.ensures.value ∙ lookup-place (λ v. v.items) c.args.name.now c.args.self.now.first.entries
