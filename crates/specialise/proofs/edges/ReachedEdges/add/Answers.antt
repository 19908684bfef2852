use Rattle.std.proofs.Common.{◌≡◌, ◌∙◌, Bool, true, false, cond, refl, ap, sym}
use Rattle.std.specs.Prelude.{◌==◌, ◌&&◌, ◌||◌}
use Rattle.interface.proofs.Once.{or_cond}
use Rattle.specialise.specs.Mirrors.Edges.{has_edge}
use Rattle.specialise.proofs.edges.ReachedEdges.add.Goals as goal

and_assoc : (x y z : Bool) → ((x && y) && z) ≡ (x && (y && z))
and_assoc true y z = refl
and_assoc false y z = refl

pub returns-in_ok-insert : goal.returns-in_ok-insert
returns-in_ok-insert c f t i =
    c.in_ok-insert.ensures.updates.0 (f, t, i)
    ∙ ap (λ b. cond b true (has_edge c.args.self.now f t i)) (and_assoc (c.args.from == f) (c.args.to == t) (c.args.j == i))
    ∙ or_cond ((c.args.from == f) && ((c.args.to == t) && (c.args.j == i))) (has_edge c.args.self.now f t i)
    ∙ ap (λ r. (r && ((c.args.from == f) && ((c.args.to == t) && (c.args.j == i)))) || has_edge c.args.self.now f t i) (sym c.if-is_reached.true)
