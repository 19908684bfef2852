use Rattle.std.proofs.Common.{◌∙◌, ap}
use Rattle.std.specs.Option.{option_copied}
use Rattle.ir_scope.proofs.Placing.{entries_by, no_type, no_type_there, one_type}
use Rattle.ir_scope.proofs.scope.Scope.lookup_type.Goals as goal

pub returns-in_err-at : goal.returns-in_err-at
returns-in_err-at c =
    ap option_copied c.from_residual.ensures
    ∙ no_type (entries_by (λ v. v.items) c.self.inside.type_places.first.entries) c.self.inside.type_places.doubled c.self.inside.types c.args.self.now.types c.args.name.now c.place_of.result
    c.self.inside.typed c.place_of.ensures c.in_err-at.was (ap (λ n. n.types) c.self.view_is)

pub returns-in_err-named : goal.returns-in_err-named
returns-in_err-named c =
    ap option_copied c.from_residual-in_err-named.ensures
    ∙ no_type_there (entries_by (λ v. v.items) c.self.inside.type_places.first.entries) c.self.inside.type_places.doubled c.self.inside.types c.args.self.now.types c.args.name.now c.place_of.result c.in_ok-at.at
    c.self.inside.typed c.place_of.ensures c.in_ok-at.was c.in_err-named.ensures.value (ap (λ n. n.types) c.self.view_is)

pub returns : goal.returns
returns c =
    one_type (entries_by (λ v. v.items) c.self.inside.type_places.first.entries) c.self.inside.type_places.doubled c.self.inside.types c.args.self.now.types c.args.name.now c.place_of.result c.in_ok-at.at c.in_ok-named.named.now
    c.self.inside.typed c.place_of.ensures c.in_ok-at.was c.in_ok-named.ensures.value (ap (λ n. n.types) c.self.view_is)
