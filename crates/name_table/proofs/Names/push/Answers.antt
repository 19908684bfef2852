use Rattle.std.proofs.Common.{◌≡◌, ◌∙◌, ◌∷◌, [], ◌++◌, false, ap, sym, bytes_eq}
use Rattle.std.specs.List.{list_any}
use Rattle.name_table.specs.Places.{is_among}
use Rattle.name_table.proofs.Positions.{is_among-map, names_after}
use Rattle.name_table.proofs.Names.push.Goals as goal

pub returns-clause-ok : goal.returns-clause-ok
returns-clause-ok c =
    let absent : list_any (λ v. bytes_eq c.args.name.now v.items) c.self.inside.names.keys ≡ false
    = sym (is_among-map c.args.name.now (λ v. v.items) c.self.inside.names.keys) ∙ ap (is_among c.args.name.now) c.self.view_is ∙ c.requires in
    names_after (λ v. v.items) c.args.name.now c.self.inside.names.keys c.insert.new.self.keys c.in_ok-owned.owned c.in_ok-owned.ensures.items absent c.in_ok-insert.ensures.keys
    ∙ ap (λ names. names ++ c.args.name.now ∷ []) c.self.view_is
