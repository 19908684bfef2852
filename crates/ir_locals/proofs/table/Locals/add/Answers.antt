use Rattle.std.proofs.Common.{◌≡◌, ◌∙◌, ◌∷◌, [], ◌++◌, false, bytes_eq, ap, sym}
use Rattle.std.specs.Option.{is_some}
use Rattle.std.specs.Map.{lookup}
use Rattle.ir_locals.specs.Locals.{are_locals, local_among}
use Rattle.ir_locals.proofs.Adding.{local_among-map, doubled, more_well, names_after}
use Rattle.ir_locals.proofs.table.Locals.add.Goals as goal

pub returns-then-contains_key : goal.returns-then-contains_key
returns-then-contains_key c =
    doubled c.args.self.now c.args.name.now c.args.local
    (ap (λ ls. is_some (local_among ls c.args.name.now)) (sym c.self.view_is)
    ∙ ap is_some (local_among-map c.args.name.now (λ v. v.items) c.self.inside.locals.entries)
    ∙ sym c.contains_key.ensures ∙ c.if-contains_key.true)

pub returns : goal.returns
returns c =
    let absent : is_some (lookup (λ v. bytes_eq c.args.name.now v.items) c.self.inside.locals.entries) ≡ false = sym c.contains_key.ensures ∙ c.if-contains_key.false in
    let added =
    names_after (λ v. v.items) c.args.name.now c.args.local c.self.inside.locals.entries c.insert.new.self.entries c.in_ok-owned.owned c.in_ok-owned.ensures.items absent c.in_ok-insert.ensures.entries
    ∙ ap (λ ls. ls ++ (c.args.name.now, c.args.local) ∷ []) c.self.view_is in
    let new =
    ap (λ ls. is_some (local_among ls c.args.name.now)) (sym c.self.view_is)
    ∙ ap is_some (local_among-map c.args.name.now (λ v. v.items) c.self.inside.locals.entries) ∙ absent in
    (added, ap are_locals added ∙ more_well c.args.self.now c.args.name.now c.args.local c.requires (sym c.is_name.ensures.value ∙ c.if-not-is_name.false) new)
