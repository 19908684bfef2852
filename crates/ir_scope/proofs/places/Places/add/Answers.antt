use Rattle.std.proofs.Common.{◌≡◌, ◌∙◌, sym, ap, true, false, not, Bool, refl}
use Rattle.std.specs.Prelude.{is_some}
use Rattle.ir_scope.proofs.Placing.{kept_new, kept_doubled, kept_doubled_before}
use Rattle.ir_scope.proofs.places.Places.add.Goals as goal

pub returns-then-is_none-clause-ok : goal.returns-then-is_none-clause-ok
returns-then-is_none-clause-ok c =
    kept_doubled (λ v. v.items) c.args.self.now.first.entries c.args.name.now c.args.at c.len.result c.args.self.now.doubled (c.is_none.ensures ∙ ap not c.if-is_none.true) c.len.ensures.len
    (sym c.if-contains_key.true ∙ c.contains_key.ensures)

pub returns-else-is_none-clause-ok : goal.returns-else-is_none-clause-ok
returns-else-is_none-clause-ok c =
    kept_doubled_before (λ v. v.items) c.args.self.now.first.entries c.args.name.now c.args.at c.args.self.now.doubled (c.is_none.ensures ∙ ap not c.if-is_none.false)
    (sym c.if-contains_key.true ∙ c.contains_key.ensures)

pub returns-clause-ok : goal.returns-clause-ok
returns-clause-ok c =
    kept_new (λ v. v.items) c.args.self.now.first.entries c.insert.new.self.entries c.in_ok-owned.owned c.args.name.now c.args.at c.args.self.now.doubled c.in_ok-owned.ensures.items
    (sym c.if-contains_key.false ∙ c.contains_key.ensures) c.in_ok-insert.ensures.entries
