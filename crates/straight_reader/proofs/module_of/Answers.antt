use Rattle.std.proofs.Common.{◌∙◌, sym, ap, option_map}
use Rattle.straight_form.specs.Resolved.{items_of}
use Rattle.straight_reader.proofs.Forming.{straight-named, formed_of, module_with}
use Rattle.straight_reader.proofs.module_of.Goals as goal

pub items-requires : goal.items-requires
items-requires c = straight-named c.args.entities.now (sym c.are_straight.ensures ∙ c.if-not-are_straight.false)

pub returns-in-Some-2 : goal.returns-in-Some-2
returns-in-Some-2 c =
    let named = rw c.in-Some.is at c.in_ok-functions.ensures in
    ap (option_map (λ items. module_with items)) (sym c.in-Some-2.is ∙ c.in_ok-items.ensures ∙ ap (λ fs. items_of fs c.args.entities.now) named.0)
    ∙ sym (formed_of c.args.entry.now c.args.count c.args.entities.now (sym c.are_straight.ensures ∙ c.if-not-are_straight.false) (sym c.has_entry.ensures ∙ c.if-not-has_entry.false) named.1)
