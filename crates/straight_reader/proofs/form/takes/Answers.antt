use Rattle.std.proofs.Common.{◌∙◌, ◌≡◌, ap, subst, sym, length, Some, None, ◌<◌, true}
use Rattle.std.proofs.lemmas.List.{length-map}
use Rattle.name_table.specs.Places.{place_among, are_distinct}
use Rattle.straight_form.specs.Form.{takes}
use Rattle.straight_form.specs.declared.surface.Entity.{Entity}
use Rattle.straight_reader.specs.Forms.{function_names}
use Rattle.straight_reader.proofs.NameLists.{isn't_less, later_count, earlier_count, absent_params}
use Rattle.straight_reader.proofs.form.takes.Goals as goal

pub returns-then-at-place : goal.returns-then-at-place
returns-then-at-place c =
    let distinct : are_distinct (function_names c.args.entities.now) ≡ true = ap are_distinct (sym c.requires.names) ∙ c.requires.distinct in
    let there : place_among c.args.callee.now (function_names c.args.entities.now) ≡ Some c.in-Some.place = ap (place_among c.args.callee.now) (sym c.requires.names) ∙ sym c.place_of.ensures.place ∙ c.in-Some.is in
    let within : c.in-Some.place < length c.args.entities.now = subst (λ n. c.in-Some.place < n) (ap length c.requires.names ∙ length-map c.args.entities.now (λ (e : Entity). e.name)) c.in-Some.ensures.within in
    sym (ap (λ o. takes o c.args.given) (later_count c.args.callee.now c.args.entities.now c.args.at c.in-Some.place c.index-entities-place.result distinct there c.if-at-place.true within c.index-entities-place.is
    ∙ ap (λ (e : Entity). Some (length e.params)) c.index-entities-place.is ∙ ap (λ n. Some n) (sym c.len.ensures)))

pub returns-else-at-place : goal.returns-else-at-place
returns-else-at-place c =
    let distinct : are_distinct (function_names c.args.entities.now) ≡ true = ap are_distinct (sym c.requires.names) ∙ c.requires.distinct in
    let there : place_among c.args.callee.now (function_names c.args.entities.now) ≡ Some c.in-Some.place = ap (place_among c.args.callee.now) (sym c.requires.names) ∙ sym c.place_of.ensures.place ∙ c.in-Some.is in
    isn't_less c.args.at c.in-Some.place c.if-at-place.false ∙ sym (ap (λ o. takes o c.args.given) (earlier_count c.args.callee.now c.args.entities.now c.args.at c.in-Some.place distinct there c.if-at-place.false))

pub returns-in-None : goal.returns-in-None
returns-in-None c =
    let there : place_among c.args.callee.now (function_names c.args.entities.now) ≡ None = ap (place_among c.args.callee.now) (sym c.requires.names) ∙ sym c.place_of.ensures.place ∙ c.in-None.is in
    sym (ap (λ o. takes o c.args.given) (absent_params c.args.callee.now _ c.args.entities.now there))
