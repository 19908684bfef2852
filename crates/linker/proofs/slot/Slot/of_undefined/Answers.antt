use Rattle.std.proofs.Common.{◌≡◌, ◌∙◌, ◌&&◌, ◌∷◌, sym}
use Rattle.std.specs.List.{list_any}
use Rattle.ir_syntax.specs.declared.symbol.Sym.{Sym}
use Rattle.name_table.specs.Places.{is_among}
use Rattle.linker.specs.Mirrors.Items.{function_at}
use Rattle.linker.specs.Mirrors.Marks.{mark_at}
use Rattle.linker.specs.Mirrors.Slots.{is_nothing}
use Rattle.linker.proofs.Judging.{undefined_made, both_then, both_else}
use Rattle.linker.proofs.slot.Slot.of_undefined.Goals.{then-is_listed, else-is_listed, then-is_nothing, else-is_nothing}
use Rattle.linker.proofs.slot.Slot.of_undefined.Goals as goal

pub returns : goal.returns
returns c =
    let symbols = c.args.group.now.first ∷ c.args.group.now.others in
    let listed_is : c.if-is_listed.listed ≡ (is_among c.name_at-name.result.now c.args.outside.now && list_any (λ (s : Sym). function_at c.args.modules.now s) symbols) = elim c.if-is_listed.branch [
      | then-is_listed w ↦ both_then c.if-is_listed.listed (list_any (λ (s : Sym). function_at c.args.modules.now s) symbols) (is_among c.name_at-name.result.now c.args.outside.now) (sym c.is_listed.ensures ∙ w.if-is_listed.true) (w.listed-is ∙ w.has_function-listed.ensures)
      | else-is_listed w ↦ both_else c.if-is_listed.listed (list_any (λ (s : Sym). function_at c.args.modules.now s) symbols) (is_among c.name_at-name.result.now c.args.outside.now) (sym c.is_listed.ensures ∙ w.if-is_listed.false) (w.listed-is ∙ w.if-is_listed.false)
    ] in
    let missing_is : c.if-is_nothing.result ≡ (is_nothing c.target_of_undefined-target.result && list_any (λ (s : Sym). mark_at c.args.marks.now s) symbols) = elim c.if-is_nothing.branch [
      | then-is_nothing w ↦ both_then c.if-is_nothing.result (list_any (λ (s : Sym). mark_at c.args.marks.now s) symbols) (is_nothing c.target_of_undefined-target.result) (sym c.is_nothing.ensures ∙ w.if-is_nothing.true) (w.result-is ∙ w.is_named.ensures)
      | else-is_nothing w ↦ both_else c.if-is_nothing.result (list_any (λ (s : Sym). mark_at c.args.marks.now s) symbols) (is_nothing c.target_of_undefined-target.result) (sym c.is_nothing.ensures ∙ w.if-is_nothing.false) (w.result-is ∙ w.if-is_nothing.false)
    ] in
    λ name listed is alike none.
    undefined_made c.args.modules.now c.args.marks.now c.args.outside.now listed name c.name_at-name.result.now c.args.group.now.first c.args.group.now.others c.of_name.result c.if-is_listed.listed c.if-is_nothing.result c.in_ok-differ.field-0 c.target_of_undefined-target.result
    c.requires.marks c.name_at-name.ensures c.of_name.ensures listed_is c.target_of_undefined-target.ensures missing_is c.in_ok-differ.ensures is alike none
