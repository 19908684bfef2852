use Rattle.std.proofs.Common.{◌∙◌, sym, ap, replicate}
use Rattle.ir_syntax.specs.Straight.{word_param}
use Rattle.straight_reader.proofs.Resolving.{func_made, linkage_for, params_same}
use Rattle.straight_reader.proofs.resolve.func.Goals.{then-entity, else-entity}
use Rattle.straight_reader.proofs.resolve.func.Goals as goal

pub returns : goal.returns
returns c =
    let params = c.in_ok-word_params.ensures ∙ ap (λ n. replicate n word_param) c.len.ensures ∙ sym (params_same c.args.entity.now.params) in
    let body = sym c.in-Some.is ∙ c.in_ok-body.ensures in
    elim c.if-entity.branch [
      | then-entity w ↦ func_made c.args.functions.now c.args.entity.now _ c.in-Some.body _ _ c.in_ok-copy.ensures (w.linkage-is ∙ ap (λ b. linkage_for b) (sym w.if-entity.true)) params body
      | else-entity w ↦ func_made c.args.functions.now c.args.entity.now _ c.in-Some.body _ _ c.in_ok-copy.ensures (w.linkage-is ∙ ap (λ b. linkage_for b) (sym w.if-entity.false)) params body
    ]
