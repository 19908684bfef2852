use Rattle.std.proofs.Common.{◌<◌, length, [], ◌∷◌, ◌++◌, get_or, set, ap, ◌∙◌, arith}
use Rattle.ir_check.proofs.Edging.{added_edge}
use Rattle.ir_check.proofs.incoming.Incoming.add.Goals as goal

pub returns : goal.returns
returns c =
    let within : c.args.to < length c.self.inside.blocks.items = omega (arith, c.self.inside.blocks.ok) in
    added_edge (λ block. block.items) c.self.inside.blocks.items c.args.to c.args.from c.index_mut.result.now c.push.new.self within c.index_mut.ensures.value c.in_ok-push.ensures.items
    ∙ ap (λ lists. set lists c.args.to (get_or lists c.args.to [] ++ c.args.from ∷ [])) c.self.view_is
