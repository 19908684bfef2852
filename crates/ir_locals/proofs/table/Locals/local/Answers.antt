use Rattle.std.proofs.Common.{◌∙◌, ap, sym}
use Rattle.ir_locals.specs.Locals.{local_among}
use Rattle.ir_locals.proofs.Adding.{local_among-map}
use Rattle.ir_locals.proofs.table.Locals.local.Goals as goal

pub returns : goal.returns
returns c =
    c.copied.ensures ∙ c.get.ensures.value
    ∙ sym (local_among-map c.args.name.now (λ v. v.items) c.self.inside.locals.entries)
    ∙ ap (λ ls. local_among ls c.args.name.now) c.self.view_is
