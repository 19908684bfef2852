use Rattle.std.proofs.Common.{◌∙◌, ℤ, Some, ap, sym, rules, w64, FitsSigned}
use Rattle.std.specs.Option.{option_copied}
use Rattle.std.proofs.lemmas.Int.{to_z-of_z}
use Rattle.ir_types.specs.declared.scalar.Scalar.TheVariants.{Ptr}
use Rattle.ir_steps.specs.Replies as replies
use Rattle.ir_meaning.proofs.Looked.{looked_up}
use Rattle.ir_meaning.proofs.outside.typed_reply.Goals as goal

pub returns-in-Ptr-ty : goal.returns-in-Ptr-ty
returns-in-Ptr-ty c =
    let fits : FitsSigned w64 c.in-Arg.by = search rules in
    ap (λ ty. replies.replied c.args.args.now (Some ty) c.args.value) c.in-Ptr-ty.is
    ∙ ap (replies.replied c.args.args.now (Some Ptr)) c.in-Arg.is
    ∙ ap (replies.moved_argument c.in-Arg.by) (looked_up c.args.args.now c.in-Arg.k c.get.result c.get.ensures.lookup.0 c.get.ensures.lookup.1)
    ∙ ap (λ (z : ℤ). replies.moved_argument z (option_copied c.get.result)) (sym (to_z-of_z w64 c.in-Arg.by fits))
    ∙ c.moved_argument.ensures
