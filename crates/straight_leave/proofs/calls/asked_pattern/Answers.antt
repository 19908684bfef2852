use Rattle.std.proofs.Common.{◌≡◌, ◌∙◌, ap, map, if◌then◌else◌, arith}
use Rattle.std.proofs.lemmas.Grind.{common_steps}
use Rattle.ir_types.specs.declared.scalar.Known.TheVariants.{Unknown}
use Rattle.straight_plan.specs.Asked.{known_of, forgotten}
use Rattle.straight_leave.proofs.Kept.{asked_of_each}
use Rattle.straight_leave.proofs.calls.asked_pattern.Goals as goal

pub returns : goal.returns
returns c =
    let copied = c.is_copied-copied.result in
    let all : c.loop-arg.pattern.items ≡ map (λ arg. if copied then known_of arg.value else Unknown) c.args.args.now = grind (arith, common_steps) in
    all ∙ asked_of_each copied c.args.args.now
    ∙ ap (λ b. if b then map (λ arg. known_of arg.value) c.args.args.now else forgotten (map (λ arg. known_of arg.value) c.args.args.now)) c.is_copied-copied.ensures
