use Rattle.std.proofs.Common.{◌<◌, ◌^◌, List, length, sym, subst}
use Rattle.std.specs.List.{All}
use Rattle.std.proofs.lemmas.List.Elements.{All-push}
use Rattle.ir_syntax.specs.declared.item.Module.{Module}
use Rattle.ir_syntax.specs.Programs.{IsSoundModule}
use Rattle.program_rows.proofs.modules.modules_of.Goals as goal

pub loop-text-preserved : goal.loop-text-preserved
loop-text-preserved c = record {
  sound = subst (λ (ms : List Module). All IsSoundModule ms) (sym c.in_ok-push-in-Some-sound_module.ensures.ok) (All-push IsSoundModule c.loop-text.modules c.in-Some-sound_module.module c.loop-text.invariant.sound c.in-Some-sound_module.ensures.0);
  few = subst (λ (ms : List Module). All (λ (m : Module). length m.items < 2 ^ 32) ms) (sym c.in_ok-push-in-Some-sound_module.ensures.ok) (All-push (λ (m : Module). length m.items < 2 ^ 32) c.loop-text.modules c.in-Some-sound_module.module c.loop-text.invariant.few c.in-Some-sound_module.ensures.1);
}
