-- the modules so far are sound, and have few items
use Rattle.std.proofs.Common.{◌<◌, ◌^◌, length}
use Rattle.std.specs.List.{All}
use Rattle.ir_syntax.specs.declared.item.Module.{Module}
use Rattle.ir_syntax.specs.Programs.{IsSoundModule}
use Rattle.program_rows.proofs.modules.modules_of.Given as goal

abbrev pub invariant-loop-text : goal.invariant-loop-text
invariant-loop-text l = record { sound : All IsSoundModule l.modules; few : All (λ (m : Module). length m.items < 2 ^ 32) l.modules }
