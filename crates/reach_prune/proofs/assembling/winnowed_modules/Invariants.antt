-- so many are made, and each is what is left of its module
use Rattle.std.proofs.Common.{◌≡◌, ℕ, List, Some, length}
use Rattle.std.specs.Prelude.{slice_get}
use Rattle.ir_syntax.specs.declared.item.Module.{Module}
use Rattle.winnowed_form.specs.declared.member.Member.{Member}
use Rattle.winnowed_form.specs.Winnowed.{IsWinnowedModule}
use Rattle.reach_prune.specs.Mirrors.Shown.{shown}
use Rattle.reach_prune.proofs.assembling.winnowed_modules.Given as goal

abbrev pub invariant-loop-home : goal.invariant-loop-home
invariant-loop-home l =
    (length l.made ≡ l.home)
    × ((k : ℕ) (members : List Member) (n v : Module) → slice_get l.lists k ≡ Some members → slice_get l.module-items k ≡ Some n → slice_get l.made k ≡ Some v → IsWinnowedModule (shown l.g) members k n v)
