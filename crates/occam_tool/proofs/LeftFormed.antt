-- What a plan leaves of a module with plain names is formed.
use Rattle.std.proofs.Common.{◌≡◌, ℕ, ◌<◌, ◌≤◌, ◌^◌, List, length, sym, subst, arith}
use Rattle.ir_syntax.specs.declared.item.Module.{Module}
use Rattle.ir_syntax.specs.Formed.{Formed}
use Rattle.ir_syntax.specs.Straight.{IsStraight}
use Rattle.straight_plan.specs.declared.cut.Ask.{Ask}
use Rattle.straight_plan.specs.declared.cut.Cut.{Cut}
use Rattle.straight_plan.specs.Left.{IsPlan, left_module}
use Rattle.straight_leave.specs.Entries.{IsNotNamed}
use Rattle.straight_leave.specs.PlainNames.{HaveNoCopyNames, HaveNoReservedNames}
use Rattle.occam_tool.specs.Names.{HavePlainNames}
use Rattle.occam_tool.proofs.LeftNames.{no_copies, no_intrinsics}

-- the laws of what is left
abbrev pub StraightLaw : Type 0
StraightLaw = (m : Module) (start : Ask) (plan : List Cut) → IsStraight m → HaveNoCopyNames m.items → IsPlan m.items start plan → IsNotNamed m.items start → length plan < 2 ^ 32
    → IsStraight (left_module m start plan)

abbrev pub NamesLaw : Type 0
NamesLaw = (m : Module) (start : Ask) (plan : List Cut) → HaveNoReservedNames m.items → HaveNoReservedNames (left_module m start plan).items

-- and of straight modules
abbrev pub FormedLaw : Type 0
FormedLaw = (m : Module) → IsStraight m → HaveNoReservedNames m.items → Formed m

-- so few have places below 2^32
pub few_plan : (n : ℕ) → n ≤ 65536 → n < 2 ^ 32
few_plan n h = omega (arith, h)

pub left_formed : StraightLaw → NamesLaw → FormedLaw → (m : Module) (start : Ask) (plan : List Cut) (left : Module) → left ≡ left_module m start plan → IsStraight m → HavePlainNames m.items
    → IsNotNamed m.items start → IsPlan m.items start plan → length plan ≤ 65536 → Formed left
left_formed stays names formed m start plan left e straight plain unnamed planned few =
    let left_straight = stays m start plan straight (no_copies m.items plain) planned unnamed (few_plan (length plan) few) in
    subst Formed (sym e) (formed (left_module m start plan) left_straight (names m start plan (no_intrinsics m.items plain)))
