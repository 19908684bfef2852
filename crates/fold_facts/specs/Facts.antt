-- Facts in rising order, and their join.
use Rattle.std.specs.Prelude.{◌≡◌, ◌==◌, Bool, true, false, List, [], ◌∷◌, if◌then◌else◌}
use Rattle.ir_types.specs.declared.scalar.Known.{Known}
use Rattle.ir_types.specs.declared.scalar.Known.TheVariants.{Unknown, Num, Null}
use Rattle.fold_facts.specs.declared.fact.Fact.{Fact}
use Rattle.fold_facts.specs.declared.fact.Fact.TheVariants.{Unreached, One, Varying}

-- Unreached is below one value, and one value is below Varying.
abbrev pub IsBelow : Fact → Fact → Type 0
IsBelow Unreached other = Unit {0}
IsBelow (One v) Unreached = ⊥
IsBelow (One v) (One w) = v ≡ w
IsBelow (One v) Varying = Unit {0}
IsBelow Varying Unreached = ⊥
IsBelow Varying (One w) = ⊥
IsBelow Varying Varying = Unit {0}

abbrev pub is_same : Known → Known → Bool
is_same Unknown Unknown = true
is_same Unknown (Num n) = false
is_same Unknown Null = false
is_same (Num m) Unknown = false
is_same (Num m) (Num n) = m == n
is_same (Num m) Null = false
is_same Null Unknown = false
is_same Null (Num n) = false
is_same Null Null = true

-- Two different values vary.
abbrev pub join : Fact → Fact → Fact
join Unreached other = other
join (One v) Unreached = One v
join (One v) (One w) = if is_same v w then One v else Varying
join (One v) Varying = Varying
join Varying other = Varying

-- of no fact it is Unreached
abbrev pub join_all : List Fact → Fact
join_all [] = Unreached
join_all (fact ∷ facts) = join fact (join_all facts)
