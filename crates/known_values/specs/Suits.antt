-- Values that are as facts say.
use Rattle.std.specs.Prelude.{◌≡◌, List}
use Rattle.std.specs.List.{AllZip}
use Rattle.ir_types.specs.declared.scalar.Known.{Known}
use Rattle.ir_types.specs.declared.scalar.Known.TheVariants.{Unknown, Num, Null}
use Rattle.ir_syntax.specs.declared.symbol.Sym.{Sym}
use Rattle.block_memory.specs.declared.value.Val.{Val}
use Rattle.block_memory.specs.declared.value.Val.TheVariants as val
use Rattle.fold_facts.specs.declared.fact.Fact.{Fact}
use Rattle.fold_facts.specs.declared.fact.Fact.TheVariants.{Unreached, One, Varying}
use Rattle.fold_facts.specs.Operands.{known_fact}

-- the value is the known one
abbrev pub IsKnownAs : Known → Val Sym → Type 0
IsKnownAs Unknown v = Unit {0}
IsKnownAs (Num n) v = v ≡ val.Num n
IsKnownAs Null v = v ≡ val.Null

-- No value is of what isn't reached, and any may be of what varies.
abbrev pub Suits : Fact → Val Sym → Type 0
Suits Unreached v = ⊥
Suits (One known) v = IsKnownAs known v
Suits Varying v = Unit {0}

-- one value for each item of a pattern
abbrev pub AllSuit : List Known → List (Val Sym) → Type 0
AllSuit pattern values = AllZip (λ known v. Suits (known_fact known) v) pattern values
