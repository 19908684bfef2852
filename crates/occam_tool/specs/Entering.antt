-- What is known of the arguments of an entry.
use Rattle.std.specs.Prelude.{◌<◌, ◌^◌, List, All}
use Rattle.ir_types.specs.declared.scalar.Known.{Known}
use Rattle.ir_types.specs.declared.scalar.Known.TheVariants.{Unknown, Num, Null}

-- nothing is known of a word, or its number
abbrev pub IsKnownWord : Known → Type 0
IsKnownWord Unknown = Unit {0}
IsKnownWord (Num n) = n < 2 ^ 32
IsKnownWord Null = ⊥

abbrev pub AreWords : List Known → Type 0
AreWords args = All IsKnownWord args
