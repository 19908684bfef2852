-- What is known of an index that is read.
use Rattle.std.specs.Prelude.{◌<◌, ◌^◌, IfSome}
use Rattle.ir_scope.specs.Integers.{width}
use Rattle.ir_constants.specs.Offsets.{Indexed}

-- its number is below 2^w of its integer type
abbrev pub IsIndex : Indexed → Type 0
IsIndex index = IfSome (width index.0) (λ w. index.1 < 2 ^ w)
