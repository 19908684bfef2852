-- The exit statuses.
use Rattle.std.specs.Prelude.{ℕ}
use Rattle.occam_base.specs.declared.code.Code.{Code}
use Rattle.occam_base.specs.declared.code.Code.TheVariants as code

abbrev pub number_of : Code → ℕ
number_of code.Done = 0
number_of code.Usage = 2
number_of code.OutOfMemory = 3
number_of code.ReadFault = 4
number_of code.WriteFault = 5
number_of code.PrintFault = 6
number_of code.SourceFault = 7
number_of code.Absent = 10
number_of code.TooLarge = 11
number_of code.NotJson = 12
number_of code.BadManifest = 13
number_of code.BadByte = 20
number_of code.NotInSubset = 21
number_of code.IllTyped = 22
number_of code.NotDefinite = 23
number_of code.TwoDefinitions = 30
number_of code.NoDefinition = 31
number_of code.TypeClash = 32
number_of code.NoEntry = 40
number_of code.EntryShape = 41
number_of code.NoExport = 42
number_of code.ExportShape = 43
number_of code.TooManyDemands = 50
number_of code.TooMuchCode = 51
number_of code.NameClash = 52
