-- What linking answers for a manifest: what a manifest says of a deployment, and which rule and name a refusal names.
use Rattle.std.specs.Prelude.{List, ⊤}
use Rattle.manifest.specs.declared.fault.Manifest.{Manifest}
use Rattle.ir_syntax.specs.declared.item.Module.{Module}
use Rattle.ir_syntax.specs.Refusals.{Deployment, IsRefused}
use Rattle.ir_syntax.specs.Refusals as rule
use Rattle.linker.specs.declared.fault.LinkFault.{LinkFault}
use Rattle.linker.specs.declared.fault.LinkFault.TheVariants as fault

abbrev pub deployment_of : Manifest → Deployment
deployment_of m = record { entry = m.entry; args = m.args; exports = m.exports; outside = m.outside }

-- Linking refuses the modules with this fault. Want of memory has no cause.
abbrev pub IsCause : List Module → Deployment → LinkFault → Type 0
IsCause modules d (fault.TwoDefinitions symbol) = IsRefused modules d rule.TwoDefinitions symbol
IsCause modules d (fault.NoDefinition symbol) = IsRefused modules d rule.NoDefinition symbol
IsCause modules d (fault.TypeClash symbol) = IsRefused modules d rule.TypeClash symbol
IsCause modules d (fault.NoEntry symbol) = IsRefused modules d rule.NoEntry symbol
IsCause modules d (fault.EntryShape symbol) = IsRefused modules d rule.EntryShape symbol
IsCause modules d (fault.NoExport symbol) = IsRefused modules d rule.NoExport symbol
IsCause modules d (fault.ExportShape symbol) = IsRefused modules d rule.ExportShape symbol
IsCause modules d fault.OutOfMemory = ⊤
