-- Items of programs by their symbols.
use Rattle.std.proofs.Common.{◌≡◌, List, Option, None, Some, refl, ap}
use Rattle.std.specs.Prelude.{slice_get, option_and_then}
use Rattle.std.proofs.lemmas.Option.{none-some}
use Rattle.ir_syntax.specs.declared.symbol.Sym.{Sym}
use Rattle.ir_syntax.specs.declared.item.Item.{Item}
use Rattle.ir_syntax.specs.declared.item.Module.{Module}
use Rattle.ir_syntax.specs.Symbols.{item_at}

-- where an item is, its module is
pub record StandsIn (modules : List Module) (symbol : Sym) (found : Item) : Type 0 where
  pub home : Module
  pub stands : slice_get modules symbol.module ≡ Some home
  pub is : slice_get home.items symbol.item ≡ Some found

pub stands_in : (modules : List Module) (symbol : Sym) (found : Item) → item_at modules symbol ≡ Some found → StandsIn modules symbol found
stands_in modules symbol found is = by (slice_get modules symbol.module) refl is
  where
    by : (o : Option Module) → slice_get modules symbol.module ≡ o → option_and_then (λ (m : Module). slice_get m.items symbol.item) o ≡ Some found → StandsIn modules symbol found
    by None e h = absurd (none-some found h)
    by (Some m) e h = record { home = m; stands = e; is = h }

pub item_is : (modules : List Module) (symbol : Sym) (m : Module) → slice_get modules symbol.module ≡ Some m → item_at modules symbol ≡ slice_get m.items symbol.item
item_is modules symbol m is = ap (λ o. option_and_then (λ (m : Module). slice_get m.items symbol.item) o) is
