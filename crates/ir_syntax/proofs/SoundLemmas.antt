-- Functions of formed, well typed and definite modules.
use Rattle.std.proofs.Common.{◌≡◌, ℕ, Some}
use Rattle.std.specs.Prelude.{slice_get}
use Rattle.ir_types.proofs.ListSteps.{All-at}
use Rattle.ir_syntax.specs.declared.item.Func.{Func}
use Rattle.ir_syntax.specs.declared.item.Item.{Item}
use Rattle.ir_syntax.specs.declared.item.Item.TheVariants as item
use Rattle.ir_syntax.specs.declared.item.Module.{Module}
use Rattle.ir_syntax.specs.Definite.{Definite, DefiniteItem}
use Rattle.ir_syntax.specs.Formed.{Formed}
use Rattle.ir_syntax.specs.FormedItem.{FormedItem}
use Rattle.ir_syntax.specs.SoundFunctions.{IsSoundFunction}
use Rattle.ir_syntax.specs.Typed.{Typed, TypedItem}

pub sound_function : (m : Module) (place : ℕ) (func : Func) → Formed m → Typed m → Definite m → slice_get m.items place ≡ Some (item.Func func) → IsSoundFunction func
sound_function m place func formed typed definite is = record {
  items = m.items;
  formed = All-at (FormedItem m.items) m.items place (item.Func func) formed.has_items is;
  typed = All-at (TypedItem m.items) m.items place (item.Func func) typed is;
  definite = All-at DefiniteItem m.items place (item.Func func) definite is;
}
