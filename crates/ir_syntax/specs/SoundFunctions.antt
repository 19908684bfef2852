-- Functions that are formed, well typed and definite, whatever module they stand in.
use Rattle.std.specs.Prelude.{List, IfSome}
use Rattle.ir_syntax.specs.declared.item.Func.{Func}
use Rattle.ir_syntax.specs.declared.item.Item.{Item}
use Rattle.ir_syntax.specs.FormedItem.{FormedFunc}
use Rattle.ir_syntax.specs.Typed.{TypedFunc}
use Rattle.ir_syntax.specs.Definite.{DefiniteBody}

pub record IsSoundFunction (func : Func) : Type 0 where
  -- the items that the function stands among
  pub items : List Item
  pub formed : FormedFunc items func
  pub typed : TypedFunc items func
  pub definite : IfSome func.body DefiniteBody
