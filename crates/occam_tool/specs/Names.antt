-- Names of a module of the form.
use Rattle.std.specs.Prelude.{List, All, IsTrue}
use Rattle.ir_syntax.specs.declared.item.Item.{Item}
use Rattle.ir_syntax.specs.FormedBody.{item_name}
use Rattle.straight_form.specs.Names.{is_plain_name}

-- each item has a plain name
abbrev pub HavePlainNames : List Item → Type 0
HavePlainNames items = All (λ i. IsTrue (is_plain_name (item_name i))) items
