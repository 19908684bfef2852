-- The grammar takes each item of a module that a text can write.
use Rattle.std.proofs.Common.{◌≡◌, ℕ, true, List, [], Option, Some, None, IfSome, All, refl}
use Rattle.ir_lexer.specs.Written.{spellings_of}
use Rattle.ir_syntax.specs.FormedItem.{FormedItem}
use Rattle.ir_syntax.specs.declared.body.Body.{Body}
use Rattle.ir_syntax.specs.declared.item.Func.{Func}
use Rattle.ir_syntax.specs.declared.item.Item.{Item}
use Rattle.ir_syntax.specs.declared.item.Item.TheVariants as item
use Rattle.ir_writer.specs.Modules.{item_parts, func_with}
use Rattle.ir_writer.specs.Ranges.{ItemInRange}
use Rattle.round_trip.proofs.Grammar.Kept.{item_kept}
use Rattle.round_trip.proofs.Grammar.Walking.{Takes, entity}
use Rattle.round_trip.proofs.Grammar.Goes.{is_quiet_or_none}
use Rattle.round_trip.proofs.Entities.Names.{at_plain}
use Rattle.round_trip.proofs.Entities.Bodies.{BlockGoes}
use Rattle.round_trip.proofs.Entities.Variables.{VarGoes, var_takes}
use Rattle.round_trip.proofs.Entities.Functions.{func_takes}

-- what the items do at the parts of an item, which is shown elsewhere
abbrev pub ItemGoes : List (List ℕ) → Item → Type 0
ItemGoes names (item.Var var) = VarGoes names var
ItemGoes names (item.Func func) = IfSome func.body (λ body. All (BlockGoes names) body.blocks)

pub item_takes : (names : List (List ℕ)) (items : List Item) (i : Item) → FormedItem items i → ItemInRange i → ItemGoes names i → Takes entity (spellings_of (item_parts names i)) (item_kept names i) []
item_takes names items (item.Var var) formed range h = var_takes names var range.0 (at_plain var.name formed.not_reserved) formed.has_align h
item_takes names items (item.Func func) formed range h = func_takes names items func func.body range.0 formed.intrinsic formed.not_defined formed.has_body h

func_quiet : (names : List (List ℕ)) (func : Func) (body : Option Body) → is_quiet_or_none (spellings_of (func_with names func body)) ≡ true
func_quiet names func None = refl
func_quiet names func (Some body) = refl

-- an item begins quietly
pub item_quiet : (names : List (List ℕ)) (i : Item) → is_quiet_or_none (spellings_of (item_parts names i)) ≡ true
item_quiet names (item.Var var) = refl
item_quiet names (item.Func func) = func_quiet names func func.body
