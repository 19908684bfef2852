-- Written items are read again.
use Rattle.std.proofs.Common.{◌≡◌, ℕ, ◌≤◌, List, Some, length, subst}
use Rattle.std.specs.Prelude.{All, IfSome}
use Rattle.ir_syntax.specs.declared.item.Item.{Item}
use Rattle.ir_syntax.specs.declared.item.Item.TheVariants as item
use Rattle.ir_syntax.specs.declared.body.Body.{Body}
use Rattle.ir_syntax.specs.FormedBody.{FormedBody, item_name}
use Rattle.ir_syntax.specs.FormedItem.{FormedItem}
use Rattle.ir_scope.specs.Scopes.{Env}
use Rattle.ir_body.specs.Bodies.{body_at}
use Rattle.ir_parser.specs.Items.{item_of}
use Rattle.ir_writer.specs.Ranges.{AreBytes, BlockInRange, ItemInRange}
use Rattle.round_trip.proofs.Grammar.Kept.{body_kept, item_kept}
use Rattle.round_trip.proofs.Tokens.Quoted.{name_back}
use Rattle.round_trip.proofs.Modules.ParamNames.{texts_from, param_name}
use Rattle.round_trip.proofs.Modules.Vars.{TypesBack, ConstantsBack, var-back}
use Rattle.round_trip.proofs.Modules.Funcs.{IsBack, func-back}

-- Written bodies of functions with so many parameters are read again, in a module of these items with these names.
abbrev pub BodiesBack : Env → List (List ℕ) → List Item → Type 0
BodiesBack env names items =
    (params : ℕ) (body : Body) → params ≤ 32 → FormedBody items params body → All BlockInRange body.blocks → body_at env (texts_from param_name 0 params) (body_kept names body) ≡ Some body

pub item-bytes : (i : Item) → ItemInRange i → AreBytes (item_name i)
item-bytes (item.Var var) range = range.0
item-bytes (item.Func func) range = range.0

pub item-name-back : (i : Item) → ItemInRange i → IsBack (item_name i)
item-name-back i range = name_back (item_name i) (item-bytes i range)

pub item_back : (env : Env) (names : List (List ℕ)) (items : List Item) → TypesBack env → ConstantsBack env names items → BodiesBack env names items → (i : Item) → FormedItem items i → ItemInRange i → item_of env (item_name i) (item_kept names i) ≡ Some i
item_back env names items types constants bodies (item.Var var) formed range = var-back env names items types constants var formed range
item_back env names items types constants bodies (item.Func func) formed range =
    func-back items func formed (item-name-back (item.Func func) range) env names
    (λ body e.
    let is : FormedBody items (length func.params) body = subst (λ o. IfSome o (FormedBody items (length func.params))) e formed.has_body in
    let within : All BlockInRange body.blocks = subst (λ o. IfSome o (λ (b : Body). All BlockInRange b.blocks)) e range.1 in
    bodies (length func.params) body formed.few_params is within)
