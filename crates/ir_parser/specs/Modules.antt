-- The module that entities stand for: names become places, and types are expanded.
use Rattle.std.specs.Prelude.{ℕ, suc, Bool, List, [], ◌∷◌, Option, Some, None, option_map, Result, Ok, Err, if◌then◌else◌}
use Rattle.std.specs.List.{filter_map}
use Rattle.ir_lexer.specs.Texts.{inside, unescaped}
use Rattle.ir_types.specs.Names.{is_name}
use Rattle.ir_syntax.specs.declared.item.Item.{Item}
use Rattle.ir_syntax.specs.declared.item.Module.{Module}
use Rattle.name_table.specs.Places.{place_among}
use Rattle.ir_grammar.specs.declared.shape.Shape.{Shape}
use Rattle.ir_grammar.specs.declared.shape.Shape.TheVariants as is
use Rattle.ir_grammar.specs.declared.shape.Free.TheVariants as free
use Rattle.ir_grammar.specs.Tokens.{Kept}
use Rattle.ir_scope.specs.Scopes.{Env, is_at}
use Rattle.type_names.specs.TypeNames.{Named, named_type, named_types, stands_for, is_type_entity}
use Rattle.ir_parser.specs.Items.{item_name_of, dropped_name_of, item_of}

-- the items' names, in their order
abbrev pub symbols_of : List (List Kept) → List (List ℕ)
symbols_of entities = filter_map item_name_of entities

-- what names stand for in the module
abbrev pub env_of : List (List Kept) → Env
env_of entities = record { types = stands_for (named_types entities); symbols = symbols_of entities }

-- ---- targets: the last of each counts

abbrev pub string_of : List ℕ → List ℕ
string_of text = unescaped (inside text)

abbrev pub layout_from : Option (List ℕ) → List (List Kept) → Option (List ℕ)
layout_from found [] = found
layout_from found (((is.Free free.Datalayout, word) ∷ (is.Str, text) ∷ []) ∷ es) = layout_from (Some (string_of text)) es
layout_from found (e ∷ es) = layout_from found es

abbrev pub triple_from : Option (List ℕ) → List (List Kept) → Option (List ℕ)
triple_from found [] = found
triple_from found (((is.Free free.Triple, word) ∷ (is.Str, text) ∷ []) ∷ es) = triple_from (Some (string_of text)) es
triple_from found (e ∷ es) = triple_from found es

-- ---- items

-- one more entity stands in front
abbrev pub past : Result (List Item) ℕ → Result (List Item) ℕ
past (Ok items) = Ok items
past (Err at) = Err (suc at)

-- one more item stands in front
abbrev pub past_item : Item → Result (List Item) ℕ → Result (List Item) ℕ
past_item i (Ok items) = Ok (i ∷ items)
past_item i (Err at) = Err (suc at)

abbrev pub item_then : Option Item → Result (List Item) ℕ → Result (List Item) ℕ
item_then None others = Err 0
item_then (Some i) others = past_item i others

-- the item of an entity that has this name, where it is the first of its name among the items
abbrev pub first_item : Env → ℕ → List ℕ → List Kept → Option Item
first_item env place name e = if is_at (place_among name env.symbols) place then item_of env name e else None

-- what an entity is: a named type, an item, a declaration that is dropped, or none of these
pub data Kind : Type 0 where
  OfType : (named : Named) → Kind
  OfItem : (name : List ℕ) → Kind
  OfDropped : (name : List ℕ) → Kind
  OfNone : Kind

abbrev pub or_dropped : Option (List ℕ) → Kind
or_dropped None = OfNone
or_dropped (Some name) = OfDropped name

abbrev pub or_item : Option (List ℕ) → Option (List ℕ) → Kind
or_item None dropped = or_dropped dropped
or_item (Some name) dropped = OfItem name

abbrev pub kind_from : Option Named → Option (List ℕ) → Option (List ℕ) → Kind
kind_from (Some named) name dropped = OfType named
kind_from None name dropped = or_item name dropped

abbrev pub kind_of : List Kept → Kind
kind_of e = kind_from (named_type e) (item_name_of e) (dropped_name_of e)

-- The items of entities, over so many named types and items before them; or the place of the first entity whose names
-- or constants don't resolve. The name of a declaration that is dropped keeps the limits on names like every other.
abbrev pub items_with : Env → List Named → (ℕ → ℕ → Result (List Item) ℕ) → ℕ → ℕ → List Kept → Kind → Result (List Item) ℕ
items_with env types others i j e (OfType named) = if is_type_entity types i named then past (others (suc i) j) else Err 0
items_with env types others i j e (OfItem name) = item_then (first_item env j name e) (others i (suc j))
items_with env types others i j e (OfDropped name) = if is_name name then past (others i j) else Err 0
items_with env types others i j e OfNone = past (others i j)

abbrev pub items_from : Env → List Named → List (List Kept) → ℕ → ℕ → Result (List Item) ℕ
items_from env types [] i j = Ok []
items_from env types (e ∷ es) i j = items_with env types (items_from env types es) i j e (kind_of e)

abbrev pub with_targets : List (List Kept) → Result (List Item) ℕ → Result Module ℕ
with_targets entities (Ok items) = Ok (record { layout = layout_from None entities; triple = triple_from None entities; items = items })
with_targets entities (Err at) = Err at

-- the module of entities, or the place of the first that doesn't resolve
abbrev pub module_of : List (List Kept) → Result Module ℕ
module_of entities = with_targets entities (items_from (env_of entities) (named_types entities) entities 0 0)
