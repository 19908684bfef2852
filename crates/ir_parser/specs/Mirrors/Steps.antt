-- Steps of reading, as the functions that do them have them.
use Rattle.std.specs.Prelude.{◌≡◌, ℕ, Bool, true, List, [], Option, Some, None, Ok, Err, ⊤, if◌then◌else◌}
use Rattle.std.specs.Fmt.{decimal}
use Rattle.ir_lexer.specs.Spelled.{is_decimal}
use Rattle.ir_types.specs.Names.{is_name}
use Rattle.ir_lexer.specs.Tokens.{IsBadByte}
use Rattle.ir_syntax.specs.declared.item.Item.{Item}
use Rattle.ir_grammar.specs.Tokens.{Kept, Piece, seen}
use Rattle.ir_scope.specs.Scopes.{Env}
use Rattle.type_names.specs.TypeNames.{named_types}
use Rattle.ir_parser.specs.declared.fault.ReadFault.{ReadFault}
use Rattle.ir_parser.specs.declared.fault.ReadFault.TheVariants.{BadByte, NotInSubset, OutOfMemory}
use Rattle.ir_parser.specs.declared.heads.Head.{Head as RustHead}
use Rattle.ir_parser.specs.declared.items.Resolved.{Resolved}
use Rattle.ir_parser.specs.declared.items.Resolved.TheVariants as is
use Rattle.ir_parser.specs.Items.{Head}
use Rattle.ir_parser.specs.Modules.{Kind, OfType, OfItem, OfDropped, OfNone, first_item, items_from, module_of}
use Rattle.ir_parser.specs.Spelled.{Entity, Splits, kept_of, IsNotSpelled}

-- ---- parameters and heads

-- the name of a parameter, or the number where it has none
abbrev pub name_or : Option (List ℕ) → ℕ → List ℕ
name_or None number = decimal number
name_or (Some name) number = name

-- A parameter with this name or none counts for the names of those behind it.
abbrev pub counts : Option (List ℕ) → Bool
counts None = true
counts (Some name) = is_decimal name

-- what contracts see of the head of a function
abbrev pub head_of : RustHead → Head
head_of head = record { func = head.func; names = head.names; rest = seen head.rest.now }

-- ---- entities

-- The first tokens are those of entities of which this is kept, one after another, and these are left.
pub record AreEntities (pieces : List Piece) (kept : List (List Kept)) (rest : List Piece) : Type 0 where
  pub entities : List Entity
  pub split : Splits pieces entities rest
  pub is : kept_of entities ≡ kept

-- what an entity is behind so many items, where a named type is one that the module may have, or not
abbrev pub item_or : Option Item → Resolved
item_or None = is.Unresolved
item_or (Some item) = is.Item item

abbrev pub resolved_as : Env → Bool → ℕ → List Kept → Kind → Resolved
resolved_as env stands place e (OfType named) = if stands then is.Type else is.Unresolved
resolved_as env stands place e (OfItem name) = item_or (first_item env place name e)
resolved_as env stands place e (OfDropped name) = if is_name name then is.Nothing else is.Unresolved
resolved_as env stands place e OfNone = is.Nothing

-- what an entity is that is neither a named type nor an item, by its name where it is a declaration that is dropped
abbrev pub nothing_or : Option (List ℕ) → Resolved
nothing_or None = is.Nothing
nothing_or (Some name) = if is_name name then is.Nothing else is.Unresolved

-- ---- causes of faults, step by step

abbrev pub IsLexCause : List ℕ → ReadFault → Type 0
IsLexCause text (BadByte at) = IsBadByte text at
IsLexCause text (NotInSubset entity) = ⊥
IsLexCause text OutOfMemory = ⊤

abbrev pub IsSplitCause : List Piece → ReadFault → Type 0
IsSplitCause pieces (BadByte at) = ⊥
IsSplitCause pieces (NotInSubset entity) = IsNotSpelled pieces entity
IsSplitCause pieces OutOfMemory = ⊤

abbrev pub IsItemsCause : Env → List (List Kept) → ReadFault → Type 0
IsItemsCause env entities (BadByte at) = ⊥
IsItemsCause env entities (NotInSubset entity) = items_from env (named_types entities) entities 0 0 ≡ Err entity
IsItemsCause env entities OutOfMemory = ⊤

abbrev pub IsModuleCause : List (List Kept) → ReadFault → Type 0
IsModuleCause entities (BadByte at) = ⊥
IsModuleCause entities (NotInSubset entity) = module_of entities ≡ Err entity
IsModuleCause entities OutOfMemory = ⊤
