-- Which module a text spells, and why a text spells none.
use Rattle.std.specs.Prelude.{◌≡◌, ◌≢◌, ℕ, List, [], ◌∷◌, length, map, drop, Result, Ok, Err, ⊤}
use Rattle.ir_lexer.specs.declared.token.Token.{Token}
use Rattle.ir_lexer.specs.Tokens.{Tokens, IsBadByte, texts_of}
use Rattle.ir_syntax.specs.declared.item.Module.{Module}
use Rattle.ir_grammar.specs.declared.grammar.Name.TheVariants as the
use Rattle.ir_grammar.specs.Tokens.{Kept, Piece}
use Rattle.ir_grammar.specs.Derives.{IsDerived, IsNotDerived}
use Rattle.ir_parser.specs.declared.fault.ReadFault.{ReadFault}
use Rattle.ir_parser.specs.declared.fault.ReadFault.TheVariants.{BadByte, NotInSubset, OutOfMemory}
use Rattle.ir_parser.specs.Modules.{module_of}

-- what is kept of an entity, and how many tokens it has
abbrev pub Entity : Type 0
Entity = List Kept × ℕ

-- So many of the first tokens are an entity by the grammar, and this is kept of them.
abbrev pub IsEntityOf : List Piece → Entity → Type 0
IsEntityOf pieces e = IsDerived the.Entity pieces e.0 e.1

-- The first tokens are no entity by the grammar.
abbrev pub IsNoEntity : List Piece → Type 0
IsNoEntity pieces = IsNotDerived the.Entity pieces

-- The first tokens are those of these entities, one after another, and these are left.
abbrev pub Splits : List Piece → List Entity → List Piece → Type 0
Splits pieces [] rest = pieces ≡ rest
Splits pieces (e ∷ es) rest = IsEntityOf pieces e × Splits (drop e.1 pieces) es rest

abbrev pub kept_of : List Entity → List (List Kept)
kept_of entities = map (λ (e : Entity). e.0) entities

-- The text spells the module: its tokens are those of entities that stand for it.
pub record Spells (text : List ℕ) (m : Module) : Type 0 where
  pub tokens : List Token
  pub tile : Tokens text tokens
  pub entities : List Entity
  pub split : Splits (texts_of text tokens) entities []
  pub resolved : module_of (kept_of entities) ≡ Ok m

-- So many entities are spelled, and the tokens behind them spell none.
pub record IsNotSpelled (pieces : List Piece) (at : ℕ) : Type 0 where
  pub entities : List Entity
  pub rest : List Piece
  pub split : Splits pieces entities rest
  pub before : length entities ≡ at
  pub some : rest ≢ []
  pub none : IsNoEntity rest

-- All entities are spelled, and this is the first whose names or constants don't resolve.
pub record IsNotResolved (pieces : List Piece) (at : ℕ) : Type 0 where
  pub entities : List Entity
  pub split : Splits pieces entities []
  pub first : module_of (kept_of entities) ≡ Err at

pub data IsNotIn (pieces : List Piece) (at : ℕ) : Type 0 where
  Spelling : (is : IsNotSpelled pieces at) → IsNotIn pieces at
  Resolving : (is : IsNotResolved pieces at) → IsNotIn pieces at

-- The tokens of the text spell no module, and this entity is why.
pub record IsNotInSubset (text : List ℕ) (at : ℕ) : Type 0 where
  pub tokens : List Token
  pub tile : Tokens text tokens
  pub why : IsNotIn (texts_of text tokens) at

-- Why a text isn't read. Want of memory has no cause.
abbrev pub IsCause : List ℕ → ReadFault → Type 0
IsCause text (BadByte at) = IsBadByte text at
IsCause text (NotInSubset entity) = IsNotInSubset text entity
IsCause text OutOfMemory = ⊤

-- What a text is read as: the module that it spells, or why it spells none.
abbrev pub IsRead : List ℕ → Result Module ReadFault → Type 0
IsRead text (Ok m) = Spells text m
IsRead text (Err (BadByte at)) = IsBadByte text at
IsRead text (Err (NotInSubset entity)) = IsNotInSubset text entity
IsRead text (Err OutOfMemory) = ⊥
