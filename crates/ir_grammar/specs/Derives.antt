-- What items derive: which tokens, which of these are kept, and which tokens are left.
--
-- An optional part is there where the next token begins one, and as many parts follow each other as begin, so that an
-- entity goes as far as its production can, with one token of look-ahead.
use Rattle.std.specs.Prelude.{◌≡◌, ◌≤◌, ℕ, Bool, true, false, ◌||◌, List, [], ◌∷◌, ◌++◌, length, drop, Option, Some, None}
use Rattle.ir_grammar.specs.declared.shape.Shape.{Shape}
use Rattle.ir_grammar.specs.declared.shape.Shape.TheVariants as is
use Rattle.ir_grammar.specs.declared.shape.Free.TheVariants as free
use Rattle.ir_grammar.specs.declared.grammar.Terminal.{Terminal}
use Rattle.ir_grammar.specs.declared.grammar.Keep.{Keep}
use Rattle.ir_grammar.specs.declared.grammar.FlagPart.{FlagPart}
use Rattle.ir_grammar.specs.declared.grammar.Flags.{Flags}
use Rattle.ir_grammar.specs.declared.grammar.Name.{Name}
use Rattle.ir_grammar.specs.declared.grammar.Item.{Item}
use Rattle.ir_grammar.specs.declared.grammar.Item.TheVariants as item
use Rattle.ir_grammar.specs.Terminals.{is_same, stands_for}
use Rattle.ir_grammar.specs.Items.{Production}
use Rattle.ir_grammar.specs.Tokens.{Piece, Kept, shape_before, keeping}
use Rattle.ir_grammar.specs.Grammar.{productions}

-- the production is one of these
pub data IsOneOf (production : Production) : List Production → Type 0 where
  here : (more : List Production) → IsOneOf production (production ∷ more)
  there : (other : Production) (more : List Production) → IsOneOf production more → IsOneOf production (other ∷ more)

-- a production of the name begins with a token of the shape
abbrev pub Begins : Name → Shape → Type 0
Begins name shape = (production : Production) × IsOneOf production (productions name) × (stands_for production.first shape ≡ true)

-- no further one begins here: the tokens end, or no production of the name begins with the next
abbrev pub NoneBegins : Name → List Piece → Type 0
NoneBegins name [] = Unit {0}
NoneBegins name (piece ∷ pieces) = Begins name (shape_before piece pieces) → ⊥

abbrev pub is_comma : Shape → Bool
is_comma shape = is_same is.Comma shape

abbrev pub NoComma : List Piece → Type 0
NoComma [] = Unit {0}
NoComma (piece ∷ pieces) = is_comma (shape_before piece pieces) ≡ false

-- whether a token of the shape is the flag, which may have come already
abbrev pub is_flag : Option FlagPart → Shape → Bool
is_flag None shape = false
is_flag (Some part) shape = is_same (is.Free (free.Flag part.flag)) shape

abbrev pub is_some_flag : Flags → Shape → Bool
is_some_flag flags shape = is_flag flags.a shape || (is_flag flags.b shape || is_flag flags.c shape)

abbrev pub NoFlag : Flags → List Piece → Type 0
NoFlag flags [] = Unit {0}
NoFlag flags (piece ∷ pieces) = is_some_flag flags (shape_before piece pieces) ≡ false

-- the flags but one
abbrev pub without_a : Flags → Flags
without_a flags = record { a = None; b = flags.b; c = flags.c }

abbrev pub without_b : Flags → Flags
without_b flags = record { a = flags.a; b = None; c = flags.c }

abbrev pub without_c : Flags → Flags
without_c flags = record { a = flags.a; b = flags.b; c = None }

-- the token is kept as the flag is, or it isn't there
abbrev pub keeping_flag : Option FlagPart → Shape → List ℕ → List Kept → List Kept
keeping_flag None shape text kept = kept
keeping_flag (Some part) shape text kept = keeping part.keep shape text kept

pub data Derives : List Item → List Piece → List Kept → List Piece → Type 0 where
  -- nothing derives nothing
  nothing : (rest : List Piece) → Derives [] rest [] rest
  -- a terminal derives a token that it stands for
  token : (terminal : Terminal) (kept_as : Keep) (items : List Item) (piece : Piece) (pieces : List Piece) (kept : List Kept) (rest : List Piece) →
      stands_for terminal (shape_before piece pieces) ≡ true → Derives items pieces kept rest →
      Derives (item.Token terminal kept_as ∷ items) (piece ∷ pieces) (keeping kept_as (shape_before piece pieces) piece.1 kept) rest
  -- a nonterminal derives what one of its productions derives in its place
  one : (name : Name) (production : Production) (items : List Item) (piece : Piece) (pieces : List Piece) (kept : List Kept) (rest : List Piece) →
      IsOneOf production (productions name) → stands_for production.first (shape_before piece pieces) ≡ true →
      Derives (production.behind ++ items) pieces kept rest →
      Derives (item.One name ∷ items) (piece ∷ pieces) (keeping production.keep (shape_before piece pieces) piece.1 kept) rest
  -- an optional part: nothing where none begins, or else one
  left_out : (name : Name) (items : List Item) (pieces : List Piece) (kept : List Kept) (rest : List Piece) →
      NoneBegins name pieces → Derives items pieces kept rest → Derives (item.May name ∷ items) pieces kept rest
  is_there : (name : Name) (items : List Item) (pieces : List Piece) (kept : List Kept) (rest : List Piece) →
      Derives (item.One name ∷ items) pieces kept rest → Derives (item.May name ∷ items) pieces kept rest
  -- any number: none where none begins, or else one and any number
  ended : (name : Name) (items : List Item) (pieces : List Piece) (kept : List Kept) (rest : List Piece) →
      NoneBegins name pieces → Derives items pieces kept rest → Derives (item.Many name ∷ items) pieces kept rest
  one_more : (name : Name) (items : List Item) (pieces : List Piece) (kept : List Kept) (rest : List Piece) →
      Derives (item.One name ∷ item.Many name ∷ items) pieces kept rest → Derives (item.Many name ∷ items) pieces kept rest
  -- any number with commas between them: none where none begins, or else one, and one more behind each comma
  empty : (name : Name) (items : List Item) (pieces : List Piece) (kept : List Kept) (rest : List Piece) →
      NoneBegins name pieces → Derives items pieces kept rest → Derives (item.Separated name ∷ items) pieces kept rest
  some : (name : Name) (items : List Item) (pieces : List Piece) (kept : List Kept) (rest : List Piece) →
      Derives (item.One name ∷ item.Further name ∷ items) pieces kept rest → Derives (item.Separated name ∷ items) pieces kept rest
  no_further : (name : Name) (items : List Item) (pieces : List Piece) (kept : List Kept) (rest : List Piece) →
      NoComma pieces → Derives items pieces kept rest → Derives (item.Further name ∷ items) pieces kept rest
  further : (name : Name) (items : List Item) (piece : Piece) (pieces : List Piece) (kept : List Kept) (rest : List Piece) →
      is_comma (shape_before piece pieces) ≡ true → Derives (item.One name ∷ item.Further name ∷ items) pieces kept rest →
      Derives (item.Further name ∷ items) (piece ∷ pieces) kept rest
  -- flags in any order: none where none of them begins, or else one of them and then the others in any order
  no_flag : (flags : Flags) (items : List Item) (pieces : List Piece) (kept : List Kept) (rest : List Piece) →
      NoFlag flags pieces → Derives items pieces kept rest → Derives (item.AnyOrder flags ∷ items) pieces kept rest
  flag_a : (flags : Flags) (items : List Item) (piece : Piece) (pieces : List Piece) (kept : List Kept) (rest : List Piece) →
      is_flag flags.a (shape_before piece pieces) ≡ true → Derives (item.AnyOrder (without_a flags) ∷ items) pieces kept rest →
      Derives (item.AnyOrder flags ∷ items) (piece ∷ pieces) (keeping_flag flags.a (shape_before piece pieces) piece.1 kept) rest
  flag_b : (flags : Flags) (items : List Item) (piece : Piece) (pieces : List Piece) (kept : List Kept) (rest : List Piece) →
      is_flag flags.b (shape_before piece pieces) ≡ true → Derives (item.AnyOrder (without_b flags) ∷ items) pieces kept rest →
      Derives (item.AnyOrder flags ∷ items) (piece ∷ pieces) (keeping_flag flags.b (shape_before piece pieces) piece.1 kept) rest
  flag_c : (flags : Flags) (items : List Item) (piece : Piece) (pieces : List Piece) (kept : List Kept) (rest : List Piece) →
      is_flag flags.c (shape_before piece pieces) ≡ true → Derives (item.AnyOrder (without_c flags) ∷ items) pieces kept rest →
      Derives (item.AnyOrder flags ∷ items) (piece ∷ pieces) (keeping_flag flags.c (shape_before piece pieces) piece.1 kept) rest

-- The nonterminal derives so many of the first tokens, and this is kept of them.
abbrev pub IsDerived : Name → List Piece → List Kept → ℕ → Type 0
IsDerived start pieces kept taken = (taken ≤ length pieces) × Derives (item.One start ∷ []) pieces kept (drop taken pieces)

-- The nonterminal derives none of the first tokens, however many.
abbrev pub IsNotDerived : Name → List Piece → Type 0
IsNotDerived start pieces = (kept : List Kept) (taken : ℕ) → IsDerived start pieces kept taken → ⊥
