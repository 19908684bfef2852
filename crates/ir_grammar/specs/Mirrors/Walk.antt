-- A walk over tokens with a stack of items: what the code does. What it takes is what items derive.
use Rattle.std.specs.Prelude.{ℕ, suc, Bool, true, false, List, [], ◌∷◌, ◌++◌, Option, Some, None, option_map, if◌then◌else◌}
use Rattle.ir_grammar.specs.declared.shape.Shape.{Shape}
use Rattle.ir_grammar.specs.declared.grammar.Keep.{Keep}
use Rattle.ir_grammar.specs.declared.grammar.Keep.TheVariants as keep
use Rattle.ir_grammar.specs.declared.grammar.FlagPart.{FlagPart}
use Rattle.ir_grammar.specs.declared.grammar.Flags.{Flags}
use Rattle.ir_grammar.specs.declared.grammar.Name.{Name}
use Rattle.ir_grammar.specs.declared.grammar.Item.{Item}
use Rattle.ir_grammar.specs.declared.grammar.Item.TheVariants as item
use Rattle.ir_grammar.specs.Terminals.{stands_for}
use Rattle.ir_grammar.specs.Items.{Production}
use Rattle.ir_grammar.specs.Tokens.{Piece, Kept, shape_before, keeping}
use Rattle.ir_grammar.specs.Grammar.{productions}
use Rattle.ir_grammar.specs.Derives.{is_comma, is_flag, without_a, without_b, without_c}

-- what a production does with its first token, and what stands behind it
abbrev pub Turn : Type 0
Turn = Option (Keep × List Item)

-- the first of the productions that begins with a token of the shape
abbrev pub first_of : List Production → Shape → Turn
first_of [] shape = None
first_of (production ∷ more) shape = if stands_for production.first shape then Some (production.keep, production.behind) else first_of more shape

abbrev pub turn_at : Name → Shape → Turn
turn_at name shape = first_of (productions name) shape

-- The first of the items that isn't left out takes the token, and what stands for it comes before the others; or all are
-- left out; or one refuses it.
pub data Settled : Type 0 where
  Taken : (kept_as : Keep) (items : List Item) → Settled
  AllLeft : Settled
  Refused : Settled

abbrev pub by_turn : Turn → List Item → Settled → Settled
by_turn (Some turn) items otherwise = Taken turn.0 (turn.1 ++ items)
by_turn None items otherwise = otherwise

abbrev pub keep_of : Option FlagPart → Keep
keep_of None = keep.Drops
keep_of (Some part) = part.keep

abbrev pub flag_taken : Flags → Shape → Option (Keep × Flags)
flag_taken flags shape =
    if is_flag flags.a shape then Some (keep_of flags.a, without_a flags)
    else (if is_flag flags.b shape then Some (keep_of flags.b, without_b flags)
    else (if is_flag flags.c shape then Some (keep_of flags.c, without_c flags)
    else None))

abbrev pub by_flag : Option (Keep × Flags) → List Item → Settled → Settled
by_flag (Some taken) items otherwise = Taken taken.0 (item.AnyOrder taken.1 ∷ items)
by_flag None items otherwise = otherwise

abbrev pub settle : Shape → List Item → Settled
settle shape [] = AllLeft
settle shape (item.Token terminal kept_as ∷ items) = if stands_for terminal shape then Taken kept_as items else Refused
settle shape (item.One name ∷ items) = by_turn (turn_at name shape) items Refused
settle shape (item.May name ∷ items) = by_turn (turn_at name shape) items (settle shape items)
settle shape (item.Many name ∷ items) = by_turn (turn_at name shape) (item.Many name ∷ items) (settle shape items)
settle shape (item.Separated name ∷ items) = by_turn (turn_at name shape) (item.Further name ∷ items) (settle shape items)
settle shape (item.Further name ∷ items) = if is_comma shape then Taken keep.Drops (item.One name ∷ item.Further name ∷ items) else settle shape items
settle shape (item.AnyOrder flags ∷ items) = by_flag (flag_taken flags shape) items (settle shape items)

-- whether the tokens may end before the items
abbrev pub may_end : List Item → Bool
may_end [] = true
may_end (item.Token terminal kept_as ∷ items) = false
may_end (item.One name ∷ items) = false
may_end (item.May name ∷ items) = may_end items
may_end (item.Many name ∷ items) = may_end items
may_end (item.Separated name ∷ items) = may_end items
may_end (item.Further name ∷ items) = may_end items
may_end (item.AnyOrder flags ∷ items) = may_end items

-- what is kept, and how many tokens are taken
abbrev pub Found : Type 0
Found = Option (List Kept × ℕ)

-- what is kept of a token and of those behind it, where the items that stand there then walk on
abbrev pub walk_on : (List Item → Found) → Shape → List ℕ → Settled → Found
walk_on onwards shape text (Taken kept_as items) = option_map (λ found. (keeping kept_as shape text found.0, suc found.1)) (onwards items)
walk_on onwards shape text AllLeft = Some ([], 0)
walk_on onwards shape text Refused = None

-- What is kept of the tokens that the items take, and how many they are; none where a token can't stand where it does.
abbrev pub walk : List Item → List Piece → Found
walk items [] = if may_end items then Some ([], 0) else None
walk items (piece ∷ pieces) = walk_on (λ next. walk next pieces) (shape_before piece pieces) piece.1 (settle (shape_before piece pieces) items)
