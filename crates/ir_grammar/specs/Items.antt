-- What productions are written with.
use Rattle.std.specs.Prelude.{List, [], ◌∷◌, ◌++◌, map, Option, Some}
use Rattle.ir_types.specs.declared.scalar.Scalar.{Scalar}
use Rattle.ir_types.specs.declared.scalar.Scalar.TheVariants as scalar
use Rattle.ir_grammar.specs.declared.shape.Digits.TheVariants as digits
use Rattle.ir_grammar.specs.declared.shape.Flag.{Flag}
use Rattle.ir_grammar.specs.declared.shape.Shape.{Shape}
use Rattle.ir_grammar.specs.declared.shape.Shape.TheVariants as is
use Rattle.ir_grammar.specs.declared.grammar.Terminal.{Terminal}
use Rattle.ir_grammar.specs.declared.grammar.Terminal.TheVariants as a
use Rattle.ir_grammar.specs.declared.grammar.Keep.{Keep}
use Rattle.ir_grammar.specs.declared.grammar.Keep.TheVariants as keep
use Rattle.ir_grammar.specs.declared.grammar.FlagPart.{FlagPart}
use Rattle.ir_grammar.specs.declared.grammar.Name.TheVariants as the
use Rattle.ir_grammar.specs.declared.grammar.Item.{Item}
use Rattle.ir_grammar.specs.declared.grammar.Item.TheVariants as item

-- A production: its first token, whether and as what this is kept, and what stands behind it.
pub record Production : Type 0 where
  pub first : Terminal
  pub keep : Keep
  pub behind : List Item

-- the first token is kept, or dropped, or kept as something else
abbrev pub keeps : Terminal → List Item → Production
keeps first behind = record { first = first; keep = keep.Keeps; behind = behind }

abbrev pub drops : Terminal → List Item → Production
drops first behind = record { first = first; keep = keep.Drops; behind = behind }

abbrev pub keeps_as : Keep → Terminal → List Item → Production
keeps_as kept_as first behind = record { first = first; keep = kept_as; behind = behind }

-- a token inside, kept or dropped
abbrev pub kept : Terminal → Item
kept terminal = item.Token terminal keep.Keeps

abbrev pub dropped : Shape → Item
dropped shape = item.Token (a.Only shape) keep.Drops

-- the production with more behind it
abbrev pub followed : List Item → Production → Production
followed more production = record { first = production.first; keep = production.keep; behind = production.behind ++ more }

-- each of these with more behind it
abbrev pub each_then : List Item → List Production → List Production
each_then more productions = map (followed more) productions

-- ---- single tokens

abbrev pub comma : Item
comma = dropped is.Comma

abbrev pub equals : Item
equals = dropped is.Equals

abbrev pub open_paren : Item
open_paren = dropped is.OpenParen

abbrev pub close_paren : Item
close_paren = kept (a.Only is.CloseParen)

abbrev pub open_square : Item
open_square = dropped is.OpenSquare

abbrev pub close_square : Item
close_square = dropped is.CloseSquare

abbrev pub ptr : Item
ptr = dropped (is.Scalar scalar.Ptr)

abbrev pub label : Item
label = dropped is.LabelWord

abbrev pub a_scalar : Item
a_scalar = kept a.AnyScalar

abbrev pub a_local : Item
a_local = kept (a.Only is.Local)

abbrev pub power : Item
power = kept (a.Only (is.Int digits.Power))

-- ---- flags in any order, each at most once

abbrev pub flag : Flag → Option FlagPart
flag name = Some (record { flag = name; keep = keep.Keeps })

abbrev pub dropped_flag : Flag → Option FlagPart
dropped_flag name = Some (record { flag = name; keep = keep.Drops })

abbrev pub flags : Option FlagPart → Option FlagPart → Option FlagPart → Item
flags a b c = item.AnyOrder (record { a = a; b = b; c = c })

-- ---- what recurs

-- attributes, among which one of signext and zeroext is kept
abbrev pub extended : List Item → List Item
extended more = item.Many the.Attribute ∷ item.May the.Extension ∷ item.Many the.Attribute ∷ more

abbrev pub attachments : List Item
attachments = item.Many the.CommaAttachment ∷ []

abbrev pub scalars : List Scalar
scalars = scalar.I1 ∷ scalar.I8 ∷ scalar.I16 ∷ scalar.I32 ∷ scalar.I64 ∷ scalar.Ptr ∷ []
