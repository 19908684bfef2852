-- Constants and operands.
-- LLVM Language Reference Manual: "Simple Constants", "Complex Constants", "Constant Expressions".
use Rattle.std.specs.Prelude.{ℕ, suc, nat_lt, List, [], ◌∷◌, if◌then◌else◌}
use Rattle.ir_grammar.specs.declared.grammar.Terminal.{Terminal}
use Rattle.ir_grammar.specs.declared.grammar.Item.{Item}
use Rattle.ir_grammar.specs.declared.shape.Value.TheVariants as val
use Rattle.ir_grammar.specs.declared.shape.Flag.TheVariants as is_a
use Rattle.ir_grammar.specs.declared.shape.Shape.TheVariants as is
use Rattle.ir_grammar.specs.declared.grammar.Terminal.TheVariants as a
use Rattle.ir_grammar.specs.declared.grammar.Keep.TheVariants as keep
use Rattle.ir_grammar.specs.declared.grammar.Name.TheVariants as the
use Rattle.ir_grammar.specs.declared.grammar.Item.TheVariants as item
use Rattle.ir_grammar.specs.Items.{Production, keeps, drops, keeps_as, kept, each_then, comma, open_paren, close_paren, ptr, flag, dropped_flag, flags}
use Rattle.ir_grammar.specs.Types.{type}

-- [inbounds] [nusw] [nuw]
abbrev pub address_flags : Item
address_flags = flags (flag is_a.Inbounds) (dropped_flag is_a.Nusw) (dropped_flag is_a.Nuw)

-- getelementptr flags ( T , ptr base , iN n ), where so many are open with it
abbrev pub address : ℕ → Production
address count =
    keeps_as keep.AsAddress (a.Only is.Gep)
    (address_flags ∷ open_paren ∷ item.One the.Type ∷ comma ∷ ptr ∷ item.One (the.Base count) ∷ item.Many the.ConstantIndex ∷ close_paren ∷ [])

-- @name, or an address again: at most 64 of them are open at once
abbrev pub base : ℕ → List Production
base count = keeps a.AnyAt [] ∷ (if nat_lt count 64 then address (suc count) ∷ [] else [])

-- , iN n
abbrev pub constant_index : List Production
constant_index = drops (a.Only is.Comma) (kept a.IntegerScalar ∷ item.One the.Number ∷ []) ∷ []

-- an integer, true, false or zeroinitializer
abbrev pub number : List Production
number =
    keeps a.AnyInt []
    ∷ keeps (a.Only (is.Value val.True)) []
    ∷ keeps (a.Only (is.Value val.False)) []
    ∷ keeps (a.Only (is.Value val.Zero)) []
    ∷ []

-- a number, a word for a value, @name of these, c"text", an address, [ T C, T C ], { T C, T C }
abbrev pub constant_of : Terminal → List Production
constant_of names =
    keeps a.AnyInt []
    ∷ keeps a.AnyValue []
    ∷ keeps names []
    ∷ keeps (a.Only is.CStr) []
    ∷ address 1
    ∷ keeps (a.Only is.OpenSquare) (item.Separated the.Element ∷ kept (a.Only is.CloseSquare) ∷ [])
    ∷ keeps (a.Only is.OpenBrace) (item.Separated the.Element ∷ kept (a.Only is.CloseBrace) ∷ [])
    ∷ []

abbrev pub constant : List Production
constant = constant_of a.AnyAt

-- T C
abbrev pub element : List Production
element = each_then (item.One the.Constant ∷ []) type

-- %name, or a constant
abbrev pub operand_of : Terminal → List Production
operand_of names = keeps (a.Only is.Local) [] ∷ constant_of names

abbrev pub operand : List Production
operand = operand_of a.AnyAt
