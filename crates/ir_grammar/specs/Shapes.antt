-- The shape of a token, by its kind and text.
use Rattle.std.specs.Prelude.{ℕ, Bool, nat_eq, bytes_eq, codes, List, [], ◌∷◌, drop, if◌then◌else◌}
use Rattle.std.specs.List.{starts_with}
use Rattle.ir_lexer.specs.declared.token.Kind.{Kind}
use Rattle.ir_lexer.specs.declared.token.Kind.TheVariants as kind
use Rattle.ir_lexer.specs.Texts.{name_of}
use Rattle.ir_syntax.specs.FormedBody.{is_intrinsic}
use Rattle.ir_grammar.specs.declared.shape.AtName.{AtName}
use Rattle.ir_grammar.specs.declared.shape.AtName.TheVariants as at
use Rattle.ir_grammar.specs.declared.shape.Shape.{Shape}
use Rattle.ir_grammar.specs.declared.shape.Shape.TheVariants as is
use Rattle.ir_grammar.specs.Numbers.{digits_shape}
use Rattle.ir_grammar.specs.Words.{word_shape}

abbrev pub begins : List ℕ → List ℕ → Bool
begins text front = starts_with nat_eq text front

-- what a name after @ names, without its quotes
abbrev pub at_shape : List ℕ → AtName
at_shape name =
    if is_intrinsic name then at.Memory
    else (if begins name (codes "llvm.dbg.") then at.Debug
    else (if begins name (codes "llvm.lifetime.") then at.Debug
    else (if begins name (codes "llvm.") then at.Other
    else at.Plain)))

abbrev pub mark_of : ℕ → Shape
mark_of b =
    if nat_eq b 61 then is.Equals
    else (if nat_eq b 44 then is.Comma
    else (if nat_eq b 40 then is.OpenParen
    else (if nat_eq b 41 then is.CloseParen
    else (if nat_eq b 91 then is.OpenSquare
    else (if nat_eq b 93 then is.CloseSquare
    else (if nat_eq b 123 then is.OpenBrace
    else (if nat_eq b 125 then is.CloseBrace
    else is.OtherMark)))))))

abbrev pub mark_shape : List ℕ → Shape
mark_shape [] = is.OtherMark
mark_shape (b ∷ bs) = mark_of b

abbrev pub shape_of : Kind → List ℕ → Shape
shape_of kind.AtName text = is.At (at_shape (name_of (drop 1 text)))
shape_of kind.LocalName text = is.Local
shape_of kind.Hash text = if begins text (codes "#dbg_") then is.Record else is.Hash
shape_of kind.Meta text = if bytes_eq text (codes "!") then is.Bang else is.Meta
shape_of kind.Str text = is.Str
shape_of kind.CStr text = is.CStr
shape_of kind.Label text = is.Label
shape_of kind.Word text = word_shape text
shape_of kind.Int text = is.Int (digits_shape text)
shape_of kind.Mark text = mark_shape text
