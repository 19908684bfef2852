-- A callee that is no name of debug information is any operand.
use Rattle.std.proofs.Common.{◌≡◌, true, false, None, refl, arith}
use Rattle.ir_grammar.specs.declared.shape.AtName.TheVariants as at
use Rattle.ir_grammar.specs.declared.shape.Shape.{Shape}
use Rattle.ir_grammar.specs.declared.shape.Shape.TheVariants as is
use Rattle.ir_grammar.specs.declared.grammar.Terminal.TheVariants as a
use Rattle.ir_grammar.specs.Terminals.{is_same}
use Rattle.ir_grammar.specs.Constants.{operand, operand_of}
use Rattle.ir_grammar.specs.Mirrors.Walk.{first_of}

pub called_otherwise : (shape : Shape) → is_same (is.At at.Debug) shape ≡ false → first_of (operand_of a.CalledAt) shape ≡ first_of operand shape
called_otherwise (is.At at.Plain) other = refl
called_otherwise (is.At at.Memory) other = refl
called_otherwise (is.At at.Debug) other = grind (arith, other)
called_otherwise (is.At at.Other) other = refl
called_otherwise _ other = refl

pub called_debug : (shape : Shape) → is_same (is.At at.Debug) shape ≡ true → first_of (operand_of a.CalledAt) shape ≡ None
called_debug (is.At at.Plain) debug = grind (arith, debug)
called_debug (is.At at.Memory) debug = grind (arith, debug)
called_debug (is.At at.Debug) debug = refl
called_debug (is.At at.Other) debug = grind (arith, debug)
called_debug _ debug = grind (arith, debug)
