-- The grammar takes the tokens of operands and alignments.
use Rattle.std.proofs.Common.{◌≡◌, ℕ, zero, suc, Bool, true, false, List, [], ◌∷◌, length, Option, Some, None, refl, ◌<◌, arith}
use Rattle.std.specs.Prelude.{All}
use Rattle.std.proofs.lemmas.List.Elements.{All-nil, All-head, All-tail}
use Rattle.ir_types.specs.declared.scalar.Scalar.{Scalar}
use Rattle.ir_types.specs.declared.shape.Ty.TheBlock.{One}
use Rattle.ir_syntax.specs.declared.constant.Operand.{Operand}
use Rattle.ir_syntax.specs.declared.constant.Operand.TheVariants as operand
use Rattle.ir_syntax.specs.FormedBody.{Places, IsOperand, IsAlign}
use Rattle.ir_grammar.specs.declared.shape.AtName.{AtName}
use Rattle.ir_grammar.specs.declared.shape.AtName.TheVariants as at_name
use Rattle.ir_grammar.specs.declared.shape.Shape.TheVariants as is
use Rattle.ir_grammar.specs.declared.grammar.Item.TheVariants as item
use Rattle.ir_grammar.specs.declared.grammar.Name.TheVariants as the
use Rattle.ir_grammar.specs.Items as grammar
use Rattle.ir_grammar.specs.Shapes.{at_shape}
use Rattle.ir_writer.specs.Names.{name_at}
use Rattle.ir_writer.specs.Instructions.{operand_parts, pair, align_parts}
use Rattle.ir_writer.specs.Ranges.{AreBytes}
use Rattle.round_trip.proofs.Grammar.Kept.{operand_kept, pair_kept, align_kept}
use Rattle.round_trip.proofs.Tokens.Quoted.{name_back}
use Rattle.round_trip.proofs.Grammar.Parts.{Through, nothing, spaced, keeps, drops, then_on, Begins, begun, Said}
use Rattle.round_trip.proofs.Grammar.Words.{scalar_shape}
use Rattle.round_trip.proofs.Grammar.Digits.{power_taken}
use Rattle.round_trip.proofs.Grammar.Types.{one_range}
use Rattle.round_trip.proofs.Grammar.Singles.{AreRead}
use Rattle.round_trip.proofs.Grammar.Constants.{constant_through}
use Rattle.round_trip.proofs.Grammar.Quiet.{past_attachments, past_alignment}
use Rattle.round_trip.proofs.Grammar.Walking.{Items}

-- ---- names

abbrev pub is_debug : AtName → Bool
is_debug at_name.Debug = true
is_debug _ = false

-- Each name is read as itself, and none is one of debug information.
pub record AreNames (names : List (List ℕ)) : Type 0 where
  pub read : AreRead names
  pub calm : (place : ℕ) → is_debug (at_shape (name_at names place)) ≡ false

at_each : (P : List ℕ → Type 0) (names : List (List ℕ)) (place : ℕ) → All P names → P [] → P (name_at names place)
at_each P [] place each none = none
at_each P (name ∷ names) zero each none = All-head P name names each
at_each P (name ∷ names) (suc place) each none = at_each P names place (All-tail P name names each) none

pub are_names : (names : List (List ℕ)) → All AreBytes names → All (λ name. is_debug (at_shape name) ≡ false) names → AreNames names
are_names names bytes calm = record {
  read = λ place. name_back (name_at names place) (at_each AreBytes names place bytes (All-nil (λ byte. byte < 256)));
  calm = λ place. at_each (λ name. is_debug (at_shape name) ≡ false) names place calm refl;
}

-- ---- operands

operand_begins : (next : Items) → Begins (item.One the.Constant ∷ next) (item.One the.Operand ∷ next)
operand_begins next is.Local kept_as after e = cc
operand_begins next _ kept_as after e = e

module _ (names : List (List ℕ)) (are : AreNames names) (places : Places) where
  pub operand_through : (ty : Scalar) (value : Operand) → IsOperand places ty value → (next : Items) → Through (item.One the.Operand ∷ next) (operand_parts names ty value) (operand_kept names ty value) next
  operand_through ty (operand.Param k) formed next = keeps refl refl refl (nothing next)
  operand_through ty (operand.Reg k) formed next = keeps refl refl refl (nothing next)
  operand_through ty (operand.Const constant) formed next =
      begun (omega arith) (operand_begins next) (constant_through names are.read (length places.items) constant (One ty) formed (one_range ty) next)

  -- T a, b
  pub pair_through : (ty : Scalar) (a b : Operand) → IsOperand places ty a → IsOperand places ty b → (next : Items) →
      Through (grammar.a_scalar ∷ item.One the.Operand ∷ grammar.comma ∷ item.One the.Operand ∷ next) (pair names ty a b) (pair_kept names ty a b) next
  pair_through ty a b one other next =
      keeps (scalar_shape ty) refl refl (spaced (then_on (operand_through ty a one (grammar.comma ∷ item.One the.Operand ∷ next)) (drops refl refl refl (spaced (operand_through ty b other next)))))

-- ---- alignments

pub align_said : (align : Option ℕ) → IsAlign align → (others : Items) → Said (item.May the.AlignPart ∷ others) (align_parts align) (align_kept align) others
align_said None formed others = record { left = item.May the.AlignPart ∷ others; through = nothing (item.May the.AlignPart ∷ others); quiet = past_alignment others }
align_said (Some exponent) formed others = record {
  left = item.Many the.CommaAttachment ∷ others;
  through = drops refl refl refl (spaced (drops refl refl refl (spaced (keeps refl refl (power_taken exponent (item.Many the.CommaAttachment ∷ others) formed) (nothing (item.Many the.CommaAttachment ∷ others))))));
  quiet = past_attachments others;
}
