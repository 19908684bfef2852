-- What names and constants stand for is there.
use Rattle.std.proofs.Common.{◌≡◌, ◌≢◌, ◌<◌, Bool, true, false, not, ◌||◌, List, map, refl}
use Rattle.std.specs.Prelude.{AllPairs}
use Rattle.std.proofs.lemmas.Bool.{false≢true}
use Rattle.ir_types.specs.declared.scalar.Scalar.{Scalar}
use Rattle.ir_syntax.specs.FormedBody.{Places, IsOperand, item_name}
use Rattle.ir_grammar.specs.Tokens.{Kept}
use Rattle.ir_operands.specs.Operands.{Names, operand_at, block_at}
use Rattle.ir_operands.proofs.FormingReadings.{IsRead}

-- What names and constants stand for is there, among these places.
pub record Resolves (names : Names) (places : Places) : Type 0 where
  pub operands : (ty : Scalar) (ks : List Kept) → IsRead (IsOperand places ty) (operand_at names ty ks)
  pub blocks : (ks : List Kept) → IsRead (λ place. place < places.blocks) (block_at names ks)
  -- the names of the items in their order, each once
  pub symbols : names.env.symbols ≡ map item_name places.items
  pub distinct : AllPairs (λ a b. a ≢ b) names.env.symbols

pub given-or : (a b : Bool) → (not a || b) ≡ true → a ≡ true → b ≡ true
given-or true b h e = h
given-or false b h e = absurd (false≢true e)
