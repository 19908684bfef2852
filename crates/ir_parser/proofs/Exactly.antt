-- What a text is read as is one.
use Rattle.std.proofs.Common.{◌≡◌, ◌⊎◌, inl, inr, ℕ, List, Result, Ok, Err, IfOk, IfErr, refl, ap, sym}
use Rattle.ir_lexer.specs.declared.token.Token.{Token}
use Rattle.ir_lexer.specs.Tokens.{Tokens, IsBadByte}
use Rattle.ir_syntax.specs.declared.item.Module.{Module}
use Rattle.ir_parser.specs.declared.fault.ReadFault.{ReadFault}
use Rattle.ir_parser.specs.declared.fault.ReadFault.TheVariants.{BadByte, NotInSubset, OutOfMemory}
use Rattle.ir_parser.specs.Spelled.{Spells, IsCause, IsNotInSubset, IsRead}

-- the laws on which it stands
pub record Laws : Type 0 where
  pub never_both : (bytes : List ℕ) (ts : List Token) (at : ℕ) → Tokens bytes ts → IsBadByte bytes at → ⊥
  pub one_byte : (bytes : List ℕ) (at other : ℕ) → IsBadByte bytes at → IsBadByte bytes other → at ≡ other
  pub one_module : (text : List ℕ) (m n : Module) → Spells text m → Spells text n → m ≡ n
  pub in_subset : (text : List ℕ) (m : Module) (entity : ℕ) → Spells text m → IsNotInSubset text entity → ⊥
  pub one_entity : (text : List ℕ) (entity other : ℕ) → IsNotInSubset text entity → IsNotInSubset text other → entity ≡ other

abbrev Answers : Result Module ReadFault → Result Module ReadFault → Type 0
Answers result read = (result ≡ read) ⊎ (result ≡ Err OutOfMemory)

pub exactly : Laws → (text : List ℕ) (result read : Result Module ReadFault) → IfOk result (λ m. Spells text m) → IfErr result (λ fault. IsCause text fault) → IsRead text read → Answers result read
exactly laws text (Ok m) (Ok n) spelled cause is = inl (ap Ok (laws.one_module text m n spelled is))
exactly laws text (Ok m) (Err (BadByte at)) spelled cause is = absurd (laws.never_both text spelled.tokens at spelled.tile is)
exactly laws text (Ok m) (Err (NotInSubset entity)) spelled cause is = absurd (laws.in_subset text m entity spelled is)
exactly laws text (Ok m) (Err OutOfMemory) spelled cause is = absurd is
exactly laws text (Err (BadByte at)) (Ok n) spelled cause is = absurd (laws.never_both text is.tokens at is.tile cause)
exactly laws text (Err (BadByte at)) (Err (BadByte other)) spelled cause is = inl (ap (λ n. Err (BadByte n)) (laws.one_byte text at other cause is))
exactly laws text (Err (BadByte at)) (Err (NotInSubset entity)) spelled cause is = absurd (laws.never_both text is.tokens at is.tile cause)
exactly laws text (Err (BadByte at)) (Err OutOfMemory) spelled cause is = absurd is
exactly laws text (Err (NotInSubset entity)) (Ok n) spelled cause is = absurd (laws.in_subset text n entity is cause)
exactly laws text (Err (NotInSubset entity)) (Err (BadByte at)) spelled cause is = absurd (laws.never_both text cause.tokens at cause.tile is)
exactly laws text (Err (NotInSubset entity)) (Err (NotInSubset other)) spelled cause is = inl (ap (λ n. Err (NotInSubset n)) (laws.one_entity text entity other cause is))
exactly laws text (Err (NotInSubset entity)) (Err OutOfMemory) spelled cause is = absurd is
exactly laws text (Err OutOfMemory) read spelled cause is = inr refl
