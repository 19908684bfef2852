-- Answers that are known but for want of memory.
use Rattle.std.proofs.Common.{◌≡◌, ℕ, List, Option, Some, None, Result, Ok, Err, IfOk, IfSome, IfNone, sym}
use Rattle.ir_lexer.specs.declared.token.Token.{Token}
use Rattle.ir_lexer.specs.declared.token.LexFault.{LexFault}
use Rattle.ir_lexer.specs.declared.token.LexFault.TheVariants.{BadByte, OutOfMemory}
use Rattle.ir_lexer.specs.Tokens.{Answers}

pub answers_some : {A E : Type 0} (r : Result (Option A) E) (known : Option A) (P : A → Type 0) → IfOk r (λ found. found ≡ known) → ((x : A) → known ≡ Some x → P x) → IfOk r (λ answer. IfSome answer P)
answers_some (Err e) known P is holds = tt
answers_some (Ok None) known P is holds = tt
answers_some (Ok (Some x)) known P is holds = holds x (sym is)

pub answers_none : {A E : Type 0} (r : Result (Option A) E) (known : Option A) (Q : Type 0) → IfOk r (λ found. found ≡ known) → (known ≡ None → Q) → IfOk r (λ answer. IfNone answer Q)
answers_none (Err e) known Q is holds = tt
answers_none (Ok None) known Q is holds = holds (sym is)
answers_none (Ok (Some x)) known Q is holds = tt

pub same_ok : (us ts slice : List Token) → ◌≡◌ {A = Result (List Token) LexFault} (Ok us) (Ok ts) → slice ≡ ts → us ≡ slice
same_ok us ts slice e f = cc

-- A bad byte is no answer where the text has tokens.
pub bad_answer : (fault : LexFault) (at : ℕ) (us : List Token) → fault ≡ BadByte at → Answers (Err fault) (Ok us) → ⊥
bad_answer (BadByte other) at us e answer = cc
bad_answer OutOfMemory at us e answer = cc
