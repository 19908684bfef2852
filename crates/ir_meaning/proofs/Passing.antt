-- A call that goes on behind its instruction.
use Rattle.std.proofs.Common.{◌≡◌, ℕ, suc, ◌<◌, true, false, Bool, List, ◌∷◌, length, Option, Some, None, refl, sym, ap, subst, arith}
use Rattle.std.specs.Prelude.{nat_lt, if◌then◌else◌}
use Rattle.std.proofs.lemmas.Bool.Decides.{nat_tests}
use Rattle.ir_syntax.specs.declared.symbol.Sym.{Sym}
use Rattle.ir_syntax.specs.Programs.{ProgramData}
use Rattle.block_memory.specs.declared.value.Val.{Val}
use Rattle.block_memory.specs.Answers.{Answer, Gives, Undefined, Stuck, IsMeant, and_then}
use Rattle.block_memory.specs.Blocks.{MemoryData}
use Rattle.ir_steps.specs.States.{Frame, Point}
use Rattle.ir_steps.specs.Results.{Next, went, with_result, goes_on, gives_result}
use Rattle.ir_meaning.specs.declared.stack.Stack.{Stack}
use Rattle.ir_meaning.specs.Models.{frame_of}
use Rattle.ir_meaning.specs.Mirrors.Passing.{passed, passed_with}
use Rattle.ir_meaning.specs.Mirrors.Stacks.{below_of, point_of}

-- a result has a slot
pub has_slot : {A : Type 0} (n m : ℕ) (x : Answer A) (F : A → Answer Next) → IsMeant (and_then F (if nat_lt n m then x else Stuck)) → n < m
has_slot n m x F meant = tested (nat_lt n m) refl meant where
  tested : (b : Bool) → b ≡ nat_lt n m → IsMeant (and_then F (if b then x else Stuck)) → n < m
  tested true is meant = grind (arith, nat_tests)
  tested false is meant = absurd meant

pub slot_is_there : (at : Point) (v : Val Sym) → IsMeant (gives_result at v) → at.frame.next < length at.frame.results
slot_is_there at v meant =
    has_slot at.frame.next (length at.frame.results) (Gives (with_result at.frame at.behind v)) (λ f. Gives (went (f ∷ at.below) at.memory)) meant

pub result_is_set : (at : Point) (v : Val Sym) → at.frame.next < length at.frame.results → gives_result at v ≡ Gives (went (with_result at.frame at.behind v ∷ at.below) at.memory)
result_is_set at v le =
    let test : nat_lt at.frame.next (length at.frame.results) ≡ true = grind (arith, nat_tests, le) in
    ap (λ b. and_then (λ f. Gives (went (f ∷ at.below) at.memory)) (if b then Gives (with_result at.frame at.behind v) else Stuck)) test
