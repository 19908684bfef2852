-- The status that a program exits with.
use Rattle.std.proofs.Common.{◌≡◌, ℕ, ◌<◌, ◌^◌, nat_lt, Bool, true, false, List, [], ◌∷◌, refl, arith, if◌then◌else◌}
use Rattle.std.proofs.lemmas.Bool.Decides.{nat_tests}
use Rattle.ir_syntax.specs.declared.symbol.Sym.{Sym}
use Rattle.ir_syntax.specs.declared.body.Term.TheVariants.{RetVoid}
use Rattle.block_memory.specs.declared.value.Val.{Val}
use Rattle.block_memory.specs.declared.value.Val.TheVariants as val
use Rattle.block_memory.specs.Answers.{Answer, Gives, Stuck, IsMeant}
use Rattle.ir_steps.specs.declared.session.Stepped.TheVariants as stepped
use Rattle.ir_steps.specs.States.{Point}
use Rattle.ir_steps.specs.Results.{Next, state}
use Rattle.ir_steps.specs.Builtins.{exit_call}

some_point : Point
some_point = record {
  frame = record { func = record { «module» = 0; item = 0 }; block = 0; rest = []; last = RetVoid; args = []; results = []; next = 0; allocas = [] };
  behind = [];
  below = [];
  memory = record { vars = []; made = [] };
}

pub record IsStatus (args : List (Val Sym)) : Type 0 where
  pub n : ℕ
  pub is : args ≡ val.Num n ∷ []
  pub small : n < 2 ^ 32

pub status : (args : List (Val Sym)) → ((at : Point) → IsMeant (exit_call at args)) → IsStatus args
status [] meant = absurd (meant some_point)
status (val.Num n ∷ []) meant = record { n = n; is = refl; small = small (nat_lt n (2 ^ 32)) refl (meant some_point) } where
  small : (b : Bool) → b ≡ nat_lt n (2 ^ 32) → IsMeant {A = Next} (if b then Gives (stepped.Exited n, state [] some_point.memory) else Stuck) → n < 2 ^ 32
  small true is meant = grind (arith, nat_tests)
  small false is meant = absurd meant
status (val.Null ∷ []) meant = absurd (meant some_point)
status (val.At of offset ∷ []) meant = absurd (meant some_point)
status (val.Poison ∷ []) meant = absurd (meant some_point)
status (v ∷ w ∷ more) meant = absurd (meant some_point)
