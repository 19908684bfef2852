-- The last argument.
use Rattle.std.proofs.Common.{◌≡◌, ◌∙◌, ℕ, suc, ◌-◌, Bool, List, [], ◌∷◌, length, Option, Some, None, sym, ap, arith}
use Rattle.std.specs.List.{slice_get}
use Rattle.ir_syntax.specs.declared.body.Arg.{Arg}
use Rattle.ir_calls.specs.Calls.{is_false, ends_in_false}

pub last_ends : (args : List Arg) (arg : Arg) → Some arg ≡ slice_get args (length args - 1) → is_false arg.ty arg.value ≡ ends_in_false args
last_ends [] arg e = cc
last_ends (a ∷ []) arg e = let h : arg ≡ a = cc in ap (λ (x : Arg). is_false x.ty x.value) h
last_ends (a ∷ b ∷ more) arg e =
    let m : length (a ∷ b ∷ more) - 1 ≡ suc (length (b ∷ more) - 1) = omega arith in
    last_ends (b ∷ more) arg (e ∙ ap (slice_get (a ∷ b ∷ more)) m)
