-- What a look-up in a list gives.
use Rattle.std.proofs.Common.{◌≡◌, ◌∙◌, ℕ, ◌<◌, ◌≤◌, List, length, get_or, ltb, Option, Some, None, refl, sym, ap, slice_get, Bor}
use Rattle.std.specs.Prelude.{IfSome}
use Rattle.std.specs.Option.{option_copied, is_some}
use Rattle.std.proofs.lemmas.Option.{slice_get_past, slice_get_read}
use Rattle.std.proofs.lemmas.Bool.Decides.{nat_tests}
use Rattle.std.proofs.Common.{arith}

pub looked_up : {A : Type 0} (xs : List A) (k : ℕ) (o : Option (Bor A)) → is_some o ≡ ltb k (length xs) → IfSome o (λ x. x.now ≡ get_or xs k x.now) → slice_get xs k ≡ option_copied o
looked_up xs k None there is = let past : length xs ≤ k = grind (arith, nat_tests, there) in slice_get_past xs k past
looked_up xs k (Some x) there is = let within : k < length xs = grind (arith, nat_tests, there) in slice_get_read xs (length xs) k x.now refl within is
