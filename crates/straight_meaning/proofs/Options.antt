-- What holds of the value of an option, where there is one.
use Rattle.std.proofs.Common.{◌≡◌, Option, Some, None, refl, subst}
use Rattle.std.specs.Prelude.{option_map, option_and_then}

-- P holds of the value
abbrev pub Each : {A : Type 0} → (A → Type 0) → Option A → Type 0
Each P None = Unit {0}
Each P (Some x) = P x

pub each_then : {A B : Type 0} (P : B → Type 0) (o : Option A) (F : A → Option B) → ((x : A) → o ≡ Some x → Each P (F x)) → Each P (option_and_then F o)
each_then P None F h = tt
each_then P (Some x) F h = h x refl

pub each_map : {A B : Type 0} (P : B → Type 0) (o : Option A) (F : A → B) → ((x : A) → o ≡ Some x → P (F x)) → Each P (option_map F o)
each_map P None F h = tt
each_map P (Some x) F h = h x refl

pub each_at : {A : Type 0} (P : A → Type 0) (o : Option A) (x : A) → Each P o → o ≡ Some x → P x
each_at P o x h e = subst (Each P) e h
