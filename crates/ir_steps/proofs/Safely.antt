-- A step that is safe answers, or is undefined; it is never stuck.
use Rattle.std.proofs.Common.{◌≡◌, Bool, true, false, Option, Some, None, refl, sym, subst, option_and_then, option_map, if◌then◌else◌}
use Rattle.block_memory.specs.Answers.{Answer, Gives, Undefined, Stuck, and_then, or_stuck}
use Rattle.ir_steps.proofs.Fits.{Has}

-- what is given is so, and something is or there is a cause
abbrev pub Safe : {X : Type 0} → (X → Type 0) → Answer X → Type 0
Safe P (Gives x) = P x
Safe P (Undefined cause) = Unit {0}
Safe P Stuck = ⊥

pub safe_then : {A B : Type 0} (P : A → Type 0) (Q : B → Type 0) (F : A → Answer B) (a : Answer A) → Safe P a → ((x : A) → P x → Safe Q (F x)) → Safe Q (and_then F a)
safe_then P Q F (Gives x) h k = k x h
safe_then P Q F (Undefined cause) h k = tt
safe_then P Q F Stuck h k = absurd h

-- the same, where more is known of the value
pub safe_then_of : {A B : Type 0} (P : A → Type 0) (Q : B → Type 0) (F : A → Answer B) (a : Answer A) → Safe P a → ((x : A) → a ≡ Gives x → P x → Safe Q (F x)) → Safe Q (and_then F a)
safe_then_of P Q F (Gives x) h k = k x refl h
safe_then_of P Q F (Undefined cause) h k = tt
safe_then_of P Q F Stuck h k = absurd h

pub safe_when : {A : Type 0} (P : A → Type 0) (b : Bool) (x y : Answer A) → (b ≡ true → Safe P x) → (b ≡ false → Safe P y) → Safe P (if b then x else y)
safe_when P true x y h k = h refl
safe_when P false x y h k = k refl

pub safe_has : {A : Type 0} (P : A → Type 0) (o : Option A) → Has P o → Safe P (or_stuck o)
safe_has P None h = absurd h
safe_has P (Some x) h = h

-- something is read, and more is done with it
pub safe_read : {A B : Type 0} (P : A → Type 0) (Q : B → Type 0) (F : A → Answer B) (o : Option A) → Has P o → ((x : A) → P x → Safe Q (F x)) → Safe Q (and_then F (or_stuck o))
safe_read P Q F None h k = absurd h
safe_read P Q F (Some x) h k = k x h

pub safe_weaker : {A : Type 0} (P Q : A → Type 0) (a : Answer A) → Safe P a → ((x : A) → P x → Q x) → Safe Q a
safe_weaker P Q (Gives x) h k = k x h
safe_weaker P Q (Undefined cause) h k = tt
safe_weaker P Q Stuck h k = absurd h

pub not_stuck : {A : Type 0} (P : A → Type 0) (a : Answer A) → Safe P a → a ≡ Stuck → ⊥
not_stuck P (Gives x) h e = cc
not_stuck P (Undefined cause) h e = cc
not_stuck P Stuck h e = h

pub safe_gives : {A : Type 0} (P : A → Type 0) (a : Answer A) (x : A) → Safe P a → a ≡ Gives x → P x
safe_gives P a x h e = subst (Safe P) e h

-- ---- options

pub has_from : {A : Type 0} (P : A → Type 0) (o : Option A) (x : A) → o ≡ Some x → P x → Has P o
has_from P o x e h = subst (Has P) (sym e) h

pub has_each : {A : Type 0} (P Q : A → Type 0) (o : Option A) → Has P o → ((x : A) → o ≡ Some x → P x → Q x) → Has Q o
has_each P Q None h k = absurd h
has_each P Q (Some x) h k = k x refl h

pub has_then : {A B : Type 0} (P : A → Type 0) (Q : B → Type 0) (F : A → Option B) (o : Option A) → Has P o → ((x : A) → P x → Has Q (F x)) → Has Q (option_and_then F o)
has_then P Q F None h k = absurd h
has_then P Q F (Some x) h k = k x h

pub has_map : {A B : Type 0} (P : A → Type 0) (Q : B → Type 0) (F : A → B) (o : Option A) → Has P o → ((x : A) → P x → Q (F x)) → Has Q (option_map F o)
has_map P Q F None h k = absurd h
has_map P Q F (Some x) h k = k x h
