-- What an answer gives is so: of an answer that gives nothing nothing is said.
use Rattle.std.proofs.Common.{◌≡◌, Bool, true, false, Option, Some, None, option_and_then, option_map, refl, subst, if◌then◌else◌}
use Rattle.block_memory.specs.Answers.{Answer, Gives, Undefined, Stuck, and_then, or_stuck}

abbrev pub IfGives : {X : Type 0} → (X → Type 0) → Answer X → Type 0
IfGives P (Gives x) = P x
IfGives P (Undefined cause) = Unit {0}
IfGives P Stuck = Unit {0}

pub gives_then : {A B : Type 0} (P : A → Type 0) (Q : B → Type 0) (F : A → Answer B) (a : Answer A) → IfGives P a → ((x : A) → P x → IfGives Q (F x)) → IfGives Q (and_then F a)
gives_then P Q F (Gives x) h k = k x h
gives_then P Q F (Undefined cause) h k = tt
gives_then P Q F Stuck h k = tt

-- the same, where nothing but the answer is known of the value
pub gives_of : {A B : Type 0} (Q : B → Type 0) (F : A → Answer B) (a : Answer A) → ((x : A) → a ≡ Gives x → IfGives Q (F x)) → IfGives Q (and_then F a)
gives_of Q F (Gives x) k = k x refl
gives_of Q F (Undefined cause) k = tt
gives_of Q F Stuck k = tt

pub gives_any : {A B : Type 0} (Q : B → Type 0) (F : A → Answer B) (a : Answer A) → ((x : A) → IfGives Q (F x)) → IfGives Q (and_then F a)
gives_any Q F (Gives x) k = k x
gives_any Q F (Undefined cause) k = tt
gives_any Q F Stuck k = tt

-- something is read, and more is done with it
pub gives_read : {A B : Type 0} (Q : B → Type 0) (F : A → Answer B) (o : Option A) → ((x : A) → o ≡ Some x → IfGives Q (F x)) → IfGives Q (and_then F (or_stuck o))
gives_read Q F None k = tt
gives_read Q F (Some x) k = k x refl

pub gives_when : {A : Type 0} (Q : A → Type 0) (b : Bool) (x y : Answer A) → (b ≡ true → IfGives Q x) → (b ≡ false → IfGives Q y) → IfGives Q (if b then x else y)
gives_when Q true x y h k = h refl
gives_when Q false x y h k = k refl

pub gives_is : {A : Type 0} (P : A → Type 0) (a : Answer A) (x : A) → a ≡ Gives x → IfGives P a → P x
gives_is P a x e h = subst (IfGives P) e h

pub gives_weaker : {A : Type 0} (P Q : A → Type 0) (a : Answer A) → IfGives P a → ((x : A) → P x → Q x) → IfGives Q a
gives_weaker P Q (Gives x) h k = k x h
gives_weaker P Q (Undefined cause) h k = tt
gives_weaker P Q Stuck h k = tt

pub gives_all : {A : Type 0} (Q : A → Type 0) (a : Answer A) → ((x : A) → Q x) → IfGives Q a
gives_all Q (Gives x) k = k x
gives_all Q (Undefined cause) k = tt
gives_all Q Stuck k = tt

-- ---- what was given before

pub same_given : {A : Type 0} (x y : A) → Gives x ≡ Gives y → x ≡ y
same_given x y e = cc

pub then_gave : {A B : Type 0} (F : A → Answer B) (a : Answer A) (y : B) → and_then F a ≡ Gives y → (x : A) × (a ≡ Gives x) × (F x ≡ Gives y)
then_gave F (Gives x) y e = (x, refl, e)
then_gave F (Undefined cause) y e = cc
then_gave F Stuck y e = cc

pub read_is : {A : Type 0} (o : Option A) (x : A) → or_stuck o ≡ Gives x → o ≡ Some x
read_is None x e = cc
read_is (Some y) x e = cc

pub then_read : {A B : Type 0} (F : A → Answer B) (o : Option A) (y : B) → and_then F (or_stuck o) ≡ Gives y → (x : A) × (o ≡ Some x) × (F x ≡ Gives y)
then_read F None y e = cc
then_read F (Some x) y e = (x, refl, e)

-- ---- options

pub then_some : {A B : Type 0} (F : A → Option B) (o : Option A) (y : B) → option_and_then F o ≡ Some y → (x : A) × (o ≡ Some x) × (F x ≡ Some y)
then_some F None y e = cc
then_some F (Some x) y e = (x, refl, e)

pub map_some : {A B : Type 0} (F : A → B) (o : Option A) (y : B) → option_map F o ≡ Some y → (x : A) × (o ≡ Some x) × (F x ≡ y)
map_some F None y e = cc
map_some F (Some x) y e = (x, refl, cc)
