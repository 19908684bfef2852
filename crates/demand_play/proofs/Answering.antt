-- What the answers of the code say.
use Rattle.std.proofs.Common.{◌≡◌, ℕ, ap, Bool, true, false, true≢false, sym, OnOk}
use Rattle.std.specs.Prelude.{Result, Ok, Err, MatchBool}
use Rattle.demand_play.specs.declared.answer.CoreFault.{CoreFault}
use Rattle.demand_play.specs.declared.answer.CoreFault.TheVariants.{Illegal, OutOfMemory}

-- the branch that was taken
pub matched : (b : Bool) (P Q : Type 0) → b ≡ true → MatchBool b P Q → P
matched true P Q so p = p
matched false P Q so q = absurd (true≢false (sym so))

pub not_matched : (b : Bool) (P Q : Type 0) → b ≡ false → MatchBool b P Q → Q
not_matched true P Q not_so p = absurd (true≢false not_so)
not_matched false P Q not_so q = q

pub on_ok : {A B : Type 0} (r : Result A B) (P Q : Type 0) → (P → Q) → OnOk r P → OnOk r Q
on_ok (Ok x) P Q f p = f p
on_ok (Err e) P Q f p = p

place_of : {A : Type 0} → Result A CoreFault → ℕ
place_of (Ok x) = 0
place_of (Err (Illegal at)) = at
place_of (Err OutOfMemory) = 0

pub one_place : {A : Type 0} (at other : ℕ) → ◌≡◌ {A = Result A CoreFault} (Err (Illegal at)) (Err (Illegal other)) → at ≡ other
unfolding place_of
one_place at other is = ap place_of is
