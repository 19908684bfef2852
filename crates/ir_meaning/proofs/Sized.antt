-- Types of functions that are one, and sizes that are asked for.
use Rattle.std.proofs.Common.{◌≡◌, ◌∙◌, ℕ, ◌-◌, ◌<◌, ◌^◌, ◌*◌, min, Bool, true, false, ◌&&◌, IsTrue, ◌↔◌, List, [], ◌∷◌, Option, Some, None, refl, sym, ap, subst, arith}
use Rattle.std.specs.Prelude.{nat_lt, if◌then◌else◌}
use Rattle.std.proofs.lemmas.Bool.Decides.{nat_tests}
use Rattle.ir_types.specs.declared.scalar.Scalar.{Scalar}
use Rattle.ir_types.specs.declared.scalar.Scalar.TheVariants.{I1, I8, I16, I32, I64, Ptr}
use Rattle.ir_types.specs.declared.scalar.FnType.{FnType}
use Rattle.ir_types.specs.Scalars.{same}
use Rattle.ir_syntax.specs.declared.symbol.Sym.{Sym}
use Rattle.ir_syntax.specs.declared.symbol.Builtin.{Builtin}
use Rattle.ir_syntax.specs.Programs.{ProgramData}
use Rattle.block_memory.specs.declared.value.Val.{Val}
use Rattle.block_memory.specs.declared.value.Val.TheVariants as val
use Rattle.block_memory.specs.Answers.{Answer}
use Rattle.ir_steps.specs.declared.session.Reply.{Reply}
use Rattle.ir_steps.specs.declared.session.Reply.TheVariants as reply
use Rattle.ir_steps.specs.States.{Point}
use Rattle.ir_steps.specs.Results.{Next, gives_result}
use Rattle.ir_steps.specs.Builtins.{granted, grant, asks}
use Rattle.ir_steps.specs.Calls.{same_types, same_return, same_truth, same_type}
use Rattle.ir_steps.proofs.CallingTypes.{type_same}

same_itself : (a : Scalar) → same a a ≡ true
same_itself I1 = refl
same_itself I8 = refl
same_itself I16 = refl
same_itself I32 = refl
same_itself I64 = refl
same_itself Ptr = refl

types_themselves : (tys : List Scalar) → same_types tys tys ≡ true
types_themselves [] = refl
types_themselves (a ∷ more) = ap (λ b. b && same_types more more) (same_itself a) ∙ types_themselves more

truth_itself : (b : Bool) → same_truth b b ≡ true
truth_itself true = refl
truth_itself false = refl

return_itself : (a : Option Scalar) → same_return a a ≡ true
return_itself None = refl
return_itself (Some a) = same_itself a

type_itself : (a : FnType) → same_type a a ≡ true
type_itself a =
    ap (λ b. b && same_truth a.variadic a.variadic && same_return a.returns a.returns) (types_themselves a.params)
    ∙ ap (λ b. b && same_return a.returns a.returns) (truth_itself a.variadic)
    ∙ return_itself a.returns

-- a test of whether two types are one is the definition's
pub same_type_is : (b : Bool) (x y : FnType) → IsTrue b ↔ (x ≡ y) → same_type x y ≡ b
same_type_is true x y h = ap (same_type x) (sym (h.0 refl)) ∙ type_itself x
same_type_is false x y h = tested (same_type x y) refl where
  tested : (b : Bool) → same_type x y ≡ b → b ≡ false
  tested true is = let deny : false ≡ true = h.1 (type_same x y is) in absurd (cc (deny))
  tested false is = refl

-- A size of 2^64 or more is no size of a block, as the greatest number isn't.
grant_saturated : (at : Point) (n : ℕ) (zeroed : Bool) (r : Reply) → grant at (min n (2 ^ 64 - 1)) zeroed r ≡ grant at n zeroed r
grant_saturated at n zeroed (reply.Grant granting) = tested (nat_lt n (2 ^ 31)) refl where
  none : (g : Bool) → (if g && false then granted at (min n (2 ^ 64 - 1)) zeroed else gives_result at val.Null) ≡ (if g && false then granted at n zeroed else gives_result at val.Null)
  none true = refl
  none false = refl

  tested : (b : Bool) → nat_lt n (2 ^ 31) ≡ b → grant at (min n (2 ^ 64 - 1)) zeroed (reply.Grant granting) ≡ grant at n zeroed (reply.Grant granting)
  tested true is = let small : min n (2 ^ 64 - 1) ≡ n = grind (arith, nat_tests, is) in ap (λ k. grant at k zeroed (reply.Grant granting)) small
  tested false is =
      let big : nat_lt (min n (2 ^ 64 - 1)) (2 ^ 31) ≡ false = grind (arith, nat_tests, is) in
      ap (λ b. if granting && b then granted at (min n (2 ^ 64 - 1)) zeroed else gives_result at val.Null) big ∙ none granting ∙ ap (λ b. if granting && b then granted at n zeroed else gives_result at val.Null) (sym is)
grant_saturated at n zeroed (reply.Give v writes) = refl

pub asks_saturated : (p : ProgramData) (at : Point) (fn_ty : FnType) (of : Builtin) (args : List (Val Sym)) (n : ℕ) (zeroed : Bool) (given : Option Reply) → asks p at fn_ty of args (min n (2 ^ 64 - 1)) zeroed given ≡ asks p at fn_ty of args n zeroed given
asks_saturated p at fn_ty of args n zeroed None = refl
asks_saturated p at fn_ty of args n zeroed (Some r) = grant_saturated at n zeroed r
