-- Modules worked by hand.
use Rattle.std.proofs.Common.{◌≡◌, ◌≢◌, ℕ, zero, suc, ◌<◌, pos, Bool, true, false, ◌&&◌, nat_lt, IsTrue, List, [], ◌∷◌, None, Some, All, codes, refl, ap, sym, ◌∙◌, arith}
use Rattle.std.proofs.lemmas.Bool.{false≢true}
use Rattle.std.proofs.lemmas.List.Elements.{All-cons, All-nil}
use Rattle.std.proofs.lemmas.List.Kept.{AllPairs-cons}
use Rattle.ir_types.specs.declared.scalar.Scalar.TheVariants.{I32, Ptr}
use Rattle.ir_types.specs.declared.scalar.Ext.TheVariants.{Plain}
use Rattle.ir_types.specs.declared.scalar.BinOp.TheVariants.{Add}
use Rattle.ir_types.specs.declared.shape.Ty.TheBlock.{One}
use Rattle.ir_types.specs.declared.shape.Ty.TheVariants.{outs-One}
use Rattle.ir_syntax.specs.declared.constant.Const.{out-Const}
use Rattle.ir_syntax.specs.declared.constant.Const.TheBlock.{Int, Addr}
use Rattle.ir_syntax.specs.declared.constant.Const.TheVariants.{outs-Addr}
use Rattle.ir_syntax.specs.declared.constant.Operand.TheVariants as operand
use Rattle.ir_syntax.specs.declared.body.Inst.{Inst}
use Rattle.ir_syntax.specs.declared.body.Inst.TheVariants.{Bin, Call}
use Rattle.ir_syntax.specs.declared.body.Term.TheVariants.{Ret}
use Rattle.ir_syntax.specs.declared.body.Arg.{Arg}
use Rattle.ir_syntax.specs.declared.body.Block.{Block}
use Rattle.ir_syntax.specs.declared.body.Body.{Body}
use Rattle.ir_syntax.specs.declared.item.Linkage.TheVariants.{External, Internal}
use Rattle.ir_syntax.specs.declared.item.Func.{Func}
use Rattle.ir_syntax.specs.declared.item.Item.{Item}
use Rattle.ir_syntax.specs.declared.item.Item.TheVariants as item
use Rattle.ir_syntax.specs.declared.item.Module.{Module}
use Rattle.ir_syntax.specs.Suits.{suits, takes_number, takes_address}
use Rattle.ir_syntax.specs.FormedBody.{is_intrinsic_address, FormedBody, FormedBlock, FormedInst, FormedPhi, Places, IsOperand, places_of}
use Rattle.ir_syntax.specs.FormedItem.{FormedFunc, FormedItem, IsName}
use Rattle.ir_syntax.specs.Formed.{Formed}
use Rattle.ir_syntax.proofs.SuitLemmas.{suits-Int, suits-Addr}

-- `%r = call i32 @add(i32 3, i32 %x)` and `ret i32 %r`
abbrev three : Arg
three = record { ty = I32; ext = Plain; value = operand.Const (Int 3) }

abbrev given : Arg
given = record { ty = I32; ext = Plain; value = operand.Param 0 }

abbrev main_call : Inst
main_call = Call (record { params = I32 ∷ I32 ∷ []; variadic = false; returns = Some I32 }) Plain (operand.Const (Addr 1 (pos 0))) (three ∷ given ∷ [])

abbrev main_block : Block
main_block = record { phis = []; insts = main_call ∷ []; term = Ret I32 (operand.Reg 0) }

abbrev main_body : Body
main_body = record { blocks = main_block ∷ [] }

-- `%s = add nsw i32 %p, %q` and `ret i32 %s`
abbrev add_inst : Inst
add_inst = Bin Add (record { nuw = false; nsw = true; exact = false; disjoint = false }) I32 (operand.Param 0) (operand.Param 1)

abbrev add_block : Block
add_block = record { phis = []; insts = add_inst ∷ []; term = Ret I32 (operand.Reg 0) }

abbrev add_body : Body
add_body = record { blocks = add_block ∷ [] }

abbrev main_func : Func
main_func = record { name = codes "main"; linkage = External; returns = Some I32; ret_ext = Plain; params = record { ty = I32; ext = Plain } ∷ []; variadic = false; body = Some main_body }

abbrev add_func : Func
add_func = record { name = codes "add"; linkage = Internal; returns = Some I32; ret_ext = Plain; params = record { ty = I32; ext = Plain } ∷ record { ty = I32; ext = Plain } ∷ []; variadic = false; body = Some add_body }

abbrev two_items : List Item
two_items = item.Func main_func ∷ item.Func add_func ∷ []

-- a function that calls an internal one
abbrev calling : Module
calling = record { layout = None; triple = None; items = two_items }

three-suits : (items : ℕ) → IsTrue (suits items (Int 3) (One I32))
three-suits items = suits-Int items 3 (One I32) ∙ ap (λ x. takes_number x 3) (outs-One I32)

callee-suits : IsTrue (suits 2 (Addr 1 (pos 0)) (One Ptr))
callee-suits = suits-Addr 2 1 (pos 0) (One Ptr) ∙ ap (λ x. takes_address x && nat_lt 1 2) (outs-One Ptr)

callee-plain : IsTrue (is_intrinsic_address two_items (out-Const (Addr 1 (pos 0)))) → ⊥
callee-plain h = false≢true (sym (ap (is_intrinsic_address two_items) (outs-Addr 1 (pos 0))) ∙ h)

abbrev add_places : Places
add_places = places_of two_items 2 add_body

add-block-formed : FormedBlock add_places add_block
add-block-formed = record {
  phis = All-nil (FormedPhi add_places);
  insts = All-cons (FormedInst add_places) add_inst [] (record { nuw = λ h. refl; nsw = λ h. refl; exact = λ h. h; disjoint = λ h. h }, omega arith, omega arith) (All-nil (FormedInst add_places));
  term = omega arith;
}

add-formed : FormedBody two_items 2 add_body
add-formed = record {
  has_block = omega arith;
  few_blocks = omega arith;
  few_insts = omega arith;
  has_blocks = All-cons (FormedBlock add_places) add_block [] add-block-formed (All-nil (FormedBlock add_places));
}

abbrev main_places : Places
main_places = places_of two_items 1 main_body

abbrev IsMainArg : Arg → Type 0
IsMainArg arg = IsOperand main_places arg.ty arg.value

main-call-formed : FormedInst main_places main_call
main-call-formed = record {
  few_params = omega arith;
  few_args = omega arith;
  has_callee = callee-suits;
  has_args = All-cons IsMainArg three (given ∷ []) (three-suits 2) (All-cons IsMainArg given [] (omega arith) (All-nil IsMainArg));
  not_volatile = λ h. absurd (callee-plain h);
}

main-block-formed : FormedBlock main_places main_block
main-block-formed = record {
  phis = All-nil (FormedPhi main_places);
  insts = All-cons (FormedInst main_places) main_call [] main-call-formed (All-nil (FormedInst main_places));
  term = omega arith;
}

main-formed : FormedBody two_items 1 main_body
main-formed = record {
  has_block = omega arith;
  few_blocks = omega arith;
  few_insts = omega arith;
  has_blocks = All-cons (FormedBlock main_places) main_block [] main-block-formed (All-nil (FormedBlock main_places));
}

abbrev pub has_no_zero : List ℕ → Bool
has_no_zero [] = true
has_no_zero (zero ∷ bytes) = false
has_no_zero (suc b ∷ bytes) = has_no_zero bytes

pub all_from_test : (bytes : List ℕ) → has_no_zero bytes ≡ true → All (λ byte. byte ≢ 0) bytes
all_from_test [] h = All-nil (λ byte. byte ≢ 0)
all_from_test (zero ∷ bytes) h = absurd (false≢true h)
all_from_test (suc b ∷ bytes) h = All-cons (λ byte. byte ≢ 0) (suc b) bytes (omega arith) (all_from_test bytes h)

main-name : IsName (codes "main")
main-name = record { not_empty = omega arith; short = omega arith; no_zero = all_from_test (codes "main") refl }

add-name : IsName (codes "add")
add-name = record { not_empty = omega arith; short = omega arith; no_zero = all_from_test (codes "add") refl }

main-func-formed : FormedFunc two_items main_func
main-func-formed = record {
  has_name = main-name;
  intrinsic = λ h. absurd (false≢true h);
  not_defined = λ h. absurd (false≢true h);
  few_params = omega arith;
  declared = tt;
  fixed = refl;
  has_body = main-formed;
}

add-func-formed : FormedFunc two_items add_func
add-func-formed = record {
  has_name = add-name;
  intrinsic = λ h. absurd (false≢true h);
  not_defined = λ h. absurd (false≢true h);
  few_params = omega arith;
  declared = tt;
  fixed = refl;
  has_body = add-formed;
}

-- The module that calls is formed.
pub calling-formed : Formed calling
calling-formed = record {
  distinct = AllPairs-cons differ (codes "main") (codes "add" ∷ []) (All-cons (differ (codes "main")) (codes "add") [] (λ e. cc) (All-nil (differ (codes "main")))) (AllPairs-cons differ (codes "add") [] (All-nil (differ (codes "add"))) (λ i j d less within. absurd (none_within j within)));
  has_items = All-cons (FormedItem two_items) (item.Func main_func) (item.Func add_func ∷ []) main-func-formed (All-cons (FormedItem two_items) (item.Func add_func) [] add-func-formed (All-nil (FormedItem two_items)));
}
  where
    differ : List ℕ → List ℕ → Type 0
    differ a b = a ≢ b

    none_within : (j : ℕ) → j < 0 → ⊥
    none_within j h = omega arith
