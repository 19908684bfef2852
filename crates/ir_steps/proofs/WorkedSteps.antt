-- Steps of small programs, worked by hand.
use Rattle.std.proofs.Common.{◌≡◌, ◌≢◌, true, false, List, [], ◌∷◌, Some, refl, sym, ◌∙◌}
use denote.Hole.Carrier as carrier
use Rattle.ir_syntax.specs.declared.constant.Const as constant
use Rattle.int_ops.specs.declared.cause.Cause.TheVariants as cause
use Rattle.int_ops.specs.Comparisons.{icmp_holds}
use Rattle.int_ops.specs.Binary.{bin_outcome}
use Rattle.block_memory.specs.declared.value.Val.TheVariants as val
use Rattle.block_memory.specs.Answers.{Gives, Undefined}
use Rattle.ir_steps.specs.declared.session.Reply.TheVariants as reply
use Rattle.ir_steps.specs.declared.session.ReplyVal.TheVariants as reply_value
use Rattle.ir_steps.specs.declared.session.Stepped.TheVariants as stepped
use Rattle.ir_steps.specs.WorkedPrograms.{outcome, silent, recursive, overflowing, dividing, swapping, outliving, freeing, asking}

pub factorial : outcome recursive [] (silent 35) ≡ Gives (stepped.Returned (Some (val.Num 120)))
unfolding icmp_holds bin_outcome constant.out-Const carrier.out
factorial = refl

pub not_sooner : outcome recursive [] (silent 34) ≡ Gives stepped.Went
unfolding icmp_holds bin_outcome constant.out-Const carrier.out
not_sooner = refl

pub poison : outcome overflowing [] (silent 4) ≡ Gives (stepped.Returned (Some val.Poison))
unfolding bin_outcome constant.out-Const carrier.out
poison = refl

poison_is_no_number : Gives (stepped.Returned (Some val.Poison)) ≡ Gives (stepped.Returned (Some (val.Num 0))) → ⊥
poison_is_no_number is = cc

pub not_wrapped : outcome overflowing [] (silent 4) ≢ Gives (stepped.Returned (Some (val.Num 0)))
unfolding bin_outcome constant.out-Const carrier.out
not_wrapped is = absurd (poison_is_no_number (sym poison ∙ is))

pub divided : outcome dividing (1 ∷ 1 ∷ 8 ∷ 0 ∷ []) (silent 3) ≡ Undefined cause.DivideByZero
unfolding icmp_holds bin_outcome
divided = refl

pub not_taken : outcome dividing (1 ∷ 2 ∷ 8 ∷ 0 ∷ []) (silent 3) ≡ Gives (stepped.Returned (Some (val.Num 8)))
unfolding icmp_holds
not_taken = refl

pub swapped : outcome swapping (3 ∷ 5 ∷ 2 ∷ []) (silent 8) ≡ Gives (stepped.Returned (Some (val.Num 5)))
unfolding icmp_holds bin_outcome
swapped = refl

pub not_one_by_one : outcome swapping (3 ∷ 5 ∷ 0 ∷ []) (silent 8) ≡ Gives stepped.Went
unfolding icmp_holds bin_outcome
not_one_by_one = refl

pub ended : outcome outliving [] (silent 4) ≡ Undefined cause.EndedBlock
unfolding constant.out-Const carrier.out
ended = refl

pub freed : outcome freeing [] (Some (reply.Grant true) ∷ silent 4) ≡ Gives (stepped.Returned (Some (val.Num 7)))
unfolding constant.out-Const carrier.out
freed = refl

pub refused : outcome freeing [] (Some (reply.Grant false) ∷ silent 1) ≡ Undefined cause.NullAddress
unfolding constant.out-Const carrier.out
refused = refl

pub replied : outcome asking [] (Some (reply.Give (reply_value.Num 9) []) ∷ silent 1) ≡ Gives (stepped.Returned (Some (val.Num 9)))
unfolding constant.out-Const carrier.out
replied = refl

pub bad_reply : outcome asking [] (Some (reply.Grant true) ∷ []) ≡ Undefined cause.BadReply
unfolding constant.out-Const carrier.out
bad_reply = refl
