-- Calls in residual bodies have few arguments, and what is left of a body is no longer than the body.
use Rattle.std.proofs.Common.{ℕ, suc, ◌+◌, ◌-◌, ◌≤◌, ◌<◌, ◌^◌, Bool, true, false, List, [], ◌∷◌, ◌++◌, Option, None, Some, IsSome, All, length, map, arith, length-append}
use Rattle.std.specs.Prelude.{sum, if◌then◌else◌}
use Rattle.std.proofs.lemmas.Bool.{false≢true}
use Rattle.std.proofs.lemmas.List.{length-map}
use Rattle.std.proofs.lemmas.List.Sums.{sum_by-cons}
use Rattle.std.proofs.lemmas.List.Elements.{All-nil, All-cons, All-head, All-tail, All-append}
use Rattle.ir_syntax.specs.declared.constant.Operand.{Operand}
use Rattle.ir_syntax.specs.declared.body.Arg.{Arg}
use Rattle.ir_syntax.specs.declared.body.Inst.{Inst}
use Rattle.ir_syntax.specs.declared.body.Inst.TheVariants as inst
use Rattle.ir_syntax.specs.declared.body.Phi.{Phi}
use Rattle.ir_syntax.specs.declared.body.Block.{Block}
use Rattle.ir_syntax.specs.declared.body.Body.{Body}
use Rattle.ir_syntax.specs.declared.item.Func.{Func}
use Rattle.ir_syntax.specs.Callees.{written_callee}
use Rattle.ir_syntax.specs.Definite.{has_result}
use Rattle.ir_syntax.specs.FormedBody.{Places, FormedInst, FormedBlock, FormedBody, places_of}
use Rattle.ir_syntax.specs.Mapped.{map_operands, map_arg}
use Rattle.ir_syntax.specs.Results.{result_type, block_results, block_count, count}
use Rattle.ir_syntax.specs.SoundFunctions.{IsSoundFunction}
use Rattle.fold_facts.specs.Assigned.{Assigned}
use Rattle.fold_facts.specs.Places.{blocks_in}
use Rattle.std.specs.Option.{IfSome}
use Rattle.ir_types.specs.declared.scalar.Known.{Known}
use Rattle.interface.specs.Masks.{is_chosen}
use Rattle.interface.specs.Names.{uses_beside, HasFewArgs}
use Rattle.specialise.specs.Leaving.{Leaving, leaving}
use Rattle.specialise.specs.Residual.{left_operand, left_entries, left_phi, left_phis, left_inst, left_insts, left_block, left_blocks, left_term, stays, residual}

-- ---- calls

pub few_args : (places : Places) (f : Operand → Operand) (i : Inst) → FormedInst places i → HasFewArgs (map_operands f i)
few_args places f (inst.Bin op flags ty a b) formed = λ some. absurd (false≢true some)
few_args places f (inst.Icmp pred ty a b) formed = λ some. absurd (false≢true some)
few_args places f (inst.Select ty cond a b) formed = λ some. absurd (false≢true some)
few_args places f (inst.Cast op nneg from to a) formed = λ some. absurd (false≢true some)
few_args places f (inst.Alloca ty n align) formed = λ some. absurd (false≢true some)
few_args places f (inst.Load ty at align) formed = λ some. absurd (false≢true some)
few_args places f (inst.Store ty value at align) formed = λ some. absurd (false≢true some)
few_args places f (inst.Gep inbounds ty base indices) formed = λ some. absurd (false≢true some)
few_args places f (inst.Call fn_ty ret_ext callee args) formed = by (written_callee (f callee))
  where
    by : (o : Option ℕ) → IsSome o → length (uses_beside o (f callee ∷ map (λ (arg : Arg). arg.value) (map (map_arg f) args))) ≤ 32
    by None some = absurd (false≢true some)
    by (Some place) some = omega (arith, formed.few_args, length-map (map (map_arg f) args) (λ (arg : Arg). arg.value), length-map args (map_arg f))

insts_few : (places : Places) (w : Leaving) (n : ℕ) (insts : List Inst) → All (FormedInst places) insts → All HasFewArgs (left_insts w n insts)
insts_few places w n [] formed = All-nil HasFewArgs
insts_few places w n (i ∷ more) formed =
    All-append HasFewArgs (left_inst w n i) (left_insts w (n + has_result (result_type i)) more) (by (stays w n (result_type i)))
    (insts_few places w (n + has_result (result_type i)) more (All-tail (FormedInst places) i more formed))
  where
    by : (b : Bool) → All HasFewArgs (if b then map_operands (left_operand w) i ∷ [] else [])
    by true = All-cons HasFewArgs (map_operands (left_operand w) i) [] (few_args places (left_operand w) i (All-head (FormedInst places) i more formed)) (All-nil HasFewArgs)
    by false = All-nil HasFewArgs

abbrev pub HasFewIn : Block → Type 0
HasFewIn block = All HasFewArgs block.insts

pub blocks_few : (places : Places) (w : Leaving) (place first : ℕ) (blocks : List Block) → All (FormedBlock places) blocks → All HasFewIn (left_blocks w place first blocks)
blocks_few places w place first [] formed = All-nil HasFewIn
blocks_few places w place first (b ∷ more) formed =
    All-append HasFewIn (left_block w place first b) (left_blocks w (suc place) (first + length (block_results b)) more) (by (is_chosen w.reached place))
    (blocks_few places w (suc place) (first + length (block_results b)) more (All-tail (FormedBlock places) b more formed))
  where
    left : Block
    left = record { phis = left_phis w place first b.phis; insts = left_insts w (first + length b.phis) b.insts; term = left_term w b.term }

    by : (r : Bool) → All HasFewIn (if r then left ∷ [] else [])
    by true = All-cons HasFewIn left [] (insts_few places w (first + length b.phis) b.insts ((All-head (FormedBlock places) b more formed).insts)) (All-nil HasFewIn)
    by false = All-nil HasFewIn

-- ---- sizes

phis_most : (w : Leaving) (place n : ℕ) (phis : List Phi) → length (left_phis w place n phis) ≤ length phis
phis_most w place n [] = omega arith
phis_most w place n (phi ∷ more) = omega (arith, length-append (left_phi w place n phi) (left_phis w place (suc n) more), by (is_chosen w.kept n) (record { ty = phi.ty; entries = left_entries w place [] phi.entries }), phis_most w place (suc n) more)
  where
    by : (b : Bool) (p : Phi) → length (if b then p ∷ [] else []) ≤ 1
    by true p = omega arith
    by false p = omega arith

insts_most : (w : Leaving) (n : ℕ) (insts : List Inst) → length (left_insts w n insts) ≤ length insts
insts_most w n [] = omega arith
insts_most w n (i ∷ more) =
    omega (
      arith,
      length-append (left_inst w n i) (left_insts w (n + has_result (result_type i)) more),
      by (stays w n (result_type i)) (map_operands (left_operand w) i),
      insts_most w (n + has_result (result_type i)) more,
    )
  where
    by : (b : Bool) (j : Inst) → length (if b then j ∷ [] else []) ≤ 1
    by true j = omega arith
    by false j = omega arith

pub blocks_most : (w : Leaving) (place first : ℕ) (blocks : List Block) → sum (map block_count (left_blocks w place first blocks)) ≤ sum (map block_count blocks)
blocks_most w place first [] = omega arith
blocks_most w place first (b ∷ more) = by (is_chosen w.reached place) (blocks_most w (suc place) (first + length (block_results b)) more)
  where
    left : Block
    left = record { phis = left_phis w place first b.phis; insts = left_insts w (first + length b.phis) b.insts; term = left_term w b.term }

    rest : List Block
    rest = left_blocks w (suc place) (first + length (block_results b)) more

    by : (r : Bool) → sum (map block_count rest) ≤ sum (map block_count more) → sum (map block_count ((if r then left ∷ [] else []) ++ rest)) ≤ sum (map block_count (b ∷ more))
    by true less =
        omega (
          arith,
          sum_by-cons (λ n. n) (block_count left) (map block_count rest),
          sum_by-cons (λ n. n) (block_count b) (map block_count more),
          phis_most w place first b.phis,
          insts_most w (first + length b.phis) b.insts,
          less,
        )
    by false less = omega (arith, sum_by-cons (λ n. n) (block_count b) (map block_count more), less)

-- ---- of a function

pub residual_few : (known : List Known) (func : Func) (a : Assigned) → IsSoundFunction func → All HasFewIn (residual known func a).blocks
residual_few known func a sound = by func.body sound.formed.has_body
  where
    by : (o : Option Body) → IfSome o (FormedBody sound.items (length func.params)) → All HasFewIn (left_blocks (leaving known (blocks_in o) a) 0 0 (blocks_in o))
    by None formed = All-nil HasFewIn
    by (Some body) formed = blocks_few (places_of sound.items (length func.params) body) (leaving known body.blocks a) 0 0 body.blocks formed.has_blocks

pub residual_small : (known : List Known) (func : Func) (a : Assigned) → IsSoundFunction func → count (residual known func a) < 2 ^ 64 - 1
residual_small known func a sound = by func.body sound.formed.has_body
  where
    by : (o : Option Body) → IfSome o (FormedBody sound.items (length func.params)) → sum (map block_count (left_blocks (leaving known (blocks_in o) a) 0 0 (blocks_in o))) < 2 ^ 64 - 1
    by None formed = omega arith
    by (Some body) formed = omega (arith, formed.few_insts, blocks_most (leaving known body.blocks a) 0 0 body.blocks)
