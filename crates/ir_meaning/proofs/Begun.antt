-- A call that begins.
use Rattle.std.proofs.Common.{◌≡◌, ◌∙◌, ℕ, zero, suc, ◌+◌, ◌≤◌, List, [], ◌∷◌, ◌++◌, length, map, take, sum, replicate, Option, Some, None, refl, sym, ap, subst, slice_get, option_and_then, IsSome, is_some, true, false, if◌then◌else◌, arith, length-append}
use Rattle.std.specs.List.{flat_map}
use Rattle.std.proofs.Math.Seq.{take-length}
use Rattle.std.proofs.lemmas.List.Sums.{sum_by-cons}
use Rattle.ir_syntax.specs.declared.symbol.Sym.{Sym}
use Rattle.ir_syntax.specs.declared.symbol.Target.{Target}
use Rattle.ir_types.specs.declared.scalar.FnType.{FnType}
use Rattle.ir_syntax.specs.declared.body.Block.{Block}
use Rattle.ir_syntax.specs.declared.body.Body.{Body}
use Rattle.ir_syntax.specs.declared.item.Func.{Func}
use Rattle.ir_syntax.specs.FunctionTypes.{type_of}
use Rattle.ir_syntax.specs.Results.{block_results, results}
use Rattle.ir_syntax.specs.Programs.{ProgramData}
use Rattle.ir_syntax.specs.Targets.{entry_at}
use Rattle.int_ops.specs.declared.cause.Cause.TheVariants as cause
use Rattle.block_memory.specs.declared.value.Val.{Val}
use Rattle.block_memory.specs.Answers.{Answer, Gives, Undefined, Stuck, and_then, or_stuck}
use Rattle.ir_steps.specs.declared.session.Reply.{Reply}
use Rattle.ir_steps.specs.States.{Frame, Point}
use Rattle.ir_steps.specs.Results.{Next}
use Rattle.ir_steps.specs.Branches.{first_result}
use Rattle.ir_steps.specs.Calls.{body_of, begins, begins_at, function_at, same_type, call_as, call_of}
use Rattle.ir_meaning.specs.Models.{FrameData, block_in, rest_of, last_of, frame_of}
use Rattle.ir_meaning.specs.Mirrors.Numbering.{table_of, number_at}
use Rattle.ir_meaning.proofs.Numbered.{number_is}

count_is : (blocks : List Block) → sum (map (λ block. length (block_results block)) blocks) ≡ length (flat_map block_results blocks)
count_is [] = refl
count_is (block ∷ more) =
    sum_by-cons (λ (n : ℕ). n) (length (block_results block)) (map (λ block. length (block_results block)) more)
    ∙ ap (λ n. length (block_results block) + n) (count_is more)
    ∙ sym (length-append (block_results block) (flat_map block_results more))

-- behind the last block is how many results a body has
pub count_of_results : (body : Body) → first_result body (length body.blocks) ≡ length (results body)
count_of_results body = ap (λ blocks. sum (map (λ block. length (block_results block)) blocks)) (take-length body.blocks) ∙ count_is body.blocks

pub count_is_there : (p : ProgramData) (table : List (List (List ℕ))) (symbol : Sym) (body : Body) (behind : ℕ) → table ≡ table_of p.modules → body_of p symbol ≡ Some body → behind ≡ length body.blocks → IsSome (number_at table symbol behind)
count_is_there p table symbol body behind right is at = ap is_some (number_is p table symbol body behind right is (omega arith))

pub begun_is : (p : ProgramData) (table : List (List (List ℕ))) (symbol : Sym) (body : Body) (block : Block) (args : List (Val Sym)) (slots : List (Option (Val Sym))) (behind count next : ℕ) (allocas : List ℕ)
    → table ≡ table_of p.modules → body_of p symbol ≡ Some body → block_in p symbol 0 ≡ Some block → behind ≡ length body.blocks → number_at table symbol behind ≡ Some count → slots ≡ replicate count None → next ≡ length block.phis → allocas ≡ []
    → and_then (λ body. begins symbol body args) (or_stuck (body_of p symbol)) ≡ Gives (frame_of p (record { func = symbol; block = 0; place = 0; args = args; results = slots; next = next; allocas = allocas }))
begun_is p table symbol body block args slots behind count next allocas right is at there numbered filled phis empty =
    let in_body : slice_get body.blocks 0 ≡ Some block = sym (ap (option_and_then (λ (body : Body). slice_get body.blocks 0)) is) ∙ at in
    let first : number_at table symbol behind ≡ Some (first_result body behind) = number_is p table symbol body behind right is (omega arith) in
    let same : first_result body behind ≡ count = cc (first, numbered) in
    let all : length (results body) ≡ count = sym (count_of_results body) ∙ ap (first_result body) (sym there) ∙ same in
    ap (λ o. and_then (λ body. begins symbol body args) (or_stuck o)) is
    ∙ ap (λ o. and_then (λ first. Gives (begins_at symbol body args first)) (or_stuck o)) in_body
    ∙ ap (λ n. Gives (record (begins_at symbol body args block) { results = replicate n None })) all
    ∙ ap (λ rs. Gives (record (begins_at symbol body args block) { results = rs })) (sym filled)
    ∙ ap (λ n. Gives (record (begins_at symbol body args block) { results = slots; next = n })) (sym phis)
    ∙ ap (λ l. Gives (record (begins_at symbol body args block) { results = slots; next = next; allocas = l })) (sym empty)
    ∙ ap (λ o. Gives (record (begins_at symbol body args block) { rest = rest_of 0 o; last = last_of o; results = slots; next = next; allocas = allocas })) (sym at)

-- ---- calls by their function

pub of_other_type : (p : ProgramData) (at : Point) (fn_ty : FnType) (args : List (Val Sym)) (given : Option Reply) (symbol : Sym) (func : Func) → function_at p symbol ≡ Some func → same_type (type_of func) fn_ty ≡ false
    → and_then (call_as p at fn_ty args given symbol) (or_stuck (function_at p symbol)) ≡ Undefined cause.CallType
of_other_type p at fn_ty args given symbol func is other =
    ap (λ o. and_then (call_as p at fn_ty args given symbol) (or_stuck o)) is
    ∙ ap (λ b. if b then and_then (call_of p at fn_ty args given func) (or_stuck (entry_at p.targets symbol)) else Undefined cause.CallType) other

pub of_its_type : (p : ProgramData) (at : Point) (fn_ty : FnType) (args : List (Val Sym)) (given : Option Reply) (symbol : Sym) (func : Func) (to : Target) → function_at p symbol ≡ Some func → same_type (type_of func) fn_ty ≡ true → entry_at p.targets symbol ≡ Some to
    → and_then (call_as p at fn_ty args given symbol) (or_stuck (function_at p symbol)) ≡ call_of p at fn_ty args given func to
of_its_type p at fn_ty args given symbol func to is same target =
    ap (λ o. and_then (call_as p at fn_ty args given symbol) (or_stuck o)) is
    ∙ ap (λ b. if b then and_then (call_of p at fn_ty args given func) (or_stuck (entry_at p.targets symbol)) else Undefined cause.CallType) same
    ∙ ap (λ o. and_then (call_of p at fn_ty args given func) (or_stuck o)) target
