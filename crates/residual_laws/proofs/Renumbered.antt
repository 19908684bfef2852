-- The law on what stays.
use Rattle.std.proofs.Common.{◌≡◌, ℕ, ◌+◌, ◌≤◌, List, length, ap, arith}
use Rattle.ir_types.specs.declared.scalar.Known.{Known}
use Rattle.ir_syntax.specs.declared.item.Func.{Func}
use Rattle.ir_syntax.specs.Definite.{first_result}
use Rattle.ir_syntax.specs.Results.{results}
use Rattle.fold_facts.specs.Assigned.{Assigned}
use Rattle.fold_facts.specs.OfFunction.{IsAssignmentOf, results_in}
use Rattle.fold_facts.specs.Places.{blocks_of}
use Rattle.interface.specs.Masks.{chosen, rank}
use Rattle.interface.specs.Summaries.{reached}
use Rattle.specialise.specs.Leaving.{leaving, kept}
use Rattle.specialise.specs.Residual.{residual}
use Rattle.residual_laws.proofs.Ranks.{rank_zero}
use Rattle.residual_laws.proofs.Numbering.{blocks_types}
use Rattle.residual_laws.proofs.Standing.{left_long, left_first}
use Rattle.residual_laws.proofs.Flags.{zero_on, are_out}

pub results_left : (known : List Known) (func : Func) (a : Assigned) → IsAssignmentOf func a → results (residual known func a) ≡ chosen (kept a (blocks_of func)) (results_in (blocks_of func))
results_left known func a of = blocks_types (leaving known (blocks_of func) a) 0 0 (blocks_of func) (are_out known (blocks_of func) a of)

pub blocks_left : (known : List Known) (func : Func) (a : Assigned) → IsAssignmentOf func a → length (residual known func a).blocks ≡ rank (reached a (blocks_of func)) (length (blocks_of func))
blocks_left known func a of =
    let mask = reached a (blocks_of func) in
    let long : length (residual known func a).blocks + rank mask 0 ≡ rank mask (0 + length (blocks_of func)) = left_long (leaving known (blocks_of func) a) 0 0 (blocks_of func) in
    let same : rank mask (0 + length (blocks_of func)) ≡ rank mask (length (blocks_of func)) = ap (rank mask) (zero_on (length (blocks_of func))) in
    omega (arith, long, same, rank_zero mask)

pub first_left : (known : List Known) (func : Func) (a : Assigned) (place : ℕ) → IsAssignmentOf func a → place ≤ length (blocks_of func)
    → first_result (residual known func a).blocks (rank (reached a (blocks_of func)) place) ≡ rank (kept a (blocks_of func)) (first_result (blocks_of func) place)
first_left known func a place of within =
    let w = leaving known (blocks_of func) a in
    let mask = reached a (blocks_of func) in
    let same : rank mask (0 + place) ≡ rank mask place = ap (rank mask) (zero_on place) in
    let at : rank mask place + rank mask 0 ≡ rank mask (0 + place) = omega (arith, rank_zero mask, same) in
    let first : first_result (residual known func a).blocks (rank mask place) + rank (kept a (blocks_of func)) 0 ≡ rank (kept a (blocks_of func)) (0 + first_result (blocks_of func) place) =
    left_first w 0 0 (blocks_of func) place (rank mask place) (are_out known (blocks_of func) a of) within at in
    let one : rank (kept a (blocks_of func)) (0 + first_result (blocks_of func) place) ≡ rank (kept a (blocks_of func)) (first_result (blocks_of func) place) =
    ap (rank (kept a (blocks_of func))) (zero_on (first_result (blocks_of func) place)) in
    omega (arith, first, one, rank_zero (kept a (blocks_of func)))
