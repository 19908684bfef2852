-- The answers for the entry of a program.
use Rattle.std.proofs.Common.{ℕ, ◌≤◌, All, List, [], ◌∷◌, length, map, reverse, sum_by, sym, subst}
use Rattle.std.specs.List.{filter_map}
use Rattle.std.specs.List.Sorted.{IsPermutation, IsSortedByKey}
use Rattle.ir_syntax.specs.declared.item.Module.{Module}
use Rattle.ir_syntax.specs.Straight.{IsStraightProgram}
use Rattle.demands.specs.Order.{demand_order}
use Rattle.fixed_point.specs.Needs.{AreAllNeeded, NeedsMoreThan, WeighsMoreThan}
use Rattle.straight_plan.specs.declared.cut.Ask.{Ask}
use Rattle.straight_plan.specs.Asked.{program_items}
use Rattle.straight_plan.specs.Left.{IsPlanned, AreTooMany, IsTooMuch}
use Rattle.straight_fold.specs.declared.piece.Found.{Found}
use Rattle.straight_fold.specs.declared.piece.Piece.{Piece}
use Rattle.straight_fold.specs.Calls.{row_of}
use Rattle.straight_fold.specs.Expansion.{IsPieceOf, cut_of, row_needs, row_size}
use Rattle.straight_fold.proofs.Promised.{AreRead, TiesItself, AreInAnyOrder}
use Rattle.straight_fold.proofs.Reading.{IsGood}
use Rattle.straight_fold.proofs.Pieces.{straight-items}
use Rattle.straight_fold.proofs.Plans.{planned, too-many, too-much}

pub program-many : AreRead → TiesItself → AreInAnyOrder → (modules : List Module) (start : Ask) → IsStraightProgram modules → IsGood (program_items modules) start
    → NeedsMoreThan (row_needs modules) (row_of start ∷ []) 65536 → AreTooMany (program_items modules) start
program-many reads ties any_order modules start program =
    subst (λ (ms : List Module). IsGood (program_items ms) start → NeedsMoreThan (row_needs ms) (row_of start ∷ []) 65536 → AreTooMany (program_items ms) start) (sym program.modules_are)
    (too-many reads ties any_order program.only (straight-items program.only program.straight) start)

pub program-much : AreRead → TiesItself → AreInAnyOrder → (modules : List Module) (start : Ask) → IsStraightProgram modules → IsGood (program_items modules) start
    → WeighsMoreThan (row_needs modules) (row_size modules) (row_of start ∷ []) 8388608 → (NeedsMoreThan (row_needs modules) (row_of start ∷ []) 65536 → ⊥) → IsTooMuch (program_items modules) start
program-much reads ties any_order modules start program =
    subst (λ (ms : List Module). IsGood (program_items ms) start → WeighsMoreThan (row_needs ms) (row_size ms) (row_of start ∷ []) 8388608 → (NeedsMoreThan (row_needs ms) (row_of start ∷ []) 65536 → ⊥) → IsTooMuch (program_items ms) start)
    (sym program.modules_are)
    (too-much reads ties any_order program.only (straight-items program.only program.straight) start)

pub program-planned : AreRead → TiesItself → AreInAnyOrder → (modules : List Module) (start : Ask) (pairs : List (List ℕ × Piece)) (sorted : List Found) → IsStraightProgram modules → IsGood (program_items modules) start
    → AreAllNeeded (row_needs modules) (row_of start ∷ []) (map (λ pair. pair.0) pairs) → All (λ pair. IsPieceOf modules pair.0 pair.1) pairs
    → length pairs ≤ 65536 → sum_by (λ pair. row_size modules pair.0) pairs ≤ 8388608
    → IsPermutation (filter_map (λ pair. pair.1.found) (reverse pairs)) sorted → IsSortedByKey (λ one. one.demand) demand_order sorted
    → IsPlanned (program_items modules) start (filter_map cut_of sorted)
program-planned reads ties any_order modules start pairs sorted program =
    subst (λ (ms : List Module). IsGood (program_items ms) start → AreAllNeeded (row_needs ms) (row_of start ∷ []) (map (λ pair. pair.0) pairs) → All (λ pair. IsPieceOf ms pair.0 pair.1) pairs
    → length pairs ≤ 65536 → sum_by (λ pair. row_size ms pair.0) pairs ≤ 8388608
    → IsPermutation (filter_map (λ pair. pair.1.found) (reverse pairs)) sorted → IsSortedByKey (λ one. one.demand) demand_order sorted
    → IsPlanned (program_items ms) start (filter_map cut_of sorted))
    (sym program.modules_are)
    (λ good needed pieces few small moved up. planned reads ties any_order program.only (straight-items program.only program.straight) start good pairs needed pieces few small sorted moved up)
