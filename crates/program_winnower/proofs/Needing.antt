-- What is found of a program's needs is what it needs.
use Rattle.std.proofs.Common.{◌≡◌, ◌≤◌, ℕ, Bool, List, [], ◌∷◌, All, length, map, IfOk, IfErr, OnOk, refl, sym, subst}
use Rattle.std.specs.Prelude.{Result, Ok, Err, sum_by}
use Rattle.ir_syntax.specs.Programs.{ProgramData}
use Rattle.fixed_point.specs.declared.fault.FixFault.{FixFault}
use Rattle.fixed_point.specs.declared.fault.FixFault.TheVariants as fix
use Rattle.fixed_point.specs.Needs.{AreAllNeeded, NeedsMoreThan, WeighsMoreThan}
use Rattle.demands.specs.Rows.{words_of}
use Rattle.interface.specs.Asked.{AreCycles}
use Rattle.interface.specs.Roots.{roots}
use Rattle.specialise.specs.declared.piece.Piece.{Piece}
use Rattle.specialise.specs.Pieces.{IsRowExpansion}
use Rattle.specialise.specs.Mirrors.Expander.{Expands}
use Rattle.specialise.specs.Mirrors.Expanding.{row_needs, row_size}
use Rattle.linking_again.proofs.Cycles.{cycles_are_one}
use Rattle.program_winnower.specs.Winnowing.{AreFewPieces, NeedsTooMany, NeedsTooMuch, RefusesNeeds}

-- A program with its call cycles and its roots' rows, as a search was given them.
pub record Given (p q : ProgramData) (cycles others : List (List Bool)) (rows : List (List ℕ)) : Type 0 where
  pub program : q ≡ p
  pub same : others ≡ cycles
  pub are : AreCycles p cycles
  pub rows_are : rows ≡ map words_of (roots p cycles)

expansions : (p : ProgramData) (cycles : List (List Bool)) (pieces : List (List ℕ × Piece)) → All (λ pair. Expands p cycles pair.0 pair.1) pieces → All (λ pair. IsRowExpansion p cycles pair.0 pair.1) pieces
expansions p cycles pieces all = λ k d within. (all k d within).is

-- ---- where all is found

pub record Found (q : ProgramData) (others : List (List Bool)) (rows : List (List ℕ)) (pieces : List (List ℕ × Piece)) : Type 0 where
  pub needed : AreAllNeeded (row_needs q others) rows (map (λ pair. pair.0) pieces)
  pub expanded : All (λ pair. Expands q others pair.0 pair.1) pieces
  pub few : length pieces ≤ 65536
  pub small : sum_by (λ (pair : List ℕ × Piece). row_size q pair.0) pieces ≤ 8388608

found_few : (p q : ProgramData) (cycles others : List (List Bool)) (rows : List (List ℕ)) (pieces : List (List ℕ × Piece)) → Given p q cycles others rows → Found q others rows pieces → AreFewPieces p pieces
found_few p q cycles others rows pieces given found =
    let here : Found p cycles (map words_of (roots p cycles)) pieces =
    subst (λ l. Found p cycles l pieces) given.rows_are (subst (λ l. Found p l rows pieces) given.same (subst (λ o. Found o others rows pieces) given.program found)) in
    record {
      needed = record { cycles = cycles; are_cycles = given.are; needed = here.needed; expanded = expansions p cycles pieces here.expanded };
      few = here.few;
      small = here.small;
    }

pub few_found : (p q : ProgramData) (cycles others : List (List Bool)) (rows : List (List ℕ)) (result : Result (List (List ℕ × Piece)) FixFault) → Given p q cycles others rows
    → IfOk result (λ pairs. AreAllNeeded (row_needs q others) rows (map (λ pair. pair.0) pairs)) → IfOk result (λ pairs. All (λ pair. Expands q others pair.0 pair.1) pairs)
    → IfOk result (λ pairs. length pairs ≤ 65536) → IfOk result (λ pairs. sum_by (λ (pair : List ℕ × Piece). row_size q pair.0) pairs ≤ 8388608) → IfOk result (AreFewPieces p)
few_found p q cycles others rows (Ok pieces) given needed expanded few small = found_few p q cycles others rows pieces given (record { needed = needed; expanded = expanded; few = few; small = small })
few_found p q cycles others rows (Err fault) given needed expanded few small = tt

-- ---- where there is too much

many_found : (p q : ProgramData) (cycles others : List (List Bool)) (rows : List (List ℕ)) → Given p q cycles others rows → NeedsMoreThan (row_needs q others) rows 65536 → NeedsTooMany p
many_found p q cycles others rows given more = record {
  cycles = cycles;
  are_cycles = given.are;
  more = subst (λ l. NeedsMoreThan (row_needs p cycles) l 65536) given.rows_are (subst (λ l. NeedsMoreThan (row_needs p l) rows 65536) given.same (subst (λ o. NeedsMoreThan (row_needs o others) rows 65536) given.program more));
}

many_back : (p q : ProgramData) (cycles others : List (List Bool)) (rows : List (List ℕ)) → Given p q cycles others rows → NeedsTooMany p → NeedsMoreThan (row_needs q others) rows 65536
many_back p q cycles others rows given many =
    let here : NeedsMoreThan (row_needs p cycles) (map words_of (roots p cycles)) 65536 =
    subst (λ l. NeedsMoreThan (row_needs p l) (map words_of (roots p l)) 65536) (cycles_are_one p many.cycles cycles many.are_cycles given.are) many.more in
    subst (λ o. NeedsMoreThan (row_needs o others) rows 65536) (sym given.program) (subst (λ l. NeedsMoreThan (row_needs p l) rows 65536) (sym given.same) (subst (λ l. NeedsMoreThan (row_needs p cycles) l 65536) (sym given.rows_are) here))

much_found : (p q : ProgramData) (cycles others : List (List Bool)) (rows : List (List ℕ)) → Given p q cycles others rows → WeighsMoreThan (row_needs q others) (row_size q) rows 8388608 → NeedsTooMuch p
much_found p q cycles others rows given more = record {
  cycles = cycles;
  are_cycles = given.are;
  more = subst (λ l. WeighsMoreThan (row_needs p cycles) (row_size p) l 8388608) given.rows_are
      (subst (λ l. WeighsMoreThan (row_needs p l) (row_size p) rows 8388608) given.same (subst (λ o. WeighsMoreThan (row_needs o others) (row_size o) rows 8388608) given.program more));
}

much_back : (p q : ProgramData) (cycles others : List (List Bool)) (rows : List (List ℕ)) → Given p q cycles others rows → NeedsTooMuch p → WeighsMoreThan (row_needs q others) (row_size q) rows 8388608
much_back p q cycles others rows given much =
    let here : WeighsMoreThan (row_needs p cycles) (row_size p) (map words_of (roots p cycles)) 8388608 =
    subst (λ l. WeighsMoreThan (row_needs p l) (row_size p) (map words_of (roots p l)) 8388608) (cycles_are_one p much.cycles cycles much.are_cycles given.are) much.more in
    subst (λ o. WeighsMoreThan (row_needs o others) (row_size o) rows 8388608) (sym given.program)
    (subst (λ l. WeighsMoreThan (row_needs p l) (row_size p) rows 8388608) (sym given.same) (subst (λ l. WeighsMoreThan (row_needs p cycles) (row_size p) l 8388608) (sym given.rows_are) here))

pub refusal_found : (p q : ProgramData) (cycles others : List (List Bool)) (rows : List (List ℕ)) (result : Result (List (List ℕ × Piece)) FixFault) → Given p q cycles others rows
    → (result ≡ Err fix.TooManyDemands → NeedsMoreThan (row_needs q others) rows 65536) → (result ≡ Err fix.TooMuchCode → WeighsMoreThan (row_needs q others) (row_size q) rows 8388608)
    → (result ≡ Err fix.TooMuchCode → NeedsMoreThan (row_needs q others) rows 65536 → ⊥) → IfErr result (RefusesNeeds p)
refusal_found p q cycles others rows (Ok pieces) given many much few = tt
refusal_found p q cycles others rows (Err fix.TooManyDemands) given many much few = many_found p q cycles others rows given (many refl)
refusal_found p q cycles others rows (Err fix.TooMuchCode) given many much few = (λ more. few refl (many_back p q cycles others rows given more), much_found p q cycles others rows given (much refl))
refusal_found p q cycles others rows (Err fix.OutOfMemory) given many much few = tt

pub few_answered : (p q : ProgramData) (cycles others : List (List Bool)) (rows : List (List ℕ)) (result : Result (List (List ℕ × Piece)) FixFault) → Given p q cycles others rows
    → OnOk result (NeedsMoreThan (row_needs q others) rows 65536 → ⊥) → OnOk result (NeedsTooMany p → ⊥)
few_answered p q cycles others rows (Ok pieces) given few = λ more. few (many_back p q cycles others rows given more)
few_answered p q cycles others rows (Err fault) given few = tt

pub small_answered : (p q : ProgramData) (cycles others : List (List Bool)) (rows : List (List ℕ)) (result : Result (List (List ℕ × Piece)) FixFault) → Given p q cycles others rows
    → OnOk result (WeighsMoreThan (row_needs q others) (row_size q) rows 8388608 → ⊥) → OnOk result (NeedsTooMuch p → ⊥)
small_answered p q cycles others rows (Ok pieces) given small = λ much. small (much_back p q cycles others rows given much)
small_answered p q cycles others rows (Err fault) given small = tt
