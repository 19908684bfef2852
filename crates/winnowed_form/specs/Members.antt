-- The demands of a set with what is left of their functions.
use Rattle.std.specs.Prelude.{◌==◌, ℕ, Bool, List, Option, IsPermutation, IsSortedByKey, option_map}
use Rattle.std.specs.List.{filter, filter_map}
use Rattle.ir_syntax.specs.Programs.{ProgramData}
use Rattle.demands.specs.Order.{symbol_of, demand_order}
use Rattle.demands.specs.Reading.{read_row}
use Rattle.specialise.specs.declared.piece.Piece.{Piece}
use Rattle.winnowed_form.specs.declared.member.Member.{Member}

-- the demand of a row with what is left by its piece; a row that is no demand's has none
abbrev pub member_of : ProgramData → List ℕ × Piece → Option Member
member_of p pair = option_map (λ d. record { demand = d; body = pair.1.body }) (read_row p.modules pair.0)

-- The members of these pieces, in the order of demands.
pub record AreMembers (p : ProgramData) (pieces : List (List ℕ × Piece)) (members : List Member) : Type 0 where
  pub are : IsPermutation (filter_map (member_of p) pieces) members
  pub ordered : IsSortedByKey (λ member. member.demand) demand_order members

abbrev pub is_in : ℕ → Member → Bool
is_in home member = (symbol_of member.demand).module == home

-- those that a module defines, in the order of demands: variables, and then functions with their patterns
abbrev pub defined_in : ℕ → List Member → List Member
defined_in home members = filter (is_in home) members
