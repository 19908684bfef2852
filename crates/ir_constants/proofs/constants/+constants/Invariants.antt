-- what is read and what is left; so many arrays and structs may be open
use Rattle.std.proofs.Common.{◌≡◌, ◌*◌, ◌+◌, ◌-◌, ◌≤◌, drop, length}
use Rattle.ir_grammar.specs.Tokens.{seen}
use Rattle.ir_scope.specs.Scopes.{env_of, type_among}
use Rattle.ir_constants.specs.Constants.{is_close_square, part_at, parts_at, constant_within}
use Rattle.ir_constants.specs.Mirrors.Known.{IsKnown}
use Rattle.ir_constants.proofs.Closed.{extended, closed}
use Rattle.ir_constants.proofs.constants.+constants.Given as goal

abbrev pub invariant-list-reading : goal.invariant-list-reading
invariant-list-reading l = record {
  read : extended l.parts l.at (closed is_close_square (part_at (env_of l.scope) (constant_within (env_of l.scope) l.depth) l.element) (seen (drop l.at l.kept))) ≡ closed is_close_square (part_at (env_of l.scope) (constant_within (env_of l.scope) l.depth) l.element) (seen l.kept);
  within : l.at ≤ length l.kept;
  known : IsKnown (type_among l.scope.types) l.element l.known;
}

abbrev pub decreases-list-reading : goal.decreases-list-reading
decreases-list-reading l = length l.kept - l.at

abbrev pub invariant-parts-reading : goal.invariant-parts-reading
invariant-parts-reading l = record {
  read : extended l.parts l.at (parts_at (env_of l.scope) (constant_within (env_of l.scope) l.depth) (drop l.ty-index l.types) (seen (drop l.at l.kept))) ≡ parts_at (env_of l.scope) (constant_within (env_of l.scope) l.depth) l.types (seen l.kept);
  within : l.at ≤ length l.kept;
}

abbrev pub decreases-constant_within : goal.decreases-constant_within
decreases-constant_within l = 4 * l.depth

abbrev pub decreases-part : goal.decreases-part
decreases-part l = 4 * l.depth + 1

abbrev pub decreases-list : goal.decreases-list
decreases-list l = 4 * l.depth + 2

abbrev pub decreases-parts : goal.decreases-parts
decreases-parts l = 4 * l.depth + 2

abbrev pub decreases-elements : goal.decreases-elements
decreases-elements l = 4 * l.depth + 3

abbrev pub decreases-fields : goal.decreases-fields
decreases-fields l = 4 * l.depth + 3
