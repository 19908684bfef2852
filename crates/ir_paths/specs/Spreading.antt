-- How bits go from the blocks that wait to those that follow them.
use Rattle.std.specs.Prelude.{◌==◌, ℕ, Bool, true, false, ◌&&◌, not, nat_lt, List, [], ◌∷◌, ◌++◌, length, slice_get, slice_index, slice_index_or, slice_set, bit_and, bit_or, if◌then◌else◌}
use Rattle.std.specs.Int.{w64, bit_not}
use Rattle.ir_syntax.specs.declared.body.Block.{Block}
use Rattle.ir_syntax.specs.Edges.{successors_of}

-- for each block the bits that came there and whether they are still to go on, and a list of blocks to be visited
abbrev pub State : Type 0
State = List ℕ × List Bool × List ℕ

-- The bits come to a block, which waits where it has new ones.
abbrev pub arrive : ℕ → ℕ → State → State
arrive bits place s =
    if nat_lt place (length s.0) && not (bit_or (slice_index s.0 place) bits == slice_index s.0 place)
    then (slice_set s.0 place (bit_or (slice_index s.0 place) bits), slice_set s.1 place true, s.2 ++ place ∷ [])
    else s

abbrev pub arrive_all : ℕ → List ℕ → State → State
arrive_all bits [] s = s
arrive_all bits (place ∷ places) s = arrive_all bits places (arrive bits place s)

-- the bits that leave a block: not those that it owns
abbrev pub leaving : List ℕ → List ℕ → ℕ → ℕ
leaving own words place = bit_and (slice_index words place) (bit_not w64 (slice_index own place))

abbrev pub waits : List Bool → ℕ → Bool
waits flags place = slice_index_or flags place false

abbrev pub visit : List Block → List ℕ → ℕ → State → State
visit blocks own place s =
    if waits s.1 place
    then arrive_all (leaving own s.0 place) (successors_of (slice_get blocks place)) (s.0, slice_set s.1 place false, s.2)
    else s

abbrev pub visit_all : List Block → List ℕ → List ℕ → State → State
visit_all blocks own [] s = s
visit_all blocks own (place ∷ places) s = visit_all blocks own places (visit blocks own place s)
