-- What is derived leaves the end of the tokens, and a nonterminal takes one at least.
use Rattle.std.proofs.Common.{◌≡◌, ℕ, suc, ◌≤◌, ◌<◌, List, ◌∷◌, ◌++◌, length, drop, length-drop, refl, ap, arith}
use Rattle.ir_grammar.specs.declared.grammar.Name.{Name}
use Rattle.ir_grammar.specs.declared.grammar.Item.{Item}
use Rattle.ir_grammar.specs.declared.grammar.Item.TheVariants as item
use Rattle.ir_grammar.specs.Tokens.{Piece, Kept}
use Rattle.ir_grammar.specs.Derives.{without_a, without_b, without_c, Derives, nothing, one, left_out, is_there, ended, one_more, empty, some, no_further, further, no_flag, flag_a, flag_b, flag_c}
use Rattle.ir_grammar.specs.Derives as by

-- these are the end of those
abbrev pub IsEndOf : List Piece → List Piece → Type 0
IsEndOf rest pieces = (taken : ℕ) × ((taken ≤ length pieces) × (rest ≡ drop taken pieces))

all_left : (pieces : List Piece) → IsEndOf pieces pieces
all_left pieces = (0, (omega arith, refl))

one_taken : (piece : Piece) (pieces rest : List Piece) → IsEndOf rest pieces → IsEndOf rest (piece ∷ pieces)
one_taken piece pieces rest (taken, (within, same)) = (suc taken, (omega arith, same))

pub is_end : (items : List Item) (pieces : List Piece) (kept : List Kept) (rest : List Piece) → Derives items pieces kept rest → IsEndOf rest pieces
is_end _ _ _ _ (nothing rest) = all_left rest
is_end _ _ _ _ (by.token terminal kept_as items piece pieces kept rest stands d) = one_taken piece pieces rest (is_end items pieces kept rest d)
is_end _ _ _ _ (one name production items piece pieces kept rest among stands d) = one_taken piece pieces rest (is_end (production.behind ++ items) pieces kept rest d)
is_end _ _ _ _ (left_out name items pieces kept rest none d) = is_end items pieces kept rest d
is_end _ _ _ _ (is_there name items pieces kept rest d) = is_end (item.One name ∷ items) pieces kept rest d
is_end _ _ _ _ (ended name items pieces kept rest none d) = is_end items pieces kept rest d
is_end _ _ _ _ (one_more name items pieces kept rest d) = is_end (item.One name ∷ item.Many name ∷ items) pieces kept rest d
is_end _ _ _ _ (empty name items pieces kept rest none d) = is_end items pieces kept rest d
is_end _ _ _ _ (some name items pieces kept rest d) = is_end (item.One name ∷ item.Further name ∷ items) pieces kept rest d
is_end _ _ _ _ (no_further name items pieces kept rest none d) = is_end items pieces kept rest d
is_end _ _ _ _ (further name items piece pieces kept rest comma d) = one_taken piece pieces rest (is_end (item.One name ∷ item.Further name ∷ items) pieces kept rest d)
is_end _ _ _ _ (no_flag flags items pieces kept rest none d) = is_end items pieces kept rest d
is_end _ _ _ _ (flag_a flags items piece pieces kept rest is_so d) = one_taken piece pieces rest (is_end (item.AnyOrder (without_a flags) ∷ items) pieces kept rest d)
is_end _ _ _ _ (flag_b flags items piece pieces kept rest is_so d) = one_taken piece pieces rest (is_end (item.AnyOrder (without_b flags) ∷ items) pieces kept rest d)
is_end _ _ _ _ (flag_c flags items piece pieces kept rest is_so d) = one_taken piece pieces rest (is_end (item.AnyOrder (without_c flags) ∷ items) pieces kept rest d)

end_length : (rest pieces : List Piece) → IsEndOf rest pieces → length rest ≤ length pieces
end_length rest pieces (taken, (within, same)) =
    let long : length rest ≡ length (drop taken pieces) = ap length same in
    let short = length-drop taken pieces in
    omega arith

pub takes_one : (name : Name) (items : List Item) (pieces : List Piece) (kept : List Kept) (rest : List Piece) → Derives (item.One name ∷ items) pieces kept rest → length rest < length pieces
takes_one _ _ _ _ _ (one name production items piece pieces kept rest among stands d) =
    let at_most : length rest ≤ length pieces = end_length rest pieces (is_end (production.behind ++ items) pieces kept rest d) in
    omega arith
