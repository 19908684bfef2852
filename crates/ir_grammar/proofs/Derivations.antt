-- What a nonterminal derives of the first tokens, and what the walk takes of them.
use Rattle.std.proofs.Common.{◌≡◌, ◌≤◌, ◌+◌, ◌-◌, ◌<◌, ℕ, List, [], ◌∷◌, length, drop, Some, None, ap, sym, subst, ◌∙◌, arith, length-drop}
use Rattle.ir_grammar.specs.declared.grammar.Name.{Name}
use Rattle.ir_grammar.specs.declared.grammar.Item.TheVariants as item
use Rattle.ir_grammar.specs.Tokens.{Piece, Kept}
use Rattle.ir_grammar.specs.Derives.{IsDerived, IsNotDerived}
use Rattle.ir_grammar.specs.Mirrors.Walk.{walk}
use Rattle.ir_grammar.proofs.Sound.{walk_derives, none_not_some}
use Rattle.ir_grammar.proofs.Complete.{name_walks, same_reading}
use Rattle.ir_grammar.proofs.Within.{takes_one}

same_count : (pieces : List Piece) (taken left : ℕ) → taken ≤ length pieces → left ≤ length pieces → drop taken pieces ≡ drop left pieces → taken ≡ left
same_count pieces taken left within inside e =
    let lengths : length (drop taken pieces) ≡ length (drop left pieces) = ap (length {A = Piece}) e in
    omega (arith, lengths, length-drop taken pieces, length-drop left pieces, within, inside)

pub one_way : (start : Name) (pieces : List Piece) (kept others : List Kept) (taken left : ℕ) → IsDerived start pieces kept taken → IsDerived start pieces others left → (kept ≡ others) × (taken ≡ left)
one_way start pieces kept others taken left d e =
    let same = same_reading start pieces kept (drop taken pieces) others (drop left pieces) d.1 e.1 in
    (same.0, same_count pieces taken left d.0 e.0 same.1)

pub takes_some : (start : Name) (pieces : List Piece) (kept : List Kept) (taken : ℕ) → IsDerived start pieces kept taken → 0 < taken
takes_some start pieces kept taken d = omega (arith, takes_one start [] pieces kept (drop taken pieces) d.1, length-drop taken pieces, d.0)

-- what the walk finds is derived, and where it finds nothing, nothing is
pub found_is_derived : (start : Name) (pieces : List Piece) (kept : List Kept) (taken : ℕ) → walk (item.One start ∷ []) pieces ≡ Some (kept, taken) → IsDerived start pieces kept taken
found_is_derived start pieces kept taken e = walk_derives pieces (item.One start ∷ []) (kept, taken) e

pub none_is_derived : (start : Name) (pieces : List Piece) → walk (item.One start ∷ []) pieces ≡ None → IsNotDerived start pieces
none_is_derived start pieces none kept taken d =
    let walks = name_walks start pieces kept (drop taken pieces) d.1 in
    none_not_some (sym none ∙ walks.1.0)

pub derived_is_found : (start : Name) (pieces : List Piece) (kept : List Kept) (taken : ℕ) → IsDerived start pieces kept taken → walk (item.One start ∷ []) pieces ≡ Some (kept, taken)
derived_is_found start pieces kept taken d =
    let walks = name_walks start pieces kept (drop taken pieces) d.1 in
    let same = one_way start pieces kept kept taken walks.0 d (found_is_derived start pieces kept walks.0 walks.1.0) in
    walks.1.0 ∙ ap (λ n. Some (kept, n)) (sym same.1)

-- the same, where the place behind it is counted from the first token of all
pub found_from : (start : Name) (pieces : List Piece) (kept : List Kept) (from count : ℕ) → walk (item.One start ∷ []) pieces ≡ Some (kept, count) → IsDerived start pieces kept (from + count - from)
found_from start pieces kept from count e =
    let same : count ≡ from + count - from = omega arith in
    subst (IsDerived start pieces kept) same (found_is_derived start pieces kept count e)
