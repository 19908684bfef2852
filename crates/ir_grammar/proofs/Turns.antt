-- The first production that a token begins, of two lists and of one with more behind each.
use Rattle.std.proofs.Common.{◌≡◌, Bool, true, false, cond, List, [], ◌∷◌, ◌++◌, Some, None, refl, ap, ◌∙◌}
use Rattle.std.specs.Option.{option_map}
use Rattle.ir_grammar.specs.declared.shape.Shape.{Shape}
use Rattle.ir_grammar.specs.declared.grammar.Keep.{Keep}
use Rattle.ir_grammar.specs.declared.grammar.Item.{Item}
use Rattle.ir_grammar.specs.Terminals.{stands_for}
use Rattle.ir_grammar.specs.Items.{Production, each_then}
use Rattle.ir_grammar.specs.Mirrors.Walk.{Turn, first_of}

abbrev pub or_else : Turn → Turn → Turn
or_else None other = other
or_else (Some turn) other = Some turn

abbrev pub behind_turn : List Item → Turn → Turn
behind_turn more turn = option_map (λ (t : Keep × List Item). (t.0, t.1 ++ more)) turn

by_first : (b : Bool) (turn : Keep × List Item) (one other : Turn) → cond b (Some turn) (or_else one other) ≡ or_else (cond b (Some turn) one) other
by_first true turn one other = refl
by_first false turn one other = refl

pub first_of-append : (ps qs : List Production) (shape : Shape) → first_of (ps ++ qs) shape ≡ or_else (first_of ps shape) (first_of qs shape)
first_of-append [] qs shape = refl
first_of-append (p ∷ ps) qs shape =
    ap (cond (stands_for p.first shape) (Some (p.keep, p.behind))) (first_of-append ps qs shape)
    ∙ by_first (stands_for p.first shape) (p.keep, p.behind) (first_of ps shape) (first_of qs shape)

by_more : (b : Bool) (more : List Item) (turn : Keep × List Item) (one : Turn) →
    cond b (Some (turn.0, turn.1 ++ more)) (behind_turn more one) ≡ behind_turn more (cond b (Some turn) one)
by_more true more turn one = refl
by_more false more turn one = refl

pub first_of-then : (more : List Item) (ps : List Production) (shape : Shape) → first_of (each_then more ps) shape ≡ behind_turn more (first_of ps shape)
first_of-then more [] shape = refl
first_of-then more (p ∷ ps) shape =
    ap (cond (stands_for p.first shape) (Some (p.keep, p.behind ++ more))) (first_of-then more ps shape)
    ∙ by_more (stands_for p.first shape) more (p.keep, p.behind) (first_of ps shape)
