-- Of each nonterminal at most one production begins with a token of a shape, and that one is its turn.
use Rattle.std.proofs.Common.{◌≡◌, ℕ, suc, Bool, true, false, ◌&&◌, ◌||◌, not, cond, ltb, List, [], ◌∷◌, Some, refl, ap, sym, subst, arith}
use Rattle.std.specs.List.{list_all}
use Rattle.std.proofs.lemmas.Bool.{and_parts}
use Rattle.ir_grammar.specs.declared.shape.Shape.{Shape}
use Rattle.ir_grammar.specs.declared.grammar.Terminal.{Terminal}
use Rattle.ir_grammar.specs.declared.grammar.Terminal.TheVariants as a
use Rattle.ir_grammar.specs.declared.grammar.Keep.{Keep}
use Rattle.ir_grammar.specs.declared.grammar.Item.{Item}
use Rattle.ir_grammar.specs.declared.grammar.Name.{Name}
use Rattle.ir_grammar.specs.declared.grammar.Name.TheVariants as the
use Rattle.ir_grammar.specs.Terminals.{stands_for}
use Rattle.ir_grammar.specs.Items.{Production, keeps}
use Rattle.ir_grammar.specs.Constants.{address}
use Rattle.ir_grammar.specs.Grammar.{productions}
use Rattle.ir_grammar.specs.Derives.{IsOneOf, here, there}
use Rattle.ir_grammar.specs.Mirrors.Walk.{Turn, first_of, turn_at}
use Rattle.ir_grammar.proofs.AllShapes.{same_shape, is_everywhere, everywhere}

pub false_not_true : false ≡ true → ⊥
false_not_true e = grind (arith, e)

-- the first is one shape, which the other doesn't stand for
abbrev pub is_outside : Terminal → Terminal → Bool
is_outside (a.Only shape) terminal = not (stands_for terminal shape)
is_outside _ terminal = false

-- no token is both
abbrev pub are_apart : Terminal → Terminal → Bool
are_apart one other =
    is_outside one other || (is_outside other one || is_everywhere (λ shape. not (stands_for one shape && stands_for other shape)))

pub not_both : (b : Bool) → not b ≡ true → b ≡ true → ⊥
not_both true isnt is_so = false_not_true isnt
not_both false isnt is_so = false_not_true is_so

outside : (one other : Terminal) (shape : Shape) → is_outside one other ≡ true → stands_for one shape ≡ true → stands_for other shape ≡ true → ⊥
outside (a.Only only) other shape apart stands_one stands_other =
    not_both (stands_for other only) apart (subst (λ s. stands_for other s ≡ true) (sym (same_shape only shape stands_one)) stands_other)
outside _ other shape apart stands_one stands_other = false_not_true apart

by_cases : (a b c : Bool) → (a || (b || c)) ≡ true → (a ≡ true → ⊥) → (b ≡ true → ⊥) → (c ≡ true → ⊥) → ⊥
by_cases true b c e not_a not_b not_c = not_a refl
by_cases false true c e not_a not_b not_c = not_b refl
by_cases false false c e not_a not_b not_c = not_c e

both : (a b : Bool) → a ≡ true → b ≡ true → not (a && b) ≡ true → ⊥
both true b is_a is_b isnt = not_both b isnt is_b
both false b is_a is_b isnt = false_not_true is_a

apart : (one other : Terminal) (shape : Shape) → are_apart one other ≡ true → stands_for one shape ≡ true → stands_for other shape ≡ true → ⊥
apart one other shape apart_so stands_one stands_other =
    by_cases (is_outside one other) (is_outside other one) (is_everywhere (λ s. not (stands_for one s && stands_for other s))) apart_so
    (λ e. outside one other shape e stands_one stands_other)
    (λ e. outside other one shape e stands_other stands_one)
    (λ e. both (stands_for one shape) (stands_for other shape) stands_one stands_other (everywhere (λ s. not (stands_for one s && stands_for other s)) e shape))

-- a production is apart from all of these, and all of these are from each other
abbrev pub is_apart_from : List Production → Production → Bool
is_apart_from productions production = list_all (λ other. are_apart production.first other.first) productions

abbrev pub all_apart : List Production → Bool
all_apart [] = true
all_apart (production ∷ more) = is_apart_from more production && all_apart more

begins_alone : (other production : Production) (more : List Production) (shape : Shape) →
    is_apart_from more other ≡ true → IsOneOf production more → stands_for other.first shape ≡ true → stands_for production.first shape ≡ true → ⊥
begins_alone other production _ shape apart_so (here more) stands_other stands =
    apart other.first production.first shape (and_parts _ _ apart_so).0 stands_other stands
begins_alone other production _ shape apart_so (there first more among) stands_other stands =
    begins_alone other production more shape (and_parts _ _ apart_so).1 among stands_other stands

behind_other : (b : Bool) (turn : Keep × List Item) (rest answer : Turn) → (b ≡ true → ⊥) → rest ≡ answer → cond b (Some turn) rest ≡ answer
behind_other true turn rest answer never same = absurd (never refl)
behind_other false turn rest answer never same = same

first_among : (production : Production) (ps : List Production) (shape : Shape) →
    all_apart ps ≡ true → IsOneOf production ps → stands_for production.first shape ≡ true → first_of ps shape ≡ Some (production.keep, production.behind)
first_among production _ shape apart_so (here more) stands = ap (λ b. cond b (Some (production.keep, production.behind)) (first_of more shape)) stands
first_among production _ shape apart_so (there other more among) stands =
    let parts = and_parts _ _ apart_so in
    behind_other (stands_for other.first shape) (other.keep, other.behind) (first_of more shape) (Some (production.keep, production.behind))
    (λ stands_other. begins_alone other production more shape parts.0 among stands_other stands)
    (first_among production more shape parts.1 among stands)

base_apart : (b : Bool) (count : ℕ) → all_apart (keeps a.AnyAt [] ∷ cond b (address count ∷ []) []) ≡ true
base_apart true count = refl
base_apart false count = refl

each_apart : (name : Name) → all_apart (productions name) ≡ true
each_apart (the.Base count) = base_apart (ltb count 64) (suc count)
each_apart (the.Lines true) = refl
each_apart (the.NamedLine true) = refl
each_apart _ = refl

-- a production that begins with a token of the shape is the turn
pub begun_turn : (name : Name) (production : Production) (shape : Shape) →
    IsOneOf production (productions name) → stands_for production.first shape ≡ true → turn_at name shape ≡ Some (production.keep, production.behind)
begun_turn name production shape among stands = first_among production (productions name) shape (each_apart name) among stands
