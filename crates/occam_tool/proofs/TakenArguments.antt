-- The entry takes its arguments.
use Rattle.std.proofs.Common.{arith, ◌≡◌, ◌∙◌, ℕ, List, [], ◌∷◌, length, slice_get, Option, Some, IsTrue, refl, sym, ap, subst}
use Rattle.std.specs.Prelude.{IfSome, IsSome}
use Rattle.std.specs.List.{AllZip, AllByRecursion}
use Rattle.std.proofs.lemmas.List.Elements.{recursion_from_All}
use Rattle.ir_types.specs.declared.scalar.Known.{Known}
use Rattle.ir_types.specs.declared.scalar.Known.TheVariants.{Unknown, Num, Null}
use Rattle.ir_syntax.specs.declared.item.Param.{Param}
use Rattle.ir_syntax.specs.declared.item.Func.{Func}
use Rattle.ir_syntax.specs.declared.item.Item.TheVariants as item
use Rattle.ir_syntax.specs.declared.item.Module.{Module}
use Rattle.ir_syntax.specs.Straight.{IsStraight, IsStraightItem, IsStraightFunc, word_param, straight_body}
use Rattle.ir_syntax.specs.Suits.{is_number_of}
use Rattle.demands.specs.Demands.{IsFunctionFor, IsKnownOf}
use Rattle.straight_plan.specs.Asked.{program_items}
use Rattle.name_table.specs.Places.{place_among}
use Rattle.ir_writer.specs.Modules.{item_names}
use Rattle.straight_reader.specs.Entered.{HasEntry}
use Rattle.occam_tool.specs.Entering.{IsKnownWord, AreWords}

word_known : (p : Param) (known : Known) → p ≡ word_param → IsKnownWord known → IsKnownOf p known
word_known p Unknown e h = tt
word_known p (Num n) e h = subst (λ (x : Param). IsTrue (is_number_of x.ty n)) (sym e) (grind arith)
word_known p Null e h = absurd h

takes_list : (params : List Param) (args : List Known) → AllByRecursion (λ p. p ≡ word_param) params → AllByRecursion IsKnownWord args → length params ≡ length args → AllZip IsKnownOf params args
takes_list [] [] ps ks e = tt
takes_list [] (k ∷ ks) ps h e = absurd (omega (arith, e))
takes_list (p ∷ ps) [] h ks e = absurd (omega (arith, e))
takes_list (p ∷ ps) (k ∷ ks) h g e = (word_known p k h.0 g.0, takes_list ps ks h.1 g.1 (omega (arith, e)))

some_of : {X : Type 0} (o : Option X) (x : X) → o ≡ Some x → IsSome o
some_of o x e = subst IsSome (sym e) refl

-- the straight function at a place
pub func_at : (m : Module) (place : ℕ) (f : Func) → IsStraight m → slice_get m.items place ≡ Some (item.Func f) → IsStraightFunc m.items place f
func_at m place f straight there = subst (λ o. IfSome o (IsStraightItem m.items place)) there (straight.each place)

pub takes_entry : (m : Module) (entry : List ℕ) (args : List Known) (h : HasEntry m entry (length args)) → IsStraight m → AreWords args → IsFunctionFor args (slice_get m.items h.place)
takes_entry m entry args h straight words =
    let f = func_at m h.place h.func straight h.stands in
    subst (IsFunctionFor args) (sym h.stands) (
      some_of h.func.body (straight_body f.insts f.value) f.body,
      takes_list h.func.params args (recursion_from_All (λ p. p ≡ word_param) h.func.params f.words) (recursion_from_All IsKnownWord args words) h.takes,
    )

one_place : (p q : ℕ) (o : Option ℕ) → o ≡ Some p → o ≡ Some q → p ≡ q
one_place p q o e d = let both : Some p ≡ Some q = sym e ∙ d in cc

-- the same at the place that was found, in a program of the module
pub takes_at : (m : Module) (entry : List ℕ) (args : List Known) → HasEntry m entry (length args) → IsStraight m → AreWords args → (place : ℕ) (names : List (List ℕ)) (answer : Option ℕ) → answer ≡ Some place
    → answer ≡ place_among entry names → names ≡ item_names m → (modules : List Module) → modules ≡ m ∷ [] → IsFunctionFor args (slice_get (program_items modules) place)
takes_at m entry args h straight words place names answer found is same modules e =
    let here : h.place ≡ place = one_place h.place place (place_among entry (item_names m)) h.named (sym (ap (place_among entry) same) ∙ sym is ∙ found) in
    subst (λ ms. IsFunctionFor args (slice_get (program_items ms) place)) (sym e) (subst (λ p. IsFunctionFor args (slice_get m.items p)) here (takes_entry m entry args h straight words))
