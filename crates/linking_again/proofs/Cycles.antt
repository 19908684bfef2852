-- There is one list of the call cycles of a program.
use Rattle.std.proofs.Common.{◌≡◌, ◌∙◌, ℕ, suc, Bool, true, false, List, [], ◌∷◌, Option, None, Some, length, map, refl, sym, arith}
use Rattle.std.specs.Prelude.{slice_get}
use Rattle.std.proofs.lemmas.Bool.{false≢true}
use Rattle.std.proofs.lemmas.Option.{none-some}
use Rattle.ir_syntax.specs.declared.symbol.Sym.{Sym}
use Rattle.ir_syntax.specs.declared.item.Item.{Item}
use Rattle.ir_syntax.specs.Symbols.{item_at}
use Rattle.ir_syntax.specs.Targets.{entry_at}
use Rattle.ir_syntax.specs.Programs.{ProgramData}
use Rattle.fold_facts.proofs.Lists.{some_is}
use Rattle.interface.specs.Asked.{AreCycles}
use Rattle.interface.proofs.Listed.{no_entry}

pub bool_same : (a b : Bool) → (a ≡ true → b ≡ true) → (b ≡ true → a ≡ true) → a ≡ b
bool_same true true f g = refl
bool_same true false f g = absurd (false≢true (f refl))
bool_same false true f g = absurd (false≢true (g refl))
bool_same false false f g = refl

row_same : (xs ys : List Bool) → length xs ≡ length ys → ((j : ℕ) (x y : Bool) → slice_get xs j ≡ Some x → slice_get ys j ≡ Some y → x ≡ y) → xs ≡ ys
row_same [] [] long each = refl
row_same [] (y ∷ ys) long each = absurd (omega (arith, long))
row_same (x ∷ xs) [] long each = absurd (omega (arith, long))
row_same (x ∷ xs) (y ∷ ys) long each =
    let one : x ≡ y = each 0 x y refl refl in
    let rest : xs ≡ ys = row_same xs ys (omega (arith, long)) (λ j u v at too. each (suc j) u v at too) in
    λ i. one i ∷ rest i

rows_same : (xs ys : List (List Bool)) → map length xs ≡ map length ys → ((i j : ℕ) (x y : Bool) → entry_at xs (record { «module» = i; item = j }) ≡ Some x → entry_at ys (record { «module» = i; item = j }) ≡ Some y → x ≡ y) → xs ≡ ys
rows_same [] [] long each = refl
rows_same [] (y ∷ ys) long each = cc
rows_same (x ∷ xs) [] long each = cc
rows_same (x ∷ xs) (y ∷ ys) long each =
    let one : x ≡ y = row_same x y (head_is long) (λ j u v at too. each 0 j u v at too) in
    let rest : xs ≡ ys = rows_same xs ys (tail_is long) (λ i j u v at too. each (suc i) j u v at too) in
    λ i. one i ∷ rest i
  where
    head_is : (length x ∷ map length xs) ≡ (length y ∷ map length ys) → length x ≡ length y
    head_is e = cc

    tail_is : (length x ∷ map length xs) ≡ (length y ∷ map length ys) → map length xs ≡ map length ys
    tail_is e = cc

pub cycles_are_one : (p : ProgramData) (one other : List (List Bool)) → AreCycles p one → AreCycles p other → one ≡ other
cycles_are_one p one other h g = rows_same one other (h.lengths ∙ sym g.lengths) (λ i j x y at too. by (record { «module» = i; item = j }) x y at too (item_at p.modules (record { «module» = i; item = j })) refl)
  where
    by : (symbol : Sym) (x y : Bool) → entry_at one symbol ≡ Some x → entry_at other symbol ≡ Some y → (o : Option Item) → item_at p.modules symbol ≡ o → x ≡ y
    by symbol x y at too None e = absurd (none-some x (sym (no_entry one p.modules symbol h.lengths e) ∙ at))
    by symbol x y at too (Some found) e =
        let a = h.each symbol found e in
        let b = g.each symbol found e in
        let x_is : a.entry ≡ x = some_is (sym a.stands ∙ at) in
        let y_is : b.entry ≡ y = some_is (sym b.stands ∙ too) in
        sym x_is ∙ bool_same a.entry b.entry (λ t. b.is.1 (a.is.0 t)) (λ t. a.is.1 (b.is.0 t)) ∙ y_is
