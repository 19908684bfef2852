-- The text of items.
use Rattle.std.proofs.Common.{◌≡◌, ℕ, ◌-◌, ◌≤◌, List, [], ◌∷◌, ◌++◌, length, get_or, take, drop, ◌∙◌, flat_map, ap, sym, arith}
use Rattle.std.proofs.Math.Seq.{take-length}
use Rattle.std.proofs.lemmas.List.{append-nil}
use Rattle.ir_types.specs.declared.scalar.Known.{Known}
use Rattle.ir_types.specs.declared.scalar.Known.TheVariants.{Unknown}
use Rattle.demands.specs.Names.{item_text, items_text}

-- each item after a comma
abbrev pub more_text : List Known → List ℕ
more_text items = flat_map (λ item. 44 ∷ item_text item) items

pub items_text-cons : (item : Known) (more : List Known) → items_text (item ∷ more) ≡ item_text item ++ more_text more
items_text-cons item [] = sym (append-nil (item_text item))
items_text-cons item (next ∷ more) = ap (λ (rest : List ℕ). item_text item ++ (44 ∷ rest)) (items_text-cons next more)

-- the first item and the others, as a pattern of a slice has them
pub items_text-split : (items : List Known) → 1 ≤ length items → item_text (get_or items 0 Unknown) ++ more_text (take (length items - 1) (drop 1 items)) ≡ items_text items
items_text-split [] h = absurd (omega arith)
items_text-split (item ∷ more) h =
    let n : length (item ∷ more) - 1 ≡ length more = omega arith in
    ap (λ (rest : List Known). item_text item ++ more_text rest) (ap (λ (n : ℕ). take n more) n ∙ take-length more) ∙ sym (items_text-cons item more)
