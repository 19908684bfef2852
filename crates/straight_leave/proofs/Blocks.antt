-- A block from its parts, and loops that add what is left of each element.
use Rattle.std.proofs.Common.{◌≡◌, ◌∙◌, ℕ, ◌+◌, ◌<◌, Bool, List, [], ◌∷◌, ◌++◌, length, get_or, drop, map, Option, Some, None, ap, sym, append_assoc}
use Rattle.std.specs.List.{filter_map, cons_option}
use Rattle.std.proofs.lemmas.List.{drop_more}
use Rattle.ir_types.specs.declared.scalar.Known.{Known}
use Rattle.ir_syntax.specs.declared.body.Inst.{Inst}
use Rattle.ir_syntax.specs.declared.body.Block.{Block}
use Rattle.ir_syntax.specs.declared.item.Item.{Item}
use Rattle.straight_plan.specs.declared.fact.Fact.{Fact}
use Rattle.straight_plan.specs.declared.cut.Ask.{Ask}
use Rattle.straight_plan.specs.declared.cut.Cut.{Cut}
use Rattle.straight_plan.specs.Residual.{put, residual}
use Rattle.straight_leave.specs.Numbers.{numbered, numbers_of}
use Rattle.straight_leave.specs.Rewritten.{new_inst, new_term, new_block}

pub block_from_parts : (items : List Item) (find : Ask → ℕ) (whole : Bool) (cut : Cut) (block left : Block) (pattern : List Known) (facts : List Fact) (insts : List Inst) (numbers : List ℕ)
    → pattern ≡ cut.ask.pattern → facts ≡ cut.facts → insts ≡ block.insts → numbers ≡ numbers_of cut.facts block.insts → left.phis ≡ block.phis
    → left.insts ≡ map (new_inst items find (numbered whole pattern numbers)) (residual pattern facts insts)
    → left.term ≡ new_term (λ x. numbered whole pattern numbers (put pattern facts x)) block.term → left ≡ new_block items find whole cut block
block_from_parts items find whole cut block left pattern facts insts numbers p f s n phis body end =
    let body' = body ∙ (λ i. map (new_inst items find (numbered whole (p i) (n i))) (residual (p i) (f i) (s i))) in
    let end' = end ∙ (λ i. new_term (λ x. numbered whole (p i) (n i) (put (p i) (f i) x)) block.term) in
    λ i. record { phis = phis i; insts = body' i; term = end' i }

pub mapped_more : {X Y : Type 0} (f : X → Y) (xs : List X) (k : ℕ) (x : X) (y : Y) (done new : List Y) → k < length xs → x ≡ get_or xs k x → y ≡ f x → new ≡ done ++ y ∷ []
    → done ++ map f (drop k xs) ≡ map f xs → new ++ map f (drop (k + 1) xs) ≡ map f xs
mapped_more f xs k x y done new within read is grown h =
    let next : drop k xs ≡ x ∷ drop (k + 1) xs = drop_more xs k x within ∙ ap (λ z. z ∷ drop (k + 1) xs) (sym read) in
    ap (λ ys. ys ++ map f (drop (k + 1) xs)) (grown ∙ ap (λ z. done ++ z ∷ []) is) ∙ append_assoc done (f x ∷ []) (map f (drop (k + 1) xs)) ∙ ap (λ ys. done ++ map f ys) (sym next) ∙ h

-- an element that gives nothing, and one that gives y
pub filtered_none : {X Y : Type 0} (f : X → Option Y) (xs : List X) (k : ℕ) (x : X) (done : List Y) → k < length xs → x ≡ get_or xs k x → f x ≡ None
    → done ++ filter_map f (drop k xs) ≡ filter_map f xs → done ++ filter_map f (drop (k + 1) xs) ≡ filter_map f xs
filtered_none f xs k x done within read none h =
    let next : drop k xs ≡ x ∷ drop (k + 1) xs = drop_more xs k x within ∙ ap (λ z. z ∷ drop (k + 1) xs) (sym read) in
    ap (λ o. done ++ cons_option o (filter_map f (drop (k + 1) xs))) (sym none) ∙ ap (λ ys. done ++ filter_map f ys) (sym next) ∙ h

pub filtered_some : {X Y : Type 0} (f : X → Option Y) (xs : List X) (k : ℕ) (x : X) (y : Y) (done new : List Y) → k < length xs → x ≡ get_or xs k x → f x ≡ Some y → new ≡ done ++ y ∷ []
    → done ++ filter_map f (drop k xs) ≡ filter_map f xs → new ++ filter_map f (drop (k + 1) xs) ≡ filter_map f xs
filtered_some f xs k x y done new within read some grown h =
    let next : drop k xs ≡ x ∷ drop (k + 1) xs = drop_more xs k x within ∙ ap (λ z. z ∷ drop (k + 1) xs) (sym read) in
    ap (λ ys. ys ++ filter_map f (drop (k + 1) xs)) grown ∙ append_assoc done (y ∷ []) (filter_map f (drop (k + 1) xs))
    ∙ ap (λ o. done ++ cons_option o (filter_map f (drop (k + 1) xs))) (sym some) ∙ ap (λ ys. done ++ filter_map f ys) (sym next) ∙ h
