-- What is left has the instructions and terminators of the residual bodies.
use Rattle.std.proofs.Common.{arith, ◌≡◌, ◌∙◌, ℕ, suc, ◌+◌, List, [], ◌∷◌, length, slice_get, Option, Some, None, refl, sym, ap}
use Rattle.std.specs.Prelude.{sum_by, option_map}
use Rattle.std.specs.List.{AllByRecursion, cons_option, filter_map}
use Rattle.std.proofs.lemmas.List.{length-map, append-nil}
use Rattle.std.proofs.lemmas.List.Sums.{sum_by-cons}
use Rattle.std.proofs.lemmas.List.Elements.{recursion_from_All}
use Rattle.ir_syntax.specs.declared.item.Func.{Func}
use Rattle.ir_syntax.specs.declared.item.Item.{Item}
use Rattle.ir_syntax.specs.declared.item.Item.TheVariants as item
use Rattle.ir_syntax.specs.declared.item.Module.{Module}
use Rattle.ir_syntax.specs.declared.constant.Operand.{Operand}
use Rattle.ir_syntax.specs.declared.body.Inst.{Inst}
use Rattle.ir_syntax.specs.declared.body.Body.{Body}
use Rattle.ir_syntax.specs.Results.{count}
use Rattle.ir_syntax.specs.Straight.{IsStraight, IsStraightFunc, straight_body}
use Rattle.demands.specs.Demands.{IsFunctionFor}
use Rattle.straight_form.specs.Counts.{item_count, body_count, instruction_count}
use Rattle.straight_plan.specs.declared.cut.Ask.{Ask}
use Rattle.straight_plan.specs.declared.cut.Cut.{Cut}
use Rattle.straight_plan.specs.Asked.{insts_at, body_insts}
use Rattle.straight_plan.specs.Residual.{residual}
use Rattle.straight_plan.specs.Left.{IsPlan, asks_of, left_item, left_func, left_body, left_from, left_inst, left_module, size_of}
use Rattle.occam_tool.proofs.TakenArguments.{func_at}

cons_option_sum : (o : Option Item) (i : Item) (is : List Item) → o ≡ Some i → sum_by item_count (cons_option o is) ≡ item_count i + sum_by item_count is
cons_option_sum o i is e = ap (λ x. sum_by item_count (cons_option x is)) e ∙ sum_by-cons item_count i is

-- what is left of a function has the instructions of its residual body, and the terminator
count_body : (items : List Item) (start : Ask) (asks : List Ask) (cut : Cut) (body : Body) (insts : List Inst) (value : Operand) → body ≡ straight_body insts value
    → count (left_body items asks start cut body) ≡ suc (length (residual cut.ask.pattern cut.facts insts))
count_body items start asks cut body insts value e =
    let left = left_body items asks start cut (straight_body insts value) in
    let whole : count left ≡ length (left_from items asks start cut insts 0 insts) + 1 = omega arith in
    ap (λ b. count (left_body items asks start cut b)) e ∙ whole ∙ (let n : length (left_from items asks start cut insts 0 insts) ≡ length (residual cut.ask.pattern cut.facts insts) = length-map (residual cut.ask.pattern cut.facts insts) (left_inst items asks start cut insts) in omega (arith, n))

insts_of_body : (body : Body) (insts : List Inst) (value : Operand) → body ≡ straight_body insts value → body_insts (Some body) ≡ insts
insts_of_body body insts value e = ap (λ b. body_insts (Some b)) e ∙ append-nil insts

count_func : (items : List Item) (start : Ask) (asks : List Ask) (cut : Cut) (f : Func) (place : ℕ) → IsStraightFunc items place f
    → item_count (item.Func (left_func items asks start cut f)) ≡ suc (length (residual cut.ask.pattern cut.facts (insts_at (Some (item.Func f)))))
count_func items start asks cut f place h =
    let body = straight_body h.insts h.value in
    ap (λ b. body_count (option_map (left_body items asks start cut) b)) h.body ∙ count_body items start asks cut body h.insts h.value refl
    ∙ ap (λ is. suc (length (residual cut.ask.pattern cut.facts is))) (sym (ap body_insts h.body ∙ append-nil h.insts))

-- an item of the plan: what is there is a function
count_item : (m : Module) (start : Ask) (asks : List Ask) (cut : Cut) (o : Option Item) (is : List Item) → IsStraight m → slice_get m.items cut.ask.place ≡ o → IsFunctionFor cut.ask.pattern o
    → sum_by item_count (cons_option (left_item m.items asks start cut o) is) ≡ suc (length (residual cut.ask.pattern cut.facts (insts_at o))) + sum_by item_count is
count_item m start asks cut None is straight e h = absurd h
count_item m start asks cut (Some (item.Var v)) is straight e h = absurd h
count_item m start asks cut (Some (item.Func f)) is straight e h =
    sum_by-cons item_count (item.Func (left_func m.items asks start cut f)) is
    ∙ ap (λ n. n + sum_by item_count is) (count_func m.items start asks cut f cut.ask.place (func_at m cut.ask.place f straight e))

count_plan : (m : Module) (start : Ask) (asks : List Ask) (plan : List Cut) → IsStraight m → AllByRecursion (λ (cut : Cut). IsFunctionFor cut.ask.pattern (slice_get m.items cut.ask.place)) plan
    → sum_by item_count (filter_map (λ (cut : Cut). left_item m.items asks start cut (slice_get m.items cut.ask.place)) plan) ≡ sum_by (size_of m.items) plan
count_plan m start asks [] straight h = refl
count_plan m start asks (cut ∷ plan) straight h =
    count_item m start asks cut (slice_get m.items cut.ask.place) (filter_map (λ (c : Cut). left_item m.items asks start c (slice_get m.items c.ask.place)) plan) straight refl h.0
    ∙ ap (λ n. size_of m.items cut + n) (count_plan m start asks plan straight h.1) ∙ sym (sum_by-cons (size_of m.items) cut plan)

-- what is left has as many instructions and terminators as the residual bodies of the plan
pub count_left : (m : Module) (start : Ask) (plan : List Cut) → IsStraight m → IsPlan m.items start plan → instruction_count (left_module m start plan) ≡ sum_by (size_of m.items) plan
count_left m start plan straight is =
    count_plan m start (asks_of plan) plan straight (recursion_from_All (λ (cut : Cut). IsFunctionFor cut.ask.pattern (slice_get m.items cut.ask.place)) plan is.functions)
