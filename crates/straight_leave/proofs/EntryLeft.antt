-- The entry is left under its own name, and no name of an intrinsic is made.
use Rattle.std.proofs.Common.{◌≡◌, ◌∙◌, ℕ, Bool, true, false, cond, not, ◌&&◌, ◌==◌, List, [], ◌∷◌, ◌++◌, length, Option, Some, None, slice_get, refl, ap, sym, subst, arith, if◌then◌else◌}
use Rattle.std.specs.Prelude.{codes}
use Rattle.std.specs.List.{filter_map, cons_option}
use Rattle.std.proofs.lemmas.Bool.Decides.{nat_tests}
use Rattle.std.proofs.lemmas.List.Elements.{All-nil, All-cons, recursion_from_All}
use Rattle.ir_syntax.specs.declared.item.Item.{Item}
use Rattle.ir_syntax.specs.declared.item.Item.TheVariants as item
use Rattle.ir_syntax.specs.FormedBody.{item_name}
use Rattle.ir_syntax.specs.FormedItem.{is_reserved}
use Rattle.demands.specs.Names.{are_unknown, items_text, copy_name}
use Rattle.demands.specs.Demands.{IsFunctionFor}
use Rattle.straight_plan.specs.declared.cut.Ask.{Ask}
use Rattle.straight_plan.specs.declared.cut.Cut.{Cut}
use Rattle.straight_plan.specs.Left.{IsPlan, asks_of, place_of, is_entry, at_unknown, left_params, left_name, left_func, left_item, left_items}
use Rattle.straight_leave.specs.Entries.{KeepsInterface, IsLeftOf}
use Rattle.straight_leave.specs.PlainNames.{HaveNoReservedNames}
use Rattle.straight_leave.proofs.LeftAt.{AllFunctions, cut_at, place_there, left_item_at}
use Rattle.straight_leave.proofs.LeftInsts.{each_at}
use Rattle.straight_leave.proofs.LeftNames.{left_name_free}
use Rattle.straight_leave.proofs.Plans.{function_for}
use Rattle.straight_leave.proofs.Unknowns.{at_unknown-all}

is_entry_itself : (start : Ask) → is_entry start start ≡ not (are_unknown start.pattern)
is_entry_itself start =
    let same : (start.place == start.place) ≡ true = grind (arith, nat_tests) in
    ap (λ b. b && not (are_unknown start.pattern)) same

own_name : (start : Ask) (name : List ℕ) → left_name start start name ≡ name
own_name start name = ap (λ b. if b then name else copy_name start.pattern name) (is_entry_itself start) ∙ by (are_unknown start.pattern)
  where
    by : (b : Bool) → ◌≡◌ {A = List ℕ} (if not b then name else cond b name (codes "(" ++ items_text start.pattern ++ codes ")" ++ name)) name
    by true = refl
    by false = refl

all_params : {X : Type 0} (start : Ask) (xs : List X) → length xs ≡ length start.pattern → left_params start start xs ≡ xs
all_params start xs len = ap (λ b. if b then xs else at_unknown start.pattern xs) (is_entry_itself start) ∙ by (are_unknown start.pattern) refl
  where
    by : (b : Bool) → are_unknown start.pattern ≡ b → (if not b then xs else at_unknown start.pattern xs) ≡ xs
    by true e = at_unknown-all start.pattern xs len e
    by false e = refl

pub entry_left : (items : List Item) (start : Ask) (plan : List Cut) → IsPlan items start plan → IsLeftOf (slice_get items start.place) (slice_get (left_items items start plan) (place_of (asks_of plan) start))
entry_left items start plan p =
    let functions : AllFunctions items plan = recursion_from_All (λ cut. IsFunctionFor cut.ask.pattern (slice_get items cut.ask.place)) plan p.functions in
    let k = place_of (asks_of plan) start in
    let found = cut_at plan k start (place_there (asks_of plan) start p.has_start) in
    let cut = found.0 in
    let one = function_for cut.ask.pattern (slice_get items cut.ask.place) (each_at (λ c. IsFunctionFor c.ask.pattern (slice_get items c.ask.place)) plan k cut functions found.1) in
    let f = one.0 in
    let old : slice_get items start.place ≡ Some (item.Func f) = ap (λ (a : Ask). slice_get items a.place) (sym found.2) ∙ one.1 in
    let new = left_item_at items start plan functions k cut f found.1 one.1 in
    let len : length f.params ≡ length start.pattern = one.2 ∙ ap (λ (a : Ask). length a.pattern) found.2 in
    let kept : KeepsInterface f (left_func items (asks_of plan) start cut f) =
    record {
      name = ap (λ (a : Ask). left_name start a f.name) found.2 ∙ own_name start f.name;
      linkage = refl;
      params = ap (λ (a : Ask). left_params start a f.params) found.2 ∙ all_params start f.params len;
    } in
    subst (λ (o : Option Item). IsLeftOf o (slice_get (left_items items start plan) k)) (sym old) (subst (λ (o : Option Item). IsLeftOf (Some (item.Func f)) o) (sym new) kept)

-- ---- names of intrinsics

free_from : (items : List Item) (asks : List Ask) (start : Ask) (plan : List Cut) → HaveNoReservedNames items → HaveNoReservedNames (filter_map (λ cut. left_item items asks start cut (slice_get items cut.ask.place)) plan)
free_from items asks start [] free = All-nil (λ (i : Item). is_reserved (item_name i) ≡ false)
free_from items asks start (cut ∷ plan) free = by (slice_get items cut.ask.place) refl (free_from items asks start plan free)
  where
    by : (o : Option Item) → slice_get items cut.ask.place ≡ o → HaveNoReservedNames (filter_map (λ c. left_item items asks start c (slice_get items c.ask.place)) plan)
        → HaveNoReservedNames (cons_option (left_item items asks start cut o) (filter_map (λ c. left_item items asks start c (slice_get items c.ask.place)) plan))
    by None e rest = rest
    by (Some (item.Var v)) e rest = rest
    by (Some (item.Func f)) e rest =
        let own = each_at (λ (i : Item). is_reserved (item_name i) ≡ false) items cut.ask.place (item.Func f) (recursion_from_All (λ (i : Item). is_reserved (item_name i) ≡ false) items free) e in
        All-cons (λ (i : Item). is_reserved (item_name i) ≡ false) (item.Func (left_func items asks start cut f)) (filter_map (λ c. left_item items asks start c (slice_get items c.ask.place)) plan)
        (left_name_free start cut.ask f.name own) rest

pub names_free : (items : List Item) (start : Ask) (plan : List Cut) → HaveNoReservedNames items → HaveNoReservedNames (left_items items start plan)
names_free items start plan free = free_from items (asks_of plan) start plan free
