-- What is left of a straight module is straight.
use Rattle.std.proofs.Common.{◌≡◌, ◌≢◌, ◌↔◌, ◌∙◌, ℕ, ◌^◌, ◌<◌, ◌≤◌, Bool, true, false, not, ◌&&◌, ◌==◌, List, [], length, get_or, map, flat_map, Option, Some, None, slice_get, option_map, All, Contains, AllPairs, IfSome, refl, ap, sym, subst, arith, inl, inr, if◌then◌else◌}
use Rattle.std.specs.List.{list_any, AllZip}
use Rattle.std.specs.declared.cmp.Ordering.TheVariants.{Less, Equal}
use Rattle.std.proofs.lemmas.Bool.{cases_lt}
use Rattle.std.proofs.lemmas.Bool.Decides.{nat_tests}
use Rattle.std.proofs.lemmas.List.{length-map, get_or-map, append-nil}
use Rattle.std.proofs.lemmas.List.Elements.{recursion_from_All}
use Rattle.ir_syntax.specs.declared.body.Inst.{Inst}
use Rattle.ir_syntax.specs.declared.item.Param.{Param}
use Rattle.ir_syntax.specs.declared.item.Func.{Func}
use Rattle.ir_syntax.specs.declared.item.Item.{Item}
use Rattle.ir_syntax.specs.declared.item.Item.TheVariants as item
use Rattle.ir_syntax.specs.declared.item.Module.{Module}
use Rattle.ir_syntax.specs.FormedBody.{item_name}
use Rattle.ir_syntax.specs.Straight.{word_param, IsWordOperand, IsStraightFunc, IsStraightItem, IsStraight}
use Rattle.demands.specs.declared.demand.Demand.{Demand}
use Rattle.demands.specs.Order.{demand_order}
use Rattle.demands.specs.Names.{are_unknown, copy_name}
use Rattle.demands.specs.Demands.{IsKnownOf, IsFunctionFor}
use Rattle.straight_plan.specs.declared.cut.Ask.{Ask}
use Rattle.straight_plan.specs.declared.cut.Cut.{Cut}
use Rattle.straight_plan.specs.Folding.{IsClosed}
use Rattle.straight_plan.specs.Residual.{residual}
use Rattle.straight_plan.specs.Asked.{demand_of, insts_at, body_insts, is_copied, needs, asks, names_place}
use Rattle.straight_plan.specs.Left.{IsPlan, asks_of, is_entry, at_unknown, left_params, left_operand, left_inst, left_from, left_body, left_name, left_func, left_items, left_module}
use Rattle.straight_leave.specs.Entries.{IsNotNamed}
use Rattle.straight_leave.specs.PlainNames.{HaveNoCopyNames, begins_as_copy}
use Rattle.straight_leave.proofs.LeftAt.{AllFunctions, get_of_within, get_or_of_get, get_past, ask_at, length-left_items, left_item_at}
use Rattle.straight_leave.proofs.LeftInsts.{each_at, none_at, operand_left, insts_left}
use Rattle.straight_leave.proofs.LeftNames.{NamesApart, words_of_params, left_name_is, copies_apart, entry_apart}
use Rattle.straight_leave.proofs.Plans.{function_for, get_within}
use Rattle.straight_leave.proofs.StayCounts.{stay_all, residual_short}
use Rattle.straight_leave.proofs.Unknowns.{All-at_unknown, at_unknown-short, unknown-same}
use Rattle.straight_leave.proofs.WordFacts.{params_are, facts_are}

of_some : {X : Type 0} (P : X → Type 0) (o : Option X) (x : X) → IfSome o P → o ≡ Some x → P x
of_some P None x h e = cc
of_some P (Some y) x h e = let same : y ≡ x = cc in subst P same h

pub all_at : {X : Type 0} (P : X → Type 0) (xs : List X) (k : ℕ) (x : X) → All P xs → slice_get xs k ≡ Some x → P x
all_at P xs k x all h = each_at P xs k x (recursion_from_All P xs all) h

-- ---- functions

module _ (m : Module) (start : Ask) (plan : List Cut) (straight : IsStraight m) (p : IsPlan m.items start plan) (unnamed : IsNotNamed m.items start) where
  functions : AllFunctions m.items plan
  functions = recursion_from_All (λ cut. IsFunctionFor cut.ask.pattern (slice_get m.items cut.ask.place)) plan p.functions

  -- the function of a cut, which is straight, with a pattern for its parameters
  record Found (cut : Cut) : Type 0 where
    func : Func
    at : slice_get m.items cut.ask.place ≡ Some (item.Func func)
    same_length : length func.params ≡ length cut.ask.pattern
    zip : AllZip IsKnownOf func.params cut.ask.pattern
    is : IsStraightFunc m.items cut.ask.place func

  found : (k : ℕ) (cut : Cut) → slice_get plan k ≡ Some cut → Found cut
  found k cut at_plan =
      let h = each_at (λ c. IsFunctionFor c.ask.pattern (slice_get m.items c.ask.place)) plan k cut functions at_plan in
      let one = function_for cut.ask.pattern (slice_get m.items cut.ask.place) h in
      record {
        func = one.0;
        at = one.1;
        same_length = one.2;
        zip = (subst (IsFunctionFor cut.ask.pattern) one.1 h).1;
        is = of_some (IsStraightItem m.items cut.ask.place) (slice_get m.items cut.ask.place) (item.Func one.0) (straight.each cut.ask.place) one.1;
      }

  words_left : (ask : Ask) (f : Func) → All (λ q. q ≡ word_param) f.params → All (λ q. q ≡ word_param) (left_params start ask f.params)
  words_left ask f words = by (is_entry start ask)
    where
      by : (b : Bool) → All (λ q. q ≡ word_param) (if b then f.params else at_unknown ask.pattern f.params)
      by true = words
      by false = All-at_unknown (λ q. q ≡ word_param) ask.pattern f.params words

  few_left : (ask : Ask) (f : Func) → length f.params ≤ 32 → length (left_params start ask f.params) ≤ 32
  few_left ask f few = by (is_entry start ask)
    where
      by : (b : Bool) → length (if b then f.params else at_unknown ask.pattern f.params) ≤ 32
      by true = few
      by false = omega (arith, few, at_unknown-short ask.pattern f.params)

  func_left : (k : ℕ) (cut : Cut) → slice_get plan k ≡ Some cut → (one : Found cut) → IsStraightFunc (left_items m.items start plan) k (left_func m.items (asks_of plan) start cut one.func)
  func_left k cut at_plan one =
      let s = one.is in
      let f = one.func in
      let insts = s.insts in
      let insts_are : insts_at (slice_get m.items cut.ask.place) ≡ insts = ap insts_at one.at ∙ ap body_insts s.body ∙ append-nil insts in
      let closed : IsClosed cut.ask.pattern insts cut.facts =
      subst (λ (is : List Inst). IsClosed cut.ask.pattern is cut.facts) insts_are (all_at (λ c. IsClosed c.ask.pattern (insts_at (slice_get m.items c.ask.place)) c.facts) plan k cut p.folded at_plan) in
      let wanted : All (Contains (asks_of plan)) (flat_map (asks m.items) (residual cut.ask.pattern cut.facts insts)) =
      subst (λ (is : List Inst). All (Contains (asks_of plan)) (flat_map (asks m.items) (residual cut.ask.pattern cut.facts is))) insts_are
      (all_at (λ c. All (Contains (asks_of plan)) (needs m.items c.ask c.facts)) plan k cut p.has_needs at_plan) in
      let words = recursion_from_All (λ (q : Param). q ≡ word_param) f.params s.words in
      let known = params_are f.params cut.ask.pattern words one.zip in
      let facts_known = facts_are cut.ask.pattern cut.facts known m.items cut.ask.place (length f.params) insts closed s.straight in
      let unnamed_here : are_unknown start.pattern ≡ false → list_any (names_place start.place) insts ≡ false =
      λ e. subst (λ (is : List Inst). list_any (names_place start.place) is ≡ false) (ap body_insts s.body ∙ append-nil insts)
      (none_at (λ (i : Item). list_any (names_place start.place) (insts_at (Some i))) m.items cut.ask.place (item.Func f) (unnamed e) one.at) in
      let short : length (left_from m.items (asks_of plan) start cut insts 0 insts) ≡ length (residual cut.ask.pattern cut.facts insts) =
      length-map (residual cut.ask.pattern cut.facts insts) (left_inst m.items (asks_of plan) start cut insts) in
      record {
        has_name = left_name_is m.items start cut.ask f one.at (words_of_params f.params cut.ask.pattern words one.zip) (omega (arith, s.few_params, one.same_length)) s.has_name
            (all_at (λ c. is_copied m.items c.ask.place ≡ false → are_unknown c.ask.pattern ≡ true) plan k cut p.copied at_plan);
        seen = s.seen;
        returns = s.returns;
        ret_ext = s.ret_ext;
        words = words_left cut.ask f s.words;
        few_params = few_left cut.ask f s.few_params;
        fixed = s.fixed;
        insts = left_from m.items (asks_of plan) start cut insts 0 insts;
        value = left_operand start cut insts s.value;
        body = ap (option_map (left_body m.items (asks_of plan) start cut)) s.body;
        straight = insts_left m.items start plan functions p.ordered k cut f at_plan one.same_length known insts facts_known unnamed_here s.straight
            (recursion_from_All (Contains (asks_of plan)) (flat_map (asks m.items) (residual cut.ask.pattern cut.facts insts)) wanted);
        result = subst (λ (n : ℕ). IsWordOperand (length (left_params start cut.ask f.params)) n (left_operand start cut insts s.value))
            (stay_all cut.ask.pattern cut.facts 0 insts ∙ sym short)
            (operand_left m.items start plan functions p.ordered k cut f at_plan one.same_length known insts facts_known unnamed_here (length insts) (omega arith) s.value s.result);
        few_insts = omega (arith, short, residual_short cut.ask.pattern cut.facts 0 insts, s.few_insts);
      }

  each_left : (k : ℕ) → IfSome (slice_get (left_items m.items start plan) k) (IsStraightItem (left_items m.items start plan) k)
  each_left k =
      elim (cases_lt k (length plan)) [
        | inl within ↦
            let cut = get_of_within plan k within in
            let one = found k cut.0 cut.1 in
            subst (λ (o : Option Item). IfSome o (IsStraightItem (left_items m.items start plan) k)) (sym (left_item_at m.items start plan functions k cut.0 one.func cut.1 one.at)) (func_left k cut.0 cut.1 one)
        | inr past ↦
            let len = length-left_items m.items start plan functions in
            subst (λ (o : Option Item). IfSome o (IsStraightItem (left_items m.items start plan) k)) (sym (get_past (left_items m.items start plan) k (omega arith))) tt
      ]

  -- ---- names

  place_by_name : (i j : ℕ) (f g : Func) → slice_get m.items i ≡ Some (item.Func f) → slice_get m.items j ≡ Some (item.Func g) → f.name ≡ g.name → i ≡ j
  place_by_name i j f g at_i at_j same =
      elim (cases_lt i j) [
        | inl before ↦ absurd (apart i j f g at_i at_j same before)
        | inr after ↦ elim (cases_lt j i) [ inl behind ↦ absurd (apart j i g f at_j at_i (sym same) behind) | inr other ↦ omega arith ]
      ]
    where
      apart : (i j : ℕ) (f g : Func) → slice_get m.items i ≡ Some (item.Func f) → slice_get m.items j ≡ Some (item.Func g) → f.name ≡ g.name → i < j → ⊥
      apart i j f g at_i at_j same less =
          let within = get_within m.items j (item.Func g) at_j in
          let len = length-map m.items item_name in
          straight.distinct i j [] less (omega arith)
          (get_or-map item_name m.items i (item.Func f) [] (omega arith) ∙ ap item_name (get_or_of_get m.items i (item.Func f) (item.Func f) at_i) ∙ same
          ∙ sym (get_or-map item_name m.items j (item.Func g) [] within ∙ ap item_name (get_or_of_get m.items j (item.Func g) (item.Func g) at_j)))

  both : (a b : Bool) → (a && b) ≡ true → (a ≡ true) × (b ≡ true)
  both true b h = (refl, h)
  both false b h = cc

  known_start : (b : Bool) → not b ≡ true → b ≡ false
  known_start true h = cc
  known_start false h = refl

  -- the entry for known arguments is at its place alone
  entry_is : (k : ℕ) (cut : Cut) → slice_get plan k ≡ Some cut → are_unknown start.pattern ≡ false → cut.ask.place ≡ start.place → cut.ask ≡ start
  entry_is k cut at_plan known same = all_at (λ c. c.ask.place ≡ start.place → c.ask ≡ start) plan k cut (p.alone known) at_plan same

  of_entry : (ask : Ask) → is_entry start ask ≡ true → (ask.place ≡ start.place) × (are_unknown start.pattern ≡ false)
  of_entry ask e =
      let parts = both (ask.place == start.place) (not (are_unknown start.pattern)) e in
      let place : ask.place ≡ start.place = grind (arith, nat_tests, parts.0) in
      (place, known_start (are_unknown start.pattern) parts.1)

  module _ (names_apart : NamesApart) (plain : HaveNoCopyNames m.items) where
    plain_name : (cut : Cut) (one : Found cut) → begins_as_copy one.func.name ≡ false
    plain_name cut one = all_at (λ i. begins_as_copy (item_name i) ≡ false) m.items cut.ask.place (item.Func one.func) plain one.at

    copies_same : (a b : Cut) (f : Found a) (g : Found b) → left_name start a.ask f.func.name ≡ left_name start b.ask g.func.name → is_entry start a.ask ≡ false → is_entry start b.ask ≡ false → a.ask ≡ b.ask
    copies_same a b f g same e h =
        let named : copy_name a.ask.pattern f.func.name ≡ copy_name b.ask.pattern g.func.name =
        sym (ap (λ c. if c then f.func.name else copy_name a.ask.pattern f.func.name) e) ∙ same ∙ ap (λ c. if c then g.func.name else copy_name b.ask.pattern g.func.name) h in
        let words = words_of_params f.func.params a.ask.pattern (recursion_from_All (λ (q : Param). q ≡ word_param) f.func.params f.is.words) f.zip in
        let words' = words_of_params g.func.params b.ask.pattern (recursion_from_All (λ (q : Param). q ≡ word_param) g.func.params g.is.words) g.zip in
        let parts = copies_apart names_apart a.ask.pattern b.ask.pattern f.func.name g.func.name words words' (plain_name a f) (plain_name b g) named in
        let place = place_by_name a.ask.place b.ask.place f.func g.func f.at g.at parts.0 in
        let one_func : f.func ≡ g.func = inner f.func g.func (sym f.at ∙ ap (slice_get m.items) place ∙ g.at) in
        let lengths : length a.ask.pattern ≡ length b.ask.pattern = sym f.same_length ∙ ap (λ (x : Func). length x.params) one_func ∙ g.same_length in
        let patterns : a.ask.pattern ≡ b.ask.pattern = pattern_same a b parts.1 parts.2 lengths (are_unknown a.ask.pattern) refl in
        λ i. record { place = place i; pattern = patterns i }
      where
        inner : (x y : Func) → Some (item.Func x) ≡ Some (item.Func y) → x ≡ y
        inner x y k = cc

        pattern_same : (a b : Cut) → are_unknown a.ask.pattern ≡ are_unknown b.ask.pattern → (are_unknown a.ask.pattern ≡ false → a.ask.pattern ≡ b.ask.pattern) → length a.ask.pattern ≡ length b.ask.pattern
            → (c : Bool) → are_unknown a.ask.pattern ≡ c → a.ask.pattern ≡ b.ask.pattern
        pattern_same a b alike known lengths true k = unknown-same a.ask.pattern b.ask.pattern lengths k (sym alike ∙ k)
        pattern_same a b alike known lengths false k = known k

    entry_same : (i j : ℕ) (a b : Cut) → slice_get plan i ≡ Some a → slice_get plan j ≡ Some b → (f : Found a) (g : Found b) → left_name start a.ask f.func.name ≡ left_name start b.ask g.func.name
        → is_entry start a.ask ≡ true → is_entry start b.ask ≡ false → a.ask ≡ b.ask
    entry_same i j a b at_i at_j f g same e h =
        let named : f.func.name ≡ copy_name b.ask.pattern g.func.name =
        sym (ap (λ c. if c then f.func.name else copy_name a.ask.pattern f.func.name) e) ∙ same ∙ ap (λ c. if c then g.func.name else copy_name b.ask.pattern g.func.name) h in
        let place = place_by_name a.ask.place b.ask.place f.func g.func f.at g.at (entry_apart b.ask.pattern f.func.name g.func.name (plain_name a f) named) in
        let entry = of_entry a.ask e in
        entry_is i a at_i entry.1 entry.0 ∙ sym (entry_is j b at_j entry.1 (sym place ∙ entry.0))

    asks_same : (i j : ℕ) (a b : Cut) → slice_get plan i ≡ Some a → slice_get plan j ≡ Some b → (f : Found a) (g : Found b) → left_name start a.ask f.func.name ≡ left_name start b.ask g.func.name → a.ask ≡ b.ask
    asks_same i j a b at_i at_j f g same = by (is_entry start a.ask) (is_entry start b.ask) refl refl
      where
        by : (c d : Bool) → is_entry start a.ask ≡ c → is_entry start b.ask ≡ d → a.ask ≡ b.ask
        by true true e h =
            let one = of_entry a.ask e in
            let other = of_entry b.ask h in
            entry_is i a at_i one.1 one.0 ∙ sym (entry_is j b at_j other.1 other.0)
        by true false e h = entry_same i j a b at_i at_j f g same e h
        by false true e h = sym (entry_same j i b a at_j at_i g f (sym same) h e)
        by false false e h = copies_same a b f g same e h

    names_distinct : ((a b : Demand) → (demand_order a b ≡ Equal) ↔ (a ≡ b)) → AllPairs (λ a b. a ≢ b) (map item_name (left_items m.items start plan))
    names_distinct ties = λ i j d less within same.
        let left = left_items m.items start plan in
        let len : length (map item_name left) ≡ length plan = length-map left item_name ∙ length-left_items m.items start plan functions in
        let len_left = length-left_items m.items start plan functions in
        let one = get_of_within plan i (omega arith) in
        let other = get_of_within plan j (omega arith) in
        let f = found i one.0 one.1 in
        let g = found j other.0 other.1 in
        let new = item.Func (left_func m.items (asks_of plan) start one.0 f.func) in
        let new' = item.Func (left_func m.items (asks_of plan) start other.0 g.func) in
        let name : get_or (map item_name left) i d ≡ left_name start one.0.ask f.func.name =
        get_or-map item_name left i new d (omega arith) ∙ ap item_name (get_or_of_get left i new new (left_item_at m.items start plan functions i one.0 f.func one.1 f.at)) in
        let name' : get_or (map item_name left) j d ≡ left_name start other.0.ask g.func.name =
        get_or-map item_name left j new' d (omega arith) ∙ ap item_name (get_or_of_get left j new' new' (left_item_at m.items start plan functions j other.0 g.func other.1 g.at)) in
        let asks_equal = asks_same i j one.0 other.0 one.1 other.1 f g (sym name ∙ same ∙ name') in
        let at_i = ask_at plan i one.0 one.1 in
        let at_j = ask_at plan j other.0 other.1 in
        let order = p.ordered i j start less (get_within (asks_of plan) j other.0.ask at_j) in
        let order' : demand_order (demand_of one.0.ask) (demand_of other.0.ask) ≡ Less =
        (λ k. demand_order (demand_of (sym (get_or_of_get (asks_of plan) i one.0.ask start at_i) k)) (demand_of (sym (get_or_of_get (asks_of plan) j other.0.ask start at_j) k))) ∙ order in
        apart_orders (sym ((ties (demand_of one.0.ask) (demand_of other.0.ask)).1 (ap demand_of asks_equal)) ∙ order')
      where
        apart_orders : Equal ≡ Less → ⊥
        apart_orders e = cc

    pub left_is_straight : ((a b : Demand) → (demand_order a b ≡ Equal) ↔ (a ≡ b)) → length plan < 2 ^ 32 → IsStraight (left_module m start plan)
    left_is_straight ties few = record {
      no_layout = straight.no_layout;
      no_triple = straight.no_triple;
      distinct = names_distinct ties;
      each = each_left;
      few = omega (arith, few, length-left_items m.items start plan functions);
    }
