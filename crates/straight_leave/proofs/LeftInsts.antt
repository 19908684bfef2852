-- What is left of the instructions of a straight function is straight.
use Rattle.std.proofs.Common.{◌≡◌, ◌∙◌, ℕ, zero, suc, pos, ◌+◌, ◌<◌, ◌≤◌, Bool, true, false, not, ◌&&◌, ◌||◌, ◌==◌, List, [], ◌∷◌, ◌++◌, length, drop, take, map, count_by, flat_map, Some, slice_get, Contains, AllPairs, refl, ap, sym, subst, arith, if◌then◌else◌}
use Rattle.std.specs.List.{list_any, AllByRecursion}
use Rattle.std.specs.declared.cmp.Ordering.TheVariants.{Less}
use Rattle.std.proofs.lemmas.List.{length-map}
use Rattle.std.proofs.lemmas.List.Elements.{All-map, All-weaker}
use Rattle.ir_types.specs.declared.scalar.Ext.{Ext}
use Rattle.ir_types.specs.declared.scalar.Ext.TheVariants.{Plain}
use Rattle.ir_types.specs.declared.scalar.FnType.{FnType}
use Rattle.ir_types.specs.declared.scalar.Known.TheVariants.{Unknown, Num, Null}
use Rattle.ir_syntax.specs.declared.constant.Const.TheVariants as const
use Rattle.ir_syntax.specs.declared.constant.Operand.{Operand}
use Rattle.ir_syntax.specs.declared.constant.Operand.TheVariants as operand
use Rattle.ir_syntax.specs.declared.body.Arg.{Arg}
use Rattle.ir_syntax.specs.declared.body.Inst.{Inst}
use Rattle.ir_syntax.specs.declared.body.Inst.TheVariants as inst
use Rattle.ir_syntax.specs.declared.item.Func.{Func}
use Rattle.ir_syntax.specs.declared.item.Item.{Item}
use Rattle.ir_syntax.specs.declared.item.Item.TheVariants as item
use Rattle.ir_syntax.specs.Straight.{word_type, params_of, IsWordOperand, IsWordArg, IsLaterCall, IsStraightInst, AreStraight}
use Rattle.demands.specs.Names.{is_unknown, are_unknown}
use Rattle.demands.specs.Order.{demand_order}
use Rattle.demands.specs.Demands.{IsFunctionFor}
use Rattle.straight_plan.specs.declared.fact.Fact.{Fact}
use Rattle.straight_plan.specs.declared.fact.Fact.TheVariants.{Unreached, One, Varying}
use Rattle.straight_plan.specs.declared.cut.Ask.{Ask}
use Rattle.straight_plan.specs.declared.cut.Cut.{Cut}
use Rattle.straight_plan.specs.Folding.{param_fact, fact_at, operand_fact}
use Rattle.straight_plan.specs.Residual.{put_fact, put_arg, put_inst, stays, stay_count, residual_from}
use Rattle.straight_plan.specs.Asked.{demand_of, known_of, asked, asks, names_place}
use Rattle.straight_plan.specs.Left.{asks_of, place_of, is_entry, at_unknown, left_params, left_param, renumbered, left_operand, left_arg, left_inst, left_from, left_items}
use Rattle.straight_leave.proofs.LeftAt.{AllFunctions, ask_at, cut_at, place_there, left_item_at, earlier_place}
use Rattle.straight_leave.proofs.Plans.{function_for}
use Rattle.straight_leave.proofs.StayCounts.{stay_less, stay_next}
use Rattle.straight_leave.proofs.Unknowns.{unknown_before-lt, length-at_unknown, All-at_unknown}
use Rattle.straight_leave.proofs.WordFacts.{IsWordFact, operand_is, get_of_drop, drop_next}

pub each_at : {X : Type 0} (P : X → Type 0) (xs : List X) (k : ℕ) (x : X) → AllByRecursion P xs → slice_get xs k ≡ Some x → P x
each_at P [] k x all h = cc
each_at P (y ∷ ys) zero x all h = let same : y ≡ x = cc in subst P same all.0
each_at P (y ∷ ys) (suc k) x all h = each_at P ys k x all.1 h

each_left : {X : Type 0} (P : X → Type 0) (xs ys : List X) → AllByRecursion P (xs ++ ys) → AllByRecursion P xs
each_left P [] ys h = tt
each_left P (x ∷ xs) ys h = (h.0, each_left P xs ys h.1)

each_right : {X : Type 0} (P : X → Type 0) (xs ys : List X) → AllByRecursion P (xs ++ ys) → AllByRecursion P ys
each_right P [] ys h = h
each_right P (x ∷ xs) ys h = each_right P xs ys h.1

neither : (a b : Bool) → (a || b) ≡ false → (a ≡ false) × (b ≡ false)
neither true b h = cc
neither false b h = (refl, h)

pub none_at : {X : Type 0} (test : X → Bool) (xs : List X) (k : ℕ) (x : X) → list_any test xs ≡ false → slice_get xs k ≡ Some x → test x ≡ false
none_at test [] k x none h = cc
none_at test (y ∷ ys) zero x none h = let same : y ≡ x = cc in subst (λ z. test z ≡ false) same (neither (test y) (list_any test ys) none).0
none_at test (y ∷ ys) (suc k) x none h = none_at test ys k x (neither (test y) (list_any test ys) none).1 h

and-false : (b : Bool) → (b && false) ≡ false
and-false true = refl
and-false false = refl

inner_func : (f g : Func) → Some (item.Func f) ≡ Some (item.Func g) → f ≡ g
inner_func f g e = cc

inner_number : (m n : ℕ) → Some m ≡ Some n → m ≡ n
inner_number m n e = cc

module _ (items : List Item) (start : Ask) (plan : List Cut) (all_functions : AllFunctions items plan)
    (ordered : AllPairs (λ a b. demand_order (demand_of a) (demand_of b) ≡ Less) (asks_of plan)) (here : ℕ) (cut : Cut) (f : Func) (at_plan : slice_get plan here ≡ Some cut)
    (params_same : length f.params ≡ length cut.ask.pattern) (known : (j : ℕ) → IsWordFact (param_fact (slice_get cut.ask.pattern j))) (insts : List Inst)
    (facts_known : (r : ℕ) → r < length insts → IsWordFact (fact_at (slice_get cut.facts r)))
    (unnamed : are_unknown start.pattern ≡ false → list_any (names_place start.place) insts ≡ false) where
  -- ---- operands

  param_left : (j : ℕ) → j < length f.params → param_fact (slice_get cut.ask.pattern j) ≡ Varying → left_param start cut.ask j < length (left_params start cut.ask f.params)
  param_left j h e = by (is_entry start cut.ask)
    where
      by : (b : Bool) → (if b then j else count_by is_unknown (take j cut.ask.pattern)) < length (if b then f.params else at_unknown cut.ask.pattern f.params)
      by true = h
      by false = unknown_before-lt cut.ask.pattern f.params j params_same (omega (arith, params_same)) e

  varying_left : (k : ℕ) → k ≤ length insts → (x : Operand) → IsWordOperand (length f.params) k x → operand_fact cut.ask.pattern cut.facts x ≡ Varying
      → IsWordOperand (length (left_params start cut.ask f.params)) (stay_count cut.facts 0 k insts) (renumbered start cut insts x)
  varying_left k le (operand.Param j) h e = param_left j h e
  varying_left k le (operand.Reg r) h e = stay_less cut.facts r k insts h (omega arith) e
  varying_left k le (operand.Const c) h e = h

  put_left : (params results : ℕ) (g : Fact) (x : Operand) → IsWordFact g → (g ≡ Varying → IsWordOperand params results (renumbered start cut insts x))
      → IsWordOperand params results (renumbered start cut insts (put_fact g x))
  put_left params results Unreached x w h = absurd w
  put_left params results (One Unknown) x w h = absurd w
  put_left params results (One (Num n)) x w h = w
  put_left params results (One Null) x w h = absurd w
  put_left params results Varying x w h = h refl

  pub operand_left : (k : ℕ) → k ≤ length insts → (x : Operand) → IsWordOperand (length f.params) k x
      → IsWordOperand (length (left_params start cut.ask f.params)) (stay_count cut.facts 0 k insts) (left_operand start cut insts x)
  operand_left k le x h =
      put_left (length (left_params start cut.ask f.params)) (stay_count cut.facts 0 k insts) (operand_fact cut.ask.pattern cut.facts x) x
      (operand_is cut.ask.pattern cut.facts known (length f.params) k x (λ r less. facts_known r (omega arith)) h) (varying_left k le x h)

  arg_left : (k : ℕ) → k ≤ length insts → (arg : Arg) → IsWordArg (length f.params) k arg
      → IsWordArg (length (left_params start cut.ask f.params)) (stay_count cut.facts 0 k insts) (left_arg start cut insts (put_arg cut.ask.pattern cut.facts arg))
  arg_left k le arg h = (h.0, h.1, operand_left k le arg.value h.2)

  -- ---- calls

  not_entry : (ask : Ask) (place : ℕ) → ask.place ≡ place → (are_unknown start.pattern ≡ false → (place == start.place) ≡ false) → is_entry start ask ≡ false
  not_entry ask place at other = by (are_unknown start.pattern) refl
    where
      by : (b : Bool) → are_unknown start.pattern ≡ b → is_entry start ask ≡ false
      by true e = ap (λ b. ask.place == start.place && not b) e ∙ and-false (ask.place == start.place)
      by false e = ap (λ p. p == start.place && not (are_unknown start.pattern)) at ∙ ap (λ b. b && not (are_unknown start.pattern)) (other e)

  call_left : (k : ℕ) → k ≤ length insts → (fn_ty : FnType) (ret_ext : Ext) (callee : Operand) (args : List Arg) → ret_ext ≡ Plain → IsLaterCall items cut.ask.place (length f.params) k fn_ty callee args
      → slice_get insts k ≡ Some (inst.Call fn_ty ret_ext callee args) → AllByRecursion (Contains (asks_of plan)) (asks items (put_inst cut.ask.pattern cut.facts (inst.Call fn_ty ret_ext callee args)))
      → IsStraightInst (left_items items start plan) here (length (left_params start cut.ask f.params)) (stay_count cut.facts 0 k insts)
      (left_inst items (asks_of plan) start cut insts (put_inst cut.ask.pattern cut.facts (inst.Call fn_ty ret_ext callee args)))
  call_left k le fn_ty ret_ext callee args plain call at_k wanted =
      let left = left_items items start plan in
      let params = length (left_params start cut.ask f.params) in
      let results = stay_count cut.facts 0 k insts in
      let known_args = map (put_arg cut.ask.pattern cut.facts) args in
      let ask = asked items call.place (map (λ arg. known_of arg.value) known_args) in
      let kept = at_unknown ask.pattern known_args in
      let there : Contains (asks_of plan) ask =
      (subst (λ (c : Operand). AllByRecursion (Contains (asks_of plan)) (asks items (put_inst cut.ask.pattern cut.facts (inst.Call fn_ty ret_ext c args)))) call.by_name wanted).0 in
      let target = place_of (asks_of plan) ask in
      let at_target : slice_get (asks_of plan) target ≡ Some ask = place_there (asks_of plan) ask there in
      let found = cut_at plan target ask at_target in
      let other = found.0 in
      let function = function_for other.ask.pattern (slice_get items other.ask.place) (each_at (λ c. IsFunctionFor c.ask.pattern (slice_get items c.ask.place)) plan target other all_functions found.1) in
      let place : other.ask.place ≡ call.place = ap (λ (a : Ask). a.place) found.2 in
      let count : length function.0.params ≡ length args =
      inner_number (length function.0.params) (length args) (sym (ap params_of function.1) ∙ ap (λ p. params_of (slice_get items p)) place ∙ call.takes) in
      let unnamed_place : are_unknown start.pattern ≡ false → (call.place == start.place) ≡ false =
      λ e. subst (λ (c : Operand). names_place start.place (inst.Call fn_ty ret_ext c args) ≡ false) call.by_name (none_at (names_place start.place) insts k (inst.Call fn_ty ret_ext callee args) (unnamed e) at_k) in
      let plain_name : is_entry start other.ask ≡ false = not_entry other.ask call.place place unnamed_place in
      let lengths : length (left_params start other.ask function.0.params) ≡ length (map (left_arg start cut insts) kept) =
      ap (λ b. length (if b then function.0.params else at_unknown other.ask.pattern function.0.params)) plain_name
      ∙ ap (λ (a : Ask). length (at_unknown a.pattern function.0.params)) found.2
      ∙ length-at_unknown ask.pattern function.0.params known_args (count ∙ sym (length-map args (put_arg cut.ask.pattern cut.facts)))
      ∙ sym (length-map kept (left_arg start cut insts)) in
      let later_call : IsLaterCall left here params results (word_type (length kept)) (operand.Const (const.Addr target (pos 0))) (map (left_arg start cut insts) kept) =
      record {
        place = target;
        by_name = refl;
        later = earlier_place (asks_of plan) ordered here target cut.ask ask (ask_at plan here cut at_plan) at_target call.later;
        takes = ap params_of (left_item_at items start plan all_functions target other function.0 found.1 function.1) ∙ ap (λ n. Some n) lengths;
        has_type = ap word_type (sym (length-map kept (left_arg start cut insts)));
        words = All-map (IsWordArg params results) (left_arg start cut insts) kept (All-at_unknown (λ arg. IsWordArg params results (left_arg start cut insts arg)) ask.pattern known_args
            (All-map (λ arg. IsWordArg params results (left_arg start cut insts arg)) (put_arg cut.ask.pattern cut.facts) args
            (All-weaker (IsWordArg (length f.params) k) (λ arg. IsWordArg params results (left_arg start cut insts (put_arg cut.ask.pattern cut.facts arg))) (λ arg h. arg_left k le arg h) args call.words)));
      } in
      subst (λ (c : Operand). IsStraightInst left here params results (left_inst items (asks_of plan) start cut insts (put_inst cut.ask.pattern cut.facts (inst.Call fn_ty ret_ext c args)))) (sym call.by_name)
      (plain, later_call)

  -- ---- instructions

  inst_left : (k : ℕ) → k ≤ length insts → (i : Inst) → IsStraightInst items cut.ask.place (length f.params) k i → slice_get insts k ≡ Some i
      → AllByRecursion (Contains (asks_of plan)) (asks items (put_inst cut.ask.pattern cut.facts i))
      → IsStraightInst (left_items items start plan) here (length (left_params start cut.ask f.params)) (stay_count cut.facts 0 k insts)
      (left_inst items (asks_of plan) start cut insts (put_inst cut.ask.pattern cut.facts i))
  inst_left k le (inst.Bin op flags ty a b) h at_k wanted = (h.0, h.1, h.2, operand_left k le a h.3, operand_left k le b h.4)
  inst_left k le (inst.Icmp pred ty a b) h at_k wanted = absurd h
  inst_left k le (inst.Select ty cond a b) h at_k wanted = absurd h
  inst_left k le (inst.Cast op nneg from_ty to a) h at_k wanted = absurd h
  inst_left k le (inst.Alloca ty count align) h at_k wanted = absurd h
  inst_left k le (inst.Load ty at align) h at_k wanted = absurd h
  inst_left k le (inst.Store ty value at align) h at_k wanted = absurd h
  inst_left k le (inst.Gep inbounds ty base indices) h at_k wanted = absurd h
  inst_left k le (inst.Call fn_ty ret_ext callee args) h at_k wanted = call_left k le fn_ty ret_ext callee args h.0 h.1 at_k wanted

  IsLeftStraight : ℕ → List Inst → Type 0
  IsLeftStraight results is =
      AreStraight (left_items items start plan) here (length (left_params start cut.ask f.params)) results (map (left_inst items (asks_of plan) start cut insts) is)

  -- one more instruction, which stays or is left out
  step_left : (k : ℕ) → k ≤ length insts → (i : Inst) (rest : List Inst) → IsStraightInst items cut.ask.place (length f.params) k i → slice_get insts k ≡ Some i
      → (AllByRecursion (Contains (asks_of plan)) (flat_map (asks items) rest) → IsLeftStraight (stay_count cut.facts 0 (suc k) insts) rest) → (b : Bool) → stays (fact_at (slice_get cut.facts k)) i ≡ b
      → AllByRecursion (Contains (asks_of plan)) (flat_map (asks items) (if b then put_inst cut.ask.pattern cut.facts i ∷ rest else rest))
      → IsLeftStraight (stay_count cut.facts 0 k insts) (if b then put_inst cut.ask.pattern cut.facts i ∷ rest else rest)
  unfolding IsLeftStraight
  step_left k le i rest h at_k more true e wanted =
      let next = stay_next cut.facts k insts i at_k ∙ ap (λ b. stay_count cut.facts 0 k insts + (if b then 1 else 0)) e in
      let one : stay_count cut.facts 0 (suc k) insts ≡ suc (stay_count cut.facts 0 k insts) = omega (arith, next) in (
        inst_left k le i h at_k (each_left (Contains (asks_of plan)) (asks items (put_inst cut.ask.pattern cut.facts i)) (flat_map (asks items) rest) wanted),
        subst (λ (n : ℕ). IsLeftStraight n rest) one (more (each_right (Contains (asks_of plan)) (asks items (put_inst cut.ask.pattern cut.facts i)) (flat_map (asks items) rest) wanted)),
      )
  step_left k le i rest h at_k more false e wanted =
      let next = stay_next cut.facts k insts i at_k ∙ ap (λ b. stay_count cut.facts 0 k insts + (if b then 1 else 0)) e in
      let one : stay_count cut.facts 0 (suc k) insts ≡ stay_count cut.facts 0 k insts = omega (arith, next) in
      subst (λ (n : ℕ). IsLeftStraight n rest) one (more wanted)

  from_left : (k : ℕ) (more : List Inst) → drop k insts ≡ more → k + length more ≡ length insts → AreStraight items cut.ask.place (length f.params) k more
      → AllByRecursion (Contains (asks_of plan)) (flat_map (asks items) (residual_from cut.ask.pattern cut.facts k more))
      → IsLeftStraight (stay_count cut.facts 0 k insts) (residual_from cut.ask.pattern cut.facts k more)
  unfolding IsLeftStraight
  from_left k [] e len straight wanted = tt
  from_left k (i ∷ is) e len straight wanted =
      step_left k (omega (arith, len)) i (residual_from cut.ask.pattern cut.facts (suc k) is) straight.0 (get_of_drop insts k i is e)
      (λ rest. from_left (suc k) is (drop_next insts k i is e) (omega (arith, len)) straight.1 rest) (stays (fact_at (slice_get cut.facts k)) i) refl wanted

  pub insts_left : AreStraight items cut.ask.place (length f.params) 0 insts → AllByRecursion (Contains (asks_of plan)) (flat_map (asks items) (residual_from cut.ask.pattern cut.facts 0 insts))
      → AreStraight (left_items items start plan) here (length (left_params start cut.ask f.params)) 0 (left_from items (asks_of plan) start cut insts 0 insts)
  unfolding IsLeftStraight
  insts_left straight wanted = from_left 0 insts refl (omega arith) straight wanted
