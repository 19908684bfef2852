-- What the code makes is what is left: by the table of numbers and the places of asks.
use Rattle.std.proofs.Common.{◌≡◌, ◌∙◌, ℕ, zero, suc, ◌+◌, ◌-◌, List, [], ◌∷◌, length, map, Option, Some, None, option_map, slice_get, refl, ap, arith, if◌then◌else◌}
use Rattle.std.specs.List.{filter_map}
use Rattle.ir_syntax.specs.declared.constant.Operand.{Operand}
use Rattle.ir_syntax.specs.declared.constant.Operand.TheVariants as operand
use Rattle.ir_syntax.specs.declared.body.Arg.{Arg}
use Rattle.ir_syntax.specs.declared.body.Inst.{Inst}
use Rattle.ir_syntax.specs.declared.body.Inst.TheVariants as inst
use Rattle.ir_syntax.specs.declared.body.Term.{Term}
use Rattle.ir_syntax.specs.declared.body.Term.TheVariants as term
use Rattle.ir_syntax.specs.declared.body.Block.{Block}
use Rattle.ir_syntax.specs.declared.body.Body.{Body}
use Rattle.ir_syntax.specs.declared.item.Func.{Func}
use Rattle.ir_syntax.specs.declared.item.Item.{Item}
use Rattle.ir_syntax.specs.declared.item.Item.TheVariants as item
use Rattle.ir_types.specs.declared.scalar.Ext.{Ext}
use Rattle.ir_types.specs.declared.scalar.FnType.{FnType}
use Rattle.straight_plan.specs.declared.fact.Fact.{Fact}
use Rattle.straight_plan.specs.declared.cut.Ask.{Ask}
use Rattle.straight_plan.specs.declared.cut.Cut.{Cut}
use Rattle.straight_plan.specs.Folding.{fact_at}
use Rattle.straight_plan.specs.Asked.{written_callee}
use Rattle.straight_plan.specs.Residual.{stays, stay_count, put, residual}
use Rattle.straight_plan.specs.Left.{asks_of, place_of, is_entry, renumbered, left_callee, left_inst, left_term, left_block, left_body, left_func, left_item, left_items}
use Rattle.straight_leave.specs.Numbers.{numbers_from, numbers_of, number_or_last, number_at, numbered}
use Rattle.straight_leave.specs.Rewritten.{new_callee, new_inst, new_term, new_block, new_body, new_func, new_item, new_items}

-- ---- numbers

number_at-cons : (n m : ℕ) (ms : List ℕ) (j : ℕ) → number_at (n ∷ m ∷ ms) (suc j) ≡ number_at (m ∷ ms) j
number_at-cons n m ms j =
    let front : suc (suc (length ms)) - 1 ≡ suc (length ms) = omega arith in
    let rest : length ms ≡ suc (length ms) - 1 = omega arith in
    ap (λ k. number_or_last (slice_get (m ∷ ms) j) (slice_get (n ∷ m ∷ ms) k)) front ∙ ap (λ k. number_or_last (slice_get (m ∷ ms) j) (slice_get (m ∷ ms) k)) rest

number_at-next : (n : ℕ) (facts : List Fact) (k before : ℕ) (is : List Inst) (j : ℕ) → number_at (n ∷ numbers_from facts k before is) (suc j) ≡ number_at (numbers_from facts k before is) j
number_at-next n facts k before [] j = number_at-cons n before [] j
number_at-next n facts k before (i ∷ is) j = number_at-cons n before (numbers_from facts (suc k) (before + (if stays (fact_at (slice_get facts k)) i then 1 else 0)) is) j

number_is_count : (facts : List Fact) (k before j : ℕ) (is : List Inst) → number_at (numbers_from facts k before is) j ≡ before + stay_count facts k j is
number_is_count facts k before zero [] = omega arith
number_is_count facts k before (suc j) [] = omega arith
number_is_count facts k before zero (i ∷ is) = omega arith
number_is_count facts k before (suc j) (i ∷ is) =
    let one = if stays (fact_at (slice_get facts k)) i then 1 else 0 in
    let rest : number_at (numbers_from facts (suc k) (before + one) is) j ≡ (before + one) + stay_count facts (suc k) j is = number_is_count facts (suc k) (before + one) j is in
    number_at-next before facts (suc k) (before + one) is j ∙ rest ∙ omega arith

-- ---- instructions

module _ (items : List Item) (asks : List Ask) (start : Ask) (cut : Cut) where
  number_is : (insts : List Inst) (x : Operand) → numbered (is_entry start cut.ask) cut.ask.pattern (numbers_of cut.facts insts) x ≡ renumbered start cut insts x
  number_is insts (operand.Param k) = refl
  number_is insts (operand.Reg k) = ap operand.Reg (number_is_count cut.facts 0 0 k insts ∙ omega arith)
  number_is insts (operand.Const c) = refl

  callee_is : (insts : List Inst) (fn_ty : FnType) (ret_ext : Ext) (callee : Operand) (args : List Arg) (o : Option ℕ)
      → new_callee items (place_of asks) (renumbered start cut insts) fn_ty ret_ext callee args o ≡ left_callee items asks start cut insts o args (inst.Call fn_ty ret_ext callee args)
  callee_is insts fn_ty ret_ext callee args None = refl
  callee_is insts fn_ty ret_ext callee args (Some place) = refl

  inst_is : (insts : List Inst) (i : Inst) → new_inst items (place_of asks) (renumbered start cut insts) i ≡ left_inst items asks start cut insts i
  inst_is insts (inst.Bin op flags ty a b) = refl
  inst_is insts (inst.Icmp pred ty a b) = refl
  inst_is insts (inst.Select ty cond a b) = refl
  inst_is insts (inst.Cast op nneg from to a) = refl
  inst_is insts (inst.Alloca ty count align) = refl
  inst_is insts (inst.Load ty at align) = refl
  inst_is insts (inst.Store ty value at align) = refl
  inst_is insts (inst.Gep inbounds ty base indices) = refl
  inst_is insts (inst.Call fn_ty ret_ext callee args) = callee_is insts fn_ty ret_ext callee args (written_callee callee)

  term_is : (insts : List Inst) (t : Term) → new_term (λ x. renumbered start cut insts (put cut.ask.pattern cut.facts x)) t ≡ left_term start cut insts t
  term_is insts term.RetVoid = refl
  term_is insts (term.Ret ty value) = refl
  term_is insts (term.Br to) = refl
  term_is insts (term.CondBr cond one other) = refl
  term_is insts (term.Switch ty value default cases) = refl
  term_is insts term.Unreachable = refl

  -- ---- bodies and functions

  block_is : (block : Block) → new_block items (place_of asks) (is_entry start cut.ask) cut block ≡ left_block items asks start cut block
  block_is block =
      let number : numbered (is_entry start cut.ask) cut.ask.pattern (numbers_of cut.facts block.insts) ≡ renumbered start cut block.insts = λ i x. number_is block.insts x i in
      let all = residual cut.ask.pattern cut.facts block.insts in
      let insts = ap (λ f. map (new_inst items (place_of asks) f) all) number ∙ (λ i. map (λ x. inst_is block.insts x i) all) in
      let end = ap (λ f. new_term (λ x. f (put cut.ask.pattern cut.facts x)) block.term) number ∙ term_is block.insts block.term in
      λ i. record { phis = block.phis; insts = insts i; term = end i }

  body_is : (body : Body) → new_body items (place_of asks) (is_entry start cut.ask) cut body ≡ left_body items asks start cut body
  body_is body = λ i. record { blocks = map (λ b. block_is b i) body.blocks }

  func_is : (f : Func) → new_func items (place_of asks) (is_entry start cut.ask) cut f ≡ left_func items asks start cut f
  func_is f = λ i. record (left_func items asks start cut f) { body = option_map (λ b. body_is b i) f.body }

  item_is : (o : Option Item) → new_item items (place_of asks) (is_entry start cut.ask) cut o ≡ left_item items asks start cut o
  item_is None = refl
  item_is (Some (item.Var v)) = refl
  item_is (Some (item.Func f)) = ap (λ g. Some (item.Func g)) (func_is f)

pub items_are : (items : List Item) (find : Ask → ℕ) (start : Ask) (plan : List Cut) → ((ask : Ask) → find ask ≡ place_of (asks_of plan) ask) → new_items items find start plan ≡ left_items items start plan
items_are items find start plan found =
    let same : find ≡ place_of (asks_of plan) = λ i ask. found ask i in
    ap (λ f. new_items items f start plan) same ∙ (λ i. filter_map (λ cut. item_is items (asks_of plan) start cut (slice_get items cut.ask.place) i) plan)
