-- The instructions of the function at a place.
use Rattle.std.proofs.Common.{◌≡◌, ℕ, suc, ◌<◌, ◌^◌, All, List, [], ◌∷◌, Option, None, Some, IfSome, length, refl, ap, sym, subst, ◌∙◌, arith}
use Rattle.std.specs.Prelude.{slice_get}
use Rattle.std.proofs.lemmas.List.{append-nil}
use Rattle.std.proofs.lemmas.List.Elements.{All-nil, All-cons}
use Rattle.std.proofs.lemmas.Option.{slice_get_within}
use Rattle.ir_syntax.specs.declared.constant.Operand.{Operand}
use Rattle.ir_syntax.specs.declared.body.Body.{Body}
use Rattle.ir_syntax.specs.declared.body.Inst.{Inst}
use Rattle.ir_syntax.specs.declared.body.Inst.TheVariants as inst
use Rattle.ir_syntax.specs.declared.item.Func.{Func}
use Rattle.ir_syntax.specs.declared.item.Item.{Item}
use Rattle.ir_syntax.specs.declared.item.Item.TheVariants as item
use Rattle.ir_syntax.specs.Straight.{IsStraightFunc, IsStraightInst, IsStraightItem, AreStraight, straight_body, params_of}
use Rattle.straight_plan.specs.Asked.{body_insts, insts_at, written_callee}
use Rattle.straight_plan.specs.Folding.{IsLeastClosed}
use Rattle.ir_types.specs.declared.scalar.Known.{Known}
use Rattle.straight_fold.specs.Items.{AreStraightItems}
use Rattle.straight_fold.specs.Facts.{facts_of}
use Rattle.straight_fold.specs.Calls.{IsShortCall}
use Rattle.straight_fold.proofs.Least.{least-closed}

-- a straight body's instructions
pub insts-of : (body : Option Body) (insts : List Inst) (value : Operand) → body ≡ Some (straight_body insts value) → body_insts body ≡ insts
insts-of body insts value e = ap body_insts e ∙ append-nil insts

-- where a function stands, it is straight
pub func-at : (items : List Item) (place : ℕ) (f : Func) → AreStraightItems items → slice_get items place ≡ Some (item.Func f) → IsStraightFunc items place f
func-at items place f s e = subst (λ (o : Option Item). IfSome o (IsStraightItem items place)) e (s.each place)

-- the instructions at a place
pub record IsBlock (items : List Item) (place : ℕ) (insts : List Inst) : Type 0 where
  pub params : ℕ
  pub straight : AreStraight items place params 0 insts

block-of : (items : List Item) (place : ℕ) (found : Option Item) → IfSome found (IsStraightItem items place) → IsBlock items place (insts_at found)
block-of items place None s = record { params = 0; straight = tt }
block-of items place (Some (item.Var v)) s = absurd s
block-of items place (Some (item.Func f)) s =
    record { params = length f.params; straight = subst (AreStraight items place (length f.params) 0) (sym (insts-of f.body s.insts s.value s.body)) s.straight }

pub block-at : (items : List Item) → AreStraightItems items → (place : ℕ) → IsBlock items place (insts_at (slice_get items place))
block-at items s place = block-of items place (slice_get items place) (s.each place)

-- folding finds the least facts
pub folded-at : (items : List Item) → AreStraightItems items → (place : ℕ) (pattern : List Known) → IsLeastClosed pattern (insts_at (slice_get items place)) (facts_of pattern (insts_at (slice_get items place)))
folded-at items s place pattern =
    let block = block-at items s place in
    least-closed items place block.params pattern (insts_at (slice_get items place)) block.straight

-- ---- calls

-- a function that is called
pub record IsCalled (items : List Item) (place n : ℕ) : Type 0 where
  pub func : Func
  pub at : slice_get items place ≡ Some (item.Func func)
  pub takes : length func.params ≡ n

some-same : (m n : ℕ) → Some m ≡ Some n → m ≡ n
some-same m n e = cc

called-of : (items : List Item) (place n : ℕ) (found : Option Item) → slice_get items place ≡ found → params_of found ≡ Some n → IsCalled items place n
called-of items place n None e h = absurd (cc)
called-of items place n (Some (item.Var v)) e h = absurd (cc)
called-of items place n (Some (item.Func f)) e h = record { func = f; at = e; takes = some-same (length f.params) n h }

pub called : (items : List Item) (place n : ℕ) → params_of (slice_get items place) ≡ Some n → IsCalled items place n
called items place n h = called-of items place n (slice_get items place) refl h

short-call : (items : List Item) (from params results : ℕ) (i : Inst) → AreStraightItems items → IsStraightInst items from params results i → IsShortCall i
short-call items from params results (inst.Bin op flags ty a b) all s = tt
short-call items from params results (inst.Icmp pred ty a b) all s = tt
short-call items from params results (inst.Select ty c a b) all s = tt
short-call items from params results (inst.Cast op nneg f to a) all s = tt
short-call items from params results (inst.Alloca ty count align) all s = tt
short-call items from params results (inst.Load ty at align) all s = tt
short-call items from params results (inst.Store ty value at align) all s = tt
short-call items from params results (inst.Gep inbounds ty base indices) all s = tt
short-call items from params results (inst.Call fn_ty ret_ext callee args) all s =
    let call = s.1 in
    let c = called items call.place (length args) call.takes in
    let f = func-at items call.place c.func all c.at in
    let short : call.place < 2 ^ 32 = omega (arith, slice_get_within items call.place (item.Func c.func) c.at, all.few) in
    let named : written_callee callee ≡ Some call.place = ap written_callee call.by_name in
    (subst (λ (o : Option ℕ). IfSome o (λ place. place < 2 ^ 32)) (sym named) short, omega (arith, c.takes, f.few_params))

short-calls : (items : List Item) (from params results : ℕ) (insts : List Inst) → AreStraightItems items → AreStraight items from params results insts → All IsShortCall insts
short-calls items from params results [] all s = All-nil IsShortCall
short-calls items from params results (i ∷ is) all s = All-cons IsShortCall i is (short-call items from params results i all s.0) (short-calls items from params (suc results) is all s.1)

pub short-calls-at : (items : List Item) → AreStraightItems items → (place : ℕ) → All IsShortCall (insts_at (slice_get items place))
short-calls-at items all place =
    let block = block-at items all place in
    short-calls items place block.params 0 (insts_at (slice_get items place)) all block.straight
