-- A running call of a straight-line function can always make its next step.
use Rattle.std.proofs.Common.{◌≡◌, ◌∙◌, ◌⊎◌, inl, inr, ℕ, zero, suc, ◌+◌, ◌%◌, ◌^◌, ◌<◌, true, false, List, [], ◌∷◌, length, Option, Some, None, slice_get, refl, sym, ap, subst, arith}
use Rattle.std.specs.Prelude.{nat_eq, pos, All, option_map, option_and_then, if◌then◌else◌}
use Rattle.std.specs.List.{AllZip}
use Rattle.std.proofs.lemmas.Bool.Decides.{nat_tests}
use Rattle.std.proofs.lemmas.List.Elements.{All-head, All-tail}
use Rattle.std.proofs.lemmas.Option.{same_Some}
use Rattle.ir_types.specs.declared.scalar.Scalar.TheVariants.{I32}
use Rattle.ir_types.specs.declared.scalar.Ext.{Ext}
use Rattle.ir_types.specs.declared.scalar.FnType.{FnType}
use Rattle.ir_types.specs.declared.scalar.BinOp.TheVariants as op
use Rattle.ir_syntax.specs.declared.constant.Const.TheVariants as const
use Rattle.ir_syntax.specs.declared.constant.Operand.{Operand}
use Rattle.ir_syntax.specs.declared.constant.Operand.TheVariants as operand
use Rattle.ir_syntax.specs.declared.body.Arg.{Arg}
use Rattle.ir_syntax.specs.declared.body.Inst.{Inst}
use Rattle.ir_syntax.specs.declared.body.Inst.TheVariants as inst
use Rattle.ir_syntax.specs.declared.body.Term.{Term}
use Rattle.ir_syntax.specs.declared.body.Term.TheVariants as term
use Rattle.ir_syntax.specs.declared.item.Func.{Func}
use Rattle.ir_syntax.specs.declared.item.Item.{Item}
use Rattle.ir_syntax.specs.declared.item.Item.TheVariants as item
use Rattle.ir_syntax.specs.declared.item.Module.{Module}
use Rattle.ir_syntax.specs.Straight.{IsWordOperand, IsWordArg, IsStraightInst, AreStraight, IsStraightFunc, IsStraightItem, params_of, no_flags}
use Rattle.straight_meaning.specs.declared.value.Val.TheVariants as val
use Rattle.straight_meaning.specs.State.{Value, Register, register, Frame, Memory}
use Rattle.straight_meaning.specs.Step.{block_start, body_start, item_start, call_start, value, values, result, went, with_result, return_step, term_step, frame_step, frames_step}

-- each is a number
abbrev pub AreNumbers : List Value → Type 0
AreNumbers [] = Unit {0}
AreNumbers (v ∷ vs) = ((x : ℕ) × (v ≡ val.Num x)) × AreNumbers vs

-- the first k registers hold numbers
abbrev pub AreSet : ℕ → List Register → Type 0
AreSet k rs = (j : ℕ) → j < k → (x : ℕ) × (register j rs ≡ Some (val.Num x))

-- the return of a word
pub record Ends (params k : ℕ) (t : Term) : Type 0 where
  pub operand : Operand
  pub is : t ≡ term.Ret I32 operand
  pub word : IsWordOperand params k operand

-- what is left of a block, where the first k results are known
abbrev pub Ready : List Item → ℕ → ℕ → ℕ → List Inst → Term → Type 0
Ready items from params k [] t = Ends params k t
Ready items from params k (i ∷ is) t = IsStraightInst items from params k i × Ready items from params (suc k) is t

-- a call, where the first k results are known
pub record ReadyAt (items : List Item) (k : ℕ) (f : Frame) : Type 0 where
  pub rest : Ready items f.func (length f.args) k f.rest f.last
  pub args : AreNumbers f.args
  pub registers : AreSet f.next f.registers

-- the calls that wait for a result
abbrev pub AllWait : List Item → List Frame → Type 0
AllWait items [] = Unit {0}
AllWait items (f ∷ fs) = ReadyAt items (suc f.next) f × AllWait items fs

abbrev pub FramesReady : List Item → List Frame → Type 0
FramesReady items [] = ⊥
FramesReady items (f ∷ fs) = ReadyAt items f.next f × AllWait items fs

abbrev pub addition : Operand → Operand → Inst
addition a b = inst.Bin op.Add no_flags I32 a b

abbrev pub call_of : FnType → Ext → ℕ → List Arg → Inst
call_of fn_ty ext place args = inst.Call fn_ty ext (operand.Const (const.Addr place (pos 0))) args

-- the head of a function's block
abbrev pub head_of : ℕ → List Value → List Inst → Operand → Frame
head_of place args insts v = block_start place args (record { phis = []; insts = insts; term = term.Ret I32 v })

-- ---- values

number_at : (vs : List Value) (k : ℕ) → AreNumbers vs → k < length vs → (x : ℕ) × (slice_get vs k ≡ Some (val.Num x))
number_at [] k h l = absurd (omega arith)
number_at (v ∷ vs) zero h l = (h.0.0, ap (λ w. Some w) h.0.1)
number_at (v ∷ vs) (suc k) h l = number_at vs k h.1 (omega arith)

pub set_more : (k x : ℕ) (rs : List Register) → AreSet k rs → AreSet (suc k) ((k, val.Num x) ∷ rs)
set_more k x rs h = λ j l. elim (nat_eq k j) as (λ t. nat_eq k j ≡ t → (y : ℕ) × ((if t then Some (val.Num x) else register j rs) ≡ Some (val.Num y))) [
  | true ↦ λ e. (x, refl)
  | false ↦ λ e. h j (let apart : k ≡ j → ⊥ = λ same. (grind (arith, nat_tests, e, same)) in omega arith)
] refl

pub value_ready : (k : ℕ) (args : List Value) (rs : List Register) (o : Operand) → AreNumbers args → AreSet k rs → IsWordOperand (length args) k o
    → (x : ℕ) × (value args rs o ≡ Some (val.Num x))
value_ready k args rs (operand.Param j) n h r = number_at args j n r
value_ready k args rs (operand.Reg j) n h r = h j r
value_ready k args rs (operand.Const (const.Int x)) n h r = (x, refl)
value_ready k args rs (operand.Const const.Null) n h r = absurd r
value_ready k args rs (operand.Const (const.Addr place offset)) n h r = absurd r
value_ready k args rs (operand.Const const.Undef) n h r = absurd r
value_ready k args rs (operand.Const const.Poison) n h r = absurd r
value_ready k args rs (operand.Const const.Zero) n h r = absurd r
value_ready k args rs (operand.Const (const.Text bytes)) n h r = absurd r
value_ready k args rs (operand.Const (const.Many' shape parts)) n h r = absurd r

abbrev pub IsValueOf : List Value → List Register → Arg → Value → Type 0
IsValueOf args rs a v = value args rs a.value ≡ Some v

-- numbers as the values of arguments
pub record Valued (args : List Value) (rs : List Register) (given : List Arg) : Type 0 where
  pub vs : List Value
  pub is : values args rs given ≡ Some vs
  pub numbers : AreNumbers vs
  pub count : length vs ≡ length given
  pub each : AllZip (IsValueOf args rs) given vs

values_more : (args : List Value) (rs : List Register) (a : Arg) (more : List Arg) → (x : ℕ) × (value args rs a.value ≡ Some (val.Num x)) → Valued args rs more → Valued args rs (a ∷ more)
values_more args rs a more x h = record {
  vs = val.Num x.0 ∷ h.vs;
  is = ap (option_and_then (λ v. option_map (λ vs. v ∷ vs) (values args rs more))) x.1 ∙ ap (option_map (λ vs. val.Num x.0 ∷ vs)) h.is;
  numbers = ((x.0, refl), h.numbers);
  count = ap suc h.count;
  each = (x.1, h.each);
}

pub values_ready : (k : ℕ) (args : List Value) (rs : List Register) (given : List Arg) → AreNumbers args → AreSet k rs → All (IsWordArg (length args) k) given → Valued args rs given
values_ready k args rs [] n h r = record { vs = []; is = refl; numbers = tt; count = refl; each = tt }
values_ready k args rs (a ∷ more) n h r = values_more args rs a more
    (value_ready k args rs a.value n h (All-head (IsWordArg (length args) k) a more r).2)
    (values_ready k args rs more n h (All-tail (IsWordArg (length args) k) a more r))

-- ---- calls

ready_from : (items : List Item) (from params k n : ℕ) (insts : List Inst) (v : Operand) → AreStraight items from params k insts → k + length insts ≡ n → IsWordOperand params n v
    → Ready items from params k insts (term.Ret I32 v)
ready_from items from params k n [] v h e r = record { operand = v; is = refl; word = subst (λ j. IsWordOperand params j v) (let same : n ≡ k = omega (arith, e) in same) r }
ready_from items from params k n (i ∷ is) v h e r = (h.0, ready_from items from params (suc k) n is v h.1 (omega (arith, e)) r)

-- a function that is called with so many words
pub record Callable (m : Module) (place : ℕ) (n : ℕ) : Type 0 where
  pub func : Func
  pub at : slice_get m.items place ≡ Some (item.Func func)
  pub straight : IsStraightFunc m.items place func
  pub takes : length func.params ≡ n

pub call_starts : (m : Module) (place n : ℕ) (vs : List Value) → (c : Callable m place n) → call_start m place vs ≡ Some (head_of place vs c.straight.insts c.straight.value)
call_starts m place n vs c = ap (option_and_then (item_start place vs)) c.at ∙ ap (body_start place vs) c.straight.body

pub head_ready : (m : Module) (place : ℕ) (vs : List Value) → (c : Callable m place (length vs)) → AreNumbers vs
    → ReadyAt m.items 0 (head_of place vs c.straight.insts c.straight.value)
head_ready m place vs c h = record {
  rest = subst (λ n. Ready m.items place n 0 c.straight.insts (term.Ret I32 c.straight.value)) c.takes
      (ready_from m.items place (length c.func.params) 0 (length c.straight.insts) c.straight.insts c.straight.value c.straight.straight (omega arith) c.straight.result);
  args = h;
  registers = λ j l. absurd (omega arith);
}

-- ---- what a running call does next

pub record Adds (items : List Item) (f : Frame) : Type 0 where
  pub a : Operand
  pub b : Operand
  pub is : List Inst
  pub rest : f.rest ≡ addition a b ∷ is
  pub x : ℕ
  pub y : ℕ
  pub first : value f.args f.registers a ≡ Some (val.Num x)
  pub second : value f.args f.registers b ≡ Some (val.Num y)
  pub word_a : IsWordOperand (length f.args) f.next a
  pub word_b : IsWordOperand (length f.args) f.next b
  pub waits : ReadyAt items (suc f.next) (record f { rest = is })

pub record Calls (m : Module) (f : Frame) : Type 0 where
  pub fn_ty : FnType
  pub ext : Ext
  pub place : ℕ
  pub given : List Arg
  pub is : List Inst
  pub rest : f.rest ≡ call_of fn_ty ext place given ∷ is
  pub words : All (IsWordArg (length f.args) f.next) given
  pub passed : Valued f.args f.registers given
  pub callable : Callable m place (length passed.vs)
  pub waits : ReadyAt m.items (suc f.next) (record f { rest = is })

pub record Returns (f : Frame) : Type 0 where
  pub rest : f.rest ≡ []
  pub operand : Operand
  pub last : f.last ≡ term.Ret I32 operand
  pub word : IsWordOperand (length f.args) f.next operand
  pub x : ℕ
  pub returned : value f.args f.registers operand ≡ Some (val.Num x)

abbrev pub Does : Module → Frame → Type 0
Does m f = Adds m.items f ⊎ Calls m f ⊎ Returns f

-- each item is a function of the form
abbrev pub ItemsStraight : Module → Type 0
ItemsStraight m = (place : ℕ) (i : Item) → slice_get m.items place ≡ Some i → IsStraightItem m.items place i

takes_some : (m : Module) (place n : ℕ) (o : Option Item) → slice_get m.items place ≡ o → ItemsStraight m → params_of o ≡ Some n → Callable m place n
takes_some m place n None e h t = cc
takes_some m place n (Some (item.Var v)) e h t = cc
takes_some m place n (Some (item.Func func)) e h t = record { func = func; at = e; straight = h place (item.Func func) e; takes = same_Some (length func.params) n t }

pub callable : (m : Module) (place n : ℕ) → ItemsStraight m → params_of (slice_get m.items place) ≡ Some n → Callable m place n
callable m place n h t = takes_some m place n (slice_get m.items place) refl h t

inst_does : (m : Module) (f : Frame) (i : Inst) (is : List Inst) → ItemsStraight m → f.rest ≡ i ∷ is → IsStraightInst m.items f.func (length f.args) f.next i
    → Ready m.items f.func (length f.args) (suc f.next) is f.last → AreNumbers f.args → AreSet f.next f.registers → Does m f
inst_does m f (inst.Bin op flags ty a b) is items e r more n set =
    let x = value_ready f.next f.args f.registers a n set r.3 in
    let y = value_ready f.next f.args f.registers b n set r.4 in
    let same : inst.Bin op flags ty a b ≡ addition a b = let first = r.0 in let second = r.1 in let third = r.2 in cc in
    inl (record {
      a = a;
      b = b;
      is = is;
      rest = e ∙ ap (λ i. i ∷ is) same;
      x = x.0;
      y = y.0;
      first = x.1;
      second = y.1;
      word_a = r.3;
      word_b = r.4;
      waits = record { rest = more; args = n; registers = set };
    })
inst_does m f (inst.Call fn_ty ext callee given) is items e r more n set =
    let passed = values_ready f.next f.args f.registers given n set r.1.words in
    inr (inl (record {
      fn_ty = fn_ty;
      ext = ext;
      place = r.1.place;
      given = given;
      is = is;
      rest = e ∙ ap (λ c. inst.Call fn_ty ext c given ∷ is) r.1.by_name;
      words = r.1.words;
      passed = passed;
      callable = callable m r.1.place (length passed.vs) items (r.1.takes ∙ ap (λ n. Some n) (sym passed.count));
      waits = record { rest = more; args = n; registers = set };
    }))
inst_does m f (inst.Icmp pred ty a b) is items e r more n set = absurd r
inst_does m f (inst.Select ty cond a b) is items e r more n set = absurd r
inst_does m f (inst.Cast op nneg from to a) is items e r more n set = absurd r
inst_does m f (inst.Alloca ty count align) is items e r more n set = absurd r
inst_does m f (inst.Load ty at align) is items e r more n set = absurd r
inst_does m f (inst.Store ty v at align) is items e r more n set = absurd r
inst_does m f (inst.Gep inbounds ty base indices) is items e r more n set = absurd r

rest_does : (m : Module) (f : Frame) (rest : List Inst) → ItemsStraight m → f.rest ≡ rest → Ready m.items f.func (length f.args) f.next rest f.last → AreNumbers f.args → AreSet f.next f.registers → Does m f
rest_does m f [] items e r n set =
    let x = value_ready f.next f.args f.registers r.operand n set r.word in
    inr (inr (record { rest = e; operand = r.operand; last = r.is; word = r.word; x = x.0; returned = x.1 }))
rest_does m f (i ∷ is) items e r n set = inst_does m f i is items e r.0 r.1 n set

pub does : (m : Module) (f : Frame) → ItemsStraight m → ReadyAt m.items f.next f → Does m f
does m f items h = rest_does m f f.rest items refl h.rest h.args h.registers

-- ---- steps

pub add_step : (m : Module) (f : Frame) (fs : List Frame) (memory : Memory) (a b : Operand) (is : List Inst) (x y : ℕ) → f.rest ≡ addition a b ∷ is
    → value f.args f.registers a ≡ Some (val.Num x) → value f.args f.registers b ≡ Some (val.Num y)
    → frames_step m (f ∷ fs) memory ≡ Some (went (with_result (record f { rest = is }) (val.Num ((x + y) % 2 ^ 32)) ∷ fs) memory)
add_step m f fs memory a b is x y e first second = ap (frame_step m f fs memory) e
    ∙ ap (option_and_then (λ u. option_and_then (λ v. option_map (λ w. went (with_result (record f { rest = is }) w ∷ fs) memory) (result op.Add no_flags I32 u v)) (value f.args f.registers b))) first
    ∙ ap (option_and_then (λ v. option_map (λ w. went (with_result (record f { rest = is }) w ∷ fs) memory) (result op.Add no_flags I32 (val.Num x) v))) second

pub call_step : (m : Module) (f : Frame) (fs : List Frame) (memory : Memory) (fn_ty : FnType) (ext : Ext) (place : ℕ) (given : List Arg) (is : List Inst) (vs : List Value) (g : Frame)
    → f.rest ≡ call_of fn_ty ext place given ∷ is → values f.args f.registers given ≡ Some vs → call_start m place vs ≡ Some g
    → frames_step m (f ∷ fs) memory ≡ Some (went (g ∷ (record f { rest = is } ∷ fs)) memory)
call_step m f fs memory fn_ty ext place given is vs g e passed starts = ap (frame_step m f fs memory) e
    ∙ ap (option_and_then (λ us. option_map (λ g. went (g ∷ (record f { rest = is } ∷ fs)) memory) (call_start m place us))) passed
    ∙ ap (option_map (λ g. went (g ∷ (record f { rest = is } ∷ fs)) memory)) starts

pub return_steps : (m : Module) (f : Frame) (fs : List Frame) (memory : Memory) (v : Operand) (x : ℕ) → f.rest ≡ [] → f.last ≡ term.Ret I32 v
    → value f.args f.registers v ≡ Some (val.Num x) → frames_step m (f ∷ fs) memory ≡ return_step fs memory (val.Num x)
return_steps m f fs memory v x e last returned = ap (frame_step m f fs memory) e ∙ ap (term_step f fs memory) last ∙ ap (option_and_then (return_step fs memory)) returned

pub result_ready : (items : List Item) (x : ℕ) (f : Frame) → ReadyAt items (suc f.next) f → ReadyAt items (suc f.next) (with_result f (val.Num x))
result_ready items x f h = record { rest = h.rest; args = h.args; registers = set_more f.next x f.registers h.registers }
