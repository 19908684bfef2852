-- What a residual body asks for, without the residual body.
use Rattle.std.proofs.Common.{◌≡◌, ℕ, suc, ◌+◌, Bool, true, false, List, [], ◌∷◌, ◌++◌, Option, None, Some, length, map, flat_map, refl, ap, sym, ◌∙◌, arith, if◌then◌else◌}
use Rattle.std.specs.Prelude.{slice_get}
use Rattle.ir_types.specs.declared.scalar.Known.{Known}
use Rattle.ir_types.specs.declared.scalar.Known.TheVariants.{Unknown, Num, Null}
use Rattle.ir_syntax.specs.declared.constant.Const.TheVariants as const
use Rattle.ir_syntax.specs.declared.constant.Operand.{Operand}
use Rattle.ir_syntax.specs.declared.constant.Operand.TheVariants as operand
use Rattle.ir_syntax.specs.declared.body.Arg.{Arg}
use Rattle.ir_syntax.specs.declared.body.Inst.{Inst}
use Rattle.ir_syntax.specs.declared.body.Inst.TheVariants as inst
use Rattle.ir_syntax.specs.declared.item.Item.{Item}
use Rattle.straight_plan.specs.declared.fact.Fact.{Fact}
use Rattle.straight_plan.specs.declared.fact.Fact.TheVariants.{Unreached, One, Varying}
use Rattle.straight_plan.specs.declared.cut.Ask.{Ask}
use Rattle.straight_plan.specs.Folding.{fact_at, operand_fact}
use Rattle.straight_plan.specs.Residual.{put, put_arg, put_fact, put_inst, residual_from, stays}
use Rattle.straight_plan.specs.Asked.{asked_at, asks, insts_at, known_of, needs, written_callee}
use Rattle.straight_fold.specs.Calls.{row_of, value_of, arg_value, callee_rows, asked_rows, rows_of, left_count}

-- what an instruction asks for, where these facts are known
abbrev pub call_asks : List Item → List Known → List Fact → Inst → List Ask
call_asks items pattern facts (inst.Bin op flags ty a b) = []
call_asks items pattern facts (inst.Icmp pred ty a b) = []
call_asks items pattern facts (inst.Select ty cond a b) = []
call_asks items pattern facts (inst.Cast op nneg from to a) = []
call_asks items pattern facts (inst.Alloca ty count align) = []
call_asks items pattern facts (inst.Load ty at align) = []
call_asks items pattern facts (inst.Store ty value at align) = []
call_asks items pattern facts (inst.Gep inbounds ty base indices) = []
call_asks items pattern facts (inst.Call fn_ty ret_ext callee args) = asked_at items (written_callee callee) (map (arg_value pattern facts) args)

-- ---- known values put in

no-callee : (fact : Fact) (x : Operand) → written_callee x ≡ None → written_callee (put_fact fact x) ≡ None
no-callee Unreached x e = e
no-callee (One Unknown) x e = e
no-callee (One (Num n)) x e = refl
no-callee (One Null) x e = refl
no-callee Varying x e = e

same-callee : (pattern : List Known) (facts : List Fact) (x : Operand) → written_callee (put pattern facts x) ≡ written_callee x
same-callee pattern facts (operand.Param k) = no-callee (operand_fact pattern facts (operand.Param k)) (operand.Param k) refl
same-callee pattern facts (operand.Reg k) = no-callee (operand_fact pattern facts (operand.Reg k)) (operand.Reg k) refl
same-callee pattern facts (operand.Const (const.Int n)) = refl
same-callee pattern facts (operand.Const const.Null) = refl
same-callee pattern facts (operand.Const (const.Addr place offset)) = refl
same-callee pattern facts (operand.Const const.Undef) = refl
same-callee pattern facts (operand.Const const.Poison) = refl
same-callee pattern facts (operand.Const const.Zero) = refl
same-callee pattern facts (operand.Const (const.Text bytes)) = refl
same-callee pattern facts (operand.Const (const.Many' shape parts)) = refl

known-put : (fact : Fact) (x : Operand) → known_of x ≡ Unknown → known_of (put_fact fact x) ≡ value_of fact
known-put Unreached x e = e
known-put (One Unknown) x e = e
known-put (One (Num n)) x e = refl
known-put (One Null) x e = refl
known-put Varying x e = e

known-value : (pattern : List Known) (facts : List Fact) (x : Operand) → known_of (put pattern facts x) ≡ value_of (operand_fact pattern facts x)
known-value pattern facts (operand.Param k) = known-put (operand_fact pattern facts (operand.Param k)) (operand.Param k) refl
known-value pattern facts (operand.Reg k) = known-put (operand_fact pattern facts (operand.Reg k)) (operand.Reg k) refl
known-value pattern facts (operand.Const (const.Int n)) = refl
known-value pattern facts (operand.Const const.Null) = refl
known-value pattern facts (operand.Const (const.Addr place offset)) = refl
known-value pattern facts (operand.Const const.Undef) = refl
known-value pattern facts (operand.Const const.Poison) = refl
known-value pattern facts (operand.Const const.Zero) = refl
known-value pattern facts (operand.Const (const.Text bytes)) = refl
known-value pattern facts (operand.Const (const.Many' shape parts)) = refl

known-args : (pattern : List Known) (facts : List Fact) (args : List Arg) → map (λ arg. known_of arg.value) (map (put_arg pattern facts) args) ≡ map (arg_value pattern facts) args
known-args pattern facts [] = refl
known-args pattern facts (arg ∷ args) = λ i. known-value pattern facts arg.value i ∷ known-args pattern facts args i

same-asks : (items : List Item) (pattern : List Known) (facts : List Fact) (i : Inst) → asks items (put_inst pattern facts i) ≡ call_asks items pattern facts i
same-asks items pattern facts (inst.Bin op flags ty a b) = refl
same-asks items pattern facts (inst.Icmp pred ty a b) = refl
same-asks items pattern facts (inst.Select ty cond a b) = refl
same-asks items pattern facts (inst.Cast op nneg from to a) = refl
same-asks items pattern facts (inst.Alloca ty count align) = refl
same-asks items pattern facts (inst.Load ty at align) = refl
same-asks items pattern facts (inst.Store ty value at align) = refl
same-asks items pattern facts (inst.Gep inbounds ty base indices) = refl
same-asks items pattern facts (inst.Call fn_ty ret_ext callee args) =
    λ i. asked_at items (same-callee pattern facts callee i) (known-args pattern facts args i)

-- ---- what is left out asks for nothing

-- where it is left out
abbrev asks-where : Bool → List Item → List Known → List Fact → Inst → Type 0
asks-where true items pattern facts i = Unit {0}
asks-where false items pattern facts i = call_asks items pattern facts i ≡ []

out-or-asks : (fact : Fact) (items : List Item) (pattern : List Known) (facts : List Fact) (i : Inst) → stays fact i ≡ false → call_asks items pattern facts i ≡ []
out-or-asks fact items pattern facts (inst.Bin op flags ty a b) e = refl
out-or-asks fact items pattern facts (inst.Icmp pred ty a b) e = refl
out-or-asks fact items pattern facts (inst.Select ty cond a b) e = refl
out-or-asks fact items pattern facts (inst.Cast op nneg from to a) e = refl
out-or-asks fact items pattern facts (inst.Alloca ty count align) e = refl
out-or-asks fact items pattern facts (inst.Load ty at align) e = refl
out-or-asks fact items pattern facts (inst.Store ty value at align) e = refl
out-or-asks fact items pattern facts (inst.Gep inbounds ty base indices) e = refl
out-or-asks fact items pattern facts (inst.Call fn_ty ret_ext callee args) e = absurd (cc)

out-or-in : (fact : Fact) (items : List Item) (pattern : List Known) (facts : List Fact) (i : Inst) → asks-where (stays fact i) items pattern facts i
out-or-in fact items pattern facts i = by (stays fact i) refl
  where
    by : (b : Bool) → stays fact i ≡ b → asks-where b items pattern facts i
    by true e = tt
    by false e = out-or-asks fact items pattern facts i e

one-more : (b : Bool) (items : List Item) (pattern : List Known) (facts : List Fact) (i : Inst) (rest : List Inst) (others : List Ask) → asks-where b items pattern facts i → flat_map (asks items) rest ≡ others
    → flat_map (asks items) (if b then put_inst pattern facts i ∷ rest else rest) ≡ call_asks items pattern facts i ++ others
one-more true items pattern facts i rest others e h = λ l. same-asks items pattern facts i l ++ h l
one-more false items pattern facts i rest others e h = λ l. sym e l ++ h l

asks-from : (items : List Item) (pattern : List Known) (facts : List Fact) (k : ℕ) (insts : List Inst) → flat_map (asks items) (residual_from pattern facts k insts) ≡ flat_map (call_asks items pattern facts) insts
asks-from items pattern facts k [] = refl
asks-from items pattern facts k (i ∷ is) =
    one-more (stays (fact_at (slice_get facts k)) i) items pattern facts i (residual_from pattern facts (suc k) is) (flat_map (call_asks items pattern facts) is)
    (out-or-in (fact_at (slice_get facts k)) items pattern facts i) (asks-from items pattern facts (suc k) is)

pub needs-are : (items : List Item) (ask : Ask) (facts : List Fact) → needs items ask facts ≡ flat_map (call_asks items ask.pattern facts) (insts_at (slice_get items ask.place))
needs-are items ask facts = asks-from items ask.pattern facts 0 (insts_at (slice_get items ask.place))

-- ---- rows

row-asked : (items : List Item) (place : Option ℕ) (pattern : List Known) → map row_of (asked_at items place pattern) ≡ callee_rows items place pattern
row-asked items None pattern = refl
row-asked items (Some place) pattern = refl

rows-asked : (items : List Item) (pattern : List Known) (facts : List Fact) (i : Inst) → map row_of (call_asks items pattern facts i) ≡ asked_rows items pattern facts i
rows-asked items pattern facts (inst.Bin op flags ty a b) = refl
rows-asked items pattern facts (inst.Icmp pred ty a b) = refl
rows-asked items pattern facts (inst.Select ty cond a b) = refl
rows-asked items pattern facts (inst.Cast op nneg from to a) = refl
rows-asked items pattern facts (inst.Alloca ty count align) = refl
rows-asked items pattern facts (inst.Load ty at align) = refl
rows-asked items pattern facts (inst.Store ty value at align) = refl
rows-asked items pattern facts (inst.Gep inbounds ty base indices) = refl
rows-asked items pattern facts (inst.Call fn_ty ret_ext callee args) = row-asked items (written_callee callee) (map (arg_value pattern facts) args)

map-append : {X Y : Type 0} (f : X → Y) (xs ys : List X) → map f (xs ++ ys) ≡ map f xs ++ map f ys
map-append f [] ys = refl
map-append f (x ∷ xs) ys = ap (λ (zs : List _). f x ∷ zs) (map-append f xs ys)

rows-are : (items : List Item) (pattern : List Known) (facts : List Fact) (insts : List Inst) → map row_of (flat_map (call_asks items pattern facts) insts) ≡ rows_of items pattern facts insts
rows-are items pattern facts [] = refl
rows-are items pattern facts (i ∷ is) =
    map-append row_of (call_asks items pattern facts i) (flat_map (call_asks items pattern facts) is)
    ∙ (λ l. rows-asked items pattern facts i l ++ rows-are items pattern facts is l)

-- the rows of what a residual body asks for
pub needed-rows : (items : List Item) (ask : Ask) (facts : List Fact) → map row_of (needs items ask facts) ≡ rows_of items ask.pattern facts (insts_at (slice_get items ask.place))
needed-rows items ask facts = ap (map row_of) (needs-are items ask facts) ∙ rows-are items ask.pattern facts (insts_at (slice_get items ask.place))

-- ---- how many stay

count-more : (b : Bool) (i : Inst) (rest : List Inst) (n : ℕ) → length rest ≡ n → length (if b then i ∷ rest else rest) ≡ (if b then 1 else 0) + n
count-more true i rest n h = omega (arith, h)
count-more false i rest n h = omega (arith, h)

pub left-long : (pattern : List Known) (facts : List Fact) (k : ℕ) (insts : List Inst) → length (residual_from pattern facts k insts) ≡ left_count facts k insts
left-long pattern facts k [] = refl
left-long pattern facts k (i ∷ is) =
    count-more (stays (fact_at (slice_get facts k)) i) (put_inst pattern facts i) (residual_from pattern facts (suc k) is) (left_count facts (suc k) is) (left-long pattern facts (suc k) is)
