-- What is known of parameters and results holds, and an operand that is left has the value that it had.
use Rattle.std.proofs.Common.{◌≡◌, ◌∙◌, ℕ, zero, suc, ◌+◌, ◌%◌, ◌^◌, ◌<◌, ◌≤◌, Bool, true, false, cond, List, [], ◌∷◌, length, map, take, Some, slice_get, refl, sym, ap, subst, arith}
use Rattle.std.specs.Prelude.{All, count_by, option_map, option_and_then, if◌then◌else◌}
use Rattle.std.specs.List.{AllZip}
use Rattle.std.proofs.lemmas.List.Sums.{sum_by-cons}
use Rattle.std.proofs.lemmas.List.Elements.{All-head, All-tail}
use Rattle.ir_types.specs.declared.scalar.Known.{Known}
use Rattle.ir_types.specs.declared.scalar.Known.TheVariants.{Unknown, Num, Null}
use Rattle.ir_syntax.specs.declared.constant.Const.TheVariants as const
use Rattle.ir_syntax.specs.declared.constant.Operand.{Operand}
use Rattle.ir_syntax.specs.declared.constant.Operand.TheVariants as operand
use Rattle.ir_syntax.specs.declared.body.Arg.{Arg}
use Rattle.ir_syntax.specs.declared.body.Inst.{Inst}
use Rattle.ir_syntax.specs.declared.body.Inst.TheVariants as inst
use Rattle.ir_syntax.specs.Straight.{IsWordOperand, IsWordArg}
use Rattle.demands.specs.Names.{is_unknown}
use Rattle.straight_plan.specs.declared.fact.Fact.{Fact}
use Rattle.straight_plan.specs.declared.fact.Fact.TheVariants.{Unreached, One, Varying}
use Rattle.straight_plan.specs.declared.cut.Ask.{Ask}
use Rattle.straight_plan.specs.declared.cut.Cut.{Cut}
use Rattle.straight_plan.specs.Folding.{IsBelow, known_fact, param_fact, fact_at, operand_fact, known_sum, fact_sum}
use Rattle.straight_plan.specs.Residual.{put_fact, put_arg, stays}
use Rattle.straight_plan.specs.Asked.{known_of}
use Rattle.straight_plan.specs.Left.{is_entry, at_unknown, left_params, renumbered, left_operand, left_arg}
use Rattle.straight_meaning.specs.declared.value.Val.TheVariants as val
use Rattle.straight_meaning.specs.State.{Value, Register, register}
use Rattle.straight_meaning.specs.Step.{value, values}
use Rattle.straight_meaning.specs.Matching.{left_registers}
use Rattle.straight_meaning.proofs.Ready.{IsValueOf}
use Rattle.straight_meaning.proofs.Numbers.{register_left}

-- ---- what a fact says of a value

abbrev pub IsThat : Known → Value → Type 0
IsThat Unknown v = ⊥
IsThat (Num n) v = v ≡ val.Num n
IsThat Null v = ⊥

abbrev pub FactHolds : Fact → Value → Type 0
FactHolds Unreached v = ⊥
FactHolds (One known) v = IsThat known v
FactHolds Varying v = Unit {0}

abbrev pub KnownHolds : Known → Value → Type 0
KnownHolds known v = FactHolds (known_fact known) v

pub holds_above : (a b : Fact) (v : Value) → IsBelow a b → FactHolds a v → FactHolds b v
holds_above Unreached b v h f = absurd f
holds_above (One k) Unreached v h f = absurd h
holds_above (One k) (One l) v h f = subst (λ n. IsThat n v) h f
holds_above (One k) Varying v h f = tt
holds_above Varying Unreached v h f = absurd h
holds_above Varying (One l) v h f = absurd h
holds_above Varying Varying v h f = tt

known_sum_holds : (k l : Known) (x y : ℕ) → IsThat k (val.Num x) → IsThat l (val.Num y) → FactHolds (known_sum k l) (val.Num ((x + y) % 2 ^ 32))
known_sum_holds Unknown l x y f g = absurd f
known_sum_holds Null l x y f g = absurd f
known_sum_holds (Num a) Unknown x y f g = absurd g
known_sum_holds (Num a) Null x y f g = absurd g
known_sum_holds (Num a) (Num b) x y f g =
    let first : x ≡ a = cc in
    let second : y ≡ b = cc in
    ap (λ n. val.Num ((n + y) % 2 ^ 32)) first ∙ ap (λ n. val.Num ((a + n) % 2 ^ 32)) second

pub sum_holds : (a b : Fact) (x y : ℕ) → FactHolds a (val.Num x) → FactHolds b (val.Num y) → FactHolds (fact_sum a b) (val.Num ((x + y) % 2 ^ 32))
sum_holds Unreached b x y f g = absurd f
sum_holds (One k) Unreached x y f g = absurd g
sum_holds (One k) (One l) x y f g = known_sum_holds k l x y f g
sum_holds (One k) Varying x y f g = tt
sum_holds Varying b x y f g = tt

-- what is known of the parameters and the first k results
pub record Holds (pattern : List Known) (facts : List Fact) (k : ℕ) (args : List Value) (rs : List Register) : Type 0 where
  pub params : AllZip KnownHolds pattern args
  pub results : (j : ℕ) → j < k → (v : Value) → register j rs ≡ Some v → FactHolds (fact_at (slice_get facts j)) v

param_holds : (pattern : List Known) (args : List Value) (j : ℕ) (v : Value) → AllZip KnownHolds pattern args → slice_get args j ≡ Some v → FactHolds (param_fact (slice_get pattern j)) v
param_holds [] [] j v h e = cc
param_holds [] (w ∷ ws) j v h e = absurd h
param_holds (p ∷ ps) [] j v h e = absurd h
param_holds (p ∷ ps) (w ∷ ws) zero v h e = let same : w ≡ v = cc in subst (KnownHolds p) same h.0
param_holds (p ∷ ps) (w ∷ ws) (suc j) v h e = param_holds ps ws j v h.1 e

pub operand_holds : (pattern : List Known) (facts : List Fact) (k : ℕ) (args : List Value) (rs : List Register) (o : Operand) (v : Value) → Holds pattern facts k args rs
    → IsWordOperand (length args) k o → value args rs o ≡ Some v → FactHolds (operand_fact pattern facts o) v
operand_holds pattern facts k args rs (operand.Param j) v h w e = param_holds pattern args j v h.params e
operand_holds pattern facts k args rs (operand.Reg j) v h w e = h.results j w v e
operand_holds pattern facts k args rs (operand.Const (const.Int n)) v h w e = let same : val.Num n ≡ v = cc in sym same
operand_holds pattern facts k args rs (operand.Const const.Null) v h w e = absurd w
operand_holds pattern facts k args rs (operand.Const (const.Addr place offset)) v h w e = absurd w
operand_holds pattern facts k args rs (operand.Const const.Undef) v h w e = absurd w
operand_holds pattern facts k args rs (operand.Const const.Poison) v h w e = absurd w
operand_holds pattern facts k args rs (operand.Const const.Zero) v h w e = absurd w
operand_holds pattern facts k args rs (operand.Const (const.Text bytes)) v h w e = absurd w
operand_holds pattern facts k args rs (operand.Const (const.Many' shape parts)) v h w e = absurd w

-- ---- the values of what is left

pub stays_varying : (i : Inst) → stays Varying i ≡ true
stays_varying (inst.Bin op flags ty a b) = refl
stays_varying (inst.Icmp pred ty a b) = refl
stays_varying (inst.Select ty cond a b) = refl
stays_varying (inst.Cast op nneg from to a) = refl
stays_varying (inst.Alloca ty count align) = refl
stays_varying (inst.Load ty at align) = refl
stays_varying (inst.Store ty v at align) = refl
stays_varying (inst.Gep inbounds ty base indices) = refl
stays_varying (inst.Call fn_ty ret_ext callee args) = refl

some_at : {X : Type 0} (xs : List X) (j : ℕ) → j < length xs → (x : X) × (slice_get xs j ≡ Some x)
some_at [] j l = absurd (omega arith)
some_at (x ∷ xs) zero l = (x, refl)
some_at (x ∷ xs) (suc j) l = some_at xs j (omega arith)

counts_more : (p : Known) (ps : List Known) → count_by is_unknown (p ∷ ps) ≡ cond (is_unknown p) 1 0 + count_by is_unknown ps
counts_more p ps = sum_by-cons (λ q. cond (is_unknown q) 1 0) p ps

at_number : (pattern : List Known) (args : List Value) (j : ℕ) → AllZip KnownHolds pattern args → param_fact (slice_get pattern j) ≡ Varying
    → slice_get (at_unknown pattern args) (count_by is_unknown (take j pattern)) ≡ slice_get args j
at_number [] [] j h e = refl
at_number [] (w ∷ ws) j h e = absurd h
at_number (p ∷ ps) [] j h e = absurd h
at_number (Unknown ∷ ps) (w ∷ ws) zero h e = refl
at_number (Num n ∷ ps) (w ∷ ws) zero h e = cc
at_number (Null ∷ ps) (w ∷ ws) zero h e = cc
at_number (Unknown ∷ ps) (w ∷ ws) (suc j) h e =
    let more : count_by is_unknown (Unknown ∷ take j ps) ≡ suc (count_by is_unknown (take j ps)) = omega (arith, counts_more Unknown (take j ps)) in
    ap (slice_get (w ∷ at_unknown ps ws)) more ∙ at_number ps ws j h.1 e
at_number (Num n ∷ ps) (w ∷ ws) (suc j) h e =
    let same : count_by is_unknown (Num n ∷ take j ps) ≡ count_by is_unknown (take j ps) = omega (arith, counts_more (Num n) (take j ps)) in
    ap (slice_get (at_unknown ps ws)) same ∙ at_number ps ws j h.1 e
at_number (Null ∷ ps) (w ∷ ws) (suc j) h e = absurd h.0

param_left : (pattern : List Known) (args : List Value) (j : ℕ) (entry : Bool) → AllZip KnownHolds pattern args → param_fact (slice_get pattern j) ≡ Varying
    → slice_get (if entry then args else at_unknown pattern args) (if entry then j else count_by is_unknown (take j pattern)) ≡ slice_get args j
param_left pattern args j true h e = refl
param_left pattern args j false h e = at_number pattern args j h e

abbrev pub cut_for : Ask → List Fact → Cut
cut_for ask facts = record { ask = ask; facts = facts }

varying_left : (start ask : Ask) (facts : List Fact) (insts : List Inst) (k : ℕ) (args : List Value) (rs : List Register) (o : Operand) → AllZip KnownHolds ask.pattern args
    → k ≤ length insts → IsWordOperand (length args) k o → operand_fact ask.pattern facts o ≡ Varying
    → value (left_params start ask args) (left_registers facts insts rs) (renumbered start (cut_for ask facts) insts o) ≡ value args rs o
varying_left start ask facts insts k args rs (operand.Param j) h l w e = param_left ask.pattern args j (is_entry start ask) h e
varying_left start ask facts insts k args rs (operand.Reg j) h l w e =
    let i = some_at insts j (omega arith) in
    register_left facts insts rs j i.0 i.1 (ap (λ fact. stays fact i.0) e ∙ stays_varying i.0)
varying_left start ask facts insts k args rs (operand.Const c) h l w e = refl

put_left : (start ask : Ask) (facts : List Fact) (insts : List Inst) (k : ℕ) (args : List Value) (rs : List Register) (fact : Fact) (o : Operand) (v : Value)
    → AllZip KnownHolds ask.pattern args → k ≤ length insts → IsWordOperand (length args) k o → operand_fact ask.pattern facts o ≡ fact → FactHolds fact v → value args rs o ≡ Some v
    → value (left_params start ask args) (left_registers facts insts rs) (renumbered start (cut_for ask facts) insts (put_fact fact o)) ≡ Some v
put_left start ask facts insts k args rs Unreached o v h l w e f x = absurd f
put_left start ask facts insts k args rs (One Unknown) o v h l w e f x = absurd f
put_left start ask facts insts k args rs (One Null) o v h l w e f x = absurd f
put_left start ask facts insts k args rs (One (Num n)) o v h l w e f x = ap (λ u. Some u) (sym f)
put_left start ask facts insts k args rs Varying o v h l w e f x = varying_left start ask facts insts k args rs o h l w e ∙ x

-- an operand that is left has the value that it had
pub operand_left : (start ask : Ask) (facts : List Fact) (insts : List Inst) (k : ℕ) (args : List Value) (rs : List Register) (o : Operand) (v : Value)
    → Holds ask.pattern facts k args rs → k ≤ length insts → IsWordOperand (length args) k o → value args rs o ≡ Some v
    → value (left_params start ask args) (left_registers facts insts rs) (left_operand start (cut_for ask facts) insts o) ≡ Some v
operand_left start ask facts insts k args rs o v h l w x =
    put_left start ask facts insts k args rs (operand_fact ask.pattern facts o) o v h.params l w refl (operand_holds ask.pattern facts k args rs o v h w x) x

-- ---- arguments

take_more : (p : Known) (args : List Value) (rs : List Register) (a : Arg) (more : List Arg) (v : Value) (vs : List Value) → value args rs a.value ≡ Some v → values args rs more ≡ Some vs
    → values args rs (if is_unknown p then a ∷ more else more) ≡ Some (if is_unknown p then v ∷ vs else vs)
take_more Unknown args rs a more v vs e f =
    ap (option_and_then (λ u. option_map (λ us. u ∷ us) (values args rs more))) e ∙ ap (option_map (λ us. v ∷ us)) f
take_more (Num n) args rs a more v vs e f = f
take_more Null args rs a more v vs e f = f

map_choose : (p : Known) (f : Arg → Arg) (a : Arg) (more : List Arg) → map f (if is_unknown p then a ∷ more else more) ≡ (if is_unknown p then f a ∷ map f more else map f more)
map_choose Unknown f a more = refl
map_choose (Num n) f a more = refl
map_choose Null f a more = refl

-- the arguments that are left of a call have the values that they had
pub args_left : (start ask : Ask) (facts : List Fact) (insts : List Inst) (k : ℕ) (args : List Value) (rs : List Register) (pattern : List Known) (given : List Arg) (vs : List Value)
    → Holds ask.pattern facts k args rs → k ≤ length insts → All (IsWordArg (length args) k) given → AllZip (IsValueOf args rs) given vs
    → values (left_params start ask args) (left_registers facts insts rs) (map (left_arg start (cut_for ask facts) insts) (at_unknown pattern (map (put_arg ask.pattern facts) given)))
    ≡ Some (at_unknown pattern vs)
args_left start ask facts insts k args rs [] given vs h l w each = refl
args_left start ask facts insts k args rs (p ∷ ps) [] [] h l w each = refl
args_left start ask facts insts k args rs (p ∷ ps) [] (v ∷ vs) h l w each = absurd each
args_left start ask facts insts k args rs (p ∷ ps) (a ∷ given) [] h l w each = absurd each
args_left start ask facts insts k args rs (p ∷ ps) (a ∷ given) (v ∷ vs) h l w each =
    let more = args_left start ask facts insts k args rs ps given vs h l (All-tail (IsWordArg (length args) k) a given w) each.1 in
    let one = operand_left start ask facts insts k args rs a.value v h l (All-head (IsWordArg (length args) k) a given w).2 each.0 in
    let f = left_arg start (cut_for ask facts) insts in
    let put = put_arg ask.pattern facts a in
    let rest = at_unknown ps (map (put_arg ask.pattern facts) given) in
    ap (values (left_params start ask args) (left_registers facts insts rs)) (map_choose p f put rest)
    ∙ take_more p (left_params start ask args) (left_registers facts insts rs) (f put) (map f rest) v (at_unknown ps vs) one more

known_holds : (pattern : List Known) (facts : List Fact) (params k : ℕ) (fact : Fact) (o : Operand) (v : Value) → IsWordOperand params k o → operand_fact pattern facts o ≡ fact → FactHolds fact v
    → KnownHolds (known_of (put_fact fact o)) v
known_holds pattern facts params k Unreached o v w e f = absurd f
known_holds pattern facts params k (One Unknown) o v w e f = absurd f
known_holds pattern facts params k (One Null) o v w e f = absurd f
known_holds pattern facts params k (One (Num n)) o v w e f = f
known_holds pattern facts params k Varying (operand.Param j) v w e f = tt
known_holds pattern facts params k Varying (operand.Reg j) v w e f = tt
known_holds pattern facts params k Varying (operand.Const (const.Int n)) v w e f = cc
known_holds pattern facts params k Varying (operand.Const const.Null) v w e f = absurd w
known_holds pattern facts params k Varying (operand.Const (const.Addr place offset)) v w e f = absurd w
known_holds pattern facts params k Varying (operand.Const const.Undef) v w e f = absurd w
known_holds pattern facts params k Varying (operand.Const const.Poison) v w e f = absurd w
known_holds pattern facts params k Varying (operand.Const const.Zero) v w e f = absurd w
known_holds pattern facts params k Varying (operand.Const (const.Text bytes)) v w e f = absurd w
known_holds pattern facts params k Varying (operand.Const (const.Many' shape parts)) v w e f = absurd w

-- what a call knows of its arguments
abbrev pub known_args : List Known → List Fact → List Arg → List Known
known_args pattern facts given = map (λ (arg : Arg). known_of arg.value) (map (put_arg pattern facts) given)

-- holds of their values
pub args_hold : (pattern : List Known) (facts : List Fact) (k : ℕ) (args : List Value) (rs : List Register) (given : List Arg) (vs : List Value) → Holds pattern facts k args rs
    → All (IsWordArg (length args) k) given → AllZip (IsValueOf args rs) given vs → AllZip KnownHolds (known_args pattern facts given) vs
args_hold pattern facts k args rs [] [] h w each = tt
args_hold pattern facts k args rs [] (v ∷ vs) h w each = absurd each
args_hold pattern facts k args rs (a ∷ given) [] h w each = absurd each
args_hold pattern facts k args rs (a ∷ given) (v ∷ vs) h w each =
    let word = (All-head (IsWordArg (length args) k) a given w).2 in (
      known_holds pattern facts (length args) k (operand_fact pattern facts a.value) a.value v word refl (operand_holds pattern facts k args rs a.value v h word each.0),
      args_hold pattern facts k args rs given vs h (All-tail (IsWordArg (length args) k) a given w) each.1,
    )
