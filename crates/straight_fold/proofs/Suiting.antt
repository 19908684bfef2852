-- What a function of the items asks for is a function of the items.
use Rattle.std.proofs.Common.{◌≡◌, ℕ, suc, ◌^◌, ◌<◌, Bool, true, false, ◌&&◌, All, List, [], ◌∷◌, ◌++◌, Option, None, Some, length, map, flat_map, refl, ap, sym, subst, ◌∙◌, ⊎_elim, arith, if◌then◌else◌}
use Rattle.std.specs.Prelude.{slice_get, IsSome, is_some}
use Rattle.std.specs.List.{AllZip}
use Rattle.std.proofs.lemmas.List.{length-map}
use Rattle.std.proofs.lemmas.List.Elements.{All-nil, All-cons, All-head, All-tail, All-append, All-push}
use Rattle.std.proofs.lemmas.Option.{slice_get_cases}
use Rattle.std.proofs.lemmas.Bool.Decides.{nat_tests}
use Rattle.ir_types.specs.declared.scalar.Known.{Known}
use Rattle.ir_types.specs.declared.scalar.Known.TheVariants.{Unknown, Num, Null}
use Rattle.ir_types.specs.declared.scalar.BinOp.{BinOp}
use Rattle.ir_syntax.specs.declared.constant.Const.TheVariants as const
use Rattle.ir_syntax.specs.declared.constant.Operand.{Operand}
use Rattle.ir_syntax.specs.declared.constant.Operand.TheVariants as operand
use Rattle.ir_syntax.specs.declared.body.Arg.{Arg}
use Rattle.ir_syntax.specs.declared.body.Inst.{Inst}
use Rattle.ir_syntax.specs.declared.body.Inst.TheVariants as inst
use Rattle.ir_syntax.specs.declared.item.Param.{Param}
use Rattle.ir_syntax.specs.declared.item.Item.{Item}
use Rattle.ir_syntax.specs.declared.item.Item.TheVariants as item
use Rattle.ir_syntax.specs.Suits.{is_number_of, is_pointer}
use Rattle.ir_syntax.specs.Straight.{IsWordOperand, IsWordArg, IsStraightInst, AreStraight, word_param}
use Rattle.demands.specs.Demands.{IsKnownOf, IsFunctionFor}
use Rattle.straight_plan.specs.declared.fact.Fact.{Fact}
use Rattle.straight_plan.specs.declared.fact.Fact.TheVariants.{Unreached, One, Varying}
use Rattle.straight_plan.specs.declared.cut.Ask.{Ask}
use Rattle.straight_plan.specs.Folding.{fact_at, fact_sum, known_fact, known_sum, param_fact, operand_fact, operation_fact, said}
use Rattle.straight_plan.specs.Asked.{asked, asked_at, body_insts, forgotten, insts_at, is_copied, needs, written_callee}
use Rattle.straight_fold.specs.Items.{AreStraightItems}
use Rattle.straight_fold.specs.Facts.{facts_from, facts_of}
use Rattle.straight_fold.specs.Calls.{arg_value, value_of}
use Rattle.straight_fold.proofs.Blocks.{IsCalled, called, func-at, insts-of}
use Rattle.straight_fold.proofs.Asking.{call_asks, needs-are}
use Rattle.straight_fold.proofs.Reading.{IsGood}

-- ---- words

abbrev IsWordKnown : Known → Type 0
IsWordKnown Unknown = Unit {0}
IsWordKnown (Num n) = n < 2 ^ 32
IsWordKnown Null = ⊥

abbrev IsWordFact : Fact → Type 0
IsWordFact Unreached = Unit {0}
IsWordFact (One v) = IsWordKnown v
IsWordFact Varying = Unit {0}

known-word : (v : Known) → IsWordKnown v → IsWordFact (known_fact v)
known-word Unknown w = tt
known-word (Num n) w = w
known-word Null w = absurd w

at-word : (P : Fact → Type 0) (facts : List Fact) (k : ℕ) → P Varying → All P facts → P (fact_at (slice_get facts k))
at-word P facts k past all =
    ⊎_elim
    (λ here. subst (λ (o : Option Fact). P (fact_at o)) (sym here.2) (subst P here.3 (all k here.0 here.1)))
    (λ there. subst (λ (o : Option Fact). P (fact_at o)) (sym there.1) past)
    (slice_get_cases facts k).1

param-word : (pattern : List Known) (k : ℕ) → All IsWordKnown pattern → IsWordFact (param_fact (slice_get pattern k))
param-word pattern k all =
    ⊎_elim
    (λ here. subst (λ (o : Option Known). IsWordFact (param_fact o)) (sym here.2) (known-word here.0 (subst IsWordKnown here.3 (all k here.0 here.1))))
    (λ there. subst (λ (o : Option Known). IsWordFact (param_fact o)) (sym there.1) tt)
    (slice_get_cases pattern k).1

operand-word : (pattern : List Known) (facts : List Fact) (params results : ℕ) (x : Operand) → All IsWordKnown pattern → All IsWordFact facts → IsWordOperand params results x → IsWordFact (operand_fact pattern facts x)
operand-word pattern facts params results (operand.Param k) known all w = param-word pattern k known
operand-word pattern facts params results (operand.Reg k) known all w = at-word IsWordFact facts k tt all
operand-word pattern facts params results (operand.Const (const.Int n)) known all w = w
operand-word pattern facts params results (operand.Const const.Null) known all w = absurd w
operand-word pattern facts params results (operand.Const (const.Addr place offset)) known all w = tt
operand-word pattern facts params results (operand.Const const.Undef) known all w = tt
operand-word pattern facts params results (operand.Const const.Poison) known all w = tt
operand-word pattern facts params results (operand.Const const.Zero) known all w = tt
operand-word pattern facts params results (operand.Const (const.Text bytes)) known all w = tt
operand-word pattern facts params results (operand.Const (const.Many' shape parts)) known all w = tt

known-sum-word : (v w : Known) → IsWordFact (known_sum v w)
known-sum-word (Num x) (Num y) = omega arith
known-sum-word (Num x) Unknown = tt
known-sum-word (Num x) Null = tt
known-sum-word Unknown w = tt
known-sum-word Null w = tt

sum-word : (x y : Fact) → IsWordFact (fact_sum x y)
sum-word Varying y = tt
sum-word Unreached Varying = tt
sum-word Unreached (One w) = tt
sum-word Unreached Unreached = tt
sum-word (One v) Varying = tt
sum-word (One v) Unreached = tt
sum-word (One v) (One w) = known-sum-word v w

said-word : (items : List Item) (from params results : ℕ) (pattern : List Known) (facts : List Fact) (i : Inst) → IsStraightInst items from params results i → IsWordFact (said pattern facts i)
said-word items from params results pattern facts (inst.Bin o flags ty a b) s =
    subst (λ (p : BinOp). IsWordFact (operation_fact p (operand_fact pattern facts a) (operand_fact pattern facts b))) (sym s.0) (sum-word (operand_fact pattern facts a) (operand_fact pattern facts b))
said-word items from params results pattern facts (inst.Icmp pred ty a b) s = tt
said-word items from params results pattern facts (inst.Select ty c a b) s = tt
said-word items from params results pattern facts (inst.Cast o nneg f to a) s = tt
said-word items from params results pattern facts (inst.Alloca ty count align) s = tt
said-word items from params results pattern facts (inst.Load ty at align) s = tt
said-word items from params results pattern facts (inst.Store ty value at align) s = tt
said-word items from params results pattern facts (inst.Gep inbounds ty base indices) s = tt
said-word items from params results pattern facts (inst.Call fn_ty ret_ext callee args) s = tt

facts-word : (items : List Item) (from params results : ℕ) (pattern : List Known) (before : List Fact) (insts : List Inst) → AreStraight items from params results insts → All IsWordFact before → All IsWordFact (facts_from pattern before insts)
facts-word items from params results pattern before [] s all = all
facts-word items from params results pattern before (i ∷ is) s all =
    facts-word items from params (suc results) pattern (before ++ said pattern before i ∷ []) is s.1 (All-push IsWordFact before (said pattern before i) all (said-word items from params results pattern before i s.0))

-- ---- patterns for words

zip-words : (params : List Param) (pattern : List Known) → All (λ p. p ≡ word_param) params → length params ≡ length pattern → All IsWordKnown pattern → AllZip IsKnownOf params pattern
zip-words [] [] words long all = tt
zip-words [] (v ∷ vs) words long all = absurd (omega (arith, long))
zip-words (p ∷ ps) [] words long all = absurd (omega (arith, long))
zip-words (p ∷ ps) (v ∷ vs) words long all = (
  subst (λ (q : Param). IsKnownOf q v) (sym (All-head (λ p. p ≡ word_param) p ps words)) (of-word v (All-head IsWordKnown v vs all)),
  zip-words ps vs (All-tail (λ p. p ≡ word_param) p ps words) (omega (arith, long)) (All-tail IsWordKnown v vs all),
)
  where
    of-word : (v : Known) → IsWordKnown v → IsKnownOf word_param v
    of-word Unknown w = tt
    of-word (Num n) w = grind (arith, nat_tests, w)
    of-word Null w = absurd w

words-zip : (params : List Param) (pattern : List Known) → All (λ p. p ≡ word_param) params → AllZip IsKnownOf params pattern → All IsWordKnown pattern
words-zip [] [] words zip = All-nil IsWordKnown
words-zip [] (v ∷ vs) words zip = absurd zip
words-zip (p ∷ ps) [] words zip = absurd zip
words-zip (p ∷ ps) (v ∷ vs) words zip =
    All-cons IsWordKnown v vs (to-word v (subst (λ (q : Param). IsKnownOf q v) (All-head (λ p. p ≡ word_param) p ps words) zip.0))
    (words-zip ps vs (All-tail (λ p. p ≡ word_param) p ps words) zip.1)
  where
    to-word : (v : Known) → IsKnownOf word_param v → IsWordKnown v
    to-word Unknown w = tt
    to-word (Num n) w = grind (arith, nat_tests, w)
    to-word Null w = absurd (let clash : false ≡ true = w in (cc))

args-word : (pattern : List Known) (facts : List Fact) (params results : ℕ) (args : List Arg) → All IsWordKnown pattern → All IsWordFact facts → All (IsWordArg params results) args → All IsWordKnown (map (arg_value pattern facts) args)
args-word pattern facts params results [] known all words = All-nil IsWordKnown
args-word pattern facts params results (arg ∷ args) known all words =
    All-cons IsWordKnown (arg_value pattern facts arg) (map (arg_value pattern facts) args)
    (value-word (operand_fact pattern facts arg.value) (operand-word pattern facts params results arg.value known all (All-head (IsWordArg params results) arg args words).2))
    (args-word pattern facts params results args known all (All-tail (IsWordArg params results) arg args words))
  where
    value-word : (fact : Fact) → IsWordFact fact → IsWordKnown (value_of fact)
    value-word Unreached w = tt
    value-word (One v) w = w
    value-word Varying w = tt

forgotten-word : (pattern : List Known) → All IsWordKnown (forgotten pattern)
forgotten-word [] = All-nil IsWordKnown
forgotten-word (v ∷ vs) = All-cons IsWordKnown Unknown (forgotten vs) tt (forgotten-word vs)

length-forgotten : (pattern : List Known) → length (forgotten pattern) ≡ length pattern
length-forgotten pattern = length-map pattern (λ v. Unknown)

-- ---- what is asked for

-- a function that is called with so many words
for-words : (items : List Item) (place n : ℕ) (pattern : List Known) → AreStraightItems items → IsCalled items place n → All IsWordKnown pattern → length pattern ≡ n → IsFunctionFor pattern (slice_get items place)
for-words items place n pattern all c words long =
    let f = func-at items place c.func all c.at in
    let has_body : IsSome c.func.body = ap is_some f.body in
    subst (IsFunctionFor pattern) (sym c.at) (has_body, zip-words c.func.params pattern f.words (omega (arith, c.takes, long)) words)

asked-good : (items : List Item) (place n : ℕ) (pattern : List Known) → AreStraightItems items → IsCalled items place n → All IsWordKnown pattern → length pattern ≡ n → IsGood items (asked items place pattern)
asked-good items place n pattern all c words long = by (is_copied items place)
  where
    by : (b : Bool) → IsFunctionFor (if b then pattern else forgotten pattern) (slice_get items place)
    by true = for-words items place n pattern all c words long
    by false = for-words items place n (forgotten pattern) all c (forgotten-word pattern) (length-forgotten pattern ∙ long)

call-good : (items : List Item) (from params results : ℕ) (pattern : List Known) (facts : List Fact) (i : Inst) → AreStraightItems items → IsStraightInst items from params results i → All IsWordKnown pattern → All IsWordFact facts
    → All (IsGood items) (call_asks items pattern facts i)
call-good items from params results pattern facts (inst.Bin op flags ty a b) all s known words = All-nil (IsGood items)
call-good items from params results pattern facts (inst.Icmp pred ty a b) all s known words = All-nil (IsGood items)
call-good items from params results pattern facts (inst.Select ty c a b) all s known words = All-nil (IsGood items)
call-good items from params results pattern facts (inst.Cast op nneg f to a) all s known words = All-nil (IsGood items)
call-good items from params results pattern facts (inst.Alloca ty count align) all s known words = All-nil (IsGood items)
call-good items from params results pattern facts (inst.Load ty at align) all s known words = All-nil (IsGood items)
call-good items from params results pattern facts (inst.Store ty value at align) all s known words = All-nil (IsGood items)
call-good items from params results pattern facts (inst.Gep inbounds ty base indices) all s known words = All-nil (IsGood items)
call-good items from params results pattern facts (inst.Call fn_ty ret_ext callee args) all s known words =
    let call = s.1 in
    let values = map (arg_value pattern facts) args in
    let good = asked-good items call.place (length args) values all (called items call.place (length args) call.takes)
    (args-word pattern facts params results args known words call.words) (length-map args (arg_value pattern facts)) in
    let named : written_callee callee ≡ Some call.place = ap written_callee call.by_name in
    subst (λ (o : Option ℕ). All (IsGood items) (asked_at items o values)) (sym named) (All-cons (IsGood items) (asked items call.place values) [] good (All-nil (IsGood items)))

calls-good : (items : List Item) (from params results : ℕ) (pattern : List Known) (facts : List Fact) (insts : List Inst) → AreStraightItems items → AreStraight items from params results insts → All IsWordKnown pattern → All IsWordFact facts
    → All (IsGood items) (flat_map (call_asks items pattern facts) insts)
calls-good items from params results pattern facts [] all s known words = All-nil (IsGood items)
calls-good items from params results pattern facts (i ∷ is) all s known words =
    All-append (IsGood items) (call_asks items pattern facts i) (flat_map (call_asks items pattern facts) is)
    (call-good items from params results pattern facts i all s.0 known words)
    (calls-good items from params (suc results) pattern facts is all s.1 known words)

found-good : (items : List Item) (place : ℕ) (pattern : List Known) (found : Option Item) → AreStraightItems items → slice_get items place ≡ found → IsFunctionFor pattern found
    → All (IsGood items) (flat_map (call_asks items pattern (facts_of pattern (insts_at found))) (insts_at found))
found-good items place pattern None all e is = absurd is
found-good items place pattern (Some (item.Var v)) all e is = absurd is
found-good items place pattern (Some (item.Func f)) all e is =
    let straight = func-at items place f all e in
    let insts = body_insts f.body in
    let same : insts ≡ straight.insts = insts-of f.body straight.insts straight.value straight.body in
    let block = subst (AreStraight items place (length f.params) 0) (sym same) straight.straight in
    let known = words-zip f.params pattern straight.words is.1 in
    calls-good items place (length f.params) 0 pattern (facts_of pattern insts) insts all block known
    (facts-word items place (length f.params) 0 pattern [] insts block (All-nil IsWordFact))

-- what a function of the items needs are functions of the items
pub needs-good : (items : List Item) (ask : Ask) → AreStraightItems items → IsGood items ask → All (IsGood items) (needs items ask (facts_of ask.pattern (insts_at (slice_get items ask.place))))
needs-good items ask all good =
    subst (All (IsGood items)) (sym (needs-are items ask (facts_of ask.pattern (insts_at (slice_get items ask.place)))))
    (found-good items ask.place ask.pattern (slice_get items ask.place) all refl good)

-- ---- a test of functions of the items

abbrev suits_known : Param → Known → Bool
suits_known param Unknown = true
suits_known param (Num n) = is_number_of param.ty n
suits_known param Null = is_pointer param.ty

abbrev suit : List Param → List Known → Bool
suit [] [] = true
suit [] (v ∷ vs) = false
suit (p ∷ ps) [] = false
suit (p ∷ ps) (v ∷ vs) = suits_known p v && suit ps vs

abbrev pub is_function_for : List Known → Option Item → Bool
is_function_for pattern None = false
is_function_for pattern (Some (item.Var v)) = false
is_function_for pattern (Some (item.Func f)) = is_some f.body && suit f.params pattern

abbrev pub is_good : List Item → Ask → Bool
is_good items ask = is_function_for ask.pattern (slice_get items ask.place)

pub both : (a b : Bool) → (a && b) ≡ true → (a ≡ true) × (b ≡ true)
both true b e = (refl, e)
both false b e = absurd (cc)

pub join : (a b : Bool) → a ≡ true → b ≡ true → (a && b) ≡ true
join a b e h = λ i. e i && h i

suits-from : (p : Param) (v : Known) → suits_known p v ≡ true → IsKnownOf p v
suits-from p Unknown e = tt
suits-from p (Num n) e = e
suits-from p Null e = e

suits-to : (p : Param) (v : Known) → IsKnownOf p v → suits_known p v ≡ true
suits-to p Unknown e = refl
suits-to p (Num n) e = e
suits-to p Null e = e

suit-from : (ps : List Param) (vs : List Known) → suit ps vs ≡ true → AllZip IsKnownOf ps vs
suit-from [] [] e = tt
suit-from [] (v ∷ vs) e = absurd (cc)
suit-from (p ∷ ps) [] e = absurd (cc)
suit-from (p ∷ ps) (v ∷ vs) e = let h = both (suits_known p v) (suit ps vs) e in (suits-from p v h.0, suit-from ps vs h.1)

suit-to : (ps : List Param) (vs : List Known) → AllZip IsKnownOf ps vs → suit ps vs ≡ true
suit-to [] [] zip = refl
suit-to [] (v ∷ vs) zip = absurd zip
suit-to (p ∷ ps) [] zip = absurd zip
suit-to (p ∷ ps) (v ∷ vs) zip = join (suits_known p v) (suit ps vs) (suits-to p v zip.0) (suit-to ps vs zip.1)

pub function-from : (pattern : List Known) (found : Option Item) → is_function_for pattern found ≡ true → IsFunctionFor pattern found
function-from pattern None e = absurd (cc)
function-from pattern (Some (item.Var v)) e = absurd (cc)
function-from pattern (Some (item.Func f)) e = let h = both (is_some f.body) (suit f.params pattern) e in (h.0, suit-from f.params pattern h.1)

pub function-to : (pattern : List Known) (found : Option Item) → IsFunctionFor pattern found → is_function_for pattern found ≡ true
function-to pattern None is = absurd is
function-to pattern (Some (item.Var v)) is = absurd is
function-to pattern (Some (item.Func f)) is = join (is_some f.body) (suit f.params pattern) is.0 (suit-to f.params pattern is.1)
