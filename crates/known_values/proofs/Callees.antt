-- The function that a call begins is the one that its instruction asks for, and its arguments suit what is asked.
use Rattle.std.proofs.Common.{◌≡◌, ◌∙◌, ℕ, zero, suc, pos, negsuc, Bool, true, false, List, ◌∷◌, length, map, slice_get, IsSome, IfSome, Option, Some, None, option_map, refl, sym, ap, subst, if◌then◌else◌}
use Rattle.std.specs.Prelude.{OnSome}
use Rattle.std.proofs.lemmas.Bool.{false≢true}
use Rattle.std.proofs.lemmas.List.{length-map}
use Rattle.ir_types.specs.declared.scalar.Known.{Known}
use Rattle.ir_types.specs.declared.scalar.Ext.{Ext}
use Rattle.ir_types.specs.declared.scalar.FnType.{FnType}
use Rattle.ir_types.proofs.ListSteps.{All-at}
use Rattle.ir_syntax.specs.declared.symbol.Sym.{Sym}
use Rattle.ir_syntax.specs.declared.symbol.Target.{Target}
use Rattle.ir_syntax.specs.declared.symbol.Target.TheVariants as target
use Rattle.ir_syntax.specs.declared.constant.Const.{Const, out-Const}
use Rattle.ir_syntax.specs.declared.constant.Const.TheOpen.{Const-F}
use Rattle.ir_syntax.specs.declared.constant.Operand.{Operand}
use Rattle.ir_syntax.specs.declared.constant.Operand.TheVariants as operand
use Rattle.ir_syntax.specs.declared.body.Arg.{Arg}
use Rattle.ir_syntax.specs.declared.body.Inst.{Inst}
use Rattle.ir_syntax.specs.declared.body.Inst.TheVariants.{Call}
use Rattle.ir_syntax.specs.declared.body.Body.{Body}
use Rattle.ir_syntax.specs.declared.item.Func.{Func}
use Rattle.ir_syntax.specs.declared.item.Item.{Item}
use Rattle.ir_syntax.specs.declared.item.Item.TheVariants as item
use Rattle.ir_syntax.specs.Callees.{place_in, written_callee}
use Rattle.ir_syntax.specs.FunctionTypes.{type_of}
use Rattle.ir_syntax.specs.Programs.{ProgramData, IsProgram}
use Rattle.ir_syntax.specs.Results.{results}
use Rattle.ir_syntax.specs.Symbols.{item_at}
use Rattle.ir_syntax.specs.Targets.{entry_at}
use Rattle.ir_syntax.specs.Typed.{Types, TypedInst, TypedBlock, TypedBody}
use Rattle.block_memory.specs.declared.value.Name.{Name}
use Rattle.block_memory.specs.declared.value.Name.TheVariants as name
use Rattle.block_memory.specs.declared.value.Val.{Val}
use Rattle.block_memory.specs.declared.value.Val.TheVariants as val
use Rattle.block_memory.specs.Answers.{Gives, and_then}
use Rattle.block_memory.specs.Starts.{name_as, name_of}
use Rattle.ir_steps.specs.States.{Frame}
use Rattle.ir_steps.specs.Operands.{constant_in, value_in, value, values}
use Rattle.ir_steps.specs.Calls.{callee_of, body_of}
use Rattle.fold_facts.specs.Places.{blocks_in}
use Rattle.fold_facts.proofs.Lists.{some_is}
use Rattle.demands.specs.declared.demand.Demand.TheVariants.{Func as function}
use Rattle.interface.specs.Asked.{is_specialised, all_unknown, pattern_for, definition, definition_of, by_call, by_name}
use Rattle.interface.specs.Names.{uses_beside}
use Rattle.known_values.specs.Suits.{AllSuit}
use Rattle.known_values.specs.Readings.{Reading, IsReading, demand_of}
use Rattle.known_values.specs.Frames.{IsFrameOf}
use Rattle.known_values.specs.Views.{known_in, asked_at, call_demand}
use Rattle.known_values.proofs.Giving.{then_read, then_some, map_some}
use Rattle.known_values.proofs.Targets.{target_is, type_of_definition, canonical_same}
use Rattle.known_values.proofs.Found.{asked_for, reading_item}
use Rattle.known_values.proofs.Beginning.{unknown_suit, known_suit, values_long, body_is}

abbrev pub arg_operands : List Arg → List Operand
arg_operands args = map (λ (a : Arg). a.value) args

-- A call of a function that is defined: its callee names a function of the type that it has written, which stands for the definition.
pub record Calls (p : ProgramData) (f : Frame) (fn_ty : FnType) (callee : Operand) (args : List Arg) (xs : List (Val Sym)) (of : Sym) (body : Body) : Type 0 where
  pub symbol : Sym
  pub reads : and_then callee_of (value p f callee) ≡ Gives symbol
  pub values_are : values p f (arg_operands args) ≡ Gives xs
  pub func : Func
  pub stands : item_at p.modules symbol ≡ Some (item.Func func)
  pub same : type_of func ≡ fn_ty
  pub to : entry_at p.targets symbol ≡ Some (target.Def of)
  pub has : body_of p of ≡ Some body

-- ---- which function

callee_named : (n : Name Sym) (symbol : Sym) → callee_of (val.At n (pos zero)) ≡ Gives symbol → n ≡ name.Func symbol
callee_named (name.Var other) symbol e = cc
callee_named (name.Func other) symbol e = cc
callee_named (name.Made number) symbol e = cc

address_named : (p : ProgramData) (home place : ℕ) (v : Val Sym) (symbol : Sym) → option_map (λ of. val.At of (pos zero)) (name_of p (record { «module» = home; item = place })) ≡ Some v → callee_of v ≡ Gives symbol
    → name_of p (record { «module» = home; item = place }) ≡ Some (name.Func symbol)
address_named p home place v symbol e g =
    let h = map_some (λ (of : Name Sym). val.At of (pos zero)) (name_of p (record { «module» = home; item = place })) v e in
    h.1 ∙ ap Some (callee_named h.0 symbol (ap callee_of h.2 ∙ g))

layer_named : (p : ProgramData) (home place : ℕ) (x : Const-F Const) (v : Val Sym) (symbol : Sym) → place_in x ≡ Some place → constant_in p home x ≡ Some v → callee_of v ≡ Gives symbol
    → name_of p (record { «module» = home; item = place }) ≡ Some (name.Func symbol)
layer_named p home place (Const-F.Int n) v symbol w e g = cc
layer_named p home place Const-F.Null v symbol w e g = cc
layer_named p home place (Const-F.Addr other (pos zero)) v symbol w e g =
    let same : other ≡ place = some_is w in
    address_named p home place v symbol (ap (λ k. option_map (λ (of : Name Sym). val.At of (pos zero)) (name_of p (record { «module» = home; item = k }))) (sym same) ∙ e) g
layer_named p home place (Const-F.Addr other (pos (suc n))) v symbol w e g = cc
layer_named p home place (Const-F.Addr other (negsuc n)) v symbol w e g = cc
layer_named p home place Const-F.Undef v symbol w e g = cc
layer_named p home place Const-F.Poison v symbol w e g = cc
layer_named p home place Const-F.Zero v symbol w e g = cc
layer_named p home place (Const-F.Text bytes) v symbol w e g = cc
layer_named p home place (Const-F.Many parts) v symbol w e g = cc

operand_named : (p : ProgramData) (f : Frame) (place : ℕ) (callee : Operand) (v : Val Sym) (symbol : Sym) → written_callee callee ≡ Some place → value_in p f callee ≡ Some v → callee_of v ≡ Gives symbol
    → name_of p (record { «module» = f.func.module; item = place }) ≡ Some (name.Func symbol)
operand_named p f place (operand.Param k) v symbol w e g = cc
operand_named p f place (operand.Reg k) v symbol w e g = cc
operand_named p f place (operand.Const c) v symbol w e g = layer_named p f.func.module place (out-Const c) v symbol w e g

name_is : (found : Item) (canonical symbol : Sym) → name_as found canonical ≡ name.Func symbol → canonical ≡ symbol
name_is (item.Var var) canonical symbol e = cc
name_is (item.Func func) canonical symbol e = cc

definition_is : (o : Option Target) (symbol : Sym) → definition o ≡ Some symbol → o ≡ Some (target.Def symbol)
definition_is None symbol e = cc
definition_is (Some (target.Def of)) symbol e = ap (λ s. Some (target.Def s)) (some_is e)
definition_is (Some target.Outside) symbol e = cc
definition_is (Some (target.Builtin builtin)) symbol e = cc
definition_is (Some (target.Intrinsic intrinsic)) symbol e = cc
definition_is (Some target.Nothing) symbol e = cc

-- A callee that is written as a name stands for what is called.
callee_is : (p : ProgramData) → IsProgram p → (f : Frame) (fn_ty : FnType) (callee : Operand) (args : List Arg) (xs : List (Val Sym)) (of : Sym) (body : Body) (place : ℕ) (asked : Sym) → Calls p f fn_ty callee args xs of body
    → written_callee callee ≡ Some place → definition_of p f.func.module place ≡ Some asked → asked ≡ of
callee_is p program f fn_ty callee args xs of body place asked c w d =
    let at : Sym = record { «module» = f.func.module; item = place } in
    let read = then_read callee_of (value_in p f callee) c.symbol c.reads in
    let named = operand_named p f place callee read.0 c.symbol w read.1 read.2 in
    let there = then_some (λ (found : Item). option_map (name_as found) (entry_at p.canonical at)) (item_at p.modules at) (name.Func c.symbol) named in
    let entry = map_some (name_as there.0) (entry_at p.canonical at) (name.Func c.symbol) there.2 in
    canonical_same p program at c.symbol asked of there.0 (item.Func c.func) there.1 c.stands (entry.1 ∙ ap Some (name_is there.0 entry.0 c.symbol entry.2))
    (definition_is (entry_at p.targets at) asked d) c.to

-- ---- how many arguments

-- the type of an instruction of a reading's block
typed_inst : (p : ProgramData) (r : Reading) (f : Frame) (inst : Inst) → IsReading p r → (h : IsFrameOf r f) → slice_get h.block.insts h.done ≡ Some inst → (types : Types) × TypedInst types inst
typed_inst p r f inst reading h here = of r.func.body refl reading.left.sound.typed.has_body
  where
    of : (o : Option Body) → r.func.body ≡ o → IfSome o (λ body. TypedBody (record { items = reading.home.items; params = map (λ param. param.ty) r.func.params; results = results body }) r.func.returns body.blocks)
        → (types : Types) × TypedInst types inst
    of None e t = absurd (false≢true (subst (λ o. IsSome o) e reading.left.defined))
    of (Some body) e t =
        let at = sym (ap (λ blocks. slice_get blocks f.block) (ap blocks_in e)) ∙ h.at in
        let block : TypedBlock (record { items = reading.home.items; params = map (λ param. param.ty) r.func.params; results = results body }) r.func.returns body.blocks f.block h.block =
        subst (λ o. IfSome o (TypedBlock (record { items = reading.home.items; params = map (λ param. param.ty) r.func.params; results = results body }) r.func.returns body.blocks f.block)) at (t.each f.block) in (
          record { items = reading.home.items; params = map (λ param. param.ty) r.func.params; results = results body },
          All-at (TypedInst (record { items = reading.home.items; params = map (λ param. param.ty) r.func.params; results = results body })) h.block.insts h.done inst block.insts here,
        )

-- There is an argument for each parameter.
args_long : (p : ProgramData) (program : IsProgram p) (r to : Reading) (f : Frame) (fn_ty : FnType) (ret_ext : Ext) (callee : Operand) (args : List Arg) (xs : List (Val Sym)) (of : Sym) (body : Body) → IsReading p r → (h : IsFrameOf r f)
    → slice_get h.block.insts h.done ≡ Some (Call fn_ty ret_ext callee args) → Calls p f fn_ty callee args xs of body → IsReading p to → to.symbol ≡ of → length xs ≡ length to.func.params
args_long p program r to f fn_ty ret_ext callee args xs of body reading h here c into same =
    let stands : item_at p.modules of ≡ Some (item.Func to.func) = ap (item_at p.modules) (sym same) ∙ reading_item p to into in
    let ty : type_of to.func ≡ fn_ty =
    type_of_definition p program c.symbol of c.func to.func c.stands stands (target_is p program c.symbol (item.Func c.func) (target.Def of) c.stands c.to) ∙ c.same in
    let fixed : to.func.variadic ≡ false = subst (λ o. OnSome o (to.func.variadic ≡ false)) (body_is p to of body into same c.has) into.left.sound.typed.fixed in
    let typed = typed_inst p r f (Call fn_ty ret_ext callee args) reading h here in
    values_long p r f (arg_operands args) xs h c.values_are ∙ length-map args (λ (a : Arg). a.value)
    ∙ typed.1.no_more (sym (ap (λ (t : FnType). t.variadic) ty) ∙ fixed) ∙ ap (λ (t : FnType). length t.params) (sym ty) ∙ length-map to.func.params (λ param. param.ty)

-- ---- what is asked of it

-- The reading is of what is called, and the arguments suit it.
pub record IsCalled (of : Sym) (xs : List (Val Sym)) (to : Reading) : Type 0 where
  pub symbol : to.symbol ≡ of
  pub suit : AllSuit to.pattern xs

function_parts : (a b : Sym) (x y : List Known) → function a x ≡ function b y → (a ≡ b) × (x ≡ y)
function_parts a b x y e = (cc, cc)

-- a call through a value
named_called : (p : ProgramData) (of : Sym) (xs : List (Val Sym)) (to : Reading) (found : Item) → IsReading p to → item_at p.modules of ≡ Some found → by_name of found ≡ demand_of to
    → (to.symbol ≡ of → length xs ≡ length to.func.params) → IsCalled of xs to
named_called p of xs to (item.Var var) into stands e long = cc
named_called p of xs to (item.Func func) into stands e long =
    let parts = function_parts of to.symbol (all_unknown func) to.pattern e in
    let one : func ≡ to.func = same_function (some_is (sym stands ∙ ap (item_at p.modules) parts.0 ∙ reading_item p to into)) in
    record {
      symbol = sym parts.0;
      suit = subst (λ pattern. AllSuit pattern xs) (ap all_unknown (sym one) ∙ parts.1) (unknown_suit to.func.params xs (long (sym parts.0)));
    }
  where
    same_function : item.Func func ≡ item.Func to.func → func ≡ to.func
    same_function h = cc

-- and one by a name
known_called : (p : ProgramData) (cycles : List (List Bool)) (known : List Known) (of asked : Sym) (xs : List (Val Sym)) (to : Reading) (found : Item) → IsReading p to → asked ≡ of → item_at p.modules asked ≡ Some found
    → by_call cycles known asked found ≡ demand_of to → AllSuit known xs → (to.symbol ≡ of → length xs ≡ length to.func.params) → IsCalled of xs to
known_called p cycles known of asked xs to (item.Var var) into same stands e suit long = cc
known_called p cycles known of asked xs to (item.Func func) into same stands e suit long =
    let parts = function_parts asked to.symbol (pattern_for cycles asked func known) to.pattern e in
    let symbol : to.symbol ≡ of = sym parts.0 ∙ same in
    let one : func ≡ to.func = same_function (some_is (sym stands ∙ ap (item_at p.modules) parts.0 ∙ reading_item p to into)) in
    record { symbol = symbol; suit = subst (λ pattern. AllSuit pattern xs) parts.1 (of_pattern (is_specialised cycles asked func) (subst (λ g. AllSuit (all_unknown g) xs) (sym one) (unknown_suit to.func.params xs (long symbol)))) }
  where
    same_function : item.Func func ≡ item.Func to.func → func ≡ to.func
    same_function h = cc

    of_pattern : (b : Bool) → AllSuit (all_unknown func) xs → AllSuit (if b then known else all_unknown func) xs
    of_pattern true any = suit
    of_pattern false any = any

pub callee_called : (p : ProgramData) (program : IsProgram p) (cycles : List (List Bool)) (r to : Reading) (f : Frame) (fn_ty : FnType) (ret_ext : Ext) (callee : Operand) (args : List Arg) (xs : List (Val Sym)) (of : Sym) (body : Body)
    → IsReading p r → (h : IsFrameOf r f) → slice_get h.block.insts h.done ≡ Some (Call fn_ty ret_ext callee args) → Calls p f fn_ty callee args xs of body → IsReading p to
    → call_demand p cycles r (Call fn_ty ret_ext callee args) of ≡ Some (demand_of to) → IsCalled of xs to
callee_called p program cycles r to f fn_ty ret_ext callee args xs of body reading h here c into e = by (written_callee callee) refl e
  where
    long : to.symbol ≡ of → length xs ≡ length to.func.params
    long = args_long p program r to f fn_ty ret_ext callee args xs of body reading h here c into

    by : (o : Option ℕ) → written_callee callee ≡ o → asked_at p cycles of r.symbol.module (option_map (λ place. (place, map (known_in r) (uses_beside o (callee ∷ arg_operands args)))) o) ≡ Some (demand_of to) → IsCalled of xs to
    by None w d =
        let asked = asked_for by_name p (Some of) (demand_of to) d in
        let same : of ≡ asked.symbol = some_is asked.is in
        named_called p of xs to asked.item into (ap (item_at p.modules) same ∙ asked.stands) (ap (λ s. by_name s asked.item) same ∙ asked.asked) long
    by (Some place) w d =
        let known = map (known_in r) (arg_operands args) in
        let asked = asked_for (by_call cycles known) p (definition_of p r.symbol.module place) (demand_of to) d in
        let same : asked.symbol ≡ of =
        callee_is p program f fn_ty callee args xs of body place asked.symbol c w (ap (λ (s : Sym). definition_of p s.module place) h.func ∙ asked.is) in
        known_called p cycles known of asked.symbol xs to asked.item into same asked.stands asked.asked (known_suit p r f (arg_operands args) xs h c.values_are) long
