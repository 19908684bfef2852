-- Steps of the loops that make operands, instructions and functions.
use Rattle.std.proofs.Common.{◌≡◌, ◌∙◌, ℕ, ◌+◌, ◌<◌, Bool, true, false, cond, not, ◌&&◌, List, [], ◌∷◌, ◌++◌, length, take, drop, map, replicate, get_or, pos, Option, Some, None, option_map, option_and_then, refl, sym, ap}
use Rattle.std.specs.List.{list_all}
use Rattle.std.proofs.lemmas.List.{map-append, length-map}
use Rattle.std.proofs.lemmas.Bool.{false≢true}
use Rattle.std.proofs.lemmas.List.Folds.{list_all_at}
use Rattle.ir_types.specs.declared.scalar.Scalar.TheVariants.{I32}
use Rattle.ir_types.specs.declared.scalar.Ext.TheVariants.{Plain}
use Rattle.ir_syntax.specs.declared.constant.Const.TheVariants as const
use Rattle.ir_syntax.specs.declared.constant.Operand.{Operand}
use Rattle.ir_syntax.specs.declared.constant.Operand.TheVariants as operand
use Rattle.ir_syntax.specs.declared.body.Arg.{Arg}
use Rattle.ir_syntax.specs.declared.body.Inst.{Inst}
use Rattle.ir_syntax.specs.declared.body.Inst.TheVariants as inst
use Rattle.ir_syntax.specs.declared.body.Body.{Body}
use Rattle.ir_syntax.specs.declared.item.Param.{Param}
use Rattle.ir_syntax.specs.declared.item.Item.{Item}
use Rattle.ir_syntax.specs.declared.item.Item.TheVariants as item
use Rattle.ir_syntax.specs.declared.item.Linkage.{Linkage}
use Rattle.ir_syntax.specs.declared.item.Linkage.TheVariants.{External, Internal}
use Rattle.ir_syntax.specs.Straight.{word_param, word_type}
use Rattle.straight_form.specs.declared.surface.Value.{Value}
use Rattle.straight_form.specs.declared.surface.Line.{Line}
use Rattle.straight_form.specs.declared.surface.Entity.{Entity}
use Rattle.name_table.specs.Places.{is_among, place_among, are_distinct}
use Rattle.straight_form.specs.Names.{is_name}
use Rattle.straight_form.specs.Resolved.{local_of, operand_of, operands_of, word_arg, call_of, are_few, name_of, inst_of, insts_of, are_params, body_of, func_of}
use Rattle.straight_reader.specs.Readings.{extended}
use Rattle.straight_reader.specs.Forms.{call_with, call_named, step_of}
use Rattle.straight_reader.proofs.Reading.{extended-more}
use Rattle.straight_reader.proofs.NameLists.{next, one_more, placed_among, not_placed}

-- ---- operands

pub param_found : (params registers : List (List ℕ)) (name : List ℕ) (k : ℕ) → place_among name params ≡ Some k → local_of params registers name ≡ Some (operand.Param k)
param_found params registers name k e =
    ap (λ b. cond b (option_map (λ j. operand.Param j) (place_among name params)) (option_map (λ j. operand.Reg j) (place_among name registers))) (placed_among name params k e)
    ∙ ap (option_map (λ j. operand.Param j)) e

pub register_found : (params registers : List (List ℕ)) (name : List ℕ) (o : Option ℕ) → place_among name params ≡ None → place_among name registers ≡ o → local_of params registers name ≡ option_map (λ j. operand.Reg j) o
register_found params registers name o e f =
    ap (λ b. cond b (option_map (λ j. operand.Param j) (place_among name params)) (option_map (λ j. operand.Reg j) (place_among name registers))) (not_placed name params e)
    ∙ ap (option_map (λ j. operand.Reg j)) f

-- ---- arguments

abbrev args_of : List (List ℕ) → List (List ℕ) → List Value → Option (List Arg)
args_of params registers vs = option_map (map word_arg) (operands_of params registers vs)

arg-step : (params registers : List (List ℕ)) (v : Value) (vs : List Value) →
    args_of params registers (v ∷ vs) ≡ option_and_then (λ x. option_map (λ args. word_arg x ∷ args) (args_of params registers vs)) (operand_of params registers v)
arg-step params registers v vs = cases (operand_of params registers v) (operands_of params registers vs)
  where
    cases : (o : Option Operand) (p : Option (List Operand)) →
        option_map (map word_arg) (option_and_then (λ x. option_map (λ xs. x ∷ xs) p) o) ≡ option_and_then (λ x. option_map (λ args. word_arg x ∷ args) (option_map (map word_arg) p)) o
    cases None p = refl
    cases (Some x) None = refl
    cases (Some x) (Some xs) = refl

pub more_args : (params registers : List (List ℕ)) (vs : List Value) (at : ℕ) (v : Value) (args : List Arg) (x : Operand) → at < length vs → v ≡ get_or vs at v →
    Some x ≡ operand_of params registers v →
    extended (args ++ word_arg x ∷ []) (option_map (map word_arg) (operands_of params registers (drop (at + 1) vs))) ≡ extended args (option_map (map word_arg) (operands_of params registers (drop at vs)))
more_args params registers vs at v args x within here made =
    sym (extended-more args (word_arg x) (args_of params registers (drop (at + 1) vs)))
    ∙ ap (extended args)
    (ap (option_and_then (λ x. option_map (λ args. word_arg x ∷ args) (args_of params registers (drop (at + 1) vs)))) made
    ∙ sym (arg-step params registers v (drop (at + 1) vs))
    ∙ ap (args_of params registers) (sym (next vs at v within here)))

pub bad_arg : (params registers : List (List ℕ)) (vs : List Value) (at : ℕ) (v : Value) (args : List Arg) → at < length vs → v ≡ get_or vs at v →
    None ≡ operand_of params registers v → None ≡ extended args (option_map (map word_arg) (operands_of params registers (drop at vs)))
bad_arg params registers vs at v args within here made =
    ap (extended args)
    (ap (option_and_then (λ x. option_map (λ args. word_arg x ∷ args) (args_of params registers (drop (at + 1) vs)))) made
    ∙ sym (arg-step params registers v (drop (at + 1) vs))
    ∙ ap (args_of params registers) (sym (next vs at v within here)))

-- ---- calls

-- a call is made of its arguments
call_made : (place : ℕ) (o : Option (List Operand)) → option_map (λ ws. call_of place ws) o ≡ option_map (λ args. call_with place args) (option_map (map word_arg) o)
call_made place None = refl
call_made place (Some ws) =
    ap (λ n. Some (inst.Call (word_type n) Plain (operand.Const (const.Addr place (pos 0))) (map word_arg ws))) (sym (length-map ws word_arg))

pub call_by : (functions params registers : List (List ℕ)) (callee : List ℕ) (values : List Value) (place : ℕ) → are_few values ≡ true → place_among callee functions ≡ Some place →
    call_named functions params registers callee values ≡ option_map (λ args. call_with place args) (option_map (map word_arg) (operands_of params registers values))
call_by functions params registers callee values place few there =
    ap (λ b. cond b (option_and_then (λ place. option_map (λ ws. call_of place ws) (operands_of params registers values)) (place_among callee functions)) None) few
    ∙ ap (option_and_then (λ place. option_map (λ ws. call_of place ws) (operands_of params registers values))) there
    ∙ call_made place (operands_of params registers values)

pub no_callee : (functions params registers : List (List ℕ)) (callee : List ℕ) (values : List Value) → place_among callee functions ≡ None → call_named functions params registers callee values ≡ None
no_callee functions params registers callee values absent =
    ap (λ o. cond (are_few values) (option_and_then (λ place. option_map (λ ws. call_of place ws) (operands_of params registers values)) o) None) absent ∙ both (are_few values)
  where
    both : (b : Bool) → ◌≡◌ {A = Option Inst} (cond b None None) None
    both true = refl
    both false = refl

-- ---- instructions

-- what holds of each holds of one
pub all_at : {X : Type 0} (p : X → Bool) (xs : List X) (i : ℕ) (x : X) → list_all p xs ≡ true → i < length xs → x ≡ get_or xs i x → p x ≡ true
all_at p xs i x all within here = cases (p x) refl
  where
    cases : (b : Bool) → p x ≡ b → p x ≡ true
    cases true e = e
    cases false e = absurd (false≢true (sym (list_all_at p xs i x within (ap p (sym here) ∙ e)) ∙ all))

-- the instructions behind a first one
abbrev behind : List (List ℕ) → List (List ℕ) → List (List ℕ) → Line → List Line → Inst → Option (List Inst)
behind functions params registers line lines i = option_map (λ is. i ∷ is) (insts_of functions params (registers ++ name_of line ∷ []) lines)

inst-step : (functions params registers : List (List ℕ)) (line : Line) (lines : List Line) → is_name (name_of line) ≡ true →
    insts_of functions params registers (line ∷ lines) ≡ option_and_then (behind functions params registers line lines) (step_of functions params registers line)
inst-step functions params registers line lines named =
    ap (λ b. cond (b && not (is_among (name_of line) params) && not (is_among (name_of line) registers)) (option_and_then (behind functions params registers line lines) (inst_of functions params registers line)) None) named
    ∙ cases (not (is_among (name_of line) params) && not (is_among (name_of line) registers))
  where
    cases : (t : Bool) → cond t (option_and_then (behind functions params registers line lines) (inst_of functions params registers line)) None
        ≡ option_and_then (behind functions params registers line lines) (cond t (inst_of functions params registers line) None)
    cases true = refl
    cases false = refl

-- one more instruction
pub more_insts : (functions params registers new : List (List ℕ)) (lines : List Line) (at : ℕ) (line : Line) (insts : List Inst) (i : Inst) → list_all (λ l. is_name (name_of l)) lines ≡ true →
    at < length lines → line ≡ get_or lines at line → Some i ≡ step_of functions params registers line → new ≡ registers ++ name_of line ∷ [] →
    extended (insts ++ i ∷ []) (insts_of functions params new (drop (at + 1) lines)) ≡ extended insts (insts_of functions params registers (drop at lines))
more_insts functions params registers new lines at line insts i named within here made added =
    ap (λ r. extended (insts ++ i ∷ []) (insts_of functions params r (drop (at + 1) lines))) added
    ∙ sym (extended-more insts i (insts_of functions params (registers ++ name_of line ∷ []) (drop (at + 1) lines)))
    ∙ ap (extended insts)
    (ap (option_and_then (behind functions params registers line (drop (at + 1) lines))) made
    ∙ sym (inst-step functions params registers line (drop (at + 1) lines) (all_at (λ l. is_name (name_of l)) lines at line named within here))
    ∙ ap (insts_of functions params registers) (sym (next lines at line within here)))

pub more_registers : (registers new : List (List ℕ)) (lines : List Line) (at : ℕ) (line : Line) → at < length lines → line ≡ get_or lines at line → registers ≡ map name_of (take at lines) → new ≡ registers ++ name_of line ∷ [] → new ≡ map name_of (take (at + 1) lines)
more_registers registers new lines at line within here r added =
    added ∙ ap (λ ns. ns ++ name_of line ∷ []) r ∙ sym (map-append name_of (take at lines) (line ∷ [])) ∙ ap (map name_of) (sym (one_more lines at line within here))

-- a line without an instruction
pub bad_inst : (functions params registers : List (List ℕ)) (lines : List Line) (at : ℕ) (line : Line) (insts : List Inst) → list_all (λ l. is_name (name_of l)) lines ≡ true →
    at < length lines → line ≡ get_or lines at line → None ≡ step_of functions params registers line → None ≡ extended insts (insts_of functions params registers (drop at lines))
bad_inst functions params registers lines at line insts named within here made =
    ap (extended insts)
    (ap (option_and_then (behind functions params registers line (drop (at + 1) lines))) made
    ∙ sym (inst-step functions params registers line (drop (at + 1) lines) (all_at (λ l. is_name (name_of l)) lines at line named within here))
    ∙ ap (insts_of functions params registers) (sym (next lines at line within here)))

-- ---- parameters

pub params_same : (names : List (List ℕ)) → map (λ (name : List ℕ). word_param) names ≡ replicate (length names) word_param
params_same [] = refl
params_same (n ∷ ns) = ap (λ ps. word_param ∷ ps) (params_same ns)

pub doubled_params : (names : List (List ℕ)) → are_distinct names ≡ false → are_params names ≡ false
doubled_params names e = ap (λ b. are_few names && list_all is_name names && b) e ∙ last_false (are_few names && list_all is_name names)
  where
    last_false : (b : Bool) → (b && false) ≡ false
    last_false true = refl
    last_false false = refl

-- ---- functions

abbrev pub linkage_for : Bool → Linkage
linkage_for internal = cond internal Internal External

-- the function of a definition with a body
abbrev pub func_with : Entity → Body → Item
func_with e body =
    item.Func (record {
      name = e.name;
      linkage = linkage_for e.internal;
      returns = Some I32;
      ret_ext = Plain;
      params = map (λ (name : List ℕ). word_param) e.params;
      variadic = false;
      body = Some body;
    })

pub func_made : (functions : List (List ℕ)) (e : Entity) (name : List ℕ) (body : Body) (linkage : Linkage) (params : List Param) → name ≡ e.name → linkage ≡ linkage_for e.internal →
    params ≡ map (λ (name : List ℕ). word_param) e.params → Some body ≡ body_of functions e →
    Some (item.Func (record { name = name; linkage = linkage; returns = Some I32; ret_ext = Plain; params = params; variadic = false; body = Some body })) ≡ func_of functions e
func_made functions e name body linkage params n l p b =
    ap (λ n. Some (item.Func (record { name = n; linkage = linkage; returns = Some I32; ret_ext = Plain; params = params; variadic = false; body = Some body }))) n
    ∙ ap (λ l. Some (item.Func (record { name = e.name; linkage = l; returns = Some I32; ret_ext = Plain; params = params; variadic = false; body = Some body }))) l
    ∙ ap (λ p. Some (item.Func (record { name = e.name; linkage = linkage_for e.internal; returns = Some I32; ret_ext = Plain; params = p; variadic = false; body = Some body }))) p
    ∙ ap (option_map (func_with e)) b
