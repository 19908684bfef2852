-- The edges between numbers are the calls between functions.
use Rattle.std.proofs.Common.{◌≡◌, ◌∙◌, inl, inr, ℕ, zero, suc, ◌+◌, ◌<◌, List, [], ◌∷◌, Option, None, Some, IsSome, Contains, length, map, refl, sym, ap, subst, arith}
use Rattle.std.specs.Prelude.{slice_get, option_and_then}
use Rattle.std.specs.List.{cons_option, filter_map, flat_map}
use Rattle.std.proofs.lemmas.Option.{none-some}
use Rattle.std.proofs.lemmas.Bool.{false≢true}
use Rattle.std.proofs.lemmas.List.Elements.{Contains-append_left, Contains-append_right, Contains-append_cases}
use Rattle.ir_syntax.specs.declared.symbol.Sym.{Sym}
use Rattle.ir_syntax.specs.declared.symbol.Target.{Target}
use Rattle.ir_syntax.specs.declared.symbol.Target.TheVariants as target
use Rattle.ir_syntax.specs.declared.body.Inst.{Inst}
use Rattle.ir_syntax.specs.declared.body.Block.{Block}
use Rattle.ir_syntax.specs.declared.body.Body.{Body}
use Rattle.ir_syntax.specs.declared.item.Func.{Func}
use Rattle.ir_syntax.specs.declared.item.Item.{Item}
use Rattle.ir_syntax.specs.declared.item.Item.TheVariants as item
use Rattle.ir_syntax.specs.declared.item.Module.{Module}
use Rattle.ir_syntax.specs.Callees.{inst_callee}
use Rattle.ir_syntax.specs.Symbols.{item_at, IsDefinedFunction}
use Rattle.ir_syntax.specs.Targets.{entry_at}
use Rattle.call_cycles.specs.Mirrors.Numbering.{body_in, numbered, module_numbers, number_of, lead, leads_from, looked_up, inst_end, block_ends, body_row}
use Rattle.call_cycles.proofs.Lists.{some_is, within, contains_none, contains_here, contains_there, contains_cases}
use Rattle.call_cycles.proofs.Numbering.{number_there}

-- ---- what a row holds

-- a name that is called, with the number of the function for which it stands
pub record IsNamed (leads : List (Option ℕ)) (named : List ℕ) (v : ℕ) : Type 0 where
  pub place : ℕ
  pub has : Contains named place
  pub leads_to : looked_up leads place ≡ Some v

pub insts_named : (leads : List (Option ℕ)) (insts : List Inst) (v : ℕ) → Contains (filter_map (inst_end leads) insts) v → IsNamed leads (filter_map inst_callee insts) v
insts_named leads [] v c = absurd (contains_none v c)
insts_named leads (i ∷ is) v c = by (inst_callee i) c (λ k. insts_named leads is v k)
  where
    more : IsNamed leads (filter_map inst_callee is) v → (p : ℕ) → IsNamed leads (p ∷ filter_map inst_callee is) v
    more h p = record { place = h.place; has = contains_there p h.place (filter_map inst_callee is) h.has; leads_to = h.leads_to }

    known : (p : ℕ) (o : Option ℕ) → looked_up leads p ≡ o → Contains (cons_option o (filter_map (inst_end leads) is)) v → (Contains (filter_map (inst_end leads) is) v → IsNamed leads (filter_map inst_callee is) v)
        → IsNamed leads (p ∷ filter_map inst_callee is) v
    known p None e k rest = more (rest k) p
    known p (Some n) e k rest = elim (contains_cases n v (filter_map (inst_end leads) is) k) [
      | inl same ↦ record { place = p; has = contains_here p (filter_map inst_callee is); leads_to = e ∙ ap (λ m. Some m) same }
      | inr later ↦ more (rest later) p
    ]

    by : (o : Option ℕ) → Contains (cons_option (option_and_then (looked_up leads) o) (filter_map (inst_end leads) is)) v → (Contains (filter_map (inst_end leads) is) v → IsNamed leads (filter_map inst_callee is) v)
        → IsNamed leads (cons_option o (filter_map inst_callee is)) v
    by None k rest = rest k
    by (Some p) k rest = known p (looked_up leads p) refl k rest

pub named_insts : (leads : List (Option ℕ)) (insts : List Inst) (v : ℕ) → IsNamed leads (filter_map inst_callee insts) v → Contains (filter_map (inst_end leads) insts) v
named_insts leads [] v h = absurd (contains_none h.place h.has)
named_insts leads (i ∷ is) v h = by (inst_callee i) h.has (λ c. named_insts leads is v (record { place = h.place; has = c; leads_to = h.leads_to }))
  where
    add : (o : Option ℕ) → Contains (filter_map (inst_end leads) is) v → Contains (cons_option o (filter_map (inst_end leads) is)) v
    add None c = c
    add (Some n) c = contains_there n v (filter_map (inst_end leads) is) c

    by : (o : Option ℕ) → Contains (cons_option o (filter_map inst_callee is)) h.place → (Contains (filter_map inst_callee is) h.place → Contains (filter_map (inst_end leads) is) v)
        → Contains (cons_option (option_and_then (looked_up leads) o) (filter_map (inst_end leads) is)) v
    by None c rest = rest c
    by (Some p) c rest = elim (contains_cases p h.place (filter_map inst_callee is) c) [
      | inl same ↦ subst (λ o. Contains (cons_option o (filter_map (inst_end leads) is)) v) (sym (ap (looked_up leads) same ∙ h.leads_to)) (contains_here v (filter_map (inst_end leads) is))
      | inr more ↦ add (looked_up leads p) (rest more)
    ]

pub blocks_named : (leads : List (Option ℕ)) (blocks : List Block) (v : ℕ) → Contains (block_ends leads blocks) v → IsNamed leads (flat_map (λ block. filter_map inst_callee block.insts) blocks) v
blocks_named leads [] v c = absurd (contains_none v c)
blocks_named leads (b ∷ bs) v c = elim (Contains-append_cases (filter_map (inst_end leads) b.insts) (block_ends leads bs) v c) [
  | inl here ↦
      let h = insts_named leads b.insts v here in
      record { place = h.place; has = Contains-append_left (filter_map inst_callee b.insts) (flat_map (λ block. filter_map inst_callee block.insts) bs) h.place h.has; leads_to = h.leads_to }
  | inr more ↦
      let h = blocks_named leads bs v more in
      record { place = h.place; has = Contains-append_right (filter_map inst_callee b.insts) (flat_map (λ block. filter_map inst_callee block.insts) bs) h.place h.has; leads_to = h.leads_to }
]

pub named_blocks : (leads : List (Option ℕ)) (blocks : List Block) (v : ℕ) → IsNamed leads (flat_map (λ block. filter_map inst_callee block.insts) blocks) v → Contains (block_ends leads blocks) v
named_blocks leads [] v h = absurd (contains_none h.place h.has)
named_blocks leads (b ∷ bs) v h = elim (Contains-append_cases (filter_map inst_callee b.insts) (flat_map (λ block. filter_map inst_callee block.insts) bs) h.place h.has) [
  | inl here ↦ Contains-append_left (filter_map (inst_end leads) b.insts) (block_ends leads bs) v (named_insts leads b.insts v (record { place = h.place; has = here; leads_to = h.leads_to }))
  | inr more ↦ Contains-append_right (filter_map (inst_end leads) b.insts) (block_ends leads bs) v (named_blocks leads bs v (record { place = h.place; has = more; leads_to = h.leads_to }))
]

-- ---- where names lead

leads_at : (targets : List (List Target)) (numbers : List (List (Option ℕ))) (home at : ℕ) (xs : List Item) (i place : ℕ) → at + i ≡ place → i < length xs
    → slice_get (leads_from targets numbers home at xs) i ≡ Some (lead numbers (entry_at targets (record { «module» = home; item = place })))
leads_at targets numbers home at [] i place is less = absurd (omega arith)
leads_at targets numbers home at (x ∷ xs) zero place is less = ap (λ p. Some (lead numbers (entry_at targets (record { «module» = home; item = p })))) (omega arith)
leads_at targets numbers home at (x ∷ xs) (suc i) place is less = leads_at targets numbers home (suc at) xs i place (omega arith) (omega arith)

leads_long : (targets : List (List Target)) (numbers : List (List (Option ℕ))) (home at : ℕ) (xs : List Item) → length (leads_from targets numbers home at xs) ≡ length xs
leads_long targets numbers home at [] = refl
leads_long targets numbers home at (x ∷ xs) = ap suc (leads_long targets numbers home (suc at) xs)

looked_within : (leads : List (Option ℕ)) (place v : ℕ) → looked_up leads place ≡ Some v → place < length leads
looked_within leads place v h = by (slice_get leads place) refl h
  where
    by : (o : Option (Option ℕ)) → slice_get leads place ≡ o → option_and_then (λ number. number) o ≡ Some v → place < length leads
    by None e k = absurd (none-some v k)
    by (Some n) e k = within leads place n e

-- the definition for which an item stands
pub record IsLead (targets : List (List Target)) (numbers : List (List (Option ℕ))) (symbol : Sym) (v : ℕ) : Type 0 where
  pub to : Sym
  pub stands_for : entry_at targets symbol ≡ Some (target.Def to)
  pub number : number_of numbers to ≡ Some v

lead_is : (targets : List (List Target)) (numbers : List (List (Option ℕ))) (symbol : Sym) (v : ℕ) → lead numbers (entry_at targets symbol) ≡ Some v → IsLead targets numbers symbol v
lead_is targets numbers symbol v h = by (entry_at targets symbol) refl h
  where
    by : (o : Option Target) → entry_at targets symbol ≡ o → lead numbers o ≡ Some v → IsLead targets numbers symbol v
    by None e k = absurd (none-some v k)
    by (Some (target.Def to)) e k = record { to = to; stands_for = e; number = k }
    by (Some target.Outside) e k = absurd (none-some v k)
    by (Some (target.Builtin b)) e k = absurd (none-some v k)
    by (Some (target.Intrinsic i)) e k = absurd (none-some v k)
    by (Some target.Nothing) e k = absurd (none-some v k)

pub looked_up_is : (targets : List (List Target)) (numbers : List (List (Option ℕ))) (home : ℕ) (xs : List Item) (place v : ℕ) → looked_up (leads_from targets numbers home 0 xs) place ≡ Some v
    → IsLead targets numbers (record { «module» = home; item = place }) v
looked_up_is targets numbers home xs place v h =
    let less : place < length xs = omega (arith, looked_within (leads_from targets numbers home 0 xs) place v h, leads_long targets numbers home 0 xs) in
    lead_is targets numbers (record { «module» = home; item = place }) v (sym (ap (option_and_then (λ number. number)) (leads_at targets numbers home 0 xs place place (omega arith) less)) ∙ h)

pub is_looked_up : (targets : List (List Target)) (numbers : List (List (Option ℕ))) (home : ℕ) (xs : List Item) (place v : ℕ) (to : Sym) → place < length xs
    → entry_at targets (record { «module» = home; item = place }) ≡ Some (target.Def to) → number_of numbers to ≡ Some v → looked_up (leads_from targets numbers home 0 xs) place ≡ Some v
is_looked_up targets numbers home xs place v to less is number =
    ap (option_and_then (λ n. n)) (leads_at targets numbers home 0 xs place place (omega arith) less) ∙ ap (lead numbers) is ∙ number

-- an item that stands for something is there
pub entry_within : {A : Type 0} (ms : List Module) (entries : List (List A)) (home item : ℕ) (m : Module) (x : A) → map length entries ≡ map (λ one. length one.items) ms → slice_get ms home ≡ Some m
    → option_and_then (λ row. slice_get row item) (slice_get entries home) ≡ Some x → item < length m.items
entry_within [] entries home item m x long at is = absurd (none-some m at)
entry_within (y ∷ ms) [] home item m x long at is = absurd (none-some x is)
entry_within {A} (y ∷ ms) (row ∷ entries) zero item m x long at is =
    let same : y ≡ m = some_is at in
    let one : length row ≡ length y.items = head_is (length row) (length y.items) (map length entries) (map (λ k. length k.items) ms) long in
    omega (arith, within row item x is, one, ap (λ k. length k.items) same)
  where
    head_is : (a b : ℕ) (xs ys : List ℕ) → a ∷ xs ≡ b ∷ ys → a ≡ b
    head_is a b xs ys e = cc
entry_within {A} (y ∷ ms) (row ∷ entries) (suc home) item m x long at is =
    entry_within ms entries home item m x (tail_is (length row) (length y.items) (map length entries) (map (λ k. length k.items) ms) long) at is
  where
    tail_is : (a b : ℕ) (xs ys : List ℕ) → a ∷ xs ≡ b ∷ ys → xs ≡ ys
    tail_is a b xs ys e = cc

-- ---- calls

pub function_in : (found : Item) (body : Body) → body_in found ≡ Some body → (func : Func) × (found ≡ item.Func func) × (func.body ≡ Some body)
function_in (item.Var var) body h = absurd (none-some body h)
function_in (item.Func func) body h = (func, refl, h)

pub defined_in : (o : Option Item) (found : Item) (body : Body) → o ≡ Some found → body_in found ≡ Some body → IsDefinedFunction o
defined_in o found body is has = subst IsDefinedFunction (sym is) (by found has)
  where
    by : (x : Item) → body_in x ≡ Some body → IsDefinedFunction (Some x)
    by (item.Var var) h = absurd (none-some body h)
    by (item.Func func) h = subst IsSome (sym h) refl

-- a function that is defined has a number
pub defined_number : (ms : List Module) (symbol : Sym) → IsDefinedFunction (item_at ms symbol) → (k : ℕ) × (number_of (module_numbers 0 ms) symbol ≡ Some k)
defined_number ms symbol h = by (item_at ms symbol) refl h
  where
    has : (func : Func) (o : Option Body) → func.body ≡ o → item_at ms symbol ≡ Some (item.Func func) → IsSome o → (k : ℕ) × (number_of (module_numbers 0 ms) symbol ≡ Some k)
    has func None e is some = absurd (false≢true some)
    has func (Some body) e is some =
        let n = number_there ms symbol (item.Func func) is in
        (n.0, ap (option_and_then (λ number. number)) n.1 ∙ ap (numbered n.0) e)

    by : (o : Option Item) → item_at ms symbol ≡ o → IsDefinedFunction o → (k : ℕ) × (number_of (module_numbers 0 ms) symbol ≡ Some k)
    by None e d = absurd d
    by (Some (item.Var var)) e d = absurd d
    by (Some (item.Func func)) e d = has func func.body refl e d

abbrev pub row_here : List (List Target) → List (List (Option ℕ)) → ℕ → Module → ℕ → Body → List ℕ
row_here targets numbers home m at body = body_row (leads_from targets numbers home 0 m.items) at body
