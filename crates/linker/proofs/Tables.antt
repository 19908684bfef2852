-- What the slots of all external names say.
use Rattle.std.proofs.Common.{◌≡◌, ◌≢◌, ◌∙◌, inl, inr, ℕ, zero, suc, ◌+◌, ◌<◌, ◌≤◌, Bool, true, false, cond, List, [], ◌∷◌, ◌++◌, length, take, get_or, Option, None, Some, option_and_then, option_map, bytes_eq, refl, sym, ap, subst, arith, IsTrue}
use Rattle.std.specs.List.{All, AllZip, Contains, slice_get}
use Rattle.std.specs.declared.cmp.Ordering.TheVariants.{Less}
use Rattle.std.specs.Cmp.Lexicographic.{slice_cmp}
use Rattle.std.specs.Ordering.{nat_cmp}
use Rattle.std.proofs.lemmas.Bool.{false≢true}
use Rattle.std.proofs.lemmas.List.Elements.{All-contains, All-push, All-weaker, Contains-push, Contains-append_left}
use Rattle.std.proofs.lemmas.List.{take_all, take_more}
use Rattle.ir_syntax.specs.declared.symbol.Sym.{Sym}
use Rattle.ir_syntax.specs.declared.symbol.Target.{Target}
use Rattle.ir_syntax.specs.declared.symbol.Target.TheVariants as target
use Rattle.ir_syntax.specs.declared.item.Func.{Func}
use Rattle.ir_syntax.specs.declared.item.Item.{Item}
use Rattle.ir_syntax.specs.declared.item.Item.TheVariants as item
use Rattle.ir_syntax.specs.declared.item.Module.{Module}
use Rattle.ir_syntax.specs.Symbols.{item_at, is_defined, IsItemOf, IsDefinitionOf, IsFunctionOf}
use Rattle.ir_syntax.specs.Refusals.{Deployment, HasTwoDefinitions, LacksFunction, Breaks, IsKept, IsLeast}
use Rattle.ir_syntax.specs.Targets.{StandsFor, StandsAs}
use Rattle.ir_syntax.specs.Programs.{IsNamedFunction}
use Rattle.name_table.specs.Places.{place_among, is_among}
use Rattle.name_table.proofs.NameLists.{same, placed_among, not_placed}
use Rattle.linker.specs.declared.slot.Slot.{Slot}
use Rattle.linker.specs.declared.slot.NameRule.{NameRule}
use Rattle.linker.specs.declared.slot.NameRule.TheVariants.{OneDefinition, Defined, OneType}
use Rattle.linker.specs.Mirrors.Items.{is_function, function_at, is_same, name_or_none, name_at}
use Rattle.linker.specs.Mirrors.Groups.{symbols_of, symbols_in, AreGroups}
use Rattle.linker.specs.Mirrors.Slots.{IsSlot, Says, IsTable, slot_of, breaks, rule_of, IsBelow, IsLeastSlot, function_of, function_in}
use Rattle.linker.specs.declared.group.Group.{Group}
use Rattle.linker.proofs.Lists.{contains_none, get_contains, zip_beside, zip_before, zip_through}
use Rattle.linker.proofs.NameOrder.{not_less, not_below_itself}
use Rattle.linker.proofs.Members.{members_from}
use Rattle.linker.proofs.Judging.{same_symbol, symbol_same}

-- ---- the table of the groups

pub table_is : (modules : List Module) (listed names : List (List ℕ)) (groups : List Group) (slots : List Slot) → AreGroups (symbols_of modules) names groups → AllZip (Says modules listed) groups slots → IsTable modules listed names slots
table_is modules listed names groups slots h say = record {
  each = zip_through (λ name group. symbols_in group ≡ symbols_of modules name) (Says modules listed) (IsSlot modules listed) (λ name group slot is says. says name is) names groups slots h.each say;
  all = λ name symbol found is. by name symbol found is (is_among name names) refl;
}
  where
    by : (name : List ℕ) (symbol : Sym) (found : Item) → IsItemOf modules name symbol found → (b : Bool) → is_among name names ≡ b → b ≡ true
    by name symbol found is true e = refl
    by name symbol found is false e = absurd (contains_none symbol (subst (λ xs. Contains xs symbol) (h.others name e) (members_from modules name symbol found is)))

-- ---- the slot of a name

placed_is : (name : List ℕ) (names : List (List ℕ)) (place : ℕ) → place_among name names ≡ Some place → slice_get names place ≡ Some name
placed_is name [] place e = absurd (cc)
placed_is name (other ∷ others) place e = by (bytes_eq name other) refl (place_among name others) refl (placed_is name others) place e
  where
    by : (b : Bool) → bytes_eq name other ≡ b → (o : Option ℕ) → place_among name others ≡ o → ((k : ℕ) → place_among name others ≡ Some k → slice_get others k ≡ Some name) → (at : ℕ) → cond b (Some 0) (option_map (λ k. suc k) o) ≡ Some at → slice_get (other ∷ others) at ≡ Some name
    by true s o w later zero i = ap Some (sym (same name other s))
    by true s o w later (suc at) i = absurd (let wrong : 0 ≡ suc at = cc in omega arith)
    by false s None w later at i = absurd (cc)
    by false s (Some k) w later zero i = absurd (let wrong : suc k ≡ 0 = cc in omega arith)
    by false s (Some k) w later (suc at) i = later at (w ∙ ap Some (let up : suc k ≡ suc at = cc in let down : k ≡ at = omega arith in down))

pub record HasSlot (modules : List Module) (listed names : List (List ℕ)) (slots : List Slot) (name : List ℕ) : Type 0 where
  pub slot : Slot
  pub is : slot_of names slots name ≡ Some slot
  pub says : IsSlot modules listed name slot

slot_at : (modules : List Module) (listed names : List (List ℕ)) (slots : List Slot) (name : List ℕ) → IsTable modules listed names slots → is_among name names ≡ true → HasSlot modules listed names slots name
slot_at modules listed names slots name table there = by (place_among name names) refl
  where
    by : (o : Option ℕ) → place_among name names ≡ o → HasSlot modules listed names slots name
    by None e = absurd (false≢true (sym (not_placed name names e) ∙ there))
    by (Some place) e =
        let beside = zip_beside (IsSlot modules listed) names slots place name table.each (placed_is name names place e) in
        record { slot = beside.0; is = ap (option_and_then (λ k. slice_get slots k)) e ∙ beside.1; says = beside.2 }

pub slot_there : (modules : List Module) (listed names : List (List ℕ)) (slots : List Slot) (name : List ℕ) (symbol : Sym) (found : Item) → IsTable modules listed names slots → IsItemOf modules name symbol found → HasSlot modules listed names slots name
slot_there modules listed names slots name symbol found table is = slot_at modules listed names slots name table (table.all name symbol found is)

-- ---- the function of a name

two_definitions : (modules : List Module) (name : List ℕ) (one other : Sym) → (HasTwoDefinitions modules name → ⊥) → IsDefinitionOf modules name one → IsDefinitionOf modules name other → one ≡ other
two_definitions modules name one other single a b = by (is_same one other) refl
  where
    by : (t : Bool) → is_same one other ≡ t → one ≡ other
    by true e = same_symbol one other e
    by false e = absurd (single (record { one = one; other = other; apart = λ s. apart e s; one_defined = a; other_defined = b }))
      where
        apart : is_same one other ≡ false → one ≡ other → ⊥
        apart f s = false≢true (sym f ∙ symbol_same one other s)

pub function_defined : (modules : List Module) (name : List ℕ) (symbol : Sym) (func : Func) → IsFunctionOf modules name symbol func → IsDefinitionOf modules name symbol
function_defined modules name symbol func is = record { found = item.Func func; is_of = is.is_of; defined = is.has_body }

pub one_function : (modules : List Module) (name : List ℕ) (one other : Sym) (f g : Func) → (HasTwoDefinitions modules name → ⊥) → IsFunctionOf modules name one f → IsFunctionOf modules name other g → f ≡ g
one_function modules name one other f g single a b =
    let e : one ≡ other = two_definitions modules name one other single (function_defined modules name one f a) (function_defined modules name other g b) in
    let i : Some (item.Func f) ≡ Some (item.Func g) = sym a.is_of.stands ∙ ap (item_at modules) e ∙ b.is_of.stands in
    cc

is_named : (modules : List Module) (name : List ℕ) (symbol : Sym) (found : Item) → IsItemOf modules name symbol found → IsTrue (is_defined found) → is_function (Some found) ≡ true → IsNamedFunction modules name symbol
is_named modules name symbol (item.Var var) of defined f = absurd (false≢true f)
is_named modules name symbol (item.Func func) of defined f = record { func = func; is_function = record { is_of = of; has_body = defined } }

pub function_found : (modules : List Module) (listed names : List (List ℕ)) (slots : List Slot) (name : List ℕ) (symbol : Sym) → IsTable modules listed names slots → function_in modules (slot_of names slots name) ≡ Some symbol → IsNamedFunction modules name symbol
function_found modules listed names slots name symbol table is = by (is_among name names) refl
  where
    of_target : (to : Target) → StandsFor modules listed name to → function_of modules to ≡ Some symbol → IsNamedFunction modules name symbol
    of_target (target.Def other) stands f = at (function_at modules other) refl f
      where
        at : (b : Bool) → function_at modules other ≡ b → cond b (Some other) None ≡ Some symbol → IsNamedFunction modules name symbol
        at true e i =
            let one : other ≡ symbol = cc in
            subst (IsNamedFunction modules name) one (is_named modules name other stands.found stands.is_of stands.defined (sym (ap is_function stands.is_of.stands) ∙ e))
        at false e i = absurd (cc)
    of_target target.Outside stands f = absurd (cc)
    of_target (target.Builtin builtin) stands f = absurd (cc)
    of_target (target.Intrinsic intrinsic) stands f = absurd (cc)
    of_target target.Nothing stands f = absurd (cc)

    by : (b : Bool) → is_among name names ≡ b → IsNamedFunction modules name symbol
    by true e = let has = slot_at modules listed names slots name table e in of_target has.slot.target has.says.target (sym (ap (function_in modules) has.is) ∙ is)
    by false e = absurd (none (place_among name names) refl)
      where
        none : (o : Option ℕ) → place_among name names ≡ o → ⊥
        none None p = let i : function_in modules (slot_of names slots name) ≡ None = ap (λ q. function_in modules (option_and_then (λ k. slice_get slots k) q)) p in let wrong : None ≡ Some symbol = sym i ∙ is in cc
        none (Some k) p = false≢true (sym e ∙ placed_among name names k p)

pub function_lacks : (modules : List Module) (listed names : List (List ℕ)) (slots : List Slot) (name : List ℕ) → IsTable modules listed names slots → (HasTwoDefinitions modules name → ⊥) → function_in modules (slot_of names slots name) ≡ None → LacksFunction modules name
function_lacks modules listed names slots name table single is symbol func function =
    let has = slot_there modules listed names slots name symbol (item.Func func) table function.is_of in
    of_target has.slot.target has.says.target (sym (ap (function_in modules) has.is) ∙ is)
  where
    defined : IsDefinitionOf modules name symbol
    defined = function_defined modules name symbol func function

    of_target : (to : Target) → StandsFor modules listed name to → function_of modules to ≡ None → ⊥
    of_target (target.Def other) stands f =
        let one : symbol ≡ other = two_definitions modules name symbol other single defined stands in
        let e : function_at modules other ≡ true = ap (function_at modules) (sym one) ∙ ap is_function function.is_of.stands in
        let wrong : Some other ≡ None = sym (ap (λ b. cond b (Some other) None) e) ∙ f in
        cc
    of_target target.Outside stands f = stands.0 symbol defined
    of_target (target.Builtin builtin) stands f = stands.0 symbol defined
    of_target (target.Intrinsic intrinsic) stands f = stands.0 symbol defined
    of_target target.Nothing stands f = stands.0 symbol defined

-- the function is there
pub function_stands : (modules : List Module) (name : List ℕ) (symbol : Sym) → IsNamedFunction modules name symbol → function_at modules symbol ≡ true
function_stands modules name symbol is = ap is_function is.is_function.is_of.stands

-- ---- the least name that breaks a rule

breaks_to : (modules : List Module) (d : Deployment) (rule : NameRule) (name : List ℕ) (slot : Slot) → IsSlot modules d.outside name slot → breaks rule slot ≡ true → Breaks modules d (rule_of rule) name
breaks_to modules d OneDefinition name slot says e = says.doubled.0 e
breaks_to modules d Defined name slot says e = says.missing.0 e
breaks_to modules d OneType name slot says e = says.clashes.0 e

breaks_from : (modules : List Module) (d : Deployment) (rule : NameRule) (name : List ℕ) (slot : Slot) → IsSlot modules d.outside name slot → Breaks modules d (rule_of rule) name → breaks rule slot ≡ true
breaks_from modules d OneDefinition name slot says b = says.doubled.1 b
breaks_from modules d Defined name slot says b = says.missing.1 b
breaks_from modules d OneType name slot says b = says.clashes.1 b

-- a name that breaks a rule of names has an item
item_of : (modules : List Module) (d : Deployment) (rule : NameRule) (name : List ℕ) → Breaks modules d (rule_of rule) name → (symbol : Sym) × (found : Item) × IsItemOf modules name symbol found
item_of modules d OneDefinition name b = (b.one, b.one_defined.found, b.one_defined.is_of)
item_of modules d Defined name b = (record { «module» = b.named.by.module; item = b.named.place }, b.named.found, b.named.is_of)
item_of modules d OneType name b = elim b [ inl differ ↦ (differ.one, differ.one_found, differ.one_of) | inr differs ↦ (differs.symbol, differs.found, differs.is_of) ]

canonical_name : (modules : List Module) (name : List ℕ) (symbol : Sym) → StandsAs modules name symbol → name_at modules symbol ≡ name
canonical_name modules name symbol as_symbol = elim as_symbol [
  | inl d ↦ ap name_or_none d.is_of.stands ∙ d.is_of.named
  | inr rest ↦ ap name_or_none rest.1.is_of.stands ∙ rest.1.is_of.named
]

broken_slot : (modules : List Module) (d : Deployment) (names : List (List ℕ)) (slots : List Slot) (rule : NameRule) (name : List ℕ) → IsTable modules d.outside names slots → Breaks modules d (rule_of rule) name
    → (slot : Slot) × Contains slots slot × (breaks rule slot ≡ true) × (name_at modules slot.canonical ≡ name)
broken_slot modules d names slots rule name table b =
    let of = item_of modules d rule name b in
    let among = contains_get_among name names (table.all name of.0 of.1 of.2) in
    let beside = zip_beside (IsSlot modules d.outside) names slots among.0 name table.each among.1 in
    (beside.0, get_contains slots among.0 beside.0 beside.1, breaks_from modules d rule name beside.0 beside.2 b, canonical_name modules name beside.0.canonical beside.2.canonical)
  where
    contains_get_among : (n : List ℕ) (ns : List (List ℕ)) → is_among n ns ≡ true → (k : ℕ) × (slice_get ns k ≡ Some n)
    contains_get_among n ns e = by (place_among n ns) refl
      where
        by : (o : Option ℕ) → place_among n ns ≡ o → (k : ℕ) × (slice_get ns k ≡ Some n)
        by None p = absurd (false≢true (sym (not_placed n ns p) ∙ e))
        by (Some k) p = (k, placed_is n ns k p)

pub none_least : (modules : List Module) (d : Deployment) (names : List (List ℕ)) (slots : List Slot) (rule : NameRule) → IsTable modules d.outside names slots → IsLeastSlot modules rule slots None → IsKept modules d (rule_of rule)
none_least modules d names slots rule table none name b =
    let broken = broken_slot modules d names slots rule name table b in
    false≢true (sym (All-contains (λ slot. breaks rule slot ≡ false) slots broken.0 none broken.1) ∙ broken.2)

pub some_least : (modules : List Module) (d : Deployment) (names : List (List ℕ)) (slots : List Slot) (rule : NameRule) (symbol : Sym) → IsTable modules d.outside names slots → IsLeastSlot modules rule slots (Some symbol)
    → IsLeast (Breaks modules d (rule_of rule)) (name_at modules symbol)
some_least modules d names slots rule symbol table least =
    let before = zip_before (IsSlot modules d.outside) names slots least.slot table.each least.within in
    let name_is : name_at modules symbol ≡ before.0 = ap (name_at modules) least.canonical ∙ canonical_name modules before.0 least.slot.canonical before.2.canonical in
    record {
      broken = subst (Breaks modules d (rule_of rule)) (sym name_is) (breaks_to modules d rule before.0 least.slot before.2 least.broken);
      least = λ other b less.
          let broken = broken_slot modules d names slots rule other table b in
          All-contains (λ slot. breaks rule slot ≡ true → slice_cmp nat_cmp (name_at modules slot.canonical) (name_at modules symbol) ≢ Less) slots broken.0 least.least broken.1 broken.2
          (ap (λ n. slice_cmp nat_cmp n (name_at modules symbol)) broken.3 ∙ less);
    }

-- ---- one more slot

pub least_skips : (modules : List Module) (rule : NameRule) (slots : List Slot) (slot : Slot) (least : Option Sym) → breaks rule slot ≡ false → IsLeastSlot modules rule slots least → IsLeastSlot modules rule (slots ++ slot ∷ []) least
least_skips modules rule slots slot None is h = All-push (λ s. breaks rule s ≡ false) slots slot h is
least_skips modules rule slots slot (Some symbol) is h = record {
  slot = h.slot;
  within = Contains-append_left slots (slot ∷ []) h.slot h.within;
  broken = h.broken;
  canonical = h.canonical;
  least = All-push (λ s. breaks rule s ≡ true → slice_cmp nat_cmp (name_at modules s.canonical) (name_at modules symbol) ≢ Less) slots slot h.least (λ e. absurd (false≢true (sym is ∙ e)));
}

pub least_stays : (modules : List Module) (rule : NameRule) (slots : List Slot) (slot : Slot) (least : Option Sym) → (IsBelow modules slot.canonical least → ⊥) → IsLeastSlot modules rule slots least → IsLeastSlot modules rule (slots ++ slot ∷ []) least
least_stays modules rule slots slot None not_below h = absurd (not_below tt)
least_stays modules rule slots slot (Some symbol) not_below h = record {
  slot = h.slot;
  within = Contains-append_left slots (slot ∷ []) h.slot h.within;
  broken = h.broken;
  canonical = h.canonical;
  least = All-push (λ s. breaks rule s ≡ true → slice_cmp nat_cmp (name_at modules s.canonical) (name_at modules symbol) ≢ Less) slots slot h.least (λ e. not_below);
}

pub least_moves : (modules : List Module) (rule : NameRule) (slots : List Slot) (slot : Slot) (least : Option Sym) → breaks rule slot ≡ true → IsBelow modules slot.canonical least → IsLeastSlot modules rule slots least → IsLeastSlot modules rule (slots ++ slot ∷ []) (Some slot.canonical)
least_moves modules rule slots slot least is below h = record {
  slot = slot;
  within = Contains-push slots slot;
  broken = is;
  canonical = refl;
  least = All-push (λ s. breaks rule s ≡ true → slice_cmp nat_cmp (name_at modules s.canonical) (name_at modules slot.canonical) ≢ Less) slots slot (others least below h) (λ e. not_below_itself (name_at modules slot.canonical));
}
  where
    others : (old : Option Sym) → IsBelow modules slot.canonical old → IsLeastSlot modules rule slots old → All (λ s. breaks rule s ≡ true → slice_cmp nat_cmp (name_at modules s.canonical) (name_at modules slot.canonical) ≢ Less) slots
    others None b none = All-weaker (λ s. breaks rule s ≡ false) (λ s. breaks rule s ≡ true → slice_cmp nat_cmp (name_at modules s.canonical) (name_at modules slot.canonical) ≢ Less) (λ s no yes. absurd (false≢true (sym no ∙ yes))) slots none
    others (Some symbol) b old = All-weaker (λ s. breaks rule s ≡ true → slice_cmp nat_cmp (name_at modules s.canonical) (name_at modules symbol) ≢ Less) (λ s. breaks rule s ≡ true → slice_cmp nat_cmp (name_at modules s.canonical) (name_at modules slot.canonical) ≢ Less)
        (λ s f e. not_less (name_at modules s.canonical) (name_at modules slot.canonical) (name_at modules symbol) (f e) b) slots old.least

pub least_step : (modules : List Module) (rule : NameRule) (slots : List Slot) (i : ℕ) (d : Slot) (least next : Option Sym) → i < length slots → IsLeastSlot modules rule (take i slots) least
    → ((before : List Slot) → IsLeastSlot modules rule before least → IsLeastSlot modules rule (before ++ get_or slots i d ∷ []) next) → IsLeastSlot modules rule (take (i + 1) slots) next
least_step modules rule slots i d least next within h step = subst (λ xs. IsLeastSlot modules rule xs next) (sym (take_more slots i d within)) (step (take i slots) h)

pub least_whole : (modules : List Module) (rule : NameRule) (slots all : List Slot) (i : ℕ) (least : Option Sym) → slots ≡ all → length slots ≤ i → IsLeastSlot modules rule (take i slots) least → IsLeastSlot modules rule all least
least_whole modules rule slots all i least same_slots past h = subst (λ xs. IsLeastSlot modules rule xs least) (take_all i slots past ∙ same_slots) h
