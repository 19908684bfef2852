-- What the items of a program stand for.
use Rattle.std.proofs.Common.{◌≡◌, ◌≢◌, ◌∙◌, ◌⊎◌, inl, inr, ℕ, is_some, List, Option, None, Some, refl, ap, sym, subst}
use Rattle.std.specs.Prelude.{slice_get, IsTrue, IfNone}
use Rattle.std.proofs.lemmas.Option.{none-some}
use Rattle.ir_types.proofs.ListSteps.{All-at}
use Rattle.ir_syntax.specs.declared.symbol.Sym.{Sym}
use Rattle.ir_syntax.specs.declared.symbol.Target.{Target}
use Rattle.ir_syntax.specs.declared.symbol.Target.TheVariants as target
use Rattle.ir_syntax.specs.declared.item.Linkage.{Linkage}
use Rattle.ir_syntax.specs.declared.item.Linkage.TheVariants.{External, Internal, Private}
use Rattle.ir_syntax.specs.declared.item.Item.{Item}
use Rattle.ir_syntax.specs.declared.item.Item.TheVariants as item
use Rattle.ir_syntax.specs.declared.item.Module.{Module}
use Rattle.ir_syntax.specs.FormedBody.{item_name}
use Rattle.ir_syntax.specs.FormedItem.{FormedItem}
use Rattle.ir_syntax.specs.Symbols.{item_at, linkage_of, is_defined, IsDefinitionOf}
use Rattle.ir_syntax.specs.Targets.{StandsFor, IsTarget, IsTargetBy}
use Rattle.ir_syntax.specs.Programs.{ProgramData, IsProgram, IsSoundModule}
use Rattle.fold_facts.proofs.Lists.{some_is, is_or_not}
use Rattle.interface.specs.Asked.{definition, definition_of}
use Rattle.linking_again.proofs.Places.{stands_in}

-- ---- symbols

pub same_symbol : (s t : Sym) → s.module ≡ t.module → s.item ≡ t.item → s ≡ t
same_symbol s t one other = λ i. record { «module» = one i; item = other i }

pub symbol_or_not : (s t : Sym) → (s ≡ t) ⊎ (s ≢ t)
symbol_or_not s t = by (is_or_not s.module t.module) (is_or_not s.item t.item)
  where
    by : (s.module ≡ t.module) ⊎ (s.module ≢ t.module) → (s.item ≡ t.item) ⊎ (s.item ≢ t.item) → (s ≡ t) ⊎ (s ≢ t)
    by (inl one) (inl other) = inl (same_symbol s t one other)
    by (inl one) (inr never) = inr (λ e. never (ap (λ x. x.item) e))
    by (inr never) other = inr (λ e. never (ap (λ x. x.module) e))

-- ---- items

pub formed_at : (p : ProgramData) (symbol : Sym) (found : Item) → IsProgram p → item_at p.modules symbol ≡ Some found → (home : Module) × (slice_get p.modules symbol.module ≡ Some home) × FormedItem home.items found
formed_at p symbol found program is =
    let s = stands_in p.modules symbol found is in
    (s.home, s.stands, All-at (FormedItem s.home.items) s.home.items symbol.item found (All-at IsSoundModule p.modules symbol.module s.home program.sound.sound s.stands).formed.has_items s.is)

some_or : {A : Type 0} (o : Option A) (P : Type 0) → IfNone o P → (P → ⊥) → IsTrue (is_some o)
some_or None P h never = absurd (never h)
some_or (Some x) P h never = refl

-- what isn't external is defined
pub local_defined : (items : List Item) (found : Item) → FormedItem items found → linkage_of found ≢ External → IsTrue (is_defined found)
local_defined items (item.Var var) h never = some_or var.init (var.linkage ≡ External) h.declared never
local_defined items (item.Func func) h never = some_or func.body (func.linkage ≡ External) h.declared never

-- ---- definitions

-- The item stands for the definition: of its name, and seen as it is; of another symbol only where it is external.
pub record Resolved (p : ProgramData) (at : Sym) (found : Item) (symbol : Sym) : Type 0 where
  pub definition : Item
  pub stands : item_at p.modules symbol ≡ Some definition
  pub defined : IsTrue (is_defined definition)
  pub name : item_name definition ≡ item_name found
  pub linkage : linkage_of definition ≡ linkage_of found
  pub other : (symbol ≡ at) ⊎ (linkage_of found ≡ External)

-- the one definition of an external name
pub one_of : (p : ProgramData) (name : List ℕ) (s t : Sym) → IsProgram p → IsDefinitionOf p.modules name s → IsDefinitionOf p.modules name t → s ≡ t
one_of p name s t program one other = by (symbol_or_not s t)
  where
    by : (s ≡ t) ⊎ (s ≢ t) → s ≡ t
    by (inl e) = e
    by (inr apart) = absurd (program.linked.one_definition name (record { one = s; other = t; apart = apart; one_defined = one; other_defined = other }))

by_target : (p : ProgramData) (at : Sym) (found : Item) (symbol : Sym) (outside : List (List ℕ)) (linkage : Linkage) → IsProgram p → item_at p.modules at ≡ Some found → linkage_of found ≡ linkage
    → IsTargetBy p.modules outside at (item_name found) linkage (target.Def symbol) → Resolved p at found symbol
by_target p at found symbol outside External program is e h = record {
  definition = h.found;
  stands = h.is_of.stands;
  defined = h.defined;
  name = h.is_of.named;
  linkage = h.is_of.external ∙ sym e;
  other = inr e;
}
by_target p at found symbol outside Internal program is e h =
    let same : symbol ≡ at = def_is h in
    record {
      definition = found;
      stands = ap (item_at p.modules) same ∙ is;
      defined = local_defined _ found (formed_at p at found program is).2 (λ x. not_external (sym e ∙ x));
      name = refl;
      linkage = refl;
      other = inl same;
    }
  where
    def_is : target.Def symbol ≡ target.Def at → symbol ≡ at
    def_is g = cc

    not_external : Internal ≡ External → ⊥
    not_external g = cc
by_target p at found symbol outside Private program is e h =
    let same : symbol ≡ at = def_is h in
    record {
      definition = found;
      stands = ap (item_at p.modules) same ∙ is;
      defined = local_defined _ found (formed_at p at found program is).2 (λ x. not_external (sym e ∙ x));
      name = refl;
      linkage = refl;
      other = inl same;
    }
  where
    def_is : target.Def symbol ≡ target.Def at → symbol ≡ at
    def_is g = cc

    not_external : Private ≡ External → ⊥
    not_external g = cc

pub resolved : (p : ProgramData) (home k : ℕ) (found : Item) (symbol : Sym) → IsProgram p → item_at p.modules (record { «module» = home; item = k }) ≡ Some found → definition_of p home k ≡ Some symbol
    → Resolved p (record { «module» = home; item = k }) found symbol
resolved p home k found symbol program is def =
    let at : Sym = record { «module» = home; item = k } in
    let has = program.linked.targets.each at found is in
    by has.entry (sym (ap definition has.stands) ∙ def) has.is
  where
    by : (to : Target) → definition (Some to) ≡ Some symbol → IsTarget p.modules program.outside (record { «module» = home; item = k }) found to → Resolved p (record { «module» = home; item = k }) found symbol
    by (target.Def s) e h = subst (Resolved p (record { «module» = home; item = k }) found) (some_is e) (by_target p (record { «module» = home; item = k }) found s program.outside (linkage_of found) program is refl h)
    by target.Outside e h = absurd (none-some symbol e)
    by (target.Builtin x) e h = absurd (none-some symbol e)
    by (target.Intrinsic x) e h = absurd (none-some symbol e)
    by target.Nothing e h = absurd (none-some symbol e)

-- an external name that has a definition stands for it
external_stands : (p : ProgramData) (name : List ℕ) (outside : List (List ℕ)) (symbol : Sym) (to : Target) → IsProgram p → IsDefinitionOf p.modules name symbol → StandsFor p.modules outside name to → definition (Some to) ≡ Some symbol
external_stands p name outside symbol (target.Def s) program d h = ap Some (one_of p name s symbol program h d)
external_stands p name outside symbol (target.Builtin x) program d h = absurd (h.0 symbol d)
external_stands p name outside symbol (target.Intrinsic x) program d h = absurd (h.0 symbol d)
external_stands p name outside symbol target.Outside program d h = absurd (h.0 symbol d)
external_stands p name outside symbol target.Nothing program d h = absurd (h.0 symbol d)

-- An item of an external name that has a definition stands for it.
pub external_definition : (p : ProgramData) (home k : ℕ) (found : Item) (symbol : Sym) → IsProgram p → item_at p.modules (record { «module» = home; item = k }) ≡ Some found → linkage_of found ≡ External
    → IsDefinitionOf p.modules (item_name found) symbol → definition_of p home k ≡ Some symbol
external_definition p home k found symbol program is external d =
    let at : Sym = record { «module» = home; item = k } in
    let has = program.linked.targets.each at found is in
    ap definition has.stands ∙ external_stands p (item_name found) program.outside symbol has.entry program d (subst (λ l. IsTargetBy p.modules program.outside at (item_name found) l has.entry) external has.is)

-- What is defined stands for itself.
pub own_definition : (p : ProgramData) (home k : ℕ) (found : Item) → IsProgram p → item_at p.modules (record { «module» = home; item = k }) ≡ Some found → IsTrue (is_defined found)
    → definition_of p home k ≡ Some (record { «module» = home; item = k })
own_definition p home k found program is defined = by (linkage_of found) refl
  where
    at : Sym
    at = record { «module» = home; item = k }

    local : (l : Linkage) → linkage_of found ≡ l → ((to : Target) → IsTargetBy p.modules program.outside at (item_name found) l to → to ≡ target.Def at) → definition_of p home k ≡ Some at
    local l e same =
        let has = program.linked.targets.each at found is in
        ap definition has.stands ∙ ap (λ to. definition (Some to)) (same has.entry (subst (λ x. IsTargetBy p.modules program.outside at (item_name found) x has.entry) e has.is))

    by : (l : Linkage) → linkage_of found ≡ l → definition_of p home k ≡ Some at
    by External e = external_definition p home k found at program is e (record { found = found; is_of = record { stands = is; external = e; named = refl }; defined = defined })
    by Internal e = local Internal e (λ to h. h)
    by Private e = local Private e (λ to h. h)
