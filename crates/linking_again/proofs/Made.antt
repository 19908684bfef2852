-- What the written modules define, and what of it the program defines.
use Rattle.std.proofs.Common.{◌≡◌, ◌∙◌, ◌⊎◌, inl, inr, ℕ, ◌+◌, ◌<◌, Bool, true, false, is_some, List, [], ◌∷◌, ◌++◌, Option, Some, Contains, length, map, refl, ap, sym, subst}
use Rattle.std.specs.Prelude.{slice_get, option_map, IsTrue, IsSome}
use Rattle.std.proofs.lemmas.Bool.{false≢true, eq-eqb}
use Rattle.ir_types.proofs.ListSteps.{All-at, slice_get-append_first}
use Rattle.ir_syntax.specs.declared.symbol.Sym.{Sym}
use Rattle.ir_syntax.specs.declared.body.Body.{Body}
use Rattle.ir_syntax.specs.declared.item.Linkage.TheVariants.{External}
use Rattle.ir_syntax.specs.declared.item.Func.{Func}
use Rattle.ir_syntax.specs.declared.item.Item.{Item}
use Rattle.ir_syntax.specs.declared.item.Item.TheVariants as item
use Rattle.ir_syntax.specs.declared.item.Module.{Module}
use Rattle.ir_syntax.specs.FormedBody.{item_name}
use Rattle.ir_syntax.specs.Symbols.{item_at, linkage_of, is_defined, IsDefinitionOf}
use Rattle.ir_syntax.specs.Programs.{ProgramData, IsProgram}
use Rattle.fold_facts.proofs.Lists.{there, within}
use Rattle.demands.specs.declared.demand.Demand.{Demand}
use Rattle.demands.specs.declared.demand.Demand.TheVariants.{Func as function, Var as variable}
use Rattle.demands.specs.Names.{copy_name}
use Rattle.demands.specs.Order.{symbol_of, pattern_of}
use Rattle.specialise.specs.Residual.{residual}
use Rattle.residual_laws.proofs.Every.{every_at}
use Rattle.winnowed_form.specs.declared.named.Named.{Named}
use Rattle.winnowed_form.specs.declared.named.Named.TheVariants.{Own, CopyOf}
use Rattle.winnowed_form.specs.declared.member.Member.{Member}
use Rattle.winnowed_form.specs.Basis.{Basis, basis}
use Rattle.winnowed_form.specs.Bodies.{moved}
use Rattle.winnowed_form.specs.Clashes.{item_names, copy_names, AreFree}
use Rattle.winnowed_form.specs.Copies.{is_copy}
use Rattle.winnowed_form.specs.Items.{written_var, written_func, definition_of as written_definition, definition, own_item, declaration}
use Rattle.winnowed_form.specs.Members.{is_in, defined_in}
use Rattle.winnowed_form.specs.Names.{name_of}
use Rattle.winnowed_form.specs.Winnowed.{AreWinnowedModules}
use Rattle.linking_again.specs.Whole.{IsLeftOf, demands_of, IsWhole}
use Rattle.linking_again.proofs.Distinct.{copy_is_free, name_taken, copies_apart, place_once}
use Rattle.linking_again.proofs.Facts.{same_symbol, one_of}
use Rattle.linking_again.proofs.Forming.{declared_not_defined}
use Rattle.linking_again.proofs.Home as at_home
use Rattle.linking_again.proofs.Home.{Frame, CopyKnown, copy_known, member_of_demand, left_of_demand, function_at, def_one, copy_one, plain_name, plain_params, copied_name, MemberName, member_name}
use Rattle.linking_again.proofs.Lists.{filter_has, flat_at}
use Rattle.linking_again.proofs.Places.{stands_in, item_is}

-- ---- definitions of members

-- What a member is written as: under its own name it is as the program's, but for its body or initialiser; a copy has the copy's
-- name and its function's linkage.
pub record Written (p : ProgramData) (cycles : List (List Bool)) (d : Demand) (found : Item) : Type 0 where
  pub original : Item
  pub stands : item_at p.modules (symbol_of d) ≡ Some original
  pub defined : IsTrue (is_defined original)
  pub still : IsTrue (is_defined found)
  pub linkage : linkage_of found ≡ linkage_of original
  pub name : is_copy (basis p cycles) d ≡ false → item_name found ≡ item_name original
  pub copied : is_copy (basis p cycles) d ≡ true → (known : CopyKnown p cycles d) × (original ≡ item.Func known.left.func) × (item_name found ≡ copy_name (pattern_of d) known.left.func.name)

-- of a function under its own name, what is written
pub record WrittenFunc (p : ProgramData) (d : Demand) (func : Func) : Type 0 where
  pub original : Func
  pub stands : item_at p.modules (symbol_of d) ≡ Some (item.Func original)
  pub body : IsSome original.body
  pub params : func.params ≡ original.params
  pub returns : func.returns ≡ original.returns

some_is_some : {A : Type 0} (o : Option A) (x : A) → o ≡ Some x → IsTrue (is_some o)
some_is_some o x e = ap is_some e

head_is : {x y : Item} → (x ∷ []) ≡ (y ∷ []) → x ≡ y
head_is e = cc

pub written : (p : ProgramData) (cycles : List (List Bool)) (home : ℕ) (place : Named → ℕ) (d : Demand) (body : Option Body) (found : Item) → IsLeftOf p d body → written_definition (basis p cycles) home place d body (item_at p.modules (symbol_of d)) ≡ found ∷ []
    → Written p cycles d found
written p cycles home place (variable symbol) body found left is =
    let same : item.Var (written_var place left.var) ≡ found = head_is (sym (def_one p cycles home place (variable symbol) body left).1 ∙ is) in
    subst (Written p cycles (variable symbol)) same (record {
      original = item.Var left.var;
      stands = left.is_variable;
      defined = some_is_some left.var.init left.init left.defined;
      still = ap (λ o. is_some (option_map (moved place) o)) left.defined;
      linkage = refl;
      name = λ e. refl;
      copied = λ e. absurd (false≢true e);
    })
written p cycles home place (function symbol pattern) body found left is =
    let d : Demand = function symbol pattern in
    let same : item.Func (written_func (basis p cycles) home place (function symbol pattern) left.func (residual pattern left.func left.assigned)) ≡ found = head_is (sym (def_one p cycles home place (function symbol pattern) body left).1 ∙ is) in
    subst (Written p cycles (function symbol pattern)) same (record {
      original = item.Func left.func;
      stands = function_at p symbol pattern body left;
      defined = left.left.defined;
      still = refl;
      linkage = refl;
      name = λ e. plain_name (basis p cycles) (function symbol pattern) left.func e;
      copied = λ e. (record { symbol = symbol; pattern = pattern; body = body; is = refl; left = left; copy = e }, refl, copied_name (basis p cycles) (function symbol pattern) left.func e);
    })

pub written_function : (p : ProgramData) (cycles : List (List Bool)) (home : ℕ) (place : Named → ℕ) (d : Demand) (body : Option Body) (func : Func) → IsLeftOf p d body
    → written_definition (basis p cycles) home place d body (item_at p.modules (symbol_of d)) ≡ item.Func func ∷ [] → is_copy (basis p cycles) d ≡ false → WrittenFunc p d func
written_function p cycles home place (variable symbol) body func left is plain = absurd (apart (head_is (sym (def_one p cycles home place (variable symbol) body left).1 ∙ is)))
  where
    apart : item.Var (written_var place left.var) ≡ item.Func func → ⊥
    apart e = cc
written_function p cycles home place (function symbol pattern) body func left is plain =
    let same : written_func (basis p cycles) home place (function symbol pattern) left.func (residual pattern left.func left.assigned) ≡ func = func_is (head_is (sym (def_one p cycles home place (function symbol pattern) body left).1 ∙ is)) in
    subst (WrittenFunc p (function symbol pattern)) same (record {
      original = left.func;
      stands = function_at p symbol pattern body left;
      body = left.left.defined;
      params = plain_params (basis p cycles) (function symbol pattern) left.func plain;
      returns = refl;
    })
  where
    func_is : {x y : Func} → item.Func x ≡ item.Func y → x ≡ y
    func_is e = cc

module _ (p : ProgramData) (cycles : List (List Bool)) (members : List Member) (made : List Module) (program : IsProgram p) (whole : IsWhole p cycles members) (free : AreFree p.modules (copy_names (basis p cycles) members))
    (are : AreWinnowedModules (basis p cycles) members made) where
  abbrev b : Basis
  b = basis p cycles

  abbrev D : Demand → Type 0
  D = Contains (demands_of members)

  -- ---- modules

  pub record FrameAt (home : ℕ) (w : Module) : Type 0 where
    pub m : Module
    pub frame : Frame p cycles members home m w

  pub frame_at : (home : ℕ) (w : Module) → slice_get made home ≡ Some w → FrameAt home w
  frame_at home w is =
      let less : home < length p.modules = subst (λ n. home < n) are.long (within made home w is) in
      let m = there p.modules home less in
      record { m = m.0; frame = record { program = program; whole = whole; stands = m.1; winnowed = are.each home m.0 w m.1 is } }

  -- ---- definitions

  -- A definition of the written modules is that of a member, at its place.
  pub record DefinedBy (symbol : Sym) (found : Item) : Type 0 where
    pub w : Module
    pub at : FrameAt symbol.module w
    pub defined : at_home.IsDefined p cycles members symbol.module at.m w at.frame symbol.item found
    pub demanded : D defined.member.demand
    pub here : (symbol_of defined.member.demand).module ≡ symbol.module
    pub left : IsLeftOf p defined.member.demand defined.member.body
    pub written_as : Written p cycles defined.member.demand found

  abbrev pub defined_by : (symbol : Sym) (found : Item) (w : Module) (at : FrameAt symbol.module w) → at_home.IsDefined p cycles members symbol.module at.m w at.frame symbol.item found → DefinedBy symbol found
  defined_by symbol found w at d =
      let left = every_at (λ (x : Member). IsLeftOf p x.demand x.body) (defined_in symbol.module members) symbol.item d.member (at_home.left_here p cycles members symbol.module at.m w at.frame) d.at in
      record {
        w = w;
        at = at;
        defined = d;
        demanded = every_at (λ (x : Member). D x.demand) (defined_in symbol.module members) symbol.item d.member (at_home.demanded_here p cycles members symbol.module at.m w at.frame) d.at;
        here = every_at (λ (x : Member). (symbol_of x.demand).module ≡ symbol.module) (defined_in symbol.module members) symbol.item d.member (at_home.at_home p cycles members symbol.module at.m w at.frame) d.at;
        left = left;
        written_as = written p cycles symbol.module at.frame.winnowed.place d.member.demand d.member.body found left d.is;
      }

  -- A declaration of the written modules.
  pub record DeclaredBy (symbol : Sym) (found : Item) : Type 0 where
    pub w : Module
    pub at : FrameAt symbol.module w
    pub place : ℕ
    pub declared : at_home.IsDeclaredAs p cycles members symbol.module at.m w at.frame place found

  pub item_cases : (symbol : Sym) (found : Item) → item_at made symbol ≡ Some found → DefinedBy symbol found ⊎ DeclaredBy symbol found
  item_cases symbol found is =
      let s = stands_in made symbol found is in
      let at = frame_at symbol.module s.home s.stands in
      by s.home at (at_home.item_cases p cycles members symbol.module at.m s.home at.frame symbol.item found s.is)
    where
      by : (w : Module) (at : FrameAt symbol.module w)
          → at_home.IsDefined p cycles members symbol.module at.m w at.frame symbol.item found ⊎ ((j : ℕ) × (length (defined_in symbol.module members) + j ≡ symbol.item) × at_home.IsDeclaredAs p cycles members symbol.module at.m w at.frame j found)
          → DefinedBy symbol found ⊎ DeclaredBy symbol found
      by w at (inl d) = inl (defined_by symbol found w at d)
      by w at (inr (j, e, d)) = inr (record { w = w; at = at; place = j; declared = d })

  -- what is declared isn't defined
  pub declared_none : (symbol : Sym) (found : Item) → DeclaredBy symbol found → is_defined found ≡ false
  declared_none symbol found d = by d.declared.named d.declared.is d.declared.used (All-at (λ named. Contains (map (name_of b) (defined_in symbol.module members)) named → ⊥) d.at.frame.winnowed.declared d.place d.declared.named d.at.frame.winnowed.are_declared.not_defined d.declared.at)
    where
      by : (one : Named) → declaration b symbol.module one ≡ found ∷ [] → at_home.Used p cycles members symbol.module d.at.m d.w d.at.frame one → (Contains (map (name_of b) (defined_in symbol.module members)) one → ⊥) → is_defined found ≡ false
      by (Own k) is used none =
          let same : used.0.found ≡ found = head_is (sym (ap own_item used.0.found_at) ∙ is) in
          let at : slice_get d.at.m.items k ≡ Some found = sym (item_is p.modules (record { «module» = symbol.module; item = k }) d.at.m d.at.frame.stands) ∙ used.0.found_at ∙ ap Some same in
          declared_not_defined p cycles members symbol.module d.at.m d.w d.at.frame k found used none at
      by (CopyOf e) is used none =
          let known = at_home.copy_of_use p cycles members symbol.module d.at.m d.w d.at.frame e used in
          ap is_defined (head_is (sym is ∙ (copy_one p cycles e known).1))

  pub definition_by : (symbol : Sym) (found : Item) → item_at made symbol ≡ Some found → IsTrue (is_defined found) → DefinedBy symbol found
  definition_by symbol found is defined = by (item_cases symbol found is)
    where
      by : DefinedBy symbol found ⊎ DeclaredBy symbol found → DefinedBy symbol found
      by (inl d) = d
      by (inr d) = absurd (false≢true (sym (declared_none symbol found d) ∙ defined))

  -- ---- each member has its definition

  pub record HasDefinition (d : Demand) : Type 0 where
    pub symbol : Sym
    pub found : Item
    pub stands : item_at made symbol ≡ Some found
    pub by : DefinedBy symbol found
    pub of : by.defined.member.demand ≡ d

  -- what is defined at a place stands there
  item_stands : (home place : ℕ) (w : Module) (f : FrameAt home w) (found : Item) → slice_get made home ≡ Some w → slice_get (at_home.defs p cycles members home f.m w f.frame) place ≡ Some found → item_at made (record { «module» = home; item = place }) ≡ Some found
  item_stands home place w f found at is =
      let items : slice_get w.items place ≡ slice_get (at_home.defs p cycles members home f.m w f.frame ++ at_home.decls p cycles members home f.m w f.frame) place = ap (λ l. slice_get l place) f.frame.winnowed.items in
      item_is made (record { «module» = home; item = place }) w at ∙ items ∙ slice_get-append_first (at_home.defs p cycles members home f.m w f.frame) (at_home.decls p cycles members home f.m w f.frame) place found is

  pub has_definition : (d : Demand) → D d → HasDefinition d
  has_definition d c =
      let one = member_of_demand members d c in
      let left = All-at (λ (member : Member). IsLeftOf p member.demand member.body) members one.0 one.1 whole.left one.2 in
      let home : ℕ = (symbol_of one.1.demand).module in
      let at = filter_has (is_in home) members one.0 one.1 one.2 (eq-eqb home home refl) in
      let module_at = left_module one.1.demand one.1.body left in
      let w = there made home (subst (λ n. home < n) (sym are.long) (within p.modules home module_at.0 module_at.1)) in
      let f = frame_at home w.0 w.1 in
      let made_one = flat_at (definition b home f.frame.winnowed.place) (defined_in home members) at.0 one.1 (at_home.def_ones p cycles members home f.m w.0 f.frame) at.1 in
      let symbol : Sym = record { «module» = home; item = at.0 } in
      record {
        symbol = symbol;
        found = made_one.0;
        stands = item_stands home at.0 w.0 f made_one.0 w.1 made_one.2;
        by = defined_by symbol made_one.0 w.0 f (record { member = one.1; at = at.1; is = made_one.1 });
        of = one.3;
      }
    where
      left_module : (e : Demand) (body : Option Body) → IsLeftOf p e body → (m : Module) × (slice_get p.modules (symbol_of e).module ≡ Some m)
      left_module (variable symbol) body left = let s = stands_in p.modules symbol (item.Var left.var) left.is_variable in (s.home, s.stands)
      left_module (function symbol pattern) body left = (left.home, left.stands)

  -- ---- one name, one member

  -- a member under its own name defines the name in the program
  pub plain_definition : (symbol : Sym) (found : Item) (name : List ℕ) → (d : DefinedBy symbol found) → linkage_of found ≡ External → item_name found ≡ name → is_copy b d.defined.member.demand ≡ false → IsDefinitionOf p.modules name (symbol_of d.defined.member.demand)
  plain_definition symbol found name d external named plain = record {
    found = d.written_as.original;
    is_of = record { stands = d.written_as.stands; external = sym d.written_as.linkage ∙ external; named = sym (d.written_as.name plain) ∙ named };
    defined = d.written_as.defined;
  }

  -- a copy's name is no item's of the program
  pub copy_or_item : (symbol : Sym) (found : Item) (at : Sym) (original : Item) → (d : DefinedBy symbol found) → is_copy b d.defined.member.demand ≡ true → item_at p.modules at ≡ Some original → item_name found ≡ item_name original → ⊥
  copy_or_item symbol found at original d copy stands same =
      let known = d.written_as.copied copy in
      copy_is_free p cycles members d.defined.member.demand free d.demanded known.0 (subst (Contains (item_names p.modules)) (sym same ∙ known.2) (name_taken p at original stands))

  pub one_member : (s t : Sym) (found other : Item) → (d : DefinedBy s found) → (e : DefinedBy t other) → linkage_of found ≡ External → linkage_of other ≡ External → item_name found ≡ item_name other → d.defined.member.demand ≡ e.defined.member.demand
  one_member s t found other d e external outer same = by (is_copy b one) (is_copy b two) refl refl
    where
      one : Demand
      one = d.defined.member.demand

      two : Demand
      two = e.defined.member.demand

      by : (x y : Bool) → is_copy b d.defined.member.demand ≡ x → is_copy b e.defined.member.demand ≡ y → d.defined.member.demand ≡ e.defined.member.demand
      by true true x y =
          let k = d.written_as.copied x in
          let l = e.written_as.copied y in
          let parts = copies_apart p cycles d.defined.member.demand e.defined.member.demand k.0 l.0 (sym k.2 ∙ same ∙ l.2) in
          let at_k : item_at p.modules k.0.symbol ≡ Some (item.Func k.0.left.func) = function_at p k.0.symbol k.0.pattern k.0.body k.0.left in
          let at_l : item_at p.modules l.0.symbol ≡ Some (item.Func l.0.left.func) = function_at p l.0.symbol l.0.pattern l.0.body l.0.left in
          let symbols : k.0.symbol ≡ l.0.symbol = one_of p l.0.left.func.name k.0.symbol l.0.symbol program
          (record { found = item.Func k.0.left.func; is_of = record { stands = at_k; external = ap linkage_of (sym k.1) ∙ sym d.written_as.linkage ∙ external; named = parts.1 }; defined = k.0.left.left.defined })
          (record { found = item.Func l.0.left.func; is_of = record { stands = at_l; external = ap linkage_of (sym l.1) ∙ sym e.written_as.linkage ∙ outer; named = refl }; defined = l.0.left.left.defined }) in
          k.0.is ∙ (λ i. function (symbols i) (parts.0 i)) ∙ sym l.0.is
      by true false x y = absurd (copy_or_item s found (symbol_of e.defined.member.demand) e.written_as.original d x e.written_as.stands (same ∙ e.written_as.name y))
      by false true x y = absurd (copy_or_item t other (symbol_of d.defined.member.demand) d.written_as.original e y d.written_as.stands (sym same ∙ d.written_as.name x))
      by false false x y =
          let symbols = one_of p (item_name other) (symbol_of d.defined.member.demand) (symbol_of e.defined.member.demand) program (plain_definition s found (item_name other) d external same x) (plain_definition t other (item_name other) e outer refl y) in
          whole.alone d.defined.member.demand e.defined.member.demand d.demanded e.demanded x y symbols

  -- a member has one definition
  pub one_symbol : (s t : Sym) (found other : Item) → (d : DefinedBy s found) → (e : DefinedBy t other) → d.defined.member.demand ≡ e.defined.member.demand → s ≡ t
  one_symbol s t found other d e same =
      let homes : s.module ≡ t.module = sym d.here ∙ ap (λ x. (symbol_of x).module) same ∙ e.here in
      same_symbol s t homes (place_once p cycles members s.module d.at.m d.w d.at.frame free s.item t.item d.defined.member e.defined.member d.defined.at (subst (λ n. slice_get (defined_in n members) t.item ≡ Some e.defined.member) (sym homes) e.defined.at) same)
