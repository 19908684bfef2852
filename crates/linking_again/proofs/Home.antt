-- A written module: which items it has, by names.
use Rattle.std.proofs.Common.{◌≡◌, ◌∙◌, ◌⊎◌, inl, inr, ℕ, ◌+◌, ◌<◌, Bool, true, false, List, [], ◌∷◌, ◌++◌, Option, None, Some, All, Contains, length, map, refl, ap, sym, subst, arith}
use Rattle.std.specs.Prelude.{slice_get, flat_map, if◌then◌else◌}
use Rattle.std.proofs.lemmas.Bool.{false≢true, eqb-true, eq-eqb}
use Rattle.std.proofs.lemmas.List.{length-map}
use Rattle.ir_types.specs.declared.scalar.Known.{Known}
use Rattle.ir_types.proofs.ListSteps.{All-at, slice_get-append_first, slice_get-append_rest}
use Rattle.ir_syntax.specs.declared.symbol.Sym.{Sym}
use Rattle.ir_syntax.specs.declared.body.Body.{Body}
use Rattle.ir_syntax.specs.declared.item.Func.{Func}
use Rattle.ir_syntax.specs.declared.item.Param.{Param}
use Rattle.ir_syntax.specs.declared.item.Item.{Item}
use Rattle.ir_syntax.specs.declared.item.Item.TheVariants as item
use Rattle.ir_syntax.specs.declared.item.Module.{Module}
use Rattle.ir_syntax.specs.FormedBody.{item_name}
use Rattle.ir_syntax.specs.FormedItem.{FormedItem}
use Rattle.ir_syntax.specs.FunctionTypes.{type_of, function_type}
use Rattle.ir_syntax.specs.Named.{body_names, item_names}
use Rattle.ir_syntax.specs.Symbols.{item_at, linkage_of}
use Rattle.ir_syntax.specs.Programs.{ProgramData, IsProgram, IsSoundModule}
use Rattle.fold_facts.proofs.Lists.{there, get_map, of_map}
use Rattle.fold_facts.proofs.Arriving.{place_in, in_place}
use Rattle.demands.specs.declared.demand.Demand.{Demand}
use Rattle.demands.specs.declared.demand.Demand.TheVariants.{Func as function, Var as variable}
use Rattle.demands.specs.Names.{is_unknown, copy_name}
use Rattle.demands.specs.Order.{symbol_of, pattern_of}
use Rattle.interface.specs.Masks.{chosen}
use Rattle.specialise.specs.Residual.{residual}
use Rattle.residual_laws.proofs.Every.{Every, every_of_all, every_at, every_by, every_to, every_flat, flat_every}
use Rattle.residual_laws.proofs.Used.{names_no_more}
use Rattle.winnowed_form.specs.declared.named.Named.{Named}
use Rattle.winnowed_form.specs.declared.named.Named.TheVariants.{Own, CopyOf}
use Rattle.winnowed_form.specs.declared.member.Member.{Member}
use Rattle.winnowed_form.specs.Basis.{Basis, basis}
use Rattle.winnowed_form.specs.Copies.{is_copy, written_name, written_params}
use Rattle.winnowed_form.specs.Items.{written_var, written_func, definition_of, definition, declared_func, declared_copy, own_item, declaration}
use Rattle.winnowed_form.specs.Members.{is_in, defined_in}
use Rattle.winnowed_form.specs.Names.{written_as, name_of, uses}
use Rattle.winnowed_form.specs.Winnowed.{IsWinnowedModule}
use Rattle.linking_again.specs.Whole.{IsFunctionLeft, IsLeftOf, asks, demands_of, IsWhole}
use Rattle.linking_again.proofs.Asking.{UseOf, ItemNamed, BodyNamed, MemberNamed, member_use}
use Rattle.linking_again.proofs.Kept.{Has, chosen_map}
use Rattle.linking_again.proofs.Lists.{every_filter, every_passes, filter_has, IsOne, flat_long, flat_at, flat_of, first_or_rest}
use Rattle.linking_again.proofs.Places.{stands_in, item_is}
use Rattle.linking_again.proofs.Range.{item_in}

-- A written module of a whole set.
pub record Frame (p : ProgramData) (cycles : List (List Bool)) (members : List Member) (home : ℕ) (m w : Module) : Type 0 where
  pub program : IsProgram p
  pub whole : IsWhole p cycles members
  pub stands : slice_get p.modules home ≡ Some m
  pub winnowed : IsWinnowedModule (basis p cycles) (defined_in home members) home m w

-- ---- members

-- the member of a demand of the set
pub member_of_demand : (members : List Member) (d : Demand) → Contains (demands_of members) d → (k : ℕ) × (member : Member) × (slice_get members k ≡ Some member) × (member.demand ≡ d)
member_of_demand members d c =
    let at = place_in (demands_of members) d c in
    let was = of_map (λ (member : Member). member.demand) members at.0 d at.1 in
    (at.0, was.0, was.1, was.2)

pub left_of_demand : (p : ProgramData) (cycles : List (List Bool)) (members : List Member) (d : Demand) → IsWhole p cycles members → Contains (demands_of members) d → (body : Option Body) × IsLeftOf p d body
left_of_demand p cycles members d whole c =
    let one = member_of_demand members d c in
    (one.1.body, subst (λ e. IsLeftOf p e one.1.body) one.3 (All-at (λ (member : Member). IsLeftOf p member.demand member.body) members one.0 one.1 whole.left one.2))

-- A copy of the set, with its function.
pub record CopyKnown (p : ProgramData) (cycles : List (List Bool)) (d : Demand) : Type 0 where
  pub symbol : Sym
  pub pattern : List Known
  pub body : Option Body
  pub is : d ≡ function symbol pattern
  pub left : IsFunctionLeft p symbol pattern body
  pub copy : is_copy (basis p cycles) d ≡ true

pub copy_known : (p : ProgramData) (cycles : List (List Bool)) (d : Demand) (body : Option Body) → IsLeftOf p d body → is_copy (basis p cycles) d ≡ true → CopyKnown p cycles d
copy_known p cycles (variable symbol) body left copy = absurd (false≢true copy)
copy_known p cycles (function symbol pattern) body left copy = record { symbol = symbol; pattern = pattern; body = body; is = refl; left = left; copy = copy }

pub function_at : (p : ProgramData) (symbol : Sym) (pattern : List Known) (body : Option Body) → (left : IsFunctionLeft p symbol pattern body) → item_at p.modules symbol ≡ Some (item.Func left.func)
function_at p symbol pattern body left = item_is p.modules symbol left.home left.stands ∙ left.is_function

-- ---- one item each

abbrev pub def_one : (p : ProgramData) (cycles : List (List Bool)) (home : ℕ) (place : Named → ℕ) (d : Demand) (body : Option Body) → IsLeftOf p d body → IsOne (definition_of (basis p cycles) home place d body (item_at p.modules (symbol_of d)))
def_one p cycles home place (variable symbol) body left = (item.Var (written_var place left.var), ap (definition_of (basis p cycles) home place (variable symbol) body) left.is_variable)
def_one p cycles home place (function symbol pattern) body left = (
  item.Func (written_func (basis p cycles) home place (function symbol pattern) left.func (residual pattern left.func left.assigned)),
  ap (definition_of (basis p cycles) home place (function symbol pattern) body) (function_at p symbol pattern body left)
      ∙ ap (λ (o : Option Body). definition_of (basis p cycles) home place (function symbol pattern) o (Some (item.Func left.func))) left.is,
)

abbrev pub copy_one : (p : ProgramData) (cycles : List (List Bool)) (d : Demand) → CopyKnown p cycles d → IsOne (declared_copy (basis p cycles) d (item_at p.modules (symbol_of d)))
copy_one p cycles d known = (
  item.Func (declared_func (basis p cycles) d known.left.func),
  ap (declared_copy (basis p cycles) d) (ap (λ e. item_at p.modules (symbol_of e)) known.is ∙ function_at p known.symbol known.pattern known.body known.left),
)

-- ---- what written items are

-- The item that is written for the module's own at a place: of its name, its type and its linkage.
pub record OwnItem (m : Module) (k : ℕ) (found : Item) : Type 0 where
  pub original : Item
  pub at : slice_get m.items k ≡ Some original
  pub name : item_name found ≡ item_name original
  pub type : function_type (Some found) ≡ function_type (Some original)
  pub linkage : linkage_of found ≡ linkage_of original

-- The item that is written for a copy.
pub record CopyItem (p : ProgramData) (cycles : List (List Bool)) (d : Demand) (found : Item) : Type 0 where
  pub known : CopyKnown p cycles d
  pub func : Func
  pub is : found ≡ item.Func func
  pub name : func.name ≡ copy_name (pattern_of d) known.left.func.name
  pub type : type_of func ≡ record (type_of known.left.func) { params = chosen (map is_unknown (pattern_of d)) (type_of known.left.func).params }

abbrev pub IsItemFor : ProgramData → List (List Bool) → Module → Named → Item → Type 0
IsItemFor p cycles m (Own k) found = OwnItem m k found
IsItemFor p cycles m (CopyOf d) found = CopyItem p cycles d found

all_true : {X : Type 0} (params : List Param) (xs : List X) → length xs ≡ length params → chosen (map (λ (param : Param). true) params) xs ≡ xs
all_true [] [] e = refl
all_true [] (x ∷ xs) e = absurd (omega (arith, e))
all_true (param ∷ more) [] e = refl
all_true (param ∷ more) (x ∷ xs) e = ap (λ l. x ∷ l) (all_true more xs (omega (arith, e)))

-- what is no copy keeps its name and its parameters
pub plain_name : (b : Basis) (d : Demand) (func : Func) → is_copy b d ≡ false → written_name b d func ≡ func.name
plain_name b d func e = ap (λ c. if c then copy_name (pattern_of d) func.name else func.name) e

pub plain_params : (b : Basis) (d : Demand) (func : Func) → is_copy b d ≡ false → written_params b d func ≡ func.params
plain_params b d func e = ap (λ c. chosen (if c then map is_unknown (pattern_of d) else map (λ (param : Param). true) func.params) func.params) e ∙ all_true func.params func.params refl

pub copied_name : (b : Basis) (d : Demand) (func : Func) → is_copy b d ≡ true → written_name b d func ≡ copy_name (pattern_of d) func.name
copied_name b d func e = ap (λ c. if c then copy_name (pattern_of d) func.name else func.name) e

pub copied_params : (b : Basis) (d : Demand) (func : Func) → is_copy b d ≡ true → written_params b d func ≡ chosen (map is_unknown (pattern_of d)) func.params
copied_params b d func e = ap (λ c. chosen (if c then map is_unknown (pattern_of d) else map (λ (param : Param). true) func.params) func.params) e

copied_type : (d : Demand) (func : Func) (params : List Param) → params ≡ chosen (map is_unknown (pattern_of d)) func.params
    → record (type_of func) { params = map (λ (param : Param). param.ty) params } ≡ record (type_of func) { params = chosen (map is_unknown (pattern_of d)) (type_of func).params }
copied_type d func params e = ap (λ l. record (type_of func) { params = l }) (ap (map (λ (param : Param). param.ty)) e ∙ chosen_map (λ (param : Param). param.ty) (map is_unknown (pattern_of d)) func.params)

-- The name that a member has is its own, where it is no copy, or the copy's.
pub record MemberName (p : ProgramData) (cycles : List (List Bool)) (d : Demand) (named : Named) : Type 0 where
  pub plain : is_copy (basis p cycles) d ≡ false → named ≡ Own (symbol_of d).item
  pub copy : is_copy (basis p cycles) d ≡ true → named ≡ CopyOf d

pub member_name : (p : ProgramData) (cycles : List (List Bool)) (d : Demand) → MemberName p cycles d (written_as (basis p cycles) (symbol_of d).item (Some d))
member_name p cycles d = record {
  plain = λ e. ap (λ c. if c then CopyOf d else Own (symbol_of d).item) e;
  copy = λ e. ap (λ c. if c then CopyOf d else Own (symbol_of d).item) e;
}

-- what a member's definition is
def_item : (p : ProgramData) (cycles : List (List Bool)) (home : ℕ) (m : Module) (place : Named → ℕ) (d : Demand) (body : Option Body) (found : Item) → slice_get p.modules home ≡ Some m → (symbol_of d).module ≡ home → IsLeftOf p d body
    → definition_of (basis p cycles) home place d body (item_at p.modules (symbol_of d)) ≡ found ∷ [] → IsItemFor p cycles m (written_as (basis p cycles) (symbol_of d).item (Some d)) found
def_item p cycles home m place (variable symbol) body found stands here left is =
    let made = def_one p cycles home place (variable symbol) body left in
    let same : made.0 ≡ found = head_is (sym made.1 ∙ is) in
    let at : slice_get m.items symbol.item ≡ Some (item.Var left.var) = sym (item_is p.modules symbol m (ap (slice_get p.modules) here ∙ stands)) ∙ left.is_variable in
    subst (OwnItem m symbol.item) same (record { original = item.Var left.var; at = at; name = refl; type = refl; linkage = refl })
  where
    head_is : {x y : Item} → (x ∷ []) ≡ (y ∷ []) → x ≡ y
    head_is e = cc
def_item p cycles home m place (function symbol pattern) body found stands here left is = by (is_copy b d) refl
  where
    b : Basis
    b = basis p cycles

    d : Demand
    d = function symbol pattern

    head_is : {x y : Item} → (x ∷ []) ≡ (y ∷ []) → x ≡ y
    head_is e = cc

    func : Func
    func = written_func b home place d left.func (residual pattern left.func left.assigned)

    same : item.Func func ≡ found
    same = head_is (sym (def_one p cycles home place (function symbol pattern) body left).1 ∙ is)

    at : slice_get m.items symbol.item ≡ Some (item.Func left.func)
    at = sym (item_is p.modules symbol m (ap (slice_get p.modules) here ∙ stands)) ∙ function_at p symbol pattern body left

    by : (c : Bool) → is_copy b d ≡ c → IsItemFor p cycles m (if c then CopyOf d else Own symbol.item) found
    by true e = subst (CopyItem p cycles d) same (record {
      known = record { symbol = symbol; pattern = pattern; body = body; is = refl; left = left; copy = e };
      func = func;
      is = refl;
      name = copied_name b d left.func e;
      type = copied_type d left.func (written_params b d left.func) (copied_params b d left.func e);
    })
    by false e = subst (OwnItem m symbol.item) same (record {
      original = item.Func left.func;
      at = at;
      name = plain_name b d left.func e;
      type = ap (λ l. Some (record (type_of left.func) { params = map (λ (param : Param). param.ty) l })) (plain_params b d left.func e);
      linkage = refl;
    })

-- ---- uses

-- A place that an item of the module names: the item that stands there.
pub record NamedHere (p : ProgramData) (home k : ℕ) : Type 0 where
  pub by : Sym
  pub here : by.module ≡ home
  pub user : Item
  pub stands : item_at p.modules by ≡ Some user
  pub names : Contains (item_names user) k
  pub found : Item
  pub found_at : item_at p.modules (record { «module» = home; item = k }) ≡ Some found

-- what an item of a module names
pub names_of_item : (p : ProgramData) (home : ℕ) (by : Sym) (user : Item) → IsProgram p → by.module ≡ home → item_at p.modules by ≡ Some user → Every (NamedHere p home) (item_names user)
names_of_item p home by user program there_is stands = every_by (NamedHere p home) (item_names user) (λ j k is.
    let at = stands_in p.modules by user stands in
    let formed = All-at (FormedItem at.home.items) at.home.items by.item user (All-at IsSoundModule p.modules by.module at.home program.sound.sound at.stands).formed.has_items at.is in
    let less : k < length at.home.items = every_at (λ k. k < length at.home.items) (item_names user) j k (item_in at.home.items user formed) is in
    let one = there at.home.items k less in
    record {
      by = by;
      here = there_is;
      user = user;
      stands = stands;
      names = in_place (item_names user) j k is;
      found = one.0;
      found_at = item_is p.modules (record { «module» = home; item = k }) at.home (ap (slice_get p.modules) (sym there_is) ∙ at.stands) ∙ one.1;
    })

module _ (p : ProgramData) (cycles : List (List Bool)) (members : List Member) (home : ℕ) (m w : Module) (f : Frame p cycles members home m w) where
  abbrev pub theirs : Basis
  theirs = basis p cycles

  abbrev pub here : List Member
  here = defined_in home members

  abbrev pub D : Demand → Type 0
  D = Contains (demands_of members)

  abbrev pub all_names : List Named
  all_names = map (name_of theirs) here ++ f.winnowed.declared

  pub left_here : Every (λ (member : Member). IsLeftOf p member.demand member.body) here
  left_here = every_filter (λ (member : Member). IsLeftOf p member.demand member.body) (is_in home) members (every_of_all (λ (member : Member). IsLeftOf p member.demand member.body) members f.whole.left)

  pub at_home : Every (λ (member : Member). (symbol_of member.demand).module ≡ home) here
  at_home = every_to (λ (member : Member). is_in home member ≡ true) (λ (member : Member). (symbol_of member.demand).module ≡ home) here (λ member e. eqb-true (symbol_of member.demand).module home e) (every_passes (is_in home) members)

  asked_here : Every (λ (member : Member). All D (asks p cycles member)) here
  asked_here = every_filter (λ (member : Member). All D (asks p cycles member)) (is_in home) members (every_of_all (λ (member : Member). All D (asks p cycles member)) members f.whole.closed)

  pub demanded_here : Every (λ (member : Member). D member.demand) here
  demanded_here = every_filter (λ (member : Member). D member.demand) (is_in home) members (every_by (λ (member : Member). D member.demand) members (λ k member is. in_place (demands_of members) k member.demand (get_map (λ (x : Member). x.demand) members k member is)))

  -- what an item of the module names
  names_here : (by : Sym) (user : Item) → by.module ≡ home → item_at p.modules by ≡ Some user → Every (NamedHere p home) (item_names user)
  names_here by user there_is stands = names_of_item p home by user f.program there_is stands

  member_named : (d : Demand) (body : Option Body) → (symbol_of d).module ≡ home → IsLeftOf p d body → MemberNamed p cycles home (NamedHere p home) D d body
  member_named (variable symbol) body there_is left = by (item_at p.modules symbol) refl
    where
      by : (o : Option Item) → item_at p.modules symbol ≡ o → ItemNamed p cycles home (NamedHere p home) D o
      by None e = tt
      by (Some found) e = names_here symbol found there_is e
  member_named (function symbol pattern) body there_is left = subst (λ (o : Option Body). BodyNamed p cycles home (NamedHere p home) D o) (sym left.is)
      (every_by (NamedHere p home) (body_names (residual pattern left.func left.assigned)) (λ j k is.
      let was = place_in (item_names (item.Func left.func)) k (names_no_more pattern left.func left.assigned k (in_place (body_names (residual pattern left.func left.assigned)) j k is)) in
      every_at (NamedHere p home) (item_names (item.Func left.func)) was.0 k (names_here symbol (item.Func left.func) there_is (function_at p symbol pattern body left)) was.1))

  abbrev pub Used : Named → Type 0
  Used = UseOf p cycles home (NamedHere p home) D

  all_used : Every Used (flat_map (uses theirs home) here)
  all_used = flat_every Used (uses theirs home) here (every_by (λ (member : Member). Every Used (uses theirs home member)) here (λ j member is.
      let left = every_at (λ (x : Member). IsLeftOf p x.demand x.body) here j member left_here is in
      let home_is = every_at (λ (x : Member). (symbol_of x.demand).module ≡ home) here j member at_home is in
      let asked = every_at (λ (x : Member). All D (asks p cycles x)) here j member asked_here is in
      member_use p cycles home (NamedHere p home) D member.demand member.body home_is (member_named member.demand member.body home_is left) (every_of_all D (asks p cycles member) asked)))

  pub declared_used : Every Used f.winnowed.declared
  declared_used = every_to (Contains (flat_map (uses theirs home) here)) Used f.winnowed.declared (λ named c.
      let at = place_in (flat_map (uses theirs home) here) named c in
      every_at Used (flat_map (uses theirs home) here) at.0 named all_used at.1) (every_of_all (Contains (flat_map (uses theirs home) here)) f.winnowed.declared f.winnowed.are_declared.used_names)

  -- ---- items

  pub copy_of_use : (d : Demand) → Used (CopyOf d) → CopyKnown p cycles d
  copy_of_use d used = let left = left_of_demand p cycles members d f.whole used.asked in copy_known p cycles d left.0 left.1 used.copy

  declared_one : (named : Named) → Used named → IsOne (declaration theirs home named)
  declared_one (Own k) used = (used.0.found, ap own_item used.0.found_at)
  declared_one (CopyOf d) used = copy_one p cycles d (copy_of_use d used)

  declared_item : (named : Named) (found : Item) → Used named → declaration theirs home named ≡ found ∷ [] → IsItemFor p cycles m named found
  declared_item (Own k) found used is =
      let same : used.0.found ≡ found = head_is (sym (ap own_item used.0.found_at) ∙ is) in
      record { original = found; at = sym (item_is p.modules (record { «module» = home; item = k }) m f.stands) ∙ used.0.found_at ∙ ap Some same; name = refl; type = refl; linkage = refl }
    where
      head_is : {x y : Item} → (x ∷ []) ≡ (y ∷ []) → x ≡ y
      head_is e = cc
  declared_item (CopyOf d) found used is =
      let known = copy_of_use d used in
      let same : item.Func (declared_func theirs d known.left.func) ≡ found = head_is (sym (copy_one p cycles d known).1 ∙ is) in
      record {
        known = known;
        func = declared_func theirs d known.left.func;
        is = sym same;
        name = copied_name theirs d known.left.func known.copy;
        type = copied_type d known.left.func (written_params theirs d known.left.func) (copied_params theirs d known.left.func known.copy);
      }
    where
      head_is : {x y : Item} → (x ∷ []) ≡ (y ∷ []) → x ≡ y
      head_is e = cc

  abbrev pub defs : List Item
  defs = flat_map (definition theirs home f.winnowed.place) here

  abbrev pub decls : List Item
  decls = flat_map (declaration theirs home) f.winnowed.declared

  pub def_ones : Every (λ (member : Member). IsOne (definition theirs home f.winnowed.place member)) here
  def_ones = every_to (λ (member : Member). IsLeftOf p member.demand member.body) (λ (member : Member). IsOne (definition theirs home f.winnowed.place member)) here (λ member left. def_one p cycles home f.winnowed.place member.demand member.body left) left_here

  pub decl_ones : Every (λ named. IsOne (declaration theirs home named)) f.winnowed.declared
  decl_ones = every_to Used (λ named. IsOne (declaration theirs home named)) f.winnowed.declared declared_one declared_used

  -- An item of the module: the definition of a member, or the declaration of a name.
  pub record IsDefined (i : ℕ) (found : Item) : Type 0 where
    pub member : Member
    pub at : slice_get here i ≡ Some member
    pub is : definition theirs home f.winnowed.place member ≡ found ∷ []

  pub record IsDeclaredAs (i : ℕ) (found : Item) : Type 0 where
    pub named : Named
    pub at : slice_get f.winnowed.declared i ≡ Some named
    pub is : declaration theirs home named ≡ found ∷ []
    pub used : Used named

  pub item_cases : (i : ℕ) (found : Item) → slice_get w.items i ≡ Some found → IsDefined i found ⊎ ((j : ℕ) × (length here + j ≡ i) × IsDeclaredAs j found)
  item_cases i found is = by (first_or_rest defs decls i found (sym (ap (λ l. slice_get l i) f.winnowed.items) ∙ is))
    where
      by : (slice_get defs i ≡ Some found) ⊎ ((j : ℕ) × (length defs + j ≡ i) × (slice_get decls j ≡ Some found)) → IsDefined i found ⊎ ((j : ℕ) × (length here + j ≡ i) × IsDeclaredAs j found)
      by (inl e) = let was = flat_of (definition theirs home f.winnowed.place) here i found def_ones e in inl (record { member = was.0; at = was.1; is = was.2 })
      by (inr (j, at, e)) =
          let was = flat_of (declaration theirs home) f.winnowed.declared j found decl_ones e in
          inr (j, ap (λ n. n + j) (sym (flat_long (definition theirs home f.winnowed.place) here def_ones)) ∙ at, record { named = was.0; at = was.1; is = was.2; used = every_at Used f.winnowed.declared j was.0 declared_used was.1 })

  pub defined_item : (i : ℕ) (found : Item) → (d : IsDefined i found) → IsItemFor p cycles m (name_of theirs d.member) found
  defined_item i found d = def_item p cycles home m f.winnowed.place d.member.demand d.member.body found f.stands (every_at (λ (x : Member). (symbol_of x.demand).module ≡ home) here i d.member at_home d.at)
      (every_at (λ (x : Member). IsLeftOf p x.demand x.body) here i d.member left_here d.at) d.is

  pub declaration_item : (i : ℕ) (found : Item) → (d : IsDeclaredAs i found) → IsItemFor p cycles m d.named found
  declaration_item i found d = declared_item d.named found d.used d.is

  -- each name has an item at its place in the list of names
  pub item_there : (i : ℕ) (named : Named) → slice_get all_names i ≡ Some named → (found : Item) × (slice_get w.items i ≡ Some found) × IsItemFor p cycles m named found
  item_there i named is = by (first_or_rest (map (name_of theirs) here) f.winnowed.declared i named is)
    where
      by : (slice_get (map (name_of theirs) here) i ≡ Some named) ⊎ ((j : ℕ) × (length (map (name_of theirs) here) + j ≡ i) × (slice_get f.winnowed.declared j ≡ Some named)) → (found : Item) × (slice_get w.items i ≡ Some found) × IsItemFor p cycles m named found
      by (inl e) =
          let was = of_map (name_of theirs) here i named e in
          let one = flat_at (definition theirs home f.winnowed.place) here i was.0 def_ones was.1 in (
            one.0,
            ap (λ l. slice_get l i) f.winnowed.items ∙ slice_get-append_first defs decls i one.0 one.2,
            subst (λ n. IsItemFor p cycles m n one.0) was.2 (defined_item i one.0 (record { member = was.0; at = was.1; is = one.1 })),
          )
      by (inr (j, at, e)) =
          let one = flat_at (declaration theirs home) f.winnowed.declared j named decl_ones e in
          let used = every_at Used f.winnowed.declared j named declared_used e in (
            one.0,
            ap (λ l. slice_get l i) f.winnowed.items ∙ slice_get-append_rest defs decls j i (shift (flat_long (definition theirs home f.winnowed.place) here def_ones) (length-map here (name_of theirs)) at) ∙ one.2,
            declared_item named one.0 used one.1,
          )
        where
          shift : length defs ≡ length here → length (map (name_of theirs) here) ≡ length here → length (map (name_of theirs) here) + j ≡ i → j + length defs ≡ i
          shift a c e = omega (arith, a, c, e)

  -- the item of a name
  pub item_of : (named : Named) → Has all_names named → (found : Item) × (slice_get w.items (f.winnowed.place named) ≡ Some found) × IsItemFor p cycles m named found
  item_of named has = item_there (f.winnowed.place named) named (All-at (λ named. slice_get all_names (f.winnowed.place named) ≡ Some named) all_names has.0 named f.winnowed.placed has.1)

  -- each use has its item
  pub use_has : (j : ℕ) (member : Member) → slice_get here j ≡ Some member → Every (Has all_names) (uses theirs home member)
  use_has j member is = every_at (λ (x : Member). Every (Has all_names) (uses theirs home x)) here j member
      (every_flat (Has all_names) (uses theirs home) here (every_to (Contains all_names) (Has all_names) (flat_map (uses theirs home) here) (λ named c. place_in all_names named c)
      (every_of_all (Contains all_names) (flat_map (uses theirs home) here) f.winnowed.are_declared.all))) is

  -- A definition of the module that is demanded under its own name is a member with the name of its place.
  pub name_in : (d : Demand) (k : ℕ) → D d → symbol_of d ≡ record { «module» = home; item = k } → is_copy theirs d ≡ false → Contains (map (name_of theirs) here) (Own k)
  name_in d k c of plain =
      let one = member_of_demand members d c in
      let home_is : (symbol_of one.1.demand).module ≡ home = ap (λ e. (symbol_of e).module) one.3 ∙ ap (λ (s : Sym). s.module) of in
      let at = filter_has (is_in home) members one.0 one.1 one.2 (eq-eqb (symbol_of one.1.demand).module home home_is) in
      let name : name_of theirs one.1 ≡ Own k = (member_name p cycles one.1.demand).plain (ap (is_copy theirs) one.3 ∙ plain) ∙ ap (λ (s : Sym). Own s.item) (ap symbol_of one.3 ∙ of) in
      in_place (map (name_of theirs) here) at.0 (Own k) (get_map (name_of theirs) here at.0 one.1 at.1 ∙ ap Some name)

  -- what stands at a place of the written module has the name of that place
  pub name_at : (i : ℕ) (found : Item) → slice_get w.items i ≡ Some found → (one : Named) × (slice_get all_names i ≡ Some one) × IsItemFor p cycles m one found
  name_at i found is = by (item_cases i found is)
    where
      by : IsDefined i found ⊎ ((j : ℕ) × (length here + j ≡ i) × IsDeclaredAs j found) → (one : Named) × (slice_get all_names i ≡ Some one) × IsItemFor p cycles m one found
      by (inl d) = (name_of theirs d.member, slice_get-append_first (map (name_of theirs) here) f.winnowed.declared i (name_of theirs d.member) (get_map (name_of theirs) here i d.member d.at), defined_item i found d)
      by (inr (j, at, d)) = (d.named, slice_get-append_rest (map (name_of theirs) here) f.winnowed.declared j i (shift (length-map here (name_of theirs)) at) ∙ d.at, declaration_item j found d)
        where
          shift : length (map (name_of theirs) here) ≡ length here → length here + j ≡ i → j + length (map (name_of theirs) here) ≡ i
          shift x y = omega (arith, x, y)

  -- A copy of a function of the module that is demanded is a member of the module.
  pub copy_in : (d : Demand) → D d → (symbol_of d).module ≡ home → is_copy theirs d ≡ true → Contains (map (name_of theirs) here) (CopyOf d)
  copy_in d c home_is copy =
      let one = member_of_demand members d c in
      let at = filter_has (is_in home) members one.0 one.1 one.2 (eq-eqb (symbol_of one.1.demand).module home (ap (λ e. (symbol_of e).module) one.3 ∙ home_is)) in
      let name : name_of theirs one.1 ≡ CopyOf d = (member_name p cycles one.1.demand).copy (ap (is_copy theirs) one.3 ∙ copy) ∙ ap CopyOf one.3 in
      in_place (map (name_of theirs) here) at.0 (CopyOf d) (get_map (name_of theirs) here at.0 one.1 at.1 ∙ ap Some name)
