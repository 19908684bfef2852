-- The written modules keep the rules of linking.
use Rattle.std.proofs.Common.{◌≡◌, ◌∙◌, ◌⊎◌, inl, inr, ℕ, Bool, true, false, List, [], ◌∷◌, Some, Contains, map, refl, ap, sym, subst}
use Rattle.std.specs.Prelude.{slice_get}
use Rattle.ir_types.proofs.ListSteps.{All-at}
use Rattle.ir_syntax.specs.declared.symbol.Sym.{Sym}
use Rattle.ir_syntax.specs.declared.item.Linkage.TheVariants.{External}
use Rattle.ir_syntax.specs.declared.item.Func.{Func}
use Rattle.ir_syntax.specs.declared.item.Item.{Item}
use Rattle.ir_syntax.specs.declared.item.Item.TheVariants as item
use Rattle.ir_syntax.specs.declared.item.Module.{Module}
use Rattle.ir_syntax.specs.FormedBody.{item_name}
use Rattle.ir_syntax.specs.FunctionTypes.{type_of, function_type}
use Rattle.ir_syntax.specs.Refusals.{HasTwoDefinitions, IsListed, IsMissing, DifferInType, ClashesInType}
use Rattle.ir_syntax.specs.Symbols.{item_at, linkage_of, IsItemOf, IsDefinitionOf, IsUndefined}
use Rattle.ir_syntax.specs.Programs.{ProgramData, IsProgram}
use Rattle.fold_facts.proofs.Lists.{some_is}
use Rattle.demands.specs.declared.demand.Demand.{Demand}
use Rattle.demands.specs.declared.demand.Demand.TheVariants.{Func as function}
use Rattle.demands.specs.Names.{is_unknown, copy_name}
use Rattle.demands.specs.Order.{symbol_of, pattern_of}
use Rattle.interface.specs.Masks.{chosen}
use Rattle.winnowed_form.specs.declared.named.Named.{Named}
use Rattle.winnowed_form.specs.declared.named.Named.TheVariants.{Own, CopyOf}
use Rattle.winnowed_form.specs.declared.member.Member.{Member}
use Rattle.winnowed_form.specs.Basis.{Basis, basis}
use Rattle.winnowed_form.specs.Clashes.{item_names, copy_names, AreFree}
use Rattle.winnowed_form.specs.Copies.{is_copy}
use Rattle.winnowed_form.specs.Items.{own_item, declaration}
use Rattle.winnowed_form.specs.Members.{defined_in}
use Rattle.winnowed_form.specs.Names.{name_of}
use Rattle.winnowed_form.specs.Winnowed.{AreWinnowedModules}
use Rattle.linking_again.specs.Whole.{demands_of, IsWhole}
use Rattle.linking_again.proofs.Distinct.{copy_is_free, name_taken, copies_apart}
use Rattle.linking_again.proofs.Facts.{Resolved, resolved, one_of, external_definition}
use Rattle.linking_again.proofs.Home as at_home
use Rattle.linking_again.proofs.Home.{Frame, NamedHere, CopyKnown, function_at, copy_one, OwnItem, CopyItem, IsItemFor, copied_name, MemberName, member_name}
use Rattle.linking_again.proofs.Made as at_made
use Rattle.linking_again.proofs.Made.{Written}
use Rattle.linking_again.proofs.Places.{item_is}
use Rattle.linking_again.proofs.Suiting.{CallsCopy, calls_copy, one_type, function_is}

module _ (p : ProgramData) (cycles : List (List Bool)) (members : List Member) (made : List Module) (program : IsProgram p) (whole : IsWhole p cycles members) (free : AreFree p.modules (copy_names (basis p cycles) members))
    (are : AreWinnowedModules (basis p cycles) members made) where
  abbrev b : Basis
  b = basis p cycles

  abbrev D : Demand → Type 0
  D = Contains (demands_of members)

  abbrev pub DefinedBy : Sym → Item → Type 0
  DefinedBy = at_made.DefinedBy p cycles members made program whole free are

  abbrev pub DeclaredBy : Sym → Item → Type 0
  DeclaredBy = at_made.DeclaredBy p cycles members made program whole free are

  head_is : {x y : Item} → (x ∷ []) ≡ (y ∷ []) → x ≡ y
  head_is e = cc

  -- ---- two definitions

  pub one_definition : (name : List ℕ) → HasTwoDefinitions made name → ⊥
  one_definition name two = two.apart (at_made.one_symbol p cycles members made program whole free are two.one two.other two.one_defined.found two.other_defined.found one other
      (at_made.one_member p cycles members made program whole free are two.one two.other two.one_defined.found two.other_defined.found one other two.one_defined.is_of.external two.other_defined.is_of.external (two.one_defined.is_of.named ∙ sym two.other_defined.is_of.named)))
    where
      one : DefinedBy two.one two.one_defined.found
      one = at_made.definition_by p cycles members made program whole free are two.one two.one_defined.found two.one_defined.is_of.stands two.one_defined.defined

      other : DefinedBy two.other two.other_defined.found
      other = at_made.definition_by p cycles members made program whole free are two.other two.other_defined.found two.other_defined.is_of.stands two.other_defined.defined

  -- ---- what an item of an external name is of

  -- An item of the program of the name, under its own name there too; or a copy, whose function is external.
  pub record OwnOf (found : Item) (symbol : Sym) : Type 0 where
    pub original : Item
    pub stands : item_at p.modules symbol ≡ Some original
    pub external : linkage_of original ≡ External
    pub name : item_name found ≡ item_name original
    pub type : function_type (Some found) ≡ function_type (Some original)

  pub record CopyOfDemand (found : Item) (d : Demand) : Type 0 where
    pub of : CopyItem p cycles d found
    pub demanded : D d
    pub external : linkage_of (item.Func of.known.left.func) ≡ External

  abbrev pub Source : Item → Type 0
  Source found = ((symbol : Sym) × OwnOf found symbol) ⊎ ((d : Demand) × CopyOfDemand found d)

  own_source : (home k : ℕ) (m : Module) (found : Item) → slice_get p.modules home ≡ Some m → linkage_of found ≡ External → OwnItem m k found → OwnOf found (record { «module» = home; item = k })
  own_source home k m found stands external own = record {
    original = own.original;
    stands = item_is p.modules (record { «module» = home; item = k }) m stands ∙ own.at;
    external = sym own.linkage ∙ external;
    name = own.name;
    type = own.type;
  }

  -- a copy that is declared is of another module's external function
  declared_copy_external : (symbol : Sym) (found : Item) (decl : DeclaredBy symbol found) (d : Demand) → decl.declared.named ≡ CopyOf d → (used : at_home.Used p cycles members symbol.module decl.at.m decl.w decl.at.frame (CopyOf d)) → (known : CopyKnown p cycles d)
      → linkage_of (item.Func known.left.func) ≡ External
  declared_copy_external symbol found decl d is used known = by r.other
    where
      calls : CallsCopy p symbol.module used.place d
      calls = calls_copy p cycles symbol.module used.place used.known d used.is used.copy

      at : Sym
      at = record { «module» = symbol.module; item = used.place }

      r : Resolved p (record { «module» = symbol.module; item = used.place }) used.used.found calls.symbol
      r = resolved p symbol.module used.place used.used.found calls.symbol program used.used.found_at calls.resolves

      symbol_is : calls.symbol ≡ known.symbol
      symbol_is = ap symbol_of (sym calls.is ∙ known.is)

      def : item.Func known.left.func ≡ r.definition
      def = some_is (sym (function_at p known.symbol known.pattern known.body known.left) ∙ ap (item_at p.modules) (sym symbol_is) ∙ r.stands)

      not_here : Contains (map (name_of b) (defined_in symbol.module members)) (CopyOf d) → ⊥
      not_here = subst (λ x. Contains (map (name_of b) (defined_in symbol.module members)) x → ⊥) is
          (All-at (λ named. Contains (map (name_of b) (defined_in symbol.module members)) named → ⊥) decl.at.frame.winnowed.declared decl.place decl.declared.named decl.at.frame.winnowed.are_declared.not_defined decl.declared.at)

      by : (calls.symbol ≡ record { «module» = symbol.module; item = used.place }) ⊎ (linkage_of used.used.found ≡ External) → linkage_of (item.Func known.left.func) ≡ External
      by (inl e) = absurd (not_here (at_home.copy_in p cycles members symbol.module decl.at.m decl.w decl.at.frame d used.asked (ap (λ x. (symbol_of x).module) known.is ∙ ap (λ (s : Sym). s.module) (sym symbol_is) ∙ ap (λ (s : Sym). s.module) e) used.copy))
      by (inr e) = ap linkage_of def ∙ r.linkage ∙ e

  declared_source : (symbol : Sym) (found : Item) → linkage_of found ≡ External → (decl : DeclaredBy symbol found) → Source found
  declared_source symbol found external decl = by decl.declared.named refl decl.declared.used (at_home.declaration_item p cycles members symbol.module decl.at.m decl.w decl.at.frame decl.place found decl.declared)
    where
      by : (one : Named) → decl.declared.named ≡ one → at_home.Used p cycles members symbol.module decl.at.m decl.w decl.at.frame one → IsItemFor p cycles decl.at.m one found → Source found
      by (Own k) e used i = inl (record { «module» = symbol.module; item = k }, own_source symbol.module k decl.at.m found decl.at.frame.stands external i)
      by (CopyOf d) e used i = inr (d, record { of = i; demanded = used.asked; external = declared_copy_external symbol found decl d e used i.known })

  defined_source : (symbol : Sym) (found : Item) → linkage_of found ≡ External → DefinedBy symbol found → Source found
  defined_source symbol found external d = by (is_copy b d.defined.member.demand) refl
    where
      item_for : IsItemFor p cycles d.at.m (name_of b d.defined.member) found
      item_for = at_home.defined_item p cycles members symbol.module d.at.m d.w d.at.frame symbol.item found d.defined

      by : (x : Bool) → is_copy b d.defined.member.demand ≡ x → Source found
      by true x =
          let name = (member_name p cycles d.defined.member.demand).copy x in
          let i : CopyItem p cycles d.defined.member.demand found = subst (λ n. IsItemFor p cycles d.at.m n found) name item_for in
          let copied = d.written_as.copied x in
          let same : item.Func copied.0.left.func ≡ item.Func i.known.left.func = some_is (sym (function_at p copied.0.symbol copied.0.pattern copied.0.body copied.0.left) ∙ ap (λ e. item_at p.modules (symbol_of e)) (sym copied.0.is ∙ i.known.is) ∙ function_at p i.known.symbol i.known.pattern i.known.body i.known.left) in
          inr (d.defined.member.demand, record { of = i; demanded = d.demanded; external = ap linkage_of (sym same) ∙ ap linkage_of (sym copied.1) ∙ sym d.written_as.linkage ∙ external })
      by false x =
          let k = (symbol_of d.defined.member.demand).item in
          let name = (member_name p cycles d.defined.member.demand).plain x in
          inl (record { «module» = symbol.module; item = k }, own_source symbol.module k d.at.m found d.at.frame.stands external (subst (λ n. IsItemFor p cycles d.at.m n found) name item_for))

  source : (symbol : Sym) (found : Item) → item_at made symbol ≡ Some found → linkage_of found ≡ External → Source found
  source symbol found is external = by (at_made.item_cases p cycles members made program whole free are symbol found is)
    where
      by : DefinedBy symbol found ⊎ DeclaredBy symbol found → Source found
      by (inl d) = defined_source symbol found external d
      by (inr d) = declared_source symbol found external d

  -- ---- types

  copy_func_name : (found : Item) (d : Demand) → (c : CopyOfDemand found d) → item_name found ≡ copy_name (pattern_of d) c.of.known.left.func.name
  copy_func_name found d c = ap item_name c.of.is ∙ c.of.name

  copy_and_own : (found other : Item) (d : Demand) (symbol : Sym) → CopyOfDemand found d → OwnOf other symbol → item_name found ≡ item_name other → ⊥
  copy_and_own found other d symbol c o same =
      copy_is_free p cycles members d free c.demanded c.of.known (subst (Contains (item_names p.modules)) (sym o.name ∙ sym same ∙ copy_func_name found d c) (name_taken p symbol o.original o.stands))

  copies_are_one : (found other : Item) (d e : Demand) → CopyOfDemand found d → CopyOfDemand other e → item_name found ≡ item_name other → d ≡ e
  copies_are_one found other d e c k same =
      let one = c.of.known in
      let two = k.of.known in
      let parts = copies_apart p cycles d e one two (sym (copy_func_name found d c) ∙ same ∙ copy_func_name other e k) in
      let symbols : one.symbol ≡ two.symbol = one_of p two.left.func.name one.symbol two.symbol program
      (record { found = item.Func one.left.func; is_of = record { stands = function_at p one.symbol one.pattern one.body one.left; external = c.external; named = parts.1 }; defined = one.left.left.defined })
      (record { found = item.Func two.left.func; is_of = record { stands = function_at p two.symbol two.pattern two.body two.left; external = k.external; named = refl }; defined = two.left.left.defined }) in
      one.is ∙ (λ i. function (symbols i) (parts.0 i)) ∙ sym two.is

  copy_types : (found other : Item) (d e : Demand) → CopyItem p cycles d found → CopyItem p cycles e other → d ≡ e → function_type (Some found) ≡ function_type (Some other)
  copy_types found other d e c k same =
      let one = c.known in
      let two = k.known in
      let func : item.Func one.left.func ≡ item.Func two.left.func = some_is (sym (function_at p one.symbol one.pattern one.body one.left) ∙ ap (λ x. item_at p.modules (symbol_of x)) (sym one.is ∙ same ∙ two.is) ∙ function_at p two.symbol two.pattern two.body two.left) in
      let is : one.left.func ≡ two.left.func = func_is func in
      ap (λ x. function_type (Some x)) c.is ∙ ap Some c.type ∙ (λ i. Some (record (type_of (is i)) { params = chosen (map is_unknown (pattern_of (same i))) (type_of (is i)).params })) ∙ sym (ap (λ x. function_type (Some x)) k.is ∙ ap Some k.type)
    where
      func_is : {x y : Func} → item.Func x ≡ item.Func y → x ≡ y
      func_is e = cc

  types_alike : (found other : Item) → Source found → Source other → item_name found ≡ item_name other → function_type (Some found) ≡ function_type (Some other)
  types_alike found other (inl (s, o)) (inl (t, q)) same =
      o.type ∙ one_type p s t o.original q.original program o.stands q.stands o.external q.external (sym q.name ∙ sym same ∙ o.name) ∙ sym q.type
  types_alike found other (inl (s, o)) (inr (e, k)) same = absurd (copy_and_own other found e s k o (sym same))
  types_alike found other (inr (d, c)) (inl (t, q)) same = absurd (copy_and_own found other d t c q same)
  types_alike found other (inr (d, c)) (inr (e, k)) same = copy_types found other d e c.of k.of (copies_are_one found other d e c k same)

  differ_not : (name : List ℕ) → DifferInType made name → ⊥
  differ_not name d = d.differ (types_alike d.one_found d.other_found (source d.one d.one_found d.one_of.stands d.one_of.external) (source d.other d.other_found d.other_of.stands d.other_of.external) (d.one_of.named ∙ sym d.other_of.named))

  -- ---- names without a definition

  -- A declaration of an external name that the written modules don't define: the program has it, and names it, and doesn't define it.
  pub record Back (name : List ℕ) (symbol : Sym) (found : Item) : Type 0 where
    pub place : ℕ
    pub named : NamedHere p symbol.module place
    pub is : named.found ≡ found
    pub undefined : IsUndefined p.modules name

  back : (name : List ℕ) (symbol : Sym) (found : Item) → IsItemOf made name symbol found → IsUndefined made name → Back name symbol found
  back name symbol found of undefined = by (at_made.item_cases p cycles members made program whole free are symbol found of.stands)
    where
      -- a member defines the name
      member_defines : (d : Demand) → D d → ((h : at_made.HasDefinition p cycles members made program whole free are d) → (linkage_of h.found ≡ External) × (item_name h.found ≡ name)) → ⊥
      member_defines d c is =
          let h = at_made.has_definition p cycles members made program whole free are d c in
          let facts = is h in
          undefined h.symbol (record { found = h.found; is_of = record { stands = h.stands; external = facts.0; named = facts.1 }; defined = h.by.written_as.still })

      declared : (decl : DeclaredBy symbol found) (one : Named) → decl.declared.named ≡ one → declaration b symbol.module one ≡ found ∷ [] → at_home.Used p cycles members symbol.module decl.at.m decl.w decl.at.frame one
          → IsItemFor p cycles decl.at.m one found → Back name symbol found
      declared decl (Own k) e is used i =
          let same : used.0.found ≡ found = head_is (sym (ap own_item used.0.found_at) ∙ is) in
          let at : item_at p.modules (record { «module» = symbol.module; item = k }) ≡ Some found = used.0.found_at ∙ ap Some same in
          record {
            place = k;
            named = used.0;
            is = same;
            undefined = λ s def.
                let resolves = external_definition p symbol.module k found s program at of.external (subst (λ n. IsDefinitionOf p.modules n s) (sym of.named) def) in
                let asked = used.1 s def.found resolves def.is_of.stands in
                member_defines asked.demand asked.asked (λ h.
                let plain = ap (is_copy b) h.of ∙ asked.plain in
                let original : h.by.written_as.original ≡ def.found = some_is (sym h.by.written_as.stands ∙ ap (item_at p.modules) (ap symbol_of h.of ∙ asked.of) ∙ def.is_of.stands) in
                (h.by.written_as.linkage ∙ ap linkage_of original ∙ def.is_of.external, h.by.written_as.name plain ∙ ap item_name original ∙ def.is_of.named));
          }
      declared decl (CopyOf d) e is used i = absurd (member_defines d used.asked (λ h.
          let copy = ap (is_copy b) h.of ∙ used.copy in
          let copied = h.by.written_as.copied copy in
          let same : item.Func copied.0.left.func ≡ item.Func i.known.left.func = some_is (sym (function_at p copied.0.symbol copied.0.pattern copied.0.body copied.0.left) ∙ ap (λ x. item_at p.modules (symbol_of x)) (sym copied.0.is ∙ h.of ∙ i.known.is) ∙ function_at p i.known.symbol i.known.pattern i.known.body i.known.left) in
          let external = declared_copy_external symbol found decl d e used i.known in (
            h.by.written_as.linkage ∙ ap linkage_of copied.1 ∙ ap linkage_of same ∙ external,
            copied.2 ∙ (λ j. copy_name (pattern_of (h.of j)) (item_name (same j))) ∙ sym i.name ∙ ap item_name (sym i.is) ∙ of.named,
          )))

      by : DefinedBy symbol found ⊎ DeclaredBy symbol found → Back name symbol found
      by (inl d) = absurd (undefined symbol (record { found = found; is_of = of; defined = d.written_as.still }))
      by (inr d) = declared d d.declared.named refl d.declared.is d.declared.used (at_home.declaration_item p cycles members symbol.module d.at.m d.w d.at.frame d.place found d.declared)

  back_item : (name : List ℕ) (symbol : Sym) (found : Item) → IsItemOf made name symbol found → (k : Back name symbol found) → IsItemOf p.modules name (record { «module» = symbol.module; item = k.place }) found
  back_item name symbol found of k = record { stands = k.named.found_at ∙ ap Some k.is; external = of.external; named = of.named }

  -- ---- no definition

  pub none_missing : (outside : List (List ℕ)) → ((name : List ℕ) → IsMissing p.modules outside name → ⊥) → (name : List ℕ) → IsMissing made outside name → ⊥
  none_missing outside kept name miss =
      let symbol : Sym = record { «module» = miss.named.by.module; item = miss.named.place } in
      let k = back name symbol miss.named.found miss.named.is_of miss.undefined in
      let of = back_item name symbol miss.named.found miss.named.is_of k in
      kept name (record {
        named = record {
          by = k.named.by;
          user = k.named.user;
          stands = k.named.stands;
          place = k.place;
          names = k.named.names;
          found = miss.named.found;
          is_of = subst (λ n. IsItemOf p.modules name (record { «module» = n; item = k.place }) miss.named.found) (sym k.named.here) of;
        };
        undefined = k.undefined;
        not_intrinsic = miss.not_intrinsic;
        not_builtin = miss.not_builtin;
        not_listed = λ listed. miss.not_listed (back_listed symbol miss.named.found miss.named.is_of k of listed);
      })
    where
      back_listed : (symbol : Sym) (found : Item) → IsItemOf made name symbol found → (k : Back name symbol found) → IsItemOf p.modules name (record { «module» = symbol.module; item = k.place }) found → IsListed p.modules outside name → IsListed made outside name
      back_listed symbol found here k of listed =
          let type : function_type (Some found) ≡ Some (type_of listed.func) = one_type p (record { «module» = symbol.module; item = k.place }) listed.symbol found (item.Func listed.func) program of.stands listed.is_of.stands of.external listed.is_of.external (listed.is_of.named ∙ sym of.named) in
          let f = function_is found (type_of listed.func) type in
          record { listed = listed.listed; symbol = symbol; func = f.0; is_of = subst (IsItemOf made name symbol) f.1 here }

  -- ---- type clashes

  pub no_clash : (name : List ℕ) → ClashesInType made name → ⊥
  no_clash name (inl d) = differ_not name d
  no_clash name (inr d) =
      let k = back name d.symbol d.found d.is_of d.undefined in
      program.linked.no_clash name (inr (record {
        builtin = d.builtin;
        is_builtin = d.is_builtin;
        undefined = k.undefined;
        symbol = record { «module» = d.symbol.module; item = k.place };
        found = d.found;
        is_of = back_item name d.symbol d.found d.is_of k;
        differs = d.differs;
      }))
