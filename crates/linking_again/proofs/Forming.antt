-- The items of a written module are formed and typed.
use Rattle.std.proofs.Common.{◌≡◌, ◌≢◌, ◌∙◌, ◌⊎◌, inl, inr, ℕ, ◌+◌, ◌≤◌, Bool, true, false, is_some, List, [], ◌∷◌, Option, None, Some, All, Contains, length, map, refl, ap, sym, subst, arith}
use Rattle.std.specs.Prelude.{slice_get, option_map, IsTrue, IsSome, IsNone, IfSome, IfNone, OnSome, if◌then◌else◌}
use Rattle.std.proofs.lemmas.Bool.{false≢true}
use Rattle.std.proofs.lemmas.List.{length-map}
use Rattle.ir_types.specs.declared.scalar.Known.{Known}
use Rattle.ir_types.specs.declared.scalar.Known.TheVariants.{Unknown}
use Rattle.ir_types.proofs.ListSteps.{All-at}
use Rattle.ir_syntax.specs.declared.constant.Const.{Const}
use Rattle.ir_syntax.specs.declared.constant.Operand.TheVariants as operand
use Rattle.ir_syntax.specs.declared.symbol.Sym.{Sym}
use Rattle.ir_syntax.specs.declared.body.Body.{Body}
use Rattle.ir_syntax.specs.declared.item.Func.{Func}
use Rattle.ir_syntax.specs.declared.item.Var.{Var}
use Rattle.ir_syntax.specs.declared.item.Param.{Param}
use Rattle.ir_syntax.specs.declared.item.Item.{Item}
use Rattle.ir_syntax.specs.declared.item.Item.TheVariants as item
use Rattle.ir_syntax.specs.declared.item.Module.{Module}
use Rattle.ir_syntax.specs.declared.item.Linkage.TheVariants.{External}
use Rattle.ir_syntax.specs.FormedBody.{FormedBody, is_intrinsic}
use Rattle.ir_syntax.specs.FormedItem.{FormedVar, FormedItem, IsName, is_reserved}
use Rattle.ir_syntax.specs.Named.{init_names}
use Rattle.ir_syntax.specs.Suits.{Suits}
use Rattle.ir_syntax.specs.Symbols.{item_at, is_defined}
use Rattle.ir_syntax.specs.Typed.{NamesNoIntrinsic, TypedBody, TypedVar, TypedItem, type_of, intrinsic_type}
use Rattle.ir_syntax.specs.Programs.{ProgramData, IsSoundModule}
use Rattle.fold_facts.specs.Assigned.{Assigned}
use Rattle.fold_facts.proofs.Lists.{some_is, of_map}
use Rattle.fold_facts.proofs.Arriving.{in_place}
use Rattle.demands.specs.declared.demand.Demand.{Demand}
use Rattle.demands.specs.declared.demand.Demand.TheVariants.{Func as function, Var as variable}
use Rattle.demands.specs.Names.{is_unknown, are_unknown, copy_name}
use Rattle.demands.specs.Order.{symbol_of, pattern_of}
use Rattle.interface.proofs.Chosen.{chosen_count}
use Rattle.specialise.specs.Residual.{residual}
use Rattle.residual_laws.specs.Left.{IsLeft, AreAsked}
use Rattle.residual_laws.specs.Used.{body_operands}
use Rattle.residual_laws.proofs.Every.{Every, all_of_every, every_at, every_by, every_to, map_every}
use Rattle.residual_laws.proofs.Formed.{left_formed, rank_within}
use Rattle.residual_laws.proofs.Typed.{left_typed}
use Rattle.residual_laws.proofs.Used.{params_open}
use Rattle.winnowed_form.specs.declared.named.Named.{Named}
use Rattle.winnowed_form.specs.declared.named.Named.TheVariants.{Own, CopyOf}
use Rattle.winnowed_form.specs.declared.member.Member.{Member}
use Rattle.winnowed_form.specs.Basis.{Basis, basis}
use Rattle.winnowed_form.specs.Bodies.{moved, written_body}
use Rattle.winnowed_form.specs.Copies.{is_copy, written_name, staying, written_params}
use Rattle.winnowed_form.specs.Items.{writing, written_var, written_func, definition, declared_func, own_item, declaration}
use Rattle.winnowed_form.specs.Names.{name_of, item_uses, body_uses, uses}
use Rattle.linking_again.specs.Whole.{IsFunctionLeft, IsLeftOf, demands_of, HasShortName}
use Rattle.linking_again.proofs.Asking.{AskedPlain}
use Rattle.linking_again.proofs.Bodies.{body_fits}
use Rattle.linking_again.proofs.CopyNames.{known_words, known_long, copy_is_name, copy_not_reserved}
use Rattle.linking_again.proofs.Facts.{own_definition}
use Rattle.linking_again.proofs.Home as at_home
use Rattle.linking_again.proofs.Home.{Frame, CopyKnown, member_of_demand, function_at, def_one, copy_one, plain_name, plain_params, copied_name, copied_params, MemberName, member_name, name_in}
use Rattle.linking_again.proofs.Kept.{Has, HasOwn, types_in, names_plain, names_placed}
use Rattle.linking_again.proofs.Moved.{suits_moved}
use Rattle.linking_again.proofs.Parts.{IsThere, blocks_kept}
use Rattle.linking_again.proofs.Places.{item_is}
use Rattle.linking_again.proofs.Suiting.{copy_pattern, copy_not_intrinsic, suit, copies_suit}

-- ---- options

none_of : {A : Type 0} (o : Option A) → is_some o ≡ false → o ≡ None
none_of None e = refl
none_of (Some x) e = cc

none_not_some : {T : Type 0} (o : Option T) → IsNone o → IsSome o → ⊥
none_not_some None none some = false≢true some
none_not_some (Some x) none some = cc

on_some : {T : Type 0} (o : Option T) (P : Type 0) → OnSome o P → IsSome o → P
on_some None P h some = absurd (false≢true some)
on_some (Some x) P h some = h

-- ---- parameters that stay

pub staying_long : (b : Basis) (d : Demand) (func : Func) → length (pattern_of d) ≡ length func.params → length (staying b d func) ≡ length func.params
staying_long b d func same = by (is_copy b d)
  where
    by : (c : Bool) → length (if c then map is_unknown (pattern_of d) else map (λ (param : Param). true) func.params) ≡ length func.params
    by true = length-map (pattern_of d) is_unknown ∙ same
    by false = length-map func.params (λ (param : Param). true)

-- a parameter that is used isn't left out
params_there : (b : Basis) (symbol : Sym) (pattern : List Known) (func : Func) (a : Assigned) (k : ℕ) → Contains (body_operands (residual pattern func a)) (operand.Param k) → slice_get (staying b (function symbol pattern) func) k ≢ Some false
params_there b symbol pattern func a k c = by (is_copy b (function symbol pattern))
  where
    by : (x : Bool) → slice_get (if x then map is_unknown pattern else map (λ (param : Param). true) func.params) k ≢ Some false
    by true e =
        let was = of_map is_unknown pattern k false e in
        let same : was.0 ≡ Unknown = params_open pattern func a k was.0 was.1 c in
        false≢true (sym was.2 ∙ ap is_unknown same)
    by false e =
        let was = of_map (λ (param : Param). true) func.params k false e in
        false≢true (sym was.2)

-- ---- copies

-- what is known of a copy's pattern
pub record CopyFacts (d : Demand) (func : Func) : Type 0 where
  pub known : are_unknown (pattern_of d) ≡ false
  pub name : IsName (copy_name (pattern_of d) func.name)

pub copy_facts : (b : Basis) (p : ProgramData) (symbol : Sym) (pattern : List Known) (body : Option Body) → (left : IsFunctionLeft p symbol pattern body) → is_copy b (function symbol pattern) ≡ true → length left.func.name ≤ 3072 → CopyFacts (function symbol pattern) left.func
copy_facts b p symbol pattern body left copy short =
    let known = copy_pattern b symbol pattern copy in
    let formed = left.left.sound.formed in
    let long : length pattern ≡ length left.func.params = known_long left.func.params pattern left.left.knows in
    record { known = known; name = copy_is_name pattern left.func.name (known_words left.func.params pattern left.left.knows) (omega (arith, long, formed.few_params)) known formed.has_name short }

module _ (p : ProgramData) (cycles : List (List Bool)) (members : List Member) (home : ℕ) (m w : Module) (f : Frame p cycles members home m w) where
  abbrev b : Basis
  b = basis p cycles

  abbrev place : Named → ℕ
  place = f.winnowed.place

  abbrev named : List Named
  named = at_home.all_names p cycles members home m w f

  abbrev D : Demand → Type 0
  D = Contains (demands_of members)

  -- What is right about an item of the written module.
  abbrev pub Right : Item → Type 0
  Right found = FormedItem w.items found × TypedItem w.items found

  sound_home : IsSoundModule m
  sound_home = All-at IsSoundModule p.modules home m f.program.sound.sound f.stands

  -- a function of the module
  same_home : (symbol : Sym) (pattern : List Known) (body : Option Body) → (left : IsFunctionLeft p symbol pattern body) → symbol.module ≡ home → left.home ≡ m
  same_home symbol pattern body left here = some_is (sym left.stands ∙ ap (slice_get p.modules) here ∙ f.stands)

  -- a member's name is short, where it is a copy
  short_of : (d : Demand) → D d → HasShortName b d
  short_of d c = let one = member_of_demand members d c in subst (HasShortName b) one.3 (All-at (λ (member : Member). HasShortName b member.demand) members one.0 one.1 f.whole.short one.2)

  -- ---- definitions

  var_right : (var : Var) → FormedVar m.items var → TypedVar m.items var → Every (Has named) (map Own (init_names var.init)) → Right (item.Var (written_var place var))
  var_right var formed is_typed has = (
    record {
      has_name = formed.has_name;
      not_reserved = formed.not_reserved;
      has_type = formed.has_type;
      suits = suits_so var.init formed.suits (map_every (Has named) Own (init_names var.init) has);
      declared = declared_so var.init formed.declared;
      has_align = formed.has_align;
    },
    record { narrow = is_typed.narrow; names = names_so var.init is_typed.names (map_every (Has named) Own (init_names var.init) has) },
  )
    where
      suits_so : (o : Option Const) → IfSome o (λ init. Suits (length m.items) var.ty init) → Every (HasOwn named) (init_names o) → IfSome (option_map (moved place) o) (λ init. Suits (length w.items) var.ty init)
      suits_so None h g = tt
      suits_so (Some c) h g = suits_moved place (length m.items) (length w.items) c var.ty (names_placed m.items w.items place named c (suit p cycles members home m w f) g) h

      names_so : (o : Option Const) → IfSome o (NamesNoIntrinsic m.items) → Every (HasOwn named) (init_names o) → IfSome (option_map (moved place) o) (NamesNoIntrinsic w.items)
      names_so None h g = tt
      names_so (Some c) h g = names_plain m.items w.items place named c (suit p cycles members home m w f) g h

      declared_so : (o : Option Const) → IfNone o (var.linkage ≡ External) → IfNone (option_map (moved place) o) (var.linkage ≡ External)
      declared_so None h = h
      declared_so (Some c) h = tt

  -- the body of a member, as it is written
  body_right : (symbol : Sym) (pattern : List Known) (func : Func) (a : Assigned) → IsLeft m.items pattern func a → AreAsked pattern func a → Every (Has named) (uses b home (record { demand = function symbol pattern; body = Some (residual pattern func a) }))
      → FormedBody w.items (length (written_params b (function symbol pattern) func)) (written_body (writing b home place (function symbol pattern) func) (residual pattern func a))
      × TypedBody (types_in w.items (written_params b (function symbol pattern) func) (written_body (writing b home place (function symbol pattern) func) (residual pattern func a))) func.returns
      (written_body (writing b home place (function symbol pattern) func) (residual pattern func a)).blocks
  body_right symbol pattern func a left asked has =
      let d = function symbol pattern in
      let wr = writing b home place d func in
      let body = residual pattern func a in
      let there : Every (IsThere m.items w.items wr named) (body_operands body) = every_by (IsThere m.items w.items wr named) (body_operands body) (λ j o is k e. params_there b symbol pattern func a k (in_place (body_operands body) j (operand.Param k) (is ∙ ap Some e))) in
      body_fits m.items w.items func.params wr named body (suit p cycles members home m w f) (staying_long b d func (known_long func.params pattern left.knows)) func.returns
      (blocks_kept m.items w.items wr named (copies_suit p cycles members home m w f) body there has) (left_formed m.items pattern func a left) (left_typed m.items pattern func a left asked)

  func_right : (symbol : Sym) (pattern : List Known) (func : Func) (a : Assigned) → IsLeft m.items pattern func a → AreAsked pattern func a → (is_copy b (function symbol pattern) ≡ true → CopyFacts (function symbol pattern) func)
      → Every (Has named) (uses b home (record { demand = function symbol pattern; body = Some (residual pattern func a) })) → Right (item.Func (written_func b home place (function symbol pattern) func (residual pattern func a)))
  func_right symbol pattern func a left asked copy has =
      let d = function symbol pattern in
      let name = name_right (is_copy b d) refl in
      let bodies = body_right symbol pattern func a left asked has in (
        record {
          has_name = name.0;
          intrinsic = λ t. absurd (name.1 t);
          not_defined = λ t. absurd (name.1 t);
          few_params = omega (arith, chosen_count (staying b d func) func.params, rank_within (staying b d func) (length func.params), left.sound.formed.few_params);
          declared = tt;
          fixed = on_some func.body (func.variadic ≡ false) left.sound.formed.fixed left.defined;
          has_body = bodies.0;
        },
        record { intrinsic = name.2; fixed = on_some func.body (func.variadic ≡ false) left.sound.formed.fixed left.defined; has_body = bodies.1 },
      )
    where
      name_right : (c : Bool) → is_copy b (function symbol pattern) ≡ c
          → IsName (written_name b (function symbol pattern) func) × (IsTrue (is_reserved (written_name b (function symbol pattern) func)) → ⊥)
          × (IsTrue (is_intrinsic (written_name b (function symbol pattern) func)) → type_of (written_func b home place (function symbol pattern) func (residual pattern func a)) ≡ intrinsic_type (written_name b (function symbol pattern) func))
      name_right true e =
          let facts = copy e in
          let same = copied_name b (function symbol pattern) func e in (
            subst IsName (sym same) facts.name,
            (λ t. false≢true (sym (copy_not_reserved pattern func.name facts.known) ∙ ap is_reserved (sym same) ∙ t)),
            (λ t. absurd (false≢true (sym (copy_not_intrinsic pattern func.name facts.known) ∙ ap is_intrinsic (sym same) ∙ t))),
          )
      name_right false e =
          let same = plain_name b (function symbol pattern) func e in (
            subst IsName (sym same) left.sound.formed.has_name,
            (λ t. none_not_some func.body (left.sound.formed.not_defined (ap is_reserved (sym same) ∙ t)) left.defined),
            (λ t. ap (λ (l : List Param). record (type_of func) { params = map (λ (param : Param). param.ty) l }) (plain_params b (function symbol pattern) func e) ∙ left.sound.typed.intrinsic (ap is_intrinsic (sym same) ∙ t) ∙ ap intrinsic_type (sym same)),
          )

  -- ---- declarations

  own_right : (found : Item) → FormedItem m.items found → TypedItem m.items found → is_defined found ≡ false → Right found
  own_right (item.Var var) formed is_typed none =
      let never : var.init ≡ None = none_of var.init none in (
        record {
          has_name = formed.has_name;
          not_reserved = formed.not_reserved;
          has_type = formed.has_type;
          suits = subst (λ (o : Option Const). IfSome o (λ init. Suits (length w.items) var.ty init)) (sym never) tt;
          declared = formed.declared;
          has_align = formed.has_align;
        },
        record { narrow = is_typed.narrow; names = subst (λ (o : Option Const). IfSome o (NamesNoIntrinsic w.items)) (sym never) tt },
      )
  own_right (item.Func func) formed is_typed none =
      let never : func.body ≡ None = none_of func.body none in (
        record {
          has_name = formed.has_name;
          intrinsic = formed.intrinsic;
          not_defined = formed.not_defined;
          few_params = formed.few_params;
          declared = formed.declared;
          fixed = formed.fixed;
          has_body = subst (λ (o : Option Body). IfSome o (FormedBody w.items (length func.params))) (sym never) tt;
        },
        record {
          intrinsic = is_typed.intrinsic;
          fixed = is_typed.fixed;
          has_body = subst (λ (o : Option Body). IfSome o (λ body. TypedBody (types_in w.items func.params body) func.returns body.blocks)) (sym never) tt;
        },
      )

  copy_right : (d : Demand) → (known : CopyKnown p cycles d) → CopyFacts d known.left.func → Right (item.Func (declared_func b d known.left.func))
  copy_right d known facts =
      let func = known.left.func in
      let same = copied_name b d func known.copy in (
        record {
          has_name = subst IsName (sym same) facts.name;
          intrinsic = λ t. absurd (false≢true (sym (copy_not_reserved (pattern_of d) func.name facts.known) ∙ ap is_reserved (sym same) ∙ t));
          not_defined = λ t. refl;
          few_params = omega (arith, chosen_count (staying b d func) func.params, rank_within (staying b d func) (length func.params), known.left.left.sound.formed.few_params);
          declared = refl;
          fixed = tt;
          has_body = tt;
        },
        record { intrinsic = λ t. absurd (false≢true (sym (copy_not_intrinsic (pattern_of d) func.name facts.known) ∙ ap is_intrinsic (sym same) ∙ t)); fixed = tt; has_body = tt },
      )

  -- ---- items

  head_is : {x y : Item} → (x ∷ []) ≡ (y ∷ []) → x ≡ y
  head_is e = cc

  member_right : (d : Demand) (body : Option Body) (found : Item) → (symbol_of d).module ≡ home → D d → IsLeftOf p d body → Every (Has named) (uses b home (record { demand = d; body = body })) → definition b home place (record { demand = d; body = body }) ≡ found ∷ [] → Right found
  member_right (variable symbol) body found here c left has is =
      let same : item.Var (written_var place left.var) ≡ found = head_is (sym (def_one p cycles home place (variable symbol) body left).1 ∙ is) in
      let at : slice_get m.items symbol.item ≡ Some (item.Var left.var) = sym (item_is p.modules symbol m (ap (slice_get p.modules) here ∙ f.stands)) ∙ left.is_variable in
      subst Right same (var_right left.var (All-at (FormedItem m.items) m.items symbol.item (item.Var left.var) sound_home.formed.has_items at) (All-at (TypedItem m.items) m.items symbol.item (item.Var left.var) sound_home.typed at)
      (subst (Every (Has named)) (ap item_uses left.is_variable) has))
  member_right (function symbol pattern) body found here c left has is =
      let same : item.Func (written_func b home place (function symbol pattern) left.func (residual pattern left.func left.assigned)) ≡ found = head_is (sym (def_one p cycles home place (function symbol pattern) body left).1 ∙ is) in
      let here_left : IsLeft m.items pattern left.func left.assigned = subst (λ (x : Module). IsLeft x.items pattern left.func left.assigned) (same_home symbol pattern body left here) left.left in
      subst Right same (func_right symbol pattern left.func left.assigned here_left left.asked (λ copy. copy_facts b p symbol pattern body left copy (short_of (function symbol pattern) c copy left.func (function_at p symbol pattern body left)))
      (subst (λ (o : Option Body). Every (Has named) (body_uses b home o)) left.is has))

  -- What is declared under its own name isn't defined in the module.
  pub declared_not_defined : (k : ℕ) (original : Item) → at_home.Used p cycles members home m w f (Own k) → (Contains (map (name_of b) (at_home.here p cycles members home m w f)) (Own k) → ⊥) → slice_get m.items k ≡ Some original → is_defined original ≡ false
  declared_not_defined k original used none at = by (is_defined original) refl
    where
      symbol : Sym
      symbol = record { «module» = home; item = k }

      stands : item_at p.modules symbol ≡ Some original
      stands = item_is p.modules symbol m f.stands ∙ at

      by : (x : Bool) → is_defined original ≡ x → is_defined original ≡ false
      by false e = e
      by true e =
          let asked = used.1 symbol original (own_definition p home k original f.program stands e) stands in
          absurd (none (plain_member asked))
        where
          plain_member : AskedPlain p cycles D symbol → Contains (map (name_of b) (at_home.here p cycles members home m w f)) (Own k)
          plain_member asked = name_in p cycles members home m w f asked.demand k asked.asked asked.of asked.plain

  declaration_right : (i : ℕ) (found : Item) → at_home.IsDeclaredAs p cycles members home m w f i found → Right found
  declaration_right i found d = by d.named d.is d.used (All-at (λ named. Contains (map (name_of b) (at_home.here p cycles members home m w f)) named → ⊥) f.winnowed.declared i d.named f.winnowed.are_declared.not_defined d.at)
    where
      by : (one : Named) → declaration b home one ≡ found ∷ [] → at_home.Used p cycles members home m w f one → (Contains (map (name_of b) (at_home.here p cycles members home m w f)) one → ⊥) → Right found
      by (Own k) is used none =
          let same : used.0.found ≡ found = head_is (sym (ap own_item used.0.found_at) ∙ is) in
          let at : slice_get m.items k ≡ Some found = sym (item_is p.modules (record { «module» = home; item = k }) m f.stands) ∙ used.0.found_at ∙ ap Some same in
          own_right found (All-at (FormedItem m.items) m.items k found sound_home.formed.has_items at) (All-at (TypedItem m.items) m.items k found sound_home.typed at) (declared_not_defined k found used none at)
      by (CopyOf d) is used none =
          let known = at_home.copy_of_use p cycles members home m w f d used in
          let same : item.Func (declared_func b d known.left.func) ≡ found = head_is (sym (copy_one p cycles d known).1 ∙ is) in
          let at : item_at p.modules (symbol_of d) ≡ Some (item.Func known.left.func) = ap (λ e. item_at p.modules (symbol_of e)) known.is ∙ function_at p known.symbol known.pattern known.body known.left in
          subst Right same (copy_right d known (subst (λ e. CopyFacts e known.left.func) (sym known.is) (copy_facts b p known.symbol known.pattern known.body known.left (ap (is_copy b) (sym known.is) ∙ known.copy) (short_of d used.asked used.copy known.left.func at))))

  pub items_right : Every Right w.items
  items_right = every_by Right w.items (λ i found is. by i found (at_home.item_cases p cycles members home m w f i found is))
    where
      by : (i : ℕ) (found : Item) → at_home.IsDefined p cycles members home m w f i found ⊎ ((j : ℕ) × (length (at_home.here p cycles members home m w f) + j ≡ i) × at_home.IsDeclaredAs p cycles members home m w f j found) → Right found
      by i found (inl d) = member_right d.member.demand d.member.body found
          (every_at (λ (x : Member). (symbol_of x.demand).module ≡ home) (at_home.here p cycles members home m w f) i d.member (at_home.at_home p cycles members home m w f) d.at)
          (every_at (λ (x : Member). D x.demand) (at_home.here p cycles members home m w f) i d.member (at_home.demanded_here p cycles members home m w f) d.at)
          (every_at (λ (x : Member). IsLeftOf p x.demand x.body) (at_home.here p cycles members home m w f) i d.member (at_home.left_here p cycles members home m w f) d.at)
          (at_home.use_has p cycles members home m w f i d.member d.at) d.is
      by i found (inr (j, at, d)) = declaration_right j found d

  pub module_typed : All (TypedItem w.items) w.items
  module_typed = all_of_every (TypedItem w.items) w.items (every_to Right (TypedItem w.items) w.items (λ found r. r.1) items_right)

  pub items_formed : All (FormedItem w.items) w.items
  items_formed = all_of_every (FormedItem w.items) w.items (every_to Right (FormedItem w.items) w.items (λ found r. r.0) items_right)
