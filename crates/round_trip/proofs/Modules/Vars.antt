-- Written variables are read again.
use Rattle.std.proofs.Common.{◌≡◌, ◌∙◌, ℕ, Bool, true, false, List, ◌∷◌, ◌++◌, length, drop, Option, Some, None, option_map, option_and_then, refl, sym, ap, subst, append_assoc}
use Rattle.std.specs.Prelude.{IfSome, IfNone, IsTrue}
use Rattle.std.proofs.lemmas.Bool.{cond-true}
use Rattle.std.proofs.lemmas.List.{drop_at}
use Rattle.ir_types.specs.declared.shape.Ty.{Ty}
use Rattle.ir_syntax.specs.declared.constant.Const.{Const}
use Rattle.ir_syntax.specs.declared.item.Linkage.{Linkage}
use Rattle.ir_syntax.specs.declared.item.Linkage.TheVariants as linkage
use Rattle.ir_syntax.specs.declared.item.Var.{Var}
use Rattle.ir_syntax.specs.declared.item.Item.{Item}
use Rattle.ir_syntax.specs.declared.item.Item.TheVariants as item
use Rattle.ir_syntax.specs.Suits.{IsType, Suits}
use Rattle.ir_syntax.specs.FormedItem.{FormedVar}
use Rattle.ir_scope.specs.Scopes.{Env}
use Rattle.ir_scope.specs.Types.{written_type}
use Rattle.ir_constants.specs.Constants.{constant_at}
use Rattle.ir_parser.specs.Items.{is_constant, made_var, valued, var_kind, var_linked, is_plain, item_of}
use Rattle.ir_writer.specs.Ranges.{is_type_in_range, is_constant_in_range, ItemInRange}
use Rattle.round_trip.proofs.Grammar.Kept.{Lexemes, type_kept, constant_kept, align_kept, linkage_kept, var_word_kept, valued_kept, var_kept}
use Rattle.round_trip.proofs.Modules.Names.{plain-passes}
use Rattle.round_trip.proofs.Modules.Aligned.{align-back}

-- ---- what is known of types and constants

-- Written types are read again.
abbrev pub TypesBack : Env → Type 0
TypesBack env = (ty : Ty) → IsType ty → is_type_in_range ty ≡ true → (rest : Lexemes) → written_type env.types (type_kept ty ++ rest) ≡ Some (ty, length (type_kept ty))

-- Written constants that suit their types are read again, in a module of these items with these names.
abbrev pub ConstantsBack : Env → List (List ℕ) → List Item → Type 0
ConstantsBack env names items =
    (ty : Ty) (constant : Const) → Suits (length items) ty constant → IsType ty → is_type_in_range ty ≡ true → is_constant_in_range constant ≡ true → (rest : Lexemes) →
    constant_at env ty (constant_kept names constant ty ++ rest) ≡ Some (constant, length (constant_kept names constant ty))

-- ---- variables

word-read : (constant : Bool) → is_constant (var_word_kept constant).0 ≡ constant
word-read false = refl
word-read true = refl

linked : (env : Env) (name : List ℕ) (link : Linkage) (constant : Bool) (ks : Lexemes) → var_linked env name (linkage_kept link ++ var_word_kept constant ∷ ks) ≡ var_kind env name link false (var_word_kept constant ∷ ks)
linked env name linkage.External false ks = refl
linked env name linkage.External true ks = refl
linked env name linkage.Internal constant ks = refl
linked env name linkage.Private constant ks = refl

-- the variable with this linkage and constant
abbrev with : Var → Linkage → Option Const → Item
with var link init = item.Var (record { name = var.name; linkage = link; constant = var.constant; ty = var.ty; init = init; align = var.align })

module _ (env : Env) (names : List (List ℕ)) (items : List Item) (types : TypesBack env) (constants : ConstantsBack env names items) (var : Var) (formed : FormedVar items var) (range : ItemInRange (item.Var var)) where
  -- what stands behind the type
  type-read : (link : Linkage) (declared : Bool) (rest : Lexemes) → var_kind env var.name link declared (var_word_kept var.constant ∷ (type_kept var.ty ++ rest)) ≡ valued env var.name link declared var.constant var.ty rest
  type-read link declared rest =
      ap (option_and_then (λ (t : Ty × ℕ). valued env var.name link declared (is_constant (var_word_kept var.constant).0) t.0 (drop t.1 (type_kept var.ty ++ rest)))) (types var.ty formed.has_type range.1 rest)
      ∙ ap (λ constant. valued env var.name link declared constant var.ty (drop (length (type_kept var.ty)) (type_kept var.ty ++ rest))) (word-read var.constant)
      ∙ ap (valued env var.name link declared var.constant var.ty) (drop_at (type_kept var.ty) rest (length (type_kept var.ty)) refl)

  aligned : (link : Linkage) (init : Option Const) → made_var var.name link var.constant var.ty init (align_kept var.align) ≡ with var link init
  aligned link init = ap (λ align. item.Var (record { name = var.name; linkage = link; constant = var.constant; ty = var.ty; init = init; align = align })) (align-back var.align formed.has_align)

  valued-read : (init : Option Const) → var.init ≡ init → var_linked env var.name (valued_kept names var init ++ align_kept var.align) ≡ Some (with var var.linkage init)
  valued-read None e =
      let external : var.linkage ≡ linkage.External = subst (λ init. IfNone init (var.linkage ≡ linkage.External)) e formed.declared in
      type-read linkage.External true (align_kept var.align)
      ∙ ap (λ i. Some i) (aligned linkage.External None)
      ∙ ap (λ link. Some (with var link None)) (sym external)
  valued-read (Some init) e =
      let ends : Lexemes = align_kept var.align in
      let value : Lexemes = constant_kept names init var.ty in
      let suits : Suits (length items) var.ty init = subst (λ o. IfSome o (λ init. Suits (length items) var.ty init)) e formed.suits in
      let within : IsTrue (is_constant_in_range init) = subst (λ o. IfSome o (λ init. IsTrue (is_constant_in_range init))) e range.2 in
      ap (var_linked env var.name) (append_assoc (linkage_kept var.linkage) (var_word_kept var.constant ∷ (type_kept var.ty ++ value)) ends)
      ∙ linked env var.name var.linkage var.constant ((type_kept var.ty ++ value) ++ ends)
      ∙ ap (λ ks. var_kind env var.name var.linkage false (var_word_kept var.constant ∷ ks)) (append_assoc (type_kept var.ty) value ends)
      ∙ type-read var.linkage false (value ++ ends)
      ∙ ap (option_map (λ (f : Const × ℕ). made_var var.name var.linkage var.constant var.ty (Some f.0) (drop f.1 (value ++ ends)))) (constants var.ty init suits formed.has_type range.1 within ends)
      ∙ ap (λ ks. Some (made_var var.name var.linkage var.constant var.ty (Some init) ks)) (drop_at value ends (length value) refl)
      ∙ ap (λ i. Some i) (aligned var.linkage (Some init))

  pub var-back : item_of env var.name (var_kept names var) ≡ Some (item.Var var)
  var-back =
      cond-true (is_plain var.name) (var_linked env var.name (valued_kept names var var.init ++ align_kept var.align)) None (plain-passes var.name formed.has_name formed.not_reserved)
      ∙ valued-read var.init refl
