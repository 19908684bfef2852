-- Operands as they are written are operands of the written body, where what they name has places there and their parameters stay.
use Rattle.std.proofs.Common.{◌≡◌, ◌≢◌, ◌∙◌, ◌⊎◌, inl, inr, ℕ, zero, suc, pos, negsuc, ◌<◌, nat_lt, Bool, true, false, ◌&&◌, List, [], ◌∷◌, Option, None, Some, All, length, map, refl, ap, sym, subst, arith}
use Rattle.std.specs.Prelude.{slice_get, option_map}
use Rattle.std.proofs.lemmas.Bool.{lt-ltb}
use Rattle.std.proofs.lemmas.List.{length-map}
use Rattle.std.proofs.lemmas.Option.{none-some}
use Rattle.ir_types.specs.declared.scalar.Scalar.{Scalar}
use Rattle.ir_types.specs.declared.scalar.Scalar.TheVariants.{Ptr}
use Rattle.ir_types.specs.declared.shape.Ty.TheBlock.{One}
use Rattle.ir_types.specs.declared.shape.Ty.TheVariants.{outs-One}
use Rattle.ir_syntax.specs.declared.constant.Const.{Const, out-Const}
use Rattle.ir_syntax.specs.declared.constant.Const.TheOpen.{Const-F}
use Rattle.ir_syntax.specs.declared.constant.Const.TheVariants as const
use Rattle.ir_syntax.specs.declared.constant.Const.TheVariants.{outs-Poison, outs-Addr}
use Rattle.ir_syntax.specs.declared.constant.Operand.{Operand}
use Rattle.ir_syntax.specs.declared.constant.Operand.TheVariants as operand
use Rattle.ir_syntax.specs.declared.body.Body.{Body}
use Rattle.ir_syntax.specs.declared.item.Param.{Param}
use Rattle.ir_syntax.specs.declared.item.Item.{Item}
use Rattle.ir_syntax.specs.Callees.{place_in, written_callee}
use Rattle.ir_syntax.specs.FormedBody.{Places, IsOperand, is_intrinsic_item, is_intrinsic_address, names_intrinsic, places_of}
use Rattle.ir_syntax.specs.FunctionTypes.{function_type}
use Rattle.ir_syntax.specs.Named.{names}
use Rattle.ir_syntax.specs.Results.{results}
use Rattle.ir_syntax.specs.Suits.{takes_address}
use Rattle.ir_syntax.specs.Typed.{Types, HasType, NamesNoIntrinsic, number_in, number_of}
use Rattle.ir_syntax.proofs.NameLemmas.{names-Int, names-Poison}
use Rattle.ir_syntax.proofs.SuitLemmas.{suits-Addr, suits-Poison}
use Rattle.fold_facts.proofs.Lists.{some_is, is_or_not, there, within}
use Rattle.demands.specs.declared.demand.Demand.{Demand}
use Rattle.interface.specs.Masks.{chosen, rank, flag_at}
use Rattle.interface.proofs.Chosen.{chosen_at}
use Rattle.residual_laws.specs.Mapping.{Keeps}
use Rattle.residual_laws.proofs.Every.{Every, every_of_all, all_of_every, every_at, every_by, every_to, every_map}
use Rattle.winnowed_form.specs.declared.named.Named.{Named}
use Rattle.winnowed_form.specs.declared.named.Named.TheVariants.{Own, CopyOf}
use Rattle.winnowed_form.specs.Bodies.{Writing, moved, written_operand, written_body}
use Rattle.linking_again.proofs.Moved.{number_moved, number_names, place_moved, names_moved, suits_moved, int_moved}
use Rattle.linking_again.proofs.Uses.{results_same}

-- ---- names

-- the name is among these
abbrev pub Has : List Named → Named → Type 0
Has named one = (k : ℕ) × (slice_get named k ≡ Some one)

abbrev pub HasOwn : List Named → ℕ → Type 0
HasOwn named k = Has named (Own k)

-- What the names of a module are among the items of the written one.
pub record Suit (items others : List Item) (place : Named → ℕ) (named : List Named) : Type 0 where
  pub own_there : (k : ℕ) → HasOwn named k → place (Own k) < length others
  pub own_intrinsic : (k : ℕ) → HasOwn named k → is_intrinsic_item (slice_get others (place (Own k))) ≡ is_intrinsic_item (slice_get items k)
  pub own_type : (k : ℕ) → HasOwn named k → function_type (slice_get others (place (Own k))) ≡ function_type (slice_get items k)
  pub copy_there : (d : Demand) → Has named (CopyOf d) → place (CopyOf d) < length others
  pub copy_plain : (d : Demand) → Has named (CopyOf d) → is_intrinsic_item (slice_get others (place (CopyOf d))) ≡ false

-- ---- which names are there

abbrev pub Decided : Type 0 → Type 0
Decided P = P ⊎ (P → ⊥)

decide_own : (named : List Named) (k : ℕ) → Decided (HasOwn named k)
decide_own [] k = inr (λ h. none-some (Own k) h.1)
decide_own (one ∷ more) k = by one (decide_own more k)
  where
    behind : (first : Named) → HasOwn more k → HasOwn (first ∷ more) k
    behind first h = (suc h.0, h.1)

    not_behind : (first : Named) → (first ≢ Own k) → (HasOwn more k → ⊥) → HasOwn (first ∷ more) k → ⊥
    not_behind first other never (zero, is) = other (some_is is)
    not_behind first other never (suc j, is) = never (j, is)

    at : (j : ℕ) → Decided (j ≡ k) → Decided (HasOwn more k) → Decided (HasOwn (Own j ∷ more) k)
    at j (inl e) rest = inl (0, ap (λ n. Some (Own n)) e)
    at j (inr ne) (inl h) = inl (behind (Own j) h)
    at j (inr ne) (inr never) = inr (not_behind (Own j) (λ e. ne (same e)) never)
      where
        same : Own j ≡ Own k → j ≡ k
        same e = cc

    copy : (d : Demand) → Decided (HasOwn more k) → Decided (HasOwn (CopyOf d ∷ more) k)
    copy d (inl h) = inl (behind (CopyOf d) h)
    copy d (inr never) = inr (not_behind (CopyOf d) (λ e. apart e) never)
      where
        apart : CopyOf d ≡ Own k → ⊥
        apart e = cc

    by : (first : Named) → Decided (HasOwn more k) → Decided (HasOwn (first ∷ more) k)
    by (Own j) rest = at j (is_or_not j k) rest
    by (CopyOf d) rest = copy d rest

pub decide_all : (named : List Named) (ks : List ℕ) → Decided (Every (HasOwn named) ks)
decide_all named [] = inl tt
decide_all named (k ∷ ks) = by (decide_own named k) (decide_all named ks)
  where
    by : Decided (HasOwn named k) → Decided (Every (HasOwn named) ks) → Decided (HasOwn named k × Every (HasOwn named) ks)
    by (inl h) (inl rest) = inl (h, rest)
    by (inl h) (inr never) = inr (λ all. never all.1)
    by (inr never) rest = inr (λ all. never all.0)

-- ---- operands

abbrev kept_const : (place : Named → ℕ) (named : List Named) (c : Const) → Decided (Every (HasOwn named) (names c)) → Const
kept_const place named c (inl all) = moved place c
kept_const place named c (inr never) = const.Poison

abbrev kept_param : Option Bool → ℕ → Operand
kept_param None at = operand.Param at
kept_param (Some true) at = operand.Param at
kept_param (Some false) at = operand.Const const.Poison

-- an operand as it is written, and poison for what has never place in the written body
abbrev pub kept_operand : Writing → List Named → Operand → Operand
kept_operand w named (operand.Param k) = kept_param (slice_get w.stays k) (rank w.stays k)
kept_operand w named (operand.Reg k) = operand.Reg k
kept_operand w named (operand.Const c) = operand.Const (kept_const w.place named c (decide_all named (names c)))

-- The operand has a place there: it is never parameter that is left out, and what it names is there.
abbrev pub IsKept : Writing → List Named → Operand → Type 0
IsKept w named (operand.Param k) = slice_get w.stays k ≢ Some false
IsKept w named (operand.Reg k) = Unit {0}
IsKept w named (operand.Const c) = Every (HasOwn named) (names c)

pub kept_is : (w : Writing) (named : List Named) (o : Operand) → IsKept w named o → kept_operand w named o ≡ written_operand w o
kept_is w named (operand.Param k) h = by (slice_get w.stays k) h
  where
    by : (o : Option Bool) → o ≢ Some false → kept_param o (rank w.stays k) ≡ operand.Param (rank w.stays k)
    by None g = refl
    by (Some true) g = refl
    by (Some false) g = absurd (g refl)
kept_is w named (operand.Reg k) h = refl
kept_is w named (operand.Const c) h = ap operand.Const (by (decide_all named (names c)))
  where
    by : (d : Decided (Every (HasOwn named) (names c))) → kept_const w.place named c d ≡ moved w.place c
    by (inl all) = refl
    by (inr never) = absurd (never h)

pub int_is_kept : (w : Writing) (named : List Named) (n : ℕ) → IsKept w named (operand.Const (const.Int n))
int_is_kept w named n = subst (Every (HasOwn named)) (sym (names-Int n)) tt

pub int_kept : (w : Writing) (named : List Named) (n : ℕ) → kept_operand w named (operand.Const (const.Int n)) ≡ operand.Const (const.Int n)
int_kept w named n = kept_is w named (operand.Const (const.Int n)) (int_is_kept w named n) ∙ ap operand.Const (int_moved w.place n)

-- ---- numbers and names

none_named : (items : List Item) (c : Const) → names c ≡ [] → NamesNoIntrinsic items c
none_named items c none = subst (λ l. All (λ place. is_intrinsic_item (slice_get items place) ≡ false) l) (sym none) (λ k d less. absurd (omega (arith, less)))

number_kept : (w : Writing) (named : List Named) (o : Operand) → number_of (kept_operand w named o) ≡ number_of o
number_kept w named (operand.Param k) = by (slice_get w.stays k)
  where
    by : (o : Option Bool) → number_of (kept_param o (rank w.stays k)) ≡ None
    by None = refl
    by (Some true) = refl
    by (Some false) = ap number_in outs-Poison
number_kept w named (operand.Reg k) = refl
number_kept w named (operand.Const c) = by (decide_all named (names c))
  where
    none : (o : Option ℕ) → number_in (out-Const c) ≡ o → (Every (HasOwn named) (names c) → ⊥) → None ≡ number_in (out-Const c)
    none None e never = sym e
    none (Some n) e never = absurd (never (subst (Every (HasOwn named)) (sym (number_names c n e)) tt))

    by : (d : Decided (Every (HasOwn named) (names c))) → number_in (out-Const (kept_const w.place named c d)) ≡ number_in (out-Const c)
    by (inl all) = number_moved w.place c
    by (inr never) = ap number_in outs-Poison ∙ none (number_in (out-Const c)) refl never

-- an operand that is never name is none as it is kept
pub callee_kept : (w : Writing) (named : List Named) (o : Operand) → written_callee o ≡ None → written_callee (kept_operand w named o) ≡ None
callee_kept w named (operand.Param k) none = by (slice_get w.stays k)
  where
    by : (o : Option Bool) → written_callee (kept_param o (rank w.stays k)) ≡ None
    by None = refl
    by (Some true) = refl
    by (Some false) = ap place_in outs-Poison
callee_kept w named (operand.Reg k) none = refl
callee_kept w named (operand.Const c) none = by (decide_all named (names c))
  where
    by : (d : Decided (Every (HasOwn named) (names c))) → place_in (out-Const (kept_const w.place named c d)) ≡ None
    by (inl all) = place_moved w.place c ∙ ap (option_map (λ k. w.place (Own k))) none
    by (inr never) = ap place_in outs-Poison

pub none_intrinsic : (items : List Item) (o : Operand) → written_callee o ≡ None → names_intrinsic items o ≡ false
none_intrinsic items (operand.Param k) none = refl
none_intrinsic items (operand.Reg k) none = refl
none_intrinsic items (operand.Const c) none = by (out-Const c) none
  where
    by : (x : Const-F Const) → place_in x ≡ None → is_intrinsic_address items x ≡ false
    by (Const-F.Int n) e = refl
    by Const-F.Null e = refl
    by (Const-F.Addr k (pos zero)) e = cc
    by (Const-F.Addr k (pos (suc n))) e = refl
    by (Const-F.Addr k (negsuc n)) e = refl
    by Const-F.Undef e = refl
    by Const-F.Poison e = refl
    by Const-F.Zero e = refl
    by (Const-F.Text bytes) e = refl
    by (Const-F.Many parts) e = refl

pub some_intrinsic : (items : List Item) (o : Operand) (k : ℕ) → written_callee o ≡ Some k → names_intrinsic items o ≡ is_intrinsic_item (slice_get items k)
some_intrinsic items (operand.Param j) k is = cc
some_intrinsic items (operand.Reg j) k is = cc
some_intrinsic items (operand.Const c) k is = by (out-Const c) is
  where
    by : (x : Const-F Const) → place_in x ≡ Some k → is_intrinsic_address items x ≡ is_intrinsic_item (slice_get items k)
    by (Const-F.Int n) e = cc
    by Const-F.Null e = cc
    by (Const-F.Addr j (pos zero)) e = ap (λ n. is_intrinsic_item (slice_get items n)) (some_is e)
    by (Const-F.Addr j (pos (suc n))) e = cc
    by (Const-F.Addr j (negsuc n)) e = cc
    by Const-F.Undef e = cc
    by Const-F.Poison e = cc
    by Const-F.Zero e = cc
    by (Const-F.Text bytes) e = cc
    by (Const-F.Many parts) e = cc

-- ---- operands are kept

pub chosen_map : {A B : Type 0} (f : A → B) (mask : List Bool) (xs : List A) → map f (chosen mask xs) ≡ chosen mask (map f xs)
chosen_map f [] xs = refl
chosen_map f (flag ∷ mask) [] = refl
chosen_map f (true ∷ mask) (x ∷ xs) = ap (λ l. f x ∷ l) (chosen_map f mask xs)
chosen_map f (false ∷ mask) (x ∷ xs) = chosen_map f mask xs

abbrev pub tys : List Param → List Scalar
tys params = map (λ (param : Param). param.ty) params

abbrev pub types_in : List Item → List Param → Body → Types
types_in items params body = record { items = items; params = tys params; results = results body }

poison_fits : (later : Places) (typed : Types) (ty : Scalar) → IsOperand later ty (operand.Const const.Poison) × HasType typed ty (operand.Const const.Poison)
poison_fits later typed ty = (suits-Poison (length later.items) (One ty), none_named typed.items const.Poison names-Poison)

pub names_plain : (items others : List Item) (place : Named → ℕ) (named : List Named) (c : Const) → Suit items others place named → Every (HasOwn named) (names c) → NamesNoIntrinsic items c → NamesNoIntrinsic others (moved place c)
names_plain items others place named c suit all plain =
    subst (λ l. All (λ at. is_intrinsic_item (slice_get others at) ≡ false) l) (sym (names_moved place c))
    (all_of_every (λ at. is_intrinsic_item (slice_get others at) ≡ false) (map (λ k. place (Own k)) (names c)) (every_map (λ at. is_intrinsic_item (slice_get others at) ≡ false) (λ k. place (Own k)) (names c)
    (every_by (λ k. is_intrinsic_item (slice_get others (place (Own k))) ≡ false) (names c) (λ j k is.
    suit.own_intrinsic k (every_at (HasOwn named) (names c) j k all is) ∙ every_at (λ at. is_intrinsic_item (slice_get items at) ≡ false) (names c) j k (every_of_all (λ at. is_intrinsic_item (slice_get items at) ≡ false) (names c) plain) is))))

pub names_placed : (items others : List Item) (place : Named → ℕ) (named : List Named) (c : Const) → Suit items others place named → Every (HasOwn named) (names c) → Every (λ k. place (Own k) < length others) (names c)
names_placed items others place named c suit all = every_to (HasOwn named) (λ k. place (Own k) < length others) (names c) (λ k h. suit.own_there k h) all

pub keeps : (items others : List Item) (params : List Param) (w : Writing) (named : List Named) (body : Body) → Suit items others w.place named → length w.stays ≡ length params
    → Keeps (places_of items (length params) body) (types_in items params body) (places_of others (length (chosen w.stays params)) (written_body w body)) (types_in others (chosen w.stays params) (written_body w body)) (kept_operand w named)
keeps items others params w named body suit long = record { operands = λ ty o formed typed. each ty o formed typed; numbers = number_kept w named; blocks = length-map body.blocks _ }
  where
    places : Places
    places = places_of items (length params) body

    later : Places
    later = places_of others (length (chosen w.stays params)) (written_body w body)

    types : Types
    types = types_in items params body

    typed_so : Types
    typed_so = types_in others (chosen w.stays params) (written_body w body)

    param : (ty : Scalar) (k : ℕ) (o : Option Bool) → slice_get w.stays k ≡ o → slice_get (tys params) k ≡ Some ty → IsOperand later ty (kept_param o (rank w.stays k)) × HasType typed_so ty (kept_param o (rank w.stays k))
    param ty k None e is =
        let less : k < length params = subst (λ n. k < n) (length-map params (λ (p : Param). p.ty)) (within (tys params) k ty is) in
        let flag = there w.stays k (subst (λ n. k < n) (sym long) less) in
        absurd (none-some flag.0 (sym e ∙ flag.1))
    param ty k (Some true) e is =
        let at : slice_get (tys (chosen w.stays params)) (rank w.stays k) ≡ Some ty = ap (λ l. slice_get l (rank w.stays k)) (chosen_map (λ (p : Param). p.ty) w.stays params) ∙ chosen_at w.stays (tys params) k (ap flag_at e) ∙ is in
        (subst (λ n. rank w.stays k < n) (length-map (chosen w.stays params) (λ (p : Param). p.ty)) (within (tys (chosen w.stays params)) (rank w.stays k) ty at), at)
    param ty k (Some false) e is = poison_fits later typed_so ty

    constant : (ty : Scalar) (c : Const) (d : Decided (Every (HasOwn named) (names c))) → IsOperand places ty (operand.Const c) → HasType types ty (operand.Const c)
        → IsOperand later ty (operand.Const (kept_const w.place named c d)) × HasType typed_so ty (operand.Const (kept_const w.place named c d))
    constant ty c (inl all) formed typed = (suits_moved w.place (length items) (length others) c (One ty) (names_placed items others w.place named c suit all) formed, names_plain items others w.place named c suit all typed)
    constant ty c (inr never) formed typed = poison_fits later typed_so ty

    each : (ty : Scalar) (o : Operand) → IsOperand places ty o → HasType types ty o → IsOperand later ty (kept_operand w named o) × HasType typed_so ty (kept_operand w named o)
    each ty (operand.Param k) formed typed = param ty k (slice_get w.stays k) refl typed
    each ty (operand.Reg k) formed typed = (subst (λ l. k < length l) (sym (results_same w body)) formed, ap (λ l. slice_get l k) (results_same w body) ∙ typed)
    each ty (operand.Const c) formed typed = constant ty c (decide_all named (names c)) formed typed

-- ---- the name of an item

-- the address of an item that is there
pub address_formed : (later : Places) (at : ℕ) → at < length later.items → IsOperand later Ptr (operand.Const (const.Addr at (pos 0)))
address_formed later at less = suits-Addr (length later.items) at (pos 0) (One Ptr) ∙ ap (λ x. takes_address x && nat_lt at (length later.items)) (outs-One Ptr) ∙ lt-ltb at (length later.items) less

pub address_callee : (at : ℕ) → written_callee (operand.Const (const.Addr at (pos 0))) ≡ Some at
address_callee at = ap place_in (outs-Addr at (pos 0))
