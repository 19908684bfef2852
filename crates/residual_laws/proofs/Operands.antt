-- Operands, as they are left, are formed and typed.
use Rattle.std.proofs.Common.{◌≡◌, ◌∙◌, ℕ, zero, suc, true, false, List, [], ◌∷◌, Option, Some, All, length, refl, ap, sym, subst, arith}
use Rattle.std.specs.Prelude.{slice_get}
use Rattle.std.specs.List.{AllZip}
use Rattle.std.proofs.lemmas.Option.{none-some}
use Rattle.ir_types.specs.declared.scalar.Scalar.{Scalar}
use Rattle.ir_types.specs.declared.scalar.Known.{Known}
use Rattle.ir_types.specs.declared.scalar.Known.TheVariants.{Unknown, Num, Null}
use Rattle.ir_types.specs.declared.shape.Ty.TheBlock.{One as OneTy}
use Rattle.ir_types.specs.declared.shape.Ty.TheVariants.{outs-One}
use Rattle.ir_syntax.specs.declared.constant.Const.{Const}
use Rattle.ir_syntax.specs.declared.constant.Const.TheVariants as const
use Rattle.ir_syntax.specs.declared.constant.Operand.{Operand}
use Rattle.ir_syntax.specs.declared.constant.Operand.TheVariants as operand
use Rattle.ir_syntax.specs.declared.body.Body.{Body}
use Rattle.ir_syntax.specs.declared.item.Item.{Item}
use Rattle.ir_syntax.specs.FormedBody.{Places, IsOperand, places_of}
use Rattle.ir_syntax.specs.FormedBody.{is_intrinsic_item}
use Rattle.ir_syntax.specs.Named.{names}
use Rattle.ir_syntax.specs.Results.{results}
use Rattle.ir_syntax.specs.Suits.{takes_number, takes_address}
use Rattle.ir_syntax.specs.Typed.{Types, HasType, NamesNoIntrinsic}
use Rattle.ir_syntax.proofs.SuitLemmas.{suits-Int, suits-Null}
use Rattle.ir_syntax.proofs.NameLemmas.{names-Int, names-Null}
use Rattle.fold_facts.specs.declared.fact.Fact.{Fact}
use Rattle.fold_facts.specs.declared.fact.Fact.TheVariants.{Unreached, One, Varying}
use Rattle.fold_facts.specs.Assigned.{Assigned, fact_of}
use Rattle.fold_facts.specs.Operands.{param_fact}
use Rattle.fold_facts.specs.OfFunction.{IsFactOf}
use Rattle.fold_facts.proofs.Lists.{some_is}
use Rattle.interface.specs.Masks.{rank, chosen, is_chosen}
use Rattle.interface.specs.Summaries.{value_of}
use Rattle.interface.proofs.Chosen.{chosen_at, chosen_count}
use Rattle.specialise.specs.Leaving.{leaving, is_open, kept}
use Rattle.specialise.specs.Residual.{value_or, left_operand}
use Rattle.residual_laws.proofs.Flags.{are_out}
use Rattle.residual_laws.proofs.Held.{Held}
use Rattle.residual_laws.proofs.Left.{left_of}
use Rattle.residual_laws.proofs.Numbering.{blocks_types}
use Rattle.residual_laws.proofs.Ranks.{rank_less}
use Rattle.residual_laws.proofs.Staying.{OperandStays}

-- An operand is formed, and of the type that is written for it.
pub record Fits (places : Places) (types : Types) (ty : Scalar) (o : Operand) : Type 0 where
  pub formed : IsOperand places ty o
  pub typed : HasType types ty o

-- what a body's operands may be, and of what types they are
abbrev pub types_of : List Item → List Scalar → Body → Types
types_of items params body = record { items = items; params = params; results = results body }

abbrev pub left_body : List Known → Body → Assigned → Body
left_body known body a = record { blocks = left_of known body a }

abbrev pub FitsIn : List Item → List Scalar → Body → Scalar → Operand → Type 0
FitsIn items params body ty o = Fits (places_of items (length params) body) (types_of items params body) ty o

-- ---- known values

names_none : (items : List Item) (c : Const) → names c ≡ [] → NamesNoIntrinsic items c
names_none items c none = subst (λ l. All (λ place. is_intrinsic_item (slice_get items place) ≡ false) l) (sym none) (λ k d less. absurd (omega (arith, less)))

value_fits : (places : Places) (types : Types) (ty : Scalar) (other : Operand) (f : Fact) → IsFactOf ty f → (is_open f ≡ true → Fits places types ty other) → Fits places types ty (value_or other (value_of f))
value_fits places types ty other Unreached h g = g refl
value_fits places types ty other (One Unknown) h g = g refl
value_fits places types ty other (One (Num n)) h g = record {
  formed = suits-Int (length places.items) n (OneTy ty) ∙ ap (λ x. takes_number x n) (outs-One ty) ∙ h;
  typed = names_none types.items (const.Int n) (names-Int n);
}
value_fits places types ty other (One Null) h g = record {
  formed = suits-Null (length places.items) (OneTy ty) ∙ ap takes_address (outs-One ty) ∙ h;
  typed = names_none types.items const.Null names-Null;
}
value_fits places types ty other Varying h g = g refl

fact_suits : (results : List Scalar) (facts : List Fact) → AllZip IsFactOf results facts → (k : ℕ) (ty : Scalar) → slice_get results k ≡ Some ty → IsFactOf ty (fact_of facts k)
fact_suits [] facts h k ty is = absurd (none-some ty is)
fact_suits (r ∷ rs) [] h k ty is = absurd h
fact_suits (r ∷ rs) (f ∷ fs) h zero ty is = subst (λ t. IsFactOf t f) (some_is is) h.0
fact_suits (r ∷ rs) (f ∷ fs) h (suc k) ty is = fact_suits rs fs h.1 k ty is

-- ---- results

pub left_results : (items : List Item) (params : List Scalar) (returns : Option Scalar) (known : List Known) (body : Body) (a : Assigned) → Held items params returns known body a → results (left_body known body a) ≡ chosen (kept a body.blocks) (results body)
left_results items params returns known body a h = blocks_types (leaving known body.blocks a) 0 0 body.blocks (are_out known body.blocks a h.of)

result_fits : (items : List Item) (params : List Scalar) (returns : Option Scalar) (known : List Known) (body : Body) (a : Assigned) (ty : Scalar) (k : ℕ) → Held items params returns known body a → FitsIn items params body ty (operand.Reg k)
    → is_chosen (kept a body.blocks) k ≡ true → FitsIn items params (left_body known body a) ty (operand.Reg (rank (kept a body.blocks) k))
result_fits items params returns known body a ty k h f set =
    let is = left_results items params returns known body a h in
    let long : length (results (left_body known body a)) ≡ rank (kept a body.blocks) (length (results body)) = ap length is ∙ chosen_count (kept a body.blocks) (results body) in
    record {
      formed = omega (arith, long, rank_less (kept a body.blocks) k (length (results body)) set f.formed);
      typed = ap (λ l. slice_get l (rank (kept a body.blocks) k)) is ∙ chosen_at (kept a body.blocks) (results body) k set ∙ f.typed;
    }

-- ---- operands

pub left_fits : (items : List Item) (params : List Scalar) (returns : Option Scalar) (known : List Known) (body : Body) (a : Assigned) (ty : Scalar) (o : Operand) → Held items params returns known body a → FitsIn items params body ty o
    → OperandStays body.blocks a o → FitsIn items params (left_body known body a) ty (left_operand (leaving known body.blocks a) o)
left_fits items params returns known body a ty (operand.Param k) h f stays =
    value_fits (places_of items (length params) (left_body known body a)) (types_of items params (left_body known body a)) ty (operand.Param k) (param_fact (slice_get known k)) (h.knows k ty f.typed) (λ opens. record { formed = f.formed; typed = f.typed })
left_fits items params returns known body a ty (operand.Reg k) h f stays =
    value_fits (places_of items (length params) (left_body known body a)) (types_of items params (left_body known body a)) ty (operand.Reg (rank (kept a body.blocks) k)) (fact_of a.facts k) (fact_suits (results body) a.facts h.of.facts k ty f.typed)
    (λ opens. result_fits items params returns known body a ty k h f ((stays k refl).stays opens))
left_fits items params returns known body a ty (operand.Const c) h f stays = record { formed = f.formed; typed = f.typed }
