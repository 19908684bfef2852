-- The tokens of a module split into its entities, where the grammar takes its types, constants and lines.
use Rattle.std.proofs.Common.{◌≡◌, ℕ, true, false, is_some, List, [], length, Option, Some, None, IfSome, All}
use Rattle.std.specs.Prelude.{IsTrue}
use Rattle.std.proofs.lemmas.List.Sums.{AllPass-from_list_all}
use Rattle.ir_types.specs.declared.shape.Ty.{Ty}
use Rattle.ir_lexer.specs.Written.{spellings_of}
use Rattle.ir_syntax.specs.Formed.{Formed}
use Rattle.ir_syntax.specs.FormedBody.{Places, places_of, FormedPhi, FormedInst, FormedTerm, FormedBlock, FormedBody}
use Rattle.ir_syntax.specs.FormedItem.{FormedItem}
use Rattle.ir_syntax.specs.Results.{result_type}
use Rattle.ir_syntax.specs.Suits.{Suits}
use Rattle.ir_syntax.specs.declared.constant.Const.{Const}
use Rattle.ir_syntax.specs.declared.body.Phi.{Phi}
use Rattle.ir_syntax.specs.declared.body.Inst.{Inst}
use Rattle.ir_syntax.specs.declared.body.Term.{Term}
use Rattle.ir_syntax.specs.declared.body.Block.{Block}
use Rattle.ir_syntax.specs.declared.body.Body.{Body}
use Rattle.ir_syntax.specs.declared.item.Item.{Item}
use Rattle.ir_syntax.specs.declared.item.Item.TheVariants as item
use Rattle.ir_syntax.specs.declared.item.Module.{Module}
use Rattle.ir_parser.specs.Spelled.{Splits}
use Rattle.ir_writer.specs.Constants.{type_parts, constant_parts}
use Rattle.ir_writer.specs.Instructions.{inst_parts, phi_parts, term_parts}
use Rattle.ir_writer.specs.Modules.{item_names, module_parts}
use Rattle.ir_writer.specs.Ranges.{is_type_in_range, is_constant_in_range, is_inst_in_range, is_phi_in_range, is_term_in_range, BlockInRange, ItemInRange, InRange}
use Rattle.round_trip.proofs.Entities.Lines.{PhiGoes, ValueGoes, EffectGoes, TermGoes}
use Rattle.round_trip.proofs.Entities.Bodies.{BlockGoes}
use Rattle.round_trip.proofs.Entities.Variables.{TypeGoes, ConstantGoes}
use Rattle.round_trip.proofs.Entities.Items.{ItemGoes}
use Rattle.round_trip.proofs.Entities.Plain.{IsPlain, PlainBlock, PlainItem}
use Rattle.round_trip.proofs.Entities.Split.{WalkIsDerived, module_entities, module_splits}

-- What is shown elsewhere of the types and constants of a module with these names.
pub record ValuesGo (names : List (List ℕ)) (items : ℕ) : Type 0 where
  pub ty : (ty : Ty) → IsTrue (is_type_in_range ty) → TypeGoes ty
  pub constant : (ty : Ty) (c : Const) → Suits items ty c → IsTrue (is_type_in_range ty) → IsTrue (is_constant_in_range c) → ConstantGoes names ty c
  pub plain_ty : (ty : Ty) → IsTrue (is_type_in_range ty) → IsPlain (type_parts ty)
  pub plain_constant : (ty : Ty) (c : Const) → Suits items ty c → IsTrue (is_type_in_range ty) → IsPlain (constant_parts names c ty)

-- And of the lines of a body with these places.
pub record LinesGo (names : List (List ℕ)) (places : Places) : Type 0 where
  pub phi : (phi : Phi) → FormedPhi places phi → IsTrue (is_phi_in_range phi) → PhiGoes names phi
  pub value : (i : Inst) → FormedInst places i → IsTrue (is_inst_in_range i) → is_some (result_type i) ≡ true → ValueGoes names i
  pub effect : (i : Inst) → FormedInst places i → IsTrue (is_inst_in_range i) → is_some (result_type i) ≡ false → EffectGoes names i
  pub term : (t : Term) → FormedTerm places t → IsTrue (is_term_in_range t) → TermGoes names t
  pub plain_phi : (phi : Phi) → FormedPhi places phi → IsPlain (phi_parts names phi)
  pub plain_inst : (i : Inst) → FormedInst places i → IsTrue (is_inst_in_range i) → IsPlain (inst_parts names i)
  pub plain_term : (t : Term) → FormedTerm places t → IsPlain (term_parts names t)

-- ---- blocks

module _ (names : List (List ℕ)) (places : Places) (known : LinesGo names places) where
  block_goes : (block : Block) → FormedBlock places block → BlockInRange block → BlockGoes names block
  block_goes block formed range = record {
    phis = λ k d less. known.phi _ (formed.phis k d less) (AllPass-from_list_all is_phi_in_range block.phis range.phis k d less);
    insts = λ k d less.
        let fits = formed.insts k d less in
        let small = AllPass-from_list_all is_inst_in_range block.insts range.insts k d less in
        record { value = known.value _ fits small; effect = known.effect _ fits small };
    term = known.term block.term formed.term range.term;
  }

  block_plain : (block : Block) → FormedBlock places block → BlockInRange block → PlainBlock names block
  block_plain block formed range = record {
    phis = λ k d less. known.plain_phi _ (formed.phis k d less);
    insts = λ k d less. known.plain_inst _ (formed.insts k d less) (AllPass-from_list_all is_inst_in_range block.insts range.insts k d less);
    term = known.plain_term block.term formed.term;
  }

-- ---- items

module _ (names : List (List ℕ)) (items : List Item) (values : ValuesGo names (length items)) (lines : (params : ℕ) (body : Body) → LinesGo names (places_of items params body)) where
  init_goes : (ty : Ty) (init : Option Const) → IsTrue (is_type_in_range ty) → IfSome init (λ c. Suits (length items) ty c) → IfSome init (λ c. IsTrue (is_constant_in_range c)) → IfSome init (ConstantGoes names ty)
  init_goes ty None small suit range = tt
  init_goes ty (Some c) small suit range = values.constant ty c suit small range

  init_plain : (ty : Ty) (init : Option Const) → IsTrue (is_type_in_range ty) → IfSome init (λ c. Suits (length items) ty c) → IfSome init (λ c. IsPlain (constant_parts names c ty))
  init_plain ty None small suit = tt
  init_plain ty (Some c) small suit = values.plain_constant ty c suit small

  body_goes : (params : ℕ) (body : Option Body) → IfSome body (FormedBody items params) → IfSome body (λ b. All BlockInRange b.blocks) → IfSome body (λ b. All (BlockGoes names) b.blocks)
  body_goes params None formed range = tt
  body_goes params (Some body) formed range = λ k d less. block_goes names (places_of items params body) (lines params body) _ (formed.has_blocks k d less) (range k d less)

  body_plain : (params : ℕ) (body : Option Body) → IfSome body (FormedBody items params) → IfSome body (λ b. All BlockInRange b.blocks) → IfSome body (λ b. All (PlainBlock names) b.blocks)
  body_plain params None formed range = tt
  body_plain params (Some body) formed range = λ k d less. block_plain names (places_of items params body) (lines params body) _ (formed.has_blocks k d less) (range k d less)

  item_goes : (i : Item) → FormedItem items i → ItemInRange i → ItemGoes names i
  item_goes (item.Var var) formed range = record { has_type = values.ty var.ty range.1; has_init = init_goes var.ty var.init range.1 formed.suits range.2 }
  item_goes (item.Func func) formed range = body_goes (length func.params) func.body formed.has_body range.1

  item_plain : (i : Item) → FormedItem items i → ItemInRange i → PlainItem names i
  item_plain (item.Var var) formed range = (values.plain_ty var.ty range.1, init_plain var.ty var.init range.1 formed.suits)
  item_plain (item.Func func) formed range = body_plain (length func.params) func.body formed.has_body range.1

-- ---- the module

pub module_is_split : WalkIsDerived → (m : Module) → Formed m → InRange m → ValuesGo (item_names m) (length m.items) → ((params : ℕ) (body : Body) → LinesGo (item_names m) (places_of m.items params body)) →
    Splits (spellings_of (module_parts m)) (module_entities m) []
module_is_split derived m formed range values lines =
    module_splits derived m formed range
    (λ k d less. item_goes (item_names m) m.items values lines _ (formed.has_items k d less) (range.items k d less))
    (λ k d less. item_plain (item_names m) m.items values lines _ (formed.has_items k d less) (range.items k d less))
