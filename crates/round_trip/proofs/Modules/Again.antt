-- A written module is read again: what was shown of types, constants, lines and items put together.
use Rattle.std.proofs.Common.{◌≡◌, ◌≢◌, ◌∙◌, ℕ, zero, suc, ◌<◌, ◌≤◌, ◌^◌, Bool, true, false, List, [], ◌∷◌, ◌++◌, length, get_or, Some, Ok, refl, sym, ap, subst, arith}
use Rattle.std.specs.Prelude.{All, AllPairs}
use Rattle.std.specs.List.{list_all}
use Rattle.std.proofs.lemmas.List.{length-map}
use Rattle.std.proofs.lemmas.List.Elements.{All-map, All-head, All-tail, All-cons}
use Rattle.std.proofs.lemmas.Bool.{and_parts}
use Rattle.ir_types.specs.declared.scalar.Scalar.{Scalar}
use Rattle.ir_types.specs.declared.shape.Ty.{Ty}
use Rattle.ir_types.specs.declared.shape.Ty.TheBlock.{One}
use Rattle.ir_types.specs.declared.shape.Ty.TheOpen.{Ty-F}
use Rattle.ir_types.specs.declared.shape.Ty.TheFolds.{fold-roll-Ty}
use Rattle.ir_types.specs.declared.shape.Ty.TheVariants.{rolls-One}
use Rattle.ir_types.specs.Names.{IsName}
use Rattle.ir_types.proofs.Nestings.{nesting-One, nodes-One}
use Rattle.ir_syntax.specs.Suits.{IsType, Suits}
use Rattle.ir_constants.specs.Constants.{constant_at}
use Rattle.ir_body.specs.Bodies.{body_at}
use Rattle.ir_syntax.specs.declared.constant.Const.{Const}
use Rattle.ir_syntax.specs.declared.body.Block.{Block}
use Rattle.ir_syntax.specs.declared.body.Body.{Body}
use Rattle.ir_syntax.specs.declared.body.Phi.{Phi}
use Rattle.ir_syntax.specs.declared.body.Inst.{Inst}
use Rattle.ir_syntax.specs.declared.item.Item.{Item}
use Rattle.ir_syntax.specs.declared.item.Item.TheVariants as item
use Rattle.ir_syntax.specs.declared.item.Module.{Module}
use Rattle.ir_syntax.specs.Formed.{Formed}
use Rattle.ir_syntax.specs.FormedItem.{FormedItem}
use Rattle.ir_syntax.specs.FormedBody.{Places, FormedPhi, FormedInst, FormedBlock, FormedBody, places_of, item_name}
use Rattle.ir_syntax.specs.Results.{results, count}
use Rattle.ir_grammar.specs.declared.shape.AtName.{AtName}
use Rattle.ir_grammar.specs.declared.shape.AtName.TheVariants as at
use Rattle.ir_grammar.specs.declared.shape.Shape.TheVariants as is
use Rattle.ir_grammar.specs.Shapes.{at_shape}
use Rattle.ir_grammar.specs.Tokens.{Kept}
use Rattle.ir_scope.specs.Runs.{begins_with}
use Rattle.ir_scope.specs.Scopes.{Env}
use Rattle.ir_operands.specs.Operands.{Names}
use Rattle.ir_parser.specs.Modules.{env_of, module_of}
use Rattle.ir_writer.specs.Modules.{item_names}
use Rattle.ir_writer.specs.Ranges.{AreBytes, BlockInRange, ItemInRange, InRange, is_type_in_range, type_in_range, is_phi_in_range, is_inst_in_range}
use Rattle.round_trip.proofs.Grammar.Kept.{module_kept, constant_kept, body_kept}
use Rattle.round_trip.proofs.Constants.Types.{type_back}
use Rattle.round_trip.proofs.Constants.Numbers.{number_read}
use Rattle.round_trip.proofs.Constants.Constants.{constant_back}
use Rattle.round_trip.proofs.Locals.Texts.{lettered_from}
use Rattle.round_trip.proofs.Locals.Found.{param_found, result_found, block_found}
use Rattle.round_trip.proofs.Bodies.Lines.{opens_line, PhiBack, InstBack, BlockBack}
use Rattle.round_trip.proofs.Bodies.Bodies.{few_results, names_of_written, body_back}
use Rattle.round_trip.proofs.Lines.Aligns.{begins_quietly}
use Rattle.round_trip.proofs.Grammar.Operands.{is_debug}
use Rattle.round_trip.proofs.Lines.Names.{NamesBack, ReadsBack}
use Rattle.round_trip.proofs.Lines.Given.{reads_back}
use Rattle.round_trip.proofs.Lines.Lines.{inst_back, plain_inst_back, phi_back, term_back}
use Rattle.round_trip.proofs.Modules.Names.{no-debug, item-declarable}
use Rattle.round_trip.proofs.Modules.ParamNames.{texts_from, param_name}
use Rattle.round_trip.proofs.Modules.Vars.{TypesBack, ConstantsBack}
use Rattle.round_trip.proofs.Modules.Items.{BodiesBack, item-bytes}
use Rattle.round_trip.proofs.Modules.Modules.{module_back, module-symbols}

-- ---- names of items

each_of : {X : Type 0} (P Q : X → Type 0) (f : (x : X) → P x → Q x) (xs : List X) → All P xs → All Q xs
each_of P Q f xs h = λ k d lt. f (get_or xs k d) (h k d lt)

pub are_bytes : (m : Module) → InRange m → All AreBytes (item_names m)
are_bytes m range = All-map AreBytes item_name m.items (each_of ItemInRange (λ i. AreBytes (item_name i)) item-bytes m.items range.items)

named_item : (items : List Item) (i : Item) → FormedItem items i → IsName (item_name i)
named_item items (item.Var var) h = h.has_name
named_item items (item.Func func) h = h.has_name

are_named : (m : Module) → Formed m → All IsName (item_names m)
are_named m formed = All-map IsName item_name m.items (each_of (FormedItem m.items) (λ i. IsName (item_name i)) (named_item m.items) m.items formed.has_items)

by_name : (found : AtName) → found ≢ at.Debug → is_debug found ≡ false
by_name at.Debug other = absurd (other refl)
by_name at.Plain other = refl
by_name at.Memory other = refl
by_name at.Other other = refl

no_debug_item : (items : List Item) (i : Item) → FormedItem items i → is_debug (at_shape (item_name i)) ≡ false
no_debug_item items i h = by_name (at_shape (item_name i)) (no-debug (item_name i) (item-declarable items i h))

pub are_plain : (m : Module) → Formed m → All (λ name. is_debug (at_shape name) ≡ false) (item_names m)
are_plain m formed =
    All-map (λ name. is_debug (at_shape name) ≡ false) item_name m.items
    (each_of (FormedItem m.items) (λ i. is_debug (at_shape (item_name i)) ≡ false) (no_debug_item m.items) m.items formed.has_items)

-- ---- types and constants

types_again : (env : Env) → TypesBack env
types_again env = λ ty fits range rest. type_back env.types ty rest fits range

constants_again : (env : Env) (m : Module) → env.symbols ≡ item_names m → Formed m → InRange m → ConstantsBack env (item_names m) m.items
constants_again env m same formed range = λ ty c suits fits ranged has rest.
    subst (λ names. constant_at_names names ty c rest) same
    (constant_back env c ty rest (subst (AllPairs (λ a b. a ≢ b)) (sym same) formed.distinct) (subst (All IsName) (sym same) (are_named m formed)) (subst (All AreBytes) (sym same) (are_bytes m range))
    (subst (λ n. Suits n ty c) (sym (ap length same ∙ length-map m.items item_name)) suits) fits ranged has)
  where
    constant_at_names : List (List ℕ) → Ty → Const → List Kept → Type 0
    constant_at_names names ty c rest = constant_at env ty (constant_kept names c ty ++ rest) ≡ Some (c, length (constant_kept names c ty))

scalar_fits : (ty : Scalar) → IsType (One ty)
scalar_fits ty = record { nests = omega (arith, nesting-One ty); has_nodes = omega (arith, nodes-One ty) }

scalar_ranged : (ty : Scalar) → is_type_in_range (One ty) ≡ true
unfolding is_type_in_range
scalar_ranged ty = ap is_type_in_range (sym (rolls-One ty)) ∙ fold-roll-Ty Bool type_in_range (Ty-F.One ty)

-- ---- lines

quietly : (rest : List Kept) → begins_with opens_line rest ≡ true → begins_quietly rest ≡ true
quietly [] o = absurd (cc)
quietly ((is.Label, text) ∷ ks) o = refl
quietly ((is.Result, text) ∷ ks) o = refl
quietly ((is.Store, text) ∷ ks) o = refl
quietly ((is.Call, text) ∷ ks) o = refl
quietly ((is.Ret, text) ∷ ks) o = refl
quietly ((is.Br, text) ∷ ks) o = refl
quietly ((is.Switch, text) ∷ ks) o = refl
quietly ((is.Unreachable, text) ∷ ks) o = refl
quietly ((is.CloseBrace, text) ∷ ks) o = refl
quietly (k ∷ ks) o = absurd (cc)

both_of : {X : Type 0} (P : X → Type 0) (test : X → Bool) (Q : X → Type 0) (f : (x : X) → P x → test x ≡ true → Q x) (xs : List X) → All P xs → list_all test xs ≡ true → All Q xs
both_of P test Q f [] all tested = λ k d lt. absurd (omega (arith, lt))
both_of P test Q f (x ∷ xs) all tested =
    let now = and_parts (test x) (list_all test xs) tested in
    All-cons Q x xs (f x (All-head P x xs all) now.0) (both_of P test Q f xs (All-tail P x xs all) now.1)

module _ (names : List (List ℕ)) (N : Names) (places : Places) (r : ReadsBack names N places) where
  phi_again : (phi : Phi) → FormedPhi places phi → is_phi_in_range phi ≡ true → PhiBack N names phi
  phi_again phi formed range = λ k rest o. phi_back names N places r phi formed range k rest (quietly rest o)

  inst_again : (i : Inst) → FormedInst places i → is_inst_in_range i ≡ true → InstBack N names i
  inst_again i formed range = record {
    named = λ has k rest o. inst_back names N places r i formed range k rest (quietly rest o);
    unnamed = λ none rest o. plain_inst_back names N places r i formed range rest (quietly rest o);
  }

  block_again : (block : Block) → FormedBlock places block → BlockInRange block → BlockBack N names block
  block_again block formed range = record {
    phis = both_of (FormedPhi places) is_phi_in_range (PhiBack N names) phi_again block.phis formed.phis range.phis;
    insts = both_of (FormedInst places) is_inst_in_range (InstBack N names) inst_again block.insts formed.insts range.insts;
    term = λ rest o. term_back names N places r block.term formed.term range.term rest (quietly rest o);
  }

-- ---- bodies

same_params : (k n : ℕ) → lettered_from 97 k n ≡ texts_from param_name k n
same_params k zero = refl
same_params k (suc n) = ap (λ texts. param_name k ∷ texts) (same_params (suc k) n)

few : (n c : ℕ) → n ≤ c → c ≤ 1048576 → n < 2 ^ 64
few n c within bounded = omega (arith, within, bounded)

few_blocks : (n : ℕ) → n ≤ 65535 → n < 2 ^ 64
few_blocks n bounded = omega (arith, bounded)

few_params : (n : ℕ) → n ≤ 32 → n < 2 ^ 64
few_params n bounded = omega (arith, bounded)

module _ (env : Env) (m : Module) (same : env.symbols ≡ item_names m) (formed : Formed m) (range : InRange m) where
  names_again : (n : ℕ) (body : Body) → n < 2 ^ 64 → FormedBody m.items n body → NamesBack (item_names m) (names_of_written env n body) (places_of m.items n body)
  names_again n body small h =
      let r = length (results body) in
      let b = length body.blocks in
      record {
        constants = λ ty c suits has rest. constants_again env m same formed range (One ty) c suits (scalar_fits ty) (scalar_ranged ty) has rest;
        params = λ k lt. param_found n r b k lt small;
        results = λ k lt. result_found n r b k lt (few r (count body) (few_results body) h.few_insts);
        blocks = λ k lt. block_found n r b k lt (few_blocks b h.few_blocks);
      }

  reads_again : (n : ℕ) (body : Body) → n < 2 ^ 64 → FormedBody m.items n body → ReadsBack (item_names m) (names_of_written env n body) (places_of m.items n body)
  reads_again n body small h =
      reads_back (item_names m) (names_of_written env n body) (places_of m.items n body) (names_again n body small h) (types_again env) number_read same (are_plain m formed)

  bodies_again : BodiesBack env (item_names m) m.items
  bodies_again = λ n body few_of h ranged.
      let small = few_params n few_of in
      subst (λ params. body_at env params (body_kept (item_names m) body) ≡ Some body) (same_params 0 n)
      (body_back env (item_names m) m.items n body small h
      (λ k d lt. block_again (item_names m) (names_of_written env n body) (places_of m.items n body) (reads_again n body small h) (get_or body.blocks k d) (h.has_blocks k d lt) (ranged k d lt)))

-- ---- modules

pub module_again : (m : Module) → Formed m → InRange m → module_of (module_kept m) ≡ Ok m
module_again m formed range =
    let env = env_of (module_kept m) in
    let same = module-symbols m formed range in
    module_back m formed range (types_again env) (constants_again env m same formed range) (bodies_again env m same formed range)
