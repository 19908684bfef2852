-- Terminators, as they are left, are formed and typed.
use Rattle.std.proofs.Common.{◌≡◌, ◌≢◌, ◌∙◌, ℕ, suc, ◌+◌, ◌<◌, true, List, [], ◌∷◌, Option, None, Some, length, map, get_or, refl, ap, sym, subst, arith}
use Rattle.std.specs.Prelude.{slice_get, IsTrue, IfSome, AllPairs}
use Rattle.std.proofs.lemmas.Option.{get_or_from_slice_get}
use Rattle.ir_types.specs.declared.scalar.Scalar.{Scalar}
use Rattle.ir_types.specs.declared.scalar.Scalar.TheVariants.{I1}
use Rattle.ir_types.specs.declared.scalar.Known.{Known}
use Rattle.ir_types.specs.Scalars.{is_number_of}
use Rattle.ir_types.proofs.ListSteps.{All-at}
use Rattle.ir_syntax.specs.declared.body.Term.{Term}
use Rattle.ir_syntax.specs.declared.body.Term.TheVariants as term
use Rattle.ir_syntax.specs.declared.body.Block.{Block}
use Rattle.ir_syntax.specs.declared.body.Body.{Body}
use Rattle.ir_syntax.specs.declared.item.Item.{Item}
use Rattle.ir_syntax.specs.Edges.{successors}
use Rattle.ir_syntax.specs.FormedBody.{FormedTerm, places_of}
use Rattle.ir_syntax.specs.Operands.{term_operands}
use Rattle.ir_syntax.specs.Typed.{TypedTerm, TypedBlock}
use Rattle.fold_facts.specs.Assigned.{Assigned}
use Rattle.fold_facts.proofs.Lists.{there, get_map, of_map}
use Rattle.interface.specs.Masks.{rank, is_chosen}
use Rattle.interface.specs.Summaries.{reached, known_of}
use Rattle.specialise.specs.Leaving.{Leaving, leaving}
use Rattle.specialise.specs.Residual.{number_in, left_operand, left_branch, left_switch, left_term}
use Rattle.residual_laws.proofs.Every.{Every, all_of_every, every_by}
use Rattle.residual_laws.proofs.Flags.{zero_on}
use Rattle.residual_laws.proofs.Held.{Held}
use Rattle.residual_laws.proofs.Left.{left_of, chosen_reached, chosen_within, formed_block, gone_to}
use Rattle.residual_laws.proofs.Operands.{FitsIn, types_of, left_body, left_fits}
use Rattle.residual_laws.proofs.Ranks.{rank_zero, rank_less}
use Rattle.residual_laws.proofs.Standing.{left_long}
use Rattle.residual_laws.proofs.Staying.{OperandStays, block_stays}

-- A terminator is formed and typed.
pub record TermFits (items : List Item) (params : List Scalar) (returns : Option Scalar) (body : Body) (t : Term) : Type 0 where
  pub formed : FormedTerm (places_of items (length params) body) t
  pub typed : TypedTerm (types_of items params body) returns t

-- so many blocks are left
pub left_count : (known : List Known) (body : Body) (a : Assigned) → length (left_of known body a) ≡ rank (reached a body.blocks) (length body.blocks)
left_count known body a =
    let mask = reached a body.blocks in
    let long : length (left_of known body a) + rank mask 0 ≡ rank mask (0 + length body.blocks) = left_long (leaving known body.blocks a) 0 0 body.blocks in
    let same : rank mask (0 + length body.blocks) ≡ rank mask (length body.blocks) = ap (rank mask) (zero_on (length body.blocks)) in
    omega (arith, long, same, rank_zero mask)

-- a reached block's new place is one of them
pub place_within : (known : List Known) (body : Body) (a : Assigned) (k : ℕ) → is_chosen (reached a body.blocks) k ≡ true → rank (reached a body.blocks) k < length (left_of known body a)
place_within known body a k set = omega (arith, left_count known body a, rank_less (reached a body.blocks) k (length body.blocks) set (chosen_within a body.blocks k set))

-- ---- cases

numbers_moved : (f : ℕ → ℕ) (cases : List (ℕ × ℕ)) → AllPairs (λ (x y : ℕ × ℕ). x.0 ≢ y.0) cases → AllPairs (λ (x y : ℕ × ℕ). x.0 ≢ y.0) (map (λ (case : ℕ × ℕ). (case.0, f case.1)) cases)
numbers_moved f cases distinct i j d less within same =
    let long : j < length cases = omega (arith, within, map_long cases) in
    let one = there cases i (omega (arith, less, long)) in
    let other = there cases j long in
    let at_one : get_or (map (λ (case : ℕ × ℕ). (case.0, f case.1)) cases) i d ≡ (one.0.0, f one.0.1) =
    get_or_from_slice_get (map (λ (case : ℕ × ℕ). (case.0, f case.1)) cases) i (one.0.0, f one.0.1) d (get_map (λ (case : ℕ × ℕ). (case.0, f case.1)) cases i one.0 one.1) in
    let at_other : get_or (map (λ (case : ℕ × ℕ). (case.0, f case.1)) cases) j d ≡ (other.0.0, f other.0.1) =
    get_or_from_slice_get (map (λ (case : ℕ × ℕ). (case.0, f case.1)) cases) j (other.0.0, f other.0.1) d (get_map (λ (case : ℕ × ℕ). (case.0, f case.1)) cases j other.0 other.1) in
    let was_one : get_or cases i d ≡ one.0 = get_or_from_slice_get cases i one.0 d one.1 in
    let was_other : get_or cases j d ≡ other.0 = get_or_from_slice_get cases j other.0 d other.1 in
    distinct i j d less long (ap (λ (x : ℕ × ℕ). x.0) was_one ∙ sym (ap (λ (x : ℕ × ℕ). x.0) at_one) ∙ same ∙ ap (λ (x : ℕ × ℕ). x.0) at_other ∙ sym (ap (λ (x : ℕ × ℕ). x.0) was_other))
  where
    map_long : (cs : List (ℕ × ℕ)) → length (map {B = ℕ × ℕ} (λ (case : ℕ × ℕ). (case.0, f case.1)) cs) ≡ length cs
    map_long [] = refl
    map_long (c ∷ cs) = ap suc (map_long cs)

-- ---- terminators

-- They go to blocks that are there.
abbrev Goes : List Known → Body → Assigned → Term → Type 0
Goes known body a t = (j to : ℕ) → slice_get (successors t) j ≡ Some to → to < length (left_of known body a)

term_by : (items : List Item) (params : List Scalar) (returns : Option Scalar) (known : List Known) (body : Body) (a : Assigned) (t : Term) → Held items params returns known body a → TermFits items params returns body t
    → Every (OperandStays body.blocks a) (term_operands t) → Goes known body a (left_term (leaving known body.blocks a) t) → TermFits items params returns (left_body known body a) (left_term (leaving known body.blocks a) t)
term_by items params returns known body a term.RetVoid h f s g = record { formed = tt; typed = f.typed }
term_by items params returns known body a (term.Ret ty value) h f s g =
    let one = left_fits items params returns known body a ty value h (record { formed = f.formed; typed = f.typed.1 }) s.0 in
    record { formed = one.formed; typed = (f.typed.0, one.typed) }
term_by items params returns known body a (term.Br to) h f s g = record { formed = g 0 (rank (reached a body.blocks) to) refl; typed = tt }
term_by items params returns known body a (term.CondBr o one other) h f s g = by (number_in (known_of w.setting w.facts o)) g
  where
    w : Leaving
    w = leaving known body.blocks a

    fits : FitsIn items params (left_body known body a) I1 (left_operand w o)
    fits = left_fits items params returns known body a I1 o h (record { formed = f.formed.0; typed = f.typed }) s.0

    by : (n : Option ℕ) → Goes known body a (left_branch w n o one other) → TermFits items params returns (left_body known body a) (left_branch w n o one other)
    by None goes = record { formed = (fits.formed, goes 0 (rank w.reached one) refl, goes 1 (rank w.reached other) refl); typed = fits.typed }
    by (Some n) goes = record { formed = goes 0 _ refl; typed = tt }
term_by items params returns known body a (term.Switch ty o default cases) h f s g = by (number_in (known_of w.setting w.facts o)) g
  where
    w : Leaving
    w = leaving known body.blocks a

    fits : FitsIn items params (left_body known body a) ty (left_operand w o)
    fits = left_fits items params returns known body a ty o h (record { formed = f.formed.0; typed = f.typed.1 }) s.0

    moved : ℕ × ℕ → ℕ × ℕ
    moved case = (case.0, rank w.reached case.1)

    by : (n : Option ℕ) → Goes known body a (left_switch w n ty o default cases) → TermFits items params returns (left_body known body a) (left_switch w n ty o default cases)
    by None goes = record {
      formed = (
        fits.formed,
        goes 0 (rank w.reached default) refl,
        all_of_every (λ (case : ℕ × ℕ). IsTrue (is_number_of ty case.0) × (case.1 < length (left_of known body a))) (map (λ (case : ℕ × ℕ). (case.0, rank w.reached case.1)) cases)
            (every_by (λ (case : ℕ × ℕ). IsTrue (is_number_of ty case.0) × (case.1 < length (left_of known body a))) (map (λ (case : ℕ × ℕ). (case.0, rank w.reached case.1)) cases) (λ k x is.
            let c = of_map (λ (case : ℕ × ℕ). (case.0, rank w.reached case.1)) cases k x is in
            let number : IsTrue (is_number_of ty c.0.0) = (All-at (λ (case : ℕ × ℕ). IsTrue (is_number_of ty case.0) × (case.1 < length body.blocks)) cases k c.0 f.formed.2 c.1).0 in
            (subst (λ (y : ℕ × ℕ). IsTrue (is_number_of ty y.0)) c.2 number, goes (suc k) x.1 (get_map (λ (y : ℕ × ℕ). y.1) (map (λ (case : ℕ × ℕ). (case.0, rank w.reached case.1)) cases) k x is)))),
      );
      typed = (f.typed.0, fits.typed, numbers_moved (rank w.reached) cases f.typed.2);
    }
    by (Some n) goes = record { formed = goes 0 _ refl; typed = tt }
term_by items params returns known body a term.Unreachable h f s g = record { formed = tt; typed = tt }

pub typed_block : (items : List Item) (params : List Scalar) (returns : Option Scalar) (known : List Known) (body : Body) (a : Assigned) (at : ℕ) (block : Block) → Held items params returns known body a → slice_get body.blocks at ≡ Some block
    → TypedBlock (types_of items params body) returns body.blocks at block
typed_block items params returns known body a at block h here = subst (λ (o : Option Block). IfSome o (TypedBlock (types_of items params body) returns body.blocks at)) here (h.typed.each at)

pub term_fits : (items : List Item) (params : List Scalar) (returns : Option Scalar) (known : List Known) (body : Body) (a : Assigned) (at : ℕ) (block : Block) → Held items params returns known body a → slice_get body.blocks at ≡ Some block
    → is_chosen (reached a body.blocks) at ≡ true → TermFits items params returns (left_body known body a) (left_term (leaving known body.blocks a) block.term)
term_fits items params returns known body a at block h here set =
    let stays = block_stays items params returns known body a at block h here (chosen_reached a body.blocks at set) in
    term_by items params returns known body a block.term h
    (record { formed = (formed_block items params returns known body a at block h here).term; typed = (typed_block items params returns known body a at block h here).term }) stays.term
    (λ j to is.
    let gone = gone_to items params returns known body a at block j to h here set is in
    subst (λ n. n < length (left_of known body a)) gone.stands (place_within known body a gone.to gone.set))
