-- What is formed and typed is so with its operands mapped.
use Rattle.std.proofs.Common.{◌≡◌, ◌∙◌, ℕ, ◌<◌, List, [], ◌∷◌, Option, None, Some, All, length, map, get_or, refl, ap, sym, subst, arith}
use Rattle.std.specs.Prelude.{◌==◌, IsTrue, IsSome, IfSome, AllPairs, count_by}
use Rattle.std.proofs.lemmas.List.{length-map}
use Rattle.std.proofs.lemmas.Option.{get_or_from_slice_get}
use Rattle.ir_types.specs.declared.scalar.Scalar.{Scalar}
use Rattle.ir_types.specs.declared.scalar.Scalar.TheVariants.{I1, Ptr}
use Rattle.ir_types.specs.declared.shape.Ty.{Ty, out-Ty}
use Rattle.ir_types.specs.declared.shape.Ty.TheOpen.{Ty-F}
use Rattle.ir_types.specs.Scalars.{is_number_of}
use Rattle.ir_syntax.specs.declared.constant.Operand.{Operand}
use Rattle.ir_syntax.specs.declared.body.Inst.{Inst}
use Rattle.ir_syntax.specs.declared.body.Inst.TheVariants.{Bin, Icmp, Select, Cast, Alloca, Load, Store, Gep, Call}
use Rattle.ir_syntax.specs.declared.body.Phi.{Phi}
use Rattle.ir_syntax.specs.declared.body.Term.{Term}
use Rattle.ir_syntax.specs.declared.body.Term.TheVariants as term
use Rattle.ir_syntax.specs.declared.body.Block.{Block}
use Rattle.ir_syntax.specs.Edges.{edges}
use Rattle.ir_syntax.specs.FormedBody.{Places, IsOperand, IsIndex, FormedInst, FormedPhi, FormedTerm}
use Rattle.ir_syntax.specs.Mapped.{map_operands, map_phi, map_term}
use Rattle.ir_syntax.specs.Typed.{Types, HasType, TypedInst, TypedPhi, TypedTerm, field_at, number_of, EntersIn, Enters, IsWalk}
use Rattle.fold_facts.proofs.Lists.{there, get_map}
use Rattle.residual_laws.specs.Mapping.{Keeps, IsNoCall}
use Rattle.residual_laws.proofs.Entries.{count_cons}
use Rattle.residual_laws.proofs.Every.{Every, every_of_all, all_of_every, every_to}

-- ---- walks

if_some : {T : Type 0} (o : Option T) (P Q : T → Type 0) → ((x : T) → P x → Q x) → IfSome o P → IfSome o Q
if_some None P Q f h = tt
if_some (Some x) P Q f h = f x h

enters_in : (shape : Ty-F Ty) (ty : Scalar) (o p : Operand) (P Q : Ty → Type 0) → number_of p ≡ number_of o → ((part : Ty) → P part → Q part) → EntersIn shape (ty, o) P → EntersIn shape (ty, p) Q
enters_in (Ty-F.One scalar) ty o p P Q same f h = absurd h
enters_in (Ty-F.Array count element) ty o p P Q same f h = f element h
enters_in (Ty-F.Struct fields) ty o p P Q same f h =
    (h.0, subst (λ n. IsSome (field_at fields n)) (sym same) h.1, subst (λ n. IfSome (field_at fields n) Q) (sym same) (if_some (field_at fields (number_of o)) P Q f h.2))

enters_mapped : (f : Operand → Operand) (ty : Ty) (indices : List (Scalar × Operand)) → ((o : Operand) → number_of (f o) ≡ number_of o) → Enters ty indices → Enters ty (map (λ (index : Scalar × Operand). (index.0, f index.1)) indices)
enters_mapped f ty [] same h = tt
enters_mapped f ty (index ∷ more) same h =
    enters_in (out-Ty ty) index.0 index.1 (f index.1) (λ part. Enters part more) (λ part. Enters part (map (λ (i : Scalar × Operand). (i.0, f i.1)) more)) (same index.1) (λ part g. enters_mapped f part more same g) h

walk_mapped : (f : Operand → Operand) (ty : Ty) (indices : List (Scalar × Operand)) → ((o : Operand) → number_of (f o) ≡ number_of o) → IsWalk ty indices → IsWalk ty (map (λ (index : Scalar × Operand). (index.0, f index.1)) indices)
walk_mapped f ty [] same h = tt
walk_mapped f ty (first ∷ more) same h = enters_mapped f ty more same h

indices_mapped : (places : Places) (types : Types) (later : Places) (typed : Types) (f : Operand → Operand) (indices : List (Scalar × Operand)) → Keeps places types later typed f → Every (IsIndex places) indices
    → Every (λ (index : Scalar × Operand). HasType types index.0 index.1) indices
    → Every (IsIndex later) (map (λ (index : Scalar × Operand). (index.0, f index.1)) indices) × Every (λ (index : Scalar × Operand). HasType typed index.0 index.1) (map (λ (index : Scalar × Operand). (index.0, f index.1)) indices)
indices_mapped places types later typed f [] k h g = (tt, tt)
indices_mapped places types later typed f (index ∷ more) k h g =
    let rest = indices_mapped places types later typed f more k h.1 g.1 in
    let one = k.operands index.0 index.1 h.0.1 g.0 in
    (((h.0.0, one.0), rest.0), (one.1, rest.1))

-- ---- instructions

pub inst_mapped : (places : Places) (types : Types) (later : Places) (typed : Types) (f : Operand → Operand) (inst : Inst) → Keeps places types later typed f → IsNoCall inst → FormedInst places inst → TypedInst types inst
    → FormedInst later (map_operands f inst) × TypedInst typed (map_operands f inst)
inst_mapped places types later typed f (Bin op flags ty x y) k no_call h g =
    let one = k.operands ty x h.1 g.1 in
    let other = k.operands ty y h.2 g.2 in
    ((h.0, one.0, other.0), (g.0, one.1, other.1))
inst_mapped places types later typed f (Icmp pred ty x y) k no_call h g =
    let one = k.operands ty x h.0 g.0 in
    let other = k.operands ty y h.1 g.1 in
    ((one.0, other.0), (one.1, other.1))
inst_mapped places types later typed f (Select ty c x y) k no_call h g =
    let flag = k.operands I1 c h.0 g.0 in
    let one = k.operands ty x h.1 g.1 in
    let other = k.operands ty y h.2 g.2 in
    ((flag.0, one.0, other.0), (flag.1, one.1, other.1))
inst_mapped places types later typed f (Cast op nneg from to x) k no_call h g =
    let one = k.operands from x h.1 g.3 in
    ((h.0, one.0), (g.0, g.1, g.2, one.1))
inst_mapped places types later typed f (Alloca ty count align) k no_call h g = (h, g)
inst_mapped places types later typed f (Load ty at align) k no_call h g =
    let one = k.operands Ptr at h.0 g in
    ((one.0, h.1), one.1)
inst_mapped places types later typed f (Store ty value at align) k no_call h g =
    let one = k.operands ty value h.0 g.0 in
    let other = k.operands Ptr at h.1 g.1 in
    ((one.0, other.0, h.2), (one.1, other.1))
inst_mapped places types later typed f (Gep inbounds ty base indices) k no_call h g =
    let one = k.operands Ptr base h.1 g.1 in
    let rest = indices_mapped places types later typed f indices k (every_of_all (IsIndex places) indices h.2) (every_of_all (λ (index : Scalar × Operand). HasType types index.0 index.1) indices g.2) in (
      (h.0, one.0, all_of_every (IsIndex later) (map (λ (index : Scalar × Operand). (index.0, f index.1)) indices) rest.0),
      (g.0, one.1, all_of_every (λ (index : Scalar × Operand). HasType typed index.0 index.1) (map (λ (index : Scalar × Operand). (index.0, f index.1)) indices) rest.1, walk_mapped f ty indices k.numbers g.3),
    )
inst_mapped places types later typed f (Call fn_ty ret_ext callee args) k no_call h g = absurd no_call

-- ---- terminators

pub term_mapped : (places : Places) (types : Types) (later : Places) (typed : Types) (f : Operand → Operand) (returns : Option Scalar) (t : Term) → Keeps places types later typed f → FormedTerm places t → TypedTerm types returns t
    → FormedTerm later (map_term f t) × TypedTerm typed returns (map_term f t)
term_mapped places types later typed f returns term.RetVoid k h g = (tt, g)
term_mapped places types later typed f returns (term.Ret ty value) k h g = let one = k.operands ty value h g.1 in (one.0, (g.0, one.1))
term_mapped places types later typed f returns (term.Br to) k h g = (subst (λ n. to < n) (sym k.blocks) h, tt)
term_mapped places types later typed f returns (term.CondBr o one other) k h g =
    let flag = k.operands I1 o h.0 g in
    ((flag.0, subst (λ n. one < n) (sym k.blocks) h.1, subst (λ n. other < n) (sym k.blocks) h.2), flag.1)
term_mapped places types later typed f returns (term.Switch ty o default cases) k h g =
    let one = k.operands ty o h.0 g.1 in
    ((one.0, subst (λ n. default < n) (sym k.blocks) h.1, subst (λ n. All (λ (case : ℕ × ℕ). IsTrue (is_number_of ty case.0) × (case.1 < n)) cases) (sym k.blocks) h.2), (g.0, one.1, g.2))
term_mapped places types later typed f returns term.Unreachable k h g = (tt, tt)

-- ---- phis

entries_mapped : (places : Places) (types : Types) (later : Places) (typed : Types) (f : Operand → Operand) (ty : Scalar) (entries : List (Operand × ℕ)) → Keeps places types later typed f
    → Every (λ (entry : Operand × ℕ). IsOperand places ty entry.0) entries → Every (λ (entry : Operand × ℕ). HasType types ty entry.0) entries → Every (λ (entry : Operand × ℕ). entry.1 < places.blocks) entries
    → Every (λ (entry : Operand × ℕ). (IsOperand later ty entry.0 × HasType typed ty entry.0) × (entry.1 < later.blocks)) (map (λ (entry : Operand × ℕ). (f entry.0, entry.1)) entries)
entries_mapped places types later typed f ty [] k h g b = tt
entries_mapped places types later typed f ty (entry ∷ more) k h g b = ((k.operands ty entry.0 h.0 g.0, subst (λ n. entry.1 < n) (sym k.blocks) b.0), entries_mapped places types later typed f ty more k h.1 g.1 b.1)

count_mapped : (f : Operand → Operand) (entries : List (Operand × ℕ)) (from : ℕ) → count_by (λ (entry : Operand × ℕ). entry.1 == from) (map {B = Operand × ℕ} (λ (entry : Operand × ℕ). (f entry.0, entry.1)) entries) ≡ count_by (λ (entry : Operand × ℕ). entry.1 == from) entries
count_mapped f [] from = refl
count_mapped f (entry ∷ more) from =
    let one = count_cons (λ (e : Operand × ℕ). e.1 == from) (f entry.0, entry.1) (map (λ (e : Operand × ℕ). (f e.0, e.1)) more) in
    let other = count_cons (λ (e : Operand × ℕ). e.1 == from) entry more in
    omega (arith, one, other, count_mapped f more from)

pairs_mapped : (f : Operand → Operand) (entries : List (Operand × ℕ)) → AllPairs (λ (x y : Operand × ℕ). x.1 ≡ y.1 → x.0 ≡ y.0) entries → AllPairs (λ (x y : Operand × ℕ). x.1 ≡ y.1 → x.0 ≡ y.0) (map (λ (entry : Operand × ℕ). (f entry.0, entry.1)) entries)
pairs_mapped f entries agree i j d less within same =
    let long : length (map {B = Operand × ℕ} (λ (entry : Operand × ℕ). (f entry.0, entry.1)) entries) ≡ length entries = length-map entries (λ (entry : Operand × ℕ). (f entry.0, entry.1)) in
    let short : j < length entries = omega (arith, within, long) in
    let one = there entries i (omega (arith, less, short)) in
    let other = there entries j short in
    let at_one : get_or (map (λ (entry : Operand × ℕ). (f entry.0, entry.1)) entries) i d ≡ (f one.0.0, one.0.1) =
    get_or_from_slice_get (map (λ (entry : Operand × ℕ). (f entry.0, entry.1)) entries) i (f one.0.0, one.0.1) d (get_map (λ (entry : Operand × ℕ). (f entry.0, entry.1)) entries i one.0 one.1) in
    let at_other : get_or (map (λ (entry : Operand × ℕ). (f entry.0, entry.1)) entries) j d ≡ (f other.0.0, other.0.1) =
    get_or_from_slice_get (map (λ (entry : Operand × ℕ). (f entry.0, entry.1)) entries) j (f other.0.0, other.0.1) d (get_map (λ (entry : Operand × ℕ). (f entry.0, entry.1)) entries j other.0 other.1) in
    let was_one : get_or entries i d ≡ one.0 = get_or_from_slice_get entries i one.0 d one.1 in
    let was_other : get_or entries j d ≡ other.0 = get_or_from_slice_get entries j other.0 d other.1 in
    let blocks : (get_or entries i d).1 ≡ (get_or entries j d).1 =
    ap (λ (x : Operand × ℕ). x.1) was_one ∙ sym (ap (λ (x : Operand × ℕ). x.1) at_one) ∙ same ∙ ap (λ (x : Operand × ℕ). x.1) at_other ∙ sym (ap (λ (x : Operand × ℕ). x.1) was_other) in
    let equal : one.0.0 ≡ other.0.0 = sym (ap (λ (x : Operand × ℕ). x.0) was_one) ∙ agree i j d less short blocks ∙ ap (λ (x : Operand × ℕ). x.0) was_other in
    ap (λ (x : Operand × ℕ). x.0) at_one ∙ ap f equal ∙ sym (ap (λ (x : Operand × ℕ). x.0) at_other)

pub phi_mapped : (places : Places) (types : Types) (later : Places) (typed : Types) (f : Operand → Operand) (blocks others : List Block) (place : ℕ) (phi : Phi) → Keeps places types later typed f
    → ((from : ℕ) → edges others from place ≡ edges blocks from place) → FormedPhi places phi → TypedPhi types blocks place phi → FormedPhi later (map_phi f phi) × TypedPhi typed others place (map_phi f phi)
phi_mapped places types later typed f blocks others place phi k same h g =
    let moved = map (λ (entry : Operand × ℕ). (f entry.0, entry.1)) phi.entries in
    let all = entries_mapped places types later typed f phi.ty phi.entries k (every_of_all (λ (entry : Operand × ℕ). IsOperand places phi.ty entry.0) phi.entries h.has_operands)
    (every_of_all (λ (entry : Operand × ℕ). HasType types phi.ty entry.0) phi.entries g.has_types) (every_of_all (λ (entry : Operand × ℕ). entry.1 < places.blocks) phi.entries h.has_blocks) in
    let long : length moved ≡ length phi.entries = length-map phi.entries (λ (entry : Operand × ℕ). (f entry.0, entry.1)) in (
      record {
        has_entry = omega (arith, long, h.has_entry);
        has_operands = all_of_every (λ (entry : Operand × ℕ). IsOperand later phi.ty entry.0) moved
            (every_to (λ (entry : Operand × ℕ). (IsOperand later phi.ty entry.0 × HasType typed phi.ty entry.0) × (entry.1 < later.blocks)) (λ (entry : Operand × ℕ). IsOperand later phi.ty entry.0) moved (λ x e. e.0.0) all);
        has_blocks = all_of_every (λ (entry : Operand × ℕ). entry.1 < later.blocks) moved
            (every_to (λ (entry : Operand × ℕ). (IsOperand later phi.ty entry.0 × HasType typed phi.ty entry.0) × (entry.1 < later.blocks)) (λ (entry : Operand × ℕ). entry.1 < later.blocks) moved (λ x e. e.1) all);
      },
      record {
        edges = λ from. count_mapped f phi.entries from ∙ g.edges from ∙ sym (same from);
        agree = pairs_mapped f phi.entries g.agree;
        has_types = all_of_every (λ (entry : Operand × ℕ). HasType typed phi.ty entry.0) moved
            (every_to (λ (entry : Operand × ℕ). (IsOperand later phi.ty entry.0 × HasType typed phi.ty entry.0) × (entry.1 < later.blocks)) (λ (entry : Operand × ℕ). HasType typed phi.ty entry.0) moved (λ x e. e.0.1) all);
      },
    )
