-- Instructions, as they are left, are formed and typed.
use Rattle.std.proofs.Common.{◌≡◌, ◌∙◌, ℕ, zero, suc, false, List, [], ◌∷◌, Option, None, Some, length, map, take, refl, ap, sym, subst, arith}
use Rattle.std.specs.Prelude.{IsTrue, IsSome, IfSome}
use Rattle.std.proofs.lemmas.Bool.{false≢true}
use Rattle.std.proofs.lemmas.List.{length-map}
use Rattle.ir_types.specs.declared.scalar.Scalar.{Scalar}
use Rattle.ir_types.specs.declared.scalar.Scalar.TheVariants.{I1, Ptr}
use Rattle.ir_types.specs.declared.scalar.FnType.{FnType}
use Rattle.ir_types.specs.declared.scalar.Known.{Known}
use Rattle.ir_types.specs.declared.scalar.Known.TheVariants.{Unknown, Num, Null}
use Rattle.ir_types.specs.declared.shape.Ty.{Ty, out-Ty}
use Rattle.ir_types.specs.declared.shape.Ty.TheOpen.{Ty-F}
use Rattle.ir_syntax.specs.declared.constant.Const.TheVariants.{outs-Int, outs-Null}
use Rattle.ir_syntax.specs.declared.constant.Operand.{Operand}
use Rattle.ir_syntax.specs.declared.constant.Operand.TheVariants as operand
use Rattle.ir_syntax.specs.declared.body.Arg.{Arg}
use Rattle.ir_syntax.specs.declared.body.Inst.{Inst}
use Rattle.ir_syntax.specs.declared.body.Inst.TheVariants.{Bin, Icmp, Select, Cast, Alloca, Load, Store, Gep, Call}
use Rattle.ir_syntax.specs.declared.body.Body.{Body}
use Rattle.ir_syntax.specs.declared.item.Item.{Item}
use Rattle.ir_syntax.specs.Callees.{written_callee, place_in}
use Rattle.interface.specs.Masks.{rank}
use Rattle.ir_syntax.specs.FormedBody.{IsOperand, IsIndex, FormedInst, FormedCall, EndsInFalse, names_intrinsic, is_intrinsic_address, places_of}
use Rattle.ir_syntax.specs.Mapped.{map_arg, map_operands}
use Rattle.ir_syntax.specs.Operands.{operands}
use Rattle.ir_syntax.specs.Typed.{HasType, TypedInst, TypedCall, CalleeSuits, field_at, number_of, EntersIn, Enters, IsWalk}
use Rattle.fold_facts.specs.Assigned.{Assigned}
use Rattle.interface.specs.Summaries.{known_of}
use Rattle.specialise.specs.Leaving.{Leaving, leaving}
use Rattle.specialise.specs.Residual.{value_or, left_operand}
use Rattle.residual_laws.proofs.Every.{Every, every_of_all, all_of_every, map_every}
use Rattle.residual_laws.proofs.Held.{Held}
use Rattle.residual_laws.proofs.Operands.{types_of, left_body, left_fits}
use Rattle.residual_laws.proofs.Staying.{OperandStays}

-- An instruction is formed and typed.
pub record InstFits (items : List Item) (params : List Scalar) (body : Body) (inst : Inst) : Type 0 where
  pub formed : FormedInst (places_of items (length params) body) inst
  pub typed : TypedInst (types_of items params body) inst

-- ---- indices

moved_index : Leaving → Scalar × Operand → Scalar × Operand
moved_index w index = (index.0, left_operand w index.1)

-- a field is named by a constant, which stays
enters_field : (w : Leaving) (fields : List Ty) (o : Operand) → IsSome (field_at fields (number_of o)) → number_of (left_operand w o) ≡ number_of o
enters_field w fields (operand.Param k) some = absurd (false≢true some)
enters_field w fields (operand.Reg k) some = absurd (false≢true some)
enters_field w fields (operand.Const c) some = refl

if_some : {T : Type 0} (o : Option T) (P Q : T → Type 0) → ((x : T) → P x → Q x) → IfSome o P → IfSome o Q
if_some None P Q f h = tt
if_some (Some x) P Q f h = f x h

enters_in : (w : Leaving) (shape : Ty-F Ty) (ty : Scalar) (o : Operand) (P Q : Ty → Type 0) → ((part : Ty) → P part → Q part) → EntersIn shape (ty, o) P → EntersIn shape (ty, left_operand w o) Q
enters_in w (Ty-F.One scalar) ty o P Q f h = absurd h
enters_in w (Ty-F.Array count element) ty o P Q f h = f element h
enters_in w (Ty-F.Struct fields) ty o P Q f h =
    let same : number_of o ≡ number_of (left_operand w o) = sym (enters_field w fields o h.1) in
    (h.0, subst (λ n. IsSome (field_at fields n)) same h.1, subst (λ n. IfSome (field_at fields n) Q) same (if_some (field_at fields (number_of o)) P Q f h.2))

enters_moved : (w : Leaving) (ty : Ty) (indices : List (Scalar × Operand)) → Enters ty indices → Enters ty (map (λ index. (index.0, left_operand w index.1)) indices)
enters_moved w ty [] h = tt
enters_moved w ty (index ∷ more) h =
    enters_in w (out-Ty ty) index.0 index.1 (λ part. Enters part more) (λ part. Enters part (map (λ (i : Scalar × Operand). (i.0, left_operand w i.1)) more)) (λ part g. enters_moved w part more g) h

walk_moved : (w : Leaving) (ty : Ty) (indices : List (Scalar × Operand)) → IsWalk ty indices → IsWalk ty (map (λ index. (index.0, left_operand w index.1)) indices)
walk_moved w ty [] h = tt
walk_moved w ty (first ∷ more) h = enters_moved w ty more h

indices_fit : (items : List Item) (params : List Scalar) (returns : Option Scalar) (known : List Known) (body : Body) (a : Assigned) (indices : List (Scalar × Operand)) → Held items params returns known body a
    → Every (IsIndex (places_of items (length params) body)) indices → Every (λ (index : Scalar × Operand). HasType (types_of items params body) index.0 index.1) indices → Every (λ (index : Scalar × Operand). OperandStays body.blocks a index.1) indices
    → Every (IsIndex (places_of items (length params) (left_body known body a))) (map (λ (index : Scalar × Operand). (index.0, left_operand (leaving known body.blocks a) index.1)) indices)
    × Every (λ (index : Scalar × Operand). HasType (types_of items params (left_body known body a)) index.0 index.1) (map (λ (index : Scalar × Operand). (index.0, left_operand (leaving known body.blocks a) index.1)) indices)
indices_fit items params returns known body a [] h formed typed stays = (tt, tt)
indices_fit items params returns known body a (index ∷ more) h formed typed stays =
    let rest = indices_fit items params returns known body a more h formed.1 typed.1 stays.1 in
    let one = left_fits items params returns known body a index.0 index.1 h (record { formed = formed.0.1; typed = typed.0 }) stays.0 in
    (((formed.0.0, one.formed), rest.0), (one.typed, rest.1))

-- ---- calls

args_fit : (items : List Item) (params : List Scalar) (returns : Option Scalar) (known : List Known) (body : Body) (a : Assigned) (args : List Arg) → Held items params returns known body a
    → Every (λ arg. IsOperand (places_of items (length params) body) arg.ty arg.value) args → Every (λ arg. HasType (types_of items params body) arg.ty arg.value) args → Every (λ arg. OperandStays body.blocks a arg.value) args
    → Every (λ arg. IsOperand (places_of items (length params) (left_body known body a)) arg.ty arg.value) (map (map_arg (left_operand (leaving known body.blocks a))) args)
    × Every (λ arg. HasType (types_of items params (left_body known body a)) arg.ty arg.value) (map (map_arg (left_operand (leaving known body.blocks a))) args)
args_fit items params returns known body a [] h formed typed stays = (tt, tt)
args_fit items params returns known body a (arg ∷ more) h formed typed stays =
    let rest = args_fit items params returns known body a more h formed.1 typed.1 stays.1 in
    let one = left_fits items params returns known body a arg.ty arg.value h (record { formed = formed.0; typed = typed.0 }) stays.0 in
    ((one.formed, rest.0), (one.typed, rest.1))

ends_moved : (w : Leaving) (args : List Arg) → EndsInFalse args → EndsInFalse (map (map_arg (left_operand w)) args)
ends_moved w [] h = absurd h
ends_moved w (arg ∷ []) h = (h.0, ap (left_operand w) h.1)
ends_moved w (arg ∷ next ∷ more) h = ends_moved w (next ∷ more) h

fixed_moved : (f : Operand → Operand) (n : ℕ) (args : List Arg) → map (λ arg. arg.ty) (take n (map (map_arg f) args)) ≡ map (λ arg. arg.ty) (take n args)
fixed_moved f zero args = refl
fixed_moved f (suc n) [] = refl
fixed_moved f (suc n) (arg ∷ more) = ap (λ l. arg.ty ∷ l) (fixed_moved f n more)

-- A value that is known isn't a written name.
value_written : (other : Operand) (v : Known) → written_callee other ≡ None → written_callee (value_or other v) ≡ None
value_written other Unknown h = h
value_written other (Num n) h = ap place_in (outs-Int n)
value_written other Null h = ap place_in outs-Null

value_names : (items : List Item) (other : Operand) (v : Known) → names_intrinsic items other ≡ false → names_intrinsic items (value_or other v) ≡ false
value_names items other Unknown h = h
value_names items other (Num n) h = ap (is_intrinsic_address items) (outs-Int n)
value_names items other Null h = ap (is_intrinsic_address items) outs-Null

-- The callee is formed, and suits; it names an intrinsic only where it did.
record CalleeFits (items : List Item) (params : List Scalar) (body : Body) (fn_ty : FnType) (before callee : Operand) : Type 0 where
  formed : IsOperand (places_of items (length params) body) Ptr callee
  typed : CalleeSuits (types_of items params body) fn_ty callee (written_callee callee)
  names : IsTrue (names_intrinsic items callee) → IsTrue (names_intrinsic items before)

callee_fits : (items : List Item) (params : List Scalar) (returns : Option Scalar) (known : List Known) (body : Body) (a : Assigned) (fn_ty : FnType) (callee : Operand) → Held items params returns known body a
    → IsOperand (places_of items (length params) body) Ptr callee → CalleeSuits (types_of items params body) fn_ty callee (written_callee callee) → OperandStays body.blocks a callee
    → CalleeFits items params (left_body known body a) fn_ty callee (left_operand (leaving known body.blocks a) callee)
callee_fits items params returns known body a fn_ty (operand.Param k) h formed typed stays =
    let w = leaving known body.blocks a in
    let v = known_of w.setting w.facts (operand.Param k) in
    let one = left_fits items params returns known body a Ptr (operand.Param k) h (record { formed = formed; typed = typed }) stays in
    record {
      formed = one.formed;
      typed = subst (λ o. CalleeSuits (types_of items params (left_body known body a)) fn_ty (left_operand w (operand.Param k)) o) (sym (value_written (operand.Param k) v refl)) one.typed;
      names = λ t. absurd (false≢true (sym (value_names items (operand.Param k) v refl) ∙ t));
    }
callee_fits items params returns known body a fn_ty (operand.Reg k) h formed typed stays =
    let w = leaving known body.blocks a in
    let v = known_of w.setting w.facts (operand.Reg k) in
    let one = left_fits items params returns known body a Ptr (operand.Reg k) h (record { formed = formed; typed = typed }) stays in
    record {
      formed = one.formed;
      typed = subst (λ o. CalleeSuits (types_of items params (left_body known body a)) fn_ty (left_operand w (operand.Reg k)) o) (sym (value_written (operand.Reg (rank w.kept k)) v refl)) one.typed;
      names = λ t. absurd (false≢true (sym (value_names items (operand.Reg (rank w.kept k)) v refl) ∙ t));
    }
callee_fits items params returns known body a fn_ty (operand.Const c) h formed typed stays = record { formed = formed; typed = suits (written_callee (operand.Const c)) typed; names = λ t. t }
  where
    suits : (o : Option ℕ) → CalleeSuits (types_of items params body) fn_ty (operand.Const c) o → CalleeSuits (types_of items params (left_body known body a)) fn_ty (operand.Const c) o
    suits None g = g
    suits (Some place) g = g

call_fits : (items : List Item) (params : List Scalar) (returns : Option Scalar) (known : List Known) (body : Body) (a : Assigned) (fn_ty : FnType) (callee : Operand) (args : List Arg) → Held items params returns known body a
    → FormedCall (places_of items (length params) body) fn_ty callee args → TypedCall (types_of items params body) fn_ty callee args → OperandStays body.blocks a callee → Every (λ arg. OperandStays body.blocks a arg.value) args
    → FormedCall (places_of items (length params) (left_body known body a)) fn_ty (left_operand (leaving known body.blocks a) callee) (map (map_arg (left_operand (leaving known body.blocks a))) args)
    × TypedCall (types_of items params (left_body known body a)) fn_ty (left_operand (leaving known body.blocks a) callee) (map (map_arg (left_operand (leaving known body.blocks a))) args)
call_fits items params returns known body a fn_ty callee args h formed typed one all =
    let w = leaving known body.blocks a in
    let long : length (map (map_arg (left_operand w)) args) ≡ length args = length-map args (map_arg (left_operand w)) in
    let c = callee_fits items params returns known body a fn_ty callee h formed.has_callee typed.has_callee one in
    let rest = args_fit items params returns known body a args h (every_of_all (λ arg. IsOperand (places_of items (length params) body) arg.ty arg.value) args formed.has_args) (every_of_all (λ arg. HasType (types_of items params body) arg.ty arg.value) args typed.has_args) all in (
      record {
        few_params = formed.few_params;
        few_args = omega (arith, long, formed.few_args);
        has_callee = c.formed;
        has_args = all_of_every (λ arg. IsOperand (places_of items (length params) (left_body known body a)) arg.ty arg.value) (map (map_arg (left_operand w)) args) rest.0;
        not_volatile = λ t. ends_moved w args (formed.not_volatile (c.names t));
      },
      record {
        fixed = fixed_moved (left_operand w) (length fn_ty.params) args ∙ typed.fixed;
        no_more = λ e. long ∙ typed.no_more e;
        has_args = all_of_every (λ arg. HasType (types_of items params (left_body known body a)) arg.ty arg.value) (map (map_arg (left_operand w)) args) rest.1;
        has_callee = c.typed;
      },
    )

-- ---- instructions

pub inst_fits : (items : List Item) (params : List Scalar) (returns : Option Scalar) (known : List Known) (body : Body) (a : Assigned) (inst : Inst) → Held items params returns known body a → InstFits items params body inst
    → Every (OperandStays body.blocks a) (operands inst) → InstFits items params (left_body known body a) (map_operands (left_operand (leaving known body.blocks a)) inst)
inst_fits items params returns known body a (Bin op flags ty x y) h f s =
    let one = left_fits items params returns known body a ty x h (record { formed = f.formed.1; typed = f.typed.1 }) s.0 in
    let other = left_fits items params returns known body a ty y h (record { formed = f.formed.2; typed = f.typed.2 }) s.1.0 in
    record { formed = (f.formed.0, one.formed, other.formed); typed = (f.typed.0, one.typed, other.typed) }
inst_fits items params returns known body a (Icmp pred ty x y) h f s =
    let one = left_fits items params returns known body a ty x h (record { formed = f.formed.0; typed = f.typed.0 }) s.0 in
    let other = left_fits items params returns known body a ty y h (record { formed = f.formed.1; typed = f.typed.1 }) s.1.0 in
    record { formed = (one.formed, other.formed); typed = (one.typed, other.typed) }
inst_fits items params returns known body a (Select ty c x y) h f s =
    let flag = left_fits items params returns known body a I1 c h (record { formed = f.formed.0; typed = f.typed.0 }) s.0 in
    let one = left_fits items params returns known body a ty x h (record { formed = f.formed.1; typed = f.typed.1 }) s.1.0 in
    let other = left_fits items params returns known body a ty y h (record { formed = f.formed.2; typed = f.typed.2 }) s.1.1.0 in
    record { formed = (flag.formed, one.formed, other.formed); typed = (flag.typed, one.typed, other.typed) }
inst_fits items params returns known body a (Cast op nneg from to x) h f s =
    let one = left_fits items params returns known body a from x h (record { formed = f.formed.1; typed = f.typed.3 }) s.0 in
    record { formed = (f.formed.0, one.formed); typed = (f.typed.0, f.typed.1, f.typed.2, one.typed) }
inst_fits items params returns known body a (Alloca ty count align) h f s = record { formed = f.formed; typed = f.typed }
inst_fits items params returns known body a (Load ty at align) h f s =
    let one = left_fits items params returns known body a Ptr at h (record { formed = f.formed.0; typed = f.typed }) s.0 in
    record { formed = (one.formed, f.formed.1); typed = one.typed }
inst_fits items params returns known body a (Store ty value at align) h f s =
    let one = left_fits items params returns known body a ty value h (record { formed = f.formed.0; typed = f.typed.0 }) s.0 in
    let other = left_fits items params returns known body a Ptr at h (record { formed = f.formed.1; typed = f.typed.1 }) s.1.0 in
    record { formed = (one.formed, other.formed, f.formed.2); typed = (one.typed, other.typed) }
inst_fits items params returns known body a (Gep inbounds ty base indices) h f s =
    let w = leaving known body.blocks a in
    let one = left_fits items params returns known body a Ptr base h (record { formed = f.formed.1; typed = f.typed.1 }) s.0 in
    let rest = indices_fit items params returns known body a indices h (every_of_all (IsIndex (places_of items (length params) body)) indices f.formed.2) (every_of_all (λ index. HasType (types_of items params body) index.0 index.1) indices f.typed.2)
    (map_every (OperandStays body.blocks a) (λ (index : Scalar × Operand). index.1) indices s.1) in
    record {
      formed = (f.formed.0, one.formed, all_of_every (IsIndex (places_of items (length params) (left_body known body a))) (map (λ (index : Scalar × Operand). (index.0, left_operand w index.1)) indices) rest.0);
      typed = (f.typed.0, one.typed, all_of_every (λ (index : Scalar × Operand). HasType (types_of items params (left_body known body a)) index.0 index.1) (map (λ (index : Scalar × Operand). (index.0, left_operand w index.1)) indices) rest.1, walk_moved w ty indices f.typed.3);
    }
inst_fits items params returns known body a (Call fn_ty ret_ext callee args) h f s =
    let both = call_fits items params returns known body a fn_ty callee args h f.formed f.typed s.0 (map_every (OperandStays body.blocks a) (λ (arg : Arg). arg.value) args s.1) in
    record { formed = both.0; typed = both.1 }
