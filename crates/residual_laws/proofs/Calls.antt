-- Calls with their operands mapped, with all arguments or with some of them, are formed and typed.
use Rattle.std.proofs.Common.{◌≡◌, ◌∙◌, ℕ, zero, suc, Bool, true, false, List, [], ◌∷◌, length, map, take, refl, ap, sym, arith}
use Rattle.std.specs.Prelude.{IsTrue}
use Rattle.std.proofs.lemmas.Bool.{false≢true}
use Rattle.std.proofs.lemmas.List.{length-map}
use Rattle.ir_types.specs.declared.scalar.Scalar.TheVariants.{Ptr}
use Rattle.ir_types.specs.declared.scalar.FnType.{FnType}
use Rattle.ir_syntax.specs.declared.constant.Const.TheBlock.{Int}
use Rattle.ir_syntax.specs.declared.constant.Operand.{Operand}
use Rattle.ir_syntax.specs.declared.constant.Operand.TheVariants as operand
use Rattle.ir_syntax.specs.declared.body.Arg.{Arg}
use Rattle.ir_syntax.specs.Callees.{written_callee}
use Rattle.ir_syntax.specs.FormedBody.{Places, IsOperand, FormedCall, EndsInFalse, names_intrinsic}
use Rattle.ir_syntax.specs.Mapped.{map_arg}
use Rattle.ir_syntax.specs.Typed.{Types, HasType, TypedCall, CalleeSuits}
use Rattle.interface.specs.Masks.{chosen, rank}
use Rattle.interface.proofs.Chosen.{chosen_count}
use Rattle.residual_laws.specs.Mapping.{Keeps}
use Rattle.residual_laws.proofs.Every.{Every, every_of_all, all_of_every}
use Rattle.residual_laws.proofs.Formed.{rank_within}

-- ---- arguments

args_mapped : (places : Places) (types : Types) (later : Places) (typed : Types) (f : Operand → Operand) (args : List Arg) → Keeps places types later typed f → Every (λ arg. IsOperand places arg.ty arg.value) args → Every (λ arg. HasType types arg.ty arg.value) args
    → Every (λ arg. IsOperand later arg.ty arg.value) (map (map_arg f) args) × Every (λ arg. HasType typed arg.ty arg.value) (map (map_arg f) args)
args_mapped places types later typed f [] k h g = (tt, tt)
args_mapped places types later typed f (arg ∷ more) k h g =
    let rest = args_mapped places types later typed f more k h.1 g.1 in
    let one = k.operands arg.ty arg.value h.0 g.0 in
    ((one.0, rest.0), (one.1, rest.1))

ends_mapped : (f : Operand → Operand) (args : List Arg) → f (operand.Const (Int 0)) ≡ operand.Const (Int 0) → EndsInFalse args → EndsInFalse (map (map_arg f) args)
ends_mapped f [] same h = absurd h
ends_mapped f (arg ∷ []) same h = (h.0, ap f h.1 ∙ same)
ends_mapped f (arg ∷ next ∷ more) same h = ends_mapped f (next ∷ more) same h

fixed_mapped : (f : Operand → Operand) (n : ℕ) (args : List Arg) → map (λ arg. arg.ty) (take n (map (map_arg f) args)) ≡ map (λ arg. arg.ty) (take n args)
fixed_mapped f zero args = refl
fixed_mapped f (suc n) [] = refl
fixed_mapped f (suc n) (arg ∷ more) = ap (λ l. arg.ty ∷ l) (fixed_mapped f n more)

pub all_mapped : (places later : Places) (types typed : Types) (f : Operand → Operand) (fn_ty : FnType) (callee other : Operand) (args : List Arg) → Keeps places types later typed f → f (operand.Const (Int 0)) ≡ operand.Const (Int 0)
    → IsOperand later Ptr other → CalleeSuits typed fn_ty other (written_callee other) → (IsTrue (names_intrinsic later.items other) → IsTrue (names_intrinsic places.items callee)) → FormedCall places fn_ty callee args
    → TypedCall types fn_ty callee args → FormedCall later fn_ty other (map (map_arg f) args) × TypedCall typed fn_ty other (map (map_arg f) args)
all_mapped places later types typed f fn_ty callee other args k same formed suits names h g =
    let long : length (map (map_arg f) args) ≡ length args = length-map args (map_arg f) in
    let rest = args_mapped places types later typed f args k (every_of_all (λ arg. IsOperand places arg.ty arg.value) args h.has_args) (every_of_all (λ arg. HasType types arg.ty arg.value) args g.has_args) in (
      record {
        few_params = h.few_params;
        few_args = omega (arith, long, h.few_args);
        has_callee = formed;
        has_args = all_of_every (λ arg. IsOperand later arg.ty arg.value) (map (map_arg f) args) rest.0;
        not_volatile = λ t. ends_mapped f args same (h.not_volatile (names t));
      },
      record {
        fixed = fixed_mapped f (length fn_ty.params) args ∙ g.fixed;
        no_more = λ e. long ∙ g.no_more e;
        has_args = all_of_every (λ arg. HasType typed arg.ty arg.value) (map (map_arg f) args) rest.1;
        has_callee = suits;
      },
    )

-- ---- some arguments

every_chosen : {X : Type 0} (P : X → Type 0) (mask : List Bool) (xs : List X) → Every P xs → Every P (chosen mask xs)
every_chosen P [] xs h = tt
every_chosen P (flag ∷ mask) [] h = tt
every_chosen P (true ∷ mask) (x ∷ xs) h = (h.0, every_chosen P mask xs h.1)
every_chosen P (false ∷ mask) (x ∷ xs) h = every_chosen P mask xs h.1

chosen_types : (mask : List Bool) (args : List Arg) → map (λ arg. arg.ty) (chosen mask args) ≡ chosen mask (map (λ arg. arg.ty) args)
chosen_types [] args = refl
chosen_types (flag ∷ mask) [] = refl
chosen_types (true ∷ mask) (arg ∷ more) = ap (λ l. arg.ty ∷ l) (chosen_types mask more)
chosen_types (false ∷ mask) (arg ∷ more) = chosen_types mask more

take_all : {X : Type 0} (xs : List X) (n : ℕ) → length xs ≡ n → take n xs ≡ xs
take_all [] zero e = refl
take_all [] (suc n) e = refl
take_all (x ∷ xs) zero e = absurd (omega (arith, e))
take_all (x ∷ xs) (suc n) e = ap (λ l. x ∷ l) (take_all xs n (omega (arith, e)))

pub some_mapped : (places later : Places) (types typed : Types) (f : Operand → Operand) (fn_ty : FnType) (callee other : Operand) (args : List Arg) (mask : List Bool) → Keeps places types later typed f → fn_ty.variadic ≡ false
    → IsOperand later Ptr other → CalleeSuits typed (record fn_ty { params = chosen mask fn_ty.params }) other (written_callee other) → names_intrinsic later.items other ≡ false → FormedCall places fn_ty callee args
    → TypedCall types fn_ty callee args
    → FormedCall later (record fn_ty { params = chosen mask fn_ty.params }) other (map (map_arg f) (chosen mask args)) × TypedCall typed (record fn_ty { params = chosen mask fn_ty.params }) other (map (map_arg f) (chosen mask args))
some_mapped places later types typed f fn_ty callee other args mask k fixed formed suits no_intrinsic h g =
    let moved = map (map_arg f) (chosen mask args) in
    let long : length moved ≡ length (chosen mask args) = length-map (chosen mask args) (map_arg f) in
    let same : length args ≡ length fn_ty.params = g.no_more fixed in
    let tys : map (λ arg. arg.ty) args ≡ fn_ty.params = sym (ap (map (λ arg. arg.ty)) (take_all args (length fn_ty.params) same)) ∙ g.fixed in
    let all : map (λ arg. arg.ty) (chosen mask args) ≡ chosen mask fn_ty.params = chosen_types mask args ∙ ap (chosen mask) tys in
    let params_count : length (chosen mask fn_ty.params) ≡ rank mask (length fn_ty.params) = chosen_count mask fn_ty.params in
    let args_count : length (chosen mask args) ≡ rank mask (length args) = chosen_count mask args in
    let counts : length (chosen mask args) ≡ length (chosen mask fn_ty.params) = args_count ∙ ap (rank mask) same ∙ sym params_count in
    let rest = args_mapped places types later typed f (chosen mask args) k (every_chosen (λ arg. IsOperand places arg.ty arg.value) mask args (every_of_all (λ arg. IsOperand places arg.ty arg.value) args h.has_args))
    (every_chosen (λ arg. HasType types arg.ty arg.value) mask args (every_of_all (λ arg. HasType types arg.ty arg.value) args g.has_args)) in (
      record {
        few_params = omega (arith, params_count, rank_within mask (length fn_ty.params), h.few_params);
        few_args = omega (arith, long, args_count, rank_within mask (length args), h.few_args);
        has_callee = formed;
        has_args = all_of_every (λ arg. IsOperand later arg.ty arg.value) moved rest.0;
        not_volatile = λ t. absurd (false≢true (sym no_intrinsic ∙ t));
      },
      record {
        fixed = fixed_mapped f (length (chosen mask fn_ty.params)) (chosen mask args) ∙ ap (map (λ arg. arg.ty)) (take_all (chosen mask args) (length (chosen mask fn_ty.params)) counts) ∙ all;
        no_more = λ e. long ∙ counts;
        has_args = all_of_every (λ arg. HasType typed arg.ty arg.value) moved rest.1;
        has_callee = suits;
      },
    )
