-- What each form of constant lays down.
use Rattle.std.proofs.Common.{◌≡◌, ℕ, ◌+◌, ◌-◌, ℤ, List, ◌∷◌, ◌++◌, map, replicate, ap, sym, ◌∙◌}
use Rattle.ir_types.specs.declared.shape.Ty.{Ty, out-Ty}
use Rattle.ir_types.specs.Layout.{Extent, extent, size, round_up}
use Rattle.ir_syntax.specs.declared.constant.Const.{Const}
use Rattle.ir_syntax.specs.declared.constant.Const.TheOpen.{Const-F}
use Rattle.ir_syntax.specs.declared.constant.Const.TheBlock as of
use Rattle.ir_syntax.specs.declared.constant.Const.TheViews.{Many}
use Rattle.ir_syntax.specs.declared.constant.Const.TheVariants.{rolls-Int, rolls-Null, rolls-Addr, rolls-Undef, rolls-Poison, rolls-Zero, rolls-Text, rolls-Many}
use Rattle.ir_syntax.specs.declared.constant.Const.TheFolds.{fold-roll-Const}
use Rattle.ir_syntax.specs.InitialBytes.{InitialPart, Poison, Num, Of, little_endian, address_bytes, zeros, fields_from, parts_in, initial_step, initial_parts}

pub initial-Int : (n : ℕ) (ty : Ty) → initial_parts (of.Int n) ty ≡ map Num (little_endian (size ty) n)
unfolding initial_parts
initial-Int n ty = ap (λ c. initial_parts c ty) (sym (rolls-Int n)) ∙ ap (λ f. f ty) (fold-roll-Const (Ty → List InitialPart) initial_step (Const-F.Int n))

pub initial-Null : (ty : Ty) → initial_parts of.Null ty ≡ zeros (size ty)
unfolding initial_parts
initial-Null ty = ap (λ c. initial_parts c ty) (sym rolls-Null) ∙ ap (λ f. f ty) (fold-roll-Const (Ty → List InitialPart) initial_step Const-F.Null)

pub initial-Addr : (item : ℕ) (offset : ℤ) (ty : Ty) → initial_parts (of.Addr item offset) ty ≡ map (Of item offset) address_bytes
unfolding initial_parts
initial-Addr item offset ty = ap (λ c. initial_parts c ty) (sym (rolls-Addr item offset)) ∙ ap (λ f. f ty) (fold-roll-Const (Ty → List InitialPart) initial_step (Const-F.Addr item offset))

pub initial-Undef : (ty : Ty) → initial_parts of.Undef ty ≡ replicate (size ty) Poison
unfolding initial_parts
initial-Undef ty = ap (λ c. initial_parts c ty) (sym rolls-Undef) ∙ ap (λ f. f ty) (fold-roll-Const (Ty → List InitialPart) initial_step Const-F.Undef)

pub initial-Poison : (ty : Ty) → initial_parts of.Poison ty ≡ replicate (size ty) Poison
unfolding initial_parts
initial-Poison ty = ap (λ c. initial_parts c ty) (sym rolls-Poison) ∙ ap (λ f. f ty) (fold-roll-Const (Ty → List InitialPart) initial_step Const-F.Poison)

pub initial-Zero : (ty : Ty) → initial_parts of.Zero ty ≡ zeros (size ty)
unfolding initial_parts
initial-Zero ty = ap (λ c. initial_parts c ty) (sym rolls-Zero) ∙ ap (λ f. f ty) (fold-roll-Const (Ty → List InitialPart) initial_step Const-F.Zero)

pub initial-Text : (bytes : List ℕ) (ty : Ty) → initial_parts (of.Text bytes) ty ≡ map Num bytes
unfolding initial_parts
initial-Text bytes ty = ap (λ c. initial_parts c ty) (sym (rolls-Text bytes)) ∙ ap (λ f. f ty) (fold-roll-Const (Ty → List InitialPart) initial_step (Const-F.Text bytes))

pub initial-Many : (parts : List Const) (ty : Ty) → initial_parts (Many parts) ty ≡ parts_in ty (out-Ty ty) (map initial_parts parts)
unfolding initial_parts
initial-Many parts ty = ap (λ c. initial_parts c ty) (sym (rolls-Many parts)) ∙ ap (λ f. f ty) (fold-roll-Const (Ty → List InitialPart) initial_step (Const-F.Many parts))

-- a field of a struct, from its extent and its bytes
pub fields_from-cons :
    (at end : ℕ) (part : Ty → List InitialPart) (parts : List (Ty → List InitialPart)) (field : Ty) (fields : List Ty) (e : Extent) (bytes : List InitialPart) →
    extent field ≡ e →
    part field ≡ bytes →
    fields_from at end (part ∷ parts) (field ∷ fields) ≡ zeros (round_up at e.align - at) ++ (bytes ++ fields_from (round_up at e.align + e.size) end parts fields)
fields_from-cons at end part parts field fields e bytes has gives =
    ap (λ x. zeros (round_up at x.align - at) ++ (part field ++ fields_from (round_up at x.align + x.size) end parts fields)) has
    ∙ ap (λ laid. zeros (round_up at e.align - at) ++ (laid ++ fields_from (round_up at e.align + e.size) end parts fields)) gives
