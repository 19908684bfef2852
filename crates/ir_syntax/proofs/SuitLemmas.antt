-- Which types take each form of constant.
use Rattle.std.proofs.Common.{◌≡◌, ℕ, ℤ, Bool, true, ◌&&◌, nat_lt, List, length, map, ap, sym, ◌∙◌}
use Rattle.ir_types.specs.declared.shape.Ty.{Ty, out-Ty}
use Rattle.ir_syntax.specs.declared.constant.Const.{Const}
use Rattle.ir_syntax.specs.declared.constant.Const.TheOpen.{Const-F}
use Rattle.ir_syntax.specs.declared.constant.Const.TheBlock.{Int, Null, Addr, Undef, Poison, Zero, Text}
use Rattle.ir_syntax.specs.declared.constant.Const.TheViews.{Many}
use Rattle.ir_syntax.specs.declared.constant.Const.TheVariants.{rolls-Int, rolls-Null, rolls-Addr, rolls-Undef, rolls-Poison, rolls-Zero, rolls-Text, rolls-Many}
use Rattle.ir_syntax.specs.declared.constant.Const.TheFolds.{fold-roll-Const}
use Rattle.ir_syntax.specs.Suits.{suits, suits_step, takes_number, takes_address, takes_zero, takes_text, takes_parts}

pub suits-Int : (items n : ℕ) (ty : Ty) → suits items (Int n) ty ≡ takes_number (out-Ty ty) n
unfolding suits
suits-Int items n ty = ap (λ c. suits items c ty) (sym (rolls-Int n)) ∙ ap (λ f. f ty) (fold-roll-Const (Ty → Bool) (suits_step items) (Const-F.Int n))

pub suits-Null : (items : ℕ) (ty : Ty) → suits items Null ty ≡ takes_address (out-Ty ty)
unfolding suits
suits-Null items ty = ap (λ c. suits items c ty) (sym rolls-Null) ∙ ap (λ f. f ty) (fold-roll-Const (Ty → Bool) (suits_step items) Const-F.Null)

pub suits-Addr : (items at : ℕ) (offset : ℤ) (ty : Ty) → suits items (Addr at offset) ty ≡ takes_address (out-Ty ty) && nat_lt at items
unfolding suits
suits-Addr items at offset ty = ap (λ c. suits items c ty) (sym (rolls-Addr at offset)) ∙ ap (λ f. f ty) (fold-roll-Const (Ty → Bool) (suits_step items) (Const-F.Addr at offset))

pub suits-Undef : (items : ℕ) (ty : Ty) → suits items Undef ty ≡ true
unfolding suits
suits-Undef items ty = ap (λ c. suits items c ty) (sym rolls-Undef) ∙ ap (λ f. f ty) (fold-roll-Const (Ty → Bool) (suits_step items) Const-F.Undef)

pub suits-Poison : (items : ℕ) (ty : Ty) → suits items Poison ty ≡ true
unfolding suits
suits-Poison items ty = ap (λ c. suits items c ty) (sym rolls-Poison) ∙ ap (λ f. f ty) (fold-roll-Const (Ty → Bool) (suits_step items) Const-F.Poison)

pub suits-Zero : (items : ℕ) (ty : Ty) → suits items Zero ty ≡ takes_zero (out-Ty ty)
unfolding suits
suits-Zero items ty = ap (λ c. suits items c ty) (sym rolls-Zero) ∙ ap (λ f. f ty) (fold-roll-Const (Ty → Bool) (suits_step items) Const-F.Zero)

pub suits-Text : (items : ℕ) (bytes : List ℕ) (ty : Ty) → suits items (Text bytes) ty ≡ takes_text (out-Ty ty) (length bytes)
unfolding suits
suits-Text items bytes ty = ap (λ c. suits items c ty) (sym (rolls-Text bytes)) ∙ ap (λ f. f ty) (fold-roll-Const (Ty → Bool) (suits_step items) (Const-F.Text bytes))

pub suits-Many : (items : ℕ) (parts : List Const) (ty : Ty) → suits items (Many parts) ty ≡ takes_parts (out-Ty ty) (map (suits items) parts)
unfolding suits
suits-Many items parts ty = ap (λ c. suits items c ty) (sym (rolls-Many parts)) ∙ ap (λ f. f ty) (fold-roll-Const (Ty → Bool) (suits_step items) (Const-F.Many parts))
