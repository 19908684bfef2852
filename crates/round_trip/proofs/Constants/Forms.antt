-- What is kept of each form of constant, and which are in range.
use Rattle.std.proofs.Common.{◌≡◌, ◌∙◌, ℕ, ℤ, Bool, List, map, ap, sym}
use Rattle.std.specs.List.{list_all}
use Rattle.ir_types.specs.declared.shape.Ty.{Ty, out-Ty}
use Rattle.ir_syntax.specs.declared.constant.Const.{Const}
use Rattle.ir_syntax.specs.declared.constant.Const.TheOpen.{Const-F}
use Rattle.ir_syntax.specs.declared.constant.Const.TheBlock.{Int, Null, Addr, Undef, Poison, Zero, Text}
use Rattle.ir_syntax.specs.declared.constant.Const.TheViews.{Many}
use Rattle.ir_syntax.specs.declared.constant.Const.TheVariants.{rolls-Int, rolls-Null, rolls-Addr, rolls-Undef, rolls-Poison, rolls-Zero, rolls-Text, rolls-Many}
use Rattle.ir_syntax.specs.declared.constant.Const.TheFolds.{fold-roll-Const}
use Rattle.ir_writer.specs.Ranges.{is_offset, is_constant_in_range, constant_in_range}
use Rattle.round_trip.proofs.Grammar.Kept.{Lexemes, number_kept, address_kept, many_kept, constant_kept, constant_kept_step}

module _ (names : List (List ℕ)) where
  pub constant_kept-Int : (n : ℕ) (ty : Ty) → constant_kept names (Int n) ty ≡ number_kept (out-Ty ty) n
  unfolding constant_kept
  constant_kept-Int n ty = ap (λ c. constant_kept names c ty) (sym (rolls-Int n)) ∙ ap (λ f. f ty) (fold-roll-Const (Ty → Lexemes) (constant_kept_step names) (Const-F.Int n))

  pub constant_kept-Null : (ty : Ty) → constant_kept names Null ty ≡ constant_kept_step names Const-F.Null ty
  unfolding constant_kept
  constant_kept-Null ty = ap (λ c. constant_kept names c ty) (sym rolls-Null) ∙ ap (λ f. f ty) (fold-roll-Const (Ty → Lexemes) (constant_kept_step names) Const-F.Null)

  pub constant_kept-Addr : (place : ℕ) (offset : ℤ) (ty : Ty) → constant_kept names (Addr place offset) ty ≡ address_kept names place offset
  unfolding constant_kept
  constant_kept-Addr place offset ty = ap (λ c. constant_kept names c ty) (sym (rolls-Addr place offset)) ∙ ap (λ f. f ty) (fold-roll-Const (Ty → Lexemes) (constant_kept_step names) (Const-F.Addr place offset))

  pub constant_kept-Undef : (ty : Ty) → constant_kept names Undef ty ≡ constant_kept_step names Const-F.Undef ty
  unfolding constant_kept
  constant_kept-Undef ty = ap (λ c. constant_kept names c ty) (sym rolls-Undef) ∙ ap (λ f. f ty) (fold-roll-Const (Ty → Lexemes) (constant_kept_step names) Const-F.Undef)

  pub constant_kept-Poison : (ty : Ty) → constant_kept names Poison ty ≡ constant_kept_step names Const-F.Poison ty
  unfolding constant_kept
  constant_kept-Poison ty = ap (λ c. constant_kept names c ty) (sym rolls-Poison) ∙ ap (λ f. f ty) (fold-roll-Const (Ty → Lexemes) (constant_kept_step names) Const-F.Poison)

  pub constant_kept-Zero : (ty : Ty) → constant_kept names Zero ty ≡ constant_kept_step names Const-F.Zero ty
  unfolding constant_kept
  constant_kept-Zero ty = ap (λ c. constant_kept names c ty) (sym rolls-Zero) ∙ ap (λ f. f ty) (fold-roll-Const (Ty → Lexemes) (constant_kept_step names) Const-F.Zero)

  pub constant_kept-Text : (bytes : List ℕ) (ty : Ty) → constant_kept names (Text bytes) ty ≡ constant_kept_step names (Const-F.Text bytes) ty
  unfolding constant_kept
  constant_kept-Text bytes ty = ap (λ c. constant_kept names c ty) (sym (rolls-Text bytes)) ∙ ap (λ f. f ty) (fold-roll-Const (Ty → Lexemes) (constant_kept_step names) (Const-F.Text bytes))

  pub constant_kept-Many : (parts : List Const) (ty : Ty) → constant_kept names (Many parts) ty ≡ many_kept (out-Ty ty) (map (constant_kept names) parts)
  unfolding constant_kept
  constant_kept-Many parts ty = ap (λ c. constant_kept names c ty) (sym (rolls-Many parts)) ∙ ap (λ f. f ty) (fold-roll-Const (Ty → Lexemes) (constant_kept_step names) (Const-F.Many parts))

pub in_range-Addr : (place : ℕ) (offset : ℤ) → is_constant_in_range (Addr place offset) ≡ is_offset offset
unfolding is_constant_in_range
in_range-Addr place offset = ap is_constant_in_range (sym (rolls-Addr place offset)) ∙ fold-roll-Const Bool constant_in_range (Const-F.Addr place offset)

pub in_range-Text : (bytes : List ℕ) → is_constant_in_range (Text bytes) ≡ constant_in_range (Const-F.Text bytes)
unfolding is_constant_in_range
in_range-Text bytes = ap is_constant_in_range (sym (rolls-Text bytes)) ∙ fold-roll-Const Bool constant_in_range (Const-F.Text bytes)

pub in_range-Many : (parts : List Const) → is_constant_in_range (Many parts) ≡ list_all (λ b. b) (map is_constant_in_range parts)
unfolding is_constant_in_range
in_range-Many parts = ap is_constant_in_range (sym (rolls-Many parts)) ∙ fold-roll-Const Bool constant_in_range (Const-F.Many parts)
