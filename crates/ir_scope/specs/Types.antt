-- Types as they are written, names put in.
use Rattle.std.specs.Prelude.{ℕ, suc, zero, ◌+◌, Bool, true, false, not, ◌&&◌, ◌^◌, nat_le, nat_lt, nat_eq, List, [], ◌∷◌, drop, Option, Some, None, option_map, option_and_then, if◌then◌else◌}
use Rattle.ir_lexer.specs.Texts.{name_of}
use Rattle.ir_types.specs.declared.shape.Ty.{Ty, out-Ty}
use Rattle.ir_types.specs.declared.shape.Ty.TheBlock.{One}
use Rattle.ir_types.specs.declared.shape.Ty.TheViews.{Array, Struct}
use Rattle.ir_types.specs.declared.shape.Ty.TheOpen.{Ty-F}
use Rattle.ir_types.specs.declared.shape.Ty.TheFolds.{fold-Ty}
use Rattle.ir_types.specs.Nesting.{nesting, nodes}
use Rattle.ir_types.specs.Names.{is_name}
use Rattle.ir_syntax.specs.Suits.{each_takes}
use Rattle.ir_grammar.specs.declared.shape.Shape.{Shape}
use Rattle.ir_grammar.specs.declared.shape.Shape.TheVariants as is
use Rattle.ir_types.specs.Scalars.{same}
use Rattle.ir_grammar.specs.Numbers.{number_of}
use Rattle.ir_grammar.specs.Tokens.{Kept}
use Rattle.ir_scope.specs.Runs.{Reading, behind, runs, closed_by}

-- A written type nests at most 64 deep and has at most 4,096 nodes.
abbrev pub fits : Ty → Bool
fits ty = nat_le (nesting ty) 64 && nat_le (nodes ty) 4096

abbrev pub fitting : Option (Ty × ℕ) → Option (Ty × ℕ)
fitting found = option_and_then (λ f. if fits f.0 then Some f else None) found

abbrev pub is_close_brace : Shape → Bool
is_close_brace is.CloseBrace = true
is_close_brace _ = false

abbrev pub begins_field : Shape → Bool
begins_field shape = not (is_close_brace shape)

-- what a use of a name stands for: nothing, where the name breaks the limits on names
abbrev pub type_named : (List ℕ → Option Ty) → List ℕ → Option Ty
type_named look name = if is_name name then look name else None

-- A scalar; a name, as what it stands for; [ n x T ] with n below 2^64; { T, T }. So many of the last two may be open.
abbrev pub type_at : (List ℕ → Option Ty) → ℕ → Reading Ty
type_at look depth [] = None
type_at look depth ((is.Scalar s, text) ∷ ks) = Some (One s, 1)
type_at look depth ((is.Local, text) ∷ ks) = fitting (option_map (λ ty. (ty, 1)) (type_named look (name_of (drop 1 text))))
type_at look (suc depth) ((is.OpenSquare, text) ∷ (is.Int digits, count) ∷ ks) =
    if nat_lt (number_of count) (2 ^ 64) then fitting (behind 2 (option_map (λ f. (Array (number_of count) f.0, f.1)) (type_at look depth ks))) else None
type_at look (suc depth) ((is.OpenBrace, text) ∷ ks) =
    fitting (behind 1 (option_map (λ f. (Struct f.0, f.1)) (closed_by is_close_brace ks (runs begins_field (type_at look depth) ks))))
type_at look depth (k ∷ ks) = None

-- the type that is written at the front
abbrev pub written_type : (List ℕ → Option Ty) → Reading Ty
written_type look ks = type_at look 64 ks

-- ---- whether two types are one

abbrev pub same_shape : Ty-F (Ty → Bool) → Ty-F Ty → Bool
same_shape (Ty-F.One s) (Ty-F.One t) = same s t
same_shape (Ty-F.Array n element) (Ty-F.Array m other) = nat_eq n m && element other
same_shape (Ty-F.Struct fields) (Ty-F.Struct others) = each_takes fields others
same_shape _ _ = false

unfoldable pub same_type : Ty → Ty → Bool
same_type = fold-Ty (Ty → Bool) (λ shape ty. same_shape shape (out-Ty ty))
