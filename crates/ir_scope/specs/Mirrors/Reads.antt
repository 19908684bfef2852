-- What stands behind the sign that begins an array or a struct.
use Rattle.std.specs.Prelude.{ℕ, suc, zero, ◌^◌, nat_lt, List, [], ◌∷◌, Option, None, option_map, if◌then◌else◌}
use Rattle.ir_types.specs.declared.shape.Ty.{Ty}
use Rattle.ir_types.specs.declared.shape.Ty.TheViews.{Array, Struct}
use Rattle.ir_grammar.specs.declared.shape.Shape.TheVariants as is
use Rattle.ir_grammar.specs.Numbers.{number_of}
use Rattle.ir_grammar.specs.Tokens.{Kept}
use Rattle.ir_scope.specs.Runs.{Reading, behind, runs, closed_by}
use Rattle.ir_scope.specs.Types.{type_at, fitting, is_close_brace, begins_field}

-- n and the type of the elements
abbrev pub array_at : (List ℕ → Option Ty) → ℕ → Reading Ty
array_at look zero ks = None
array_at look (suc depth) ((is.Int digits, count) ∷ ks) =
    if nat_lt (number_of count) (2 ^ 64) then fitting (behind 2 (option_map (λ f. (Array (number_of count) f.0, f.1)) (type_at look depth ks))) else None
array_at look (suc depth) ks = None

-- a struct of these fields, where a brace closes them
abbrev pub struct_of : List Kept → Option (List Ty × ℕ) → Option (Ty × ℕ)
struct_of ks fields = fitting (behind 1 (option_map (λ f. (Struct f.0, f.1)) (closed_by is_close_brace ks fields)))

abbrev pub struct_at : (List ℕ → Option Ty) → ℕ → Reading Ty
struct_at look zero ks = None
struct_at look (suc depth) ks = struct_of ks (runs begins_field (type_at look depth) ks)
