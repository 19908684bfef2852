-- The names of a function: its parameters, its registers and its blocks share one set.
use Rattle.std.specs.Prelude.{ℕ, suc, ◌-◌, Bool, true, false, ◌&&◌, not, ◌==◌, nat_lt, nat_le, bytes_eq, List, [], ◌∷◌, ◌++◌, length, map, drop, take, Option, Some, None, if◌then◌else◌}
use Rattle.std.specs.List.{list_all, filter}
use Rattle.std.specs.Fmt.{decimal}
use Rattle.ir_lexer.specs.Spelled.{is_decimal}
use Rattle.ir_lexer.specs.Texts.{name_of}
use Rattle.ir_grammar.specs.declared.shape.Shape.{Shape}
use Rattle.ir_grammar.specs.declared.shape.Shape.TheVariants as is
use Rattle.ir_grammar.specs.Tokens.{Kept}
use Rattle.ir_syntax.specs.declared.constant.Operand.{Operand}
use Rattle.ir_syntax.specs.declared.constant.Operand.TheVariants as operand
use Rattle.name_table.specs.Places.{are_distinct}
pub use Rattle.ir_types.specs.Names.{is_name}
use Rattle.ir_locals.specs.declared.local.Local.{Local as LocalValue}
use Rattle.ir_locals.specs.declared.local.Local.TheVariants.{Param, Reg, Block}

-- what a name of a function stands for
abbrev pub Local : Type 0
Local = LocalValue

-- the name of %name, and of name:
abbrev pub local_name : List ℕ → List ℕ
local_name text = name_of (drop 1 text)

abbrev pub label_name : List ℕ → List ℕ
label_name text = name_of (take (length text - 1) text)

-- A lexeme that stands once in each phi and each instruction that has a result, and nowhere else.
abbrev pub has_result : Shape → Bool
has_result (is.Bin op) = true
has_result (is.Cast op) = true
has_result is.Icmp = true
has_result is.Select = true
has_result is.Phi = true
has_result is.Alloca = true
has_result is.Load = true
has_result is.Gep = true
has_result (is.Returned ty) = true
has_result _ = false

abbrev pub result_name : Shape → List ℕ → Option (List ℕ) → Option (List ℕ)
result_name is.Result text pending = Some (local_name text)
result_name _ text pending = pending

-- the results in order, each with its name or none; one name may be waiting for its result
abbrev pub results_from : Option (List ℕ) → List Kept → List (Option (List ℕ))
results_from pending [] = []
results_from pending (k ∷ ks) = if has_result k.0 then pending ∷ results_from None ks else results_from (result_name k.0 k.1 pending) ks

abbrev pub result_names : List Kept → List (Option (List ℕ))
result_names ks = results_from None ks

abbrev pub is_label : Shape → Bool
is_label is.Label = true
is_label _ = false

abbrev pub label_names : List Kept → List (List ℕ)
label_names ks = map (λ k. label_name k.1) (filter (λ k. is_label k.0) ks)

-- how many names are decimal
abbrev pub decimals : List (List ℕ) → ℕ
decimals names = length (filter is_decimal names)

abbrev pub begins_labelled : List Kept → Bool
begins_labelled [] = false
begins_labelled (k ∷ ks) = is_label k.0

-- The names of the blocks: a first block without label has the count of the parameters with decimal names.
abbrev pub block_names : List (List ℕ) → List Kept → List (List ℕ)
block_names params ks = if begins_labelled ks then label_names ks else decimal (decimals params) ∷ label_names ks

-- each name with what it stands for, by its place from a number on
abbrev pub numbered : (ℕ → Local) → ℕ → List (List ℕ) → List (List ℕ × Local)
numbered stands k [] = []
numbered stands k (name ∷ names) = (name, stands k) ∷ numbered stands (suc k) names

abbrev pub named : ℕ → List (Option (List ℕ)) → List (List ℕ × Local)
named k [] = []
named k (None ∷ names) = named (suc k) names
named k (Some name ∷ names) = (name, Reg k) ∷ named (suc k) names

-- all names of a function, over what is kept of its blocks
abbrev pub locals_of : List (List ℕ) → List Kept → List (List ℕ × Local)
locals_of params ks = numbered Param 0 params ++ (named 0 (result_names ks) ++ numbered Block 0 (block_names params ks))

-- Names have 1 to 4,096 bytes and are distinct.
abbrev pub are_locals : List (List ℕ × Local) → Bool
are_locals locals = list_all (λ l. is_name l.0) locals && are_distinct (map (λ l. l.0) locals)

abbrev pub local_among : List (List ℕ × Local) → List ℕ → Option Local
local_among [] name = None
local_among (l ∷ ls) name = if bytes_eq name l.0 then Some l.1 else local_among ls name

-- a parameter or a register as an operand
abbrev pub operand_in : Option Local → Option Operand
operand_in None = None
operand_in (Some (Param place)) = Some (operand.Param place)
operand_in (Some (Reg number)) = Some (operand.Reg number)
operand_in (Some (Block place)) = None

-- the place of a block
abbrev pub block_in : Option Local → Option ℕ
block_in None = None
block_in (Some (Param place)) = None
block_in (Some (Reg number)) = None
block_in (Some (Block place)) = Some place
