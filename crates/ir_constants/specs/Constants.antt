-- Constants as they are written, at their types.
use Rattle.std.specs.Prelude.{ℕ, suc, zero, pos, ◌+◌, ◌^◌, ◌%◌, Bool, true, false, not, ◌&&◌, nat_eq, List, [], ◌∷◌, length, drop, Option, Some, None, option_map, option_and_then, if◌then◌else◌}
use Rattle.ir_lexer.specs.Texts.{name_of, inside, unescaped}
use Rattle.ir_types.specs.declared.scalar.Scalar.{Scalar}
use Rattle.ir_types.specs.declared.scalar.Scalar.TheVariants.{I64}
use Rattle.ir_types.specs.declared.shape.Ty.{Ty, out-Ty}
use Rattle.ir_types.specs.declared.shape.Ty.TheOpen.{Ty-F}
use Rattle.ir_types.specs.Scalars.{signed_value}
use Rattle.ir_types.specs.Names.{is_name}
use Rattle.ir_syntax.specs.declared.constant.Const.{Const}
use Rattle.ir_syntax.specs.declared.constant.Const.TheBlock as const
use Rattle.ir_syntax.specs.declared.constant.Const.TheViews.{Many}
use Rattle.ir_syntax.specs.Suits.{is_byte, is_pointer}
use Rattle.name_table.specs.Places.{place_among}
use Rattle.ir_grammar.specs.declared.shape.Shape.{Shape}
use Rattle.ir_grammar.specs.declared.shape.Shape.TheVariants as is
use Rattle.ir_grammar.specs.declared.shape.Free.TheVariants as free
use Rattle.ir_grammar.specs.declared.shape.Flag.TheVariants as flag
use Rattle.ir_grammar.specs.declared.shape.Value.TheVariants as val
use Rattle.ir_grammar.specs.Tokens.{Kept}
use Rattle.ir_scope.specs.Runs.{Reading, behind, runs, closed_by}
use Rattle.ir_scope.specs.Integers.{number}
use Rattle.ir_scope.specs.Scopes.{Env}
use Rattle.ir_scope.specs.Types.{written_type, is_close_brace, same_type}
use Rattle.ir_constants.specs.Offsets.{Indexed, offset_of}

abbrev pub is_close_paren : Shape → Bool
is_close_paren is.CloseParen = true
is_close_paren _ = false

abbrev pub is_close_square : Shape → Bool
is_close_square is.CloseSquare = true
is_close_square _ = false

-- ---- symbols

-- The place of the symbol that a use of a name stands for. A name that breaks the limits on names stands for nothing.
abbrev pub symbol_at : List (List ℕ) → List ℕ → Option ℕ
symbol_at symbols name = if is_name name then place_among name symbols else None

-- ---- addresses

-- a symbol's place, and an offset modulo 2^64
abbrev pub Place : Type 0
Place = ℕ × ℕ

-- iN n
abbrev pub index_at : Reading Indexed
index_at ((is.Scalar s, text) ∷ k ∷ ks) = option_map (λ n. ((s, n), 2)) (number s k)
index_at _ = None

-- without the flag inbounds
abbrev pub unflagged : List Kept → List Kept × ℕ
unflagged ((is.Free (free.Flag flag.Inbounds), text) ∷ ks) = (ks, 1)
unflagged ks = (ks, 0)

-- the indices from a base on, with the closing parenthesis
abbrev pub moved : Ty → List Kept → Place × ℕ → Option (Place × ℕ)
moved ty ks base =
    let rest = drop base.1 ks in
    option_and_then (λ f. option_map (λ n. ((base.0.0, (base.0.1 + n) % 2 ^ 64), base.1 + f.1)) (offset_of ty f.0))
    (closed_by is_close_paren rest (runs (λ shape. not (is_close_paren shape)) index_at rest))

-- @name, or an address again
abbrev pub base_at : List (List ℕ) → Reading Place → Reading Place
base_at symbols address ((is.At kind, text) ∷ ks) = option_map (λ place. ((place, 0), 1)) (symbol_at symbols (name_of (drop 1 text)))
base_at symbols address ((is.Address, text) ∷ ks) = behind 1 (address ks)
base_at symbols address _ = None

-- behind the word: [inbounds] T base indices; so many addresses may be open
abbrev pub address_at : Env → ℕ → Reading Place
address_at env zero ks = None
address_at env (suc depth) ks =
    let rest = unflagged ks in
    behind rest.1 (option_and_then (λ t. behind t.1 (option_and_then (moved t.0 (drop t.1 rest.0)) (base_at env.symbols (address_at env depth) (drop t.1 rest.0)))) (written_type env.types rest.0))

-- ---- constants of one lexeme

abbrev pub zero_of : Scalar → Const
zero_of ty = if is_pointer ty then const.Null else const.Int 0

abbrev pub scalar_of : Env → Scalar → Kept → Option Const
scalar_of env ty (is.Value val.Null, text) = if is_pointer ty then Some const.Null else None
scalar_of env ty (is.Value val.Zero, text) = Some (zero_of ty)
scalar_of env ty (is.At kind, text) = if is_pointer ty then option_map (λ place. const.Addr place (pos 0)) (symbol_at env.symbols (name_of (drop 1 text))) else None
scalar_of env ty k = option_map (λ n. const.Int n) (number ty k)

-- the bytes of c"text"
abbrev pub text_bytes : List ℕ → List ℕ
text_bytes text = unescaped (inside (drop 1 text))

abbrev pub array_of : ℕ → Ty → Kept → Option Const
array_of count element (is.Value val.Zero, text) = Some const.Zero
array_of count element (is.CStr, text) = if is_byte (out-Ty element) && nat_eq (length (text_bytes text)) count then Some (const.Text (text_bytes text)) else None
array_of count element _ = None

abbrev pub struct_of : Kept → Option Const
struct_of (is.Value val.Zero, text) = Some const.Zero
struct_of _ = None

-- a constant that one lexeme spells, at a type
abbrev pub single : Env → Ty-F Ty → Kept → Option Const
single env ty (is.Value val.Undef, text) = Some const.Undef
single env ty (is.Value val.Poison, text) = Some const.Poison
single env (Ty-F.One s) k = scalar_of env s k
single env (Ty-F.Array count element) k = array_of count element k
single env (Ty-F.Struct fields) k = struct_of k

-- ---- parts

abbrev pub is_pointer_type : Ty-F Ty → Bool
is_pointer_type (Ty-F.One s) = is_pointer s
is_pointer_type (Ty-F.Array count element) = false
is_pointer_type (Ty-F.Struct fields) = false

-- T C, where T is this type
abbrev pub part_at : Env → (Ty → Reading Const) → Ty → Reading Const
part_at env constant ty ks = option_and_then (λ t. if same_type ty t.0 then behind t.1 (constant ty (drop t.1 ks)) else None) (written_type env.types ks)

-- one part for each type
abbrev pub parts_at : Env → (Ty → Reading Const) → List Ty → Reading (List Const)
parts_at env constant [] ks = Some ([], 0)
parts_at env constant (ty ∷ tys) ks = option_and_then (λ f. option_map (λ rest. (f.0 ∷ rest.0, f.1 + rest.1)) (parts_at env constant tys (drop f.1 ks))) (part_at env constant ty ks)

-- just so many parts
abbrev pub counted : ℕ → Option (List Const × ℕ) → Option (Const × ℕ)
counted count found = option_and_then (λ f. if nat_eq (length f.0) count then Some (Many f.0, f.1) else None) found

-- behind an opening bracket: the elements of an array
abbrev pub elements_at : Env → (Ty → Reading Const) → Ty-F Ty → Reading Const
elements_at env constant (Ty-F.Array count element) ks =
    counted count (closed_by is_close_square ks (runs (λ shape. not (is_close_square shape)) (part_at env constant element) ks))
elements_at env constant _ ks = None

-- behind an opening brace: the fields of a struct
abbrev pub fields_at : Env → (Ty → Reading Const) → Ty-F Ty → Reading Const
fields_at env constant (Ty-F.Struct fields) ks = option_map (λ f. (Many f.0, f.1)) (closed_by is_close_brace ks (parts_at env constant fields ks))
fields_at env constant _ ks = None

-- the address, at ptr
abbrev pub address_of : Env → Ty-F Ty → Reading Const
address_of env ty ks = if is_pointer_type ty then option_map (λ f. (const.Addr f.0.0 (signed_value I64 f.0.1), f.1)) (address_at env 64 ks) else None

-- A constant at its type. So many arrays and structs may be open.
abbrev pub constant_within : Env → ℕ → Ty → Reading Const
constant_within env depth ty [] = None
constant_within env depth ty ((is.Address, text) ∷ ks) = behind 1 (address_of env (out-Ty ty) ks)
constant_within env (suc depth) ty ((is.OpenSquare, text) ∷ ks) = behind 1 (elements_at env (constant_within env depth) (out-Ty ty) ks)
constant_within env (suc depth) ty ((is.OpenBrace, text) ∷ ks) = behind 1 (fields_at env (constant_within env depth) (out-Ty ty) ks)
constant_within env depth ty (k ∷ ks) = option_map (λ c. (c, 1)) (single env (out-Ty ty) k)

-- the constant that is written at the front, at a type
abbrev pub constant_at : Env → Ty → Reading Const
constant_at env ty ks = constant_within env 64 ty ks
