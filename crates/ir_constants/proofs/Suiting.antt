-- What is read suits its type.
use Rattle.std.proofs.Common.{◌≡◌, ◌∙◌, ℕ, ℤ, pos, suc, zero, ◌+◌, ◌-◌, ◌<◌, ◌^◌, ◌%◌, Bool, true, false, not, ◌&&◌, ◌==◌, cond, nat_eq, nat_lt, nat_le, IsTrue, List, [], ◌∷◌, length, drop, map, bytes_eq, Option, Some, None, option_map, option_and_then, refl, sym, ap, arith}
use Rattle.std.specs.List.{list_all}
use Rattle.std.proofs.lemmas.Bool.{and_from, and_parts}
use Rattle.std.proofs.lemmas.Bool.Decides.{nat_tests}
use Rattle.std.proofs.lemmas.List.{length-map}
use Rattle.ir_types.specs.declared.scalar.Scalar.{Scalar}
use Rattle.ir_types.specs.declared.scalar.Scalar.TheVariants.{I1, I8, I16, I32, I64, Ptr}
use Rattle.ir_types.specs.declared.shape.Ty.{Ty, out-Ty}
use Rattle.ir_types.specs.declared.shape.Ty.TheOpen.{Ty-F}
use Rattle.ir_types.specs.Scalars.{signed_value}
use Rattle.ir_types.specs.Names.{is_name}
use Rattle.ir_syntax.specs.declared.constant.Const.{Const}
use Rattle.ir_syntax.specs.declared.constant.Const.TheBlock.{Int, Null, Addr, Undef, Poison, Zero, Text}
use Rattle.ir_syntax.specs.declared.constant.Const.TheViews.{Many}
use Rattle.ir_syntax.specs.Suits.{suits, is_number_of, is_pointer, is_byte, takes_number, takes_address, takes_zero, takes_text, takes_parts, each_takes}
use Rattle.ir_syntax.proofs.SuitLemmas.{suits-Int, suits-Null, suits-Addr, suits-Undef, suits-Poison, suits-Zero, suits-Text, suits-Many}
use Rattle.name_table.specs.Places.{place_among}
use Rattle.ir_lexer.specs.Texts.{name_of}
use Rattle.ir_grammar.specs.declared.shape.Shape.{Shape}
use Rattle.ir_grammar.specs.declared.shape.Shape.TheVariants as is
use Rattle.ir_grammar.specs.declared.shape.Value.TheVariants as val
use Rattle.ir_grammar.specs.Numbers.{number_of}
use Rattle.ir_grammar.specs.Tokens.{Kept}
use Rattle.ir_scope.specs.Runs.{Reading, behind, run, runs, closed_by, begins_with}
use Rattle.ir_scope.specs.Integers.{number, integer_of, width, truth}
use Rattle.ir_scope.specs.Scopes.{Env}
use Rattle.ir_scope.specs.Types.{written_type, same_type, is_close_brace}
use Rattle.ir_constants.specs.Offsets.{offset_of}
use Rattle.ir_constants.specs.Constants.{Place, symbol_at, is_close_paren, index_at, is_close_square, moved, base_at, unflagged, address_at, zero_of, scalar_of, text_bytes, array_of, struct_of, single, is_pointer_type, part_at, parts_at, elements_at, fields_at, address_of, constant_within, constant_at}
use Rattle.ir_constants.proofs.Closed.{closed}

-- ---- answers that are there

-- what a step is made from
pub record Mapped {A B : Type 0} (f : A → B) (o : Option A) (y : B) : Type 0 where
  pub from : A
  pub there : o ≡ Some from
  pub gives : f from ≡ y

mapped : {A B : Type 0} (f : A → B) (o : Option A) (y : B) → option_map f o ≡ Some y → Mapped f o y
mapped f None y e = cc
mapped f (Some x) y e = record { from = x; there = refl; gives = let h : f x ≡ y = cc in h }

pub record Chained {A B : Type 0} (f : A → Option B) (o : Option A) (y : B) : Type 0 where
  pub from : A
  pub there : o ≡ Some from
  pub gives : f from ≡ Some y

chained : {A B : Type 0} (f : A → Option B) (o : Option A) (y : B) → option_and_then f o ≡ Some y → Chained f o y
chained f None y e = cc
chained f (Some x) y e = record { from = x; there = refl; gives = e }

-- what a test lets through
tested : {A : Type 0} (b : Bool) (o : Option A) (y : A) → cond b o None ≡ Some y → (b ≡ true) × (o ≡ Some y)
tested true o y e = (refl, e)
tested false o y e = cc

-- ---- places and numbers

place_within : (name : List ℕ) (names : List (List ℕ)) (k : ℕ) → place_among name names ≡ Some k → k < length names
place_within name [] k e = cc
place_within name (n ∷ ns) k e = by_test (bytes_eq name n) (place_within name ns) e
  where
    by_test : (b : Bool) → ((j : ℕ) → place_among name ns ≡ Some j → j < length ns) → cond b (Some 0) (option_map (λ j. suc j) (place_among name ns)) ≡ Some k → k < length (n ∷ ns)
    by_test true next e = let h : 0 ≡ k = cc in omega (arith, h)
    by_test false next e =
        let m = mapped (λ j. suc j) (place_among name ns) k e in
        omega (arith, next m.from m.there, m.gives)

symbol_within : (name : List ℕ) (names : List (List ℕ)) (k : ℕ) → symbol_at names name ≡ Some k → k < length names
symbol_within name names k e = let (named, there) = tested (is_name name) (place_among name names) k e in place_within name names k there

-- a number of a width is below its power
number_below : (w : ℕ) (text : List ℕ) (n : ℕ) → 0 < 2 ^ w → integer_of w text ≡ Some n → n < 2 ^ w
number_below w [] n some e = cc
number_below w (first ∷ rest) n some e = by_sign (nat_eq first 45) e
  where
    by_half : (b : Bool) → cond b (Some ((2 ^ w - number_of rest) % 2 ^ w)) None ≡ Some n → n < 2 ^ w
    by_half true e = let h : (2 ^ w - number_of rest) % 2 ^ w ≡ n = cc in grind (arith, h, some)
    by_half false e = cc

    by_size : (b : Bool) → nat_lt (number_of (first ∷ rest)) (2 ^ w) ≡ b → cond b (Some (number_of (first ∷ rest))) None ≡ Some n → n < 2 ^ w
    by_size true t e = let h : number_of (first ∷ rest) ≡ n = cc in grind (arith, nat_tests, h, t)
    by_size false t e = cc

    by_sign : (b : Bool) → cond b (cond (nat_le (number_of rest) (2 ^ (w - 1))) (Some ((2 ^ w - number_of rest) % 2 ^ w)) None) (cond (nat_lt (number_of (first ∷ rest)) (2 ^ w)) (Some (number_of (first ∷ rest))) None) ≡ Some n → n < 2 ^ w
    by_sign true e = by_half (nat_le (number_of rest) (2 ^ (w - 1))) e
    by_sign false e = by_size (nat_lt (number_of (first ∷ rest)) (2 ^ w)) refl e

below_true : (n m : ℕ) → n < m → nat_lt n m ≡ true
below_true n m h = grind (arith, nat_tests, h)

integer_suits : (s : Scalar) (text : List ℕ) (n : ℕ) → option_and_then (λ w. integer_of w text) (width s) ≡ Some n → is_number_of s n ≡ true
integer_suits I1 text n e = below_true n 2 (number_below 1 text n (omega arith) e)
integer_suits I8 text n e = below_true n (2 ^ 8) (number_below 8 text n (omega arith) e)
integer_suits I16 text n e = below_true n (2 ^ 16) (number_below 16 text n (omega arith) e)
integer_suits I32 text n e = below_true n (2 ^ 32) (number_below 32 text n (omega arith) e)
integer_suits I64 text n e = below_true n (2 ^ 64) (number_below 64 text n (omega arith) e)
integer_suits Ptr text n e = cc

truth_suits : (s : Scalar) (m n : ℕ) → m < 2 → truth s m ≡ Some n → is_number_of s n ≡ true
truth_suits I1 m n small e = let h : m ≡ n = cc in below_true n 2 (omega (arith, h, small))
truth_suits _ m n small e = cc

zero_suits : (s : Scalar) (n : ℕ) → option_map (λ w. 0) (width s) ≡ Some n → is_number_of s n ≡ true
zero_suits I1 n e = let h : 0 ≡ n = cc in ap (is_number_of I1) (sym h)
zero_suits I8 n e = let h : 0 ≡ n = cc in ap (is_number_of I8) (sym h)
zero_suits I16 n e = let h : 0 ≡ n = cc in ap (is_number_of I16) (sym h)
zero_suits I32 n e = let h : 0 ≡ n = cc in ap (is_number_of I32) (sym h)
zero_suits I64 n e = let h : 0 ≡ n = cc in ap (is_number_of I64) (sym h)
zero_suits Ptr n e = cc

number_suits : (s : Scalar) (k : Kept) (n : ℕ) → number s k ≡ Some n → is_number_of s n ≡ true
number_suits s (is.Int digits, text) n e = integer_suits s text n e
number_suits s (is.Value val.True, text) n e = truth_suits s 1 n (omega arith) e
number_suits s (is.Value val.False, text) n e = truth_suits s 0 n (omega arith) e
number_suits s (is.Value val.Zero, text) n e = zero_suits s n e
number_suits s _ n e = cc

-- ---- constants of one lexeme

pointer_takes : (x : Ty-F Ty) → is_pointer_type x ≡ true → takes_address x ≡ true
pointer_takes (Ty-F.One s) e = e
pointer_takes (Ty-F.Array count element) e = cc
pointer_takes (Ty-F.Struct fields) e = cc

number_zero : (s : Scalar) → is_pointer s ≡ false → is_number_of s 0 ≡ true
number_zero I1 e = refl
number_zero I8 e = refl
number_zero I16 e = refl
number_zero I32 e = refl
number_zero I64 e = refl
number_zero Ptr e = cc

null_suits : (items : ℕ) (ty : Ty) → takes_address (out-Ty ty) ≡ true → suits items Null ty ≡ true
null_suits items ty t = suits-Null items ty ∙ t

addr_suits : (items at : ℕ) (offset : ℤ) (ty : Ty) → takes_address (out-Ty ty) ≡ true → at < items → suits items (Addr at offset) ty ≡ true
addr_suits items at offset ty t within = suits-Addr items at offset ty ∙ and_from (takes_address (out-Ty ty)) (nat_lt at items) t (below_true at items within)

zero_of_suits : (items : ℕ) (s : Scalar) (ty : Ty) → out-Ty ty ≡ Ty-F.One s → suits items (zero_of s) ty ≡ true
zero_of_suits items s ty t = by_kind (is_pointer s) refl
  where
    by_kind : (b : Bool) → is_pointer s ≡ b → suits items (cond b Null (Int 0)) ty ≡ true
    by_kind true p = null_suits items ty (ap takes_address t ∙ p)
    by_kind false p = suits-Int items 0 ty ∙ ap (λ x. takes_number x 0) t ∙ number_zero s p

scalar_suits : (env : Env) (s : Scalar) (k : Kept) (c : Const) (ty : Ty) → out-Ty ty ≡ Ty-F.One s → scalar_of env s k ≡ Some c → suits (length env.symbols) c ty ≡ true
scalar_suits env s (is.Value val.Null, text) c ty t e =
    let (p, o) = tested (is_pointer s) (Some Null) c e in
    let h : Null ≡ c = cc in
    ap (λ c. suits (length env.symbols) c ty) (sym h) ∙ null_suits (length env.symbols) ty (ap takes_address t ∙ p)
scalar_suits env s (is.Value val.Zero, text) c ty t e =
    let h : zero_of s ≡ c = cc in
    ap (λ c. suits (length env.symbols) c ty) (sym h) ∙ zero_of_suits (length env.symbols) s ty t
scalar_suits env s (is.At kind, text) c ty t e =
    let (p, o) = tested (is_pointer s) (option_map (λ place. Addr place (pos 0)) (symbol_at env.symbols (name_of (drop 1 text)))) c e in
    let m = mapped (λ place. Addr place (pos 0)) (symbol_at env.symbols (name_of (drop 1 text))) c o in
    ap (λ c. suits (length env.symbols) c ty) (sym m.gives) ∙ addr_suits (length env.symbols) m.from (pos 0) ty (ap takes_address t ∙ p) (symbol_within (name_of (drop 1 text)) env.symbols m.from m.there)
scalar_suits env s k c ty t e =
    let m = mapped (λ n. Int n) (number s k) c e in
    ap (λ c. suits (length env.symbols) c ty) (sym m.gives) ∙ suits-Int (length env.symbols) m.from ty ∙ ap (λ x. takes_number x m.from) t ∙ number_suits s k m.from m.there

text_suits : (items count : ℕ) (element : Ty) (bytes : List ℕ) (ty : Ty) → out-Ty ty ≡ Ty-F.Array count element → (is_byte (out-Ty element) && nat_eq (length bytes) count) ≡ true → suits items (Text bytes) ty ≡ true
text_suits items count element bytes ty t e =
    let both = and_parts (is_byte (out-Ty element)) (nat_eq (length bytes) count) e in
    let same : (count == length bytes) ≡ true = grind (arith, nat_tests, both.1) in
    suits-Text items bytes ty ∙ ap (λ x. takes_text x (length bytes)) t ∙ and_from (is_byte (out-Ty element)) (count == length bytes) both.0 same

zero_suits_parts : (items : ℕ) (c : Const) (ty : Ty) (x : Ty-F Ty) → out-Ty ty ≡ x → takes_zero x ≡ true → Some Zero ≡ Some c → suits items c ty ≡ true
zero_suits_parts items c ty x t z e = let h : Zero ≡ c = cc in ap (λ c. suits items c ty) (sym h) ∙ suits-Zero items ty ∙ ap takes_zero t ∙ z

array_suits : (items count : ℕ) (element : Ty) (k : Kept) (c : Const) (ty : Ty) → out-Ty ty ≡ Ty-F.Array count element → array_of count element k ≡ Some c → suits items c ty ≡ true
array_suits items count element (is.Value val.Zero, text) c ty t e = zero_suits_parts items c ty (Ty-F.Array count element) t refl e
array_suits items count element (is.CStr, text) c ty t e =
    let (p, o) = tested (is_byte (out-Ty element) && nat_eq (length (text_bytes text)) count) (Some (Text (text_bytes text))) c e in
    let h : Text (text_bytes text) ≡ c = cc in
    ap (λ c. suits items c ty) (sym h) ∙ text_suits items count element (text_bytes text) ty t p
array_suits items count element _ c ty t e = cc

struct_suits : (items : ℕ) (fields : List Ty) (k : Kept) (c : Const) (ty : Ty) → out-Ty ty ≡ Ty-F.Struct fields → struct_of k ≡ Some c → suits items c ty ≡ true
struct_suits items fields (is.Value val.Zero, text) c ty t e = zero_suits_parts items c ty (Ty-F.Struct fields) t refl e
struct_suits items fields _ c ty t e = cc

single_suits : (env : Env) (x : Ty-F Ty) (k : Kept) (c : Const) (ty : Ty) → out-Ty ty ≡ x → single env x k ≡ Some c → suits (length env.symbols) c ty ≡ true
single_suits env x (is.Value val.Undef, text) c ty t e = let h : Undef ≡ c = cc in ap (λ c. suits (length env.symbols) c ty) (sym h) ∙ suits-Undef (length env.symbols) ty
single_suits env x (is.Value val.Poison, text) c ty t e = let h : Poison ≡ c = cc in ap (λ c. suits (length env.symbols) c ty) (sym h) ∙ suits-Poison (length env.symbols) ty
single_suits env (Ty-F.One s) k c ty t e = scalar_suits env s k c ty t e
single_suits env (Ty-F.Array count element) k c ty t e = array_suits (length env.symbols) count element k c ty t e
single_suits env (Ty-F.Struct fields) k c ty t e = struct_suits (length env.symbols) fields k c ty t e

-- ---- addresses

moved_keeps : (ty : Ty) (ks : List Kept) (base f : Place × ℕ) → moved ty ks base ≡ Some f → base.0.0 ≡ f.0.0
moved_keeps ty ks base f e =
    let a = chained (λ g. option_map (λ n. ((base.0.0, (base.0.1 + n) % 2 ^ 64), base.1 + g.1)) (offset_of ty g.0)) (closed is_close_paren index_at (drop base.1 ks)) f e in
    let m = mapped (λ n. ((base.0.0, (base.0.1 + n) % 2 ^ 64), base.1 + a.from.1)) (offset_of ty a.from.0) f a.gives in
    ap (λ f. f.0.0) m.gives

behind_keeps : {X : Type 0} (n : ℕ) (o : Option (X × ℕ)) (f : X × ℕ) → behind n o ≡ Some f → Mapped (λ g. (g.0, n + g.1)) o f
behind_keeps n o f e = mapped (λ g. (g.0, n + g.1)) o f e

base_within : (symbols : List (List ℕ)) (address : Reading Place) → ((ks : List Kept) (f : Place × ℕ) → address ks ≡ Some f → f.0.0 < length symbols) → (ks : List Kept) (f : Place × ℕ) → base_at symbols address ks ≡ Some f → f.0.0 < length symbols
base_within symbols address inner ((is.At kind, text) ∷ ks) f e =
    let m = mapped (λ place. ((place, 0), 1)) (symbol_at symbols (name_of (drop 1 text))) f e in
    let within = symbol_within (name_of (drop 1 text)) symbols m.from m.there in
    let same : m.from ≡ f.0.0 = ap (λ f. f.0.0) m.gives in
    omega (arith, within, same)
base_within symbols address inner ((is.Address, text) ∷ ks) f e =
    let m = behind_keeps 1 (address ks) f e in
    let within = inner ks m.from m.there in
    let same : m.from.0.0 ≡ f.0.0 = ap (λ f. f.0.0) m.gives in
    omega (arith, within, same)
base_within symbols address inner _ f e = cc

address_within : (env : Env) (depth : ℕ) (ks : List Kept) (f : Place × ℕ) → address_at env depth ks ≡ Some f → f.0.0 < length env.symbols
address_within env zero ks f e = cc
address_within env (suc depth) ks f e =
    let rest = unflagged ks in
    let m = behind_keeps rest.1 (option_and_then (λ t. behind t.1 (option_and_then (moved t.0 (drop t.1 rest.0)) (base_at env.symbols (address_at env depth) (drop t.1 rest.0)))) (written_type env.types rest.0)) f e in
    let a = chained (λ t. behind t.1 (option_and_then (moved t.0 (drop t.1 rest.0)) (base_at env.symbols (address_at env depth) (drop t.1 rest.0)))) (written_type env.types rest.0) m.from m.there in
    let n = behind_keeps a.from.1 (option_and_then (moved a.from.0 (drop a.from.1 rest.0)) (base_at env.symbols (address_at env depth) (drop a.from.1 rest.0))) m.from a.gives in
    let b = chained (moved a.from.0 (drop a.from.1 rest.0)) (base_at env.symbols (address_at env depth) (drop a.from.1 rest.0)) n.from n.there in
    let within = base_within env.symbols (address_at env depth) (address_within env depth) (drop a.from.1 rest.0) b.from b.there in
    let moves = moved_keeps a.from.0 (drop a.from.1 rest.0) b.from n.from b.gives in
    let inner : n.from.0.0 ≡ m.from.0.0 = ap (λ f. f.0.0) n.gives in
    let outer : m.from.0.0 ≡ f.0.0 = ap (λ f. f.0.0) m.gives in
    omega (arith, within, moves, inner, outer)

address_suits : (env : Env) (ty : Ty) (ks : List Kept) (f : Const × ℕ) → address_of env (out-Ty ty) ks ≡ Some f → suits (length env.symbols) f.0 ty ≡ true
address_suits env ty ks f e =
    let (p, o) = tested (is_pointer_type (out-Ty ty)) (option_map (λ f. (Addr f.0.0 (signed_value I64 f.0.1), f.1)) (address_at env 64 ks)) f e in
    let m = mapped (λ f. (Addr f.0.0 (signed_value I64 f.0.1), f.1)) (address_at env 64 ks) f o in
    let same : Addr m.from.0.0 (signed_value I64 m.from.0.1) ≡ f.0 = ap (λ f. f.0) m.gives in
    ap (λ c. suits (length env.symbols) c ty) (sym same) ∙ addr_suits (length env.symbols) m.from.0.0 (signed_value I64 m.from.0.1) ty (pointer_takes (out-Ty ty) p) (address_within env 64 ks m.from m.there)

-- ---- parts

-- what a reading at a type reads suits the type
abbrev pub Fitting : ℕ → (Ty → Reading Const) → Type 0
Fitting items constant = (ty : Ty) (ks : List Kept) (f : Const × ℕ) → constant ty ks ≡ Some f → suits items f.0 ty ≡ true

part_suits : (items : ℕ) (env : Env) (constant : Ty → Reading Const) → Fitting items constant → (ty : Ty) (ks : List Kept) (f : Const × ℕ) → part_at env constant ty ks ≡ Some f → suits items f.0 ty ≡ true
part_suits items env constant fit ty ks f e =
    let a = chained (λ t. cond (same_type ty t.0) (behind t.1 (constant ty (drop t.1 ks))) None) (written_type env.types ks) f e in
    let (p, o) = tested (same_type ty a.from.0) (behind a.from.1 (constant ty (drop a.from.1 ks))) f a.gives in
    let m = behind_keeps a.from.1 (constant ty (drop a.from.1 ks)) f o in
    let same : m.from.0 ≡ f.0 = ap (λ f. f.0) m.gives in
    ap (λ c. suits items c ty) (sym same) ∙ fit ty (drop a.from.1 ks) m.from m.there

-- each of a run suits
run_suits : (items : ℕ) (begins : Shape → Bool) (part : Reading Const) (element : Ty) → ((ks : List Kept) (f : Const × ℕ) → part ks ≡ Some f → suits items f.0 element ≡ true) →
    (skipped : ℕ) (ks : List Kept) (g : List Const × ℕ) → run begins part skipped ks ≡ Some g → list_all (λ p. p element) (map (suits items) g.0) ≡ true
run_suits items begins part element fit skipped [] g e =
    let h : [] ≡ g.0 = ap (λ o. parts_in o) e in ap (λ cs. list_all (λ p. p element) (map (suits items) cs)) (sym h)
  where
    parts_in : Option (List Const × ℕ) → List Const
    parts_in None = []
    parts_in (Some g) = g.0
run_suits items begins part element fit zero (k ∷ ks) g e = by_test (λ n g e. run_suits items begins part element fit n ks g e) (begins k.0) e
  where
    by_test : ((n : ℕ) (g : List Const × ℕ) → run begins part n ks ≡ Some g → list_all (λ p. p element) (map (suits items) g.0) ≡ true) →
        (b : Bool) → cond b (option_and_then (λ f. option_map (λ rest. (f.0 ∷ rest.0, f.1 + rest.1)) (run begins part (f.1 - 1) ks)) (part (k ∷ ks))) (Some ([], 0)) ≡ Some g → list_all (λ p. p element) (map (suits items) g.0) ≡ true
    by_test next true e =
        let a = chained (λ f. option_map (λ rest. (f.0 ∷ rest.0, f.1 + rest.1)) (run begins part (f.1 - 1) ks)) (part (k ∷ ks)) g e in
        let m = mapped (λ rest. (a.from.0 ∷ rest.0, a.from.1 + rest.1)) (run begins part (a.from.1 - 1) ks) g a.gives in
        let same : a.from.0 ∷ m.from.0 ≡ g.0 = ap (λ f. f.0) m.gives in
        ap (λ cs. list_all (λ p. p element) (map (suits items) cs)) (sym same)
        ∙ and_from (suits items a.from.0 element) (list_all (λ p. p element) (map (suits items) m.from.0)) (fit (k ∷ ks) a.from a.there) (next (a.from.1 - 1) m.from m.there)
    by_test next false e = let same : ([], 0) ≡ g = cc in ap (λ g. list_all (λ p. p element) (map (suits items) g.0)) (sym same)
run_suits items begins part element fit (suc skipped) (k ∷ ks) g e = run_suits items begins part element fit skipped ks g e

-- a reading that a lexeme ends
closed_from : {X : Type 0} (ends : Shape → Bool) (ks : List Kept) (o : Option (X × ℕ)) (f : X × ℕ) → closed_by ends ks o ≡ Some f → (g : X × ℕ) × (o ≡ Some g) × (g.0 ≡ f.0)
closed_from ends ks o f e =
    let a = chained (λ g. cond (begins_with ends (drop g.1 ks)) (Some (g.0, g.1 + 1)) None) o f e in
    let (p, q) = tested (begins_with ends (drop a.from.1 ks)) (Some (a.from.0, a.from.1 + 1)) f a.gives in
    let same : (a.from.0, a.from.1 + 1) ≡ f = cc in
    (a.from, a.there, ap (λ f. f.0) same)

elements_suit : (items : ℕ) (env : Env) (constant : Ty → Reading Const) → Fitting items constant → (ty : Ty) (x : Ty-F Ty) → out-Ty ty ≡ x → (ks : List Kept) (f : Const × ℕ) → elements_at env constant x ks ≡ Some f → suits items f.0 ty ≡ true
elements_suit items env constant fit ty (Ty-F.One s) t ks f e = cc
elements_suit items env constant fit ty (Ty-F.Struct fields) t ks f e = cc
elements_suit items env constant fit ty (Ty-F.Array count element) t ks f e =
    let a = chained (λ g. cond (nat_eq (length g.0) count) (Some (Many g.0, g.1)) None) (closed is_close_square (part_at env constant element) ks) f e in
    let (p, q) = tested (nat_eq (length a.from.0) count) (Some (Many a.from.0, a.from.1)) f a.gives in
    let made : (Many a.from.0, a.from.1) ≡ f = cc in
    let (g, there, same) = closed_from is_close_square ks (runs (λ shape. not (is_close_square shape)) (part_at env constant element) ks) a.from a.there in
    let all = run_suits items (λ shape. not (is_close_square shape)) (part_at env constant element) element (part_suits items env constant fit element) 0 ks g there in
    let counts : (length (map (suits items) a.from.0) == count) ≡ true = counted_parts a.from.0 count p in
    ap (λ f. suits items f.0 ty) (sym made) ∙ suits-Many items a.from.0 ty ∙ ap (λ x. takes_parts x (map (suits items) a.from.0)) t
    ∙ and_from (length (map (suits items) a.from.0) == count) (list_all (λ p. p element) (map (suits items) a.from.0)) counts (ap (λ cs. list_all (λ p. p element) (map (suits items) cs)) (sym same) ∙ all)
  where
    counted_parts : (cs : List Const) (count : ℕ) → nat_eq (length cs) count ≡ true → (length (map (suits items) cs) == count) ≡ true
    counted_parts cs count p = let e = length-map cs (suits items) in grind (arith, nat_tests, p, e)

parts_suit : (items : ℕ) (env : Env) (constant : Ty → Reading Const) → Fitting items constant → (tys : List Ty) (ks : List Kept) (g : List Const × ℕ) → parts_at env constant tys ks ≡ Some g → each_takes (map (suits items) g.0) tys ≡ true
parts_suit items env constant fit [] ks g e = let same : ([], 0) ≡ g = cc in ap (λ g. each_takes (map (suits items) g.0) []) (sym same)
parts_suit items env constant fit (ty ∷ tys) ks g e =
    let a = chained (λ f. option_map (λ rest. (f.0 ∷ rest.0, f.1 + rest.1)) (parts_at env constant tys (drop f.1 ks))) (part_at env constant ty ks) g e in
    let m = mapped (λ rest. (a.from.0 ∷ rest.0, a.from.1 + rest.1)) (parts_at env constant tys (drop a.from.1 ks)) g a.gives in
    let same : a.from.0 ∷ m.from.0 ≡ g.0 = ap (λ f. f.0) m.gives in
    ap (λ cs. each_takes (map (suits items) cs) (ty ∷ tys)) (sym same)
    ∙ and_from (suits items a.from.0 ty) (each_takes (map (suits items) m.from.0) tys) (part_suits items env constant fit ty ks a.from a.there) (parts_suit items env constant fit tys (drop a.from.1 ks) m.from m.there)

fields_suit : (items : ℕ) (env : Env) (constant : Ty → Reading Const) → Fitting items constant → (ty : Ty) (x : Ty-F Ty) → out-Ty ty ≡ x → (ks : List Kept) (f : Const × ℕ) → fields_at env constant x ks ≡ Some f → suits items f.0 ty ≡ true
fields_suit items env constant fit ty (Ty-F.One s) t ks f e = cc
fields_suit items env constant fit ty (Ty-F.Array count element) t ks f e = cc
fields_suit items env constant fit ty (Ty-F.Struct fields) t ks f e =
    let m = mapped (λ g. (Many g.0, g.1)) (closed_by is_close_brace ks (parts_at env constant fields ks)) f e in
    let (g, there, same) = closed_from is_close_brace ks (parts_at env constant fields ks) m.from m.there in
    let made : Many m.from.0 ≡ f.0 = ap (λ f. f.0) m.gives in
    ap (λ c. suits items c ty) (sym made) ∙ suits-Many items m.from.0 ty ∙ ap (λ x. takes_parts x (map (suits items) m.from.0)) t
    ∙ ap (λ cs. each_takes (map (suits items) cs) fields) (sym same) ∙ parts_suit items env constant fit fields ks g there

-- ---- constants

within_suits : (env : Env) (depth : ℕ) (ty : Ty) (ks : List Kept) (f : Const × ℕ) → constant_within env depth ty ks ≡ Some f → suits (length env.symbols) f.0 ty ≡ true
within_suits env depth ty [] f e = cc
within_suits env depth ty ((is.Address, text) ∷ ks) f e =
    let m = behind_keeps 1 (address_of env (out-Ty ty) ks) f e in
    let same : m.from.0 ≡ f.0 = ap (λ f. f.0) m.gives in
    ap (λ c. suits (length env.symbols) c ty) (sym same) ∙ address_suits env ty ks m.from m.there
within_suits env (suc depth) ty ((is.OpenSquare, text) ∷ ks) f e =
    let m = behind_keeps 1 (elements_at env (constant_within env depth) (out-Ty ty) ks) f e in
    let same : m.from.0 ≡ f.0 = ap (λ f. f.0) m.gives in
    ap (λ c. suits (length env.symbols) c ty) (sym same) ∙ elements_suit (length env.symbols) env (constant_within env depth) (within_suits env depth) ty (out-Ty ty) refl ks m.from m.there
within_suits env (suc depth) ty ((is.OpenBrace, text) ∷ ks) f e =
    let m = behind_keeps 1 (fields_at env (constant_within env depth) (out-Ty ty) ks) f e in
    let same : m.from.0 ≡ f.0 = ap (λ f. f.0) m.gives in
    ap (λ c. suits (length env.symbols) c ty) (sym same) ∙ fields_suit (length env.symbols) env (constant_within env depth) (within_suits env depth) ty (out-Ty ty) refl ks m.from m.there
within_suits env depth ty (k ∷ ks) f e =
    let m = mapped (λ c. (c, 1)) (single env (out-Ty ty) k) f e in
    let same : m.from ≡ f.0 = ap (λ f. f.0) m.gives in
    ap (λ c. suits (length env.symbols) c ty) (sym same) ∙ single_suits env (out-Ty ty) k m.from ty refl m.there

-- A constant that is read at a type suits it.
pub constant_suits : (env : Env) (ty : Ty) (ks : List Kept) (f : Const × ℕ) → constant_at env ty ks ≡ Some f → IsTrue (suits (length env.symbols) f.0 ty)
constant_suits env ty ks f e = within_suits env 64 ty ks f e
