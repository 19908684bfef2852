-- Addresses with an offset that are written are read again.
use Rattle.std.proofs.Common.{◌≡◌, ◌≢◌, ◌∙◌, ℕ, ℤ, pos, negsuc, ◌-ℤ◌, suc, ◌+◌, ◌-◌, ◌*◌, ◌%◌, ◌^◌, ◌<◌, true, cond, not, nat_lt, List, [], ◌∷◌, length, drop, Option, Some, None, option_map, option_and_then, refl, ap, arith}
use Rattle.std.specs.Prelude.{All, AllPairs}
use Rattle.std.specs.Fmt.{signed_decimal}
use Rattle.std.proofs.Math.Nat.{mod-eq_of_lt}
use Rattle.std.proofs.lemmas.Bool.{cond-true, cond-false, cond_both, le-ltb, ltb-true}
use Rattle.std.proofs.lemmas.Int.{ints}
use Rattle.ir_types.specs.declared.scalar.Scalar.TheVariants.{I8, I64}
use Rattle.ir_types.specs.declared.shape.Ty.TheBlock.{One}
use Rattle.ir_types.specs.Layout.{extent, size}
use Rattle.ir_types.specs.Names.{IsName}
use Rattle.ir_types.specs.Scalars.{signed_of, signed_value}
use Rattle.ir_types.proofs.Extents.{extent-One}
use Rattle.ir_grammar.specs.Tokens.{Kept}
use Rattle.ir_scope.specs.Integers.{extended}
use Rattle.ir_scope.specs.Runs.{behind, run, runs, closed_by}
use Rattle.ir_scope.specs.Scopes.{Env}
use Rattle.ir_constants.specs.Constants.{Place, is_close_paren, index_at, moved, address_at}
use Rattle.ir_constants.specs.Offsets.{Indexed, is_narrow, offset_of}
use Rattle.ir_writer.specs.Ranges.{AreBytes, is_offset}
use Rattle.round_trip.proofs.Grammar.Kept.{Lexemes, scalar_kept, digits_kept, symbol_kept, close_paren_kept}
use Rattle.round_trip.proofs.Constants.Numbers.{unsigned, offset_read, symbol_read}

-- ---- offsets

byte_extent : extent (One I8) ≡ record { size = 1; align = 1; widest = 1 }
byte_extent = extent-One I8

byte_is_narrow : is_narrow (One I8) ≡ true
byte_is_narrow = ap (λ e. nat_lt e.widest (2 ^ 31)) byte_extent

extended_alike : (n : ℕ) → n < 2 ^ 64 → extended (Some 64) n ≡ n
extended_alike n small = cond_both (nat_lt n (2 ^ 63)) n (n + 2 ^ 64 - 2 ^ 64) (λ m. m ≡ n) (λ low. refl) (λ high. omega arith)

-- so many bytes
byte_offset : (n : ℕ) → n < 2 ^ 64 → offset_of (One I8) ((I64, n) ∷ []) ≡ Some n
byte_offset n small =
    let all : size (One I8) * extended (Some 64) n + 0 ≡ n = ap (λ e. e.size * extended (Some 64) n + 0) byte_extent ∙ omega (arith, extended_alike n small) in
    ap (λ b. cond b (Some (size (One I8) * extended (Some 64) n + 0)) None) byte_is_narrow ∙ ap (λ m. Some m) all

unsigned_below : (offset : ℤ) → is_offset offset ≡ true → unsigned offset < 2 ^ 64
unsigned_below (pos n) h = let small : n < 2 ^ 63 = ltb-true n (2 ^ 63) h in omega arith
unsigned_below (negsuc n) h = let small : n < 2 ^ 63 = ltb-true n (2 ^ 63) h in omega arith

signed_unsigned : (offset : ℤ) → is_offset offset ≡ true → signed_of I64 (unsigned offset) ≡ offset
signed_unsigned (pos n) h = cond-true (nat_lt n (2 ^ 63)) (pos n) _ h
signed_unsigned (negsuc n) h =
    let small : n < 2 ^ 63 = ltb-true n (2 ^ 63) h in
    let back : pos (2 ^ 64 - suc n) -ℤ pos (2 ^ 64) ≡ negsuc n = omega (arith, ints) in
    cond-false (nat_lt (2 ^ 64 - suc n) (2 ^ 63)) _ _ (le-ltb (2 ^ 64 - suc n) (2 ^ 63) (omega arith)) ∙ back

-- the offset of an address that is moved from no offset on
pub moved_back : (offset : ℤ) → is_offset offset ≡ true → signed_value I64 ((0 + unsigned offset) % 2 ^ 64) ≡ offset
moved_back offset h =
    let same : 0 + unsigned offset ≡ unsigned offset = omega arith in
    let small = mod-eq_of_lt (unsigned_below offset h) in
    ap (λ n. signed_value I64 (n % 2 ^ 64)) same ∙ ap (signed_value I64) small ∙ ap (signed_of I64) small ∙ signed_unsigned offset h

-- ---- the index, and the address that it gives

-- what is written behind the base
abbrev index_kept : ℤ → Lexemes → Lexemes
index_kept offset rest = scalar_kept I64 ∷ digits_kept (signed_decimal offset) ∷ close_paren_kept ∷ rest

-- one index, and the parenthesis behind it
abbrev indices_by : Lexemes → Option ℕ → Option (List Indexed × ℕ)
indices_by ks found =
    closed_by is_close_paren ks (option_and_then (λ (f : Indexed × ℕ). option_map (λ rest. (f.0 ∷ rest.0, f.1 + rest.1)) (run (λ shape. not (is_close_paren shape)) index_at (f.1 - 1) (drop 1 ks))) (option_map (λ n. ((I64, n), 2)) found))

indices_back : (offset : ℤ) (rest : Lexemes) → is_offset offset ≡ true →
    closed_by is_close_paren (index_kept offset rest) (runs (λ shape. not (is_close_paren shape)) index_at (index_kept offset rest)) ≡ Some ((I64, unsigned offset) ∷ [], 3)
indices_back offset rest h = ap (indices_by (index_kept offset rest)) (offset_read offset h)

abbrev move_by : ℕ → Option (List Indexed × ℕ) → Option (Place × ℕ)
move_by place found = option_and_then (λ (f : List Indexed × ℕ). option_map (λ n. ((place, (0 + n) % 2 ^ 64), 1 + f.1)) (offset_of (One I8) f.0)) found

moved_at : (k : Kept) (place : ℕ) (offset : ℤ) (rest : Lexemes) → is_offset offset ≡ true →
    moved (One I8) (k ∷ index_kept offset rest) ((place, 0), 1) ≡ Some ((place, (0 + unsigned offset) % 2 ^ 64), 4)
moved_at k place offset rest h =
    ap (move_by place) (indices_back offset rest h)
    ∙ ap (option_map (λ n. ((place, (0 + n) % 2 ^ 64), 4))) (byte_offset (unsigned offset) (unsigned_below offset h))

abbrev address_by : Kept → Lexemes → Option ℕ → Option (Place × ℕ)
address_by k ks found = behind 0 (behind 1 (option_and_then (moved (One I8) (k ∷ ks)) (option_map (λ place. ((place, 0), 1)) found)))

-- Behind its word, the address of an item is read again, with its offset modulo 2^64.
pub address_back : (env : Env) (depth place : ℕ) (offset : ℤ) (rest : Lexemes) → AllPairs (λ a b. a ≢ b) env.symbols → All IsName env.symbols → All AreBytes env.symbols → place < length env.symbols → is_offset offset ≡ true →
    address_at env (suc depth) (scalar_kept I8 ∷ symbol_kept env.symbols place ∷ index_kept offset rest) ≡ Some ((place, (0 + unsigned offset) % 2 ^ 64), 5)
address_back env depth place offset rest distinct named bytes within h =
    ap (address_by (symbol_kept env.symbols place) (index_kept offset rest)) (symbol_read env.symbols place distinct named bytes within)
    ∙ ap (λ o. behind 0 (behind 1 o)) (moved_at (symbol_kept env.symbols place) place offset rest h)
