-- Addresses: what indices add to a base.
use Rattle.std.proofs.Common.{◌≡◌, ◌∙◌, ℕ, suc, zero, ◌+◌, ◌-◌, ◌<◌, ◌^◌, ◌%◌, List, drop, Option, Some, None, option_map, option_and_then, refl, sym, ap, arith, add_assoc}
use Rattle.ir_types.specs.declared.shape.Ty.{Ty}
use Rattle.ir_grammar.specs.declared.lexeme.Lexeme.{Lexeme}
use Rattle.ir_grammar.specs.Tokens.{Kept, seen}
use Rattle.ir_scope.specs.Runs.{behind}
use Rattle.ir_scope.specs.Scopes.{Env}
use Rattle.ir_scope.specs.Types.{written_type}
use Rattle.ir_scope.proofs.Runs.{seen-drop}
use Rattle.ir_constants.specs.Offsets.{Indexed, offset_of}
use Rattle.ir_constants.specs.Constants.{Place, is_close_paren, index_at, unflagged, moved, base_at, address_at}
use Rattle.ir_constants.proofs.Closed.{closed}

-- the base moved by what these indices add
abbrev pub moved_by : Ty → Place × ℕ → Option (List Indexed × ℕ) → Option (Place × ℕ)
moved_by ty base found = option_and_then (λ f. option_map (λ n. ((base.0.0, (base.0.1 + n) % 2 ^ 64), base.1 + f.1)) (offset_of ty f.0)) found

moved-rest : (ty : Ty) (xs rest : List Lexeme) (base : Place × ℕ) → rest ≡ drop base.1 xs → moved_by ty base (closed is_close_paren index_at (seen rest)) ≡ moved ty (seen xs) base
moved-rest ty xs rest base r = ap (λ ks. moved_by ty base (closed is_close_paren index_at ks)) (ap seen r ∙ seen-drop base.1 xs)

-- no indices
pub moved-none : (ty : Ty) (xs rest : List Lexeme) (base : Place × ℕ) → rest ≡ drop base.1 xs → None ≡ closed is_close_paren index_at (seen rest) → None ≡ moved ty (seen xs) base
moved-none ty xs rest base r here = ap (moved_by ty base) here ∙ moved-rest ty xs rest base r

-- A sum modulo 2^64 takes each part modulo 2^64.
sum_wraps : (b n : ℕ) → (b + n % 2 ^ 64) % 2 ^ 64 ≡ (b + n) % 2 ^ 64
sum_wraps b n = omega arith

-- the base moved by an offset, behind so many lexemes more
abbrev pub moved_to : Place × ℕ → ℕ → Option ℕ → Option (Place × ℕ)
moved_to base taken offset = option_map (λ n. ((base.0.0, (base.0.1 + n) % 2 ^ 64), base.1 + taken)) offset

to_wraps : (base : Place × ℕ) (taken : ℕ) (o : Option ℕ) → moved_to base taken (option_map (λ n. n % 2 ^ 64) o) ≡ moved_to base taken o
to_wraps base taken None = refl
to_wraps base taken (Some n) = ap (λ m. Some ((base.0.0, m), base.1 + taken)) (sum_wraps base.0.1 n)

-- indices, and what they add modulo 2^64
pub moved-some : (ty : Ty) (xs rest : List Lexeme) (base : Place × ℕ) (f : List Indexed × ℕ) (indices : List Indexed) (found : Option ℕ) → rest ≡ drop base.1 xs → Some f ≡ closed is_close_paren index_at (seen rest) →
    indices ≡ f.0 → option_map (λ n. n % 2 ^ 64) (offset_of ty indices) ≡ found → moved_to base f.1 found ≡ moved ty (seen xs) base
moved-some ty xs rest base f indices found r here same adds =
    ap (moved_to base f.1) (sym adds) ∙ to_wraps base f.1 (offset_of ty indices) ∙ ap (λ is. moved_to base f.1 (offset_of ty is)) same ∙ ap (moved_by ty base) here ∙ moved-rest ty xs rest base r

-- ---- addresses behind their word

-- a typed base behind so many lexemes, moved by indices
abbrev pub address_by : Env → ℕ → ℕ → List Kept → Option (Place × ℕ)
address_by env depth flags ks =
    behind flags (option_and_then (λ t. behind t.1 (option_and_then (moved t.0 (drop t.1 ks)) (base_at env.symbols (address_at env depth) (drop t.1 ks)))) (written_type env.types ks))

-- What is known of an address: how many flags stand before its type, and what is behind them.
pub record IsAddress (depth : ℕ) (xs typed : List Lexeme) (flags : ℕ) : Type 0 where
  pub deep : 0 < depth
  pub count : flags ≡ (unflagged (seen xs)).1
  pub rest : drop flags (seen xs) ≡ (unflagged (seen xs)).0
  pub there : typed ≡ drop flags xs

pub is_address : (depth : ℕ) (xs typed : List Lexeme) (flags : ℕ) → 0 < depth → flags ≡ (unflagged (seen xs)).1 → drop flags (seen xs) ≡ (unflagged (seen xs)).0 → typed ≡ drop flags xs → IsAddress depth xs typed flags
is_address depth xs typed flags deep count rest there = record { deep = deep; count = count; rest = rest; there = there }

pub address-flags : (env : Env) (depth : ℕ) (xs typed : List Lexeme) (flags : ℕ) → IsAddress depth xs typed flags → address_by env (depth - 1) flags (seen typed) ≡ address_at env depth (seen xs)
address-flags env zero xs typed flags is = absurd (omega (arith, is.deep))
address-flags env (suc depth) xs typed flags is =
    ap (λ d. address_by env d flags (seen typed)) less
    ∙ ap (λ ks. address_by env depth flags ks) (ap seen is.there ∙ seen-drop flags xs ∙ is.rest)
    ∙ ap (λ n. address_by env depth n (unflagged (seen xs)).0) is.count
  where
    less : suc depth - 1 ≡ depth
    less = omega arith

-- no type
pub address-untyped : (env : Env) (depth : ℕ) (xs typed : List Lexeme) (flags : ℕ) → IsAddress depth xs typed flags → None ≡ written_type env.types (seen typed) → None ≡ address_at env depth (seen xs)
address-untyped env depth xs typed flags is here =
    ap (λ o. behind flags (option_and_then (λ t. behind t.1 (option_and_then (moved t.0 (drop t.1 (seen typed))) (base_at env.symbols (address_at env (depth - 1)) (drop t.1 (seen typed))))) o)) here
    ∙ address-flags env depth xs typed flags is

-- a type, and the operands behind it
address-typed : (env : Env) (depth : ℕ) (xs typed operands : List Lexeme) (flags : ℕ) (t : Ty × ℕ) → IsAddress depth xs typed flags → Some t ≡ written_type env.types (seen typed) → operands ≡ drop t.1 typed →
    behind flags (behind t.1 (option_and_then (moved t.0 (seen operands)) (base_at env.symbols (address_at env (depth - 1)) (seen operands)))) ≡ address_at env depth (seen xs)
address-typed env depth xs typed operands flags t is here behind_type =
    ap (λ ks. behind flags (behind t.1 (option_and_then (moved t.0 ks) (base_at env.symbols (address_at env (depth - 1)) ks)))) (ap seen behind_type ∙ seen-drop t.1 typed)
    ∙ ap (λ o. behind flags (option_and_then (λ t. behind t.1 (option_and_then (moved t.0 (drop t.1 (seen typed))) (base_at env.symbols (address_at env (depth - 1)) (drop t.1 (seen typed))))) o)) here
    ∙ address-flags env depth xs typed flags is

-- no base
pub address-baseless : (env : Env) (depth : ℕ) (xs typed operands : List Lexeme) (flags : ℕ) (t : Ty × ℕ) → IsAddress depth xs typed flags → Some t ≡ written_type env.types (seen typed) → operands ≡ drop t.1 typed →
    None ≡ base_at env.symbols (address_at env (depth - 1)) (seen operands) → None ≡ address_at env depth (seen xs)
address-baseless env depth xs typed operands flags t is here behind_type none =
    ap (λ o. behind flags (behind t.1 (option_and_then (moved t.0 (seen operands)) o))) none ∙ address-typed env depth xs typed operands flags t is here behind_type

-- a place behind so many lexemes
abbrev pub place_behind : ℕ → Option (Place × ℕ) → Option (Place × ℕ)
place_behind n found = option_map (λ f. (f.0, n + f.1)) found

behind-twice : (n m : ℕ) (o : Option (Place × ℕ)) → place_behind (n + m) o ≡ behind n (behind m o)
behind-twice n m None = refl
behind-twice n m (Some f) = ap (λ k. Some (f.0, k)) (add_assoc n m f.1)

-- a base, and what it is moved to
pub address-moved : (env : Env) (depth : ℕ) (xs typed operands : List Lexeme) (flags : ℕ) (t : Ty × ℕ) (b : Place × ℕ) (o : Option (Place × ℕ)) → IsAddress depth xs typed flags → Some t ≡ written_type env.types (seen typed) →
    operands ≡ drop t.1 typed → Some b ≡ base_at env.symbols (address_at env (depth - 1)) (seen operands) → o ≡ moved t.0 (seen operands) b → place_behind (flags + t.1) o ≡ address_at env depth (seen xs)
address-moved env depth xs typed operands flags t b o is here behind_type based moves =
    ap (place_behind (flags + t.1)) moves
    ∙ behind-twice flags t.1 (moved t.0 (seen operands) b)
    ∙ ap (λ o. behind flags (behind t.1 (option_and_then (moved t.0 (seen operands)) o))) based ∙ address-typed env depth xs typed operands flags t is here behind_type
