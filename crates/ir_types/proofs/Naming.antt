-- The test of names says what a name is.
use Rattle.std.proofs.Common.{◌≡◌, ◌≢◌, ℕ, true, not, ◌&&◌, ◌==◌, ◌<◌, ◌≤◌, nat_lt, nat_le, List, length, arith}
use Rattle.std.specs.List.{list_all}
use Rattle.std.proofs.lemmas.Bool.{and_parts, ltb-true, leb-true, eqb-false, not-true}
use Rattle.std.proofs.lemmas.Bool.Decides.{nat_tests}
use Rattle.std.proofs.lemmas.List.Elements.{All-weaker}
use Rattle.std.proofs.lemmas.List.Sums.{AllPass-from_list_all, list_all-from_AllPass}
use Rattle.ir_types.specs.Names.{IsName, is_name}

zero-not : (byte : ℕ) → not (byte == 0) ≡ true → byte ≢ 0
zero-not byte e = eqb-false byte 0 (not-true (byte == 0) e)

not-zero : (byte : ℕ) → byte ≢ 0 → not (byte == 0) ≡ true
not-zero byte h = grind (arith, nat_tests)

pub name-is : (name : List ℕ) → is_name name ≡ true → IsName name
name-is name e =
    let a = and_parts (nat_lt 0 (length name) && nat_le (length name) 4096) (list_all (λ byte. not (byte == 0)) name) e in
    let b = and_parts (nat_lt 0 (length name)) (nat_le (length name) 4096) a.0 in
    record {
      not_empty = ltb-true 0 (length name) b.0;
      short = leb-true (length name) 4096 b.1;
      no_zero = All-weaker (λ byte. not (byte == 0) ≡ true) (λ byte. byte ≢ 0) zero-not name (AllPass-from_list_all (λ byte. not (byte == 0)) name a.1);
    }

pub is-name : (name : List ℕ) → IsName name → is_name name ≡ true
is-name name n =
    let there : 0 < length name = n.not_empty in
    let short : length name ≤ 4096 = n.short in
    let all : list_all (λ byte. not (byte == 0)) name ≡ true = list_all-from_AllPass (λ byte. not (byte == 0)) name (All-weaker (λ byte. byte ≢ 0) (λ byte. not (byte == 0) ≡ true) not-zero name n.no_zero) in
    grind (arith, nat_tests)
