-- The tests of names decide what names are.
use Rattle.std.proofs.Common.{◌≡◌, ◌≢◌, ℕ, ◌≤◌, List, [], length, codes, Bool, not, bytes_eq, refl, sym, arith, eqb-true, eq-eqb, eqb}
use Rattle.std.specs.Prelude.{Decides, All, Contains, nat_le, ◌==◌}
use Rattle.std.specs.Char.{IsAsciiAlphanumeric, is_ascii_alphanumeric}
use Rattle.std.specs.List.{list_all, list_any}
use Rattle.std.specs.Cmp.Lexicographic.{nat_list_eq_equiv}
use Rattle.std.proofs.lemmas.Bool.{leb-true, le-leb}
use Rattle.std.proofs.lemmas.Bool.Decides.{Decides-eqb, Decides-like, Decides-not, Decides-and, Decides-or, Decides-by_and, Decides-by_or, nat_tests}
use Rattle.std.proofs.lemmas.List.Elements.{Decides-contains}
use Rattle.std.proofs.lemmas.Map.Made.{IsDistinct-from_count, distinct_count-from_IsDistinct, AllPairs-from_IsDistinct, IsDistinct-from_AllPairs}
use Rattle.std.proofs.lemmas.Slice.Eq.{bytes_eq-Decides}
use Rattle.ir_types.specs.Names.{IsName, is_name}
use Rattle.manifest.specs.Names.{IsModuleByte, IsPart, IsModuleName, AreDistinct, parts}
use Rattle.manifest.specs.Reading.{is_among, is_module_byte, is_part, is_module_name, are_distinct}

pub Decides-le : (a b : ℕ) → Decides (nat_le a b) (a ≤ b)
Decides-le a b = (leb-true a b, le-leb a b)

pub Decides-all : {X : Type 0} (test : X → Bool) (P : X → Type 0) → ((x : X) → Decides (test x) (P x)) → (xs : List X) → Decides (list_all test xs) (All P xs)
Decides-all test P each xs = Decides-by_and test P (list_all test) each refl (λ _ _. refl) xs

pub Decides-any : {X : Type 0} (E : X → X → Bool) → ((x y : X) → Decides (E x y) (x ≡ y)) → (xs : List X) (x : X) → Decides (list_any (E x) xs) (Contains xs x)
Decides-any E same xs x =
    Decides-contains xs x _ (Decides-by_or (E x) (λ y. y ≡ x) (list_any (E x)) (λ y. (λ e. sym ((same x y).0 e), λ e. (same x y).1 (sym e))) refl (λ _ _. refl) xs)

pub is_among-Decides : (keys : List (List ℕ)) (key : List ℕ) → Decides (is_among keys key) (Contains keys key)
is_among-Decides keys key = Decides-any bytes_eq bytes_eq-Decides keys key

alphanumeric-Decides : (b : ℕ) → Decides (is_ascii_alphanumeric b) (IsAsciiAlphanumeric b)
alphanumeric-Decides b = (λ e. grind (arith, nat_tests), λ h. grind (arith, nat_tests))

is_module_byte-Decides : (b : ℕ) → Decides (is_module_byte b) (IsModuleByte b)
is_module_byte-Decides b = Decides-or _ _ (alphanumeric-Decides b) (Decides-any eqb Decides-eqb (codes "._/-") b)

is_part-Decides : (part : List ℕ) → Decides (is_part part) (IsPart part)
is_part-Decides part =
    Decides-like (is_part part) (λ p. (p.0.0, p.0.1, p.1)) (λ p. ((p.0, p.1), p.2))
    (Decides-and _ _ (Decides-and _ _ (Decides-not _ (bytes_eq-Decides part [])) (Decides-not _ (bytes_eq-Decides part (codes ".")))) (Decides-not _ (bytes_eq-Decides part (codes ".."))))

pub is_module_name-Decides : (name : List ℕ) → Decides (is_module_name name) (IsModuleName name)
is_module_name-Decides name =
    Decides-like (is_module_name name)
    (λ p. record { some = p.0.0.0; short = p.0.0.1; bytes = p.0.1; whole = p.1 })
    (λ n. (((n.some, n.short), n.bytes), n.whole))
    (Decides-and _ _ (Decides-and _ _ (Decides-and _ _ (Decides-le 1 (length name)) (Decides-le (length name) 255))
    (Decides-all is_module_byte IsModuleByte is_module_byte-Decides name))
    (Decides-all is_part IsPart is_part-Decides (parts name)))

pub is_name-Decides : (name : List ℕ) → Decides (is_name name) (IsName name)
is_name-Decides name =
    Decides-like (is_name name)
    (λ p. record { not_empty = p.0.0; short = p.0.1; no_zero = p.1 })
    (λ n. ((n.not_empty, n.short), n.no_zero))
    (Decides-and _ _ (Decides-and _ _ (Decides-le 1 (length name)) (Decides-le (length name) 4096))
    (Decides-all (λ b. not (b == 0)) (λ b. b ≢ 0) (λ b. Decides-not _ (Decides-eqb b 0)) name))

pub are_distinct-Decides : (names : List (List ℕ)) → Decides (are_distinct names) (AreDistinct names)
are_distinct-Decides names = (
  λ e. AllPairs-from_IsDistinct bytes_eq-Decides names (IsDistinct-from_count nat_list_eq_equiv names (eqb-true _ _ e)),
  λ apart. eq-eqb _ _ (distinct_count-from_IsDistinct nat_list_eq_equiv names (IsDistinct-from_AllPairs bytes_eq-Decides names apart)),
)
