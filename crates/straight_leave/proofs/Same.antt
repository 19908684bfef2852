-- Asks are the same where their rows are.
use Rattle.std.proofs.Common.{◌≡◌, ◌∙◌, ℕ, zero, suc, ◌+◌, ◌^◌, Bool, true, false, cond, not, ◌&&◌, ◌==◌, nat_lt, nat_le, List, [], ◌∷◌, length, bytes_eq, refl, ap, sym, subst, arith, if◌then◌else◌}
use Rattle.std.specs.List.{position_or_len}
use Rattle.std.proofs.lemmas.Bool.Decides.{nat_tests}
use Rattle.std.proofs.lemmas.Slice.Eq.{bytes_eq-Decides}
use Rattle.ir_types.specs.declared.scalar.Known.{Known}
use Rattle.ir_types.specs.declared.scalar.Known.TheVariants.{Unknown, Num, Null}
use Rattle.demands.specs.declared.demand.Demand.{Demand}
use Rattle.demands.specs.Order.{symbol_of, pattern_of}
use Rattle.demands.specs.Rows.{words_of, FitsRow}
use Rattle.straight_plan.specs.declared.cut.Ask.{Ask}
use Rattle.straight_plan.specs.declared.cut.Cut.{Cut}
use Rattle.straight_plan.specs.Asked.{demand_of}
use Rattle.straight_plan.specs.Left.{asks_of, same_known, same_pattern, same_ask, place_of}
use Rattle.straight_leave.specs.Places.{row_of, rows_of, has_row, place_in}

both : (a b : Bool) → (a && b) ≡ true → (a ≡ true) × (b ≡ true)
both true b h = (refl, h)
both false b h = cc

alike : (a b : Bool) → (a ≡ true → b ≡ true) → (b ≡ true → a ≡ true) → a ≡ b
alike true b f g = sym (f refl)
alike false true f g = g refl
alike false false f g = refl

known-same : (p q : Known) → same_known p q ≡ true → p ≡ q
known-same Unknown Unknown h = refl
known-same Unknown (Num n) h = cc
known-same Unknown Null h = cc
known-same (Num k) Unknown h = cc
known-same (Num k) (Num n) h = let same : k ≡ n = grind (arith, nat_tests) in ap Num same
known-same (Num k) Null h = cc
known-same Null Unknown h = cc
known-same Null (Num n) h = cc
known-same Null Null h = refl

same-known : (p : Known) → same_known p p ≡ true
same-known Unknown = refl
same-known (Num k) = grind (arith, nat_tests)
same-known Null = refl

pattern-same : (p q : List Known) → same_pattern p q ≡ true → p ≡ q
pattern-same [] [] h = refl
pattern-same [] (q ∷ qs) h = cc
pattern-same (p ∷ ps) [] h = cc
pattern-same (p ∷ ps) (q ∷ qs) h = let parts = both (same_known p q) (same_pattern ps qs) h in λ i. known-same p q parts.0 i ∷ pattern-same ps qs parts.1 i

same-pattern : (p : List Known) → same_pattern p p ≡ true
same-pattern [] = refl
same-pattern (p ∷ ps) = ap (λ b. b && same_pattern ps ps) (same-known p) ∙ same-pattern ps

pub ask-same : (a b : Ask) → same_ask a b ≡ true → a ≡ b
ask-same a b h =
    let parts = both (a.place == b.place) (same_pattern a.pattern b.pattern) h in
    let place : a.place ≡ b.place = grind (arith, nat_tests, parts.0) in
    λ i. record { place = place i; pattern = pattern-same a.pattern b.pattern parts.1 i }

pub same-ask : (a : Ask) → same_ask a a ≡ true
same-ask a =
    let place : (a.place == a.place) ≡ true = grind (arith, nat_tests) in
    ap (λ b. b && same_pattern a.pattern a.pattern) place ∙ same-pattern a.pattern

-- ---- rows

abbrev pub RowsApart : Type 0
RowsApart = (a b : Demand) → FitsRow a → FitsRow b → words_of a ≡ words_of b → a ≡ b

ask_of : Demand → Ask
ask_of d = record { place = (symbol_of d).item; pattern = pattern_of d }

pub row-same : RowsApart → (a b : Ask) → FitsRow (demand_of a) → FitsRow (demand_of b) → row_of a ≡ row_of b → a ≡ b
unfolding ask_of
row-same apart a b f g h = ap ask_of (apart (demand_of a) (demand_of b) f g h)

pub fits-has_row : (a : Ask) → has_row a ≡ true → FitsRow (demand_of a)
fits-has_row a h =
    let parts = both (nat_lt a.place (2 ^ 32)) (nat_le (length a.pattern) 32) h in
    record {
      symbol = record { short_module = omega arith; short_item = grind (arith, nat_tests, parts.0) };
      items = grind (arith, nat_tests, parts.1);
    }

pub has_row-fits : (a : Ask) → FitsRow (demand_of a) → has_row a ≡ true
has_row-fits a f =
    let place : nat_lt a.place (2 ^ 32) ≡ true = grind (arith, nat_tests, f.symbol.short_item) in
    let items : nat_le (length a.pattern) 32 ≡ true = grind (arith, nat_tests, f.items) in
    ap (λ b. b && nat_le (length a.pattern) 32) place ∙ items

abbrev pub AllFit : List Cut → Type 0
AllFit [] = Unit {0}
AllFit (cut ∷ plan) = FitsRow (demand_of cut.ask) × AllFit plan

test_is : RowsApart → (ask first : Ask) → FitsRow (demand_of ask) → FitsRow (demand_of first) → bytes_eq (row_of ask) (row_of first) ≡ same_ask first ask
test_is apart ask first f g =
    alike (bytes_eq (row_of ask) (row_of first)) (same_ask first ask)
    (λ h. let same = row-same apart ask first f g ((bytes_eq-Decides (row_of ask) (row_of first)).0 h) in subst (λ (a : Ask). same_ask a ask ≡ true) same (same-ask ask))
    (λ h. (bytes_eq-Decides (row_of ask) (row_of first)).1 (ap row_of (sym (ask-same first ask h))))

step : (b : Bool) (m n : ℕ) → m ≡ n → cond (not b) (1 + m) 0 ≡ (if b then zero else suc n)
step true m n h = refl
step false m n h = omega arith

place_by_row : RowsApart → (plan : List Cut) (ask : Ask) → AllFit plan → FitsRow (demand_of ask) → position_or_len (bytes_eq (row_of ask)) (rows_of plan) ≡ place_of (asks_of plan) ask
place_by_row apart [] ask all f = refl
place_by_row apart (cut ∷ plan) ask all f =
    ap (λ b. cond (not b) (1 + position_or_len (bytes_eq (row_of ask)) (rows_of plan)) 0) (test_is apart ask cut.ask f all.0)
    ∙ step (same_ask cut.ask ask) (position_or_len (bytes_eq (row_of ask)) (rows_of plan)) (place_of (asks_of plan) ask) (place_by_row apart plan ask all.1 f)

place_past : (plan : List Cut) (ask : Ask) → AllFit plan → has_row ask ≡ false → length (rows_of plan) ≡ place_of (asks_of plan) ask
place_past [] ask all none = refl
place_past (cut ∷ plan) ask all none =
    let apart : same_ask cut.ask ask ≡ false = by (same_ask cut.ask ask) refl in
    ap (λ n. suc n) (place_past plan ask all.1 none) ∙ ap (λ b. if b then zero else suc (place_of (asks_of plan) ask)) (sym apart)
  where
    by : (b : Bool) → same_ask cut.ask ask ≡ b → same_ask cut.ask ask ≡ false
    by false e = e
    by true e = let fits : has_row ask ≡ true = subst (λ (a : Ask). has_row a ≡ true) (ask-same cut.ask ask e) (has_row-fits cut.ask all.0) in cc

-- the place by rows is the place among the asks
pub place_is : RowsApart → (plan : List Cut) (ask : Ask) → AllFit plan → place_in (rows_of plan) ask ≡ place_of (asks_of plan) ask
place_is apart plan ask all = by (has_row ask) refl
  where
    by : (b : Bool) → has_row ask ≡ b → place_in (rows_of plan) ask ≡ place_of (asks_of plan) ask
    by true e = ap (λ b. if b then position_or_len (bytes_eq (row_of ask)) (rows_of plan) else length (rows_of plan)) e ∙ place_by_row apart plan ask all (fits-has_row ask e)
    by false e = ap (λ b. if b then position_or_len (bytes_eq (row_of ask)) (rows_of plan) else length (rows_of plan)) e ∙ place_past plan ask all e
