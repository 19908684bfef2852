-- Parts that are written one after another are read again, one after another.
use Rattle.std.proofs.Common.{◌≡◌, ◌∙◌, ◌+◌, ◌<◌, Bool, true, false, List, [], ◌∷◌, ◌++◌, length, map, Some, sym, ap, subst, arith, append_assoc, length-append}
use Rattle.std.specs.Prelude.{All}
use Rattle.std.proofs.Math.Seq.{drop-append_seam}
use Rattle.std.proofs.lemmas.Bool.{false≢true}
use Rattle.std.proofs.lemmas.List.Elements.{All-head, All-tail}
use Rattle.ir_grammar.specs.declared.shape.Shape.{Shape}
use Rattle.ir_scope.specs.Runs.{Reading, runs, begins_with, closed_by}
use Rattle.ir_scope.proofs.Runs.{with_first, runs-step, runs-stop, closed-is}
use Rattle.round_trip.proofs.Grammar.Kept.{Lexemes, joined}

-- ---- lexemes with others behind them

pub begins_on : (test : Shape → Bool) (ks rest : Lexemes) → begins_with test ks ≡ true → begins_with test (ks ++ rest) ≡ true
begins_on test [] rest h = absurd (false≢true h)
begins_on test (k ∷ ks) rest h = h

pub some_begin : (test : Shape → Bool) (ks : Lexemes) → begins_with test ks ≡ true → 0 < length ks
some_begin test [] h = absurd (false≢true h)
some_begin test (k ∷ ks) h = omega arith

-- a reading of these lexemes, and behind them one that ends it
pub closed_back : {X : Type 0} (ends : Shape → Bool) (ks rest : Lexemes) (x : X) → begins_with ends rest ≡ true → closed_by ends (ks ++ rest) (Some (x, length ks)) ≡ Some (x, length ks + 1)
closed_back ends ks rest x h = closed-is ends (ks ++ rest) x (length ks) (ap (begins_with ends) (drop-append_seam ks rest) ∙ h)

-- ---- runs where what is read depends on what stands behind

-- Lexemes that begin a part, and are read as it before whatever may follow a part.
pub record IsPart {X : Type 0} (begins : Shape → Bool) (part : Reading X) (MayFollow : Lexemes → Type 0) (x : X) (ks : Lexemes) : Type 0 where
  pub starts : begins_with begins ks ≡ true
  pub follows : (rest : Lexemes) → MayFollow (ks ++ rest)
  pub back : (rest : Lexemes) → MayFollow rest → part (ks ++ rest) ≡ Some (x, length ks)

-- each list of lexemes is one of these parts, in order
abbrev pub AreParts : {X : Type 0} → (Shape → Bool) → Reading X → (Lexemes → Type 0) → List X → List Lexemes → Type 0
AreParts begins part MayFollow [] [] = Unit {0}
AreParts begins part MayFollow [] (ks ∷ lists) = ⊥
AreParts begins part MayFollow (x ∷ xs) [] = ⊥
AreParts begins part MayFollow (x ∷ xs) (ks ∷ lists) = IsPart begins part MayFollow x ks × AreParts begins part MayFollow xs lists

module _ {X : Type 0} (begins : Shape → Bool) (part : Reading X) (MayFollow : Lexemes → Type 0) where
  parts_follow : (xs : List X) (lists : List Lexemes) (rest : Lexemes) → AreParts begins part MayFollow xs lists → MayFollow rest → MayFollow (joined lists ++ rest)
  parts_follow [] [] rest are may = may
  parts_follow [] (ks ∷ lists) rest are may = absurd are
  parts_follow (x ∷ xs) [] rest are may = absurd are
  parts_follow (x ∷ xs) (ks ∷ lists) rest are may = subst MayFollow (sym (append_assoc ks (joined lists) rest)) (are.0.follows (joined lists ++ rest))

  pub parts_back : (xs : List X) (lists : List Lexemes) (rest : Lexemes) → AreParts begins part MayFollow xs lists → MayFollow rest → begins_with begins rest ≡ false →
      runs begins part (joined lists ++ rest) ≡ Some (xs, length (joined lists))
  parts_back [] [] rest are may ends = runs-stop begins part rest ends
  parts_back [] (ks ∷ lists) rest are may ends = absurd are
  parts_back (x ∷ xs) [] rest are may ends = absurd are
  parts_back (x ∷ xs) (ks ∷ lists) rest are may ends =
      let more : Lexemes = joined lists ++ rest in
      ap (runs begins part) (append_assoc ks (joined lists) rest)
      ∙ runs-step begins part (ks ++ more) x (length ks) (begins_on begins ks more are.0.starts) (sym (are.0.back more (parts_follow xs lists rest are.1 may))) (some_begin begins ks are.0.starts)
      ∙ ap (λ qs. with_first x (length ks) (runs begins part qs)) (drop-append_seam ks more)
      ∙ ap (with_first x (length ks)) (parts_back xs lists rest are.1 may ends)
      ∙ ap (λ n. Some (x ∷ xs, n)) (sym (length-append ks (joined lists)))

-- ---- runs of parts that are read as themselves wherever they stand

-- Lexemes that begin a part, and are read as it whatever stands behind them.
pub record IsReadBack {X : Type 0} (begins : Shape → Bool) (part : Reading X) (x : X) (ks : Lexemes) : Type 0 where
  pub starts : begins_with begins ks ≡ true
  pub back : (rest : Lexemes) → part (ks ++ rest) ≡ Some (x, length ks)

module _ {X : Type 0} (begins : Shape → Bool) (part : Reading X) (kept : X → Lexemes) where
  are_parts : (xs : List X) → All (λ x. IsReadBack begins part x (kept x)) xs → AreParts begins part (λ rest. Unit {0}) xs (map kept xs)
  are_parts [] all = tt
  are_parts (x ∷ xs) all =
      let first : IsReadBack begins part x (kept x) = All-head (λ x. IsReadBack begins part x (kept x)) x xs all in
      (record { starts = first.starts; follows = λ rest. tt; back = λ rest may. first.back rest }, are_parts xs (All-tail (λ x. IsReadBack begins part x (kept x)) x xs all))

  pub runs_back : (xs : List X) (rest : Lexemes) → All (λ x. IsReadBack begins part x (kept x)) xs → begins_with begins rest ≡ false → runs begins part (joined (map kept xs) ++ rest) ≡ Some (xs, length (joined (map kept xs)))
  runs_back xs rest all ends = parts_back begins part (λ rest. Unit {0}) xs (map kept xs) rest (are_parts xs all) tt ends

  -- and a lexeme that ends the run
  pub closed_runs_back : (ends : Shape → Bool) (xs : List X) (rest : Lexemes) → All (λ x. IsReadBack begins part x (kept x)) xs → begins_with begins rest ≡ false → begins_with ends rest ≡ true →
      closed_by ends (joined (map kept xs) ++ rest) (runs begins part (joined (map kept xs) ++ rest)) ≡ Some (xs, length (joined (map kept xs)) + 1)
  closed_runs_back ends xs rest all stops closes = ap (closed_by ends (joined (map kept xs) ++ rest)) (runs_back xs rest all stops) ∙ closed_back ends (joined (map kept xs)) rest xs closes
