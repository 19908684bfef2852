-- Rows that are listed one by one.
use Rattle.std.proofs.Common.{◌≡◌, ◌∙◌, ℕ, List, [], ◌∷◌, ◌++◌, Option, None, Some, map, refl, sym, ap}
use Rattle.std.specs.Prelude.{option_to_list}
use Rattle.std.specs.List.{cons_option}
use Rattle.demands.specs.declared.demand.Demand.{Demand}
use Rattle.demands.specs.Rows.{words_of}

-- a demand, if there is one, before others
pub cons_rows : (o : Option Demand) (ds : List Demand) → map words_of (cons_option o ds) ≡ map words_of (option_to_list o) ++ map words_of ds
cons_rows None ds = refl
cons_rows (Some d) ds = refl

pub assoc : {A : Type 0} (xs ys zs : List A) → (xs ++ ys) ++ zs ≡ xs ++ (ys ++ zs)
assoc [] ys zs = refl
assoc (x ∷ xs) ys zs = ap (λ l. x ∷ l) (assoc xs ys zs)

-- one more is listed
pub rows_step : (rows next whole : List (List ℕ)) (o : Option Demand) (ds : List Demand) → next ≡ rows ++ map words_of (option_to_list o) → rows ++ map words_of (cons_option o ds) ≡ whole
    → next ++ map words_of ds ≡ whole
rows_step rows next whole o ds made so = ap (λ l. l ++ map words_of ds) made ∙ assoc rows (map words_of (option_to_list o)) (map words_of ds) ∙ ap (λ l. rows ++ l) (sym (cons_rows o ds)) ∙ so
