-- Rows in order as a function, for what a row needs as a function of the row.
use Rattle.std.specs.Prelude.{ℕ, List, [], ◌∷◌}
use Rattle.std.specs.Ordering.{nat_cmp}
use Rattle.std.specs.Cmp.Lexicographic.{slice_cmp}
use Rattle.std.specs.declared.cmp.Ordering.{Ordering}
use Rattle.std.specs.declared.cmp.Ordering.TheVariants.{Less, Equal, Greater}

-- a row at its place beside another, where `more` is what it and the rows behind the other are
abbrev pub placed : Ordering → List ℕ → List ℕ → List (List ℕ) → List (List ℕ) → List (List ℕ)
placed Less row other rest more = row ∷ other ∷ rest
placed Equal row other rest more = other ∷ rest
placed Greater row other rest more = other ∷ more

abbrev pub with_row : List ℕ → List (List ℕ) → List (List ℕ)
with_row row [] = row ∷ []
with_row row (other ∷ rest) = placed (slice_cmp nat_cmp row other) row other rest (with_row row rest)

-- the rows in row order, each once
abbrev pub ordered : List (List ℕ) → List (List ℕ)
ordered [] = []
ordered (row ∷ rows) = with_row row (ordered rows)
