-- Names as they are noted one by one.
use Rattle.std.specs.Prelude.{◌≡◌, ℕ, List, [], ◌∷◌, ◌++◌, is_some, if◌then◌else◌}
use Rattle.std.specs.List.{list_any}
use Rattle.winnowed_form.specs.declared.named.Named.{Named}
use Rattle.reach_prune.specs.declared.notes.Notes.{Notes}
use Rattle.reach_prune.specs.declared.declared.Declared.{Declared}
use Rattle.winnowed_form.specs.Basis.{Basis}
use Rattle.winnowed_form.specs.Items.{declaration}
use Rattle.reach_prune.specs.Mirrors.Places.{kept_place, is_name}

-- A name that is neither defined nor declared so far is declared.
abbrev pub noted : List Named → List Named → Named → List Named
noted defined declared named = if list_any (is_name named) (defined ++ declared) then declared else declared ++ named ∷ []

abbrev pub noted_all : List Named → List Named → List Named → List Named
noted_all defined declared [] = declared
noted_all defined declared (named ∷ more) = noted_all defined (noted defined declared named) more

-- What is seen are the names that are defined or declared.
pub record IsNoting (notes : Notes) : Type 0 where
  pub seen : (named : Named) → is_some (kept_place notes.seen named) ≡ list_any (is_name named) (notes.defined ++ notes.declared)

-- These names were noted.
pub record HasNoted (old : Notes) (names : List Named) (new : Notes) : Type 0 where
  pub noting : IsNoting new
  pub defined : new.defined ≡ old.defined
  pub declared : new.declared ≡ noted_all old.defined old.declared names

-- each name has its declaration
abbrev pub HasItem : Basis → ℕ → Declared → Type 0
HasItem b home declared = declaration b home declared.named ≡ declared.item ∷ []
