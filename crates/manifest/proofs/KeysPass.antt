-- A test of each key of an object, over the entries that hold it.
use Rattle.std.proofs.Common.{◌≡◌, ℕ, List, [], ◌∷◌, Bool, ◌&&◌, String, Global, string_bytes, refl, ap}
use Rattle.std.specs.List.{list_all}
use Rattle.std.specs.Map.{keys_of}
use Rattle.serde_json.specs.View.{members_view}
use Rattle.serde_json.specs.declared.value.Value.{Value}
use Rattle.manifest.specs.Reading.{keys_pass}

pub keys_pass-members_view : (test : List ℕ → Bool) (es : List (String Global × Value)) → keys_pass test (members_view es) ≡ list_all (λ key. test (string_bytes key)) (keys_of es)
keys_pass-members_view test [] = refl
keys_pass-members_view test (e ∷ es) = ap (λ b. test (string_bytes e.0) && b) (keys_pass-members_view test es)
