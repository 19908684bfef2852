use Rattle.std.proofs.Common.{string_bytes, rules, tests, ◌∙◌, sym, ap}
use Rattle.std.proofs.lemmas.Iterator.Search.{all_from_yields_List}
use Rattle.std.proofs.lemmas.Iterator.Consumers.{YieldsList-from_rest}
use Rattle.manifest.specs.Manifest.{manifest_keys}
use Rattle.manifest.specs.Reading as reading
use Rattle.manifest.proofs.KeysPass.{keys_pass-members_view}
use Rattle.manifest.proofs.shape.has_only_manifest_keys.Goals as goal

pub returns-in-Some : goal.returns-in-Some
returns-in-Some c =
    all_from_yields_List (λ key. reading.is_among manifest_keys (string_bytes key)) _ _ c.all.result c.all.ensures.ran
    (YieldsList-from_rest _ c.keys.ensures.rest) (λ x b q k. search (rules, tests))
    ∙ sym (keys_pass-members_view (reading.is_among manifest_keys) c.in-Some.members.now.entries)
    ∙ ap (reading.members_pass (reading.is_among manifest_keys)) c.in-Some.ensures
