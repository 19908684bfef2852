use Rattle.std.proofs.Common.{◌≡◌, ◌++◌, ◌∷◌, [], true, false, subst, MatchBool, List, ℕ}
use Rattle.name_table.specs.Places.{is_among}
use Rattle.linker.proofs.Steps.{listed_step}
use Rattle.linker.proofs.table.names_among.Goals as goal

pub loop-name-preserved : goal.loop-name-preserved
loop-name-preserved c = listed_step c.loop-name.names c.add.new.self c.args.listed.now c.loop-name.name-index c.name-item.result c.in_ok-add.field-0 c.loop-name-test.true c.name-item.is c.loop-name.invariant (subst (λ (n : List ℕ). MatchBool c.in_ok-add.field-0 ((is_among n c.loop-name.names ≡ false) × (c.add.new.self ≡ c.loop-name.names ++ n ∷ [])) ((is_among n c.loop-name.names ≡ true) × (c.add.new.self ≡ c.loop-name.names))) c.as_slice.ensures c.in_ok-add.ensures.ok)
