use Rattle.std.proofs.Common.{◌∙◌, ◌<◌, sym, arith}
use Rattle.std.proofs.lemmas.List.{take_rest}
use Rattle.ir_scope.specs.Scopes.{env_of}
use Rattle.ir_constants.proofs.Moving.{is_address, address-untyped, address-baseless, address-moved}
use Rattle.ir_constants.proofs.addresses.+address.Goals as goal

pub address-returns-in-None-clause-exact : goal.address-returns-in-None-clause-exact
address-returns-in-None-clause-exact t c =
    let deep : 0 < c.args.depth = omega arith in
    let is = is_address _ _ _ _ deep c.flag_count-flags.ensures.count c.flag_count-flags.ensures.rest (take_rest c.args.kept.now c.flag_count-flags.result) in
    address-untyped (env_of c.args.scope.now) _ _ _ _ is (sym c.in-None.is ∙ c.in_ok-found.ensures.exact)

pub address-returns-in-None-2-clause-exact : goal.address-returns-in-None-2-clause-exact
address-returns-in-None-2-clause-exact t c =
    let deep : 0 < c.args.depth = omega arith in
    let is = is_address _ _ _ _ deep c.flag_count-flags.ensures.count c.flag_count-flags.ensures.rest (take_rest c.args.kept.now c.flag_count-flags.result) in
    address-baseless (env_of c.args.scope.now) _ _ _ _ _ c.in-Some.found is (sym c.in-Some.is ∙ c.in_ok-found.ensures.exact) (take_rest _ c.in-Some.found.1) (sym c.in-None-2.is ∙ c.in_ok-base.ensures.exact)

pub address-returns-in-Some-3-clause-exact : goal.address-returns-in-Some-3-clause-exact
address-returns-in-Some-3-clause-exact t c =
    let deep : 0 < c.args.depth = omega arith in
    let is = is_address _ _ _ _ deep c.flag_count-flags.ensures.count c.flag_count-flags.ensures.rest (take_rest c.args.kept.now c.flag_count-flags.result) in
    address-moved (env_of c.args.scope.now) _ _ _ _ _ c.in-Some.found c.in-Some-2.base _ is (sym c.in-Some.is ∙ c.in_ok-found.ensures.exact) (take_rest _ c.in-Some.found.1) (sym c.in-Some-2.is ∙ c.in_ok-base.ensures.exact)
    (sym c.in-Some-3.is ∙ c.in_ok-place.ensures.exact)

pub address-returns-clause-exact : goal.address-returns-clause-exact
address-returns-clause-exact t c =
    let deep : 0 < c.args.depth = omega arith in
    let is = is_address _ _ _ _ deep c.flag_count-flags.ensures.count c.flag_count-flags.ensures.rest (take_rest c.args.kept.now c.flag_count-flags.result) in
    address-moved (env_of c.args.scope.now) _ _ _ _ _ c.in-Some.found c.in-Some-2.base _ is (sym c.in-Some.is ∙ c.in_ok-found.ensures.exact) (take_rest _ c.in-Some.found.1) (sym c.in-Some-2.is ∙ c.in_ok-base.ensures.exact)
    (sym c.in-None-3.is ∙ c.in_ok-place.ensures.exact)
