use Rattle.std.proofs.Common.{◌≡◌, ◌∙◌, ◌+◌, ◌<◌, ◌≤◌, ◌∷◌, [], ap, sym, refl, arith, length, drop, length-drop}
use Rattle.std.proofs.lemmas.List.{take_rest}
use Rattle.ir_grammar.specs.declared.lexeme.Lexeme.{Lexeme}
use Rattle.ir_grammar.specs.Tokens.{seen}
use Rattle.ir_scope.specs.Runs.{behind}
use Rattle.ir_scope.specs.Scopes.{env_of}
use Rattle.ir_constants.specs.Constants.{is_close_square, part_at, parts_at, constant_within}
use Rattle.ir_constants.proofs.Closed.{extended, closed, list_more, list_bad}
use Rattle.ir_constants.proofs.Parts.{front_address, front_square, front_brace, parts_more, parts_bad}
use Rattle.ir_constants.proofs.Spelling.{part_typed, part_untyped, part_known}
use Rattle.ir_constants.proofs.constants.+constants.Goals as goal

pub constant_within-returns-in_ok-address_of-in-Address-clause-exact : goal.constant_within-returns-in_ok-address_of-in-Address-clause-exact
constant_within-returns-in_ok-address_of-in-Address-clause-exact t c =
    c.one_more.ensures ∙ ap (behind 1) c.in_ok-address_of-in-Address.ensures.exact ∙ front_address (env_of c.args.scope.now) c.args.depth c.args.ty.now c.args.kept.now _ _ (take_rest c.args.kept.now 1) c.in-len1-up.len_at_least c.in-Address.is

pub constant_within-returns-in_ok-elements-in-OpenSquare-clause-exact : goal.constant_within-returns-in_ok-elements-in-OpenSquare-clause-exact
constant_within-returns-in_ok-elements-in-OpenSquare-clause-exact t c =
    let deep : 0 < c.args.depth = omega arith in
    c.one_more-in-OpenSquare.ensures ∙ ap (behind 1) c.in_ok-elements-in-OpenSquare.ensures.exact ∙ front_square (env_of c.args.scope.now) c.args.depth c.args.ty.now c.args.kept.now _ _ (take_rest c.args.kept.now 1) deep c.in-len1-up.len_at_least c.in-OpenSquare.is

pub constant_within-returns-in_ok-fields-in-OpenBrace-clause-exact : goal.constant_within-returns-in_ok-fields-in-OpenBrace-clause-exact
constant_within-returns-in_ok-fields-in-OpenBrace-clause-exact t c =
    let deep : 0 < c.args.depth = omega arith in
    c.one_more-in-OpenBrace.ensures ∙ ap (behind 1) c.in_ok-fields-in-OpenBrace.ensures.exact ∙ front_brace (env_of c.args.scope.now) c.args.depth c.args.ty.now c.args.kept.now _ _ (take_rest c.args.kept.now 1) deep c.in-len1-up.len_at_least c.in-OpenBrace.is

pub list-reading-preserved : goal.list-reading-preserved
list-reading-preserved t c =
    let rest = take_rest c.args.kept.now c.reading.at in
    let taken = rw c.in-Some.is at c.in_ok-part.ensures.taken in
    record {
      read = ap (λ ps. extended ps (c.reading.at + c.in-Some.taken) (closed is_close_square (part_at (env_of c.args.scope.now) (constant_within (env_of c.args.scope.now) c.args.depth) c.args.element.now) (seen (drop (c.reading.at + c.in-Some.taken) c.args.kept.now)))) c.in_ok-push-in-Some.ensures.ok
          ∙ list_more is_close_square (part_at (env_of c.args.scope.now) (constant_within (env_of c.args.scope.now) c.args.depth) c.args.element.now) c.args.kept.now _ c.reading.at c.reading.parts c.in-Some.part c.in-Some.taken rest (sym c.ends_elements.ensures ∙ c.reading-test.true) (sym c.in-Some.is ∙ c.in_ok-part.ensures.exact) taken.0 taken.1
          ∙ c.reading.invariant.read;
      within = omega (arith, taken, ap (length {A = Lexeme}) rest, length-drop c.reading.at c.args.kept.now, c.reading.invariant.within);
      known = part_known (env_of c.args.scope.now) (constant_within (env_of c.args.scope.now) c.args.depth) c.args.element.now _ _ (c.in-Some.part, c.in-Some.taken) c.front_name-known.ensures (sym c.in-Some.is ∙ c.in_ok-part.ensures.exact);
    }

pub list-returns-in-None-clause-exact : goal.list-returns-in-None-clause-exact
list-returns-in-None-clause-exact t c =
    list_bad is_close_square (part_at (env_of c.args.scope.now) (constant_within (env_of c.args.scope.now) c.args.depth) c.args.element.now) c.args.kept.now _ c.reading.at c.reading.parts (take_rest c.args.kept.now c.reading.at) (sym c.ends_elements.ensures ∙ c.reading-test.true) (sym c.in-None.is ∙ c.in_ok-part.ensures.exact)
    ∙ c.reading.invariant.read

pub parts-returns-in-None-clause-exact : goal.parts-returns-in-None-clause-exact
parts-returns-in-None-clause-exact t c =
    parts_bad (env_of c.args.scope.now) (constant_within (env_of c.args.scope.now) c.args.depth) c.args.types.now c.reading.ty-index c.ty-item.result c.args.kept.now _ c.reading.at c.reading.parts c.reading-test.true c.ty-item.is (take_rest c.args.kept.now c.reading.at) (sym c.in-None.is ∙ c.in_ok-part.ensures.exact)
    ∙ c.reading.invariant.read

pub parts-reading-preserved : goal.parts-reading-preserved
parts-reading-preserved t c =
    let rest = take_rest c.args.kept.now c.reading.at in
    let taken = rw c.in-Some.is at c.in_ok-part.ensures.taken in
    record {
      read = ap (λ ps. extended ps (c.reading.at + c.in-Some.taken) (parts_at (env_of c.args.scope.now) (constant_within (env_of c.args.scope.now) c.args.depth) (drop (c.reading.ty-index + 1) c.args.types.now) (seen (drop (c.reading.at + c.in-Some.taken) c.args.kept.now)))) c.in_ok-push-in-Some.ensures.ok
          ∙ parts_more (env_of c.args.scope.now) (constant_within (env_of c.args.scope.now) c.args.depth) c.args.types.now c.reading.ty-index c.ty-item.result c.args.kept.now _ c.reading.at c.reading.parts c.in-Some.part c.in-Some.taken c.reading-test.true c.ty-item.is rest (sym c.in-Some.is ∙ c.in_ok-part.ensures.exact)
          ∙ c.reading.invariant.read;
      within = omega (arith, taken, ap (length {A = Lexeme}) rest, length-drop c.reading.at c.args.kept.now, c.reading.invariant.within);
    }

pub part-returns-in-Some-2-clause-exact : goal.part-returns-in-Some-2-clause-exact
part-returns-in-Some-2-clause-exact t c =
    part_typed (env_of c.args.scope.now) (constant_within (env_of c.args.scope.now) c.args.depth) c.args.ty.now c.args.kept.now _ c.in-Some.behind _ (sym c.in-Some.is ∙ c.in_ok-behind.ensures.exact) (take_rest c.args.kept.now c.in-Some.behind) (sym c.in-Some-2.is ∙ c.in_ok-constant.ensures.exact)

pub part-returns-in-None-2-clause-exact : goal.part-returns-in-None-2-clause-exact
part-returns-in-None-2-clause-exact t c =
    part_typed (env_of c.args.scope.now) (constant_within (env_of c.args.scope.now) c.args.depth) c.args.ty.now c.args.kept.now _ c.in-Some.behind _ (sym c.in-Some.is ∙ c.in_ok-behind.ensures.exact) (take_rest c.args.kept.now c.in-Some.behind) (sym c.in-None-2.is ∙ c.in_ok-constant.ensures.exact)

pub part-returns-in-None-clause-exact : goal.part-returns-in-None-clause-exact
part-returns-in-None-clause-exact t c =
    part_untyped (env_of c.args.scope.now) (constant_within (env_of c.args.scope.now) c.args.depth) c.args.ty.now (seen c.args.kept.now) (sym c.in-None.is ∙ c.in_ok-behind.ensures.exact)
