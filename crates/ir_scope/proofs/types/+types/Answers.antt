use Rattle.std.proofs.Common.{◌≡◌, ◌∙◌, ◌≤◌, ◌+◌, ◌-◌, ◌∷◌, ◌++◌, [], Some, None, length, drop, length-drop, ap, sym, arith}
use Rattle.std.proofs.lemmas.List.{take_rest}
use Rattle.ir_types.specs.declared.shape.Ty.{Ty}
use Rattle.ir_grammar.specs.declared.lexeme.Lexeme.{Lexeme}
use Rattle.ir_grammar.specs.Tokens.{seen}
use Rattle.ir_scope.specs.Runs.{runs}
use Rattle.ir_scope.specs.Scopes.{type_among}
use Rattle.ir_scope.specs.Types.{type_at, begins_field}
use Rattle.ir_scope.proofs.Runs.{read_on, loop_more, loop_none, loop_end}
use Rattle.ir_scope.proofs.Typing.{fields_many, fields_none}
use Rattle.ir_scope.proofs.types.+types.Goals as goal

pub read_fields-returns-then-not-branch-clause-none : goal.read_fields-returns-then-not-branch-clause-none
read_fields-returns-then-not-branch-clause-none t c =
    let many = rw c.if-not-branch.true at c.in_ok-add-in-Some.ensures.added in
    let here = rw c.in-Some.is at c.in_ok-field.ensures.exact in
    fields_many (seen c.args.kept.now) (c.reading.fields.types ++ c.in-Some.field.ty ∷ []) (c.reading.fields.taken + c.in-Some.field.taken) _ _ many
    (loop_more begins_field (type_at (type_among c.args.scope.now.types) c.args.depth) _ c.args.kept.now _ c.reading.fields.taken c.reading.fields.types c.in-Some.field.ty c.in-Some.field.taken
    (take_rest c.args.kept.now c.reading.fields.taken) c.reading-test.ensures here c.in-Some.field.fits.0 c.reading.invariant.read)

pub read_fields-reading-preserved : goal.read_fields-reading-preserved
read_fields-reading-preserved t c =
    let added = rw c.if-not-branch.false at c.in_ok-add-in-Some.ensures.added in
    let here = rw c.in-Some.is at c.in_ok-field.ensures.exact in
    let enough = rw c.in-Some.is at c.in_ok-field.ensures.within in
    record {
      read = ap (λ ts. read_on ts c.add.new.self.taken (runs begins_field (type_at (type_among c.args.scope.now.types) c.args.depth) (drop c.add.new.self.taken (seen c.args.kept.now)))) added.0
          ∙ (ap (λ n. read_on (c.reading.fields.types ++ c.in-Some.field.ty ∷ []) n (runs begins_field (type_at (type_among c.args.scope.now.types) c.args.depth) (drop n (seen c.args.kept.now)))) added.1
          ∙ loop_more begins_field (type_at (type_among c.args.scope.now.types) c.args.depth) _ c.args.kept.now _ c.reading.fields.taken c.reading.fields.types c.in-Some.field.ty c.in-Some.field.taken
          (take_rest c.args.kept.now c.reading.fields.taken) c.reading-test.ensures here c.in-Some.field.fits.0 c.reading.invariant.read);
      within = omega (arith, added.1, enough, ap (length {A = Lexeme}) (take_rest c.args.kept.now c.reading.fields.taken), length-drop c.reading.fields.taken c.args.kept.now, c.reading.invariant.within);
    }

pub read_fields-returns-in-None-clause-none : goal.read_fields-returns-in-None-clause-none
read_fields-returns-in-None-clause-none t c =
    let here = rw c.in-None.is at c.in_ok-field.ensures.exact in
    fields_none (seen c.args.kept.now) _
    (loop_none begins_field (type_at (type_among c.args.scope.now.types) c.args.depth) _ c.args.kept.now _ c.reading.fields.taken c.reading.fields.types (take_rest c.args.kept.now c.reading.fields.taken) c.reading-test.ensures here c.reading.invariant.read)

pub read_fields-returns-clause-some : goal.read_fields-returns-clause-some
read_fields-returns-clause-some t c =
    loop_end begins_field (type_at (type_among c.args.scope.now.types) c.args.depth) _ c.args.kept.now _ c.reading.fields.taken c.reading.fields.types (take_rest c.args.kept.now c.reading.fields.taken) c.reading-test.ensures c.reading.invariant.read
