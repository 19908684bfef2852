-- the names so far, and those that are left
use Rattle.std.proofs.Common.{◌≡◌, ◌≤◌, ◌++◌, true, drop}
use Rattle.ir_grammar.specs.Tokens.{seen}
use Rattle.ir_locals.specs.Locals.{named, results_from, result_names, are_locals}
use Rattle.ir_locals.specs.Adding.{waiting_name}
use Rattle.ir_locals.proofs.table.Locals.add_registers.Given as goal

abbrev pub invariant-loop-lexeme : goal.invariant-loop-lexeme
invariant-loop-lexeme l = record {
  made : l.self ++ named l.number (results_from (waiting_name l.text) (seen (drop l.lexeme-index l.kept))) ≡ l.initial.self ++ named 0 (result_names (seen l.kept));
  well : are_locals l.self ≡ true;
  few : l.number ≤ l.lexeme-index;
}
