-- the names so far, and those that are left
use Rattle.std.proofs.Common.{◌≡◌, ◌+◌, ◌≤◌, ◌++◌, true, drop}
use Rattle.ir_grammar.specs.Tokens.{seen}
use Rattle.ir_locals.specs.declared.local.Local.TheVariants.{Block}
use Rattle.ir_locals.specs.Locals.{numbered, label_names, are_locals}
use Rattle.ir_locals.proofs.table.Locals.add_labels.Given as goal

abbrev pub invariant-loop-lexeme : goal.invariant-loop-lexeme
invariant-loop-lexeme l = record {
  made : l.self ++ numbered Block l.place (label_names (seen (drop l.lexeme-index l.kept))) ≡ l.initial.self ++ numbered Block l.first (label_names (seen l.kept));
  well : are_locals l.self ≡ true;
  few : l.place ≤ l.lexeme-index + 1;
}
