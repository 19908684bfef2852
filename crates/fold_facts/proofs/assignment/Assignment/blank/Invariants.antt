use Rattle.fold_facts.proofs.Blank.{IsBlankTo}
use Rattle.fold_facts.proofs.Indexing.{AreListed}
use Rattle.fold_facts.proofs.assignment.Assignment.blank.Given as goal

abbrev pub invariant-loop-place : goal.invariant-loop-place
invariant-loop-place l = IsBlankTo l.blocks l.fact l.place l.facts l.edges.items l.reached × AreListed l.entered l.edges.items
