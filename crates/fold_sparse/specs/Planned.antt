-- What a solver lists of a function beforehand.
use Rattle.std.specs.Prelude.{◌≡◌, List, length}
use Rattle.ir_syntax.specs.declared.body.Block.{Block}
use Rattle.fold_facts.specs.OfFunction.{results_in}
use Rattle.fold_sparse.specs.declared.plan.Plan.{Plan}
use Rattle.fold_sparse.specs.Groups.{AreGrouped}
use Rattle.fold_sparse.specs.Looks.{looks_of, uses_from, sources_from, homes_from}

pub record IsPlan (blocks : List Block) (plan : Plan) : Type 0 where
  pub looks : plan.looks ≡ looks_of blocks
  pub uses : AreGrouped plan.uses.lists.items (length (results_in blocks)) (uses_from blocks 0 (looks_of blocks))
  pub sources : AreGrouped plan.sources.lists.items (length blocks) (sources_from 0 (looks_of blocks))
  pub homes : AreGrouped plan.homes.lists.items (length blocks) (homes_from 0 (looks_of blocks))
