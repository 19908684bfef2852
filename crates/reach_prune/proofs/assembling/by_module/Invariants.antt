-- the members so far by modules, and those that are left have modules
use Rattle.std.proofs.Common.{◌<◌, All}
use Rattle.demands.specs.Order.{symbol_of}
use Rattle.reach_prune.specs.Mirrors.Split.{AreSplit}
use Rattle.reach_prune.proofs.assembling.by_module.Given as goal

abbrev pub invariant-loop-member : goal.invariant-loop-member
invariant-loop-member l = AreSplit l.fn.modules l.yielded l.lists.items × All (λ member. (symbol_of member.demand).«module» < l.fn.modules) l.member-iterator.rest.items
