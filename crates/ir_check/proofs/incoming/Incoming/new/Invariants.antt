-- as many blocks so far as were counted, none of them with an edge
use Rattle.std.proofs.Common.{◌≡◌, [], map, replicate}
use Rattle.ir_check.proofs.incoming.Incoming.new.Given as goal

abbrev pub invariant-loop : goal.invariant-loop
invariant-loop l = map (λ block. block.items) l.blocks.items ≡ replicate l.counter []
