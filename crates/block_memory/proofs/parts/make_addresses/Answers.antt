use Rattle.std.proofs.Common.{◌≡◌, ◌-◌, ◌+◌, [], ◌∷◌, ◌++◌, length, replicate, ap, ◌∙◌, arith}
use Rattle.block_memory.specs.declared.mark.Address.TheVariants as address
use Rattle.block_memory.proofs.Keeping.{more_unused}
use Rattle.block_memory.proofs.parts.make_addresses.Goals as goal

pub loop-place-preserved : goal.loop-place-preserved
loop-place-preserved c = record {
  items = c.in-Ok.ensures.items ∙ ap (λ xs. xs ++ (address.Unused ∷ [])) c.loop-place.invariant.items ∙ more_unused c.args.addresses.now.items c.loop-place.place (omega arith);
  room = omega arith;
  from = omega arith;
  upto = omega arith;
}

pub returns-clause-items : goal.returns-clause-items
returns-clause-items c =
    let count : c.loop-place.place - length c.args.addresses.now.items ≡ c.args.at + 1 - length c.args.addresses.now.items = omega arith in
    c.loop-place.invariant.items ∙ ap (λ n. c.args.addresses.now.items ++ replicate n address.Unused) count
