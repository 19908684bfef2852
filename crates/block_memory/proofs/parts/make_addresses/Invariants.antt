use Rattle.std.proofs.Common.{◌≡◌, ◌≤◌, ◌+◌, ◌++◌, ◌-◌, length, replicate, vec_capacity}
use Rattle.block_memory.specs.declared.mark.Address.TheVariants as address
use Rattle.block_memory.proofs.parts.make_addresses.Given as goal

abbrev pub invariant-loop-place : goal.invariant-loop-place
invariant-loop-place l = record {
  items : l.addresses.items ≡ l.fn.addresses.items ++ replicate (l.place - length l.fn.addresses.items) address.Unused;
  room : vec_capacity l.fn.addresses ≤ vec_capacity l.addresses;
  from : length l.fn.addresses.items ≤ l.place;
  upto : l.place - length l.fn.addresses.items ≤ l.at + 1 - length l.fn.addresses.items;
}
