use Rattle.std.proofs.Common.{◌<◌, ◌≤◌, length, arith}
use Rattle.linker.proofs.Steps.{member_past, member_set}
use Rattle.linker.proofs.groups.add_to.Goals as goal

pub returns-in_ok-push : goal.returns-in_ok-push
returns-in_ok-push c =
    let within : c.args.place < length c.args.groups.now.items = omega arith in
    member_set c.args.groups.now.items c.args.place c.args.symbol c.index_mut.result.now c.push.new.self within c.index_mut.ensures.value c.in_ok-push.ensures.ok

pub returns-else-place-len : goal.returns-else-place-len
returns-else-place-len c = let past : length c.args.groups.now.items ≤ c.args.place = omega arith in member_past c.args.groups.now.items c.args.place c.args.symbol past
