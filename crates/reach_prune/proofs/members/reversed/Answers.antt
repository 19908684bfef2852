use Rattle.std.specs.List.{filter_map}
use Rattle.winnowed_form.specs.Members.{member_of}
use Rattle.reach_prune.proofs.Membering.{reversed_next}
use Rattle.reach_prune.proofs.members.reversed.Goals as goal

pub loop-pair-preserved : goal.loop-pair-preserved
loop-pair-preserved c =
    reversed_next (member_of c.args.p.now) c.loop-pair.pieces c.pop.new.self c.in-Some.pair c.loop-pair.members.items c.add_member.new.members.items (filter_map (member_of c.args.p.now) c.args.pieces) c.in-Some.ensures
    c.in_ok-add_member.ensures c.loop-pair.invariant
