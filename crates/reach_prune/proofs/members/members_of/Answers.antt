use Rattle.std.specs.List.{filter_map}
use Rattle.winnowed_form.specs.Members.{member_of}
use Rattle.reach_prune.proofs.Membering.{same_members}
use Rattle.reach_prune.proofs.members.members_of.Goals as goal

pub returns : goal.returns
returns c = record {
  are = same_members (filter_map (member_of c.args.p.now) c.args.pieces) c.in_ok-members.members.items c.sort_unstable.new.self.items c.in_ok-members.ensures c.sort_unstable.ensures.permutation;
  ordered = c.sort_unstable.ensures.sorted;
}
