use Rattle.std.proofs.Common.{arith, ◌-◌, ◌<◌}
use Rattle.demand_table.proofs.closing.place_in.Goals as goal

pub offset_bounds-places-named : goal.offset_bounds-places-named
offset_bounds-places-named c = let ne = c.if-named-eq0.false in let low : c.args.named - 1 < 65600 = (c.requires.near (c.args.named - 1) (omega (arith, ne))).0 in omega (arith, low)

pub bounds-places-named : goal.bounds-places-named
bounds-places-named c = let ne = c.if-named-eq0.false in (c.requires.near (c.args.named - 1) (omega (arith, ne))).1
