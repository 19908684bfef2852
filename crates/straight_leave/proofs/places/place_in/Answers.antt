use Rattle.std.proofs.Common.{◌∙◌, ap, sym, bytes_eq, position}
use Rattle.straight_leave.proofs.RowPlaces.{place_where_none}
use Rattle.straight_leave.proofs.places.place_in.Goals as goal

pub returns-in-None : goal.returns-in-None
returns-in-None c =
    place_where_none c.args.rows.now.keys (record { place = c.args.place; pattern = c.args.pattern.now }) c.len-in-None.result c.len-in-None.ensures.len
    (ap (λ row. position (bytes_eq row) c.args.rows.now.keys) (sym c.in_ok-row.ensures) ∙ sym c.in-None.ensures.index)
