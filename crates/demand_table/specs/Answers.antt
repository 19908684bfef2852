-- The answers of the calls.
use Rattle.std.specs.Prelude.{ℕ, Option, option_map, ⊤}
use Rattle.demand_table.specs.declared.answers.Ticket.{Ticket}
use Rattle.demand_table.specs.declared.answers.Inserted.{Inserted}
use Rattle.demand_table.specs.declared.answers.Inserted.TheVariants.{New, There, Full}
use Rattle.demand_table.specs.declared.answers.Claimed.{Claimed}
use Rattle.demand_table.specs.declared.answers.Claimed.TheVariants.{Mine, Taken, NotThere}
use Rattle.demand_table.specs.declared.tried.Tried.{Tried}
use Rattle.demand_table.specs.declared.tried.Tried.TheVariants.{Placed, Named, Beyond}

-- where the call published the row, where another call had, and where there is no room
abbrev pub IfNew : Inserted → (ℕ → Type 0) → Type 0
IfNew (New ticket) P = P ticket.place
IfNew (There ticket) P = ⊤
IfNew Full P = ⊤

abbrev pub IfThere : Inserted → (ℕ → Type 0) → Type 0
IfThere (New ticket) P = ⊤
IfThere (There ticket) P = P ticket.place
IfThere Full P = ⊤

abbrev pub IfFull : Inserted → Type 0 → Type 0
IfFull (New ticket) P = ⊤
IfFull (There ticket) P = ⊤
IfFull Full P = P

-- where this call claimed the ticket, where another had, and where the ticket isn't known
abbrev pub IfMine : Claimed → Type 0 → Type 0
IfMine Mine P = P
IfMine Taken P = ⊤
IfMine NotThere P = ⊤

abbrev pub IfTaken : Claimed → Type 0 → Type 0
IfTaken Mine P = ⊤
IfTaken Taken P = P
IfTaken NotThere P = ⊤

abbrev pub IfNotThere : Claimed → Type 0 → Type 0
IfNotThere Mine P = ⊤
IfNotThere Taken P = ⊤
IfNotThere NotThere P = P

-- a slot that was tried has the row now, names another, or no row is left for it
abbrev pub IfPlaced : Tried → (ℕ → Type 0) → Type 0
IfPlaced (Placed x) P = P x
IfPlaced (Named x) P = ⊤
IfPlaced Beyond P = ⊤

abbrev pub IfNamed : Tried → (ℕ → Type 0) → Type 0
IfNamed (Placed x) P = ⊤
IfNamed (Named x) P = P x
IfNamed Beyond P = ⊤

abbrev pub IfBeyond : Tried → Type 0 → Type 0
IfBeyond (Placed x) P = ⊤
IfBeyond (Named x) P = ⊤
IfBeyond Beyond P = P

-- the place of a ticket
abbrev pub place_of : Option Ticket → Option ℕ
place_of parent = option_map (λ ticket. ticket.place) parent
