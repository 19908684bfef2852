-- What the code may take for granted of members.
use Rattle.std.specs.Prelude.{◌≡◌, ℕ, List, Option, None, Some, All, IsSome}
use Rattle.std.specs.Option.{IfSome}
use Rattle.ir_syntax.specs.declared.body.Block.{Block}
use Rattle.ir_syntax.specs.declared.body.Body.{Body}
use Rattle.ir_syntax.specs.declared.item.Item.{Item}
use Rattle.ir_syntax.specs.declared.item.Item.TheVariants as item
use Rattle.ir_syntax.specs.Symbols.{item_at}
use Rattle.ir_syntax.specs.Programs.{ProgramData, IsProgram}
use Rattle.demands.specs.declared.demand.Demand.{Demand}
use Rattle.demands.specs.declared.demand.Demand.TheVariants.{Func as function, Var as variable}
use Rattle.demands.specs.Demands.{IsDemand}
use Rattle.demands.specs.Order.{symbol_of}
use Rattle.demands.specs.Reading.{read_row}
use Rattle.demands.specs.Rows.{FitsRow}
use Rattle.interface.specs.Names.{HasFewArgs}
use Rattle.specialise.specs.declared.piece.Piece.{Piece}
use Rattle.winnowed_form.specs.declared.named.Named.{Named}
use Rattle.winnowed_form.specs.declared.named.Named.TheVariants.{Own, CopyOf}
use Rattle.winnowed_form.specs.declared.member.Member.{Member}
use Rattle.winnowed_form.specs.Basis.{Basis}
use Rattle.winnowed_form.specs.Names.{uses}

-- ---- bodies

abbrev pub HasFewIn : Block → Type 0
HasFewIn block = All HasFewArgs block.insts

-- Calls by names have at most 32 arguments.
abbrev pub HasFewBody : Member → Type 0
HasFewBody member = IfSome member.body (λ body. All HasFewIn body.blocks)

abbrev pub HasBodyBy : Demand → Option Body → Type 0
HasBodyBy (variable symbol) body = Unit {0}
HasBodyBy (function symbol pattern) body = IsSome body

-- ---- names

abbrev pub IsFunction : Option Item → Type 0
IsFunction None = ⊥
IsFunction (Some (item.Var var)) = ⊥
IsFunction (Some (item.Func func)) = Unit {0}

-- The module's own name is an item's, and a copy is a function's, whose demand a row can hold.
abbrev pub IsThere : Basis → ℕ → Named → Type 0
IsThere b home (Own k) = IsSome (item_at b.program.modules (record { «module» = home; item = k }))
IsThere b home (CopyOf d) = FitsRow d × IsFunction (item_at b.program.modules (symbol_of d))

-- a member that can be written
pub record IsWritable (b : Basis) (home : ℕ) (member : Member) : Type 0 where
  pub demand : IsDemand b.program.modules member.demand
  pub few : HasFewBody member
  pub has_body : HasBodyBy member.demand member.body
  pub there : All (IsThere b home) (uses b home member)

-- ---- pieces

-- The row is a demand's only with a piece of which a member can be written.
pub record IsSoundPair (p : ProgramData) (pair : List ℕ × Piece) : Type 0 where
  pub writable : (b : Basis) (d : Demand) → IsProgram p → b.program ≡ p → read_row p.modules pair.0 ≡ Some d → IsWritable b (symbol_of d).module (record { demand = d; body = pair.1.body })
