-- The items of written modules: definitions, and declarations of what is defined elsewhere.
use Rattle.std.specs.Prelude.{ℕ, List, [], ◌∷◌, Option, None, Some, option_map}
use Rattle.ir_syntax.specs.declared.body.Body.{Body}
use Rattle.ir_syntax.specs.declared.item.Linkage.TheVariants.{External}
use Rattle.ir_syntax.specs.declared.item.Var.{Var}
use Rattle.ir_syntax.specs.declared.item.Func.{Func}
use Rattle.ir_syntax.specs.declared.item.Item.{Item}
use Rattle.ir_syntax.specs.declared.item.Item.TheVariants as item
use Rattle.ir_syntax.specs.Symbols.{item_at}
use Rattle.demands.specs.declared.demand.Demand.{Demand}
use Rattle.demands.specs.declared.demand.Demand.TheVariants.{Func as function, Var as variable}
use Rattle.demands.specs.Order.{symbol_of}
use Rattle.winnowed_form.specs.declared.named.Named.{Named}
use Rattle.winnowed_form.specs.declared.named.Named.TheVariants.{Own, CopyOf}
use Rattle.winnowed_form.specs.declared.member.Member.{Member}
use Rattle.winnowed_form.specs.Basis.{Basis}
use Rattle.winnowed_form.specs.Copies.{staying, written_name, written_params}
use Rattle.winnowed_form.specs.Bodies.{Writing, moved, written_body}

-- ---- definitions

abbrev pub written_var : (Named → ℕ) → Var → Var
written_var place var = record var { init = option_map (moved place) var.init }

abbrev pub writing : Basis → ℕ → (Named → ℕ) → Demand → Func → Writing
writing b home place d func = record { basis = b; home = home; place = place; stays = staying b d func }

-- A copy has its original's linkage and result.
abbrev pub written_func : Basis → ℕ → (Named → ℕ) → Demand → Func → Body → Func
written_func b home place d func body =
    record func { name = written_name b d func; params = written_params b d func; body = Some (written_body (writing b home place d func) body) }

abbrev pub definition_of : Basis → ℕ → (Named → ℕ) → Demand → Option Body → Option Item → List Item
definition_of b home place d body None = []
definition_of b home place (variable symbol) body (Some (item.Var var)) = item.Var (written_var place var) ∷ []
definition_of b home place (variable symbol) body (Some (item.Func func)) = []
definition_of b home place (function symbol pattern) body (Some (item.Var var)) = []
definition_of b home place (function symbol pattern) None (Some (item.Func func)) = []
definition_of b home place (function symbol pattern) (Some body) (Some (item.Func func)) = item.Func (written_func b home place (function symbol pattern) func body) ∷ []

abbrev pub definition : Basis → ℕ → (Named → ℕ) → Member → List Item
definition b home place member = definition_of b home place member.demand member.body (item_at b.program.modules (symbol_of member.demand))

-- ---- declarations

abbrev pub declared_func : Basis → Demand → Func → Func
declared_func b d func = record func { name = written_name b d func; linkage = External; params = written_params b d func; body = None }

abbrev pub declared_copy : Basis → Demand → Option Item → List Item
declared_copy b d None = []
declared_copy b d (Some (item.Var var)) = []
declared_copy b d (Some (item.Func func)) = item.Func (declared_func b d func) ∷ []

abbrev pub own_item : Option Item → List Item
own_item None = []
own_item (Some found) = found ∷ []

-- The module's own declaration of a name; of another module's copy its type, with the definition's extensions.
abbrev pub declaration : Basis → ℕ → Named → List Item
declaration b home (Own k) = own_item (item_at b.program.modules (record { «module» = home; item = k }))
declaration b home (CopyOf d) = declared_copy b d (item_at b.program.modules (symbol_of d))
