-- Written modules are definite.
use Rattle.std.proofs.Common.{◌≡◌, ℕ, ◌<◌, Bool, List, ◌++◌, Option, None, Some, All, length, refl, sym, subst}
use Rattle.std.specs.Prelude.{slice_get, flat_map, IfSome}
use Rattle.ir_types.proofs.ListSteps.{All-at}
use Rattle.ir_syntax.specs.declared.body.Body.{Body}
use Rattle.ir_syntax.specs.declared.item.Item.{Item}
use Rattle.ir_syntax.specs.declared.item.Item.TheVariants as item
use Rattle.ir_syntax.specs.declared.item.Module.{Module}
use Rattle.ir_syntax.specs.Definite.{DefiniteBody, DefiniteItem, Definite}
use Rattle.ir_syntax.specs.Symbols.{item_at}
use Rattle.ir_syntax.specs.Programs.{ProgramData, AreSoundModules, IsSoundModule}
use Rattle.fold_facts.proofs.Lists.{there, within}
use Rattle.demands.specs.declared.demand.Demand.{Demand}
use Rattle.demands.specs.declared.demand.Demand.TheVariants.{Func as function, Var as variable}
use Rattle.demands.specs.Order.{symbol_of}
use Rattle.residual_laws.proofs.Definite.{left_definite}
use Rattle.residual_laws.proofs.Every.{Every, all_of_every, every_of_all, every_by, every_to, every_append, flat_every}
use Rattle.residual_laws.proofs.Same.{definite_kept}
use Rattle.winnowed_form.specs.declared.member.Member.{Member}
use Rattle.winnowed_form.specs.declared.named.Named.{Named}
use Rattle.winnowed_form.specs.declared.named.Named.TheVariants.{Own, CopyOf}
use Rattle.winnowed_form.specs.Basis.{Basis, basis}
use Rattle.winnowed_form.specs.Bodies.{written_body}
use Rattle.winnowed_form.specs.Items.{writing, definition_of, definition, own_item, declared_copy, declaration}
use Rattle.winnowed_form.specs.Members.{is_in, defined_in}
use Rattle.winnowed_form.specs.Winnowed.{IsWinnowedModule, AreWinnowedModules}
use Rattle.linking_again.specs.Whole.{IsLeftOf, IsWhole}
use Rattle.linking_again.proofs.Lists.{every_filter}
use Rattle.linking_again.proofs.Places.{stands_in}
use Rattle.linking_again.proofs.Uses.{like_in}

body_definite : (p : ProgramData) (d : Demand) (body : Option Body) → IsLeftOf p d body → IfSome body DefiniteBody
body_definite p (variable symbol) body h = subst (λ (o : Option Body). IfSome o DefiniteBody) (sym h.is) tt
body_definite p (function symbol pattern) body h = subst (λ (o : Option Body). IfSome o DefiniteBody) (sym h.is) (left_definite h.home.items pattern h.func h.assigned h.left)

defined_definite : (b : Basis) (home : ℕ) (place : Named → ℕ) (d : Demand) (body : Option Body) (found : Option Item) → IfSome body DefiniteBody → Every DefiniteItem (definition_of b home place d body found)
defined_definite b home place d body None h = tt
defined_definite b home place (variable symbol) body (Some (item.Var var)) h = (tt, tt)
defined_definite b home place (variable symbol) body (Some (item.Func func)) h = tt
defined_definite b home place (function symbol pattern) body (Some (item.Var var)) h = tt
defined_definite b home place (function symbol pattern) None (Some (item.Func func)) h = tt
defined_definite b home place (function symbol pattern) (Some body) (Some (item.Func func)) h =
    let w = writing b home place (function symbol pattern) func in
    (definite_kept body (written_body w body) (like_in w body) h, tt)

own_definite : (p : ProgramData) (o : Option Item) → ((found : Item) → o ≡ Some found → DefiniteItem found) → Every DefiniteItem (own_item o)
own_definite p None h = tt
own_definite p (Some found) h = (h found refl, tt)

copy_definite : (b : Basis) (d : Demand) (o : Option Item) → Every DefiniteItem (declared_copy b d o)
copy_definite b d None = tt
copy_definite b d (Some (item.Var var)) = tt
copy_definite b d (Some (item.Func func)) = (tt, tt)

declared_definite : (p : ProgramData) (cycles : List (List Bool)) (home : ℕ) (named : Named) → AreSoundModules p.modules → Every DefiniteItem (declaration (basis p cycles) home named)
declared_definite p cycles home (Own k) sound = own_definite p (item_at p.modules (record { «module» = home; item = k })) (λ found is.
    let stands = stands_in p.modules (record { «module» = home; item = k }) found is in
    All-at DefiniteItem stands.home.items k found (All-at IsSoundModule p.modules home stands.home sound.sound stands.stands).definite stands.is)
declared_definite p cycles home (CopyOf d) sound = copy_definite (basis p cycles) d (item_at p.modules (symbol_of d))

module_definite : (p : ProgramData) (cycles : List (List Bool)) (members : List Member) (home : ℕ) (m w : Module) → AreSoundModules p.modules → All (λ (member : Member). IsLeftOf p member.demand member.body) members
    → IsWinnowedModule (basis p cycles) (defined_in home members) home m w → Definite w
module_definite p cycles members home m w sound left h =
    let b = basis p cycles in
    let here = defined_in home members in
    let each = every_filter (λ (member : Member). IsLeftOf p member.demand member.body) (is_in home) members (every_of_all (λ (member : Member). IsLeftOf p member.demand member.body) members left) in
    subst (All DefiniteItem) (sym h.items) (all_of_every DefiniteItem (flat_map (definition b home h.place) here ++ flat_map (declaration b home) h.declared)
    (every_append DefiniteItem (flat_map (definition b home h.place) here) (flat_map (declaration b home) h.declared)
    (flat_every DefiniteItem (definition b home h.place) here (every_to (λ (member : Member). IsLeftOf p member.demand member.body) (λ (member : Member). Every DefiniteItem (definition b home h.place member)) here
    (λ member l. defined_definite b home h.place member.demand member.body (item_at p.modules (symbol_of member.demand)) (body_definite p member.demand member.body l)) each))
    (flat_every DefiniteItem (declaration b home) h.declared (every_by (λ named. Every DefiniteItem (declaration b home named)) h.declared (λ k named is. declared_definite p cycles home named sound)))))

-- each written module is that of the module at its place
pub each_module : (P : Module → Type 0) (b : Basis) (members : List Member) (made : List Module) → AreWinnowedModules b members made
    → ((home : ℕ) (m w : Module) → slice_get b.program.modules home ≡ Some m → slice_get made home ≡ Some w → IsWinnowedModule b (defined_in home members) home m w → P w) → All P made
each_module P b members made h each = all_of_every P made (every_by P made (λ home w is.
    let less : home < length b.program.modules = subst (λ n. home < n) h.long (within made home w is) in
    let m = there b.program.modules home less in
    each home m.0 w m.1 is (h.each home m.0 w m.1 is)))

pub modules_definite : (p : ProgramData) (cycles : List (List Bool)) (members : List Member) (made : List Module) → AreSoundModules p.modules → IsWhole p cycles members → AreWinnowedModules (basis p cycles) members made → All Definite made
modules_definite p cycles members made sound whole h = each_module Definite (basis p cycles) members made h (λ home m w at here winnowed. module_definite p cycles members home m w sound whole.left winnowed)
