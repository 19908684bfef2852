-- A written module has no more items than its module and the copies of the set.
use Rattle.std.proofs.Common.{◌≡◌, ℕ, ◌+◌, ◌≤◌, Bool, true, false, List, [], ◌∷◌, ◌++◌, Option, None, Some, Contains, length, map, sym, subst, arith, length-append}
use Rattle.std.specs.Prelude.{slice_get, if◌then◌else◌}
use Rattle.std.proofs.lemmas.List.{length-map}
use Rattle.std.proofs.lemmas.List.Elements.{Contains-append_left, Contains-append_right}
use Rattle.ir_syntax.specs.declared.item.Item.{Item}
use Rattle.ir_syntax.specs.declared.item.Item.TheVariants as item
use Rattle.ir_syntax.specs.declared.item.Module.{Module}
use Rattle.ir_syntax.specs.FormedBody.{item_name}
use Rattle.ir_syntax.specs.Symbols.{item_at}
use Rattle.ir_syntax.specs.Programs.{ProgramData}
use Rattle.fold_facts.proofs.Lists.{get_map, of_map}
use Rattle.fold_facts.proofs.Arriving.{in_place}
use Rattle.fixed_point.proofs.Inside.{length-inside}
use Rattle.demands.specs.Order.{symbol_of}
use Rattle.residual_laws.proofs.Every.{all_of_every, every_by}
use Rattle.winnowed_form.specs.declared.named.Named.{Named}
use Rattle.winnowed_form.specs.declared.named.Named.TheVariants.{Own, CopyOf}
use Rattle.winnowed_form.specs.declared.member.Member.{Member}
use Rattle.winnowed_form.specs.Basis.{Basis, basis}
use Rattle.winnowed_form.specs.Clashes.{name_at, copy_name_of, copy_names, AreFree}
use Rattle.winnowed_form.specs.Copies.{is_copy}
use Rattle.linking_again.proofs.Distinct as at_distinct
use Rattle.linking_again.proofs.Distinct.{copy_named, items_apart, named_at, origin, copy_name_is}
use Rattle.linking_again.proofs.Home.{Frame, IsItemFor}
use Rattle.linking_again.proofs.Kept.{Has}

-- a member has one copy's name at most
one_name : (b : Basis) (member : Member) → length (copy_name_of b member) ≤ 1
one_name b member = by (is_copy b member.demand)
  where
    at : (o : Option Item) → length (name_at b member.demand o) ≤ 1
    at None = omega arith
    at (Some (item.Var var)) = omega arith
    at (Some (item.Func func)) = omega arith

    by : (c : Bool) → length (if c then name_at b member.demand (item_at b.program.modules (symbol_of member.demand)) else []) ≤ 1
    by true = at (item_at b.program.modules (symbol_of member.demand))
    by false = omega arith

pub few_names : (b : Basis) (members : List Member) → length (copy_names b members) ≤ length members
few_names b [] = omega arith
few_names b (member ∷ more) = omega (arith, length-append (copy_name_of b member) (copy_names b more), one_name b member, few_names b more)

module _ (p : ProgramData) (cycles : List (List Bool)) (members : List Member) (home : ℕ) (m w : Module) (f : Frame p cycles members home m w) (free : AreFree p.modules (copy_names (basis p cycles) members)) where
  abbrev names : List (List ℕ)
  names = map item_name m.items ++ copy_names (basis p cycles) members

  -- each item has the name of an item of the module, or of a copy
  name_in : (i : ℕ) (found : Item) → slice_get w.items i ≡ Some found → Contains (map item_name m.items ++ copy_names (basis p cycles) members) (item_name found)
  name_in i found is = let one = named_at p cycles members home m w f free i found is in by one.0 (i, one.1) one.2
    where
      by : (one : Named) → Has (at_distinct.named p cycles members home m w f free) one → IsItemFor p cycles m one found → Contains (map item_name m.items ++ copy_names (basis p cycles) members) (item_name found)
      by (Own k) has own = subst (Contains (map item_name m.items ++ copy_names (basis p cycles) members)) (sym own.name)
          (Contains-append_left (map item_name m.items) (copy_names (basis p cycles) members) (item_name own.original) (in_place (map item_name m.items) k (item_name own.original) (get_map item_name m.items k own.original own.at)))
      by (CopyOf d) has copy =
          let o = origin p cycles members home m w f free d has in
          subst (Contains (map item_name m.items ++ copy_names (basis p cycles) members)) (sym (copy_name_is p cycles members home m w f free d found copy o))
          (Contains-append_right (map item_name m.items) (copy_names (basis p cycles) members) _ (copy_named p cycles members d o.demanded o.known))

  pub few_items : length w.items ≤ length m.items + length (copy_names (basis p cycles) members)
  few_items =
      let inside : length (map item_name w.items) ≤ length (map item_name m.items ++ copy_names (basis p cycles) members) = length-inside (map item_name w.items) (map item_name m.items ++ copy_names (basis p cycles) members) (items_apart p cycles members home m w f free)
      (all_of_every (Contains (map item_name m.items ++ copy_names (basis p cycles) members)) (map item_name w.items) (every_by (Contains (map item_name m.items ++ copy_names (basis p cycles) members)) (map item_name w.items) (λ i name is.
      let was = of_map item_name w.items i name is in
      subst (Contains (map item_name m.items ++ copy_names (basis p cycles) members)) was.2 (name_in i was.0 was.1)))) in
      omega (arith, inside, length-map w.items item_name, length-map m.items item_name, length-append (map item_name m.items) (copy_names (basis p cycles) members))
