-- The winnowed modules of the needed pieces of a program are sound and link again.
use Rattle.std.proofs.Common.{◌≡◌, ℕ, suc, ◌+◌, ◌^◌, ◌<◌, ◌≤◌, Bool, List, [], ◌∷◌, Option, None, Some, All, length, refl, ap, sym, subst, arith}
use Rattle.std.specs.Prelude.{slice_get}
use Rattle.std.specs.List.{filter_map}
use Rattle.std.proofs.lemmas.List.Sorted.{length_permutation}
use Rattle.ir_types.proofs.ListSteps.{All-at}
use Rattle.ir_syntax.specs.declared.item.Module.{Module}
use Rattle.ir_syntax.specs.Formed.{Formed}
use Rattle.ir_syntax.specs.Typed.{Typed}
use Rattle.ir_syntax.specs.Definite.{Definite}
use Rattle.ir_syntax.specs.Refusals.{Deployment, Rule, IsKept, IsRefused, all_rules}
use Rattle.ir_syntax.specs.Programs.{ProgramData, IsProgram, IsSoundModule, AreSoundModules, Linked}
use Rattle.fold_facts.proofs.Lists.{there, within}
use Rattle.interface.specs.Asked.{AreCycles}
use Rattle.specialise.specs.declared.piece.Piece.{Piece}
use Rattle.residual_laws.proofs.Every.{all_of_every, every_by}
use Rattle.winnowed_form.specs.declared.member.Member.{Member}
use Rattle.winnowed_form.specs.declared.winnowed.Winnowed.{Winnowed}
use Rattle.winnowed_form.specs.Basis.{basis}
use Rattle.winnowed_form.specs.Clashes.{AreFree, copy_names}
use Rattle.winnowed_form.specs.Conditions.{AreNeededPieces, HasWinnowed}
use Rattle.winnowed_form.specs.Members.{member_of, AreMembers}
use Rattle.winnowed_form.specs.Winnowed.{AreWinnowedModules}
use Rattle.linking_again.specs.Whole.{IsWhole}
use Rattle.linking_again.proofs.Cycles.{cycles_are_one}
use Rattle.linking_again.proofs.Definite.{modules_definite}
use Rattle.linking_again.proofs.Existing.{rules_link}
use Rattle.linking_again.proofs.Few.{few_names, few_items}
use Rattle.linking_again.proofs.Home.{Frame}
use Rattle.linking_again.proofs.Needed.{needed_whole}
use Rattle.linking_again.proofs.Rules.{rules_kept, none_refused}
use Rattle.linking_again.proofs.Sound.{modules_formed, modules_typed}

pub modules_sound : (p : ProgramData) (cycles : List (List Bool)) (members : List Member) (made : List Module) → IsProgram p → IsWhole p cycles members → AreFree p.modules (copy_names (basis p cycles) members) → AreWinnowedModules (basis p cycles) members made
    → All IsSoundModule made
modules_sound p cycles members made program whole free are = all_of_every IsSoundModule made (every_by IsSoundModule made (λ k m is. record {
  formed = All-at Formed made k m (modules_formed p cycles members made program whole free are) is;
  typed = All-at Typed made k m (modules_typed p cycles members made program whole are) is;
  definite = All-at Definite made k m (modules_definite p cycles members made program.sound whole are) is;
}))

-- a written module has no more items than its module has, and one for each member
pub modules_few : (p : ProgramData) (cycles : List (List Bool)) (members : List Member) (made : List Module) (home : ℕ) (m w : Module) → IsProgram p → IsWhole p cycles members → AreFree p.modules (copy_names (basis p cycles) members)
    → AreWinnowedModules (basis p cycles) members made → slice_get p.modules home ≡ Some m → slice_get made home ≡ Some w → length w.items ≤ length m.items + length members
modules_few p cycles members made home m w program whole free are at too =
    let f : Frame p cycles members home m w = record { program = program; whole = whole; stands = at; winnowed = are.each home m w at too } in
    omega (arith, few_items p cycles members home m w f free, few_names (basis p cycles) members)

-- where that is few enough for a symbol, they can be linked
pub modules_linkable : (p : ProgramData) (cycles : List (List Bool)) (members : List Member) (made : List Module) → IsProgram p → IsWhole p cycles members → AreFree p.modules (copy_names (basis p cycles) members) → AreWinnowedModules (basis p cycles) members made
    → All (λ (m : Module). length m.items + length members < 2 ^ 32) p.modules → AreSoundModules made
modules_linkable p cycles members made program whole free are room = record {
  sound = modules_sound p cycles members made program whole free are;
  few = subst (λ n. n < 2 ^ 31) (sym are.long) program.sound.few;
  few_items = all_of_every (λ (m : Module). length m.items < 2 ^ 32) made (every_by (λ (m : Module). length m.items < 2 ^ 32) made (λ home w is.
      let m = there p.modules home (subst (λ n. home < n) are.long (within made home w is)) in
      less (length w.items) (length m.0.items + length members) (modules_few p cycles members made home m.0 w program whole free are m.1 is) (All-at (λ (m : Module). length m.items + length members < 2 ^ 32) p.modules home m.0 room m.1)));
}
  where
    less : (a n : ℕ) → a ≤ n → n < 2 ^ 32 → a < 2 ^ 32
    less a n h g = omega (arith, h, g)

members_few : (p : ProgramData) (pieces : List (List ℕ × Piece)) → length (filter_map (member_of p) pieces) ≤ length pieces
members_few p [] = omega arith
members_few p (pair ∷ more) = by (member_of p pair) refl (members_few p more)
  where
    none : member_of p pair ≡ None → filter_map (member_of p) (pair ∷ more) ≡ filter_map (member_of p) more
    none is = rw is

    some : (m : Member) → member_of p pair ≡ Some m → filter_map (member_of p) (pair ∷ more) ≡ m ∷ filter_map (member_of p) more
    some m is = rw is

    by : (o : Option Member) → member_of p pair ≡ o → length (filter_map (member_of p) more) ≤ length more → length (filter_map (member_of p) (pair ∷ more)) ≤ suc (length more)
    by None e h = omega (arith, ap length (none e), h)
    by (Some m) e h = omega (arith, ap length (some m e), h)

-- the members of the needed pieces, by the cycles that winnowing goes by
pub pieces_whole : (p : ProgramData) (pieces : List (List ℕ × Piece)) (cycles : List (List Bool)) (members : List Member) → IsProgram p → AreNeededPieces p pieces → AreCycles p cycles → AreMembers p pieces members → IsWhole p cycles members
pieces_whole p pieces cycles members program h are_cycles are =
    subst (λ c. IsWhole p c members) (cycles_are_one p h.cycles cycles h.are_cycles are_cycles) (needed_whole p h.cycles pieces members program h.needed h.expanded are)

pub needed_sound : (p : ProgramData) (pieces : List (List ℕ × Piece)) (w : Winnowed) → IsProgram p → AreNeededPieces p pieces → HasWinnowed p pieces w → All IsSoundModule w.modules
needed_sound p pieces w program h has = modules_sound p has.cycles has.members w.modules program (pieces_whole p pieces has.cycles has.members program h has.are_cycles has.are_members) has.free has.is.modules

pub needed_kept : (p : ProgramData) (pieces : List (List ℕ × Piece)) (w : Winnowed) (d : Deployment) → IsProgram p → AreNeededPieces p pieces → HasWinnowed p pieces w → Linked p.modules d p → All (IsKept w.modules d) all_rules
needed_kept p pieces w d program h has linked = rules_kept p has.cycles has.members w.modules program (pieces_whole p pieces has.cycles has.members program h has.are_cycles has.are_members) has.free has.is.modules d linked

-- what keeps all rules has a program
pub needed_linked : (p : ProgramData) (pieces : List (List ℕ × Piece)) (w : Winnowed) (d : Deployment) → IsProgram p → AreNeededPieces p pieces → HasWinnowed p pieces w → Linked p.modules d p → (q : ProgramData) × Linked w.modules d q
needed_linked p pieces w d program h has linked = rules_link w.modules d (needed_kept p pieces w d program h has linked)

pub modules_linked : (p : ProgramData) (cycles : List (List Bool)) (members : List Member) (made : List Module) (d : Deployment) → IsProgram p → IsWhole p cycles members → AreFree p.modules (copy_names (basis p cycles) members)
    → AreWinnowedModules (basis p cycles) members made → Linked p.modules d p → (q : ProgramData) × Linked made d q
modules_linked p cycles members made d program whole free are linked = rules_link made d (rules_kept p cycles members made program whole free are d linked)

pub needed_not_refused : (p : ProgramData) (pieces : List (List ℕ × Piece)) (w : Winnowed) (d : Deployment) (rule : Rule) (name : List ℕ) → IsProgram p → AreNeededPieces p pieces → HasWinnowed p pieces w → Linked p.modules d p → IsRefused w.modules d rule name → ⊥
needed_not_refused p pieces w d rule name program h has linked refused =
    none_refused p has.cycles has.members w.modules program (pieces_whole p pieces has.cycles has.members program h has.are_cycles has.are_members) has.free has.is.modules d linked rule name refused

pub needed_linkable : (p : ProgramData) (pieces : List (List ℕ × Piece)) (w : Winnowed) → IsProgram p → AreNeededPieces p pieces → HasWinnowed p pieces w → All (λ (m : Module). length m.items + length pieces < 2 ^ 32) p.modules → AreSoundModules w.modules
needed_linkable p pieces w program h has room =
    modules_linkable p has.cycles has.members w.modules program (pieces_whole p pieces has.cycles has.members program h has.are_cycles has.are_members) has.free has.is.modules
    (all_of_every (λ (m : Module). length m.items + length has.members < 2 ^ 32) p.modules (every_by (λ (m : Module). length m.items + length has.members < 2 ^ 32) p.modules (λ k m is.
    let few : length has.members ≤ length pieces = omega (arith, length_permutation (filter_map (member_of p) pieces) has.members has.are_members.are, members_few p pieces) in
    less (length m.items) (length has.members) (length pieces) few (All-at (λ (m : Module). length m.items + length pieces < 2 ^ 32) p.modules k m room is))))
  where
    less : (a b c : ℕ) → b ≤ c → a + c < 2 ^ 32 → a + b < 2 ^ 32
    less a b c h g = omega (arith, h, g)
