-- Written modules are formed and typed.
use Rattle.std.proofs.Common.{Bool, List, All}
use Rattle.ir_syntax.specs.declared.item.Module.{Module}
use Rattle.ir_syntax.specs.Formed.{Formed}
use Rattle.ir_syntax.specs.Typed.{Typed}
use Rattle.ir_syntax.specs.Programs.{ProgramData, IsProgram}
use Rattle.winnowed_form.specs.declared.member.Member.{Member}
use Rattle.winnowed_form.specs.Basis.{basis}
use Rattle.winnowed_form.specs.Clashes.{AreFree, copy_names}
use Rattle.winnowed_form.specs.Winnowed.{AreWinnowedModules}
use Rattle.linking_again.specs.Whole.{IsWhole}
use Rattle.linking_again.proofs.Definite.{each_module}
use Rattle.linking_again.proofs.Distinct.{items_apart}
use Rattle.linking_again.proofs.Forming.{items_formed, module_typed}
use Rattle.linking_again.proofs.Home.{Frame}

pub modules_formed : (p : ProgramData) (cycles : List (List Bool)) (members : List Member) (made : List Module) → IsProgram p → IsWhole p cycles members → AreFree p.modules (copy_names (basis p cycles) members)
    → AreWinnowedModules (basis p cycles) members made → All Formed made
modules_formed p cycles members made program whole free h = each_module Formed (basis p cycles) members made h (λ home m w at there winnowed.
    let f : Frame p cycles members home m w = record { program = program; whole = whole; stands = at; winnowed = winnowed } in
    record { distinct = items_apart p cycles members home m w f free; has_items = items_formed p cycles members home m w f })

pub modules_typed : (p : ProgramData) (cycles : List (List Bool)) (members : List Member) (made : List Module) → IsProgram p → IsWhole p cycles members → AreWinnowedModules (basis p cycles) members made → All Typed made
modules_typed p cycles members made program whole h = each_module Typed (basis p cycles) members made h (λ home m w at there winnowed.
    module_typed p cycles members home m w (record { program = program; whole = whole; stands = at; winnowed = winnowed }))
