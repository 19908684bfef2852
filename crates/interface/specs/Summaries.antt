-- What a function calls and names in its reached blocks.
use Rattle.std.specs.Prelude.{ℕ, Bool, List, [], Option, None, Some, IsSome, map, flat_map, option_map, option_and_then}
use Rattle.std.specs.List.{filter_map, enumerate_from}
use Rattle.ir_types.specs.declared.scalar.Known.{Known}
use Rattle.ir_types.specs.declared.scalar.Known.TheVariants.{Unknown}
use Rattle.ir_syntax.specs.declared.symbol.Sym.{Sym}
use Rattle.ir_syntax.specs.declared.constant.Operand.{Operand}
use Rattle.ir_syntax.specs.declared.body.Inst.{Inst}
use Rattle.ir_syntax.specs.declared.body.Block.{Block}
use Rattle.ir_syntax.specs.declared.item.Item.{Item}
use Rattle.ir_syntax.specs.declared.item.Item.TheVariants as item
use Rattle.ir_syntax.specs.Targets.{entry_at}
use Rattle.ir_syntax.specs.Programs.{ProgramData}
use Rattle.fold_facts.specs.declared.fact.Fact.{Fact}
use Rattle.fold_facts.specs.declared.fact.Fact.TheVariants.{Unreached, One, Varying}
use Rattle.fold_facts.specs.Assigned.{Assigned, is_reached}
use Rattle.fold_facts.specs.Operands.{Setting, operand_fact}
use Rattle.fold_facts.specs.OfFunction.{AreKnownOf, IsAssignmentOf}
use Rattle.fold_facts.specs.Places.{blocks_of}
use Rattle.interface.specs.Masks.{chosen}
use Rattle.interface.specs.Names.{call_of, block_others}

-- the one value of a fact, if it has one
abbrev pub value_of : Fact → Known
value_of Unreached = Unknown
value_of (One v) = v
value_of Varying = Unknown

abbrev pub known_of : Setting → List Fact → Operand → Known
known_of setting facts operand = value_of (operand_fact setting facts operand)

-- which of the blocks are reached
abbrev pub reached : Assigned → List Block → List Bool
reached a blocks = map (λ entry. is_reached a entry.0) (enumerate_from 0 blocks)

-- a function with a body, what may be known of its parameters, and an assignment of it
abbrev pub IsFoldedWith : List Known → Assigned → Option Item → Type 0
IsFoldedWith known a None = ⊥
IsFoldedWith known a (Some (item.Var var)) = ⊥
IsFoldedWith known a (Some (item.Func func)) = IsSome func.body × AreKnownOf func known × IsAssignmentOf func a

abbrev pub blocks_at : Option Item → List Block
blocks_at None = []
blocks_at (Some (item.Var var)) = []
blocks_at (Some (item.Func func)) = blocks_of func

abbrev pub canonical_of : ProgramData → ℕ → ℕ → Option Sym
canonical_of p home place = entry_at p.canonical (record { «module» = home; item = place })

-- the call by its canonical symbol
abbrev pub call_out : ProgramData → ℕ → (Operand → Known) → Inst → Option (Sym × List Known)
call_out p home known inst = option_and_then (λ call. option_map (λ symbol. (symbol, call.1)) (canonical_of p home call.0)) (call_of known inst)

-- The calls by names in the reached blocks, with what is known of each argument,
abbrev pub calls_out : ProgramData → ℕ → List Known → Assigned → List Block → List (Sym × List Known)
calls_out p home known a blocks =
    flat_map (λ block. filter_map (call_out p home (known_of (record { known = known }) a.facts)) block.insts) (chosen (reached a blocks) blocks)

-- and all other names there.
abbrev pub named_out : ProgramData → ℕ → Assigned → List Block → List Sym
named_out p home a blocks = flat_map (λ block. filter_map (canonical_of p home) (block_others block)) (chosen (reached a blocks) blocks)
