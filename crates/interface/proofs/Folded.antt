-- What the blocks of a function of a program have: few results, and few arguments in each call.
use Rattle.std.proofs.Common.{◌≡◌, ◌∙◌, ℕ, ◌<◌, ◌≤◌, ◌^◌, List, [], ◌∷◌, Option, None, Some, IsSome, All, length, map, refl, sym, ap, subst, arith}
use Rattle.std.specs.Option.{IfSome}
use Rattle.std.proofs.lemmas.Bool.{false≢true}
use Rattle.std.proofs.lemmas.List.{length-map}
use Rattle.std.proofs.lemmas.List.Elements.{All-nil, All-weaker}
use Rattle.ir_types.specs.declared.scalar.Known.{Known}
use Rattle.ir_syntax.specs.declared.symbol.Sym.{Sym}
use Rattle.ir_syntax.specs.declared.body.Arg.{Arg}
use Rattle.ir_syntax.specs.declared.body.Inst.{Inst}
use Rattle.ir_syntax.specs.declared.body.Inst.TheVariants as inst
use Rattle.ir_syntax.specs.declared.body.Block.{Block}
use Rattle.ir_syntax.specs.declared.body.Body.{Body}
use Rattle.ir_syntax.specs.declared.item.Func.{Func}
use Rattle.ir_syntax.specs.declared.item.Item.{Item}
use Rattle.ir_syntax.specs.declared.item.Item.TheVariants as item
use Rattle.ir_syntax.specs.Callees.{written_callee}
use Rattle.ir_syntax.specs.FormedBody.{Places, FormedInst, FormedBlock, FormedBody, places_of}
use Rattle.ir_syntax.specs.Programs.{ProgramData, IsProgram}
use Rattle.ir_syntax.specs.SoundFunctions.{IsSoundFunction}
use Rattle.ir_syntax.specs.Symbols.{item_at}
use Rattle.fold_facts.specs.Assigned.{Assigned}
use Rattle.fold_facts.specs.OfFunction.{results_in}
use Rattle.fold_facts.specs.Places.{blocks_in, blocks_of}
use Rattle.fold_facts.proofs.Suiting.{few_results}
use Rattle.interface.specs.Names.{uses_beside, HasFewArgs}
use Rattle.interface.specs.Summaries.{IsFoldedWith, blocks_at}
use Rattle.interface.proofs.Listed.{sound_in}

few_args : (places : Places) (i : Inst) → FormedInst places i → HasFewArgs i
few_args places (inst.Bin op flags ty a b) formed = λ some. absurd (false≢true some)
few_args places (inst.Icmp pred ty a b) formed = λ some. absurd (false≢true some)
few_args places (inst.Select ty cond a b) formed = λ some. absurd (false≢true some)
few_args places (inst.Cast op nneg from to a) formed = λ some. absurd (false≢true some)
few_args places (inst.Alloca ty n align) formed = λ some. absurd (false≢true some)
few_args places (inst.Load ty at align) formed = λ some. absurd (false≢true some)
few_args places (inst.Store ty value at align) formed = λ some. absurd (false≢true some)
few_args places (inst.Gep inbounds ty base indices) formed = λ some. absurd (false≢true some)
few_args places (inst.Call fn_ty ret_ext callee args) formed = by (written_callee callee)
  where
    by : (o : Option ℕ) → IsSome o → length (uses_beside o (callee ∷ map (λ (arg : Arg). arg.value) args)) ≤ 32
    by None some = absurd (false≢true some)
    by (Some place) some = omega (arith, formed.few_args, length-map args (λ (arg : Arg). arg.value))

function_few : (func : Func) → IsSoundFunction func → All (λ block. All HasFewArgs block.insts) (blocks_of func)
function_few func sound = by func.body sound.formed.has_body
  where
    by : (o : Option Body) → IfSome o (FormedBody sound.items (length func.params)) → All (λ block. All HasFewArgs block.insts) (blocks_in o)
    by None formed = All-nil (λ block. All HasFewArgs block.insts)
    by (Some body) formed =
        let places = places_of sound.items (length func.params) body in
        All-weaker (FormedBlock places) (λ block. All HasFewArgs block.insts) (λ block is. All-weaker (FormedInst places) HasFewArgs (few_args places) block.insts is.insts) body.blocks formed.has_blocks

pub few_results_at : (p : ProgramData) (symbol : Sym) (known : List Known) (a : Assigned) → IsProgram p → IsFoldedWith known a (item_at p.modules symbol) → length (results_in (blocks_at (item_at p.modules symbol))) < 2 ^ 64
few_results_at p symbol known a is folded = by (item_at p.modules symbol) refl folded
  where
    by : (o : Option Item) → item_at p.modules symbol ≡ o → IsFoldedWith known a o → length (results_in (blocks_at o)) < 2 ^ 64
    by None e h = absurd h
    by (Some (item.Var var)) e h = absurd h
    by (Some (item.Func func)) e h = few_results func (sound_in p symbol func is e)

pub few_args_at : (p : ProgramData) (symbol : Sym) (known : List Known) (a : Assigned) → IsProgram p → IsFoldedWith known a (item_at p.modules symbol) → All (λ block. All HasFewArgs block.insts) (blocks_at (item_at p.modules symbol))
few_args_at p symbol known a is folded = by (item_at p.modules symbol) refl folded
  where
    by : (o : Option Item) → item_at p.modules symbol ≡ o → IsFoldedWith known a o → All (λ block. All HasFewArgs block.insts) (blocks_at o)
    by None e h = absurd h
    by (Some (item.Var var)) e h = absurd h
    by (Some (item.Func func)) e h = function_few func (sound_in p symbol func is e)
