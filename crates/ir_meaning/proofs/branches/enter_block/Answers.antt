use Rattle.std.proofs.Common.{◌+◌, ◌≤◌, ◌≡◌, length, arith, sym, subst, ap, ◌∙◌, Some, IsSome}
use Rattle.block_memory.specs.Answers.{Gives}
use Rattle.ir_steps.specs.Branches.{phi_values}
use Rattle.ir_syntax.specs.declared.symbol.Sym.{Sym}
use Rattle.ir_meaning.specs.Models.{block_in, frame_of}
use Rattle.ir_meaning.specs.Mirrors.Numbering.{number_at}
use Rattle.ir_meaning.specs.Mirrors.Passing.{at_block}
use Rattle.ir_meaning.proofs.Entered.{block_is_there, number_is_there, phis_count, slots_are_there, entered_is}
use Rattle.ir_meaning.proofs.branches.enter_block.Goals as goal

pub block_in-block-requires : goal.block_in-block-requires
block_in-block-requires c =
    let p = c.args.p.now in
    subst (λ (s : Sym). IsSome (block_in p s c.args.to)) (sym c.func.ensures) (block_is_there p c.args.frame.now c.args.to c.requires.meant)

pub number_at-first-requires : goal.number_at-first-requires
number_at-first-requires c =
    let p = c.args.p.now in
    let block = c.block_in-block.result.now in
    let same = c.func.ensures ∙ sym c.func-2.ensures in
    let there : block_in p c.func-2.result c.args.to ≡ Some block = ap (λ (s : Sym). block_in p s c.args.to) (sym same) ∙ c.block_in-block.ensures in
    number_is_there p c.args.table.now c.func-2.result c.args.to block there c.requires.table

pub enter-requires-clause-slots : goal.enter-requires-clause-slots
enter-requires-clause-slots c =
    let p = c.args.p.now in
    let f = c.args.frame.now in
    let block = c.block_in-block.result.now in
    let there : block_in p f.func c.args.to ≡ Some block = ap (λ (s : Sym). block_in p s c.args.to) (sym c.func.ensures) ∙ c.block_in-block.ensures in
    let numbered : number_at c.args.table.now f.func c.args.to ≡ Some c.number_at-first.result = ap (λ (s : Sym). number_at c.args.table.now s c.args.to) (sym c.func-2.ensures) ∙ c.number_at-first.ensures in
    let read : phi_values p (frame_of p f) block.phis ≡ Gives c.read_phis.new.values.items = ap (phi_values p (frame_of p f)) (sym c.as_slice.ensures) ∙ c.in_ok-read_phis.ensures in
    let le = slots_are_there p c.args.table.now f c.args.to c.number_at-first.result block c.read_phis.new.values.items there c.requires.table numbered read c.requires.meant in
    omega (arith, le, c.len.ensures)

pub enter-requires-clause-values : goal.enter-requires-clause-values
enter-requires-clause-values c =
    let p = c.args.p.now in
    let f = c.args.frame.now in
    let block = c.block_in-block.result.now in
    let read : phi_values p (frame_of p f) block.phis ≡ Gives c.read_phis.new.values.items = ap (phi_values p (frame_of p f)) (sym c.as_slice.ensures) ∙ c.in_ok-read_phis.ensures in
    ap length c.as_slice-2.ensures.value ∙ phis_count p (frame_of p f) block.phis c.read_phis.new.values.items read ∙ sym c.len.ensures

pub returns : goal.returns
returns c =
    let p = c.args.p.now in
    let f = c.args.frame.now in
    let block = c.block_in-block.result.now in
    let there : block_in p f.func c.args.to ≡ Some block = ap (λ (s : Sym). block_in p s c.args.to) (sym c.func.ensures) ∙ c.block_in-block.ensures in
    let numbered : number_at c.args.table.now f.func c.args.to ≡ Some c.number_at-first.result = ap (λ (s : Sym). number_at c.args.table.now s c.args.to) (sym c.func-2.ensures) ∙ c.number_at-first.ensures in
    let read : phi_values p (frame_of p f) block.phis ≡ Gives c.read_phis.new.values.items = ap (phi_values p (frame_of p f)) (sym c.as_slice.ensures) ∙ c.in_ok-read_phis.ensures in
    entered_is p c.args.table.now f c.args.to c.number_at-first.result block c.read_phis.new.values.items there c.requires.table numbered read c.requires.meant
    ∙ ap (λ n. Gives (frame_of p (at_block f c.args.to c.number_at-first.result n c.read_phis.new.values.items))) (sym c.len.ensures)
    ∙ ap (λ xs. Gives (frame_of p (at_block f c.args.to c.number_at-first.result c.len.result xs))) (sym c.as_slice-2.ensures.value)
    ∙ ap (λ g. Gives (frame_of p g)) (sym c.enter.ensures)
