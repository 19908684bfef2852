use Rattle.std.proofs.lemmas.Grind.{common_steps}
use Rattle.std.proofs.Common.{arith, ◌≡◌, ℕ, ◌≤◌, List, length, Some, IfOk, IfErr, sym, subst, ◌∙◌}
use Rattle.std.proofs.lemmas.Option.{none-some}
use Rattle.std.proofs.lemmas.Result.{IfOk-weaker, IfErr-weaker}
use Rattle.ir_syntax.specs.declared.item.Module.{Module}
use Rattle.demands.specs.declared.reading.RowFault.{RowFault}
use Rattle.demands.specs.declared.reading.RowFault.TheVariants.{NoDemand, OutOfMemory}
use Rattle.demands.specs.Rows.{words_of}
use Rattle.demands.specs.Demands.{IsDemand}
use Rattle.demands.specs.Faults.{IsCause, IsNoneOrNoMemory}
use Rattle.demands.specs.Reading.{read_row}
use Rattle.demands.proofs.DemandReading.{row-sound, row-complete}
use Rattle.demands.proofs.reading.demand_among.Goals as goal

cause-of : (modules : List Module) (row : List ℕ) → length row ≤ 34 → (fault : RowFault) → IsNoneOrNoMemory (read_row modules row) fault → IsCause modules row fault
cause-of modules row few NoDemand none = λ d is e. none-some d (sym none ∙ row-complete modules row d few is e)
cause-of modules row few OutOfMemory none = tt

pub returns-clause-found : goal.returns-clause-found
returns-clause-found c =
    let modules = c.args.modules.now in
    let row = c.args.row.now in
    let read : IfOk c.demand_at.result (λ d. read_row modules row ≡ Some d) = grind (arith, common_steps) in
    IfOk-weaker c.demand_at.result (λ d. read_row modules row ≡ Some d) (λ d. IsDemand modules d × (words_of d ≡ row)) (row-sound modules row) read

pub returns-clause-none : goal.returns-clause-none
returns-clause-none c =
    let modules = c.args.modules.now in
    let row = c.args.row.now in
    let few : length row ≤ 34 = subst (λ (words : List ℕ). length words ≤ 34) c.words-words.ensures.words c.words-words.ensures.few in
    let none : IfErr c.demand_at.result (IsNoneOrNoMemory (read_row modules row)) = grind (arith, common_steps) in
    IfErr-weaker c.demand_at.result (IsNoneOrNoMemory (read_row modules row)) (IsCause modules row) (cause-of modules row few) none
