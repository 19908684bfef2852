use denote.Param.Send.{sendable}
use Rattle.std.proofs.Common.{◌≡◌, ◌∙◌, List, map, sym}
use Rattle.sqlite_items.proofs.items.Items.TheSendSync as items
use Rattle.ir_syntax.proofs.Shared.{program-sync}
use Rattle.linking_again.proofs.Cycles.{cycles_are_one}
use Rattle.program_winnower.proofs.Crossing.{both, piece-send}
use Rattle.program_winnower.proofs.Needing.{Given, few_found, refusal_found, few_answered, small_answered}
use Rattle.program_winnower.proofs.needed.needed_pieces.Goals as goal

pub least-requires-send-E-Piece : goal.least-requires-send-E-Piece
least-requires-send-E-Piece c κs = search (sendable, piece-send) depth 20

pub least-requires-sync-E : goal.least-requires-sync-E
least-requires-sync-E c κs = search (both, sendable, items.the_sync, program-sync) depth 30

pub returns-clause-needed : goal.returns-clause-needed
returns-clause-needed c =
    few_found c.args.p.now c.in_ok-expander.expander.program.now c.in_ok-cycles.cycles c.in_ok-expander.expander.cycles c.as_slice.result.now c.least.result (record {
      program = c.in_ok-expander.ensures.program;
      same = cycles_are_one c.args.p.now c.in_ok-expander.expander.cycles c.in_ok-cycles.cycles c.in_ok-expander.ensures.cycles c.in_ok-cycles.ensures;
      are = c.in_ok-cycles.ensures;
      rows_are = c.as_slice.ensures ∙ c.in_ok-rows.ensures;
    }) c.least.ensures.rows c.least.ensures.pieces c.least.ensures.few c.least.ensures.small

pub returns-clause-refused : goal.returns-clause-refused
returns-clause-refused c =
    refusal_found c.args.p.now c.in_ok-expander.expander.program.now c.in_ok-cycles.cycles c.in_ok-expander.expander.cycles c.as_slice.result.now c.least.result (record {
      program = c.in_ok-expander.ensures.program;
      same = cycles_are_one c.args.p.now c.in_ok-expander.expander.cycles c.in_ok-cycles.cycles c.in_ok-expander.ensures.cycles c.in_ok-cycles.ensures;
      are = c.in_ok-cycles.ensures;
      rows_are = c.as_slice.ensures ∙ c.in_ok-rows.ensures;
    }) c.least.ensures.too_many c.least.ensures.too_much c.least.ensures.too_much_of_few

pub returns-clause-not_too_many : goal.returns-clause-not_too_many
returns-clause-not_too_many c =
    few_answered c.args.p.now c.in_ok-expander.expander.program.now c.in_ok-cycles.cycles c.in_ok-expander.expander.cycles c.as_slice.result.now c.least.result (record {
      program = c.in_ok-expander.ensures.program;
      same = cycles_are_one c.args.p.now c.in_ok-expander.expander.cycles c.in_ok-cycles.cycles c.in_ok-expander.ensures.cycles c.in_ok-cycles.ensures;
      are = c.in_ok-cycles.ensures;
      rows_are = c.as_slice.ensures ∙ c.in_ok-rows.ensures;
    }) c.least.ensures.not_too_many

pub returns-clause-not_too_much : goal.returns-clause-not_too_much
returns-clause-not_too_much c =
    small_answered c.args.p.now c.in_ok-expander.expander.program.now c.in_ok-cycles.cycles c.in_ok-expander.expander.cycles c.as_slice.result.now c.least.result (record {
      program = c.in_ok-expander.ensures.program;
      same = cycles_are_one c.args.p.now c.in_ok-expander.expander.cycles c.in_ok-cycles.cycles c.in_ok-expander.ensures.cycles c.in_ok-cycles.ensures;
      are = c.in_ok-cycles.ensures;
      rows_are = c.as_slice.ensures ∙ c.in_ok-rows.ensures;
    }) c.least.ensures.not_too_much
