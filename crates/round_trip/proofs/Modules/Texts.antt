-- The canonical text of a module spells it.
use Rattle.std.proofs.Common.{◌≡◌, ◌∙◌, List, [], ap, sym, subst, Ok}
use Rattle.ir_lexer.specs.Written.{spellings_of, IsReadable}
use Rattle.ir_lexer.proofs.Written.{written}
use Rattle.ir_syntax.specs.declared.item.Module.{Module}
use Rattle.ir_grammar.specs.Tokens.{Piece}
use Rattle.ir_parser.specs.Modules.{module_of}
use Rattle.ir_parser.specs.Spelled.{Splits, Spells}
use Rattle.ir_writer.specs.Modules.{module_parts, module_text}
use Rattle.round_trip.proofs.Grammar.Kept.{module_kept}
use Rattle.round_trip.proofs.Entities.Split.{module_entities, module_entities_kept}

pub text_spells : (m : Module) → IsReadable (module_parts m) → Splits (spellings_of (module_parts m)) (module_entities m) [] → module_of (module_kept m) ≡ Ok m → Spells (module_text m) m
unfolding module_text
text_spells m readable split resolved =
    let read = written (module_parts m) readable in
    record {
      tokens = read.0;
      tile = read.1;
      entities = module_entities m;
      split = subst (λ (ps : List Piece). Splits ps (module_entities m) []) (sym read.2) split;
      resolved = ap module_of (module_entities_kept m) ∙ resolved;
    }
