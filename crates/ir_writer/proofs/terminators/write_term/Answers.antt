use Rattle.std.proofs.Common.{◌∙◌, [], ◌∷◌, ◌++◌, map, codes, ap, sym}
use Rattle.std.proofs.lemmas.Result.{on_ok_weaker}
use Rattle.ir_lexer.specs.Written.{bytes_of}
use Rattle.ir_syntax.specs.FormedBody.{item_name}
use Rattle.ir_writer.specs.Words.{space, word}
use Rattle.ir_writer.specs.Instructions.{jump, term_parts}
use Rattle.ir_writer.proofs.LineTexts.{also}
use Rattle.ir_writer.proofs.terminators.write_term.Goals as goal

pub returns-in_ok-append-in-Br : goal.returns-in_ok-append-in-Br
returns-in_ok-append-in-Br c =
    on_ok_weaker c.write_jump.result
    (λ e. also (word (codes "br") ∷ space ∷ []) (jump c.in-Br.to) _ _ _ c.in_ok-append-in-Br.ensures.ok e ∙ ap (λ t. c.args.out.now ++ bytes_of (term_parts (map item_name c.args.items.now) t)) (sym c.in-Br.is))
    c.write_jump.ensures

pub returns-in-Unreachable : goal.returns-in-Unreachable
returns-in-Unreachable c =
    on_ok_weaker c.append-in-Unreachable.result
    (λ e. e ∙ ap (λ t. c.args.out.now ++ bytes_of (term_parts (map item_name c.args.items.now) t)) (sym c.in-Unreachable.is))
    c.append-in-Unreachable.ensures.ok
