-- The grammar takes the blocks of a body.
use Rattle.std.proofs.Common.{◌≡◌, ◌∙◌, ℕ, suc, ◌+◌, ◌<◌, true, List, [], ◌∷◌, ◌++◌, length, Some, All, refl, sym, ap, append_assoc, arith}
use Rattle.std.proofs.lemmas.List.Elements.{All-head, All-tail}
use Rattle.ir_lexer.specs.Written.{spellings_of}
use Rattle.ir_syntax.specs.Results.{block_results}
use Rattle.ir_syntax.specs.declared.body.Block.{Block}
use Rattle.ir_syntax.specs.declared.body.Body.{Body}
use Rattle.ir_grammar.specs.declared.shape.Shape.TheVariants as is
use Rattle.ir_grammar.specs.declared.grammar.Keep.TheVariants as keep
use Rattle.ir_grammar.specs.declared.grammar.Item.TheVariants as item
use Rattle.ir_grammar.specs.declared.grammar.Name.TheVariants as the
use Rattle.ir_grammar.specs.Tokens.{Piece}
use Rattle.ir_grammar.specs.Mirrors.Walk.{walk}
use Rattle.ir_writer.specs.Words.{Parts, line_end, open_brace, close_brace}
use Rattle.ir_writer.specs.Instructions.{block_parts, blocks_parts}
use Rattle.round_trip.proofs.Grammar.Kept.{Lexemes, block_kept, blocks_kept, body_kept, close_brace_kept}
use Rattle.round_trip.proofs.Grammar.Walking.{alike, goes, Takes, Items, end_brace}
use Rattle.round_trip.proofs.Grammar.Goes.{spellings_append, begins_quietly, takes_then, no_records, is_quiet_or_none, walk_goes}
use Rattle.round_trip.proofs.Entities.Steps.{taken}
use Rattle.round_trip.proofs.Entities.Lines.{PhiGoes, InstGoes, TermGoes, lines_go}

-- what the items do at the lines of a block
pub record BlockGoes (names : List (List ℕ)) (block : Block) : Type 0 where
  pub phis : All (PhiGoes names) block.phis
  pub insts : All (InstGoes names) block.insts
  pub term : TermGoes names block.term

-- a closing brace, and the end of the line
abbrev pub body_end : Parts
body_end = close_brace ∷ line_end ∷ []

-- what stands behind a block of a body, and behind the opening brace
abbrev from_block : Items → Items
from_block next = item.Many the.Block ∷ end_brace ∷ next

abbrev from_brace : Items → Items
from_brace next = item.May the.Label ∷ item.One (the.Lines true) ∷ from_block next

block_goes : (names : List (List ℕ)) (place k : ℕ) (block : Block) (next : Items) → BlockGoes names block →
    Takes (from_block next) (spellings_of (block_parts names place k block)) (block_kept names place k block) (from_block next)
block_goes names place k block next h =
    let t = lines_go names k (k + length block.phis) block.phis block.insts block.term (from_block next) h.phis h.insts h.term in
    record { left = t.left; gone = ap (taken keep.Keeps is.Label _) t.gone; quiet = t.quiet }

blocks_quiet : (names : List (List ℕ)) (place k : ℕ) (blocks : List Block) → begins_quietly (spellings_of (blocks_parts names place k blocks ++ body_end)) ≡ true
blocks_quiet names place k [] = refl
blocks_quiet names place k (block ∷ blocks) = refl

blocks_go : (names : List (List ℕ)) (place k : ℕ) (blocks : List Block) (next : Items) → All (BlockGoes names) blocks →
    goes (from_block next) (spellings_of (blocks_parts names place k blocks ++ body_end)) ≡ Some (blocks_kept names place k blocks ++ close_brace_kept ∷ [], next)
blocks_go names place k [] next all = refl
blocks_go names place k (block ∷ blocks) next all =
    let j : ℕ = k + length (block_results block) in
    let more : Parts = blocks_parts names (suc place) j blocks in
    let kept_more : Lexemes = blocks_kept names (suc place) j blocks in
    ap (λ parts. goes (from_block next) (spellings_of parts)) (append_assoc (block_parts names place k block) more body_end)
    ∙ ap (goes (from_block next)) (spellings_append (block_parts names place k block) (more ++ body_end))
    ∙ takes_then (from_block next) (from_block next) next (spellings_of (block_parts names place k block)) (spellings_of (more ++ body_end)) (block_kept names place k block) (kept_more ++ close_brace_kept ∷ [])
    (block_goes names place k block next (All-head (BlockGoes names) block blocks all)) (blocks_quiet names (suc place) j blocks)
    (blocks_go names (suc place) j blocks next (All-tail (BlockGoes names) block blocks all))
    ∙ ap (λ kept. Some (kept, next)) (sym (append_assoc (block_kept names place k block) kept_more (close_brace_kept ∷ [])))

-- what follows the opening brace of a body, which has a block
inside_goes : (names : List (List ℕ)) (blocks : List Block) (next : Items) → 0 < length blocks → All (BlockGoes names) blocks →
    goes (from_brace next) (spellings_of (blocks_parts names 0 0 blocks ++ body_end)) ≡ Some (blocks_kept names 0 0 blocks ++ close_brace_kept ∷ [], next)
inside_goes names [] next some all = absurd (omega (arith, some))
inside_goes names (block ∷ blocks) next some all = blocks_go names 0 0 (block ∷ blocks) next all

pub body_goes : (names : List (List ℕ)) (body : Body) (next : Items) → 0 < length body.blocks → All (BlockGoes names) body.blocks →
    goes (item.One the.Body ∷ next) (spellings_of (open_brace ∷ line_end ∷ (blocks_parts names 0 0 body.blocks ++ body_end))) ≡ Some (body_kept names body, next)
body_goes names body next some all = ap (taken keep.Keeps is.OpenBrace (123 ∷ [])) (inside_goes names body.blocks next some all)

-- the tokens of a body, with its braces
abbrev pub body_pieces : List (List ℕ) → Body → List Piece
body_pieces names body = spellings_of (open_brace ∷ line_end ∷ (blocks_parts names 0 0 body.blocks ++ body_end))

-- The walk takes them, before the end or what begins quietly.
pub body_walks : (names : List (List ℕ)) (body : Body) (rest : List Piece) → 0 < length body.blocks → All (BlockGoes names) body.blocks → no_records (body_pieces names body) ≡ true → is_quiet_or_none rest ≡ true →
    walk (item.One the.Body ∷ []) (body_pieces names body ++ rest) ≡ Some (body_kept names body, length (body_pieces names body))
body_walks names body rest some all clean quiet =
    walk_goes (item.One the.Body ∷ []) (body_pieces names body) rest (body_kept names body) clean (record { left = []; gone = body_goes names body [] some all; quiet = alike [] }) quiet
