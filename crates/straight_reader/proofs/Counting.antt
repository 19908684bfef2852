-- How many instructions a module that was read has.
use Rattle.std.proofs.Common.{◌≡◌, ◌∙◌, ℕ, ◌+◌, ◌≤◌, suc, Bool, true, false, cond, ◌&&◌, not, nat_lt, List, [], ◌∷◌, ◌++◌, length, map, flat_map, Some, option_map, option_and_then, refl, sym, ap, subst, arith, length-append}
use Rattle.std.specs.List.{sum_by, list_all}
use Rattle.std.proofs.lemmas.List.Sums.{sum_by-cons}
use Rattle.ir_lexer.specs.declared.token.Token.{Token}
use Rattle.ir_lexer.specs.Tokens.{InOrder}
use Rattle.ir_syntax.specs.declared.constant.Operand.{Operand}
use Rattle.ir_syntax.specs.declared.body.Inst.{Inst}
use Rattle.ir_syntax.specs.declared.body.Body.{Body}
use Rattle.ir_syntax.specs.declared.item.Item.{Item}
use Rattle.ir_syntax.specs.declared.item.Module.{Module}
use Rattle.ir_syntax.specs.Straight.{straight_body}
use Rattle.straight_form.specs.declared.surface.Line.{Line}
use Rattle.straight_form.specs.declared.surface.Entity.{Entity}
use Rattle.name_table.specs.Places.{is_among, are_distinct}
use Rattle.straight_form.specs.Names.{is_name, is_function_name}
use Rattle.straight_form.specs.Spelled.{Piece, entity_pieces, pieces_of}
use Rattle.straight_form.specs.Form.{are_straight, has_entry}
use Rattle.straight_form.specs.Resolved.{name_of, operand_of, inst_of, insts_of, are_params, is_label_for, body_of, func_of, items_of, module_of}
use Rattle.straight_form.specs.Counts.{body_count, item_count, instruction_count}
use Rattle.straight_reader.specs.Readings.{group_len, lines_len, entity_len, entities_from}
use Rattle.straight_reader.specs.Forms.{function_names, formed}
use Rattle.straight_reader.proofs.Reading.{line_len-positive, entity_len-positive}
use Rattle.straight_reader.proofs.Resolving.{func_with}
use Rattle.straight_reader.proofs.Spelling.{if_some, then_some, map_some}
use Rattle.straight_reader.proofs.Written.{AreUnlabelled, entity_length}
use Rattle.straight_reader.proofs.Forming.{module_with}
use Rattle.straight_reader.proofs.Found.{entities_found}

-- ---- what is made where something is made

-- the instructions of a line and of those behind it
pub insts_made : (functions params registers : List (List ℕ)) (line : Line) (lines : List Line) (insts : List Inst) → insts_of functions params registers (line ∷ lines) ≡ Some insts →
    (i : Inst) × (more : List Inst) × (inst_of functions params registers line ≡ Some i) × (insts_of functions params (registers ++ name_of line ∷ []) lines ≡ Some more) × (i ∷ more ≡ insts)
insts_made functions params registers line lines insts e =
    let f = if_some (is_name (name_of line) && not (is_among (name_of line) params) && not (is_among (name_of line) registers)) (option_and_then (λ i. option_map (λ is. i ∷ is) (insts_of functions params (registers ++ name_of line ∷ []) lines)) (inst_of functions params registers line)) insts e in
    let (i, g, h) = then_some (λ i. option_map (λ is. i ∷ is) (insts_of functions params (registers ++ name_of line ∷ []) lines)) (inst_of functions params registers line) insts f.1 in
    let (more, j, k) = map_some (λ is. i ∷ is) (insts_of functions params (registers ++ name_of line ∷ []) lines) insts h in
    (i, more, g, j, k)

-- what the body of a definition is made of
pub record IsMade (functions : List (List ℕ)) (e : Entity) (body : Body) : Type 0 where
  pub params : are_params e.params ≡ true
  pub few : nat_lt (length e.lines) 1048576 ≡ true
  pub insts : List Inst
  pub made : insts_of functions e.params [] e.lines ≡ Some insts
  pub result : Operand
  pub given : operand_of e.params (map name_of e.lines) e.result ≡ Some result
  pub is : straight_body insts result ≡ body

and_left : (b c : Bool) → (b && c) ≡ true → b ≡ true
and_left true c e = refl
and_left false c e = e

and_right : (b c : Bool) → (b && c) ≡ true → c ≡ true
and_right true c e = e
and_right false c e = cc

pub body_made : (functions : List (List ℕ)) (e : Entity) (body : Body) → body_of functions e ≡ Some body → IsMade functions e body
body_made functions e body f =
    let tests = are_params e.params && is_label_for e.label e.params (map name_of e.lines) in
    let g = if_some (tests && nat_lt (length e.lines) 1048576)
    (option_and_then (λ insts. option_map (λ result. straight_body insts result) (operand_of e.params (map name_of e.lines) e.result)) (insts_of functions e.params [] e.lines)) body f in
    let (insts, h, i) = then_some (λ insts. option_map (λ result. straight_body insts result) (operand_of e.params (map name_of e.lines) e.result)) (insts_of functions e.params [] e.lines) body g.1 in
    let (result, j, k) = map_some (λ result. straight_body insts result) (operand_of e.params (map name_of e.lines) e.result) body i in
    record {
      params = and_left (are_params e.params) (is_label_for e.label e.params (map name_of e.lines)) (and_left tests (nat_lt (length e.lines) 1048576) g.0);
      few = and_right tests (nat_lt (length e.lines) 1048576) g.0;
      insts = insts;
      made = h;
      result = result;
      given = j;
      is = k;
    }

-- the item of a definition and those behind it
pub items_made : (functions : List (List ℕ)) (e : Entity) (es : List Entity) (items : List Item) → items_of functions (e ∷ es) ≡ Some items →
    (body : Body) × (more : List Item) × (body_of functions e ≡ Some body) × (items_of functions es ≡ Some more) × (func_with e body ∷ more ≡ items)
items_made functions e es items f =
    let (i, g, h) = then_some (λ i. option_map (λ is. i ∷ is) (items_of functions es)) (func_of functions e) items f in
    let (more, j, k) = map_some (λ is. i ∷ is) (items_of functions es) items h in
    let (body, l, m) = map_some (func_with e) (body_of functions e) i g in
    (body, more, l, j, ap (λ i. i ∷ more) m ∙ k)

-- what a module is made of
pub record IsOf (es : List Entity) (m : Module) : Type 0 where
  pub named : list_all is_function_name (function_names es) ≡ true
  pub distinct : are_distinct (function_names es) ≡ true
  pub items : List Item
  pub made : items_of (function_names es) es ≡ Some items
  pub is : module_with items ≡ m

pub module_made : (es : List Entity) (m : Module) → module_of es ≡ Some m → IsOf es m
module_made es m e =
    let f = if_some (list_all is_function_name (function_names es) && are_distinct (function_names es)) (option_map (λ items. module_with items) (items_of (function_names es) es)) m e in
    let (items, g, h) = map_some (λ items. module_with items) (items_of (function_names es) es) m f.1 in
    record {
      named = and_left (list_all is_function_name (function_names es)) (are_distinct (function_names es)) f.0;
      distinct = and_right (list_all is_function_name (function_names es)) (are_distinct (function_names es)) f.0;
      items = items;
      made = g;
      is = h;
    }

-- ---- counts

pub insts_length : (functions params registers : List (List ℕ)) (lines : List Line) (insts : List Inst) → insts_of functions params registers lines ≡ Some insts → length insts ≡ length lines
insts_length functions params registers [] insts e = let f : [] ≡ insts = cc in ap (length {A = Inst}) (sym f)
insts_length functions params registers (line ∷ lines) insts e =
    let (i, more, g, h, k) = insts_made functions params registers line lines insts e in
    sym (ap (length {A = Inst}) k) ∙ ap suc (insts_length functions params (registers ++ name_of line ∷ []) lines more h)

straight_count : (insts : List Inst) (result : Operand) → body_count (Some (straight_body insts result)) ≡ length insts + 1
straight_count insts result = omega arith

body_counts : (functions : List (List ℕ)) (e : Entity) (body : Body) → body_of functions e ≡ Some body → body_count (Some body) ≡ length e.lines + 1
body_counts functions e body f =
    let made = body_made functions e body f in
    ap (λ body. body_count (Some body)) (sym made.is) ∙ straight_count made.insts made.result ∙ ap (λ n. n + 1) (insts_length functions e.params [] e.lines made.insts made.made)

lines_few : (ls : List Line) → length ls ≤ lines_len ls
lines_few [] = omega arith
lines_few (l ∷ ls) = omega (arith, lines_few ls, line_len-positive l)

more_than_lines : (e : Entity) → length e.lines + 1 ≤ entity_len e
more_than_lines e = cases e.internal
  where
    cases : (b : Bool) → length e.lines + 1 ≤ cond b 9 8 + group_len (length e.params) + lines_len e.lines
    cases true = omega (arith, lines_few e.lines)
    cases false = omega (arith, lines_few e.lines)

items_counts : (functions : List (List ℕ)) (es : List Entity) (items : List Item) → AreUnlabelled es → items_of functions es ≡ Some items → sum_by item_count items ≤ length (flat_map entity_pieces es)
items_counts functions [] items none e = let f : [] ≡ items = cc in subst (λ is. sum_by item_count is ≤ 0) f (omega arith)
items_counts functions (e ∷ es) items none f =
    let (body, more, l, j, k) = items_made functions e es items f in
    let one = body_counts functions e body l in
    let all : sum_by item_count items ≡ body_count (Some body) + sum_by item_count more = ap (sum_by item_count) (sym k) ∙ sum_by-cons item_count (func_with e body) more in
    omega (arith, one, all, items_counts functions es more none.1 j, length-append (entity_pieces e) (flat_map entity_pieces es), entity_length e none.0, more_than_lines e)

-- a definition takes a piece at least
pub entities_few : (es : List Entity) → AreUnlabelled es → length es ≤ length (flat_map entity_pieces es)
entities_few [] none = omega arith
entities_few (e ∷ es) none = omega (arith, entities_few es none.1, length-append (entity_pieces e) (flat_map entity_pieces es), entity_length e none.0, entity_len-positive e)

in_order-length : (from : ℕ) (ts : List Token) (end : ℕ) → InOrder from ts end → from + length ts ≤ end
in_order-length from [] end o = omega (arith, o)
in_order-length from (t ∷ ts) end o = omega (arith, o.0, o.1, in_order-length t.to ts end o.2)

pieces-length : (text : List ℕ) (ts : List Token) → length (pieces_of text ts) ≡ length ts
pieces-length text [] = refl
pieces-length text (t ∷ ts) = ap suc (pieces-length text ts)

pub pieces_few : (text : List ℕ) (ts : List Token) → InOrder 0 ts (length text) → length (pieces_of text ts) ≤ length text
pieces_few text ts order = omega (arith, pieces-length text ts, in_order-length 0 ts (length text) order)

pub module_bounded : (text entry : List ℕ) (count : ℕ) (ts : List Token) (m : Module) → InOrder 0 ts (length text) → option_and_then (formed entry count) (entities_from 0 (pieces_of text ts)) ≡ Some m → instruction_count m ≤ length text
module_bounded text entry count ts m order e =
    let (es, f, g) = then_some (formed entry count) (entities_from 0 (pieces_of text ts)) m e in
    let h = if_some (are_straight es && has_entry entry count es) (module_of es) m g in
    let made = module_made es m h.1 in
    let found = entities_found 0 (pieces_of text ts) es f in
    let bound = items_counts (function_names es) es made.items found.0 made.made in
    let total : instruction_count m ≡ sum_by item_count made.items = ap instruction_count (sym made.is) in
    let pieces : length (pieces_of text ts) ≡ length (flat_map entity_pieces es) = ap (length {A = Piece}) found.1 in
    omega (arith, bound, total, pieces, pieces_few text ts order)
