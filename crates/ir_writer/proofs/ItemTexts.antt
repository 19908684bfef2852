-- The texts of parameters, functions and whole modules.
use Rattle.std.proofs.Common.{◌≡◌, ◌∙◌, ℕ, suc, ◌+◌, ◌==◌, List, [], ◌∷◌, ◌++◌, Some, None, length, drop, map, flat_map, codes, ap, sym, append_assoc, if◌then◌else◌}
use Rattle.std.proofs.lemmas.List.{append-nil, length-map}
use Rattle.ir_lexer.specs.Written.{bytes_of}
use Rattle.ir_syntax.specs.declared.body.Block.{Block}
use Rattle.ir_syntax.specs.declared.body.Body.{Body}
use Rattle.ir_syntax.specs.declared.item.Param.{Param}
use Rattle.ir_syntax.specs.declared.item.Func.{Func}
use Rattle.ir_syntax.specs.declared.item.Item.{Item}
use Rattle.ir_syntax.specs.declared.item.Module.{Module}
use Rattle.ir_syntax.specs.FormedBody.{item_name}
use Rattle.ir_writer.specs.Words.{Parts, space, line_end, word, open_paren, close_paren, open_brace, close_brace, listed, returned, linkage_parts, ext_before}
use Rattle.ir_writer.specs.Instructions.{param_text, local, dots, blocks_parts}
use Rattle.ir_writer.specs.Modules.{target_parts, at_name, declared_param, defined_params, head_parts, func_with, item_parts, module_parts, module_text}
use Rattle.ir_writer.proofs.TypeTexts.{left_from, part_written}
use Rattle.ir_writer.proofs.CallTexts.{dots_text, dots_behind}
use Rattle.ir_writer.proofs.LineTexts.{also}

-- ---- parameters

-- the step of a loop that writes the parameters of a definition
pub params_step : (params : List Param) (k next : ℕ) (param : Param) (out a b c d whole : List ℕ) → drop k params ≡ param ∷ drop (k + 1) params → next ≡ suc k →
    a ≡ out ++ (if k == 0 then [] else codes ", ") → b ≡ a ++ bytes_of (declared_param param) → c ≡ b ++ codes " " → d ≡ c ++ param_text k →
    out ++ bytes_of (left_from k (defined_params k (drop k params))) ≡ whole → d ++ bytes_of (left_from next (defined_params next (drop (k + 1) params))) ≡ whole
params_step params k next param out a b c d whole here e one two three four h =
    part_written k next part (defined_params next (drop (k + 1) params)) out a d e one
    (also (declared_param param) (space ∷ local (param_text k) ∷ []) a b d two
    (four ∙ ap (λ x. x ++ param_text k) three ∙ append_assoc b (codes " ") (param_text k) ∙ ap (λ x. b ++ 32 ∷ x) (sym (append-nil (param_text k)))))
    ∙ ap (λ j. out ++ bytes_of (left_from k (part ∷ defined_params j (drop (k + 1) params)))) e
    ∙ ap (λ ys. out ++ bytes_of (left_from k (defined_params k ys))) (sym here)
    ∙ h
  where
    part : Parts
    part = declared_param param ++ space ∷ local (param_text k) ∷ []

-- ---- functions

-- what is returned, the name, and an opening parenthesis
abbrev pub start_parts : Func → Parts
start_parts func = ext_before func.ret_ext ++ returned func.returns ∷ space ∷ at_name func.name ∷ open_paren ∷ []

-- what stands behind a head, behind what it begins with
head_behind : (func : Func) (params : List Parts) (others : Parts) → start_parts func ++ (listed params ++ close_paren ∷ others) ≡ head_parts func params ++ others
head_behind func params others = simp append_assoc

pub definition_written : (names : List (List ℕ)) (func : Func) (body : Body) (params : List Param) (blocks : List Block) (out a b c d e f new : List ℕ) →
    func.body ≡ Some body → params ≡ func.params → blocks ≡ body.blocks →
    a ≡ out ++ codes "define " → b ≡ a ++ bytes_of (linkage_parts func.linkage) → c ≡ b ++ bytes_of (start_parts func) → d ≡ c ++ bytes_of (listed (defined_params 0 params)) →
    e ≡ d ++ bytes_of (close_paren ∷ space ∷ open_brace ∷ line_end ∷ []) → f ≡ e ++ bytes_of (blocks_parts names 0 0 blocks) → new ≡ f ++ bytes_of (close_brace ∷ line_end ∷ []) →
    new ≡ out ++ bytes_of (func_with names func func.body)
definition_written names func body params blocks out a b c d e f new is same_params same_blocks one two three four five six seven =
    also (word (codes "define") ∷ space ∷ []) (linkage_parts func.linkage ++ (start_parts func ++ (listed (defined_params 0 params) ++ close_paren ∷ inside))) out a new one
    (also (linkage_parts func.linkage) (start_parts func ++ (listed (defined_params 0 params) ++ close_paren ∷ inside)) a b new two
    (also (start_parts func) (listed (defined_params 0 params) ++ close_paren ∷ inside) b c new three
    (also (listed (defined_params 0 params)) (close_paren ∷ inside) c d new four
    (also (close_paren ∷ space ∷ open_brace ∷ line_end ∷ []) (blocks_parts names 0 0 blocks ++ close_brace ∷ line_end ∷ []) d e new five
    (also (blocks_parts names 0 0 blocks) (close_brace ∷ line_end ∷ []) e f new six seven)))))
    ∙ ap (λ parts. out ++ bytes_of (word (codes "define") ∷ space ∷ (linkage_parts func.linkage ++ parts))) (head_behind func (defined_params 0 params) inside)
    ∙ ap (λ ps. out ++ bytes_of (word (codes "define") ∷ space ∷ (linkage_parts func.linkage ++ (head_parts func (defined_params 0 ps) ++ inside)))) same_params
    ∙ ap (λ bs. out ++ bytes_of (word (codes "define") ∷ space ∷ (linkage_parts func.linkage ++ (head_parts func (defined_params 0 func.params) ++ space ∷ open_brace ∷ line_end ∷ (blocks_parts names 0 0 bs ++ close_brace ∷ line_end ∷ []))))) same_blocks
    ∙ ap (λ o. out ++ bytes_of (func_with names func o)) (sym is)
  where
    inside : Parts
    inside = space ∷ open_brace ∷ line_end ∷ (blocks_parts names 0 0 blocks ++ close_brace ∷ line_end ∷ [])

pub declaration_written : (names : List (List ℕ)) (func : Func) (params : List Param) (n : ℕ) (out a b c d new : List ℕ) → func.body ≡ None → params ≡ func.params → n ≡ length func.params →
    a ≡ out ++ codes "declare " → b ≡ a ++ bytes_of (start_parts func) → c ≡ b ++ bytes_of (listed (map declared_param params)) → d ≡ c ++ dots_text n func.variadic →
    new ≡ d ++ bytes_of (close_paren ∷ line_end ∷ []) → new ≡ out ++ bytes_of (func_with names func func.body)
declaration_written names func params n out a b c d new is same count one two three four five =
    also (word (codes "declare") ∷ space ∷ []) (start_parts func ++ (listed lists ++ close_paren ∷ line_end ∷ [])) out a new one
    (also (start_parts func) (listed lists ++ close_paren ∷ line_end ∷ []) a b new two
    (also (listed lists) (close_paren ∷ line_end ∷ []) b d new params_written five))
    ∙ ap (λ parts. out ++ bytes_of (word (codes "declare") ∷ space ∷ parts)) (head_behind func lists (line_end ∷ []))
    ∙ ap (λ o. out ++ bytes_of (func_with names func o)) (sym is)
  where
    lists : List Parts
    lists = map declared_param func.params ++ dots func.variadic

    params_written : d ≡ b ++ bytes_of (listed lists)
    params_written =
        four
        ∙ ap (λ x. x ++ dots_text n func.variadic) (three ∙ ap (λ ps. b ++ bytes_of (listed (map declared_param ps))) same)
        ∙ append_assoc b (bytes_of (listed (map declared_param func.params))) (dots_text n func.variadic)
        ∙ ap (λ x. b ++ x) (sym (dots_behind (map declared_param func.params) n func.variadic (count ∙ sym (length-map func.params declared_param))))

-- ---- modules

pub module_written : (m : Module) (items : List Item) (begun a b new : List ℕ) → begun ≡ [] → items ≡ m.items → a ≡ begun ++ bytes_of (target_parts (codes "datalayout") m.layout) → b ≡ a ++ bytes_of (target_parts (codes "triple") m.triple) →
    new ≡ b ++ bytes_of (flat_map (item_parts (map item_name items)) items) → new ≡ module_text m
unfolding module_text
module_written m items begun a b new none same one two three =
    also (target_parts (codes "datalayout") m.layout) (target_parts (codes "triple") m.triple ++ flat_map (item_parts (map item_name items)) items) begun a new one
    (also (target_parts (codes "triple") m.triple) (flat_map (item_parts (map item_name items)) items) a b new two three)
    ∙ ap (λ xs. begun ++ bytes_of (target_parts (codes "datalayout") m.layout ++ (target_parts (codes "triple") m.triple ++ flat_map (item_parts (map item_name xs)) xs))) same
    ∙ ap (λ x. x ++ bytes_of (module_parts m)) none
