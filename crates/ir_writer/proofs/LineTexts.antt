-- Steps of loops that write lines, and other parts one after another.
use Rattle.std.proofs.Common.{◌≡◌, ◌∙◌, ℕ, suc, ◌+◌, ◌<◌, ◌≤◌, Bool, true, false, List, [], ◌∷◌, ◌++◌, Option, Some, None, is_some, length, get_or, drop, map, flat_map, sum, codes, refl, ap, sym, append_assoc, length-append, if◌then◌else◌, arith}
use Rattle.std.specs.List.{filter_map}
use Rattle.std.proofs.lemmas.Grind.{common_steps}
use Rattle.std.proofs.lemmas.List.{length-map}
use Rattle.ir_lexer.specs.Written.{bytes_of}
use Rattle.ir_types.specs.declared.scalar.Scalar.{Scalar}
use Rattle.ir_types.specs.declared.scalar.Scalar.TheVariants.{Ptr}
use Rattle.ir_types.specs.declared.shape.Ty.{Ty}
use Rattle.ir_syntax.specs.declared.constant.Operand.{Operand}
use Rattle.ir_syntax.specs.declared.body.Phi.{Phi}
use Rattle.ir_syntax.specs.declared.body.Inst.{Inst}
use Rattle.ir_syntax.specs.declared.body.Inst.TheVariants.{Gep}
use Rattle.ir_syntax.specs.declared.body.Block.{Block}
use Rattle.ir_syntax.specs.Results.{result_type, block_results, block_count}
use Rattle.ir_writer.specs.Words.{Parts, space, comma, more, said}
use Rattle.ir_writer.specs.Constants.{type_parts}
use Rattle.ir_writer.specs.Instructions.{typed, inst_parts, phi_parts, line, named, phi_lines, inst_lines, block_parts, blocks_parts}
use Rattle.ir_writer.proofs.Bytes.{bytes_append, written}
use Rattle.ir_writer.proofs.TypeTexts.{drop_here}

-- one part is written, and others are left
behind : (parts others : Parts) (out new : List ℕ) → new ≡ out ++ bytes_of parts → new ++ bytes_of others ≡ out ++ bytes_of (parts ++ others)
behind parts others out new n =
    ap (λ x. x ++ bytes_of others) n
    ∙ append_assoc out (bytes_of parts) (bytes_of others)
    ∙ ap (λ x. out ++ x) (sym (bytes_append parts others))

-- some parts are written, and others after them
pub also : (parts others : Parts) (out mid new : List ℕ) → mid ≡ out ++ bytes_of parts → new ≡ mid ++ bytes_of others → new ≡ out ++ bytes_of (parts ++ others)
also parts others out mid new m n = n ∙ behind parts others out mid m

-- the step of a loop that writes each part of a list
pub flat_step : {A : Type 0} (f : A → Parts) (xs : List A) (k : ℕ) (x : A) (out new whole : List ℕ) → k < length xs → x ≡ get_or xs k x → new ≡ out ++ bytes_of (f x) →
    out ++ bytes_of (flat_map f (drop k xs)) ≡ whole → new ++ bytes_of (flat_map f (drop (k + 1) xs)) ≡ whole
flat_step f xs k x out new whole within here n h =
    behind (f x) (flat_map f (drop (k + 1) xs)) out new n
    ∙ ap (λ ys. out ++ bytes_of (flat_map f ys)) (sym (drop_here xs k x within here))
    ∙ h

-- the same of parts behind commas
pub more_step : {A : Type 0} (f : A → Parts) (xs : List A) (k : ℕ) (x : A) (out new whole : List ℕ) → k < length xs → x ≡ get_or xs k x → new ≡ out ++ bytes_of (comma ∷ space ∷ f x) →
    out ++ bytes_of (more (map f (drop k xs))) ≡ whole → new ++ bytes_of (more (map f (drop (k + 1) xs))) ≡ whole
more_step f xs k x out new whole within here n h =
    behind (comma ∷ space ∷ f x) (more (map f (drop (k + 1) xs))) out new n
    ∙ ap (λ ys. out ++ bytes_of (more (map f ys))) (sym (drop_here xs k x within here))
    ∙ h

-- ---- phis

pub phi_step : (names : List (List ℕ)) (phis : List Phi) (k n next : ℕ) (phi : Phi) (out new whole : List ℕ) → k < length phis → phi ≡ get_or phis k phi → next ≡ suc n →
    new ≡ out ++ bytes_of (line (named n (phi_parts names phi))) →
    out ++ bytes_of (phi_lines names n (drop k phis)) ≡ whole → new ++ bytes_of (phi_lines names next (drop (k + 1) phis)) ≡ whole
phi_step names phis k n next phi out new whole within here e w h =
    ap (λ j. new ++ bytes_of (phi_lines names j (drop (k + 1) phis))) e
    ∙ behind (line (named n (phi_parts names phi))) (phi_lines names (suc n) (drop (k + 1) phis)) out new w
    ∙ ap (λ ys. out ++ bytes_of (phi_lines names n ys)) (sym (drop_here phis k phi within here))
    ∙ h

-- ---- instructions

-- how much the number grows at an instruction
abbrev pub result_count : Bool → ℕ
result_count false = 0
result_count true = 1

inst_here : (names : List (List ℕ)) (b : Bool) (n next : ℕ) (i : Inst) (is : List Inst) (out new : List ℕ) → next ≡ n + result_count b →
    new ≡ out ++ bytes_of (if b then line (named n (inst_parts names i)) else line (inst_parts names i)) →
    new ++ bytes_of (inst_lines names next is) ≡ out ++ bytes_of (if b then line (named n (inst_parts names i)) ++ inst_lines names (suc n) is else line (inst_parts names i) ++ inst_lines names n is)
inst_here names false n next i is out new e w = let same : next ≡ n = omega arith in ap (λ j. new ++ bytes_of (inst_lines names j is)) same ∙ behind (line (inst_parts names i)) (inst_lines names n is) out new w
inst_here names true n next i is out new e w = let above : next ≡ suc n = omega arith in ap (λ j. new ++ bytes_of (inst_lines names j is)) above ∙ behind (line (named n (inst_parts names i))) (inst_lines names (suc n) is) out new w

pub inst_step : (names : List (List ℕ)) (insts : List Inst) (k n next : ℕ) (i : Inst) (out new whole : List ℕ) → k < length insts → i ≡ get_or insts k i → next ≡ n + result_count (is_some (result_type i)) →
    new ≡ out ++ bytes_of (if is_some (result_type i) then line (named n (inst_parts names i)) else line (inst_parts names i)) →
    out ++ bytes_of (inst_lines names n (drop k insts)) ≡ whole → new ++ bytes_of (inst_lines names next (drop (k + 1) insts)) ≡ whole
inst_step names insts k n next i out new whole within here e w h =
    inst_here names (is_some (result_type i)) n next i (drop (k + 1) insts) out new e w
    ∙ ap (λ ys. out ++ bytes_of (inst_lines names n ys)) (sym (drop_here insts k i within here))
    ∙ h

counted : (o : Option Scalar) (i : Inst) (is : List Inst) → result_type i ≡ o → length (filter_map result_type (i ∷ is)) ≡ result_count (is_some o) + length (filter_map result_type is)
counted None i is e = rw e (omega arith)
counted (Some ty) i is e = rw e (omega arith)

pub count_step : (insts : List Inst) (k : ℕ) (i : Inst) → k < length insts → i ≡ get_or insts k i →
    length (filter_map result_type (drop k insts)) ≡ result_count (is_some (result_type i)) + length (filter_map result_type (drop (k + 1) insts))
count_step insts k i within here = ap (λ ys. length (filter_map result_type ys)) (drop_here insts k i within here) ∙ counted (result_type i) i (drop (k + 1) insts) refl

-- ---- blocks

pub block_step : (names : List (List ℕ)) (blocks : List Block) (k next n after : ℕ) (block : Block) (out new whole : List ℕ) → k < length blocks → block ≡ get_or blocks k block → next ≡ suc k → after ≡ n + length (block_results block) →
    new ≡ out ++ bytes_of (block_parts names k n block) →
    out ++ bytes_of (blocks_parts names k n (drop k blocks)) ≡ whole → new ++ bytes_of (blocks_parts names next after (drop (k + 1) blocks)) ≡ whole
block_step names blocks k next n after block out new whole within here e a w h =
    ap (λ j. new ++ bytes_of (blocks_parts names j after (drop (k + 1) blocks))) e
    ∙ ap (λ j. new ++ bytes_of (blocks_parts names (suc k) j (drop (k + 1) blocks))) a
    ∙ behind (block_parts names k n block) (blocks_parts names (suc k) (n + length (block_results block)) (drop (k + 1) blocks)) out new w
    ∙ ap (λ ys. out ++ bytes_of (blocks_parts names k n ys)) (sym (drop_here blocks k block within here))
    ∙ h

filtered : (is : List Inst) → length (filter_map result_type is) ≤ length is
filtered [] = omega arith
filtered (i ∷ is) = at_first (result_type i) i is refl (filtered is)
  where
    at_first : (o : Option Scalar) (j : Inst) (js : List Inst) → result_type j ≡ o → length (filter_map result_type js) ≤ length js → length (filter_map result_type (j ∷ js)) ≤ suc (length js)
    at_first None j js e h = omega (arith, counted None j js e)
    at_first (Some ty) j js e h = omega (arith, counted (Some ty) j js e)

sum_first : (n : ℕ) (ns : List ℕ) → sum (n ∷ ns) ≡ n + sum ns
sum_first n ns = grind (arith, common_steps)

-- the numbers of results stay below the count of what is written
pub few_step : (blocks : List Block) (k n after : ℕ) (block : Block) (limit : ℕ) → k < length blocks → block ≡ get_or blocks k block → after ≡ n + length (block_results block) →
    n + sum (map block_count (drop k blocks)) ≤ limit → after + sum (map block_count (drop (k + 1) blocks)) ≤ limit
few_step blocks k n after block limit within here a h =
    let first : sum (map block_count (drop k blocks)) ≡ block_count block + sum (map block_count (drop (k + 1) blocks)) =
    ap (λ ys. sum (map block_count ys)) (drop_here blocks k block within here) ∙ sum_first (block_count block) (map block_count (drop (k + 1) blocks)) in
    omega (arith, filtered block.insts, length-append (map (λ (phi : Phi). phi.ty) block.phis) (filter_map result_type block.insts), length-map block.phis (λ (phi : Phi). phi.ty))

-- ---- walks into a type

pub walk_written : (names : List (List ℕ)) (inbounds : Bool) (ty : Ty) (base : Operand) (indices : List (Scalar × Operand)) (out a b c d e new : List ℕ) →
    a ≡ out ++ codes "getelementptr " → b ≡ a ++ bytes_of (said inbounds (codes "inbounds")) → c ≡ b ++ bytes_of (type_parts ty) → d ≡ c ++ codes ", " → e ≡ d ++ bytes_of (typed names Ptr base) →
    new ≡ e ++ bytes_of (more (map (λ (index : Scalar × Operand). typed names index.0 index.1) indices)) → new ≡ out ++ bytes_of (inst_parts names (Gep inbounds ty base indices))
walk_written names inbounds ty base indices out a b c d e new one two three four five six = simp (six, five, four, three, two, one, written)
