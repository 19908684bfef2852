-- The names of a written function: a letter and a number.
use Rattle.std.proofs.Common.{◌≡◌, ◌∙◌, ℕ, zero, suc, ◌-◌, false, ◌&&◌, eqb, ltb, codes, List, [], ◌∷◌, ◌++◌, length, refl, ap, arith, length-append, take_at}
use Rattle.std.specs.Fmt.{decimal}
use Rattle.std.proofs.lemmas.Bool.{cond-false, and_right}
use Rattle.ir_lexer.specs.Spelled.{has}
use Rattle.ir_lexer.specs.Texts.{name_of}
use Rattle.ir_locals.specs.declared.local.Local.TheVariants.{Param, Reg, Block}
use Rattle.ir_locals.specs.Locals.{Local, local_name, label_name, numbered}
use Rattle.ir_writer.specs.Instructions.{param_text, result_text, block_text}

-- a letter and a number
abbrev pub lettered : ℕ → ℕ → List ℕ
lettered letter k = letter ∷ decimal k

-- so many of them, numbered from k on
abbrev pub lettered_from : ℕ → ℕ → ℕ → List (List ℕ)
lettered_from letter k zero = []
lettered_from letter k (suc n) = lettered letter k ∷ lettered_from letter (suc k) n

-- a0, a1, ..: the parameters of a written function
abbrev pub written_params : ℕ → List (List ℕ)
written_params n = lettered_from 97 0 n

-- v0, v1, ..: its results
abbrev pub written_results : ℕ → List (List ℕ)
written_results n = lettered_from 118 0 n

-- b0, b1, ..: its blocks
abbrev pub written_blocks : ℕ → List (List ℕ)
written_blocks n = lettered_from 98 0 n

-- the names of a written function with so many parameters, results and blocks
abbrev pub written_locals : ℕ → ℕ → ℕ → List (List ℕ × Local)
written_locals n r b = numbered Param 0 (written_params n) ++ (numbered Reg 0 (written_results r) ++ numbered Block 0 (written_blocks b))

pub length_lettered : (letter k n : ℕ) → length (lettered_from letter k n) ≡ n
length_lettered letter k zero = refl
length_lettered letter k (suc n) = ap suc (length_lettered letter (suc k) n)

-- ---- names without quotes

-- what doesn't begin with a quote stands for itself
itself : (b : ℕ) (bs : List ℕ) → eqb b 34 ≡ false → name_of (b ∷ bs) ≡ b ∷ bs
unfolding name_of has
itself b bs other = cond-false (ltb 0 (suc (length bs)) && eqb b 34) _ _ (and_right (ltb 0 (suc (length bs))) (eqb b 34) other)

pub param_name : (k : ℕ) → local_name (param_text k) ≡ lettered 97 k
param_name k = itself 97 (decimal k) refl

pub reg_name : (k : ℕ) → local_name (result_text k) ≡ lettered 118 k
reg_name k = itself 118 (decimal k) refl

pub block_name : (k : ℕ) → local_name (block_text k) ≡ lettered 98 k
block_name k = itself 98 (decimal k) refl

pub name_of_label : (k : ℕ) → label_name ((codes "b" ++ decimal k) ++ 58 ∷ []) ≡ lettered 98 k
name_of_label k =
    let e : length (lettered 98 k) ≡ length (lettered 98 k ++ 58 ∷ []) - 1 = omega (arith, length-append (lettered 98 k) (58 ∷ [])) in
    ap name_of (take_at (lettered 98 k) (58 ∷ []) (length (lettered 98 k ++ 58 ∷ []) - 1) e) ∙ itself 98 (decimal k) refl
