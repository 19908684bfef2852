-- Operands, arguments and instructions that were made are those of straight-line functions.
use Rattle.std.proofs.Common.{◌≡◌, ◌∙◌, ℕ, ◌-◌, ◌<◌, ◌%◌, ◌^◌, suc, Bool, true, false, cond, nat_eq, nat_le, nat_lt, inl, inr, List, [], ◌∷◌, ◌++◌, length, map, Option, Some, None, option_map, option_and_then, bytes_eq, All, refl, sym, ap, subst, arith, length-append}
use Rattle.std.specs.List.{list_all, slice_get}
use Rattle.std.proofs.lemmas.Bool.{and_parts}
use Rattle.std.proofs.lemmas.Bool.Decides.{nat_tests}
use Rattle.std.proofs.lemmas.List.{length-map}
use Rattle.std.proofs.lemmas.List.Elements.{All-cons}
use Rattle.ir_syntax.specs.declared.constant.Const.TheVariants as const
use Rattle.ir_syntax.specs.declared.constant.Operand.{Operand}
use Rattle.ir_syntax.specs.declared.constant.Operand.TheVariants as operand
use Rattle.ir_syntax.specs.declared.body.Inst.{Inst}
use Rattle.ir_syntax.specs.declared.item.Item.{Item}
use Rattle.ir_syntax.specs.Straight.{word_type, params_of, IsWordOperand, IsWordArg, IsStraightInst, AreStraight}
use Rattle.straight_form.specs.declared.surface.Value.{Value}
use Rattle.straight_form.specs.declared.surface.Value.TheVariants.{Number, Local}
use Rattle.straight_form.specs.declared.surface.Line.{Line}
use Rattle.straight_form.specs.declared.surface.Line.TheVariants.{Add, Call}
use Rattle.straight_form.specs.declared.surface.Entity.{Entity}
use Rattle.name_table.specs.Places.{is_among, place_among}
use Rattle.straight_form.specs.Names.{is_plain_name}
use Rattle.straight_form.specs.Numbers.{number_of_digits, integer_of}
use Rattle.straight_form.specs.Form.{params_among, takes, keeps_form}
use Rattle.straight_form.specs.Resolved.{addition, word_arg, call_of, operand_of, operands_of, name_of, are_few, inst_of, insts_of}
use Rattle.straight_reader.proofs.Spelling.{if_some, either_some, then_some, map_some}
use Rattle.straight_reader.proofs.Counting.{insts_made}

-- ---- operands

pub place_within : (name : List ℕ) (names : List (List ℕ)) (k : ℕ) → place_among name names ≡ Some k → k < length names
place_within name [] k e = cc
place_within name (other ∷ others) k e = cases (bytes_eq name other) (place_among name others) e (place_within name others)
  where
    cases : (t : Bool) (o : Option ℕ) → cond t (Some 0) (option_map (λ j. suc j) o) ≡ Some k → ((j : ℕ) → o ≡ Some j → j < length others) → k < suc (length others)
    cases true o f ih = let z : 0 ≡ k = cc in omega (arith, z)
    cases false None f ih = cc
    cases false (Some j) f ih = let z : suc j ≡ k = cc in omega (arith, z, ih j refl)

small : (sign : Bool) (v w n : ℕ) → cond sign (cond (nat_le v (2 ^ 31)) (Some ((2 ^ 32 - v) % 2 ^ 32)) None) (cond (nat_lt w (2 ^ 32)) (Some w) None) ≡ Some n → n < 2 ^ 32
small true v w n e =
    let f = if_some (nat_le v (2 ^ 31)) (Some ((2 ^ 32 - v) % 2 ^ 32)) n e in
    let g : (2 ^ 32 - v) % 2 ^ 32 ≡ n = cc (f.1) in
    omega (arith, g)
small false v w n e =
    let f = if_some (nat_lt w (2 ^ 32)) (Some w) n e in
    let g : w ≡ n = cc (f.1) in
    subst (λ m. m < 2 ^ 32) g (less w f.0)
  where
    less : (w : ℕ) → nat_lt w (2 ^ 32) ≡ true → w < 2 ^ 32
    less w h = grind (arith, nat_tests, h)

integer_small : (digits : List ℕ) (n : ℕ) → integer_of digits ≡ Some n → n < 2 ^ 32
integer_small [] n e = cc
integer_small (first ∷ rest) n e = small (nat_eq first 45) (number_of_digits rest) (number_of_digits (first ∷ rest)) n e

pub operand_is : (params registers : List (List ℕ)) (v : Value) (x : Operand) → operand_of params registers v ≡ Some x → IsWordOperand (length params) (length registers) x
operand_is params registers (Number digits) x e =
    let (n, f, g) = map_some (λ n. operand.Const (const.Int n)) (integer_of digits) x e in
    subst (IsWordOperand (length params) (length registers)) g (integer_small digits n f)
operand_is params registers (Local name) x e =
    elim (either_some (is_among name params) (option_map (λ k. operand.Param k) (place_among name params)) (option_map (λ k. operand.Reg k) (place_among name registers)) x e) [
      | inl f ↦
          let (k, g, h) = map_some (λ k. operand.Param k) (place_among name params) x f.1 in
          subst (IsWordOperand (length params) (length registers)) h (place_within name params k g)
      | inr f ↦
          let (k, g, h) = map_some (λ k. operand.Reg k) (place_among name registers) x f in
          subst (IsWordOperand (length params) (length registers)) h (place_within name registers k g)
    ]

-- ---- arguments

args_are : (params registers : List (List ℕ)) (vs : List Value) (xs : List Operand) → operands_of params registers vs ≡ Some xs →
    All (IsWordArg (length params) (length registers)) (map word_arg xs) × (length xs ≡ length vs)
args_are params registers [] xs e = let f : [] ≡ xs = cc in (subst (λ xs. All (IsWordArg (length params) (length registers)) (map word_arg xs)) f (λ k d within. absurd (omega arith)), sym (ap (length {A = Operand}) f))
args_are params registers (v ∷ vs) xs e =
    let (x, f, g) = then_some (λ x. option_map (λ xs. x ∷ xs) (operands_of params registers vs)) (operand_of params registers v) xs e in
    let (more, h, i) = map_some (λ xs. x ∷ xs) (operands_of params registers vs) xs g in
    let rest = args_are params registers vs more h in (
      subst (λ xs. All (IsWordArg (length params) (length registers)) (map word_arg xs)) i
          (All-cons (IsWordArg (length params) (length registers)) (word_arg x) (map word_arg more) (refl, refl, operand_is params registers v x f) rest.0),
      sym (ap (length {A = Operand}) i) ∙ ap suc rest.1,
    )

-- ---- instructions

-- a call of a function that is among those behind a place, and takes so many words
abbrev pub Calls : List Item → List (List ℕ) → List Entity → ℕ → Type 0
Calls items functions later from =
    (callee : List ℕ) (n p : ℕ) → place_among callee functions ≡ Some p → takes (params_among callee later) n ≡ true → (from < p) × (params_of (slice_get items p) ≡ Some n)

inst_is : (items : List Item) (functions params registers : List (List ℕ)) (later : List Entity) (from : ℕ) (line : Line) (i : Inst) → Calls items functions later from →
    keeps_form later line ≡ true → inst_of functions params registers line ≡ Some i → IsStraightInst items from (length params) (length registers) i
inst_is items functions params registers later from (Add name a b) i calls kept e =
    let (x, f, g) = then_some (λ x. option_map (λ y. addition x y) (operand_of params registers b)) (operand_of params registers a) i e in
    let (y, h, j) = map_some (λ y. addition x y) (operand_of params registers b) i g in
    subst (IsStraightInst items from (length params) (length registers)) j (refl, refl, refl, operand_is params registers a x f, operand_is params registers b y h)
inst_is items functions params registers later from (Call name callee args) i calls kept e =
    let f = if_some (are_few args) (option_and_then (λ place. option_map (λ values. call_of place values) (operands_of params registers args)) (place_among callee functions)) i e in
    let (p, g, h) = then_some (λ place. option_map (λ values. call_of place values) (operands_of params registers args)) (place_among callee functions) i f.1 in
    let (xs, j, k) = map_some (λ values. call_of p values) (operands_of params registers args) i h in
    let words = args_are params registers args xs j in
    let found = calls callee (length args) p g (and_parts (is_plain_name name) (takes (params_among callee later) (length args)) kept).1 in
    let counted : length (map word_arg xs) ≡ length args = length-map xs word_arg ∙ words.1 in
    subst (IsStraightInst items from (length params) (length registers)) k (
      refl,
      record {
        place = p;
        by_name = refl;
        later = found.0;
        takes = found.1 ∙ ap (λ n. Some n) (sym counted);
        has_type = ap word_type (sym (length-map xs word_arg));
        words = words.0;
      },
    )

one_register : (registers : List (List ℕ)) (name : List ℕ) → length (registers ++ name ∷ []) ≡ suc (length registers)
one_register registers name = omega (arith, length-append registers (name ∷ []))

pub insts_are : (items : List Item) (functions params registers : List (List ℕ)) (later : List Entity) (from : ℕ) (lines : List Line) (insts : List Inst) → Calls items functions later from →
    list_all (keeps_form later) lines ≡ true → insts_of functions params registers lines ≡ Some insts → AreStraight items from (length params) (length registers) insts
insts_are items functions params registers later from [] insts calls kept e = let f : [] ≡ insts = cc in subst (AreStraight items from (length params) (length registers)) f tt
insts_are items functions params registers later from (line ∷ lines) insts calls kept e =
    let (i, more, f, g, h) = insts_made functions params registers line lines insts e in
    let both = and_parts (keeps_form later line) (list_all (keeps_form later) lines) kept in
    subst (AreStraight items from (length params) (length registers)) h (
      inst_is items functions params registers later from line i calls both.0 f,
      subst (λ n. AreStraight items from (length params) n more) (one_register registers (name_of line)) (insts_are items functions params (registers ++ name_of line ∷ []) later from lines more calls both.1 g),
    )
