-- What names stand for: what their entries say, and nothing that there isn't.
use Rattle.std.proofs.Common.{◌≡◌, ◌∙◌, ℕ, ◌+◌, ◌<◌, zero, suc, Bool, true, false, cond, not, List, [], ◌∷◌, ◌++◌, length, Option, Some, None, bytes_eq, refl, sym, ap, subst, arith}
use Rattle.std.specs.List.{slice_get, list_all}
use Rattle.std.specs.Option.{is_some}
use Rattle.std.proofs.lemmas.Bool.{false≢true, and_parts, not-true}
use Rattle.ir_syntax.specs.declared.constant.Operand.TheVariants as operand
use Rattle.ir_grammar.specs.Tokens.{Kept}
use Rattle.name_table.specs.Places.{is_among, are_distinct}
use Rattle.name_table.proofs.NameLists.{same, same-refl}
use Rattle.ir_locals.specs.declared.local.Local.TheVariants.{Param, Reg, Block}
use Rattle.ir_locals.specs.Locals.{Local, is_name, numbered, named, result_names, block_names, locals_of, are_locals, local_among, operand_in, block_in}
use Rattle.ir_locals.proofs.Adding.{names, among_names}

entry_found : (ls : List (List ℕ × Local)) (k : ℕ) (l : List ℕ × Local) → are_distinct (names ls) ≡ true → slice_get ls k ≡ Some l → local_among ls l.0 ≡ Some l.1
entry_found [] k l d e = cc
entry_found (x ∷ xs) zero l d e =
    let x_is : x ≡ l = cc in
    ap (λ (y : List ℕ × Local). cond (bytes_eq l.0 y.0) (Some y.1) (local_among xs l.0)) x_is ∙ ap (λ b. cond b (Some l.1) (local_among xs l.0)) (same-refl l.0)
entry_found (x ∷ xs) (suc k) l d e =
    let (new, rest) = and_parts (not (is_among x.0 (names xs))) (are_distinct (names xs)) d in
    let later = entry_found xs k l rest e in
    ap (λ b. cond b (Some x.1) (local_among xs l.0)) (other (bytes_eq l.0 x.0) refl (not-true _ new) later) ∙ later
  where
    other : (b : Bool) → bytes_eq l.0 x.0 ≡ b → is_among x.0 (names xs) ≡ false → local_among xs l.0 ≡ Some l.1 → bytes_eq l.0 x.0 ≡ false
    other false q new later = q
    other true q new later = absurd (false≢true (sym new ∙ ap (λ n. is_among n (names xs)) (sym (same l.0 x.0 q)) ∙ among_names l.0 xs ∙ ap is_some later))

pub own_entry : (locals : List (List ℕ × Local)) → are_locals locals ≡ true → (k : ℕ) (l : List ℕ × Local) → slice_get locals k ≡ Some l → local_among locals l.0 ≡ Some l.1
own_entry locals w k l e = entry_found locals k l (and_parts (list_all (λ (l : List ℕ × Local). is_name l.0) locals) (are_distinct (names locals)) w).1 e

-- ---- nothing that there isn't

-- so many parameters, results and blocks
abbrev IsWithin : ℕ → ℕ → ℕ → Local → Type 0
IsWithin params results blocks (Param k) = k < params
IsWithin params results blocks (Reg k) = k < results
IsWithin params results blocks (Block k) = k < blocks

-- what each name stands for is so
abbrev AllStand : (Local → Type 0) → List (List ℕ × Local) → Type 0
AllStand P [] = Unit {0}
AllStand P (l ∷ ls) = P l.1 × AllStand P ls

all_stand : (P : Local → Type 0) (ls more : List (List ℕ × Local)) → AllStand P ls → AllStand P more → AllStand P (ls ++ more)
all_stand P [] more a b = b
all_stand P (l ∷ ls) more a b = (a.0, all_stand P ls more a.1 b)

among_all : (P : Local → Type 0) (ls : List (List ℕ × Local)) (name : List ℕ) (x : Local) → AllStand P ls → local_among ls name ≡ Some x → P x
among_all P [] name x all e = cc
among_all P (l ∷ ls) name x all e = cases (bytes_eq name l.0) e (among_all P ls name x all.1)
  where
    cases : (b : Bool) → cond b (Some l.1) (local_among ls name) ≡ Some x → (local_among ls name ≡ Some x → P x) → P x
    cases true f ih = let is : l.1 ≡ x = cc in subst P is all.0
    cases false f ih = ih f

numbered_all : (P : Local → Type 0) (stands : ℕ → Local) (k : ℕ) (ns : List (List ℕ)) → ((j : ℕ) → j < k + length ns → P (stands j)) → AllStand P (numbered stands k ns)
numbered_all P stands k [] below = tt
numbered_all P stands k (n ∷ ns) below = (below k (omega arith), numbered_all P stands (suc k) ns (λ j h. below j (omega arith)))

named_all : (P : Local → Type 0) (k : ℕ) (ps : List (Option (List ℕ))) → ((j : ℕ) → j < k + length ps → P (Reg j)) → AllStand P (named k ps)
named_all P k [] below = tt
named_all P k (None ∷ ps) below = named_all P (suc k) ps (λ j h. below j (omega arith))
named_all P k (Some n ∷ ps) below = (below k (omega arith), named_all P (suc k) ps (λ j h. below j (omega arith)))

within : (params : List (List ℕ)) (ks : List Kept) (name : List ℕ) (x : Local) → local_among (locals_of params ks) name ≡ Some x →
    IsWithin (length params) (length (result_names ks)) (length (block_names params ks)) x
within params ks name x e =
    let P : Local → Type 0 = IsWithin (length params) (length (result_names ks)) (length (block_names params ks)) in
    among_all P (locals_of params ks) name x
    (all_stand P (numbered Param 0 params) (named 0 (result_names ks) ++ numbered Block 0 (block_names params ks))
    (numbered_all P Param 0 params (λ j h. omega arith))
    (all_stand P (named 0 (result_names ks)) (numbered Block 0 (block_names params ks))
    (named_all P 0 (result_names ks) (λ j h. omega arith))
    (numbered_all P Block 0 (block_names params ks) (λ j h. omega arith))))
    e

param_of : (o : Option Local) (k : ℕ) → operand_in o ≡ Some (operand.Param k) → o ≡ Some (Param k)
param_of None k e = cc
param_of (Some (Param j)) k e = cc
param_of (Some (Reg j)) k e = cc
param_of (Some (Block j)) k e = cc

reg_of : (o : Option Local) (k : ℕ) → operand_in o ≡ Some (operand.Reg k) → o ≡ Some (Reg k)
reg_of None k e = cc
reg_of (Some (Param j)) k e = cc
reg_of (Some (Reg j)) k e = cc
reg_of (Some (Block j)) k e = cc

block_of : (o : Option Local) (k : ℕ) → block_in o ≡ Some k → o ≡ Some (Block k)
block_of None k e = cc
block_of (Some (Param j)) k e = cc
block_of (Some (Reg j)) k e = cc
block_of (Some (Block j)) k e = cc

pub param_within : (params : List (List ℕ)) (ks : List Kept) (name : List ℕ) (k : ℕ) → operand_in (local_among (locals_of params ks) name) ≡ Some (operand.Param k) → k < length params
param_within params ks name k e = within params ks name (Param k) (param_of (local_among (locals_of params ks) name) k e)

pub reg_within : (params : List (List ℕ)) (ks : List Kept) (name : List ℕ) (k : ℕ) → operand_in (local_among (locals_of params ks) name) ≡ Some (operand.Reg k) → k < length (result_names ks)
reg_within params ks name k e = within params ks name (Reg k) (reg_of (local_among (locals_of params ks) name) k e)

pub block_within : (params : List (List ℕ)) (ks : List Kept) (name : List ℕ) (k : ℕ) → block_in (local_among (locals_of params ks) name) ≡ Some k → k < length (block_names params ks)
block_within params ks name k e = within params ks name (Block k) (block_of (local_among (locals_of params ks) name) k e)
