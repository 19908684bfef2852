-- A frame that enters a block of its body.
use Rattle.std.proofs.Common.{◌≡◌, ◌∙◌, ℕ, suc, ◌+◌, ◌<◌, ◌≤◌, true, false, List, [], ◌∷◌, length, drop, Option, Some, None, refl, sym, ap, subst, slice_get, option_and_then, IsSome, is_some, Bool, arith}
use Rattle.std.specs.Prelude.{nat_le, if◌then◌else◌}
use Rattle.std.proofs.lemmas.Bool.Decides.{nat_tests}
use Rattle.std.proofs.lemmas.Option.{slice_get_within}
use Rattle.ir_syntax.specs.declared.symbol.Sym.{Sym}
use Rattle.ir_syntax.specs.declared.body.Phi.{Phi}
use Rattle.ir_syntax.specs.declared.body.Block.{Block}
use Rattle.ir_syntax.specs.declared.body.Body.{Body}
use Rattle.ir_syntax.specs.Programs.{ProgramData}
use Rattle.block_memory.specs.declared.value.Val.{Val}
use Rattle.block_memory.specs.Answers.{Answer, Gives, Undefined, Stuck, IsMeant, and_then, or_stuck}
use Rattle.ir_steps.specs.States.{Frame}
use Rattle.ir_steps.specs.Branches.{phi_value, phi_values, first_result, set_from, entered, enters, enters_block}
use Rattle.ir_steps.specs.Calls.{body_of}
use Rattle.ir_meaning.specs.Models.{FrameData, block_in, rest_of, last_of, frame_of}
use Rattle.ir_meaning.specs.Mirrors.Numbering.{table_of, number_at}
use Rattle.ir_meaning.specs.Mirrors.Passing.{at_block}
use Rattle.ir_meaning.proofs.Meaning.{first, next}
use Rattle.ir_meaning.proofs.Numbered.{number_is}

-- the entering of the block at a place of a frame's body
abbrev pub entering : ProgramData → Frame → ℕ → Answer Frame
entering p f to = and_then (enters_block p f to) (or_stuck (body_of p f.func))

-- and of this block
abbrev pub entering_at : ProgramData → Frame → ℕ → ℕ → Block → Answer Frame
entering_at p f to number block = and_then (enters f to number block) (phi_values p f block.phis)

in_body : {A : Type 0} (G : Body → Block → Answer A) (to : ℕ) (o : Option Body) → IsMeant (and_then (λ body. and_then (G body) (or_stuck (slice_get body.blocks to))) (or_stuck o)) → IsSome (option_and_then (λ (body : Body). slice_get body.blocks to) o)
in_body G to None meant = absurd meant
in_body G to (Some body) meant = at_place (slice_get body.blocks to) meant where
  at_place : (o : Option Block) → IsMeant (and_then (G body) (or_stuck o)) → IsSome o
  at_place None meant = absurd meant
  at_place (Some block) meant = refl

pub block_is_there : (p : ProgramData) (f : FrameData) (to : ℕ) → IsMeant (entering p (frame_of p f) to) → IsSome (block_in p f.func to)
block_is_there p f to meant = in_body (λ body block. entering_at p (frame_of p f) to (first_result body to) block) to (body_of p f.func) meant

-- a block that is there is one of a body
pub record IsBlockOf (p : ProgramData) (symbol : Sym) (place : ℕ) (block : Block) : Type 0 where
  pub body : Body
  pub is_body : body_of p symbol ≡ Some body
  pub is_block : slice_get body.blocks place ≡ Some block

is_in : (place : ℕ) (block : Block) (o : Option Body) → option_and_then (λ (body : Body). slice_get body.blocks place) o ≡ Some block → (body : Body) × (o ≡ Some body) × (slice_get body.blocks place ≡ Some block)
is_in place block None is = absurd (cc (is))
is_in place block (Some body) is = (body, refl, is)

pub block_of_body : (p : ProgramData) (symbol : Sym) (place : ℕ) (block : Block) → block_in p symbol place ≡ Some block → IsBlockOf p symbol place block
block_of_body p symbol place block is =
    let found = is_in place block (body_of p symbol) is in
    record { body = found.0; is_body = found.1; is_block = found.2 }

pub number_of_block : (p : ProgramData) (table : List (List (List ℕ))) (symbol : Sym) (place : ℕ) (block : Block) (of : IsBlockOf p symbol place block) → table ≡ table_of p.modules → number_at table symbol place ≡ Some (first_result of.body place)
number_of_block p table symbol place block of right =
    let within = slice_get_within of.body.blocks place block of.is_block in
    number_is p table symbol of.body place right of.is_body (omega arith)

pub number_is_there : (p : ProgramData) (table : List (List (List ℕ))) (symbol : Sym) (place : ℕ) (block : Block) → block_in p symbol place ≡ Some block → table ≡ table_of p.modules → IsSome (number_at table symbol place)
number_is_there p table symbol place block is right =
    let e = number_of_block p table symbol place block (block_of_body p symbol place block is) right in
    ap is_some e

pub entering_is : (p : ProgramData) (table : List (List (List ℕ))) (f : FrameData) (to number : ℕ) (block : Block) → block_in p f.func to ≡ Some block → table ≡ table_of p.modules → number_at table f.func to ≡ Some number
    → entering p (frame_of p f) to ≡ entering_at p (frame_of p f) to number block
entering_is p table f to number block is right numbered =
    let of = block_of_body p f.func to block is in
    let same : first_result of.body to ≡ number = cc (number_of_block p table f.func to block of right, numbered) in
    ap (λ o. and_then (enters_block p (frame_of p f) to) (or_stuck o)) of.is_body
    ∙ ap (λ o. and_then (entering_at p (frame_of p f) to (first_result of.body to)) (or_stuck o)) of.is_block
    ∙ ap (λ n. entering_at p (frame_of p f) to n block) same

-- as many values as phis
pub phis_count : (p : ProgramData) (f : Frame) (phis : List Phi) (xs : List (Val Sym)) → phi_values p f phis ≡ Gives xs → length xs ≡ length phis
phis_count p f [] xs is = let same : [] ≡ xs = cc (is) in ap length (sym same)
phis_count p f (phi ∷ more) xs is = of_first (phi_value p f phi) (phi_values p f more) (phis_count p f more) is where
  of_rest : (x : Val Sym) (rest : Answer (List (Val Sym))) → ((ys : List (Val Sym)) → rest ≡ Gives ys → length ys ≡ length more) → and_then (λ xs. Gives (x ∷ xs)) rest ≡ Gives xs → length xs ≡ suc (length more)
  of_rest x (Gives ys) known is = let same : x ∷ ys ≡ xs = cc (is) in ap length (sym same) ∙ ap suc (known ys refl)
  of_rest x (Undefined cause) known is = absurd (cc (is))
  of_rest x Stuck known is = absurd (cc (is))

  of_first : (a : Answer (Val Sym)) (rest : Answer (List (Val Sym))) → ((ys : List (Val Sym)) → rest ≡ Gives ys → length ys ≡ length more) → and_then (λ x. and_then (λ xs. Gives (x ∷ xs)) rest) a ≡ Gives xs → length xs ≡ suc (length more)
  of_first (Gives x) rest known is = of_rest x rest known is
  of_first (Undefined cause) rest known is = absurd (cc (is))
  of_first Stuck rest known is = absurd (cc (is))

has_room : {A : Type 0} (n m : ℕ) (x : Answer A) → IsMeant (if nat_le n m then x else Stuck) → n ≤ m
has_room n m x meant = tested (nat_le n m) refl meant where
  tested : (b : Bool) → b ≡ nat_le n m → IsMeant (if b then x else Stuck) → n ≤ m
  tested true is meant = grind (arith, nat_tests)
  tested false is meant = absurd meant

pub slots_are_there : (p : ProgramData) (table : List (List (List ℕ))) (f : FrameData) (to number : ℕ) (block : Block) (xs : List (Val Sym)) → block_in p f.func to ≡ Some block → table ≡ table_of p.modules → number_at table f.func to ≡ Some number
    → phi_values p (frame_of p f) block.phis ≡ Gives xs → IsMeant (entering p (frame_of p f) to) → number + length block.phis ≤ length f.results
slots_are_there p table f to number block xs is right numbered read meant =
    let meant_at = subst IsMeant (entering_is p table f to number block is right numbered) meant in
    has_room (number + length block.phis) (length f.results) (Gives (entered (frame_of p f) to number block xs)) (next (enters (frame_of p f) to number block) (phi_values p (frame_of p f) block.phis) xs read meant_at)

pub entered_is : (p : ProgramData) (table : List (List (List ℕ))) (f : FrameData) (to number : ℕ) (block : Block) (xs : List (Val Sym)) → block_in p f.func to ≡ Some block → table ≡ table_of p.modules → number_at table f.func to ≡ Some number
    → phi_values p (frame_of p f) block.phis ≡ Gives xs → IsMeant (entering p (frame_of p f) to)
    → entering p (frame_of p f) to ≡ Gives (frame_of p (at_block f to number (length block.phis) xs))
entered_is p table f to number block xs is right numbered read meant =
    let le = slots_are_there p table f to number block xs is right numbered read meant in
    let test : nat_le (number + length block.phis) (length f.results) ≡ true = grind (arith, nat_tests, le) in
    entering_is p table f to number block is right numbered
    ∙ ap (and_then (enters (frame_of p f) to number block)) read
    ∙ ap (λ b. if b then Gives (entered (frame_of p f) to number block xs) else Stuck) test
    ∙ ap (λ o. Gives (record (frame_of p f) { block = to; rest = rest_of 0 o; last = last_of o; results = set_from number xs f.results; next = number + length block.phis })) (sym is)
