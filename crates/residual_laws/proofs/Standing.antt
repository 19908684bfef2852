-- Where the blocks stand that are left, and the numbers of their first results.
use Rattle.std.proofs.Common.{◌≡◌, ◌∙◌, ℕ, zero, suc, ◌+◌, ◌≤◌, Bool, true, false, List, [], ◌∷◌, ◌++◌, Some, length, refl, ap, sym, arith}
use Rattle.std.specs.Prelude.{if◌then◌else◌, slice_get}
use Rattle.std.proofs.lemmas.Option.{none-some}
use Rattle.ir_syntax.specs.declared.body.Block.{Block}
use Rattle.ir_syntax.specs.Definite.{first_result}
use Rattle.ir_syntax.specs.Results.{block_results}
use Rattle.fold_facts.proofs.Lists.{some_is}
use Rattle.fold_facts.proofs.Numbers.{first_zero, first_cons}
use Rattle.interface.specs.Masks.{rank, is_chosen}
use Rattle.specialise.specs.Leaving.{Leaving}
use Rattle.specialise.specs.Residual.{left_blocks}
use Rattle.residual_laws.proofs.Ranks.{rank_set, rank_unset, rank_most, rank_flat, chosen_long}
use Rattle.residual_laws.proofs.Numbering.{made, block_types, AreOut}

one_on : (m n : ℕ) → m + suc n ≡ suc m + n
one_on m n = omega arith

zero_on : (m : ℕ) → 0 + m ≡ m
zero_on m = omega arith

none_on : (m : ℕ) → m ≡ m + 0
none_on m = omega arith

-- ---- where a block stands

pub left_at : (w : Leaving) (place first : ℕ) (blocks : List Block) (k : ℕ) (block : Block) (r : ℕ) → slice_get blocks k ≡ Some block → is_chosen w.reached (place + k) ≡ true → r + rank w.reached place ≡ rank w.reached (place + k)
    → slice_get (left_blocks w place first blocks) r ≡ Some (made w (place + k) (first + first_result blocks k) block)
left_at w place first [] k block r here set at = absurd (none-some block here)
left_at w place first (b ∷ bs) zero block r here set at =
    let same : place + 0 ≡ place = sym (none_on place) in
    let start : first + first_result (b ∷ bs) 0 ≡ first = ap (λ n. first + n) (first_zero (b ∷ bs)) ∙ sym (none_on first) in
    let none : r ≡ 0 = omega (arith, at ∙ ap (rank w.reached) same) in
    ap (λ flag. slice_get ((if flag then made w place first b ∷ [] else []) ++ left_blocks w (suc place) (first + length (block_results b)) bs) r) (ap (is_chosen w.reached) (sym same) ∙ set)
    ∙ ap (λ n. slice_get (made w place first b ∷ left_blocks w (suc place) (first + length (block_results b)) bs) n) none
    ∙ ap (λ c. Some (made w place first c)) (some_is here)
    ∙ ap (λ n. Some (made w n first block)) (none_on place)
    ∙ ap (λ n. Some (made w (place + 0) n block)) (sym start)
left_at w place first (b ∷ bs) (suc k) block r here set at = by (is_chosen w.reached place) refl (λ n m. left_at w (suc place) (first + length (block_results b)) bs k block n here set_on m) r at ∙ ap (λ n. Some (made w n (first + length (block_results b) + first_result bs k) block)) (sym (one_on place k)) ∙ ap (λ n. Some (made w (place + suc k) n block)) total
  where
    rest : List Block
    rest = left_blocks w (suc place) (first + length (block_results b)) bs

    total : first + length (block_results b) + first_result bs k ≡ first + first_result (b ∷ bs) (suc k)
    total = omega (arith, first_cons b bs k)

    set_on : is_chosen w.reached (suc place + k) ≡ true
    set_on = ap (is_chosen w.reached) (sym (one_on place k)) ∙ set

    moved : rank w.reached (place + suc k) ≡ rank w.reached (suc place + k)
    moved = ap (rank w.reached) (one_on place k)

    most : rank w.reached (suc place) ≤ rank w.reached (suc place + k)
    most = rank_most w.reached (suc place) (suc place + k) (omega arith)

    by : (flag : Bool) → is_chosen w.reached place ≡ flag
        → ((n : ℕ) → n + rank w.reached (suc place) ≡ rank w.reached (suc place + k) → slice_get rest n ≡ Some (made w (suc place + k) (first + length (block_results b) + first_result bs k) block))
        → (r : ℕ) → r + rank w.reached place ≡ rank w.reached (place + suc k)
        → slice_get ((if flag then made w place first b ∷ [] else []) ++ rest) r ≡ Some (made w (suc place + k) (first + length (block_results b) + first_result bs k) block)
    by true e more zero at = absurd (omega (arith, at, moved, most, rank_set w.reached place e))
    by true e more (suc r) at = more r (omega (arith, at, moved, rank_set w.reached place e))
    by false e more r at = more r (omega (arith, at, moved, rank_unset w.reached place e))

-- ---- what block it is

-- The block at a place of those that are left is what is left of one that is reached.
pub record IsLeftOf (w : Leaving) (place first : ℕ) (blocks : List Block) (r : ℕ) (b : Block) : Type 0 where
  pub at : ℕ
  pub block : Block
  pub here : slice_get blocks at ≡ Some block
  pub set : is_chosen w.reached (place + at) ≡ true
  pub stands : r + rank w.reached place ≡ rank w.reached (place + at)
  pub is : b ≡ made w (place + at) (first + first_result blocks at) block

pub left_from : (w : Leaving) (place first : ℕ) (blocks : List Block) (r : ℕ) (b : Block) → slice_get (left_blocks w place first blocks) r ≡ Some b → IsLeftOf w place first blocks r b
left_from w place first [] r b is = absurd (none-some b is)
left_from w place first (x ∷ xs) r b is = by (is_chosen w.reached place) refl r is (λ n h. left_from w (suc place) (first + length (block_results x)) xs n b h)
  where
    rest : List Block
    rest = left_blocks w (suc place) (first + length (block_results x)) xs

    later : (n m : ℕ) → IsLeftOf w (suc place) (first + length (block_results x)) xs n b → m + rank w.reached place ≡ n + rank w.reached (suc place) → IsLeftOf w place first (x ∷ xs) m b
    later n m old same = record {
      at = suc old.at;
      block = old.block;
      here = old.here;
      set = ap (is_chosen w.reached) (one_on place old.at) ∙ old.set;
      stands = same ∙ old.stands ∙ ap (rank w.reached) (sym (one_on place old.at));
      is =
          let total : first + length (block_results x) + first_result xs old.at ≡ first + first_result (x ∷ xs) (suc old.at) = omega (arith, first_cons x xs old.at) in
          old.is ∙ ap (λ n. made w n (first + length (block_results x) + first_result xs old.at) old.block) (sym (one_on place old.at)) ∙ ap (λ n. made w (place + suc old.at) n old.block) total;
    }

    by : (flag : Bool) → is_chosen w.reached place ≡ flag → (r : ℕ) → slice_get ((if flag then made w place first x ∷ [] else []) ++ rest) r ≡ Some b
        → ((n : ℕ) → slice_get rest n ≡ Some b → IsLeftOf w (suc place) (first + length (block_results x)) xs n b) → IsLeftOf w place first (x ∷ xs) r b
    by true e zero is more = record {
      at = 0;
      block = x;
      here = refl;
      set = ap (is_chosen w.reached) (sym (none_on place)) ∙ e;
      stands = zero_on (rank w.reached place) ∙ ap (rank w.reached) (none_on place);
      is =
          let start : first ≡ first + first_result (x ∷ xs) 0 = none_on first ∙ ap (λ n. first + n) (sym (first_zero (x ∷ xs))) in
          sym (some_is is) ∙ ap (λ n. made w n first x) (none_on place) ∙ ap (λ n. made w (place + 0) n x) start;
    }
    by true e (suc r) is more = later r (suc r) (more r is) (omega (arith, rank_set w.reached place e))
    by false e r is more = later r r (more r is) (omega (arith, rank_unset w.reached place e))

-- so many blocks are left
pub left_long : (w : Leaving) (place first : ℕ) (blocks : List Block) → length (left_blocks w place first blocks) + rank w.reached place ≡ rank w.reached (place + length blocks)
left_long w place first [] = zero_on (rank w.reached place) ∙ ap (rank w.reached) (none_on place)
left_long w place first (x ∷ xs) = by (is_chosen w.reached place) refl (left_long w (suc place) (first + length (block_results x)) xs)
  where
    rest : List Block
    rest = left_blocks w (suc place) (first + length (block_results x)) xs

    by : (flag : Bool) → is_chosen w.reached place ≡ flag → length rest + rank w.reached (suc place) ≡ rank w.reached (suc place + length xs)
        → length ((if flag then made w place first x ∷ [] else []) ++ rest) + rank w.reached place ≡ rank w.reached (place + suc (length xs))
    by true e h = omega (arith, h, rank_set w.reached place e, ap (rank w.reached) (one_on place (length xs)))
    by false e h = omega (arith, h, rank_unset w.reached place e, ap (rank w.reached) (one_on place (length xs)))

-- ---- first results

first_nil : (k : ℕ) → first_result [] k ≡ 0
first_nil zero = refl
first_nil (suc k) = refl

-- The first result of a block that is left is the one that stays first of those from its block on.
pub left_first : (w : Leaving) (place first : ℕ) (blocks : List Block) (k r : ℕ) → AreOut w place first blocks → k ≤ length blocks → r + rank w.reached place ≡ rank w.reached (place + k)
    → first_result (left_blocks w place first blocks) r + rank w.kept first ≡ rank w.kept (first + first_result blocks k)
left_first w place first [] k r out within at =
    omega (arith, first_nil r, ap (λ n. rank w.kept (first + n)) (first_nil k), ap (rank w.kept) (none_on first))
left_first w place first (x ∷ xs) zero r out within at =
    let none : r ≡ 0 = omega (arith, at, ap (rank w.reached) (none_on place)) in
    let zero_one : first_result (left_blocks w place first (x ∷ xs)) r ≡ 0 = ap (first_result (left_blocks w place first (x ∷ xs))) none ∙ first_zero (left_blocks w place first (x ∷ xs)) in
    let start : rank w.kept (first + first_result (x ∷ xs) 0) ≡ rank w.kept first = ap (λ n. rank w.kept (first + n)) (first_zero (x ∷ xs)) ∙ ap (rank w.kept) (sym (none_on first)) in
    omega (arith, zero_one, start)
left_first w place first (x ∷ xs) (suc k) r out within at =
    by (is_chosen w.reached place) refl (λ n m. left_first w (suc place) (first + length (block_results x)) xs k n out.1 (omega (arith, within)) m) r at ∙ ap (rank w.kept) total
  where
    rest : List Block
    rest = left_blocks w (suc place) (first + length (block_results x)) xs

    total : first + length (block_results x) + first_result xs k ≡ first + first_result (x ∷ xs) (suc k)
    total = omega (arith, first_cons x xs k)

    moved : rank w.reached (place + suc k) ≡ rank w.reached (suc place + k)
    moved = ap (rank w.reached) (one_on place k)

    most : rank w.reached (suc place) ≤ rank w.reached (suc place + k)
    most = rank_most w.reached (suc place) (suc place + k) (omega arith)

    own : length (block_results (made w place first x)) + rank w.kept first ≡ rank w.kept (first + length (block_results x))
    own = ap (λ l. length l + rank w.kept first) (block_types w place first x) ∙ chosen_long w.kept first (block_results x)

    by : (flag : Bool) → is_chosen w.reached place ≡ flag
        → ((n : ℕ) → n + rank w.reached (suc place) ≡ rank w.reached (suc place + k) → first_result rest n + rank w.kept (first + length (block_results x)) ≡ rank w.kept (first + length (block_results x) + first_result xs k))
        → (r : ℕ) → r + rank w.reached place ≡ rank w.reached (place + suc k)
        → first_result ((if flag then made w place first x ∷ [] else []) ++ rest) r + rank w.kept first ≡ rank w.kept (first + length (block_results x) + first_result xs k)
    by true e more zero at = absurd (omega (arith, at, moved, most, rank_set w.reached place e))
    by true e more (suc r) at =
        let after = more r (omega (arith, at, moved, rank_set w.reached place e)) in
        omega (arith, first_cons (made w place first x) rest r, own, after)
    by false e more r at =
        let after = more r (omega (arith, at, moved, rank_unset w.reached place e)) in
        omega (arith, rank_flat w.kept first (length (block_results x)) (out.0 e), after)
