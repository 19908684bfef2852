-- Which blocks and results stay by an assignment.
use Rattle.std.proofs.Common.{◌≡◌, ◌∙◌, ℕ, zero, suc, ◌+◌, ◌-◌, ◌<◌, ◌≤◌, Bool, false, List, [], ◌∷◌, ◌++◌, length, map, take, drop, refl, ap, sym, arith}
use Rattle.std.specs.Prelude.{◌&&◌}
use Rattle.std.specs.List.{enumerate_from}
use Rattle.std.proofs.lemmas.List.{drop-drop, length-append}
use Rattle.ir_types.specs.declared.scalar.Known.{Known}
use Rattle.ir_syntax.specs.declared.body.Block.{Block}
use Rattle.ir_syntax.specs.Definite.{first_result, Defines}
use Rattle.ir_syntax.specs.Results.{block_results}
use Rattle.fold_facts.specs.declared.fact.Fact.{Fact}
use Rattle.fold_facts.specs.Assigned.{Assigned, fact_of, is_reached}
use Rattle.fold_facts.specs.OfFunction.{IsAssignmentIn, results_in}
use Rattle.fold_facts.proofs.Numbers.{first_zero, first_cons}
use Rattle.fold_facts.proofs.Visits.{facts_long}
use Rattle.interface.specs.Masks.{is_chosen}
use Rattle.interface.specs.Summaries.{reached}
use Rattle.specialise.specs.Leaving.{Leaving, leaving, is_open, kept_from, kept}
use Rattle.residual_laws.proofs.Numbering.{AreOut}

-- ---- blocks

pub zero_on : (m : ℕ) → 0 + m ≡ m
zero_on m = omega arith

reached_on : (a : Assigned) (blocks : List Block) (from k : ℕ) → k < length blocks → is_chosen (map (λ entry. is_reached a entry.0) (enumerate_from from blocks)) k ≡ is_reached a (from + k)
reached_on a [] from k less = absurd (omega (arith, less))
reached_on a (b ∷ bs) from zero less = ap (is_reached a) (none_on from)
  where
    none_on : (m : ℕ) → m ≡ m + 0
    none_on m = omega arith
reached_on a (b ∷ bs) from (suc k) less = reached_on a bs (from + 1) k (omega (arith, less)) ∙ ap (is_reached a) (one_on from)
  where
    one_on : (m : ℕ) → (m + 1) + k ≡ m + suc k
    one_on m = omega arith

pub reached_flag : (a : Assigned) (blocks : List Block) (place : ℕ) → place < length blocks → is_chosen (reached a blocks) place ≡ is_reached a place
reached_flag a blocks place less = reached_on a blocks 0 place less ∙ ap (is_reached a) (zero_on place)

-- ---- results

chosen_drop : (mask : List Bool) (n i : ℕ) → is_chosen mask (n + i) ≡ is_chosen (drop n mask) i
chosen_drop mask zero i = ap (is_chosen mask) (zero_on i)
chosen_drop [] (suc n) i = refl
chosen_drop (flag ∷ mask) (suc n) i = ap (is_chosen (flag ∷ mask)) (one_on n) ∙ chosen_drop mask n i
  where
    one_on : (m : ℕ) → suc m + i ≡ suc (m + i)
    one_on m = omega arith

fact_drop : (facts : List Fact) (n i : ℕ) → fact_of facts (n + i) ≡ fact_of (drop n facts) i
fact_drop facts zero i = ap (fact_of facts) (zero_on i)
fact_drop [] (suc n) i = refl
fact_drop (fact ∷ facts) (suc n) i = ap (fact_of (fact ∷ facts)) (one_on n) ∙ fact_drop facts n i
  where
    one_on : (m : ℕ) → suc m + i ≡ suc (m + i)
    one_on m = omega arith

head_flag : (f : Fact → Bool) (facts : List Fact) (n i : ℕ) (more : List Bool) → i < n → n ≤ length facts → is_chosen (map f (take n facts) ++ more) i ≡ f (fact_of facts i)
head_flag f [] n i more less long = absurd (omega (arith, less, long))
head_flag f (x ∷ xs) zero i more less long = absurd (omega (arith, less))
head_flag f (x ∷ xs) (suc n) zero more less long = refl
head_flag f (x ∷ xs) (suc n) (suc i) more less long = head_flag f xs n i more (omega (arith, less)) (omega (arith, long))

tail_flags : (f : Fact → Bool) (facts : List Fact) (n : ℕ) (more : List Bool) → n ≤ length facts → drop n (map f (take n facts) ++ more) ≡ more
tail_flags f facts zero more long = refl
tail_flags f [] (suc n) more long = absurd (omega (arith, long))
tail_flags f (x ∷ xs) (suc n) more long = tail_flags f xs n more (omega (arith, long))

first_nil : (k : ℕ) → first_result [] k ≡ 0
first_nil zero = refl
first_nil (suc k) = refl

drop_long : {A : Type 0} (xs : List A) (n m : ℕ) → n + m ≤ length xs → m ≤ length (drop n xs)
drop_long xs zero m long = omega (arith, long)
drop_long [] (suc n) m long = absurd (omega (arith, long))
drop_long (x ∷ xs) (suc n) m long = drop_long xs n m (omega (arith, long))

kept_on : (a : Assigned) (facts : List Fact) (mask : List Bool) (place first : ℕ) (rest : List Block) → first + length (results_in rest) ≡ length facts → drop first mask ≡ kept_from a place (drop first facts) rest
    → (k r : ℕ) → first + first_result rest k ≤ r → r < first + first_result rest (suc k) → is_chosen mask r ≡ (is_reached a (place + k) && is_open (fact_of facts r))
kept_on a facts mask place first [] long is k r low high = absurd (omega (arith, low, high, first_nil k, first_nil (suc k)))
kept_on a facts mask place first (x ∷ xs) long is zero r low high =
    let i : ℕ = r - first in
    let own : first_result (x ∷ xs) 1 ≡ length (block_results x) + first_result xs 0 = first_cons x xs 0 in
    let all : length (results_in (x ∷ xs)) ≡ length (block_results x) + length (results_in xs) = length-append (block_results x) (results_in xs) in
    let at : r ≡ first + i = omega (arith, low) in
    let less : i < length (block_results x) = omega (arith, high, own, first_zero xs, at) in
    let place_on : place ≡ place + 0 = omega arith in
    let within : length (block_results x) ≤ length (drop first facts) = drop_long facts first (length (block_results x)) (omega (arith, long, all)) in
    ap (is_chosen mask) at ∙ chosen_drop mask first i ∙ ap (λ l. is_chosen l i) is
    ∙ head_flag (λ fact. is_reached a place && is_open fact) (drop first facts) (length (block_results x)) i (kept_from a (suc place) (drop (length (block_results x)) (drop first facts)) xs) less within
    ∙ ap (λ fact. is_reached a place && is_open fact) (sym (fact_drop facts first i) ∙ ap (fact_of facts) (sym at))
    ∙ ap (λ n. is_reached a n && is_open (fact_of facts r)) place_on
kept_on a facts mask place first (x ∷ xs) long is (suc k) r low high =
    let n : ℕ = length (block_results x) in
    let all : length (results_in (x ∷ xs)) ≡ n + length (results_in xs) = length-append (block_results x) (results_in xs) in
    let within : n ≤ length (drop first facts) = drop_long facts first n (omega (arith, long, all)) in
    let rest : drop (first + n) mask ≡ kept_from a (suc place) (drop (first + n) facts) xs =
    sym (drop-drop n first mask) ∙ ap (drop n) is ∙ tail_flags (λ fact. is_reached a place && is_open fact) (drop first facts) n (kept_from a (suc place) (drop n (drop first facts)) xs) within
    ∙ ap (λ l. kept_from a (suc place) l xs) (drop-drop n first facts) in
    let place_on : suc place + k ≡ place + suc k = omega arith in
    kept_on a facts mask (suc place) (first + n) xs (omega (arith, long, all)) rest k r (omega (arith, low, first_cons x xs k)) (omega (arith, high, first_cons x xs (suc k)))
    ∙ ap (λ m. is_reached a m && is_open (fact_of facts r)) place_on

-- a result stays where its block is reached and it has no known value
pub kept_flag : (blocks : List Block) (a : Assigned) (place r : ℕ) → IsAssignmentIn blocks a → Defines blocks place r → is_chosen (kept a blocks) r ≡ (is_reached a place && is_open (fact_of a.facts r))
kept_flag blocks a place r of d =
    let long : 0 + length (results_in blocks) ≡ length a.facts = omega (arith, facts_long blocks a of) in
    kept_on a a.facts (kept a blocks) 0 0 blocks long refl place r (omega (arith, d.0)) (omega (arith, d.1)) ∙ ap (λ n. is_reached a n && is_open (fact_of a.facts r)) (zero_on place)

-- ---- of blocks that aren't reached none does

within_blocks : (blocks : List Block) (k r : ℕ) → first_result blocks k ≤ r → r < first_result blocks (suc k) → k < length blocks
within_blocks [] k r low high = absurd (omega (arith, low, high, first_nil (suc k)))
within_blocks (x ∷ xs) zero r low high = omega arith
within_blocks (x ∷ xs) (suc k) r low high =
    let n : ℕ = length (block_results x) in
    omega (arith, within_blocks xs k (r - n) (omega (arith, low, first_cons x xs k)) (omega (arith, low, high, first_cons x xs k, first_cons x xs (suc k))))

all_out : (w : Leaving) (place first : ℕ) (rest : List Block)
    → ((k r : ℕ) → first + first_result rest k ≤ r → r < first + first_result rest (suc k) → is_chosen w.reached (place + k) ≡ false → is_chosen w.kept r ≡ false) → AreOut w place first rest
all_out w place first [] none = tt
all_out w place first (x ∷ xs) none = (λ e r low high. none 0 r (start low) (end high) (ap (is_chosen w.reached) (none_on place) ∙ e), all_out w (suc place) (first + length (block_results x)) xs after)
  where
    none_on : (m : ℕ) → m + 0 ≡ m
    none_on m = omega arith

    one_on : (m k : ℕ) → m + suc k ≡ suc m + k
    one_on m k = omega arith

    start : {r : ℕ} → first ≤ r → first + first_result (x ∷ xs) 0 ≤ r
    start low = omega (arith, low, first_zero (x ∷ xs))

    end : {r : ℕ} → r < first + length (block_results x) → r < first + first_result (x ∷ xs) 1
    end high = omega (arith, high, first_cons x xs 0)

    after : (k r : ℕ) → first + length (block_results x) + first_result xs k ≤ r → r < first + length (block_results x) + first_result xs (suc k) → is_chosen w.reached (suc place + k) ≡ false → is_chosen w.kept r ≡ false
    after k r low high e = none (suc k) r (omega (arith, low, first_cons x xs k)) (omega (arith, high, first_cons x xs (suc k))) (ap (is_chosen w.reached) (one_on place k) ∙ e)

pub are_out : (known : List Known) (blocks : List Block) (a : Assigned) → IsAssignmentIn blocks a → AreOut (leaving known blocks a) 0 0 blocks
are_out known blocks a of = all_out (leaving known blocks a) 0 0 blocks (λ k r low high e.
    let lower : first_result blocks k ≤ r = omega (arith, low) in
    let higher : r < first_result blocks (suc k) = omega (arith, high) in
    let unset : is_reached a k ≡ false = sym (reached_flag a blocks k (within_blocks blocks k r lower higher)) ∙ ap (is_chosen (reached a blocks)) (sym (zero_on k)) ∙ e in
    kept_flag blocks a k r of (lower, higher) ∙ ap (λ b. b && is_open (fact_of a.facts r)) unset)
