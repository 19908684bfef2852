-- Masks as they are made flag by flag.
use Rattle.std.proofs.Common.{◌≡◌, ◌∙◌, ℕ, zero, suc, ◌+◌, ◌≤◌, ◌<◌, Bool, List, [], ◌∷◌, ◌++◌, length, map, take, drop, refl, sym, ap, add-one, arith, length-append}
use Rattle.std.specs.Prelude.{◌&&◌}
use Rattle.std.specs.List.{enumerate_from}
use Rattle.std.proofs.lemmas.List.{drop-drop, length-drop, length-map, length-take-le}
use Rattle.ir_syntax.specs.declared.body.Block.{Block}
use Rattle.ir_syntax.specs.Results.{block_results}
use Rattle.fold_facts.specs.declared.fact.Fact.{Fact}
use Rattle.fold_facts.specs.Assigned.{Assigned, is_reached}
use Rattle.fold_facts.specs.OfFunction.{results_in}
use Rattle.specialise.specs.Leaving.{is_open, kept_from}
use Rattle.specialise.proofs.Listing.{assoc}

-- a list with its first elements dropped goes on with one, where there is one
record GoesOn {A : Type 0} (xs : List A) (k : ℕ) : Type 0 where
  pub first : A
  pub is : drop k xs ≡ first ∷ drop (suc k) xs

goes_on : {A : Type 0} (xs : List A) (k : ℕ) → k < length xs → GoesOn xs k
goes_on [] k less = absurd (omega (arith, less))
goes_on (x ∷ xs) zero less = record { first = x; is = refl }
goes_on (x ∷ xs) (suc k) less = let more = goes_on xs k (omega (arith, less)) in record { first = more.first; is = more.is }

pub flags_next : (a : Assigned) (blocks : List Block) (place : ℕ) (flags next whole : List Bool) (flag : Bool) → place < length blocks
    → flags ++ map (λ entry. is_reached a entry.0) (enumerate_from place (drop place blocks)) ≡ whole → next ≡ flags ++ flag ∷ [] → flag ≡ is_reached a place
    → next ++ map (λ entry. is_reached a entry.0) (enumerate_from (place + 1) (drop (place + 1) blocks)) ≡ whole
flags_next a blocks place flags next whole flag less so pushed is =
    let at = goes_on blocks place less in
    ap (λ l. l ++ map (λ entry. is_reached a entry.0) (enumerate_from (place + 1) (drop (place + 1) blocks))) (pushed ∙ ap (λ b. flags ++ b ∷ []) is)
    ∙ assoc flags (is_reached a place ∷ []) (map (λ entry. is_reached a entry.0) (enumerate_from (place + 1) (drop (place + 1) blocks)))
    ∙ ap (λ n. flags ++ is_reached a place ∷ map (λ entry. is_reached a entry.0) (enumerate_from (place + 1) (drop n blocks))) (add-one place)
    ∙ ap (λ l. flags ++ map (λ entry. is_reached a entry.0) (enumerate_from place l)) (sym at.is)
    ∙ so

-- ---- results

abbrev pub flags_of : Bool → List Fact → List Bool
flags_of reached facts = map (λ fact. reached && is_open fact) facts

-- one more fact was looked at
pub flag_next : (reached : Bool) (rest more : List Fact) (fact : Fact) (flags next whole : List Bool) (flag : Bool) → rest ≡ fact ∷ more → flags ++ flags_of reached rest ≡ whole → next ≡ flags ++ flag ∷ [] → flag ≡ (reached && is_open fact)
    → next ++ flags_of reached more ≡ whole
flag_next reached rest more fact flags next whole flag is so pushed opens =
    ap (λ l. l ++ flags_of reached more) (pushed ∙ ap (λ b. flags ++ b ∷ []) opens)
    ∙ assoc flags ((reached && is_open fact) ∷ []) (flags_of reached more)
    ∙ ap (λ l. flags ++ flags_of reached l) (sym is)
    ∙ so

-- behind the flags so far there are facts for a block's results
pub kept_room : (blocks rest more : List Block) (block : Block) (facts : List Fact) (n count : ℕ) → rest ≡ block ∷ more → n + length (results_in rest) ≡ length (results_in blocks) → count ≡ length (block_results block)
    → length facts ≡ length (results_in blocks) → n + count ≤ length facts
kept_room blocks rest more block facts n count is so many long = omega (arith, so, many, long, ap (λ l. length (results_in l)) is, length-append (block_results block) (results_in more))

-- a block's flags are as many as its results
kept_long : (facts : List Fact) (flags next : List Bool) (count : ℕ) (reached : Bool) → length flags + count ≤ length facts → next ≡ flags ++ flags_of reached (take count (drop (length flags) facts)) → length next ≡ length flags + count
kept_long facts flags next count reached room made =
    omega (
      arith,
      ap length made,
      length-append flags (flags_of reached (take count (drop (length flags) facts))),
      length-map (take count (drop (length flags) facts)) (λ fact. reached && is_open fact),
      length-take-le count (drop (length flags) facts) (omega (arith, room, length-drop (length flags) facts)),
      room,
    )

-- the flags so far and then those of the blocks that are left, once a block's were added
pub kept_next : (a : Assigned) (facts : List Fact) (rest more : List Block) (block : Block) (flags next whole : List Bool) (place count : ℕ) (reached : Bool) → rest ≡ block ∷ more
    → flags ++ kept_from a place (drop (length flags) facts) rest ≡ whole → length flags + count ≤ length facts → count ≡ length (block_results block) → reached ≡ is_reached a place
    → next ≡ flags ++ flags_of reached (take count (drop (length flags) facts)) → next ++ kept_from a (place + 1) (drop (length next) facts) more ≡ whole
kept_next a facts rest more block flags next whole place count reached is so room many reached_is made =
    ap (λ n. next ++ kept_from a n (drop (length next) facts) more) (add-one place)
    ∙ ap (λ l. next ++ kept_from a (suc place) l more) (ap (λ n. drop n facts) (kept_long facts flags next count reached room made) ∙ sym (drop-drop count (length flags) facts))
    ∙ ap (λ l. l ++ kept_from a (suc place) (drop count (drop (length flags) facts)) more) made
    ∙ assoc flags (flags_of reached (take count (drop (length flags) facts))) (kept_from a (suc place) (drop count (drop (length flags) facts)) more)
    ∙ ap (λ r. flags ++ (flags_of r (take count (drop (length flags) facts)) ++ kept_from a (suc place) (drop count (drop (length flags) facts)) more)) reached_is
    ∙ ap (λ n. flags ++ (flags_of (is_reached a place) (take n (drop (length flags) facts)) ++ kept_from a (suc place) (drop n (drop (length flags) facts)) more)) many
    ∙ ap (λ l. flags ++ kept_from a place (drop (length flags) facts) l) (sym is)
    ∙ so

-- and so many results are left
pub kept_count : (rest more : List Block) (block : Block) (facts : List Fact) (flags next : List Bool) (count whole : ℕ) (reached : Bool) → rest ≡ block ∷ more → length flags + length (results_in rest) ≡ whole
    → length flags + count ≤ length facts → count ≡ length (block_results block) → next ≡ flags ++ flags_of reached (take count (drop (length flags) facts)) → length next + length (results_in more) ≡ whole
kept_count rest more block facts flags next count whole reached is so room many made =
    omega (arith, so, many, kept_long facts flags next count reached room made, ap (λ l. length (results_in l)) is, length-append (block_results block) (results_in more))
