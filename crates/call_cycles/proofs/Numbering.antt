-- Functions and their numbers.
use Rattle.std.proofs.Common.{◌≡◌, ◌∙◌, ℕ, zero, suc, ◌+◌, List, [], ◌∷◌, ◌++◌, Option, None, Some, length, map, refl, sym, ap, arith}
use Rattle.std.specs.Prelude.{slice_get, option_and_then, option_map, option_to_list}
use Rattle.std.proofs.lemmas.Option.{none-some}
use Rattle.std.proofs.lemmas.List.{length-append}
use Rattle.ir_types.proofs.ListSteps.{slice_get-append_first}
use Rattle.ir_syntax.specs.declared.symbol.Sym.{Sym}
use Rattle.ir_syntax.specs.declared.body.Body.{Body}
use Rattle.ir_syntax.specs.declared.item.Item.{Item}
use Rattle.ir_syntax.specs.declared.item.Module.{Module}
use Rattle.ir_syntax.specs.Symbols.{item_at}
use Rattle.ir_syntax.specs.Targets.{entry_at}
use Rattle.call_cycles.specs.Mirrors.Numbering.{body_in, numbered, one_more, item_numbers, next_number, module_numbers, number_of, in_items, in_modules}
use Rattle.call_cycles.proofs.Lists.{some_is, append_moves}

assoc : {A : Type 0} (xs ys zs : List A) → (xs ++ ys) ++ zs ≡ xs ++ (ys ++ zs)
assoc [] ys zs = refl
assoc (x ∷ xs) ys zs = ap (λ l. x ∷ l) (assoc xs ys zs)

behind : {A : Type 0} (xs : List A) (y : A) (ys : List A) (k : ℕ) → length xs ≡ k → slice_get (xs ++ y ∷ ys) k ≡ Some y
behind [] y ys zero e = refl
behind [] y ys (suc k) e = absurd (omega arith)
behind (x ∷ xs) y ys zero e = absurd (omega arith)
behind (x ∷ xs) y ys (suc k) e = behind xs y ys k (omega arith)

-- ---- the items of one module

-- the function at a place, whose number is k, and what stands for it at k
pub record IsFunctionAt (B : Type 0) (f : ℕ → Body → B) (at : ℕ) (xs : List Item) (i : ℕ) (ys : List B) (k : ℕ) : Type 0 where
  pub found : Item
  pub stands : slice_get xs i ≡ Some found
  pub body : Body
  pub has_body : body_in found ≡ Some body
  pub is : slice_get ys k ≡ Some (f at body)

one_more_long : {B : Type 0} (f : ℕ → Body → B) (at n : ℕ) (xs : List Item) (o : Option Body) → length (in_items f (suc at) xs) + one_more n o ≡ next_number (one_more n o) xs
    → length (option_to_list (option_map (f at) o) ++ in_items f (suc at) xs) + n ≡ next_number (one_more n o) xs
one_more_long f at n xs None h = h
one_more_long f at n xs (Some body) h = omega (arith, h)

next_long : {B : Type 0} (f : ℕ → Body → B) (at n : ℕ) (xs : List Item) → length (in_items f at xs) + n ≡ next_number n xs
next_long f at n [] = omega arith
next_long f at n (x ∷ xs) = one_more_long f at n xs (body_in x) (next_long f (suc at) (one_more n (body_in x)) xs)

item_at_number : {B : Type 0} (f : ℕ → Body → B) (n at : ℕ) (xs : List Item) (i k place : ℕ) (before : List B) → length before ≡ n → at + i ≡ place → slice_get (item_numbers n xs) i ≡ Some (Some k)
    → IsFunctionAt B f place xs i (before ++ in_items f at xs) k
item_at_number f n at [] i k place before long is h = absurd (none-some (Some k) h)
item_at_number {B} f n at (x ∷ xs) zero k place before long is h = by (body_in x) refl (some_is h)
  where
    by : (o : Option Body) → body_in x ≡ o → numbered n o ≡ Some k → IsFunctionAt B f place (x ∷ xs) 0 (before ++ (option_to_list (option_map (f at) o) ++ in_items f (suc at) xs)) k
    by None e number = absurd (none-some k number)
    by (Some body) e number = record {
      found = x;
      stands = refl;
      body = body;
      has_body = e;
      is = behind before (f at body) (in_items f (suc at) xs) k (long ∙ some_is number) ∙ ap (λ p. Some (f p body)) (omega (arith, is));
    }
item_at_number {B} f n at (x ∷ xs) (suc i) k place before long is h =
    by (body_in x) h (λ m first l number. item_at_number f m (suc at) xs i k place first l (omega (arith, is)) number)
  where
    by : (o : Option Body) → slice_get (item_numbers (one_more n o) xs) i ≡ Some (Some k)
        → ((m : ℕ) (first : List B) → length first ≡ m → slice_get (item_numbers m xs) i ≡ Some (Some k) → IsFunctionAt B f place xs i (first ++ in_items f (suc at) xs) k)
        → IsFunctionAt B f place (x ∷ xs) (suc i) (before ++ (option_to_list (option_map (f at) o) ++ in_items f (suc at) xs)) k
    by None number rest = let more = rest n before long number in record { found = more.found; stands = more.stands; body = more.body; has_body = more.has_body; is = more.is }
    by (Some body) number rest =
        let more = rest (suc n) (before ++ f at body ∷ []) (omega (arith, length-append before (f at body ∷ []), long)) number in
        record { found = more.found; stands = more.stands; body = more.body; has_body = more.has_body; is = sym (ap (λ l. slice_get l k) (append_moves before (in_items f (suc at) xs) (f at body))) ∙ more.is }

-- an item that is there has a number where it has a body
item_number : (n : ℕ) (xs : List Item) (i : ℕ) (x : Item) → slice_get xs i ≡ Some x → (k : ℕ) × (slice_get (item_numbers n xs) i ≡ Some (numbered k (body_in x)))
item_number n [] i x h = absurd (none-some x h)
item_number n (y ∷ ys) zero x h = (n, ap (λ z. Some (numbered n (body_in z))) (some_is h))
item_number n (y ∷ ys) (suc i) x h = item_number (one_more n (body_in y)) ys i x h

pub items_long : (n : ℕ) (xs : List Item) → length (item_numbers n xs) ≡ length xs
items_long n [] = refl
items_long n (x ∷ xs) = ap suc (items_long (one_more n (body_in x)) xs)

-- ---- all modules

-- the function at a symbol, whose number is k
pub record IsFunctionOf (B : Type 0) (f : ℕ → Module → ℕ → Body → B) (at : ℕ) (ms : List Module) (symbol : Sym) (ys : List B) (k : ℕ) : Type 0 where
  pub owner : Module
  pub placed : slice_get ms symbol.module ≡ Some owner
  pub found : Item
  pub stands : slice_get owner.items symbol.item ≡ Some found
  pub body : Body
  pub has_body : body_in found ≡ Some body
  pub is : slice_get ys k ≡ Some (f at owner symbol.item body)

row_number : Option (List (Option ℕ)) → ℕ → Option ℕ
row_number row i = option_and_then (λ number. number) (option_and_then (λ numbers. slice_get numbers i) row)

number_in : (o : Option (Option ℕ)) (k : ℕ) → option_and_then (λ number. number) o ≡ Some k → o ≡ Some (Some k)
number_in None k h = absurd (none-some k h)
number_in (Some None) k h = absurd (none-some k h)
number_in (Some (Some n)) k h = ap (λ m. Some m) h

module_at_number : {B : Type 0} (f : ℕ → Module → ℕ → Body → B) (n at : ℕ) (ms : List Module) (home item k place : ℕ) (before : List B) → length before ≡ n → at + home ≡ place
    → option_and_then (λ numbers. slice_get numbers item) (slice_get (module_numbers n ms) home) ≡ Some (Some k)
    → IsFunctionOf B f place ms (record { «module» = home; item = item }) (before ++ in_modules f at ms) k
module_at_number f n at [] home item k place before long is h = absurd (none-some (Some k) h)
module_at_number f n at (m ∷ ms) zero item k place before long is h =
    let here = item_at_number (f at m) n 0 m.items item k item before long (omega arith) h in
    record {
      owner = m;
      placed = refl;
      found = here.found;
      stands = here.stands;
      body = here.body;
      has_body = here.has_body;
      is = sym (ap (λ l. slice_get l k) (assoc before (in_items (f at m) 0 m.items) (in_modules f (suc at) ms)))
          ∙ slice_get-append_first (before ++ in_items (f at m) 0 m.items) (in_modules f (suc at) ms) k (f at m item here.body) here.is
          ∙ ap (λ p. Some (f p m item here.body)) (omega (arith, is));
    }
module_at_number f n at (m ∷ ms) (suc home) item k place before long is h =
    let more = module_at_number f (next_number n m.items) (suc at) ms home item k place (before ++ in_items (f at m) 0 m.items)
    (omega (arith, length-append before (in_items (f at m) 0 m.items), long, next_long (f at m) 0 n m.items)) (omega (arith, is)) h in
    record {
      owner = more.owner;
      placed = more.placed;
      found = more.found;
      stands = more.stands;
      body = more.body;
      has_body = more.has_body;
      is = sym (ap (λ l. slice_get l k) (assoc before (in_items (f at m) 0 m.items) (in_modules f (suc at) ms))) ∙ more.is;
    }

pub function_at : {B : Type 0} (f : ℕ → Module → ℕ → Body → B) (ms : List Module) (symbol : Sym) (k : ℕ) → number_of (module_numbers 0 ms) symbol ≡ Some k
    → IsFunctionOf B f symbol.module ms symbol (in_modules f 0 ms) k
function_at f ms symbol k h = module_at_number f 0 0 ms symbol.module symbol.item k symbol.module [] refl (omega arith) (number_in (entry_at (module_numbers 0 ms) symbol) k h)

-- no two functions have one number
pub one_function : (ms : List Module) (a b : Sym) (k : ℕ) → number_of (module_numbers 0 ms) a ≡ Some k → number_of (module_numbers 0 ms) b ≡ Some k → a ≡ b
one_function ms a b k one other =
    let f : ℕ → Module → ℕ → Body → Sym = λ home m item body. record { «module» = home; item = item } in
    let at_a = function_at f ms a k one in
    let at_b = function_at f ms b k other in
    let e : Some a ≡ Some b = sym at_a.is ∙ at_b.is in
    some_is e

numbered_there : (n : ℕ) (ms : List Module) (home item : ℕ) (found : Item) → option_and_then (λ m. slice_get m.items item) (slice_get ms home) ≡ Some found
    → (k : ℕ) × (option_and_then (λ numbers. slice_get numbers item) (slice_get (module_numbers n ms) home) ≡ Some (numbered k (body_in found)))
numbered_there n [] home item found h = absurd (none-some found h)
numbered_there n (m ∷ ms) zero item found h = item_number n m.items item found h
numbered_there n (m ∷ ms) (suc home) item found h = numbered_there (next_number n m.items) ms home item found h

pub number_there : (ms : List Module) (symbol : Sym) (found : Item) → item_at ms symbol ≡ Some found → (k : ℕ) × (entry_at (module_numbers 0 ms) symbol ≡ Some (numbered k (body_in found)))
number_there ms symbol found h = numbered_there 0 ms symbol.module symbol.item found h

pub modules_long : (n : ℕ) (ms : List Module) → map length (module_numbers n ms) ≡ map (λ m. length m.items) ms
modules_long n [] = refl
modules_long n (m ∷ ms) = ap (λ l. l ∷ map length (module_numbers (next_number n m.items) ms)) (items_long n m.items) ∙ ap (λ l. length m.items ∷ l) (modules_long (next_number n m.items) ms)
