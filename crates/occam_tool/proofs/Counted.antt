-- The counts of a program are below 2^63.
use Rattle.std.proofs.Common.{arith, ℕ, ◌*◌, ◌≤◌, ◌<◌, ◌^◌, List, [], ◌∷◌, All, length, sum_by, Option, None, Some}
use Rattle.std.specs.Prelude.{IfSome}
use Rattle.std.specs.List.{AllByRecursion}
use Rattle.ir_syntax.specs.FormedBody.{FormedBody}
use Rattle.std.proofs.lemmas.List.Elements.{recursion_from_All}
use Rattle.std.proofs.lemmas.List.Sums.{sum_by-cons}
use Rattle.ir_syntax.specs.declared.body.Body.{Body}
use Rattle.ir_syntax.specs.declared.item.Item.{Item}
use Rattle.ir_syntax.specs.declared.item.Item.TheVariants as item
use Rattle.ir_syntax.specs.declared.item.Module.{Module}
use Rattle.ir_syntax.specs.Formed.{Formed}
use Rattle.ir_syntax.specs.FormedItem.{FormedItem}
use Rattle.ir_syntax.specs.Programs.{IsSoundModule}
use Rattle.occam_tool.specs.Counts.{one_if, function_count, variable_count, body_count, instruction_count, module_count}

-- so many items of at most 2^20 each, and so many modules of at most 2^44 each
items_bound : {X : Type 0} → (f : X → ℕ) (xs : List X) → AllByRecursion (λ x. f x ≤ 1048576) xs → sum_by f xs ≤ length xs * 1048576
items_bound f [] h = omega arith
items_bound f (x ∷ xs) h = let rest : sum_by f xs ≤ length xs * 1048576 = items_bound f xs h.1 in omega (arith, h.0, rest, sum_by-cons f x xs)

modules_bound : {X : Type 0} → (f : X → ℕ) (xs : List X) → AllByRecursion (λ x. f x ≤ 17592186044416) xs → sum_by f xs ≤ length xs * 17592186044416
modules_bound f [] h = omega arith
modules_bound f (x ∷ xs) h = let rest : sum_by f xs ≤ length xs * 17592186044416 = modules_bound f xs h.1 in omega (arith, h.0, rest, sum_by-cons f x xs)

-- ---- one item

one_small : {X : Type 0} (o : Option X) → one_if o ≤ 1048576
one_small None = omega arith
one_small (Some x) = omega arith

abbrev Small : (Item → ℕ) → List Item → Item → Type 0
Small each items found = FormedItem items found → each found ≤ 1048576

function_small : (items : List Item) (found : Item) → Small function_count items found
function_small items (item.Var var) h = omega arith
function_small items (item.Func func) h = one_small func.body

variable_small : (items : List Item) (found : Item) → Small variable_count items found
variable_small items (item.Var var) h = one_small var.init
variable_small items (item.Func func) h = omega arith

body_small : (items : List Item) (params : ℕ) (o : Option Body) → IfSome o (FormedBody items params) → body_count o ≤ 1048576
body_small items params None h = omega arith
body_small items params (Some body) h = h.few_insts

instruction_small : (items : List Item) (found : Item) → Small instruction_count items found
instruction_small items (item.Var var) h = omega arith
instruction_small items (item.Func func) h = body_small items (length func.params) func.body h.has_body

-- ---- all items of a module, and all modules

map_small : (each : Item → ℕ) (items : List Item) → ((found : Item) → Small each items found) → (xs : List Item) → AllByRecursion (FormedItem items) xs → AllByRecursion (λ x. each x ≤ 1048576) xs
map_small each items small [] h = tt
map_small each items small (x ∷ xs) h = (small x h.0, map_small each items small xs h.1)

module_small : (each : Item → ℕ) → ((items : List Item) (found : Item) → Small each items found) → (m : Module) → Formed m → length m.items ≤ 16777216 → module_count each m ≤ 17592186044416
module_small each small m formed few =
    let sum : sum_by each m.items ≤ length m.items * 1048576 = items_bound each m.items (map_small each m.items (small m.items) m.items (recursion_from_All (FormedItem m.items) m.items formed.has_items)) in
    omega (arith, sum, few)

modules_small : (each : Item → ℕ) → ((items : List Item) (found : Item) → Small each items found) → (ms : List Module) → AllByRecursion IsSoundModule ms → AllByRecursion (λ m. length m.items ≤ 16777216) ms
    → AllByRecursion (λ m. module_count each m ≤ 17592186044416) ms
modules_small each small [] h few = tt
modules_small each small (m ∷ ms) h few = (module_small each small m h.0.formed few.0, modules_small each small ms h.1 few.1)

all_small : (each : Item → ℕ) → ((items : List Item) (found : Item) → Small each items found) → (ms : List Module) → All IsSoundModule ms → All (λ m. length m.items ≤ 16777216) ms → length ms ≤ 256
    → sum_by (module_count each) ms < 2 ^ 63
all_small each small ms sound few count =
    let sum : sum_by (module_count each) ms ≤ length ms * 17592186044416 =
    modules_bound (module_count each) ms (modules_small each small ms (recursion_from_All IsSoundModule ms sound) (recursion_from_All (λ m. length m.items ≤ 16777216) ms few)) in
    omega (arith, sum, count)

pub functions_small : (ms : List Module) → All IsSoundModule ms → All (λ m. length m.items ≤ 16777216) ms → length ms ≤ 256 → sum_by (module_count function_count) ms < 2 ^ 63
functions_small ms sound few count = all_small function_count function_small ms sound few count

pub variables_small : (ms : List Module) → All IsSoundModule ms → All (λ m. length m.items ≤ 16777216) ms → length ms ≤ 256 → sum_by (module_count variable_count) ms < 2 ^ 63
variables_small ms sound few count = all_small variable_count variable_small ms sound few count

pub instructions_small : (ms : List Module) → All IsSoundModule ms → All (λ m. length m.items ≤ 16777216) ms → length ms ≤ 256 → sum_by (module_count instruction_count) ms < 2 ^ 63
instructions_small ms sound few count = all_small instruction_count instruction_small ms sound few count
