-- The table of the numbers of first results holds them.
use Rattle.std.proofs.Common.{◌≡◌, ◌∙◌, ℕ, zero, suc, ◌+◌, ◌≤◌, List, [], ◌∷◌, ◌++◌, length, map, take, sum, Option, Some, None, refl, sym, ap, subst, slice_get, option_map, option_and_then, add_assoc, zero-add, arith, length-append}
use Rattle.std.specs.List.{flat_map}
use Rattle.std.proofs.lemmas.Option.{slice_get-map}
use Rattle.std.proofs.lemmas.List.Sums.{sum_by-cons}
use Rattle.ir_types.specs.declared.scalar.Scalar.{Scalar}
use Rattle.ir_syntax.specs.declared.symbol.Sym.{Sym}
use Rattle.ir_syntax.specs.declared.body.Block.{Block}
use Rattle.ir_syntax.specs.declared.body.Body.{Body}
use Rattle.ir_syntax.specs.declared.item.Item.{Item}
use Rattle.ir_syntax.specs.declared.item.Item.TheVariants as item
use Rattle.ir_syntax.specs.declared.item.Module.{Module}
use Rattle.ir_syntax.specs.Results.{block_results, results}
use Rattle.ir_syntax.specs.Programs.{ProgramData}
use Rattle.ir_syntax.specs.Symbols.{item_at}
use Rattle.ir_syntax.specs.Targets.{entry_at}
use Rattle.ir_steps.specs.Branches.{first_result}
use Rattle.ir_steps.specs.Calls.{func_of, body_of}
use Rattle.ir_meaning.specs.Mirrors.Numbering.{numbers_from, body_numbers, item_numbers, table_of, number_at}

abbrev count_of : List Block → ℕ
count_of blocks = sum (map (λ block. length (block_results block)) blocks)

numbers_at : (n : ℕ) (blocks : List Block) (k : ℕ) → k ≤ length blocks → slice_get (numbers_from n blocks) k ≡ Some (n + count_of (take k blocks))
numbers_at n [] zero le = ap Some (omega arith)
numbers_at n [] (suc k) le = absurd (omega arith)
numbers_at n (block ∷ more) zero le = ap Some (omega arith)
numbers_at n (block ∷ more) (suc k) le =
    numbers_at (n + length (block_results block)) more k (omega arith)
    ∙ ap Some (add_assoc n (length (block_results block)) (count_of (take k more)) ∙ ap (λ m. n + m) (sym (sum_by-cons (λ (m : ℕ). m) (length (block_results block)) (map (λ b. length (block_results b)) (take k more)))))

entries_are : (modules : List Module) (symbol : Sym) → entry_at (table_of modules) symbol ≡ option_map item_numbers (item_at modules symbol)
entries_are modules symbol =
    ap (option_and_then (λ row. slice_get row symbol.item)) (slice_get-map (λ (m : Module). map item_numbers m.items) modules symbol.module) ∙ in_module (slice_get modules symbol.module)
  where
    in_module : (o : Option Module) → option_and_then (λ row. slice_get row symbol.item) (option_map (λ (m : Module). map item_numbers m.items) o) ≡ option_map item_numbers (option_and_then (λ (m : Module). slice_get m.items symbol.item) o)
    in_module None = refl
    in_module (Some m) = slice_get-map item_numbers m.items symbol.item

of_item : (o : Option Item) (body : Body) (k : ℕ) → option_and_then (λ func. func.body) (option_and_then func_of o) ≡ Some body → option_and_then (λ row. slice_get row k) (option_map item_numbers o) ≡ slice_get (numbers_from 0 body.blocks) k
of_item None body k is = absurd (cc (is))
of_item (Some (item.Var var)) body k is = absurd (cc (is))
of_item (Some (item.Func func)) body k is = ap (λ o. slice_get (body_numbers o) k) is

pub number_is : (p : ProgramData) (table : List (List (List ℕ))) (symbol : Sym) (body : Body) (k : ℕ) → table ≡ table_of p.modules → body_of p symbol ≡ Some body → k ≤ length body.blocks → number_at table symbol k ≡ Some (first_result body k)
number_is p table symbol body k right is le =
    ap (λ t. number_at t symbol k) right
    ∙ ap (option_and_then (λ row. slice_get row k)) (entries_are p.modules symbol)
    ∙ of_item (item_at p.modules symbol) body k is
    ∙ numbers_at 0 body.blocks k le
    ∙ ap Some (zero-add (first_result body k))
