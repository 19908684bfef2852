-- The numbers of the functions that have bodies, and what is listed of their calls, as the code makes them.
use Rattle.std.specs.Prelude.{ℕ, Bool, false, suc, ◌+◌, List, [], ◌∷◌, ◌++◌, Option, None, Some, length, map, option_map, option_and_then, option_to_list, slice_get}
use Rattle.std.specs.List.{filter_map, flat_map}
use Rattle.ir_syntax.specs.declared.symbol.Sym.{Sym}
use Rattle.ir_syntax.specs.declared.symbol.Target.{Target}
use Rattle.ir_syntax.specs.declared.symbol.Target.TheVariants as target
use Rattle.ir_syntax.specs.declared.body.Inst.{Inst}
use Rattle.ir_syntax.specs.declared.body.Block.{Block}
use Rattle.ir_syntax.specs.declared.body.Body.{Body}
use Rattle.ir_syntax.specs.declared.item.Item.{Item}
use Rattle.ir_syntax.specs.declared.item.Item.TheVariants as item
use Rattle.ir_syntax.specs.declared.item.Module.{Module}
use Rattle.ir_syntax.specs.Callees.{inst_callee}
use Rattle.ir_syntax.specs.Targets.{entry_at}
use Rattle.call_cycles.specs.declared.mark.Mark.{Mark}
use Rattle.call_cycles.specs.declared.mark.Mark.TheVariants.{Fresh, Open, Closed}

-- the body of a function that has one
abbrev pub body_in : Item → Option Body
body_in (item.Var var) = None
body_in (item.Func func) = func.body

-- ---- numbers

-- a function gets the next number
abbrev pub numbered : ℕ → Option Body → Option ℕ
numbered n None = None
numbered n (Some body) = Some n

abbrev pub one_more : ℕ → Option Body → ℕ
one_more n None = n
one_more n (Some body) = suc n

abbrev pub item_numbers : ℕ → List Item → List (Option ℕ)
item_numbers n [] = []
item_numbers n (x ∷ xs) = numbered n (body_in x) ∷ item_numbers (one_more n (body_in x)) xs

-- the next number behind these items
abbrev pub next_number : ℕ → List Item → ℕ
next_number n [] = n
next_number n (x ∷ xs) = next_number (one_more n (body_in x)) xs

abbrev pub module_numbers : ℕ → List Module → List (List (Option ℕ))
module_numbers n [] = []
module_numbers n (m ∷ ms) = item_numbers n m.items ∷ module_numbers (next_number n m.items) ms

abbrev pub number_of : List (List (Option ℕ)) → Sym → Option ℕ
number_of numbers symbol = option_and_then (λ number. number) (entry_at numbers symbol)

-- ---- where names lead

abbrev pub lead : List (List (Option ℕ)) → Option Target → Option ℕ
lead numbers None = None
lead numbers (Some (target.Def symbol)) = number_of numbers symbol
lead numbers (Some target.Outside) = None
lead numbers (Some (target.Builtin builtin)) = None
lead numbers (Some (target.Intrinsic intrinsic)) = None
lead numbers (Some target.Nothing) = None

-- of the items of a module, from the one at a place on
abbrev pub leads_from : List (List Target) → List (List (Option ℕ)) → ℕ → ℕ → List Item → List (Option ℕ)
leads_from targets numbers home at [] = []
leads_from targets numbers home at (x ∷ xs) = lead numbers (entry_at targets (record { «module» = home; item = at })) ∷ leads_from targets numbers home (suc at) xs

-- ---- calls

abbrev pub looked_up : List (Option ℕ) → ℕ → Option ℕ
looked_up leads place = option_and_then (λ number. number) (slice_get leads place)

abbrev pub inst_end : List (Option ℕ) → Inst → Option ℕ
inst_end leads inst = option_and_then (looked_up leads) (inst_callee inst)

abbrev pub block_ends : List (Option ℕ) → List Block → List ℕ
block_ends leads blocks = flat_map (λ block. filter_map (inst_end leads) block.insts) blocks

-- ---- one for each function

abbrev pub in_items : {B : Type 0} → (ℕ → Body → B) → ℕ → List Item → List B
in_items f at [] = []
in_items f at (x ∷ xs) = option_to_list (option_map (f at) (body_in x)) ++ in_items f (suc at) xs

abbrev pub in_modules : {B : Type 0} → (ℕ → Module → ℕ → Body → B) → ℕ → List Module → List B
in_modules f at [] = []
in_modules f at (m ∷ ms) = in_items (f at m) 0 m.items ++ in_modules f (suc at) ms

-- the numbers of the functions that each function calls
abbrev pub body_row : List (Option ℕ) → ℕ → Body → List ℕ
body_row leads at body = block_ends leads body.blocks

abbrev pub rows_of : List (List Target) → List (List (Option ℕ)) → ℕ → List Module → List (List ℕ)
rows_of targets numbers at modules = in_modules (λ home m. body_row (leads_from targets numbers home 0 m.items)) at modules

-- ---- the graph

-- where each row begins
abbrev pub starts_of : ℕ → List (List ℕ) → List ℕ
starts_of n [] = []
starts_of n (row ∷ rows) = n ∷ starts_of (n + length row) rows

abbrev pub ends_of : List (List ℕ) → List ℕ
ends_of rows = flat_map (λ row. row) rows

-- ---- the answer

abbrev pub flag_at : Option Mark → Bool
flag_at None = false
flag_at (Some Fresh) = false
flag_at (Some (Open place)) = false
flag_at (Some (Closed flag)) = flag

abbrev pub flag_of : List Mark → Option ℕ → Bool
flag_of marks None = false
flag_of marks (Some number) = flag_at (slice_get marks number)

abbrev pub flags_of : List Mark → List (List (Option ℕ)) → List (List Bool)
flags_of marks numbers = map (λ row. map (flag_of marks) row) numbers
