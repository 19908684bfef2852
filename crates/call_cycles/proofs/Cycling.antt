-- A function is on a call cycle where its number leads to itself.
use Rattle.std.proofs.Common.{◌≡◌, ◌∙◌, ◌↔◌, inl, inr, ℕ, zero, suc, ◌+◌, ◌-◌, ◌<◌, Bool, List, [], ◌∷◌, ◌++◌, Option, None, Some, IsTrue, Contains, length, map, drop, get_or, refl, sym, ap, subst, arith}
use Rattle.std.specs.Prelude.{slice_get, option_and_then, option_map, option_to_list}
use Rattle.std.proofs.lemmas.Option.{none-some, slice_get-map}
use Rattle.std.proofs.lemmas.Bool.{false≢true}
use Rattle.ir_types.proofs.ListSteps.{slice_get-append_rest, drop_at}
use Rattle.ir_syntax.specs.declared.symbol.Sym.{Sym}
use Rattle.ir_syntax.specs.declared.symbol.Target.{Target}
use Rattle.ir_syntax.specs.declared.symbol.Target.TheVariants as target
use Rattle.ir_syntax.specs.declared.body.Body.{Body}
use Rattle.ir_syntax.specs.declared.item.Item.{Item}
use Rattle.ir_syntax.specs.declared.item.Item.TheVariants as item
use Rattle.ir_syntax.specs.declared.item.Module.{Module}
use Rattle.ir_syntax.specs.Symbols.{item_at}
use Rattle.ir_syntax.specs.Targets.{entry_at, AreEntries}
use Rattle.ir_syntax.specs.Programs.{ProgramData, IsProgram}
use Rattle.call_cycles.specs.declared.graph.Graph.{Graph}
use Rattle.call_cycles.specs.declared.mark.Mark.{Mark}
use Rattle.call_cycles.specs.Cycles.{body_callees, Calls, LeadsBy, IsOnCycle}
use Rattle.call_cycles.specs.Edges.{IsGraph, IsEdge, GoesBy, Reaches}
use Rattle.call_cycles.specs.Searching.{AreMarked}
use Rattle.call_cycles.specs.Mirrors.Numbering.{body_in, numbered, module_numbers, number_of, leads_from, block_ends, in_items, in_modules, body_row, rows_of, flag_at, flag_of, flags_of, starts_of, ends_of}
use Rattle.call_cycles.proofs.Lists.{some_is, less_or, within}
use Rattle.call_cycles.proofs.Reaching.{reach_edge, reach_more}
use Rattle.call_cycles.proofs.Numbering.{IsFunctionOf, function_at, one_function, number_there, modules_long}
use Rattle.call_cycles.proofs.Rows.{HasInRow, in_first, IsMadeOf, bounds_are, node_row, edge_row, row_edge, graph_is, rows_next}
use Rattle.call_cycles.proofs.Calling.{blocks_named, named_blocks, looked_up_is, is_looked_up, entry_within, function_in, defined_in, defined_number, row_here}

abbrev pub numbers_in : ProgramData → List (List (Option ℕ))
numbers_in p = module_numbers 0 p.modules

abbrev pub rows_in : ProgramData → List (List ℕ)
rows_in p = rows_of p.targets (numbers_in p) 0 p.modules

pub record IsCallGraph (p : ProgramData) (g : Graph) : Type 0 where
  pub program : IsProgram p
  pub made : IsMadeOf g (rows_in p)

-- the function with a number
abbrev pub Numbers : ProgramData → Sym → ℕ → Type 0
Numbers p symbol k = number_of (numbers_in p) symbol ≡ Some k

placed : (p : ProgramData) (symbol : Sym) (k : ℕ) → Numbers p symbol k → IsFunctionOf (List ℕ) (row_here p.targets (numbers_in p)) symbol.module p.modules symbol (rows_in p) k
placed p symbol k h = function_at (row_here p.targets (numbers_in p)) p.modules symbol k h

item_is : {B : Type 0} (f : ℕ → Module → ℕ → Body → B) (at : ℕ) (ms : List Module) (symbol : Sym) (ys : List B) (k : ℕ) (h : IsFunctionOf B f at ms symbol ys k) → item_at ms symbol ≡ Some h.found
item_is f at ms symbol ys k h = ap (option_and_then (λ m. slice_get m.items symbol.item)) h.placed ∙ h.stands

pub numbers_within : (p : ProgramData) (symbol : Sym) (k : ℕ) → Numbers p symbol k → k < length (rows_in p)
numbers_within p symbol k h = let at = placed p symbol k h in within (rows_in p) k _ at.is

call_edge : (p : ProgramData) (g : Graph) (from to : Sym) (k l : ℕ) → IsCallGraph p g → Calls p from to → Numbers p from k → Numbers p to l → IsEdge g k l
call_edge p g from to k l h c number other =
    let at = placed p from k number in
    let found : at.found ≡ item.Func c.func = some_is (sym (item_is (row_here p.targets (numbers_in p)) from.module p.modules from (rows_in p) k at) ∙ c.stands) in
    let body : at.body ≡ c.body = some_is (sym at.has_body ∙ ap body_in found ∙ c.has_body) in
    let leads : List (Option ℕ) = leads_from p.targets (numbers_in p) from.module 0 at.owner.items in
    let less : c.place < length at.owner.items = entry_within p.modules p.targets from.module c.place at.owner (target.Def to) h.program.linked.targets.lengths at.placed c.stands_for in
    row_edge g (rows_in p) k l h.made (record {
      row = block_ends leads at.body.blocks;
      stands = at.is;
      has = named_blocks leads at.body.blocks l (record {
        place = c.place;
        has = subst (λ (b : Body). Contains (body_callees b) c.place) (sym body) c.named;
        leads_to = is_looked_up p.targets (numbers_in p) from.module at.owner.items c.place l to less c.stands_for other;
      });
    })

pub record IsCalled (p : ProgramData) (from : Sym) (l : ℕ) : Type 0 where
  pub to : Sym
  pub calls : Calls p from to
  pub number : Numbers p to l

edge_call : (p : ProgramData) (g : Graph) (from : Sym) (k l : ℕ) → IsCallGraph p g → Numbers p from k → IsEdge g k l → IsCalled p from l
edge_call p g from k l h number e =
    let at = placed p from k number in
    let leads : List (Option ℕ) = leads_from p.targets (numbers_in p) from.module 0 at.owner.items in
    let has = edge_row g (rows_in p) k l h.made (numbers_within p from k number) e in
    let row : has.row ≡ block_ends leads at.body.blocks = some_is (sym has.stands ∙ at.is) in
    let named = blocks_named leads at.body.blocks l (subst (λ (r : List ℕ). Contains r l) row has.has) in
    let lead = looked_up_is p.targets (numbers_in p) from.module at.owner.items named.place l named.leads_to in
    let func = function_in at.found at.body at.has_body in
    let there = placed p lead.to l lead.number in
    record {
      to = lead.to;
      calls = record {
        func = func.0;
        stands = item_is (row_here p.targets (numbers_in p)) from.module p.modules from (rows_in p) k at ∙ ap (λ x. Some x) func.1;
        body = at.body;
        has_body = func.2;
        place = named.place;
        named = named.has;
        stands_for = lead.stands_for;
        defined = defined_in (item_at p.modules lead.to) there.found there.body (item_is (row_here p.targets (numbers_in p)) lead.to.module p.modules lead.to (rows_in p) l there) there.has_body;
      };
      number = lead.number;
    }

pub record IsReached (p : ProgramData) (g : Graph) (to : Sym) (k : ℕ) : Type 0 where
  pub number : ℕ
  pub is : Numbers p to number
  pub reaches : Reaches g k number

leads_reach : (p : ProgramData) (g : Graph) (from to : Sym) (through : List Sym) (k : ℕ) → IsCallGraph p g → LeadsBy p from through to → Numbers p from k → IsReached p g to k
leads_reach p g from to [] k h c number =
    let l = defined_number p.modules to c.defined in
    record { number = l.0; is = l.1; reaches = reach_edge g k l.0 (call_edge p g from to k l.0 h c number l.1) }
leads_reach p g from to (next ∷ more) k h c number =
    let first : Calls p from next = c.0 in
    let l = defined_number p.modules next first.defined in
    let rest = leads_reach p g next to more l.0 h c.1 l.1 in
    record { number = rest.number; is = rest.is; reaches = reach_more g k l.0 rest.number (reach_edge g k l.0 (call_edge p g from next k l.0 h first number l.1)) rest.reaches }

pub record IsLed (p : ProgramData) (from : Sym) (l : ℕ) : Type 0 where
  pub to : Sym
  pub number : Numbers p to l
  pub by_way_of : List Sym
  pub leads : LeadsBy p from by_way_of to

reach_leads : (p : ProgramData) (g : Graph) (from : Sym) (us : List ℕ) (k l : ℕ) → IsCallGraph p g → GoesBy g k us l → Numbers p from k → IsLed p from l
reach_leads p g from [] k l h e number = let c = edge_call p g from k l h number e in record { to = c.to; number = c.number; by_way_of = []; leads = c.calls }
reach_leads p g from (u ∷ us) k l h e number =
    let c = edge_call p g from k u h number e.0 in
    let rest = reach_leads p g c.to us u l h e.1 c.number in
    record { to = rest.to; number = rest.number; by_way_of = c.to ∷ rest.by_way_of; leads = (c.calls, rest.leads) }

cycle_is : (p : ProgramData) (g : Graph) (symbol : Sym) (k : ℕ) → IsCallGraph p g → Numbers p symbol k → Reaches g k k ↔ IsOnCycle p symbol
cycle_is p g symbol k h number = (
  λ r.
      let led = reach_leads p g symbol r.by_way_of k k h r.goes number in
      let same : led.to ≡ symbol = one_function p.modules led.to symbol k led.number number in
      record { by_way_of = led.by_way_of; leads = subst (λ (s : Sym). LeadsBy p symbol led.by_way_of s) same led.leads },
  λ c.
      let reached = leads_reach p g symbol symbol c.by_way_of k h c.leads number in
      let same : reached.number ≡ k = some_is (sym reached.is ∙ number) in
      subst (λ l. Reaches g k l) same reached.reaches,
)

-- ---- the answer

mapped_at : {A B : Type 0} (f : A → B) (rows : List (List A)) (home item : ℕ) → option_and_then (λ row. slice_get row item) (slice_get (map (λ row. map f row) rows) home)
    ≡ option_map f (option_and_then (λ row. slice_get row item) (slice_get rows home))
mapped_at f [] home item = refl
mapped_at f (row ∷ rows) zero item = slice_get-map f row item
mapped_at f (row ∷ rows) (suc home) item = mapped_at f rows home item

map_long : {A B : Type 0} (f : A → B) (xs : List A) → length (map f xs) ≡ length xs
map_long f [] = refl
map_long f (x ∷ xs) = ap suc (map_long f xs)

mapped_long : {A B : Type 0} (f : A → B) (rows : List (List A)) → map length (map (λ row. map f row) rows) ≡ map length rows
mapped_long f [] = refl
mapped_long f (row ∷ rows) = ap (λ l. l ∷ map length (map (λ r. map f r) rows)) (map_long f row) ∙ ap (λ l. length row ∷ l) (mapped_long f rows)

first_body : (p : ProgramData) (symbol : Sym) (through : List Sym) (to : Sym) → LeadsBy p symbol through to → (next : Sym) × Calls p symbol next
first_body p symbol [] to c = (to, c)
first_body p symbol (next ∷ more) to c = (next, c.0)

flag_is : (p : ProgramData) (g : Graph) (marks : List Mark) (symbol : Sym) (found : Item) (k : ℕ) → IsCallGraph p g → AreMarked g marks → item_at p.modules symbol ≡ Some found
    → entry_at (numbers_in p) symbol ≡ Some (numbered k (body_in found)) → IsTrue (flag_of marks (numbered k (body_in found))) ↔ IsOnCycle p symbol
flag_is p g marks symbol found k h marked is at = by (body_in found) refl at
  where
    none : body_in found ≡ None → IsOnCycle p symbol → ⊥
    none e c =
        let first = first_body p symbol c.by_way_of symbol c.leads in
        let same : found ≡ item.Func first.1.func = some_is (sym is ∙ first.1.stands) in
        none-some first.1.body (sym e ∙ ap body_in same ∙ first.1.has_body)

    by : (o : Option Body) → body_in found ≡ o → entry_at (numbers_in p) symbol ≡ Some (numbered k o) → IsTrue (flag_of marks (numbered k o)) ↔ IsOnCycle p symbol
    by None e entry = (λ t. absurd (false≢true t), λ c. absurd (none e c))
    by (Some body) e entry =
        let number : Numbers p symbol k = ap (option_and_then (λ n. n)) entry in
        let mark = marked.each k (node_row g (rows_in p) k h.made (numbers_within p symbol k number)) in
        let cycle = cycle_is p g symbol k h number in
        subst (λ o. IsTrue (flag_at o) ↔ IsOnCycle p symbol) (sym mark.is) (λ t. cycle.0 (mark.right.0 t), λ c. mark.right.1 (cycle.1 c))

pub flags_are : (p : ProgramData) (g : Graph) (marks : List Mark) → IsCallGraph p g → AreMarked g marks
    → AreEntries Bool p.modules (λ symbol found flag. IsTrue flag ↔ IsOnCycle p symbol) (flags_of marks (numbers_in p))
flags_are p g marks h marked = record {
  lengths = mapped_long (flag_of marks) (numbers_in p) ∙ modules_long 0 p.modules;
  each = λ symbol found is.
      let number = number_there p.modules symbol found is in
      record {
        entry = flag_of marks (numbered number.0 (body_in found));
        stands = mapped_at (flag_of marks) (numbers_in p) symbol.module symbol.item ∙ ap (option_map (flag_of marks)) number.1;
        is = flag_is p g marks symbol found number.0 h marked is number.1;
      };
}

pub made_of : (g : Graph) (rows : List (List ℕ)) → g.ends ≡ ends_of rows → g.starts ≡ starts_of 0 rows ++ length g.ends ∷ [] → IsMadeOf g rows
made_of g rows ends starts = record {
  starts = starts ∙ ap (λ k. starts_of 0 rows ++ k ∷ []) (ap length ends ∙ zero_more (length (ends_of rows))) ∙ bounds_are 0 rows;
  ends = ends;
}
  where
    zero_more : (n : ℕ) → n ≡ 0 + n
    zero_more n = omega arith

-- ---- what is in a row is a number of a function

in_items_all : {B : Type 0} (P : B → Type 0) (f : ℕ → Body → B) (at : ℕ) (xs : List Item) (k : ℕ) (y : B) → ((i : ℕ) (body : Body) → P (f i body)) → slice_get (in_items f at xs) k ≡ Some y → P y
in_items_all P f at [] k y all h = absurd (none-some y h)
in_items_all {B} P f at (x ∷ xs) k y all h = by (body_in x) k h (λ i is. in_items_all P f (suc at) xs i y all is)
  where
    by : (o : Option Body) (i : ℕ) → slice_get (option_to_list (option_map (f at) o) ++ in_items f (suc at) xs) i ≡ Some y → ((j : ℕ) → slice_get (in_items f (suc at) xs) j ≡ Some y → P y) → P y
    by None i is rest = rest i is
    by (Some body) zero is rest = subst P (some_is is) (all at body)
    by (Some body) (suc i) is rest = rest i is

in_modules_all : {B : Type 0} (P : B → Type 0) (f : ℕ → Module → ℕ → Body → B) (at : ℕ) (ms : List Module) (k : ℕ) (y : B) → ((i : ℕ) (m : Module) (j : ℕ) (body : Body) → P (f i m j body)) → slice_get (in_modules f at ms) k ≡ Some y → P y
in_modules_all P f at [] k y all h = absurd (none-some y h)
in_modules_all P f at (m ∷ ms) k y all h = elim (less_or k (length (in_items (f at m) 0 m.items))) [
  | inl less ↦ in_items_all P (f at m) 0 m.items k y (λ j body. all at m j body) (in_first (in_items (f at m) 0 m.items) (in_modules f (suc at) ms) k y less h)
  | inr past ↦ in_modules_all P f (suc at) ms (k - length (in_items (f at m) 0 m.items)) y all
      (sym (slice_get-append_rest (in_items (f at m) 0 m.items) (in_modules f (suc at) ms) (k - length (in_items (f at m) 0 m.items)) k (omega (arith, past))) ∙ h)
]

-- each number that it holds is that of some function
pub record HasNumbers (p : ProgramData) (row : List ℕ) : Type 0 where
  pub each : (v : ℕ) → Contains row v → (symbol : Sym) × Numbers p symbol v

row_numbers : (p : ProgramData) (home : ℕ) (m : Module) (at : ℕ) (body : Body) → HasNumbers p (row_here p.targets (numbers_in p) home m at body)
row_numbers p home m at body = record {
  each = λ v c.
      let named = blocks_named (leads_from p.targets (numbers_in p) home 0 m.items) body.blocks v c in
      let lead = looked_up_is p.targets (numbers_in p) home m.items named.place v named.leads_to in
      (lead.to, lead.number);
}

in_rows : (p : ProgramData) (u v : ℕ) → HasInRow (rows_in p) u v → v < length (rows_in p)
in_rows p u v has =
    let all : HasNumbers p has.row = in_modules_all (HasNumbers p) (row_here p.targets (numbers_in p)) 0 p.modules u has.row (λ i m j body. row_numbers p i m j body) has.stands in
    let one = all.each v has.has in
    numbers_within p one.0 v one.1

pub call_graph : (p : ProgramData) (g : Graph) → IsCallGraph p g → IsGraph g
call_graph p g h = graph_is g (rows_in p) h.made (λ u v has. in_rows p u v has)

-- ---- as the code makes them

pub call_graph_is : (p : ProgramData) (g : Graph) (modules : List Module) (numbers : List (List (Option ℕ))) → IsProgram p → modules ≡ p.modules → numbers ≡ module_numbers 0 modules
    → g.ends ≡ ends_of (rows_of p.targets numbers 0 p.modules) → g.starts ≡ starts_of 0 (rows_of p.targets numbers 0 p.modules) ++ length g.ends ∷ [] → IsCallGraph p g
call_graph_is p g modules numbers program same is ends starts =
    let all : numbers ≡ numbers_in p = is ∙ ap (module_numbers 0) same in
    record {
      program = program;
      made = made_of g (rows_in p) (ends ∙ ap (λ n. ends_of (rows_of p.targets n 0 p.modules)) all) (starts ∙ ap (λ n. starts_of 0 (rows_of p.targets n 0 p.modules) ++ length g.ends ∷ []) all);
    }

pub answer_is : (p : ProgramData) (g : Graph) (modules : List Module) (numbers : List (List (Option ℕ))) (marks : List Mark) (flags : List (List Bool)) → IsProgram p → modules ≡ p.modules → numbers ≡ module_numbers 0 modules
    → g.ends ≡ ends_of (rows_of p.targets numbers 0 p.modules) → g.starts ≡ starts_of 0 (rows_of p.targets numbers 0 p.modules) ++ length g.ends ∷ [] → AreMarked g marks → flags ≡ flags_of marks numbers
    → AreEntries Bool p.modules (λ symbol found flag. IsTrue flag ↔ IsOnCycle p symbol) flags
answer_is p g modules numbers marks flags program same is ends starts marked made =
    subst (λ (l : List (List Bool)). AreEntries Bool p.modules (λ symbol found flag. IsTrue flag ↔ IsOnCycle p symbol) l) (sym (made ∙ ap (flags_of marks) (is ∙ ap (module_numbers 0) same)))
    (flags_are p g marks (call_graph_is p g modules numbers program same is ends starts) marked)

pub graph_next : (targets : List (List Target)) (numbers : List (List (Option ℕ))) (modules slice : List Module) (i : ℕ) (m : Module) (items : List Item) (leads used : List (Option ℕ)) (starts next ends longer : List ℕ) (whole : List (List ℕ))
    → slice ≡ modules → i < length slice → m ≡ get_or slice i m → items ≡ m.items → leads ≡ leads_from targets numbers i 0 items → used ≡ leads
    → longer ≡ ends ++ ends_of (in_items (body_row used) 0 items) → next ≡ starts ++ starts_of (length ends) (in_items (body_row used) 0 items)
    → starts ++ starts_of (length ends) (rows_of targets numbers i (drop i modules)) ≡ starts_of 0 whole → ends ++ ends_of (rows_of targets numbers i (drop i modules)) ≡ ends_of whole
    → (next ++ starts_of (length longer) (rows_of targets numbers (i + 1) (drop (i + 1) modules)) ≡ starts_of 0 whole) × (longer ++ ends_of (rows_of targets numbers (i + 1) (drop (i + 1) modules)) ≡ ends_of whole)
graph_next targets numbers modules slice i m items leads used starts next ends longer whole same less is of_m led shown e s h k =
    let rest : List Module = drop (i + 1) modules in
    let begins : drop i modules ≡ m ∷ rest = sym (ap (drop i) same) ∙ drop_at slice i m less is ∙ ap (λ l. m ∷ drop (i + 1) l) same in
    let leads_are : used ≡ leads_from targets numbers i 0 m.items = shown ∙ led ∙ ap (leads_from targets numbers i 0) of_m in
    let rows : in_items (body_row used) 0 items ≡ in_items (body_row (leads_from targets numbers i 0 m.items)) 0 m.items = ap (λ l. in_items (body_row l) 0 items) leads_are ∙ ap (in_items (body_row (leads_from targets numbers i 0 m.items)) 0) of_m in
    let whole_is : rows_of targets numbers i (drop i modules) ≡ in_items (body_row used) 0 items ++ rows_of targets numbers (i + 1) rest =
    ap (rows_of targets numbers i) begins ∙ ap (λ l. l ++ rows_of targets numbers (suc i) rest) (sym rows) ∙ ap (λ j. in_items (body_row used) 0 items ++ rows_of targets numbers j rest) (omega arith) in
    rows_next (in_items (body_row used) 0 items) (rows_of targets numbers (i + 1) rest) whole starts next ends longer e s
    (sym (ap (λ l. starts ++ starts_of (length ends) l) whole_is) ∙ h) (sym (ap (λ l. ends ++ ends_of l) whole_is) ∙ k)
