-- The state that a program starts with: its memory is there, and what its blocks name is there.
use Rattle.std.proofs.Common.{◌≡◌, ◌∙◌, ℕ, zero, suc, ◌+◌, ◌<◌, List, [], ◌∷◌, length, is_some, Option, None, Some, IsSome, IfSome, option_map, option_and_then, slice_get, refl, sym, ap, subst, arith, All, Contains}
use Rattle.std.specs.List.{AllZip}
use Rattle.std.proofs.lemmas.Bool.{false≢true}
use Rattle.std.proofs.lemmas.List.Elements.{All-nil, All-cons, All-head, All-tail, All-weaker, All-contains, All-contains_itself}
use Rattle.ir_types.proofs.ListSteps.{All-at}
use Rattle.ir_syntax.specs.declared.symbol.Sym.{Sym}
use Rattle.ir_syntax.specs.declared.constant.Const.{Const}
use Rattle.ir_syntax.specs.declared.item.Var.{Var}
use Rattle.ir_syntax.specs.declared.item.Item.{Item}
use Rattle.ir_syntax.specs.declared.item.Item.TheVariants as item
use Rattle.ir_syntax.specs.declared.item.Module.{Module}
use Rattle.ir_syntax.specs.FormedItem.{FormedItem}
use Rattle.ir_syntax.specs.InitialBytes.{InitialPart, Poison, Num, Of, initial_parts}
use Rattle.ir_syntax.specs.Named.{names, init_names}
use Rattle.ir_syntax.specs.Programs.{ProgramData, IsProgram, IsSoundModule}
use Rattle.ir_syntax.specs.Suits.{Suits}
use Rattle.ir_syntax.specs.Symbols.{item_at}
use Rattle.ir_syntax.specs.Targets.{entry_at}
use Rattle.block_memory.specs.declared.value.Name.{Name}
use Rattle.block_memory.specs.declared.value.Name.TheVariants as name
use Rattle.block_memory.specs.declared.value.Part.{Part}
use Rattle.block_memory.specs.declared.value.Part.TheVariants as part
use Rattle.block_memory.specs.Blocks.{LiveBlock, Live, MemoryData, block_at}
use Rattle.block_memory.specs.Starts.{name_of, named_part, named_parts, variable_block, variable_start, item_start, items_start, modules_start}
use Rattle.block_memory.specs.Starts as memory
use Rattle.ir_steps.specs.Steps.{start}
use Rattle.ir_steps.proofs.Fits.{Has, IsDefinedVar, IsThere, IsPart, MemoryFits, StateFits}
use Rattle.ir_steps.proofs.Safely.{Safe, safe_read, has_then, has_map}
use Rattle.ir_steps.proofs.Naming.{IsNamedAt, there_is, item_in, found_is_there}
use Rattle.ir_steps.proofs.NamingConstants.{names_within}
use Rattle.ir_steps.proofs.StartingConstants.{HasName, IsInitial, initial_fits}

-- ---- two lists side by side

zip_beside : {A B : Type 0} (R : A → B → Type 0) (xs : List A) (ys : List B) (k : ℕ) (x : A) → AllZip R xs ys → slice_get xs k ≡ Some x → (y : B) × (slice_get ys k ≡ Some y) × R x y
zip_beside R [] [] k x h is = absurd (cc)
zip_beside R [] (b ∷ bs) k x h is = absurd h
zip_beside R (a ∷ more) [] k x h is = absurd h
zip_beside R (a ∷ more) (b ∷ bs) zero x h is = (b, refl, let same : a ≡ x = cc in subst (λ z. R z b) same h.0)
zip_beside R (a ∷ more) (b ∷ bs) (suc k) x h is = zip_beside R more bs k x h.1 is

zip_behind : {A B : Type 0} (R : A → B → Type 0) (xs : List A) (ys : List B) (k : ℕ) (y : B) → AllZip R xs ys → slice_get ys k ≡ Some y → (x : A) × (slice_get xs k ≡ Some x) × R x y
zip_behind R [] [] k y h is = absurd (cc)
zip_behind R [] (b ∷ bs) k y h is = absurd h
zip_behind R (a ∷ more) [] k y h is = absurd h
zip_behind R (a ∷ more) (b ∷ bs) zero y h is = (a, refl, let same : b ≡ y = cc in subst (λ z. R a z) same h.0)
zip_behind R (a ∷ more) (b ∷ bs) (suc k) y h is = zip_behind R more bs k y h.1 is

-- what stands at a symbol's place stands in a row
entry_is : {A : Type 0} (rows : List (List A)) (symbol : Sym) (x : A) → entry_at rows symbol ≡ Some x → (row : List A) × (slice_get rows symbol.module ≡ Some row) × (slice_get row symbol.item ≡ Some x)
entry_is {A} rows symbol x is = of (slice_get rows symbol.module) refl is
  where
    of : (o : Option (List A)) → slice_get rows symbol.module ≡ o → option_and_then (λ row. slice_get row symbol.item) o ≡ Some x → (row : List A) × (slice_get rows symbol.module ≡ Some row) × (slice_get row symbol.item ≡ Some x)
    of None e i = absurd (cc)
    of (Some row) e i = (row, e, i)

-- ---- bytes

module _ (p : ProgramData) where
  abbrev IsLaid : Part Sym → Type 0
  IsLaid = IsPart p 0

  abbrev pub AreLaid : Option LiveBlock → Type 0
  AreLaid None = Unit {0}
  AreLaid (Some block) = All IsLaid block.parts

  -- the block of an item, where it is a defined variable
  pub record StartsAs (found : Item) (o : Option LiveBlock) : Type 0 where
    pub there : IsDefinedVar (Some found) → IsSome o
    pub laid : AreLaid o

  part_has : (home : ℕ) (x : InitialPart) → IsInitial p home 0 x → Has IsLaid (named_part p home x)
  part_has home Poison h = tt
  part_has home (Num byte) h = tt
  part_has home (Of place offset k) h = has_map (IsThere p 0) IsLaid (λ of. part.Of of offset k) (name_of p (record { «module» = home; item = place })) h (λ of there. there)

  parts_has : (home : ℕ) (xs : List InitialPart) → All (IsInitial p home 0) xs → Has (All IsLaid) (named_parts p home xs)
  parts_has home [] h = All-nil IsLaid
  parts_has home (x ∷ xs) h =
      has_then IsLaid (All IsLaid) _ (named_part p home x) (part_has home x (All-head (IsInitial p home 0) x xs h)) (λ one fits.
      has_map (All IsLaid) (All IsLaid) _ (named_parts p home xs) (parts_has home xs (All-tail (IsInitial p home 0) x xs h)) (λ more fit. All-cons IsLaid one more fits fit))

  -- ---- blocks of items and of modules

  items_have : (home : ℕ) (items : List Item) → ((k : ℕ) (found : Item) → slice_get items k ≡ Some found → Has (StartsAs found) (item_start p home found)) → Has (AllZip StartsAs items) (items_start p home items)
  items_have home [] h = tt
  items_have home (x ∷ items) h =
      has_then (StartsAs x) (AllZip StartsAs (x ∷ items)) _ (item_start p home x) (h 0 x refl) (λ one fits.
      has_map (AllZip StartsAs items) (AllZip StartsAs (x ∷ items)) _ (items_start p home items) (items_have home items (λ k. h (suc k))) (λ more fit. (fits, fit)))

  abbrev pub RowsFit : List Module → List (List (Option LiveBlock)) → Type 0
  RowsFit modules rows = AllZip (λ m row. AllZip StartsAs m.items row) modules rows

  modules_have : (home : ℕ) (modules : List Module) → ((k : ℕ) (m : Module) → slice_get modules k ≡ Some m → Has (AllZip StartsAs m.items) (items_start p (home + k) m.items)) → Has (RowsFit modules) (modules_start p home modules)
  modules_have home [] h = tt
  modules_have home (m ∷ modules) h =
      has_then (AllZip StartsAs m.items) (RowsFit (m ∷ modules)) _ (items_start p home m.items)
      (subst (λ n. Has (AllZip StartsAs m.items) (items_start p n m.items)) (let at : home + 0 ≡ home = omega arith in at) (h 0 m refl)) (λ one fits.
      has_map (RowsFit modules) (RowsFit (m ∷ modules)) _ (modules_start p (home + 1) modules)
      (modules_have (home + 1) modules (λ k next is. subst (λ n. Has (AllZip StartsAs next.items) (items_start p n next.items)) (let at : home + suc k ≡ (home + 1) + k = omega arith in at) (h (suc k) next is)))
      (λ more fit. (fits, fit)))

  -- ---- variables

  -- an initialiser's names are named where it stands
  init_named : (symbol : Sym) (var : Var) → item_at p.modules symbol ≡ Some (item.Var var) → (init : Const) → var.init ≡ Some init → (place : ℕ) → Contains (names init) place → IsNamedAt p symbol.module place
  init_named symbol var stands init e place h = record { by = symbol; at_home = refl; user = item.Var var; stands = stands; names = subst (λ o. Contains (init_names o) place) (sym e) h }

  init_has : IsProgram p → (symbol : Sym) (var : Var) → item_at p.modules symbol ≡ Some (item.Var var) → (init : Const) → var.init ≡ Some init → All (HasName p symbol.module 0) (names init)
  init_has is symbol var stands init e =
      let there = there_is p.modules symbol (item.Var var) stands in
      let formed = All-at (FormedItem there.0.items) there.0.items symbol.item (item.Var var) (All-at IsSoundModule p.modules symbol.module there.0 is.sound.sound there.1).formed.has_items there.2 in
      let fit : Suits (length there.0.items) var.ty init = subst (λ o. IfSome o (λ c. Suits (length there.0.items) var.ty c)) e formed.suits in
      All-weaker (Contains (names init)) (HasName p symbol.module 0)
      (λ place h.
      let within = All-contains (λ n. n < length there.0.items) (names init) place (names_within (length there.0.items) init var.ty fit) h in
      let found = item_in p.modules symbol.module place there.0 there.1 within in
      found_is_there p is symbol.module place (init_named symbol var stands init e place h) found.0 found.1 0)
      (names init) (All-contains_itself (names init))

  item_has : IsProgram p → (symbol : Sym) (found : Item) → item_at p.modules symbol ≡ Some found → Has (StartsAs found) (item_start p symbol.module found)
  item_has is symbol (item.Func func) stands = record { there = λ d. absurd d; laid = tt }
  item_has is symbol (item.Var var) stands = of var.init refl
    where
      of : (o : Option Const) → var.init ≡ o → Has (StartsAs (item.Var var)) (variable_start p symbol.module var (option_map (λ init. initial_parts init var.ty) o))
      of None e = record { there = λ d. absurd (false≢true (sym (ap is_some e) ∙ d)); laid = tt }
      of (Some init) e =
          has_map (All IsLaid) (StartsAs (item.Var var)) (λ named. Some (variable_block var named)) (named_parts p symbol.module (initial_parts init var.ty))
          (parts_has symbol.module (initial_parts init var.ty)
          (initial_fits p symbol.module 0 init (init_has is symbol var stands init e) var.ty))
          (λ named laid. record { there = λ d. refl; laid = laid })

  -- the blocks of all variables
  all_have : IsProgram p → Has (RowsFit p.modules) (modules_start p 0 p.modules)
  all_have is =
      modules_have 0 p.modules (λ k m at. items_have (0 + k) m.items (λ j found stands.
      let symbol : Sym = record { «module» = k; item = j } in
      subst (λ n. Has (StartsAs found) (item_start p n found)) (let same : k ≡ 0 + k = omega arith in same)
      (item_has is symbol found (ap (option_and_then (λ one. slice_get one.items j)) at ∙ stands))))

-- ---- the state

-- What is there for a variable of the memory that a program starts with.
row_of : (p : ProgramData) (rows : List (List (Option LiveBlock))) → RowsFit p p.modules rows → (symbol : Sym) (o : Option LiveBlock) → entry_at rows symbol ≡ Some o → AreLaid p o
row_of p rows fit symbol o is =
    let at = entry_is rows symbol o is in
    let m = zip_behind (λ (one : Module) row. AllZip (StartsAs p) one.items row) p.modules rows symbol.module at.0 fit at.1 in
    (zip_behind (StartsAs p) m.0.items at.0 symbol.item o m.2 at.2).2.laid

-- Each variable that is defined has its block.
var_there : (p : ProgramData) (rows : List (List (Option LiveBlock))) → RowsFit p p.modules rows → (symbol : Sym) → IsDefinedVar (item_at p.modules symbol) → IsSome (option_and_then (λ found. found) (entry_at rows symbol))
var_there p rows fit symbol h = of (item_at p.modules symbol) refl h
  where
    of : (o : Option Item) → item_at p.modules symbol ≡ o → IsDefinedVar o → IsSome (option_and_then (λ found. found) (entry_at rows symbol))
    of None e d = absurd d
    of (Some found) e d =
        let m = there_is p.modules symbol found e in
        let row = zip_beside (λ (one : Module) row. AllZip (StartsAs p) one.items row) p.modules rows symbol.module m.0 fit m.1 in
        let own = zip_beside (StartsAs p) m.0.items row.0 symbol.item found row.2 m.2 in
        subst (λ o. IsSome (option_and_then (λ b. b) o)) (sym (ap (option_and_then (λ r. slice_get r symbol.item)) row.1 ∙ own.1)) (own.2.there d)

memory_fits : (p : ProgramData) (rows : List (List (Option LiveBlock))) → RowsFit p p.modules rows → MemoryFits p (record { vars = rows; made = [] })
memory_fits p rows fit = record { vars = var_there p rows fit; parts = parts }
  where
    mem : MemoryData
    mem = record { vars = rows; made = [] }

    at : (symbol : Sym) (o : Option (Option LiveBlock)) → entry_at rows symbol ≡ o → (block : LiveBlock) → option_map Live (option_and_then (λ found. found) o) ≡ Some (Live block) → All (IsPart p 0) block.parts
    at symbol None e block is = absurd (cc)
    at symbol (Some None) e block is = absurd (cc)
    at symbol (Some (Some found)) e block is =
        let same : found ≡ block = cc in
        subst (λ (b : LiveBlock). All (IsPart p 0) b.parts) same (row_of p rows fit symbol (Some found) e)

    parts : (of : Name Sym) (block : LiveBlock) → block_at mem of ≡ Some (Live block) → All (IsPart p 0) block.parts
    parts (name.Var symbol) block is = at symbol (entry_at rows symbol) refl block is
    parts (name.Func symbol) block is = absurd (cc)
    parts (name.Made number) block is = absurd (cc)

-- What a program starts with fits.
pub start_fits : (p : ProgramData) → IsProgram p → Safe (StateFits p) (start p)
start_fits p is =
    safe_read (MemoryFits p) (StateFits p) _ (memory.start p)
    (has_map (RowsFit p p.modules) (MemoryFits p) _ (modules_start p 0 p.modules) (all_have p is) (λ rows fit. memory_fits p rows fit))
    (λ mem fits. record { memory = fits; frames = tt })
