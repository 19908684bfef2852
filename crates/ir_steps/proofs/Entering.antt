-- A frame that enters a block fits there: its phis are read and set. A call begins with a frame that fits.
use Rattle.std.proofs.Common.{◌≡◌, ◌∙◌, ◌⊎◌, inl, inr, ℕ, suc, ◌+◌, ◌<◌, ◌≤◌, ◌==◌, nat_le, Bool, true, false, cond, List, [], ◌∷◌, ◌++◌, length, map, set, All, slice_get, Option, Some, None, refl, sym, ap, subst, arith}
use Rattle.std.specs.Prelude.{flat_map, count_by, if◌then◌else◌}
use Rattle.std.specs.List.{filter_map}
use Rattle.std.proofs.lemmas.Bool.Decides.{nat_tests}
use Rattle.std.proofs.lemmas.List.{length-append, length-map, length-replicate, length-set}
use Rattle.std.proofs.lemmas.List.Elements.{All-head, All-tail}
use Rattle.ir_types.specs.declared.scalar.Scalar.{Scalar}
use Rattle.ir_types.proofs.ListSteps.{slice_get-append_first}
use Rattle.ir_syntax.specs.declared.symbol.Sym.{Sym}
use Rattle.ir_syntax.specs.declared.constant.Operand.{Operand}
use Rattle.ir_syntax.specs.declared.body.Phi.{Phi}
use Rattle.ir_syntax.specs.declared.body.Block.{Block}
use Rattle.ir_syntax.specs.declared.body.Body.{Body}
use Rattle.ir_syntax.specs.declared.item.Func.{Func}
use Rattle.ir_syntax.specs.declared.item.Item.TheVariants as item
use Rattle.ir_syntax.specs.Definite.{first_result, operand_uses, phi_uses, insts_uses, IsSurelyDefined}
use Rattle.ir_syntax.specs.Edges.{successors_of, Leads, edges}
use Rattle.ir_syntax.specs.FormedBody.{Places, places_of, IsOperand, FormedPhi}
use Rattle.ir_syntax.specs.Named.{operand_names, phi_names, inst_names, term_names}
use Rattle.ir_syntax.specs.Programs.{ProgramData, IsProgram}
use Rattle.ir_syntax.specs.Results.{result_type, block_results, results}
use Rattle.ir_syntax.specs.Symbols.{item_at}
use Rattle.ir_syntax.specs.Typed.{Types, HasType, TypedPhi}
use Rattle.block_memory.specs.declared.value.Val.{Val}
use Rattle.block_memory.specs.Answers.{Gives, Stuck, and_then}
use Rattle.ir_steps.specs.States.{Frame, slot}
use Rattle.ir_steps.specs.Operands.{value_in, value}
use Rattle.ir_steps.specs.Branches.{entry_for, phi_value, phi_values, set_from, entered, enters, enters_block}
use Rattle.ir_steps.specs.Calls.{begins_at, begins}
use Rattle.ir_steps.proofs.Fits.{Has, IsValue, IsPassed, IsHeld, FrameFits}
use Rattle.ir_steps.proofs.Naming.{IsNamedAt}
use Rattle.ir_steps.proofs.Values.{AreValues}
use Rattle.ir_steps.proofs.FramesSound.{types_of, Sound, sound_block}
use Rattle.ir_steps.proofs.Frames.{of_type, IsUsed, is_read, zip_unmap}
use Rattle.ir_steps.proofs.FramesKept.{held_set, slot_within, SameCall}
use Rattle.ir_steps.proofs.NumberingLists.{is_or_not, all_left, all_right, has_get, contains_none, contains_cases, contains_counted, counted_cons, same_is, same_number}
use Rattle.ir_steps.proofs.Numbering.{first_zero, result_at, results_within}
use Rattle.ir_steps.proofs.Safely.{Safe, safe_then, safe_when, safe_has, safe_read}

-- ---- phis are read

has_when : {A : Type 0} (P : A → Type 0) (b : Bool) (x : A) (o : Option A) → (b ≡ true → P x) → (b ≡ false → Has P o) → Has P (if b then Some x else o)
has_when P true x o h k = h refl
has_when P false x o h k = k refl

-- what is known of the entries of a phi
record AreEntries (p : ProgramData) (home : ℕ) (types : Types) (places : Places) (blocks : List Block) (ty : Scalar) (entries : List (Operand × ℕ)) : Type 0 where
  typed : All (λ (entry : Operand × ℕ). HasType types ty entry.0) entries
  formed : All (λ (entry : Operand × ℕ). IsOperand places ty entry.0) entries
  definite : All (IsSurelyDefined blocks) (flat_map (λ (entry : Operand × ℕ). operand_uses entry.1 (first_result blocks (suc entry.1)) entry.0) entries)
  named : All (IsNamedAt p home) (flat_map operand_names (map (λ (entry : Operand × ℕ). entry.0) entries))

-- and of the operand for the block that the edge comes from
record IsEntry (p : ProgramData) (home : ℕ) (types : Types) (places : Places) (blocks : List Block) (ty : Scalar) (from : ℕ) (a : Operand) : Type 0 where
  typed : HasType types ty a
  formed : IsOperand places ty a
  is_used : IsUsed p home blocks from (first_result blocks (suc from)) a

entry_has : (p : ProgramData) (home : ℕ) (types : Types) (places : Places) (blocks : List Block) (ty : Scalar) (from : ℕ) (entries : List (Operand × ℕ)) → 0 < count_by (λ entry. entry.1 == from) entries
    → AreEntries p home types places blocks ty entries → Has (IsEntry p home types places blocks ty from) (entry_for from entries)
entry_has p home types places blocks ty from [] l h = absurd (omega arith)
entry_has p home types places blocks ty from (e ∷ es) l h =
    let P = IsSurelyDefined blocks in
    let N = IsNamedAt p home in
    let uses = λ (entry : Operand × ℕ). operand_uses entry.1 (first_result blocks (suc entry.1)) entry.0 in
    let behind = flat_map operand_names (map (λ (entry : Operand × ℕ). entry.0) es) in
    let T = λ (entry : Operand × ℕ). HasType types ty entry.0 in
    let O = λ (entry : Operand × ℕ). IsOperand places ty entry.0 in
    has_when (IsEntry p home types places blocks ty from) (e.1 == from) e.0 (entry_for from es)
    (λ yes. record {
      typed = All-head T e es h.typed;
      formed = All-head O e es h.formed;
      is_used = record {
        definite = subst (λ k. All P (operand_uses k (first_result blocks (suc k)) e.0)) (same_number e.1 from yes) (all_left P (uses e) (flat_map uses es) h.definite);
        named = all_left N (operand_names e.0) behind h.named;
      };
    })
    (λ other.
    let counted = counted_cons (λ (entry : Operand × ℕ). entry.1 == from) e es in
    let none : ◌≡◌ {A = ℕ} (cond (e.1 == from) 1 0) 0 = ap (λ b. cond b 1 0) other in
    entry_has p home types places blocks ty from es (omega (arith, counted, none, l)) (record {
      typed = All-tail T e es h.typed;
      formed = All-tail O e es h.formed;
      definite = all_right P (uses e) (flat_map uses es) h.definite;
      named = all_right N (operand_names e.0) behind h.named;
    }))

-- A frame at the end of its block, which goes to another one.
pub record Leaves (p : ProgramData) (made : ℕ) (f : Frame) (to : ℕ) : Type 0 where
  pub fits : FrameFits p made f
  pub sound : Sound p f.func fits.func fits.body
  pub next : f.next ≡ first_result fits.body.blocks (suc f.block)
  pub leads : Leads fits.body.blocks f.block to
  pub within : to < length fits.body.blocks

-- what is known of phis of the block that is entered
record ArePhis (p : ProgramData) (home : ℕ) (types : Types) (places : Places) (blocks : List Block) (to : ℕ) (phis : List Phi) : Type 0 where
  typed : All (TypedPhi types blocks to) phis
  formed : All (FormedPhi places) phis
  definite : All (IsSurelyDefined blocks) (flat_map (phi_uses blocks) phis)
  named : All (IsNamedAt p home) (flat_map phi_names phis)

phi_safe : (p : ProgramData) → IsProgram p → (made : ℕ) (f : Frame) (to : ℕ) (l : Leaves p made f to) (phi : Phi) (more : List Phi)
    → ArePhis p f.func.module (types_of l.sound.home.items l.fits.func l.fits.body) (places_of l.sound.home.items (length l.fits.func.params) l.fits.body) l.fits.body.blocks to (phi ∷ more) → Safe (IsValue p made phi.ty) (phi_value p f phi)
phi_safe p program made f to l phi more h =
    let fits = l.fits in
    let s = l.sound in
    let home = f.func.module in
    let blocks = fits.body.blocks in
    let types = types_of s.home.items fits.func fits.body in
    let places = places_of s.home.items (length fits.func.params) fits.body in
    let P = IsSurelyDefined blocks in
    let typed = All-head (TypedPhi types blocks to) phi more h.typed in
    let formed = All-head (FormedPhi places) phi more h.formed in
    let edge = contains_counted (successors_of (slice_get blocks f.block)) to l.leads in
    let some : 0 < count_by (λ (entry : Operand × ℕ). entry.1 == f.block) phi.entries = subst (λ n. 0 < n) (sym (typed.edges f.block)) edge in
    let entries : AreEntries p home types places blocks phi.ty phi.entries = record {
      typed = typed.has_types;
      formed = formed.has_operands;
      definite = all_left P (phi_uses blocks phi) (flat_map (phi_uses blocks) more) h.definite;
      named = all_left (IsNamedAt p home) (phi_names phi) (flat_map phi_names more) h.named;
    } in
    safe_read (IsEntry p home types places blocks phi.ty f.block) (IsValue p made phi.ty) (value p f) (entry_for f.block phi.entries) (entry_has p home types places blocks phi.ty f.block phi.entries some entries)
    (λ a is. safe_has (IsValue p made phi.ty) (value_in p f a)
    (is_read p program made f fits s phi.ty a (of_type types phi.ty a is.typed) is.formed (subst (λ n. IsUsed p home blocks f.block n a) (sym l.next) is.is_used)))

abbrev pub phi_types : List Phi → List Scalar
phi_types phis = map (λ phi. phi.ty) phis

phis_safe : (p : ProgramData) → IsProgram p → (made : ℕ) (f : Frame) (to : ℕ) (l : Leaves p made f to) (phis : List Phi)
    → ArePhis p f.func.module (types_of l.sound.home.items l.fits.func l.fits.body) (places_of l.sound.home.items (length l.fits.func.params) l.fits.body) l.fits.body.blocks to phis → Safe (AreValues p made (phi_types phis)) (phi_values p f phis)
phis_safe p program made f to l [] h = tt
phis_safe p program made f to l (phi ∷ more) h =
    let blocks = l.fits.body.blocks in
    let types = types_of l.sound.home.items l.fits.func l.fits.body in
    let places = places_of l.sound.home.items (length l.fits.func.params) l.fits.body in
    let rest : ArePhis p f.func.module types places blocks to more = record {
      typed = All-tail (TypedPhi types blocks to) phi more h.typed;
      formed = All-tail (FormedPhi places) phi more h.formed;
      definite = all_right (IsSurelyDefined blocks) (phi_uses blocks phi) (flat_map (phi_uses blocks) more) h.definite;
      named = all_right (IsNamedAt p f.func.module) (phi_names phi) (flat_map phi_names more) h.named;
    } in
    safe_then (IsValue p made phi.ty) (AreValues p made (phi_types (phi ∷ more))) (λ x. and_then (λ xs. Gives (x ∷ xs)) (phi_values p f more)) (phi_value p f phi) (phi_safe p program made f to l phi more h)
    (λ x hx. safe_then (AreValues p made (phi_types more)) (AreValues p made (phi_types (phi ∷ more))) (λ xs. Gives (x ∷ xs)) (phi_values p f more) (phis_safe p program made f to l more rest) (λ xs hxs. (hx, hxs)))

-- ---- and set

-- the types from a place on
abbrev AreTypesAt : List Scalar → ℕ → List Scalar → Type 0
AreTypesAt types first tys = (j : ℕ) (ty : Scalar) (k : ℕ) → slice_get tys j ≡ Some ty → k ≡ first + j → slice_get types k ≡ Some ty

set_from_length : (k : ℕ) (xs : List (Val Sym)) (rs : List (Option (Val Sym))) → length (set_from k xs rs) ≡ length rs
set_from_length k [] rs = refl
set_from_length k (x ∷ xs) rs = set_from_length (suc k) xs (set rs k (Some x)) ∙ length-set rs k (Some x)

-- A slot that is held stays so, and those that are set are held.
set_from_held : (p : ProgramData) (made : ℕ) (types : List Scalar) (first : ℕ) (tys : List Scalar) (xs : List (Val Sym)) (rs : List (Option (Val Sym))) (r : ℕ) → AreValues p made tys xs → AreTypesAt types first tys → length rs ≡ length types
    → (IsHeld p made (slice_get types r) (slot rs r) ⊎ ((first ≤ r) × (r < first + length tys))) → IsHeld p made (slice_get types r) (slot (set_from first xs rs) r)
set_from_held p made types first [] [] rs r h t count (inl held) = held
set_from_held p made types first [] [] rs r h t count (inr range) = absurd (let low = range.0 in let high = range.1 in omega arith)
set_from_held p made types first [] (x ∷ xs) rs r h t count c = absurd h
set_from_held p made types first (ty ∷ tys) [] rs r h t count c = absurd h
set_from_held p made types first (ty ∷ tys) (x ∷ xs) rs r h t count c =
    let at = t 0 ty first refl (omega arith) in
    let within = slot_within types rs first ty count at in
    let new = set rs first (Some x) in
    let more : AreTypesAt types (suc first) tys = λ j u k e n. (t (suc j) u k e (omega arith)) in
    let now = held_set p made types rs first r ty x at h.0 in
    set_from_held p made types (suc first) tys xs new r h.1 more (length-set rs first (Some x) ∙ count) (elim c [
      | inl held ↦ inl (now (λ apart. held) within)
      | inr range ↦ elim (is_or_not r first) [
        | inl same ↦ inl (now (λ apart. absurd (apart same)) within)
        | inr apart ↦ inr (let low = range.0 in let high = range.1 in (omega arith, omega arith))
      ]
    ])

phi_types_at : (blocks : List Block) (to : ℕ) (b : Block) → slice_get blocks to ≡ Some b → AreTypesAt (flat_map block_results blocks) (first_result blocks to) (phi_types b.phis)
phi_types_at blocks to b at j ty k e n = result_at blocks to b j k ty at (slice_get-append_first (phi_types b.phis) (filter_map result_type b.insts) j ty e) n

-- The frame fits in the block that it enters.
entered_fits : (p : ProgramData) (made : ℕ) (f : Frame) (to : ℕ) (l : Leaves p made f to) (b : Block) (xs : List (Val Sym)) → slice_get l.fits.body.blocks to ≡ Some b → AreValues p made (phi_types b.phis) xs
    → FrameFits p made (entered f to (first_result l.fits.body.blocks to) b xs)
entered_fits p made f to l b xs at h =
    let fits = l.fits in
    let blocks = fits.body.blocks in
    let types = results fits.body in
    let first = first_result blocks to in
    let phis : length (phi_types b.phis) ≡ length b.phis = length-map b.phis (λ (phi : Phi). phi.ty) in
    let before = λ (r : ℕ) (passed : IsPassed blocks fits.visited f.block f.next r). fits.set r passed in
    record {
      func = fits.func;
      body = fits.body;
      is = fits.is;
      has_body = fits.has_body;
      place = record { block = b; at = at; done = []; split = refl; last = refl; next = omega arith };
      visited = f.block ∷ fits.visited;
      path = (l.leads, fits.path);
      set = λ r passed. set_from_held p made types first (phi_types b.phis) xs f.results r h (phi_types_at blocks to b at) fits.slots (elim passed [
        | inl behind ↦ inl (elim (contains_cases f.block behind.0 fits.visited behind.1) [
          | inl here ↦ before r (inr (subst (λ k. first_result blocks k ≤ r) (sym here) behind.2.0, subst (λ n. r < n) (sym l.next) (subst (λ k. r < first_result blocks (suc k)) (sym here) behind.2.1)))
          | inr there ↦ before r (inl (behind.0, there, behind.2))
        ])
        | inr now ↦ inr (now.0, subst (λ n. r < first + n) (sym phis) now.1)
      ]);
      slots = set_from_length first xs f.results ∙ fits.slots;
      args = fits.args;
    }

slots_within : (p : ProgramData) (made : ℕ) (f : Frame) (fits : FrameFits p made f) (to : ℕ) (b : Block) → slice_get fits.body.blocks to ≡ Some b → first_result fits.body.blocks to + length b.phis ≤ length f.results
slots_within p made f fits to b at =
    let room = results_within fits.body.blocks to b at in
    let phis : length (phi_types b.phis) ≡ length b.phis = length-map b.phis (λ (phi : Phi). phi.ty) in
    omega (arith, room, phis, fits.slots, length-append (phi_types b.phis) (filter_map result_type b.insts))

not_more : (a b : ℕ) → a ≤ b → nat_le a b ≡ false → ⊥
not_more a b l e = grind (arith, nat_tests, e)

enters_safe : (p : ProgramData) (made : ℕ) (f : Frame) (to : ℕ) (l : Leaves p made f to) (b : Block) (xs : List (Val Sym)) → slice_get l.fits.body.blocks to ≡ Some b → AreValues p made (phi_types b.phis) xs
    → Safe (SameCall p made f) (enters f to (first_result l.fits.body.blocks to) b xs)
enters_safe p made f to l b xs at h =
    let first = first_result l.fits.body.blocks to in
    safe_when (SameCall p made f) (nat_le (first + length b.phis) (length f.results)) (Gives (entered f to first b xs)) Stuck
    (λ yes. record { fits = entered_fits p made f to l b xs at h; func = refl })
    (λ fails. not_more (first + length b.phis) (length f.results) (slots_within p made f l.fits to b at) fails)

-- The block is entered.
pub enters_block_safe : (p : ProgramData) → IsProgram p → (made : ℕ) (f : Frame) (to : ℕ) → (l : Leaves p made f to) → Safe (SameCall p made f) (enters_block p f to l.fits.body)
enters_block_safe p program made f to l =
    let body = l.fits.body in
    let blocks = body.blocks in
    let home = f.func.module in
    let P = IsSurelyDefined blocks in
    let N = IsNamedAt p home in
    let types = types_of l.sound.home.items l.fits.func body in
    let places = places_of l.sound.home.items (length l.fits.func.params) body in
    safe_read (λ b. slice_get blocks to ≡ Some b) (SameCall p made f) (λ block. and_then (enters f to (first_result blocks to) block) (phi_values p f block.phis)) (slice_get blocks to) (has_get blocks to l.within)
    (λ b at.
    let known = sound_block p f.func l.fits.func body l.sound to b at in
    let phis : ArePhis p home types places blocks to b.phis = record {
      typed = known.typed.phis;
      formed = known.formed.phis;
      definite = all_left P (flat_map (phi_uses blocks) b.phis) (insts_uses to (first_result blocks to + length b.phis) b.insts b.term) known.definite;
      named = all_left N (flat_map phi_names b.phis) (flat_map inst_names b.insts) (all_left N (flat_map phi_names b.phis ++ flat_map inst_names b.insts) (term_names b.term) known.named);
    } in
    safe_then (AreValues p made (phi_types b.phis)) (SameCall p made f) (enters f to (first_result blocks to) b) (phi_values p f b.phis) (phis_safe p program made f to l b.phis phis)
    (λ xs hxs. enters_safe p made f to l b xs at hxs))

-- ---- a call begins

-- A phi of a block without an incoming edge would have an entry too many.
no_phi : (blocks : List Block) (entries : List (Operand × ℕ)) → ((from : ℕ) → edges blocks from 0 ≡ 0) → 0 < length entries → ((from : ℕ) → count_by (λ entry. entry.1 == from) entries ≡ edges blocks from 0) → ⊥
no_phi blocks [] none some e = omega arith
no_phi blocks (entry ∷ entries) none some e =
    let counted = counted_cons (λ (x : Operand × ℕ). x.1 == entry.1) entry entries in
    let one : ◌≡◌ {A = ℕ} (cond (entry.1 == entry.1) 1 0) 1 = ap (λ b. cond b 1 0) (same_is entry.1) in
    let nothing = e entry.1 ∙ none entry.1 in
    omega (arith, counted, one, nothing)

no_phis : (types : Types) (places : Places) (blocks : List Block) (phis : List Phi) → ((from : ℕ) → edges blocks from 0 ≡ 0) → All (TypedPhi types blocks 0) phis → All (FormedPhi places) phis → length phis ≡ 0
no_phis types places blocks [] none t o = refl
no_phis types places blocks (phi ∷ more) none t o =
    let typed = All-head (TypedPhi types blocks 0) phi more t in
    let formed = All-head (FormedPhi places) phi more o in
    absurd (no_phi blocks phi.entries none formed.has_entry typed.edges)

begins_fits : (p : ProgramData) (made : ℕ) (symbol : Sym) (func : Func) (body : Body) (args : List (Val Sym)) (b : Block) → item_at p.modules symbol ≡ Some (item.Func func) → func.body ≡ Some body → Sound p symbol func body
    → AreValues p made (map (λ param. param.ty) func.params) args → slice_get body.blocks 0 ≡ Some b → FrameFits p made (begins_at symbol body args b)
begins_fits p made symbol func body args b is has s h at =
    let types = types_of s.home.items func body in
    let places = places_of s.home.items (length func.params) body in
    let known = sound_block p symbol func body s 0 b at in
    let none = no_phis types places body.blocks b.phis s.typed.not_entered known.typed.phis known.formed.phis in
    let first = first_zero body.blocks in
    record {
      func = func;
      body = body;
      is = is;
      has_body = has;
      place = record { block = b; at = at; done = []; split = refl; last = refl; next = omega (arith, first) };
      visited = [];
      path = refl;
      set = λ r passed. elim passed [
        | inl behind ↦ absurd (contains_none behind.0 behind.1)
        | inr now ↦ absurd (let high = now.1 in omega (arith, none, high))
      ];
      slots = length-replicate (length (results body)) None;
      args = zip_unmap (IsValue p made) (λ param. param.ty) func.params args h;
    }

-- a frame that fits, of this function
pub record Begun (p : ProgramData) (made : ℕ) (symbol : Sym) (f : Frame) : Type 0 where
  pub fits : FrameFits p made f
  pub func : f.func ≡ symbol

pub begins_safe : (p : ProgramData) (made : ℕ) (symbol : Sym) (func : Func) (body : Body) (args : List (Val Sym)) → item_at p.modules symbol ≡ Some (item.Func func) → func.body ≡ Some body → Sound p symbol func body
    → AreValues p made (map (λ param. param.ty) func.params) args → Safe (Begun p made symbol) (begins symbol body args)
begins_safe p made symbol func body args is has s h =
    safe_read (λ b. slice_get body.blocks 0 ≡ Some b) (Begun p made symbol) (λ first. Gives (begins_at symbol body args first)) (slice_get body.blocks 0) (has_get body.blocks 0 s.formed.has_block)
    (λ b at. record { fits = begins_fits p made symbol func body args b is has s h at; func = refl })
