-- What a frame that fits can read: at the instruction at its head, and at the end of its block.
use Rattle.std.proofs.Common.{◌≡◌, ◌∙◌, ℕ, suc, ◌+◌, List, [], ◌∷◌, ◌++◌, length, map, All, slice_get, Option, Some, None, sym, ap, subst, arith}
use Rattle.std.specs.Prelude.{flat_map}
use Rattle.std.specs.List.{AllZip, filter_map}
use Rattle.std.proofs.lemmas.List.{append-nil, length-append, length-map}
use Rattle.std.proofs.lemmas.List.Elements.{All-nil, All-cons, All-head, All-tail, All-weaker, All-contains}
use Rattle.ir_types.specs.declared.scalar.Scalar.{Scalar}
use Rattle.ir_types.specs.declared.scalar.Scalar.TheVariants.{I1, Ptr}
use Rattle.ir_types.specs.declared.scalar.FnType.{FnType}
use Rattle.ir_syntax.specs.declared.symbol.Sym.{Sym}
use Rattle.ir_syntax.specs.declared.constant.Operand.{Operand}
use Rattle.ir_syntax.specs.declared.constant.Operand.TheVariants as operand
use Rattle.ir_syntax.specs.declared.body.Arg.{Arg}
use Rattle.ir_syntax.specs.declared.body.Inst.{Inst}
use Rattle.ir_syntax.specs.declared.body.Inst.TheVariants.{Bin, Icmp, Select, Cast, Alloca, Load, Store, Gep, Call}
use Rattle.ir_syntax.specs.declared.body.Term.{Term}
use Rattle.ir_syntax.specs.declared.body.Term.TheVariants.{RetVoid, Ret, Br, CondBr, Switch, Unreachable}
use Rattle.ir_syntax.specs.declared.body.Phi.{Phi}
use Rattle.ir_syntax.specs.declared.body.Block.{Block}
use Rattle.ir_syntax.specs.Callees.{written_callee}
use Rattle.ir_syntax.specs.Definite.{first_result, Use, operand_uses, has_result, insts_uses, phi_uses, IsSurelyDefined}
use Rattle.ir_syntax.specs.FormedBody.{Places, places_of, IsOperand, IsIndex, FormedInst, FormedTerm}
use Rattle.ir_syntax.specs.Named.{names, operand_names, inst_names, phi_names, term_names}
use Rattle.ir_syntax.specs.Operands.{operands, term_operands}
use Rattle.ir_syntax.specs.Programs.{ProgramData, IsProgram}
use Rattle.ir_syntax.specs.Results.{result_type, block_results, results}
use Rattle.ir_syntax.specs.Typed.{Types, HasType, CalleeSuits, TypedInst, TypedTerm}
use Rattle.block_memory.specs.declared.value.Val.{Val}
use Rattle.ir_steps.specs.States.{Frame, slot}
use Rattle.ir_steps.proofs.Fits.{Has, IsValue, IsHeld, FrameFits}
use Rattle.ir_steps.proofs.Naming.{IsNamedAt, constant_fits}
use Rattle.ir_steps.proofs.Evaluating.{IsRead}
use Rattle.ir_steps.proofs.EvaluatingInsts.{AreRead}
use Rattle.ir_steps.proofs.FramesSound.{types_of, Sound, sound, SoundBlock, sound_block}
use Rattle.ir_steps.proofs.NumberingLists.{all_left, all_right, zip_has}
use Rattle.ir_steps.proofs.Numbering.{first_next, result_at, next_type, uses_left}

-- ---- operands

-- A parameter and a register have the type. A constant has what it was written for.
abbrev pub IsOfType : Types → Scalar → Operand → Type 0
IsOfType types ty (operand.Param k) = slice_get types.params k ≡ Some ty
IsOfType types ty (operand.Reg k) = slice_get types.results k ≡ Some ty
IsOfType types ty (operand.Const c) = Unit {0}

pub of_type : (types : Types) (ty : Scalar) (a : Operand) → HasType types ty a → IsOfType types ty a
of_type types ty (operand.Param k) h = h
of_type types ty (operand.Reg k) h = h
of_type types ty (operand.Const c) h = tt

callee_of_type : (types : Types) (fn_ty : FnType) (a : Operand) → CalleeSuits types fn_ty a (written_callee a) → IsOfType types Ptr a
callee_of_type types fn_ty (operand.Param k) h = h
callee_of_type types fn_ty (operand.Reg k) h = h
callee_of_type types fn_ty (operand.Const c) h = tt

-- An operand at a place of a body, where results with numbers below `until` come before.
pub record IsUsed (p : ProgramData) (home : ℕ) (blocks : List Block) (place until : ℕ) (a : Operand) : Type 0 where
  pub definite : All (IsSurelyDefined blocks) (operand_uses place until a)
  pub named : All (IsNamedAt p home) (operand_names a)

-- and several
pub record AreUsed (p : ProgramData) (home : ℕ) (blocks : List Block) (place until : ℕ) (all : List Operand) : Type 0 where
  pub definite : All (IsSurelyDefined blocks) (flat_map (operand_uses place until) all)
  pub named : All (IsNamedAt p home) (flat_map operand_names all)

used_first : (p : ProgramData) (home : ℕ) (blocks : List Block) (place until : ℕ) (a : Operand) (more : List Operand) → AreUsed p home blocks place until (a ∷ more) → IsUsed p home blocks place until a
used_first p home blocks place until a more h = record {
  definite = all_left (IsSurelyDefined blocks) (operand_uses place until a) (flat_map (operand_uses place until) more) h.definite;
  named = all_left (IsNamedAt p home) (operand_names a) (flat_map operand_names more) h.named;
}

used_rest : (p : ProgramData) (home : ℕ) (blocks : List Block) (place until : ℕ) (a : Operand) (more : List Operand) → AreUsed p home blocks place until (a ∷ more) → AreUsed p home blocks place until more
used_rest p home blocks place until a more h = record {
  definite = all_right (IsSurelyDefined blocks) (operand_uses place until a) (flat_map (operand_uses place until) more) h.definite;
  named = all_right (IsNamedAt p home) (operand_names a) (flat_map operand_names more) h.named;
}

held_has : (p : ProgramData) (made : ℕ) (ty : Scalar) (o : Option (Val Sym)) → IsHeld p made (Some ty) o → Has (IsValue p made ty) o
held_has p made ty None h = absurd h
held_has p made ty (Some v) h = h

zip_map : {A B C : Type 0} (R : B → C → Type 0) (g : A → B) (xs : List A) (ys : List C) → AllZip (λ x y. R (g x) y) xs ys → AllZip R (map g xs) ys
zip_map R g [] [] h = tt
zip_map R g [] (y ∷ ys) h = absurd h
zip_map R g (x ∷ xs) [] h = absurd h
zip_map R g (x ∷ xs) (y ∷ ys) h = (h.0, zip_map R g xs ys h.1)

pub zip_unmap : {A B C : Type 0} (R : B → C → Type 0) (g : A → B) (xs : List A) (ys : List C) → AllZip R (map g xs) ys → AllZip (λ x y. R (g x) y) xs ys
zip_unmap R g [] [] h = tt
zip_unmap R g [] (y ∷ ys) h = absurd h
zip_unmap R g (x ∷ xs) [] h = absurd h
zip_unmap R g (x ∷ xs) (y ∷ ys) h = (h.0, zip_unmap R g xs ys h.1)

-- An operand of the type is read.
pub is_read : (p : ProgramData) (program : IsProgram p) (made : ℕ) (f : Frame) (fits : FrameFits p made f) (s : Sound p f.func fits.func fits.body) (ty : Scalar) (a : Operand)
    → IsOfType (types_of s.home.items fits.func fits.body) ty a → IsOperand (places_of s.home.items (length fits.func.params) fits.body) ty a → IsUsed p f.func.module fits.body.blocks f.block f.next a → IsRead p made f ty a
is_read p program made f fits s ty (operand.Param k) t o u = zip_has (IsValue p made) (map (λ param. param.ty) fits.func.params) f.args k ty (zip_map (IsValue p made) (λ param. param.ty) fits.func.params f.args fits.args) t
is_read p program made f fits s ty (operand.Reg k) t o u =
    let at_use : Use = record { register = k; place = f.block; until = f.next } in
    let defined = All-head (IsSurelyDefined fits.body.blocks) at_use [] u.definite in
    held_has p made ty (slot f.results k) (subst (λ t. IsHeld p made t (slot f.results k)) t (fits.set k (defined fits.visited fits.path)))
is_read p program made f fits s ty (operand.Const c) t o u =
    constant_fits p program f.func.module s.home s.at c ty o (λ place h. All-contains (IsNamedAt p f.func.module) (names c) place u.named h) made

-- Operands that come with their types.
are_read : {X : Type 0} (p : ProgramData) (program : IsProgram p) (made : ℕ) (f : Frame) (fits : FrameFits p made f) (s : Sound p f.func fits.func fits.body) (ty : X → Scalar) (a : X → Operand) (xs : List X)
    → All (λ x. IsOfType (types_of s.home.items fits.func fits.body) (ty x) (a x)) xs → All (λ x. IsOperand (places_of s.home.items (length fits.func.params) fits.body) (ty x) (a x)) xs
    → AreUsed p f.func.module fits.body.blocks f.block f.next (map a xs) → All (λ x. IsRead p made f (ty x) (a x)) xs
are_read p program made f fits s ty a [] t o u = All-nil (λ x. IsRead p made f (ty x) (a x))
are_read {X} p program made f fits s ty a (x ∷ xs) t o u =
    let T : X → Type 0 = λ y. IsOfType (types_of s.home.items fits.func fits.body) (ty y) (a y) in
    let O : X → Type 0 = λ y. IsOperand (places_of s.home.items (length fits.func.params) fits.body) (ty y) (a y) in
    let blocks = fits.body.blocks in
    All-cons (λ y. IsRead p made f (ty y) (a y)) x xs
    (is_read p program made f fits s (ty x) (a x) (All-head T x xs t) (All-head O x xs o) (used_first p f.func.module blocks f.block f.next (a x) (map a xs) u))
    (are_read p program made f fits s ty a xs (All-tail T x xs t) (All-tail O x xs o) (used_rest p f.func.module blocks f.block f.next (a x) (map a xs) u))

-- ---- the operands of an instruction, and of a terminator

-- Each operand of the terminator has a value of the type at which it is read.
abbrev pub IsTermRead : ProgramData → ℕ → Frame → Term → Type 0
IsTermRead p made f RetVoid = Unit {0}
IsTermRead p made f (Ret ty a) = IsRead p made f ty a
IsTermRead p made f (Br to) = Unit {0}
IsTermRead p made f (CondBr cond one other) = IsRead p made f I1 cond
IsTermRead p made f (Switch ty a default cases) = IsRead p made f ty a
IsTermRead p made f Unreachable = Unit {0}

one_read : (p : ProgramData) (program : IsProgram p) (made : ℕ) (f : Frame) (fits : FrameFits p made f) (s : Sound p f.func fits.func fits.body) (ty : Scalar) (a : Operand) (more : List Operand)
    → HasType (types_of s.home.items fits.func fits.body) ty a → IsOperand (places_of s.home.items (length fits.func.params) fits.body) ty a → AreUsed p f.func.module fits.body.blocks f.block f.next (a ∷ more) → IsRead p made f ty a
one_read p program made f fits s ty a more t o u =
    is_read p program made f fits s ty a (of_type (types_of s.home.items fits.func fits.body) ty a t) o (used_first p f.func.module fits.body.blocks f.block f.next a more u)

two_read : (p : ProgramData) (program : IsProgram p) (made : ℕ) (f : Frame) (fits : FrameFits p made f) (s : Sound p f.func fits.func fits.body) (ta tb : Scalar) (a b : Operand) (more : List Operand)
    → HasType (types_of s.home.items fits.func fits.body) ta a → HasType (types_of s.home.items fits.func fits.body) tb b
    → IsOperand (places_of s.home.items (length fits.func.params) fits.body) ta a → IsOperand (places_of s.home.items (length fits.func.params) fits.body) tb b
    → AreUsed p f.func.module fits.body.blocks f.block f.next (a ∷ b ∷ more) → IsRead p made f ta a × IsRead p made f tb b
two_read p program made f fits s ta tb a b more t u o q used = (
  one_read p program made f fits s ta a (b ∷ more) t o used,
  one_read p program made f fits s tb b more u q (used_rest p f.func.module fits.body.blocks f.block f.next a (b ∷ more) used),
)

insts_read : (p : ProgramData) (program : IsProgram p) (made : ℕ) (f : Frame) (fits : FrameFits p made f) (s : Sound p f.func fits.func fits.body) (i : Inst)
    → TypedInst (types_of s.home.items fits.func fits.body) i → FormedInst (places_of s.home.items (length fits.func.params) fits.body) i → AreUsed p f.func.module fits.body.blocks f.block f.next (operands i) → AreRead p made f i
insts_read p program made f fits s (Bin op flags ty a b) t o u = two_read p program made f fits s ty ty a b [] t.1 t.2 o.1 o.2 u
insts_read p program made f fits s (Icmp pred ty a b) t o u = two_read p program made f fits s ty ty a b [] t.0 t.1 o.0 o.1 u
insts_read p program made f fits s (Select ty cond a b) t o u =
    let two = two_read p program made f fits s ty ty a b [] t.1 t.2 o.1 o.2 (used_rest p f.func.module fits.body.blocks f.block f.next cond (a ∷ b ∷ []) u) in
    (one_read p program made f fits s I1 cond (a ∷ b ∷ []) t.0 o.0 u, two.0, two.1)
insts_read p program made f fits s (Cast op nneg from to a) t o u = one_read p program made f fits s from a [] t.3 o.1 u
insts_read p program made f fits s (Alloca ty count align) t o u = tt
insts_read p program made f fits s (Load ty at align) t o u = one_read p program made f fits s Ptr at [] t o.0 u
insts_read p program made f fits s (Store ty v at align) t o u = two_read p program made f fits s ty Ptr v at [] t.0 t.1 o.0 o.1 u
insts_read p program made f fits s (Gep inbounds ty base indices) t o u =
    let types = types_of s.home.items fits.func fits.body in
    let places = places_of s.home.items (length fits.func.params) fits.body in
    let behind = map (λ (index : Scalar × Operand). index.1) indices in (
      one_read p program made f fits s Ptr base behind t.1 o.1 u,
      are_read p program made f fits s (λ (index : Scalar × Operand). index.0) (λ (index : Scalar × Operand). index.1) indices
          (All-weaker (λ (index : Scalar × Operand). HasType types index.0 index.1) (λ (index : Scalar × Operand). IsOfType types index.0 index.1) (λ index h. of_type types index.0 index.1 h) indices t.2)
          (All-weaker (IsIndex places) (λ (index : Scalar × Operand). IsOperand places index.0 index.1) (λ index h. h.1) indices o.2)
          (used_rest p f.func.module fits.body.blocks f.block f.next base behind u),
    )
insts_read p program made f fits s (Call fn_ty ret_ext callee args) t o u =
    let types = types_of s.home.items fits.func fits.body in
    let behind = map (λ (arg : Arg). arg.value) args in (
      is_read p program made f fits s Ptr callee (callee_of_type types fn_ty callee t.has_callee) o.has_callee (used_first p f.func.module fits.body.blocks f.block f.next callee behind u),
      are_read p program made f fits s (λ (arg : Arg). arg.ty) (λ (arg : Arg). arg.value) args
          (All-weaker (λ (arg : Arg). HasType types arg.ty arg.value) (λ (arg : Arg). IsOfType types arg.ty arg.value) (λ arg h. of_type types arg.ty arg.value h) args t.has_args)
          o.has_args
          (used_rest p f.func.module fits.body.blocks f.block f.next callee behind u),
    )

term_read : (p : ProgramData) (program : IsProgram p) (made : ℕ) (f : Frame) (fits : FrameFits p made f) (s : Sound p f.func fits.func fits.body) (t : Term)
    → TypedTerm (types_of s.home.items fits.func fits.body) fits.func.returns t → FormedTerm (places_of s.home.items (length fits.func.params) fits.body) t
    → AreUsed p f.func.module fits.body.blocks f.block f.next (term_operands t) → IsTermRead p made f t
term_read p program made f fits s RetVoid t o u = tt
term_read p program made f fits s (Ret ty a) t o u = one_read p program made f fits s ty a [] t.1 o u
term_read p program made f fits s (Br to) t o u = tt
term_read p program made f fits s (CondBr cond one other) t o u = one_read p program made f fits s I1 cond [] t o.0 u
term_read p program made f fits s (Switch ty a default cases) t o u = one_read p program made f fits s ty a [] t.1 o.0 u
term_read p program made f fits s Unreachable t o u = tt

-- ---- the head of a frame, and the end of its block

-- A frame that fits, at an instruction: its operands are read, and it has a slot for its result.
pub record AtHead (p : ProgramData) (made : ℕ) (f : Frame) (i : Inst) (behind : List Inst) : Type 0 where
  pub fits : FrameFits p made f
  pub rest : f.rest ≡ i ∷ behind
  pub types : Types
  pub typed : TypedInst types i
  pub places : Places
  pub formed : FormedInst places i
  pub reads : AreRead p made f i
  pub result : (ty : Scalar) → result_type i ≡ Some ty → slice_get (results fits.body) f.next ≡ Some ty

-- A frame that fits, with nothing left in its block but the terminator.
pub record AtEnd (p : ProgramData) (made : ℕ) (f : Frame) : Type 0 where
  pub fits : FrameFits p made f
  pub sound : Sound p f.func fits.func fits.body
  pub typed : TypedTerm (types_of sound.home.items fits.func fits.body) fits.func.returns f.last
  pub formed : FormedTerm (places_of sound.home.items (length fits.func.params) fits.body) f.last
  pub reads : IsTermRead p made f f.last
  pub next : f.next ≡ first_result fits.body.blocks (suc f.block)

-- what is known of the frame's block
block_of : (p : ProgramData) (made : ℕ) (f : Frame) (fits : FrameFits p made f) (s : Sound p f.func fits.func fits.body)
    → SoundBlock p f.func.module (types_of s.home.items fits.func fits.body) (places_of s.home.items (length fits.func.params) fits.body) fits.func.returns fits.body.blocks f.block fits.place.block
block_of p made f fits s = sound_block p f.func fits.func fits.body s f.block fits.place.block fits.place.at

-- the uses that are left in the block
uses_in_rest : (p : ProgramData) (made : ℕ) (f : Frame) (fits : FrameFits p made f) → Sound p f.func fits.func fits.body → All (IsSurelyDefined fits.body.blocks) (insts_uses f.block f.next f.rest fits.place.block.term)
uses_in_rest p made f fits s =
    let blocks = fits.body.blocks in
    let b = fits.place.block in
    let P = IsSurelyDefined blocks in
    let first = first_result blocks f.block + length b.phis in
    let here = all_right P (flat_map (phi_uses blocks) b.phis) (insts_uses f.block first b.insts b.term) (block_of p made f fits s).definite in
    let split = subst (λ insts. All P (insts_uses f.block first insts b.term)) fits.place.split here in
    let n : f.next ≡ first + length (filter_map result_type fits.place.done) = omega (arith, fits.place.next) in
    uses_left P f.block first f.next fits.place.done f.rest b.term n split

pub at_head : (p : ProgramData) → IsProgram p → (made : ℕ) (f : Frame) → FrameFits p made f → (i : Inst) (behind : List Inst) → f.rest ≡ i ∷ behind → AtHead p made f i behind
at_head p program made f fits i behind e =
    let s = sound p f.func fits.func fits.body program fits.is fits.has_body in
    let blocks = fits.body.blocks in
    let b = fits.place.block in
    let done = fits.place.done in
    let P = IsSurelyDefined blocks in
    let N = IsNamedAt p f.func.module in
    let types = types_of s.home.items fits.func fits.body in
    let places = places_of s.home.items (length fits.func.params) fits.body in
    let known = block_of p made f fits s in
    let split : b.insts ≡ done ++ i ∷ behind = fits.place.split ∙ ap (λ r. done ++ r) e in
    let left = subst (λ r. All P (insts_uses f.block f.next r b.term)) e (uses_in_rest p made f fits s) in
    let typed = All-head (TypedInst types) i behind (all_right (TypedInst types) done (i ∷ behind) (subst (All (TypedInst types)) split known.typed.insts)) in
    let formed = All-head (FormedInst places) i behind (all_right (FormedInst places) done (i ∷ behind) (subst (All (FormedInst places)) split known.formed.insts)) in
    let insts_named = all_right N (flat_map phi_names b.phis) (flat_map inst_names b.insts) (all_left N (flat_map phi_names b.phis ++ flat_map inst_names b.insts) (term_names b.term) known.named) in
    let named = all_left N (inst_names i) (flat_map inst_names behind) (names_behind N done (i ∷ behind) (subst (λ insts. All N (flat_map inst_names insts)) split insts_named)) in
    let used : AreUsed p f.func.module blocks f.block f.next (operands i) = record {
      definite = all_left P (flat_map (operand_uses f.block f.next) (operands i)) (insts_uses f.block (f.next + has_result (result_type i)) behind b.term) left;
      named = named;
    } in
    record {
      fits = fits;
      rest = e;
      types = types;
      typed = typed;
      places = places;
      formed = formed;
      reads = insts_read p program made f fits s i typed formed used;
      result = λ ty t. result_at blocks f.block b (length b.phis + length (filter_map result_type done)) f.next ty fits.place.at (next_type b done i behind ty split t) fits.place.next;
    }
  where
    names_behind : (N : ℕ → Type 0) (done more : List Inst) → All N (flat_map inst_names (done ++ more)) → All N (flat_map inst_names more)
    names_behind N [] more h = h
    names_behind N (d ∷ ds) more h = names_behind N ds more (all_right N (inst_names d) (flat_map inst_names (ds ++ more)) h)

pub at_end : (p : ProgramData) → IsProgram p → (made : ℕ) (f : Frame) → FrameFits p made f → f.rest ≡ [] → AtEnd p made f
at_end p program made f fits e =
    let s = sound p f.func fits.func fits.body program fits.is fits.has_body in
    let blocks = fits.body.blocks in
    let b = fits.place.block in
    let done = fits.place.done in
    let P = IsSurelyDefined blocks in
    let N = IsNamedAt p f.func.module in
    let types = types_of s.home.items fits.func fits.body in
    let places = places_of s.home.items (length fits.func.params) fits.body in
    let known = block_of p made f fits s in
    let all : b.insts ≡ done = fits.place.split ∙ ap (λ r. done ++ r) e ∙ append-nil done in
    let count : length (block_results b) ≡ length b.phis + length (filter_map result_type done) =
    length-append (map (λ (phi : Phi). phi.ty) b.phis) (filter_map result_type b.insts) ∙ ap (λ n. n + length (filter_map result_type b.insts)) (length-map b.phis (λ (phi : Phi). phi.ty))
    ∙ ap (λ insts. length b.phis + length (filter_map result_type insts)) all in
    let typed = subst (TypedTerm types fits.func.returns) (sym fits.place.last) known.typed.term in
    let formed = subst (FormedTerm places) (sym fits.place.last) known.formed.term in
    let named = all_right N (flat_map phi_names b.phis ++ flat_map inst_names b.insts) (term_names b.term) known.named in
    let used : AreUsed p f.func.module blocks f.block f.next (term_operands f.last) = record {
      definite = subst (λ t. All P (flat_map (operand_uses f.block f.next) (term_operands t))) (sym fits.place.last) (subst (λ r. All P (insts_uses f.block f.next r b.term)) e (uses_in_rest p made f fits s));
      named = subst (λ t. All N (term_names t)) (sym fits.place.last) named;
    } in
    record {
      fits = fits;
      sound = s;
      typed = typed;
      formed = formed;
      reads = term_read p program made f fits s f.last typed formed used;
      next = fits.place.next ∙ sym (first_next blocks f.block b fits.place.at ∙ ap (λ n. first_result blocks f.block + n) count);
    }
