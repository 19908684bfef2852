-- An instruction that is read is one that a text can write.
use Rattle.std.proofs.Common.{◌≡◌, ◌≢◌, ◌∙◌, ℕ, Bool, true, false, not, ◌&&◌, ◌||◌, List, [], ◌∷◌, drop, refl, ap, sym}
use Rattle.std.specs.Prelude.{All}
use Rattle.std.proofs.lemmas.Bool.{false≢true, and_parts}
use Rattle.ir_types.specs.declared.scalar.Scalar.{Scalar}
use Rattle.ir_types.specs.declared.scalar.Scalar.TheVariants.{I1, Ptr}
use Rattle.ir_types.specs.declared.scalar.BinOp.{BinOp}
use Rattle.ir_types.specs.declared.scalar.Flags.{Flags}
use Rattle.ir_types.specs.declared.scalar.CastOp.{CastOp}
use Rattle.ir_types.specs.declared.scalar.CastOp.TheVariants.{Zext, Sext, Trunc}
use Rattle.ir_types.specs.declared.shape.Ty.{Ty}
use Rattle.ir_syntax.specs.declared.constant.Operand.{Operand}
use Rattle.ir_syntax.specs.declared.body.Inst.TheVariants as inst
use Rattle.ir_syntax.specs.Suits.{IsType, is_pointer}
use Rattle.ir_syntax.specs.FormedBody.{Places, IsOperand, AllowsFlags, may_wrap, may_be_exact, may_be_disjoint, IsIndex, FormedInst}
use Rattle.ir_grammar.specs.declared.shape.Shape.TheVariants as is
use Rattle.ir_grammar.specs.declared.shape.Free.TheVariants as free
use Rattle.ir_grammar.specs.Tokens.{Kept}
use Rattle.ir_scope.specs.Runs.{runs}
use Rattle.ir_scope.specs.Types.{written_type}
use Rattle.ir_operands.specs.Operands.{Names, operand_at, typed, pair_at, flags_at, allows, nneg_at, allows_nneg, inbounds_at}
use Rattle.ir_operands.specs.Marks.{scalar_at}
use Rattle.ir_insts.specs.Insts.{bin_at, icmp_at, select_at, cast_at, count_at, made_alloca, alloca_at, made_load, load_at, made_store, store_at, is_integer, made_gep, gep_at}
use Rattle.ir_operands.proofs.FormingReadings.{IsRead, Any, read-any, read-behind, read-map, read-where, read-then, read-typed, read-run}
use Rattle.ir_operands.proofs.FormingTypes.{written-read, read-aligned}
use Rattle.ir_operands.proofs.FormingOperands.{Resolves, given-or}

-- ---- flags

allowed : (op : BinOp) (flags : Flags) → allows op flags ≡ true → AllowsFlags op flags
allowed op flags e =
    let a = and_parts ((not flags.nuw || may_wrap op) && (not flags.nsw || may_wrap op) && (not flags.exact || may_be_exact op)) (not flags.disjoint || may_be_disjoint op) e in
    let b = and_parts ((not flags.nuw || may_wrap op) && (not flags.nsw || may_wrap op)) (not flags.exact || may_be_exact op) a.0 in
    let c = and_parts (not flags.nuw || may_wrap op) (not flags.nsw || may_wrap op) b.0 in
    record {
      nuw = given-or flags.nuw (may_wrap op) c.0;
      nsw = given-or flags.nsw (may_wrap op) c.1;
      exact = given-or flags.exact (may_be_exact op) b.1;
      disjoint = given-or flags.disjoint (may_be_disjoint op) a.1;
    }

only-zext : (op : CastOp) (nneg : Bool) → allows_nneg op nneg ≡ true → nneg ≡ true → op ≡ Zext
only-zext Zext nneg e is = refl
only-zext Sext true e is = absurd (false≢true e)
only-zext Sext false e is = absurd (false≢true is)
only-zext Trunc true e is = absurd (false≢true e)
only-zext Trunc false e is = absurd (false≢true is)

not-pointer : (ty : Scalar) → not (is_pointer ty) ≡ true → ty ≢ Ptr
not-pointer ty e same = false≢true (sym (ap (λ t. not (is_pointer t)) same) ∙ e)

-- a scalar, and what is read at it
abbrev IsPair : Places → Scalar × (Operand × Operand) → Type 0
IsPair places f = IsOperand places f.0 f.1.0 × IsOperand places f.0 f.1.1

abbrev IsTyped : Places → Scalar × Operand → Type 0
IsTyped places f = IsOperand places f.0 f.1

abbrev IsAddress : Places → Scalar × Operand → Type 0
IsAddress places f = IsOperand places Ptr f.1

module _ (names : Names) (places : Places) (r : Resolves names places) where
  pub pair-read : (ks : List Kept) → IsRead (IsPair places) (typed (pair_at names) ks)
  pair-read ks =
      read-typed (λ ty p. IsOperand places ty p.0 × IsOperand places ty p.1) (pair_at names) ks
      (λ ty rest. read-then (IsOperand places ty) (IsOperand places ty) (λ (p : Operand × Operand). IsOperand places ty p.0 × IsOperand places ty p.1) (λ a b. (a, b)) rest (operand_at names ty) (operand_at names ty rest)
      (r.operands ty rest) (r.operands ty) (λ x y p q. (p, q)))

  pub one-read : (ks : List Kept) → IsRead (IsTyped places) (typed (operand_at names) ks)
  one-read ks = read-typed (IsOperand places) (operand_at names) ks r.operands

  pub bin-read : (op : BinOp) (ks : List Kept) → IsRead (FormedInst places) (bin_at names op ks)
  bin-read op ks =
      read-where (FormedInst places) (allows op (flags_at ks).0) _
      (λ e. read-behind (FormedInst places) (flags_at ks).1 _
      (read-map (IsPair places) (FormedInst places) _ (typed (pair_at names) (drop (flags_at ks).1 ks)) (pair-read (drop (flags_at ks).1 ks)) (λ f p. (allowed op (flags_at ks).0 e, p.0, p.1))))

  pub icmp-read : (ks : List Kept) → IsRead (FormedInst places) (icmp_at names ks)
  icmp-read [] = tt
  icmp-read ((is.Free (free.Pred pred), text) ∷ ks) =
      read-behind (FormedInst places) 1 _ (read-map (IsPair places) (FormedInst places) _ (typed (pair_at names) ks) (pair-read ks) (λ f p. (p.0, p.1)))
  icmp-read (k ∷ ks) = tt

  pub select-read : (ks : List Kept) → IsRead (FormedInst places) (select_at names ks)
  select-read ks =
      read-then (IsOperand places I1) (IsPair places) (FormedInst places) (λ cond f. inst.Select f.0 cond f.1.0 f.1.1) ks (typed (pair_at names)) (operand_at names I1 ks)
      (r.operands I1 ks) pair-read (λ cond f p q. (p, q.0, q.1))

  pub cast-read : (op : CastOp) (ks : List Kept) → IsRead (FormedInst places) (cast_at names op ks)
  cast-read op ks =
      read-where (FormedInst places) (allows_nneg op (nneg_at ks).0) _
      (λ e. read-behind (FormedInst places) (nneg_at ks).1 _
      (read-then (IsTyped places) Any (FormedInst places) (λ f to. inst.Cast op (nneg_at ks).0 f.0 to f.1) (drop (nneg_at ks).1 ks) scalar_at (typed (operand_at names) (drop (nneg_at ks).1 ks))
      (one-read (drop (nneg_at ks).1 ks)) (λ rest. read-any (scalar_at rest)) (λ f to p any. (only-zext op (nneg_at ks).0 e, p))))

  pub alloca-read : (ks : List Kept) → IsRead (FormedInst places) (alloca_at names ks)
  alloca-read ks =
      read-aligned (λ (f : Ty × ℕ). IsType f.0) (FormedInst places) made_alloca ks _
      (read-then IsType Any (λ (f : Ty × ℕ). IsType f.0) (λ ty count. (ty, count)) ks count_at (written_type names.env.types ks) (written-read names.env.types ks) (λ rest. read-any (count_at rest)) (λ ty count p any. p))
      (λ f align p few. (p, few))

  pub load-read : (ks : List Kept) → IsRead (FormedInst places) (load_at names ks)
  load-read ks =
      read-aligned (IsAddress places) (FormedInst places) made_load ks _ (read-typed (λ ty value. IsOperand places Ptr value) (λ ty. operand_at names Ptr) ks (λ ty rest. r.operands Ptr rest)) (λ f align p few. (p, few))

  pub store-read : (ks : List Kept) → IsRead (FormedInst places) (store_at names ks)
  store-read ks =
      read-aligned (λ (f : (Scalar × Operand) × Operand). IsTyped places f.0 × IsOperand places Ptr f.1) (FormedInst places) made_store ks _
      (read-then (IsTyped places) (IsOperand places Ptr) (λ (f : (Scalar × Operand) × Operand). IsTyped places f.0 × IsOperand places Ptr f.1) (λ f at. (f, at)) ks (operand_at names Ptr) (typed (operand_at names) ks)
      (one-read ks) (r.operands Ptr) (λ f at p q. (p, q)))
      (λ f align p few. (p.0, p.1, few))

  pub index-read : (k : Kept) (rest : List Kept) → is_integer k.0 ≡ true → IsRead (IsIndex places) (typed (operand_at names) (k ∷ rest))
  index-read (is.Scalar ty, text) rest e = read-behind (IsIndex places) 1 _ (read-map (IsOperand places ty) (IsIndex places) _ (operand_at names ty rest) (r.operands ty rest) (λ f p. (not-pointer ty e, p)))
  index-read (shape, text) rest e = tt

  abbrev IsBase : Ty × Operand → Type 0
  IsBase f = IsType f.0 × IsOperand places Ptr f.1

  pub gep-read : (ks : List Kept) → IsRead (FormedInst places) (gep_at names ks)
  gep-read ks =
      read-behind (FormedInst places) (inbounds_at ks).1 _
      (read-then IsBase (All (IsIndex places)) (FormedInst places) (made_gep (inbounds_at ks).0) rest (runs is_integer (typed (operand_at names))) _
      (read-then IsType (IsOperand places Ptr) IsBase (λ ty base. (ty, base)) rest (operand_at names Ptr) (written_type names.env.types rest) (written-read names.env.types rest) (r.operands Ptr) (λ ty base p q. (p, q)))
      (λ more. read-run (IsIndex places) is_integer (typed (operand_at names)) 0 more index-read)
      (λ f indices p q. (p.0, p.1, q)))
    where
      rest : List Kept
      rest = drop (inbounds_at ks).1 ks
