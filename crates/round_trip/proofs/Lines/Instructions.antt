-- Instructions other than calls are read again.
use Rattle.std.proofs.Common.{◌≡◌, ◌≢◌, ◌∙◌, ℕ, suc, Bool, true, not, ◌&&◌, nat_lt, codes, List, [], ◌∷◌, ◌++◌, length, map, Option, Some, option_map, refl, ap, append_assoc}
use Rattle.std.specs.Prelude.{All, ◌^◌}
use Rattle.std.specs.List.{list_all}
use Rattle.std.proofs.lemmas.Bool.{and_parts}
use Rattle.std.proofs.lemmas.List.Elements.{All-nil, All-cons, All-head, All-tail}
use Rattle.ir_types.specs.declared.scalar.Scalar.{Scalar}
use Rattle.ir_types.specs.declared.scalar.Scalar.TheVariants.{I1, I8, I16, I32, I64, Ptr}
use Rattle.ir_types.specs.declared.scalar.BinOp.{BinOp}
use Rattle.ir_types.specs.declared.scalar.CastOp.{CastOp}
use Rattle.ir_types.specs.declared.scalar.Pred.{Pred}
use Rattle.ir_types.specs.declared.scalar.Flags.{Flags}
use Rattle.ir_types.specs.declared.shape.Ty.{Ty}
use Rattle.ir_syntax.specs.declared.constant.Operand.{Operand}
use Rattle.ir_syntax.specs.declared.body.Inst.{Inst}
use Rattle.ir_syntax.specs.declared.body.Inst.TheVariants as inst
use Rattle.ir_syntax.specs.Suits.{is_pointer}
use Rattle.ir_syntax.specs.FormedBody.{Places, IsIndex, FormedInst}
use Rattle.ir_grammar.specs.declared.shape.Flag.TheVariants as flag
use Rattle.ir_grammar.specs.declared.shape.Free.TheVariants as free
use Rattle.ir_grammar.specs.declared.shape.Shape.TheVariants as is
use Rattle.ir_scope.specs.Runs.{Reading, runs}
use Rattle.ir_scope.specs.Types.{written_type}
use Rattle.ir_operands.specs.Operands.{Names, operand_at, then_at, typed, pair_at, flags_at, allows, nneg_at, allows_nneg, inbounds_at}
use Rattle.ir_operands.specs.Marks.{scalar_at}
use Rattle.ir_insts.specs.Insts.{bin_at, icmp_at, select_at, cast_at, count_at, made_alloca, alloca_at, made_load, load_at, made_store, store_at, is_integer, made_gep, gep_at}
use Rattle.ir_writer.specs.Words.{pred_text}
use Rattle.ir_writer.specs.Ranges.{is_type_in_range, is_operand_in_range, is_inst_in_range}
use Rattle.round_trip.proofs.Grammar.Kept.{Lexemes, joined, scalar_kept, type_kept, operand_kept, typed_kept, pair_kept, align_kept, flag_kept, flags_kept, count_kept}
use Rattle.round_trip.proofs.Lines.Words.{one_more, then_back, front_back, typed_back, joined_back}
use Rattle.round_trip.proofs.Lines.Aligns.{begins_quietly, no_index, aligned_back, count_back}
use Rattle.round_trip.proofs.Lines.Flags.{flags_back, allowed, nneg_back, allowed_nneg, inbounds_back}
use Rattle.round_trip.proofs.Lines.Operands.{no_inbounds}
use Rattle.round_trip.proofs.Lines.Names.{ReadsBack}
use Rattle.round_trip.proofs.Constants.Runs.{IsReadBack, runs_back}

module _ (names : List (List ℕ)) (N : Names) (places : Places) (r : ReadsBack names N places) where
  -- ---- operands behind their types

  -- The operand is read at its type, whatever follows.
  abbrev IsBack : Scalar → Operand → Type 0
  IsBack ty value = (rest : Lexemes) → operand_at N ty (operand_kept names ty value ++ rest) ≡ Some (value, length (operand_kept names ty value))

  pub value_back : (ty : Scalar) (value : Operand) → IsBack ty value → (rest : Lexemes) → typed (operand_at N) (typed_kept names ty value ++ rest) ≡ Some ((ty, value), length (typed_kept names ty value))
  value_back ty value back rest = typed_back (operand_at N) ty value (operand_kept names ty value) rest (back rest)

  pair_back : (ty : Scalar) (a b : Operand) → IsBack ty a → IsBack ty b → (rest : Lexemes) → typed (pair_at N) (pair_kept names ty a b ++ rest) ≡ Some ((ty, (a, b)), length (pair_kept names ty a b))
  pair_back ty a b first second rest =
      typed_back (pair_at N) ty (a, b) (operand_kept names ty a ++ operand_kept names ty b) rest
      (then_back {Z = Operand × Operand} (λ a b. (a, b)) (operand_at N ty) (operand_at N ty) a b (operand_kept names ty a) (operand_kept names ty b) rest (first (operand_kept names ty b ++ rest)) (second rest))

  -- ---- instructions of one type

  pub bin_back : (op : BinOp) (flags : Flags) (ty : Scalar) (a b : Operand) → FormedInst places (inst.Bin op flags ty a b) → is_inst_in_range (inst.Bin op flags ty a b) ≡ true → (rest : Lexemes) →
      bin_at N op ((flags_kept flags ++ pair_kept names ty a b) ++ rest) ≡ Some (inst.Bin op flags ty a b, length (flags_kept flags ++ pair_kept names ty a b))
  bin_back op flags ty a b formed has rest =
      let two = and_parts (is_operand_in_range a) (is_operand_in_range b) has in
      front_back {Y = Inst} (allows op) flags_at (λ flags ks. option_map (λ f. (inst.Bin op flags f.0.0 f.0.1.0 f.0.1.1, f.1)) (typed (pair_at N) ks)) flags (inst.Bin op flags ty a b) (flags_kept flags) (pair_kept names ty a b) rest
      (allowed op flags formed.0) (flags_back flags ty _)
      (ap (option_map (λ f. (inst.Bin op flags f.0.0 f.0.1.0 f.0.1.1, f.1))) (pair_back ty a b (r.operands ty a formed.1 two.0) (r.operands ty b formed.2 two.1) rest))

  pub icmp_back : (pred : Pred) (ty : Scalar) (a b : Operand) → FormedInst places (inst.Icmp pred ty a b) → is_inst_in_range (inst.Icmp pred ty a b) ≡ true → (rest : Lexemes) →
      icmp_at N ((is.Free (free.Pred pred), pred_text pred) ∷ (pair_kept names ty a b ++ rest)) ≡ Some (inst.Icmp pred ty a b, suc (length (pair_kept names ty a b)))
  icmp_back pred ty a b formed has rest =
      let two = and_parts (is_operand_in_range a) (is_operand_in_range b) has in
      one_more (inst.Icmp pred ty a b) (length (pair_kept names ty a b)) _
      (ap (option_map (λ f. (inst.Icmp pred f.0.0 f.0.1.0 f.0.1.1, f.1))) (pair_back ty a b (r.operands ty a formed.0 two.0) (r.operands ty b formed.1 two.1) rest))

  pub select_back : (ty : Scalar) (cond a b : Operand) → FormedInst places (inst.Select ty cond a b) → is_inst_in_range (inst.Select ty cond a b) ≡ true → (rest : Lexemes) →
      select_at N ((operand_kept names I1 cond ++ pair_kept names ty a b) ++ rest) ≡ Some (inst.Select ty cond a b, length (operand_kept names I1 cond ++ pair_kept names ty a b))
  select_back ty cond a b formed has rest =
      let front = and_parts (is_operand_in_range cond && is_operand_in_range a) (is_operand_in_range b) has in
      let two = and_parts (is_operand_in_range cond) (is_operand_in_range a) front.0 in
      then_back {Z = Inst} (λ cond f. inst.Select f.0 cond f.1.0 f.1.1) (operand_at N I1) (typed (pair_at N)) cond (ty, (a, b)) (operand_kept names I1 cond) (pair_kept names ty a b) rest
      (r.operands I1 cond formed.0 two.0 (pair_kept names ty a b ++ rest))
      (pair_back ty a b (r.operands ty a formed.1 two.1) (r.operands ty b formed.2 front.1) rest)

  pub cast_back : (op : CastOp) (nneg : Bool) (from to : Scalar) (a : Operand) → FormedInst places (inst.Cast op nneg from to a) → is_inst_in_range (inst.Cast op nneg from to a) ≡ true → (rest : Lexemes) →
      cast_at N op ((flag_kept nneg flag.Nneg (codes "nneg") ++ (typed_kept names from a ++ scalar_kept to ∷ [])) ++ rest)
      ≡ Some (inst.Cast op nneg from to a, length (flag_kept nneg flag.Nneg (codes "nneg") ++ (typed_kept names from a ++ scalar_kept to ∷ [])))
  cast_back op nneg from to a formed has rest =
      front_back {Y = Inst} (allows_nneg op) nneg_at (λ nneg ks. then_at (λ f to. inst.Cast op nneg f.0 to f.1) ks scalar_at (typed (operand_at N) ks)) nneg (inst.Cast op nneg from to a)
      (flag_kept nneg flag.Nneg (codes "nneg")) (typed_kept names from a ++ scalar_kept to ∷ []) rest
      (allowed_nneg op nneg formed.0) (nneg_back nneg from _)
      (then_back {Z = Inst} (λ f to. inst.Cast op nneg f.0 to f.1) (typed (operand_at N)) scalar_at (from, a) to (typed_kept names from a) (scalar_kept to ∷ []) rest
      (value_back from a (r.operands from a formed.1 has) ((scalar_kept to ∷ []) ++ rest)) refl)

  -- ---- memory

  pub alloca_back : (ty : Ty) (count : ℕ) (align : Option ℕ) → FormedInst places (inst.Alloca ty count align) → is_inst_in_range (inst.Alloca ty count align) ≡ true → (rest : Lexemes) → begins_quietly rest ≡ true →
      alloca_at N ((type_kept ty ++ (count_kept count ++ align_kept align)) ++ rest) ≡ Some (inst.Alloca ty count align, length (type_kept ty ++ (count_kept count ++ align_kept align)))
  alloca_back ty count align formed has rest quiet =
      let two = and_parts (is_type_in_range ty) (nat_lt count (2 ^ 64)) has in
      joined_back (alloca_at N) (inst.Alloca ty count align) (type_kept ty) (count_kept count) (align_kept align) rest
      (aligned_back made_alloca (λ ks. then_at (λ ty count. (ty, count)) ks count_at (written_type N.env.types ks)) (ty, count) align (type_kept ty ++ count_kept count) rest formed.1 quiet
      (then_back {Z = Ty × ℕ} (λ ty count. (ty, count)) (written_type N.env.types) count_at ty count (type_kept ty) (count_kept count) (align_kept align ++ rest)
      (r.types ty formed.0 two.0 (count_kept count ++ (align_kept align ++ rest)))
      (count_back count align rest (r.numbers I64 count two.1) quiet)))

  pub load_back : (ty : Scalar) (at : Operand) (align : Option ℕ) → FormedInst places (inst.Load ty at align) → is_inst_in_range (inst.Load ty at align) ≡ true → (rest : Lexemes) → begins_quietly rest ≡ true →
      load_at N ((scalar_kept ty ∷ (operand_kept names Ptr at ++ align_kept align)) ++ rest) ≡ Some (inst.Load ty at align, length (scalar_kept ty ∷ (operand_kept names Ptr at ++ align_kept align)))
  load_back ty at align formed has rest quiet =
      aligned_back made_load (typed (λ ty. operand_at N Ptr)) (ty, at) align (scalar_kept ty ∷ operand_kept names Ptr at) rest formed.1 quiet
      (typed_back (λ ty. operand_at N Ptr) ty at (operand_kept names Ptr at) (align_kept align ++ rest) (r.operands Ptr at formed.0 has (align_kept align ++ rest)))

  pub store_back : (ty : Scalar) (value at : Operand) (align : Option ℕ) → FormedInst places (inst.Store ty value at align) → is_inst_in_range (inst.Store ty value at align) ≡ true → (rest : Lexemes) → begins_quietly rest ≡ true →
      store_at N ((typed_kept names ty value ++ (operand_kept names Ptr at ++ align_kept align)) ++ rest)
      ≡ Some (inst.Store ty value at align, length (typed_kept names ty value ++ (operand_kept names Ptr at ++ align_kept align)))
  store_back ty value at align formed has rest quiet =
      let two = and_parts (is_operand_in_range value) (is_operand_in_range at) has in
      joined_back (store_at N) (inst.Store ty value at align) (typed_kept names ty value) (operand_kept names Ptr at) (align_kept align) rest
      (aligned_back made_store (λ ks. then_at (λ f at. (f, at)) ks (operand_at N Ptr) (typed (operand_at N) ks)) ((ty, value), at) align (typed_kept names ty value ++ operand_kept names Ptr at) rest formed.2 quiet
      (then_back {Z = (Scalar × Operand) × Operand} (λ f at. (f, at)) (typed (operand_at N)) (operand_at N Ptr) (ty, value) at (typed_kept names ty value) (operand_kept names Ptr at) (align_kept align ++ rest)
      (value_back ty value (r.operands ty value formed.0 two.0) (operand_kept names Ptr at ++ (align_kept align ++ rest)))
      (r.operands Ptr at formed.1 two.1 (align_kept align ++ rest))))

  -- ---- addresses

  not_pointer : (ty : Scalar) → ty ≢ Ptr → not (is_pointer ty) ≡ true
  not_pointer I1 other = refl
  not_pointer I8 other = refl
  not_pointer I16 other = refl
  not_pointer I32 other = refl
  not_pointer I64 other = refl
  not_pointer Ptr other = absurd (other refl)

  abbrev index_kept : Scalar × Operand → Lexemes
  index_kept index = typed_kept names index.0 index.1

  -- An index is read again, whatever follows.
  abbrev IsIndexBack : Scalar × Operand → Type 0
  IsIndexBack index = IsReadBack is_integer (typed (operand_at N)) index (index_kept index)

  index_back : (index : Scalar × Operand) → IsIndex places index → is_operand_in_range index.1 ≡ true → IsIndexBack index
  index_back index formed has = record {
    starts = not_pointer index.0 formed.0;
    back = λ rest. value_back index.0 index.1 (r.operands index.0 index.1 formed.1 has) rest;
  }

  indices_back : (indices : List (Scalar × Operand)) → All (IsIndex places) indices → list_all (λ (index : Scalar × Operand). is_operand_in_range index.1) indices ≡ true →
      All IsIndexBack indices
  indices_back [] formed has = All-nil IsIndexBack
  indices_back (index ∷ indices) formed has =
      let two = and_parts (is_operand_in_range index.1) (list_all (λ (index : Scalar × Operand). is_operand_in_range index.1) indices) has in
      All-cons IsIndexBack index indices
      (index_back index (All-head (IsIndex places) index indices formed) two.0) (indices_back indices (All-tail (IsIndex places) index indices formed) two.1)

  pub gep_back : (inbounds : Bool) (ty : Ty) (base : Operand) (indices : List (Scalar × Operand)) → FormedInst places (inst.Gep inbounds ty base indices) → is_inst_in_range (inst.Gep inbounds ty base indices) ≡ true →
      (rest : Lexemes) → begins_quietly rest ≡ true →
      gep_at N ((flag_kept inbounds flag.Inbounds (codes "inbounds") ++ (type_kept ty ++ (operand_kept names Ptr base ++ joined (map index_kept indices)))) ++ rest)
      ≡ Some (inst.Gep inbounds ty base indices, length (flag_kept inbounds flag.Inbounds (codes "inbounds") ++ (type_kept ty ++ (operand_kept names Ptr base ++ joined (map index_kept indices)))))
  gep_back inbounds ty base indices formed has rest quiet =
      let front = and_parts (is_type_in_range ty && is_operand_in_range base) (list_all (λ (index : Scalar × Operand). is_operand_in_range index.1) indices) has in
      let two = and_parts (is_type_in_range ty) (is_operand_in_range base) front.0 in
      front_back {Y = Inst} (λ b. true) inbounds_at indexed inbounds (inst.Gep inbounds ty base indices)
      (flag_kept inbounds flag.Inbounds (codes "inbounds")) (type_kept ty ++ (operand_kept names Ptr base ++ written)) rest refl
      (inbounds_back inbounds _ (ap inbounds_at (append_assoc (type_kept ty) (operand_kept names Ptr base ++ written) rest) ∙ no_inbounds ty ((operand_kept names Ptr base ++ written) ++ rest)))
      (joined_back (indexed inbounds) (inst.Gep inbounds ty base indices) (type_kept ty) (operand_kept names Ptr base) written rest
      (then_back {Z = Inst} (made_gep inbounds) (λ ks. then_at (λ ty base. (ty, base)) ks (operand_at N Ptr) (written_type N.env.types ks)) (runs is_integer (typed (operand_at N))) (ty, base) indices
      (type_kept ty ++ operand_kept names Ptr base) written rest
      (then_back {Z = Ty × Operand} (λ ty base. (ty, base)) (written_type N.env.types) (operand_at N Ptr) ty base (type_kept ty) (operand_kept names Ptr base) (written ++ rest)
      (r.types ty formed.0 two.0 (operand_kept names Ptr base ++ (written ++ rest)))
      (r.operands Ptr base formed.1 two.1 (written ++ rest)))
      (runs_back is_integer (typed (operand_at N)) index_kept indices rest (indices_back indices formed.2 front.1) (no_index rest quiet))))
    where
      written : Lexemes
      written = joined (map index_kept indices)

      indexed : Bool → Reading Inst
      indexed b ks = then_at (made_gep b) ks (runs is_integer (typed (operand_at N))) (then_at (λ ty base. (ty, base)) ks (operand_at N Ptr) (written_type N.env.types ks))
