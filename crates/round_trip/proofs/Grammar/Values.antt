-- The grammar takes the tokens of instructions that have a result, other than calls.
use Rattle.std.proofs.Common.{◌≡◌, ◌≢◌, ℕ, ◌==◌, Bool, true, false, List, [], ◌∷◌, ◌++◌, map, Option, Some, None, refl, arith}
use Rattle.std.specs.Prelude.{All, codes, if◌then◌else◌}
use Rattle.std.proofs.lemmas.List.Elements.{All-head, All-tail}
use Rattle.ir_types.specs.declared.scalar.Scalar.{Scalar}
use Rattle.ir_types.specs.declared.scalar.Scalar.TheVariants.{I1, I8, I16, I32, I64, Ptr}
use Rattle.ir_types.specs.declared.scalar.BinOp.{BinOp}
use Rattle.ir_types.specs.declared.scalar.CastOp.{CastOp}
use Rattle.ir_types.specs.declared.scalar.CastOp.TheVariants as cast
use Rattle.ir_types.specs.declared.scalar.Pred.{Pred}
use Rattle.ir_types.specs.declared.scalar.Flags.{Flags}
use Rattle.ir_types.specs.declared.shape.Ty.{Ty}
use Rattle.ir_syntax.specs.declared.constant.Operand.{Operand}
use Rattle.ir_syntax.specs.declared.body.Inst.TheVariants as inst
use Rattle.ir_syntax.specs.FormedBody.{Places, IsOperand, IsAlign, IsIndex, FormedInst}
use Rattle.ir_grammar.specs.declared.shape.Shape.TheVariants as is
use Rattle.ir_grammar.specs.declared.shape.Flag.TheVariants as flag
use Rattle.ir_grammar.specs.declared.grammar.Keep.TheVariants as keep
use Rattle.ir_grammar.specs.declared.grammar.Item.TheVariants as item
use Rattle.ir_grammar.specs.declared.grammar.Name.TheVariants as the
use Rattle.ir_grammar.specs.Items as grammar
use Rattle.ir_grammar.specs.Mirrors.Walk.{Taken, settle}
use Rattle.ir_grammar.specs.Constants.{address_flags}
use Rattle.ir_writer.specs.Words.{Parts, scalar, said, space, word, comma, more}
use Rattle.ir_writer.specs.Constants.{type_parts, integer}
use Rattle.ir_writer.specs.Instructions.{typed, align_parts, count_parts, inst_parts}
use Rattle.ir_writer.specs.Ranges.{is_type_in_range}
use Rattle.round_trip.proofs.Grammar.Kept.{Lexemes, joined, scalar_kept, type_kept, integer_kept, typed_kept, align_kept, flag_kept, count_kept, inst_kept}
use Rattle.round_trip.proofs.Grammar.Parts.{Through, nothing, spaced, keeps, drops, then_on, Begins, begun, Said}
use Rattle.round_trip.proofs.Grammar.Words.{scalar_shape, pred_shape}
use Rattle.round_trip.proofs.Grammar.Digits.{power_taken}
use Rattle.round_trip.proofs.Grammar.Types.{type_through}
use Rattle.round_trip.proofs.Grammar.Singles.{count_through}
use Rattle.round_trip.proofs.Grammar.Quiet.{past_attachments, past_alloca_part, past_indices}
use Rattle.round_trip.proofs.Grammar.Operands.{AreNames, operand_through, pair_through, align_said}
use Rattle.round_trip.proofs.Grammar.Flags.{nneg_through, bin_through}
use Rattle.round_trip.proofs.Grammar.Walking.{Items}

-- ---- counts, flags and types

-- A count is written as `i64 n`, unless it is 1.
counted_said : (count : ℕ) (align : Option ℕ) → IsAlign align → (others : Items) → Said (item.May the.AllocaPart ∷ others) (count_parts count ++ align_parts align) (count_kept count ++ align_kept align) others
counted_said count align formed others = by_test (count == 1)
  where
    alone : (align : Option ℕ) → IsAlign align → Said (item.May the.AllocaPart ∷ others) (align_parts align) (align_kept align) others
    alone None formed = record { left = item.May the.AllocaPart ∷ others; through = nothing (item.May the.AllocaPart ∷ others); quiet = past_alloca_part others }
    alone (Some exponent) formed = record {
      left = item.Many the.CommaAttachment ∷ others;
      through = drops refl refl refl (spaced (drops refl refl refl (spaced (keeps refl refl (power_taken exponent (item.Many the.CommaAttachment ∷ others) formed) (nothing (item.Many the.CommaAttachment ∷ others))))));
      quiet = past_attachments others;
    }

    by_test : (b : Bool) → Said (item.May the.AllocaPart ∷ others) ((if b then [] else (comma ∷ space ∷ scalar I64 ∷ space ∷ integer I64 count ∷ [])) ++ align_parts align) ((if b then [] else (scalar_kept I64 ∷ integer_kept I64 count ∷ [])) ++ align_kept align) others
    by_test true = alone align formed
    by_test false =
        let behind = align_said align formed others in
        record {
          left = behind.left;
          through = drops refl refl refl (spaced (keeps refl refl refl (spaced (then_on (count_through I64 count (item.May the.AlignPart ∷ others)) behind.through))));
          quiet = behind.quiet;
        }

unflagged_begins : (next : Items) → Begins (item.One the.Type ∷ next) (address_flags ∷ item.One the.Type ∷ next)
unflagged_begins next (is.Free free) kept_as after e = cc
unflagged_begins next _ kept_as after e = e

flagged_begins : (next : Items) → Begins (item.One the.Type ∷ next) (grammar.flags None (grammar.dropped_flag flag.Nusw) (grammar.dropped_flag flag.Nuw) ∷ item.One the.Type ∷ next)
flagged_begins next (is.Free free) kept_as after e = cc
flagged_begins next _ kept_as after e = e

-- [inbounds] and a type, and what stands behind them
inbounds_through : (inbounds : Bool) (ty : Ty) → is_type_in_range ty ≡ true → (rest : Parts) (kept : Lexemes) (next left : Items) → Through next rest kept left →
    Through (address_flags ∷ item.One the.Type ∷ next) (said inbounds (codes "inbounds") ++ (type_parts ty ++ rest)) (flag_kept inbounds flag.Inbounds (codes "inbounds") ++ (type_kept ty ++ kept)) left
inbounds_through true ty range rest kept next left h = keeps refl refl refl (spaced (then_on (begun (omega arith) (flagged_begins next) (type_through ty range next)) h))
inbounds_through false ty range rest kept next left h = then_on (begun (omega arith) (unflagged_begins next) (type_through ty range next)) h

-- two values of a select, of one type
arms_taken : (ty : Scalar) (next : Items) →
    settle (is.Scalar ty) (item.One the.SelectArms ∷ next) ≡ Taken keep.Keeps (item.One the.Operand ∷ grammar.comma ∷ grammar.dropped (is.Scalar ty) ∷ item.One the.Operand ∷ next)
arms_taken I1 next = refl
arms_taken I8 next = refl
arms_taken I16 next = refl
arms_taken I32 next = refl
arms_taken I64 next = refl
arms_taken Ptr next = refl

other_taken : (ty : Scalar) (next : Items) → settle (is.Scalar ty) (grammar.dropped (is.Scalar ty) ∷ next) ≡ Taken keep.Drops next
other_taken I1 next = refl
other_taken I8 next = refl
other_taken I16 next = refl
other_taken I32 next = refl
other_taken I64 next = refl
other_taken Ptr next = refl

-- an index is of an integer type
index_taken : (ty : Scalar) → ty ≢ Ptr → (next : Items) → settle (is.Scalar ty) (item.One the.IndexOrAttachment ∷ next) ≡ Taken keep.Keeps (item.One the.Operand ∷ item.May the.IndexPart ∷ next)
index_taken I1 integer next = refl
index_taken I8 integer next = refl
index_taken I16 integer next = refl
index_taken I32 integer next = refl
index_taken I64 integer next = refl
index_taken Ptr integer next = absurd (integer refl)

-- ---- instructions

module _ (names : List (List ℕ)) (are : AreNames names) (places : Places) where
  pub bin_said : (op : BinOp) (flags : Flags) (ty : Scalar) (a b : Operand) → FormedInst places (inst.Bin op flags ty a b) → (next : Items) →
      Said (item.One (the.NamedLine false) ∷ next) (inst_parts names (inst.Bin op flags ty a b)) (inst_kept names (inst.Bin op flags ty a b)) (item.One (the.Lines false) ∷ next)
  bin_said op flags ty a b formed next = record {
    left = item.Many the.CommaAttachment ∷ item.One (the.Lines false) ∷ next;
    through = bin_through op flags formed.0 ty _ _ next (item.Many the.CommaAttachment ∷ item.One (the.Lines false) ∷ next) (pair_through names are places ty a b formed.1 formed.2 (item.Many the.CommaAttachment ∷ item.One (the.Lines false) ∷ next));
    quiet = past_attachments (item.One (the.Lines false) ∷ next);
  }

  pub icmp_said : (pred : Pred) (ty : Scalar) (a b : Operand) → FormedInst places (inst.Icmp pred ty a b) → (next : Items) →
      Said (item.One (the.NamedLine false) ∷ next) (inst_parts names (inst.Icmp pred ty a b)) (inst_kept names (inst.Icmp pred ty a b)) (item.One (the.Lines false) ∷ next)
  icmp_said pred ty a b formed next = record {
    left = item.Many the.CommaAttachment ∷ item.One (the.Lines false) ∷ next;
    through = keeps refl refl refl (spaced (keeps (pred_shape pred) refl refl (spaced (pair_through names are places ty a b formed.0 formed.1 (item.Many the.CommaAttachment ∷ item.One (the.Lines false) ∷ next)))));
    quiet = past_attachments (item.One (the.Lines false) ∷ next);
  }

  pub select_said : (ty : Scalar) (cond a b : Operand) → FormedInst places (inst.Select ty cond a b) → (next : Items) →
      Said (item.One (the.NamedLine false) ∷ next) (inst_parts names (inst.Select ty cond a b)) (inst_kept names (inst.Select ty cond a b)) (item.One (the.Lines false) ∷ next)
  select_said ty cond a b formed next =
      let last = item.Many the.CommaAttachment ∷ item.One (the.Lines false) ∷ next in
      record {
        left = last;
        through =
            keeps refl refl refl
            (spaced (drops refl refl refl
            (spaced (then_on (operand_through names are places I1 cond formed.0 (grammar.comma ∷ item.One the.SelectArms ∷ last))
            (drops refl refl refl
            (spaced (keeps (scalar_shape ty) refl (arms_taken ty last)
            (spaced (then_on (operand_through names are places ty a formed.1 (grammar.comma ∷ grammar.dropped (is.Scalar ty) ∷ item.One the.Operand ∷ last))
            (drops refl refl refl (spaced (drops (scalar_shape ty) refl (other_taken ty (item.One the.Operand ∷ last)) (spaced (operand_through names are places ty b formed.2 last))))))))))))));
        quiet = past_attachments (item.One (the.Lines false) ∷ next);
      }

  -- T a to T
  to_through : (from to : Scalar) (a : Operand) → IsOperand places from a → (next : Items) →
      Through (grammar.a_scalar ∷ item.One the.Operand ∷ grammar.dropped is.To ∷ grammar.a_scalar ∷ next) (typed names from a ++ space ∷ word (codes "to") ∷ space ∷ scalar to ∷ []) (typed_kept names from a ++ scalar_kept to ∷ []) next
  to_through from to a formed next =
      keeps (scalar_shape from) refl refl
      (spaced (then_on (operand_through names are places from a formed (grammar.dropped is.To ∷ grammar.a_scalar ∷ next)) (spaced (drops refl refl refl (spaced (keeps (scalar_shape to) refl refl (nothing next)))))))

  pub cast_through : (op : CastOp) (nneg : Bool) (from to : Scalar) (a : Operand) → FormedInst places (inst.Cast op nneg from to a) → (next : Items) →
      Through (item.One (the.NamedLine false) ∷ next) (inst_parts names (inst.Cast op nneg from to a)) (inst_kept names (inst.Cast op nneg from to a)) (item.Many the.CommaAttachment ∷ item.One (the.Lines false) ∷ next)
  cast_through cast.Zext nneg from to a formed next =
      keeps refl refl refl (spaced (nneg_through from _ _ _ (item.Many the.CommaAttachment ∷ item.One (the.Lines false) ∷ next) (to_through from to a formed.1 (item.Many the.CommaAttachment ∷ item.One (the.Lines false) ∷ next)) nneg))
  cast_through cast.Sext false from to a formed next = keeps refl refl refl (spaced (to_through from to a formed.1 (item.Many the.CommaAttachment ∷ item.One (the.Lines false) ∷ next)))
  cast_through cast.Sext true from to a formed next = absurd (let e : cast.Sext ≡ cast.Zext = formed.0 refl in cc)
  cast_through cast.Trunc false from to a formed next = keeps refl refl refl (spaced (to_through from to a formed.1 (item.Many the.CommaAttachment ∷ item.One (the.Lines false) ∷ next)))
  cast_through cast.Trunc true from to a formed next = absurd (let e : cast.Trunc ≡ cast.Zext = formed.0 refl in cc)

  pub alloca_said : (ty : Ty) (count : ℕ) (align : Option ℕ) → is_type_in_range ty ≡ true → IsAlign align → (next : Items) →
      Said (item.One (the.NamedLine false) ∷ next) (inst_parts names (inst.Alloca ty count align)) (inst_kept names (inst.Alloca ty count align)) (item.One (the.Lines false) ∷ next)
  alloca_said ty count align range formed next =
      let behind = counted_said count align formed (item.One (the.Lines false) ∷ next) in
      record { left = behind.left; through = keeps refl refl refl (spaced (then_on (type_through ty range (item.May the.AllocaPart ∷ item.One (the.Lines false) ∷ next)) behind.through)); quiet = behind.quiet }

  pub load_said : (ty : Scalar) (at : Operand) (align : Option ℕ) → FormedInst places (inst.Load ty at align) → (next : Items) →
      Said (item.One (the.NamedLine false) ∷ next) (inst_parts names (inst.Load ty at align)) (inst_kept names (inst.Load ty at align)) (item.One (the.Lines false) ∷ next)
  load_said ty at align formed next =
      let behind = align_said align formed.1 (item.One (the.Lines false) ∷ next) in
      record {
        left = behind.left;
        through =
            keeps refl refl refl
            (spaced (keeps (scalar_shape ty) refl refl
            (drops refl refl refl (spaced (drops refl refl refl (spaced (then_on (operand_through names are places Ptr at formed.0 (item.May the.AlignPart ∷ item.One (the.Lines false) ∷ next)) behind.through)))))));
        quiet = behind.quiet;
      }

  indices_through : (indices : List (Scalar × Operand)) → All (IsIndex places) indices → (next : Items) →
      Through (item.May the.IndexPart ∷ next) (more (map (λ (index : Scalar × Operand). typed names index.0 index.1) indices)) (joined (map (λ (index : Scalar × Operand). typed_kept names index.0 index.1) indices)) (item.May the.IndexPart ∷ next)
  indices_through [] formed next = nothing (item.May the.IndexPart ∷ next)
  indices_through (index ∷ indices) formed next =
      let first = All-head (IsIndex places) index indices formed in
      drops refl refl refl
      (spaced (keeps (scalar_shape index.0) refl (index_taken index.0 first.0 next)
      (spaced (then_on (operand_through names are places index.0 index.1 first.1 (item.May the.IndexPart ∷ next)) (indices_through indices (All-tail (IsIndex places) index indices formed) next)))))

  pub gep_said : (inbounds : Bool) (ty : Ty) (base : Operand) (indices : List (Scalar × Operand)) → is_type_in_range ty ≡ true → FormedInst places (inst.Gep inbounds ty base indices) → (next : Items) →
      Said (item.One (the.NamedLine false) ∷ next) (inst_parts names (inst.Gep inbounds ty base indices)) (inst_kept names (inst.Gep inbounds ty base indices)) (item.One (the.Lines false) ∷ next)
  gep_said inbounds ty base indices range formed next =
      let last = item.May the.IndexPart ∷ item.One (the.Lines false) ∷ next in
      let behind = then_on (operand_through names are places Ptr base formed.1 last) (indices_through indices formed.2 (item.One (the.Lines false) ∷ next)) in
      record { left = last; through = keeps refl refl refl (spaced (inbounds_through inbounds ty range _ _ _ last (drops refl refl refl (spaced (drops refl refl refl (spaced behind)))))); quiet = past_indices (item.One (the.Lines false) ∷ next) }
