-- Lines are read again: instructions with and without the name of a result, phis and terminators.
use Rattle.std.proofs.Common.{◌≡◌, ◌∙◌, ℕ, true, codes, List, [], ◌∷◌, ◌++◌, length, map, Some, option_map, refl, sym, ap, subst}
use Rattle.std.specs.List.{list_all}
use Rattle.std.proofs.lemmas.Bool.{and_parts}
use Rattle.ir_types.specs.declared.scalar.Scalar.{Scalar}
use Rattle.ir_types.specs.declared.scalar.Scalar.TheVariants.{I1, Ptr}
use Rattle.ir_syntax.specs.declared.constant.Operand.{Operand}
use Rattle.ir_syntax.specs.declared.body.Arg.{Arg}
use Rattle.ir_syntax.specs.declared.body.Inst.{Inst}
use Rattle.ir_syntax.specs.declared.body.Inst.TheVariants as inst
use Rattle.ir_syntax.specs.declared.body.Phi.{Phi}
use Rattle.ir_syntax.specs.declared.body.Term.{Term}
use Rattle.ir_syntax.specs.declared.body.Term.TheVariants as term
use Rattle.ir_syntax.specs.FormedBody.{Places, FormedInst, FormedPhi, FormedTerm}
use Rattle.ir_grammar.specs.declared.shape.Shape.{Shape}
use Rattle.ir_grammar.specs.declared.shape.Shape.TheVariants as is
use Rattle.ir_grammar.specs.declared.shape.Free.TheVariants as free
use Rattle.ir_grammar.specs.declared.shape.Flag.TheVariants as flag
use Rattle.ir_scope.specs.Runs.{behind}
use Rattle.ir_operands.specs.Operands.{Names}
use Rattle.ir_body.specs.Lines.{Line, OfPhi, OfInst, Ends, inst_line, term_line, dropped_or, verb_at, line_at}
use Rattle.ir_writer.specs.Words.{op_text, cast_text, pred_text}
use Rattle.ir_writer.specs.Ranges.{is_operand_in_range, is_inst_in_range, is_phi_in_range, is_term_in_range}
use Rattle.round_trip.proofs.Grammar.Kept.{Lexemes, joined, scalar_kept, type_kept, operand_kept, typed_kept, pair_kept, block_kept_name, align_kept, flag_kept, flags_kept, count_kept, inst_kept, entry_kept, phi_kept, case_kept, term_kept, close_square_kept, named_kept, call_returned_kept, ext_kept, arg_kept, close_paren_kept}
use Rattle.round_trip.proofs.Lines.Words.{one_more, two_more}
use Rattle.round_trip.proofs.Lines.Aligns.{begins_quietly}
use Rattle.round_trip.proofs.Lines.Names.{ReadsBack}
use Rattle.round_trip.proofs.Lines.WholeTypes.{given_kept}
use Rattle.round_trip.proofs.Lines.Instructions.{bin_back, icmp_back, select_back, cast_back, alloca_back, load_back, store_back, gep_back}
use Rattle.round_trip.proofs.Lines.Calls.{call_back}
use Rattle.round_trip.proofs.Lines.Terminators.{phi_read, ret_back, br_back, branch_back, switch_back}

-- A word and what follows it are read as a line.
record IsLine (N : Names) (line : Line) (ks : Lexemes) : Type 0 where
  pub word : Shape
  pub text : List ℕ
  pub tail : Lexemes
  pub stands : ks ≡ (word, text) ∷ tail
  pub unnamed : (rest : Lexemes) → line_at N ((word, text) ∷ rest) ≡ behind 1 (verb_at N word rest)
  pub verb : (rest : Lexemes) → begins_quietly rest ≡ true → verb_at N word (tail ++ rest) ≡ Some (line, length tail)

unnamed_back : (N : Names) (line : Line) (ks : Lexemes) → IsLine N line ks → (rest : Lexemes) → begins_quietly rest ≡ true → line_at N (ks ++ rest) ≡ Some (line, length ks)
unnamed_back N line ks written rest quiet =
    subst (λ qs. line_at N (qs ++ rest) ≡ Some (line, length qs)) (sym written.stands) (written.unnamed (written.tail ++ rest) ∙ one_more line (length written.tail) _ (written.verb rest quiet))

named_back : (N : Names) (line : Line) (ks : Lexemes) → IsLine N line ks → (k : ℕ) (rest : Lexemes) → begins_quietly rest ≡ true → line_at N (named_kept k ks ++ rest) ≡ Some (line, length (named_kept k ks))
named_back N line ks written k rest quiet =
    subst (λ qs. line_at N (named_kept k qs ++ rest) ≡ Some (line, length (named_kept k qs))) (sym written.stands) (two_more line (length written.tail) _ (written.verb rest quiet))

-- ---- what follows a line that is written

-- and before a terminator. (It does before the name of a result, as that computes.)
pub term_quiet : (names : List (List ℕ)) (t : Term) (rest : Lexemes) → begins_quietly (term_kept names t ++ rest) ≡ true
term_quiet names term.RetVoid rest = refl
term_quiet names (term.Ret ty value) rest = refl
term_quiet names (term.Br to) rest = refl
term_quiet names (term.CondBr cond one other) rest = refl
term_quiet names (term.Switch ty value default cases) rest = refl
term_quiet names term.Unreachable rest = refl

module _ (names : List (List ℕ)) (N : Names) (places : Places) (r : ReadsBack names N places) where
  -- ---- instructions

  inst_is : (i : Inst) → FormedInst places i → is_inst_in_range i ≡ true → IsLine N (OfInst i) (inst_kept names i)
  inst_is (inst.Bin op flags ty a b) formed has = record {
    word = is.Bin op;
    text = op_text op;
    tail = flags_kept flags ++ pair_kept names ty a b;
    stands = refl;
    unnamed = λ rest. refl;
    verb = λ rest quiet. ap inst_line (bin_back names N places r op flags ty a b formed has rest);
  }
  inst_is (inst.Icmp pred ty a b) formed has = record {
    word = is.Icmp;
    text = codes "icmp";
    tail = (is.Free (free.Pred pred), pred_text pred) ∷ pair_kept names ty a b;
    stands = refl;
    unnamed = λ rest. refl;
    verb = λ rest quiet. ap inst_line (icmp_back names N places r pred ty a b formed has rest);
  }
  inst_is (inst.Select ty cond a b) formed has = record {
    word = is.Select;
    text = codes "select";
    tail = operand_kept names I1 cond ++ pair_kept names ty a b;
    stands = refl;
    unnamed = λ rest. refl;
    verb = λ rest quiet. ap inst_line (select_back names N places r ty cond a b formed has rest);
  }
  inst_is (inst.Cast op nneg from to a) formed has = record {
    word = is.Cast op;
    text = cast_text op;
    tail = flag_kept nneg flag.Nneg (codes "nneg") ++ (typed_kept names from a ++ scalar_kept to ∷ []);
    stands = refl;
    unnamed = λ rest. refl;
    verb = λ rest quiet. ap inst_line (cast_back names N places r op nneg from to a formed has rest);
  }
  inst_is (inst.Alloca ty count align) formed has = record {
    word = is.Alloca;
    text = codes "alloca";
    tail = type_kept ty ++ (count_kept count ++ align_kept align);
    stands = refl;
    unnamed = λ rest. refl;
    verb = λ rest quiet. ap inst_line (alloca_back names N places r ty count align formed has rest quiet);
  }
  inst_is (inst.Load ty at align) formed has = record {
    word = is.Load;
    text = codes "load";
    tail = scalar_kept ty ∷ (operand_kept names Ptr at ++ align_kept align);
    stands = refl;
    unnamed = λ rest. refl;
    verb = λ rest quiet. ap inst_line (load_back names N places r ty at align formed has rest quiet);
  }
  inst_is (inst.Store ty value at align) formed has = record {
    word = is.Store;
    text = codes "store";
    tail = typed_kept names ty value ++ (operand_kept names Ptr at ++ align_kept align);
    stands = refl;
    unnamed = λ rest. refl;
    verb = λ rest quiet. ap inst_line (store_back names N places r ty value at align formed has rest quiet);
  }
  inst_is (inst.Gep inbounds ty base indices) formed has = record {
    word = is.Gep;
    text = codes "getelementptr";
    tail = flag_kept inbounds flag.Inbounds (codes "inbounds") ++ (type_kept ty ++ (operand_kept names Ptr base ++ joined (map (λ (index : Scalar × Operand). typed_kept names index.0 index.1) indices)));
    stands = refl;
    unnamed = λ rest. refl;
    verb = λ rest quiet. ap inst_line (gep_back names N places r inbounds ty base indices formed has rest quiet);
  }
  inst_is (inst.Call fn_ty ret_ext callee args) formed has =
      let two = and_parts (is_operand_in_range callee) (list_all (λ (arg : Arg). is_operand_in_range arg.value) args) has in
      record {
        word = is.Call;
        text = codes "call";
        tail = ext_kept ret_ext ++ call_returned_kept fn_ty.returns ∷ (given_kept fn_ty args ++ (operand_kept names Ptr callee ++ (joined (map (arg_kept names) args) ++ close_paren_kept ∷ [])));
        stands = refl;
        unnamed = λ rest. refl;
        verb = λ rest quiet. ap (option_map (λ f. (dropped_or f.0, f.1))) (call_back names N places r fn_ty ret_ext callee args formed two.0 two.1 rest);
      }

  -- An instruction is read again behind the name of its result,
  pub inst_back : (i : Inst) → FormedInst places i → is_inst_in_range i ≡ true → (k : ℕ) (rest : Lexemes) → begins_quietly rest ≡ true →
      line_at N (named_kept k (inst_kept names i) ++ rest) ≡ Some (OfInst i, length (named_kept k (inst_kept names i)))
  inst_back i formed has = named_back N (OfInst i) (inst_kept names i) (inst_is i formed has)

  -- and without one.
  pub plain_inst_back : (i : Inst) → FormedInst places i → is_inst_in_range i ≡ true → (rest : Lexemes) → begins_quietly rest ≡ true → line_at N (inst_kept names i ++ rest) ≡ Some (OfInst i, length (inst_kept names i))
  plain_inst_back i formed has = unnamed_back N (OfInst i) (inst_kept names i) (inst_is i formed has)

  -- ---- phis

  pub phi_back : (phi : Phi) → FormedPhi places phi → is_phi_in_range phi ≡ true → (k : ℕ) (rest : Lexemes) → begins_quietly rest ≡ true →
      line_at N (named_kept k (phi_kept names phi) ++ rest) ≡ Some (OfPhi phi, length (named_kept k (phi_kept names phi)))
  phi_back phi formed has = named_back N (OfPhi phi) (phi_kept names phi) record {
    word = is.Phi;
    text = codes "phi";
    tail = scalar_kept phi.ty ∷ joined (map (entry_kept names phi.ty) phi.entries);
    stands = refl;
    unnamed = λ rest. refl;
    verb = λ rest quiet. ap (option_map (λ f. (OfPhi f.0, f.1))) (phi_read names N places r phi formed has rest quiet);
  }

  -- ---- terminators

  term_is : (t : Term) → FormedTerm places t → is_term_in_range t ≡ true → IsLine N (Ends t) (term_kept names t)
  term_is term.RetVoid formed has = record {
    word = is.Ret;
    text = codes "ret";
    tail = (is.Void, codes "void") ∷ [];
    stands = refl;
    unnamed = λ rest. refl;
    verb = λ rest quiet. refl;
  }
  term_is (term.Ret ty value) formed has = record {
    word = is.Ret;
    text = codes "ret";
    tail = typed_kept names ty value;
    stands = refl;
    unnamed = λ rest. refl;
    verb = λ rest quiet. ap term_line (ret_back names N places r ty value formed has rest);
  }
  term_is (term.Br to) formed has = record {
    word = is.Br;
    text = codes "br";
    tail = block_kept_name to ∷ [];
    stands = refl;
    unnamed = λ rest. refl;
    verb = λ rest quiet. ap term_line (br_back names N places r to formed rest);
  }
  term_is (term.CondBr cond one other) formed has = record {
    word = is.Br;
    text = codes "br";
    tail = typed_kept names I1 cond ++ block_kept_name one ∷ block_kept_name other ∷ [];
    stands = refl;
    unnamed = λ rest. refl;
    verb = λ rest quiet. ap term_line (branch_back names N places r cond one other formed has rest);
  }
  term_is (term.Switch ty value default cases) formed has = record {
    word = is.Switch;
    text = codes "switch";
    tail = typed_kept names ty value ++ block_kept_name default ∷ (joined (map (case_kept ty) cases) ++ close_square_kept ∷ []);
    stands = refl;
    unnamed = λ rest. refl;
    verb = λ rest quiet. ap term_line (switch_back names N places r ty value default cases formed has rest);
  }
  term_is term.Unreachable formed has = record {
    word = is.Unreachable;
    text = codes "unreachable";
    tail = [];
    stands = refl;
    unnamed = λ rest. refl;
    verb = λ rest quiet. refl;
  }

  pub term_back : (t : Term) → FormedTerm places t → is_term_in_range t ≡ true → (rest : Lexemes) → begins_quietly rest ≡ true → line_at N (term_kept names t ++ rest) ≡ Some (Ends t, length (term_kept names t))
  term_back t formed has = unnamed_back N (Ends t) (term_kept names t) (term_is t formed has)
