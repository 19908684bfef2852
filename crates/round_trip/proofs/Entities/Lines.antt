-- The grammar takes the lines of a block behind its label.
use Rattle.std.proofs.Common.{◌≡◌, ◌∙◌, ℕ, suc, Bool, true, false, cond, is_some, List, [], ◌∷◌, ◌++◌, All, refl, sym, ap, subst, append_assoc}
use Rattle.std.proofs.lemmas.List.Elements.{All-head, All-tail}
use Rattle.ir_types.specs.declared.scalar.BinOp.{BinOp}
use Rattle.ir_types.specs.declared.scalar.BinOp.TheVariants as op
use Rattle.ir_types.specs.declared.scalar.CastOp.{CastOp}
use Rattle.ir_types.specs.declared.scalar.CastOp.TheVariants as cast
use Rattle.ir_lexer.specs.declared.token.Kind.TheVariants as kind
use Rattle.ir_lexer.specs.Written.{spellings_of}
use Rattle.ir_syntax.specs.Results.{result_type}
use Rattle.ir_syntax.specs.declared.body.Phi.{Phi}
use Rattle.ir_syntax.specs.declared.body.Inst.{Inst}
use Rattle.ir_syntax.specs.declared.body.Inst.TheVariants as inst
use Rattle.ir_syntax.specs.declared.body.Term.{Term}
use Rattle.ir_syntax.specs.declared.body.Term.TheVariants as term
use Rattle.ir_grammar.specs.declared.shape.Shape.TheVariants as is
use Rattle.ir_grammar.specs.declared.grammar.Keep.TheVariants as keep
use Rattle.ir_grammar.specs.declared.grammar.Item.TheVariants as item
use Rattle.ir_grammar.specs.declared.grammar.Name.TheVariants as the
use Rattle.ir_grammar.specs.Words.{word_shape}
use Rattle.ir_grammar.specs.Tokens.{Piece}
use Rattle.ir_grammar.specs.Mirrors.Walk.{settle}
use Rattle.ir_writer.specs.Words.{Parts, op_text, cast_text}
use Rattle.ir_writer.specs.Instructions.{result_text, inst_parts, phi_parts, term_parts, line, named, phi_lines, inst_lines}
use Rattle.round_trip.proofs.Grammar.Kept.{Lexemes, inst_kept, phi_kept, term_kept, named_kept, phi_lines_kept, inst_lines_kept}
use Rattle.round_trip.proofs.Grammar.Walking.{goes, Takes, Items}
use Rattle.round_trip.proofs.Grammar.Goes.{takes_then_takes, is_quiet_or_none}
use Rattle.round_trip.proofs.Entities.Steps.{taken, goes_alike, takes_alike, spelled_line, spelled_behind_line}

-- ---- what the items do at the lines, which is shown elsewhere

-- the phi, behind its name
abbrev pub PhiGoes : List (List ℕ) → Phi → Type 0
PhiGoes names phi = (next : Items) → Takes (item.One (the.NamedLine true) ∷ next) (spellings_of (phi_parts names phi)) (phi_kept names phi) (item.One (the.Lines true) ∷ next)

-- an instruction, behind the name of its result
abbrev pub ValueGoes : List (List ℕ) → Inst → Type 0
ValueGoes names i = (next : Items) → Takes (item.One (the.NamedLine false) ∷ next) (spellings_of (inst_parts names i)) (inst_kept names i) (item.One (the.Lines false) ∷ next)

-- an instruction that has no result, where phis may stand or none may
abbrev pub EffectGoes : List (List ℕ) → Inst → Type 0
EffectGoes names i = (phis : Bool) (next : Items) → Takes (item.One (the.Lines phis) ∷ next) (spellings_of (inst_parts names i)) (inst_kept names i) (item.One (the.Lines false) ∷ next)

pub record InstGoes (names : List (List ℕ)) (i : Inst) : Type 0 where
  pub value : is_some (result_type i) ≡ true → ValueGoes names i
  pub effect : is_some (result_type i) ≡ false → EffectGoes names i

abbrev pub TermGoes : List (List ℕ) → Term → Type 0
TermGoes names t = (next : Items) → Takes (item.One (the.Lines false) ∷ next) (spellings_of (term_parts names t)) (term_kept names t) next

-- ---- first words

op_shape : (o : BinOp) → word_shape (op_text o) ≡ is.Bin o
op_shape op.Add = refl
op_shape op.Sub = refl
op_shape op.Mul = refl
op_shape op.Udiv = refl
op_shape op.Sdiv = refl
op_shape op.Urem = refl
op_shape op.Srem = refl
op_shape op.Shl = refl
op_shape op.Lshr = refl
op_shape op.Ashr = refl
op_shape op.And = refl
op_shape op.Or = refl
op_shape op.Xor = refl

cast_shape : (o : CastOp) → word_shape (cast_text o) ≡ is.Cast o
cast_shape cast.Zext = refl
cast_shape cast.Sext = refl
cast_shape cast.Trunc = refl

-- where a phi may stand, another instruction is taken too
value_first : (names : List (List ℕ)) (i : Inst) (next : Items) → is_some (result_type i) ≡ true → goes (item.One (the.NamedLine true) ∷ next) (spellings_of (inst_parts names i)) ≡ goes (item.One (the.NamedLine false) ∷ next) (spellings_of (inst_parts names i))
value_first names (inst.Bin o flags ty a b) next some =
    goes_alike (item.One (the.NamedLine true) ∷ next) (item.One (the.NamedLine false) ∷ next) (kind.Word, op_text o) _
    (ap (λ at. settle at (item.One (the.NamedLine true) ∷ next)) (op_shape o) ∙ sym (ap (λ at. settle at (item.One (the.NamedLine false) ∷ next)) (op_shape o)))
value_first names (inst.Icmp pred ty a b) next some = refl
value_first names (inst.Select ty c a b) next some = refl
value_first names (inst.Cast o nneg from to a) next some =
    goes_alike (item.One (the.NamedLine true) ∷ next) (item.One (the.NamedLine false) ∷ next) (kind.Word, cast_text o) _
    (ap (λ at. settle at (item.One (the.NamedLine true) ∷ next)) (cast_shape o) ∙ sym (ap (λ at. settle at (item.One (the.NamedLine false) ∷ next)) (cast_shape o)))
value_first names (inst.Alloca ty count align) next some = refl
value_first names (inst.Load ty at align) next some = refl
value_first names (inst.Store ty value at align) next some = cc
value_first names (inst.Gep inbounds ty base indices) next some = refl
value_first names (inst.Call fn_ty ret_ext callee args) next some = refl

term_first : (names : List (List ℕ)) (t : Term) (next : Items) → goes (item.One (the.Lines true) ∷ next) (spellings_of (term_parts names t)) ≡ goes (item.One (the.Lines false) ∷ next) (spellings_of (term_parts names t))
term_first names term.RetVoid next = refl
term_first names (term.Ret ty value) next = refl
term_first names (term.Br to) next = refl
term_first names (term.CondBr c one other) next = refl
term_first names (term.Switch ty value default cases) next = refl
term_first names term.Unreachable next = refl

-- the first token of a line is quiet
effect_quiet : (names : List (List ℕ)) (i : Inst) (rest : List Piece) → is_some (result_type i) ≡ false → is_quiet_or_none (spellings_of (inst_parts names i) ++ rest) ≡ true
effect_quiet names (inst.Bin o flags ty a b) rest none = cc
effect_quiet names (inst.Icmp pred ty a b) rest none = cc
effect_quiet names (inst.Select ty c a b) rest none = cc
effect_quiet names (inst.Cast o nneg from to a) rest none = cc
effect_quiet names (inst.Alloca ty count align) rest none = cc
effect_quiet names (inst.Load ty at align) rest none = cc
effect_quiet names (inst.Store ty value at align) rest none = refl
effect_quiet names (inst.Gep inbounds ty base indices) rest none = cc
effect_quiet names (inst.Call fn_ty ret_ext callee args) rest none = refl

term_quiet : (names : List (List ℕ)) (t : Term) → is_quiet_or_none (spellings_of (term_parts names t)) ≡ true
term_quiet names term.RetVoid = refl
term_quiet names (term.Ret ty value) = refl
term_quiet names (term.Br to) = refl
term_quiet names (term.CondBr c one other) = refl
term_quiet names (term.Switch ty value default cases) = refl
term_quiet names term.Unreachable = refl

-- ---- names of results

-- %v =, where no phi may stand
named_value : (k : ℕ) (pieces : List Piece) (kept : Lexemes) (next last : Items) → Takes (item.One (the.NamedLine false) ∷ next) pieces kept last →
    Takes (item.One (the.Lines false) ∷ next) ((kind.LocalName, result_text k) ∷ (kind.Mark, 61 ∷ []) ∷ pieces) (named_kept k kept) last
named_value k pieces kept next last t = record { left = t.left; gone = ap (λ gone. taken keep.AsResult is.Local (result_text k) (taken keep.Drops is.Equals (61 ∷ []) gone)) t.gone; quiet = t.quiet }

-- and where one may
named_phi : (k : ℕ) (pieces : List Piece) (kept : Lexemes) (next last : Items) → Takes (item.One (the.NamedLine true) ∷ next) pieces kept last →
    Takes (item.One (the.Lines true) ∷ next) ((kind.LocalName, result_text k) ∷ (kind.Mark, 61 ∷ []) ∷ pieces) (named_kept k kept) last
named_phi k pieces kept next last t = record { left = t.left; gone = ap (λ gone. taken keep.AsResult is.Local (result_text k) (taken keep.Drops is.Equals (61 ∷ []) gone)) t.gone; quiet = t.quiet }

-- ---- instructions and the terminator

-- a test that is known
at_test : (P : Bool → Type 0) (b : Bool) → (b ≡ true → P true) → (b ≡ false → P false) → P b
at_test P true passes fails = passes refl
at_test P false passes fails = fails refl

-- what is taken, said otherwise
taken_so : (items last : Items) (pieces others : List Piece) (kept same : Lexemes) → pieces ≡ others → kept ≡ same → Takes items pieces kept last → Takes items others same last
taken_so items last pieces others kept same e f t = subst (λ ks. Takes items others ks last) f (subst (λ ps. Takes items ps kept last) e t)

-- a line, others and the rest
spelled_first : (parts lines rest : Parts) → spellings_of ((line parts ++ lines) ++ rest) ≡ spellings_of parts ++ spellings_of (lines ++ rest)
spelled_first parts lines rest = ap spellings_of (append_assoc (line parts) lines rest) ∙ spelled_behind_line parts (lines ++ rest)

module _ (names : List (List ℕ)) (t : Term) (next : Items) where
  abbrev last_line : Parts
  last_line = line (term_parts names t)

  abbrev choice : Bool → ℕ → Inst → List Inst → Parts
  choice b k i insts = cond b (line (named k (inst_parts names i)) ++ inst_lines names (suc k) insts) (line (inst_parts names i) ++ inst_lines names k insts)

  abbrev kept_choice : Bool → ℕ → Inst → List Inst → Lexemes
  kept_choice b k i insts = cond b (named_kept k (inst_kept names i) ++ inst_lines_kept names (suc k) insts) (inst_kept names i ++ inst_lines_kept names k insts)

  insts_quiet : (k : ℕ) (insts : List Inst) → is_quiet_or_none (spellings_of (inst_lines names k insts ++ last_line)) ≡ true
  insts_quiet k [] = ap is_quiet_or_none (spelled_line (term_parts names t)) ∙ term_quiet names t
  insts_quiet k (i ∷ insts) = at_test (λ b. is_quiet_or_none (spellings_of (choice b k i insts ++ last_line)) ≡ true) (is_some (result_type i))
      (λ some. refl)
      (λ none. ap is_quiet_or_none (spelled_first (inst_parts names i) (inst_lines names k insts) last_line) ∙ effect_quiet names i (spellings_of (inst_lines names k insts ++ last_line)) none)

  -- Behind a first line stand others.
  with_value : (k : ℕ) (i : Inst) (insts : List Inst) (items : Items) →
      Takes items ((kind.LocalName, result_text k) ∷ (kind.Mark, 61 ∷ []) ∷ spellings_of (inst_parts names i)) (named_kept k (inst_kept names i)) (item.One (the.Lines false) ∷ next) →
      Takes (item.One (the.Lines false) ∷ next) (spellings_of (inst_lines names (suc k) insts ++ last_line)) (inst_lines_kept names (suc k) insts ++ term_kept names t) next →
      Takes items (spellings_of (choice true k i insts ++ last_line)) (kept_choice true k i insts ++ term_kept names t) next
  with_value k i insts items one more =
      taken_so items next _ _ _ _
      (sym (spelled_first (named k (inst_parts names i)) (inst_lines names (suc k) insts) last_line))
      (sym (append_assoc (named_kept k (inst_kept names i)) (inst_lines_kept names (suc k) insts) (term_kept names t)))
      (takes_then_takes items (item.One (the.Lines false) ∷ next) next _ _ _ _ one (insts_quiet (suc k) insts) more)

  with_effect : (k : ℕ) (i : Inst) (insts : List Inst) (items : Items) →
      Takes items (spellings_of (inst_parts names i)) (inst_kept names i) (item.One (the.Lines false) ∷ next) →
      Takes (item.One (the.Lines false) ∷ next) (spellings_of (inst_lines names k insts ++ last_line)) (inst_lines_kept names k insts ++ term_kept names t) next →
      Takes items (spellings_of (choice false k i insts ++ last_line)) (kept_choice false k i insts ++ term_kept names t) next
  with_effect k i insts items one more =
      taken_so items next _ _ _ _
      (sym (spelled_first (inst_parts names i) (inst_lines names k insts) last_line))
      (sym (append_assoc (inst_kept names i) (inst_lines_kept names k insts) (term_kept names t)))
      (takes_then_takes items (item.One (the.Lines false) ∷ next) next _ _ _ _ one (insts_quiet k insts) more)

  last_goes : (items : Items) → Takes items (spellings_of (term_parts names t)) (term_kept names t) next →
      Takes items (spellings_of last_line) (term_kept names t) next
  last_goes items one = taken_so items next _ _ (term_kept names t) (term_kept names t) (sym (spelled_line (term_parts names t))) refl one

  module _ (ends : TermGoes names t) where
    -- where no phi may stand
    insts_from : (k : ℕ) (insts : List Inst) → All (InstGoes names) insts →
        Takes (item.One (the.Lines false) ∷ next) (spellings_of (inst_lines names k insts ++ last_line)) (inst_lines_kept names k insts ++ term_kept names t) next
    insts_from k [] all = last_goes (item.One (the.Lines false) ∷ next) (ends next)
    insts_from k (i ∷ insts) all =
        let here = All-head (InstGoes names) i insts all in
        let behind = All-tail (InstGoes names) i insts all in
        at_test (λ b. Takes (item.One (the.Lines false) ∷ next) (spellings_of (choice b k i insts ++ last_line)) (kept_choice b k i insts ++ term_kept names t) next) (is_some (result_type i))
        (λ some. with_value k i insts (item.One (the.Lines false) ∷ next) (named_value k (spellings_of (inst_parts names i)) (inst_kept names i) next (item.One (the.Lines false) ∷ next) (here.value some next)) (insts_from (suc k) insts behind))
        (λ none. with_effect k i insts (item.One (the.Lines false) ∷ next) (here.effect none false next) (insts_from k insts behind))

    -- where phis may stand
    insts_first : (k : ℕ) (insts : List Inst) → All (InstGoes names) insts →
        Takes (item.One (the.Lines true) ∷ next) (spellings_of (inst_lines names k insts ++ last_line)) (inst_lines_kept names k insts ++ term_kept names t) next
    insts_first k [] all =
        last_goes (item.One (the.Lines true) ∷ next)
        (takes_alike (item.One (the.Lines true) ∷ next) (item.One (the.Lines false) ∷ next) next (spellings_of (term_parts names t)) (term_kept names t) (term_first names t next) (ends next))
    insts_first k (i ∷ insts) all =
        let here = All-head (InstGoes names) i insts all in
        let behind = All-tail (InstGoes names) i insts all in
        at_test (λ b. Takes (item.One (the.Lines true) ∷ next) (spellings_of (choice b k i insts ++ last_line)) (kept_choice b k i insts ++ term_kept names t) next) (is_some (result_type i))
        (λ some. with_value k i insts (item.One (the.Lines true) ∷ next)
        (named_phi k (spellings_of (inst_parts names i)) (inst_kept names i) next (item.One (the.Lines false) ∷ next)
        (takes_alike (item.One (the.NamedLine true) ∷ next) (item.One (the.NamedLine false) ∷ next) (item.One (the.Lines false) ∷ next) (spellings_of (inst_parts names i)) (inst_kept names i) (value_first names i next some) (here.value some next)))
        (insts_from (suc k) insts behind))
        (λ none. with_effect k i insts (item.One (the.Lines true) ∷ next) (here.effect none true next) (insts_from k insts behind))

-- ---- phis

phis_quiet : (names : List (List ℕ)) (k : ℕ) (phis : List Phi) (rest : Parts) → is_quiet_or_none (spellings_of rest) ≡ true → is_quiet_or_none (spellings_of (phi_lines names k phis ++ rest)) ≡ true
phis_quiet names k [] rest quiet = quiet
phis_quiet names k (phi ∷ phis) rest quiet = refl

phis_from : (names : List (List ℕ)) (k : ℕ) (phis : List Phi) (rest : Parts) (more : Lexemes) (next last : Items) → All (PhiGoes names) phis →
    is_quiet_or_none (spellings_of rest) ≡ true → Takes (item.One (the.Lines true) ∷ next) (spellings_of rest) more last →
    Takes (item.One (the.Lines true) ∷ next) (spellings_of (phi_lines names k phis ++ rest)) (phi_lines_kept names k phis ++ more) last
phis_from names k [] rest more next last all quiet t = t
phis_from names k (phi ∷ phis) rest more next last all quiet t =
    taken_so (item.One (the.Lines true) ∷ next) last _ _ _ _
    (sym (spelled_first (named k (phi_parts names phi)) (phi_lines names (suc k) phis) rest))
    (sym (append_assoc (named_kept k (phi_kept names phi)) (phi_lines_kept names (suc k) phis) more))
    (takes_then_takes (item.One (the.Lines true) ∷ next) (item.One (the.Lines true) ∷ next) last _ _ _ _
    (named_phi k (spellings_of (phi_parts names phi)) (phi_kept names phi) next (item.One (the.Lines true) ∷ next) (All-head (PhiGoes names) phi phis all next))
    (phis_quiet names (suc k) phis rest quiet)
    (phis_from names (suc k) phis rest more next last (All-tail (PhiGoes names) phi phis all) quiet t))

-- Behind the label: phis, then instructions, and the terminator.
pub lines_go : (names : List (List ℕ)) (k j : ℕ) (phis : List Phi) (insts : List Inst) (t : Term) (next : Items) → All (PhiGoes names) phis → All (InstGoes names) insts → TermGoes names t →
    Takes (item.One (the.Lines true) ∷ next) (spellings_of (phi_lines names k phis ++ (inst_lines names j insts ++ line (term_parts names t)))) (phi_lines_kept names k phis ++ (inst_lines_kept names j insts ++ term_kept names t)) next
lines_go names k j phis insts t next all_phis all_insts ends =
    phis_from names k phis (inst_lines names j insts ++ line (term_parts names t)) (inst_lines_kept names j insts ++ term_kept names t) next next all_phis
    (insts_quiet names t next j insts) (insts_first names t next ends j insts all_insts)
