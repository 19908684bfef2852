-- The lines of a written body are read one after another.
use Rattle.std.proofs.Common.{◌≡◌, ◌∙◌, ℕ, suc, ◌+◌, ◌<◌, Bool, true, false, not, cond, is_some, List, [], ◌∷◌, ◌++◌, length, map, flat_map, drop, codes, Option, Some, None, option_map, refl, sym, ap, arith, append_assoc, length-append, drop_at}
use Rattle.std.specs.Prelude.{All}
use Rattle.std.specs.Fmt.{decimal}
use Rattle.std.proofs.lemmas.List.{append-nil}
use Rattle.std.proofs.lemmas.List.Elements.{All-head, All-tail}
use Rattle.std.proofs.lemmas.Bool.{cond-true}
use Rattle.ir_types.specs.declared.scalar.Scalar.{Scalar}
use Rattle.ir_syntax.specs.declared.body.Phi.{Phi}
use Rattle.ir_syntax.specs.declared.body.Inst.{Inst}
use Rattle.ir_syntax.specs.declared.body.Inst.TheVariants as inst
use Rattle.ir_syntax.specs.declared.body.Term.{Term}
use Rattle.ir_syntax.specs.declared.body.Term.TheVariants as term
use Rattle.ir_syntax.specs.declared.body.Block.{Block}
use Rattle.ir_syntax.specs.Results.{result_type, block_results}
use Rattle.ir_grammar.specs.declared.shape.Shape.{Shape}
use Rattle.ir_grammar.specs.declared.shape.Shape.TheVariants as is
use Rattle.ir_grammar.specs.Tokens.{Kept}
use Rattle.ir_scope.specs.Runs.{runs, begins_with, closed_by}
use Rattle.ir_scope.specs.Types.{is_close_brace}
use Rattle.ir_scope.proofs.Runs.{runs-step}
use Rattle.ir_operands.specs.Operands.{Names}
use Rattle.ir_body.specs.Lines.{Line, Labelled, OfPhi, OfInst, Ends, line_at}
use Rattle.ir_body.specs.Bodies.{lines_at}
use Rattle.round_trip.proofs.Grammar.Kept.{close_brace_kept, inst_kept, phi_kept, term_kept, named_kept, phi_lines_kept, inst_lines_kept, block_kept, blocks_kept}

-- a shape that begins a line or ends a body
abbrev pub opens_line : Shape → Bool
opens_line is.Label = true
opens_line is.Result = true
opens_line is.Store = true
opens_line is.Call = true
opens_line is.Ret = true
opens_line is.Br = true
opens_line is.Switch = true
opens_line is.Unreachable = true
opens_line is.CloseBrace = true
opens_line _ = false

-- The lexemes are read as this line, whatever line or closing brace follows.
abbrev pub LineBack : Names → List Kept → Line → Type 0
LineBack N ks line = (rest : List Kept) → begins_with opens_line rest ≡ true → line_at N (ks ++ rest) ≡ Some (line, length ks)

abbrev pub PhiBack : Names → List (List ℕ) → Phi → Type 0
PhiBack N names phi = (k : ℕ) → LineBack N (named_kept k (phi_kept names phi)) (OfPhi phi)

-- An instruction is read back behind the name of its result, or without one where it has none.
pub record InstBack (N : Names) (names : List (List ℕ)) (i : Inst) : Type 0 where
  pub named : is_some (result_type i) ≡ true → (k : ℕ) → LineBack N (named_kept k (inst_kept names i)) (OfInst i)
  pub unnamed : is_some (result_type i) ≡ false → LineBack N (inst_kept names i) (OfInst i)

-- Each line of a block is read back.
pub record BlockBack (N : Names) (names : List (List ℕ)) (block : Block) : Type 0 where
  pub phis : All (PhiBack N names) block.phis
  pub insts : All (InstBack N names) block.insts
  pub term : LineBack N (term_kept names block.term) (Ends block.term)

-- a label, the phis, the instructions and the terminator
abbrev pub block_lines : Block → List Line
block_lines block = Labelled ∷ (map (λ phi. OfPhi phi) block.phis ++ (map (λ i. OfInst i) block.insts ++ Ends block.term ∷ []))

-- ---- what begins lines

-- Lexemes of lines begin a line, or there are none.
abbrev Opens : List Kept → Type 0
Opens ks = (rest : List Kept) → begins_with opens_line rest ≡ true → begins_with opens_line (ks ++ rest) ≡ true

abbrev begins_line : Shape → Bool
begins_line shape = not (is_close_brace shape)

both_open : (a b : List Kept) → Opens a → Opens b → Opens (a ++ b)
both_open a b first second rest o = ap (begins_with opens_line) (append_assoc a b rest) ∙ first (b ++ rest) (second rest o)

-- Lexemes of one line begin it.
record Begins (ks : List Kept) : Type 0 where
  pub some : 0 < length ks
  pub opens : (rest : List Kept) → begins_with opens_line (ks ++ rest) ≡ true
  pub begins : (rest : List Kept) → begins_with begins_line (ks ++ rest) ≡ true

begins_by : (k : Kept) (ks : List Kept) → opens_line k.0 ≡ true → begins_line k.0 ≡ true → Begins (k ∷ ks)
begins_by k ks opens begins = record { some = omega arith; opens = λ rest. opens; begins = λ rest. begins }

module _ (names : List (List ℕ)) where
  inst_begins : (i : Inst) → result_type i ≡ None → Begins (inst_kept names i)
  inst_begins (inst.Bin op flags ty a b) none = absurd (cc)
  inst_begins (inst.Icmp pred ty a b) none = absurd (cc)
  inst_begins (inst.Select ty c a b) none = absurd (cc)
  inst_begins (inst.Cast op nneg from to a) none = absurd (cc)
  inst_begins (inst.Alloca ty count align) none = absurd (cc)
  inst_begins (inst.Load ty at align) none = absurd (cc)
  inst_begins (inst.Store ty value at align) none = begins_by _ _ refl refl
  inst_begins (inst.Gep inbounds ty base indices) none = absurd (cc)
  inst_begins (inst.Call fn_ty ret_ext callee args) none = begins_by _ _ refl refl

  term_begins : (t : Term) → Begins (term_kept names t)
  term_begins term.RetVoid = begins_by _ _ refl refl
  term_begins (term.Ret ty value) = begins_by _ _ refl refl
  term_begins (term.Br to) = begins_by _ _ refl refl
  term_begins (term.CondBr c one other) = begins_by _ _ refl refl
  term_begins (term.Switch ty value default cases) = begins_by _ _ refl refl
  term_begins term.Unreachable = begins_by _ _ refl refl

  phi_lines_open : (k : ℕ) (phis : List Phi) → Opens (phi_lines_kept names k phis)
  phi_lines_open k [] = λ rest o. o
  phi_lines_open k (phi ∷ phis) = λ rest o. refl

  inst_lines_open : (k : ℕ) (insts : List Inst) → Opens (inst_lines_kept names k insts)
  inst_lines_open k [] = λ rest o. o
  inst_lines_open k (i ∷ insts) = λ rest o. cases (result_type i) refl rest
    where
      cases : (o : Option Scalar) → result_type i ≡ o → (rest : List Kept) →
          begins_with opens_line (cond (is_some o) (named_kept k (inst_kept names i) ++ inst_lines_kept names (suc k) insts) (inst_kept names i ++ inst_lines_kept names k insts) ++ rest) ≡ true
      cases None e rest =
          let b = inst_begins i e in
          ap (begins_with opens_line) (append_assoc (inst_kept names i) (inst_lines_kept names k insts) rest) ∙ b.opens (inst_lines_kept names k insts ++ rest)
      cases (Some ty) e rest = refl

  blocks_open : (place k : ℕ) (blocks : List Block) → Opens (blocks_kept names place k blocks)
  blocks_open place k [] = λ rest o. o
  blocks_open place k (block ∷ blocks) = λ rest o. refl

-- ---- lines one after another

-- lines that were read, and then those that are read on
abbrev extended : List Line → ℕ → Option (List Line × ℕ) → Option (List Line × ℕ)
extended lines n found = option_map (λ f. (lines ++ f.0, n + f.1)) found

extended_none : (o : Option (List Line × ℕ)) → o ≡ extended [] 0 o
extended_none None = refl
extended_none (Some f) = let e : f.1 ≡ 0 + f.1 = omega arith in ap (λ n. Some (f.0, n)) e

extended_twice : (xs ys : List Line) (m n : ℕ) (o : Option (List Line × ℕ)) → extended xs m (extended ys n o) ≡ extended (xs ++ ys) (m + n) o
extended_twice xs ys m n None = refl
extended_twice xs ys m n (Some f) =
    let e : m + (n + f.1) ≡ m + n + f.1 = omega arith in
    ap (λ ls. Some (ls, m + (n + f.1))) (sym (append_assoc xs ys f.0)) ∙ ap (λ i. Some ((xs ++ ys) ++ f.0, i)) e

module _ (N : Names) (names : List (List ℕ)) where
  -- The lexemes are read as these lines, and then what follows is read on.
  abbrev ReadsAs : List Kept → List Line → Type 0
  ReadsAs ks lines = (rest : List Kept) → begins_with opens_line rest ≡ true → runs begins_line (line_at N) (ks ++ rest) ≡ extended lines (length ks) (runs begins_line (line_at N) rest)

  none_reads : ReadsAs [] []
  none_reads rest o = extended_none (runs begins_line (line_at N) rest)

  line_reads : (ks : List Kept) (line : Line) → Begins ks → LineBack N ks line → ReadsAs ks (line ∷ [])
  line_reads ks line b back rest o =
      runs-step begins_line (line_at N) (ks ++ rest) line (length ks) (b.begins rest) (sym (back rest o)) b.some
      ∙ ap (λ ls. extended (line ∷ []) (length ks) (runs begins_line (line_at N) ls)) (drop_at ks rest (length ks) refl)

  both_read : (a b : List Kept) (xs ys : List Line) → ReadsAs a xs → Opens b → ReadsAs b ys → ReadsAs (a ++ b) (xs ++ ys)
  both_read a b xs ys first opens second rest o =
      ap (runs begins_line (line_at N)) (append_assoc a b rest)
      ∙ (first (b ++ rest) (opens rest o)
      ∙ (ap (extended xs (length a)) (second rest o)
      ∙ (extended_twice xs ys (length a) (length b) (runs begins_line (line_at N) rest)
      ∙ ap (λ n. extended (xs ++ ys) n (runs begins_line (line_at N) rest)) (sym (length-append a b)))))

  phi_lines_read : (k : ℕ) (phis : List Phi) → All (PhiBack N names) phis → ReadsAs (phi_lines_kept names k phis) (map (λ phi. OfPhi phi) phis)
  phi_lines_read k [] back = none_reads
  phi_lines_read k (phi ∷ phis) back =
      both_read (named_kept k (phi_kept names phi)) (phi_lines_kept names (suc k) phis) (OfPhi phi ∷ []) (map (λ phi. OfPhi phi) phis)
      (line_reads (named_kept k (phi_kept names phi)) (OfPhi phi) (begins_by _ _ refl refl) (All-head (PhiBack N names) phi phis back k))
      (phi_lines_open names (suc k) phis) (phi_lines_read (suc k) phis (All-tail (PhiBack N names) phi phis back))

  inst_lines_read : (k : ℕ) (insts : List Inst) → All (InstBack N names) insts → ReadsAs (inst_lines_kept names k insts) (map (λ i. OfInst i) insts)
  inst_lines_read k [] back = none_reads
  inst_lines_read k (i ∷ insts) back = cases (result_type i) refl (λ k. inst_lines_read k insts (All-tail (InstBack N names) i insts back))
    where
      this : InstBack N names i
      this = All-head (InstBack N names) i insts back

      cases : (o : Option Scalar) → result_type i ≡ o → ((k : ℕ) → ReadsAs (inst_lines_kept names k insts) (map (λ i. OfInst i) insts)) →
          ReadsAs (cond (is_some o) (named_kept k (inst_kept names i) ++ inst_lines_kept names (suc k) insts) (inst_kept names i ++ inst_lines_kept names k insts)) (OfInst i ∷ map (λ i. OfInst i) insts)
      cases None e more =
          both_read (inst_kept names i) (inst_lines_kept names k insts) (OfInst i ∷ []) (map (λ i. OfInst i) insts)
          (line_reads (inst_kept names i) (OfInst i) (inst_begins names i e) (this.unnamed (ap is_some e))) (inst_lines_open names k insts) (more k)
      cases (Some ty) e more =
          both_read (named_kept k (inst_kept names i)) (inst_lines_kept names (suc k) insts) (OfInst i ∷ []) (map (λ i. OfInst i) insts)
          (line_reads (named_kept k (inst_kept names i)) (OfInst i) (begins_by _ _ refl refl) (this.named (ap is_some e) k)) (inst_lines_open names (suc k) insts) (more (suc k))

  block_reads : (place k : ℕ) (block : Block) → BlockBack N names block → ReadsAs (block_kept names place k block) (block_lines block)
  block_reads place k block back =
      let phis = phi_lines_kept names k block.phis in
      let insts = inst_lines_kept names (k + length block.phis) block.insts in
      let ending = term_kept names block.term in
      let ends = term_begins names block.term in
      let insts_open = both_open insts ending (inst_lines_open names (k + length block.phis) block.insts) (λ rest o. ends.opens rest) in
      both_read ((is.Label, (codes "b" ++ decimal place) ++ 58 ∷ []) ∷ []) (phis ++ (insts ++ ending)) (Labelled ∷ []) (map (λ phi. OfPhi phi) block.phis ++ (map (λ i. OfInst i) block.insts ++ Ends block.term ∷ []))
      (line_reads ((is.Label, (codes "b" ++ decimal place) ++ 58 ∷ []) ∷ []) Labelled (begins_by _ _ refl refl) (λ rest o. refl))
      (both_open phis (insts ++ ending) (phi_lines_open names k block.phis) insts_open)
      (both_read phis (insts ++ ending) (map (λ phi. OfPhi phi) block.phis) (map (λ i. OfInst i) block.insts ++ Ends block.term ∷ []) (phi_lines_read k block.phis back.phis) insts_open
      (both_read insts ending (map (λ i. OfInst i) block.insts) (Ends block.term ∷ []) (inst_lines_read (k + length block.phis) block.insts back.insts) (λ rest o. ends.opens rest)
      (line_reads ending (Ends block.term) ends back.term)))

  blocks_read : (place k : ℕ) (blocks : List Block) → All (BlockBack N names) blocks → ReadsAs (blocks_kept names place k blocks) (flat_map block_lines blocks)
  blocks_read place k [] back = none_reads
  blocks_read place k (block ∷ blocks) back =
      both_read (block_kept names place k block) (blocks_kept names (suc place) (k + length (block_results block)) blocks) (block_lines block) (flat_map block_lines blocks)
      (block_reads place k block (All-head (BlockBack N names) block blocks back))
      (blocks_open names (suc place) (k + length (block_results block)) blocks)
      (blocks_read (suc place) (k + length (block_results block)) blocks (All-tail (BlockBack N names) block blocks back))

  -- the lines of the whole body, with the closing brace
  pub lines_back : (blocks : List Block) → All (BlockBack N names) blocks →
      lines_at N (blocks_kept names 0 0 blocks ++ close_brace_kept ∷ []) ≡ Some (flat_map block_lines blocks, length (blocks_kept names 0 0 blocks) + 1)
  lines_back blocks back =
      let ks = blocks_kept names 0 0 blocks in
      let all = flat_map block_lines blocks in
      let none_more : length ks + 0 ≡ length ks = omega arith in
      let reads : runs begins_line (line_at N) (ks ++ close_brace_kept ∷ []) ≡ Some (all, length ks) =
      blocks_read 0 0 blocks back (close_brace_kept ∷ []) refl ∙ (ap (λ ls. Some (ls, length ks + 0)) (append-nil all) ∙ ap (λ n. Some (all, n)) none_more) in
      ap (closed_by is_close_brace (ks ++ close_brace_kept ∷ [])) reads
      ∙ cond-true (begins_with is_close_brace (drop (length ks) (ks ++ close_brace_kept ∷ []))) (Some (all, length ks + 1)) None
      (ap (begins_with is_close_brace) (drop_at ks (close_brace_kept ∷ []) (length ks) refl))
