-- Flags that are gathered one after another.
use Rattle.std.proofs.Common.{◌≡◌, ◌∙◌, ℕ, suc, ◌+◌, Bool, true, false, ◌||◌, List, ◌∷◌, drop, Option, Some, None, refl, sym, ap, arith}
use Rattle.std.proofs.lemmas.List.{drop-drop}
use Rattle.ir_types.specs.declared.scalar.Flags.{Flags}
use Rattle.ir_syntax.specs.Straight.{no_flags}
use Rattle.ir_grammar.specs.declared.shape.Flag.{Flag}
use Rattle.ir_grammar.specs.declared.shape.Flag.TheVariants as flag
use Rattle.ir_grammar.specs.declared.shape.Shape.TheVariants as is
use Rattle.ir_grammar.specs.declared.shape.Free.TheVariants as free
use Rattle.ir_grammar.specs.Tokens.{Kept}
use Rattle.ir_operands.specs.Operands.{with_flag, flags_at}
use Rattle.ir_operands.specs.Mirrors.Shaped.{first_flag}

-- the flags that are among these or those
abbrev pub either : Flags → Flags → Flags
either a b = record { nuw = a.nuw || b.nuw; nsw = a.nsw || b.nsw; exact = a.exact || b.exact; disjoint = a.disjoint || b.disjoint }

set : (b : Bool) → (b || true) ≡ true
set true = refl
set false = refl

unset : (b : Bool) → (b || false) ≡ b
unset true = refl
unset false = refl

pub either_none : (a : Flags) → either a no_flags ≡ a
either_none a = simp unset

pub either_first : (a : Flags) → either no_flags a ≡ a
either_first a = refl

pub either_more : (f : Flag) (a b : Flags) → either (with_flag f a) b ≡ either a (with_flag f b)
either_more flag.Nuw a b = simp set
either_more flag.Nsw a b = simp set
either_more flag.Exact a b = simp set
either_more flag.Disjoint a b = simp set
either_more flag.Nneg a b = refl
either_more flag.Inbounds a b = refl
either_more flag.Nusw a b = refl

no_flag : (ks : List Kept) → first_flag ks ≡ None → flags_at ks ≡ (no_flags, 0)
no_flag ((is.Free (free.Flag f), text) ∷ ks) e = cc
no_flag _ e = refl

one_flag : (ks : List Kept) (f : Flag) → first_flag ks ≡ Some f → flags_at ks ≡ (with_flag f (flags_at (drop 1 ks)).0, suc (flags_at (drop 1 ks)).1)
one_flag ((is.Free (free.Flag g), text) ∷ ks) f e = let h : g ≡ f = cc in ap (λ f. (with_flag f (flags_at ks).0, suc (flags_at ks).1)) h
one_flag _ f e = cc

-- flags so far, so many of them, and those that are left
pub record Gathered (ks : List Kept) (flags : Flags) (count : ℕ) : Type 0 where
  pub left : count + (flags_at (drop count ks)).1 ≡ (flags_at ks).1
  pub gathered : either flags (flags_at (drop count ks)).0 ≡ (flags_at ks).0

pub flags_none : (ks : List Kept) → Gathered ks no_flags 0
flags_none ks = record { left = omega arith; gathered = refl }

pub flags_more : (ks rest : List Kept) (flags : Flags) (count : ℕ) (f : Flag) → Gathered ks flags count → rest ≡ drop count ks → Some f ≡ first_flag rest → Gathered ks (with_flag f flags) (count + 1)
flags_more ks rest flags count f g r e =
    let h : flags_at (drop count ks) ≡ (with_flag f (flags_at (drop 1 (drop count ks))).0, suc (flags_at (drop 1 (drop count ks))).1) = one_flag (drop count ks) f (ap first_flag (sym r) ∙ sym e) in
    let d : drop 1 (drop count ks) ≡ drop (count + 1) ks = drop-drop 1 count ks in
    let i : flags_at (drop count ks) ≡ (with_flag f (flags_at (drop (count + 1) ks)).0, suc (flags_at (drop (count + 1) ks)).1) = rw d at h in
    record {
      left = omega (arith, g.left, ap (λ x. x.1) i);
      gathered = either_more f flags (flags_at (drop (count + 1) ks)).0 ∙ ap (λ x. either flags x.0) (sym i) ∙ g.gathered;
    }

pub flags_end : (ks rest : List Kept) (flags : Flags) (count : ℕ) → Gathered ks flags count → rest ≡ drop count ks → None ≡ first_flag rest → (flags, count) ≡ flags_at ks
flags_end ks rest flags count g r e =
    let h : flags_at (drop count ks) ≡ (no_flags, 0) = no_flag (drop count ks) (ap first_flag (sym r) ∙ sym e) in
    let a : flags ≡ (flags_at ks).0 = sym (either_none flags) ∙ ap (λ x. either flags x.0) (sym h) ∙ g.gathered in
    let b : count ≡ (flags_at ks).1 = omega (arith, g.left, ap (λ x. x.1) h) in
    ap (λ x. (x, count)) a ∙ ap (λ n. ((flags_at ks).0, n)) b
