-- The names of items of a module that a text can write, as tokens.
use Rattle.std.proofs.Common.{◌≡◌, ◌∙◌, ℕ, Bool, true, false, ◌&&◌, ◌||◌, nat_eq, codes, bytes_eq, List, [], ◌∷◌, ◌++◌, refl, ap, ⊎_elim}
use Rattle.std.proofs.lemmas.Bool.{and_parts, or_cases, cond-true, cond-false, false_from_ne_true, both_ways}
use Rattle.std.proofs.lemmas.Slice.Eq.{bytes_eq-Decides}
use Rattle.ir_lexer.specs.declared.token.Kind.TheVariants as kind
use Rattle.ir_syntax.specs.FormedBody.{is_intrinsic}
use Rattle.ir_syntax.specs.FormedItem.{is_reserved}
use Rattle.ir_grammar.specs.declared.shape.AtName.{AtName}
use Rattle.ir_grammar.specs.declared.shape.AtName.TheVariants as at
use Rattle.ir_grammar.specs.declared.shape.Shape.TheVariants as is
use Rattle.ir_grammar.specs.Shapes.{begins, at_shape}
use Rattle.ir_grammar.specs.Tokens.{shape}
use Rattle.ir_writer.specs.Names.{name_text}
use Rattle.ir_writer.specs.Ranges.{AreBytes}
use Rattle.round_trip.proofs.Tokens.Quoted.{name_back}

-- ---- fronts of names

begins_shorter : (name front more : List ℕ) → begins name (front ++ more) ≡ true → begins name front ≡ true
begins_shorter name [] more e = refl
begins_shorter [] (b ∷ front) more e = cc
begins_shorter (c ∷ name) (b ∷ front) more e =
    let a = and_parts (nat_eq b c) _ e in
    ap (λ t. t && begins name front) a.0 ∙ begins_shorter name front more a.1

begins_no_longer : (name front more : List ℕ) → begins name front ≡ false → begins name (front ++ more) ≡ false
begins_no_longer name front more e = false_from_ne_true _ (λ t. both_ways _ e (begins_shorter name front more t))

known_reserved : (name known : List ℕ) → is_reserved known ≡ true → bytes_eq name known ≡ true → is_reserved name ≡ true
known_reserved name known e same = ap is_reserved ((bytes_eq-Decides name known).0 same) ∙ e

intrinsic_reserved : (name : List ℕ) → is_intrinsic name ≡ true → is_reserved name ≡ true
intrinsic_reserved name e = ⊎_elim
    (λ first. ⊎_elim
    (known_reserved name (codes "llvm.memcpy.p0.p0.i64") refl)
    (known_reserved name (codes "llvm.memmove.p0.p0.i64") refl)
    (or_cases (bytes_eq name (codes "llvm.memcpy.p0.p0.i64")) (bytes_eq name (codes "llvm.memmove.p0.p0.i64")) first))
    (known_reserved name (codes "llvm.memset.p0.i64") refl)
    (or_cases (bytes_eq name (codes "llvm.memcpy.p0.p0.i64") || bytes_eq name (codes "llvm.memmove.p0.p0.i64")) (bytes_eq name (codes "llvm.memset.p0.i64")) e)

-- ---- shapes

-- a name that doesn't begin with llvm.
pub at_plain : (name : List ℕ) → is_reserved name ≡ false → at_shape name ≡ at.Plain
at_plain name e =
    cond-false (is_intrinsic name) at.Memory _ (false_from_ne_true _ (λ t. both_ways _ e (intrinsic_reserved name t)))
    ∙ cond-false (begins name (codes "llvm.dbg.")) at.Debug _ (begins_no_longer name (codes "llvm.") (codes "dbg.") e)
    ∙ cond-false (begins name (codes "llvm.lifetime.")) at.Debug _ (begins_no_longer name (codes "llvm.") (codes "lifetime.") e)
    ∙ cond-false (begins name (codes "llvm.")) at.Other at.Plain e

abbrev pub is_declared : AtName → Bool
is_declared at.Plain = true
is_declared at.Memory = true
is_declared at.Debug = false
is_declared at.Other = false

-- a name of a function
pub at_declared : (name : List ℕ) → (is_reserved name ≡ true → is_intrinsic name ≡ true) → is_declared (at_shape name) ≡ true
at_declared name intrinsic = by_test (is_reserved name) refl
  where
    by_test : (b : Bool) → is_reserved name ≡ b → is_declared (at_shape name) ≡ true
    by_test true e = ap is_declared (cond-true (is_intrinsic name) at.Memory _ (intrinsic e))
    by_test false e = ap is_declared (at_plain name e)

-- the token
pub name_shape : (name : List ℕ) → AreBytes name → shape (kind.AtName, 64 ∷ name_text name) ≡ is.At (at_shape name)
name_shape name bytes = ap (λ n. is.At (at_shape n)) (name_back name bytes)
