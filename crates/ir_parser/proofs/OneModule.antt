-- A text spells one module at most, and one that spells a module has no cause for a refusal.
use Rattle.std.proofs.Common.{◌≡◌, ◌∙◌, ℕ, List, [], ◌∷◌, length, drop, refl, ap, sym, subst, arith}
use Rattle.ir_lexer.specs.declared.token.Token.{Token}
use Rattle.ir_lexer.specs.Tokens.{Tokens, texts_of}
use Rattle.ir_syntax.specs.declared.item.Module.{Module}
use Rattle.ir_grammar.specs.declared.grammar.Name.TheVariants as the
use Rattle.ir_grammar.specs.declared.grammar.Name.{Name}
use Rattle.ir_grammar.specs.Tokens.{Kept, Piece}
use Rattle.ir_grammar.specs.Derives.{IsDerived}
use Rattle.ir_parser.specs.Modules.{module_of}
use Rattle.ir_parser.specs.Spelled.{Entity, IsEntityOf, IsNoEntity, Splits, kept_of, Spells, IsNotSpelled, IsNotResolved, IsNotIn, Spelling, Resolving, IsNotInSubset}
use Rattle.ir_parser.proofs.Within.{EntityTakesOne}

-- A nonterminal derives one number of the first tokens at most, and one list of lexemes is kept.
abbrev pub OneDerivation : Type 0
OneDerivation = (start : Name) (pieces : List Piece) (kept others : List Kept) (taken left : ℕ) → IsDerived start pieces kept taken → IsDerived start pieces others left → (kept ≡ others) × (taken ≡ left)

record AreSame (es fs : List Entity) (rest other : List Piece) : Type 0 where
  pub entities : es ≡ fs
  pub rests : rest ≡ other

-- Tokens are split into entities in one way, up to where none is spelled.
splits-once : OneDerivation → (pieces : List Piece) (es fs : List Entity) (rest other : List Piece) → Splits pieces es rest → Splits pieces fs other → IsNoEntity rest → IsNoEntity other → AreSame es fs rest other
splits-once one_way pieces [] [] rest other s t stuck end = record { entities = refl; rests = sym s ∙ t }
splits-once one_way pieces [] (f ∷ fs) rest other s t stuck end = absurd (subst IsNoEntity (sym s) stuck f.0 f.1 t.0)
splits-once one_way pieces (e ∷ es) [] rest other s t stuck end = absurd (subst IsNoEntity (sym t) end e.0 e.1 s.0)
splits-once one_way pieces (e ∷ es) (f ∷ fs) rest other s t stuck end =
    let both = one_way the.Entity pieces e.0 f.0 e.1 f.1 s.0 t.0 in
    let same : e ≡ f = ap (λ k. (k, e.1)) both.0 ∙ ap (λ n. (f.0, n)) both.1 in
    let more = splits-once one_way (drop e.1 pieces) es fs rest other s.1 (subst (λ (g : Entity). Splits (drop g.1 pieces) fs other) (sym same) t.1) stuck end in
    record { entities = ap (λ g. g ∷ es) same ∙ ap (λ gs. f ∷ gs) more.entities; rests = more.rests }

no_tokens : EntityTakesOne → IsNoEntity []
no_tokens takes kept taken d = absurd (omega (arith, takes [] kept taken d, d.0))

abbrev pub TokensAreOne : Type 0
TokensAreOne = (bytes : List ℕ) (ts us : List Token) → Tokens bytes ts → Tokens bytes us → ts ≡ us

module _ (once : TokensAreOne) (one_way : OneDerivation) (takes : EntityTakesOne) where
  nothing : IsNoEntity []
  nothing = no_tokens takes

  abbrev Split : List ℕ → List Token → List Entity → List Piece → Type 0
  Split text ts es rest = Splits (texts_of text ts) es rest

  text-splits : (text : List ℕ) (ts us : List Token) (es fs : List Entity) (rest other : List Piece) → Tokens text ts → Tokens text us → Split text ts es rest → Split text us fs other → IsNoEntity rest → IsNoEntity other → AreSame es fs rest other
  text-splits text ts us es fs rest other tile tiling s t = splits-once one_way (texts_of text ts) es fs rest other s (subst (λ (vs : List Token). Split text vs fs other) (once text us ts tiling tile) t)

  pub one-module : (text : List ℕ) (m n : Module) → Spells text m → Spells text n → m ≡ n
  one-module text m n a b =
      let same = (text-splits text a.tokens b.tokens a.entities b.entities [] [] a.tile b.tile a.split b.split nothing nothing).entities in
      let one = a.resolved in
      let two = b.resolved in
      let modules : module_of (kept_of a.entities) ≡ module_of (kept_of b.entities) = ap (λ es. module_of (kept_of es)) same in
      cc

  not-spelled : (text : List ℕ) (m : Module) (at : ℕ) (ts : List Token) → Tokens text ts → Spells text m → IsNotSpelled (texts_of text ts) at → ⊥
  not-spelled text m at ts tile a b = b.some (sym (text-splits text a.tokens ts a.entities b.entities [] b.rest a.tile tile a.split b.split nothing b.none).rests)

  not-resolved : (text : List ℕ) (m : Module) (at : ℕ) (ts : List Token) → Tokens text ts → Spells text m → IsNotResolved (texts_of text ts) at → ⊥
  not-resolved text m at ts tile a b =
      let same = (text-splits text a.tokens ts a.entities b.entities [] [] a.tile tile a.split b.split nothing nothing).entities in
      let one = a.resolved in
      let two = b.first in
      let modules : module_of (kept_of a.entities) ≡ module_of (kept_of b.entities) = ap (λ es. module_of (kept_of es)) same in
      cc

  spelled-or : (text : List ℕ) (m : Module) (at : ℕ) (ts : List Token) → Tokens text ts → Spells text m → IsNotIn (texts_of text ts) at → ⊥
  spelled-or text m at ts tile a (Spelling is) = not-spelled text m at ts tile a is
  spelled-or text m at ts tile a (Resolving is) = not-resolved text m at ts tile a is

  pub spelled-in-subset : (text : List ℕ) (m : Module) (at : ℕ) → Spells text m → IsNotInSubset text at → ⊥
  spelled-in-subset text m at a b = spelled-or text m at b.tokens b.tile a b.why

  -- ---- one place

  places-once : (pieces : List Piece) (at other : ℕ) → IsNotIn pieces at → IsNotIn pieces other → at ≡ other
  places-once pieces at other (Spelling a) (Spelling b) =
      let same = splits-once one_way pieces a.entities b.entities a.rest b.rest a.split b.split a.none b.none in
      sym a.before ∙ ap (length {A = Entity}) same.entities ∙ b.before
  places-once pieces at other (Spelling a) (Resolving b) = absurd (a.some (splits-once one_way pieces a.entities b.entities a.rest [] a.split b.split a.none nothing).rests)
  places-once pieces at other (Resolving a) (Spelling b) = absurd (b.some (sym (splits-once one_way pieces a.entities b.entities [] b.rest a.split b.split nothing b.none).rests))
  places-once pieces at other (Resolving a) (Resolving b) =
      let same = (splits-once one_way pieces a.entities b.entities [] [] a.split b.split nothing nothing).entities in
      let one = a.first in
      let two = b.first in
      let modules : module_of (kept_of a.entities) ≡ module_of (kept_of b.entities) = ap (λ es. module_of (kept_of es)) same in
      cc

  pub one-place : (text : List ℕ) (at other : ℕ) → IsNotInSubset text at → IsNotInSubset text other → at ≡ other
  one-place text at other a b =
      places-once (texts_of text a.tokens) at other a.why (subst (λ (vs : List Token). IsNotIn (texts_of text vs) other) (once text b.tokens a.tokens b.tile a.tile) b.why)
