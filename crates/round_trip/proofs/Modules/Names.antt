-- The names of items: which tests they pass, and how a written one is read.
use Rattle.std.proofs.Common.{◌≡◌, ◌≢◌, ℕ, Bool, true, false, cond, not, ◌&&◌, ◌||◌, ◌==◌, nat_lt, nat_le, List, ◌++◌, length, drop, Some, refl, sym, subst}
use Rattle.std.specs.Prelude.{IsTrue, IsNone, codes}
use Rattle.std.specs.List.{list_all}
use Rattle.std.proofs.lemmas.Bool.{and_from, false≢true, not_from_false, ne_eqb, lt-ltb, le-leb, false_from_ne_true, both_ways}
use Rattle.std.proofs.lemmas.Bool.Decides.{Decides-eqb}
use Rattle.std.proofs.lemmas.List.Elements.{All-weaker}
use Rattle.std.proofs.lemmas.List.Sums.{list_all-from_AllPass}
use Rattle.std.proofs.lemmas.Slice.Eq.{starts_is}
use Rattle.ir_syntax.specs.declared.item.Item.{Item}
use Rattle.ir_syntax.specs.declared.item.Item.TheVariants as item
use Rattle.ir_syntax.specs.declared.item.Func.{Func}
use Rattle.ir_syntax.specs.declared.body.Body.{Body}
use Rattle.ir_syntax.specs.FormedBody.{is_intrinsic, item_name}
use Rattle.ir_syntax.specs.FormedItem.{IsName, is_reserved, FormedFunc, FormedItem}
use Rattle.ir_grammar.specs.declared.shape.AtName.{AtName}
use Rattle.ir_grammar.specs.declared.shape.AtName.TheVariants as at
use Rattle.ir_grammar.specs.Shapes.{begins, at_shape}
use Rattle.ir_locals.specs.Locals.{is_name}
use Rattle.ir_parser.specs.Items.{is_plain}

-- ---- what a name passes

not-zero : (byte : ℕ) → byte ≢ 0 → not (byte == 0) ≡ true
not-zero byte h = not_from_false (byte == 0) (ne_eqb byte 0 h)

pub name-passes : (name : List ℕ) → IsName name → is_name name ≡ true
name-passes name h = and_from (nat_lt 0 (length name) && nat_le (length name) 4096) (list_all (λ byte. not (byte == 0)) name)
    (and_from (nat_lt 0 (length name)) (nat_le (length name) 4096) (lt-ltb 0 (length name) h.not_empty) (le-leb (length name) 4096 h.short))
    (list_all-from_AllPass (λ byte. not (byte == 0)) name (All-weaker (λ byte. byte ≢ 0) (λ byte. not (byte == 0) ≡ true) not-zero name h.no_zero))

pub plain-passes : (name : List ℕ) → IsName name → is_reserved name ≡ false → is_plain name ≡ true
plain-passes name h free = and_from (is_name name) (not (is_reserved name)) (name-passes name h) (not_from_false (is_reserved name) free)

-- what stands for a name that may be that of a declaration
abbrev pub IsDeclarable : List ℕ → Type 0
IsDeclarable name = IsTrue (is_reserved name) → IsTrue (is_intrinsic name)

known : (reserved intrinsic : Bool) → (reserved ≡ true → intrinsic ≡ true) → (not reserved || intrinsic) ≡ true
known true intrinsic h = h refl
known false intrinsic h = refl

pub declarable-passes : (name : List ℕ) → IsName name → IsDeclarable name → (is_name name && (not (is_reserved name) || is_intrinsic name)) ≡ true
declarable-passes name h free = and_from (is_name name) (not (is_reserved name) || is_intrinsic name) (name-passes name h) (known (is_reserved name) (is_intrinsic name) free)

-- ---- a name of an item isn't one of debug information

-- one that goes on from `llvm.` begins with `llvm.`
goes-on : (name more : List ℕ) → begins name (codes "llvm." ++ more) ≡ true → is_reserved name ≡ true
goes-on name more h =
    let rest : List ℕ = drop (length (codes "llvm." ++ more)) name in
    let whole : name ≡ codes "llvm." ++ (more ++ rest) = (starts_is Decides-eqb name (codes "llvm." ++ more) (begins name (codes "llvm." ++ more)) refl).0 h in
    (starts_is Decides-eqb name (codes "llvm.") (is_reserved name) refl).1 (more ++ rest) whole

not-begun : (name more : List ℕ) → is_reserved name ≡ false → begins name (codes "llvm." ++ more) ≡ false
not-begun name more free = false_from_ne_true (begins name (codes "llvm." ++ more)) (λ h. both_ways (is_reserved name) free (goes-on name more h))

abbrev IsSymbol : AtName → Type 0
IsSymbol kind = kind ≢ at.Debug

by-tests : (intrinsic debug lifetime reserved : Bool) → (reserved ≡ true → intrinsic ≡ true) → (reserved ≡ false → debug ≡ false) → (reserved ≡ false → lifetime ≡ false) →
    IsSymbol (cond intrinsic at.Memory (cond debug at.Debug (cond lifetime at.Debug (cond reserved at.Other at.Plain))))
by-tests true debug lifetime reserved memory d l = λ e. cc
by-tests false true lifetime true memory d l = absurd (false≢true (memory refl))
by-tests false true lifetime false memory d l = absurd (false≢true (sym (d refl)))
by-tests false false true true memory d l = absurd (false≢true (memory refl))
by-tests false false true false memory d l = absurd (false≢true (sym (l refl)))
by-tests false false false true memory d l = λ e. cc
by-tests false false false false memory d l = λ e. cc

pub no-debug : (name : List ℕ) → IsDeclarable name → at_shape name ≢ at.Debug
no-debug name free =
    by-tests (is_intrinsic name) (begins name (codes "llvm.dbg.")) (begins name (codes "llvm.lifetime.")) (is_reserved name) free
    (not-begun name (codes "dbg.")) (not-begun name (codes "lifetime."))

-- ---- items

pub free-declarable : (name : List ℕ) → is_reserved name ≡ false → IsDeclarable name
free-declarable name free reserved = absurd (both_ways (is_reserved name) free reserved)

pub item-declarable : (items : List Item) (i : Item) → FormedItem items i → IsDeclarable (item_name i)
item-declarable items (item.Var var) h = free-declarable var.name h.not_reserved
item-declarable items (item.Func func) h = h.intrinsic

-- a function that has a body
pub defined-free : (items : List Item) (func : Func) (body : Body) → FormedFunc items func → func.body ≡ Some body → is_reserved func.name ≡ false
defined-free items func body h e = false_from_ne_true (is_reserved func.name) (λ reserved.
    let none : IsNone (Some body) = subst IsNone e (h.not_defined reserved) in
    false≢true (sym none))
