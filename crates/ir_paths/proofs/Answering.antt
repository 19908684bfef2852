-- What the answer for far uses says of a body, of an item, and of items in order.
use Rattle.std.proofs.Common.{◌≡◌, ◌∙◌, ℕ, zero, suc, ◌+◌, ◌<◌, ◌≤◌, Bool, true, false, List, [], ◌∷◌, length, take, get_or, All, Option, Some, IfSome, MatchBool, IfOk, Result, Ok, Err, slice_get, refl, sym, ap, subst, arith}
use Rattle.std.proofs.lemmas.List.Elements.{All-more, All-same}
use Rattle.std.proofs.lemmas.List.{take_all}
use Rattle.ir_syntax.specs.declared.body.Block.{Block}
use Rattle.ir_syntax.specs.declared.body.Body.{Body}
use Rattle.ir_syntax.specs.declared.item.Func.{Func}
use Rattle.ir_syntax.specs.declared.item.Item.{Item}
use Rattle.ir_syntax.specs.declared.item.Item.TheVariants as item
use Rattle.ir_syntax.specs.FormedBody.{FormedBody}
use Rattle.ir_syntax.specs.FormedItem.{FormedFunc, FormedItem}
use Rattle.ir_syntax.specs.Definite.{DefiniteBody, DefiniteItem, uses}
use Rattle.ir_paths.specs.declared.far.Far.{Far}
use Rattle.ir_paths.specs.Bypass.{IsPassed, IsWithin}
use Rattle.ir_paths.specs.FarUses.{far_uses}
use Rattle.ir_paths.specs.FirstIndefinite.{IsFirstIndefinite}
use Rattle.ir_paths.proofs.Using.{Mirrors, body_mirrors}
use Rattle.ir_paths.proofs.Within.{far_within}
use Rattle.ir_paths.proofs.Forming.{blocks_of}

-- ---- a body

mirrored : (body : Body) → Mirrors body.blocks (uses body.blocks) (far_uses body.blocks) → (answer : Bool) → MatchBool answer (All (IsPassed body.blocks) (far_uses body.blocks)) (All (IsPassed body.blocks) (far_uses body.blocks) → ⊥)
    → MatchBool answer (DefiniteBody body) (DefiniteBody body → ⊥)
mirrored body m true h = m.defined h
mirrored body m false h = λ definite. h (m.passed definite)

pub body_answer : (body : Body) (blocks : List Block) (far : List Far) (answer : Bool) → blocks ≡ body.blocks → far ≡ far_uses blocks → MatchBool answer (All (IsPassed blocks) far) (All (IsPassed blocks) far → ⊥)
    → (items : List Item) (params : ℕ) → FormedBody items params body → MatchBool answer (DefiniteBody body) (DefiniteBody body → ⊥)
body_answer body blocks far answer e f h items params formed =
    let at_far = subst (λ (xs : List Far). MatchBool answer (All (IsPassed blocks) xs) (All (IsPassed blocks) xs → ⊥)) f h in
    let here = subst (λ (bs : List Block). MatchBool answer (All (IsPassed bs) (far_uses bs)) (All (IsPassed bs) (far_uses bs) → ⊥)) e at_far in
    mirrored body (body_mirrors body.blocks (blocks_of items params body formed)) answer here

pub all_within : (blocks : List Block) (far : List Far) → far ≡ far_uses blocks → All (IsWithin (length blocks)) far
all_within blocks far e = subst (λ (xs : List Far). All (IsWithin (length blocks)) xs) (sym e) (far_within blocks)

-- ---- items in order

get_at : (items : List Item) (place : ℕ) (d : Item) → place < length items → slice_get items place ≡ Some (get_or items place d)
get_at [] place d l = absurd (omega arith)
get_at (i ∷ items) zero d l = refl
get_at (i ∷ items) (suc place) d l = let less : place < length items = omega arith in get_at items place d less

pub first_found : (items : List Item) (place : ℕ) (at : Item) → place < length items → at ≡ get_or items place at → All DefiniteItem (take place items) → (DefiniteItem at → ⊥) → IsFirstIndefinite items place
first_found items place at l is before refused = record {
  within = l;
  before = before;
  not_definite = subst (λ (o : Option Item). IfSome o (λ i. DefiniteItem i → ⊥)) (sym (get_at items place at l ∙ ap (λ x. Some x) (sym is))) refused;
}

pub body_result : {E : Type 0} (r : Result Bool E) (body : Body) (blocks : List Block) (far : List Far) → blocks ≡ body.blocks → far ≡ far_uses blocks
    → IfOk r (λ passed. MatchBool passed (All (IsPassed blocks) far) (All (IsPassed blocks) far → ⊥))
    → IfOk r (λ definite. (items : List Item) (params : ℕ) → FormedBody items params body → MatchBool definite (DefiniteBody body) (DefiniteBody body → ⊥))
body_result (Ok answer) body blocks far e f h = body_answer body blocks far answer e f h
body_result (Err fault) body blocks far e f h = h

-- ---- an item

func_answer : (func : Func) (body : Body) (answer : Bool) → func.body ≡ Some body → ((items : List Item) (params : ℕ) → FormedBody items params body → MatchBool answer (DefiniteBody body) (DefiniteBody body → ⊥))
    → (items : List Item) → FormedFunc items func → MatchBool answer (DefiniteItem (item.Func func)) (DefiniteItem (item.Func func) → ⊥)
func_answer func body answer e h items formed =
    let here : FormedBody items (length func.params) body = subst (λ (o : Option Body). IfSome o (FormedBody items (length func.params))) e formed.has_body in
    subst (λ (o : Option Body). MatchBool answer (IfSome o DefiniteBody) (IfSome o DefiniteBody → ⊥)) (sym e) (h items (length func.params) here)

item_answer : (at : Item) (func : Func) (body : Body) (answer : Bool) → at ≡ item.Func func → func.body ≡ Some body
    → ((items : List Item) (params : ℕ) → FormedBody items params body → MatchBool answer (DefiniteBody body) (DefiniteBody body → ⊥))
    → (items : List Item) → FormedItem items at → MatchBool answer (DefiniteItem at) (DefiniteItem at → ⊥)
item_answer at func body answer e f h items formed =
    subst (λ (i : Item). MatchBool answer (DefiniteItem i) (DefiniteItem i → ⊥)) (sym e) (func_answer func body answer f h items (subst (FormedItem items) e formed))

pub item_result : {E : Type 0} (r : Result Bool E) (at : Item) (func : Func) (body : Body) → at ≡ item.Func func → func.body ≡ Some body
    → IfOk r (λ definite. (items : List Item) (params : ℕ) → FormedBody items params body → MatchBool definite (DefiniteBody body) (DefiniteBody body → ⊥))
    → IfOk r (λ definite. (items : List Item) → FormedItem items at → MatchBool definite (DefiniteItem at) (DefiniteItem at → ⊥))
item_result (Ok answer) at func body e f h = item_answer at func body answer e f h
item_result (Err fault) at func body e f h = h

-- ---- one more item

pub says_no : (answer : Bool) (P : Type 0) → answer ≡ false → MatchBool answer P (P → ⊥) → P → ⊥
says_no true P e h = absurd (cc)
says_no false P e h = h

pub says_yes : (answer : Bool) (P : Type 0) → answer ≡ true → MatchBool answer P (P → ⊥) → P
says_yes true P e h = h
says_yes false P e h = absurd (cc)

pub formed_at : (items : List Item) (place : ℕ) (at : Item) → place < length items → at ≡ get_or items place at → All (FormedItem items) items → FormedItem items at
formed_at items place at l is formed = subst (FormedItem items) (sym is) (formed place at l)

pub one_more : (items : List Item) (place : ℕ) (at : Item) → place < length items → at ≡ get_or items place at → All DefiniteItem (take place items) → DefiniteItem at → All DefiniteItem (take (place + 1) items)
one_more items place at l is before here = All-more DefiniteItem items place at l before (subst DefiniteItem is here)

-- ---- the end

pub all_seen : (items : List Item) (place : ℕ) → length items ≤ place → All DefiniteItem (take place items) → All DefiniteItem items
all_seen items place l h = All-same DefiniteItem items (take place items) (sym (take_all place items l)) h

pub first_of : (items seen : List Item) → seen ≡ items → All (FormedItem items) items → (P : Type 0) (place : ℕ) → (P → All (FormedItem seen) seen → IsFirstIndefinite seen place) → P → IsFirstIndefinite items place
first_of items seen e formed P place h p =
    subst (λ (xs : List Item). IsFirstIndefinite xs place) e (h p (subst (λ (xs : List Item). All (FormedItem xs) xs) (sym e) formed))
