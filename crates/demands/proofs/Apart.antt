-- Names of copies are apart.
use Rattle.std.proofs.Common.{◌≡◌, ◌≢◌, ℕ, ◌+◌, ◌%◌, ◌^◌, ◌<◌, ◌≤◌, ◌⊎◌, inl, inr, List, [], ◌∷◌, ◌++◌, Bool, false, cond, refl, ap, sym, ◌∙◌, arith, append_assoc}
use Rattle.std.specs.Prelude.{codes}
use Rattle.std.specs.Fmt.{decimal}
use Rattle.std.proofs.lemmas.Fmt.{decimal_by_steps, decimal_injective}
use Rattle.ir_types.specs.declared.scalar.Known.{Known}
use Rattle.ir_types.specs.declared.scalar.Known.TheVariants.{Unknown, Num, Null}
use Rattle.demands.specs.Order.{number_of}
use Rattle.demands.specs.Names.{item_text, items_text, are_unknown, copy_name, AreWords}
use Rattle.demands.proofs.Texts.{more_text, items_text-cons}

-- a comma or a parenthesis that closes
IsMark : ℕ → Type 0
IsMark byte = (byte ≡ 44) ⊎ (byte ≡ 41)

abbrev HasNoMark : List ℕ → Type 0
HasNoMark [] = Unit {0}
HasNoMark (byte ∷ bytes) = (byte ≢ 44) × (byte ≢ 41) × HasNoMark bytes

no_mark-push : (bytes : List ℕ) (byte : ℕ) → HasNoMark bytes → byte ≢ 44 → byte ≢ 41 → HasNoMark (bytes ++ byte ∷ [])
no_mark-push [] byte h a b = (a, b, tt)
no_mark-push (x ∷ xs) byte h a b = (h.0, h.1, no_mark-push xs byte h.2 a b)

abbrev StartsWithDigit : List ℕ → Type 0
StartsWithDigit [] = ⊥
StartsWithDigit (byte ∷ bytes) = (48 ≤ byte) × (byte ≤ 57)

digit-push : (bytes : List ℕ) (byte : ℕ) → StartsWithDigit bytes → StartsWithDigit (bytes ++ byte ∷ [])
digit-push [] byte h = elim h [ ]
digit-push (x ∷ xs) byte h = h

decimal-no_mark : (n : ℕ) → n < 2 ^ 64 → HasNoMark (decimal n)
decimal-no_mark = decimal_by_steps (λ n ds. HasNoMark ds) (λ n h. ((λ e. omega arith), (λ e. omega arith), tt)) (λ n ds h d. no_mark-push ds (48 + n % 10) d (λ e. omega arith) (λ e. omega arith))

decimal-digit : (n : ℕ) → n < 2 ^ 64 → StartsWithDigit (decimal n)
decimal-digit = decimal_by_steps (λ n ds. StartsWithDigit ds) (λ n h. (omega arith, omega arith)) (λ n ds h d. digit-push ds (48 + n % 10) d)

item_text-no_mark : (item : Known) → number_of item < 2 ^ 64 → HasNoMark (item_text item)
item_text-no_mark Unknown h = ((λ e. omega arith), (λ e. omega arith), tt)
item_text-no_mark (Num n) h = decimal-no_mark n h
item_text-no_mark Null h = no_mark-push (110 ∷ 117 ∷ 108 ∷ []) 108 (no_mark-push (110 ∷ 117 ∷ []) 108 (no_mark-push (110 ∷ []) 117 ((λ e. omega arith), (λ e. omega arith), tt) (λ e. omega arith) (λ e. omega arith)) (λ e. omega arith) (λ e. omega arith)) (λ e. omega arith) (λ e. omega arith)

not-decimal : (byte : ℕ) (bytes other : List ℕ) → StartsWithDigit other → other ≡ byte ∷ bytes → 57 < byte → ⊥
not-decimal byte bytes [] h e g = elim h [ ]
not-decimal byte bytes (x ∷ xs) h e g = let same : x ≡ byte = cc in omega arith

item_text-apart : (a b : Known) → number_of a < 2 ^ 64 → number_of b < 2 ^ 64 → item_text a ≡ item_text b → a ≡ b
item_text-apart Unknown Unknown h g e = refl
item_text-apart Unknown (Num n) h g e = absurd (not-decimal 95 [] (decimal n) (decimal-digit n g) (sym e) (omega arith))
item_text-apart Unknown Null h g e = absurd (cc)
item_text-apart (Num n) Unknown h g e = absurd (not-decimal 95 [] (decimal n) (decimal-digit n h) e (omega arith))
item_text-apart (Num m) (Num n) h g e = ap Num (decimal_injective m n h g e)
item_text-apart (Num n) Null h g e = absurd (not-decimal 110 (117 ∷ 108 ∷ 108 ∷ []) (decimal n) (decimal-digit n h) e (omega arith))
item_text-apart Null Unknown h g e = absurd (cc)
item_text-apart Null (Num n) h g e = absurd (not-decimal 110 (117 ∷ 108 ∷ 108 ∷ []) (decimal n) (decimal-digit n g) (sym e) (omega arith))
item_text-apart Null Null h g e = refl

-- two texts are cut at their first mark
cut : (a b s t : List ℕ) (c d : ℕ) → HasNoMark a → HasNoMark b → IsMark c → IsMark d → a ++ (c ∷ s) ≡ b ++ (d ∷ t) → (a ≡ b) × ((c ∷ s) ≡ (d ∷ t))
unfolding IsMark
cut [] [] s t c d h g m n e = (refl, e)
cut [] (y ∷ ys) s t c d h g m n e =
    let same : y ≡ c = cc in
    absurd (elim m [ inl k ↦ g.0 (same ∙ k) | inr k ↦ g.1 (same ∙ k) ])
cut (x ∷ xs) [] s t c d h g m n e =
    let same : x ≡ d = cc in
    absurd (elim n [ inl k ↦ h.0 (same ∙ k) | inr k ↦ h.1 (same ∙ k) ])
cut (x ∷ xs) (y ∷ ys) s t c d h g m n e =
    let head : x ≡ y = cc in
    let tail : xs ++ (c ∷ s) ≡ ys ++ (d ∷ t) = cc in
    let rest = cut xs ys s t c d h.2 g.2 m n tail in
    ((λ i. head i ∷ rest.0 i), rest.1)

-- what follows an item begins with a mark
record BeginsWithMark (text : List ℕ) : Type 0 where
  byte : ℕ
  bytes : List ℕ
  mark : IsMark byte
  is : text ≡ byte ∷ bytes

begins : (items : List Known) (name : List ℕ) → BeginsWithMark (more_text items ++ (41 ∷ name))
unfolding IsMark
begins [] name = record { byte = 41; bytes = name; mark = inr refl; is = refl }
begins (item ∷ items) name = record { byte = 44; bytes = (item_text item ++ more_text items) ++ (41 ∷ name); mark = inl refl; is = refl }

heads : (x y : ℕ) (xs ys : List ℕ) → x ∷ xs ≡ y ∷ ys → x ≡ y
heads x y xs ys e = cc

tails : (x y : ℕ) (xs ys : List ℕ) → x ∷ xs ≡ y ∷ ys → xs ≡ ys
tails x y xs ys e = cc

more-apart : (p q : List Known) (f g : List ℕ) → AreWords p → AreWords q → more_text p ++ (41 ∷ f) ≡ more_text q ++ (41 ∷ g) → (p ≡ q) × (f ≡ g)
more-apart [] [] f g h k e = (refl, tails 41 41 f g e)
more-apart [] (y ∷ ys) f g h k e = absurd (omega (arith, heads 41 44 f ((item_text y ++ more_text ys) ++ (41 ∷ g)) e))
more-apart (x ∷ xs) [] f g h k e = absurd (omega (arith, heads 44 41 ((item_text x ++ more_text xs) ++ (41 ∷ f)) g e))
more-apart (x ∷ xs) (y ∷ ys) f g h k e =
    let tail : (item_text x ++ more_text xs) ++ (41 ∷ f) ≡ (item_text y ++ more_text ys) ++ (41 ∷ g) = tails 44 44 ((item_text x ++ more_text xs) ++ (41 ∷ f)) ((item_text y ++ more_text ys) ++ (41 ∷ g)) e in
    let a = begins xs f in
    let b = begins ys g in
    let parts : item_text x ++ (a.byte ∷ a.bytes) ≡ item_text y ++ (b.byte ∷ b.bytes) =
    ap (λ (t : List ℕ). item_text x ++ t) (sym a.is) ∙ sym (append_assoc (item_text x) (more_text xs) (41 ∷ f)) ∙ tail ∙ append_assoc (item_text y) (more_text ys) (41 ∷ g) ∙ ap (λ (t : List ℕ). item_text y ++ t) b.is in
    let at = cut (item_text x) (item_text y) a.bytes b.bytes a.byte b.byte (item_text-no_mark x h.0) (item_text-no_mark y k.0) a.mark b.mark parts in
    let first = item_text-apart x y h.0 k.0 at.0 in
    let rest = more-apart xs ys f g h.1 k.1 (a.is ∙ at.1 ∙ sym b.is) in
    ((λ i. first i ∷ rest.0 i), rest.1)

-- a copy's name, after a comma in place of the parenthesis that opens
opened : (p : List Known) (f : List ℕ) → are_unknown p ≡ false → copy_name p f ≡ 40 ∷ (items_text p ++ (41 ∷ f))
opened p f h =
    ap (λ (b : Bool). cond b f (codes "(" ++ items_text p ++ codes ")" ++ f)) h
    ∙ ap (λ (t : List ℕ). 40 ∷ t) (append_assoc (items_text p) (41 ∷ []) f)

commaed : (p : List Known) (f : List ℕ) → are_unknown p ≡ false → more_text p ++ (41 ∷ f) ≡ 44 ∷ (items_text p ++ (41 ∷ f))
commaed [] f h = absurd (cc)
commaed (x ∷ xs) f h = ap (λ (t : List ℕ). 44 ∷ (t ++ (41 ∷ f))) (sym (items_text-cons x xs))

pub apart : (p q : List Known) (f g : List ℕ) → AreWords p → AreWords q → are_unknown p ≡ false → are_unknown q ≡ false → copy_name p f ≡ copy_name q g → (p ≡ q) × (f ≡ g)
apart p q f g h k a b e =
    let whole : 40 ∷ (items_text p ++ (41 ∷ f)) ≡ 40 ∷ (items_text q ++ (41 ∷ g)) = sym (opened p f a) ∙ e ∙ opened q g b in
    let inner : items_text p ++ (41 ∷ f) ≡ items_text q ++ (41 ∷ g) = tails 40 40 (items_text p ++ (41 ∷ f)) (items_text q ++ (41 ∷ g)) whole in
    more-apart p q f g h k (commaed p f a ∙ ap (λ (t : List ℕ). 44 ∷ t) inner ∙ sym (commaed q g b))
