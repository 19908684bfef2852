-- What a reader finds is what a relation says: both ways.
use Rattle.std.proofs.Common.{◌≡◌, Option, Some, None, option_map, option_and_then, Bool, true, false, cond, refl, sym, ◌∙◌, ap, subst, true≢false}
use Rattle.std.specs.Prelude.{IsSomeAnd, Decides}
use Rattle.std.proofs.lemmas.Option.{none-some, same_Some}
use Rattle.manifest.specs.Reading.{passed}

-- the option holds x exactly if P holds of x
pub record Finds {A : Type 0} (o : Option A) (P : A → Type 0) : Type 0 where
  pub found : (x : A) → o ≡ Some x → P x
  pub again : (x : A) → P x → o ≡ Some x

pub one_at_most : {A : Type 0} (o : Option A) (P : A → Type 0) → Finds o P → (x y : A) → P x → P y → x ≡ y
one_at_most o P f x y p q = same_Some x y (sym (f.again x p) ∙ f.again y q)

pub Finds-none : {A : Type 0} (P : A → Type 0) → ((x : A) → ¬ P x) → Finds None P
Finds-none P never = record { found = λ x e. absurd (none-some x e); again = λ x p. absurd (never x p) }

pub Finds-some : {A : Type 0} (y : A) (P : A → Type 0) → P y → ((x : A) → P x → y ≡ x) → Finds (Some y) P
Finds-some y P here one = record { found = λ x e. subst P (same_Some y x e) here; again = λ x p. ap Some (one x p) }

pub Finds-like : {A : Type 0} (o : Option A) (P Q : A → Type 0) → ((x : A) → P x → Q x) → ((x : A) → Q x → P x) → Finds o P → Finds o Q
Finds-like o P Q to from f = record { found = λ x e. to x (f.found x e); again = λ x q. f.again x (from x q) }

pub Finds-at : {A D : Type 0} (one : D → Option A) (P : D → A → Type 0) → ((d : D) → Finds (one d) (P d)) → (o : Option D) → Finds (option_and_then one o) (λ x. IsSomeAnd o (λ d. P d x))
Finds-at one P each None = Finds-none _ (λ x p. p)
Finds-at one P each (Some d) = each d

module _ {A : Type 0} (test : A → Bool) (P Q : A → Type 0) (decides : (x : A) → Decides (test x) (Q x)) where
  passed-found : (o : Option A) → Finds o P → (x : A) → passed test o ≡ Some x → P x × Q x
  passed-found None f x e = absurd (none-some x e)
  passed-found (Some y) f x e = at (test y) refl e
    where
      at : (b : Bool) → test y ≡ b → cond b (Some y) None ≡ Some x → P x × Q x
      at true t e = let same = same_Some y x e in (f.found x e, subst Q same ((decides y).0 t))
      at false t e = absurd (none-some x e)

  passed-again : (o : Option A) → Finds o P → (x : A) → P x × Q x → passed test o ≡ Some x
  passed-again o f x p = rw (f.again x p.0, (decides x).1 p.1)

  pub Finds-passed : (o : Option A) → Finds o P → Finds (passed test o) (λ x. P x × Q x)
  Finds-passed o f = record { found = passed-found o f; again = passed-again o f }

pub Finds-guarded : {A : Type 0} (b : Bool) (G : Type 0) → Decides b G → (o : Option A) (P : A → Type 0) → Finds o P → Finds (cond b o None) (λ x. G × P x)
Finds-guarded true G d o P f = record { found = λ x e. (d.0 refl, f.found x e); again = λ x h. f.again x h.1 }
Finds-guarded false G d o P f = Finds-none _ (λ x h. true≢false (sym (d.1 h.0)))

module _ {A B : Type 0} (P : A → Type 0) (Q : B → Type 0) where
  abbrev pair_of : Option A → Option B → Option (A × B)
  pair_of o r = option_and_then (λ x. option_map (λ y. (x, y)) r) o

  pair-found : (o : Option A) (r : Option B) → Finds o P → Finds r Q → (p : A × B) → pair_of o r ≡ Some p → P p.0 × Q p.1
  pair-found None r f g p e = absurd (none-some p e)
  pair-found (Some x) None f g p e = absurd (none-some p e)
  pair-found (Some x) (Some y) f g p e = subst (λ (q : A × B). P q.0 × Q q.1) (same_Some (x, y) p e) (f.found x refl, g.found y refl)

  pair-again : (o : Option A) (r : Option B) → Finds o P → Finds r Q → (p : A × B) → P p.0 × Q p.1 → pair_of o r ≡ Some p
  pair-again o r f g p h = rw (f.again p.0 h.0, g.again p.1 h.1)

  pub Finds-pair : (o : Option A) (r : Option B) → Finds o P → Finds r Q → Finds (pair_of o r) (λ p. P p.0 × Q p.1)
  Finds-pair o r f g = record { found = pair-found o r f g; again = pair-again o r f g }
