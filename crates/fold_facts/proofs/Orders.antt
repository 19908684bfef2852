-- The order of facts is partial, and the join of two is their least upper bound.
use Rattle.std.proofs.Common.{◌≡◌, ◌∙◌, ℕ, Bool, true, false, cond, List, [], ◌∷◌, map, length, get_or, drop, ◌+◌, ◌<◌, refl, sym, ap, subst}
use Rattle.ir_types.proofs.ListSteps.{drop_at}
use Rattle.std.proofs.lemmas.Bool.{eqb-true, eq-eqb, false≢true}
use Rattle.ir_types.specs.declared.scalar.Known.{Known}
use Rattle.ir_types.specs.declared.scalar.Known.TheVariants.{Unknown, Num, Null}
use Rattle.fold_facts.specs.declared.fact.Fact.{Fact}
use Rattle.fold_facts.specs.declared.fact.Fact.TheVariants.{Unreached, One, Varying}
use Rattle.fold_facts.specs.Facts.{IsBelow, is_same, join, join_all}

pub below_refl : (x : Fact) → IsBelow x x
below_refl Unreached = tt
below_refl (One v) = refl
below_refl Varying = tt

pub below_trans : (x y z : Fact) → IsBelow x y → IsBelow y z → IsBelow x z
below_trans Unreached y z h g = tt
below_trans (One v) Unreached z h g = absurd h
below_trans (One v) (One w) Unreached h g = absurd g
below_trans (One v) (One w) (One u) h g = h ∙ g
below_trans (One v) (One w) Varying h g = tt
below_trans (One v) Varying Unreached h g = absurd g
below_trans (One v) Varying (One u) h g = absurd g
below_trans (One v) Varying Varying h g = tt
below_trans Varying Unreached z h g = absurd h
below_trans Varying (One w) z h g = absurd h
below_trans Varying Varying Unreached h g = absurd g
below_trans Varying Varying (One u) h g = absurd g
below_trans Varying Varying Varying h g = tt

pub below_antisym : (x y : Fact) → IsBelow x y → IsBelow y x → x ≡ y
below_antisym Unreached Unreached h g = refl
below_antisym Unreached (One w) h g = absurd g
below_antisym Unreached Varying h g = absurd g
below_antisym (One v) Unreached h g = absurd h
below_antisym (One v) (One w) h g = ap One h
below_antisym (One v) Varying h g = absurd g
below_antisym Varying Unreached h g = absurd h
below_antisym Varying (One w) h g = absurd h
below_antisym Varying Varying h g = refl

pub below_of_is : (x y : Fact) → x ≡ y → IsBelow x y
below_of_is x y e = subst (λ f. IsBelow x f) e (below_refl x)

pub at_most_varying : (x : Fact) → IsBelow x Varying
at_most_varying Unreached = tt
at_most_varying (One v) = tt
at_most_varying Varying = tt

-- ---- values

pub same_is : (v w : Known) → is_same v w ≡ true → v ≡ w
same_is Unknown Unknown h = refl
same_is Unknown (Num n) h = absurd (false≢true h)
same_is Unknown Null h = absurd (false≢true h)
same_is (Num m) Unknown h = absurd (false≢true h)
same_is (Num m) (Num n) h = ap Num (eqb-true m n h)
same_is (Num m) Null h = absurd (false≢true h)
same_is Null Unknown h = absurd (false≢true h)
same_is Null (Num n) h = absurd (false≢true h)
same_is Null Null h = refl

pub same_refl : (v : Known) → is_same v v ≡ true
same_refl Unknown = refl
same_refl (Num n) = eq-eqb n n refl
same_refl Null = refl

-- ---- joins

ones_left : (v w : Known) (b : Bool) → IsBelow (One v) (cond b (One v) Varying)
ones_left v w true = refl
ones_left v w false = tt

ones_right : (v w : Known) (b : Bool) → is_same v w ≡ b → IsBelow (One w) (cond b (One v) Varying)
ones_right v w true e = sym (same_is v w e)
ones_right v w false e = tt

ones_least : (v w : Known) (b : Bool) (z : Fact) → is_same v w ≡ b → IsBelow (One v) z → IsBelow (One w) z → IsBelow (cond b (One v) Varying) z
ones_least v w true z e h g = h
ones_least v w false Unreached e h g = absurd h
ones_least v w false (One u) e h g = absurd (false≢true (sym e ∙ ap (λ k. is_same k w) (h ∙ sym g) ∙ same_refl w))
ones_least v w false Varying e h g = tt

pub join_left : (x y : Fact) → IsBelow x (join x y)
join_left Unreached y = tt
join_left (One v) Unreached = refl
join_left (One v) (One w) = ones_left v w (is_same v w)
join_left (One v) Varying = tt
join_left Varying y = tt

pub join_right : (x y : Fact) → IsBelow y (join x y)
join_right Unreached y = below_refl y
join_right (One v) Unreached = tt
join_right (One v) (One w) = ones_right v w (is_same v w) refl
join_right (One v) Varying = tt
join_right Varying y = at_most_varying y

pub join_least : (x y z : Fact) → IsBelow x z → IsBelow y z → IsBelow (join x y) z
join_least Unreached y z h g = g
join_least (One v) Unreached z h g = h
join_least (One v) (One w) z h g = ones_least v w (is_same v w) z refl h g
join_least (One v) Varying z h g = g
join_least Varying y z h g = h

-- a fact that takes in another is the join
pub join_absorbs : (x y : Fact) → IsBelow y x → join x y ≡ x
join_absorbs x y h = below_antisym (join x y) x (join_least x y x (below_refl x) h) (join_left x y)

pub join_of_less : (x x' y y' : Fact) → IsBelow x x' → IsBelow y y' → IsBelow (join x y) (join x' y')
join_of_less x x' y y' h g =
    join_least x y (join x' y') (below_trans x x' (join x' y') h (join_left x' y')) (below_trans y y' (join x' y') g (join_right x' y'))

pub join_assoc : (x y z : Fact) → join (join x y) z ≡ join x (join y z)
join_assoc x y z =
    let right = join x (join y z) in
    let left = join (join x y) z in
    below_antisym left right
    (join_least (join x y) z right
    (join_of_less x x y (join y z) (below_refl x) (join_left y z))
    (below_trans z (join y z) right (join_right y z) (join_right x (join y z))))
    (join_least x (join y z) left
    (below_trans x (join x y) left (join_left x y) (join_left (join x y) z))
    (join_of_less y (join x y) z z (join_right x y) (below_refl z)))

pub join_none : (x : Fact) → join x Unreached ≡ x
join_none x = join_absorbs x Unreached tt

pub join_all_of_less : {X : Type 0} (f g : X → Fact) (xs : List X) → ((x : X) → IsBelow (f x) (g x)) → IsBelow (join_all (map f xs)) (join_all (map g xs))
join_all_of_less f g [] h = tt
join_all_of_less f g (x ∷ xs) h = join_of_less (f x) (g x) (join_all (map f xs)) (join_all (map g xs)) (h x) (join_all_of_less f g xs h)

-- one more fact is joined, as at a step of a loop
pub joins_next : {X : Type 0} (f : X → Fact) (xs : List X) (i : ℕ) (x : X) (before more after whole : Fact) → i < length xs → x ≡ get_or xs i x → more ≡ f x → after ≡ join before more
    → join before (join_all (map f (drop i xs))) ≡ whole → join after (join_all (map f (drop (i + 1) xs))) ≡ whole
joins_next f xs i x before more after whole within is said next h =
    let rest = join_all (map f (drop (i + 1) xs)) in
    ap (λ a. join a rest) next ∙ join_assoc before more rest ∙ ap (λ m. join before (join m rest)) said ∙ sym (ap (λ l. join before (join_all (map f l))) (drop_at xs i x within is)) ∙ h
