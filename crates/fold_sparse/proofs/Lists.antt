-- Lists that are listed one after another.
use Rattle.std.proofs.Common.{◌≡◌, ◌∙◌, ℕ, ◌+◌, List, [], ◌∷◌, ◌++◌, Some, map, drop, refl, sym, ap}
use Rattle.std.specs.Prelude.{slice_get}
use Rattle.ir_types.proofs.ListSteps.{drop_at}
use Rattle.std.proofs.lemmas.Option.{get_or_from_slice_get}
use Rattle.ir_syntax.specs.declared.constant.Operand.{Operand}
use Rattle.ir_syntax.specs.declared.constant.Operand.TheVariants as operand
use Rattle.fold_facts.proofs.Lists.{within}
use Rattle.fold_sparse.specs.Looks.{paired, registers}

pub assoc : {A : Type 0} (xs ys zs : List A) → (xs ++ ys) ++ zs ≡ xs ++ (ys ++ zs)
assoc [] ys zs = refl
assoc (x ∷ xs) ys zs = ap (λ l. x ∷ l) (assoc xs ys zs)

pub drop_get : {A : Type 0} (xs : List A) (k : ℕ) (x : A) → slice_get xs k ≡ Some x → drop k xs ≡ x ∷ drop (k + 1) xs
drop_get xs k x h = drop_at xs k x (within xs k x h) (sym (get_or_from_slice_get xs k x x h))

pub map_append : {A B : Type 0} (f : A → B) (xs ys : List A) → map f (xs ++ ys) ≡ map f xs ++ map f ys
map_append f [] ys = refl
map_append f (x ∷ xs) ys = ap (λ l. f x ∷ l) (map_append f xs ys)

pub registers_cons : (o : Operand) (os : List Operand) → registers (o ∷ os) ≡ registers (o ∷ []) ++ registers os
registers_cons (operand.Param k) os = refl
registers_cons (operand.Reg k) os = refl
registers_cons (operand.Const c) os = refl

pub uses_next : (l k : ℕ) (os : List Operand) (o : Operand) (before after whole : List (ℕ × ℕ)) → slice_get os k ≡ Some o → after ≡ before ++ paired l (registers (o ∷ []))
    → before ++ paired l (registers (drop k os)) ≡ whole → after ++ paired l (registers (drop (k + 1) os)) ≡ whole
uses_next l k os o before after whole is made h =
    let rest : registers (drop k os) ≡ registers (o ∷ []) ++ registers (drop (k + 1) os) = ap registers (drop_get os k o is) ∙ registers_cons o (drop (k + 1) os) in
    ap (λ p. p ++ paired l (registers (drop (k + 1) os))) made
    ∙ assoc before (paired l (registers (o ∷ []))) (paired l (registers (drop (k + 1) os)))
    ∙ ap (λ p. before ++ p) (sym (map_append (λ key. (key, l)) (registers (o ∷ [])) (registers (drop (k + 1) os))))
    ∙ ap (λ p. before ++ paired l p) (sym rest)
    ∙ h
