use Rattle.std.proofs.Common.{◌≡◌, ◌∙◌, ◌+◌, ℕ, List, map, length, subst, sym, ap, arith, Some, None}
use Rattle.std.specs.Prelude.{IsTrue}
use Rattle.name_table.specs.Places.{are_distinct}
use Rattle.ir_types.specs.declared.shape.Ty.{Ty}
use Rattle.ir_scope.specs.Doubled.{IsFirstDoubled, IsDoubled, OfTypes, OfSymbols}
use Rattle.ir_scope.proofs.Placing.{entries_by, length-by}
use Rattle.ir_scope.proofs.scope.Scope.new.Goals as goal

pub returns-in-Some-clause-doubled : goal.returns-in-Some-clause-doubled
returns-in-Some-clause-doubled c =
    let types : c.scope.inside.types ≡ c.args.types = ap (λ n. n.types) (c.scope.view_is ∙ c.in-Ok.ensures.made) in
    OfTypes (subst (λ (ts : List (List ℕ × Ty)). IsFirstDoubled (map (λ t. t.0) ts) c.in-Some.at) types (c.scope.inside.typed.doubles c.in-Some.at (sym c.doubled.ensures.value ∙ c.in-Some.is)))

pub returns-in-None-clause-distinct_types : goal.returns-in-None-clause-distinct_types
returns-in-None-clause-distinct_types c =
    let types : c.scope.inside.types ≡ c.args.types = ap (λ n. n.types) (c.scope.view_is ∙ c.in-Ok.ensures.made) in
    subst (λ (ts : List (List ℕ × Ty)). IsTrue (are_distinct (map (λ t. t.0) ts))) types (c.scope.inside.typed.distinct (sym c.doubled.ensures.value ∙ c.in_default.is))

pub returns-in-Some-doubled-clause-doubled : goal.returns-in-Some-doubled-clause-doubled
returns-in-Some-doubled-clause-doubled c =
    let types : c.scope.inside.types ≡ c.args.types = ap (λ n. n.types) (c.scope.view_is ∙ c.in-Ok.ensures.made) in
    let symbols : c.scope.inside.symbols ≡ c.args.symbols = ap (λ n. n.symbols) (c.scope.view_is ∙ c.in-Ok.ensures.made) in
    let count : c.len.result ≡ length (map (λ t. t.0) c.args.types) =
    c.len.ensures.value ∙ (sym (length-by (λ v. v.items) c.scope.inside.type_places.first.entries) ∙ (c.scope.inside.typed.count (sym c.doubled.ensures.value ∙ c.in_default.is) ∙ ap (λ (ts : List (List ℕ × Ty)). length (map (λ t. t.0) ts)) types)) in
    OfSymbols c.in-Some-doubled.place
    (subst (λ (ts : List (List ℕ × Ty)). IsTrue (are_distinct (map (λ t. t.0) ts))) types (c.scope.inside.typed.distinct (sym c.doubled.ensures.value ∙ c.in_default.is)))
    (subst (λ (ns : List (List ℕ)). IsFirstDoubled ns c.in-Some-doubled.place) symbols (c.scope.inside.named.doubles c.in-Some-doubled.place (sym c.doubled-2.ensures.value ∙ c.in-Some-doubled.is)))
    (ap (λ n. n + c.in-Some-doubled.place) count)
