-- Bodies with the same results, the same ways and no other uses: what is definite in the one is in the other.
use Rattle.std.proofs.Common.{◌≡◌, ◌∙◌, inl, inr, ℕ, zero, suc, List, [], ◌∷◌, Contains, length, map, refl, ap, sym, subst, arith}
use Rattle.std.specs.Prelude.{slice_get}
use Rattle.ir_syntax.specs.declared.body.Block.{Block}
use Rattle.ir_syntax.specs.declared.body.Body.{Body}
use Rattle.ir_syntax.specs.Definite.{first_result, Use, uses, IsPath, IsDefinedOn, IsSurelyDefined, DefiniteBody}
use Rattle.ir_syntax.specs.Edges.{successors, successors_of}
use Rattle.ir_syntax.specs.Results.{block_results}
use Rattle.fold_facts.proofs.Arriving.{place_in, in_place}
use Rattle.fold_facts.proofs.Numbers.{first_zero, first_cons}
use Rattle.residual_laws.specs.Mapping.{IsLikeIn}
use Rattle.residual_laws.proofs.Every.{all_of_every, every_of_all, every_at, every_by}

first_same : (xs ys : List Block) → map block_results xs ≡ map block_results ys → (k : ℕ) → first_result xs k ≡ first_result ys k
first_same [] [] same k = refl
first_same [] (y ∷ ys) same k = cc
first_same (x ∷ xs) [] same k = cc
first_same (x ∷ xs) (y ∷ ys) same zero = first_zero (x ∷ xs) ∙ sym (first_zero (y ∷ ys))
first_same (x ∷ xs) (y ∷ ys) same (suc k) =
    let one : block_results x ≡ block_results y = cc in
    let more : map block_results xs ≡ map block_results ys = cc in
    let long : length (block_results x) ≡ length (block_results y) = ap length one in
    omega (arith, first_cons x xs k, first_cons y ys k, long, first_same xs ys more k)

goes_same : (xs ys : List Block) → map (λ block. successors block.term) xs ≡ map (λ block. successors block.term) ys → (k : ℕ) → successors_of (slice_get xs k) ≡ successors_of (slice_get ys k)
goes_same [] [] same k = refl
goes_same [] (y ∷ ys) same k = cc
goes_same (x ∷ xs) [] same k = cc
goes_same (x ∷ xs) (y ∷ ys) same zero = head same
  where
    head : (successors x.term ∷ map (λ (block : Block). successors block.term) xs) ≡ (successors y.term ∷ map (λ (block : Block). successors block.term) ys) → successors x.term ≡ successors y.term
    head h = cc
goes_same (x ∷ xs) (y ∷ ys) same (suc k) = goes_same xs ys (tail same) k
  where
    tail : (successors x.term ∷ map (λ (block : Block). successors block.term) xs) ≡ (successors y.term ∷ map (λ (block : Block). successors block.term) ys)
        → map (λ (block : Block). successors block.term) xs ≡ map (λ (block : Block). successors block.term) ys
    tail h = cc

path_same : (before after : Body) → IsLikeIn before after → (path : List ℕ) → IsPath after.blocks path → IsPath before.blocks path
path_same before after h [] p = p
path_same before after h (place ∷ []) p = p
path_same before after h (place ∷ from ∷ more) p = (subst (λ l. Contains l place) (goes_same after.blocks before.blocks h.ways from) p.0, path_same before after h (from ∷ more) p.1)

defined_same : (before after : Body) → IsLikeIn before after → (visited : List ℕ) (u : Use) → IsDefinedOn before.blocks visited u → IsDefinedOn after.blocks visited u
defined_same before after h visited u (inl (place, c, d)) = inl (place, c, (omega (arith, d.0, first_same after.blocks before.blocks h.results place), omega (arith, d.1, first_same after.blocks before.blocks h.results (suc place))))
defined_same before after h visited u (inr d) = inr (omega (arith, d.0, first_same after.blocks before.blocks h.results u.place), d.1)

pub definite_kept : (before after : Body) → IsLikeIn before after → DefiniteBody before → DefiniteBody after
definite_kept before after h definite =
    all_of_every (IsSurelyDefined after.blocks) (uses after.blocks) (every_by (IsSurelyDefined after.blocks) (uses after.blocks) (λ k u is visited path.
    let was = place_in (uses before.blocks) u (h.uses u (in_place (uses after.blocks) k u is)) in
    let sure : IsSurelyDefined before.blocks u = every_at (IsSurelyDefined before.blocks) (uses before.blocks) was.0 u (every_of_all (IsSurelyDefined before.blocks) (uses before.blocks) definite) was.1 in
    defined_same before after h visited u (sure visited (path_same before after h (u.place ∷ visited) path))))
