-- What a manifest's text says of a plan.
use Rattle.std.proofs.Common.{◌≡◌, ℕ, zero, suc, ◌<◌, ◌≤◌, inl, inr, List, [], ◌∷◌, length, Option, Some, None, Result, Ok, IsUtf8, All, codes, slice_index_or, arith, sym, subst}
use Rattle.std.specs.Prelude.{MatchOption, IfSome}
use Rattle.std.specs.Str.{IsAscii}
use Rattle.std.proofs.lemmas.Str.{IsUtf8-from_ascii}
use Rattle.std.proofs.lemmas.List.Elements.{recursion_from_All}
use Rattle.std.specs.List.{AllByRecursion}
use Rattle.ir_types.specs.declared.scalar.Known.{Known}
use Rattle.manifest.specs.declared.fault.Manifest.{Manifest}
use Rattle.manifest.specs.declared.fault.ManifestFault.{ManifestFault}
use Rattle.manifest.specs.Manifest.{HasManifest, IsOrWantsMemory}
use Rattle.manifest.specs.Names.{IsModuleByte, IsModuleName}
use Rattle.occam_tool.specs.declared.plan.Plan.{Plan}
use Rattle.occam_tool.specs.Manifests.{IsSingle, IsNoSingle, PlanOf}

same_manifest : (m other : Manifest) → (let answer : Result Manifest ManifestFault = Ok m in IsOrWantsMemory answer (Ok other)) → m ≡ other
same_manifest m other (inl e) = cc
same_manifest m other (inr e) = cc

-- a text has one manifest, so the plan of it is the plan of the text
pub plan_gives : (text : List ℕ) (m : Manifest) (plan : Option Plan) → length text ≤ 1048576 → HasManifest text m
    → ((other : Manifest) → HasManifest text other → (let answer : Result Manifest ManifestFault = Ok m in IsOrWantsMemory answer (Ok other)))
    → MatchOption plan (IsNoSingle m) (λ p. IsSingle m p.file p.entry p.args) → PlanOf text plan
plan_gives text m None small is only h = λ file entry args single.
    h file entry args (subst (λ x. IsSingle x file entry args) (sym (same_manifest m single.manifest (only single.manifest single.is))) single.single)
plan_gives text m (Some p) small is only h = record { size = small; manifest = m; is = is; single = h }

mark_small : (b k : ℕ) → slice_index_or (codes "._/-") k b ≡ b → k < 4 → b < 128
mark_small b zero e h = omega arith
mark_small b (suc zero) e h = omega arith
mark_small b (suc (suc zero)) e h = omega arith
mark_small b (suc (suc (suc zero))) e h = omega arith
mark_small b (suc (suc (suc (suc k)))) e h = omega arith

module_byte_small : (b : ℕ) → IsModuleByte b → b < 128
module_byte_small b (inl (inl (inl h))) = omega arith
module_byte_small b (inl (inl (inr h))) = omega arith
module_byte_small b (inl (inr h)) = omega arith
module_byte_small b (inr h) = mark_small b h.0 h.2 h.1

name_ascii : (bs : List ℕ) → AllByRecursion IsModuleByte bs → IsAscii bs
name_ascii [] h i = omega arith
name_ascii (b ∷ bs) h zero = module_byte_small b h.0
name_ascii (b ∷ bs) h (suc i) = name_ascii bs h.1 i

one_named : (names : List (List ℕ)) (file : List ℕ) → names ≡ file ∷ [] → All IsModuleName names → IsModuleName file
one_named names file e h = (recursion_from_All IsModuleName (file ∷ []) (subst (All IsModuleName) e h)).0

file_text : (text : List ℕ) (m : Manifest) (file entry : List ℕ) (args : List Known) → HasManifest text m → IsSingle m file entry args → IsUtf8 file
file_text text m file entry args is single =
    let named = one_named m.modules file single.one_module is.2.modules.named in
    IsUtf8-from_ascii file (name_ascii file (recursion_from_All IsModuleByte file named.bytes))

-- a module's name is text
pub plan_text : (text : List ℕ) (m : Manifest) (plan : Option Plan) → HasManifest text m
    → MatchOption plan (IsNoSingle m) (λ p. IsSingle m p.file p.entry p.args) → IfSome plan (λ p. IsUtf8 p.file)
plan_text text m None is h = tt
plan_text text m (Some p) is h = file_text text m p.file p.entry p.args is h
