-- What the file of a manifest says.
use Rattle.std.proofs.Common.{◌≡◌, ℕ, zero, suc, ◌<◌, inl, inr, List, [], ◌∷◌, All, Option, Some, None, Result, Ok, Err, IsUtf8, codes, slice_index_or, arith}
use Rattle.std.specs.Str.{IsAscii}
use Rattle.std.specs.List.{AllByRecursion}
use Rattle.std.proofs.lemmas.Str.{IsUtf8-from_ascii}
use Rattle.std.proofs.lemmas.List.Elements.{All-weaker, recursion_from_All}
use Rattle.occam_base.specs.Files.{FileMap, file_of}
use Rattle.manifest.specs.declared.fault.Manifest.{Manifest}
use Rattle.manifest.specs.Manifest.{HasManifest}
use Rattle.manifest.specs.Names.{IsModuleByte, IsModuleName}
use Rattle.program_loader.specs.declared.refusal.Refusal.{Refusal}
use Rattle.program_loader.specs.Loading.{IsManifestFile, RefusesManifest}
use Rattle.program_loader.specs.Loading.{RefusesManifest as manifest}
use Rattle.program_loader.specs.Steps.{StopsAt, TextOf, ManifestGives, DeploymentGives, DeploymentOf}

-- ---- names of modules are text

mark_small : (b k : ℕ) → slice_index_or (codes "._/-") k b ≡ b → k < 4 → b < 128
mark_small b zero e h = omega arith
mark_small b (suc zero) e h = omega arith
mark_small b (suc (suc zero)) e h = omega arith
mark_small b (suc (suc (suc zero))) e h = omega arith
mark_small b (suc (suc (suc (suc k)))) e h = omega arith

module_byte_small : (b : ℕ) → IsModuleByte b → b < 128
module_byte_small b (inl (inl (inl h))) = omega arith
module_byte_small b (inl (inl (inr h))) = omega arith
module_byte_small b (inl (inr h)) = omega arith
module_byte_small b (inr h) = mark_small b h.0 h.2 h.1

name_ascii : (bs : List ℕ) → AllByRecursion IsModuleByte bs → IsAscii bs
name_ascii [] h i = omega arith
name_ascii (b ∷ bs) h zero = module_byte_small b h.0
name_ascii (b ∷ bs) h (suc i) = name_ascii bs h.1 i

name_text : (name : List ℕ) → IsModuleName name → IsUtf8 name
name_text name h = IsUtf8-from_ascii name (name_ascii name (recursion_from_All IsModuleByte name h.bytes))

pub names_are_text : (text : List ℕ) (m : Manifest) → HasManifest text m → All IsUtf8 m.modules
names_are_text text m h = All-weaker IsModuleName IsUtf8 name_text m.modules h.2.modules.named

-- ---- the manifest's file

stopped_at : (files : FileMap) (name : List ℕ) (file : Option (List ℕ)) (r : Refusal) → file_of files name ≡ file → StopsAt file 1048576 name r → RefusesManifest files name r
stopped_at files name None r held h = manifest.ManifestAbsent held h
stopped_at files name (Some text) r held h = manifest.ManifestTooLarge text held h.0 h.1

-- a file that isn't read
pub deployment_stopped : (files : Option FileMap) (name : List ℕ) (r : Refusal) → TextOf files 1048576 name (Err r) → DeploymentOf files name (Err r)
deployment_stopped None name r h = tt
deployment_stopped (Some files) name r (inl h) = inl (stopped_at files name (file_of files name) r (let e : file_of files name ≡ file_of files name = cc in e) h)
deployment_stopped (Some files) name r (inr h) = inr h

read_of : (files : FileMap) (name text : List ℕ) (answer : Result Manifest Refusal) → IsManifestFile files name text → ManifestGives text answer → DeploymentGives files name answer
read_of files name text (Ok m) file h = record { text = text; file = file; is = h }
read_of files name text (Err r) file (inl h) = inl (manifest.NotJson text file h.0 h.1)
read_of files name text (Err r) file (inr (inl h)) = inl (manifest.BadManifest text h.0 file h.1 h.2)
read_of files name text (Err r) file (inr (inr h)) = inr (inr h)

-- a file that is read
pub deployment_read : (files : Option FileMap) (name text : List ℕ) (answer : Result Manifest Refusal) → TextOf files 1048576 name (Ok text) → ManifestGives text answer → DeploymentOf files name answer
deployment_read None name text answer h told = tt
deployment_read (Some files) name text answer h told = read_of files name text answer (record { held = h.0; size = h.1 }) told
