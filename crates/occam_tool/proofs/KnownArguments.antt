-- What is known of arguments, one after another.
use Rattle.std.proofs.Common.{rules, arith, ◌≡◌, ◌∙◌, ℕ, suc, ◌+◌, ◌-◌, ◌^◌, ◌<◌, ◌≤◌, ℤ, pos, negsuc, List, [], ◌∷◌, ◌++◌, All, length, map, take, get_or, Option, Some, None, Result, Ok, Err, sym, ap, subst}
use Rattle.std.specs.Prelude.{IfOk, IfSome, MatchOption, IsUtf8}
use Rattle.std.proofs.lemmas.List.{take_more, map-append}
use Rattle.std.specs.List.{AllByRecursion}
use Rattle.std.proofs.lemmas.List.Elements.{All-append, All-from_recursion, recursion_from_All}
use Rattle.ir_types.specs.declared.scalar.Known.{Known}
use Rattle.ir_types.specs.declared.memory.OutOfMemory.{OutOfMemory}
use Rattle.manifest.specs.declared.fault.Manifest.{Manifest}
use Rattle.manifest.specs.declared.fault.ManifestFault.{ManifestFault}
use Rattle.manifest.specs.Manifest.{HasManifest, IsOrWantsMemory}
use Rattle.occam_tool.specs.declared.plan.Plan.{Plan}
use Rattle.occam_tool.specs.Entering.{IsKnownWord, AreWords}
use Rattle.occam_tool.specs.Manifests.{IsWord, known_arg, IsSingle, IsNoSingle, PlanOf}
use Rattle.occam_tool.proofs.Plans.{plan_gives, plan_text}

one_word : (arg : Option ℤ) → IsWord arg → All IsWord (arg ∷ [])
one_word arg h = search rules

pub words_more : (args : List (Option ℤ)) (k : ℕ) (d arg : Option ℤ) → k < length args → arg ≡ get_or args k d → All IsWord (take k args) → IsWord arg → All IsWord (take (k + 1) args)
words_more args k d arg l e h w =
    subst (All IsWord) (sym (take_more args k d l)) (All-append IsWord (take k args) (get_or args k d ∷ []) h (one_word (get_or args k d) (subst IsWord e w)))

pub known_more : (args : List (Option ℤ)) (known : List Known) (k : ℕ) (d arg : Option ℤ) (value : Known) → k < length args → arg ≡ get_or args k d → known ≡ map known_arg (take k args) → value ≡ known_arg arg
    → known ++ value ∷ [] ≡ map known_arg (take (k + 1) args)
known_more args known k d arg value l e h w =
    (λ i. h i ++ (w ∙ ap known_arg e) i ∷ []) ∙ sym (map-append known_arg (take k args) (get_or args k d ∷ [])) ∙ ap (map known_arg) (sym (take_more args k d l))

pub plan_result : (text : List ℕ) (m : Manifest) (answer : Result (Option Plan) OutOfMemory) → length text ≤ 1048576 → HasManifest text m
    → ((other : Manifest) → HasManifest text other → (let a : Result Manifest ManifestFault = Ok m in IsOrWantsMemory a (Ok other)))
    → IfOk answer (λ plan. MatchOption plan (IsNoSingle m) (λ p. IsSingle m p.file p.entry p.args)) → IfOk answer (PlanOf text)
plan_result text m (Ok plan) small is only h = plan_gives text m plan small is only h
plan_result text m (Err e) small is only h = tt

pub text_result : (text : List ℕ) (m : Manifest) (answer : Result (Option Plan) OutOfMemory) → HasManifest text m
    → IfOk answer (λ plan. MatchOption plan (IsNoSingle m) (λ p. IsSingle m p.file p.entry p.args)) → IfOk answer (λ plan. IfSome plan (λ p. IsUtf8 p.file))
text_result text m (Ok plan) is h = plan_text text m plan is h
text_result text m (Err e) is h = tt

-- ---- known arguments are words

less_wrapped : (n : ℕ) → 2 ^ 32 - suc n < 2 ^ 32
less_wrapped n = omega arith

known_word : (arg : Option ℤ) → IsWord arg → IsKnownWord (known_arg arg)
known_word None h = tt
known_word (Some (pos n)) h = h
known_word (Some (negsuc n)) h = less_wrapped n

pub known_words : (args : List (Option ℤ)) → AllByRecursion IsWord args → AllByRecursion IsKnownWord (map known_arg args)
known_words [] h = tt
known_words (arg ∷ args) h = (known_word arg h.0, known_words args h.1)

single_words : (m : Manifest) (file entry : List ℕ) (args : List Known) → IsSingle m file entry args → AreWords args
single_words m file entry args single =
    subst AreWords (sym single.args_are) (All-from_recursion IsKnownWord (map known_arg m.args) (known_words m.args (recursion_from_All IsWord m.args single.words)))

plan_words : (m : Manifest) (plan : Option Plan) → MatchOption plan (IsNoSingle m) (λ p. IsSingle m p.file p.entry p.args) → IfSome plan (λ p. AreWords p.args)
plan_words m None h = tt
plan_words m (Some p) h = single_words m p.file p.entry p.args h

pub words_result : (m : Manifest) (answer : Result (Option Plan) OutOfMemory) → IfOk answer (λ plan. MatchOption plan (IsNoSingle m) (λ p. IsSingle m p.file p.entry p.args))
    → IfOk answer (λ plan. IfSome plan (λ p. AreWords p.args))
words_result m (Ok plan) h = plan_words m plan h
words_result m (Err e) h = tt
