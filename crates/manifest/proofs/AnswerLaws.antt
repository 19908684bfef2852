-- The answer that is read off a value is its manifest or its first broken key, and a text has exactly one answer.
use Rattle.std.proofs.Common.{◌≡◌, ◌≢◌, ℕ, zero, suc, ◌<◌, ◌+◌, ◌⊎◌, List, codes, Option, Some, None, Result, Ok, Err, Bool, true, false, refl, sym, ◌∙◌, ap, subst, inl, inr, arith, true≢false}
use Rattle.std.specs.Prelude.{Decides, IfOk}
use Rattle.std.specs.Str.{is_utf8}
use Rattle.std.proofs.lemmas.Str.{IsUtf8-from_is_utf8, is_utf8-from_IsUtf8}
use Rattle.std.proofs.lemmas.Bool.{cases_order}
use Rattle.std.proofs.lemmas.Option.{none-some, same_Some}
use Rattle.serde_json.specs.Data.{Data}
use Rattle.serde_json.specs.Read.{read}
use Rattle.manifest.specs.Json.{HasValue, HasNoValue}
use Rattle.manifest.specs.Manifest.{ManifestOf, Keeps, rank, BreaksFirst, HasManifest, HasFirstBroken, IsAnswer, IsOrWantsMemory, AreModules, IsEntry, AreSymbols, manifest_keys}
use Rattle.manifest.specs.Reading.{tested, demanded, answer_of}
use Rattle.manifest.specs.declared.fault.Manifest.{Manifest}
use Rattle.manifest.specs.declared.fault.Key.{Key}
use Rattle.manifest.specs.declared.fault.Key.TheVariants.{Whole, Version, Modules, Entry, Exports, Outside, Other}
use Rattle.manifest.specs.declared.fault.ManifestFault.{ManifestFault}
use Rattle.manifest.specs.declared.fault.ManifestFault.TheVariants.{NotJson, BadManifest, OutOfMemory}
use Rattle.manifest.proofs.Found.{Finds}
use Rattle.manifest.proofs.JsonLaws.{only-Decides}
use Rattle.manifest.proofs.KeyLaws.{is_version_one-Decides, modules_of-Finds, entry_of-Finds, symbols_of-Finds}

abbrev Answer : Type 0
Answer = Result Manifest ManifestFault

-- ---- the order of the keys

abbrev key_at : ℕ → Key
key_at zero = Whole
key_at (suc zero) = Version
key_at (suc (suc zero)) = Modules
key_at (suc (suc (suc zero))) = Entry
key_at (suc (suc (suc (suc zero)))) = Exports
key_at (suc (suc (suc (suc (suc zero))))) = Outside
key_at (suc (suc (suc (suc (suc (suc n)))))) = Other

key_at-rank : (key : Key) → key_at (rank key) ≡ key
key_at-rank Whole = refl
key_at-rank Version = refl
key_at-rank Modules = refl
key_at-rank Entry = refl
key_at-rank Exports = refl
key_at-rank Outside = refl
key_at-rank Other = refl

same_rank : (j k : Key) → rank j ≡ rank k → j ≡ k
same_rank j k e = sym (key_at-rank j) ∙ ap key_at e ∙ key_at-rank k

-- the rules of the keys below a rank are kept
abbrev KeptBelow : Data → ℕ → Type 0
KeptBelow d n = (key : Key) → rank key < n → Keeps d key

one_more : (d : Data) (key : Key) → KeptBelow d (rank key) → Keeps d key → KeptBelow d (rank key + 1)
one_more d key below here other h =
    elim (cases_order (rank other) (rank key)) [
      | inl e ↦ subst (Keeps d) (sym (same_rank other key e)) here
      | inr (inl l) ↦ below other l
      | inr (inr l) ↦ absurd (omega arith)
    ]

-- ---- one rule after another

-- the answer is the manifest, if it is one, and the first broken key, if it is a refusal
pub record Judges (d : Data) (r : Answer) : Type 0 where
  ok : (m : Manifest) → r ≡ Ok m → ManifestOf d m
  first : (key : Key) → r ≡ Err (BadManifest key) → BreaksFirst d key
  no_other : (r ≢ Err NotJson) × (r ≢ Err OutOfMemory)

refuses : (d : Data) (key : Key) → KeptBelow d (rank key) → ¬ Keeps d key → Judges d (Err (BadManifest key))
refuses d key below broken = record {
  ok = λ m e. cc;
  first = λ other e. let same : key ≡ other = cc in subst (BreaksFirst d) same (record { broken = broken; kept = below });
  no_other = (λ e. cc, λ e. cc);
}

tested-Judges : (d : Data) (key : Key) (b : Bool) (rest : Answer) → Decides b (Keeps d key) → KeptBelow d (rank key) → (Keeps d key → KeptBelow d (rank key + 1) → Judges d rest) → Judges d (tested key b rest)
tested-Judges d key true rest decides below more = let here = decides.0 refl in more here (one_more d key below here)
tested-Judges d key false rest decides below more = refuses d key below (λ h. true≢false (sym (decides.1 h)))

demanded-Judges : {A : Type 0} (d : Data) (key : Key) (P : A → Type 0) (o : Option A) (rest : A → Answer) → Finds o P → ((x : A) → P x → Keeps d key) → (Keeps d key → (x : A) × P x)
    → KeptBelow d (rank key) → ((x : A) → P x → KeptBelow d (rank key + 1) → Judges d (rest x)) → Judges d (demanded key o rest)
demanded-Judges d key P None rest finds to from below more = refuses d key below (λ h. let p = from h in none-some p.0 (finds.again p.0 p.1))
demanded-Judges d key P (Some x) rest finds to from below more = let here = finds.found x refl in more x here (one_more d key below (to x here))

accepts : (d : Data) (m : Manifest) → ManifestOf d m → Judges d (Ok m)
accepts d m h = record {
  ok = λ other e. let same : m ≡ other = cc in subst (ManifestOf d) same h;
  first = λ key e. cc;
  no_other = (λ e. cc, λ e. cc);
}

pub answer_of-Judges : (d : Data) → Judges d (answer_of d)
answer_of-Judges d =
    tested-Judges d Whole _ _ (λ e. e, λ h. h) (λ key l. absurd (omega arith)) (λ whole k1.
    tested-Judges d Version _ _ (is_version_one-Decides d) k1 (λ version k2.
    demanded-Judges d Modules (AreModules d) _ _ (modules_of-Finds d) (λ x p. (x, p)) (λ h. h) k2 (λ modules are k3.
    demanded-Judges d Entry (λ (call : List ℕ × List (Option _)). IsEntry d call.0 call.1) _ _ (entry_of-Finds d) (λ x p. (x.0, x.1, p)) (λ h. ((h.0, h.1), h.2)) k3 (λ entry is k4.
    demanded-Judges d Exports (AreSymbols (codes "exports") d) _ _ (symbols_of-Finds (codes "exports") d) (λ x p. (x, p)) (λ h. h) k4 (λ exports see k5.
    demanded-Judges d Outside (AreSymbols (codes "outside") d) _ _ (symbols_of-Finds (codes "outside") d) (λ x p. (x, p)) (λ h. h) k5 (λ outside give k6.
    tested-Judges d Other _ _ (only-Decides manifest_keys d) k6 (λ others k7.
    accepts d _ (record { whole = whole; version = version; modules = are; entry = is; exports = see; outside = give; others = others }))))))))

-- ---- one answer for a value

tested-again : (key : Key) (b : Bool) (rest r : Answer) → b ≡ true → rest ≡ r → tested key b rest ≡ r
tested-again key b rest r t e = rw t e

demanded-again : {A : Type 0} (key : Key) (o : Option A) (rest : A → Answer) (x : A) (r : Answer) → o ≡ Some x → rest x ≡ r → demanded key o rest ≡ r
demanded-again key o rest x r t e = rw t e

pub answer_of-again : (d : Data) (m : Manifest) → ManifestOf d m → answer_of d ≡ Ok m
answer_of-again d m h =
    tested-again Whole _ _ _ h.whole (
    tested-again Version _ _ _ ((is_version_one-Decides d).1 h.version) (
    demanded-again Modules _ _ m.modules _ ((modules_of-Finds d).again _ h.modules) (
    demanded-again Entry _ _ (m.entry, m.args) _ ((entry_of-Finds d).again (m.entry, m.args) h.entry) (
    demanded-again Exports _ _ m.exports _ ((symbols_of-Finds (codes "exports") d).again _ h.exports) (
    demanded-again Outside _ _ m.outside _ ((symbols_of-Finds (codes "outside") d).again _ h.outside) (
    tested-again Other _ _ _ ((only-Decides manifest_keys d).1 h.others) refl))))))

keeps_all : (d : Data) (m : Manifest) → ManifestOf d m → (key : Key) → Keeps d key
keeps_all d m h Whole = h.whole
keeps_all d m h Version = h.version
keeps_all d m h Modules = (m.modules, h.modules)
keeps_all d m h Entry = (m.entry, m.args, h.entry)
keeps_all d m h Exports = (m.exports, h.exports)
keeps_all d m h Outside = (m.outside, h.outside)
keeps_all d m h Other = h.others

same_first : (d : Data) (j k : Key) → BreaksFirst d j → BreaksFirst d k → j ≡ k
same_first d j k a b =
    elim (cases_order (rank j) (rank k)) [
      | inl e ↦ same_rank j k e
      | inr (inl l) ↦ absurd (a.broken (b.kept j l))
      | inr (inr l) ↦ absurd (b.broken (a.kept k l))
    ]

refused_again : (d : Data) (key : Key) → BreaksFirst d key → (r : Answer) → Judges d r → r ≡ Err (BadManifest key)
refused_again d key h (Ok m) j = absurd (h.broken (keeps_all d m (j.ok m refl) key))
refused_again d key h (Err NotJson) j = absurd (j.no_other.0 refl)
refused_again d key h (Err (BadManifest other)) j = ap (λ k. Err (BadManifest k)) (same_first d other key (j.first other refl) h)
refused_again d key h (Err OutOfMemory) j = absurd (j.no_other.1 refl)

-- ---- one answer for a text

same_value : (text : List ℕ) (a b : Data) → HasValue text a → HasValue text b → a ≡ b
same_value text a b p q = same_Some a b (sym p.1 ∙ q.1)

-- the answer of the text's value is the one answer of the text
pub answer_is : (text : List ℕ) (d : Data) → HasValue text d → (answer : Answer) → IsAnswer text answer → answer_of d ≡ answer
answer_is text d has (Ok m) h = ap answer_of (same_value text d h.0 has h.1) ∙ answer_of-again h.0 m h.2
answer_is text d has (Err NotJson) h = absurd (h d has)
answer_is text d has (Err (BadManifest key)) h = ap answer_of (same_value text d h.0 has h.1) ∙ refused_again h.0 key h.2 (answer_of h.0) (answer_of-Judges h.0)
answer_is text d has (Err OutOfMemory) h = absurd h

-- what is read off the value answers the text
answers : (text : List ℕ) (d : Data) → HasValue text d → (r : Answer) → Judges d r → IsAnswer text r
answers text d has (Ok m) j = (d, has, j.ok m refl)
answers text d has (Err NotJson) j = absurd (j.no_other.0 refl)
answers text d has (Err (BadManifest key)) j = (d, has, j.first key refl)
answers text d has (Err OutOfMemory) j = absurd (j.no_other.1 refl)

value_or_none : (text : List ℕ) (b : Bool) → is_utf8 text ≡ b → (o : Option Data) → read text ≡ o → ((d : Data) × HasValue text d) ⊎ HasNoValue text
value_or_none text false u o e = inr (λ d has. true≢false (sym (is_utf8-from_IsUtf8 text has.0) ∙ u))
value_or_none text true u None e = inr (λ d has. none-some d (sym e ∙ has.1))
value_or_none text true u (Some d) e = inl (d, (IsUtf8-from_is_utf8 text u, e))

pub some_answer : (text : List ℕ) → (answer : Answer) × IsAnswer text answer
some_answer text =
    elim (value_or_none text _ refl _ refl) [
      | inl has ↦ (answer_of has.0, answers text has.0 has.1 _ (answer_of-Judges has.0))
      | inr none ↦ (Err NotJson, none)
    ]

no_value_answer : (text : List ℕ) → HasNoValue text → (answer : Answer) → IsAnswer text answer → answer ≡ Err NotJson
no_value_answer text none (Ok m) h = absurd (none h.0 h.1)
no_value_answer text none (Err NotJson) h = refl
no_value_answer text none (Err (BadManifest key)) h = absurd (none h.0 h.1)
no_value_answer text none (Err OutOfMemory) h = absurd h

pub one_answer : (text : List ℕ) (a b : Answer) → IsAnswer text a → IsAnswer text b → a ≡ b
one_answer text a b p q =
    elim (value_or_none text _ refl _ refl) [
      | inl has ↦ sym (answer_is text has.0 has.1 a p) ∙ answer_is text has.0 has.1 b q
      | inr none ↦ no_value_answer text none a p ∙ sym (no_value_answer text none b q)
    ]

-- ---- what was answered, where memory may have been wanting

pub IsAnswer-result : (text : List ℕ) (d : Data) → HasValue text d → (r : Answer) → (r ≢ Err OutOfMemory → r ≡ answer_of d) → r ≢ Err OutOfMemory → IsAnswer text r
IsAnswer-result text d has r is ample = subst (IsAnswer text) (sym (is ample)) (answers text d has _ (answer_of-Judges d))

pub IsOrWantsMemory-answer : (text : List ℕ) (d : Data) → HasValue text d → (r : Answer) → (r ≢ Err OutOfMemory → r ≡ answer_of d) → (answer : Answer) → IsAnswer text answer → IsOrWantsMemory r answer
IsOrWantsMemory-answer text d has (Ok m) is answer h = inl (is (λ e. cc) ∙ answer_is text d has answer h)
IsOrWantsMemory-answer text d has (Err NotJson) is answer h = inl (is (λ e. cc) ∙ answer_is text d has answer h)
IsOrWantsMemory-answer text d has (Err (BadManifest key)) is answer h = inl (is (λ e. cc) ∙ answer_is text d has answer h)
IsOrWantsMemory-answer text d has (Err OutOfMemory) is answer h = inr refl

pub manifest_at : (text : List ℕ) (r : Answer) → (r ≢ Err OutOfMemory → IsAnswer text r) → IfOk r (HasManifest text)
manifest_at text (Ok m) h = h (λ e. cc)
manifest_at text (Err fault) h = tt

pub bad_at : (text : List ℕ) (r : Answer) → (r ≢ Err OutOfMemory → IsAnswer text r) → (key : Key) → r ≡ Err (BadManifest key) → HasFirstBroken text key
bad_at text r h key e = subst (IsAnswer text) e (h (λ f. cc))
