-- The files give one answer at most.
use Rattle.std.proofs.Common.{◌≡◌, ◌∙◌, ℕ, zero, suc, ◌+◌, ◌<◌, ◌≤◌, ◌⊎◌, inl, inr, List, [], ◌∷◌, ◌++◌, All, length, take, sum_by, Option, Some, None, Result, Ok, Err, sym, ap, subst, arith, add-zero}
use Rattle.std.specs.List.{AllZip, slice_get}
use Rattle.std.proofs.lemmas.Bool.{cases_lt}
use Rattle.std.proofs.lemmas.List.Elements.{All-head, All-tail}
use Rattle.std.proofs.lemmas.List.Sums.{sum_by-cons}
use Rattle.occam_base.specs.declared.code.Code.TheVariants as code
use Rattle.occam_base.specs.Files.{FileMap, file_of}
use Rattle.ir_syntax.specs.declared.item.Module.{Module}
use Rattle.ir_syntax.specs.Refusals.{Deployment, Rule, IsRefused}
use Rattle.ir_syntax.specs.Programs.{ProgramData, Linked}
use Rattle.ir_lexer.specs.Tokens.{IsBadByte}
use Rattle.ir_parser.specs.Spelled.{Spells, IsNotInSubset}
use Rattle.manifest.specs.declared.fault.Manifest.{Manifest}
use Rattle.manifest.specs.declared.fault.ManifestFault.{ManifestFault}
use Rattle.manifest.specs.declared.fault.ManifestFault.TheVariants as fault
use Rattle.manifest.specs.Manifest.{HasManifest, IsAnswer}
use Rattle.program_loader.specs.declared.refusal.Detail.TheVariants as detail
use Rattle.program_loader.specs.declared.refusal.Refusal.{Refusal}
use Rattle.program_loader.specs.Refusing.{refusal}
use Rattle.program_loader.specs.Loading.{manifest_limit, module_limit, modules_limit, IsDeployed, RefusesManifest, AreTexts, StopsReading, RefusesFile}
use Rattle.program_loader.specs.Loading.{RefusesManifest as manifest}
use Rattle.program_loader.proofs.Lists.{zip_one}

-- ---- the laws of the crates below

abbrev pub OneManifest : Type 0
OneManifest = (bytes : List ℕ) (first second : Result Manifest ManifestFault) → IsAnswer bytes first → IsAnswer bytes second → first ≡ second

abbrev pub OneBadByte : Type 0
OneBadByte = (bytes : List ℕ) (at other : ℕ) → IsBadByte bytes at → IsBadByte bytes other → at ≡ other

abbrev pub OneModule : Type 0
OneModule = (bytes : List ℕ) (m n : Module) → Spells bytes m → Spells bytes n → m ≡ n

abbrev pub NoBadByte : Type 0
NoBadByte = (bytes : List ℕ) (m : Module) (at : ℕ) → Spells bytes m → IsBadByte bytes at → ⊥

abbrev pub InSubset : Type 0
InSubset = (bytes : List ℕ) (m : Module) (entity : ℕ) → Spells bytes m → IsNotInSubset bytes entity → ⊥

abbrev pub OneEntity : Type 0
OneEntity = (bytes : List ℕ) (entity other : ℕ) → IsNotInSubset bytes entity → IsNotInSubset bytes other → entity ≡ other

abbrev pub EntityOrByte : Type 0
EntityOrByte = (bytes : List ℕ) (entity at : ℕ) → IsNotInSubset bytes entity → IsBadByte bytes at → ⊥

abbrev pub OneRefusal : Type 0
OneRefusal = (ms : List Module) (d : Deployment) (one other : Rule) (name again : List ℕ) → IsRefused ms d one name → IsRefused ms d other again → (one ≡ other) × (name ≡ again)

abbrev pub NotRefused : Type 0
NotRefused = (ms : List Module) (d : Deployment) (p : ProgramData) (one : Rule) (name : List ℕ) → Linked ms d p → IsRefused ms d one name → ⊥

-- ---- lists and options

pub some_one : {A : Type 0} (x y : A) → Some x ≡ Some y → x ≡ y
some_one x y h = cc

pub none_is : {A : Type 0} (x : A) → None ≡ Some x → ⊥
none_is x h = cc

-- an item before an end has what each before that end has
pub item_before : {A : Type 0} (P : A → Type 0) (xs : List A) (a b : ℕ) (x : A) → slice_get xs a ≡ Some x → All P (take b xs) → a < b → P x
item_before P [] a b x is all less = absurd (none_is x is)
item_before P (y ∷ xs) a zero x is all less = absurd (omega arith)
item_before P (y ∷ xs) zero (suc b) x is all less = subst P (some_one y x is) (All-head P y (take b xs) all)
item_before P (y ∷ xs) (suc a) (suc b) x is all less = item_before P xs a b x is (All-tail P y (take b xs) all) (omega arith)

pub every_item : {A : Type 0} (P : A → Type 0) (xs : List A) (a : ℕ) (x : A) → slice_get xs a ≡ Some x → All P xs → P x
every_item P [] a x is all = absurd (none_is x is)
every_item P (y ∷ xs) zero x is all = subst P (some_one y x is) (All-head P y xs all)
every_item P (y ∷ xs) (suc a) x is all = every_item P xs a x is (All-tail P y xs all)

-- a place is the first where something fails in one way
pub places_one : {A : Type 0} (P : A → Type 0) (xs : List A) (a b : ℕ) (x y : A) → slice_get xs a ≡ Some x → slice_get xs b ≡ Some y → All P (take a xs) → All P (take b xs) → (P x → ⊥) → (P y → ⊥) → a ≡ b
places_one P xs a b x y at_a at_b before_a before_b not_x not_y =
    elim (cases_lt a b) [
      | inl less ↦ absurd (not_x (item_before P xs a b x at_a before_b less))
      | inr most ↦ elim (cases_lt b a) [ inl less ↦ absurd (not_y (item_before P xs b a y at_b before_a less)) | inr least ↦ omega arith ]
    ]

-- ---- the manifest's file

held_one : (files : FileMap) (name one other : List ℕ) → file_of files name ≡ Some one → file_of files name ≡ Some other → one ≡ other
held_one files name one other h k = some_one one other (sym h ∙ k)

fault_refusal : ManifestFault → Refusal
fault_refusal fault.NotJson = refusal code.NotJson detail.Nothing
fault_refusal (fault.BadManifest key) = refusal code.BadManifest (detail.Key key)
fault_refusal fault.OutOfMemory = refusal code.OutOfMemory detail.Nothing

record AnswersRefusal (bytes : List ℕ) (r : Refusal) : Type 0 where
  pub fault_is : ManifestFault
  pub answers : IsAnswer bytes (Err fault_is)
  pub is : r ≡ fault_refusal fault_is

abbrev FileRefused : Option (List ℕ) → List ℕ → Refusal → Type 0
FileRefused None name r = r ≡ refusal code.Absent (detail.File name)
FileRefused (Some bytes) name r = ((manifest_limit < length bytes) × (r ≡ refusal code.TooLarge (detail.File name))) ⊎ ((length bytes ≤ manifest_limit) × AnswersRefusal bytes r)

abbrev HeldRefused : FileMap → List ℕ → Refusal → Type 0
HeldRefused files name r = FileRefused (file_of files name) name r

held_refused : (files : FileMap) (name : List ℕ) (o : Option (List ℕ)) (r : Refusal) → file_of files name ≡ o → FileRefused o name r → HeldRefused files name r
held_refused files name o r h is = subst (λ x. FileRefused x name r) (sym h) is

file_refused : (files : FileMap) (name : List ℕ) (r : Refusal) → RefusesManifest files name r → HeldRefused files name r
unfolding fault_refusal
file_refused files name r (manifest.ManifestAbsent absent is) = held_refused files name None r absent is
file_refused files name r (manifest.ManifestTooLarge bytes held large is) = held_refused files name (Some bytes) r held (inl (large, is))
file_refused files name r (manifest.NotJson bytes file none is) = held_refused files name (Some bytes) r file.held (inr (file.size, record { fault_is = fault.NotJson; answers = none; is = is }))
file_refused files name r (manifest.BadManifest bytes key file broken is) = held_refused files name (Some bytes) r file.held (inr (file.size, record { fault_is = fault.BadManifest key; answers = broken; is = is }))

err_one : {A B : Type 0} (e f : B) → (let one : Result A B = Err e in one ≡ Err f) → e ≡ f
err_one e f h = cc

module _ (one_manifest : OneManifest) where
  file_one : (o : Option (List ℕ)) (name : List ℕ) (r s : Refusal) → FileRefused o name r → FileRefused o name s → r ≡ s
  file_one None name r s a b = a ∙ sym b
  file_one (Some bytes) name r s (inl a) (inl b) = a.1 ∙ sym b.1
  file_one (Some bytes) name r s (inl a) (inr b) = absurd (omega (arith, a.0, b.0))
  file_one (Some bytes) name r s (inr a) (inl b) = absurd (omega (arith, a.0, b.0))
  file_one (Some bytes) name r s (inr a) (inr b) =
      a.1.is ∙ ap fault_refusal (err_one a.1.fault_is b.1.fault_is (one_manifest bytes (Err a.1.fault_is) (Err b.1.fault_is) a.1.answers b.1.answers)) ∙ sym b.1.is

  pub manifest_one : (files : FileMap) (name : List ℕ) (r s : Refusal) → RefusesManifest files name r → RefusesManifest files name s → r ≡ s
  manifest_one files name r s a b = file_one (file_of files name) name r s (file_refused files name r a) (file_refused files name s b)

  file_apart : (bytes name : List ℕ) (m : Manifest) (r : Refusal) → length bytes ≤ manifest_limit → HasManifest bytes m → FileRefused (Some bytes) name r → ⊥
  file_apart bytes name m r size is (inl a) = absurd (omega (arith, a.0, size))
  file_apart bytes name m r size is (inr a) = let e = one_manifest bytes (Err a.1.fault_is) (Ok m) a.1.answers is in cc

  pub manifest_apart : (files : FileMap) (name : List ℕ) (m : Manifest) (r : Refusal) → IsDeployed files name m → RefusesManifest files name r → ⊥
  manifest_apart files name m r d a = file_apart d.text name m r d.file.size d.is (subst (λ o. FileRefused o name r) d.file.held (file_refused files name r a))

  pub deployment_one : (files : FileMap) (name : List ℕ) (m n : Manifest) → IsDeployed files name m → IsDeployed files name n → m ≡ n
  deployment_one files name m n d e =
      let same : d.text ≡ e.text = held_one files name d.text e.text d.file.held e.file.held in
      let answers = one_manifest e.text (Ok m) (Ok n) (subst (λ t. HasManifest t m) same d.is) e.is in
      cc

-- ---- the files of the modules

-- A file behind so many bytes that is held and within the limits.
record IsGood (files : FileMap) (before : ℕ) (name bytes : List ℕ) : Type 0 where
  pub held : file_of files name ≡ Some bytes
  pub each : length bytes ≤ module_limit
  pub together : before + length bytes ≤ modules_limit

abbrev AreGood : FileMap → ℕ → List (List ℕ) → List (List ℕ) → Type 0
AreGood files before [] [] = Unit {0}
AreGood files before [] (t ∷ ts) = ⊥
AreGood files before (name ∷ names) [] = ⊥
AreGood files before (name ∷ names) (t ∷ ts) = IsGood files before name t × AreGood files (before + length t) names ts

-- the first file that stops the reading
abbrev StopsFirst : FileMap → ℕ → List (List ℕ) → Refusal → Type 0
StopsFirst files before [] r = ⊥
StopsFirst files before (name ∷ names) r = StopsReading (file_of files name) before name r ⊎ ((t : List ℕ) × IsGood files before name t × StopsFirst files (before + length t) names r)

are_good : (files : FileMap) (before : ℕ) (names texts : List (List ℕ)) → AllZip (λ name t. file_of files name ≡ Some t) names texts → All (λ t. length t ≤ module_limit) texts → before + sum_by length texts ≤ modules_limit
    → AreGood files before names texts
are_good files before [] [] held each together = tt
are_good files before [] (t ∷ ts) held each together = absurd held
are_good files before (name ∷ names) [] held each together = absurd held
are_good files before (name ∷ names) (t ∷ ts) held each together =
    let short : length t ≤ module_limit = All-head (λ t. length t ≤ module_limit) t ts each in
    let sum : sum_by length (t ∷ ts) ≡ length t + sum_by length ts = sum_by-cons length t ts in (
      record { held = held.0; each = short; together = omega (arith, together, sum) },
      are_good files (before + length t) names ts held.1 (All-tail (λ t. length t ≤ module_limit) t ts each) (omega (arith, together, sum)),
    )

good_texts : (files : FileMap) (names texts : List (List ℕ)) → AreTexts files names texts → AreGood files 0 names texts
good_texts files names texts h = are_good files 0 names texts h.held h.each (omega (arith, h.together))

stops_first : (files : FileMap) (before : ℕ) (front behind texts : List (List ℕ)) (name : List ℕ) (r : Refusal) → AreGood files before front texts → StopsReading (file_of files name) (before + sum_by length texts) name r
    → StopsFirst files before (front ++ name ∷ behind) r
stops_first files before [] behind [] name r good h = inl (subst (λ n. StopsReading (file_of files name) n name r) (add-zero before) h)
stops_first files before [] behind (t ∷ ts) name r good h = absurd good
stops_first files before (first ∷ front) behind [] name r good h = absurd good
stops_first files before (first ∷ front) behind (t ∷ ts) name r good h =
    let sum : sum_by length (t ∷ ts) ≡ length t + sum_by length ts = sum_by-cons length t ts in
    let same : before + sum_by length (t ∷ ts) ≡ (before + length t) + sum_by length ts = omega (arith, sum) in
    inr (t, good.0, stops_first files (before + length t) front behind ts name r good.1 (subst (λ n. StopsReading (file_of files name) n name r) same h))

refuses_first : (files : FileMap) (names : List (List ℕ)) (r : Refusal) → RefusesFile files names r → StopsFirst files 0 names r
refuses_first files names r h =
    let bytes : h.bytes ≡ 0 + sum_by length h.comes.texts = omega (arith, h.comes.bytes_are) in
    subst (λ (l : List (List ℕ)). StopsFirst files 0 l r) (sym h.comes.stands)
    (stops_first files 0 h.comes.before h.comes.after h.comes.texts h.name r (good_texts files h.comes.before h.comes.texts h.comes.are_texts) (subst (λ n. StopsReading (file_of files h.name) n h.name r) bytes h.why))

stops_one : (o : Option (List ℕ)) (before : ℕ) (name : List ℕ) (r s : Refusal) → StopsReading o before name r → StopsReading o before name s → r ≡ s
stops_one None before name r s a b = a ∙ sym b
stops_one (Some t) before name r s a b = a.1 ∙ sym b.1

past_limit : (before n : ℕ) → n ≤ module_limit → before + n ≤ modules_limit → (module_limit < n) ⊎ (modules_limit < before + n) → ⊥
past_limit before n each together (inl h) = absurd (omega arith)
past_limit before n each together (inr h) = absurd (omega arith)

good_goes_on : (files : FileMap) (before : ℕ) (name t : List ℕ) (r : Refusal) → IsGood files before name t → StopsReading (file_of files name) before name r → ⊥
good_goes_on files before name t r good h =
    let stops : StopsReading (Some t) before name r = subst (λ o. StopsReading o before name r) good.held h in
    past_limit before (length t) good.each good.together stops.0

first_one : (files : FileMap) (before : ℕ) (names : List (List ℕ)) (r s : Refusal) → StopsFirst files before names r → StopsFirst files before names s → r ≡ s
first_one files before [] r s a b = absurd a
first_one files before (name ∷ names) r s (inl a) (inl b) = stops_one (file_of files name) before name r s a b
first_one files before (name ∷ names) r s (inl a) (inr b) = absurd (good_goes_on files before name b.0 r b.1 a)
first_one files before (name ∷ names) r s (inr a) (inl b) = absurd (good_goes_on files before name a.0 s a.1 b)
first_one files before (name ∷ names) r s (inr a) (inr b) =
    let same : b.0 ≡ a.0 = held_one files name b.0 a.0 b.1.held a.1.held in
    first_one files (before + length a.0) names r s a.2 (subst (λ (t : List ℕ). StopsFirst files (before + length t) names s) same b.2)

first_apart : (files : FileMap) (before : ℕ) (names texts : List (List ℕ)) (r : Refusal) → AreGood files before names texts → StopsFirst files before names r → ⊥
first_apart files before [] texts r good h = h
first_apart files before (name ∷ names) [] r good h = good
first_apart files before (name ∷ names) (t ∷ ts) r good (inl h) = good_goes_on files before name t r good.0 h
first_apart files before (name ∷ names) (t ∷ ts) r good (inr h) =
    let same : h.0 ≡ t = held_one files name h.0 t h.1.held good.0.held in
    first_apart files (before + length t) names ts r good.1 (subst (λ (u : List ℕ). StopsFirst files (before + length u) names r) same h.2)

pub file_refusal_one : (files : FileMap) (names : List (List ℕ)) (r s : Refusal) → RefusesFile files names r → RefusesFile files names s → r ≡ s
file_refusal_one files names r s a b = first_one files 0 names r s (refuses_first files names r a) (refuses_first files names s b)

pub no_file_refused : (files : FileMap) (names texts : List (List ℕ)) (r : Refusal) → AreTexts files names texts → RefusesFile files names r → ⊥
no_file_refused files names texts r are h = first_apart files 0 names texts r (good_texts files names texts are) (refuses_first files names r h)

pub texts_one : (files : FileMap) (names texts more : List (List ℕ)) → AreTexts files names texts → AreTexts files names more → texts ≡ more
texts_one files names texts more a b = zip_one (λ name t. file_of files name ≡ Some t) (held_one files) names texts more a.held b.held
