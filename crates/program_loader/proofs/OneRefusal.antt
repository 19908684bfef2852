-- A module is refused in one way at most, and so is what the files of a manifest give.
use Rattle.std.proofs.Common.{◌≡◌, ◌≢◌, ◌∙◌, ℕ, zero, suc, ◌⊎◌, inl, inr, List, [], ◌∷◌, Option, Some, refl, sym, ap, subst}
use Rattle.std.specs.Prelude.{IfSome}
use Rattle.std.specs.List.{AllZip, slice_get}
use Rattle.occam_base.specs.declared.code.Code.TheVariants as code
use Rattle.occam_base.specs.Files.{FileMap}
use Rattle.ir_syntax.specs.declared.item.Item.{Item}
use Rattle.ir_syntax.specs.declared.item.Module.{Module}
use Rattle.ir_syntax.specs.Typed.{TypedItem, Typed}
use Rattle.ir_syntax.specs.Definite.{DefiniteItem, Definite}
use Rattle.ir_syntax.specs.Refusals.{Deployment, Rule, IsRefused}
use Rattle.ir_syntax.specs.Refusals as rule
use Rattle.ir_syntax.specs.Programs.{ProgramData}
use Rattle.ir_lexer.specs.Tokens.{IsBadByte}
use Rattle.ir_parser.specs.Spelled.{Spells, IsNotInSubset}
use Rattle.ir_check.specs.IllTyped.{IsFirstIllTyped}
use Rattle.ir_paths.specs.FirstIndefinite.{IsFirstIndefinite}
use Rattle.manifest.specs.declared.fault.Manifest.{Manifest}
use Rattle.linker.specs.declared.fault.LinkFault.{LinkFault}
use Rattle.linker.specs.declared.fault.LinkFault.TheVariants as link
use Rattle.linker.specs.Linking.{deployment_of, IsCause}
use Rattle.program_loader.specs.declared.refusal.Detail.TheVariants as detail
use Rattle.program_loader.specs.declared.refusal.Refusal.{Refusal}
use Rattle.program_loader.specs.Refusing.{refusal}
use Rattle.program_loader.specs.Loading.{IsDeployed, RefusesManifest, AreTexts, RefusesFile, IsSound, IsSoundText, IsNamed, RefusesText, RefusesModule, link_refusal, IsLoaded, RefusesLoading}
use Rattle.program_loader.specs.Loading.{RefusesText as text}
use Rattle.program_loader.specs.Loading.{RefusesLoading as loading}
use Rattle.program_loader.specs.Steps.{RefusesChecks}
use Rattle.program_loader.specs.Steps.{RefusesChecks as checks}
use Rattle.program_loader.proofs.Lists.{zip_one}
use Rattle.program_loader.proofs.OneAnswer.{OneManifest, OneBadByte, OneModule, NoBadByte, InSubset, OneEntity, EntityOrByte, OneRefusal, NotRefused, some_one, none_is, every_item, places_one, manifest_one, manifest_apart, deployment_one, file_refusal_one, no_file_refused, texts_one}

-- ---- checks

named_one : (items : List Item) (place other : ℕ) (one two : List ℕ) → place ≡ other → IsNamed items place one → IsNamed items other two → one ≡ two
named_one items place other one two same a b =
    let found : a.found ≡ b.found = some_one a.found b.found (sym a.stands ∙ ap (slice_get items) same ∙ b.stands) in
    let first = a.written in
    let second = b.written in
    cc

fails_at : {A : Type 0} (P : A → Type 0) (o : Option A) (x : A) → o ≡ Some x → IfSome o (λ y. P y → ⊥) → P x → ⊥
fails_at {A = A} P o x is h p = (subst (λ (q : Option A). IfSome q (λ y. P y → ⊥)) is h) p

ill_typed_at : (items : List Item) (place : ℕ) (symbol : List ℕ) (first : IsFirstIllTyped items place) (named : IsNamed items place symbol) → TypedItem items named.found → ⊥
ill_typed_at items place symbol first named h = fails_at (TypedItem items) (slice_get items place) named.found named.stands first.here h

indefinite_at : (items : List Item) (place : ℕ) (symbol : List ℕ) (first : IsFirstIndefinite items place) (named : IsNamed items place symbol) → DefiniteItem named.found → ⊥
indefinite_at items place symbol first named h = fails_at DefiniteItem (slice_get items place) named.found named.stands first.not_definite h

ill_typed_one : (items : List Item) (a b : ℕ) (x y : List ℕ) → IsFirstIllTyped items a → IsNamed items a x → IsFirstIllTyped items b → IsNamed items b y → x ≡ y
ill_typed_one items a b x y first named second again =
    named_one items a b x y
    (places_one (TypedItem items) items a b named.found again.found named.stands again.stands first.before second.before (ill_typed_at items a x first named) (ill_typed_at items b y second again)) named again

indefinite_one : (items : List Item) (a b : ℕ) (x y : List ℕ) → IsFirstIndefinite items a → IsNamed items a x → IsFirstIndefinite items b → IsNamed items b y → x ≡ y
indefinite_one items a b x y first named second again =
    named_one items a b x y
    (places_one DefiniteItem items a b named.found again.found named.stands again.stands first.before second.before (indefinite_at items a x first named) (indefinite_at items b y second again)) named again

not_typed : (m : Module) (place : ℕ) (symbol : List ℕ) → Typed m → IsFirstIllTyped m.items place → IsNamed m.items place symbol → ⊥
not_typed m place symbol typed first named = ill_typed_at m.items place symbol first named (every_item (TypedItem m.items) m.items place named.found named.stands typed)

not_definite : (m : Module) (place : ℕ) (symbol : List ℕ) → Definite m → IsFirstIndefinite m.items place → IsNamed m.items place symbol → ⊥
not_definite m place symbol definite first named = indefinite_at m.items place symbol first named (every_item DefiniteItem m.items place named.found named.stands definite)

checks_one : (name : List ℕ) (m : Module) (r s : Refusal) → RefusesChecks name m r → RefusesChecks name m s → r ≡ s
checks_one name m r s (checks.IllTyped a x first named is) (checks.IllTyped b y second again also) =
    is ∙ ap (λ z. refusal code.IllTyped (detail.Of name z)) (ill_typed_one m.items a b x y first named second again) ∙ sym also
checks_one name m r s (checks.IllTyped a x first named is) (checks.NotDefinite b y typed second again also) = absurd (not_typed m a x typed first named)
checks_one name m r s (checks.NotDefinite a x typed first named is) (checks.IllTyped b y second again also) = absurd (not_typed m b y typed second again)
checks_one name m r s (checks.NotDefinite a x typed first named is) (checks.NotDefinite b y also_typed second again also) =
    is ∙ ap (λ z. refusal code.NotDefinite (detail.Of name z)) (indefinite_one m.items a b x y first named second again) ∙ sym also

checks_apart : (name : List ℕ) (m : Module) (r : Refusal) → Typed m → Definite m → RefusesChecks name m r → ⊥
checks_apart name m r typed definite (checks.IllTyped a x first named is) = not_typed m a x typed first named
checks_apart name m r typed definite (checks.NotDefinite a x also first named is) = not_definite m a x definite first named

-- ---- texts

data Unread (name bytes : List ℕ) (r : Refusal) : Type 0 where
  Byte : (at : ℕ) → IsBadByte bytes at → r ≡ refusal code.BadByte (detail.At name at) → Unread name bytes r
  Entity : (entity : ℕ) → IsNotInSubset bytes entity → r ≡ refusal code.NotInSubset (detail.At name entity) → Unread name bytes r

record Unsound (name bytes : List ℕ) (r : Refusal) : Type 0 where
  pub m : Module
  pub spells : Spells bytes m
  pub refuses : RefusesChecks name m r

split_text : (name bytes : List ℕ) (r : Refusal) → RefusesText name bytes r → Unread name bytes r ⊎ Unsound name bytes r
split_text name bytes r (text.BadByte at bad is) = inl (Byte at bad is)
split_text name bytes r (text.NotInSubset entity outside is) = inl (Entity entity outside is)
split_text name bytes r (text.IllTyped m item symbol spells first named is) = inr (record { m = m; spells = spells; refuses = checks.IllTyped item symbol first named is })
split_text name bytes r (text.NotDefinite m item symbol spells typed first named is) = inr (record { m = m; spells = spells; refuses = checks.NotDefinite item symbol typed first named is })

module _ (one_byte : OneBadByte) (one_module : OneModule) (no_byte : NoBadByte) (in_subset : InSubset) (one_entity : OneEntity) (entity_or_byte : EntityOrByte) where
  unread_one : (name bytes : List ℕ) (r s : Refusal) → Unread name bytes r → Unread name bytes s → r ≡ s
  unread_one name bytes r s (Byte a bad is) (Byte b worse also) = is ∙ ap (λ n. refusal code.BadByte (detail.At name n)) (one_byte bytes a b bad worse) ∙ sym also
  unread_one name bytes r s (Byte a bad is) (Entity b outside also) = absurd (entity_or_byte bytes b a outside bad)
  unread_one name bytes r s (Entity a outside is) (Byte b bad also) = absurd (entity_or_byte bytes a b outside bad)
  unread_one name bytes r s (Entity a outside is) (Entity b beyond also) = is ∙ ap (λ n. refusal code.NotInSubset (detail.At name n)) (one_entity bytes a b outside beyond) ∙ sym also

  unread_apart : (name bytes : List ℕ) (r : Refusal) (m : Module) → Unread name bytes r → Spells bytes m → ⊥
  unread_apart name bytes r m (Byte a bad is) spells = no_byte bytes m a spells bad
  unread_apart name bytes r m (Entity a outside is) spells = in_subset bytes m a spells outside

  unsound_one : (name bytes : List ℕ) (r s : Refusal) → Unsound name bytes r → Unsound name bytes s → r ≡ s
  unsound_one name bytes r s a b = checks_one name a.m r s a.refuses (subst (λ (m : Module). RefusesChecks name m s) (one_module bytes b.m a.m b.spells a.spells) b.refuses)

  ways_one : (name bytes : List ℕ) (r s : Refusal) → Unread name bytes r ⊎ Unsound name bytes r → Unread name bytes s ⊎ Unsound name bytes s → r ≡ s
  ways_one name bytes r s (inl a) (inl b) = unread_one name bytes r s a b
  ways_one name bytes r s (inl a) (inr b) = absurd (unread_apart name bytes r b.m a b.spells)
  ways_one name bytes r s (inr a) (inl b) = absurd (unread_apart name bytes s a.m b a.spells)
  ways_one name bytes r s (inr a) (inr b) = unsound_one name bytes r s a b

  text_one : (name bytes : List ℕ) (r s : Refusal) → RefusesText name bytes r → RefusesText name bytes s → r ≡ s
  text_one name bytes r s a b = ways_one name bytes r s (split_text name bytes r a) (split_text name bytes s b)

  ways_apart : (name bytes : List ℕ) (r : Refusal) (m : Module) → IsSound bytes m → Unread name bytes r ⊎ Unsound name bytes r → ⊥
  ways_apart name bytes r m sound (inl a) = unread_apart name bytes r m a sound.spells
  ways_apart name bytes r m sound (inr a) = checks_apart name m r sound.typed sound.definite (subst (λ (n : Module). RefusesChecks name n r) (one_module bytes a.m m a.spells sound.spells) a.refuses)

  text_apart : (name bytes : List ℕ) (r : Refusal) → RefusesText name bytes r → IsSoundText bytes → ⊥
  text_apart name bytes r a sound = ways_apart name bytes r sound.0 sound.1 (split_text name bytes r a)

  -- ---- modules

  pub modules_one : (texts : List (List ℕ)) (ms ns : List Module) → AllZip IsSound texts ms → AllZip IsSound texts ns → ms ≡ ns
  modules_one texts ms ns a b = zip_one IsSound (λ bytes m n h k. one_module bytes m n h.spells k.spells) texts ms ns a b

  refused_place : (names texts : List (List ℕ)) (r s : Refusal) (a : RefusesModule names texts r) (b : RefusesModule names texts s) → a.place ≡ b.place
  refused_place names texts r s a b =
      places_one IsSoundText texts a.place b.place a.text b.text a.stands b.stands a.before b.before (text_apart a.name a.text r a.refuses) (text_apart b.name b.text s b.refuses)

  module_one : (names texts : List (List ℕ)) (r s : Refusal) → RefusesModule names texts r → RefusesModule names texts s → r ≡ s
  module_one names texts r s a b =
      let place : b.place ≡ a.place = sym (refused_place names texts r s a b) in
      let name : b.name ≡ a.name = some_one b.name a.name (sym b.named ∙ ap (slice_get names) place ∙ a.named) in
      let same : b.text ≡ a.text = some_one b.text a.text (sym b.stands ∙ ap (slice_get texts) place ∙ a.stands) in
      text_one a.name a.text r s a.refuses (subst (λ n. RefusesText n a.text s) name (subst (λ t. RefusesText b.name t s) same b.refuses))

  sound_at : (texts : List (List ℕ)) (ms : List Module) (place : ℕ) (bytes : List ℕ) → AllZip IsSound texts ms → slice_get texts place ≡ Some bytes → IsSoundText bytes
  sound_at [] ms place bytes h is = absurd (none_is bytes is)
  sound_at (t ∷ ts) [] place bytes h is = absurd h
  sound_at (t ∷ ts) (m ∷ ms) zero bytes h is = subst IsSoundText (some_one t bytes is) (m, h.0)
  sound_at (t ∷ ts) (m ∷ ms) (suc place) bytes h is = sound_at ts ms place bytes h.1 is

  module_apart : (names texts : List (List ℕ)) (ms : List Module) (r : Refusal) → AllZip IsSound texts ms → RefusesModule names texts r → ⊥
  module_apart names texts ms r sound a = text_apart a.name a.text r a.refuses (sound_at texts ms a.place a.text sound a.stands)

-- ---- linking

abbrev rule_of : LinkFault → Rule
rule_of (link.TwoDefinitions symbol) = rule.TwoDefinitions
rule_of (link.NoDefinition symbol) = rule.NoDefinition
rule_of (link.TypeClash symbol) = rule.TypeClash
rule_of (link.NoEntry symbol) = rule.NoEntry
rule_of (link.EntryShape symbol) = rule.EntryShape
rule_of (link.NoExport symbol) = rule.NoExport
rule_of (link.ExportShape symbol) = rule.ExportShape
rule_of link.OutOfMemory = rule.TwoDefinitions

abbrev symbol_of : LinkFault → List ℕ
symbol_of (link.TwoDefinitions symbol) = symbol
symbol_of (link.NoDefinition symbol) = symbol
symbol_of (link.TypeClash symbol) = symbol
symbol_of (link.NoEntry symbol) = symbol
symbol_of (link.EntryShape symbol) = symbol
symbol_of (link.NoExport symbol) = symbol
symbol_of (link.ExportShape symbol) = symbol
symbol_of link.OutOfMemory = []

abbrev fault_of : Rule → List ℕ → LinkFault
fault_of rule.TwoDefinitions symbol = link.TwoDefinitions symbol
fault_of rule.NoDefinition symbol = link.NoDefinition symbol
fault_of rule.TypeClash symbol = link.TypeClash symbol
fault_of rule.NoEntry symbol = link.NoEntry symbol
fault_of rule.EntryShape symbol = link.EntryShape symbol
fault_of rule.NoExport symbol = link.NoExport symbol
fault_of rule.ExportShape symbol = link.ExportShape symbol

record CauseOf (ms : List Module) (d : Deployment) (f : LinkFault) : Type 0 where
  pub refused : IsRefused ms d (rule_of f) (symbol_of f)
  pub is : f ≡ fault_of (rule_of f) (symbol_of f)

cause_of : (ms : List Module) (d : Deployment) (f : LinkFault) → IsCause ms d f → f ≢ link.OutOfMemory → CauseOf ms d f
cause_of ms d (link.TwoDefinitions symbol) h some = record { refused = h; is = refl }
cause_of ms d (link.NoDefinition symbol) h some = record { refused = h; is = refl }
cause_of ms d (link.TypeClash symbol) h some = record { refused = h; is = refl }
cause_of ms d (link.NoEntry symbol) h some = record { refused = h; is = refl }
cause_of ms d (link.EntryShape symbol) h some = record { refused = h; is = refl }
cause_of ms d (link.NoExport symbol) h some = record { refused = h; is = refl }
cause_of ms d (link.ExportShape symbol) h some = record { refused = h; is = refl }
cause_of ms d link.OutOfMemory h some = absurd (some refl)

link_one : OneRefusal → (ms : List Module) (d : Deployment) (f g : LinkFault) → CauseOf ms d f → CauseOf ms d g → f ≡ g
link_one one ms d f g a b =
    let both = one ms d (rule_of f) (rule_of g) (symbol_of f) (symbol_of g) a.refused b.refused in
    a.is ∙ ap (λ (x : Rule). fault_of x (symbol_of f)) both.0 ∙ ap (fault_of (rule_of g)) both.1 ∙ sym b.is

-- ---- loading

-- Why the files of a manifest give no program.
data Behind (files : FileMap) (m : Manifest) (r : Refusal) : Type 0 where
  File : RefusesFile files m.modules r → Behind files m r
  Text : (texts : List (List ℕ)) → AreTexts files m.modules texts → RefusesModule m.modules texts r → Behind files m r
  Link : (texts : List (List ℕ)) (ms : List Module) (f : LinkFault) → AreTexts files m.modules texts → AllZip IsSound texts ms → CauseOf ms (deployment_of m) f → r ≡ link_refusal f → Behind files m r

record Deployed (files : FileMap) (name : List ℕ) (r : Refusal) : Type 0 where
  pub m : Manifest
  pub deployed : IsDeployed files name m
  pub why : Behind files m r

split_loading : (files : FileMap) (name : List ℕ) (r : Refusal) → RefusesLoading files name r → RefusesManifest files name r ⊎ Deployed files name r
split_loading files name r (loading.ManifestRefused h) = inl h
split_loading files name r (loading.FileRefused m d h) = inr (record { m = m; deployed = d; why = File h })
split_loading files name r (loading.ModuleRefused m texts d are h) = inr (record { m = m; deployed = d; why = Text texts are h })
split_loading files name r (loading.LinkRefused m texts ms f d are sound some cause is) = inr (record { m = m; deployed = d; why = Link texts ms f are sound (cause_of ms (deployment_of m) f cause some) is })

module _ (one_manifest : OneManifest) (one_byte : OneBadByte) (one_module : OneModule) (no_byte : NoBadByte) (in_subset : InSubset) (one_entity : OneEntity) (entity_or_byte : EntityOrByte) where
  texts_same : (files : FileMap) (names texts more : List (List ℕ)) (P : List (List ℕ) → Type 0) → AreTexts files names texts → AreTexts files names more → P more → P texts
  texts_same files names texts more P a b h = subst P (texts_one files names more texts b a) h

  refused_apart : (files : FileMap) (m : Manifest) (texts more : List (List ℕ)) (ms : List Module) (r : Refusal) → AreTexts files m.modules texts → AreTexts files m.modules more → RefusesModule m.modules texts r
      → AllZip IsSound more ms → ⊥
  refused_apart files m texts more ms r are also h sound =
      module_apart one_byte one_module no_byte in_subset one_entity entity_or_byte m.modules texts ms r (texts_same files m.modules texts more (λ l. AllZip IsSound l ms) are also sound) h

  link_same : OneRefusal → (files : FileMap) (m : Manifest) (texts more : List (List ℕ)) (ms ns : List Module) (f g : LinkFault) → AreTexts files m.modules texts → AreTexts files m.modules more → AllZip IsSound texts ms
      → AllZip IsSound more ns → CauseOf ms (deployment_of m) f → CauseOf ns (deployment_of m) g → f ≡ g
  link_same one files m texts more ms ns f g are also sound true a b =
      let same : ns ≡ ms = modules_one one_byte one_module no_byte in_subset one_entity entity_or_byte texts ns ms (texts_same files m.modules texts more (λ l. AllZip IsSound l ns) are also true) sound in
      link_one one ms (deployment_of m) f g a (subst (λ (l : List Module). CauseOf l (deployment_of m) g) same b)

  behind_one : OneRefusal → (files : FileMap) (m : Manifest) (r s : Refusal) → Behind files m r → Behind files m s → r ≡ s
  behind_one one files m r s (File a) (File b) = file_refusal_one files m.modules r s a b
  behind_one one files m r s (File a) (Text more also b) = absurd (no_file_refused files m.modules more r also a)
  behind_one one files m r s (File a) (Link more ns g also true b is) = absurd (no_file_refused files m.modules more r also a)
  behind_one one files m r s (Text texts are a) (File b) = absurd (no_file_refused files m.modules texts s are b)
  behind_one one files m r s (Text texts are a) (Text more also b) =
      module_one one_byte one_module no_byte in_subset one_entity entity_or_byte m.modules texts r s a (texts_same files m.modules texts more (λ l. RefusesModule m.modules l s) are also b)
  behind_one one files m r s (Text texts are a) (Link more ns g also true b is) = absurd (refused_apart files m texts more ns r are also a true)
  behind_one one files m r s (Link texts ms f are sound a is) (File b) = absurd (no_file_refused files m.modules texts s are b)
  behind_one one files m r s (Link texts ms f are sound a is) (Text more also b) = absurd (refused_apart files m more texts ms s also are b sound)
  behind_one one files m r s (Link texts ms f are sound a is) (Link more ns g also true b so) = is ∙ ap link_refusal (link_same one files m texts more ms ns f g are also sound true a b) ∙ sym so

  loading_one : OneRefusal → (files : FileMap) (name : List ℕ) (r s : Refusal) → RefusesManifest files name r ⊎ Deployed files name r → RefusesManifest files name s ⊎ Deployed files name s → r ≡ s
  loading_one one files name r s (inl a) (inl b) = manifest_one one_manifest files name r s a b
  loading_one one files name r s (inl a) (inr b) = absurd (manifest_apart one_manifest files name b.m r b.deployed a)
  loading_one one files name r s (inr a) (inl b) = absurd (manifest_apart one_manifest files name a.m s a.deployed b)
  loading_one one files name r s (inr a) (inr b) =
      behind_one one files a.m r s a.why (subst (λ (m : Manifest). Behind files m s) (deployment_one one_manifest files name b.m a.m b.deployed a.deployed) b.why)

  pub refusal_one : OneRefusal → (files : FileMap) (name : List ℕ) (r s : Refusal) → RefusesLoading files name r → RefusesLoading files name s → r ≡ s
  refusal_one one files name r s a b = loading_one one files name r s (split_loading files name r a) (split_loading files name s b)

  pub program_modules_one : (files : FileMap) (name : List ℕ) (m n : Manifest) (p q : ProgramData) → IsLoaded files name m p → IsLoaded files name n q → p.modules ≡ q.modules
  program_modules_one files name m n p q a b =
      let same : n ≡ m = deployment_one one_manifest files name n m b.deployed a.deployed in
      let also : AreTexts files m.modules b.texts = subst (λ (x : Manifest). AreTexts files x.modules b.texts) same b.are_texts in
      modules_one one_byte one_module no_byte in_subset one_entity entity_or_byte a.texts p.modules q.modules a.sound (texts_same files m.modules a.texts b.texts (λ l. AllZip IsSound l q.modules) a.are_texts also b.sound)

  -- a loaded program leaves no reason
  loaded_behind : NotRefused → (files : FileMap) (name : List ℕ) (m : Manifest) (p : ProgramData) (r : Refusal) → IsLoaded files name m p → Behind files m r → ⊥
  loaded_behind not files name m p r l (File h) = no_file_refused files m.modules l.texts r l.are_texts h
  loaded_behind not files name m p r l (Text texts are h) = refused_apart files m texts l.texts p.modules r are l.are_texts h l.sound
  loaded_behind not files name m p r l (Link texts ms f are sound cause is) =
      let same : ms ≡ p.modules = modules_one one_byte one_module no_byte in_subset one_entity entity_or_byte l.texts ms p.modules (texts_same files m.modules l.texts texts (λ t. AllZip IsSound t ms) l.are_texts are sound) l.sound in
      not p.modules (deployment_of m) p (rule_of f) (symbol_of f) l.linked (subst (λ (x : List Module). CauseOf x (deployment_of m) f) same cause).refused

  loaded_way : NotRefused → (files : FileMap) (name : List ℕ) (m : Manifest) (p : ProgramData) (r : Refusal) → IsLoaded files name m p → RefusesManifest files name r ⊎ Deployed files name r → ⊥
  loaded_way not files name m p r l (inl h) = manifest_apart one_manifest files name m r l.deployed h
  loaded_way not files name m p r l (inr h) = loaded_behind not files name m p r l (subst (λ (x : Manifest). Behind files x r) (deployment_one one_manifest files name h.m m h.deployed l.deployed) h.why)

  pub loaded_apart : NotRefused → (files : FileMap) (name : List ℕ) (m : Manifest) (p : ProgramData) (r : Refusal) → IsLoaded files name m p → RefusesLoading files name r → ⊥
  loaded_apart not files name m p r l h = loaded_way not files name m p r l (split_loading files name r h)
