-- Reading the files of modules, one after another.
use Rattle.std.proofs.Common.{◌≡◌, ◌∙◌, ℕ, ◌+◌, ◌<◌, ◌≤◌, ◌^◌, inl, inr, List, [], ◌∷◌, ◌++◌, All, length, take, drop, get_or, sum_by, Option, Some, None, Result, Ok, Err, sym, ap, subst, arith, IsUtf8}
use Rattle.std.specs.Prelude.{IfOk}
use Rattle.std.specs.List.{AllZip, slice_get}
use Rattle.std.proofs.Math.Seq.{take-append_seam}
use Rattle.std.proofs.lemmas.List.{take-append-le, take-append-drop, take_all}
use Rattle.std.proofs.lemmas.List.Elements.{All-nil, All-cons, All-head, All-tail, All-push}
use Rattle.std.proofs.lemmas.List.Sums.{sum_by_push}
use Rattle.std.proofs.lemmas.Option.{slice_get_within}
use Rattle.ir_types.proofs.ListSteps.{take_at, drop_at, slice_get-append_first}
use Rattle.occam_base.specs.Files.{FileMap}
use Rattle.ir_syntax.specs.declared.item.Module.{Module}
use Rattle.ir_syntax.specs.Formed.{Formed}
use Rattle.ir_syntax.specs.Programs.{IsSoundModule, AreSoundModules}
use Rattle.ir_parser.specs.Spelled.{Spells}
use Rattle.program_loader.specs.declared.refusal.Refusal.{Refusal}
use Rattle.program_loader.specs.declared.walking.Walk.{Walk}
use Rattle.program_loader.specs.Loading.{module_limit, AreTexts, ComesAfterTexts, IsSound, IsSoundText, RefusesText, RefusesModule}
use Rattle.program_loader.specs.Steps.{IsHeld, GoesOn, IsNext, EndsWalk, AreRead, AreSoundTexts, WhyNoModules, ModulesOf}
use Rattle.program_loader.specs.Steps.{RefusesModules as modules}
use Rattle.program_loader.proofs.Lists.{zip_push, zip_length, at_end}

-- ---- what is found of the texts so far

abbrev pub IsFound : List (List ℕ) → List (List ℕ) → Result (List Module) Refusal → Type 0
IsFound names texts (Ok ms) = AllZip IsSound texts ms
IsFound names texts (Err r) = RefusesModule names texts r

all_sound : (texts : List (List ℕ)) (ms : List Module) → AllZip IsSound texts ms → All IsSoundText texts
all_sound [] [] h = All-nil IsSoundText
all_sound [] (m ∷ ms) h = absurd h
all_sound (text ∷ texts) [] h = absurd h
all_sound (text ∷ texts) (m ∷ ms) h = All-cons IsSoundText text texts (m, h.0) (all_sound texts ms h.1)

found_first : (names texts : List (List ℕ)) (name text : List ℕ) (ms : List Module) (r : Refusal) → length texts ≡ length names → AllZip IsSound texts ms → RefusesText name text r
    → RefusesModule (names ++ name ∷ []) (texts ++ text ∷ []) r
found_first names texts name text ms r same sound h = record {
  place = length texts;
  name = name;
  text = text;
  named = subst (λ n. slice_get (names ++ name ∷ []) n ≡ Some name) (sym same) (at_end names name);
  stands = at_end texts text;
  before = subst (All IsSoundText) (sym (take-append_seam texts (text ∷ []))) (all_sound texts ms sound);
  refuses = h;
}

found_before : (names texts : List (List ℕ)) (name text : List ℕ) (r : Refusal) → RefusesModule names texts r → RefusesModule (names ++ name ∷ []) (texts ++ text ∷ []) r
found_before names texts name text r h =
    let within : h.place < length texts = slice_get_within texts h.place h.text h.stands in
    record {
      place = h.place;
      name = h.name;
      text = h.text;
      named = slice_get-append_first names (name ∷ []) h.place h.name h.named;
      stands = slice_get-append_first texts (text ∷ []) h.place h.text h.stands;
      before = subst (All IsSoundText) (sym (take-append-le h.place texts (text ∷ []) (omega arith))) h.before;
      refuses = h.refuses;
    }

found_next : (names texts : List (List ℕ)) (name text : List ℕ) (found next : Result (List Module) Refusal) → length texts ≡ length names → IsFound names texts found → GoesOn name text found next
    → IsFound (names ++ name ∷ []) (texts ++ text ∷ []) next
found_next names texts name text (Ok ms) (Ok more) same found h = subst (AllZip IsSound (texts ++ text ∷ [])) (sym h.2) (zip_push IsSound texts ms text h.0 found h.1)
found_next names texts name text (Ok ms) (Err r) same found h = found_first names texts name text ms r same found h
found_next names texts name text (Err r) next same found h = subst (IsFound (names ++ name ∷ []) (texts ++ text ∷ [])) (sym h) (found_before names texts name text r found)

-- ---- the walk

-- These files are read, with what was found of their texts.
pub record IsWalked (files : Option FileMap) (names : List (List ℕ)) (walk : Walk) : Type 0 where
  pub texts : List (List ℕ)
  pub read : AreRead files names texts
  pub bytes : walk.bytes ≡ sum_by length texts
  pub found : IsFound names texts walk.found

pub walked_none : (files : Option FileMap) (walk : Walk) → walk.bytes ≡ 0 → walk.found ≡ Ok [] → IsWalked files [] walk
walked_none files walk bytes found = record {
  texts = [];
  read = record { held = tt; each = All-nil _; together = omega arith };
  bytes = bytes;
  found = subst (IsFound [] []) (sym found) tt;
}

pub walked_next : (files : Option FileMap) (names : List (List ℕ)) (name : List ℕ) (walk next : Walk) → IsWalked files names walk → IsNext files name walk next → IsWalked files (names ++ name ∷ []) next
walked_next files names name walk next w n =
    let more : sum_by length (w.texts ++ n.text ∷ []) ≡ sum_by length w.texts + length n.text = sum_by_push length w.texts n.text in
    record {
      texts = w.texts ++ n.text ∷ [];
      read = record {
        held = zip_push (IsHeld files) names w.texts name n.text w.read.held n.held;
        each = All-push (λ text. length text ≤ module_limit) w.texts n.text w.read.each n.each;
        together = omega (arith, more, w.bytes, n.together);
      };
      bytes = omega (arith, more, w.bytes, n.bytes);
      found = found_next names w.texts name n.text walk.found next.found (zip_length (IsHeld files) names w.texts w.read.held) w.found n.found;
    }

pub walked_at : (files : Option FileMap) (names : List (List ℕ)) (i : ℕ) (name : List ℕ) (walk next : Walk) → i < length names → name ≡ get_or names i name
    → IsWalked files (take i names) walk → IsNext files name walk next → IsWalked files (take (i + 1) names) next
walked_at files names i name walk next within here w n = subst (λ l. IsWalked files l next) (sym (take_at names i name within here)) (walked_next files (take i names) name walk next w n)

-- ---- answers

are_texts : (files : FileMap) (names texts : List (List ℕ)) → AreRead (Some files) names texts → AreTexts files names texts
are_texts files names texts h = record { held = h.held; each = h.each; together = h.together }

-- what was found of all files
pub walked_all : (files : Option FileMap) (names texts : List (List ℕ)) (found : Result (List Module) Refusal) → AreRead files names texts → IsFound names texts found → ModulesOf files names found
walked_all files names texts (Ok ms) read found = record { texts = texts; read = read; sound = found }
walked_all None names texts (Err r) read found = tt
walked_all (Some files) names texts (Err r) read found = modules.Text texts (are_texts files names texts read) found

-- a file that ends the walk
comes_after : (files : FileMap) (names : List (List ℕ)) (i : ℕ) (name : List ℕ) (walk : Walk) → i < length names → name ≡ get_or names i name → IsWalked (Some files) (take i names) walk
    → ComesAfterTexts files names name walk.bytes
comes_after files names i name walk within here w = record {
  before = take i names;
  after = drop (i + 1) names;
  stands = sym (take-append-drop i names) ∙ ap (λ l. take i names ++ l) (drop_at names i name within here);
  texts = w.texts;
  are_texts = are_texts files (take i names) w.texts w.read;
  bytes_are = w.bytes;
}

pub walk_ended : (files : Option FileMap) (names : List (List ℕ)) (i : ℕ) (name : List ℕ) (walk : Walk) (r : Refusal) → i < length names → name ≡ get_or names i name → IsWalked files (take i names) walk
    → EndsWalk files name walk.bytes r → WhyNoModules files names r
walk_ended None names i name walk r within here w h = tt
walk_ended (Some files) names i name walk r within here w (inl h) = modules.File (record { name = name; bytes = walk.bytes; comes = comes_after files names i name walk within here w; why = h })
walk_ended (Some files) names i name walk r within here w (inr (inl h)) = modules.Unread name walk.bytes (comes_after files names i name walk within here w) h
walk_ended (Some files) names i name walk r within here w (inr (inr h)) = modules.Memory h

-- ---- sound modules

abbrev pub SpelledIsFormed : Type 0
SpelledIsFormed = (text : List ℕ) (m : Module) → Spells text m → Formed m

abbrev pub ItemsAreWithin : Type 0
ItemsAreWithin = (text : List ℕ) (m : Module) → Spells text m → length m.items ≤ length text

abbrev pub IsShort : List ℕ → Type 0
IsShort text = length text ≤ module_limit

abbrev pub HasFewItems : Module → Type 0
HasFewItems m = length m.items < 2 ^ 32

abbrev pub IsSmall : Module → Type 0
IsSmall m = length m.items ≤ 16777216

module _ (formed : SpelledIsFormed) (within : ItemsAreWithin) where
  all_modules : (texts : List (List ℕ)) (ms : List Module) → AllZip IsSound texts ms → All IsSoundModule ms
  all_modules [] [] h = All-nil IsSoundModule
  all_modules [] (m ∷ ms) h = absurd h
  all_modules (text ∷ texts) [] h = absurd h
  all_modules (text ∷ texts) (m ∷ ms) h = All-cons IsSoundModule m ms (record { formed = formed text m h.0.spells; typed = h.0.typed; definite = h.0.definite }) (all_modules texts ms h.1)

  few_items : (text : List ℕ) (m : Module) → Spells text m → IsShort text → HasFewItems m
  few_items text m spells short = omega (arith, within text m spells, short)

  all_items : (texts : List (List ℕ)) (ms : List Module) → All IsShort texts → AllZip IsSound texts ms → All HasFewItems ms
  all_items [] [] short h = All-nil HasFewItems
  all_items [] (m ∷ ms) short h = absurd h
  all_items (text ∷ texts) [] short h = absurd h
  all_items (text ∷ texts) (m ∷ ms) short h =
      All-cons HasFewItems m ms (few_items text m h.0.spells (All-head IsShort text texts short)) (all_items texts ms (All-tail IsShort text texts short) h.1)

  all_small : (texts : List (List ℕ)) (ms : List Module) → All IsShort texts → AllZip IsSound texts ms → All IsSmall ms
  all_small [] [] short h = All-nil IsSmall
  all_small [] (m ∷ ms) short h = absurd h
  all_small (text ∷ texts) [] short h = absurd h
  all_small (text ∷ texts) (m ∷ ms) short h =
      All-cons IsSmall m ms (omega (arith, within text m h.0.spells, All-head IsShort text texts short)) (all_small texts ms (All-tail IsShort text texts short) h.1)

  pub small_modules : (files : Option FileMap) (names : List (List ℕ)) (ms : List Module) → AreSoundTexts files names ms → All IsSmall ms
  small_modules files names ms h = all_small h.texts ms h.read.each h.sound

  pub sound_modules : (files : Option FileMap) (names : List (List ℕ)) (ms : List Module) → length names ≤ 256 → AreSoundTexts files names ms → AreSoundModules ms
  sound_modules files names ms few h =
      let texts : length h.texts ≡ length names = zip_length (IsHeld files) names h.texts h.read.held in
      let same : length ms ≡ length h.texts = zip_length IsSound h.texts ms h.sound in
      record {
        sound = all_modules h.texts ms h.sound;
        few = omega (arith, texts, same);
        few_items = all_items h.texts ms h.read.each h.sound;
      }

pub one_each : (files : Option FileMap) (names : List (List ℕ)) (ms : List Module) → AreSoundTexts files names ms → length ms ≡ length names
one_each files names ms h = zip_length IsSound h.texts ms h.sound ∙ zip_length (IsHeld files) names h.texts h.read.held

found_sound_of : SpelledIsFormed → ItemsAreWithin → (files : Option FileMap) (names : List (List ℕ)) (found : Result (List Module) Refusal) → length names ≤ 256 → ModulesOf files names found → IfOk found AreSoundModules
found_sound_of formed within files names (Ok ms) few h = sound_modules formed within files names ms few h
found_sound_of formed within files names (Err r) few h = tt

found_small : SpelledIsFormed → ItemsAreWithin → (files : Option FileMap) (names : List (List ℕ)) (found : Result (List Module) Refusal) → ModulesOf files names found → IfOk found (λ ms. All IsSmall ms)
found_small formed within files names (Ok ms) h = small_modules formed within files names ms h
found_small formed within files names (Err r) h = tt

found_each : (files : Option FileMap) (names : List (List ℕ)) (found : Result (List Module) Refusal) → ModulesOf files names found → IfOk found (λ ms. length ms ≡ length names)
found_each files names (Ok ms) h = one_each files names ms h
found_each files names (Err r) h = tt

-- ---- the loop

pub name_text : (names : List (List ℕ)) (i : ℕ) (name slice : List ℕ) → All IsUtf8 names → i < length names → name ≡ get_or names i name → slice ≡ name → IsUtf8 slice
name_text names i name slice text within here same = subst IsUtf8 (sym (same ∙ here)) (text i name within)

pub loop_ended : (files now : Option FileMap) (names : List (List ℕ)) (i : ℕ) (name slice : List ℕ) (walk : Walk) (r : Refusal) → now ≡ files → slice ≡ name → i < length names → name ≡ get_or names i name
    → IsWalked files (take i names) walk → EndsWalk now slice walk.bytes r → WhyNoModules files names r
loop_ended files now names i name slice walk r told same within here w h =
    walk_ended files names i name walk r within here w (subst (λ f. EndsWalk f name walk.bytes r) told (subst (λ n. EndsWalk now n walk.bytes r) same h))

pub loop_next : (files now : Option FileMap) (names : List (List ℕ)) (i : ℕ) (name slice : List ℕ) (walk next : Walk) → now ≡ files → slice ≡ name → i < length names → name ≡ get_or names i name
    → IsWalked files (take i names) walk → IsNext now slice walk next → IsWalked files (take (i + 1) names) next
loop_next files now names i name slice walk next told same within here w h =
    walked_at files names i name walk next within here w (subst (λ f. IsNext f name walk next) told (subst (λ n. IsNext now n walk next) same h))

pub loop_all : (files : Option FileMap) (names : List (List ℕ)) (i : ℕ) (walk : Walk) → length names ≤ i → IsWalked files (take i names) walk → ModulesOf files names walk.found
loop_all files names i walk all w =
    let whole : IsWalked files names walk = subst (λ l. IsWalked files l walk) (take_all i names all) w in
    walked_all files names whole.texts walk.found whole.read whole.found

pub loop_sound : SpelledIsFormed → ItemsAreWithin → (files : Option FileMap) (names : List (List ℕ)) (i : ℕ) (walk : Walk) → length names ≤ 256 → length names ≤ i → IsWalked files (take i names) walk → IfOk walk.found AreSoundModules
loop_sound formed within files names i walk few all w = found_sound_of formed within files names walk.found few (loop_all files names i walk all w)

pub loop_each : (files : Option FileMap) (names : List (List ℕ)) (i : ℕ) (walk : Walk) → length names ≤ i → IsWalked files (take i names) walk → IfOk walk.found (λ ms. length ms ≡ length names)
loop_each files names i walk all w = found_each files names walk.found (loop_all files names i walk all w)

pub loop_small : SpelledIsFormed → ItemsAreWithin → (files : Option FileMap) (names : List (List ℕ)) (i : ℕ) (walk : Walk) → length names ≤ i → IsWalked files (take i names) walk
    → IfOk walk.found (λ ms. All (λ m. length m.items ≤ 16777216) ms)
loop_small formed within files names i walk all w = found_small formed within files names walk.found (loop_all files names i walk all w)
