-- A text that is read piece by piece is a front of the file until no byte comes.
use Rattle.std.proofs.Common.{◌≡◌, ◌≢◌, ◌∙◌, ℕ, zero, suc, ◌+◌, ◌<◌, ◌≤◌, List, [], ◌++◌, length, take, drop, Option, Some, None, Ok, Err, refl, sym, ap, subst, arith, append-nil}
use Rattle.std.proofs.lemmas.List.{length-append, length-take-le, take_all}
use Rattle.std.proofs.Math.Seq.{take-add}
use Rattle.occam_base.specs.Files.{FileMap, file_of, Fills, ReadGives, ReadOf}
use Rattle.occam_base.specs.declared.shelf.Read.TheVariants.{Got}
use Rattle.program_loader.specs.declared.reading.Stop.{Stop}
use Rattle.program_loader.specs.declared.reading.Stop.TheVariants as stop
use Rattle.program_loader.specs.Reading.{IsFront, WholeGives, WholeOf, PieceGives, PieceOf}

piece_ends : (f old new now : List ℕ) (before : List ℕ) → Fills f (length old) before now 0 → 0 < length before → new ≡ old ++ take 0 now → IsFront old f → new ≡ f
piece_ends f old new now before fills room e front =
    let short : length f ≤ length old = grind (arith, fills.some room) in
    e ∙ append-nil old ∙ front.bytes ∙ take_all (length old) f short

piece_goes_on : (f old new now : List ℕ) (before : List ℕ) (n : ℕ) → Fills f (length old) before now (suc n) → suc n ≤ length now → new ≡ old ++ take (suc n) now → IsFront old f → IsFront new f
piece_goes_on f old new now before n fills fits e front =
    let long : length new ≡ length old + suc n = ap length e ∙ length-append old (take (suc n) now) ∙ ap (λ k. length old + k) (length-take-le (suc n) now fits) in
    record {
      within = omega (arith, fills.within, front.within, long);
      bytes = e ∙ ap (λ s. old ++ s) fills.bytes ∙ ap (λ s. s ++ take (suc n) (drop (length old) f)) front.bytes
          ∙ sym (take-add (length old) (suc n) f) ∙ ap (λ k. take k f) (sym long);
    }

piece_of_file : (file : Option (List ℕ)) (old new before now : List ℕ) (n : ℕ) → ReadGives file (length old) before now (Got n) → 0 < length before → n ≤ length now → new ≡ old ++ take n now →
    PieceGives file old new (Ok n)
piece_of_file None old new before now n h room fits e = h
piece_of_file (Some f) old new before now zero h room fits e = λ front. piece_ends f old new now before h room e front
piece_of_file (Some f) old new before now (suc n) h room fits e = λ front. piece_goes_on f old new now before n h fits e front

pub piece_got : (files : Option FileMap) (name old new before now : List ℕ) (n : ℕ) → ReadOf files name (length old) before now (Got n) → 0 < length before → n ≤ length now → new ≡ old ++ take n now →
    PieceOf files name old new (Ok n)
piece_got None name old new before now n h room fits e = tt
piece_got (Some files) name old new before now n h room fits e = piece_of_file (file_of files name) old new before now n h room fits e

-- The text so far: a front of the file, and empty where there is none.
abbrev pub FrontOf : Option (List ℕ) → List ℕ → Type 0
FrontOf None text = text ≡ []
FrontOf (Some file) text = IsFront text file

abbrev pub ToldFront : Option FileMap → List ℕ → List ℕ → Type 0
ToldFront None name text = Unit {0}
ToldFront (Some files) name text = FrontOf (file_of files name) text

front_empty : (file : Option (List ℕ)) → FrontOf file []
front_empty None = refl
front_empty (Some f) = record { within = omega arith; bytes = refl }

pub told_empty : (files : Option FileMap) (name : List ℕ) → ToldFront files name []
told_empty None name = tt
told_empty (Some files) name = front_empty (file_of files name)

front_on : (file : Option (List ℕ)) (old new : List ℕ) (n : ℕ) → PieceGives file old new (Ok (suc n)) → FrontOf file old → FrontOf file new
front_on None old new n h front = absurd h
front_on (Some f) old new n h front = h front

pub told_on : (files : Option FileMap) (name old new : List ℕ) (n : ℕ) → PieceOf files name old new (Ok n) → n ≢ 0 → ToldFront files name old → ToldFront files name new
told_on None name old new n h some front = tt
told_on (Some files) name old new zero h some front = absurd (some refl)
told_on (Some files) name old new (suc n) h some front = front_on (file_of files name) old new n h front

whole_end : (file : Option (List ℕ)) (old new : List ℕ) (limit : ℕ) → PieceGives file old new (Ok 0) → FrontOf file old → length new ≤ limit → WholeGives file limit (Ok new)
whole_end None old new limit h front small = h
whole_end (Some f) old new limit h front small = (h front, subst (λ s. length s ≤ limit) (h front) small)

pub told_end : (files : Option FileMap) (name old new : List ℕ) (limit : ℕ) → PieceOf files name old new (Ok 0) → ToldFront files name old → length new ≤ limit → WholeOf files name limit (Ok new)
told_end None name old new limit h front small = tt
told_end (Some files) name old new limit h front small = whole_end (file_of files name) old new limit h front small

whole_stop : (file : Option (List ℕ)) (old new : List ℕ) (limit : ℕ) (e : Stop) → PieceGives file old new (Err e) → e ≢ stop.TooLarge → WholeGives file limit (Err e)
whole_stop None old new limit stop.Failed h other = tt
whole_stop None old new limit stop.Absent h other = tt
whole_stop None old new limit stop.TooLarge h other = other refl
whole_stop None old new limit stop.OutOfMemory h other = tt
whole_stop (Some f) old new limit stop.Failed h other = tt
whole_stop (Some f) old new limit stop.Absent h other = h
whole_stop (Some f) old new limit stop.TooLarge h other = absurd h
whole_stop (Some f) old new limit stop.OutOfMemory h other = tt

pub told_stop : (files : Option FileMap) (name old new : List ℕ) (limit : ℕ) (e : Stop) → PieceOf files name old new (Err e) → e ≢ stop.TooLarge → WholeOf files name limit (Err e)
told_stop None name old new limit e h other = tt
told_stop (Some files) name old new limit e h other = whole_stop (file_of files name) old new limit e h other

whole_large : (file : Option (List ℕ)) (text : List ℕ) (limit : ℕ) → FrontOf file text → limit < length text → WholeGives file limit (Err stop.TooLarge)
whole_large None text limit front large = let none : length text ≡ 0 = ap length front in omega arith
whole_large (Some f) text limit front large = omega (arith, front.within)

pub told_large : (files : Option FileMap) (name text : List ℕ) (limit : ℕ) → ToldFront files name text → limit < length text → WholeOf files name limit (Err stop.TooLarge)
told_large None name text limit front large = tt
told_large (Some files) name text limit front large = whole_large (file_of files name) text limit front large
