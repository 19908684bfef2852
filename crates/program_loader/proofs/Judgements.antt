-- What a text of a module is found to be.
use Rattle.std.proofs.Common.{◌≡◌, ℕ, ◌<◌, List, length, get_or, Result, Ok, Err, refl, sym, ap, subst, arith}
use Rattle.std.specs.Prelude.{IfOk}
use Rattle.std.proofs.lemmas.Option.{slice_get_read}
use Rattle.occam_base.specs.declared.code.Code.TheVariants as code
use Rattle.ir_syntax.specs.declared.item.Item.{Item}
use Rattle.ir_syntax.specs.FormedBody.{item_name}
use Rattle.ir_writer.specs.Names.{name_text}
use Rattle.ir_check.specs.IllTyped.{IsFirstIllTyped}
use Rattle.ir_paths.specs.declared.fault.PathFault.{PathFault}
use Rattle.ir_paths.specs.declared.fault.PathFault.TheVariants as path
use Rattle.ir_paths.specs.FirstIndefinite.{IsFirstIndefinite}
use Rattle.ir_parser.specs.declared.fault.ReadFault.{ReadFault}
use Rattle.ir_parser.specs.declared.fault.ReadFault.TheVariants as read
use Rattle.ir_syntax.specs.declared.item.Module.{Module}
use Rattle.ir_syntax.specs.Typed.{Typed}
use Rattle.ir_syntax.specs.Definite.{Definite}
use Rattle.ir_parser.specs.Spelled.{Spells, IsCause}
use Rattle.program_loader.specs.declared.judging.Judged.{Judged}
use Rattle.program_loader.specs.declared.judging.Judged.TheVariants.{Sound, Refused}
use Rattle.program_loader.specs.declared.refusal.Detail.TheVariants as detail
use Rattle.program_loader.specs.declared.refusal.Refusal.{Refusal}
use Rattle.program_loader.specs.Refusing.{refusal}
use Rattle.program_loader.specs.Loading.{IsNamed, RefusesText}
use Rattle.program_loader.specs.Loading.{RefusesText as text}
use Rattle.program_loader.specs.Steps.{IsJudged, IsChecked, RefusesChecks}
use Rattle.program_loader.specs.Steps.{RefusesChecks as checks}

refused : (name bytes : List ℕ) (m : Module) (r : Refusal) → Spells bytes m → RefusesChecks name m r → RefusesText name bytes r
refused name bytes m r spells (checks.IllTyped item symbol first named is) = text.IllTyped m item symbol spells first named is
refused name bytes m r spells (checks.NotDefinite item symbol typed first named is) = text.NotDefinite m item symbol spells typed first named is

-- a module that is spelled and checked
judged : (name bytes : List ℕ) (m : Module) (j : Judged) → Spells bytes m → IsChecked name m j → IsJudged name bytes j
judged name bytes m (Sound n) spells h = record { spells = subst (Spells bytes) (sym h.0) spells; typed = subst Typed (sym h.0) h.1; definite = subst Definite (sym h.0) h.2 }
judged name bytes m (Refused r) spells h = refused name bytes m r spells h

pub judged_all : {E : Type 0} (name bytes : List ℕ) (m : Module) (answer : Result Judged E) → Spells bytes m → IfOk answer (IsChecked name m) → IfOk answer (IsJudged name bytes)
judged_all name bytes m (Ok j) spells h = judged name bytes m j spells h
judged_all name bytes m (Err e) spells h = tt

-- ---- one refusal

pub bad_byte : (name bytes : List ℕ) (e : ReadFault) (at : ℕ) (r : Refusal) → IsCause bytes e → e ≡ read.BadByte at → r ≡ refusal code.BadByte (detail.At name at) → RefusesText name bytes r
bad_byte name bytes e at r cause same is = text.BadByte at (subst (IsCause bytes) same cause) is

pub not_in_subset : (name bytes : List ℕ) (e : ReadFault) (entity : ℕ) (r : Refusal) → IsCause bytes e → e ≡ read.NotInSubset entity → r ≡ refusal code.NotInSubset (detail.At name entity) → RefusesText name bytes r
not_in_subset name bytes e entity r cause same is = text.NotInSubset entity (subst (IsCause bytes) same cause) is

pub first_indefinite : (items : List Item) (e : PathFault) (place : ℕ) → ((item : ℕ) → (let answer : Result (Unit {0}) PathFault = Err e in answer ≡ Err (path.NotDefinite item)) → IsFirstIndefinite items item) → e ≡ path.NotDefinite place
    → IsFirstIndefinite items place
first_indefinite items e place first is = first place (ap (λ x. Err x) is)

pub place_within : (items slice : List Item) (place : ℕ) → IsFirstIndefinite items place → slice ≡ items → place < length slice
place_within items slice place first same = omega (arith, first.within, ap length same)

item_named : (items slice : List Item) (place : ℕ) (found : Item) → slice ≡ items → place < length items → found ≡ get_or slice place found → IsNamed items place (name_text (item_name found))
item_named items slice place found same within here = record {
  found = found;
  stands = slice_get_read items (length items) place found refl within (subst (λ (l : List Item). found ≡ get_or l place found) same here);
  written = refl;
}

pub ill_typed : (name : List ℕ) (m : Module) (slice : List Item) (place : ℕ) (found : Item) (r : Refusal) → IsFirstIllTyped m.items place → slice ≡ m.items → found ≡ get_or slice place found
    → r ≡ refusal code.IllTyped (detail.Of name (name_text (item_name found))) → RefusesChecks name m r
ill_typed name m slice place found r first same here is = checks.IllTyped place (name_text (item_name found)) first (item_named m.items slice place found same first.within here) is

pub indefinite : (name : List ℕ) (m : Module) (slice : List Item) (place : ℕ) (found : Item) (r : Refusal) → Typed m → IsFirstIndefinite m.items place → slice ≡ m.items → found ≡ get_or slice place found
    → r ≡ refusal code.NotDefinite (detail.Of name (name_text (item_name found))) → RefusesChecks name m r
indefinite name m slice place found r typed first same here is = checks.NotDefinite place (name_text (item_name found)) typed first (item_named m.items slice place found same first.within here) is

pub refused_is : (name bytes : List ℕ) (j : Judged) (r : Refusal) → IsJudged name bytes j → j ≡ Refused r → RefusesText name bytes r
refused_is name bytes j r h is = subst (IsJudged name bytes) is h
