-- The law on sound functions: what is left of a sound function is the body of one.
use Rattle.std.proofs.Common.{◌≡◌, ℕ, Bool, false, List, Option, None, Some, sym, subst}
use Rattle.std.specs.Prelude.{IsSome, IsNone, OnSome}
use Rattle.std.proofs.lemmas.Bool.{false≢true}
use Rattle.ir_types.specs.declared.scalar.Known.{Known}
use Rattle.ir_syntax.specs.declared.body.Body.{Body}
use Rattle.ir_syntax.specs.declared.item.Func.{Func}
use Rattle.ir_syntax.specs.declared.item.Item.{Item}
use Rattle.ir_syntax.specs.Programs.{ProgramData}
use Rattle.fold_facts.specs.Assigned.{Assigned}
use Rattle.fold_facts.specs.OfFunction.{AreKnownOf}
use Rattle.specialise.specs.declared.piece.Piece.{Piece}
use Rattle.specialise.specs.Pieces.{HasLeastPiece}
use Rattle.specialise.specs.Residual.{residual}
use Rattle.residual_laws.specs.Left.{IsSoundAmong, IsLeft, AreAsked, with_body}
use Rattle.residual_laws.proofs.Definite.{left_definite}
use Rattle.residual_laws.proofs.Formed.{left_formed}
use Rattle.residual_laws.proofs.Least.{least_led, least_asked}
use Rattle.residual_laws.proofs.Typed.{left_typed}

on_some : {T : Type 0} (o : Option T) (P : Type 0) → OnSome o P → IsSome o → P
on_some None P h some = absurd (false≢true some)
on_some (Some x) P h some = h

none_some : {T : Type 0} (o : Option T) → IsNone o → IsSome o → ⊥
none_some None none some = false≢true some
none_some (Some x) none some = cc

-- What is left of a function is the body of a sound one.
pub left_sound : (items : List Item) (known : List Known) (func : Func) (a : Assigned) → IsLeft items known func a → AreAsked known func a → IsSoundAmong items (with_body func (Some (residual known func a)))
left_sound items known func a h asked = record {
  formed = record {
    has_name = h.sound.formed.has_name;
    intrinsic = h.sound.formed.intrinsic;
    not_defined = λ reserved. absurd (none_some func.body (h.sound.formed.not_defined reserved) h.defined);
    few_params = h.sound.formed.few_params;
    declared = tt;
    fixed = on_some func.body (func.variadic ≡ false) h.sound.formed.fixed h.defined;
    has_body = left_formed items known func a h;
  };
  typed = record {
    intrinsic = h.sound.typed.intrinsic;
    fixed = on_some func.body (func.variadic ≡ false) h.sound.typed.fixed h.defined;
    has_body = left_typed items known func a h asked;
  };
  definite = left_definite items known func a h;
}

-- A least piece's body is that of a sound function.
pub piece_sound : (items : List Item) (p : ProgramData) (cycles : List (List Bool)) (home : ℕ) (known : List Known) (func : Func) (piece : Piece) → IsSome func.body → IsSoundAmong items func → AreKnownOf func known
    → HasLeastPiece p cycles home known func piece → IsSoundAmong items (with_body func piece.body)
piece_sound items p cycles home known func piece defined sound knows h =
    let left : IsLeft items known func h.facts = record { defined = defined; sound = sound; knows = knows; of = h.of; closed = h.least.closed; led = least_led known func h.facts h.least } in
    subst (λ (o : Option Body). IsSoundAmong items (with_body func o)) (sym h.is.body) (left_sound items known func h.facts left (least_asked known func h.facts h.least))
