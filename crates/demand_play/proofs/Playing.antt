-- One turn of the loop over the events.
use Rattle.std.proofs.Common.{◌≡◌, ℕ, ◌+◌, ◌<◌, Bool, true, false, List, [], ◌∷◌, ◌++◌, length, get_or, take, slice_get, sym, ap, subst, ◌∙◌, refl}
use Rattle.std.specs.Prelude.{Some, Err, Result, MatchBool}
use Rattle.std.proofs.lemmas.List.{take_more}
use Rattle.std.proofs.lemmas.Option.{slice_get_read}
use Rattle.demand_play.specs.declared.answer.Core.{Core}
use Rattle.demand_play.specs.declared.answer.CoreFault.{CoreFault}
use Rattle.demand_play.specs.declared.answer.CoreFault.TheVariants.{Illegal}
use Rattle.demand_play.specs.declared.event.TableEvent.{TableEvent}
use Rattle.demand_play.specs.Legal.{IsLegalAfter, IsLegal, IsFirstIllegal}
use Rattle.demand_play.specs.Mirrors.Held.{HoldsEvents}
use Rattle.demand_play.proofs.Answering.{matched, not_matched, one_place}
use Rattle.demand_play.proofs.Legality.{legal_push, first_illegal}

module _ (needs : List ℕ → List (List ℕ)) (roots : List (List ℕ)) (events : List TableEvent) (at : ℕ) (event : TableEvent) (core : Core) (found : List (List ℕ)) (needed : List (List (List ℕ)))
    (within : at < length events) (is : event ≡ get_or events at event) (legal : IsLegal needs roots (take at events)) (answer : Bool)
    (says : MatchBool answer (IsLegalAfter needs roots (take at events) event × HoldsEvents needs (take at events ++ event ∷ []) core found needed) (¬ IsLegalAfter needs roots (take at events) event)) where
  longer : take (at + 1) events ≡ take at events ++ event ∷ []
  longer = take_more events at event within ∙ ap (λ (e : TableEvent). take at events ++ e ∷ []) (sym is)

  pub goes_on : answer ≡ true → IsLegal needs roots (take (at + 1) events) × HoldsEvents needs (take (at + 1) events) core found needed
  goes_on so =
      let both = matched answer (IsLegalAfter needs roots (take at events) event × HoldsEvents needs (take at events ++ event ∷ []) core found needed) (¬ IsLegalAfter needs roots (take at events) event) so says in (
        subst (IsLegal needs roots) (sym longer) (legal_push needs roots (take at events) event legal both.0),
        subst (λ (l : List TableEvent). HoldsEvents needs l core found needed) (sym longer) both.1,
      )

  pub stops_at : answer ≡ false → (other : ℕ) → ◌≡◌ {A = Result Core CoreFault} (Err (Illegal at)) (Err (Illegal other)) → IsFirstIllegal needs roots events other
  stops_at not_so other same =
      let refused = not_matched answer (IsLegalAfter needs roots (take at events) event × HoldsEvents needs (take at events ++ event ∷ []) core found needed) (¬ IsLegalAfter needs roots (take at events) event) not_so says in
      let there : slice_get events at ≡ Some event = slice_get_read events (length events) at event refl within is in
      subst (IsFirstIllegal needs roots events) (one_place at other same)
      (first_illegal needs roots roots (λ row. ((λ here. here), λ here. here)) events at event there legal refused)
