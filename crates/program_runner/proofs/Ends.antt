-- What a trace says last.
use Rattle.std.proofs.Common.{◌≡◌, List, [], ◌∷◌, ◌++◌, refl}
use Rattle.session_runs.specs.declared.session.Event.{Event}
use Rattle.program_runner.specs.Ending.{value_in, returned}

last_of_two : (e : Event) (trace : List Event) (last : Event) → returned (trace ++ last ∷ []) ≡ value_in last → returned (e ∷ (trace ++ last ∷ [])) ≡ value_in last
last_of_two e [] last so = so
last_of_two e (f ∷ trace) last so = so

pub returned_last : (trace : List Event) (last : Event) → returned (trace ++ last ∷ []) ≡ value_in last
returned_last [] last = refl
returned_last (e ∷ trace) last = last_of_two e trace last (returned_last trace last)
