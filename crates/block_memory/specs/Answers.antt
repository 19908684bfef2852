-- What a call answers: a value, the cause of undefined behaviour, or nothing, where it was asked for what no typed program asks.
use Rattle.std.specs.Prelude.{Bool, List, [], ◌∷◌, Option, Some, None, Result, Ok, Err, if◌then◌else◌}
use Rattle.int_ops.specs.declared.cause.Cause.{Cause}

pub data Answer (X : Type 0) : Type 0 where
  Gives : (x : X) → Answer X
  Undefined : (cause : Cause) → Answer X
  Stuck : Answer X

abbrev pub and_then : {A B : Type 0} → (A → Answer B) → Answer A → Answer B
and_then f (Gives x) = f x
and_then f (Undefined cause) = Undefined cause
and_then f Stuck = Stuck

-- what a typed program always has
abbrev pub or_stuck : {A : Type 0} → Option A → Answer A
or_stuck None = Stuck
or_stuck (Some x) = Gives x

-- There is a value, or a cause: what is asked has a meaning.
abbrev pub IsMeant : {A : Type 0} → Answer A → Type 0
IsMeant (Gives x) = Unit {0}
IsMeant (Undefined cause) = Unit {0}
IsMeant Stuck = ⊥

-- Causes in the order in which they are looked at, each with whether it holds: the first that does, and else the value.
abbrev pub unless : {A : Type 0} → List (Cause × Bool) → A → Answer A
unless [] x = Gives x
unless (row ∷ rows) x = if row.1 then Undefined row.0 else unless rows x

-- ---- in code

-- what a result of the code answers
abbrev pub answered : {A : Type 0} → Result A Cause → Answer A
answered (Ok x) = Gives x
answered (Err cause) = Undefined cause

-- what it answers where it leaves something changed
abbrev pub changed : {A : Type 0} → A → Result (Unit {0}) Cause → Answer A
changed x (Ok done) = Gives x
changed x (Err cause) = Undefined cause
