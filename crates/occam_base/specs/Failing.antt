-- Which calls of a fake fail. A number says that the call that comes as the so manieth from now on fails.
use Rattle.std.specs.Prelude.{ℕ, ◌-◌, List, Contains, map}
use Rattle.occam_base.specs.declared.mem_shelf.Act.{Act}

-- the next call fails
abbrev pub FailsNow : List ℕ → Type 0
FailsNow numbers = Contains numbers 1

-- the numbers after a call
abbrev pub after_call : List ℕ → List ℕ
after_call numbers = map (λ number. number - 1) numbers

-- the next call of this kind and file fails
abbrev pub FailsNowAt : List (Act × List ℕ × ℕ) → Act → List ℕ → Type 0
FailsNowAt entries act name = Contains entries (act, name, 1)
