-- Where the words of the table stand: the count of drawn numbers, the slots, and the rows of 37 words.
use Rattle.std.specs.Prelude.{◌≡◌, ℕ, zero, suc, ◌+◌, ◌*◌, ◌/◌, ◌%◌, ◌^◌, List, [], ◌∷◌, length, slice_index, Option, Some, None}
use mathlib.Core.Option.{some}
use lib.ListN.{get_elem?}

-- x stands somewhere in the list
abbrev pub Has : {A : Type 0} → List A → A → Type 0
Has l x = (i : ℕ) × (get_elem? l i ≡ some x)

abbrev pub slots : ℕ
slots = 131072

-- the j-th word of the row x: 0 is its head, 1 to 34 are its words, 35 is its origin, and 36 is its claim
abbrev pub word_of : ℕ → ℕ → ℕ
word_of x j = 37 * x + j + 131073

-- how many words a table for b workers has
abbrev pub total : ℕ → ℕ
total b = 37 * (65536 + b) + 131073

-- n words from a place on
abbrev pub span : List ℕ → ℕ → ℕ → List ℕ
span words at zero = []
span words at (suc n) = slice_index words at ∷ span words (at + 1) n

-- the words whose head stands at this place: as many as the head's length says
abbrev pub content_at : List ℕ → ℕ → List ℕ
content_at words at = span words (at + 1) (slice_index words at % 64)

abbrev pub content : List ℕ → ℕ → List ℕ
content words x = content_at words (word_of x 0)

abbrev pub generation : List ℕ → ℕ → ℕ
generation words x = slice_index words (word_of x 0) / 64

-- how an origin word names a parent
abbrev pub named : Option ℕ → ℕ
named None = 0
named (Some y) = y + 1

-- one number of a row's length and words
abbrev pub mixed : ℕ → List ℕ → ℕ
mixed h [] = h
mixed h (w ∷ ws) = mixed ((h + w) % 2 ^ 64 * 11400714819323198485 % 2 ^ 64) ws

unfoldable pub home : List ℕ → ℕ
home row = mixed (length row) row / 2 ^ 47

-- the word of the i-th slot of a row's chain
unfoldable pub probe : List ℕ → ℕ → ℕ
probe row i = (home row + i) % 131072 + 1
