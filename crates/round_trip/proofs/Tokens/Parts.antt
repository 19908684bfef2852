-- When what is written in parts can be read, and how such parts are put together.
use Rattle.std.proofs.Common.{◌≡◌, ℕ, Bool, true, false, List, [], ◌∷◌, ◌++◌, map, flat_map, refl, sym, subst, append_assoc}
use Rattle.ir_lexer.specs.declared.token.Kind.{Kind}
use Rattle.ir_lexer.specs.declared.token.Kind.TheVariants as kind
use Rattle.ir_lexer.specs.Signs.{is_blank, is_mark}
use Rattle.ir_lexer.specs.Spelled.{is_spelled, is_word, is_one_mark}
use Rattle.ir_lexer.specs.Written.{Space, Spelling, bytes_of, is_end, IsEnd, MayFollow, IsReadable}
use Rattle.ir_writer.specs.Words.{Parts, space, line_end, word, mark, comma, more, listed}

-- what has to begin behind parts: an end, or anything
abbrev pub Begins : Bool → Parts → Type 0
Begins true rest = IsEnd (bytes_of rest)
Begins false rest = Unit {0}

-- The parts can be read before a rest that can be read, where an end begins the rest if the parts want it.
pub record Reads (wants : Bool) (parts : Parts) : Type 0 where
  pub before : (rest : Parts) → IsReadable rest → Begins wants rest → IsReadable (parts ++ rest)

-- And they begin with an end themselves, or are none, so that they may stand behind any token.
pub record Follows (wants : Bool) (parts : Parts) : Type 0 where
  pub reads : Reads wants parts
  pub ends : (rest : Parts) → Begins wants rest → IsEnd (bytes_of (parts ++ rest))

-- ---- one part, and what comes behind it

pub nothing : Follows true []
nothing = record { reads = record { before = λ rest readable end. readable }; ends = λ rest end. end }

pub no_parts : Reads false []
no_parts = record { before = λ rest readable any. readable }

may_follow : (k : Kind) (rest : List ℕ) → IsEnd rest → MayFollow k rest
may_follow kind.AtName rest end = end
may_follow kind.LocalName rest end = end
may_follow kind.Hash rest end = end
may_follow kind.Meta rest end = end
may_follow kind.Str rest end = end
may_follow kind.CStr rest end = end
may_follow kind.Label rest end = end
may_follow kind.Word rest end = end
may_follow kind.Int rest end = end
may_follow kind.Mark rest end = tt

pub token : {wants : Bool} {k : Kind} {text : List ℕ} {parts : Parts} → is_spelled k text ≡ true → Follows wants parts → Reads wants (Spelling k text ∷ parts)
token spelled behind = record { before = λ rest readable begins. (spelled, may_follow _ _ (behind.ends rest begins), behind.reads.before rest readable begins) }

pub blank : {wants : Bool} {byte : ℕ} {parts : Parts} → is_blank byte ≡ true → is_end byte ≡ true → Reads wants parts → Follows wants (Space byte ∷ parts)
blank is end behind = record { reads = record { before = λ rest readable begins. (is, behind.before rest readable begins) }; ends = λ rest begins. end }

-- a mark, behind which anything may come
pub marked : {wants : Bool} {byte : ℕ} {parts : Parts} → is_one_mark (byte ∷ []) ≡ true → Reads wants parts → Reads wants (mark byte ∷ parts)
marked is behind = record { before = λ rest readable begins. (is, tt, behind.before rest readable begins) }

-- and which may come behind any token
pub end_mark : {wants : Bool} {byte : ℕ} {parts : Parts} → is_one_mark (byte ∷ []) ≡ true → is_end byte ≡ true → Reads wants parts → Follows wants (mark byte ∷ parts)
end_mark is end behind = record { reads = marked is behind; ends = λ rest begins. end }

-- ---- parts behind others

pub joined : {wants : Bool} (parts others : Parts) → Reads true parts → Follows wants others → Reads wants (parts ++ others)
joined parts others reads behind = record {
  before = λ rest readable begins.
      subst IsReadable (sym (append_assoc parts others rest)) (reads.before (others ++ rest) (behind.reads.before rest readable begins) (behind.ends rest begins));
}

pub joined_behind : {wants : Bool} (parts others : Parts) → Follows true parts → Follows wants others → Follows wants (parts ++ others)
joined_behind parts others reads behind = record {
  reads = joined parts others reads.reads behind;
  ends = λ rest begins. subst (λ ps. IsEnd (bytes_of ps)) (sym (append_assoc parts others rest)) (reads.ends (others ++ rest) (behind.ends rest begins));
}

-- parts that want nothing behind them
pub closed : {wants : Bool} (parts others : Parts) → Reads false parts → Reads wants others → Reads wants (parts ++ others)
closed parts others reads behind = record {
  before = λ rest readable begins. subst IsReadable (sym (append_assoc parts others rest)) (reads.before (others ++ rest) (behind.before rest readable begins) tt);
}

-- ---- blanks and commas

ends : (is_end 32 ≡ true) × (is_end 10 ≡ true) × (is_end 44 ≡ true)
unfolding is_end is_blank is_mark
ends = (refl, refl, refl)

blanks : (is_blank 32 ≡ true) × (is_blank 10 ≡ true)
unfolding is_blank
blanks = (refl, refl)

comma_mark : is_one_mark (44 ∷ []) ≡ true
unfolding is_one_mark is_mark
comma_mark = refl

pub spaced : {wants : Bool} {parts : Parts} → Reads wants parts → Follows wants (space ∷ parts)
spaced behind = blank blanks.0 ends.0 behind

pub line_ended : {wants : Bool} {parts : Parts} → Reads wants parts → Follows wants (line_end ∷ parts)
line_ended behind = blank blanks.1 ends.1 behind

pub comma_spaced : {wants : Bool} {parts : Parts} → Reads wants parts → Follows wants (comma ∷ space ∷ parts)
comma_spaced behind = end_mark comma_mark ends.2 (spaced behind).reads

pub word_spaced : {wants : Bool} {text : List ℕ} {parts : Parts} → is_word text ≡ true → Reads wants parts → Reads wants (word text ∷ space ∷ parts)
word_spaced is behind = token is (spaced behind)

-- ---- lists

abbrev pub EachReads : List Parts → Type 0
EachReads [] = Unit {0}
EachReads (parts ∷ lists) = Reads true parts × EachReads lists

pub each_mapped : {A : Type 0} (f : A → Parts) (xs : List A) → ((x : A) → Reads true (f x)) → EachReads (map f xs)
each_mapped f [] reads = tt
each_mapped f (x ∷ xs) reads = (reads x, each_mapped f xs reads)

pub each_behind : (lists others : List Parts) → EachReads lists → EachReads others → EachReads (lists ++ others)
each_behind [] others first second = second
each_behind (parts ∷ lists) others first second = (first.0, each_behind lists others first.1 second)

pub more_follow : (lists : List Parts) → EachReads lists → Follows true (more lists)
more_follow [] each = nothing
more_follow (parts ∷ lists) each = joined_behind (comma ∷ space ∷ parts) (more lists) (comma_spaced each.0) (more_follow lists each.1)

pub listed_read : (lists : List Parts) → EachReads lists → Reads true (listed lists)
listed_read [] each = nothing.reads
listed_read (parts ∷ lists) each = joined parts (more lists) each.0 (more_follow lists each.1)

-- parts that want nothing behind them, one after another
pub flat_read : {A : Type 0} (f : A → Parts) (xs : List A) → ((x : A) → Reads false (f x)) → Reads false (flat_map f xs)
flat_read f [] reads = no_parts
flat_read f (x ∷ xs) reads = closed (f x) (flat_map f xs) (reads x) (flat_read f xs reads)
