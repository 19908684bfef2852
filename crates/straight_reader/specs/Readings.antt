-- What the first pieces of a list spell, without labels.
use Rattle.std.specs.Prelude.{ℕ, ◌+◌, ◌-◌, ◌*◌, Bool, true, false, ◌&&◌, ◌||◌, suc, zero, nat_eq, bytes_eq, codes, List, [], ◌∷◌, ◌++◌, length, drop, Option, Some, None, option_map, option_and_then, if◌then◌else◌}
use Rattle.ir_lexer.specs.declared.token.Kind.{Kind}
use Rattle.ir_lexer.specs.declared.token.Kind.TheVariants.{AtName, LocalName, Word, Int, Mark}
use Rattle.straight_form.specs.declared.surface.Value.{Value}
use Rattle.straight_form.specs.declared.surface.Value.TheVariants.{Number, Local}
use Rattle.straight_form.specs.declared.surface.Line.{Line}
use Rattle.straight_form.specs.declared.surface.Line.TheVariants.{Add, Call}
use Rattle.straight_form.specs.declared.surface.Entity.{Entity}
use Rattle.straight_form.specs.Spelled.{Piece}

abbrev pub is_word : List ℕ → Kind → List ℕ → Bool
is_word word Word text = bytes_eq text word
is_word word other text = false

abbrev pub is_mark : ℕ → Kind → List ℕ → Bool
is_mark byte Mark text = bytes_eq text (byte ∷ [])
is_mark byte other text = false

abbrev pub is_local : Kind → Bool
is_local LocalName = true
is_local other = false

-- what stands behind the sign, where the text begins with it
abbrev pub behind : ℕ → List ℕ → Option (List ℕ)
behind sign [] = None
behind sign (b ∷ bs) = if nat_eq b sign then Some bs else None

-- the name of @name and of %name
abbrev pub at_of : Kind → List ℕ → Option (List ℕ)
at_of AtName text = behind 64 text
at_of other text = None

abbrev pub local_of : Kind → List ℕ → Option (List ℕ)
local_of LocalName text = behind 37 text
local_of other text = None

abbrev pub value_of : Kind → List ℕ → Option Value
value_of Int text = Some (Number text)
value_of LocalName text = option_map (λ name. Local name) (behind 37 text)
value_of other text = None

-- a, b
unfoldable pub addition_by : Piece → Piece → Piece → Piece → Option Line
addition_by name a comma b =
    if is_mark 44 comma.0 comma.1
    then option_and_then (λ n. option_and_then (λ x. option_map (λ y. Add n x y) (value_of b.0 b.1)) (value_of a.0 a.1)) (local_of name.0 name.1)
    else None

abbrev pub addition_at : Piece → List Piece → Option Line
addition_at name (a ∷ comma ∷ b ∷ rest) = addition_by name a comma b
addition_at name other = None

-- ---- groups: (i32 a, i32 b)

-- i32 a, and whether a comma stands behind it rather than the end of the group
unfoldable pub word_by : Piece → Piece → Piece → Option (Value × Bool)
word_by ty a sign =
    if is_word (codes "i32") ty.0 ty.1 && (is_mark 44 sign.0 sign.1 || is_mark 41 sign.0 sign.1)
    then option_map (λ x. (x, is_mark 44 sign.0 sign.1)) (value_of a.0 a.1)
    else None

abbrev pub word_at : List Piece → Option (Value × Bool)
word_at (ty ∷ a ∷ sign ∷ rest) = word_by ty a sign
word_at other = None

-- The words behind so many pieces, up to the end of the group.
abbrev pub words_from : ℕ → List Piece → Option (List Value)
words_from skipped [] = None
words_from zero (p ∷ ps) = option_and_then (λ w. if w.1 then option_map (λ ws. w.0 ∷ ws) (words_from 2 ps) else Some (w.0 ∷ [])) (word_at (p ∷ ps))
words_from (suc skipped) (p ∷ ps) = words_from skipped ps

-- what stands in a group
abbrev pub inside_at : List Piece → Option (List Value)
inside_at [] = None
inside_at (p ∷ ps) = if is_mark 41 p.0 p.1 then Some [] else words_from 0 (p ∷ ps)

abbrev pub group_at : List Piece → Option (List Value)
group_at [] = None
group_at (opened ∷ rest) = if is_mark 40 opened.0 opened.1 then inside_at rest else None

-- how many pieces a group of so many words takes
abbrev pub group_len : ℕ → ℕ
group_len n = if nat_eq n 0 then 2 else 3 * n + 1

abbrev pub name_in : Value → Option (List ℕ)
name_in (Number digits) = None
name_in (Local name) = Some name

-- the names, where each of these is one
abbrev pub names_in : List Value → Option (List (List ℕ))
names_in [] = Some []
names_in (v ∷ vs) = option_and_then (λ n. option_map (λ ns. n ∷ ns) (names_in vs)) (name_in v)

-- ---- lines

-- @callee and a group
abbrev pub call_at : Piece → List Piece → Option Line
call_at name [] = None
call_at name (callee ∷ rest) =
    option_and_then (λ n. option_and_then (λ c. option_map (λ args. Call n c args) (group_at rest)) (at_of callee.0 callee.1)) (local_of name.0 name.1)

-- add i32 or call i32, and what follows
unfoldable pub verb_by : Piece → Piece → Piece → List Piece → Option Line
verb_by name verb ty rest =
    if is_word (codes "i32") ty.0 ty.1
    then (if is_word (codes "add") verb.0 verb.1 then addition_at name rest
    else (if is_word (codes "call") verb.0 verb.1 then call_at name rest
    else None))
    else None

abbrev pub verb_at : Piece → List Piece → Option Line
verb_at name (verb ∷ ty ∷ rest) = verb_by name verb ty rest
verb_at name other = None

-- the line at the front
abbrev pub line_at : List Piece → Option Line
line_at (name ∷ equals ∷ rest) = if is_mark 61 equals.0 equals.1 then verb_at name rest else None
line_at other = None

abbrev pub begins_line : List Piece → Bool
begins_line [] = false
begins_line (p ∷ ps) = is_local p.0

-- how many pieces a line takes
abbrev pub line_len : Line → ℕ
line_len (Add name a b) = 7
line_len (Call name callee args) = 5 + group_len (length args)

abbrev pub lines_len : List Line → ℕ
lines_len [] = 0
lines_len (l ∷ ls) = line_len l + lines_len ls

-- The lines behind so many pieces, up to the first piece that isn't %name where one should begin.
abbrev pub lines_from : ℕ → List Piece → Option (List Line)
lines_from skipped [] = Some []
lines_from zero (p ∷ ps) =
    if is_local p.0 then option_and_then (λ l. option_map (λ ls. l ∷ ls) (lines_from (line_len l - 1) ps)) (line_at (p ∷ ps)) else Some []
lines_from (suc skipped) (p ∷ ps) = lines_from skipped ps

-- ---- definitions

-- ret i32 result }
abbrev pub end_at : List Piece → Option Value
end_at (ret ∷ ty ∷ result ∷ closed ∷ rest) =
    if is_word (codes "ret") ret.0 ret.1 && is_word (codes "i32") ty.0 ty.1 && is_mark 125 closed.0 closed.1 then value_of result.0 result.1 else None
end_at other = None

abbrev pub entity_by : Bool → List ℕ → List (List ℕ) → List Line → Value → Entity
entity_by internal name params lines result = record { internal = internal; name = name; params = params; label = None; lines = lines; result = result }

-- the lines and the end
unfoldable pub body_at : Bool → List ℕ → List (List ℕ) → List Piece → Option Entity
body_at internal name params ps =
    option_and_then (λ lines. option_map (λ result. entity_by internal name params lines result) (end_at (drop (lines_len lines) ps))) (lines_from 0 ps)

-- { and the body
abbrev pub block_at : Bool → List ℕ → List (List ℕ) → List Piece → Option Entity
block_at internal name params [] = None
block_at internal name params (brace ∷ rest) = if is_mark 123 brace.0 brace.1 then body_at internal name params rest else None

-- a group of names
abbrev pub params_at : List Piece → Option (List (List ℕ))
params_at ps = option_and_then names_in (group_at ps)

-- the parameters and the block
unfoldable pub params_by : Bool → List ℕ → List Piece → Option Entity
params_by internal name ps = option_and_then (λ params. block_at internal name params (drop (group_len (length params)) ps)) (params_at ps)

-- i32 @name, the parameters and the block
abbrev pub head_at : Bool → List Piece → Option Entity
head_at internal (ty ∷ name ∷ rest) = if is_word (codes "i32") ty.0 ty.1 then option_and_then (λ n. params_by internal n rest) (at_of name.0 name.1) else None
head_at internal other = None

-- internal or nothing, and what follows
abbrev pub linkage_at : List Piece → Option Entity
linkage_at [] = None
linkage_at (linkage ∷ rest) = if is_word (codes "internal") linkage.0 linkage.1 then head_at true rest else head_at false (linkage ∷ rest)

-- the definition at the front
abbrev pub entity_at : List Piece → Option Entity
entity_at [] = None
entity_at (define ∷ rest) = if is_word (codes "define") define.0 define.1 then linkage_at rest else None

-- how many pieces a definition without a label takes
abbrev pub entity_len : Entity → ℕ
entity_len e = (if e.internal then 9 else 8) + group_len (length e.params) + lines_len e.lines

-- the definitions behind so many pieces, up to the last piece
abbrev pub entities_from : ℕ → List Piece → Option (List Entity)
entities_from skipped [] = Some []
entities_from zero (p ∷ ps) = option_and_then (λ e. option_map (λ es. e ∷ es) (entities_from (entity_len e - 1) ps)) (entity_at (p ∷ ps))
entities_from (suc skipped) (p ∷ ps) = entities_from skipped ps

-- what was read before, and then what is read
abbrev pub extended : {X : Type 0} → List X → Option (List X) → Option (List X)
extended xs o = option_map (λ ys. xs ++ ys) o
