-- How items go through parts of a text, one after another.
use Rattle.std.proofs.Common.{◌≡◌, ◌∙◌, ℕ, true, not, List, [], ◌∷◌, ◌++◌, length, Some, None, refl, sym, ap, subst, ◌<◌, arith}
use Rattle.std.proofs.lemmas.Bool.{and_from}
use Rattle.std.proofs.lemmas.List.{append-nil}
use Rattle.std.proofs.lemmas.List.Folds.{list_all-append}
use Rattle.ir_lexer.specs.declared.token.Kind.{Kind}
use Rattle.ir_lexer.specs.Written.{Part, Space, Spelling, spellings_of}
use Rattle.ir_types.specs.declared.scalar.Scalar.{Scalar}
use Rattle.ir_grammar.specs.declared.shape.Shape.{Shape}
use Rattle.ir_grammar.specs.declared.shape.Shape.TheVariants as is
use Rattle.ir_grammar.specs.declared.grammar.Keep.{Keep}
use Rattle.ir_grammar.specs.declared.grammar.Keep.TheVariants as keep
use Rattle.ir_grammar.specs.declared.grammar.Name.{Name}
use Rattle.ir_grammar.specs.declared.grammar.Item.TheVariants as item
use Rattle.ir_grammar.specs.Shapes.{shape_of}
use Rattle.ir_grammar.specs.Tokens.{Piece, Kept, shape, keeping}
use Rattle.ir_grammar.specs.Mirrors.Walk.{Turn, Settled, Taken, AllLeft, Refused, turn_at, by_turn, settle}
use Rattle.round_trip.proofs.Grammar.Walking.{Items, take_on, goes, Quietly, Takes}
use Rattle.round_trip.proofs.Grammar.Goes.{spellings_append, goes_append, same_left, is_record, no_records}

-- From these items the tokens of the parts are taken, none of them a debug record; this is kept of them, and then the
-- others stand there.
pub record Through (items : Items) (parts : List Part) (kept : List Kept) (next : Items) : Type 0 where
  pub gone : goes items (spellings_of parts) ≡ Some (kept, next)
  pub clean : no_records (spellings_of parts) ≡ true

pub nothing : (items : Items) → Through items [] [] items
nothing items = record { gone = refl; clean = refl }

pub spaced : {items next : Items} {byte : ℕ} {parts : List Part} {kept : List Kept} → Through items parts kept next → Through items (Space byte ∷ parts) kept next
spaced h = record { gone = h.gone; clean = h.clean }

pub through_as : {items next : Items} {parts parts_too : List Part} {kept kept_too : List Kept} → parts ≡ parts_too → kept ≡ kept_too → Through items parts kept next → Through items parts_too kept_too next
through_as {items} {next} {parts} {parts_too} {kept} {kept_too} e f h = subst (λ kept. Through items parts_too kept next) f (subst (λ parts. Through items parts kept next) e h)

-- a token that items take in this way
taken : (items next left : Items) (kind : Kind) (text : List ℕ) (at : Shape) (kept_as : Keep) (parts : List Part) (kept : List Kept) →
    shape_of kind text ≡ at → not (is_record at) ≡ true → settle at items ≡ Taken kept_as next → Through next parts kept left →
    Through items (Spelling kind text ∷ parts) (keeping kept_as at text kept) left
taken items next left kind text at kept_as parts kept shaped plain settled h = record {
  gone =
      ap (λ at. take_on (λ next. goes next (spellings_of parts)) (kind, text) (settle at items)) shaped
      ∙ ap (take_on (λ next. goes next (spellings_of parts)) (kind, text)) settled
      ∙ ap (λ gone. take_on (λ next. gone) (kind, text) (Taken kept_as next)) h.gone
      ∙ ap (λ at. Some (keeping kept_as at text kept, left)) shaped;
  clean = and_from (not (is_record (shape_of kind text))) (no_records (spellings_of parts)) (ap (λ at. not (is_record at)) shaped ∙ plain) h.clean;
}

pub keeps : {items next left : Items} {kind : Kind} {text : List ℕ} {at : Shape} {parts : List Part} {kept : List Kept} →
    shape_of kind text ≡ at → not (is_record at) ≡ true → settle at items ≡ Taken keep.Keeps next → Through next parts kept left →
    Through items (Spelling kind text ∷ parts) ((at, text) ∷ kept) left
keeps {items} {next} {left} {kind} {text} {at} {parts} {kept} shaped plain settled h = taken items next left kind text at keep.Keeps parts kept shaped plain settled h

-- the beginning of an address
pub keeps_address : {items next left : Items} {kind : Kind} {text : List ℕ} {at : Shape} {parts : List Part} {kept : List Kept} →
    shape_of kind text ≡ at → not (is_record at) ≡ true → settle at items ≡ Taken keep.AsAddress next → Through next parts kept left →
    Through items (Spelling kind text ∷ parts) ((is.Address, text) ∷ kept) left
keeps_address {items} {next} {left} {kind} {text} {at} {parts} {kept} shaped plain settled h = taken items next left kind text at keep.AsAddress parts kept shaped plain settled h

-- what a call returns
pub keeps_returned : {items next left : Items} {kind : Kind} {text : List ℕ} {ty : Scalar} {parts : List Part} {kept : List Kept} →
    shape_of kind text ≡ is.Scalar ty → settle (is.Scalar ty) items ≡ Taken keep.AsReturned next → Through next parts kept left →
    Through items (Spelling kind text ∷ parts) ((is.Returned ty, text) ∷ kept) left
keeps_returned {items} {next} {left} {kind} {text} {ty} {parts} {kept} shaped settled h = taken items next left kind text (is.Scalar ty) keep.AsReturned parts kept shaped refl settled h

pub drops : {items next left : Items} {kind : Kind} {text : List ℕ} {at : Shape} {parts : List Part} {kept : List Kept} →
    shape_of kind text ≡ at → not (is_record at) ≡ true → settle at items ≡ Taken keep.Drops next → Through next parts kept left →
    Through items (Spelling kind text ∷ parts) kept left
drops {items} {next} {left} {kind} {text} {at} {parts} {kept} shaped plain settled h = taken items next left kind text at keep.Drops parts kept shaped plain settled h

-- a first token at which the items do what others do
pub passes : {items others left : Items} {kind : Kind} {text : List ℕ} {at : Shape} {parts : List Part} {kept : List Kept} →
    shape_of kind text ≡ at → settle at items ≡ settle at others → Through others (Spelling kind text ∷ parts) kept left → Through items (Spelling kind text ∷ parts) kept left
passes {items} {others} {left} {kind} {text} {at} {parts} {kept} shaped same h = record {
  gone = ap (take_on (λ next. goes next (spellings_of parts)) (kind, text)) (ap (λ at. settle at items) shaped ∙ same ∙ sym (ap (λ at. settle at others) shaped)) ∙ h.gone;
  clean = h.clean;
}

pub then_on : {items next left : Items} {p q : List Part} {kept more : List Kept} → Through items p kept next → Through next q more left → Through items (p ++ q) (kept ++ more) left
then_on {items} {next} {left} {p} {q} {kept} {more} first second = record {
  gone = ap (goes items) (spellings_append p q) ∙ goes_append (spellings_of p) (spellings_of q) items next left kept more first.gone second.gone;
  clean =
      ap no_records (spellings_append p q) ∙ list_all-append (λ piece. not (is_record (shape piece))) (spellings_of p) (spellings_of q)
      ∙ and_from (no_records (spellings_of p)) (no_records (spellings_of q)) first.clean second.clean;
}

-- the same where nothing is kept of what comes behind
pub then_unkept : {items next left : Items} {p q : List Part} {kept : List Kept} → Through items p kept next → Through next q [] left → Through items (p ++ q) kept left
then_unkept {items} {next} {left} {p} {q} {kept} first second = subst (λ all. Through items (p ++ q) all left) (append-nil kept) (then_on first second)

-- ---- what begins at other items

-- Where the first items take a token, the others do the same with it.
abbrev pub Begins : Items → Items → Type 0
Begins one other = (at : Shape) (kept_as : Keep) (next : Items) → settle at one ≡ Taken kept_as next → settle at other ≡ Taken kept_as next

-- a part that is there, where it may be left out, stand any number of times, or stand with commas between
by_turn_begins : (turn : Turn) (items : Items) (otherwise : Settled) (kept_as : Keep) (next : Items) → by_turn turn items Refused ≡ Taken kept_as next → by_turn turn items otherwise ≡ Taken kept_as next
by_turn_begins None items otherwise kept_as next e = cc
by_turn_begins (Some turn) items otherwise kept_as next e = e

pub may_begins : (name : Name) (items : Items) → Begins (item.One name ∷ items) (item.May name ∷ items)
may_begins name items at kept_as next e = by_turn_begins (turn_at name at) items (settle at items) kept_as next e

pub many_begins : (name : Name) (items : Items) → Begins (item.One name ∷ item.Many name ∷ items) (item.Many name ∷ items)
many_begins name items at kept_as next e = by_turn_begins (turn_at name at) (item.Many name ∷ items) (settle at items) kept_as next e

pub separated_begins : (name : Name) (items : Items) → Begins (item.One name ∷ item.Further name ∷ items) (item.Separated name ∷ items)
separated_begins name items at kept_as next e = by_turn_begins (turn_at name at) (item.Further name ∷ items) (settle at items) kept_as next e

begins_settled : (one other left : Items) (piece : Piece) (pieces : List Piece) (kept : List Kept) (settled : Settled) → settle (shape piece) one ≡ settled → Begins one other →
    take_on (λ next. goes next pieces) piece settled ≡ Some (kept, left) → goes other (piece ∷ pieces) ≡ Some (kept, left)
begins_settled one other left piece pieces kept (Taken kept_as next) settles begins e = ap (take_on (λ next. goes next pieces) piece) (begins (shape piece) kept_as next settles) ∙ e
begins_settled one other left piece pieces kept AllLeft settles begins e = cc
begins_settled one other left piece pieces kept Refused settles begins e = cc

begins_pieces : (one other left : Items) (pieces : List Piece) (kept : List Kept) → length left < length one → Begins one other → goes one pieces ≡ Some (kept, left) → goes other pieces ≡ Some (kept, left)
begins_pieces one other left [] kept shorter begins e =
    let same = same_left kept [] left one e in
    absurd (omega (arith, ap length same, shorter))
begins_pieces one other left (piece ∷ pieces) kept shorter begins e = begins_settled one other left piece pieces kept (settle (shape piece) one) refl begins e

-- What the first items go through the others go through too, where fewer items are left.
pub begun : {one other left : Items} {parts : List Part} {kept : List Kept} → length left < length one → Begins one other → Through one parts kept left → Through other parts kept left
begun {one} {other} {left} {parts} {kept} shorter begins h = record { gone = begins_pieces one other left (spellings_of parts) kept shorter begins h.gone; clean = h.clean }

-- ---- up to a quiet token

-- The tokens of the parts are taken, and then the others stand there at a quiet shape.
pub record Said (items : Items) (parts : List Part) (kept : List Kept) (others : Items) : Type 0 where
  pub left : Items
  pub through : Through items parts kept left
  pub quiet : Quietly left others

pub said_takes : {items others : Items} {parts : List Part} {kept : List Kept} → Said items parts kept others → Takes items (spellings_of parts) kept others
said_takes h = record { left = h.left; gone = h.through.gone; quiet = h.quiet }
