-- How items go through one list of tokens after another, and the walk over them.
use Rattle.std.proofs.Common.{◌≡◌, ◌∙◌, ℕ, suc, ◌+◌, Bool, true, false, not, cond, List, [], ◌∷◌, ◌++◌, length, Some, None, option_map, refl, sym, ap, arith}
use Rattle.std.specs.Prelude.{unwrap_or}
use Rattle.std.specs.List.{list_all}
use Rattle.std.proofs.lemmas.Bool.{false≢true, and_parts}
use Rattle.std.proofs.lemmas.List.{append-nil}
use Rattle.ir_lexer.specs.Written.{Part, Space, Spelling, spellings_of}
use Rattle.ir_grammar.specs.declared.shape.Shape.{Shape}
use Rattle.ir_grammar.specs.declared.shape.Shape.TheVariants as is
use Rattle.ir_grammar.specs.declared.grammar.Keep.{Keep}
use Rattle.ir_grammar.specs.declared.grammar.Keep.TheVariants as keep
use Rattle.ir_grammar.specs.Tokens.{Piece, Kept, shape, is_group, keeping}
use Rattle.ir_grammar.specs.Mirrors.Walk.{Settled, Taken, AllLeft, Refused, Found, settle, may_end, walk_on, walk}
use Rattle.ir_grammar.proofs.Steps.{told_otherwise}
use Rattle.round_trip.proofs.Grammar.Walking.{Items, Gone, take_on, goes, is_quiet, Quietly, Takes}

-- ---- one list after another

pub spellings_append : (p q : List Part) → spellings_of (p ++ q) ≡ spellings_of p ++ spellings_of q
spellings_append [] q = refl
spellings_append (Space byte ∷ p) q = spellings_append p q
spellings_append (Spelling kind text ∷ p) q = ap (λ pieces. (kind, text) ∷ pieces) (spellings_append p q)

keeping_append : (kept_as : Keep) (at : Shape) (text : List ℕ) (kept more : List Kept) → keeping kept_as at text (kept ++ more) ≡ keeping kept_as at text kept ++ more
keeping_append keep.Drops at text kept more = refl
keeping_append keep.Keeps at text kept more = refl
keeping_append keep.AsResult at text kept more = refl
keeping_append keep.AsAddress at text kept more = refl
keeping_append keep.AsReturned at text kept more = refl

-- what is gone through, with this kept before it
abbrev before : List Kept → Gone → Gone
before kept gone = option_map (λ found. (kept ++ found.0, found.1)) gone

-- the same with one token before it
abbrev keeps_before : Keep → Shape → List ℕ → Gone → Gone
keeps_before kept_as at text gone = option_map (λ found. (keeping kept_as at text found.0, found.1)) gone

before_nothing : (gone : Gone) → gone ≡ before [] gone
before_nothing None = refl
before_nothing (Some found) = refl

before_token : (kept_as : Keep) (at : Shape) (text : List ℕ) (kept : List Kept) (gone : Gone) →
    keeps_before kept_as at text (before kept gone) ≡ before (keeping kept_as at text kept) gone
before_token kept_as at text kept None = refl
before_token kept_as at text kept (Some found) = ap (λ all. Some (all, found.1)) (keeping_append kept_as at text kept found.0)

-- these tokens behind what is gone through
abbrev onto : List Piece → Gone → Gone
onto q None = None
onto q (Some found) = before found.0 (goes found.1 q)

onto_token : (q : List Piece) (kept_as : Keep) (at : Shape) (text : List ℕ) (gone : Gone) → keeps_before kept_as at text (onto q gone) ≡ onto q (keeps_before kept_as at text gone)
onto_token q kept_as at text None = refl
onto_token q kept_as at text (Some found) = before_token kept_as at text found.0 (goes found.1 q)

onto_settled : (p q : List Piece) (piece : Piece) (settled : Settled) → ((next : Items) → goes next (p ++ q) ≡ onto q (goes next p)) →
    take_on (λ next. goes next (p ++ q)) piece settled ≡ onto q (take_on (λ next. goes next p) piece settled)
onto_settled p q piece (Taken kept_as next) again = ap (keeps_before kept_as (shape piece) piece.1) (again next) ∙ onto_token q kept_as (shape piece) piece.1 (goes next p)
onto_settled p q piece AllLeft again = refl
onto_settled p q piece Refused again = refl

goes_onto : (p q : List Piece) (items : Items) → goes items (p ++ q) ≡ onto q (goes items p)
goes_onto [] q items = before_nothing (goes items q)
goes_onto (piece ∷ p) q items = onto_settled p q piece (settle (shape piece) items) (goes_onto p q)

pub goes_append : (p q : List Piece) (items next left : Items) (kept more : List Kept) →
    goes items p ≡ Some (kept, next) → goes next q ≡ Some (more, left) → goes items (p ++ q) ≡ Some (kept ++ more, left)
goes_append p q items next left kept more first second = goes_onto p q items ∙ ap (onto q) first ∙ ap (before kept) second

-- ---- at a quiet token

-- There is a first token, and its shape is quiet.
abbrev pub begins_quietly : List Piece → Bool
begins_quietly [] = false
begins_quietly (piece ∷ pieces) = is_quiet (shape piece)

-- There is no token, or the first has a quiet shape.
abbrev pub is_quiet_or_none : List Piece → Bool
is_quiet_or_none [] = true
is_quiet_or_none (piece ∷ pieces) = is_quiet (shape piece)

goes_quietly : (left others : Items) (q : List Piece) → Quietly left others → begins_quietly q ≡ true → goes left q ≡ goes others q
goes_quietly left others [] quiet begins = absurd (false≢true begins)
goes_quietly left others (piece ∷ pieces) quiet begins = ap (take_on (λ next. goes next pieces) piece) (quiet.settles (shape piece) begins)

pub takes_then : (items others left : Items) (p q : List Piece) (kept more : List Kept) → Takes items p kept others → begins_quietly q ≡ true →
    goes others q ≡ Some (more, left) → goes items (p ++ q) ≡ Some (kept ++ more, left)
takes_then items others left p q kept more first begins second =
    goes_append p q items first.left left kept more first.gone (goes_quietly first.left others q first.quiet begins ∙ second)

-- the parts of an answer
pub same_kept : (kept some : List Kept) (left next : Items) → ◌≡◌ {A = Gone} (Some (some, next)) (Some (kept, left)) → some ≡ kept
same_kept kept some left next e = ap (λ (gone : Gone). unwrap_or (option_map (λ (found : List Kept × Items). found.0) gone) some) e

pub same_left : (kept some : List Kept) (left next : Items) → ◌≡◌ {A = Gone} (Some (some, next)) (Some (kept, left)) → next ≡ left
same_left kept some left next e = ap (λ (gone : Gone). unwrap_or (option_map (λ (found : List Kept × Items). found.1) gone) next) e

pub takes_then_takes : (items others last : Items) (p q : List Piece) (kept more : List Kept) → Takes items p kept others → is_quiet_or_none q ≡ true →
    Takes others q more last → Takes items (p ++ q) (kept ++ more) last
takes_then_takes items others last p [] kept more first quiet second =
    let none = same_kept more [] second.left others second.gone in
    let same = same_left more [] second.left others second.gone in
    record {
      left = first.left;
      gone = goes_append p [] items first.left first.left kept more first.gone (ap (λ more. Some (more, first.left)) none);
      quiet = record { settles = λ at so. first.quiet.settles at so ∙ ap (settle at) same ∙ second.quiet.settles at so; ends = first.quiet.ends ∙ ap may_end same ∙ second.quiet.ends };
    }
takes_then_takes items others last p (piece ∷ q) kept more first quiet second =
    record { left = second.left; gone = takes_then items others second.left p (piece ∷ q) kept more first quiet second.gone; quiet = second.quiet }

-- ---- the walk

abbrev pub is_record : Shape → Bool
is_record is.Record = true
is_record _ = false

-- No token begins a debug record.
abbrev pub no_records : List Piece → Bool
no_records pieces = list_all (λ piece. not (is_record (shape piece))) pieces

no_record : (at : Shape) → not (is_record at) ≡ true → at ≡ is.Record → ⊥
no_record at plain e = false≢true (ap (λ at. not (is_record at)) (sym e) ∙ plain)

quiet_no_record : (at : Shape) → is_quiet at ≡ true → at ≡ is.Record → ⊥
quiet_no_record at quiet e = false≢true (ap is_quiet (sym e) ∙ quiet)

-- A token that begins no debug record settles by its shape alone.
walk_plainly : (piece : Piece) (pieces : List Piece) (items : Items) → (shape piece ≡ is.Record → ⊥) →
    walk items (piece ∷ pieces) ≡ walk_on (λ next. walk next pieces) (shape piece) piece.1 (settle (shape piece) items)
walk_plainly piece pieces items plain =
    ap (λ at. walk_on (λ next. walk next pieces) at piece.1 (settle at items)) (sym (told_otherwise (shape piece) (is_group pieces) plain))

-- what a walk gives, where these tokens were kept before it and so many were taken
abbrev behind : List Kept → ℕ → Found → Found
behind kept taken found = option_map (λ f. (kept ++ f.0, taken + f.1)) found

behind_nothing : (found : Found) → found ≡ behind [] 0 found
behind_nothing None = refl
behind_nothing (Some f) = let e : f.1 ≡ 0 + f.1 = omega arith in ap (λ n. Some (f.0, n)) e

behind_token : (kept_as : Keep) (at : Shape) (text : List ℕ) (kept : List Kept) (taken : ℕ) (found : Found) →
    option_map (λ f. (keeping kept_as at text f.0, suc f.1)) (behind kept taken found) ≡ behind (keeping kept_as at text kept) (suc taken) found
behind_token kept_as at text kept taken None = refl
behind_token kept_as at text kept taken (Some f) =
    let so_many : suc (taken + f.1) ≡ suc taken + f.1 = omega arith in
    ap (λ n. Some (keeping kept_as at text (kept ++ f.0), n)) so_many ∙ ap (λ all. Some (all, suc taken + f.1)) (keeping_append kept_as at text kept f.0)

-- Where the tokens are taken, a walk goes through them and then on.
abbrev WalksOn : List Piece → Items → List Piece → Type 0
WalksOn p left rest = (items : Items) (kept : List Kept) → goes items p ≡ Some (kept, left) → no_records p ≡ true → walk items (p ++ rest) ≡ behind kept (length p) (walk left rest)

walks_gone : (p : List Piece) (left : Items) (rest : List Piece) (piece : Piece) (kept_as : Keep) (next : Items) (kept : List Kept) (gone : Gone) → goes next p ≡ gone →
    no_records p ≡ true → WalksOn p left rest → keeps_before kept_as (shape piece) piece.1 gone ≡ Some (kept, left) →
    walk_on (λ next. walk next (p ++ rest)) (shape piece) piece.1 (Taken kept_as next) ≡ behind kept (suc (length p)) (walk left rest)
walks_gone p left rest piece kept_as next kept None t clean again e = cc
walks_gone p left rest piece kept_as next kept (Some found) t clean again e =
    let all = same_kept kept (keeping kept_as (shape piece) piece.1 found.0) left found.1 e in
    let same = same_left kept (keeping kept_as (shape piece) piece.1 found.0) left found.1 e in
    ap (option_map (λ f. (keeping kept_as (shape piece) piece.1 f.0, suc f.1))) (again next found.0 (t ∙ ap (λ items. Some (found.0, items)) same) clean)
    ∙ behind_token kept_as (shape piece) piece.1 found.0 (length p) (walk left rest) ∙ ap (λ kept. behind kept (suc (length p)) (walk left rest)) all

walks_settled : (p : List Piece) (left : Items) (rest : List Piece) (piece : Piece) (kept : List Kept) (settled : Settled) →
    no_records p ≡ true → WalksOn p left rest → take_on (λ next. goes next p) piece settled ≡ Some (kept, left) →
    walk_on (λ next. walk next (p ++ rest)) (shape piece) piece.1 settled ≡ behind kept (suc (length p)) (walk left rest)
walks_settled p left rest piece kept (Taken kept_as next) clean again e = walks_gone p left rest piece kept_as next kept (goes next p) refl clean again e
walks_settled p left rest piece kept AllLeft clean again e = cc
walks_settled p left rest piece kept Refused clean again e = cc

walks_on : (p : List Piece) (left : Items) (rest : List Piece) → WalksOn p left rest
walks_on [] left rest items kept e clean =
    let none = same_kept kept [] left items e in
    let same = same_left kept [] left items e in
    behind_nothing (walk items rest) ∙ ap (λ items. behind [] 0 (walk items rest)) same ∙ ap (λ kept. behind kept 0 (walk left rest)) none
walks_on (piece ∷ p) left rest items kept e clean =
    let parts = and_parts (not (is_record (shape piece))) (no_records p) clean in
    walk_plainly piece (p ++ rest) items (no_record (shape piece) parts.0)
    ∙ walks_settled p left rest piece kept (settle (shape piece) items) parts.1 (walks_on p left rest) e

-- where all are left out at a quiet token, the walk ends
walk_ends : (left : Items) (rest : List Piece) → Quietly left [] → is_quiet_or_none rest ≡ true → walk left rest ≡ Some ([], 0)
walk_ends left [] quiet so = ap (λ ends. cond ends (Some ([], 0)) None) quiet.ends
walk_ends left (piece ∷ pieces) quiet so =
    walk_plainly piece pieces left (quiet_no_record (shape piece) so) ∙ ap (walk_on (λ next. walk next pieces) (shape piece) piece.1) (quiet.settles (shape piece) so)

pub walk_goes : (items : Items) (pieces rest : List Piece) (kept : List Kept) → no_records pieces ≡ true → Takes items pieces kept [] → is_quiet_or_none rest ≡ true →
    walk items (pieces ++ rest) ≡ Some (kept, length pieces)
walk_goes items pieces rest kept clean takes so =
    let so_many : length pieces + 0 ≡ length pieces = omega arith in
    walks_on pieces takes.left rest items kept takes.gone clean ∙ ap (behind kept (length pieces)) (walk_ends takes.left rest takes.quiet so)
    ∙ ap (λ kept. Some (kept, length pieces + 0)) (append-nil kept) ∙ ap (λ n. Some (kept, n)) so_many
