-- What a walk takes is derived, and it takes at most as many tokens as there are.
use Rattle.std.proofs.Common.{◌≡◌, ℕ, suc, ◌≤◌, Bool, true, false, ◌||◌, cond, List, [], ◌∷◌, ◌++◌, Option, Some, None, option_map, length, drop, refl, sym, subst, ◌∙◌, arith}
use Rattle.ir_grammar.specs.declared.shape.Shape.{Shape}
use Rattle.ir_grammar.specs.declared.grammar.Terminal.{Terminal}
use Rattle.ir_grammar.specs.declared.grammar.Keep.{Keep}
use Rattle.ir_grammar.specs.declared.grammar.Keep.TheVariants as keep
use Rattle.ir_grammar.specs.declared.grammar.FlagPart.{FlagPart}
use Rattle.ir_grammar.specs.declared.grammar.Flags.{Flags}
use Rattle.ir_grammar.specs.declared.grammar.Name.{Name}
use Rattle.ir_grammar.specs.declared.grammar.Item.{Item}
use Rattle.ir_grammar.specs.declared.grammar.Item.TheVariants as item
use Rattle.ir_grammar.specs.Terminals.{stands_for}
use Rattle.ir_grammar.specs.Items.{Production}
use Rattle.ir_grammar.specs.Tokens.{Piece, Kept, shape_before, keeping}
use Rattle.ir_grammar.specs.Grammar.{productions}
use Rattle.ir_grammar.specs.Derives.{IsOneOf, here, there, Begins, is_comma, is_flag, without_a, without_b, without_c, keeping_flag, Derives, nothing, one, left_out, is_there, ended, one_more, empty, some, no_further, further, no_flag, flag_a, flag_b, flag_c}
use Rattle.ir_grammar.specs.Derives as by
use Rattle.ir_grammar.specs.Mirrors.Walk.{Turn, first_of, turn_at, Settled, Taken, AllLeft, Refused, by_turn, keep_of, by_flag, settle, may_end, Found, walk_on, walk}
use Rattle.ir_grammar.proofs.Apart.{false_not_true}

pub none_not_some : {A : Type 0} {x : A} → None ≡ Some x → ⊥
none_not_some e = grind (arith, e)

pub some_same : {A : Type 0} {x y : A} → Some x ≡ Some y → x ≡ y
some_same e = cc

-- the production that a turn is
record TurnOf (ps : List Production) (shape : Shape) (turn : Keep × List Item) : Type 0 where
  pub production : Production
  pub among : IsOneOf production ps
  pub stands : stands_for production.first shape ≡ true
  pub same : (production.keep, production.behind) ≡ turn

behind_it : (other : Production) (more : List Production) (shape : Shape) (turn : Keep × List Item) → TurnOf more shape turn → TurnOf (other ∷ more) shape turn
behind_it other more shape turn t = record { production = t.production; among = there other more t.among; stands = t.stands; same = t.same }

by_first : (b : Bool) (production : Production) (more : List Production) (shape : Shape) (turn : Keep × List Item) → stands_for production.first shape ≡ b →
    cond b (Some (production.keep, production.behind)) (first_of more shape) ≡ Some turn → (first_of more shape ≡ Some turn → TurnOf more shape turn) →
    TurnOf (production ∷ more) shape turn
by_first true production more shape turn stands e further_on = record { production = production; among = here more; stands = stands; same = some_same e }
by_first false production more shape turn stands e further_on = behind_it production more shape turn (further_on e)

turn_of : (ps : List Production) (shape : Shape) (turn : Keep × List Item) → first_of ps shape ≡ Some turn → TurnOf ps shape turn
turn_of [] shape turn e = absurd (none_not_some e)
turn_of (production ∷ more) shape turn e = by_first (stands_for production.first shape) production more shape turn refl e (turn_of more shape turn)

pub turn_begins : (name : Name) (shape : Shape) (turn : Keep × List Item) → turn_at name shape ≡ Some turn → Begins name shape
turn_begins name shape turn e =
    let t : TurnOf (productions name) shape turn = turn_of (productions name) shape turn e in
    (t.production, t.among, t.stands)

-- where there is no turn, none begins
left_false : (b : Bool) (turn : Keep × List Item) (rest : Turn) → cond b (Some turn) rest ≡ None → (b ≡ false) × (rest ≡ None)
left_false true turn rest e = absurd (none_not_some (sym e))
left_false false turn rest e = (refl, e)

none_begins : (production : Production) (ps : List Production) (shape : Shape) → first_of ps shape ≡ None → IsOneOf production ps → stands_for production.first shape ≡ true → ⊥
none_begins production _ shape e (here more) stands =
    let parts = left_false (stands_for production.first shape) (production.keep, production.behind) (first_of more shape) e in
    false_not_true (sym parts.0 ∙ stands)
none_begins production _ shape e (there other more among) stands =
    let parts = left_false (stands_for other.first shape) (other.keep, other.behind) (first_of more shape) e in
    none_begins production more shape parts.1 among stands

not_begun : (name : Name) (shape : Shape) → turn_at name shape ≡ None → Begins name shape → ⊥
not_begun name shape e (production, among, stands) = none_begins production (productions name) shape e among stands

-- how items derive tokens, by what becomes of the first of them
abbrev pub Explains : Piece → List Piece → List Item → Settled → Type 0
Explains piece pieces items (Taken kept_as next) =
    (kept : List Kept) (rest : List Piece) → Derives next pieces kept rest → Derives items (piece ∷ pieces) (keeping kept_as (shape_before piece pieces) piece.1 kept) rest
Explains piece pieces items AllLeft = Derives items (piece ∷ pieces) [] (piece ∷ pieces)
Explains piece pieces items Refused = Unit {0}

by_token : (piece : Piece) (pieces : List Piece) (terminal : Terminal) (kept_as : Keep) (items : List Item) (b : Bool) → stands_for terminal (shape_before piece pieces) ≡ b →
    Explains piece pieces (item.Token terminal kept_as ∷ items) (cond b (Taken kept_as items) Refused)
by_token piece pieces terminal kept_as items true stands = λ kept rest d. by.token terminal kept_as items piece pieces kept rest stands d
by_token piece pieces terminal kept_as items false stands = tt

-- one of a nonterminal, by its turn
by_one : (name : Name) (piece : Piece) (pieces : List Piece) (turn : Keep × List Item) (items : List Item) (kept : List Kept) (rest : List Piece) →
    turn_at name (shape_before piece pieces) ≡ Some turn → Derives (turn.1 ++ items) pieces kept rest →
    Derives (item.One name ∷ items) (piece ∷ pieces) (keeping turn.0 (shape_before piece pieces) piece.1 kept) rest
by_one name piece pieces turn items kept rest e d =
    let t : TurnOf (productions name) (shape_before piece pieces) turn = turn_of (productions name) (shape_before piece pieces) turn e in
    subst (λ (u : Keep × List Item). Derives (u.1 ++ items) pieces kept rest → Derives (item.One name ∷ items) (piece ∷ pieces) (keeping u.0 (shape_before piece pieces) piece.1 kept) rest) t.same
    (one name t.production items piece pieces kept rest t.among t.stands) d

by_name : (piece : Piece) (pieces : List Piece) (name : Name) (items : List Item) (turn : Turn) → turn_at name (shape_before piece pieces) ≡ turn →
    Explains piece pieces (item.One name ∷ items) (by_turn turn items Refused)
by_name piece pieces name items None e = tt
by_name piece pieces name items (Some turn) e = λ kept rest d. by_one name piece pieces turn items kept rest e d

-- what the items behind do is what all do, where this is left out
on : (piece : Piece) (pieces : List Piece) (before after : List Item) (settled : Settled) →
    ((kept : List Kept) (rest : List Piece) → Derives before (piece ∷ pieces) kept rest → Derives after (piece ∷ pieces) kept rest) →
    Explains piece pieces before settled → Explains piece pieces after settled
on piece pieces before after (Taken kept_as next) step explained =
    λ kept rest d. step (keeping kept_as (shape_before piece pieces) piece.1 kept) rest (explained kept rest d)
on piece pieces before after AllLeft step explained = step [] (piece ∷ pieces) explained
on piece pieces before after Refused step explained = tt

by_may : (piece : Piece) (pieces : List Piece) (name : Name) (items : List Item) (turn : Turn) → turn_at name (shape_before piece pieces) ≡ turn →
    (settled : Settled) → Explains piece pieces items settled → Explains piece pieces (item.May name ∷ items) (by_turn turn items settled)
by_may piece pieces name items None e settled explained =
    on piece pieces items (item.May name ∷ items) settled (λ kept rest d. left_out name items (piece ∷ pieces) kept rest (not_begun name (shape_before piece pieces) e) d) explained
by_may piece pieces name items (Some turn) e settled explained =
    λ kept rest d. is_there name items (piece ∷ pieces) (keeping turn.0 (shape_before piece pieces) piece.1 kept) rest (by_one name piece pieces turn items kept rest e d)

by_many : (piece : Piece) (pieces : List Piece) (name : Name) (items : List Item) (turn : Turn) → turn_at name (shape_before piece pieces) ≡ turn →
    (settled : Settled) → Explains piece pieces items settled → Explains piece pieces (item.Many name ∷ items) (by_turn turn (item.Many name ∷ items) settled)
by_many piece pieces name items None e settled explained =
    on piece pieces items (item.Many name ∷ items) settled (λ kept rest d. ended name items (piece ∷ pieces) kept rest (not_begun name (shape_before piece pieces) e) d) explained
by_many piece pieces name items (Some turn) e settled explained =
    λ kept rest d. one_more name items (piece ∷ pieces) (keeping turn.0 (shape_before piece pieces) piece.1 kept) rest (by_one name piece pieces turn (item.Many name ∷ items) kept rest e d)

by_separated : (piece : Piece) (pieces : List Piece) (name : Name) (items : List Item) (turn : Turn) → turn_at name (shape_before piece pieces) ≡ turn →
    (settled : Settled) → Explains piece pieces items settled → Explains piece pieces (item.Separated name ∷ items) (by_turn turn (item.Further name ∷ items) settled)
by_separated piece pieces name items None e settled explained =
    on piece pieces items (item.Separated name ∷ items) settled (λ kept rest d. empty name items (piece ∷ pieces) kept rest (not_begun name (shape_before piece pieces) e) d) explained
by_separated piece pieces name items (Some turn) e settled explained =
    λ kept rest d. some name items (piece ∷ pieces) (keeping turn.0 (shape_before piece pieces) piece.1 kept) rest (by_one name piece pieces turn (item.Further name ∷ items) kept rest e d)

by_further : (piece : Piece) (pieces : List Piece) (name : Name) (items : List Item) (b : Bool) → is_comma (shape_before piece pieces) ≡ b →
    (settled : Settled) → Explains piece pieces items settled →
    Explains piece pieces (item.Further name ∷ items) (cond b (Taken keep.Drops (item.One name ∷ item.Further name ∷ items)) settled)
by_further piece pieces name items true e settled explained = λ kept rest d. further name items piece pieces kept rest e d
by_further piece pieces name items false e settled explained =
    on piece pieces items (item.Further name ∷ items) settled (λ kept rest d. no_further name items (piece ∷ pieces) kept rest e d) explained

-- a flag is kept as its part says
pub kept_flag : (part : Option FlagPart) (shape : Shape) (text : List ℕ) (kept : List Kept) → keeping_flag part shape text kept ≡ keeping (keep_of part) shape text kept
kept_flag None shape text kept = refl
kept_flag (Some part) shape text kept = refl

none_of : (a b c : Bool) → a ≡ false → b ≡ false → c ≡ false → (a || (b || c)) ≡ false
none_of true b c is_a is_b is_c = is_a
none_of false true c is_a is_b is_c = is_b
none_of false false c is_a is_b is_c = is_c

by_flags : (piece : Piece) (pieces : List Piece) (flags : Flags) (items : List Item) (a b c : Bool) →
    is_flag flags.a (shape_before piece pieces) ≡ a → is_flag flags.b (shape_before piece pieces) ≡ b → is_flag flags.c (shape_before piece pieces) ≡ c →
    (settled : Settled) → Explains piece pieces items settled →
    Explains piece pieces (item.AnyOrder flags ∷ items)
    (by_flag (cond a (Some (keep_of flags.a, without_a flags)) (cond b (Some (keep_of flags.b, without_b flags)) (cond c (Some (keep_of flags.c, without_c flags)) None))) items settled)
by_flags piece pieces flags items true b c is_a is_b is_c settled explained =
    λ kept rest d. subst (λ k. Derives (item.AnyOrder flags ∷ items) (piece ∷ pieces) k rest) (kept_flag flags.a (shape_before piece pieces) piece.1 kept)
    (flag_a flags items piece pieces kept rest is_a d)
by_flags piece pieces flags items false true c is_a is_b is_c settled explained =
    λ kept rest d. subst (λ k. Derives (item.AnyOrder flags ∷ items) (piece ∷ pieces) k rest) (kept_flag flags.b (shape_before piece pieces) piece.1 kept)
    (flag_b flags items piece pieces kept rest is_b d)
by_flags piece pieces flags items false false true is_a is_b is_c settled explained =
    λ kept rest d. subst (λ k. Derives (item.AnyOrder flags ∷ items) (piece ∷ pieces) k rest) (kept_flag flags.c (shape_before piece pieces) piece.1 kept)
    (flag_c flags items piece pieces kept rest is_c d)
by_flags piece pieces flags items false false false is_a is_b is_c settled explained =
    on piece pieces items (item.AnyOrder flags ∷ items) settled
    (λ kept rest d. no_flag flags items (piece ∷ pieces) kept rest (none_of (is_flag flags.a (shape_before piece pieces)) (is_flag flags.b (shape_before piece pieces)) (is_flag flags.c (shape_before piece pieces)) is_a is_b is_c) d)
    explained

settle_explains : (piece : Piece) (pieces : List Piece) (items : List Item) → Explains piece pieces items (settle (shape_before piece pieces) items)
settle_explains piece pieces [] = nothing (piece ∷ pieces)
settle_explains piece pieces (item.Token terminal kept_as ∷ items) = by_token piece pieces terminal kept_as items (stands_for terminal (shape_before piece pieces)) refl
settle_explains piece pieces (item.One name ∷ items) = by_name piece pieces name items (turn_at name (shape_before piece pieces)) refl
settle_explains piece pieces (item.May name ∷ items) =
    by_may piece pieces name items (turn_at name (shape_before piece pieces)) refl (settle (shape_before piece pieces) items) (settle_explains piece pieces items)
settle_explains piece pieces (item.Many name ∷ items) =
    by_many piece pieces name items (turn_at name (shape_before piece pieces)) refl (settle (shape_before piece pieces) items) (settle_explains piece pieces items)
settle_explains piece pieces (item.Separated name ∷ items) =
    by_separated piece pieces name items (turn_at name (shape_before piece pieces)) refl (settle (shape_before piece pieces) items) (settle_explains piece pieces items)
settle_explains piece pieces (item.Further name ∷ items) =
    by_further piece pieces name items (is_comma (shape_before piece pieces)) refl (settle (shape_before piece pieces) items) (settle_explains piece pieces items)
settle_explains piece pieces (item.AnyOrder flags ∷ items) =
    by_flags piece pieces flags items (is_flag flags.a (shape_before piece pieces)) (is_flag flags.b (shape_before piece pieces)) (is_flag flags.c (shape_before piece pieces)) refl refl refl
    (settle (shape_before piece pieces) items) (settle_explains piece pieces items)

end_derives : (items : List Item) → may_end items ≡ true → Derives items [] [] []
end_derives [] e = nothing []
end_derives (item.Token terminal kept_as ∷ items) e = absurd (false_not_true e)
end_derives (item.One name ∷ items) e = absurd (false_not_true e)
end_derives (item.May name ∷ items) e = left_out name items [] [] [] tt (end_derives items e)
end_derives (item.Many name ∷ items) e = ended name items [] [] [] tt (end_derives items e)
end_derives (item.Separated name ∷ items) e = empty name items [] [] [] tt (end_derives items e)
end_derives (item.Further name ∷ items) e = no_further name items [] [] [] tt (end_derives items e)
end_derives (item.AnyOrder flags ∷ items) e = no_flag flags items [] [] [] tt (end_derives items e)

-- what is found is derived, within the tokens
abbrev pub DerivesIt : List Item → List Piece → List Kept × ℕ → Type 0
DerivesIt items pieces found = (found.1 ≤ length pieces) × Derives items pieces found.0 (drop found.1 pieces)

at_end : (items : List Item) (b : Bool) → may_end items ≡ b → (found : List Kept × ℕ) → cond b (Some ([], 0)) None ≡ Some found → DerivesIt items [] found
at_end items true e found same = subst (DerivesIt items []) (some_same same) (omega arith, end_derives items e)
at_end items false e found same = absurd (none_not_some same)

by_found : (items next : List Item) (piece : Piece) (pieces : List Piece) (kept_as : Keep) (got : Found) (found : List Kept × ℕ) →
    ((kept : List Kept) (rest : List Piece) → Derives next pieces kept rest → Derives items (piece ∷ pieces) (keeping kept_as (shape_before piece pieces) piece.1 kept) rest) →
    ((f : List Kept × ℕ) → got ≡ Some f → DerivesIt next pieces f) →
    option_map (λ f. (keeping kept_as (shape_before piece pieces) piece.1 f.0, suc f.1)) got ≡ Some found → DerivesIt items (piece ∷ pieces) found
by_found items next piece pieces kept_as None found step each e = absurd (none_not_some e)
by_found items next piece pieces kept_as (Some f) found step each e =
    let got_so : DerivesIt next pieces f = each f refl in
    let within : f.1 ≤ length pieces = got_so.0 in
    subst (DerivesIt items (piece ∷ pieces)) (some_same e) (omega arith, step f.0 (drop f.1 pieces) got_so.1)

by_settled : (items : List Item) (piece : Piece) (pieces : List Piece) (settled : Settled) (found : List Kept × ℕ) → Explains piece pieces items settled →
    ((next : List Item) (f : List Kept × ℕ) → walk next pieces ≡ Some f → DerivesIt next pieces f) →
    walk_on (λ next. walk next pieces) (shape_before piece pieces) piece.1 settled ≡ Some found → DerivesIt items (piece ∷ pieces) found
by_settled items piece pieces (Taken kept_as next) found explained each e = by_found items next piece pieces kept_as (walk next pieces) found explained (each next) e
by_settled items piece pieces AllLeft found explained each e = subst (DerivesIt items (piece ∷ pieces)) (some_same e) (omega arith, explained)
by_settled items piece pieces Refused found explained each e = absurd (none_not_some e)

pub walk_derives : (pieces : List Piece) (items : List Item) (found : List Kept × ℕ) → walk items pieces ≡ Some found → DerivesIt items pieces found
walk_derives [] items found e = at_end items (may_end items) refl found e
walk_derives (piece ∷ pieces) items found e =
    by_settled items piece pieces (settle (shape_before piece pieces) items) found (settle_explains piece pieces items) (λ next f same. walk_derives pieces next f same) e
