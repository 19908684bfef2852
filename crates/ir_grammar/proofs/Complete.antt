-- What is derived, a walk takes, where flags that may come in any order differ from each other.
use Rattle.std.proofs.Common.{◌≡◌, ℕ, suc, Bool, true, false, ◌||◌, cond, List, [], ◌∷◌, ◌++◌, Option, Some, None, option_map, drop, refl, ap, sym, subst, ◌∙◌}
use Rattle.std.proofs.lemmas.Bool.{and_parts}
use Rattle.ir_grammar.specs.declared.shape.Shape.{Shape}
use Rattle.ir_grammar.specs.declared.grammar.Keep.{Keep}
use Rattle.ir_grammar.specs.declared.grammar.Keep.TheVariants as keep
use Rattle.ir_grammar.specs.declared.grammar.FlagPart.{FlagPart}
use Rattle.ir_grammar.specs.declared.grammar.Flags.{Flags}
use Rattle.ir_grammar.specs.declared.grammar.Name.{Name}
use Rattle.ir_grammar.specs.declared.grammar.Item.{Item}
use Rattle.ir_grammar.specs.declared.grammar.Item.TheVariants as item
use Rattle.ir_grammar.specs.Tokens.{Piece, Kept, shape_before, keeping}
use Rattle.ir_grammar.specs.Derives.{IsOneOf, Begins, NoneBegins, is_comma, NoComma, is_flag, NoFlag, without_a, without_b, without_c, keeping_flag, Derives, nothing, one, left_out, is_there, ended, one_more, empty, some, no_further, further, no_flag, flag_a, flag_b, flag_c}
use Rattle.ir_grammar.specs.Derives as by
use Rattle.ir_grammar.specs.Mirrors.Walk.{Turn, turn_at, Settled, Taken, Refused, by_turn, keep_of, flag_taken, by_flag, settle, may_end, walk_on, walk}
use Rattle.ir_grammar.proofs.Apart.{false_not_true, begun_turn}
use Rattle.ir_grammar.proofs.Sound.{none_not_some, some_same, turn_begins, kept_flag}
use Rattle.ir_grammar.proofs.DistinctFlags.{flags_differ, all_differ, not_other, differ_without_a, differ_without_b, differ_without_c, differ_with, differ_behind}

-- a walk keeps these, and leaves those
abbrev pub Walks : List Item → List Piece → List Kept → List Piece → Type 0
Walks items pieces kept rest = (taken : ℕ) × ((walk items pieces ≡ Some (kept, taken)) × (rest ≡ drop taken pieces))

nothing_walks : (rest : List Piece) → Walks [] rest [] rest
nothing_walks [] = (0, (refl, refl))
nothing_walks (piece ∷ pieces) = (0, (refl, refl))

-- the first token is taken
took : (items next : List Item) (piece : Piece) (pieces : List Piece) (kept_as : Keep) (kept : List Kept) (rest : List Piece) →
    settle (shape_before piece pieces) items ≡ Taken kept_as next → Walks next pieces kept rest →
    Walks items (piece ∷ pieces) (keeping kept_as (shape_before piece pieces) piece.1 kept) rest
took items next piece pieces kept_as kept rest settles (taken, (walks, same)) = (
  suc taken,
  (
    ap (walk_on (λ items. walk items pieces) (shape_before piece pieces) piece.1) settles
        ∙ ap (option_map (λ found. (keeping kept_as (shape_before piece pieces) piece.1 found.0, suc found.1))) walks,
    same,
  ),
)

-- an item is left out
passed : (after items : List Item) (pieces : List Piece) (kept : List Kept) (rest : List Piece) → walk after pieces ≡ walk items pieces →
    Walks items pieces kept rest → Walks after pieces kept rest
passed after items pieces kept rest e (taken, (walks, same)) = (taken, (e ∙ walks, same))

-- a nonterminal that doesn't begin is left out
abbrev NoTurn : Name → List Piece → Type 0
NoTurn name [] = Unit {0}
NoTurn name (piece ∷ pieces) = turn_at name (shape_before piece pieces) ≡ None

no_turn : (name : Name) (shape : Shape) (turn : Turn) → turn_at name shape ≡ turn → (Begins name shape → ⊥) → turn ≡ None
no_turn name shape None e never = refl
no_turn name shape (Some turn) e never = absurd (never (turn_begins name shape turn e))

none_turns : (name : Name) (pieces : List Piece) → NoneBegins name pieces → NoTurn name pieces
none_turns name [] never = tt
none_turns name (piece ∷ pieces) never = no_turn name (shape_before piece pieces) (turn_at name (shape_before piece pieces)) refl never

skips : (name : Name) (after items : List Item) (pieces : List Piece) →
    ((shape : Shape) → turn_at name shape ≡ None → settle shape after ≡ settle shape items) → may_end after ≡ may_end items → NoTurn name pieces →
    walk after pieces ≡ walk items pieces
skips name after items [] settles ends never = ap (λ b. cond b (Some ([], 0)) None) ends
skips name after items (piece ∷ pieces) settles ends never =
    ap (walk_on (λ next. walk next pieces) (shape_before piece pieces) piece.1) (settles (shape_before piece pieces) never)

-- a nonterminal that begins takes the token, whatever would come otherwise
by_some : (turn : Turn) (next : List Item) (otherwise : Settled) (onwards : List Item → Option (List Kept × ℕ)) (shape : Shape) (text : List ℕ) (found : List Kept × ℕ) →
    walk_on onwards shape text (by_turn turn next Refused) ≡ Some found → walk_on onwards shape text (by_turn turn next otherwise) ≡ Some found
by_some None next otherwise onwards shape text found e = absurd (none_not_some e)
by_some (Some turn) next otherwise onwards shape text found e = e

begun : (name : Name) (after next : List Item) (pieces : List Piece) (kept : List Kept) (rest : List Piece) (otherwise : Shape → Settled) →
    ((shape : Shape) → by_turn (turn_at name shape) next (otherwise shape) ≡ settle shape after) →
    Walks (item.One name ∷ next) pieces kept rest → Walks after pieces kept rest
begun name after next [] kept rest otherwise settles (taken, (walks, same)) = absurd (none_not_some walks)
begun name after next (piece ∷ pieces) kept rest otherwise settles (taken, (walks, same)) =
    let shape = shape_before piece pieces in (
      taken,
      (
        ap (walk_on (λ items. walk items pieces) shape piece.1) (sym (settles shape))
            ∙ by_some (turn_at name shape) next (otherwise shape) (λ items. walk items pieces) shape piece.1 (kept, taken) walks,
        same,
      ),
    )

-- where no comma comes
no_comma : (name : Name) (items : List Item) (pieces : List Piece) → NoComma pieces → walk (item.Further name ∷ items) pieces ≡ walk items pieces
no_comma name items [] never = refl
no_comma name items (piece ∷ pieces) never =
    ap (λ b. walk_on (λ next. walk next pieces) (shape_before piece pieces) piece.1 (cond b (Taken keep.Drops (item.One name ∷ item.Further name ∷ items)) (settle (shape_before piece pieces) items))) never

-- where no flag comes
none_taken : {X : Type 0} (a b c : Bool) (x y z : Option X) → (a || (b || c)) ≡ false → cond a x (cond b y (cond c z None)) ≡ None
none_taken true b c x y z e = absurd (false_not_true (sym e))
none_taken false true c x y z e = absurd (false_not_true (sym e))
none_taken false false true x y z e = absurd (false_not_true (sym e))
none_taken false false false x y z e = refl

no_flags : (flags : Flags) (items : List Item) (pieces : List Piece) → NoFlag flags pieces → walk (item.AnyOrder flags ∷ items) pieces ≡ walk items pieces
no_flags flags items [] never = refl
no_flags flags items (piece ∷ pieces) never =
    let shape = shape_before piece pieces in
    ap (λ taken. walk_on (λ next. walk next pieces) shape piece.1 (by_flag taken items (settle shape items)))
    (none_taken (is_flag flags.a shape) (is_flag flags.b shape) (is_flag flags.c shape)
    (Some (keep_of flags.a, without_a flags)) (Some (keep_of flags.b, without_b flags)) (Some (keep_of flags.c, without_c flags)) never)

-- a flag is taken, and the others stay
flag_took : (part : Option FlagPart) (flags left : Flags) (items : List Item) (piece : Piece) (pieces : List Piece) (kept : List Kept) (rest : List Piece) →
    flag_taken flags (shape_before piece pieces) ≡ Some (keep_of part, left) → Walks (item.AnyOrder left ∷ items) pieces kept rest →
    Walks (item.AnyOrder flags ∷ items) (piece ∷ pieces) (keeping_flag part (shape_before piece pieces) piece.1 kept) rest
flag_took part flags left items piece pieces kept rest taken walks =
    subst (λ k. Walks (item.AnyOrder flags ∷ items) (piece ∷ pieces) k rest) (sym (kept_flag part (shape_before piece pieces) piece.1 kept))
    (took (item.AnyOrder flags ∷ items) (item.AnyOrder left ∷ items) piece pieces (keep_of part) kept rest
    (ap (λ t. by_flag t items (settle (shape_before piece pieces) items)) taken) walks)

first_taken : {X : Type 0} (a : Bool) (x y : Option X) → a ≡ true → cond a x y ≡ x
first_taken true x y e = refl
first_taken false x y e = absurd (false_not_true e)

later_taken : {X : Type 0} (a : Bool) (x y z : Option X) → (a ≡ true → ⊥) → y ≡ z → cond a x y ≡ z
later_taken true x y z never e = absurd (never refl)
later_taken false x y z never e = e

-- which flag is taken
takes_b : (flags : Flags) (shape : Shape) → flags_differ flags ≡ true → is_flag flags.b shape ≡ true → flag_taken flags shape ≡ Some (keep_of flags.b, without_b flags)
takes_b flags shape differ is_b =
    later_taken (is_flag flags.a shape) _ _ _ (λ is_a. not_other flags.a flags.b shape (and_parts _ _ differ).0 is_a is_b)
    (first_taken (is_flag flags.b shape) _ _ is_b)

takes_c : (flags : Flags) (shape : Shape) → flags_differ flags ≡ true → is_flag flags.c shape ≡ true → flag_taken flags shape ≡ Some (keep_of flags.c, without_c flags)
takes_c flags shape differ is_c =
    let from_c = and_parts _ _ (and_parts _ _ differ).1 in
    later_taken (is_flag flags.a shape) _ _ _ (λ is_a. not_other flags.a flags.c shape from_c.0 is_a is_c)
    (later_taken (is_flag flags.b shape) _ _ _ (λ is_b. not_other flags.b flags.c shape from_c.1 is_b is_c)
    (first_taken (is_flag flags.c shape) _ _ is_c))

pub derived_walks : (items : List Item) (pieces : List Piece) (kept : List Kept) (rest : List Piece) → Derives items pieces kept rest → all_differ items ≡ true → Walks items pieces kept rest
derived_walks _ _ _ _ (nothing rest) differ = nothing_walks rest
derived_walks _ _ _ _ (by.token terminal kept_as items piece pieces kept rest stands d) differ =
    took (item.Token terminal kept_as ∷ items) items piece pieces kept_as kept rest (ap (λ b. cond b (Taken kept_as items) Refused) stands)
    (derived_walks items pieces kept rest d differ)
derived_walks _ _ _ _ (one name production items piece pieces kept rest among stands d) differ =
    took (item.One name ∷ items) (production.behind ++ items) piece pieces production.keep kept rest
    (ap (λ turn. by_turn turn items Refused) (begun_turn name production (shape_before piece pieces) among stands))
    (derived_walks (production.behind ++ items) pieces kept rest d (differ_behind name production items among differ))
derived_walks _ _ _ _ (left_out name items pieces kept rest never d) differ =
    passed (item.May name ∷ items) items pieces kept rest
    (skips name (item.May name ∷ items) items pieces (λ shape e. ap (λ turn. by_turn turn items (settle shape items)) e) refl (none_turns name pieces never))
    (derived_walks items pieces kept rest d differ)
derived_walks _ _ _ _ (is_there name items pieces kept rest d) differ =
    begun name (item.May name ∷ items) items pieces kept rest (λ shape. settle shape items) (λ shape. refl)
    (derived_walks (item.One name ∷ items) pieces kept rest d differ)
derived_walks _ _ _ _ (ended name items pieces kept rest never d) differ =
    passed (item.Many name ∷ items) items pieces kept rest
    (skips name (item.Many name ∷ items) items pieces (λ shape e. ap (λ turn. by_turn turn (item.Many name ∷ items) (settle shape items)) e) refl (none_turns name pieces never))
    (derived_walks items pieces kept rest d differ)
derived_walks _ _ _ _ (one_more name items pieces kept rest d) differ =
    begun name (item.Many name ∷ items) (item.Many name ∷ items) pieces kept rest (λ shape. settle shape items) (λ shape. refl)
    (derived_walks (item.One name ∷ item.Many name ∷ items) pieces kept rest d differ)
derived_walks _ _ _ _ (empty name items pieces kept rest never d) differ =
    passed (item.Separated name ∷ items) items pieces kept rest
    (skips name (item.Separated name ∷ items) items pieces (λ shape e. ap (λ turn. by_turn turn (item.Further name ∷ items) (settle shape items)) e) refl (none_turns name pieces never))
    (derived_walks items pieces kept rest d differ)
derived_walks _ _ _ _ (some name items pieces kept rest d) differ =
    begun name (item.Separated name ∷ items) (item.Further name ∷ items) pieces kept rest (λ shape. settle shape items) (λ shape. refl)
    (derived_walks (item.One name ∷ item.Further name ∷ items) pieces kept rest d differ)
derived_walks _ _ _ _ (no_further name items pieces kept rest never d) differ =
    passed (item.Further name ∷ items) items pieces kept rest (no_comma name items pieces never) (derived_walks items pieces kept rest d differ)
derived_walks _ _ _ _ (further name items piece pieces kept rest comma d) differ =
    took (item.Further name ∷ items) (item.One name ∷ item.Further name ∷ items) piece pieces keep.Drops kept rest
    (ap (λ b. cond b (Taken keep.Drops (item.One name ∷ item.Further name ∷ items)) (settle (shape_before piece pieces) items)) comma)
    (derived_walks (item.One name ∷ item.Further name ∷ items) pieces kept rest d differ)
derived_walks _ _ _ _ (no_flag flags items pieces kept rest never d) differ =
    passed (item.AnyOrder flags ∷ items) items pieces kept rest (no_flags flags items pieces never)
    (derived_walks items pieces kept rest d (and_parts _ _ differ).1)
derived_walks _ _ _ _ (flag_a flags items piece pieces kept rest is_so d) differ =
    flag_took flags.a flags (without_a flags) items piece pieces kept rest (first_taken (is_flag flags.a (shape_before piece pieces)) _ _ is_so)
    (derived_walks (item.AnyOrder (without_a flags) ∷ items) pieces kept rest d (differ_with flags (without_a flags) items (differ_without_a flags) differ))
derived_walks _ _ _ _ (flag_b flags items piece pieces kept rest is_so d) differ =
    flag_took flags.b flags (without_b flags) items piece pieces kept rest (takes_b flags (shape_before piece pieces) (and_parts _ _ differ).0 is_so)
    (derived_walks (item.AnyOrder (without_b flags) ∷ items) pieces kept rest d (differ_with flags (without_b flags) items (differ_without_b flags) differ))
derived_walks _ _ _ _ (flag_c flags items piece pieces kept rest is_so d) differ =
    flag_took flags.c flags (without_c flags) items piece pieces kept rest (takes_c flags (shape_before piece pieces) (and_parts _ _ differ).0 is_so)
    (derived_walks (item.AnyOrder (without_c flags) ∷ items) pieces kept rest d (differ_with flags (without_c flags) items (differ_without_c flags) differ))

pub name_walks : (name : Name) (pieces : List Piece) (kept : List Kept) (rest : List Piece) → Derives (item.One name ∷ []) pieces kept rest → Walks (item.One name ∷ []) pieces kept rest
name_walks name pieces kept rest d = derived_walks (item.One name ∷ []) pieces kept rest d refl

-- two walks over the same are one
same_walk : (items : List Item) (pieces : List Piece) (kept : List Kept) (rest : List Piece) (others : List Kept) (left : List Piece) →
    Walks items pieces kept rest → Walks items pieces others left → (kept ≡ others) × (rest ≡ left)
same_walk items pieces kept rest others left (taken, (walks, ends)) (taken_too, (walks_too, ends_too)) =
    let same : (kept, taken) ≡ (others, taken_too) = some_same (sym walks ∙ walks_too) in
    (ap (λ f. f.0) same, ends ∙ ap (λ (f : List Kept × ℕ). drop f.1 pieces) same ∙ sym ends_too)

pub same_reading : (name : Name) (pieces : List Piece) (kept : List Kept) (rest : List Piece) (others : List Kept) (left : List Piece) →
    Derives (item.One name ∷ []) pieces kept rest → Derives (item.One name ∷ []) pieces others left → (kept ≡ others) × (rest ≡ left)
same_reading name pieces kept rest others left d e =
    same_walk (item.One name ∷ []) pieces kept rest others left (name_walks name pieces kept rest d) (name_walks name pieces others left e)
