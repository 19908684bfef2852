-- A module of the form is a module of straight-line functions.
use Rattle.std.proofs.Common.{◌≡◌, ◌≢◌, ◌∙◌, ℕ, ◌+◌, ◌<◌, ◌≤◌, ◌^◌, suc, zero, Bool, true, false, cond, ◌&&◌, ◌||◌, not, nat_le, nat_lt, ◌==◌, IsTrue, IfSome, List, [], ◌∷◌, length, map, drop, flat_map, Option, Some, None, option_map, bytes_eq, All, AllPairs, refl, sym, ap, subst, arith}
use Rattle.std.specs.List.{list_all, slice_get}
use Rattle.std.proofs.lemmas.Bool.{and_parts, false≢true}
use Rattle.std.proofs.lemmas.Bool.Decides.{nat_tests, Decides-eqb}
use Rattle.std.proofs.lemmas.List.{length-map}
use Rattle.std.proofs.lemmas.List.Elements.{All-cons}
use Rattle.std.proofs.lemmas.List.Kept.{AllPairs-cons}
use Rattle.ir_lexer.specs.declared.token.Kind.{Kind}
use Rattle.ir_lexer.specs.declared.token.Kind.TheVariants.{AtName, LocalName, Hash, Meta, Str, CStr, Label, Word, Int, Mark}
use Rattle.ir_lexer.specs.declared.token.Token.{Token}
use Rattle.ir_lexer.specs.Spelled.{is_spelled, is_quoted, is_label, is_word, is_integer, is_one_mark, is_name, is_run, has, is_decimal}
use Rattle.ir_lexer.specs.Tokens.{Piece, Blank, Comment, Lexeme, len_of, BeginsWith, Tiles, tokens_of}
use Rattle.ir_types.specs.declared.scalar.Scalar.TheVariants.{I32}
use Rattle.ir_types.specs.declared.scalar.Ext.TheVariants.{Plain}
use Rattle.ir_syntax.specs.declared.body.Body.{Body}
use Rattle.ir_syntax.specs.declared.item.Func.{Func}
use Rattle.ir_syntax.specs.declared.item.Item.{Item}
use Rattle.ir_syntax.specs.declared.item.Linkage.TheVariants.{Private}
use Rattle.ir_syntax.specs.declared.item.Module.{Module}
use Rattle.ir_syntax.specs.FormedBody.{item_name}
use Rattle.ir_syntax.specs.Straight.{word_param, params_of, AreStraight, IsWordOperand, IsStraightFunc, IsStraightItem, IsStraight}
use Rattle.straight_form.specs.declared.surface.Entity.{Entity}
use Rattle.name_table.specs.Places.{is_among, place_among, are_distinct}
use Rattle.straight_form.specs.Names as names
use Rattle.straight_form.specs.Names.{is_plain_name}
use Rattle.straight_form.specs.Spelled.{entity_pieces, pieces_of}
use Rattle.straight_form.specs.Spelled as spelled
use Rattle.straight_form.specs.Form.{params_among, takes, is_straight, are_straight, has_entry, IsStraightForm}
use Rattle.straight_form.specs.Resolved.{name_of, are_few, body_of, items_of}
use Rattle.straight_reader.specs.Entered.{HasEntry}
use Rattle.straight_reader.specs.Forms.{function_names}
use Rattle.straight_reader.proofs.NameLists.{same, same-refl, absent-head, absent-tail, placed_among, placed_params, param_count}
use Rattle.straight_reader.proofs.Plain.{plain_is_name, name_is, at_most}
use Rattle.straight_reader.proofs.Resolving.{linkage_for, func_with}
use Rattle.straight_reader.proofs.Spelling.{if_some, map_some}
use Rattle.straight_reader.proofs.Forming.{IsWell, straight-well, head-straight}
use Rattle.straight_reader.proofs.Found.{straight-unlabelled}
use Rattle.straight_reader.proofs.Counting.{body_made, items_made, module_made, insts_length, entities_few}
use Rattle.straight_reader.proofs.Operands.{Calls, insts_are, operand_is}

-- ---- items of definitions

none-some : {A P : Type 0} (x : A) → ◌≡◌ {A = Option A} None (Some x) → P
none-some x e = absurd (cc)

-- the function of a definition at a place
abbrev HasItem : List (List ℕ) → List Item → ℕ → Entity → Type 0
HasItem functions items k e = (body : Body) × (body_of functions e ≡ Some body) × (slice_get items k ≡ Some (func_with e body))

item_of : (functions : List (List ℕ)) (es : List Entity) (items : List Item) → items_of functions es ≡ Some items → (k : ℕ) (e : Entity) → slice_get es k ≡ Some e → HasItem functions items k e
item_of functions [] items made k e at = none-some e at
item_of functions (x ∷ es) items made zero e at =
    let (body, more, f, g, h) = items_made functions x es items made in
    let here : x ≡ e = cc in
    subst (HasItem functions items 0) here (body, f, ap (λ items. slice_get items 0) (sym h))
item_of functions (x ∷ es) items made (suc k) e at =
    let (body, more, f, g, h) = items_made functions x es items made in
    let (body', i, j) = item_of functions es more g k e at in
    (body', i, ap (λ items. slice_get items (suc k)) (sym h) ∙ j)

items_length : (functions : List (List ℕ)) (es : List Entity) (items : List Item) → items_of functions es ≡ Some items → length items ≡ length es
items_length functions [] items made = let f : [] ≡ items = cc in sym (ap (length {A = Item}) f)
items_length functions (x ∷ es) items made =
    let (body, more, f, g, h) = items_made functions x es items made in
    sym (ap (length {A = Item}) h) ∙ ap suc (items_length functions es more g)

items_names : (functions : List (List ℕ)) (es : List Entity) (items : List Item) → items_of functions es ≡ Some items → map item_name items ≡ function_names es
items_names functions [] items made = let f : [] ≡ items = cc in sym (ap (map item_name) f)
items_names functions (x ∷ es) items made =
    let (body, more, f, g, h) = items_made functions x es items made in
    sym (ap (map item_name) h) ∙ ap (λ ns. x.name ∷ ns) (items_names functions es more g)

straight_at : (es : List Entity) → are_straight es ≡ true → (k : ℕ) (e : Entity) → slice_get es k ≡ Some e → is_straight (drop (suc k) es) e ≡ true
straight_at [] s k e at = none-some e at
straight_at (x ∷ es) s zero e at = let here : x ≡ e = cc in subst (λ e. is_straight es e ≡ true) here (head-straight x es s).0
straight_at (x ∷ es) s (suc k) e at = straight_at es (head-straight x es s).1 k e at

-- ---- calls

le_less : (k p : ℕ) → nat_le (suc k) p ≡ true → k < p
le_less k p e = grind (arith, nat_tests, e)

taken : (o : Option ℕ) (n : ℕ) → takes o n ≡ true → o ≡ Some n
taken None n e = absurd (false≢true e)
taken (Some k) n e = ap (λ j. Some j) ((Decides-eqb k n).0 e)

calls_at : (es : List Entity) (items : List Item) → are_distinct (function_names es) ≡ true → items_of (function_names es) es ≡ Some items → (k : ℕ) → Calls items (function_names es) (drop (suc k) es) k
calls_at es items distinct made k callee n p there takes =
    let counted = sym (placed_params callee es distinct (suc k) p there) ∙ taken (params_among callee (drop (suc k) es)) n takes in
    let f = if_some (nat_le (suc k) p) (param_count (slice_get es p)) n counted in
    let (x, g, h) = map_some (λ (e : Entity). length e.params) (slice_get es p) n f.1 in
    let (body, i, j) = item_of (function_names es) es items made p x g in
    (le_less k p f.0, ap params_of j ∙ ap (λ m. Some m) (length-map x.params (λ (name : List ℕ). word_param) ∙ h))

-- ---- functions

less_of : (n k : ℕ) → nat_lt n k ≡ true → n < k
less_of n k e = grind (arith, nat_tests, e)

shown : (b : Bool) → linkage_for b ≢ Private
shown true e = absurd (cc)
shown false e = absurd (cc)

all_words : (names : List (List ℕ)) → All (λ p. p ≡ word_param) (map (λ (name : List ℕ). word_param) names)
all_words [] k d within = absurd (omega arith)
all_words (n ∷ ns) zero d within = refl
all_words (n ∷ ns) (suc k) d within = all_words ns k d (omega arith)

abbrev func_of_item : Entity → Body → Func
func_of_item e body = record {
  name = e.name;
  linkage = linkage_for e.internal;
  returns = Some I32;
  ret_ext = Plain;
  params = map (λ (name : List ℕ). word_param) e.params;
  variadic = false;
  body = Some body;
}

func_is : (es : List Entity) (items : List Item) → are_distinct (function_names es) ≡ true → items_of (function_names es) es ≡ Some items → (k : ℕ) (e : Entity) (body : Body) →
    IsWell (drop (suc k) es) e → body_of (function_names es) e ≡ Some body → IsStraightFunc items k (func_of_item e body)
func_is es items distinct made k e body well found =
    let parts = body_made (function_names es) e body found in
    let few = (and_parts (are_few e.params) (list_all names.is_name e.params) (and_parts (are_few e.params && list_all names.is_name e.params) (are_distinct e.params) parts.params).0).0 in
    let params : length (map (λ (name : List ℕ). word_param) e.params) ≡ length e.params = length-map e.params (λ (name : List ℕ). word_param) in
    let insts = insts_are items (function_names es) e.params [] (drop (suc k) es) k e.lines parts.insts (calls_at es items distinct made k) well.kept parts.made in
    let lines : length (map name_of e.lines) ≡ length parts.insts = length-map e.lines name_of ∙ sym (insts_length (function_names es) e.params [] e.lines parts.insts parts.made) in
    let result = operand_is e.params (map name_of e.lines) e.result parts.result parts.given in
    record {
      has_name = name_is e.name (plain_is_name e.name well.plain);
      seen = shown e.internal;
      returns = refl;
      ret_ext = refl;
      words = all_words e.params;
      few_params = subst (λ n. n ≤ 32) (sym params) (at_most (length e.params) 32 few);
      fixed = refl;
      insts = parts.insts;
      value = parts.result;
      body = ap (λ b. Some b) (sym parts.is);
      straight = subst (λ n. AreStraight items k n 0 parts.insts) (sym params) insts;
      result = subst (λ n. IsWordOperand n (length parts.insts) parts.result) (sym params) (subst (λ n. IsWordOperand (length e.params) n parts.result) lines result);
      few_insts = subst (λ n. n < 1048576) (sym (insts_length (function_names es) e.params [] e.lines parts.insts parts.made)) (less_of (length e.lines) 1048576 parts.few);
    }

-- ---- names

apart : (x : List ℕ) (xs : List (List ℕ)) → is_among x xs ≡ false → All (λ y. x ≢ y) xs
apart x [] e k d within = absurd (omega arith)
apart x (y ∷ ys) e zero d within = λ is. absurd (false≢true (sym (absent-head x y ys e) ∙ ap (λ z. bytes_eq x z) (sym is) ∙ same-refl x))
apart x (y ∷ ys) e (suc k) d within = apart x ys (absent-tail x y ys e) k d (omega arith)

not_true : (b : Bool) → not b ≡ true → b ≡ false
not_true true e = sym e
not_true false e = refl

pairs : (xs : List (List ℕ)) → are_distinct xs ≡ true → AllPairs (λ a b. a ≢ b) xs
pairs [] e = λ i j d before within. absurd (omega arith)
pairs (x ∷ xs) e =
    let both = and_parts (not (is_among x xs)) (are_distinct xs) e in
    AllPairs-cons (λ a b. a ≢ b) x xs (apart x xs (not_true (is_among x xs) both.0)) (pairs xs both.1)

-- ---- sizes

nothing : (kind : Kind) → is_spelled kind [] ≡ false
unfolding is_quoted is_label is_word is_integer is_one_mark is_name is_run has is_decimal
nothing AtName = refl
nothing LocalName = refl
nothing Hash = refl
nothing Meta = refl
nothing Str = refl
nothing CStr = refl
nothing Label = refl
nothing Word = refl
nothing Int = refl
nothing Mark = refl

piece_some : (rest : List ℕ) (p : Piece) → BeginsWith rest p → 0 < len_of p
piece_some rest Blank begins = omega arith
piece_some rest (Comment len) begins = begins.some
piece_some rest (Lexeme kind zero) begins = absurd (false≢true (sym (nothing kind) ∙ begins.spelled))
piece_some rest (Lexeme kind (suc len)) begins = omega arith

tokens_few : (bytes : List ℕ) (from : ℕ) (ps : List Piece) (to : ℕ) → Tiles bytes from ps to → from + length (tokens_of from ps) ≤ to
tokens_few bytes from [] to tile = omega (arith, tile)
tokens_few bytes from (Blank ∷ ps) to tile = omega (arith, tokens_few bytes (from + 1) ps to tile.1)
tokens_few bytes from (Comment len ∷ ps) to tile = omega (arith, tokens_few bytes (from + len) ps to tile.1, piece_some (drop from bytes) (Comment len) tile.0)
tokens_few bytes from (Lexeme kind len ∷ ps) to tile = omega (arith, tokens_few bytes (from + len) ps to tile.1, piece_some (drop from bytes) (Lexeme kind len) tile.0)

pieces-length : (text : List ℕ) (ts : List Token) → length (pieces_of text ts) ≡ length ts
pieces-length text [] = refl
pieces-length text (t ∷ ts) = ap suc (pieces-length text ts)

-- a text has at least as many bytes as definitions
form_few : (text entry : List ℕ) (count : ℕ) (m : Module) (form : IsStraightForm text entry count m) → length form.entities ≤ length text
form_few text entry count m form =
    let tokens : length form.spelled.tokens ≡ length (tokens_of 0 form.spelled.tile.pieces) = ap (length {A = Token}) form.spelled.tile.tokens in
    let pieces : length (pieces_of text form.spelled.tokens) ≡ length (flat_map entity_pieces form.entities) = ap (length {A = spelled.Piece}) form.spelled.spelled in
    omega (arith, tokens, pieces, pieces-length text form.spelled.tokens, entities_few form.entities (straight-unlabelled form.entities form.straight), tokens_few text 0 form.spelled.tile.pieces (length text) form.spelled.tile.tile)

-- ---- the form

each_straight : (es : List Entity) (items : List Item) → are_straight es ≡ true → are_distinct (function_names es) ≡ true → items_of (function_names es) es ≡ Some items → (k : ℕ) → IfSome (slice_get items k) (IsStraightItem items k)
each_straight es items straight distinct made k = cases (slice_get es k) refl
  where
    past : (es : List Entity) (items : List Item) (k : ℕ) → length items ≡ length es → slice_get es k ≡ None → slice_get items k ≡ None
    past [] [] k e at = refl
    past [] (i ∷ is) k e at = absurd (omega (arith, e))
    past (x ∷ es) [] k e at = refl
    past (x ∷ es) (i ∷ is) zero e at = none-some x (sym at)
    past (x ∷ es) (i ∷ is) (suc k) e at = past es is k (omega (arith, e)) at

    cases : (o : Option Entity) → slice_get es k ≡ o → IfSome (slice_get items k) (IsStraightItem items k)
    cases None at = subst (λ o. IfSome o (IsStraightItem items k)) (sym (past es items k (items_length (function_names es) es items made) at)) tt
    cases (Some e) at =
        let (body, f, g) = item_of (function_names es) es items made k e at in
        subst (λ o. IfSome o (IsStraightItem items k)) (sym g) (func_is es items distinct made k e body (straight-well (drop (suc k) es) e (straight_at es straight k e at)) f)

pub form_straight : (text entry : List ℕ) (count : ℕ) (m : Module) → IsStraightForm text entry count m → IsStraight m
form_straight text entry count m form =
    let parts = module_made form.entities m form.resolved in
    let few : length form.entities < 2 ^ 32 = omega (arith, form_few text entry count m form, form.size) in
    subst IsStraight parts.is
    (record {
      no_layout = refl;
      no_triple = refl;
      distinct = subst (AllPairs (λ a b. a ≢ b)) (sym (items_names (function_names form.entities) form.entities parts.items parts.made)) (pairs (function_names form.entities) parts.distinct);
      each = each_straight form.entities parts.items form.straight parts.distinct parts.made;
      few = subst (λ n. n < 2 ^ 32) (sym (items_length (function_names form.entities) form.entities parts.items parts.made)) few;
    })

items_plain : (functions : List (List ℕ)) (es : List Entity) (items : List Item) → are_straight es ≡ true → items_of functions es ≡ Some items → All (λ i. IsTrue (is_plain_name (item_name i))) items
items_plain functions [] items straight made = let f : [] ≡ items = cc in subst (All (λ i. IsTrue (is_plain_name (item_name i)))) f (λ k d within. absurd (omega arith))
items_plain functions (x ∷ es) items straight made =
    let (body, more, f, g, h) = items_made functions x es items made in
    let both = head-straight x es straight in
    subst (All (λ i. IsTrue (is_plain_name (item_name i)))) h
    (All-cons (λ i. IsTrue (is_plain_name (item_name i))) (func_with x body) more (straight-well es x both.0).plain (items_plain functions es more both.1 g))

pub form_plain : (text entry : List ℕ) (count : ℕ) (m : Module) → IsStraightForm text entry count m → All (λ i. IsTrue (is_plain_name (item_name i))) m.items
form_plain text entry count m form =
    let parts = module_made form.entities m form.resolved in
    subst (λ (m : Module). All (λ i. IsTrue (is_plain_name (item_name i))) m.items) parts.is (items_plain (function_names form.entities) form.entities parts.items form.straight parts.made)

-- the definition of the entry
record IsEntry (entry : List ℕ) (count : ℕ) (es : List Entity) : Type 0 where
  pub place : ℕ
  pub e : Entity
  pub stands : slice_get es place ≡ Some e
  pub named : place_among entry (function_names es) ≡ Some place
  pub seen : e.internal ≡ false
  pub takes : length e.params ≡ count

entry_at : (entry : List ℕ) (count : ℕ) (es : List Entity) → are_distinct (function_names es) ≡ true → has_entry entry count es ≡ true → IsEntry entry count es
entry_at entry count [] distinct e = absurd (false≢true e)
entry_at entry count (x ∷ es) distinct e =
    let both = and_parts (not (is_among x.name (function_names es))) (are_distinct (function_names es)) distinct in
    cases (bytes_eq x.name entry && not x.internal && length x.params == count) refl (not_true (is_among x.name (function_names es)) both.0) (entry_at entry count es both.1)
  where
    first : (bytes_eq x.name entry && not x.internal && length x.params == count) ≡ true → IsEntry entry count (x ∷ es)
    first f =
        let a = and_parts (bytes_eq x.name entry && not x.internal) (length x.params == count) f in
        let b = and_parts (bytes_eq x.name entry) (not x.internal) a.0 in
        record {
          place = 0;
          e = x;
          stands = refl;
          named = ap (λ t. cond t (Some 0) (option_map (λ k. suc k) (place_among entry (function_names es)))) (ap (λ y. bytes_eq entry y) (same x.name entry b.0) ∙ same-refl entry);
          seen = not_true x.internal b.1;
          takes = (Decides-eqb (length x.params) count).0 a.1;
        }

    -- the name of a later definition isn't the first one's
    other : is_among x.name (function_names es) ≡ false → is_among entry (function_names es) ≡ true → (t : Bool) → bytes_eq entry x.name ≡ t → t ≡ false
    other new there true f = absurd (false≢true (sym new ∙ ap (λ n. is_among n (function_names es)) (sym (same entry x.name f)) ∙ there))
    other new there false f = refl

    behind : is_among x.name (function_names es) ≡ false → IsEntry entry count es → IsEntry entry count (x ∷ es)
    behind new found = record {
      place = suc found.place;
      e = found.e;
      stands = found.stands;
      named = ap (λ t. cond t (Some 0) (option_map (λ k. suc k) (place_among entry (function_names es)))) (other new (placed_among entry (function_names es) found.place found.named) (bytes_eq entry x.name) refl)
          ∙ ap (option_map (λ k. suc k)) found.named;
      seen = found.seen;
      takes = found.takes;
    }

    cases : (t : Bool) → (bytes_eq x.name entry && not x.internal && length x.params == count) ≡ t → is_among x.name (function_names es) ≡ false → (has_entry entry count es ≡ true → IsEntry entry count es) → IsEntry entry count (x ∷ es)
    cases true f new ih = first f
    cases false f new ih = behind new (ih (ap (λ t. t || has_entry entry count es) (sym f) ∙ e))

pub form_entered : (text entry : List ℕ) (count : ℕ) (m : Module) → IsStraightForm text entry count m → HasEntry m entry count
form_entered text entry count m form =
    let parts = module_made form.entities m form.resolved in
    let found = entry_at entry count form.entities parts.distinct form.entered in
    let (body, f, g) = item_of (function_names form.entities) form.entities parts.items parts.made found.place found.e found.stands in
    subst (λ m. HasEntry m entry count) parts.is
    (record {
      place = found.place;
      func = func_of_item found.e body;
      named = ap (place_among entry) (items_names (function_names form.entities) form.entities parts.items parts.made) ∙ found.named;
      stands = g;
      seen = ap linkage_for found.seen;
      takes = length-map found.e.params (λ (name : List ℕ). word_param) ∙ found.takes;
    })
