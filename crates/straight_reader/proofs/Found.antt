-- From reading functions to the form, and back.
use Rattle.std.proofs.Common.{◌≡◌, ◌∙◌, ℕ, ◌-◌, ◌≤◌, suc, zero, true, cond, ◌&&◌, List, [], ◌∷◌, ◌++◌, length, drop, flat_map, Some, None, option_map, option_and_then, sym, ap, subst}
use Rattle.std.proofs.lemmas.Bool.{and_parts, and_from}
use Rattle.ir_lexer.specs.declared.token.Token.{Token}
use Rattle.ir_lexer.specs.Tokens.{Tokens}
use Rattle.ir_syntax.specs.declared.item.Module.{Module}
use Rattle.straight_form.specs.declared.surface.Entity.{Entity}
use Rattle.straight_form.specs.Spelled.{Piece, entity_pieces, pieces_of}
use Rattle.straight_form.specs.Form.{are_straight, has_entry, IsStraightForm}
use Rattle.straight_form.specs.Resolved.{module_of}
use Rattle.straight_reader.specs.Readings.{entity_at, entity_len, entities_from}
use Rattle.straight_reader.specs.Forms.{formed}
use Rattle.straight_reader.proofs.Reading.{entity_len-positive, one-less}
use Rattle.straight_reader.proofs.Spelling.{entity_found, if_some, then_some, map_some}
use Rattle.straight_reader.proofs.Written.{AreUnlabelled, entities_again}
use Rattle.straight_reader.proofs.Forming.{straight-well, head-straight}

-- what was read is spelled, and without labels
pub entities_found : (k : ℕ) (ps : List Piece) (es : List Entity) → entities_from k ps ≡ Some es → AreUnlabelled es × (drop k ps ≡ flat_map entity_pieces es)
entities_found zero [] es e = let f : [] ≡ es = cc in (subst AreUnlabelled f tt, ap (flat_map entity_pieces) f)
entities_found (suc k) [] es e = let f : [] ≡ es = cc in (subst AreUnlabelled f tt, ap (flat_map entity_pieces) f)
entities_found zero (p ∷ ps) es e =
    let (first, f, g) = then_some (λ e. option_map (λ es. e ∷ es) (entities_from (entity_len e - 1) ps)) (entity_at (p ∷ ps)) es e in
    let (more, h, i) = map_some (λ es. first ∷ es) (entities_from (entity_len first - 1) ps) es g in
    let here = entity_found (p ∷ ps) first f in
    let rest = entities_found (entity_len first - 1) ps more h in (
      subst AreUnlabelled i (here.unlabelled, rest.0),
      here.spelled ∙ ap (λ qs. entity_pieces first ++ qs) (sym (one-less p ps (entity_len first) (entity_len-positive first)) ∙ rest.1) ∙ ap (flat_map entity_pieces) i,
    )
entities_found (suc k) (p ∷ ps) es e = entities_found k ps es e

pub straight-unlabelled : (es : List Entity) → are_straight es ≡ true → AreUnlabelled es
straight-unlabelled [] s = tt
straight-unlabelled (e ∷ es) s = let both = head-straight e es s in ((straight-well es e both.0).unlabelled, straight-unlabelled es both.1)

-- what is read of a text's tokens is the text's module
pub form_found : (text entry : List ℕ) (count : ℕ) (ts : List Token) (m : Module) → length text ≤ 16777216 → Tokens text ts → option_and_then (formed entry count) (entities_from 0 (pieces_of text ts)) ≡ Some m → IsStraightForm text entry count m
form_found text entry count ts m size tile e =
    let (es, f, g) = then_some (formed entry count) (entities_from 0 (pieces_of text ts)) m e in
    let h = if_some (are_straight es && has_entry entry count es) (module_of es) m g in
    let both = and_parts (are_straight es) (has_entry entry count es) h.0 in
    record {
      size = size;
      entities = es;
      spelled = record { tokens = ts; tile = tile; spelled = (entities_found 0 (pieces_of text ts) es f).1 };
      resolved = h.1;
      straight = both.0;
      entered = both.1;
    }

-- a module of the form is what is read
pub form_read : (text entry : List ℕ) (count : ℕ) (ts : List Token) (m : Module) → ((us : List Token) → Tokens text us → us ≡ ts) → IsStraightForm text entry count m → option_and_then (formed entry count) (entities_from 0 (pieces_of text ts)) ≡ Some m
form_read text entry count ts m once form =
    let pieces : pieces_of text ts ≡ flat_map entity_pieces form.entities = ap (pieces_of text) (sym (once form.spelled.tokens form.spelled.tile)) ∙ form.spelled.spelled in
    ap (λ ps. option_and_then (formed entry count) (entities_from 0 ps)) pieces
    ∙ ap (option_and_then (formed entry count)) (entities_again form.entities (straight-unlabelled form.entities form.straight))
    ∙ ap (λ b. cond b (module_of form.entities) None) (and_from (are_straight form.entities) (has_entry entry count form.entities) form.straight form.entered)
    ∙ form.resolved

pub no_form : (text entry : List ℕ) (count : ℕ) (ts : List Token) (m : Module) → ((us : List Token) → Tokens text us → us ≡ ts) → option_and_then (formed entry count) (entities_from 0 (pieces_of text ts)) ≡ None → IsStraightForm text entry count m → ⊥
no_form text entry count ts m once none form = let e = form_read text entry count ts m once form in let f : None ≡ Some m = sym none ∙ e in cc

-- A text is of the form in one way at most.
pub one_form : ((bytes : List ℕ) (ts us : List Token) → Tokens bytes ts → Tokens bytes us → ts ≡ us) → (text entry : List ℕ) (count : ℕ) (m n : Module) → IsStraightForm text entry count m → IsStraightForm text entry count n → m ≡ n
one_form one text entry count m n a b =
    let ts = a.spelled.tokens in
    let once : (us : List Token) → Tokens text us → us ≡ ts = λ us tile. one text us ts tile a.spelled.tile in
    let both : Some m ≡ Some n = sym (form_read text entry count ts m once a) ∙ form_read text entry count ts n once b in
    cc
