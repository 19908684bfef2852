-- From straight definitions to what the reader asks of them.
use Rattle.std.proofs.Common.{◌≡◌, ◌∙◌, ℕ, suc, zero, true, cond, ◌&&◌, is_none, List, [], ◌∷◌, length, Option, Some, None, option_map, refl, ap, arith}
use Rattle.std.specs.List.{All, list_all}
use Rattle.std.proofs.lemmas.Bool.{and_parts, and_from}
use Rattle.ir_syntax.specs.declared.item.Item.{Item}
use Rattle.ir_syntax.specs.declared.item.Module.{Module}
use Rattle.straight_form.specs.declared.surface.Line.{Line}
use Rattle.straight_form.specs.declared.surface.Line.TheVariants.{Add, Call}
use Rattle.straight_form.specs.declared.surface.Entity.{Entity}
use Rattle.name_table.specs.Places.{are_distinct}
use Rattle.straight_form.specs.Names.{is_name, is_function_name, is_plain_name}
use Rattle.straight_form.specs.Form.{params_among, takes, keeps_form, is_straight, are_straight, has_entry}
use Rattle.straight_form.specs.Resolved.{name_of, items_of, module_of}
use Rattle.straight_reader.specs.Forms.{function_names, formed, IsNamed}
use Rattle.straight_reader.proofs.Plain.{plain_is_name, plain_is_function_name}

-- what a straight definition is made of
pub record IsWell (later : List Entity) (e : Entity) : Type 0 where
  pub plain : is_plain_name e.name ≡ true
  pub params : list_all is_plain_name e.params ≡ true
  pub unlabelled : e.label ≡ None
  pub kept : list_all (keeps_form later) e.lines ≡ true

none_of : {A : Type 0} (o : Option A) → is_none o ≡ true → o ≡ None
none_of None e = refl
none_of (Some x) e = cc

pub straight-well : (later : List Entity) (e : Entity) → is_straight later e ≡ true → IsWell later e
straight-well later e s =
    let a = and_parts (is_plain_name e.name && list_all is_plain_name e.params && is_none e.label) (list_all (keeps_form later) e.lines) s in
    let b = and_parts (is_plain_name e.name && list_all is_plain_name e.params) (is_none e.label) a.0 in
    let c = and_parts (is_plain_name e.name) (list_all is_plain_name e.params) b.0 in
    record { plain = c.0; params = c.1; unlabelled = none_of e.label b.1; kept = a.1 }

-- each is straight among those behind it
pub head-straight : (e : Entity) (es : List Entity) → are_straight (e ∷ es) ≡ true → (is_straight es e ≡ true) × (are_straight es ≡ true)
head-straight e es s = and_parts (is_straight es e) (are_straight es) s

names_are : (names : List (List ℕ)) → list_all is_plain_name names ≡ true → list_all is_name names ≡ true
names_are [] e = refl
names_are (n ∷ ns) e =
    let both = and_parts (is_plain_name n) (list_all is_plain_name ns) e in
    and_from (is_name n) (list_all is_name ns) (plain_is_name n both.0) (names_are ns both.1)

line_named : (later : List Entity) (l : Line) → keeps_form later l ≡ true → is_plain_name (name_of l) ≡ true
line_named later (Add name a b) e = e
line_named later (Call name callee args) e = (and_parts (is_plain_name name) (takes (params_among callee later) (length args)) e).0

lines_named : (later : List Entity) (ls : List Line) → list_all (keeps_form later) ls ≡ true → list_all (λ l. is_name (name_of l)) ls ≡ true
lines_named later [] e = refl
lines_named later (l ∷ ls) e =
    let both = and_parts (keeps_form later l) (list_all (keeps_form later) ls) e in
    and_from (is_name (name_of l)) (list_all (λ l. is_name (name_of l)) ls) (plain_is_name (name_of l) (line_named later l both.0)) (lines_named later ls both.1)

pub well-named : (later : List Entity) (e : Entity) → IsWell later e → IsNamed e
well-named later e w = record { unlabelled = w.unlabelled; params = names_are e.params w.params; lines = lines_named later e.lines w.kept }

pub straight-named : (es : List Entity) → are_straight es ≡ true → All IsNamed es
straight-named [] s k d within = absurd (omega arith)
straight-named (e ∷ es) s zero d within = well-named es e (straight-well es e (head-straight e es s).0)
straight-named (e ∷ es) s (suc k) d within = straight-named es (head-straight e es s).1 k d (omega arith)

pub functions_named : (es : List Entity) → are_straight es ≡ true → list_all is_function_name (function_names es) ≡ true
functions_named [] s = refl
functions_named (e ∷ es) s =
    let both = head-straight e es s in
    and_from (is_function_name e.name) (list_all is_function_name (function_names es)) (plain_is_function_name e.name (straight-well es e both.0).plain) (functions_named es both.1)

abbrev pub module_with : List Item → Module
module_with items = record { layout = None; triple = None; items = items }

-- the module of straight definitions with distinct names
pub formed_of : (entry : List ℕ) (count : ℕ) (es : List Entity) → are_straight es ≡ true → has_entry entry count es ≡ true → are_distinct (function_names es) ≡ true →
    formed entry count es ≡ option_map (λ items. module_with items) (items_of (function_names es) es)
formed_of entry count es straight entered distinct =
    ap (λ b. cond b (module_of es) None) (and_from (are_straight es) (has_entry entry count es) straight entered)
    ∙ ap (λ b. cond b (option_map (λ items. module_with items) (items_of (function_names es) es)) None)
    (and_from (list_all is_function_name (function_names es)) (are_distinct (function_names es)) (functions_named es straight) distinct)
