-- Written parameters are read again.
use Rattle.std.proofs.Common.{◌≡◌, ◌∙◌, ℕ, suc, ◌+◌, ◌-◌, Bool, true, false, cond, List, [], ◌∷◌, ◌++◌, length, map, drop, Option, Some, None, option_map, option_and_then, refl, sym, ap, arith, append_assoc, length-append}
use Rattle.std.specs.Fmt.{decimal}
use Rattle.std.proofs.lemmas.Bool.{false≢true}
use Rattle.std.proofs.lemmas.List.{drop_at, drop-drop}
use Rattle.ir_lexer.specs.Spelled.{is_decimal}
use Rattle.ir_types.specs.declared.scalar.Scalar.{Scalar}
use Rattle.ir_types.specs.declared.scalar.Ext.{Ext}
use Rattle.ir_types.specs.declared.scalar.Ext.TheVariants as ext
use Rattle.ir_syntax.specs.declared.item.Param.{Param}
use Rattle.ir_grammar.specs.declared.shape.Shape.{Shape}
use Rattle.ir_grammar.specs.declared.shape.Shape.TheVariants as is
use Rattle.ir_scope.specs.Runs.{run, runs, begins_with, closed_by}
use Rattle.ir_constants.specs.Constants.{is_close_paren}
use Rattle.ir_locals.specs.Locals.{local_name}
use Rattle.ir_operands.specs.Marks.{ext_at, is_scalar, dots_at}
use Rattle.ir_parser.specs.Items.{named_at, param_at, params_at, names_from}
use Rattle.ir_writer.specs.Instructions.{param_text}
use Rattle.round_trip.proofs.Grammar.Kept.{Lexemes, joined, close_paren_kept, scalar_kept, local_kept, ext_kept, dots_kept, declared_param_kept, defined_params_kept}
use Rattle.round_trip.proofs.Tokens.Quoted.{itself_back}
use Rattle.round_trip.proofs.Modules.ParamNames.{texts_from, param_name}

-- a parameter and its name or none
abbrev pub Named : Type 0
Named = Param × Option (List ℕ)

-- ---- one parameter

-- A shape that stands behind a whole parameter.
abbrev is_behind : Shape → Bool
is_behind (is.Scalar ty) = true
is_behind is.Dots = true
is_behind is.CloseParen = true
is_behind _ = false

-- Neither an attribute nor a name stands here.
record Stands (ks : Lexemes) : Type 0 where
  pub plain : ext_at ks ≡ (ext.Plain, 0)
  pub unnamed : named_at ks ≡ (None, 0)

stands : (ks : Lexemes) → begins_with is_behind ks ≡ true → Stands ks
stands [] h = record { plain = refl; unnamed = refl }
stands ((is.Ext ext, text) ∷ ks) h = absurd (false≢true h)
stands ((is.Local, text) ∷ ks) h = absurd (false≢true h)
stands (k ∷ ks) h = record { plain = refl; unnamed = refl }

-- what is read of a parameter of a type with this attribute and this name
abbrev found_at : Scalar → Ext × ℕ → Option (List ℕ) × ℕ → Option (Named × ℕ)
found_at ty ext name = Some ((record { ty = ty; ext = ext.0 }, name.0), 1 + ext.1 + name.1)

declared-read : (ty : Scalar) (e : Ext) (more : Lexemes) → begins_with is_behind more ≡ true →
    param_at (scalar_kept ty ∷ (ext_kept e ++ more)) ≡ Some ((record { ty = ty; ext = e }, None), length (scalar_kept ty ∷ ext_kept e))
declared-read ty ext.Plain more h =
    let s = stands more h in
    ap (λ (f : Ext × ℕ). found_at ty f (named_at (drop f.1 more))) s.plain ∙ ap (λ (f : Option (List ℕ) × ℕ). found_at ty (ext.Plain, 0) f) s.unnamed
declared-read ty ext.Signed more h = ap (λ (f : Option (List ℕ) × ℕ). found_at ty (ext.Signed, 1) f) (stands more h).unnamed
declared-read ty ext.Unsigned more h = ap (λ (f : Option (List ℕ) × ℕ). found_at ty (ext.Unsigned, 1) f) (stands more h).unnamed

-- the name of a parameter of a definition
text-read : (k : ℕ) → local_name (param_text k) ≡ param_name k
text-read k = itself_back 97 (decimal k) refl

defined-read : (ty : Scalar) (e : Ext) (k : ℕ) (more : Lexemes) →
    param_at (scalar_kept ty ∷ ((ext_kept e ++ local_kept (param_text k) ∷ []) ++ more)) ≡ Some ((record { ty = ty; ext = e }, Some (param_name k)), length (scalar_kept ty ∷ (ext_kept e ++ local_kept (param_text k) ∷ [])))
defined-read ty ext.Plain k more = ap (λ (name : List ℕ). found_at ty (ext.Plain, 0) (Some name, 1)) (text-read k)
defined-read ty ext.Signed k more = ap (λ (name : List ℕ). found_at ty (ext.Signed, 1) (Some name, 1)) (text-read k)
defined-read ty ext.Unsigned k more = ap (λ (name : List ℕ). found_at ty (ext.Unsigned, 1) (Some name, 1)) (text-read k)

-- ---- runs of parameters

run-past : (ks more : Lexemes) → run is_scalar param_at (length ks) (ks ++ more) ≡ runs is_scalar param_at more
run-past [] more = refl
run-past (k ∷ ks) more = run-past ks more

-- one more parameter stands in front
one-more : (p : Named) (ty : Scalar) (ks more : Lexemes) (found : List Named × ℕ) → param_at (scalar_kept ty ∷ (ks ++ more)) ≡ Some (p, length (scalar_kept ty ∷ ks)) → runs is_scalar param_at more ≡ Some found →
    runs is_scalar param_at (scalar_kept ty ∷ (ks ++ more)) ≡ Some (p ∷ found.0, length (scalar_kept ty ∷ ks) + found.1)
one-more p ty ks more found here rest =
    let less : suc (length ks) - 1 ≡ length ks = omega arith in
    ap (option_and_then (λ (f : Named × ℕ). option_map (λ (rest : List Named × ℕ). (f.0 ∷ rest.0, f.1 + rest.1)) (run is_scalar param_at (f.1 - 1) (ks ++ more)))) here
    ∙ ap (option_map (λ (rest : List Named × ℕ). (p ∷ rest.0, suc (length ks) + rest.1))) (ap (λ n. run is_scalar param_at n (ks ++ more)) less ∙ run-past ks more ∙ rest)

-- A shape that ends a run of parameters.
abbrev is_end : Shape → Bool
is_end is.Dots = true
is_end is.CloseParen = true
is_end _ = false

run-end : (rest : Lexemes) → begins_with is_end rest ≡ true → runs is_scalar param_at rest ≡ Some ([], 0)
run-end [] h = refl
run-end ((is.Scalar ty, text) ∷ ks) h = absurd (false≢true h)
run-end (k ∷ ks) h = refl

end-behind : (rest : Lexemes) → begins_with is_end rest ≡ true → begins_with is_behind rest ≡ true
end-behind [] h = h
end-behind ((is.Dots, text) ∷ ks) h = refl
end-behind ((is.CloseParen, text) ∷ ks) h = refl
end-behind (k ∷ ks) h = absurd (false≢true h)

-- ---- declarations

abbrev pub unnamed : List Param → List Named
unnamed params = map (λ (p : Param). (p, None)) params

abbrev pub declared_kept : List Param → Lexemes
declared_kept params = joined (map declared_param_kept params)

declared-behind : (params : List Param) (rest : Lexemes) → begins_with is_end rest ≡ true → begins_with is_behind (declared_kept params ++ rest) ≡ true
declared-behind [] rest h = end-behind rest h
declared-behind (p ∷ ps) rest h = refl

declared-run : (params : List Param) (rest : Lexemes) → begins_with is_end rest ≡ true → runs is_scalar param_at (declared_kept params ++ rest) ≡ Some (unnamed params, length (declared_kept params))
declared-run [] rest h = run-end rest h
declared-run (p ∷ ps) rest h =
    let more : Lexemes = declared_kept ps ++ rest in
    ap (runs is_scalar param_at) (append_assoc (declared_param_kept p) (declared_kept ps) rest)
    ∙ one-more (p, None) p.ty (ext_kept p.ext) more (unnamed ps, length (declared_kept ps)) (declared-read p.ty p.ext more (declared-behind ps rest h)) (declared-run ps rest h)
    ∙ ap (λ n. Some (unnamed (p ∷ ps), n)) (sym (length-append (declared_param_kept p) (declared_kept ps)))

-- ---- definitions

abbrev pub named_from : ℕ → List Param → List Named
named_from k [] = []
named_from k (p ∷ ps) = (p, Some (param_name k)) ∷ named_from (suc k) ps

abbrev pub defined_kept : ℕ → List Param → Lexemes
defined_kept k params = joined (defined_params_kept k params)

defined-run : (k : ℕ) (params : List Param) (rest : Lexemes) → begins_with is_end rest ≡ true → runs is_scalar param_at (defined_kept k params ++ rest) ≡ Some (named_from k params, length (defined_kept k params))
defined-run k [] rest h = run-end rest h
defined-run k (p ∷ ps) rest h =
    let own : Lexemes = declared_param_kept p ++ local_kept (param_text k) ∷ [] in
    let more : Lexemes = defined_kept (suc k) ps ++ rest in
    ap (runs is_scalar param_at) (append_assoc own (defined_kept (suc k) ps) rest)
    ∙ one-more (p, Some (param_name k)) p.ty (ext_kept p.ext ++ local_kept (param_text k) ∷ []) more (named_from (suc k) ps, length (defined_kept (suc k) ps)) (defined-read p.ty p.ext k more) (defined-run (suc k) ps rest h)
    ∙ ap (λ n. Some (named_from k (p ∷ ps), n)) (sym (length-append own (defined_kept (suc k) ps)))

-- ---- what stands between the parentheses

dots-read : (variadic : Bool) (rest : Lexemes) → dots_at (dots_kept variadic ++ close_paren_kept ∷ rest) ≡ (variadic, length (dots_kept variadic))
dots-read false rest = refl
dots-read true rest = refl

dots-end : (variadic : Bool) (rest : Lexemes) → begins_with is_end (dots_kept variadic ++ close_paren_kept ∷ rest) ≡ true
dots-end false rest = refl
dots-end true rest = refl

-- how many lexemes these are
abbrev count : Lexemes → Bool → ℕ
count ks variadic = length ks + length (dots_kept variadic)

past-dots : (ks : Lexemes) (variadic : Bool) (rest : Lexemes) → drop (count ks variadic) (ks ++ (dots_kept variadic ++ close_paren_kept ∷ rest)) ≡ close_paren_kept ∷ rest
past-dots ks variadic rest =
    let dots : Lexemes = dots_kept variadic in
    let end : Lexemes = close_paren_kept ∷ rest in
    sym (drop-drop (length dots) (length ks) (ks ++ (dots ++ end)))
    ∙ ap (drop (length dots)) (drop_at ks (dots ++ end) (length ks) refl)
    ∙ drop_at dots end (length dots) refl

all-read : (ks : Lexemes) (params : List Named) (variadic : Bool) (rest : Lexemes) → runs is_scalar param_at (ks ++ (dots_kept variadic ++ close_paren_kept ∷ rest)) ≡ Some (params, length ks) →
    params_at (ks ++ (dots_kept variadic ++ close_paren_kept ∷ rest)) ≡ Some ((params, variadic), count ks variadic + 1)
all-read ks params variadic rest h =
    let end : Lexemes = dots_kept variadic ++ close_paren_kept ∷ rest in
    let all : Lexemes = ks ++ end in
    ap (λ found. closed_by is_close_paren all (option_map (λ (f : List Named × ℕ). ((f.0, (dots_at (drop f.1 all)).0), f.1 + (dots_at (drop f.1 all)).1)) found)) h
    ∙ ap (λ (dots : Bool × ℕ). closed_by is_close_paren all (Some ((params, dots.0), length ks + dots.1))) (ap dots_at (drop_at ks end (length ks) refl) ∙ dots-read variadic rest)
    ∙ ap (λ ks_left. cond (begins_with is_close_paren ks_left) (Some ((params, variadic), count ks variadic + 1)) None) (past-dots ks variadic rest)

pub all-past : (ks : Lexemes) (variadic : Bool) (rest : Lexemes) → drop (count ks variadic + 1) (ks ++ (dots_kept variadic ++ close_paren_kept ∷ rest)) ≡ rest
all-past ks variadic rest = sym (drop-drop 1 (count ks variadic) (ks ++ (dots_kept variadic ++ close_paren_kept ∷ rest))) ∙ ap (drop 1) (past-dots ks variadic rest)

pub declared-back : (params : List Param) (variadic : Bool) (rest : Lexemes) → params_at (declared_kept params ++ (dots_kept variadic ++ close_paren_kept ∷ rest)) ≡ Some ((unnamed params, variadic), length (declared_kept params) + length (dots_kept variadic) + 1)
declared-back params variadic rest =
    all-read (declared_kept params) (unnamed params) variadic rest (declared-run params (dots_kept variadic ++ close_paren_kept ∷ rest) (dots-end variadic rest))

pub defined-back : (params : List Param) (rest : Lexemes) → params_at (defined_kept 0 params ++ (dots_kept false ++ close_paren_kept ∷ rest)) ≡ Some ((named_from 0 params, false), length (defined_kept 0 params) + length (dots_kept false) + 1)
defined-back params rest = all-read (defined_kept 0 params) (named_from 0 params) false rest (defined-run 0 params (close_paren_kept ∷ rest) refl)

-- ---- types and names

pub declared-types : (params : List Param) → params ≡ map (λ (p : Named). p.0) (unnamed params)
declared-types [] = refl
declared-types (p ∷ ps) = ap (λ rest. p ∷ rest) (declared-types ps)

pub declared-names : (k : ℕ) (params : List Param) → texts_from decimal k (length params) ≡ names_from k (map (λ (p : Named). p.1) (unnamed params))
declared-names k [] = refl
declared-names k (p ∷ ps) = ap (λ rest. decimal k ∷ rest) (declared-names (suc k) ps)

pub defined-types : (k : ℕ) (params : List Param) → params ≡ map (λ (p : Named). p.0) (named_from k params)
defined-types k [] = refl
defined-types k (p ∷ ps) = ap (λ rest. p ∷ rest) (defined-types (suc k) ps)

-- a name that begins with an a isn't decimal
not-decimal : (k : ℕ) → is_decimal (param_name k) ≡ false
unfolding is_decimal
not-decimal k = refl

pub defined-names : (k j : ℕ) (params : List Param) → texts_from param_name k (length params) ≡ names_from j (map (λ (p : Named). p.1) (named_from k params))
defined-names k j [] = refl
defined-names k j (p ∷ ps) =
    ap (λ rest. param_name k ∷ rest) (defined-names (suc k) j ps)
    ∙ ap (λ b. param_name k ∷ names_from (cond b (suc j) j) (map (λ (p : Named). p.1) (named_from (suc k) ps))) (sym (not-decimal k))
