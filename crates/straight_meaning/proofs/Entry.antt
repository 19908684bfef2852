-- What the entry is asked for as, and where it stands in what is left.
use Rattle.std.proofs.Common.{◌≡◌, ◌≢◌, ◌∙◌, ℕ, zero, suc, ◌<◌, Bool, true, false, not, cond, List, [], ◌∷◌, ◌++◌, length, map, Option, Some, None, slice_get, slice_index_or, refl, sym, ap, subst, arith}
use Rattle.std.specs.Prelude.{All, AllPairs, Contains, codes, nat_eq, bytes_eq, ◌&&◌, ◌||◌, option_map, option_and_then, unwrap_or, if◌then◌else◌}
use Rattle.std.specs.List.{AllZip, filter_map, cons_option, list_any}
use Rattle.std.proofs.lemmas.Bool.{eqb-true, eq-eqb}
use Rattle.std.proofs.lemmas.Slice.Eq.{bytes_eq-Decides}
use Rattle.std.proofs.lemmas.Option.{slice_get_within, get_or_from_slice_get, slice_get-map}
use Rattle.ir_types.specs.declared.scalar.Known.{Known}
use Rattle.ir_types.specs.declared.scalar.Known.TheVariants.{Unknown, Num, Null}
use Rattle.ir_types.specs.declared.scalar.Ext.{Ext}
use Rattle.ir_types.specs.declared.scalar.FnType.{FnType}
use Rattle.ir_syntax.specs.declared.body.Arg.{Arg}
use Rattle.ir_syntax.specs.declared.item.Func.{Func}
use Rattle.ir_syntax.specs.declared.item.Item.{Item}
use Rattle.ir_syntax.specs.declared.item.Item.TheVariants as item
use Rattle.ir_syntax.specs.declared.item.Module.{Module}
use Rattle.ir_syntax.specs.FormedBody.{item_name}
use Rattle.name_table.specs.Places.{place_among}
use Rattle.demands.specs.Names.{are_unknown, items_text}
use Rattle.demands.specs.Demands.{IsKnownOf, IsFunctionFor}
use Rattle.straight_plan.specs.declared.cut.Ask.{Ask}
use Rattle.straight_plan.specs.declared.cut.Cut.{Cut}
use Rattle.straight_plan.specs.Asked.{insts_at, forgotten, is_copied, asked, names_place, is_named, root}
use Rattle.straight_plan.specs.Left.{asks_of, same_ask, place_of, is_entry, at_unknown, left_params, left_name, left_func, left_item, left_module}
use Rattle.straight_meaning.specs.declared.value.Val.TheVariants as val
use Rattle.straight_meaning.specs.State.{Value}
use Rattle.straight_meaning.specs.Run.{SuitsKnown}
use Rattle.straight_meaning.specs.Kept.{item_names, place_in}
use Rattle.straight_meaning.specs.Lawful.{first_byte}
use Rattle.straight_meaning.proofs.Ready.{call_of}
use Rattle.straight_meaning.proofs.Running.{numbers, zip_length}
use Rattle.straight_meaning.proofs.Values.{KnownHolds}
use Rattle.straight_meaning.proofs.Numbers.{neither}
use Rattle.straight_meaning.proofs.Plans.{ask_is, ask_same, ask_itself, all_at}

-- ---- patterns

pub forgotten_unknown : (p : List Known) → are_unknown (forgotten p) ≡ true
forgotten_unknown [] = refl
forgotten_unknown (k ∷ ks) = forgotten_unknown ks

pub forgotten_holds : (p : List Known) (vs : List Value) → AllZip KnownHolds p vs → AllZip KnownHolds (forgotten p) vs
forgotten_holds [] [] h = tt
forgotten_holds [] (v ∷ vs) h = absurd h
forgotten_holds (k ∷ ks) [] h = absurd h
forgotten_holds (k ∷ ks) (v ∷ vs) h = (tt, forgotten_holds ks vs h.1)

if_holds : (b : Bool) (p : List Known) (vs : List Value) → AllZip KnownHolds p vs → AllZip KnownHolds (if b then p else forgotten p) vs
if_holds true p vs h = h
if_holds false p vs h = forgotten_holds p vs h

pub asked_holds : (items : List Item) (place : ℕ) (p : List Known) (vs : List Value) → AllZip KnownHolds p vs → AllZip KnownHolds (asked items place p).pattern vs
asked_holds items place p vs h = if_holds (is_copied items place) p vs h

known_suits : (k : Known) (n : ℕ) → SuitsKnown k n → KnownHolds k (val.Num n)
known_suits Unknown n h = tt
known_suits (Num k) n h = ap (λ j. val.Num j) h.0
known_suits Null n h = absurd h

suits_hold : (args : List Known) (ns : List ℕ) → AllZip SuitsKnown args ns → AllZip KnownHolds args (numbers ns)
suits_hold [] [] h = tt
suits_hold [] (n ∷ ns) h = absurd h
suits_hold (k ∷ ks) [] h = absurd h
suits_hold (k ∷ ks) (n ∷ ns) h = (known_suits k n h.0, suits_hold ks ns h.1)

-- where nothing is known every parameter is left
at_all : (p : List Known) (vs : List Value) → are_unknown p ≡ true → AllZip KnownHolds p vs → at_unknown p vs ≡ vs
at_all [] [] e h = refl
at_all [] (v ∷ vs) e h = absurd h
at_all (k ∷ ks) [] e h = absurd h
at_all (Unknown ∷ ks) (v ∷ vs) e h = ap (λ ws. v ∷ ws) (at_all ks vs e h.1)
at_all (Num n ∷ ks) (v ∷ vs) e h = cc
at_all (Null ∷ ks) (v ∷ vs) e h = cc

all_unknown : (p q : List Known) → are_unknown p ≡ true → are_unknown q ≡ true → length p ≡ length q → p ≡ q
all_unknown [] [] e f l = refl
all_unknown [] (k ∷ ks) e f l = absurd (omega (arith, l))
all_unknown (k ∷ ks) [] e f l = absurd (omega (arith, l))
all_unknown (Unknown ∷ ks) (Unknown ∷ ls) e f l = ap (λ r. Unknown ∷ r) (all_unknown ks ls e f (omega (arith, l)))
all_unknown (Unknown ∷ ks) (Num n ∷ ls) e f l = cc
all_unknown (Unknown ∷ ks) (Null ∷ ls) e f l = cc
all_unknown (Num n ∷ ks) ls e f l = cc
all_unknown (Null ∷ ks) ls e f l = cc

-- ---- the root

root_if_place : (b : Bool) (items : List Item) (place : ℕ) (args : List Known) → (if b then (record { place = place; pattern = forgotten args }) else asked items place args).place ≡ place
root_if_place true items place args = refl
root_if_place false items place args = refl

pub root_place : (items : List Item) (start : Ask) (place : ℕ) (args : List Known) → start ≡ root items place args → start.place ≡ place
root_place items start place args e = ap (λ (a : Ask). a.place) e ∙ root_if_place (is_named items place) items place args

root_if_holds : (b : Bool) (items : List Item) (place : ℕ) (args : List Known) (vs : List Value) → AllZip KnownHolds args vs
    → AllZip KnownHolds (if b then (record { place = place; pattern = forgotten args }) else asked items place args).pattern vs
root_if_holds true items place args vs h = forgotten_holds args vs h
root_if_holds false items place args vs h = asked_holds items place args vs h

pub root_holds : (items : List Item) (start : Ask) (place : ℕ) (args : List Known) (ns : List ℕ) → start ≡ root items place args → AllZip SuitsKnown args ns → AllZip KnownHolds start.pattern (numbers ns)
root_holds items start place args ns e h =
    subst (λ (a : Ask). AllZip KnownHolds a.pattern (numbers ns)) (sym e) (root_if_holds (is_named items place) items place args (numbers ns) (suits_hold args ns h))

-- an entry that a body names is asked for with nothing known
pub root_named : (items : List Item) (start : Ask) (place : ℕ) (args : List Known) → start ≡ root items place args → is_named items place ≡ true → are_unknown start.pattern ≡ true
root_named items start place args e n =
    ap (λ (a : Ask). are_unknown a.pattern) (e ∙ ap (λ b. if b then (record { place = place; pattern = forgotten args }) else asked items place args) n) ∙ forgotten_unknown args

or_right : (a : Bool) → (a || true) ≡ true
or_right true = refl
or_right false = refl

any_at : {X : Type 0} (p : X → Bool) (xs : List X) (k : ℕ) (x : X) → slice_get xs k ≡ Some x → p x ≡ true → list_any p xs ≡ true
any_at p [] k x e h = cc
any_at p (y ∷ ys) zero x e h = let same : y ≡ x = cc in ap (λ b. b || list_any p ys) (ap p same ∙ h)
any_at p (y ∷ ys) (suc k) x e h = ap (λ b. p y || b) (any_at p ys k x e h) ∙ or_right (p y)

named_by : (items : List Item) (from k : ℕ) (o : Option Item) (fn_ty : FnType) (ext : Ext) (place : ℕ) (given : List Arg) → slice_get items from ≡ o
    → slice_get (insts_at o) k ≡ Some (call_of fn_ty ext place given) → is_named items place ≡ true
named_by items from k None fn_ty ext place given e h = cc
named_by items from k (Some i) fn_ty ext place given e h = any_at (λ i. list_any (names_place place) (insts_at (Some i))) items from i e
    (any_at (names_place place) (insts_at (Some i)) k (call_of fn_ty ext place given) h (eq-eqb place place refl))

-- what a body calls is named
pub called_named : (items : List Item) (from k : ℕ) (fn_ty : FnType) (ext : Ext) (place : ℕ) (given : List Arg)
    → slice_get (insts_at (slice_get items from)) k ≡ Some (call_of fn_ty ext place given) → is_named items place ≡ true
called_named items from k fn_ty ext place given h = named_by items from k (slice_get items from) fn_ty ext place given refl h

entry_if : (b : Bool) (place : ℕ) (start : Ask) → nat_eq place start.place ≡ b → (place ≡ start.place → are_unknown start.pattern ≡ true) → (b && not (are_unknown start.pattern)) ≡ false
entry_if true place start e h = ap not (h (eqb-true place start.place e))
entry_if false place start e h = refl

-- what a body calls isn't the entry that is left for known arguments
pub called_plain : (start ask : Ask) → (ask.place ≡ start.place → are_unknown start.pattern ≡ true) → is_entry start ask ≡ false
called_plain start ask h = entry_if (nat_eq ask.place start.place) ask.place start refl h

start_params : (start : Ask) (vs : List Value) (b : Bool) → are_unknown start.pattern ≡ b → AllZip KnownHolds start.pattern vs
    → (if nat_eq start.place start.place && not b then vs else at_unknown start.pattern vs) ≡ vs
start_params start vs true e h =
    ap (λ c. if c && false then vs else at_unknown start.pattern vs) (eq-eqb start.place start.place refl) ∙ at_all start.pattern vs e h
start_params start vs false e h = ap (λ c. if c && true then vs else at_unknown start.pattern vs) (eq-eqb start.place start.place refl)

-- the entry keeps its arguments
pub entry_params : (start : Ask) (vs : List Value) → AllZip KnownHolds start.pattern vs → left_params start start vs ≡ vs
entry_params start vs h = start_params start vs (are_unknown start.pattern) refl h

-- ---- names

own_if : (start : Ask) (name : List ℕ) (b : Bool) → are_unknown start.pattern ≡ b
    → (if nat_eq start.place start.place && not b then name else cond b name (codes "(" ++ items_text start.pattern ++ codes ")" ++ name)) ≡ name
own_if start name true e = ap (λ c. if c && false then name else name) (eq-eqb start.place start.place refl)
own_if start name false e = ap (λ c. if c && true then name else (codes "(" ++ items_text start.pattern ++ codes ")" ++ name)) (eq-eqb start.place start.place refl)

-- the entry keeps its name
own_name : (start : Ask) (name : List ℕ) → left_name start start name ≡ name
own_name start name = own_if start name (are_unknown start.pattern) refl

index_apart : (names : List (List ℕ)) (i j : ℕ) (n : List ℕ) → AllPairs (λ a b. a ≢ b) names → slice_get names i ≡ Some n → slice_get names j ≡ Some n → i < j → ⊥
index_apart names i j n h e f l =
    h i j n l (slice_get_within names j n f) (get_or_from_slice_get names i n n e ∙ sym (get_or_from_slice_get names j n n f))

-- distinct names stand at one place
place_of_name : (items : List Item) (i j : ℕ) (f g : Item) → AllPairs (λ a b. a ≢ b) (map item_name items) → slice_get items i ≡ Some f → slice_get items j ≡ Some g
    → item_name f ≡ item_name g → i ≡ j
place_of_name items i j f g h e d same =
    let first : slice_get (map item_name items) i ≡ Some (item_name g) = slice_get-map item_name items i ∙ ap (option_map item_name) e ∙ ap (λ n. Some n) same in
    let second : slice_get (map item_name items) j ≡ Some (item_name g) = slice_get-map item_name items j ∙ ap (option_map item_name) d in
    neither i j (λ l. index_apart (map item_name items) i j (item_name g) h first second l) (λ l. index_apart (map item_name items) j i (item_name g) h second first l)

-- what is left for a cut has the entry's name only where it is for the entry's ask
pub record Named (items : List Item) (start : Ask) (entry : Func) (cut : Cut) (func : Func) : Type 0 where
  pub distinct : AllPairs (λ a b. a ≢ b) (map item_name items)
  pub apart : first_byte entry.name ≢ Some 40
  pub entry_at : slice_get items start.place ≡ Some (item.Func entry)
  pub at : slice_get items cut.ask.place ≡ Some (item.Func func)
  pub alone : are_unknown start.pattern ≡ false → cut.ask.place ≡ start.place → cut.ask ≡ start
  pub as_long : cut.ask.place ≡ start.place → length cut.ask.pattern ≡ length start.pattern

abbrev name_if : Bool → Bool → Bool → Cut → Func → List ℕ
name_if t b c cut func = if t && not b then func.name else cond c func.name (codes "(" ++ items_text cut.ask.pattern ++ codes ")" ++ func.name)

place_is : (items : List Item) (start : Ask) (entry : Func) (cut : Cut) (func : Func) → Named items start entry cut func → entry.name ≡ func.name → cut.ask.place ≡ start.place
place_is items start entry cut func h n = place_of_name items cut.ask.place start.place (item.Func func) (item.Func entry) h.distinct h.at h.entry_at (sym n)

unknown_start : (items : List Item) (start : Ask) (entry : Func) (cut : Cut) (func : Func) → Named items start entry cut func → are_unknown start.pattern ≡ true → are_unknown cut.ask.pattern ≡ true
    → entry.name ≡ func.name → cut.ask ≡ start
unknown_start items start entry cut func h e f n =
    let place = place_is items start entry cut func h n in
    ask_is cut.ask start place (all_unknown cut.ask.pattern start.pattern f e (h.as_long place))

is_start : (items : List Item) (start : Ask) (entry : Func) (cut : Cut) (func : Func) (t b c : Bool) → Named items start entry cut func → nat_eq cut.ask.place start.place ≡ t
    → are_unknown start.pattern ≡ b → are_unknown cut.ask.pattern ≡ c → entry.name ≡ name_if t b c cut func → cut.ask ≡ start
is_start items start entry cut func true true true h d e f n = unknown_start items start entry cut func h e f n
is_start items start entry cut func true true false h d e f n = absurd (h.apart (ap first_byte n))
is_start items start entry cut func true false c h d e f n = h.alone e (eqb-true cut.ask.place start.place d)
is_start items start entry cut func false true true h d e f n = unknown_start items start entry cut func h e f n
is_start items start entry cut func false true false h d e f n = absurd (h.apart (ap first_byte n))
is_start items start entry cut func false false true h d e f n = h.alone e (place_is items start entry cut func h n)
is_start items start entry cut func false false false h d e f n = absurd (h.apart (ap first_byte n))

names_start : (items : List Item) (start : Ask) (entry : Func) (cut : Cut) (func : Func) → Named items start entry cut func → entry.name ≡ left_name start cut.ask func.name → cut.ask ≡ start
names_start items start entry cut func h n =
    is_start items start entry cut func (nat_eq cut.ask.place start.place) (are_unknown start.pattern) (are_unknown cut.ask.pattern) h refl refl refl n

start_named : (items : List Item) (start : Ask) (entry : Func) (cut : Cut) (func : Func) → Named items start entry cut func → cut.ask ≡ start → entry.name ≡ left_name start cut.ask func.name
start_named items start entry cut func h e =
    let both : Some (item.Func entry) ≡ Some (item.Func func) = sym h.entry_at ∙ ap (λ (a : Ask). slice_get items a.place) (sym e) ∙ h.at in
    let same : entry ≡ func = cc in
    sym (own_name start entry.name) ∙ ap (λ (f : Func). left_name start start f.name) same ∙ ap (λ a. left_name start a func.name) (sym e)

same_tests : (a b : Bool) → (a ≡ true → b ≡ true) → (b ≡ true → a ≡ true) → a ≡ b
same_tests true b f g = sym (f refl)
same_tests false true f g = g refl
same_tests false false f g = refl

name_tells : (items : List Item) (start : Ask) (entry : Func) (cut : Cut) (func : Func) → Named items start entry cut func → bytes_eq entry.name (left_name start cut.ask func.name) ≡ same_ask cut.ask start
name_tells items start entry cut func h =
    let d = bytes_eq-Decides entry.name (left_name start cut.ask func.name) in
    same_tests (bytes_eq entry.name (left_name start cut.ask func.name)) (same_ask cut.ask start)
    (λ t. subst (λ a. same_ask a start ≡ true) (sym (names_start items start entry cut func h (d.0 t))) (ask_itself start))
    (λ t. d.1 (start_named items start entry cut func h (ask_same cut.ask start t)))

-- the item that is left for a cut tells by its name whether it is the entry
pub record Tells (items : List Item) (asks : List Ask) (start : Ask) (name : List ℕ) (cut : Cut) : Type 0 where
  pub left : Item
  pub is : left_item items asks start cut (slice_get items cut.ask.place) ≡ Some left
  pub tells : bytes_eq name (item_name left) ≡ same_ask cut.ask start

found_if : (name : List ℕ) (t : Bool) (o : Option ℕ) (k : ℕ) → (t ≡ false → o ≡ Some k) → (if t then Some 0 else option_map (λ j. suc j) o) ≡ Some (if t then 0 else suc k)
found_if name true o k h = refl
found_if name false o k h = ap (option_map (λ j. suc j)) (h refl)

abbrev lefts : List Item → List Ask → Ask → List Cut → List Item
lefts items asks start plan = filter_map (λ cut. left_item items asks start cut (slice_get items cut.ask.place)) plan

found_step : (items : List Item) (asks : List Ask) (start : Ask) (name : List ℕ) (c : Cut) (cs : List Cut) → Tells items asks start name c
    → (same_ask c.ask start ≡ false → place_among name (map item_name (lefts items asks start cs)) ≡ Some (place_of (asks_of cs) start))
    → place_among name (map item_name (lefts items asks start (c ∷ cs))) ≡ Some (place_of (asks_of (c ∷ cs)) start)
found_step items asks start name c cs t rest =
    let more = map item_name (lefts items asks start cs) in
    ap (λ o. place_among name (map item_name (cons_option o (lefts items asks start cs)))) t.is
    ∙ ap (λ b. if b then Some 0 else option_map (λ j. suc j) (place_among name more)) t.tells
    ∙ found_if name (same_ask c.ask start) (place_among name more) (place_of (asks_of cs) start) rest

-- so its name stands first at the place of the entry's ask
name_found : (items : List Item) (asks : List Ask) (start : Ask) (name : List ℕ) (plan : List Cut) (k : ℕ) → ((j : ℕ) (cut : Cut) → slice_get plan j ≡ Some cut → Tells items asks start name cut)
    → k < length (asks_of plan) → slice_index_or (asks_of plan) k start ≡ start → place_among name (map item_name (lefts items asks start plan)) ≡ Some (place_of (asks_of plan) start)
name_found items asks start name [] k all l e = absurd (omega arith)
name_found items asks start name (c ∷ cs) zero all l e = found_step items asks start name c cs (all 0 c refl) (λ no.
    let yes : same_ask c.ask start ≡ true = subst (λ a. same_ask a start ≡ true) (sym e) (ask_itself start) in
    absurd (let wrong : true ≡ false = sym yes ∙ no in cc))
name_found items asks start name (c ∷ cs) (suc k) all l e =
    found_step items asks start name c cs (all 0 c refl) (λ no. name_found items asks start name cs k (λ j cut g. all (suc j) cut g) (omega arith) e)

as_long : (p q : List Known) (o : Option Item) → IsFunctionFor p o → IsFunctionFor q o → length p ≡ length q
as_long p q None f g = absurd f
as_long p q (Some (item.Var v)) f g = absurd f
as_long p q (Some (item.Func func)) f g = zip_length IsKnownOf func.params p f.1 ∙ sym (zip_length IsKnownOf func.params q g.1)

-- what the names of a plan rest on
pub record Apart (items : List Item) (start : Ask) (plan : List Cut) (entry : Func) : Type 0 where
  pub distinct : AllPairs (λ a b. a ≢ b) (map item_name items)
  pub apart : first_byte entry.name ≢ Some 40
  pub entry_at : slice_get items start.place ≡ Some (item.Func entry)
  pub takes : IsFunctionFor start.pattern (slice_get items start.place)
  pub functions : All (λ cut. IsFunctionFor cut.ask.pattern (slice_get items cut.ask.place)) plan
  pub alone : are_unknown start.pattern ≡ false → All (λ cut. cut.ask.place ≡ start.place → cut.ask ≡ start) plan
  pub has_start : Contains (asks_of plan) start

tells_at : (items : List Item) (start : Ask) (plan : List Cut) (entry : Func) (j : ℕ) (cut : Cut) (o : Option Item) → Apart items start plan entry → slice_get plan j ≡ Some cut
    → slice_get items cut.ask.place ≡ o → IsFunctionFor cut.ask.pattern o → Tells items (asks_of plan) start entry.name cut
tells_at items start plan entry j cut None h e at f = absurd f
tells_at items start plan entry j cut (Some (item.Var v)) h e at f = absurd f
tells_at items start plan entry j cut (Some (item.Func func)) h e at f = record {
  left = item.Func (left_func items (asks_of plan) start cut func);
  is = ap (left_item items (asks_of plan) start cut) at;
  tells = name_tells items start entry cut func (record {
    distinct = h.distinct;
    apart = h.apart;
    entry_at = h.entry_at;
    at = at;
    alone = λ known. all_at (λ cut. cut.ask.place ≡ start.place → cut.ask ≡ start) plan j cut (h.alone known) e;
    as_long = λ same. as_long cut.ask.pattern start.pattern (Some (item.Func func)) f (subst (IsFunctionFor start.pattern) (ap (slice_get items) (sym same) ∙ at) h.takes);
  });
}

-- the entry's name stands in what is left at the place of its ask
pub entry_found : (m : Module) (start : Ask) (plan : List Cut) (entry : Func) → Apart m.items start plan entry → place_in m (left_module m start plan) start.place ≡ place_of (asks_of plan) start
entry_found m start plan entry h =
    let w = left_module m start plan in
    let there : slice_get (item_names m) start.place ≡ Some entry.name = slice_get-map item_name m.items start.place ∙ ap (option_map item_name) h.entry_at in
    let named = name_found m.items (asks_of plan) start entry.name plan h.has_start.0 (λ j cut e. tells_at m.items start plan entry j cut (slice_get m.items cut.ask.place) h e refl
    (all_at (λ cut. IsFunctionFor cut.ask.pattern (slice_get m.items cut.ask.place)) plan j cut h.functions e)) h.has_start.1 h.has_start.2 in
    ap (λ o. unwrap_or (option_and_then (λ name. place_among name (item_names w)) o) 0) there ∙ ap (λ o. unwrap_or o 0) named
