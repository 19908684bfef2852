-- Lists of files as maps: what a name has, and what is left when its first entry is replaced.
use Rattle.std.proofs.Common.{◌≡◌, ◌≢◌, ◌∙◌, ℕ, zero, suc, ◌<◌, Bool, true, false, cond, List, [], ◌∷◌, ◌++◌, length, get_or, set, Option, Some, None, refl, sym, ap, subst, arith}
use Rattle.std.specs.Ordering.{nat_cmp, eq_by_cmp, is_eq}
use Rattle.std.specs.declared.cmp.Ordering.{Ordering}
use Rattle.std.specs.declared.cmp.Ordering.TheVariants.{Less, Equal, Greater}
use Rattle.std.specs.Cmp.{eq_by_cmp_equiv}
use Rattle.std.specs.Cmp.Lexicographic.{slice_cmp, nat_list_cmp_total}
use Rattle.std.specs.FinMap as map
use Rattle.std.specs.FinMap.{find, get-from_entries, get-insert, same_map, from_entries_push, slice_cmp-IsAntisymmetric, nat_cmp-IsAntisymmetric}
use Rattle.occam_base.specs.Files.{file_of, Fills, ReadGives}
use Rattle.occam_base.specs.declared.shelf.Read.TheVariants.{Got, Absent}
use Rattle.occam_base.specs.Entries.{map_of, IsFirstAt, IsMissing}

abbrev order : List ℕ → List ℕ → Ordering
order = slice_cmp nat_cmp

abbrev Entry : Type 0
Entry = List ℕ × List ℕ

equal_of : (r : Ordering) → is_eq r ≡ true → r ≡ Equal
equal_of Less h = cc
equal_of Equal h = refl
equal_of Greater h = cc

-- names that tie are one
pub ties : (a b : List ℕ) → eq_by_cmp order a b ≡ true → a ≡ b
ties a b h = slice_cmp-IsAntisymmetric nat_cmp-IsAntisymmetric a b (equal_of (order a b) h)

pub ties_itself : (a : List ℕ) → eq_by_cmp order a a ≡ true
ties_itself a = (eq_by_cmp_equiv nat_list_cmp_total).refl a

pub apart : (a b : List ℕ) → a ≢ b → eq_by_cmp order a b ≡ false
apart a b h = elim (eq_by_cmp order a b) as (λ t. eq_by_cmp order a b ≡ t → t ≡ false) [ true ↦ λ e. absurd (h (ties a b e)) | false ↦ λ e. refl ] refl

pub find_missing : (name : List ℕ) (es : List Entry) → IsMissing name es → find order name es ≡ None
find_missing name [] h = refl
find_missing name (e ∷ es) h =
    let other : eq_by_cmp order name e.0 ≡ false = apart name e.0 (λ same. h.0 (sym same)) in
    rw other (find_missing name es h.1)

pub find_first : (name : List ℕ) (es : List Entry) (i : ℕ) (d : Entry) → IsFirstAt name es i → find order name es ≡ Some (get_or es i d).1
find_first name [] i d h = absurd h
find_first name (e ∷ es) zero d h =
    let here : eq_by_cmp order name e.0 ≡ true = rw h (ties_itself name) in rw here refl
find_first name (e ∷ es) (suc i) d h =
    let other : eq_by_cmp order name e.0 ≡ false = apart name e.0 (λ same. h.0 (sym same)) in
    rw other (find_first name es i d h.1)

pub first_within : (name : List ℕ) (es : List Entry) (i : ℕ) → IsFirstAt name es i → i < length es
first_within name [] i h = absurd h
first_within name (e ∷ es) zero h = omega arith
first_within name (e ∷ es) (suc i) h = omega (arith, first_within name es i h.1)

-- a name's file, by its place
pub file_missing : (name : List ℕ) (es : List Entry) → IsMissing name es → file_of (map_of es) name ≡ None
file_missing name es h = get-from_entries nat_list_cmp_total es name ∙ find_missing name es h

pub file_first : (name : List ℕ) (es : List Entry) (i : ℕ) (d : Entry) → IsFirstAt name es i → file_of (map_of es) name ≡ Some (get_or es i d).1
file_first name es i d h = get-from_entries nat_list_cmp_total es name ∙ find_first name es i d h

shadowed : (b : Bool) (x y z : Option (List ℕ)) → cond b x z ≡ cond b x (cond b y z)
shadowed true x y z = refl
shadowed false x y z = refl

-- two tests of which not both hold may be made in either order
either_order : (a b : Bool) (x y z : Option (List ℕ)) → (a ≡ true → b ≡ true → ⊥) → cond a x (cond b y z) ≡ cond b y (cond a x z)
either_order true true x y z h = absurd (h refl refl)
either_order true false x y z h = refl
either_order false b x y z h = refl

pub find_replaced : (name bytes q : List ℕ) (es : List Entry) (i : ℕ) → IsFirstAt name es i →
    find order q (set es i (name, bytes)) ≡ cond (eq_by_cmp order q name) (Some bytes) (find order q es)
find_replaced name bytes q [] i h = absurd h
find_replaced name bytes q (e ∷ es) zero h =
    rw h (shadowed (eq_by_cmp order q name) (Some bytes) (Some e.1) (find order q es))
find_replaced name bytes q (e ∷ es) (suc i) h =
    ap (cond (eq_by_cmp order q e.0) (Some e.1)) (find_replaced name bytes q es i h.1)
    ∙ either_order (eq_by_cmp order q e.0) (eq_by_cmp order q name) (Some e.1) (Some bytes) (find order q es) (λ a b. h.0 (sym (ties q e.0 a) ∙ ties q name b))

-- to replace a name's first entry is to insert in the map
pub map_replaced : (name bytes : List ℕ) (es : List Entry) (i : ℕ) → IsFirstAt name es i → map_of (set es i (name, bytes)) ≡ map.insert (map_of es) name bytes
map_replaced name bytes es i h = same_map nat_list_cmp_total (slice_cmp-IsAntisymmetric nat_cmp-IsAntisymmetric) _ _ (λ q.
    get-from_entries nat_list_cmp_total (set es i (name, bytes)) q ∙ find_replaced name bytes q es i h
    ∙ sym (get-insert nat_list_cmp_total (map_of es) name bytes q ∙ ap (cond (eq_by_cmp order q name) (Some bytes)) (get-from_entries nat_list_cmp_total es q)))

-- to add an entry of a new name is to insert in the map
pub map_pushed : (name bytes : List ℕ) (es : List Entry) → IsMissing name es → map_of (es ++ (name, bytes) ∷ []) ≡ map.insert (map_of es) name bytes
map_pushed name bytes es h = from_entries_push nat_list_cmp_total (slice_cmp-IsAntisymmetric nat_cmp-IsAntisymmetric) es name bytes (find_missing name es h)

-- what a read of such a shelf gives
pub gives_absent : (name file_name : List ℕ) (es files : List Entry) (at : ℕ) (before now : List ℕ) → file_name ≡ name → files ≡ es → IsMissing file_name files →
    ReadGives (file_of (map_of es) name) at before now Absent
gives_absent name file_name es files at before now n e h =
    let missing : IsMissing name es = subst (λ m. IsMissing m es) n (subst (IsMissing file_name) e h) in
    rw (file_missing name es missing) tt

pub gives_got : (name file_name : List ℕ) (es files : List Entry) (i : ℕ) (d : Entry) (at : ℕ) (before now file : List ℕ) (count : ℕ) → file_name ≡ name → files ≡ es →
    IsFirstAt file_name files i → file ≡ (get_or files i d).1 → Fills file at before now count →
    ReadGives (file_of (map_of es) name) at before now (Got count)
gives_got name file_name es files i d at before now file count n e h f fills =
    let first : IsFirstAt name es i = subst (λ m. IsFirstAt m es i) n (subst (λ s. IsFirstAt file_name s i) e h) in
    let bytes : file ≡ (get_or es i d).1 = f ∙ ap (λ s. (get_or s i d).1) e in
    rw (file_first name es i d first) (subst (λ s. Fills s at before now count) bytes fills)
