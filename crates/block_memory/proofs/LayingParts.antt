-- Constants with parts, as they are laid out: piece by piece.
use Rattle.std.proofs.Common.{◌≡◌, ℕ, suc, ◌+◌, ◌-◌, ◌*◌, ◌<◌, ◌≤◌, ◌^◌, ◌==◌, Bool, true, List, [], ◌∷◌, ◌++◌, length, map, drop, get_or, replicate, slice_set, length-append, refl, ap, sym, subst, ◌∙◌, arith}
use Rattle.std.specs.List.{list_all}
use Rattle.std.proofs.lemmas.List.{append_assoc, append-nil, length-map, length-replicate, length-set, drop_all}
use Rattle.std.proofs.lemmas.Bool.{eqb-true}
use Rattle.ir_types.specs.declared.shape.Ty.{Ty, out-Ty}
use Rattle.ir_types.specs.declared.shape.Ty.TheOpen.{Ty-F}
use Rattle.ir_types.specs.declared.shape.Ty.TheViews.{Array, Struct}
use Rattle.ir_types.specs.declared.shape.Ty.TheVariants.{outs-Array, outs-Struct}
use Rattle.ir_types.specs.Layout.{extent, size, align, round_up, end_from, greatest_align, struct_size, struct_width}
use Rattle.ir_types.proofs.Extents.{IsArrayExtent, IsStructExtent, array_extent, struct_extent, greatest_width-ge, end_from-ge, round_up-ge}
use Rattle.ir_types.proofs.ListSteps.{drop_at}
use Rattle.ir_syntax.specs.declared.constant.Const.{Const}
use Rattle.ir_syntax.specs.declared.constant.Const.TheViews.{Many}
use Rattle.ir_syntax.specs.declared.symbol.Sym.{Sym}
use Rattle.ir_syntax.specs.InitialBytes.{InitialPart, zeros, parts_in, initial_parts}
use Rattle.ir_syntax.specs.Programs.{ProgramData}
use Rattle.ir_syntax.specs.Suits.{Suits, suits, takes_parts, each_takes}
use Rattle.ir_syntax.specs.Typed.{IsNarrow}
use Rattle.ir_syntax.proofs.SuitLemmas.{suits-Many}
use Rattle.block_memory.specs.declared.value.Part.{Part}
use Rattle.block_memory.specs.declared.value.Part.TheVariants as part
use Rattle.block_memory.specs.Mirrors.Laying.{IsLaid, IsLaidBefore, elements, fields_behind}
use Rattle.block_memory.specs.Mirrors.Writing.{set_from}
use Rattle.block_memory.proofs.InitialParts.{initial-Many}
use Rattle.block_memory.proofs.Laying.{both}
use Rattle.block_memory.proofs.Naming.{named-append, named-zeros, set_from-append}

-- ---- pieces

pub length-set_from : (parts : List (Part Sym)) (at : ℕ) (new : List (Part Sym)) → length (set_from parts at new) ≡ length parts
length-set_from parts at [] = refl
length-set_from parts at (first ∷ rest) = length-set_from (slice_set parts at first) (at + 1) rest ∙ length-set parts at first

pub laid_length : (p : ProgramData) (home : ℕ) (initial : List InitialPart) (at end : ℕ) (old new : List (Part Sym)) → IsLaid p home initial at end old new → length new ≡ length old
laid_length p home initial at end old new laid = ap length laid.written ∙ length-set_from old at laid.bytes

pub laid_zeros :
    (p : ProgramData) (home count at end : ℕ) (old new : List (Part Sym)) → at + count ≡ end → new ≡ set_from old at (replicate count (part.Num 0)) → IsLaid p home (zeros count) at end old new
laid_zeros p home count at end old new ends made = record {
  bytes = replicate count (part.Num 0);
  named = named-zeros p home count;
  ends = ap (λ n. at + n) (length-replicate count (part.Num 0)) ∙ ends;
  written = made;
}

pub laid_next :
    (p : ProgramData) (home : ℕ) (front next : List InitialPart) (at mid end : ℕ) (old between new : List (Part Sym)) → IsLaid p home front at mid old between →
    IsLaid p home next mid end between new → IsLaid p home (front ++ next) at end old new
laid_next p home front next at mid end old between new one two =
    let long : length (one.bytes ++ two.bytes) ≡ length one.bytes + length two.bytes = length-append one.bytes two.bytes in
    record {
      bytes = one.bytes ++ two.bytes;
      named = named-append p home front next one.bytes two.bytes one.named two.named;
      ends = omega (arith, long, one.ends, two.ends);
      written =
          two.written
          ∙ ap (λ parts. set_from parts mid two.bytes) one.written
          ∙ ap (λ place. set_from (set_from old at one.bytes) place two.bytes) (sym one.ends)
          ∙ sym (set_from-append old at one.bytes two.bytes);
    }

pub nothing_before : (p : ProgramData) (home : ℕ) (whole : List InitialPart) (at : ℕ) (old : List (Part Sym)) → IsLaidBefore p home whole whole at at old old
nothing_before p home whole at old = record { front = []; laid = record { bytes = []; named = refl; ends = omega arith; written = refl }; makes = refl }

pub laid_before_as :
    (p : ProgramData) (home : ℕ) (whole rest : List InitialPart) (at end far : ℕ) (old new : List (Part Sym)) → end ≡ far → IsLaidBefore p home whole rest at end old new → IsLaidBefore p home whole rest at far old new
laid_before_as p home whole rest at end far old new ends before = subst (λ (e : ℕ). IsLaidBefore p home whole rest at e old new) ends before

pub more_before :
    (p : ProgramData) (home : ℕ) (whole left next rest : List InitialPart) (at mid end : ℕ) (old between new : List (Part Sym)) → left ≡ next ++ rest →
    IsLaidBefore p home whole left at mid old between → IsLaid p home next mid end between new → IsLaidBefore p home whole rest at end old new
more_before p home whole left next rest at mid end old between new is before laid = record {
  front = before.front ++ next;
  laid = laid_next p home before.front next at mid end old between new before.laid laid;
  makes = append_assoc before.front next rest ∙ ap (λ more. before.front ++ more) (sym is) ∙ before.makes;
}

pub all_before :
    (p : ProgramData) (home : ℕ) (whole left : List InitialPart) (at end : ℕ) (old new : List (Part Sym)) → left ≡ [] → IsLaidBefore p home whole left at end old new → IsLaid p home whole at end old new
all_before p home whole left at end old new none before =
    subst (λ (initial : List InitialPart). IsLaid p home initial at end old new) (sym (append-nil before.front) ∙ ap (λ more. before.front ++ more) (sym none) ∙ before.makes) before.laid

-- ---- elements

pub element_before :
    (p : ProgramData) (home : ℕ) (element : Ty) (constants : List Const) (k : ℕ) (constant : Const) (at place : ℕ) (old between new : List (Part Sym)) → k < length constants →
    constant ≡ get_or constants k constant → IsLaidBefore p home (elements element constants) (elements element (drop k constants)) at place old between →
    IsLaid p home (initial_parts constant element) place (place + size element) between new →
    IsLaidBefore p home (elements element constants) (elements element (drop (k + 1) constants)) at (place + size element) old new
element_before p home element constants k constant at place old between new within here before laid =
    more_before p home (elements element constants) (elements element (drop k constants)) (initial_parts constant element) (elements element (drop (k + 1) constants)) at place (place + size element) old between new
    (ap (elements element) (drop_at constants k constant within here)) before laid

abbrev pub elements_suit : ℕ → Ty → List Const → Bool
elements_suit items element constants = list_all (λ part. part element) (map (suits items) constants)

pub element_suits :
    (items : ℕ) (element : Ty) (constants : List Const) (k : ℕ) (constant : Const) → k < length constants → constant ≡ get_or constants k constant →
    elements_suit items element (drop k constants) ≡ true → (Suits items element constant) × (elements_suit items element (drop (k + 1) constants) ≡ true)
element_suits items element constants k constant within here suit =
    both (suits items constant element) (elements_suit items element (drop (k + 1) constants)) (sym (ap (elements_suit items element) (drop_at constants k constant within here)) ∙ suit)

-- ---- fields

pub takes_length : (items : ℕ) (constants : List Const) (fields : List Ty) → each_takes (map (suits items) constants) fields ≡ true → length constants ≡ length fields
takes_length items [] [] takes = refl
takes_length items [] (field ∷ fields) takes = absurd (cc)
takes_length items (constant ∷ constants) [] takes = absurd (cc)
takes_length items (constant ∷ constants) (field ∷ fields) takes = ap suc (takes_length items constants fields (both (suits items constant field) (each_takes (map (suits items) constants) fields) takes).1)

pub field_suits :
    (items : ℕ) (constants : List Const) (fields : List Ty) (k : ℕ) (constant : Const) (field : Ty) → k < length constants → constant ≡ get_or constants k constant → k < length fields →
    field ≡ get_or fields k field → each_takes (map (suits items) (drop k constants)) (drop k fields) ≡ true →
    (Suits items field constant) × (each_takes (map (suits items) (drop (k + 1) constants)) (drop (k + 1) fields) ≡ true)
field_suits items constants fields k constant field within here has is suit =
    both (suits items constant field) (each_takes (map (suits items) (drop (k + 1) constants)) (drop (k + 1) fields))
    (sym (ap (λ cs. each_takes (map (suits items) cs) (drop k fields)) (drop_at constants k constant within here)
    ∙ ap (λ ts. each_takes (map (suits items) (constant ∷ drop (k + 1) constants)) ts) (drop_at fields k field has is))
    ∙ suit)

-- the end of fields is within their struct
pub end_within : (fields : List Ty) (k at : ℕ) → end_from at (map extent (drop k fields)) ≡ end_from 0 (map extent fields) → at ≤ struct_size (map extent fields)
end_within fields k at same =
    omega (arith, same, end_from-ge at (map extent (drop k fields)), round_up-ge (end_from 0 (map extent fields)) (greatest_align (map extent fields)))

pub next_end :
    (fields : List Ty) (k at : ℕ) (field : Ty) → k < length fields → field ≡ get_or fields k field → end_from at (map extent (drop k fields)) ≡ end_from 0 (map extent fields) →
    end_from (round_up at (align field) + size field) (map extent (drop (k + 1) fields)) ≡ end_from 0 (map extent fields)
next_end fields k at field has is same = sym (ap (λ ts. end_from at (map extent ts)) (drop_at fields k field has is)) ∙ same

-- A field's zeros and its bytes come next.
pub field_before :
    (p : ProgramData) (home whole : ℕ) (constants : List Const) (fields : List Ty) (k : ℕ) (constant : Const) (field : Ty) (at end offset : ℕ) (old between filled new : List (Part Sym)) →
    k < length constants → constant ≡ get_or constants k constant → k < length fields → field ≡ get_or fields k field → offset ≡ round_up end (align field) →
    IsLaidBefore p home (fields_behind 0 whole constants fields) (fields_behind end whole (drop k constants) (drop k fields)) at (at + end) old between →
    filled ≡ set_from between (at + end) (replicate (offset - end) (part.Num 0)) →
    IsLaid p home (initial_parts constant field) (at + offset) (at + offset + size field) filled new →
    IsLaidBefore p home (fields_behind 0 whole constants fields) (fields_behind (offset + size field) whole (drop (k + 1) constants) (drop (k + 1) fields)) at (at + (offset + size field)) old new
field_before p home whole constants fields k constant field at end offset old between filled new within here has is rounded before made laid =
    let rest : List InitialPart = fields_behind (offset + size field) whole (drop (k + 1) constants) (drop (k + 1) fields) in
    let begins : fields_behind end whole (drop k constants) (drop k fields) ≡ zeros (offset - end) ++ (initial_parts constant field ++ rest) =
    ap (λ cs. fields_behind end whole cs (drop k fields)) (drop_at constants k constant within here)
    ∙ ap (λ ts. fields_behind end whole (constant ∷ drop (k + 1) constants) ts) (drop_at fields k field has is)
    ∙ ap (λ o. zeros (o - end) ++ (initial_parts constant field ++ fields_behind (o + size field) whole (drop (k + 1) constants) (drop (k + 1) fields))) (sym rounded) in
    let up : end ≤ offset = subst (λ (o : ℕ). end ≤ o) (sym rounded) (round_up-ge end (align field)) in
    let further : at + offset + size field ≡ at + (offset + size field) = omega arith in
    let padded : IsLaidBefore p home (fields_behind 0 whole constants fields) (initial_parts constant field ++ rest) at (at + offset) old filled =
    more_before p home (fields_behind 0 whole constants fields) (fields_behind end whole (drop k constants) (drop k fields)) (zeros (offset - end)) (initial_parts constant field ++ rest) at (at + end) (at + offset) old between filled
    begins before (laid_zeros p home (offset - end) (at + end) (at + offset) between filled (omega arith) made) in
    more_before p home (fields_behind 0 whole constants fields) (initial_parts constant field ++ rest) (initial_parts constant field) rest at (at + offset) (at + (offset + size field)) old filled new
    refl padded (subst (λ (place : ℕ). IsLaid p home (initial_parts constant field) (at + offset) place filled new) further laid)

-- and zeros up to the struct's end are the last.
pub all_fields :
    (p : ProgramData) (home whole : ℕ) (constants : List Const) (fields : List Ty) (k at end : ℕ) (old between new : List (Part Sym)) → length constants ≤ k → end ≤ whole →
    IsLaidBefore p home (fields_behind 0 whole constants fields) (fields_behind end whole (drop k constants) (drop k fields)) at (at + end) old between →
    new ≡ set_from between (at + end) (replicate (whole - end) (part.Num 0)) → IsLaid p home (fields_behind 0 whole constants fields) at (at + whole) old new
all_fields p home whole constants fields k at end old between new all within before made =
    let begins : fields_behind end whole (drop k constants) (drop k fields) ≡ zeros (whole - end) ++ [] =
    ap (λ cs. fields_behind end whole cs (drop k fields)) (drop_all k constants all) ∙ sym (append-nil (zeros (whole - end))) in
    all_before p home (fields_behind 0 whole constants fields) [] at (at + whole) old new refl
    (more_before p home (fields_behind 0 whole constants fields) (fields_behind end whole (drop k constants) (drop k fields)) (zeros (whole - end)) [] at (at + end) (at + whole) old between new
    begins before (laid_zeros p home (whole - end) (at + end) (at + whole) between new (omega arith) made))

-- ---- the whole

-- Constants are the elements of an array.
pub record AreElements (items : ℕ) (ty element : Ty) (constants : List Const) : Type 0 where
  pub suit : elements_suit items element constants ≡ true
  pub narrow : IsNarrow element
  pub has_size : size ty ≡ length constants * size element
  pub bytes : parts_in ty (out-Ty ty) (map initial_parts constants) ≡ elements element constants

elements_take : (items n : ℕ) (element : Ty) (constants : List Const) → takes_parts (Ty-F.Array n element) (map (suits items) constants) ≡ true → (length constants ≡ n) × (elements_suit items element constants ≡ true)
elements_take items n element constants suit =
    let facts : ((length (map (suits items) constants) == n) ≡ true) × (elements_suit items element constants ≡ true) = both (length (map (suits items) constants) == n) (elements_suit items element constants) suit in
    (sym (length-map constants (suits items)) ∙ eqb-true (length (map (suits items) constants)) n facts.0, facts.1)

pub are_elements :
    (items : ℕ) (ty : Ty) (n : ℕ) (held element : Ty) (constants : List Const) → ty ≡ Array n held → element ≡ held → IsNarrow ty → takes_parts (out-Ty ty) (map (suits items) constants) ≡ true →
    AreElements items ty element constants
are_elements items ty n held element constants is same narrow suit =
    let whole : ty ≡ Array n element = is ∙ ap (λ t. Array n t) (sym same) in
    let layer : out-Ty ty ≡ Ty-F.Array n element = ap out-Ty whole ∙ outs-Array n element in
    let e : IsArrayExtent ty n element = array_extent ty n element whole in
    let facts : (length constants ≡ n) × (elements_suit items element constants ≡ true) =
    elements_take items n element constants (sym (ap (λ x. takes_parts x (map (suits items) constants)) layer) ∙ suit) in
    record {
      suit = facts.1;
      narrow = omega (arith, e.has_width, narrow);
      has_size = e.has_size ∙ ap (λ k. k * size element) (sym facts.0);
      bytes = ap (λ x. parts_in ty x (map initial_parts constants)) layer;
    }

-- Constants are the fields of a struct.
pub record AreFields (items : ℕ) (ty : Ty) (fields : List Ty) (constants : List Const) : Type 0 where
  pub suit : each_takes (map (suits items) constants) fields ≡ true
  pub narrow : struct_width (map extent fields) < 2 ^ 31
  pub has_size : size ty ≡ struct_size (map extent fields)
  pub bytes : parts_in ty (out-Ty ty) (map initial_parts constants) ≡ fields_behind 0 (size ty) constants fields

pub are_fields :
    (items : ℕ) (ty : Ty) (held fields : List Ty) (constants : List Const) → ty ≡ Struct held → fields ≡ held → IsNarrow ty → takes_parts (out-Ty ty) (map (suits items) constants) ≡ true →
    AreFields items ty fields constants
are_fields items ty held fields constants is same narrow suit =
    let layer : out-Ty ty ≡ Ty-F.Struct fields = ap out-Ty is ∙ outs-Struct held ∙ ap (λ ts. Ty-F.Struct ts) (sym same) in
    let e : IsStructExtent ty fields = struct_extent ty held fields is same in
    record {
      suit = sym (ap (λ x. takes_parts x (map (suits items) constants)) layer) ∙ suit;
      narrow = omega (arith, e.has_width, narrow);
      has_size = e.has_size;
      bytes = ap (λ x. parts_in ty x (map initial_parts constants)) layer;
    }

pub many_suit :
    (items : ℕ) (ty : Ty) (c : Const) (held parts : List Const) → c ≡ Many held → parts ≡ held → Suits items ty c → takes_parts (out-Ty ty) (map (suits items) parts) ≡ true
many_suit items ty c held parts is same suit =
    ap (λ ps. takes_parts (out-Ty ty) (map (suits items) ps)) same ∙ sym (ap (λ k. suits items k ty) is ∙ suits-Many items held ty) ∙ suit

pub many_bytes : (ty : Ty) (c : Const) (held parts : List Const) → c ≡ Many held → parts ≡ held → parts_in ty (out-Ty ty) (map initial_parts parts) ≡ initial_parts c ty
many_bytes ty c held parts is same =
    ap (λ ps. parts_in ty (out-Ty ty) (map initial_parts ps)) same ∙ sym (ap (λ k. initial_parts k ty) is ∙ initial-Many held ty)

-- the same bytes, and the same end
pub laid_as :
    (p : ProgramData) (home : ℕ) (initial same : List InitialPart) (at end far : ℕ) (old new : List (Part Sym)) → initial ≡ same → end ≡ far → IsLaid p home initial at end old new → IsLaid p home same at far old new
laid_as p home initial same at end far old new is ends laid =
    subst (λ (i : List InitialPart). IsLaid p home i at far old new) is (subst (λ (e : ℕ). IsLaid p home initial at e old new) ends laid)

-- ---- a field

pub field_there : (items : ℕ) (constants : List Const) (fields : List Ty) (k : ℕ) → k < length constants → each_takes (map (suits items) constants) fields ≡ true → k < length fields
field_there items constants fields k within suit = omega (arith, within, takes_length items constants fields suit)

pub field_narrow : (fields : List Ty) (k : ℕ) (field : Ty) → k < length fields → field ≡ get_or fields k field → struct_width (map extent fields) < 2 ^ 31 → IsNarrow field
field_narrow fields k field has is narrow = omega (arith, greatest_width-ge fields k field has is, narrow)

-- a field and what stands before it are within the struct
pub field_within :
    (fields : List Ty) (k end offset : ℕ) (field : Ty) → k < length fields → field ≡ get_or fields k field → end_from end (map extent (drop k fields)) ≡ end_from 0 (map extent fields) →
    offset ≡ round_up end (align field) → offset + size field ≤ struct_size (map extent fields)
field_within fields k end offset field has is same rounded =
    omega (arith, rounded, end_within fields (k + 1) (round_up end (align field) + size field) (next_end fields k end field has is same))
