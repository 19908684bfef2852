-- What a small world has written, one call after another.
use Rattle.std.proofs.Common.{◌≡◌, ◌∙◌, ℕ, ◌^◌, ◌-◌, ◌≤◌, ◌<◌, List, [], ◌∷◌, ◌++◌, length, take, drop, Option, Some, None, Ok, Err, refl, sym, ap, subst, arith, append_assoc, append-nil}
use Rattle.std.proofs.lemmas.List.{take-append-drop, take_all}
use Rattle.occam_base.specs.declared.fault.Failed.{Failed}
use Rattle.occam_base.specs.declared.fault.Fault.{Fault}
use Rattle.occam_base.specs.Streams.{Takes, SourceOf, SinkOf}
use Rattle.session_runs.specs.Tiny.{Appends, Written, ByteFrom, ReadFrom, TinyData, BreaksAt}

-- ---- what is written

pub writes_none : (taken : Option (List ℕ)) (pending : List ℕ) → Written taken taken pending pending []
writes_none None pending = tt
writes_none (Some taken) pending = record { more = []; taken_is = sym (append-nil taken); waits_is = append-nil pending }

one_more : (taken now again pending waits : List ℕ) (n : ℕ) → Appends taken now pending waits [] → again ≡ now ++ take n waits → Appends taken again pending (drop n waits) []
one_more taken now again pending waits n so e = record {
  more = so.more ++ take n waits;
  taken_is = e ∙ ap (λ s. s ++ take n waits) so.taken_is ∙ append_assoc taken so.more (take n waits);
  waits_is = so.waits_is ∙ ap (λ s. so.more ++ s) (sym (take-append-drop n waits)) ∙ sym (append_assoc so.more (take n waits) (drop n waits));
}

-- the sink takes some of what waits
pub writes_more : (taken now again : Option (List ℕ)) (pending waits : List ℕ) (n : ℕ) → Written taken now pending waits [] → SinkOf now again waits (Ok n) → Written taken again pending (drop n waits) []
writes_more None None None pending waits n so e = tt
writes_more None None (Some again) pending waits n so e = e
writes_more None (Some now) again pending waits n so e = absurd so
writes_more (Some taken) None again pending waits n so e = absurd so
writes_more (Some taken) (Some now) None pending waits n so e = e
writes_more (Some taken) (Some now) (Some again) pending waits n so e = one_more taken now again pending waits n so e

-- or fails
pub writes_fault : (taken now again : Option (List ℕ)) (pending waits : List ℕ) (f : Fault) → Written taken now pending waits [] → SinkOf now again waits (Err f) → Written taken again pending waits []
writes_fault None None None pending waits f so e = tt
writes_fault None None (Some again) pending waits f so e = e
writes_fault None (Some now) again pending waits f so e = absurd so
writes_fault (Some taken) None again pending waits f so e = absurd so
writes_fault (Some taken) (Some now) None pending waits f so e = e
writes_fault (Some taken) (Some now) (Some again) pending waits f so e = record { more = so.more; taken_is = e ∙ so.taken_is; waits_is = so.waits_is }

-- or takes nothing
pub writes_stuck : (taken now again : Option (List ℕ)) (pending waits : List ℕ) → Written taken now pending waits [] → SinkOf now again waits (Ok 0) → Written taken again pending waits []
writes_stuck None None None pending waits so e = tt
writes_stuck None None (Some again) pending waits so e = e
writes_stuck None (Some now) again pending waits so e = absurd so
writes_stuck (Some taken) None again pending waits so e = absurd so
writes_stuck (Some taken) (Some now) None pending waits so e = e
writes_stuck (Some taken) (Some now) (Some again) pending waits so e = record { more = so.more; taken_is = e ∙ append-nil now ∙ so.taken_is; waits_is = so.waits_is }

-- a text that waits behind what waited
pub waits_behind : (taken : Option (List ℕ)) (pending waits text : List ℕ) → waits ≡ pending ++ text → Written taken taken pending waits text
waits_behind None pending waits text e = tt
waits_behind (Some taken) pending waits text e = record { more = []; taken_is = sym (append-nil taken); waits_is = sym e }

-- and then goes on its way
pub goes_behind : (taken now : Option (List ℕ)) (pending with_text waits text : List ℕ) → with_text ≡ pending ++ text → Written taken now with_text waits [] → Written taken now pending waits text
goes_behind None None pending with_text waits text e so = tt
goes_behind None (Some now) pending with_text waits text e so = absurd so
goes_behind (Some taken) None pending with_text waits text e so = absurd so
goes_behind (Some taken) (Some now) pending with_text waits text e so = record {
  more = so.more;
  taken_is = so.taken_is;
  waits_is = sym e ∙ sym (append-nil with_text) ∙ so.waits_is;
}

-- ---- what a failure leaves

-- nothing of the text
pub breaks_before : (text : List ℕ) (left taken : Option (List ℕ)) (pending : List ℕ)
    → BreaksAt text (record { left = left; taken = taken; pending = pending }) (record { left = left; taken = taken; pending = pending })
breaks_before text left taken pending = record { many = 0; written = writes_none taken pending; left_is = refl }

-- all of it
pub breaks_behind : (text : List ℕ) (w u : TinyData) → Written w.taken u.taken w.pending u.pending text → u.left ≡ w.left → BreaksAt text w u
breaks_behind text w u so e = record {
  many = length text;
  written = subst (λ t. Written w.taken u.taken w.pending u.pending t) (sym (take_all (length text) text (omega arith))) so;
  left_is = e;
}

-- ---- what is read

pub left_same : (left rest : Option (List ℕ)) (before now : List ℕ) (f : Failed) → SourceOf left rest before now (Err f) → rest ≡ left
left_same None None before now f so = refl
left_same None (Some rest) before now f so = absurd so
left_same (Some left) None before now f so = absurd so
left_same (Some left) (Some rest) before now f so = ap (λ (l : List ℕ). Some l) so

at_end : (left rest before now : List ℕ) → 0 < length before → Takes left rest before now 0 → ByteFrom left rest (2 ^ 32 - 1)
at_end [] rest before now room so = (so.rest_is, refl)
at_end (byte ∷ left) rest before now room so = absurd (let some : 0 < 0 = so.some room (omega arith) in omega (arith, some))

pub reads_end : (left rest : Option (List ℕ)) (before now : List ℕ) → 0 < length before → SourceOf left rest before now (Ok 0) → ReadFrom left rest (2 ^ 32 - 1)
reads_end None None before now room so = tt
reads_end None (Some rest) before now room so = absurd so
reads_end (Some left) None before now room so = absurd so
reads_end (Some left) (Some rest) before now room so = at_end left rest before now room so

head_is : (x y : ℕ) → x ∷ [] ≡ y ∷ [] → x ≡ y
head_is x y e = cc

from_front : (left rest before : List ℕ) (x : ℕ) → Takes left rest before (x ∷ []) 1 → ByteFrom left rest x
from_front [] rest before x so = absurd (let none : 1 ≤ 0 = so.within in omega (arith, none))
from_front (byte ∷ left) rest before x so = (so.rest_is, head_is x byte so.bytes)

pub reads_one : (left rest : Option (List ℕ)) (before : List ℕ) (x : ℕ) → SourceOf left rest before (x ∷ []) (Ok 1) → ReadFrom left rest x
reads_one None None before x so = tt
reads_one None (Some rest) before x so = absurd so
reads_one (Some left) None before x so = absurd so
reads_one (Some left) (Some rest) before x so = from_front left rest before x so
