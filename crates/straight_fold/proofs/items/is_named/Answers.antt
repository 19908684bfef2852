use Rattle.std.proofs.Common.{◌≡◌, ℕ, ◌+◌, ◌<◌, Bool, ◌||◌, List, [], ◌∷◌, length, drop, ap, sym, ◌∙◌, arith}
use Rattle.std.specs.Prelude.{slice_get}
use Rattle.std.specs.List.{list_any}
use Rattle.std.proofs.lemmas.List.{at_drop_more}
use Rattle.std.proofs.lemmas.Option.{slice_get-get_or}
use Rattle.ir_syntax.specs.declared.item.Item.{Item}
use Rattle.ir_syntax.specs.declared.body.Inst.{Inst}
use Rattle.straight_plan.specs.Asked.{insts_at, is_named, names_place}
use Rattle.straight_fold.proofs.items.is_named.Goals as goal

first-named : (items : List Item) (place k : ℕ) (d : Item) → k < length items → is_named (drop k items) place ≡ (list_any (names_place place) (insts_at (slice_get items k)) || is_named (drop (k + 1) items) place)
first-named items place k d within =
    at_drop_more (λ (xs : List Item). is_named xs place) items k d within
    ∙ ap (λ (o : _). list_any (names_place place) (insts_at o) || is_named (drop (k + 1) items) place) (sym (slice_get-get_or items k d within))

-- an item of the list
some-item : (items : List Item) (k : ℕ) → k < length items → Item
some-item [] k within = absurd (omega (arith, within))
some-item (i ∷ is) k within = i

at-insts : (items : List Item) (place k : ℕ) (insts : List Inst) (b : Bool) → k < length items → insts ≡ insts_at (slice_get items k) → b ≡ list_any (names_place place) insts
    → is_named (drop k items) place ≡ (b || is_named (drop (k + 1) items) place)
at-insts items place k insts b within is e =
    first-named items place k (some-item items k within) within
    ∙ ap (λ (c : Bool). c || is_named (drop (k + 1) items) place) (sym (e ∙ ap (list_any (names_place place)) is))

pub returns-then-any_names : goal.returns-then-any_names
returns-then-any_names c =
    let here = at-insts c.args.items.now c.args.place c.loop-k.k c.insts_at.result.now c.any_names.result (omega arith) c.insts_at.ensures c.any_names.ensures in
    ap (λ (b : Bool). b || is_named (drop (c.loop-k.k + 1) c.args.items.now) c.args.place) (sym c.if-any_names.true) ∙ sym here ∙ c.loop-k.invariant

pub loop-k-preserved : goal.loop-k-preserved
loop-k-preserved c =
    let here = at-insts c.args.items.now c.args.place c.loop-k.k c.insts_at.result.now c.any_names.result (omega arith) c.insts_at.ensures c.any_names.ensures in
    ap (λ (b : Bool). b || is_named (drop (c.loop-k.k + 1) c.args.items.now) c.args.place) (sym c.if-any_names.false) ∙ sym here ∙ c.loop-k.invariant
