use Rattle.std.proofs.Common.{◌≡◌, ◌∙◌, List, [], ◌++◌, All, map, ap, sym, subst}
use Rattle.std.specs.Prelude.{flat_map, IsPermutation}
use Rattle.winnowed_form.specs.declared.named.Named.{Named}
use Rattle.winnowed_form.specs.Names.{uses}
use Rattle.reach_prune.specs.declared.declared.Declared.{Declared}
use Rattle.reach_prune.specs.Mirrors.Members.{IsThere}
use Rattle.reach_prune.specs.Mirrors.Noting.{noted_all}
use Rattle.reach_prune.specs.Mirrors.Places.{HasRow, ArePlaced}
use Rattle.reach_prune.specs.Mirrors.Shown.{shown}
use Rattle.reach_prune.proofs.Winnowing.{noted_there, all_rows, winnowed_is}
use Rattle.reach_prune.proofs.modules.winnowed_module.Goals as goal

pub declared_in_order-requires : goal.declared_in_order-requires
declared_in_order-requires c =
    let b = shown c.args.g.now in
    let defined = c.in_ok-notes.notes.defined in
    let rows : All HasRow defined = subst (All HasRow) (sym c.in_ok-notes.ensures.defined) c.in_ok-names_of.ensures.short in
    let noted_is : c.note_members.new.self.declared ≡ noted_all defined [] (flat_map (uses b c.args.home) c.args.members.now) =
    c.in_ok-note_members.ensures.declared ∙ ap (λ l. noted_all defined l (flat_map (uses b c.args.home) c.args.members.now)) c.in_ok-notes.ensures.none in
    record { there = subst (All (IsThere b c.args.home)) (sym c.as_slice.ensures) (noted_there b c.args.home c.args.members.now defined c.note_members.new.self.declared noted_is rows c.requires.writable) }

pub places_of_names-requires : goal.places_of_names-requires
places_of_names-requires c =
    let b = shown c.args.g.now in
    let defined = c.in_ok-notes.notes.defined in
    let declared = c.in_ok-declared.declared.items in
    let rows : All HasRow defined = subst (All HasRow) (sym c.in_ok-notes.ensures.defined) c.in_ok-names_of.ensures.short in
    let noted_is : c.note_members.new.self.declared ≡ noted_all defined [] (flat_map (uses b c.args.home) c.args.members.now) =
    c.in_ok-note_members.ensures.declared ∙ ap (λ l. noted_all defined l (flat_map (uses b c.args.home) c.args.members.now)) c.in_ok-notes.ensures.none in
    let moved : IsPermutation c.note_members.new.self.declared (map (λ (x : Declared). x.named) declared) =
    subst (λ (l : List Named). IsPermutation l (map (λ (x : Declared). x.named) declared)) c.as_slice.ensures c.in_ok-declared.ensures.named in
    let names_are : c.in_ok-names.names ≡ defined ++ map (λ (x : Declared). x.named) declared =
    c.in_ok-names.ensures
    ∙ ap (λ l. l ++ map (λ (x : Declared). x.named) c.as_slice-2.result.now) (c.into_defined.ensures ∙ c.in_ok-note_members.ensures.defined)
    ∙ ap (λ l. defined ++ map (λ (x : Declared). x.named) l) c.as_slice-2.ensures.value in
    record {
      short = subst (All HasRow) (sym c.as_slice-3.ensures)
          (all_rows b c.args.home c.args.members.now defined c.note_members.new.self.declared declared c.in_ok-names.names c.requires.writable rows noted_is moved names_are);
    }

pub returns : goal.returns
returns c =
    let b = shown c.args.g.now in
    let defined = c.in_ok-notes.notes.defined in
    let declared = c.in_ok-declared.declared.items in
    let rows : All HasRow defined = subst (All HasRow) (sym c.in_ok-notes.ensures.defined) c.in_ok-names_of.ensures.short in
    let noted_is : c.note_members.new.self.declared ≡ noted_all defined [] (flat_map (uses b c.args.home) c.args.members.now) =
    c.in_ok-note_members.ensures.declared ∙ ap (λ l. noted_all defined l (flat_map (uses b c.args.home) c.args.members.now)) c.in_ok-notes.ensures.none in
    let moved : IsPermutation c.note_members.new.self.declared (map (λ (x : Declared). x.named) declared) =
    subst (λ (l : List Named). IsPermutation l (map (λ (x : Declared). x.named) declared)) c.as_slice.ensures c.in_ok-declared.ensures.named in
    let names_are : c.in_ok-names.names ≡ defined ++ map (λ (x : Declared). x.named) declared =
    c.in_ok-names.ensures
    ∙ ap (λ l. l ++ map (λ (x : Declared). x.named) c.as_slice-2.result.now) (c.into_defined.ensures ∙ c.in_ok-note_members.ensures.defined)
    ∙ ap (λ l. defined ++ map (λ (x : Declared). x.named) l) c.as_slice-2.ensures.value in
    let placed : ArePlaced c.in_ok-names.names c.in_ok-places.places = subst (λ (l : List Named). ArePlaced l c.in_ok-places.places) c.as_slice-3.ensures c.in_ok-places.ensures in
    winnowed_is b c.args.home c.args.members.now c.args.module.now (record { layout = c.in_ok-copied.field-0; triple = c.in_ok-copied-2.field-0; items = c.in_ok-with_declared.field-0 }) defined c.note_members.new.self.declared declared
    c.in_ok-names.names c.in_ok-places.places c.in_ok-items.items c.requires.writable (c.in_ok-notes.ensures.defined ∙ c.in_ok-names_of.ensures.names) rows noted_is moved c.in_ok-declared.ensures.items c.in_ok-declared.ensures.order names_are placed
    c.in_ok-items.ensures c.in_ok-copied.ensures c.in_ok-copied-2.ensures c.in_ok-with_declared.ensures
