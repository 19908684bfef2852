-- The tokens of a module split into its targets and items.
use Rattle.std.proofs.Common.{◌≡◌, ◌∙◌, ℕ, true, codes, List, [], ◌∷◌, ◌++◌, length, map, flat_map, Option, Some, None, All, refl, sym, ap, subst, drop_at}
use Rattle.std.proofs.lemmas.List.Elements.{All-head, All-tail}
use Rattle.ir_lexer.specs.Written.{spellings_of}
use Rattle.ir_syntax.specs.Formed.{Formed}
use Rattle.ir_syntax.specs.declared.item.Item.{Item}
use Rattle.ir_syntax.specs.declared.item.Module.{Module}
use Rattle.ir_grammar.specs.declared.shape.Free.TheVariants as free
use Rattle.ir_grammar.specs.declared.shape.Shape.TheVariants as is
use Rattle.ir_grammar.specs.declared.grammar.Item.TheVariants as item
use Rattle.ir_grammar.specs.declared.grammar.Name.{Name}
use Rattle.ir_grammar.specs.declared.grammar.Name.TheVariants as the
use Rattle.ir_grammar.specs.Tokens.{Piece, Kept}
use Rattle.ir_grammar.specs.Derives.{IsDerived}
use Rattle.ir_grammar.specs.Mirrors.Walk.{walk}
use Rattle.ir_parser.specs.Spelled.{Entity, Splits, kept_of}
use Rattle.ir_writer.specs.Names.{quoted}
use Rattle.ir_writer.specs.Words.{Parts}
use Rattle.ir_writer.specs.Modules.{target_parts, item_names, item_parts, module_parts}
use Rattle.ir_writer.specs.Ranges.{InRange}
use Rattle.round_trip.proofs.Grammar.Kept.{Lexemes, target_kept, item_kept, module_kept}
use Rattle.round_trip.proofs.Grammar.Walking.{Takes, entity}
use Rattle.round_trip.proofs.Grammar.Goes.{spellings_append, is_quiet_or_none, walk_goes}
use Rattle.round_trip.proofs.Entities.Plain.{IsPlain, PlainItem, item_plain}
use Rattle.round_trip.proofs.Entities.Items.{ItemGoes, item_takes, item_quiet}
use Rattle.round_trip.proofs.Entities.Variables.{layout_takes, triple_takes}

-- an entity of which this is written, and this kept
abbrev entity_of : Parts → Lexemes → Entity
entity_of parts kept = (kept, length (spellings_of parts))

abbrev IsQuiet : Parts → Type 0
IsQuiet parts = is_quiet_or_none (spellings_of parts) ≡ true

-- What the walk over tokens takes is derived.
abbrev pub WalkIsDerived : Type 0
WalkIsDerived = (start : Name) (pieces : List Piece) (kept : List Kept) (taken : ℕ) → walk (item.One start ∷ []) pieces ≡ Some (kept, taken) → IsDerived start pieces kept taken

-- The grammar takes what is written of it.
record IsEntity (parts : Parts) (kept : Lexemes) : Type 0 where
  takes : Takes entity (spellings_of parts) kept []
  plain : IsPlain parts

-- an entity, and others behind it
in_front : WalkIsDerived → (parts : Parts) (kept : Lexemes) (rest : Parts) (es : List Entity) → IsEntity parts kept → IsQuiet rest → Splits (spellings_of rest) es [] → Splits (spellings_of (parts ++ rest)) (entity_of parts kept ∷ es) []
in_front derived parts kept rest es h quiet s =
    subst (λ (ps : List Piece). Splits ps (entity_of parts kept ∷ es) []) (sym (spellings_append parts rest)) (
      derived the.Entity (spellings_of parts ++ spellings_of rest) kept (length (spellings_of parts)) (walk_goes entity (spellings_of parts) (spellings_of rest) kept h.plain h.takes quiet),
      subst (λ (ps : List Piece). Splits ps es []) (sym (drop_at (spellings_of parts) (spellings_of rest) (length (spellings_of parts)) refl)) s,
    )

-- ---- items

module _ (names : List (List ℕ)) where
  abbrev item_entity : Item → Entity
  item_entity i = entity_of (item_parts names i) (item_kept names i)

  abbrev IsTaken : Item → Type 0
  IsTaken i = IsEntity (item_parts names i) (item_kept names i)

  items_quiet : (items : List Item) → IsQuiet (flat_map (item_parts names) items)
  items_quiet [] = refl
  items_quiet (i ∷ items) = ap is_quiet_or_none (spellings_append (item_parts names i) (flat_map (item_parts names) items)) ∙ stays (spellings_of (item_parts names i)) (item_quiet names i) (items_quiet items)
    where
      stays : (pieces : List Piece) → is_quiet_or_none pieces ≡ true → is_quiet_or_none (spellings_of (flat_map (item_parts names) items)) ≡ true → is_quiet_or_none (pieces ++ spellings_of (flat_map (item_parts names) items)) ≡ true
      stays [] first others = others
      stays (piece ∷ pieces) first others = first

  items_split : WalkIsDerived → (items : List Item) → All IsTaken items → Splits (spellings_of (flat_map (item_parts names) items)) (map item_entity items) []
  items_split derived [] all = refl
  items_split derived (i ∷ items) all =
      in_front derived (item_parts names i) (item_kept names i) (flat_map (item_parts names) items) (map item_entity items) (All-head IsTaken i items all) (items_quiet items) (items_split derived items (All-tail IsTaken i items all))

  items_kept : (items : List Item) → kept_of (map item_entity items) ≡ map (item_kept names) items
  items_kept [] = refl
  items_kept (i ∷ items) = ap (λ ks. item_kept names i ∷ ks) (items_kept items)

-- ---- targets

abbrev layout_entities : Option (List ℕ) → List Entity
layout_entities layout = map (entity_of (target_parts (codes "datalayout") layout)) (target_kept (is.Free free.Datalayout, codes "datalayout") layout)

abbrev triple_entities : Option (List ℕ) → List Entity
triple_entities triple = map (entity_of (target_parts (codes "triple") triple)) (target_kept (is.Free free.Triple, codes "triple") triple)

layout_split : WalkIsDerived → (layout : Option (List ℕ)) (rest : Parts) (es : List Entity) → IsQuiet rest → Splits (spellings_of rest) es [] → Splits (spellings_of (target_parts (codes "datalayout") layout ++ rest)) (layout_entities layout ++ es) []
layout_split derived None rest es quiet s = s
layout_split derived (Some text) rest es quiet s = in_front derived (target_parts (codes "datalayout") (Some text)) _ rest es (record { takes = layout_takes text; plain = refl }) quiet s

triple_split : WalkIsDerived → (triple : Option (List ℕ)) (rest : Parts) (es : List Entity) → IsQuiet rest → Splits (spellings_of rest) es [] → Splits (spellings_of (target_parts (codes "triple") triple ++ rest)) (triple_entities triple ++ es) []
triple_split derived None rest es quiet s = s
triple_split derived (Some text) rest es quiet s = in_front derived (target_parts (codes "triple") (Some text)) _ rest es (record { takes = triple_takes text; plain = refl }) quiet s

triple_quiet : (triple : Option (List ℕ)) (rest : Parts) → IsQuiet rest → IsQuiet (target_parts (codes "triple") triple ++ rest)
triple_quiet None rest quiet = quiet
triple_quiet (Some text) rest quiet = refl

-- ---- the module

abbrev pub module_entities : Module → List Entity
module_entities m = layout_entities m.layout ++ (triple_entities m.triple ++ map (item_entity (item_names m)) m.items)

pub module_splits : WalkIsDerived → (m : Module) → Formed m → InRange m → All (ItemGoes (item_names m)) m.items → All (PlainItem (item_names m)) m.items → Splits (spellings_of (module_parts m)) (module_entities m) []
module_splits derived m formed range items_go plain =
    let names : List (List ℕ) = item_names m in
    let items : Parts = flat_map (item_parts names) m.items in
    let taken : All (IsTaken names) m.items =
    λ k d less. record { takes = item_takes names m.items _ (formed.has_items k d less) (range.items k d less) (items_go k d less); plain = item_plain names _ (plain k d less) } in
    layout_split derived m.layout (target_parts (codes "triple") m.triple ++ items) (triple_entities m.triple ++ map (item_entity names) m.items) (triple_quiet m.triple items (items_quiet names m.items))
    (triple_split derived m.triple items (map (item_entity names) m.items) (items_quiet names m.items) (items_split names derived m.items taken))

pub module_entities_kept : (m : Module) → kept_of (module_entities m) ≡ module_kept m
module_entities_kept m = by_layout m.layout
  where
    by_triple : (triple : Option (List ℕ)) → kept_of (triple_entities triple ++ map (item_entity (item_names m)) m.items) ≡ target_kept (is.Free free.Triple, codes "triple") triple ++ map (item_kept (item_names m)) m.items
    by_triple None = items_kept (item_names m) m.items
    by_triple (Some text) = ap (λ ks. ((is.Free free.Triple, codes "triple") ∷ (is.Str, quoted text) ∷ []) ∷ ks) (items_kept (item_names m) m.items)

    by_layout : (layout : Option (List ℕ)) →
        kept_of (layout_entities layout ++ (triple_entities m.triple ++ map (item_entity (item_names m)) m.items))
        ≡ target_kept (is.Free free.Datalayout, codes "datalayout") layout ++ (target_kept (is.Free free.Triple, codes "triple") m.triple ++ map (item_kept (item_names m)) m.items)
    by_layout None = by_triple m.triple
    by_layout (Some text) = ap (λ ks. ((is.Free free.Datalayout, codes "datalayout") ∷ (is.Str, quoted text) ∷ []) ∷ ks) (by_triple m.triple)
