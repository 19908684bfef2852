-- What is known of a function of a program: it is formed, typed and definite among the items of its module, and what it names is named there.
use Rattle.std.proofs.Common.{◌≡◌, ℕ, List, length, map, All, Contains, Option, Some, slice_get, refl, sym, subst}
use Rattle.std.specs.Prelude.{false, IfSome, OnSome}
use Rattle.std.proofs.lemmas.List.Elements.{All-weaker, All-contains_itself}
use Rattle.ir_types.specs.declared.scalar.Scalar.{Scalar}
use Rattle.ir_types.proofs.ListSteps.{All-at}
use Rattle.ir_syntax.specs.declared.symbol.Sym.{Sym}
use Rattle.ir_syntax.specs.declared.body.Block.{Block}
use Rattle.ir_syntax.specs.declared.body.Body.{Body}
use Rattle.ir_syntax.specs.declared.item.Func.{Func}
use Rattle.ir_syntax.specs.declared.item.Item.{Item}
use Rattle.ir_syntax.specs.declared.item.Item.TheVariants as item
use Rattle.ir_syntax.specs.declared.item.Module.{Module}
use Rattle.ir_syntax.specs.Definite.{IsSurelyDefined, uses, block_uses, DefiniteItem, DefiniteBody}
use Rattle.ir_syntax.specs.FormedBody.{Places, places_of, FormedBlock, FormedBody}
use Rattle.ir_syntax.specs.FormedItem.{FormedFunc, FormedItem}
use Rattle.ir_syntax.specs.Named.{block_names, body_names, definition_names}
use Rattle.ir_syntax.specs.Programs.{ProgramData, IsProgram, IsSoundModule}
use Rattle.ir_syntax.specs.Results.{results}
use Rattle.ir_syntax.specs.Symbols.{item_at}
use Rattle.ir_syntax.specs.Typed.{Types, TypedBlock, TypedBody, TypedFunc, TypedItem}
use Rattle.ir_steps.proofs.Naming.{IsNamedAt, there_is}
use Rattle.ir_steps.proofs.NumberingLists.{all_within}
use Rattle.ir_steps.proofs.Numbering.{block_uses_all}

-- the types of a body's operands
abbrev pub types_of : List Item → Func → Body → Types
types_of items func body = record { items = items; params = map (λ param. param.ty) func.params; results = results body }

-- A function with a body.
pub record Sound (p : ProgramData) (symbol : Sym) (func : Func) (body : Body) : Type 0 where
  pub home : Module
  pub at : slice_get p.modules symbol.module ≡ Some home
  -- a definition isn't variadic
  pub fixed : func.variadic ≡ false
  pub formed : FormedBody home.items (length func.params) body
  pub typed : TypedBody (types_of home.items func body) func.returns body.blocks
  pub definite : All (IsSurelyDefined body.blocks) (uses body.blocks)
  pub named : All (IsNamedAt p symbol.module) (body_names body)

names_named : (p : ProgramData) (symbol : Sym) (func : Func) (body : Body) → item_at p.modules symbol ≡ Some (item.Func func) → func.body ≡ Some body → All (IsNamedAt p symbol.module) (body_names body)
names_named p symbol func body is has =
    All-weaker (Contains (body_names body)) (IsNamedAt p symbol.module)
    (λ place h. record { by = symbol; user = item.Func func; at_home = refl; stands = is; names = subst (λ o. Contains (definition_names o) place) (sym has) h })
    (body_names body) (All-contains_itself (body_names body))

pub sound : (p : ProgramData) (symbol : Sym) (func : Func) (body : Body) → IsProgram p → item_at p.modules symbol ≡ Some (item.Func func) → func.body ≡ Some body → Sound p symbol func body
sound p symbol func body program is has =
    let there = there_is p.modules symbol (item.Func func) is in
    let m = there.0 in
    let good = All-at IsSoundModule p.modules symbol.module m program.sound.sound there.1 in
    let formed : FormedFunc m.items func = All-at (FormedItem m.items) m.items symbol.item (item.Func func) good.formed.has_items there.2 in
    let typed : TypedFunc m.items func = All-at (TypedItem m.items) m.items symbol.item (item.Func func) good.typed there.2 in
    let definite : IfSome func.body DefiniteBody = All-at DefiniteItem m.items symbol.item (item.Func func) good.definite there.2 in
    record {
      home = m;
      at = there.1;
      fixed = subst (λ o. OnSome o (func.variadic ≡ false)) has formed.fixed;
      formed = subst (λ o. IfSome o (FormedBody m.items (length func.params))) has formed.has_body;
      typed = subst (λ o. IfSome o (λ body. TypedBody (types_of m.items func body) func.returns body.blocks)) has typed.has_body;
      definite = subst (λ o. IfSome o DefiniteBody) has definite;
      named = names_named p symbol func body is has;
    }

-- ---- what is known of a block

pub record SoundBlock (p : ProgramData) (home : ℕ) (types : Types) (places : Places) (returns : Option Scalar) (blocks : List Block) (place : ℕ) (block : Block) : Type 0 where
  pub formed : FormedBlock places block
  pub typed : TypedBlock types returns blocks place block
  pub definite : All (IsSurelyDefined blocks) (block_uses blocks place block)
  pub named : All (IsNamedAt p home) (block_names block)

pub sound_block : (p : ProgramData) (symbol : Sym) (func : Func) (body : Body) (s : Sound p symbol func body) (place : ℕ) (block : Block) → slice_get body.blocks place ≡ Some block
    → SoundBlock p symbol.module (types_of s.home.items func body) (places_of s.home.items (length func.params) body) func.returns body.blocks place block
sound_block p symbol func body s place block at = record {
  formed = All-at (FormedBlock (places_of s.home.items (length func.params) body)) body.blocks place block s.formed.has_blocks at;
  typed = subst (λ o. IfSome o (TypedBlock (types_of s.home.items func body) func.returns body.blocks place)) at (s.typed.each place);
  definite = block_uses_all (IsSurelyDefined body.blocks) body.blocks place block at s.definite;
  named = all_within (IsNamedAt p symbol.module) block_names body.blocks place block at s.named;
}
