-- What a program has for each of its items.
use Rattle.std.proofs.Common.{◌≡◌, List, Option, None, Some, IsSome, refl, sym, subst}
use Rattle.std.proofs.lemmas.Bool.{false≢true}
use Rattle.ir_syntax.specs.declared.symbol.Sym.{Sym}
use Rattle.ir_syntax.specs.declared.item.Item.{Item}
use Rattle.ir_syntax.specs.declared.item.Module.{Module}
use Rattle.ir_syntax.specs.Symbols.{item_at}
use Rattle.ir_syntax.specs.Targets.{entry_at, HasEntry, AreEntries}

there : {A : Type 0} (entries : List (List A)) (symbol : Sym) (Is : Item → A → Type 0) (found : Option Item) → ((one : Item) → found ≡ Some one → HasEntry A entries symbol (Is one)) → IsSome found → IsSome (entry_at entries symbol)
there entries symbol Is None each is = absurd (false≢true is)
there {A} entries symbol Is (Some one) each is = let has = each one refl in subst (λ (x : Option A). IsSome x) (sym has.stands) refl

-- Where an item is, its entry is.
pub entry-there : {A : Type 0} (modules : List Module) (entries : List (List A)) (symbol : Sym) (Is : Sym → Item → A → Type 0) → AreEntries A modules Is entries → IsSome (item_at modules symbol) → IsSome (entry_at entries symbol)
entry-there modules entries symbol Is all is = there entries symbol (Is symbol) (item_at modules symbol) (all.each symbol) is
