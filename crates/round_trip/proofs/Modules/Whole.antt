-- A formed module in range is spelled by its canonical text, and no other such module has that text.
use Rattle.std.proofs.Common.{◌≡◌, ℕ, List, length, sym, subst}
use Rattle.ir_syntax.specs.declared.item.Module.{Module}
use Rattle.ir_syntax.specs.Formed.{Formed}
use Rattle.ir_syntax.specs.FormedBody.{Places, places_of}
use Rattle.ir_parser.specs.Spelled.{Spells}
use Rattle.ir_writer.specs.Modules.{item_names, module_text}
use Rattle.ir_writer.specs.Ranges.{InRange}
use Rattle.round_trip.proofs.Grammar.Types.{type_goes, type_clean}
use Rattle.round_trip.proofs.Grammar.Constants.{constant_goes, constant_clean}
use Rattle.round_trip.proofs.Grammar.Operands.{AreNames, are_names}
use Rattle.round_trip.proofs.Grammar.Instructions.{inst_takes, bare_takes, inst_clean, phi_takes, phi_clean, term_takes, term_clean}
use Rattle.round_trip.proofs.Entities.Split.{WalkIsDerived}
use Rattle.round_trip.proofs.Entities.Modules.{ValuesGo, LinesGo, module_is_split}
use Rattle.round_trip.proofs.Modules.Again.{are_bytes, are_plain, module_again}
use Rattle.round_trip.proofs.Tokens.Modules.{module_is_readable}
use Rattle.round_trip.proofs.Modules.Texts.{text_spells}

module _ (names : List (List ℕ)) (are : AreNames names) where
  values_go : (items : ℕ) → ValuesGo names items
  values_go items = record {
    ty = λ ty small next. type_goes ty next small;
    constant = λ ty c suit small range next. constant_goes names are.read items c ty next suit small;
    plain_ty = type_clean;
    plain_constant = λ ty c suit small. constant_clean names are.read items c ty suit small;
  }

  lines_go : (places : Places) → LinesGo names places
  lines_go places = record {
    phi = λ phi formed range. phi_takes names are places phi formed;
    value = inst_takes names are places;
    effect = λ i formed range none phis next. bare_takes names are places phis i formed none next;
    term = λ t formed range. term_takes names are places t formed;
    plain_phi = phi_clean names are places;
    plain_inst = inst_clean names are places;
    plain_term = term_clean names are places;
  }

pub written_again : WalkIsDerived → (m : Module) → Formed m → InRange m → Spells (module_text m) m
written_again derived m formed range =
    let names : List (List ℕ) = item_names m in
    let are = are_names names (are_bytes m range) (are_plain m formed) in
    text_spells m (module_is_readable m)
    (module_is_split derived m formed range (values_go names are (length m.items)) (λ params body. lines_go names are (places_of m.items params body)))
    (module_again m formed range)

-- A text spells one module at most, and a text that was written spells the module.
abbrev SpellsOne : Type 0
SpellsOne = (text : List ℕ) (m n : Module) → Spells text m → Spells text n → m ≡ n

abbrev IsReadAgain : Type 0
IsReadAgain = (m : Module) → Formed m → InRange m → Spells (module_text m) m

pub one_text : SpellsOne → IsReadAgain → (m n : Module) → Formed m → InRange m → Formed n → InRange n → module_text m ≡ module_text n → m ≡ n
one_text one again m n formed range formed_too range_too e = one (module_text m) m n (again m formed range) (subst (λ text. Spells text n) (sym e) (again n formed_too range_too))
