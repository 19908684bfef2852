-- An address behind its flag.
use Rattle.std.proofs.Common.{◌≡◌, ◌∙◌, ℕ, Bool, List, drop, Option, ap}
use Rattle.ir_syntax.specs.declared.body.Inst.{Inst}
use Rattle.ir_grammar.specs.Tokens.{Kept}
use Rattle.ir_scope.specs.Runs.{behind}
use Rattle.ir_operands.specs.Operands.{Names, inbounds_at}
use Rattle.ir_insts.specs.Insts.{gep_at}
use Rattle.ir_insts.specs.Mirrors.Shaped.{indexed_at}

pub gep_is : (names : Names) (ks rest : List Kept) (b : Bool × ℕ) (o : Option (Inst × ℕ)) → b ≡ inbounds_at ks → rest ≡ drop b.1 ks → o ≡ indexed_at names b.0 rest → behind b.1 o ≡ gep_at names ks
gep_is names ks rest b o e r f = ap (behind b.1) (f ∙ ap (indexed_at names b.0) r) ∙ ap (λ (x : Bool × ℕ). behind x.1 (indexed_at names x.0 (drop x.1 ks))) e
