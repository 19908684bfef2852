-- What instructions call by names.
use Rattle.std.proofs.Common.{◌≡◌, ◌∙◌, ℕ, ◌≤◌, List, [], ◌∷◌, ◌++◌, Option, None, Some, IsSome, length, map, refl, sym, ap, subst, arith}
use Rattle.std.specs.Prelude.{option_map}
use Rattle.std.proofs.lemmas.List.{length-map, append_assoc}
use Rattle.std.specs.List.{filter_map, cons_option}
use Rattle.std.specs.Prelude.{option_to_list}
use Rattle.ir_syntax.specs.declared.constant.Operand.{Operand}
use Rattle.ir_syntax.specs.declared.body.Arg.{Arg}
use Rattle.ir_syntax.specs.declared.body.Inst.{Inst}
use Rattle.ir_syntax.specs.Callees.{inst_callee}
use Rattle.interface.specs.Names.{inst_uses, HasFewArgs}
use Rattle.interface.specs.Summaries.{known_of}
use Rattle.winnowed_form.specs.declared.named.Named.{Named}
use Rattle.winnowed_form.specs.Basis.{Basis}
use Rattle.winnowed_form.specs.Bodies.{known_args}
use Rattle.winnowed_form.specs.Names.{call_name, inst_name}

pub named_call : (b : Basis) (home : ℕ) (inst : Inst) (k : ℕ) (args : List Arg) → inst_callee inst ≡ Some k → map (λ (arg : Arg). arg.value) args ≡ inst_uses inst → inst_name b home inst ≡ Some (call_name b home (k, known_args args))
named_call b home inst k args callee uses =
    ap (λ o. option_map (call_name b home) (option_map (λ place. (place, map (known_of (record { known = [] }) []) (inst_uses inst))) o)) callee
    ∙ ap (λ l. Some (call_name b home (k, map (known_of (record { known = [] }) []) l))) (sym uses)

pub no_call : (b : Basis) (home : ℕ) (inst : Inst) → inst_callee inst ≡ None → inst_name b home inst ≡ None
no_call b home inst none = ap (λ o. option_map (call_name b home) (option_map (λ place. (place, map (known_of (record { known = [] }) []) (inst_uses inst))) o)) none

pub few_args : (inst : Inst) (k : ℕ) (args : List Arg) → HasFewArgs inst → inst_callee inst ≡ Some k → map (λ (arg : Arg). arg.value) args ≡ inst_uses inst → length args ≤ 32
few_args inst k args few callee uses = omega (arith, few (subst IsSome (sym callee) refl), ap length uses, length-map args (λ (arg : Arg). arg.value))

-- one more instruction was looked at
pub calls_next : {X Y : Type 0} (f : X → Option Y) (names next whole : List Y) (x : X) (rest more : List X) → rest ≡ x ∷ more → names ++ filter_map f rest ≡ whole → next ≡ names ++ option_to_list (f x) → next ++ filter_map f more ≡ whole
calls_next f names next whole x rest more is so pushed =
    ap (λ l. l ++ filter_map f more) pushed ∙ append_assoc names (option_to_list (f x)) (filter_map f more) ∙ ap (λ l. names ++ l) (by (f x) ∙ ap (filter_map f) (sym is)) ∙ so
  where
    by : (o : Option _) → option_to_list o ++ filter_map f more ≡ cons_option o (filter_map f more)
    by None = refl
    by (Some y) = refl
