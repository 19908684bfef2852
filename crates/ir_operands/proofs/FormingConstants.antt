-- A constant that is read suits its type.
use Rattle.std.proofs.Common.{◌≡◌, ℕ, List, length, Option, Some, None, refl}
use Rattle.ir_types.specs.declared.shape.Ty.{Ty}
use Rattle.ir_syntax.specs.declared.constant.Const.{Const}
use Rattle.ir_syntax.specs.Suits.{Suits}
use Rattle.ir_grammar.specs.Tokens.{Kept}
use Rattle.ir_scope.specs.Scopes.{Env}
use Rattle.ir_constants.specs.Constants.{constant_at}
use Rattle.ir_constants.proofs.Suiting.{constant_suits}
use Rattle.ir_operands.proofs.FormingReadings.{IsRead}

pub constant-suits : (env : Env) (ty : Ty) (ks : List Kept) → IsRead (Suits (length env.symbols) ty) (constant_at env ty ks)
constant-suits env ty ks = cases (constant_at env ty ks) refl
  where
    cases : (found : Option (Const × ℕ)) → constant_at env ty ks ≡ found → IsRead (Suits (length env.symbols) ty) found
    cases None e = tt
    cases (Some f) e = constant_suits env ty ks f e
