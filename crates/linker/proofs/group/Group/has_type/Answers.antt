use Rattle.std.proofs.Common.{◌≡◌, refl, subst, List, MatchBool}
use Rattle.std.specs.List.{All}
use Rattle.ir_syntax.specs.declared.symbol.Sym.{Sym}
use Rattle.linker.specs.Mirrors.Groups.{HasOtherType}
use Rattle.linker.proofs.Judging.{type_at, types_more}
use Rattle.linker.proofs.group.Group.has_type.Goals as goal

pub returns-then-has_type_at : goal.returns-then-has_type_at
returns-then-has_type_at c =
    types_more c.args.modules.now c.args.ty.now c.args.self.now.first c.args.self.now.others c.have_type.result (c.if-has_type_at.ensures.0 refl)
    (subst (λ (xs : List Sym). MatchBool c.have_type.result (All (λ (s : Sym). type_at c.args.modules.now s ≡ c.args.ty.now) xs) (HasOtherType c.args.modules.now c.args.ty.now xs)) c.as_slice.ensures c.have_type.ensures)
