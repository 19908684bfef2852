use Rattle.std.proofs.Common.{◌≡◌, ◌∙◌, List, All, ap, sym, subst}
use Rattle.ir_syntax.specs.Programs.{ProgramData, IsProgram}
use Rattle.demands.specs.Order.{symbol_of}
use Rattle.demands.specs.Rows.{IsShortSymbol}
use Rattle.winnowed_form.specs.declared.member.Member.{Member}
use Rattle.winnowed_form.specs.Basis.{Basis, basis}
use Rattle.winnowed_form.specs.Clashes.{AreFree, copy_names}
use Rattle.winnowed_form.specs.Winnowed.{IsWinnowedOf}
use Rattle.reach_prune.specs.Mirrors.Shown.{shown}
use Rattle.reach_prune.proofs.Pieces.{members_short, members_writable}
use Rattle.reach_prune.proofs.assembling.assembled.Goals as goal

pub check_names-requires : goal.check_names-requires
check_names-requires c = record {
  short = subst (λ (l : List Member). All (λ (member : Member). IsShortSymbol (symbol_of member.demand)) l) (sym c.as_slice.ensures.value)
      (members_short c.args.p.now c.args.pieces c.in-Ok-members_of.members.items c.in-Ok-members_of.ensures);
}

pub winnowed-requires : goal.winnowed-requires
winnowed-requires c =
    let same : c.in-Ok.g.program.now ≡ c.args.p.now = ap (λ (b : Basis). b.program) c.in-Ok.ensures.basis in
    record {
      writable = members_writable (shown c.in-Ok.g) c.args.p.now c.args.pieces c.in-Ok-members_of.members.items same (subst IsProgram same c.check_names.ensures.program) c.requires.pieces c.in-Ok-members_of.ensures;
    }

pub returns-in-Ok-winnowed-clause-program : goal.returns-in-Ok-winnowed-clause-program
returns-in-Ok-winnowed-clause-program c =
    let same : c.in-Ok.g.program.now ≡ c.args.p.now = ap (λ (b : Basis). b.program) c.in-Ok.ensures.basis in
    subst IsProgram same c.check_names.ensures.program

pub returns-in-Ok-winnowed-clause-winnowed : goal.returns-in-Ok-winnowed-clause-winnowed
returns-in-Ok-winnowed-clause-winnowed c =
    let same : c.in-Ok.g.program.now ≡ c.args.p.now = ap (λ (b : Basis). b.program) c.in-Ok.ensures.basis in
    let free : AreFree c.in-Ok.g.program.now.modules (copy_names (shown c.in-Ok.g) c.in-Ok-members_of.members.items) =
    subst (λ (l : List Member). AreFree c.in-Ok.g.program.now.modules (copy_names (shown c.in-Ok.g) l)) c.as_slice.ensures.value c.in-Ok-check_names.ensures.free in
    record {
      cycles = c.in-Ok.g.cycles;
      are_cycles = c.in-Ok.ensures.cycles;
      members = c.in-Ok-members_of.members.items;
      are_members = c.in-Ok-members_of.ensures;
      free = subst (λ (q : ProgramData). AreFree q.modules (copy_names (basis c.args.p.now c.in-Ok.g.cycles) c.in-Ok-members_of.members.items)) same
          (subst (λ (b : Basis). AreFree c.in-Ok.g.program.now.modules (copy_names b c.in-Ok-members_of.members.items)) c.in-Ok.ensures.basis free);
      is = subst (λ (b : Basis). IsWinnowedOf b c.in-Ok-members_of.members.items c.in-Ok-winnowed.made) c.in-Ok.ensures.basis c.in-Ok-winnowed.ensures;
    }
