use Rattle.std.proofs.Common.{◌≡◌, ◌∙◌, ◌-◌, ◌^◌, List, length, map, min, ap, sym, subst}
use Rattle.std.specs.Prelude.{sum}
use Rattle.winnowed_form.specs.declared.member.Member.{Member}
use Rattle.winnowed_form.specs.Winnowed.{module_count, sort_count}
use Rattle.winnowed_form.specs.declared.sort.Sort.TheVariants.{Original, Clone, Variable}
use Rattle.reach_prune.specs.Mirrors.Shown.{shown}
use Rattle.reach_prune.specs.Mirrors.Split.{AreSplit, AreWritable, AreMade}
use Rattle.reach_prune.proofs.Splitting.{split_writable, made_all}
use Rattle.reach_prune.proofs.assembling.winnowed.Goals as goal

pub winnowed_modules-requires-clause-writable : goal.winnowed_modules-requires-clause-writable
winnowed_modules-requires-clause-writable c =
    subst (AreWritable (shown c.args.g.now)) (sym c.as_slice-4.ensures.value) (split_writable (shown c.args.g.now) (length c.modules.result.now) c.args.members.items c.in_ok-lists.lists.items c.in_ok-lists.ensures c.requires.writable)

pub returns : goal.returns
returns c =
    let split : AreSplit (length c.args.g.now.program.now.modules) c.args.members.items c.in_ok-lists.lists.items =
    subst (λ n. AreSplit n c.args.members.items c.in_ok-lists.lists.items) (ap length c.modules.ensures.modules) c.in_ok-lists.ensures in
    let made : AreMade (shown c.args.g.now) c.in_ok-lists.lists.items c.args.g.now.program.now.modules c.in_ok-modules.modules =
    subst (λ (l : List (List Member)). AreMade (shown c.args.g.now) l c.args.g.now.program.now.modules c.in_ok-modules.modules) c.as_slice-4.ensures.value c.in_ok-modules.ensures in
    record {
      modules = made_all (shown c.args.g.now) c.args.members.items c.in_ok-lists.lists.items c.in_ok-modules.modules split made;
      originals = c.sort_count-originals.ensures ∙ ap (sort_count (shown c.args.g.now) Original) c.as_slice.ensures.value;
      clones = c.sort_count-clones.ensures ∙ ap (sort_count (shown c.args.g.now) Clone) c.as_slice-2.ensures.value;
      globals = c.sort_count-globals.ensures ∙ ap (sort_count (shown c.args.g.now) Variable) c.as_slice-3.ensures.value;
      instructions = c.instruction_count-instructions.ensures ∙ ap (λ l. min (sum (map module_count l)) (2 ^ 64 - 1)) c.as_slice-5.ensures;
    }
