use Rattle.std.proofs.Common.{inl}
use Rattle.program_runner.proofs.Gives.{match_some, match_none, root_is, misfits}
use Rattle.program_runner.proofs.entering.entry_root.Goals as goal

pub returns-in-Some-clause-root : goal.returns-in-Some-clause-root
returns-in-Some-clause-root c =
    root_is c.args.loaded.now.program c.args.func.now c.args.loaded.now.manifest.args c.as_slice-args.result.now c.args.words.now (record { func = c.entry.result; args = c.in-Some.args }) c.requires.program c.requires.entry
    c.as_slice-args.ensures (match_some _ _ c.in_ok-args.field-0 c.in-Some.args c.in-Some.is c.in_ok-args.ensures) c.entry.ensures

pub returns-in_ok-misfit-in-None-clause-refused : goal.returns-in_ok-misfit-in-None-clause-refused
returns-in_ok-misfit-in-None-clause-refused c =
    inl (
      misfits c.args.loaded.now.program c.args.func.now c.args.loaded.now.manifest.args c.as_slice-args.result.now c.args.words.now c.requires.entry c.as_slice-args.ensures
          (match_none _ _ c.in_ok-args.field-0 c.in-None.is c.in_ok-args.ensures),
      c.in_ok-misfit-in-None.ensures,
    )
