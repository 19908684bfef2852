-- What the program promises of a module that it has written: which text it is, which module that text spells, and
-- that this module means what the original means.
use Rattle.std.specs.Prelude.{◌≡◌, ℕ, ◌≤◌, ◌/◌, ◌⊎◌, List, Option, Some, IsSome}
use Rattle.std.specs.FinMap as map
use Rattle.ir_types.specs.declared.scalar.Known.{Known}
use Rattle.occam_base.specs.Files.{FileMap}
use Rattle.ir_syntax.specs.declared.item.Module.{Module}
use Rattle.ir_syntax.specs.Straight.{IsStraight}
use Rattle.ir_parser.specs.Spelled.{Spells}
use Rattle.straight_plan.specs.declared.cut.Cut.{Cut}
use Rattle.straight_plan.specs.Left.{IsPlanned, left_module}
use Rattle.straight_meaning.specs.declared.session.Session.{Session}
use Rattle.straight_meaning.specs.declared.session.Phase.TheVariants as phase
use Rattle.straight_meaning.specs.Run.{Moment, moment, run, Conforms, begun}
use Rattle.straight_meaning.specs.Kept.{Agree, kept_steps, longest_block}
use Rattle.command_words.specs.Words.{command_of}
use Rattle.command_words.specs.Words.Command.{Winnow}
use Rattle.occam_tool.specs.Outcome.{NamesModule, Reads, start_of, output_name}

pub record Keeps (words : List (List ℕ)) (files : FileMap) (files_new : Option FileMap) : Type 0 where
  pub manifest : List ℕ
  pub outdir : List ℕ
  pub file : List ℕ
  pub entry : List ℕ
  pub args : List Known
  pub place : ℕ
  pub written : List ℕ
  pub original : Module
  pub plan : List Cut
  pub left : Module
  -- the words name the manifest, which names the module, the entry and its arguments
  pub command : command_of words ≡ Some (Winnow manifest outdir)
  pub names : NamesModule files manifest file entry args
  -- the original is what the module's text spells
  pub held : Reads files file entry args original place
  -- what is left is what the least set of functions and copies leaves
  pub planned : IsPlanned original.items (start_of original place args) plan
  pub left_is : left ≡ left_module original (start_of original place args) plan
  -- one file is written
  pub put : files_new ≡ Some (map.insert files (output_name outdir file) written)
  -- the written text spells what is left, of straight-line functions again, and no other module
  pub spells : Spells written left
  pub only : (other : Module) → Spells written other → other ≡ left
  pub straight : IsStraight left
  -- in every session of the entry with its known arguments, after any number of steps, both have shown the same
  pub agree : (s : Session) → Conforms place args s → Agree original left (start_of original place args) plan s
  -- a run of the original never gets stuck and meets no undefined behaviour
  pub goes_on : (s : Session) (n : ℕ) → Conforms place args s → IsSome (run original s n)
  pub never_undefined : (s : Session) (n : ℕ) (x : Moment) → Conforms place args s → moment original s n ≡ Some x → (x.phase ≡ phase.Running) ⊎ (x.phase ≡ phase.Finished)
  -- and what is written makes at least one step for each longest block of steps
  pub bound : (s : Session) (n : ℕ) → Conforms place args s → begun original s n / longest_block original ≤ kept_steps original (start_of original place args) plan s n
