-- Runs with the small world: what it answers over the bytes of its source, and what it writes.
use Rattle.std.specs.Prelude.{◌≡◌, ℕ, ◌≤◌, ◌-◌, ◌^◌, true, List, [], ◌∷◌, ◌++◌, drop, Option, Some, None}
use Rattle.ir_syntax.specs.Programs.{ProgramData}
use Rattle.ir_steps.specs.declared.session.Reply.{Reply}
use Rattle.ir_steps.specs.declared.session.Reply.TheVariants as reply
use Rattle.ir_steps.specs.declared.session.Wanted.{Wanted}
use Rattle.session_runs.specs.declared.deed.Deed.{Deed}
use Rattle.session_runs.specs.declared.deed.Deed.TheVariants.{Grants, Writes, Reads, Unknown}
use Rattle.session_runs.specs.declared.session.Root.{Root}
use Rattle.session_runs.specs.declared.session.Run.{Run}
use Rattle.session_runs.specs.Runs.{run, calls}
use Rattle.session_runs.specs.Tiny.{deed, number_reply, text_written}
use Rattle.session_runs.specs.Worlds.{session, answers_in, replies_among}

-- ---- answers

-- the first byte that is left, or at the end the i32 -1
abbrev pub first_byte : List ℕ → ℕ
first_byte [] = 2 ^ 32 - 1
first_byte (byte ∷ left) = byte

-- what a call is answered, where these bytes are left
abbrev pub answer_of : Deed → List ℕ → Option Reply
answer_of Grants left = Some (reply.Grant true)
answer_of (Writes text returned) left = Some (number_reply returned)
answer_of Reads left = Some (number_reply (first_byte left))
answer_of Unknown left = None

-- the bytes that are left behind it
abbrev pub left_by : Deed → List ℕ → List ℕ
left_by Grants left = left
left_by (Writes text returned) left = left
left_by Reads left = drop 1 left
left_by Unknown left = left

-- what calls are answered one after another
abbrev pub answers_over : List ℕ → List Wanted → List (Option Reply)
answers_over left [] = []
answers_over left (call ∷ calls) = answer_of (deed call) left ∷ answers_over (left_by (deed call) left) calls

-- These are the answers, where the source tells its bytes.
abbrev pub AreAnswers : Option (List ℕ) → List Wanted → List (Option Reply) → Type 0
AreAnswers None calls answers = Unit {0}
AreAnswers (Some left) calls answers = answers ≡ answers_over left calls

-- what calls write one after another
abbrev pub text_of : List Wanted → List ℕ
text_of [] = []
text_of (call ∷ calls) = text_written (deed call) ++ text_of calls

-- ---- runs

-- The run of the roots after at most n begun steps, where the small world answers over these bytes; and what it writes.
pub record IsTinyRun (p : ProgramData) (roots : List Root) (n : ℕ) (source : Option (List ℕ)) (shown : Run) (text : List ℕ) : Type 0 where
  pub replies : List Reply
  pub run_is : run p (session roots replies) n ≡ Some shown
  pub answered : AreAnswers source (calls p (session roots replies) n) (answers_in replies shown.phase)
  pub text_is : text ≡ text_of (calls p (session roots replies) n)

-- A front of what the first calls of such a run write. These were answered, one more perhaps not.
pub record IsTinyFront (p : ProgramData) (roots : List Root) (n : ℕ) (source : Option (List ℕ)) (text : List ℕ) : Type 0 where
  pub asked : List Wanted
  pub given : List (Option Reply)
  pub answered : AreAnswers source asked given
  pub next : List Wanted
  pub at : ℕ
  pub within : at ≤ n
  pub first : calls p (session roots (replies_among given)) at ≡ asked ++ next
  pub behind : List ℕ
  pub front : text ++ behind ≡ text_of (asked ++ next)
