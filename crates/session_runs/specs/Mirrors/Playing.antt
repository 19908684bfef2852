-- One begun step of a play.
use Rattle.std.specs.Prelude.{◌≡◌, ◌⊎◌, List, [], ◌∷◌, ◌++◌, Option, Some, None}
use Rattle.ir_syntax.specs.Programs.{ProgramData}
use Rattle.ir_steps.specs.declared.session.Reply.{Reply}
use Rattle.ir_steps.specs.declared.session.Wanted.{Wanted}
use Rattle.session_runs.specs.declared.progress.Progress.{Progress}
use Rattle.session_runs.specs.declared.world.WorldFault.{WorldFault}
use Rattle.session_runs.specs.declared.world.WorldFault.TheVariants as fault
use Rattle.session_runs.specs.Mirrors.Progressing.{Wants, Begins, Replies, Waits}

-- no call wants a reply
pub record PlaysAlone {W : Type 0} (p : ProgramData) (q : Progress) (replies : List Reply) (w : W) (r : Progress) (now : List Reply) (u : W) : Type 0 where
  pub wants : Wants p q None
  pub begins : Begins p q None r
  pub replies_are : now ≡ replies
  pub world_is : u ≡ w

-- one does, and the world has none
pub record PlaysOut {W : Type 0} (answers : W → Wanted → Option Reply → W → Type 0) (p : ProgramData) (q : Progress) (replies : List Reply) (w : W) (r : Progress)
    (now : List Reply) (u : W) : Type 0 where
  pub call : Wanted
  pub wants : Wants p q (Some call)
  pub answered : answers w call None u
  pub waits : Waits p call q r
  pub replies_are : now ≡ replies

-- one does, and has it
pub record PlaysReply {W : Type 0} (answers : W → Wanted → Option Reply → W → Type 0) (p : ProgramData) (q : Progress) (replies : List Reply) (w : W) (r : Progress)
    (now : List Reply) (u : W) : Type 0 where
  pub call : Wanted
  pub reply : Reply
  pub wants : Wants p q (Some call)
  pub answered : answers w call (Some reply) u
  pub replied : Replies p q reply r
  pub replies_are : now ≡ replies ++ reply ∷ []

abbrev pub PlaysOn : {W : Type 0} → (W → Wanted → Option Reply → W → Type 0) → ProgramData → Progress → List Reply → W → Progress → List Reply → W → Type 0
PlaysOn answers p q replies w r now u = PlaysAlone p q replies w r now u ⊎ (PlaysOut answers p q replies w r now u ⊎ PlaysReply answers p q replies w r now u)

-- the world failed at the call at hand
pub record WorldFails {W : Type 0} (breaks : W → Wanted → W → Type 0) (p : ProgramData) (q : Progress) (w u : W) : Type 0 where
  pub call : Wanted
  pub wants : Wants p q (Some call)
  pub broke : breaks w call u

-- memory was refused before the world was asked, or behind its answer
pub record FailsBehind {W : Type 0} (answers : W → Wanted → Option Reply → W → Type 0) (p : ProgramData) (q : Progress) (w u : W) : Type 0 where
  pub call : Wanted
  pub reply : Reply
  pub wants : Wants p q (Some call)
  pub answered : answers w call (Some reply) u

abbrev pub PlayFails : {W : Type 0} → (W → Wanted → Option Reply → W → Type 0) → (W → Wanted → W → Type 0) → ProgramData → Progress → W → W → WorldFault → Type 0
PlayFails answers breaks p q w u fault.Source = WorldFails breaks p q w u
PlayFails answers breaks p q w u fault.Sink = WorldFails breaks p q w u
PlayFails answers breaks p q w u fault.OutOfMemory = (u ≡ w) ⊎ (WorldFails breaks p q w u ⊎ FailsBehind answers p q w u)
