-- The calls of `exit` and `abort` in a trace. They take no reply, and stand there with an empty one.
use Rattle.std.specs.Prelude.{ℕ, false, List, [], ◌∷◌, None}
use Rattle.ir_syntax.specs.declared.symbol.Builtin.{Builtin}
use Rattle.ir_syntax.specs.declared.symbol.Builtin.TheVariants as builtin
use Rattle.ir_syntax.specs.Builtins.{builtin_name, type_of_builtin}
use Rattle.block_memory.specs.declared.value.Val.TheVariants as val
use Rattle.ir_steps.specs.declared.session.Shown.{Shown}
use Rattle.ir_steps.specs.declared.session.Reply.{Reply}
use Rattle.ir_steps.specs.declared.session.Reply.TheVariants as reply
use Rattle.ir_steps.specs.declared.session.ReplyVal.TheVariants as value
use Rattle.session_runs.specs.declared.session.Event.{Event}
use Rattle.session_runs.specs.declared.session.Event.TheVariants as event

abbrev pub no_reply : Reply
no_reply = reply.Give value.Void []

abbrev pub ending_call : Builtin → List Shown → Event
ending_call of args = event.Asked (record { name = builtin_name of; fn_ty = type_of_builtin of; args = args }) no_reply

abbrev pub exit_call : ℕ → Event
exit_call n = ending_call builtin.Exit (record { value = val.Num n; block = None; writable = false } ∷ [])

abbrev pub abort_call : Event
abort_call = ending_call builtin.Abort []
