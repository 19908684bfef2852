-- A small world: memory is granted, `putchar` and `puts` write to a sink, `getchar` reads from a source (ISO C, "Input/output <stdio.h>").
use Rattle.std.specs.Prelude.{◌≡◌, ℕ, ◌-◌, ◌^◌, ◌%◌, ℤ, pos, negsuc, false, true, nat_eq, Bool, ◌&&◌, List, [], ◌∷◌, ◌++◌, drop, take, codes, bytes_eq, Option, Some, None, option_map, if◌then◌else◌}
use Rattle.ir_types.specs.declared.scalar.Scalar.TheVariants.{I32, Ptr}
use Rattle.ir_types.specs.declared.scalar.FnType.{FnType}
use Rattle.ir_syntax.specs.declared.symbol.SymName.{SymName}
use Rattle.ir_syntax.specs.declared.symbol.Builtin.TheVariants as builtin
use Rattle.ir_syntax.specs.Builtins.{builtin_name, type_of_builtin}
use Rattle.block_memory.specs.declared.value.Val.{Val}
use Rattle.block_memory.specs.declared.value.Val.TheVariants as val
use Rattle.block_memory.specs.declared.value.Part.{Part}
use Rattle.block_memory.specs.declared.value.Part.TheVariants as part
use Rattle.ir_steps.specs.declared.session.Shown.{Shown}
use Rattle.ir_steps.specs.declared.session.Wanted.{Wanted}
use Rattle.ir_steps.specs.declared.session.Reply.{Reply}
use Rattle.ir_steps.specs.declared.session.Reply.TheVariants as reply
use Rattle.ir_steps.specs.declared.session.ReplyVal.TheVariants as value
use Rattle.ir_steps.specs.Calls.{same_type}
use Rattle.session_runs.specs.declared.deed.Deed.{Deed}
use Rattle.session_runs.specs.declared.deed.Deed.TheVariants.{Grants, Writes, Reads, Unknown}

-- ---- what a call asks for

abbrev pub is_named : List ℕ → FnType → Wanted → Bool
is_named called fn_ty call = bytes_eq call.name called && same_type call.fn_ty fn_ty

-- `i32 putchar(i32)`, `i32 getchar()` and `i32 puts(ptr)`
abbrev pub putchar_type : FnType
putchar_type = record { params = I32 ∷ []; variadic = false; returns = Some I32 }

abbrev pub getchar_type : FnType
getchar_type = record { params = []; variadic = false; returns = Some I32 }

abbrev pub puts_type : FnType
puts_type = record { params = Ptr ∷ []; variadic = false; returns = Some I32 }

-- `putchar` writes the low byte of its argument and returns it.
abbrev pub putchar_of : Val SymName → Deed
putchar_of (val.Num n) = Writes (n % 256 ∷ []) (n % 256)
putchar_of val.Null = Unknown
putchar_of (val.At of offset) = Unknown
putchar_of val.Poison = Unknown

-- The bytes up to the first zero byte, where there is one and each part up to it is a number.
abbrev pub text_in : List (Part SymName) → Option (List ℕ)
text_in [] = None
text_in (part.Poison ∷ parts) = None
text_in (part.Num byte ∷ parts) = if nat_eq byte 0 then Some [] else option_map (λ text. byte ∷ text) (text_in parts)
text_in (part.Of of offset k ∷ parts) = None

-- from an offset on
abbrev pub text_from : ℤ → Option (List (Part SymName)) → Option (List ℕ)
text_from (pos at) None = None
text_from (pos at) (Some parts) = text_in (drop at parts)
text_from (negsuc n) block = None

abbrev pub text_of : Val SymName → Option (List (Part SymName)) → Option (List ℕ)
text_of (val.Num n) block = None
text_of val.Null block = None
text_of (val.At of offset) block = text_from offset block
text_of val.Poison block = None

-- `puts` writes a text and a line feed, and returns 0.
abbrev pub puts_of : Option (List ℕ) → Deed
puts_of None = Unknown
puts_of (Some text) = Writes (text ++ 10 ∷ []) 0

-- each of the two has just one argument
abbrev pub one_argument : (Shown → Deed) → List Shown → Deed
one_argument f [] = Unknown
one_argument f (arg ∷ []) = f arg
one_argument f (arg ∷ other ∷ more) = Unknown

abbrev pub deed : Wanted → Deed
deed call =
    if is_named (builtin_name builtin.Malloc) (type_of_builtin builtin.Malloc) call then Grants
    else if is_named (builtin_name builtin.Calloc) (type_of_builtin builtin.Calloc) call then Grants
    else if is_named (codes "putchar") putchar_type call then one_argument (λ arg. putchar_of arg.value) call.args
    else if is_named (codes "puts") puts_type call then one_argument (λ arg. puts_of (text_of arg.value arg.block)) call.args
    else if is_named (codes "getchar") getchar_type call then Reads
    else Unknown

-- ---- the world

-- What its source has left and what its sink has taken, where they tell, and what waits to be written.
pub record TinyData : Type 0 where
  pub left : Option (List ℕ)
  pub taken : Option (List ℕ)
  pub pending : List ℕ

-- The sink has taken more, and this text is behind what it has taken and what waits.
pub record Appends (taken now pending waits text : List ℕ) : Type 0 where
  pub more : List ℕ
  pub taken_is : now ≡ taken ++ more
  pub waits_is : pending ++ text ≡ more ++ waits

-- The text is written: the sink takes it, or it waits.
abbrev pub Written : Option (List ℕ) → Option (List ℕ) → List ℕ → List ℕ → List ℕ → Type 0
Written None None pending waits text = Unit {0}
Written None (Some now) pending waits text = ⊥
Written (Some taken) None pending waits text = ⊥
Written (Some taken) (Some now) pending waits text = Appends taken now pending waits text

abbrev pub IsWritten : TinyData → TinyData → List ℕ → Type 0
IsWritten w u text = Written w.taken u.taken w.pending u.pending text

-- a byte from the front, or at the end the i32 -1
abbrev pub ByteFrom : List ℕ → List ℕ → ℕ → Type 0
ByteFrom [] rest n = (rest ≡ []) × (n ≡ 2 ^ 32 - 1)
ByteFrom (byte ∷ left) rest n = (rest ≡ left) × (n ≡ byte)

abbrev pub ReadFrom : Option (List ℕ) → Option (List ℕ) → ℕ → Type 0
ReadFrom None None n = Unit {0}
ReadFrom None (Some rest) n = ⊥
ReadFrom (Some left) None n = ⊥
ReadFrom (Some left) (Some rest) n = ByteFrom left rest n

-- ---- its answers

abbrev pub number_reply : ℕ → Reply
number_reply n = reply.Give (value.Num n) []

-- A call writes its text and is answered with what it returns; nothing is read.
pub record AnswersText (text : List ℕ) (returned : ℕ) (w : TinyData) (answer : Option Reply) (u : TinyData) : Type 0 where
  pub answer_is : answer ≡ Some (number_reply returned)
  pub left_is : u.left ≡ w.left
  pub written : IsWritten w u text

-- All that waits is written before a byte is read, and the byte is returned.
pub record AnswersByte (w : TinyData) (answer : Option Reply) (u : TinyData) : Type 0 where
  pub byte : ℕ
  pub answer_is : answer ≡ Some (number_reply byte)
  pub read : ReadFrom w.left u.left byte
  pub written : IsWritten w u []
  pub none_waits : u.pending ≡ []

abbrev pub AnswersAs : Deed → TinyData → Option Reply → TinyData → Type 0
AnswersAs Grants w answer u = (answer ≡ Some (reply.Grant true)) × (u ≡ w)
AnswersAs (Writes text returned) w answer u = AnswersText text returned w answer u
AnswersAs Reads w answer u = AnswersByte w answer u
AnswersAs Unknown w answer u = (answer ≡ None) × (u ≡ w)

-- ---- its failures

abbrev pub text_written : Deed → List ℕ
text_written Grants = []
text_written (Writes text returned) = text
text_written Reads = []
text_written Unknown = []

-- A front of what the call writes is behind what was written before, and nothing is read.
pub record BreaksAt (text : List ℕ) (w u : TinyData) : Type 0 where
  pub many : ℕ
  pub written : IsWritten w u (take many text)
  pub left_is : u.left ≡ w.left
