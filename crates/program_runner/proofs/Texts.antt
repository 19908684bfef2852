-- What the small world has written, and what it answers, one call after another.
use Rattle.std.proofs.Common.{◌≡◌, ◌∙◌, ℕ, List, [], ◌∷◌, ◌++◌, drop, Option, Some, None, refl, sym, ap, subst, append_assoc, append-nil}
use Rattle.std.proofs.lemmas.Option.{none-some, same_Some}
use Rattle.ir_steps.specs.declared.session.Reply.{Reply}
use Rattle.ir_steps.specs.declared.session.Wanted.{Wanted}
use Rattle.session_runs.specs.declared.deed.Deed.{Deed}
use Rattle.session_runs.specs.declared.deed.Deed.TheVariants.{Grants, Writes, Reads, Unknown}
use Rattle.session_runs.specs.Tiny.{TinyData, Appends, Written, IsWritten, ByteFrom, ReadFrom, AnswersAs, deed, text_written, number_reply}
use Rattle.session_runs.specs.Worlds.{Answered}
use Rattle.program_runner.specs.Running.{Took}
use Rattle.program_runner.specs.TinyRuns.{first_byte, answer_of, left_by, answers_over, AreAnswers, text_of}

-- ---- what is written

pub writes_none : (taken : Option (List ℕ)) (pending : List ℕ) → Written taken taken pending pending []
writes_none None pending = tt
writes_none (Some taken) pending = record { more = []; taken_is = sym (append-nil taken); waits_is = append-nil pending }

two_texts : (taken between now pending waits left one two : List ℕ) → Appends taken between pending waits one → Appends between now waits left two → Appends taken now pending left (one ++ two)
two_texts taken between now pending waits left one two a b = record {
  more = a.more ++ b.more;
  taken_is = b.taken_is ∙ ap (λ s. s ++ b.more) a.taken_is ∙ append_assoc taken a.more b.more;
  waits_is = sym (append_assoc pending one two) ∙ ap (λ s. s ++ two) a.waits_is ∙ append_assoc a.more waits two ∙ ap (λ s. a.more ++ s) b.waits_is ∙ sym (append_assoc a.more b.more left);
}

-- one text behind another
pub writes_two : (taken between now : Option (List ℕ)) (pending waits left one two : List ℕ) → Written taken between pending waits one → Written between now waits left two
    → Written taken now pending left (one ++ two)
writes_two None None None pending waits left one two a b = tt
writes_two None None (Some now) pending waits left one two a b = b
writes_two None (Some between) now pending waits left one two a b = absurd a
writes_two (Some taken) None now pending waits left one two a b = absurd a
writes_two (Some taken) (Some between) None pending waits left one two a b = b
writes_two (Some taken) (Some between) (Some now) pending waits left one two a b = two_texts taken between now pending waits left one two a b

-- where nothing waited, and nothing waits, the sink took the text
pub took_all : (taken now : Option (List ℕ)) (text : List ℕ) → Written taken now [] [] text → Took taken now text
took_all None now text so = tt
took_all (Some taken) None text so = absurd so
took_all (Some taken) (Some now) text so = ap (λ s. Some s) (so.taken_is ∙ ap (λ s. taken ++ s) (sym (so.waits_is ∙ append-nil so.more)))

-- a front of the text was taken, and this is behind it
pub record TookFront (taken now : Option (List ℕ)) (text : List ℕ) : Type 0 where
  pub front : List ℕ
  pub behind : List ℕ
  pub is : front ++ behind ≡ text
  pub took : Took taken now front

pub took_front : (taken now : Option (List ℕ)) (waits text : List ℕ) → Written taken now [] waits text → TookFront taken now text
took_front None now waits text so = record { front = []; behind = text; is = refl; took = tt }
took_front (Some taken) None waits text so = absurd so
took_front (Some taken) (Some now) waits text so = record { front = so.more; behind = waits; is = sym so.waits_is; took = ap (λ s. Some s) so.taken_is }

-- nothing more is taken
pub took_none : (taken : Option (List ℕ)) → Took taken taken []
took_none None = tt
took_none (Some taken) = ap (λ s. Some s) (sym (append-nil taken))

-- ---- one call

same_written : (w u : TinyData) → u ≡ w → IsWritten w u []
same_written w u e = subst (λ (x : TinyData). IsWritten w x []) (sym e) (writes_none w.taken w.pending)

pub one_written : (d : Deed) (w : TinyData) (a : Option Reply) (u : TinyData) → AnswersAs d w a u → IsWritten w u (text_written d)
one_written Grants w a u so = same_written w u so.1
one_written (Writes text returned) w a u so = so.written
one_written Reads w a u so = so.written
one_written Unknown w a u so = same_written w u so.1

-- what an answer is over the bytes that are left, and what is left behind it
pub record AnswersOver (d : Deed) (left : List ℕ) (a : Option Reply) (now : Option (List ℕ)) : Type 0 where
  pub answer_is : a ≡ answer_of d left
  pub left_is : now ≡ Some (left_by d left)

byte_over : (left rest : List ℕ) (n : ℕ) → ByteFrom left rest n → (n ≡ first_byte left) × (rest ≡ drop 1 left)
byte_over [] rest n so = (so.1, so.0)
byte_over (byte ∷ left) rest n so = (so.1, so.0)

read_over : (old now : Option (List ℕ)) (left : List ℕ) (n : ℕ) → ReadFrom old now n → old ≡ Some left → (n ≡ first_byte left) × (now ≡ Some (drop 1 left))
read_over None now left n so e = absurd (none-some left e)
read_over (Some old) None left n so e = absurd so
read_over (Some old) (Some now) left n so e =
    let held : old ≡ left = same_Some old left e in
    let is = byte_over left now n (subst (λ (s : List ℕ). ByteFrom s now n) held so) in
    (is.0, ap (λ s. Some s) is.1)

pub one_answer : (d : Deed) (w : TinyData) (a : Option Reply) (u : TinyData) (left : List ℕ) → AnswersAs d w a u → w.left ≡ Some left → AnswersOver d left a u.left
one_answer Grants w a u left so e = record { answer_is = so.0; left_is = ap (λ (x : TinyData). x.left) so.1 ∙ e }
one_answer (Writes text returned) w a u left so e = record { answer_is = so.answer_is; left_is = so.left_is ∙ e }
one_answer Reads w a u left so e =
    let is = read_over w.left u.left left so.byte so.read e in
    record { answer_is = so.answer_is ∙ ap (λ n. Some (number_reply n)) is.0; left_is = is.1 }
one_answer Unknown w a u left so e = record { answer_is = so.0; left_is = ap (λ (x : TinyData). x.left) so.1 ∙ e }

-- ---- calls, one after another

more_answers : (d : Deed) (call : Wanted) (rest : List Wanted) (w : TinyData) (a : Option Reply) (v : TinyData) (more : List (Option Reply)) (old : Option (List ℕ))
    → d ≡ deed call → AnswersAs d w a v → w.left ≡ old → AreAnswers v.left rest more → AreAnswers old (call ∷ rest) (a ∷ more)
more_answers d call rest w a v more None of so e later = tt
more_answers d call rest w a v more (Some left) of so e later =
    let one = one_answer d w a v left so e in
    let head : a ≡ answer_of (deed call) left = one.answer_is ∙ ap (λ (x : Deed). answer_of x left) of in
    let over : v.left ≡ Some (left_by (deed call) left) = one.left_is ∙ ap (λ (x : Deed). Some (left_by x left)) of in
    let tail : more ≡ answers_over (left_by (deed call) left) rest = subst (λ (s : Option (List ℕ)). AreAnswers s rest more) over later in
    ap (λ x. x ∷ more) head ∙ ap (λ xs. answer_of (deed call) left ∷ xs) tail

-- What a world is, as a small one.
pub record AreTiny {W : Type 0} (answers : W → Wanted → Option Reply → W → Type 0) (view : W → TinyData) : Type 0 where
  pub shows : (w : W) (call : Wanted) (a : Option Reply) (u : W) → answers w call a u → AnswersAs (deed call) (view w) a (view u)

none_answered : (left : Option (List ℕ)) → AreAnswers left [] []
none_answered None = tt
none_answered (Some left) = refl

pub all_answers : {W : Type 0} (answers : W → Wanted → Option Reply → W → Type 0) (view : W → TinyData) (tiny : AreTiny answers view) (w : W) (calls : List Wanted) (given : List (Option Reply)) (u : W)
    → Answered answers w calls given u → AreAnswers (view w).left calls given
all_answers answers view tiny w [] [] u so = none_answered (view w).left
all_answers answers view tiny w [] (a ∷ more) u so = absurd so
all_answers answers view tiny w (call ∷ rest) [] u so = absurd so
all_answers answers view tiny w (call ∷ rest) (a ∷ more) u (v, one, later) =
    more_answers (deed call) call rest (view w) a (view v) more (view w).left refl (tiny.shows w call a v one) refl (all_answers answers view tiny v rest more u later)

pub all_written : {W : Type 0} (answers : W → Wanted → Option Reply → W → Type 0) (view : W → TinyData) (tiny : AreTiny answers view) (w : W) (calls : List Wanted) (given : List (Option Reply)) (u : W)
    → Answered answers w calls given u → IsWritten (view w) (view u) (text_of calls)
all_written answers view tiny w [] [] u so = same_written (view w) (view u) (ap view (sym so))
all_written answers view tiny w [] (a ∷ more) u so = absurd so
all_written answers view tiny w (call ∷ rest) [] u so = absurd so
all_written answers view tiny w (call ∷ rest) (a ∷ more) u (v, one, later) =
    writes_two (view w).taken (view v).taken (view u).taken (view w).pending (view v).pending (view u).pending (text_written (deed call)) (text_of rest)
    (one_written (deed call) (view w) a (view v) (tiny.shows w call a v one)) (all_written answers view tiny v rest more u later)

-- ---- texts of calls

pub text_of_more : (asked next : List Wanted) → text_of (asked ++ next) ≡ text_of asked ++ text_of next
text_of_more [] next = refl
text_of_more (call ∷ asked) next = ap (λ s. text_written (deed call) ++ s) (text_of_more asked next) ∙ sym (append_assoc (text_written (deed call)) (text_of asked) (text_of next))
