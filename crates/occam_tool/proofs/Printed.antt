-- A text that is handed over piece by piece.
use Rattle.std.proofs.Common.{◌≡◌, ◌∙◌, ℕ, ◌+◌, ◌-◌, ◌≤◌, List, [], ◌++◌, length, take, drop, Option, Some, None, Ok, Err, refl, sym, ap, arith, append_assoc, append-nil}
use Rattle.std.proofs.lemmas.List.{length-drop, take_all, drop-drop}
use Rattle.std.proofs.Math.Seq.{take-add}
use Rattle.occam_base.specs.declared.fault.Fault.{Fault}
use Rattle.occam_base.specs.Streams.{SinkOf}
use Rattle.occam_tool.specs.Printing.{PrintOf}

-- What was taken so far, and then the rest, is the text.
pub record TookSo (taken more text rest : List ℕ) : Type 0 where
  pub at : ℕ
  pub within : at ≤ length text
  pub rest_is : rest ≡ drop at text
  pub taken_is : more ≡ taken ++ take at text

abbrev pub ToldSo : Option (List ℕ) → Option (List ℕ) → List ℕ → List ℕ → Type 0
ToldSo None None text rest = Unit {0}
ToldSo None (Some more) text rest = ⊥
ToldSo (Some taken) None text rest = ⊥
ToldSo (Some taken) (Some more) text rest = TookSo taken more text rest

took_none : (taken text : List ℕ) → TookSo taken taken text text
took_none taken text = record { at = 0; within = omega arith; rest_is = refl; taken_is = sym (append-nil taken) }

took_more : (taken more again text rest : List ℕ) (n : ℕ) → TookSo taken more text rest → n ≤ length rest → again ≡ more ++ take n rest → TookSo taken again text (drop n rest)
took_more taken more again text rest n so fits e =
    let left : length rest ≡ length text - so.at = ap length so.rest_is ∙ length-drop so.at text in
    record {
      at = so.at + n;
      within = omega (arith, so.within, left);
      rest_is = ap (drop n) so.rest_is ∙ drop-drop n so.at text ∙ ap (λ k. drop k text) (omega arith);
      taken_is = e ∙ ap (λ m. m ++ take n rest) so.taken_is ∙ append_assoc taken (take so.at text) (take n rest)
          ∙ ap (λ s. taken ++ (take so.at text ++ take n s)) so.rest_is ∙ ap (λ s. taken ++ s) (sym (take-add so.at n text));
    }

pub told_none : (taken : Option (List ℕ)) (text : List ℕ) → ToldSo taken taken text text
told_none None text = tt
told_none (Some taken) text = took_none taken text

pub told_more : (taken more again : Option (List ℕ)) (text rest : List ℕ) (n : ℕ) → ToldSo taken more text rest → n ≤ length rest → SinkOf more again rest (Ok n) → ToldSo taken again text (drop n rest)
told_more None None None text rest n so fits e = tt
told_more None None (Some again) text rest n so fits e = e
told_more None (Some more) again text rest n so fits e = absurd so
told_more (Some taken) None again text rest n so fits e = absurd so
told_more (Some taken) (Some more) None text rest n so fits e = e
told_more (Some taken) (Some more) (Some again) text rest n so fits e = took_more taken more again text rest n so fits e

pub told_fault : (taken more again : Option (List ℕ)) (text rest : List ℕ) (f : Fault) → ToldSo taken more text rest → SinkOf more again rest (Err f) → PrintOf taken again text (Err f)
told_fault None None None text rest f so e = tt
told_fault None None (Some again) text rest f so e = e
told_fault None (Some more) again text rest f so e = absurd so
told_fault (Some taken) None again text rest f so e = absurd so
told_fault (Some taken) (Some more) None text rest f so e = e
told_fault (Some taken) (Some more) (Some again) text rest f so e = (so.at, e ∙ so.taken_is)

-- a write that took nothing
pub told_stuck : (taken more again : Option (List ℕ)) (text rest : List ℕ) (f : Fault) → ToldSo taken more text rest → SinkOf more again rest (Ok 0) → PrintOf taken again text (Err f)
told_stuck None None None text rest f so e = tt
told_stuck None None (Some again) text rest f so e = e
told_stuck None (Some more) again text rest f so e = absurd so
told_stuck (Some taken) None again text rest f so e = absurd so
told_stuck (Some taken) (Some more) None text rest f so e = e
told_stuck (Some taken) (Some more) (Some again) text rest f so e = (so.at, e ∙ append-nil more ∙ so.taken_is)

pub told_all : (taken more : Option (List ℕ)) (text rest : List ℕ) → ToldSo taken more text rest → rest ≡ [] → PrintOf taken more text (Ok tt)
told_all None None text rest so e = tt
told_all None (Some more) text rest so e = so
told_all (Some taken) None text rest so e = so
told_all (Some taken) (Some more) text rest so e =
    let none : length rest ≡ 0 = ap length e in
    let left : length rest ≡ length text - so.at = ap length so.rest_is ∙ length-drop so.at text in
    so.taken_is ∙ ap (λ s. taken ++ s) (take_all so.at text (omega (arith, left, none)))
