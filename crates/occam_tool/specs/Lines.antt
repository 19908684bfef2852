-- The lines that the program prints.
use Rattle.std.specs.Prelude.{ℕ, List, [], ◌∷◌, ◌++◌, codes, Result, Ok, Err}
use Rattle.std.specs.Fmt.{decimal}
use Rattle.occam_base.specs.declared.code.Code.{Code}
use Rattle.occam_base.specs.declared.code.Code.TheVariants as code
use Rattle.manifest.specs.Manifest.{key_word}
use Rattle.program_loader.specs.declared.refusal.Detail.{Detail}
use Rattle.program_loader.specs.declared.refusal.Detail.TheVariants as detail
use Rattle.program_loader.specs.declared.refusal.Refusal.{Refusal}
use Rattle.program_runner.specs.declared.ended.Ended.{Ended}
use Rattle.program_runner.specs.Lines.{ended_line}
use Rattle.occam_tool.specs.declared.job.Report.{Report}
use Rattle.occam_tool.specs.declared.job.Checked.{Checked}

-- done modules=M originals=A clones=C globals=G instructions=I before=B
abbrev pub report_line : Report → List ℕ
report_line r = codes "done modules=" ++ (decimal r.modules ++ (codes " originals=" ++ (decimal r.originals ++ (codes " clones=" ++ (decimal r.clones
    ++ (codes " globals=" ++ (decimal r.globals ++ (codes " instructions=" ++ (decimal r.instructions ++ (codes " before=" ++ (decimal r.before ++ codes "\n")))))))))))

-- a word, and a count behind it
abbrev pub count_text : List ℕ → ℕ → List ℕ
count_text word count = word ++ decimal count

-- ok modules=M functions=F globals=G instructions=I
abbrev pub checked_line : Checked → List ℕ
checked_line c =
    (((count_text (codes "ok modules=") c.modules ++ count_text (codes " functions=") c.functions) ++ count_text (codes " globals=") c.globals) ++ count_text (codes " instructions=") c.instructions) ++ 10 ∷ []

-- the words of a refusal
abbrev pub refusal_word : Code → List ℕ
refusal_word code.Done = codes "done"
refusal_word code.Usage = codes "usage"
refusal_word code.OutOfMemory = codes "memory"
refusal_word code.ReadFault = codes "read"
refusal_word code.WriteFault = codes "write"
refusal_word code.PrintFault = codes "print"
refusal_word code.SourceFault = codes "source"
refusal_word code.Absent = codes "absent"
refusal_word code.TooLarge = codes "too-large"
refusal_word code.NotJson = codes "not-json"
refusal_word code.BadManifest = codes "manifest"
refusal_word code.BadByte = codes "bad-byte"
refusal_word code.NotInSubset = codes "not-in-subset"
refusal_word code.IllTyped = codes "ill-typed"
refusal_word code.NotDefinite = codes "not-definite"
refusal_word code.TwoDefinitions = codes "two-definitions"
refusal_word code.NoDefinition = codes "no-definition"
refusal_word code.TypeClash = codes "type-clash"
refusal_word code.NoEntry = codes "no-entry"
refusal_word code.EntryShape = codes "entry-shape"
refusal_word code.NoExport = codes "no-export"
refusal_word code.ExportShape = codes "export-shape"
refusal_word code.TooManyDemands = codes "too-many-demands"
refusal_word code.TooMuchCode = codes "too-much-code"
refusal_word code.NameClash = codes "name-clash"

abbrev pub detail_text : Detail → List ℕ
detail_text detail.Nothing = []
detail_text (detail.File name) = 32 ∷ name
detail_text (detail.At name place) = 32 ∷ (name ++ 32 ∷ decimal place)
detail_text (detail.Of name symbol) = 32 ∷ (name ++ 32 ∷ symbol)
detail_text (detail.Symbol symbol) = 32 ∷ symbol
detail_text (detail.Key key) = 32 ∷ key_word key

-- refused WORDS DETAIL
abbrev pub refusal_line : Refusal → List ℕ
refusal_line r = codes "refused " ++ (refusal_word r.code ++ (detail_text r.detail ++ codes "\n"))

-- the line of what `winnow` answers
abbrev pub winnow_line : Result Report Refusal → List ℕ
winnow_line (Ok report) = report_line report
winnow_line (Err refusal) = refusal_line refusal

-- the line of what `check` answers
abbrev pub check_line : Result Checked Refusal → List ℕ
check_line (Ok counts) = checked_line counts
check_line (Err refusal) = refusal_line refusal

-- the last line of what `run` answers
abbrev pub run_line : Result Ended Refusal → List ℕ
run_line (Ok ended) = ended_line ended
run_line (Err refusal) = refusal_line refusal

abbrev pub answer_code : {X : Type 0} → Result X Refusal → Code
answer_code (Ok x) = code.Done
answer_code (Err refusal) = refusal.code
