-- The forms in memory: what they hold, and which of their calls fail.
use Rattle.std.specs.Prelude.{ℕ, ◌==◌, Bool, List, drop, find, map, is_some, if◌then◌else◌}
use Rattle.std.specs.List.{list_any}
use Rattle.std.specs.declared.option.Option.{Option}
use Rattle.std.specs.declared.option.Option.TheVariants.{Some}
use Rattle.jc_outside.specs.Told.{Files, risen}
use Rattle.jc_outside.specs.declared.entry.FileEntry.{FileEntry}
use Rattle.jc_outside.specs.declared.memory.MemClasses.{MemClasses}
use Rattle.jc_outside.specs.declared.memory.MemKeys.{MemKeys}
use Rattle.jc_outside.specs.declared.memory.MemPaper.{MemPaper}
use Rattle.jc_outside.specs.declared.memory.MemShelf.{MemShelf}
use Rattle.jc_outside.specs.declared.plan.Fail.{Fail}
use Rattle.jc_outside.specs.declared.plan.Plan.{Plan}
use Rattle.jc_outside.specs.declared.plan.PaperPlan.{PaperPlan}
use Rattle.jc_outside.specs.declared.sure.SureClasses.{SureClasses}
use Rattle.jc_outside.specs.declared.sure.SureKeys.{SureKeys}
use Rattle.jc_outside.specs.declared.sure.SurePaper.{SurePaper}
use Rattle.jc_outside.specs.declared.sure.SureShelf.{SureShelf}

-- the name and the bytes of an entry
abbrev pub file_of : FileEntry → List ℕ × List ℕ
file_of entry = (entry.name, entry.bytes)

-- the files of these entries
abbrev pub files_of : List FileEntry → Files
files_of entries = map file_of entries

-- ---- what a form that never fails tells

-- all that the form holds is told, of each of the four kinds: the files of a shelf, class files, bytes not taken yet, bytes put out
abbrev pub sure_files : SureShelf → Option Files
sure_files shelf = Some (files_of shelf.files)

abbrev pub sure_pairs : SureClasses → Option Files
sure_pairs classes = Some (files_of classes.files)

abbrev pub sure_left : SureKeys → Option (List ℕ)
sure_left keys = Some (drop keys.taken keys.bytes)

abbrev pub sure_out : SurePaper → Option (List ℕ)
sure_out paper = Some paper.out.items

-- ---- what a form that fails at given calls tells

-- the same as the form that never fails within it, whichever calls fail
abbrev pub mem_files : MemShelf → Option Files
mem_files shelf = sure_files shelf.inner

abbrev pub mem_pairs : MemClasses → Option Files
mem_pairs classes = sure_pairs classes.inner

abbrev pub mem_left : MemKeys → Option (List ℕ)
mem_left keys = sure_left keys.inner

abbrev pub mem_out : MemPaper → Option (List ℕ)
mem_out paper = sure_out paper.inner

-- ---- which calls fail; they are numbered from 1

-- the next call is to fail
abbrev pub fails_next : Plan → Bool
fails_next plan = list_any (λ call. call == risen plan.calls) plan.fails

-- after that call
abbrev pub after_call : Plan → Plan
after_call plan = record plan {
  calls = risen plan.calls;
  faults = (if fails_next plan then risen plan.faults else plan.faults);
}

-- how the next put is to fail, if it is
abbrev pub next_fail : PaperPlan → Option Fail
next_fail plan = find (λ fail. fail.call == risen plan.calls) plan.fails

-- after that put
abbrev pub after_put : PaperPlan → PaperPlan
after_put plan = record plan {
  calls = risen plan.calls;
  faults = (if is_some (next_fail plan) then risen plan.faults else plan.faults);
}
