use Rattle.std.proofs.Common.{◌≡◌, drop}
use Rattle.jc_outside.specs.Told.{file_at}
use Rattle.jc_outside.specs.Memory.{files_of}
use Rattle.jc_outside.proofs.sure.find.Given as goal

-- the files that are left give the same answer
abbrev pub invariant-loop-file : goal.invariant-loop-file
invariant-loop-file l = file_at (files_of (drop l.file-index l.files)) l.name ≡ file_at (files_of l.files) l.name
