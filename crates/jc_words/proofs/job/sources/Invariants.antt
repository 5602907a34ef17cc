use Rattle.std.proofs.Common.{◌≡◌, ◌++◌, drop}
use Rattle.std.specs.List.{filter}
use Rattle.jc_words.specs.Job.{is_source}
use Rattle.jc_words.proofs.job.sources.Given as goal

abbrev pub invariant-loop-word : goal.invariant-loop-word
invariant-loop-word l = l.sources ++ filter is_source (drop l.word-index l.words) ≡ filter is_source l.words
