use Rattle.std.proofs.Common.{◌≡◌, ◌++◌, drop}
use Rattle.std.specs.List.{filter}
use Rattle.jc_words.specs.Job.{is_source, not}
use Rattle.jc_words.proofs.job.arguments.Given as goal

abbrev pub invariant-loop-word : goal.invariant-loop-word
invariant-loop-word l = l.arguments ++ filter (λ word. not (is_source word)) (drop l.word-index l.words) ≡ filter (λ word. not (is_source word)) l.words
