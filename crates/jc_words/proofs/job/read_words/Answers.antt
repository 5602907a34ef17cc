use Rattle.std.proofs.Common.{map, string_bytes, Global}
use Rattle.jc_words.specs.Values.{AreValuesOf}
use Rattle.jc_words.proofs.Jobs.{line_fault, words_no_job, values_job_only}
use Rattle.jc_words.proofs.job.read_words.Goals as goal

pub returns-in-Some-clause-only : goal.returns-in-Some-clause-only
returns-in-Some-clause-only c =
    values_job_only _ c.in-Some.values c.job_of.result (rw c.in-Some.is at c.in_ok-values.ensures) c.job_of.ensures.job

pub returns-in-Some-clause-fault : goal.returns-in-Some-clause-fault
returns-in-Some-clause-fault c = λ fault e.
    let are : AreValuesOf (map (string_bytes {Z = Global}) c.args.words.now) c.in-Some.values = rw c.in-Some.is at c.in_ok-values.ensures in
    line_fault _ are.0 fault are.1 (c.job_of.ensures.fault fault e are.0 are.2)

pub returns-in-Some-clause-no_job : goal.returns-in-Some-clause-no_job
returns-in-Some-clause-no_job c = λ fault e.
    let are : AreValuesOf (map (string_bytes {Z = Global}) c.args.words.now) c.in-Some.values = rw c.in-Some.is at c.in_ok-values.ensures in
    words_no_job _ are.0 fault are.1 (c.job_of.ensures.fault fault e are.0 are.2)
