use Rattle.javag.proofs.Calls.{worked_caused}
use Rattle.javag.proofs.drive.drive_job.Goals as goal

pub returns-in-Ok-clause-cause : goal.returns-in-Ok-clause-cause
returns-in-Ok-clause-cause g c = λ words is_job.
    worked_caused _ c.args.job.now is_job c.in-Ok.texts (rw c.slice.ensures at c.in-Ok.ensures.ok) _ _ (rw c.slice-in-Ok.ensures at c.work-outcome.ensures.worked) (rw c.slice-in-Ok-2.ensures at c.close.ensures)
