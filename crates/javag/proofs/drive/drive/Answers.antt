use Rattle.javag.proofs.drive.drive.Goals as goal

pub returns-in-Ok-clause-cause : goal.returns-in-Ok-clause-cause
returns-in-Ok-clause-cause g c = c.drive_job.ensures.cause _ c.in-Ok.ensures.job
