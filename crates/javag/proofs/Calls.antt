-- What a call leaves, from what its parts leave.
use Rattle.std.proofs.Common.{◌≡◌, ℕ, List, [], ◌∷◌, length, take, refl, sym, ap, ◌∙◌, arith, Option, Some, None, inl, inr, ◌⊎◌}
use Rattle.std.proofs.lemmas.List.{append-nil}
use Rattle.jc_outside.specs.Told.{Stays, Gets, GetsPart}
use Rattle.jc_words.specs.declared.job.Job.{Job}
use Rattle.jc_words.specs.Job.{IsJob}
use Rattle.javag.specs.declared.outcome.Outcome.{Outcome}
use Rattle.javag.specs.declared.outcome.Outcome.TheVariants.{Done, Threw, Usage, Refused, StepsReached, WantOfMemory, ShelfFault, ClassFault, OutFault, KeysFault, ErrFault, NoMain, Exited}
use Rattle.javag.specs.Closing.{closing, memory_line}
use Rattle.javag.specs.Objects.{Object, PutsPart, Closes, HaveTexts, IsUnread}
use Rattle.javag.specs.Causes.{Call, Work, work_of, Worked, Untouched, RanPart, IsShort, ClosedAs, Caused}

take_all : {A : Type 0} (xs : List A) → take (length xs) xs ≡ xs
take_all [] = refl
take_all (x ∷ xs) = ap (λ ys. x ∷ ys) (take_all xs)

-- all is a first part
pub gets_part : {A : Type 0} (old : Option (List A)) (more : List A) (new : Option (List A)) → Gets old more new → GetsPart old more new
gets_part None more new g = tt
gets_part (Some old) more new g = (length more, omega arith, rw (take_all more) g)

-- and so is nothing
pub stays_part : {A : Type 0} (old : Option (List A)) (more : List A) (new : Option (List A)) → Stays old new → GetsPart old more new
stays_part None more new s = tt
stays_part (Some old) more new s = (0, omega arith, s ∙ ap (λ l. Some l) (sym (append-nil old)))

closes_part : (err : Object ℕ) (text : List ℕ) → Closes err text → PutsPart err text
closes_part err text (inl all) = gets_part err.before text err.after all
closes_part err text (inr failed) = failed.1

-- what work that ended so leaves, where its last line had no memory
short_work : (job : Job) (texts : List (List ℕ)) (work : Work) (outcome : Outcome) → Worked job texts work outcome → Untouched work ⊎ RanPart job texts work
short_work job texts work Done (inl ran) = inr (record { wrote = ran.wrote; output = gets_part _ _ _ ran.output })
short_work job texts work Done (inr ran) = inr (record { wrote = ran.wrote; output = stays_part _ _ _ ran.no_output })
short_work job texts work (Refused refusal) w = inl w.untouched
short_work job texts work NoMain w = inl w.untouched
short_work job texts work (ClassFault written) w = inl w.untouched
short_work job texts work StepsReached ran = inr (record { wrote = ran.wrote; output = gets_part _ _ _ ran.output })
short_work job texts work OutFault ran = inr (record { wrote = ran.wrote; output = ran.output })
short_work job texts work WantOfMemory w = w
short_work job texts work (Usage fault) w = absurd w
short_work job texts work (ShelfFault file) w = absurd w
short_work job texts work (Threw class) w = absurd w
short_work job texts work KeysFault w = absurd w
short_work job texts work ErrFault w = absurd w
short_work job texts work (Exited code) w = absurd w

module _ (call : Call) (job : Job) (is_job : IsJob call.words job) where
  short_of : (texts : List (List ℕ)) → HaveTexts call.files job.files texts → Untouched (work_of call) ⊎ RanPart job texts (work_of call) → PutsPart call.err memory_line → IsShort call
  short_of texts content (inl untouched) err = record { work = inl untouched; err = err }
  short_of texts content (inr ran) err = record { work = inr (job, texts, is_job, content, ran); err = err }

  whole_of : (texts : List (List ℕ)) → HaveTexts call.files job.files texts → (outcome : Outcome) → Worked job texts (work_of call) outcome → Closes call.err (closing job texts outcome) → Caused call outcome
  whole_of texts content Done w e = record { job = job; is_job = is_job; texts = texts; content = content; worked = w; err = e }
  whole_of texts content (Refused refusal) w e = record { job = job; is_job = is_job; texts = texts; content = content; worked = w; err = e }
  whole_of texts content NoMain w e = record { job = job; is_job = is_job; texts = texts; content = content; worked = w; err = e }
  whole_of texts content (ClassFault written) w e = record { job = job; is_job = is_job; texts = texts; content = content; worked = w; err = e }
  whole_of texts content StepsReached w e = record { job = job; is_job = is_job; texts = texts; content = content; worked = w; err = e }
  whole_of texts content OutFault w e = record { job = job; is_job = is_job; texts = texts; content = content; worked = w; err = e }
  whole_of texts content WantOfMemory w e = short_of texts content w (closes_part call.err memory_line e)
  whole_of texts content (Usage fault) w e = absurd w
  whole_of texts content (ShelfFault file) w e = absurd w
  whole_of texts content (Threw class) w e = absurd w
  whole_of texts content KeysFault w e = absurd w
  whole_of texts content ErrFault w e = absurd w
  whole_of texts content (Exited code) w e = absurd w

  -- the outcome of a job whose sources were read
  pub worked_caused : (texts : List (List ℕ)) → HaveTexts call.files job.files texts → (outcome result : Outcome) → Worked job texts (work_of call) outcome → ClosedAs job texts call.err outcome result → Caused call result
  worked_caused texts content outcome result w (inl closed) = rw closed.0 (whole_of texts content outcome w closed.1)
  worked_caused texts content outcome result w (inr short) = rw short.0 (short_of texts content (short_work job texts (work_of call) outcome w) short.1)

  -- the outcome of a job with a source that can't be read
  pub unread_caused : (number : ℕ) (result : Outcome) → IsUnread call.files job.files call.shelf_before call.shelf_after number → Untouched (work_of call) → ClosedAs job [] call.err (ShelfFault number) result → Caused call result
  unread_caused number result unread untouched (inl closed) = rw closed.0 (record { job = job; is_job = is_job; unread = unread; untouched = untouched; err = closed.1 })
  unread_caused number result unread untouched (inr short) = rw short.0 (record { work = inl untouched; err = short.1 })
