-- What the work on a small job leaves.
use Rattle.std.proofs.Common.{◌≡◌, ◌≢◌, ℕ, List, [], ◌∷◌, refl, sym, arith, Option, Some, None, codes, inl, inr, ◌⊎◌}
use Rattle.jc_class_out.specs.declared.model.ClassModel.{ClassModel}
use Rattle.jc_class_out.specs.Format.{IsClassFile}
use Rattle.jc_machine.specs.declared.machine.Ran.{Ran}
use Rattle.jc_machine.specs.declared.machine.Ran.TheVariants.{Ended, StepsReached, OutFault, Threw, Exited, KeysFault, Stuck}
use Rattle.jc_machine.specs.Runs.{Seen}
use Rattle.jc_machine.specs.Start.{start_of}
use Rattle.jc_machine.specs.Table.{State}
use Rattle.jc_outside.specs.Told.{Stays, Gets, GetsPart}
use Rattle.jc_small.specs.Meaning.{Ending, Going as SourceGoing, Ended as SourceEnded}
use Rattle.jc_small.specs.Same.{EndsAs, run_from}
use Rattle.jc_words.specs.declared.job.Job.{Job}
use Rattle.javag.specs.declared.outcome.Outcome.TheVariants.{WantOfMemory as ShortOutcome}
use Rattle.javag.specs.Objects.{Puts, Failed}
use Rattle.javag.specs.Causes.{IsClassOf, NamesMain, Compiles, class_pairs, Work, RanNothing, Worked, HasOutcome, outcome_of}

pub stays : {A : Type 0} (x : Option A) → Stays x x
stays None = tt
stays (Some x) = refl

plain_ending : (e : Ending) (ran : Ran) → EndsAs e ran → (ran ≡ Ended) ⊎ (ran ≡ StepsReached)
plain_ending SourceGoing ran is = inr is
plain_ending SourceEnded ran is = inl is

plain_outcome : (ran : Ran) → (ran ≡ Ended) ⊎ (ran ≡ StepsReached) → HasOutcome ran
plain_outcome ran (inl e) = rw e tt
plain_outcome ran (inr e) = rw e tt

not_fault : (ran : Ran) → (ran ≡ OutFault → ⊥) → (ran ≢ OutFault → (ran ≡ Ended) ⊎ (ran ≡ StepsReached)) → HasOutcome ran
not_fault ran ne h = plain_outcome ran (h ne)

module _ (job : Job) (texts : List (List ℕ)) (class : ClassModel) (of : IsClassOf job texts class) where
  -- where main begins
  abbrev pub start : State
  start = of.compiled.same.start

  pub started : start_of (class ∷ []) (codes "Main") [] ≡ Some start
  started = of.compiled.same.starts []

  pub has_main : start_of (class ∷ []) (codes "Main") [] ≢ None
  has_main e = let s = started in cc

  ending_plain : (steps : ℕ) → ((run_from class start steps).ending ≡ Ended) ⊎ ((run_from class start steps).ending ≡ StepsReached)
  ending_plain steps = let shows = of.compiled.same.shows.backwards steps in plain_ending _ _ shows.1.ending

  -- a run has one of the outcomes that there are
  pub has_outcome : (ran : Ran) (steps : ℕ) (out : Type 0) → (ran ≢ OutFault → (ran ≡ (run_from class start steps).ending) × out) → HasOutcome ran
  has_outcome Ended steps out h = tt
  has_outcome StepsReached steps out h = tt
  has_outcome OutFault steps out h = tt
  has_outcome (Threw name) steps out h = not_fault (Threw name) (λ e. cc) (λ ne. plain steps (h ne).0)
    where
      plain : (steps : ℕ) → Threw name ≡ (run_from class start steps).ending → (Threw name ≡ Ended) ⊎ (Threw name ≡ StepsReached)
      plain steps e = rw e (ending_plain steps)
  has_outcome (Exited code) steps out h = not_fault (Exited code) (λ e. cc) (λ ne. plain steps (h ne).0)
    where
      plain : (steps : ℕ) → Exited code ≡ (run_from class start steps).ending → (Exited code ≡ Ended) ⊎ (Exited code ≡ StepsReached)
      plain steps e = rw e (ending_plain steps)
  has_outcome KeysFault steps out h = not_fault KeysFault (λ e. cc) (λ ne. plain steps (h ne).0)
    where
      plain : (steps : ℕ) → KeysFault ≡ (run_from class start steps).ending → (KeysFault ≡ Ended) ⊎ (KeysFault ≡ StepsReached)
      plain steps e = rw e (ending_plain steps)
  has_outcome Stuck steps out h = not_fault Stuck (λ e. cc) (λ ne. plain steps (h ne).0)
    where
      plain : (steps : ℕ) → Stuck ≡ (run_from class start steps).ending → (Stuck ≡ Ended) ⊎ (Stuck ≡ StepsReached)
      plain steps e = rw e (ending_plain steps)

  module _ (main : NamesMain job.run) (bytes : List ℕ) (file : IsClassFile bytes class) (work : Work) (put : Puts work.classes (class_pairs job.out bytes)) where
    made : Compiles job texts
    made = record { class = class; is_class = of; main = main; bytes = bytes; is_file = file }

    abbrev seen : Seen
    seen = run_from class start job.steps

    pub did_nothing : job.run ≡ None → Stays work.out.before work.out.after → RanNothing job texts work
    unfolding made
    did_nothing none out = record { wrote = record { made = made; put = put }; run = none; no_output = out }

    -- what a run leaves, by its ending
    pub did_run : (ran : Ran) (name : List ℕ) → job.run ≡ Some name → HasOutcome ran
        → (ran ≢ OutFault → (ran ≡ seen.ending) × Gets work.out.before seen.output work.out.after)
        → (ran ≡ OutFault → Failed work.out) → GetsPart work.out.before seen.output work.out.after
        → Worked job texts work (outcome_of ran)
    unfolding made
    did_run Ended name run has all fault part =
        let a = all (λ e. cc) in inl (record { wrote = record { made = made; put = put }; class = name; run = run; ends = sym a.0; output = a.1 })
    did_run StepsReached name run has all fault part =
        let a = all (λ e. cc) in record { wrote = record { made = made; put = put }; class = name; run = run; ends = sym a.0; output = a.1 }
    did_run OutFault name run has all fault part = record { wrote = record { made = made; put = put }; class = name; run = run; cause = fault refl; output = part }
    did_run (Threw class) name run has all fault part = absurd has
    did_run (Exited code) name run has all fault part = absurd has
    did_run KeysFault name run has all fault part = absurd has
    did_run Stuck name run has all fault part = absurd has

    pub cut_short : GetsPart work.out.before seen.output work.out.after → Worked job texts work ShortOutcome
    unfolding made
    cut_short part = inr (record { wrote = record { made = made; put = put }; output = part })
