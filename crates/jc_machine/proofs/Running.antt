-- How a run goes on.
use Rattle.std.proofs.Common.{◌≡◌, ◌≢◌, IfOk, Result, Ok, Err, ◌≤◌, ◌<◌, ℕ, zero, suc, ◌+◌, ◌-◌, List, [], ◌∷◌, ◌++◌, refl, sym, ap, ◌∙◌, append_assoc, arith, Option, subst, length-append, Some, None, length, take}
use Rattle.std.proofs.lemmas.List.{append-nil, take-append-le}
use Rattle.std.proofs.Math.Seq.{take-append_seam, take-append-add}
use Rattle.jc_machine.specs.declared.machine.Ran.{Ran}
use Rattle.jc_machine.specs.declared.machine.Ran.TheVariants.{StepsReached, OutFault}
use Rattle.jc_rules.specs.declared.stop.WantOfMemory.{WantOfMemory}
use Rattle.jc_class_out.specs.declared.model.ClassModel.{ClassModel}
use Rattle.jc_outside.specs.Told.{Gets, GetsPart, Stays}
use Rattle.jc_machine.specs.declared.machine.Stepped.{Stepped}
use Rattle.jc_machine.specs.declared.act.Turn.{Turn}
use Rattle.jc_machine.specs.Table.{State, Move, step_of}
use Rattle.jc_machine.specs.Runs.{Seen, RunsAs, first, turn_of, run_turn, run_after, run_of}

-- how far a run has come: what it has put, what waits, and what is left
pub record Far (before now : Option (List ℕ)) (put waits : List ℕ) (whole rest : Seen) (faults_before faults_now : ℕ) : Type 0 where
  pub told : Gets before put now
  pub run : whole ≡ first (put ++ waits) rest
  pub later : faults_before ≤ faults_now

pub run_step : (classes : List ClassModel) (n i : ℕ) (s : State) → i < n → run_of classes (n - i) s ≡ run_after (step_of classes s) (run_of classes (n - (i + 1)))
unfolding run_of
run_step classes n i s below =
    let e : n - i ≡ suc (n - (i + 1)) = omega arith in
    rw e refl

-- a byte more waits
pub waits_more : (before now : Option (List ℕ)) (put waits : List ℕ) (whole : Seen) (b : ℕ) (rest : Seen) (f f' : ℕ) → Far before now put waits whole (first (b ∷ []) rest) f f' → Far before now put (waits ++ b ∷ []) whole rest f f'
waits_more before now put waits whole b rest f f' far = record {
  told = far.told;
  run = far.run ∙ ap (λ (out : List ℕ). record rest { output = out }) (sym (append_assoc (put ++ waits) (b ∷ []) rest.output)) ∙ ap (λ (out : List ℕ). first out rest) (append_assoc put waits (b ∷ []));
  later = far.later;
}

gets_both : (before now after : Option (List ℕ)) (a b : List ℕ) → Gets before a now → Gets now b after → Gets before (a ++ b) after
gets_both None now after a b first second = tt
gets_both (Some old) now after a b first second = subst (λ (n : Option (List ℕ)). Gets n b after) first second ∙ ap (λ (l : List ℕ). Some l) (append_assoc old a b)

whole_out : (put waits : List ℕ) (whole rest : Seen) → whole ≡ first (put ++ waits) rest → whole.output ≡ put ++ (waits ++ rest.output)
whole_out put waits whole rest e = ap (λ (w : Seen). w.output) e ∙ append_assoc put waits rest.output

-- a first part of the run is put
pub part_put : (before now : Option (List ℕ)) (put waits : List ℕ) (whole rest : Seen) (f f' : ℕ) → Far before now put waits whole rest f f' → GetsPart before whole.output now
part_put None now put waits whole rest f f' far = tt
part_put (Some old) now put waits whole rest f f' far =
    let out = whole_out put waits whole rest far.run in
    let long : length put ≤ length whole.output = omega (arith, ap length out, length-append put (waits ++ rest.output)) in
    (length put, long, far.told ∙ ap (λ (l : List ℕ). Some (old ++ l)) (sym (ap (take (length put)) out ∙ take-append_seam put (waits ++ rest.output))))

-- and some of what waited too
pub part_put_more : (before now after : Option (List ℕ)) (put waits : List ℕ) (whole rest : Seen) (f f' : ℕ) → Far before now put waits whole rest f f' → GetsPart now waits after → GetsPart before whole.output after
part_put_more None now after put waits whole rest f f' far part = tt
part_put_more (Some old) now after put waits whole rest f f' far part =
    let out = whole_out put waits whole rest far.run in
    let some = subst (λ (n : Option (List ℕ)). GetsPart n waits after) far.told part in
    let long : length put + some.0 ≤ length whole.output = omega (arith, some.1, ap length out, length-append put (waits ++ rest.output), length-append waits rest.output) in
    let taken : take (length put + some.0) whole.output ≡ put ++ take some.0 waits =
    ap (take (length put + some.0)) out ∙ take-append-add put (waits ++ rest.output) some.0 ∙ ap (λ (l : List ℕ). put ++ l) (take-append-le some.0 waits rest.output some.1) in
    (length put + some.0, long, some.2 ∙ ap (λ (l : List ℕ). Some l) (append_assoc old put (take some.0 waits)) ∙ ap (λ (l : List ℕ). Some (old ++ l)) (sym taken))

-- a run that is over has put what waited
pub all_put : (before now : Option (List ℕ)) (put waits : List ℕ) (whole : Seen) (ran : Ran) (s : State) (f f' : ℕ) → Far before now put waits whole (record { output = []; ending = ran; after = s }) f f' → (after : Option (List ℕ)) → Gets now waits after → Gets before whole.output after
all_put before now put waits whole ran s f f' far after gets =
    let out = ap (λ (w : Seen). w.output) far.run ∙ append-nil (put ++ waits) in
    rw out (gets_both before now after put waits far.told gets)

-- and ends as the rest does
pub over_as : (before now : Option (List ℕ)) (put waits : List ℕ) (whole : Seen) (ran : Ran) (s : State) (f f' : ℕ) → Far before now put waits whole (record { output = []; ending = ran; after = s }) f f' → RunsAs whole ran s
over_as before now put waits whole ran s f f' far = record {
  ending = sym (ap (λ (w : Seen). w.ending) far.run);
  state = sym (ap (λ (w : Seen). w.after) far.run);
}

-- a step more
pub after_step : (before now : Option (List ℕ)) (put waits : List ℕ) (whole : Seen) (f f' : ℕ) (classes : List ClassModel) (n i : ℕ) (s s' : State) (stepped : Stepped) (turn : Turn) → Far before now put waits whole (run_of classes (n - i) s) f f' → i < n → step_of classes s ≡ (stepped, s') → turn ≡ turn_of stepped → Far before now put waits whole (run_turn turn s' (run_of classes (n - (i + 1)))) f f'
after_step before now put waits whole f f' classes n i s s' stepped turn far below e t = record {
  told = far.told;
  run = far.run ∙ ap (first (put ++ waits)) (run_step classes n i s below ∙ ap (λ (m : Move). run_after m (run_of classes (n - (i + 1)))) e ∙ ap (λ (u : Turn). run_turn u s' (run_of classes (n - (i + 1)))) (sym t));
  later = far.later;
}

pub part_stays : (before now after : Option (List ℕ)) (out : List ℕ) → GetsPart before out now → Stays now after → GetsPart before out after
part_stays None now after out part stays = tt
part_stays (Some old) now after out part stays = let kept = subst (λ (n : Option (List ℕ)). Stays n after) part.2 stays in (part.0, part.1, kept)

-- after the last step nothing is left
pub at_end : (before now : Option (List ℕ)) (put waits : List ℕ) (whole : Seen) (f f' : ℕ) (classes : List ClassModel) (n i : ℕ) (s : State) → Far before now put waits whole (run_of classes (n - i) s) f f' → n ≤ i → Far before now put waits whole (record { output = []; ending = StepsReached; after = s }) f f'
unfolding run_of
at_end before now put waits whole f f' classes n i s far over =
    let e : n - i ≡ zero = omega arith in
    record { told = far.told; run = far.run ∙ ap (λ (k : ℕ). first (put ++ waits) (run_of classes k s)) e; later = far.later }

-- what finish promises of an end
abbrev pub Finishes : Result Ran WantOfMemory → Ran → Option (List ℕ) → List ℕ → Option (List ℕ) → Type 0
Finishes r ran now waits after = IfOk r (λ x. x ≢ OutFault → Gets now waits after × (x ≡ ran))

pub finish_ran : (before now : Option (List ℕ)) (put waits : List ℕ) (whole : Seen) (ran : Ran) (s : State) (f f' : ℕ) → Far before now put waits whole (record { output = []; ending = ran; after = s }) f f' → (r : Result Ran WantOfMemory) (after : Option (List ℕ)) → Finishes r ran now waits after → IfOk r (λ x. x ≢ OutFault → RunsAs whole x s)
finish_ran before now put waits whole ran s f f' far (Ok x) after h = λ ne. rw (h ne).1 (over_as before now put waits whole ran s f f' far)
finish_ran before now put waits whole ran s f f' far (Err e) after h = tt

pub finish_all : (before now : Option (List ℕ)) (put waits : List ℕ) (whole : Seen) (ran : Ran) (s : State) (f f' : ℕ) → Far before now put waits whole (record { output = []; ending = ran; after = s }) f f' → (r : Result Ran WantOfMemory) (after : Option (List ℕ)) → Finishes r ran now waits after → IfOk r (λ x. x ≢ OutFault → Gets before whole.output after)
finish_all before now put waits whole ran s f f' far (Ok x) after h = λ ne. all_put before now put waits whole ran s f f' far after (h ne).0
finish_all before now put waits whole ran s f f' far (Err e) after h = tt

-- bytes are put of those that wait
pub put_some : (before now after : Option (List ℕ)) (put waits more left : List ℕ) (whole rest : Seen) (f f' f'' : ℕ) → Far before now put waits whole rest f f' → Gets now more after → waits ≡ more ++ left → f' ≤ f'' → Far before after (put ++ more) left whole rest f f''
put_some before now after put waits more left whole rest f f' f'' far gets e later = record {
  told = gets_both before now after put more far.told gets;
  run = far.run ∙ ap (λ (l : List ℕ). first l rest) (ap (λ (l : List ℕ). put ++ l) e ∙ sym (append_assoc put more left));
  later = omega (arith, far.later, later);
}
