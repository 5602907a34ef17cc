-- The machine puts out what a program says.
use Rattle.std.proofs.Common.{◌≡◌, ◌≤◌, ◌<◌, ℕ, zero, suc, ◌+◌, ◌-◌, Bool, true, false, List, [], ◌∷◌, ◌++◌, length, refl, ap, ◌∙◌, subst, append_assoc, arith, Option, Some, leb-true, length-append}
use Rattle.std.proofs.lemmas.Bool.{leb-false, ltb-true, ltb-false, le-ltb, lt-ltb}
use Rattle.jc_machine.specs.declared.machine.Ran.{Ran}
use Rattle.std.specs.Prelude.{flat_map, ℤ, pos, nat_le, nat_lt, ◌%◌, if◌then◌else◌}
use Rattle.std.specs.List.{AllByRecursion}
use Rattle.std.specs.Int.{w32, int_wrapping_add, cast_unsigned}
use Rattle.jc_class_out.specs.declared.model.Ins.{Ins}
use Rattle.jc_class_out.specs.declared.model.ClassModel.{ClassModel}
use Rattle.jc_class_out.specs.declared.model.Operand.TheVariants.{Nothing}
use Rattle.jc_machine.specs.declared.machine.Ending.TheVariants.{Ended as EndingEnded}
use Rattle.jc_machine.specs.declared.machine.Ran.TheVariants.{StepsReached, Ended as RanEnded}
use Rattle.jc_machine.specs.declared.machine.Stepped.TheVariants.{Went, Byte, Ended as SteppedEnded}
use Rattle.jc_machine.specs.declared.rows.Placed.{Placed}
use Rattle.jc_machine.specs.declared.rows.Row.{Row}
use Rattle.jc_machine.specs.declared.rows.Row.TheVariants.{Push, AddInt, GetOut, WriteByte, Return}
use Rattle.jc_machine.specs.declared.value.Value.{Value}
use Rattle.jc_machine.specs.declared.value.Value.TheVariants.{Whole, Address, NullValue}
use Rattle.jc_machine.specs.Code.{size_of}
use Rattle.jc_machine.specs.Rows.{row_of, plain_row}
use Rattle.jc_machine.specs.Table.{State, Going, Over, Move, step_of, act_if}
use Rattle.jc_machine.specs.Runs.{Seen, first, run_of, run_after}
use Rattle.jc_small.specs.Small.{Program, IsSum}
use Rattle.jc_small.specs.Meaning.{sum_after, byte_of, source_shows, Ended as SourceEnded, Going as SourceGoing}
use Rattle.jc_small.specs.ClassOf.{ins, const_ins, more_code, write_code, main_code, main_class, out_ins, write_ins}
use Rattle.jc_small.specs.Same.{Matches, EndsAs}
use Rattle.jc_small.proofs.Quiet.{Quiet, quiet_none, quiet_step}
use Rattle.jc_small.proofs.Standing.{Stands, stands_next, placed}

-- ---- instructions of constants

small_row : (n : ℕ) → n ≤ 5 → plain_row (n + 3) ≡ Some (Push (pos n))
small_row zero h = refl
small_row (suc zero) h = refl
small_row (suc (suc zero)) h = refl
small_row (suc (suc (suc zero))) h = refl
small_row (suc (suc (suc (suc zero)))) h = refl
small_row (suc (suc (suc (suc (suc zero))))) h = refl
small_row (suc (suc (suc (suc (suc (suc n)))))) h = absurd (omega arith)

const_row : (n : ℕ) → row_of (const_ins n) ≡ Some (Push (pos n))
const_row n = by_size (nat_le n 5) refl (nat_le n 127) refl (nat_le n 32767) refl
  where
    by_size : (a : Bool) → nat_le n 5 ≡ a → (b : Bool) → nat_le n 127 ≡ b → (d : Bool) → nat_le n 32767 ≡ d → row_of (const_ins n) ≡ Some (Push (pos n))
    by_size true ea b eb d ed = rw ea (small_row n (leb-true n 5 ea))
    by_size false ea true eb d ed = rw (ea, eb) refl
    by_size false ea false eb true ed = rw (ea, eb, ed) refl
    by_size false ea false eb false ed = rw (ea, eb, ed) refl

const_size : (at n : ℕ) → size_of at (const_ins n) ≤ 3
const_size at n = by_size (nat_le n 5) refl (nat_le n 127) refl (nat_le n 32767) refl
  where
    by_size : (a : Bool) → nat_le n 5 ≡ a → (b : Bool) → nat_le n 127 ≡ b → (d : Bool) → nat_le n 32767 ≡ d → size_of at (const_ins n) ≤ 3
    by_size true ea b eb d ed = rw ea (omega arith)
    by_size false ea true eb d ed = rw (ea, eb) (omega arith)
    by_size false ea false eb true ed = rw (ea, eb, ed) (omega arith)
    by_size false ea false eb false ed = rw (ea, eb, ed) (omega arith)

-- ---- endings

going_on : (writes units : ℕ) (ran : Ran) → units ≤ writes → ran ≡ StepsReached → EndsAs (if nat_lt writes units then SourceEnded else SourceGoing) ran
going_on writes units ran h e = rw (le-ltb writes units h) e

over : (writes units : ℕ) (ran : Ran) → writes < units → ran ≡ RanEnded → EndsAs (if nat_lt writes units then SourceEnded else SourceGoing) ran
over writes units ran h e = rw (lt-ltb writes units h) e

one_unit_more : (writes units : ℕ) (ran : Ran) → EndsAs (if nat_lt writes units then SourceEnded else SourceGoing) ran → EndsAs (if nat_lt (suc writes) (suc units) then SourceEnded else SourceGoing) ran
one_unit_more writes units ran e = by_test (nat_lt writes units) refl
  where
    by_test : (b : Bool) → nat_lt writes units ≡ b → EndsAs (if nat_lt (suc writes) (suc units) then SourceEnded else SourceGoing) ran
    by_test true t = over (suc writes) (suc units) ran (omega (arith, ltb-true writes units t)) (rw t at e)
    by_test false t = going_on (suc writes) (suc units) ran (omega (arith, ltb-false writes units t)) (rw t at e)

module _ (program : Program) where
  abbrev classes : List ClassModel
  classes = main_class program ∷ []

  -- main's frame
  abbrev pub frame : ℕ → List Value → State
  frame at values = Going (record { class = 0; method = 1; at = at; locals = Some NullValue ∷ []; stack = record { values = values; limit = 3 } }) []

  -- ---- steps

  -- a step in main's frame, at an instruction of this row
  stepped : (at : ℕ) (i : Ins) (rest : List Ins) (row : Row) (values : List Value) (move : Move) → row_of i ≡ Some row → size_of at i ≤ 3 → Stands program at (i ∷ rest)
      → act_if (Some (record { row = row; next = at + size_of at i })) (record { class = 0; method = 1; at = at; locals = Some NullValue ∷ []; stack = record { values = values; limit = 3 } }) [] ≡ move
      → step_of classes (frame at values) ≡ move
  stepped at i rest row values move r small s acts =
      ap (λ (p : Option Placed). act_if p (record { class = 0; method = 1; at = at; locals = Some NullValue ∷ []; stack = record { values = values; limit = 3 } }) []) (placed program at i rest row r small s) ∙ acts

  first_constant : (n at : ℕ) (rest : List Ins) → Stands program at (const_ins n ∷ rest) → step_of classes (frame at (Address 1 ∷ [])) ≡ (Went, frame (at + size_of at (const_ins n)) (Whole (pos n) ∷ Address 1 ∷ []))
  first_constant n at rest s = stepped at (const_ins n) rest (Push (pos n)) _ _ (const_row n) (const_size at n) s refl

  next_constant : (n at : ℕ) (a : ℤ) (rest : List Ins) → Stands program at (const_ins n ∷ rest)
      → step_of classes (frame at (Whole a ∷ Address 1 ∷ [])) ≡ (Went, frame (at + size_of at (const_ins n)) (Whole (pos n) ∷ Whole a ∷ Address 1 ∷ []))
  next_constant n at a rest s = stepped at (const_ins n) rest (Push (pos n)) _ _ (const_row n) (const_size at n) s refl

  sum_step : (a b : ℤ) (at : ℕ) (rest : List Ins) → Stands program at (ins 0x60 Nothing ∷ rest)
      → step_of classes (frame at (Whole b ∷ Whole a ∷ Address 1 ∷ [])) ≡ (Went, frame (at + 1) (Whole (int_wrapping_add w32 a b) ∷ Address 1 ∷ []))
  sum_step a b at rest s = stepped at (ins 0x60 Nothing) rest AddInt _ _ refl (omega arith) s refl

  out_step : (at : ℕ) (rest : List Ins) → Stands program at (out_ins ∷ rest) → step_of classes (frame at []) ≡ (Went, frame (at + 3) (Address 1 ∷ []))
  out_step at rest s = stepped at out_ins rest GetOut _ _ refl (omega arith) s refl

  write_step : (a : ℤ) (at : ℕ) (rest : List Ins) → Stands program at (write_ins ∷ rest) → step_of classes (frame at (Whole a ∷ Address 1 ∷ [])) ≡ (Byte (cast_unsigned w32 a % 256), frame (at + 3) [])
  write_step a at rest s = stepped at write_ins rest WriteByte _ _ refl (omega arith) s refl

  return_step : (at : ℕ) (rest : List Ins) → Stands program at (ins 0xb1 Nothing ∷ rest) → step_of classes (frame at []) ≡ (SteppedEnded, Over EndingEnded)
  return_step at rest s = stepped at (ins 0xb1 Nothing) rest Return _ _ refl (omega arith) s refl

  -- ---- writes

  -- numbers that are added to one on the stack
  record Added (ns : List ℕ) (a : ℤ) (at : ℕ) (rest : List Ins) : Type 0 where
    end : ℕ
    quiet : Quiet classes (length (more_code ns)) (frame at (Whole a ∷ Address 1 ∷ [])) (frame end (Whole (sum_after a ns) ∷ Address 1 ∷ []))
    stands : Stands program end rest

  add_numbers : (ns : List ℕ) (a : ℤ) (at : ℕ) (rest : List Ins) → Stands program at (more_code ns ++ rest) → Added ns a at rest
  add_numbers [] a at rest s = record { end = at; quiet = quiet_none classes _; stands = s }
  add_numbers (n ∷ ns) a at rest s =
      let one = stands_next program at (const_ins n) (ins 0x60 Nothing ∷ (more_code ns ++ rest)) (const_size at n) s in
      let two = stands_next program (at + size_of at (const_ins n)) (ins 0x60 Nothing) (more_code ns ++ rest) (omega arith) one in
      let more = add_numbers ns (int_wrapping_add w32 a (pos n)) (at + size_of at (const_ins n) + 1) rest two in
      record {
        end = more.end;
        quiet = quiet_step classes _ _ _ _ (next_constant n at a _ s) (quiet_step classes _ _ _ _ (sum_step a (pos n) (at + size_of at (const_ins n)) _ one) more.quiet);
        stands = more.stands;
      }

  -- a write: quiet steps, and then its byte
  record Written (ns : List ℕ) (at : ℕ) (rest : List Ins) : Type 0 where
    before : State
    end : ℕ
    steps : ℕ
    counted : steps + 1 ≡ length (write_code ns)
    quiet : Quiet classes steps (frame at []) before
    puts : step_of classes before ≡ (Byte (byte_of ns), frame end [])
    stands : Stands program end rest

  run_write : (ns : List ℕ) (at : ℕ) (rest : List Ins) → IsSum ns → Stands program at (write_code ns ++ rest) → Written ns at rest
  run_write [] at rest sum s = absurd sum
  run_write (n ∷ ns) at rest sum s =
      let shape = subst (Stands program at) (ap (λ (l : List Ins). out_ins ∷ const_ins n ∷ l) (append_assoc (more_code ns) (write_ins ∷ []) rest)) s in
      let one = stands_next program at out_ins (const_ins n ∷ (more_code ns ++ (write_ins ∷ rest))) (omega arith) shape in
      let two = stands_next program (at + 3) (const_ins n) (more_code ns ++ (write_ins ∷ rest)) (const_size (at + 3) n) one in
      let more = add_numbers ns (pos n) (at + 3 + size_of (at + 3) (const_ins n)) (write_ins ∷ rest) two in
      record {
        before = frame more.end (Whole (sum_after (pos n) ns) ∷ Address 1 ∷ []);
        end = more.end + 3;
        steps = suc (suc (length (more_code ns)));
        counted = omega (arith, length-append (more_code ns) (write_ins ∷ []));
        quiet = quiet_step classes _ _ _ _ (out_step at _ shape) (quiet_step classes _ _ _ _ (first_constant n (at + 3) _ one) more.quiet);
        puts = write_step (sum_after (pos n) ns) more.end rest more.stands;
        stands = stands_next program more.end write_ins rest (omega arith) more.stands;
      }

  -- ---- whole programs

  puts_first : (before next : State) (b r : ℕ) → step_of classes before ≡ (Byte b, next) → run_of classes (suc r) before ≡ first (b ∷ []) (run_of classes r next)
  unfolding run_of
  puts_first before next b r e = ap (λ (m : Move). run_after m (run_of classes r)) e

  nothing_shown : (left : Program) (s : State) → Matches (source_shows left 0) (run_of classes 0 s)
  unfolding run_of
  nothing_shown left s = record { output = refl; taken = refl; ending = going_on (length left) 0 _ (omega arith) refl }

  ended_at : (at r n : ℕ) → Stands program at (main_code []) → Matches (source_shows [] (suc n)) (run_of classes (suc r) (frame at []))
  unfolding run_of
  ended_at at r n s = let e = ap (λ (m : Move). run_after m (run_of classes r)) (return_step at [] s) in record { output = ap (λ (w : Seen). w.output) e; taken = refl; ending = over 0 (suc n) _ (omega arith) (ap (λ (w : Seen). w.ending) e) }

  -- what is shown behind a first write
  behind_write : (ns : List ℕ) (left : Program) (n : ℕ) (later all : Seen) → Matches (source_shows left n) later → all ≡ first (byte_of ns ∷ []) later → Matches (source_shows (ns ∷ left) (suc n)) all
  behind_write ns left n later all m e = rw e (record { output = ap (λ (l : List ℕ). byte_of ns ∷ l) m.output; taken = refl; ending = one_unit_more (length left) n _ m.ending })

  -- what the source shows within some units the machine shows within its steps
  pub forwards : (left : Program) (at units : ℕ) → AllByRecursion IsSum left → Stands program at (main_code left)
      → (steps : ℕ) × (steps ≤ length (main_code left)) × Matches (source_shows left units) (run_of classes steps (frame at []))
  forwards left at zero sums s = (0, omega arith, nothing_shown left (frame at []))
  forwards [] at (suc n) sums s = (1, omega arith, ended_at at 0 n s)
  forwards (ns ∷ left) at (suc n) sums s =
      let shape = subst (Stands program at) (append_assoc (write_code ns) (flat_map write_code left) (ins 0xb1 Nothing ∷ [])) s in
      let w = run_write ns at (main_code left) sums.0 shape in
      let later = forwards left w.end n sums.1 w.stands in
      let e : run_of classes (w.steps + suc later.0) (frame at []) ≡ first (byte_of ns ∷ []) (run_of classes later.0 (frame w.end [])) = w.quiet.then (suc later.0) ∙ puts_first w.before (frame w.end []) (byte_of ns) later.0 w.puts in (
        w.steps + suc later.0,
        omega (arith, w.counted, later.1, length-append (write_code ns) (main_code left), ap length (append_assoc (write_code ns) (flat_map write_code left) (ins 0xb1 Nothing ∷ []))),
        behind_write ns left n (run_of classes later.0 (frame w.end [])) _ later.2 e,
      )

  -- what the machine shows within some steps the source shows
  pub backwards : (left : Program) (at steps : ℕ) → AllByRecursion IsSum left → Stands program at (main_code left)
      → (units : ℕ) × Matches (source_shows left units) (run_of classes steps (frame at []))
  backwards [] at zero sums s = (0, nothing_shown [] (frame at []))
  backwards [] at (suc r) sums s = (1, ended_at at r 0 s)
  backwards (ns ∷ left) at steps sums s =
      let shape = subst (Stands program at) (append_assoc (write_code ns) (flat_map write_code left) (ins 0xb1 Nothing ∷ [])) s in
      let w = run_write ns at (main_code left) sums.0 shape in
      by_steps w (nat_le steps w.steps) refl (λ (r : ℕ). backwards left w.end r sums.1 w.stands)
    where
      by_steps : (w : Written ns at (main_code left)) (b : Bool) → nat_le steps w.steps ≡ b
          → ((r : ℕ) → (units : ℕ) × Matches (source_shows left units) (run_of classes r (frame w.end [])))
          → (units : ℕ) × Matches (source_shows (ns ∷ left) units) (run_of classes steps (frame at []))
      by_steps w true t later =
          let few = leb-true steps w.steps t in
          (0, record { output = w.quiet.silent steps few; taken = refl; ending = going_on (suc (length left)) 0 _ (omega arith) (w.quiet.going steps few) })
      by_steps w false t later =
          let many = leb-false steps w.steps t in
          let rest = later (steps - w.steps - 1) in
          let count : steps ≡ w.steps + suc (steps - w.steps - 1) = omega (arith, many) in
          let e : run_of classes steps (frame at []) ≡ first (byte_of ns ∷ []) (run_of classes (steps - w.steps - 1) (frame w.end [])) =
          ap (λ (k : ℕ). run_of classes k (frame at [])) count ∙ w.quiet.then (suc (steps - w.steps - 1)) ∙ puts_first w.before (frame w.end []) (byte_of ns) (steps - w.steps - 1) w.puts in
          (suc rest.0, behind_write ns left rest.0 _ _ rest.1 e)
