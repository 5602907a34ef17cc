-- What is known of one variable at a point, and steps that change it (JLS 16).
use Rattle.std.specs.Prelude.{ℕ, ◌==◌, Bool, true, false, not, ◌&&◌, ◌||◌, List, [], ◌∷◌, ◌++◌, if◌then◌else◌}
use Rattle.jc_rules.specs.declared.rule.Place.{Place}
use Rattle.jc_rules.specs.declared.rule.Refusal.{Refusal}
use Rattle.jc_assign_spec.specs.declared.marks.Mark.{Mark}
use Rattle.jc_assign_spec.specs.declared.marks.Jump.{Jump}
use Rattle.jc_assign_spec.specs.declared.marks.Jump.TheVariants.{Break, Continue, Return}
use Rattle.jc_assign_spec.specs.declared.marks.Exit.{Exit}

-- where control can't come, everything holds: "V is [un]assigned after any statement that cannot complete normally"
abbrev pub free : Mark
free = record { set = true; unset = true }

-- a variable that was just declared, and one that was just assigned
abbrev pub fresh : Mark
fresh = record { set = false; unset = true }

abbrev pub gone : Mark
gone = record { set = true; unset = false }

-- what holds by both ways that come together
abbrev pub meet : Mark → Mark → Mark
meet a b = record { set = a.set && b.set; unset = a.unset && b.unset }

-- what holds at the end of `finally` where control came to it with a mark: what either assigned (JLS 16.2.15)
abbrev pub over : Mark → Mark → Mark
over last came = record { set = came.set || last.set; unset = came.unset && last.unset }

-- what a walk knows: the variable's mark, whether it was assigned since the begin of the innermost `try`, whether it has its value from
-- where it is declared, where jumps left, and the broken rules
pub record Known : Type 0 where
  pub now : Mark
  pub wrote : Bool
  pub fixed : Bool
  pub exits : List Exit
  pub broken : List Refusal

unfoldable pub with_now : Mark → Known → Known
with_now m s = record { now = m; wrote = s.wrote; fixed = s.fixed; exits = s.exits; broken = s.broken }

unfoldable pub with_exits : List Exit → Known → Known
with_exits xs s = record { now = s.now; wrote = s.wrote; fixed = s.fixed; exits = xs; broken = s.broken }

-- what comes together with another mark
abbrev pub met : Mark → Known → Known
met m s = with_now (meet m s.now) s

abbrev pub broken_if : Bool → ℕ → Place → List Refusal → List Refusal
broken_if true rule p bs = bs ++ record { rule = rule; place = p; have = 0 } ∷ []
broken_if false rule p bs = bs

-- the value of the variable is used: 705 where it isn't definitely assigned (JLS 16)
unfoldable pub used : Place → Known → Known
used p s = record { now = s.now; wrote = s.wrote; fixed = s.fixed; exits = s.exits; broken = broken_if (not s.now.set) 705 p s.broken }

-- the variable is assigned: 706 where it is final and has its value from where it is declared, or isn't definitely unassigned
-- (JLS 4.12.4, 8.3.1.2, 16)
unfoldable pub written : Bool → Place → Known → Known
written is_final p s = record { now = gone; wrote = true; fixed = s.fixed; exits = s.exits; broken = broken_if (is_final && (s.fixed || not s.now.unset)) 706 p s.broken }

-- the variable is declared, with an initialiser that was evaluated or without one (JLS 16.2.4)
unfoldable pub declared : Bool → Known → Known
declared has_value s = record { now = if has_value then gone else fresh; wrote = s.wrote; fixed = has_value; exits = s.exits; broken = s.broken }

-- the variable gets a value that no assignment gives it: that of an enhanced `for`, and the parameter of a clause, which may not be
-- assigned where it has several alternatives (JLS 14.14.2, 14.20)
unfoldable pub given : Bool → Known → Known
given fixed s = record { now = gone; wrote = s.wrote; fixed = fixed; exits = s.exits; broken = s.broken }

-- of two jumps whether they go the same way
abbrev pub same_jump : Jump → Jump → Bool
same_jump (Break t) (Break u) = t == u
same_jump (Continue t) (Continue u) = t == u
same_jump Return Return = true
same_jump _ _ = false

-- what holds by all jumps of these that go one way, and the others
abbrev pub jumped_here : Jump → List Exit → Mark
jumped_here j [] = free
jumped_here j (x ∷ xs) = if same_jump j x.jump then meet x.mark (jumped_here j xs) else jumped_here j xs

abbrev pub others : Jump → List Exit → List Exit
others j [] = []
others j (x ∷ xs) = if same_jump j x.jump then others j xs else x ∷ others j xs

-- a jump leaves: behind it everything holds
unfoldable pub jumps : Jump → Known → Known
jumps j s = with_now free (with_exits (s.exits ++ record { jump = j; mark = s.now } ∷ []) s)

-- where jumps come to: what holds by falling there and by each of them
unfoldable pub landed : Jump → Known → Known
landed j s = with_exits (others j s.exits) (met (jumped_here j s.exits) s)

-- behind a statement that can't complete
abbrev pub cut : Known → Known
cut s = with_now free s

-- after each of the two answers of a test
pub record Split : Type 0 where
  pub yes : Known
  pub no : Mark

abbrev pub joined : Split → Known
joined r = met r.no r.yes

abbrev pub alike : Known → Split
alike s = record { yes = s; no = s.now }

-- a test that always holds, and one that never does (JLS 16.1.1)
abbrev pub never_no : Known → Split
never_no s = record { yes = s; no = free }

abbrev pub never_yes : Known → Split
never_yes s = record { yes = with_now free s; no = s.now }

abbrev pub turned : Split → Split
turned r = record { yes = with_now r.no r.yes; no = r.yes.now }
