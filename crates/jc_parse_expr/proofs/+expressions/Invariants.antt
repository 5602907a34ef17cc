use Rattle.std.proofs.Common.{◌≡◌, ◌+◌, ◌-◌, ◌*◌, ◌<◌, ◌≤◌, ◌^◌, length}
use Rattle.jc_reading.specs.Giving.{Is}
use Rattle.jc_reading.specs.Reading.{any_number, as_new, becoming, behind_it, commas_run, in_turn, of_kind}
use Rattle.jc_reading.proofs.Turns.{Resumes}
use Rattle.jc_expr_laws.specs.CompareReading.{behind_part, compared_operand, next_comparison_run}
use Rattle.jc_parse_expr.specs.BinaryLevels.{levels_at, looseness, operand_run, operands_run, tighter_run}
use Rattle.jc_parse_expr.specs.Measuring.{measured, measured_operands}
use Rattle.jc_parse_expr.proofs.LinkTurns.{LinkResumes}
use Rattle.jc_tree.specs.Heights.{capped, expr_height}
use Rattle.jc_reading.specs.Kinds.{sign_code}
use Rattle.jc_parse_expr.specs.PrimeCode.{IsMeasured, expr_in, exprs_height, init_in, inits_height, length_run, of_selector, selected_on, selector_at}
use Rattle.jc_parse_expr.proofs.Grows.{Grows}
use Rattle.jc_parse_expr.specs.declared.operators.Level.TheVariants as level_of
use Rattle.jc_lexer.specs.declared.token.Sign.TheVariants as sign_of
use Rattle.jc_parse_expr.proofs.+expressions.Given as goal

abbrev pub decreases-levels::assigned : goal.decreases-levels::assigned
decreases-levels::assigned l = 100 * l.height + 45

abbrev pub decreases-levels::binary : goal.decreases-levels::binary
decreases-levels::binary l = 100 * l.height + (24 + 2 * looseness l.level)

abbrev pub decreases-levels::chained : goal.decreases-levels::chained
decreases-levels::chained l = 100 * l.height + 22

abbrev pub decreases-levels::with_assignment : goal.decreases-levels::with_assignment
decreases-levels::with_assignment l = 100 * l.height + 22

abbrev pub decreases-levels::with_choice : goal.decreases-levels::with_choice
decreases-levels::with_choice l = 100 * l.height + 22

abbrev pub invariant-levels::binary-levels : goal.invariant-levels::binary-levels
invariant-levels::binary-levels l = record {
  read : Is l.found (becoming measured (tighter_run l.next (levels_at l.height) l.fn.tokens));
  tighter : looseness l.next ≤ looseness l.level;
}

abbrev pub decreases-levels::binary-levels : goal.decreases-levels::binary-levels
decreases-levels::binary-levels l = looseness l.level - looseness l.next

abbrev pub decreases-levels::first_branch : goal.decreases-levels::first_branch
decreases-levels::first_branch l = 100 * l.height + 46

abbrev pub decreases-levels::comparison : goal.decreases-levels::comparison
decreases-levels::comparison l = 100 * l.height + 43

abbrev pub decreases-levels::comparisons : goal.decreases-levels::comparisons
decreases-levels::comparisons l = 100 * l.height + 44

abbrev pub decreases-levels::conditional : goal.decreases-levels::conditional
decreases-levels::conditional l = 100 * l.height + 43

abbrev pub decreases-levels::expr : goal.decreases-levels::expr
decreases-levels::expr l = 100 * l.height + 44

abbrev pub decreases-levels::operand : goal.decreases-levels::operand
decreases-levels::operand l = 100 * l.height + (24 + 2 * looseness l.level)

abbrev pub decreases-levels::operands : goal.decreases-levels::operands
decreases-levels::operands l = 100 * l.height + 45

abbrev pub decreases-levels::otherwise : goal.decreases-levels::otherwise
decreases-levels::otherwise l = 100 * l.height + 44

abbrev pub decreases-levels::same_operands : goal.decreases-levels::same_operands
decreases-levels::same_operands l = 100 * l.height + 44

abbrev pub decreases-levels::tighter : goal.decreases-levels::tighter
decreases-levels::tighter l = 100 * l.height + (23 + 2 * looseness l.level)

abbrev pub decreases-unaries::bare : goal.decreases-unaries::bare
decreases-unaries::bare l = 100 * l.height + 20

abbrev pub decreases-unaries::cast : goal.decreases-unaries::cast
decreases-unaries::cast l = 100 * l.height + 23

abbrev pub decreases-unaries::cast_operand : goal.decreases-unaries::cast_operand
decreases-unaries::cast_operand l = 100 * l.height + 22

abbrev pub decreases-unaries::plain : goal.decreases-unaries::plain
decreases-unaries::plain l = 100 * l.height + 21

abbrev pub decreases-unaries::prefixed : goal.decreases-unaries::prefixed
decreases-unaries::prefixed l = 100 * l.height + 21

abbrev pub decreases-unaries::unary : goal.decreases-unaries::unary
decreases-unaries::unary l = 100 * l.height + 21

abbrev pub invariant-levels::same_operands-operands : goal.invariant-levels::same_operands-operands
invariant-levels::same_operands-operands l = record {
  read : Resumes (any_number (operand_run l.level (tighter_run l.level (levels_at l.height))) l.fn.tokens) l.list l.left (operand_run l.level (tighter_run l.level (levels_at l.height))) l.rest;
  high : l.most ≡ (measured_operands l.list).height;
  few : length l.rest < 2 ^ 32;
}

abbrev pub decreases-levels::same_operands-operands : goal.decreases-levels::same_operands-operands
decreases-levels::same_operands-operands l = length l.rest

abbrev pub invariant-levels::comparisons-links : goal.invariant-levels::comparisons-links
invariant-levels::comparisons-links l = record {
  read : LinkResumes compared_operand behind_part (next_comparison_run l.height (levels_at l.height).shift) (operands_run level_of.Compared l.height (levels_at l.height).shift l.fn.tokens) l.list l.left l.opened l.touched l.rest;
  high : l.most ≡ (measured_operands l.list).height;
  few : length l.rest < 2 ^ 32;
}

abbrev pub decreases-levels::comparisons-links : goal.decreases-levels::comparisons-links
decreases-levels::comparisons-links l = length l.rest

abbrev pub decreases-primes::post : goal.decreases-primes::post
decreases-primes::post l = 100 * l.height

abbrev pub decreases-lists::array_init : goal.decreases-lists::array_init
decreases-lists::array_init l = 100 * l.height + 1

abbrev pub decreases-lists::inner : goal.decreases-lists::inner
decreases-lists::inner l = 100 * l.height + 51

abbrev pub decreases-lists::comma_expr : goal.decreases-lists::comma_expr
decreases-lists::comma_expr l = 100 * l.height + 52

abbrev pub decreases-creations::index : goal.decreases-creations::index
decreases-creations::index l = 100 * l.height + 52

abbrev pub decreases-primes::closed : goal.decreases-primes::closed
decreases-primes::closed l = 100 * l.height + 52

abbrev pub decreases-primes::parens : goal.decreases-primes::parens
decreases-primes::parens l = 100 * l.height + 53

abbrev pub decreases-lists::exprs : goal.decreases-lists::exprs
decreases-lists::exprs l = 100 * l.height + 53

abbrev pub decreases-lists::init : goal.decreases-lists::init
decreases-lists::init l = 100 * l.height + 53

abbrev pub decreases-creations::initial : goal.decreases-creations::initial
decreases-creations::initial l = 100 * l.height + 53

abbrev pub decreases-creations::length_in : goal.decreases-creations::length_in
decreases-creations::length_in l = 100 * l.height + 53

abbrev pub decreases-creations::lengths : goal.decreases-creations::lengths
decreases-creations::lengths l = 100 * l.height + 54

abbrev pub decreases-lists::some_exprs : goal.decreases-lists::some_exprs
decreases-lists::some_exprs l = 100 * l.height + 54

abbrev pub decreases-lists::comma_init : goal.decreases-lists::comma_init
decreases-lists::comma_init l = 100 * l.height + 54

abbrev pub decreases-lists::inits : goal.decreases-lists::inits
decreases-lists::inits l = 100 * l.height + 55

abbrev pub decreases-creations::with_lengths : goal.decreases-creations::with_lengths
decreases-creations::with_lengths l = 100 * l.height + 55

abbrev pub decreases-lists::actuals : goal.decreases-lists::actuals
decreases-lists::actuals l = 100 * l.height + 55

abbrev pub decreases-lists::row : goal.decreases-lists::row
decreases-lists::row l = 100 * l.height + 56

abbrev pub decreases-members::called : goal.decreases-members::called
decreases-members::called l = 100 * l.height + 56

abbrev pub decreases-members::named : goal.decreases-members::named
decreases-members::named l = 100 * l.height + 56

abbrev pub decreases-members::started_name : goal.decreases-members::started_name
decreases-members::started_name l = 100 * l.height + 56

abbrev pub decreases-creations::array_tail : goal.decreases-creations::array_tail
decreases-creations::array_tail l = 100 * l.height + 56

abbrev pub decreases-creations::object_parts : goal.decreases-creations::object_parts
decreases-creations::object_parts l = 100 * l.height + 56

abbrev pub decreases-members::member : goal.decreases-members::member
decreases-members::member l = 100 * l.height + 57

abbrev pub decreases-creations::class_tail : goal.decreases-creations::class_tail
decreases-creations::class_tail l = 100 * l.height + 57

abbrev pub decreases-creations::creation : goal.decreases-creations::creation
decreases-creations::creation l = 100 * l.height + 58

abbrev pub decreases-members::super_member : goal.decreases-members::super_member
decreases-members::super_member l = 100 * l.height + 58

abbrev pub decreases-members::member_selector : goal.decreases-members::member_selector
decreases-members::member_selector l = 100 * l.height + 58

abbrev pub decreases-creations::created_at : goal.decreases-creations::created_at
decreases-creations::created_at l = 100 * l.height + 59

abbrev pub decreases-members::new_selector : goal.decreases-members::new_selector
decreases-members::new_selector l = 100 * l.height + 59

abbrev pub decreases-members::bracketed : goal.decreases-members::bracketed
decreases-members::bracketed l = 100 * l.height + 59

abbrev pub decreases-members::dotted : goal.decreases-members::dotted
decreases-members::dotted l = 100 * l.height + 60

abbrev pub decreases-primes::keyed : goal.decreases-primes::keyed
decreases-primes::keyed l = 100 * l.height + 60

abbrev pub decreases-members::pointed : goal.decreases-members::pointed
decreases-members::pointed l = 100 * l.height + 61

abbrev pub decreases-primes::plain_start : goal.decreases-primes::plain_start
decreases-primes::plain_start l = 100 * l.height + 61

abbrev pub decreases-members::selector : goal.decreases-members::selector
decreases-members::selector l = 100 * l.height + 62

abbrev pub decreases-members::selectors : goal.decreases-members::selectors
decreases-members::selectors l = 100 * l.height + 63

abbrev pub decreases-primes::plain_prime : goal.decreases-primes::plain_prime
decreases-primes::plain_prime l = 100 * l.height + 64

abbrev pub decreases-primes::prime : goal.decreases-primes::prime
decreases-primes::prime l = 100 * l.height + 65

-- loops

abbrev pub invariant-lists::exprs-commas : goal.invariant-lists::exprs-commas
invariant-lists::exprs-commas l =
    Resumes (commas_run (expr_in l.height) l.fn.tokens) l.list l.left (as_new behind_it (in_turn (of_kind (sign_code sign_of.Comma)) (expr_in l.height))) l.rest
    × (l.most ≡ capped (exprs_height l.list)) × (length l.rest < 2 ^ 32)

abbrev pub decreases-lists::exprs-commas : goal.decreases-lists::exprs-commas
decreases-lists::exprs-commas l = length l.rest

abbrev pub invariant-lists::inits-commas : goal.invariant-lists::inits-commas
invariant-lists::inits-commas l =
    Resumes (commas_run (init_in l.height) l.fn.tokens) l.list l.left (as_new behind_it (in_turn (of_kind (sign_code sign_of.Comma)) (init_in l.height))) l.rest
    × (l.most ≡ capped (inits_height l.list)) × (length l.rest < 2 ^ 32)

abbrev pub decreases-lists::inits-commas : goal.decreases-lists::inits-commas
decreases-lists::inits-commas l = length l.rest

abbrev pub invariant-creations::lengths-lengths : goal.invariant-creations::lengths-lengths
invariant-creations::lengths-lengths l =
    Resumes (any_number (length_run (expr_in l.height)) l.fn.tokens) l.list l.left (length_run (expr_in l.height)) l.rest × (l.most ≡ capped (exprs_height l.list)) × (length l.rest < 2 ^ 32)

abbrev pub decreases-creations::lengths-lengths : goal.decreases-creations::lengths-lengths
decreases-creations::lengths-lengths l = length l.rest

abbrev pub invariant-members::selectors-parts : goal.invariant-members::selectors-parts
invariant-members::selectors-parts l =
    Grows of_selector (selector_at l.height) (selected_on l.height l.fn.first.value.tree l.fn.first.rest.now l.fn.first.left) l.value.value.tree l.value.left l.value.rest.now × IsMeasured expr_height l.value.value
    × (length l.value.rest.now < 2 ^ 32)

abbrev pub decreases-members::selectors-parts : goal.decreases-members::selectors-parts
decreases-members::selectors-parts l = length l.value.rest.now
