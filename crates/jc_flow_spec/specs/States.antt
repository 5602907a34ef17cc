-- Steps of a walk over statements.
use Rattle.std.specs.Prelude.{ℕ, Bool, true, false, not, ◌&&◌, ◌||◌, ◌==◌, List, [], ◌∷◌, ◌++◌, if◌then◌else◌}
use Rattle.jc_rules.specs.declared.rule.Place.{Place}
use Rattle.jc_rules.specs.declared.rule.Refusal.{Refusal}
use Rattle.jc_types.specs.declared.form.Ty.{Ty}
use Rattle.jc_typed.specs.Copies.{is_among}
use Rattle.jc_flow_spec.specs.declared.flow.Thrown.{Thrown}
use Rattle.jc_flow_spec.specs.declared.flow.Ways.{Ways}
use Rattle.jc_flow_spec.specs.declared.flow.Exact.{Exact}
use Rattle.jc_flow_spec.specs.declared.flow.Flow.{Flow}

-- control comes here or not
unfoldable pub with_live : Bool → Flow → Flow
with_live b s = record { live = b; ways = s.ways; assigned = s.assigned; exact = s.exact; broken = s.broken }

-- the ways out
unfoldable pub with_ways : Ways → Flow → Flow
with_ways w s = record { live = s.live; ways = w; assigned = s.assigned; exact = s.exact; broken = s.broken }

unfoldable pub with_thrown : List Thrown → Flow → Flow
with_thrown xs s = record { live = s.live; ways = record { breaks = s.ways.breaks; continues = s.ways.continues; thrown = xs }; assigned = s.assigned; exact = s.exact; broken = s.broken }

abbrev pub no_ways : Ways
no_ways = record { breaks = []; continues = []; thrown = [] }

-- a rule is broken at a place
unfoldable pub breaks_rule : ℕ → Place → Flow → Flow
breaks_rule rule p s = record { live = s.live; ways = s.ways; assigned = s.assigned; exact = s.exact; broken = s.broken ++ record { rule = rule; place = p; have = 0 } ∷ [] }

-- the same as a list of one break, or of none
abbrev pub break_of : Bool → ℕ → Place → List Refusal
break_of true rule p = record { rule = rule; place = p; have = 0 } ∷ []
break_of false rule p = []

abbrev pub breaks_if : Bool → ℕ → Place → Flow → Flow
breaks_if true rule p s = breaks_rule rule p s
breaks_if false rule p s = s

-- a local variable is assigned
unfoldable pub assigns : ℕ → Flow → Flow
assigns n s = record { live = s.live; ways = s.ways; assigned = s.assigned ++ n ∷ []; exact = s.exact; broken = s.broken }

-- these types, thrown at a place
abbrev pub thrown_at : Place → List Ty → List Thrown
thrown_at p [] = []
thrown_at p (t ∷ ts) = record { ty = t; place = p } ∷ thrown_at p ts

-- types are thrown; control may go on
unfoldable pub throws : Place → List Ty → Flow → Flow
throws p ts s = record { live = s.live; ways = record { breaks = s.ways.breaks; continues = s.ways.continues; thrown = s.ways.thrown ++ thrown_at p ts }; assigned = s.assigned; exact = s.exact; broken = s.broken }

-- a number joins a list that hasn't got it yet; numbers other than t stay
abbrev pub joined : ℕ → List ℕ → List ℕ
joined t ts = if is_among t ts then ts else ts ++ t ∷ []

abbrev pub joined_all : List ℕ → List ℕ → List ℕ
joined_all ts [] = ts
joined_all ts (u ∷ us) = joined_all (joined u ts) us

abbrev pub without : ℕ → List ℕ → List ℕ
without t [] = []
without t (u ∷ us) = if t == u then without t us else u ∷ without t us

-- a reachable jump ends the statement t, or goes on with it (JLS 14.15, 14.16)
abbrev pub with_break : ℕ → Ways → Ways
with_break t w = record { breaks = joined t w.breaks; continues = w.continues; thrown = w.thrown }

abbrev pub with_continue : ℕ → Ways → Ways
with_continue t w = record { breaks = w.breaks; continues = joined t w.continues; thrown = w.thrown }

unfoldable pub breaks_out : ℕ → Flow → Flow
breaks_out t s = with_live false (if s.live then with_ways (with_break t s.ways) s else s)

unfoldable pub goes_on : ℕ → Flow → Flow
goes_on t s = with_live false (if s.live then with_ways (with_continue t s.ways) s else s)

-- behind the body of a loop: control comes to its test by a jump too
unfoldable pub again : ℕ → Flow → Flow
again t s = with_live (s.live || is_among t s.ways.continues) s

-- behind the statement t, to whose end control comes without a jump where `falls` holds: jumps that end it come here
unfoldable pub left : ℕ → Bool → Flow → Flow
left t falls s = record {
  live = falls || is_among t s.ways.breaks;
  ways = record { breaks = without t s.ways.breaks; continues = without t s.ways.continues; thrown = s.ways.thrown };
  assigned = s.assigned;
  exact = s.exact;
  broken = s.broken;
}

-- behind a labelled statement, a `do` whose test may fail or not, and a switch to whose end control may come from its selector
abbrev pub label_end : ℕ → Flow → Flow
label_end t s = left t s.live s

abbrev pub do_end : ℕ → Bool → Flow → Flow
do_end t fails s = left t (s.live && fails) s

abbrev pub switch_end : ℕ → Bool → Flow → Flow
switch_end t passes s = left t (s.live || passes) s

-- behind one of several branches: control comes here by this one, or by an earlier one
abbrev pub either : Bool → Flow → Flow
either other s = with_live (other || s.live) s

-- a branch that begins where `entry` holds
abbrev pub branch : Bool → (Flow → Flow) → Flow → Flow
branch entry f s = either s.live (f (with_live entry s))

-- a statement begins: 701 where control doesn't come here (JLS 14.21)
unfoldable pub reached : Place → Flow → Flow
reached p s = breaks_if (not s.live) 701 p s

-- the ways of an earlier part and of a later one
abbrev pub both_ways : Ways → Ways → Ways
both_ways a b = record { breaks = joined_all a.breaks b.breaks; continues = joined_all a.continues b.continues; thrown = a.thrown ++ b.thrown }

-- behind a `try` without `finally`: its ways join those from before
unfoldable pub closed : Ways → Flow → Flow
closed outer s = with_ways (both_ways outer s.ways) s

-- behind `finally`, with the state before that block: a block that can't complete swallows what came to it (JLS 11.2, 14.20.2)
unfoldable pub through : Ways → Bool → Ways → Flow → Flow
through outer entry inner s =
    if s.live then with_live entry (with_ways (both_ways (both_ways outer inner) s.ways) s) else with_ways (both_ways outer s.ways) s

-- in the block of a catch clause, and behind it
unfoldable pub catching : ℕ → List Ty → Flow → Flow
catching n types s = record { live = s.live; ways = s.ways; assigned = s.assigned; exact = s.exact ++ record { local = n; types = types } ∷ []; broken = s.broken }

abbrev pub front : List Exact → List Exact
front [] = []
front (x ∷ []) = []
front (x ∷ y ∷ more) = x ∷ front (y ∷ more)

unfoldable pub caught : Flow → Flow
caught s = record { live = s.live; ways = s.ways; assigned = s.assigned; exact = front s.exact; broken = s.broken }

-- the types that a parameter is thrown again with; a variable that is none has its own type
abbrev pub exact_or : List Ty → ℕ → List Exact → List Ty
exact_or own n [] = own
exact_or own n (x ∷ more) = if n == x.local then x.types else exact_or own n more
