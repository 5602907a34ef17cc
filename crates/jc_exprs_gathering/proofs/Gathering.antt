-- Lists of parts: laws of what a walk has of them, in an arena that grows, and of how it goes through them.
use Rattle.std.proofs.Common.{◌≡◌, refl, ap, sym, ◌∙◌, ℕ, ◌<◌, ◌&&◌, Bool, true, false, IsTrue, List, [], ◌∷◌, ◌++◌, append_assoc, Option, Some, None, length, map}
use Rattle.std.proofs.lemmas.List.{append-nil}
use Rattle.std.specs.Prelude.{is_some}
use Rattle.jc_rules.specs.declared.rule.Refusal.{Refusal}
use Rattle.jc_types.specs.Breaks.{least}
use Rattle.jc_types.proofs.Least.{least_append}
use Rattle.jc_typed.specs.declared.nodes.Node.{Node}
use Rattle.jc_typed.specs.Parts.{Grows, operand_of}
use Rattle.jc_typed.specs.Trees.{Operand, NoOperand, operand}
use Rattle.jc_typed.proofs.Growing.{within}
use Rattle.jc_exprs_nodes_spec.specs.Told.{Told, Fine, Broken, Out, Run, Standing, standing, typed, breaks, ran, ran_of, joined, more, onto, every}
use Rattle.jc_exprs_nodes_spec.specs.Typeds.{Typed}
use Rattle.jc_exprs_nodes_spec.proofs.Runs.{ran_onward, ran_two}
use Rattle.jc_exprs_nodes.specs.Laws.{with_more}
use Rattle.jc_exprs_nodes.specs.Walks.{AllBelow, has, known, or_null}
use Rattle.jc_exprs_nodes.proofs.Staying.{has_stays, known_stays}
use Rattle.jc_exprs_gathering.specs.Gathered.{AllParts, EveryIsWalked, IsTyped, ListBehind, ListOfParts, all_there, gathered, has_all, has_operand, has_operands, if_given, walked, where_all}

-- ---- what stands at each of several places

module _ {A : Type 0} (f : ℕ → Option A) where
  none_left : (ats : List ℕ) → gathered f None ats ≡ None
  none_left [] = refl
  none_left (at ∷ ats) = none_left ats

  gathered_more : (o : Option (List A)) (ats : List ℕ) (at : ℕ) → gathered f o (ats ++ at ∷ []) ≡ with_more (gathered f o ats) (f at)
  gathered_more o [] at = refl
  gathered_more o (b ∷ ats) at = gathered_more (with_more o (f b)) ats at

module _ {A : Type 0} (f g : ℕ → Option A) where
  gathered_same : (n : ℕ) (h : (i : ℕ) → i < n → f i ≡ g i) (o : Option (List A)) (ats : List ℕ) → AllBelow n ats → gathered f o ats ≡ gathered g o ats
  gathered_same n h o [] b = refl
  gathered_same n h o (at ∷ ats) b = gathered_same n h (with_more o (f at)) ats b.1 ∙ ap (λ x. gathered g (with_more o x) ats) (h at b.0)

-- where something stands at each of them, it is what a function tells
module _ {A : Type 0} (f : ℕ → Option A) (k : ℕ → A) (h : (i : ℕ) (a : A) → f i ≡ Some a → k i ≡ a) where
  step : (at : ℕ) (ats : List ℕ) (ts : List A) (x : Option A) → f at ≡ x → ((us : List A) → gathered f (Some us) ats ≡ where_all (all_there f ats) (us ++ map k ats)) →
      gathered f (with_more (Some ts) x) ats ≡ where_all (is_some x && all_there f ats) (ts ++ k at ∷ map k ats)
  step at ats ts None e go = none_left f ats
  step at ats ts (Some a) e go =
      let s : k at ≡ a = h at a e in
      go (ts ++ a ∷ []) ∙ ap (where_all (all_there f ats)) (append_assoc ts (a ∷ []) (map k ats) ∙ ap (λ b. ts ++ b ∷ map k ats) (sym s))

  gathered_all : (ts : List A) (ats : List ℕ) → gathered f (Some ts) ats ≡ where_all (all_there f ats) (ts ++ map k ats)
  gathered_all ts [] = ap Some (sym (append-nil ts))
  gathered_all ts (at ∷ ats) = step at ats ts (f at) refl (λ us. gathered_all us ats)

-- ---- expressions

pub all_none : (ns : List Node) → has_all ns [] ≡ Some []
unfolding has_all
all_none ns = refl

pub all_more : (ns : List Node) (ats : List ℕ) (at : ℕ) → has_all ns (ats ++ at ∷ []) ≡ with_more (has_all ns ats) (has ns at)
unfolding has_all
all_more ns ats at = gathered_more (has ns) (Some []) ats at

-- in an arena that grows
pub all_stay : (ms ns : List Node) (ats : List ℕ) → Grows ms ns → AllBelow (length ms) ats → has_all ns ats ≡ has_all ms ats
unfolding has_all
all_stay ms ns ats g b = gathered_same (has ns) (has ms) (length ms) (λ i l. has_stays ms ns i g l) (Some []) ats b

told : (ns : List Node) (at : ℕ) (t : Typed) → has ns at ≡ Some t → known ns at ≡ t
unfolding known
told ns at t e = ap or_null e

pub all_known : (ns : List Node) (ats : List ℕ) → has_all ns ats ≡ where_all (all_there (has ns) ats) (map (known ns) ats)
unfolding has_all
all_known ns ats = gathered_all (has ns) (known ns) (told ns) [] ats

-- each of them is a part
is_part : (ns : List Node) (at : ℕ) (x : Option Typed) → has ns at ≡ x → IsTrue (is_some x) → at < length ns → IsTyped ns at
is_part ns at None e h b = absurd (cc h)
is_part ns at (Some t) e h b = record { it = e ∙ ap Some (sym (told ns at t e)); below = b }

both_true : (a b : Bool) → IsTrue (a && b) → IsTrue a × IsTrue b
both_true true true h = (refl, refl)
both_true true false h = absurd (cc h)
both_true false b h = absurd (cc h)

pub all_parts : (ns : List Node) (ats : List ℕ) → AllBelow (length ns) ats → IsTrue (all_there (has ns) ats) → AllParts ns ats
all_parts ns [] b h = tt
all_parts ns (at ∷ ats) b h =
    let two = both_true (is_some (has ns at)) (all_there (has ns) ats) h in
    (is_part ns at (has ns at) refl two.0 b.0, all_parts ns ats b.1 two.1)

pub ruleset all_typed = (all_known, all_parts)

-- parts are there, and stay what they are
parts_there : (ns : List Node) (ats : List ℕ) → AllParts ns ats → all_there (has ns) ats ≡ true
parts_there ns [] p = refl
parts_there ns (at ∷ ats) p = rw (p.0.it) (parts_there ns ats p.1)

pub parts_all : (ns : List Node) (ats : List ℕ) → AllParts ns ats → has_all ns ats ≡ Some (map (known ns) ats)
parts_all ns ats p = all_known ns ats ∙ ap (λ b. where_all b (map (known ns) ats)) (parts_there ns ats p)

pub typed_stays : (ms ns : List Node) (at : ℕ) → Grows ms ns → IsTyped ms at → IsTyped ns at
typed_stays ms ns at g t =
    record {
      it = has_stays ms ns at g t.below ∙ t.it ∙ ap Some (sym (known_stays ms ns at g t.below));
      below = within ms ns at g t.below;
    }

pub parts_stay : (ms ns : List Node) (ats : List ℕ) → Grows ms ns → AllParts ms ats → AllParts ns ats
parts_stay ms ns [] g p = tt
parts_stay ms ns (at ∷ ats) g p = (typed_stays ms ns at g p.0, parts_stay ms ns ats g p.1)

pub all_known_stay : (ms ns : List Node) (ats : List ℕ) → Grows ms ns → AllParts ms ats → map (known ns) ats ≡ map (known ms) ats
all_known_stay ms ns [] g p = refl
all_known_stay ms ns (at ∷ ats) g p = rw (known_stays ms ns at g p.0.below, all_known_stay ms ns ats g p.1) refl

pub parts_below : (ns : List Node) (ats : List ℕ) → AllParts ns ats → AllBelow (length ns) ats
parts_below ns [] p = tt
parts_below ns (at ∷ ats) p = (p.0.below, parts_below ns ats p.1)

pub below_stays : (ms ns : List Node) (ats : List ℕ) → Grows ms ns → AllBelow (length ms) ats → AllBelow (length ns) ats
below_stays ms ns [] g b = tt
below_stays ms ns (at ∷ ats) g b = (within ms ns at g b.0, below_stays ms ns ats g b.1)

pub below_more : (n : ℕ) (ats : List ℕ) (at : ℕ) → AllBelow n ats → at < n → AllBelow n (ats ++ at ∷ [])
below_more n [] at b l = (l, tt)
below_more n (c ∷ ats) at b l = (b.0, below_more n ats at b.1 l)

-- ---- operands

pub operands_none : (ns : List Node) → has_operands ns [] ≡ Some []
unfolding has_operands
operands_none ns = refl

pub operands_more : (ns : List Node) (ats : List ℕ) (at : ℕ) → has_operands ns (ats ++ at ∷ []) ≡ with_more (has_operands ns ats) (has_operand ns at)
unfolding has_operands
operands_more ns ats at = gathered_more (has_operand ns) (Some []) ats at

pub operand_stays : (ms ns : List Node) (at : ℕ) → Grows ms ns → at < length ms → has_operand ns at ≡ has_operand ms at
operand_stays ms ns at g b = rw (g.kept at b) refl

pub operands_stay : (ms ns : List Node) (ats : List ℕ) → Grows ms ns → AllBelow (length ms) ats → has_operands ns ats ≡ has_operands ms ats
unfolding has_operands
operands_stay ms ns ats g b = gathered_same (has_operand ns) (has_operand ms) (length ms) (λ i l. operand_stays ms ns i g l) (Some []) ats b

same_operand : (o : Operand) (a : Operand) → if_given o ≡ Some a → o ≡ a
same_operand NoOperand a e = absurd (cc e)
same_operand (operand place of steps) a e = cc e

pub operands_known : (ns : List Node) (ats : List ℕ) → has_operands ns ats ≡ where_all (all_there (has_operand ns) ats) (map (operand_of ns) ats)
unfolding has_operands
operands_known ns ats = gathered_all (has_operand ns) (operand_of ns) (λ at a e. same_operand (operand_of ns at) a e) [] ats

pub ruleset all_given = (operands_known)

-- ---- how a walk goes through them

module _ {A : Type 0} where
  joins : (x : Option Refusal) (ts : Told (List A)) (a : Told A) → least x (breaks (joined ts a)) ≡ least (least x (breaks ts)) (breaks a)
  joins x (Fine ts) (Fine a) = refl
  joins x (Fine ts) (Broken b bs) = refl
  joins x (Broken b bs) (Fine c) = refl
  joins x (Broken b bs) (Broken c cs) = least_append x (b ∷ bs) (c ∷ cs)

  has_joined : (ts : Told (List A)) (a : Told A) → typed (joined ts a) ≡ with_more (typed ts) (typed a)
  has_joined (Fine ts) (Fine a) = refl
  has_joined (Fine ts) (Broken b bs) = refl
  has_joined (Broken b bs) (Fine c) = refl
  has_joined (Broken b bs) (Broken c cs) = refl

  ran_onto : (x : Option Refusal) (o : Out (List A)) (ms : List (Run A)) → ran_of x (onto o ms) ≡ walked (typed o.told) ms (standing o.env (least x (breaks o.told)))
  unfolding ran
  ran_onto x o [] = refl
  ran_onto x o (m ∷ ms) =
      let p = m o.env in
      ran_onto x (more o m) ms ∙ rw (joins x o.told p.told, has_joined o.told p.told) refl

  pub ran_every : (ms : List (Run A)) (s : Standing) → ran (every ms) s ≡ walked (Some []) ms s
  unfolding ran every
  ran_every ms s = ran_onto s.found (record { env = s.env; told = Fine [] }) ms

-- the laws that contracts name
pub every_walked : EveryIsWalked
every_walked ms s = ran_every ms s

pub list_of : ListOfParts
list_of f ms s = ran_onward f (every ms) s

pub behind_first : ListBehind
behind_first f m ms s = ran_two f m (every ms) s

pub ruleset gathering = (all_none, all_more, all_stay, typed_stays, parts_stay, all_known_stay, parts_all, parts_below, below_stays, below_more)

pub ruleset giving = (operands_none, operands_more, operand_stays, operands_stay, below_stays, below_more)

pub ruleset walking = (ran_every)
