-- What is told of a node: what it is, or the rules that are broken in it, of which there is at least one; and how what is told of parts is put together.
-- A node breaks a rule where its parts have typings and a premise of the rule fails there.
use Rattle.std.specs.Prelude.{ℕ, Bool, true, false, List, [], ◌∷◌, ◌++◌, length, Option, Some, None}
use Rattle.jc_rules.specs.declared.rule.Refusal.{Refusal}
use Rattle.jc_rules.specs.declared.rule.Place.{Place}
use Rattle.jc_types.specs.declared.environment.Bounds.{Bounds}
use Rattle.jc_types.specs.Breaks.{least}

pub data Told (A : Type 0) : Type 0 where
  Fine : (value : A) → Told A
  Broken : (first : Refusal) (others : List Refusal) → Told A

-- what it is, and the broken rules
abbrev pub typed : {A : Type 0} → Told A → Option A
typed (Fine a) = Some a
typed (Broken b bs) = None

abbrev pub breaks : {A : Type 0} → Told A → List Refusal
breaks (Fine a) = []
breaks (Broken b bs) = b ∷ bs

-- the captured variables so far go through every node, broken or not
pub record Out (A : Type 0) : Type 0 where
  pub env : List Bounds
  pub told : Told A

abbrev pub Run : Type 0 → Type 0
Run A = List Bounds → Out A

-- ---- what a walk makes of that

-- how a walk stands: its captured variables, and the least break so far
pub record Standing : Type 0 where
  pub env : List Bounds
  pub found : Option Refusal

abbrev pub standing : List Bounds → Option Refusal → Standing
standing env found = record { env = env; found = found }

-- how a walk stands behind a node, and what it has of the node
pub record Ran (A : Type 0) : Type 0 where
  pub state : Standing
  pub has : Option A

abbrev pub ran_of : {A : Type 0} → Option Refusal → Out A → Ran A
ran_of found o = record { state = standing o.env (least found (breaks o.told)); has = typed o.told }

unfoldable pub ran : {A : Type 0} → Run A → Standing → Ran A
ran m s = ran_of s.found (m s.env)

-- ---- nodes without parts

abbrev pub fine : {A : Type 0} → A → Run A
fine a env = record { env = env; told = Fine a }

-- a rule, broken at a place
abbrev pub breaking : ℕ → Place → Refusal
breaking rule place = record { rule = rule; place = place; have = 0 }

abbrev pub by_rule : {A : Type 0} → ℕ → Place → Run A
by_rule rule place env = record { env = env; told = Broken (breaking rule place) [] }

-- a rule whose premise is known at once
abbrev pub unless : Bool → ℕ → Place → List Refusal
unless true rule place = []
unless false rule place = breaking rule place ∷ []

-- a node of which these premises fail; the rest of it is asked where none does
abbrev pub provided : {A : Type 0} → List Refusal → Run A → Run A
provided [] m env = m env
provided (b ∷ bs) m env = record { env = env; told = Broken b bs }

-- what reads the captured variables so far
abbrev pub reading : {A : Type 0} → (List Bounds → Run A) → Run A
reading f env = f env env

-- ---- nodes with parts

-- both parts are asked
abbrev pub pair : {A B : Type 0} → Told A → Told B → Told (A × B)
pair (Fine a) (Fine b) = Fine (a, b)
pair (Fine a) (Broken b bs) = Broken b bs
pair (Broken b bs) (Fine c) = Broken b bs
pair (Broken b bs) (Broken c cs) = Broken b (bs ++ c ∷ cs)

unfoldable pub both : {A B : Type 0} → Run A → Run B → Run (A × B)
both m n env = let o = m env in let p = n o.env in record { env = p.env; told = pair o.told p.told }

-- all three parts are asked
abbrev pub triple : {A B C : Type 0} → Told A → Told B → Told C → Told (A × B × C)
triple (Fine a) (Fine b) (Fine c) = Fine (a, b, c)
triple (Fine a) (Fine b) (Broken c cs) = Broken c cs
triple (Fine a) (Broken b bs) c = Broken b (bs ++ breaks c)
triple (Broken a rest) b c = Broken a (rest ++ breaks b ++ breaks c)

unfoldable pub three : {A B C : Type 0} → Run A → Run B → Run C → Run (A × B × C)
three m n l env = let o = m env in let p = n o.env in let q = l p.env in record { env = q.env; told = triple o.told p.told q.told }

-- the second part is asked by what the first one is, if that is told
unfoldable pub feeding : {A B : Type 0} → Run A → (Option A → Run B) → Run (A × B)
feeding m f env = let o = m env in let p = f (typed o.told) o.env in record { env = p.env; told = pair o.told p.told }

-- a node's own rule is asked where its parts are told
abbrev pub after : {A B : Type 0} → Told A → List Bounds → (A → Run B) → Out B
after (Fine a) env f = f a env
after (Broken b bs) env f = record { env = env; told = Broken b bs }

unfoldable pub onward : {A B : Type 0} → Run A → (A → Run B) → Run B
onward m f env = let o = m env in after o.told o.env f

-- ---- lists of parts

abbrev pub joined : {A : Type 0} → Told (List A) → Told A → Told (List A)
joined (Fine ts) (Fine a) = Fine (ts ++ a ∷ [])
joined (Fine ts) (Broken b bs) = Broken b bs
joined (Broken b bs) (Fine c) = Broken b bs
joined (Broken b bs) (Broken c cs) = Broken b (bs ++ c ∷ cs)

-- one part more
abbrev pub more : {A : Type 0} → Out (List A) → Run A → Out (List A)
more o m = let p = m o.env in record { env = p.env; told = joined o.told p.told }

abbrev pub onto : {A : Type 0} → Out (List A) → List (Run A) → Out (List A)
onto o [] = o
onto o (m ∷ ms) = onto (more o m) ms

-- all parts are asked, in order
unfoldable pub every : {A : Type 0} → List (Run A) → Run (List A)
every ms env = onto (record { env = env; told = Fine [] }) ms

-- ---- the captured variables of a part

-- a part with the number of the captured variables before it and behind it
pub record Spanned (A : Type 0) : Type 0 where
  pub it : A
  pub from : ℕ
  pub up_to : ℕ

abbrev pub told_between : {A : Type 0} → Told A → ℕ → ℕ → Told (Spanned A)
told_between (Fine a) from up_to = Fine (record { it = a; from = from; up_to = up_to })
told_between (Broken b bs) from up_to = Broken b bs

unfoldable pub spanned : {A : Type 0} → Run A → Run (Spanned A)
spanned m env = let o = m env in record { env = o.env; told = told_between o.told (length env) (length o.env) }
