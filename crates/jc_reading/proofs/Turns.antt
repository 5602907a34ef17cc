-- Loops that read any number of a form, turn by turn.
use Rattle.std.proofs.Common.{◌≡◌, false, ℕ, zero, suc, ◌<◌, ◌≤◌, min, List, [], ◌∷◌, ◌++◌, map, length, append_assoc, append-nil, refl, sym, ap, ◌∙◌, subst, ⊎_elim, arith}
use Rattle.std.proofs.lemmas.Bool.{false≢true}
use Rattle.jc_lexer.specs.declared.token.Token.{Token}
use Rattle.jc_reading.specs.Reading.{Read, Found, Stopped, Run, noting, becoming, as_new, one_more, times, any_number}
use Rattle.jc_reading.specs.Reach.{Within, Ahead, GoesAhead, onto}
use Rattle.jc_reading.proofs.Steps.{Good}
use Rattle.jc_reading.proofs.Nears.{ahead_both, ahead_near, near_any}
use Rattle.jc_reading.proofs.Forms.{Form, Stands, Lawful}

-- the loop stands before the tokens that are left, with room for as many turns
abbrev pub Resumes : {A : Type 0} → Read (List A) → List A → ℕ → Run A → List Token → Type 0
Resumes whole list left m rest = (n : ℕ) × (length rest ≤ n) × (whole ≡ onto list left (times n m rest))

resume_noting : {A : Type 0} (list : List A) (left l : ℕ) (a : A) (m : Read (List A)) → onto list left (noting l (becoming (λ more. a ∷ more) m)) ≡ onto (list ++ a ∷ []) (min left l) m
resume_noting list left l a (Found more r k) =
    ap (λ (v : List _). Found v r (min left (min l k))) (sym (append_assoc list (a ∷ []) more)) ∙ (let e : min left (min l k) ≡ min (min left l) k = omega arith in ap (λ j. Found ((list ++ a ∷ []) ++ more) r j) e)
resume_noting list left l a (Stopped k) = let e : min left (min l k) ≡ min (min left l) k = omega arith in ap (λ j. Stopped j) e

pub turn_next : {A : Type 0} (whole : Read (List A)) (list : List A) (left : ℕ) (m : Run A) (rest q : List Token) (a : A) (l : ℕ) → Resumes whole list left m rest → m rest ≡ Found a q l → length q < length rest → Resumes whole (list ++ a ∷ []) (min left l) m q
unfolding times
turn_next whole list left m rest q a l (zero, e, s) r lt = absurd (omega (arith, e, lt))
turn_next whole list left m rest q a l (suc n, e, s) r lt =
    (n, omega (arith, e, lt), s ∙ ap (λ (v : Read _). onto list left (one_more rest v (times n m))) r ∙ resume_noting list left l a (times n m q))

pub turn_stop : {A : Type 0} (whole : Read (List A)) (list : List A) (left : ℕ) (m : Run A) (rest : List Token) (l : ℕ) → Resumes whole list left m rest → m rest ≡ Stopped l → l ≤ length rest → whole ≡ Found list rest (min left l)
unfolding times
turn_stop whole list left m rest l (zero, e, s) r w =
    let k : length rest ≡ l = omega (arith, e, w) in
    s ∙ ap (λ (v : List _). Found v rest (min left (length rest))) (append-nil list) ∙ ap (λ j. Found list rest (min left j)) k
turn_stop whole list left m rest l (suc n, e, s) r w =
    s ∙ ap (λ (v : Read _). onto list left (one_more rest v (times n m))) r ∙ ap (λ (v : List _). Found v rest (min left l)) (append-nil list)

pub noting_far : {A : Type 0} (k : ℕ) (m : Read A) → Within k m → m ≡ noting k m
noting_far k (Found a r l) w = let e : l ≡ min k l = omega (arith, w.0, w.1) in ap (λ j. Found a r j) e
noting_far k (Stopped l) w = let e : l ≡ min k l = omega (arith, w) in ap (λ j. Stopped j) e

becoming_same : {A : Type 0} (m : Read (List A)) → m ≡ becoming (λ more. [] ++ more) m
becoming_same (Found a r l) = refl
becoming_same (Stopped l) = refl

within_same : {A : Type 0} (k : ℕ) (m : Read (List A)) → Within k m → Within k (becoming (λ more. [] ++ more) m)
within_same k (Found a r l) w = w
within_same k (Stopped l) w = w

-- behind nothing it is what is read
pub onto_none : {A : Type 0} (k : ℕ) (m : Read (List A)) → Within k m → m ≡ onto [] k m
onto_none k m w = becoming_same m ∙ noting_far k (becoming (λ more. [] ++ more) m) (within_same k m w)

pub turn_first : {A : Type 0} (m : Run A) (ts : List Token) → Within (length ts) (any_number m ts) → Resumes (any_number m ts) [] (length ts) m ts
turn_first m ts w = (length ts, omega arith, onto_none (length ts) (any_number m ts) w)

-- behind a first one
pub turn_second : {A : Type 0} (m : Run A) (a : A) (l : ℕ) (q : List Token) → Resumes (noting l (becoming (λ more. a ∷ more) (any_number m q))) (a ∷ []) l m q
turn_second m a l q = (length q, omega arith, refl)

inside : {A B : Type 0} (f : A → B) (l : ℕ) (a : A) (v : Read (List A)) → becoming (map f) (noting l (becoming (λ more. a ∷ more) v)) ≡ noting l (becoming (λ more. f a ∷ more) (becoming (map f) v))
inside f l a (Found more r k) = refl
inside f l a (Stopped k) = refl

as_one : {A B : Type 0} (f : A → B) (n : ℕ) (m : Run A) (ts : List Token) → ((q : List Token) → becoming (map f) (times n m q) ≡ times n (as_new f m) q) → (v : Read A) → becoming (map f) (one_more ts v (times n m)) ≡ one_more ts (becoming f v) (times n (as_new f m))
as_one {B = B} f n m ts same (Found a q l) = inside f l a (times n m q) ∙ ap (λ (v : Read (List B)). noting l (becoming (λ more. f a ∷ more) v)) (same q)
as_one f n m ts same (Stopped l) = refl

-- the values are made of others one by one
pub times_as : {A B : Type 0} (f : A → B) (n : ℕ) (m : Run A) (ts : List Token) → becoming (map f) (times n m ts) ≡ times n (as_new f m) ts
unfolding times
times_as f zero m ts = refl
times_as f (suc n) m ts = as_one f n m ts (times_as f n m) (m ts)

shorter_good : {A : Type 0} (fa : Form A) (ts : List Token) (m : Read A) → ((a : A) (r : List Token) → Stands fa ts a r → length r < length ts) → Good (Stands fa ts) m → Good (λ a r. length r < length ts) m
shorter_good fa ts (Found a r l) f g = f a r g
shorter_good fa ts (Stopped l) f g = tt

-- a lawful reader that takes a token where it reads anything
pub lawful_ahead : (A : Type 0) (fa : Form A) → Lawful A fa → fa.empties ≡ false → GoesAhead fa.run
lawful_ahead A fa la solid ts =
    let shorter = shorter_good fa ts (fa.run ts) (λ a r s. ⊎_elim (λ o. o.1) (λ o. absurd (false≢true (sym solid ∙ o.1))) (la.opens ts a r s)) (la.sound ts) in
    ahead_both ts (fa.run ts) (la.within ts) shorter

module _ (A : Type 0) (m : Run A) (v : GoesAhead m) where
  pub loop_first : (ts : List Token) → Resumes (any_number m ts) [] (length ts) m ts
  loop_first ts = turn_first m ts (near_any m (ahead_near m v) ts)

  pub loop_shorter : (ts q : List Token) (a : A) (l : ℕ) → m ts ≡ Found a q l → length q < length ts
  loop_shorter ts q a l e = (subst (λ (r : Read A). Ahead ts r) e (v ts)).1

  pub loop_next : (whole : Read (List A)) (list : List A) (left : ℕ) (ts q : List Token) (a : A) (l : ℕ) → Resumes whole list left m ts → m ts ≡ Found a q l → Resumes whole (list ++ a ∷ []) (min left l) m q
  loop_next whole list left ts q a l s e = turn_next whole list left m ts q a l s e (loop_shorter ts q a l e)

  pub loop_stop : (whole : Read (List A)) (list : List A) (left : ℕ) (ts : List Token) (l : ℕ) → Resumes whole list left m ts → m ts ≡ Stopped l → whole ≡ Found list ts (min left l)
  loop_stop whole list left ts l s e = turn_stop whole list left m ts l s e (subst (λ (r : Read A). Ahead ts r) e (v ts))
