-- What the steps of the code of formal parameters read.
use Rattle.std.proofs.Common.{◌≡◌, ℕ, zero, suc, ◌<◌, ◌≤◌, min, Bool, true, false, cond, List, [], ◌∷◌, ◌++◌, length, append_assoc, append-nil, Option, Some, None, refl, sym, ap, ◌∙◌, subst, arith}
use Rattle.std.specs.Option.{is_some}
use Rattle.jc_lexer.specs.declared.token.Sign.TheVariants as sign_of
use Rattle.jc_lexer.specs.declared.token.Token.{Token}
use Rattle.jc_tree.specs.declared.name.Ident.{Ident}
use Rattle.jc_tree.specs.declared.types.TypeTree.{TypeTree}
use Rattle.jc_tree.specs.declared.statement.Formal.{Formal}
use Rattle.jc_tree.specs.declared.statement.Modifier.{Modifier}
use Rattle.jc_reading.specs.Kinds.{sign_code}
use Rattle.jc_reading.specs.Reading.{Read, Found, Stopped, Run, found, noting, ◌>>=◌, becoming, joined, as_new, in_turn, perhaps_from, perhaps, an_ident_at, behind_it, of_kind}
use Rattle.jc_reading.specs.Further.{with_room, followed, unless}
use Rattle.jc_reading.specs.Reach.{onto}
use Rattle.jc_parse_type.specs.TypeReading.{dims_run, type_run}
use Rattle.jc_part_laws.specs.PartReading.{is_variable, or_no_formals, formal_made, formal_run, formals_made, formals_run, formals_tail_run, modifiers_run}
use Rattle.jc_expr_laws.specs.ExprReading.{exprs}
use Rattle.jc_parse_parts.specs.declared.trees.FormalTail.{FormalTail}
use Rattle.jc_parse_parts.specs.Lists.{or_no_list}
use Rattle.jc_reading.specs.Reach.{}
use Rattle.jc_parse_parts.specs.Parts.{first_formals, formal_tail_run, formal_tail_tree, formal_with, perhaps_formals_run, some_formals_run}
use Rattle.jc_parse_expr.proofs.MeasuredSteps.{then_made, mapped_made}
use Rattle.jc_parse_parts.proofs.ChainSteps.{then_stops}

-- one formal parameter

abbrev Arity : Run (Option (Unit {0}))
Arity = perhaps (of_kind (sign_code sign_of.Ellipsis))

abbrev Tail : Type 0
Tail = TypeTree × (Option (Unit {0}) × (Ident × ℕ))

tail_arity : (h : ℕ) (ts q r : List Token) (ty : TypeTree) (o : Option (Unit {0})) (l k : ℕ) → type_run h ts ≡ Found ty q l → perhaps (of_kind (sign_code sign_of.Ellipsis)) q ≡ Found o r k → formal_tail_run h ts ≡ noting l (noting k (as_new (λ (x : Ident × ℕ). formal_tail_tree (ty, (o, x))) (in_turn an_ident_at dims_run) r))
tail_arity h ts q r ty o l k e f =
    then_made formal_tail_tree (type_run h) (in_turn Arity (in_turn an_ident_at dims_run)) ts q ty l e
    ∙ ap (noting l) (then_made (λ (x : Option (Unit {0}) × (Ident × ℕ)). formal_tail_tree (ty, x)) Arity (in_turn an_ident_at dims_run) q r o k f)

pub tail_found : (h : ℕ) (ts q r s t : List Token) (ty : TypeTree) (o : Option (Unit {0})) (name : Ident) (dims l k j i : ℕ) → type_run h ts ≡ Found ty q l → perhaps (of_kind (sign_code sign_of.Ellipsis)) q ≡ Found o r k → an_ident_at r ≡ Found name s j → dims_run s ≡ Found dims t i → formal_tail_run h ts ≡ Found (record { ty = ty; variable_arity = is_some o; name = name; dims = dims }) t (min l (min k (min j i)))
tail_found h ts q r s t ty o name dims l k j i e f g m =
    tail_arity h ts q r ty o l k e f
    ∙ ap (λ (v : Read FormalTail). noting l (noting k v)) (then_made (λ (x : Ident × ℕ). formal_tail_tree (ty, (o, x))) an_ident_at dims_run r s name j g)
    ∙ ap (λ (v : Read ℕ). noting l (noting k (noting j (becoming (λ (x : ℕ). formal_tail_tree (ty, (o, (name, x)))) v)))) m

pub tail_unnamed : (h : ℕ) (ts q r : List Token) (ty : TypeTree) (o : Option (Unit {0})) (l k j : ℕ) → type_run h ts ≡ Found ty q l → perhaps (of_kind (sign_code sign_of.Ellipsis)) q ≡ Found o r k → an_ident_at r ≡ Stopped j → formal_tail_run h ts ≡ Stopped (min l (min k j))
tail_unnamed h ts q r ty o l k j e f g =
    tail_arity h ts q r ty o l k e f ∙ ap (λ (v : Read FormalTail). noting l (noting k v)) (then_stops (λ (x : Ident × ℕ). formal_tail_tree (ty, (o, x))) an_ident_at dims_run r j g)

pub tail_halts : (h : ℕ) (ts : List Token) (l : ℕ) → type_run h ts ≡ Stopped l → formal_tail_run h ts ≡ Stopped l
tail_halts h ts l e = then_stops formal_tail_tree (type_run h) (in_turn Arity (in_turn an_ident_at dims_run)) ts l e

formal_behind : (l : ℕ) (modifiers : List Modifier) (m : Read Tail) → becoming formal_made (noting l (becoming (joined modifiers) m)) ≡ noting l (becoming (formal_with modifiers) (becoming formal_tail_tree m))
formal_behind l modifiers (Found (ty, (None, (name, dims))) r k) = refl
formal_behind l modifiers (Found (ty, (Some u, (name, dims))) r k) = refl
formal_behind l modifiers (Stopped k) = refl

pub formal_low : (h : ℕ) (ts : List Token) → h ≡ 0 → formal_run exprs h ts ≡ Stopped (length ts)
unfolding formal_run with_room
formal_low zero ts e = refl
formal_low (suc k) ts e = absurd (omega (arith, e))

pub formal_on : (h : ℕ) (ts q : List Token) (modifiers : List Modifier) (l : ℕ) → 0 < h → modifiers_run exprs h ts ≡ Found modifiers q l → formal_run exprs h ts ≡ noting l (becoming (formal_with modifiers) (formal_tail_run h q))
unfolding formal_run with_room
formal_on zero ts q modifiers l p e = absurd (omega (arith, p))
formal_on (suc k) ts q modifiers l p e =
    let rest : Run Tail = in_turn (type_run (suc k)) (in_turn Arity (in_turn an_ident_at dims_run)) in
    ap (λ (v : Read (List Modifier)). becoming formal_made (v >>= (λ ms q. becoming (joined ms) (rest q)))) e ∙ formal_behind l modifiers (rest q)

-- formal parameters, turn by turn

resume_noting : (list : List Formal) (left l : ℕ) (a : Formal) (m : Read (List Formal)) → onto list left (noting l (becoming (λ more. a ∷ more) m)) ≡ onto (list ++ a ∷ []) (min left l) m
resume_noting list left l a (Found more r k) =
    ap (λ (v : List Formal). Found v r (min left (min l k))) (sym (append_assoc list (a ∷ []) more)) ∙ (let e : min left (min l k) ≡ min (min left l) k = omega arith in ap (λ j. Found ((list ++ a ∷ []) ++ more) r j) e)
resume_noting list left l a (Stopped k) = let e : min left (min l k) ≡ min (min left l) k = omega arith in ap (λ j. Stopped j) e

-- the loop stands behind a formal parameter: behind one of variable arity it ends
abbrev pub Continues : Bool → Run Formal → Read (List Formal) → List Formal → ℕ → List Token → Type 0
Continues true formal whole list left rest = whole ≡ Found list rest (min left (length rest))
Continues false formal whole list left rest = (n : ℕ) × (length rest ≤ n) × (whole ≡ onto list left (formals_tail_run n formal rest))

pub ended : (b : Bool) (formal : Run Formal) (whole : Read (List Formal)) (list : List Formal) (left : ℕ) (rest : List Token) → b ≡ true → Continues b formal whole list left rest → whole ≡ Found list rest (min left (length rest))
ended true formal whole list left rest e c = c
ended false formal whole list left rest e c = cc

going : (b : Bool) (formal : Run Formal) (whole : Read (List Formal)) (list : List Formal) (left : ℕ) (rest : List Token) → b ≡ false → Continues b formal whole list left rest → (n : ℕ) × (length rest ≤ n) × (whole ≡ onto list left (formals_tail_run n formal rest))
going true formal whole list left rest e c = cc
going false formal whole list left rest e c = c

joined_first : (l : ℕ) (f : Formal) (m : Read (List Formal)) → becoming first_formals (noting l (becoming (joined f) m)) ≡ onto (f ∷ []) l m
joined_first l f (Found more r k) = refl
joined_first l f (Stopped k) = refl

first_by : (b : Bool) (formal : Run Formal) (f : Formal) (q : List Token) (l : ℕ) → Continues b formal (becoming first_formals (noting l (cond b (found (f, []) q) (becoming (joined f) (formals_tail_run (length q) formal q))))) (f ∷ []) l q
first_by true formal f q l = refl
first_by false formal f q l = (length q, omega arith, joined_first l f (formals_tail_run (length q) formal q))

pub formals_first : (h : ℕ) (ts q : List Token) (f : Formal) (l : ℕ) → formal_run exprs h ts ≡ Found f q l → Continues f.variable_arity (formal_run exprs h) (some_formals_run h ts) (f ∷ []) l q
formals_first h ts q f l e =
    let formal = formal_run exprs h in
    let whole : some_formals_run h ts ≡ becoming first_formals (noting l (cond f.variable_arity (found (f, []) q) (becoming (joined f) (formals_tail_run (length q) formal q)))) = ap (λ (v : Read Formal). becoming first_formals (v >>= unless is_variable [] (λ ts. formals_tail_run (length ts) formal ts))) e in
    subst (λ (v : Read (List Formal)). Continues f.variable_arity formal v (f ∷ []) l q) (sym whole) (first_by f.variable_arity formal f q l)

-- what stands behind a comma, and what is read behind that
abbrev more_from : List Token → Read Formal → Run (List Formal) → Read (List Formal)
more_from rest (Found f q l) more = noting l (becoming (λ list. f ∷ list) (cond (is_variable f) (found [] q) (more q)))
more_from rest (Stopped l) more = Found [] rest l

abbrev Finds : {A : Type 0} → Read A → Type 0
Finds (Found a r l) = Unit {0}
Finds (Stopped l) = ⊥

finds_perhaps : {A B : Type 0} (f : Option A → B) (ts : List Token) (m : Read A) → Finds (becoming f (perhaps_from ts m))
finds_perhaps f ts (Found a r l) = tt
finds_perhaps f ts (Stopped l) = tt

tail_finds : (n : ℕ) (formal : Run Formal) (ts : List Token) → Finds (formals_tail_run n formal ts)
unfolding formals_tail_run
tail_finds zero formal ts = tt
tail_finds (suc n) formal ts = finds_perhaps or_no_formals ts (in_turn (of_kind (sign_code sign_of.Comma)) (followed is_variable [] formal (formals_tail_run n formal)) ts)

tail_more : (rest q : List Token) (j i : ℕ) (f : Formal) (b : Bool) (m : Read (List Formal)) → Finds m → becoming or_no_formals (perhaps_from rest (noting j (becoming (joined tt) (noting i (cond b (found (f, []) q) (becoming (joined f) m)))))) ≡ noting (min j i) (becoming (λ list. f ∷ list) (cond b (found [] q) m))
tail_more rest q j i f true m v = let e : min j (min i (length q)) ≡ min (min j i) (length q) = omega arith in ap (λ n. Found (f ∷ []) q n) e
tail_more rest q j i f false (Found list r l) v = let e : min j (min i l) ≡ min (min j i) l = omega arith in ap (λ n. Found (f ∷ list) r n) e
tail_more rest q j i f false (Stopped l) v = absurd v

tail_formal : (rest : List Token) (j : ℕ) (m : Read Formal) (more : Run (List Formal)) → ((q : List Token) → Finds (more q)) → becoming or_no_formals (perhaps_from rest (noting j (becoming (joined tt) (m >>= unless is_variable [] more)))) ≡ more_from rest (becoming behind_it (noting j (becoming (joined {A = Unit {0}} tt) m))) more
tail_formal rest j (Found f q i) more v = tail_more rest q j i f (is_variable f) (more q) (v q)
tail_formal rest j (Stopped i) more v = refl

tail_comma : (rest : List Token) (c : Read (Unit {0})) (formal : Run Formal) (more : Run (List Formal)) → ((q : List Token) → Finds (more q)) → becoming or_no_formals (perhaps_from rest (c >>= (λ u p. becoming (joined u) (followed is_variable [] formal more p)))) ≡ more_from rest (becoming behind_it (c >>= (λ u p. becoming (joined u) (formal p)))) more
tail_comma rest (Found u p j) formal more v = tail_formal rest j (formal p) more v
tail_comma rest (Stopped j) formal more v = refl

abbrev Comma : Run Formal → Run Formal
Comma formal = as_new behind_it (in_turn (of_kind (sign_code sign_of.Comma)) formal)

tail_next : (n : ℕ) (formal : Run Formal) (rest : List Token) → formals_tail_run (suc n) formal rest ≡ more_from rest (Comma formal rest) (formals_tail_run n formal)
unfolding formals_tail_run
tail_next n formal rest = tail_comma rest (of_kind (sign_code sign_of.Comma) rest) formal (formals_tail_run n formal) (tail_finds n formal)

next_by : (b : Bool) (n : ℕ) (formal : Run Formal) (list : List Formal) (left l : ℕ) (f : Formal) (q : List Token) → length q ≤ n → Continues b formal (onto list left (noting l (becoming (λ more. f ∷ more) (cond b (found [] q) (formals_tail_run n formal q))))) (list ++ f ∷ []) (min left l) q
next_by true n formal list left l f q e = let s : min left (min l (length q)) ≡ min (min left l) (length q) = omega arith in ap (λ j. Found (list ++ f ∷ []) q j) s
next_by false n formal list left l f q e = (n, e, resume_noting list left l f (formals_tail_run n formal q))

formals_on : (formal : Run Formal) (whole : Read (List Formal)) (list : List Formal) (left : ℕ) (rest q : List Token) (f : Formal) (l : ℕ) → (n : ℕ) → length rest ≤ n → whole ≡ onto list left (formals_tail_run n formal rest) → Comma formal rest ≡ Found f q l → length q < length rest → Continues f.variable_arity formal whole (list ++ f ∷ []) (min left l) q
formals_on formal whole list left rest q f l zero le w e lt = absurd (omega (arith, le, lt))
formals_on formal whole list left rest q f l (suc n) le w e lt =
    let s = w ∙ ap (onto list left) (tail_next n formal rest) ∙ ap (λ (v : Read Formal). onto list left (more_from rest v (formals_tail_run n formal))) e in
    subst (λ (v : Read (List Formal)). Continues f.variable_arity formal v (list ++ f ∷ []) (min left l) q) (sym s) (next_by f.variable_arity n formal list left l f q (omega (arith, le, lt)))

pub formals_next : (b : Bool) (formal : Run Formal) (whole : Read (List Formal)) (list : List Formal) (left : ℕ) (rest q : List Token) (f : Formal) (l : ℕ) → b ≡ false → Continues b formal whole list left rest → as_new behind_it (in_turn (of_kind (sign_code sign_of.Comma)) formal) rest ≡ Found f q l → length q < length rest → Continues f.variable_arity formal whole (list ++ f ∷ []) (min left l) q
formals_next b formal whole list left rest q f l s c e lt = let w = going b formal whole list left rest s c in formals_on formal whole list left rest q f l w.0 w.1 w.2 e lt

formals_off : (formal : Run Formal) (whole : Read (List Formal)) (list : List Formal) (left : ℕ) (rest : List Token) (l : ℕ) → (n : ℕ) → length rest ≤ n → whole ≡ onto list left (formals_tail_run n formal rest) → Comma formal rest ≡ Stopped l → l ≤ length rest → whole ≡ Found list rest (min left l)
unfolding formals_tail_run
formals_off formal whole list left rest l zero le w e v =
    let k : length rest ≡ l = omega (arith, le, v) in
    w ∙ ap (λ (more : List Formal). Found more rest (min left (length rest))) (append-nil list) ∙ ap (λ j. Found list rest (min left j)) k
formals_off formal whole list left rest l (suc n) le w e v =
    w ∙ ap (onto list left) (tail_next n formal rest) ∙ ap (λ (v : Read Formal). onto list left (more_from rest v (formals_tail_run n formal))) e ∙ ap (λ (more : List Formal). Found more rest (min left l)) (append-nil list)

pub formals_stop : (b : Bool) (formal : Run Formal) (whole : Read (List Formal)) (list : List Formal) (left : ℕ) (rest : List Token) (l : ℕ) → b ≡ false → Continues b formal whole list left rest → as_new behind_it (in_turn (of_kind (sign_code sign_of.Comma)) formal) rest ≡ Stopped l → l ≤ length rest → whole ≡ Found list rest (min left l)
formals_stop b formal whole list left rest l s c e v = let w = going b formal whole list left rest s c in formals_off formal whole list left rest l w.0 w.1 w.2 e v

-- between parentheses

abbrev Optional : ℕ → Run (Option (Formal × List Formal))
Optional h = perhaps (followed is_variable [] (formal_run exprs h) (λ ts. formals_tail_run (length ts) (formal_run exprs h) ts))

abbrev listed : Option (Formal × List Formal) → List Formal
listed None = []
listed (Some p) = p.0 ∷ p.1

listed_as : (ts : List Token) (m : Read (Formal × List Formal)) → becoming listed (perhaps_from ts m) ≡ becoming or_no_list (perhaps_from ts (becoming first_formals m))
listed_as ts (Found p r l) = refl
listed_as ts (Stopped l) = refl

formals_same : (o : Option (Formal × List Formal)) (u : Unit {0}) → formals_made (tt, (o, u)) ≡ listed o
formals_same None u = refl
formals_same (Some p) u = refl

formals_behind : (h : ℕ) (ts q r : List Token) (list : List Formal) (l : ℕ) → of_kind (sign_code sign_of.LeftParen) ts ≡ found tt q → perhaps_formals_run h q ≡ Found list r l → formals_run (formal_run exprs h) ts ≡ noting (length q) (noting l (becoming (λ (u : Unit {0}). list) (of_kind (sign_code sign_of.RightParen) r)))
unfolding formals_run
formals_behind h ts q r list l e f =
    then_made formals_made (of_kind (sign_code sign_of.LeftParen)) (in_turn (Optional h) (of_kind (sign_code sign_of.RightParen))) ts q tt (length q) e
    ∙ ap (noting (length q)) (mapped_made (λ (b : Option (Formal × List Formal) × Unit {0}). formals_made (tt, b)) listed (λ (x : List Formal × Unit {0}). x.0) formals_same (Optional h) (of_kind (sign_code sign_of.RightParen)) q r list l (listed_as q (followed is_variable [] (formal_run exprs h) (λ ts. formals_tail_run (length ts) (formal_run exprs h) ts) q) ∙ f))

pub formals_closed : (h : ℕ) (ts q r s : List Token) (list : List Formal) (l : ℕ) → of_kind (sign_code sign_of.LeftParen) ts ≡ found tt q → perhaps_formals_run h q ≡ Found list r l → of_kind (sign_code sign_of.RightParen) r ≡ found tt s → formals_run (formal_run exprs h) ts ≡ Found list s (min (length q) (min l (length s)))
formals_closed h ts q r s list l e f g = formals_behind h ts q r list l e f ∙ ap (λ (v : Read (Unit {0})). noting (length q) (noting l (becoming (λ (u : Unit {0}). list) v))) g

pub formals_open : (h : ℕ) (ts q r : List Token) (list : List Formal) (l : ℕ) → of_kind (sign_code sign_of.LeftParen) ts ≡ found tt q → perhaps_formals_run h q ≡ Found list r l → of_kind (sign_code sign_of.RightParen) r ≡ Stopped (length r) → formals_run (formal_run exprs h) ts ≡ Stopped (min (length q) (min l (length r)))
formals_open h ts q r list l e f g = formals_behind h ts q r list l e f ∙ ap (λ (v : Read (Unit {0})). noting (length q) (noting l (becoming (λ (u : Unit {0}). list) v))) g

pub formals_shut : (h : ℕ) (ts : List Token) → of_kind (sign_code sign_of.LeftParen) ts ≡ Stopped (length ts) → formals_run (formal_run exprs h) ts ≡ Stopped (length ts)
unfolding formals_run
formals_shut h ts e = then_stops formals_made (of_kind (sign_code sign_of.LeftParen)) (in_turn (Optional h) (of_kind (sign_code sign_of.RightParen))) ts (length ts) e
