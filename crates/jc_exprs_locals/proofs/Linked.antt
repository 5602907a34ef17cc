-- Locals and the places of their names: one more, one less, and the last one of a name.
use Rattle.std.proofs.Common.{◌≡◌, ◌+◌, ◌≤◌, ℕ, zero, suc, Bool, true, false, ◌||◌, IsSome, refl, ap, sym, ◌∙◌, arith, List, [], ◌∷◌, ◌++◌, append_assoc, length, take, set, get_or, Option, Some, None, is_some, option_map, slice_get, if◌then◌else◌}
use Rattle.std.proofs.lemmas.List.{append-nil, take-take, take_all}
use Rattle.std.proofs.lemmas.Slice.Eq.{bytes_eq-Decides}
use Rattle.std.specs.Str.{bytes_eq}
use Rattle.jc_types.specs.declared.constant.Constant.{Constant}
use Rattle.jc_exprs_parts_spec.specs.Worlds.{local_in}
use Rattle.jc_exprs_locals.specs.declared.scoped.Entry.{Entry}
use Rattle.jc_exprs_locals.specs.Links.{AreLinked, IsIndexed, as_last, local_in_entry, locals_in, newest, newest_in, or_none, with_last}
use Rattle.jc_exprs_locals.specs.Scoped.{is_named, last_constant, last_type, local_of, locals_of}

-- ---- one more

newest_more : (n : List ℕ) (i : ℕ) (es : List Entry) (e : Entry) (o : Option ℕ) →
    newest_in n i (es ++ e ∷ []) o ≡ (if bytes_eq n e.local.name then Some (i + length es) else newest_in n i es o)
newest_more n i [] e o = let h : i ≡ i + 0 = omega arith in ap (λ k. if bytes_eq n e.local.name then Some k else o) h
newest_more n i (x ∷ es) e o =
    let p : Option ℕ = if bytes_eq n x.local.name then Some i else o in
    let h : suc i + length es ≡ i + suc (length es) = omega arith in
    newest_more n (suc i) es e p ∙ ap (λ k. if bytes_eq n e.local.name then Some k else newest_in n (suc i) es p) h

newest_behind : (n : List ℕ) (es : List Entry) (e : Entry) → newest n (es ++ e ∷ []) ≡ (if bytes_eq n e.local.name then Some (length es) else newest n es)
newest_behind n es e =
    let h : 0 + length es ≡ length es = omega arith in newest_more n 0 es e None ∙ ap (λ k. if bytes_eq n e.local.name then Some k else newest n es) h

linked_more : (before es : List Entry) (e : Entry) → AreLinked before es → e.before ≡ newest e.local.name (before ++ es) → AreLinked before (es ++ e ∷ [])
linked_more before [] e l h = (h ∙ ap (newest e.local.name) (append-nil before), tt)
linked_more before (x ∷ es) e l h = (l.0, linked_more (before ++ x ∷ []) es e l.1 (h ∙ ap (newest e.local.name) (sym (append_assoc before (x ∷ []) es))))

pub locals_more : (es : List Entry) (e : Entry) → locals_in (es ++ e ∷ []) ≡ locals_in es ++ e.local ∷ []
locals_more [] e = refl
locals_more (x ∷ es) e = ap (λ ls. x.local ∷ ls) (locals_more es e)

-- a map to which the place of a name was added
pub indexed_more : (es : List Entry) (e : Entry) (f g : List ℕ → Option (Option ℕ)) → IsIndexed es f → e.before ≡ or_none (f e.local.name) →
    ((q : List ℕ) → or_none (g q) ≡ (if bytes_eq q e.local.name then Some (length es) else or_none (f q))) → IsIndexed (es ++ e ∷ []) g
indexed_more es e f g i b h = record {
  links = linked_more [] es e i.links (b ∙ i.newest e.local.name);
  newest = λ q. h q ∙ ap (λ o. if bytes_eq q e.local.name then Some (length es) else o) (i.newest q) ∙ sym (newest_behind q es e);
}

pub indexed_same : (es : List Entry) (f g : List ℕ → Option (Option ℕ)) → IsIndexed es f → ((q : List ℕ) → g q ≡ f q) → IsIndexed es g
indexed_same es f g i h = record { links = i.links; newest = λ q. ap or_none (h q) ∙ i.newest q }

pub ruleset more_laws = (locals_more, indexed_more, indexed_same)

-- ---- one less

linked_less : (before es : List Entry) (e : Entry) → AreLinked before (es ++ e ∷ []) → AreLinked before es × (e.before ≡ newest e.local.name (before ++ es))
linked_less before [] e l = (tt, l.0 ∙ ap (newest e.local.name) (sym (append-nil before)))
linked_less before (x ∷ es) e l =
    let r = linked_less (before ++ x ∷ []) es e l.1 in ((l.0, r.0), r.1 ∙ ap (newest e.local.name) (append_assoc before (x ∷ []) es))

by_name : (b : Bool) (q m : List ℕ) (es : List Entry) (k : Option ℕ) → bytes_eq q m ≡ b → (if b then newest m es else (if b then k else newest q es)) ≡ newest q es
by_name true q m es k h = ap (λ n. newest n es) (sym ((bytes_eq-Decides q m).0 h))
by_name false q m es k h = refl

-- a map where the place of the last one before it was put back
pub indexed_less : (es : List Entry) (e : Entry) (f g : List ℕ → Option (Option ℕ)) → IsIndexed (es ++ e ∷ []) f →
    ((q : List ℕ) → or_none (g q) ≡ (if bytes_eq q e.local.name then e.before else or_none (f q))) → IsIndexed es g
indexed_less es e f g i h =
    let l = linked_less [] es e i.links in
    record {
      links = l.0;
      newest = λ q.
          h q
          ∙ ap (λ o. if bytes_eq q e.local.name then o else or_none (f q)) l.1
          ∙ ap (λ o. if bytes_eq q e.local.name then newest e.local.name es else o) (i.newest q ∙ newest_behind q es e)
          ∙ by_name (bytes_eq q e.local.name) q e.local.name es (Some (length es)) refl;
    }

chosen : (b : Bool) (k : ℕ) (o : Option ℕ) → b ≡ true → (if b then Some k else o) ≡ Some k
chosen true k o h = refl
chosen false k o h = absurd (cc h)

some_in : (o : Option (Option ℕ)) (k : ℕ) → or_none o ≡ Some k → IsSome o
some_in None k h = absurd (cc h)
some_in (Some o) k h = search

-- the name of the last one has a place
pub has_place : (es : List Entry) (e : Entry) (f : List ℕ → Option (Option ℕ)) → IsIndexed (es ++ e ∷ []) f → IsSome (f e.local.name)
has_place es e f i =
    some_in (f e.local.name) (length es)
    (i.newest e.local.name ∙ newest_behind e.local.name es e ∙ chosen (bytes_eq e.local.name e.local.name) (length es) (newest e.local.name es) ((bytes_eq-Decides e.local.name e.local.name).1 refl))

pub ruleset less_laws = (indexed_less, has_place)

pub take_fewer : (k n : ℕ) (es : List Entry) → k ≤ n → take k (take n es) ≡ take k es
take_fewer k n es h = take-take k n es h

pub take_whole : (k : ℕ) (es : List Entry) → length es ≤ k → take k es ≡ es
take_whole k es h = take_all k es h

pub locals_taken : (k : ℕ) (es : List Entry) → locals_in (take k es) ≡ take k (locals_in es)
locals_taken zero es = refl
locals_taken (suc k) [] = refl
locals_taken (suc k) (e ∷ es) = ap (λ ls. e.local ∷ ls) (locals_taken k es)

pub ruleset takes = (take_fewer, take_whole)

-- ---- the last one of a name

entry_behind : (pre : List Entry) (x : Entry) (es : List Entry) → slice_get ((pre ++ x ∷ []) ++ es) (length pre) ≡ Some x
entry_behind [] x es = refl
entry_behind (y ∷ pre) x es = entry_behind pre x es

length_behind : (pre : List Entry) (x : Entry) → length (pre ++ x ∷ []) ≡ suc (length pre)
length_behind [] x = refl
length_behind (y ∷ pre) x = ap suc (length_behind pre x)

later_is : (b : Bool) (pre : List Entry) (x : Entry) (es : List Entry) (o : Option ℕ) →
    (if b then Some (local_of x.local) else local_in_entry (pre ++ x ∷ es) o) ≡ local_in_entry ((pre ++ x ∷ []) ++ es) (if b then Some (length pre) else o)
later_is true pre x es o = sym (ap (option_map (λ e. local_of e.local)) (entry_behind pre x es))
later_is false pre x es o = ap (λ l. local_in_entry l o) (sym (append_assoc pre (x ∷ []) es))

found : (n : List ℕ) (pre es : List Entry) (o : Option ℕ) →
    local_in n (locals_of (locals_in es)) (local_in_entry (pre ++ es) o) ≡ local_in_entry (pre ++ es) (newest_in n (length pre) es o)
found n pre [] o = refl
found n pre (x ∷ es) o =
    let b = bytes_eq n x.local.name in
    let p : Option ℕ = if b then Some (length pre) else o in
    ap (local_in n (locals_of (locals_in es))) (later_is b pre x es o)
    ∙ found n (pre ++ x ∷ []) es p
    ∙ ap (λ l. local_in_entry l (newest_in n (length (pre ++ x ∷ [])) es p)) (append_assoc pre (x ∷ []) es)
    ∙ ap (λ k. local_in_entry (pre ++ x ∷ es) (newest_in n k es p)) (length_behind pre x)

pub found_at : (n : List ℕ) (es : List Entry) (f : List ℕ → Option (Option ℕ)) → IsIndexed es f → local_in n (locals_of (locals_in es)) None ≡ local_in_entry es (or_none (f n))
found_at n es f i = found n [] es None ∙ ap (local_in_entry es) (sym (i.newest n))

named_by : (b : Bool) (o : Option ℕ) (r : Bool) (i : ℕ) → (is_some (if b then Some i else o) || r) ≡ (is_some o || (b || r))
named_by true None r i = refl
named_by true (Some k) r i = refl
named_by false None r i = refl
named_by false (Some k) r i = refl

named_none : (o : Option ℕ) → is_some o ≡ (is_some o || false)
named_none None = refl
named_none (Some k) = refl

named_in : (n : List ℕ) (i : ℕ) (es : List Entry) (o : Option ℕ) → is_some (newest_in n i es o) ≡ (is_some o || is_named n (locals_of (locals_in es)))
named_in n i [] o = named_none o
named_in n i (x ∷ es) o =
    let b = bytes_eq n x.local.name in named_in n (suc i) es (if b then Some i else o) ∙ named_by b o (is_named n (locals_of (locals_in es))) i

-- whether one of a name is there
pub declared_at : (n : List ℕ) (es : List Entry) (f : List ℕ → Option (Option ℕ)) → IsIndexed es f → is_named n (locals_of (locals_in es)) ≡ is_some (or_none (f n))
declared_at n es f i = sym (named_in n 0 es None) ∙ ap is_some (sym (i.newest n))

-- ---- the last one

last_linked : (c : Option Constant) (before es : List Entry) → AreLinked before es → AreLinked before (with_last c es)
last_linked c before [] l = l
last_linked c before (e ∷ []) l = l
last_linked c before (e ∷ g ∷ es) l = (l.0, last_linked c (before ++ e ∷ []) (g ∷ es) l.1)

last_newest : (c : Option Constant) (n : List ℕ) (i : ℕ) (es : List Entry) (o : Option ℕ) → newest_in n i (with_last c es) o ≡ newest_in n i es o
last_newest c n i [] o = refl
last_newest c n i (e ∷ []) o = refl
last_newest c n i (e ∷ g ∷ es) o = last_newest c n (suc i) (g ∷ es) (if bytes_eq n e.local.name then Some i else o)

pub last_indexed : (c : Option Constant) (es : List Entry) (f : List ℕ → Option (Option ℕ)) → IsIndexed es f → IsIndexed (with_last c es) f
last_indexed c es f i = record { links = last_linked c [] es i.links; newest = λ q. i.newest q ∙ sym (last_newest c q 0 es None) }

pub last_locals : (c : Option Constant) (es : List Entry) → locals_of (locals_in (with_last c es)) ≡ last_constant c (locals_of (locals_in es))
last_locals c [] = refl
last_locals c (e ∷ []) = refl
last_locals c (e ∷ g ∷ es) = ap (λ ls. local_of e.local ∷ ls) (last_locals c (g ∷ es))

pub ruleset last_laws = (last_indexed, last_locals)

pub set_with_last : (c : Option Constant) (es : List Entry) (d : Entry) (k : ℕ) → length es ≡ suc k → set es k (as_last c (get_or es k d)) ≡ with_last c es
set_with_last c [] d k h = absurd (cc h)
set_with_last c (e ∷ []) d k h = let z : k ≡ 0 = omega arith in rw z refl
set_with_last c (e ∷ g ∷ es) d zero h = absurd (omega arith)
set_with_last c (e ∷ g ∷ es) d (suc k) h = ap (λ l. e ∷ l) (set_with_last c (g ∷ es) d k (omega arith))

pub last_typed : (es : List Entry) (d : Entry) (k : ℕ) → length es ≡ suc k → last_type (locals_of (locals_in es)) ≡ (get_or es k d).local.ty
last_typed [] d k h = absurd (cc h)
last_typed (e ∷ []) d k h = let z : k ≡ 0 = omega arith in rw z refl
last_typed (e ∷ g ∷ es) d zero h = absurd (omega arith)
last_typed (e ∷ g ∷ es) d (suc k) h = last_typed (g ∷ es) d k (omega arith)
