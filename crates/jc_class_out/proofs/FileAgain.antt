-- The file that is written is read again.
use Rattle.std.proofs.Common.{◌≡◌, ◌<◌, ◌≤◌, ℕ, ◌+◌, ℤ, Bool, true, false, cond, List, [], ◌∷◌, ◌++◌, length, None, Ok, refl, sym, ap, subst, ◌∙◌, append_assoc, arith}
use lib.Dec.{leb}
use Rattle.std.specs.Prelude.{◌&&◌, ◌||◌, not}
use Rattle.std.specs.Int.{w16, to_be_bytes}
use Rattle.std.specs.List.{list_all, prefix_len, AllByRecursion}
use Rattle.std.specs.Ordering.{int_eq}
use Rattle.std.proofs.lemmas.Bool.{leb-true, lt-ltb, and_parts, true≢false}
use Rattle.std.proofs.lemmas.List.{length-append, append-nil}
use Rattle.jc_rules.proofs.Truths.{or_none}
use Rattle.jc_class_out.specs.declared.format.Slot.{Slot}
use Rattle.jc_class_out.specs.declared.model.ClassModel.{ClassModel}
use Rattle.jc_class_out.specs.Pool.{Known, KnownText, KnownWhole, KnownLong, KnownBehind, KnownClass, KnownLiteral, KnownField, KnownMethod, KnownInterface, KnownPair, pool_at}
use Rattle.jc_class_out.specs.Format.{major, head_at, members_at, read}
use Rattle.jc_class_out.specs.Spelling.{same_known, has, add, adds, number, members_uses, loads_of, uses, spell_pool, spell_head, spell_members, pool_for, file_of}
use Rattle.jc_class_out.specs.Fitting.{known_fits, places, members_fit, pool_fits, fits_of}
use Rattle.jc_class_out.proofs.Numbers.{u2_again, u4_again}
use Rattle.jc_class_out.proofs.Known.{has_append, has_right, has_first, has_later, has_add, has_pool, same_true}
use Rattle.jc_class_out.proofs.Served.{Parts, is_behind_known}
use Rattle.jc_class_out.proofs.InsAgain.{Have, Low}
use Rattle.jc_class_out.proofs.PoolAgain.{is_long_known, Spaced, pool_again}
use Rattle.jc_class_out.proofs.UsesClosed.{Within, parts_more, PartsIn, closed_uses, pair_next, Paired, paired_uses}
use Rattle.jc_class_out.proofs.MembersAgain.{members_again}

-- ---- what holds of each use holds of each constant in the pool

all_append : (f : Known → Bool) (ks us : List Known) → list_all f ks ≡ true → list_all f us ≡ true → list_all f (ks ++ us) ≡ true
all_append f [] us h g = g
all_append f (k ∷ ks) us h g = let p = and_parts (f k) (list_all f ks) h in rw p.0 (all_append f ks us p.1 g)

all_add : (f : Known → Bool) (ks : List Known) (k : Known) (b : Bool) → list_all f ks ≡ true → f k ≡ true → list_all f (cond b ks (ks ++ k ∷ [])) ≡ true
all_add f ks k true h g = h
all_add f ks k false h g = all_append f ks (k ∷ []) h (rw g refl)

pub all_adds : (f : Known → Bool) (ks us : List Known) → list_all f ks ≡ true → list_all f us ≡ true → list_all f (adds ks us) ≡ true
unfolding adds
all_adds f ks [] h g = h
all_adds f ks (u ∷ us) h g = let p = and_parts (f u) (list_all f us) g in all_adds f (add ks u) us (all_add f ks u (has ks u) h p.0) p.1

-- ---- longs in the pool

-- a long is there exactly where its second place is
abbrev Twins : List Known → Type 0
Twins ks = (n : ℤ) → has ks (KnownLong n) ≡ has ks (KnownBehind n)

record Orderly (ks : List Known) : Type 0 where
  spaced : Spaced false ks
  twins : Twins ks

spaced_push : (p : Bool) (ks : List Known) (k : Known) → Spaced p ks → is_behind_known k ≡ false → is_long_known k ≡ false → Spaced p (ks ++ k ∷ [])
unfolding Spaced
spaced_push p [] k h b l = (b ∙ sym h, l)
spaced_push p (x ∷ ks) k h b l = (h.0, spaced_push (is_long_known x) ks k h.1 b l)

spaced_long : (p : Bool) (ks : List Known) (n : ℤ) → Spaced p ks → Spaced p (ks ++ KnownLong n ∷ KnownBehind n ∷ [])
unfolding Spaced
spaced_long p [] n h = (sym h, (refl, refl))
spaced_long p (x ∷ ks) n h = (h.0, spaced_long (is_long_known x) ks n h.1)

other_long : (k : Known) (n : ℤ) → is_long_known k ≡ false → same_known (KnownLong n) k ≡ false
other_long (KnownLong m) n h = absurd cc
other_long _ n h = refl

other_behind : (k : Known) (n : ℤ) → is_behind_known k ≡ false → same_known (KnownBehind n) k ≡ false
other_behind (KnownBehind m) n h = absurd cc
other_behind _ n h = refl

spaced_add : (ks : List Known) (k : Known) (b : Bool) → Spaced false ks → is_behind_known k ≡ false → is_long_known k ≡ false → Spaced false (cond b ks (ks ++ k ∷ []))
spaced_add ks k true s b l = s
spaced_add ks k false s b l = spaced_push false ks k s b l

orderly_other : (ks : List Known) (k : Known) → Orderly ks → is_behind_known k ≡ false → is_long_known k ≡ false → Orderly (add ks k)
orderly_other ks k o b l = record {
  spaced = spaced_add ks k (has ks k) o.spaced b l;
  twins = λ n. rw (has_add ks k (KnownLong n), has_add ks k (KnownBehind n), other_long k n l, other_behind k n b, o.twins n) refl;
}

none_there : (n : ℤ) → has (KnownLong n ∷ []) (KnownBehind n) ≡ false
unfolding has
none_there n = refl

spaced_two : (ks : List Known) (n : ℤ) (b : Bool) → Spaced false ks → Twins ks → has ks (KnownLong n) ≡ b → Spaced false (add (cond b ks (ks ++ KnownLong n ∷ [])) (KnownBehind n))
spaced_two ks n true s t h =
    let behind : has ks (KnownBehind n) ≡ true = sym (t n) ∙ h in
    rw behind s
spaced_two ks n false s t h =
    let behind : has ks (KnownBehind n) ≡ false = sym (t n) ∙ h in
    let now : has (ks ++ KnownLong n ∷ []) (KnownBehind n) ≡ false = has_append ks (KnownLong n ∷ []) (KnownBehind n) ∙ rw behind (none_there n) in
    rw now (subst (λ (x : List Known). Spaced false x) (sym (append_assoc ks (KnownLong n ∷ []) (KnownBehind n ∷ []))) (spaced_long false ks n s))

orderly_two : (ks : List Known) (n : ℤ) → Orderly ks → Orderly (add (add ks (KnownLong n)) (KnownBehind n))
orderly_two ks n o = record {
  spaced = spaced_two ks n (has ks (KnownLong n)) o.spaced o.twins refl;
  twins = λ m.
      let a : has (add (add ks (KnownLong n)) (KnownBehind n)) (KnownLong m) ≡ (has ks (KnownLong m) || int_eq m n) =
      has_add (add ks (KnownLong n)) (KnownBehind n) (KnownLong m) ∙ or_none (has (add ks (KnownLong n)) (KnownLong m)) ∙ has_add ks (KnownLong n) (KnownLong m) in
      let b : has (add (add ks (KnownLong n)) (KnownBehind n)) (KnownBehind m) ≡ (has ks (KnownBehind m) || int_eq m n) =
      has_add (add ks (KnownLong n)) (KnownBehind n) (KnownBehind m) ∙ ap (λ (x : Bool). x || int_eq m n) (has_add ks (KnownLong n) (KnownBehind m) ∙ or_none (has ks (KnownBehind m))) in
      a ∙ ap (λ (x : Bool). x || int_eq m n) (o.twins m) ∙ sym b;
}

orderly_adds : (ks us : List Known) → Orderly ks → Paired None us → Orderly (adds ks us)
unfolding adds
orderly_adds ks [] o p = o
orderly_adds ks (KnownLong n ∷ []) o p = absurd p.1
orderly_adds ks (KnownLong n ∷ k ∷ us) o p =
    let is : k ≡ KnownBehind n = p.1.0 in
    let next : Paired None us = subst (λ (x : Known). Paired (pair_next x) us) is p.1.1 in
    let two : Orderly (add (add ks (KnownLong n)) k) = subst (λ (x : Known). Orderly (add (add ks (KnownLong n)) x)) (sym is) (orderly_two ks n o) in
    orderly_adds (add (add ks (KnownLong n)) k) us two next
orderly_adds ks (KnownText t ∷ us) o p = orderly_adds (add ks (KnownText t)) us (orderly_other ks (KnownText t) o refl refl) p.1
orderly_adds ks (KnownWhole t ∷ us) o p = orderly_adds (add ks (KnownWhole t)) us (orderly_other ks (KnownWhole t) o refl refl) p.1
orderly_adds ks (KnownBehind t ∷ us) o p = absurd (true≢false p.0)
orderly_adds ks (KnownClass t ∷ us) o p = orderly_adds (add ks (KnownClass t)) us (orderly_other ks (KnownClass t) o refl refl) p.1
orderly_adds ks (KnownLiteral t ∷ us) o p = orderly_adds (add ks (KnownLiteral t)) us (orderly_other ks (KnownLiteral t) o refl refl) p.1
orderly_adds ks (KnownField c n d ∷ us) o p = orderly_adds (add ks (KnownField c n d)) us (orderly_other ks (KnownField c n d) o refl refl) p.1
orderly_adds ks (KnownMethod c n d ∷ us) o p = orderly_adds (add ks (KnownMethod c n d)) us (orderly_other ks (KnownMethod c n d) o refl refl) p.1
orderly_adds ks (KnownInterface c n d ∷ us) o p = orderly_adds (add ks (KnownInterface c n d)) us (orderly_other ks (KnownInterface c n d) o refl refl) p.1
orderly_adds ks (KnownPair n d ∷ us) o p = orderly_adds (add ks (KnownPair n d)) us (orderly_other ks (KnownPair n d) o refl refl) p.1

orderly_none : Orderly []
unfolding Spaced has
orderly_none = record { spaced = refl; twins = λ n. refl }

-- ---- parts in the pool

pool_within : (us : List Known) → Within us (adds [] us)
pool_within us k h = has_pool us k ∙ h

at_first : (us : List Known) (P : Known → Type 0) (u k : Known) (b : Bool) → same_known k u ≡ b → P u × AllByRecursion P us → (has us k ≡ true → P k) → (b || has us k) ≡ true → P k
at_first us P u k true e h ih t = subst P (sym (same_true k u e)) h.0
at_first us P u k false e h ih t = ih t

pub parts_by : (us : List Known) (P : Known → Type 0) → AllByRecursion P us → (k : Known) → has us k ≡ true → P k
unfolding has
parts_by [] P h k t = absurd cc
parts_by (u ∷ us) P h k t = at_first us P u k (same_known k u) refl h (λ g. parts_by us P h.1 k g) t

pub pool_closed : (c : ClassModel) (k : Known) → has (pool_for c) k ≡ true → Parts (pool_for c) k
pool_closed c k h = parts_more (uses c) (pool_for c) (pool_within (uses c)) k (parts_by (uses c) (Parts (uses c)) (closed_uses c) k (sym (has_pool (uses c) k) ∙ h))

all_parts : (all ks : List Known) → ((k : Known) → has all k ≡ true → Parts all k) → Within ks all → PartsIn all ks
all_parts all [] closed w = tt
all_parts all (k ∷ ks) closed w = (closed k (w k (has_first k ks)), all_parts all ks closed (λ x h. w x (has_later k x ks h)))

have_all : (all us : List Known) → Within us all → Have all us
have_all all [] w = tt
have_all all (u ∷ us) w = (w u (has_first u us), have_all all us (λ x h. w x (has_later u x us h)))

-- ---- what ldc loads has a small number

pub adds_append : (ks us vs : List Known) → adds ks (us ++ vs) ≡ adds (adds ks us) vs
unfolding adds
adds_append ks [] vs = refl
adds_append ks (u ∷ us) vs = adds_append (add ks u) us vs

-- the list grows at its end
abbrev Grows : List Known → List Known → Type 0
Grows a b = (more : List Known) × (b ≡ a ++ more)

grows_add : (ks : List Known) (k : Known) (b : Bool) → Grows ks (cond b ks (ks ++ k ∷ []))
grows_add ks k true = ([], sym (append-nil ks))
grows_add ks k false = (k ∷ [], refl)

grows_adds : (ks us : List Known) → Grows ks (adds ks us)
unfolding adds
grows_adds ks [] = ([], sym (append-nil ks))
grows_adds ks (u ∷ us) =
    let a = grows_add ks u (has ks u) in
    let b = grows_adds (add ks u) us in
    (a.0 ++ b.0, b.1 ∙ ap (λ (x : List Known). x ++ b.0) a.1 ∙ append_assoc ks a.0 b.0)

first_by : (ks more : List Known) (k x : Known) (b : Bool) → same_known k x ≡ b → (has ks k ≡ true → prefix_len (λ y. not (same_known k y)) (ks ++ more) < length ks) → has (x ∷ ks) k ≡ true
    → cond (not b) (1 + prefix_len (λ y. not (same_known k y)) (ks ++ more)) 0 < length (x ∷ ks)
unfolding has
first_by ks more k x true e ih h = omega arith
first_by ks more k x false e ih h =
    let t : has ks k ≡ true = subst (λ (b : Bool). (b || has ks k) ≡ true) e h in
    let l = ih t in
    omega (arith, l)

-- it is found where it was before the list grew
first_place : (ks more : List Known) (k : Known) → has ks k ≡ true → prefix_len (λ y. not (same_known k y)) (ks ++ more) < length ks
unfolding has
first_place [] more k h = absurd cc
first_place (x ∷ ks) more k h = first_by ks more k x (same_known k x) refl (first_place ks more k) h

low_number : (ks more : List Known) (k : Known) → has ks k ≡ true → length ks ≤ 255 → number (ks ++ more) k < 256
unfolding number
low_number ks more k h le =
    let p = first_place ks more k h in
    let i = prefix_len (λ y. not (same_known k y)) (ks ++ more) in
    let a = lt-ltb (prefix_len (λ y. not (same_known k y)) (ks ++ more)) (length (ks ++ more)) (omega (arith, p, length-append ks more)) in
    let b = lt-ltb (prefix_len (λ y. not (same_known k y)) (ks ++ more)) 65535 (omega (arith, p, le)) in
    rw (a, b) (omega (arith, p, le))

low_all : (ks more : List Known) → length ks ≤ 255 → (us : List Known) → Within us ks → Low (ks ++ more) us
low_all ks more le [] w = tt
low_all ks more le (u ∷ us) w = (low_number ks more u (w u (has_first u us)) le, low_all ks more le us (λ x h. w x (has_later u x us h)))

members_used : (c : ClassModel) (k : Known) → has (members_uses c) k ≡ true → has (uses c) k ≡ true
unfolding uses
members_used c k h = has_right (loads_of c) (members_uses c) k h

pub loads_low : (c : ClassModel) → places (loads_of c) ≤ 255 → Low (pool_for c) (loads_of c)
unfolding uses
loads_low c le =
    let split : adds [] (loads_of c ++ members_uses c) ≡ adds (adds [] (loads_of c)) (members_uses c) = adds_append [] (loads_of c) (members_uses c) in
    let g = grows_adds (adds [] (loads_of c)) (members_uses c) in
    let whole : adds [] (loads_of c ++ members_uses c) ≡ adds [] (loads_of c) ++ g.0 = split ∙ g.1 in
    subst (λ (x : List Known). Low x (loads_of c)) (sym whole) (low_all (adds [] (loads_of c)) g.0 le (loads_of c) (pool_within (loads_of c)))

-- ---- the file

head_again : (ks : List Known) (slots : List Slot) (rest : List ℕ) → pool_at (spell_pool ks ++ rest) ≡ Ok (slots, rest) → head_at (spell_head ks ++ rest) ≡ Ok (slots, rest)
unfolding head_at spell_head
head_again ks slots rest h =
    rw (u4_again 0xCAFEBABE (to_be_bytes w16 0 ++ (to_be_bytes w16 major ++ (spell_pool ks ++ rest))) (omega arith), u2_again 0 (to_be_bytes w16 major ++ (spell_pool ks ++ rest)) (omega arith), u2_again major (spell_pool ks ++ rest) (omega arith), h) refl

pub file_again : (c : ClassModel) → fits_of c ≡ true → read (file_of c) ≡ Ok c
unfolding read file_of fits_of pool_fits
file_again c h =
    let f = and_parts (members_fit c) (list_all known_fits (uses c) && (leb (places (loads_of c)) 255 && leb (places (uses c)) 65534)) h in
    let g = and_parts (list_all known_fits (uses c)) (leb (places (loads_of c)) 255 && leb (places (uses c)) 65534) f.1 in
    let n = and_parts (leb (places (loads_of c)) 255) (leb (places (uses c)) 65534) g.1 in
    let few = leb-true (places (loads_of c)) 255 n.0 in
    let short = leb-true (places (uses c)) 65534 n.1 in
    let ks = pool_for c in
    let body = spell_members (pool_for c) c in
    let o = orderly_adds [] (uses c) orderly_none (paired_uses c) in
    let p = pool_again (pool_for c) body (omega (arith, short)) (all_adds known_fits [] (uses c) refl g.0) o.spaced (pool_closed c) (all_parts (pool_for c) (pool_for c) (pool_closed c) (λ k t. t)) in
    let w : Within (members_uses c) (pool_for c) = λ k t. pool_within (uses c) k (members_used c k t) in
    let m = members_again p.slots (pool_for c) p.serves c [] f.0 (have_all (pool_for c) (members_uses c) w) (loads_low c few) in
    let m2 : members_at p.slots body ≡ Ok (c, []) = ap (members_at p.slots) (sym (append-nil body)) ∙ m in
    rw (head_again (pool_for c) p.slots body p.is, m2) refl
