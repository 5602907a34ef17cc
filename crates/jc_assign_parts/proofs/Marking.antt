-- Words and marks, by their bits.
use Rattle.std.proofs.Common.{◌≡◌, ℕ, ◌<◌, ◌≤◌, ◌+◌, ◌-◌, ◌%◌, ◌*◌, ◌^◌, Bool, true, false, not, ◌&&◌, ◌||◌, ◌==◌, bit_and, bit_or, bit_xor, if◌then◌else◌, refl, sym, ap, ap₂, ◌∙◌, arith}
use Rattle.std.proofs.Math.Path.{fun_ext}
use Rattle.jc_assign_spec.specs.declared.marks.Mark.{Mark}
use Rattle.jc_assign_spec.specs.Marks.{free, fresh, gone, meet, over}
use Rattle.jc_assign_spec.specs.Statements.{entry_of}
use Rattle.jc_assign_parts.specs.declared.lanes.Worlds.{Worlds}
use Rattle.jc_assign_parts.specs.declared.lanes.Marks.{Marks}
use Rattle.jc_assign_parts.specs.Lanes.{Lane, Word, Marking, bits, by_world, mark, mark_of, marking, marks, word, word_of}
use Rattle.std.proofs.lemmas.Bool.{ne_eqb}
use Rattle.jc_assign_parts.proofs.Bits.{bits_none, same_tests, bits_and, bits_or, bits_less, bits_all, bits_one, and_worlds, or_worlds, less_worlds, both_worlds, world_and, world_or, world_less, world_both}

or_true : (a b : Bool) → (a || b) ≡ (if b then true else a)
or_true true true = refl
or_true true false = refl
or_true false true = refl
or_true false false = refl

less_false : (a b : Bool) → (a && not b) ≡ (if b then false else a)
less_false true true = refl
less_false true false = refl
less_false false true = refl
less_false false false = refl

pub word_one : (k : ℕ) → k < 64 → word ((1 * 2 ^ k) % 2 ^ 64) ≡ word_of (λ i. i % 64 == k)
unfolding word
word_one k h = ap word_of (fun_ext (λ i. bits_one k i h))

pub put_true : (w m : ℕ) → word (bit_or w m) ≡ word_of (λ i. if bits m i then true else bits w i)
unfolding word
put_true w m = ap word_of (fun_ext (λ i. bits_or w m i ∙ or_true (bits w i) (bits m i)))

pub put_false : (w m : ℕ) → word (bit_xor w (bit_and w m)) ≡ word_of (λ i. if bits m i then false else bits w i)
unfolding word
put_false w m = ap word_of (fun_ext (λ i. bits_less w m i ∙ less_false (bits w i) (bits m i)))

pub worlds_alike : (w : ℕ) → by_world (both_worlds w) ≡ (λ l. bits w l.at)
worlds_alike w = fun_ext (λ l. world_both w l)

pub worlds_both : (a b : Worlds) → by_world (and_worlds a b) ≡ (λ l. by_world a l && by_world b l)
worlds_both a b = fun_ext (λ l. world_and a b l)

pub worlds_either : (a b : Worlds) → by_world (or_worlds a b) ≡ (λ l. by_world a l || by_world b l)
worlds_either a b = fun_ext (λ l. world_or a b l)

pub worlds_less : (a b : Worlds) → by_world (less_worlds a b) ≡ (λ l. by_world a l && not (by_world b l))
worlds_less a b = fun_ext (λ l. world_less a b l)

-- at each variable
pub at_each : {A : Type 0} {f g : Lane → A} → f ≡ g → (l : Lane) → f l ≡ g l
at_each {A} e l = ap (λ (h : Lane → A). h l) e

pub put_either : (w m r : Worlds) (n : ℕ) → by_world m ≡ (λ l. bits n l.at) → by_world r ≡ (λ l. by_world w l || by_world m l)
    → by_world r ≡ (λ l. if bits n l.at then true else by_world w l)
put_either w m r n e h = fun_ext (λ l. at_each h l ∙ ap (λ (b : Bool). by_world w l || b) (at_each e l) ∙ or_true (by_world w l) (bits n l.at))

pub put_less : (w m r : Worlds) (n : ℕ) → by_world m ≡ (λ l. bits n l.at) → by_world r ≡ (λ l. by_world w l && not (by_world m l))
    → by_world r ≡ (λ l. if bits n l.at then false else by_world w l)
put_less w m r n e h = fun_ext (λ l. at_each h l ∙ ap (λ (b : Bool). by_world w l && not b) (at_each e l) ∙ less_false (by_world w l) (bits n l.at))

abbrev full : Marks
full = record { set = 18446744073709551615; unset = both_worlds 18446744073709551615 }

pub marks_free : marks full ≡ marking (λ l. free)
unfolding marks
marks_free = ap marking (fun_ext (λ l. ap₂ mark_of (bits_all l.at) (world_both 18446744073709551615 l ∙ bits_all l.at)))

pub marks_meet : (a b : Marks) (u : Worlds) → by_world u ≡ (λ l. by_world a.unset l && by_world b.unset l)
    → marks (record { set = bit_and a.set b.set; unset = u }) ≡ marking (λ l. meet ((marks a).each l) ((marks b).each l))
unfolding marks
marks_meet a b u e = ap marking (fun_ext (λ l. ap₂ mark_of (bits_and a.set b.set l.at) (at_each e l)))

pub marks_over : (a b : Marks) (u : Worlds) → by_world u ≡ (λ l. by_world b.unset l && by_world a.unset l)
    → marks (record { set = bit_or b.set a.set; unset = u }) ≡ marking (λ l. over ((marks a).each l) ((marks b).each l))
unfolding marks
marks_over a b u e = ap marking (fun_ext (λ l. ap₂ mark_of (bits_or b.set a.set l.at) (at_each e l)))

pub marks_entry : (m : Marks) (w : ℕ) (v u : Worlds) → by_world v ≡ (λ l. bits w l.at) → by_world u ≡ (λ l. by_world m.unset l && not (by_world v l))
    → marks (record { set = m.set; unset = u }) ≡ marking (λ l. entry_of ((marks m).each l) (bits w l.at))
unfolding marks
marks_entry m w v u e h = ap marking (fun_ext (λ l. ap (mark_of (bits m.set l.at)) (at_each h l ∙ ap (λ (b : Bool). by_world m.unset l && not b) (at_each e l))))

chosen_mark : (b : Bool) (s t u v : Bool) → mark_of (if b then s else t) (if b then u else v) ≡ (if b then mark_of s u else mark_of t v)
chosen_mark true s t u v = refl
chosen_mark false s t u v = refl

at_bit : {f g : ℕ → Bool} → word_of f ≡ word_of g → (i : ℕ) → f i ≡ g i
at_bit e i = ap (λ (h : Word). h.each i) e

pub marks_put : (m : Marks) (w s : ℕ) (u : Worlds) (b : Bool) → word s ≡ word_of (λ i. if bits w i then b else bits m.set i)
    → by_world u ≡ (λ l. if bits w l.at then not b else by_world m.unset l)
    → marks (record { set = s; unset = u }) ≡ marking (λ l. if (word w).each l.at then mark_of b (not b) else (marks m).each l)
unfolding marks word
marks_put m w s u b e h = ap marking (fun_ext (λ l. ap₂ mark_of (at_bit e l.at) (at_each h l) ∙ chosen_mark (bits w l.at) _ _ _ _))

pub or_false : (b : Bool) → (b || false) ≡ b
or_false true = refl
or_false false = refl

pub word_all : word 18446744073709551615 ≡ word_of (λ i. true)
unfolding word
word_all = ap word_of (fun_ext (λ i. bits_all i))

pub word_none : word 0 ≡ word_of (λ i. false)
unfolding word
word_none = ap word_of (fun_ext (λ i. bits_none i))

-- the bit of a number from another one on
pub word_from : (first n w : ℕ) → first ≤ n → n - first < 64 → word w ≡ word_of (λ i. i % 64 == n - first) → word w ≡ word_of (λ i. n == first + i % 64)
word_from first n w h k e = e ∙ ap word_of (fun_ext (λ i. same_tests (i % 64) (n - first) n (first + i % 64) (λ q. omega (arith, h, q)) (λ q. omega (arith, h, q))))

pub word_before : (first n : ℕ) → n < first → word 0 ≡ word_of (λ i. n == first + i % 64)
word_before first n h = word_none ∙ ap word_of (fun_ext (λ i. sym (ne_eqb n (first + i % 64) (λ q. omega (arith, h, q)))))

pub word_behind : (first n : ℕ) → first ≤ n → 64 ≤ n - first → word 0 ≡ word_of (λ i. n == first + i % 64)
word_behind first n h k = word_none ∙ ap word_of (fun_ext (λ i. sym (ne_eqb n (first + i % 64) (λ q. omega (arith, h, k, q)))))
