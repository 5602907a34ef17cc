-- Steps of a state, by its variables.
use Rattle.std.proofs.Common.{◌≡◌, ℕ, Bool, true, false, not, ◌&&◌, ◌||◌, List, [], ◌∷◌, ◌++◌, Result, Ok, Err, OnOk, bit_and, bit_or, bit_xor, if◌then◌else◌, refl, sym, ap, ap₂, ◌∙◌}
use Rattle.std.proofs.Math.Path.{fun_ext}
use Rattle.jc_rules.specs.declared.rule.Place.{Place}
use Rattle.jc_rules.specs.declared.rule.Refusal.{Refusal}
use Rattle.jc_assign_spec.specs.declared.marks.Mark.{Mark}
use Rattle.jc_assign_spec.specs.declared.marks.Jump.{Jump}
use Rattle.jc_assign_spec.specs.declared.marks.Exit.{Exit}
use Rattle.jc_assign_spec.specs.Marks.{Known, free, fresh, gone, meet, met, with_now, with_exits, broken_if, used, written, declared, given, jumps}
use Rattle.jc_assign_spec.specs.Expressions.{used_if, written_if}
use Rattle.jc_assign_spec.specs.Statements.{declared_if, given_if}
use Rattle.jc_assign_parts.specs.declared.lanes.Worlds.{Worlds}
use Rattle.jc_assign_parts.specs.declared.lanes.Marks.{Marks}
use Rattle.jc_assign_parts.specs.declared.lanes.Leaving.{Leaving}
use Rattle.jc_assign_parts.specs.declared.lanes.Found.{Found}
use Rattle.jc_assign_parts.specs.declared.lanes.State.{State}
use Rattle.jc_assign_parts.specs.Lanes.{Lane, Word, Marking, Knowing, bits, broken, by_world, known, knowing, lane, leaving, mark, mark_of, marking, marks, stepped, ways, word, word_of}
use Rattle.jc_assign_parts.proofs.Bits.{bits_and, bits_less}
use Rattle.jc_assign_parts.proofs.Marking.{at_each}

at_mark : {f g : Lane → Mark} → marking f ≡ marking g → (l : Lane) → f l ≡ g l
at_mark e l = ap (λ (h : Marking). h.each l) e

at_bit : {f g : ℕ → Bool} → word_of f ≡ word_of g → (i : ℕ) → f i ≡ g i
at_bit e i = ap (λ (h : Word). h.each i) e

abbrev with_marks : Marks → State → State
with_marks m s = record { marks = m; wrote = s.wrote; fixed = s.fixed; exits = s.exits; broken = s.broken }

abbrev with_found : List Found → State → State
with_found xs s = record { marks = s.marks; wrote = s.wrote; fixed = s.fixed; exits = s.exits; broken = xs }

pub set_known : (s : State) (m : Marks) → known (with_marks m s) ≡ stepped (λ l k. with_now ((marks m).each l) k) (known s)
unfolding known marks with_now
set_known s m = refl

pub met_known : (s : State) (m x : Marks) → marks x ≡ marking (λ l. meet ((marks m).each l) ((marks s.marks).each l))
    → known (with_marks x s) ≡ stepped (λ l k. met ((marks m).each l) k) (known s)
unfolding known marks with_now
met_known s m x e = ap knowing (fun_ext (λ l. ap (λ (y : Mark). with_now y (lane s l)) (at_mark e l)))

push_case : (b c : Bool) (r q : Refusal) (t : List Refusal)
    → (if b then r ∷ (if c then t ++ q ∷ [] else t) else (if c then t ++ q ∷ [] else t)) ≡ (if c then (if b then r ∷ t else t) ++ q ∷ [] else (if b then r ∷ t else t))
push_case true true r q t = refl
push_case true false r q t = refl
push_case false true r q t = refl
push_case false false r q t = refl

pub found_more : (xs : List Found) (x : Found) (l : Lane) → broken (xs ++ x ∷ []) l ≡ (if by_world x.lanes l then broken xs l ++ x.refusal ∷ [] else broken xs l)
found_more [] x l = refl
found_more (y ∷ ys) x l =
    ap (λ (t : List Refusal). if by_world y.lanes l then y.refusal ∷ t else t) (found_more ys x l)
    ∙ push_case (by_world y.lanes l) (by_world x.lanes l) y.refusal x.refusal (broken ys l)

break_case : (b : Bool) (r : ℕ) (p : Place) (t : List Refusal) → (if b then t ++ record { rule = r; place = p; have = 0 } ∷ [] else t) ≡ broken_if b r p t
break_case true r p t = refl
break_case false r p t = refl

pub found_if : (xs : List Found) (w : Worlds) (r : ℕ) (p : Place)
    → broken (xs ++ record { lanes = w; refusal = record { rule = r; place = p; have = 0 } } ∷ []) ≡ (λ l. broken_if (by_world w l) r p (broken xs l))
found_if xs w r p = fun_ext (λ l. found_more xs (record { lanes = w; refusal = record { rule = r; place = p; have = 0 } }) l ∙ break_case (by_world w l) r p (broken xs l))

abbrev changed : Mark → Bool → Bool → List Refusal → Known → Known
changed m w f bs k = record { now = m; wrote = w; fixed = f; exits = k.exits; broken = bs }

use_lane : (b : Bool) (k : Known) (p : Place) (bs : List Refusal) → bs ≡ broken_if (b && not k.now.set) 705 p k.broken → changed k.now k.wrote k.fixed bs k ≡ used_if b p k
unfolding used
use_lane true k p bs e = ap (λ (x : List Refusal). changed k.now k.wrote k.fixed x k) e
use_lane false k p bs e = ap (λ (x : List Refusal). changed k.now k.wrote k.fixed x k) e

pub used_known : (s : State) (m r : ℕ) (w : Worlds) (p : Place) (xs : List Found) → r ≡ 705 → by_world w ≡ (λ l. bits (bit_xor m (bit_and m s.marks.set)) l.at)
    → broken xs ≡ (λ l. broken_if (by_world w l) r p (broken s.broken l))
    → known (with_found xs s) ≡ stepped (λ l k. used_if ((word m).each l.at) p k) (known s)
unfolding known word
used_known s m r w p xs q e h =
    ap knowing (fun_ext (λ l. use_lane (bits m l.at) (lane s l) p (broken xs l)
    (at_each h l ∙ ap (λ (x : ℕ). broken_if (by_world w l) x p (broken s.broken l)) q ∙ ap (λ (b : Bool). broken_if b 705 p (broken s.broken l)) (at_each e l ∙ bits_less m s.marks.set l.at))))

and_or : (a b c : Bool) → ((a && b) || (a && c)) ≡ (a && (b || c))
and_or true b c = refl
and_or false b c = refl

pub refused_at : (n f : ℕ) (u a b c r : Worlds) → by_world a ≡ (λ l. bits (bit_and n f) l.at) → by_world b ≡ (λ l. bits n l.at)
    → by_world c ≡ (λ l. by_world b l && not (by_world u l)) → by_world r ≡ (λ l. by_world a l || by_world c l)
    → by_world r ≡ (λ l. bits n l.at && (bits f l.at || not (by_world u l)))
refused_at n f u a b c r ha hb hc hr =
    fun_ext (λ l. at_each hr l
    ∙ ap₂ (λ (x y : Bool). x || y) (at_each ha l ∙ bits_and n f l.at) (at_each hc l ∙ ap (λ (x : Bool). x && not (by_world u l)) (at_each hb l))
    ∙ and_or (bits n l.at) (bits f l.at) (not (by_world u l)))

write_lane : (b f : Bool) (k : Known) (p : Place) (m : Mark) (r : Bool) (bs : List Refusal) → m ≡ (if b then mark_of true (not true) else k.now)
    → r ≡ (if b then true else k.wrote) → bs ≡ broken_if ((b && f) && (k.fixed || not k.now.unset)) 706 p k.broken
    → changed m r k.fixed bs k ≡ written_if b f p k
unfolding written
write_lane true f k p m r bs hm hr hb =
    ap (λ (x : Mark). changed x r k.fixed bs k) hm ∙ ap (λ (x : Bool). changed gone x k.fixed bs k) hr ∙ ap (λ (x : List Refusal). changed gone true k.fixed x k) hb
write_lane false f k p m r bs hm hr hb =
    ap (λ (x : Mark). changed x r k.fixed bs k) hm ∙ ap (λ (x : Bool). changed k.now x k.fixed bs k) hr ∙ ap (λ (x : List Refusal). changed k.now k.wrote k.fixed x k) hb

pub written_known : (s : State) (m f n : ℕ) (w : Worlds) (p : Place) (xs : List Found) (x : Marks) (r : ℕ) → n ≡ 706
    → by_world w ≡ (λ l. bits (bit_and m f) l.at && (bits s.fixed l.at || not (by_world s.marks.unset l)))
    → broken xs ≡ (λ l. broken_if (by_world w l) n p (broken s.broken l))
    → marks x ≡ marking (λ l. if (word m).each l.at then mark_of true (not true) else (marks s.marks).each l)
    → word r ≡ word_of (λ i. if bits m i then true else bits s.wrote i)
    → known (record { marks = x; wrote = r; fixed = s.fixed; exits = s.exits; broken = xs }) ≡ stepped (λ l k. written_if ((word m).each l.at) ((word f).each l.at) p k) (known s)
unfolding known marks word
written_known s m f n w p xs x r q hw hb hx hr =
    ap knowing (fun_ext (λ l. write_lane (bits m l.at) (bits f l.at) (lane s l) p (mark x l) (bits r l.at) (broken xs l) (at_mark hx l) (at_bit hr l.at)
    (at_each hb l ∙ ap (λ (y : ℕ). broken_if (by_world w l) y p (broken s.broken l)) q ∙ ap (λ (b : Bool). broken_if b 706 p (broken s.broken l))
    (at_each hw l ∙ ap (λ (b : Bool). b && (bits s.fixed l.at || not (by_world s.marks.unset l))) (bits_and m f l.at)))))

declare_lane : (b v : Bool) (k : Known) (m : Mark) (f : Bool) → m ≡ (if b then mark_of v (not v) else k.now) → f ≡ (if b then v else k.fixed)
    → changed m k.wrote f k.broken k ≡ declared_if b v k
unfolding declared
declare_lane true true k m f hm hf = ap (λ (x : Mark). changed x k.wrote f k.broken k) hm ∙ ap (λ (x : Bool). changed gone k.wrote x k.broken k) hf
declare_lane true false k m f hm hf = ap (λ (x : Mark). changed x k.wrote f k.broken k) hm ∙ ap (λ (x : Bool). changed fresh k.wrote x k.broken k) hf
declare_lane false v k m f hm hf = ap (λ (x : Mark). changed x k.wrote f k.broken k) hm ∙ ap (λ (x : Bool). changed k.now k.wrote x k.broken k) hf

pub declared_known : (s : State) (m r : ℕ) (v : Bool) (x : Marks)
    → marks x ≡ marking (λ l. if (word m).each l.at then mark_of v (not v) else (marks s.marks).each l)
    → word r ≡ word_of (λ i. if bits m i then v else bits s.fixed i)
    → known (record { marks = x; wrote = s.wrote; fixed = r; exits = s.exits; broken = s.broken }) ≡ stepped (λ l k. declared_if ((word m).each l.at) v k) (known s)
unfolding known marks word
declared_known s m r v x hx hr = ap knowing (fun_ext (λ l. declare_lane (bits m l.at) v (lane s l) (mark x l) (bits r l.at) (at_mark hx l) (at_bit hr l.at)))

give_lane : (b v : Bool) (k : Known) (m : Mark) (f : Bool) → m ≡ (if b then mark_of true (not true) else k.now) → f ≡ (if b then v else k.fixed)
    → changed m k.wrote f k.broken k ≡ given_if b v k
unfolding given
give_lane true v k m f hm hf = ap (λ (x : Mark). changed x k.wrote f k.broken k) hm ∙ ap (λ (x : Bool). changed gone k.wrote x k.broken k) hf
give_lane false v k m f hm hf = ap (λ (x : Mark). changed x k.wrote f k.broken k) hm ∙ ap (λ (x : Bool). changed k.now k.wrote x k.broken k) hf

pub given_known : (s : State) (m r : ℕ) (v : Bool) (x : Marks)
    → marks x ≡ marking (λ l. if (word m).each l.at then mark_of true (not true) else (marks s.marks).each l)
    → word r ≡ word_of (λ i. if bits m i then v else bits s.fixed i)
    → known (record { marks = x; wrote = s.wrote; fixed = r; exits = s.exits; broken = s.broken }) ≡ stepped (λ l k. given_if ((word m).each l.at) v k) (known s)
unfolding known marks word
given_known s m r v x hx hr = ap knowing (fun_ext (λ l. give_lane (bits m l.at) v (lane s l) (mark x l) (bits r l.at) (at_mark hx l) (at_bit hr l.at)))

pub ways_more : (xs : List Leaving) (x : Leaving) (l : Lane) → ways (xs ++ x ∷ []) l ≡ ways xs l ++ leaving x l ∷ []
ways_more [] x l = refl
ways_more (y ∷ ys) x l = ap (λ (t : List Exit). leaving y l ∷ t) (ways_more ys x l)

pub jumped_known : (s : State) (j : Jump) (x : Marks) (xs : List Leaving) → xs ≡ s.exits ++ record { jump = j; marks = s.marks } ∷ [] → marks x ≡ marking (λ l. free)
    → known (record { marks = x; wrote = s.wrote; fixed = s.fixed; exits = xs; broken = s.broken }) ≡ stepped (λ l k. jumps j k) (known s)
unfolding known marks jumps with_now with_exits
jumped_known s j x xs h e =
    ap knowing (fun_ext (λ l. ap₂ (λ (m : Mark) (es : List Exit). with_now m (with_exits es (lane s l))) (at_mark e l)
    (ap (λ (ys : List Leaving). ways ys l) h ∙ ways_more s.exits (record { jump = j; marks = s.marks }) l)))

pub on_ok : {T E P Q : Type 0} (r : Result T E) → (P → Q) → OnOk r P → OnOk r Q
on_ok (Ok x) f h = f h
on_ok (Err x) f h = tt
