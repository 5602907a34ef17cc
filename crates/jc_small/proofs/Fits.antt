-- The class of a program has a class file: its numbers have room, and its pool has room for its constants.
use Rattle.std.proofs.Common.{◌≡◌, ◌≤◌, ◌<◌, ℕ, zero, suc, ◌+◌, ◌-◌, ◌*◌, Bool, true, false, List, [], ◌∷◌, ◌++◌, length, refl, sym, ap, ◌∙◌, subst, arith, leb-true, length-append, codes, inl, inr, ◌⊎◌}
use Rattle.std.proofs.lemmas.Bool.{lt-ltb, le-leb, and_from, or_right}
use Rattle.std.proofs.lemmas.List.{append-nil}
use Rattle.std.specs.Prelude.{flat_map, pos, nat_le, ◌&&◌, ◌||◌}
use Rattle.std.specs.List.{AllByRecursion, list_all, list_any}
use Rattle.jc_class_out.specs.declared.model.Ins.{Ins}
use Rattle.jc_class_out.specs.declared.model.Item.{Item}
use Rattle.jc_class_out.specs.declared.model.Loaded.TheVariants.{Whole}
use Rattle.jc_class_out.specs.declared.model.Operand.TheVariants.{Nothing, Number, Load}
use Rattle.jc_class_out.specs.Pool.{Known, KnownText, KnownClass, KnownField, KnownMethod, KnownPair}
use Rattle.jc_class_out.specs.Descriptors.{parameter_units, name_end, type_end, parameters_on}
use Rattle.jc_class_out.specs.Instructions.{kind_of, branch_kind, member_kind, ins_size, operand_size}
use Rattle.jc_class_out.specs.Code.{marks_of, marks_from, size_from}
use Rattle.jc_class_out.specs.Spelling.{same_known, has, add, adds, ins_uses, ins_first_uses, operand_uses, member_uses, code_uses, method_uses, members_uses, loads_of, uses, entry_of_method}
use Rattle.jc_class_out.specs.Fitting.{text_fits, known_fits, operand_fits, ins_fits, all_fit, ins_lands, ins_all_fit, tables_fit, frames_fit, frames_within, code_fits, method_fits, counts_fit, members_fit, pool_fits, fits_of}
use Rattle.jc_small.specs.Small.{Program, IsSum}
use Rattle.jc_small.specs.ClassOf.{ins, const_ins, more_code, write_code, main_code, main_class, out_ins, write_ins, init_method, main_method}
use Rattle.jc_class_out.proofs.CodeGood.{all_append as all_join}

all_first : (a b c : Bool) → (a && b) ≡ true → (b ≡ true → c ≡ true) → (a && c) ≡ true
all_first true b c e more = more e
all_first false b c e more = e

all_append : {A : Type 0} (p : A → Bool) (xs ys : List A) → list_all p xs ≡ true → list_all p ys ≡ true → list_all p (xs ++ ys) ≡ true
all_append p [] ys e f = f
all_append p (x ∷ xs) ys e f = all_first (p x) (list_all p xs) (list_all p (xs ++ ys)) e (λ g. all_append p xs ys g f)

-- ---- the room of the pool

-- a constant is one of these
abbrev Among : Known → List Known → Type 0
Among k [] = ⊥
Among k (b ∷ bs) = (k ≡ b) ⊎ Among k bs

-- each of these is the same as itself
abbrev Selfsame : List Known → Type 0
Selfsame [] = Unit {0}
Selfsame (b ∷ bs) = (same_known b b ≡ true) × Selfsame bs

-- constants, all but n of which are among the base
data Costs (base : List Known) : List Known → ℕ → Type 0 where
  none : Costs base [] 0
  basic : {k : Known} {ks : List Known} {n : ℕ} → Among k base → Costs base ks n → Costs base (k ∷ ks) n
  other : {k : Known} {ks : List Known} {n : ℕ} → Costs base ks n → Costs base (k ∷ ks) (suc n)

costs_append : {base ks ls : List Known} {m n : ℕ} → Costs base ks m → Costs base ls n → Costs base (ks ++ ls) (m + n)
costs_append {base = base} {ls = ls} none c = subst (Costs base ls) (omega arith) c
costs_append (basic a b) c = basic a (costs_append b c)
costs_append {base = base} {ks = k ∷ ks} {ls = ls} {m = suc m} {n = n} (other b) c = subst (Costs base (k ∷ (ks ++ ls))) (omega arith) (other (costs_append b c))

-- how many of the base are not there
count_if : Bool → ℕ
count_if true = 0
count_if false = 1

missing : List Known → List Known → ℕ
missing ks [] = 0
missing ks (b ∷ bs) = count_if (has ks b) + missing ks bs

any_first : (a b c : Bool) → (a || b) ≡ true → (b ≡ true → c ≡ true) → (a || c) ≡ true
any_first true b c e more = refl
any_first false b c e more = more e

any_more : {A : Type 0} (p : A → Bool) (xs : List A) (y : A) → list_any p xs ≡ true → list_any p (xs ++ y ∷ []) ≡ true
any_more p [] y e = cc
any_more p (x ∷ xs) y e = any_first (p x) (list_any p xs) (list_any p (xs ++ y ∷ [])) e (any_more p xs y)

any_last : {A : Type 0} (p : A → Bool) (xs : List A) (y : A) → p y ≡ true → list_any p (xs ++ y ∷ []) ≡ true
any_last p [] y e = rw e refl
any_last p (x ∷ xs) y e = or_right (p x) (list_any p (xs ++ y ∷ [])) (any_last p xs y e)

fewer : (ks : List Known) (k b : Known) → count_if (has (ks ++ k ∷ []) b) ≤ count_if (has ks b)
unfolding has count_if
fewer ks k b = by_here (has ks b) refl
  where
    by_here : (t : Bool) → has ks b ≡ t → count_if (has (ks ++ k ∷ []) b) ≤ count_if (has ks b)
    by_here true e = rw (any_more (same_known b) ks k e) (omega arith)
    by_here false e = rw e (at_most_one (has (ks ++ k ∷ []) b))
      where
        at_most_one : (t : Bool) → count_if t ≤ 1
        at_most_one true = omega arith
        at_most_one false = omega arith

missing_less : (ks bs : List Known) (k : Known) → missing (ks ++ k ∷ []) bs ≤ missing ks bs
unfolding missing
missing_less ks [] k = omega arith
missing_less ks (b ∷ bs) k = omega (arith, fewer ks k b, missing_less ks bs k)

missing_one : (ks bs : List Known) (k : Known) → Among k bs → Selfsame bs → has ks k ≡ false → missing (ks ++ k ∷ []) bs + 1 ≤ missing ks bs
unfolding missing has count_if
missing_one ks [] k a same e = absurd a
missing_one ks (b ∷ bs) k (inl a) same e =
    let there : has (ks ++ k ∷ []) b ≡ true = any_last (same_known b) ks k (rw a same.0) in
    let not_there : has ks b ≡ false = rw (sym a) e in
    rw (there, not_there) (omega (arith, missing_less ks bs k))
missing_one ks (b ∷ bs) k (inr a) same e = omega (arith, fewer ks k b, missing_one ks bs k a same.1 e)

-- the pool grows by no more than the base that is missing and the others
grown_basic : (base : List Known) → Selfsame base → (ks us : List Known) (u : Known) (n : ℕ) → Among u base
    → ((ls : List Known) → length (adds ls us) ≤ length ls + missing ls base + n) → (t : Bool) → has ks u ≡ t → length (adds (add ks u) us) ≤ length ks + missing ks base + n
grown_basic base same ks us u n a more true e = rw e (more ks)
grown_basic base same ks us u n a more false e = rw e (omega (arith, more (ks ++ u ∷ []), length-append ks (u ∷ []), missing_one ks base u a same e))

grown_other : (base : List Known) (ks us : List Known) (u : Known) (n : ℕ)
    → ((ls : List Known) → length (adds ls us) ≤ length ls + missing ls base + n) → (t : Bool) → has ks u ≡ t → length (adds (add ks u) us) ≤ length ks + missing ks base + suc n
grown_other base ks us u n more true e = rw e (omega (arith, more ks))
grown_other base ks us u n more false e = rw e (omega (arith, more (ks ++ u ∷ []), length-append ks (u ∷ []), missing_less ks base u))

grown : (base : List Known) → Selfsame base → (ks us : List Known) (n : ℕ) → Costs base us n → length (adds ks us) ≤ length ks + missing ks base + n
unfolding adds
grown base same ks [] n none = omega arith
grown base same ks (u ∷ us) n (basic a c) = grown_basic base same ks us u n a (λ ls. grown base same ls us n c) (has ks u) refl
grown base same ks (u ∷ us) (suc n) (other c) = grown_other base ks us u n (λ ls. grown base same ls us n c) (has ks u) refl

count_most : (t : Bool) → count_if t ≤ 1
unfolding count_if
count_most true = omega arith
count_most false = omega arith

missing_most : (ks bs : List Known) → missing ks bs ≤ length bs
unfolding missing
missing_most ks [] = omega arith
missing_most ks (b ∷ bs) = omega (arith, count_most (has ks b), missing_most ks bs)

-- the constants of the members that main uses
abbrev main_base : List Known
main_base =
    KnownText (codes "java/lang/System") ∷ KnownClass (codes "java/lang/System") ∷ KnownText (codes "out") ∷ KnownText (codes "Ljava/io/PrintStream;") ∷
    KnownPair (codes "out") (codes "Ljava/io/PrintStream;") ∷ KnownField (codes "java/lang/System") (codes "out") (codes "Ljava/io/PrintStream;") ∷
    KnownText (codes "java/io/PrintStream") ∷ KnownClass (codes "java/io/PrintStream") ∷ KnownText (codes "write") ∷ KnownText (codes "(I)V") ∷
    KnownPair (codes "write") (codes "(I)V") ∷ KnownMethod (codes "java/io/PrintStream") (codes "write") (codes "(I)V") ∷ []

base_selfsame : Selfsame main_base
base_selfsame = (refl, (refl, (refl, (refl, (refl, (refl, (refl, (refl, (refl, (refl, (refl, (refl, tt))))))))))))

-- ---- instructions of main

-- what an instruction of main needs: it has room anywhere, jumps nowhere, and uses at most one constant beside the members
record IsFit (i : Ins) : Type 0 where
  fits : (at : ℕ) → ins_fits at i ≡ true
  lands : (marks : List Bool) → ins_lands marks i ≡ true
  least : (at : ℕ) → 1 ≤ ins_size at i
  most : (at : ℕ) → ins_size at i ≤ 3
  first : ins_first_uses i ≡ []
  known : list_all known_fits (ins_uses i) ≡ true
  cost : ℕ
  small : cost ≤ 1
  costs : Costs main_base (ins_uses i) cost

plain_small : (n : ℕ) → n ≤ 5 → IsFit (ins (n + 3) Nothing)
unfolding ins_fits operand_fits kind_of operand_size ins_first_uses operand_uses
plain_small zero h = record { fits = λ at. refl; lands = λ m. refl; least = λ at. omega arith; most = λ at. omega arith; first = refl; known = refl; cost = 0; small = omega arith; costs = none }
plain_small (suc zero) h = record { fits = λ at. refl; lands = λ m. refl; least = λ at. omega arith; most = λ at. omega arith; first = refl; known = refl; cost = 0; small = omega arith; costs = none }
plain_small (suc (suc zero)) h = record { fits = λ at. refl; lands = λ m. refl; least = λ at. omega arith; most = λ at. omega arith; first = refl; known = refl; cost = 0; small = omega arith; costs = none }
plain_small (suc (suc (suc zero))) h = record { fits = λ at. refl; lands = λ m. refl; least = λ at. omega arith; most = λ at. omega arith; first = refl; known = refl; cost = 0; small = omega arith; costs = none }
plain_small (suc (suc (suc (suc zero)))) h = record { fits = λ at. refl; lands = λ m. refl; least = λ at. omega arith; most = λ at. omega arith; first = refl; known = refl; cost = 0; small = omega arith; costs = none }
plain_small (suc (suc (suc (suc (suc zero))))) h = record { fits = λ at. refl; lands = λ m. refl; least = λ at. omega arith; most = λ at. omega arith; first = refl; known = refl; cost = 0; small = omega arith; costs = none }
plain_small (suc (suc (suc (suc (suc (suc n)))))) h = absurd (omega arith)

byte_small : (n : ℕ) → n ≤ 127 → IsFit (ins 0x10 (Number (pos n)))
unfolding ins_fits operand_fits kind_of operand_size ins_first_uses operand_uses
byte_small n h = record { fits = λ at. lt-ltb n 128 (omega arith); lands = λ m. refl; least = λ at. omega arith; most = λ at. omega arith; first = refl; known = refl; cost = 0; small = omega arith; costs = none }

short_small : (n : ℕ) → n ≤ 32767 → IsFit (ins 0x11 (Number (pos n)))
unfolding ins_fits operand_fits kind_of operand_size ins_first_uses operand_uses
short_small n h = record { fits = λ at. lt-ltb n 32768 (omega arith); lands = λ m. refl; least = λ at. omega arith; most = λ at. omega arith; first = refl; known = refl; cost = 0; small = omega arith; costs = none }

loaded_small : (n : ℕ) → n ≤ 2147483647 → IsFit (ins 0x13 (Load (Whole (pos n))))
unfolding ins_fits operand_fits kind_of operand_size ins_first_uses operand_uses
loaded_small n h = record {
  fits = λ at. refl;
  lands = λ m. refl;
  least = λ at. omega arith;
  most = λ at. omega arith;
  first = refl;
  known = and_from _ true (lt-ltb n 2147483648 (omega arith)) refl;
  cost = 1;
  small = omega arith;
  costs = other none;
}

constant_fits : (n : ℕ) → n ≤ 2147483647 → IsFit (const_ins n)
constant_fits n h = by_size (nat_le n 5) refl (nat_le n 127) refl (nat_le n 32767) refl
  where
    by_size : (a : Bool) → nat_le n 5 ≡ a → (b : Bool) → nat_le n 127 ≡ b → (d : Bool) → nat_le n 32767 ≡ d → IsFit (const_ins n)
    by_size true ea b eb d ed = rw ea (plain_small n (leb-true n 5 ea))
    by_size false ea true eb d ed = rw (ea, eb) (byte_small n (leb-true n 127 eb))
    by_size false ea false eb true ed = rw (ea, eb, ed) (short_small n (leb-true n 32767 ed))
    by_size false ea false eb false ed = rw (ea, eb, ed) (loaded_small n h)

sum_fits : IsFit (ins 0x60 Nothing)
unfolding ins_fits operand_fits kind_of operand_size ins_first_uses operand_uses
sum_fits = record { fits = λ at. refl; lands = λ m. refl; least = λ at. omega arith; most = λ at. omega arith; first = refl; known = refl; cost = 0; small = omega arith; costs = none }

return_fits : IsFit (ins 0xb1 Nothing)
unfolding ins_fits operand_fits kind_of operand_size ins_first_uses operand_uses
return_fits = record { fits = λ at. refl; lands = λ m. refl; least = λ at. omega arith; most = λ at. omega arith; first = refl; known = refl; cost = 0; small = omega arith; costs = none }

out_costs : Costs main_base (ins_uses out_ins) 0
unfolding kind_of branch_kind member_kind operand_uses member_uses
out_costs =
    basic (inl refl) (basic (inr (inl refl)) (basic (inr (inr (inl refl))) (basic (inr (inr (inr (inl refl)))) (basic (inr (inr (inr (inr (inl refl))))) (basic (inr (inr (inr (inr (inr (inl refl)))))) none)))))

write_costs : Costs main_base (ins_uses write_ins) 0
unfolding kind_of branch_kind member_kind operand_uses member_uses
write_costs =
    basic (inr (inr (inr (inr (inr (inr (inl refl)))))))
    (basic (inr (inr (inr (inr (inr (inr (inr (inl refl))))))))
    (basic (inr (inr (inr (inr (inr (inr (inr (inr (inl refl)))))))))
    (basic (inr (inr (inr (inr (inr (inr (inr (inr (inr (inl refl))))))))))
    (basic (inr (inr (inr (inr (inr (inr (inr (inr (inr (inr (inl refl)))))))))))
    (basic (inr (inr (inr (inr (inr (inr (inr (inr (inr (inr (inr (inl refl)))))))))))) none)))))

out_fits : IsFit out_ins
unfolding ins_fits operand_fits kind_of branch_kind member_kind operand_size ins_first_uses operand_uses member_uses text_fits name_end type_end parameters_on parameter_units
out_fits = record { fits = λ at. refl; lands = λ m. refl; least = λ at. omega arith; most = λ at. omega arith; first = refl; known = refl; cost = 0; small = omega arith; costs = out_costs }

write_fits : IsFit write_ins
unfolding ins_fits operand_fits kind_of branch_kind member_kind operand_size ins_first_uses operand_uses member_uses text_fits name_end type_end parameters_on parameter_units
write_fits = record { fits = λ at. refl; lands = λ m. refl; least = λ at. omega arith; most = λ at. omega arith; first = refl; known = refl; cost = 0; small = omega arith; costs = write_costs }

-- ---- main's code

more_fits : (ns : List ℕ) → AllByRecursion (λ n. n ≤ 2147483647) ns → AllByRecursion IsFit (more_code ns)
more_fits [] small = tt
more_fits (n ∷ ns) small = (constant_fits n small.0, (sum_fits, more_fits ns small.1))

write_code_fits : (ns : List ℕ) → IsSum ns → AllByRecursion IsFit (write_code ns)
write_code_fits [] sum = absurd sum
write_code_fits (n ∷ ns) sum = (out_fits, (constant_fits n sum.0, all_join IsFit (more_code ns) (write_ins ∷ []) (more_fits ns sum.1) (write_fits, tt)))

writes_fit : (program : Program) → AllByRecursion IsSum program → AllByRecursion IsFit (flat_map write_code program)
writes_fit [] sums = tt
writes_fit (ns ∷ program) sums = all_join IsFit (write_code ns) (flat_map write_code program) (write_code_fits ns sums.0) (writes_fit program sums.1)

main_fits : (program : Program) → AllByRecursion IsSum program → AllByRecursion IsFit (main_code program)
main_fits program sums = all_join IsFit (flat_map write_code program) (ins 0xb1 Nothing ∷ []) (writes_fit program sums) (return_fits, tt)

-- ---- what follows for a list of such instructions

size_most : (is : List Ins) (at : ℕ) → AllByRecursion IsFit is → size_from at is ≤ 3 * length is
unfolding size_from
size_most [] at fit = omega arith
size_most (i ∷ is) at fit = omega (arith, fit.0.most at, size_most is (at + ins_size at i) fit.1)

size_least : (i : Ins) (is : List Ins) (at : ℕ) → AllByRecursion IsFit (i ∷ is) → 1 ≤ size_from at (i ∷ is)
unfolding size_from
size_least i is at fit = omega (arith, fit.0.least at)

each_fits : (is : List Ins) (at : ℕ) → AllByRecursion IsFit is → all_fit at is ≡ true
unfolding all_fit
each_fits [] at fit = refl
each_fits (i ∷ is) at fit = and_from (ins_fits at i) _ (fit.0.fits at) (each_fits is (at + ins_size at i) fit.1)

each_lands : (is : List Ins) (marks : List Bool) → AllByRecursion IsFit is → list_all (ins_lands marks) is ≡ true
each_lands [] marks fit = refl
each_lands (i ∷ is) marks fit = and_from (ins_lands marks i) _ (fit.0.lands marks) (each_lands is marks fit.1)

none_first : (is : List Ins) → AllByRecursion IsFit is → flat_map ins_first_uses is ≡ []
none_first [] fit = refl
none_first (i ∷ is) fit = rw (fit.0.first, none_first is fit.1) refl

each_known : (is : List Ins) → AllByRecursion IsFit is → list_all known_fits (flat_map ins_uses is) ≡ true
each_known [] fit = refl
each_known (i ∷ is) fit = all_append known_fits (ins_uses i) (flat_map ins_uses is) fit.0.known (each_known is fit.1)

record CostsAtMost (ks : List Known) (limit : ℕ) : Type 0 where
  cost : ℕ
  small : cost ≤ limit
  costs : Costs main_base ks cost

each_costs : (is : List Ins) → AllByRecursion IsFit is → CostsAtMost (flat_map ins_uses is) (length is)
each_costs [] fit = record { cost = 0; small = omega arith; costs = none }
each_costs (i ∷ is) fit =
    let more = each_costs is fit.1 in
    record { cost = fit.0.cost + more.cost; small = omega (arith, fit.0.small, more.small); costs = costs_append fit.0.costs more.costs }

-- ---- the class

size_some : (is : List Ins) → 1 ≤ length is → AllByRecursion IsFit is → 1 ≤ size_from 0 is
size_some [] h fit = absurd (omega arith)
size_some (i ∷ is) h fit = size_least i is 0 fit

init_method_fits : method_fits (codes "Main") init_method ≡ true
unfolding method_fits code_fits ins_all_fit all_fit ins_fits operand_fits kind_of branch_kind member_kind operand_size size_from marks_from tables_fit frames_fit frames_within name_end type_end parameters_on parameter_units
init_method_fits = refl

main_ins_fit : (is : List Ins) → 1 ≤ length is → length is ≤ 16384 → AllByRecursion IsFit is → ins_all_fit is ≡ true
unfolding ins_all_fit
main_ins_fit is some short fit =
    and_from _ _ (lt-ltb 0 (size_from 0 is) (omega (arith, size_some is some fit)))
    (and_from _ _ (lt-ltb (size_from 0 is) 65536 (omega (arith, size_most is 0 fit))) (and_from _ _ (each_fits is 0 fit) (each_lands is (marks_of is) fit)))

main_tables_fit : (marks : List Bool) (entry : List Item) (is : List Ins) → tables_fit marks entry (record { stack = 3; locals = 1; ins = is; handlers = []; frames = [] }) ≡ true
unfolding tables_fit frames_fit frames_within
main_tables_fit marks entry is = refl

main_code_fits : (entry : List Item) (is : List Ins) → 1 ≤ length is → length is ≤ 16384 → AllByRecursion IsFit is → code_fits entry (record { stack = 3; locals = 1; ins = is; handlers = []; frames = [] }) ≡ true
unfolding code_fits
main_code_fits entry is some short fit = and_from _ _ (main_ins_fit is some short fit) (main_tables_fit (marks_of is) entry is)

main_method_fits : (program : Program) → AllByRecursion IsFit (main_code program) → length (main_code program) ≤ 16384 → 1 ≤ length (main_code program) → method_fits (codes "Main") (main_method program) ≡ true
unfolding method_fits name_end type_end parameters_on parameter_units
main_method_fits program fit short some = main_code_fits (entry_of_method (codes "Main") (main_method program)) (main_code program) some short fit

class_members_fit : (program : Program) → AllByRecursion IsFit (main_code program) → length (main_code program) ≤ 16384 → 1 ≤ length (main_code program) → members_fit (main_class program) ≡ true
unfolding members_fit counts_fit
class_members_fit program fit short some = rw (init_method_fits, main_method_fits program fit short some) refl

-- the constants that the class uses before those of main's code
abbrev head_known : List Known
head_known =
    KnownText (codes "Main") ∷ KnownClass (codes "Main") ∷ KnownText (codes "java/lang/Object") ∷ KnownClass (codes "java/lang/Object") ∷
    KnownText (codes "<init>") ∷ KnownText (codes "()V") ∷ KnownText (codes "Code") ∷
    KnownText (codes "java/lang/Object") ∷ KnownClass (codes "java/lang/Object") ∷ KnownText (codes "<init>") ∷ KnownText (codes "()V") ∷
    KnownPair (codes "<init>") (codes "()V") ∷ KnownMethod (codes "java/lang/Object") (codes "<init>") (codes "()V") ∷
    KnownText (codes "main") ∷ KnownText (codes "([Ljava/lang/String;)V") ∷ KnownText (codes "Code") ∷ []

head_fits : list_all known_fits head_known ≡ true
unfolding text_fits name_end type_end parameters_on parameter_units
head_fits = refl

no_loads : (program : Program) → AllByRecursion IsFit (main_code program) → loads_of (main_class program) ≡ []
unfolding loads_of ins_first_uses kind_of branch_kind member_kind
no_loads program fit = append-nil (flat_map ins_first_uses (main_code program)) ∙ none_first (main_code program) fit

members_are : (program : Program) → members_uses (main_class program) ≡ head_known ++ flat_map ins_uses (main_code program)
unfolding members_uses method_uses code_uses operand_uses member_uses kind_of branch_kind member_kind
members_are program =
    let code = flat_map ins_uses (main_code program) in
    ap (λ (l : List Known). head_known ++ l) (append-nil ((code ++ []) ++ []) ∙ append-nil (code ++ []) ∙ append-nil code)

costs_others : (ks : List Known) → Costs main_base ks (length ks)
costs_others [] = none
costs_others (k ∷ ks) = other (costs_others ks)

class_pool_fits : (program : Program) → AllByRecursion IsFit (main_code program) → length (main_code program) ≤ 16384 → pool_fits (main_class program) ≡ true
unfolding pool_fits uses adds
class_pool_fits program fit short =
    let code = main_code program in
    let costs = each_costs code fit in
    let room = grown main_base base_selfsame [] (head_known ++ flat_map ins_uses code) (length head_known + costs.cost) (costs_append (costs_others head_known) costs.costs) in
    rw (no_loads program fit, members_are program)
    (and_from _ _ (all_append known_fits head_known (flat_map ins_uses code) head_fits (each_known code fit))
    (le-leb (length (adds [] (head_known ++ flat_map ins_uses code))) 65534 (omega (arith, room, missing_most [] main_base, costs.small, short))))

-- the class of a program that isn't too long has a file
pub class_fits : (program : Program) → AllByRecursion IsSum program → length (main_code program) ≤ 16384 → fits_of (main_class program) ≡ true
unfolding fits_of
class_fits program sums short =
    let fit = main_fits program sums in
    let some : 1 ≤ length (main_code program) = omega (arith, length-append (flat_map write_code program) (ins 0xb1 Nothing ∷ [])) in
    and_from _ _ (class_members_fit program fit short some) (class_pool_fits program fit short)
