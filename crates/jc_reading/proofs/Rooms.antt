-- Heights of parts against the room that there is.
use Rattle.std.proofs.Common.{◌≡◌, ℕ, suc, ◌<◌, ◌≤◌, max, Bool, true, false, List, [], ◌∷◌, map, refl, sym, ap, ◌∙◌, ⊎_elim, arith}
use Rattle.std.specs.Prelude.{◌&&◌, nat_le}
use Rattle.std.proofs.lemmas.Bool.{leb-true, le-leb, lt-leb, cases_lt}
use Rattle.jc_tree.specs.Heights.{most}
use Rattle.jc_reading.proofs.Lists.{fits_all}

pub room_above : (a : ℕ) → nat_le 0 a ≡ true
room_above a = le-leb 0 a (omega arith)

pub room_suc : (a h : ℕ) → nat_le (suc a) (suc h) ≡ nat_le a h
room_suc a h =
    ⊎_elim (λ (lt : h < a). lt-leb (suc a) (suc h) (omega arith) ∙ sym (lt-leb a h (omega arith)))
    (λ (le : a ≤ h). le-leb (suc a) (suc h) (omega arith) ∙ sym (le-leb a h (omega arith))) (cases_lt h a)

pub room_none : (a : ℕ) → nat_le (suc a) 0 ≡ false
room_none a = lt-leb (suc a) 0 (omega arith)

both : (a b h : ℕ) → (x y z : Bool) → (z ≡ true → (x ≡ true) × (y ≡ true)) → (x ≡ true → y ≡ true → z ≡ true) → z ≡ (x && y)
both a b h true true z f g = g refl refl
both a b h false y true f g = sym (f refl).0
both a b h false y false f g = refl
both a b h true false true f g = sym (f refl).1
both a b h true false false f g = refl

pub room_max : (a b h : ℕ) → nat_le (max a b) h ≡ (nat_le a h && nat_le b h)
room_max a b h =
    both a b h (nat_le a h) (nat_le b h) (nat_le (max a b) h)
    (λ t. let le : max a b ≤ h = leb-true (max a b) h t in (le-leb a h (omega arith), le-leb b h (omega arith)))
    (λ s t. let l : a ≤ h = leb-true a h s in let m : b ≤ h = leb-true b h t in le-leb (max a b) h (omega arith))

pub room_all : {A : Type 0} (height : A → ℕ) (h : ℕ) (list : List A) → nat_le (most (map height list)) h ≡ fits_all (λ a. nat_le (height a) h) list
room_all height h [] = room_above h
room_all height h (a ∷ list) = room_max (height a) (most (map height list)) h ∙ ap (λ b. nat_le (height a) h && b) (room_all height h list)
