-- Of two warnings of which neither comes before the other one is the other.
use Rattle.std.proofs.Common.{◌≡◌, ℕ, Bool, true, false, refl, sym, ◌∙◌, ap, arith}
use Rattle.std.specs.Prelude.{◌&&◌, ◌||◌, ◌==◌, nat_lt, if◌then◌else◌}
use Rattle.std.proofs.lemmas.Bool.Decides.{nat_tests}
use Rattle.jc_unchecked_spec.specs.declared.warning.Warning.{Warning}
use Rattle.jc_unchecked_spec.specs.declared.warning.WarningKind.{WarningKind}
use Rattle.jc_unchecked_spec.specs.declared.warning.WarningKind.TheVariants as kind
use Rattle.jc_unchecked_spec.specs.Kinds.{kind_number}
use Rattle.jc_unchecked_spec.specs.Warnings.{comes_before}

or_first : (a b : Bool) → (a || b) ≡ false → a ≡ false
or_first true b e = cc
or_first false b e = refl

or_second : (a b : Bool) → (a || b) ≡ false → b ≡ false
or_second true b e = cc
or_second false b e = e

behind : (a b : Bool) → a ≡ true → (a && b) ≡ false → b ≡ false
behind true b e f = f
behind false b e f = cc

-- numbers of which neither is less
one : (a b : ℕ) → nat_lt a b ≡ false → nat_lt b a ≡ false → a ≡ b
one a b e f = grind (arith, nat_tests)

equal : (a b : ℕ) → a ≡ b → (a == b) ≡ true
equal a b e = grind (arith, nat_tests)

-- by two numbers, and what decides where they are one
level : (a b : ℕ) (x y : Bool) → (nat_lt a b || ((a == b) && x)) ≡ false → (nat_lt b a || ((b == a) && y)) ≡ false → (a ≡ b) × (x ≡ false) × (y ≡ false)
level a b x y e f =
    let s : a ≡ b = one a b (or_first (nat_lt a b) ((a == b) && x) e) (or_first (nat_lt b a) ((b == a) && y) f) in
    (s, behind (a == b) x (equal a b s) (or_second (nat_lt a b) ((a == b) && x) e), behind (b == a) y (equal b a (sym s)) (or_second (nat_lt b a) ((b == a) && y) f))

-- the kind of a number
abbrev kind_of : ℕ → WarningKind
kind_of n =
    if n == 1 then kind.Conversion
    else (if n == 2 then kind.Cast else (if n == 3 then kind.RawCall else (if n == 4 then kind.RawField else (if n == 5 then kind.Result else (if n == 6 then kind.RawSupertype else kind.GenericArray)))))

kind_back : (k : WarningKind) → kind_of (kind_number k) ≡ k
kind_back kind.Conversion = refl
kind_back kind.Cast = refl
kind_back kind.RawCall = refl
kind_back kind.RawField = refl
kind_back kind.Result = refl
kind_back kind.RawSupertype = refl
kind_back kind.GenericArray = refl

same_kind : (k l : WarningKind) → kind_number k ≡ kind_number l → k ≡ l
same_kind k l e = sym (kind_back k) ∙ ap kind_of e ∙ kind_back l

abbrev made : ℕ → ℕ → WarningKind → Warning
made f a k = record { place = record { file = f; at = a }; kind = k }

pub same_warning : (w v : Warning) → comes_before w v ≡ false → comes_before v w ≡ false → w ≡ v
same_warning w v e f =
    let files : _ = level w.place.file v.place.file
    (nat_lt w.place.at v.place.at || ((w.place.at == v.place.at) && nat_lt (kind_number w.kind) (kind_number v.kind)))
    (nat_lt v.place.at w.place.at || ((v.place.at == w.place.at) && nat_lt (kind_number v.kind) (kind_number w.kind))) e f in
    let offsets : _ = level w.place.at v.place.at (nat_lt (kind_number w.kind) (kind_number v.kind)) (nat_lt (kind_number v.kind) (kind_number w.kind)) files.1 files.2 in
    let kinds : w.kind ≡ v.kind = same_kind w.kind v.kind (one (kind_number w.kind) (kind_number v.kind) offsets.1 offsets.2) in
    ap (λ x. made x w.place.at w.kind) files.0 ∙ ap (λ x. made v.place.file x w.kind) offsets.0 ∙ ap (λ x. made v.place.file v.place.at x) kinds
