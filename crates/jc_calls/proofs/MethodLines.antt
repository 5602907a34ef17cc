-- Methods along a line of classes.
use Rattle.std.proofs.Common.{◌≡◌, ◌<◌, ◌+◌, ◌-◌, ℕ, suc, Bool, List, ◌∷◌, position, refl, sym, ap, ◌∙◌, arith}
use Rattle.std.specs.Option.{option_map}
use Rattle.std.specs.declared.option.Option.{Option}
use Rattle.std.specs.declared.option.Option.TheVariants.{Some, None}
use Rattle.jc_class_out.specs.declared.model.ClassModel.{ClassModel}
use Rattle.jc_class_out.specs.declared.model.MethodModel.{MethodModel}
use Rattle.jc_jvm.specs.Classes.{line_on, super_of, or_else, methods_of, method_among}
use Rattle.jc_heap.proofs.FieldLayouts.{line_on-none as line_end, line_on-zero as line_over}

line_more : (classes : List ClassModel) (m n k : ℕ) → m ≡ suc n → line_on classes m (Some k) ≡ k ∷ line_on classes n (super_of classes k)
unfolding line_on
line_more classes m n k e = rw e refl

abbrev pub among_on : List ClassModel → (MethodModel → Bool) → ℕ → Option ℕ → Option (ℕ × ℕ)
among_on classes test n here = method_among classes test (line_on classes n here)

step_by : (classes : List ClassModel) (test : MethodModel → Bool) (n i k : ℕ) → i < n →
    among_on classes test (n - i) (Some k) ≡ or_else (option_map (λ (m : ℕ). (k, m)) (position test (methods_of classes k))) (among_on classes test (n - (i + 1)) (super_of classes k))
step_by classes test n i k below = ap (λ (ks : List ℕ). method_among classes test ks) (line_more classes (n - i) (n - (i + 1)) k (omega arith))

-- the class has such a method
pub among_found : (classes : List ClassModel) (test : MethodModel → Bool) (n i k m : ℕ) (whole : Option (ℕ × ℕ)) → i < n → position test (methods_of classes k) ≡ Some m →
    among_on classes test (n - i) (Some k) ≡ whole → Some (k, m) ≡ whole
among_found classes test n i k m whole below e is =
    ap (λ (o : Option ℕ). or_else (option_map (λ (x : ℕ). (k, x)) o) (among_on classes test (n - (i + 1)) (super_of classes k))) (sym e) ∙ sym (step_by classes test n i k below) ∙ is

-- it has none
pub among_more : (classes : List ClassModel) (test : MethodModel → Bool) (n i k : ℕ) (whole : Option (ℕ × ℕ)) → i < n → position test (methods_of classes k) ≡ None →
    among_on classes test (n - i) (Some k) ≡ whole → among_on classes test (n - (i + 1)) (super_of classes k) ≡ whole
among_more classes test n i k whole below e is =
    ap (λ (o : Option ℕ). or_else (option_map (λ (x : ℕ). (k, x)) o) (among_on classes test (n - (i + 1)) (super_of classes k))) (sym e) ∙ sym (step_by classes test n i k below) ∙ is

-- there is no class any more
pub among_end : (classes : List ClassModel) (test : MethodModel → Bool) (n : ℕ) (here : Option ℕ) (whole : Option (ℕ × ℕ)) → here ≡ None → among_on classes test n here ≡ whole → None ≡ whole
among_end classes test n here whole none is =
    ap (λ (ks : List ℕ). method_among classes test ks) (sym (line_end classes n)) ∙ ap (λ (h : Option ℕ). among_on classes test n h) (sym none) ∙ is

pub among_over : (classes : List ClassModel) (test : MethodModel → Bool) (n : ℕ) (here : Option ℕ) (whole : Option (ℕ × ℕ)) → n ≡ 0 → among_on classes test n here ≡ whole → None ≡ whole
among_over classes test n here whole none is =
    ap (λ (ks : List ℕ). method_among classes test ks) (sym (line_over classes here)) ∙ ap (λ (m : ℕ). among_on classes test m here) (sym none) ∙ is
