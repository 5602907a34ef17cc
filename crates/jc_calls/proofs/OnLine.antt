-- Whether a class is on a line of classes.
use Rattle.std.proofs.Common.{◌≡◌, ◌≢◌, ◌<◌, ◌+◌, ◌-◌, ◌==◌, ◌||◌, ℕ, suc, Bool, true, false, List, ◌∷◌, refl, sym, ap, ◌∙◌, arith}
use Rattle.std.proofs.lemmas.Bool.Decides.{nat_tests}
use Rattle.std.specs.List.{list_any}
use Rattle.std.specs.declared.option.Option.{Option}
use Rattle.std.specs.declared.option.Option.TheVariants.{Some, None}
use Rattle.jc_class_out.specs.declared.model.ClassModel.{ClassModel}
use Rattle.jc_jvm.specs.Classes.{line_on, super_of}
use Rattle.jc_heap.proofs.FieldLayouts.{line_on-none as line_end, line_on-zero as line_over}

line_more : (classes : List ClassModel) (m n k : ℕ) → m ≡ suc n → line_on classes m (Some k) ≡ k ∷ line_on classes n (super_of classes k)
unfolding line_on
line_more classes m n k e = rw e refl

abbrev pub is_on : List ClassModel → ℕ → ℕ → Option ℕ → Bool
is_on classes wanted n here = list_any (λ k. k == wanted) (line_on classes n here)

step_by : (classes : List ClassModel) (wanted n i k : ℕ) → i < n → is_on classes wanted (n - i) (Some k) ≡ ((k == wanted) || is_on classes wanted (n - (i + 1)) (super_of classes k))
step_by classes wanted n i k below = ap (λ (ks : List ℕ). list_any (λ k. k == wanted) ks) (line_more classes (n - i) (n - (i + 1)) k (omega arith))

pub on_found : (classes : List ClassModel) (wanted n i k : ℕ) (whole : Bool) → i < n → k ≡ wanted → is_on classes wanted (n - i) (Some k) ≡ whole → true ≡ whole
on_found classes wanted n i k whole below same is =
    let t : (k == wanted) ≡ true = grind (arith, nat_tests) in
    ap (λ (b : Bool). b || is_on classes wanted (n - (i + 1)) (super_of classes k)) (sym t) ∙ sym (step_by classes wanted n i k below) ∙ is

pub on_more : (classes : List ClassModel) (wanted n i k : ℕ) (whole : Bool) → i < n → k ≢ wanted → is_on classes wanted (n - i) (Some k) ≡ whole → is_on classes wanted (n - (i + 1)) (super_of classes k) ≡ whole
on_more classes wanted n i k whole below other is =
    let t : (k == wanted) ≡ false = grind (arith, nat_tests) in
    ap (λ (b : Bool). b || is_on classes wanted (n - (i + 1)) (super_of classes k)) (sym t) ∙ sym (step_by classes wanted n i k below) ∙ is

pub on_end : (classes : List ClassModel) (wanted n : ℕ) (here : Option ℕ) (whole : Bool) → here ≡ None → is_on classes wanted n here ≡ whole → false ≡ whole
on_end classes wanted n here whole none is =
    ap (λ (ks : List ℕ). list_any (λ k. k == wanted) ks) (sym (line_end classes n)) ∙ ap (λ (h : Option ℕ). is_on classes wanted n h) (sym none) ∙ is

pub on_over : (classes : List ClassModel) (wanted n : ℕ) (here : Option ℕ) (whole : Bool) → n ≡ 0 → is_on classes wanted n here ≡ whole → false ≡ whole
on_over classes wanted n here whole none is =
    ap (λ (ks : List ℕ). list_any (λ k. k == wanted) ks) (sym (line_over classes here)) ∙ ap (λ (m : ℕ). is_on classes wanted m here) (sym none) ∙ is
