-- Lists that are read part by part, with the greatest height in them.
use Rattle.std.proofs.Common.{◌≡◌, ℕ, max, List, [], ◌∷◌, ◌++◌, map, sym, ap, ◌∙◌, subst}
use Rattle.jc_lexer.specs.declared.token.Sign.TheVariants as sign_of
use Rattle.jc_lexer.specs.declared.token.Token.{Token}
use Rattle.jc_tree.specs.Heights.{capped, most}
use Rattle.jc_reading.specs.Kinds.{sign_code}
use Rattle.jc_reading.specs.Reading.{Read, Found, Run, as_new, behind_it, commas_run, in_turn, of_kind, times}
use Rattle.jc_reading.proofs.Turns.{Resumes, turn_second}
use Rattle.jc_reading.specs.Reach.{onto}
use Rattle.jc_parse_expr.proofs.HeightSteps.{one_height, pushed}
use Rattle.jc_parse_expr.proofs.ListSteps.{commas_first}

pub one_top : {A : Type 0} (f : A → ℕ) (a : A) (list : List A) (n : ℕ) → n ≡ capped (f a) → list ≡ a ∷ [] → n ≡ capped (most (map f list))
one_top {A = A} f a list n e g = e ∙ sym (one_height f a) ∙ sym (ap (λ (l : List A). capped (most (map f l))) g)

pub more_top : {A : Type 0} (f : A → ℕ) (list new : List A) (a : A) (n k top : ℕ) → n ≡ capped (most (map f list)) → k ≡ capped (f a) → top ≡ max n k → new ≡ list ++ a ∷ [] → top ≡ capped (most (map f new))
more_top {A = A} f list new a n k top e g i h =
    i ∙ ap (λ (j : ℕ). max j k) e ∙ ap (λ (j : ℕ). max (capped (most (map f list))) j) g ∙ sym (ap (λ (l : List A). capped (most (map f l))) h ∙ pushed f list a)

pub resumes_same : {A : Type 0} (whole : Read (List A)) (list new : List A) (left k : ℕ) (m : Run A) (rest : List Token) → Resumes whole list left m rest → new ≡ list → k ≡ left → Resumes whole new k m rest
resumes_same {A = A} whole list new left k m rest s e f = subst (λ (l : List A). Resumes whole l k m rest) (sym e) (subst (λ (j : ℕ). Resumes whole list j m rest) (sym f) s)

pub one_pushed : {A : Type 0} (old new : List A) (a : A) → new ≡ old ++ a ∷ [] → old ≡ [] → new ≡ a ∷ []
one_pushed {A = A} old new a e f = e ∙ ap (λ (l : List A). l ++ a ∷ []) f

pub commas_begin : {A : Type 0} (run : Run A) (ts q : List Token) (a : A) (l : ℕ) (list : List A) → run ts ≡ Found a q l → list ≡ a ∷ [] → Resumes (commas_run run ts) list l (as_new behind_it (in_turn (of_kind (sign_code sign_of.Comma)) run)) q
commas_begin {A = A} run ts q a l list e f =
    let m = as_new behind_it (in_turn (of_kind (sign_code sign_of.Comma)) run) in
    let s = turn_second m a l q in
    (s.0, s.1, commas_first run ts q a l e ∙ s.2 ∙ ap (λ (x : List A). onto x l (times s.0 m q)) (sym f))

pub found_left : {A : Type 0} (m : Read A) (a : A) (r : List Token) (j k : ℕ) → m ≡ Found a r j → k ≡ j → m ≡ Found a r k
found_left m a r j k e f = e ∙ ap (λ (i : ℕ). Found a r i) (sym f)
