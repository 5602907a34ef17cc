-- Forms together with their laws, and those that are made of others.
use Rattle.std.proofs.Common.{◌≡◌, ℕ, suc, Bool, true, false, List, Option, refl, sym, ◌∙◌, ⊎_elim, inl, inr}
use Rattle.std.proofs.lemmas.Bool.{false≢true, false_from_ne_true}
use Rattle.jc_lexer.specs.declared.token.Key.{Key}
use Rattle.jc_lexer.specs.declared.token.Sign.{Sign}
use Rattle.jc_tree.specs.declared.name.Ident.{Ident}
use Rattle.jc_grammar.specs.Told.{Told}
use Rattle.jc_reading.proofs.Forms.{Lawful}
use Rattle.jc_reading.proofs.Signs.{sign_laws, sign_at_laws, key_laws, key_at_laws, ident_laws, none_common}
use Rattle.jc_reading.specs.Further.{with_room}
use Rattle.jc_reading.proofs.Coded.{Coded, formed, in_order, in_order_laws, optional, optional_laws, repeated, repeated_laws, Makes}
use Rattle.jc_reading.proofs.Lowest.{Law, rerun_laws, roomy}
use Rattle.jc_part_laws.proofs.PartForms.{sign_form, sign_at_form, key_form, key_at_form, ident_form}

pub record Has (A : Type 0) : Type 0 where
  pub form : Coded A
  pub laws : Lawful A (formed form)

abbrev pub has : {A : Type 0} → (c : Coded A) → Lawful A (formed c) → Has A
has c la = record { form = c; laws = la }

abbrev pub a_sign : Sign → Has (Unit {0})
a_sign s = record { form = sign_form s; laws = sign_laws s }

abbrev pub a_sign_at : Sign → Has ℕ
a_sign_at s = record { form = sign_at_form s; laws = sign_at_laws s }

abbrev pub a_key : Key → Has (Unit {0})
a_key k = record { form = key_form k; laws = key_laws k }

abbrev pub a_key_at : Key → Has ℕ
a_key_at k = record { form = key_at_form k; laws = key_at_laws k }

abbrev pub an_ident : Has Ident
an_ident = record { form = ident_form; laws = ident_laws }

abbrev pub then_a : {A B : Type 0} → (p : Has A) (q : Has B) → none_common q.form.starts p.form.goes ≡ true → Has (A × B)
then_a p q e = record { form = in_order p.form q.form; laws = in_order_laws _ _ p.form q.form p.laws q.laws e }

abbrev pub maybe_a : {A : Type 0} → (p : Has A) → p.form.empties ≡ false → Has (Option A)
maybe_a p e = record { form = optional p.form; laws = optional_laws _ p.form p.laws e }

abbrev pub any_of : {A : Type 0} → (p : Has A) → p.form.empties ≡ false → none_common p.form.starts p.form.goes ≡ true → Has (List A)
any_of p e n = record { form = repeated p.form; laws = repeated_laws _ p.form p.laws e n }

pub roomy_zero : {A : Type 0} (c : Coded A) → ((a : A) → c.fits a ≡ false) → Law A (roomy 0 c)
unfolding with_room
roomy_zero c n = inr (record { stops = λ ts. refl; never = n })

pub roomy_suc : {A : Type 0} (k : ℕ) (c : Coded A) → Lawful A (formed c) → Law A (roomy (suc k) c)
unfolding with_room
roomy_suc {A = A} k c la = inl (rerun_laws A c (with_room (suc k) c.run) (λ ts. refl) la)

-- a form that has a value has its laws
pub lawful_by : {A : Type 0} (c : Coded A) (a : A) → c.fits a ≡ true → Law A c → Lawful A (formed c)
lawful_by {A = A} c a e l = ⊎_elim (λ (la : Lawful A (formed c)). la) (λ v. absurd (false≢true (sym (v.never a) ∙ e))) l

-- no value is made where there is none to make it of
pub none_made : (A B : Type 0) (ca : Coded A) (make : A → B) (tell : B → List Told → List Told) (fits : B → Bool) → Makes A B ca make tell fits → ((a : A) → ca.fits a ≡ false) → (b : B) → fits b ≡ false
none_made A B ca make tell fits h n b = false_from_ne_true (fits b) (λ t. let w = h.back b t in false≢true (sym (n w.0) ∙ w.2))
