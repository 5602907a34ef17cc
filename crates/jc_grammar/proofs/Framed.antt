-- What spells tokens puts them before those that follow.
use Rattle.std.proofs.Common.{◌≡◌, ℕ, zero, suc, Bool, true, false, List, [], ◌∷◌, ◌++◌, map, refl, ap, sym, ◌∙◌}
use Rattle.std.specs.Prelude.{Option, Some, None}
use Rattle.jc_lexer.specs.declared.token.Key.{Key}
use Rattle.jc_lexer.specs.declared.token.Sign.{Sign}
use Rattle.jc_lexer.specs.declared.token.Sign.TheVariants as sign_of
use Rattle.jc_tree.specs.declared.name.Ident.{Ident}
use Rattle.jc_grammar.specs.Told.{Told, Spelled, sign, key, ident, each, after_commas, commas, actuals, after_dots, names_after, brackets}
use Rattle.jc_grammar.specs.Types.{angled}
use Rattle.jc_grammar.specs.Expressions.{in_brackets, if_there}
use Rattle.jc_grammar.specs.Parts.{if_some, keyed_list}

pub record Frames (f : Spelled) : Type 0 where
  pub at : (r s : List Told) → f (r ++ s) ≡ f r ++ s

pub nothing : Frames (λ r. r)
nothing = record { at = λ r s. refl }

pub token : (d : Told) → Frames (λ r. d ∷ r)
token d = record { at = λ r s. refl }

pub seq : {f g : Spelled} → Frames f → Frames g → Frames (λ r. f (g r))
seq {f} {g} first then_it = record { at = λ r s. ap f (then_it.at r s) ∙ first.at (g r) s }

-- each of them does so
pub data AllFrame : List Spelled → Type 0 where
  ended : AllFrame []
  joined : {f : Spelled} {l : List Spelled} → Frames f → AllFrame l → AllFrame (f ∷ l)

pub all_frame : {X : Type 0} (spell : X → Spelled) → ((x : X) → Frames (spell x)) → (xs : List X) → AllFrame (map spell xs)
all_frame spell h [] = ended
all_frame spell h (x ∷ xs) = joined (h x) (all_frame spell h xs)

pub all_given : {X : Type 0} (spell : X → Spelled) (zs : List ((x : X) × Frames (spell x))) → AllFrame (map spell (map (λ z. z.0) zs))
all_given spell [] = ended
all_given spell (z ∷ zs) = joined z.1 (all_given spell zs)

pub each_frames : {l : List Spelled} → AllFrame l → Frames (each l)
each_frames ended = nothing
each_frames (joined f all) = seq f (each_frames all)

pub after_commas_frames : {l : List Spelled} → AllFrame l → Frames (after_commas l)
after_commas_frames ended = nothing
after_commas_frames (joined f all) = seq (token (sign sign_of.Comma)) (seq f (after_commas_frames all))

pub commas_frames : {l : List Spelled} → AllFrame l → Frames (commas l)
commas_frames ended = nothing
commas_frames (joined f all) = seq f (after_commas_frames all)

pub actuals_frames : {l : List Spelled} → AllFrame l → Frames (actuals l)
actuals_frames all = seq (token (sign sign_of.LeftParen)) (seq (commas_frames all) (token (sign sign_of.RightParen)))

pub after_dots_frames : {l : List Spelled} → AllFrame l → Frames (after_dots l)
after_dots_frames ended = nothing
after_dots_frames (joined f all) = seq (token (sign sign_of.Dot)) (seq f (after_dots_frames all))

pub angled_frames : {l : List Spelled} → AllFrame l → Frames (angled l)
angled_frames ended = nothing
angled_frames (joined f all) = seq (token (sign sign_of.Less)) (seq (commas_frames (joined f all)) (token (sign sign_of.Greater)))

pub keyed_list_frames : {l : List Spelled} (k : Key) → AllFrame l → Frames (keyed_list k l)
keyed_list_frames k ended = nothing
keyed_list_frames k (joined f all) = seq (token (key k)) (commas_frames (joined f all))

pub names_frame : (names : List Ident) → Frames (names_after names)
names_frame [] = nothing
names_frame (i ∷ names) = seq (token (sign sign_of.Dot)) (seq (token (ident i)) (names_frame names))

pub brackets_frame : (n : ℕ) → Frames (brackets n)
brackets_frame zero = nothing
brackets_frame (suc n) = seq (token (sign sign_of.LeftBracket)) (seq (token (sign sign_of.RightBracket)) (brackets_frame n))

pub in_brackets_frame : {f : Spelled} → Frames f → Frames (in_brackets f)
in_brackets_frame f = seq (token (sign sign_of.LeftBracket)) (seq f (token (sign sign_of.RightBracket)))

pub all_in_brackets : {l : List Spelled} → AllFrame l → AllFrame (map in_brackets l)
all_in_brackets ended = ended
all_in_brackets (joined f all) = joined (in_brackets_frame f) (all_in_brackets all)

pub if_there_frames : (b : Bool) (s : Sign) → Frames (if_there b s)
if_there_frames true s = token (sign s)
if_there_frames false s = nothing

pub if_some_frames : {X : Type 0} (spell : X → Spelled) → ((x : X) → Frames (spell x)) → (o : Option X) → Frames (if_some spell o)
if_some_frames spell h None = nothing
if_some_frames spell h (Some x) = h x

-- spelling that equals such a spelling, by its tokens
pub frames_along : {f g : Spelled} → f ≡ g → Frames g → Frames f
frames_along e h = subst_frames _ _ e h
  where
    subst_frames : (f g : Spelled) → f ≡ g → Frames g → Frames f
    subst_frames f g e h = record { at = λ r s. ap (λ (k : Spelled). k (r ++ s)) e ∙ h.at r s ∙ ap (λ (k : Spelled). k r ++ s) (sym e) }
