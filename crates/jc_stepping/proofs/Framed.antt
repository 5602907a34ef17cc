-- Whether a method has a frame.
use Rattle.std.proofs.Common.{◌≡◌, ◌≤◌, ◌+◌, ◌∙◌, [], ◌∷◌, ◌++◌, ◌&&◌, ◌-◌, ℕ, Bool, true, false, List, ap, arith, length, nat_le, option_and_then, refl, replicate, sym, if◌then◌else◌}
use Rattle.std.proofs.lemmas.Bool.{le-leb, leb-false, leb-true, lt-leb}
use Rattle.std.specs.Prelude.{is_some}
use Rattle.std.specs.Option.{option_map}
use Rattle.std.specs.declared.option.Option.{Option}
use Rattle.std.specs.declared.option.Option.TheVariants.{Some, None}
use Rattle.jc_class_out.specs.declared.model.ClassModel.{ClassModel}
use Rattle.jc_class_out.specs.declared.model.CodeModel.{CodeModel}
use Rattle.jc_jvm.specs.Calls.{entered, stuck}
use Rattle.jc_jvm.specs.Classes.{code_at}
use Rattle.jc_jvm.specs.Frames.{frame_by, frame_of, laid_out, locals_of}
use Rattle.jc_jvm.specs.Stacked.{units_of}
use Rattle.jc_jvm.specs.declared.frame.Frame.{Frame}
use Rattle.jc_jvm.specs.declared.frame.Waiting.{Waiting}
use Rattle.jc_jvm.specs.declared.value.Value.{Value}
use Rattle.jc_jvm.specs.declared.value.Value.TheVariants.{Whole, Long, Address, NullValue}
use Rattle.jc_jvm.specs.declared.world.World.{World}
use Rattle.jc_stepping.specs.Room.{fit_in}

-- ---- room for arguments

long_by : (v : Value) (vs : List Value) → length (laid_out (v ∷ vs)) ≡ units_of v + length (laid_out vs)
long_by (Whole n) vs = omega arith
long_by (Long n) vs = omega arith
long_by (Address at) vs = omega arith
long_by NullValue vs = omega arith

less_by : (a b c : ℕ) (t : Bool) → c ≤ b → nat_le a (b - c) ≡ t → t ≡ nat_le (c + a) b
less_by a b c true h e = sym (le-leb (c + a) b (omega (arith, leb-true a (b - c) e)))
less_by a b c false h e = sym (lt-leb (c + a) b (omega (arith, leb-false a (b - c) e)))

more_by : (a b c : ℕ) (t : Bool) → nat_le c b ≡ t → (t && nat_le a (b - c)) ≡ nat_le (c + a) b
more_by a b c true e = less_by a b c (nat_le a (b - c)) (leb-true c b e) refl
more_by a b c false e = sym (lt-leb (c + a) b (omega (arith, leb-false c b e)))

fits_in : (count : ℕ) (vs : List Value) → fit_in count vs ≡ nat_le (length (laid_out vs)) count
fits_in count [] = sym (le-leb 0 count (omega arith))
fits_in count (v ∷ vs) =
    ap (λ (b : Bool). nat_le (units_of v) count && b) (fits_in (count - units_of v) vs)
    ∙ more_by (length (laid_out vs)) count (units_of v) (nat_le (units_of v) count) refl
    ∙ ap (λ (n : ℕ). nat_le n count) (sym (long_by v vs))

-- ---- frames

frame_is : (classes : List ClassModel) (c m : ℕ) (arguments : List Value) (o : Option CodeModel) → code_at classes c m ≡ o →
    frame_of classes (c, m) arguments ≡ option_and_then (λ (code : CodeModel). option_map (frame_by c m code) (locals_of code.locals arguments)) o
frame_is classes c m arguments o e = ap (λ (o : Option CodeModel). option_and_then (λ (code : CodeModel). option_map (frame_by c m code) (locals_of code.locals arguments)) o) e

fits_by : (c m : ℕ) (code : CodeModel) (laid : List (Option Value)) (b : Bool) →
    is_some (option_map (frame_by c m code) (if b then Some (laid ++ replicate (code.locals - length laid) None) else None)) ≡ b
fits_by c m code laid true = refl
fits_by c m code laid false = refl

fits_is : (classes : List ClassModel) (c m : ℕ) (arguments : List Value) (code : CodeModel) → code_at classes c m ≡ Some code →
    is_some (frame_of classes (c, m) arguments) ≡ nat_le (length (laid_out arguments)) code.locals
fits_is classes c m arguments code is =
    ap (λ (o : Option Frame). is_some o) (frame_is classes c m arguments (Some code) is) ∙ fits_by c m code (laid_out arguments) (nat_le (length (laid_out arguments)) code.locals)

-- with code it has one where its arguments fit
pub frame_fits : (classes : List ClassModel) (c m : ℕ) (arguments : List Value) (code : CodeModel) → code_at classes c m ≡ Some code →
    fit_in code.locals arguments ≡ is_some (frame_of classes (c, m) arguments)
frame_fits classes c m arguments code is = fits_in code.locals arguments ∙ sym (fits_is classes c m arguments code is)

-- and without it none
pub frame_nowhere : (classes : List ClassModel) (c m : ℕ) (arguments : List Value) → code_at classes c m ≡ None → false ≡ is_some (frame_of classes (c, m) arguments)
frame_nowhere classes c m arguments none = sym (ap (λ (o : Option Frame). is_some o) (frame_is classes c m arguments None none))

pub ruleset frame_rules = (frame_fits, frame_nowhere)

none_by : (world : World) (now : Frame) (waiting : List Waiting) (rest : List Value) (o : Option Frame) → is_some o ≡ false → entered world now waiting rest o ≡ stuck
none_by world now waiting rest (Some frame) e = cc
none_by world now waiting rest None e = refl

-- it isn't entered then
pub enters_not : (classes : List ClassModel) (target : ℕ × ℕ) (arguments : List Value) (world : World) (now : Frame) (waiting : List Waiting) (rest : List Value) →
    is_some (frame_of classes target arguments) ≡ false → entered world now waiting rest (frame_of classes target arguments) ≡ stuck
enters_not classes target arguments world now waiting rest e = none_by world now waiting rest (frame_of classes target arguments) e
