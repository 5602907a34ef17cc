-- Code whose places are labels yet, and how it grows.
use Rattle.std.specs.Prelude.{ℕ, suc, ℤ, Bool, List, [], ◌∷◌, ◌++◌, length, Option}
use Rattle.jc_types.specs.declared.erased.Erased.{Erased}
use Rattle.jc_types.specs.declared.ids.ClassId.{ClassId}
use Rattle.jc_class_out.specs.declared.model.Ins.{Ins}

-- what stands on the operand stack: a value of an erased type; an object that `new` at a label made and whose constructor didn't run yet; and `this` before the other constructor ran that a
-- constructor calls first (JVMS 4.10.1.2)
pub data Entry : Type 0 where
  Of : (type : Erased) → Entry
  Made : (label : ℕ) → Entry
  Unmade : Entry

-- a number of a `switch`, and the label where its statements stand
pub record Choice : Type 0 where
  pub key : ℤ
  pub to : ℕ

-- An instruction, among them jumps to labels and a `new` at a label; or a label, with what stands on the stack there, the top first, and whether `this` is an object whose
-- constructor ran already. The variables of a method are the same at all of its labels
pub data Piece : Type 0 where
  Do : (ins : Ins) → Piece
  Jump : (code : ℕ) (to : ℕ) → Piece
  Select : (otherwise : ℕ) (choices : List Choice) → Piece
  New : (label : ℕ) (class : List ℕ) → Piece
  Mark : (label : ℕ) (stack : List Entry) (is_made : Bool) → Piece

-- exceptions of a class, or all, that come up from one label on and before another go to a third (JVMS 4.7.3)
pub record Row : Type 0 where
  pub from : ℕ
  pub to : ℕ
  pub at : ℕ
  pub class : Option ClassId

-- What leaves a `try` with a finally block: a jump to a label inside so many of these, or a return, whose value waits in a hidden variable
pub data Goal : Type 0 where
  ToLabel : (label : ℕ) (depth : ℕ) → Goal
  ToReturn : (hidden : Option ℕ) → Goal

-- .. and the label where the copy of the finally block for it stands
pub record Exit : Type 0 where
  pub label : ℕ
  pub goal : Goal

-- The code so far: its pieces, the next label, the rows of handlers, inner ones first, the types of the hidden variables, and the jumps that leave the innermost `try` round it
pub record Code : Type 0 where
  pub pieces : List Piece
  pub next : ℕ
  pub rows : List Row
  pub hidden : List Erased
  pub exits : List Exit

abbrev pub empty : Code
empty = record { pieces = []; next = 0; rows = []; hidden = []; exits = [] }

-- what makes it grow
abbrev pub Coder : Type 0
Coder = Code → Code

-- one behind the other
infixl 10 ◌>>◌
abbrev pub ◌>>◌ : Coder → Coder → Coder
◌>>◌ a b c = b (a c)

abbrev pub skip : Coder
skip c = c

abbrev pub piece : Piece → Coder
piece p c = record c { pieces = c.pieces ++ p ∷ [] }

abbrev pub row : Row → Coder
row r c = record c { rows = c.rows ++ r ∷ [] }

abbrev pub leaves_by : Exit → Coder
leaves_by e c = record c { exits = c.exits ++ e ∷ [] }

-- with a new label, or a new hidden variable of a type
abbrev pub label : (ℕ → Coder) → Coder
label f c = f c.next (record c { next = suc c.next })

abbrev pub hide : Erased → (ℕ → Coder) → Coder
hide e f c = f (length c.hidden) (record c { hidden = c.hidden ++ e ∷ [] })
