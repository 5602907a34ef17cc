-- The words among modifiers (JLS 8.1.1, 8.3.1, 8.4.3).
use Rattle.std.specs.Prelude.{Bool, true, false, ◌||◌, List, [], ◌∷◌}
use Rattle.jc_tree.specs.declared.statement.Modifier.{Modifier}
use Rattle.jc_tree.specs.declared.statement.Modifier.TheVariants as modifier_of
use Rattle.jc_tree.specs.declared.statement.ModifierWord.{ModifierWord}
use Rattle.jc_tree.specs.declared.statement.ModifierWord.TheVariants as word_of

-- two words are the same one
abbrev pub same_word : ModifierWord → ModifierWord → Bool
same_word word_of.Public word_of.Public = true
same_word word_of.Protected word_of.Protected = true
same_word word_of.Private word_of.Private = true
same_word word_of.Static word_of.Static = true
same_word word_of.Abstract word_of.Abstract = true
same_word word_of.Final word_of.Final = true
same_word word_of.Native word_of.Native = true
same_word word_of.Volatile word_of.Volatile = true
same_word word_of.Transient word_of.Transient = true
same_word _ _ = false

-- a modifier is this word; an annotation is none
abbrev pub is_word : ModifierWord → Modifier → Bool
is_word w (modifier_of.Annotation a) = false
is_word w (modifier_of.Word at v) = same_word w v

-- the word is among these modifiers
abbrev pub says : ModifierWord → List Modifier → Bool
says w [] = false
says w (m ∷ ms) = is_word w m || says w ms

-- `static` is among these modifiers
abbrev pub says_static : List Modifier → Bool
says_static ms = says word_of.Static ms
