-- Parts that may be left out and lists of parts, spelled as trees spell them.
use Rattle.std.specs.Prelude.{◌≡◌, ℕ, Bool, false, List, [], ◌∷◌, length, Option, Some, None, refl}
use Rattle.std.specs.List.{flat_map}
use Rattle.mz_base.specs.declared.token.MarkedToken.{MarkedToken}
use Rattle.mz_forms.specs.Form.{Form}
use Rattle.mz_forms.specs.Repeat.{goes_maybe}
use Rattle.mz_tree.specs.Spelled as spelled
use Rattle.mz_tree.specs.Levels.{each_flat}
use Rattle.mz_tree.specs.Rules.{Every, IfAny}

pub each_optional : (X : Form MarkedToken) (o : Option X.Tree) → length (spelled.maybe X.levels o) ≡ length (spelled.maybe X.spell o)
each_optional X None = refl
each_optional X (Some x) = X.each x

-- X or nothing; begins has what begins X
abbrev pub optional : Form MarkedToken → (MarkedToken → Bool) → Form MarkedToken
optional X begins = record { Tree = Option X.Tree; spell = spelled.maybe X.spell; levels = spelled.maybe X.levels; each = each_optional X; IsTree = IfAny X.IsTree; goes = goes_maybe X begins }

-- any number of X; goes has what goes on one of them, and what begins one
abbrev pub listed : Form MarkedToken → (MarkedToken → Bool) → Form MarkedToken
listed X goes = record { Tree = List X.Tree; spell = flat_map X.spell; levels = flat_map X.levels; each = each_flat X.levels X.spell X.each; IsTree = Every X.IsTree; goes = λ _ t. goes t }

-- the next token, where there is one, is of the set
abbrev pub next_has : (MarkedToken → Bool) → List MarkedToken → Bool
next_has c [] = false
next_has c (t ∷ ts) = c t

-- what is read is the tree itself
abbrev pub plainly : {X : Type 0} → X → X
plainly x = x
