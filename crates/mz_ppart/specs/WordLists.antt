-- Lists of reserved words, and which of them a token is.
use Rattle.std.specs.Prelude.{◌≡◌, ℕ, Bool, true, false, List, [], ◌∷◌, Option, Some, None, if◌then◌else◌, refl}
use Rattle.mz_base.specs.declared.place.Place.{Place}
use Rattle.mz_base.specs.declared.token.MarkedToken.{MarkedToken}
use Rattle.mz_tree_part.specs.declared.words.DirectiveWord.{DirectiveWord}
use Rattle.mz_tree_part.specs.declared.words.DirectiveWord.TheVariants as directive_words
use Rattle.mz_tree_part.specs.declared.words.NotationWord.{NotationWord}
use Rattle.mz_tree_part.specs.declared.words.NotationWord.TheVariants as notation_words
use Rattle.mz_forms.specs.Form.{Form}
use Rattle.mz_ppattern.specs.Words.{is_word, word_token}

-- the first word of the list, spelled so, that the token is
abbrev pub first_of : {W : Type 0} → (W → List ℕ) → List W → MarkedToken → Option W
first_of f [] t = None
first_of f (w ∷ ws) t = (if is_word (f w) t then Some w else first_of f ws t)

-- A word with its place, of those that are such.
abbrev pub chosen_token : {W : Type 0} → (W → List ℕ) → (W × Place) → MarkedToken
chosen_token f p = word_token (f p.0) p.1

abbrev pub chosen_form : {W : Type 0} → (W → List ℕ) → (W → Bool) → Form MarkedToken
chosen_form {W = W} f such = record { Tree = W × Place; spell = λ p. chosen_token f p ∷ []; levels = λ _. 0 ∷ []; each = λ _. refl; IsTree = λ p. such p.0 ≡ true; goes = λ _ _. false }

-- the words of directives, of the language so far
abbrev pub directives : List DirectiveWord
directives = directive_words.Vocabularies ∷ directive_words.Notations ∷ directive_words.Constructors ∷ directive_words.Registrations ∷ directive_words.Definitions ∷ directive_words.Theorems ∷ directive_words.Schemes ∷ directive_words.Requirements ∷ []

abbrev pub notations : List NotationWord
notations = notation_words.Synonym ∷ notation_words.Antonym ∷ []
