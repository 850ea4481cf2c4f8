-- The forms of adjectives, types and declarations, and what a reading of one promises.
use Rattle.std.specs.Prelude.{◌≡◌, ℕ, suc, Bool, true, false, List, [], ◌∷◌, ◌++◌, map, length, refl, codes, Result, Option, Some, None, Vec, Box, Ok, Err}
use Rattle.std.specs.declared.alloc.Global.{Global}
use Rattle.std.proofs.Common.{ap}
use Rattle.mz_base.specs.declared.place.Place.{Place}
use Rattle.mz_base.specs.declared.token.MarkedToken.{MarkedToken}
use Rattle.mz_forms.specs.declared.refusal.Refusal.{Refusal}
use Rattle.mz_forms.specs.declared.refusal.Refusal.TheVariants.{Memory}
use Rattle.mz_forms.specs.Form.{Form, Agrees, each_append, then, nested, one_of}
use Rattle.mz_forms.specs.Reading.{Gives, Builds}
use Rattle.mz_forms.specs.Repeat.{many, maybe}
use Rattle.mz_forms.specs.Chain.{Links, chain}
use Rattle.mz_tree.specs.declared.word.Word.{Word}
use Rattle.mz_tree.specs.declared.word.Comma.{Comma}
use Rattle.mz_tree.specs.declared.word.Being.{Being}
use Rattle.mz_tree.specs.declared.chain.Chain.{Chain}
use Rattle.mz_tree.specs.declared.nodes.AdjectiveNode.{AdjectiveNode}
use Rattle.mz_tree.specs.declared.nodes.TypeNode.{TypeNode}
use Rattle.mz_tree.specs.declared.nodes.DeclaredNode.{DeclaredNode}
use Rattle.mz_tree.specs.declared.nodes.TermNode.{TermNode}
use Rattle.mz_tree.specs.Spelled.{special, identifier, comma_token, being_token}
use Rattle.mz_tree.specs.Trees.{TermsData, AdjectiveData, AdjectivesData, TypeData, DeclaredData, DeclarationsData, AdjectiveList, NextDeclaredList, PlainAdjective, WithIdentifierAdjective, WithTermsAdjective, ModeType, ModeOfType, StructureType, StructureOverType, PlainDeclared, TypedDeclared, NextNextDeclared, no_next_declareds, more_next_declareds, adjectives_of}
use Rattle.mz_tree.specs.Spell.{spell_terms, spell_adjective, spell_adjectives, spell_type, spell_declared, spell_declarations}
use Rattle.mz_tree.specs.Levels.{levels_terms, levels_adjective, levels_adjectives, levels_type, levels_declared, levels_declarations, each_terms, each_adjective, each_adjectives, each_type, each_declared, each_declarations, nested_each}
use Rattle.mz_tree.specs.Rules.{AreTerms, IsAdjective, AreSomeAdjectives, IsType, IsDeclared, AreDeclarations, DividesAfter, ends_in_terms}
use Rattle.mz_tree.specs.Views.{adjective_of, adjectives_seen, type_of, declared_of, declarations_of, terms_of}
use Rattle.mz_pterm.specs.declared.sign.Sign.{Sign}
use Rattle.mz_pterm.specs.declared.sign.Sign.TheVariants as signs
use Rattle.mz_pterm.specs.declared.terms.Bracketed.{Bracketed}
use Rattle.mz_pterm.specs.Classes.{goes_on_terms, is_list_comma}
use Rattle.mz_pterm.specs.Sign.{sign_of}
use Rattle.mz_pterm.specs.Words.{named, word, name}
use Rattle.mz_pterm.specs.Forms.{terms_form}
use Rattle.mz_ptype.specs.declared.adjectives.Argument as rust_argument
use Rattle.mz_ptype.specs.declared.adjectives.Argument.TheVariants as arguments
use Rattle.mz_ptype.specs.Classes.{is_non, begins_argument, begins_adjective, is_preposition, is_being}

-- `non` or nothing
abbrev pub non_form : Form MarkedToken
non_form = maybe (word signs.Non) (λ t. is_non (sign_of t))

-- the argument of an adjective: an identifier, or terms in parentheses
pub data Argument : Type 0 where
  identifier_argument : Word → Argument
  terms_argument : Place → TermsData → Place → Argument

abbrev pub spell_argument : Argument → List MarkedToken
spell_argument (identifier_argument w) = identifier w ∷ []
spell_argument (terms_argument p ts q) = special p (codes "(") ∷ (spell_terms ts ++ special q (codes ")") ∷ [])

abbrev pub levels_argument : Argument → List ℕ
levels_argument (identifier_argument w) = 0 ∷ []
levels_argument (terms_argument p ts q) = 1 ∷ (map suc (levels_terms ts) ++ 0 ∷ [])

pub each_argument : (a : Argument) → length (levels_argument a) ≡ length (spell_argument a)
each_argument (identifier_argument w) = refl
each_argument (terms_argument p ts q) = ap suc (each_append (map suc (levels_terms ts)) (0 ∷ []) (spell_terms ts) (special q (codes ")") ∷ []) (nested_each (levels_terms ts) (spell_terms ts) (each_terms ts)) refl)

abbrev pub IsArgument : Bool → Argument → Type 0
IsArgument field (identifier_argument w) = Unit {0}
IsArgument field (terms_argument p ts q) = AreTerms field ts

abbrev pub argument_form : Bool → Form MarkedToken
argument_form field = record { Tree = Argument; spell = spell_argument; levels = levels_argument; each = each_argument; IsTree = IsArgument field; goes = λ _ _. false }

abbrev pub maybe_argument : Bool → Form MarkedToken
maybe_argument field = maybe (argument_form field) (λ t. begins_argument (sign_of t))

-- an adjective behind its `non`
abbrev pub argued : Bool → Form MarkedToken
argued field = then (maybe_argument field) (λ _. name signs.Attribute)

abbrev pub parts_of_adjective : Bool → Form MarkedToken
parts_of_adjective field = then non_form (λ _. argued field)

abbrev pub adjective_from : Option Place → Option Argument → Word → AdjectiveData
adjective_from non None w = PlainAdjective non w
adjective_from non (Some (identifier_argument v)) w = WithIdentifierAdjective non v w
adjective_from non (Some (terms_argument p ts q)) w = WithTermsAdjective non p ts q w

abbrev pub adjective_of_parts : (Option Place × (Option Argument × Word)) → AdjectiveData
adjective_of_parts k = adjective_from k.0 k.1.0 k.1.1

abbrev pub adjective_form : Bool → Form MarkedToken
adjective_form field = record { Tree = AdjectiveData; spell = spell_adjective; levels = levels_adjective; each = each_adjective; IsTree = IsAdjective field; goes = λ _ _. false }

abbrev pub adjective_list_form : Bool → Form MarkedToken
adjective_list_form field = many (adjective_form field) (λ t. begins_adjective (sign_of t))

abbrev pub adjectives_in : Vec AdjectiveNode Global → List AdjectiveData
adjectives_in v = map adjective_of v.items

-- adjectives, at least one
abbrev pub adjectives_form : Bool → Form MarkedToken
adjectives_form field = record { Tree = AdjectivesData; spell = spell_adjectives; levels = levels_adjectives; each = each_adjectives; IsTree = AreSomeAdjectives field; goes = λ _ t. begins_adjective (sign_of t) }

abbrev pub adjectives_pair : AdjectiveNode × Vec AdjectiveNode Global → AdjectivesData
adjectives_pair p = adjectives_seen p.0 p.1

abbrev pub list_of_adjectives : (AdjectiveData × List AdjectiveData) → AdjectivesData
list_of_adjectives k = record { first = k.0; more = adjectives_of k.1 }

-- A symbol of a mode, or with true of a structure, and its arguments behind `of` or `over`.
abbrev pub radix_sign : Bool → Sign
radix_sign false = signs.Mode
radix_sign true = signs.Structure

abbrev pub preposition : Bool → Sign
preposition false = signs.Of
preposition true = signs.Over

abbrev pub behind_preposition : Bool → Bool → Form MarkedToken
behind_preposition field structured = then (word (preposition structured)) (λ _. terms_form field)

abbrev pub maybe_arguments : Bool → Bool → Form MarkedToken
maybe_arguments field structured = maybe (behind_preposition field structured) (λ t. is_preposition structured (sign_of t))

abbrev pub radix_symbol : Form MarkedToken
radix_symbol = one_of (Bool × Word) (λ r. named (radix_sign r.0) r.1)

abbrev pub radix_form : Bool → Form MarkedToken
radix_form field = then radix_symbol (λ r. maybe_arguments field r.0)

abbrev pub parts_of_type : Bool → Form MarkedToken
parts_of_type field = then (adjective_list_form field) (λ _. radix_form field)

abbrev pub type_from : AdjectiveList → Bool → Word → Option (Place × TermsData) → TypeData
type_from ads false w None = ModeType ads w
type_from ads false w (Some a) = ModeOfType ads w a.0 a.1
type_from ads true w None = StructureType ads w
type_from ads true w (Some a) = StructureOverType ads w a.0 a.1

abbrev pub type_of_parts : List AdjectiveData → ((Bool × Word) × Option (Place × TermsData)) → TypeData
type_of_parts ads k = type_from (adjectives_of ads) k.0.0 k.0.1 k.1

abbrev pub goes_type : TypeData → Sign → Bool
goes_type (ModeType a b) s = is_preposition false s
goes_type (ModeOfType a b c d) s = goes_on_terms s
goes_type (StructureType a b) s = is_preposition true s
goes_type (StructureOverType a b c d) s = goes_on_terms s

abbrev pub whole_type : Bool → Form MarkedToken
whole_type field = record { Tree = TypeData; spell = spell_type; levels = levels_type; each = each_type; IsTree = IsType field; goes = λ x t. goes_type x (sign_of t) }

abbrev pub type_in : Box TypeNode Global → TypeData
type_in b = type_of b.value

-- A declared identifier.
abbrev pub being : Form MarkedToken
being = one_of Being being_token

abbrev pub behind_being : Bool → Form MarkedToken
behind_being field = then being (λ _. whole_type field)

abbrev pub maybe_type : Bool → Form MarkedToken
maybe_type field = maybe (behind_being field) (λ t. is_being (sign_of t))

abbrev pub parts_of_declared : Bool → Form MarkedToken
parts_of_declared field = then (name signs.Identifier) (λ _. maybe_type field)

abbrev pub declared_from : Word → Option (Being × TypeData) → DeclaredData
declared_from w None = PlainDeclared w
declared_from w (Some a) = TypedDeclared w a.0 a.1

abbrev pub declared_of_parts : (Word × Option (Being × TypeData)) → DeclaredData
declared_of_parts k = declared_from k.0 k.1

abbrev pub goes_declared : DeclaredData → Sign → Bool
goes_declared (PlainDeclared w) s = is_being s
goes_declared (TypedDeclared w b t) s = goes_type t s

abbrev pub declared_form : Bool → Form MarkedToken
declared_form field = record { Tree = DeclaredData; spell = spell_declared; levels = levels_declared; each = each_declared; IsTree = IsDeclared field; goes = λ x t. goes_declared x (sign_of t) }

-- a list of terms stands last, which a list comma goes on
abbrev pub declared_ends_in_terms : DeclaredData → Bool
declared_ends_in_terms (PlainDeclared w) = false
declared_ends_in_terms (TypedDeclared w b t) = ends_in_terms t

abbrev pub is_comma : Sign → Bool
is_comma signs.ListComma = true
is_comma signs.DividingComma = true
is_comma _ = false

abbrev pub goes_on_declared : Sign → Bool
goes_on_declared signs.ListComma = true
goes_on_declared signs.DividingComma = true
goes_on_declared signs.Be = true
goes_on_declared signs.Being = true
goes_on_declared signs.Over = true
goes_on_declared s = goes_on_terms s

-- Commas between declarations: a list comma doesn't stand behind a list of terms.
abbrev pub declared_links : Bool → Links MarkedToken
declared_links field = record { Member = declared_form field; Sign = Comma; sign = comma_token; State = Bool; May = DividesAfter; next = declared_ends_in_terms; deepens = false; goes = λ t. goes_on_declared (sign_of t) }

abbrev pub more_declared : Bool → Bool → Form MarkedToken
more_declared field ends = chain (declared_links field) ends

abbrev pub next_declareds : List (Comma × DeclaredData) → NextDeclaredList
next_declareds [] = no_next_declareds
next_declareds (p ∷ ps) = more_next_declareds (NextNextDeclared p.0 p.1) (next_declareds ps)

abbrev pub declarations_form : Bool → Form MarkedToken
declarations_form field = record { Tree = DeclarationsData; spell = spell_declarations; levels = levels_declarations; each = each_declarations; IsTree = AreDeclarations field; goes = λ _ t. goes_on_declared (sign_of t) }

abbrev pub declarations_with : DeclaredData → List (Comma × DeclaredData) → DeclarationsData
declarations_with d ps = record { first = d; more = next_declareds ps }

-- What is read.
abbrev pub argument_seen : rust_argument.Argument → Option Argument
argument_seen arguments.None = None
argument_seen (arguments.Identifier w) = Some (identifier_argument w)
argument_seen (arguments.Terms b) = Some (terms_argument b.open (terms_of b.terms) b.close)

abbrev pub arguments_seen : Option (Place × Chain Place TermNode) → Option (Place × TermsData)
arguments_seen None = None
arguments_seen (Some p) = Some (p.0, terms_of p.1)

abbrev pub same_symbol : (Bool × Word) → Bool × Word
same_symbol r = r

abbrev pub type_seen : Option (Being × Box TypeNode Global) → Option (Being × TypeData)
type_seen None = None
type_seen (Some p) = Some (p.0, type_in p.1)

-- what is handed in stands in the box
abbrev pub BoxesType : TypeNode → Result (Box TypeNode Global) Refusal → Type 0
BoxesType x (Ok b) = b.value ≡ x
BoxesType x (Err e) = e ≡ Memory

-- a type of these adjectives
abbrev pub ReadsRadix : Bool → ℕ → List AdjectiveData → List MarkedToken → Result (Box TypeNode Global) Refusal → List MarkedToken → Type 0
ReadsRadix field room ads before result after = Gives (radix_form field) room (λ b. Builds (radix_form field) room (type_of_parts ads) (type_in b) before after) before result after

-- `be` or `being` was taken, or none comes next
abbrev pub TakesBeing : List MarkedToken → Option Being → List MarkedToken → Type 0
TakesBeing before (Some b) after = before ≡ being_token b ∷ after
TakesBeing before None after = (before ≡ after) × ((b : Being) → Agrees before (being_token b ∷ []) → ⊥)

-- a comma that may stand behind such a list was taken, or none comes next
abbrev pub TakesComma : Bool → List MarkedToken → Option Comma → List MarkedToken → Type 0
TakesComma ends before (Some c) after = (before ≡ comma_token c ∷ after) × DividesAfter ends c
TakesComma ends before None after = (before ≡ after) × ((c : Comma) → DividesAfter ends c → Agrees before (comma_token c ∷ []) → ⊥)

-- the declarations that go on with this one
abbrev pub ReadsRestOfDeclarations : Bool → ℕ → DeclaredData → List MarkedToken → Result (Chain Comma DeclaredNode) Refusal → List MarkedToken → Type 0
ReadsRestOfDeclarations field room d before result after = Gives (more_declared field (declared_ends_in_terms d)) room (λ c. Builds (more_declared field (declared_ends_in_terms d)) room (declarations_with d) (declarations_of c) before after) before result after
