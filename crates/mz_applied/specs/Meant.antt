-- What an application means, as a term, a type, an adjective or a statement. `place` is the symbol's place and `first` that
-- of the expression's first token.
use Rattle.std.specs.Prelude.{◌-◌, Bool, true, false, not, if◌then◌else◌, List, length, take, Result, Ok, Err}
use Rattle.mz_base.specs.declared.place.Place.{Place}
use Rattle.mz_logic.specs.declared.literal.Literal.{Literal}
use Rattle.mz_logic.specs.declared.literal.Literal.TheVariants.{Atom, Eq}
use Rattle.mz_logic.specs.Term.{Term}
use Rattle.mz_core.specs.Statement.{Statement}
use Rattle.mz_core.specs.TypeStatements.{literal_statement}
use Rattle.mz_core.specs.declared.adjective.Adjective.{Adjective}
use Rattle.mz_core.specs.declared.soft_type.SoftType.{SoftType}
use Rattle.mz_core.specs.declared.notation.Meaning.{Meaning}
use Rattle.mz_core.specs.declared.notation.Meaning.TheVariants.{OfTerm, OfLiteral, OfType}
use Rattle.mz_names.specs.declared.refusal.Refusal.{Refusal}
use Rattle.mz_names.specs.declared.refusal.Refusal.TheVariants as refusal
use Rattle.mz_choice.specs.declared.resolve.Resolution.{Resolution}
use Rattle.mz_choice.specs.declared.resolve.Resolution.TheVariants as resolution
use Rattle.mz_sizes.specs.Sizes.{term_keeps, adjective_keeps, statement_keeps}
use Rattle.mz_applied.specs.Within.{within}

-- what it reads to, or the refusal at the symbol's place
abbrev pub meant : Place → Resolution → Result Meaning Refusal
meant place (resolution.ReadsTo m) = Ok m
meant place resolution.UnknownSymbol = Err (refusal.UnknownSymbol place)
meant place resolution.NoNotation = Err (refusal.NoNotation place)
meant place resolution.UnfitArgument = Err (refusal.UnfitArgument place)

-- as a term; what is none fits nowhere
abbrev pub as_term : Place → Place → Meaning → Result Term Refusal
as_term place first (OfTerm t) = within term_keeps first t
as_term place first (OfLiteral l) = Err (refusal.UnfitArgument place)
as_term place first (OfType ty) = Err (refusal.UnfitArgument place)

-- as a type, whose size counts with the adjectives that are written before it
abbrev pub as_type : Place → Meaning → Result SoftType Refusal
as_type place (OfTerm t) = Err (refusal.UnfitArgument place)
as_type place (OfLiteral l) = Err (refusal.UnfitArgument place)
as_type place (OfType ty) = Ok ty

-- as a statement
abbrev pub as_statement : Place → Place → Meaning → Result Statement Refusal
as_statement place first (OfTerm t) = Err (refusal.UnfitArgument place)
as_statement place first (OfLiteral l) = within statement_keeps first (literal_statement l)
as_statement place first (OfType ty) = Err (refusal.UnfitArgument place)

-- the sign of a literal, behind `non` where that is written
abbrev pub sign_of : Bool → Bool → Bool
sign_of true positive = not positive
sign_of false positive = positive

abbrev pub literal_of : Bool → Literal → Literal
literal_of non (Atom positive s ts) = Atom (sign_of non positive) s ts
literal_of non (Eq positive t u) = Eq (sign_of non positive) t u

-- the terms but for the last one
abbrev pub but_last : {X : Type 0} → List X → List X
but_last ts = take (length ts - 1) ts

-- the adjective alone, which is an attribute's literal without its subject, keeps the limits; an equation is no adjective
abbrev pub keeps_alone : Literal → Bool
keeps_alone (Atom positive s ts) = adjective_keeps (record { positive = positive; sym = s; args = but_last ts })
keeps_alone (Eq positive t u) = true

abbrev pub attributed : Bool → Place → Literal → Result Statement Refusal
attributed non first l = if keeps_alone l then Ok (literal_statement (literal_of non l)) else Err (refusal.TooLarge first)

-- as what an attribute says of its subject, which stands in `is`. `first` is the place of the adjective's first token; what is
-- said is tested with the whole formula
abbrev pub as_attributed : Bool → Place → Place → Meaning → Result Statement Refusal
as_attributed non place first (OfTerm t) = Err (refusal.UnfitArgument place)
as_attributed non place first (OfLiteral l) = attributed non first l
as_attributed non place first (OfType ty) = Err (refusal.UnfitArgument place)

-- as an adjective: the atom without its last argument, which is the subject
abbrev pub adjective_of : Bool → Place → Place → Literal → Result Adjective Refusal
adjective_of non place first (Atom positive s ts) = within adjective_keeps first (record { positive = sign_of non positive; sym = s; args = but_last ts })
adjective_of non place first (Eq positive t u) = Err (refusal.UnfitArgument place)

abbrev pub as_adjective : Bool → Place → Place → Meaning → Result Adjective Refusal
as_adjective non place first (OfTerm t) = Err (refusal.UnfitArgument place)
as_adjective non place first (OfLiteral l) = adjective_of non place first l
as_adjective non place first (OfType ty) = Err (refusal.UnfitArgument place)
