-- What was read of the parts of a run.
use Rattle.std.specs.Prelude.{Bool, true, false, List, [], ◌∷◌, Option, Some, None, Result, Ok, Err}
use Rattle.mz_base.specs.declared.place.Place.{Place}
use Rattle.mz_logic.specs.Term.{Term}
use Rattle.mz_logic.specs.declared.kind.Kind.TheVariants.{Functor}
use Rattle.mz_names.specs.declared.refusal.Refusal.{Refusal}
use Rattle.mz_names.specs.declared.refusal.Refusal.TheVariants.{NoNotation}
use Rattle.mz_choice.specs.declared.choice.Applied.{Applied}
use Rattle.mz_tree.specs.declared.word.Word.{Word}
use Rattle.mz_applied.specs.Application.{application}
use Rattle.mz_terms.specs.declared.values.RunValue.{RunValue}

-- the value read last, where one is wanted, and what is left then
abbrev pub top_if : Bool → List RunValue → Option RunValue
top_if false vs = None
top_if true [] = None
top_if true (v ∷ vs) = Some v

abbrev pub rest_if : Bool → List RunValue → List RunValue
rest_if false vs = vs
rest_if true [] = []
rest_if true (v ∷ vs) = vs

-- its terms, and the place of its first token
abbrev pub terms_in : Option RunValue → List Term
terms_in None = []
terms_in (Some v) = v.terms

abbrev pub first_in : Place → Option RunValue → Place
first_in place None = place
first_in place (Some v) = v.first

-- the functor symbol, applied to what was read on its sides
abbrev pub applied_to : Word → Option RunValue → Option RunValue → Applied
applied_to w left right = application Functor w.spelling (terms_in left) (terms_in right)

-- what was read, as terms with the place of their first token, put to the values; or the refusal
abbrev pub put_terms : Place → List RunValue → Result (List Term) Refusal → Result (List RunValue) Refusal
put_terms first vs (Err r) = Err r
put_terms first vs (Ok ts) = Ok (record { first = first; terms = ts } ∷ vs)

abbrev pub put_term : Place → List RunValue → Result Term Refusal → Result (List RunValue) Refusal
put_term first vs (Err r) = Err r
put_term first vs (Ok t) = Ok (record { first = first; terms = t ∷ [] } ∷ vs)

-- the one term that was read; several in parentheses are none
abbrev pub one_of : Place → List Term → Result Term Refusal
one_of first [] = Err (NoNotation first)
one_of first (t ∷ []) = Ok t
one_of first (t ∷ u ∷ ts) = Err (NoNotation first)

abbrev pub as_list : Result Term Refusal → Result (List Term) Refusal
as_list (Err r) = Err r
as_list (Ok t) = Ok (t ∷ [])
