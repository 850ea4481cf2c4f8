-- What terms that steps name are read to, and what the article has left behind them, is determined.
use Rattle.std.proofs.Common.{◌≡◌, ℕ, List, [], ◌∷◌, ◌++◌, map, refl, ap}
use Rattle.std.specs.Prelude.{Result, Ok, Err}
use Rattle.mz_logic.specs.Term.{Term}
use Rattle.mz_core.specs.declared.outcome.Left.{Left}
use Rattle.mz_core.specs.declared.radix.Radix.{Radix}
use Rattle.mz_core.specs.declared.soft_type.SoftType.{SoftType}
use Rattle.mz_context.specs.declared.context.Context.{Context}
use Rattle.mz_environment.specs.declared.environment.Environment.{Environment}
use Rattle.mz_names.specs.Closing.{with_variables}
use Rattle.mz_names.specs.declared.refusal.Refusal.{Refusal}
use Rattle.mz_types.specs.Known.{typing}
use Rattle.mz_types.proofs.OneChain.{one_chain_law}
use Rattle.mz_tree.specs.Trees.{TermData, TypeData}
use Rattle.mz_tree_proof.specs.declared.introduction.NamedTermTree.{NamedTermTree}
use Rattle.mz_tree_proof.specs.declared.introduction.RetypedTree.{RetypedTree}
use Rattle.mz_steps.specs.declared.read_step.Definition.{Definition}
use Rattle.mz_resolve.specs.Calls.{TermRead, TypeRead}
use Rattle.mz_parts.specs.Named as na
use Rattle.mz_parts.specs.Named.{definition, of_radix, Defines, NamedRead, TermsReadBehind, TermsRead, retyped_term, retyped, RetypedRead, side_of}
use Rattle.mz_justified_laws.specs.Determined.{IsDetermined}
use Rattle.mz_justified_laws.proofs.Sequence.{determined_by, IsValue, determined_value, IsMade, determined_made, ThenRead, determined_then, as_it_is}
use Rattle.mz_parts_laws.specs.Laws.{OneDefinitionLaw, OneNamedLaw, OneTermsLaw, OneRetypedLaw, OneSidesLaw}
use Rattle.mz_parts_laws.proofs.OneExpression.{one_term_read, one_type_read}

heads : (r s : Radix) (rs ss : List Radix) → r ∷ rs ≡ s ∷ ss → r ≡ s
heads r s rs ss h = cc

pub one_definition : OneDefinitionLaw
one_definition e c w t d f (na.defines r rs h) (na.defines s ss k) = ap (λ (z : Radix). definition w (of_radix z) t) (heads r s rs ss (one_chain_law (typing e c) e c t (r ∷ rs) (s ∷ ss) h k))

-- a name for a term
abbrev NamedNext : Environment → Context → NamedTermTree → Term → Left → Result Definition Refusal → Left → Type 0
NamedNext e c n t l = IsMade (Defines e c n.name t) l

abbrev NamedAs : Environment → Context → ℕ → Left → NamedTermTree → Result Definition Refusal → Left → Type 0
NamedAs e c least left n = ThenRead (TermRead e c least left n.term) as_it_is (NamedNext e c n)

named_as : (e : Environment) (c : Context) (least : ℕ) (left : Left) (n : NamedTermTree) (o : Result Definition Refusal) (a : Left) → NamedRead e c least left n o a → NamedAs e c least left n o a
named_as e c least left n o a (na.term_refused r _ h) = (Err r, a, h, refl)
named_as e c least left n o a (na.term_read t d _ h k) = (Ok t, a, h, (d, k, refl, refl))

pub one_named : OneNamedLaw
one_named e c least left n =
    determined_by (NamedRead e c least left n) (NamedAs e c least left n) (named_as e c least left n)
    (determined_then (TermRead e c least left n.term) as_it_is (NamedNext e c n) (one_term_read e c least left n.term)
    (λ (t : Term) (l : Left). determined_made (Defines e c n.name t) l (one_definition e c n.name t)))

-- terms one after another
abbrev BehindNext : Environment → Context → ℕ → List TermData → List Term → Term → Left → Result (List Term) Refusal → Left → Type 0
BehindNext e c least ts before u l = TermsReadBehind e c least l ts (before ++ u ∷ [])

abbrev BehindAs : Environment → Context → ℕ → Left → List TermData → List Term → Result (List Term) Refusal → Left → Type 0
BehindAs e c least left [] before o a = IsValue (Ok before) left o a
BehindAs e c least left (t ∷ ts) before o a = ThenRead (TermRead e c least left t) as_it_is (BehindNext e c least ts before) o a

behind_as : (e : Environment) (c : Context) (least : ℕ) (left : Left) (ts : List TermData) (before : List Term) (o : Result (List Term) Refusal) (a : Left) →
    TermsReadBehind e c least left ts before o a → BehindAs e c least left ts before o a
behind_as e c least left ts before o a (na.no_more _ _) = (refl, refl)
behind_as e c least left ts before o a (na.one_refused _ _ t rest _ r h) = (Err r, a, h, refl)
behind_as e c least left ts before o a (na.one_read _ between _ t rest _ u _ h k) = (Ok u, between, h, k)

one_behind : (e : Environment) (c : Context) (least : ℕ) (ts : List TermData) (left : Left) (before : List Term) → IsDetermined (TermsReadBehind e c least left ts before)
one_behind e c least [] left before =
    determined_by (TermsReadBehind e c least left [] before) (BehindAs e c least left [] before) (behind_as e c least left [] before) (determined_value (Ok before) left)
one_behind e c least (t ∷ ts) left before =
    determined_by (TermsReadBehind e c least left (t ∷ ts) before) (BehindAs e c least left (t ∷ ts) before) (behind_as e c least left (t ∷ ts) before)
    (determined_then (TermRead e c least left t) as_it_is (BehindNext e c least ts before) (one_term_read e c least left t)
    (λ (u : Term) (l : Left). one_behind e c least ts l (before ++ u ∷ [])))

pub one_terms : OneTermsLaw
one_terms e c least left ts = one_behind e c least ts left []

pub one_sides : OneSidesLaw
one_sides e c least left vs ls = one_terms e (with_variables c vs) least left (map side_of ls)

-- terms of a new type
abbrev RetypedValue : List RetypedTree → List Term → SoftType → Left → Result (List Definition) Refusal → Left → Type 0
RetypedValue xs ts t l = IsValue (Ok (retyped t xs ts)) l

abbrev RetypedNext : Environment → Context → ℕ → List RetypedTree → TypeData → List Term → Left → Result (List Definition) Refusal → Left → Type 0
RetypedNext e c least xs ty ts l = ThenRead (TypeRead e c least l ty) as_it_is (RetypedValue xs ts)

abbrev RetypedAs : Environment → Context → ℕ → Left → List RetypedTree → TypeData → Result (List Definition) Refusal → Left → Type 0
RetypedAs e c least left xs ty = ThenRead (TermsRead e c least left (map retyped_term xs)) as_it_is (RetypedNext e c least xs ty)

retyped_as : (e : Environment) (c : Context) (least : ℕ) (left : Left) (xs : List RetypedTree) (ty : TypeData) (o : Result (List Definition) Refusal) (a : Left) → RetypedRead e c least left xs ty o a → RetypedAs e c least left xs ty o a
retyped_as e c least left xs ty o a (na.term_refused r _ h) = (Err r, a, h, refl)
retyped_as e c least left xs ty o a (na.type_refused ts r between _ h k) = (Ok ts, between, h, (Err r, a, k, refl))
retyped_as e c least left xs ty o a (na.both_read ts t between _ h k) = (Ok ts, between, h, (Ok t, a, k, (refl, refl)))

pub one_retyped : OneRetypedLaw
one_retyped e c least left xs ty =
    determined_by (RetypedRead e c least left xs ty) (RetypedAs e c least left xs ty) (retyped_as e c least left xs ty)
    (determined_then (TermsRead e c least left (map retyped_term xs)) as_it_is (RetypedNext e c least xs ty) (one_terms e c least left (map retyped_term xs))
    (λ (ts : List Term) (l : Left). determined_then (TypeRead e c least l ty) as_it_is (RetypedValue xs ts) (one_type_read e c least l ty)
    (λ (t : SoftType) (m : Left). determined_value (Ok (retyped t xs ts)) m)))
