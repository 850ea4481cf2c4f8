-- What a symbol applied to arguments of known constants reads to is of known constants.
use Rattle.std.proofs.Common.{◌≡◌, ℕ, List, ◌++◌, length, reverse, refl, ap, subst, Bool, true, Option, Some}
use Rattle.std.specs.Prelude.{◌&&◌}
use Rattle.std.specs.List.{list_all, filter}
use Rattle.std.proofs.lemmas.Bool.{and_parts}
use Rattle.mz_logic.specs.Term.{Term}
use Rattle.mz_core.specs.declared.radix.Radix.{Radix}
use Rattle.mz_core.specs.declared.soft_type.SoftType.{SoftType}
use Rattle.mz_core.specs.declared.notation.Notation.{Notation}
use Rattle.mz_core.specs.declared.notation.Meaning.{Meaning}
use Rattle.mz_core.specs.declared.notation.Meaning.TheVariants.{OfTerm, OfLiteral, OfType}
use Rattle.mz_items.specs.Closed.{notation_closed, pattern_closed, meaning_under, meaning_fits}
use Rattle.mz_items.proofs.RowLemmas.{all-reverse}
use Rattle.mz_context.specs.declared.constants.Constant.{Constant}
use Rattle.mz_context.specs.declared.context.Context.{Context}
use Rattle.mz_ground.specs.declared.clause.Clause.{Clause}
use Rattle.mz_environment.specs.declared.environment.Environment.{Environment}
use Rattle.mz_closed_laws.specs.ClosedEnvironment.{IsClosedEnvironment}
use Rattle.mz_fits.specs.Matching.{Fixed, unfixed}
use Rattle.mz_fits.proofs.OneMatch.{some-inj, none_some}
use Rattle.mz_choice.specs.Choice as co
use Rattle.mz_choice.specs.Choice.{FirstMember, Typed, Takes, TakesAll, meaning_at, Reads, Suits, Passes, FirstPasses, is_candidate, candidates}
use Rattle.mz_choice.specs.Resolution as re
use Rattle.mz_choice.specs.Resolution.{Resolves}
use Rattle.mz_choice.specs.declared.choice.Applied.{Applied}
use Rattle.mz_choice.specs.declared.choice.Wanted.{Wanted}
use Rattle.mz_choice.specs.declared.resolve.Resolution.{Resolution}
use Rattle.mz_choice.specs.declared.resolve.Resolution.TheVariants.{ReadsTo, UnknownSymbol, NoNotation, UnfitArgument}
use Rattle.mz_choice_laws.specs.Known.{term_known, radix_known, meaning_known, HasKnownTypes}
use Rattle.mz_choice_laws.specs.KnownLaws.{KnownMeaningLaw, SuitedLaw}
use Rattle.mz_choice_laws.proofs.ListParts.{all-filter}
use Rattle.mz_choice_laws.proofs.KnownValues.{term_at_values, literal_at_values, type_at_values}
use Rattle.mz_choice_laws.proofs.KnownMatches.{AreKnown, unfixed_known, placed_known, all_matched_known}
use Rattle.mz_choice_laws.proofs.KnownRows.{AreValues, accepted_known}
use Rattle.mz_choice_laws.proofs.KnownChain.{known_chain_law}

-- what the first member that matches fixes
member_known : (known : ℕ → Bool) (cs : List Clause) (ks : List (Option Constant)) (scope : ℕ) (formal : Radix) (fs : Fixed) → AreKnown known fs → (rs : List Radix) → list_all (radix_known known 0) rs ≡ true → (o : Option Fixed) → FirstMember cs ks scope formal fs rs o → (gs : Fixed) → o ≡ Some gs → AreKnown known gs
member_known known cs ks scope formal fs a rs kr o co.no_member gs e = absurd (none_some gs e)
member_known known cs ks scope formal fs a rs kr o (co.member r others behind es m) gs e =
    all_matched_known known cs ks scope fs formal.args r.args (Some behind) m (and_parts (radix_known known 0 r) (list_all (radix_known known 0) others) kr).0 a gs e
member_known known cs ks scope formal fs a rs kr o (co.other_symbol r others p es h) gs e =
    member_known known cs ks scope formal fs a others (and_parts (radix_known known 0 r) (list_all (radix_known known 0) others) kr).1 p h gs e
member_known known cs ks scope formal fs a rs kr o (co.other_arguments r others p es m h) gs e =
    member_known known cs ks scope formal fs a others (and_parts (radix_known known 0 r) (list_all (radix_known known 0) others) kr).1 p h gs e

-- what a visible argument fixes
typed_known : (known : ℕ → Bool) (cs : List Clause) (e : Environment) (c : Context) → IsClosedEnvironment e → HasKnownTypes known c → (place : ℕ) (ty : SoftType) (fs : Fixed) (t : Term) → AreKnown known fs → term_known known 0 t ≡ true → (o : Option Fixed) → Typed cs e c place ty fs t o → (gs : Fixed) → o ≡ Some gs → AreKnown known gs
typed_known known cs e c ce h place ty fs t a kt o (co.any_object i) gs q = subst (AreKnown known) (some-inj fs gs q) a
typed_known known cs e c ce h place ty fs t a kt o (co.by_chain rs p i chain m) gs q =
    member_known known cs c.constants place ty.radix fs a rs (known_chain_law known cs e c ce h t rs kt chain) p m gs q

takes_known : (known : ℕ → Bool) (cs : List Clause) (e : Environment) (c : Context) → IsClosedEnvironment e → HasKnownTypes known c → (loci : List SoftType) (fs : Fixed) (place : ℕ) (t : Term) → AreKnown known fs → term_known known 0 t ≡ true → (o : Option Fixed) → Takes cs e c loci fs place t o → (gs : Fixed) → o ≡ Some gs → AreKnown known gs
takes_known known cs e c ce h loci fs place t a kt o (co.no_locus i) gs q = absurd (none_some gs q)
takes_known known cs e c ce h loci fs place t a kt o (co.not_placed ty i p) gs q = absurd (none_some gs q)
takes_known known cs e c ce h loci fs place t a kt o (co.is_placed ty between r i p m) gs q =
    typed_known known cs e c ce h place ty between t (placed_known known cs c.constants fs place t (Some between) p kt a between refl) kt r m gs q

takes_all_known : (known : ℕ → Bool) (cs : List Clause) (e : Environment) (c : Context) → IsClosedEnvironment e → HasKnownTypes known c → (loci : List SoftType) (fs : Fixed) (ps : List ℕ) (ts : List Term) (o : Option Fixed) → TakesAll cs e c loci fs ps ts o → AreKnown known fs → list_all (term_known known 0) ts ≡ true → (gs : Fixed) → o ≡ Some gs → AreKnown known gs
takes_all_known known cs e c ce h loci fs ps ts o (co.all_taken hs) a kt gs q = subst (AreKnown known) (some-inj hs gs q) a
takes_all_known known cs e c ce h loci fs ps ts o (co.and_takes hs between p rest t others r one m) a kt gs q =
    let both : (term_known known 0 t ≡ true) × (list_all (term_known known 0) others ≡ true) = and_parts (term_known known 0 t) (list_all (term_known known 0) others) kt in
    takes_all_known known cs e c ce h loci between rest others r m (takes_known known cs e c ce h loci hs p t a both.0 (Some between) one between refl) both.1 gs q
takes_all_known known cs e c ce h loci fs ps ts o (co.one_not_taken hs p rest t others one) a kt gs q = absurd (none_some gs q)
takes_all_known known cs e c ce h loci fs ps ts o (co.places_end hs t others) a kt gs q = absurd (none_some gs q)
takes_all_known known cs e c ce h loci fs ps ts o (co.terms_end hs p rest) a kt gs q = absurd (none_some gs q)

-- what a pattern reads to at values
meaning_at_values : (known : ℕ → Bool) (vs : List Term) (n : ℕ) → AreValues known n vs → (m : Meaning) → meaning_under n m ≡ true → meaning_known known 0 (meaning_at vs m) ≡ true
meaning_at_values known vs n v (OfTerm t) h = term_at_values known (reverse vs) n v.are_known v.count t h
meaning_at_values known vs n v (OfLiteral l) h = literal_at_values known (reverse vs) n v.are_known v.count l h
meaning_at_values known vs n v (OfType ty) h = type_at_values known (reverse vs) n v.are_known v.count ty h

notation_meaning : (x : Notation) → notation_closed x ≡ true → meaning_under (length x.pattern.loci) x.meaning ≡ true
notation_meaning x h =
    (and_parts (pattern_closed x.pattern) (meaning_under (length x.pattern.loci) x.meaning) (and_parts (pattern_closed x.pattern && meaning_under (length x.pattern.loci) x.meaning) (meaning_fits x.pattern.kind x.meaning) h).0).1

reads_known : (known : ℕ → Bool) (cs : List Clause) (e : Environment) (c : Context) → IsClosedEnvironment e → HasKnownTypes known c → (x : Notation) → notation_closed x ≡ true → (args : List Term) → list_all (term_known known 0) args ≡ true → (o : Option Meaning) → Reads cs e c x args o → (m : Meaning) → o ≡ Some m → meaning_known known 0 m ≡ true
reads_known known cs e c ce h x cx args ka o (co.not_taken t) m q = absurd (none_some m q)
reads_known known cs e c ce h x cx args ka o (co.not_accepted fs t a) m q = absurd (none_some m q)
reads_known known cs e c ce h x cx args ka o (co.reads fs vs t a) m q =
    let k : AreKnown known fs =
    takes_all_known known cs e c ce h x.pattern.loci (unfixed (length x.pattern.loci)) (x.pattern.left ++ x.pattern.right) args (Some fs) t (unfixed_known known (length x.pattern.loci)) ka fs refl in
    subst (λ (n : Meaning). meaning_known known 0 n ≡ true) (some-inj (meaning_at vs x.meaning) m q)
    (meaning_at_values known vs (length x.pattern.loci) (accepted_known known cs c.constants x.pattern.loci fs vs k a) x.meaning (notation_meaning x cx))

-- the first notation that passes
passes_known : (known : ℕ → Bool) (cs : List Clause) (e : Environment) (c : Context) → IsClosedEnvironment e → HasKnownTypes known c → (w : Wanted) (x : Notation) → notation_closed x ≡ true → (args : List Term) → list_all (term_known known 0) args ≡ true → (o : Option Meaning) → Passes cs e c w x args o → (m : Meaning) → o ≡ Some m → meaning_known known 0 m ≡ true
passes_known known cs e c ce h w x cx args ka o (co.passes n r s) m q = reads_known known cs e c ce h x cx args ka (Some n) r m q
passes_known known cs e c ce h w x cx args ka o (co.not_suited n r s) m q = absurd (none_some m q)
passes_known known cs e c ce h w x cx args ka o (co.not_read r) m q = absurd (none_some m q)

first_known : (known : ℕ → Bool) (cs : List Clause) (e : Environment) (c : Context) → IsClosedEnvironment e → HasKnownTypes known c → (w : Wanted) (args : List Term) → list_all (term_known known 0) args ≡ true → (xs : List Notation) → list_all notation_closed xs ≡ true → (o : Option Meaning) → FirstPasses cs e c w args xs o → (m : Meaning) → o ≡ Some m → meaning_known known 0 m ≡ true
first_known known cs e c ce h w args ka xs cx o co.none_passes m q = absurd (none_some m q)
first_known known cs e c ce h w args ka xs cx o (co.this_passes x others n p) m q =
    passes_known known cs e c ce h w x (and_parts (notation_closed x) (list_all notation_closed others) cx).0 args ka (Some n) p m q
first_known known cs e c ce h w args ka xs cx o (co.not_this x others r p f) m q =
    first_known known cs e c ce h w args ka others (and_parts (notation_closed x) (list_all notation_closed others) cx).1 r f m q

candidates_closed : (e : Environment) → IsClosedEnvironment e → (a : Applied) → list_all notation_closed (candidates a e.notations) ≡ true
candidates_closed e ce a = all-reverse notation_closed (filter (is_candidate a) e.notations) (all-filter notation_closed (is_candidate a) e.notations ce.notations)

-- a resolution that reads to something
read_of : Meaning → Resolution → Meaning
read_of d (ReadsTo m) = m
read_of d UnknownSymbol = d
read_of d NoNotation = d
read_of d UnfitArgument = d

resolves_known : (known : ℕ → Bool) (cs : List Clause) (e : Environment) (c : Context) → IsClosedEnvironment e → HasKnownTypes known c → (w : Wanted) (a : Applied) → list_all (term_known known 0) (a.left ++ a.right) ≡ true → (o : Resolution) → Resolves cs e c w a o → (m : Meaning) → o ≡ ReadsTo m → meaning_known known 0 m ≡ true
unfolding read_of
resolves_known known cs e c ce h w a ka o (re.unknown_symbol i) m q = cc
resolves_known known cs e c ce h w a ka o (re.no_notation i j) m q = cc
resolves_known known cs e c ce h w a ka o (re.unfit_argument i f) m q = cc
resolves_known known cs e c ce h w a ka o (re.reads_to n f) m q =
    first_known known cs e c ce h w (a.left ++ a.right) ka (candidates a e.notations) (candidates_closed e ce a) (Some n) f m (ap (λ r. Some (read_of n r)) q)

pub known_meaning_law : KnownMeaningLaw
known_meaning_law known cs e c ce h w a m ka r = resolves_known known cs e c ce h w a ka (ReadsTo m) r m refl

-- and it is what was wanted
passes_suited : (cs : List Clause) (e : Environment) (c : Context) (w : Wanted) (x : Notation) (args : List Term) (o : Option Meaning) → Passes cs e c w x args o → (m : Meaning) → o ≡ Some m → Suits w m
passes_suited cs e c w x args o (co.passes n r s) m q = subst (Suits w) (some-inj n m q) s
passes_suited cs e c w x args o (co.not_suited n r s) m q = absurd (none_some m q)
passes_suited cs e c w x args o (co.not_read r) m q = absurd (none_some m q)

first_suited : (cs : List Clause) (e : Environment) (c : Context) (w : Wanted) (args : List Term) (xs : List Notation) (o : Option Meaning) → FirstPasses cs e c w args xs o → (m : Meaning) → o ≡ Some m → Suits w m
first_suited cs e c w args xs o co.none_passes m q = absurd (none_some m q)
first_suited cs e c w args xs o (co.this_passes x others n p) m q = passes_suited cs e c w x args (Some n) p m q
first_suited cs e c w args xs o (co.not_this x others r p f) m q = first_suited cs e c w args others r f m q

resolves_suited : (cs : List Clause) (e : Environment) (c : Context) (w : Wanted) (a : Applied) (o : Resolution) → Resolves cs e c w a o → (m : Meaning) → o ≡ ReadsTo m → Suits w m
unfolding read_of
resolves_suited cs e c w a o (re.unknown_symbol i) m q = cc
resolves_suited cs e c w a o (re.no_notation i j) m q = cc
resolves_suited cs e c w a o (re.unfit_argument i f) m q = cc
resolves_suited cs e c w a o (re.reads_to n f) m q = first_suited cs e c w (a.left ++ a.right) (candidates a e.notations) (Some n) f m (ap (λ r. Some (read_of n r)) q)

pub suited_law : SuitedLaw
suited_law cs e c w a m r = resolves_suited cs e c w a (ReadsTo m) r m refl
