-- What compact statements are read to is determined, and so are the justifications of further sides.
use Rattle.std.proofs.Common.{◌≡◌, ℕ, true, false, List, [], ◌∷◌, Option, Some, None, refl, sym, ap, ◌∙◌, subst}
use Rattle.std.specs.Prelude.{Result, Ok, Err}
use Rattle.mz_base.specs.declared.place.Place.{Place}
use Rattle.mz_logic.specs.Term.{Term}
use Rattle.mz_core.specs.Statement.{Statement, Truth, Eq, Atom, Not, And, For}
use Rattle.mz_core.specs.declared.outcome.Left.{Left}
use Rattle.mz_context.specs.Context.{next}
use Rattle.mz_context.specs.declared.context.Context.{Context}
use Rattle.mz_environment.specs.declared.environment.Environment.{Environment}
use Rattle.mz_names.specs.declared.refusal.Refusal.TheVariants.{TooLarge}
use Rattle.mz_formulas.specs.declared.sentence.Sentence.{Sentence}
use Rattle.mz_resolve.specs.Calls.{SentenceRead}
use Rattle.mz_tree_proof.specs.declared.equality_step.EqualityStepTree.{EqualityStepTree}
use Rattle.mz_tree_proof.specs.declared.propositions.PropositionTree.{PropositionTree}
use Rattle.mz_obligations.specs.declared.obligation.Extent.{Extent}
use Rattle.mz_obligations.specs.declared.obligation.Obligation.{Obligation}
use Rattle.mz_parts.specs.Named.{SidesRead}
use Rattle.mz_justified.specs.Justified.{Justified}
use Rattle.mz_justified.specs.declared.proof_fault.ProofRefusal.{ProofRefusal}
use Rattle.mz_justified.specs.declared.proof_fault.ProofRefusal.TheVariants.{StepNoFit, Resolve}
use Rattle.mz_justified_laws.specs.Determined.{AtMostOne, SameLeft, IsDetermined}
use Rattle.mz_justified_laws.proofs.Sequence.{one_by, one_value, Makes, one_made, AfterRead, one_after_read, determined_by, IsValue, determined_value, ThenRead, determined_then}
use Rattle.mz_justified_laws.proofs.OneJustification.{one_justification}
use Rattle.mz_parts_laws.proofs.OneExpression.{one_sentence_read}
use Rattle.mz_parts_laws.proofs.OneName.{one_sides}
use Rattle.mz_walk.specs.Walked.{Walked, Made, behind}
use Rattle.mz_walk.specs.Within.{all_kept}
use Rattle.mz_walk.specs.Compact as co
use Rattle.mz_walk.specs.Compact.{is_equation, saying, compact, equalities_closed, EqualityMade, EqualityRead, said_of, SaidBy, CompactRead, place_behind, JustifiesSides}
use Rattle.mz_walk.specs.declared.compact.Compact.{Compact}
use Rattle.mz_walk.specs.declared.compact.Said.{Said}
use Rattle.mz_introduction_laws.specs.Laws.{OneCompactLaw, OneSidesJustifiedLaw}
use Rattle.mz_introduction_laws.proofs.Walks.{refused}

-- what is made of an equation, as a function of the statement
abbrev too_large : Place → Result Said ProofRefusal
too_large first = Err (Resolve (TooLarge first))

abbrev no_fit : Place → Result Said ProofRefusal
no_fit first = Err (StepNoFit first)

abbrev by_kept : Place → Option (List Statement) → Result Said ProofRefusal
by_kept first None = too_large first
by_kept first (Some []) = too_large first
by_kept first (Some (s ∷ ss)) = Ok (saying s ss)

abbrev made_of : Place → ℕ → Sentence → List Term → Statement → Result Said ProofRefusal
made_of first n x us Truth = no_fit first
made_of first n x us (Eq t u) = by_kept first (all_kept (equalities_closed n x.variables t u us))
made_of first n x us (Atom s ts) = no_fit first
made_of first n x us (Not s) = no_fit first
made_of first n x us (And s t) = no_fit first
made_of first n x us (For ty s) = no_fit first

true_false : true ≡ false → ⊥
true_false e = cc

no_fit-made_of_none : (first : Place) (n : ℕ) (x : Sentence) (us : List Term) (s : Statement) → is_equation s ≡ false → no_fit first ≡ made_of first n x us s
no_fit-made_of_none first n x us Truth h = refl
no_fit-made_of_none first n x us (Eq t u) h = absurd (true_false h)
no_fit-made_of_none first n x us (Atom s ts) h = refl
no_fit-made_of_none first n x us (Not s) h = refl
no_fit-made_of_none first n x us (And s t) h = refl
no_fit-made_of_none first n x us (For ty s) h = refl

made_is : (first : Place) (n : ℕ) (x : Sentence) (us : List Term) (o : Result Said ProofRefusal) → EqualityMade first n x us o → o ≡ made_of first n x us x.inner
made_is first n x us o (co.no_equation h) = no_fit-made_of_none first n x us x.inner h
made_is first n x us o (co.too_large t u h k) = sym (ap (made_of first n x us) h ∙ ap (by_kept first) k)
made_is first n x us o (co.equality t u p h k) = sym (ap (made_of first n x us) h ∙ ap (by_kept first) k)

-- the further sides
abbrev SidesNext : Context → Place → Sentence → List Term → Left → Result Said ProofRefusal → Left → Type 0
SidesNext c first x us l o a = IsValue (made_of first (next c) x us x.inner) l o a

abbrev EqualityAs : Environment → Context → Place → Left → Sentence → List EqualityStepTree → Result Said ProofRefusal → Left → Type 0
EqualityAs e c first left x ks o a = ThenRead (SidesRead e c 0 left x.variables ks) Resolve (SidesNext c first x) o a

equality_as : (e : Environment) (c : Context) (first : Place) (left : Left) (x : Sentence) (ks : List EqualityStepTree) (o : Result Said ProofRefusal) (a : Left) → EqualityRead e c first left x ks o a → EqualityAs e c first left x ks o a
equality_as e c first left x ks o a (co.sides_not_read r _ h) = (Err r, a, h, refl)
equality_as e c first left x ks o a (co.sides_read us _ _ h k) = (Ok us, a, h, (made_is first (next c) x us o k, refl))

one_equality : (e : Environment) (c : Context) (first : Place) (left : Left) (x : Sentence) (ks : List EqualityStepTree) → IsDetermined (EqualityRead e c first left x ks)
one_equality e c first left x ks =
    determined_by (EqualityRead e c first left x ks) (EqualityAs e c first left x ks) (equality_as e c first left x ks)
    (determined_then (SidesRead e c 0 left x.variables ks) Resolve (SidesNext c first x) (one_sides e c 0 left x.variables ks)
    (λ (us : List Term) (l : Left). determined_value (made_of first (next c) x us x.inner) l))

said_left : (x : Sentence) (q : Result Said ProofRefusal) (a b : Left) → SameLeft q a b → SameLeft (said_of x q) a b
said_left x (Ok p) a b h = h
said_left x (Err r) a b h = tt

one_said : (e : Environment) (c : Context) (first : Place) (left : Left) (x : Sentence) (ks : List EqualityStepTree) → IsDetermined (SaidBy e c first left x ks)
one_said e c first left x ks o p a b h k =
    let z : (h.0 ≡ k.0) × SameLeft h.0 a b = one_equality e c first left x ks h.0 k.0 a b h.1 k.1 in
    (h.2 ∙ (ap (said_of x) z.0 ∙ sym k.2), subst (λ (y : Result Compact ProofRefusal). SameLeft y a b) (sym h.2) (said_left x h.0 a b z.1))

-- a compact statement
abbrev PlainNext : Sentence → Left → Result Compact ProofRefusal → Left → Type 0
PlainNext x l o a = IsValue (Ok (compact x (saying x.closed []))) l o a

abbrev CompactNext : Environment → Context → Place → List EqualityStepTree → Sentence → Left → Result Compact ProofRefusal → Left → Type 0
CompactNext e c first [] x l o a = PlainNext x l o a
CompactNext e c first (k ∷ ks) x l o a = SaidBy e c first l x (k ∷ ks) o a

abbrev CompactAs : Environment → Context → Place → Left → PropositionTree → List EqualityStepTree → Result Compact ProofRefusal → Left → Type 0
CompactAs e c first left t ks o a = ThenRead (SentenceRead e c 0 left t.formula) Resolve (CompactNext e c first ks) o a

compact_as : (e : Environment) (c : Context) (first : Place) (left : Left) (t : PropositionTree) (ks : List EqualityStepTree) (o : Result Compact ProofRefusal) (a : Left) → CompactRead e c first left t ks o a → CompactAs e c first left t ks o a
compact_as e c first left t ks o a (co.not_read _ r _ h) = (Err r, a, h, refl)
compact_as e c first left t ks o a (co.plain x _ h) = (Ok x, a, h, (refl, refl))
compact_as e c first left t ks o a (co.iterative k rest x _ l _ h n) = (Ok x, l, h, n)

one_compact_next : (e : Environment) (c : Context) (first : Place) (ks : List EqualityStepTree) (x : Sentence) (l : Left) → IsDetermined (CompactNext e c first ks x l)
one_compact_next e c first [] x l = determined_value (Ok (compact x (saying x.closed []))) l
one_compact_next e c first (k ∷ ks) x l = one_said e c first l x (k ∷ ks)

pub one_compact : OneCompactLaw
one_compact e c first left t ks =
    determined_by (CompactRead e c first left t ks) (CompactAs e c first left t ks) (compact_as e c first left t ks)
    (determined_then (SentenceRead e c 0 left t.formula) Resolve (CompactNext e c first ks) (one_sentence_read e c 0 left t.formula) (one_compact_next e c first ks))

-- the justifications of further sides
abbrev SideNext : Environment → Extent → Context → Place → Place → List EqualityStepTree → List Statement → Obligation → Left → Walked Left → Type 0
SideNext e at c first semicolon ks ss x after o = Makes (JustifiesSides e at c first semicolon ks ss after) (behind (x ∷ [])) o

abbrev JustifiesSide : Environment → Extent → Context → Place → Place → EqualityStepTree → List EqualityStepTree → Statement → Left → Result Obligation ProofRefusal → Left → Type 0
JustifiesSide e at c first semicolon k ks s l o a = Justified e at c first false (place_behind ks semicolon) k.simple s l o a

abbrev SidesAs : Environment → Extent → Context → Place → Place → List EqualityStepTree → List Statement → Left → Walked Left → Type 0
SidesAs e at c first semicolon [] [] l o = o ≡ Made [] l
SidesAs e at c first semicolon [] (s ∷ ss) l o = ⊥
SidesAs e at c first semicolon (k ∷ ks) [] l o = ⊥
SidesAs e at c first semicolon (k ∷ ks) (s ∷ ss) l o = AfterRead (JustifiesSide e at c first semicolon k ks s l) refused (SideNext e at c first semicolon ks ss) o

sides_as : (e : Environment) (at : Extent) (c : Context) (first semicolon : Place) (ks : List EqualityStepTree) (ss : List Statement) (l : Left) (o : Walked Left) → JustifiesSides e at c first semicolon ks ss l o → SidesAs e at c first semicolon ks ss l o
sides_as e at c first semicolon ks ss l o (co.none_owed _) = refl
sides_as e at c first semicolon ks ss l o (co.not_justified k rest s others _ after r h) = (Err r, after, h, refl)
sides_as e at c first semicolon ks ss l o (co.one_more k rest s others _ after x y h i) = (Ok x, after, h, (y, i, refl))

one_nothing : {O : Type 0} → AtMostOne (λ (o : O). ⊥)
one_nothing o p h k = absurd h

one_sides_by : (e : Environment) (at : Extent) (c : Context) (first semicolon : Place) (ks : List EqualityStepTree) (ss : List Statement) (l : Left) → AtMostOne (SidesAs e at c first semicolon ks ss l) → AtMostOne (JustifiesSides e at c first semicolon ks ss l)
one_sides_by e at c first semicolon ks ss l one = one_by (JustifiesSides e at c first semicolon ks ss l) (SidesAs e at c first semicolon ks ss l) (sides_as e at c first semicolon ks ss l) one

pub one_sides_justified : OneSidesJustifiedLaw
one_sides_justified e at c first semicolon [] [] l = one_sides_by e at c first semicolon [] [] l (one_value (Made [] l))
one_sides_justified e at c first semicolon [] (s ∷ ss) l = one_sides_by e at c first semicolon [] (s ∷ ss) l one_nothing
one_sides_justified e at c first semicolon (k ∷ ks) [] l = one_sides_by e at c first semicolon (k ∷ ks) [] l one_nothing
one_sides_justified e at c first semicolon (k ∷ ks) (s ∷ ss) l =
    one_sides_by e at c first semicolon (k ∷ ks) (s ∷ ss) l
    (one_after_read (JustifiesSide e at c first semicolon k ks s l) refused (SideNext e at c first semicolon ks ss) (one_justification e at c first false (place_behind ks semicolon) k.simple s l)
    (λ (x : Obligation) (after : Left). one_made (JustifiesSides e at c first semicolon ks ss after) (behind (x ∷ [])) (one_sides_justified e at c first semicolon ks ss after)))
