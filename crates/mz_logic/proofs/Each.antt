-- Lists of formulas each of which derives; implications and conjunctions of lists.
use Rattle.std.proofs.Common.{◌≡◌, ◌<◌, ◌≤◌, ◌⊎◌, inl, inr, ℕ, zero, suc, ◌+◌, ◌-◌, List, [], ◌∷◌, ◌++◌, length, get_or, refl, sym, ap, ◌∙◌, arith, subst, true, false}
use Rattle.std.specs.Prelude.{All, Contains, Some, slice_get}
use Rattle.std.specs.List.{list_all, list_any}
use Rattle.std.proofs.lemmas.Bool.{or_from, and_parts}
use Rattle.std.proofs.lemmas.List.Elements.{Contains-append_left, Contains-append_right, Contains-append_cases, Contains-get_or, All-contains}
use Rattle.std.proofs.lemmas.Option.{slice_get-get_or}
use Rattle.mz_logic.specs.Term.{Term, Const}
use Rattle.mz_logic.specs.Formula as formula
use Rattle.mz_logic.specs.Formula.{Formula, Truth, Not, And}
use Rattle.mz_logic.specs.Formulas.{IsMember}
use Rattle.mz_logic.specs.Indices.{closed}
use Rattle.mz_logic.specs.Constants.{occurs_in_formula}
use Rattle.mz_logic.specs.Substitution.{substitute_formula, value_at, body_at}
use Rattle.mz_logic.specs.Negation.{falsity, negated}
use Rattle.mz_logic.specs.Connectives.{joined_to, joined, implies, quantified}
use Rattle.mz_logic.specs.Derives.{Derives}
use Rattle.mz_logic.proofs.ValueLaws.{substitute_formula-no_values, substitute_formula-one_others}
use Rattle.mz_logic.proofs.Rules.{hypothesis, weakening, truth, and_in, and_left, and_right, not_in, not_out, classical, all_in, all_out, numbered_axiom}
use Rattle.mz_logic.proofs.Connectives.{first, under, through, anywhere, twice_out}
use Rattle.mz_logic.proofs.Equivalence.{equivalent_negated}
use Rattle.mz_logic.proofs.Generalization.{derives_imply, imply_derives}
use Rattle.mz_logic.proofs.AxiomLaws.{from_other_axioms}

-- each formula of the list derives from the premises h
abbrev pub Each : List Formula → List Formula → List Formula → Type 0
Each ax h g = (k : Formula) → Contains g k → Derives ax h k

-- the same, going along the list
abbrev pub Along : List Formula → List Formula → List Formula → Type 0
Along ax h [] = Unit {0}
Along ax h (f ∷ fs) = Derives ax h f × Along ax h fs

-- what derives from formulas derives from premises from which each of them derives
pub cut_each : (ax h g : List Formula) (f : Formula) → Each ax h g → Derives ax g f → Derives ax h f
unfolding IsMember
cut_each ax h g f each d = imply_derives ax g h f each (anywhere ax h _ (derives_imply ax g f d))

pub each_itself : (ax h : List Formula) → Each ax h h
each_itself ax h k is = hypothesis ax h k is

pub each_under : (ax h g : List Formula) (f : Formula) → Each ax h g → Each ax (f ∷ h) g
each_under ax h g f each k is = under ax h f k (each k is)

pub each_append : (ax h fs gs : List Formula) → Each ax h fs → Each ax h gs → Each ax h (fs ++ gs)
each_append ax h fs gs p q k is =
    elim (Contains-append_cases fs gs k is) [ inl a ↦ p k a | inr b ↦ q k b ]

pub each_left : (ax h fs gs : List Formula) → Each ax h (fs ++ gs) → Each ax h fs
each_left ax h fs gs p k is = p k (Contains-append_left fs gs k is)

pub each_right : (ax h fs gs : List Formula) → Each ax h (fs ++ gs) → Each ax h gs
each_right ax h fs gs p k is = p k (Contains-append_right fs gs k is)

in_none : (k : Formula) → Contains [] k → ⊥
in_none k is = let lt : is.0 < 0 = is.1 in omega arith

pub each_none : (ax h : List Formula) → Each ax h []
each_none ax h k is = absurd (in_none k is)

-- a member is the first one or a later one
pub first_or_later : (f k : Formula) (fs : List Formula) → Contains (f ∷ fs) k → (f ≡ k) ⊎ Contains fs k
first_or_later f k fs (zero, lt, e) = inl e
first_or_later f k fs (suc i, lt, e) = inr (i, omega arith, e)

pub the_first : (f k : Formula) (fs : List Formula) → f ≡ k → Contains (f ∷ fs) k
the_first f k fs e = (0, omega arith, e)

pub a_later : (f k : Formula) (fs : List Formula) → Contains fs k → Contains (f ∷ fs) k
a_later f k fs is = (suc is.0, omega (arith, is.1), is.2)

pub each_more : (ax h : List Formula) (f : Formula) (fs : List Formula) → Derives ax h f → Each ax h fs → Each ax h (f ∷ fs)
each_more ax h f fs d each k is =
    elim (first_or_later f k fs is) [ inl e ↦ subst (Derives ax h) e d | inr later ↦ each k later ]

pub each_along : (ax h fs : List Formula) → Along ax h fs → Each ax h fs
each_along ax h [] p = each_none ax h
each_along ax h (f ∷ fs) p = each_more ax h f fs p.0 (each_along ax h fs p.1)

-- members of the premises
pub each_within : (ax h fs : List Formula) → All (IsMember h) fs → Each ax h fs
unfolding IsMember
each_within ax h fs within k is = hypothesis ax h k (All-contains (IsMember h) fs k within is)

pub along_each : (ax h fs : List Formula) → Each ax h fs → Along ax h fs
along_each ax h [] p = tt
along_each ax h (f ∷ fs) p = (p f (the_first f f fs refl), along_each ax h fs (λ k is. p k (a_later f k fs is)))

pub along_append : (ax h fs gs : List Formula) → Along ax h fs → Along ax h gs → Along ax h (fs ++ gs)
along_append ax h [] gs p q = q
along_append ax h (f ∷ fs) gs p q = (p.0, along_append ax h fs gs p.1 q)

pub along_left : (ax h fs gs : List Formula) → Along ax h (fs ++ gs) → Along ax h fs
along_left ax h [] gs p = tt
along_left ax h (f ∷ fs) gs p = (p.0, along_left ax h fs gs p.1)

pub along_right : (ax h fs gs : List Formula) → Along ax h (fs ++ gs) → Along ax h gs
along_right ax h [] gs p = p
along_right ax h (f ∷ fs) gs p = along_right ax h fs gs p.1

-- more axioms and more premises
pub axiom_derives : (ax g : List Formula) (f : Formula) → Contains ax f → Derives ax g f
axiom_derives ax g f is =
    let from_one : 1 ≤ is.0 + 1 = omega arith in
    let down : (is.0 + 1) - 1 ≡ is.0 = omega arith in
    numbered_axiom ax g (is.0 + 1) f from_one (ap (slice_get ax) down ∙ slice_get-get_or ax is.0 f is.1 ∙ ap Some is.2)

pub premises_within : (g h : List Formula) (f : Formula) (ax : List Formula) → ((k : Formula) → Contains g k → Contains h k) → Derives ax g f → Derives ax h f
unfolding IsMember
premises_within g h f ax within d = weakening ax g h f (λ i x lt. within (get_or g i x) (Contains-get_or g i x lt)) d

pub derives_more : (ax bx g h : List Formula) (f : Formula) → ((k : Formula) → Contains ax k → Contains bx k) → ((k : Formula) → Contains g k → Contains h k) → Derives ax g f → Derives bx h f
unfolding IsMember
derives_more ax bx g h f more_axioms more_premises d =
    premises_within g h f bx more_premises (from_other_axioms ax bx g f (λ k is. axiom_derives bx [] k (more_axioms k is)) d)

pub along_more : (ax bx g h fs : List Formula) → ((k : Formula) → Contains ax k → Contains bx k) → ((k : Formula) → Contains g k → Contains h k) → Along ax g fs → Along bx h fs
along_more ax bx g h [] more_axioms more_premises p = tt
along_more ax bx g h (f ∷ fs) more_axioms more_premises p = (derives_more ax bx g h f more_axioms more_premises p.0, along_more ax bx g h fs more_axioms more_premises p.1)

-- a negation without a double one
pub negated_in : (ax g : List Formula) (f : Formula) → Derives ax g (Not f) → Derives ax g (negated f)
negated_in ax g f d = through ax g (Not f) (negated f) (equivalent_negated ax f).0 d

pub negated_out : (ax g : List Formula) (f : Formula) → Derives ax g (negated f) → Derives ax g (Not f)
negated_out ax g f d = through ax g (negated f) (Not f) (equivalent_negated ax f).1 d

-- conjunctions grouped to the left
pub joined_to_in : (ax g : List Formula) (f : Formula) (fs : List Formula) → Derives ax g f → Along ax g fs → Derives ax g (joined_to f fs)
joined_to_in ax g f [] d p = d
joined_to_in ax g f (k ∷ ks) d p = joined_to_in ax g (And f k) ks (and_in ax g f k d p.0) p.1

pub joined_to_out : (ax g : List Formula) (f : Formula) (fs : List Formula) → Derives ax g (joined_to f fs) → Derives ax g f × Along ax g fs
joined_to_out ax g f [] d = (d, tt)
joined_to_out ax g f (k ∷ ks) d =
    let p : Derives ax g (And f k) × Along ax g ks = joined_to_out ax g (And f k) ks d in
    (and_left ax g f k p.0, (and_right ax g f k p.0, p.1))

pub joined_in : (ax g fs : List Formula) → Along ax g fs → Derives ax g (joined fs)
joined_in ax g [] p = truth ax g
joined_in ax g (f ∷ fs) p = joined_to_in ax g f fs p.0 p.1

pub joined_out : (ax g fs : List Formula) → Derives ax g (joined fs) → Along ax g fs
joined_out ax g [] d = tt
joined_out ax g (f ∷ fs) d = joined_to_out ax g f fs d

-- implications
pub implies_in : (ax g : List Formula) (f k : Formula) → Derives ax (f ∷ g) k → Derives ax g (implies f k)
implies_in ax g f k d =
    let both : Formula = And f (negated k) in
    let h : List Formula = both ∷ g in
    let gives_f : Derives ax h f = and_left ax h f (negated k) (first ax g both) in
    let gives_not : Derives ax h (Not k) = negated_out ax h k (and_right ax h f (negated k) (first ax g both)) in
    let gives_k : Derives ax h k = cut_each ax h (f ∷ g) k (each_more ax h f g gives_f (each_under ax g g both (each_itself ax g))) d in
    not_in ax g both (not_out ax h k falsity gives_k gives_not)

pub implies_out : (ax g : List Formula) (f k : Formula) → Derives ax g (implies f k) → Derives ax g f → Derives ax g k
implies_out ax g f k d e =
    let h : List Formula = Not k ∷ g in
    let both : Derives ax h (And f (negated k)) = and_in ax h f (negated k) (under ax g (Not k) f e) (negated_in ax h k (first ax g (Not k))) in
    classical ax g k (not_out ax h (And f (negated k)) falsity both (under ax g (Not k) (implies f k) d))

past_second : (g : List Formula) (f b k : Formula) → Contains (f ∷ g) k → Contains (f ∷ b ∷ g) k
past_second g f b k is =
    elim (first_or_later f k g is) [ inl e ↦ the_first f k (b ∷ g) e | inr later ↦ a_later f k (b ∷ g) (a_later b k g later) ]

-- of two cases, one holds
pub by_cases : (ax g : List Formula) (f k : Formula) → Derives ax (f ∷ g) k → Derives ax (Not f ∷ g) k → Derives ax g k
by_cases ax g f k d e =
    let h : List Formula = Not k ∷ g in
    let not_f : Derives ax h (Not f) = not_in ax h f (not_out ax (f ∷ h) k falsity (premises_within (f ∷ g) (f ∷ h) k ax (past_second g f (Not k)) d) (under ax h f (Not k) (first ax g (Not k)))) in
    let gives_k : Derives ax h k = cut_each ax h (Not f ∷ g) k (each_more ax h (Not f) g not_f (each_under ax g g (Not k) (each_itself ax g))) e in
    classical ax g k (not_out ax h k falsity gives_k (first ax g (Not k)))

-- a universal that fails has an object at which its body fails
pub not_all_out : (ax g : List Formula) (b k : Formula) (c : ℕ) → list_any (occurs_in_formula c) g ≡ false → occurs_in_formula c b ≡ false → occurs_in_formula c k ≡ false → Derives ax g (Not (formula.All b)) → Derives ax (Not (body_at b (Const c)) ∷ g) k → Derives ax g k
not_all_out ax g b k c apart_g apart_b apart_k d e =
    let at : Formula = body_at b (Const c) in
    let h : List Formula = Not k ∷ g in
    let other : Derives ax (Not at ∷ h) k = premises_within (Not at ∷ g) (Not at ∷ h) k ax (past_second g (Not at) (Not k)) e in
    let there : Derives ax h at = classical ax h at (not_out ax (Not at ∷ h) k falsity other (under ax h (Not at) (Not k) (first ax g (Not k)))) in
    let general : Derives ax h (formula.All b) = all_in ax h b c (or_from _ _ apart_k apart_g) apart_b there in
    classical ax g k (not_out ax h (formula.All b) falsity general (under ax g (Not k) (Not (formula.All b)) d))

-- an existential has an object at which its body holds
pub exists_out : (ax g : List Formula) (b k : Formula) (c : ℕ) → list_any (occurs_in_formula c) g ≡ false → occurs_in_formula c b ≡ false → occurs_in_formula c k ≡ false → Derives ax g (Not (formula.All (Not b))) → Derives ax (body_at b (Const c) ∷ g) k → Derives ax g k
exists_out ax g b k c apart_g apart_b apart_k d e =
    let at : Formula = body_at b (Const c) in
    let h : List Formula = Not (Not at) ∷ g in
    let there : Derives ax h at = twice_out ax h at (first ax g (Not (Not at))) in
    not_all_out ax g (Not b) k c apart_g apart_b apart_k d (cut_each ax h (at ∷ g) k (each_more ax h at g there (each_under ax g g (Not (Not at)) (each_itself ax g))) e)

pub exists_in : (ax g : List Formula) (b : Formula) (t : Term) → closed t ≡ true → Derives ax g (body_at b t) → Derives ax g (Not (formula.All (Not b)))
exists_in ax g b t ct d =
    let every : Formula = formula.All (Not b) in
    not_in ax g every (not_out ax (every ∷ g) (body_at b t) falsity (under ax g every (body_at b t) d) (all_out ax (every ∷ g) (Not b) t ct (first ax g every)))

-- a universal over several indices at closed terms, the innermost index first
pub quantified_out : (ax g : List Formula) (ts : List Term) (f : Formula) → list_all closed ts ≡ true → Derives ax g (quantified (length ts) f) → Derives ax g (substitute_formula 0 (value_at ts) f)
quantified_out ax g [] f h d = subst (Derives ax g) (sym (substitute_formula-no_values 0 f)) d
quantified_out ax g (t ∷ ts) f h d =
    let p : (closed t ≡ true) × (list_all closed ts ≡ true) = and_parts (closed t) (list_all closed ts) h in
    let inner : Derives ax g (substitute_formula 0 (value_at ts) (formula.All f)) = quantified_out ax g ts (formula.All f) p.1 d in
    subst (Derives ax g) (substitute_formula-one_others 0 t ts f) (all_out ax g (substitute_formula (0 + 1) (value_at ts) f) t p.0 inner)
