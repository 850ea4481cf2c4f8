-- An environment part lets in one thing at most.
use Rattle.std.proofs.Common.{◌≡◌, ◌⊎◌, inl, inr, List, [], ◌∷◌, ◌++◌, refl, sym, ap, ◌∙◌, subst, Bool, true, false}
use Rattle.std.specs.Prelude.{Option, Some, None, Result, Ok, Err}
use Rattle.mz_base.specs.declared.name.Name.{Name}
use Rattle.mz_base.specs.declared.head.DirectiveKind.{DirectiveKind}
use Rattle.mz_base.specs.declared.head.DirectiveKind.TheVariants.{Vocabularies, Notations, Constructors, Registrations, Definitions, Theorems, Schemes, Requirements, Equalities, Expansions}
use Rattle.mz_core.specs.declared.outcome.Export.{Export}
use Rattle.mz_environment.specs.Environment.{no_environment}
use Rattle.mz_environment.specs.declared.environment.Environment.{Environment}
use Rattle.mz_axioms.specs.Names.{hidden_name}
use Rattle.mz_env.specs.declared.directed.Directed.{Directed}
use Rattle.mz_env.specs.declared.env_fault.EnvFault.{EnvFault}
use Rattle.mz_env.specs.Symbols.{is_among}
use Rattle.mz_env.specs.Shares.{shares_of, whole_of}
use Rattle.mz_env.specs.Visits.{export_named, Visits, no_more, again, absent, let_in}
use Rattle.mz_env.specs.LetIn as rule
use Rattle.mz_env.specs.LetIn.{behind, directed_names, constructor_names, fault_of, Reaches, Gives, LetIn, OneOutcomeLaw}

not_both : (b : Bool) → b ≡ true → b ≡ false → ⊥
not_both true p q = cc
not_both false p q = cc

none_or_some : {X : Type 0} (o : Option X) (x : X) → o ≡ None → o ≡ Some x → ⊥
none_or_some None x p q = cc
none_or_some (Some y) x p q = cc

abbrev some_or : {X : Type 0} → X → Option X → X
some_or y None = y
some_or y (Some x) = x

one_value : {X : Type 0} (o : Option X) (x y : X) → o ≡ Some x → o ≡ Some y → x ≡ y
one_value o x y p q = ap (some_or x) (sym p ∙ q)

-- both parts of what a visit gives
abbrev Alike : List Name → List Export → List Name → List Export → Type 0
Alike later es others fs = (later ≡ others) × (es ≡ fs)

-- the first step of a visit
data Steps : List Export → List Name → Name → List Name → List Name → List Export → Type 0 where
  past : {exports : List Export} {begun ns later : List Name} {n : Name} {es : List Export} → is_among n.number begun ≡ true → Visits exports begun ns later es → Steps exports begun n ns later es
  no_export : {exports : List Export} {begun ns later : List Name} {n : Name} {es : List Export} → is_among n.number begun ≡ false → export_named exports n.number ≡ None → Visits exports begun ns later es → Steps exports begun n ns later es
  visited : {exports : List Export} {begun ns middle later : List Name} {n : Name} {es before after : List Export} (e : Export) → is_among n.number begun ≡ false → export_named exports n.number ≡ Some e → Visits exports (begun ++ n ∷ []) e.dependencies middle before → Visits exports middle ns later after → es ≡ before ++ e ∷ after → Steps exports begun n ns later es

step_of : {exports : List Export} {begun ns later : List Name} {n : Name} {es : List Export} → Visits exports begun (n ∷ ns) later es → Steps exports begun n ns later es
step_of (again n ns is v) = past is v
step_of (absent n ns is at v) = no_export is at v
step_of (let_in n ns e is at inner v) = visited e is at inner v refl

nothing_more : {exports : List Export} {begun later : List Name} {es : List Export} → Visits exports begun [] later es → Alike begun [] later es
nothing_more no_more = (refl, refl)

after_again : {exports : List Export} {begun ns later others : List Name} {n : Name} {es fs : List Export} → is_among n.number begun ≡ true → ((ends : List Name) (gs : List Export) → Visits exports begun ns ends gs → Alike later es ends gs) → Steps exports begun n ns others fs → Alike later es others fs
after_again is each (past here w) = each _ _ w
after_again is each (no_export apart at w) = absurd (not_both _ is apart)
after_again is each (visited e apart at inner w all) = absurd (not_both _ is apart)

after_absent : {exports : List Export} {begun ns later others : List Name} {n : Name} {es fs : List Export} → is_among n.number begun ≡ false → export_named exports n.number ≡ None → ((ends : List Name) (gs : List Export) → Visits exports begun ns ends gs → Alike later es ends gs) → Steps exports begun n ns others fs → Alike later es others fs
after_absent is at each (past here w) = absurd (not_both _ here is)
after_absent is at each (no_export apart none w) = each _ _ w
after_absent is at each (visited e apart some inner w all) = absurd (none_or_some _ e at some)

after_visited : {exports : List Export} {begun ns middle later others : List Name} {n : Name} {before after fs : List Export} (e : Export) → is_among n.number begun ≡ false → export_named exports n.number ≡ Some e → ((ends : List Name) (gs : List Export) → Visits exports (begun ++ n ∷ []) e.dependencies ends gs → Alike middle before ends gs) → ((ends : List Name) (gs : List Export) → Visits exports middle ns ends gs → Alike later after ends gs) → Steps exports begun n ns others fs → Alike later (before ++ e ∷ after) others fs
after_visited e is at inside each (past here w) = absurd (not_both _ here is)
after_visited e is at inside each (no_export apart none w) = absurd (none_or_some _ e none at)
after_visited {exports = exports} {begun = begun} {ns = ns} {n = n} e is at inside each (visited {middle = between} {later = others} {before = front} {after = back} d apart some within w all) =
    let same : d ≡ e = one_value _ d e some at in
    let deep : Alike _ _ between front = inside between front (subst (λ (k : Export). Visits exports (begun ++ n ∷ []) k.dependencies between front) same within) in
    let flat : Alike _ _ others back = each others back (subst (λ b. Visits exports b ns others back) (sym deep.0) w) in
    (flat.0, (λ i. deep.1 i ++ sym same i ∷ flat.1 i) ∙ sym all)

pub one_visit : {exports : List Export} {begun ns later others : List Name} {es fs : List Export} → Visits exports begun ns later es → Visits exports begun ns others fs → Alike later es others fs
one_visit no_more w = nothing_more w
one_visit (again n ns is v) w = after_again is (λ ends gs x. one_visit v x) (step_of w)
one_visit (absent n ns is at v) w = after_absent is at (λ ends gs x. one_visit v x) (step_of w)
one_visit (let_in n ns e is at inner v) w = after_visited e is at (λ ends gs x. one_visit inner x) (λ ends gs x. one_visit v x) (step_of w)

-- the exports that a name reaches
one_reach : (exports : List Export) (begun later others : List Name) (kind : DirectiveKind) (n : Name) (es fs : List Export) → Reaches exports begun kind n later es → Reaches exports begun kind n others fs → Alike later es others fs
one_reach exports begun later others Vocabularies n es fs p q = (p.0 ∙ sym q.0, p.1 ∙ sym q.1)
one_reach exports begun later others Notations n es fs p q = (p.0 ∙ sym q.0, p.1 ∙ sym q.1)
one_reach exports begun later others Constructors n es fs p q = one_visit p q
one_reach exports begun later others Registrations n es fs p q = (p.0 ∙ sym q.0, p.1 ∙ sym q.1)
one_reach exports begun later others Definitions n es fs p q = (p.0 ∙ sym q.0, p.1 ∙ sym q.1)
one_reach exports begun later others Theorems n es fs p q = (p.0 ∙ sym q.0, p.1 ∙ sym q.1)
one_reach exports begun later others Schemes n es fs p q = (p.0 ∙ sym q.0, p.1 ∙ sym q.1)
one_reach exports begun later others Requirements n es fs p q = (p.0 ∙ sym q.0, p.1 ∙ sym q.1)
one_reach exports begun later others Equalities n es fs p q = (p.0 ∙ sym q.0, p.1 ∙ sym q.1)
one_reach exports begun later others Expansions n es fs p q = (p.0 ∙ sym q.0, p.1 ∙ sym q.1)

-- what names let in
data First : List Export → List Name → List Name → Directed → List Directed → Result Environment EnvFault → Type 0 where
  fails : {exports : List Export} {articles begun : List Name} {d : Directed} {ds : List Directed} {o : Result Environment EnvFault} (f : EnvFault) → fault_of exports articles d.kind d.name d.place ≡ Some f → o ≡ Err f → First exports articles begun d ds o
  goes_on : {exports : List Export} {articles begun later : List Name} {d : Directed} {ds : List Directed} {o rest : Result Environment EnvFault} (es : List Export) → fault_of exports articles d.kind d.name d.place ≡ None → Reaches exports begun d.kind d.name later es → Gives exports articles later ds rest → o ≡ behind (shares_of articles d.kind es) rest → First exports articles begun d ds o

first_of : {exports : List Export} {articles begun : List Name} {d : Directed} {ds : List Directed} {o : Result Environment EnvFault} → Gives exports articles begun (d ∷ ds) o → First exports articles begun d ds o
first_of (rule.refused d ds f is) = fails f is refl
first_of (rule.let_in d ds es is reaches g) = goes_on es is reaches g refl

none_given : {exports : List Export} {articles begun : List Name} {o : Result Environment EnvFault} → Gives exports articles begun [] o → Ok no_environment ≡ o
none_given rule.nothing = refl

after_fault : {exports : List Export} {articles begun : List Name} {d : Directed} {ds : List Directed} {p : Result Environment EnvFault} (f : EnvFault) → fault_of exports articles d.kind d.name d.place ≡ Some f → First exports articles begun d ds p → Err f ≡ p
after_fault f is (fails k at o_is) = ap Err (one_value _ f k is at) ∙ sym o_is
after_fault f is (goes_on es none reaches g o_is) = absurd (none_or_some _ f none is)

behind-after_let_in : {exports : List Export} {articles begun later : List Name} {d : Directed} {ds : List Directed} {rest p : Result Environment EnvFault} (es : List Export) → fault_of exports articles d.kind d.name d.place ≡ None → Reaches exports begun d.kind d.name later es → ((q : Result Environment EnvFault) → Gives exports articles later ds q → rest ≡ q) → First exports articles begun d ds p → behind (shares_of articles d.kind es) rest ≡ p
behind-after_let_in es is reaches each (fails k at o_is) = absurd (none_or_some _ k is at)
behind-after_let_in {exports = exports} {articles = articles} {begun = begun} {later = later} {d = d} {ds = ds} {rest = rest} es is reaches each (goes_on {later = others} {rest = other} fs none leads h o_is) =
    let same : Alike later es others fs = one_reach exports begun later others d.kind d.name es fs reaches leads in
    let ends : rest ≡ other = each other (subst (λ b. Gives exports articles b ds other) (sym same.0) h) in
    (λ i. behind (shares_of articles d.kind (same.1 i)) (ends i)) ∙ sym o_is

pub one_given : {exports : List Export} {articles begun : List Name} {ds : List Directed} {o p : Result Environment EnvFault} → Gives exports articles begun ds o → Gives exports articles begun ds p → o ≡ p
one_given rule.nothing h = none_given h
one_given (rule.refused d ds f is) h = after_fault f is (first_of h)
one_given (rule.let_in d ds es is reaches g) h = behind-after_let_in es is reaches (λ q x. one_given g x) (first_of h)

pub one_outcome_law : OneOutcomeLaw
one_outcome_law head exports o p v w =
    let same : Alike v.articles v.visited w.articles w.visited = one_visit v.visits w.visits in
    let told : v.told ≡ w.told = one_given v.gives (subst (λ bs. Gives exports bs (hidden_name ∷ []) (directed_names head) w.told) (sym same.0) w.gives) in
    v.with_hidden ∙ (ap (behind (whole_of (export_named exports hidden_name.number))) told ∙ sym w.with_hidden)
