-- What names let in, one after another.
use Rattle.std.proofs.Common.{◌≡◌, ℕ, suc, ◌+◌, ◌<◌, ◌≤◌, List, [], ◌∷◌, ◌++◌, length, get_or, drop, refl, sym, ap, ◌∙◌, subst, drop-cons, add-one}
use Rattle.std.specs.Prelude.{codes, Option, Some, None, Result, Ok, Err}
use Rattle.std.proofs.lemmas.List.{drop_all}
use Rattle.mz_base.specs.Name.{text_of}
use Rattle.mz_base.specs.declared.name.Name.{Name}
use Rattle.mz_base.specs.declared.head.Directive.{Directive}
use Rattle.mz_core.specs.declared.outcome.Export.{Export}
use Rattle.mz_axioms.specs.Names.{hidden_name}
use Rattle.mz_axioms.proofs.BuiltInLemmas.{name-hidden}
use Rattle.mz_environment.specs.Cited.{at_start}
use Rattle.mz_environment.specs.Environment.{no_environment, joined}
use Rattle.mz_environment.specs.declared.environment.Environment.{Environment}
use Rattle.mz_env.specs.declared.directed.Directed.{Directed}
use Rattle.mz_env.specs.declared.env_fault.EnvFault.{EnvFault}
use Rattle.mz_env.specs.declared.env_fault.EnvFault.TheVariants.{MissingConstructor, UnknownRequirement, NotExported, Memory}
use Rattle.mz_env.specs.Shares.{shares_of, wholes, whole_of}
use Rattle.mz_env.specs.Visits.{export_named, Visits}
use Rattle.mz_env.specs.LetIn.{alone, behind, directed_names, constructor_names, fault_of, Reaches, Gives, nothing, refused, let_in, LetIn, Answers}
use Rattle.mz_env.specs.Walking.{GivesBehind, told}
use Rattle.mz_env.proofs.ShareLemmas.{joined_none, joined_assoc}

-- HIDDEN
pub told_only_hidden : (ns : List Name) (h : Name) → text_of h.number ≡ codes "HIDDEN" → ns ≡ h ∷ [] → ns ≡ hidden_name ∷ []
told_only_hidden ns h is all = all ∙ ap (λ k. k ∷ []) (name-hidden h is)

pub told_no_hidden : (exports : List Export) (h : Name) (e : Environment) → text_of h.number ≡ codes "HIDDEN" → export_named exports h.number ≡ None → e ≡ joined e (whole_of (export_named exports hidden_name.number))
told_no_hidden exports h e is none =
    sym (joined_none e) ∙ (ap (λ o. joined e (whole_of o)) (sym none) ∙ ap (λ (k : Name). joined e (whole_of (export_named exports k.number))) (name-hidden h is))

pub told_hidden_whole : (exports : List Export) (h : Name) (e : Export) (start env : Environment) → text_of h.number ≡ codes "HIDDEN" → export_named exports h.number ≡ Some e → env ≡ joined start (wholes (at_start e.name.number) e.items) → env ≡ joined start (whole_of (export_named exports hidden_name.number))
told_hidden_whole exports h e start env is some whole =
    whole ∙ (ap (λ o. joined start (whole_of o)) (sym some) ∙ ap (λ (k : Name). joined start (whole_of (export_named exports k.number))) (name-hidden h is))

pub ruleset hidden_rules = (told_only_hidden, told_no_hidden, told_hidden_whole)

-- an export alone
pub told_alone_none : (o : Option Export) (es : List Export) → o ≡ None → es ≡ [] → es ≡ alone o
told_alone_none o es none empty = empty ∙ ap alone (sym none)

pub told_alone : (o : Option Export) (e : Export) (before es : List Export) → o ≡ Some e → before ≡ [] → es ≡ before ++ e ∷ [] → es ≡ alone o
told_alone o e before es some none one = one ∙ (ap (λ b. b ++ e ∷ []) none ∙ ap alone (sym some))

pub ruleset alone_rules = (told_alone_none, told_alone)

-- the loop over names
cons-cut : (ds : List Directed) (i : ℕ) (d : Directed) → i < length ds → d ≡ get_or ds i d → d ∷ drop (i + 1) ds ≡ drop i ds
cons-cut ds i d lt at = sym (rw (add-one, drop-cons ds i d) (ap (λ y. y ∷ drop (suc i) ds) (sym at)))

behind_assoc : (e f : Environment) (o : Result Environment EnvFault) → behind (joined e f) o ≡ behind e (behind f o)
behind_assoc e f (Ok g) = ap Ok (joined_assoc e f g)
behind_assoc e f (Err g) = refl

abbrev pub Goes : List Export → List Name → List Name → List Directed → Environment → List Name → List Directed → Environment → Type 0
Goes exports articles start all first begun ds env =
    (told : Result Environment EnvFault) → Gives exports articles begun ds told → GivesBehind exports articles start all first (behind env told)

pub told_first : (exports : List Export) (articles start : List Name) (ds : List Directed) (first env : Environment) → env ≡ first → Goes exports articles start ds first start (drop 0 ds) env
told_first exports articles start ds first env is told gives = (told, gives, ap (λ e. behind e told) is)

pub told_refused : (exports : List Export) (articles start begun : List Name) (ds : List Directed) (i : ℕ) (d : Directed) (first env : Environment) (f : EnvFault) (o : Option EnvFault) → i < length ds → d ≡ get_or ds i d → o ≡ fault_of exports articles d.kind d.name d.place → o ≡ Some f → Goes exports articles start ds first begun (drop i ds) env → GivesBehind exports articles start ds first (Err f)
told_refused exports articles start begun ds i d first env f o lt at is some goes =
    goes (Err f) (subst (λ ks. Gives exports articles begun ks (Err f)) (cons-cut ds i d lt at) (refused d (drop (i + 1) ds) f (sym is ∙ some)))

pub told_turn : (exports : List Export) (articles start begun later : List Name) (ds : List Directed) (i : ℕ) (d : Directed) (first env now : Environment) (es : List Export) (o : Option EnvFault) → i < length ds → d ≡ get_or ds i d → o ≡ fault_of exports articles d.kind d.name d.place → o ≡ None → Reaches exports begun d.kind d.name later es → now ≡ joined env (shares_of articles d.kind es) → Goes exports articles start ds first begun (drop i ds) env → Goes exports articles start ds first later (drop (i + 1) ds) now
told_turn exports articles start begun later ds i d first env now es o lt at is none reaches all goes told gives =
    let share : Environment = shares_of articles d.kind es in
    let whole : Result Environment EnvFault = behind (shares_of articles d.kind es) told in
    let here : Gives exports articles begun (d ∷ drop (i + 1) ds) whole = let_in d (drop (i + 1) ds) es (sym is ∙ none) reaches gives in
    let back : behind env (behind (shares_of articles d.kind es) told) ≡ behind now told = sym (ap (λ e. behind e told) all ∙ behind_assoc env (shares_of articles d.kind es) told) in
    subst (GivesBehind exports articles start ds first) back (goes whole (subst (λ ks. Gives exports articles begun ks whole) (cons-cut ds i d lt at) here))

pub told_end : (exports : List Export) (articles start begun : List Name) (ds : List Directed) (i : ℕ) (first env : Environment) → length ds ≤ i → Goes exports articles start ds first begun (drop i ds) env → GivesBehind exports articles start ds first (Ok env)
told_end exports articles start begun ds i first env past goes =
    subst (GivesBehind exports articles start ds first) (ap Ok (joined_none env))
    (goes (Ok no_environment) (subst (λ ks. Gives exports articles begun ks (Ok no_environment)) (sym (drop_all i ds past)) nothing))

pub ruleset walk_rules = (told_first, told_refused, told_turn, told_end)

-- behind HIDDEN
pub told_fill : (exports : List Export) (articles begun : List Name) (ds : List Directed) (start env : Environment) (o : Result Environment EnvFault) → begun ≡ hidden_name ∷ [] → env ≡ joined start (whole_of (export_named exports hidden_name.number)) → GivesBehind exports articles begun ds env o → GivesBehind exports articles (hidden_name ∷ []) ds (joined start (whole_of (export_named exports hidden_name.number))) o
told_fill exports articles begun ds start env o begun_is env_is gives =
    subst (λ e. GivesBehind exports articles (hidden_name ∷ []) ds e o) env_is (subst (λ b. GivesBehind exports articles b ds env o) begun_is gives)

pub ruleset fill_rules = (told_fill)

from_nothing : (exports : List Export) (articles : List Name) (ds : List Directed) (start : Environment) (o : Result Environment EnvFault) → start ≡ no_environment → GivesBehind exports articles (hidden_name ∷ []) ds (joined start (whole_of (export_named exports hidden_name.number))) o → GivesBehind exports articles (hidden_name ∷ []) ds (whole_of (export_named exports hidden_name.number)) o
from_nothing exports articles ds start o empty gives = subst (λ s. GivesBehind exports articles (hidden_name ∷ []) ds (joined s (whole_of (export_named exports hidden_name.number))) o) empty gives

pub told_filled : (exports : List Export) (articles : List Name) (ds : List Directed) (start env : Environment) (f : Option EnvFault) → start ≡ no_environment → f ≡ None → GivesBehind exports articles (hidden_name ∷ []) ds (joined start (whole_of (export_named exports hidden_name.number))) (told f env) → GivesBehind exports articles (hidden_name ∷ []) ds (whole_of (export_named exports hidden_name.number)) (Ok env)
told_filled exports articles ds start env f empty none gives =
    from_nothing exports articles ds start (Ok env) empty (subst (λ k. GivesBehind exports articles (hidden_name ∷ []) ds (joined start (whole_of (export_named exports hidden_name.number))) (told k env)) none gives)

pub told_fault : (exports : List Export) (articles : List Name) (ds : List Directed) (start env : Environment) (f : Option EnvFault) (g : EnvFault) → start ≡ no_environment → f ≡ Some g → GivesBehind exports articles (hidden_name ∷ []) ds (joined start (whole_of (export_named exports hidden_name.number))) (told f env) → GivesBehind exports articles (hidden_name ∷ []) ds (whole_of (export_named exports hidden_name.number)) (Err g)
told_fault exports articles ds start env f g empty some gives =
    from_nothing exports articles ds start (Err g) empty (subst (λ k. GivesBehind exports articles (hidden_name ∷ []) ds (joined start (whole_of (export_named exports hidden_name.number))) (told k env)) some gives)

pub ruleset filled_rules = (told_filled, told_fault)

-- the outcome
pub told_outcome : (head : List Directive) (exports : List Export) (ds : List Directed) (names start articles : List Name) (es : List Export) (o : Result Environment EnvFault) → ds ≡ directed_names head → names ≡ constructor_names ds → start ≡ hidden_name ∷ [] → Visits exports start names articles es → GivesBehind exports articles (hidden_name ∷ []) ds (whole_of (export_named exports hidden_name.number)) o → LetIn head exports o
told_outcome head exports ds names start articles es o ds_is names_is start_is visits gives = record {
  articles = articles;
  visited = es;
  told = gives.0;
  visits = subst (λ ns. Visits exports (hidden_name ∷ []) ns articles es) (names_is ∙ ap constructor_names ds_is) (subst (λ b. Visits exports b names articles es) start_is visits);
  gives = subst (λ ks. Gives exports articles (hidden_name ∷ []) ks gives.0) ds_is gives.1;
  with_hidden = gives.2;
}

pub ruleset outcome_rules = (told_outcome)

pub told_answer : (head : List Directive) (exports : List Export) (o : Result Environment EnvFault) → LetIn head exports o → Answers head exports o
told_answer head exports (Ok e) is = is
told_answer head exports (Err (MissingConstructor place item)) is = is
told_answer head exports (Err (UnknownRequirement place)) is = is
told_answer head exports (Err (NotExported place)) is = is
told_answer head exports (Err (Memory m)) is = tt

pub ruleset answer_rules = (told_answer)
