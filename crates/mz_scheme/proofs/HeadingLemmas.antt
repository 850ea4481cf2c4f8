-- What the code that reads the heading of a scheme tells.
use Rattle.std.proofs.Common.{◌≡◌, ℕ, List, [], sym, ap, subst, ◌∙◌, Option, None, Some}
use Rattle.std.specs.Prelude.{Result, Ok, Err}
use Rattle.mz_core.specs.declared.outcome.Left.{Left}
use Rattle.mz_context.specs.Context.{next}
use Rattle.mz_context.specs.declared.context.Context.{Context}
use Rattle.mz_context.specs.declared.labelled.LabelledStatement.{LabelledStatement}
use Rattle.mz_environment.specs.declared.environment.Environment.{Environment}
use Rattle.mz_formulas.specs.declared.sentence.Sentence.{Sentence}
use Rattle.mz_names.specs.declared.refusal.Refusal.{Refusal}
use Rattle.mz_cited.specs.Cited.{members}
use Rattle.mz_resolve.specs.Answers.{OnRead}
use Rattle.mz_resolve.specs.Calls.{SentenceRead}
use Rattle.mz_resolve.specs.declared.resolve_fault.ResolveFault.{ResolveFault}
use Rattle.mz_parts.specs.Propositions.{PropositionsRead, propositions_in, no_more}
use Rattle.mz_taken.specs.Answers.{OnTaken, Leads, of_reading}
use Rattle.mz_taken.specs.Taken.{Taken, Made, Refused}
use Rattle.mz_taken.specs.declared.item_fault.ItemFault.{ItemFault}
use Rattle.mz_taken.proofs.OneByOneProofs.{on_err, on_ok}
use Rattle.mz_tree_item.specs.declared.schemes.ProvidedTree.{ProvidedTree}
use Rattle.mz_tree_item.specs.declared.schemes.SchemeTree.{SchemeTree}
use Rattle.mz_scheme_items.specs.Answers.{LeadsBy}
use Rattle.mz_scheme_items.specs.Parameters.{scope, TakesParameters}
use Rattle.mz_scheme_items.specs.StatesScheme as rule
use Rattle.mz_scheme_items.specs.StatesScheme.{heading, premises_in, TakesHeading}
use Rattle.mz_scheme.specs.Heading.{heading_in}
use Rattle.mz_scheme.specs.declared.heading.ReadHeading.{ReadHeading}
use Rattle.mz_scheme.proofs.LoopLemmas.{on_unread, on_read}

-- premises, where there are any
pub told_no_premises : (e : Environment) (c : Context) (least : ℕ) (l : Left) (p : Option ProvidedTree) (ps : List LabelledStatement) → p ≡ None → ps ≡ [] → PropositionsRead e c least l (premises_in p) (Ok ps) l
told_no_premises e c least l p ps none empty =
    subst (λ (q : Option ProvidedTree). PropositionsRead e c least l (premises_in q) (Ok ps) l) (sym none) (subst (λ qs. PropositionsRead e c least l [] (Ok qs) l) (sym empty) (no_more l []))

pub told_premises : (e : Environment) (c : Context) (least : ℕ) (l m : Left) (p : Option ProvidedTree) (x : ProvidedTree) (a : Result (List LabelledStatement) ResolveFault) → p ≡ Some x →
    OnRead a (λ o. PropositionsRead e c least l (propositions_in x.propositions) o m) → OnRead a (λ o. PropositionsRead e c least l (premises_in p) o m)
told_premises e c least l m p x a is h = subst (λ (q : Option ProvidedTree). OnRead a (λ o. PropositionsRead e c least l (premises_in q) o m)) (sym is) h

-- the heading
abbrev pub ParametersTaken : {X : Type 0} → Environment → Context → ℕ → Left → SchemeTree → Context → Left → Result X ItemFault → Type 0
ParametersTaken e c least l t d m z = OnTaken z (Leads (TakesParameters e least (scope c l) (members t.parameters)) (scope d m))

letters_so : {X : Type 0} (e : Environment) (c d : Context) (least : ℕ) (l m : Left) (t : SchemeTree) (z : Result X ItemFault) (y : X) → least ≡ next c → ParametersTaken e c least l t d m z → z ≡ Ok y → TakesParameters e (next c) (scope c l) (members t.parameters) (Made [] (scope d m))
letters_so e c d least l m t z y en h is =
    subst (λ n. TakesParameters e n (scope c l) (members t.parameters) (Made [] (scope d m))) en (on_ok (Leads (TakesParameters e least (scope c l) (members t.parameters)) (scope d m)) z y is h)

pub told_letters_refused : {X : Type 0} (e : Environment) (c d : Context) (least : ℕ) (l m n : Left) (t : SchemeTree) (z : Result X ItemFault) (f : ItemFault) (u : Context) → least ≡ next c → ParametersTaken e c least l t d m z → z ≡ Err f →
    OnTaken {X = ReadHeading} (Err f) (LeadsBy (TakesHeading e c l t) (heading_in u n))
told_letters_refused e c d least l m n t z f u en h is =
    on_err (Leads (TakesParameters e least (scope c l) (members t.parameters)) (scope d m)) (LeadsBy {X = ReadHeading} (TakesHeading e c l t) (heading_in u n)) z f is h
    (λ r k. rule.letters_refused r (subst (λ n. TakesParameters e n (scope c l) (members t.parameters) (Refused r)) en k))

pub told_conclusion_refused : {X : Type 0} (e : Environment) (c d u : Context) (least : ℕ) (l m n o : Left) (t : SchemeTree) (z : Result X ItemFault) (y : X) (a : Result Sentence ResolveFault) (f : ResolveFault) (g : ItemFault) → least ≡ next c → ParametersTaken e c least l t d m z → z ≡ Ok y →
    OnRead a (λ q. SentenceRead e d least m t.formula q n) → a ≡ Err f → g ≡ of_reading f → OnTaken {X = ReadHeading} (Err g) (LeadsBy (TakesHeading e c l t) (heading_in u o))
told_conclusion_refused e c d u least l m n o t z y a f g en h is k ea eg =
    on_unread (λ q. SentenceRead e d least m t.formula q n) (LeadsBy {X = ReadHeading} (TakesHeading e c l t) (heading_in u o)) a f g ea eg k
    (λ r j. rule.conclusion_refused (scope d m) r n (letters_so e c d least l m t z y en h is) (subst (λ i. SentenceRead e d i m t.formula (Err r) n) en j))

conclusion_so : (e : Environment) (c d : Context) (least : ℕ) (m n : Left) (t : SchemeTree) (a : Result Sentence ResolveFault) (x : Sentence) → least ≡ next c → OnRead a (λ q. SentenceRead e d least m t.formula q n) → a ≡ Ok x → SentenceRead e d (next c) m t.formula (Ok x) n
conclusion_so e c d least m n t a x en k ea = subst (λ i. SentenceRead e d i m t.formula (Ok x) n) en (on_read (λ q. SentenceRead e d least m t.formula q n) a x ea k)

pub told_premises_refused : {X : Type 0} (e : Environment) (c d b u : Context) (least : ℕ) (l m n i o : Left) (t : SchemeTree) (z : Result X ItemFault) (y : X) (a : Result Sentence ResolveFault) (x : Sentence) (p : Result (List LabelledStatement) ResolveFault) (f : ResolveFault) (g : ItemFault) → least ≡ next c →
    ParametersTaken e c least l t d m z → z ≡ Ok y → OnRead a (λ q. SentenceRead e d least m t.formula q n) → a ≡ Ok x → b ≡ d → OnRead p (λ q. PropositionsRead e b least n (premises_in t.provided) q i) → p ≡ Err f → g ≡ of_reading f →
    OnTaken {X = ReadHeading} (Err g) (LeadsBy (TakesHeading e c l t) (heading_in u o))
told_premises_refused e c d b u least l m n i o t z y a x p f g en h is k ea eb j ep eg =
    on_unread (λ q. PropositionsRead e b least n (premises_in t.provided) q i) (LeadsBy {X = ReadHeading} (TakesHeading e c l t) (heading_in u o)) p f g ep eg j
    (λ r v. rule.premises_refused (scope d m) x n r i (letters_so e c d least l m t z y en h is) (conclusion_so e c d least m n t a x en k ea)
    (subst (λ w. PropositionsRead e w (next c) n (premises_in t.provided) (Err r) i) eb (subst (λ w. PropositionsRead e b w n (premises_in t.provided) (Err r) i) en v)))

pub told_heading : {X : Type 0} (e : Environment) (c d b u : Context) (least : ℕ) (l m n i : Left) (t : SchemeTree) (z : Result X ItemFault) (y : X) (a : Result Sentence ResolveFault) (x : Sentence) (p : Result (List LabelledStatement) ResolveFault) (ps : List LabelledStatement) → least ≡ next c →
    ParametersTaken e c least l t d m z → z ≡ Ok y → OnRead a (λ q. SentenceRead e d least m t.formula q n) → a ≡ Ok x → b ≡ d → OnRead p (λ q. PropositionsRead e b least n (premises_in t.provided) q i) → p ≡ Ok ps → u ≡ b →
    TakesHeading e c l t (Made [] (heading u x ps i))
told_heading e c d b u least l m n i t z y a x p ps en h is k ea eb j ep eu =
    subst (λ w. TakesHeading e c l t (Made [] (heading w x ps i))) (sym (eu ∙ eb))
    (rule.heading_taken (scope d m) x n ps i (letters_so e c d least l m t z y en h is) (conclusion_so e c d least m n t a x en k ea)
    (subst (λ w. PropositionsRead e w (next c) n (premises_in t.provided) (Ok ps) i) eb (subst (λ w. PropositionsRead e b w n (premises_in t.provided) (Ok ps) i) en (on_read (λ q. PropositionsRead e b least n (premises_in t.provided) q i) p ps ep j))))
