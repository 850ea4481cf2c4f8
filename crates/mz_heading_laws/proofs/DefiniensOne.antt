-- What a definiens is read to, and what is left behind it, is determined where its parts are.
use Rattle.std.proofs.Common.{List, [], ◌∷◌, ◌++◌, refl, Option, Some, None}
use Rattle.std.specs.Prelude.{Result, Ok, Err}
use Rattle.mz_core.specs.Statement.{Statement}
use Rattle.mz_core.specs.declared.outcome.Left.{Left}
use Rattle.mz_cited.specs.Cited.{members}
use Rattle.mz_justified_laws.specs.Determined.{IsDetermined}
use Rattle.mz_justified_laws.proofs.Sequence.{determined_by, IsValue, determined_value, ThenRead, determined_then, as_it_is}
use Rattle.mz_meanings.specs.Each as ea
use Rattle.mz_meanings.specs.Each.{EachRead}
use Rattle.mz_meanings.specs.Definientia as de
use Rattle.mz_meanings.specs.Definientia.{Shape, CaseRead, made_of, OtherwiseRead, DefiniensRead}
use Rattle.mz_names.specs.declared.refusal.Refusal.{Refusal}
use Rattle.mz_tree.specs.Trees.{FormulaData}
use Rattle.mz_tree_heading.specs.declared.meaning.CaseTree.{CaseTree}
use Rattle.mz_tree_heading.specs.declared.meaning.CasesTree.{CasesTree}
use Rattle.mz_tree_heading.specs.declared.meaning.CasesTree.TheVariants as tree
use Rattle.mz_tree_heading.specs.declared.meaning.OtherwiseTree.{OtherwiseTree}

-- one after another

abbrev EachNext : {T K : Type 0} → (Left → T → Result K Refusal → Left → Type 0) → List T → List K → K → Left → Result (List K) Refusal → Left → Type 0
EachNext one ts before x l o a = EachRead one l ts (before ++ x ∷ []) o a

abbrev EachAs : {T K : Type 0} → (Left → T → Result K Refusal → Left → Type 0) → Left → List T → List K → Result (List K) Refusal → Left → Type 0
EachAs one left [] before o a = IsValue (Ok before) left o a
EachAs one left (t ∷ ts) before o a = ThenRead (one left t) as_it_is (EachNext one ts before) o a

each_as : {T K : Type 0} (one : Left → T → Result K Refusal → Left → Type 0) (left : Left) (ts : List T) (before : List K) (o : Result (List K) Refusal) (a : Left) → EachRead one left ts before o a → EachAs one left ts before o a
each_as one left ts before o a (ea.no_more _ _) = (refl, refl)
each_as one left ts before o a (ea.one_refused _ after t us _ r h) = (Err r, after, h, refl)
each_as one left ts before o a (ea.one_read _ between after t us _ x p h k) = (Ok x, between, h, k)

pub one_each : {T K : Type 0} (one : Left → T → Result K Refusal → Left → Type 0) → ((l : Left) (t : T) → IsDetermined (one l t)) → (ts : List T) (left : Left) (before : List K) → IsDetermined (EachRead one left ts before)
one_each one is [] left before = determined_by (EachRead one left [] before) (EachAs one left [] before) (each_as one left [] before) (determined_value (Ok before) left)
one_each {T} {K} one is (t ∷ ts) left before =
    determined_by (EachRead one left (t ∷ ts) before) (EachAs one left (t ∷ ts) before) (each_as one left (t ∷ ts) before)
    (determined_then (one left t) as_it_is (EachNext one ts before) (is left t) (λ (x : K) (l : Left). one_each one is ts l (before ++ x ∷ [])))

-- a case

abbrev UnderValue : {X K D : Type 0} → Shape X K D → X → Statement → Left → Result K Refusal → Left → Type 0
UnderValue shape x s l o a = IsValue (Ok (shape.under x s)) l o a

abbrev CaseNext : {X K D : Type 0} → Shape X K D → (Left → FormulaData → Result Statement Refusal → Left → Type 0) → FormulaData → X → Left → Result K Refusal → Left → Type 0
CaseNext shape asks f x l o a = ThenRead (asks l f) as_it_is (UnderValue shape x) o a

abbrev CaseAs : {B X K D : Type 0} → Shape X K D → (Left → B → Result X Refusal → Left → Type 0) → (Left → FormulaData → Result Statement Refusal → Left → Type 0) → Left → CaseTree B → Result K Refusal → Left → Type 0
CaseAs shape reads asks left t o a = ThenRead (reads left t.body) as_it_is (CaseNext shape asks t.condition) o a

case_as : {B X K D : Type 0} (shape : Shape X K D) (reads : Left → B → Result X Refusal → Left → Type 0) (asks : Left → FormulaData → Result Statement Refusal → Left → Type 0) (left : Left) (t : CaseTree B) (o : Result K Refusal) (a : Left) → CaseRead shape reads asks left t o a → CaseAs shape reads asks left t o a
case_as shape reads asks left t _ _ (de.no_definiens r after h) = (Err r, after, h, refl)
case_as shape reads asks left t _ _ (de.no_condition x r between after h k) = (Ok x, between, h, (Err r, after, k, refl))
case_as shape reads asks left t _ _ (de.both_read x s between after h k) = (Ok x, between, h, (Ok s, after, k, (refl, refl)))

one_case : {B X K D : Type 0} (shape : Shape X K D) (reads : Left → B → Result X Refusal → Left → Type 0) (asks : Left → FormulaData → Result Statement Refusal → Left → Type 0) → ((l : Left) (b : B) → IsDetermined (reads l b)) → ((l : Left) (f : FormulaData) → IsDetermined (asks l f)) →
    (left : Left) (t : CaseTree B) → IsDetermined (CaseRead shape reads asks left t)
one_case {B} {X} {K} {D} shape reads asks body condition left t =
    determined_by (CaseRead shape reads asks left t) (CaseAs shape reads asks left t) (case_as shape reads asks left t)
    (determined_then (reads left t.body) as_it_is (CaseNext shape asks t.condition) (body left t.body)
    (λ (x : X) (l : Left). determined_then (asks l t.condition) as_it_is (UnderValue shape x) (condition l t.condition) (λ (s : Statement) (m : Left). determined_value (Ok (shape.under x s)) m)))

-- what is made of what is read

abbrev MadeValue : {X D : Type 0} → (X → D) → X → Left → Result D Refusal → Left → Type 0
MadeValue f x l o a = IsValue (Ok (f x)) l o a

abbrev pub MadeAs : {X D : Type 0} → (X → D) → (Result X Refusal → Left → Type 0) → Result D Refusal → Left → Type 0
MadeAs f part o a = ThenRead part as_it_is (MadeValue f) o a

pub made_as : {X D : Type 0} (f : X → D) (part : Result X Refusal → Left → Type 0) (o : Result X Refusal) (a : Left) → part o a → MadeAs f part (made_of f o) a
made_as f part (Ok x) a h = (Ok x, a, h, (refl, refl))
made_as f part (Err r) a h = (Err r, a, h, refl)

pub one_made : {X D : Type 0} (f : X → D) (part : Result X Refusal → Left → Type 0) → IsDetermined part → IsDetermined (MadeAs f part)
one_made {X} {D} f part is = determined_then part as_it_is (MadeValue f) is (λ (x : X) (l : Left). determined_value (Ok (f x)) l)

-- `otherwise`

abbrev OtherwiseAs : {B X K D : Type 0} → Shape X K D → (Left → B → Result X Refusal → Left → Type 0) → List K → Left → Option (OtherwiseTree B) → Result D Refusal → Left → Type 0
OtherwiseAs shape reads ks left None o a = IsValue (Ok (shape.by_cases ks)) left o a
OtherwiseAs shape reads ks left (Some t) o a = MadeAs (shape.with_otherwise ks) (reads left t.body) o a

otherwise_as : {B X K D : Type 0} (shape : Shape X K D) (reads : Left → B → Result X Refusal → Left → Type 0) (ks : List K) (left : Left) (t : Option (OtherwiseTree B)) (o : Result D Refusal) (a : Left) → OtherwiseRead shape reads ks left t o a → OtherwiseAs shape reads ks left t o a
otherwise_as shape reads ks left _ _ _ de.no_otherwise = (refl, refl)
otherwise_as shape reads ks left _ _ _ (de.otherwise_read t o after h) = made_as (shape.with_otherwise ks) (reads left t.body) o after h

otherwise_determined : {B X K D : Type 0} (shape : Shape X K D) (reads : Left → B → Result X Refusal → Left → Type 0) → ((l : Left) (b : B) → IsDetermined (reads l b)) → (ks : List K) (left : Left) (t : Option (OtherwiseTree B)) → IsDetermined (OtherwiseAs shape reads ks left t)
otherwise_determined shape reads body ks left None = determined_value (Ok (shape.by_cases ks)) left
otherwise_determined shape reads body ks left (Some t) = one_made (shape.with_otherwise ks) (reads left t.body) (body left t.body)

one_otherwise : {B X K D : Type 0} (shape : Shape X K D) (reads : Left → B → Result X Refusal → Left → Type 0) → ((l : Left) (b : B) → IsDetermined (reads l b)) → (ks : List K) (left : Left) (t : Option (OtherwiseTree B)) → IsDetermined (OtherwiseRead shape reads ks left t)
one_otherwise shape reads body ks left t = determined_by (OtherwiseRead shape reads ks left t) (OtherwiseAs shape reads ks left t) (otherwise_as shape reads ks left t) (otherwise_determined shape reads body ks left t)

-- a definiens

abbrev BehindCases : {B X K D : Type 0} → Shape X K D → (Left → B → Result X Refusal → Left → Type 0) → Option (OtherwiseTree B) → List K → Left → Result D Refusal → Left → Type 0
BehindCases shape reads t ks l o a = OtherwiseRead shape reads ks l t o a

abbrev DefiniensAs : {B X K D : Type 0} → Shape X K D → (Left → B → Result X Refusal → Left → Type 0) → (Left → FormulaData → Result Statement Refusal → Left → Type 0) → Left → CasesTree B → Result D Refusal → Left → Type 0
DefiniensAs shape reads asks left (tree.Plain b) o a = MadeAs shape.alone (reads left b) o a
DefiniensAs shape reads asks left (tree.Cases cs t) o a = ThenRead (EachRead (CaseRead shape reads asks) left (members cs) []) as_it_is (BehindCases shape reads t) o a

definiens_as : {B X K D : Type 0} (shape : Shape X K D) (reads : Left → B → Result X Refusal → Left → Type 0) (asks : Left → FormulaData → Result Statement Refusal → Left → Type 0) (left : Left) (t : CasesTree B) (o : Result D Refusal) (a : Left) → DefiniensRead shape reads asks left t o a →
    DefiniensAs shape reads asks left t o a
definiens_as shape reads asks left _ _ _ (de.alone_read b o after h) = made_as shape.alone (reads left b) o after h
definiens_as shape reads asks left _ _ _ (de.cases_refused cs t r after h) = (Err r, after, h, refl)
definiens_as shape reads asks left _ _ _ (de.cases_read cs t ks o between after h k) = (Ok ks, between, h, k)

definiens_determined : {B X K D : Type 0} (shape : Shape X K D) (reads : Left → B → Result X Refusal → Left → Type 0) (asks : Left → FormulaData → Result Statement Refusal → Left → Type 0) → ((l : Left) (b : B) → IsDetermined (reads l b)) →
    ((l : Left) (f : FormulaData) → IsDetermined (asks l f)) → (left : Left) (t : CasesTree B) → IsDetermined (DefiniensAs shape reads asks left t)
definiens_determined shape reads asks body condition left (tree.Plain b) = one_made shape.alone (reads left b) (body left b)
definiens_determined {B} {X} {K} {D} shape reads asks body condition left (tree.Cases cs t) =
    determined_then (EachRead (CaseRead shape reads asks) left (members cs) []) as_it_is (BehindCases shape reads t) (one_each (CaseRead shape reads asks) (λ l u. one_case shape reads asks body condition l u) (members cs) left [])
    (λ (ks : List K) (l : Left). one_otherwise shape reads body ks l t)

pub one_definiens : {B X K D : Type 0} (shape : Shape X K D) (reads : Left → B → Result X Refusal → Left → Type 0) (asks : Left → FormulaData → Result Statement Refusal → Left → Type 0) → ((l : Left) (b : B) → IsDetermined (reads l b)) → ((l : Left) (f : FormulaData) → IsDetermined (asks l f)) →
    (left : Left) (t : CasesTree B) → IsDetermined (DefiniensRead shape reads asks left t)
one_definiens shape reads asks body condition left t =
    determined_by (DefiniensRead shape reads asks left t) (DefiniensAs shape reads asks left t) (definiens_as shape reads asks left t) (definiens_determined shape reads asks body condition left t)
