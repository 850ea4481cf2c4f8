-- What is read of a definiens has what is read of each of its parts.
use Rattle.std.proofs.Common.{◌≡◌, Bool, true, List, [], ◌∷◌, ◌++◌, map, refl, Option}
use Rattle.std.specs.List.{list_all}
use Rattle.std.specs.Prelude.{Result, Ok, Err}
use Rattle.std.proofs.lemmas.Bool.{and_parts, and_from}
use Rattle.mz_core.specs.Statement.{Statement}
use Rattle.mz_core.specs.declared.outcome.Left.{Left}
use Rattle.mz_meanings.specs.Each as ea
use Rattle.mz_meanings.specs.Each.{EachRead}
use Rattle.mz_meanings.specs.Definientia as de
use Rattle.mz_meanings.specs.Definientia.{Shape, CaseRead, made_of, OtherwiseRead, DefiniensRead}
use Rattle.mz_names.specs.declared.refusal.Refusal.{Refusal}
use Rattle.mz_tree.specs.Trees.{FormulaData}
use Rattle.mz_tree_heading.specs.declared.meaning.CaseTree.{CaseTree}
use Rattle.mz_tree_heading.specs.declared.meaning.CasesTree.{CasesTree}
use Rattle.mz_tree_heading.specs.declared.meaning.OtherwiseTree.{OtherwiseTree}

abbrev pub IsGood : {X : Type 0} → (X → Bool) → Result X Refusal → Type 0
IsGood test (Ok x) = test x ≡ true
IsGood test (Err r) = Unit {0}

abbrev AreGood : {K : Type 0} → (K → Bool) → Result (List K) Refusal → Type 0
AreGood test (Ok ks) = list_all test ks ≡ true
AreGood test (Err r) = Unit {0}

-- tests of a definiens, of a condition and of a case, and of what is made of these
pub record HasGoodParts {B X K D : Type 0} (shape : Shape X K D) (reads : Left → B → Result X Refusal → Left → Type 0) (asks : Left → FormulaData → Result Statement Refusal → Left → Type 0) (body : X → Bool) (condition : Statement → Bool) (member : K → Bool) (whole : D → Bool) : Type 0 where
  pub body_is : (left after : Left) (b : B) (x : X) → reads left b (Ok x) after → body x ≡ true
  pub condition_is : (left after : Left) (f : FormulaData) (s : Statement) → asks left f (Ok s) after → condition s ≡ true
  pub case_is : (x : X) (s : Statement) → body x ≡ true → condition s ≡ true → member (shape.under x s) ≡ true
  pub alone_is : (x : X) → body x ≡ true → whole (shape.alone x) ≡ true
  pub by_cases_is : (ks : List K) → list_all member ks ≡ true → whole (shape.by_cases ks) ≡ true
  pub with_otherwise_is : (ks : List K) (x : X) → list_all member ks ≡ true → body x ≡ true → whole (shape.with_otherwise ks x) ≡ true

push_good : {K : Type 0} (test : K → Bool) (ks : List K) (k : K) → list_all test ks ≡ true → test k ≡ true → list_all test (ks ++ k ∷ []) ≡ true
push_good test [] k h e = and_from (test k) true e refl
push_good test (j ∷ ks) k h e = and_from (test j) (list_all test (ks ++ k ∷ [])) (and_parts (test j) (list_all test ks) h).0 (push_good test ks k (and_parts (test j) (list_all test ks) h).1 e)

pub all_mapped : {J K : Type 0} (test : K → Bool) (f : J → K) (js : List J) → list_all (λ j. test (f j)) js ≡ true → list_all test (map f js) ≡ true
all_mapped test f [] h = refl
all_mapped test f (j ∷ js) h = and_from (test (f j)) (list_all test (map f js)) (and_parts (test (f j)) (list_all (λ i. test (f i)) js) h).0 (all_mapped test f js (and_parts (test (f j)) (list_all (λ i. test (f i)) js) h).1)

body_good : {B X : Type 0} (reads : Left → B → Result X Refusal → Left → Type 0) (body : X → Bool) → ((left after : Left) (b : B) (x : X) → reads left b (Ok x) after → body x ≡ true) → (left after : Left) (b : B) (o : Result X Refusal) → reads left b o after → IsGood body o
body_good reads body is left after b (Ok x) h = is left after b x h
body_good reads body is left after b (Err r) h = tt

made_good : {X D : Type 0} (f : X → D) (body : X → Bool) (whole : D → Bool) → ((x : X) → body x ≡ true → whole (f x) ≡ true) → (o : Result X Refusal) → IsGood body o → IsGood whole (made_of f o)
made_good f body whole is (Ok x) h = is x h
made_good f body whole is (Err r) h = tt

case_good : {B X K D : Type 0} (shape : Shape X K D) (reads : Left → B → Result X Refusal → Left → Type 0) (asks : Left → FormulaData → Result Statement Refusal → Left → Type 0) (body : X → Bool) (condition : Statement → Bool) (member : K → Bool) (whole : D → Bool) →
    HasGoodParts shape reads asks body condition member whole → (left after : Left) (t : CaseTree B) (o : Result K Refusal) → CaseRead shape reads asks left t o after → IsGood member o
case_good shape reads asks body condition member whole g left _ t _ (de.no_definiens r after h) = tt
case_good shape reads asks body condition member whole g left _ t _ (de.no_condition x r between after h k) = tt
case_good shape reads asks body condition member whole g left _ t _ (de.both_read x s between after h k) = g.case_is x s (g.body_is left between t.body x h) (g.condition_is between after t.condition s k)

cases_good : {B X K D : Type 0} (shape : Shape X K D) (reads : Left → B → Result X Refusal → Left → Type 0) (asks : Left → FormulaData → Result Statement Refusal → Left → Type 0) (body : X → Bool) (condition : Statement → Bool) (member : K → Bool) (whole : D → Bool) →
    HasGoodParts shape reads asks body condition member whole → {left after : Left} {ts : List (CaseTree B)} {before : List K} {o : Result (List K) Refusal} → list_all member before ≡ true → EachRead (CaseRead shape reads asks) left ts before o after → AreGood member o
cases_good shape reads asks body condition member whole g all (ea.no_more left before) = all
cases_good shape reads asks body condition member whole g all (ea.one_refused left after t ts before r h) = tt
cases_good shape reads asks body condition member whole g all (ea.one_read left between after t ts before k o h j) =
    cases_good shape reads asks body condition member whole g (push_good member before k all (case_good shape reads asks body condition member whole g left between t (Ok k) h)) j

otherwise_good : {B X K D : Type 0} (shape : Shape X K D) (reads : Left → B → Result X Refusal → Left → Type 0) (asks : Left → FormulaData → Result Statement Refusal → Left → Type 0) (body : X → Bool) (condition : Statement → Bool) (member : K → Bool) (whole : D → Bool) →
    HasGoodParts shape reads asks body condition member whole → (ks : List K) (left after : Left) (t : Option (OtherwiseTree B)) (o : Result D Refusal) → list_all member ks ≡ true → OtherwiseRead shape reads ks left t o after → IsGood whole o
otherwise_good shape reads asks body condition member whole g ks left _ _ _ all de.no_otherwise = g.by_cases_is ks all
otherwise_good shape reads asks body condition member whole g ks left _ _ _ all (de.otherwise_read t o after h) =
    made_good (shape.with_otherwise ks) body whole (λ x e. g.with_otherwise_is ks x all e) o (body_good reads body g.body_is left after t.body o h)

pub definiens_good : {B X K D : Type 0} (shape : Shape X K D) (reads : Left → B → Result X Refusal → Left → Type 0) (asks : Left → FormulaData → Result Statement Refusal → Left → Type 0) (body : X → Bool) (condition : Statement → Bool) (member : K → Bool) (whole : D → Bool) →
    HasGoodParts shape reads asks body condition member whole → (left after : Left) (t : CasesTree B) (o : Result D Refusal) → DefiniensRead shape reads asks left t o after → IsGood whole o
definiens_good shape reads asks body condition member whole g left _ _ _ (de.alone_read b o after h) = made_good shape.alone body whole g.alone_is o (body_good reads body g.body_is left after b o h)
definiens_good shape reads asks body condition member whole g left _ _ _ (de.cases_refused cs t r after h) = tt
definiens_good shape reads asks body condition member whole g left _ _ _ (de.cases_read cs t ks o between after h k) =
    otherwise_good shape reads asks body condition member whole g ks between after t o (cases_good shape reads asks body condition member whole g refl h) k
