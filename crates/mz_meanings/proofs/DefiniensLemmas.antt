-- What the code of definientia tells.
use Rattle.std.proofs.Common.{◌≡◌, ℕ, List, [], ◌∷◌, ◌++◌, refl, sym, subst, Option, Some, None}
use Rattle.std.specs.Prelude.{Result, Ok, Err, OnOk}
use Rattle.mz_core.specs.Statement.{Statement}
use Rattle.mz_core.specs.declared.outcome.Left.{Left}
use Rattle.mz_core.specs.declared.soft_type.SoftType.{SoftType}
use Rattle.mz_context.specs.declared.context.Context.{Context}
use Rattle.mz_environment.specs.declared.environment.Environment.{Environment}
use Rattle.mz_names.specs.declared.refusal.Refusal.{Refusal}
use Rattle.mz_cited.specs.Cited.{members}
use Rattle.mz_parts.specs.Propositions.{all_read}
use Rattle.mz_parts.proofs.ReadLemmas.{read_by, refused_by, read_more}
use Rattle.mz_resolve.specs.Answers.{OnRead}
use Rattle.mz_resolve.specs.Calls.{FormulaRead}
use Rattle.mz_resolve.specs.declared.resolve_fault.ResolveFault.{ResolveFault}
use Rattle.mz_tree.specs.Trees.{FormulaData}
use Rattle.mz_tree.specs.declared.lists.Separated.{Separated}
use Rattle.mz_tree_heading.specs.declared.meaning.CaseTree.{CaseTree}
use Rattle.mz_tree_heading.specs.declared.meaning.CasesTree.{CasesTree}
use Rattle.mz_tree_heading.specs.declared.meaning.CasesTree.TheVariants as tree
use Rattle.mz_tree_heading.specs.declared.meaning.OtherwiseTree.{OtherwiseTree}
use Rattle.mz_meanings.specs.Each as ea
use Rattle.mz_meanings.specs.Each.{EachRead}
use Rattle.mz_meanings.specs.Definientia as de
use Rattle.mz_meanings.specs.Definientia.{Shape, CaseRead, made_of, OtherwiseRead, DefiniensRead, body_context}
use Rattle.mz_meanings.proofs.EachLemmas.{ok_same}

-- with `it` or without
pub told_body : (e : Environment) (c : Context) (least : ℕ) (left after : Left) (it i : Option SoftType) (f : FormulaData) (z : Result Statement ResolveFault) → it ≡ i → OnRead z (λ o. FormulaRead e (body_context c i) least left f o after) →
    OnRead z (λ o. FormulaRead e (body_context c it) least left f o after)
told_body e c least left after it i f z ei h = subst (λ j. OnRead z (λ o. FormulaRead e (body_context c j) least left f o after)) (sym ei) h

-- a case
pub told_no_definiens : {B X K D : Type 0} (Y : Type 0) (shape : Shape X K D) (reads : Left → B → Result X Refusal → Left → Type 0) (asks : Left → FormulaData → Result Statement Refusal → Left → Type 0) (left after : Left) (t : CaseTree B) (out more : List K) (z : Result X ResolveFault) (f : ResolveFault) →
    OnRead z (λ o. reads left t.body o after) → z ≡ Err f → OnRead {X = Y} (Err f) (λ o. EachRead (CaseRead shape reads asks) left (t ∷ []) out (all_read o more) after)
told_no_definiens {B} {X} {K} {D} Y shape reads asks left after t out more z f h e =
    let P : Result X Refusal → Type 0 = λ o. reads left t.body o after in
    let Q : Result Y Refusal → Type 0 = λ o. EachRead (CaseRead shape reads asks) left (t ∷ []) out (all_read o more) after in
    refused_by P Q z f h e (λ r k. ea.one_refused left after t [] out r (de.no_definiens r after k))

pub told_no_condition : {B X K D : Type 0} (Y : Type 0) (shape : Shape X K D) (reads : Left → B → Result X Refusal → Left → Type 0) (asks : Context → Left → FormulaData → Result Statement Refusal → Left → Type 0) (c d : Context) (left between after : Left) (t : CaseTree B) (out more : List K)
    (z : Result X ResolveFault) (x : X) (y : Result Statement ResolveFault) (f : ResolveFault) → OnRead z (λ o. reads left t.body o between) → z ≡ Ok x → OnOk z (d ≡ c) → OnRead y (λ o. asks d between t.condition o after) → y ≡ Err f →
    OnRead {X = Y} (Err f) (λ o. EachRead (CaseRead shape reads (asks c)) left (t ∷ []) out (all_read o more) after)
told_no_condition {B} {X} {K} {D} Y shape reads asks c d left between after t out more z x y f h e es k ey =
    let P : Result X Refusal → Type 0 = λ o. reads left t.body o between in
    let A : Result Statement Refusal → Type 0 = λ o. asks d between t.condition o after in
    let Q : Result Y Refusal → Type 0 = λ o. EachRead (CaseRead shape reads (asks c)) left (t ∷ []) out (all_read o more) after in
    refused_by A Q y f k ey (λ r j. ea.one_refused left after t [] out r
    (de.no_condition x r between after (read_by P z x h e) (subst (λ (w : Context). asks w between t.condition (Err r) after) (ok_same z x c d es e) j)))

pub told_case : {B X K D : Type 0} (shape : Shape X K D) (reads : Left → B → Result X Refusal → Left → Type 0) (asks : Context → Left → FormulaData → Result Statement Refusal → Left → Type 0) (c d : Context) (left between after : Left) (t : CaseTree B) (out more : List K) (z : Result X ResolveFault) (x : X)
    (y : Result Statement ResolveFault) (s : Statement) → OnRead z (λ o. reads left t.body o between) → z ≡ Ok x → OnOk z (d ≡ c) → OnRead y (λ o. asks d between t.condition o after) → y ≡ Ok s → more ≡ out ++ shape.under x s ∷ [] →
    EachRead (CaseRead shape reads (asks c)) left (t ∷ []) out (Ok more) after
told_case {B} {X} {K} {D} shape reads asks c d left between after t out more z x y s h e es k ey em =
    let P : Result X Refusal → Type 0 = λ o. reads left t.body o between in
    let A : Result Statement Refusal → Type 0 = λ o. asks d between t.condition o after in
    subst (λ (ks : List K). EachRead (CaseRead shape reads (asks c)) left (t ∷ []) out (Ok ks) after) (sym em)
    (ea.one_read left after after t [] out (shape.under x s) (Ok (out ++ shape.under x s ∷ []))
    (de.both_read x s between after (read_by P z x h e) (subst (λ (w : Context). asks w between t.condition (Ok s) after) (ok_same z x c d es e) (read_by A y s k ey))) (ea.no_more after (out ++ shape.under x s ∷ [])))

-- `otherwise`
pub told_no_otherwise : {B X K D : Type 0} (shape : Shape X K D) (reads : Left → B → Result X Refusal → Left → Type 0) (ks : List K) (left : Left) (t : Option (OtherwiseTree B)) → t ≡ None → OtherwiseRead shape reads ks left t (Ok (shape.by_cases ks)) left
told_no_otherwise shape reads ks left t e = subst (λ u. OtherwiseRead shape reads ks left u (Ok (shape.by_cases ks)) left) (sym e) de.no_otherwise

pub told_otherwise_refused : {B X K D : Type 0} (shape : Shape X K D) (reads : Left → B → Result X Refusal → Left → Type 0) (ks : List K) (left after : Left) (t : Option (OtherwiseTree B)) (u : OtherwiseTree B) (z : Result X ResolveFault) (f : ResolveFault) → t ≡ Some u →
    OnRead z (λ o. reads left u.body o after) → z ≡ Err f → OnRead {X = D} (Err f) (λ o. OtherwiseRead shape reads ks left t o after)
told_otherwise_refused {B} {X} {K} {D} shape reads ks left after t u z f et h e =
    let P : Result X Refusal → Type 0 = λ o. reads left u.body o after in
    let Q : Result D Refusal → Type 0 = λ o. OtherwiseRead shape reads ks left t o after in
    refused_by P Q z f h e (λ r k. subst (λ v. OtherwiseRead shape reads ks left v (Err r) after) (sym et) (de.otherwise_read u (Err r) after k))

pub told_otherwise : {B X K D : Type 0} (shape : Shape X K D) (reads : Left → B → Result X Refusal → Left → Type 0) (ks : List K) (left after : Left) (t : Option (OtherwiseTree B)) (u : OtherwiseTree B) (z : Result X ResolveFault) (x : X) → t ≡ Some u →
    OnRead z (λ o. reads left u.body o after) → z ≡ Ok x → OtherwiseRead shape reads ks left t (Ok (shape.with_otherwise ks x)) after
told_otherwise {B} {X} {K} {D} shape reads ks left after t u z x et h e =
    let P : Result X Refusal → Type 0 = λ o. reads left u.body o after in
    subst (λ v. OtherwiseRead shape reads ks left v (Ok (shape.with_otherwise ks x)) after) (sym et) (de.otherwise_read u (Ok x) after (read_by P z x h e))

-- a definiens alone
pub told_alone_refused : {B X K D : Type 0} (shape : Shape X K D) (reads : Left → B → Result X Refusal → Left → Type 0) (asks : Left → FormulaData → Result Statement Refusal → Left → Type 0) (left after : Left) (b : B) (z : Result X ResolveFault) (f : ResolveFault) →
    OnRead z (λ o. reads left b o after) → z ≡ Err f → OnRead {X = D} (Err f) (λ o. DefiniensRead shape reads asks left (tree.Plain b) o after)
told_alone_refused {B} {X} {K} {D} shape reads asks left after b z f h e =
    let P : Result X Refusal → Type 0 = λ o. reads left b o after in
    let Q : Result D Refusal → Type 0 = λ o. DefiniensRead shape reads asks left (tree.Plain b) o after in
    refused_by P Q z f h e (λ r k. de.alone_read b (Err r) after k)

pub told_alone : {B X K D : Type 0} (shape : Shape X K D) (reads : Left → B → Result X Refusal → Left → Type 0) (asks : Left → FormulaData → Result Statement Refusal → Left → Type 0) (left after : Left) (b : B) (z : Result X ResolveFault) (x : X) →
    OnRead z (λ o. reads left b o after) → z ≡ Ok x → DefiniensRead shape reads asks left (tree.Plain b) (Ok (shape.alone x)) after
told_alone {B} {X} {K} {D} shape reads asks left after b z x h e =
    let P : Result X Refusal → Type 0 = λ o. reads left b o after in
    de.alone_read b (Ok x) after (read_by P z x h e)

-- cases
pub told_cases_refused : {B X K D : Type 0} (shape : Shape X K D) (reads : Left → B → Result X Refusal → Left → Type 0) (asks : Left → FormulaData → Result Statement Refusal → Left → Type 0) (left after : Left) (cs : Separated (CaseTree B)) (t : Option (OtherwiseTree B)) (z : Result (List K) ResolveFault) (f : ResolveFault) →
    OnRead z (λ o. EachRead (CaseRead shape reads asks) left (members cs) [] o after) → z ≡ Err f → OnRead {X = D} (Err f) (λ o. DefiniensRead shape reads asks left (tree.Cases cs t) o after)
told_cases_refused {B} {X} {K} {D} shape reads asks left after cs t z f h e =
    let P : Result (List K) Refusal → Type 0 = λ o. EachRead (CaseRead shape reads asks) left (members cs) [] o after in
    let Q : Result D Refusal → Type 0 = λ o. DefiniensRead shape reads asks left (tree.Cases cs t) o after in
    refused_by P Q z f h e (λ r k. de.cases_refused cs t r after k)

pub told_cases : {B X K D : Type 0} (shape : Shape X K D) (reads : Context → Left → B → Result X Refusal → Left → Type 0) (asks : Context → Left → FormulaData → Result Statement Refusal → Left → Type 0) (c d : Context) (left between after : Left) (cs : Separated (CaseTree B)) (t : Option (OtherwiseTree B))
    (z : Result (List K) ResolveFault) (ks : List K) (y : Result D ResolveFault) → OnRead z (λ o. EachRead (CaseRead shape (reads c) (asks c)) left (members cs) [] o between) → z ≡ Ok ks → OnOk z (d ≡ c) → OnRead y (λ o. OtherwiseRead shape (reads d) ks between t o after) →
    OnRead y (λ o. DefiniensRead shape (reads c) (asks c) left (tree.Cases cs t) o after)
told_cases {B} {X} {K} {D} shape reads asks c d left between after cs t z ks y h e es k =
    let P : Result (List K) Refusal → Type 0 = λ o. EachRead (CaseRead shape (reads c) (asks c)) left (members cs) [] o between in
    let O : Result D Refusal → Type 0 = λ o. OtherwiseRead shape (reads d) ks between t o after in
    let Q : Result D Refusal → Type 0 = λ o. DefiniensRead shape (reads c) (asks c) left (tree.Cases cs t) o after in
    read_more O Q y k (λ o j. de.cases_read cs t ks o between after (read_by P z ks h e) (subst (λ (w : Context). OtherwiseRead shape (reads w) ks between t o after) (ok_same z ks c d es e) j))

-- either
pub told_tree : {B X K D : Type 0} (shape : Shape X K D) (reads : Left → B → Result X Refusal → Left → Type 0) (asks : Left → FormulaData → Result Statement Refusal → Left → Type 0) (left after : Left) (t u : CasesTree B) (z : Result D ResolveFault) → t ≡ u →
    OnRead z (λ o. DefiniensRead shape reads asks left u o after) → OnRead z (λ o. DefiniensRead shape reads asks left t o after)
told_tree shape reads asks left after t u z e h = subst (λ v. OnRead z (λ o. DefiniensRead shape reads asks left v o after)) (sym e) h
