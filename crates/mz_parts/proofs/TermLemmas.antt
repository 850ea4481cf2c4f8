-- What the code of `reconsider` and of iterative equalities tells.
use Rattle.std.proofs.Common.{◌≡◌, ℕ, List, [], ◌∷◌, ◌++◌, length, map, refl, sym, ap, ◌∙◌, subst, Box}
use Rattle.std.proofs.lemmas.List.{append-nil, append_assoc}
use Rattle.std.specs.Prelude.{Result, Ok, Err, Vec}
use Rattle.std.specs.declared.alloc.Global.{Global}
use Rattle.mz_logic.specs.Term.{Term}
use Rattle.mz_core.specs.declared.outcome.Left.{Left}
use Rattle.mz_core.specs.declared.soft_type.SoftType.{SoftType}
use Rattle.mz_context.specs.declared.context.Context.{Context}
use Rattle.mz_environment.specs.declared.environment.Environment.{Environment}
use Rattle.mz_names.specs.Closing.{with_variables}
use Rattle.mz_names.specs.declared.refusal.Refusal.{Refusal}
use Rattle.mz_names.specs.declared.variable.Variable.{Variable}
use Rattle.mz_fits.proofs.FitLemmas.{empty}
use Rattle.mz_choice.proofs.CoverLemmas.{told_left, grown_itself, grown_kept, grown_more}
use Rattle.mz_tree.specs.Trees.{TermData, TypeData, PieceData, RunTerm, OperandPiece, IdentifierBase, pieces_of, prefixs_of}
use Rattle.mz_tree.specs.Views.{term_of, piece_of, operand_of, prefix_of, base_of}
use Rattle.mz_tree.specs.declared.chain.Next.{Next}
use Rattle.mz_tree.specs.declared.lists.Separated.{Separated}
use Rattle.mz_tree.specs.declared.nodes.BaseNode.{BaseNode}
use Rattle.mz_tree.specs.declared.nodes.BaseNode.TheVariants as bases
use Rattle.mz_tree.specs.declared.nodes.OperandNode.{OperandNode}
use Rattle.mz_tree.specs.declared.nodes.PieceNode.{PieceNode}
use Rattle.mz_tree.specs.declared.nodes.PieceNode.TheVariants as pieces
use Rattle.mz_tree.specs.declared.nodes.TermNode.{TermNode}
use Rattle.mz_tree.specs.declared.word.Comma.{Comma}
use Rattle.mz_tree.specs.declared.word.Word.{Word}
use Rattle.mz_tree.proofs.Views.{term_of-is, operand_of-is, piece_of-operand, base_of-identifier}
use Rattle.mz_cited.specs.Cited.{members, tree_of}
use Rattle.mz_steps.specs.declared.read_step.Definition.{Definition}
use Rattle.mz_resolve.specs.Answers.{OnRead}
use Rattle.mz_resolve.specs.Calls.{TermRead, TypeRead}
use Rattle.mz_resolve.specs.declared.resolve_fault.ResolveFault.{ResolveFault}
use Rattle.mz_tree_proof.specs.declared.equality_step.EqualityStepTree.{EqualityStepTree}
use Rattle.mz_tree_proof.specs.declared.introduction.NamedTermTree.{NamedTermTree}
use Rattle.mz_tree_proof.specs.declared.introduction.RetypedTree.{RetypedTree}
use Rattle.mz_tree_proof.specs.declared.introduction.RetypedTree.TheVariants.{Itself, Named}
use Rattle.mz_parts.specs.Propositions.{all_read}
use Rattle.mz_parts.specs.Named as na
use Rattle.mz_parts.specs.Named.{definition, TermsReadBehind, TermsRead, identifier_term, retyped_term, retyped_name, retyped, RetypedRead, side_of, SidesRead}
use Rattle.mz_parts.proofs.ReadLemmas.{read_by, refused_by, read_more, ok-inj, err-ok}

-- an identifier as a term
pub told_operand : (o : OperandNode) (w x : Word) → o.prefixes.items ≡ [] → o.base.value ≡ bases.Identifier w → w ≡ x → OperandPiece (operand_of o).prefixes (operand_of o).base ≡ OperandPiece (prefixs_of []) (IdentifierBase x)
told_operand o w x ep eb ew =
    ap (λ y. OperandPiece y.prefixes y.base) (operand_of-is o) ∙ (ap (λ ps. OperandPiece (prefixs_of (map prefix_of ps)) (base_of o.base.value)) ep ∙ ap (λ y. OperandPiece (prefixs_of []) y) (ap base_of eb ∙ (base_of-identifier w ∙ ap IdentifierBase ew)))

pub ruleset operand_rules = (told_operand)

pub told_identifier : (t : TermData) (n : TermNode) (o : OperandNode) (w : Word) → t ≡ term_of n → n.first ≡ pieces.Operand o → n.more.items ≡ [] → OperandPiece (operand_of o).prefixes (operand_of o).base ≡ OperandPiece (prefixs_of []) (IdentifierBase w) → t ≡ identifier_term w
told_identifier t n o w en ef em eo =
    en ∙ (term_of-is n ∙ (ap (λ ps. RunTerm (piece_of n.first) (pieces_of (map piece_of ps))) em ∙ ap (λ y. RunTerm y (pieces_of [])) (ap piece_of ef ∙ (piece_of-operand o ∙ eo))))

pub ruleset identifier_rules = (told_identifier)

-- what is retyped
pub told_itself : (e : Environment) (c : Context) (least : ℕ) (left after : Left) (x : RetypedTree) (w : Word) (t : TermData) (p : Result Term ResolveFault) → x ≡ Itself w → t ≡ identifier_term w → OnRead p (λ o. TermRead e c least left t o after) → OnRead p (λ o. TermRead e c least left (retyped_term x) o after)
told_itself e c least left after x w t p ex et h = subst (λ y. OnRead p (λ o. TermRead e c least left y o after)) (et ∙ sym (ap retyped_term ex)) h

pub told_term : (e : Environment) (c : Context) (least : ℕ) (left after : Left) (x : RetypedTree) (n : NamedTermTree) (p : Result Term ResolveFault) → x ≡ Named n → OnRead p (λ o. TermRead e c least left n.term o after) → OnRead p (λ o. TermRead e c least left (retyped_term x) o after)
told_term e c least left after x n p ex h = subst (λ y. OnRead p (λ o. TermRead e c least left y o after)) (sym (ap retyped_term ex)) h

pub ruleset retyped_rules = (told_itself, told_term)

-- one term
pub told_one : (e : Environment) (c : Context) (least : ℕ) (left after : Left) (t : TermData) (out more : List Term) (p : Result Term ResolveFault) (u : Term) →
    OnRead p (λ o. TermRead e c least left t o after) → p ≡ Ok u → more ≡ out ++ u ∷ [] → TermsReadBehind e c least left (t ∷ []) out (Ok more) after
told_one e c least left after t out more p u h ep em =
    let T : Result Term Refusal → Type 0 = λ o. TermRead e c least left t o after in
    let P : List Term → Type 0 = λ xs. TermsReadBehind e c least left (t ∷ []) out (Ok xs) after in
    subst P (sym em) (na.one_read left after after t [] out u (Ok (out ++ u ∷ [])) (read_by T p u h ep) (na.no_more after (out ++ u ∷ [])))

pub told_one_refused : (Y : Type 0) (e : Environment) (c : Context) (least : ℕ) (left after : Left) (t : TermData) (out more : List Term) (p : Result Term ResolveFault) (f : ResolveFault) →
    OnRead p (λ o. TermRead e c least left t o after) → p ≡ Err f → OnRead {X = Y} (Err f) (λ o. TermsReadBehind e c least left (t ∷ []) out (all_read o more) after)
told_one_refused Y e c least left after t out more p f h ep =
    let T : Result Term Refusal → Type 0 = λ o. TermRead e c least left t o after in
    let Q : Result Y Refusal → Type 0 = λ o. TermsReadBehind e c least left (t ∷ []) out (all_read o more) after in
    refused_by T Q p f h ep (λ r k. na.one_refused left after t [] out r k)

pub ruleset one_rules = (told_one, told_one_refused)

-- one after another
ended : (e : Environment) (c : Context) (least : ℕ) (left after : Left) (out : List Term) (o : Result (List Term) Refusal) → TermsReadBehind e c least left [] out o after → (o ≡ Ok out) × (after ≡ left)
ended e c least left _ out _ (na.no_more _ _) = (refl, refl)

one_then : (e : Environment) (c : Context) (least : ℕ) (left between after : Left) (t : TermData) (ts : List TermData) (out more : List Term) (o : Result (List Term) Refusal) →
    TermsReadBehind e c least left (t ∷ []) out (Ok more) between → TermsReadBehind e c least between ts more o after → TermsReadBehind e c least left (t ∷ ts) out o after
one_then e c least left between after t ts out more o (na.one_read _ middle _ _ _ _ u _ h k) g =
    let is = ended e c least middle between (out ++ u ∷ []) (Ok more) k in
    let same : more ≡ out ++ u ∷ [] = ok-inj more (out ++ u ∷ []) is.0 in
    na.one_read left middle after t ts out u o h (subst (λ l. TermsReadBehind e c least l ts (out ++ u ∷ []) o after) is.1 (subst (λ xs. TermsReadBehind e c least between ts xs o after) same g))

one_alone : (e : Environment) (c : Context) (least : ℕ) (left after : Left) (t : TermData) (ts : List TermData) (out : List Term) (r : Refusal) →
    TermsReadBehind e c least left (t ∷ []) out (Err r) after → TermsReadBehind e c least left (t ∷ ts) out (Err r) after
one_alone e c least left after t ts out r (na.one_refused _ _ _ _ _ _ h) = na.one_refused left after t ts out r h
one_alone e c least left after t ts out r (na.one_read _ middle _ _ _ _ u _ h k) =
    let is = ended e c least middle after (out ++ u ∷ []) (Err r) k in
    absurd (err-ok r (out ++ u ∷ []) is.0)

-- over any list whose members have terms
abbrev pub Gives : {A : Type 0} → (A → TermData) → Environment → Context → ℕ → Left → List A → List Term → Left → List A → List Term → Type 0
Gives term_in e c least left rest out from all before = (o : Result (List Term) Refusal) (after : Left) → TermsReadBehind e c least left (map term_in rest) out o after → TermsReadBehind e c least from (map term_in all) before o after

each_end : {A : Type 0} (term_in : A → TermData) (e : Environment) (c : Context) (least : ℕ) (left from : Left) (rest all : List A) (out before : List Term) → length rest ≡ 0 → Gives term_in e c least left rest out from all before →
    TermsReadBehind e c least from (map term_in all) before (Ok out) left
each_end term_in e c least left from rest all out before er g = g (Ok out) left (subst (λ xs. TermsReadBehind e c least left (map term_in xs) out (Ok out) left) (sym (empty rest er)) (na.no_more left out))

each_stop : {A X : Type 0} (Y : Type 0) (term_in : A → TermData) (e : Environment) (c : Context) (least : ℕ) (left from after : Left) (rest others all : List A) (x : A) (out more before : List Term) (q : Result X ResolveFault) (f : ResolveFault) →
    rest ≡ x ∷ others → OnRead q (λ o. TermsReadBehind e c least left (term_in x ∷ []) out (all_read o more) after) → q ≡ Err f → Gives term_in e c least left rest out from all before →
    OnRead {X = Y} (Err f) (λ o. TermsReadBehind e c least from (map term_in all) before (all_read o more) after)
each_stop {A} {X} Y term_in e c least left from after rest others all x out more before q f er h eq g =
    let P : Result X Refusal → Type 0 = λ o. TermsReadBehind e c least left (term_in x ∷ []) out (all_read o more) after in
    let Q : Result Y Refusal → Type 0 = λ o. TermsReadBehind e c least from (map term_in all) before (all_read o more) after in
    refused_by P Q q f h eq (λ r k. g (Err r) after (subst (λ xs. TermsReadBehind e c least left (map term_in xs) out (Err r) after) (sym er) (one_alone e c least left after (term_in x) (map term_in others) out r k)))

each_turn : {A X : Type 0} (term_in : A → TermData) (e : Environment) (c : Context) (least : ℕ) (left from after : Left) (rest others all : List A) (x : A) (out more before : List Term) (q : Result X ResolveFault) (y : X) →
    rest ≡ x ∷ others → OnRead q (λ o. TermsReadBehind e c least left (term_in x ∷ []) out (all_read o more) after) → q ≡ Ok y → Gives term_in e c least left rest out from all before → Gives term_in e c least after others more from all before
each_turn {A} {X} term_in e c least left from after rest others all x out more before q y er h eq g o end k =
    let P : Result X Refusal → Type 0 = λ z. TermsReadBehind e c least left (term_in x ∷ []) out (all_read z more) after in
    g o end (subst (λ xs. TermsReadBehind e c least left (map term_in xs) out o end) (sym er) (one_then e c least left after end (term_in x) (map term_in others) out more o (read_by P q y h eq) k))

-- what is retyped, behind commas
abbrev pub retyped_in : Next Comma RetypedTree → TermData
retyped_in x = retyped_term x.tree

pub retyped_in-is : (xs : List (Next Comma RetypedTree)) → map retyped_term (map tree_of xs) ≡ map retyped_in xs
retyped_in-is [] = refl
retyped_in-is (x ∷ xs) = ap (λ ts. retyped_in x ∷ ts) (retyped_in-is xs)

as_listed : (e : Environment) (c : Context) (least : ℕ) (left after : Left) (xs : List (Next Comma RetypedTree)) (out : List Term) (o : Result (List Term) Refusal) → TermsReadBehind e c least left (map retyped_in xs) out o after → TermsReadBehind e c least left (map retyped_term (map tree_of xs)) out o after
as_listed e c least left after xs out o h = subst (λ ts. TermsReadBehind e c least left ts out o after) (sym (retyped_in-is xs)) h

pub told_each_end : (e : Environment) (c : Context) (least : ℕ) (left from : Left) (rest all : List (Next Comma RetypedTree)) (out before : List Term) → length rest ≡ 0 → Gives retyped_in e c least left rest out from all before →
    TermsReadBehind e c least from (map retyped_term (map tree_of all)) before (Ok out) left
told_each_end e c least left from rest all out before er g = as_listed e c least from left all before (Ok out) (each_end retyped_in e c least left from rest all out before er g)

pub told_each_stop : {X : Type 0} (Y : Type 0) (e : Environment) (c : Context) (least : ℕ) (left from after : Left) (rest others all : List (Next Comma RetypedTree)) (x : Next Comma RetypedTree) (out more before : List Term) (q : Result X ResolveFault) (f : ResolveFault) →
    rest ≡ x ∷ others → OnRead q (λ o. TermsReadBehind e c least left (retyped_term x.tree ∷ []) out (all_read o more) after) → q ≡ Err f → Gives retyped_in e c least left rest out from all before →
    OnRead {X = Y} (Err f) (λ o. TermsReadBehind e c least from (map retyped_term (map tree_of all)) before (all_read o more) after)
told_each_stop {X} Y e c least left from after rest others all x out more before q f er h eq g =
    let P : List TermData → Type 0 = λ ts. OnRead {X = Y} (Err f) (λ o. TermsReadBehind e c least from ts before (all_read o more) after) in
    subst P (sym (retyped_in-is all)) (each_stop Y retyped_in e c least left from after rest others all x out more before q f er h eq g)

pub told_each_turn : {X : Type 0} (e : Environment) (c : Context) (least : ℕ) (left from after : Left) (rest others all : List (Next Comma RetypedTree)) (x : Next Comma RetypedTree) (out more before : List Term) (q : Result X ResolveFault) (y : X) →
    rest ≡ x ∷ others → OnRead q (λ o. TermsReadBehind e c least left (retyped_term x.tree ∷ []) out (all_read o more) after) → q ≡ Ok y → Gives retyped_in e c least left rest out from all before → Gives retyped_in e c least after others more from all before
told_each_turn e c least left from after rest others all x out more before q y er h eq g = each_turn retyped_in e c least left from after rest others all x out more before q y er h eq g

pub ruleset each_rules = (told_each_end, told_each_stop, told_each_turn)

-- the first and then the others
pub told_first_refused : {X : Type 0} (Y : Type 0) (e : Environment) (c : Context) (least : ℕ) (left after : Left) (t : TermData) (ts : List TermData) (out more others : List Term) (q : Result X ResolveFault) (f : ResolveFault) →
    OnRead q (λ o. TermsReadBehind e c least left (t ∷ []) out (all_read o more) after) → q ≡ Err f → OnRead {X = Y} (Err f) (λ o. TermsReadBehind e c least left (t ∷ ts) out (all_read o others) after)
told_first_refused {X} Y e c least left after t ts out more others q f h eq =
    let P : Result X Refusal → Type 0 = λ o. TermsReadBehind e c least left (t ∷ []) out (all_read o more) after in
    let Q : Result Y Refusal → Type 0 = λ o. TermsReadBehind e c least left (t ∷ ts) out (all_read o others) after in
    refused_by P Q q f h eq (λ r k. one_alone e c least left after t ts out r k)

pub told_first_read : {X Y : Type 0} (e : Environment) (c : Context) (least : ℕ) (left between after : Left) (t : TermData) (ts : List TermData) (out more all : List Term) (q : Result X ResolveFault) (x : X) (a : Result Y ResolveFault) →
    OnRead q (λ o. TermsReadBehind e c least left (t ∷ []) out (all_read o more) between) → q ≡ Ok x → OnRead a (λ o. TermsReadBehind e c least between ts more (all_read o all) after) →
    OnRead a (λ o. TermsReadBehind e c least left (t ∷ ts) out (all_read o all) after)
told_first_read {X} {Y} e c least left between after t ts out more all q x a h eq k =
    let P : Result X Refusal → Type 0 = λ o. TermsReadBehind e c least left (t ∷ []) out (all_read o more) between in
    let Q : Result Y Refusal → Type 0 = λ o. TermsReadBehind e c least between ts more (all_read o all) after in
    let R : Result Y Refusal → Type 0 = λ o. TermsReadBehind e c least left (t ∷ ts) out (all_read o all) after in
    read_more Q R a k (λ o g. one_then e c least left between after t ts out more (all_read o all) (read_by P q x h eq) g)

pub told_first_read_each : {X Y : Type 0} (e : Environment) (c : Context) (least : ℕ) (left between after : Left) (t : TermData) (slice items : List (Next Comma RetypedTree)) (out more all : List Term) (q : Result X ResolveFault) (x : X) (a : Result Y ResolveFault) →
    OnRead q (λ o. TermsReadBehind e c least left (t ∷ []) out (all_read o more) between) → q ≡ Ok x → slice ≡ items → OnRead a (λ o. TermsReadBehind e c least between (map retyped_term (map tree_of slice)) more (all_read o all) after) →
    OnRead a (λ o. TermsReadBehind e c least left (t ∷ map retyped_term (map tree_of items)) out (all_read o all) after)
told_first_read_each e c least left between after t slice items out more all q x a h eq es k =
    subst (λ zs. OnRead a (λ o. TermsReadBehind e c least left (t ∷ map retyped_term (map tree_of zs)) out (all_read o all) after)) es (told_first_read e c least left between after t (map retyped_term (map tree_of slice)) out more all q x a h eq k)

-- of all that is retyped
pub told_all_read : {X Y : Type 0} (e : Environment) (c : Context) (least : ℕ) (left between after : Left) (xs ys : Separated RetypedTree) (slice : List (Next Comma RetypedTree)) (out more all : List Term) (q : Result X ResolveFault) (x : X) (a : Result Y ResolveFault) →
    xs ≡ ys → OnRead q (λ o. TermsReadBehind e c least left (retyped_term xs.first ∷ []) out (all_read o more) between) → q ≡ Ok x → slice ≡ xs.more → OnRead a (λ o. TermsReadBehind e c least between (map retyped_term (map tree_of slice)) more (all_read o all) after) →
    OnRead a (λ o. TermsReadBehind e c least left (map retyped_term (members ys)) out (all_read o all) after)
told_all_read e c least left between after xs ys slice out more all q x a ex h eq es k =
    subst (λ z. OnRead a (λ o. TermsReadBehind e c least left (map retyped_term (members z)) out (all_read o all) after)) ex (told_first_read_each e c least left between after (retyped_term xs.first) slice xs.more out more all q x a h eq es k)

pub told_all_refused : {X : Type 0} (Y : Type 0) (e : Environment) (c : Context) (least : ℕ) (left after : Left) (xs ys : Separated RetypedTree) (out more others : List Term) (q : Result X ResolveFault) (f : ResolveFault) →
    xs ≡ ys → OnRead q (λ o. TermsReadBehind e c least left (retyped_term xs.first ∷ []) out (all_read o more) after) → q ≡ Err f → OnRead {X = Y} (Err f) (λ o. TermsReadBehind e c least left (map retyped_term (members ys)) out (all_read o others) after)
told_all_refused Y e c least left after xs ys out more others q f ex h eq =
    subst (λ z. OnRead {X = Y} (Err f) (λ o. TermsReadBehind e c least left (map retyped_term (members z)) out (all_read o others) after)) ex (told_first_refused Y e c least left after (retyped_term xs.first) (map retyped_term (map tree_of xs.more)) out more others q f h eq)

pub ruleset all_rules = (told_first_refused, told_first_read)

-- names
pub told_names_end : (ty : SoftType) (names : List RetypedTree) (terms : List Term) (out goal : List Definition) → length terms ≡ 0 → out ++ retyped ty names terms ≡ goal → out ≡ goal
told_names_end ty [] terms out goal e h = sym (append-nil out) ∙ h
told_names_end ty (n ∷ ns) terms out goal e h = sym (append-nil out) ∙ (ap (λ ts. out ++ retyped ty (n ∷ ns) ts) (sym (empty terms e)) ∙ h)

pub told_no_names : (ty : SoftType) (names : List (Next Comma RetypedTree)) (terms : List Term) (out goal : List Definition) → length names ≡ 0 → out ++ retyped ty (map tree_of names) terms ≡ goal → out ≡ goal
told_no_names ty names terms out goal e h = sym (append-nil out) ∙ (ap (λ xs. out ++ retyped ty (map tree_of xs) terms) (sym (empty names e)) ∙ h)

pub append-told_name : (ty : SoftType) (names others : List (Next Comma RetypedTree)) (terms more : List Term) (x : Next Comma RetypedTree) (t : Term) (w : Word) (d : Definition) (out all goal : List Definition) →
    names ≡ x ∷ others → terms ≡ t ∷ more → w ≡ retyped_name x.tree → d ≡ definition w ty t → all ≡ out ++ d ∷ [] → out ++ retyped ty (map tree_of names) terms ≡ goal → all ++ retyped ty (map tree_of others) more ≡ goal
append-told_name ty names others terms more x t w d out all goal en et ew ed ea h =
    ap (λ y. y ++ retyped ty (map tree_of others) more) (ea ∙ ap (λ y. out ++ y ∷ []) (ed ∙ ap (λ y. definition y ty t) ew)) ∙ (append_assoc out (definition (retyped_name x.tree) ty t ∷ []) (retyped ty (map tree_of others) more) ∙
    (ap (λ ns. out ++ retyped ty (map tree_of ns) (t ∷ more)) (sym en) ∙ (ap (λ ts. out ++ retyped ty (map tree_of names) ts) (sym et) ∙ h)))

pub ruleset name_rules = (told_names_end, told_no_names, append-told_name)

pub told_names : (ty : SoftType) (first : RetypedTree) (names : List (Next Comma RetypedTree)) (terms more : List Term) (t : Term) (w : Word) (d : Definition) (none out all : List Definition) →
    terms ≡ t ∷ more → w ≡ retyped_name first → d ≡ definition w ty t → none ≡ [] → out ≡ none ++ d ∷ [] → all ≡ out ++ retyped ty (map tree_of names) more → all ≡ retyped ty (first ∷ map tree_of names) terms
told_names ty first names terms more t w d none out all et ew ed en eo ea =
    ea ∙ (ap (λ x. x ++ retyped ty (map tree_of names) more) (eo ∙ (ap (λ x. x ++ d ∷ []) en ∙ ap (λ x. x ∷ []) (ed ∙ ap (λ x. definition x ty t) ew))) ∙ ap (retyped ty (first ∷ map tree_of names)) (sym et))

pub told_nothing_named : (ty : SoftType) (first : RetypedTree) (names : List RetypedTree) (terms : List Term) (out : List Definition) → length terms ≡ 0 → out ≡ [] → out ≡ retyped ty (first ∷ names) terms
told_nothing_named ty first names terms out e eo = eo ∙ ap (retyped ty (first ∷ names)) (sym (empty terms e))

pub ruleset retype_rules = (told_names, told_nothing_named)

-- `reconsider`
from_none : (e : Environment) (c : Context) (least : ℕ) (left after : Left) (ts : List TermData) (out : List Term) (o : Result (List Term) Refusal) → out ≡ [] → TermsReadBehind e c least left ts out o after → TermsRead e c least left ts o after
from_none e c least left after ts out o eo h = subst (λ xs. TermsReadBehind e c least left ts xs o after) eo h

pub told_not_terms : {X : Type 0} (e : Environment) (c : Context) (least : ℕ) (left after : Left) (xs : List RetypedTree) (ty : TypeData) (out more : List Term) (q : Result X ResolveFault) (f : ResolveFault) →
    out ≡ [] → OnRead q (λ o. TermsReadBehind e c least left (map retyped_term xs) out (all_read o more) after) → q ≡ Err f → OnRead {X = List Definition} (Err f) (λ o. RetypedRead e c least left xs ty o after)
told_not_terms {X} e c least left after xs ty out more q f eo h eq =
    let P : Result X Refusal → Type 0 = λ o. TermsReadBehind e c least left (map retyped_term xs) out (all_read o more) after in
    let Q : Result (List Definition) Refusal → Type 0 = λ o. RetypedRead e c least left xs ty o after in
    refused_by P Q q f h eq (λ r k. na.term_refused r after (from_none e c least left after (map retyped_term xs) out (Err r) eo k))

terms_by : {X : Type 0} (e : Environment) (c : Context) (least : ℕ) (left after : Left) (xs : List RetypedTree) (out ts : List Term) (q : Result X ResolveFault) (x : X) →
    out ≡ [] → OnRead q (λ o. TermsReadBehind e c least left (map retyped_term xs) out (all_read o ts) after) → q ≡ Ok x → TermsRead e c least left (map retyped_term xs) (Ok ts) after
terms_by {X} e c least left after xs out ts q x eo h eq =
    let P : Result X Refusal → Type 0 = λ o. TermsReadBehind e c least left (map retyped_term xs) out (all_read o ts) after in
    from_none e c least left after (map retyped_term xs) out (Ok ts) eo (read_by P q x h eq)

pub told_not_type : {X : Type 0} (e : Environment) (c : Context) (least : ℕ) (left between after : Left) (xs : List RetypedTree) (ty : TypeData) (out ts : List Term) (q : Result X ResolveFault) (x : X) (p : Result SoftType ResolveFault) (f : ResolveFault) →
    out ≡ [] → OnRead q (λ o. TermsReadBehind e c least left (map retyped_term xs) out (all_read o ts) between) → q ≡ Ok x → OnRead p (λ o. TypeRead e c least between ty o after) → p ≡ Err f →
    OnRead {X = List Definition} (Err f) (λ o. RetypedRead e c least left xs ty o after)
told_not_type e c least left between after xs ty out ts q x p f eo h eq k ep =
    let P : Result SoftType Refusal → Type 0 = λ o. TypeRead e c least between ty o after in
    let Q : Result (List Definition) Refusal → Type 0 = λ o. RetypedRead e c least left xs ty o after in
    refused_by P Q p f k ep (λ r g. na.type_refused ts r between after (terms_by e c least left between xs out ts q x eo h eq) g)

pub told_retyped : {X : Type 0} (e : Environment) (c : Context) (least : ℕ) (left between after : Left) (xs : List RetypedTree) (ty : TypeData) (out ts us : List Term) (q : Result X ResolveFault) (x : X) (p : Result SoftType ResolveFault) (t : SoftType) (ds : List Definition) →
    out ≡ [] → OnRead q (λ o. TermsReadBehind e c least left (map retyped_term xs) out (all_read o ts) between) → q ≡ Ok x → OnRead p (λ o. TypeRead e c least between ty o after) → p ≡ Ok t → us ≡ ts → ds ≡ retyped t xs us →
    RetypedRead e c least left xs ty (Ok ds) after
told_retyped e c least left between after xs ty out ts us q x p t ds eo h eq k ep eu ed =
    let P : Result SoftType Refusal → Type 0 = λ o. TypeRead e c least between ty o after in
    let Q : List Definition → Type 0 = λ ys. RetypedRead e c least left xs ty (Ok ys) after in
    subst Q (sym (ed ∙ ap (retyped t xs) eu)) (na.both_read ts t between after (terms_by e c least left between xs out ts q x eo h eq) (read_by P p t k ep))

pub ruleset reconsider_rules = (told_not_terms, told_not_type, told_retyped)

-- further sides of an equality
pub told_sides_end : (e : Environment) (c : Context) (least : ℕ) (left from : Left) (rest all : List EqualityStepTree) (out before : List Term) → length rest ≡ 0 → Gives side_of e c least left rest out from all before → TermsReadBehind e c least from (map side_of all) before (Ok out) left
told_sides_end e c least left from rest all out before er g = each_end side_of e c least left from rest all out before er g

pub told_sides_stop : {X : Type 0} (Y : Type 0) (e : Environment) (c : Context) (least : ℕ) (left from after : Left) (rest others all : List EqualityStepTree) (x : EqualityStepTree) (out more before : List Term) (q : Result X ResolveFault) (f : ResolveFault) →
    rest ≡ x ∷ others → OnRead q (λ o. TermsReadBehind e c least left (side_of x ∷ []) out (all_read o more) after) → q ≡ Err f → Gives side_of e c least left rest out from all before →
    OnRead {X = Y} (Err f) (λ o. TermsReadBehind e c least from (map side_of all) before (all_read o more) after)
told_sides_stop Y e c least left from after rest others all x out more before q f er h eq g = each_stop Y side_of e c least left from after rest others all x out more before q f er h eq g

pub told_sides_turn : {X : Type 0} (e : Environment) (c : Context) (least : ℕ) (left from after : Left) (rest others all : List EqualityStepTree) (x : EqualityStepTree) (out more before : List Term) (q : Result X ResolveFault) (y : X) →
    rest ≡ x ∷ others → OnRead q (λ o. TermsReadBehind e c least left (side_of x ∷ []) out (all_read o more) after) → q ≡ Ok y → Gives side_of e c least left rest out from all before → Gives side_of e c least after others more from all before
told_sides_turn e c least left from after rest others all x out more before q y er h eq g = each_turn side_of e c least left from after rest others all x out more before q y er h eq g

pub ruleset side_rules = (told_sides_end, told_sides_stop, told_sides_turn)

pub told_sides : {X : Type 0} (e : Environment) (c d : Context) (least : ℕ) (left after : Left) (vs : List Variable) (ls : List EqualityStepTree) (out ts : List Term) (q : Result X ResolveFault) (x : X) →
    d ≡ with_variables c vs → out ≡ [] → OnRead q (λ o. TermsReadBehind e d least left (map side_of ls) out (all_read o ts) after) → q ≡ Ok x → SidesRead e c least left vs ls (Ok ts) after
told_sides {X} e c d least left after vs ls out ts q x ed eo h eq =
    let P : Result X Refusal → Type 0 = λ o. TermsReadBehind e d least left (map side_of ls) out (all_read o ts) after in
    subst (λ y. TermsRead e y least left (map side_of ls) (Ok ts) after) ed (from_none e d least left after (map side_of ls) out (Ok ts) eo (read_by P q x h eq))

pub told_sides_refused : {X : Type 0} (e : Environment) (c d : Context) (least : ℕ) (left after : Left) (vs : List Variable) (ls : List EqualityStepTree) (out ts : List Term) (q : Result X ResolveFault) (f : ResolveFault) →
    d ≡ with_variables c vs → out ≡ [] → OnRead q (λ o. TermsReadBehind e d least left (map side_of ls) out (all_read o ts) after) → q ≡ Err f → OnRead {X = List Term} (Err f) (λ o. SidesRead e c least left vs ls o after)
told_sides_refused {X} e c d least left after vs ls out ts q f ed eo h eq =
    let P : Result X Refusal → Type 0 = λ o. TermsReadBehind e d least left (map side_of ls) out (all_read o ts) after in
    let Q : Result (List Term) Refusal → Type 0 = λ o. SidesRead e c least left vs ls o after in
    refused_by P Q q f h eq (λ r k. subst (λ y. TermsRead e y least left (map side_of ls) (Err r) after) ed (from_none e d least left after (map side_of ls) out (Err r) eo k))

pub ruleset inside_rules = (told_sides, told_sides_refused, grown_itself, grown_kept, grown_more)

pub told_sides_read : (e : Environment) (c : Context) (least : ℕ) (left after : Left) (vs : List Variable) (ls : List EqualityStepTree) (q : Result (List Term) ResolveFault) (ts : List Term) →
    OnRead q (λ o. SidesRead e c least left vs ls o after) → q ≡ Ok ts → SidesRead e c least left vs ls (Ok ts) after
told_sides_read e c least left after vs ls q ts h eq =
    let P : Result (List Term) Refusal → Type 0 = λ o. SidesRead e c least left vs ls o after in
    read_by P q ts h eq

pub told_sides_not_read : (e : Environment) (c : Context) (least : ℕ) (left after : Left) (vs : List Variable) (ls : List EqualityStepTree) (q : Result (List Term) ResolveFault) (f : ResolveFault) →
    OnRead q (λ o. SidesRead e c least left vs ls o after) → q ≡ Err f → OnRead {X = List Term} (Err f) (λ o. SidesRead e c least left vs ls o after)
told_sides_not_read e c least left after vs ls q f h eq = subst (λ x. OnRead x (λ o. SidesRead e c least left vs ls o after)) eq h

pub ruleset outside_rules = (told_sides_read, told_sides_not_read, told_left)
