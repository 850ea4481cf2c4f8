-- What parts of steps are read to stands.
use Rattle.std.proofs.Common.{◌≡◌, ◌≤◌, ◌<◌, ◌+◌, inl, inr, ℕ, zero, suc, List, [], ◌∷◌, ◌++◌, map, length, refl, sym, ap, ◌∙◌, subst, arith, Option, Result, Ok, Err}
use Rattle.std.specs.Prelude.{Contains}
use Rattle.std.proofs.lemmas.List.Elements.{Contains-append_cases}
use Rattle.mz_base.specs.declared.place.Place.{Place}
use Rattle.mz_logic.specs.Term.{Term}
use Rattle.mz_core.specs.Statement.{Statement}
use Rattle.mz_core.specs.Parts.{conjunction}
use Rattle.mz_core.specs.declared.outcome.Left.{Left}
use Rattle.mz_core.specs.declared.soft_type.SoftType.{SoftType}
use Rattle.mz_core.proofs.LawProofs.{more_in_force}
use Rattle.mz_laws.proofs.StatementProofs.{more_type_in_force}
use Rattle.mz_context.specs.Context.{next}
use Rattle.mz_context.specs.Changes.{with_constant}
use Rattle.mz_context.specs.declared.context.Context.{Context}
use Rattle.mz_context.specs.declared.labelled.LabelledStatement.{LabelledStatement}
use Rattle.mz_environment.specs.declared.environment.Environment.{Environment}
use Rattle.mz_free.specs.Free.{free_variables}
use Rattle.mz_names.specs.Closing.{constant_of, with_variables, for_all}
use Rattle.mz_names.specs.declared.refusal.Refusal.{Refusal}
use Rattle.mz_names.specs.declared.variable.Variable.{Variable}
use Rattle.mz_tree.specs.Trees.{TermData, TypeData, FormulaData, DeclaredData, DeclarationsData}
use Rattle.mz_tree.specs.declared.word.Word.{Word}
use Rattle.mz_sizes.specs.Sizes.{statement_keeps}
use Rattle.mz_joined.specs.Bound.{for_all_within}
use Rattle.mz_formulas.specs.Declarations.{Declaring, variable_of, undeclared, first_then, reserved_variable, reserved_each, behind}
use Rattle.mz_formulas.specs.Sentences as sentences
use Rattle.mz_formulas.specs.Sentences.{ReadsSentence, sentence_of}
use Rattle.mz_formulas.specs.declared.sentence.Sentence.{Sentence}
use Rattle.mz_resolve.specs.Calls as calls
use Rattle.mz_resolve.specs.Calls.{Counted, sentence_nodes, SentenceRead}
use Rattle.mz_tree_proof.specs.declared.propositions.PropositionTree.{PropositionTree}
use Rattle.mz_tree_proof.specs.declared.propositions.PropositionsTree.{PropositionsTree}
use Rattle.mz_tree_proof.specs.declared.introduction.RetypedTree.{RetypedTree}
use Rattle.mz_tree.specs.Places.{first_place}
use Rattle.mz_tree.specs.Spell.{spell_formula}
use Rattle.mz_steps.specs.Changes.{statement_of}
use Rattle.mz_steps.specs.declared.read_step.Definition.{Definition}
use Rattle.mz_parts.specs.Declarations as declarations
use Rattle.mz_parts.specs.Declarations.{Declares, declaring_more, DeclaresAll, declared_in, DeclarationsRead}
use Rattle.mz_parts.specs.Propositions as propositions
use Rattle.mz_parts.specs.Propositions.{stated_by, PropositionsReadBehind, PropositionsRead, propositions_in}
use Rattle.mz_parts.specs.Joined.{joined_within}
use Rattle.mz_parts.specs.Described as described
use Rattle.mz_parts.specs.Described.{description, DescriptionRead}
use Rattle.mz_parts.specs.Named as named
use Rattle.mz_parts.specs.Named.{TermsReadBehind, TermsRead, retyped_term, retyped, RetypedRead}
use Rattle.mz_parts.specs.declared.described.Description.{Description}
use Rattle.mz_steps_laws.proofs.FactLemmas.{next_with}
use Rattle.mz_block_laws.specs.Orders.{TermStands, TypeStands, Stands, AllStand, AreTyped, DefinitionStands}
use Rattle.mz_block_laws.proofs.OrderLemmas.{typed_stand, next_with_variables, sentence_stands_law}
use Rattle.mz_block_laws.proofs.OrderProofs.{all_standing, conjunction_stands}
use Rattle.mz_walk_laws.specs.Grounds.{ReadsWell}
use Rattle.mz_walk_laws.proofs.Outcomes.{WhereOk, where_ok, within_is}

-- later constants
pub type_later : (m n : ℕ) (ty : SoftType) → m ≤ n → TypeStands m ty → TypeStands n ty
type_later m n ty le w = (more_type_in_force m n ty le w.0, w.1)

pub statement_later : (m n : ℕ) (s : Statement) → m ≤ n → Stands m s → Stands n s
statement_later m n s le w = (more_in_force m n s le w.0, w.1)

-- what was counted was read
counted_ok : {X : Type 0} (P : X → Type 0) (reads : Result X Refusal → Type 0) (nodes : X → ℕ) (place : Option Place) (l : Left) (o : Result X Refusal) (m : Left) → Counted reads nodes place l o m → ((x : X) → reads (Ok x) → P x) → WhereOk o P
counted_ok P reads nodes place l o m (calls.not_read r after h) each = tt
counted_ok P reads nodes place l o m (calls.beyond x first after h k lt) each = tt
counted_ok P reads nodes place l o m (calls.counted x h le) each = each x h

-- a sentence is its formula closed over its variables
closed_by : (n : ℕ) (vs : List Variable) (s : Statement) (o : Result Statement Refusal) → ((t : Statement) → o ≡ Ok t → for_all n vs s ≡ t) → WhereOk (sentence_of vs s o) (λ x. x.closed ≡ for_all n x.variables x.inner)
closed_by n vs s (Ok t) each = sym (each t refl)
closed_by n vs s (Err r) each = tt

sentence_closed : (e : Environment) (c : Context) (f : FormulaData) (o : Result Sentence Refusal) → ReadsSentence e 0 c f o → WhereOk o (λ x. x.closed ≡ for_all (next c) x.variables x.inner)
sentence_closed e c f o (sentences.formula_refused r h) = tt
sentence_closed e c f o (sentences.formula_read s first h k) =
    closed_by (next c) (free_variables 0 c f) s (for_all_within first (next c) (free_variables 0 c f) s) (λ t is. within_is statement_keeps first (for_all (next c) (free_variables 0 c f) s) t is)

pub is_closed_over : (e : Environment) (c : Context) (l m : Left) (f : FormulaData) (x : Sentence) → SentenceRead e c 0 l f (Ok x) m → x.closed ≡ for_all (next c) x.variables x.inner
is_closed_over e c l m f x d =
    counted_ok (λ y. y.closed ≡ for_all (next c) y.variables y.inner) (ReadsSentence e 0 c f) sentence_nodes (first_place (spell_formula f)) l (Ok x) m d (λ y h. sentence_closed e c f (Ok y) h)

pub sentence_stands : (W : Context → Type 0) (e : Environment) → ReadsWell e W → (c : Context) → W c → (l m : Left) (f : FormulaData) (x : Sentence) → SentenceRead e c 0 l f (Ok x) m → Stands (next c) x.closed
sentence_stands W e reads c whole l m f x d =
    subst (Stands (next c)) (sym (is_closed_over e c l m f x d)) (sentence_stands_law (next c) x.variables x.inner (reads.sentence c whole l m f x d))

-- propositions
abbrev pub AllStanding : ℕ → List LabelledStatement → Type 0
AllStanding n ps = (p : LabelledStatement) → Contains ps p → Stands n (statement_of p)

none_standing : (n : ℕ) → AllStanding n []
none_standing n p is = let lt : is.0 < 0 = is.1 in absurd (omega arith)

pub one_more_stands : (n : ℕ) (p : LabelledStatement) (ps : List LabelledStatement) → Stands n (statement_of p) → AllStanding n ps → AllStanding n (p ∷ ps)
one_more_stands n p ps w all q (zero, lt, e) = subst (λ x. Stands n (statement_of x)) e w
one_more_stands n p ps w all q (suc i, lt, e) = all q (i, omega (arith, lt), e)

pub standing_and : (n : ℕ) (ps : List LabelledStatement) (q : LabelledStatement) → AllStanding n ps → Stands n (statement_of q) → AllStanding n (ps ++ q ∷ [])
standing_and n ps q all w p is =
    elim (Contains-append_cases ps (q ∷ []) p is) [ inl x ↦ all p x | inr x ↦ one_more_stands n q [] w (none_standing n) p x ]

propositions_behind : (W : Context → Type 0) (e : Environment) → ReadsWell e W → (c : Context) → W c → (l : Left) (ts : List PropositionTree) (before : List LabelledStatement) → AllStanding (next c) before → (o : Result (List LabelledStatement) Refusal) (m : Left) → PropositionsReadBehind e c 0 l ts before o m → WhereOk o (AllStanding (next c))
propositions_behind W e reads c whole l ts before all o m (propositions.no_more x qs) = all
propositions_behind W e reads c whole l ts before all o m (propositions.one_refused x after p ps qs r h) = tt
propositions_behind W e reads c whole l ts before all o m (propositions.one_read x between after p ps qs s q h k) =
    propositions_behind W e reads c whole between ps (qs ++ stated_by p s ∷ []) (standing_and (next c) qs (stated_by p s) all (sentence_stands W e reads c whole x between p.formula s h)) q after k

pub propositions_stand : (W : Context → Type 0) (e : Environment) → ReadsWell e W → (c : Context) → W c → (l : Left) (ts : List PropositionTree) (o : Result (List LabelledStatement) Refusal) (m : Left) → PropositionsRead e c 0 l ts o m → WhereOk o (AllStanding (next c))
propositions_stand W e reads c whole l ts o m h = propositions_behind W e reads c whole l ts [] (none_standing (next c)) o m h

-- declared variables
of_one_type : (n : ℕ) (ty : SoftType) (ws : List Word) → TypeStands n ty → AreTyped n (map (variable_of ty) ws)
of_one_type n ty [] w = tt
of_one_type n ty (x ∷ xs) w = (w, of_one_type (suc n) ty xs (type_later n (suc n) ty (omega arith) w))

both_typed : (n : ℕ) (vs us : List Variable) → AreTyped n vs → AreTyped (length vs + n) us → AreTyped n (vs ++ us)
both_typed n [] us w u = let e : 0 + n ≡ n = omega arith in subst (λ m. AreTyped m us) e u
both_typed n (v ∷ vs) us w u =
    let e : suc (length vs) + n ≡ length vs + suc n = omega arith in
    (w.0, both_typed (suc n) vs us w.1 (subst (λ m. AreTyped m us) e u))

typed_later : (m n : ℕ) (vs : List Variable) → m ≤ n → AreTyped m vs → AreTyped n vs
typed_later m n [] le w = tt
typed_later m n (v ∷ vs) le w = (type_later m n v.ty le w.0, typed_later (suc m) (suc n) vs (omega (arith, le)) w.1)

-- those that were reserved
reserved_first : (n : ℕ) (p : Result Variable Refusal) (o : Result (List Variable) Refusal) → WhereOk p (λ v. TypeStands n v.ty) → WhereOk o (AreTyped n) → WhereOk (first_then p o) (AreTyped n)
reserved_first n (Err r) o w u = tt
reserved_first n (Ok v) (Err r) w u = tt
reserved_first n (Ok v) (Ok vs) w u = (w, typed_later n (suc n) vs (omega arith) u)

all_reserved : (W : Context → Type 0) (e : Environment) → ReadsWell e W → (c : Context) → W c → (ws : List Word) → WhereOk (reserved_each 0 c ws) (AreTyped (next c))
all_reserved W e reads c whole [] = tt
all_reserved W e reads c whole (w ∷ ws) =
    reserved_first (next c) (reserved_variable 0 c w) (reserved_each 0 c ws) (where_ok (λ v. TypeStands (next c) v.ty) (reserved_variable 0 c w) (λ v is. reads.reserved c whole w v is)) (all_reserved W e reads c whole ws)

pub declared_typed : (W : Context → Type 0) (e : Environment) → ReadsWell e W → (c : Context) → W c → (waiting : List Word) (l : Left) (d : DeclaredData) (o : Result (List Variable) Refusal) (others : List Word) (m : Left) → Declares e c 0 waiting l d o others m → WhereOk o (AreTyped (next c))
declared_typed W e reads c whole waiting l d o others m (declarations.waits w) = tt
declared_typed W e reads c whole waiting l d o others m (declarations.type_refused w b ty r us after h) = tt
declared_typed W e reads c whole waiting l d o others m (declarations.type_read w b ty t after h) = of_one_type (next c) t (waiting ++ w ∷ []) (reads.type_of c whole l after ty t h)

-- a context with variables is whole
pub whole_with : (W : Context → Type 0) (e : Environment) → ReadsWell e W → (c : Context) → W c → (vs : List Variable) → AreTyped (next c) vs → W (with_variables c vs)
whole_with W e reads c whole [] w = whole
whole_with W e reads c whole (v ∷ vs) w =
    let d : Context = with_constant c (constant_of v) in
    whole_with W e reads d (reads.with_one c whole (constant_of v) w.0 tt) vs (subst (λ n. AreTyped n vs) (sym (next_with c (constant_of v))) w.1)

behind_typed : (n : ℕ) (vs : List Variable) (o : Result (List Variable) Refusal) → AreTyped n vs → WhereOk o (AreTyped (length vs + n)) → WhereOk (behind vs o) (AreTyped n)
behind_typed n vs (Ok us) w u = both_typed n vs us w u
behind_typed n vs (Err r) w u = tt

-- where declarations have come
with_more : (c : Context) (vs us : List Variable) → with_variables c (vs ++ us) ≡ with_variables (with_variables c vs) us
with_more c [] us = refl
with_more c (v ∷ vs) us = with_more (with_constant c (constant_of v)) vs us

pub record DeclaringStands (c : Context) (s : Declaring) : Type 0 where
  pub context_is : s.context ≡ with_variables c s.variables
  pub typed : AreTyped (next c) s.variables

declaring_whole : (W : Context → Type 0) (e : Environment) → ReadsWell e W → (c : Context) → W c → (s : Declaring) → DeclaringStands c s → W s.context
declaring_whole W e reads c whole s w = subst W (sym w.context_is) (whole_with W e reads c whole s.variables w.typed)

declaring_next : (c : Context) (s : Declaring) → DeclaringStands c s → next s.context ≡ length s.variables + next c
declaring_next c s w = ap next w.context_is ∙ next_with_variables c s.variables

more_declared : (c : Context) (s : Declaring) (vs : List Variable) (others : List Word) → DeclaringStands c s → AreTyped (next s.context) vs → DeclaringStands c (declaring_more s vs others)
more_declared c s vs others w typed = record {
  context_is = ap (λ k. with_variables k vs) w.context_is ∙ sym (with_more c s.variables vs);
  typed = both_typed (next c) s.variables vs w.typed (subst (λ n. AreTyped n vs) (declaring_next c s w) typed);
}

all_declared : (W : Context → Type 0) (e : Environment) → ReadsWell e W → (c : Context) → W c → (s : Declaring) → DeclaringStands c s → (l : Left) (ds : List DeclaredData) (o : Result Declaring Refusal) (m : Left) → DeclaresAll e 0 s l ds o m → WhereOk o (DeclaringStands c)
all_declared W e reads c whole s w l ds o m (declarations.no_more z x) = w
all_declared W e reads c whole s w l ds o m (declarations.one_refused z x after d es others r h) = tt
all_declared W e reads c whole s w l ds o m (declarations.one_read z x between after d es vs others p h more) =
    let typed : AreTyped (next z.context) vs = declared_typed W e reads z.context (declaring_whole W e reads c whole z w) z.waiting x d (Ok vs) others between h in
    all_declared W e reads c whole (declaring_more z vs others) (more_declared c z vs others w typed) between es p after more

pub declarations_typed : (W : Context → Type 0) (e : Environment) → ReadsWell e W → (c : Context) → W c → (l : Left) (ds : DeclarationsData) (o : Result (List Variable) Refusal) (m : Left) → DeclarationsRead e c 0 l ds o m → WhereOk o (AreTyped (next c))
declarations_typed W e reads c whole l ds o m (declarations.declared_refused r after h) = tt
declarations_typed W e reads c whole l ds o m (declarations.declared_read s after h) =
    let start : DeclaringStands c (undeclared c) = record { context_is = refl; typed = tt } in
    let w : DeclaringStands c s = all_declared W e reads c whole (undeclared c) start l (declared_in ds) (Ok s) after h in
    behind_typed (next c) s.variables (reserved_each 0 s.context s.waiting) w.typed
    (subst (λ n. WhereOk (reserved_each 0 s.context s.waiting) (AreTyped n)) (declaring_next c s w) (all_reserved W e reads s.context (declaring_whole W e reads c whole s w) s.waiting))

-- descriptions
pub record DescriptionStands (c : Context) (d : Description) : Type 0 where
  pub typed : AreTyped (next c) d.variables
  pub propositions : AllStanding (next (with_variables c d.variables)) d.propositions
  pub joined : d.statement ≡ conjunction (map statement_of d.propositions)
  pub stands : AllStand (next c) d.variables d.statement

conjunction-joined_is : (first : Place) (ps : List LabelledStatement) (s : Statement) → joined_within first ps ≡ Ok s → conjunction (map statement_of ps) ≡ s
conjunction-joined_is first ps s e = within_is statement_keeps first (conjunction (map statement_of ps)) s e

pub joined_stands : (n : ℕ) (first : Place) (ps : List LabelledStatement) (s : Statement) → AllStanding n ps → joined_within first ps ≡ Ok s → Stands n s
joined_stands n first ps s all e = subst (Stands n) (conjunction-joined_is first ps s e) (conjunction_stands n (map statement_of ps) (all_standing n ps all))

described_stands : (W : Context → Type 0) (e : Environment) → ReadsWell e W → (c : Context) → W c → (first : Place) (vs : List Variable) (qs : List LabelledStatement) (s : Statement) → AreTyped (next c) vs → AllStanding (next (with_variables c vs)) qs → joined_within first qs ≡ Ok s → DescriptionStands c (description vs qs s)
described_stands W e reads c whole first vs qs s typed all is = record {
  typed = typed;
  propositions = all;
  joined = sym (conjunction-joined_is first qs s is);
  stands = typed_stand (next c) vs s typed (subst (λ n. Stands n s) (next_with_variables c vs) (joined_stands (next (with_variables c vs)) first qs s all is));
}

pub description_stands : (W : Context → Type 0) (e : Environment) → ReadsWell e W → (c : Context) → W c → (l : Left) (first : Place) (ds : DeclarationsData) (ps : PropositionsTree) (o : Result Description Refusal) (m : Left) → DescriptionRead e c 0 l first ds ps o m → WhereOk o (DescriptionStands c)
description_stands W e reads c whole l first ds ps o m (described.not_declared r after h) = tt
description_stands W e reads c whole l first ds ps o m (described.not_stated vs r between after h k) = tt
description_stands W e reads c whole l first ds ps o m (described.too_large vs qs r between after h k is) = tt
description_stands W e reads c whole l first ds ps o m (described.existential_too_large vs qs s r between after h k is there) = tt
description_stands W e reads c whole l first ds ps o m (described.described vs qs s there between after h k is ex) =
    let typed : AreTyped (next c) vs = declarations_typed W e reads c whole l ds (Ok vs) between h in
    let all : AllStanding (next (with_variables c vs)) qs = propositions_stand W e reads (with_variables c vs) (whole_with W e reads c whole vs typed) between (propositions_in ps) (Ok qs) after k in
    described_stands W e reads c whole first vs qs s typed all is

-- terms
abbrev pub AllTermsStand : ℕ → List Term → Type 0
AllTermsStand n [] = Unit {0}
AllTermsStand n (t ∷ ts) = TermStands n t × AllTermsStand n ts

terms_and : (n : ℕ) (ts : List Term) (u : Term) → AllTermsStand n ts → TermStands n u → AllTermsStand n (ts ++ u ∷ [])
terms_and n [] u all w = (w, tt)
terms_and n (t ∷ ts) u all w = (all.0, terms_and n ts u all.1 w)

terms_behind : (W : Context → Type 0) (e : Environment) → ReadsWell e W → (c : Context) → W c → (l : Left) (ts : List TermData) (before : List Term) → AllTermsStand (next c) before → (o : Result (List Term) Refusal) (m : Left) → TermsReadBehind e c 0 l ts before o m → WhereOk o (AllTermsStand (next c))
terms_behind W e reads c whole l ts before all o m (named.no_more x us) = all
terms_behind W e reads c whole l ts before all o m (named.one_refused x after t ws us r h) = tt
terms_behind W e reads c whole l ts before all o m (named.one_read x between after t ws us a p h k) =
    terms_behind W e reads c whole between ws (us ++ a ∷ []) (terms_and (next c) us a all (reads.term c whole x between t a h)) p after k

pub terms_stand : (W : Context → Type 0) (e : Environment) → ReadsWell e W → (c : Context) → W c → (l : Left) (ts : List TermData) (o : Result (List Term) Refusal) (m : Left) → TermsRead e c 0 l ts o m → WhereOk o (AllTermsStand (next c))
terms_stand W e reads c whole l ts o m h = terms_behind W e reads c whole l ts [] tt o m h

pub each_term : (n : ℕ) (ts : List Term) → AllTermsStand n ts → (t : Term) → Contains ts t → TermStands n t
each_term n [] w t is = let lt : is.0 < 0 = is.1 in absurd (omega arith)
each_term n (u ∷ us) w t (zero, lt, e) = subst (TermStands n) e w.0
each_term n (u ∷ us) w t (suc i, lt, e) = each_term n us w.1 t (i, omega (arith, lt), e)

-- names for terms of a type
abbrev pub AllDefined : ℕ → List Definition → Type 0
AllDefined n [] = Unit {0}
AllDefined n (d ∷ ds) = DefinitionStands n d × AllDefined n ds

retyped_stand : (n : ℕ) (ty : SoftType) (xs : List RetypedTree) (ts : List Term) → TypeStands n ty → AllTermsStand n ts → AllDefined n (retyped ty xs ts)
retyped_stand n ty [] ts w u = tt
retyped_stand n ty (x ∷ xs) [] w u = tt
retyped_stand n ty (x ∷ xs) (t ∷ ts) w u = ((w, u.0), retyped_stand n ty xs ts w u.1)

pub retyped_read : (W : Context → Type 0) (e : Environment) → ReadsWell e W → (c : Context) → W c → (l : Left) (xs : List RetypedTree) (ty : TypeData) (o : Result (List Definition) Refusal) (m : Left) → RetypedRead e c 0 l xs ty o m → WhereOk o (AllDefined (next c))
retyped_read W e reads c whole l xs ty o m (named.term_refused r after h) = tt
retyped_read W e reads c whole l xs ty o m (named.type_refused ts r between after h k) = tt
retyped_read W e reads c whole l xs ty o m (named.both_read ts t between after h k) =
    retyped_stand (next c) t xs ts (reads.type_of c whole between after ty t k) (terms_stand W e reads c whole l (map retyped_term xs) (Ok ts) between h)
