-- What the code of what is told of a split ahead tells.
use Rattle.std.proofs.Common.{◌≡◌, ◌<◌, ◌≤◌, ◌+◌, ℕ, List, [], ◌∷◌, ◌++◌, length, map, drop, get_or, add-one, Bool, true, false, Option, Some, None, refl, sym, ap, ◌∙◌, subst}
use Rattle.std.specs.Prelude.{Result, Ok, Err, if◌then◌else◌}
use Rattle.std.proofs.lemmas.List.{append-nil, append_assoc}
use Rattle.mz_free.proofs.OccurringLemmas.{drop-at}
use Rattle.mz_base.specs.declared.place.Place.{Place}
use Rattle.mz_core.specs.Statement.{Statement}
use Rattle.mz_core.specs.Parts.{conjunction}
use Rattle.mz_core.specs.declared.outcome.Left.{Left}
use Rattle.mz_context.specs.declared.context.Context.{Context}
use Rattle.mz_context.specs.declared.labelled.LabelledStatement.{LabelledStatement}
use Rattle.mz_environment.specs.declared.environment.Environment.{Environment}
use Rattle.mz_names.specs.declared.refusal.Refusal.{Refusal}
use Rattle.mz_names.specs.declared.refusal.Refusal.TheVariants.{TooLarge}
use Rattle.mz_sizes.specs.Sizes.{statement_keeps}
use Rattle.mz_applied.specs.Within.{within}
use Rattle.mz_resolve.specs.Answers.{OnRead}
use Rattle.mz_resolve.specs.declared.resolve_fault.ResolveFault.{ResolveFault}
use Rattle.mz_resolve.specs.declared.resolve_fault.ResolveFault.TheVariants as reading
use Rattle.mz_tree_proof.specs.Reasoning.{SupposeData, SupposeList, StepList, supposes_of, CaseSuppose, more_supposes}
use Rattle.mz_tree_proof.specs.declared.propositions.HypothesesTree.{HypothesesTree}
use Rattle.mz_tree_proof.specs.declared.references.SimpleTree.{SimpleTree}
use Rattle.mz_steps.specs.Changes.{statement_of}
use Rattle.mz_parts.specs.Propositions.{PropositionsRead, hypotheses_in}
use Rattle.mz_justified.specs.Answers.{OnMade}
use Rattle.mz_justified.specs.Kept.{justification_keeps}
use Rattle.mz_justified.specs.declared.proof_fault.ProofFault.{ProofFault}
use Rattle.mz_justified.specs.declared.proof_fault.ProofFault.TheVariants as fault
use Rattle.mz_justified.specs.declared.proof_fault.ProofRefusal.{ProofRefusal}
use Rattle.mz_justified.specs.declared.proof_fault.ProofRefusal.TheVariants.{StepNoFit, Resolve}
use Rattle.mz_walk.specs.Performing.{is_linked}
use Rattle.mz_walk.specs.Walk as wa
use Rattle.mz_walk.specs.Walk.{disjunction_of, supposed_first, SuppositionsRead, nodes_alone, Foresees}
use Rattle.mz_performing.proofs.AnswerLemmas.{on_read, on_made}
use Rattle.mz_proof.specs.Ahead.{IsRead, ReadsCase, AreRead, ReadsCases, told_ahead, foreseen_of}
use Rattle.mz_proof.proofs.StepLemmas.{drop-gone}

-- a case
pub told_read : (e : Environment) (c : Context) (tree : SupposeData) (p q end semicolon : Place) (h : HypothesesTree) (ds : StepList) (l m : Left) (old new : List Statement) (x : Result (List LabelledStatement) ResolveFault) (ps : List LabelledStatement) (s : Statement) → tree ≡ CaseSuppose p h q ds end semicolon →
    OnRead x (λ o. PropositionsRead e c 0 l (hypotheses_in h) o m) → x ≡ Ok ps → s ≡ conjunction (map statement_of ps) → new ≡ old ++ s ∷ [] → IsRead e c tree l m old new
told_read e c tree p q end semicolon h ds l m old new x ps s et k ex es en =
    let P : Result (List LabelledStatement) Refusal → Type 0 = λ o. PropositionsRead e c 0 l (hypotheses_in h) o m in
    record {
      supposition = s;
      is_behind = en;
      goes_on = λ us o g. subst (λ t. SuppositionsRead e c (more_supposes t us) l (supposed_first s o)) (sym et)
          (subst (λ z. SuppositionsRead e c (more_supposes (CaseSuppose p h q ds end semicolon) us) l (supposed_first z o)) (sym es) (wa.one_supposed l m p q end semicolon h ds us ps o (on_read P x ps ex k) g));
    }

pub told_unreadable : (e : Environment) (c : Context) (tree : SupposeData) (p q end semicolon : Place) (h : HypothesesTree) (ds : StepList) (l m : Left) (x : Result (List LabelledStatement) ResolveFault) (f : ResolveFault) (r : Refusal) → tree ≡ CaseSuppose p h q ds end semicolon →
    OnRead x (λ o. PropositionsRead e c 0 l (hypotheses_in h) o m) → x ≡ Err f → f ≡ reading.Refused r → (us : SupposeList) → SuppositionsRead e c (more_supposes tree us) l None
told_unreadable e c tree p q end semicolon h ds l m x f r et k ex ef us =
    let unread : PropositionsRead e c 0 l (hypotheses_in h) (Err r) m = subst (λ z. OnRead z (λ o. PropositionsRead e c 0 l (hypotheses_in h) o m)) (ex ∙ ap Err ef) k in
    subst (λ t. SuppositionsRead e c (more_supposes t us) l None) (sym et) (wa.not_readable l m p q end semicolon h ds us r unread)

pub ruleset case_rules = (told_read, told_unreadable)

-- cases one after another
abbrev pub supposed_all : List Statement → Option (List Statement) → Option (List Statement)
supposed_all ss None = None
supposed_all ss (Some ts) = Some (ss ++ ts)

pub record Reading (e : Environment) (c : Context) (rest : List SupposeData) (l : Left) (ss : List Statement) (all : SupposeList) (from : Left) (sold : List Statement) : Type 0 where
  pub suppositions : List Statement
  pub are_behind : ss ≡ sold ++ suppositions
  pub goes_on : (o : Option (List Statement)) → SuppositionsRead e c (supposes_of rest) l o → SuppositionsRead e c all from (supposed_all suppositions o)

first_all : (s : Statement) (o : Option (List Statement)) → supposed_first s o ≡ supposed_all (s ∷ []) o
first_all s None = refl
first_all s (Some ts) = refl

then_all : (ss : List Statement) (s : Statement) (o : Option (List Statement)) → supposed_all ss (supposed_first s o) ≡ supposed_all (ss ++ s ∷ []) o
then_all ss s None = refl
then_all ss s (Some ts) = ap Some (sym (append_assoc ss (s ∷ []) ts))

abbrev pub ReadingAt : Environment → Context → List SupposeData → Left → List Statement → Context → SupposeList → Left → List Statement → Type 0
ReadingAt e d rest l ss c all from sold = Reading e c rest l ss all from sold × (d ≡ c)

case_true : (e : Environment) (c : Context) (t : SupposeData) (l m : Left) (old new : List Statement) (b : Bool) → ReadsCase e c t l m old new b → b ≡ true → IsRead e c t l m old new
case_true e c t l m old new b h eb = subst (ReadsCase e c t l m old new) eb h

case_false : (e : Environment) (c : Context) (t : SupposeData) (l m : Left) (old new : List Statement) (b : Bool) → ReadsCase e c t l m old new b → b ≡ false → (us : SupposeList) → SuppositionsRead e c (more_supposes t us) l None
case_false e c t l m old new b h eb = subst (ReadsCase e c t l m old new) eb h

pub told_first_unreadable : (e : Environment) (c : Context) (t : SupposeData) (more : List SupposeData) (l m : Left) (old new : List Statement) (b : Bool) → ReadsCase e c t l m old new b → b ≡ false → SuppositionsRead e c (more_supposes t (supposes_of more)) l None
told_first_unreadable e c t more l m old new b h eb = case_false e c t l m old new b h eb (supposes_of more)

pub told_reading : (e : Environment) (c d : Context) (t : SupposeData) (items more : List SupposeData) (l m : Left) (sold snew : List Statement) (b : Bool) → items ≡ more → ReadsCase e c t l m sold snew b → b ≡ true → d ≡ c → ReadingAt e d (drop 0 items) m snew c (more_supposes t (supposes_of more)) l sold
told_reading e c d t items more l m sold snew b ei h eb ed =
    let g : IsRead e c t l m sold snew = case_true e c t l m sold snew b h eb in (
      record {
        suppositions = g.supposition ∷ [];
        are_behind = g.is_behind;
        goes_on = λ o k. subst (SuppositionsRead e c (more_supposes t (supposes_of more)) l) (first_all g.supposition o) (g.goes_on (supposes_of more) o (subst (λ xs. SuppositionsRead e c (supposes_of xs) m o) ei k));
      },
      ed,
    )

pub told_read_turn : (e : Environment) (c d d' : Context) (t : SupposeData) (items : List SupposeData) (i : ℕ) (all : SupposeList) (l m from : Left) (ss snew sold : List Statement) (b : Bool) → i < length items → t ≡ get_or items i t → ReadsCase e d t l m ss snew b → b ≡ true → d' ≡ d →
    ReadingAt e d (drop i items) l ss c all from sold → ReadingAt e d' (drop (i + 1) items) m snew c all from sold
told_read_turn e c d d' t items i all l m from ss snew sold b lt et h eb ed g =
    let taken : IsRead e c t l m ss snew = case_true e c t l m ss snew b (subst (λ w. ReadsCase e w t l m ss snew b) g.1 h) eb in
    let er : drop i items ≡ t ∷ drop (i + 1) items = drop-at i items t lt et ∙ ap (λ j. t ∷ drop j items) (sym (add-one i)) in (
      record {
        suppositions = g.0.suppositions ++ taken.supposition ∷ [];
        are_behind = taken.is_behind ∙ (ap (λ xs. xs ++ taken.supposition ∷ []) g.0.are_behind ∙ append_assoc sold g.0.suppositions (taken.supposition ∷ []));
        goes_on = λ o k. subst (SuppositionsRead e c all from) (then_all g.0.suppositions taken.supposition o)
            (g.0.goes_on (supposed_first taken.supposition o) (subst (λ xs. SuppositionsRead e c (supposes_of xs) l (supposed_first taken.supposition o)) (sym er) (taken.goes_on (supposes_of (drop (i + 1) items)) o k)));
      },
      ed ∙ g.1,
    )

pub told_read_stop : (e : Environment) (c d : Context) (t : SupposeData) (items : List SupposeData) (i : ℕ) (all : SupposeList) (l m from : Left) (ss snew sold : List Statement) (b : Bool) → i < length items → t ≡ get_or items i t → ReadsCase e d t l m ss snew b → b ≡ false → ReadingAt e d (drop i items) l ss c all from sold →
    SuppositionsRead e c all from None
told_read_stop e c d t items i all l m from ss snew sold b lt et h eb g =
    let er : drop i items ≡ t ∷ drop (i + 1) items = drop-at i items t lt et ∙ ap (λ j. t ∷ drop j items) (sym (add-one i)) in
    g.0.goes_on None (subst (λ xs. SuppositionsRead e c (supposes_of xs) l None) (sym er) (case_false e c t l m ss snew b (subst (λ w. ReadsCase e w t l m ss snew b) g.1 h) eb (supposes_of (drop (i + 1) items))))

pub told_read_end : (e : Environment) (c d : Context) (items : List SupposeData) (i : ℕ) (all : SupposeList) (l from : Left) (ss sold : List Statement) → length items ≤ i → ReadingAt e d (drop i items) l ss c all from sold → AreRead e c all from sold ss
told_read_end e c d items i all l from ss sold le g =
    let whole : SuppositionsRead e c all from (Some (g.0.suppositions ++ [])) = g.0.goes_on (Some []) (subst (λ xs. SuppositionsRead e c (supposes_of xs) l (Some [])) (sym (drop-gone items i le)) (wa.none_supposed l)) in
    record { suppositions = g.0.suppositions; are_behind = g.0.are_behind; are_read = subst (λ xs. SuppositionsRead e c all from (Some xs)) (append-nil g.0.suppositions) whole }

pub told_read_back : (e : Environment) (c d : Context) (rest : List SupposeData) (all : SupposeList) (l from : Left) (ss sold : List Statement) → ReadingAt e d rest l ss c all from sold → d ≡ c
told_read_back e c d rest all l from ss sold g = g.1

pub ruleset reading_rules = (told_first_unreadable, told_reading, told_read_turn, told_read_stop, told_read_end, told_read_back)

-- what is told
pub told_not_linked : (e : Environment) (c : Context) (first : Place) (l : Left) (linked : Bool) (t : SimpleTree) (us : SupposeList) (k : Bool) → k ≡ is_linked linked c.previous → k ≡ false → Foresees e first c l linked t us (Some (StepNoFit first))
told_not_linked e c first l linked t us k ek e0 = wa.not_linked (sym ek ∙ e0)

pub told_not_foreseen : (e : Environment) (c : Context) (first : Place) (l : Left) (linked : Bool) (t : SimpleTree) (us : SupposeList) (k b : Bool) (old new : List Statement) → k ≡ is_linked linked c.previous → k ≡ true → ReadsCases e c us (nodes_alone l) old new b → b ≡ false → Foresees e first c l linked t us None
told_not_foreseen e c first l linked t us k b old new ek e1 h eb = wa.not_foreseen (sym ek ∙ e1) (subst (ReadsCases e c us (nodes_alone l) old new) eb h)

all_read : (e : Environment) (c : Context) (us : SupposeList) (l : Left) (old new : List Statement) (b : Bool) → ReadsCases e c us l old new b → b ≡ true → old ≡ [] → SuppositionsRead e c us l (Some new)
all_read e c us l old new b h eb eo =
    let g : AreRead e c us l old new = subst (ReadsCases e c us l old new) eb h in
    subst (λ xs. SuppositionsRead e c us l (Some xs)) (sym (g.are_behind ∙ ap (λ xs. xs ++ g.suppositions) eo)) g.are_read

by_size : (e : Environment) (c : Context) (first : Place) (l : Left) (linked : Bool) (t : SimpleTree) (us : SupposeList) (ss : List Statement) (y : Statement) (b : Bool) → is_linked linked c.previous ≡ true → SuppositionsRead e c us (nodes_alone l) (Some ss) →
    within statement_keeps first (disjunction_of ss) ≡ Ok y → justification_keeps e c linked t y ≡ b → Foresees e first c l linked t us (if b then None else Some (Resolve (TooLarge first)))
by_size e c first l linked t us ss y true h k g n = wa.kept ss y h k g n
by_size e c first l linked t us ss y false h k g n = wa.instance_beyond ss y h k g n

foreseen : (e : Environment) (c : Context) (first : Place) (l : Left) (linked : Bool) (t : SimpleTree) (us : SupposeList) (ss : List Statement) (z : Result Statement Refusal) → is_linked linked c.previous ≡ true → SuppositionsRead e c us (nodes_alone l) (Some ss) →
    within statement_keeps first (disjunction_of ss) ≡ z → Foresees e first c l linked t us (foreseen_of e first c linked t z)
foreseen e c first l linked t us ss (Ok y) h k g = by_size e c first l linked t us ss y (justification_keeps e c linked t y) h k g refl
foreseen e c first l linked t us ss (Err r) h k g = wa.beyond ss r h k g

pub told_foreseen : {X : Type 0} (e : Environment) (c d : Context) (first : Place) (l : Left) (linked : Bool) (t : SimpleTree) (us : SupposeList) (k b : Bool) (old new ss : List Statement) (z : Result Statement Refusal) (q : Result X ProofFault) → k ≡ is_linked linked c.previous → k ≡ true → old ≡ [] → ReadsCases e c us (nodes_alone l) old new b → b ≡ true → ss ≡ new →
    d ≡ c → z ≡ within statement_keeps first (disjunction_of ss) → OnMade q (λ o. told_ahead o ≡ foreseen_of e first d linked t z) → OnMade q (λ o. Foresees e first c l linked t us (told_ahead o))
told_foreseen {X} e c d first l linked t us k b old new ss z q ek e1 en h eb es ed ez g =
    let P : Result X ProofRefusal → Type 0 = λ o. told_ahead o ≡ foreseen_of e first d linked t z in
    let Q : Result X ProofRefusal → Type 0 = λ o. Foresees e first c l linked t us (told_ahead o) in
    let there : Foresees e first c l linked t us (foreseen_of e first c linked t z) =
    foreseen e c first l linked t us new z (sym ek ∙ e1) (all_read e c us (nodes_alone l) old new b h eb en) (ap (λ xs. within statement_keeps first (disjunction_of xs)) (sym es) ∙ sym ez) in
    on_made P Q q g
    (λ x m. subst (Foresees e first c l linked t us) (sym (m ∙ ap (λ w. foreseen_of e first w linked t z) ed)) there)
    (λ r m. subst (Foresees e first c l linked t us) (sym (m ∙ ap (λ w. foreseen_of e first w linked t z) ed)) there)

pub ruleset foresee_rules = (told_not_linked, told_not_foreseen, told_foreseen)

-- of the disjunction
pub told_not_made : (e : Environment) (c : Context) (first : Place) (linked : Bool) (t : SimpleTree) (z : Result Statement Refusal) (r : Refusal) → z ≡ Err r → Some (Resolve r) ≡ foreseen_of e first c linked t z
told_not_made e c first linked t z r ez = ap (foreseen_of e first c linked t) (sym ez)

pub told_large_instance : (e : Environment) (c : Context) (first : Place) (linked : Bool) (t : SimpleTree) (z : Result Statement Refusal) (y : Statement) (b : Bool) → z ≡ Ok y → b ≡ justification_keeps e c linked t y → b ≡ false → Some (Resolve (TooLarge first)) ≡ foreseen_of e first c linked t z
told_large_instance e c first linked t z y b ez eb n = sym (ap (foreseen_of e first c linked t) ez ∙ ap (λ k. if k then None else Some (Resolve (TooLarge first))) (sym eb ∙ n))

pub told_kept_instance : (e : Environment) (c : Context) (first : Place) (linked : Bool) (t : SimpleTree) (z : Result Statement Refusal) (y : Statement) (b : Bool) → z ≡ Ok y → b ≡ justification_keeps e c linked t y → b ≡ true → None ≡ foreseen_of e first c linked t z
told_kept_instance e c first linked t z y b ez eb n = sym (ap (foreseen_of e first c linked t) ez ∙ ap (λ k. if k then None else Some (Resolve (TooLarge first))) (sym eb ∙ n))

pub ruleset large_rules = (told_not_made, told_large_instance, told_kept_instance)
