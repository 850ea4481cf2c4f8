-- Compact statements.
use Rattle.std.proofs.Common.{◌≡◌, ◌+◌, ℕ, Bool, true, false, if◌then◌else◌, List, [], ◌∷◌, ◌++◌, map, length, refl, sym, ap, ◌∙◌, subst, Option, Some, None, Result, Ok, Err}
use Rattle.std.proofs.lemmas.Bool.{and_parts}
use Rattle.mz_base.specs.declared.place.Place.{Place}
use Rattle.mz_logic.specs.Term.{Term}
use Rattle.mz_logic.specs.Formula.{Formula}
use Rattle.mz_logic.specs.Indices.{is_below}
use Rattle.mz_logic.specs.Derives.{Derives}
use Rattle.mz_core.specs.Statement.{Statement, Eq}
use Rattle.mz_core.specs.Erasure.{erase}
use Rattle.mz_core.specs.InForce.{term_in_force}
use Rattle.mz_core.specs.declared.outcome.Left.{Left}
use Rattle.mz_context.specs.Context.{next}
use Rattle.mz_context.specs.declared.context.Context.{Context}
use Rattle.mz_names.specs.Closing.{with_variables, for_all}
use Rattle.mz_names.specs.declared.variable.Variable.{Variable}
use Rattle.mz_sizes.specs.Sizes.{statement_keeps}
use Rattle.mz_thesis_laws.proofs.UnfoldProofs.{some-inj, none_some}
use Rattle.mz_formulas.specs.declared.sentence.Sentence.{Sentence}
use Rattle.mz_steps.specs.Equalities.{neighbours, last_of, ends_equal}
use Rattle.mz_tree_proof.specs.declared.equality_step.EqualityStepTree.{EqualityStepTree}
use Rattle.mz_tree_proof.specs.declared.propositions.PropositionTree.{PropositionTree}
use Rattle.mz_steps_laws.specs.Facts.{facts}
use Rattle.mz_parts.specs.Named.{side_of}
use Rattle.mz_justified.specs.declared.proof_fault.ProofRefusal.{ProofRefusal}
use Rattle.mz_block_laws.specs.Orders.{Stands, TermStands, AreTyped}
use Rattle.mz_block_laws.specs.Orders.{AllStand as AllBehind}
use Rattle.mz_block_laws.proofs.OrderLemmas.{facts_in_force, typed_stand, all_typed, stands_behind, next_with_variables, sentence_stands_law}
use Rattle.mz_block_laws.proofs.EqualityProofs.{equation_stands, last_stands, equalities_law}
use Rattle.mz_block_laws.proofs.MetProofs.{mapped_member}
use Rattle.mz_walk.specs.Compact as compact
use Rattle.mz_walk.specs.Compact.{saying, said_of, equalities_closed, EqualityMade, EqualityRead, CompactRead}
use Rattle.mz_walk.specs.Within.{kept_first, all_kept}
use Rattle.mz_walk.specs.declared.compact.Compact.{Compact}
use Rattle.mz_walk.specs.declared.compact.Said.{Said}
use Rattle.mz_walk_laws.specs.Grounds.{Basis, ReadsWell, IsProper}
use Rattle.mz_walk_laws.proofs.Outcomes.{WhereOk}
use Rattle.mz_walk_laws.proofs.ReadingLemmas.{is_closed_over, sentence_stands, whole_with, terms_stand, AllTermsStand, each_term}
use Rattle.mz_walk_laws.proofs.JustifiedProofs.{AllDerived, AllStand}

-- what is justified stands, and what is stated derives from it
pub record SaidStands (ax held : List Formula) (c : Context) (x : Sentence) (p : Said) : Type 0 where
  pub states : Stands (next c) p.states
  pub further : AllStand (next c) p.further
  pub sound : Derives ax (facts c ++ held) (erase x.closed) → AllDerived ax (facts c ++ held) p.further → Derives ax (facts c ++ held) (erase p.states)

pub record CompactStands (ax held : List Formula) (c : Context) (x : Compact) : Type 0 where
  pub sentence : AllBehind (next c) x.sentence.variables x.sentence.inner
  pub is_closed : x.sentence.closed ≡ for_all (next c) x.sentence.variables x.sentence.inner
  pub said : SaidStands ax held c x.sentence x.said

-- statements within the limits
first_kept : (b : Bool) (s : Statement) (rs ss ts : List Statement) → rs ≡ ss → (if b then Some (s ∷ rs) else None) ≡ Some ts → ts ≡ s ∷ ss
first_kept true s rs ss ts e h = sym (some-inj (s ∷ rs) ts h) ∙ ap (λ us. s ∷ us) e
first_kept false s rs ss ts e h = absurd (none_some ts h)

kept_then : (s : Statement) (ss : List Statement) (o : Option (List Statement)) → ((rs : List Statement) → o ≡ Some rs → rs ≡ ss) → (ts : List Statement) → kept_first s o ≡ Some ts → ts ≡ s ∷ ss
kept_then s ss None each ts h = absurd (none_some ts h)
kept_then s ss (Some rs) each ts h = first_kept (statement_keeps s) s rs ss ts (each rs refl) h

pub kept_are : (ss ts : List Statement) → all_kept ss ≡ Some ts → ts ≡ ss
kept_are [] ts h = sym (some-inj [] ts h)
kept_are (s ∷ ss) ts h = kept_then s ss (all_kept ss) (λ rs e. kept_are ss rs e) ts h

-- iterative equalities
neighbours_stand : (n : ℕ) (vs : List Variable) → AreTyped n vs → (u : Term) (us : List Term) → TermStands (length vs + n) u → AllTermsStand (length vs + n) us → AllStand n (map (for_all n vs) (neighbours u us))
neighbours_stand n vs typed u [] wu ws = tt
neighbours_stand n vs typed u (w ∷ ws) wu all =
    (sentence_stands_law n vs (Eq u w) (typed_stand n vs (Eq u w) typed (equation_stands (length vs + n) u w wu all.0)), neighbours_stand n vs typed w ws all.0 all.1)

whole_said : (ax held : List Formula) (W : Context → Type 0) (b : Basis) (c : Context) → IsProper W b held c → (x : Sentence) → AllBehind (next c) x.variables x.inner → x.closed ≡ for_all (next c) x.variables x.inner → (t u : Term) (us : List Term) → x.inner ≡ Eq t u → AllTermsStand (length x.variables + next c) us → SaidStands ax held c x (saying (for_all (next c) x.variables (ends_equal t (u ∷ us))) (map (for_all (next c) x.variables) (neighbours u us)))
whole_said ax held W b c p x w closed t u us is ws =
    let n : ℕ = next c in
    let vs : List Variable = x.variables in
    let m : ℕ = length vs + n in
    let typed : AreTyped n vs = all_typed n vs x.inner w in
    let first : Stands m (Eq t u) = subst (Stands m) is (stands_behind n vs x.inner w) in
    let force : (term_in_force m t ≡ true) × (term_in_force m u ≡ true) = and_parts (term_in_force m t) (term_in_force m u) first.0 in
    let below : (is_below 0 t ≡ true) × (is_below 0 u ≡ true) = and_parts (is_below 0 t) (is_below 0 u) first.1 in
    let wt : TermStands m t = (below.0, force.0) in
    let wu : TermStands m u = (below.1, force.1) in
    let last : TermStands m (last_of u us) = last_stands m u us wu (each_term m us ws) in
    let over : x.closed ≡ for_all n vs (Eq t u) = closed ∙ ap (for_all n vs) is in
    record {
      states = sentence_stands_law n vs (Eq t (last_of u us)) (typed_stand n vs (Eq t (last_of u us)) typed (equation_stands m t (last_of u us) wt last));
      further = neighbours_stand n vs typed u us wu ws;
      sound = λ d all. equalities_law ax (facts c ++ held) n vs (facts_in_force held c p.order) typed t u us (λ a there. each_term m (t ∷ u ∷ us) (wt, (wu, ws)) a there) (subst (λ s. Derives ax (facts c ++ held) (erase s)) over d)
          (λ s there. all (for_all n vs s) (mapped_member (for_all n vs) s (neighbours u us) there));
    }

abbrev head_or : Statement → List Statement → Statement
head_or s [] = s
head_or s (t ∷ ts) = t

abbrev tail_of : List Statement → List Statement
tail_of [] = []
tail_of (t ∷ ts) = ts

saying-said_again : (p : Said) (s : Statement) (ss : List Statement) → p.states ∷ p.further ≡ s ∷ ss → saying s ss ≡ p
saying-said_again p s ss e = λ i. record { states = sym (ap (head_or s) e) i; further = sym (ap tail_of e) i }

made_stands : (ax held : List Formula) (W : Context → Type 0) (b : Basis) (c : Context) → IsProper W b held c → (first : Place) (x : Sentence) → AllBehind (next c) x.variables x.inner → x.closed ≡ for_all (next c) x.variables x.inner → (us : List Term) → AllTermsStand (length x.variables + next c) us → (o : Result Said ProofRefusal) → EqualityMade first (next c) x us o → WhereOk o (SaidStands ax held c x)
made_stands ax held W b c p first x w closed us ws o (compact.no_equation h) = tt
made_stands ax held W b c p first x w closed us ws o (compact.too_large t u is h) = tt
made_stands ax held W b c p first x w closed us ws o (compact.equality t u q is h) =
    let e : q.states ∷ q.further ≡ equalities_closed (next c) x.variables t u us = kept_are (equalities_closed (next c) x.variables t u us) (q.states ∷ q.further) h in
    subst (SaidStands ax held c x) (saying-said_again q (for_all (next c) x.variables (ends_equal t (u ∷ us))) (map (for_all (next c) x.variables) (neighbours u us)) e)
    (whole_said ax held W b c p x w closed t u us is ws)

equality_stands : (W : Context → Type 0) (b : Basis) → ReadsWell b.env W → (held : List Formula) (c : Context) → IsProper W b held c → (first : Place) (l : Left) (x : Sentence) → AllBehind (next c) x.variables x.inner → x.closed ≡ for_all (next c) x.variables x.inner → (ks : List EqualityStepTree) (o : Result Said ProofRefusal) (m : Left) → EqualityRead b.env c first l x ks o m → WhereOk o (SaidStands b.axioms held c x)
equality_stands W b reads held c p first l x w closed ks o m (compact.sides_not_read r y h) = tt
equality_stands W b reads held c p first l x w closed ks o m (compact.sides_read us y q h made) =
    let typed : AreTyped (next c) x.variables = all_typed (next c) x.variables x.inner w in
    let there : AllTermsStand (next (with_variables c x.variables)) us =
    terms_stand W b.env reads (with_variables c x.variables) (whole_with W b.env reads c p.is_whole x.variables typed) l (map side_of ks) (Ok us) y h in
    made_stands b.axioms held W b c p first x w closed us (subst (λ n. AllTermsStand n us) (next_with_variables c x.variables) there) q made

said_then : (ax held : List Formula) (c : Context) (x : Sentence) → AllBehind (next c) x.variables x.inner → x.closed ≡ for_all (next c) x.variables x.inner → (q : Result Said ProofRefusal) → WhereOk q (SaidStands ax held c x) → WhereOk (said_of x q) (CompactStands ax held c)
said_then ax held c x w closed (Ok p) h = record { sentence = w; is_closed = closed; said = h }
said_then ax held c x w closed (Err r) h = tt

pub compact_stands : (W : Context → Type 0) (b : Basis) → ReadsWell b.env W → (held : List Formula) (c : Context) → IsProper W b held c → (first : Place) (l : Left) (p : PropositionTree) (ks : List EqualityStepTree) (o : Result Compact ProofRefusal) (m : Left) → CompactRead b.env c first l p ks o m → WhereOk o (CompactStands b.axioms held c)
compact_stands W b reads held c proper first l p ks o m (compact.not_read js r x h) = tt
compact_stands W b reads held c proper first l p ks o m (compact.plain x y h) = record {
  sentence = reads.sentence c proper.is_whole l y p.formula x h;
  is_closed = is_closed_over b.env c l y p.formula x h;
  said = record { states = sentence_stands W b.env reads c proper.is_whole l y p.formula x h; further = tt; sound = λ d all. d };
}
compact_stands W b reads held c proper first l p ks o m (compact.iterative k js x q y z h i) =
    let w : AllBehind (next c) x.variables x.inner = reads.sentence c proper.is_whole l y p.formula x h in
    let closed : x.closed ≡ for_all (next c) x.variables x.inner = is_closed_over b.env c l y p.formula x h in
    subst (λ r. WhereOk r (CompactStands b.axioms held c)) (sym i.2) (said_then b.axioms held c x w closed i.0 (equality_stands W b reads held c proper first y x w closed (k ∷ js) i.0 z i.1))
