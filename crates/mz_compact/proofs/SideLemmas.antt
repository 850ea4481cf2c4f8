-- What the code of further sides tells.
use Rattle.std.proofs.Common.{◌≡◌, ◌+◌, ℕ, suc, map, List, [], ◌∷◌, ◌++◌, length, Bool, true, false, refl, sym, ap, ◌∙◌, subst, arith}
use Rattle.std.specs.Prelude.{◌&&◌, Result, Ok, Err}
use Rattle.std.proofs.lemmas.List.{append-nil, append_assoc, length-append}
use Rattle.mz_base.specs.declared.place.Place.{Place}
use Rattle.mz_logic.specs.Term.{Term}
use Rattle.mz_core.specs.Statement.{Statement}
use Rattle.mz_core.specs.declared.outcome.Left.{Left}
use Rattle.mz_context.specs.Context.{next}
use Rattle.mz_context.specs.declared.context.Context.{Context}
use Rattle.mz_environment.specs.declared.environment.Environment.{Environment}
use Rattle.mz_names.specs.Closing.{with_variables, for_all}
use Rattle.mz_names.specs.declared.refusal.Refusal.{Refusal}
use Rattle.mz_names.specs.declared.refusal.Refusal.TheVariants.{TooLarge}
use Rattle.mz_names.specs.declared.variable.Variable.{Variable}
use Rattle.mz_fits.proofs.FitLemmas.{empty}
use Rattle.mz_tree.specs.Trees.{TermData}
use Rattle.mz_formulas.specs.declared.sentence.Sentence.{Sentence}
use Rattle.mz_steps.specs.Equalities.{neighbours}
use Rattle.mz_parts.specs.Named as nm
use Rattle.mz_parts.specs.Named.{TermsReadBehind, side_of}
use Rattle.mz_tree_proof.specs.declared.propositions.PropositionTree.{PropositionTree}
use Rattle.mz_tree_proof.specs.declared.equality_step.EqualityStepTree.{EqualityStepTree}
use Rattle.mz_obligations.specs.declared.obligation.Extent.{Extent}
use Rattle.mz_obligations.specs.declared.obligation.Obligation.{Obligation}
use Rattle.mz_justified.specs.Answers.{OnMade}
use Rattle.mz_justified.specs.Justified.{Justified, IsPut, Put}
use Rattle.mz_justified.specs.Kept.{justification_keeps}
use Rattle.mz_justified.specs.declared.proof_fault.ProofFault.{ProofFault}
use Rattle.mz_justified.specs.declared.proof_fault.ProofRefusal.{ProofRefusal}
use Rattle.mz_justified.specs.declared.proof_fault.ProofRefusal.TheVariants.{StepNoFit, Resolve}
use Rattle.mz_walk.specs.declared.compact.Compact.{Compact}
use Rattle.mz_walk.specs.declared.compact.Said.{Said}
use Rattle.mz_walk.specs.Walked.{Walked, Made, Refused, behind}
use Rattle.mz_walk.specs.Compact as cp
use Rattle.mz_walk.specs.Compact.{saying, compact, equalities, said_of, EqualityMade, EqualityRead, CompactRead, place_behind, sides_keep, JustifiesSides}
use Rattle.mz_walk.specs.Answers.{IsBrought, Brings}
use Rattle.mz_performing.proofs.AnswerLemmas.{on_err, on_ok}
use Rattle.mz_performing.proofs.KeptLemmas.{all_kept-is}

-- obligations in front of what comes behind
pub behind_more : {X : Type 0} (os ps : List Obligation) (o : Walked X) → behind (os ++ ps) o ≡ behind os (behind ps o)
behind_more os ps (Made qs x) = ap (λ xs. Made xs x) (append_assoc os ps qs)
behind_more os ps (Refused r) = refl

pub behind_none : {X : Type 0} (o : Walked X) → behind [] o ≡ o
behind_none (Made qs x) = refl
behind_none (Refused r) = refl

-- how far it has come: what the rest makes behind the obligations so far, all make
pub record Siding (e : Environment) (at : Extent) (c : Context) (first semicolon : Place) (rest : List EqualityStepTree) (equations : List Statement) (l : Left) (os : List Obligation) (all : List EqualityStepTree) (ss : List Statement) (from : Left) (old : List Obligation) : Type 0 where
  pub made : List Obligation
  pub are_last : os ≡ old ++ made
  pub goes_on : (o : Walked Left) → JustifiesSides e at c first semicolon rest equations l o → JustifiesSides e at c first semicolon all ss from (behind made o)

pub told_siding : (e : Environment) (at : Extent) (c : Context) (first semicolon : Place) (all : List EqualityStepTree) (ss : List Statement) (l : Left) (os : List Obligation) → Siding e at c first semicolon all ss l os all ss l os
told_siding e at c first semicolon all ss l os = record { made = []; are_last = sym (append-nil os); goes_on = λ o h. subst (JustifiesSides e at c first semicolon all ss l) (sym (behind_none o)) h }

pub told_side : {X : Type 0} (e : Environment) (at : Extent) (c : Context) (first semicolon place : Place) (rest others all : List EqualityStepTree) (k : EqualityStepTree) (equations more ss : List Statement) (s : Statement) (l m from : Left) (os ps old : List Obligation) (x : Result X ProofFault) (y : X) →
    rest ≡ k ∷ others → equations ≡ s ∷ more → place ≡ place_behind others semicolon → OnMade x (Put (λ o. Justified e at c first false place k.simple s l o m) os ps) → x ≡ Ok y →
    Siding e at c first semicolon rest equations l os all ss from old → Siding e at c first semicolon others more m ps all ss from old
told_side {X} e at c first semicolon place rest others all k equations more ss s l m from os ps old x y er es ep h ex g =
    let P : Result X ProofRefusal → Type 0 = Put (λ o. Justified e at c first false (place_behind others semicolon) k.simple s l o m) os ps in
    let at_place : OnMade x P = subst (λ z. OnMade x (Put (λ o. Justified e at c first false z k.simple s l o m) os ps)) ep h in
    let put : IsPut (λ o. Justified e at c first false (place_behind others semicolon) k.simple s l (Ok o) m) os ps = on_ok P x y ex at_place in
    record {
      made = g.made ++ put.obligation ∷ [];
      are_last = put.is_last ∙ (ap (λ xs. xs ++ put.obligation ∷ []) g.are_last ∙ append_assoc old g.made (put.obligation ∷ []));
      goes_on = λ o z. subst (JustifiesSides e at c first semicolon all ss from) (sym (behind_more g.made (put.obligation ∷ []) o))
          (g.goes_on (behind (put.obligation ∷ []) o) (subst (λ xs. JustifiesSides e at c first semicolon xs equations l (behind (put.obligation ∷ []) o)) (sym er)
          (subst (λ xs. JustifiesSides e at c first semicolon (k ∷ others) xs l (behind (put.obligation ∷ []) o)) (sym es) (cp.one_more k others s more l m put.obligation o put.is_owed z))));
    }

pub told_side_unjustified : {X : Type 0} (Y : Type 0) (e : Environment) (at : Extent) (c : Context) (first semicolon place : Place) (rest others all : List EqualityStepTree) (k : EqualityStepTree) (equations more ss : List Statement) (s : Statement) (l m from after : Left) (os ps old new : List Obligation) (x : Result X ProofFault) (f : ProofFault) →
    rest ≡ k ∷ others → equations ≡ s ∷ more → place ≡ place_behind others semicolon → OnMade x (Put (λ o. Justified e at c first false place k.simple s l o m) os ps) → x ≡ Err f →
    Siding e at c first semicolon rest equations l os all ss from old → OnMade {X = Y} (Err f) (Brings (λ o. JustifiesSides e at c first semicolon all ss from o) after old new)
told_side_unjustified {X} Y e at c first semicolon place rest others all k equations more ss s l m from after os ps old new x f er es ep h ex g =
    let P : Result X ProofRefusal → Type 0 = Put (λ o. Justified e at c first false (place_behind others semicolon) k.simple s l o m) os ps in
    let Q : Result Y ProofRefusal → Type 0 = Brings (λ o. JustifiesSides e at c first semicolon all ss from o) after old new in
    let at_place : OnMade x P = subst (λ z. OnMade x (Put (λ o. Justified e at c first false z k.simple s l o m) os ps)) ep h in
    on_err P Q x f ex at_place (λ r z. g.goes_on (Refused r) (subst (λ xs. JustifiesSides e at c first semicolon xs equations l (Refused r)) (sym er)
    (subst (λ xs. JustifiesSides e at c first semicolon (k ∷ others) xs l (Refused r)) (sym es) (cp.not_justified k others s more l m r z))))

pub told_sides_end : (e : Environment) (at : Extent) (c : Context) (first semicolon : Place) (rest all : List EqualityStepTree) (equations ss : List Statement) (l from : Left) (os old : List Obligation) → length rest ≡ 0 → length equations ≡ length rest →
    Siding e at c first semicolon rest equations l os all ss from old → IsBrought (λ qs. JustifiesSides e at c first semicolon all ss from (Made qs l)) old os
told_sides_end e at c first semicolon rest all equations ss l from os old er el g =
    let none : JustifiesSides e at c first semicolon rest equations l (Made [] l) = subst (λ xs. JustifiesSides e at c first semicolon xs equations l (Made [] l)) (sym (empty rest er))
    (subst (λ xs. JustifiesSides e at c first semicolon [] xs l (Made [] l)) (sym (empty equations (el ∙ er))) (cp.none_owed l)) in
    record { made = g.made; is_made = subst (λ xs. JustifiesSides e at c first semicolon all ss from (Made xs l)) (append-nil g.made) (g.goes_on (Made [] l) none); are_last = g.are_last }

pub told_lengths : (rest others : List EqualityStepTree) (k : EqualityStepTree) (equations more : List Statement) (s : Statement) → rest ≡ k ∷ others → equations ≡ s ∷ more → length equations ≡ length rest → length more ≡ length others
told_lengths rest others k equations more s er es h = omega (arith, ap length er, ap length es, h)

-- where a side is left, an equation is
pub told_no_equation : (rest others : List EqualityStepTree) (k : EqualityStepTree) (equations : List Statement) → rest ≡ k ∷ others → length equations ≡ 0 → length equations ≡ length rest → ⊥
told_no_equation rest others k equations er en h = omega (arith, ap length er)

pub ruleset side_rules = (told_siding, told_lengths, told_side, told_side_unjustified, told_sides_end)

-- whether the instances for their equations keep the limits: for those that are left as for all
pub told_keep_turn : (e : Environment) (c : Context) (rest others : List EqualityStepTree) (k : EqualityStepTree) (equations more : List Statement) (s : Statement) (b : Bool) (all : List EqualityStepTree) (ss : List Statement) → rest ≡ k ∷ others → equations ≡ s ∷ more → b ≡ justification_keeps e c false k.simple s → b ≡ true →
    sides_keep e c rest equations ≡ sides_keep e c all ss → sides_keep e c others more ≡ sides_keep e c all ss
told_keep_turn e c rest others k equations more s b all ss er es eb e1 h =
    sym (ap (λ y. y && sides_keep e c others more) (sym eb ∙ e1)) ∙ (sym (ap (λ xs. sides_keep e c xs equations) er ∙ ap (sides_keep e c (k ∷ others)) es) ∙ h)

pub told_keep_stop : (e : Environment) (c : Context) (rest others : List EqualityStepTree) (k : EqualityStepTree) (equations more : List Statement) (s : Statement) (b : Bool) (all : List EqualityStepTree) (ss : List Statement) → rest ≡ k ∷ others → equations ≡ s ∷ more → b ≡ justification_keeps e c false k.simple s → b ≡ false →
    sides_keep e c rest equations ≡ sides_keep e c all ss → false ≡ sides_keep e c all ss
told_keep_stop e c rest others k equations more s b all ss er es eb e0 h =
    sym (ap (λ y. y && sides_keep e c others more) (sym eb ∙ e0)) ∙ (sym (ap (λ xs. sides_keep e c xs equations) er ∙ ap (sides_keep e c (k ∷ others)) es) ∙ h)

pub told_keep_none : (e : Environment) (c : Context) (rest others : List EqualityStepTree) (k : EqualityStepTree) (equations : List Statement) (all : List EqualityStepTree) (ss : List Statement) → rest ≡ k ∷ others → length equations ≡ 0 → sides_keep e c rest equations ≡ sides_keep e c all ss → true ≡ sides_keep e c all ss
told_keep_none e c rest others k equations all ss er en h = sym (ap (λ xs. sides_keep e c xs equations) er ∙ ap (sides_keep e c (k ∷ others)) (empty equations en)) ∙ h

pub told_keep_end : (e : Environment) (c : Context) (rest : List EqualityStepTree) (equations : List Statement) (all : List EqualityStepTree) (ss : List Statement) → length rest ≡ 0 → sides_keep e c rest equations ≡ sides_keep e c all ss → true ≡ sides_keep e c all ss
told_keep_end e c rest equations all ss er h = sym (ap (λ xs. sides_keep e c xs equations) (empty rest er)) ∙ h

pub ruleset keep_rules = (told_keep_turn, told_keep_stop, told_keep_none, told_keep_end)

-- there are as many equations as further sides
terms-length : (e : Environment) (c : Context) (least : ℕ) (l m : Left) (ts : List TermData) (before : List Term) (o : Result (List Term) Refusal) → TermsReadBehind e c least l ts before o m → (us : List Term) → o ≡ Ok us → length us ≡ length before + length ts
terms-length e c least _ _ _ _ _ (nm.no_more l before) us eo = let is : us ≡ before = cc in ap length is ∙ omega arith
terms-length e c least _ _ _ _ _ (nm.one_refused l m t ts before r h) us eo = let bad : Err r ≡ Ok us = eo in cc
terms-length e c least _ _ _ _ _ (nm.one_read l b m t ts before u o h k) us eo = omega (arith, terms-length e c least b m ts (before ++ u ∷ []) o k us eo, length-append before (u ∷ []))

sides-map : (ks : List EqualityStepTree) → length (map side_of ks) ≡ length ks
sides-map [] = refl
sides-map (k ∷ ks) = ap suc (sides-map ks)

neighbours-length : (u : Term) (us : List Term) → length (neighbours u us) ≡ length us
neighbours-length u [] = refl
neighbours-length u (v ∷ us) = ap suc (neighbours-length v us)

map-length : (n : ℕ) (vs : List Variable) (ss : List Statement) → length (map (for_all n vs) ss) ≡ length ss
map-length n vs [] = refl
map-length n vs (s ∷ ss) = ap suc (map-length n vs ss)

made-length : (first : Place) (n : ℕ) (x : Sentence) (us : List Term) (o : Result Said ProofRefusal) → EqualityMade first n x us o → (p : Said) → o ≡ Ok p → length p.further ≡ length us
made-length first n x us _ (cp.no_equation h) p eo = let bad : Err (StepNoFit first) ≡ Ok p = eo in cc
made-length first n x us _ (cp.too_large t u h k) p eo = let bad : Err (Resolve (TooLarge first)) ≡ Ok p = eo in cc
made-length first n x us _ (cp.equality t u q h k) p eo =
    let is : p ≡ q = cc in
    let all : q.states ∷ q.further ≡ map (for_all n x.variables) (equalities t u us) = all_kept-is (map (for_all n x.variables) (equalities t u us)) (q.states ∷ q.further) k in
    omega (arith, ap (λ y. length y.further) is, ap length all, map-length n x.variables (neighbours u us), neighbours-length u us)

sides-length : (e : Environment) (c : Context) (first : Place) (l m : Left) (x : Sentence) (ks : List EqualityStepTree) (o : Result Said ProofRefusal) → EqualityRead e c first l x ks o m → (p : Said) → o ≡ Ok p → length p.further ≡ length ks
sides-length e c first l _ x ks _ (cp.sides_not_read r m h) p eo = let bad : Err (Resolve r) ≡ Ok p = eo in cc
sides-length e c first l _ x ks _ (cp.sides_read us m o h k) p eo =
    omega (arith, made-length first (next c) x us o k p eo, terms-length e (with_variables c x.variables) 0 l m (map side_of ks) [] (Ok us) h us refl, sides-map ks)

said-further : (x : Sentence) (q : Result Said ProofRefusal) (y : Compact) → Ok y ≡ said_of x q → (p : Said) × (q ≡ Ok p) × (y.said ≡ p)
said-further x (Ok p) y e = (p, refl, cc)
said-further x (Err r) y e = let bad : Ok y ≡ Err r = e in cc

pub further-length : (e : Environment) (c : Context) (first : Place) (l m : Left) (p : PropositionTree) (ks : List EqualityStepTree) (o : Result Compact ProofRefusal) → CompactRead e c first l p ks o m → (x : Compact) → o ≡ Ok x → length x.said.further ≡ length ks
further-length e c first l _ p _ _ (cp.not_read ks r m h) x eo = let bad : Err (Resolve r) ≡ Ok x = eo in cc
further-length e c first l _ p _ _ (cp.plain s m h) x eo = let is : x ≡ compact s (saying s.closed []) = cc in ap (λ y. length y.said.further) is
further-length e c first l _ p _ _ (cp.iterative k ks s o b m h g) x eo =
    let f = said-further s g.0 x (sym eo ∙ g.2) in
    ap (λ y. length y.further) f.2 ∙ sides-length e c first b m s (k ∷ ks) g.0 g.1 f.0 f.1
