-- What the code of chains tells.
use Rattle.std.proofs.Common.{◌≡◌, ◌<◌, ◌≤◌, ◌+◌, ℕ, zero, suc, List, [], ◌∷◌, length, map, drop, get_or, add-one, arith, refl, sym, ap, ◌∙◌, subst, Option, Some, Box}
use Rattle.std.specs.Prelude.{Result, Ok, Err}
use Rattle.std.specs.declared.alloc.Global.{Global}
use Rattle.mz_base.specs.declared.place.Place.{Place}
use Rattle.mz_core.specs.Statement.{Statement}
use Rattle.mz_context.specs.declared.context.Context.{Context}
use Rattle.mz_environment.specs.declared.environment.Environment.{Environment}
use Rattle.mz_names.specs.declared.refusal.Refusal.{Refusal}
use Rattle.mz_free.proofs.OccurringLemmas.{drop-at}
use Rattle.mz_tree.specs.Trees.{UnitData, ConjunctionData, ChainConjunction, next_conjunctions_of, next_units_of}
use Rattle.mz_tree.specs.Places.{first_place}
use Rattle.mz_tree.specs.Spell.{spell_conjunction, spell_unit}
use Rattle.mz_tree.specs.Views.{disjunction_of, conjunction_of, unit_of, next_conjunction_of, next_unit_of}
use Rattle.mz_tree.specs.declared.chain.Chain.{Chain}
use Rattle.mz_tree.specs.declared.chain.Next.{Next}
use Rattle.mz_tree.specs.declared.nodes.ConjunctionNode.{ConjunctionNode}
use Rattle.mz_tree.specs.declared.nodes.UnitNode.{UnitNode}
use Rattle.mz_tree.proofs.Views.{conjunction_of-is}
use Rattle.mz_joined.specs.Joined.{conjoined, disjoined}
use Rattle.mz_formulas.specs.Formulas as fo
use Rattle.mz_formulas.specs.Formulas.{listed_units, listed_conjunctions, ReadsDisjunction, ReadsDisjuncts, ReadsConjunction, ReadsConjuncts, ReadsUnit}

-- what stands behind a sign
abbrev pub unit_tree : Next Place (Box UnitNode Global) → UnitData
unit_tree n = unit_of n.tree.value

abbrev pub conjunction_tree : Next Place ConjunctionNode → ConjunctionData
conjunction_tree n = conjunction_of n.tree

listed_units-is : (items : List (Next Place (Box UnitNode Global))) → listed_units (next_units_of (map next_unit_of items)) ≡ map unit_tree items
listed_units-is [] = refl
listed_units-is (n ∷ ns) = ap (λ us. unit_of n.tree.value ∷ us) (listed_units-is ns)

listed_conjunctions-is : (items : List (Next Place ConjunctionNode)) → listed_conjunctions (next_conjunctions_of (map next_conjunction_of items)) ≡ map conjunction_tree items
listed_conjunctions-is [] = refl
listed_conjunctions-is (n ∷ ns) = ap (λ us. conjunction_of n.tree ∷ us) (listed_conjunctions-is ns)

drop-gone : {X : Type 0} (xs : List X) (i : ℕ) → length xs ≤ i → drop i xs ≡ []
drop-gone [] zero h = refl
drop-gone [] (suc i) h = refl
drop-gone (x ∷ xs) zero h = absurd (omega (arith, h))
drop-gone (x ∷ xs) (suc i) h = drop-gone xs i (omega (arith, h))

-- disjunctions: what the rest gives, all give
abbrev pub GivesDisjunction : Environment → ℕ → Place → Context → List (Next Place ConjunctionNode) → Result Statement Refusal → Context → Chain Place ConjunctionNode → Type 0
GivesDisjunction e least first c rest so_far b node = (o : Result Statement Refusal) → ReadsDisjuncts e least first c (map conjunction_tree rest) so_far o → ReadsDisjunction e least b (disjunction_of node) o

pub told_disjunction : (e : Environment) (least : ℕ) (first : Place) (c d : Context) (node : Chain Place ConjunctionNode) (items : List (Next Place ConjunctionNode)) (p : Result Statement Refusal) → first_place (spell_conjunction (conjunction_of node.first)) ≡ Some first → ReadsConjunction e least c (conjunction_of node.first) p → d ≡ c → items ≡ node.more.items → GivesDisjunction e least first d (drop 0 items) p c node
told_disjunction e least first c d node items p ef h ed ei o k =
    let m : ReadsDisjuncts e least first c (map conjunction_tree node.more.items) p o = subst (λ xs. ReadsDisjuncts e least first c (map conjunction_tree xs) p o) ei (subst (λ x. ReadsDisjuncts e least first x (map conjunction_tree items) p o) ed k) in
    fo.disjunction c (conjunction_of node.first) (next_conjunctions_of (map next_conjunction_of node.more.items)) first p o h ef (subst (λ xs. ReadsDisjuncts e least first c xs p o) (sym (listed_conjunctions-is node.more.items)) m)

no_disjuncts : (e : Environment) (least : ℕ) (first : Place) (c : Context) (p : Result Statement Refusal) → ReadsDisjuncts e least first c [] p p
no_disjuncts e least first c (Err r) = fo.disjunct_refused first c [] r
no_disjuncts e least first c (Ok s) = fo.no_disjunct first c s

pub told_disjunct_end : (e : Environment) (least : ℕ) (first : Place) (c b : Context) (node : Chain Place ConjunctionNode) (items : List (Next Place ConjunctionNode)) (i : ℕ) (so_far : Result Statement Refusal) → length items ≤ i → GivesDisjunction e least first c (drop i items) so_far b node → ReadsDisjunction e least b (disjunction_of node) so_far
told_disjunct_end e least first c b node items i so_far le g = g so_far (subst (λ xs. ReadsDisjuncts e least first c (map conjunction_tree xs) so_far so_far) (sym (drop-gone items i le)) (no_disjuncts e least first c so_far))

pub told_disjunct_stop : (e : Environment) (least : ℕ) (first : Place) (c b : Context) (node : Chain Place ConjunctionNode) (rest : List (Next Place ConjunctionNode)) (so_far : Result Statement Refusal) (r : Refusal) → so_far ≡ Err r → GivesDisjunction e least first c rest so_far b node → ReadsDisjunction e least b (disjunction_of node) (Err r)
told_disjunct_stop e least first c b node rest so_far r eo g = g (Err r) (subst (λ x. ReadsDisjuncts e least first c (map conjunction_tree rest) x (Err r)) (sym eo) (fo.disjunct_refused first c (map conjunction_tree rest) r))

pub told_disjunct_turn : (e : Environment) (least : ℕ) (first : Place) (c d b : Context) (node : Chain Place ConjunctionNode) (items : List (Next Place ConjunctionNode)) (i : ℕ) (n : Next Place ConjunctionNode) (so_far q : Result Statement Refusal) (s : Statement) → i < length items → n ≡ get_or items i n → so_far ≡ Ok s →
    ((ks : List ConjunctionData) (o : Result Statement Refusal) → ReadsDisjuncts e least first c ks q o → ReadsDisjuncts e least first c (conjunction_of n.tree ∷ ks) (Ok s) o) → d ≡ c → GivesDisjunction e least first c (drop i items) so_far b node → GivesDisjunction e least first d (drop (i + 1) items) q b node
told_disjunct_turn e least first c d b node items i n so_far q s lt en eo h ed g o k =
    let er : drop i items ≡ n ∷ drop (i + 1) items = drop-at i items n lt en ∙ ap (λ j. n ∷ drop j items) (sym (add-one i)) in
    let m : ReadsDisjuncts e least first c (map conjunction_tree (drop (i + 1) items)) q o = subst (λ x. ReadsDisjuncts e least first x (map conjunction_tree (drop (i + 1) items)) q o) ed k in
    let P : Result Statement Refusal → Type 0 = λ x. ReadsDisjuncts e least first c (map conjunction_tree (drop i items)) x o in
    g o (subst P (sym eo) (subst (λ xs. ReadsDisjuncts e least first c (map conjunction_tree xs) (Ok s) o) (sym er) (h (map conjunction_tree (drop (i + 1) items)) o m)))

pub told_or : (e : Environment) (least : ℕ) (first : Place) (c : Context) (k : ConjunctionData) (s : Statement) (p q : Result Statement Refusal) → ReadsConjunction e least c k p → q ≡ disjoined first s p → (ks : List ConjunctionData) (o : Result Statement Refusal) → ReadsDisjuncts e least first c ks q o → ReadsDisjuncts e least first c (k ∷ ks) (Ok s) o
told_or e least first c k s p q h eq ks o m = fo.disjunct first c k ks s p o h (subst (λ x. ReadsDisjuncts e least first c ks x o) eq m)

-- conjunctions in the same way
abbrev pub GivesConjunction : Environment → ℕ → Place → Context → List (Next Place (Box UnitNode Global)) → Result Statement Refusal → Context → ConjunctionNode → Type 0
GivesConjunction e least first c rest so_far b node = (o : Result Statement Refusal) → ReadsConjuncts e least first c (map unit_tree rest) so_far o → ReadsConjunction e least b (conjunction_of node) o

pub told_conjunction : (e : Environment) (least : ℕ) (first : Place) (c d : Context) (node : ConjunctionNode) (items : List (Next Place (Box UnitNode Global))) (p : Result Statement Refusal) → first_place (spell_unit (unit_of node.first.value)) ≡ Some first → ReadsUnit e least c (unit_of node.first.value) p → d ≡ c → items ≡ node.more.items → GivesConjunction e least first d (drop 0 items) p c node
told_conjunction e least first c d node items p ef h ed ei o k =
    let m : ReadsConjuncts e least first c (map unit_tree node.more.items) p o = subst (λ xs. ReadsConjuncts e least first c (map unit_tree xs) p o) ei (subst (λ x. ReadsConjuncts e least first x (map unit_tree items) p o) ed k) in
    subst (λ x. ReadsConjunction e least c x o) (sym (conjunction_of-is node))
    (fo.conjunction c (unit_of node.first.value) (next_units_of (map next_unit_of node.more.items)) first p o h ef (subst (λ xs. ReadsConjuncts e least first c xs p o) (sym (listed_units-is node.more.items)) m))

no_conjuncts : (e : Environment) (least : ℕ) (first : Place) (c : Context) (p : Result Statement Refusal) → ReadsConjuncts e least first c [] p p
no_conjuncts e least first c (Err r) = fo.conjunct_refused first c [] r
no_conjuncts e least first c (Ok s) = fo.no_conjunct first c s

pub told_conjunct_end : (e : Environment) (least : ℕ) (first : Place) (c b : Context) (node : ConjunctionNode) (items : List (Next Place (Box UnitNode Global))) (i : ℕ) (so_far : Result Statement Refusal) → length items ≤ i → GivesConjunction e least first c (drop i items) so_far b node → ReadsConjunction e least b (conjunction_of node) so_far
told_conjunct_end e least first c b node items i so_far le g = g so_far (subst (λ xs. ReadsConjuncts e least first c (map unit_tree xs) so_far so_far) (sym (drop-gone items i le)) (no_conjuncts e least first c so_far))

pub told_conjunct_stop : (e : Environment) (least : ℕ) (first : Place) (c b : Context) (node : ConjunctionNode) (rest : List (Next Place (Box UnitNode Global))) (so_far : Result Statement Refusal) (r : Refusal) → so_far ≡ Err r → GivesConjunction e least first c rest so_far b node → ReadsConjunction e least b (conjunction_of node) (Err r)
told_conjunct_stop e least first c b node rest so_far r eo g = g (Err r) (subst (λ x. ReadsConjuncts e least first c (map unit_tree rest) x (Err r)) (sym eo) (fo.conjunct_refused first c (map unit_tree rest) r))

pub told_conjunct_turn : (e : Environment) (least : ℕ) (first : Place) (c d b : Context) (node : ConjunctionNode) (items : List (Next Place (Box UnitNode Global))) (i : ℕ) (n : Next Place (Box UnitNode Global)) (so_far q : Result Statement Refusal) (s : Statement) → i < length items → n ≡ get_or items i n → so_far ≡ Ok s →
    ((ks : List UnitData) (o : Result Statement Refusal) → ReadsConjuncts e least first c ks q o → ReadsConjuncts e least first c (unit_of n.tree.value ∷ ks) (Ok s) o) → d ≡ c → GivesConjunction e least first c (drop i items) so_far b node → GivesConjunction e least first d (drop (i + 1) items) q b node
told_conjunct_turn e least first c d b node items i n so_far q s lt en eo h ed g o k =
    let er : drop i items ≡ n ∷ drop (i + 1) items = drop-at i items n lt en ∙ ap (λ j. n ∷ drop j items) (sym (add-one i)) in
    let m : ReadsConjuncts e least first c (map unit_tree (drop (i + 1) items)) q o = subst (λ x. ReadsConjuncts e least first x (map unit_tree (drop (i + 1) items)) q o) ed k in
    let P : Result Statement Refusal → Type 0 = λ x. ReadsConjuncts e least first c (map unit_tree (drop i items)) x o in
    g o (subst P (sym eo) (subst (λ xs. ReadsConjuncts e least first c (map unit_tree xs) (Ok s) o) (sym er) (h (map unit_tree (drop (i + 1) items)) o m)))

pub told_and : (e : Environment) (least : ℕ) (first : Place) (c : Context) (u : UnitData) (s : Statement) (p q : Result Statement Refusal) → ReadsUnit e least c u p → q ≡ conjoined first s p → (us : List UnitData) (o : Result Statement Refusal) → ReadsConjuncts e least first c us q o → ReadsConjuncts e least first c (u ∷ us) (Ok s) o
told_and e least first c u s p q h eq us o m = fo.conjunct first c u us s p o h (subst (λ x. ReadsConjuncts e least first c us x o) eq m)

pub ruleset disjunction_rules = (told_disjunction, told_disjunct_end, told_disjunct_stop, told_disjunct_turn)

pub ruleset conjunction_rules = (told_conjunction, told_conjunct_end, told_conjunct_stop, told_conjunct_turn)

pub ruleset join_rules = (told_or, told_and)
