-- What the code of formulas and units tells.
use Rattle.std.proofs.Common.{◌≡◌, ℕ, List, [], ◌∷◌, length, map, refl, sym, ap, ◌∙◌, subst, Option, Some, None, Box, Vec}
use Rattle.std.specs.Prelude.{Result, Ok, Err}
use Rattle.std.specs.declared.alloc.Global.{Global}
use Rattle.mz_base.specs.declared.place.Place.{Place}
use Rattle.mz_core.specs.Statement.{Statement, Truth, Not}
use Rattle.mz_context.specs.declared.context.Context.{Context}
use Rattle.mz_environment.specs.declared.environment.Environment.{Environment}
use Rattle.mz_names.specs.declared.refusal.Refusal.{Refusal}
use Rattle.mz_tree.specs.Trees.{FormulaData, DisjunctionData, UnitData, adjectives_of, PlainFormula, ImpliesFormula, IffFormula}
use Rattle.mz_tree.specs.Places.{first_place}
use Rattle.mz_tree.specs.Spell.{spell_disjunction}
use Rattle.mz_tree.specs.Views.{formula_of, disjunction_of, unit_of, quantified_of, term_of, terms_of, type_of, adjective_of}
use Rattle.mz_tree.specs.declared.word.Word.{Word}
use Rattle.mz_tree.specs.declared.chain.Chain.{Chain}
use Rattle.mz_tree.specs.declared.nodes.AdjectiveNode.{AdjectiveNode}
use Rattle.mz_tree.specs.declared.nodes.ConjunctionNode.{ConjunctionNode}
use Rattle.mz_tree.specs.declared.nodes.FormulaNode.{FormulaNode}
use Rattle.mz_tree.specs.declared.nodes.FormulaNode.TheVariants as formulas
use Rattle.mz_tree.specs.declared.nodes.QuantifiedNode.{QuantifiedNode}
use Rattle.mz_tree.specs.declared.nodes.TermNode.{TermNode}
use Rattle.mz_tree.specs.declared.nodes.TypeNode.{TypeNode}
use Rattle.mz_tree.specs.declared.nodes.UnitNode.{UnitNode}
use Rattle.mz_tree.specs.declared.nodes.UnitNode.TheVariants as units
use Rattle.mz_tree.proofs.Views.{formula_of-plain, formula_of-implies, formula_of-iff, unit_of-not, unit_of-contradiction, unit_of-thesis, unit_of-quantified, unit_of-group, unit_of-private, unit_of-private_with, unit_of-predicate, unit_of-predicate_right, unit_of-predicate_left, unit_of-predicate_both, unit_of-is_type, unit_of-is_adjectives}
use Rattle.mz_joined.specs.Joined.{denied, implied, equated, thesis_at}
use Rattle.mz_formulas.specs.Atoms.{ReadsPredicate, ReadsPrivate, ReadsIsType, ReadsIsAdjectives, listed_adjectives}
use Rattle.mz_formulas.proofs.AtomLemmas.{listed_adjectives-is}
use Rattle.mz_formulas.specs.Formulas as fo
use Rattle.mz_formulas.specs.Formulas.{ReadsFormula, ReadsDisjunction, ReadsUnit, ReadsQuantified}

-- formulas
formula_as : (e : Environment) (least : ℕ) (c : Context) (node other : FormulaNode) (f : FormulaData) (o : Result Statement Refusal) → node ≡ other → formula_of other ≡ f → ReadsFormula e least c f o → ReadsFormula e least c (formula_of node) o
formula_as e least c node other f o en ef h = subst (λ x. ReadsFormula e least c x o) (sym (ap formula_of en ∙ ef)) h

disjunction_is : (e : Environment) (least : ℕ) (c : Context) (d : DisjunctionData) (o p : Result Statement Refusal) → o ≡ p → ReadsDisjunction e least c d o → ReadsDisjunction e least c d p
disjunction_is e least c d o p eo h = subst (λ x. ReadsDisjunction e least c d x) eo h

pub told_plain : (e : Environment) (least : ℕ) (c : Context) (node : FormulaNode) (d : Chain Place ConjunctionNode) (o : Result Statement Refusal) → node ≡ formulas.Plain d → ReadsDisjunction e least c (disjunction_of d) o → ReadsFormula e least c (formula_of node) o
told_plain e least c node d o en h = formula_as e least c node (formulas.Plain d) _ o en (formula_of-plain d) (fo.plain c (disjunction_of d) o h)

pub told_implies_refused : (e : Environment) (least : ℕ) (c : Context) (node : FormulaNode) (d f : Chain Place ConjunctionNode) (p : Place) (o : Result Statement Refusal) (r : Refusal) → node ≡ formulas.Implies d p f → ReadsDisjunction e least c (disjunction_of d) o → o ≡ Err r → ReadsFormula e least c (formula_of node) (Err r)
told_implies_refused e least c node d f p o r en h eo =
    formula_as e least c node (formulas.Implies d p f) _ (Err r) en (formula_of-implies d p f) (fo.implies_refused c (disjunction_of d) (disjunction_of f) p r (disjunction_is e least c (disjunction_of d) o (Err r) eo h))

pub told_implies : (e : Environment) (least : ℕ) (c b : Context) (node : FormulaNode) (d f : Chain Place ConjunctionNode) (p first : Place) (o q x : Result Statement Refusal) (s : Statement) → node ≡ formulas.Implies d p f → ReadsDisjunction e least c (disjunction_of d) o → o ≡ Ok s → b ≡ c → ReadsDisjunction e least b (disjunction_of f) q → first_place (spell_disjunction (disjunction_of d)) ≡ Some first → x ≡ implied first s q → ReadsFormula e least c (formula_of node) x
told_implies e least c b node d f p first o q x s en h eo eb k ef ex =
    let P : Result Statement Refusal → Type 0 = λ y. ReadsFormula e least c (formula_of node) y in
    subst P (sym ex) (formula_as e least c node (formulas.Implies d p f) _ (implied first s q) en (formula_of-implies d p f)
    (fo.implies c (disjunction_of d) (disjunction_of f) p first s q (disjunction_is e least c (disjunction_of d) o (Ok s) eo h) (subst (λ y. ReadsDisjunction e least y (disjunction_of f) q) eb k) ef))

pub told_iff_refused : (e : Environment) (least : ℕ) (c : Context) (node : FormulaNode) (d f : Chain Place ConjunctionNode) (p : Place) (o : Result Statement Refusal) (r : Refusal) → node ≡ formulas.Iff d p f → ReadsDisjunction e least c (disjunction_of d) o → o ≡ Err r → ReadsFormula e least c (formula_of node) (Err r)
told_iff_refused e least c node d f p o r en h eo =
    formula_as e least c node (formulas.Iff d p f) _ (Err r) en (formula_of-iff d p f) (fo.iff_refused c (disjunction_of d) (disjunction_of f) p r (disjunction_is e least c (disjunction_of d) o (Err r) eo h))

pub told_iff : (e : Environment) (least : ℕ) (c b : Context) (node : FormulaNode) (d f : Chain Place ConjunctionNode) (p first : Place) (o q x : Result Statement Refusal) (s : Statement) → node ≡ formulas.Iff d p f → ReadsDisjunction e least c (disjunction_of d) o → o ≡ Ok s → b ≡ c → ReadsDisjunction e least b (disjunction_of f) q → first_place (spell_disjunction (disjunction_of d)) ≡ Some first → x ≡ equated first s q → ReadsFormula e least c (formula_of node) x
told_iff e least c b node d f p first o q x s en h eo eb k ef ex =
    let P : Result Statement Refusal → Type 0 = λ y. ReadsFormula e least c (formula_of node) y in
    subst P (sym ex) (formula_as e least c node (formulas.Iff d p f) _ (equated first s q) en (formula_of-iff d p f)
    (fo.iff c (disjunction_of d) (disjunction_of f) p first s q (disjunction_is e least c (disjunction_of d) o (Ok s) eo h) (subst (λ y. ReadsDisjunction e least y (disjunction_of f) q) eb k) ef))

pub ruleset formula_rules = (told_plain, told_implies_refused, told_implies, told_iff_refused, told_iff)

-- units
unit_as : (e : Environment) (least : ℕ) (c : Context) (node other : UnitNode) (u : UnitData) (o : Result Statement Refusal) → node ≡ other → unit_of other ≡ u → ReadsUnit e least c u o → ReadsUnit e least c (unit_of node) o
unit_as e least c node other u o en eu h = subst (λ x. ReadsUnit e least c x o) (sym (ap unit_of en ∙ eu)) h

pub told_not : (e : Environment) (least : ℕ) (c : Context) (node : UnitNode) (p : Place) (u : Box UnitNode Global) (o q : Result Statement Refusal) → node ≡ units.Not p u → ReadsUnit e least c (unit_of u.value) o → q ≡ denied p o → ReadsUnit e least c (unit_of node) q
told_not e least c node p u o q en h eq =
    let P : Result Statement Refusal → Type 0 = λ x. ReadsUnit e least c (unit_of node) x in
    subst P (sym eq) (unit_as e least c node (units.Not p u) _ (denied p o) en (unit_of-not p u) (fo.negated c p (unit_of u.value) o h))

pub told_contradiction : (e : Environment) (least : ℕ) (c : Context) (node : UnitNode) (p : Place) (t s : Statement) → node ≡ units.Contradiction p → t ≡ Truth → s ≡ Not t → ReadsUnit e least c (unit_of node) (Ok s)
told_contradiction e least c node p t s en et es =
    let P : Statement → Type 0 = λ x. ReadsUnit e least c (unit_of node) (Ok x) in
    subst P (sym (es ∙ ap Not et)) (unit_as e least c node (units.Contradiction p) _ (Ok (Not Truth)) en (unit_of-contradiction p) (fo.contradiction c p))

pub told_thesis : (e : Environment) (least : ℕ) (c : Context) (node : UnitNode) (p : Place) (o : Result Statement Refusal) → node ≡ units.Thesis p → o ≡ thesis_at p c.thesis → ReadsUnit e least c (unit_of node) o
told_thesis e least c node p o en eo =
    let P : Result Statement Refusal → Type 0 = λ x. ReadsUnit e least c (unit_of node) x in
    subst P (sym eo) (unit_as e least c node (units.Thesis p) _ (thesis_at p c.thesis) en (unit_of-thesis p) (fo.thesis c p))

pub told_quantified : (e : Environment) (least : ℕ) (c : Context) (node : UnitNode) (q : Box QuantifiedNode Global) (o : Result Statement Refusal) → node ≡ units.Quantified q → ReadsQuantified e least c (quantified_of q.value) o → ReadsUnit e least c (unit_of node) o
told_quantified e least c node q o en h = unit_as e least c node (units.Quantified q) _ o en (unit_of-quantified q) (fo.quantified c (quantified_of q.value) o h)

pub told_group : (e : Environment) (least : ℕ) (c : Context) (node : UnitNode) (p q : Place) (f : Box FormulaNode Global) (o : Result Statement Refusal) → node ≡ units.Group p f q → ReadsFormula e least c (formula_of f.value) o → ReadsUnit e least c (unit_of node) o
told_group e least c node p q f o en h = unit_as e least c node (units.Group p f q) _ o en (unit_of-group p f q) (fo.group c p q (formula_of f.value) o h)

pub told_private : (e : Environment) (least : ℕ) (c : Context) (node : UnitNode) (w : Word) (p q : Place) (o : Result Statement Refusal) → node ≡ units.Private w p q → ReadsPrivate e c least w None o → ReadsUnit e least c (unit_of node) o
told_private e least c node w p q o en h = unit_as e least c node (units.Private w p q) _ o en (unit_of-private w p q) (fo.private c w p q o h)

pub told_private_with : (e : Environment) (least : ℕ) (c : Context) (node : UnitNode) (w : Word) (p q : Place) (ts : Chain Place TermNode) (o : Result Statement Refusal) → node ≡ units.PrivateWith w p ts q → ReadsPrivate e c least w (Some (terms_of ts)) o → ReadsUnit e least c (unit_of node) o
told_private_with e least c node w p q ts o en h = unit_as e least c node (units.PrivateWith w p ts q) _ o en (unit_of-private_with w p ts q) (fo.private_with c w p q (terms_of ts) o h)

pub told_predicate : (e : Environment) (least : ℕ) (c : Context) (node : UnitNode) (w : Word) (o : Result Statement Refusal) → node ≡ units.Predicate w → ReadsPredicate e c least None w None o → ReadsUnit e least c (unit_of node) o
told_predicate e least c node w o en h = unit_as e least c node (units.Predicate w) _ o en (unit_of-predicate w) (fo.predicate c w o h)

pub told_predicate_right : (e : Environment) (least : ℕ) (c : Context) (node : UnitNode) (w : Word) (us : Chain Place TermNode) (o : Result Statement Refusal) → node ≡ units.PredicateRight w us → ReadsPredicate e c least None w (Some (terms_of us)) o → ReadsUnit e least c (unit_of node) o
told_predicate_right e least c node w us o en h = unit_as e least c node (units.PredicateRight w us) _ o en (unit_of-predicate_right w us) (fo.predicate_right c w (terms_of us) o h)

pub told_predicate_left : (e : Environment) (least : ℕ) (c : Context) (node : UnitNode) (w : Word) (ts : Chain Place TermNode) (o : Result Statement Refusal) → node ≡ units.PredicateLeft ts w → ReadsPredicate e c least (Some (terms_of ts)) w None o → ReadsUnit e least c (unit_of node) o
told_predicate_left e least c node w ts o en h = unit_as e least c node (units.PredicateLeft ts w) _ o en (unit_of-predicate_left ts w) (fo.predicate_left c w (terms_of ts) o h)

pub told_predicate_both : (e : Environment) (least : ℕ) (c : Context) (node : UnitNode) (w : Word) (ts us : Chain Place TermNode) (o : Result Statement Refusal) → node ≡ units.PredicateBoth ts w us → ReadsPredicate e c least (Some (terms_of ts)) w (Some (terms_of us)) o → ReadsUnit e least c (unit_of node) o
told_predicate_both e least c node w ts us o en h = unit_as e least c node (units.PredicateBoth ts w us) _ o en (unit_of-predicate_both ts w us) (fo.predicate_both c w (terms_of ts) (terms_of us) o h)

pub told_is_type : (e : Environment) (least : ℕ) (c : Context) (node : UnitNode) (p : Place) (t : TermNode) (ty : Box TypeNode Global) (o : Result Statement Refusal) → node ≡ units.IsType t p ty → ReadsIsType e c least (term_of t) (type_of ty.value) o → ReadsUnit e least c (unit_of node) o
told_is_type e least c node p t ty o en h = unit_as e least c node (units.IsType t p ty) _ o en (unit_of-is_type t p ty) (fo.is_type c p (term_of t) (type_of ty.value) o h)

pub told_is_adjectives : (e : Environment) (least : ℕ) (c : Context) (node : UnitNode) (p : Place) (t : TermNode) (a : AdjectiveNode) (xs : Vec AdjectiveNode Global) (ys : List AdjectiveNode) (o : Result Statement Refusal) → node ≡ units.IsAdjectives t p a xs → ys ≡ xs.items → ReadsIsAdjectives e c least (term_of t) (adjective_of a) (map adjective_of ys) o → ReadsUnit e least c (unit_of node) o
told_is_adjectives e least c node p t a xs ys o en ey h = unit_as e least c node (units.IsAdjectives t p a xs) _ o en (unit_of-is_adjectives t p a xs) (fo.is_adjectives c p (term_of t) (adjective_of a) (adjectives_of (map adjective_of xs.items)) o (subst (λ zs. ReadsIsAdjectives e c least (term_of t) (adjective_of a) zs o) (ap (map adjective_of) ey ∙ sym (listed_adjectives-is (map adjective_of xs.items))) h))

pub ruleset unit_rules = (told_not, told_contradiction, told_thesis, told_quantified, told_group, told_private, told_private_with, told_predicate, told_predicate_right, told_predicate_left, told_predicate_both, told_is_type, told_is_adjectives)
