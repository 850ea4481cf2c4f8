-- What the code of operands tells.
use Rattle.std.proofs.Common.{◌≡◌, ℕ, List, [], ◌∷◌, Some, None, sym, ap, ◌∙◌, subst, Vec, Box, map}
use Rattle.std.specs.Prelude.{Result, Ok, Err, codes}
use Rattle.std.specs.declared.alloc.Global.{Global}
use Rattle.mz_base.specs.declared.place.Place.{Place}
use Rattle.mz_logic.specs.Term.{Term}
use Rattle.mz_logic.specs.declared.kind.Kind.TheVariants as kind
use Rattle.mz_context.specs.declared.context.Context.{Context}
use Rattle.mz_environment.specs.declared.environment.Environment.{Environment}
use Rattle.mz_names.specs.Names.{variable, argument, known_or}
use Rattle.mz_names.specs.declared.refusal.Refusal.{Refusal}
use Rattle.mz_names.specs.declared.refusal.Refusal.TheVariants.{UnknownSymbol, UnknownVariable}
use Rattle.mz_choice.specs.declared.choice.Applied.{Applied}
use Rattle.mz_choice.specs.declared.choice.Wanted.TheVariants.{Anything}
use Rattle.mz_tree.specs.Trees.{BaseData, SelectorBase, adjectives_of}
use Rattle.mz_tree.specs.Views.{base_of, terms_of, term_of, type_of, formula_of, adjective_of}
use Rattle.mz_tree.specs.declared.word.Word.{Word}
use Rattle.mz_tree.specs.declared.chain.Chain.{Chain}
use Rattle.mz_tree.specs.declared.nodes.BaseNode.{BaseNode}
use Rattle.mz_tree.specs.declared.nodes.BaseNode.TheVariants as bases
use Rattle.mz_tree.specs.declared.nodes.TermNode.{TermNode}
use Rattle.mz_tree.specs.declared.nodes.TypeNode.{TypeNode}
use Rattle.mz_tree.specs.declared.nodes.FormulaNode.{FormulaNode}
use Rattle.mz_tree.specs.declared.nodes.AdjectiveNode.{AdjectiveNode}
use Rattle.mz_tree.proofs.Views.{base_of-identifier, base_of-subject, base_of-argument, base_of-group, base_of-call, base_of-call_with, base_of-selector, base_of-aggregate, base_of-brackets, base_of-braces, base_of-squares, base_of-set_of, base_of-choice, base_of-choice_structure}
use Rattle.mz_applied.specs.Application.{application, bracketed}
use Rattle.mz_applied.specs.Meant.{as_term}
use Rattle.mz_applied.specs.Reading.{ReadsAs}
use Rattle.mz_applied.specs.Private.{AppliesFunctor}
use Rattle.mz_terms.specs.Values.{as_list}
use Rattle.mz_terms.specs.Bases as ba
use Rattle.mz_terms.specs.Bases.{Calls, Applies, Closes}

pub told_calls : (e : Environment) (c : Context) (least : ℕ) (w : Word) (ts : List Term) (t : Result Term Refusal) (o : Result (List Term) Refusal) → AppliesFunctor e c least w.place w.spelling ts t → o ≡ as_list t → Calls e c least w ts o
told_calls e c least w ts t o h eo =
    let P : Result (List Term) Refusal → Type 0 = λ x. Calls e c least w ts x in
    subst P (sym eo) (ba.calls t h)

pub ruleset call_rules = (told_calls)

pub told_applies : (e : Environment) (c : Context) (place first : Place) (a : Applied) (t : Result Term Refusal) (o : Result (List Term) Refusal) → ReadsAs e c Anything place (as_term place first) a t → o ≡ as_list t → Applies e c place first a o
told_applies e c place first a t o h eo =
    let P : Result (List Term) Refusal → Type 0 = λ x. Applies e c place first a x in
    subst P (sym eo) (ba.applies t h)

pub ruleset apply_rules = (told_applies)

pub applied_as : (e : Environment) (c : Context) (place first : Place) (a b : Applied) (o : Result (List Term) Refusal) → a ≡ b → Applies e c place first a o → Applies e c place first b o
applied_as e c place first a b o eq h = subst (λ x. Applies e c place first x o) eq h

-- a base as that of its node
closes_as : (e : Environment) (c : Context) (least : ℕ) (ts : List Term) (o : Result (List Term) Refusal) (node other : BaseNode) (b : BaseData) → node ≡ other → base_of other ≡ b → Closes e c least b ts o → Closes e c least (base_of node) ts o
closes_as e c least ts o node other b en eb h = subst (λ n. Closes e c least (base_of n) ts o) (sym en) (subst (λ x. Closes e c least x ts o) (sym eb) h)

pub told_identifier : (e : Environment) (c : Context) (least : ℕ) (ts : List Term) (o : Result (List Term) Refusal) (node : BaseNode) (w : Word) → node ≡ bases.Identifier w → o ≡ as_list (known_or w.place (variable least c w.spelling)) → Closes e c least (base_of node) ts o
told_identifier e c least ts o node w en eo =
    let P : Result (List Term) Refusal → Type 0 = λ x. Closes e c least (base_of node) ts x in
    subst P (sym eo) (closes_as e c least ts (as_list (known_or w.place (variable least c w.spelling))) node (bases.Identifier w) _ en (base_of-identifier w) (ba.identifier w ts))

pub told_subject : (e : Environment) (c : Context) (least : ℕ) (ts : List Term) (o : Result (List Term) Refusal) (node : BaseNode) (p : Place) → node ≡ bases.Subject p → o ≡ as_list (known_or p c.it) → Closes e c least (base_of node) ts o
told_subject e c least ts o node p en eo =
    let P : Result (List Term) Refusal → Type 0 = λ x. Closes e c least (base_of node) ts x in
    subst P (sym eo) (closes_as e c least ts (as_list (known_or p c.it)) node (bases.Subject p) _ en (base_of-subject p) (ba.subject p ts))

pub told_numbered : (e : Environment) (c : Context) (least : ℕ) (ts : List Term) (o : Result (List Term) Refusal) (node : BaseNode) (p : Place) (k : ℕ) → node ≡ bases.Argument p k → o ≡ as_list (known_or p (argument c k)) → Closes e c least (base_of node) ts o
told_numbered e c least ts o node p k en eo =
    let P : Result (List Term) Refusal → Type 0 = λ x. Closes e c least (base_of node) ts x in
    subst P (sym eo) (closes_as e c least ts (as_list (known_or p (argument c k))) node (bases.Argument p k) _ en (base_of-argument p k) (ba.numbered p k ts))

pub told_group : (e : Environment) (c : Context) (least : ℕ) (ts : List Term) (node : BaseNode) (p q : Place) (us : Chain Place TermNode) → node ≡ bases.Group p us q → Closes e c least (base_of node) ts (Ok ts)
told_group e c least ts node p q us en = closes_as e c least ts (Ok ts) node (bases.Group p us q) _ en (base_of-group p us q) (ba.group p q (terms_of us) ts)

pub told_call : (e : Environment) (c : Context) (least : ℕ) (ts : List Term) (o : Result (List Term) Refusal) (node : BaseNode) (w : Word) (p q : Place) → node ≡ bases.Call w p q → Calls e c least w ts o → Closes e c least (base_of node) ts o
told_call e c least ts o node w p q en h = closes_as e c least ts o node (bases.Call w p q) _ en (base_of-call w p q) (ba.call w p q ts o h)

pub told_call_with : (e : Environment) (c : Context) (least : ℕ) (ts : List Term) (o : Result (List Term) Refusal) (node : BaseNode) (w : Word) (p q : Place) (us : Chain Place TermNode) → node ≡ bases.CallWith w p us q → Calls e c least w ts o → Closes e c least (base_of node) ts o
told_call_with e c least ts o node w p q us en h = closes_as e c least ts o node (bases.CallWith w p us q) _ en (base_of-call_with w p us q) (ba.call_with w p q (terms_of us) ts o h)

pub told_field : (e : Environment) (c : Context) (least : ℕ) (ts : List Term) (o : Result (List Term) Refusal) (node : BaseNode) (p : Place) (w : Word) → node ≡ bases.Selector p w → Closes e c least (SelectorBase p w) ts o → Closes e c least (base_of node) ts o
told_field e c least ts o node p w en h = closes_as e c least ts o node (bases.Selector p w) _ en (base_of-selector p w) (h)

pub told_aggregate : (e : Environment) (c : Context) (least : ℕ) (ts : List Term) (o : Result (List Term) Refusal) (node : BaseNode) (w : Word) (p q : Place) (us : Chain Place TermNode) → node ≡ bases.Aggregate w p us q → Applies e c w.place w.place (application kind.Aggregate w.spelling [] ts) o → Closes e c least (base_of node) ts o
told_aggregate e c least ts o node w p q us en h = closes_as e c least ts o node (bases.Aggregate w p us q) _ en (base_of-aggregate w p us q) (ba.aggregate w p q (terms_of us) ts o h)

pub told_brackets : (e : Environment) (c : Context) (least : ℕ) (ts : List Term) (o : Result (List Term) Refusal) (node : BaseNode) (l r : Word) (us : Chain Place TermNode) → node ≡ bases.Brackets l us r → Applies e c l.place l.place (bracketed kind.Functor l.spelling r.spelling ts) o → Closes e c least (base_of node) ts o
told_brackets e c least ts o node l r us en h = closes_as e c least ts o node (bases.Brackets l us r) _ en (base_of-brackets l us r) (ba.brackets l r (terms_of us) ts o h)

pub told_braces : (e : Environment) (c : Context) (least : ℕ) (ts : List Term) (o : Result (List Term) Refusal) (node : BaseNode) (p q : Place) (us : Chain Place TermNode) → node ≡ bases.Braces p us q → Applies e c p p (bracketed kind.Functor (codes "{") (codes "}") ts) o → Closes e c least (base_of node) ts o
told_braces e c least ts o node p q us en h = closes_as e c least ts o node (bases.Braces p us q) _ en (base_of-braces p us q) (ba.braces p q (terms_of us) ts o h)

pub told_squares : (e : Environment) (c : Context) (least : ℕ) (ts : List Term) (o : Result (List Term) Refusal) (node : BaseNode) (p q : Place) (us : Chain Place TermNode) → node ≡ bases.Squares p us q → Applies e c p p (bracketed kind.Functor (codes "[") (codes "]") ts) o → Closes e c least (base_of node) ts o
told_squares e c least ts o node p q us en h = closes_as e c least ts o node (bases.Squares p us q) _ en (base_of-squares p us q) (ba.squares p q (terms_of us) ts o h)

pub told_set_term : (e : Environment) (c : Context) (least : ℕ) (ts : List Term) (node : BaseNode) (p q r s u : Place) (w : Word) (t : TermNode) (ty : Box TypeNode Global) (f : Box FormulaNode Global) → node ≡ bases.SetOf p t q w r ty s f u → Closes e c least (base_of node) ts (Err (UnknownSymbol p))
told_set_term e c least ts node p q r s u w t ty f en = closes_as e c least ts (Err (UnknownSymbol p)) node (bases.SetOf p t q w r ty s f u) _ en (base_of-set_of p t q w r ty s f u) (ba.set_term p q r s u w (term_of t) (type_of ty.value) (formula_of f.value) ts)

pub told_choice : (e : Environment) (c : Context) (least : ℕ) (ts : List Term) (node : BaseNode) (p : Place) (xs : Vec AdjectiveNode Global) (w : Word) → node ≡ bases.Choice p xs w → Closes e c least (base_of node) ts (Err (UnknownSymbol p))
told_choice e c least ts node p xs w en = closes_as e c least ts (Err (UnknownSymbol p)) node (bases.Choice p xs w) _ en (base_of-choice p xs w) (ba.choice p (adjectives_of (map adjective_of xs.items)) w ts)

pub told_choice_structure : (e : Environment) (c : Context) (least : ℕ) (ts : List Term) (node : BaseNode) (p : Place) (xs : Vec AdjectiveNode Global) (w : Word) → node ≡ bases.ChoiceStructure p xs w → Closes e c least (base_of node) ts (Err (UnknownSymbol p))
told_choice_structure e c least ts node p xs w en = closes_as e c least ts (Err (UnknownSymbol p)) node (bases.ChoiceStructure p xs w) _ en (base_of-choice_structure p xs w) (ba.choice_structure p (adjectives_of (map adjective_of xs.items)) w ts)

pub ruleset close_rules = (told_identifier, told_subject, told_numbered, told_group, told_call, told_call_with, told_field, told_aggregate, told_brackets, told_braces, told_squares, told_set_term, told_choice, told_choice_structure)

pub told_no_structure : (e : Environment) (c : Context) (p : Place) (w : Word) → c.subject ≡ None → (least : ℕ) (ts : List Term) → Closes e c least (SelectorBase p w) ts (Err (UnknownVariable p))
told_no_structure e c p w h least ts = ba.no_structure p w ts h

pub told_of_structure : (e : Environment) (c : Context) (p : Place) (w : Word) (s t : Term) (us : List Term) (o : Result (List Term) Refusal) → c.subject ≡ Some s → t ≡ s → us ≡ t ∷ [] → Applies e c w.place p (application kind.Selector w.spelling [] us) o → (least : ℕ) (ts : List Term) → Closes e c least (SelectorBase p w) ts o
told_of_structure e c p w s t us o h et eu k least ts =
    let one : us ≡ s ∷ [] = eu ∙ ap (λ x. x ∷ []) et in
    ba.field p w s ts o h (subst (λ (xs : List Term). Applies e c w.place p (application kind.Selector w.spelling [] xs) o) one k)

pub ruleset field_rules = (told_no_structure, told_of_structure)
