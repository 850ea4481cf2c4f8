-- What the code of prefixes tells.
use Rattle.std.proofs.Common.{◌≡◌, List, [], ◌∷◌, ◌++◌, length, map, reverse, refl, sym, ap, ◌∙◌, subst, Vec}
use Rattle.std.proofs.lemmas.List.{reverse-append}
use Rattle.std.specs.Prelude.{Result, Ok, Err}
use Rattle.std.specs.declared.alloc.Global.{Global}
use Rattle.mz_base.specs.declared.place.Place.{Place}
use Rattle.mz_logic.specs.Term.{Term}
use Rattle.mz_logic.specs.declared.kind.Kind.TheVariants as kind
use Rattle.mz_context.specs.declared.context.Context.{Context}
use Rattle.mz_environment.specs.declared.environment.Environment.{Environment}
use Rattle.mz_names.specs.declared.refusal.Refusal.{Refusal}
use Rattle.mz_names.specs.declared.refusal.Refusal.TheVariants.{UnknownSymbol}
use Rattle.mz_fits.proofs.FitLemmas.{empty}
use Rattle.mz_tree.specs.Trees.{PrefixData, adjectives_of, befores_of}
use Rattle.mz_tree.specs.Views.{prefix_of, adjective_of, before_of}
use Rattle.mz_tree.specs.declared.chain.Before.{Before}
use Rattle.mz_tree.specs.declared.word.Word.{Word}
use Rattle.mz_tree.specs.declared.nodes.AdjectiveNode.{AdjectiveNode}
use Rattle.mz_tree.specs.declared.nodes.OperandNode.{OperandNode}
use Rattle.mz_tree.specs.declared.nodes.PrefixNode.{PrefixNode}
use Rattle.mz_tree.specs.declared.nodes.PrefixNode.TheVariants as prefixes
use Rattle.mz_tree.proofs.Views.{prefix_of-selector, prefix_of-choice_of, prefix_of-choice_over}
use Rattle.mz_applied.specs.Application.{application}
use Rattle.mz_terms.specs.Bases as ba
use Rattle.mz_terms.specs.Bases.{Applies, Prefixed}

map_last : (xs : List PrefixNode) (x : PrefixNode) → map prefix_of (xs ++ x ∷ []) ≡ map prefix_of xs ++ prefix_of x ∷ []
map_last [] x = refl
map_last (y ∷ ys) x = ap (λ zs. prefix_of y ∷ zs) (map_last ys x)

reverse-last_first : (rest before : List PrefixNode) (last : PrefixNode) → rest ≡ before ++ last ∷ [] → reverse (map prefix_of rest) ≡ prefix_of last ∷ reverse (map prefix_of before)
reverse-last_first rest before last er = ap (λ xs. reverse (map prefix_of xs)) er ∙ (ap reverse (map_last before last) ∙ reverse-append (map prefix_of before) (prefix_of last ∷ []))

-- the prefix that is the last one
pub prefixed_as : (e : Environment) (c : Context) (rest before : List PrefixNode) (last other : PrefixNode) (x : PrefixData) (ts : List Term) (o : Result (List Term) Refusal) → rest ≡ before ++ last ∷ [] → last ≡ other → prefix_of other ≡ x → Prefixed e c (x ∷ reverse (map prefix_of before)) ts o → Prefixed e c (reverse (map prefix_of rest)) ts o
prefixed_as e c rest before last other x ts o er el ex h =
    subst (λ ps. Prefixed e c ps ts o) (sym (reverse-last_first rest before last er ∙ ap (λ p. p ∷ reverse (map prefix_of before)) (ap prefix_of el ∙ ex))) h

-- what the rest gives, all gives
abbrev pub Gives : Environment → Context → List PrefixNode → List Term → List PrefixNode → List Term → Type 0
Gives e c rest us all ts = (o : Result (List Term) Refusal) → Prefixed e c (reverse (map prefix_of rest)) us o → Prefixed e c (reverse (map prefix_of all)) ts o

pub told_end : (e : Environment) (c : Context) (rest all : List PrefixNode) (us ts : List Term) → length rest ≡ 0 → Gives e c rest us all ts → Prefixed e c (reverse (map prefix_of all)) ts (Ok us)
told_end e c rest all us ts er g = g (Ok us) (subst (λ xs. Prefixed e c (reverse (map prefix_of xs)) us (Ok us)) (sym (empty rest er)) (ba.no_prefix us))

pub told_stops : (e : Environment) (c : Context) (rest before all : List PrefixNode) (last : PrefixNode) (p q : Place) (w : Word) (us ts : List Term) (x : Result (List Term) Refusal) (r : Refusal) → rest ≡ before ++ last ∷ [] → last ≡ prefixes.Selector p w q → Applies e c w.place p (application kind.Selector w.spelling [] us) x → x ≡ Err r → Gives e c rest us all ts → Prefixed e c (reverse (map prefix_of all)) ts (Err r)
told_stops e c rest before all last p q w us ts x r er el h ex g =
    let k : Applies e c w.place p (application kind.Selector w.spelling [] us) (Err r) = subst (λ (y : Result (List Term) Refusal). Applies e c w.place p (application kind.Selector w.spelling [] us) y) ex h in
    g (Err r) (prefixed_as e c rest before last (prefixes.Selector p w q) _ us (Err r) er el (prefix_of-selector p w q) (ba.refused p q w (reverse (map prefix_of before)) us r k))

pub told_goes_on : (e : Environment) (c : Context) (rest before all : List PrefixNode) (last : PrefixNode) (p q : Place) (w : Word) (us vs ts : List Term) (x : Result (List Term) Refusal) → rest ≡ before ++ last ∷ [] → last ≡ prefixes.Selector p w q → Applies e c w.place p (application kind.Selector w.spelling [] us) x → x ≡ Ok vs → Gives e c rest us all ts → Gives e c before vs all ts
told_goes_on e c rest before all last p q w us vs ts x er el h ex g o k =
    let j : Applies e c w.place p (application kind.Selector w.spelling [] us) (Ok vs) = subst (λ (y : Result (List Term) Refusal). Applies e c w.place p (application kind.Selector w.spelling [] us) y) ex h in
    g o (prefixed_as e c rest before last (prefixes.Selector p w q) _ us o er el (prefix_of-selector p w q) (ba.selected p q w (reverse (map prefix_of before)) us vs o j k))

pub told_choice_of : (e : Environment) (c : Context) (rest before all : List PrefixNode) (last : PrefixNode) (p q : Place) (xs : Vec AdjectiveNode Global) (w : Word) (bs : Vec (Before OperandNode) Global) (us ts : List Term) → rest ≡ before ++ last ∷ [] → last ≡ prefixes.ChoiceOf p xs w q bs → Gives e c rest us all ts → Prefixed e c (reverse (map prefix_of all)) ts (Err (UnknownSymbol p))
told_choice_of e c rest before all last p q xs w bs us ts er el g =
    g (Err (UnknownSymbol p)) (prefixed_as e c rest before last (prefixes.ChoiceOf p xs w q bs) _ us (Err (UnknownSymbol p)) er el (prefix_of-choice_of p xs w q bs) (ba.choice_of p q (adjectives_of (map adjective_of xs.items)) w (befores_of (map before_of bs.items)) (reverse (map prefix_of before)) us))

pub told_choice_over : (e : Environment) (c : Context) (rest before all : List PrefixNode) (last : PrefixNode) (p q : Place) (xs : Vec AdjectiveNode Global) (w : Word) (bs : Vec (Before OperandNode) Global) (us ts : List Term) → rest ≡ before ++ last ∷ [] → last ≡ prefixes.ChoiceOver p xs w q bs → Gives e c rest us all ts → Prefixed e c (reverse (map prefix_of all)) ts (Err (UnknownSymbol p))
told_choice_over e c rest before all last p q xs w bs us ts er el g =
    g (Err (UnknownSymbol p)) (prefixed_as e c rest before last (prefixes.ChoiceOver p xs w q bs) _ us (Err (UnknownSymbol p)) er el (prefix_of-choice_over p xs w q bs) (ba.choice_over p q (adjectives_of (map adjective_of xs.items)) w (befores_of (map before_of bs.items)) (reverse (map prefix_of before)) us))

pub ruleset prefix_rules = (told_end, told_stops, told_goes_on, told_choice_of, told_choice_over)
