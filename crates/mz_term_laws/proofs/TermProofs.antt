-- What terms are read to is usable.
use Rattle.std.proofs.Common.{◌≡◌, ℕ, Bool, true, false, List, [], ◌∷◌, ◌++◌, refl, map, reverse}
use Rattle.std.specs.Prelude.{Result, Ok, Err, codes}
use Rattle.std.specs.List.{list_all}
use Rattle.std.proofs.lemmas.Bool.{and_parts, and_from}
use Rattle.mz_base.specs.declared.place.Place.{Place}
use Rattle.mz_logic.specs.Term.{Term}
use Rattle.mz_logic.specs.declared.kind.Kind.TheVariants as kind
use Rattle.mz_core.proofs.AllLemmas.{all-append}
use Rattle.mz_context.specs.declared.context.Context.{Context}
use Rattle.mz_environment.specs.declared.environment.Environment.{Environment}
use Rattle.mz_names.specs.Names.{variable, argument, known_or}
use Rattle.mz_names.specs.declared.refusal.Refusal.{Refusal}
use Rattle.mz_choice.specs.declared.choice.Applied.{Applied}
use Rattle.mz_choice.specs.declared.choice.Wanted.TheVariants.{Anything}
use Rattle.mz_grouping.specs.declared.grouping.Step.{Step}
use Rattle.mz_tree.specs.Trees.{TermData, TermsData, PieceData, PrefixData, BaseData}
use Rattle.mz_tree.specs.declared.word.Word.{Word}
use Rattle.mz_applied.specs.Application.{application, bracketed}
use Rattle.mz_terms.specs.Values.{top_if, rest_if, terms_in, first_in, applied_to, put_terms, put_term, one_of}
use Rattle.mz_terms.specs.Bases as ba
use Rattle.mz_terms.specs.Bases.{Calls, Applies, Closes, Prefixed}
use Rattle.mz_terms.specs.Terms as te
use Rattle.mz_terms.specs.Terms.{ReadsTerm, Runs, RunsStep, TakesPiece, AppliesPiece, ReadsOperand, ReadsBase, ReadsArguments, ReadsAll, ReadsEach}
use Rattle.mz_terms.specs.declared.values.RunValue.{RunValue}
use Rattle.mz_term_laws.specs.Usable.{is_usable, term_usable}
use Rattle.mz_term_laws.specs.TermLaws.{TermLaw, TermsLaw}
use Rattle.mz_term_laws.proofs.Outcomes.{on_ok, on_known_or, on_as_list}
use Rattle.mz_term_laws.proofs.ChangeProofs.{known_types}
use Rattle.mz_term_laws.proofs.AppliedProofs.{Reading, reads_term, variable_usable, subject_usable, argument_usable, applies_functor}

-- terms
abbrev terms_usable : ℕ → Context → List Term → Bool
terms_usable from c ts = list_all (term_usable from c) ts

-- operands whose arguments are read
calls_usable : (e : Environment) (c : Context) (from least : ℕ) → Reading e c from least → (w : Word) (ts : List Term) → terms_usable from c ts ≡ true → (o : Result (List Term) Refusal) → Calls e c least w ts o → on_ok (terms_usable from c) o ≡ true
calls_usable e c from least r w ts kt o (ba.calls x h) = on_as_list (term_usable from c) x (applies_functor e c from least r w.place w.spelling ts kt x h)

applied_usable : (e : Environment) (c : Context) (from least : ℕ) → Reading e c from least → (place first : Place) (a : Applied) → terms_usable from c (a.left ++ a.right) ≡ true → (o : Result (List Term) Refusal) → Applies e c place first a o → on_ok (terms_usable from c) o ≡ true
applied_usable e c from least r place first a ka o (ba.applies x h) =
    on_as_list (term_usable from c) x (reads_term (is_usable from c) e c r.environment (known_types from c r.context) Anything place place first a ka x h)

closes_usable : (e : Environment) (c : Context) (from least : ℕ) → Reading e c from least → (b : BaseData) (ts : List Term) → terms_usable from c ts ≡ true → (o : Result (List Term) Refusal) → Closes e c least b ts o → on_ok (terms_usable from c) o ≡ true
closes_usable e c from least r b ts kt o (ba.identifier w us) =
    on_as_list (term_usable from c) (known_or w.place (variable least c w.spelling)) (on_known_or (term_usable from c) w.place (variable least c w.spelling) (variable_usable from least c r.below w.spelling))
closes_usable e c from least r b ts kt o (ba.subject p us) = on_as_list (term_usable from c) (known_or p c.it) (on_known_or (term_usable from c) p c.it (subject_usable from c r.context))
closes_usable e c from least r b ts kt o (ba.numbered p k us) =
    on_as_list (term_usable from c) (known_or p (argument c k)) (on_known_or (term_usable from c) p (argument c k) (argument_usable from c r.context k))
closes_usable e c from least r b ts kt o (ba.group p q vs us) = kt
closes_usable e c from least r b ts kt o (ba.call w p q us x h) = calls_usable e c from least r w us kt x h
closes_usable e c from least r b ts kt o (ba.call_with w p q vs us x h) = calls_usable e c from least r w us kt x h
closes_usable e c from least r b ts kt o (ba.no_structure p w us h) = refl
closes_usable e c from least r b ts kt o (ba.field p w t us x h k) =
    applied_usable e c from least r w.place p (application kind.Selector w.spelling [] (t ∷ [])) (and_from (term_usable from c t) true (r.context.subject t h) refl) x k
closes_usable e c from least r b ts kt o (ba.aggregate w p q vs us x h) = applied_usable e c from least r w.place w.place (application kind.Aggregate w.spelling [] us) kt x h
closes_usable e c from least r b ts kt o (ba.brackets l m vs us x h) = applied_usable e c from least r l.place l.place (bracketed kind.Functor l.spelling m.spelling us) kt x h
closes_usable e c from least r b ts kt o (ba.braces p q vs us x h) = applied_usable e c from least r p p (bracketed kind.Functor (codes "{") (codes "}") us) kt x h
closes_usable e c from least r b ts kt o (ba.squares p q vs us x h) = applied_usable e c from least r p p (bracketed kind.Functor (codes "[") (codes "]") us) kt x h
closes_usable e c from least r b ts kt o (ba.set_term p q m s u w t ty f us) = refl
closes_usable e c from least r b ts kt o (ba.choice p xs w us) = refl
closes_usable e c from least r b ts kt o (ba.choice_structure p xs w us) = refl

prefixed_usable : (e : Environment) (c : Context) (from least : ℕ) → Reading e c from least → (ps : List PrefixData) (ts : List Term) (o : Result (List Term) Refusal) → Prefixed e c ps ts o → terms_usable from c ts ≡ true → on_ok (terms_usable from c) o ≡ true
prefixed_usable e c from least r ps ts o (ba.no_prefix us) kt = kt
prefixed_usable e c from least r ps ts o (ba.refused p q w rest us x h) kt = refl
prefixed_usable e c from least r ps ts o (ba.selected p q w rest us vs x h k) kt =
    prefixed_usable e c from least r rest vs x k (applied_usable e c from least r w.place p (application kind.Selector w.spelling [] us) kt (Ok vs) h)
prefixed_usable e c from least r ps ts o (ba.choice_of p q xs w bs rest us) kt = refl
prefixed_usable e c from least r ps ts o (ba.choice_over p q xs w bs rest us) kt = refl

-- values of runs
abbrev value_usable : ℕ → Context → RunValue → Bool
value_usable from c v = terms_usable from c v.terms

abbrev values_usable : ℕ → Context → List RunValue → Bool
values_usable from c vs = list_all (value_usable from c) vs

top_usable : (from : ℕ) (c : Context) (b : Bool) (vs : List RunValue) → values_usable from c vs ≡ true → terms_usable from c (terms_in (top_if b vs)) ≡ true
top_usable from c false vs h = refl
top_usable from c true [] h = refl
top_usable from c true (v ∷ vs) h = (and_parts (value_usable from c v) (values_usable from c vs) h).0

rest_usable : (from : ℕ) (c : Context) (b : Bool) (vs : List RunValue) → values_usable from c vs ≡ true → values_usable from c (rest_if b vs) ≡ true
rest_usable from c false vs h = h
rest_usable from c true [] h = refl
rest_usable from c true (v ∷ vs) h = (and_parts (value_usable from c v) (values_usable from c vs) h).1

put_terms_usable : (from : ℕ) (c : Context) (first : Place) (vs : List RunValue) → values_usable from c vs ≡ true → (o : Result (List Term) Refusal) → on_ok (terms_usable from c) o ≡ true → on_ok (values_usable from c) (put_terms first vs o) ≡ true
put_terms_usable from c first vs h (Err x) k = refl
put_terms_usable from c first vs h (Ok ts) k = and_from (terms_usable from c ts) (values_usable from c vs) k h

put_term_usable : (from : ℕ) (c : Context) (first : Place) (vs : List RunValue) → values_usable from c vs ≡ true → (o : Result Term Refusal) → on_ok (term_usable from c) o ≡ true → on_ok (values_usable from c) (put_term first vs o) ≡ true
put_term_usable from c first vs h (Err x) k = refl
put_term_usable from c first vs h (Ok t) k = and_from (terms_usable from c (t ∷ [])) (values_usable from c vs) (and_from (term_usable from c t) true k refl) h

applies_piece : (e : Environment) (c : Context) (from least : ℕ) → Reading e c from least → (first : Place) (left right : Bool) (x : PieceData) (vs : List RunValue) → values_usable from c vs ≡ true → (o : Result (List RunValue) Refusal) → AppliesPiece e c first left right x vs o → on_ok (values_usable from c) o ≡ true
applies_piece e c from least r first left right x vs kv o (te.applies_symbol w priority us p h) =
    let behind : values_usable from c (rest_if right us) ≡ true = rest_usable from c right us kv in
    let sides : terms_usable from c (terms_in (top_if left (rest_if right us)) ++ terms_in (top_if right us)) ≡ true =
    all-append (term_usable from c) (terms_in (top_if left (rest_if right us))) (terms_in (top_if right us)) (top_usable from c left (rest_if right us) behind) (top_usable from c right us kv) in
    put_term_usable from c (first_in w.place (top_if left (rest_if right us))) (rest_if left (rest_if right us)) (rest_usable from c left (rest_if right us) behind) p
    (reads_term (is_usable from c) e c r.environment (known_types from c r.context) Anything w.place w.place (first_in w.place (top_if left (rest_if right us))) (applied_to w (top_if left (rest_if right us)) (top_if right us)) sides p h)
applies_piece e c from least r first left right x vs kv o (te.applies_operand ps b us) = refl

one_of_usable : (from : ℕ) (c : Context) (first : Place) (ts : List Term) → terms_usable from c ts ≡ true → on_ok (term_usable from c) (one_of first ts) ≡ true
one_of_usable from c first [] h = refl
one_of_usable from c first (t ∷ []) h = (and_parts (term_usable from c t) true h).0
one_of_usable from c first (t ∷ u ∷ ts) h = refl

mutual
  pub reads_usable : (e : Environment) (c : Context) (from least : ℕ) → Reading e c from least → (t : TermData) (o : Result Term Refusal) → ReadsTerm e c least t o → on_ok (term_usable from c) o ≡ true
  reads_usable e c from least r t o (te.neighbours p ps first i j) = refl
  reads_usable e c from least r t o (te.run_refused p ps first steps x i j g h) = refl
  reads_usable e c from least r t o (te.run_read p ps first steps vs i j g h) =
      one_of_usable from c first (terms_in (top_if true vs)) (top_usable from c true vs (runs_usable e c from least r first (p ∷ ps) steps [] (Ok vs) h refl))

  runs_usable : (e : Environment) (c : Context) (from least : ℕ) → Reading e c from least → (first : Place) (run : List PieceData) (ss : List Step) (vs : List RunValue) (o : Result (List RunValue) Refusal) → Runs e c least first run ss vs o → values_usable from c vs ≡ true → on_ok (values_usable from c) o ≡ true
  runs_usable e c from least r first run ss vs o (te.no_step f xs us) kv = kv
  runs_usable e c from least r first run ss vs o (te.stops f xs s rest us x h) kv = refl
  runs_usable e c from least r first run ss vs o (te.goes_on f xs s rest us ws p h k) kv =
      runs_usable e c from least r f xs rest ws p k (step_usable e c from least r f xs s us (Ok ws) h kv)

  step_usable : (e : Environment) (c : Context) (from least : ℕ) → Reading e c from least → (first : Place) (run : List PieceData) (s : Step) (vs : List RunValue) (o : Result (List RunValue) Refusal) → RunsStep e c least first run s vs o → values_usable from c vs ≡ true → on_ok (values_usable from c) o ≡ true
  step_usable e c from least r first run s vs o (te.takes f xs k x us p i h) kv = takes_usable e c from least r f x us p h kv
  step_usable e c from least r first run s vs o (te.applies f xs k left right x us p i h) kv = applies_piece e c from least r f left right x us kv p h
  step_usable e c from least r first run s vs o (te.takes_nothing f xs k us i) kv = refl
  step_usable e c from least r first run s vs o (te.applies_nothing f xs k left right us i) kv = refl

  takes_usable : (e : Environment) (c : Context) (from least : ℕ) → Reading e c from least → (first : Place) (x : PieceData) (vs : List RunValue) (o : Result (List RunValue) Refusal) → TakesPiece e c least first x vs o → values_usable from c vs ≡ true → on_ok (values_usable from c) o ≡ true
  takes_usable e c from least r first x vs o (te.takes_operand f ps b at us p i h) kv = put_terms_usable from c at us kv p (operand_usable e c from least r ps b p h)
  takes_usable e c from least r first x vs o (te.takes_symbol f w priority us) kv = refl

  operand_usable : (e : Environment) (c : Context) (from least : ℕ) → Reading e c from least → (ps : List PrefixData) (b : BaseData) (o : Result (List Term) Refusal) → ReadsOperand e c least ps b o → on_ok (terms_usable from c) o ≡ true
  operand_usable e c from least r ps b o (te.base_refused qs d x h) = refl
  operand_usable e c from least r ps b o (te.prefixed qs d ts p h k) = prefixed_usable e c from least r (reverse qs) ts p k (base_usable e c from least r d (Ok ts) h)

  base_usable : (e : Environment) (c : Context) (from least : ℕ) → Reading e c from least → (b : BaseData) (o : Result (List Term) Refusal) → ReadsBase e c least b o → on_ok (terms_usable from c) o ≡ true
  base_usable e c from least r b o (te.arguments_refused d x h) = refl
  base_usable e c from least r b o (te.closed d ts p h k) = closes_usable e c from least r d ts (arguments_usable e c from least r d (Ok ts) h) p k

  arguments_usable : (e : Environment) (c : Context) (from least : ℕ) → Reading e c from least → (b : BaseData) (o : Result (List Term) Refusal) → ReadsArguments e c least b o → on_ok (terms_usable from c) o ≡ true
  arguments_usable e c from least r b o (te.no_arguments d i) = refl
  arguments_usable e c from least r b o (te.arguments d ts p i h) = all_usable e c from least r ts p h

  pub all_usable : (e : Environment) (c : Context) (from least : ℕ) → Reading e c from least → (ts : TermsData) (o : Result (List Term) Refusal) → ReadsAll e c least ts o → on_ok (terms_usable from c) o ≡ true
  all_usable e c from least r ts o (te.all t ns p h) = each_usable e c from least r (t ∷ map te.listed_term ns) [] p h refl

  each_usable : (e : Environment) (c : Context) (from least : ℕ) → Reading e c from least → (ts : List TermData) (before : List Term) (o : Result (List Term) Refusal) → ReadsEach e c least ts before o → terms_usable from c before ≡ true → on_ok (terms_usable from c) o ≡ true
  each_usable e c from least r ts before o (te.no_more us) kb = kb
  each_usable e c from least r ts before o (te.one_refused t rest us x h) kb = refl
  each_usable e c from least r ts before o (te.one_read t rest us u p h k) kb =
      each_usable e c from least r rest (us ++ u ∷ []) p k (all-append (term_usable from c) us (u ∷ []) kb (and_from (term_usable from c u) true (reads_usable e c from least r t (Ok u) h) refl))

pub term_law : TermLaw
term_law e c from least ce w le t u h = reads_usable e c from least (record { environment = ce; context = w; below = le }) t (Ok u) h

pub terms_law : TermsLaw
terms_law e c from least ce w le ts us h = all_usable e c from least (record { environment = ce; context = w; below = le }) ts (Ok us) h
