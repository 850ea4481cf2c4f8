-- What terms are read to is determined.
use Rattle.std.proofs.Common.{◌≡◌, ℕ, Bool, true, false, List, [], ◌∷◌, ◌++◌, refl, sym, ap, ◌∙◌, subst, Option, Some, None, map, reverse}
use Rattle.std.specs.Prelude.{slice_get, Result, Ok, Err, codes}
use Rattle.mz_base.specs.declared.place.Place.{Place}
use Rattle.mz_logic.specs.Term.{Term}
use Rattle.mz_logic.specs.declared.kind.Kind.TheVariants as kind
use Rattle.mz_context.specs.declared.context.Context.{Context}
use Rattle.mz_environment.specs.declared.environment.Environment.{Environment}
use Rattle.mz_names.specs.Names.{variable, argument, known_or}
use Rattle.mz_names.specs.declared.refusal.Refusal.{Refusal}
use Rattle.mz_names.specs.declared.refusal.Refusal.TheVariants.{UnknownSymbol, UnknownVariable, NoNotation}
use Rattle.mz_choice.specs.declared.choice.Applied.{Applied}
use Rattle.mz_choice.specs.declared.choice.Wanted.TheVariants.{Anything}
use Rattle.mz_fits.proofs.FitLemmas.{not_both}
use Rattle.mz_grouping.specs.Grouping.{Grouped, has_neighbours}
use Rattle.mz_grouping.specs.declared.grouping.Step.{Step}
use Rattle.mz_grouping.specs.declared.grouping.Step.TheVariants.{Take, Apply}
use Rattle.mz_tree.specs.Trees.{TermData, TermsData, PieceData, PrefixData, BaseData, NextTermData, NextTermList, PieceList, PrefixList, RunTerm, FunctorPiece, OperandPiece, ListTerms, SelectorPrefix, ChoiceOfPrefix, ChoiceOverPrefix, IdentifierBase, SubjectBase, ArgumentBase, GroupBase, CallBase, CallWithBase, SelectorBase, AggregateBase, BracketsBase, BracesBase, SquaresBase, SetOfBase, ChoiceBase, ChoiceStructureBase, no_pieces, more_pieces, no_prefixs, more_prefixs, no_next_terms, more_next_terms, pieces_of, prefixs_of, next_terms_of}
use Rattle.mz_tree.specs.Places.{first_place}
use Rattle.mz_tree.specs.Spell.{spell_term, spell_piece}
use Rattle.mz_tree.specs.declared.word.Word.{Word}
use Rattle.mz_applied.specs.Application.{application, bracketed}
use Rattle.mz_applied.specs.Meant.{as_term}
use Rattle.mz_applied.specs.Reading.{ReadsAs}
use Rattle.mz_applied.proofs.OneApplication.{one_term_law, one_functor_law}
use Rattle.mz_terms.specs.Parts.{parts_of}
use Rattle.mz_terms.specs.Values.{as_list, top_if, rest_if, terms_in, first_in, applied_to, put_terms, put_term, one_of}
use Rattle.mz_terms.specs.Bases as ba
use Rattle.mz_terms.specs.Bases.{Calls, Applies, Closes, Prefixed}
use Rattle.mz_terms.specs.Terms as te
use Rattle.mz_terms.specs.Terms.{ReadsTerm, Runs, RunsStep, TakesPiece, AppliesPiece, ReadsOperand, ReadsBase, ReadsArguments, ReadsAll, ReadsEach, arguments_of, listed_term}
use Rattle.mz_terms.specs.declared.values.RunValue.{RunValue}
use Rattle.mz_terms.proofs.OneGrouping.{one_grouping}

-- equal lists of trees have equal members
piece_list : PieceList → List PieceData
piece_list no_pieces = []
piece_list (more_pieces p ps) = p ∷ piece_list ps

piece_list-of : (ps : List PieceData) → piece_list (pieces_of ps) ≡ ps
unfolding piece_list
piece_list-of [] = refl
piece_list-of (p ∷ ps) = ap (λ xs. p ∷ xs) (piece_list-of ps)

prefix_list : PrefixList → List PrefixData
prefix_list no_prefixs = []
prefix_list (more_prefixs p ps) = p ∷ prefix_list ps

prefix_list-of : (ps : List PrefixData) → prefix_list (prefixs_of ps) ≡ ps
unfolding prefix_list
prefix_list-of [] = refl
prefix_list-of (p ∷ ps) = ap (λ xs. p ∷ xs) (prefix_list-of ps)

term_list : NextTermList → List NextTermData
term_list no_next_terms = []
term_list (more_next_terms p ps) = p ∷ term_list ps

term_list-of : (ps : List NextTermData) → term_list (next_terms_of ps) ≡ ps
unfolding term_list
term_list-of [] = refl
term_list-of (p ∷ ps) = ap (λ xs. p ∷ xs) (term_list-of ps)

same_pieces : (ps qs : List PieceData) → pieces_of ps ≡ pieces_of qs → ps ≡ qs
same_pieces ps qs h = sym (piece_list-of ps) ∙ (ap piece_list h ∙ piece_list-of qs)

same_prefixes : (ps qs : List PrefixData) → prefixs_of ps ≡ prefixs_of qs → ps ≡ qs
same_prefixes ps qs h = sym (prefix_list-of ps) ∙ (ap prefix_list h ∙ prefix_list-of qs)

same_terms : (ps qs : List NextTermData) → next_terms_of ps ≡ next_terms_of qs → ps ≡ qs
same_terms ps qs h = sym (term_list-of ps) ∙ (ap term_list h ∙ term_list-of qs)

one_call : (e : Environment) (c : Context) (least : ℕ) (w : Word) (ts : List Term) (o p : Result (List Term) Refusal) → Calls e c least w ts o → Calls e c least w ts p → o ≡ p
one_call e c least w ts o p (ba.calls x h) (ba.calls y k) = ap as_list (one_functor_law e c least w.place w.spelling ts x y h k)

one_applied : (e : Environment) (c : Context) (place first : Place) (a : Applied) (o p : Result (List Term) Refusal) → Applies e c place first a o → Applies e c place first a p → o ≡ p
one_applied e c place first a o p (ba.applies x h) (ba.applies y k) = ap as_list (one_term_law e c Anything place (as_term place first) a x y h k)

-- what closes a base, by its form
abbrev FieldAs : Environment → Context → Place → Word → Option Term → Result (List Term) Refusal → Type 0
FieldAs e c p w None o = o ≡ Err (UnknownVariable p)
FieldAs e c p w (Some t) o = Applies e c w.place p (application kind.Selector w.spelling [] (t ∷ [])) o

abbrev ClosesAs : Environment → Context → ℕ → BaseData → List Term → Result (List Term) Refusal → Type 0
ClosesAs e c least (IdentifierBase w) ts o = o ≡ as_list (known_or w.place (variable least c w.spelling))
ClosesAs e c least (SubjectBase p) ts o = o ≡ as_list (known_or p c.it)
ClosesAs e c least (ArgumentBase p k) ts o = o ≡ as_list (known_or p (argument c k))
ClosesAs e c least (GroupBase p us q) ts o = o ≡ Ok ts
ClosesAs e c least (CallBase w p q) ts o = Calls e c least w ts o
ClosesAs e c least (CallWithBase w p us q) ts o = Calls e c least w ts o
ClosesAs e c least (SelectorBase p w) ts o = FieldAs e c p w c.subject o
ClosesAs e c least (AggregateBase w p us q) ts o = Applies e c w.place w.place (application kind.Aggregate w.spelling [] ts) o
ClosesAs e c least (BracketsBase l us r) ts o = Applies e c l.place l.place (bracketed kind.Functor l.spelling r.spelling ts) o
ClosesAs e c least (BracesBase p us q) ts o = Applies e c p p (bracketed kind.Functor (codes "{") (codes "}") ts) o
ClosesAs e c least (SquaresBase p us q) ts o = Applies e c p p (bracketed kind.Functor (codes "[") (codes "]") ts) o
ClosesAs e c least (SetOfBase p t q w r ty s f u) ts o = o ≡ Err (UnknownSymbol p)
ClosesAs e c least (ChoiceBase p xs w) ts o = o ≡ Err (UnknownSymbol p)
ClosesAs e c least (ChoiceStructureBase p xs w) ts o = o ≡ Err (UnknownSymbol p)

closes_as : (e : Environment) (c : Context) (least : ℕ) (b : BaseData) (ts : List Term) (o : Result (List Term) Refusal) → Closes e c least b ts o → ClosesAs e c least b ts o
closes_as e c least b ts o (ba.identifier w us) = refl
closes_as e c least b ts o (ba.subject p us) = refl
closes_as e c least b ts o (ba.numbered p k us) = refl
closes_as e c least b ts o (ba.group p q vs us) = refl
closes_as e c least b ts o (ba.call w p q us x h) = h
closes_as e c least b ts o (ba.call_with w p q vs us x h) = h
closes_as e c least b ts o (ba.no_structure p w us h) = subst (λ x. FieldAs e c p w x (Err (UnknownVariable p))) (sym h) refl
closes_as e c least b ts o (ba.field p w t us x h k) = subst (λ y. FieldAs e c p w y x) (sym h) k
closes_as e c least b ts o (ba.aggregate w p q vs us x h) = h
closes_as e c least b ts o (ba.brackets l r vs us x h) = h
closes_as e c least b ts o (ba.braces p q vs us x h) = h
closes_as e c least b ts o (ba.squares p q vs us x h) = h
closes_as e c least b ts o (ba.set_term p q r s u w t ty f us) = refl
closes_as e c least b ts o (ba.choice p xs w us) = refl
closes_as e c least b ts o (ba.choice_structure p xs w us) = refl

field_once : (e : Environment) (c : Context) (q : Place) (w : Word) (x : Option Term) (o p : Result (List Term) Refusal) → FieldAs e c q w x o → FieldAs e c q w x p → o ≡ p
field_once e c q w None o p h k = h ∙ sym k
field_once e c q w (Some t) o p h k = one_applied e c w.place q (application kind.Selector w.spelling [] (t ∷ [])) o p h k

closes_once : (e : Environment) (c : Context) (least : ℕ) (b : BaseData) (ts : List Term) (o p : Result (List Term) Refusal) → ClosesAs e c least b ts o → ClosesAs e c least b ts p → o ≡ p
closes_once e c least (IdentifierBase w) ts o p h k = h ∙ sym k
closes_once e c least (SubjectBase q) ts o p h k = h ∙ sym k
closes_once e c least (ArgumentBase q n) ts o p h k = h ∙ sym k
closes_once e c least (GroupBase q us r) ts o p h k = h ∙ sym k
closes_once e c least (CallBase w q r) ts o p h k = one_call e c least w ts o p h k
closes_once e c least (CallWithBase w q us r) ts o p h k = one_call e c least w ts o p h k
closes_once e c least (SelectorBase q w) ts o p h k = field_once e c q w c.subject o p h k
closes_once e c least (AggregateBase w q us r) ts o p h k = one_applied e c w.place w.place (application kind.Aggregate w.spelling [] ts) o p h k
closes_once e c least (BracketsBase l us r) ts o p h k = one_applied e c l.place l.place (bracketed kind.Functor l.spelling r.spelling ts) o p h k
closes_once e c least (BracesBase q us r) ts o p h k = one_applied e c q q (bracketed kind.Functor (codes "{") (codes "}") ts) o p h k
closes_once e c least (SquaresBase q us r) ts o p h k = one_applied e c q q (bracketed kind.Functor (codes "[") (codes "]") ts) o p h k
closes_once e c least (SetOfBase q t r w s ty u f v) ts o p h k = h ∙ sym k
closes_once e c least (ChoiceBase q xs w) ts o p h k = h ∙ sym k
closes_once e c least (ChoiceStructureBase q xs w) ts o p h k = h ∙ sym k

one_closing : (e : Environment) (c : Context) (least : ℕ) (b : BaseData) (ts : List Term) (o p : Result (List Term) Refusal) → Closes e c least b ts o → Closes e c least b ts p → o ≡ p
one_closing e c least b ts o p h k = closes_once e c least b ts o p (closes_as e c least b ts o h) (closes_as e c least b ts p k)

-- what prefixes give, by the first of them
abbrev PrefixBehind : Environment → Context → List PrefixData → Result (List Term) Refusal → Result (List Term) Refusal → Type 0
PrefixBehind e c ps (Err r) o = o ≡ Err r
PrefixBehind e c ps (Ok us) o = Prefixed e c ps us o

abbrev PrefixedAs : Environment → Context → List PrefixData → List Term → Result (List Term) Refusal → Type 0
PrefixedAs e c [] ts o = o ≡ Ok ts
PrefixedAs e c (SelectorPrefix p w q ∷ ps) ts o = (x : Result (List Term) Refusal) × Applies e c w.place p (application kind.Selector w.spelling [] ts) x × PrefixBehind e c ps x o
PrefixedAs e c (ChoiceOfPrefix p xs w q bs ∷ ps) ts o = o ≡ Err (UnknownSymbol p)
PrefixedAs e c (ChoiceOverPrefix p xs w q bs ∷ ps) ts o = o ≡ Err (UnknownSymbol p)

prefixed_as : (e : Environment) (c : Context) (ps : List PrefixData) (ts : List Term) (o : Result (List Term) Refusal) → Prefixed e c ps ts o → PrefixedAs e c ps ts o
prefixed_as e c ps ts o (ba.no_prefix us) = refl
prefixed_as e c ps ts o (ba.refused p q w qs us r h) = (Err r, h, refl)
prefixed_as e c ps ts o (ba.selected p q w qs us vs x h k) = (Ok vs, h, k)
prefixed_as e c ps ts o (ba.choice_of p q xs w bs qs us) = refl
prefixed_as e c ps ts o (ba.choice_over p q xs w bs qs us) = refl

behind_once : (e : Environment) (c : Context) (ps : List PrefixData) → ((us : List Term) (o p : Result (List Term) Refusal) → Prefixed e c ps us o → Prefixed e c ps us p → o ≡ p) → (x o p : Result (List Term) Refusal) → PrefixBehind e c ps x o → PrefixBehind e c ps x p → o ≡ p
behind_once e c ps f (Err r) o p h k = h ∙ sym k
behind_once e c ps f (Ok us) o p h k = f us o p h k

selected_once : (e : Environment) (c : Context) (p : Place) (w : Word) (ps : List PrefixData) (ts : List Term) → ((us : List Term) (o p : Result (List Term) Refusal) → Prefixed e c ps us o → Prefixed e c ps us p → o ≡ p) → (x y o q : Result (List Term) Refusal) →
    Applies e c w.place p (application kind.Selector w.spelling [] ts) x → PrefixBehind e c ps x o → Applies e c w.place p (application kind.Selector w.spelling [] ts) y → PrefixBehind e c ps y q → o ≡ q
selected_once e c p w ps ts f x y o q a h b k =
    let same : y ≡ x = one_applied e c w.place p (application kind.Selector w.spelling [] ts) y x b a in
    behind_once e c ps f x o q h (subst (λ z. PrefixBehind e c ps z q) same k)

one_prefixing : (e : Environment) (c : Context) (ps : List PrefixData) (ts : List Term) (o p : Result (List Term) Refusal) → PrefixedAs e c ps ts o → PrefixedAs e c ps ts p → o ≡ p
one_prefixing e c [] ts o p h k = h ∙ sym k
one_prefixing e c (SelectorPrefix q w r ∷ ps) ts o p h k =
    selected_once e c q w ps ts (λ us x y a b. one_prefixing e c ps us x y (prefixed_as e c ps us x a) (prefixed_as e c ps us y b)) h.0 k.0 o p h.1 h.2 k.1 k.2
one_prefixing e c (ChoiceOfPrefix q xs w r bs ∷ ps) ts o p h k = h ∙ sym k
one_prefixing e c (ChoiceOverPrefix q xs w r bs ∷ ps) ts o p h k = h ∙ sym k

one_prefixed : (e : Environment) (c : Context) (ps : List PrefixData) (ts : List Term) (o p : Result (List Term) Refusal) → Prefixed e c ps ts o → Prefixed e c ps ts p → o ≡ p
one_prefixed e c ps ts o p h k = one_prefixing e c ps ts o p (prefixed_as e c ps ts o h) (prefixed_as e c ps ts p k)

-- what the application of a piece gives, by its form
abbrev AppliesAs : Environment → Context → Place → Bool → Bool → PieceData → List RunValue → Result (List RunValue) Refusal → Type 0
AppliesAs e c first left right (FunctorPiece w priority) vs o =
    (x : Result Term Refusal) × ReadsAs e c Anything w.place (as_term w.place (first_in w.place (top_if left (rest_if right vs)))) (applied_to w (top_if left (rest_if right vs)) (top_if right vs)) x
    × (o ≡ put_term (first_in w.place (top_if left (rest_if right vs))) (rest_if left (rest_if right vs)) x)
AppliesAs e c first left right (OperandPiece ps b) vs o = o ≡ Err (NoNotation first)

applies_as : (e : Environment) (c : Context) (first : Place) (left right : Bool) (x : PieceData) (vs : List RunValue) (o : Result (List RunValue) Refusal) → AppliesPiece e c first left right x vs o → AppliesAs e c first left right x vs o
applies_as e c first left right x vs o (te.applies_symbol w n us y h) = (y, h, refl)
applies_as e c first left right x vs o (te.applies_operand ps b us) = refl

applies_once : (e : Environment) (c : Context) (first : Place) (left right : Bool) (x : PieceData) (vs : List RunValue) (o p : Result (List RunValue) Refusal) → AppliesAs e c first left right x vs o → AppliesAs e c first left right x vs p → o ≡ p
applies_once e c first left right (FunctorPiece w priority) vs o p h k =
    h.2 ∙ (ap (put_term (first_in w.place (top_if left (rest_if right vs))) (rest_if left (rest_if right vs)))
    (one_term_law e c Anything w.place (as_term w.place (first_in w.place (top_if left (rest_if right vs)))) (applied_to w (top_if left (rest_if right vs)) (top_if right vs)) h.0 k.0 h.1 k.1) ∙ sym k.2)
applies_once e c first left right (OperandPiece ps b) vs o p h k = h ∙ sym k

one_application : (e : Environment) (c : Context) (first : Place) (left right : Bool) (x : PieceData) (vs : List RunValue) (o p : Result (List RunValue) Refusal) → AppliesPiece e c first left right x vs o → AppliesPiece e c first left right x vs p → o ≡ p
one_application e c first left right x vs o p h k = applies_once e c first left right x vs o p (applies_as e c first left right x vs o h) (applies_as e c first left right x vs p k)

-- what a reading goes on from, by the form of what is read
term_behind : Place → Result (List RunValue) Refusal → Result Term Refusal
term_behind first (Err r) = Err r
term_behind first (Ok vs) = one_of first (terms_in (top_if true vs))

data TermAs (e : Environment) (c : Context) (least : ℕ) (t : TermData) (o : Result Term Refusal) : Type 0 where
  as_neighbours : (p : PieceData) (ps : List PieceData) (first : Place) → t ≡ RunTerm p (pieces_of ps) → first_place (spell_term t) ≡ Some first → has_neighbours (parts_of e (p ∷ ps)) ≡ true → o ≡ Err (NoNotation first) → TermAs e c least t o
  as_run : (p : PieceData) (ps : List PieceData) (first : Place) (steps : List Step) (x : Result (List RunValue) Refusal) → t ≡ RunTerm p (pieces_of ps) → first_place (spell_term t) ≡ Some first → has_neighbours (parts_of e (p ∷ ps)) ≡ false →
      Grouped 0 (parts_of e (p ∷ ps)) steps → Runs e c least first (p ∷ ps) steps [] x → o ≡ term_behind first x → TermAs e c least t o

term_as : (e : Environment) (c : Context) (least : ℕ) (t : TermData) (o : Result Term Refusal) → ReadsTerm e c least t o → TermAs e c least t o
unfolding term_behind
term_as e c least t o (te.neighbours p ps first ef h) = as_neighbours p ps first refl ef h refl
term_as e c least t o (te.run_refused p ps first steps r ef h g k) = as_run p ps first steps (Err r) refl ef h g k refl
term_as e c least t o (te.run_read p ps first steps vs ef h g k) = as_run p ps first steps (Ok vs) refl ef h g k refl

first_piece : TermData → PieceData
first_piece (RunTerm p ps) = p

further_pieces : TermData → List PieceData
further_pieces (RunTerm p ps) = piece_list ps

same_first : (p q : PieceData) (ps qs : List PieceData) → RunTerm p (pieces_of ps) ≡ RunTerm q (pieces_of qs) → p ≡ q
unfolding first_piece
same_first p q ps qs h = ap first_piece h

same_further : (p q : PieceData) (ps qs : List PieceData) → RunTerm p (pieces_of ps) ≡ RunTerm q (pieces_of qs) → ps ≡ qs
unfolding further_pieces
same_further p q ps qs h = sym (piece_list-of ps) ∙ (ap further_pieces h ∙ piece_list-of qs)

cons-same_run : (p q : PieceData) (ps qs : List PieceData) → RunTerm p (pieces_of ps) ≡ RunTerm q (pieces_of qs) → p ∷ ps ≡ q ∷ qs
cons-same_run p q ps qs h = ap (λ x. x ∷ ps) (same_first p q ps qs h) ∙ ap (λ xs. q ∷ xs) (same_further p q ps qs h)

same_some : (o : Option Place) (p q : Place) → o ≡ Some p → o ≡ Some q → p ≡ q
same_some o p q h k = cc

neighbours_once : (e : Environment) (c : Context) (least : ℕ) (p : PieceData) (ps : List PieceData) (first : Place) (o : Result Term Refusal) → first_place (spell_term (RunTerm p (pieces_of ps))) ≡ Some first → has_neighbours (parts_of e (p ∷ ps)) ≡ true → TermAs e c least (RunTerm p (pieces_of ps)) o → Err (NoNotation first) ≡ o
neighbours_once e c least p ps first o ef h (as_neighbours q qs at et ea k eo) = ap (λ x. Err (NoNotation x)) (same_some _ first at ef ea) ∙ sym eo
neighbours_once e c least p ps first o ef h (as_run q qs at steps x et ea k g j eo) =
    absurd (not_both (has_neighbours (parts_of e (q ∷ qs))) k (subst (λ xs. has_neighbours (parts_of e xs) ≡ true) (cons-same_run p q ps qs et) h))

term_behind-run_once : (e : Environment) (c : Context) (least : ℕ) (p : PieceData) (ps : List PieceData) (first : Place) (steps : List Step) (x : Result (List RunValue) Refusal) (o : Result Term Refusal) → first_place (spell_term (RunTerm p (pieces_of ps))) ≡ Some first → has_neighbours (parts_of e (p ∷ ps)) ≡ false → Grouped 0 (parts_of e (p ∷ ps)) steps →
    ((y : Result (List RunValue) Refusal) → Runs e c least first (p ∷ ps) steps [] y → x ≡ y) → TermAs e c least (RunTerm p (pieces_of ps)) o → term_behind first x ≡ o
term_behind-run_once e c least p ps first steps x o ef h g f (as_neighbours q qs at et ea k eo) =
    absurd (not_both (has_neighbours (parts_of e (p ∷ ps))) h (subst (λ xs. has_neighbours (parts_of e xs) ≡ true) (sym (cons-same_run p q ps qs et)) k))
term_behind-run_once e c least p ps first steps x o ef h g f (as_run q qs at more y et ea k j r eo) =
    let run : q ∷ qs ≡ p ∷ ps = sym (cons-same_run p q ps qs et) in
    let here : at ≡ first = sym (same_some _ first at ef ea) in
    let grouped : Grouped 0 (parts_of e (p ∷ ps)) more = subst (λ xs. Grouped 0 (parts_of e xs) more) run j in
    let steps_same : more ≡ steps = sym (one_grouping 0 (parts_of e (p ∷ ps)) steps more g grouped) in
    let one : Runs e c least first (q ∷ qs) more [] y = subst (λ z. Runs e c least z (q ∷ qs) more [] y) here r in
    let two : Runs e c least first (p ∷ ps) more [] y = subst (λ xs. Runs e c least first xs more [] y) run one in
    let three : Runs e c least first (p ∷ ps) steps [] y = subst (λ xs. Runs e c least first (p ∷ ps) xs [] y) steps_same two in
    ap (term_behind first) (f y three) ∙ (ap (λ z. term_behind z y) (sym here) ∙ sym eo)

abbrev StepBehind : Environment → Context → ℕ → Place → List PieceData → List Step → Result (List RunValue) Refusal → Result (List RunValue) Refusal → Type 0
StepBehind e c least first run ss (Err r) o = o ≡ Err r
StepBehind e c least first run ss (Ok us) o = Runs e c least first run ss us o

abbrev RunsAs : Environment → Context → ℕ → Place → List PieceData → List Step → List RunValue → Result (List RunValue) Refusal → Type 0
RunsAs e c least first run [] vs o = o ≡ Ok vs
RunsAs e c least first run (s ∷ ss) vs o = (x : Result (List RunValue) Refusal) × RunsStep e c least first run s vs x × StepBehind e c least first run ss x o

runs_as : (e : Environment) (c : Context) (least : ℕ) (first : Place) (run : List PieceData) (steps : List Step) (vs : List RunValue) (o : Result (List RunValue) Refusal) → Runs e c least first run steps vs o → RunsAs e c least first run steps vs o
runs_as e c least first run steps vs o (te.no_step f l us) = refl
runs_as e c least first run steps vs o (te.stops f l s ss us r h) = (Err r, h, refl)
runs_as e c least first run steps vs o (te.goes_on f l s ss us ws p h k) = (Ok ws, h, k)

abbrev TakeAs : Environment → Context → ℕ → Place → Option PieceData → List RunValue → Result (List RunValue) Refusal → Type 0
TakeAs e c least first None vs o = o ≡ Err (NoNotation first)
TakeAs e c least first (Some x) vs o = TakesPiece e c least first x vs o

abbrev ApplyAs : Environment → Context → Place → Bool → Bool → Option PieceData → List RunValue → Result (List RunValue) Refusal → Type 0
ApplyAs e c first left right None vs o = o ≡ Err (NoNotation first)
ApplyAs e c first left right (Some x) vs o = AppliesPiece e c first left right x vs o

abbrev StepAs : Environment → Context → ℕ → Place → List PieceData → Step → List RunValue → Result (List RunValue) Refusal → Type 0
StepAs e c least first run (Take k) vs o = TakeAs e c least first (slice_get run k) vs o
StepAs e c least first run (Apply k left right) vs o = ApplyAs e c first left right (slice_get run k) vs o

step_as : (e : Environment) (c : Context) (least : ℕ) (first : Place) (run : List PieceData) (s : Step) (vs : List RunValue) (o : Result (List RunValue) Refusal) → RunsStep e c least first run s vs o → StepAs e c least first run s vs o
step_as e c least first run s vs o (te.takes f l k x us p h t) = subst (λ y. TakeAs e c least f y us p) (sym h) t
step_as e c least first run s vs o (te.applies f l k left right x us p h t) = subst (λ y. ApplyAs e c f left right y us p) (sym h) t
step_as e c least first run s vs o (te.takes_nothing f l k us h) = subst (λ y. TakeAs e c least f y us (Err (NoNotation f))) (sym h) refl
step_as e c least first run s vs o (te.applies_nothing f l k left right us h) = subst (λ y. ApplyAs e c f left right y us (Err (NoNotation f))) (sym h) refl

data PieceAs (e : Environment) (c : Context) (least : ℕ) (first : Place) (x : PieceData) (vs : List RunValue) (o : Result (List RunValue) Refusal) : Type 0 where
  as_operand : (ps : List PrefixData) (b : BaseData) (at : Place) (y : Result (List Term) Refusal) → x ≡ OperandPiece (prefixs_of ps) b → first_place (spell_piece x) ≡ Some at → ReadsOperand e c least ps b y → o ≡ put_terms at vs y → PieceAs e c least first x vs o
  as_symbol : (w : Word) (priority : ℕ) → x ≡ FunctorPiece w priority → o ≡ Err (NoNotation first) → PieceAs e c least first x vs o

piece_as : (e : Environment) (c : Context) (least : ℕ) (first : Place) (x : PieceData) (vs : List RunValue) (o : Result (List RunValue) Refusal) → TakesPiece e c least first x vs o → PieceAs e c least first x vs o
piece_as e c least first x vs o (te.takes_operand f ps b at us y ef h) = as_operand ps b at y refl ef h refl
piece_as e c least first x vs o (te.takes_symbol f w n us) = as_symbol w n refl refl

prefixes_in : PieceData → List PrefixData
prefixes_in (FunctorPiece w n) = []
prefixes_in (OperandPiece ps b) = prefix_list ps

base_in : BaseData → PieceData → BaseData
base_in b (FunctorPiece w n) = b
base_in b (OperandPiece ps d) = d

same_operands : (ps qs : List PrefixData) (b d : BaseData) → OperandPiece (prefixs_of ps) b ≡ OperandPiece (prefixs_of qs) d → ps ≡ qs
unfolding prefixes_in
same_operands ps qs b d h = sym (prefix_list-of ps) ∙ (ap prefixes_in h ∙ prefix_list-of qs)

same_bases : (ps qs : PrefixList) (b d : BaseData) → OperandPiece ps b ≡ OperandPiece qs d → b ≡ d
unfolding base_in
same_bases ps qs b d h = ap (base_in b) h

is_functor : PieceData → Bool
is_functor (FunctorPiece w n) = true
is_functor (OperandPiece ps b) = false

apart : (w : Word) (n : ℕ) (ps : PrefixList) (b : BaseData) → FunctorPiece w n ≡ OperandPiece ps b → ⊥
unfolding is_functor
apart w n ps b h = let e : true ≡ false = ap is_functor h in not_both true e refl

put_terms-operand_once : (e : Environment) (c : Context) (least : ℕ) (first : Place) (ps : List PrefixData) (b : BaseData) (at : Place) (vs : List RunValue) (x : Result (List Term) Refusal) (o : Result (List RunValue) Refusal) → first_place (spell_piece (OperandPiece (prefixs_of ps) b)) ≡ Some at → ((y : Result (List Term) Refusal) → ReadsOperand e c least ps b y → x ≡ y) → PieceAs e c least first (OperandPiece (prefixs_of ps) b) vs o → put_terms at vs x ≡ o
put_terms-operand_once e c least first ps b at vs x o ef f (as_operand qs d there y ex ea h eo) =
    let one : ReadsOperand e c least ps d y = subst (λ xs. ReadsOperand e c least xs d y) (sym (same_operands ps qs b d ex)) h in
    let two : ReadsOperand e c least ps b y = subst (λ z. ReadsOperand e c least ps z y) (sym (same_bases (prefixs_of ps) (prefixs_of qs) b d ex)) one in
    ap (put_terms at vs) (f y two) ∙ (ap (λ z. put_terms z vs y) (same_some _ at there ef ea) ∙ sym eo)
put_terms-operand_once e c least first ps b at vs x o ef f (as_symbol w n ex eo) = absurd (apart w n (prefixs_of ps) b (sym ex))

symbol_once : (e : Environment) (c : Context) (least : ℕ) (first : Place) (w : Word) (n : ℕ) (vs : List RunValue) (o : Result (List RunValue) Refusal) → PieceAs e c least first (FunctorPiece w n) vs o → Err (NoNotation first) ≡ o
symbol_once e c least first w n vs o (as_operand qs d there y ex ea h eo) = absurd (apart w n (prefixs_of qs) d ex)
symbol_once e c least first w n vs o (as_symbol v m ex eo) = sym eo

abbrev OperandBehind : Environment → Context → List PrefixData → Result (List Term) Refusal → Result (List Term) Refusal → Type 0
OperandBehind e c ps (Err r) o = o ≡ Err r
OperandBehind e c ps (Ok ts) o = Prefixed e c (reverse ps) ts o

abbrev OperandAs : Environment → Context → ℕ → List PrefixData → BaseData → Result (List Term) Refusal → Type 0
OperandAs e c least ps b o = (x : Result (List Term) Refusal) × ReadsBase e c least b x × OperandBehind e c ps x o

operand_as : (e : Environment) (c : Context) (least : ℕ) (ps : List PrefixData) (b : BaseData) (o : Result (List Term) Refusal) → ReadsOperand e c least ps b o → OperandAs e c least ps b o
operand_as e c least ps b o (te.base_refused qs d r h) = (Err r, h, refl)
operand_as e c least ps b o (te.prefixed qs d ts p h k) = (Ok ts, h, k)

abbrev BaseBehind : Environment → Context → ℕ → BaseData → Result (List Term) Refusal → Result (List Term) Refusal → Type 0
BaseBehind e c least b (Err r) o = o ≡ Err r
BaseBehind e c least b (Ok ts) o = Closes e c least b ts o

abbrev BaseAs : Environment → Context → ℕ → BaseData → Result (List Term) Refusal → Type 0
BaseAs e c least b o = (x : Result (List Term) Refusal) × ReadsArguments e c least b x × BaseBehind e c least b x o

base_as : (e : Environment) (c : Context) (least : ℕ) (b : BaseData) (o : Result (List Term) Refusal) → ReadsBase e c least b o → BaseAs e c least b o
base_as e c least b o (te.arguments_refused d r h) = (Err r, h, refl)
base_as e c least b o (te.closed d ts p h k) = (Ok ts, h, k)

abbrev ArgumentsAs : Environment → Context → ℕ → Option TermsData → Result (List Term) Refusal → Type 0
ArgumentsAs e c least None o = o ≡ Ok []
ArgumentsAs e c least (Some ts) o = ReadsAll e c least ts o

arguments_as : (e : Environment) (c : Context) (least : ℕ) (b : BaseData) (o : Result (List Term) Refusal) → ReadsArguments e c least b o → ArgumentsAs e c least (arguments_of b) o
arguments_as e c least b o (te.no_arguments d h) = subst (λ x. ArgumentsAs e c least x (Ok [])) (sym h) refl
arguments_as e c least b o (te.arguments d ts p h k) = subst (λ x. ArgumentsAs e c least x p) (sym h) k

data AllAs (e : Environment) (c : Context) (least : ℕ) (ts : TermsData) (o : Result (List Term) Refusal) : Type 0 where
  as_all : (t : TermData) (ns : List NextTermData) → ts ≡ ListTerms t (next_terms_of ns) → ReadsEach e c least (t ∷ map listed_term ns) [] o → AllAs e c least ts o

all_as : (e : Environment) (c : Context) (least : ℕ) (ts : TermsData) (o : Result (List Term) Refusal) → ReadsAll e c least ts o → AllAs e c least ts o
all_as e c least ts o (te.all t ns p h) = as_all t ns refl h

listed : TermsData → List TermData
listed (ListTerms t ns) = t ∷ map listed_term (term_list ns)

same_listed : (t u : TermData) (ns ms : List NextTermData) → ListTerms t (next_terms_of ns) ≡ ListTerms u (next_terms_of ms) → t ∷ map listed_term ns ≡ u ∷ map listed_term ms
unfolding listed
same_listed t u ns ms h = ap (λ xs. t ∷ map listed_term xs) (sym (term_list-of ns)) ∙ (ap listed h ∙ ap (λ xs. u ∷ map listed_term xs) (term_list-of ms))

all_once : (e : Environment) (c : Context) (least : ℕ) (t : TermData) (ns : List NextTermData) (o p : Result (List Term) Refusal) → ((q : Result (List Term) Refusal) → ReadsEach e c least (t ∷ map listed_term ns) [] q → o ≡ q) → AllAs e c least (ListTerms t (next_terms_of ns)) p → o ≡ p
all_once e c least t ns o p f (as_all u ms et h) = f p (subst (λ xs. ReadsEach e c least xs [] p) (sym (same_listed t u ns ms et)) h)

abbrev EachBehind : Environment → Context → ℕ → List TermData → List Term → Result Term Refusal → Result (List Term) Refusal → Type 0
EachBehind e c least ts before (Err r) o = o ≡ Err r
EachBehind e c least ts before (Ok u) o = ReadsEach e c least ts (before ++ u ∷ []) o

abbrev EachAs : Environment → Context → ℕ → List TermData → List Term → Result (List Term) Refusal → Type 0
EachAs e c least [] before o = o ≡ Ok before
EachAs e c least (t ∷ ts) before o = (x : Result Term Refusal) × ReadsTerm e c least t x × EachBehind e c least ts before x o

each_as : (e : Environment) (c : Context) (least : ℕ) (ts : List TermData) (before : List Term) (o : Result (List Term) Refusal) → ReadsEach e c least ts before o → EachAs e c least ts before o
each_as e c least ts before o (te.no_more b) = refl
each_as e c least ts before o (te.one_refused t us b r h) = (Err r, h, refl)
each_as e c least ts before o (te.one_read t us b u p h k) = (Ok u, h, k)

mutual
  unfolding term_behind

  pub one_term : (e : Environment) (c : Context) (least : ℕ) (t : TermData) (o : Result Term Refusal) → ReadsTerm e c least t o → (p : Result Term Refusal) → ReadsTerm e c least t p → o ≡ p
  one_term e c least t o (te.neighbours q qs first ef h) p k = neighbours_once e c least q qs first p ef h (term_as e c least (RunTerm q (pieces_of qs)) p k)
  one_term e c least t o (te.run_refused q qs first steps r ef h g j) p k =
      term_behind-run_once e c least q qs first steps (Err r) p ef h g (λ y l. one_runs e c least first (q ∷ qs) steps [] (Err r) j y l) (term_as e c least (RunTerm q (pieces_of qs)) p k)
  one_term e c least t o (te.run_read q qs first steps vs ef h g j) p k =
      term_behind-run_once e c least q qs first steps (Ok vs) p ef h g (λ y l. one_runs e c least first (q ∷ qs) steps [] (Ok vs) j y l) (term_as e c least (RunTerm q (pieces_of qs)) p k)

  one_runs : (e : Environment) (c : Context) (least : ℕ) (first : Place) (run : List PieceData) (steps : List Step) (vs : List RunValue) (o : Result (List RunValue) Refusal) → Runs e c least first run steps vs o → (p : Result (List RunValue) Refusal) → Runs e c least first run steps vs p → o ≡ p
  one_runs e c least first run steps vs o (te.no_step f l us) p k = sym (runs_as e c least f l [] us p k)
  one_runs e c least first run steps vs o (te.stops f l s ss us r h) p k =
      let q : RunsAs e c least f l (s ∷ ss) us p = runs_as e c least f l (s ∷ ss) us p k in
      let same : Err r ≡ q.0 = one_step e c least f l s us (Err r) h q.0 q.1 in
      let behind : StepBehind e c least f l ss (Err r) p = subst (λ x. StepBehind e c least f l ss x p) (sym same) q.2 in
      sym behind
  one_runs e c least first run steps vs o (te.goes_on f l s ss us ws x h j) p k =
      let q : RunsAs e c least f l (s ∷ ss) us p = runs_as e c least f l (s ∷ ss) us p k in
      let same : Ok ws ≡ q.0 = one_step e c least f l s us (Ok ws) h q.0 q.1 in
      let behind : StepBehind e c least f l ss (Ok ws) p = subst (λ y. StepBehind e c least f l ss y p) (sym same) q.2 in
      one_runs e c least f l ss ws x j p behind

  one_step : (e : Environment) (c : Context) (least : ℕ) (first : Place) (run : List PieceData) (s : Step) (vs : List RunValue) (o : Result (List RunValue) Refusal) → RunsStep e c least first run s vs o → (p : Result (List RunValue) Refusal) → RunsStep e c least first run s vs p → o ≡ p
  one_step e c least first run s vs o (te.takes f l n x us y h t) p k =
      let q : TakeAs e c least f (Some x) us p = subst (λ z. TakeAs e c least f z us p) h (step_as e c least f l (Take n) us p k) in
      one_piece e c least f x us y t p q
  one_step e c least first run s vs o (te.applies f l n left right x us y h t) p k =
      let q : ApplyAs e c f left right (Some x) us p = subst (λ z. ApplyAs e c f left right z us p) h (step_as e c least f l (Apply n left right) us p k) in
      one_application e c f left right x us y p t q
  one_step e c least first run s vs o (te.takes_nothing f l n us h) p k =
      let q : TakeAs e c least f None us p = subst (λ z. TakeAs e c least f z us p) h (step_as e c least f l (Take n) us p k) in
      sym q
  one_step e c least first run s vs o (te.applies_nothing f l n left right us h) p k =
      let q : ApplyAs e c f left right None us p = subst (λ z. ApplyAs e c f left right z us p) h (step_as e c least f l (Apply n left right) us p k) in
      sym q

  one_piece : (e : Environment) (c : Context) (least : ℕ) (first : Place) (x : PieceData) (vs : List RunValue) (o : Result (List RunValue) Refusal) → TakesPiece e c least first x vs o → (p : Result (List RunValue) Refusal) → TakesPiece e c least first x vs p → o ≡ p
  one_piece e c least first x vs o (te.takes_operand f ps b at us y ef h) p k =
      put_terms-operand_once e c least f ps b at us y p ef (λ z l. one_operand e c least ps b y h z l) (piece_as e c least f (OperandPiece (prefixs_of ps) b) us p k)
  one_piece e c least first x vs o (te.takes_symbol f w n us) p k = symbol_once e c least f w n us p (piece_as e c least f (FunctorPiece w n) us p k)

  one_operand : (e : Environment) (c : Context) (least : ℕ) (ps : List PrefixData) (b : BaseData) (o : Result (List Term) Refusal) → ReadsOperand e c least ps b o → (p : Result (List Term) Refusal) → ReadsOperand e c least ps b p → o ≡ p
  one_operand e c least ps b o (te.base_refused qs d r h) p k =
      let q : OperandAs e c least qs d p = operand_as e c least qs d p k in
      let same : Err r ≡ q.0 = one_base e c least d (Err r) h q.0 q.1 in
      let behind : OperandBehind e c qs (Err r) p = subst (λ x. OperandBehind e c qs x p) (sym same) q.2 in
      sym behind
  one_operand e c least ps b o (te.prefixed qs d ts x h j) p k =
      let q : OperandAs e c least qs d p = operand_as e c least qs d p k in
      let same : Ok ts ≡ q.0 = one_base e c least d (Ok ts) h q.0 q.1 in
      let behind : OperandBehind e c qs (Ok ts) p = subst (λ y. OperandBehind e c qs y p) (sym same) q.2 in
      one_prefixed e c (reverse qs) ts x p j behind

  one_base : (e : Environment) (c : Context) (least : ℕ) (b : BaseData) (o : Result (List Term) Refusal) → ReadsBase e c least b o → (p : Result (List Term) Refusal) → ReadsBase e c least b p → o ≡ p
  one_base e c least b o (te.arguments_refused d r h) p k =
      let q : BaseAs e c least d p = base_as e c least d p k in
      let same : Err r ≡ q.0 = one_arguments e c least d (Err r) h q.0 q.1 in
      let behind : BaseBehind e c least d (Err r) p = subst (λ x. BaseBehind e c least d x p) (sym same) q.2 in
      sym behind
  one_base e c least b o (te.closed d ts x h j) p k =
      let q : BaseAs e c least d p = base_as e c least d p k in
      let same : Ok ts ≡ q.0 = one_arguments e c least d (Ok ts) h q.0 q.1 in
      let behind : BaseBehind e c least d (Ok ts) p = subst (λ y. BaseBehind e c least d y p) (sym same) q.2 in
      one_closing e c least d ts x p j behind

  one_arguments : (e : Environment) (c : Context) (least : ℕ) (b : BaseData) (o : Result (List Term) Refusal) → ReadsArguments e c least b o → (p : Result (List Term) Refusal) → ReadsArguments e c least b p → o ≡ p
  one_arguments e c least b o (te.no_arguments d h) p k =
      let q : ArgumentsAs e c least None p = subst (λ x. ArgumentsAs e c least x p) h (arguments_as e c least d p k) in
      sym q
  one_arguments e c least b o (te.arguments d ts x h j) p k =
      let q : ArgumentsAs e c least (Some ts) p = subst (λ y. ArgumentsAs e c least y p) h (arguments_as e c least d p k) in
      one_list e c least ts x j p q

  pub one_list : (e : Environment) (c : Context) (least : ℕ) (ts : TermsData) (o : Result (List Term) Refusal) → ReadsAll e c least ts o → (p : Result (List Term) Refusal) → ReadsAll e c least ts p → o ≡ p
  one_list e c least ts o (te.all t ns x h) p k = all_once e c least t ns x p (λ q l. one_each e c least (t ∷ map listed_term ns) [] x h q l) (all_as e c least (ListTerms t (next_terms_of ns)) p k)

  one_each : (e : Environment) (c : Context) (least : ℕ) (ts : List TermData) (before : List Term) (o : Result (List Term) Refusal) → ReadsEach e c least ts before o → (p : Result (List Term) Refusal) → ReadsEach e c least ts before p → o ≡ p
  one_each e c least ts before o (te.no_more b) p k = sym (each_as e c least [] b p k)
  one_each e c least ts before o (te.one_refused t us b r h) p k =
      let q : EachAs e c least (t ∷ us) b p = each_as e c least (t ∷ us) b p k in
      let same : Err r ≡ q.0 = one_term e c least t (Err r) h q.0 q.1 in
      let behind : EachBehind e c least us b (Err r) p = subst (λ x. EachBehind e c least us b x p) (sym same) q.2 in
      sym behind
  one_each e c least ts before o (te.one_read t us b u x h j) p k =
      let q : EachAs e c least (t ∷ us) b p = each_as e c least (t ∷ us) b p k in
      let same : Ok u ≡ q.0 = one_term e c least t (Ok u) h q.0 q.1 in
      let behind : EachBehind e c least us b (Ok u) p = subst (λ y. EachBehind e c least us b y p) (sym same) q.2 in
      one_each e c least us (b ++ u ∷ []) x j p behind
