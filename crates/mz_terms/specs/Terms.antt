-- What terms are read to, or the first refusal in the order of the reading.
use Rattle.std.specs.Prelude.{◌≡◌, ℕ, Bool, true, false, List, [], ◌∷◌, ◌++◌, map, reverse, Option, Some, None, Result, Ok, Err, slice_get}
use Rattle.mz_base.specs.declared.place.Place.{Place}
use Rattle.mz_logic.specs.Term.{Term}
use Rattle.mz_context.specs.declared.context.Context.{Context}
use Rattle.mz_environment.specs.declared.environment.Environment.{Environment}
use Rattle.mz_names.specs.declared.refusal.Refusal.{Refusal}
use Rattle.mz_names.specs.declared.refusal.Refusal.TheVariants.{NoNotation}
use Rattle.mz_choice.specs.declared.choice.Wanted.TheVariants.{Anything}
use Rattle.mz_grouping.specs.Grouping.{Grouped, has_neighbours}
use Rattle.mz_grouping.specs.declared.grouping.Step.{Step}
use Rattle.mz_grouping.specs.declared.grouping.Step.TheVariants.{Take, Apply}
use Rattle.mz_tree.specs.Trees.{TermData, TermsData, PieceData, PrefixData, BaseData, NextTermData, PrefixList, RunTerm, FunctorPiece, OperandPiece, ListTerms, NextNextTerm, IdentifierBase, SubjectBase, ArgumentBase, GroupBase, CallBase, CallWithBase, SelectorBase, AggregateBase, BracketsBase, BracesBase, SquaresBase, SetOfBase, ChoiceBase, ChoiceStructureBase, pieces_of, prefixs_of, next_terms_of}
use Rattle.mz_tree.specs.Places.{first_place}
use Rattle.mz_tree.specs.Spell.{spell_term, spell_piece}
use Rattle.mz_tree.specs.declared.word.Word.{Word}
use Rattle.mz_applied.specs.Meant.{as_term}
use Rattle.mz_applied.specs.Reading.{ReadsAs}
use Rattle.mz_terms.specs.Parts.{parts_of}
use Rattle.mz_terms.specs.Values.{top_if, rest_if, terms_in, first_in, applied_to, put_terms, put_term, one_of}
use Rattle.mz_terms.specs.Bases.{Closes, Prefixed}
use Rattle.mz_terms.specs.declared.values.RunValue.{RunValue}

-- the arguments of an operand
abbrev pub arguments_of : BaseData → Option TermsData
arguments_of (IdentifierBase w) = None
arguments_of (SubjectBase p) = None
arguments_of (ArgumentBase p k) = None
arguments_of (GroupBase p ts q) = Some ts
arguments_of (CallBase w p q) = None
arguments_of (CallWithBase w p ts q) = Some ts
arguments_of (SelectorBase p w) = None
arguments_of (AggregateBase w p ts q) = Some ts
arguments_of (BracketsBase l ts r) = Some ts
arguments_of (BracesBase p ts q) = Some ts
arguments_of (SquaresBase p ts q) = Some ts
arguments_of (SetOfBase p t q w r ty s f u) = None
arguments_of (ChoiceBase p xs w) = None
arguments_of (ChoiceStructureBase p xs w) = None

abbrev pub listed_term : NextTermData → TermData
listed_term (NextNextTerm p t) = t

-- a functor symbol of a run, applied to what was read last on its sides. `first` is the place of the run's first token.
pub data AppliesPiece (e : Environment) (c : Context) (first : Place) (left right : Bool) : PieceData → List RunValue → Result (List RunValue) Refusal → Type 0 where
  applies_symbol : (w : Word) (priority : ℕ) (vs : List RunValue) (o : Result Term Refusal) →
      ReadsAs e c Anything w.place (as_term w.place (first_in w.place (top_if left (rest_if right vs)))) (applied_to w (top_if left (rest_if right vs)) (top_if right vs)) o →
      AppliesPiece e c first left right (FunctorPiece w priority) vs (put_term (first_in w.place (top_if left (rest_if right vs))) (rest_if left (rest_if right vs)) o)
  applies_operand : (ps : PrefixList) (b : BaseData) (vs : List RunValue) → AppliesPiece e c first left right (OperandPiece ps b) vs (Err (NoNotation first))

mutual
  -- a term. Two operands beside each other, and a list in parentheses in place of a term, have no notation; the grammar has
  -- neither.
  pub data ReadsTerm (e : Environment) (c : Context) (least : ℕ) : TermData → Result Term Refusal → Type 0 where
    neighbours : (p : PieceData) (ps : List PieceData) (first : Place) →
        first_place (spell_term (RunTerm p (pieces_of ps))) ≡ Some first → has_neighbours (parts_of e (p ∷ ps)) ≡ true →
        ReadsTerm e c least (RunTerm p (pieces_of ps)) (Err (NoNotation first))
    run_refused : (p : PieceData) (ps : List PieceData) (first : Place) (steps : List Step) (r : Refusal) →
        first_place (spell_term (RunTerm p (pieces_of ps))) ≡ Some first → has_neighbours (parts_of e (p ∷ ps)) ≡ false →
        Grouped 0 (parts_of e (p ∷ ps)) steps → Runs e c least first (p ∷ ps) steps [] (Err r) →
        ReadsTerm e c least (RunTerm p (pieces_of ps)) (Err r)
    run_read : (p : PieceData) (ps : List PieceData) (first : Place) (steps : List Step) (vs : List RunValue) →
        first_place (spell_term (RunTerm p (pieces_of ps))) ≡ Some first → has_neighbours (parts_of e (p ∷ ps)) ≡ false →
        Grouped 0 (parts_of e (p ∷ ps)) steps → Runs e c least first (p ∷ ps) steps [] (Ok vs) →
        ReadsTerm e c least (RunTerm p (pieces_of ps)) (one_of first (terms_in (top_if true vs)))

  -- steps of a run, with the values read so far, the last one in front
  pub data Runs (e : Environment) (c : Context) (least : ℕ) : Place → List PieceData → List Step → List RunValue → Result (List RunValue) Refusal → Type 0 where
    no_step : (first : Place) (run : List PieceData) (vs : List RunValue) → Runs e c least first run [] vs (Ok vs)
    stops : (first : Place) (run : List PieceData) (s : Step) (ss : List Step) (vs : List RunValue) (r : Refusal) → RunsStep e c least first run s vs (Err r) → Runs e c least first run (s ∷ ss) vs (Err r)
    goes_on : (first : Place) (run : List PieceData) (s : Step) (ss : List Step) (vs us : List RunValue) (o : Result (List RunValue) Refusal) → RunsStep e c least first run s vs (Ok us) → Runs e c least first run ss us o → Runs e c least first run (s ∷ ss) vs o

  -- one of them
  pub data RunsStep (e : Environment) (c : Context) (least : ℕ) : Place → List PieceData → Step → List RunValue → Result (List RunValue) Refusal → Type 0 where
    takes : (first : Place) (run : List PieceData) (k : ℕ) (x : PieceData) (vs : List RunValue) (o : Result (List RunValue) Refusal) → slice_get run k ≡ Some x → TakesPiece e c least first x vs o → RunsStep e c least first run (Take k) vs o
    applies : (first : Place) (run : List PieceData) (k : ℕ) (left right : Bool) (x : PieceData) (vs : List RunValue) (o : Result (List RunValue) Refusal) → slice_get run k ≡ Some x → AppliesPiece e c first left right x vs o → RunsStep e c least first run (Apply k left right) vs o
    takes_nothing : (first : Place) (run : List PieceData) (k : ℕ) (vs : List RunValue) → slice_get run k ≡ None → RunsStep e c least first run (Take k) vs (Err (NoNotation first))
    applies_nothing : (first : Place) (run : List PieceData) (k : ℕ) (left right : Bool) (vs : List RunValue) → slice_get run k ≡ None → RunsStep e c least first run (Apply k left right) vs (Err (NoNotation first))

  -- an operand of a run
  pub data TakesPiece (e : Environment) (c : Context) (least : ℕ) : Place → PieceData → List RunValue → Result (List RunValue) Refusal → Type 0 where
    takes_operand : (first : Place) (ps : List PrefixData) (b : BaseData) (at : Place) (vs : List RunValue) (o : Result (List Term) Refusal) →
        first_place (spell_piece (OperandPiece (prefixs_of ps) b)) ≡ Some at → ReadsOperand e c least ps b o →
        TakesPiece e c least first (OperandPiece (prefixs_of ps) b) vs (put_terms at vs o)
    takes_symbol : (first : Place) (w : Word) (priority : ℕ) (vs : List RunValue) → TakesPiece e c least first (FunctorPiece w priority) vs (Err (NoNotation first))

  -- an operand: what stands behind its prefixes, then these, the last one first
  pub data ReadsOperand (e : Environment) (c : Context) (least : ℕ) : List PrefixData → BaseData → Result (List Term) Refusal → Type 0 where
    base_refused : (ps : List PrefixData) (b : BaseData) (r : Refusal) → ReadsBase e c least b (Err r) → ReadsOperand e c least ps b (Err r)
    prefixed : (ps : List PrefixData) (b : BaseData) (ts : List Term) (o : Result (List Term) Refusal) → ReadsBase e c least b (Ok ts) → Prefixed e c (reverse ps) ts o → ReadsOperand e c least ps b o

  -- an operand without its prefixes: its arguments, and then it
  pub data ReadsBase (e : Environment) (c : Context) (least : ℕ) : BaseData → Result (List Term) Refusal → Type 0 where
    arguments_refused : (b : BaseData) (r : Refusal) → ReadsArguments e c least b (Err r) → ReadsBase e c least b (Err r)
    closed : (b : BaseData) (ts : List Term) (o : Result (List Term) Refusal) → ReadsArguments e c least b (Ok ts) → Closes e c least b ts o → ReadsBase e c least b o

  pub data ReadsArguments (e : Environment) (c : Context) (least : ℕ) : BaseData → Result (List Term) Refusal → Type 0 where
    no_arguments : (b : BaseData) → arguments_of b ≡ None → ReadsArguments e c least b (Ok [])
    arguments : (b : BaseData) (ts : TermsData) (o : Result (List Term) Refusal) → arguments_of b ≡ Some ts → ReadsAll e c least ts o → ReadsArguments e c least b o

  -- terms with commas between them
  pub data ReadsAll (e : Environment) (c : Context) (least : ℕ) : TermsData → Result (List Term) Refusal → Type 0 where
    all : (t : TermData) (ns : List NextTermData) (o : Result (List Term) Refusal) → ReadsEach e c least (t ∷ map listed_term ns) [] o → ReadsAll e c least (ListTerms t (next_terms_of ns)) o

  -- terms one after another, those before them being read
  pub data ReadsEach (e : Environment) (c : Context) (least : ℕ) : List TermData → List Term → Result (List Term) Refusal → Type 0 where
    no_more : (before : List Term) → ReadsEach e c least [] before (Ok before)
    one_refused : (t : TermData) (ts : List TermData) (before : List Term) (r : Refusal) → ReadsTerm e c least t (Err r) → ReadsEach e c least (t ∷ ts) before (Err r)
    one_read : (t : TermData) (ts : List TermData) (before : List Term) (u : Term) (o : Result (List Term) Refusal) → ReadsTerm e c least t (Ok u) → ReadsEach e c least ts (before ++ u ∷ []) o → ReadsEach e c least (t ∷ ts) before o
