-- What an environment part names is one list of lexemes, or has one fault.
use Rattle.std.proofs.Common.{◌≡◌, ◌<◌, ◌≤◌, ℕ, suc, ◌+◌, List, [], ◌∷◌, ◌++◌, length, map, append_assoc, append-nil, refl, sym, ap, subst, ◌∙◌, Bool, true, false, nat_lt, if◌then◌else◌, Option, Some, None}
use Rattle.std.specs.Prelude.{Result, Ok, Err}
use Rattle.std.proofs.lemmas.Bool.{le-ltb, lt-ltb}
use Rattle.mz_base.specs.NamedText.{NamedText}
use Rattle.mz_base.specs.declared.place.Place.{Place}
use Rattle.mz_base.specs.declared.head.Directive.{Directive}
use Rattle.mz_base.specs.declared.head.PlacedName.{PlacedName}
use Rattle.mz_base.specs.declared.rule_code.RuleCode.TheVariants as code
use Rattle.mz_core.specs.declared.fault.Fault.{Fault}
use Rattle.mz_voc.specs.Lines.{lines_of}
use Rattle.mz_voc.specs.Vocabulary.{entries_of, fault_below, AreRight, IsFirstFault, IsVocabulary}
use Rattle.mz_voc.specs.declared.vocabulary.Entry.{Entry}
use Rattle.mz_voc.specs.declared.voc_fault.VocFault.{VocFault}
use Rattle.mz_lex.specs.BuiltIn.{built_in_lexemes}
use Rattle.mz_lex.specs.Table as rule
use Rattle.mz_lex.specs.Table.{is_hidden, text_named, any_clash, joined, most_symbols, Adds, AddsAll, IsFaultOf, IsTableRefused, IsTableOf, IsTableFault, named_vocabularies, symbol_lexeme}
use Rattle.mz_lex.specs.declared.lexeme.Lexeme.{Lexeme}
use Rattle.mz_lex.specs.declared.table_fault.TableFault.{TableFault}
use Rattle.mz_lex.specs.declared.table_fault.TableFault.TheVariants as table
use Rattle.mz_first.specs.Faults.{plain}
use Rattle.mz_front.specs.Told.{voc_told, table_told}
use Rattle.mz_front.specs.Front.{NamesLexemes}

not_both : (b : Bool) → b ≡ true → b ≡ false → ⊥
not_both true p q = cc
not_both false p q = cc

none_or_some : {X : Type 0} (o : Option X) (x : X) → o ≡ None → o ≡ Some x → ⊥
none_or_some None x p q = cc
none_or_some (Some y) x p q = cc

abbrev some_or : {X : Type 0} → X → Option X → X
some_or y None = y
some_or y (Some x) = x

pub one_value : {X : Type 0} (o : Option X) (x y : X) → o ≡ Some x → o ≡ Some y → x ≡ y
one_value o x y p q = ap (some_or x) (sym p ∙ q)

-- the first fault of lines, below some others

abbrev or_else : Option VocFault → Option VocFault → Option VocFault
or_else None o = o
or_else (Some f) o = Some f

abbrev first_from : List (List ℕ) → List (List ℕ) → Option VocFault
first_from above [] = None
first_from above (l ∷ ls) = or_else (fault_below above l) (first_from (above ++ l ∷ []) ls)

-- no line of these has a fault, below the ones above
abbrev RightFrom : List (List ℕ) → List (List ℕ) → Type 0
RightFrom above lines = (a : List (List ℕ)) (l : List ℕ) (b : List (List ℕ)) → lines ≡ a ++ l ∷ b → fault_below (above ++ a) l ≡ None

fault_below-first_right : (above : List (List ℕ)) (l : List ℕ) (ls : List (List ℕ)) → RightFrom above (l ∷ ls) → fault_below above l ≡ None
fault_below-first_right above l ls h = subst (λ (x : List (List ℕ)). fault_below x l ≡ None) (append-nil above) (h [] l ls refl)

later_right : (above : List (List ℕ)) (l : List ℕ) (ls : List (List ℕ)) → RightFrom above (l ∷ ls) → RightFrom (above ++ l ∷ []) ls
later_right above l ls h = λ a m b e. subst (λ (x : List (List ℕ)). fault_below x m ≡ None) (sym (append_assoc above (l ∷ []) a)) (h (l ∷ a) m b (ap (λ xs. l ∷ xs) e))

none_from : (above lines : List (List ℕ)) → RightFrom above lines → first_from above lines ≡ None
none_from above [] h = refl
none_from above (l ∷ ls) h = ap (λ o. or_else o (first_from (above ++ l ∷ []) ls)) (fault_below-first_right above l ls h) ∙ none_from (above ++ l ∷ []) ls (later_right above l ls h)

some_from : (above a : List (List ℕ)) (l : List ℕ) (b : List (List ℕ)) (f : VocFault) → RightFrom above a → fault_below (above ++ a) l ≡ Some f → first_from above (a ++ l ∷ b) ≡ Some f
some_from above [] l b f h e = ap (λ o. or_else o (first_from (above ++ l ∷ []) b)) (ap (λ (x : List (List ℕ)). fault_below x l) (sym (append-nil above)) ∙ e)
some_from above (m ∷ a) l b f h e =
    ap (λ o. or_else o (first_from (above ++ m ∷ []) (a ++ l ∷ b))) (fault_below-first_right above m a h) ∙ some_from (above ++ m ∷ []) a l b f (later_right above m a h) (ap (λ (x : List (List ℕ)). fault_below x l) (append_assoc above (m ∷ []) a) ∙ e)

-- what a vocabulary is

abbrev ReadsVoc : List ℕ → Result (List Entry) VocFault → Type 0
ReadsVoc bytes (Ok es) = IsVocabulary bytes es
ReadsVoc bytes (Err f) = IsFirstFault (lines_of bytes) f

first_is : (lines : List (List ℕ)) (f : VocFault) → IsFirstFault lines f → first_from [] lines ≡ Some f
first_is lines f h = ap (first_from []) h.split ∙ some_from [] h.above h.line h.below f h.right h.refused

one_voc : (bytes : List ℕ) (v w : Result (List Entry) VocFault) → ReadsVoc bytes v → ReadsVoc bytes w → v ≡ w
one_voc bytes (Ok es) (Ok fs) h k = ap Ok (h.in_order ∙ sym k.in_order)
one_voc bytes (Ok es) (Err f) h k = absurd (none_or_some _ f (none_from [] (lines_of bytes) h.right) (first_is (lines_of bytes) f k))
one_voc bytes (Err f) (Ok es) h k = absurd (none_or_some _ f (none_from [] (lines_of bytes) k.right) (first_is (lines_of bytes) f h))
one_voc bytes (Err f) (Err g) h k = ap Err (one_value _ f g (first_is (lines_of bytes) f h) (first_is (lines_of bytes) g k))

-- what a name gives beside known symbols: more symbols, or how its fault is told

abbrev Given : Type 0
Given = Result (List Entry) (Option Fault)

abbrev by_count : Place → List Entry → Bool → Given
by_count p es true = Err (Some (plain p code.TooManySymbols))
by_count p es false = Ok es

abbrev by_clash : Place → List Entry → List Entry → Bool → Given
by_clash p known es true = Err (Some (plain p code.SymbolOfTwoKinds))
by_clash p known es false = by_count p (joined known es) (nat_lt most_symbols (length (joined known es)))

abbrev by_voc : Place → List Entry → Result (List Entry) VocFault → Given
by_voc p known (Ok es) = by_clash p known es (any_clash known es)
by_voc p known (Err f) = Err (voc_told p f)

data Gives (vs : List NamedText) (known : List Entry) (n : PlacedName) : Given → Type 0 where
  built_in : is_hidden n ≡ true → Gives vs known n (Ok known)
  no_text : is_hidden n ≡ false → text_named vs n ≡ None → Gives vs known n (Err (Some (plain n.place code.VocabularyMissing)))
  by_text : (bytes : List ℕ) (v : Result (List Entry) VocFault) → is_hidden n ≡ false → text_named vs n ≡ Some bytes → ReadsVoc bytes v → Gives vs known n (by_voc n.place known v)

one_given : (vs : List NamedText) (known : List Entry) (n : PlacedName) (a b : Given) → Gives vs known n a → Gives vs known n b → a ≡ b
one_given vs known n a b (built_in h) (built_in k) = refl
one_given vs known n a b (built_in h) (no_text k t) = absurd (not_both _ h k)
one_given vs known n a b (built_in h) (by_text bytes v k t r) = absurd (not_both _ h k)
one_given vs known n a b (no_text h t) (built_in k) = absurd (not_both _ k h)
one_given vs known n a b (no_text h t) (no_text k u) = refl
one_given vs known n a b (no_text h t) (by_text bytes v k u r) = absurd (none_or_some _ bytes t u)
one_given vs known n a b (by_text bytes v h t r) (built_in k) = absurd (not_both _ k h)
one_given vs known n a b (by_text bytes v h t r) (no_text k u) = absurd (none_or_some _ bytes u t)
one_given vs known n a b (by_text bytes v h t r) (by_text others w k u s) =
    ap (by_voc n.place known) (one_voc others v w (subst (λ (x : List ℕ). ReadsVoc x v) (one_value _ bytes others t u) r) s)

by_voc-given_clash : (p : Place) (known es : List Entry) → any_clash known es ≡ true → by_voc p known (Ok es) ≡ Err (Some (plain p code.SymbolOfTwoKinds))
by_voc-given_clash p known es e = ap (by_clash p known es) e

by_voc-given_many : (p : Place) (known es : List Entry) → any_clash known es ≡ false → most_symbols < length (joined known es) → by_voc p known (Ok es) ≡ Err (Some (plain p code.TooManySymbols))
by_voc-given_many p known es e m = ap (by_clash p known es) e ∙ ap (by_count p (joined known es)) (lt-ltb most_symbols (length (joined known es)) m)

by_voc-given_more : (p : Place) (known es : List Entry) → any_clash known es ≡ false → length (joined known es) ≤ most_symbols → by_voc p known (Ok es) ≡ Ok (joined known es)
by_voc-given_more p known es e m = ap (by_clash p known es) e ∙ ap (by_count p (joined known es)) (le-ltb most_symbols (length (joined known es)) m)

gives_more : (vs : List NamedText) (known : List Entry) (n : PlacedName) (next : List Entry) → Adds vs known n next → Gives vs known n (Ok next)
gives_more vs known n _ (rule.hidden _ h) = built_in h
gives_more vs known n _ (rule.vocabulary _ bytes es h t v c m) = subst (Gives vs known n) (by_voc-given_more n.place known es c m) (by_text bytes (Ok es) h t v)

gives_fault : (vs : List NamedText) (known : List Entry) (n : PlacedName) (refusal : TableFault) (f : Fault) → IsFaultOf vs known n refusal → table_told refusal ≡ Some f → Gives vs known n (Err (Some f))
gives_fault vs known n (table.Absent p) f (at, h, t) e = subst (λ (o : Option Fault). Gives vs known n (Err o)) (ap (λ (q : Place). Some (plain q code.VocabularyMissing)) (sym at) ∙ e) (no_text h t)
gives_fault vs known n (table.Bad p g) f (at, h, (bytes, t, first)) e =
    subst (λ (o : Option Fault). Gives vs known n (Err o)) (ap (λ (q : Place). voc_told q g) (sym at) ∙ e) (by_text bytes (Err g) h t first)
gives_fault vs known n (table.TwoKinds p) f (at, h, (bytes, es, t, v, c)) e =
    subst (Gives vs known n) (by_voc-given_clash n.place known es c ∙ ap Err (ap (λ (q : Place). Some (plain q code.SymbolOfTwoKinds)) (sym at) ∙ e)) (by_text bytes (Ok es) h t v)
gives_fault vs known n (table.TooManySymbols p) f (at, h, (bytes, es, t, v, c, m)) e =
    subst (Gives vs known n) (by_voc-given_many n.place known es c m ∙ ap Err (ap (λ (q : Place). Some (plain q code.TooManySymbols)) (sym at) ∙ e)) (by_text bytes (Ok es) h t v)
gives_fault vs known n (table.Memory a) f h e = absurd (untold e)
  where
    untold : None ≡ Some f → ⊥
    untold e = cc

-- what names give, one after another

data GivesAll (vs : List NamedText) : List Entry → List PlacedName → Result (List Entry) Fault → Type 0 where
  ended : (known : List Entry) → GivesAll vs known [] (Ok known)
  stopped : (known : List Entry) (n : PlacedName) (ns : List PlacedName) (f : Fault) → Gives vs known n (Err (Some f)) → GivesAll vs known (n ∷ ns) (Err f)
  further : (known next : List Entry) (n : PlacedName) (ns : List PlacedName) (o : Result (List Entry) Fault) → Gives vs known n (Ok next) → GivesAll vs next ns o → GivesAll vs known (n ∷ ns) o

abbrev IsSame : Given → Given → Type 0
IsSame a b = a ≡ b

ok_same : (a b : List Entry) → IsSame (Ok a) (Ok b) → a ≡ b
ok_same a b e = cc

err_same : (f g : Fault) → IsSame (Err (Some f)) (Err (Some g)) → f ≡ g
err_same f g e = cc

ok_or_err : (a : List Entry) (o : Option Fault) → IsSame (Ok a) (Err o) → ⊥
ok_or_err a o e = cc

one_all : {vs : List NamedText} {known : List Entry} {ns : List PlacedName} {o p : Result (List Entry) Fault} → GivesAll vs known ns o → GivesAll vs known ns p → o ≡ p
one_all (ended known) (ended _) = refl
one_all {vs} (stopped known n ns f h) (stopped _ _ _ g k) = ap Err (err_same f g (one_given vs known n (Err (Some f)) (Err (Some g)) h k))
one_all {vs} (stopped known n ns f h) (further _ next _ _ o k r) = absurd (ok_or_err next (Some f) (one_given vs known n (Ok next) (Err (Some f)) k h))
one_all {vs} (further known next n ns o h r) (stopped _ _ _ f k) = absurd (ok_or_err next (Some f) (one_given vs known n (Ok next) (Err (Some f)) h k))
one_all {vs} (further known next n ns o h r) (further _ other _ _ p k s) =
    one_all r (subst (λ (es : List Entry). GivesAll vs es ns p) (sym (ok_same next other (one_given vs known n (Ok next) (Ok other) h k))) s)

all_added : {vs : List NamedText} {known all : List Entry} {ns : List PlacedName} → AddsAll vs known ns all → GivesAll vs known ns (Ok all)
all_added rule.none = ended _
all_added {vs} {known} (rule.more n ns next all h r) = further known next n ns (Ok all) (gives_more vs known n next h) (all_added r)

-- names that add, and then one that is at fault
stopped_behind : {vs : List NamedText} {known all : List Entry} {ns : List PlacedName} (n : PlacedName) (more : List PlacedName) (f : Fault) → AddsAll vs known ns all → Gives vs all n (Err (Some f)) → GivesAll vs known (ns ++ n ∷ more) (Err f)
stopped_behind n more f rule.none g = stopped _ n more f g
stopped_behind {vs} {known} n more f (rule.more m ns next all h r) g = further known next m (ns ++ n ∷ more) (Err f) (gives_more vs known m next h) (stopped_behind n more f r g)

refused_so : (vs : List NamedText) (ns : List PlacedName) (refusal : TableFault) (f : Fault) → IsTableRefused vs ns refusal → table_told refusal ≡ Some f → GivesAll vs [] ns (Err f)
refused_so vs ns refusal f r e =
    subst (λ (xs : List PlacedName). GivesAll vs [] xs (Err f)) (sym r.split) (stopped_behind r.name r.behind f r.adds (gives_fault vs r.known r.name refusal f r.refused e))

table_refused : (vs : List NamedText) (ds : List Directive) (refusal : TableFault) (f : Fault) → IsTableFault vs ds refusal → table_told refusal ≡ Some f → GivesAll vs [] (named_vocabularies ds) (Err f)
table_refused vs ds (table.Absent p) f h e = refused_so vs (named_vocabularies ds) (table.Absent p) f h e
table_refused vs ds (table.Bad p g) f h e = refused_so vs (named_vocabularies ds) (table.Bad p g) f h e
table_refused vs ds (table.TwoKinds p) f h e = refused_so vs (named_vocabularies ds) (table.TwoKinds p) f h e
table_refused vs ds (table.TooManySymbols p) f h e = refused_so vs (named_vocabularies ds) (table.TooManySymbols p) f h e
table_refused vs ds (table.Memory a) f h e = absurd (untold e)
  where
    untold : None ≡ Some f → ⊥
    untold e = cc

-- the lexemes, by what the names give

abbrev lexemes_by : Result (List Entry) Fault → Result (List Lexeme) Fault
lexemes_by (Ok es) = Ok (built_in_lexemes ++ map symbol_lexeme es)
lexemes_by (Err f) = Err f

record ByNames (vs : List NamedText) (ds : List Directive) (o : Result (List Lexeme) Fault) : Type 0 where
  given : Result (List Entry) Fault
  gives : GivesAll vs [] (named_vocabularies ds) given
  is : o ≡ lexemes_by given

by_names : (vs : List NamedText) (ds : List Directive) (o : Result (List Lexeme) Fault) → NamesLexemes vs ds o → ByNames vs ds o
by_names vs ds (Ok ls) h = record { given = Ok h.symbols; gives = all_added h.adds; is = ap Ok h.all }
by_names vs ds (Err f) (refusal, h, e) = record { given = Err f; gives = table_refused vs ds refusal f h e; is = refl }

pub one_table : (vs : List NamedText) (ds : List Directive) (o p : Result (List Lexeme) Fault) → NamesLexemes vs ds o → NamesLexemes vs ds p → o ≡ p
one_table vs ds o p h k =
    let a = by_names vs ds o h in
    let b = by_names vs ds p k in
    a.is ∙ ap lexemes_by (one_all a.gives b.gives) ∙ sym b.is
