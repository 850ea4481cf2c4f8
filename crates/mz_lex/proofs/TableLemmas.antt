-- The symbols that names add.
use Rattle.std.proofs.Common.{◌≡◌, ℕ, suc, ◌+◌, ◌<◌, ◌≤◌, Bool, true, false, not, cond, ◌||◌, ◌==◌, nat_eq, List, [], ◌∷◌, ◌++◌, length, get_or, take, drop, Some, refl, sym, ap, subst, ◌∙◌, append_assoc, append-nil}
use Rattle.std.proofs.lemmas.List.{take_more, take-append-drop}
use Rattle.std.proofs.Math.Seq.{drop-cons}
use Rattle.std.specs.HashSet.{HashSet, contains}
use Rattle.std.specs.List.{list_any}
use Rattle.std.proofs.lemmas.List.Folds.{list_any-append}
use Rattle.mz_base.specs.NamedText.{NamedText}
use Rattle.mz_base.specs.declared.head.Directive.{Directive}
use Rattle.mz_base.specs.declared.head.PlacedName.{PlacedName}
use Rattle.mz_voc.specs.declared.vocabulary.Entry.{Entry}
use Rattle.mz_voc.specs.Vocabulary.{IsVocabulary}
use Rattle.mz_lex.specs.declared.table_fault.TableFault.{TableFault}
use Rattle.mz_lex.specs.Table.{names_under, vocabulary_names, is_among, firsts, each_once, is_hidden, text_named, any_clash, joined, Adds, hidden, vocabulary, AddsAll, none, more, IsFaultOf, IsTableRefused}

vocabulary_names-append : (ds es : List Directive) → vocabulary_names (ds ++ es) ≡ vocabulary_names ds ++ vocabulary_names es
vocabulary_names-append [] es = refl
vocabulary_names-append (d ∷ ds) es = ap (λ ns. names_under d ++ ns) (vocabulary_names-append ds es) ∙ sym (append_assoc (names_under d) (vocabulary_names ds) (vocabulary_names es))

-- one more directive
pub names_more : (ds : List Directive) (i : ℕ) (d : Directive) (ns under ns' : List PlacedName) → i < length ds → d ≡ get_or ds i d → ns ≡ vocabulary_names (take i ds) → under ≡ names_under d → ns' ≡ ns ++ under → ns' ≡ vocabulary_names (take (i + 1) ds)
names_more ds i d ns under ns' lt at so eu en =
    let cut : take (i + 1) ds ≡ take i ds ++ d ∷ [] = take_more ds i d lt ∙ ap (λ z. take i ds ++ z ∷ []) (sym at) in
    let all : vocabulary_names (take (i + 1) ds) ≡ vocabulary_names (take i ds) ++ names_under d =
    ap vocabulary_names cut ∙ vocabulary_names-append (take i ds) (d ∷ []) ∙ ap (λ z. vocabulary_names (take i ds) ++ z) (append-nil (names_under d)) in
    en ∙ (λ j. so j ++ eu j) ∙ sym all

firsts-append : (above ns : List PlacedName) (n : PlacedName) → firsts above (ns ++ n ∷ []) ≡ firsts above ns ++ cond (is_among (above ++ ns) n) [] (n ∷ [])
firsts-append above [] n = append-nil (cond (is_among above n) [] (n ∷ [])) ∙ ap (λ xs. cond (is_among xs n) [] (n ∷ [])) (sym (append-nil above))
firsts-append above (m ∷ ns) n =
    let front : List PlacedName = cond (is_among above m) [] (m ∷ []) in
    ap (λ r. front ++ r) (firsts-append (above ++ m ∷ []) ns n) ∙ sym (append_assoc front (firsts (above ++ m ∷ []) ns) (cond (is_among ((above ++ m ∷ []) ++ ns) n) [] (n ∷ [])))
    ∙ ap (λ xs. (front ++ firsts (above ++ m ∷ []) ns) ++ cond (is_among xs n) [] (n ∷ [])) (append_assoc above (m ∷ []) ns)

-- what a set of numbers knows of names
abbrev pub Knows : {S : Type 0} → HashSet ℕ S → List PlacedName → Type 0
Knows seen ns = (number : ℕ) → contains nat_eq seen number ≡ list_any (λ a. a.name.number == number) ns

pub knows_none : {S : Type 0} (seen : HashSet ℕ S) → seen.keys ≡ [] → Knows seen []
knows_none seen e number = rw e refl

pub knows_more : {S : Type 0} (ns : List PlacedName) (i : ℕ) (n : PlacedName) (old new : HashSet ℕ S) → i < length ns → n ≡ get_or ns i n → Knows old (take i ns) → ((number : ℕ) → contains nat_eq new number ≡ cond (nat_eq n.name.number number) true (contains nat_eq old number)) → Knows new (take (i + 1) ns)
knows_more ns i n old new lt at so noted number =
    let cut : take (i + 1) ns ≡ take i ns ++ n ∷ [] = take_more ns i n lt ∙ ap (λ z. take i ns ++ z ∷ []) (sym at) in
    noted number ∙ either (n.name.number == number) (contains nat_eq old number) (list_any (λ a. a.name.number == number) (take i ns)) (so number) ∙ sym (ap (list_any (λ a. a.name.number == number)) cut ∙ list_any-append (λ a. a.name.number == number) (take i ns) (n ∷ []))
  where
    either : (t u v : Bool) → u ≡ v → cond t true u ≡ (v || (t || false))
    either true u true h = refl
    either true u false h = refl
    either false u true h = h
    either false u false h = h

-- one more name, which is taken where it is the first
pub firsts_more : (ns : List PlacedName) (i : ℕ) (n : PlacedName) (found found' : List PlacedName) (first seen : Bool) → i < length ns → n ≡ get_or ns i n → found ≡ each_once (take i ns) → first ≡ not seen → seen ≡ is_among (take i ns) n → found' ≡ found ++ cond first (n ∷ []) [] → found' ≡ each_once (take (i + 1) ns)
firsts_more ns i n found found' first seen lt at so ef es e =
    let cut : take (i + 1) ns ≡ take i ns ++ n ∷ [] = take_more ns i n lt ∙ ap (λ z. take i ns ++ z ∷ []) (sym at) in
    e ∙ (λ j. so j ++ cond (ef j) (n ∷ []) []) ∙ ap (λ l. each_once (take i ns) ++ l) (turned seen) ∙ ap (λ t. each_once (take i ns) ++ cond t [] (n ∷ [])) es ∙ sym (ap each_once cut ∙ firsts-append [] (take i ns) n)
  where
    turned : (t : Bool) → cond (not t) (n ∷ []) [] ≡ cond t [] (n ∷ [])
    turned true = refl
    turned false = refl

pub adds_hidden : (vs : List NamedText) (known : List Entry) (n : PlacedName) → true ≡ is_hidden n → Adds vs known n known
adds_hidden vs known n h = hidden n (sym h)

pub adds_entries : (vs : List NamedText) (known : List Entry) (n : PlacedName) (text slice : List ℕ) (voc inside entries all : List Entry) →
    false ≡ is_hidden n → Some text ≡ text_named vs n → slice ≡ text → IsVocabulary slice voc → inside ≡ voc → entries ≡ inside → false ≡ any_clash known entries → all ≡ joined known entries → length all ≤ 4096 → Adds vs known n all
adds_entries vs known n text slice voc inside entries all h t es v ei ee clash eall le =
    let same : entries ≡ voc = ee ∙ ei in
    let j : all ≡ joined known voc = eall ∙ ap (joined known) same in
    let quiet : any_clash known voc ≡ false = sym (clash ∙ ap (any_clash known) same) in
    let few : length (joined known voc) ≤ 4096 = subst (λ z. length z ≤ 4096) j le in
    subst (Adds vs known n) (sym j) (vocabulary n text voc (sym h) (sym t) (subst (λ b. IsVocabulary b voc) es v) quiet few)

AddsAll-more : (vs : List NamedText) (known : List Entry) (ns : List PlacedName) (next : List Entry) (n : PlacedName) (all : List Entry) → AddsAll vs known ns next → Adds vs next n all → AddsAll vs known (ns ++ n ∷ []) all
AddsAll-more vs known ns next n all none a = more n [] all all a none
AddsAll-more vs known ns next n all (more m ms mid last b c) a = more m (ms ++ n ∷ []) mid all b (AddsAll-more vs mid ms next n all c a)

pub adds_none : (vs : List NamedText) (items : List Entry) → items ≡ [] → AddsAll vs [] [] items
adds_none vs items e = subst (AddsAll vs [] []) (sym e) none

pub adds_more : (vs : List NamedText) (ns : List PlacedName) (i : ℕ) (n : PlacedName) (known next : List Entry) → i < length ns → n ≡ get_or ns i n → AddsAll vs [] (take i ns) known → Adds vs known n next → AddsAll vs [] (take (i + 1) ns) next
adds_more vs ns i n known next lt at so a =
    let cut : take (i + 1) ns ≡ take i ns ++ n ∷ [] = take_more ns i n lt ∙ ap (λ z. take i ns ++ z ∷ []) (sym at) in
    subst (λ z. AddsAll vs [] z next) (sym cut) (AddsAll-more vs [] (take i ns) known n next so a)

pub name_refused : (vs : List NamedText) (ns : List PlacedName) (i : ℕ) (n : PlacedName) (known : List Entry) (fault : TableFault) → i < length ns → n ≡ get_or ns i n → AddsAll vs [] (take i ns) known → IsFaultOf vs known n fault → IsTableRefused vs ns fault
name_refused vs ns i n known fault lt at so f = record {
  before = take i ns;
  name = n;
  behind = drop (suc i) ns;
  known = known;
  split = sym (take-append-drop i ns) ∙ ap (λ z. take i ns ++ z) (drop-cons ns i n lt ∙ ap (λ z. z ∷ drop (suc i) ns) (sym at));
  adds = so;
  refused = f;
}
