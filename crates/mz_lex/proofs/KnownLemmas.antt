-- Known symbols, and the symbols that a vocabulary adds to them.
use Rattle.std.proofs.Common.{◌≡◌, ℕ, suc, ◌+◌, ◌<◌, Bool, true, false, not, cond, ◌&&◌, ◌||◌, List, [], ◌∷◌, ◌++◌, length, get_or, take, drop, Some, None, refl, sym, ap, subst, ◌∙◌, append_assoc, append-nil}
use Rattle.std.specs.Prelude.{find, filter, Option}
use Rattle.std.specs.Option.{option_map, option_or, is_some}
use Rattle.std.specs.Str.{bytes_eq}
use Rattle.std.proofs.lemmas.List.{take_more, take-append-drop}
use Rattle.std.proofs.lemmas.List.Elements.{filter-append}
use Rattle.std.proofs.lemmas.List.Folds.{find-append, list_any-append}
use Rattle.std.proofs.lemmas.Slice.Eq.{bytes_eq-Decides}
use Rattle.std.proofs.Math.Seq.{drop-cons}
use Rattle.mz_base.specs.declared.symbol_kind.SymbolKind.{SymbolKind}
use Rattle.mz_voc.specs.declared.vocabulary.Entry.{Entry}
use Rattle.mz_voc.specs.declared.spelled.Spelled.{Spelled}
use Rattle.mz_voc.specs.Spelled.{value_of}
use Rattle.mz_voc.specs.Vocabulary.{is_spelled, AreDistinct}
use Rattle.mz_lex.specs.Table.{same_kind, clashes_with, clashes, is_new, joined}
use Rattle.mz_lex.specs.Known.{kind_in, differs, HasKinds}

-- look-ups

find-unfound : (spelling : List ℕ) (es : List Entry) → is_spelled es spelling ≡ false → find (λ e. bytes_eq e.spelling spelling) es ≡ None
find-unfound spelling [] h = refl
find-unfound spelling (e ∷ es) h = past (bytes_eq e.spelling spelling) (is_spelled es spelling) h (find-unfound spelling es)
  where
    past : (t u : Bool) → (t || u) ≡ false → (u ≡ false → find (λ e. bytes_eq e.spelling spelling) es ≡ None) → cond t (Some e) (find (λ e. bytes_eq e.spelling spelling) es) ≡ None
    past true u h ih = cc
    past false u h ih = ih h

pub is_some-kind_in : (known : List Entry) (spelling : List ℕ) → is_some (kind_in known spelling) ≡ is_spelled known spelling
is_some-kind_in [] spelling = refl
is_some-kind_in (e ∷ es) spelling = past (bytes_eq e.spelling spelling) (is_some-kind_in es spelling)
  where
    past : (t : Bool) → is_some (kind_in es spelling) ≡ is_spelled es spelling → is_some (option_map (λ e. e.kind) (cond t (Some e) (find (λ e. bytes_eq e.spelling spelling) es))) ≡ (t || is_spelled es spelling)
    past true ih = refl
    past false ih = ih

-- a test of the kind of a spelling
pub spelled_by : (known now : List Entry) (kinds : Spelled SymbolKind) (spelling : List ℕ) (o : Option SymbolKind) (t : Bool) → known ≡ now → HasKinds known kinds → o ≡ value_of kinds spelling → t ≡ is_some o → t ≡ is_spelled now spelling
spelled_by known now kinds spelling o t e so eo et = et ∙ ap is_some (eo ∙ so.kind spelling) ∙ is_some-kind_in known spelling ∙ ap (λ es. is_spelled es spelling) e

pub clashes_by : (known now : List Entry) (kinds : Spelled SymbolKind) (entry : Entry) (written : List ℕ) (o : Option SymbolKind) (t : Bool) → known ≡ now → HasKinds known kinds → written ≡ entry.spelling → o ≡ value_of kinds written → t ≡ differs o entry.kind → t ≡ clashes now entry
clashes_by known now kinds entry written o t e so ew eo et =
    et ∙ ap (λ k. differs k entry.kind) (eo ∙ ap (value_of kinds) ew ∙ so.kind entry.spelling) ∙ sym (so.one entry) ∙ ap (λ es. clashes es entry) e

pub has_kinds_none : (known : List Entry) (kinds : Spelled SymbolKind) → known ≡ [] → ((spelling : List ℕ) → value_of kinds spelling ≡ None) → HasKinds known kinds
has_kinds_none known kinds e empty = subst (λ k. HasKinds k kinds) (sym e) (record { kind = empty; one = λ entry. refl })

module _ (known : List Entry) (new : Entry) (unseen : is_spelled known new.spelling ≡ false) where
  kind_in-more : (spelling : List ℕ) → kind_in (known ++ new ∷ []) spelling ≡ cond (bytes_eq new.spelling spelling) (Some new.kind) (kind_in known spelling)
  kind_in-more spelling =
      ap (option_map (λ e. e.kind)) (find-append (λ e. bytes_eq e.spelling spelling) known (new ∷ [])) ∙ chosen (bytes_eq new.spelling spelling) refl
    where
      chosen : (t : Bool) → bytes_eq new.spelling spelling ≡ t → option_map (λ e. e.kind) (option_or (find (λ e. bytes_eq e.spelling spelling) known) (cond t (Some new) None)) ≡ cond t (Some new.kind) (kind_in known spelling)
      chosen true e =
          let same : new.spelling ≡ spelling = (bytes_eq-Decides new.spelling spelling).0 e in
          let none : find (λ e. bytes_eq e.spelling spelling) known ≡ None = find-unfound spelling known (subst (λ s. is_spelled known s ≡ false) same unseen) in
          rw none refl
      chosen false e = kept (find (λ e. bytes_eq e.spelling spelling) known)
        where
          kept : (o : Option Entry) → option_map (λ e. e.kind) (option_or o None) ≡ option_map (λ e. e.kind) o
          kept None = refl
          kept (Some x) = refl

  clashes-more : (entry : Entry) → clashes known entry ≡ differs (kind_in known entry.spelling) entry.kind → clashes (known ++ new ∷ []) entry ≡ differs (cond (bytes_eq new.spelling entry.spelling) (Some new.kind) (kind_in known entry.spelling)) entry.kind
  clashes-more entry so =
      list_any-append (clashes_with entry) known (new ∷ []) ∙ ap (λ t. t || (clashes_with entry new || false)) so ∙ chosen (bytes_eq new.spelling entry.spelling) refl
    where
      none : bytes_eq new.spelling entry.spelling ≡ true → kind_in known entry.spelling ≡ None
      none e = ap (option_map (λ e. e.kind)) (find-unfound entry.spelling known (subst (λ s. is_spelled known s ≡ false) ((bytes_eq-Decides new.spelling entry.spelling).0 e) unseen))

      or-false : (t : Bool) → (t || (false || false)) ≡ t
      or-false true = refl
      or-false false = refl

      only : (t : Bool) → (false || ((true && t) || false)) ≡ t
      only true = refl
      only false = refl

      chosen : (t : Bool) → bytes_eq new.spelling entry.spelling ≡ t → (differs (kind_in known entry.spelling) entry.kind || ((t && not (same_kind new.kind entry.kind)) || false)) ≡ differs (cond t (Some new.kind) (kind_in known entry.spelling)) entry.kind
      chosen true e = rw (none e) (only (not (same_kind new.kind entry.kind)))
      chosen false e = or-false (differs (kind_in known entry.spelling) entry.kind)

  has_kinds_with : (old next : Spelled SymbolKind) → HasKinds known old → ((spelling : List ℕ) → value_of next spelling ≡ cond (bytes_eq new.spelling spelling) (Some new.kind) (value_of old spelling)) → HasKinds (known ++ new ∷ []) next
  has_kinds_with old next so put =
      record {
        kind = λ spelling. put spelling ∙ ap (λ o. cond (bytes_eq new.spelling spelling) (Some new.kind) o) (so.kind spelling) ∙ sym (kind_in-more spelling);
        one = λ entry. clashes-more entry (so.one entry) ∙ ap (λ o. differs o entry.kind) (sym (kind_in-more entry.spelling));
      }

-- one more symbol
pub has_kinds_more : (known now : List Entry) (new : Entry) (written : List ℕ) (old next : Spelled SymbolKind) (all : List Entry) → known ≡ now → is_spelled now new.spelling ≡ false → HasKinds known old → written ≡ new.spelling →
    ((spelling : List ℕ) → value_of next spelling ≡ cond (bytes_eq written spelling) (Some new.kind) (value_of old spelling)) → all ≡ known ++ new ∷ [] → HasKinds all next
has_kinds_more known now new written old next all en unseen so ew put e =
    subst (λ k. HasKinds k next) (sym e)
    (has_kinds_with known new (ap (λ es. is_spelled es new.spelling) en ∙ unseen) old next so (λ spelling. put spelling ∙ ap (λ w. cond (bytes_eq w spelling) (Some new.kind) (value_of old spelling)) ew))

-- joining

unspelled_front : (p : Entry → Bool) (xs : List Entry) (spelling : List ℕ) → is_spelled xs spelling ≡ false → is_spelled (filter p xs) spelling ≡ false
unspelled_front p [] spelling h = refl
unspelled_front p (x ∷ xs) spelling h = past (bytes_eq x.spelling spelling) (p x) refl h (unspelled_front p xs spelling)
  where
    past : (t u : Bool) → bytes_eq x.spelling spelling ≡ t → (t || is_spelled xs spelling) ≡ false → (is_spelled xs spelling ≡ false → is_spelled (filter p xs) spelling ≡ false) → is_spelled (cond u (x ∷ filter p xs) (filter p xs)) spelling ≡ false
    past true u e h ih = cc
    past false true e h ih = rw e (ih h)
    past false false e h ih = ih h

module _ (before all : List Entry) (i : ℕ) (e : Entry) (distinct : AreDistinct all) (lt : i < length all) (at : e ≡ get_or all i e) where
  cut : take (i + 1) all ≡ take i all ++ e ∷ []
  cut = take_more all i e lt ∙ ap (λ z. take i all ++ z ∷ []) (sym at)

  first : is_spelled (take i all) e.spelling ≡ false
  first = distinct (take i all) e (drop (suc i) all) (sym (take-append-drop i all) ∙ ap (λ z. take i all ++ z) (drop-cons all i e lt ∙ ap (λ z. z ∷ drop (suc i) all) (sym at)))

  -- what was joined so far has the spelling exactly where the symbols before it have
  spelled_before : is_spelled (joined before (take i all)) e.spelling ≡ is_spelled before e.spelling
  spelled_before =
      list_any-append (λ a. bytes_eq a.spelling e.spelling) before (filter (is_new before) (take i all)) ∙ ap (λ t. is_spelled before e.spelling || t) (unspelled_front (is_new before) (take i all) e.spelling first) ∙ or-false (is_spelled before e.spelling)
    where
      or-false : (t : Bool) → (t || false) ≡ t
      or-false true = refl
      or-false false = refl

  joined-more : joined before (take (i + 1) all) ≡ joined before (take i all) ++ cond (not (is_spelled before e.spelling)) (e ∷ []) []
  joined-more =
      ap (joined before) cut ∙ ap (λ z. before ++ z) (filter-append (is_new before) (take i all) (e ∷ [])) ∙ sym (append_assoc before (filter (is_new before) (take i all)) (filter (is_new before) (e ∷ [])))

unnegated : (t u : Bool) → t ≡ not u → u ≡ not t
unnegated true true h = cc
unnegated true false h = refl
unnegated false true h = refl
unnegated false false h = cc

-- a symbol that is new
pub joined_new : (before all known known' : List Entry) (i : ℕ) (e : Entry) → AreDistinct all → i < length all → e ≡ get_or all i e → known ≡ joined before (take i all) → true ≡ is_new known e → known' ≡ known ++ e ∷ [] → known' ≡ joined before (take (i + 1) all)
joined_new before all known known' i e distinct lt at so new is =
    let unseen : is_spelled before e.spelling ≡ false = sym (spelled_before before all i e distinct lt at) ∙ ap (λ k. is_spelled k e.spelling) (sym so) ∙ unnegated true (is_spelled known e.spelling) new in
    is ∙ ap (λ k. k ++ e ∷ []) so ∙ ap (λ t. joined before (take i all) ++ cond (not t) (e ∷ []) []) (sym unseen) ∙ sym (joined-more before all i e distinct lt at)

-- a symbol that is known
pub joined_known : (before all known : List Entry) (i : ℕ) (e : Entry) → AreDistinct all → i < length all → e ≡ get_or all i e → known ≡ joined before (take i all) → false ≡ is_new known e → known ≡ joined before (take (i + 1) all)
joined_known before all known i e distinct lt at so old =
    let seen : is_spelled before e.spelling ≡ true = sym (spelled_before before all i e distinct lt at) ∙ ap (λ k. is_spelled k e.spelling) (sym so) ∙ unnegated false (is_spelled known e.spelling) old in
    so ∙ sym (append-nil (joined before (take i all))) ∙ ap (λ t. joined before (take i all) ++ cond (not t) (e ∷ []) []) (sym seen) ∙ sym (joined-more before all i e distinct lt at)

pub joined_none : (known : List Entry) → known ≡ joined known []
joined_none known = sym (append-nil known)
