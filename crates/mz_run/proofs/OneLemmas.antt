-- An order has one gathering, and what its articles come to is one.
use Rattle.std.proofs.Common.{◌≡◌, ℕ, true, List, [], ◌∷◌, map, refl, ap, sym, ◌∙◌, subst}
use Rattle.std.specs.Prelude.{Option, Some, None, Ok}
use Rattle.std.proofs.lemmas.Option.{same_Some}
use Rattle.mz_base.specs.declared.name.Name.{Name}
use Rattle.mz_base.proofs.NameEqual.{Name-equal}
use Rattle.mz_core.specs.declared.outcome.Export.{Export}
use Rattle.mz_axioms.specs.Checker.{OutcomeRelation, HasOneOutcome}
use Rattle.mz_io.specs.declared.file.File.{File}
use Rattle.mz_words.specs.Words.{Asked}
use Rattle.mz_order_laws.proofs.MadeLemmas.{same_files, same_names}
use Rattle.mz_corpus.specs.Article.{Article}
use Rattle.mz_corpus.specs.Corpus.{Corpus}
use Rattle.mz_corpus.specs.Order.{IsOrder}
use Rattle.mz_corpus.specs.declared.ordering.Ordering.{Ordering}
use Rattle.mz_corpus.specs.Gather.{Gathered, GatherResult, Gathers, IsCorpusOf}
use Rattle.mz_corpus.proofs.OneGatheringLemmas.{one_gathering}
use Rattle.mz_corpus.proofs.OneCorpusLemmas.{one_corpus}
use Rattle.mz_corpus.proofs.OnceLemmas.{one_order}
use Rattle.mz_turns.specs.Row.{Row}
use Rattle.mz_turns.specs.Library.{library_of}
use Rattle.mz_turns.specs.Verdicts.{AreVerdicts}
use Rattle.mz_turns.proofs.OrderLemmas.{verdicts_once}
use Rattle.mz_run.specs.Gathered.{AreFiles, AreNames, GathersFor, is_known, IsGatheredFor}
use Rattle.mz_run.specs.Checked.{Checked, IsChecked, IsCheckedFor}

same_heads : (n m : Name) (ns ms : List ℕ) → n.number ∷ ns ≡ m.number ∷ ms → n.number ≡ m.number
same_heads n m ns ms e = cc

same_tails : (n m : ℕ) (ns ms : List ℕ) → n ∷ ns ≡ m ∷ ms → ns ≡ ms
same_tails n m ns ms e = cc

no_first : (n : ℕ) (ns : List ℕ) → [] ≡ n ∷ ns → ⊥
no_first n ns e = cc

-- names are their numbers
same_numbers : (ns ms : List Name) → map (λ n. n.number) ns ≡ map (λ n. n.number) ms → ns ≡ ms
same_numbers [] [] e = refl
same_numbers [] (m ∷ ms) e = absurd (no_first _ _ e)
same_numbers (n ∷ ns) [] e = absurd (no_first _ _ (sym e))
same_numbers (n ∷ ns) (m ∷ ms) e =
    let first : n ≡ m = Name-equal n m (same_heads n m (map (λ n. n.number) ns) (map (λ n. n.number) ms) e) in
    let rest : ns ≡ ms = same_numbers ns ms (same_tails n.number m.number (map (λ n. n.number) ns) (map (λ n. n.number) ms) e) in
    λ i. first i ∷ rest i

one_list_of_files : (o : Option ℕ) (told : Option (List File)) (fs gs : List File) → AreFiles o told fs → AreFiles o told gs → fs ≡ gs
one_list_of_files None told fs gs h k = same_Some fs gs (sym h ∙ k)
one_list_of_files (Some n) told fs gs h k = same_files n fs gs h k

one_list_of_names : (o : Option ℕ) (numbers : List ℕ) (ns ms : List Name) → AreNames o numbers ns → AreNames o numbers ms → ns ≡ ms
one_list_of_names None numbers ns ms h k = same_numbers ns ms (h ∙ sym k)
one_list_of_names (Some n) numbers ns ms h k = same_names n ns ms h k

pub one_gathering_for : (told : Option (List File)) (a : Asked) (r q : GatherResult) → GathersFor told a r → GathersFor told a q → r ≡ q
one_gathering_for told a r q h k =
    let files : k.files ≡ h.files = one_list_of_files a.generate told k.files h.files k.are_files h.are_files in
    let names : k.names ≡ h.names = one_list_of_names a.generate a.names k.names h.names k.are_names h.are_names in
    one_gathering h.files h.names r q h.gathers (subst (λ fs. Gathers fs h.names q) files (subst (λ ns. Gathers k.files ns q) names k.gathers))

same_gathered : (g h : Gathered) (r : GatherResult) → r ≡ Ok g → r ≡ Ok h → g ≡ h
same_gathered g h r p q = cc

one_gathered : (told : Option (List File)) (a : Asked) (x y : Checked) → IsGatheredFor told a x.corpus → IsGatheredFor told a y.corpus → (is_outcome : OutcomeRelation) → IsChecked is_outcome x → IsChecked is_outcome y → x.corpus ≡ y.corpus
one_gathered told a x y (g, hg, cg) (h, hh, ch) is_outcome hx hy =
    let same : h ≡ g = same_gathered h g (Ok h) refl (one_gathering_for told a (Ok h) (Ok g) hh hg) in
    one_corpus g x.corpus y.corpus hx.corpus hy.corpus cg (subst (λ z. IsCorpusOf z y.corpus) same ch)

pub one_output : (is_outcome : OutcomeRelation) → HasOneOutcome is_outcome → (told : Option (List File)) (a : Asked) (x y : Checked) → is_known told a ≡ true → IsCheckedFor is_outcome told a x → IsCheckedFor is_outcome told a y → x ≡ y
one_output is_outcome once told a x y known hx hy =
    let corpus : x.corpus ≡ y.corpus = one_gathered told a x y (hx.gathered known) (hy.gathered known) is_outcome hx.checked hy.checked in
    let order : x.order ≡ y.order =
    one_order y.corpus.articles x.order y.order (subst (λ c. IsOrder c.articles x.order) corpus hx.checked.order) hy.checked.order in
    let rows : x.rows ≡ y.rows =
    verdicts_once is_outcome y.corpus.articles once x.rows y.rows (subst (λ c. AreVerdicts is_outcome c.articles x.rows) corpus hx.checked.verdicts) hy.checked.verdicts in
    let library : x.library ≡ y.library = hx.checked.library ∙ (ap library_of rows ∙ sym hy.checked.library) in
    λ i. record { corpus = corpus i; order = order i; rows = rows i; library = library i }
