-- The text on what was checked.
use Rattle.std.proofs.Common.{◌≡◌, ℕ, List, Bool, refl, ap, sym, ◌∙◌, subst}
use Rattle.std.specs.Prelude.{Result, Ok, Err, IfOk, is_some}
use Rattle.mz_axioms.specs.Checker.{OutcomeRelation}
use Rattle.mz_axioms.specs.Library.{Sound}
use Rattle.mz_words.specs.Words.{Asked}
use Rattle.mz_corpus.specs.Corpus.{Corpus, IsCorpus}
use Rattle.mz_corpus.specs.Order.{IsOrder}
use Rattle.mz_corpus.specs.declared.ordering.Ordering.{Ordering}
use Rattle.mz_turns.specs.Row.{Row}
use Rattle.mz_turns.specs.Library.{library_of}
use Rattle.mz_turns.specs.Verdicts.{AreVerdicts}
use Rattle.mz_rows.specs.Entries.{entries_of}
use Rattle.mz_listing.specs.Output.{output_text}
use Rattle.mz_run.specs.Checked.{Checked, IsChecked, entries_in, are_accepted, text_of}

-- this is the text on the articles of a corpus, and whether all are accepted
abbrev pub IsFound : OutcomeRelation → Asked → Corpus → List ℕ → Bool → Type 0
IsFound is_outcome a c text accepted =
    (x : Checked) × (x.corpus ≡ c) × IsChecked is_outcome x × (text ≡ text_of a x) × (accepted ≡ are_accepted (entries_in x))

pub found : {F E : Type 0} (text : F → List ℕ) (accepted : F → Bool) (is_outcome : OutcomeRelation) (a : Asked) (c w k : Corpus) (o : Ordering) (rows : List Row) → w ≡ c → k ≡ w → IsCorpus c → IsOrder c.articles o → AreVerdicts is_outcome w.articles rows → Sound (library_of rows) → (r : Result F E) → IfOk r (λ f. text f ≡ output_text (is_some a.generate) a.list o (entries_of k.articles rows) (library_of rows)) → IfOk r (λ f. accepted f ≡ are_accepted (entries_of k.articles rows)) → IfOk r (λ f. IsFound is_outcome a c (text f) (accepted f))
found text accepted is_outcome a c w k o rows wc kw corpus order verdicts sound (Err e) h q = tt
found text accepted is_outcome a c w k o rows wc kw corpus order verdicts sound (Ok f) h q =
    let kc : k ≡ c = kw ∙ wc in (
      record { corpus = c; order = o; rows = rows; library = library_of rows },
      refl,
      record {
        corpus = corpus;
        order = order;
        verdicts = subst (λ d. AreVerdicts is_outcome d.articles rows) wc verdicts;
        library = refl;
        sound = sound;
      },
      h ∙ ap (λ d. output_text (is_some a.generate) a.list o (entries_of d.articles rows) (library_of rows)) kc,
      q ∙ ap (λ d. are_accepted (entries_of d.articles rows)) kc,
    )
