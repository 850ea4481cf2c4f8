-- What stands behind an accepted article.
use Rattle.std.proofs.Common.{◌≡◌, ◌<◌, ℕ, suc, Bool, true, false, List, [], ◌∷◌, ◌⊎◌, inl, inr, refl, ap, sym, ◌∙◌, subst, arith}
use Rattle.std.specs.Prelude.{Option, Some, None, slice_get, Contains}
use Rattle.std.proofs.lemmas.Option.{slice_get_within}
use Rattle.std.proofs.lemmas.List.Elements.{All-contains}
use Rattle.mz_base.specs.declared.name.Name.{Name}
use Rattle.mz_core.specs.declared.outcome.Export.{Export}
use Rattle.mz_core.specs.declared.outcome.Outcome.{Outcome}
use Rattle.mz_core.specs.declared.outcome.Outcome.TheVariants as outcome
use Rattle.mz_core.specs.declared.verdict.Entry.{Entry}
use Rattle.mz_core.specs.declared.verdict.Verdict.TheVariants as verdict
use Rattle.mz_axioms.specs.Checker.{OutcomeRelation, AnswersName}
use Rattle.mz_axioms.specs.Library.{IsNamedBefore, AreInOrder}
use Rattle.mz_axioms.proofs.AddedLemmas.{first_or_later, pairs_first, pairs_later}
use Rattle.mz_corpus.specs.Article.{Article, is_cyclic}
use Rattle.mz_turns.specs.Row.{Row, Waiting, Claimed, Accepted, Rejected, Blocked, Cyclic, Missing, is_accepted, row_of, row_at}
use Rattle.mz_turns.specs.Dependencies.{start_row, start_of}
use Rattle.mz_turns.specs.Library.{library_of}
use Rattle.mz_turns.specs.Verdicts.{HasVerdict, unchecked, blocked, checked}
use Rattle.mz_turns.proofs.NameLemmas.{in_none}
use Rattle.mz_turns.proofs.RowLemmas.{same_article, outcome_accepted, start_not_accepted}
use Rattle.mz_turns.proofs.LibraryLemmas.{in_library}
use Rattle.mz_rows.specs.Counts.{counts_of}
use Rattle.mz_rows.specs.Entries.{entry_of, entries_of}
use Rattle.mz_run.specs.Checked.{Checked, IsChecked, entries_in}
use Rattle.mz_run.specs.Laws.{IsBacked}

-- the entry is that of a row
record IsEntryAt (c : List Article) (rows : List Row) (e : Entry) : Type 0 where
  row : ℕ
  article : Article
  is_at : slice_get c row ≡ Some article
  is : e ≡ entry_of article.name (row_at rows row)

entry_later : (a : Article) (c : List Article) (x : Row) (rows : List Row) (e : Entry) → IsEntryAt c rows e → IsEntryAt (a ∷ c) (x ∷ rows) e
entry_later a c x rows e h = record { row = suc h.row; article = h.article; is_at = h.is_at; is = h.is }

entry_first : (a : Article) (c : List Article) (x : Row) (rows : List Row) (e : Entry) → (e ≡ entry_of a.name x) ⊎ Contains (entries_of c rows) e → (Contains (entries_of c rows) e → IsEntryAt c rows e) → IsEntryAt (a ∷ c) (x ∷ rows) e
entry_first a c x rows e (inl p) k = record { row = 0; article = a; is_at = refl; is = p }
entry_first a c x rows e (inr h) k = entry_later a c x rows e (k h)

entry_at : (c : List Article) (rows : List Row) (e : Entry) → Contains (entries_of c rows) e → IsEntryAt c rows e
entry_at [] rows e h = absurd (in_none e h)
entry_at (a ∷ c) [] e h = absurd (in_none e h)
entry_at (a ∷ c) (x ∷ rows) e h =
    entry_first a c x rows e (first_or_later (entry_of a.name x) e (entries_of c rows) h) (entry_at c rows e)

-- an entry that says accepted is that of an accepted row
record IsAcceptedRow (n : Name) (x : Row) : Type 0 where
  export : Export
  is : x ≡ Accepted export
  counts : (entry_of n x).counts ≡ counts_of export.items

accepted_row : (n : Name) (x : Row) → (entry_of n x).verdict ≡ Some verdict.Accepted → IsAcceptedRow n x
accepted_row n Waiting e = absurd (let bad : ⊥ = cc in bad)
accepted_row n (Claimed w) e = absurd (let bad : ⊥ = cc in bad)
accepted_row n (Accepted f) e = record { export = f; is = refl; counts = refl }
accepted_row n (Rejected fs) e = absurd (let bad : ⊥ = cc in bad)
accepted_row n (Blocked m) e = absurd (let bad : ⊥ = cc in bad)
accepted_row n Cyclic e = absurd (let bad : ⊥ = cc in bad)
accepted_row n Missing e = absurd (let bad : ⊥ = cc in bad)

entry_name : (n : Name) (x : Row) → (entry_of n x).name ≡ n
entry_name n Waiting = refl
entry_name n (Claimed w) = refl
entry_name n (Accepted f) = refl
entry_name n (Rejected fs) = refl
entry_name n (Blocked m) = refl
entry_name n Cyclic = refl
entry_name n Missing = refl

not_blocked : (n : Name) (f : Export) → Blocked n ≡ Accepted f → ⊥
not_blocked n f e = cc

-- the export of an accepted article has its name
verdict_named : (is_outcome : OutcomeRelation) → AnswersName is_outcome → (c : List Article) (r : ℕ) (a : Article) (x : Row) (f : Export) → slice_get c r ≡ Some a → HasVerdict is_outcome c r x → x ≡ Accepted f → f.name ≡ a.name
verdict_named is_outcome names c r a x f at (unchecked r1 b y h s i) e =
    absurd (start_not_accepted b.text (is_cyclic b) (ap is_accepted (s ∙ e)))
verdict_named is_outcome names c r a x f at (blocked r1 b d m h s first is) e = absurd (not_blocked m.name f e)
verdict_named is_outcome names c r a x f at (checked r1 b t ds es library o y h s tx direct all is_env is k) e =
    let same : o ≡ outcome.Accepted f = outcome_accepted o f (k ∙ e) in
    names b.name b.vocabularies library t f (subst (is_outcome b.name b.vocabularies library t) same is) ∙ ap (λ z. z.name) (same_article c r b a h at)

before_itself : (e f x : Export) → IsNamedBefore x f → e ≡ x → e.name.number ≡ f.name.number → ⊥
before_itself e f x h p q =
    let lt : e.name.number < f.name.number = subst (λ z. IsNamedBefore z f) (sym p) h in
    omega arith

same_named_by : (x : Export) (xs : List Export) → AreInOrder (x ∷ xs) → (e f : Export) → e.name.number ≡ f.name.number → (e ≡ x) ⊎ Contains xs e → (f ≡ x) ⊎ Contains xs f → (Contains xs e → Contains xs f → e ≡ f) → e ≡ f
same_named_by x xs o e f q (inl p) (inl r) k = p ∙ sym r
same_named_by x xs o e f q (inl p) (inr h) k = absurd (before_itself e f x (All-contains (IsNamedBefore x) xs f (pairs_first x xs o) h) p q)
same_named_by x xs o e f q (inr h) (inl r) k = absurd (before_itself f e x (All-contains (IsNamedBefore x) xs e (pairs_first x xs o) h) r (sym q))
same_named_by x xs o e f q (inr h) (inr i) k = k h i

-- in the order of names, each name stands once
same_named : (xs : List Export) → AreInOrder xs → (e f : Export) → e.name.number ≡ f.name.number → Contains xs e → Contains xs f → e ≡ f
same_named [] o e f q h k = absurd (in_none e h)
same_named (x ∷ xs) o e f q h k =
    same_named_by x xs o e f q (first_or_later x e xs h) (first_or_later x f xs k) (λ i j. same_named xs (pairs_later x xs o) e f q i j)

backed_by : (is_outcome : OutcomeRelation) → AnswersName is_outcome → (x : Checked) → IsChecked is_outcome x → (a : Article) (r : ℕ) → slice_get x.corpus.articles r ≡ Some a → IsAcceptedRow a.name (row_at x.rows r) → IsBacked x.library (entry_of a.name (row_at x.rows r))
backed_by is_outcome names x h a r at row =
    let f = row.export in
    let held : Contains x.library f = subst (λ l. Contains l f) (sym h.library) (in_library x.rows r f row.is) in
    let settled = h.verdicts.each r (slice_get_within x.corpus.articles r a at) in
    let named : f.name ≡ a.name = verdict_named is_outcome names x.corpus.articles r a (row_at x.rows r) f at settled row.is in
    let entry : (entry_of a.name (row_at x.rows r)).name ≡ a.name = entry_name a.name (row_at x.rows r) in
    record {
      export = f;
      held = held;
      named = named ∙ sym entry;
      only = λ g k q. same_named x.library h.sound.in_order g f (ap (λ m. m.number) (q ∙ (entry ∙ sym named))) k held;
      counts = row.counts;
      derivable = h.sound.derivable f held;
    }

pub accepted_backed : (is_outcome : OutcomeRelation) → AnswersName is_outcome → (x : Checked) (e : Entry) → IsChecked is_outcome x → Contains (entries_in x) e → e.verdict ≡ Some verdict.Accepted → IsBacked x.library e
accepted_backed is_outcome names x e h k v =
    let at = entry_at x.corpus.articles x.rows e k in
    subst (IsBacked x.library) (sym at.is)
    (backed_by is_outcome names x h at.article at.row at.is_at (accepted_row at.article.name (row_at x.rows at.row) (ap (λ (z : Entry). z.verdict) (sym at.is) ∙ v)))
