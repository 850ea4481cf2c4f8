-- What holds of the rows after any turns, and what follows from it for dependencies.
use Rattle.std.proofs.Common.{◌≡◌, ◌⊎◌, inl, inr, ℕ, Bool, true, false, List, [], ◌∷◌, ◌++◌, map, length, refl, sym, ap, ◌∙◌, subst}
use Rattle.std.specs.Prelude.{Option, Some, None, slice_get, slice_index_or, All, Contains}
use Rattle.std.proofs.lemmas.List.Elements.{All-append, All-contains_itself, Contains-append_left, Contains-append_right, Contains-append_cases}
use Rattle.mz_base.specs.Name.{is_built_in}
use Rattle.mz_base.specs.declared.name.Name.{Name}
use Rattle.mz_core.specs.declared.outcome.Export.{Export}
use Rattle.mz_axioms.specs.BuiltIn.{built_in_exports}
use Rattle.mz_axioms.specs.Library.{AreInOrder}
use Rattle.mz_axioms.specs.Checker.{OutcomeRelation, AnswersName}
use Rattle.mz_axioms.proofs.AddedLemmas.{here, there, first_or_later}
use Rattle.mz_axioms.proofs.BuiltInLemmas.{built_in_named}
use Rattle.mz_corpus.specs.Article.{Article, is_cyclic}
use Rattle.mz_corpus.specs.Corpus.{link_of, links_of, DependsOn, directly, by_another}
use Rattle.mz_corpus.specs.Names.{is_among}
use Rattle.mz_corpus.proofs.AscendingLemmas.{Contains-among, among-Contains}
use Rattle.mz_turns.specs.Row.{Row, Waiting, Claimed, Accepted, Rejected, Blocked, Cyclic, Missing, is_settled, is_accepted, row_at}
use Rattle.mz_turns.specs.Dependencies.{place_of, direct_rows, all_rows, start_of, start_row}
use Rattle.mz_turns.specs.Library.{IsLibrary, library_of, is_used_by, environment}
use Rattle.mz_turns.specs.Verdicts.{HasVerdict, unchecked, blocked, checked}
use Rattle.mz_turns.specs.Machine.{all_accepted}
use Rattle.mz_turns.proofs.RowLemmas.{export_of, exports_of, true_false, same_article, both, from_both, outcome_accepted}
use Rattle.mz_turns.proofs.NameLemmas.{HasArticle, AreArticles, from_map, or_left, or_right, or_cases, in_none, contained, article_at, found, same_place}
use Rattle.mz_turns.proofs.LibraryLemmas.{built_in_library, in_library, IsFrom, from_library}
use Rattle.mz_turns.proofs.ExportLemmas.{in_filter, from_filter, filter_holds, filter_in_order}

pub record Good (is_outcome : OutcomeRelation) (c : List Article) (rows : List Row) : Type 0 where
  pub whole : length rows ≡ length c
  pub settled : (r : ℕ) → is_settled (row_at rows r) ≡ true → HasVerdict is_outcome c r (row_at rows r)
  pub unsettled : (r : ℕ) (a : Article) → slice_get c r ≡ Some a → is_settled (row_at rows r) ≡ false → start_row a ≡ Waiting
  pub claims : (r w : ℕ) (a : Article) → slice_get c r ≡ Some a → row_at rows r ≡ Claimed w → all_accepted rows (direct_rows c a) ≡ true
  pub accepts : (r : ℕ) (a : Article) → slice_get c r ≡ Some a → is_accepted (row_at rows r) ≡ true → all_accepted rows (direct_rows c a) ≡ true
  pub in_order : AreInOrder (library_of rows)

-- whose export an accepted row has
start_accepted : (o : Option (List ℕ)) (b : Bool) (e : Export) → start_of o b ≡ Accepted e → ⊥
start_accepted None b e h = cc
start_accepted (Some t) true e h = cc
start_accepted (Some t) false e h = cc

named_verdict : (is_outcome : OutcomeRelation) → AnswersName is_outcome → (c : List Article) (q : ℕ) (x : Row) (e : Export) → x ≡ Accepted e → HasVerdict is_outcome c q x → (b : Article) × (slice_get c q ≡ Some b) × (e.name ≡ b.name)
named_verdict is_outcome names c q x e p (unchecked q1 a x1 k s i) = absurd (start_accepted a.text (is_cyclic a) e (s ∙ p))
named_verdict is_outcome names c q x e p (blocked q1 a d b k s f at) = absurd cc
named_verdict is_outcome names c q x e p (checked q1 a t ds es env o x1 k s tx direct all is_env is eo) =
    (a, k, names a.name a.vocabularies env t e (subst (λ z. is_outcome a.name a.vocabularies env t z) (outcome_accepted o e (eo ∙ p)) is))

pub named_row : (is_outcome : OutcomeRelation) → AnswersName is_outcome → (c : List Article) (rows : List Row) → Good is_outcome c rows → (q : ℕ) (e : Export) → row_at rows q ≡ Accepted e → (b : Article) × (slice_get c q ≡ Some b) × (e.name ≡ b.name)
named_row is_outcome names c rows g q e h = named_verdict is_outcome names c q (row_at rows q) e h (g.settled q (ap is_settled h))

-- the article of the name is accepted
abbrev pub IsAvailable : List Article → List Row → Name → Type 0
IsAvailable c rows n = is_accepted (row_at rows (place_of c n)) ≡ true

available_one : (c : List Article) (rows : List Row) (m n : Name) (ns : List Name) → IsAvailable c rows m → (Contains ns n → IsAvailable c rows n) → (n ≡ m) ⊎ Contains ns n → IsAvailable c rows n
available_one c rows m n ns h k (inl e) = subst (IsAvailable c rows) (sym e) h
available_one c rows m n ns h k (inr later) = k later

pub available : (c : List Article) (rows : List Row) (ns : List Name) (n : Name) → all_accepted rows (map (place_of c) ns) ≡ true → Contains ns n → IsAvailable c rows n
available c rows [] n h k = absurd (in_none n k)
available c rows (m ∷ ns) n h k =
    let p = both (is_accepted (row_at rows (place_of c m))) (all_accepted rows (map (place_of c) ns)) h in
    available_one c rows m n ns p.0 (available c rows ns n p.1) (first_or_later m n ns k)

pub all_available : (c : List Article) (rows : List Row) (ns : List Name) → ((n : Name) → Contains ns n → IsAvailable c rows n) → all_accepted rows (map (place_of c) ns) ≡ true
all_available c rows [] h = refl
all_available c rows (m ∷ ns) h =
    from_both (is_accepted (row_at rows (place_of c m))) (all_accepted rows (map (place_of c) ns)) (h m (here m ns)) (all_available c rows ns (λ n k. h n (there m n ns k)))

-- all direct dependencies of the article of this name are available
abbrev HasDirect : List Article → List Row → Name → Type 0
HasDirect c rows l = (a : Article) → Contains c a → a.name ≡ l → (n : Name) → Contains a.direct n → IsAvailable c rows n

direct_available : (is_outcome : OutcomeRelation) (c : List Article) → AreArticles c → (rows : List Row) → Good is_outcome c rows → (m : Name) → IsAvailable c rows m → HasDirect c rows m
direct_available is_outcome c corpus rows g m is a at named n k =
    let r = article_at c a at in
    let same : place_of c m ≡ r.0 = same_place c corpus r.0 a m r.1 named in
    available c rows a.direct n (g.accepts r.0 a r.1 (ap (λ q. is_accepted (row_at rows q)) (sym same) ∙ is)) k

depends_available : (is_outcome : OutcomeRelation) (c : List Article) → AreArticles c → (rows : List Row) → Good is_outcome c rows → (direct : List Name) → ((m : Name) → Contains direct m → IsAvailable c rows m) → (n : Name) → DependsOn (links_of c) direct n → IsAvailable c rows n
depends_available is_outcome c corpus rows g direct h n (directly m has) = h n has
depends_available is_outcome c corpus rows g direct h n (by_another l m at p has) =
    let b = from_map link_of c l at in
    direct_available is_outcome c corpus rows g l.name (depends_available is_outcome c corpus rows g direct h l.name p) b.0 b.1 (ap (λ x. x.name) b.2) n
    (subst (λ x. Contains x.direct n) (sym b.2) has)

-- where the direct dependencies of an article are accepted, all of its dependencies are
pub reach_accepted : (is_outcome : OutcomeRelation) (c : List Article) → AreArticles c → (rows : List Row) → Good is_outcome c rows → (r : ℕ) (a : Article) → slice_get c r ≡ Some a → all_accepted rows (direct_rows c a) ≡ true → all_accepted rows (all_rows c a) ≡ true
reach_accepted is_outcome c corpus rows g r a k h =
    all_available c rows a.reach (λ n reached.
    depends_available is_outcome c corpus rows g a.direct (λ m has. available c rows a.direct m h has) n (corpus.reached a n (contained c r a k) reached))

-- the exports of accepted rows
export_one : (c : List Article) (rows : List Row) (m n : Name) (ns : List Name) (e : Export) → row_at rows (place_of c n) ≡ Accepted e → (Contains ns n → Contains (exports_of rows (map (place_of c) ns)) e) → (n ≡ m) ⊎ Contains ns n → Contains (exports_of rows (map (place_of c) (m ∷ ns))) e
export_one c rows m n ns e h k (inl same) =
    let at : row_at rows (place_of c m) ≡ Accepted e = ap (λ x. row_at rows (place_of c x)) (sym same) ∙ h in
    subst (λ y. Contains (export_of y ++ exports_of rows (map (place_of c) ns)) e) (sym at) (here e (exports_of rows (map (place_of c) ns)))
export_one c rows m n ns e h k (inr later) = Contains-append_right (export_of (row_at rows (place_of c m))) (exports_of rows (map (place_of c) ns)) e (k later)

export_in : (c : List Article) (rows : List Row) (ns : List Name) (n : Name) (e : Export) → row_at rows (place_of c n) ≡ Accepted e → Contains ns n → Contains (exports_of rows (map (place_of c) ns)) e
export_in c rows [] n e h k = absurd (in_none n k)
export_in c rows (m ∷ ns) n e h k = export_one c rows m n ns e h (export_in c rows ns n e h) (first_or_later m n ns k)

abbrev IsExportOf : List Article → List Row → List Name → Export → Type 0
IsExportOf c rows ns e = (n : Name) × Contains ns n × (row_at rows (place_of c n) ≡ Accepted e)

accepted_first : (f e : Export) → (e ≡ f) ⊎ Contains [] e → Accepted f ≡ Accepted e
accepted_first f e (inl p) = ap (λ x. Accepted x) (sym p)
accepted_first f e (inr h) = absurd (in_none e h)

accepted_export : (x : Row) (e : Export) → Contains (export_of x) e → x ≡ Accepted e
accepted_export Waiting e h = absurd (in_none e h)
accepted_export (Claimed w) e h = absurd (in_none e h)
accepted_export (Accepted f) e h = accepted_first f e (first_or_later f e [] h)
accepted_export (Rejected fs) e h = absurd (in_none e h)
accepted_export (Blocked n) e h = absurd (in_none e h)
accepted_export Cyclic e h = absurd (in_none e h)
accepted_export Missing e h = absurd (in_none e h)

from_exports_one : (c : List Article) (rows : List Row) (m : Name) (ns : List Name) (e : Export) → (Contains (exports_of rows (map (place_of c) ns)) e → IsExportOf c rows ns e) → Contains (export_of (row_at rows (place_of c m))) e ⊎ Contains (exports_of rows (map (place_of c) ns)) e → IsExportOf c rows (m ∷ ns) e
from_exports_one c rows m ns e k (inl now) = (m, here m ns, accepted_export (row_at rows (place_of c m)) e now)
from_exports_one c rows m ns e k (inr later) = let h = k later in (h.0, there m h.0 ns h.1, h.2)

from_exports : (c : List Article) (rows : List Row) (ns : List Name) (e : Export) → Contains (exports_of rows (map (place_of c) ns)) e → IsExportOf c rows ns e
from_exports c rows [] e h = absurd (in_none e h)
from_exports c rows (m ∷ ns) e h =
    from_exports_one c rows m ns e (from_exports c rows ns e) (Contains-append_cases (export_of (row_at rows (place_of c m))) (exports_of rows (map (place_of c) ns)) e h)

-- what is depended on is an article
pub depended : (c : List Article) → AreArticles c → (a : Article) → Contains c a → (n : Name) → DependsOn (links_of c) a.direct n → HasArticle c n
depended c corpus a at n (directly m has) = corpus.known a n at has
depended c corpus a at n (by_another l m within p has) =
    let b = from_map link_of c l within in
    corpus.known b.0 n b.1 (subst (λ x. Contains x.direct n) (sym b.2) has)

pub all_from : (P : Export → Type 0) (xs : List Export) → ((e : Export) → Contains xs e → P e) → All P xs
all_from P xs f = λ k d lt. f (slice_index_or xs k d) (All-contains_itself xs k d lt)

used_export : (is_outcome : OutcomeRelation) → AnswersName is_outcome → (c : List Article) → AreArticles c → (rows : List Row) → Good is_outcome c rows → (a : Article) → Contains c a → (e : Export) → IsExportOf c rows a.reach e → Contains (environment rows a) e
used_export is_outcome names c corpus rows g a at e (n, reached, is) =
    let has = depended c corpus a at n (corpus.reached a n at reached) in
    let f = found c n has in
    let row = named_row is_outcome names c rows g (place_of c n) e is in
    let named : e.name ≡ n = row.2 ∙ (ap (λ x. x.name) (same_article c (place_of c n) row.0 f.0 row.1 f.1) ∙ f.2) in
    in_filter (is_used_by a) (library_of rows) e (in_library rows (place_of c n) e is)
    (or_right (is_built_in e.name.number) (is_among a.reach e.name) (among-Contains a.reach e.name (subst (Contains a.reach) (sym named) reached)))

only_reached : (c : List Article) (rows : List Row) (a : Article) (e : Export) → is_built_in e.name.number ≡ false → row_at rows (place_of c e.name) ≡ Accepted e → (is_built_in e.name.number ≡ true) ⊎ (is_among a.reach e.name ≡ true) → Contains (built_in_exports ++ exports_of rows (all_rows c a)) e
only_reached c rows a e own is (inl built) = absurd (true_false (is_built_in e.name.number) built own)
only_reached c rows a e own is (inr named) =
    Contains-append_right built_in_exports (exports_of rows (all_rows c a)) e (export_in c rows a.reach e.name e is (Contains-among a.reach e.name named))

only_used : (is_outcome : OutcomeRelation) → AnswersName is_outcome → (c : List Article) → AreArticles c → (rows : List Row) → Good is_outcome c rows → (a : Article) (e : Export) → IsFrom rows e → (is_built_in e.name.number ≡ true) ⊎ (is_among a.reach e.name ≡ true) → Contains (built_in_exports ++ exports_of rows (all_rows c a)) e
only_used is_outcome names c corpus rows g a e (inl built) used = Contains-append_left built_in_exports (exports_of rows (all_rows c a)) e built
only_used is_outcome names c corpus rows g a e (inr (q, is)) used =
    let row = named_row is_outcome names c rows g q e is in
    let own : is_built_in e.name.number ≡ false = ap (λ x. is_built_in x.number) row.2 ∙ corpus.own q row.0 row.1 in
    let place : place_of c e.name ≡ q = same_place c corpus q row.0 e.name row.1 (sym row.2) in
    only_reached c rows a e own (ap (row_at rows) place ∙ is) used

-- where the dependencies of an article are accepted, it is checked from the library of their exports
pub environment_is : (is_outcome : OutcomeRelation) → AnswersName is_outcome → (c : List Article) → AreArticles c → (rows : List Row) → Good is_outcome c rows → (a : Article) → Contains c a → IsLibrary (exports_of rows (all_rows c a)) (environment rows a)
environment_is is_outcome names c corpus rows g a at = record {
  in_order = filter_in_order (is_used_by a) (library_of rows) g.in_order;
  has =
      All-append (Contains (environment rows a)) built_in_exports (exports_of rows (all_rows c a))
      (all_from (Contains (environment rows a)) built_in_exports (λ e h.
      in_filter (is_used_by a) (library_of rows) e (built_in_library rows e h) (or_left (is_built_in e.name.number) (is_among a.reach e.name) (built_in_named e h))))
      (all_from (Contains (environment rows a)) (exports_of rows (all_rows c a)) (λ e h.
      used_export is_outcome names c corpus rows g a at e (from_exports c rows a.reach e h)));
  only =
      all_from (Contains (built_in_exports ++ exports_of rows (all_rows c a))) (environment rows a) (λ e h.
      only_used is_outcome names c corpus rows g a e
      (from_library rows e (from_filter (is_used_by a) (library_of rows) e h))
      (or_cases (is_built_in e.name.number) (is_among a.reach e.name) (filter_holds (is_used_by a) (library_of rows) e h)));
}
