-- After any turns that are allowed, each settled row is the verdict of its article.
use Rattle.std.proofs.Common.{◌≡◌, ◌<◌, ℕ, List, [], ◌∷◌, ◌++◌, map, length, refl, ap, sym, ◌∙◌, subst, Bool, true, false, inl, inr, length-set}
use Rattle.std.proofs.lemmas.List.{length-map}
use Rattle.std.specs.Prelude.{◌⊎◌, Option, Some, None, slice_get, slice_set}
use Rattle.std.proofs.lemmas.Option.{same_Some, none-some, slice_get_within}
use Rattle.std.proofs.lemmas.Bool.{cases_eq}
use Rattle.mz_base.specs.Name.{is_built_in}
use Rattle.mz_base.proofs.NameEqual.{Name-equal}
use Rattle.mz_core.specs.declared.outcome.Export.{Export}
use Rattle.mz_core.specs.declared.outcome.Outcome.{Outcome}
use Rattle.mz_core.specs.declared.outcome.Outcome.TheVariants as outcome
use Rattle.mz_axioms.specs.Library.{AreInOrder, HasName, added}
use Rattle.mz_axioms.specs.Checker.{OutcomeRelation, AnswersName}
use Rattle.mz_axioms.proofs.AddedLemmas.{in_order_added}
use Rattle.mz_axioms.proofs.BuiltInLemmas.{built_in_order, built_in_named}
use Rattle.mz_corpus.specs.Article.{Article, is_cyclic}
use Rattle.mz_turns.proofs.NameLemmas.{AreArticles}
use Rattle.mz_turns.specs.Row.{Row, Waiting, Claimed, Accepted, Rejected, Blocked, is_settled, is_accepted, freed, row_of, row_at}
use Rattle.mz_turns.specs.Dependencies.{direct_rows, all_rows, start_row}
use Rattle.mz_turns.specs.Library.{library_of, environment}
use Rattle.mz_turns.specs.Verdicts.{HasVerdict, unchecked, blocked, checked, FirstUnaccepted, here, later, AllAccepted, none, more}
use Rattle.mz_turns.specs.Machine.{and_then, unless_accepted, all_settled, all_accepted, first_unaccepted, IsReady, NoneIsBlocked, Blocks, end, block, Step, take, publish, reclaim, Replays, start, turn}
use Rattle.mz_turns.specs.declared.turn.Turn.{Turn}
use Rattle.mz_turns.proofs.RowLemmas.{export_of, exports_of, true_false, same_article, both, from_both, settled_freed, accepted_freed, freed_settled, freed_claimed, freed_waiting, accepted_settled, accepted_is, not_settled, start_waits, start_claimed, row_at-put_same, row_at-put_other, at_map, at_start, from_start, outcome_settled, freed-twice, unsettled_unaccepted, start_not_accepted}
use Rattle.mz_turns.proofs.NameLemmas.{contained}
use Rattle.mz_turns.proofs.LibraryLemmas.{IsFrom, from_library, library_same, library_put, library_freed, library_start}
use Rattle.mz_turns.proofs.GoodLemmas.{Good, named_row, reach_accepted, environment_is}

-- what was settled stays
abbrev pub Grows : List Row → List Row → Type 0
Grows rows after = (q : ℕ) → is_settled (row_at rows q) ≡ true → row_at after q ≡ row_at rows q

-- the rows are the same but for claims
abbrev pub Same : List Row → List Row → Type 0
Same rows after = (q : ℕ) → freed (row_at after q) ≡ freed (row_at rows q)

grows_accepted : (rows after : List Row) → Grows rows after → (ds : List ℕ) → all_accepted rows ds ≡ true → all_accepted after ds ≡ true
grows_accepted rows after g [] h = refl
grows_accepted rows after g (d ∷ ds) h =
    let p = both (is_accepted (row_at rows d)) (all_accepted rows ds) h in
    from_both (is_accepted (row_at after d)) (all_accepted after ds) (ap is_accepted (g d (accepted_settled (row_at rows d) p.0)) ∙ p.0) (grows_accepted rows after g ds p.1)

same_settled : (rows after : List Row) → Same rows after → (ds : List ℕ) → all_settled after ds ≡ all_settled rows ds
same_settled rows after s [] = refl
same_settled rows after s (d ∷ ds) =
    let p : is_settled (row_at after d) ≡ is_settled (row_at rows d) = sym (settled_freed (row_at after d)) ∙ (ap is_settled (s d) ∙ settled_freed (row_at rows d)) in
    λ i. and_then (p i) (same_settled rows after s ds i)

first_unaccepted-same_bad : (rows after : List Row) → Same rows after → (ds : List ℕ) → first_unaccepted after ds ≡ first_unaccepted rows ds
first_unaccepted-same_bad rows after s [] = refl
first_unaccepted-same_bad rows after s (d ∷ ds) =
    let p : is_accepted (row_at after d) ≡ is_accepted (row_at rows d) = sym (accepted_freed (row_at after d)) ∙ (ap is_accepted (s d) ∙ accepted_freed (row_at rows d)) in
    λ i. unless_accepted (p i) d (first_unaccepted-same_bad rows after s ds i)

none_bad_if : (b : Bool) (d : ℕ) (o : Option ℕ) → unless_accepted b d o ≡ None → (b ≡ true) × (o ≡ None)
none_bad_if true d o h = (refl, h)
none_bad_if false d o h = absurd (none-some d (sym h))

pub none_bad : (rows : List Row) (ds : List ℕ) → first_unaccepted rows ds ≡ None → all_accepted rows ds ≡ true
none_bad rows [] h = refl
none_bad rows (d ∷ ds) h =
    let p = none_bad_if (is_accepted (row_at rows d)) d (first_unaccepted rows ds) h in
    from_both (is_accepted (row_at rows d)) (all_accepted rows ds) p.0 (none_bad rows ds p.1)

accepted_none_if : (b : Bool) (d : ℕ) (o : Option ℕ) → b ≡ true → o ≡ None → unless_accepted b d o ≡ None
accepted_none_if true d o p h = h
accepted_none_if false d o p h = absurd cc

first_unaccepted-accepted_none : (rows : List Row) (ds : List ℕ) → all_accepted rows ds ≡ true → first_unaccepted rows ds ≡ None
first_unaccepted-accepted_none rows [] h = refl
first_unaccepted-accepted_none rows (d ∷ ds) h =
    let p = both (is_accepted (row_at rows d)) (all_accepted rows ds) h in
    accepted_none_if (is_accepted (row_at rows d)) d (first_unaccepted rows ds) p.0 (first_unaccepted-accepted_none rows ds p.1)

first_step : (is_outcome : OutcomeRelation) (c : List Article) (rows : List Row) → Good is_outcome c rows → (x : ℕ) (ds : List ℕ) (d : ℕ) (b : Bool) → is_accepted (row_at rows x) ≡ b → is_settled (row_at rows x) ≡ true → (first_unaccepted rows ds ≡ Some d → FirstUnaccepted is_outcome c ds d) → unless_accepted b x (first_unaccepted rows ds) ≡ Some d → FirstUnaccepted is_outcome c (x ∷ ds) d
first_step is_outcome c rows g x ds d true e i rest h =
    let a = accepted_is (row_at rows x) e in
    later x ds a.0 d (subst (λ y. HasVerdict is_outcome c x y) a.1 (g.settled x i)) (rest h)
first_step is_outcome c rows g x ds d false e i rest h = subst (λ k. FirstUnaccepted is_outcome c (x ∷ ds) k) (same_Some x d h) (here x ds (row_at rows x) (g.settled x i) e)

pub first_holds : (is_outcome : OutcomeRelation) (c : List Article) (rows : List Row) → Good is_outcome c rows → (ds : List ℕ) (d : ℕ) → all_settled rows ds ≡ true → first_unaccepted rows ds ≡ Some d → FirstUnaccepted is_outcome c ds d
first_holds is_outcome c rows g [] d s h = absurd (none-some d h)
first_holds is_outcome c rows g (x ∷ ds) d s h =
    let p = both (is_settled (row_at rows x)) (all_settled rows ds) s in
    first_step is_outcome c rows g x ds d (is_accepted (row_at rows x)) refl p.0 (first_holds is_outcome c rows g ds d p.1) h

pub accepted_holds : (is_outcome : OutcomeRelation) (c : List Article) (rows : List Row) → Good is_outcome c rows → (ds : List ℕ) → all_accepted rows ds ≡ true → AllAccepted is_outcome c ds (exports_of rows ds)
accepted_holds is_outcome c rows g [] h = none
accepted_holds is_outcome c rows g (x ∷ ds) h =
    let p = both (is_accepted (row_at rows x)) (all_accepted rows ds) h in
    let a = accepted_is (row_at rows x) p.0 in
    let s : HasVerdict is_outcome c x (row_at rows x) = g.settled x (accepted_settled (row_at rows x) p.0) in
    subst (λ y. AllAccepted is_outcome c (x ∷ ds) (export_of y ++ exports_of rows ds)) (sym a.1) (more x ds a.0 (exports_of rows ds) (subst (λ y. HasVerdict is_outcome c x y) a.1 s) (accepted_holds is_outcome c rows g ds p.1))

-- one row is settled
row_at-grows_put_if : (rows : List Row) (r : ℕ) (x : Row) → is_settled (row_at rows r) ≡ false → (q : ℕ) → (q ≡ r) ⊎ (q ≡ r → ⊥) → is_settled (row_at rows q) ≡ true → row_at (slice_set rows r x) q ≡ row_at rows q
row_at-grows_put_if rows r x u q (inl e) h = absurd (true_false (is_settled (row_at rows q)) h (ap (λ k. is_settled (row_at rows k)) e ∙ u))
row_at-grows_put_if rows r x u q (inr n) h = row_at-put_other rows r q x n

pub grows_put : (rows : List Row) (r : ℕ) (x : Row) → is_settled (row_at rows r) ≡ false → Grows rows (slice_set rows r x)
grows_put rows r x u = λ q h. row_at-grows_put_if rows r x u q (cases_eq q r) h

put_settled_if : (is_outcome : OutcomeRelation) (c : List Article) (rows : List Row) → Good is_outcome c rows → (r : ℕ) (x : Row) → r < length rows → HasVerdict is_outcome c r x → (q : ℕ) → (q ≡ r) ⊎ (q ≡ r → ⊥) → is_settled (row_at (slice_set rows r x) q) ≡ true → HasVerdict is_outcome c q (row_at (slice_set rows r x) q)
put_settled_if is_outcome c rows g r x w s q (inl e) h =
    subst (λ k. HasVerdict is_outcome c k (row_at (slice_set rows r x) k)) (sym e) (subst (λ y. HasVerdict is_outcome c r y) (sym (row_at-put_same rows r x w)) s)
put_settled_if is_outcome c rows g r x w s q (inr n) h =
    let o : row_at (slice_set rows r x) q ≡ row_at rows q = row_at-put_other rows r q x n in
    subst (λ y. HasVerdict is_outcome c q y) (sym o) (g.settled q (ap is_settled (sym o) ∙ h))

start_row-put_unsettled_if : (is_outcome : OutcomeRelation) (c : List Article) (rows : List Row) → Good is_outcome c rows → (r : ℕ) (x : Row) → is_settled (row_at rows r) ≡ false → (q : ℕ) (a : Article) → slice_get c q ≡ Some a → (q ≡ r) ⊎ (q ≡ r → ⊥) → is_settled (row_at (slice_set rows r x) q) ≡ false → start_row a ≡ Waiting
start_row-put_unsettled_if is_outcome c rows g r x u q a k (inl e) h = g.unsettled q a k (ap (λ k. is_settled (row_at rows k)) e ∙ u)
start_row-put_unsettled_if is_outcome c rows g r x u q a k (inr n) h = g.unsettled q a k (ap is_settled (sym (row_at-put_other rows r q x n)) ∙ h)

put_claims_if : (is_outcome : OutcomeRelation) (c : List Article) (rows : List Row) → Good is_outcome c rows → (r : ℕ) (x : Row) → r < length rows → is_settled x ≡ true → is_settled (row_at rows r) ≡ false → (q v : ℕ) (a : Article) → slice_get c q ≡ Some a → (q ≡ r) ⊎ (q ≡ r → ⊥) → row_at (slice_set rows r x) q ≡ Claimed v → all_accepted (slice_set rows r x) (direct_rows c a) ≡ true
put_claims_if is_outcome c rows g r x w i u q v a k (inl e) h =
    absurd (not_settled x v (sym (row_at-put_same rows r x w) ∙ (ap (λ k. row_at (slice_set rows r x) k) (sym e) ∙ h)) i)
put_claims_if is_outcome c rows g r x w i u q v a k (inr n) h =
    grows_accepted rows (slice_set rows r x) (grows_put rows r x u) (direct_rows c a) (g.claims q v a k (sym (row_at-put_other rows r q x n) ∙ h))

put_accepts_if : (is_outcome : OutcomeRelation) (c : List Article) (rows : List Row) → Good is_outcome c rows → (r : ℕ) (a : Article) (x : Row) → r < length rows → slice_get c r ≡ Some a → is_settled (row_at rows r) ≡ false → (is_accepted x ≡ true → all_accepted rows (direct_rows c a) ≡ true) → (q : ℕ) (b : Article) → slice_get c q ≡ Some b → (q ≡ r) ⊎ (q ≡ r → ⊥) → is_accepted (row_at (slice_set rows r x) q) ≡ true → all_accepted (slice_set rows r x) (direct_rows c b) ≡ true
put_accepts_if is_outcome c rows g r a x w at u direct q b k (inl e) h =
    let same : b ≡ a = same_article c q b a k (ap (slice_get c) e ∙ at) in
    let yes : is_accepted x ≡ true = ap is_accepted (sym (row_at-put_same rows r x w)) ∙ (ap (λ j. is_accepted (row_at (slice_set rows r x) j)) (sym e) ∙ h) in
    grows_accepted rows (slice_set rows r x) (grows_put rows r x u) (direct_rows c b) (subst (λ z. all_accepted rows (direct_rows c z) ≡ true) (sym same) (direct yes))
put_accepts_if is_outcome c rows g r a x w at u direct q b k (inr n) h =
    grows_accepted rows (slice_set rows r x) (grows_put rows r x u) (direct_rows c b) (g.accepts q b k (ap is_accepted (sym (row_at-put_other rows r q x n)) ∙ h))

pub good_put : (is_outcome : OutcomeRelation) (c : List Article) (rows : List Row) → Good is_outcome c rows → (r : ℕ) (a : Article) (x : Row) → slice_get c r ≡ Some a → is_settled (row_at rows r) ≡ false → is_settled x ≡ true → HasVerdict is_outcome c r x → (is_accepted x ≡ true → all_accepted rows (direct_rows c a) ≡ true) → AreInOrder (library_of (slice_set rows r x)) → Good is_outcome c (slice_set rows r x)
good_put is_outcome c rows g r a x k u i s direct order =
    let w : r < length rows = subst (λ n. r < n) (sym g.whole) (slice_get_within c r a k) in
    record {
      whole = length-set rows r x ∙ g.whole;
      settled = λ q h. put_settled_if is_outcome c rows g r x w s q (cases_eq q r) h;
      unsettled = λ q b k2 h. start_row-put_unsettled_if is_outcome c rows g r x u q b k2 (cases_eq q r) h;
      claims = λ q v b k2 h. put_claims_if is_outcome c rows g r x w i u q v b k2 (cases_eq q r) h;
      accepts = λ q b k2 h. put_accepts_if is_outcome c rows g r a x w k u direct q b k2 (cases_eq q r) h;
      in_order = order;
    }

-- a blocked row
pub good_blocked : (is_outcome : OutcomeRelation) (c : List Article) (rows : List Row) → Good is_outcome c rows → (r : ℕ) (a : Article) (d : ℕ) (b : Article) → slice_get c r ≡ Some a → is_settled (row_at rows r) ≡ false → all_settled rows (direct_rows c a) ≡ true → first_unaccepted rows (direct_rows c a) ≡ Some d → slice_get c d ≡ Some b → HasVerdict is_outcome c r (Blocked b.name) × Good is_outcome c (slice_set rows r (Blocked b.name))
good_blocked is_outcome c rows g r a d b k u settled first at =
    let s : HasVerdict is_outcome c r (Blocked b.name) = blocked r a d b k (g.unsettled r a k u) (first_holds is_outcome c rows g (direct_rows c a) d settled first) at in
    let order : AreInOrder (library_of (slice_set rows r (Blocked b.name))) = subst AreInOrder (sym (library_same rows r (Blocked b.name) (unsettled_unaccepted (row_at rows r) u) refl)) g.in_order in
    (s, good_put is_outcome c rows g r a (Blocked b.name) k u refl s (λ no. absurd cc) order)

-- rows that are settled as blocked
pub blocks_good : (is_outcome : OutcomeRelation) (c : List Article) (rows after : List Row) → Blocks c rows after → Good is_outcome c rows → Good is_outcome c after × NoneIsBlocked c after × Grows rows after
blocks_good is_outcome c rows after (end rows1 n) g = (g, n, λ q h. refl)
blocks_good is_outcome c rows after (block r name rows1 after1 can rest) g =
    let u : is_settled (row_at rows r) ≡ false = ap is_settled can.waits in
    let one = good_blocked is_outcome c rows g r can.article can.row can.other can.is_at u can.settled can.unaccepted can.other_at in
    let next : Good is_outcome c (slice_set rows r (Blocked name)) = subst (λ n. Good is_outcome c (slice_set rows r (Blocked n))) can.named one.1 in
    let all = blocks_good is_outcome c (slice_set rows r (Blocked name)) after rest next in
    let grew = grows_put rows r (Blocked name) u in
    (all.0, all.1, λ q h. all.2 q (ap is_settled (grew q h) ∙ h) ∙ grew q h)

-- no accepted row has the name of an article that isn't settled
pub name_taken : (is_outcome : OutcomeRelation) → AnswersName is_outcome → (c : List Article) → AreArticles c → (rows : List Row) → Good is_outcome c rows → (r : ℕ) (a : Article) → slice_get c r ≡ Some a → is_settled (row_at rows r) ≡ false → (q : ℕ) (f : Export) → row_at rows q ≡ Accepted f → a.name ≡ f.name → ⊥
name_taken is_outcome names c corpus rows g r a k u q f p same =
    let n = named_row is_outcome names c rows g q f p in
    let e : r ≡ q = corpus.distinct r q a n.0 k n.1 (same ∙ n.2) in
    true_false (is_settled (row_at rows r)) (ap (λ j. is_settled (row_at rows j)) e ∙ ap is_settled p) u

no_name_if : (is_outcome : OutcomeRelation) → AnswersName is_outcome → (c : List Article) → AreArticles c → (rows : List Row) → Good is_outcome c rows → (r : ℕ) (a : Article) → slice_get c r ≡ Some a → is_settled (row_at rows r) ≡ false → (e : Export) → e.name ≡ a.name → IsFrom rows e → ⊥
no_name_if is_outcome names c corpus rows g r a k u e same (inl built) =
    true_false (is_built_in e.name.number) (built_in_named e built) (ap (λ n. is_built_in n.number) same ∙ corpus.own r a k)
no_name_if is_outcome names c corpus rows g r a k u e same (inr (q, p)) = name_taken is_outcome names c corpus rows g r a k u q e p (sym same)

-- nor has the library an export of its name
pub no_name : (is_outcome : OutcomeRelation) → AnswersName is_outcome → (c : List Article) → AreArticles c → (rows : List Row) → Good is_outcome c rows → (r : ℕ) (a : Article) → slice_get c r ≡ Some a → is_settled (row_at rows r) ≡ false → HasName (library_of rows) a.name → ⊥
no_name is_outcome names c corpus rows g r a k u (e, within, same) = no_name_if is_outcome names c corpus rows g r a k u e same (from_library rows e within)

-- the library after an outcome
pub library_outcome : (is_outcome : OutcomeRelation) → AnswersName is_outcome → (c : List Article) → AreArticles c → (rows : List Row) → Good is_outcome c rows → (r : ℕ) (a : Article) → slice_get c r ≡ Some a → is_settled (row_at rows r) ≡ false → (e : Export) → e.name ≡ a.name → library_of (slice_set rows r (Accepted e)) ≡ added e (library_of rows)
library_outcome is_outcome names c corpus rows g r a k u e same =
    let w : r < length rows = subst (λ n. r < n) (sym g.whole) (slice_get_within c r a k) in
    library_put rows r e w (unsettled_unaccepted (row_at rows r) u) (λ q f p number. name_taken is_outcome names c corpus rows g r a k u q f p (Name-equal a.name f.name (ap (λ n. n.number) (sym same) ∙ number)))

order_outcome : (is_outcome : OutcomeRelation) → AnswersName is_outcome → (c : List Article) → AreArticles c → (rows : List Row) → Good is_outcome c rows → (r : ℕ) (a : Article) → slice_get c r ≡ Some a → is_settled (row_at rows r) ≡ false → (t : List ℕ) (o : Outcome) → is_outcome a.name a.vocabularies (environment rows a) t o → AreInOrder (library_of (slice_set rows r (row_of o)))
order_outcome is_outcome names c corpus rows g r a k u t (outcome.Accepted e) is =
    let same : e.name ≡ a.name = names a.name a.vocabularies (environment rows a) t e is in
    subst AreInOrder (sym (library_outcome is_outcome names c corpus rows g r a k u e same))
    (in_order_added e (library_of rows) (subst (λ n. HasName (library_of rows) n → ⊥) (sym same) (no_name is_outcome names c corpus rows g r a k u)) g.in_order)
order_outcome is_outcome names c corpus rows g r a k u t (outcome.Rejected fs) is =
    subst AreInOrder (sym (library_same rows r (Rejected fs) (unsettled_unaccepted (row_at rows r) u) refl)) g.in_order

-- a checked row
pub good_checked : (is_outcome : OutcomeRelation) → AnswersName is_outcome → (c : List Article) → AreArticles c → (rows : List Row) → Good is_outcome c rows → (r : ℕ) (a : Article) → slice_get c r ≡ Some a → is_settled (row_at rows r) ≡ false → all_accepted rows (direct_rows c a) ≡ true → (t : List ℕ) (o : Outcome) → a.text ≡ Some t → is_outcome a.name a.vocabularies (environment rows a) t o → HasVerdict is_outcome c r (row_of o) × Good is_outcome c (slice_set rows r (row_of o))
good_checked is_outcome names c corpus rows g r a k u direct t o tx is =
    let all = reach_accepted is_outcome c corpus rows g r a k direct in
    let s : HasVerdict is_outcome c r (row_of o) =
    checked r a t (exports_of rows (direct_rows c a)) (exports_of rows (all_rows c a)) (environment rows a) o (row_of o) k (g.unsettled r a k u) tx
    (accepted_holds is_outcome c rows g (direct_rows c a) direct) (accepted_holds is_outcome c rows g (all_rows c a) all)
    (environment_is is_outcome names c corpus rows g a (contained c r a k)) is refl in
    (s, good_put is_outcome c rows g r a (row_of o) k u (outcome_settled o) s (λ yes. direct) (order_outcome is_outcome names c corpus rows g r a k u t o is))

-- a row is taken
freed-take_same_if : (rows : List Row) (r w : ℕ) → r < length rows → row_at rows r ≡ Waiting → (q : ℕ) → (q ≡ r) ⊎ (q ≡ r → ⊥) → freed (row_at (slice_set rows r (Claimed w)) q) ≡ freed (row_at rows q)
freed-take_same_if rows r w l e q (inl p) =
    ap (λ k. freed (row_at (slice_set rows r (Claimed w)) k)) p ∙ (ap freed (row_at-put_same rows r (Claimed w) l) ∙ (sym (ap freed e) ∙ ap (λ k. freed (row_at rows k)) (sym p)))
freed-take_same_if rows r w l e q (inr n) = ap freed (row_at-put_other rows r q (Claimed w) n)

same_grows : (rows after : List Row) → Same rows after → Grows rows after
same_grows rows after s = λ q h.
    let i : is_settled (row_at after q) ≡ true = sym (settled_freed (row_at after q)) ∙ (ap is_settled (s q) ∙ (settled_freed (row_at rows q) ∙ h)) in
    sym (freed_settled (row_at after q) i) ∙ (s q ∙ freed_settled (row_at rows q) h)

same_is_settled : (rows after : List Row) → Same rows after → (q : ℕ) → is_settled (row_at after q) ≡ is_settled (row_at rows q)
same_is_settled rows after s q = sym (settled_freed (row_at after q)) ∙ (ap is_settled (s q) ∙ settled_freed (row_at rows q))

same_is_accepted : (rows after : List Row) → Same rows after → (q : ℕ) → is_accepted (row_at after q) ≡ is_accepted (row_at rows q)
same_is_accepted rows after s q = sym (accepted_freed (row_at after q)) ∙ (ap is_accepted (s q) ∙ accepted_freed (row_at rows q))

take_claims_if : (is_outcome : OutcomeRelation) (c : List Article) (rows : List Row) → Good is_outcome c rows → NoneIsBlocked c rows → (r w : ℕ) → Grows rows (slice_set rows r (Claimed w)) → IsReady c rows r → (q v : ℕ) (a : Article) → slice_get c q ≡ Some a → (q ≡ r) ⊎ (q ≡ r → ⊥) → row_at (slice_set rows r (Claimed w)) q ≡ Claimed v → all_accepted (slice_set rows r (Claimed w)) (direct_rows c a) ≡ true
take_claims_if is_outcome c rows g n r w grew ready q v a k (inl p) h =
    let e : a ≡ ready.article = same_article c q a ready.article k (ap (λ j. slice_get c j) p ∙ ready.is_at) in
    let all : all_accepted rows (direct_rows c a) ≡ true = none_bad rows (direct_rows c a) (ap (λ b. first_unaccepted rows (direct_rows c b)) e ∙ n r ready.article ready.is_at ready.waits ready.settled) in
    grows_accepted rows (slice_set rows r (Claimed w)) grew (direct_rows c a) all
take_claims_if is_outcome c rows g n r w grew ready q v a k (inr m) h =
    grows_accepted rows (slice_set rows r (Claimed w)) grew (direct_rows c a) (g.claims q v a k (sym (row_at-put_other rows r q (Claimed w) m) ∙ h))

first_unaccepted-take_none_if : (c : List Article) (rows : List Row) → NoneIsBlocked c rows → (r w : ℕ) → r < length rows → Same rows (slice_set rows r (Claimed w)) → (q : ℕ) (a : Article) → slice_get c q ≡ Some a → (q ≡ r) ⊎ (q ≡ r → ⊥) → row_at (slice_set rows r (Claimed w)) q ≡ Waiting → all_settled (slice_set rows r (Claimed w)) (direct_rows c a) ≡ true → first_unaccepted (slice_set rows r (Claimed w)) (direct_rows c a) ≡ None
first_unaccepted-take_none_if c rows n r w l s q a k (inl p) h t =
    let z : Claimed w ≡ Waiting = sym (row_at-put_same rows r (Claimed w) l) ∙ (ap (λ j. row_at (slice_set rows r (Claimed w)) j) (sym p) ∙ h) in absurd cc
first_unaccepted-take_none_if c rows n r w l s q a k (inr m) h t =
    first_unaccepted-same_bad rows (slice_set rows r (Claimed w)) s (direct_rows c a) ∙ n q a k (sym (row_at-put_other rows r q (Claimed w) m) ∙ h) (sym (same_settled rows (slice_set rows r (Claimed w)) s (direct_rows c a)) ∙ t)

same_verdict : (is_outcome : OutcomeRelation) (c : List Article) (rows after : List Row) → Good is_outcome c rows → Same rows after → (q : ℕ) → is_settled (row_at after q) ≡ true → HasVerdict is_outcome c q (row_at after q)
same_verdict is_outcome c rows after g s q h =
    let i : is_settled (row_at rows q) ≡ true = sym (same_is_settled rows after s q) ∙ h in
    subst (λ y. HasVerdict is_outcome c q y) (sym (same_grows rows after s q i)) (g.settled q i)

same_accepts : (is_outcome : OutcomeRelation) (c : List Article) (rows after : List Row) → Good is_outcome c rows → Same rows after → (q : ℕ) (a : Article) → slice_get c q ≡ Some a → is_accepted (row_at after q) ≡ true → all_accepted after (direct_rows c a) ≡ true
same_accepts is_outcome c rows after g s q a k h =
    grows_accepted rows after (same_grows rows after s) (direct_rows c a) (g.accepts q a k (sym (same_is_accepted rows after s q) ∙ h))

-- freed rows
first_unaccepted-freed_claims_none : (c : List Article) (is_outcome : OutcomeRelation) (rows : List Row) → Good is_outcome c rows → NoneIsBlocked c rows → (q : ℕ) (a : Article) → slice_get c q ≡ Some a → all_settled rows (direct_rows c a) ≡ true → (row_at rows q ≡ Waiting) ⊎ ((w : ℕ) × (row_at rows q ≡ Claimed w)) → first_unaccepted rows (direct_rows c a) ≡ None
first_unaccepted-freed_claims_none c is_outcome rows g n q a k t (inl e) = n q a k e t
first_unaccepted-freed_claims_none c is_outcome rows g n q a k t (inr p) = first_unaccepted-accepted_none rows (direct_rows c a) (g.claims q p.0 a k p.1)

freed_same : (rows : List Row) → Same rows (map freed rows)
freed_same rows = λ q. ap freed (at_map freed refl rows q) ∙ freed-twice (row_at rows q)

-- each turn keeps it
pub step_good : (is_outcome : OutcomeRelation) → AnswersName is_outcome → (c : List Article) → AreArticles c → (rows : List Row) (t : Turn) (after : List Row) → Step is_outcome c rows t after → Good is_outcome c rows → NoneIsBlocked c rows → Good is_outcome c after × NoneIsBlocked c after × Grows rows after
step_good is_outcome names c corpus rows t after (take r w rows1 ready) g n =
    let l : r < length rows = subst (λ k. r < k) (sym g.whole) (slice_get_within c r ready.article ready.is_at) in
    let s : Same rows (slice_set rows r (Claimed w)) = λ q. freed-take_same_if rows r w l ready.waits q (cases_eq q r) in
    let grew = same_grows rows (slice_set rows r (Claimed w)) s in (
      record {
        whole = length-set rows r (Claimed w) ∙ g.whole;
        settled = same_verdict is_outcome c rows (slice_set rows r (Claimed w)) g s;
        unsettled = λ q a k h. g.unsettled q a k (sym (same_is_settled rows (slice_set rows r (Claimed w)) s q) ∙ h);
        claims = λ q v a k h. take_claims_if is_outcome c rows g n r w grew ready q v a k (cases_eq q r) h;
        accepts = same_accepts is_outcome c rows (slice_set rows r (Claimed w)) g s;
        in_order = subst AreInOrder (sym (library_same rows r (Claimed w) (ap is_accepted ready.waits) refl)) g.in_order;
      },
      (λ q a k h t. first_unaccepted-take_none_if c rows n r w l s q a k (cases_eq q r) h t),
      grew,
    )
step_good is_outcome names c corpus rows t after (publish r w a x o rows1 after1 k h tx is rest) g n =
    let u : is_settled (row_at rows r) ≡ false = ap is_settled h in
    let next = (good_checked is_outcome names c corpus rows g r a k u (g.claims r w a k h) x o tx is).1 in
    let all = blocks_good is_outcome c (slice_set rows r (row_of o)) after rest next in
    let grew = grows_put rows r (row_of o) u in
    (all.0, all.1, λ q i. all.2 q (ap is_settled (grew q i) ∙ i) ∙ grew q i)
step_good is_outcome names c corpus rows t after (reclaim r w rows1 h) g n =
    let s = freed_same rows in
    let grew = same_grows rows (map freed rows) s in (
      record {
        whole = length-map rows freed ∙ g.whole;
        settled = same_verdict is_outcome c rows (map freed rows) g s;
        unsettled = λ q a k i. g.unsettled q a k (sym (same_is_settled rows (map freed rows) s q) ∙ i);
        claims = λ q v a k i. absurd (freed_claimed (row_at rows q) v (sym (at_map freed refl rows q) ∙ i));
        accepts = same_accepts is_outcome c rows (map freed rows) g s;
        in_order = subst AreInOrder (sym (library_freed rows)) g.in_order;
      },
      (λ q a k i t. first_unaccepted-same_bad rows (map freed rows) s (direct_rows c a) ∙ first_unaccepted-freed_claims_none c is_outcome rows g n q a k (sym (same_settled rows (map freed rows) s (direct_rows c a)) ∙ t) (freed_waiting (row_at rows q) (sym (at_map freed refl rows q) ∙ i))),
      grew,
    )

pub start_good : (is_outcome : OutcomeRelation) (c : List Article) → Good is_outcome c (map start_row c)
start_good is_outcome c = record {
  whole = length-map c start_row;
  settled = λ q h. let p = from_start c q h in let e = at_start c q p.0 p.1 in unchecked q p.0 (row_at (map start_row c) q) p.1 (sym e) h;
  unsettled = λ q a k h. start_waits a.text (is_cyclic a) (sym (ap is_settled (at_start c q a k)) ∙ h);
  claims = λ q w a k h. absurd (start_claimed a.text (is_cyclic a) w (sym (at_start c q a k) ∙ h));
  accepts = λ q a k h. absurd (start_not_accepted a.text (is_cyclic a) (sym (ap is_accepted (at_start c q a k)) ∙ h));
  in_order = subst AreInOrder (sym (library_start c)) built_in_order;
}

-- after any turns
pub replays_good : (is_outcome : OutcomeRelation) → AnswersName is_outcome → (c : List Article) → AreArticles c → (ts : List Turn) (rows : List Row) → Replays is_outcome c ts rows → Good is_outcome c rows × NoneIsBlocked c rows
replays_good is_outcome names c corpus ts rows (start rows1 b) = let all = blocks_good is_outcome c (map start_row c) rows b (start_good is_outcome c) in (all.0, all.1)
replays_good is_outcome names c corpus ts rows (turn ts1 t before after1 p s) =
    let old = replays_good is_outcome names c corpus ts1 before p in
    let all = step_good is_outcome names c corpus before t rows s old.0 old.1 in (all.0, all.1)
