-- There is one list of rows after some turns.
use Rattle.std.proofs.Common.{◌≡◌, ℕ, zero, suc, List, [], ◌∷◌, ◌++◌, map, refl, ap, sym, ◌∙◌, subst, true, inl, inr}
use Rattle.std.specs.Prelude.{◌⊎◌, Some, slice_get, slice_set}
use Rattle.std.proofs.lemmas.Option.{same_Some, none-some}
use Rattle.std.proofs.lemmas.Bool.{cases_eq}
use Rattle.mz_base.specs.declared.name.Name.{Name}
use Rattle.mz_core.specs.declared.outcome.Outcome.{Outcome}
use Rattle.mz_axioms.specs.Checker.{OutcomeRelation, HasOneOutcome}
use Rattle.mz_corpus.specs.Article.{Article}
use Rattle.mz_turns.specs.Row.{Row, Blocked, is_settled, is_accepted, row_of, row_at}
use Rattle.mz_turns.specs.Dependencies.{direct_rows, start_row}
use Rattle.mz_turns.specs.Library.{environment}
use Rattle.mz_turns.specs.Machine.{unless_accepted, all_settled, first_unaccepted, IsBlockedBy, NoneIsBlocked, Blocks, end, block, Step, take, publish, reclaim, Replays, start, turn}
use Rattle.mz_turns.specs.declared.turn.Turn.{Turn}
use Rattle.mz_turns.proofs.RowLemmas.{same_article, both, from_both, row_at-put_other}
use Rattle.mz_turns.proofs.MachineLemmas.{Grows, grows_put}
use Rattle.mz_turns.proofs.VerdictLemmas.{same_outcome}

-- what is said of dependencies that are settled stays
grows_settled : (rows after : List Row) → Grows rows after → (ds : List ℕ) → all_settled rows ds ≡ true → all_settled after ds ≡ true
grows_settled rows after g [] h = refl
grows_settled rows after g (d ∷ ds) h =
    let p = both (is_settled (row_at rows d)) (all_settled rows ds) h in
    from_both (is_settled (row_at after d)) (all_settled after ds) (ap is_settled (g d p.0) ∙ p.0) (grows_settled rows after g ds p.1)

grows_first : (rows after : List Row) → Grows rows after → (ds : List ℕ) → all_settled rows ds ≡ true → first_unaccepted after ds ≡ first_unaccepted rows ds
grows_first rows after g [] h = refl
grows_first rows after g (d ∷ ds) h =
    let p = both (is_settled (row_at rows d)) (all_settled rows ds) h in
    let e : row_at after d ≡ row_at rows d = g d p.0 in
    λ i. unless_accepted (is_accepted (e i)) d (grows_first rows after g ds p.1 i)

-- a row is blocked by one article
one_blocker : (c : List Article) (rows : List Row) (r : ℕ) (m n : Name) → IsBlockedBy c rows r m → IsBlockedBy c rows r n → m ≡ n
one_blocker c rows r m n x y =
    let a : x.article ≡ y.article = same_article c r x.article y.article x.is_at y.is_at in
    let d : x.row ≡ y.row = same_Some x.row y.row (sym x.unaccepted ∙ (ap (λ b. first_unaccepted rows (direct_rows c b)) a ∙ y.unaccepted)) in
    let o : x.other ≡ y.other = same_article c x.row x.other y.other x.other_at (ap (slice_get c) d ∙ y.other_at) in
    sym x.named ∙ (ap (λ b. b.name) o ∙ y.named)

not_none : (c : List Article) (rows : List Row) (r : ℕ) (n : Name) → IsBlockedBy c rows r n → NoneIsBlocked c rows → ⊥
not_none c rows r n x none = none-some x.row (sym (none r x.article x.is_at x.waits x.settled) ∙ x.unaccepted)

-- it stays so where another row is settled as blocked
still_blocked : (c : List Article) (rows : List Row) (q r : ℕ) (m n : Name) → (r ≡ q → ⊥) → IsBlockedBy c rows q m → IsBlockedBy c rows r n → IsBlockedBy c (slice_set rows q (Blocked m)) r n
still_blocked c rows q r m n differ x y =
    let grew : Grows rows (slice_set rows q (Blocked m)) = grows_put rows q (Blocked m) (ap is_settled x.waits) in
    record {
      article = y.article;
      is_at = y.is_at;
      waits = row_at-put_other rows q r (Blocked m) differ ∙ y.waits;
      settled = grows_settled rows (slice_set rows q (Blocked m)) grew (direct_rows c y.article) y.settled;
      row = y.row;
      unaccepted = grows_first rows (slice_set rows q (Blocked m)) grew (direct_rows c y.article) y.settled ∙ y.unaccepted;
      other = y.other;
      other_at = y.other_at;
      named = y.named;
    }

-- two rows are put in either order
slice_set-put_either : (rows : List Row) (q r : ℕ) (x y : Row) → (r ≡ q → ⊥) → slice_set (slice_set rows q x) r y ≡ slice_set (slice_set rows r y) q x
slice_set-put_either [] q r x y n = refl
slice_set-put_either (z ∷ rows) zero zero x y n = absurd (n refl)
slice_set-put_either (z ∷ rows) zero (suc r) x y n = refl
slice_set-put_either (z ∷ rows) (suc q) zero x y n = refl
slice_set-put_either (z ∷ rows) (suc q) (suc r) x y n = ap (λ xs. z ∷ xs) (slice_set-put_either rows q r x y (λ e. n (ap suc e)))

-- a row that can be settled as blocked may be settled first
first_step_if : (c : List Article) (rows after : List Row) (q r : ℕ) (m n : Name) → IsBlockedBy c rows q m → IsBlockedBy c rows r n → Blocks c (slice_set rows q (Blocked m)) after → ((r ≡ q → ⊥) → Blocks c (slice_set (slice_set rows q (Blocked m)) r (Blocked n)) after) → (r ≡ q) ⊎ (r ≡ q → ⊥) → Blocks c (slice_set rows r (Blocked n)) after
first_step_if c rows after q r m n x y rest later (inl e) =
    let y2 : IsBlockedBy c rows q n = subst (λ k. IsBlockedBy c rows k n) e y in
    let same : m ≡ n = one_blocker c rows q m n x y2 in
    subst (λ k. Blocks c (slice_set rows k (Blocked n)) after) (sym e) (subst (λ k. Blocks c (slice_set rows q (Blocked k)) after) same rest)
first_step_if c rows after q r m n x y rest later (inr differ) =
    let x2 : IsBlockedBy c (slice_set rows r (Blocked n)) q m = still_blocked c rows r q n m (λ e. differ (sym e)) y x in
    block q m (slice_set rows r (Blocked n)) after x2 (subst (λ z. Blocks c z after) (slice_set-put_either rows q r (Blocked m) (Blocked n) differ) (later differ))

first_step : (c : List Article) (rows after : List Row) → Blocks c rows after → (r : ℕ) (n : Name) → IsBlockedBy c rows r n → Blocks c (slice_set rows r (Blocked n)) after
first_step c rows after (end rows1 none) r n y = absurd (not_none c rows r n y none)
first_step c rows after (block q m rows1 after1 x rest) r n y =
    first_step_if c rows after q r m n x y rest (λ differ. first_step c (slice_set rows q (Blocked m)) after rest r n (still_blocked c rows q r m n differ x y)) (cases_eq r q)

-- blocked rows are settled in one way
pub blocks_once : (c : List Article) (rows after other : List Row) → Blocks c rows after → Blocks c rows other → after ≡ other
blocks_once c rows after other (end rows1 none) (end rows2 none2) = refl
blocks_once c rows after other (end rows1 none) (block r n rows2 other1 x rest) = absurd (not_none c rows r n x none)
blocks_once c rows after other (block r n rows1 after1 x rest) d = blocks_once c (slice_set rows r (Blocked n)) after other rest (first_step c rows other d r n x)

-- a turn has one outcome
same_published : (is_outcome : OutcomeRelation) → HasOneOutcome is_outcome → (c : List Article) (rows after other : List Row) (r : ℕ) (a b : Article) (t u : List ℕ) (o p : Outcome) → slice_get c r ≡ Some a → slice_get c r ≡ Some b → a.text ≡ Some t → b.text ≡ Some u → is_outcome a.name a.vocabularies (environment rows a) t o → is_outcome b.name b.vocabularies (environment rows b) u p → Blocks c (slice_set rows r (row_of o)) after → Blocks c (slice_set rows r (row_of p)) other → after ≡ other
same_published is_outcome once c rows after other r a b t u o p h k tx ux is is2 d e =
    let same : a ≡ b = same_article c r a b h k in
    let texts : t ≡ u = same_Some t u (sym tx ∙ (ap (λ x. x.text) same ∙ ux)) in
    let outcomes : o ≡ p = same_outcome is_outcome once a b (environment rows a) (environment rows b) t u o p same (ap (environment rows) same) texts is is2 in
    blocks_once c (slice_set rows r (row_of o)) after other d (subst (λ z. Blocks c (slice_set rows r (row_of z)) other) (sym outcomes) e)

pub step_once : (is_outcome : OutcomeRelation) → HasOneOutcome is_outcome → (c : List Article) (rows : List Row) (t : Turn) (after other : List Row) → Step is_outcome c rows t after → Step is_outcome c rows t other → after ≡ other
step_once is_outcome once c rows t after other (take r w rows1 ready) (take r2 w2 rows2 ready2) = refl
step_once is_outcome once c rows t after other (publish r w a x o rows1 after1 h q tx is d) (publish r2 w2 b y p rows2 after2 k q2 ux is2 e) =
    same_published is_outcome once c rows after other r a b x y o p h k tx ux is is2 d e
step_once is_outcome once c rows t after other (reclaim r w rows1 h) (reclaim r2 w2 rows2 k) = refl

-- lists that end in a turn
ends_empty : (ts : List Turn) (t : Turn) → [] ≡ ts ++ t ∷ [] → ⊥
ends_empty [] t e = cc
ends_empty (s ∷ ts) t e = cc

ends_same : (ts us : List Turn) (t u : Turn) → ts ++ t ∷ [] ≡ us ++ u ∷ [] → (ts ≡ us) × (t ≡ u)
ends_same [] [] t u e = (refl, cc)
ends_same [] (x ∷ us) t u e = absurd (ends_empty us u cc)
ends_same (y ∷ ts) [] t u e = absurd (ends_empty ts t cc)
ends_same (y ∷ ts) (x ∷ us) t u e =
    let heads : y ≡ x = cc in
    let rest = ends_same ts us t u cc in
    (λ i. heads i ∷ rest.0 i, rest.1)

-- the rows after the turns are these
replays_same : (is_outcome : OutcomeRelation) → HasOneOutcome is_outcome → (c : List Article) (ts us : List Turn) (rows others : List Row) → Replays is_outcome c ts rows → Replays is_outcome c us others → ts ≡ us → rows ≡ others
replays_same is_outcome once c ts us rows others (start rows1 d) (start rows2 e) same = blocks_once c (map start_row c) rows others d e
replays_same is_outcome once c ts us rows others (start rows1 d) (turn us1 u before2 after2 q s2) same = absurd (ends_empty us1 u same)
replays_same is_outcome once c ts us rows others (turn ts1 t before after1 p s) (start rows2 e) same = absurd (ends_empty ts1 t (sym same))
replays_same is_outcome once c ts us rows others (turn ts1 t before after1 p s) (turn us1 u before2 after2 q s2) same =
    let parts = ends_same ts1 us1 t u same in
    let rows_before : before ≡ before2 = replays_same is_outcome once c ts1 us1 before before2 p q parts.0 in
    let second : Step is_outcome c before u others = subst (λ z. Step is_outcome c z u others) (sym rows_before) s2 in
    step_once is_outcome once c before t rows others s (subst (λ z. Step is_outcome c before z others) (sym parts.1) second)

pub replays_once : (is_outcome : OutcomeRelation) → HasOneOutcome is_outcome → (c : List Article) (ts : List Turn) (rows others : List Row) → Replays is_outcome c ts rows → Replays is_outcome c ts others → rows ≡ others
replays_once is_outcome once c ts rows others p q = replays_same is_outcome once c ts ts rows others p q refl
