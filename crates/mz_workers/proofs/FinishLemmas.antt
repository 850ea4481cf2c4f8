-- Each step of the work leaves less to do.
use Rattle.std.proofs.Common.{◌≡◌, ◌<◌, ◌≤◌, ◌+◌, ℕ, true, List, [], ◌∷◌, map, length, refl, ap, sym, ◌∙◌, subst, arith, length-set}
use Rattle.std.specs.Prelude.{slice_set}
use Rattle.std.specs.List.{sum_by}
use Rattle.std.proofs.lemmas.Bool.{cases_lt}
use Rattle.std.proofs.lemmas.Option.{slice_get_within}
use Rattle.std.proofs.lemmas.List.Sums.{sum_by-cons}
use Rattle.mz_core.specs.declared.outcome.Outcome.{Outcome}
use Rattle.mz_core.specs.declared.outcome.Outcome.TheVariants as outcome
use Rattle.mz_corpus.specs.Article.{Article}
use Rattle.mz_turns.specs.Row.{Row, Waiting, Claimed, Accepted, Rejected, Blocked, Cyclic, Missing, is_claimed, freed, row_of, row_at, claim_weight, wait_weight}
use Rattle.mz_turns.specs.Dependencies.{place_of}
use Rattle.mz_turns.specs.Machine.{Blocks, end, block}
use Rattle.mz_rows.proofs.ReadyLemmas.{ready_is, sum-weight_put}
use Rattle.mz_desk.specs.Job.{Job, Done}
use Rattle.mz_desk.specs.State.{State}
use Rattle.mz_desk.specs.Desk.{Takes, Publishes, Reclaims}
use Rattle.mz_desk.proofs.DeskLemmas.{some_claim, freed_count}
use Rattle.mz_desk.proofs.AnswerLemmas.{claimed_within}
use Rattle.mz_workers.specs.Work.{work_left}

blocks_left : (c : List Article) (rows after : List Row) → length rows ≡ length c → Blocks c rows after → (sum_by wait_weight after ≤ sum_by wait_weight rows) × (sum_by claim_weight after ≡ sum_by claim_weight rows)
blocks_left c rows after whole (end rows1 none) = (omega arith, refl)
blocks_left c rows after whole (block r n rows1 after1 x rest) =
    let l : r < length rows = subst (λ k. r < k) (sym whole) (slice_get_within c r x.article x.is_at) in
    let waits = sum-weight_put wait_weight rows r (Blocked n) Waiting l x.waits in
    let claims = sum-weight_put claim_weight rows r (Blocked n) Waiting l x.waits in
    let later = blocks_left c (slice_set rows r (Blocked n)) after (length-set rows r (Blocked n) ∙ whole) rest in
    (omega (arith, waits, later.0), omega (arith, claims, later.1))

outcome_waits : (o : Outcome) → wait_weight (row_of o) ≡ 0
outcome_waits (outcome.Accepted e) = refl
outcome_waits (outcome.Rejected fs) = refl

outcome_claims : (o : Outcome) → claim_weight (row_of o) ≡ 0
outcome_claims (outcome.Accepted e) = refl
outcome_claims (outcome.Rejected fs) = refl

taken_left : (old mid : State) (w : ℕ) (j : Job) → length old.rows ≡ length old.corpus.articles → Takes old w mid j → work_left mid.rows ≡ work_left old.rows + 1
taken_left old mid w j whole x =
    let c = old.corpus.articles in
    let ready = ready_is c old.rows j.row x.ready in
    let l : j.row < length old.rows = subst (λ k. j.row < k) (sym whole) (slice_get_within c j.row ready.article ready.is_at) in
    let waits : sum_by wait_weight (slice_set old.rows j.row (Claimed w)) + 1 ≡ sum_by wait_weight old.rows + 0 = sum-weight_put wait_weight old.rows j.row (Claimed w) Waiting l ready.waits in
    let claims : sum_by claim_weight (slice_set old.rows j.row (Claimed w)) + 0 ≡ sum_by claim_weight old.rows + 1 = sum-weight_put claim_weight old.rows j.row (Claimed w) Waiting l ready.waits in
    ap work_left x.rows ∙ omega (arith, waits, claims)

published_left : (mid new : State) (d : Done) → length mid.rows ≡ length mid.corpus.articles → Publishes mid new d → work_left new.rows + 2 ≤ work_left mid.rows
published_left mid new d whole x =
    let c = mid.corpus.articles in
    let k = x.stands.claim in
    let p = place_of c d.job.name in
    let l : p < length mid.rows = subst (λ n. p < n) (sym whole) (slice_get_within c p k.article k.is_at) in
    let waits : sum_by wait_weight (slice_set mid.rows p (row_of d.outcome)) + 0 ≡ sum_by wait_weight mid.rows + wait_weight (row_of d.outcome) = sum-weight_put wait_weight mid.rows p (row_of d.outcome) (Claimed d.job.worker) l k.claimed in
    let claims : sum_by claim_weight (slice_set mid.rows p (row_of d.outcome)) + 1 ≡ sum_by claim_weight mid.rows + claim_weight (row_of d.outcome) = sum-weight_put claim_weight mid.rows p (row_of d.outcome) (Claimed d.job.worker) l k.claimed in
    let later = blocks_left c (slice_set mid.rows p (row_of d.outcome)) new.rows (length-set mid.rows p (row_of d.outcome) ∙ whole) x.rows in
    omega (arith, waits, claims, outcome_waits d.outcome, outcome_claims d.outcome, later.0, later.1)

-- a row is checked
pub checked_left : (old mid new : State) (w : ℕ) (j : Job) → length old.rows ≡ length old.corpus.articles → Takes old w mid j → (d : Done) × (d.job ≡ j) × Publishes mid new d → work_left new.rows < work_left old.rows
checked_left old mid new w j whole x (d, own, y) =
    let taken = taken_left old mid w j whole x in
    let whole2 : length mid.rows ≡ length mid.corpus.articles = ap length x.rows ∙ (length-set old.rows j.row (Claimed w) ∙ (whole ∙ ap (λ k. length k.articles) (sym x.corpus))) in
    let published = published_left mid new d whole2 y in
    omega (arith, taken, published)

-- claims are taken away
freed_waits : (x : Row) → wait_weight (freed x) ≡ wait_weight x + claim_weight x
freed_waits Waiting = refl
freed_waits (Claimed w) = refl
freed_waits (Accepted e) = refl
freed_waits (Rejected fs) = refl
freed_waits (Blocked n) = refl
freed_waits Cyclic = refl
freed_waits Missing = refl

freed_sum : (rows : List Row) → sum_by wait_weight (map freed rows) ≡ sum_by wait_weight rows + sum_by claim_weight rows
freed_sum [] = refl
freed_sum (x ∷ rows) = omega (arith, sum_by-cons wait_weight (freed x) (map freed rows), sum_by-cons wait_weight x rows, sum_by-cons claim_weight x rows, freed_waits x, freed_sum rows)

reclaimed_left : (old new : State) (k : ℕ) → length old.rows ≡ length old.corpus.articles → k < length old.rows → is_claimed (row_at old.rows k) ≡ true → Reclaims old new → work_left new.rows < work_left old.rows
reclaimed_left old new k whole l h x =
    let rows : new.rows ≡ map freed old.rows = (x.some k (subst (λ n. k < n) whole l) h).0 in
    let waits = ap (sum_by wait_weight) rows ∙ freed_sum old.rows in
    let claims = ap (sum_by claim_weight) rows ∙ freed_count old.rows in
    let one = some_claim old.rows k l h in
    omega (arith, waits, claims, one)

pub freed_left : (old mid new : State) (k : ℕ) → length old.rows ≡ length old.corpus.articles → mid ≡ old → is_claimed (row_at old.rows k) ≡ true → Reclaims mid new → work_left new.rows < work_left old.rows
freed_left old mid new k whole same h x =
    reclaimed_left old new k whole (claimed_within old.rows k h (cases_lt k (length old.rows))) h (subst (λ s. Reclaims s new) same x)
