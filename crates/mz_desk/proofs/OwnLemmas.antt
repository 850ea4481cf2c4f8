-- A job that a desk gave has its article's own input, on each desk over the corpus.
use Rattle.std.proofs.Common.{◌≡◌, ℕ, true, List, ◌∷◌, refl, ap, sym, ◌∙◌, subst}
use Rattle.std.specs.Prelude.{Option, Some, None, slice_get, MatchOption}
use Rattle.mz_core.specs.declared.outcome.Export.{Export}
use Rattle.mz_axioms.specs.Checker.{OutcomeRelation, HasOneOutcome, AnswersName}
use Rattle.mz_corpus.specs.Article.{Article}
use Rattle.mz_corpus.specs.Corpus.{Corpus, IsCorpus}
use Rattle.mz_turns.specs.Row.{Row, Accepted}
use Rattle.mz_turns.specs.Dependencies.{place_of, direct_rows, all_rows}
use Rattle.mz_turns.specs.Library.{IsLibrary, environment}
use Rattle.mz_turns.specs.Verdicts.{AllAccepted, none, more}
use Rattle.mz_turns.specs.Machine.{all_accepted, first_unaccepted, Replays}
use Rattle.mz_turns.specs.declared.turn.Turn.{Turn}
use Rattle.mz_turns.proofs.RowLemmas.{exports_of, same_article, same_export}
use Rattle.mz_turns.proofs.NameLemmas.{articles_of, contained, same_place}
use Rattle.mz_turns.proofs.ExportLemmas.{library_once}
use Rattle.mz_turns.proofs.VerdictLemmas.{verdict_once}
use Rattle.mz_turns.proofs.GoodLemmas.{reach_accepted, environment_is}
use Rattle.mz_turns.proofs.MachineLemmas.{none_bad, accepted_holds, replays_good}
use Rattle.mz_rows.specs.Table.{is_ready}
use Rattle.mz_rows.proofs.ReadyLemmas.{ready_is}
use Rattle.mz_desk.specs.Job.{Job}
use Rattle.mz_desk.specs.Desk.{IsJobOf, IsClaimedFor, Stands, Strays}
use Rattle.mz_desk.specs.Own.{HasOwnInput}
use Rattle.mz_desk.specs.declared.job.Why.{Why}

-- the job of a ready row has it
pub own_given : (is_outcome : OutcomeRelation) → AnswersName is_outcome → (k : Corpus) → IsCorpus k → (ts : List Turn) (rows : List Row) → Replays is_outcome k.articles ts rows → (r w : ℕ) (j : Job) → is_ready k.articles rows r ≡ true → IsJobOf k.articles rows r w j → HasOwnInput is_outcome k.articles j
own_given is_outcome names k corpus ts rows p r w j h x =
    let c = k.articles in
    let all = articles_of k corpus in
    let g = replays_good is_outcome names c all ts rows p in
    let ready = ready_is c rows r h in
    let a = x.article in
    let same : ready.article ≡ a = same_article c r ready.article a ready.is_at x.is_at in
    let direct : all_accepted rows (direct_rows c a) ≡ true =
    none_bad rows (direct_rows c a) (ap (λ b. first_unaccepted rows (direct_rows c b)) (sym same) ∙ g.1 r ready.article ready.is_at ready.waits ready.settled) in
    let place : place_of c j.name ≡ r = same_place c all r a j.name x.is_at x.named in
    record {
      article = a;
      is_at = ap (slice_get c) place ∙ x.is_at;
      text = x.input.text;
      vocabularies = x.input.vocabularies;
      verdicts = exports_of rows (all_rows c a);
      accepted = accepted_holds is_outcome c rows g.0 (all_rows c a) (reach_accepted is_outcome c all rows g.0 r a x.is_at direct);
      exports = subst (λ es. IsLibrary (exports_of rows (all_rows c a)) es) x.input.exports (environment_is is_outcome names c all rows g.0 a (contained c r a x.is_at));
    }

-- rows have one list of accepted exports at most
all_once : (is_outcome : OutcomeRelation) (c : List Article) → HasOneOutcome is_outcome → (ds : List ℕ) (es fs : List Export) → AllAccepted is_outcome c ds es → AllAccepted is_outcome c ds fs → es ≡ fs
all_once is_outcome c once ds es fs none none = refl
all_once is_outcome c once ds es fs (more d ds1 e es1 q qs) (more d2 ds2 f fs1 q2 qs2) =
    λ i. same_export e f (verdict_once is_outcome c once d (Accepted e) (Accepted f) q q2) i ∷ all_once is_outcome c once ds1 es1 fs1 qs qs2 i

-- such a job stands where its row is claimed by its worker
pub own_stands : (is_outcome : OutcomeRelation) → HasOneOutcome is_outcome → AnswersName is_outcome → (k : Corpus) → IsCorpus k → (ts : List Turn) (rows : List Row) → Replays is_outcome k.articles ts rows → (j : Job) → HasOwnInput is_outcome k.articles j → IsClaimedFor k.articles rows j → Stands k.articles rows j
own_stands is_outcome once names k corpus ts rows p j own claim =
    let c = k.articles in
    let all = articles_of k corpus in
    let g = replays_good is_outcome names c all ts rows p in
    let r = place_of c j.name in
    let a = claim.article in
    let same : own.article ≡ a = same_article c r own.article a own.is_at claim.is_at in
    let accepted = accepted_holds is_outcome c rows g.0 (all_rows c a) (reach_accepted is_outcome c all rows g.0 r a claim.is_at (g.0.claims r j.worker a claim.is_at claim.claimed)) in
    let verdicts : exports_of rows (all_rows c a) ≡ own.verdicts =
    all_once is_outcome c once (all_rows c a) (exports_of rows (all_rows c a)) own.verdicts accepted (subst (λ b. AllAccepted is_outcome c (all_rows c b) own.verdicts) same own.accepted) in
    record {
      claim = claim;
      input = record {
        text = ap (λ b. b.text) (sym same) ∙ own.text;
        vocabularies = ap (λ b. b.vocabularies) (sym same) ∙ own.vocabularies;
        exports = library_once (exports_of rows (all_rows c a)) own.verdicts (environment rows a) j.exports verdicts (environment_is is_outcome names c all rows g.0 a (contained c r a claim.is_at)) own.exports;
      };
    }

-- so it stands, where no reason is found in its claim
pub own_unless : (is_outcome : OutcomeRelation) → HasOneOutcome is_outcome → AnswersName is_outcome → (k : Corpus) → IsCorpus k → (ts : List Turn) (rows : List Row) → Replays is_outcome k.articles ts rows → (i j : Job) → i ≡ j → HasOwnInput is_outcome k.articles j → (o : Option Why) → MatchOption o (IsClaimedFor k.articles rows i) (λ w. Strays k.articles rows i w) → MatchOption o (Stands k.articles rows j) (λ w. Strays k.articles rows j w)
own_unless is_outcome once names k corpus ts rows p i j same own None h =
    own_stands is_outcome once names k corpus ts rows p j own (subst (IsClaimedFor k.articles rows) same h)
own_unless is_outcome once names k corpus ts rows p i j same own (Some w) h = subst (λ x. Strays k.articles rows x w) same h
