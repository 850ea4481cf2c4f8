-- Where no row is ready and none is claimed, all rows are settled.
use Rattle.std.proofs.Common.{◌≡◌, ◌<◌, ◌≤◌, ℕ, zero, suc, Bool, true, false, List, [], ◌∷◌, map, length, refl, sym, ap, ◌∙◌, arith, subst}
use Rattle.std.specs.Prelude.{Some, slice_get, Contains}
use Rattle.std.proofs.lemmas.Option.{slice_get_within}
use Rattle.mz_base.specs.declared.name.Name.{Name}
use Rattle.mz_axioms.specs.Checker.{OutcomeRelation}
use Rattle.mz_axioms.proofs.AddedLemmas.{here, there}
use Rattle.mz_corpus.specs.Article.{Article}
use Rattle.mz_turns.specs.Row.{Row, Waiting, Claimed, Accepted, Rejected, Blocked, Cyclic, Missing, is_settled, is_waiting, is_claimed, row_at}
use Rattle.mz_turns.specs.Dependencies.{place_of, direct_rows, start_row}
use Rattle.mz_turns.specs.Machine.{all_settled, IsReady}
use Rattle.mz_turns.proofs.RowLemmas.{from_both}
use Rattle.mz_turns.proofs.NameLemmas.{AreArticles, contained, found}
use Rattle.mz_turns.proofs.GoodLemmas.{Good}
use Rattle.mz_rows.specs.Table.{is_ready, ready_by}
use Rattle.mz_rows.proofs.ReachLemmas.{AreReached, reaches_fewer}

-- each row that isn't settled waits, as at the start
abbrev pub Wait : List Article → List Row → Type 0
Wait c rows = (r : ℕ) (a : Article) → slice_get c r ≡ Some a → is_settled (row_at rows r) ≡ false → (row_at rows r ≡ Waiting) × (start_row a ≡ Waiting)

settled_or : (x : Row) (b : Bool) → is_settled x ≡ b → (is_settled x ≡ false → is_settled x ≡ true) → is_settled x ≡ true
settled_or x true e k = e
settled_or x false e k = k e

pub names_settled : (c : List Article) (rows : List Row) (ns : List Name) → ((m : Name) → Contains ns m → is_settled (row_at rows (place_of c m)) ≡ true) → all_settled rows (map (place_of c) ns) ≡ true
names_settled c rows [] h = refl
names_settled c rows (m ∷ ns) h =
    from_both (is_settled (row_at rows (place_of c m))) (all_settled rows (map (place_of c) ns)) (h m (here m ns)) (names_settled c rows ns (λ k i. h k (there m k ns i)))

abbrev NoneIsReady : List Article → List Row → Type 0
NoneIsReady c rows = (r : ℕ) → IsReady c rows r → ⊥

settled_by : (c : List Article) → AreArticles c → AreReached c → (rows : List Row) → Wait c rows → NoneIsReady c rows → (n : ℕ) → ((r : ℕ) (a : Article) → slice_get c r ≡ Some a → length a.reach < n → is_settled (row_at rows r) ≡ true) → (r : ℕ) (a : Article) → slice_get c r ≡ Some a → length a.reach ≤ n → is_settled (row_at rows r) ≡ true
settled_by c articles reached rows wait none n before r a at le =
    settled_or (row_at rows r) (is_settled (row_at rows r)) refl (λ un.
    let w = wait r a at un in
    absurd (none r (record {
      article = a;
      is_at = at;
      waits = w.0;
      settled = names_settled c rows a.direct (λ m has.
          let held = contained c r a at in
          let f = found c m (articles.known a m held has) in
          settled_or (row_at rows (place_of c m)) (is_settled (row_at rows (place_of c m))) refl (λ u.
          let v = wait (place_of c m) f.0 f.1 u in
          let lt = reaches_fewer c reached a f.0 held (contained c (place_of c m) f.0 f.1) (subst (λ x. Contains a.direct x) (sym f.2) has) v.1 in
          before (place_of c m) f.0 f.1 (omega (arith, lt, le))));
    })))

settled_below : (c : List Article) → AreArticles c → AreReached c → (rows : List Row) → Wait c rows → NoneIsReady c rows → (n : ℕ) (r : ℕ) (a : Article) → slice_get c r ≡ Some a → length a.reach < n → is_settled (row_at rows r) ≡ true
settled_below c articles reached rows wait none zero r a at lt = absurd (omega (arith, lt))
settled_below c articles reached rows wait none (suc n) r a at lt =
    settled_by c articles reached rows wait none n (λ q b h l. settled_below c articles reached rows wait none n q b h l) r a at (omega (arith, lt))

-- where no row is ready, all are settled
pub all_settled_rows : (c : List Article) → AreArticles c → AreReached c → (rows : List Row) → Wait c rows → NoneIsReady c rows → (r : ℕ) (a : Article) → slice_get c r ≡ Some a → is_settled (row_at rows r) ≡ true
all_settled_rows c articles reached rows wait none r a at = settled_below c articles reached rows wait none (suc (length a.reach)) r a at (omega arith)

-- a row that is neither settled nor claimed waits
neither : (x : Row) → is_settled x ≡ false → is_claimed x ≡ false → x ≡ Waiting
neither Waiting s h = refl
neither (Claimed w) s h = absurd cc
neither (Accepted e) s h = absurd cc
neither (Rejected fs) s h = absurd cc
neither (Blocked n) s h = absurd cc
neither Cyclic s h = absurd cc
neither Missing s h = absurd cc

pub unclaimed_wait : (is_outcome : OutcomeRelation) (c : List Article) (rows : List Row) → Good is_outcome c rows → ((k : ℕ) → is_claimed (row_at rows k) ≡ false) → Wait c rows
unclaimed_wait is_outcome c rows g free = λ r a at un. (neither (row_at rows r) un (free r), g.unsettled r a at un)

waiting_test : (x : Row) → x ≡ Waiting → is_waiting x ≡ true
waiting_test x e = ap is_waiting e

ready_test : (c : List Article) (rows : List Row) (r : ℕ) → IsReady c rows r → is_ready c rows r ≡ true
ready_test c rows r h =
    ap (λ o. ready_by c rows o (row_at rows r)) h.is_at
    ∙ from_both (is_waiting (row_at rows r)) (all_settled rows (direct_rows c h.article)) (waiting_test (row_at rows r) h.waits) h.settled

not_both : (b : Bool) → b ≡ true → b ≡ false → ⊥
not_both b p q = cc

pub none_ready : (c : List Article) (rows : List Row) → ((k : ℕ) → k < length c → is_ready c rows k ≡ false) → (r : ℕ) → IsReady c rows r → ⊥
none_ready c rows none r h = not_both (is_ready c rows r) (ready_test c rows r h) (none r (slice_get_within c r h.article h.is_at))
