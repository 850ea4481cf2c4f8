-- Stored rows.
use Rattle.std.proofs.Common.{◌≡◌, ◌<◌, ◌≤◌, ◌+◌, ◌++◌, take, drop, ℕ, zero, suc, List, [], ◌∷◌, map, length, refl, ap, sym, ◌∙◌, arith, true, false}
use Rattle.std.specs.Prelude.{Some, slice_get, slice_set}
use Rattle.std.proofs.lemmas.Option.{same_Some, none-some}
use Rattle.std.proofs.lemmas.List.{take_all, drop_all, append-nil}
use Rattle.mz_base.specs.declared.name.Name.{Name}
use Rattle.mz_core.specs.declared.fault.Fault.{Fault}
use Rattle.mz_core.specs.declared.verdict.Entry.{Entry}
use Rattle.mz_corpus.specs.Article.{Article}
use Rattle.mz_turns.specs.Row as row
use Rattle.mz_turns.specs.Row.{Row, is_settled, is_waiting, is_claimed, is_accepted, freed, row_at}
use Rattle.mz_rows.specs.declared.standing.Standing.{Standing}
use Rattle.mz_rows.specs.declared.standing.Standing.TheVariants.{Waiting, Claimed, Accepted, Rejected, Blocked, Cyclic, Missing}
use Rattle.mz_rows.specs.declared.standing.RowState.TheVariants as state
use Rattle.mz_rows.specs.Standing.{row_from, rows_from, IsRowOf, state_of, standing_state, standing_freed, standing_at, faults_at, is_settled_state, is_waiting_state, is_claimed_state, is_accepted_state}
use Rattle.mz_rows.specs.Entries.{entry_of, entries_of}

pub state_of-row_from : (s : Standing) (fs : List Fault) → state_of (row_from s fs) ≡ standing_state s
state_of-row_from Waiting fs = refl
state_of-row_from (Claimed w) fs = refl
state_of-row_from (Accepted e) fs = refl
state_of-row_from Rejected fs = refl
state_of-row_from (Blocked n) fs = refl
state_of-row_from Cyclic fs = refl
state_of-row_from Missing fs = refl

pub is_settled-state_of : (x : Row) → is_settled_state (state_of x) ≡ is_settled x
is_settled-state_of row.Waiting = refl
is_settled-state_of (row.Claimed w) = refl
is_settled-state_of (row.Accepted e) = refl
is_settled-state_of (row.Rejected fs) = refl
is_settled-state_of (row.Blocked n) = refl
is_settled-state_of row.Cyclic = refl
is_settled-state_of row.Missing = refl

pub is_waiting-state_of : (x : Row) → is_waiting_state (state_of x) ≡ is_waiting x
is_waiting-state_of row.Waiting = refl
is_waiting-state_of (row.Claimed w) = refl
is_waiting-state_of (row.Accepted e) = refl
is_waiting-state_of (row.Rejected fs) = refl
is_waiting-state_of (row.Blocked n) = refl
is_waiting-state_of row.Cyclic = refl
is_waiting-state_of row.Missing = refl

pub is_claimed-state_of : (x : Row) → is_claimed_state (state_of x) ≡ is_claimed x
is_claimed-state_of row.Waiting = refl
is_claimed-state_of (row.Claimed w) = refl
is_claimed-state_of (row.Accepted e) = refl
is_claimed-state_of (row.Rejected fs) = refl
is_claimed-state_of (row.Blocked n) = refl
is_claimed-state_of row.Cyclic = refl
is_claimed-state_of row.Missing = refl

pub is_accepted-state_of : (x : Row) → is_accepted_state (state_of x) ≡ is_accepted x
is_accepted-state_of row.Waiting = refl
is_accepted-state_of (row.Claimed w) = refl
is_accepted-state_of (row.Accepted e) = refl
is_accepted-state_of (row.Rejected fs) = refl
is_accepted-state_of (row.Blocked n) = refl
is_accepted-state_of row.Cyclic = refl
is_accepted-state_of row.Missing = refl

pub ruleset state_rules = (is_settled-state_of, is_waiting-state_of, is_claimed-state_of, is_accepted-state_of)

pub length-rows_from : (ss : List Standing) (es : List Entry) → length (rows_from ss es) ≡ length ss
length-rows_from [] es = refl
length-rows_from (s ∷ ss) [] = ap suc (length-rows_from ss [])
length-rows_from (s ∷ ss) (e ∷ es) = ap suc (length-rows_from ss es)

pub row_at-rows_from : (ss : List Standing) (es : List Entry) (r : ℕ) → row_at (rows_from ss es) r ≡ row_from (standing_at ss r) (faults_at es r)
row_at-rows_from [] es r = refl
row_at-rows_from (s ∷ ss) [] zero = refl
row_at-rows_from (s ∷ ss) [] (suc r) = row_at-rows_from ss [] r
row_at-rows_from (s ∷ ss) (e ∷ es) zero = refl
row_at-rows_from (s ∷ ss) (e ∷ es) (suc r) = row_at-rows_from ss es r

pub rows_from-set : (ss : List Standing) (es : List Entry) (r : ℕ) (s : Standing) → rows_from (slice_set ss r s) es ≡ slice_set (rows_from ss es) r (row_from s (faults_at es r))
rows_from-set [] es r s = refl
rows_from-set (t ∷ ss) [] zero s = refl
rows_from-set (t ∷ ss) [] (suc r) s = ap (λ xs. row_from t [] ∷ xs) (rows_from-set ss [] r s)
rows_from-set (t ∷ ss) (e ∷ es) zero s = refl
rows_from-set (t ∷ ss) (e ∷ es) (suc r) s = ap (λ xs. row_from t e.faults ∷ xs) (rows_from-set ss es r s)

pub rows_from-set_both : (ss : List Standing) (es : List Entry) (r : ℕ) (s : Standing) (e : Entry) → r < length es → rows_from (slice_set ss r s) (slice_set es r e) ≡ slice_set (rows_from ss es) r (row_from s e.faults)
rows_from-set_both [] es r s e h = refl
rows_from-set_both (t ∷ ss) [] r s e h = absurd (omega arith)
rows_from-set_both (t ∷ ss) (f ∷ es) zero s e h = refl
rows_from-set_both (t ∷ ss) (f ∷ es) (suc r) s e h = ap (λ xs. row_from t f.faults ∷ xs) (rows_from-set_both ss es r s e (omega (arith, h)))

freed-row_from : (s : Standing) (fs : List Fault) → row_from (standing_freed s) fs ≡ freed (row_from s fs)
freed-row_from Waiting fs = refl
freed-row_from (Claimed w) fs = refl
freed-row_from (Accepted e) fs = refl
freed-row_from Rejected fs = refl
freed-row_from (Blocked n) fs = refl
freed-row_from Cyclic fs = refl
freed-row_from Missing fs = refl

pub rows_from-freed : (ss : List Standing) (es : List Entry) → rows_from (map standing_freed ss) es ≡ map freed (rows_from ss es)
rows_from-freed [] es = refl
rows_from-freed (s ∷ ss) [] = λ i. freed-row_from s [] i ∷ rows_from-freed ss [] i
rows_from-freed (s ∷ ss) (e ∷ es) = λ i. freed-row_from s e.faults i ∷ rows_from-freed ss es i

-- entries
pub entries_of-set : (c : List Article) (rows : List Row) (r : ℕ) (a : Article) (x : Row) → slice_get c r ≡ Some a → entries_of c (slice_set rows r x) ≡ slice_set (entries_of c rows) r (entry_of a.name x)
entries_of-set [] rows r a x h = absurd (none-some a h)
entries_of-set (b ∷ c) [] r a x h = refl
entries_of-set (b ∷ c) (y ∷ rows) zero a x h = ap (λ z. entry_of z.name x ∷ entries_of c rows) (same_Some b a h)
entries_of-set (b ∷ c) (y ∷ rows) (suc r) a x h = ap (λ xs. entry_of b.name y ∷ xs) (entries_of-set c rows r a x h)

pub entries_of-same : (c : List Article) (rows : List Row) (r : ℕ) (x : Row) → ((n : Name) → entry_of n x ≡ entry_of n (row_at rows r)) → entries_of c (slice_set rows r x) ≡ entries_of c rows
entries_of-same [] rows r x h = refl
entries_of-same (b ∷ c) [] r x h = refl
entries_of-same (b ∷ c) (y ∷ rows) zero x h = ap (λ e. e ∷ entries_of c rows) (h b.name)
entries_of-same (b ∷ c) (y ∷ rows) (suc r) x h = ap (λ xs. entry_of b.name y ∷ xs) (entries_of-same c rows r x h)

entry_freed : (n : Name) (x : Row) → entry_of n (freed x) ≡ entry_of n x
entry_freed n row.Waiting = refl
entry_freed n (row.Claimed w) = refl
entry_freed n (row.Accepted e) = refl
entry_freed n (row.Rejected fs) = refl
entry_freed n (row.Blocked m) = refl
entry_freed n row.Cyclic = refl
entry_freed n row.Missing = refl

pub entries_of-freed : (c : List Article) (rows : List Row) → entries_of c (map freed rows) ≡ entries_of c rows
entries_of-freed [] rows = refl
entries_of-freed (a ∷ c) [] = refl
entries_of-freed (a ∷ c) (x ∷ rows) = λ i. entry_freed a.name x i ∷ entries_of-freed c rows i

pub length-entries_of : (c : List Article) (rows : List Row) → length rows ≡ length c → length (entries_of c rows) ≡ length c
length-entries_of [] rows h = refl
length-entries_of (a ∷ c) [] h = absurd (omega (arith, h))
length-entries_of (a ∷ c) (x ∷ rows) h = ap suc (length-entries_of c rows (omega (arith, h)))

pub state_at : (ss : List Standing) (es : List Entry) (r : ℕ) → standing_state (standing_at ss r) ≡ state_of (row_at (rows_from ss es) r)
state_at ss es r = sym (state_of-row_from (standing_at ss r) (faults_at es r)) ∙ ap state_of (sym (row_at-rows_from ss es r))

pub ruleset length_rules = (length-rows_from)

-- a standing that isn't claimed is freed already
freed_if : (s : Standing) → is_claimed_state (standing_state s) ≡ false → standing_freed s ≡ s
freed_if Waiting h = refl
freed_if (Claimed w) h = absurd cc
freed_if (Accepted e) h = refl
freed_if Rejected h = refl
freed_if (Blocked n) h = refl
freed_if Cyclic h = refl
freed_if Missing h = refl

freed_claimed : (s : Standing) → is_claimed_state (standing_state s) ≡ true → standing_freed s ≡ Waiting
freed_claimed Waiting h = absurd cc
freed_claimed (Claimed w) h = refl
freed_claimed (Accepted e) h = absurd cc
freed_claimed Rejected h = absurd cc
freed_claimed (Blocked n) h = absurd cc
freed_claimed Cyclic h = absurd cc
freed_claimed Missing h = absurd cc

-- the first standings are freed, the others are as they were
abbrev pub freed_to : ℕ → List Standing → List Standing
freed_to n ss = map standing_freed (take n ss) ++ drop n ss

freed_to-next : (ss : List Standing) (i : ℕ) → i < length ss → slice_set (freed_to i ss) i (standing_freed (standing_at ss i)) ≡ freed_to (suc i) ss
freed_to-next [] i h = absurd (omega arith)
freed_to-next (s ∷ ss) zero h = refl
freed_to-next (s ∷ ss) (suc i) h = ap (λ xs. standing_freed s ∷ xs) (freed_to-next ss i (omega (arith, h)))

standing_at-freed_to : (ss : List Standing) (i : ℕ) → standing_at (freed_to i ss) i ≡ standing_at ss i
standing_at-freed_to [] zero = refl
standing_at-freed_to [] (suc i) = refl
standing_at-freed_to (s ∷ ss) zero = refl
standing_at-freed_to (s ∷ ss) (suc i) = standing_at-freed_to ss i

set_same : (ss : List Standing) (i : ℕ) → slice_set ss i (standing_at ss i) ≡ ss
set_same [] i = refl
set_same (s ∷ ss) zero = refl
set_same (s ∷ ss) (suc i) = ap (λ xs. s ∷ xs) (set_same ss i)

suc-next_is : (i : ℕ) → suc i ≡ i + 1
suc-next_is i = omega arith

-- the next one is claimed, and waits then, or isn't
pub freed_next_claimed : (ss before after : List Standing) (i : ℕ) → i < length ss → before ≡ freed_to i ss → is_claimed_state (standing_state (standing_at before i)) ≡ true → after ≡ slice_set before i Waiting → after ≡ freed_to (i + 1) ss
freed_next_claimed ss before after i w e claimed put =
    let at : standing_at before i ≡ standing_at ss i = ap (λ xs. standing_at xs i) e ∙ standing_at-freed_to ss i in
    let one : standing_freed (standing_at ss i) ≡ Waiting = ap standing_freed (sym at) ∙ freed_claimed (standing_at before i) claimed in
    put ∙ ((λ j. slice_set (e j) i (sym one j)) ∙ (freed_to-next ss i w ∙ ap (λ n. freed_to n ss) (suc-next_is i)))

pub freed_next_other : (ss before : List Standing) (i : ℕ) → i < length ss → before ≡ freed_to i ss → is_claimed_state (standing_state (standing_at before i)) ≡ false → before ≡ freed_to (i + 1) ss
freed_next_other ss before i w e claimed =
    let at : standing_at before i ≡ standing_at ss i = ap (λ xs. standing_at xs i) e ∙ standing_at-freed_to ss i in
    let one : standing_freed (standing_at ss i) ≡ standing_at before i = ap standing_freed (sym at) ∙ freed_if (standing_at before i) claimed in
    sym (set_same before i) ∙ ((λ j. slice_set (e j) i (sym one j)) ∙ (freed_to-next ss i w ∙ ap (λ n. freed_to n ss) (suc-next_is i)))

pub freed_whole : (ss : List Standing) (n : ℕ) → length ss ≤ n → freed_to n ss ≡ map standing_freed ss
freed_whole ss n h = (λ j. map standing_freed (take_all n ss h j) ++ drop_all n ss h j) ∙ append-nil (map standing_freed ss)

pub freed_length : (ss : List Standing) (n : ℕ) → length (freed_to n ss) ≡ length ss
freed_length [] zero = refl
freed_length [] (suc n) = refl
freed_length (s ∷ ss) zero = refl
freed_length (s ∷ ss) (suc n) = ap suc (freed_length ss n)

same_worker : (v w : ℕ) → state.Claimed v ≡ state.Claimed w → v ≡ w
same_worker v w h = cc

pub state_claimed : (x : Row) (w : ℕ) → state_of x ≡ state.Claimed w → x ≡ row.Claimed w
state_claimed row.Waiting w h = absurd cc
state_claimed (row.Claimed v) w h = ap row.Claimed (same_worker v w h)
state_claimed (row.Accepted e) w h = absurd cc
state_claimed (row.Rejected fs) w h = absurd cc
state_claimed (row.Blocked n) w h = absurd cc
state_claimed row.Cyclic w h = absurd cc
state_claimed row.Missing w h = absurd cc

-- the row of the standing at a place
same_standing : (ss : List Standing) (r : ℕ) (s : Standing) → slice_get ss r ≡ Some s → standing_at ss r ≡ s
same_standing [] r s h = absurd (none-some s h)
same_standing (t ∷ ss) zero s h = same_Some t s h
same_standing (t ∷ ss) (suc r) s h = same_standing ss r s h

pub row_of_standing : (ss : List Standing) (es : List Entry) (r : ℕ) (s : Standing) → slice_get ss r ≡ Some s → IsRowOf s (row_at (rows_from ss es) r)
row_of_standing ss es r s h = (faults_at es r, row_at-rows_from ss es r ∙ ap (λ x. row_from x (faults_at es r)) (same_standing ss r s h))
