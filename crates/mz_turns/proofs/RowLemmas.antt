-- Small facts on rows.
use Rattle.std.proofs.Common.{◌≡◌, ◌<◌, ℕ, zero, suc, List, [], ◌∷◌, ◌++◌, map, length, refl, ap, sym, ◌∙◌, Bool, true, false, inl, inr}
use Rattle.std.specs.Prelude.{◌⊎◌, Option, Some, None, slice_get, slice_set}
use Rattle.std.proofs.lemmas.Option.{same_Some, none-some}
use Rattle.std.proofs.lemmas.List.{get_or-set_same, get_or-set_other}
use Rattle.mz_core.specs.declared.outcome.Export.{Export}
use Rattle.mz_core.specs.declared.outcome.Outcome.{Outcome}
use Rattle.mz_core.specs.declared.outcome.Outcome.TheVariants as outcome
use Rattle.mz_corpus.specs.Article.{Article}
use Rattle.mz_turns.specs.Row.{Row, Waiting, Claimed, Accepted, Rejected, Blocked, Cyclic, Missing, is_settled, is_accepted, freed, row_of, row_at}
use Rattle.mz_turns.specs.Dependencies.{start_of, start_row}
use Rattle.mz_turns.specs.Machine.{and_then}

-- the export of an accepted row
abbrev pub export_of : Row → List Export
export_of Waiting = []
export_of (Claimed w) = []
export_of (Accepted e) = e ∷ []
export_of (Rejected fs) = []
export_of (Blocked n) = []
export_of Cyclic = []
export_of Missing = []

-- the exports of those of the rows with these numbers that are accepted
abbrev pub exports_of : List Row → List ℕ → List Export
exports_of rows [] = []
exports_of rows (d ∷ ds) = export_of (row_at rows d) ++ exports_of rows ds

pub same_export : (e f : Export) → Accepted e ≡ Accepted f → e ≡ f
same_export e f h = cc

pub true_false : (b : Bool) → b ≡ true → b ≡ false → ⊥
true_false b p q = cc

pub same_article : (c : List Article) (r : ℕ) (a b : Article) → slice_get c r ≡ Some a → slice_get c r ≡ Some b → a ≡ b
same_article c r a b h k = same_Some a b (sym h ∙ k)

pub both : (a b : Bool) → and_then a b ≡ true → (a ≡ true) × (b ≡ true)
both true b h = (refl, h)
both false b h = absurd cc

pub from_both : (a b : Bool) → a ≡ true → b ≡ true → and_then a b ≡ true
from_both true b p q = q
from_both false b p q = p

pub settled_freed : (x : Row) → is_settled (freed x) ≡ is_settled x
settled_freed Waiting = refl
settled_freed (Claimed w) = refl
settled_freed (Accepted e) = refl
settled_freed (Rejected fs) = refl
settled_freed (Blocked n) = refl
settled_freed Cyclic = refl
settled_freed Missing = refl

pub accepted_freed : (x : Row) → is_accepted (freed x) ≡ is_accepted x
accepted_freed Waiting = refl
accepted_freed (Claimed w) = refl
accepted_freed (Accepted e) = refl
accepted_freed (Rejected fs) = refl
accepted_freed (Blocked n) = refl
accepted_freed Cyclic = refl
accepted_freed Missing = refl

pub freed_settled : (x : Row) → is_settled x ≡ true → freed x ≡ x
freed_settled Waiting h = refl
freed_settled (Claimed w) h = absurd cc
freed_settled (Accepted e) h = refl
freed_settled (Rejected fs) h = refl
freed_settled (Blocked n) h = refl
freed_settled Cyclic h = refl
freed_settled Missing h = refl

pub freed_claimed : (x : Row) (w : ℕ) → freed x ≡ Claimed w → ⊥
freed_claimed Waiting w h = cc
freed_claimed (Claimed v) w h = cc
freed_claimed (Accepted e) w h = cc
freed_claimed (Rejected fs) w h = cc
freed_claimed (Blocked n) w h = cc
freed_claimed Cyclic w h = cc
freed_claimed Missing w h = cc

pub freed_waiting : (x : Row) → freed x ≡ Waiting → (x ≡ Waiting) ⊎ ((w : ℕ) × (x ≡ Claimed w))
freed_waiting Waiting h = inl refl
freed_waiting (Claimed v) h = inr (v, refl)
freed_waiting (Accepted e) h = absurd cc
freed_waiting (Rejected fs) h = absurd cc
freed_waiting (Blocked n) h = absurd cc
freed_waiting Cyclic h = absurd cc
freed_waiting Missing h = absurd cc

pub accepted_settled : (x : Row) → is_accepted x ≡ true → is_settled x ≡ true
accepted_settled Waiting h = h
accepted_settled (Claimed w) h = h
accepted_settled (Accepted e) h = refl
accepted_settled (Rejected fs) h = refl
accepted_settled (Blocked n) h = refl
accepted_settled Cyclic h = refl
accepted_settled Missing h = refl

pub accepted_is : (x : Row) → is_accepted x ≡ true → (e : Export) × (x ≡ Accepted e)
accepted_is Waiting h = absurd cc
accepted_is (Claimed w) h = absurd cc
accepted_is (Accepted e) h = (e, refl)
accepted_is (Rejected fs) h = absurd cc
accepted_is (Blocked n) h = absurd cc
accepted_is Cyclic h = absurd cc
accepted_is Missing h = absurd cc

pub not_accepted : (x : Row) (e : Export) → x ≡ Accepted e → is_accepted x ≡ false → ⊥
not_accepted x e p h = true_false (is_accepted x) (ap is_accepted p) h

pub not_settled : (x : Row) (w : ℕ) → x ≡ Claimed w → is_settled x ≡ true → ⊥
not_settled x w p h = true_false (is_settled x) h (ap is_settled p)

pub start_waits : (o : Option (List ℕ)) (b : Bool) → is_settled (start_of o b) ≡ false → start_of o b ≡ Waiting
start_waits None b h = absurd cc
start_waits (Some t) true h = absurd cc
start_waits (Some t) false h = refl

pub start_claimed : (o : Option (List ℕ)) (b : Bool) (w : ℕ) → start_of o b ≡ Claimed w → ⊥
start_claimed None b w h = cc
start_claimed (Some t) true w h = cc
start_claimed (Some t) false w h = cc

pub row_at-put_same : (rows : List Row) (r : ℕ) (x : Row) → r < length rows → row_at (slice_set rows r x) r ≡ x
row_at-put_same rows r x h = get_or-set_same rows r x Waiting h

pub row_at-put_other : (rows : List Row) (r q : ℕ) (x : Row) → (q ≡ r → ⊥) → row_at (slice_set rows r x) q ≡ row_at rows q
row_at-put_other rows r q x h = get_or-set_other rows r q x Waiting h

pub at_map : (f : Row → Row) → f Waiting ≡ Waiting → (rows : List Row) (q : ℕ) → row_at (map f rows) q ≡ f (row_at rows q)
at_map f w [] q = sym w
at_map f w (x ∷ rows) zero = refl
at_map f w (x ∷ rows) (suc q) = at_map f w rows q

pub at_start : (c : List Article) (q : ℕ) (a : Article) → slice_get c q ≡ Some a → row_at (map start_row c) q ≡ start_row a
at_start [] q a h = absurd (none-some a h)
at_start (b ∷ c) zero a h = ap start_row (same_Some b a h)
at_start (b ∷ c) (suc q) a h = at_start c q a h

pub from_start : (c : List Article) (q : ℕ) → is_settled (row_at (map start_row c) q) ≡ true → (a : Article) × (slice_get c q ≡ Some a)
from_start [] q h = absurd cc
from_start (b ∷ c) zero h = (b, refl)
from_start (b ∷ c) (suc q) h = from_start c q h

pub outcome_settled : (o : Outcome) → is_settled (row_of o) ≡ true
outcome_settled (outcome.Accepted e) = refl
outcome_settled (outcome.Rejected fs) = refl

pub outcome_accepted : (o : Outcome) (e : Export) → row_of o ≡ Accepted e → o ≡ outcome.Accepted e
outcome_accepted (outcome.Accepted f) e h = ap outcome.Accepted (same_export f e h)
outcome_accepted (outcome.Rejected fs) e h = absurd cc

pub accepted_same : (x : Row) (e f : Export) → x ≡ Accepted e → x ≡ Accepted f → e ≡ f
accepted_same x e f h k = same_export e f (sym h ∙ k)

pub freed-twice : (x : Row) → freed (freed x) ≡ freed x
freed-twice Waiting = refl
freed-twice (Claimed w) = refl
freed-twice (Accepted e) = refl
freed-twice (Rejected fs) = refl
freed-twice (Blocked n) = refl
freed-twice Cyclic = refl
freed-twice Missing = refl

pub unsettled_unaccepted : (x : Row) → is_settled x ≡ false → is_accepted x ≡ false
unsettled_unaccepted Waiting h = refl
unsettled_unaccepted (Claimed w) h = refl
unsettled_unaccepted (Accepted e) h = absurd cc
unsettled_unaccepted (Rejected fs) h = refl
unsettled_unaccepted (Blocked n) h = refl
unsettled_unaccepted Cyclic h = refl
unsettled_unaccepted Missing h = refl

pub start_not_accepted : (o : Option (List ℕ)) (b : Bool) → is_accepted (start_of o b) ≡ true → ⊥
start_not_accepted None b h = cc
start_not_accepted (Some t) true h = cc
start_not_accepted (Some t) false h = cc
