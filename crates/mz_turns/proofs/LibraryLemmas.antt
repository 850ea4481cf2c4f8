-- What the library of rows has, and how it changes with them.
use Rattle.std.proofs.Common.{◌≡◌, ◌<◌, ◌≤◌, ◌+◌, ◌⊎◌, inl, inr, ℕ, zero, suc, Bool, true, false, List, [], ◌∷◌, map, length, refl, sym, ap, ◌∙◌, arith, subst}
use Rattle.std.specs.Prelude.{Option, Some, None, slice_set, Contains}
use Rattle.mz_core.specs.declared.outcome.Export.{Export}
use Rattle.mz_axioms.specs.BuiltIn.{built_in_exports}
use Rattle.mz_axioms.specs.Library.{added}
use Rattle.mz_axioms.proofs.AddedLemmas.{has_new, has_old, new_or_old, length-added}
use Rattle.mz_corpus.specs.Article.{Article, is_cyclic}
use Rattle.mz_turns.specs.Row.{Row, Waiting, Claimed, Accepted, Rejected, Blocked, Cyclic, Missing, is_accepted, freed, row_at}
use Rattle.mz_turns.specs.Dependencies.{start_of, start_row}
use Rattle.mz_turns.specs.Library.{add_row, library_of, IsFreshIn}
use Rattle.mz_turns.specs.Machine.{Blocks, end, block}
use Rattle.mz_turns.proofs.ExportLemmas.{added_commutes}

in_add_row : (x : Row) (g : Export) (l : List Export) → Contains l g → Contains (add_row x l) g
in_add_row Waiting g l h = h
in_add_row (Claimed w) g l h = h
in_add_row (Accepted e) g l h = has_old e g l h
in_add_row (Rejected fs) g l h = h
in_add_row (Blocked n) g l h = h
in_add_row Cyclic g l h = h
in_add_row Missing g l h = h

pub built_in_library : (rows : List Row) (e : Export) → Contains built_in_exports e → Contains (library_of rows) e
built_in_library [] e h = h
built_in_library (x ∷ rows) e h = in_add_row x e (library_of rows) (built_in_library rows e h)

-- the export of an accepted row stands in the library
pub in_library : (rows : List Row) (q : ℕ) (e : Export) → row_at rows q ≡ Accepted e → Contains (library_of rows) e
in_library [] q e h = absurd cc
in_library (x ∷ rows) zero e h = subst (λ y. Contains (add_row y (library_of rows)) e) (sym h) (has_new e (library_of rows))
in_library (x ∷ rows) (suc q) e h = in_add_row x e (library_of rows) (in_library rows q e h)

-- and nothing else but the built-in exports
abbrev pub IsFrom : List Row → Export → Type 0
IsFrom rows e = Contains built_in_exports e ⊎ ((q : ℕ) × (row_at rows q ≡ Accepted e))

later_row : (x : Row) (rows : List Row) (e : Export) → IsFrom rows e → IsFrom (x ∷ rows) e
later_row x rows e (inl h) = inl h
later_row x rows e (inr r) = inr (suc r.0, r.1)

accepted_row : (f : Export) (rows : List Row) (e : Export) → (Contains (library_of rows) e → IsFrom rows e) → (e ≡ f) ⊎ Contains (library_of rows) e → IsFrom (Accepted f ∷ rows) e
accepted_row f rows e k (inl p) = inr (0, ap (λ x. Accepted x) (sym p))
accepted_row f rows e k (inr h) = later_row (Accepted f) rows e (k h)

from_add_row : (x : Row) (rows : List Row) (e : Export) → (Contains (library_of rows) e → IsFrom rows e) → Contains (add_row x (library_of rows)) e → IsFrom (x ∷ rows) e
from_add_row Waiting rows e k h = later_row Waiting rows e (k h)
from_add_row (Claimed w) rows e k h = later_row (Claimed w) rows e (k h)
from_add_row (Accepted f) rows e k h = accepted_row f rows e k (new_or_old f e (library_of rows) h)
from_add_row (Rejected fs) rows e k h = later_row (Rejected fs) rows e (k h)
from_add_row (Blocked n) rows e k h = later_row (Blocked n) rows e (k h)
from_add_row Cyclic rows e k h = later_row Cyclic rows e (k h)
from_add_row Missing rows e k h = later_row Missing rows e (k h)

pub from_library : (rows : List Row) (e : Export) → Contains (library_of rows) e → IsFrom rows e
from_library [] e h = inl h
from_library (x ∷ rows) e h = from_add_row x rows e (from_library rows e) h

-- how the library changes
add_row-unadded : (x : Row) (l : List Export) → is_accepted x ≡ false → add_row x l ≡ l
add_row-unadded Waiting l h = refl
add_row-unadded (Claimed w) l h = refl
add_row-unadded (Accepted e) l h = absurd cc
add_row-unadded (Rejected fs) l h = refl
add_row-unadded (Blocked n) l h = refl
add_row-unadded Cyclic l h = refl
add_row-unadded Missing l h = refl

pub library_same : (rows : List Row) (r : ℕ) (x : Row) → is_accepted (row_at rows r) ≡ false → is_accepted x ≡ false → library_of (slice_set rows r x) ≡ library_of rows
library_same [] r x h k = refl
library_same (y ∷ rows) zero x h k = add_row-unadded x (library_of rows) k ∙ sym (add_row-unadded y (library_of rows) h)
library_same (y ∷ rows) (suc r) x h k = ap (add_row y) (library_same rows r x h k)

row_commutes : (x : Row) (e : Export) (l : List Export) → ((f : Export) → x ≡ Accepted f → e.name.number ≡ f.name.number → ⊥) → add_row x (added e l) ≡ added e (add_row x l)
row_commutes Waiting e l n = refl
row_commutes (Claimed w) e l n = refl
row_commutes (Accepted f) e l n = sym (added_commutes e f l (n f refl))
row_commutes (Rejected fs) e l n = refl
row_commutes (Blocked m) e l n = refl
row_commutes Cyclic e l n = refl
row_commutes Missing e l n = refl

pub library_put : (rows : List Row) (r : ℕ) (e : Export) → r < length rows → is_accepted (row_at rows r) ≡ false → IsFreshIn rows e → library_of (slice_set rows r (Accepted e)) ≡ added e (library_of rows)
library_put [] r e l h n = absurd (omega arith)
library_put (x ∷ rows) zero e l h n = ap (added e) (sym (add_row-unadded x (library_of rows) h))
library_put (x ∷ rows) (suc r) e l h n =
    ap (add_row x) (library_put rows r e (omega (arith, l)) h (λ q f p. n (suc q) f p)) ∙ row_commutes x e (library_of rows) (λ f p. n 0 f p)

freed_row : (x : Row) (l : List Export) → add_row (freed x) l ≡ add_row x l
freed_row Waiting l = refl
freed_row (Claimed w) l = refl
freed_row (Accepted e) l = refl
freed_row (Rejected fs) l = refl
freed_row (Blocked n) l = refl
freed_row Cyclic l = refl
freed_row Missing l = refl

pub library_freed : (rows : List Row) → library_of (map freed rows) ≡ library_of rows
library_freed [] = refl
library_freed (x ∷ rows) = ap (add_row (freed x)) (library_freed rows) ∙ freed_row x (library_of rows)

start_unadded : (o : Option (List ℕ)) (b : Bool) (l : List Export) → add_row (start_of o b) l ≡ l
start_unadded None b l = refl
start_unadded (Some t) true l = refl
start_unadded (Some t) false l = refl

pub library_start : (c : List Article) → library_of (map start_row c) ≡ built_in_exports
library_start [] = refl
library_start (a ∷ c) = start_unadded a.text (is_cyclic a) (library_of (map start_row c)) ∙ library_start c

pub library_blocks : (c : List Article) (rows after : List Row) → Blocks c rows after → library_of after ≡ library_of rows
library_blocks c rows after (end rows1 n) = refl
library_blocks c rows after (block r n rows1 after1 can rest) =
    library_blocks c (slice_set rows r (Blocked n)) after rest ∙ library_same rows r (Blocked n) (ap is_accepted can.waits) refl

-- there is room for one more export where a row isn't accepted
length_add_row : (x : Row) (l : List Export) (n : ℕ) → length l ≤ n → length (add_row x l) ≤ suc n
length_add_row Waiting l n h = omega (arith, h)
length_add_row (Claimed w) l n h = omega (arith, h)
length_add_row (Accepted e) l n h = omega (arith, h, length-added e l)
length_add_row (Rejected fs) l n h = omega (arith, h)
length_add_row (Blocked m) l n h = omega (arith, h)
length_add_row Cyclic l n h = omega (arith, h)
length_add_row Missing l n h = omega (arith, h)

length_library : (rows : List Row) → length (library_of rows) ≤ length rows + 3
length_library [] = omega arith
length_library (x ∷ rows) =
    let h : length (library_of (x ∷ rows)) ≤ suc (length rows + 3) = length_add_row x (library_of rows) (length rows + 3) (length_library rows) in
    omega (arith, h)

pub library_room : (rows : List Row) (r : ℕ) → r < length rows → is_accepted (row_at rows r) ≡ false → length (library_of rows) < length rows + 3
library_room [] r h n = absurd (omega arith)
library_room (x ∷ rows) zero h n =
    let same : length (library_of (x ∷ rows)) ≡ length (library_of rows) = ap length (add_row-unadded x (library_of rows) n) in
    omega (arith, same, length_library rows)
library_room (x ∷ rows) (suc r) h n =
    let less = library_room rows r (omega (arith, h)) n in
    let one : length (library_of (x ∷ rows)) ≤ suc (length rows + 2) = length_add_row x (library_of rows) (length rows + 2) (omega (arith, less)) in
    omega (arith, one)
