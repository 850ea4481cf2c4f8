-- A turn of the loop over the lines of a vocabulary.
use Rattle.std.proofs.Common.{◌≡◌, ℕ, ◌+◌, Bool, true, false, cond, ◌||◌, ◌⊎◌, inl, inr, ⊎_elim, List, [], ◌∷◌, ◌++◌, length, Some, None, refl, sym, ap, subst, ◌∙◌, arith, append_assoc, append-nil, length-append}
use Rattle.std.specs.Option.{is_some}
use Rattle.std.specs.Str.{bytes_eq}
use Rattle.std.proofs.lemmas.List.Folds.{list_any-append}
use Rattle.mz_voc.specs.declared.vocabulary.Entry.{Entry}
use Rattle.mz_voc.specs.declared.line.Line.{Line}
use Rattle.mz_voc.specs.declared.line.Line.TheVariants.{Blank, Good}
use Rattle.mz_voc.specs.declared.spelled.Spelled.{Spelled}
use Rattle.mz_voc.specs.declared.voc_fault.VocFault.{VocFault}
use Rattle.mz_voc.specs.Spelled.{value_of}
use Rattle.mz_voc.specs.Lines.{lines_of, without_return}
use Rattle.mz_voc.specs.Vocabulary.{line_of, is_spelled, entries_on, entries_of, fault_on, fault_below, AreRight, IsFirstFault, IsVocabulary, AreDistinct}

abbrev Texts : Type 0
Texts = List (List ℕ)

-- where an item of `front` and one more stands
snoc_cases : {X : Type 0} (front : List X) (l : X) (above : List X) (m : X) (below : List X) → front ++ l ∷ [] ≡ above ++ m ∷ below → ((front ≡ above) × (l ≡ m)) ⊎ ((r : List X) × (front ≡ above ++ m ∷ r))
snoc_cases [] l [] m below e = inl (refl, cc)
snoc_cases [] l (x ∷ []) m below e = cc
snoc_cases [] l (x ∷ y ∷ above) m below e = cc
snoc_cases (x ∷ front) l [] m below e = inr (front, cc)
snoc_cases (x ∷ front) l (y ∷ above) m below e =
    let h : x ≡ y = cc in
    let t : front ++ l ∷ [] ≡ above ++ m ∷ below = cc in
    ⊎_elim (λ p. inl ((λ i. h i ∷ p.0 i), p.1)) (λ p. inr (p.0, (λ i. h i ∷ p.1 i))) (snoc_cases front l above m below t)

AreRight-more : (front : Texts) (l : List ℕ) → AreRight front → fault_below front l ≡ None → AreRight (front ++ l ∷ [])
AreRight-more front l right fine above m below e =
    ⊎_elim (λ p. subst (λ a. fault_below a m ≡ None) p.0 (subst (λ k. fault_below front k ≡ None) p.1 fine)) (λ p. right above m p.0 p.1) (snoc_cases front l above m below e)

AreRight-none : AreRight []
AreRight-none [] m below e = cc
AreRight-none (x ∷ above) m below e = cc

pub AreDistinct-none : (entries : List Entry) → entries ≡ [] → AreDistinct entries
AreDistinct-none entries e = subst AreDistinct (sym e) none
  where
    none : AreDistinct []
    none [] entry below e = cc
    none (x ∷ above) entry below e = cc

pub AreDistinct-more : (entries entries' : List Entry) (entry : Entry) → AreDistinct entries → false ≡ is_spelled entries entry.spelling → entries' ≡ entries ++ entry ∷ [] → AreDistinct entries'
AreDistinct-more entries entries' entry so new e = subst AreDistinct (sym e) more
  where
    more : AreDistinct (entries ++ entry ∷ [])
    more above last below s =
        ⊎_elim (λ p. subst (λ a. is_spelled a last.spelling ≡ false) p.0 (subst (λ k. is_spelled entries k.spelling ≡ false) p.1 (sym new))) (λ p. so above last p.0 p.1) (snoc_cases entries entry above last below s)

entries_of-append : (xs ys : Texts) → entries_of (xs ++ ys) ≡ entries_of xs ++ entries_of ys
unfolding entries_of
entries_of-append [] ys = refl
entries_of-append (x ∷ xs) ys = rw (entries_of-append xs ys) (sym (append_assoc (entries_on (line_of (without_return x))) (entries_of xs) (entries_of ys)))

entries_of-more : (front : Texts) (l : List ℕ) → entries_of (front ++ l ∷ []) ≡ entries_of front ++ entries_on (line_of (without_return l))
unfolding entries_of
entries_of-more front l = entries_of-append front (l ∷ []) ∙ ap (λ es. entries_of front ++ es) (append-nil (entries_on (line_of (without_return l))))

-- what the loop keeps: the lines read are right, and these are their entries
pub record SoFar (all rest : List ℕ) (entries : List Entry) (n : ℕ) : Type 0 where
  pub front : Texts
  pub split : lines_of all ≡ front ++ lines_of rest
  pub right : AreRight front
  pub these : entries ≡ entries_of front
  pub count : n ≡ length front

pub so_far_none : (all : List ℕ) (entries : List Entry) → entries ≡ [] → SoFar all all entries 0
unfolding entries_of
so_far_none all entries e = record { front = []; split = refl; right = AreRight-none; these = e; count = refl }

-- one more line, without a fault
pub so_far_more : (all rest first others : List ℕ) (entries entries' : List Entry) (n : ℕ) (line : Line) →
    SoFar all rest entries n → lines_of rest ≡ first ∷ lines_of others → line ≡ line_of (without_return first) → fault_on entries (n + 1) line ≡ None → entries' ≡ entries ++ entries_on line →
    SoFar all others entries' (n + 1)
so_far_more all rest first others entries entries' n line so e is fine these =
    record {
      front = so.front ++ first ∷ [];
      split = so.split ∙ rw (e, append_assoc so.front (first ∷ []) (lines_of others)) refl;
      right = AreRight-more so.front first so.right (rw (so.these, so.count, is) at fine);
      these = these ∙ rw (so.these, is) (sym (entries_of-more so.front first));
      count = omega (arith, so.count, length-append so.front (first ∷ []));
    }

-- a blank line
pub past_blank : (all rest first others first' : List ℕ) (entries : List Entry) (n : ℕ) (line : Line) →
    SoFar all rest entries n → lines_of rest ≡ first ∷ lines_of others → first' ≡ without_return first → line ≡ line_of first' → line ≡ Blank → SoFar all others entries (n + 1)
past_blank all rest first others first' entries n line so e w is blank =
    so_far_more all rest first others entries entries n Blank so e (rw (← blank, ← w) is) refl (sym (append-nil entries))

-- an entry that isn't spelled above
pub past_entry : (all rest first others first' : List ℕ) (entries entries' : List Entry) (entry : Entry) (n : ℕ) (line : Line) →
    SoFar all rest entries n → lines_of rest ≡ first ∷ lines_of others → first' ≡ without_return first → line ≡ line_of first' → line ≡ Good entry → false ≡ is_spelled entries entry.spelling → entries' ≡ entries ++ entry ∷ [] → SoFar all others entries' (n + 1)
past_entry all rest first others first' entries entries' entry n line so e w is good new these =
    so_far_more all rest first others entries entries' n (Good entry) so e (rw (← good, ← w) is) (rw (← new) refl) these

-- one more line, with a fault
pub refused_line : (all rest first others : List ℕ) (entries : List Entry) (n : ℕ) (line : Line) (fault : VocFault) →
    SoFar all rest entries n → lines_of rest ≡ first ∷ lines_of others → line ≡ line_of (without_return first) → fault_on entries (n + 1) line ≡ Some fault → IsFirstFault (lines_of all) fault
refused_line all rest first others entries n line fault so e is bad =
    record {
      above = so.front;
      line = first;
      below = lines_of others;
      split = so.split ∙ ap (λ ls. so.front ++ ls) e;
      right = so.right;
      refused = rw (so.these, so.count, is) at bad;
    }

-- all lines are read
pub all_lines : (all rest : List ℕ) (entries : List Entry) (n : ℕ) → SoFar all rest entries n → length rest ≡ 0 → IsVocabulary all entries
unfolding lines_of
all_lines all [] entries n so h =
    let e : lines_of all ≡ so.front = so.split ∙ append-nil so.front in
    record { right = subst AreRight (sym e) so.right; in_order = so.these ∙ ap entries_of (sym e) }
all_lines all (b ∷ rest) entries n so h = absurd (omega arith)

-- which spellings stood above

pub lines_none : (lines : Spelled ℕ) (entries : List Entry) → entries ≡ [] → ((spelling : List ℕ) → value_of lines spelling ≡ None) → (spelling : List ℕ) → is_some (value_of lines spelling) ≡ is_spelled entries spelling
lines_none lines entries e empty spelling = rw (empty spelling, e) refl

pub is_some-lines_more : (old new : Spelled ℕ) (entries entries' : List Entry) (entry : Entry) (written : List ℕ) (n : ℕ) → ((spelling : List ℕ) → is_some (value_of old spelling) ≡ is_spelled entries spelling) → written ≡ entry.spelling →
    ((spelling : List ℕ) → value_of new spelling ≡ cond (bytes_eq written spelling) (Some n) (value_of old spelling)) → entries' ≡ entries ++ entry ∷ [] → (spelling : List ℕ) → is_some (value_of new spelling) ≡ is_spelled entries' spelling
is_some-lines_more old new entries entries' entry written n so is put e spelling =
    ap is_some (put spelling) ∙ ap (λ w. is_some (cond (bytes_eq w spelling) (Some n) (value_of old spelling))) is ∙ either (bytes_eq entry.spelling spelling) (is_spelled entries spelling) (so spelling)
    ∙ sym (ap (λ es. is_spelled es spelling) e ∙ list_any-append (λ a. bytes_eq a.spelling spelling) entries (entry ∷ []))
  where
    either : (t u : Bool) → is_some (value_of old spelling) ≡ u → is_some (cond t (Some n) (value_of old spelling)) ≡ (u || (t || false))
    either true true h = refl
    either true false h = refl
    either false true h = h
    either false false h = h
