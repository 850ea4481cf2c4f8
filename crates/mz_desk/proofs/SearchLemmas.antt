-- A name that is searched in names in their order.
use Rattle.std.proofs.Common.{arith, tests, ◌≡◌, ℕ, ◌<◌, ◌≤◌, ◌==◌, Bool, true, false, List, length, Ok, Err, sym, ap, subst, ◌∙◌, inl, inr, ◌⊎◌}
use Rattle.std.proofs.Math.ListN.{get_or}
use Rattle.std.proofs.lemmas.List.Folds.{list_any_at, list_any_none}
use Rattle.std.proofs.lemmas.List.Elements.{All-from_get_or}
use Rattle.std.specs.Prelude.{Result}
use Rattle.std.specs.Ordering.{nat_cmp, ordering_index}
use Rattle.std.specs.declared.cmp.Ordering.TheVariants.{Less, Equal, Greater}
use Rattle.std.specs.List.Sorted.{IsBinarySearchResult, IsPartitionPoint, IsSearchInRange}
use Rattle.std.specs.Result.{is_ok}
use Rattle.mz_base.specs.declared.name.Name.{Name}
use Rattle.mz_corpus.specs.Corpus.{IsAscending}
use Rattle.mz_corpus.specs.Names.{is_name_of, is_among}

equal_numbers : (a b : ℕ) → nat_cmp a b ≡ Equal → b == a ≡ true
equal_numbers a b e = grind (arith, tests)

below : (a b : ℕ) → nat_cmp a b ≡ Less → b == a ≡ false
below a b e = grind (arith, tests)

above : (a b : ℕ) → nat_cmp a b ≡ Greater → b == a ≡ false
above a b e = grind (arith, tests)

higher : (a b x : ℕ) → a ≤ b → ordering_index (nat_cmp a x) ≤ ordering_index (nat_cmp b x)
higher a b x le = grind (arith, tests)

rises : (ns : List Name) → IsAscending ns → (i j : ℕ) (d : Name) → i ≤ j → j < length ns → (i ≡ j) ⊎ (i < j) → (get_or ns i d).number ≤ (get_or ns j d).number
rises ns up i j d le lt (inl e) = subst (λ k. (get_or ns i d).number ≤ (get_or ns k d).number) e (omega arith)
rises ns up i j d le lt (inr l) = let h = up i j d l lt in omega arith

apart : (ns : List Name) (n : Name) (i k : ℕ) → k < length ns → IsPartitionPoint (λ m. nat_cmp m.number n.number ≡ Less) (λ m. nat_cmp m.number n.number ≡ Greater) ns i → (k < i) ⊎ (i ≤ k) → is_name_of n (get_or ns k n) ≡ false
apart ns n i k lt parted (inl l) = below (get_or ns k n).number n.number (parted.0 k n (omega arith) l)
apart ns n i k lt parted (inr l) = above (get_or ns k n).number n.number (parted.1 k n l lt)

side : (k i : ℕ) → (k < i) ⊎ (i ≤ k)
side k i = grind (arith, tests)

same_or : (i j : ℕ) → i ≤ j → (i ≡ j) ⊎ (i < j)
same_or i j le = grind (arith, tests)

pub searched_among : (ns : List Name) (n : Name) (r : Result ℕ ℕ) → IsAscending ns → IsSearchInRange r (length ns) → IsBinarySearchResult (λ m. nat_cmp m.number n.number) ns r → is_ok r ≡ is_among ns n
searched_among ns n (Ok i) up range h = sym (list_any_at (is_name_of n) ns i n range (equal_numbers (get_or ns i n).number n.number (h n)))
searched_among ns n (Err i) up range h =
    let parted = h (λ a b d le lt. higher (get_or ns a d).number (get_or ns b d).number n.number (rises ns up a b d le lt (same_or a b le))) in
    sym (list_any_none (is_name_of n) ns (All-from_get_or (λ m. is_name_of n m ≡ false) ns n (λ k lt. apart ns n i k lt parted (side k i))))
