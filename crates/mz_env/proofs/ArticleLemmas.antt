-- The numbers of articles.
use Rattle.std.proofs.Common.{◌≡◌, List, [], ◌∷◌, ◌++◌, refl, ap, sym, ◌∙◌}
use Rattle.std.specs.Prelude.{ℕ, Bool, true, false, ◌||◌, cond, nat_eq}
use Rattle.std.specs.BTreeSet.{BTreeSet, contains}
use Rattle.std.specs.Ordering.{nat_cmp, eq_by_cmp}
use Rattle.std.specs.Cmp.{unsigned_tied}
use Rattle.std.proofs.lemmas.List.Folds.{list_any-append}
use Rattle.mz_base.specs.declared.name.Name.{Name}
use Rattle.mz_env.specs.Symbols.{is_numbered, is_among, AreNumbers}

cond-either : (b x : Bool) → cond b true x ≡ (x || (b || false))
cond-either true true = refl
cond-either true false = refl
cond-either false true = refl
cond-either false false = refl

pub numbers_more : (ns ms : List Name) (n : Name) (s t : BTreeSet ℕ) → AreNumbers ns s → ms ≡ ns ++ n ∷ [] → ((q : ℕ) → contains nat_cmp t q ≡ cond (eq_by_cmp nat_cmp n.number q) true (contains nat_cmp s q)) → AreNumbers ms t
numbers_more ns ms n s t a e put q =
    put q ∙ ((λ i. cond (unsigned_tied n.number q i) true (a q i)) ∙ (cond-either (nat_eq n.number q) (is_among q ns)
    ∙ (sym (list_any-append (is_numbered q) ns (n ∷ [])) ∙ ap (is_among q) (sym e))))
