-- Names in lists of trees.
use Rattle.std.proofs.lemmas.List.{append-nil}
use Rattle.std.proofs.Common.{◌≡◌, ◌<◌, ◌≤◌, ◌+◌, add-one, ℕ, zero, suc, List, [], ◌∷◌, ◌++◌, refl, sym, ap, ◌∙◌, arith, append_assoc, map, drop, length, get_or}
use Rattle.std.specs.List.{flat_map}
use Rattle.mz_tree.specs.Trees.{PieceData, PrefixData, BeforeData, NextTermData, AdjectiveData, NextDeclaredData, NextConjunctionData, NextUnitData, pieces_of, prefixs_of, befores_of, next_terms_of, adjectives_of, next_declareds_of, next_conjunctions_of, next_units_of, NextNextDeclared}
use Rattle.mz_tree.specs.Views.{next_declared_of, declared_of}
use Rattle.mz_tree.specs.declared.chain.Next.{Next}
use Rattle.mz_tree.specs.declared.word.Comma.{Comma}
use Rattle.mz_tree.specs.declared.nodes.DeclaredNode.{DeclaredNode}
use Rattle.mz_tree.proofs.Views.{term_of-is, operand_of-is, conjunction_of-is}
use Rattle.mz_free.specs.Occurring.{in_pieces, in_piece, in_prefixes, in_prefix, in_befores, in_before, in_next_terms, in_next_term, in_adjectives, in_adjective, in_next_conjunctions, in_next_conjunction, in_next_units, in_next_unit, declared_name, next_names, in_declared, in_next_declared, in_its_type, bound_behind, waiting_behind}

pub in_pieces-pieces_of : (ts : List PieceData) → in_pieces (pieces_of ts) ≡ flat_map in_piece ts
in_pieces-pieces_of [] = refl
in_pieces-pieces_of (t ∷ ts) = ap (λ z. in_piece t ++ z) (in_pieces-pieces_of ts)

pub in_prefixes-prefixs_of : (ts : List PrefixData) → in_prefixes (prefixs_of ts) ≡ flat_map in_prefix ts
in_prefixes-prefixs_of [] = refl
in_prefixes-prefixs_of (t ∷ ts) = ap (λ z. in_prefix t ++ z) (in_prefixes-prefixs_of ts)

pub in_befores-befores_of : (ts : List BeforeData) → in_befores (befores_of ts) ≡ flat_map in_before ts
in_befores-befores_of [] = refl
in_befores-befores_of (t ∷ ts) = ap (λ z. in_before t ++ z) (in_befores-befores_of ts)

pub in_next_terms-next_terms_of : (ts : List NextTermData) → in_next_terms (next_terms_of ts) ≡ flat_map in_next_term ts
in_next_terms-next_terms_of [] = refl
in_next_terms-next_terms_of (t ∷ ts) = ap (λ z. in_next_term t ++ z) (in_next_terms-next_terms_of ts)

pub in_adjectives-adjectives_of : (ts : List AdjectiveData) → in_adjectives (adjectives_of ts) ≡ flat_map in_adjective ts
in_adjectives-adjectives_of [] = refl
in_adjectives-adjectives_of (t ∷ ts) = ap (λ z. in_adjective t ++ z) (in_adjectives-adjectives_of ts)

pub in_next_conjunctions-next_conjunctions_of : (ts : List NextConjunctionData) → in_next_conjunctions (next_conjunctions_of ts) ≡ flat_map in_next_conjunction ts
in_next_conjunctions-next_conjunctions_of [] = refl
in_next_conjunctions-next_conjunctions_of (t ∷ ts) = ap (λ z. in_next_conjunction t ++ z) (in_next_conjunctions-next_conjunctions_of ts)

pub in_next_units-next_units_of : (ts : List NextUnitData) → in_next_units (next_units_of ts) ≡ flat_map in_next_unit ts
in_next_units-next_units_of [] = refl
in_next_units-next_units_of (t ∷ ts) = ap (λ z. in_next_unit t ++ z) (in_next_units-next_units_of ts)

-- the names that declarations declare
abbrev pub next_name : NextDeclaredData → List ℕ
next_name (NextNextDeclared sign d) = declared_name d

pub next_names-next_declareds_of : (ds : List NextDeclaredData) → next_names (next_declareds_of ds) ≡ map next_name ds
next_names-next_declareds_of [] = refl
next_names-next_declareds_of (NextNextDeclared sign d ∷ ds) = ap (λ z. declared_name d ∷ z) (next_names-next_declareds_of ds)

pub drop-at : {X : Type 0} (k : ℕ) (xs : List X) (x : X) → k < length xs → x ≡ get_or xs k x → drop k xs ≡ x ∷ drop (suc k) xs
drop-at k [] x lt e = absurd (omega (arith, lt))
drop-at zero (y ∷ ys) x lt e = ap (λ z. z ∷ ys) (sym e)
drop-at (suc k) (y ∷ ys) x lt e = drop-at k ys x (omega (arith, lt)) e

-- declarations, name by name
pub append-told_first : (before out bound waiting : List (List ℕ)) (d : DeclaredNode) (items : List (Next Comma DeclaredNode)) → out ≡ before ++ in_its_type [] (declared_of d) → bound ≡ bound_behind [] [] (declared_of d) → waiting ≡ waiting_behind [] (declared_of d) →
    before ++ in_declared [] [] (declared_of d) (next_declareds_of (map next_declared_of items)) ≡ out ++ in_next_declared bound waiting (next_declareds_of (map next_declared_of (drop 0 items)))
append-told_first before out bound waiting d items eo eb ew =
    sym (append_assoc before (in_its_type [] (declared_of d)) (in_next_declared (bound_behind [] [] (declared_of d)) (waiting_behind [] (declared_of d)) (next_declareds_of (map next_declared_of items)))) ∙
    ap (λ z. z ++ in_next_declared (bound_behind [] [] (declared_of d)) (waiting_behind [] (declared_of d)) (next_declareds_of (map next_declared_of items))) (sym eo) ∙
    ap (λ z. out ++ in_next_declared z (waiting_behind [] (declared_of d)) (next_declareds_of (map next_declared_of items))) (sym eb) ∙
    ap (λ z. out ++ in_next_declared bound z (next_declareds_of (map next_declared_of items))) (sym ew)

pub told_next : (whole out now bound waiting bound' waiting' : List (List ℕ)) (items : List (Next Comma DeclaredNode)) (i : ℕ) (x : Next Comma DeclaredNode) → i < length items → x ≡ get_or items i x →
    now ≡ out ++ in_its_type bound (declared_of x.tree) → bound' ≡ bound_behind bound waiting (declared_of x.tree) → waiting' ≡ waiting_behind waiting (declared_of x.tree) →
    whole ≡ out ++ in_next_declared bound waiting (next_declareds_of (map next_declared_of (drop i items))) →
    whole ≡ now ++ in_next_declared bound' waiting' (next_declareds_of (map next_declared_of (drop (i + 1) items)))
told_next whole out now bound waiting bound' waiting' items i x lt e eo eb ew h =
    h ∙ ap (λ zs. out ++ in_next_declared bound waiting (next_declareds_of (map next_declared_of zs))) (drop-at i items x lt e) ∙
    sym (append_assoc out (in_its_type bound (declared_of x.tree)) (in_next_declared (bound_behind bound waiting (declared_of x.tree)) (waiting_behind waiting (declared_of x.tree)) (next_declareds_of (map next_declared_of (drop (suc i) items))))) ∙
    ap (λ z. z ++ in_next_declared (bound_behind bound waiting (declared_of x.tree)) (waiting_behind waiting (declared_of x.tree)) (next_declareds_of (map next_declared_of (drop (suc i) items)))) (sym eo) ∙
    ap (λ z. now ++ in_next_declared z (waiting_behind waiting (declared_of x.tree)) (next_declareds_of (map next_declared_of (drop (suc i) items)))) (sym eb) ∙
    ap (λ z. now ++ in_next_declared bound' z (next_declareds_of (map next_declared_of (drop (suc i) items)))) (sym ew) ∙
    ap (λ n. now ++ in_next_declared bound' waiting' (next_declareds_of (map next_declared_of (drop n items)))) (sym (add-one i))

drop-gone : {X : Type 0} (xs : List X) (i : ℕ) → length xs ≤ i → drop i xs ≡ []
drop-gone [] zero h = refl
drop-gone [] (suc i) h = refl
drop-gone (x ∷ xs) zero h = absurd (omega (arith, h))
drop-gone (x ∷ xs) (suc i) h = drop-gone xs i (omega (arith, h))

pub told_last : (whole out bound waiting : List (List ℕ)) (items : List (Next Comma DeclaredNode)) (i : ℕ) → length items ≤ i → whole ≡ out ++ in_next_declared bound waiting (next_declareds_of (map next_declared_of (drop i items))) → out ≡ whole
told_last whole out bound waiting items i le h = sym (h ∙ ap (λ zs. out ++ in_next_declared bound waiting (next_declareds_of (map next_declared_of zs))) (drop-gone items i le) ∙ append-nil out)

pub ruleset declared_rules = (append-told_first, told_next, told_last)

pub ruleset list_rules = (append_assoc, append-nil, term_of-is, operand_of-is, conjunction_of-is, next_names-next_declareds_of, in_pieces-pieces_of, in_prefixes-prefixs_of, in_befores-befores_of, in_next_terms-next_terms_of, in_adjectives-adjectives_of, in_next_conjunctions-next_conjunctions_of, in_next_units-next_units_of)
