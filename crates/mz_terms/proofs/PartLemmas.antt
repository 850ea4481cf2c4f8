-- What the code of parts tells.
use Rattle.std.proofs.Common.{◌≡◌, ℕ, Bool, true, false, List, [], ◌∷◌, ◌++◌, length, refl, sym, ap, ◌∙◌, append_assoc}
use Rattle.std.specs.Prelude.{◌||◌, ◌&&◌, if◌then◌else◌, map}
use Rattle.std.specs.List.{filter, list_any}
use Rattle.mz_core.specs.declared.notation.Notation.{Notation}
use Rattle.mz_environment.specs.declared.environment.Environment.{Environment}
use Rattle.mz_environment.specs.Keys.{is_spelled}
use Rattle.mz_fits.proofs.FitLemmas.{not_both, empty}
use Rattle.mz_grouping.specs.declared.grouping.Part.{Part}
use Rattle.mz_tree.specs.declared.nodes.PieceNode.{PieceNode}
use Rattle.mz_tree.specs.Views.{piece_of}
use Rattle.mz_terms.specs.declared.neighbour.Neighbour.{Neighbour}
use Rattle.mz_terms.specs.Parts.{has_argument, takes_arguments, part_of, neighbour_of, parts_behind}

left_of_both : (a b : Bool) → (a && b) ≡ true → a ≡ true
left_of_both true b h = refl
left_of_both false b h = h

-- a notation of the symbol is spelled as it
spelled : (symbol : List ℕ) (x : Notation) → has_argument symbol x ≡ true → is_spelled symbol x ≡ true
spelled symbol x h = left_of_both (is_spelled symbol x) _ (left_of_both _ _ (left_of_both _ _ h))

none_here : (b r t : Bool) → (b ≡ true → false ≡ true) → r ≡ t → r ≡ (b || t)
none_here true r t f h = absurd (not_both false refl (f refl))
none_here false r t f h = h

any_test : (p : Notation → Bool) (x : Notation) (ys xs : List Notation) (c : Bool) → (p x ≡ true → c ≡ true) → list_any p ys ≡ list_any p xs → list_any p (if c then x ∷ ys else ys) ≡ (p x || list_any p xs)
any_test p x ys xs true f h = ap (λ (r : Bool). p x || r) h
any_test p x ys xs false f h = none_here (p x) (list_any p ys) (list_any p xs) f h

any_filtered : (p q : Notation → Bool) (xs : List Notation) → ((x : Notation) → p x ≡ true → q x ≡ true) → list_any p (filter q xs) ≡ list_any p xs
any_filtered p q [] f = refl
any_filtered p q (x ∷ xs) f = any_test p x (filter q xs) xs (q x) (f x) (any_filtered p q xs f)

pub told_takes : (e : Environment) (symbol : List ℕ) (xs : List Notation) (b : Bool) → xs ≡ filter (is_spelled symbol) e.notations → b ≡ list_any (has_argument symbol) xs → b ≡ takes_arguments e symbol
told_takes e symbol xs b ex eb = eb ∙ (ap (list_any (has_argument symbol)) ex ∙ any_filtered (has_argument symbol) (is_spelled symbol) e.notations (spelled symbol))

pub ruleset takes_rules = (told_takes)

pub append-told_next : (e : Environment) (before after : Neighbour) (out more whole : List Part) (node : PieceNode) (rest others : List PieceNode) → rest ≡ node ∷ others → more ≡ out ++ part_of e before (piece_of node) ∷ [] → after ≡ neighbour_of e (piece_of node) → out ++ parts_behind e before (map piece_of rest) ≡ whole → more ++ parts_behind e after (map piece_of others) ≡ whole
append-told_next e before after out more whole node rest others er em ea so =
    let one : out ++ parts_behind e before (map piece_of (node ∷ others)) ≡ whole = ap (λ xs. out ++ parts_behind e before (map piece_of xs)) (sym er) ∙ so in
    ap (λ xs. xs ++ parts_behind e after (map piece_of others)) em ∙ (append_assoc out (part_of e before (piece_of node) ∷ []) (parts_behind e after (map piece_of others))
    ∙ (ap (λ b. out ++ part_of e before (piece_of node) ∷ parts_behind e b (map piece_of others)) ea ∙ one))

append_nil : {A : Type 0} (xs : List A) → xs ++ [] ≡ xs
append_nil [] = refl
append_nil (x ∷ xs) = ap (λ ys. x ∷ ys) (append_nil xs)

pub told_all : (e : Environment) (before : Neighbour) (out whole : List Part) (rest : List PieceNode) → length rest ≡ 0 → out ++ parts_behind e before (map piece_of rest) ≡ whole → out ≡ whole
told_all e before out whole rest er so = sym (ap (λ xs. out ++ parts_behind e before (map piece_of xs)) (empty rest er) ∙ append_nil out) ∙ so

pub ruleset run_rules = (append-told_next, told_all)
