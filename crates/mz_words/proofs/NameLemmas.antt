-- Names in turn.
use Rattle.std.proofs.Common.{◌≡◌, ℕ, ◌+◌, Bool, ◌||◌, List, [], ◌∷◌, ◌++◌, ◌<◌, ◌≤◌, length, get_or, take, drop, Some, None, Err, refl, ap, sym, ◌∙◌, arith}
use Rattle.std.specs.Prelude.{fold, map}
use Rattle.std.specs.List.{list_any}
use Rattle.std.proofs.lemmas.List.{take-append-drop, take_more, take_all, get_or-map}
use Rattle.std.proofs.lemmas.List.Sums.{fold-append}
use Rattle.mz_words.specs.Given.{with_name, named, MeetsNumbers}
use Rattle.mz_words.specs.declared.word_fault.WordFault.{WordFault}
use Rattle.mz_words.specs.declared.word_fault.WordFault.TheVariants.{Usage, Memory}

named-None : (ws : List (List ℕ)) → fold with_name None ws ≡ None
named-None [] = refl
named-None (w ∷ ws) = named-None ws

-- where some first words hold one that is no name, so do all
named-all_faulty : (ws : List (List ℕ)) (n : ℕ) → named (take n ws) ≡ None → named ws ≡ None
named-all_faulty ws n none =
    ap named (sym (take-append-drop n ws)) ∙ fold-append with_name (Some []) (take n ws) (drop n ws) ∙ ap (λ o. fold with_name o (drop n ws)) none ∙ named-None (drop n ws)

pub list_any-map : {X Y : Type 0} (p : Y → Bool) (f : X → Y) (xs : List X) → list_any p (map f xs) ≡ list_any (λ x. p (f x)) xs
list_any-map p f [] = refl
list_any-map p f (x ∷ xs) = ap (λ b. p (f x) || b) (list_any-map p f xs)

map_length : {W : Type 0} (f : W → List ℕ) (ws : List W) → length (map f ws) ≡ length ws
map_length f [] = refl
map_length f (w ∷ ws) = let l = map_length f ws in omega arith

take-word_more : {W : Type 0} (f : W → List ℕ) (ws : List W) (i : ℕ) (d : W) (b : List ℕ) → i < length ws → b ≡ f (get_or ws i d) → take (i + 1) (map f ws) ≡ take i (map f ws) ++ b ∷ []
take-word_more f ws i d b lt e =
    let within : i < length (map f ws) = (let l = map_length f ws in omega arith) in
    take_more (map f ws) i (f d) within ∙ ap (λ x. take i (map f ws) ++ x ∷ []) (get_or-map f ws i d (f d) lt ∙ sym e)

named_more : {W : Type 0} (f : W → List ℕ) (ws : List W) (i : ℕ) (d : W) (b ns : List ℕ) → i < length ws → b ≡ f (get_or ws i d) → named (take i (map f ws)) ≡ Some ns → named (take (i + 1) (map f ws)) ≡ with_name (Some ns) b
named_more f ws i d b ns lt e h = ap named (take-word_more f ws i d b lt e) ∙ fold-append with_name (Some []) (take i (map f ws)) (b ∷ []) ∙ ap (λ o. with_name o b) h

-- a word that is a name
pub name_read : {W : Type 0} (f : W → List ℕ) (ws : List W) (i : ℕ) (d : W) (b ns next : List ℕ) → i < length ws → b ≡ f (get_or ws i d) → named (take i (map f ws)) ≡ Some ns → with_name (Some ns) b ≡ Some next
    → named (take (i + 1) (map f ws)) ≡ Some next
name_read f ws i d b ns next lt e h k = named_more f ws i d b ns lt e h ∙ k

-- a word that is none
pub name_refused : {W : Type 0} (f : W → List ℕ) (ws : List W) (i : ℕ) (d : W) (b ns : List ℕ) (fault : WordFault) → i < length ws → b ≡ f (get_or ws i d) → named (take i (map f ws)) ≡ Some ns
    → MeetsNumbers (with_name (Some ns) b) (Err fault) → MeetsNumbers (named (map f ws)) (Err fault)
name_refused f ws i d b ns Usage lt e h k = named-all_faulty (map f ws) (i + 1) (named_more f ws i d b ns lt e h ∙ k)
name_refused f ws i d b ns (Memory a) lt e h k = tt

-- all words are read
pub names_read : {W : Type 0} (f : W → List ℕ) (ws : List W) (i : ℕ) (ns : List ℕ) → length ws ≤ i → named (take i (map f ws)) ≡ Some ns → named (map f ws) ≡ Some ns
names_read f ws i ns ended h = ap named (sym (take_all i (map f ws) (let l = map_length f ws in omega arith))) ∙ h
