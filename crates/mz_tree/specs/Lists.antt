-- Lists with commas: their spelling, their levels, and the rules on their members.
use Rattle.std.specs.Prelude.{◌≡◌, ℕ, suc, Bool, List, [], ◌∷◌, ◌++◌, length}
use Rattle.std.specs.List.{flat_map}
use Rattle.std.proofs.Common.{ap}
use Rattle.mz_forms.specs.Form.{each_append}
use Rattle.mz_base.specs.declared.token.MarkedToken.{MarkedToken}
use Rattle.mz_tree.specs.Spelled.{comma_token}
use Rattle.mz_tree.specs.Levels.{each_flat}
use Rattle.mz_tree.specs.Rules.{DividesAfter, Every}
use Rattle.mz_tree.specs.declared.chain.Next.{Next}
use Rattle.mz_tree.specs.declared.word.Comma.{Comma}
use Rattle.mz_tree.specs.declared.lists.Separated.{Separated}

-- a tree behind a comma
abbrev pub spell_next : {X : Type 0} → (X → List MarkedToken) → Next Comma X → List MarkedToken
spell_next f a = comma_token a.sign ∷ f a.tree

-- trees with commas between them
abbrev pub spell_separated : {X : Type 0} → (X → List MarkedToken) → Separated X → List MarkedToken
spell_separated f a = f a.first ++ flat_map (spell_next f) a.more

abbrev pub levels_next : {X : Type 0} → (X → List ℕ) → Next Comma X → List ℕ
levels_next f a = 0 ∷ f a.tree

abbrev pub levels_separated : {X : Type 0} → (X → List ℕ) → Separated X → List ℕ
levels_separated f a = f a.first ++ flat_map (levels_next f) a.more

pub each_next : {X : Type 0} (l : X → List ℕ) (s : X → List MarkedToken) → ((x : X) → length (l x) ≡ length (s x)) → (a : Next Comma X) → length (levels_next l a) ≡ length (spell_next s a)
each_next l s e a = ap suc (e a.tree)

pub each_separated : {X : Type 0} (l : X → List ℕ) (s : X → List MarkedToken) → ((x : X) → length (l x) ≡ length (s x)) → (a : Separated X) → length (levels_separated l a) ≡ length (spell_separated s a)
each_separated l s e a = each_append (l a.first) (flat_map (levels_next l) a.more) (s a.first) (flat_map (spell_next s) a.more) (e a.first) (each_flat (levels_next l) (spell_next s) (each_next l s e) a.more)

abbrev pub IsNext : {X : Type 0} → (X → Type 0) → Next Comma X → Type 0
IsNext Is a = Is a.tree

abbrev pub AreSeparated : {X : Type 0} → (X → Type 0) → Separated X → Type 0
AreSeparated Is a = Is a.first × Every (IsNext Is) a.more

-- Where the last of them ends in a list of terms, the comma before the next is a dividing one.
abbrev pub AreBehind : {X : Type 0} → (X → Type 0) → (X → Bool) → Bool → List (Next Comma X) → Type 0
AreBehind Is ends b [] = Unit {0}
AreBehind Is ends b (a ∷ rest) = DividesAfter b a.sign × Is a.tree × AreBehind Is ends (ends a.tree) rest

abbrev pub AreDivided : {X : Type 0} → (X → Type 0) → (X → Bool) → Separated X → Type 0
AreDivided Is ends a = Is a.first × AreBehind Is ends (ends a.first) a.more
