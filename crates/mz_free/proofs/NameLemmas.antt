-- The names that declarations declare.
use Rattle.std.proofs.Common.{◌≡◌, ◌≤◌, ℕ, List, ◌∷◌, sym, ap, ◌∙◌, map, length, take}
use Rattle.std.proofs.lemmas.List.{take_all}
use Rattle.mz_tree.specs.Views.{next_declared_of}
use Rattle.mz_tree.specs.Trees.{next_declareds_of}
use Rattle.mz_tree.specs.declared.chain.Next.{Next}
use Rattle.mz_tree.specs.declared.word.Comma.{Comma}
use Rattle.mz_tree.specs.declared.nodes.DeclaredNode.{DeclaredNode}
use Rattle.mz_free.specs.Occurring.{next_names}
use Rattle.mz_free.proofs.OccurringLemmas.{next_name, next_names-next_declareds_of}

-- what declarations declare
pub told_names : (out : List (List ℕ)) (d : List ℕ) (items xs : List (Next Comma DeclaredNode)) (i : ℕ) → xs ≡ items → length xs ≤ i → out ≡ d ∷ map next_name (map next_declared_of (take i xs)) → out ≡ d ∷ next_names (next_declareds_of (map next_declared_of items))
told_names out d items xs i ex le e = e ∙ ap (λ zs. d ∷ map next_name (map next_declared_of zs)) (take_all i xs le ∙ ex) ∙ ap (λ z. d ∷ z) (sym (next_names-next_declareds_of (map next_declared_of items)))
