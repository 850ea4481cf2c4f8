-- What the code of changes tells.
use Rattle.std.proofs.Common.{◌≡◌, List, ◌++◌, append_assoc, sym, ap, ◌∙◌}
use Rattle.mz_ground.specs.declared.clause.Clause.{Clause}

-- three groups, one after another
pub three_groups : (old one two new a b c : List Clause) → one ≡ old ++ a → two ≡ one ++ b → new ≡ two ++ c → new ≡ old ++ ((a ++ b) ++ c)
three_groups old one two new a b c e f g =
    g ∙ ap (λ xs. xs ++ c) (f ∙ ap (λ xs. xs ++ b) e ∙ append_assoc old a b) ∙ append_assoc old (a ++ b) c
