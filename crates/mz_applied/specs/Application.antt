-- Symbols applied to arguments. What has no left side has its arguments on the right.
use Rattle.std.specs.Prelude.{ℕ, List, [], ◌∷◌}
use Rattle.mz_logic.specs.declared.kind.Kind.{Kind}
use Rattle.mz_logic.specs.declared.kind.Kind.TheVariants.{Attribute}
use Rattle.mz_logic.specs.Term.{Term}
use Rattle.mz_choice.specs.declared.choice.Applied.{Applied}

-- a symbol of the kind, with arguments on both sides
abbrev pub application : Kind → List ℕ → List Term → List Term → Applied
application kind symbol left right = record { symbol = symbol; closing = []; kind = kind; left = left; right = right }

-- brackets around arguments
abbrev pub bracketed : Kind → List ℕ → List ℕ → List Term → Applied
bracketed kind symbol closing ts = record { symbol = symbol; closing = closing; kind = kind; left = []; right = ts }

-- the attribute with arguments before it, of the subject
abbrev pub attribute_of : List ℕ → List Term → Term → Applied
attribute_of symbol ts t = application Attribute symbol ts (t ∷ [])
