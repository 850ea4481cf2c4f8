-- What the reading of loci tells.
use Rattle.std.proofs.Common.{◌≡◌, ℕ, List, [], sym, subst}
use Rattle.std.specs.Prelude.{Result, Ok, Err, IfOk}
use Rattle.mz_names.specs.declared.refusal.Refusal.{Refusal}
use Rattle.mz_names.specs.declared.variable.Variable.{Variable}
use Rattle.mz_parts.specs.Declarations.{DeclarationsRead}
use Rattle.mz_resolve.specs.Answers.{OnRead}
use Rattle.mz_resolve.specs.declared.resolve_fault.ResolveFault.{ResolveFault}
use Rattle.mz_resolve.specs.declared.resolve_fault.ResolveFault.TheVariants.{Refused, Memory}
use Rattle.mz_standing.specs.declared.standing.Standing.{Standing}
use Rattle.mz_taken.specs.Taken as taken
use Rattle.mz_taken.specs.Answers.{OnTaken, Leads, of_reading}
use Rattle.mz_taken.specs.declared.item_fault.ItemFault.{ItemFault}
use Rattle.mz_tree_part.specs.declared.notation.BlockLetTree.{BlockLetTree}
use Rattle.mz_let.specs.Lets.{Lets, not_declared, declared, with_loci}

abbrev pub LociRead : ℕ → Standing → BlockLetTree → Standing → Result (List Variable) Refusal → Type 0
LociRead least s t u o = DeclarationsRead s.environment s.context least s.left t.declarations o u.left

refused_so : (least : ℕ) (s u v : Standing) (t : BlockLetTree) (f : ResolveFault) → OnRead {X = List Variable} (Err f) (LociRead least s t u) → OnTaken {X = Unit {0}} (Err (of_reading f)) (Leads (Lets least s t) v)
refused_so least s u v t (Refused r) h = not_declared r u.left h
refused_so least s u v t Memory h = tt

pub told_refused : (least : ℕ) (s u v : Standing) (t : BlockLetTree) (x : Result (List Variable) ResolveFault) (f : ResolveFault) (k : ItemFault) → x ≡ Err f → k ≡ of_reading f → OnRead x (LociRead least s t u) → OnTaken {X = Unit {0}} (Err k) (Leads (Lets least s t) v)
told_refused least s u v t x f k e ek h = subst (λ y. OnTaken {X = Unit {0}} (Err y) (Leads (Lets least s t) v)) (sym ek) (refused_so least s u v t f (subst (λ y. OnRead y (LociRead least s t u)) e h))

pub told_declared : (least : ℕ) (s u : Standing) (t : BlockLetTree) (x : Result (List Variable) ResolveFault) (vs : List Variable) → x ≡ Ok vs → OnRead x (LociRead least s t u) → IfOk x (λ ws. u ≡ with_loci s ws u.left) → Lets least s t (taken.Made [] u)
told_declared least s u t x vs e h same =
    subst (λ w. Lets least s t (taken.Made [] w)) (sym (subst (λ y. IfOk y (λ ws. u ≡ with_loci s ws u.left)) e same))
    (declared vs u.left (subst (λ y. OnRead y (LociRead least s t u)) e h))
