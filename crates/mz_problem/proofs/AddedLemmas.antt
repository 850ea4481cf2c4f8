-- What the code of definientia tells.
use Rattle.std.proofs.Common.{◌≡◌, ◌<◌, ◌+◌, ℕ, zero, suc, List, [], ◌∷◌, ◌++◌, refl, sym, ap, ◌∙◌, subst, Bool, true, false, arith, append_assoc, length, take, get_or, Option, Some, None}
use Rattle.std.proofs.lemmas.List.{append-nil}
use Rattle.std.proofs.lemmas.Bool.{false≢true}
use Rattle.mz_logic.specs.declared.sym.Sym.{Sym}
use Rattle.mz_logic.specs.Term.{Term}
use Rattle.mz_core.specs.Statement.{Statement, Truth, Eq, Atom, Not, And, For}
use Rattle.mz_core.specs.StatementForms.{opposite}
use Rattle.mz_core.specs.TypeStatements.{signed}
use Rattle.mz_context.specs.declared.constants.Constant.{Constant}
use Rattle.mz_ground.specs.declared.clause.Clause.{Clause}
use Rattle.mz_environment.specs.declared.unfoldings.Unfolding.{Unfolding}
use Rattle.mz_thesis.specs.Unfolding.{UnfoldsTo}
use Rattle.mz_problem.specs.Definientia as definientia
use Rattle.mz_problem.specs.Definientia.{is_atom, is_signed_atom, Adds, AllAdd}

-- what was added behind the others
abbrev pub IsAdded : List Clause → List (Option Constant) → List Unfolding → Statement → List Statement → List Statement → Type 0
IsAdded cs ks us s old new = (ds : List Statement) × Adds cs ks us s ds × (new ≡ old ++ ds)

pub told_nothing : (cs : List Clause) (ks : List (Option Constant)) (us : List Unfolding) (b : Bool) (s : Statement) (old : List Statement) (o : Option Statement) → is_atom s ≡ true → UnfoldsTo cs ks us s o → o ≡ None → IsAdded cs ks us (signed b s) old old
told_nothing cs ks us b Truth old o h u e = absurd (false≢true h)
told_nothing cs ks us b (Eq t v) old o h u e = absurd (false≢true h)
told_nothing cs ks us true (Atom s ts) old o h u e = ([], definientia.nothing s ts (subst (UnfoldsTo cs ks us (Atom s ts)) e u), sym (append-nil old))
told_nothing cs ks us false (Atom s ts) old o h u e = ([], definientia.nothing_negated s ts (subst (UnfoldsTo cs ks us (Atom s ts)) e u), sym (append-nil old))
told_nothing cs ks us b (Not s) old o h u e = absurd (false≢true h)
told_nothing cs ks us b (And s t) old o h u e = absurd (false≢true h)
told_nothing cs ks us b (For ty s) old o h u e = absurd (false≢true h)

pub told_definiens : (cs : List Clause) (ks : List (Option Constant)) (us : List Unfolding) (b : Bool) (s d : Statement) (old new : List Statement) (o : Option Statement) → b ≡ true → is_atom s ≡ true → UnfoldsTo cs ks us s o → o ≡ Some d → new ≡ old ++ d ∷ [] → IsAdded cs ks us (signed b s) old new
told_definiens cs ks us b Truth d old new o eb h u e en = absurd (false≢true h)
told_definiens cs ks us b (Eq t v) d old new o eb h u e en = absurd (false≢true h)
told_definiens cs ks us b (Atom s ts) d old new o eb h u e en =
    subst (λ x. IsAdded cs ks us (signed x (Atom s ts)) old new) (sym eb) (d ∷ [], definientia.definiens s ts d (subst (UnfoldsTo cs ks us (Atom s ts)) e u), en)
told_definiens cs ks us b (Not s) d old new o eb h u e en = absurd (false≢true h)
told_definiens cs ks us b (And s t) d old new o eb h u e en = absurd (false≢true h)
told_definiens cs ks us b (For ty s) d old new o eb h u e en = absurd (false≢true h)

pub told_negated : (cs : List Clause) (ks : List (Option Constant)) (us : List Unfolding) (b : Bool) (s d n : Statement) (old new : List Statement) (o : Option Statement) → b ≡ false → is_atom s ≡ true → UnfoldsTo cs ks us s o → o ≡ Some d → n ≡ opposite d → new ≡ old ++ n ∷ [] → IsAdded cs ks us (signed b s) old new
told_negated cs ks us b Truth d n old new o eb h u e ed en = absurd (false≢true h)
told_negated cs ks us b (Eq t v) d n old new o eb h u e ed en = absurd (false≢true h)
told_negated cs ks us b (Atom s ts) d n old new o eb h u e ed en =
    subst (λ x. IsAdded cs ks us (signed x (Atom s ts)) old new) (sym eb) (opposite d ∷ [], definientia.negated_definiens s ts d (subst (UnfoldsTo cs ks us (Atom s ts)) e u), en ∙ ap (λ x. old ++ x ∷ []) ed)
told_negated cs ks us b (Not s) d n old new o eb h u e ed en = absurd (false≢true h)
told_negated cs ks us b (And s t) d n old new o eb h u e ed en = absurd (false≢true h)
told_negated cs ks us b (For ty s) d n old new o eb h u e ed en = absurd (false≢true h)

pub ruleset sign_rules = (told_nothing, told_definiens, told_negated)

pub told_other : (cs : List Clause) (ks : List (Option Constant)) (us : List Unfolding) (s : Statement) (old : List Statement) → is_signed_atom s ≡ false → IsAdded cs ks us s old old
told_other cs ks us s old h = ([], definientia.other s h, sym (append-nil old))

pub ruleset part_rules = (told_other)

-- parts in their order
one_part_more : (cs : List Clause) (ks : List (Option Constant)) (us : List Unfolding) (ss ds es : List Statement) (s : Statement) → AllAdd cs ks us ss ds → Adds cs ks us s es → AllAdd cs ks us (ss ++ s ∷ []) (ds ++ es)
one_part_more cs ks us ss ds es s definientia.no_parts h = subst (AllAdd cs ks us (s ∷ [])) (append-nil es) (definientia.and_part s [] es [] h definientia.no_parts)
one_part_more cs ks us ss ds es s (definientia.and_part q qs us' vs a rest) h =
    subst (AllAdd cs ks us (q ∷ (qs ++ s ∷ []))) (sym (append_assoc us' vs es)) (definientia.and_part q (qs ++ s ∷ []) us' (vs ++ es) a (one_part_more cs ks us qs vs es s rest h))

taken : (ss : List Statement) (i : ℕ) (s : Statement) → i < length ss → s ≡ get_or ss i s → take (i + 1) ss ≡ take i ss ++ s ∷ []
taken ss i s lt at = let e : (i + 1) ≡ suc i = omega arith in ap (λ n. take n ss) e ∙ inner ss i lt at
  where
    inner : (qs : List Statement) (k : ℕ) → k < length qs → s ≡ get_or qs k s → take (suc k) qs ≡ take k qs ++ s ∷ []
    inner [] k l a = absurd (omega (arith, l))
    inner (q ∷ qs) zero l a = ap (λ x. x ∷ []) (sym a)
    inner (q ∷ qs) (suc k) l a = ap (λ xs. q ∷ xs) (inner qs k (omega (arith, l)) a)

pub told_turn : (cs : List Clause) (ks : List (Option Constant)) (us : List Unfolding) (ss : List Statement) (i : ℕ) (s : Statement) (old new : List Statement) → i < length ss → s ≡ get_or ss i s → AllAdd cs ks us (take i ss) old → IsAdded cs ks us s old new → AllAdd cs ks us (take (i + 1) ss) new
told_turn cs ks us ss i s old new lt at so h =
    subst (λ qs. AllAdd cs ks us qs new) (sym (taken ss i s lt at)) (subst (AllAdd cs ks us (take i ss ++ s ∷ [])) (sym h.2) (one_part_more cs ks us (take i ss) old h.0 s so h.1))

pub told_none_added : (cs : List Clause) (ks : List (Option Constant)) (us : List Unfolding) (ss out : List Statement) → out ≡ [] → AllAdd cs ks us (take 0 ss) out
told_none_added cs ks us [] out e = subst (AllAdd cs ks us []) (sym e) definientia.no_parts
told_none_added cs ks us (s ∷ ss) out e = subst (AllAdd cs ks us []) (sym e) definientia.no_parts

pub ruleset all_rules = (told_turn)
