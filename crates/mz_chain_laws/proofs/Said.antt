-- What a radix says of a term, at equal terms.
use Rattle.std.proofs.Common.{◌≡◌, ◌+◌, ℕ, List, [], ◌∷◌, ◌++◌, map, length, reverse, refl, sym, ap, ◌∙◌, subst, arith, Bool, true, false, append-nil}
use Rattle.std.specs.Prelude.{if◌then◌else◌}
use Rattle.std.specs.List.{list_all}
use Rattle.std.proofs.lemmas.Bool.{and_parts, and_from, false≢true}
use Rattle.std.proofs.lemmas.List.{map-append, reverse-append}
use Rattle.mz_logic.specs.declared.sym.Sym.{Sym}
use Rattle.mz_logic.specs.Term.{Term, App, terms_of}
use Rattle.mz_logic.specs.Formula as formula
use Rattle.mz_logic.specs.Formula.{Formula}
use Rattle.mz_logic.specs.Indices.{closed, is_below}
use Rattle.mz_logic.specs.Literal.{literal_formula}
use Rattle.mz_logic.specs.Substitution.{substitute, value_at}
use Rattle.mz_logic.specs.Equality.{AreEqual}
use Rattle.mz_logic.specs.Derives.{Derives}
use Rattle.mz_logic.specs.declared.literal.Literal.{Literal}
use Rattle.mz_logic.specs.declared.literal.Literal.TheVariants.{Atom}
use Rattle.mz_logic.proofs.Rules.{reflexive}
use Rattle.mz_logic.proofs.Connectives.{swapped}
use Rattle.mz_logic.proofs.Congruence.{atom_congruence}
use Rattle.mz_logic.proofs.ValueLaws.{is_below-values}
use Rattle.mz_logic.proofs.Each.{Along, along_left}
use Rattle.mz_core.specs.Closed.{term_under}
use Rattle.mz_core.specs.Hidden.{is_of_any_object}
use Rattle.mz_core.specs.Guard.{guard, guard_literals, radix_literals, adjective_literal}
use Rattle.mz_core.specs.declared.radix.Radix.{Radix}
use Rattle.mz_core.specs.declared.soft_type.SoftType.{SoftType}
use Rattle.mz_clause_laws.proofs.Valuations.{term_within}
use Rattle.mz_chain_laws.specs.ChainLaw.{as_type}

-- closed terms
pub closed_append : (xs ys : List Term) → list_all closed xs ≡ true → list_all closed ys ≡ true → list_all closed (xs ++ ys) ≡ true
closed_append [] ys h k = k
closed_append (x ∷ xs) ys h k =
    let both : (closed x ≡ true) × (list_all closed xs ≡ true) = and_parts (closed x) (list_all closed xs) h in
    and_from (closed x) (list_all closed (xs ++ ys)) both.0 (closed_append xs ys both.1 k)

pub closed_and : (xs : List Term) (t : Term) → list_all closed xs ≡ true → closed t ≡ true → list_all closed (xs ++ t ∷ []) ≡ true
closed_and xs t h k = closed_append xs (t ∷ []) h (and_from (closed t) true k refl)

pub closed_reverse : (xs : List Term) → list_all closed xs ≡ true → list_all closed (reverse xs) ≡ true
closed_reverse [] h = refl
closed_reverse (x ∷ xs) h =
    let both : (closed x ≡ true) × (list_all closed xs ≡ true) = and_parts (closed x) (list_all closed xs) h in
    subst (λ (ys : List Term). list_all closed ys ≡ true) (sym (reverse-append (x ∷ []) xs)) (closed_and (reverse xs) x (closed_reverse xs both.1) both.0)

-- terms under as many variables as there are closed values are closed at these
pub closed_at_values : (ts us : List Term) (n : ℕ) → list_all closed ts ≡ true → length ts ≡ n → list_all (term_under n) us ≡ true → list_all closed (map (substitute 0 (value_at ts)) us) ≡ true
closed_at_values ts [] n ct long h = refl
closed_at_values ts (u ∷ us) n ct long h =
    let both : (term_under n u ≡ true) × (list_all (term_under n) us ≡ true) = and_parts (term_under n u) (list_all (term_under n) us) h in
    let within : is_below (0 + length ts) u ≡ true = subst (λ m. is_below (0 + m) u ≡ true) (sym long) (term_within n u both.0) in
    and_from (closed (substitute 0 (value_at ts) u)) (list_all closed (map (substitute 0 (value_at ts)) us)) (is_below-values 0 ts u ct within) (closed_at_values ts us n ct long both.1)

-- equal terms
pub each_itself : (ax g : List Formula) (ts : List Term) → list_all closed ts ≡ true → AreEqual ax g ts ts
each_itself ax g [] h = tt
each_itself ax g (t ∷ ts) h =
    let both : (closed t ≡ true) × (list_all closed ts ≡ true) = and_parts (closed t) (list_all closed ts) h in
    (reflexive ax g t both.0, each_itself ax g ts both.1)

pub equal_and : (ax g : List Formula) (ts us : List Term) (t u : Term) → AreEqual ax g ts us → Derives ax g (formula.Eq t u) → AreEqual ax g (ts ++ t ∷ []) (us ++ u ∷ [])
equal_and ax g [] [] t u h e = (e, tt)
equal_and ax g [] (v ∷ us) t u h e = absurd h
equal_and ax g (v ∷ ts) [] t u h e = absurd h
equal_and ax g (v ∷ ts) (w ∷ us) t u h e = (h.0, equal_and ax g ts us t u h.1 e)

pub equal_swapped : (ax g : List Formula) (ts us : List Term) → list_all closed ts ≡ true → list_all closed us ≡ true → AreEqual ax g ts us → AreEqual ax g us ts
equal_swapped ax g [] [] ct cu h = tt
equal_swapped ax g [] (u ∷ us) ct cu h = absurd h
equal_swapped ax g (t ∷ ts) [] ct cu h = absurd h
equal_swapped ax g (t ∷ ts) (u ∷ us) ct cu h =
    let a : (closed t ≡ true) × (list_all closed ts ≡ true) = and_parts (closed t) (list_all closed ts) ct in
    let b : (closed u ≡ true) × (list_all closed us ≡ true) = and_parts (closed u) (list_all closed us) cu in
    (swapped ax g t u a.0 b.0 h.0, equal_swapped ax g ts us a.1 b.1 h.1)

-- the atom of a radix, where there is one
abbrev pub Said : List Formula → List Formula → Bool → Sym → List Term → Type 0
Said ax g b s us = Along ax g (map literal_formula (if b then [] else Atom true s us ∷ []))

said_moved : (ax g : List Formula) (b : Bool) (s : Sym) (us ws : List Term) → list_all closed us ≡ true → list_all closed ws ≡ true → AreEqual ax g us ws → Said ax g b s us → Said ax g b s ws
said_moved ax g true s us ws cu cw e a = tt
said_moved ax g false s us ws cu cw e a = (atom_congruence ax g s us ws cu cw e a.0, tt)

said_atom : (ax g : List Formula) (b : Bool) (s : Sym) (us : List Term) → Derives ax g (formula.Atom s us) → Said ax g b s us
said_atom ax g true s us d = tt
said_atom ax g false s us d = (d, tt)

atom_said : (ax g : List Formula) (b : Bool) (s : Sym) (us : List Term) → b ≡ false → Said ax g b s us → Derives ax g (formula.Atom s us)
atom_said ax g true s us e a = absurd (false≢true (sym e))
atom_said ax g false s us e a = a.0

-- a radix of a term: its arguments are closed, and its guard derives
pub record Holds (ax g : List Formula) (t : Term) (r : Radix) : Type 0 where
  pub arguments : list_all closed r.args ≡ true
  pub guards : Along ax g (guard (as_type r) t)

to_said : (ax g : List Formula) (r : Radix) (t : Term) → Along ax g (guard (as_type r) t) → Said ax g (is_of_any_object r.sym) r.sym (r.args ++ t ∷ [])
to_said ax g r t a = subst (λ (ls : List Literal). Along ax g (map literal_formula ls)) (append-nil (radix_literals r t)) a

from_said : (ax g : List Formula) (r : Radix) (t : Term) → Said ax g (is_of_any_object r.sym) r.sym (r.args ++ t ∷ []) → Along ax g (guard (as_type r) t)
from_said ax g r t a = subst (λ (ls : List Literal). Along ax g (map literal_formula ls)) (sym (append-nil (radix_literals r t))) a

-- what holds of a type's term holds of its radix
pub radix_part : (ax g : List Formula) (ty : SoftType) (t : Term) → Along ax g (guard ty t) → Along ax g (guard (as_type ty.radix) t)
radix_part ax g ty t a =
    from_said ax g ty.radix t (along_left ax g (map literal_formula (radix_literals ty.radix t)) (map literal_formula (map (adjective_literal t) ty.adjectives))
    (subst (Along ax g) (map-append literal_formula (radix_literals ty.radix t) (map (adjective_literal t) ty.adjectives)) a))

-- the same radix at an equal term
pub at_equal : (ax g : List Formula) (r : Radix) (t u : Term) → closed t ≡ true → closed u ≡ true → Derives ax g (formula.Eq t u) → Holds ax g t r → Holds ax g u r
at_equal ax g r t u ct cu e h = record {
  arguments = h.arguments;
  guards = from_said ax g r u (said_moved ax g (is_of_any_object r.sym) r.sym (r.args ++ t ∷ []) (r.args ++ u ∷ []) (closed_and r.args t h.arguments ct) (closed_and r.args u h.arguments cu) (equal_and ax g r.args r.args t u (each_itself ax g r.args h.arguments) e) (to_said ax g r t h.guards));
}

-- equal arguments of the same symbol at the same term
pub with_equal : (ax g : List Formula) (q r : Radix) (t : Term) → q.sym ≡ r.sym → list_all closed r.args ≡ true → closed t ≡ true → AreEqual ax g q.args r.args → Holds ax g t q → Holds ax g t r
with_equal ax g q r t es cr ct e h =
    let here : Said ax g (is_of_any_object r.sym) r.sym (q.args ++ t ∷ []) = subst (λ (s : Sym). Said ax g (is_of_any_object s) s (q.args ++ t ∷ [])) es (to_said ax g q t h.guards) in
    record {
      arguments = cr;
      guards = from_said ax g r t (said_moved ax g (is_of_any_object r.sym) r.sym (q.args ++ t ∷ []) (r.args ++ t ∷ []) (closed_and q.args t h.arguments ct) (closed_and r.args t cr ct) (equal_and ax g q.args r.args t t e (reflexive ax g t ct)) here);
    }

-- a radix whose symbol is none of any object says its atom
pub atom_of : (ax g : List Formula) (r : Radix) (t : Term) → is_of_any_object r.sym ≡ false → Holds ax g t r → Derives ax g (formula.Atom r.sym (r.args ++ t ∷ []))
atom_of ax g r t e h = atom_said ax g (is_of_any_object r.sym) r.sym (r.args ++ t ∷ []) e (to_said ax g r t h.guards)

pub of_atom : (ax g : List Formula) (r : Radix) (t : Term) → list_all closed r.args ≡ true → Derives ax g (formula.Atom r.sym (r.args ++ t ∷ [])) → Holds ax g t r
of_atom ax g r t cr d = record { arguments = cr; guards = from_said ax g r t (said_atom ax g (is_of_any_object r.sym) r.sym (r.args ++ t ∷ []) d) }

-- each radix of a list
abbrev pub AllHold : List Formula → List Formula → Term → List Radix → Type 0
AllHold ax g t [] = Unit {0}
AllHold ax g t (r ∷ rs) = Holds ax g t r × AllHold ax g t rs

pub all_append : (ax g : List Formula) (t : Term) (rs qs : List Radix) → AllHold ax g t rs → AllHold ax g t qs → AllHold ax g t (rs ++ qs)
all_append ax g t [] qs h k = k
all_append ax g t (r ∷ rs) qs h k = (h.0, all_append ax g t rs qs h.1 k)

pub all_reverse : (ax g : List Formula) (t : Term) (rs : List Radix) → AllHold ax g t rs → AllHold ax g t (reverse rs)
all_reverse ax g t [] h = tt
all_reverse ax g t (r ∷ rs) h = subst (AllHold ax g t) (sym (reverse-append (r ∷ []) rs)) (all_append ax g t (reverse rs) (r ∷ []) (all_reverse ax g t rs h.1) (h.0, tt))
