-- What an expression that is part of no other is read to, and what the article has left behind it, is determined.
use Rattle.std.proofs.Common.{◌≡◌, ◌<◌, ◌≤◌, ◌⊎◌, inl, inr, ℕ, refl, sym, ◌∙◌, subst, arith, Option, Some}
use Rattle.std.specs.Prelude.{Result, Ok, Err}
use Rattle.mz_base.specs.declared.place.Place.{Place}
use Rattle.mz_ground.specs.Instance.{term_nodes}
use Rattle.mz_core.specs.declared.outcome.Left.{Left}
use Rattle.mz_names.specs.declared.refusal.Refusal.{Refusal}
use Rattle.mz_names.specs.declared.refusal.Refusal.TheVariants.{TooLarge}
use Rattle.mz_sizes.specs.Sizes.{type_nodes, statement_nodes}
use Rattle.mz_tree.specs.Places.{first_place}
use Rattle.mz_tree.specs.Spell.{spell_term, spell_type, spell_formula}
use Rattle.mz_terms.specs.Terms.{ReadsTerm}
use Rattle.mz_terms.specs.Types.{ReadsType}
use Rattle.mz_terms.proofs.OneTerm.{one_term, one_list}
use Rattle.mz_terms.proofs.OneType.{one_own, one_type}
use Rattle.mz_formulas.specs.Formulas.{ReadsFormula}
use Rattle.mz_formulas.specs.Sentences.{ReadsSentence}
use Rattle.mz_formula_laws.proofs.OneAtom.{Determined}
use Rattle.mz_formula_laws.proofs.OneFormula.{one_formula, one_sentence}
use Rattle.mz_resolve.specs.Calls as ca
use Rattle.mz_resolve.specs.Calls.{Counted, sentence_nodes}
use Rattle.mz_resolve.specs.Spending.{spent}
use Rattle.mz_justified_laws.specs.Determined.{AtMostOne, SameLeft, IsDetermined}
use Rattle.mz_parts_laws.specs.Laws.{OneTermReadLaw, OneTypeReadLaw, OneFormulaReadLaw, OneSentenceReadLaw}

-- what is read has more nodes than are left, or they are spent
abbrev IsBeyond : {X : Type 0} → (X → ℕ) → Option Place → Left → X → Result X Refusal → Type 0
IsBeyond nodes place left x o = (first : Place) × (place ≡ Some first) × (left.nodes < nodes x) × (o ≡ Err (TooLarge first))

abbrev IsCounted : {X : Type 0} → (X → ℕ) → Left → X → Result X Refusal → Left → Type 0
IsCounted nodes left x o a = (nodes x ≤ left.nodes) × (o ≡ Ok x) × (a ≡ spent left (nodes x))

abbrev CountedNext : {X : Type 0} → (X → ℕ) → Option Place → Left → Result X Refusal → Result X Refusal → Left → Type 0
CountedNext nodes place left (Err r) o a = o ≡ Err r
CountedNext nodes place left (Ok x) o a = IsBeyond nodes place left x o ⊎ IsCounted nodes left x o a

abbrev CountedAs : {X : Type 0} → (Result X Refusal → Type 0) → (X → ℕ) → Option Place → Left → Result X Refusal → Left → Type 0
CountedAs {X} reads nodes place left o a = (q : Result X Refusal) × reads q × CountedNext nodes place left q o a

counted_as : {X : Type 0} (reads : Result X Refusal → Type 0) (nodes : X → ℕ) (place : Option Place) (left : Left) (o : Result X Refusal) (a : Left) → Counted reads nodes place left o a → CountedAs reads nodes place left o a
counted_as reads nodes place left o a (ca.not_read r _ h) = (Err r, h, refl)
counted_as reads nodes place left o a (ca.beyond x f _ h i j) = (Ok x, h, inl (f, i, j, refl))
counted_as reads nodes place left o a (ca.counted x h j) = (Ok x, h, inr (j, refl, refl))

some-inj : (o : Option Place) (p q : Place) → o ≡ Some p → o ≡ Some q → p ≡ q
some-inj o p q h k = cc

counts_apart : (n m : ℕ) → n < m → m ≤ n → ⊥
counts_apart n m h k = omega (arith, h, k)

same_left : {X : Type 0} (o : Result X Refusal) (a b : Left) → a ≡ b → SameLeft o a b
same_left (Ok x) a b e = e
same_left (Err r) a b e = tt

any_left : {X : Type 0} (o : Result X Refusal) (r : Refusal) (a b : Left) → o ≡ Err r → SameLeft o a b
any_left {X} o r a b e = subst (λ (z : Result X Refusal). SameLeft z a b) (sym e) tt

both_beyond : {X : Type 0} (nodes : X → ℕ) (place : Option Place) (left : Left) (x : X) (o p : Result X Refusal) (a b : Left) → IsBeyond nodes place left x o → IsBeyond nodes place left x p → (o ≡ p) × SameLeft o a b
both_beyond {X} nodes place left x o p a b h k =
    (subst (λ (z : Place). o ≡ Err (TooLarge z)) (some-inj place h.0 k.0 h.1 k.1) h.3 ∙ sym k.3, any_left o (TooLarge h.0) a b h.3)

counted_once : {X : Type 0} (nodes : X → ℕ) (place : Option Place) (left : Left) (q : Result X Refusal) (o p : Result X Refusal) (a b : Left) → CountedNext nodes place left q o a → CountedNext nodes place left q p b → (o ≡ p) × SameLeft o a b
counted_once nodes place left (Err r) o p a b h k = (h ∙ sym k, any_left o r a b h)
counted_once nodes place left (Ok x) o p a b (inl h) (inl k) = both_beyond nodes place left x o p a b h k
counted_once nodes place left (Ok x) o p a b (inl h) (inr k) = absurd (counts_apart left.nodes (nodes x) h.2 k.0)
counted_once nodes place left (Ok x) o p a b (inr h) (inl k) = absurd (counts_apart left.nodes (nodes x) k.2 h.0)
counted_once nodes place left (Ok x) o p a b (inr h) (inr k) = (h.1 ∙ sym k.1, same_left o a b (h.2 ∙ sym k.2))

one_counted : {X : Type 0} (reads : Result X Refusal → Type 0) (nodes : X → ℕ) (place : Option Place) (left : Left) → AtMostOne reads → IsDetermined (Counted reads nodes place left)
one_counted {X} reads nodes place left one o p a b h k =
    let x : CountedAs reads nodes place left o a = counted_as reads nodes place left o a h in
    let y : CountedAs reads nodes place left p b = counted_as reads nodes place left p b k in
    counted_once nodes place left x.0 o p a b x.2 (subst (λ (z : Result X Refusal). CountedNext nodes place left z p b) (sym (one x.0 y.0 x.1 y.1)) y.2)

-- what terms, types and adjectives' arguments are read to is determined
determined : Determined
determined =
    record {
      term = λ e c least t o p h k. one_term e c least t o h p k;
      terms = λ e c least t o p h k. one_list e c least t o h p k;
      own = one_own;
      ty = one_type;
    }

pub one_term_read : OneTermReadLaw
one_term_read e c least left t = one_counted (ReadsTerm e c least t) term_nodes (first_place (spell_term t)) left (λ o p h k. one_term e c least t o h p k)

pub one_type_read : OneTypeReadLaw
one_type_read e c least left t = one_counted (ReadsType e c least t) type_nodes (first_place (spell_type t)) left (one_type e c least t)

pub one_formula_read : OneFormulaReadLaw
one_formula_read e c least left f = one_counted (ReadsFormula e least c f) statement_nodes (first_place (spell_formula f)) left (λ o p h k. one_formula determined e least c f o h p k)

pub one_sentence_read : OneSentenceReadLaw
one_sentence_read e c least left f = one_counted (ReadsSentence e least c f) sentence_nodes (first_place (spell_formula f)) left (one_sentence determined e least c f)
