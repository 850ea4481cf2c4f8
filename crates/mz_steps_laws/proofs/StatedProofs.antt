-- What was stated derives.
use Rattle.std.proofs.Common.{◌≡◌, ◌<◌, ℕ, zero, suc, List, [], ◌∷◌, ◌++◌, map, refl, sym, ap, ◌∙◌, subst, arith, append_assoc, Option, Some, None}
use Rattle.std.specs.Prelude.{Contains, flat_map}
use Rattle.std.proofs.lemmas.List.{map-append}
use Rattle.mz_logic.specs.Formula.{Formula}
use Rattle.mz_logic.specs.Literal.{literal_formula}
use Rattle.mz_logic.specs.Derives.{Derives}
use Rattle.mz_logic.proofs.Each.{Each, Along, each_itself, each_append, each_left, each_right, each_more, each_none, each_along, along_each, along_append}
use Rattle.mz_core.specs.Statement.{Statement}
use Rattle.mz_core.specs.Parts.{conjunction}
use Rattle.mz_core.specs.Erasure.{erase}
use Rattle.mz_context.specs.Changes.{labelled}
use Rattle.mz_context.specs.declared.context.Context.{Context}
use Rattle.mz_context.specs.declared.labelled.LabelledStatement.{LabelledStatement}
use Rattle.mz_items.specs.SchemeRows.{letter_types}
use Rattle.mz_thesis_laws.proofs.StatementProofs.{conjunction_in}
use Rattle.mz_steps.specs.Changes.{statement_of, joined_by, label_of, with_stated}
use Rattle.mz_steps_laws.specs.Facts.{known_from, just_before, letter_of, statements_in, facts}
use Rattle.mz_steps_laws.specs.StepLaws.{StatedLaw}

-- lists of statements each of which derives
both_derive : (ax h : List Formula) (ss ts : List Statement) → Each ax h (map erase ss) → Each ax h (map erase ts) → Each ax h (map erase (ss ++ ts))
both_derive ax h ss ts p q = subst (Each ax h) (sym (map-append erase ss ts)) (each_append ax h (map erase ss) (map erase ts) p q)

first_derive : (ax h : List Formula) (ss ts : List Statement) → Each ax h (map erase (ss ++ ts)) → Each ax h (map erase ss)
first_derive ax h ss ts p = each_left ax h (map erase ss) (map erase ts) (subst (Each ax h) (map-append erase ss ts) p)

last_derive : (ax h : List Formula) (ss ts : List Statement) → Each ax h (map erase (ss ++ ts)) → Each ax h (map erase ts)
last_derive ax h ss ts p = each_right ax h (map erase ss) (map erase ts) (subst (Each ax h) (map-append erase ss ts) p)

-- the propositions
each_stated : (ax h : List Formula) (ps : List LabelledStatement) → ((p : LabelledStatement) → Contains ps p → Derives ax h (erase (statement_of p))) → Along ax h (map erase (map statement_of ps))
each_stated ax h [] each = tt
each_stated ax h (p ∷ ps) each = (each p (0, omega arith, refl), each_stated ax h ps (λ q m. each q (suc m.0, omega (arith, m.1), m.2)))

one_labelled : (ax h : List Formula) (label : List ℕ) (s : Statement) → Derives ax h (erase s) → Each ax h (map erase (map statement_of (labelled label s)))
one_labelled ax h [] s d = each_none ax h
one_labelled ax h (b ∷ bs) s d = each_more ax h (erase s) [] d (each_none ax h)

all_labelled : (ax h : List Formula) (ps : List LabelledStatement) → Along ax h (map erase (map statement_of ps)) → Each ax h (map erase (map statement_of (flat_map label_of ps)))
all_labelled ax h [] x = each_none ax h
all_labelled ax h (p ∷ ps) x =
    subst (λ ss. Each ax h (map erase ss)) (sym (map-append statement_of (label_of p) (flat_map label_of ps)))
    (both_derive ax h (map statement_of (label_of p)) (map statement_of (flat_map label_of ps)) (one_labelled ax h p.label p.statement x.0) (all_labelled ax h ps x.1))

joined_derives : (ax h : List Formula) (ps : List LabelledStatement) → Along ax h (map erase (map statement_of ps)) → Each ax h (map erase (just_before (joined_by ps)))
joined_derives ax h [] x = each_none ax h
joined_derives ax h (p ∷ ps) x = each_more ax h (erase (conjunction (map statement_of (p ∷ ps)))) [] (conjunction_in ax h (map statement_of (p ∷ ps)) x) (each_none ax h)

pub stated_law : StatedLaw
stated_law ax h c ps old each =
    let known : List Formula = map literal_formula (known_from 1 c.constants) in
    let labels : List Statement = map statement_of c.labelled in
    let more : List Statement = map statement_of (flat_map label_of ps) in
    let letters : List Statement = letter_types (map letter_of c.letters) in
    let x : Along ax h (map erase (map statement_of ps)) = each_stated ax h ps each in
    let rest : Each ax h (map erase (statements_in c)) = each_right ax h known (map erase (statements_in c)) old in
    let front : Each ax h (map erase (labels ++ just_before c.previous)) = first_derive ax h (labels ++ just_before c.previous) letters rest in
    let was : Each ax h (map erase labels) = first_derive ax h labels (just_before c.previous) front in
    let is : Each ax h (map erase (map statement_of (c.labelled ++ flat_map label_of ps))) =
    subst (λ ss. Each ax h (map erase ss)) (sym (map-append statement_of c.labelled (flat_map label_of ps))) (both_derive ax h labels more was (all_labelled ax h ps x)) in
    each_append ax h known (map erase (statements_in (with_stated c ps))) (each_left ax h known (map erase (statements_in c)) old)
    (both_derive ax h (map statement_of (c.labelled ++ flat_map label_of ps) ++ just_before (joined_by ps)) letters (both_derive ax h (map statement_of (c.labelled ++ flat_map label_of ps)) (just_before (joined_by ps)) is (joined_derives ax h ps x)) (last_derive ax h (labels ++ just_before c.previous) letters rest))
